use Rattle.std.proofs.Common.{◌≡◌, ◌∙◌, ap, sym}
use Rattle.jsh_lines.specs.declared.edge.Edge.TheVariants.{Blank}
use Rattle.jsh_lines.specs.Edges.{behind_front}
use Rattle.jsh_cut.specs.Commands.{begins_command}
use Rattle.jsh_cut.proofs.Slashes.{by_letter, by_other, without}
use Rattle.jsh_cut.proofs.line.is_slash_line.Goals as goal

pub returns-then-is_ascii_alphabetic : goal.returns-then-is_ascii_alphabetic
returns-then-is_ascii_alphabetic c =
    let bytes = c.as_bytes.result.now in
    let e : bytes ≡ behind_front Blank c.args.line.now = c.as_bytes.ensures.value ∙ c.behind_front.ensures in
    c.if-is_ascii_alphabetic.true
    ∙ sym (by_letter bytes c.in-len2-up.len_at_least c.if-first-eq47.true (sym c.is_ascii_alphabetic.ensures.value ∙ c.if-is_ascii_alphabetic.true)) ∙ ap begins_command e

pub returns-else-is_ascii_alphabetic : goal.returns-else-is_ascii_alphabetic
returns-else-is_ascii_alphabetic c =
    let bytes = c.as_bytes.result.now in
    let e : bytes ≡ behind_front Blank c.args.line.now = c.as_bytes.ensures.value ∙ c.behind_front.ensures in
    sym (by_other bytes c.in-len2-up.len_at_least c.if-first-eq47.true (sym c.is_ascii_alphabetic.ensures.value ∙ c.if-is_ascii_alphabetic.false)) ∙ ap begins_command e

pub returns-else-first-eq47 : goal.returns-else-first-eq47
returns-else-first-eq47 c =
    let bytes = c.as_bytes.result.now in
    let e : bytes ≡ behind_front Blank c.args.line.now = c.as_bytes.ensures.value ∙ c.behind_front.ensures in
    sym (without bytes c.in-len2-up.len_at_least c.if-first-eq47.false) ∙ ap begins_command e
