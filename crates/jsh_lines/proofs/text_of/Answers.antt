use Rattle.std.proofs.Common.{◌≡◌, ◌∙◌, ◌++◌, sym, ap, append-nil}
use Rattle.std.specs.String.{string_bytes}
use Rattle.std.proofs.lemmas.List.{drop_all}
use Rattle.jsh_lines.specs.Lines.{as_text}
use Rattle.jsh_lines.proofs.Texts.{as_text-IsUtf8, as_text-nil}
use Rattle.jsh_lines.proofs.text_of.Goals as goal

pub returns-in-Ok : goal.returns-in-Ok
returns-in-Ok c =
    let valid = c.in-Ok.ensures.cases in
    let stays : c.in-Ok.text.now ≡ as_text c.args.line.now = valid.0 ∙ sym (as_text-IsUtf8 c.args.line.now valid.1) in
    rw stays at c.from_text.ensures

pub returns : goal.returns
returns c =
    let none = ap as_text (drop_all c.loop-at.at c.args.line.now c.loop-at-test.false) ∙ as_text-nil in
    let made : c.as_str.result.now ≡ as_text c.args.line.now =
    c.as_str.ensures.value ∙ sym (append-nil (string_bytes c.loop-at.text))
    ∙ ap (λ left. string_bytes c.loop-at.text ++ left) (sym none) ∙ c.loop-at.invariant.so_far in
    rw made at c.from_text-2.ensures
