use Rattle.std.proofs.Common.{sym, ◌∙◌}
use Rattle.jsh_cut.proofs.Lines.{line_blank}
use Rattle.jsh_cut.proofs.tail_of.Goals as goal

pub returns-else-is_slash_line : goal.returns-else-is_slash_line
returns-else-is_slash_line c = line_blank c.args.line.now c.requires (sym c.is_slash_line.ensures ∙ c.if-is_slash_line.false)
