use Rattle.std.proofs.Common.{sym, ◌∙◌, append-nil}
use Rattle.std.proofs.str.Utf16.{utf16_chars-drop_all}
use Rattle.jsh_text.proofs.utf8.shown.Goals as goal

pub returns : goal.returns
returns c = sym (append-nil _) ∙ rw (utf16_chars-drop_all c.args.units.now c.loop-at.at c.loop-at-test.false) at c.loop-at.invariant
