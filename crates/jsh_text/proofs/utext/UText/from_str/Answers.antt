use Rattle.std.proofs.Common.{ap, ◌∙◌}
use Rattle.jsh_text.specs.Utf.{utf8}
use Rattle.jsh_text.proofs.Agree.{utf8-utf16}
use Rattle.jsh_text.proofs.utext.UText.from_str.Goals as goal

pub returns-clause-shown : goal.returns-clause-shown
returns-clause-shown c = ap utf8 c.in_ok-units.ensures ∙ utf8-utf16 c.args.text.now c.utf8.text
