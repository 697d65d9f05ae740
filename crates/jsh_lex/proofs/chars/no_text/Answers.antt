use Rattle.std.proofs.lemmas.Str.{chars-nil}
use Rattle.jsh_lex.proofs.chars.no_text.Goals as goal

pub returns-clause-chars : goal.returns-clause-chars
returns-clause-chars c = chars-nil
