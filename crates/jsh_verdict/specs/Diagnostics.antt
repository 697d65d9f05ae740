-- Diagnostics without a name.
use Rattle.std.specs.Prelude.{ℕ, None}
use Rattle.jsh_tree.specs.declared.diagnostic.Diagnostic.{Diagnostic}
use Rattle.jsh_tree.specs.declared.diagnostic.Code.{Code}
use Rattle.jsh_tree.specs.declared.diagnostic.Code.TheVariants as code
use Rattle.jsh_lex.specs.declared.lexeme.LexFault.{LexFault}
use Rattle.jsh_lex.specs.declared.lexeme.LexFault.TheVariants as fault

abbrev pub diagnostic : Code → ℕ → Diagnostic
diagnostic what place = record { code = what; place = place; name = None }

-- what a fault of the lexis is called
abbrev pub lexical_code : LexFault → Code
lexical_code fault.NumberTooBig = code.NumberTooBig
lexical_code _ = code.BadToken
