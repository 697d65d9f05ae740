-- What stands behind a refusal: where the recognizer stopped, and that tokens which spell no tree are no whole part of the table.
use Rattle.std.proofs.Common.{◌≡◌, ℕ, ◌⊎◌, inl, inr, Bool, List, Option, take, subst}
use Rattle.std.specs.Str.{IsUtf8}
use Rattle.jsh_tree.specs.declared.token.Token.{Token}
use Rattle.jsh_tree.specs.declared.token.TokenKind.{TokenKind}
use Rattle.jsh_tree.specs.declared.expression.Expr.{Expr}
use Rattle.jsh_tree.specs.declared.statement.Stmt.{Stmt}
use Rattle.jsh_grammar.specs.Productions.{Part, expression, statement}
use Rattle.jsh_grammar.specs.Fronts.{IsWhole, IsPrefix}
use Rattle.jsh_recognizer.specs.declared.scanner.End.{End}
use Rattle.jsh_recognizer.specs.declared.scanner.End.TheVariants as end
use Rattle.jsh_recognizer.specs.declared.scanner.Scanned.{Scanned}
use Rattle.jsh_recognizer.specs.Recognizing.{kinds}
use Rattle.jsh_recognizer.specs.Stops.{GoesOn, IsStuck, IsStop}
use Rattle.jsh_parse.specs.Grammar.{IsExpr}
use Rattle.jsh_parse.specs.Statements.{IsStmt}
use Rattle.jsh_parse.specs.Reading.{AreTaken}
use Rattle.jsh_parse.proofs.TableValues.{values_taken}
use Rattle.jsh_parse.proofs.TableSpelled.{tree_spelled}
use Rattle.jsh_parse.proofs.StatementTableSpelled.{stmt_spelled}

-- a stop for a reason that is known
pub stopped : (n : Part) (limit : ℕ) (ts : List Token) (s : Scanned) (e : End) → s.end ≡ e → IsStop n limit ts s →
    IsStop n limit ts (record { read = s.read; end = e })
stopped n limit ts s e is stop = subst (λ x. IsStop n limit ts (record { read = s.read; end = x })) is stop

-- a stop at which something else has to come
pub stuck : (n : Part) (limit : ℕ) (ts : List Token) (s : Scanned) (wanted : Option TokenKind) → (s.end ≡ end.Open wanted) ⊎ (s.end ≡ end.Refused wanted) →
    IsStop n limit ts s → IsPrefix n limit (kinds (take s.read ts)) × IsStuck n ts s.read × GoesOn n (kinds (take s.read ts)) wanted
stuck n limit ts s wanted (inl is) stop = let at = stopped n limit ts s (end.Open wanted) is stop in (at.0, at.1.1, at.1.2)
stuck n limit ts s wanted (inr is) stop = let at = stopped n limit ts s (end.Refused wanted) is stop in (at.0, at.1.1, at.1.2)

pub no_expression : (text : List ℕ) (room : ℕ) (ts : List Token) → IsUtf8 text → AreTaken text ts →
    ((tree : Expr) → IsExpr text room ts tree → ⊥) → IsWhole expression room (kinds ts) → ⊥
no_expression text room ts utf8 taken none w =
    let found = tree_spelled text expression room ts w (values_taken text ts utf8 taken) in
    none found.0 found.1

pub no_statement : (text : List ℕ) (room : ℕ) (ts : List Token) → IsUtf8 text → AreTaken text ts →
    ((dangling : Bool) → (tree : Stmt) → IsStmt text room dangling ts tree → ⊥) → IsWhole statement room (kinds ts) → ⊥
no_statement text room ts utf8 taken none w =
    let found = stmt_spelled text room ts (values_taken text ts utf8 taken) w in
    none found.0 found.1 found.2
