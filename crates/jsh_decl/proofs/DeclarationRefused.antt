-- Tokens that spell no snippet are no whole snippet of the table.
use Rattle.std.proofs.Common.{ℕ, List}
use Rattle.std.specs.Str.{IsUtf8}
use Rattle.jsh_tree.specs.declared.token.Token.{Token}
use Rattle.jsh_tree.specs.declared.tree.Tree.{Tree}
use Rattle.jsh_grammar.specs.Productions as table
use Rattle.jsh_grammar.specs.Fronts.{IsWhole}
use Rattle.jsh_recognizer.specs.Recognizing.{kinds}
use Rattle.jsh_parse.specs.Reading.{AreTaken}
use Rattle.jsh_parse.proofs.TableValues.{values_taken}
use Rattle.jsh_decl.specs.Declarations.{IsSnippet}
use Rattle.jsh_decl.proofs.TableSpelled.{declared_spelled}

pub no_snippet : (text : List ℕ) (room : ℕ) (ts : List Token) → IsUtf8 text → AreTaken text ts →
    ((tree : Tree) → IsSnippet text room ts tree → ⊥) → IsWhole table.snippet room (kinds ts) → ⊥
no_snippet text room ts utf8 taken none w =
    let found = declared_spelled text table.snippet room ts w (values_taken text ts utf8 taken) in
    none found.0 found.1
