use Rattle.std.proofs.Common.{◌≡◌, ◌∙◌, ℕ, List, Option, drop, ap, sym}
use Rattle.std.proofs.lemmas.Result.{IfOk-weaker}
use Rattle.std.proofs.lemmas.Str.{IsCharBoundary-start}
use Rattle.jsh_tree.specs.declared.token.Token.{Token}
use Rattle.jsh_lex.specs.declared.lexeme.LexFault.{LexFault}
use Rattle.jsh_lex.specs.Lexis.{tokens}
use Rattle.jsh_pieces.specs.Pieces.{moved_lexed, joined}
use Rattle.jsh_complete.specs.Reading.{HasRead}
use Rattle.jsh_cut.specs.Scans.{lexed_as}
use Rattle.jsh_cut.proofs.Onwards.{joined_anew, read_onward}
use Rattle.jsh_cut.proofs.onward.lex_onward.Goals as goal

pub lex_from-requires-in-Anew-clause-between : goal.lex_from-requires-in-Anew-clause-between
lex_from-requires-in-Anew-clause-between c = IsCharBoundary-start c.args.text.now c.utf8.text

pub returns-in-From-clause-read : goal.returns-in-From-clause-read
returns-in-From-clause-read c =
    let before = c.args.tokens.now.items in
    let now = c.lex_from.new.tokens.items in
    let more = moved_lexed c.in-From.place (tokens (drop c.in-From.place c.args.text.now)) in
    IfOk-weaker c.lex_from.result (λ (fault : Option (LexFault × ℕ)). joined before more ≡ lexed_as now fault) (λ fault. HasRead now c.args.reader.now)
    (λ fault is. read_onward before now more fault c.args.reader.now is c.requires.read) c.lex_from.ensures

pub returns-in-Anew-clause-lexed : goal.returns-in-Anew-clause-lexed
returns-in-Anew-clause-lexed c =
    let text = c.args.text.now in
    let none = c.clear.new.self.items in
    let now = c.lex_from-in-Anew.new.tokens.items in
    let whole = moved_lexed 0 (tokens text) in
    IfOk-weaker c.lex_from-in-Anew.result (λ (fault : Option (LexFault × ℕ)). joined none whole ≡ lexed_as now fault)
    (λ (fault : Option (LexFault × ℕ)). tokens text ≡ lexed_as now fault)
    (λ fault is. sym (joined_anew text) ∙ ap (λ (ts : List Token). joined ts whole) (sym c.clear.ensures.items) ∙ is) c.lex_from-in-Anew.ensures
