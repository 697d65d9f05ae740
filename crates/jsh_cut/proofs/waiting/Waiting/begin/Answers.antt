use Rattle.std.proofs.Common.{◌≡◌, ◌∙◌, ℕ, List, sym, ap, subst, arith}
use Rattle.std.specs.Str.{IsUtf8}
use Rattle.std.proofs.lemmas.Str.{IsUtf8-string_bytes}
use Rattle.jsh_tree.specs.declared.token.Token.{Token}
use Rattle.jsh_tree.specs.declared.token.TokenKind.TheVariants.{Identifier}
use Rattle.jsh_lex.specs.Lexis.{Lexed, tokens}
use Rattle.jsh_lex.specs.Spelling.{AreTokensBehind}
use Rattle.jsh_lex.proofs.Places.{tokens_stand}
use Rattle.jsh_cut.specs.Scans.{lexed_as}
use Rattle.jsh_cut.proofs.Ends.{first_between}
use Rattle.jsh_cut.proofs.waiting.Waiting.begin.Goals as goal

pub returns-in-len1-up-clause-between : goal.returns-in-len1-up-clause-between
returns-in-len1-up-clause-between c =
    let text = c.args.self.now in
    let u : IsUtf8 text = subst (λ (t : List ℕ). IsUtf8 t) c.self.view_is (IsUtf8-string_bytes c.self.inside.text) in
    let lexed : tokens text ≡ lexed_as c.self.inside.tokens.items c.self.inside.fault =
    subst (λ (t : List ℕ). tokens t ≡ lexed_as c.self.inside.tokens.items c.self.inside.fault) c.self.view_is c.self.invariant.lexed in
    let same : c.as_slice.result.now ≡ (tokens text).tokens = c.as_slice.ensures.value ∙ sym (ap (λ (l : Lexed). l.tokens) lexed) in
    let stand : AreTokensBehind text 0 c.as_slice.result.now = subst (λ (ts : List Token). AreTokensBehind text 0 ts) (sym same) (tokens_stand text u) in
    first_between text 0 c.as_slice.result.now record { kind = Identifier; span = record { from = 0; to = 0 } } stand (omega arith)
