use Rattle.std.proofs.Common.{◌≡◌, ◌∙◌, ℕ, List, sym, ap, subst}
use Rattle.std.specs.Str.{IsUtf8, IsCharBoundary}
use Rattle.std.proofs.lemmas.Str.{IsUtf8-string_bytes}
use Rattle.jsh_lex.specs.Lexis.{Lexed, tokens}
use Rattle.jsh_lex.proofs.Places.{tokens_stand}
use Rattle.jsh_complete.specs.Completeness.{end_of}
use Rattle.jsh_cut.specs.Scans.{lexed_as}
use Rattle.jsh_cut.proofs.Ends.{last_between}
use Rattle.jsh_cut.proofs.waiting.Waiting.end.Goals as goal

pub returns-in-None-clause-between : goal.returns-in-None-clause-between
returns-in-None-clause-between c =
    let text = c.args.self.now in
    let u : IsUtf8 text = subst (λ (t : List ℕ). IsUtf8 t) c.self.view_is (IsUtf8-string_bytes c.self.inside.text) in
    let lexed : tokens text ≡ lexed_as c.self.inside.tokens.items c.self.inside.fault =
    subst (λ (t : List ℕ). tokens t ≡ lexed_as c.self.inside.tokens.items c.self.inside.fault) c.self.view_is c.self.invariant.lexed in
    let same : c.as_slice.result.now ≡ (tokens text).tokens = c.as_slice.ensures.value ∙ sym (ap (λ (l : Lexed). l.tokens) lexed) in
    subst (λ (n : ℕ). IsCharBoundary text n) (sym (c.last_end.ensures ∙ ap end_of same)) (last_between text 0 (tokens text).tokens u (tokens_stand text u))
