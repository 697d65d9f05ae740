use Rattle.std.proofs.Common.{◌≡◌, ◌∙◌, ℕ, List, Option, sym, ap, subst}
use Rattle.jsh_tree.specs.declared.token.Token.{Token}
use Rattle.jsh_lex.specs.declared.lexeme.LexFault.{LexFault}
use Rattle.jsh_lex.specs.Lexis.{Lexed, tokens}
use Rattle.jsh_complete.specs.Completeness.{IsCompletion}
use Rattle.jsh_complete.specs.declared.completion.Completion.{Completion}
use Rattle.jsh_cut.specs.Commands.{fault_of}
use Rattle.jsh_cut.specs.Scans.{lexed_as}
use Rattle.jsh_cut.proofs.Completions.{is_completion}
use Rattle.jsh_cut.proofs.waiting.Waiting.analyze.Goals as goal

-- what is said of a text is said of it by its tokens and its fault
said : (known text : List ℕ) (ts us : List Token) (a b : Option LexFault) (c : Completion) → IsCompletion known ts a c → known ≡ text → ts ≡ us → a ≡ b →
    IsCompletion text us b c
said known text ts us a b c is t k f =
    subst (λ (x : Option LexFault). IsCompletion text us x c) f
    (subst (λ (xs : List Token). IsCompletion text xs a c) k (subst (λ (cs : List ℕ). IsCompletion cs ts a c) t is))

said_so : (known text : List ℕ) (ts us : List Token) (faults : Option (LexFault × ℕ)) (a : Option LexFault) (c : Completion) → IsCompletion known us a c → known ≡ text →
    tokens text ≡ lexed_as ts faults → us ≡ ts → a ≡ fault_of (lexed_as ts faults) → IsCompletion text (tokens text).tokens (fault_of (tokens text)) c
said_so known text ts us faults a c is t lexed k f =
    said known text us (tokens text).tokens a (fault_of (tokens text)) c is t (k ∙ sym (ap (λ (l : Lexed). l.tokens) lexed)) (f ∙ sym (ap fault_of lexed))

pub returns-clause-value : goal.returns-clause-value
returns-clause-value c =
    let text = c.args.self.now in
    let lexed : tokens text ≡ lexed_as c.self.inside.tokens.items c.self.inside.fault =
    subst (λ (t : List ℕ). tokens t ≡ lexed_as c.self.inside.tokens.items c.self.inside.fault) c.self.view_is c.self.invariant.lexed in
    is_completion text c.analyze.result
    (said_so c.as_str.result.now text c.self.inside.tokens.items c.as_slice.result.now c.self.inside.fault c.kind_of.result c.analyze.result c.analyze.ensures.completion
    (c.as_str.ensures.value ∙ c.self.view_is) lexed c.as_slice.ensures.value c.kind_of.ensures)
