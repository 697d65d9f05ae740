-- Each cause leads to its verdict.
use Rattle.std.proofs.Common.{◌≡◌, ◌≢◌, ℕ, List, [], ◌∷◌, Option, Some, None, refl, ap, sym, ◌∙◌}
use Rattle.jsh_tree.specs.declared.token.Token.{Token}
use Rattle.jsh_tree.specs.declared.tree.Tree.{Tree}
use Rattle.jsh_sum.specs.declared.sums.Sum.{Sum}
use Rattle.jsh_tree.specs.declared.diagnostic.Diagnostic.{Diagnostic}
use Rattle.jsh_tree.specs.declared.token.TokenKind.{TokenKind}
use Rattle.jsh_tree.specs.declared.diagnostic.Code.TheVariants as code
use Rattle.jsh_lex.specs.declared.lexeme.LexFault.{LexFault}
use Rattle.jsh_lex.specs.Lexis.{tokens, whole}
use Rattle.jsh_grammar.specs.Productions.{snippet}
use Rattle.jsh_parse.specs.declared.error.ParseError.TheVariants.{Wanted, TooDeep}
use Rattle.jsh_parse.specs.Refusals.{IsRefusal}
use Rattle.jsh_decl.specs.Declarations.{IsSource}
use Rattle.jsh_verdict.specs.Diagnostics.{diagnostic, lexical_code}
use Rattle.jsh_verdict.specs.declared.verdict.Verdict.TheVariants.{Accepted, Rejected}
use Rattle.jsh_verdict.specs.Verdict.{source_tree, judged, judged_reading, judged_source, judged_tokens, judged_lexed, refusal, verdict, tree_of_tokens, tree_of_lexed, tree_of}
use Rattle.jsh_verdict.specs.Causes.{HasTokens, IsNoSource, IsSourceOf, IsAccepted, IsRejected, no_snippet, faulty, unexpected, too_deep, not_yet, too_big}
use Rattle.jsh_verdict.proofs.Trees.{source_read, no_source_read}
use Rattle.jsh_verdict.proofs.Sums.{rejects_sum}
use Rattle.jsh_verdict.proofs.Refusing.{refused_stuck, refused_deep}

judged_by_tree : (source : List ℕ) (ts : List Token) → ts ≢ [] → judged_tokens source ts ≡ judged_source source ts (source_tree source ts)
judged_by_tree source [] some = absurd (some refl)
judged_by_tree source (t ∷ ts) some = refl

judged_lexed_by_tree : (source : List ℕ) (ts : List Token) → HasTokens source ts →
    judged_lexed source (tokens source) ≡ judged_source source ts (source_tree source ts)
judged_lexed_by_tree source ts has = ap (judged_lexed source) has.0 ∙ judged_by_tree source ts has.1

with_tree : (source : List ℕ) (tree : Tree) → IsSourceOf source tree → judged_lexed source (tokens source) ≡ judged tree
with_tree source tree (ts, has, is) = judged_lexed_by_tree source ts has ∙ ap (judged_source source ts) (source_read source ts tree is)

without_tree : (source : List ℕ) (ts : List Token) → IsNoSource source ts → judged_lexed source (tokens source) ≡ Rejected (refusal source ts ∷ [])
without_tree source ts (has, none) = judged_lexed_by_tree source ts has ∙ ap (judged_source source ts) (no_source_read source ts none)

pub accepts : (source : List ℕ) (sum : Sum) → IsAccepted source sum → verdict source ≡ Accepted sum
unfolding verdict
accepts source sum (tree, is_source, is) = with_tree source tree is_source ∙ ap judged_reading is

pub rejects : (source : List ℕ) (ds : List Diagnostic) → IsRejected source ds → verdict source ≡ Rejected ds
unfolding verdict
rejects source ds (no_snippet lexed is) = ap (judged_lexed source) lexed ∙ ap Rejected (sym is)
rejects source ds (faulty before kind place lexed is) = ap (judged_lexed source) lexed ∙ ap Rejected (sym is)
rejects source ds (unexpected ts read no_source before stops is) =
    without_tree source ts no_source ∙ ap (λ d. Rejected (d ∷ [])) (refused_stuck source ts read before stops) ∙ ap Rejected (sym is)
rejects source ds (too_deep ts read no_source before deeper is) =
    without_tree source ts no_source ∙ ap (λ d. Rejected (d ∷ [])) (refused_deep source ts read before deeper) ∙ ap Rejected (sym is)
rejects source ds (not_yet tree is_source none is) = with_tree source tree is_source ∙ ap judged_reading none ∙ ap Rejected (sym is)
rejects source ds (too_big tree reading is_source read some is) =
    with_tree source tree is_source ∙ ap judged_reading read ∙ rejects_sum reading.sum reading.too_big some ∙ ap Rejected (sym is)

-- ---- trees

tree_by_tokens : (source : List ℕ) (ts : List Token) → ts ≢ [] → tree_of_tokens source ts ≡ source_tree source ts
tree_by_tokens source [] some = absurd (some refl)
tree_by_tokens source (t ∷ ts) some = refl

tree_by : (source : List ℕ) (ts : List Token) → HasTokens source ts → tree_of source ≡ source_tree source ts
unfolding tree_of
tree_by source ts has = ap (tree_of_lexed source) has.0 ∙ tree_by_tokens source ts has.1

pub tree_read : (source : List ℕ) (tree : Tree) → IsSourceOf source tree → tree_of source ≡ Some tree
tree_read source tree (ts, has, is) = tree_by source ts has ∙ source_read source ts tree is

-- ---- what `judge` finds

pub tree_on_fault : (source : List ℕ) (before : List Token) (kind : LexFault) (place : ℕ) →
    tokens source ≡ record { tokens = before; fault = Some (kind, place) } → tree_of source ≡ None
unfolding tree_of
tree_on_fault source before kind place lexed = ap (tree_of_lexed source) lexed

pub tree_on_nothing : (source : List ℕ) (ts : List Token) → tokens source ≡ whole ts → ts ≡ [] → tree_of source ≡ None
unfolding tree_of
tree_on_nothing source ts lexed none = ap (tree_of_lexed source) (lexed ∙ ap whole none)

pub tree_on_tree : (source : List ℕ) (ts : List Token) (tree : Tree) → HasTokens source ts → IsSource source 256 ts tree → tree_of source ≡ Some tree
tree_on_tree source ts tree has is = tree_read source tree (ts, has, is)

pub tree_on_none : (source : List ℕ) (ts : List Token) → IsNoSource source ts → tree_of source ≡ None
tree_on_none source ts (has, none) = tree_by source ts has ∙ no_source_read source ts none

pub verdict_on_fault : (source : List ℕ) (before : List Token) (kind : LexFault) (place : ℕ) →
    tokens source ≡ record { tokens = before; fault = Some (kind, place) } → verdict source ≡ Rejected (diagnostic (lexical_code kind) place ∷ [])
verdict_on_fault source before kind place lexed = rejects source _ (faulty before kind place lexed refl)

pub verdict_on_nothing : (source : List ℕ) (ts : List Token) → tokens source ≡ whole ts → ts ≡ [] →
    verdict source ≡ Rejected (diagnostic code.NoSnippet 0 ∷ [])
verdict_on_nothing source ts lexed none = rejects source _ (no_snippet (lexed ∙ ap whole none) refl)

pub verdict_on_tree : (source : List ℕ) (ts : List Token) (tree : Tree) → HasTokens source ts → IsSource source 256 ts tree →
    verdict source ≡ judged tree
unfolding verdict
verdict_on_tree source ts tree has is = with_tree source tree (ts, has, is)

pub verdict_on_wanted : (source : List ℕ) (ts : List Token) (place : ℕ) (wanted : Option TokenKind) → IsNoSource source ts →
    IsRefusal snippet source ts (Wanted place wanted) → verdict source ≡ Rejected (diagnostic code.Unexpected place ∷ [])
verdict_on_wanted source ts place wanted no_source (read, before, stops, goes_on, is) =
    rejects source _ (unexpected ts read no_source before stops refl) ∙ ap (λ place. Rejected (diagnostic code.Unexpected place ∷ [])) (sym is)

pub verdict_on_depth : (source : List ℕ) (ts : List Token) (limit : ℕ) → IsNoSource source ts → IsRefusal snippet source ts (TooDeep limit) →
    verdict source ≡ Rejected (diagnostic code.TooDeep 0 ∷ [])
verdict_on_depth source ts limit no_source (is, read, before, deeper) = rejects source _ (too_deep ts read no_source before deeper refl)

pub has_tokens : (source : List ℕ) (items ts : List Token) → tokens source ≡ whole items → ts ≡ items → items ≢ [] → HasTokens source ts
has_tokens source items ts lexed same some = (lexed ∙ ap whole (sym same), λ none. some (sym same ∙ none))
