-- Each verdict has its cause.
use Rattle.std.proofs.Common.{◌≡◌, ◌⊎◌, inl, inr, ℕ, List, [], ◌∷◌, Option, Some, None, refl, ap, sym, subst, ◌∙◌}
use Rattle.std.specs.Str.{IsUtf8}
use Rattle.jsh_tree.specs.declared.token.Token.{Token}
use Rattle.jsh_tree.specs.declared.tree.Tree.{Tree}
use Rattle.jsh_sum.specs.declared.sums.Sum.{Sum}
use Rattle.jsh_tree.specs.declared.diagnostic.Diagnostic.{Diagnostic}
use Rattle.jsh_lex.specs.declared.lexeme.LexFault.{LexFault}
use Rattle.jsh_lex.specs.Lexis.{tokens, whole}
use Rattle.jsh_lex.specs.Spelling.{AreTokensBehind}
use Rattle.jsh_lex.proofs.Places.{tokens_stand}
use Rattle.jsh_grammar.specs.Productions.{snippet}
use Rattle.jsh_grammar.specs.Fronts.{IsWhole}
use Rattle.jsh_recognizer.specs.declared.recognizer.Start.TheVariants as start
use Rattle.jsh_recognizer.specs.Recognizing.{first, kinds}
use Rattle.jsh_recognizer.specs.Reach.{Reason, whole as all_read, unfinished, refused, reach}
use Rattle.jsh_recognizer.specs.Reach as machine
use Rattle.jsh_recognizer.specs.Reached.{IsReach}
use Rattle.jsh_recognizer.proofs.Reaches.{reach_of}
use Rattle.jsh_parse.specs.Reading.{spelled}
use Rattle.jsh_parse.proofs.TableValues.{values_taken}
use Rattle.jsh_decl.specs.Declarations.{as_it_stands}
use Rattle.jsh_decl.proofs.TableSpelled.{declared_spelled}
use Rattle.jsh_sum.specs.Reading.{sum_of}
use Rattle.jsh_verdict.specs.declared.verdict.Verdict.TheVariants.{Accepted, Rejected}
use Rattle.jsh_verdict.specs.Verdict.{source_tree, judged, refusal_at, refusal, judged_source, judged_tokens, judged_lexed, verdict, tree_of_tokens, tree_of_lexed, tree_of}
use Rattle.jsh_verdict.specs.Causes.{HasTokens, IsNoSource, IsSourceOf, IsAccepted, IsRejected}
use Rattle.jsh_verdict.specs.Causes as cause
use Rattle.jsh_verdict.proofs.Trees.{source_found, source_missing}
use Rattle.jsh_verdict.proofs.Sums.{reading_accepted, reading_rejected}

module _ (source : List ℕ) where
  source_accepted : (sum : Sum) (ts : List Token) → HasTokens source ts → (found : Option Tree) → source_tree source ts ≡ found →
      judged_source source ts found ≡ Accepted sum → IsAccepted source sum
  source_accepted sum ts has None read is = absurd cc
  source_accepted sum ts has (Some tree) read is = (tree, (ts, has, source_found source ts tree read), reading_accepted (sum_of tree) sum is)

  tokens_accepted : (sum : Sum) (ts : List Token) → tokens source ≡ whole ts → judged_tokens source ts ≡ Accepted sum → IsAccepted source sum
  tokens_accepted sum [] lexed is = absurd cc
  tokens_accepted sum (t ∷ ts) lexed is = source_accepted sum (t ∷ ts) (lexed, λ none. absurd cc) (source_tree source (t ∷ ts)) refl is

  lexed_accepted : (sum : Sum) (ts : List Token) (fault : Option (LexFault × ℕ)) → tokens source ≡ record { tokens = ts; fault = fault } →
      judged_lexed source (record { tokens = ts; fault = fault }) ≡ Accepted sum → IsAccepted source sum
  lexed_accepted sum ts None lexed is = tokens_accepted sum ts lexed is
  lexed_accepted sum ts (Some (kind, place)) lexed is = absurd cc

  -- tokens that are no source's aren't whole
  not_whole : (ts : List Token) → IsUtf8 source → IsNoSource source ts → IsWhole snippet 256 (kinds ts) → ⊥
  not_whole ts utf8 (has, none) is =
      let stand : AreTokensBehind source 0 ts = subst (λ lexed. AreTokensBehind source 0 lexed.tokens) has.0 (tokens_stand source utf8) in
      let found = declared_spelled source snippet 256 ts is (values_taken source ts utf8 (spelled ts stand)) in
      none found.0 (as_it_stands found.1)

  refused_at_because : (ds : List Diagnostic) (ts : List Token) → IsUtf8 source → IsNoSource source ts → (read : ℕ) (reason : Reason) →
      IsReach snippet 256 ts (record { read = read; reason = reason }) →
      Rejected (refusal_at source ts (record { read = read; reason = reason }) ∷ []) ≡ Rejected ds → IsRejected source ds
  refused_at_because ds ts utf8 no_source read all_read found is = absurd (not_whole ts utf8 no_source found.1.1)
  refused_at_because ds ts utf8 no_source read unfinished found is = cause.unexpected ts read no_source found.0 found.1.1 cc
  refused_at_because ds ts utf8 no_source read refused found is = cause.unexpected ts read no_source found.0 found.1.1 cc
  refused_at_because ds ts utf8 no_source read machine.too_deep found is = cause.too_deep ts read no_source found.0 found.1.1 cc

  refused_because : (ds : List Diagnostic) (ts : List Token) → IsUtf8 source → IsNoSource source ts → Rejected (refusal source ts ∷ []) ≡ Rejected ds →
      IsRejected source ds
  unfolding refusal
  refused_because ds ts utf8 no_source is =
      let found = reach 256 (first start.Snippet) (kinds ts) in
      refused_at_because ds ts utf8 no_source found.read found.reason (reach_of start.Snippet ts) is

  tree_rejected : (ds : List Diagnostic) (tree : Tree) → IsSourceOf source tree → judged tree ≡ Rejected ds → IsRejected source ds
  tree_rejected ds tree is_source is = elim (reading_rejected (sum_of tree) ds is) [
    | inl none ↦ cause.not_yet tree is_source none.0 none.1
    | inr read ↦ cause.too_big tree read.0 is_source read.1 read.2 read.3
  ]

  source_rejected : (ds : List Diagnostic) (ts : List Token) → IsUtf8 source → HasTokens source ts → (found : Option Tree) → source_tree source ts ≡ found →
      judged_source source ts found ≡ Rejected ds → IsRejected source ds
  source_rejected ds ts utf8 has None read is =
      refused_because ds ts utf8 (has, source_missing source ts read) is
  source_rejected ds ts utf8 has (Some tree) read is = tree_rejected ds tree (ts, has, source_found source ts tree read) is

  tokens_rejected : (ds : List Diagnostic) (ts : List Token) → IsUtf8 source → tokens source ≡ whole ts → judged_tokens source ts ≡ Rejected ds →
      IsRejected source ds
  tokens_rejected ds [] utf8 lexed is = cause.no_snippet lexed cc
  tokens_rejected ds (t ∷ ts) utf8 lexed is = source_rejected ds (t ∷ ts) utf8 (lexed, λ none. absurd cc) (source_tree source (t ∷ ts)) refl is

  lexed_rejected : (ds : List Diagnostic) (ts : List Token) (fault : Option (LexFault × ℕ)) → IsUtf8 source →
      tokens source ≡ record { tokens = ts; fault = fault } → judged_lexed source (record { tokens = ts; fault = fault }) ≡ Rejected ds →
      IsRejected source ds
  lexed_rejected ds ts None utf8 lexed is = tokens_rejected ds ts utf8 lexed is
  lexed_rejected ds ts (Some (kind, place)) utf8 lexed is = cause.faulty ts kind place lexed cc

  pub accepted_because : (sum : Sum) → verdict source ≡ Accepted sum → IsAccepted source sum
  unfolding verdict
  accepted_because sum is = lexed_accepted sum (tokens source).tokens (tokens source).fault refl is

  pub rejected_because : (ds : List Diagnostic) → IsUtf8 source → verdict source ≡ Rejected ds → IsRejected source ds
  unfolding verdict
  rejected_because ds utf8 is = lexed_rejected ds (tokens source).tokens (tokens source).fault utf8 refl is

  -- ---- trees

  tokens_tree : (ts : List Token) (tree : Tree) → tokens source ≡ whole ts → tree_of_tokens source ts ≡ Some tree → IsSourceOf source tree
  tokens_tree [] tree lexed is = absurd cc
  tokens_tree (t ∷ ts) tree lexed is = (t ∷ ts, (lexed, λ none. absurd cc), source_found source (t ∷ ts) tree is)

  lexed_tree : (ts : List Token) (fault : Option (LexFault × ℕ)) (tree : Tree) → tokens source ≡ record { tokens = ts; fault = fault } →
      tree_of_lexed source (record { tokens = ts; fault = fault }) ≡ Some tree → IsSourceOf source tree
  lexed_tree ts None tree lexed is = tokens_tree ts tree lexed is
  lexed_tree ts (Some fault) tree lexed is = absurd cc

  pub tree_found : (tree : Tree) → tree_of source ≡ Some tree → IsSourceOf source tree
  unfolding tree_of
  tree_found tree is = lexed_tree (tokens source).tokens (tokens source).fault tree refl is
