-- Tokens are refused in one way, and at one place.
use Rattle.std.proofs.Common.{◌≡◌, ℕ, false, List, [], take, drop, length, inl, inr, refl, sym, ap, ◌∙◌, subst, Option, arith}
use Rattle.std.proofs.lemmas.Bool.{cases_lt, false≢true}
use Rattle.std.proofs.lemmas.List.{drop_all}
use Rattle.jsh_tree.specs.declared.token.Token.{Token}
use Rattle.jsh_tree.specs.declared.token.TokenKind.{TokenKind}
use Rattle.jsh_grammar.specs.Fronts.{IsPrefix}
use Rattle.jsh_recognizer.specs.declared.recognizer.Start.{Start}
use Rattle.jsh_recognizer.specs.Recognizing.{kinds}
use Rattle.jsh_recognizer.specs.Stops.{part_of, IsStuck}
use Rattle.jsh_recognizer.specs.Refused.{Refused, stuck, too_deep, place, stands_deep}
use Rattle.jsh_recognizer.proofs.Refusals.{refused_once}
use Rattle.jsh_recognizer.proofs.Stopped.{past_end}
use Rattle.jsh_parse.specs.declared.error.ParseError.TheVariants as error
use Rattle.jsh_parse.specs.Refusals.{IsRefusal, place_of}

-- where tokens are stuck behind so many of them, of which there may be fewer
record StuckAt (s : Start) (ts : List Token) (read : ℕ) : Type 0 where
  refused : Refused (part_of s) ts
  at : drop (place refused) ts ≡ drop read ts
  shallow : stands_deep refused ≡ false

stuck_at : (s : Start) (ts : List Token) (read : ℕ) → IsPrefix (part_of s) 256 (kinds (take read ts)) → IsStuck (part_of s) ts read → StuckAt s ts read
stuck_at s ts read is stops = elim (cases_lt read (length ts)) [
  | inl lt ↦ record { refused = stuck read (omega arith) is stops; at = refl; shallow = refl }
  | inr le ↦
      let end : drop read ts ≡ [] = drop_all read ts le in
      let all : drop (length ts) ts ≡ [] = drop_all (length ts) ts (omega arith) in
      let same : take read ts ≡ take (length ts) ts = past_end ts read le ∙ sym (past_end ts (length ts) (omega arith)) in
      let not_whole = rw end at stops in
      let there : IsStuck (part_of s) ts (length ts) = rw all not_whole in
      record {
        refused = stuck (length ts) (omega arith) (subst (λ us. IsPrefix (part_of s) 256 (kinds us)) same is) there;
        at = all ∙ sym end;
        shallow = refl;
      }
]

pub one_place : (s : Start) (text : List ℕ) (ts : List Token) (p q : ℕ) (v w : Option TokenKind) → IsRefusal (part_of s) text ts (error.Wanted p v)
    → IsRefusal (part_of s) text ts (error.Wanted q w) → p ≡ q
one_place s text ts p q v w (read, is, stops, goes, at) (read', is', stops', goes', at') =
    let a = stuck_at s ts read is stops in
    let b = stuck_at s ts read' is' stops' in
    let once = refused_once s ts a.refused b.refused in
    at ∙ (ap (place_of text) (sym a.at ∙ (ap (λ n. drop n ts) once.0 ∙ b.at)) ∙ sym at')

pub one_limit : (s : Start) (text : List ℕ) (ts : List Token) (l m : ℕ) → IsRefusal (part_of s) text ts (error.TooDeep l) → IsRefusal (part_of s) text ts (error.TooDeep m) → l ≡ m
one_limit s text ts l m a b = a.0 ∙ sym b.0

pub one_way : (s : Start) (text : List ℕ) (ts : List Token) (p l : ℕ) (w : Option TokenKind) → IsRefusal (part_of s) text ts (error.Wanted p w)
    → IsRefusal (part_of s) text ts (error.TooDeep l) → ⊥
one_way s text ts p l w (read, is, stops, goes, at) (limit, read', is', deeper) =
    let a = stuck_at s ts read is stops in
    false≢true (sym a.shallow ∙ (refused_once s ts a.refused (too_deep read' is' deeper)).1)
