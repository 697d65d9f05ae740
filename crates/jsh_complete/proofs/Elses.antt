-- No snippet ends in `else`.
use Rattle.std.proofs.Common.{◌≡◌, ℕ, Bool, true, false, not, ◌&&◌, ◌||◌, ◌⊎◌, List, [], ◌∷◌, ◌++◌, inl, inr, refl, subst}
use Rattle.jsh_tree.specs.declared.token.TokenKind.{TokenKind}
use Rattle.jsh_tree.specs.declared.token.TokenKind.TheVariants as token
use Rattle.jsh_grammar.specs.Productions.{Part, Symbol, a, any, part, deep, IsProduction}
use Rattle.jsh_grammar.specs.Productions as table
use Rattle.jsh_grammar.specs.Fronts.{Derives, nothing, token_of, token_among, whole_part, whole_deep, IsWhole, whole}
use Rattle.jsh_recognizer.specs.Recognizing.{first}
use Rattle.jsh_recognizer.specs.Machine.{at_end}
use Rattle.jsh_recognizer.specs.declared.recognizer.Start.TheVariants as start
use Rattle.jsh_recognizer.proofs.Stopped.{whole_may_stop}

abbrev is_else : TokenKind → Bool
is_else token.Else = true
is_else _ = false

-- the last of these kinds is `else`
abbrev ends_in_else : List TokenKind → Bool
ends_in_else [] = false
ends_in_else (k ∷ []) = is_else k
ends_in_else (k ∷ j ∷ ks) = ends_in_else (j ∷ ks)

put_else : (ks : List TokenKind) → ends_in_else (ks ++ token.Else ∷ []) ≡ true
put_else [] = refl
put_else (k ∷ []) = refl
put_else (k ∷ j ∷ ks) = put_else (j ∷ ks)

end_of_joined : (l r : List TokenKind) → ends_in_else (l ++ r) ≡ true → (ends_in_else r ≡ true) ⊎ ((r ≡ []) × (ends_in_else l ≡ true))
end_of_joined [] r e = inl e
end_of_joined (k ∷ []) [] e = inr (refl, e)
end_of_joined (k ∷ []) (j ∷ r) e = inl e
end_of_joined (k ∷ j ∷ l) r e = end_of_joined (j ∷ l) r e

-- these parts aren't empty
abbrev is_filled : Part → Bool
is_filled table.statement = true
is_filled table.closed_statement = true
is_filled table.names = true
is_filled _ = false

-- the first symbol is there, and isn't empty
abbrev goes_on : List Symbol → Bool
goes_on (part n ∷ ss) = is_filled n
goes_on (deep n ∷ ss) = is_filled n
goes_on _ = false

-- something stands behind each `else`
abbrev each_else_leads : List Symbol → Bool
each_else_leads [] = true
each_else_leads (a k ∷ ss) = (goes_on ss || not (is_else k)) && each_else_leads ss
each_else_leads (any test ∷ ss) = not (test token.Else) && each_else_leads ss
each_else_leads (part n ∷ ss) = each_else_leads ss
each_else_leads (deep n ∷ ss) = each_else_leads ss

production_leads : {n : Part} {p : List Symbol} → IsProduction n p → each_else_leads p ≡ true
production_leads table.no_member = refl
production_leads _ = refl

-- ---- what isn't empty

no_empty_statement : (room : ℕ) → IsWhole table.statement room [] → ⊥
no_empty_statement room is =
    let stops = whole_may_stop start.Statement room [] (first start.Statement) at_end is in
    absurd cc

no_empty_join : (l r : List TokenKind) → l ++ r ≡ [] → (l ≡ []) × (r ≡ [])
no_empty_join [] r e = (refl, e)
no_empty_join (k ∷ l) r e = absurd cc

named_list : {room : ℕ} {p : List Symbol} {ks : List TokenKind} → IsProduction table.names p → Derives room p ks → ks ≡ [] → ⊥
named_list table.last_listed_name (token_of d) e = absurd cc
named_list table.one_more_listed_name (token_of d) e = absurd cc

filled_part : {room : ℕ} {p : List Symbol} {ks : List TokenKind} (n : Part) → is_filled n ≡ true → IsProduction n p → Derives room p ks → ks ≡ [] → ⊥
filled_part {room = room} {p = p} table.statement filled is d e = no_empty_statement room (whole p is (subst (Derives room p) e d))
filled_part {room = room} {p = p} table.closed_statement filled is d e =
    let none : Derives room p [] = subst (Derives room p) e d in
    no_empty_statement room (whole (part table.closed_statement ∷ []) table.of_closed (whole_part is none nothing))
filled_part table.names filled is d e = named_list is d e
filled_part _ filled is d e = absurd cc

led_some : {room : ℕ} {ss : List Symbol} {ks : List TokenKind} → Derives room ss ks → goes_on ss ≡ true → ks ≡ [] → ⊥
led_some nothing filled e = absurd cc
led_some (token_of d) filled e = absurd cc
led_some (token_among is d) filled e = absurd cc
led_some (whole_part {n = n} {l = l} {r = r} is d c) filled e = filled_part n filled is d (no_empty_join l r e).0
led_some (whole_deep {n = n} {l = l} {r = r} is d c) filled e = filled_part n filled is d (no_empty_join l r e).0

-- ---- what ends in no `else`

both_true : (x y : Bool) → x && y ≡ true → (x ≡ true) × (y ≡ true)
both_true true y is = (refl, is)
both_true false y is = absurd cc

or_not : (x y : Bool) → (x || not y) ≡ true → y ≡ true → x ≡ true
or_not true y is filled = refl
or_not false true is filled = absurd cc
or_not false false is filled = absurd cc

not_true : (x : Bool) → not x ≡ true → x ≡ true → ⊥
not_true true false_too is = absurd cc
not_true false false_too is = absurd cc

behind_token : {room : ℕ} {ss : List Symbol} (k : TokenKind) (r : List TokenKind) → Derives room ss r → (ends_in_else r ≡ true → ⊥) →
    goes_on ss || not (is_else k) ≡ true → ends_in_else (k ∷ r) ≡ true → ⊥
behind_token {ss = ss} k [] d later leads e = led_some d (or_not (goes_on ss) (is_else k) leads e) refl
behind_token k (j ∷ r) d later leads e = later e

-- a class without `else` has none
class_of : (test : TokenKind → Bool) (k : TokenKind) → not (test token.Else) ≡ true → test k ≡ true → is_else k ≡ true → ⊥
class_of test token.Else never is e = not_true (test token.Else) never is
class_of test _ never is e = absurd cc

behind_class : (test : TokenKind → Bool) (k : TokenKind) (r : List TokenKind) → (ends_in_else r ≡ true → ⊥) → not (test token.Else) ≡ true → test k ≡ true →
    ends_in_else (k ∷ r) ≡ true → ⊥
behind_class test k [] later never is e = class_of test k never is e
behind_class test k (j ∷ r) later never is e = later e

no_else : {room : ℕ} {ss : List Symbol} {ks : List TokenKind} → Derives room ss ks → each_else_leads ss ≡ true → ends_in_else ks ≡ true → ⊥
no_else nothing leads e = absurd cc
no_else (token_of {k = k} {rest = ss} {r = r} d) leads e =
    let both = both_true (goes_on ss || not (is_else k)) (each_else_leads ss) leads in
    behind_token k r d (λ later. no_else d both.1 later) both.0 e
no_else (token_among {test = test} {k = k} {rest = ss} {r = r} is d) leads e =
    let both = both_true (not (test token.Else)) (each_else_leads ss) leads in
    behind_class test k r (λ later. no_else d both.1 later) both.0 is e
no_else (whole_part {l = l} {r = r} is d c) leads e =
    elim (end_of_joined l r e) [
      | inl later ↦ no_else c leads later
      | inr here ↦ no_else d (production_leads is) here.1
    ]
no_else (whole_deep {l = l} {r = r} is d c) leads e =
    elim (end_of_joined l r e) [
      | inl later ↦ no_else c leads later
      | inr here ↦ no_else d (production_leads is) here.1
    ]

pub no_snippet_ends : (room : ℕ) (ks : List TokenKind) → IsWhole table.snippet room (ks ++ token.Else ∷ []) → ⊥
no_snippet_ends room ks (whole p is d) = no_else d (production_leads is) (put_else ks)
