-- Tokens that are what the symbols of a production stand for, and how that goes with what the table derives.
use Rattle.std.proofs.Common.{◌≡◌, ℕ, suc, Bool, true, List, [], ◌∷◌, ◌++◌, refl, sym, subst, append-nil}
use Rattle.std.proofs.lemmas.List.{map-append}
use Rattle.jsh_tree.specs.declared.token.Token.{Token}
use Rattle.jsh_tree.specs.declared.token.TokenKind.{TokenKind}
use Rattle.jsh_grammar.specs.Productions.{Part, Symbol, IsProduction}
use Rattle.jsh_grammar.specs.Productions as table
use Rattle.jsh_grammar.specs.Fronts.{Derives, IsWhole, whole}
use Rattle.jsh_grammar.specs.Fronts as fronts
use Rattle.jsh_recognizer.specs.Recognizing.{kinds}

-- The tokens stand for these symbols, where something is known of each token and of the tokens of each part.
pub data AreSymbols (Known : Token → Type 0) (Is : Part → ℕ → List Token → Type 0) : ℕ → List Symbol → List Token → Type 0 where
  none : {room : ℕ} → AreSymbols Known Is room [] []
  one : {room : ℕ} {k : TokenKind} {rest : List Symbol} {r : List Token} (t : Token) →
      t.kind ≡ k → Known t → AreSymbols Known Is room rest r → AreSymbols Known Is room (table.a k ∷ rest) (t ∷ r)
  among : {room : ℕ} {test : TokenKind → Bool} {rest : List Symbol} {r : List Token} (t : Token) →
      test t.kind ≡ true → Known t → AreSymbols Known Is room rest r → AreSymbols Known Is room (table.any test ∷ rest) (t ∷ r)
  in_part : {room : ℕ} {n : Part} {rest : List Symbol} {l r : List Token} →
      Is n room l → AreSymbols Known Is room rest r → AreSymbols Known Is room (table.part n ∷ rest) (l ++ r)
  in_deep : {room : ℕ} {n : Part} {rest : List Symbol} {l r : List Token} →
      Is n room l → AreSymbols Known Is (suc room) rest r → AreSymbols Known Is (suc room) (table.deep n ∷ rest) (l ++ r)

-- of each token of a list something is known
abbrev pub AllKnown : (Token → Type 0) → List Token → Type 0
AllKnown Known [] = Unit {0}
AllKnown Known (t ∷ ts) = Known t × AllKnown Known ts

-- ---- what tokens derive

pub kinds-append : (l r : List Token) → kinds (l ++ r) ≡ kinds l ++ kinds r
kinds-append l r = map-append (λ t. t.kind) l r

-- the tokens are a whole part, by their kinds
pub record Whole (n : Part) (room : ℕ) (ts : List Token) : Type 0 where
  pub is : IsWhole n room (kinds ts)

-- nothing has to be known
abbrev pub Anything : Token → Type 0
Anything t = Unit {0}

-- tokens that stand for symbols, part by part a whole one
abbrev pub AreWhole : ℕ → List Symbol → List Token → Type 0
AreWhole room p ts = AreSymbols Anything Whole room p ts

part_first : {room : ℕ} {n : Part} {rest : List Symbol} {l r : List TokenKind} → IsWhole n room l → Derives room rest r →
    Derives room (table.part n ∷ rest) (l ++ r)
part_first (whole p is d) rest = fronts.whole_part is d rest

deep_first : {room : ℕ} {n : Part} {rest : List Symbol} {l r : List TokenKind} → IsWhole n room l → Derives (suc room) rest r →
    Derives (suc room) (table.deep n ∷ rest) (l ++ r)
deep_first (whole p is d) rest = fronts.whole_deep is d rest

pub derives : {room : ℕ} {p : List Symbol} {ts : List Token} → AreWhole room p ts → Derives room p (kinds ts)
derives none = fronts.nothing
derives (one t same known rest) = rw same (fronts.token_of (derives rest))
derives (among t passes known rest) = fronts.token_among passes (derives rest)
derives (in_part {l = l} {r = r} w rest) = rw (kinds-append l r) (part_first w.is (derives rest))
derives (in_deep {l = l} {r = r} w rest) = rw (kinds-append l r) (deep_first w.is (derives rest))

-- tokens that stand for the symbols of a production are a whole part
pub produced : {n : Part} {room : ℕ} {p : List Symbol} {ts : List Token} → IsProduction n p → AreWhole room p ts → Whole n room ts
produced is d = record { is = whole _ is (derives d) }

pub at_last : {Known : Token → Type 0} {Is : Part → ℕ → List Token → Type 0} {room : ℕ} {n : Part} {l : List Token} →
    Is n room l → AreSymbols Known Is room (table.part n ∷ []) l
at_last {Known = Known} {Is = Is} {room = room} {n = n} {l = l} is =
    subst (λ (ts : List Token). AreSymbols Known Is room (table.part n ∷ []) ts) (append-nil l) (in_part is none)

-- a part that is one deeper
pub data IsDeeper (n : Part) : ℕ → List Token → Type 0 where
  deeper : {room : ℕ} {ts : List Token} → Whole n room ts → IsDeeper n (suc room) ts

pub then_deeper : {n : Part} {room : ℕ} {rest : List Symbol} {l r : List Token} →
    IsDeeper n room l → AreWhole room rest r → AreWhole room (table.deep n ∷ rest) (l ++ r)
then_deeper (deeper is) rest = in_deep is rest

pub deeper_last : {n : Part} {room : ℕ} {l : List Token} → IsDeeper n room l → AreWhole room (table.deep n ∷ []) l
deeper_last {n = n} {room = room} {l = l} is =
    subst (λ (ts : List Token). AreWhole room (table.deep n ∷ []) ts) (append-nil l) (then_deeper is none)

pub deep_last : {n : Part} {room : ℕ} {l : List Token} → Whole n room l → AreWhole (suc room) (table.deep n ∷ []) l
deep_last is = deeper_last (deeper is)

-- ---- what is derived

-- the tokens of two lists of kinds
pub record InTwo (l r : List TokenKind) (ts : List Token) : Type 0 where
  pub front : List Token
  pub back : List Token
  pub parts : ts ≡ front ++ back
  pub first : kinds front ≡ l
  pub second : kinds back ≡ r

pub in_two : (l r : List TokenKind) (ts : List Token) → kinds ts ≡ l ++ r → InTwo l r ts
in_two [] r ts same = record { front = []; back = ts; parts = refl; first = refl; second = same }
in_two (k ∷ l) r [] same = cc
in_two (k ∷ l) r (t ∷ ts) same =
    let both : InTwo l r ts = in_two l r ts cc in
    record { front = t ∷ both.front; back = both.back; parts = cc; first = cc; second = both.second }

pub known_front : (Known : Token → Type 0) (l r : List Token) → AllKnown Known (l ++ r) → AllKnown Known l
known_front Known [] r known = tt
known_front Known (t ∷ l) r known = (known.0, known_front Known l r known.1)

pub known_back : (Known : Token → Type 0) (l r : List Token) → AllKnown Known (l ++ r) → AllKnown Known r
known_back Known [] r known = known
known_back Known (t ∷ l) r known = known_back Known l r known.1

-- how something that holds of the tokens of each part of a production holds of its own
abbrev pub IsStep : (Token → Type 0) → (Part → ℕ → List Token → Type 0) → Type 0
IsStep Known Is =
    (n : Part) (p : List Symbol) (room : ℕ) (ts : List Token) → IsProduction n p → Whole n room ts → AllKnown Known ts →
    AreSymbols Known Is room p ts → Is n room ts

-- What holds of the tokens of each production, where it holds of those of its parts, holds of what is derived.
pub by_productions : {Known : Token → Type 0} {Is : Part → ℕ → List Token → Type 0} → IsStep Known Is →
    {room : ℕ} {p : List Symbol} {ks : List TokenKind} → Derives room p ks → (ts : List Token) → kinds ts ≡ ks → AllKnown Known ts →
    AreSymbols Known Is room p ts
by_productions step fronts.nothing [] same known = none
by_productions step fronts.nothing (t ∷ ts) same known = cc
by_productions step (fronts.token_of d) [] same known = cc
by_productions step (fronts.token_of d) (t ∷ ts) same known = one t (cc) known.0 (by_productions step d ts (cc) known.1)
by_productions step (fronts.token_among passes d) [] same known = cc
by_productions step (fronts.token_among {test = test} {k = k} passes d) (t ∷ ts) same known =
    let first : t.kind ≡ k = cc in
    among t (rw first passes) known.0 (by_productions step d ts (cc) known.1)
by_productions {Known = Known} {Is = Is} step (fronts.whole_part {room = room} {n = n} {p = p} {rest = rest} {l = l} {r = r} is d e) ts same known =
    let both : InTwo l r ts = in_two l r ts same in
    let are : AllKnown Known (both.front ++ both.back) = subst (AllKnown Known) both.parts known in
    let first = by_productions step d both.front both.first (known_front Known both.front both.back are) in
    let second = by_productions step e both.back both.second (known_back Known both.front both.back are) in
    let front : Whole n room both.front = record { is = whole p is (subst (Derives room p) (sym both.first) d) } in
    let found : Is n room both.front = step n p room both.front is front (known_front Known both.front both.back are) first in
    subst (AreSymbols Known Is room (table.part n ∷ rest)) (sym both.parts) (in_part found second)
by_productions {Known = Known} {Is = Is} step (fronts.whole_deep {room = room} {n = n} {p = p} {rest = rest} {l = l} {r = r} is d e) ts same known =
    let both : InTwo l r ts = in_two l r ts same in
    let are : AllKnown Known (both.front ++ both.back) = subst (AllKnown Known) both.parts known in
    let first = by_productions step d both.front both.first (known_front Known both.front both.back are) in
    let second = by_productions step e both.back both.second (known_back Known both.front both.back are) in
    let front : Whole n room both.front = record { is = whole p is (subst (Derives room p) (sym both.first) d) } in
    let found : Is n room both.front = step n p room both.front is front (known_front Known both.front both.back are) first in
    subst (AreSymbols Known Is (suc room) (table.deep n ∷ rest)) (sym both.parts) (in_deep found second)

-- so it is with a whole part
pub by_whole : {Known : Token → Type 0} {Is : Part → ℕ → List Token → Type 0} → IsStep Known Is →
    (n : Part) (room : ℕ) (ts : List Token) → IsWhole n room (kinds ts) → AllKnown Known ts → Is n room ts
by_whole {Is = Is} step n room ts w known = at w refl
  where
    at : {ks : List TokenKind} → IsWhole n room ks → kinds ts ≡ ks → Is n room ts
    at (whole p is d) same = step n p room ts is (record { is = whole p is (rw same d) }) known (by_productions step d ts same known)
