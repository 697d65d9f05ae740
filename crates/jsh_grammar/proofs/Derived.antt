-- Derivations with more room, one behind another, and cut short.
use Rattle.std.proofs.Common.{◌≡◌, ◌≢◌, ℕ, zero, suc, ◌≤◌, ◌⊎◌, true, List, [], ◌∷◌, ◌++◌, inl, inr, refl, sym, subst, append_assoc, append-nil, arith}
use Rattle.jsh_tree.specs.declared.token.TokenKind.{TokenKind}
use Rattle.jsh_grammar.specs.Productions.{Part, Symbol, a, part, deep, IsProduction}
use Rattle.jsh_grammar.specs.Fronts.{Derives, nothing, token_of, token_among, whole_part, whole_deep, IsFront, between, in_part, in_deep}

-- room can grow
pub grows : {room : ℕ} {ss : List Symbol} {ks : List TokenKind} → Derives room ss ks → (more : ℕ) → room ≤ more → Derives more ss ks
grows nothing more le = nothing
grows (token_of d) more le = token_of (grows d more le)
grows (token_among is d) more le = token_among is (grows d more le)
grows (whole_part is d e) more le = whole_part is (grows d more le) (grows e more le)
grows (whole_deep is d e) zero le = absurd (omega arith)
grows (whole_deep is d e) (suc more) le = whole_deep is (grows d more (omega arith)) (grows e (suc more) le)

-- one list of symbols behind another
pub appended : {room : ℕ} {first rest : List Symbol} {l r : List TokenKind} → Derives room first l → Derives room rest r → Derives room (first ++ rest) (l ++ r)
appended nothing e = e
appended (token_of d) e = token_of (appended d e)
appended (token_among is d) e = token_among is (appended d e)
appended {r = r} (whole_part {l = l} {r = m} is c d) e = rw (append_assoc l m r) (whole_part is c (appended d e))
appended {r = r} (whole_deep {l = l} {r = m} is c d) e = rw (append_assoc l m r) (whole_deep is c (appended d e))

-- a part alone
pub part_alone : {room : ℕ} {n : Part} {p : List Symbol} {ks : List TokenKind} → IsProduction n p → Derives room p ks → Derives room (part n ∷ []) ks
part_alone {ks = ks} is d = subst (Derives _ _) (append-nil ks) (whole_part is d nothing)

-- a deep part alone
pub deep_alone : {room : ℕ} {n : Part} {p : List Symbol} {ks : List TokenKind} → IsProduction n p → Derives room p ks → Derives (suc room) (deep n ∷ []) ks
deep_alone {ks = ks} is d = subst (Derives _ _) (append-nil ks) (whole_deep is d nothing)

-- a front behind what is whole
pub front_behind : {room : ℕ} {first ss : List Symbol} {l ks : List TokenKind} → Derives room first l → IsFront room ss ks →
    IsFront room (first ++ ss) (l ++ ks)
front_behind {first = first} d (between {first = f} rest e some) = rw (sym (append_assoc first f rest)) (between rest (appended d e) some)
front_behind {first = first} {l = l} d (in_part {n = n} {first = f} {l = m} {r = r} rest e is front some) =
    rw (sym (append_assoc first f (part n ∷ rest)), sym (append_assoc l m r)) (in_part rest (appended d e) is front some)
front_behind {first = first} {l = l} d (in_deep {n = n} {first = f} {l = m} {r = r} rest e is front some) =
    rw (sym (append_assoc first f (deep n ∷ rest)), sym (append_assoc l m r)) (in_deep rest (appended d e) is front some)

-- a front of some symbols where others stand behind them
pub front_before : {room : ℕ} {ss : List Symbol} {ks : List TokenKind} → IsFront room ss ks → (more : List Symbol) → IsFront room (ss ++ more) ks
front_before (between {first = f} [] d some) more = absurd (some refl)
front_before (between {first = f} (s ∷ rest) d some) more = rw (append_assoc f (s ∷ rest) more) (between (s ∷ rest ++ more) d (λ e. cc))
front_before (in_part {n = n} {first = f} rest d is front some) more = rw (append_assoc f (part n ∷ rest) more) (in_part (rest ++ more) d is front some)
front_before (in_deep {n = n} {first = f} rest d is front some) more = rw (append_assoc f (deep n ∷ rest) more) (in_deep (rest ++ more) d is front some)

-- nothing is a front of what has symbols
pub front_empty : {room : ℕ} {s : Symbol} {ss : List Symbol} → IsFront room (s ∷ ss) []
front_empty {s = s} {ss = ss} = between {first = []} (s ∷ ss) nothing (λ e. cc)

-- a list in two ways in two pieces: the first piece of one goes on in the other
pub pieces : (l r ks rest : List TokenKind) → l ++ r ≡ ks ++ rest →
    ((m : List TokenKind) × (m ≢ []) × (l ≡ ks ++ m)) ⊎ ((m : List TokenKind) × (ks ≡ l ++ m) × (r ≡ m ++ rest))
pieces [] r ks rest e = inr (ks, refl, e)
pieces (k ∷ l) r [] rest e = inl (k ∷ l, λ h. cc, refl)
pieces (k ∷ l) r (j ∷ ks) rest e = at (pieces l r ks rest cc)
  where
    at : ((m : List TokenKind) × (m ≢ []) × (l ≡ ks ++ m)) ⊎ ((m : List TokenKind) × (ks ≡ l ++ m) × (r ≡ m ++ rest)) →
        ((m : List TokenKind) × (m ≢ []) × (k ∷ l ≡ (j ∷ ks) ++ m)) ⊎ ((m : List TokenKind) × (j ∷ ks ≡ (k ∷ l) ++ m) × (r ≡ m ++ rest))
    at (inl h) = inl (h.0, h.1, cc)
    at (inr h) = inr (h.0, cc, h.2)

-- a front of a production is one of the part
pub inside_part : {room : ℕ} {n : Part} {p : List Symbol} → IsProduction n p → (ks : List TokenKind) → IsFront room p ks →
    (rest : List Symbol) → IsFront room (part n ∷ rest) ks
inside_part is [] front rest = front_empty
inside_part is (k ∷ ks) front rest = in_part {first = []} rest nothing is front (λ e. cc)

-- a front of a production is one of the deep part
pub inside_deep : {room : ℕ} {n : Part} {p : List Symbol} → IsProduction n p → (ks : List TokenKind) → IsFront room p ks →
    (rest : List Symbol) → IsFront (suc room) (deep n ∷ rest) ks
inside_deep is [] front rest = front_empty
inside_deep is (k ∷ ks) front rest = in_deep {first = []} rest nothing is front (λ e. cc)

-- what leaves something out at the end of what is whole is a front
pub cut : {room : ℕ} {ss : List Symbol} {all : List TokenKind} → Derives room ss all → (ks rest : List TokenKind) → rest ≢ [] → all ≡ ks ++ rest →
    IsFront room ss ks
cut nothing [] rest some e = absurd (some (sym e))
cut nothing (k ∷ ks) rest some e = absurd cc
cut (token_of d) [] rest some e = front_empty
cut {room = room} (token_of {k = j} d) (k ∷ ks) rest some e =
    let same : j ≡ k = cc in front_behind (subst (λ x. Derives room (a j ∷ []) (x ∷ [])) same (token_of nothing)) (cut d ks rest some cc)
cut (token_among is d) [] rest some e = front_empty
cut (token_among {test = test} {k = j} is d) (k ∷ ks) rest some e =
    let same : j ≡ k = cc in front_behind (token_among (subst (λ x. test x ≡ true) same is) nothing) (cut d ks rest some cc)
cut (whole_part {rest = ss} {l = l} {r = r} is d c) ks rest some e = elim (pieces l r ks rest e) [
  | inl h ↦ inside_part is ks (cut d ks h.0 h.1 h.2) ss
  | inr h ↦ subst (IsFront _ _) (sym h.1) (front_behind (part_alone is d) (cut c h.0 rest some h.2))
]
cut (whole_deep {rest = ss} {l = l} {r = r} is d c) ks rest some e = elim (pieces l r ks rest e) [
  | inl h ↦ inside_deep is ks (cut d ks h.0 h.1 h.2) ss
  | inr h ↦ subst (IsFront _ _) (sym h.1) (front_behind (deep_alone is d) (cut c h.0 rest some h.2))
]
