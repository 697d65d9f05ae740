-- A stack that has all its symbols in one room derives what the symbols derive, and begins with its fronts.
use Rattle.std.proofs.Common.{◌≡◌, ◌↔◌, ℕ, ◌⊎◌, List, [], ◌∷◌, ◌++◌, inl, inr, refl, sym, ap, ◌∙◌, subst, append_assoc, append-nil}
use Rattle.jsh_tree.specs.declared.token.TokenKind.{TokenKind}
use Rattle.jsh_grammar.specs.Productions.{Symbol, part, deep}
use Rattle.jsh_grammar.specs.Fronts.{Derives, nothing, token_of, token_among, whole_part, whole_deep, IsFront, between, in_part, in_deep}
use Rattle.jsh_grammar.specs.Leads.{in_room, Leads, stops, leads_token, leads_among, leads_part, leads_deep, Fulfils, ends, fulfils_token, fulfils_among, fulfils_part, fulfils_deep}
use Rattle.jsh_grammar.proofs.Derived.{appended, part_alone, deep_alone, front_behind, front_before, front_empty, inside_part, inside_deep}

-- the stack of one list of symbols and of another behind it, over the rest
stacked : (room : ℕ) (first ss : List Symbol) (stack : List (ℕ × Symbol)) →
    in_room room (first ++ ss) ++ stack ≡ in_room room first ++ (in_room room ss ++ stack)
stacked room [] ss stack = refl
stacked room (s ∷ first) ss stack = ap (λ x. (room, s) ∷ x) (stacked room first ss stack)

-- ---- from the symbols to the stack

-- what the symbols derive comes off the stack
pub fulfils_behind : {room : ℕ} {ss : List Symbol} {l : List TokenKind} → Derives room ss l → (stack : List (ℕ × Symbol)) (r : List TokenKind) →
    Fulfils stack r → Fulfils (in_room room ss ++ stack) (l ++ r)
fulfils_behind nothing stack r f = f
fulfils_behind (token_of d) stack r f = fulfils_token (fulfils_behind d stack r f)
fulfils_behind (token_among is d) stack r f = fulfils_among is (fulfils_behind d stack r f)
fulfils_behind {room = room} (whole_part {rest = ss} {l = l} {r = m} is d c) stack r f =
    rw (append_assoc l m r) (fulfils_part is (fulfils_behind d (in_room room ss ++ stack) (m ++ r) (fulfils_behind c stack r f)))
fulfils_behind {room = room} (whole_deep {rest = ss} {l = l} {r = m} is d c) stack r f =
    rw (append_assoc l m r) (fulfils_deep is (fulfils_behind d (in_room room ss ++ stack) (m ++ r) (fulfils_behind c stack r f)))

-- behind what the symbols derive the rest of the stack leads on
pub leads_behind : {room : ℕ} {ss : List Symbol} {l : List TokenKind} → Derives room ss l → (stack : List (ℕ × Symbol)) (r : List TokenKind) →
    Leads stack r → Leads (in_room room ss ++ stack) (l ++ r)
leads_behind nothing stack r f = f
leads_behind (token_of d) stack r f = leads_token (leads_behind d stack r f)
leads_behind (token_among is d) stack r f = leads_among is (leads_behind d stack r f)
leads_behind {room = room} (whole_part {rest = ss} {l = l} {r = m} is d c) stack r f =
    rw (append_assoc l m r) (leads_part is (leads_behind d (in_room room ss ++ stack) (m ++ r) (leads_behind c stack r f)))
leads_behind {room = room} (whole_deep {rest = ss} {l = l} {r = m} is d c) stack r f =
    rw (append_assoc l m r) (leads_deep is (leads_behind d (in_room room ss ++ stack) (m ++ r) (leads_behind c stack r f)))

-- a front comes off the stack
pub leads_front : {room : ℕ} {ss : List Symbol} {ks : List TokenKind} → IsFront room ss ks → (stack : List (ℕ × Symbol)) → Leads (in_room room ss ++ stack) ks
leads_front {room = room} (between {first = first} {l = l} rest d some) stack =
    rw (stacked room first rest stack) (subst (Leads _) (append-nil l) (leads_behind d (in_room room rest ++ stack) [] stops))
leads_front {room = room} (in_part {n = n} {first = first} {l = l} {r = r} rest d is front some) stack =
    rw (stacked room first (part n ∷ rest) stack)
    (leads_behind d (in_room room (part n ∷ rest) ++ stack) r (leads_part is (leads_front front (in_room room rest ++ stack))))
leads_front {room = room} (in_deep {n = n} {first = first} {l = l} {r = r} rest d is front some) stack =
    rw (stacked room first (deep n ∷ rest) stack)
    (leads_behind d (in_room room (deep n ∷ rest) ++ stack) r (leads_deep is (leads_front front (in_room room rest ++ stack))))

-- ---- from the stack to the symbols

-- each symbol of the stack derives a part of these kinds
data Taken : List (ℕ × Symbol) → List TokenKind → Type 0 where
  all_taken : Taken [] []
  one_taken : {room : ℕ} {s : Symbol} {stack : List (ℕ × Symbol)} {l r : List TokenKind} →
      Derives room (s ∷ []) l → Taken stack r → Taken ((room, s) ∷ stack) (l ++ r)

-- the first symbols of the stack derive a part of these kinds each, and the next has what is left as a front, or nothing is left
data Reached : List (ℕ × Symbol) → List TokenKind → Type 0 where
  reached_here : {stack : List (ℕ × Symbol)} → Reached stack []
  one_passed : {room : ℕ} {s : Symbol} {stack : List (ℕ × Symbol)} {l r : List TokenKind} →
      Derives room (s ∷ []) l → Reached stack r → Reached ((room, s) ∷ stack) (l ++ r)
  reached_in : {room : ℕ} {s : Symbol} {stack : List (ℕ × Symbol)} {ks : List TokenKind} → IsFront room (s ∷ []) ks → Reached ((room, s) ∷ stack) ks

-- what a list of symbols takes, and what the stack behind it takes
TakenApart : ℕ → List Symbol → List (ℕ × Symbol) → List TokenKind → Type 0
TakenApart room ss stack ks = (l r : List TokenKind) × (ks ≡ l ++ r) × Derives room ss l × Taken stack r

-- what a list of symbols passes, and what the stack behind it reaches
ReachedApart : ℕ → List Symbol → List (ℕ × Symbol) → List TokenKind → Type 0
ReachedApart room ss stack ks = (l r : List TokenKind) × (ks ≡ l ++ r) × Derives room ss l × Reached stack r

apart_taken : (room : ℕ) (ss : List Symbol) (stack : List (ℕ × Symbol)) {ks : List TokenKind} → Taken (in_room room ss ++ stack) ks →
    TakenApart room ss stack ks
unfolding TakenApart
apart_taken room [] stack {ks} t = ([], ks, refl, nothing, t)
apart_taken room (s ∷ ss) stack (one_taken {l = l} d t) =
    let h = apart_taken room ss stack t in (l ++ h.0, h.1, ap (λ x. l ++ x) h.2 ∙ sym (append_assoc l h.0 h.1), appended d h.3, h.4)

apart_reached : (room : ℕ) (ss : List Symbol) (stack : List (ℕ × Symbol)) {ks : List TokenKind} → Reached (in_room room ss ++ stack) ks →
    ReachedApart room ss stack ks ⊎ IsFront room ss ks
unfolding ReachedApart
apart_reached room [] stack {ks} t = inl ([], ks, refl, nothing, t)
apart_reached room (s ∷ ss) stack reached_here = inr front_empty
apart_reached room (s ∷ ss) stack (one_passed {l = l} d t) = elim (apart_reached room ss stack t) [
  | inl h ↦ inl (l ++ h.0, h.1, ap (λ x. l ++ x) h.2 ∙ sym (append_assoc l h.0 h.1), appended d h.3, h.4)
  | inr f ↦ inr (front_behind d f)
]
apart_reached room (s ∷ ss) stack (reached_in f) = inr (front_before f ss)

taken : {stack : List (ℕ × Symbol)} {ks : List TokenKind} → Fulfils stack ks → Taken stack ks
unfolding TakenApart
taken ends = all_taken
taken (fulfils_token f) = one_taken (token_of nothing) (taken f)
taken (fulfils_among is f) = one_taken (token_among is nothing) (taken f)
taken (fulfils_part {room = room} {p = p} {stack = stack} is f) =
    let h = apart_taken room p stack (taken f) in subst (Taken _) (sym h.2) (one_taken (part_alone is h.3) h.4)
taken (fulfils_deep {room = room} {p = p} {stack = stack} is f) =
    let h = apart_taken room p stack (taken f) in subst (Taken _) (sym h.2) (one_taken (deep_alone is h.3) h.4)

reached : {stack : List (ℕ × Symbol)} {ks : List TokenKind} → Leads stack ks → Reached stack ks
unfolding ReachedApart
reached stops = reached_here
reached (leads_token f) = one_passed (token_of nothing) (reached f)
reached (leads_among is f) = one_passed (token_among is nothing) (reached f)
reached (leads_part {room = room} {p = p} {stack = stack} {ks = ks} is f) = elim (apart_reached room p stack (reached f)) [
  | inl h ↦ subst (Reached _) (sym h.2) (one_passed (part_alone is h.3) h.4)
  | inr front ↦ reached_in (inside_part is ks front [])
]
reached (leads_deep {room = room} {p = p} {stack = stack} {ks = ks} is f) = elim (apart_reached room p stack (reached f)) [
  | inl h ↦ subst (Reached _) (sym h.2) (one_passed (deep_alone is h.3) h.4)
  | inr front ↦ reached_in (inside_deep is ks front [])
]

-- ---- both ways

none_taken : {r : List TokenKind} → Taken [] r → r ≡ []
none_taken all_taken = refl

none_reached : {r : List TokenKind} → Reached [] r → r ≡ []
none_reached reached_here = refl

-- a stack in one room is used up by what the symbols derive
pub stack_whole : (room : ℕ) (ss : List Symbol) (ks : List TokenKind) → Fulfils (in_room room ss) ks ↔ Derives room ss ks
unfolding TakenApart
stack_whole room ss ks = (out, back)
  where
    out : Fulfils (in_room room ss) ks → Derives room ss ks
    out f = let h = apart_taken room ss [] (subst (λ stack. Taken stack ks) (sym (append-nil (in_room room ss))) (taken f)) in
        subst (Derives room ss) (sym (h.2 ∙ ap (λ x. h.0 ++ x) (none_taken h.4) ∙ append-nil h.0)) h.3

    back : Derives room ss ks → Fulfils (in_room room ss) ks
    back d = subst (λ stack. Fulfils stack ks) (append-nil (in_room room ss)) (subst (Fulfils _) (append-nil ks) (fulfils_behind d [] [] ends))

-- a stack in one room leads over what the symbols derive and over their fronts
pub stack_front : (room : ℕ) (ss : List Symbol) (ks : List TokenKind) → Leads (in_room room ss) ks ↔ (Derives room ss ks ⊎ IsFront room ss ks)
unfolding ReachedApart
stack_front room ss ks = (out, back)
  where
    apart : ReachedApart room ss [] ks ⊎ IsFront room ss ks → Derives room ss ks ⊎ IsFront room ss ks
    apart (inl h) = inl (subst (Derives room ss) (sym (h.2 ∙ ap (λ x. h.0 ++ x) (none_reached h.4) ∙ append-nil h.0)) h.3)
    apart (inr f) = inr f

    out : Leads (in_room room ss) ks → Derives room ss ks ⊎ IsFront room ss ks
    out f = apart (apart_reached room ss [] (subst (λ stack. Reached stack ks) (sym (append-nil (in_room room ss))) (reached f)))

    back : Derives room ss ks ⊎ IsFront room ss ks → Leads (in_room room ss) ks
    back (inl d) = subst (λ stack. Leads stack ks) (append-nil (in_room room ss)) (subst (Leads _) (append-nil ks) (leads_behind d [] [] stops))
    back (inr f) = subst (λ stack. Leads stack ks) (append-nil (in_room room ss)) (leads_front f [])
