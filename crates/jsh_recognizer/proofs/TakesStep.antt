-- What the recognizer's moves have to do so that nothing right is refused, and what a stack leads to behind its first symbols.
use Rattle.std.proofs.Common.{◌≡◌, ℕ, suc, ◌+◌, ◌≤◌, Bool, false, List, [], ◌∷◌, ◌++◌, map, refl, sym, ap, subst, ◌∙◌, append_assoc, arith}
use Rattle.jsh_tree.specs.declared.token.TokenKind.{TokenKind}
use Rattle.jsh_grammar.specs.Productions.{Part, a, any, part, deep}
use Rattle.jsh_grammar.specs.Leads.{in_room}
use Rattle.jsh_recognizer.specs.declared.frame.Frame.{Frame}
use Rattle.jsh_recognizer.specs.Machine.{Move, takes, passes, inside, Frames, onto}
use Rattle.jsh_recognizer.proofs.TakesOrder.{Orderly}
use Rattle.jsh_recognizer.specs.Meanings.{Stack, Follows, so_far, all_read, by_token, by_class, by_part, by_deep, IsPartOf, Means, a_deep_frame}

-- The move takes a token at this depth, and the frames that then stand there mean what follows.
pub data Takes (limit : ℕ) (whole : Bool) (depth : ℕ) (fs : Frames) (ks : List TokenKind) : Move → Type 0 where
  took : {n : ℕ} {new : List (ℕ × Frame)} {closed : Bool} {left : Stack} → depth + n ≤ limit → Orderly (onto depth new fs) →
      Means limit closed (onto depth new fs) left → Follows whole left ks → Takes limit whole depth fs ks (takes n new)

-- The move takes the token, or it passes and the token is one of what stands behind.
pub data FStep (limit : ℕ) (whole : Bool) (depth : ℕ) (fs : Frames) (stack : Stack) (k : TokenKind) (ks : List TokenKind) : Move → Type 0 where
  taking : {m : Move} → Takes limit whole depth fs ks m → FStep limit whole depth fs stack k ks m
  past : Follows whole stack (k ∷ ks) → FStep limit whole depth fs stack k ks passes

-- ---- frames one behind another, and deeper

-- frames of frames that stand deeper
pub onto_inside : (depth n : ℕ) (new more : List (ℕ × Frame)) (fs : Frames) →
    onto (depth + n) new (onto depth more fs) ≡ onto depth (map (λ f. (n + f.0, f.1)) new ++ more) fs
onto_inside depth n [] more fs = refl
onto_inside depth n (f ∷ new) more fs =
    let same : (depth + n) + f.0 ≡ depth + (n + f.0) = omega arith in
    ap (λ d. (d, f.1) ∷ onto (depth + n) new (onto depth more fs)) same ∙ ap (λ x. (depth + (n + f.0), f.1) ∷ x) (onto_inside depth n new more fs)

-- what a move takes that stands deeper, with frames behind it
pub takes_inside : {limit : ℕ} {whole : Bool} {depth : ℕ} {fs : Frames} {ks : List TokenKind} {m : Move} (n : ℕ) (more : List (ℕ × Frame)) →
    Takes limit whole (depth + n) (onto depth more fs) ks m → Takes limit whole depth fs ks (inside n more m)
takes_inside {limit = limit} {depth = depth} {fs = fs} n more (took {n = own} {new = new} {closed = closed} {left = left} le order means follows) =
    took (omega (arith, le)) (subst Orderly (onto_inside depth n new more fs) order) (subst (λ x. Means limit closed x left) (onto_inside depth n new more fs) means)
    follows

-- a frame of a deep part, at its depth
pub deep_frame : {limit at room : ℕ} {closed : Bool} {f : Frame} {n : Part} {fs : Frames} {stack : Stack} (depth : ℕ) → at ≡ suc depth → depth + room ≡ limit →
    IsPartOf f n → Means limit closed fs stack → Means limit false ((at, f) ∷ fs) ((room, deep n) ∷ stack)
deep_frame {limit = limit} {room = room} {f = f} {n = n} {fs = fs} {stack = stack} depth at e is means =
    subst (λ d. Means limit false ((d, f) ∷ fs) ((room, deep n) ∷ stack)) (sym at) (a_deep_frame e is means)

-- ---- what a stack leads to behind its first symbols

-- What is left behind the first symbols, and how it goes on where other symbols stand there.
abbrev pub Split : Bool → Stack → Stack → List TokenKind → Type 0
Split whole first x ks = (r : List TokenKind) × Follows whole x r × ((y : Stack) → Follows whole y r → Follows whole (first ++ y) ks)

split_at : {whole : Bool} {all : Stack} {ks : List TokenKind} → Follows whole all ks → (first x : Stack) → all ≡ first ++ x → Split whole first x ks
split_at {whole} {all} {ks} f [] x e = (ks, subst (λ z. Follows whole z ks) e f, λ y g. g)
split_at so_far (s ∷ first) x e = ([], so_far, λ y g. so_far)
split_at all_read (s ∷ first) x e = absurd cc
split_at {whole} (by_token {room = room} {k = k} {stack = stack} {ks = ks} f) (s ∷ first) x e =
    let same : (room, a k) ≡ s = cc in
    let h = split_at f first x cc in
    (h.0, h.1, λ y g. subst (λ z. Follows whole (z ∷ (first ++ y)) (k ∷ ks)) same (by_token (h.2 y g)))
split_at {whole} (by_class {room = room} {test = test} {k = k} {stack = stack} {ks = ks} is f) (s ∷ first) x e =
    let same : (room, any test) ≡ s = cc in
    let h = split_at f first x cc in
    (h.0, h.1, λ y g. subst (λ z. Follows whole (z ∷ (first ++ y)) (k ∷ ks)) same (by_class is (h.2 y g)))
split_at {whole} {ks = ks} (by_part {room = room} {n = n} {p = p} {stack = stack} is f) (s ∷ first) x e =
    let same : (room, part n) ≡ s = cc in
    let rest : stack ≡ first ++ x = cc in
    let h = split_at f (in_room room p ++ first) x (ap (λ z. in_room room p ++ z) rest ∙ sym (append_assoc (in_room room p) first x)) in (
      h.0,
      h.1,
      λ y g. subst (λ z. Follows whole (z ∷ (first ++ y)) ks) same
          (by_part is (subst (λ z. Follows whole z ks) (append_assoc (in_room room p) first y) (h.2 y g))),
    )
split_at {whole} {ks = ks} (by_deep {room = room} {n = n} {p = p} {stack = stack} is f) (s ∷ first) x e =
    let same : (suc room, deep n) ≡ s = cc in
    let rest : stack ≡ first ++ x = cc in
    let h = split_at f (in_room room p ++ first) x (ap (λ z. in_room room p ++ z) rest ∙ sym (append_assoc (in_room room p) first x)) in (
      h.0,
      h.1,
      λ y g. subst (λ z. Follows whole (z ∷ (first ++ y)) ks) same
          (by_deep is (subst (λ z. Follows whole z ks) (append_assoc (in_room room p) first y) (h.2 y g))),
    )

-- a stack behind its first symbols
pub split : {whole : Bool} {ks : List TokenKind} (first x : Stack) → Follows whole (first ++ x) ks → Split whole first x ks
split first x f = split_at f first x refl

-- other symbols in place of those behind the first, where these lead to them
pub ahead : {whole : Bool} {ks : List TokenKind} (first x y : Stack) → ((r : List TokenKind) → Follows whole x r → Follows whole y r) →
    Follows whole (first ++ x) ks → Follows whole (first ++ y) ks
ahead first x y to f = let h = split first x f in h.2 y (to h.0 h.1)
