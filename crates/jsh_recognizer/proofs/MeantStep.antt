-- The shape of a step backwards: what frames mean behind a token, in front of it.
use Rattle.std.proofs.Common.{◌≡◌, ℕ, suc, ◌+◌, Bool, true, false, List, [], ◌∷◌, ◌++◌, map, refl, sym, ap, ◌∙◌, subst, append_assoc, arith}
use Rattle.jsh_tree.specs.declared.token.TokenKind.{TokenKind}
use Rattle.jsh_grammar.specs.Productions.{Part, Symbol, part, deep, IsProduction}
use Rattle.jsh_grammar.specs.Leads.{in_room}
use Rattle.jsh_recognizer.specs.declared.frame.Frame.{Frame}
use Rattle.jsh_recognizer.specs.declared.frame.Frame.TheVariants as frame
use Rattle.jsh_recognizer.specs.Machine.{Frames, Move, takes, passes, refuses, inside, onto}
use Rattle.jsh_recognizer.specs.Meanings.{Stack, Follows, so_far, all_read, by_token, by_class, by_part, by_deep, IsPartOf, Own, a_part, Means, nothing, a_frame, a_deep_frame, a_statement, a_deep_statement, no_else, an_else}

-- ---- stacks

-- what follows one stack follows the other
abbrev pub Reads : Stack → Stack → Type 0
Reads s t = (whole : Bool) (ks : List TokenKind) → Follows whole s ks → Follows whole t ks

-- a stack with a token in front of it is read as the other
abbrev pub ReadsBehind : TokenKind → Stack → Stack → Type 0
ReadsBehind k s t = (whole : Bool) (ks : List TokenKind) → Follows whole s ks → Follows whole t (k ∷ ks)

-- a list behind two is one behind the second behind the first
pub appended_assoc : (first second stack : Stack) → (first ++ second) ++ stack ≡ first ++ (second ++ stack)
appended_assoc first second stack = append_assoc first second stack

-- with nothing behind it
pub appended_nothing : (stack : Stack) → stack ++ [] ≡ stack
appended_nothing [] = refl
appended_nothing (s ∷ stack) = ap (λ x. s ∷ x) (appended_nothing stack)

same_pair : {A : Type 0} {p q : ℕ × A} {s t : List (ℕ × A)} → p ∷ s ≡ q ∷ t → p ≡ q
same_pair e = cc

-- the number of the first of a list
pub number_of : {A : Type 0} {n m : ℕ} {x y : A} {s t : List (ℕ × A)} → (n, x) ∷ s ≡ (m, y) ∷ t → n ≡ m
number_of {A = A} {n = n} {m = m} {x = x} {y = y} e = ap (λ p. p.0) (same_pair e)

-- and what it stands for
pub thing_of : {A : Type 0} {n m : ℕ} {x y : A} {s t : List (ℕ × A)} → (n, x) ∷ s ≡ (m, y) ∷ t → x ≡ y
thing_of {A = A} {n = n} {m = m} {x = x} {y = y} e = ap (λ p. p.1) (same_pair e)

same_head : {x y : ℕ × Symbol} {s t : Stack} → x ∷ s ≡ y ∷ t → x ≡ y
same_head e = cc

same_tail : {x y : ℕ × Symbol} {s t : Stack} → x ∷ s ≡ y ∷ t → s ≡ t
same_tail e = cc

set_down : (first : Stack) {x : Stack} (front s : Stack) → x ≡ front ++ s → first ++ x ≡ (first ++ front) ++ s
set_down first front s e = (ap (λ y. first ++ y) e) ∙ (sym (appended_assoc first front s))

-- so too under other symbols
under_at : (front : Stack) {s t : Stack} → Reads s t → (whole : Bool) (full : Stack) (ks : List TokenKind) → Follows whole full ks → full ≡ front ++ s →
    Follows whole (front ++ t) ks
under_at [] reads whole full ks f e = reads whole ks (subst (λ x. Follows whole x ks) e f)
under_at (x ∷ front) reads _ _ _ so_far e = so_far
under_at (x ∷ front) reads _ _ _ all_read e = absurd cc
under_at (x ∷ front) {t = t} reads whole _ _ (by_token {room = room} {k = k} {stack = stack} {ks = ks} f) e =
    subst (λ y. Follows whole (y ∷ front ++ t) (k ∷ ks)) (same_head e) (by_token (under_at front reads whole stack ks f (same_tail e)))
under_at (x ∷ front) {t = t} reads whole _ _ (by_class {room = room} {test = test} {k = k} {stack = stack} {ks = ks} is f) e =
    subst (λ y. Follows whole (y ∷ front ++ t) (k ∷ ks)) (same_head e) (by_class is (under_at front reads whole stack ks f (same_tail e)))
under_at (x ∷ front) {s = s} {t = t} reads whole _ _ (by_part {room = room} {p = p} {stack = stack} {ks = ks} is f) e =
    subst (λ y. Follows whole (y ∷ front ++ t) ks) (same_head e) (by_part is (subst (λ y. Follows whole y ks) (appended_assoc (in_room room p) front t)
    (under_at (in_room room p ++ front) reads whole (in_room room p ++ stack) ks f (set_down (in_room room p) front s (same_tail e)))))
under_at (x ∷ front) {s = s} {t = t} reads whole _ _ (by_deep {room = room} {p = p} {stack = stack} {ks = ks} is f) e =
    subst (λ y. Follows whole (y ∷ front ++ t) ks) (same_head e) (by_deep is (subst (λ y. Follows whole y ks) (appended_assoc (in_room room p) front t)
    (under_at (in_room room p ++ front) reads whole (in_room room p ++ stack) ks f (set_down (in_room room p) front s (same_tail e)))))

pub under : (front : Stack) {s t : Stack} → Reads s t → Reads (front ++ s) (front ++ t)
under front {s = s} reads whole ks f = under_at front reads whole (front ++ s) ks f refl

-- one after the other
pub after : {s t u : Stack} → Reads s t → Reads t u → Reads s u
after first second whole ks f = second whole ks (first whole ks f)

pub same : (s : Stack) → Reads s s
same s whole ks f = f

-- what is equal
pub reads_equal : {s t : Stack} → s ≡ t → Reads s t
reads_equal e whole ks f = subst (λ x. Follows whole x ks) e f

-- a deep part of a room is the part in less room
pub deep_to_part : {room : ℕ} {n : Part} {stack : Stack} → Reads ((suc room, deep n) ∷ stack) ((room, part n) ∷ stack)
deep_to_part {room = room} {n = n} {stack = stack} _ _ f = at f refl
  where
    at : {whole : Bool} {full : Stack} {ks : List TokenKind} → Follows whole full ks → full ≡ (suc room, deep n) ∷ stack →
        Follows whole ((room, part n) ∷ stack) ks
    at so_far e = so_far
    at all_read e = absurd cc
    at (by_token f) e = let g = thing_of e in absurd cc
    at (by_class is f) e = let g = thing_of e in absurd cc
    at (by_part is f) e = let g = thing_of e in absurd cc
    at (by_deep {whole = whole} {room = r} {n = m} {p = p} {stack = left} {ks = ks} is f) e =
        let same_symbol : deep m ≡ deep n = thing_of e in
        let same_part : m ≡ n = cc in
        let same_room : r ≡ room = omega (arith, number_of e) in
        let same_left : left ≡ stack = cc in
        by_part (subst (λ x. IsProduction x p) same_part is)
        (subst (λ x. Follows whole (in_room room p ++ x) ks) same_left (subst (λ x. Follows whole (in_room x p ++ left) ks) same_room f))

pub part_to_deep : {room : ℕ} {n : Part} {stack : Stack} → Reads ((room, part n) ∷ stack) ((suc room, deep n) ∷ stack)
part_to_deep {room = room} {n = n} {stack = stack} _ _ f = at f refl
  where
    at : {whole : Bool} {full : Stack} {ks : List TokenKind} → Follows whole full ks → full ≡ (room, part n) ∷ stack →
        Follows whole ((suc room, deep n) ∷ stack) ks
    at so_far e = so_far
    at all_read e = absurd cc
    at (by_token f) e = let g = thing_of e in absurd cc
    at (by_class is f) e = let g = thing_of e in absurd cc
    at (by_deep is f) e = let g = thing_of e in absurd cc
    at (by_part {whole = whole} {room = r} {n = m} {p = p} {stack = left} {ks = ks} is f) e =
        let same_symbol : part m ≡ part n = thing_of e in
        let same_part : m ≡ n = cc in
        let same_room : r ≡ room = number_of e in
        let same_left : left ≡ stack = cc in
        by_deep (subst (λ x. IsProduction x p) same_part is)
        (subst (λ x. Follows whole (in_room room p ++ x) ks) same_left (subst (λ x. Follows whole (in_room x p ++ left) ks) same_room f))

-- ---- frames

-- frames that stand for something
abbrev pub HasMeaning : ℕ → Frames → Type 0
HasMeaning limit fs = (closed : Bool) × (stack : Stack) × Means limit closed fs stack

-- What stands in front of the frames, of this kind, where the stack is read as it, and as what the frames behind it mean.
-- The kind says whether a statement in front of the frames behind has to be closed.
abbrev pub Before : ℕ → (Bool → Stack → Type 0) → Frames → Stack → Type 0
Before limit P fs stack = (closed : Bool) × (own : Stack) × (rest : Stack) × P closed own × Means limit closed fs rest × Reads stack (own ++ rest)

-- the same with a token in front of the stack
abbrev pub BeforeBehind : ℕ → (Bool → Stack → Type 0) → Frames → TokenKind → Stack → Type 0
BeforeBehind limit P fs k stack = (closed : Bool) × (own : Stack) × (rest : Stack) × P closed own × Means limit closed fs rest × ReadsBehind k stack
    (own ++ rest)

-- What comes of a token is right: the new frames mean something, and what they mean is, behind the token, something of this kind.
pub record Sound (limit depth : ℕ) (P : Bool → Stack → Type 0) (k : TokenKind) (new : List (ℕ × Frame)) : Type 0 where
  pub onward : (fs : Frames) → HasMeaning limit fs → HasMeaning limit (onto depth new fs)
  pub back : (fs : Frames) (closed : Bool) (stack : Stack) → Means limit closed (onto depth new fs) stack → BeforeBehind limit P fs k stack

-- the kind of a frame's own stack
abbrev pub Owned : ℕ → Frame → Bool → Stack → Type 0
Owned room f closed own = Own room f own

-- the kind of one symbol
abbrev pub Only : ℕ → Symbol → Bool → Stack → Type 0
Only room s closed own = own ≡ (room, s) ∷ []

-- of another kind
pub sound_as : {limit depth : ℕ} {P Q : Bool → Stack → Type 0} {k : TokenKind} {new : List (ℕ × Frame)} →
    ((closed : Bool) (own : Stack) → P closed own → Q closed own) → Sound limit depth P k new → Sound limit depth Q k new
sound_as turn s = record {
  onward = s.onward;
  back = λ fs closed stack m. let b = s.back fs closed stack m in (b.0, b.1, b.2, turn b.0 b.1 b.3, b.4, b.5);
}

-- a frame that is no statement and no `else`
abbrev pub is_plain : Frame → Bool
is_plain frame.Statement = false
is_plain frame.Else = false
is_plain _ = true

-- such a frame first, where it doesn't stand too deep: its own stack
pub pop : {limit depth room : ℕ} {f : Frame} {fs : Frames} {closed : Bool} {stack : Stack} → depth + room ≡ limit → is_plain f ≡ true →
    Means limit closed ((depth, f) ∷ fs) stack → Before limit (Owned room f) fs stack
pop {limit = limit} {depth = depth} {room = room} {f = f} {fs = fs} fits plain m = at m refl
  where
    at : {all : Frames} {closed : Bool} {stack : Stack} → Means limit closed all stack → all ≡ (depth, f) ∷ fs → Before limit (Owned room f) fs stack
    at nothing e = absurd cc
    at (a_frame {closed = closed} {depth = d} {room = r} {f = g} {fs = gs} {own = own} {stack = stack} at_depth is m) e =
        let same_depth : d ≡ depth = number_of e in
        let same_frame : g ≡ f = thing_of e in
        let same_frames : gs ≡ fs = cc in
        let same_room : r ≡ room = omega (arith, same_depth, at_depth, fits) in (
          closed,
          own,
          stack,
          subst (λ x. Own room x own) same_frame (subst (λ x. Own x g own) same_room is),
          subst (λ x. Means limit closed x stack) same_frames m,
          same (own ++ stack),
        )
    at (a_deep_frame {closed = closed} {depth = d} {room = r} {f = g} {n = n} {fs = gs} {stack = stack} at_depth is m) e =
        let same_depth : suc d ≡ depth = number_of e in
        let same_frame : g ≡ f = thing_of e in
        let same_frames : gs ≡ fs = cc in
        let same_room : r ≡ suc room = omega (arith, same_depth, at_depth, fits) in (
          closed,
          (room, part n) ∷ [],
          stack,
          a_part (subst (λ x. IsPartOf x n) same_frame is),
          subst (λ x. Means limit closed x stack) same_frames m,
          subst (λ x. Reads ((x, deep n) ∷ stack) ((room, part n) ∷ stack)) (sym same_room) deep_to_part,
        )
    at (a_statement at_depth m) e = let g = thing_of e in absurd cc
    at (a_deep_statement at_depth m) e = let g = thing_of e in absurd cc
    at (no_else m) e = let g = thing_of e in absurd cc
    at (an_else at_depth m) e = let g = thing_of e in absurd cc

-- what is known of a frame that a part stands for and nothing else
abbrev pub StandsFor : Frame → Part → Type 0
StandsFor f n = (room : ℕ) (own : Stack) → Own room f own → own ≡ (room, part n) ∷ []

-- such a frame first, one part deeper than this room is for
pub pop_deep : {limit : ℕ} (depth : ℕ) {room : ℕ} {f : Frame} {n : Part} {fs : Frames} {closed : Bool} {stack : Stack} → depth + room ≡ limit →
    is_plain f ≡ true →
    StandsFor f n → Means limit closed ((depth + 1, f) ∷ fs) stack → Before limit (Only room (deep n)) fs stack
pop_deep {limit = limit} depth {room = room} {f = f} {n = n} {fs = fs} fits plain only m = at m refl
  where
    at : {all : Frames} {closed : Bool} {stack : Stack} → Means limit closed all stack → all ≡ (depth + 1, f) ∷ fs → Before limit (Only room (deep n)) fs stack
    at nothing e = absurd cc
    at (a_frame {closed = closed} {depth = d} {room = r} {f = g} {fs = gs} {own = own} {stack = stack} at_depth is m) e =
        let same_depth : d ≡ depth + 1 = number_of e in
        let same_frame : g ≡ f = thing_of e in
        let same_frames : gs ≡ fs = cc in
        let same_room : suc r ≡ room = omega (arith, same_depth, at_depth, fits) in
        let same_own : own ≡ (r, part n) ∷ [] = only r own (subst (λ x. Own r x own) same_frame is) in (
          closed,
          (room, deep n) ∷ [],
          stack,
          refl,
          subst (λ x. Means limit closed x stack) same_frames m,
          subst (λ x. Reads (own ++ stack) ((x, deep n) ∷ stack)) same_room
              (subst (λ x. Reads (x ++ stack) ((suc r, deep n) ∷ stack)) (sym same_own) part_to_deep),
        )
    at (a_deep_frame {closed = closed} {depth = d} {room = r} {f = g} {n = o} {fs = gs} {stack = stack} at_depth is m) e =
        let same_depth : suc d ≡ depth + 1 = number_of e in
        let same_frame : g ≡ f = thing_of e in
        let same_frames : gs ≡ fs = cc in
        let same_room : r ≡ room = omega (arith, same_depth, at_depth, fits) in
        let same_own = only room ((room, part o) ∷ []) (a_part (subst (λ x. IsPartOf x o) same_frame is)) in
        let same_symbol : part o ≡ part n = thing_of same_own in
        let same_part : o ≡ n = cc in (
          closed,
          (room, deep n) ∷ [],
          stack,
          refl,
          subst (λ x. Means limit closed x stack) same_frames m,
          reads_equal (ap (λ x. (x, deep o) ∷ stack) same_room ∙ ap (λ x. (room, deep x) ∷ stack) same_part),
        )
    at (a_statement at_depth m) e = let g = thing_of e in absurd cc
    at (a_deep_statement at_depth m) e = let g = thing_of e in absurd cc
    at (no_else m) e = let g = thing_of e in absurd cc
    at (an_else at_depth m) e = let g = thing_of e in absurd cc

-- a frame with its own stack in front
pub put : {limit depth room : ℕ} {f : Frame} {fs : Frames} {own : Stack} → depth + room ≡ limit → Own room f own → HasMeaning limit fs →
    HasMeaning limit ((depth, f) ∷ fs)
put {own = own} fits is h = (false, own ++ h.1, a_frame fits is h.2)

-- a frame that a part stands for, one part deeper than this room is for
pub put_deep : {limit : ℕ} (depth room : ℕ) {f : Frame} {n : Part} {fs : Frames} → depth + room ≡ limit → IsPartOf f n → HasMeaning limit fs →
    HasMeaning limit ((depth + 1, f) ∷ fs)
put_deep {limit = limit} depth room {f = f} {n = n} {fs = fs} fits is h =
    (false, (room, deep n) ∷ h.1, subst (λ x. Means limit false ((x, f) ∷ fs) ((room, deep n) ∷ h.1)) (suc_is_more depth) (a_deep_frame fits is h.2))
  where
    suc_is_more : (d : ℕ) → suc d ≡ d + 1
    suc_is_more d = omega arith

-- ---- frames that stand inside others

-- frames so many parts deeper, in front of more
pub onto_inside : (depth n : ℕ) (fs more : List (ℕ × Frame)) (rest : Frames) →
    onto depth (map (λ f. (n + f.0, f.1)) fs ++ more) rest ≡ onto (depth + n) fs (onto depth more rest)
onto_inside depth n [] more rest = refl
onto_inside depth n (f ∷ fs) more rest =
    let deeper : depth + (n + f.0) ≡ depth + n + f.0 = omega arith in
    ap (λ x. (x, f.1) ∷ onto depth (map (λ f. (n + f.0, f.1)) fs ++ more) rest) deeper ∙ ap (λ x. (depth + n + f.0, f.1) ∷ x) (onto_inside depth n fs more rest)

-- what a move inside comes of
abbrev pub Inner : ℕ → List (ℕ × Frame) → Move → ℕ → List (ℕ × Frame) → Type 0
Inner n more m at new = (own : ℕ) × (fs : List (ℕ × Frame)) × (m ≡ takes own fs) × (at ≡ n + own) × (new ≡ map (λ f. (n + f.0, f.1)) fs ++ more)

pub inner_of : (n : ℕ) (more : List (ℕ × Frame)) (m : Move) (at : ℕ) (new : List (ℕ × Frame)) → inside n more m ≡ takes at new → Inner n more m at new
inner_of n more (takes own fs) at new e = (own, fs, refl, cc, cc)
inner_of n more passes at new e = absurd cc
inner_of n more refuses at new e = absurd cc

-- A move inside is right where the move is and the frames behind it are: they mean something, and are read behind anything as another kind.
pub sound_inside : {limit depth : ℕ} {P Q : Bool → Stack → Type 0} {k : TokenKind} (n : ℕ) (fs more : List (ℕ × Frame)) → Sound limit (depth + n) P k fs →
    ((rest : Frames) → HasMeaning limit rest → HasMeaning limit (onto depth more rest)) →
    ((rest : Frames) (closed : Bool) (own stack : Stack) → P closed own → Means limit closed (onto depth more rest) stack →
    Before limit Q rest (own ++ stack)) → Sound limit depth Q k (map (λ f. (n + f.0, f.1)) fs ++ more)
sound_inside {limit = limit} {depth = depth} {P = P} {Q = Q} {k = k} n fs more s on turn = record {
  onward = λ rest h. subst (HasMeaning limit) (sym (onto_inside depth n fs more rest)) (s.onward (onto depth more rest) (on rest h));
  back = λ rest closed stack m.
      let b = s.back (onto depth more rest) closed stack (subst (λ x. Means limit closed x stack) (onto_inside depth n fs more rest) m) in
      let t = turn rest b.0 b.1 b.2 b.3 b.4 in
      (t.0, t.1, t.2, t.3, t.4, λ whole ks f. t.5 whole (k ∷ ks) (b.5 whole ks f));
}
