-- Steps backwards whose new frames are given by their forms: what of a frame's own stack is known.
use Rattle.std.proofs.Common.{◌≡◌, ℕ, suc, ◌+◌, ◌≤◌, Bool, true, List, [], ◌∷◌, ◌++◌, sym, subst, arith}
use Rattle.jsh_tree.specs.declared.token.TokenKind.{TokenKind}
use Rattle.jsh_grammar.specs.Productions.{Part, Symbol, deep}
use Rattle.jsh_recognizer.specs.declared.frame.Frame.{Frame}
use Rattle.jsh_recognizer.specs.Machine.{Frames, Move, takes, passes, inside, onto, move_of, may_stop}
use Rattle.jsh_recognizer.specs.Meanings.{Stack, IsPartOf, Own, Means}
use Rattle.jsh_recognizer.proofs.MeantStep.{Reads, ReadsBehind, under, after, same, reads_equal, appended_assoc, HasMeaning, Before, Sound, Owned, is_plain, pop, pop_deep, put, put_deep, StandsFor, sound_inside, inner_of}

-- the frame's own stack is always this one symbol
abbrev pub IsSymbol : Frame → Symbol → Type 0
IsSymbol f s = (room : ℕ) (own : Stack) → Own room f own → own ≡ (room, s) ∷ []

-- a new frame: where the old one stood, or one part deeper, or two; and its own stack, or the symbol that it always is
pub data Form : Type 0 where
  here : Frame → Form
  symbol : Frame → Symbol → Form
  inner : ℕ → Frame → Form
  inner_symbol : ℕ → Frame → Symbol → Form
  innermost_symbol : ℕ → Frame → Symbol → Form
  deeper : Frame → Part → Form

abbrev pub frame_of : Form → ℕ × Frame
frame_of (here f) = (0, f)
frame_of (symbol f s) = (0, f)
frame_of (inner room f) = (1, f)
frame_of (inner_symbol room f s) = (1, f)
frame_of (innermost_symbol room f s) = (2, f)
frame_of (deeper f n) = (1, f)

abbrev pub frames_of : List Form → List (ℕ × Frame)
frames_of [] = []
frames_of (form ∷ forms) = frame_of form ∷ frames_of forms

-- the frame can be met, and it is as the form says
pub data Ready : ℕ → Form → Type 0 where
  ready : {room : ℕ} {f : Frame} {own : Stack} → is_plain f ≡ true → Own room f own → Ready room (here f)
  ready_symbol : {room : ℕ} {f : Frame} {s : Symbol} → is_plain f ≡ true → IsSymbol f s → Own room f ((room, s) ∷ []) → Ready room (symbol f s)
  ready_inner : {room : ℕ} {f : Frame} {own : Stack} → is_plain f ≡ true → Own room f own → Ready (suc room) (inner room f)
  ready_inner_symbol : {room : ℕ} {f : Frame} {s : Symbol} → is_plain f ≡ true → IsSymbol f s → Own room f ((room, s) ∷ []) →
      Ready (suc room) (inner_symbol room f s)
  ready_innermost_symbol : {room : ℕ} {f : Frame} {s : Symbol} → is_plain f ≡ true → IsSymbol f s → Own room f ((room, s) ∷ []) →
      Ready (suc (suc room)) (innermost_symbol room f s)
  ready_deep : {room : ℕ} {f : Frame} {n : Part} → is_plain f ≡ true → StandsFor f n → IsPartOf f n → Ready room (deeper f n)

pub data AllReady (room : ℕ) : List Form → Type 0 where
  none_ready : AllReady room []
  next_ready : {form : Form} {forms : List Form} → Ready room form → AllReady room forms → AllReady room (form ∷ forms)

-- the own stack of a frame of this form
pub data Shape : ℕ → Form → Stack → Type 0 where
  own_here : {room : ℕ} {f : Frame} {own : Stack} → Own room f own → Shape room (here f) own
  a_symbol : {room : ℕ} {f : Frame} {s : Symbol} → Shape room (symbol f s) ((room, s) ∷ [])
  own_inner : {room inside : ℕ} {f : Frame} {own : Stack} → Own inside f own → Shape room (inner inside f) own
  an_inner_symbol : {room inside : ℕ} {f : Frame} {s : Symbol} → Shape room (inner_symbol inside f s) ((inside, s) ∷ [])
  an_innermost_symbol : {room inside : ℕ} {f : Frame} {s : Symbol} → Shape room (innermost_symbol inside f s) ((inside, s) ∷ [])
  a_deep : {room : ℕ} {f : Frame} {n : Part} → Shape room (deeper f n) ((room, deep n) ∷ [])

-- and of several
pub data Shapes (room : ℕ) : List Form → Stack → Type 0 where
  no_shape : Shapes room [] []
  last_shape : {form : Form} {own : Stack} → Shape room form own → Shapes room (form ∷ []) own
  shaped : {form next : Form} {forms : List Form} {own rest : Stack} → Shape room form own → Shapes room (next ∷ forms) rest →
      Shapes room (form ∷ next ∷ forms) (own ++ rest)

-- the first of the frames
first_off : {limit : ℕ} (depth : ℕ) {room : ℕ} {fs : Frames} {closed : Bool} {stack : Stack} (form : Form) → depth + room ≡ limit → Ready room form →
    Means limit closed (onto depth (frame_of form ∷ []) fs) stack → Before limit (λ closed own. Shape room form own) fs stack
first_off depth {room = room} {stack = stack} _ fits (ready {f = f} plain is) m =
    let b = pop (omega (arith, fits)) plain m in (b.0, b.1, b.2, own_here b.3, b.4, b.5)
first_off depth {room = room} {stack = stack} _ fits (ready_symbol {f = f} {s = s} plain only is) m =
    let b = pop {room = room} (omega (arith, fits)) plain m in
    (b.0, (room, s) ∷ [], b.2, a_symbol, b.4, subst (λ x. Reads stack (x ++ b.2)) (only room b.1 b.3) b.5)
first_off depth _ fits (ready_inner {room = inside} {f = f} plain is) m =
    let b = pop {room = inside} (omega (arith, fits)) plain m in (b.0, b.1, b.2, own_inner b.3, b.4, b.5)
first_off depth {stack = stack} _ fits (ready_inner_symbol {room = inside} {f = f} {s = s} plain only is) m =
    let b = pop {room = inside} (omega (arith, fits)) plain m in
    (b.0, (inside, s) ∷ [], b.2, an_inner_symbol, b.4, subst (λ x. Reads stack (x ++ b.2)) (only inside b.1 b.3) b.5)
first_off depth {stack = stack} _ fits (ready_innermost_symbol {room = inside} {f = f} {s = s} plain only is) m =
    let b = pop {room = inside} (omega (arith, fits)) plain m in
    (b.0, (inside, s) ∷ [], b.2, an_innermost_symbol, b.4, subst (λ x. Reads stack (x ++ b.2)) (only inside b.1 b.3) b.5)
first_off depth {room = room} {stack = stack} _ fits (ready_deep {f = f} {n = n} plain only is) m =
    let b = pop_deep depth fits plain only m in
    (b.0, (room, deep n) ∷ [], b.2, a_deep, b.4, subst (λ x. Reads stack (x ++ b.2)) b.3 b.5)

-- all of them
pub all_off : {limit : ℕ} (depth : ℕ) {room : ℕ} {fs : Frames} (forms : List Form) {closed : Bool} {stack : Stack} → depth + room ≡ limit →
    AllReady room forms → Means limit closed (onto depth (frames_of forms) fs) stack → Before limit (λ closed own. Shapes room forms own) fs stack
all_off depth [] {closed = closed} {stack = stack} fits _ m = (closed, [], stack, no_shape, m, same stack)
all_off depth (form ∷ []) fits (next_ready r rs) m =
    let b = first_off depth form fits r m in (b.0, b.1, b.2, last_shape b.3, b.4, b.5)
all_off depth (form ∷ next ∷ forms) {stack = stack} fits (next_ready r rs) m =
    let b = first_off depth form fits r m in
    let c = all_off depth (next ∷ forms) fits rs b.4 in (
      c.0,
      b.1 ++ c.1,
      c.2,
      shaped b.3 c.3,
      c.4,
      after b.5 (after (under b.1 c.5) (reads_equal (sym (appended_assoc b.1 c.1 c.2)))),
    )

-- the first of them put on
first_on : {limit : ℕ} (depth : ℕ) {room : ℕ} {fs : Frames} (form : Form) → depth + room ≡ limit → Ready room form → HasMeaning limit fs →
    HasMeaning limit (onto depth (frame_of form ∷ []) fs)
first_on depth _ fits (ready plain is) h = put (omega (arith, fits)) is h
first_on depth _ fits (ready_symbol plain only is) h = put (omega (arith, fits)) is h
first_on depth _ fits (ready_inner plain is) h = put (omega (arith, fits)) is h
first_on depth _ fits (ready_inner_symbol plain only is) h = put (omega (arith, fits)) is h
first_on depth _ fits (ready_innermost_symbol plain only is) h = put (omega (arith, fits)) is h
first_on depth {room = room} _ fits (ready_deep plain only is) h = put_deep depth room fits is h

pub all_on : {limit : ℕ} (depth : ℕ) {room : ℕ} {fs : Frames} (forms : List Form) → depth + room ≡ limit → AllReady room forms → HasMeaning limit fs →
    HasMeaning limit (onto depth (frames_of forms) fs)
all_on depth [] fits rs h = h
all_on depth (form ∷ forms) fits (next_ready r rs) h = first_on depth form fits r (all_on depth forms fits rs h)

-- what is of the kind, and is read so behind the token
abbrev pub Made : (Bool → Stack → Type 0) → Bool → TokenKind → Stack → Type 0
Made P closed k own = (made : Stack) × P closed made × ((rest : Stack) → ReadsBehind k (own ++ rest) (made ++ rest))

-- new frames of these forms are right where what they mean is read as the kind
pub sound_forms : {limit depth room : ℕ} {P : Bool → Stack → Type 0} {k : TokenKind} (forms : List Form) → depth + room ≡ limit → AllReady room forms →
    ((closed : Bool) (own : Stack) → Shapes room forms own → Made P closed k own) → Sound limit depth P k (frames_of forms)
sound_forms {depth = depth} {k = k} forms fits rs back = record {
  onward = λ fs h. all_on depth forms fits rs h;
  back = λ fs closed stack m.
      let b = all_off depth forms fits rs m in
      let made = back b.0 b.1 b.3 in
      (b.0, made.0, b.2, made.1, b.4, λ whole ks f. made.2 b.2 whole ks (b.5 whole ks f));
}

-- what is read as another kind
pub sound_read : {limit depth : ℕ} {P Q : Bool → Stack → Type 0} {k : TokenKind} {new : List (ℕ × Frame)} →
    ((closed : Bool) (own : Stack) → P closed own → (made : Stack) × Q closed made × ((rest : Stack) → Reads (own ++ rest) (made ++ rest))) →
    Sound limit depth P k new → Sound limit depth Q k new
sound_read {k = k} turn s = record {
  onward = s.onward;
  back = λ fs closed stack m.
      let b = s.back fs closed stack m in
      let t = turn b.0 b.1 b.3 in
      (b.0, t.0, b.2, t.1, b.4, λ whole ks f. t.2 b.2 whole (k ∷ ks) (b.5 whole ks f));
}

-- frames of these forms behind what a move inside comes of
pub sound_inside_forms : {limit depth room : ℕ} {P Q : Bool → Stack → Type 0} {k : TokenKind} (n : ℕ) (forms : List Form) (m : Move) (at : ℕ)
    (new : List (ℕ × Frame)) → inside n (frames_of forms) m ≡ takes at new → depth + room ≡ limit → AllReady room forms →
    ((own : ℕ) (fs : List (ℕ × Frame)) → m ≡ takes own fs → at ≡ n + own → Sound limit (depth + n) P k fs) →
    ((c d : Bool) (own s : Stack) → P c own → Shapes room forms s → (made : Stack) × Q d made × ((rest : Stack) → Reads (own ++ (s ++ rest)) (made ++ rest))) →
    Sound limit depth Q k new
sound_inside_forms {limit = limit} {depth = depth} {Q = Q} {k = k} n forms m at new e fits rs first turn =
    let i = inner_of n (frames_of forms) m at new e in
    subst (Sound limit depth Q k) (sym i.4) (sound_inside n i.1 (frames_of forms) (first i.0 i.1 i.2 i.3)
    (λ rest h. all_on depth forms fits rs h)
    (λ rest closed own stack p means.
    let b = all_off depth forms fits rs means in
    let t = turn closed b.0 own b.1 p b.3 in
    (b.0, t.0, b.2, t.1, b.4, after (under own b.5) (t.2 b.2))))

-- ---- what is shown of a frame

-- what it takes is right
abbrev pub Step : Frame → Type 0
Step f = (limit depth room : ℕ) → depth + room ≡ limit → (own : Stack) → Own room f own → (k : TokenKind) (n : ℕ) (new : List (ℕ × Frame)) →
    move_of f k ≡ takes n new → depth + n ≤ limit → Sound limit depth (Owned room f) k new

-- where it passes it may stop
abbrev pub Passing : Frame → Type 0
Passing f = (k : TokenKind) → move_of f k ≡ passes → may_stop f ≡ true

-- where it may stop it stands for what nothing is read as
abbrev pub Stopping : Frame → Type 0
Stopping f = (room : ℕ) (own : Stack) → Own room f own → may_stop f ≡ true → (s : Stack) × Own room f s × ((rest : Stack) → Reads rest (s ++ rest))
