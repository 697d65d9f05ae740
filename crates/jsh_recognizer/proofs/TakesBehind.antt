-- The frames of statements and declarations that may pass: nothing right is refused.
use Rattle.std.proofs.Common.{◌≡◌, ℕ, ◌+◌, Bool, true, false, List, [], ◌∷◌, ◌++◌, refl, arith}
use Rattle.jsh_tree.specs.declared.token.TokenKind.{TokenKind}
use Rattle.jsh_tree.specs.declared.token.TokenKind.TheVariants as token
use Rattle.jsh_grammar.specs.Productions.{Part, Symbol, a, any, part, deep, IsProduction}
use Rattle.jsh_grammar.specs.Productions as table
use Rattle.jsh_grammar.specs.Leads.{in_room}
use Rattle.jsh_recognizer.specs.declared.frame.Context.{Context}
use Rattle.jsh_recognizer.specs.declared.frame.Context.TheVariants as context
use Rattle.jsh_recognizer.specs.declared.frame.Ending.TheVariants as ending
use Rattle.jsh_recognizer.specs.declared.frame.Frame.{Frame}
use Rattle.jsh_recognizer.specs.declared.frame.Frame.TheVariants as frame
use Rattle.jsh_recognizer.specs.Machine.{Move, takes, passes, refuses, inside, goes, Frames, onto, move_of}
use Rattle.jsh_recognizer.specs.Machine as machine
use Rattle.jsh_recognizer.specs.Meanings as meaning
use Rattle.jsh_recognizer.specs.Meanings.{Stack, Follows, so_far, all_read, by_token, by_class, by_part, by_deep, statement_part, IsPartOf, Within, Paths, Own, Means, a_frame, a_deep_frame}
use Rattle.jsh_recognizer.proofs.TakesOrder.{Orderly, BehindStatement}
use Rattle.jsh_recognizer.proofs.TakesOrder as behind
use Rattle.jsh_recognizer.proofs.TakesStep.{Takes, FStep, taking, past}
use Rattle.jsh_recognizer.proofs.TakesPlaced.{takes_it}
use Rattle.jsh_recognizer.specs.Meanings.{Declares, DeclaresPair, Ended, EndedPair, More, Indexed}
use Rattle.jsh_recognizer.proofs.TakesOrder.{ListWord, BehindNames, BehindSuperclass, Closes}
use Rattle.jsh_recognizer.proofs.TakesOwn.{of_several, sort_of, OwnToken, the_token, own_token}
use Rattle.jsh_recognizer.proofs.TakesClasses.{is_closer}
use Rattle.jsh_recognizer.proofs.TakesTail.{closer}
use Rattle.jsh_recognizer.proofs.TakesBlocks.{statements_takes, group_takes, catches_takes}

-- ---- what these frames stand for

-- the stack of a frame of statements or declarations
pub data OwnOther (room : ℕ) : Frame → Stack → Type 0 where
  one_part : {f : Frame} {n : Part} → IsPartOf f n → OwnOther room f ((room, part n) ∷ [])
  the_symbols : {f : Frame} {ss : List Symbol} → Within f ss → OwnOther room f (in_room room ss)
  of_type : {f : Frame} {ss : List Symbol} → Declares f ss → OwnOther room f (in_room room (part table.brackets ∷ a token.Identifier ∷ ss))
  of_effect : {f : Frame} {c : Context} {ss : List Symbol} {stack : Stack} → Ended f c ss → Paths room c ending.Name stack →
      OwnOther room f (stack ++ in_room room ss)
  of_pair : {f : Frame} {ss : List Symbol} → DeclaresPair f ss →
      OwnOther room f (in_room room (a token.RightBracket ∷ part table.brackets ∷ a token.Identifier ∷ ss))
  of_index : {f : Frame} {c : Context} {ss : List Symbol} {rest stack : Stack} → EndedPair f c ss → More room c ending.Place rest →
      Indexed room (rest ++ in_room room ss) stack → OwnOther room f stack
  of_this : {stack : Stack} → More room context.Effect ending.Other stack →
      OwnOther room frame.ThisFirst (stack ++ in_room room (a token.Semicolon ∷ part table.statements ∷ a token.RightBrace ∷ []))
  of_super : {stack : Stack} → More room context.Effect ending.Call stack →
      OwnOther room frame.SuperFirst
      (in_room room (a token.Dot ∷ a token.Identifier ∷ deep table.arguments ∷ [])
      ++ (stack ++ in_room room (a token.Semicolon ∷ part table.statements ∷ a token.RightBrace ∷ [])))

pub own_other : {room : ℕ} {f : Frame} {own : Stack} → sort_of f ≡ of_several → Own room f own → OwnOther room f own
own_other is (meaning.a_part p) = one_part p
own_other is (meaning.within p) = the_symbols p
own_other is (meaning.named_type p) = of_type p
own_other is (meaning.named_effect p q) = of_effect p q
own_other is (meaning.pair_of_type p) = of_pair p
own_other is (meaning.pair_of_index p q r) = of_index p q r
own_other is (meaning.this_effect p) = of_this p
own_other is (meaning.super_effect p) = of_super p
own_other is _ = absurd cc

-- ---- what stands behind names of types

-- what begins a body, or stands for it
pub data BodyToken : TokenKind → Type 0 where
  a_brace : BodyToken token.LeftBrace
  a_semicolon : BodyToken token.Semicolon

block_token : {whole : Bool} {room : ℕ} {own : Stack} {k : TokenKind} {ks : List TokenKind} (stack : Stack) → OwnOther room frame.Block own →
    Follows whole (own ++ stack) (k ∷ ks) → BodyToken k
block_token stack (one_part meaning.a_block) (by_part table.of_statements (by_token f)) = a_brace
block_token stack (the_symbols p) f = elim p [ ]
block_token stack (of_type p) f = elim p [ ]
block_token stack (of_effect p q) f = elim p [ ]
block_token stack (of_pair p) f = elim p [ ]
block_token stack (of_index p q r) f = elim p [ ]

class_token : {whole : Bool} {room : ℕ} {own : Stack} {k : TokenKind} {ks : List TokenKind} (stack : Stack) → OwnOther room frame.ClassBody own →
    Follows whole (own ++ stack) (k ∷ ks) → BodyToken k
class_token stack (one_part meaning.a_class_body) (by_part table.of_class_body (by_token f)) = a_brace
class_token stack (the_symbols p) f = elim p [ ]
class_token stack (of_type p) f = elim p [ ]
class_token stack (of_effect p q) f = elim p [ ]
class_token stack (of_pair p) f = elim p [ ]
class_token stack (of_index p q r) f = elim p [ ]

interface_token : {whole : Bool} {room : ℕ} {own : Stack} {k : TokenKind} {ks : List TokenKind} (stack : Stack) → OwnOther room frame.InterfaceBody own →
    Follows whole (own ++ stack) (k ∷ ks) → BodyToken k
interface_token stack (one_part meaning.an_interface_body) (by_part table.of_interface_body (by_token f)) = a_brace
interface_token stack (the_symbols p) f = elim p [ ]
interface_token stack (of_type p) f = elim p [ ]
interface_token stack (of_effect p q) f = elim p [ ]
interface_token stack (of_pair p) f = elim p [ ]
interface_token stack (of_index p q r) f = elim p [ ]

method_token : {whole : Bool} {room : ℕ} {own : Stack} {k : TokenKind} {ks : List TokenKind} (stack : Stack) → OwnOther room frame.MethodBody own →
    Follows whole (own ++ stack) (k ∷ ks) → BodyToken k
method_token stack (the_symbols meaning.no_method_body) (by_token f) = a_semicolon
method_token stack (the_symbols meaning.method_body) (by_deep table.of_statements (by_token f)) = a_brace
method_token stack (one_part p) f = elim p [ ]
method_token stack (of_type p) f = elim p [ ]
method_token stack (of_effect p q) f = elim p [ ]
method_token stack (of_pair p) f = elim p [ ]
method_token stack (of_index p q r) f = elim p [ ]

constructor_token : {whole : Bool} {room : ℕ} {own : Stack} {k : TokenKind} {ks : List TokenKind} (stack : Stack) → OwnOther room frame.ConstructorBody own →
    Follows whole (own ++ stack) (k ∷ ks) → BodyToken k
constructor_token stack (one_part meaning.a_constructor_body) (by_part table.of_constructor_body (by_token f)) = a_brace
constructor_token stack (the_symbols p) f = elim p [ ]
constructor_token stack (of_type p) f = elim p [ ]
constructor_token stack (of_effect p q) f = elim p [ ]
constructor_token stack (of_pair p) f = elim p [ ]
constructor_token stack (of_index p q r) f = elim p [ ]

expected_token : {whole : Bool} {room : ℕ} {own : Stack} {wanted k : TokenKind} {ks : List TokenKind} (stack : Stack) → OwnToken room wanted own →
    Follows whole (own ++ stack) (k ∷ ks) → k ≡ wanted
expected_token stack the_token (by_token f) = refl

semicolon_body : (k : TokenKind) → k ≡ token.Semicolon → BodyToken k
semicolon_body token.Semicolon is = a_semicolon
semicolon_body _ is = absurd cc

pub names_end : {limit : ℕ} {whole closed : Bool} {fs : Frames} {stack : Stack} {k : TokenKind} {ks : List TokenKind} → BehindNames fs →
    Means limit closed fs stack → Follows whole stack (k ∷ ks) → BodyToken k
names_end behind.before_block (a_frame {stack = stack} e own m) f = block_token stack (own_other refl own) f
names_end behind.before_block (a_deep_frame e meaning.a_block m) (by_deep table.of_statements (by_token f)) = a_brace
names_end behind.before_class_body (a_frame {stack = stack} e own m) f = class_token stack (own_other refl own) f
names_end behind.before_class_body (a_deep_frame e meaning.a_class_body m) (by_deep table.of_class_body (by_token f)) = a_brace
names_end behind.before_interface_body (a_frame {stack = stack} e own m) f = interface_token stack (own_other refl own) f
names_end behind.before_interface_body (a_deep_frame e meaning.an_interface_body m) (by_deep table.of_interface_body (by_token f)) = a_brace
names_end behind.before_method_body (a_frame {stack = stack} e own m) f = method_token stack (own_other refl own) f
names_end behind.before_method_body (a_deep_frame e p m) f = elim p [ ]
names_end behind.before_constructor_body (a_frame {stack = stack} e own m) f = constructor_token stack (own_other refl own) f
names_end behind.before_constructor_body (a_deep_frame e meaning.a_constructor_body m) (by_deep table.of_constructor_body (by_token f)) = a_brace
names_end {k = k} behind.before_semicolon (a_frame {stack = stack} e own m) f = semicolon_body k (expected_token stack (own_token own) f)
names_end behind.before_semicolon (a_deep_frame e p m) f = elim p [ ]

-- ---- names of types

no_word : {limit : ℕ} {whole : Bool} {depth : ℕ} {fs : Frames} {stack : Stack} {word k : TokenKind} {ks : List TokenKind} → ListWord word → BodyToken k →
    Follows whole stack (k ∷ ks) → FStep limit whole depth fs stack k ks (machine.names_behind word k)
no_word behind.word_implements a_brace f = past f
no_word behind.word_implements a_semicolon f = past f
no_word behind.word_extends a_brace f = past f
no_word behind.word_extends a_semicolon f = past f
no_word behind.word_throws a_brace f = past f
no_word behind.word_throws a_semicolon f = past f

pub names_behind_step : {limit depth room : ℕ} {whole closed : Bool} {fs : Frames} {stack : Stack} {word k : TokenKind} {ks : List TokenKind} →
    depth + room ≡ limit → ListWord word → BehindNames fs → Orderly fs → Means limit closed fs stack →
    Follows whole ((room, part (table.names_behind word)) ∷ stack) (k ∷ ks) → FStep limit whole depth fs stack k ks (machine.names_behind word k)
names_behind_step e behind.word_implements b order means (by_part table.some_names (by_token f)) =
    taking (takes_it (omega (arith, e)) (b, order) (a_frame e (meaning.a_part meaning.some_names) means) f)
names_behind_step e behind.word_extends b order means (by_part table.some_names (by_token f)) =
    taking (takes_it (omega (arith, e)) (b, order) (a_frame e (meaning.a_part meaning.some_names) means) f)
names_behind_step e behind.word_throws b order means (by_part table.some_names (by_token f)) =
    taking (takes_it (omega (arith, e)) (b, order) (a_frame e (meaning.a_part meaning.some_names) means) f)
names_behind_step e word b order means (by_part table.no_names f) = no_word word (names_end b means f) f

no_comma : {limit : ℕ} {whole : Bool} {depth : ℕ} {fs : Frames} {stack : Stack} {k : TokenKind} {ks : List TokenKind} → BodyToken k →
    Follows whole stack (k ∷ ks) → FStep limit whole depth fs stack k ks (machine.more_names k)
no_comma a_brace f = past f
no_comma a_semicolon f = past f

pub more_names_step : {limit depth : ℕ} {whole closed : Bool} {fs : Frames} {stack : Stack} {k : TokenKind} {ks : List TokenKind} {ss : List Symbol} (room : ℕ) →
    depth + room ≡ limit → BehindNames fs → Orderly fs → Means limit closed fs stack → Within frame.MoreNames ss → Follows whole (in_room room ss ++ stack) (k ∷ ks) →
    FStep limit whole depth fs stack k ks (machine.more_names k)
more_names_step room e b order means meaning.no_more_names f = no_comma (names_end b means f) f
more_names_step room e b order means meaning.more_names (by_token f) =
    taking (takes_it (omega (arith, e)) (b, order) (a_frame e (meaning.a_part meaning.some_names) means) f)

-- ---- the superclass

-- what stands behind where a superclass may stand
data HeadToken : TokenKind → Type 0 where
  interfaces : HeadToken token.Implements
  a_body : {k : TokenKind} → BodyToken k → HeadToken k

interfaces_token : {limit : ℕ} {whole closed : Bool} {room at : ℕ} {own : Stack} {fs : Frames} {stack : Stack} {k : TokenKind} {ks : List TokenKind} →
    OwnOther room (frame.NamesBehind token.Implements) own → Means limit closed ((at, frame.ClassBody) ∷ fs) stack → Follows whole (own ++ stack) (k ∷ ks) → HeadToken k
interfaces_token (the_symbols meaning.some_names_behind) m (by_part table.some_names (by_token f)) = interfaces
interfaces_token (the_symbols meaning.some_names_behind) m (by_part table.no_names f) = a_body (names_end behind.before_class_body m f)
interfaces_token (one_part p) m f = elim p [ ]
interfaces_token (of_type p) m f = elim p [ ]
interfaces_token (of_effect p q) m f = elim p [ ]
interfaces_token (of_pair p) m f = elim p [ ]
interfaces_token (of_index p q r) m f = elim p [ ]

head_token : {limit : ℕ} {whole closed : Bool} {fs : Frames} {stack : Stack} {k : TokenKind} {ks : List TokenKind} → BehindSuperclass fs →
    Means limit closed fs stack → Follows whole stack (k ∷ ks) → HeadToken k
head_token behind.before_interfaces (a_frame e own m) f = interfaces_token (own_other refl own) m f
head_token behind.before_interfaces (a_deep_frame e p m) f = elim p [ ]

no_superclass : {limit : ℕ} {whole : Bool} {depth : ℕ} {fs : Frames} {stack : Stack} {k : TokenKind} {ks : List TokenKind} → HeadToken k →
    Follows whole stack (k ∷ ks) → FStep limit whole depth fs stack k ks (machine.superclass k)
no_superclass interfaces f = past f
no_superclass (a_body a_brace) f = past f
no_superclass (a_body a_semicolon) f = past f

pub superclass_step : {limit depth : ℕ} {whole closed : Bool} {fs : Frames} {stack : Stack} {k : TokenKind} {ks : List TokenKind} {ss : List Symbol} (room : ℕ) →
    depth + room ≡ limit → BehindSuperclass fs → Orderly fs → Means limit closed fs stack → Within frame.Superclass ss → Follows whole (in_room room ss ++ stack) (k ∷ ks) →
    FStep limit whole depth fs stack k ks (machine.superclass k)
superclass_step room e b order means meaning.a_superclass (by_part table.of_superclass (by_token f)) =
    taking (takes_it (omega (arith, e)) (tt, order) (a_frame e meaning.expected means) f)
superclass_step room e b order means meaning.a_superclass (by_part table.no_superclass f) = no_superclass (head_token b means f) f

-- ---- the value of a variable

no_value : {limit : ℕ} {whole : Bool} {depth : ℕ} {fs : Frames} {stack : Stack} {ks : List TokenKind} (k : TokenKind) → is_closer k ≡ true →
    Follows whole stack (k ∷ ks) → FStep limit whole depth fs stack k ks (machine.initialized k)
no_value token.Assign is f = absurd cc
no_value _ is f = past f

pub initialized_step : {limit depth : ℕ} {whole closed : Bool} {fs : Frames} {stack : Stack} {k : TokenKind} {ks : List TokenKind} {ss : List Symbol} (room : ℕ) →
    depth + room ≡ limit → Closes fs → Orderly fs → Means limit closed fs stack → Within frame.Initialized ss → Follows whole (in_room room ss ++ stack) (k ∷ ks) →
    FStep limit whole depth fs stack k ks (machine.initialized k)
initialized_step {k = k} room e b order means meaning.not_initialized f = no_value k (closer b means f) f
initialized_step room e b order means meaning.initialized (by_token f) =
    taking (takes_it (omega (arith, e)) (b, order) (a_frame e (meaning.a_part meaning.an_initial) means) f)

-- ---- what stands behind a statement

no_own_else : {room : ℕ} {own : Stack} → OwnOther room frame.Else own → ⊥
no_own_else (one_part p) = elim p [ ]
no_own_else (the_symbols p) = elim p [ ]
no_own_else (of_type p) = elim p [ ]
no_own_else (of_effect p q) = elim p [ ]
no_own_else (of_pair p) = elim p [ ]
no_own_else (of_index p q r) = elim p [ ]

-- the token that a block or a group refuses
block_refuses : {limit depth room : ℕ} {whole closed : Bool} {own stack : Stack} {fs : Frames} {k : TokenKind} {ks : List TokenKind} → depth + room ≡ limit →
    OwnOther room frame.Statements own → Orderly fs → Means limit closed fs stack → Follows whole (own ++ stack) (k ∷ ks) →
    Takes limit whole depth fs ks (machine.statements k)
block_refuses e (the_symbols meaning.statements) order m f = statements_takes e order m f
block_refuses e (one_part p) order m f = elim p [ ]
block_refuses e (of_type p) order m f = elim p [ ]
block_refuses e (of_effect p q) order m f = elim p [ ]
block_refuses e (of_pair p) order m f = elim p [ ]
block_refuses e (of_index p q r) order m f = elim p [ ]

group_refuses : {limit depth room : ℕ} {whole closed : Bool} {own stack : Stack} {fs : Frames} {k : TokenKind} {ks : List TokenKind} → depth + room ≡ limit →
    OwnOther room frame.Group own → Orderly fs → Means limit closed fs stack → Follows whole (own ++ stack) (k ∷ ks) →
    Takes limit whole depth fs ks (machine.group k)
group_refuses e (the_symbols meaning.group) order m f = group_takes e order m f
group_refuses e (one_part p) order m f = elim p [ ]
group_refuses e (of_type p) order m f = elim p [ ]
group_refuses e (of_effect p q) order m f = elim p [ ]
group_refuses e (of_pair p) order m f = elim p [ ]
group_refuses e (of_index p q r) order m f = elim p [ ]

-- no `catch` stands there
no_catch : {limit : ℕ} {whole closed : Bool} {fs : Frames} {stack : Stack} {ks : List TokenKind} → BehindStatement fs → Orderly fs →
    Means limit closed fs stack → Follows whole stack (token.Catch ∷ ks) → ⊥
no_catch behind.last_statement order meaning.nothing f = elim f [ ]
no_catch behind.before_statements order (a_frame e own m) f = elim (block_refuses e (own_other refl own) order.1 m f) [ ]
no_catch behind.before_statements order (a_deep_frame e p m) f = elim p [ ]
no_catch behind.before_group order (a_frame e own m) f = elim (group_refuses e (own_other refl own) order.1 m f) [ ]
no_catch behind.before_group order (a_deep_frame e p m) f = elim p [ ]
no_catch behind.before_while order (a_frame {stack = stack} e own m) f = let same = expected_token stack (own_token own) f in cc
no_catch behind.before_while order (a_deep_frame e p m) f = elim p [ ]
no_catch (behind.before_else b) order (a_frame e own m) f = no_own_else (own_other refl own)
no_catch (behind.before_else b) order (a_deep_frame e p m) f = elim p [ ]
no_catch (behind.before_else b) order (meaning.no_else m) f = no_catch b order.1 m f
no_catch (behind.before_else b) order (meaning.an_else e m) f = elim f [ ]

-- and no `else`, unless the statement has to be closed
no_else : {limit : ℕ} {whole : Bool} {fs : Frames} {stack : Stack} {ks : List TokenKind} → BehindStatement fs → Orderly fs →
    Means limit false fs stack → Follows whole stack (token.Else ∷ ks) → ⊥
no_else behind.last_statement order meaning.nothing f = elim f [ ]
no_else behind.before_statements order (a_frame e own m) f = elim (block_refuses e (own_other refl own) order.1 m f) [ ]
no_else behind.before_statements order (a_deep_frame e p m) f = elim p [ ]
no_else behind.before_group order (a_frame e own m) f = elim (group_refuses e (own_other refl own) order.1 m f) [ ]
no_else behind.before_group order (a_deep_frame e p m) f = elim p [ ]
no_else behind.before_while order (a_frame {stack = stack} e own m) f = let same = expected_token stack (own_token own) f in cc
no_else behind.before_while order (a_deep_frame e p m) f = elim p [ ]
no_else (behind.before_else b) order (a_frame e own m) f = no_own_else (own_other refl own)
no_else (behind.before_else b) order (a_deep_frame e p m) f = elim p [ ]
no_else (behind.before_else b) order (meaning.no_else m) f = no_else b order.1 m f

-- further catches
catches_past : {limit : ℕ} {whole closed : Bool} {depth : ℕ} {fs : Frames} {stack : Stack} {ks : List TokenKind} (k : TokenKind) → BehindStatement fs → Orderly fs →
    Means limit closed fs stack → Follows whole stack (k ∷ ks) → FStep limit whole depth fs stack k ks (machine.more_catches k)
catches_past token.Catch b order means f = absurd (no_catch b order means f)
catches_past _ b order means f = past f

more_catches : {limit : ℕ} {whole : Bool} {depth : ℕ} {fs : Frames} {ks : List TokenKind} (k : TokenKind) → Takes limit whole depth fs ks (machine.catches k) →
    Takes limit whole depth fs ks (machine.more_catches k)
more_catches token.Catch t = t
more_catches _ t = elim t [ ]

pub more_catches_step : {limit depth : ℕ} {whole closed : Bool} {fs : Frames} {stack : Stack} {k : TokenKind} {ks : List TokenKind} {ss : List Symbol} (room : ℕ) →
    depth + room ≡ limit → BehindStatement fs → Orderly fs → Means limit closed fs stack → Within frame.MoreCatches ss → Follows whole (in_room room ss ++ stack) (k ∷ ks) →
    FStep limit whole depth fs stack k ks (machine.more_catches k)
more_catches_step {k = k} room e b order means meaning.no_more_catches f = catches_past k b order means f
more_catches_step {k = k} room e b order means meaning.more_catches f = taking (more_catches k (catches_takes e b order means f))

-- the other branch of an `if`
pub no_else_step : {limit : ℕ} {whole : Bool} {depth : ℕ} {fs : Frames} {stack : Stack} {ks : List TokenKind} (k : TokenKind) → BehindStatement fs → Orderly fs →
    Means limit false fs stack → Follows whole stack (k ∷ ks) → FStep limit whole depth fs stack k ks (machine.else_branch k)
no_else_step token.Else b order means f = absurd (no_else b order means f)
no_else_step _ b order means f = past f

pub an_else_takes : {limit depth room : ℕ} {whole closed : Bool} {fs : Frames} {stack : Stack} {k : TokenKind} {ks : List TokenKind} →
    depth + room ≡ limit → BehindStatement fs → Orderly fs → Means limit closed fs stack →
    Follows whole ((room, a token.Else) ∷ (room, deep (statement_part closed)) ∷ stack) (k ∷ ks) → Takes limit whole depth fs ks (machine.else_branch k)
an_else_takes {closed = closed} e b order means (by_token f) =
    takes_it (omega (arith, e)) (b, order) (meaning.a_deep_statement {closed = closed} e means) f
