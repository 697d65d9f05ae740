-- What each sort of frame stands for, without the constructors that aren't of this sort.
use Rattle.std.proofs.Common.{◌≡◌, ℕ, Bool, true, false, List, [], ◌∷◌, ◌++◌, ◌⊎◌, inl, inr, refl, sym}
use Rattle.jsh_tree.specs.declared.token.TokenKind.{TokenKind}
use Rattle.jsh_tree.specs.declared.token.TokenKind.TheVariants as token
use Rattle.jsh_grammar.specs.Classes.{is_type_name}
use Rattle.jsh_grammar.specs.Productions.{Part, Symbol, a, any, part, deep}
use Rattle.jsh_grammar.specs.Productions as table
use Rattle.jsh_grammar.specs.Leads.{in_room}
use Rattle.jsh_recognizer.specs.declared.frame.Context.{Context}
use Rattle.jsh_recognizer.specs.declared.frame.Ending.{Ending}
use Rattle.jsh_recognizer.specs.declared.frame.Ending.TheVariants as ending
use Rattle.jsh_recognizer.specs.declared.frame.Frame.{Frame}
use Rattle.jsh_recognizer.specs.declared.frame.Frame.TheVariants as frame
use Rattle.jsh_recognizer.specs.Meanings.{Stack}
use Rattle.jsh_recognizer.specs.Meanings as means
use Rattle.jsh_recognizer.specs.Machine.{may_cast}
use Rattle.jsh_recognizer.specs.Meanings.{More, Paths, Behind, Tail, Sizes, Created, Opens, OpensNamed, OpensPair, Casts, Indexed, IsPartOf, Within, Declares, DeclaresPair, Ended, EndedPair, Own}

-- the sorts of frames
pub data Sort : Type 0 where
  of_token : Sort
  of_part : Sort
  of_symbols : Sort
  of_operand : Sort
  of_several : Sort

abbrev pub sort_of : Frame → Sort
sort_of (frame.Expect k) = of_token
sort_of frame.Expression = of_part
sort_of frame.Conditional = of_part
sort_of frame.Operand = of_part
sort_of frame.Unsigned = of_part
sort_of frame.Target = of_part
sort_of frame.Effect = of_part
sort_of frame.Initial = of_part
sort_of frame.Type = of_part
sort_of (frame.Operators b) = of_operand
sort_of (frame.Path c e) = of_operand
sort_of (frame.Member c) = of_operand
sort_of (frame.Opened c) = of_operand
sort_of (frame.OpenedName c) = of_operand
sort_of (frame.OpenedPair c) = of_operand
sort_of (frame.CastType p c) = of_operand
sort_of (frame.Enclosed c) = of_operand
sort_of (frame.New c) = of_operand
sort_of (frame.NewNamed c) = of_operand
sort_of (frame.NewPrimitive c) = of_operand
sort_of (frame.NewOpened c) = of_operand
sort_of (frame.NewFilled c) = of_operand
sort_of (frame.NewSized c) = of_operand
sort_of (frame.NewSizedOpened c) = of_operand
sort_of (frame.NewUnsized c) = of_operand
sort_of (frame.NewUnsizedOpened c) = of_operand
sort_of frame.OpenArguments = of_symbols
sort_of frame.Arguments = of_symbols
sort_of frame.MoreArguments = of_symbols
sort_of frame.Values = of_symbols
sort_of frame.MoreValues = of_symbols
sort_of frame.Brackets = of_symbols
sort_of _ = of_several

part_sort : {f : Frame} {n : Part} → IsPartOf f n → (s : Sort) → sort_of f ≡ s → (s ≡ of_part) ⊎ (s ≡ of_several)
part_sort means.an_expression s is = inl (sym is)
part_sort means.a_conditional s is = inl (sym is)
part_sort means.an_operand s is = inl (sym is)
part_sort means.an_unsigned s is = inl (sym is)
part_sort means.a_target s is = inl (sym is)
part_sort means.an_effect s is = inl (sym is)
part_sort means.an_initial s is = inl (sym is)
part_sort means.a_type s is = inl (sym is)
part_sort _ s is = inr (sym is)

within_sort : {f : Frame} {ss : List Symbol} → Within f ss → (s : Sort) → sort_of f ≡ s → (s ≡ of_symbols) ⊎ (s ≡ of_several)
within_sort means.some_brackets s is = inl (sym is)
within_sort means.no_argument s is = inl (sym is)
within_sort means.arguments s is = inl (sym is)
within_sort means.last_argument s is = inl (sym is)
within_sort means.next_argument s is = inl (sym is)
within_sort means.a_call s is = inl (sym is)
within_sort means.no_value s is = inl (sym is)
within_sort means.values s is = inl (sym is)
within_sort means.last_value s is = inl (sym is)
within_sort means.last_comma s is = inl (sym is)
within_sort means.next_value s is = inl (sym is)
within_sort _ s is = inr (sym is)

declares_sort : {f : Frame} {ss : List Symbol} → Declares f ss → sort_of f ≡ of_several
declares_sort means.bare_local = refl
declares_sort _ = refl

declares_pair_sort : {f : Frame} {ss : List Symbol} → DeclaresPair f ss → sort_of f ≡ of_several
declares_pair_sort (means.paired_local d) = refl
declares_pair_sort _ = refl

ended_sort : {f : Frame} {c : Context} {ss : List Symbol} → Ended f c ss → sort_of f ≡ of_several
ended_sort means.by_semicolon = refl
ended_sort _ = refl

ended_pair_sort : {f : Frame} {c : Context} {ss : List Symbol} → EndedPair f c ss → sort_of f ≡ of_several
ended_pair_sort means.pair_by_semicolon = refl
ended_pair_sort _ = refl

-- ---- a token

pub data OwnToken (room : ℕ) (k : TokenKind) : Stack → Type 0 where
  the_token : OwnToken room k ((room, a k) ∷ [])

pub own_token : {room : ℕ} {k : TokenKind} {own : Stack} → Own room (frame.Expect k) own → OwnToken room k own
own_token means.expected = the_token
own_token (means.a_part p) = elim p [ ]
own_token (means.within p) = elim p [ ]
own_token (means.named_type p) = elim p [ ]
own_token (means.named_effect p q) = elim p [ ]
own_token (means.pair_of_type p) = elim p [ ]
own_token (means.pair_of_index p q r) = elim p [ ]

-- ---- a part

pub data OwnPart (room : ℕ) (f : Frame) : Stack → Type 0 where
  the_part : {n : Part} → IsPartOf f n → OwnPart room f ((room, part n) ∷ [])

pub own_part : {room : ℕ} {f : Frame} {own : Stack} → sort_of f ≡ of_part → Own room f own → OwnPart room f own
own_part is (means.a_part p) = the_part p
own_part is (means.within p) = elim (within_sort p of_part is) [ inl h ↦ absurd cc | inr h ↦ absurd cc ]
own_part is (means.named_type p) = let h = declares_sort p in absurd cc
own_part is (means.named_effect p q) = let h = ended_sort p in absurd cc
own_part is (means.pair_of_type p) = let h = declares_pair_sort p in absurd cc
own_part is (means.pair_of_index p q r) = let h = ended_pair_sort p in absurd cc
own_part is _ = absurd cc

-- ---- symbols

pub data OwnSymbols (room : ℕ) (f : Frame) : Stack → Type 0 where
  the_symbols : {ss : List Symbol} → Within f ss → OwnSymbols room f (in_room room ss)

pub own_symbols : {room : ℕ} {f : Frame} {own : Stack} → sort_of f ≡ of_symbols → Own room f own → OwnSymbols room f own
own_symbols is (means.within p) = the_symbols p
own_symbols is (means.a_part p) = elim (part_sort p of_symbols is) [ inl h ↦ absurd cc | inr h ↦ absurd cc ]
own_symbols is (means.named_type p) = let h = declares_sort p in absurd cc
own_symbols is (means.named_effect p q) = let h = ended_sort p in absurd cc
own_symbols is (means.pair_of_type p) = let h = declares_pair_sort p in absurd cc
own_symbols is (means.pair_of_index p q r) = let h = ended_pair_sort p in absurd cc
own_symbols is _ = absurd cc

-- ---- operands

pub data OwnOperand (room : ℕ) : Frame → Stack → Type 0 where
  operators : {stack : Stack} → Tail room 9 stack → OwnOperand room (frame.Operators false) stack
  operators_behind_type : {stack : Stack} → Tail room 6 stack → OwnOperand room (frame.Operators true) stack
  path : {c : Context} {e : Ending} {stack : Stack} → Paths room c e stack → OwnOperand room (frame.Path c e) stack
  a_member : {c : Context} {stack : Stack} → Paths room c ending.Name stack → OwnOperand room (frame.Member c) ((room, a token.Identifier) ∷ stack)
  opened : {c : Context} {stack : Stack} → may_cast c ≡ true → Opens room c stack → OwnOperand room (frame.Opened c) stack
  opened_name : {c : Context} {stack : Stack} → may_cast c ≡ true → OpensNamed room c stack → OwnOperand room (frame.OpenedName c) stack
  opened_pair : {c : Context} {stack : Stack} → may_cast c ≡ true → OpensPair room c stack → OwnOperand room (frame.OpenedPair c) stack
  cast_type : {primitive : Bool} {c : Context} {stack : Stack} → Casts room primitive c stack → OwnOperand room (frame.CastType primitive c) stack
  enclosed : {c : Context} {stack : Stack} → may_cast c ≡ true → More room c ending.Other stack → OwnOperand room (frame.Enclosed c) stack
  enclosed_cast : {c : Context} {stack : Stack} → Behind room c stack → OwnOperand room (frame.Enclosed c) ((room, deep table.unsigned) ∷ stack)
  new_object : {c : Context} {stack : Stack} → More room c ending.Call stack →
      OwnOperand room (frame.New c) ((room, a token.Identifier) ∷ (room, deep table.arguments) ∷ stack)
  new_array : {c : Context} {stack : Stack} → Created room c stack → OwnOperand room (frame.New c) ((room, any is_type_name) ∷ stack)
  new_named_object : {c : Context} {stack : Stack} → More room c ending.Call stack → OwnOperand room (frame.NewNamed c) ((room, deep table.arguments) ∷ stack)
  new_named_array : {c : Context} {stack : Stack} → Created room c stack → OwnOperand room (frame.NewNamed c) stack
  new_primitive_array : {c : Context} {stack : Stack} → Created room c stack → OwnOperand room (frame.NewPrimitive c) stack
  new_size : {c : Context} {rest stack : Stack} → Sizes room c rest → Indexed room rest stack → OwnOperand room (frame.NewOpened c) stack
  new_values : {c : Context} {stack : Stack} → More room c ending.Other stack →
      OwnOperand room (frame.NewOpened c) (in_room room (a token.RightBracket ∷ part table.brackets ∷ deep table.braces ∷ []) ++ stack)
  new_filled : {c : Context} {stack : Stack} → More room c ending.Other stack →
      OwnOperand room (frame.NewFilled c) (in_room room (part table.brackets ∷ deep table.braces ∷ []) ++ stack)
  new_sized : {c : Context} {stack : Stack} → Sizes room c stack → OwnOperand room (frame.NewSized c) stack
  next_size : {c : Context} {rest stack : Stack} → Sizes room c rest → Indexed room rest stack → OwnOperand room (frame.NewSizedOpened c) stack
  closing_pair : {c : Context} {stack : Stack} → More room c ending.Other stack →
      OwnOperand room (frame.NewSizedOpened c) (in_room room (a token.RightBracket ∷ part table.brackets ∷ []) ++ stack)
  new_unsized : {c : Context} {stack : Stack} → More room c ending.Other stack → OwnOperand room (frame.NewUnsized c) ((room, part table.brackets) ∷ stack)
  unsized_pair : {c : Context} {stack : Stack} → More room c ending.Other stack →
      OwnOperand room (frame.NewUnsizedOpened c) (in_room room (a token.RightBracket ∷ part table.brackets ∷ []) ++ stack)
  unsized_index : {c : Context} {rest stack : Stack} → More room c ending.Place rest → Indexed room rest stack →
      OwnOperand room (frame.NewUnsizedOpened c) stack

pub own_operand : {room : ℕ} {f : Frame} {own : Stack} → sort_of f ≡ of_operand → Own room f own → OwnOperand room f own
own_operand is (means.within p) = elim (within_sort p of_operand is) [ inl h ↦ absurd cc | inr h ↦ absurd cc ]
own_operand is (means.a_part p) = elim (part_sort p of_operand is) [ inl h ↦ absurd cc | inr h ↦ absurd cc ]
own_operand is (means.named_type p) = let h = declares_sort p in absurd cc
own_operand is (means.named_effect p q) = let h = ended_sort p in absurd cc
own_operand is (means.pair_of_type p) = let h = declares_pair_sort p in absurd cc
own_operand is (means.pair_of_index p q r) = let h = ended_pair_sort p in absurd cc
own_operand is (means.operators p) = operators p
own_operand is (means.operators_behind_type p) = operators_behind_type p
own_operand is (means.path p) = path p
own_operand is (means.a_member p) = a_member p
own_operand is (means.opened i p) = opened i p
own_operand is (means.opened_name i p) = opened_name i p
own_operand is (means.opened_pair i p) = opened_pair i p
own_operand is (means.cast_type p) = cast_type p
own_operand is (means.enclosed i p) = enclosed i p
own_operand is (means.enclosed_cast p) = enclosed_cast p
own_operand is (means.new_object p) = new_object p
own_operand is (means.new_array p) = new_array p
own_operand is (means.new_named_object p) = new_named_object p
own_operand is (means.new_named_array p) = new_named_array p
own_operand is (means.new_primitive_array p) = new_primitive_array p
own_operand is (means.new_size p q) = new_size p q
own_operand is (means.new_values p) = new_values p
own_operand is (means.new_filled p) = new_filled p
own_operand is (means.new_sized p) = new_sized p
own_operand is (means.next_size p q) = next_size p q
own_operand is (means.closing_pair p) = closing_pair p
own_operand is (means.new_unsized p) = new_unsized p
own_operand is (means.unsized_pair p) = unsized_pair p
own_operand is (means.unsized_index p q) = unsized_index p q
own_operand is _ = absurd cc
