-- Where nothing more comes, and where a bracket comes.
use Rattle.std.proofs.Common.{◌≡◌, ℕ, zero, suc, Bool, true, List, [], ◌∷◌, ◌++◌, refl}
use Rattle.jsh_tree.specs.declared.token.TokenKind.{TokenKind}
use Rattle.jsh_tree.specs.declared.token.TokenKind.TheVariants as token
use Rattle.jsh_grammar.specs.Productions.{a, part}
use Rattle.jsh_grammar.specs.Productions as table
use Rattle.jsh_grammar.specs.Leads.{in_room}
use Rattle.jsh_recognizer.specs.declared.frame.Context.{Context}
use Rattle.jsh_recognizer.specs.declared.frame.Ending.{Ending}
use Rattle.jsh_recognizer.specs.declared.frame.Ending.TheVariants as ending
use Rattle.jsh_recognizer.specs.Meanings.{Stack, Follows, by_token, by_class, by_part, by_deep}
use Rattle.jsh_recognizer.specs.Meanings as means
use Rattle.jsh_recognizer.specs.Machine.{Frames, may_end}
use Rattle.jsh_recognizer.specs.Meanings.{After, More, Paths, Tail, Choices, Indexed, Means}
use Rattle.jsh_recognizer.proofs.TakesOrder.{ClosesPath}
use Rattle.jsh_recognizer.proofs.TakesTail.{under, closer, behind_token, first_tail_token}

-- ---- a bracket

-- no bracket comes where no place comes
pub after_bracket : {limit room : ℕ} {whole closed : Bool} {c : Context} {e : Ending} {fs : Frames} {own stack : Stack} {ks : List TokenKind} →
    ClosesPath c fs → Means limit closed fs stack → After room c e own → Follows whole (own ++ stack) (token.LeftBracket ∷ ks) → ⊥
after_bracket closes m (means.value (means.behind_first t)) f = let h = first_tail_token closes m t f in cc
after_bracket closes m (means.value means.behind_other) f = let h = behind_token closes m f in cc
after_bracket closes m (means.stepped ends behind) (by_class is f) = cc
after_bracket closes m (means.stepped_effect ends) (by_class is f) = cc
after_bracket closes m (means.assigned ends) (by_class is f) = cc
after_bracket closes m (means.assigned_effect ends) (by_class is f) = cc
after_bracket closes m (means.as_target ends) f = let h = behind_token closes m f in cc
after_bracket closes m means.as_effect f = let h = closer closes m f in cc

pub path_index : {limit room : ℕ} {whole closed : Bool} {c : Context} {e : Ending} {fs : Frames} {own stack : Stack} {ks : List TokenKind} →
    ClosesPath c fs → Means limit closed fs stack → Paths room c e own → Follows whole (own ++ stack) (token.LeftBracket ∷ ks) →
    (rest index : Stack) × More room c ending.Place rest × Indexed room (rest ++ stack) index × Follows whole index ks
path_index closes m (means.as_it_ends (means.no_more after)) f = absurd (after_bracket closes m after f)
path_index {stack = stack} closes m (means.as_it_ends (means.more_places {rest = rest} more))
    (by_part table.of_element (by_deep {room = room} table.of_index (by_token f))) =
    (rest, in_room room (part table.expression ∷ a token.RightBracket ∷ []) ++ (rest ++ stack), more, means.indexed, f)
path_index closes m (means.as_it_ends (means.more_places more)) (by_part table.of_field f) = elim f [ ]
path_index closes m (means.as_it_ends (means.more_calls more)) f = elim f [ ]
path_index closes m (means.name_called more) (by_deep table.no_arguments f) = elim f [ ]
path_index closes m (means.name_called more) (by_deep table.some_arguments f) = elim f [ ]

-- ---- the end

under_ends : (n room : ℕ) (x : Stack) → Follows true (in_room room (under n) ++ x) [] → Follows true x []
under_ends zero room x f = f
under_ends (suc n) room x (by_part table.no_operation f) = under_ends n room x f
under_ends (suc n) room x (by_part (table.of_operation less) f) = elim f [ ]
under_ends (suc n) room x (by_part table.of_instanceof f) = elim f [ ]

choices_end : {room : ℕ} {own : Stack} (stack : Stack) → Choices room own → Follows true (own ++ stack) [] → Follows true stack []
choices_end stack means.no_choice f = f
choices_end stack means.one_choice f = elim f [ ]

pub tail_ends : {room : ℕ} {own stack : Stack} → Tail room 9 own → Follows true (own ++ stack) [] → Follows true stack []
tail_ends {room = room} {stack = stack} (means.tail {choice = own} branches) f = choices_end stack branches (under_ends 10 room (own ++ stack) f)

pub type_tail_ends : {room : ℕ} {own stack : Stack} → Tail room 6 own → Follows true (own ++ stack) [] → Follows true stack []
type_tail_ends {room = room} {stack = stack} (means.tail {choice = own} branches) f = choices_end stack branches (under_ends 7 room (own ++ stack) f)

pub after_ends : {room : ℕ} {c : Context} {e : Ending} {own stack : Stack} → After room c e own → Follows true (own ++ stack) [] →
    (may_end c e ≡ true) × Follows true stack []
after_ends (means.value (means.behind_first t)) f = (refl, tail_ends t f)
after_ends (means.value means.behind_other) f = (refl, f)
after_ends (means.stepped ends behind) f = elim f [ ]
after_ends (means.stepped_effect ends) f = elim f [ ]
after_ends (means.assigned ends) f = elim f [ ]
after_ends (means.assigned_effect ends) f = elim f [ ]
after_ends (means.as_target ends) f = (ends, f)
after_ends means.as_effect f = (refl, f)

pub more_ends : {room : ℕ} {c : Context} {e : Ending} {own stack : Stack} → More room c e own → Follows true (own ++ stack) [] →
    (may_end c e ≡ true) × Follows true stack []
more_ends (means.no_more after) f = after_ends after f
more_ends (means.more_places more) (by_part table.of_field f) = elim f [ ]
more_ends (means.more_places more) (by_part table.of_element (by_deep table.of_index f)) = elim f [ ]
more_ends (means.more_calls more) f = elim f [ ]

pub paths_end : {room : ℕ} {c : Context} {e : Ending} {own stack : Stack} → Paths room c e own → Follows true (own ++ stack) [] →
    (may_end c e ≡ true) × Follows true stack []
paths_end (means.as_it_ends more) f = more_ends more f
paths_end (means.name_called more) (by_deep table.no_arguments f) = elim f [ ]
paths_end (means.name_called more) (by_deep table.some_arguments f) = elim f [ ]

pub path_ends : {room : ℕ} {c : Context} {e : Ending} {own stack : Stack} → Paths room c e own → Follows true (own ++ stack) [] →
    Follows true stack []
path_ends p f = let h = paths_end p f in h.1
