-- What makes the moves of frames right: each way in which the new frames can be meant is, behind the token, one of those in which the frame can.
use Rattle.std.proofs.Common.{◌≡◌, ℕ, zero, suc, ◌+◌, ◌≤◌, ◌&&◌, ◌||◌, Bool, true, false, List, [], ◌∷◌, ◌++◌, refl, sym, subst, arith}
use Rattle.jsh_tree.specs.declared.token.TokenKind.{TokenKind}
use Rattle.jsh_tree.specs.declared.token.TokenKind.TheVariants as token
use Rattle.jsh_grammar.specs.Productions.{Part, a, part, deep}
use Rattle.jsh_recognizer.specs.declared.frame.Frame.{Frame}
use Rattle.jsh_recognizer.specs.declared.frame.Frame.TheVariants as frame
use Rattle.jsh_recognizer.specs.Machine.{Frames, Move, takes, passes, refuses, inside, onto}
use Rattle.jsh_recognizer.specs.Meanings as meant
use Rattle.jsh_recognizer.specs.Meanings.{Stack, Follows, IsPartOf, Own, Means, nothing, a_frame, a_deep_frame, a_statement, a_deep_statement, no_else, an_else, statement_part}
use Rattle.jsh_recognizer.proofs.MeantStep.{HasMeaning, Sound, sound_inside}
use Rattle.jsh_recognizer.proofs.MeantPath.{some_more}
use Rattle.jsh_recognizer.proofs.MeantShape.{Cases, Flags, flag_of, neat, reads}

-- ---- frames that stand for something

-- The frame stands for something in any room.
abbrev pub has_own : Frame → Bool
has_own (frame.Expect k) = true
has_own (frame.Path c e) = true
has_own frame.Named = true
has_own frame.NamedPair = true
has_own frame.ForNamed = true
has_own frame.ForPair = true
has_own frame.NamedSnippet = true
has_own frame.NamedSnippetPair = true
has_own frame.Expression = true
has_own frame.Conditional = true
has_own frame.Operand = true
has_own frame.Unsigned = true
has_own frame.Target = true
has_own frame.Effect = true
has_own frame.Initial = true
has_own frame.Type = true
has_own frame.Condition = true
has_own frame.Block = true
has_own frame.Variable = true
has_own frame.For = true
has_own frame.Switch = true
has_own frame.Catches = true
has_own frame.Snippet = true
has_own frame.Names = true
has_own frame.Parameters = true
has_own frame.ClassBody = true
has_own frame.ConstructorBody = true
has_own frame.InterfaceBody = true
has_own frame.Brackets = true
has_own frame.Superclass = true
has_own (frame.NamesBehind word) = true
has_own frame.Arguments = true
has_own frame.MoreArguments = true
has_own frame.OpenArguments = true
has_own frame.Values = true
has_own frame.MoreValues = true
has_own frame.Statements = true
has_own frame.Initialized = true
has_own frame.Returned = true
has_own frame.ForStart = true
has_own frame.ForVariable = true
has_own frame.ForInferred = true
has_own frame.ForTyped = true
has_own frame.ForCondition = true
has_own frame.ForUpdate = true
has_own frame.Groups = true
has_own frame.Group = true
has_own frame.CaseValue = true
has_own frame.NegativeValue = true
has_own frame.MoreCatches = true
has_own frame.CatchType = true
has_own frame.Import = true
has_own frame.DottedName = true
has_own frame.MoreDotted = true
has_own frame.Declaration = true
has_own frame.MethodOrVariable = true
has_own frame.MoreNames = true
has_own frame.ParametersInside = true
has_own frame.Parameter = true
has_own frame.MoreParameters = true
has_own frame.Members = true
has_own frame.ClassMember = true
has_own frame.NamedMember = true
has_own frame.FieldOrMethod = true
has_own frame.MethodBody = true
has_own frame.FirstCall = true
has_own frame.ThisFirst = true
has_own frame.SuperFirst = true
has_own frame.Signatures = true
has_own frame.Signature = true
has_own _ = false

default_own : (room : ℕ) (f : Frame) → has_own f ≡ true → (own : Stack) × Own room f own
default_own room (frame.Expect k) e = (_, meant.expected)
default_own room (frame.Path c e) h = let m = some_more room c e in (m.0, meant.path (meant.as_it_ends m.1))
default_own room frame.Named e = (_, meant.named_type meant.bare_local)
default_own room frame.NamedPair e = (_, meant.pair_of_type (meant.paired_local meant.bare_local))
default_own room frame.ForNamed e = (_, meant.named_type (meant.of_for meant.for_bare))
default_own room frame.ForPair e = (_, meant.pair_of_type (meant.paired_for (meant.of_for meant.for_bare)))
default_own room frame.NamedSnippet e = (_, meant.named_type (meant.of_snippet meant.a_method))
default_own room frame.NamedSnippetPair e = (_, meant.pair_of_type (meant.paired_snippet (meant.of_snippet meant.a_method)))
default_own room frame.Expression e = (_, meant.a_part meant.an_expression)
default_own room frame.Conditional e = (_, meant.a_part meant.a_conditional)
default_own room frame.Operand e = (_, meant.a_part meant.an_operand)
default_own room frame.Unsigned e = (_, meant.a_part meant.an_unsigned)
default_own room frame.Target e = (_, meant.a_part meant.a_target)
default_own room frame.Effect e = (_, meant.a_part meant.an_effect)
default_own room frame.Initial e = (_, meant.a_part meant.an_initial)
default_own room frame.Type e = (_, meant.a_part meant.a_type)
default_own room frame.Condition e = (_, meant.a_part meant.a_condition)
default_own room frame.Block e = (_, meant.a_part meant.a_block)
default_own room frame.Variable e = (_, meant.a_part meant.a_variable)
default_own room frame.For e = (_, meant.a_part meant.a_for_head)
default_own room frame.Switch e = (_, meant.a_part meant.a_switch)
default_own room frame.Catches e = (_, meant.a_part meant.some_catches)
default_own room frame.Snippet e = (_, meant.a_part meant.a_snippet)
default_own room frame.Names e = (_, meant.a_part meant.some_names)
default_own room frame.Parameters e = (_, meant.a_part meant.some_parameters)
default_own room frame.ClassBody e = (_, meant.a_part meant.a_class_body)
default_own room frame.ConstructorBody e = (_, meant.a_part meant.a_constructor_body)
default_own room frame.InterfaceBody e = (_, meant.a_part meant.an_interface_body)
default_own room frame.Brackets e = (_, meant.within meant.some_brackets)
default_own room frame.Superclass e = (_, meant.within meant.a_superclass)
default_own room (frame.NamesBehind word) e = (_, meant.within meant.some_names_behind)
default_own room frame.Arguments e = (_, meant.within meant.no_argument)
default_own room frame.MoreArguments e = (_, meant.within meant.last_argument)
default_own room frame.OpenArguments e = (_, meant.within meant.a_call)
default_own room frame.Values e = (_, meant.within meant.no_value)
default_own room frame.MoreValues e = (_, meant.within meant.last_value)
default_own room frame.Statements e = (_, meant.within meant.statements)
default_own room frame.Initialized e = (_, meant.within meant.not_initialized)
default_own room frame.Returned e = (_, meant.within meant.returned)
default_own room frame.ForStart e = (_, meant.within meant.for_start)
default_own room frame.ForVariable e = (_, meant.within meant.for_variable)
default_own room frame.ForInferred e = (_, meant.within meant.for_inferred)
default_own room frame.ForTyped e = (_, meant.within meant.for_bare)
default_own room frame.ForCondition e = (_, meant.within meant.for_condition)
default_own room frame.ForUpdate e = (_, meant.within meant.for_update)
default_own room frame.Groups e = (_, meant.within meant.groups)
default_own room frame.Group e = (_, meant.within meant.group)
default_own room frame.CaseValue e = (_, meant.within meant.positive_value)
default_own room frame.NegativeValue e = (_, meant.within meant.negative_value)
default_own room frame.MoreCatches e = (_, meant.within meant.no_more_catches)
default_own room frame.CatchType e = (_, meant.within meant.catch_type)
default_own room frame.Import e = (_, meant.within meant.imported)
default_own room frame.DottedName e = (_, meant.within meant.last_dotted)
default_own room frame.MoreDotted e = (_, meant.within meant.no_more_dotted)
default_own room frame.Declaration e = (_, meant.within meant.class_declared)
default_own room frame.MethodOrVariable e = (_, meant.within meant.a_method)
default_own room frame.MoreNames e = (_, meant.within meant.no_more_names)
default_own room frame.ParametersInside e = (_, meant.within meant.no_parameter)
default_own room frame.Parameter e = (_, meant.within meant.a_parameter)
default_own room frame.MoreParameters e = (_, meant.within meant.last_parameter)
default_own room frame.Members e = (_, meant.within meant.members)
default_own room frame.ClassMember e = (_, meant.within meant.member_bare_field)
default_own room frame.NamedMember e = (_, meant.within meant.named_bare_field)
default_own room frame.FieldOrMethod e = (_, meant.within meant.a_bare_field)
default_own room frame.MethodBody e = (_, meant.within meant.no_method_body)
default_own room frame.FirstCall e = (_, meant.within meant.first_call)
default_own room frame.ThisFirst e = (_, meant.within meant.this_called)
default_own room frame.SuperFirst e = (_, meant.within meant.super_called)
default_own room frame.Signatures e = (_, meant.within meant.signatures)
default_own room frame.Signature e = (_, meant.within meant.signature)
default_own room _ e = absurd cc

-- It stands for a part.
abbrev pub has_part : Frame → Bool
has_part frame.Expression = true
has_part frame.Conditional = true
has_part frame.Operand = true
has_part frame.Unsigned = true
has_part frame.Target = true
has_part frame.Effect = true
has_part frame.Initial = true
has_part frame.Type = true
has_part frame.Condition = true
has_part frame.Block = true
has_part frame.Variable = true
has_part frame.For = true
has_part frame.Switch = true
has_part frame.Catches = true
has_part frame.Snippet = true
has_part frame.Names = true
has_part frame.Parameters = true
has_part frame.ClassBody = true
has_part frame.ConstructorBody = true
has_part frame.InterfaceBody = true
has_part _ = false

default_part : (f : Frame) → has_part f ≡ true → (n : Part) × IsPartOf f n
default_part frame.Expression e = (_, meant.an_expression)
default_part frame.Conditional e = (_, meant.a_conditional)
default_part frame.Operand e = (_, meant.an_operand)
default_part frame.Unsigned e = (_, meant.an_unsigned)
default_part frame.Target e = (_, meant.a_target)
default_part frame.Effect e = (_, meant.an_effect)
default_part frame.Initial e = (_, meant.an_initial)
default_part frame.Type e = (_, meant.a_type)
default_part frame.Condition e = (_, meant.a_condition)
default_part frame.Block e = (_, meant.a_block)
default_part frame.Variable e = (_, meant.a_variable)
default_part frame.For e = (_, meant.a_for_head)
default_part frame.Switch e = (_, meant.a_switch)
default_part frame.Catches e = (_, meant.some_catches)
default_part frame.Snippet e = (_, meant.a_snippet)
default_part frame.Names e = (_, meant.some_names)
default_part frame.Parameters e = (_, meant.some_parameters)
default_part frame.ClassBody e = (_, meant.a_class_body)
default_part frame.ConstructorBody e = (_, meant.a_constructor_body)
default_part frame.InterfaceBody e = (_, meant.an_interface_body)
default_part _ e = absurd cc

-- no statement in front of the frames has to be closed
unclosed : {limit : ℕ} {closed : Bool} {fs : Frames} {stack : Stack} → Means limit closed fs stack → (own : Stack) × Means limit false fs own
unclosed nothing = (_, nothing)
unclosed (a_frame stands is means) = (_, a_frame stands is means)
unclosed (a_deep_frame stands is means) = (_, a_deep_frame stands is means)
unclosed (a_statement stands means) = (_, a_statement stands means)
unclosed (a_deep_statement stands means) = (_, a_deep_statement stands means)
unclosed (no_else means) = (_, no_else means)
unclosed (an_else stands means) = let h = unclosed means in (h.0, no_else h.1)

-- The frame can be put so many parts deeper. The flag says whether there is room for a whole frame that is one deeper.
abbrev pub may_put : Bool → ℕ → Frame → Bool
may_put room zero frame.Statement = true
may_put room zero frame.Else = true
may_put room zero f = has_own f
may_put room (suc zero) frame.Statement = true
may_put room (suc zero) f = has_part f || (room && has_own f)
may_put room (suc (suc m)) f = false

abbrev pub may_put_all : Bool → List (ℕ × Frame) → Bool
may_put_all room [] = true
may_put_all room (g ∷ gs) = may_put room g.0 g.1 && may_put_all room gs

put_own : {limit : ℕ} (at room : ℕ) → at + room ≡ limit → (f : Frame) → has_own f ≡ true → (fs : Frames) → HasMeaning limit fs → HasMeaning limit ((at, f) ∷ fs)
put_own at room fits f e fs h = let own = default_own room f e in (false, own.0 ++ h.1, a_frame fits own.1 h.2)

put_part : {limit : ℕ} (depth room : ℕ) → depth + room ≡ limit → (f : Frame) → has_part f ≡ true → (fs : Frames) → HasMeaning limit fs →
    HasMeaning limit ((depth + 1, f) ∷ fs)
put_part {limit = limit} depth room fits f e fs h =
    let own = default_part f e in
    let deeper : suc depth ≡ depth + 1 = omega arith in
    subst (λ x. HasMeaning limit ((x, f) ∷ fs)) deeper (false, (room, deep own.0) ∷ h.1, a_deep_frame fits own.1 h.2)

-- there is more room
abbrev pub HasRoom : Bool → ℕ → Type 0
HasRoom b room = b ≡ true → (r : ℕ) × (room ≡ suc r)

put_deeper : {limit : ℕ} (depth room : ℕ) (b p o : Bool) → depth + room ≡ limit → HasRoom b room → (f : Frame) → p || (b && o) ≡ true → p ≡ has_part f →
    o ≡ has_own f →
    (fs : Frames) → HasMeaning limit fs → HasMeaning limit ((depth + 1, f) ∷ fs)
put_deeper depth room b true o fits has f e is_part is_own fs h = put_part depth room fits f (sym is_part) fs h
put_deeper depth room true false true fits has f e is_part is_own fs h =
    let r = has refl in put_own (depth + 1) r.0 (omega (arith, fits, r.1)) f (sym is_own) fs h
put_deeper depth room true false false fits has f e is_part is_own fs h = absurd cc
put_deeper depth room false false o fits has f e is_part is_own fs h = absurd cc

put_one : {limit : ℕ} (depth room : ℕ) (b : Bool) → depth + room ≡ limit → HasRoom b room → (m : ℕ) (f : Frame) → may_put b m f ≡ true → (fs : Frames) →
    HasMeaning limit fs → HasMeaning limit ((depth + m, f) ∷ fs)
put_one depth room b fits has zero frame.Statement e fs h = (false, _, a_statement {room = room} (omega (arith, fits)) h.2)
put_one depth room b fits has zero frame.Else e fs h = let u = unclosed h.2 in (false, u.0, no_else u.1)
put_one depth room b fits has zero f e fs h = put_own (depth + 0) room (omega (arith, fits)) f e fs h
put_one {limit = limit} depth room b fits has (suc zero) frame.Statement e fs h =
    let deeper : suc depth ≡ depth + 1 = omega arith in
    subst (λ x. HasMeaning limit ((x, frame.Statement) ∷ fs)) deeper (false, (room, deep (statement_part h.0)) ∷ h.1, a_deep_statement fits h.2)
put_one depth room b fits has (suc zero) f e fs h = put_deeper depth room b (has_part f) (has_own f) fits has f e refl refl fs h
put_one depth room b fits has (suc (suc m)) f e fs h = absurd cc

both : {b c : Bool} → b && c ≡ true → (b ≡ true) × (c ≡ true)
both {b = true} e = (refl, e)
both {b = false} e = absurd cc

-- frames that can be put mean something in front of frames that do
pub put_all : {limit : ℕ} (depth room : ℕ) (b : Bool) → depth + room ≡ limit → HasRoom b room → (gs : List (ℕ × Frame)) → may_put_all b gs ≡ true →
    (fs : Frames) →
    HasMeaning limit fs → HasMeaning limit (onto depth gs fs)
put_all depth room b fits has [] e fs h = h
put_all depth room b fits has (g ∷ gs) e fs h =
    let split = both e in put_one depth room b fits has g.0 g.1 split.0 (onto depth gs fs) (put_all depth room b fits has gs split.1 fs h)

-- ---- what makes a move right

-- What stands for a frame, where the flag says whether a statement in front of the frames behind it has to be closed.
pub data Stands (room : ℕ) : Frame → Bool → Stack → Type 0 where
  as_own : {f : Frame} {closed : Bool} {own : Stack} → Own room f own → Stands room f closed own
  as_statement : {closed : Bool} → Stands room frame.Statement closed ((room, part (statement_part closed)) ∷ [])
  as_none : Stands room frame.Else false []
  as_else : {closed : Bool} → Stands room frame.Else closed ((room, a token.Else) ∷ (room, deep (statement_part closed)) ∷ [])

-- such a frame in front of the frames behind
pub stands_first : {limit depth room : ℕ} {f : Frame} {closed : Bool} {own rest : Stack} {fs : Frames} → depth + room ≡ limit → Stands room f closed own →
    Means limit closed fs rest → (first : Bool) × Means limit first ((depth, f) ∷ fs) (own ++ rest)
stands_first fits (as_own is) means = (false, a_frame fits is means)
stands_first fits as_statement means = (false, a_statement fits means)
stands_first fits as_none means = (false, no_else means)
stands_first fits as_else means = (true, an_else fits means)

-- One of the ways in which the frame can be meant is read as this, with the tokens in front of it.
abbrev pub Goal : ℕ → Frame → List TokenKind → Bool → Stack → Type 0
Goal room f t closed own = (goal : Stack) × Stands room f closed goal ×
    ((rest : Stack) (whole : Bool) (ks : List TokenKind) → Follows whole (own ++ rest) ks → Follows whole (goal ++ rest) (t ++ ks))

-- each way in which the frames can be meant is read so
abbrev pub AllGoals : ℕ → Frame → List TokenKind → List (ℕ × Frame) → Type 0
AllGoals room f t gs = Flags gs (λ closed. Cases room closed gs (Goal room f t))

-- what stands in front of frames behind the new ones, behind the token
pub goals_back : {limit : ℕ} (depth room : ℕ) → depth + room ≡ limit → {f : Frame} (t : List TokenKind) (gs : List (ℕ × Frame)) → neat gs ≡ true →
    AllGoals room f t gs →
    (fs : Frames) (closed : Bool) (stack : Stack) → Means limit closed (onto depth gs fs) stack →
    (behind : Bool) × (own : Stack) × (rest : Stack) × Stands room f behind own × Means limit behind fs rest ×
    ((whole : Bool) (ks : List TokenKind) → Follows whole stack ks → Follows whole (own ++ rest) (t ++ ks))
goals_back depth room fits {f = f} t gs is_neat all fs closed stack means =
    let cases = flag_of depth gs fs (λ closed. Cases room closed gs (Goal room f t)) all means in
    let b = reads depth room fits gs is_neat (Goal room f t) cases fs means in
    let goal = b.3 in
    (b.0, goal.0, b.2, goal.1, b.4, λ whole ks follows. goal.2 b.2 whole ks (b.5 whole ks follows))

-- What comes of a frame's move is right.
abbrev pub Right : ℕ → ℕ → ℕ → Frame → TokenKind → Move → Type 0
Right limit depth room f k (takes n new) = depth + n ≤ limit → Sound limit depth (Stands room f) k new
Right limit depth room f k passes = (fs : Frames) (closed : Bool) (stack : Stack) (whole : Bool) (ks : List TokenKind) → Means limit closed fs stack →
    Follows whole stack (k ∷ ks) →
    (behind : Bool) × (own : Stack) × (rest : Stack) × Stands room f behind own × Means limit behind fs rest × Follows whole (own ++ rest) (k ∷ ks)
Right limit depth room f k refuses = Unit {0}

-- a token that is taken where the frame stands
pub taken_flat : {limit : ℕ} (depth room : ℕ) (f : Frame) (k : TokenKind) → depth + room ≡ limit → (gs : List (ℕ × Frame)) → neat gs ≡ true →
    may_put_all false gs ≡ true →
    AllGoals room f (k ∷ []) gs → Right limit depth room f k (takes 0 gs)
taken_flat depth room f k fits gs is_neat put all le = record {
  onward = λ fs h. put_all depth room false fits (λ e. absurd cc) gs put fs h;
  back = λ fs closed stack means. goals_back depth room fits (k ∷ []) gs is_neat all fs closed stack means;
}

-- a token that is taken one part deeper
pub taken_deeper : {limit : ℕ} (depth room : ℕ) (f : Frame) (k : TokenKind) → depth + room ≡ limit → (gs : List (ℕ × Frame)) → neat gs ≡ true →
    may_put_all true gs ≡ true →
    ((r : ℕ) → AllGoals (suc r) f (k ∷ []) gs) → Right limit depth room f k (takes 1 gs)
taken_deeper depth zero f k fits gs is_neat put all le = absurd (omega (arith, fits, le))
taken_deeper depth (suc r) f k fits gs is_neat put all le = record {
  onward = λ fs h. put_all depth (suc r) true fits (λ e. (r, refl)) gs put fs h;
  back = λ fs closed stack means. goals_back depth (suc r) fits (k ∷ []) gs is_neat (all r) fs closed stack means;
}

-- What a move takes is right, where it stands.
abbrev pub TakesRight : ℕ → ℕ → ℕ → Frame → TokenKind → Move → Type 0
TakesRight limit depth room f k m = (n : ℕ) (new : List (ℕ × Frame)) → m ≡ takes n new → depth + n ≤ limit → Sound limit depth (Stands room f) k new

pub takes_right : {limit at room : ℕ} {f : Frame} {k : TokenKind} (m : Move) → Right limit at room f k m → TakesRight limit at room f k m
takes_right {limit = limit} {at = at} {room = room} {f = f} {k = k} m right n new e = subst (Right limit at room f k) e right

-- A move inside is right, where that of the inner frame is, and the frame can be meant as the inner one and those behind it.
pub inside_flat : {limit : ℕ} (depth room : ℕ) (f : Frame) (k : TokenKind) → depth + room ≡ limit → (g : Frame) (more : List (ℕ × Frame)) (m : Move) →
    TakesRight limit (depth + 0) room g k m → neat ((0, g) ∷ more) ≡ true → may_put_all false more ≡ true → AllGoals room f [] ((0, g) ∷ more) →
    Right limit depth room f k (inside 0 more m)
inside_flat depth room f k fits g more (takes own fs) inner is_neat put all =
    λ le. sound_inside 0 fs more (inner own fs refl (omega (arith, le)))
    (λ rest h. put_all depth room false fits (λ e. absurd cc) more put rest h)
    (λ rest closed own stack stands means.
    let first = stands_first (omega (arith, fits)) stands means in
    goals_back depth room fits [] ((0, g) ∷ more) is_neat all rest first.0 (own ++ stack) first.1)
inside_flat depth room f k fits g more passes inner is_neat put all = tt
inside_flat depth room f k fits g more refuses inner is_neat put all = tt

pub inside_deeper : {limit : ℕ} (depth room : ℕ) (f : Frame) (k : TokenKind) → depth + room ≡ limit → (g : Frame) (more : List (ℕ × Frame)) (m : Move) →
    ((r : ℕ) → (depth + 1) + r ≡ limit → TakesRight limit (depth + 1) r g k m) → neat ((1, g) ∷ more) ≡ true → may_put_all true more ≡ true →
    ((r : ℕ) → AllGoals (suc r) f [] ((1, g) ∷ more)) → Right limit depth room f k (inside 1 more m)
inside_deeper depth zero f k fits g more (takes own fs) inner is_neat put all = λ le. absurd (omega (arith, fits, le))
inside_deeper depth (suc r) f k fits g more (takes own fs) inner is_neat put all =
    λ le. sound_inside 1 fs more (inner r (omega (arith, fits)) own fs refl (omega (arith, le)))
    (λ rest h. put_all depth (suc r) true fits (λ e. (r, refl)) more put rest h)
    (λ rest closed own stack stands means.
    let first = stands_first (omega (arith, fits)) stands means in
    goals_back depth (suc r) fits [] ((1, g) ∷ more) is_neat (all r) rest first.0 (own ++ stack) first.1)
inside_deeper depth room f k fits g more passes inner is_neat put all = tt
inside_deeper depth room f k fits g more refuses inner is_neat put all = tt

-- A move is right where it is for another frame, and the frame can be meant as that one.
pub same_move : {limit : ℕ} (depth room : ℕ) (f : Frame) (k : TokenKind) → depth + room ≡ limit → (g : Frame) (m : Move) → Right limit depth room g k m →
    neat ((0, g) ∷ []) ≡ true → AllGoals room f [] ((0, g) ∷ []) → Right limit depth room f k m
same_move {limit = limit} depth room f k fits g (takes n new) right is_neat all = λ le. let s = right le in record {
  onward = s.onward;
  back = λ fs closed stack means.
      let b = s.back fs closed stack means in
      let first = stands_first fits b.3 b.4 in
      let here : depth ≡ depth + 0 = omega arith in
      let r = goals_back depth room fits [] ((0, g) ∷ []) is_neat all fs first.0 (b.1 ++ b.2)
      (subst (λ x. Means limit first.0 ((x, g) ∷ fs) (b.1 ++ b.2)) here first.1) in
      (r.0, r.1, r.2, r.3, r.4, λ whole ks follows. r.5 whole (k ∷ ks) (b.5 whole ks follows));
}
same_move {limit = limit} depth room f k fits g passes right is_neat all = λ fs closed stack whole ks means follows.
    let b = right fs closed stack whole ks means follows in
    let first = stands_first fits b.3 b.4 in
    let here : depth ≡ depth + 0 = omega arith in
    let r = goals_back depth room fits [] ((0, g) ∷ []) is_neat all fs first.0 (b.1 ++ b.2)
    (subst (λ x. Means limit first.0 ((x, g) ∷ fs) (b.1 ++ b.2)) here first.1) in
    (r.0, r.1, r.2, r.3, r.4, r.5 whole (k ∷ ks) b.5)
same_move depth room f k fits g refuses right is_neat all = tt
