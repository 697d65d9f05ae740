-- What frames one behind another stand for: a case for each way in which each of them can be meant.
use Rattle.std.proofs.Common.{◌≡◌, ℕ, zero, suc, ◌+◌, ◌⊎◌, ◌&&◌, Bool, true, false, not, List, [], ◌∷◌, ◌++◌, inl, inr, refl, sym, ap, subst, arith}
use Rattle.jsh_tree.specs.declared.token.TokenKind.TheVariants as token
use Rattle.jsh_grammar.specs.Classes.{is_case_value}
use Rattle.jsh_grammar.specs.Productions.{Part, Symbol, a, any, part, deep}
use Rattle.jsh_grammar.specs.Productions as table
use Rattle.jsh_grammar.specs.Leads.{in_room}
use Rattle.jsh_recognizer.specs.declared.frame.Frame.{Frame}
use Rattle.jsh_recognizer.specs.declared.frame.Frame.TheVariants as frame
use Rattle.jsh_recognizer.specs.Machine.{Frames, onto}
use Rattle.jsh_recognizer.specs.Meanings as meant
use Rattle.jsh_recognizer.specs.Meanings.{Stack, for_rest, each_rest, method_rest, IsPartOf, Within, Declares, DeclaresPair, Own, Means, a_frame, a_deep_frame, a_statement, a_deep_statement, no_else, an_else, statement_part}
use Rattle.jsh_recognizer.proofs.MeantStep.{Reads, under, after, same, reads_equal, deep_to_part, part_to_deep, Before, appended_assoc}

-- ---- the ways in which a frame can be meant

-- what a frame stands for: one of these parts, one of these lists, a statement, an `else`, or something else of its own
pub data Shape : Type 0 where
  parts : List Part → Shape
  lists : List (List Symbol) → Shape
  of_statement : Shape
  of_else : Shape
  of_its_own : Shape

-- what each frame stands for
abbrev pub shape : Frame → Shape
shape (frame.Expect k) = lists ((a k ∷ []) ∷ [])
shape frame.Expression = parts (table.expression ∷ [])
shape frame.Conditional = parts (table.conditional ∷ [])
shape frame.Operand = parts (table.unary ∷ [])
shape frame.Unsigned = parts (table.unsigned ∷ [])
shape frame.Target = parts (table.target ∷ [])
shape frame.Effect = parts (table.statement_expression ∷ [])
shape frame.Initial = parts (table.initial ∷ [])
shape frame.Type = parts (table.type_use ∷ [])
shape frame.Condition = parts (table.parenthesized ∷ [])
shape frame.Block = parts (table.block ∷ [])
shape frame.Variable = parts (table.variable ∷ [])
shape frame.For = parts (table.for_head ∷ table.each_head ∷ [])
shape frame.Switch = parts (table.switch_block ∷ [])
shape frame.Catches = parts (table.catches ∷ [])
shape frame.Snippet = parts (table.snippet ∷ [])
shape frame.Names = parts (table.names ∷ [])
shape frame.Parameters = parts (table.parameters ∷ [])
shape frame.ClassBody = parts (table.class_body ∷ [])
shape frame.ConstructorBody = parts (table.constructor_body ∷ [])
shape frame.InterfaceBody = parts (table.interface_body ∷ [])
shape frame.Brackets = lists ((part table.brackets ∷ []) ∷ [])
shape frame.Superclass = lists ((part table.superclass ∷ []) ∷ [])
shape (frame.NamesBehind word) = lists ((part (table.names_behind word) ∷ []) ∷ [])
shape frame.Arguments = lists ((a token.RightParen ∷ []) ∷ (part table.listed ∷ a token.RightParen ∷ []) ∷ [])
shape frame.MoreArguments = lists ((a token.RightParen ∷ []) ∷ (a token.Comma ∷ part table.listed ∷ a token.RightParen ∷ []) ∷ [])
shape frame.OpenArguments = lists ((deep table.arguments ∷ []) ∷ [])
shape frame.Values = lists ((a token.RightBrace ∷ []) ∷ (part table.initials ∷ a token.RightBrace ∷ []) ∷ [])
shape frame.MoreValues =
    lists ((a token.RightBrace ∷ []) ∷ (a token.Comma ∷ a token.RightBrace ∷ []) ∷ (a token.Comma ∷ part table.initials ∷ a token.RightBrace ∷ []) ∷ [])
shape frame.Statements = lists ((part table.statements ∷ a token.RightBrace ∷ []) ∷ [])
shape frame.Initialized = lists ([] ∷ (a token.Assign ∷ part table.initial ∷ []) ∷ [])
shape frame.Returned = lists ((part table.optional ∷ a token.Semicolon ∷ []) ∷ [])
shape frame.ForStart =
    lists ((part table.for_start ∷ for_rest) ∷ (part table.type_use ∷ a token.Identifier ∷ each_rest)
    ∷ (a token.Final ∷ part table.type_use ∷ a token.Identifier ∷ each_rest) ∷ (a token.Var ∷ a token.Identifier ∷ each_rest)
    ∷ (a token.Final ∷ a token.Var ∷ a token.Identifier ∷ each_rest) ∷ [])
shape frame.ForVariable =
    lists ((part table.variable ∷ for_rest) ∷ (part table.type_use ∷ a token.Identifier ∷ each_rest) ∷ (a token.Var ∷ a token.Identifier ∷ each_rest) ∷ [])
shape frame.ForInferred = lists ((a token.Assign ∷ part table.expression ∷ for_rest) ∷ each_rest ∷ [])
shape frame.ForTyped = lists (for_rest ∷ (a token.Assign ∷ part table.initial ∷ for_rest) ∷ each_rest ∷ [])
shape frame.ForCondition = lists ((part table.optional ∷ a token.Semicolon ∷ part table.update ∷ a token.RightParen ∷ []) ∷ [])
shape frame.ForUpdate = lists ((part table.update ∷ a token.RightParen ∷ []) ∷ [])
shape frame.Groups = lists ((part table.groups ∷ a token.RightBrace ∷ []) ∷ [])
shape frame.Group = lists ((part table.statements ∷ part table.groups ∷ a token.RightBrace ∷ []) ∷ [])
shape frame.CaseValue = lists ((any is_case_value ∷ a token.Colon ∷ []) ∷ (a token.Minus ∷ any is_case_value ∷ a token.Colon ∷ []) ∷ [])
shape frame.NegativeValue = lists ((any is_case_value ∷ a token.Colon ∷ []) ∷ [])
shape frame.MoreCatches = lists ([] ∷ (part table.catches ∷ []) ∷ [])
shape frame.CatchType = lists ((a token.Identifier ∷ []) ∷ (a token.Final ∷ a token.Identifier ∷ []) ∷ [])
shape frame.Import = lists ((part table.dotted ∷ a token.Semicolon ∷ []) ∷ (a token.Static ∷ part table.dotted ∷ a token.Semicolon ∷ []) ∷ [])
shape frame.DottedName =
    lists ((a token.Identifier ∷ a token.Semicolon ∷ []) ∷ (a token.Star ∷ a token.Semicolon ∷ [])
    ∷ (a token.Identifier ∷ part table.more_dotted ∷ a token.Semicolon ∷ []) ∷ [])
shape frame.MoreDotted = lists ((a token.Semicolon ∷ []) ∷ (part table.more_dotted ∷ a token.Semicolon ∷ []) ∷ [])
shape frame.Declaration =
    lists ((part table.modifiers ∷ a token.Class ∷ a token.Identifier ∷ part table.superclass ∷ part
    (table.names_behind token.Implements) ∷ deep table.class_body ∷ [])
    ∷ (part table.modifiers ∷ a token.Interface ∷ a token.Identifier ∷ part
    (table.names_behind token.Extends) ∷ deep table.interface_body ∷ [])
    ∷ (part table.modifiers ∷ part table.result ∷ a token.Identifier ∷ method_rest (deep table.block ∷ []))
    ∷ (part table.modifiers ∷ part table.variable ∷ a token.Semicolon ∷ []) ∷ [])
shape frame.MethodOrVariable =
    lists ((method_rest (deep table.block ∷ [])) ∷ (a token.Semicolon ∷ []) ∷ (a token.Assign ∷ part table.initial ∷ a token.Semicolon ∷ []) ∷ [])
shape frame.MoreNames = lists ([] ∷ (a token.Comma ∷ part table.names ∷ []) ∷ [])
shape frame.ParametersInside = lists ((a token.RightParen ∷ []) ∷ (part table.parameters_listed ∷ a token.RightParen ∷ []) ∷ [])
shape frame.Parameter = lists ((part table.parameters_listed ∷ a token.RightParen ∷ []) ∷ [])
shape frame.MoreParameters = lists ((a token.RightParen ∷ []) ∷ (a token.Comma ∷ part table.parameters_listed ∷ a token.RightParen ∷ []) ∷ [])
shape frame.Members = lists ((part table.class_members ∷ a token.RightBrace ∷ []) ∷ [])
shape frame.ClassMember =
    lists
    ((part table.member_modifiers ∷ part table.type_use ∷ a token.Identifier ∷ a token.Semicolon ∷ part table.class_members ∷ a token.RightBrace ∷ [])
    ∷ (part table.member_modifiers ∷ part table.type_use ∷ a token.Identifier ∷ a token.Assign ∷ part table.initial ∷ a token.Semicolon
    ∷ part table.class_members ∷ a token.RightBrace ∷ [])
    ∷ (part table.member_modifiers ∷ part table.result ∷ a token.Identifier ∷ method_rest (a token.Semicolon ∷ part table.class_members ∷ a token.RightBrace ∷ []))
    ∷ (part table.member_modifiers ∷ part table.result ∷ a token.Identifier ∷ method_rest (deep table.block ∷ part table.class_members ∷ a token.RightBrace ∷ []))
    ∷ (part table.member_modifiers ∷ a token.Identifier ∷ method_rest (deep table.constructor_body ∷ part table.class_members ∷ a token.RightBrace ∷ [])) ∷ [])
shape frame.NamedMember =
    lists ((part table.brackets ∷ a token.Identifier ∷ a token.Semicolon ∷ part table.class_members ∷ a token.RightBrace ∷ [])
    ∷ (part table.brackets ∷ a token.Identifier ∷ a token.Assign ∷ part table.initial ∷ a token.Semicolon ∷ part table.class_members ∷ a token.RightBrace ∷ [])
    ∷ (part table.brackets ∷ a token.Identifier ∷ method_rest (a token.Semicolon ∷ part table.class_members ∷ a token.RightBrace ∷ []))
    ∷ (part table.brackets ∷ a token.Identifier ∷ method_rest (deep table.block ∷ part table.class_members ∷ a token.RightBrace ∷ []))
    ∷ (method_rest (deep table.constructor_body ∷ part table.class_members ∷ a token.RightBrace ∷ [])) ∷ [])
shape frame.FieldOrMethod =
    lists ((a token.Semicolon ∷ []) ∷ (a token.Assign ∷ part table.initial ∷ a token.Semicolon ∷ []) ∷ (method_rest (a token.Semicolon ∷ []))
    ∷ (method_rest (deep table.block ∷ [])) ∷ [])
shape frame.MethodBody = lists ((a token.Semicolon ∷ []) ∷ (deep table.block ∷ []) ∷ [])
shape frame.FirstCall = lists ((part table.first_call ∷ part table.statements ∷ a token.RightBrace ∷ []) ∷ [])
shape frame.Signatures = lists ((part table.interface_methods ∷ a token.RightBrace ∷ []) ∷ [])
shape frame.Signature =
    lists ((part table.interface_modifiers ∷ part table.result ∷ a token.Identifier ∷ method_rest
    (a token.Semicolon ∷ part table.interface_methods ∷ a token.RightBrace ∷ [])) ∷ [])
shape frame.Statement = of_statement
shape frame.Else = of_else
shape _ = of_its_own

-- one of a list
abbrev pub Among : {A : Type 0} → A → List A → Type 0
Among x [] = ⊥
Among x (y ∷ []) = x ≡ y
Among x (y ∷ z ∷ l) = (x ≡ y) ⊎ Among x (z ∷ l)

-- a case for each of a list
abbrev pub Each : {A : Type 0} → (A → Type 0) → List A → Type 0
Each P [] = Unit {0}
Each P (x ∷ []) = P x
Each P (x ∷ y ∷ l) = P x × Each P (y ∷ l)

-- the case of one of them
pub among : {A : Type 0} (P : A → Type 0) (x : A) (l : List A) → Each P l → Among x l → P x
among P x [] each one = absurd one
among P x (y ∷ []) each one = subst P (sym one) each
among P x (y ∷ z ∷ l) each (inl e) = subst P (sym e) each.0
among P x (y ∷ z ∷ l) each (inr one) = among P x (z ∷ l) each.1 one

-- a part that a frame stands for is of its shape
abbrev PartShape : Part → Shape → Type 0
PartShape n (parts ns) = Among n ns
PartShape n _ = ⊥

of_part : {f : Frame} {n : Part} → IsPartOf f n → PartShape n (shape f)
of_part meant.an_expression = refl
of_part meant.a_conditional = refl
of_part meant.an_operand = refl
of_part meant.an_unsigned = refl
of_part meant.a_target = refl
of_part meant.an_effect = refl
of_part meant.an_initial = refl
of_part meant.a_type = refl
of_part meant.a_condition = refl
of_part meant.a_block = refl
of_part meant.a_variable = refl
of_part meant.a_for_head = inl refl
of_part meant.an_each_head = inr refl
of_part meant.a_switch = refl
of_part meant.some_catches = refl
of_part meant.a_snippet = refl
of_part meant.some_names = refl
of_part meant.some_parameters = refl
of_part meant.a_class_body = refl
of_part meant.a_constructor_body = refl
of_part meant.an_interface_body = refl

-- the frame's own stack is of its shape
abbrev OwnShape : ℕ → Stack → Shape → Type 0
OwnShape room own (parts ns) = (n : Part) × (own ≡ (room, part n) ∷ []) × Among n ns
OwnShape room own (lists l) = (ss : List Symbol) × (own ≡ in_room room ss) × Among ss l
OwnShape room own of_its_own = Unit {0}
OwnShape room own _ = ⊥

own_part : (room : ℕ) (n : Part) (s : Shape) → PartShape n s → OwnShape room ((room, part n) ∷ []) s
own_part room n (parts ns) one = (n, refl, one)
own_part room n (lists l) one = absurd one
own_part room n of_statement one = absurd one
own_part room n of_else one = absurd one
own_part room n of_its_own one = absurd one

of_list : (room : ℕ) {f : Frame} {ss : List Symbol} → Within f ss → OwnShape room (in_room room ss) (shape f)
of_list room meant.some_brackets = (_, refl, refl)
of_list room meant.a_superclass = (_, refl, refl)
of_list room meant.some_names_behind = (_, refl, refl)
of_list room meant.no_argument = (_, refl, inl refl)
of_list room meant.arguments = (_, refl, inr refl)
of_list room meant.last_argument = (_, refl, inl refl)
of_list room meant.next_argument = (_, refl, inr refl)
of_list room meant.a_call = (_, refl, refl)
of_list room meant.no_value = (_, refl, inl refl)
of_list room meant.values = (_, refl, inr refl)
of_list room meant.last_value = (_, refl, inl refl)
of_list room meant.last_comma = (_, refl, inr (inl refl))
of_list room meant.next_value = (_, refl, inr (inr refl))
of_list room meant.statements = (_, refl, refl)
of_list room meant.not_initialized = (_, refl, inl refl)
of_list room meant.initialized = (_, refl, inr refl)
of_list room meant.returned = (_, refl, refl)
of_list room meant.for_start = (_, refl, inl refl)
of_list room meant.each_typed = (_, refl, inr (inl refl))
of_list room meant.each_final = (_, refl, inr (inr (inl refl)))
of_list room meant.each_inferred = (_, refl, inr (inr (inr (inl refl))))
of_list room meant.each_final_inferred = (_, refl, inr (inr (inr (inr refl))))
of_list room meant.for_variable = (_, refl, inl refl)
of_list room meant.each_of_type = (_, refl, inr (inl refl))
of_list room meant.each_of_var = (_, refl, inr (inr refl))
of_list room meant.for_inferred = (_, refl, inl refl)
of_list room meant.each_of_inferred = (_, refl, inr refl)
of_list room meant.for_bare = (_, refl, inl refl)
of_list room meant.for_initialized = (_, refl, inr (inl refl))
of_list room meant.each_of_typed = (_, refl, inr (inr refl))
of_list room meant.for_condition = (_, refl, refl)
of_list room meant.for_update = (_, refl, refl)
of_list room meant.groups = (_, refl, refl)
of_list room meant.group = (_, refl, refl)
of_list room meant.positive_value = (_, refl, inl refl)
of_list room meant.negative_case = (_, refl, inr refl)
of_list room meant.negative_value = (_, refl, refl)
of_list room meant.no_more_catches = (_, refl, inl refl)
of_list room meant.more_catches = (_, refl, inr refl)
of_list room meant.catch_type = (_, refl, inl refl)
of_list room meant.final_catch_type = (_, refl, inr refl)
of_list room meant.imported = (_, refl, inl refl)
of_list room meant.static_imported = (_, refl, inr refl)
of_list room meant.last_dotted = (_, refl, inl refl)
of_list room meant.dotted_star = (_, refl, inr (inl refl))
of_list room meant.next_dotted = (_, refl, inr (inr refl))
of_list room meant.no_more_dotted = (_, refl, inl refl)
of_list room meant.more_dotted = (_, refl, inr refl)
of_list room meant.class_declared = (_, refl, inl refl)
of_list room meant.interface_declared = (_, refl, inr (inl refl))
of_list room meant.method_declared = (_, refl, inr (inr (inl refl)))
of_list room meant.variable_declared = (_, refl, inr (inr (inr refl)))
of_list room meant.a_method = (_, refl, inl refl)
of_list room meant.a_bare_variable = (_, refl, inr (inl refl))
of_list room meant.an_initialized_variable = (_, refl, inr (inr refl))
of_list room meant.no_more_names = (_, refl, inl refl)
of_list room meant.more_names = (_, refl, inr refl)
of_list room meant.no_parameter = (_, refl, inl refl)
of_list room meant.parameters_inside = (_, refl, inr refl)
of_list room meant.a_parameter = (_, refl, refl)
of_list room meant.last_parameter = (_, refl, inl refl)
of_list room meant.next_parameter = (_, refl, inr refl)
of_list room meant.members = (_, refl, refl)
of_list room meant.member_bare_field = (_, refl, inl refl)
of_list room meant.member_field = (_, refl, inr (inl refl))
of_list room meant.member_abstract_method = (_, refl, inr (inr (inl refl)))
of_list room meant.member_method = (_, refl, inr (inr (inr (inl refl))))
of_list room meant.member_constructor = (_, refl, inr (inr (inr (inr refl))))
of_list room meant.named_bare_field = (_, refl, inl refl)
of_list room meant.named_field = (_, refl, inr (inl refl))
of_list room meant.named_abstract_method = (_, refl, inr (inr (inl refl)))
of_list room meant.named_method = (_, refl, inr (inr (inr (inl refl))))
of_list room meant.named_constructor = (_, refl, inr (inr (inr (inr refl))))
of_list room meant.a_bare_field = (_, refl, inl refl)
of_list room meant.an_initialized_field = (_, refl, inr (inl refl))
of_list room meant.an_abstract_method = (_, refl, inr (inr (inl refl)))
of_list room meant.a_whole_method = (_, refl, inr (inr (inr refl)))
of_list room meant.no_method_body = (_, refl, inl refl)
of_list room meant.method_body = (_, refl, inr refl)
of_list room meant.first_call = (_, refl, refl)
of_list room meant.this_called = tt
of_list room meant.super_called = tt
of_list room meant.signatures = (_, refl, refl)
of_list room meant.signature = (_, refl, refl)

of_named : (room : ℕ) (own : Stack) {f : Frame} {ss : List Symbol} → Declares f ss → OwnShape room own (shape f)
of_named room own meant.bare_local = tt
of_named room own meant.initialized_local = tt
of_named room own (meant.of_for w) = tt
of_named room own (meant.of_snippet w) = tt

of_pair : (room : ℕ) (own : Stack) {f : Frame} {ss : List Symbol} → DeclaresPair f ss → OwnShape room own (shape f)
of_pair room own (meant.paired_local d) = tt
of_pair room own (meant.paired_for d) = tt
of_pair room own (meant.paired_snippet d) = tt

of_own : {room : ℕ} {f : Frame} {own : Stack} → Own room f own → OwnShape room own (shape f)
of_own meant.expected = (_, refl, refl)
of_own {f = f} (meant.a_part p) = own_part _ _ (shape f) (of_part p)
of_own (meant.within w) = of_list _ w
of_own (meant.named_type d) = of_named _ _ d
of_own (meant.named_effect meant.by_semicolon p) = tt
of_own (meant.named_effect meant.in_for p) = tt
of_own (meant.named_effect meant.by_snippet p) = tt
of_own (meant.pair_of_type d) = of_pair _ _ d
of_own (meant.pair_of_index meant.pair_by_semicolon m i) = tt
of_own (meant.pair_of_index meant.pair_in_for m i) = tt
of_own (meant.pair_of_index meant.pair_by_snippet m i) = tt
of_own _ = tt

-- ---- frames one behind another

-- one less
abbrev pub less : ℕ → ℕ
less zero = zero
less (suc n) = n

abbrev pub is_else : Frame → Bool
is_else frame.Else = true
is_else _ = false

-- the room of a frame that stands so many parts deeper, at most one
abbrev pub inner : ℕ → ℕ → ℕ
inner zero room = room
inner (suc m) room = less room

-- a part that stands so many parts deeper, at most one
abbrev pub at_depth : ℕ → ℕ → Part → ℕ × Symbol
at_depth zero room n = (room, part n)
at_depth (suc m) room n = (room, deep n)

-- A case for what may be meant by the frames behind: that a statement in front of them has to be closed, or doesn't.
abbrev pub FlagsAt : Bool → (Bool → Type 0) → Type 0
FlagsAt true Q = Q false × Q true
FlagsAt false Q = Q false

abbrev pub Flags : List (ℕ × Frame) → (Bool → Type 0) → Type 0
Flags [] Q = (closed : Bool) → Q closed
Flags (g ∷ gs) Q = FlagsAt (is_else g.1) Q

-- the cases of the first frame, by its shape
abbrev pub First : ℕ → Bool → ℕ → Frame → List (ℕ × Frame) → (Bool → Stack → Type 0) → Shape → Type 0
First room closed m f gs K (parts ns) = Flags gs (λ c. Each (λ n. K c (at_depth m room n ∷ [])) ns)
First room closed m f gs K (lists l) = Flags gs (λ c. Each (λ ss. K c (in_room (inner m room) ss)) l)
First room closed m f gs K of_statement = Flags gs (λ c. K c (at_depth m room (statement_part c) ∷ []))
First room false m f gs K of_else = K false []
First room true m f gs K of_else = Flags gs (λ c. K c ((room, a token.Else) ∷ (room, deep (statement_part c)) ∷ []))
First room closed m f gs K of_its_own = Flags gs (λ c. (own : Stack) → Own (inner m room) f own → K c own)

-- A case for each way in which all these frames can be meant, of which the case of one is the kind.
abbrev pub Cases : ℕ → Bool → List (ℕ × Frame) → (Bool → Stack → Type 0) → Type 0
Cases room closed [] P = P closed []
Cases room closed (g ∷ gs) P = First room closed g.0 g.1 gs (λ c form. Cases room c gs (λ d own. P d (form ++ own))) (shape g.1)

-- the frames stand at most one part deeper, and no `else` does
abbrev pub neat_one : ℕ → Frame → Bool
neat_one zero f = true
neat_one (suc zero) f = not (is_else f)
neat_one (suc (suc m)) f = false

abbrev pub neat : List (ℕ × Frame) → Bool
neat [] = true
neat (g ∷ gs) = neat_one g.0 g.1 && neat gs

flag_false : (b : Bool) (Q : Bool → Type 0) → FlagsAt b Q → Q false
flag_false true Q h = h.0
flag_false false Q h = h

flag_first : {limit at : ℕ} {f : Frame} {fs : Frames} {closed : Bool} {stack : Stack} (Q : Bool → Type 0) → FlagsAt (is_else f) Q →
    Means limit closed ((at, f) ∷ fs) stack → Q closed
flag_first Q h (a_frame {f = f} stands is means) = flag_false (is_else f) Q h
flag_first Q h (a_deep_frame {f = f} stands is means) = flag_false (is_else f) Q h
flag_first Q h (a_statement stands means) = h
flag_first Q h (a_deep_statement stands means) = h
flag_first Q h (no_else means) = h.0
flag_first Q h (an_else stands means) = h.1

-- the case of what the frames behind mean
pub flag_of : {limit : ℕ} (depth : ℕ) (gs : List (ℕ × Frame)) (fs : Frames) {closed : Bool} {stack : Stack} (Q : Bool → Type 0) → Flags gs Q →
    Means limit closed (onto depth gs fs) stack → Q closed
flag_of depth [] fs {closed = closed} Q h means = h closed
flag_of depth (g ∷ gs) fs Q h means = flag_first Q h means

-- a frame's own stack as deep as the room says
own_flat : {limit : ℕ} (depth room : ℕ) {f : Frame} (gs : List (ℕ × Frame)) (fs : Frames) {closed : Bool} {own rest : Stack}
    (K : Bool → Stack → Type 0) (s : Shape) → OwnShape room own s → Own room f own → First room false zero f gs K s →
    Means limit closed (onto depth gs fs) rest → Before limit K (onto depth gs fs) (own ++ rest)
own_flat depth room gs fs {closed = closed} {rest = rest} K (parts ns) shaped is h means = (
  closed,
  (room, part shaped.0) ∷ [],
  rest,
  among (λ n. K closed ((room, part n) ∷ [])) shaped.0 ns (flag_of depth gs fs _ h means) shaped.2,
  means,
  reads_equal (ap (λ x. x ++ rest) shaped.1),
)
own_flat depth room gs fs {closed = closed} {rest = rest} K (lists l) shaped is h means = (
  closed,
  in_room room shaped.0,
  rest,
  among (λ ss. K closed (in_room room ss)) shaped.0 l (flag_of depth gs fs _ h means) shaped.2,
  means,
  reads_equal (ap (λ x. x ++ rest) shaped.1),
)
own_flat depth room gs fs K of_statement shaped is h means = absurd shaped
own_flat depth room gs fs K of_else shaped is h means = absurd shaped
own_flat depth room {f = f} gs fs {closed = closed} {own = own} {rest = rest} K of_its_own shaped is h means =
    (closed, own, rest, flag_of depth gs fs (λ c. (own : Stack) → Own room f own → K c own) h means own is, means, same (own ++ rest))

-- a frame's own stack one deeper
own_deep : {limit : ℕ} (depth room : ℕ) {f : Frame} (gs : List (ℕ × Frame)) (fs : Frames) {closed : Bool} {own rest : Stack}
    (K : Bool → Stack → Type 0) (s : Shape) → OwnShape room own s → Own room f own → First (suc room) false (suc zero) f gs K s →
    Means limit closed (onto depth gs fs) rest → Before limit K (onto depth gs fs) (own ++ rest)
own_deep depth room gs fs {closed = closed} {rest = rest} K (parts ns) shaped is h means = (
  closed,
  (suc room, deep shaped.0) ∷ [],
  rest,
  among (λ n. K closed ((suc room, deep n) ∷ [])) shaped.0 ns (flag_of depth gs fs _ h means) shaped.2,
  means,
  after (reads_equal (ap (λ x. x ++ rest) shaped.1)) part_to_deep,
)
own_deep depth room gs fs {closed = closed} {rest = rest} K (lists l) shaped is h means = (
  closed,
  in_room room shaped.0,
  rest,
  among (λ ss. K closed (in_room room ss)) shaped.0 l (flag_of depth gs fs _ h means) shaped.2,
  means,
  reads_equal (ap (λ x. x ++ rest) shaped.1),
)
own_deep depth room gs fs K of_statement shaped is h means = absurd shaped
own_deep depth room gs fs K of_else shaped is h means = absurd shaped
own_deep depth room {f = f} gs fs {closed = closed} {own = own} {rest = rest} K of_its_own shaped is h means =
    (closed, own, rest, flag_of depth gs fs (λ c. (own : Stack) → Own room f own → K c own) h means own is, means, same (own ++ rest))

-- a deep part
part_deep : {limit : ℕ} (depth room : ℕ) (f : Frame) {n : Part} (gs : List (ℕ × Frame)) (fs : Frames) {closed : Bool} {rest : Stack}
    (K : Bool → Stack → Type 0) (s : Shape) → PartShape n s → First room false (suc zero) f gs K s →
    Means limit closed (onto depth gs fs) rest → Before limit K (onto depth gs fs) ((room, deep n) ∷ rest)
part_deep depth room f {n = n} gs fs {closed = closed} {rest = rest} K (parts ns) one h means = (
  closed,
  (room, deep n) ∷ [],
  rest,
  among (λ n. K closed ((room, deep n) ∷ [])) n ns (flag_of depth gs fs _ h means) one,
  means,
  same
      ((room, deep n) ∷ rest),
)
part_deep depth room f gs fs K (lists l) one h means = absurd one
part_deep depth room f gs fs K of_statement one h means = absurd one
part_deep depth room f gs fs K of_else one h means = absurd one
part_deep depth room f gs fs K of_its_own one h means = absurd one

before_reads : {limit : ℕ} {P : Bool → Stack → Type 0} {fs : Frames} {s t : Stack} → Reads s t → Before limit P fs t → Before limit P fs s
before_reads r b = (b.0, b.1, b.2, b.3, b.4, after r b.5)

-- the first frame
first : {limit at : ℕ} (depth room m : ℕ) {f : Frame} (gs : List (ℕ × Frame)) (fs : Frames) {closed : Bool} {stack : Stack} → depth + room ≡ limit →
    at ≡ depth + m → neat_one m f ≡ true → (K : Bool → Stack → Type 0) → First room closed m f gs K (shape f) →
    Means limit closed ((at, f) ∷ onto depth gs fs) stack → Before limit K (onto depth gs fs) stack
first depth room zero gs fs fits e flat_else K h (a_frame {room = r} {f = f} {own = own} stands is means) =
    let flat : r ≡ room = omega (arith, fits, e, stands) in
    let is_flat = subst (λ x. Own x f own) flat is in
    own_flat depth room gs fs K (shape f) (of_own is_flat) is_flat h means
first depth room zero gs fs fits e flat_else K h (a_deep_frame {depth = d} {room = r} {f = f} {n = n} {stack = rest} stands is means) =
    let flat : r ≡ suc room = omega (arith, fits, e, stands) in
    before_reads (subst (λ x. Reads ((x, deep n) ∷ rest) ((room, part n) ∷ rest)) (sym flat) deep_to_part)
    (own_flat depth room gs fs K (shape f) (of_own (meant.a_part is)) (meant.a_part is) h means)
first depth room zero gs fs fits e flat_else K h (a_statement {closed = c} {room = r} {stack = rest} stands means) =
    let flat : r ≡ room = omega (arith, fits, e, stands) in (
      c,
      (room, part (statement_part c)) ∷ [],
      rest,
      flag_of depth gs fs (λ c. K c ((room, part (statement_part c)) ∷ [])) h means,
      means,
      reads_equal (ap (λ x. (x, part (statement_part c)) ∷ rest) flat),
    )
first depth room zero gs fs fits e flat_else K h (a_deep_statement {closed = c} {depth = d} {room = r} {stack = rest} stands means) =
    let flat : r ≡ suc room = omega (arith, fits, e, stands) in (
      c,
      (room, part (statement_part c)) ∷ [],
      rest,
      flag_of depth gs fs (λ c. K c ((room, part (statement_part c)) ∷ [])) h means,
      means,
      subst (λ x. Reads ((x, deep (statement_part c)) ∷ rest) ((room, part (statement_part c)) ∷ rest)) (sym flat) deep_to_part,
    )
first depth room zero gs fs fits e flat_else K h (no_else {stack = rest} means) = (false, [], rest, h, means, same rest)
first depth room zero gs fs fits e flat_else K h (an_else {closed = c} {room = r} {stack = rest} stands means) =
    let flat : r ≡ room = omega (arith, fits, e, stands) in (
      c,
      (room, a token.Else) ∷ (room, deep (statement_part c)) ∷ [],
      rest,
      flag_of depth gs fs (λ c. K c ((room, a token.Else) ∷ (room, deep (statement_part c)) ∷ [])) h means,
      means,
      reads_equal (ap (λ x. (x, a token.Else) ∷ (x, deep (statement_part c)) ∷ rest) flat),
    )
first depth room (suc zero) gs fs fits e flat_else K h (a_frame {room = r} {f = f} {own = own} stands is means) =
    let deeper : room ≡ suc r = omega (arith, fits, e, stands) in
    own_deep depth r gs fs K (shape f) (of_own is) is (subst (λ x. First x false (suc zero) f gs K (shape f)) deeper h) means
first depth room (suc zero) gs fs fits e flat_else K h (a_deep_frame {depth = d} {room = r} {f = f} {n = n} {stack = rest} stands is means) =
    let flat : r ≡ room = omega (arith, fits, e, stands) in
    before_reads (reads_equal (ap (λ x. (x, deep n) ∷ rest) flat)) (part_deep depth room f gs fs K (shape f) (of_part is) h means)
first depth room (suc zero) gs fs fits e flat_else K h (a_statement {closed = c} {room = r} {stack = rest} stands means) =
    let deeper : suc r ≡ room = omega (arith, fits, e, stands) in (
      c,
      (room, deep (statement_part c)) ∷ [],
      rest,
      flag_of depth gs fs (λ c. K c ((room, deep (statement_part c)) ∷ [])) h means,
      means,
      subst (λ x. Reads ((r, part (statement_part c)) ∷ rest) ((x, deep (statement_part c)) ∷ rest)) deeper part_to_deep,
    )
first depth room (suc zero) gs fs fits e flat_else K h (a_deep_statement {closed = c} {depth = d} {room = r} {stack = rest} stands means) =
    let flat : r ≡ room = omega (arith, fits, e, stands) in (
      c,
      (room, deep (statement_part c)) ∷ [],
      rest,
      flag_of depth gs fs (λ c. K c ((room, deep (statement_part c)) ∷ [])) h means,
      means,
      reads_equal (ap (λ x. (x, deep (statement_part c)) ∷ rest) flat),
    )
first depth room (suc zero) gs fs fits e flat_else K h (no_else means) = absurd cc
first depth room (suc zero) gs fs fits e flat_else K h (an_else stands means) = absurd cc
first depth room (suc (suc m)) gs fs fits e flat_else K h means = absurd cc

both : {b c : Bool} → b && c ≡ true → (b ≡ true) × (c ≡ true)
both {b = true} e = (refl, e)
both {b = false} e = absurd cc

-- one stack in front of another, each read as it is meant
joined : (front own rest : Stack) {stack behind : Stack} → Reads stack (front ++ behind) → Reads behind (own ++ rest) → Reads stack ((front ++ own) ++ rest)
joined front own rest first second = after first (after (under front second) (reads_equal (sym (appended_assoc front own rest))))

-- What stands in front of frames that stand behind these is one of the cases.
pub reads : {limit : ℕ} (depth room : ℕ) → depth + room ≡ limit → (gs : List (ℕ × Frame)) → neat gs ≡ true → {closed : Bool} (P : Bool → Stack → Type 0) →
    Cases room closed gs P → (fs : Frames) {stack : Stack} → Means limit closed (onto depth gs fs) stack → Before limit P fs stack
reads depth room fits [] is_neat {closed = closed} P h fs {stack = stack} means = (closed, [], stack, h, means, same stack)
reads depth room fits (g ∷ gs) is_neat {closed = closed} P h fs means =
    let split = both is_neat in
    let b = first depth room g.0 gs fs fits refl split.0 (λ c form. Cases room c gs (λ d own. P d (form ++ own))) h means in
    let r = reads depth room fits gs split.1 (λ d own. P d (b.1 ++ own)) b.3 fs b.4 in (r.0, b.1 ++ r.1, r.2, r.3, r.4, joined b.1 r.1 r.2 b.5 r.5)
