-- Methods and members of a class are read, also where more constructs may stand in one another.
use Rattle.std.proofs.Common.{◌≡◌, ℕ, zero, suc, ◌≤◌, ◌<◌, Bool, true, false, List, [], ◌∷◌, ◌++◌, Option, Some, length, refl, arith, append_assoc, length-append}
use Rattle.jsh_tree.specs.declared.token.Token.{Token}
use Rattle.jsh_tree.specs.declared.token.TokenKind.{TokenKind}
use Rattle.jsh_tree.specs.declared.token.TokenKind.TheVariants as token
use Rattle.jsh_tree.specs.declared.modifier.Modifier.{Modifier}
use Rattle.jsh_tree.specs.declared.statement.Block.{Block}
use Rattle.jsh_tree.specs.declared.declaration.ModifierUse.{ModifierUse}
use Rattle.jsh_tree.specs.declared.declaration.MethodDeclaration.{MethodDeclaration}
use Rattle.jsh_tree.specs.declared.declaration.ConstructorCall.{ConstructorCall}
use Rattle.jsh_tree.specs.declared.declaration.MemberDeclaration.{MemberDeclaration}
use Rattle.jsh_parse.specs.Marks.{is_left_paren, is_right_brace, is_comma}
use Rattle.jsh_parse.specs.Forms.{is_semicolon}
use Rattle.jsh_parse.specs.Reader.{and_then, sees}
use Rattle.jsh_parse.proofs.Follow.{Stops}
use Rattle.jsh_parse.proofs.Pieces.{ReadsFree}
use Rattle.jsh_parse.proofs.Edges.{arguments-front}
use Rattle.jsh_parse.proofs.StatementFronts.{Ended}
use Rattle.jsh_parse.proofs.StatementEdges.{block-opened}
use Rattle.jsh_decl.specs.Words.{is_throws}
use Rattle.jsh_decl.specs.Declarations as grammar
use Rattle.jsh_decl.specs.Declarations.{modifier_of, AreModifiers, IsBody, IsMethod, IsFirstCall, IsMember, AreMembers}
use Rattle.jsh_decl.specs.DeclarationReader.{body_read, method_read, first_call_read, member_read, members_read, begins_method, begins_constructor, begins_declaration}
use Rattle.jsh_decl.proofs.Fronts.{Uncalled}
use Rattle.jsh_decl.proofs.CompleteBelow.{arguments-below, variable-below, block-below, statements-below}
use Rattle.jsh_decl.proofs.CompleteNames.{Unmodified, reads-modifiers, reads-names_behind, reads-parameters, reads-result}
use Rattle.jsh_decl.proofs.Edges.{Typed, typed-apart, parameters-front, variable-typed, variable-no_method, variable-no_constructor, variable-no_var, result-typed, result-declares, result-method, result-no_constructor, opened-apart, body-apart, statements-uncalled}

-- ---- methods

reads-body : {text : List ℕ} {room : ℕ} {ts : List Token} {b : Option Block} → IsBody text room ts b → (n : ℕ) → room ≤ n → ReadsFree (body_read text n) ts b
reads-body (grammar.no_body u hu) n less rest = rw hu refl
reads-body (grammar.body {ts = ts} d) n less rest = rw ((opened-apart ts rest (block-opened d)).2, block-below d n less rest) refl

pub reads-method : {text : List ℕ} {ms : List ModifierUse} {room : ℕ} {ts : List Token} {m : MethodDeclaration} → IsMethod text ms room ts m →
    (n : ℕ) → room ≤ n → ReadsFree (method_read text n ms) ts m
reads-method (grammar.method {l = l} {p = p} {h = h} {b = b} name dr hn dp dh db) n less rest =
    let third = b ++ rest in
    let second = h ++ third in
    let apart = body-apart db rest in
    rw (
      append_assoc l (name ∷ (p ++ (h ++ b))) rest,
      append_assoc p (h ++ b) rest,
      append_assoc h b rest,
      reads-result dr name hn (p ++ second),
      hn,
      reads-parameters dp second,
      reads-names_behind dh is_throws refl third apart.0 apart.1,
      reads-body db n less rest,
    ) refl

-- a method begins as one
abbrev pub AsMethod : List Token → Type 0
AsMethod ts = Typed ts × (begins_constructor ts ≡ false) × (begins_method ts ≡ true) × (begins_declaration ts ≡ true)

pub as_method : {text : List ℕ} {ms : List ModifierUse} {room : ℕ} {ts : List Token} {m : MethodDeclaration} → IsMethod text ms room ts m →
    (rest : List Token) → AsMethod (ts ++ rest)
as_method (grammar.method {l = l} {p = p} {h = h} {b = b} name dr hn dp dh db) rest =
    let behind = (p ++ (h ++ b)) ++ rest in
    let paren : sees is_left_paren behind ≡ true = rw (append_assoc p (h ++ b) rest) (parameters-front dp ((h ++ b) ++ rest)) in
    rw (append_assoc l (name ∷ (p ++ (h ++ b))) rest)
    (result-typed dr (name ∷ behind), result-no_constructor dr name hn behind, result-method dr name hn behind paren, result-declares dr name hn behind)

-- ---- members of a class

-- a call of another constructor is read where one stands, and none else
reads-first_call : {text : List ℕ} {room : ℕ} {ts : List Token} {first : Option ConstructorCall} → IsFirstCall text room ts first → (n : ℕ) → room ≤ n →
    (rest : List Token) → Uncalled rest → first_call_read text n (ts ++ rest) ≡ Some (first, rest)
reads-first_call grammar.no_first_call n less [] free = absurd free
reads-first_call grammar.no_first_call n less (t ∷ rest) free = rw free refl
reads-first_call (grammar.this_call {l = l} t u h d hu) n less rest free =
    rw (h, append_assoc l (u ∷ []) rest, arguments-front d (u ∷ rest), arguments-below d n less (u ∷ rest), hu) refl
reads-first_call (grammar.super_call {l = l} t u h d hu) n less rest free =
    rw (h, append_assoc l (u ∷ []) rest, arguments-front d (u ∷ rest), arguments-below d n less (u ∷ rest), hu) refl

reads-member : {text : List ℕ} {room : ℕ} {ts : List Token} {m : MemberDeclaration} → IsMember text room ts m → (n : ℕ) → room ≤ n →
    ReadsFree (member_read text n) ts m
reads-member (grammar.field {q = q} {l = l} u dm d typed hu) n less rest =
    let behind = l ++ u ∷ rest in
    let apart = typed-apart behind (variable-typed d (u ∷ rest)) in
    let stop : Stops 1 (u ∷ rest) = rw hu (omega arith) in
    rw (
      append_assoc q (l ++ u ∷ []) rest,
      append_assoc l (u ∷ []) rest,
      reads-modifiers dm behind apart.1,
      variable-no_constructor d (u ∷ rest),
      variable-no_method d u hu rest,
      variable-no_var d typed (u ∷ rest),
      variable-below d n less (u ∷ rest) stop,
      hu,
      typed,
    ) refl
reads-member (grammar.method_member {q = q} {l = l} dm d) n less rest =
    let front = as_method d rest in
    let apart = typed-apart (l ++ rest) front.0 in
    rw (append_assoc q l rest, reads-modifiers dm (l ++ rest) apart.1, front.1, front.2, reads-method d n less rest) refl
reads-member (grammar.constructor name t u dm hn dp dh ht dc ds hu) zero less rest = absurd (omega arith)
reads-member (grammar.constructor {q = q} {p = p} {h = h} {c = c} {s = s} name t u dm hn dp dh ht dc ds hu) (suc n) less rest =
    let sixth = u ∷ rest in
    let fifth = s ++ sixth in
    let fourth = t ∷ (c ++ fifth) in
    let third = h ++ fourth in
    let second = p ++ third in
    let brace : Ended sixth = rw hu refl in
    let no_throws : sees is_throws fourth ≡ false = rw ht refl in
    let no_comma : sees is_comma fourth ≡ false = rw ht refl in
    let unmodified : Unmodified (name ∷ second) = rw hn refl in
    rw (
      append_assoc q (name ∷ (p ++ (h ++ t ∷ (c ++ (s ++ u ∷ []))))) rest,
      append_assoc p (h ++ t ∷ (c ++ (s ++ u ∷ []))) rest,
      append_assoc h (t ∷ (c ++ (s ++ u ∷ []))) rest,
      append_assoc c (s ++ u ∷ []) rest,
      append_assoc s (u ∷ []) rest,
      reads-modifiers dm (name ∷ second) unmodified,
      hn,
      parameters-front dp third,
      reads-parameters dp third,
      reads-names_behind dh is_throws refl fourth no_throws no_comma,
      ht,
      reads-first_call dc n (omega arith) fifth (statements-uncalled ds u hu rest),
      statements-below ds n (omega arith) sixth brace,
      hu,
    ) refl

-- the tokens begin a member or a method: neither a brace nor a semicolon
abbrev pub Begins : List Token → Type 0
Begins [] = ⊥
Begins (t ∷ ts) = (is_right_brace t.kind ≡ false) × (is_semicolon t.kind ≡ false)

pub begins-typed : (ts : List Token) → Typed ts → Begins ts
begins-typed [] h = absurd h
begins-typed (t ∷ ts) h = let apart = typed-apart (t ∷ ts) h in (apart.4, apart.5)

modifier-begins : (k : TokenKind) (m : Modifier) → modifier_of k ≡ Some m →
    (is_right_brace k ≡ false) × (is_semicolon k ≡ false)
modifier-begins token.Public m e = (refl, refl)
modifier-begins _ m e = grind arith

pub begins-modified : {allowed : Modifier → Bool} {q : List Token} {ms : List ModifierUse} → AreModifiers allowed q ms → (ts : List Token) →
    Begins ts → Begins (q ++ ts)
begins-modified grammar.no_modifiers ts b = b
begins-modified (grammar.one_more_modifier {m = m} t is may d) ts b = modifier-begins t.kind m is

member-begins : {text : List ℕ} {room : ℕ} {ts : List Token} {m : MemberDeclaration} → IsMember text room ts m → (more : List Token) → Begins (ts ++ more)
member-begins (grammar.field {q = q} {l = l} u dm d typed hu) more =
    rw (append_assoc q (l ++ u ∷ []) more, append_assoc l (u ∷ []) more)
    (begins-modified dm (l ++ u ∷ more) (begins-typed (l ++ u ∷ more) (variable-typed d (u ∷ more))))
member-begins (grammar.method_member {q = q} {l = l} dm d) more =
    rw (append_assoc q l more) (begins-modified dm (l ++ more) (begins-typed (l ++ more) (as_method d more).0))
member-begins (grammar.constructor {q = q} {p = p} {h = h} {c = c} {s = s} name t u dm hn dp dh ht dc ds hu) more =
    let behind = (p ++ (h ++ t ∷ (c ++ (s ++ u ∷ [])))) ++ more in
    let first : Begins (name ∷ behind) = rw hn (refl, refl) in
    rw (append_assoc q (name ∷ (p ++ (h ++ t ∷ (c ++ (s ++ u ∷ []))))) more) (begins-modified dm (name ∷ behind) first)

-- so there is a token
pub begins-some : (ts : List Token) → Begins (ts ++ []) → 0 < length ts
begins-some [] b = absurd b
begins-some (t ∷ ts) b = omega arith

-- one turn of the loop over members
members-turn : (text : List ℕ) (n most : ℕ) (ts : List Token) → Begins ts →
    members_read (suc most) text n ts ≡
    and_then (member_read text n ts) (λ m rest. and_then (members_read most text n rest) (λ others end. Some (m ∷ others, end)))
unfolding members_read
members-turn text n most [] b = absurd b
members-turn text n most (t ∷ ts) b = rw (b.0, b.1) refl

-- the members are read by so many turns or more, where a brace closes them
pub reads-members : {text : List ℕ} {room : ℕ} {ts : List Token} {ms : List MemberDeclaration} → AreMembers text room ts ms → (n : ℕ) → room ≤ n →
    (most : ℕ) → length ts < most → (u : Token) → u.kind ≡ token.RightBrace → (rest : List Token) →
    members_read most text n (ts ++ u ∷ rest) ≡ Some (ms, u ∷ rest)
unfolding members_read
reads-members d n less zero h u hu rest = absurd (omega arith)
reads-members grammar.no_members n less (suc most) h u hu rest = rw hu refl
reads-members (grammar.one_more_semicolon {r = r} s hs ds) n less (suc most) h u hu rest =
    rw (hs, reads-members {ts = r} ds n less most (omega arith) u hu rest) refl
reads-members {text = text} (grammar.one_more_member {l = l} {r = r} {m = m} d ds) n less (suc most) h u hu rest =
    let behind = r ++ u ∷ rest in
    let others = reads-members {ts = r} ds n less most (omega (arith, length-append l r, begins-some l (member-begins d []))) u hu rest in
    let turn = members-turn text n most (l ++ behind) (member-begins d behind) in
    rw (append_assoc l r (u ∷ rest), turn, reads-member d n less behind, others) refl
