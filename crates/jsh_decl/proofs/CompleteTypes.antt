-- Classes and interfaces are read, also where more constructs may stand in one another.
use Rattle.std.proofs.Common.{◌≡◌, ℕ, zero, suc, ◌≤◌, ◌<◌, false, List, [], ◌∷◌, ◌++◌, Some, None, length, refl, arith, append_assoc, length-append}
use Rattle.jsh_tree.specs.declared.token.Token.{Token}
use Rattle.jsh_tree.specs.declared.token.TokenKind.TheVariants as token
use Rattle.jsh_tree.specs.declared.expression.Identifier.{Identifier}
use Rattle.jsh_tree.specs.declared.declaration.ModifierUse.{ModifierUse}
use Rattle.jsh_tree.specs.declared.declaration.MethodDeclaration.{MethodDeclaration}
use Rattle.jsh_tree.specs.declared.declaration.ClassDeclaration.{ClassDeclaration}
use Rattle.jsh_tree.specs.declared.declaration.InterfaceDeclaration.{InterfaceDeclaration}
use Rattle.jsh_tree.specs.declared.tree.Tree.TheVariants as tree
use Rattle.jsh_parse.specs.Marks.{is_comma}
use Rattle.jsh_parse.specs.Reader.{and_then, sees}
use Rattle.jsh_parse.proofs.Pieces.{ReadsFree}
use Rattle.jsh_decl.specs.Words.{is_extends, is_implements}
use Rattle.jsh_decl.specs.Declarations as grammar
use Rattle.jsh_decl.specs.Declarations.{of_interfaces, AreModifiers, AreNamesBehind, IsMethod, IsClass, AreInterfaceMethods, IsInterface}
use Rattle.jsh_decl.specs.DeclarationReader.{declaration_read, interface_method_read, interface_methods_read}
use Rattle.jsh_decl.proofs.CompleteNames.{reads-modifiers, reads-names_behind, reads-superclass}
use Rattle.jsh_decl.proofs.Edges.{typed-apart}
use Rattle.jsh_decl.proofs.CompleteMembers.{reads-method, as_method, Begins, begins-typed, begins-modified, begins-some, reads-members}

-- ---- classes

-- behind the superclass stand `implements` or the body
implements-no_extends : {text : List ℕ} {ts : List Token} {names : List Identifier} → AreNamesBehind text token.Implements ts names → (t : Token) →
    t.kind ≡ token.LeftBrace → (rest : List Token) → sees is_extends (ts ++ t ∷ rest) ≡ false
implements-no_extends grammar.no_names t ht rest = rw ht refl
implements-no_extends (grammar.some_names w h d) t ht rest = rw h refl

-- a class is read behind its modifiers
pub reads-class : {text : List ℕ} {ms : List ModifierUse} {room : ℕ} {ts : List Token} {c : ClassDeclaration} → IsClass text ms room ts c → (n : ℕ) → room ≤ n →
    ReadsFree (declaration_read text n ms) ts (tree.Class c)
reads-class (grammar.class c name t u hc hn dx di ht dm hu) zero less rest = absurd (omega arith)
reads-class (grammar.class {x = x} {i = i} {m = m} c name t u hc hn dx di ht dm hu) (suc n) less rest =
    let fourth = m ++ u ∷ rest in
    let third = t ∷ fourth in
    let second = i ++ third in
    let no_word : sees is_implements third ≡ false = rw ht refl in
    let no_comma : sees is_comma third ≡ false = rw ht refl in
    let members = reads-members dm n (omega arith) (suc (length fourth)) (omega (arith, length-append m (u ∷ rest))) u hu rest in
    rw (
      hc,
      append_assoc x (i ++ t ∷ (m ++ u ∷ [])) rest,
      append_assoc i (t ∷ (m ++ u ∷ [])) rest,
      append_assoc m (u ∷ []) rest,
      hn,
      reads-superclass dx second (implements-no_extends di t ht fourth),
      reads-names_behind di is_implements refl third no_word no_comma,
      ht,
      members,
      hu,
    ) refl

-- ---- interfaces

-- one method of an interface
reads-interface_method : {text : List ℕ} {room : ℕ} {q l : List Token} {ms : List ModifierUse} {m : MethodDeclaration} → AreModifiers of_interfaces q ms →
    IsMethod text ms room l m → m.body ≡ None → (n : ℕ) → room ≤ n → (rest : List Token) → interface_method_read text n (q ++ (l ++ rest)) ≡ Some (m, rest)
reads-interface_method {l = l} dm d bare n less rest =
    let apart = typed-apart (l ++ rest) (as_method d rest).0 in
    rw (reads-modifiers dm (l ++ rest) apart.1, reads-method d n less rest, bare) refl

method-begins : {text : List ℕ} {room : ℕ} {q l : List Token} {ms : List ModifierUse} {m : MethodDeclaration} → AreModifiers of_interfaces q ms →
    IsMethod text ms room l m → (more : List Token) → Begins (q ++ (l ++ more))
method-begins {l = l} dm d more = begins-modified dm (l ++ more) (begins-typed (l ++ more) (as_method d more).0)

method-some : {text : List ℕ} {room : ℕ} {l : List Token} {ms : List ModifierUse} {m : MethodDeclaration} → IsMethod text ms room l m → 0 < length l
method-some {l = l} d = begins-some l (begins-typed (l ++ []) (as_method d []).0)

-- one turn of the loop over methods
methods-turn : (text : List ℕ) (n most : ℕ) (ts : List Token) → Begins ts → interface_methods_read (suc most) text n ts ≡
    and_then (interface_method_read text n ts) (λ m rest. and_then (interface_methods_read most text n rest) (λ others end. Some (m ∷ others, end)))
unfolding interface_methods_read
methods-turn text n most [] b = absurd b
methods-turn text n most (t ∷ ts) b = rw b.0 refl

-- the methods are read by so many turns or more, where a brace closes them
reads-interface_methods : {text : List ℕ} {room : ℕ} {ts : List Token} {ms : List MethodDeclaration} → AreInterfaceMethods text room ts ms →
    (n : ℕ) → room ≤ n → (most : ℕ) → length ts < most → (u : Token) → u.kind ≡ token.RightBrace → (rest : List Token) →
    interface_methods_read most text n (ts ++ u ∷ rest) ≡ Some (ms, u ∷ rest)
unfolding interface_methods_read
reads-interface_methods d n less zero h u hu rest = absurd (omega arith)
reads-interface_methods grammar.no_methods n less (suc most) h u hu rest = rw hu refl
reads-interface_methods {text = text} (grammar.one_more_method {q = q} {l = l} {r = r} dm d bare ds) n less (suc most) h u hu rest =
    let behind = r ++ u ∷ rest in
    let others = reads-interface_methods {ts = r} ds n less most (omega (arith, length-append q (l ++ r), length-append l r, method-some d)) u hu rest in
    let turn = methods-turn text n most (q ++ (l ++ behind)) (method-begins dm d behind) in
    rw (append_assoc q (l ++ r) (u ∷ rest), append_assoc l r (u ∷ rest), turn, reads-interface_method dm d bare n less behind, others) refl

-- an interface is read behind its modifiers
pub reads-interface : {text : List ℕ} {ms : List ModifierUse} {room : ℕ} {ts : List Token} {i : InterfaceDeclaration} → IsInterface text ms room ts i →
    (n : ℕ) → room ≤ n → ReadsFree (declaration_read text n ms) ts (tree.Interface i)
reads-interface (grammar.interface c name t u hc hn dx ht dm hu) zero less rest = absurd (omega arith)
reads-interface (grammar.interface {x = x} {m = m} c name t u hc hn dx ht dm hu) (suc n) less rest =
    let third = m ++ u ∷ rest in
    let second = t ∷ third in
    let no_word : sees is_extends second ≡ false = rw ht refl in
    let no_comma : sees is_comma second ≡ false = rw ht refl in
    let methods = reads-interface_methods dm n (omega arith) (suc (length third)) (omega (arith, length-append m (u ∷ rest))) u hu rest in
    rw (
      hc,
      append_assoc x (t ∷ (m ++ u ∷ [])) rest,
      append_assoc m (u ∷ []) rest,
      hn,
      reads-names_behind dx is_extends refl second no_word no_comma,
      ht,
      methods,
      hu,
    ) refl
