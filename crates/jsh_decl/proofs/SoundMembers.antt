-- The classes and interfaces that the reader takes, and their members, are in the grammar.
use Rattle.std.proofs.Common.{◌≡◌, ℕ, zero, suc, List, [], ◌∷◌, ◌++◌, None, length, refl, ap, ◌∙◌}
use Rattle.jsh_tree.specs.declared.token.Token.{Token}
use Rattle.jsh_tree.specs.declared.token.TokenKind.TheVariants as token
use Rattle.jsh_tree.specs.declared.declaration.ModifierUse.{ModifierUse}
use Rattle.jsh_tree.specs.declared.declaration.MethodDeclaration.{MethodDeclaration}
use Rattle.jsh_tree.specs.declared.declaration.MemberDeclaration.{MemberDeclaration}
use Rattle.jsh_parse.specs.Marks.{is_left_brace, is_right_brace}
use Rattle.jsh_parse.specs.Forms.{is_semicolon, is_var}
use Rattle.jsh_parse.specs.Reader.{sees}
use Rattle.jsh_parse.proofs.Gives.{Gives, given, nothing, weaker_given, then_given, choose, by_option_at, accepts}
use Rattle.jsh_parse.proofs.MarkLemmas.{left_brace, right_brace}
use Rattle.jsh_parse.proofs.FormLemmas.{semicolon}
use Rattle.jsh_parse.proofs.SoundLists.{Front, behind_front, behind_token, with_last}
use Rattle.jsh_decl.specs.Words.{is_extends, is_implements, is_throws}
use Rattle.jsh_decl.specs.Declarations.{of_members, of_interfaces, AreModifiers, IsMethod, IsMember, AreMembers, IsClass, AreInterfaceMethods, IsInterface}
use Rattle.jsh_decl.specs.DeclarationReader.{modifiers_read, begins_constructor, begins_method, constructor_read, field_read, member_behind_read, member_read, members_read, class_read, interface_method_read, interface_methods_read, interface_read}
use Rattle.jsh_decl.proofs.SoundWords.{extends_word, implements_word, throws_word}
use Rattle.jsh_decl.proofs.SoundNames.{modifiers_sound, then_name, names_behind_sound, superclass_sound}
use Rattle.jsh_decl.proofs.SoundMethods.{statements_at_sound, variable_at_sound, parameters_sound, method_sound, first_call_sound}

-- ---- members

-- a member stands in front, without the tokens of its modifiers
abbrev pub MemberFront : List ℕ → ℕ → List Token → List Token → MemberDeclaration → List Token → Type 0
MemberFront text room q ts m rest = Front (λ pre. IsMember text room (q ++ pre) m) ts rest

constructor_sound : (text : List ℕ) (room : ℕ) (q : List Token) (modifiers : List ModifierUse) → AreModifiers of_members q modifiers → (ts : List Token) →
    Gives (MemberFront text room q ts) (constructor_read text room modifiers ts)
constructor_sound text zero q modifiers a ts = nothing
constructor_sound text (suc room) q modifiers a ts =
    then_name text ts _ (λ n rest e k. then_given _ _ _ (parameters_sound text rest) (λ parameters behind p.
    then_given _ _ _ (names_behind_sound token.Throws is_throws throws_word text behind) (λ throws more h.
    then_given _ _ _ (accepts is_left_brace more) (λ t inner g. then_given _ _ _ (first_call_sound text room inner) (λ first body c.
    then_given _ _ _ (statements_at_sound text room body) (λ inside last s. then_given _ _ _ (accepts is_right_brace last) (λ u end l. given _ _ (
      n ∷ (p.0 ++ (h.0 ++ t ∷ (c.0 ++ (s.0 ++ u ∷ [])))),
      e ∙ ap (λ x. n ∷ x) (behind_front p.0 (h.0 ++ t ∷ (c.0 ++ (s.0 ++ u ∷ []))) rest behind end p.1
          (behind_token h.0 (c.0 ++ (s.0 ++ u ∷ [])) behind inner end t (h.1 ∙ ap (λ x. h.0 ++ x) g.0)
          (behind_front c.0 (s.0 ++ u ∷ []) inner body end c.1 (with_last s.0 body end u (s.1 ∙ ap (λ x. s.0 ++ x) l.0))))),
      IsMember.constructor n t u a k p.2 h.2 (left_brace t.kind g.1) c.2 s.2 (right_brace u.kind l.1),
    ))))))))

field_sound : (text : List ℕ) (room : ℕ) (q : List Token) (modifiers : List ModifierUse) → AreModifiers of_members q modifiers → (ts : List Token) →
    Gives (MemberFront text room q ts) (field_read text room modifiers ts)
field_sound text room q modifiers a ts =
    then_given _ _ _ (variable_at_sound text room ts) (λ v rest h. then_given _ _ _ (accepts is_semicolon rest) (λ u end g.
    by_option_at v.written end _ _ (λ none. nothing) (λ written some. given _ _ (
      h.0 ++ u ∷ [],
      with_last h.0 ts end u (h.1 ∙ ap (λ x. h.0 ++ x) g.0),
      IsMember.field u a h.2 some (semicolon u.kind g.1),
    ))))

member_behind_sound : (text : List ℕ) (room : ℕ) (q : List Token) (modifiers : List ModifierUse) → AreModifiers of_members q modifiers → (ts : List Token) →
    Gives (MemberFront text room q ts) (member_behind_read text room modifiers ts)
member_behind_sound text room q modifiers a ts =
    choose (begins_constructor ts) _ _
    (λ b. constructor_sound text room q modifiers a ts)
    (λ b. choose (begins_method ts) _ _
    (λ c. then_given _ _ _ (method_sound text room modifiers ts) (λ m end h. given _ _ (h.0, h.1, IsMember.method_member a h.2)))
    (λ c. choose (sees is_var ts) _ _
    (λ d. nothing)
    (λ d. field_sound text room q modifiers a ts)))

member_sound : (text : List ℕ) (room : ℕ) (ts : List Token) → Gives (λ m rest. Front (λ pre. IsMember text room pre m) ts rest) (member_read text room ts)
member_sound text room ts =
    let q = modifiers_sound of_members ts in
    weaker_given _ _ (member_behind_sound text room q.0 (modifiers_read of_members ts).0 q.2 (modifiers_read of_members ts).1) (λ m rest h. (
      q.0 ++ h.0,
      behind_front q.0 h.0 ts (modifiers_read of_members ts).1 rest q.1 h.1,
      h.2,
    ))

members_sound : (most : ℕ) (text : List ℕ) (room : ℕ) (ts : List Token) →
    Gives (λ members rest. Front (λ pre. AreMembers text room pre members) ts rest) (members_read most text room ts)
unfolding members_read
members_sound zero text room ts = nothing
members_sound (suc most) text room [] = given _ _ ([], refl, AreMembers.no_members)
members_sound (suc most) text room (t ∷ ts) =
    choose (is_right_brace t.kind) _ _
    (λ a. given _ _ ([], refl, AreMembers.no_members))
    (λ a. choose (is_semicolon t.kind) _ _
    (λ b. weaker_given _ _ (members_sound most text room ts) (λ members rest h. (
      t ∷ h.0,
      ap (λ x. t ∷ x) h.1,
      AreMembers.one_more_semicolon t (semicolon t.kind b) h.2,
    )))
    (λ b. then_given _ _ _ (member_sound text room (t ∷ ts)) (λ m rest h.
    then_given _ _ _ (members_sound most text room rest) (λ others end g. given _ _ (
      h.0 ++ g.0,
      behind_front h.0 g.0 (t ∷ ts) rest end h.1 g.1,
      AreMembers.one_more_member h.2 g.2,
    )))))

-- ---- classes

pub class_sound : (text : List ℕ) (room : ℕ) (modifiers : List ModifierUse) (c : Token) → c.kind ≡ token.Class → (ts : List Token) →
    Gives (λ declared rest. Front (λ pre. IsClass text modifiers room pre declared) (c ∷ ts) rest) (class_read text room modifiers ts)
class_sound text zero modifiers c word ts = nothing
class_sound text (suc room) modifiers c word ts =
    then_name text ts _ (λ n rest e k. then_given _ _ _ (superclass_sound text rest) (λ extends behind x.
    then_given _ _ _ (names_behind_sound token.Implements is_implements implements_word text behind) (λ implements more i.
    then_given _ _ _ (accepts is_left_brace more) (λ t inner g. then_given _ _ _ (members_sound (suc (length inner)) text room inner) (λ members last m.
    then_given _ _ _ (accepts is_right_brace last) (λ u end l. given _ _ (
      c ∷ n ∷ (x.0 ++ (i.0 ++ t ∷ (m.0 ++ u ∷ []))),
      ap (λ x. c ∷ x) (e ∙ ap (λ x. n ∷ x) (behind_front x.0 (i.0 ++ t ∷ (m.0 ++ u ∷ [])) rest behind end x.1
          (behind_token i.0 (m.0 ++ u ∷ []) behind inner end t (i.1 ∙ ap (λ x. i.0 ++ x) g.0)
          (with_last m.0 inner end u (m.1 ∙ ap (λ x. m.0 ++ x) l.0))))),
      IsClass.class c n t u word k x.2 i.2 (left_brace t.kind g.1) m.2 (right_brace u.kind l.1),
    )))))))

-- ---- interfaces

-- a method without a body stands in front, behind its modifiers
record InterfaceMethodFront (text : List ℕ) (room : ℕ) (ts : List Token) (m : MethodDeclaration) (rest : List Token) : Type 0 where
  words : List Token
  modifiers : List ModifierUse
  pre : List Token
  parts : ts ≡ words ++ (pre ++ rest)
  are : AreModifiers of_interfaces words modifiers
  holds : IsMethod text modifiers room pre m
  bare : m.body ≡ None

interface_method_sound : (text : List ℕ) (room : ℕ) (ts : List Token) → Gives (InterfaceMethodFront text room ts) (interface_method_read text room ts)
interface_method_sound text room ts =
    let q = modifiers_sound of_interfaces ts in
    then_given _ _ _ (method_sound text room (modifiers_read of_interfaces ts).0 (modifiers_read of_interfaces ts).1) (λ m end h.
    by_option_at m.body end _ _
    (λ none. given _ _ (record {
      words = q.0;
      modifiers = (modifiers_read of_interfaces ts).0;
      pre = h.0;
      parts = q.1 ∙ ap (λ x. q.0 ++ x) h.1;
      are = q.2;
      holds = h.2;
      bare = none;
    }))
    (λ b some. nothing))

interface_methods_sound : (most : ℕ) (text : List ℕ) (room : ℕ) (ts : List Token) →
    Gives (λ methods rest. Front (λ pre. AreInterfaceMethods text room pre methods) ts rest) (interface_methods_read most text room ts)
unfolding interface_methods_read
interface_methods_sound zero text room ts = nothing
interface_methods_sound (suc most) text room [] = given _ _ ([], refl, AreInterfaceMethods.no_methods)
interface_methods_sound (suc most) text room (t ∷ ts) =
    choose (is_right_brace t.kind) _ _
    (λ a. given _ _ ([], refl, AreInterfaceMethods.no_methods))
    (λ a. then_given _ _ _ (interface_method_sound text room (t ∷ ts)) (λ m rest h.
    then_given _ _ _ (interface_methods_sound most text room rest) (λ others end g. given _ _ (
      h.words ++ (h.pre ++ g.0),
      behind_front h.words (h.pre ++ g.0) (t ∷ ts) (h.pre ++ rest) end h.parts (behind_front h.pre g.0 (h.pre ++ rest) rest end refl g.1),
      AreInterfaceMethods.one_more_method h.are h.holds h.bare g.2,
    ))))

pub interface_sound : (text : List ℕ) (room : ℕ) (modifiers : List ModifierUse) (c : Token) → c.kind ≡ token.Interface → (ts : List Token) →
    Gives (λ declared rest. Front (λ pre. IsInterface text modifiers room pre declared) (c ∷ ts) rest) (interface_read text room modifiers ts)
interface_sound text zero modifiers c word ts = nothing
interface_sound text (suc room) modifiers c word ts =
    then_name text ts _ (λ n rest e k. then_given _ _ _ (names_behind_sound token.Extends is_extends extends_word text rest) (λ extends behind x.
    then_given _ _ _ (accepts is_left_brace behind) (λ t inner g.
    then_given _ _ _ (interface_methods_sound (suc (length inner)) text room inner) (λ methods last m.
    then_given _ _ _ (accepts is_right_brace last) (λ u end l. given _ _ (
      c ∷ n ∷ (x.0 ++ t ∷ (m.0 ++ u ∷ [])),
      ap (λ x. c ∷ x) (e ∙ ap (λ x. n ∷ x) (behind_token x.0 (m.0 ++ u ∷ []) rest inner end t (x.1 ∙ ap (λ y. x.0 ++ y) g.0)
          (with_last m.0 inner end u (m.1 ∙ ap (λ y. m.0 ++ y) l.0)))),
      IsInterface.interface c n t u word k x.2 (left_brace t.kind g.1) m.2 (right_brace u.kind l.1),
    ))))))
