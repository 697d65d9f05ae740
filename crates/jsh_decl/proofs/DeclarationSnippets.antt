-- How the readers of types and of snippets go on, step by step, in the words of the contracts.
use Rattle.std.proofs.Common.{◌≡◌, ◌≢◌, ℕ, zero, suc, true, false, List, [], ◌∷◌, ◌++◌, Option, Some, None, length, drop, refl, sym, ap, ◌∙◌}
use Rattle.std.specs.Option.{is_some}
use Rattle.jsh_tree.specs.declared.token.Token.{Token}
use Rattle.jsh_tree.specs.declared.statement.Block.{Block}
use Rattle.jsh_tree.specs.declared.declaration.ModifierUse.{ModifierUse}
use Rattle.jsh_tree.specs.declared.declaration.MethodDeclaration.{MethodDeclaration}
use Rattle.jsh_tree.specs.declared.tree.Tree.TheVariants as tree
use Rattle.jsh_parse.specs.Marks.{is_left_brace, is_right_brace}
use Rattle.jsh_parse.specs.Forms.{form_of}
use Rattle.jsh_parse.specs.declared.forms.Form.{Form}
use Rattle.jsh_parse.specs.declared.forms.Form.TheVariants as form
use Rattle.jsh_parse.specs.Reader.{and_then, accept, sees}
use Rattle.jsh_parse.specs.Reading.{name_read}
use Rattle.jsh_parse.proofs.Onward.{prepend, prepend_none}
use Rattle.jsh_decl.specs.declared.modifiers.Place.TheVariants as place
use Rattle.jsh_decl.specs.Words.{is_import, is_class, is_interface, is_extends, is_implements}
use Rattle.jsh_decl.specs.DeclarationReader.{begins_method, begins_declaration, interface_methods_read, snippet_at}
use Rattle.jsh_decl.specs.DeclarationReading.{allowed, modifiers_at, import_at, names_behind_at, superclass_at, method_at, ends_members, members_at, class_at, interface_method_at, interface_methods_at, interface_at, whole_method_at, variable_declaration_at, declaration_at, expression_at, braced_at, other_at, statement_at}
use Rattle.jsh_decl.proofs.DeclarationTurns.{append_one, modifiers_pair}

-- classes

pub class_flat : (text : List ℕ) (room : ℕ) (modifiers : List ModifierUse) (ts : List Token) → room ≡ zero → class_at text room modifiers ts ≡ None
unfolding class_at
class_flat text room modifiers ts z = rw z refl

pub class_by : (text : List ℕ) (room inner : ℕ) (modifiers : List ModifierUse) (ts : List Token) → room ≡ suc inner →
    class_at text room modifiers ts ≡ and_then (name_read text ts) (λ n rest. and_then (superclass_at text rest)
    (λ extends behind. and_then (names_behind_at is_implements text behind) (λ implements more. and_then (accept is_left_brace more)
    (λ t front. and_then (members_at text inner front) (λ members last. and_then (accept is_right_brace last)
    (λ u end. Some (record { modifiers = modifiers; name = n; extends = extends; implements = implements; members = members }, end)))))))
unfolding class_at superclass_at names_behind_at members_at
class_by text room inner modifiers ts z = rw z refl

-- interfaces

module _ (text : List ℕ) (room : ℕ) (ts rest : List Token) (modifiers : List ModifierUse) where
  pub interface_method_fails : modifiers_at (allowed place.Interface) ts ≡ Some (modifiers, rest) → method_at text room modifiers rest ≡ None →
      interface_method_at text room ts ≡ None
  unfolding interface_method_at method_at
  interface_method_fails h k = let found = modifiers_pair (allowed place.Interface) ts rest modifiers h in rw (found, k) refl

  module _ (m : MethodDeclaration) (end : List Token) where
    pub interface_method_whole : modifiers_at (allowed place.Interface) ts ≡ Some (modifiers, rest) → method_at text room modifiers rest ≡ Some (m, end) →
        is_some m.body ≡ true → interface_method_at text room ts ≡ None
    unfolding interface_method_at method_at
    interface_method_whole h k s = of_body m.body refl
      where
        of_body : (body : Option Block) → m.body ≡ body → interface_method_at text room ts ≡ None
        of_body None n = let none : false ≡ true = sym (ap is_some n) ∙ s in cc
        of_body (Some b) n = let found = modifiers_pair (allowed place.Interface) ts rest modifiers h in rw (found, k, n) refl

    pub interface_method_by : modifiers_at (allowed place.Interface) ts ≡ Some (modifiers, rest) → method_at text room modifiers rest ≡ Some (m, end) →
        is_some m.body ≡ false → interface_method_at text room ts ≡ Some (m, end)
    unfolding interface_method_at method_at
    interface_method_by h k s = of_body m.body refl
      where
        of_body : (body : Option Block) → m.body ≡ body → interface_method_at text room ts ≡ Some (m, end)
        of_body (Some b) n = let some : true ≡ false = sym (ap is_some n) ∙ s in cc
        of_body None n = let found = modifiers_pair (allowed place.Interface) ts rest modifiers h in rw (found, k, n) refl

pub interface_methods_by : (text : List ℕ) (room : ℕ) (ts : List Token) →
    interface_methods_at text room ts ≡ prepend [] (interface_methods_read (suc (length ts)) text room ts)
unfolding interface_methods_at
interface_methods_by text room ts = sym (prepend_none (interface_methods_read (suc (length ts)) text room ts))

append_end : (items : List MethodDeclaration) → items ++ [] ≡ items
append_end [] = refl
append_end (m ∷ items) = ap (λ more. m ∷ more) (append_end items)

module _ (text : List ℕ) (room : ℕ) (items : List MethodDeclaration) where
  pub methods_zero : (ts : List Token) → prepend items (interface_methods_read zero text room ts) ≡ None
  unfolding interface_methods_read
  methods_zero ts = refl

  pub methods_end : (k : ℕ) (ts : List Token) → ends_members ts ≡ true → prepend items (interface_methods_read (suc k) text room ts) ≡ Some (items, ts)
  unfolding interface_methods_read
  methods_end k [] h = ap (λ more. Some (more, [])) (append_end items)
  methods_end k (t ∷ ts) h = rw h (ap (λ more. Some (more, t ∷ ts)) (append_end items))

  methods_step : (k : ℕ) (ts : List Token) → ends_members ts ≡ false →
      interface_methods_read (suc k) text room ts ≡ and_then (interface_method_at text room ts)
      (λ m rest. and_then (interface_methods_read k text room rest) (λ others end. Some (m ∷ others, end)))
  unfolding interface_methods_read interface_method_at
  methods_step k [] h = cc
  methods_step k (t ∷ ts) h = rw h refl

  pub methods_fail : (k : ℕ) (ts : List Token) → ends_members ts ≡ false → interface_method_at text room ts ≡ None →
      prepend items (interface_methods_read (suc k) text room ts) ≡ None
  methods_fail k ts h m = ap (prepend items) (methods_step k ts h) ∙ rw m refl

  pub methods_more : (k : ℕ) (ts rest : List Token) (m : MethodDeclaration) → ends_members ts ≡ false → interface_method_at text room ts ≡ Some (m, rest) →
      prepend items (interface_methods_read (suc k) text room ts) ≡ prepend (items ++ m ∷ []) (interface_methods_read k text room rest)
  methods_more k ts rest m h f = ap (prepend items) (methods_step k ts h) ∙ rw f (append_one items m (interface_methods_read k text room rest))

pub interface_flat : (text : List ℕ) (room : ℕ) (modifiers : List ModifierUse) (ts : List Token) → room ≡ zero → interface_at text room modifiers ts ≡ None
unfolding interface_at
interface_flat text room modifiers ts z = rw z refl

pub interface_by : (text : List ℕ) (room inner : ℕ) (modifiers : List ModifierUse) (ts : List Token) → room ≡ suc inner →
    interface_at text room modifiers ts ≡ and_then (name_read text ts) (λ n rest. and_then (names_behind_at is_extends text rest)
    (λ extends behind. and_then (accept is_left_brace behind) (λ t front. and_then (interface_methods_at text inner front)
    (λ methods last. and_then (accept is_right_brace last)
    (λ u end. Some (record { modifiers = modifiers; name = n; extends = extends; methods = methods }, end))))))
unfolding interface_at names_behind_at interface_methods_at
interface_by text room inner modifiers ts z = rw z refl

-- declarations

module _ (text : List ℕ) (room : ℕ) (modifiers : List ModifierUse) (ts : List Token) where
  pub whole_method_fails : method_at text room modifiers ts ≡ None → whole_method_at text room modifiers ts ≡ None
  unfolding whole_method_at method_at
  whole_method_fails h = rw h refl

  pub whole_method_cut : (m : MethodDeclaration) (end : List Token) → method_at text room modifiers ts ≡ Some (m, end) → is_some m.body ≡ false →
      whole_method_at text room modifiers ts ≡ None
  unfolding whole_method_at method_at
  whole_method_cut m end h s = of_body m.body refl
    where
      of_body : (body : Option Block) → m.body ≡ body → whole_method_at text room modifiers ts ≡ None
      of_body (Some b) n = let some : true ≡ false = sym (ap is_some n) ∙ s in cc
      of_body None n = rw (h, n) refl

  pub whole_method_by : (m : MethodDeclaration) (end : List Token) → method_at text room modifiers ts ≡ Some (m, end) → is_some m.body ≡ true →
      whole_method_at text room modifiers ts ≡ Some (tree.Method m, end)
  unfolding whole_method_at method_at
  whole_method_by m end h s = of_body m.body refl
    where
      of_body : (body : Option Block) → m.body ≡ body → whole_method_at text room modifiers ts ≡ Some (tree.Method m, end)
      of_body None n = let none : false ≡ true = sym (ap is_some n) ∙ s in cc
      of_body (Some b) n = rw (h, n) refl

  pub declaration_method : sees is_class ts ≡ false → sees is_interface ts ≡ false → begins_method ts ≡ true →
      declaration_at text room modifiers ts ≡ whole_method_at text room modifiers ts
  unfolding declaration_at whole_method_at
  declaration_method h k m = rw (h, k, m) refl

  pub declaration_variable : sees is_class ts ≡ false → sees is_interface ts ≡ false → begins_method ts ≡ false →
      declaration_at text room modifiers ts ≡ variable_declaration_at text room modifiers ts
  unfolding declaration_at variable_declaration_at
  declaration_variable h k m = rw (h, k, m) refl

module _ (text : List ℕ) (room : ℕ) (modifiers : List ModifierUse) where
  pub declaration_class : (ts : List Token) → sees is_class ts ≡ true →
      declaration_at text room modifiers ts ≡ and_then (class_at text room modifiers (drop 1 ts)) (λ c end. Some (tree.Class c, end))
  unfolding declaration_at class_at
  declaration_class [] h = cc
  declaration_class (t ∷ ts) h = rw h refl

  pub declaration_interface : (ts : List Token) → sees is_class ts ≡ false → sees is_interface ts ≡ true →
      declaration_at text room modifiers ts ≡ and_then (interface_at text room modifiers (drop 1 ts)) (λ i end. Some (tree.Interface i, end))
  unfolding declaration_at interface_at
  declaration_interface [] h k = cc
  declaration_interface (t ∷ ts) h k = rw (h, k) refl

-- statements and expressions

module _ (text : List ℕ) (room : ℕ) (ts : List Token) where
  pub statement_nowhere : ts ≡ [] → statement_at text room ts ≡ None
  unfolding statement_at
  statement_nowhere e = rw e refl

  pub statement_expression : (t : Token) (rest : List Token) → ts ≡ t ∷ rest → form_of t.kind ≡ form.Expression →
      statement_at text room ts ≡ expression_at text room ts
  unfolding statement_at expression_at
  statement_expression t rest e f = rw (e, f) refl

  pub statement_block : (t : Token) (rest : List Token) → ts ≡ t ∷ rest → form_of t.kind ≡ form.Block → statement_at text room ts ≡ braced_at text room ts
  unfolding statement_at braced_at
  statement_block t rest e f = rw (e, f) refl

  pub statement_other : (t : Token) (rest : List Token) → ts ≡ t ∷ rest → form_of t.kind ≢ form.Expression → form_of t.kind ≢ form.Block →
      statement_at text room ts ≡ other_at text room ts
  unfolding statement_at other_at
  statement_other t rest e f g = of_form (form_of t.kind) refl
    where
      of_form : (found : Form) → form_of t.kind ≡ found → statement_at text room ts ≡ other_at text room ts
      of_form form.Expression h = absurd (f h)
      of_form form.Block h = absurd (g h)
      of_form form.Empty h = rw (e, h) refl
      of_form form.If h = rw (e, h) refl
      of_form form.While h = rw (e, h) refl
      of_form form.Do h = rw (e, h) refl
      of_form form.For h = rw (e, h) refl
      of_form form.Switch h = rw (e, h) refl
      of_form form.Break h = rw (e, h) refl
      of_form form.Continue h = rw (e, h) refl
      of_form form.Return h = rw (e, h) refl
      of_form form.Throw h = rw (e, h) refl
      of_form form.Try h = rw (e, h) refl

-- snippets

module _ (text : List ℕ) (room : ℕ) (ts : List Token) where
  pub snippet_nowhere : ts ≡ [] → snippet_at text room ts ≡ None
  unfolding snippet_at
  snippet_nowhere e = rw e refl

  pub snippet_import : (t : Token) (rest : List Token) → ts ≡ t ∷ rest → is_import t.kind ≡ true →
      snippet_at text room ts ≡ and_then (import_at text t rest) (λ i end. Some (tree.Import i, end))
  unfolding snippet_at import_at
  snippet_import t rest e h = rw (e, h) refl

  module _ (t : Token) (behind rest : List Token) (modifiers : List ModifierUse) where
    pub snippet_bare : ts ≡ t ∷ behind → is_import t.kind ≡ false → modifiers_at (allowed place.Snippet) ts ≡ Some (modifiers, rest) → modifiers ≡ [] →
        begins_declaration rest ≡ false → snippet_at text room ts ≡ statement_at text room rest
    unfolding snippet_at statement_at
    snippet_bare e h m z d =
        let seen : sees is_import ts ≡ false = ap (sees is_import) e ∙ h in
        let found = modifiers_pair (allowed place.Snippet) ts rest modifiers m in
        rw (seen, found, z, d) refl

    pub snippet_declared : ts ≡ t ∷ behind → is_import t.kind ≡ false → modifiers_at (allowed place.Snippet) ts ≡ Some (modifiers, rest) → modifiers ≡ [] →
        begins_declaration rest ≡ true → snippet_at text room ts ≡ declaration_at text room modifiers rest
    unfolding snippet_at declaration_at
    snippet_declared e h m z d =
        let seen : sees is_import ts ≡ false = ap (sees is_import) e ∙ h in
        let found = modifiers_pair (allowed place.Snippet) ts rest modifiers m in
        rw (seen, found, z, d) refl

  pub snippet_modified : (t : Token) (behind rest : List Token) (modifiers : List ModifierUse) → ts ≡ t ∷ behind → is_import t.kind ≡ false →
      modifiers_at (allowed place.Snippet) ts ≡ Some (modifiers, rest) → modifiers ≢ [] → snippet_at text room ts ≡ declaration_at text room modifiers rest
  unfolding snippet_at declaration_at
  snippet_modified t behind rest [] e h m d = absurd (d refl)
  snippet_modified t behind rest (first ∷ others) e h m d =
      let seen : sees is_import ts ≡ false = ap (sees is_import) e ∙ h in
      let found = modifiers_pair (allowed place.Snippet) ts rest (first ∷ others) m in
      rw (seen, found) refl
