-- The snippets that the reader takes are in the grammar.
use Rattle.std.proofs.Common.{◌≡◌, ◌≢◌, ℕ, Bool, List, [], ◌∷◌, ◌++◌, Some, refl, ap, ◌∙◌, subst, append-nil}
use Rattle.jsh_tree.specs.declared.token.Token.{Token}
use Rattle.jsh_tree.specs.declared.modifier.Modifier.{Modifier}
use Rattle.jsh_tree.specs.declared.declaration.ModifierUse.{ModifierUse}
use Rattle.jsh_tree.specs.declared.tree.Tree.{Tree}
use Rattle.jsh_tree.specs.declared.tree.Tree.TheVariants as tree
use Rattle.jsh_parse.specs.declared.forms.Form.TheVariants as form
use Rattle.jsh_parse.specs.Forms.{form_of, is_semicolon}
use Rattle.jsh_parse.specs.Reader.{Read, and_then, sees}
use Rattle.jsh_parse.specs.StatementReading.{stmt_at}
use Rattle.jsh_parse.proofs.Gives.{Gives, given, nothing, of_given, weaker_given, then_given, choose, by_option_at, accepts}
use Rattle.jsh_parse.proofs.FormLemmas.{semicolon, by_form}
use Rattle.jsh_parse.proofs.SoundLists.{Front, behind_front, with_last}
use Rattle.jsh_decl.specs.Words.{is_import, is_class, is_interface}
use Rattle.jsh_decl.specs.Declarations.{of_snippets, AreModifiers, IsSnippet}
use Rattle.jsh_decl.specs.DeclarationReader.{modifiers_read, begins_method, whole_method_read, declaration_read, begins_declaration, statement_read, snippet_at}
use Rattle.jsh_decl.proofs.SoundWords.{import_word, class_word, interface_word}
use Rattle.jsh_decl.proofs.SoundNames.{modifiers_sound, import_sound}
use Rattle.jsh_decl.proofs.SoundMethods.{expr_at_sound, stmt_at_sound, block_at_sound, variable_at_sound, method_sound}
use Rattle.jsh_decl.proofs.SoundMembers.{class_sound, interface_sound}
use Rattle.jsh_decl.proofs.SoundStatements.{other_sound}

-- a snippet stands in front
abbrev pub SnippetFront : List ℕ → ℕ → List Token → Tree → List Token → Type 0
SnippetFront text room ts tree rest = Front (λ pre. IsSnippet text room pre tree) ts rest

-- the same without the tokens of its modifiers
abbrev pub DeclaredFront : List ℕ → ℕ → List Token → List Token → Tree → List Token → Type 0
DeclaredFront text room q ts tree rest = Front (λ pre. IsSnippet text room (q ++ pre) tree) ts rest

-- ---- declarations

whole_method_sound : (text : List ℕ) (room : ℕ) (q : List Token) (modifiers : List ModifierUse) → AreModifiers of_snippets q modifiers → (ts : List Token) →
    Gives (DeclaredFront text room q ts) (whole_method_read text room modifiers ts)
whole_method_sound text room q modifiers a ts =
    then_given _ _ _ (method_sound text room modifiers ts) (λ m end h. by_option_at m.body end _ _
    (λ none. nothing)
    (λ b some. given _ _ (h.0, h.1, IsSnippet.method_snippet a h.2 (λ none. cc))))

declaration_sound : (text : List ℕ) (room : ℕ) (q : List Token) (modifiers : List ModifierUse) → AreModifiers of_snippets q modifiers → (ts : List Token) →
    Gives (DeclaredFront text room q ts) (declaration_read text room modifiers ts)
declaration_sound text room q modifiers a ts =
    choose (sees is_class ts) _ _
    (λ b. then_given _ _ _ (accepts is_class ts) (λ t rest g.
    then_given _ _ _ (class_sound text room modifiers t (class_word t.kind g.1) rest) (λ c end h. given _ _ (h.0, g.0 ∙ h.1, IsSnippet.class_snippet a h.2))))
    (λ b. choose (sees is_interface ts) _ _
    (λ c. then_given _ _ _ (accepts is_interface ts) (λ t rest g.
    then_given _ _ _ (interface_sound text room modifiers t (interface_word t.kind g.1) rest) (λ i end h. given _ _ (
      h.0,
      g.0 ∙ h.1,
      IsSnippet.interface_snippet a h.2,
    ))))
    (λ c. choose (begins_method ts) _ _
    (λ d. whole_method_sound text room q modifiers a ts)
    (λ d. then_given _ _ _ (variable_at_sound text room ts) (λ v rest h. then_given _ _ _ (accepts is_semicolon rest) (λ u end g. given _ _ (
      h.0 ++ u ∷ [],
      with_last h.0 ts end u (h.1 ∙ ap (λ x. h.0 ++ x) g.0),
      IsSnippet.variable_snippet u a h.2 (semicolon u.kind g.1),
    ))))))

-- ---- statements

statement_sound : (text : List ℕ) (room : ℕ) (ts : List Token) → Gives (SnippetFront text room ts) (statement_read text room ts)
statement_sound text room [] = nothing
statement_sound text room (t ∷ ts) =
    by_form (form_of t.kind) _ _ _ _ _ _ _ _ _ _ _ _ _
    (λ f. then_given _ _ _ (block_at_sound text room (t ∷ ts)) (λ b end h. given _ _ (h.0, h.1, IsSnippet.block_snippet h.2)))
    (λ f. other (λ e. cc) (λ e. cc))
    (λ f. other (λ e. cc) (λ e. cc))
    (λ f. other (λ e. cc) (λ e. cc))
    (λ f. other (λ e. cc) (λ e. cc))
    (λ f. other (λ e. cc) (λ e. cc))
    (λ f. other (λ e. cc) (λ e. cc))
    (λ f. other (λ e. cc) (λ e. cc))
    (λ f. other (λ e. cc) (λ e. cc))
    (λ f. other (λ e. cc) (λ e. cc))
    (λ f. other (λ e. cc) (λ e. cc))
    (λ f. other (λ e. cc) (λ e. cc))
    (λ f. then_given _ _ _ (expr_at_sound text room (t ∷ ts)) (λ e rest h. then_given _ _ _ (accepts is_semicolon rest) (λ u end g. given _ _ (
      h.0 ++ u ∷ [],
      with_last h.0 (t ∷ ts) end u (h.1 ∙ ap (λ x. h.0 ++ x) g.0),
      IsSnippet.expression_snippet u h.2 (semicolon u.kind g.1),
    ))))
  where
    other : form_of t.kind ≢ form.Block → form_of t.kind ≢ form.Expression →
        Gives (SnippetFront text room (t ∷ ts)) (and_then (stmt_at text room (t ∷ ts)) (λ s end. Some (tree.Statement s, end)))
    other f g = then_given _ _ _ (stmt_at_sound text room (t ∷ ts)) (λ s end h. given _ _ (
      h.pre,
      h.parts,
      IsSnippet.statement_snippet h.holds (other_sound h.holds t ts end h.parts f g),
    ))

-- ---- snippets

-- a declaration behind its modifiers is a snippet
declared_sound : (text : List ℕ) (room : ℕ) (ts q : List Token) (modifiers : List ModifierUse) → AreModifiers of_snippets q modifiers → (rest : List Token) →
    ts ≡ q ++ rest → Gives (SnippetFront text room ts) (declaration_read text room modifiers rest)
declared_sound text room ts q modifiers a rest e =
    weaker_given _ _ (declaration_sound text room q modifiers a rest) (λ found end h. (q ++ h.0, behind_front q h.0 ts rest end e h.1, h.2))

-- by whether any modifier stands in front
by_modifiers : {P : Tree → List Token → Type 0} (modifiers : List ModifierUse) (rest : List Token) (x : List Token → Read Tree)
    (y : ModifierUse → List ModifierUse → List Token → Read Tree) → (modifiers ≡ [] → Gives P (x rest)) →
    ((m : ModifierUse) (more : List ModifierUse) → modifiers ≡ m ∷ more → Gives P (y m more rest)) →
    Gives P ((elim modifiers as (λ ms. List Token → Read Tree) [ [] ↦ x | m ∷ more ↦ y m more ]) rest)
by_modifiers [] rest x y f g = f refl
by_modifiers (m ∷ more) rest x y f g = g m more refl

no_modifier : {allowed : Modifier → Bool} {q : List Token} → AreModifiers allowed q [] → q ≡ []
no_modifier AreModifiers.no_modifiers = refl

pub snippet_sound : (text : List ℕ) (room : ℕ) (ts : List Token) → Gives (SnippetFront text room ts) (snippet_at text room ts)
unfolding snippet_at
snippet_sound text room ts =
    choose (sees is_import ts) _ _
    (λ a. then_given _ _ _ (accepts is_import ts) (λ t rest g.
    then_given _ _ _ (import_sound text t (import_word t.kind g.1) rest) (λ i end h. given _ _ (h.0, g.0 ∙ h.1, IsSnippet.import_snippet h.2))))
    (λ a. by_modifiers read.0 read.1 _ _
    (λ none. choose (begins_declaration read.1) _ _
    (λ b. declared_sound text room ts q.0 [] (none_in none) read.1 q.1)
    (λ b. weaker_given _ _ (statement_sound text room read.1) (λ found rest h. (h.0, q.1 ∙ (ap (λ x. x ++ read.1) (no_modifier (none_in none)) ∙ h.1), h.2))))
    (λ m more some. declared_sound text room ts q.0 (m ∷ more) (subst (λ ms. AreModifiers of_snippets q.0 ms) some q.2) read.1 q.1))
  where
    read : List ModifierUse × List Token
    read = modifiers_read of_snippets ts

    q : Front (λ pre. AreModifiers of_snippets pre read.0) ts read.1
    q = modifiers_sound of_snippets ts

    none_in : read.0 ≡ [] → AreModifiers of_snippets q.0 []
    none_in none = subst (λ ms. AreModifiers of_snippets q.0 ms) none q.2

-- where nothing is left behind, the whole list spells the snippet
pub snippet_sound_whole : (text : List ℕ) (room : ℕ) (ts : List Token) (tree : Tree) → snippet_at text room ts ≡ Some (tree, []) → IsSnippet text room ts tree
snippet_sound_whole text room ts tree h =
    let found = of_given _ (snippet_at text room ts) tree [] (snippet_sound text room ts) h in
    rw (found.1, append-nil found.0) found.2
