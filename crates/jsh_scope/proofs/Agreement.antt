-- The laws of the answers.
use Rattle.std.proofs.Common.{◌≡◌, ℕ, Bool, true, false, cond, ◌⊎◌, inl, inr, List, [], ◌∷◌, ◌++◌, Option, Some, None, refl, sym, ◌∙◌, ap, subst}
use Rattle.std.specs.Prelude.{◌||◌, ◌&&◌}
use Rattle.std.specs.List.{find, filter, flat_map}
use Rattle.std.proofs.lemmas.Bool.{or_left, or_right, or_parts, and_parts, both_ways}
use Rattle.jsh_tree.specs.declared.key.Key.{Key}
use Rattle.jsh_tree.specs.declared.key.Key.TheVariants as key
use Rattle.jsh_tree.specs.declared.library.Member.{Member}
use Rattle.jsh_tree.specs.declared.library.Query.{Query}
use Rattle.jsh_tree.specs.declared.library.Query.TheVariants as query
use Rattle.jsh_scope.specs.Scope.{Scope, is_type, is_visible_type, is_visible_variable, is_visible_method}
use Rattle.jsh_scope.specs.Reached.{visible_types, reached_types}
use Rattle.jsh_scope.specs.Imports.{import_in, imports_of}
use Rattle.jsh_scope.specs.Answers.{type_named, var_named, methods_named}
use Rattle.jsh_scope.specs.Queries.{Answer, OfType, OfVar, OfMethods, answer, AgreeOn, Reader, Gives, Asks, given, footprint, is_import_key, is_about, matters, DifferElsewhere}

module _ {A : Type 0} where
  pub given_same : (reader : Reader A) (a b : Scope) → AgreeOn a b (footprint reader a) → given reader a ≡ given reader b
  given_same (Gives x) a b agree = refl
  given_same (Asks q next) a b agree = given_same (next (answer a q)) a b agree.1 ∙ ap (λ (said : Answer). given (next said) b) agree.0

  pub footprint_same : (reader : Reader A) (a b : Scope) → AgreeOn a b (footprint reader a) → footprint reader a ≡ footprint reader b
  footprint_same (Gives x) a b agree = refl
  footprint_same (Asks q next) a b agree = ap (λ (rest : List Query). q ∷ rest) (footprint_same (next (answer a q)) a b agree.1 ∙ ap (λ (said : Answer). footprint (next said) b) agree.0)

find_kept : (p m : Member → Bool) → ((x : Member) → p x ≡ true → m x ≡ true) → (xs : List Member) → find p xs ≡ find p (filter m xs)
find_kept p m among [] = refl
find_kept p m among (x ∷ xs) = here (p x) (m x) refl (among x) (find_kept p m among xs)
  where
    here : (a b : Bool) → p x ≡ a → (p x ≡ true → b ≡ true) → find p xs ≡ find p (filter m xs) → cond a (Some x) (find p xs) ≡ find p (cond b (x ∷ filter m xs) (filter m xs))
    here true true e both rest = rw e refl
    here true false e both rest = absurd (cc (both e))
    here false true e both rest = rw e rest
    here false false e both rest = rest

filter_kept : (p m : Member → Bool) → ((x : Member) → p x ≡ true → m x ≡ true) → (xs : List Member) → filter p xs ≡ filter p (filter m xs)
filter_kept p m among [] = refl
filter_kept p m among (x ∷ xs) = here (p x) (m x) refl (among x) (filter_kept p m among xs)
  where
    here : (a b : Bool) → p x ≡ a → (p x ≡ true → b ≡ true) → filter p xs ≡ filter p (filter m xs) → cond a (x ∷ filter p xs) (filter p xs) ≡ filter p (cond b (x ∷ filter m xs) (filter m xs))
    here true true e both rest = rw e (ap (λ (some : List Member). x ∷ some) rest)
    here true false e both rest = absurd (cc (both e))
    here false true e both rest = rw e rest
    here false false e both rest = rest

flat_map_kept : {B : Type 0} (f : Member → List B) (m : Member → Bool) → ((x : Member) → m x ≡ false → f x ≡ []) → (xs : List Member) → flat_map f xs ≡ flat_map f (filter m xs)
flat_map_kept f m none [] = refl
flat_map_kept {B} f m none (x ∷ xs) = here (m x) (none x) (flat_map_kept f m none xs)
  where
    here : (b : Bool) → (b ≡ false → f x ≡ []) → flat_map f xs ≡ flat_map f (filter m xs) → f x ++ flat_map f xs ≡ flat_map f (cond b (x ∷ filter m xs) (filter m xs))
    here true gone rest = ap (λ (some : List B). f x ++ some) rest
    here false gone rest = ap (λ (some : List B). some ++ flat_map f xs) (gone refl) ∙ rest

module _ (q : Query) (a b : Scope) (elsewhere : DifferElsewhere q a b) where
  about_matters : (member : Member) → is_about q member ≡ true → matters q member ≡ true
  about_matters member held = or_left (is_about q member || is_import_key member.key) (is_visible_type member) (or_left (is_about q member) (is_import_key member.key) held)

  types_matter : (member : Member) → is_visible_type member ≡ true → matters q member ≡ true
  types_matter member held = or_right (is_about q member || is_import_key member.key) (is_visible_type member) held

  no_import : (found : Key) → is_import_key found ≡ false → import_in found ≡ []
  no_import (key.OfImport is_static parts on_demand) none = absurd (cc)
  no_import (key.OfType name) none = refl
  no_import (key.OfVar name) none = refl
  no_import (key.OfMethod name params) none = refl
  no_import (key.OfRun id) none = refl

  imports_matter : (member : Member) → matters q member ≡ false → import_in member.key ≡ []
  imports_matter member none = no_import member.key (or_parts (is_about q member) (is_import_key member.key) (or_parts (is_about q member || is_import_key member.key) (is_visible_type member) none).0).1

  types_same : visible_types a.members ≡ visible_types b.members
  unfolding visible_types
  types_same = filter_kept is_visible_type (matters q) types_matter a.members ∙ ap (filter is_visible_type) elsewhere.members ∙ sym (filter_kept is_visible_type (matters q) types_matter b.members)

  imports_same : imports_of a.members ≡ imports_of b.members
  unfolding imports_of
  imports_same = flat_map_kept (λ (member : Member). import_in member.key) (matters q) imports_matter a.members
      ∙ ap (flat_map (λ (member : Member). import_in member.key)) elsewhere.members
      ∙ sym (flat_map_kept (λ (member : Member). import_in member.key) (matters q) imports_matter b.members)

  find_same : find (is_about q) a.members ≡ find (is_about q) b.members
  find_same = find_kept (is_about q) (matters q) about_matters a.members ∙ ap (find (is_about q)) elsewhere.members ∙ sym (find_kept (is_about q) (matters q) about_matters b.members)

  filter_same : filter (is_about q) a.members ≡ filter (is_about q) b.members
  filter_same = filter_kept (is_about q) (matters q) about_matters a.members ∙ ap (filter (is_about q)) elsewhere.members ∙ sym (filter_kept (is_about q) (matters q) about_matters b.members)

  same_query : (found : Query) → q ≡ found → answer a found ≡ answer b found
  unfolding type_named var_named methods_named
  same_query (query.TypeNamed name) is =
      let same : find (is_type name) a.members ≡ find (is_type name) b.members = subst (λ (k : Query). find (is_about k) a.members ≡ find (is_about k) b.members) is find_same in
      rw (elsewhere.library, types_same, imports_same, same) refl
  same_query (query.VarNamed name) is =
      let same : find (is_visible_variable name) a.members ≡ find (is_visible_variable name) b.members = subst (λ (k : Query). find (is_about k) a.members ≡ find (is_about k) b.members) is find_same in
      rw (elsewhere.library, types_same, imports_same, same) refl
  same_query (query.MethodsNamed name) is =
      let same : filter (is_visible_method name) a.members ≡ filter (is_visible_method name) b.members = subst (λ (k : Query). filter (is_about k) a.members ≡ filter (is_about k) b.members) is filter_same in
      rw (elsewhere.library, types_same, imports_same, same) refl

  pub same_answer : answer a q ≡ answer b q
  same_answer = same_query q refl
