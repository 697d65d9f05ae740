-- A clone is the same.
use Rattle.std.proofs.Common.{◌≡◌, ℕ, Bool, List, [], ◌∷◌, Option, Some, None, refl, sym, ◌∙◌, ap}
use Rattle.std.specs.List.{AllZip}
use Rattle.jsh_tree.specs.declared.expression.Literal.{Literal}
use Rattle.jsh_tree.specs.declared.expression.Literal.TheVariants as literal
use Rattle.jsh_tree.specs.declared.key.Field.{Field}
use Rattle.jsh_tree.specs.declared.key.Header.{Header}
use Rattle.jsh_tree.specs.declared.key.Header.TheVariants as header
use Rattle.jsh_tree.specs.declared.key.Key.{Key}
use Rattle.jsh_tree.specs.declared.key.Key.TheVariants as key
use Rattle.jsh_tree.specs.declared.key.Link.{Link}
use Rattle.jsh_tree.specs.declared.key.Signature.{Signature}
use Rattle.jsh_tree.specs.declared.library.Library.{Library}
use Rattle.jsh_tree.specs.declared.library.LibraryConstant.{LibraryConstant}
use Rattle.jsh_tree.specs.declared.library.LibraryMethod.{LibraryMethod}
use Rattle.jsh_tree.specs.declared.library.LibraryType.{LibraryType}
use Rattle.jsh_tree.specs.declared.library.Member.{Member}
use Rattle.jsh_tree.specs.declared.name.TypeWritten.{TypeWritten}
use Rattle.jsh_tree.specs.contracts.expression.LiteralClone.TheImpl as literal_clone
use Rattle.jsh_tree.specs.contracts.key.FieldClone.TheImpl as field_clone
use Rattle.jsh_tree.specs.contracts.key.HeaderClone.TheImpl as header_clone
use Rattle.jsh_tree.specs.contracts.key.KeyClone.TheImpl as key_clone
use Rattle.jsh_tree.specs.contracts.key.LinkClone.TheImpl as link_clone
use Rattle.jsh_tree.specs.contracts.key.SignatureClone.TheImpl as signature_clone
use Rattle.jsh_tree.specs.contracts.library.LibraryClone.TheImpl as library_clone
use Rattle.jsh_tree.specs.contracts.library.LibraryConstantClone.TheImpl as constant_clone
use Rattle.jsh_tree.specs.contracts.library.LibraryMethodClone.TheImpl as method_clone
use Rattle.jsh_tree.specs.contracts.library.LibraryTypeClone.TheImpl as type_clone
use Rattle.jsh_tree.specs.contracts.library.MemberClone.TheImpl as member_clone
use Rattle.jsh_tree.specs.contracts.name.TypeWrittenClone.TheImpl as written_clone

zip_same : {A : Type 0} (R : A → A → Type 0) → ((x y : A) → R x y → y ≡ x) → (xs ys : List A) → AllZip R xs ys → ys ≡ xs
zip_same R same [] [] all = refl
zip_same R same [] (y ∷ ys) all = absurd all
zip_same R same (x ∷ xs) [] all = absurd all
zip_same {A} R same (x ∷ xs) (y ∷ ys) all = ap (λ (z : A). z ∷ ys) (same x y all.0) ∙ ap (λ (zs : List A). x ∷ zs) (zip_same R same xs ys all.1)

written_same : (a b : TypeWritten) → written_clone.ghosts.is_clone a b → b ≡ a
written_same a b h = ap (λ (n : List ℕ). record { name = n; dims = b.dims }) h.0 ∙ ap (λ (d : ℕ). record { name = a.name; dims = d }) h.1

abbrev IsWrittenClone : TypeWritten → TypeWritten → Type 0
IsWrittenClone a b = written_clone.ghosts.is_clone a b

types_same : (xs ys : List TypeWritten) → AllZip IsWrittenClone xs ys → ys ≡ xs
types_same xs ys all = zip_same IsWrittenClone written_same xs ys all

names_same : (xs ys : List (List ℕ)) → AllZip (λ x y. y ≡ x) xs ys → ys ≡ xs
names_same xs ys all = zip_same (λ x y. y ≡ x) (λ x y same. same) xs ys all

key_same : (a b : Key) → key_clone.ghosts.is_clone a b → b ≡ a
key_same (key.OfType m) (key.OfType n) h = ap key.OfType h
key_same (key.OfVar m) (key.OfVar n) h = ap key.OfVar h
key_same (key.OfMethod m ps) (key.OfMethod n qs) h = ap (λ (x : List ℕ). key.OfMethod x qs) h.0 ∙ ap (λ (xs : List TypeWritten). key.OfMethod m xs) (types_same ps qs h.1)
key_same (key.OfImport s ps d) (key.OfImport t qs e) h = ap (λ (x : Bool). key.OfImport x qs e) h.0 ∙ ap (λ (xs : List (List ℕ)). key.OfImport s xs e) (names_same ps qs h.1.0) ∙ ap (λ (x : Bool). key.OfImport s ps x) h.1.1
key_same (key.OfRun m) (key.OfRun n) h = ap key.OfRun h
key_same (key.OfType m) _ h = absurd h
key_same (key.OfVar m) _ h = absurd h
key_same (key.OfMethod m ps) _ h = absurd h
key_same (key.OfImport s ps d) _ h = absurd h
key_same (key.OfRun m) _ h = absurd h

link_same : (a b : Link) → link_clone.ghosts.is_clone a b → b ≡ a
link_same a b h = ap (λ (k : Key). record { key = k; generation = b.generation }) (key_same a.key b.key h.0) ∙ ap (λ (n : ℕ). record { key = a.key; generation = n }) h.1

field_same : (a b : Field) → field_clone.ghosts.is_clone a b → b ≡ a
field_same a b h = ap (λ (w : TypeWritten). record { written = w; name = b.name }) (written_same a.written b.written h.0) ∙ ap (λ (n : List ℕ). record { written = a.written; name = n }) h.1

member_links : (i j : ℕ) (k l : Key) (g h : Header) (x y : Option Link) → member_clone.ghosts.is_clone (record { id = i; key = k; header = g; link = x }) (record { id = j; key = l; header = h; link = y }) → y ≡ x
member_links i j k l g h None None c = refl
member_links i j k l g h (Some m) (Some n) c = ap (λ (x : Link). Some x) (link_same m n c.1.1.1)
member_links i j k l g h None (Some n) c = absurd c.1.1.1
member_links i j k l g h (Some m) None c = absurd c.1.1.1

signature_results : (m n : List ℕ) (x y : Option TypeWritten) (ps qs : List TypeWritten) (d e : Bool)
    → signature_clone.ghosts.is_clone (record { name = m; result = x; params = ps; is_abstract = d }) (record { name = n; result = y; params = qs; is_abstract = e }) → y ≡ x
signature_results m n None None ps qs d e c = refl
signature_results m n (Some s) (Some t) ps qs d e c = ap (λ (x : TypeWritten). Some x) (written_same s t c.1.0)
signature_results m n None (Some t) ps qs d e c = absurd c.1.0
signature_results m n (Some s) None ps qs d e c = absurd c.1.0

signature_same : (a b : Signature) → signature_clone.ghosts.is_clone a b → b ≡ a
signature_same a b h =
    ap (λ (x : List ℕ). record { name = x; result = b.result; params = b.params; is_abstract = b.is_abstract }) h.0
    ∙ ap (λ (x : Option TypeWritten). record { name = a.name; result = x; params = b.params; is_abstract = b.is_abstract }) (signature_results a.name b.name a.result b.result a.params b.params a.is_abstract b.is_abstract h)
    ∙ ap (λ (x : List TypeWritten). record { name = a.name; result = a.result; params = x; is_abstract = b.is_abstract }) (types_same a.params b.params h.1.1.0)
    ∙ ap (λ (x : Bool). record { name = a.name; result = a.result; params = a.params; is_abstract = x }) h.1.1.1

abbrev IsFieldClone : Field → Field → Type 0
IsFieldClone a b = field_clone.ghosts.is_clone a b

abbrev IsSignatureClone : Signature → Signature → Type 0
IsSignatureClone a b = signature_clone.ghosts.is_clone a b

lists_same : (xs ys : List (List TypeWritten)) → AllZip (AllZip IsWrittenClone) xs ys → ys ≡ xs
lists_same xs ys all = zip_same (AllZip IsWrittenClone) types_same xs ys all

signatures_same : (xs ys : List Signature) → AllZip IsSignatureClone xs ys → ys ≡ xs
signatures_same xs ys all = zip_same IsSignatureClone signature_same xs ys all

header_same : (a b : Header) → header_clone.ghosts.is_clone a b → b ≡ a
header_same (header.OfType a0 a1 a2 a3 a4 a5 a6 a7) (header.OfType b0 b1 b2 b3 b4 b5 b6 b7) h =
    ap (λ (x : Bool). header.OfType x b1 b2 b3 b4 b5 b6 b7) h.0
    ∙ ap (λ (x : Bool). header.OfType a0 x b2 b3 b4 b5 b6 b7) h.1.0
    ∙ ap (λ (x : List ℕ). header.OfType a0 a1 x b3 b4 b5 b6 b7) h.1.1.0
    ∙ ap (λ (x : List (List ℕ)). header.OfType a0 a1 a2 x b4 b5 b6 b7) (names_same a3 b3 h.1.1.1.0)
    ∙ ap (λ (x : List (List ℕ)). header.OfType a0 a1 a2 a3 x b5 b6 b7) (names_same a4 b4 h.1.1.1.1.0)
    ∙ ap (λ (x : List Field). header.OfType a0 a1 a2 a3 a4 x b6 b7) (zip_same IsFieldClone field_same a5 b5 h.1.1.1.1.1.0)
    ∙ ap (λ (x : List Signature). header.OfType a0 a1 a2 a3 a4 a5 x b7) (signatures_same a6 b6 h.1.1.1.1.1.1.0)
    ∙ ap (λ (x : List (List TypeWritten)). header.OfType a0 a1 a2 a3 a4 a5 a6 x) (lists_same a7 b7 h.1.1.1.1.1.1.1)
header_same (header.OfMethod None ps) (header.OfMethod None qs) h = ap (λ (xs : List TypeWritten). header.OfMethod None xs) (types_same ps qs h.1)
header_same (header.OfMethod (Some s) ps) (header.OfMethod (Some t) qs) h = ap (λ (x : TypeWritten). header.OfMethod (Some x) qs) (written_same s t h.0) ∙ ap (λ (xs : List TypeWritten). header.OfMethod (Some s) xs) (types_same ps qs h.1)
header_same (header.OfMethod None ps) (header.OfMethod (Some t) qs) h = absurd h.0
header_same (header.OfMethod (Some s) ps) (header.OfMethod None qs) h = absurd h.0
header_same (header.OfVar s) (header.OfVar t) h = ap header.OfVar (written_same s t h)
header_same header.Empty header.Empty h = refl
header_same (header.OfType a0 a1 a2 a3 a4 a5 a6 a7) _ h = absurd h
header_same (header.OfMethod r ps) _ h = absurd h
header_same (header.OfVar s) _ h = absurd h
header_same header.Empty _ h = absurd h

pub member_same : (a b : Member) → member_clone.ghosts.is_clone a b → b ≡ a
member_same a b h =
    ap (λ (x : ℕ). record { id = x; key = b.key; header = b.header; link = b.link }) h.0
    ∙ ap (λ (x : Key). record { id = a.id; key = x; header = b.header; link = b.link }) (key_same a.key b.key h.1.0)
    ∙ ap (λ (x : Header). record { id = a.id; key = a.key; header = x; link = b.link }) (header_same a.header b.header h.1.1.0)
    ∙ ap (λ (x : Option Link). record { id = a.id; key = a.key; header = a.header; link = x }) (member_links a.id b.id a.key b.key a.header b.header a.link b.link h)

literal_same : (a b : Literal) → literal_clone.ghosts.is_clone a b → b ≡ a
literal_same (literal.Int m p) (literal.Int n q) h = ap (λ x. literal.Int x q) h.0 ∙ ap (λ x. literal.Int m x) h.1
literal_same (literal.Long m p) (literal.Long n q) h = ap (λ x. literal.Long x q) h.0 ∙ ap (λ x. literal.Long m x) h.1
literal_same (literal.Char m) (literal.Char n) h = ap literal.Char h
literal_same (literal.Text m) (literal.Text n) h = ap literal.Text (zip_same (λ x y. y ≡ x) (λ x y same. same) m n h)
literal_same (literal.Boolean m) (literal.Boolean n) h = ap literal.Boolean h
literal_same literal.Null literal.Null h = refl
literal_same (literal.Int m p) _ h = absurd h
literal_same (literal.Long m p) _ h = absurd h
literal_same (literal.Char m) _ h = absurd h
literal_same (literal.Text m) _ h = absurd h
literal_same (literal.Boolean m) _ h = absurd h
literal_same literal.Null _ h = absurd h

constant_same : (a b : LibraryConstant) → constant_clone.ghosts.is_clone a b → b ≡ a
constant_same a b h =
    ap (λ (x : List ℕ). record { name = x; written = b.written; value = b.value }) h.0
    ∙ ap (λ (x : TypeWritten). record { name = a.name; written = x; value = b.value }) (written_same a.written b.written h.1.0)
    ∙ ap (λ (x : Literal). record { name = a.name; written = a.written; value = x }) (literal_same a.value b.value h.1.1)

method_same : (a b : LibraryMethod) → method_clone.ghosts.is_clone a b → b ≡ a
method_same a b h =
    ap (λ (x : Bool). record { is_static = x; signature = b.signature }) h.0
    ∙ ap (λ (x : Signature). record { is_static = a.is_static; signature = x }) (signature_same a.signature b.signature h.1)

abbrev IsMethodClone : LibraryMethod → LibraryMethod → Type 0
IsMethodClone a b = method_clone.ghosts.is_clone a b

abbrev IsConstantClone : LibraryConstant → LibraryConstant → Type 0
IsConstantClone a b = constant_clone.ghosts.is_clone a b

type_parents : (a b : LibraryType) (x y : Option (List ℕ)) → type_clone.ghosts.is_clone (record a { extends = x }) (record b { extends = y }) → y ≡ x
type_parents a b None None h = refl
type_parents a b (Some m) (Some n) h = ap (λ (x : List ℕ). Some x) h.1.1.1.1.1.0
type_parents a b None (Some n) h = absurd h.1.1.1.1.1.0
type_parents a b (Some m) None h = absurd h.1.1.1.1.1.0

type_same : (a b : LibraryType) → type_clone.ghosts.is_clone a b → b ≡ a
type_same a b h =
    ap (λ (x : List ℕ). record { «package» = x; name = b.name; is_interface = b.is_interface; is_final = b.is_final; is_abstract = b.is_abstract; extends = b.extends; implements = b.implements; constructors = b.constructors; methods = b.methods; constants = b.constants }) h.0
    ∙ ap (λ (x : List ℕ). record { «package» = a.package; name = x; is_interface = b.is_interface; is_final = b.is_final; is_abstract = b.is_abstract; extends = b.extends; implements = b.implements; constructors = b.constructors; methods = b.methods; constants = b.constants }) h.1.0
    ∙ ap (λ (x : Bool). record { «package» = a.package; name = a.name; is_interface = x; is_final = b.is_final; is_abstract = b.is_abstract; extends = b.extends; implements = b.implements; constructors = b.constructors; methods = b.methods; constants = b.constants }) h.1.1.0
    ∙ ap (λ (x : Bool). record { «package» = a.package; name = a.name; is_interface = a.is_interface; is_final = x; is_abstract = b.is_abstract; extends = b.extends; implements = b.implements; constructors = b.constructors; methods = b.methods; constants = b.constants }) h.1.1.1.0
    ∙ ap (λ (x : Bool). record { «package» = a.package; name = a.name; is_interface = a.is_interface; is_final = a.is_final; is_abstract = x; extends = b.extends; implements = b.implements; constructors = b.constructors; methods = b.methods; constants = b.constants }) h.1.1.1.1.0
    ∙ ap (λ (x : Option (List ℕ)). record { «package» = a.package; name = a.name; is_interface = a.is_interface; is_final = a.is_final; is_abstract = a.is_abstract; extends = x; implements = b.implements; constructors = b.constructors; methods = b.methods; constants = b.constants }) (type_parents a b a.extends b.extends h)
    ∙ ap (λ (x : List (List ℕ)). record { «package» = a.package; name = a.name; is_interface = a.is_interface; is_final = a.is_final; is_abstract = a.is_abstract; extends = a.extends; implements = x; constructors = b.constructors; methods = b.methods; constants = b.constants }) (names_same a.implements b.implements h.1.1.1.1.1.1.0)
    ∙ ap (λ (x : List (List TypeWritten)). record { «package» = a.package; name = a.name; is_interface = a.is_interface; is_final = a.is_final; is_abstract = a.is_abstract; extends = a.extends; implements = a.implements; constructors = x; methods = b.methods; constants = b.constants }) (lists_same a.constructors b.constructors h.1.1.1.1.1.1.1.0)
    ∙ ap (λ (x : List LibraryMethod). record { «package» = a.package; name = a.name; is_interface = a.is_interface; is_final = a.is_final; is_abstract = a.is_abstract; extends = a.extends; implements = a.implements; constructors = a.constructors; methods = x; constants = b.constants }) (zip_same IsMethodClone method_same a.methods b.methods h.1.1.1.1.1.1.1.1.0)
    ∙ ap (λ (x : List LibraryConstant). record { «package» = a.package; name = a.name; is_interface = a.is_interface; is_final = a.is_final; is_abstract = a.is_abstract; extends = a.extends; implements = a.implements; constructors = a.constructors; methods = a.methods; constants = x }) (zip_same IsConstantClone constant_same a.constants b.constants h.1.1.1.1.1.1.1.1.1)

abbrev IsTypeClone : LibraryType → LibraryType → Type 0
IsTypeClone a b = type_clone.ghosts.is_clone a b

pub library_same : (a b : Library) → library_clone.ghosts.is_clone a b → b ≡ a
library_same a b h =
    ap (λ (x : List (List ℕ)). record { packages = x; types = b.types; out = b.out }) (names_same a.packages b.packages h.0)
    ∙ ap (λ (x : List LibraryType). record { packages = a.packages; types = x; out = b.out }) (zip_same IsTypeClone type_same a.types b.types h.1.0)
    ∙ ap (λ (x : List Signature). record { packages = a.packages; types = a.types; out = x }) (signatures_same a.out b.out h.1.1)
