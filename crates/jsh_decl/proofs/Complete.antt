-- Whatever is in the grammar of snippets is read to its end, also where more constructs may stand in one another; so it has one tree.
use Rattle.std.proofs.Common.{◌≡◌, ◌≢◌, ℕ, ◌+◌, ◌≤◌, Bool, true, false, List, [], ◌∷◌, ◌++◌, Option, Some, None, refl, sym, ap, ◌∙◌, subst, arith, append_assoc, append-nil}
use Rattle.jsh_tree.specs.declared.token.Token.{Token}
use Rattle.jsh_tree.specs.declared.token.TokenKind.{TokenKind}
use Rattle.jsh_tree.specs.declared.token.TokenKind.TheVariants as token
use Rattle.jsh_tree.specs.declared.statement.Block.{Block}
use Rattle.jsh_tree.specs.declared.statement.Variable.{Variable}
use Rattle.jsh_tree.specs.declared.declaration.ModifierUse.{ModifierUse}
use Rattle.jsh_tree.specs.declared.declaration.MethodDeclaration.{MethodDeclaration}
use Rattle.jsh_tree.specs.declared.declaration.ClassDeclaration.{ClassDeclaration}
use Rattle.jsh_tree.specs.declared.declaration.InterfaceDeclaration.{InterfaceDeclaration}
use Rattle.jsh_tree.specs.declared.tree.Tree.{Tree}
use Rattle.jsh_tree.specs.declared.tree.Tree.TheVariants as tree
use Rattle.jsh_parse.specs.Forms.{form_of, is_semicolon}
use Rattle.jsh_parse.specs.declared.forms.Form.{Form}
use Rattle.jsh_parse.specs.declared.forms.Form.TheVariants as form
use Rattle.jsh_parse.specs.Statements as statement
use Rattle.jsh_parse.specs.Statements.{IsVariable}
use Rattle.jsh_parse.specs.Reader.{Read, and_then, accept, sees}
use Rattle.jsh_parse.specs.Reading.{expr_at}
use Rattle.jsh_parse.specs.StatementReader.{begins_local}
use Rattle.jsh_parse.specs.StatementReading.{stmt_at, block_at}
use Rattle.jsh_parse.proofs.Follow.{Stops}
use Rattle.jsh_parse.proofs.Fronts.{Front, front-expr}
use Rattle.jsh_parse.proofs.Edges.{Opened}
use Rattle.jsh_parse.proofs.StatementFronts.{opens-statement, expression-no_local}
use Rattle.jsh_parse.proofs.StatementEdges.{block-opened, stmt-no_local}
use Rattle.jsh_decl.specs.Words.{is_import}
use Rattle.jsh_decl.specs.Declarations as grammar
use Rattle.jsh_decl.specs.Declarations.{modifier_of, of_snippets, AreModifiers, IsMethod, IsClass, IsInterface, IsSnippet}
use Rattle.jsh_decl.specs.DeclarationReader.{declaration_read, begins_declaration, statement_read, snippet_at}
use Rattle.jsh_decl.proofs.Fronts.{is_keyword, keyword-bare, opens-bare, Bare, bare-declares, Keyed, other-keyed}
use Rattle.jsh_decl.proofs.CompleteBelow.{expr-below, variable-below, stmt-below, block-below}
use Rattle.jsh_decl.proofs.CompleteNames.{Unmodified, reads-modifiers, import-front, reads-import}
use Rattle.jsh_decl.proofs.Edges.{typed-apart, variable-typed, variable-declares, variable-no_method}
use Rattle.jsh_decl.proofs.CompleteMembers.{reads-method, as_method}
use Rattle.jsh_decl.proofs.CompleteTypes.{reads-class, reads-interface}

-- ---- declarations

modifier-no_import : (k : TokenKind) → modifier_of k ≢ None → is_import k ≡ false
modifier-no_import token.Import some = absurd (some refl)
modifier-no_import _ some = refl

-- a declaration stands behind these modifiers, or without any
declared-read : (text : List ℕ) (n : ℕ) {q : List Token} {ms : List ModifierUse} → AreModifiers of_snippets q ms → (rest : List Token) →
    sees is_import rest ≡ false → Unmodified rest → begins_declaration rest ≡ true → snippet_at text n (q ++ rest) ≡ declaration_read text n ms rest
unfolding snippet_at
declared-read text n grammar.no_modifiers rest no_import none begins = rw (no_import, reads-modifiers grammar.no_modifiers rest none, begins) refl
declared-read text n (grammar.one_more_modifier t is may d) rest no_import none begins =
    rw (modifier-no_import t.kind (λ e. cc), is, reads-modifiers d rest none) refl

class-front : {text : List ℕ} {ms : List ModifierUse} {room : ℕ} {ts : List Token} {c : ClassDeclaration} → IsClass text ms room ts c → (more : List Token) →
    (sees is_import (ts ++ more) ≡ false) × Unmodified (ts ++ more) × (begins_declaration (ts ++ more) ≡ true)
class-front (grammar.class c name t u hc hn dx di ht dm hu) more = rw hc (refl, refl, refl)

interface-front : {text : List ℕ} {ms : List ModifierUse} {room : ℕ} {ts : List Token} {i : InterfaceDeclaration} → IsInterface text ms room ts i →
    (more : List Token) → (sees is_import (ts ++ more) ≡ false) × Unmodified (ts ++ more) × (begins_declaration (ts ++ more) ≡ true)
interface-front (grammar.interface c name t u hc hn dx ht dm hu) more = rw hc (refl, refl, refl)

-- a method with a block is read behind its modifiers
reads-whole_method : {text : List ℕ} {ms : List ModifierUse} {room : ℕ} {ts : List Token} {m : MethodDeclaration} → IsMethod text ms room ts m → m.body ≢ None →
    (n : ℕ) → room ≤ n → (rest : List Token) → declaration_read text n ms (ts ++ rest) ≡ Some (tree.Method m, rest)
reads-whole_method {text = text} {ms = ms} {ts = ts} {m = m} d some n less rest = go m.body refl
  where
    go : (inside : Option Block) → m.body ≡ inside → declaration_read text n ms (ts ++ rest) ≡ Some (tree.Method m, rest)
    go None e = absurd (some e)
    go (Some b) e =
        let front = as_method d rest in
        let apart = typed-apart (ts ++ rest) front.0 in
        rw (apart.2, apart.3, front.2, reads-method d n less rest, e) refl

-- a variable and its semicolon are read behind their modifiers
reads-local : {text : List ℕ} {room : ℕ} {ts : List Token} {v : Variable} → IsVariable text room ts v → (ms : List ModifierUse) (n : ℕ) → room ≤ n →
    (u : Token) → u.kind ≡ token.Semicolon → (rest : List Token) → declaration_read text n ms (ts ++ u ∷ rest) ≡ Some (tree.Variable ms v, rest)
reads-local {ts = ts} d ms n less u hu rest =
    let apart = typed-apart (ts ++ u ∷ rest) (variable-typed d (u ∷ rest)) in
    let stop : Stops 1 (u ∷ rest) = rw hu (omega arith) in
    rw (apart.2, apart.3, variable-no_method d u hu rest, variable-below d n less (u ∷ rest) stop, hu) refl

-- ---- statements

-- what begins no declaration is read as a statement or an expression
undeclared-read : (text : List ℕ) (n : ℕ) (ts : List Token) → Bare ts → begins_local ts ≡ false → snippet_at text n ts ≡ statement_read text n ts
unfolding snippet_at
undeclared-read text n [] b no_local = absurd b
undeclared-read text n (t ∷ ts) b no_local =
    let none : begins_declaration (t ∷ ts) ≡ false = bare-declares (t ∷ ts) b ∙ no_local in
    rw (b.0, b.1, none) refl

-- the form of neither a block nor an expression
abbrev is_other_form : Form → Bool
is_other_form form.Expression = false
is_other_form form.Block = false
is_other_form _ = true

keyword-form : (k : TokenKind) → is_keyword k ≡ true → is_other_form (form_of k) ≡ true
keyword-form token.If h = refl
keyword-form _ h = grind arith

-- what begins with a word of a statement is read as one
keyed-read : (text : List ℕ) (n : ℕ) (ts : List Token) → Keyed ts →
    statement_read text n ts ≡ and_then (stmt_at text n ts) (λ s end. Some (tree.Statement s, end))
keyed-read text n [] h = absurd h
keyed-read text n (t ∷ ts) h = go (form_of t.kind) refl (keyword-form t.kind h)
  where
    go : (f : Form) → form_of t.kind ≡ f → is_other_form f ≡ true →
        statement_read text n (t ∷ ts) ≡ and_then (stmt_at text n (t ∷ ts)) (λ s end. Some (tree.Statement s, end))
    go form.Expression e other = cc
    go form.Block e other = cc
    go _ e other = rw e refl

keyed-bare : (ts : List Token) → Keyed ts → Bare ts
keyed-bare [] h = absurd h
keyed-bare (t ∷ ts) h = keyword-bare t.kind h

keyed-append : (ts more : List Token) → Keyed ts → Keyed (ts ++ more)
keyed-append [] more h = absurd h
keyed-append (t ∷ ts) more h = h

-- what begins with a brace is read as a block
opened-read : (text : List ℕ) (n : ℕ) (ts : List Token) → Opened ts →
    (statement_read text n ts ≡ and_then (block_at text n ts) (λ b end. Some (tree.Block b, end))) × Bare ts
opened-read text n [] o = absurd o
opened-read text n (t ∷ ts) o = rw o (refl, (refl, refl, refl, refl, refl, refl))

opened-append : (ts more : List Token) → Opened ts → Opened (ts ++ more)
opened-append [] more o = absurd o
opened-append (t ∷ ts) more o = o

-- what begins as an expression is read as one
front-read : (text : List ℕ) (n : ℕ) (ts more : List Token) → Front ts →
    (statement_read text n (ts ++ more) ≡
    and_then (expr_at text n (ts ++ more)) (λ e rest. and_then (accept is_semicolon rest) (λ u end. Some (tree.Expression e, end))))
    × Bare (ts ++ more)
front-read text n [] more f = absurd f
front-read text n (t ∷ ts) more f = (rw (opens-statement t.kind f.0).0 refl, opens-bare t.kind f.0)

-- ---- snippets

-- what is in the grammar is read, also where more may stand in one another
pub reads-snippet : {text : List ℕ} {room : ℕ} {ts : List Token} {snippet : Tree} → IsSnippet text room ts snippet → (n : ℕ) → room ≤ n →
    snippet_at text n (ts ++ []) ≡ Some (snippet, [])
unfolding snippet_at
reads-snippet (grammar.import_snippet d) n less = rw (import-front d []) (reads-import d [])
reads-snippet {text = text} (grammar.class_snippet {q = q} {l = l} dm d) n less =
    let front = class-front d [] in
    rw (append_assoc q l []) (declared-read text n dm (l ++ []) front.0 front.1 front.2 ∙ reads-class d n less [])
reads-snippet {text = text} (grammar.interface_snippet {q = q} {l = l} dm d) n less =
    let front = interface-front d [] in
    rw (append_assoc q l []) (declared-read text n dm (l ++ []) front.0 front.1 front.2 ∙ reads-interface d n less [])
reads-snippet {text = text} (grammar.method_snippet {q = q} {l = l} dm d some) n less =
    let front = as_method d [] in
    let apart = typed-apart (l ++ []) front.0 in
    rw (append_assoc q l []) (declared-read text n dm (l ++ []) apart.0 apart.1 front.3 ∙ reads-whole_method d some n less [])
reads-snippet {text = text} (grammar.variable_snippet {q = q} {l = l} {modifiers = ms} u dm d hu) n less =
    let apart = typed-apart (l ++ u ∷ []) (variable-typed d (u ∷ [])) in
    rw (append_assoc q (l ++ u ∷ []) [], append_assoc l (u ∷ []) [])
    (declared-read text n dm (l ++ u ∷ []) apart.0 apart.1 (variable-declares d (u ∷ [])) ∙ reads-local d ms n less u hu [])
reads-snippet {text = text} (grammar.block_snippet {ts = ts} d) n less =
    let by = opened-read text n (ts ++ []) (opened-append ts [] (block-opened d)) in
    undeclared-read text n (ts ++ []) by.1 (stmt-no_local (statement.block d) []) ∙ by.0 ∙ rw (block-below d n less []) refl
reads-snippet {text = text} (grammar.statement_snippet {ts = ts} d other) n less =
    let keyed = keyed-append ts [] (other-keyed d other) in
    undeclared-read text n (ts ++ []) (keyed-bare (ts ++ []) keyed) (stmt-no_local d []) ∙ keyed-read text n (ts ++ []) keyed
    ∙ rw (stmt-below d n less [] (λ x. refl, refl)) refl
reads-snippet {text = text} (grammar.expression_snippet {l = l} u d hu) n less =
    let stop : Stops 1 (u ∷ []) = rw hu (omega arith) in
    let by = front-read text n l (u ∷ []) (front-expr d) in
    rw (append_assoc l (u ∷ []) [])
    (undeclared-read text n (l ++ u ∷ []) by.1 (expression-no_local l (u ∷ []) (front-expr d) stop) ∙ by.0 ∙ rw (expr-below d n less (u ∷ []) stop, hu) refl)

-- a snippet is read to its end
pub complete_snippet_whole : (text : List ℕ) (room : ℕ) (ts : List Token) (tree : Tree) → IsSnippet text room ts tree →
    snippet_at text room ts ≡ Some (tree, [])
complete_snippet_whole text room ts tree d = subst (λ us. snippet_at text room us ≡ Some (tree, [])) (append-nil ts) (reads-snippet d room (omega arith))

-- what is read, or else this
abbrev read_or : Tree → Read Tree → Tree
read_or t None = t
read_or t (Some found) = found.0

-- both trees are what is read with room for both
pub one_snippet : (text : List ℕ) (r s : ℕ) (ts : List Token) (a b : Tree) → IsSnippet text r ts a → IsSnippet text s ts b → a ≡ b
one_snippet text r s ts a b da db = ap (read_or a) (sym (reads-snippet da (r + s) (omega arith)) ∙ reads-snippet db (r + s) (omega arith))
