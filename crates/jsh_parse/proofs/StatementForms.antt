-- The statements of each form that the reader takes are in the grammar, if so is what it takes one deeper.
use Rattle.std.proofs.Common.{◌≡◌, ℕ, zero, suc, Bool, true, false, List, [], ◌∷◌, ◌++◌, Option, Some, None, refl, ap, ◌∙◌, length}
use Rattle.jsh_tree.specs.declared.token.Token.{Token}
use Rattle.jsh_tree.specs.declared.token.TokenKind.TheVariants as token
use Rattle.jsh_tree.specs.declared.expression.TypeUse.{TypeUse}
use Rattle.jsh_tree.specs.declared.expression.Expr.{Expr}
use Rattle.jsh_tree.specs.declared.statement.Stmt.{Stmt}
use Rattle.jsh_tree.specs.declared.statement.Stmt.TheVariants as statement
use Rattle.jsh_tree.specs.declared.statement.Block.{Block}
use Rattle.jsh_parse.specs.Marks.{is_left_paren, is_right_paren, is_left_brace, is_right_brace, is_colon, is_identifier}
use Rattle.jsh_parse.specs.Leaves.{identifier_of}
use Rattle.jsh_parse.specs.Grammar.{IsExpr}
use Rattle.jsh_parse.specs.Forms.{is_semicolon, is_else, is_while, is_var, is_catch}
use Rattle.jsh_parse.specs.Statements.{is_statement, IsStmt, IsBlock, AreStatements, AreGroups, AreCatches}
use Rattle.jsh_parse.specs.Reader.{Read, sees, Inner}
use Rattle.jsh_parse.specs.StatementReader.{Deeper, deeper_than, inner_of, final_read, is_for_each, block_read, expression_read, if_read, while_read, do_read, each_read, for_each_read, for_parts_read, for_read, switch_read, catches, try_read, jump_read}
use Rattle.jsh_parse.proofs.Gives.{Gives, given, nothing, weaker_given, then_given, choose, accepts}
use Rattle.jsh_parse.proofs.MarkLemmas.{left_paren, right_paren, left_brace, right_brace, colon, identifier}
use Rattle.jsh_parse.proofs.FormLemmas.{semicolon, else_word, while_word, var_word, catch_word}
use Rattle.jsh_parse.proofs.SoundLists.{Front, IsSound, AreSound, behind_front, behind_token, with_last}
use Rattle.jsh_parse.proofs.StatementParts.{final_sound, written_sound, optional_sound, update_sound, start_sound, condition_sound}

-- a statement stands in front, and no `else` behind it if it ends in an `if` without one
pub record StmtFront (text : List ℕ) (room : ℕ) (ts : List Token) (s : Stmt) (rest : List Token) : Type 0 where
  pub pre : List Token
  pub dangling : Bool
  pub parts : ts ≡ pre ++ rest
  pub holds : IsStmt text room dangling pre s
  pub ends : dangling ≡ true → sees is_else rest ≡ false

-- what the readers of statements take is in the grammar
pub record IsDeeperSound (text : List ℕ) (room : ℕ) (d : Deeper) : Type 0 where
  pub inner : IsSound text room d.inner
  pub stmt : (ts : List Token) → Gives (StmtFront text room ts) (d.stmt ts)
  pub statements : (ts : List Token) → Gives (λ inside rest. Front (λ pre. AreStatements text room pre inside) ts rest) (d.statements ts)
  pub groups : (ts : List Token) → Gives (λ gs rest. Front (λ pre. AreGroups text room pre gs) ts rest) (d.groups ts)

-- so it is with what may stand one deeper, where there is room for anything
abbrev pub AreDeeperSound : List ℕ → ℕ → Option Deeper → Type 0
AreDeeperSound text room None = Unit {0}
AreDeeperSound text zero (Some d) = ⊥
AreDeeperSound text (suc room) (Some d) = IsDeeperSound text room d

pub deeper_given : {A : Type 0} (text : List ℕ) (P : ℕ → A → List Token → Type 0) (room : ℕ) (deeper : Option Deeper) (f : Deeper → Read A) →
    AreDeeperSound text room deeper → ((r : ℕ) (d : Deeper) → IsDeeperSound text r d → Gives (P (suc r)) (f d)) → Gives (P room) (deeper_than deeper f)
deeper_given text P room None f s g = nothing
deeper_given text P zero (Some d) f s g = absurd s
deeper_given text P (suc r) (Some d) f s g = g r d s

pub inner_sound : (text : List ℕ) (room : ℕ) (deeper : Option Deeper) → AreDeeperSound text room deeper → AreSound text room (inner_of deeper)
inner_sound text room None s = tt
inner_sound text zero (Some d) s = absurd s
inner_sound text (suc r) (Some d) s = s.inner

-- a statement that an `else` may follow
pub closed : {text : List ℕ} {room : ℕ} {ts : List Token} {s : Stmt} {rest : List Token} (pre : List Token) → ts ≡ pre ++ rest → IsStmt text room false pre s →
    StmtFront text room ts s rest
closed pre e h = record { pre = pre; dangling = false; parts = e; holds = h; ends = λ c. cc }

not_dangling : (dangling follows : Bool) → (dangling ≡ true → follows ≡ false) → follows ≡ true → dangling ≡ false
not_dangling true follows f h = let no = f refl in cc
not_dangling false follows f h = refl

-- an `else` follows none that ends in an `if` without one
before_else : {text : List ℕ} {room : ℕ} {ts : List Token} {s : Stmt} {rest : List Token} (found : StmtFront text room ts s rest) → sees is_else rest ≡ true →
    IsStmt text room false found.pre s
before_else {rest = rest} found h = let same = not_dangling found.dangling (sees is_else rest) found.ends h in rw same at found.holds

-- ---- blocks

pub block_sound : (text : List ℕ) (room : ℕ) (deeper : Option Deeper) → AreDeeperSound text room deeper → (ts : List Token) →
    Gives (λ b rest. Front (λ pre. IsBlock text room pre b) ts rest) (block_read deeper ts)
block_sound text room deeper s ts =
    then_given _ _ _ (accepts is_left_brace ts) (λ t rest g. deeper_given text Given room deeper _ s (λ r d sound. then_given _ _ _ (sound.statements rest)
    (λ inside behind h. then_given _ _ _ (accepts is_right_brace behind) (λ u end k. given _ _ (
      t ∷ (h.0 ++ u ∷ []),
      g.0 ∙ ap (λ x. t ∷ x) (with_last h.0 rest end u (h.1 ∙ ap (λ x. h.0 ++ x) k.0)),
      IsBlock.braces t u (left_brace t.kind g.1) h.2 (right_brace u.kind k.1),
    )))))
  where
    Given : ℕ → Block → List Token → Type 0
    Given k b rest = Front (λ pre. IsBlock text k pre b) ts rest

-- ---- expressions, and words alone

pub expression_sound : (text : List ℕ) (room : ℕ) (i : Inner) → IsSound text room i → (ts : List Token) →
    Gives (StmtFront text room ts) (expression_read i ts)
expression_sound text room i s ts =
    then_given _ _ _ (s.expr ts) (λ e rest h. choose (is_statement e) _ _
    (λ a. then_given _ _ _ (accepts is_semicolon rest) (λ u end g. given _ _ (
    closed (h.0 ++ u ∷ []) (with_last h.0 ts end u (h.1 ∙ ap (λ x. h.0 ++ x) g.0)) (IsStmt.expression u h.2 a (semicolon u.kind g.1)))))
    (λ a. nothing))

-- a statement up to its semicolon
pub jump_sound : (text : List ℕ) (room : ℕ) (s : Stmt) (all pre ts : List Token) → all ≡ pre ++ ts →
    ((u : Token) → u.kind ≡ token.Semicolon → IsStmt text room false (pre ++ u ∷ []) s) → Gives (StmtFront text room all) (jump_read s ts)
jump_sound text room s all pre ts e h =
    then_given _ _ _ (accepts is_semicolon ts) (λ u end g. given _ _ (
    closed (pre ++ u ∷ []) (with_last pre all end u (e ∙ ap (λ x. pre ++ x) g.0)) (h u (semicolon u.kind g.1))))

-- ---- conditions and loops

pub if_sound : (text : List ℕ) (room : ℕ) (d : Deeper) → IsDeeperSound text room d → (t : Token) → t.kind ≡ token.If → (ts : List Token) →
    Gives (StmtFront text (suc room) (t ∷ ts)) (if_read t d ts)
if_sound text room d s t word ts =
    then_given _ _ _ (condition_sound text room d.inner s.inner ts) (λ e rest c. then_given _ _ _ (s.stmt rest) (λ first behind f.
    choose (sees is_else behind) _ _
    (λ a. then_given _ _ _ (accepts is_else behind) (λ u more g. then_given _ _ _ (s.stmt more) (λ otherwise end o. given _ _ (record {
      pre = t ∷ (c.0 ++ (f.pre ++ u ∷ o.pre));
      dangling = o.dangling;
      parts = ap (λ x. t ∷ x) (behind_front c.0 (f.pre ++ u ∷ o.pre) ts rest end c.1
          (behind_token f.pre o.pre rest more end u (f.parts ∙ ap (λ x. f.pre ++ x) g.0) o.parts));
      holds = IsStmt.if_else t u word c.2 (before_else f a) (else_word u.kind g.1) o.holds;
      ends = o.ends;
    }))))
    (λ a. given _ _ (record {
      pre = t ∷ (c.0 ++ f.pre);
      dangling = true;
      parts = ap (λ x. t ∷ x) (behind_front c.0 f.pre ts rest behind c.1 f.parts);
      holds = IsStmt.if_alone t word c.2 f.holds;
      ends = λ b. a;
    }))))

pub while_sound : (text : List ℕ) (room : ℕ) (d : Deeper) → IsDeeperSound text room d → (t : Token) → t.kind ≡ token.While → (ts : List Token) →
    Gives (StmtFront text (suc room) (t ∷ ts)) (while_read t d ts)
while_sound text room d s t word ts =
    then_given _ _ _ (condition_sound text room d.inner s.inner ts) (λ e rest c. then_given _ _ _ (s.stmt rest) (λ body end b. given _ _ (record {
      pre = t ∷ (c.0 ++ b.pre);
      dangling = b.dangling;
      parts = ap (λ x. t ∷ x) (behind_front c.0 b.pre ts rest end c.1 b.parts);
      holds = IsStmt.while_do t word c.2 b.holds;
      ends = b.ends;
    })))

pub do_sound : (text : List ℕ) (room : ℕ) (d : Deeper) → IsDeeperSound text room d → (t : Token) → t.kind ≡ token.Do → (ts : List Token) →
    Gives (StmtFront text (suc room) (t ∷ ts)) (do_read t d ts)
do_sound text room d s t word ts =
    then_given _ _ _ (s.stmt ts) (λ body rest b. then_given _ _ _ (accepts is_while rest) (λ w behind g.
    then_given _ _ _ (condition_sound text room d.inner s.inner behind) (λ e more c. then_given _ _ _ (accepts is_semicolon more) (λ u end k. given _ _ (
    closed (t ∷ (b.pre ++ w ∷ (c.0 ++ u ∷ [])))
    (ap (λ x. t ∷ x) (behind_token b.pre (c.0 ++ u ∷ []) ts behind end w (b.parts ∙ ap (λ x. b.pre ++ x) g.0)
    (with_last c.0 behind end u (c.1 ∙ ap (λ x. c.0 ++ x) k.0))))
    (IsStmt.do_while t w u word b.holds (while_word w.kind g.1) c.2 (semicolon u.kind k.1)))))))

-- what stands behind the type of a `for` over an array
record EachFront (text : List ℕ) (room : ℕ) (t : Token) (is_final : Bool) (written : Option TypeUse) (ts : List Token) (s : Stmt) (rest : List Token) : Type 0 where
  name : Token
  colon : Token
  paren : Token
  over : List Token
  inside : List Token
  e : Expr
  body : Stmt
  dangling : Bool
  parts : ts ≡ name ∷ colon ∷ ((over ++ paren ∷ inside) ++ rest)
  names : name.kind ≡ token.Identifier
  separates : colon.kind ≡ token.Colon
  closes : paren.kind ≡ token.RightParen
  array : IsExpr text room over e
  repeats : IsStmt text room dangling inside body
  ends : dangling ≡ true → sees is_else rest ≡ false
  same : s ≡ statement.ForEach t.span is_final written (identifier_of text name) e body

each_sound : (text : List ℕ) (room : ℕ) (d : Deeper) → IsDeeperSound text room d → (t : Token) (is_final : Bool) (written : Option TypeUse) (ts : List Token) →
    Gives (EachFront text room t is_final written ts) (each_read t is_final written text d ts)
each_sound text room d s t is_final written ts =
    then_given _ _ _ (accepts is_identifier ts) (λ n rest g. then_given _ _ _ (accepts is_colon rest) (λ u behind h.
    then_given _ _ _ (s.inner.expr behind) (λ e more a. then_given _ _ _ (accepts is_right_paren more) (λ q last k. then_given _ _ _ (s.stmt last)
    (λ body end b. given _ _ (record {
      name = n;
      colon = u;
      paren = q;
      over = a.0;
      inside = b.pre;
      e = e;
      body = body;
      dangling = b.dangling;
      parts = g.0 ∙ ap (λ x. n ∷ x) (h.0 ∙ ap (λ x. u ∷ x) (behind_token a.0 b.pre behind last end q (a.1 ∙ ap (λ x. a.0 ++ x) k.0) b.parts));
      names = identifier n.kind g.1;
      separates = colon u.kind h.1;
      closes = right_paren q.kind k.1;
      array = a.2;
      repeats = b.holds;
      ends = b.ends;
      same = refl;
    }))))))

for_each_sound : (text : List ℕ) (room : ℕ) (d : Deeper) → IsDeeperSound text room d → (t p : Token) → t.kind ≡ token.For → p.kind ≡ token.LeftParen →
    (all ts : List Token) → all ≡ t ∷ p ∷ ts → Gives (StmtFront text (suc room) all) (for_each_read text t d ts)
for_each_sound text room d s t p word opens all ts e =
    let f = final_sound ts in
    choose (sees is_var (final_read ts).1) _ _
    (λ a. then_given _ _ _ (accepts is_var (final_read ts).1) (λ v rest g.
    weaker_given _ _ (each_sound text room d s t (final_read ts).0 None rest) (λ each end h. record {
      pre = t ∷ p ∷ (f.0 ++ v ∷ h.name ∷ h.colon ∷ (h.over ++ h.paren ∷ h.inside));
      dangling = h.dangling;
      parts = e ∙ ap (λ x. t ∷ p ∷ x) (behind_token f.0 (h.name ∷ h.colon ∷ (h.over ++ h.paren ∷ h.inside)) ts rest end v
          (f.1 ∙ ap (λ x. f.0 ++ x) g.0) h.parts);
      holds = rw h.same (IsStmt.for_each_inferred t p v h.name h.colon h.paren word opens f.2 (var_word v.kind g.1) h.names h.separates h.array h.closes h.repeats);
      ends = h.ends;
    })))
    (λ a. then_given _ _ _ (written_sound text (final_read ts).1) (λ written rest g.
    weaker_given _ _ (each_sound text room d s t (final_read ts).0 (Some written) rest) (λ each end h. record {
      pre = t ∷ p ∷ (f.0 ++ (g.0 ++ h.name ∷ h.colon ∷ (h.over ++ h.paren ∷ h.inside)));
      dangling = h.dangling;
      parts = e ∙ ap (λ x. t ∷ p ∷ x) (behind_front f.0 (g.0 ++ h.name ∷ h.colon ∷ (h.over ++ h.paren ∷ h.inside)) ts (final_read ts).1 end f.1
          (behind_front g.0 (h.name ∷ h.colon ∷ (h.over ++ h.paren ∷ h.inside)) (final_read ts).1 rest end g.1 h.parts));
      holds = rw h.same (IsStmt.for_each t p h.name h.colon h.paren word opens f.2 g.2 h.names h.separates h.array h.closes h.repeats);
      ends = h.ends;
    })))

for_parts_sound : (text : List ℕ) (room : ℕ) (d : Deeper) → IsDeeperSound text room d → (t p : Token) → t.kind ≡ token.For → p.kind ≡ token.LeftParen →
    (all ts : List Token) → all ≡ t ∷ p ∷ ts → Gives (StmtFront text (suc room) all) (for_parts_read text t d ts)
for_parts_sound text room d s t p word opens all ts same =
    then_given _ _ _ (start_sound text room d.inner s.inner ts) (λ begins rest a. then_given _ _ _ (accepts is_semicolon rest) (λ u behind g.
    then_given _ _ _ (optional_sound is_semicolon text room d.inner s.inner behind) (λ e more b. then_given _ _ _ (accepts is_semicolon more) (λ v last h.
    then_given _ _ _ (update_sound is_right_paren text room d.inner s.inner last) (λ update closing c. then_given _ _ _ (accepts is_right_paren closing) (λ q inside k.
    then_given _ _ _ (s.stmt inside) (λ body end r. given _ _ (record {
      pre = t ∷ p ∷ (a.0 ++ u ∷ (b.0 ++ v ∷ (c.0 ++ q ∷ r.pre)));
      dangling = r.dangling;
      parts = same ∙ ap (λ x. t ∷ p ∷ x) (behind_token a.0 (b.0 ++ v ∷ (c.0 ++ q ∷ r.pre)) ts behind end u (a.1 ∙ ap (λ x. a.0 ++ x) g.0)
          (behind_token b.0 (c.0 ++ q ∷ r.pre) behind last end v (b.1 ∙ ap (λ x. b.0 ++ x) h.0)
          (behind_token c.0 r.pre last inside end q (c.1 ∙ ap (λ x. c.0 ++ x) k.0) r.parts)));
      holds = IsStmt.for_do t p u v q word opens a.2 (semicolon u.kind g.1) b.2 (semicolon v.kind h.1) c.2 (right_paren q.kind k.1) r.holds;
      ends = r.ends;
    }))))))))

pub for_sound : (text : List ℕ) (room : ℕ) (d : Deeper) → IsDeeperSound text room d → (t : Token) → t.kind ≡ token.For → (ts : List Token) →
    Gives (StmtFront text (suc room) (t ∷ ts)) (for_read text t d ts)
for_sound text room d s t word ts =
    then_given _ _ _ (accepts is_left_paren ts) (λ p rest g. choose (is_for_each rest) _ _
    (λ a. for_each_sound text room d s t p word (left_paren p.kind g.1) (t ∷ ts) rest (ap (λ x. t ∷ x) g.0))
    (λ a. for_parts_sound text room d s t p word (left_paren p.kind g.1) (t ∷ ts) rest (ap (λ x. t ∷ x) g.0)))

-- ---- switches and catches

pub switch_sound : (text : List ℕ) (room : ℕ) (d : Deeper) → IsDeeperSound text room d → (t : Token) → t.kind ≡ token.Switch → (ts : List Token) →
    Gives (StmtFront text (suc room) (t ∷ ts)) (switch_read t d ts)
switch_sound text room d s t word ts =
    then_given _ _ _ (condition_sound text room d.inner s.inner ts) (λ e rest c. then_given _ _ _ (accepts is_left_brace rest) (λ p behind g.
    then_given _ _ _ (s.groups behind) (λ groups more h. then_given _ _ _ (accepts is_right_brace more) (λ q end k. given _ _ (
    closed (t ∷ (c.0 ++ p ∷ (h.0 ++ q ∷ [])))
    (ap (λ x. t ∷ x) (behind_token c.0 (h.0 ++ q ∷ []) ts behind end p (c.1 ∙ ap (λ x. c.0 ++ x) g.0)
    (with_last h.0 behind end q (h.1 ∙ ap (λ x. h.0 ++ x) k.0))))
    (IsStmt.switch t p q word c.2 (left_brace p.kind g.1) h.2 (right_brace q.kind k.1)))))))

catches_sound : (most : ℕ) (text : List ℕ) (room : ℕ) (deeper : Option Deeper) → AreDeeperSound text room deeper → (ts : List Token) →
    Gives (λ cs rest. Front (λ pre. AreCatches text room pre cs) ts rest) (catches most text deeper ts)
unfolding catches
catches_sound zero text room deeper s ts = nothing
catches_sound (suc most) text room deeper s ts =
    choose (sees is_catch ts) _ _
    (λ a. then_given _ _ _ (accepts is_catch ts) (λ t rest g. then_given _ _ _ (accepts is_left_paren rest) (λ p behind h.
    let f = final_sound behind in
    then_given _ _ _ (accepts is_identifier (final_read behind).1) (λ c more k. then_given _ _ _ (accepts is_identifier more) (λ n closing l.
    then_given _ _ _ (accepts is_right_paren closing) (λ q braces m. then_given _ _ _ (block_sound text room deeper s braces) (λ inside next b.
    then_given _ _ _ (catches_sound most text room deeper s next) (λ others end r. given _ _ (
      t ∷ p ∷ (f.0 ++ c ∷ n ∷ q ∷ (b.0 ++ r.0)),
      g.0 ∙ ap (λ x. t ∷ x) (h.0 ∙ ap (λ x. p ∷ x) (behind_token f.0 (n ∷ q ∷ (b.0 ++ r.0)) behind more end c (f.1 ∙ ap (λ x. f.0 ++ x) k.0)
          (l.0 ∙ ap (λ x. n ∷ x) (m.0 ∙ ap (λ x. q ∷ x) (behind_front b.0 r.0 braces next end b.1 r.1))))),
      AreCatches.one_more_catch t p c n q (catch_word t.kind g.1) (left_paren p.kind h.1) f.2 (identifier c.kind k.1) (identifier n.kind l.1)
          (right_paren q.kind m.1) b.2 r.2,
    )))))))))
    (λ a. given _ _ ([], refl, AreCatches.no_catches))

pub try_sound : (text : List ℕ) (room : ℕ) (deeper : Option Deeper) → AreDeeperSound text room deeper → (t : Token) → t.kind ≡ token.Try → (ts : List Token) →
    Gives (StmtFront text room (t ∷ ts)) (try_read text deeper t ts)
try_sound text room deeper s t word ts =
    then_given _ _ _ (block_sound text room deeper s ts) (λ inside rest b.
    then_given _ _ _ (catches_sound (suc (length rest)) text room deeper s rest) (elim [
      | [] ↦ λ end c. nothing
      | one ∷ more ↦ λ end c. given _ _ (
          closed (t ∷ (b.0 ++ c.0)) (ap (λ x. t ∷ x) (behind_front b.0 c.0 ts rest end b.1 c.1)) (IsStmt.try_block t word b.2 c.2 (λ a. cc)))
    ]))
