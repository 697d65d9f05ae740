-- What the grammar of statements spells is in the table.
use Rattle.std.proofs.Common.{◌≡◌, ◌≢◌, ℕ, suc, Bool, true, false, inl, inr, ◌⊎◌, List, [], ◌∷◌, ◌++◌, Option, refl, sym, ap, ◌∙◌, subst, append_assoc}
use Rattle.jsh_tree.specs.declared.token.Token.{Token}
use Rattle.jsh_tree.specs.declared.token.TokenKind.{TokenKind}
use Rattle.jsh_tree.specs.declared.token.TokenKind.TheVariants as token
use Rattle.jsh_tree.specs.declared.expression.Expr.{Expr}
use Rattle.jsh_tree.specs.declared.statement.Stmt.{Stmt}
use Rattle.jsh_tree.specs.declared.statement.Block.{Block}
use Rattle.jsh_tree.specs.declared.statement.BlockStatement.{BlockStatement}
use Rattle.jsh_tree.specs.declared.statement.SwitchGroup.{SwitchGroup}
use Rattle.jsh_tree.specs.declared.statement.SwitchLabel.{SwitchLabel}
use Rattle.jsh_tree.specs.declared.statement.CatchClause.{CatchClause}
use Rattle.jsh_tree.specs.declared.statement.Variable.{Variable}
use Rattle.jsh_tree.specs.declared.statement.ForStart.{ForStart}
use Rattle.jsh_grammar.specs.Classes as class
use Rattle.jsh_grammar.specs.Productions as table
use Rattle.jsh_parse.specs.Statements as grammar
use Rattle.jsh_parse.specs.Statements.{IsFinal, IsVariable, IsOptional, IsUpdate, IsForStart, IsLabel, AreLabels, IsCondition, IsStmt, IsBlock, AreStatements, AreGroups, AreCatches}
use Rattle.jsh_parse.proofs.TableSymbols.{none, among, in_part, in_deep, Whole, produced, at_last, IsDeeper, deeper, then_deeper, deeper_last, deep_last}
use Rattle.jsh_parse.proofs.TableDerived.{one_of, type_use_derived, expr_derived, initial_derived}
use Rattle.jsh_parse.proofs.StatementTableExpressions.{expression_statement}

-- ---- variables, conditions and the parts of a `for`

pub variable_derived : {text : List ℕ} {room : ℕ} {ts : List Token} {v : Variable} → IsVariable text room ts v → Whole table.variable room ts
variable_derived (grammar.inferred v n t hv hn ht d) = produced table.of_inferred (one_of v hv (one_of n hn (one_of t ht (at_last (expr_derived d)))))
variable_derived (grammar.bare n d hn) = produced table.of_bare (in_part (type_use_derived d) (one_of n hn none))
variable_derived (grammar.initialized n t d hn ht dv) =
    produced table.of_initialized (in_part (type_use_derived d) (one_of n hn (one_of t ht (at_last (initial_derived dv)))))

optional_derived : {text : List ℕ} {room : ℕ} {ts : List Token} {e : Option Expr} → IsOptional text room ts e → Whole table.optional room ts
optional_derived grammar.absent = produced table.not_there none
optional_derived (grammar.present d) = produced table.there (at_last (expr_derived d))

update_derived : {text : List ℕ} {room : ℕ} {ts : List Token} {e : Option Expr} → IsUpdate text room ts e → Whole table.update room ts
update_derived grammar.no_update = produced table.no_update none
update_derived (grammar.update d may) = produced table.of_update (at_last (expression_statement d may))

local_start_derived : {room : ℕ} {is_final : Bool} {f l : List Token} → IsFinal f is_final → Whole table.variable room l → Whole table.for_start room (f ++ l)
local_start_derived grammar.not_final is = produced table.of_local_start (at_last is)
local_start_derived (grammar.final t h) is = produced table.of_final_start (one_of t h (at_last is))

start_derived : {text : List ℕ} {room : ℕ} {ts : List Token} {s : ForStart} → IsForStart text room ts s → Whole table.for_start room ts
start_derived grammar.nothing = produced table.no_start none
start_derived (grammar.local modifier d) = local_start_derived modifier (variable_derived d)
start_derived (grammar.expression d may) = produced table.of_expression_start (at_last (expression_statement d may))

condition_derived : {text : List ℕ} {room : ℕ} {ts : List Token} {e : Expr} → IsCondition text room ts e → IsDeeper table.parenthesized room ts
condition_derived (grammar.condition t u h d hu) = deeper (produced table.in_parentheses (one_of t h (in_part (expr_derived d) (one_of u hu none))))

for_head_derived : {room : ℕ} {a b c : List Token} (p u v q : Token) → p.kind ≡ token.LeftParen → Whole table.for_start room a → u.kind ≡ token.Semicolon →
    Whole table.optional room b → v.kind ≡ token.Semicolon → Whole table.update room c → q.kind ≡ token.RightParen →
    Whole table.for_head room (p ∷ (a ++ u ∷ (b ++ v ∷ (c ++ q ∷ []))))
for_head_derived p u v q hp first hu second hv third hq =
    produced table.of_for_parts (one_of p hp (in_part first (one_of u hu (in_part second (one_of v hv (in_part third (one_of q hq none)))))))

each_head_derived : {room : ℕ} {is_final : Bool} {f l a : List Token} (p n u q : Token) → p.kind ≡ token.LeftParen → IsFinal f is_final →
    Whole table.type_use room l → n.kind ≡ token.Identifier → u.kind ≡ token.Colon → Whole table.expression room a → q.kind ≡ token.RightParen →
    Whole table.each_head room (p ∷ (f ++ (l ++ n ∷ u ∷ (a ++ q ∷ []))))
each_head_derived p n u q hp grammar.not_final written hn hu array hq =
    produced table.of_each (one_of p hp (in_part written (one_of n hn (one_of u hu (in_part array (one_of q hq none))))))
each_head_derived p n u q hp (grammar.final t h) written hn hu array hq =
    produced table.of_final_each (one_of p hp (one_of t h (in_part written (one_of n hn (one_of u hu (in_part array (one_of q hq none)))))))

inferred_head_derived : {room : ℕ} {is_final : Bool} {f a : List Token} (p v n u q : Token) → p.kind ≡ token.LeftParen → IsFinal f is_final →
    v.kind ≡ token.Var → n.kind ≡ token.Identifier → u.kind ≡ token.Colon → Whole table.expression room a → q.kind ≡ token.RightParen →
    Whole table.each_head room (p ∷ (f ++ v ∷ n ∷ u ∷ (a ++ q ∷ [])))
inferred_head_derived p v n u q hp grammar.not_final hv hn hu array hq =
    produced table.of_inferred_each (one_of p hp (one_of v hv (one_of n hn (one_of u hu (in_part array (one_of q hq none))))))
inferred_head_derived p v n u q hp (grammar.final t h) hv hn hu array hq =
    produced table.of_final_inferred_each (one_of p hp (one_of t h (one_of v hv (one_of n hn (one_of u hu (in_part array (one_of q hq none)))))))

-- ---- labels

case_kind : (k : TokenKind) → (k ≡ token.IntLiteral) ⊎ (k ≡ token.CharLiteral) → class.is_case_value k ≡ true
case_kind k (inl h) = rw h refl
case_kind k (inr h) = rw h refl

label_derived : {text : List ℕ} {room : ℕ} {ts : List Token} {l : SwitchLabel} → IsLabel text ts l → Whole table.label room ts
label_derived (grammar.case_of c l u hc hl is hu) = produced table.of_case (one_of c hc (among l (case_kind l.kind hl) tt (one_of u hu none)))
label_derived (grammar.case_of_negative c m l u hc hm hl is hu) =
    produced table.of_negative_case (one_of c hc (one_of m hm (among l (case_kind l.kind hl) tt (one_of u hu none))))
label_derived (grammar.default d u hd hu) = produced table.of_default (one_of d hd (one_of u hu none))

labels_derived : {text : List ℕ} {room : ℕ} {ts : List Token} {ls : List SwitchLabel} → AreLabels text ts ls → Whole table.labels room ts
labels_derived (grammar.last_label d) = produced table.last_label (at_last (label_derived d))
labels_derived (grammar.one_more_label d ds) = produced table.one_more_label (in_part (label_derived d) (at_last (labels_derived ds)))

-- ---- what statements are made of

-- a statement, and one that an `else` may follow, if it doesn't end in an `if` without one
abbrev IsThere : ℕ → Bool → List Token → Type 0
IsThere room dangling ts = Whole table.statement room ts × (dangling ≡ false → Whole table.closed_statement room ts)

closing : {room : ℕ} {dangling : Bool} {ts : List Token} → Whole table.closed_statement room ts → IsThere room dangling ts
closing is = (produced table.of_closed (at_last is), λ e. is)

if_alone_derived : {room : ℕ} {c s : List Token} (t : Token) → t.kind ≡ token.If → IsDeeper table.parenthesized (suc room) c → Whole table.statement room s →
    IsThere (suc room) true (t ∷ (c ++ s))
if_alone_derived t h condition is = (produced table.of_if (one_of t h (then_deeper condition (deep_last is))), λ e. cc)

if_else_derived : {room : ℕ} {dangling : Bool} {c s r : List Token} (t u : Token) → t.kind ≡ token.If → IsDeeper table.parenthesized (suc room) c →
    Whole table.closed_statement room s → u.kind ≡ token.Else → IsThere room dangling r → IsThere (suc room) dangling (t ∷ (c ++ (s ++ u ∷ r)))
if_else_derived t u h condition first hu other = (
  produced table.of_if_else (one_of t h (then_deeper condition (in_deep first (one_of u hu (deep_last other.0))))),
  λ e. produced table.of_closed_if_else (one_of t h (then_deeper condition (in_deep first (one_of u hu (deep_last (other.1 e)))))),
)

while_derived : {room : ℕ} {dangling : Bool} {c s : List Token} (t : Token) → t.kind ≡ token.While → IsDeeper table.parenthesized (suc room) c →
    IsThere room dangling s → IsThere (suc room) dangling (t ∷ (c ++ s))
while_derived t h condition body = (
  produced table.of_while (one_of t h (then_deeper condition (deep_last body.0))),
  λ e. produced table.of_closed_while (one_of t h (then_deeper condition (deep_last (body.1 e)))),
)

do_derived : {room : ℕ} {dangling : Bool} {s c : List Token} (t w u : Token) → t.kind ≡ token.Do → Whole table.statement room s → w.kind ≡ token.While →
    IsDeeper table.parenthesized (suc room) c → u.kind ≡ token.Semicolon → IsThere (suc room) dangling (t ∷ (s ++ w ∷ (c ++ u ∷ [])))
do_derived t w u h body hw condition hu =
    closing (produced table.of_do (one_of t h (in_deep body (one_of w hw (then_deeper condition (one_of u hu none))))))

-- a token and more behind the first of two lists
behind : (a : List Token) (u : Token) (b s r : List Token) → b ++ s ≡ r → (a ++ u ∷ b) ++ s ≡ a ++ u ∷ r
behind a u b s r same = append_assoc a (u ∷ b) s ∙ ap (λ x. a ++ u ∷ x) same

for_derived : {room : ℕ} {dangling : Bool} {h s : List Token} (t : Token) → t.kind ≡ token.For → Whole table.for_head room h → IsThere room dangling s →
    IsThere (suc room) dangling (t ∷ (h ++ s))
for_derived t h head body = (
  produced table.of_for (one_of t h (in_deep head (deep_last body.0))),
  λ e. produced table.of_closed_for (one_of t h (in_deep head (deep_last (body.1 e)))),
)

each_derived : {room : ℕ} {dangling : Bool} {h s : List Token} (t : Token) → t.kind ≡ token.For → Whole table.each_head room h → IsThere room dangling s →
    IsThere (suc room) dangling (t ∷ (h ++ s))
each_derived t h head body = (
  produced table.of_for_each (one_of t h (in_deep head (deep_last body.0))),
  λ e. produced table.of_closed_for_each (one_of t h (in_deep head (deep_last (body.1 e)))),
)

switch_derived : {room : ℕ} {dangling : Bool} {c g : List Token} (t p q : Token) → t.kind ≡ token.Switch → IsDeeper table.parenthesized (suc room) c →
    p.kind ≡ token.LeftBrace → Whole table.groups room g → q.kind ≡ token.RightBrace → IsThere (suc room) dangling (t ∷ (c ++ p ∷ (g ++ q ∷ [])))
switch_derived t p q h condition hp groups hq =
    closing (produced table.of_switch (one_of t h (then_deeper condition (deep_last (produced table.of_groups (one_of p hp (in_part groups (one_of q hq none))))))))

-- a local variable up to its semicolon
local_derived : {room : ℕ} {is_final : Bool} {f l : List Token} (u : Token) → IsFinal f is_final → Whole table.variable room l → u.kind ≡ token.Semicolon →
    Whole table.block_statement room (f ++ (l ++ u ∷ []))
local_derived u grammar.not_final is hu = produced table.of_local (in_part is (one_of u hu none))
local_derived u (grammar.final t h) is hu = produced table.of_final_local (one_of t h (in_part is (one_of u hu none)))

-- where there is a first statement, what begins with it
record FirstOf (room : ℕ) (ts : List Token) : Type 0 where
  front : List Token
  back : List Token
  parts : ts ≡ front ++ back
  first : Whole table.block_statement room front
  others : Whole table.statements room back

first_local : {text : List ℕ} {room : ℕ} {is_final : Bool} {f l r : List Token} {v : Variable} (u : Token) → IsFinal f is_final →
    IsVariable text room l v → u.kind ≡ token.Semicolon → Whole table.statements room r → FirstOf room (f ++ (l ++ u ∷ r))
first_local {f = f} {l = l} {r = r} u modifier d hu more = record {
  front = f ++ (l ++ u ∷ []);
  back = r;
  parts = sym (append_assoc f (l ++ u ∷ []) r ∙ ap (λ x. f ++ x) (append_assoc l (u ∷ []) r));
  first = local_derived u modifier (variable_derived d) hu;
  others = more;
}

first_statement : {room : ℕ} {l r : List Token} → Whole table.statement room l → Whole table.statements room r → FirstOf room (l ++ r)
first_statement {l = l} {r = r} is more =
    record { front = l; back = r; parts = refl; first = produced table.of_statement (at_last is); others = more }

statements_again : {room : ℕ} {ts : List Token} → FirstOf room ts → Whole table.statements room ts
statements_again {room = room} of =
    subst (λ (ts : List Token). Whole table.statements room ts) (sym of.parts) (produced table.one_more_statement (in_part of.first (at_last of.others)))

no_statement_left : {text : List ℕ} {room : ℕ} {ts : List Token} {inside : List BlockStatement} → AreStatements text room ts inside → inside ≡ [] → ts ≡ []
no_statement_left grammar.no_statements e = refl
no_statement_left (grammar.one_more_local u modifier d hu ds) e = cc
no_statement_left (grammar.one_more_statement d ds) e = cc

no_group_left : {text : List ℕ} {room : ℕ} {ts : List Token} {groups : List SwitchGroup} → AreGroups text room ts groups → groups ≡ [] → ts ≡ []
no_group_left grammar.no_groups e = refl
no_group_left (grammar.one_more_group ls d ends ds) e = cc

no_catch_left : {text : List ℕ} {room : ℕ} {ts : List Token} {catches : List CatchClause} → AreCatches text room ts catches → catches ≡ [] → ts ≡ []
no_catch_left grammar.no_catches e = refl
no_catch_left (grammar.one_more_catch t p c n q h hp modifier hc hn hq d ds) e = cc

-- labels alone are the last group
group_derived : {room : ℕ} {a b r : List Token} (inside : List BlockStatement) → Whole table.labels room a → (inside ≡ [] → b ≡ []) →
    (inside ≡ [] → r ≡ []) → (inside ≢ [] → FirstOf room b) → Whole table.groups room r → Whole table.groups room (a ++ (b ++ r))
group_derived {room = room} {a = a} {r = r} [] labels no_inside no_more first more =
    subst (λ (b : List Token). Whole table.groups room (a ++ b)) (sym (ap (λ b. b ++ r) (no_inside refl) ∙ no_more refl))
    (produced table.last_group (in_part labels none))
group_derived {room = room} {a = a} {r = r} (s ∷ inside) labels no_inside no_more first more =
    let of = first (λ c. cc) in
    subst (λ (b : List Token). Whole table.groups room (a ++ b)) (sym (ap (λ b. b ++ r) of.parts ∙ append_assoc of.front of.back r))
    (produced table.one_more_group (in_part labels (in_part of.first (in_part of.others (at_last more)))))

last_catch_derived : {room : ℕ} {is_final : Bool} {f b : List Token} (t p c n q : Token) → t.kind ≡ token.Catch → p.kind ≡ token.LeftParen →
    IsFinal f is_final → c.kind ≡ token.Identifier → n.kind ≡ token.Identifier → q.kind ≡ token.RightParen → IsDeeper table.block room b →
    Whole table.catches room (t ∷ p ∷ (f ++ c ∷ n ∷ q ∷ (b ++ [])))
last_catch_derived t p c n q h hp grammar.not_final hc hn hq is =
    produced table.last_catch (one_of t h (one_of p hp (one_of c hc (one_of n hn (one_of q hq (then_deeper is none))))))
last_catch_derived t p c n q h hp (grammar.final w hw) hc hn hq is =
    produced table.last_final_catch (one_of t h (one_of p hp (one_of w hw (one_of c hc (one_of n hn (one_of q hq (then_deeper is none)))))))

more_catches_derived : {room : ℕ} {is_final : Bool} {f b r : List Token} (t p c n q : Token) → t.kind ≡ token.Catch → p.kind ≡ token.LeftParen →
    IsFinal f is_final → c.kind ≡ token.Identifier → n.kind ≡ token.Identifier → q.kind ≡ token.RightParen → IsDeeper table.block room b →
    Whole table.catches room r → Whole table.catches room (t ∷ p ∷ (f ++ c ∷ n ∷ q ∷ (b ++ r)))
more_catches_derived t p c n q h hp grammar.not_final hc hn hq is more =
    produced table.one_more_catch (one_of t h (one_of p hp (one_of c hc (one_of n hn (one_of q hq (then_deeper is (at_last more)))))))
more_catches_derived t p c n q h hp (grammar.final w hw) hc hn hq is more =
    produced table.one_more_final_catch (one_of t h (one_of p hp (one_of w hw (one_of c hc (one_of n hn (one_of q hq (then_deeper is (at_last more))))))))

catch_derived : {room : ℕ} {is_final : Bool} {f b r : List Token} (rest : List CatchClause) (t p c n q : Token) → t.kind ≡ token.Catch →
    p.kind ≡ token.LeftParen → IsFinal f is_final → c.kind ≡ token.Identifier → n.kind ≡ token.Identifier → q.kind ≡ token.RightParen →
    IsDeeper table.block room b → (rest ≡ [] → r ≡ []) → (rest ≢ [] → Whole table.catches room r) →
    Whole table.catches room (t ∷ p ∷ (f ++ c ∷ n ∷ q ∷ (b ++ r)))
catch_derived {room = room} {f = f} {b = b} [] t p c n q h hp modifier hc hn hq is ends more =
    subst (λ (ts : List Token). Whole table.catches room (t ∷ p ∷ (f ++ c ∷ n ∷ q ∷ (b ++ ts)))) (sym (ends refl))
    (last_catch_derived t p c n q h hp modifier hc hn hq is)
catch_derived (clause ∷ rest) t p c n q h hp modifier hc hn hq is ends more =
    more_catches_derived t p c n q h hp modifier hc hn hq is (more (λ e. cc))

-- ---- the families of the grammar

mutual
  there : {text : List ℕ} {room : ℕ} {dangling : Bool} {ts : List Token} {s : Stmt} → IsStmt text room dangling ts s → IsThere room dangling ts
  there (grammar.block d) = closing (produced table.of_block (deeper_last (block_deeper d)))
  there (grammar.empty t h) = closing (produced table.of_nothing (one_of t h none))
  there (grammar.expression u d may hu) = closing (produced table.of_expression (in_part (expression_statement d may) (one_of u hu none)))
  there (grammar.if_alone t h dc d) = if_alone_derived t h (condition_derived dc) (there d).0
  there (grammar.if_else t u h dc d hu other) = if_else_derived t u h (condition_derived dc) ((there d).1 refl) hu (there other)
  there (grammar.while_do t h dc d) = while_derived t h (condition_derived dc) (there d)
  there (grammar.do_while t w u h d hw dc hu) = do_derived t w u h (there d).0 hw (condition_derived dc) hu
  there (grammar.for_do {room = room} {dangling = dangling} {a = a} {b = b} {c = c} {s = s} t p u v q h hp da hu db hv dc hq d) =
      subst (λ (ts : List Token). IsThere (suc room) dangling (t ∷ p ∷ ts))
      (behind a u (b ++ v ∷ (c ++ q ∷ [])) s _ (behind b v (c ++ q ∷ []) s _ (append_assoc c (q ∷ []) s)))
      (for_derived {h = p ∷ (a ++ u ∷ (b ++ v ∷ (c ++ q ∷ [])))} t h
      (for_head_derived p u v q hp (start_derived da) hu (optional_derived db) hv (update_derived dc) hq) (there d))
  there (grammar.for_each {room = room} {dangling = dangling} {f = f} {l = l} {a = a} {s = s} t p n u q h hp modifier written hn hu da hq d) =
      subst (λ (ts : List Token). IsThere (suc room) dangling (t ∷ p ∷ ts))
      (append_assoc f (l ++ n ∷ u ∷ (a ++ q ∷ [])) s
      ∙ ap (λ x. f ++ x) (behind l n (u ∷ (a ++ q ∷ [])) s _ (ap (λ x. u ∷ x) (append_assoc a (q ∷ []) s))))
      (each_derived {h = p ∷ (f ++ (l ++ n ∷ u ∷ (a ++ q ∷ [])))} t h
      (each_head_derived p n u q hp modifier (type_use_derived written) hn hu (expr_derived da) hq) (there d))
  there (grammar.for_each_inferred {room = room} {dangling = dangling} {f = f} {a = a} {s = s} t p v n u q h hp modifier hv hn hu da hq d) =
      subst (λ (ts : List Token). IsThere (suc room) dangling (t ∷ p ∷ ts))
      (behind f v (n ∷ u ∷ (a ++ q ∷ [])) s _ (ap (λ x. n ∷ u ∷ x) (append_assoc a (q ∷ []) s)))
      (each_derived {h = p ∷ (f ++ v ∷ n ∷ u ∷ (a ++ q ∷ []))} t h (inferred_head_derived p v n u q hp modifier hv hn hu (expr_derived da) hq) (there d))
  there (grammar.switch t p q h dc hp d hq) = switch_derived t p q h (condition_derived dc) hp (groups_derived d) hq
  there (grammar.break_off t u h hu) = closing (produced table.of_break (one_of t h (one_of u hu none)))
  there (grammar.continue_on t u h hu) = closing (produced table.of_continue (one_of t h (one_of u hu none)))
  there (grammar.return_from t u h d hu) = closing (produced table.of_return (one_of t h (in_part (optional_derived d) (one_of u hu none))))
  there (grammar.throw_up t u h d hu) = closing (produced table.of_throw (one_of t h (in_part (expr_derived d) (one_of u hu none))))
  there (grammar.try_block t h d ds some) = closing (produced table.of_try (one_of t h (then_deeper (block_deeper d) (at_last (catches_derived ds some)))))

  -- a block, which stands one deeper
  pub block_deeper : {text : List ℕ} {room : ℕ} {ts : List Token} {b : Block} → IsBlock text room ts b → IsDeeper table.block room ts
  block_deeper (grammar.braces t u h d hu) = deeper (produced table.of_statements (one_of t h (in_part (statements_derived d) (one_of u hu none))))

  pub statements_derived : {text : List ℕ} {room : ℕ} {ts : List Token} {inside : List BlockStatement} → AreStatements text room ts inside →
      Whole table.statements room ts
  statements_derived grammar.no_statements = produced table.no_statements none
  statements_derived (grammar.one_more_local u modifier d hu ds) =
      statements_again (first_local u modifier d hu (statements_derived ds))
  statements_derived (grammar.one_more_statement d ds) = statements_again (first_statement (there d).0 (statements_derived ds))

  first_derived : {text : List ℕ} {room : ℕ} {ts : List Token} {inside : List BlockStatement} → AreStatements text room ts inside → inside ≢ [] →
      FirstOf room ts
  first_derived grammar.no_statements some = absurd (some refl)
  first_derived (grammar.one_more_local u modifier d hu ds) some = first_local u modifier d hu (statements_derived ds)
  first_derived (grammar.one_more_statement d ds) some = first_statement (there d).0 (statements_derived ds)

  groups_derived : {text : List ℕ} {room : ℕ} {ts : List Token} {groups : List SwitchGroup} → AreGroups text room ts groups → Whole table.groups room ts
  groups_derived grammar.no_groups = produced table.no_groups none
  groups_derived (grammar.one_more_group {inside = inside} ls d ends ds) =
      group_derived inside (labels_derived ls) (no_statement_left d) (λ e. no_group_left ds (ends e)) (λ some. first_derived d some) (groups_derived ds)

  catches_derived : {text : List ℕ} {room : ℕ} {ts : List Token} {catches : List CatchClause} → AreCatches text room ts catches → catches ≢ [] →
      Whole table.catches room ts
  catches_derived grammar.no_catches some = absurd (some refl)
  catches_derived (grammar.one_more_catch {rest = rest} t p c n q h hp modifier hc hn hq d ds) some =
      catch_derived rest t p c n q h hp modifier hc hn hq (block_deeper d) (no_catch_left ds) (λ more. catches_derived ds more)

pub stmt_derived : {text : List ℕ} {room : ℕ} {dangling : Bool} {ts : List Token} {s : Stmt} → IsStmt text room dangling ts s → Whole table.statement room ts
stmt_derived d = (there d).0

-- a statement that an `else` may follow
pub closed_derived : {text : List ℕ} {room : ℕ} {ts : List Token} {s : Stmt} → IsStmt text room false ts s → Whole table.closed_statement room ts
closed_derived d = (there d).1 refl

pub block_derived : {text : List ℕ} {room : ℕ} {ts : List Token} {b : Block} → IsBlock text (suc room) ts b → Whole table.block room ts
block_derived (grammar.braces t u h d hu) = produced table.of_statements (one_of t h (in_part (statements_derived d) (one_of u hu none)))
