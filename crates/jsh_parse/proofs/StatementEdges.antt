-- What stands at the edges of statements, of labels and of groups, as the steps of reading ask it.
use Rattle.std.proofs.Common.{◌≡◌, ℕ, ◌<◌, Bool, true, false, List, [], ◌∷◌, ◌++◌, length, refl, arith, append_assoc, length-append}
use Rattle.jsh_tree.specs.declared.token.Token.{Token}
use Rattle.jsh_tree.specs.declared.token.TokenKind.{TokenKind}
use Rattle.jsh_tree.specs.declared.token.TokenKind.TheVariants as token
use Rattle.jsh_tree.specs.declared.statement.Stmt.{Stmt}
use Rattle.jsh_tree.specs.declared.statement.Block.{Block}
use Rattle.jsh_tree.specs.declared.statement.BlockStatement.{BlockStatement}
use Rattle.jsh_tree.specs.declared.statement.SwitchGroup.{SwitchGroup}
use Rattle.jsh_tree.specs.declared.statement.SwitchLabel.{SwitchLabel}
use Rattle.jsh_parse.specs.Forms.{begins_label, ends_statements}
use Rattle.jsh_parse.specs.Statements as grammar
use Rattle.jsh_parse.specs.Statements.{IsLabel, AreLabels, IsStmt, IsBlock, AreStatements, AreGroups}
use Rattle.jsh_parse.specs.Reader.{sees}
use Rattle.jsh_parse.specs.StatementReader.{begins_local}
use Rattle.jsh_parse.proofs.Fronts.{front-expr}
use Rattle.jsh_parse.proofs.Edges.{Opened}
use Rattle.jsh_parse.proofs.StatementFronts.{Begins, Ended, Clear, no_end-no_label, begins-append, front-begins, opened-begins, begins-clear, ended-clear, expression-no_local, declaration-begins}

-- ---- statements

pub block-opened : {text : List ℕ} {room : ℕ} {ts : List Token} {b : Block} → IsBlock text room ts b → Opened ts
block-opened (grammar.braces t u h d hu) = h

pub stmt-begins : {text : List ℕ} {room : ℕ} {dangling : Bool} {ts : List Token} {s : Stmt} → IsStmt text room dangling ts s → Begins ts
stmt-begins (grammar.block {ts = ts} d) = opened-begins ts (block-opened d)
stmt-begins (grammar.empty t h) = rw h (refl, refl, refl)
stmt-begins (grammar.expression {l = l} u d may hu) = begins-append l (u ∷ []) (front-begins l (front-expr d))
stmt-begins (grammar.if_alone t h c d) = rw h (refl, refl, refl)
stmt-begins (grammar.if_else t u h c d hu other) = rw h (refl, refl, refl)
stmt-begins (grammar.while_do t h c d) = rw h (refl, refl, refl)
stmt-begins (grammar.do_while t w u h d hw c hu) = rw h (refl, refl, refl)
stmt-begins (grammar.for_do t p u v q h hp da hu db hv dc hq d) = rw h (refl, refl, refl)
stmt-begins (grammar.for_each t p n u q h hp modifier written hn hu da hq d) = rw h (refl, refl, refl)
stmt-begins (grammar.for_each_inferred t p v n u q h hp modifier hv hn hu da hq d) = rw h (refl, refl, refl)
stmt-begins (grammar.switch t p q h c hp d hq) = rw h (refl, refl, refl)
stmt-begins (grammar.break_off t u h hu) = rw h (refl, refl, refl)
stmt-begins (grammar.continue_on t u h hu) = rw h (refl, refl, refl)
stmt-begins (grammar.return_from t u h d hu) = rw h (refl, refl, refl)
stmt-begins (grammar.throw_up t u h d hu) = rw h (refl, refl, refl)
stmt-begins (grammar.try_block t h d dc some) = rw h (refl, refl, refl)

opened-no_local : (ts more : List Token) → Opened ts → begins_local (ts ++ more) ≡ false
opened-no_local [] more o = absurd o
opened-no_local (t ∷ ts) more o = rw o refl

pub stmt-no_local : {text : List ℕ} {room : ℕ} {dangling : Bool} {ts : List Token} {s : Stmt} → IsStmt text room dangling ts s →
    (more : List Token) → begins_local (ts ++ more) ≡ false
stmt-no_local (grammar.block {ts = ts} d) more = opened-no_local ts more (block-opened d)
stmt-no_local (grammar.empty t h) more = rw h refl
stmt-no_local (grammar.expression {l = l} u d may hu) more = rw (append_assoc l (u ∷ []) more) (expression-no_local l (u ∷ more) (front-expr d) (rw hu (omega arith)))
stmt-no_local (grammar.if_alone t h c d) more = rw h refl
stmt-no_local (grammar.if_else t u h c d hu other) more = rw h refl
stmt-no_local (grammar.while_do t h c d) more = rw h refl
stmt-no_local (grammar.do_while t w u h d hw c hu) more = rw h refl
stmt-no_local (grammar.for_do t p u v q h hp da hu db hv dc hq d) more = rw h refl
stmt-no_local (grammar.for_each t p n u q h hp modifier written hn hu da hq d) more = rw h refl
stmt-no_local (grammar.for_each_inferred t p v n u q h hp modifier hv hn hu da hq d) more = rw h refl
stmt-no_local (grammar.switch t p q h c hp d hq) more = rw h refl
stmt-no_local (grammar.break_off t u h hu) more = rw h refl
stmt-no_local (grammar.continue_on t u h hu) more = rw h refl
stmt-no_local (grammar.return_from t u h d hu) more = rw h refl
stmt-no_local (grammar.throw_up t u h d hu) more = rw h refl
stmt-no_local (grammar.try_block t h d dc some) more = rw h refl

-- ---- statements of a block, and groups

pub statements-clear : {text : List ℕ} {room : ℕ} {ts : List Token} {ss : List BlockStatement} → AreStatements text room ts ss → (dangling : Bool) (rest : List Token) →
    Ended rest → Clear dangling (ts ++ rest)
statements-clear grammar.no_statements dangling rest e = ended-clear dangling rest e
statements-clear (grammar.one_more_local {f = f} {l = l} {r = r} u modifier d hu ds) dangling rest e =
    let begins = declaration-begins modifier d (u ∷ r) in
    begins-clear dangling ((f ++ (l ++ u ∷ r)) ++ rest) (begins-append (f ++ (l ++ u ∷ r)) rest begins)
statements-clear (grammar.one_more_statement {l = l} {r = r} d ds) dangling rest e =
    begins-clear dangling ((l ++ r) ++ rest) (begins-append (l ++ r) rest (begins-append l r (stmt-begins d)))

label-begins : {text : List ℕ} {ts : List Token} {l : SwitchLabel} → IsLabel text ts l → (more : List Token) → sees begins_label (ts ++ more) ≡ true
label-begins (grammar.case_of c l u hc hl is hu) more = rw hc refl
label-begins (grammar.case_of_negative c m l u hc hm hl is hu) more = rw hc refl
label-begins (grammar.default d u hd hu) more = rw hd refl

pub label-length : {text : List ℕ} {ts : List Token} {l : SwitchLabel} → IsLabel text ts l → 0 < length ts
label-length (grammar.case_of c l u hc hl is hu) = omega arith
label-length (grammar.case_of_negative c m l u hc hm hl is hu) = omega arith
label-length (grammar.default d u hd hu) = omega arith

pub labels-begin : {text : List ℕ} {ts : List Token} {ls : List SwitchLabel} → AreLabels text ts ls → (more : List Token) → sees begins_label (ts ++ more) ≡ true
labels-begin (grammar.last_label d) more = label-begins d more
labels-begin (grammar.one_more_label {a = a} {b = b} d ds) more = rw (append_assoc a b more) (label-begins d (b ++ more))

pub labels-length : {text : List ℕ} {ts : List Token} {ls : List SwitchLabel} → AreLabels text ts ls → 0 < length ts
labels-length (grammar.last_label d) = label-length d
labels-length (grammar.one_more_label {a = a} {b = b} d ds) = omega (arith, length-append a b, label-length d)

label-end : (k : TokenKind) → begins_label k ≡ true → ends_statements k ≡ true
label-end token.Case b = refl
label-end token.Default b = refl
label-end _ b = cc

labels-end : (ts : List Token) → sees begins_label ts ≡ true → Ended ts
labels-end [] b = tt
labels-end (t ∷ ts) b = label-end t.kind b

-- statements end where the labels of a group begin, or where a brace closes the groups
pub groups-end : {text : List ℕ} {room : ℕ} {ts : List Token} {gs : List SwitchGroup} → AreGroups text room ts gs → (u : Token) → u.kind ≡ token.RightBrace →
    (rest : List Token) → Ended (ts ++ u ∷ rest)
groups-end grammar.no_groups u hu rest = rw hu refl
groups-end (grammar.one_more_group {a = a} {b = b} {r = r} dl ds last dg) u hu rest =
    labels-end ((a ++ (b ++ r)) ++ u ∷ rest) (rw (append_assoc a (b ++ r) (u ∷ rest)) (labels-begin dl ((b ++ r) ++ u ∷ rest)))

begins-no_label : (ts more : List Token) → Begins ts → sees begins_label (ts ++ more) ≡ false
begins-no_label [] more b = absurd b
begins-no_label (t ∷ ts) more b = no_end-no_label t.kind b.0

no_groups-no_label : {text : List ℕ} {room : ℕ} {ts : List Token} {gs : List SwitchGroup} → AreGroups text room ts gs → gs ≡ [] → (u : Token) → u.kind ≡ token.RightBrace →
    (rest : List Token) → sees begins_label (ts ++ u ∷ rest) ≡ false
no_groups-no_label grammar.no_groups none u hu rest = rw hu refl
no_groups-no_label (grammar.one_more_group dl ds last dg) none u hu rest = cc

-- behind the labels of a group stand no others
pub group-no_label : {text : List ℕ} {room : ℕ} {b r : List Token} {ss : List BlockStatement} {gs : List SwitchGroup} → AreStatements text room b ss → (ss ≡ [] → gs ≡ []) →
    AreGroups text room r gs → (u : Token) → u.kind ≡ token.RightBrace → (rest : List Token) → sees begins_label (b ++ (r ++ u ∷ rest)) ≡ false
group-no_label grammar.no_statements last dg u hu rest = no_groups-no_label dg (last refl) u hu rest
group-no_label {r = r} (grammar.one_more_local {f = f} {l = l} {r = more} v modifier d hv ds) last dg u hu rest =
    begins-no_label (f ++ (l ++ v ∷ more)) (r ++ u ∷ rest) (declaration-begins modifier d (v ∷ more))
group-no_label {r = r} (grammar.one_more_statement {l = l} {r = more} d ds) last dg u hu rest =
    begins-no_label (l ++ more) (r ++ u ∷ rest) (begins-append l more (stmt-begins d))
