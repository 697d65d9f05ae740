-- The variables, conditions, parts of a `for` and labels that the reader takes are in the grammar.
use Rattle.std.proofs.Common.{◌≡◌, ℕ, zero, suc, Bool, true, false, if◌then◌else◌, List, [], ◌∷◌, ◌++◌, refl, ap, ◌∙◌}
use Rattle.jsh_tree.specs.declared.token.Token.{Token}
use Rattle.jsh_tree.specs.declared.token.TokenKind.{TokenKind}
use Rattle.jsh_tree.specs.declared.statement.Variable.{Variable}
use Rattle.jsh_parse.specs.Marks.{is_left_paren, is_right_paren, is_colon, is_identifier}
use Rattle.jsh_parse.specs.Leaves.{literal_of}
use Rattle.jsh_parse.specs.Forms.{is_semicolon, is_assign, is_final, is_var, is_case, is_default, is_minus, is_case_value, begins_label}
use Rattle.jsh_parse.specs.Statements.{first_span, is_statement, IsFinal, IsType, IsVariable, IsOptional, IsUpdate, IsForStart, IsLabel, AreLabels, IsCondition}
use Rattle.jsh_parse.specs.Reader.{sees, type_read, Inner}
use Rattle.jsh_parse.specs.StatementReader.{final_read, begins_local, variable_read, optional_read, update_read, start_read, condition_read, label_read, labels_read}
use Rattle.jsh_parse.proofs.Gives.{Gives, given, nothing, weaker_given, then_given, choose, by_option_at, accepts}
use Rattle.jsh_parse.proofs.MarkLemmas.{left_paren, right_paren, colon, identifier}
use Rattle.jsh_parse.proofs.FormLemmas.{assign, final_word, var_word, case_word, default_word, minus, case_value}
use Rattle.jsh_parse.proofs.SoundLists.{Front, IsSound, type_sound, initial_sound, behind_front, behind_token, with_last}

-- ---- variables

choose_final : (ts : List Token) (b : Bool) (x y : Bool × List Token) → (b ≡ true → Front (λ pre. IsFinal pre x.0) ts x.1) →
    (b ≡ false → Front (λ pre. IsFinal pre y.0) ts y.1) → Front (λ pre. IsFinal pre (if b then x else y).0) ts (if b then x else y).1
choose_final ts true x y f g = f refl
choose_final ts false x y f g = g refl

pub final_sound : (ts : List Token) → Front (λ pre. IsFinal pre (final_read ts).0) ts (final_read ts).1
final_sound [] = ([], refl, IsFinal.not_final)
final_sound (t ∷ ts) = choose_final (t ∷ ts) (is_final t.kind) (true, ts) (false, t ∷ ts)
    (λ a. (t ∷ [], refl, IsFinal.final t (final_word t.kind a)))
    (λ a. ([], refl, IsFinal.not_final))

pub written_sound : (text : List ℕ) (ts : List Token) → Gives (λ written rest. Front (λ pre. IsType text pre written) ts rest) (type_read text ts)
written_sound text ts =
    weaker_given _ _ (type_sound text ts) (λ written rest h. (h.word ∷ h.pairs, h.parts, rw h.same (IsType.named h.word h.names h.brackets)))

pub variable_sound : (text : List ℕ) (room : ℕ) (i : Inner) → IsSound text room i → (ts : List Token) →
    Gives (λ v rest. Front (λ pre. IsVariable text room pre v) ts rest) (variable_read text i ts)
variable_sound text room i s [] = nothing
variable_sound text room i s (t ∷ ts) =
    choose (is_var t.kind) _ _
    (λ a. then_given _ _ _ (accepts is_identifier ts) (λ n rest g. then_given _ _ _ (accepts is_assign rest) (λ q behind h.
    then_given _ _ _ (s.expr behind) (λ e end k. given _ _ (
      t ∷ n ∷ q ∷ k.0,
      ap (λ x. t ∷ x) (g.0 ∙ ap (λ x. n ∷ x) (h.0 ∙ ap (λ x. q ∷ x) k.1)),
      IsVariable.inferred t n q (var_word t.kind a) (identifier n.kind g.1) (assign q.kind h.1) k.2,
    )))))
    (λ a. then_given _ _ _ (written_sound text (t ∷ ts)) (λ written rest h. then_given _ _ _ (accepts is_identifier rest) (λ n behind g.
    choose (sees is_assign behind) _ _
    (λ b. then_given _ _ _ (accepts is_assign behind) (λ q more k. then_given _ _ _ (initial_sound text room i s more) (λ value end l. given _ _ (
      h.0 ++ n ∷ q ∷ l.0,
      behind_token h.0 (q ∷ l.0) (t ∷ ts) behind end n (h.1 ∙ ap (λ x. h.0 ++ x) g.0) (k.0 ∙ ap (λ x. q ∷ x) l.1),
      IsVariable.initialized n q h.2 (identifier n.kind g.1) (assign q.kind k.1) l.2,
    ))))
    (λ b. given _ _ (
      h.0 ++ n ∷ [],
      with_last h.0 (t ∷ ts) behind n (h.1 ∙ ap (λ x. h.0 ++ x) g.0),
      IsVariable.bare n h.2 (identifier n.kind g.1),
    )))))

-- a declaration has a token, so what follows doesn't change where it begins
pub declaration-first : {text : List ℕ} {room : ℕ} {f l : List Token} {is : Bool} {v : Variable} → IsFinal f is → IsVariable text room l v →
    (ts rest : List Token) → ts ≡ (f ++ l) ++ rest → first_span ts ≡ first_span (f ++ l)
declaration-first (IsFinal.final t h) d ts rest e = rw e refl
declaration-first IsFinal.not_final (IsVariable.inferred v n t a b c d) ts rest e = rw e refl
declaration-first IsFinal.not_final (IsVariable.bare n (IsType.named m h b) k) ts rest e = rw e refl
declaration-first IsFinal.not_final (IsVariable.initialized n t (IsType.named m h b) k q d) ts rest e = rw e refl

-- ---- expressions that may be missing

pub optional_sound : (ends : TokenKind → Bool) (text : List ℕ) (room : ℕ) (i : Inner) → IsSound text room i → (ts : List Token) →
    Gives (λ e rest. Front (λ pre. IsOptional text room pre e) ts rest) (optional_read ends i ts)
optional_sound ends text room i s ts =
    choose (sees ends ts) _ _
    (λ a. given _ _ ([], refl, IsOptional.absent))
    (λ a. then_given _ _ _ (s.expr ts) (λ e rest h. given _ _ (h.0, h.1, IsOptional.present h.2)))

pub update_sound : (ends : TokenKind → Bool) (text : List ℕ) (room : ℕ) (i : Inner) → IsSound text room i → (ts : List Token) →
    Gives (λ e rest. Front (λ pre. IsUpdate text room pre e) ts rest) (update_read ends i ts)
update_sound ends text room i s ts =
    choose (sees ends ts) _ _
    (λ a. given _ _ ([], refl, IsUpdate.no_update))
    (λ a. then_given _ _ _ (s.expr ts) (λ e rest h. choose (is_statement e) _ _
    (λ b. given _ _ (h.0, h.1, IsUpdate.update h.2 b))
    (λ b. nothing)))

pub start_sound : (text : List ℕ) (room : ℕ) (i : Inner) → IsSound text room i → (ts : List Token) →
    Gives (λ begins rest. Front (λ pre. IsForStart text room pre begins) ts rest) (start_read text i ts)
start_sound text room i s ts =
    choose (sees is_semicolon ts) _ _
    (λ a. given _ _ ([], refl, IsForStart.nothing))
    (λ a. choose (begins_local ts) _ _
    (λ b. let f = final_sound ts in
    then_given _ _ _ (variable_sound text room i s (final_read ts).1) (λ v rest h.
    let whole = behind_front f.0 h.0 ts (final_read ts).1 rest f.1 h.1 in
    given _ _ (f.0 ++ h.0, whole, rw (declaration-first f.2 h.2 ts rest whole) (IsForStart.local f.2 h.2))))
    (λ b. then_given _ _ _ (s.expr ts) (λ e rest h. choose (is_statement e) _ _
    (λ c. given _ _ (h.0, h.1, IsForStart.expression h.2 c))
    (λ c. nothing))))

pub condition_sound : (text : List ℕ) (room : ℕ) (i : Inner) → IsSound text room i → (ts : List Token) →
    Gives (λ e rest. Front (λ pre. IsCondition text (suc room) pre e) ts rest) (condition_read i ts)
condition_sound text room i s ts =
    then_given _ _ _ (accepts is_left_paren ts) (λ t rest g. then_given _ _ _ (s.expr rest) (λ e behind h.
    then_given _ _ _ (accepts is_right_paren behind) (λ u end k. given _ _ (
      t ∷ (h.0 ++ u ∷ []),
      g.0 ∙ ap (λ x. t ∷ x) (with_last h.0 rest end u (h.1 ∙ ap (λ x. h.0 ++ x) k.0)),
      IsCondition.condition t u (left_paren t.kind g.1) h.2 (right_paren u.kind k.1),
    ))))

-- ---- the labels of a `switch`

pub label_sound : (text : List ℕ) (ts : List Token) → Gives (λ l rest. Front (λ pre. IsLabel text pre l) ts rest) (label_read text ts)
label_sound text [] = nothing
label_sound text (t ∷ ts) =
    choose (is_default t.kind) _ _
    (λ a. then_given _ _ _ (accepts is_colon ts) (λ u end g. given _ _ (
      t ∷ u ∷ [],
      ap (λ x. t ∷ x) g.0,
      IsLabel.default t u (default_word t.kind a) (colon u.kind g.1),
    )))
    (λ a. choose (is_case t.kind) _ _
    (λ b. choose (sees is_minus ts) _ _
    (λ c. then_given _ _ _ (accepts is_minus ts) (λ m rest g. then_given _ _ _ (accepts is_case_value rest) (λ l behind h.
    by_option_at (literal_of text l) behind _ _ (λ d. nothing) (λ value d. then_given _ _ _ (accepts is_colon behind) (λ u end k. given _ _ (
      t ∷ m ∷ l ∷ u ∷ [],
      ap (λ x. t ∷ x) (g.0 ∙ ap (λ x. m ∷ x) (h.0 ∙ ap (λ x. l ∷ x) k.0)),
      IsLabel.case_of_negative t m l u (case_word t.kind b) (minus m.kind g.1) (case_value l.kind h.1) d (colon u.kind k.1),
    ))))))
    (λ c. then_given _ _ _ (accepts is_case_value ts) (λ l behind h.
    by_option_at (literal_of text l) behind _ _ (λ d. nothing) (λ value d. then_given _ _ _ (accepts is_colon behind) (λ u end k. given _ _ (
      t ∷ l ∷ u ∷ [],
      ap (λ x. t ∷ x) (h.0 ∙ ap (λ x. l ∷ x) k.0),
      IsLabel.case_of t l u (case_word t.kind b) (case_value l.kind h.1) d (colon u.kind k.1),
    ))))))
    (λ b. nothing))

-- behind the labels stands no other
pub labels_sound : (most : ℕ) (text : List ℕ) (ts : List Token) →
    Gives (λ ls rest. (pre : List Token) × (ts ≡ pre ++ rest) × AreLabels text pre ls × (sees begins_label rest ≡ false)) (labels_read most text ts)
unfolding labels_read
labels_sound zero text ts = nothing
labels_sound (suc most) text ts =
    then_given _ _ _ (label_sound text ts) (λ l rest h. choose (sees begins_label rest) _ _
    (λ a. then_given _ _ _ (labels_sound most text rest) (λ others end g. given _ _ (
      h.0 ++ g.0,
      behind_front h.0 g.0 ts rest end h.1 g.1,
      AreLabels.one_more_label h.2 g.2,
      g.3,
    )))
    (λ a. given _ _ (h.0, h.1, AreLabels.last_label h.2, a)))
