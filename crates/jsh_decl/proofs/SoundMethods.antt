-- The methods that the reader takes, and what they consist of, are in the grammar.
use Rattle.std.proofs.Common.{◌≡◌, ℕ, zero, suc, Bool, true, false, ◌&&◌, ◌||◌, List, [], ◌∷◌, ◌++◌, Some, length, refl, ap, ◌∙◌}
use Rattle.jsh_tree.specs.declared.token.Token.{Token}
use Rattle.jsh_tree.specs.declared.token.TokenKind.TheVariants as token
use Rattle.jsh_tree.specs.declared.expression.Expr.{Expr}
use Rattle.jsh_tree.specs.declared.declaration.ModifierUse.{ModifierUse}
use Rattle.jsh_parse.specs.Marks.{is_left_paren, is_right_paren, is_comma, is_this, is_super}
use Rattle.jsh_parse.specs.Grammar.{IsExpr, AreArguments}
use Rattle.jsh_parse.specs.Forms.{is_semicolon}
use Rattle.jsh_parse.specs.Statements.{IsVariable, IsBlock, AreStatements}
use Rattle.jsh_parse.specs.Reader.{sees, readers}
use Rattle.jsh_parse.specs.Reading.{below, expr_at, arguments_at}
use Rattle.jsh_parse.specs.StatementReader.{final_read}
use Rattle.jsh_parse.specs.StatementReading.{statements_below, stmt_at, block_at, statements_at, variable_at}
use Rattle.jsh_parse.proofs.Gives.{Gives, given, nothing, then_given, choose, accepts}
use Rattle.jsh_parse.proofs.MarkLemmas.{left_paren, right_paren, comma, this, super}
use Rattle.jsh_parse.proofs.FormLemmas.{semicolon}
use Rattle.jsh_parse.proofs.SoundLists.{Front, AreSound, arguments_sound, behind_front, behind_token, with_last, and_both}
use Rattle.jsh_parse.proofs.Sound.{expr_sound, readers_sound}
use Rattle.jsh_parse.proofs.StatementParts.{final_sound, written_sound, variable_sound}
use Rattle.jsh_parse.proofs.StatementForms.{StmtFront, AreDeeperSound, block_sound}
use Rattle.jsh_parse.proofs.StatementSound.{stmt_read_sound, statements_read_sound, statement_readers_sound}
use Rattle.jsh_decl.specs.Words.{is_void, is_throws}
use Rattle.jsh_decl.specs.Declarations.{IsParameter, AreParametersListed, AreParameters, IsResult, IsBody, IsMethod, IsFirstCall}
use Rattle.jsh_decl.specs.DeclarationReader.{parameter_read, parameters_listed_read, parameters_read, result_read, body_read, method_read, first_call_read}
use Rattle.jsh_decl.proofs.SoundWords.{void_word, throws_word}
use Rattle.jsh_decl.proofs.SoundNames.{then_name, names_behind_sound}

-- ---- what the parser of statements takes

-- what is taken one deeper is in the grammar
expressions_below : (text : List ℕ) (room : ℕ) → AreSound text room (below text room)
expressions_below text zero = tt
expressions_below text (suc room) = readers_sound text room

all_below : (text : List ℕ) (room : ℕ) → AreDeeperSound text room (statements_below text room)
all_below text zero = tt
all_below text (suc room) = statement_readers_sound text room

pub expr_at_sound : (text : List ℕ) (room : ℕ) (ts : List Token) → Gives (λ e rest. Front (λ pre. IsExpr text room pre e) ts rest) (expr_at text room ts)
unfolding expr_at
expr_at_sound text room ts = expr_sound text room (below text room) (expressions_below text room) ts

pub arguments_at_sound : (text : List ℕ) (room : ℕ) (ts : List Token) →
    Gives (λ es rest. Front (λ pre. AreArguments text room pre es) ts rest) (arguments_at text room ts)
unfolding arguments_at
arguments_at_sound text room ts = arguments_sound text room (below text room) (expressions_below text room) ts

pub stmt_at_sound : (text : List ℕ) (room : ℕ) (ts : List Token) → Gives (StmtFront text room ts) (stmt_at text room ts)
unfolding stmt_at
stmt_at_sound text room ts = stmt_read_sound text room (statements_below text room) (all_below text room) ts

pub block_at_sound : (text : List ℕ) (room : ℕ) (ts : List Token) → Gives (λ b rest. Front (λ pre. IsBlock text room pre b) ts rest) (block_at text room ts)
unfolding block_at
block_at_sound text room ts = block_sound text room (statements_below text room) (all_below text room) ts

pub statements_at_sound : (text : List ℕ) (room : ℕ) (ts : List Token) →
    Gives (λ inside rest. Front (λ pre. AreStatements text room pre inside) ts rest) (statements_at text room ts)
unfolding statements_at
statements_at_sound text room ts = statements_read_sound (suc (length ts)) text room (statements_below text room) (all_below text room) ts

pub variable_at_sound : (text : List ℕ) (room : ℕ) (ts : List Token) →
    Gives (λ v rest. Front (λ pre. IsVariable text room pre v) ts rest) (variable_at text room ts)
unfolding variable_at
variable_at_sound text room ts = variable_sound text room (readers text room) (readers_sound text room) ts

-- ---- parameters

parameter_sound : (text : List ℕ) (ts : List Token) → Gives (λ p rest. Front (λ pre. IsParameter text pre p) ts rest) (parameter_read text ts)
parameter_sound text ts =
    let f = final_sound ts in
    then_given _ _ _ (written_sound text (final_read ts).1) (λ written rest l. then_name text rest _ (λ n end e k. given _ _ (
      f.0 ++ (l.0 ++ n ∷ []),
      behind_front f.0 (l.0 ++ n ∷ []) ts (final_read ts).1 end f.1 (with_last l.0 (final_read ts).1 end n (l.1 ∙ ap (λ x. l.0 ++ x) e)),
      IsParameter.parameter n f.2 l.2 k,
    )))

parameters_listed_sound : (most : ℕ) (text : List ℕ) (ts : List Token) →
    Gives (λ ps rest. Front (λ pre. AreParametersListed text pre ps) ts rest) (parameters_listed_read most text ts)
unfolding parameters_listed_read
parameters_listed_sound zero text ts = nothing
parameters_listed_sound (suc most) text ts =
    then_given _ _ _ (parameter_sound text ts) (λ p rest h. choose (sees is_comma rest) _ _
    (λ a. then_given _ _ _ (accepts is_comma rest) (λ t behind g. then_given _ _ _ (parameters_listed_sound most text behind) (λ ps end k. given _ _ (
      h.0 ++ t ∷ k.0,
      behind_token h.0 k.0 ts behind end t (h.1 ∙ ap (λ x. h.0 ++ x) g.0) k.1,
      AreParametersListed.one_more_parameter t h.2 (comma t.kind g.1) k.2,
    ))))
    (λ a. given _ _ (h.0, h.1, AreParametersListed.last_parameter h.2)))

pub parameters_sound : (text : List ℕ) (ts : List Token) → Gives (λ ps rest. Front (λ pre. AreParameters text pre ps) ts rest) (parameters_read text ts)
parameters_sound text ts =
    then_given _ _ _ (accepts is_left_paren ts) (λ t rest g. choose (sees is_right_paren rest) _ _
    (λ a. then_given _ _ _ (accepts is_right_paren rest) (λ u end k. given _ _ (
      t ∷ u ∷ [],
      g.0 ∙ ap (λ x. t ∷ x) k.0,
      AreParameters.no_parameters t u (left_paren t.kind g.1) (right_paren u.kind k.1),
    )))
    (λ a. then_given _ _ _ (parameters_listed_sound (suc (length rest)) text rest) (λ ps behind h.
    then_given _ _ _ (accepts is_right_paren behind) (λ u end k. given _ _ (
      t ∷ (h.0 ++ u ∷ []),
      g.0 ∙ ap (λ x. t ∷ x) (with_last h.0 rest end u (h.1 ∙ ap (λ x. h.0 ++ x) k.0)),
      AreParameters.some_parameters t u (left_paren t.kind g.1) h.2 (right_paren u.kind k.1),
    )))))

-- ---- methods

result_sound : (text : List ℕ) (ts : List Token) → Gives (λ result rest. Front (λ pre. IsResult text pre result) ts rest) (result_read text ts)
result_sound text ts =
    choose (sees is_void ts) _ _
    (λ a. then_given _ _ _ (accepts is_void ts) (λ t end g. given _ _ (t ∷ [], g.0, IsResult.void t (void_word t.kind g.1))))
    (λ a. then_given _ _ _ (written_sound text ts) (λ written end h. given _ _ (h.0, h.1, IsResult.typed h.2)))

body_sound : (text : List ℕ) (room : ℕ) (ts : List Token) → Gives (λ inside rest. Front (λ pre. IsBody text room pre inside) ts rest) (body_read text room ts)
body_sound text room ts =
    choose (sees is_semicolon ts) _ _
    (λ a. then_given _ _ _ (accepts is_semicolon ts) (λ u end g. given _ _ (u ∷ [], g.0, IsBody.no_body u (semicolon u.kind g.1))))
    (λ a. then_given _ _ _ (block_at_sound text room ts) (λ b end h. given _ _ (h.0, h.1, IsBody.body h.2)))

pub method_sound : (text : List ℕ) (room : ℕ) (modifiers : List ModifierUse) (ts : List Token) →
    Gives (λ m rest. Front (λ pre. IsMethod text modifiers room pre m) ts rest) (method_read text room modifiers ts)
method_sound text room modifiers ts =
    then_given _ _ _ (result_sound text ts) (λ result rest l. then_name text rest _ (λ n behind e k.
    then_given _ _ _ (parameters_sound text behind) (λ parameters more p.
    then_given _ _ _ (names_behind_sound token.Throws is_throws throws_word text more) (λ throws last h.
    then_given _ _ _ (body_sound text room last) (λ inside end b. given _ _ (
      l.0 ++ n ∷ (p.0 ++ (h.0 ++ b.0)),
      behind_token l.0 (p.0 ++ (h.0 ++ b.0)) ts behind end n (l.1 ∙ ap (λ x. l.0 ++ x) e)
          (behind_front p.0 (h.0 ++ b.0) behind more end p.1 (behind_front h.0 b.0 more last end h.1 b.1)),
      IsMethod.method n l.2 k p.2 h.2 b.2,
    ))))))

-- ---- the first call of a constructor

one_of : (a b : Bool) → (a || b) ≡ true → b ≡ false → a ≡ true
one_of true b h e = refl
one_of false b h e = cc

-- one of the two words and arguments are a call of a constructor
call_by : {text : List ℕ} {room : ℕ} {l : List Token} {es : List Expr} (t u : Token) → (is_this t.kind || is_super t.kind) ≡ true →
    AreArguments text room l es → u.kind ≡ token.Semicolon →
    IsFirstCall text room (t ∷ (l ++ u ∷ [])) (Some (record { span = t.span; is_super = is_super t.kind; arguments = es }))
call_by {text = text} {room = room} {l = l} {es = es} t u word h k = at (is_super t.kind) refl
  where
    at : (b : Bool) → is_super t.kind ≡ b →
        IsFirstCall text room (t ∷ (l ++ u ∷ [])) (Some (record { span = t.span; is_super = is_super t.kind; arguments = es }))
    at true e = rw e (IsFirstCall.super_call t u (super t.kind e) h k)
    at false e = rw e (IsFirstCall.this_call t u (this t.kind (one_of (is_this t.kind) (is_super t.kind) word e)) h k)

pub first_call_sound : (text : List ℕ) (room : ℕ) (ts : List Token) →
    Gives (λ first rest. Front (λ pre. IsFirstCall text room pre first) ts rest) (first_call_read text room ts)
first_call_sound text room [] = given _ _ ([], refl, IsFirstCall.no_first_call)
first_call_sound text room (t ∷ ts) =
    choose ((is_this t.kind || is_super t.kind) && sees is_left_paren ts) _ _
    (λ a. then_given _ _ _ (arguments_at_sound text room ts) (λ es rest l. then_given _ _ _ (accepts is_semicolon rest) (λ u end g. given _ _ (
      t ∷ (l.0 ++ u ∷ []),
      ap (λ x. t ∷ x) (with_last l.0 ts end u (l.1 ∙ ap (λ x. l.0 ++ x) g.0)),
      call_by t u (and_both (is_this t.kind || is_super t.kind) (sees is_left_paren ts) a).0 l.2 (semicolon u.kind g.1),
    ))))
    (λ a. given _ _ ([], refl, IsFirstCall.no_first_call))
