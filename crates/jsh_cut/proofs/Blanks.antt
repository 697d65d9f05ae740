-- A text of white space has no tokens, and so is empty.
use Rattle.std.proofs.Common.{◌≡◌, ℕ, zero, suc, ◌<◌, Bool, true, false, cond, ◌&&◌, List, [], ◌∷◌, ◌++◌, length, None, refl, ap, ◌∙◌, arith}
use Rattle.std.specs.Prelude.{slice_index}
use Rattle.std.specs.List.{list_all}
use Rattle.std.specs.Str.{chars}
use Rattle.std.proofs.lemmas.Bool.Decides.{nat_tests}
use Rattle.std.proofs.lemmas.Str.{chars-IsAscii}
use Rattle.std.proofs.lemmas.Str.Ascii.{IsAscii-nil}
use Rattle.jsh_tree.specs.Text.{is_white}
use Rattle.jsh_lex.specs.declared.lexeme.Lexeme.TheVariants.{Gap}
use Rattle.jsh_lex.specs.Chars.{drop_while}
use Rattle.jsh_lex.specs.Lexis.{Front, front, place, add_lexeme, lexed, Lexed, whole, tokens}
use Rattle.jsh_complete.specs.declared.completion.Completeness.TheVariants as completeness
use Rattle.jsh_complete.specs.Completing.{counted, completion as completion_by}
use Rattle.jsh_cut.specs.Commands.{fault_of, completion}

both_true : (a b : Bool) → a && b ≡ true → (a ≡ true) × (b ≡ true)
both_true true b e = (refl, e)
both_true false b e = absurd cc

first_white : (c : ℕ) (cs : List ℕ) → list_all is_white (c ∷ cs) ≡ true → is_white c ≡ true
first_white c cs e = (both_true (is_white c) (list_all is_white cs) e).0

others_white : (c : ℕ) (cs : List ℕ) → list_all is_white (c ∷ cs) ≡ true → list_all is_white cs ≡ true
others_white c cs e = (both_true (is_white c) (list_all is_white cs) e).1

-- ---- characters

small : (c : ℕ) → is_white c ≡ true → c < 128
small c e = grind (arith, nat_tests)

ascii : (cs : List ℕ) → list_all is_white cs ≡ true → (i : ℕ) → slice_index cs i < 128
ascii [] e i = IsAscii-nil i
ascii (c ∷ cs) e zero = small c (first_white c cs e)
ascii (c ∷ cs) e (suc i) = ascii cs (others_white c cs e) i

-- ---- tokens

none_left : (cs : List ℕ) → list_all is_white cs ≡ true → drop_while is_white cs ≡ []
none_left [] e = refl
none_left (c ∷ cs) e = rw (first_white c cs e) (none_left cs (others_white c cs e))

one_gap : (b : Bool) (x y : Front) → b ≡ true → cond b x y ≡ x
one_gap true x y e = refl
one_gap false x y e = absurd cc

front_white : (c : ℕ) (cs : List ℕ) → list_all is_white (c ∷ cs) ≡ true → front (c ∷ cs) ≡ (Gap, [])
unfolding front
front_white c cs e = one_gap (is_white c) _ _ (first_white c cs e) ∙ ap (λ (rest : List ℕ). let x : Front = (Gap, rest) in x) (none_left cs (others_white c cs e))

no_lexeme : (n : ℕ) (text cs : List ℕ) → list_all is_white cs ≡ true → lexed n text cs ≡ whole []
no_lexeme n text [] e = refl
no_lexeme zero text (c ∷ cs) e = refl
no_lexeme (suc n) text (c ∷ cs) e =
    ap (λ (x : Front). add_lexeme x.0 (place text (c ∷ cs)) (place text x.1) (lexed n text x.1)) (front_white c cs e)

no_tokens : (text : List ℕ) → list_all is_white text ≡ true → tokens text ≡ whole []
unfolding tokens
no_tokens text e = let same : chars text ≡ text = chars-IsAscii text (ascii text e) in rw same (no_lexeme (length text) text text e)

-- ---- the text

of_nothing : (text : List ℕ) → (completion_by text [] None).kind ≡ completeness.Empty
unfolding completion_by counted
of_nothing text = refl

pub blank_empty : (text : List ℕ) → list_all is_white text ≡ true → (completion text).kind ≡ completeness.Empty
unfolding completion
blank_empty text e = ap (λ (l : Lexed). (completion_by text l.tokens (fault_of l)).kind) (no_tokens text e) ∙ of_nothing text

-- a line of white space with its end
pub blank_more : (line : List ℕ) → list_all is_white line ≡ true → list_all is_white (line ++ 10 ∷ []) ≡ true
blank_more [] e = refl
blank_more (c ∷ cs) e = rw (first_white c cs e) (blank_more cs (others_white c cs e))
