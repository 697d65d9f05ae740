use Rattle.std.proofs.Common.{◌≡◌, ◌∙◌, ℕ, ◌+◌, ◌-◌, List, take, drop, length, ap, sym, subst, arith}
use Rattle.std.proofs.lemmas.List.{length-take-le, take-append-drop}
use Rattle.jsh_lex.specs.Chars.{drop_while}
use Rattle.jsh_tree.specs.Text.{is_white}
use Rattle.jsh_cut.proofs.Outer.{first_stays, first_later}
use Rattle.jsh_cut.proofs.waiting.first_onward.Goals as goal

pub returns-then-first-front-clause-value : goal.returns-then-first-front-clause-value
returns-then-first-front-clause-value c =
    let text = c.args.text.now in
    let front = c.args.front in
    let size : length (take front text) ≡ front = length-take-le front text c.requires.front.0 in
    subst (λ (zs : List ℕ). c.args.first ≡ length zs - length (drop_while is_white zs)) (take-append-drop front text)
    (first_stays is_white (take front text) (drop front text) c.args.first c.requires.first (omega (arith, size, c.if-first-front.true)))

pub returns-else-first-front-clause-value : goal.returns-else-first-front-clause-value
returns-else-first-front-clause-value c =
    let text = c.args.text.now in
    let front = c.args.front in
    let size : length (take front text) ≡ front = length-take-le front text c.requires.front.0 in
    let place : c.first_place.result ≡ length (drop front text) - length (drop_while is_white (drop front text)) =
    c.first_place.ensures.value ∙ ap (λ (zs : List ℕ). length zs - length (drop_while is_white zs)) c.range_from.ensures.value in
    let later = first_later is_white (take front text) (drop front text) c.args.first c.requires.first (omega (arith, size, c.if-first-front.false)) in
    subst (λ (zs : List ℕ). front + c.first_place.result ≡ length zs - length (drop_while is_white zs)) (take-append-drop front text)
    (ap (λ n. n + c.first_place.result) (sym size) ∙ ap (λ n. length (take front text) + n) place ∙ later)
