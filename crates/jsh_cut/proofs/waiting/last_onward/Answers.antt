use Rattle.std.proofs.Common.{◌≡◌, ◌∙◌, ℕ, ◌+◌, ◌<◌, List, take, drop, reverse, length, ap, sym, subst, arith}
use Rattle.std.proofs.lemmas.List.{length-take-le, take-append-drop}
use Rattle.jsh_lex.specs.Chars.{drop_while}
use Rattle.jsh_tree.specs.Text.{is_white}
use Rattle.jsh_cut.proofs.Outer.{last_stays, last_later}
use Rattle.jsh_cut.proofs.waiting.last_onward.Goals as goal

pub returns-then-more-gt0-clause-value : goal.returns-then-more-gt0-clause-value
returns-then-more-gt0-clause-value c =
    let text = c.args.text.now in
    let front = c.args.front in
    let size : length (take front text) ≡ front = length-take-le front text c.requires.front.0 in
    let place : c.last_place-more.result ≡ length (drop_while is_white (reverse (drop front text))) =
    c.last_place-more.ensures.value ∙ ap (λ (zs : List ℕ). length (drop_while is_white (reverse zs))) c.range_from.ensures.value in
    let some : 0 < length (drop_while is_white (reverse (drop front text))) = omega (arith, place, c.if-more-gt0.true) in
    subst (λ (zs : List ℕ). front + c.last_place-more.result ≡ length (drop_while is_white (reverse zs))) (take-append-drop front text)
    (ap (λ n. n + c.last_place-more.result) (sym size) ∙ ap (λ n. length (take front text) + n) place ∙ last_later is_white (take front text) (drop front text) some)

pub returns-else-more-gt0-clause-value : goal.returns-else-more-gt0-clause-value
returns-else-more-gt0-clause-value c =
    let text = c.args.text.now in
    let front = c.args.front in
    let place : c.last_place-more.result ≡ length (drop_while is_white (reverse (drop front text))) =
    c.last_place-more.ensures.value ∙ ap (λ (zs : List ℕ). length (drop_while is_white (reverse zs))) c.range_from.ensures.value in
    let none : length (drop_while is_white (reverse (drop front text))) ≡ 0 = omega (arith, place, c.if-more-gt0.false) in
    subst (λ (zs : List ℕ). c.args.last ≡ length (drop_while is_white (reverse zs))) (take-append-drop front text)
    (c.requires.last ∙ last_stays is_white (take front text) (drop front text) none)
