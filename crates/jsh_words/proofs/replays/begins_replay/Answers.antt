use Rattle.std.proofs.Common.{◌≡◌, ◌∙◌, ◌∷◌, true, false, rules, codes, sym, ap, subst, take, drop, map}
use Rattle.std.specs.Str.{bytes_eq}
use Rattle.std.specs.String.{string_bytes}
use Rattle.jsh_words.specs.Meant.{is_replay, meaning}
use Rattle.jsh_words.proofs.Single.{next_replays, attached_replays, others_do_not}
use Rattle.jsh_words.proofs.replays.begins_replay.Goals as goal

pub returns-then-eq : goal.returns-then-eq
returns-then-eq c =
    let is : c.args.first.now ≡ codes "--replay" = search rules in
    c.is_lone_file.ensures ∙ (next_replays (map string_bytes c.args.behind.now) ∙ ap (λ w. is_replay (meaning (w ∷ map string_bytes c.args.behind.now))) (sym is))

pub returns-in-Some : goal.returns-in-Some
returns-in-Some c =
    let first = c.args.first.now in
    let bytes : c.as_bytes.result.now ≡ first = c.as_bytes.ensures.value in
    let cases = c.in-Some.ensures.cases in
    c.is_alone.ensures
    ∙ attached_replays first c.in-Some.name.now (map string_bytes c.args.behind.now) (subst (λ w. bytes_eq (take 9 w) (codes "--replay=") ≡ true) bytes cases.0) (cases.1 ∙ ap (drop 9) bytes)

pub returns-in-None : goal.returns-in-None
returns-in-None c =
    let first = c.args.first.now in
    let bytes : c.as_bytes.result.now ≡ first = c.as_bytes.ensures.value in
    let other : bytes_eq first (codes "--replay") ≡ false = search rules in
    others_do_not first (map string_bytes c.args.behind.now) other (subst (λ w. bytes_eq (take 9 w) (codes "--replay=") ≡ false) bytes c.in-None.ensures.cases)
