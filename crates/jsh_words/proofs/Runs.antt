-- What a run means, by its parts.
use Rattle.std.proofs.Common.{◌≡◌, ℕ, Bool, List, Option, Some, None, ap, ◌∙◌}
use Rattle.std.specs.Prelude.{if◌then◌else◌, option_and_then}
use Rattle.jsh_words.specs.declared.meaning.Meaning.{Meaning}
use Rattle.jsh_words.specs.declared.meaning.Meaning.TheVariants.{Run}
use Rattle.jsh_words.specs.Meant.{Given, run, number_or, file, are_scripts}

abbrev pub runs : Option ℕ → Option ℕ → Option (Option (List ℕ)) → Option (Option (List ℕ)) → Bool → List (List ℕ) → Option Meaning
runs w b j s fit scripts =
    option_and_then (λ workers.
    option_and_then (λ budget.
    option_and_then (λ journal.
    option_and_then (λ startup.
    if fit then Some (Run workers budget journal startup scripts) else None)
    s) j) b) w

pub run_is : (g : Given) (w b : Option ℕ) (j s : Option (Option (List ℕ))) (fit : Bool)
    → number_or 0 0 16 g.workers ≡ w → number_or 10000000 1 1000000000 g.budget ≡ b → file g.journal ≡ j → file g.startup ≡ s → are_scripts g ≡ fit → run g ≡ runs w b j s fit g.scripts
run_is g w b j s fit ew eb ej es ef =
    ap (λ x. runs x (number_or 10000000 1 1000000000 g.budget) (file g.journal) (file g.startup) (are_scripts g) g.scripts) ew
    ∙ (ap (λ x. runs w x (file g.journal) (file g.startup) (are_scripts g) g.scripts) eb
    ∙ (ap (λ x. runs w b x (file g.startup) (are_scripts g) g.scripts) ej
    ∙ (ap (λ x. runs w b j x (are_scripts g) g.scripts) es ∙ ap (λ x. runs w b j s x g.scripts) ef)))
