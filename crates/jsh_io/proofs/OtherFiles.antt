-- A file keeps its bytes while other files are taken.
use Rattle.std.proofs.Common.{◌≡◌, ℕ, Bool, true, false, List, [], ◌∷◌, refl, sym, ◌∙◌, cond}
use Rattle.std.specs.Prelude.{Some, not, if◌then◌else◌}
use Rattle.std.specs.Str.{bytes_eq}
use Rattle.std.proofs.lemmas.Bool.{false_from_ne_true}
use Rattle.std.proofs.lemmas.Slice.Eq.{bytes_eq-Decides}
use Rattle.jsh_io.specs.Inputs.{bytes_of, others}

one-more : (name : List ℕ) (file : List ℕ × List ℕ) (rest files : List (List ℕ × List ℕ)) (v w : Bool)
    → bytes_eq name file.0 ≡ v → (v ≡ true → w ≡ false) → bytes_of name rest ≡ bytes_of name files
    → bytes_of name (cond (not w) (file ∷ rest) rest) ≡ (if v then Some file.1 else bytes_of name files)
one-more name file rest files true true is apart same = let both : true ≡ false = apart refl in cc
one-more name file rest files true false is apart same = rw is refl
one-more name file rest files false true is apart same = same
one-more name file rest files false false is apart same = rw is same

-- the bytes of a name stay where the file of another name is taken
pub bytes_of-others : (name other : List ℕ) (files : List (List ℕ × List ℕ)) → (name ≡ other → ⊥)
    → bytes_of name (others other files) ≡ bytes_of name files
bytes_of-others name other [] differ = refl
bytes_of-others name other (file ∷ files) differ =
    one-more name file (others other files) files (bytes_eq name file.0) (bytes_eq other file.0) refl
    (λ is. false_from_ne_true (bytes_eq other file.0) (λ too. differ ((bytes_eq-Decides name file.0).0 is ∙ sym ((bytes_eq-Decides other file.0).0 too))))
    (bytes_of-others name other files differ)
