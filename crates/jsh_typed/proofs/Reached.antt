-- Steps up a hierarchy: one more, and none that changes anything.
use Rattle.std.proofs.Common.{◌≡◌, ℕ, zero, suc, ◌+◌, ◌≤◌, Bool, List, length, ap, sym, ◌∙◌, ◌⊎◌, inl, inr, arith, add-one}
use Rattle.jsh_typed.specs.declared.types.ClassName.{ClassName}
use Rattle.jsh_typed.specs.declared.hierarchy.HierarchyEntry.{HierarchyEntry}
use Rattle.jsh_typed.specs.Hierarchy.{reached, further, entries_of}

pub at_start : (h : List HierarchyEntry) (c : ClassName) (marks : List Bool) → marks ≡ entries_of h c → marks ≡ reached h c 0
unfolding reached
at_start h c marks is = is

pub one_more : (h : List HierarchyEntry) (c : ClassName) (n : ℕ) (marks next : List Bool) →
    marks ≡ reached h c n → next ≡ further h c marks → next ≡ reached h c (n + 1)
unfolding reached
one_more h c n marks next is more = rw add-one (more ∙ ap (further h c) is)

split : (n m : ℕ) → n ≤ suc m → (n ≤ m) ⊎ (n ≡ suc m)
split n m le = grind arith

-- where a step changes nothing, no later one does
stays : (h : List HierarchyEntry) (c : ClassName) (n : ℕ) → further h c (reached h c n) ≡ reached h c n →
    (m : ℕ) → n ≤ m → reached h c m ≡ reached h c n
unfolding reached
stays h c n fixed zero le = let e : zero ≡ n = omega arith in ap (reached h c) e
stays h c n fixed (suc m) le = elim (split n m le) as (λ _. reached h c (suc m) ≡ reached h c n)
    [ inl below ↦ ap (further h c) (stays h c n fixed m below) ∙ fixed | inr same ↦ ap (reached h c) (sym same) ]

pub whole : (h : List HierarchyEntry) (c : ClassName) (n : ℕ) (marks : List Bool) →
    marks ≡ reached h c n → marks ≡ further h c marks → n ≤ length h → marks ≡ reached h c (length h)
whole h c n marks is same within = is ∙ sym (stays h c n (ap (further h c) (sym is) ∙ sym same ∙ is) (length h) within)
