-- What `clap` finds under a name, after parts that are used in order.
use Rattle.std.proofs.Common.{◌≡◌, ◌⊎◌, inl, inr, ℕ, Bool, true, false, ◌&&◌, ◌||◌, List, [], ◌∷◌, ◌++◌, map, Some, None, refl, sym, ap, ◌∙◌, subst, append_assoc}
use Rattle.std.proofs.lemmas.List.{append-nil}
use Rattle.std.specs.Prelude.{if◌then◌else◌, option_map, find, unwrap_or}
use Rattle.std.specs.Option.{option_map_or}
use Rattle.std.specs.List.{filter}
use Rattle.std.specs.Str.{bytes_eq}
use Rattle.std.proofs.lemmas.Cmp.{nat_list_eq_equiv}
use Rattle.std.proofs.lemmas.Slice.Eq.{bytes_eq-Decides}
use Rattle.clap.specs.Walk.{Row, Rule, without, with_values, more_values, has_row, all_of, used_by_id, stronger, arg_by_id, reading_by}
use Rattle.clap.specs.Kinds.{Kinds, or_else}
use Rattle.clap.specs.Faults.{use_fault}
use Rattle.clap.specs.declared.builder.value_parser.Reading.{Reading}
use Rattle.clap.specs.declared.parser.matches.ValueSource.{ValueSource}
use Rattle.clap.specs.declared.parser.matches.ValueSource.TheVariants.{CommandLine}
use Rattle.clap.specs.declared.error.kind.ErrorKind.TheVariants as kind
use Rattle.jsh_words.specs.Parts.{Part, script, is_option, values_of}
use Rattle.jsh_words.proofs.Rules.{scripts}
use Rattle.jsh_words.proofs.Once.{few, few_more}
use Rattle.jsh_words.proofs.Walks.{Reads, pend_fault, pend_rows, parts_fault, parts_rows, first_fails, second_fails}

-- the values under a name
abbrev pub lookup : List ℕ → List Row → List (List ℕ)
lookup name rows = unwrap_or (all_of name rows) []

-- what stands under a name that is found, or behind it
abbrev look : Bool → Row → List ℕ → List Row → List (List ℕ)
look b r name rows = unwrap_or (option_map (λ x. x.values) (if b then Some r else find (λ x. bytes_eq x.id name) rows)) []

same : (a b : List ℕ) → bytes_eq a b ≡ true → a ≡ b
same a b e = (bytes_eq-Decides a b).0 e

passes : (b : Bool) (r : Row) (name : List ℕ) (xs ys : List Row) → lookup name xs ≡ lookup name ys → look b r name xs ≡ look b r name ys
passes true r name xs ys e = refl
passes false r name xs ys e = e

module _ (k : List ℕ) (how : Reading) (s : ValueSource) (vs : List (List ℕ)) where
  abbrev new : Row
  new = record { id = k; values = vs; count = None; source = Some s; reading = how }

  pub look_here : (rows : List Row) → lookup k (with_values k how s vs rows) ≡ lookup k rows ++ vs
  look_here [] = ap (λ b. look b new k []) (nat_list_eq_equiv.refl k)
  look_here (r ∷ rs) = by (bytes_eq r.id k) refl (look_here rs)
    where
      by : (b : Bool) → bytes_eq r.id k ≡ b → lookup k (with_values k how s vs rs) ≡ lookup k rs ++ vs
          → lookup k (if b then more_values s vs r ++ rs else r ∷ with_values k how s vs rs) ≡ look b r k rs ++ vs
      by true e ih = ap (λ b. look b (record r { values = r.values ++ vs; source = Some (stronger r.source s) }) k rs) e
      by false e ih = ap (λ b. look b r k (with_values k how s vs rs)) e ∙ ih

  pub look_there : (name : List ℕ) → bytes_eq k name ≡ false → (rows : List Row) → lookup name (with_values k how s vs rows) ≡ lookup name rows
  look_there name other [] = ap (λ b. look b new name []) other
  look_there name other (r ∷ rs) = by (bytes_eq r.id k) refl (look_there name other rs)
    where
      by : (b : Bool) → bytes_eq r.id k ≡ b → lookup name (with_values k how s vs rs) ≡ lookup name rs
          → lookup name (if b then more_values s vs r ++ rs else r ∷ with_values k how s vs rs) ≡ lookup name (r ∷ rs)
      by true e ih =
          let apart : bytes_eq r.id name ≡ false = ap (λ x. bytes_eq x name) (same r.id k e) ∙ other in
          ap (λ b. look b (record r { values = r.values ++ vs; source = Some (stronger r.source s) }) name rs) apart ∙ sym (ap (λ b. look b r name rs) apart)
      by false e ih = passes (bytes_eq r.id name) r name (with_values k how s vs rs) rs ih

  pub row_there : (name : List ℕ) → bytes_eq k name ≡ false → (rows : List Row) → has_row name (with_values k how s vs rows) ≡ has_row name rows
  row_there name other [] = ap (λ b. b || false) other
  row_there name other (r ∷ rs) = by (bytes_eq r.id k) refl (row_there name other rs)
    where
      by : (b : Bool) → bytes_eq r.id k ≡ b → has_row name (with_values k how s vs rs) ≡ has_row name rs
          → has_row name (if b then more_values s vs r ++ rs else r ∷ with_values k how s vs rs) ≡ has_row name (r ∷ rs)
      by true e ih = refl
      by false e ih = ap (λ b. bytes_eq r.id name || b) ih

  pub kept : (rows : List Row) → has_row k rows ≡ false → without k rows ≡ rows
  kept [] e = refl
  kept (r ∷ rs) e = by (bytes_eq r.id k) refl e (λ e'. kept rs e')
    where
      by : (b : Bool) → bytes_eq r.id k ≡ b → (b || has_row k rs) ≡ false → (has_row k rs ≡ false → without k rs ≡ rs) → (if b then [] ++ rs else r ∷ without k rs) ≡ r ∷ rs
      by true is e' ih = absurd (cc)
      by false is e' ih = ap (λ xs. r ∷ xs) (ih e')

-- ---- the names of parts

abbrev pub Key : List ℕ → Type 0
Key name = (is_option name ≡ true) ⊎ (name ≡ script)

abbrev pub Keys : List Part → Type 0
Keys [] = Unit {0}
Keys (part ∷ parts) = Key part.0 × Keys parts

-- how a text is read
abbrev pub how : Reading
how = reading_by scripts

abbrev pub conflict : Bool → Kinds
conflict b = if b && true then kind.ArgumentConflict ∷ [] else []

no_conflict : (b : Bool) → conflict b ≡ [] → b ≡ false
no_conflict true e = absurd (cc)
no_conflict false e = refl

module _ (c : List Rule) (r : Reads c) where
  -- the fault of a use of an option
  pub option_fault_is : (rows : List Row) (name value : List ℕ) → is_option name ≡ true → pend_fault c rows (Some (name, value)) ≡ or_else (conflict (has_row name rows)) []
  option_fault_is rows name value known = ap (λ o. option_map_or (λ a. use_fault false a (value ∷ []) rows) o []) (r.id name known)

  pub script_fault_is : (rows : List Row) (value : List ℕ) → pend_fault c rows (Some (script, value)) ≡ []
  script_fault_is rows value = ap (λ o. option_map_or (λ a. use_fault false a (value ∷ []) rows) o []) r.script_id

  -- a use that has no fault adds its value
  pub uses : (rows : List Row) (name value : List ℕ) → Key name → pend_fault c rows (Some (name, value)) ≡ [] → pend_rows c rows (Some (name, value)) ≡ with_values name how CommandLine (value ∷ []) rows
  uses rows name value (inl known) e =
      let none : has_row name rows ≡ false = no_conflict (has_row name rows) (first_fails (conflict (has_row name rows)) [] (sym (option_fault_is rows name value known) ∙ e)) in
      ap (λ o. used_by_id o (value ∷ []) rows) (r.id name known) ∙ ap (λ rs. with_values name how CommandLine (value ∷ []) rs) (kept name how CommandLine (value ∷ []) rows none)
  uses rows name value (inr is) e =
      ap (λ n. used_by_id (arg_by_id c n) (value ∷ []) rows) is ∙ (ap (λ o. used_by_id o (value ∷ []) rows) r.script_id ∙ ap (λ n. with_values n how CommandLine (value ∷ []) rows) (sym is))

  -- what is found are the values of the parts
  pub gathers : (ps : List Part) (rows : List Row) → Keys ps → parts_fault c rows ps ≡ [] → (name : List ℕ) → lookup name (parts_rows c rows ps) ≡ lookup name rows ++ values_of name ps
  gathers [] rows keys none name = sym (append-nil (lookup name rows))
  gathers (part ∷ ps) rows keys none name =
      let added = uses rows part.0 part.1 keys.0 (first_fails (pend_fault c rows (Some part)) _ none) in
      gathers ps (pend_rows c rows (Some part)) keys.1 (second_fails (pend_fault c rows (Some part)) _ none) name
      ∙ (ap (λ rs. lookup name rs ++ values_of name ps) added ∙ by (bytes_eq part.0 name) refl)
    where
      by : (b : Bool) → bytes_eq part.0 name ≡ b
          → lookup name (with_values part.0 how CommandLine (part.1 ∷ []) rows) ++ values_of name ps ≡ lookup name rows ++ map (λ q. q.1) (if b then part ∷ filter (λ q. bytes_eq q.0 name) ps else filter (λ q. bytes_eq q.0 name) ps)
      by true is =
          let here : lookup name (with_values part.0 how CommandLine (part.1 ∷ []) rows) ≡ lookup name rows ++ part.1 ∷ [] =
          subst (λ n. lookup n (with_values part.0 how CommandLine (part.1 ∷ []) rows) ≡ lookup n rows ++ part.1 ∷ []) (same part.0 name is) (look_here part.0 how CommandLine (part.1 ∷ []) rows) in
          ap (λ xs. xs ++ values_of name ps) here ∙ append_assoc (lookup name rows) (part.1 ∷ []) (values_of name ps)
      by false is = ap (λ xs. xs ++ values_of name ps) (look_there part.0 how CommandLine (part.1 ∷ []) name is rows)

  -- ---- no option twice

  abbrev pub Once : List Row → List Part → Type 0
  Once rows ps = (name : List ℕ) → is_option name ≡ true → (few (values_of name ps) ≡ true) × (has_row name rows ≡ true → values_of name ps ≡ [])

  once_behind : (part : Part) (ps : List Part) (rows : List Row) → Once rows (part ∷ ps) → Once (with_values part.0 how CommandLine (part.1 ∷ []) rows) ps
  once_behind part ps rows once name known = by (bytes_eq part.0 name) refl (once name known)
    where
      rest : List Part
      rest = filter (λ q. bytes_eq q.0 name) ps

      by : (b : Bool) → bytes_eq part.0 name ≡ b
          → (few (map (λ q. q.1) (if b then part ∷ rest else rest)) ≡ true) × (has_row name rows ≡ true → map (λ q. q.1) (if b then part ∷ rest else rest) ≡ [])
          → (few (values_of name ps) ≡ true) × (has_row name (with_values part.0 how CommandLine (part.1 ∷ []) rows) ≡ true → values_of name ps ≡ [])
      by true is o = let none : values_of name ps ≡ [] = few_more part.1 (values_of name ps) o.0 in (ap few none, λ has. none)
      by false is o = (o.0, λ has. o.1 (sym (row_there part.0 how CommandLine (part.1 ∷ []) name is rows) ∙ has))

  absent : (part : Part) (ps : List Part) (rows : List Row) → Once rows (part ∷ ps) → is_option part.0 ≡ true → has_row part.0 rows ≡ false
  absent part ps rows once known = by (has_row part.0 rows) refl
    where
      by : (b : Bool) → has_row part.0 rows ≡ b → b ≡ false
      by false is = refl
      by true is =
          let rest : List Part = filter (λ q. bytes_eq q.0 part.0) ps in
          let gone : map (λ q. q.1) (part ∷ rest) ≡ [] = sym (ap (λ b. map (λ q. q.1) (if b then part ∷ rest else rest)) (nat_list_eq_equiv.refl part.0)) ∙ (once part.0 known).1 is in absurd (cc)

  -- where no option stands twice, no use has a fault
  pub unfailing : (ps : List Part) (rows : List Row) → Keys ps → Once rows ps → parts_fault c rows ps ≡ []
  unfailing [] rows keys once = refl
  unfailing (part ∷ ps) rows keys once =
      let none : pend_fault c rows (Some part) ≡ [] = free keys.0 in
      let added = uses rows part.0 part.1 keys.0 none in
      ap (λ f. or_else f (parts_fault c (pend_rows c rows (Some part)) ps)) none
      ∙ unfailing ps (pend_rows c rows (Some part)) keys.1 (subst (λ rs. Once rs ps) (sym added) (once_behind part ps rows once))
    where
      free : Key part.0 → pend_fault c rows (Some part) ≡ []
      free (inl known) = option_fault_is rows part.0 part.1 known ∙ ap (λ b. or_else (conflict b) []) (absent part ps rows once known)
      free (inr is) = ap (λ n. pend_fault c rows (Some (n, part.1))) is ∙ script_fault_is rows part.1
