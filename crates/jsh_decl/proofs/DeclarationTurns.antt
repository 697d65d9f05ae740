-- The turns of loops that take items with commas between them, or modifiers.
use Rattle.std.proofs.Common.{◌≡◌, ℕ, suc, Bool, true, false, if◌then◌else◌, List, [], ◌∷◌, ◌++◌, Option, Some, None, drop, refl, sym, ap, ◌∙◌, append_assoc}
use Rattle.jsh_tree.specs.declared.token.Token.{Token}
use Rattle.jsh_tree.specs.declared.modifier.Modifier.{Modifier}
use Rattle.jsh_tree.specs.declared.declaration.ModifierUse.{ModifierUse}
use Rattle.jsh_parse.specs.Marks.{is_comma}
use Rattle.jsh_parse.specs.Reader.{Read, and_then, accept, sees}
use Rattle.jsh_parse.proofs.Onward.{prepend}
use Rattle.jsh_decl.specs.Declarations.{modifier_of}
use Rattle.jsh_decl.specs.DeclarationReader.{modifiers_read}
use Rattle.jsh_decl.specs.DeclarationReading.{modifier_at, modifiers_at}

-- an item, with those behind the comma that may stand there
abbrev pub behind_comma : {A : Type 0} → (List Token → Read (List A)) → A → List Token → Read (List A)
behind_comma more a rest =
    if sees is_comma rest
    then and_then (accept is_comma rest) (λ t behind. and_then (more behind) (λ items end. Some (a ∷ items, end)))
    else Some (a ∷ [], rest)

pub append_one : {A : Type 0} (items : List A) (a : A) (r : Read (List A)) →
    prepend items (and_then r (λ more end. Some (a ∷ more, end))) ≡ prepend (items ++ a ∷ []) r
append_one items a None = refl
append_one items a (Some found) = ap (λ more. Some (more, found.1)) (sym (append_assoc items (a ∷ []) found.0))

module _ {A : Type 0} (run : ℕ → List Token → Read (List A)) (item : List Token → Read A)
    (more : (most : ℕ) (ts : List Token) → run (suc most) ts ≡ and_then (item ts) (behind_comma (run most))) (whole : Read (List A)) where
  goes_on : (m k : ℕ) (items : List A) (ts : List Token) → m ≡ suc k → whole ≡ prepend items (run m ts) →
      whole ≡ prepend items (and_then (item ts) (behind_comma (run k)))
  goes_on m k items ts e h = h ∙ ap (λ n. prepend items (run n ts)) e ∙ ap (prepend items) (more k ts)

  pub comma_fails : (m k : ℕ) (items : List A) (ts : List Token) → m ≡ suc k → whole ≡ prepend items (run m ts) → item ts ≡ None → whole ≡ None
  comma_fails m k items ts e h s = goes_on m k items ts e h ∙ simp s

  pub comma_ends : (m k : ℕ) (items : List A) (a : A) (ts rest : List Token) → m ≡ suc k → whole ≡ prepend items (run m ts) →
      item ts ≡ Some (a, rest) → sees is_comma rest ≡ false → whole ≡ Some (items ++ a ∷ [], rest)
  comma_ends m k items a ts rest e h s c = goes_on m k items ts e h ∙ simp (s, c)

  pub comma_goes_on : (m k : ℕ) (items : List A) (a : A) (ts rest : List Token) → m ≡ suc k → whole ≡ prepend items (run m ts) →
      item ts ≡ Some (a, rest) → sees is_comma rest ≡ true → whole ≡ prepend (items ++ a ∷ []) (run k (drop 1 rest))
  comma_goes_on m k items a ts [] e h s c = cc
  comma_goes_on m k items a ts (t ∷ rest) e h s c = goes_on m k items ts e h ∙ simp (s, c) (append_one items a (run k rest))

-- modifiers

module _ (permitted : Modifier → Bool) where
  modifiers_by : (t : Token) (ts : List Token) (m : Modifier) → modifier_of t.kind ≡ Some m → permitted m ≡ true →
      modifiers_at permitted (t ∷ ts) ≡ and_then (modifiers_at permitted ts) (λ ms rest. Some (record { modifier = m; span = t.span } ∷ ms, rest))
  unfolding modifiers_at
  modifiers_by t ts m h k = rw (h, k) refl

  modifiers_none : (t : Token) (ts : List Token) → modifier_of t.kind ≡ None → modifiers_at permitted (t ∷ ts) ≡ Some ([], t ∷ ts)
  unfolding modifiers_at
  modifiers_none t ts h = rw h refl

  modifiers_other : (t : Token) (ts : List Token) (m : Modifier) → modifier_of t.kind ≡ Some m → permitted m ≡ false →
      modifiers_at permitted (t ∷ ts) ≡ Some ([], t ∷ ts)
  unfolding modifiers_at
  modifiers_other t ts m h k = rw (h, k) refl

  modifiers_nowhere : modifiers_at permitted [] ≡ Some ([], [])
  unfolding modifiers_at
  modifiers_nowhere = refl

  append_none : (items : List ModifierUse) → items ++ [] ≡ items
  append_none [] = refl
  append_none (m ∷ items) = ap (λ more. m ∷ more) (append_none items)

  pub modifier_more : (items : List ModifierUse) (ts : List Token) (m : ModifierUse) → modifier_at permitted ts ≡ Some m →
      prepend items (modifiers_at permitted ts) ≡ prepend (items ++ m ∷ []) (modifiers_at permitted (drop 1 ts))
  modifier_more items [] m h = cc
  modifier_more items (t ∷ ts) m h = of_word (modifier_of t.kind) refl
    where
      of_use : (found : Modifier) (b : Bool) → modifier_of t.kind ≡ Some found → permitted found ≡ b →
          prepend items (modifiers_at permitted (t ∷ ts)) ≡ prepend (items ++ m ∷ []) (modifiers_at permitted ts)
      of_use found true e k =
          let same : Some (record { modifier = found; span = t.span }) ≡ Some m = sym (taken e k) ∙ h in
          ap (prepend items) (modifiers_by t ts found e k) ∙ append_one items (record { modifier = found; span = t.span }) (modifiers_at permitted ts)
          ∙ ap (λ (u : ModifierUse). prepend (items ++ u ∷ []) (modifiers_at permitted ts)) cc
        where
          taken : modifier_of t.kind ≡ Some found → permitted found ≡ true → modifier_at permitted (t ∷ ts) ≡ Some (record { modifier = found; span = t.span })
          taken e k = rw (e, k) refl
      of_use found false e k = let none : ◌≡◌ {A = Option ModifierUse} None (Some m) = sym (left e k) ∙ h in cc
        where
          left : modifier_of t.kind ≡ Some found → permitted found ≡ false → modifier_at permitted (t ∷ ts) ≡ None
          left e k = rw (e, k) refl

      of_word : (found : Option Modifier) → modifier_of t.kind ≡ found →
          prepend items (modifiers_at permitted (t ∷ ts)) ≡ prepend (items ++ m ∷ []) (modifiers_at permitted ts)
      of_word None e = let none : ◌≡◌ {A = Option ModifierUse} None (Some m) = sym (nothing e) ∙ h in cc
        where
          nothing : modifier_of t.kind ≡ None → modifier_at permitted (t ∷ ts) ≡ None
          nothing e = rw e refl
      of_word (Some found) e = of_use found (permitted found) e refl

  pub modifier_ends : (items : List ModifierUse) (ts : List Token) → modifier_at permitted ts ≡ None →
      prepend items (modifiers_at permitted ts) ≡ Some (items, ts)
  modifier_ends items [] h = ap (prepend items) modifiers_nowhere ∙ ap (λ more. Some (more, [])) (append_none items)
  modifier_ends items (t ∷ ts) h = of_word (modifier_of t.kind) refl
    where
      ended : modifiers_at permitted (t ∷ ts) ≡ Some ([], t ∷ ts) → prepend items (modifiers_at permitted (t ∷ ts)) ≡ Some (items, t ∷ ts)
      ended e = ap (prepend items) e ∙ ap (λ more. Some (more, t ∷ ts)) (append_none items)

      of_use : (found : Modifier) (b : Bool) → modifier_of t.kind ≡ Some found → permitted found ≡ b →
          prepend items (modifiers_at permitted (t ∷ ts)) ≡ Some (items, t ∷ ts)
      of_use found true e k = let some : ◌≡◌ {A = Option ModifierUse} (Some (record { modifier = found; span = t.span })) None = sym (taken e k) ∙ h in cc
        where
          taken : modifier_of t.kind ≡ Some found → permitted found ≡ true → modifier_at permitted (t ∷ ts) ≡ Some (record { modifier = found; span = t.span })
          taken e k = rw (e, k) refl
      of_use found false e k = ended (modifiers_other t ts found e k)

      of_word : (found : Option Modifier) → modifier_of t.kind ≡ found → prepend items (modifiers_at permitted (t ∷ ts)) ≡ Some (items, t ∷ ts)
      of_word None e = ended (modifiers_none t ts e)
      of_word (Some found) e = of_use found (permitted found) e refl

  -- modifiers are always read
  pub modifiers_stand : {A : Type 0} (X : Read A) (ts : List Token) → modifiers_at permitted ts ≡ None → X ≡ None
  unfolding modifiers_at
  modifiers_stand X ts h = cc

  -- the modifiers and what is behind them
  pub modifiers_pair : (ts rest : List Token) (modifiers : List ModifierUse) → modifiers_at permitted ts ≡ Some (modifiers, rest) →
      modifiers_read permitted ts ≡ (modifiers, rest)
  unfolding modifiers_at
  modifiers_pair ts rest modifiers h = cc
