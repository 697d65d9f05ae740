-- Reading the length, and cutting and joining seats, keep the rule.
use Rattle.std.proofs.Common.{◌≡◌, ◌≢◌, ℕ, zero, suc, ◌+◌, ◌<◌, ◌≤◌, List, [], ◌∷◌, ◌++◌, length, set, Option, Some, None, refl, sym, ap, ◌∙◌, subst, ⊎_elim, inl, inr, arith, length-append}
use Rattle.std.specs.Prelude.{slice_index}
use Rattle.std.specs.List.{Contains, sum_by}
use Rattle.std.proofs.lemmas.List.Sums.{sum_by_push}
use Rattle.std.proofs.lemmas.List.Elements.{Contains-append_cases}
use mathlib.Core.Logic.{dite}
use mathlib.Core.Option.{some, none, some-injective, some-ne-none}
use mathlib.Core.Option as maybe
use native.Mathlib.Decide.{ℕ_discrete}
use lib.ListN.{get_elem?}
use Rattle.atomic_table.specs.Table.{Me, step, keeps, Allows, Splits, Joins, opening}
use Rattle.atomic_table.proofs.Lists.{at_set, at_snoc, at_longer}
use Rattle.jsh_turnlock.specs.declared.view.View.{View}
use Rattle.jsh_turnlock.specs.declared.view.Home.{Home}
use Rattle.jsh_turnlock.specs.History.{own, StartsWith, longer}
use Rattle.jsh_turnlock.specs.Rule.{times, listed, or_zero, fresh, Fits, Held, Free, IsHome, IsKeptIn, Measures, Hears, note, informed, gathered, counted, forked}
use Rattle.jsh_turnlock.proofs.Lists.{sum_set, sum_same, sum_none, each_set, at_set_here, times_here, times_else, times-append, absent}
use Rattle.jsh_turnlock.proofs.Histories.{starts, starts_nothing, hears}
use Rattle.jsh_turnlock.proofs.Rules.{Rule, some_is, one_holder, slot_stays, reviewed}

has_none : (c : ℕ) → Contains [] c → ⊥
has_none c has = absurd (omega (arith, has.1))

module _ {T I : Type 0} (history : T → List (ℕ × I)) (numbers : T → ℕ) where
  abbrev Mine : Type 0
  Mine = Me (Option (Home T)) (View I)

  pub measures : (slots id : ℕ) (m : Mine) → Allows (Rule history numbers) slots id m 2 (λ n. n) (Measures (step slots 2 0 0 none) m)
  measures slots id m s r deep at small =
      let w : View I = record m.0 { seen = r.log } in
      let fits = r.each id m.0 at in (
        w,
        keeps,
        tt,
        reviewed history numbers s r id m.0 w (set s.words 2 (slice_index s.words 2)) at (ap (λ ws. set ws 2 (slice_index ws 2)) r.words ∙ sym r.words) refl refl refl
            record {
              goes_on = (starts r.log, λ c has. refl);
              told = fits.told;
              numbers = fits.numbers;
              ticket = fits.ticket;
              waits = fits.waits;
              holds = λ k is. let turn = fits.holds k is in (turn.0, turn.1, refl);
            },
        (r.log, ap (λ ws. slice_index ws 2) (sym r.words), refl, fits.goes_on),
      )

  pub compares : (slots id : ℕ) (m : Mine) → m.0.count ≡ None → Allows (Rule history numbers) slots id m 2 (λ n. n) (Hears (step slots 2 0 0 none) m)
  compares slots id m idle s r deep at small =
      let l : List (ℕ × I) = longer m.0.seen m.0.told in
      let w : View I = record m.0 { seen = l; told = [] } in
      let fits = r.each id m.0 at in
      let learnt = hears m.0 r.log fits.goes_on fits.told in (
        w,
        keeps,
        tt,
        reviewed history numbers s r id m.0 w (set s.words 2 (slice_index s.words 2)) at (ap (λ ws. set ws 2 (slice_index ws 2)) r.words ∙ sym r.words) refl refl refl
            record {
              goes_on = (learnt.0, learnt.3);
              told = starts_nothing r.log;
              numbers = fits.numbers;
              ticket = fits.ticket;
              waits = fits.waits;
              holds = λ k is. absurd (cc);
            },
        (refl, learnt.1, learnt.2),
      )

  -- where one seat's view is set and another is added, each view is one of these or an old one
  each_split : (P : View I → Type 0) (views : List (View I)) (id : ℕ) (left right : View I) → P left → P right → ((j : ℕ) (u : View I) → j ≢ id → get_elem? views j ≡ some u → P u)
      → (j : ℕ) (u : View I) → get_elem? (set views id left ++ right ∷ []) j ≡ some u → P u
  each_split P views id left right mine new others j u at =
      ⊎_elim (λ (old : get_elem? (set views id left) j ≡ some u). each_set P views id left mine others j u old) (λ (same : right ≡ u). subst P same new) (at_snoc (set views id left) right u j at)

  slot_splits : (made : ℕ) (log : List (ℕ × I)) (views : List (View I)) (homes : List (maybe.Option (Option (Home T)))) (right : View I) → right.count ≡ None
      → IsKeptIn history numbers made log views homes → IsKeptIn history numbers made log (views ++ right ∷ []) homes
  slot_splits made log views homes right idle kept =
      ⊎_elim
      (λ (h : (home : Home T) × (homes ≡ some (Some home) ∷ []) × IsHome history numbers made log home × Free views).
      inl (h.0, h.1, h.2, λ j u at. ⊎_elim (λ (old : get_elem? views j ≡ some u). h.3 j u old) (λ (same : right ≡ u). subst (λ (x : View I). x.count ≡ None) same idle) (at_snoc views right u j at)))
      (λ (h : (homes ≡ none ∷ []) × Held views). let held = h.1 in inr (h.0, (held.0, held.1, held.2, at_longer views (right ∷ []) held.0 held.1 held.3, held.4)))
      kept

  pub notes : (id : ℕ) (v : View I) → Splits (Rule history numbers) id v v (note v)
  notes id v s r at =
      let fits = r.each id v at in
      let added : (f : View I → ℕ) → f (note v) ≡ 0 → sum_by f (set s.views id v ++ note v ∷ []) ≡ sum_by f s.views =
      λ f nothing. let same : sum_by f (set s.views id v) ≡ sum_by f s.views = sum_same f s.views id v v at refl in omega (arith, sum_by_push f (set s.views id v) (note v)) in
      record {
        serving = r.serving;
        drawn = r.drawn;
        made = r.made;
        log = r.log;
        words = r.words;
        tickets = λ k low high. added (λ x. times k (listed x.ticket)) refl ∙ r.tickets k low high;
        queue = ap (λ n. r.serving + n) (added (λ x. length (listed x.ticket)) refl) ∙ r.queue;
        owners = λ c below. added (λ x. times c x.numbers) refl ∙ r.owners c below;
        passes = added (λ x. length x.numbers) refl ∙ r.passes;
        few = r.few;
        later = r.later;
        each = each_split (Fits r.serving r.drawn r.made r.log) s.views id v (note v) fits
            record {
              goes_on = (fits.goes_on.0, λ c has. absurd (has_none c has));
              told = starts_nothing r.log;
              numbers = λ c has. absurd (has_none c has);
              ticket = λ k is. absurd (cc);
              waits = omega arith;
              holds = λ m is. absurd (cc);
            }
            (λ j u apart there. r.each j u there);
        slot = slot_splits r.made r.log (set s.views id v) s.homes (note v) refl (slot_stays history numbers r.made r.log s.views s.homes id v v at refl r.slot);
      }

  pub forks : (id : ℕ) (v : View I) (m : ℕ) → v.count ≡ Some m → m < 4294967295 → Splits (Rule history numbers) id v (counted v) (forked v)
  forks id v m holds room s r at =
      let fits = r.each id v at in
      let turn = fits.holds m holds in
      let next : or_zero v.count ≡ r.made = ap or_zero holds ∙ turn.0 in
      let views' : List (View I) = set s.views id (counted v) ++ forked v ∷ [] in
      let added : (f : View I → ℕ) → f (counted v) ≡ f v → sum_by f views' ≡ sum_by f s.views + f (forked v) =
      λ f kept. let same : sum_by f (set s.views id (counted v)) ≡ sum_by f s.views = sum_same f s.views id v (counted v) at kept in omega (arith, sum_by_push f (set s.views id (counted v)) (forked v)) in
      record {
        serving = r.serving;
        drawn = r.drawn;
        made = r.made + 1;
        log = r.log;
        words = r.words;
        tickets = λ k low high. let now = added (λ x. times k (listed x.ticket)) refl in let old = r.tickets k low high in omega arith;
        queue = let now = added (λ x. length (listed x.ticket)) refl in let old = r.queue in omega arith;
        owners = λ c below.
            let f : View I → ℕ = λ x. times c x.numbers in
            let now : sum_by f views' ≡ sum_by f s.views + f (forked v) = added f refl in
            dite (ℕ_discrete c r.made)
            (λ e. let old : sum_by f s.views ≡ 0 = sum_none f s.views (λ i u there. not_yet r c u (r.each i u there) (omega arith)) in
            let one : f (forked v) ≡ 1 + 0 = subst (λ x. times c (x ∷ []) ≡ 1 + 0) (e ∙ sym next) (times_here c []) in
            omega arith)
            (λ other. let old : sum_by f s.views ≡ 1 = r.owners c (omega arith) in
            let one : f (forked v) ≡ 0 = times_else c (or_zero v.count) [] (λ e. other (sym e ∙ next)) in
            omega arith);
        passes = let now : sum_by (λ (x : View I). length x.numbers) views' ≡ sum_by (λ (x : View I). length x.numbers) s.views + 1 = added (λ x. length x.numbers) refl in let old = r.passes in omega arith;
        few = let few = r.few in omega arith;
        later = λ c late. r.later c (omega arith);
        each = each_split (Fits r.serving r.drawn (r.made + 1) r.log) s.views id (counted v) (forked v)
            record {
              goes_on = fits.goes_on;
              told = fits.told;
              numbers = λ c has. let below = fits.numbers c has in omega arith;
              ticket = fits.ticket;
              waits = fits.waits;
              holds = λ k is. let same : or_zero v.count + 1 ≡ k = some_is (or_zero v.count + 1) k is in (omega arith, turn.1, turn.2);
            }
            record {
              goes_on = (
                fits.goes_on.0,
                λ c has. let is : c ≡ or_zero v.count = only c (or_zero v.count) has in
                    let late : r.made ≤ c = omega arith in r.later c late ∙ sym (ap (λ h. own h c) turn.2 ∙ r.later c late),
              );
              told = starts_nothing r.log;
              numbers = λ c has. let is : c ≡ or_zero v.count = only c (or_zero v.count) has in omega arith;
              ticket = λ k is. absurd (cc);
              waits = omega arith;
              holds = λ k is. absurd (cc);
            }
            (λ j u apart there. let theirs = r.each j u there in record {
              goes_on = theirs.goes_on;
              told = theirs.told;
              numbers = λ c has. let below = theirs.numbers c has in omega arith;
              ticket = theirs.ticket;
              waits = theirs.waits;
              holds = λ k is. absurd (one_holder history numbers s r j id u v k m apart there at is holds);
            });
        slot = ⊎_elim
            (λ (h : (home : Home T) × (s.homes ≡ some (Some home) ∷ []) × IsHome history numbers r.made r.log home × Free s.views). let none_holds = h.3 id v at in absurd (cc))
            (λ (h : (s.homes ≡ none ∷ []) × Held s.views).
            inr (h.0, (id, counted v, or_zero v.count + 1, at_longer (set s.views id (counted v)) (forked v ∷ []) id (counted v) (at_set_here s.views id v (counted v) at), refl)))
            r.slot;
      }
    where
      not_yet : (r : Rule history numbers s) (c : ℕ) (u : View I) → Fits r.serving r.drawn r.made r.log u → r.made ≤ c → times c u.numbers ≡ 0
      not_yet r c u fits late = absent c u.numbers (λ has. let below = fits.numbers c has in absurd (omega arith))

      only : (c k : ℕ) → Contains (k ∷ []) c → c ≡ k
      only c k (zero, inside, is) = sym is
      only c k (suc i, inside, is) = absurd (omega (arith, inside))

  pub informs : (id : ℕ) (v : View I) (other : ℕ) (w : View I) → v.count ≡ None → w.numbers ≡ [] → w.ticket ≡ None → w.count ≡ None
      → Joins (Rule history numbers) id v other w (informed v w) (fresh [])
  informs id v other w idle nobody waits_not holds_not s r at apart there =
      let fits = r.each id v at in
      let told : StartsWith r.log w.seen = ⊎_elim
      (λ (t : (other ≡ id) × (informed v w ≡ w)). absurd (apart t.0))
      (λ (t : (other ≢ id) × (get_elem? s.views other ≡ some w)). (r.each other w t.1).goes_on.0)
      (at_set s.views id other (informed v w) w there) in
      let first : Rule history numbers record { words = s.words; homes = s.homes; views = set s.views id (informed v w) } =
      reviewed history numbers s r id v (informed v w) s.words at refl refl refl refl
      record {
        goes_on = fits.goes_on;
        told = told;
        numbers = fits.numbers;
        ticket = fits.ticket;
        waits = fits.waits;
        holds = fits.holds;
      } in
      reviewed history numbers record { words = s.words; homes = s.homes; views = set s.views id (informed v w) } first other w (fresh []) s.words there refl (sym waits_not) (sym nobody) (sym holds_not)
      record {
        goes_on = (starts_nothing first.log, λ c has. absurd (has_none c has));
        told = starts_nothing first.log;
        numbers = λ c has. absurd (has_none c has);
        ticket = λ k is. absurd (cc);
        waits = omega arith;
        holds = λ k is. absurd (cc);
      }

  pub gathers : (id : ℕ) (v : View I) (other : ℕ) (w : View I) → v.seen ≡ w.seen → w.ticket ≡ None → w.count ≡ None
      → Joins (Rule history numbers) id v other w (gathered v w) (fresh [])
  gathers id v other w alike waits_not holds_not s r at apart there =
      let b : View I = gathered v w in
      let e : View I = fresh [] in
      let fits = r.each id v at in
      let old : get_elem? s.views other ≡ some w = ⊎_elim
      (λ (t : (other ≡ id) × (b ≡ w)). absurd (apart t.0))
      (λ (t : (other ≢ id) × (get_elem? s.views other ≡ some w)). t.1)
      (at_set s.views id other b w there) in
      let theirs = r.each other w old in
      let joined : (f : View I → ℕ) → f b + f e ≡ f v + f w → sum_by f (set (set s.views id b) other e) ≡ sum_by f s.views =
      λ f same. omega (arith, sum_set f s.views id v b at, sum_set f (set s.views id b) other w e there) in
      record {
        serving = r.serving;
        drawn = r.drawn;
        made = r.made;
        log = r.log;
        words = r.words;
        tickets = λ k low high. joined (λ x. times k (listed x.ticket)) (let none_there : times k (listed w.ticket) ≡ 0 = ap (λ o. times k (listed o)) waits_not in let nothing : times k (listed e.ticket) ≡ 0 = refl in omega arith) ∙ r.tickets k low high;
        queue = ap (λ n. r.serving + n) (joined (λ x. length (listed x.ticket)) (let none_there : length (listed w.ticket) ≡ 0 = ap (λ o. length (listed o)) waits_not in let nothing : length (listed e.ticket) ≡ 0 = refl in omega arith)) ∙ r.queue;
        owners = λ c below. joined (λ x. times c x.numbers) (let nothing : times c e.numbers ≡ 0 = refl in omega (arith, times-append c v.numbers w.numbers)) ∙ r.owners c below;
        passes = joined (λ x. length x.numbers) (let nothing : length e.numbers ≡ 0 = refl in omega (arith, length-append v.numbers w.numbers)) ∙ r.passes;
        few = r.few;
        later = r.later;
        each = each_set (Fits r.serving r.drawn r.made r.log) (set s.views id b) other e
            record {
              goes_on = (starts_nothing r.log, λ c has. absurd (has_none c has));
              told = starts_nothing r.log;
              numbers = λ c has. absurd (has_none c has);
              ticket = λ k is. absurd (cc);
              waits = omega arith;
              holds = λ k is. absurd (cc);
            }
            (λ j u _ at_j. each_set (Fits r.serving r.drawn r.made r.log) s.views id b
            record {
              goes_on = (fits.goes_on.0, λ c has. ⊎_elim (fits.goes_on.1 c) (λ (h : Contains w.numbers c). theirs.goes_on.1 c h ∙ ap (λ x. own x c) (sym alike)) (Contains-append_cases v.numbers w.numbers c has));
              told = fits.told;
              numbers = λ c has. ⊎_elim (fits.numbers c) (theirs.numbers c) (Contains-append_cases v.numbers w.numbers c has);
              ticket = fits.ticket;
              waits = let few = fits.waits in omega (arith, length-append v.numbers w.numbers);
              holds = fits.holds;
            }
            (λ i x _ at_i. r.each i x at_i) j u at_j);
        slot = slot_stays history numbers r.made r.log (set s.views id b) s.homes other w e there (sym holds_not) (slot_stays history numbers r.made r.log s.views s.homes id v b at refl r.slot);
      }

  -- the lock as it is made
  pub begins : (home : Home T) → history home.value ≡ [] → numbers home.value ≡ 1 → home.made ≡ 1 → Rule history numbers (opening (0 ∷ 0 ∷ 0 ∷ []) (Some home ∷ []) (fresh (0 ∷ [])))
  begins home empty one made = record {
    serving = 0;
    drawn = 0;
    made = 1;
    log = [];
    words = refl;
    tickets = λ k low high. absurd (omega arith);
    queue = refl;
    owners = λ c below. let zero_is : 0 ≡ c = omega arith in subst (λ x. sum_by (λ (v : View I). times x v.numbers) (fresh (0 ∷ []) ∷ []) ≡ 1) zero_is refl;
    passes = refl;
    few = omega arith;
    later = λ c late. refl;
    each = λ i v at. subst (Fits 0 0 1 []) (first i v at)
        record {
          goes_on = (starts [], λ c has. refl);
          told = starts [];
          numbers = λ c has. by_place c has;
          ticket = λ k is. absurd (cc);
          waits = omega arith;
          holds = λ k is. absurd (cc);
        };
    slot = inl (home, refl, (empty, one, made), λ i v at. subst (λ (u : View I). u.count ≡ None) (first i v at) refl);
  }
    where
      first : (i : ℕ) (v : View I) → get_elem? (fresh (0 ∷ []) ∷ []) i ≡ some v → fresh (0 ∷ []) ≡ v
      first zero v at = some-injective (fresh (0 ∷ [])) v at
      first (suc i) v at = absurd (some-ne-none v (sym at))

      by_place : (c : ℕ) → Contains (0 ∷ []) c → c < 1
      by_place c (zero, inside, is) = let same : 0 ≡ c = is in omega arith
      by_place c (suc i, inside, is) = absurd (omega (arith, inside))
