-- Drawing a ticket, looking for the turn, and passing it on keep the rule.
use Rattle.std.proofs.Common.{◌≡◌, ◌≢◌, ℕ, ◌+◌, ◌%◌, ◌<◌, List, [], ◌∷◌, length, set, Option, Some, None, Bool, true, false, eqb, refl, sym, ap, ◌∙◌, subst, ⊎_elim, inl, inr, arith}
use Rattle.std.specs.Prelude.{MatchBool, slice_index}
use Rattle.std.specs.List.{Contains, sum_by}
use Rattle.std.proofs.lemmas.Bool.{eqb-true}
use mathlib.Core.Logic.{dite}
use mathlib.Core.Option.{some, none, some-injective}
use native.Mathlib.Decide.{ℕ_discrete}
use lib.ListN.{get_elem?}
use Rattle.atomic_table.specs.Table.{Me, step, Act, keeps, takes, gives, stepped, Valid, carried_after, rest, Allows}
use Rattle.atomic_table.proofs.Lists.{one_turn}
use Rattle.jsh_turnlock.specs.declared.view.View.{View}
use Rattle.jsh_turnlock.specs.declared.view.Home.{Home}
use Rattle.jsh_turnlock.specs.History.{own, StartsWith, IsAddedBy}
use Rattle.jsh_turnlock.specs.Rule.{times, listed, or_zero, GoesOn, Fits, Held, Free, IsHome, Draws, Looks, Takes, Counts, PassesOn}
use Rattle.jsh_turnlock.proofs.Lists.{sum_set, sum_same, sum_none, each_set, at_set_here, times_here, times_else}
use Rattle.jsh_turnlock.proofs.Histories.{starts, starts_through, added_other}
use Rattle.jsh_turnlock.proofs.Rules.{St, Rule, some_is, one_ticket, one_owner, one_holder, few_wait, slot_stays, reviewed}

-- one more, modulo 2^64
next_word : (n : ℕ) → (n % 18446744073709551616 + 1) % 18446744073709551616 ≡ (n + 1) % 18446744073709551616
next_word n = omega arith

module _ {T I : Type 0} (history : T → List (ℕ × I)) (numbers : T → ℕ) where
  abbrev Mine : Type 0
  Mine = Me (Option (Home T)) (View I)

  -- a seat with a number and no ticket draws the next one
  drawn : (s : St history numbers) (r : Rule history numbers s) (id : ℕ) (v : View I) → get_elem? s.views id ≡ some v → v.ticket ≡ None → 0 < length v.numbers
      → Rule history numbers record { words = set s.words 0 ((slice_index s.words 0 + 1) % 18446744073709551616); homes = s.homes; views = set s.views id (record v { ticket = Some r.drawn }) }
  drawn s r id v at idle pass =
      let w : View I = record v { ticket = Some r.drawn } in
      let fits = r.each id v at in
      let f : ℕ → View I → ℕ = λ k x. times k (listed x.ticket) in
      let lists : View I → ℕ = λ x. length (listed x.ticket) in
      let queue : r.serving + sum_by lists s.views ≡ r.drawn = r.queue in
      let undrawn : sum_by (f r.drawn) s.views ≡ 0 = sum_none (f r.drawn) s.views (λ i u there. by_ticket r u (r.each i u there) u.ticket refl) in
      record {
        serving = r.serving;
        drawn = r.drawn + 1;
        made = r.made;
        log = r.log;
        words = ap (λ ws. set ws 0 ((slice_index ws 0 + 1) % 18446744073709551616)) r.words ∙ ap (λ n. n ∷ r.serving % 18446744073709551616 ∷ length r.log ∷ []) (next_word r.drawn);
        tickets = λ k low high.
            let moved : sum_by (f k) (set s.views id w) + f k v ≡ sum_by (f k) s.views + f k w = sum_set (f k) s.views id v w at in
            let before : f k v ≡ 0 = ap (λ o. times k (listed o)) idle in
            dite (ℕ_discrete k r.drawn)
            (λ e. let now : f k w ≡ 1 + 0 = subst (λ n. times k (n ∷ []) ≡ 1 + 0) e (times_here k []) in
            let old : sum_by (f k) s.views ≡ 0 = subst (λ n. sum_by (f n) s.views ≡ 0) (sym e) undrawn in
            omega arith)
            (λ other. let now : f k w ≡ 0 = times_else k r.drawn [] (λ e. other (sym e)) in
            let old : sum_by (f k) s.views ≡ 1 = r.tickets k low (omega arith) in
            omega arith);
        queue =
            let moved : sum_by lists (set s.views id w) + lists v ≡ sum_by lists s.views + lists w = sum_set lists s.views id v w at in
            let before : lists v ≡ 0 = ap (λ o. length (listed o)) idle in
            let now : lists w ≡ 1 = refl in
            omega arith;
        owners = λ c below. sum_same (λ (x : View I). times c x.numbers) s.views id v w at refl ∙ r.owners c below;
        passes = sum_same (λ (x : View I). length x.numbers) s.views id v w at refl ∙ r.passes;
        few = r.few;
        later = r.later;
        each = each_set (Fits r.serving (r.drawn + 1) r.made r.log) s.views id w
            record {
              goes_on = fits.goes_on;
              told = fits.told;
              numbers = fits.numbers;
              ticket = λ k is. let same : r.drawn ≡ k = some_is r.drawn k is in omega arith;
              waits = omega arith;
              holds = λ m is. let has = (fits.holds m is).1 in absurd (cc);
            }
            (λ j u apart there. later_ticket (r.each j u there));
        slot = slot_stays history numbers r.made r.log s.views s.homes id v w at refl r.slot;
      }
    where
      by_ticket : (r : Rule history numbers s) (u : View I) → Fits r.serving r.drawn r.made r.log u → (o : Option ℕ) → u.ticket ≡ o → times r.drawn (listed u.ticket) ≡ 0
      by_ticket r u fits None is = ap (λ o. times r.drawn (listed o)) is
      by_ticket r u fits (Some k) is =
          let inside = fits.ticket k is in
          ap (λ o. times r.drawn (listed o)) is ∙ times_else r.drawn k [] (λ e. omega arith)

      later_ticket : {serving drawn made : ℕ} {log : List (ℕ × I)} {u : View I} → Fits serving drawn made log u → Fits serving (drawn + 1) made log u
      later_ticket fits = record {
        goes_on = fits.goes_on;
        told = fits.told;
        numbers = fits.numbers;
        ticket = λ k is. let inside = fits.ticket k is in omega arith;
        waits = fits.waits;
        holds = fits.holds;
      }

  pub draws : (slots id : ℕ) (m : Mine) → m.0.ticket ≡ None → 0 < length m.0.numbers
      → Allows (Rule history numbers) slots id m 0 (λ n. (n + 1) % 18446744073709551616) (Draws (step slots 0 1 0 none) m)
  draws slots id m idle pass s r deep at small = (
    record m.0 { ticket = Some r.drawn },
    keeps,
    tt,
    drawn s r id m.0 at idle pass,
    (r.drawn, ap (λ ws. slice_index ws 0) r.words, refl),
  )

  -- the value is home where a seat's ticket is served and it has not looked yet
  home_is : (s : St history numbers) (r : Rule history numbers s) (id : ℕ) (v : View I) → get_elem? s.views id ≡ some v → v.ticket ≡ Some r.serving → v.count ≡ None
      → (home : Home T) × (s.homes ≡ some (Some home) ∷ []) × IsHome history numbers r.made r.log home × Free s.views
  home_is s r id v at served idle = ⊎_elim (λ h. h) (λ (h : (s.homes ≡ none ∷ []) × Held s.views). absurd (out h.1)) r.slot
    where
      out : Held s.views → ⊥
      out h = dite (ℕ_discrete h.0 id)
          (λ e. let mine : h.1 ≡ v = some-injective h.1 v (sym h.3 ∙ ap (get_elem? s.views) e ∙ at) in
          let idle' : h.1.count ≡ None = ap (λ (u : View I). u.count) mine ∙ idle in
          let held : h.1.count ≡ Some h.2 = h.4 in
          absurd (cc))
          (λ other. one_ticket history numbers s r h.0 id h.1 v r.serving other h.3 at ((r.each h.0 h.1 h.3).holds h.2 h.4).1 served)

  -- the ticket that is served is the seat's where the words agree
  is_served : (s : St history numbers) (r : Rule history numbers s) (id : ℕ) (v : View I) (k : ℕ) → get_elem? s.views id ≡ some v → v.ticket ≡ Some k
      → r.serving % 18446744073709551616 ≡ k % 18446744073709551616 → r.serving ≡ k
  is_served s r id v k at has same =
      let inside = (r.each id v at).ticket k has in
      let few = few_wait history numbers s r in
      one_turn r.serving k 18446744073709551616 inside.0 (omega arith) same

  -- the seat whose ticket is served takes the value out
  took : (s : St history numbers) (r : Rule history numbers s) (id : ℕ) (v : View I) (at : get_elem? s.views id ≡ some v) → v.ticket ≡ Some r.serving → v.count ≡ None
      → (home : Home T) → s.homes ≡ some (Some home) ∷ [] → IsHome history numbers r.made r.log home → Free s.views
      → Rule history numbers record { words = set s.words 1 (slice_index s.words 1); homes = set s.homes 0 none; views = set s.views id (record v { seen = history home.value; count = Some home.made }) }
  took s r id v at served idle home homes is free =
      let w : View I = record v { seen = history home.value; count = Some home.made } in
      let fits = r.each id v at in
      record {
        serving = r.serving;
        drawn = r.drawn;
        made = r.made;
        log = r.log;
        words = ap (λ ws. set ws 1 (slice_index ws 1)) r.words;
        tickets = λ k low high. sum_same (λ (x : View I). times k (listed x.ticket)) s.views id v w at refl ∙ r.tickets k low high;
        queue = ap (λ n. r.serving + n) (sum_same (λ (x : View I). length (listed x.ticket)) s.views id v w at refl) ∙ r.queue;
        owners = λ c below. sum_same (λ (x : View I). times c x.numbers) s.views id v w at refl ∙ r.owners c below;
        passes = sum_same (λ (x : View I). length x.numbers) s.views id v w at refl ∙ r.passes;
        few = r.few;
        later = r.later;
        each = each_set (Fits r.serving r.drawn r.made r.log) s.views id w
            record {
              goes_on = (subst (StartsWith r.log) (sym is.0) (starts r.log), λ c has. ap (λ h. own h c) (sym is.0));
              told = fits.told;
              numbers = fits.numbers;
              ticket = fits.ticket;
              waits = fits.waits;
              holds = λ m count. (sym (some_is home.made m count) ∙ is.2, served, is.0);
            }
            (λ j u apart there. r.each j u there);
        slot = inr (ap (λ hs. set hs 0 none) homes, (id, w, home.made, at_set_here s.views id v w at, refl));
      }

  pub looks : (slots id : ℕ) (m : Mine) (k : ℕ) → m.0.ticket ≡ Some k → m.0.count ≡ None
      → Allows (Rule history numbers) slots id m 1 (λ n. n) (Looks history numbers (step slots 1 0 0 none) m)
  looks slots id m k has idle s r deep at small = by_test (eqb found (or_zero m.0.ticket % 18446744073709551616)) refl
    where
      found : ℕ
      found = slice_index s.words 1

      by_test : (b : Bool) → eqb found (or_zero m.0.ticket % 18446744073709551616) ≡ b
          → (w : View I) × (a : Act (Option (Home T))) × Valid s.homes m.1 a × Rule history numbers (stepped s 1 found id m.1 w a) × Looks history numbers (step slots 1 0 0 none) m found (w, carried_after m.1 a)
      by_test true is =
          let same : r.serving % 18446744073709551616 ≡ k % 18446744073709551616 =
          ap (λ ws. slice_index ws 1) (sym r.words) ∙ (eqb-true found (or_zero m.0.ticket % 18446744073709551616) is ∙ ap (λ o. or_zero o % 18446744073709551616) has) in
          let served : m.0.ticket ≡ Some r.serving = has ∙ ap Some (sym (is_served s r id m.0 k at has same)) in
          let h = home_is s r id m.0 at served idle in
          let home : Home T = h.0 in
          let fits = r.each id m.0 at in (
            record m.0 { seen = history home.value; count = Some home.made },
            takes 0 (Some home),
            ap (λ hs. get_elem? hs 0) h.1,
            took s r id m.0 at served idle home h.1 h.2 h.3,
            subst (λ b. MatchBool b (Takes history numbers m (record m.0 { seen = history home.value; count = Some home.made }, (0, Some home) ∷ m.1)) ((record m.0 { seen = history home.value; count = Some home.made }, (0, Some home) ∷ m.1) ≡ m)) (sym is)
                (home, refl, subst (GoesOn m.0) (sym h.2.0) fits.goes_on, h.2.1 ∙ sym h.2.2, λ c mine. subst (λ n. c < n) (sym h.2.2) (fits.numbers c mine)),
          )
      by_test false is = (
        m.0,
        keeps,
        tt,
        reviewed history numbers s r id m.0 m.0 (set s.words 1 found) at (ap (λ ws. set ws 1 (slice_index ws 1)) r.words ∙ sym r.words) refl refl refl (r.each id m.0 at),
        subst (λ b. MatchBool b (Takes history numbers m m) (m ≡ m)) (sym is) refl,
      )

  -- the holder has put the value back into its hand, and the length counts its new entries
  counted : (s : St history numbers) (r : Rule history numbers s) (id : ℕ) (v : View I) → get_elem? s.views id ≡ some v → (m n k : ℕ) → v.count ≡ Some m → Contains v.numbers n
      → (now : List (ℕ × I)) → IsAddedBy n v.seen now → length now ≡ length v.seen + k → length now < 18446744073709551616
      → Rule history numbers record { words = set s.words 2 ((slice_index s.words 2 + k) % 18446744073709551616); homes = s.homes; views = set s.views id (record v { seen = now }) }
  counted s r id v at m n k holds mine now added long small =
      let w : View I = record v { seen = now } in
      let fits = r.each id v at in
      let turn = fits.holds m holds in
      let more : StartsWith now r.log = subst (StartsWith now) turn.2 (added.0, added.1) in
      let inside : n < r.made = fits.numbers n mine in
      let sum : length r.log + k ≡ length now = ap (λ h. length h + k) (sym turn.2) ∙ sym long in
      let same : (c : ℕ) → c ≢ n → own now c ≡ own r.log c = λ c other. added_other n c v.seen now added other ∙ ap (λ h. own h c) turn.2 in
      record {
        serving = r.serving;
        drawn = r.drawn;
        made = r.made;
        log = now;
        words = ap (λ ws. set ws 2 ((slice_index ws 2 + k) % 18446744073709551616)) r.words ∙ ap (λ x. r.drawn % 18446744073709551616 ∷ r.serving % 18446744073709551616 ∷ x ∷ []) (omega arith);
        tickets = λ t low high. sum_same (λ (x : View I). times t (listed x.ticket)) s.views id v w at refl ∙ r.tickets t low high;
        queue = ap (λ x. r.serving + x) (sum_same (λ (x : View I). length (listed x.ticket)) s.views id v w at refl) ∙ r.queue;
        owners = λ c below. sum_same (λ (x : View I). times c x.numbers) s.views id v w at refl ∙ r.owners c below;
        passes = sum_same (λ (x : View I). length x.numbers) s.views id v w at refl ∙ r.passes;
        few = r.few;
        later = λ c late. same c (λ e. omega arith) ∙ r.later c late;
        each = each_set (Fits r.serving r.drawn r.made now) s.views id w
            record {
              goes_on = (starts now, λ c has. refl);
              told = starts_through now r.log v.told more fits.told;
              numbers = fits.numbers;
              ticket = fits.ticket;
              waits = fits.waits;
              holds = λ m' is. let t = fits.holds m' is in (t.0, t.1, refl);
            }
            (λ j u apart there. let theirs = r.each j u there in record {
              goes_on = (starts_through now r.log u.seen more theirs.goes_on.0, λ c has. same c (λ e. absurd (one_owner history numbers s r j id u v n apart there at (subst (Contains u.numbers) e has) mine)) ∙ theirs.goes_on.1 c has);
              told = starts_through now r.log u.told more theirs.told;
              numbers = theirs.numbers;
              ticket = theirs.ticket;
              waits = theirs.waits;
              holds = λ m' is. absurd (one_holder history numbers s r j id u v m' m apart there at is holds);
            });
        slot = ⊎_elim
            (λ (h : (home : Home T) × (s.homes ≡ some (Some home) ∷ []) × IsHome history numbers r.made r.log home × Free s.views). let none_holds = h.3 id v at in absurd (cc))
            (λ (h : (s.homes ≡ none ∷ []) × Held s.views). inr (h.0, (id, w, m, at_set_here s.views id v w at, holds)))
            r.slot;
      }

  pub counts : (slots id : ℕ) (mine : Mine) (home : Home T) (m n k : ℕ) → mine.1 ≡ (0, Some home) ∷ [] → mine.0.count ≡ Some m → Contains mine.0.numbers n
      → IsAddedBy n mine.0.seen (history home.value) → length (history home.value) ≡ length mine.0.seen + k → length (history home.value) < 18446744073709551616
      → Allows (Rule history numbers) slots id mine 2 (λ x. (x + k) % 18446744073709551616) (Counts history (step slots 2 k 0 none) mine)
  counts slots id mine home m n k has holds own_number added long small s r deep at _ = (
    record mine.0 { seen = history home.value },
    keeps,
    tt,
    counted s r id mine.0 at m n k holds own_number (history home.value) added long small,
    λ home' has'. let same : home ≡ home' = one_home (sym has ∙ has') in ap (λ (x : Home T). let v : View I = record mine.0 { seen = history x.value } in (v, mine.1)) same,
  )
    where
      home_or : Home T → List (ℕ × Option (Home T)) → Home T
      home_or d [] = d
      home_or d ((i, None) ∷ xs) = d
      home_or d ((i, Some x) ∷ xs) = x

      one_home : {a b : Home T} → ◌≡◌ {A = List (ℕ × Option (Home T))} ((0, Some a) ∷ []) ((0, Some b) ∷ []) → a ≡ b
      one_home {a} e = ap (home_or a) e

  -- the value comes home, and the next ticket is served
  passed : (s : St history numbers) (r : Rule history numbers s) (id : ℕ) (v : View I) → get_elem? s.views id ≡ some v → (m : ℕ) → v.count ≡ Some m
      → (home : Home T) → history home.value ≡ v.seen → numbers home.value ≡ m → home.made ≡ m
      → Rule history numbers record { words = set s.words 1 ((slice_index s.words 1 + 1) % 18446744073709551616); homes = set s.homes 0 (some (Some home)); views = set s.views id (record v { ticket = None; count = None }) }
  passed s r id v at m holds home is_seen counts_to made_is =
      let w : View I = record v { ticket = None; count = None } in
      let fits = r.each id v at in
      let turn = fits.holds m holds in
      let f : ℕ → View I → ℕ = λ k x. times k (listed x.ticket) in
      let lists : View I → ℕ = λ x. length (listed x.ticket) in
      let queue : r.serving + sum_by lists s.views ≡ r.drawn = r.queue in
      record {
        serving = r.serving + 1;
        drawn = r.drawn;
        made = r.made;
        log = r.log;
        words = ap (λ ws. set ws 1 ((slice_index ws 1 + 1) % 18446744073709551616)) r.words ∙ ap (λ n. r.drawn % 18446744073709551616 ∷ n ∷ length r.log ∷ []) (next_word r.serving);
        tickets = λ k low high.
            let moved : sum_by (f k) (set s.views id w) + f k v ≡ sum_by (f k) s.views + f k w = sum_set (f k) s.views id v w at in
            let before : f k v ≡ 0 = ap (λ o. times k (listed o)) turn.1 ∙ times_else k r.serving [] (λ e. omega arith) in
            let now : f k w ≡ 0 = refl in
            let old : sum_by (f k) s.views ≡ 1 = r.tickets k (omega arith) high in
            omega arith;
        queue =
            let moved : sum_by lists (set s.views id w) + lists v ≡ sum_by lists s.views + lists w = sum_set lists s.views id v w at in
            let before : lists v ≡ 1 = ap (λ o. length (listed o)) turn.1 in
            let now : lists w ≡ 0 = refl in
            omega arith;
        owners = λ c below. sum_same (λ (x : View I). times c x.numbers) s.views id v w at refl ∙ r.owners c below;
        passes = sum_same (λ (x : View I). length x.numbers) s.views id v w at refl ∙ r.passes;
        few = r.few;
        later = r.later;
        each = each_set (Fits (r.serving + 1) r.drawn r.made r.log) s.views id w
            record {
              goes_on = fits.goes_on;
              told = fits.told;
              numbers = fits.numbers;
              ticket = λ k is. absurd (cc);
              waits = omega arith;
              holds = λ m' is. absurd (cc);
            }
            (λ j u apart there. let theirs = r.each j u there in record {
              goes_on = theirs.goes_on;
              told = theirs.told;
              numbers = theirs.numbers;
              ticket = λ k is.
                  let inside = theirs.ticket k is in
                  let other : k ≢ r.serving = λ e. one_ticket history numbers s r j id u v r.serving apart there at (is ∙ ap Some e) turn.1 in
                  (omega arith, inside.1);
              waits = theirs.waits;
              holds = λ m' is. absurd (one_holder history numbers s r j id u v m' m apart there at is holds);
            });
        slot = inl (
          home,
          homes r,
          (is_seen ∙ turn.2, counts_to ∙ turn.0, made_is ∙ turn.0),
          each_set (λ (u : View I). u.count ≡ None) s.views id w refl (λ j u apart there. none_holds r j u apart there u.count refl),
        );
      }
    where
      homes : Rule history numbers s → set s.homes 0 (some (Some home)) ≡ some (Some home) ∷ []
      homes r = ⊎_elim
          (λ (h : (at_home : Home T) × (s.homes ≡ some (Some at_home) ∷ []) × IsHome history numbers r.made r.log at_home × Free s.views). ap (λ hs. set hs 0 (some (Some home))) h.1)
          (λ (h : (s.homes ≡ none ∷ []) × Held s.views). ap (λ hs. set hs 0 (some (Some home))) h.0)
          r.slot

      none_holds : Rule history numbers s → (j : ℕ) (u : View I) → j ≢ id → get_elem? s.views j ≡ some u → (o : Option ℕ) → u.count ≡ o → u.count ≡ None
      none_holds r j u apart there None is = is
      none_holds r j u apart there (Some m') is = absurd (one_holder history numbers s r j id u v m' m apart there at is holds)

  pub passes_on : (slots id : ℕ) (mine : Mine) (home : Home T) (m : ℕ) → mine.1 ≡ (0, Some home) ∷ [] → mine.0.count ≡ Some m
      → history home.value ≡ mine.0.seen → numbers home.value ≡ m → home.made ≡ m
      → Allows (Rule history numbers) slots id mine 1 (λ n. (n + 1) % 18446744073709551616) (PassesOn (step slots 1 1 0 none) mine)
  passes_on slots id mine home m has holds is_seen counts_to made_is s r deep at small = (
    record mine.0 { ticket = None; count = None },
    gives,
    tt,
    subst (λ (c : List (ℕ × Option (Home T))). Rule history numbers (stepped s 1 ((slice_index s.words 1 + 1) % 18446744073709551616) id c (record mine.0 { ticket = None; count = None }) gives)) (sym has)
        (passed s r id mine.0 at m holds home is_seen counts_to made_is),
    ap (λ (c : List (ℕ × Option (Home T))). let v : View I = record mine.0 { ticket = None; count = None } in (v, rest c)) has,
  )
