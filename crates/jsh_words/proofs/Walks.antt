-- The walk of `clap` over the words uses their parts in order, and fails where they have none.
use Rattle.std.proofs.Common.{◌≡◌, ℕ, ◌<◌, Bool, true, false, ◌&&◌, ◌||◌, List, [], ◌∷◌, map, length, codes, Option, Some, None, refl, sym, ap, ap₂, ◌∙◌, subst, arith}
use Rattle.std.specs.Prelude.{if◌then◌else◌, nat_lt, option_map, fold, slice_get, drop, encode_utf8}
use Rattle.std.specs.Option.{option_map_or}
use Rattle.std.specs.Str.{bytes_eq, chars, IsUtf8}
use Rattle.std.proofs.lemmas.Cmp.{nat_list_eq_equiv}
use Rattle.clap.specs.Lexer.{long_of}
use Rattle.clap.specs.Walk.{Held, Row, Rule, Step, Waiting, Walk, idle, positional, option as awaits, next, trailing, value as to_scripts}
use Rattle.clap.specs.Walk.{arg_by_id, arg_by_index, arg_by_long, arg_by_short, walked, after_step, to_positional, is_pending}
use Rattle.clap.specs.Walk.{subcommand_met, subcommand_or_other, long_or_other, long_met, after_flag, short_or_plain, plain_word, option_word, word_met}
use Rattle.clap.specs.Walk.{pushed, settled, settled_rows, used, used_by_id, reacted}
use Rattle.clap.specs.Simple.{Shape, new_shape}
use Rattle.clap.specs.Kinds.{Kinds, or_else}
use Rattle.clap.specs.Faults.{walk_fault, turn_fault, word_fault, other_fault, flag_word_fault, long_fault, step_fault, positional_fault, settle_fault, use_fault, bundle_fault, bundle_step_fault, flags_fault, short_fault, stray_fault}
use Rattle.clap.specs.declared.error.kind.ErrorKind.{ErrorKind}
use Rattle.clap.specs.declared.error.kind.ErrorKind.TheVariants as kind
use Rattle.jsh_words.specs.Parts.{Part, Word, rest, option, unknown, plain, word_of, script, is_option, step, with_part, parts_from}
use Rattle.jsh_words.proofs.Shapes.{dashes, Hyphened, Shows, shown, has_flag}
use Rattle.jsh_words.proofs.Rules.{opt, scripts}

-- what the arguments of the command are known by
pub record Reads (c : List Rule) : Type 0 where
  pub long : (name : List ℕ) → is_option name ≡ true → arg_by_long c name ≡ Some (opt name)
  pub other : (name : List ℕ) → is_option name ≡ false → arg_by_long c name ≡ None
  pub id : (name : List ℕ) → is_option name ≡ true → arg_by_id c name ≡ Some (opt name)
  pub script_id : arg_by_id c script ≡ Some scripts
  pub index : arg_by_index c 1 ≡ Some scripts
  pub short : (x : ℕ) → arg_by_short c x ≡ None

abbrev pub shape : List Rule → Shape
shape c = record (new_shape (codes "jsh")) {
  rules = c;
  no_binary_name = true;
  disable_help_flag = true;
  disable_help_subcommand = true;
  is_built = true;
}

-- ---- kinds of faults

pub or_else_assoc : (a b d : Kinds) → or_else (or_else a b) d ≡ or_else a (or_else b d)
or_else_assoc [] b d = refl
or_else_assoc (k ∷ ks) b d = refl

pub or_else_nothing : (a : Kinds) → or_else a [] ≡ a
or_else_nothing [] = refl
or_else_nothing (k ∷ ks) = refl

pub second_fails : (a b : Kinds) → or_else a b ≡ [] → b ≡ []
second_fails [] b e = e
second_fails (k ∷ ks) b e = absurd (cc)

pub first_fails : (a b : Kinds) → or_else a b ≡ [] → a ≡ []
first_fails [] b e = refl
first_fails (k ∷ ks) b e = e

pub never : (k : ErrorKind) (ks fault : Kinds) → fault ≡ k ∷ ks → fault ≡ [] → ⊥
never k ks fault is none = absurd (cc)

and_false : (b : Bool) → (b && false) ≡ false
and_false true = refl
and_false false = refl

or_false : (b : Bool) → (b || false) ≡ b
or_false true = refl
or_false false = refl

-- ---- parts, used in order

abbrev pub pend : Option Part → Option (List ℕ × List (List ℕ))
pend None = None
pend (Some part) = Some (part.0, part.1 ∷ [])

abbrev pub held : List Row → Option (List ℕ × List (List ℕ)) → Held
held rows pending = record { rows = rows; pending = pending; skip = 0 }

abbrev pub at : List Row → Option (List ℕ × List (List ℕ)) → Waiting → Bool → Walk
at rows pending waiting is_trailing = record { held = held rows pending; waiting = waiting; position = 1; is_trailing = is_trailing; stopped = None }

abbrev pub behind : Option Part → List Part → List Part
behind None parts = parts
behind (Some part) parts = part ∷ parts

abbrev pub ready : Bool → Waiting
ready true = positional
ready false = idle

abbrev pub AllUtf8 : List (List ℕ) → Type 0
AllUtf8 [] = Unit {0}
AllUtf8 (word ∷ words) = IsUtf8 word × AllUtf8 words

module _ (c : List Rule) where
  abbrev pub pend_fault : List Row → Option Part → Kinds
  pend_fault rows part = settle_fault c false (held rows (pend part))

  abbrev pub pend_rows : List Row → Option Part → List Row
  pend_rows rows part = settled_rows c (pend part) rows

  abbrev pub parts_fault : List Row → List Part → Kinds
  parts_fault rows [] = []
  parts_fault rows (part ∷ parts) = or_else (pend_fault rows (Some part)) (parts_fault (pend_rows rows (Some part)) parts)

  abbrev pub parts_rows : List Row → List Part → List Row
  parts_rows rows [] = rows
  parts_rows rows (part ∷ parts) = parts_rows (pend_rows rows (Some part)) parts

  -- how a walk goes on and ends
  abbrev pub fails : Walk → List (List ℕ) → Kinds
  fails w words = or_else (walk_fault (shape c) [] w words) (settle_fault c false (fold (walked c []) w words).held)

  abbrev pub ends : Walk → List (List ℕ) → List Row
  ends w words = (settled c (fold (walked c []) w words).held).rows

  abbrev pub Meets : List Row → Option (List Part) → Kinds → List Row → Type 0
  Meets rows None fault end = fault ≡ [] → ⊥
  Meets rows (Some parts) fault end = (fault ≡ parts_fault rows parts) × (end ≡ parts_rows rows parts)

  more : (rows : List Row) (part : Part) (given : Option (List Part)) (fault : Kinds) (end : List Row)
      → Meets (pend_rows rows (Some part)) given fault end → Meets rows (option_map (λ parts. part ∷ parts) given) (or_else (pend_fault rows (Some part)) fault) end
  more rows part None fault end m = λ e. m (second_fails (pend_fault rows (Some part)) fault e)
  more rows part (Some parts) fault end m = (ap (or_else (pend_fault rows (Some part))) m.0, m.1)

  shift : (rows : List Row) (p : Option Part) (given : Option (List Part)) (fault : Kinds) (end : List Row)
      → Meets (pend_rows rows p) given fault end → Meets rows (option_map (behind p) given) (or_else (pend_fault rows p) fault) end
  shift rows None None fault end m = m
  shift rows None (Some parts) fault end m = m
  shift rows (Some part) given fault end m = more rows part given fault end m

  -- the fault of a turn comes first
  turns : (w after : Walk) (word : List ℕ) (words : List (List ℕ)) (fault : Kinds) → turn_fault (shape c) [] w word ≡ fault → walked c [] w word ≡ after
      → (fails w (word ∷ words) ≡ or_else fault (fails after words)) × (ends w (word ∷ words) ≡ ends after words)
  unfolding walk_fault
  turns w after word words fault is goes = (
    or_else_assoc (turn_fault (shape c) [] w word) (walk_fault (shape c) [] (walked c [] w word) words) (settle_fault c false (fold (walked c []) (walked c [] w word) words).held)
        ∙ ap₂ (λ f v. or_else f (fails v words)) is goes,
    ap (λ v. ends v words) goes,
  )

  meets : (rows : List Row) (given : Option (List Part)) (f g : Kinds) (a b : List Row) → f ≡ g → a ≡ b → Meets rows given g b → Meets rows given f a
  meets rows given f g a b e e' m = subst (λ x. Meets rows given x a) (sym e) (subst (λ x. Meets rows given g x) (sym e') m)

  -- a turn by what its word is
  turned : (rows : List Row) (pending : Option (List ℕ × List (List ℕ))) (waiting : Waiting) (word : List ℕ) (fault : Kinds) (h : Held) (s : Step)
      → word_fault (shape c) [] false waiting word (held rows pending) ≡ fault → word_met c [] false waiting 1 word (held rows pending) ≡ (h, s)
      → (turn_fault (shape c) [] (at rows pending waiting false) word ≡ or_else fault (step_fault (shape c) 1 h s)) × (walked c [] (at rows pending waiting false) word ≡ after_step c word (at rows pending waiting false) h s)
  unfolding walked
  turned rows pending waiting word fault h s is met = (
    ap₂ (λ f (m : Held × Step). or_else f (step_fault (shape c) 1 m.0 m.1)) is met,
    ap (λ (m : Held × Step). after_step c word (at rows pending waiting false) m.0 m.1) met,
  )

  -- what a word is for `clap`
  word_is : (waiting : Waiting) (word : List ℕ) (h : Held) (is_rest : Bool) (name : Option (List ℕ × Option (List ℕ)))
      → subcommand_met [] waiting word ≡ None → bytes_eq word dashes ≡ is_rest → long_of word ≡ name
      → (word_fault (shape c) [] false waiting word h ≡ (if is_rest then [] else flag_word_fault c false name word h))
      × (word_met c [] false waiting 1 word h ≡ (if is_rest then (h, trailing 1) else long_or_other c waiting word name h))
  word_is waiting word h is_rest name none dash long = (
    ap (λ o. other_fault (shape c) o word h) none ∙ (ap (λ b. if b then [] else flag_word_fault c false (long_of word) word h) dash ∙ ap (λ l. if is_rest then [] else flag_word_fault c false l word h) long),
    ap (λ o. subcommand_or_other c o waiting 1 word h) none ∙ (ap (λ b. if b then (h, trailing 1) else long_or_other c waiting word (long_of word) h) dash ∙ ap (λ l. if is_rest then (h, trailing 1) else long_or_other c waiting word l h) long),
  )

  module _ (r : Reads c) where
    -- a word goes to the scripts
    script_turn : (rows : List Row) (p : Option (List ℕ × List (List ℕ))) → step_fault (shape c) 1 (held rows p) to_scripts ≡ settle_fault c false (held rows p)
    script_turn rows p =
        ap (λ o. option_map_or (λ a. positional_fault c false a (held rows p)) o (stray_fault (shape c))) r.index
        ∙ ap (λ b. if b then [] else settle_fault c false (held rows p)) (and_false (is_pending scripts p))

    script_goes : (rows : List Row) (p : Option (List ℕ × List (List ℕ))) (waiting : Waiting) (t : Bool) (word : List ℕ)
        → after_step c word (at rows p waiting t) (held rows p) to_scripts ≡ at (settled_rows c p rows) (Some (script, word ∷ [])) positional t
    script_goes rows p waiting t word =
        ap (λ o. to_positional c o word (at rows p waiting t) (held rows p)) r.index
        ∙ (ap (λ b. let w : Walk = record { held = pushed script word (if b then held rows p else settled c (held rows p)); waiting = positional; position = 1; is_trailing = t || false; stopped = None } in w) (and_false (is_pending scripts p))
        ∙ ap (λ b. at (settled_rows c p rows) (Some (script, word ∷ [])) positional b) (or_false t))

    -- behind `--` each word is a script
    trail : (words : List (List ℕ)) (rows : List Row) (p : Option Part) (waiting : Waiting)
        → Meets rows (Some (behind p (map (λ name. (script, name)) words))) (fails (at rows (pend p) waiting true) words) (ends (at rows (pend p) waiting true) words)
    unfolding walk_fault walked
    trail [] rows p waiting =
        let m = shift rows p (Some []) [] (pend_rows rows p) (refl, refl) in
        subst (λ f. Meets rows (Some (behind p [])) f (pend_rows rows p)) (or_else_nothing (pend_fault rows p)) m
    trail (word ∷ words) rows p waiting =
        let turn = turns (at rows (pend p) waiting true) (at (pend_rows rows p) (Some (script, word ∷ [])) positional true) word words (pend_fault rows p) (script_turn rows (pend p)) (script_goes rows (pend p) waiting true word) in
        meets rows (Some (behind p ((script, word) ∷ map (λ name. (script, name)) words))) _ _ _ _ turn.0 turn.1
        (shift rows p (Some ((script, word) ∷ map (λ name. (script, name)) words)) _ _ (trail words (pend_rows rows p) (Some (script, word)) positional))

    -- ---- an option that lacks its value

    lacking : (rows : List Row) (name : List ℕ) → is_option name ≡ true → settle_fault c false (held rows (Some (name, []))) ≡ kind.InvalidValue ∷ []
    lacking rows name known = ap (λ o. option_map_or (λ a. use_fault false a [] rows) o []) (r.id name known)

    stays_lacking : (words : List (List ℕ)) (rows : List Row) (name : List ℕ) → is_option name ≡ true → fails (at rows (Some (name, [])) (awaits name) true) words ≡ [] → ⊥
    unfolding walk_fault walked
    stays_lacking [] rows name known e = never kind.InvalidValue [] _ (lacking rows name known) e
    stays_lacking (word ∷ words) rows name known e =
        let start = at rows (Some (name, [])) (awaits name) true in
        let turn = turns start (walked c [] start word) word words (settle_fault c false (held rows (Some (name, [])))) (script_turn rows (Some (name, []))) refl in
        never kind.InvalidValue [] (settle_fault c false (held rows (Some (name, [])))) (lacking rows name known)
        (first_fails (settle_fault c false (held rows (Some (name, [])))) (fails (walked c [] start word) words) (sym turn.0 ∙ e))

    -- ---- one word and those behind it

    -- a fault of a word is one of the words from it on
    word_fails : (rows : List Row) (p : Option (List ℕ × List (List ℕ))) (waiting : Waiting) (word : List ℕ) (words : List (List ℕ)) (k : ErrorKind) (ks : Kinds)
        → word_fault (shape c) [] false waiting word (held rows p) ≡ k ∷ ks → fails (at rows p waiting false) (word ∷ words) ≡ [] → ⊥
    word_fails rows p waiting word words k ks is e =
        let start = at rows p waiting false in
        let met = word_met c [] false waiting 1 word (held rows p) in
        let turned_is = turned rows p waiting word (k ∷ ks) met.0 met.1 is refl in
        let turn = turns start (walked c [] start word) word words (k ∷ ks) turned_is.0 refl in
        never k ks (or_else (k ∷ ks) (fails (walked c [] start word) words)) refl (sym turn.0 ∙ e)

    -- a word that begins with one hyphen
    hyphen_fails : (h : Held) (word : List ℕ) → IsUtf8 word → Hyphened word → h.skip ≡ 0 → flag_word_fault c false None word h ≡ kind.UnknownArgument ∷ []
    unfolding flags_fault
    hyphen_fails h word text is none =
        ap (λ o. option_map_or (λ flags. bundle_fault c false flags h) o []) is.is_short ∙ by is.flags (has_flag is.flags (subst IsUtf8 is.is text) is.some) is.some
      where
        by : (flags : List ℕ) → (x : ℕ) × (slice_get (chars flags) 0 ≡ Some x) → 0 < length flags → bundle_fault c false flags h ≡ kind.UnknownArgument ∷ []
        by [] x some = absurd (omega arith)
        by (b ∷ bs) x some =
            ap (λ skip. bundle_step_fault c false (slice_get (chars (b ∷ bs)) 0) (b ∷ bs) skip (record h { skip = 0 }) (flags_fault c false (length bs))) none
            ∙ (ap (λ o. bundle_step_fault c false o (b ∷ bs) 0 (record h { skip = 0 }) (flags_fault c false (length bs))) x.1
            ∙ ap (λ o. short_fault c false o (drop (length (encode_utf8 x.0)) (b ∷ bs)) (record h { skip = 0 }) (flags_fault c false (length bs) (drop (length (encode_utf8 x.0)) (b ∷ bs)) 0)) (r.short x.0))

    abbrev Goes : List (List ℕ) → Type 0
    Goes words = (rows : List Row) (p : Option Part) (b : Bool) → Meets rows (option_map (behind p) (parts_from None words)) (fails (at rows (pend p) (ready b) false) words) (ends (at rows (pend p) (ready b) false) words)

    abbrev Waits : List (List ℕ) → Type 0
    Waits words = (rows : List Row) (name : List ℕ) → is_option name ≡ true → Meets rows (parts_from (Some name) words) (fails (at rows (Some (name, [])) (awaits name) false) words) (ends (at rows (Some (name, [])) (awaits name) false) words)

    no_subcommand : (b : Bool) (word : List ℕ) → subcommand_met [] (ready b) word ≡ None
    no_subcommand true word = refl
    no_subcommand false word = refl

    plain_ready : (b : Bool) (word : List ℕ) (h : Held) → plain_word c (ready b) word h ≡ (h, to_scripts)
    plain_ready true word h = refl
    plain_ready false word h = refl

    pub bare : (rows : List Row) (given : Option (List Part)) (fault : Kinds) (end : List Row) → Meets rows (option_map (behind None) given) fault end → Meets rows given fault end
    bare rows None fault end m = m
    bare rows (Some parts) fault end m = m

    goes_word : (k : Word) (word : List ℕ) (words : List (List ℕ)) → IsUtf8 word → Shows word k → Goes words → Waits words → (rows : List Row) (p : Option Part) (b : Bool)
        → Meets rows (option_map (behind p) (step None k word words (λ next. parts_from next words))) (fails (at rows (pend p) (ready b) false) (word ∷ words)) (ends (at rows (pend p) (ready b) false) (word ∷ words))
    goes_word plain word words text is goes waits rows p b =
        let h = held rows (pend p) in
        let w = word_is (ready b) word h false None (no_subcommand b word) is.0 is.1 in
        let fault : word_fault (shape c) [] false (ready b) word h ≡ [] = w.0 ∙ ap (λ o. option_map_or (λ flags. bundle_fault c false flags h) o []) is.2 in
        let met : word_met c [] false (ready b) 1 word h ≡ (h, to_scripts) = w.1 ∙ (ap (λ o. short_or_plain c (ready b) word o h) is.2 ∙ plain_ready b word h) in
        let t = turned rows (pend p) (ready b) word [] h to_scripts fault met in
        let turn = turns (at rows (pend p) (ready b) false) (at (pend_rows rows p) (Some (script, word ∷ [])) positional false) word words (pend_fault rows p)
        (t.0 ∙ script_turn rows (pend p)) (t.1 ∙ script_goes rows (pend p) (ready b) false word) in
        meets rows _ _ _ _ _ turn.0 turn.1 (shift rows p (with_part script word (parts_from None words)) _ _ (goes (pend_rows rows p) (Some (script, word)) true))
    goes_word rest word words text is goes waits rows p b =
        let h = held rows (pend p) in
        let w = word_is (ready b) word h true (long_of word) (no_subcommand b word) is refl in
        let t = turned rows (pend p) (ready b) word [] h (trailing 1) w.0 w.1 in
        let turn = turns (at rows (pend p) (ready b) false) (at rows (pend p) (ready b) true) word words [] t.0 t.1 in
        meets rows (Some (behind p (map (λ name. (script, name)) words))) _ _ _ _ turn.0 turn.1 (trail words rows p (ready b))
    goes_word unknown word words text is goes waits rows p b =
        let h = held rows (pend p) in
        let w = word_is (ready b) word h false None (no_subcommand b word) is.0 is.1 in
        word_fails rows (pend p) (ready b) word words kind.UnknownArgument [] (w.0 ∙ hyphen_fails h word text is.2 refl)
    goes_word (option name (Some v)) word words text is goes waits rows p b = by (is_option name) refl
      where
        h : Held
        h = held rows (pend p)

        R : List Row
        R = pend_rows rows p

        by : (known : Bool) → is_option name ≡ known
            → Meets rows (option_map (behind p) (if known then with_part name v (parts_from None words) else None)) (fails (at rows (pend p) (ready b) false) (word ∷ words)) (ends (at rows (pend p) (ready b) false) (word ∷ words))
        by false e =
            let w = word_is (ready b) word h false (Some (name, Some v)) (no_subcommand b word) is.0 is.1 in
            word_fails rows (pend p) (ready b) word words kind.UnknownArgument [] (w.0 ∙ ap (λ o. long_fault c false o (Some v) h) (r.other name e))
        by true e =
            let w = word_is (ready b) word h false (Some (name, Some v)) (no_subcommand b word) is.0 is.1 in
            let fault : word_fault (shape c) [] false (ready b) word h ≡ or_else (pend_fault rows p) (use_fault false (opt name) (v ∷ []) R) = w.0 ∙ ap (λ o. long_fault c false o (Some v) h) (r.long name e) in
            let met : word_met c [] false (ready b) 1 word h ≡ (reacted c (opt name) (v ∷ []) h, next idle) =
            w.1 ∙ ap (λ o. after_flag c (ready b) word (long_met c o (Some v) h).0 (long_met c o (Some v) h).1) (r.long name e) in
            let t = turned rows (pend p) (ready b) word (or_else (pend_fault rows p) (use_fault false (opt name) (v ∷ []) R)) (reacted c (opt name) (v ∷ []) h) (next idle) fault met in
            let fault_is : use_fault false (opt name) (v ∷ []) R ≡ pend_fault R (Some (name, v)) = ap (λ o. option_map_or (λ a. use_fault false a (v ∷ []) R) o []) (sym (r.id name e)) in
            let rows_are : used (opt name) (v ∷ []) R ≡ pend_rows R (Some (name, v)) = ap (λ o. used_by_id o (v ∷ []) R) (sym (r.id name e)) in
            let turn = turns (at rows (pend p) (ready b) false) (at (pend_rows R (Some (name, v))) None idle false) word words (or_else (pend_fault rows p) (pend_fault R (Some (name, v))))
            (t.0 ∙ (or_else_nothing (or_else (pend_fault rows p) (use_fault false (opt name) (v ∷ []) R)) ∙ ap (or_else (pend_fault rows p)) fault_is))
            (t.1 ∙ ap (λ rs. at rs None idle false) rows_are) in
            let ih = bare (pend_rows R (Some (name, v))) (parts_from None words) _ _ (goes (pend_rows R (Some (name, v))) None false) in
            meets rows _ _ _ _ _ (turn.0 ∙ or_else_assoc (pend_fault rows p) (pend_fault R (Some (name, v))) _) turn.1
            (shift rows p (with_part name v (parts_from None words)) _ _ (more R (name, v) (parts_from None words) _ _ ih))
    goes_word (option name None) word words text is goes waits rows p b = by (is_option name) refl
      where
        h : Held
        h = held rows (pend p)

        by : (known : Bool) → is_option name ≡ known
            → Meets rows (option_map (behind p) (if known then parts_from (Some name) words else None)) (fails (at rows (pend p) (ready b) false) (word ∷ words)) (ends (at rows (pend p) (ready b) false) (word ∷ words))
        by false e =
            let w = word_is (ready b) word h false (Some (name, None)) (no_subcommand b word) is.0 is.1 in
            word_fails rows (pend p) (ready b) word words kind.UnknownArgument [] (w.0 ∙ ap (λ o. long_fault c false o None h) (r.other name e))
        by true e =
            let w = word_is (ready b) word h false (Some (name, None)) (no_subcommand b word) is.0 is.1 in
            let fault : word_fault (shape c) [] false (ready b) word h ≡ pend_fault rows p = w.0 ∙ ap (λ o. long_fault c false o None h) (r.long name e) in
            let met : word_met c [] false (ready b) 1 word h ≡ (held (pend_rows rows p) (Some (name, [])), next (awaits name)) =
            w.1 ∙ ap (λ o. after_flag c (ready b) word (long_met c o None h).0 (long_met c o None h).1) (r.long name e) in
            let t = turned rows (pend p) (ready b) word (pend_fault rows p) (held (pend_rows rows p) (Some (name, []))) (next (awaits name)) fault met in
            let turn = turns (at rows (pend p) (ready b) false) (at (pend_rows rows p) (Some (name, [])) (awaits name) false) word words (pend_fault rows p) (t.0 ∙ or_else_nothing (pend_fault rows p)) t.1 in
            meets rows _ _ _ _ _ turn.0 turn.1 (shift rows p (parts_from (Some name) words) _ _ (waits (pend_rows rows p) name e))

    waits_word : (k : Word) (word : List ℕ) (words : List (List ℕ)) → IsUtf8 word → Shows word k → Goes words → (rows : List Row) (name : List ℕ) → is_option name ≡ true
        → Meets rows (step (Some name) k word words (λ next. parts_from next words)) (fails (at rows (Some (name, [])) (awaits name) false) (word ∷ words)) (ends (at rows (Some (name, [])) (awaits name) false) (word ∷ words))
    waits_word plain word words text is goes rows name known =
        let h = held rows (Some (name, [])) in
        let w = word_is (awaits name) word h false None refl is.0 is.1 in
        let fault : word_fault (shape c) [] false (awaits name) word h ≡ [] = w.0 ∙ ap (λ o. option_map_or (λ flags. bundle_fault c false flags h) o []) is.2 in
        let met : word_met c [] false (awaits name) 1 word h ≡ (held rows (Some (name, word ∷ [])), next idle) =
        w.1 ∙ (ap (λ o. short_or_plain c (awaits name) word o h) is.2
        ∙ (ap (λ o. let m : Held × Step = ((option_word o name word h).0, next (option_word o name word h).1) in m) (r.id name known)
        ∙ ap (λ b. let m : Held × Step = (held rows (Some (name, word ∷ [])), next (if nat_lt (if b then 1 else 0) 1 then awaits name else idle)) in m) (nat_list_eq_equiv.refl name))) in
        let t = turned rows (Some (name, [])) (awaits name) word [] (held rows (Some (name, word ∷ []))) (next idle) fault met in
        let turn = turns (at rows (Some (name, [])) (awaits name) false) (at rows (Some (name, word ∷ [])) idle false) word words [] t.0 t.1 in
        meets rows _ _ _ _ _ turn.0 turn.1 (goes rows (Some (name, word)) false)
    waits_word rest word words text is goes rows name known =
        let h = held rows (Some (name, [])) in
        let w = word_is (awaits name) word h true (long_of word) refl is refl in
        let t = turned rows (Some (name, [])) (awaits name) word [] h (trailing 1) w.0 w.1 in
        let turn = turns (at rows (Some (name, [])) (awaits name) false) (at rows (Some (name, [])) (awaits name) true) word words [] t.0 t.1 in
        λ e. stays_lacking words rows name known (sym turn.0 ∙ e)
    waits_word unknown word words text is goes rows name known =
        let h = held rows (Some (name, [])) in
        let w = word_is (awaits name) word h false None refl is.0 is.1 in
        word_fails rows (Some (name, [])) (awaits name) word words kind.UnknownArgument [] (w.0 ∙ hyphen_fails h word text is.2 refl)
    waits_word (option other value) word words text is goes rows name known = by (is_option other) refl
      where
        h : Held
        h = held rows (Some (name, []))

        found : (v : Option (List ℕ)) → long_fault c false (Some (opt other)) v h ≡ kind.InvalidValue ∷ []
        found None = lacking rows name known
        found (Some v) = ap (λ f. or_else f (use_fault false (opt other) (v ∷ []) (settled c h).rows)) (lacking rows name known)

        by : (is_known : Bool) → is_option other ≡ is_known → fails (at rows (Some (name, [])) (awaits name) false) (word ∷ words) ≡ [] → ⊥
        by true e =
            let w = word_is (awaits name) word h false (Some (other, value)) refl is.0 is.1 in
            word_fails rows (Some (name, [])) (awaits name) word words kind.InvalidValue [] (w.0 ∙ (ap (λ o. long_fault c false o value h) (r.long other e) ∙ found value))
        by false e =
            let w = word_is (awaits name) word h false (Some (other, value)) refl is.0 is.1 in
            word_fails rows (Some (name, [])) (awaits name) word words kind.UnknownArgument [] (w.0 ∙ ap (λ o. long_fault c false o value h) (r.other other e))

    -- the walk over all the words
    pub claims : (words : List (List ℕ)) → AllUtf8 words → Goes words × Waits words
    unfolding walk_fault walked
    claims [] text = (
      λ rows p b. let m = shift rows p (Some []) [] (pend_rows rows p) (refl, refl) in subst (λ f. Meets rows (Some (behind p [])) f (pend_rows rows p)) (or_else_nothing (pend_fault rows p)) m,
      λ rows name known e. never kind.InvalidValue [] (settle_fault c false (held rows (Some (name, [])))) (lacking rows name known) e,
    )
    claims (word ∷ words) text =
        let behind_it = claims words text.1 in
        (goes_word (word_of word) word words text.0 (shown word) behind_it.0 behind_it.1, waits_word (word_of word) word words text.0 (shown word) behind_it.0)
