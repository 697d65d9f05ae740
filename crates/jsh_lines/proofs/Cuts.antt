-- Laws on cutting bytes into lines.
use Rattle.std.proofs.Common.{◌≡◌, ℕ, ◌+◌, Bool, true, false, cond, List, take, drop, [], ◌∷◌, ◌++◌, refl, sym, ap, ◌∙◌, subst}
use Rattle.std.specs.Prelude.{◌==◌, ◌||◌}
use Rattle.jsh_lines.specs.Lines.{Cut, IsFirstLineFeed, cut, with_empty_line, with_byte, has_line_feed}

-- these lines, and then what a cut has
abbrev pub behind : List (List ℕ) → Cut → Cut
behind lines c = record { whole = lines ++ c.whole; rest = c.rest }

cut-feed : (byte : ℕ) (bytes : List ℕ) → (byte == 10) ≡ true → cut (byte ∷ bytes) ≡ with_empty_line (cut bytes)
cut-feed byte bytes is_feed = ap (λ v. cond v (with_empty_line (cut bytes)) (with_byte byte (cut bytes))) is_feed

cut-other : (byte : ℕ) (bytes : List ℕ) → (byte == 10) ≡ false → cut (byte ∷ bytes) ≡ with_byte byte (cut bytes)
cut-other byte bytes other = ap (λ v. cond v (with_empty_line (cut bytes)) (with_byte byte (cut bytes))) other

with_byte-behind : (byte : ℕ) (b : List ℕ) (lines : List (List ℕ)) (rest : List ℕ) → (byte == 10) ≡ false →
    with_byte byte (behind lines (cut (rest ++ b)))
    ≡ behind (with_byte byte (record { whole = lines; rest = rest })).whole
    (cut ((with_byte byte (record { whole = lines; rest = rest })).rest ++ b))
with_byte-behind byte b [] rest other = sym (cut-other byte (rest ++ b) other)
with_byte-behind byte b (line ∷ lines) rest other = refl

cut-append_step : (byte : ℕ) (a b : List ℕ) (feed : Bool) → (byte == 10) ≡ feed →
    cut (a ++ b) ≡ behind (cut a).whole (cut ((cut a).rest ++ b)) →
    cut (byte ∷ (a ++ b)) ≡ behind (cut (byte ∷ a)).whole (cut ((cut (byte ∷ a)).rest ++ b))
cut-append_step byte a b true is_feed along =
    let goes : Cut → Type 0 = λ c. cut (byte ∷ (a ++ b)) ≡ behind c.whole (cut (c.rest ++ b)) in
    subst goes (sym (cut-feed byte a is_feed)) (cut-feed byte (a ++ b) is_feed ∙ ap with_empty_line along)
cut-append_step byte a b false other along =
    let goes : Cut → Type 0 = λ c. cut (byte ∷ (a ++ b)) ≡ behind c.whole (cut (c.rest ++ b)) in
    subst goes (sym (cut-other byte a other))
    (cut-other byte (a ++ b) other ∙ ap (with_byte byte) along ∙ with_byte-behind byte b (cut a).whole (cut a).rest other)

-- The cut of bytes that come in two pieces: what the first leaves is cut with the second.
pub cut-append : (a b : List ℕ) → cut (a ++ b)
    ≡ record { whole = (cut a).whole ++ (cut ((cut a).rest ++ b)).whole; rest = (cut ((cut a).rest ++ b)).rest }
cut-append [] b = refl
cut-append (byte ∷ a) b = cut-append_step byte a b (byte == 10) refl (cut-append a b)

not_feed : (byte : ℕ) (a : List ℕ) → has_line_feed (byte ∷ a) ≡ false → (byte == 10) ≡ false
not_feed byte a none = first (byte == 10) none
  where
    first : (v : Bool) → (v || has_line_feed a) ≡ false → v ≡ false
    first true h = h
    first false h = refl

none_behind : (byte : ℕ) (a : List ℕ) → has_line_feed (byte ∷ a) ≡ false → has_line_feed a ≡ false
none_behind byte a none = second (byte == 10) none
  where
    second : (v : Bool) → (v || has_line_feed a) ≡ false → has_line_feed a ≡ false
    second true h = cc
    second false h = h

-- Bytes without a line feed are no whole line.
pub cut-no_line : (a : List ℕ) → has_line_feed a ≡ false → cut a ≡ record { whole = []; rest = a }
cut-no_line [] none = refl
cut-no_line (byte ∷ a) none =
    cut-other byte a (not_feed byte a none) ∙ ap (with_byte byte) (cut-no_line a (none_behind byte a none))

-- The first line ends at the first line feed.
pub cut-line : (a b : List ℕ) → has_line_feed a ≡ false →
    cut (a ++ 10 ∷ b) ≡ record { whole = a ∷ (cut b).whole; rest = (cut b).rest }
cut-line [] b none = refl
cut-line (byte ∷ a) b none =
    cut-other byte (a ++ 10 ∷ b) (not_feed byte a none) ∙ ap (with_byte byte) (cut-line a b (none_behind byte a none))

rest-with_byte : (byte : ℕ) (lines : List (List ℕ)) (rest : List ℕ) → (byte == 10) ≡ false → has_line_feed rest ≡ false →
    has_line_feed (with_byte byte (record { whole = lines; rest = rest })).rest ≡ false
rest-with_byte byte [] rest other none = ap (λ v. v || has_line_feed rest) other ∙ none
rest-with_byte byte (line ∷ lines) rest other none = none

rest_step : (byte : ℕ) (bytes : List ℕ) (feed : Bool) → (byte == 10) ≡ feed →
    has_line_feed (cut bytes).rest ≡ false → has_line_feed (cut (byte ∷ bytes)).rest ≡ false
rest_step byte bytes true is_feed none = ap (λ c. has_line_feed c.rest) (cut-feed byte bytes is_feed) ∙ none
rest_step byte bytes false other none =
    ap (λ c. has_line_feed c.rest) (cut-other byte bytes other)
    ∙ rest-with_byte byte (cut bytes).whole (cut bytes).rest other none

-- The rest of a cut has no line feed.
pub has_line_feed-rest : (bytes : List ℕ) → has_line_feed (cut bytes).rest ≡ false
has_line_feed-rest [] = refl
has_line_feed-rest (byte ∷ bytes) = rest_step byte bytes (byte == 10) refl (has_line_feed-rest bytes)

-- Bytes that are their own rest have no line feed.
pub has_line_feed-uncut : (a : List ℕ) → (cut a).rest ≡ a → has_line_feed a ≡ false
has_line_feed-uncut a uncut = subst (λ (bytes : List ℕ). has_line_feed bytes ≡ false) uncut (has_line_feed-rest a)

-- The same at the place of the first line feed.
pub cut-first_line : (bytes : List ℕ) (place : ℕ) → IsFirstLineFeed bytes place →
    cut bytes ≡ record { whole = take place bytes ∷ (cut (drop (place + 1) bytes)).whole; rest = (cut (drop (place + 1) bytes)).rest }
cut-first_line bytes place first = ap cut first.2 ∙ cut-line (take place bytes) (drop (place + 1) bytes) first.1

-- `cut-line` where the cut says that the bytes before the line feed are no whole line
pub cut-line_uncut : (a b : List ℕ) → (cut a).rest ≡ a →
    cut (a ++ 10 ∷ b) ≡ record { whole = a ∷ (cut b).whole; rest = (cut b).rest }
cut-line_uncut a b uncut = cut-line a b (has_line_feed-uncut a uncut)

-- What is left of a cut is cut no further.
pub cut-rest : (bytes : List ℕ) → cut (cut bytes).rest ≡ record { whole = []; rest = (cut bytes).rest }
cut-rest bytes = cut-no_line (cut bytes).rest (has_line_feed-rest bytes)
