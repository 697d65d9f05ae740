-- Characters and runs of them. A text is the list of its characters here.
use Rattle.std.specs.Prelude.{ℕ, Bool, true, false, ◌&&◌, ◌||◌, if◌then◌else◌, ◌==◌, List, [], ◌∷◌, length, encode_utf8_all}
use Rattle.unicode_ident.specs.Ident.{is_xid_start, is_xid_continue}

-- what ends a line: CR and LF (JLS 3.4)
abbrev pub is_line_end : ℕ → Bool
is_line_end c = c == 13 || c == 10

abbrev pub is_in_line : ℕ → Bool
is_in_line c = if is_line_end c then false else true

-- the first character of an identifier (JLS 3.8, by UAX 31)
abbrev pub is_identifier_start : ℕ → Bool
is_identifier_start c = is_xid_start c || c == 95 || c == 36

-- a further character of an identifier
abbrev pub is_identifier_part : ℕ → Bool
is_identifier_part c = is_xid_continue c || c == 95 || c == 36

-- the longest front whose characters pass
abbrev pub take_while : (ℕ → Bool) → List ℕ → List ℕ
take_while p [] = []
take_while p (c ∷ cs) = if p c then c ∷ take_while p cs else []

-- what follows the longest front whose characters pass
abbrev pub drop_while : (ℕ → Bool) → List ℕ → List ℕ
drop_while p [] = []
drop_while p (c ∷ cs) = if p c then drop_while p cs else c ∷ cs

-- the text begins with these characters
abbrev pub begins : List ℕ → List ℕ → Bool
begins [] cs = true
begins (s ∷ ss) [] = false
begins (s ∷ ss) (c ∷ cs) = c == s && begins ss cs

-- the first character passes
abbrev pub first_passes : (ℕ → Bool) → List ℕ → Bool
first_passes p [] = false
first_passes p (c ∷ cs) = p c

-- how many bytes of UTF-8 the characters take
abbrev pub width : List ℕ → ℕ
width cs = length (encode_utf8_all cs)
