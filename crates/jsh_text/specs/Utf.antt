-- Texts as UTF-16 units and as UTF-8 bytes (Unicode, section 3.9; RFC 2781; RFC 3629).
use Rattle.std.specs.Prelude.{ℕ, List, map}
use Rattle.std.specs.List.{flat_map}
use Rattle.std.specs.Option.{unwrap_or}
use Rattle.std.specs.Str.{encode_utf8_all}
use Rattle.std.specs.Char.Escape.{encode_utf16}
use Rattle.std.specs.Char.Utf16.{utf16_chars}

-- the UTF-16 units of a list of characters: one for each below U+10000, and two surrogates for each other (RFC 2781, section 2.1)
abbrev pub utf16 : List ℕ → List ℕ
utf16 = flat_map encode_utf16

-- the characters of a list of units, with `?` for each surrogate without a partner (RFC 2781, section 2.2)
abbrev pub shown_chars : List ℕ → List ℕ
shown_chars units = map (λ c. unwrap_or c 63) (utf16_chars units)

-- the UTF-8 bytes of a list of units (RFC 3629, section 3)
abbrev pub utf8 : List ℕ → List ℕ
utf8 units = encode_utf8_all (shown_chars units)
