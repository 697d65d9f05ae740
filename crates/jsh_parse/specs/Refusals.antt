-- What a refusal says of the tokens, in words of the table.
use Rattle.std.specs.Prelude.{◌≡◌, ℕ, List, [], ◌∷◌, length, take, drop}
use Rattle.jsh_tree.specs.declared.token.Token.{Token}
use Rattle.jsh_grammar.specs.Productions.{Part}
use Rattle.jsh_grammar.specs.Fronts.{IsPrefix}
use Rattle.jsh_recognizer.specs.Recognizing.{kinds}
use Rattle.jsh_recognizer.specs.Stops.{GoesOn, IsStuck, IsDeeper}
use Rattle.jsh_parse.specs.declared.error.ParseError.{ParseError}
use Rattle.jsh_parse.specs.declared.error.ParseError.TheVariants as error

-- where the first of these tokens begins, which are the last ones of a text: at its end where none is left
abbrev pub place_of : List ℕ → List Token → ℕ
place_of text [] = length text
place_of text (t ∷ ts) = t.span.from

-- The tokens of a text aren't such a part, and this is why. Of some first tokens, which are a prefix, either the next one makes none
-- whatever the room, or they are all and not whole: the place is then where the next one begins, or the text's end, and the kind
-- goes on from them. Or the next one makes a prefix too, but one that nests deeper than 256. A want of memory says nothing.
abbrev pub IsRefusal : Part → List ℕ → List Token → ParseError → Type 0
IsRefusal n text ts error.NoMemory = Unit {0}
IsRefusal n text ts (error.Wanted place wanted) =
    (read : ℕ) × IsPrefix n 256 (kinds (take read ts)) × IsStuck n ts read × GoesOn n (kinds (take read ts)) wanted
    × (place ≡ place_of text (drop read ts))
IsRefusal n text ts (error.TooDeep limit) = (limit ≡ 256) × (read : ℕ) × IsPrefix n 256 (kinds (take read ts)) × IsDeeper n 256 ts read
