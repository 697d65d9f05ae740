-- The lexis of a text by pieces: what is known of a front stays, and only the rest is lexed, as a text of its own.
use Rattle.std.specs.Prelude.{◌≡◌, ℕ, ◌+◌, Bool, true, ◌==◌, ◌⊎◌, List, [], ◌∷◌, ◌++◌, length, map, None, Some}
use Rattle.std.specs.Option.{option_map}
use Rattle.jsh_tree.specs.declared.token.Token.{Token}
use Rattle.jsh_lex.specs.declared.lexeme.LexFault.TheVariants.{OpenComment}
use Rattle.jsh_lex.specs.Lexis.{Lexed, tokens}

-- a token so many bytes further
abbrev pub moved : ℕ → Token → Token
moved by t = record { kind = t.kind; span = record { from = by + t.span.from; to = by + t.span.to } }

-- tokens, and the place of a fault, so many bytes further
abbrev pub moved_lexed : ℕ → Lexed → Lexed
moved_lexed by lexed = record { tokens = map (moved by) lexed.tokens; fault = option_map (λ f. (f.0, by + f.1)) lexed.fault }

-- these tokens in front of others
abbrev pub joined : List Token → Lexed → Lexed
joined before lexed = record { tokens = before ++ lexed.tokens; fault = lexed.fault }

-- the text has no last line that a line feed doesn't end
abbrev pub ends_line : List ℕ → Bool
ends_line [] = true
ends_line (c ∷ []) = c == 10
ends_line (c ∷ d ∷ cs) = ends_line (d ∷ cs)

-- The text may go on, and its lexis is known already in front of the place: no token and no comment goes on behind a line without fault, and
-- a comment that isn't closed is lexed again from its beginning.
abbrev pub CanResume : List ℕ → ℕ → Type 0
CanResume text place =
    (((tokens text).fault ≡ None) × (place ≡ length text) × (ends_line text ≡ true)) ⊎ ((tokens text).fault ≡ Some (OpenComment, place))
