-- Whether a text is whole, and where its first snippet ends, as functions: what the first of the seven rules gives that applies.
use Rattle.std.specs.Prelude.{ℕ, zero, suc, Bool, true, false, not, ◌&&◌, ◌||◌, nat_lt, is_some, if◌then◌else◌, List, [], ◌∷◌, ◌++◌, take, length, Option}
use Rattle.jsh_tree.specs.declared.token.Token.{Token}
use Rattle.jsh_tree.specs.declared.token.TokenKind.{TokenKind}
use Rattle.jsh_tree.specs.declared.token.TokenKind.TheVariants as token
use Rattle.jsh_lex.specs.declared.lexeme.LexFault.{LexFault}
use Rattle.jsh_lex.specs.declared.lexeme.LexFault.TheVariants as lexical
use Rattle.jsh_recognizer.specs.declared.recognizer.Start.TheVariants as start
use Rattle.jsh_recognizer.specs.Recognizing.{first, kinds}
use Rattle.jsh_recognizer.specs.Reach.{Reason, reach, is_whole, behind, goes_on}
use Rattle.jsh_recognizer.specs.Reach as machine
use Rattle.jsh_complete.specs.declared.completion.Completion.{Completion}
use Rattle.jsh_complete.specs.Completeness.{Stop, at_end, at_fault, too_deep, lexical_stop, Rule, no_tokens, else_may_follow, whole, lacks_semicolon, lacks_more, begins_whole, otherwise, before, kind_by, end_of}

-- ---- the tokens that count

abbrev pub counted_by : List Token → Option LexFault → ℕ → Reason → List Token × Stop
counted_by ts fault read machine.too_deep = (take read ts, too_deep)
counted_by ts fault read _ = (ts, lexical_stop fault)

-- those in front of the first that stands too deep, or else all, and what stands behind them
unfoldable pub counted : List Token → Option LexFault → List Token × Stop
counted ts fault = counted_by ts fault (reach 256 (first start.Snippet) (kinds ts)).read (reach 256 (first start.Snippet) (kinds ts)).reason

-- ---- the rules

-- a snippet
unfoldable pub is_snippet : List TokenKind → Bool
is_snippet ks = is_whole (reach 256 (first start.Snippet) ks)

-- more tokens make them a snippet
unfoldable pub may_go_on : List TokenKind → Bool
may_go_on ks = goes_on (first start.Snippet) ks

-- such a token may come behind them, however deep it stands
unfoldable pub may_come : List TokenKind → TokenKind → Bool
may_come ks k = is_some (behind (first start.Snippet) (ks ++ k ∷ []))

-- with `;` they are a snippet, and no block could begin in its place
abbrev pub lacks_only_semicolon : List TokenKind → Bool
lacks_only_semicolon ks = is_snippet (ks ++ token.Semicolon ∷ []) && not (may_come ks token.LeftBrace)

-- how many tokens the longest snippet has that they begin with, of those with at most so many; 0 where there is none
abbrev pub longest_within : ℕ → List TokenKind → ℕ
longest_within zero ks = 0
longest_within (suc n) ks = if is_snippet (take (suc n) ks) then suc n else longest_within n ks

abbrev pub longest : List TokenKind → ℕ
longest ks = longest_within (length ks) ks

-- the text ends behind them
abbrev pub ends : Stop → Bool
ends at_end = true
ends _ = false

-- a comment that isn't closed stands behind them
abbrev pub leads_to_comment : Stop → Bool
leads_to_comment (at_fault lexical.OpenComment) = true
leads_to_comment _ = false

abbrev pub are_none : List TokenKind → Bool
are_none [] = true
are_none (k ∷ ks) = false

-- the rule applies to the tokens that count
abbrev pub applies : List TokenKind → Stop → Rule → Bool
applies ks stop no_tokens = ends stop && are_none ks
applies ks stop else_may_follow = ends stop && (is_snippet ks && may_go_on (ks ++ token.Else ∷ []))
applies ks stop whole = ends stop && is_snippet ks
applies ks stop lacks_semicolon = ends stop && lacks_only_semicolon ks
applies ks stop lacks_more = (ends stop && may_go_on ks) || (leads_to_comment stop && (are_none ks || may_go_on ks))
applies ks stop begins_whole = nat_lt 0 (longest ks)
applies ks stop otherwise = true

-- the first of these rules that applies, or else the last of all
abbrev pub first_of : List Rule → List TokenKind → Stop → Rule
first_of [] ks stop = otherwise
first_of (rule ∷ rules) ks stop = if applies ks stop rule then rule else first_of rules ks stop

abbrev pub rule_of : List TokenKind → Stop → Rule
rule_of ks stop = first_of (before otherwise) ks stop

-- ---- the completion

-- the end that a rule gives: that of the first snippet, or else that of the text
abbrev pub end_by : Rule → List ℕ → List Token → ℕ
end_by whole text ts = end_of (take (longest (kinds ts)) ts)
end_by begins_whole text ts = end_of (take (longest (kinds ts)) ts)
end_by _ text ts = length text

-- what the first rule that applies gives, for the tokens that count
abbrev pub completed : List ℕ → List Token × Stop → Completion
completed text (ts, stop) = record { kind = kind_by (rule_of (kinds ts) stop); end = end_by (rule_of (kinds ts) stop) text ts }

-- for the tokens of a text, or those before its first fault, with that fault
unfoldable pub completion : List ℕ → List Token → Option LexFault → Completion
completion text ts fault = completed text (counted ts fault)
