-- What is known of the completion of a text.
use Rattle.std.proofs.Common.{◌≡◌, ℕ, ◌<◌, List, [], ◌∷◌, take, Option, sym, subst}
use Rattle.std.specs.Str.{IsUtf8, IsCharBoundary}
use Rattle.jsh_tree.specs.declared.token.Token.{Token}
use Rattle.jsh_lex.specs.declared.lexeme.LexFault.{LexFault}
use Rattle.jsh_lex.specs.Lexis.{tokens}
use Rattle.jsh_lex.specs.Spelling.{AreTokensBehind}
use Rattle.jsh_lex.proofs.Places.{tokens_stand}
use Rattle.jsh_recognizer.specs.declared.recognizer.Start.TheVariants as start
use Rattle.jsh_recognizer.specs.Machine.{at_end}
use Rattle.jsh_recognizer.specs.Recognizing.{first, kinds}
use Rattle.jsh_recognizer.proofs.Stopped.{whole_may_stop}
use Rattle.jsh_complete.specs.declared.completion.Completeness.TheVariants as completeness
use Rattle.jsh_complete.specs.declared.completion.Completion.{Completion}
use Rattle.jsh_complete.specs.Completeness.{Stop, Counts, all, some, whole, begins_whole, IsSnippet, IsEndOfLongest, IsCompletion, by_rule, end_of}
use Rattle.jsh_complete.proofs.Total.{completes, is_completion as is_completion_by}
use Rattle.jsh_cut.specs.Commands.{completion, fault_of}
use Rattle.jsh_cut.proofs.Ends.{front_behind, end_between}

-- A text has the completion that is said of it.
pub is_completion : (text : List ℕ) (c : Completion) → IsCompletion text (tokens text).tokens (fault_of (tokens text)) c → c ≡ completion text
unfolding completion
is_completion text c is = is_completion_by text (tokens text).tokens (fault_of (tokens text)) c is

pub no_empty_snippet : IsSnippet [] → ⊥
no_empty_snippet is = let stops = whole_may_stop start.Snippet 256 [] (first start.Snippet) at_end is in absurd cc

snippet_ends : (text : List ℕ) (end : ℕ) (ts : List Token) → AreTokensBehind text end ts → IsSnippet (kinds ts) → IsCharBoundary text (end_of ts) × (0 < end_of ts)
snippet_ends text end [] b is = absurd (no_empty_snippet is)
snippet_ends text end (t ∷ ts) b is = end_between text end t ts b

longest_ends : (text : List ℕ) (ts : List Token) (end : ℕ) → AreTokensBehind text 0 ts → IsEndOfLongest ts end → IsCharBoundary text end × (0 < end)
longest_ends text ts end b is =
    let P : ℕ → Type 0 = λ n. IsCharBoundary text n × (0 < n) in
    subst P (sym is.3) (snippet_ends text 0 (take is.0 ts) (front_behind text 0 is.0 ts b) is.1)

counted_stand : (text : List ℕ) (ts : List Token) (fault : Option LexFault) (counted : List Token) (stop : Stop) → AreTokensBehind text 0 ts → Counts ts fault counted stop →
    AreTokensBehind text 0 counted
counted_stand text ts fault counted stop b (all never) = b
counted_stand text ts fault counted stop b (some read deep) = front_behind text 0 read ts b

first_ends : (text : List ℕ) (ts : List Token) (fault : Option LexFault) (c : Completion) → AreTokensBehind text 0 ts → IsCompletion text ts fault c →
    c.kind ≡ completeness.Complete → IsCharBoundary text c.end × (0 < c.end)
first_ends text ts fault c b (by_rule {counted = counted} {stop = stop} whole counts applies none kind end) is =
    longest_ends text counted c.end (counted_stand text ts fault counted stop b counts) end
first_ends text ts fault c b (by_rule {counted = counted} {stop = stop} begins_whole counts applies none kind end) is =
    longest_ends text counted c.end (counted_stand text ts fault counted stop b counts) end
first_ends text ts fault c b (by_rule _ counts applies none kind end) is = absurd cc

-- Where a text begins with a whole snippet, that ends between characters, and behind the start.
pub complete_ends : (text : List ℕ) (c : Completion) → IsUtf8 text → IsCompletion text (tokens text).tokens (fault_of (tokens text)) c →
    c.kind ≡ completeness.Complete → IsCharBoundary text c.end × (0 < c.end)
complete_ends text c u is = first_ends text (tokens text).tokens (fault_of (tokens text)) c (tokens_stand text u) is

-- So does the one that is said of it.
pub first_end : (text : List ℕ) → IsUtf8 text → (completion text).kind ≡ completeness.Complete → IsCharBoundary text (completion text).end × (0 < (completion text).end)
unfolding completion
first_end text u is =
    complete_ends text (completion text) u (completes text (tokens text).tokens (fault_of (tokens text))) is
