-- What feedback writes for a reply, in UTF-8, after the feedback of the `jshell` tool (JEP 222).
use Rattle.std.specs.Prelude.{ℕ, List, [], ◌++◌, codes, decimal}
use Rattle.std.specs.List.{flat_map}
use Rattle.jsh_text.specs.Utf.{utf8}
use Rattle.jsh_snippet.specs.declared.acts.Act.{Act}
use Rattle.jsh_snippet.specs.declared.acts.Act.TheVariants as act
use Rattle.jsh_snippet.specs.declared.acts.Entry.{Entry}
use Rattle.jsh_snippet.specs.declared.replies.Line.{Line}
use Rattle.jsh_snippet.specs.declared.replies.Refusal.{Refusal}
use Rattle.jsh_snippet.specs.declared.replies.Refusal.TheVariants as refusal
use Rattle.jsh_snippet.specs.declared.replies.Reply.{Reply}
use Rattle.jsh_snippet.specs.declared.replies.ReplyBody.{ReplyBody}
use Rattle.jsh_snippet.specs.declared.replies.ReplyBody.TheVariants as body
use Rattle.jsh_render.specs.Outcomes.{collected_line}
use Rattle.jsh_render.specs.Snippets.{submitted_lines, dropped_lines}
use Rattle.jsh_render.specs.Words.{fate_word, limit_name}

-- the source that an act hands in
abbrev pub source_of : Act → List ℕ
source_of (act.Submit source) = source
source_of _ = []

-- the run that an act asks for, and 0 where it asks for none
abbrev pub run_of : Act → ℕ
run_of (act.Collect run) = run
run_of (act.Expire run steps) = run
run_of _ = 0

-- why an act was refused that asked for this run
abbrev pub refusal_line : ℕ → Refusal → List ℕ
refusal_line asked (refusal.NoSuchSnippet id count) = codes "|  no snippet " ++ decimal id ++ codes "\n"
refusal_line asked (refusal.NotLive id fate) = codes "|  snippet " ++ decimal id ++ codes " is " ++ fate_word fate ++ codes "\n"
refusal_line asked (refusal.NoSuchName name matches) = codes "|  " ++ decimal matches ++ codes " live snippets are named " ++ name ++ codes "\n"
refusal_line asked (refusal.NoSuchRun run) = codes "|  no run " ++ decimal run ++ codes "\n"
refusal_line asked (refusal.NotOwner owner) = codes "|  run " ++ decimal asked ++ codes " belongs to client " ++ decimal owner ++ codes "\n"
refusal_line asked (refusal.Limit which count) = codes "|  limit reached: " ++ limit_name which ++ codes " " ++ decimal count ++ codes "\n"

-- a line that answers a question
abbrev pub answer_line : Line → List ℕ
answer_line line = utf8 line.text ++ codes "\n"

-- what is written for an act that got this answer
abbrev pub feedback : Act → ReplyBody → List ℕ
feedback act (body.Entered number) = []
feedback act (body.Submitted submitted) = submitted_lines (source_of act) submitted
feedback act (body.Turned steps) = []
feedback act (body.Collected collected) = collected_line collected
feedback act (body.StopDone run) = codes "|  run " ++ decimal run ++ codes " stopped\n"
feedback act (body.Dropped id kind name events) = dropped_lines id kind name events
feedback act (body.Answered lines) = flat_map answer_line lines
feedback act (body.ResetDone records) = codes "|  Resetting state.\n"
feedback act body.Left = []
feedback act body.Closed = []
feedback act (body.Refused refusal) = refusal_line (run_of act) refusal

-- the feedback of a reply to an entry
abbrev pub rendered : Entry → Reply → List ℕ
rendered entry reply = feedback entry.act reply.body

-- all that a client is written for an entry: first what its threads have printed, and then the feedback
abbrev pub shown : Entry → Reply → List ℕ
shown entry reply = utf8 reply.output ++ rendered entry reply
