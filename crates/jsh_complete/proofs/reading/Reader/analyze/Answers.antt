-- Where the kind is Complete, the end is that of the longest snippet, and else that of the text.
use Rattle.std.proofs.Common.{take, refl, sym, ap, ◌∙◌}
use Rattle.jsh_recognizer.specs.Recognizing.{kinds}
use Rattle.jsh_complete.specs.Completeness.{end_of}
use Rattle.jsh_complete.specs.Reading.{counted_of, stop_of}
use Rattle.jsh_complete.proofs.Behind.{behind_prefix}
use Rattle.jsh_complete.proofs.Counted.{counts, longest_counted, counted_front}
use Rattle.jsh_complete.proofs.Given.{completion, longest_end, some_longest}
use Rattle.jsh_complete.proofs.Total.{is_completion}
use Rattle.jsh_complete.proofs.reading.Reader.analyze.Goals as goal

pub end_of_first-end-requires-clause-some : goal.end_of_first-end-requires-clause-some
end_of_first-end-requires-clause-some c =
    let ts = c.args.tokens.now in
    let r = c.read-halt.new.self in
    let h = c.read-halt.result in
    some_longest (counted_of ts r.taken h) (stop_of c.args.fault h) r.longest c.judge-kind.result c.judge-kind.ensures
    (longest_counted ts r.taken r.longest h c.read-halt.ensures.read.longest c.read-halt.ensures.halt) c.in-Complete.is

pub returns-in-Complete-clause-completion : goal.returns-in-Complete-clause-completion
returns-in-Complete-clause-completion c =
    let ts = c.args.tokens.now in
    let r = c.read-halt.new.self in
    let h = c.read-halt.result in
    let counted = counted_of ts r.taken h in
    let stop = stop_of c.args.fault h in
    let longest = longest_counted ts r.taken r.longest h c.read-halt.ensures.read.longest c.read-halt.ensures.halt in
    let same = ap end_of (sym (counted_front ts r.taken r.longest h c.read-halt.ensures.read.longest.0)) in
    completion c.args.text.now ts counted c.args.fault stop _
    (counts ts c.args.fault r.taken h (behind_prefix (kinds (take r.taken ts)) c.read-halt.ensures.read.behind) c.read-halt.ensures.halt)
    c.judge-kind.ensures
    (λ complete. longest_end counted r.longest _ longest (some_longest counted stop r.longest c.judge-kind.result c.judge-kind.ensures longest complete)
    (c.end_of_first-end.ensures ∙ same))
    (λ other. absurd (other c.in-Complete.is))

pub returns-in-Complete-clause-value : goal.returns-in-Complete-clause-value
returns-in-Complete-clause-value c =
    is_completion c.args.text.now c.args.tokens.now c.args.fault _ (returns-in-Complete-clause-completion c)

pub returns-in-Complete-clause-longest : goal.returns-in-Complete-clause-longest
returns-in-Complete-clause-longest c = λ complete.
    let ts = c.args.tokens.now in
    let r = c.read-halt.new.self in
    let h = c.read-halt.result in (
      some_longest (counted_of ts r.taken h) (stop_of c.args.fault h) r.longest c.judge-kind.result c.judge-kind.ensures
          (longest_counted ts r.taken r.longest h c.read-halt.ensures.read.longest c.read-halt.ensures.halt) complete,
      c.end_of_first-end.ensures,
    )

pub returns-in_default-clause-completion : goal.returns-in_default-clause-completion
returns-in_default-clause-completion c =
    let ts = c.args.tokens.now in
    let r = c.read-halt.new.self in
    let h = c.read-halt.result in
    completion c.args.text.now ts (counted_of ts r.taken h) c.args.fault (stop_of c.args.fault h) _
    (counts ts c.args.fault r.taken h (behind_prefix (kinds (take r.taken ts)) c.read-halt.ensures.read.behind) c.read-halt.ensures.halt)
    c.judge-kind.ensures
    (λ complete. absurd (c.in_default.not-Complete complete))
    (λ other. refl)

pub returns-in_default-clause-value : goal.returns-in_default-clause-value
returns-in_default-clause-value c = is_completion c.args.text.now c.args.tokens.now c.args.fault _ (returns-in_default-clause-completion c)

pub returns-in_default-clause-longest : goal.returns-in_default-clause-longest
returns-in_default-clause-longest c = λ complete. absurd (c.in_default.not-Complete complete)
