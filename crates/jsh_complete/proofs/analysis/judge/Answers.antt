use Rattle.std.proofs.Common.{ap, subst}
use Rattle.jsh_complete.specs.Completeness.{at_end, at_fault, lexical_stop}
use Rattle.jsh_complete.specs.Reading.{IsLongest}
use Rattle.jsh_complete.proofs.Judged.{at_end_taken, given_at_end, given_begun}
use Rattle.jsh_complete.proofs.analysis.judge.Goals as goal

pub judge_faulty-requires-clause-longest : goal.judge_faulty-requires-clause-longest
judge_faulty-requires-clause-longest c =
    let ts = c.args.tokens.now in
    let all = at_end_taken ts c.args.reader.now.taken c.args.halt c.requires.halt c.in-AtEnd.is in
    subst (λ n. IsLongest ts n c.args.reader.now.longest) all c.requires.read.longest

pub returns-in-None : goal.returns-in-None
returns-in-None c =
    given_at_end c.args.tokens.now c.args.reader.now.taken c.args.halt c.args.fault at_end c.judge_whole.result c.in-AtEnd.is
    (ap lexical_stop c.in-None.is) c.judge_whole.ensures

pub returns-in-Some : goal.returns-in-Some
returns-in-Some c =
    given_at_end c.args.tokens.now c.args.reader.now.taken c.args.halt c.args.fault (at_fault c.in-Some.fault) c.judge_faulty.result c.in-AtEnd.is
    (ap lexical_stop c.in-Some.is) c.judge_faulty.ensures

pub returns-in-TooDeep : goal.returns-in-TooDeep
returns-in-TooDeep c =
    given_begun c.args.tokens.now c.args.reader.now.taken c.args.reader.now.longest c.args.halt c.args.fault c.begun.result c.requires.read.longest
    c.requires.halt (λ e. cc) c.begun.ensures.some c.begun.ensures.none

pub returns-in-Refused : goal.returns-in-Refused
returns-in-Refused c =
    given_begun c.args.tokens.now c.args.reader.now.taken c.args.reader.now.longest c.args.halt c.args.fault c.begun-in-Refused.result
    c.requires.read.longest c.requires.halt (λ e. cc) c.begun-in-Refused.ensures.some c.begun-in-Refused.ensures.none
