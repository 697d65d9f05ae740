use Rattle.std.proofs.Common.{sym, subst}
use Rattle.jsh_recognizer.specs.Machine.{Frames}
use Rattle.jsh_recognizer.specs.Stacks.{frames_of}
use Rattle.jsh_complete.specs.Reading.{IsBehind}
use Rattle.jsh_complete.proofs.Judged.{semicolon_taken, semicolon_not_taken}
use Rattle.jsh_complete.proofs.analysis.is_whole_with_semicolon.Goals as goal

pub returns-in-Taken : goal.returns-in-Taken
returns-in-Taken c = λ ks runs.
    let ahead : IsBehind ks (frames_of c.copy_of-ahead.result.stack) = subst (λ (fs : Frames). IsBehind ks fs) (sym c.copy_of-ahead.ensures) runs in
    semicolon_taken (frames_of c.copy_of-ahead.result.stack) (frames_of c.advance.new.self.stack) c.advance.result c.is_whole.result ks c.advance.ensures
    c.in-Taken.is ahead c.is_whole.ensures

pub returns-in-TooDeep : goal.returns-in-TooDeep
returns-in-TooDeep c = λ ks runs.
    let ahead : IsBehind ks (frames_of c.copy_of-ahead.result.stack) = subst (λ (fs : Frames). IsBehind ks fs) (sym c.copy_of-ahead.ensures) runs in
    semicolon_not_taken (frames_of c.copy_of-ahead.result.stack) (frames_of c.advance.new.self.stack) c.advance.result c.advance.ensures c.in-TooDeep.is ks ahead
