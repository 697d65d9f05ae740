use Rattle.std.proofs.Common.{[], sym, subst, arith}
use Rattle.jsh_recognizer.specs.Machine.{at_end}
use Rattle.jsh_complete.specs.Reading.{IsBehind}
use Rattle.jsh_complete.proofs.Taken.{none_yet}
use Rattle.jsh_complete.proofs.reading.Reader.new.Goals as goal

pub returns : goal.returns
returns c = λ ts. record {
  few = omega arith;
  behind = subst (IsBehind []) (sym c.new.ensures) at_end;
  longest = none_yet ts;
}
