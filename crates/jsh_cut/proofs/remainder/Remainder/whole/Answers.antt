use Rattle.std.proofs.Common.{arith}
use Rattle.std.specs.String.{string_bytes}
use Rattle.std.proofs.lemmas.Str.{IsCharBoundary-start, IsUtf8-string_bytes}
use Rattle.jsh_cut.proofs.Rests.{whole_rest}
use Rattle.jsh_cut.proofs.remainder.Remainder.whole.Goals as goal

pub invariant_of-result : goal.invariant_of-result
invariant_of-result c =
    let text = string_bytes c.args.text in
    let scan = c.args.scan in
    record {
      short = c.requires.short;
      scanned = c.requires.scanned;
      between = IsCharBoundary-start text (IsUtf8-string_bytes c.args.text);
      few = omega arith;
      rest = whole_rest text scan.tokens scan.fault c.requires.scanned.tokens c.requires.scanned.fault;
    }
