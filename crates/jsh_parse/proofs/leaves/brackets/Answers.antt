use Rattle.std.proofs.Common.{arith, drop, ap, inr}
use Rattle.std.proofs.lemmas.List.{drop-drop}
use Rattle.jsh_parse.specs.Reader.{brackets}
use Rattle.jsh_parse.proofs.Types.{one_more_count, one_more_rest, no_more_count, no_more_rest}
use Rattle.jsh_parse.proofs.leaves.brackets.Goals as goal

pub loop-dims-preserved : goal.loop-dims-preserved
loop-dims-preserved c =
    let ts = drop c.loop-dims.at c.args.input.now.tokens.now in
    let further = drop-drop 2 c.loop-dims.at c.args.input.now.tokens.now in
    let count = one_more_count ts cc in
    let rest = one_more_rest ts cc in
    let same = ap (λ ts. (brackets ts).0) further in
    record {
      dims = omega arith;
      rest = rw (← further) cc;
      forward = omega arith;
      inside = inr c.loop-dims-test.ensures.inside;
    }

pub returns-clause-dims : goal.returns-clause-dims
returns-clause-dims c =
    let none = no_more_count (drop c.loop-dims.at c.args.input.now.tokens.now) cc in omega arith

pub returns-clause-rest : goal.returns-clause-rest
returns-clause-rest c =
    let none = no_more_rest (drop c.loop-dims.at c.args.input.now.tokens.now) cc in cc
