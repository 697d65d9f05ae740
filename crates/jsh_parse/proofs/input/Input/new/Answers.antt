use Rattle.std.proofs.Common.{arith}
use Rattle.jsh_parse.proofs.Tokens.{within_taken, few_taken}
use Rattle.jsh_parse.proofs.input.Input.new.Goals as goal

pub prove-unreachable-requires : goal.prove-unreachable-requires
prove-unreachable-requires c = omega (arith, few_taken c.args.text.now c.args.tokens.now c.requires.taken)

pub invariant_of-result : goal.invariant_of-result
invariant_of-result c = record {
  within = within_taken c.args.text.now c.args.tokens.now c.requires.taken;
  few = omega (arith, c.if-prove.false, c.end_of.type_inv);
  short = c.requires.short;
}
