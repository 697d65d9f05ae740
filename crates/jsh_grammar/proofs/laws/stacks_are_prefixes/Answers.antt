use Rattle.jsh_grammar.proofs.Stacks.{stack_front}
use Rattle.jsh_grammar.proofs.laws.stacks_are_prefixes.Goals as goal

pub returns : goal.returns
returns c = record { prefixes = stack_front }
