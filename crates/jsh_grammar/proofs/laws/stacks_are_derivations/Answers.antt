use Rattle.jsh_grammar.proofs.Stacks.{stack_whole}
use Rattle.jsh_grammar.proofs.laws.stacks_are_derivations.Goals as goal

pub returns : goal.returns
returns c = record { whole = stack_whole }
