use Rattle.std.proofs.Common.{◌∙◌, ap, sym}
use Rattle.jsh_lex.specs.Lexis.{Lexed}
use Rattle.jsh_cut.specs.Commands.{fault_of}
use Rattle.jsh_cut.proofs.waiting.Waiting.into_remainder.Goals as goal

pub whole-requires-clause-scanned : goal.whole-requires-clause-scanned
whole-requires-clause-scanned c = record {
  tokens = c.from_vec.ensures ∙ sym (ap (λ (l : Lexed). l.tokens) c.self.invariant.lexed);
  fault = c.kind_of.ensures ∙ sym (ap fault_of c.self.invariant.lexed);
}
