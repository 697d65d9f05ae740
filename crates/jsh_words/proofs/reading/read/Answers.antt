use Rattle.std.proofs.Common.{◌∙◌}
use Rattle.jsh_words.proofs.Whole.{all_utf8, found_is, refused_is}
use Rattle.jsh_words.proofs.reading.read.Goals as goal

pub returns-in-Ok-clause-found : goal.returns-in-Ok-clause-found
returns-in-Ok-clause-found c =
    found_is _ _ _ c.in_ok-command.ensures (all_utf8 c.args.words.now) c.in-Ok.ensures.matches c.in-Ok.ensures.kinds

pub returns : goal.returns
returns c = record {
  found = tt;
  refused = λ is. refused_is c.in-Err.error _ _ c.in_ok-command.ensures (all_utf8 c.args.words.now) c.in-Err.ensures.kinds (λ memory. c.in_default.not-OutOfMemory (c.kind.ensures ∙ memory));
}
