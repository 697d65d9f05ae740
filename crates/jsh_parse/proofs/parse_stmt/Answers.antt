use Rattle.jsh_parse.proofs.Refused.{no_statement}
use Rattle.jsh_parse.proofs.parse_stmt.Goals as goal

pub refusal-requires : goal.refusal-requires
refusal-requires c =
    rw c.new-input.ensures.tokens
    (no_statement c.args.text.now 256 c.args.tokens.now c.utf8.text c.requires.taken
    (λ dangling tree d. c.in-Err.ensures.refused c.in_default.not-NoMemory dangling tree (rw (c.new-input.ensures.text, c.new-input.ensures.tokens) d)))
