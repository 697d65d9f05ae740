use Rattle.jsh_decl.proofs.DeclarationRefused.{no_snippet}
use Rattle.jsh_decl.proofs.parse_snippet.Goals as goal

pub refusal-requires : goal.refusal-requires
refusal-requires c =
    rw c.new-input.ensures.tokens
    (no_snippet c.args.text.now 256 c.args.tokens.now c.utf8.text c.requires.taken
    (λ tree d. c.in-Err.ensures.refused c.in_default.not-NoMemory tree (rw (c.new-input.ensures.text, c.new-input.ensures.tokens) d)))
