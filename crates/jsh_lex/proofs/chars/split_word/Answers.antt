use Rattle.std.proofs.Common.{◌≡◌, ◌-◌, length, take, ap, sym, ◌∙◌}
use Rattle.std.specs.Str.{chars}
use Rattle.jsh_lex.specs.Lexis.{behind_word}
use Rattle.jsh_lex.proofs.Texts.{word_taken}
use Rattle.jsh_lex.proofs.chars.split_word.Goals as goal

pub returns-clause-bytes : goal.returns-clause-bytes
returns-clause-bytes c =
    let text = c.args.text.now in
    let after = c.behind_parts-after.result.now in
    let rest : chars after ≡ behind_word (chars text) = c.behind_parts-after.ensures.rest ∙ sym (ap behind_word c.in-Some.ensures.some) in
    ap (λ xs. take (length text - length after) xs) c.as_bytes.ensures.value ∙ word_taken text after c.utf8.text c.behind_parts-after.utf8 rest
