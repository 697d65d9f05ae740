use Rattle.std.proofs.Common.{arith, ap, ◌∙◌}
use Rattle.std.specs.Str.{chars}
use Rattle.jsh_lex.proofs.Texts.{closes}
use Rattle.jsh_lex.proofs.literal.content.Goals as goal

pub overflow_sub-text : goal.overflow_sub-text
overflow_sub-text c =
    let h = closes c.args.quote c.args.text.now c.args.after.now c.requires.ascii c.utf8.text c.utf8.after c.requires.closed in omega (arith, h.longer)

pub overflow_sub-text-2 : goal.overflow_sub-text-2
overflow_sub-text-2 c =
    let h = closes c.args.quote c.args.text.now c.args.after.now c.requires.ascii c.utf8.text c.utf8.after c.requires.closed in omega (arith, h.longer)

pub split_at-requires : goal.split_at-requires
split_at-requires c =
    (closes c.args.quote c.args.text.now c.args.after.now c.requires.ascii c.utf8.text c.utf8.after c.requires.closed).boundary

pub returns : goal.returns
returns c =
    ap chars c.split_at.ensures.front
    ∙ (closes c.args.quote c.args.text.now c.args.after.now c.requires.ascii c.utf8.text c.utf8.after c.requires.closed).inside
