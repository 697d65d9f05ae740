use Rattle.std.proofs.Common.{inl}
use Rattle.jsh_recognizer.specs.Recognizing.{kinds}
use Rattle.jsh_complete.proofs.Judged.{no_kinds, some_kinds, wants_open}
use Rattle.jsh_complete.proofs.analysis.is_open.Goals as goal

pub returns-then-is_empty : goal.returns-then-is_empty
returns-then-is_empty c = inl (no_kinds c.args.tokens.now c.is_empty.result c.is_empty.ensures c.if-is_empty.true)

pub returns : goal.returns
returns c =
    let some = some_kinds c.args.tokens.now c.is_empty.result c.is_empty.ensures c.if-is_empty.false in
    wants_open (kinds c.args.tokens.now) c.wanted.result c.is_some.result c.wanted.ensures some c.requires c.is_some.ensures
