use Rattle.std.proofs.Common.{refl}
use Rattle.jsh_recognizer.specs.declared.scanner.End.TheVariants as end
use Rattle.jsh_recognizer.specs.Stops.{part_of}
use Rattle.jsh_parse.proofs.Refused.{stopped, stuck}
use Rattle.jsh_parse.proofs.refusals.refusal.Goals as goal

pub unreachable-requires : goal.unreachable-requires
unreachable-requires c =
    c.requires (stopped (part_of c.args.start) 256 c.args.input.now.tokens.now c.scan-scanned.result end.Whole c.in-Whole.is c.scan-scanned.ensures.stop).1

pub returns-in-TooDeep : goal.returns-in-TooDeep
returns-in-TooDeep c =
    let stop = stopped (part_of c.args.start) 256 c.args.input.now.tokens.now c.scan-scanned.result end.TooDeep c.in-TooDeep.is c.scan-scanned.ensures.stop in
    (refl, c.scan-scanned.result.read, stop.0, stop.1)

pub returns-in-Open : goal.returns-in-Open
returns-in-Open c =
    let found = stuck (part_of c.args.start) 256 c.args.input.now.tokens.now c.scan-scanned.result c.in-Open.wanted c.in-Open.is c.scan-scanned.ensures.stop in
    (c.scan-scanned.result.read, found.0, found.1, found.2, c.place-place.ensures)
