use Rattle.std.proofs.Common.{◌≡◌, drop}
use Rattle.jsh_header.proofs.Naming.{found_at}
use Rattle.jsh_header.proofs.units.first_among.Given as goal

abbrev pub invariant-loop-place : goal.invariant-loop-place
invariant-loop-place l = found_at l.units l.wanted (drop l.place-index l.places) ≡ found_at l.units l.wanted l.places
