use Rattle.std.proofs.Common.{◌≡◌, ◌≤◌, ◌+◌, take}
use Rattle.jsh_render.specs.Place.{column_behind}
use Rattle.jsh_render.proofs.place.column_number.Given as goal

abbrev pub invariant-loop-byte : goal.invariant-loop-byte
invariant-loop-byte l = record { value : l.column ≡ column_behind (take l.byte-index l.before); bound : l.column ≤ l.byte-index + 1 }
