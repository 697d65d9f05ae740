use Rattle.std.proofs.Common.{◌≡◌, drop}
use Rattle.std.specs.List.{position_from}
use Rattle.jsh_scope.specs.Imports.{is_named}
use Rattle.jsh_header.proofs.names.named_place.Given as goal

abbrev pub invariant-loop-place : goal.invariant-loop-place
invariant-loop-place l = position_from (is_named l.qualifier l.name) l.place (drop l.place l.types) ≡ position_from (is_named l.qualifier l.name) 0 l.types
