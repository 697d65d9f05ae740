use Rattle.std.proofs.Common.{◌≡◌, ◌++◌, take, flat_map}
use Rattle.jsh_snippet.specs.Mentions.{in_field}
use Rattle.jsh_snippet.proofs.mentioned.push_fields.Given as goal

abbrev pub invariant-loop-field : goal.invariant-loop-field
invariant-loop-field l = l.names.items ≡ l.initial.names.items ++ flat_map in_field (take l.field-index l.fields)
