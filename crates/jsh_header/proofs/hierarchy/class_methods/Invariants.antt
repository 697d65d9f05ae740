use Rattle.std.proofs.Common.{◌≡◌, ◌++◌, ◌-◌, Some, length}
use Rattle.jsh_header.specs.SuperRules.{methods_of, superclasses}
use Rattle.jsh_header.proofs.hierarchy.class_methods.Given as goal

-- the classes so far, and those up from the next one
abbrev pub invariant-loop-step : goal.invariant-loop-step
invariant-loop-step l =
    l.methods.items ++ methods_of l.types (superclasses l.types (length l.types - l._step) l.next) ≡ methods_of l.types (superclasses l.types (length l.types) (Some l.place))
