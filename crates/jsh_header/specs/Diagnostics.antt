-- The diagnostics of broken rules on supertypes, in a declaration.
use Rattle.std.specs.Prelude.{ℕ, List, [], ◌++◌, Option, Some, None, map, slice_get}
use Rattle.std.specs.Option.{option_to_list}
use Rattle.jsh_tree.specs.declared.tree.Tree.{Tree}
use Rattle.jsh_tree.specs.declared.tree.Tree.TheVariants as tree
use Rattle.jsh_tree.specs.declared.expression.Identifier.{Identifier}
use Rattle.jsh_tree.specs.declared.diagnostic.Diagnostic.{Diagnostic}
use Rattle.jsh_tree.specs.declared.diagnostic.Code.TheVariants as code
use Rattle.jsh_header.specs.declared.rules.Breach.{Breach}

-- where a name begins, or else where that of the type itself does
abbrev pub or_own : Identifier → Option Identifier → ℕ
or_own own None = own.span.from
or_own own (Some written) = written.span.from

module _ (own : Identifier) (superclass : Option Identifier) (others : List Identifier) where
  -- where the supertype of this index begins, the superclass being the first if there is one, or where the type's name does
  abbrev pub place_of : Option ℕ → ℕ
  place_of None = own.span.from
  place_of (Some index) = or_own own (slice_get (option_to_list superclass ++ others) index)

  abbrev pub diagnostic : Breach → Diagnostic
  diagnostic breach = record { code = code.SuperRule breach.rule; place = place_of breach.supertype; name = None }

-- a class or an interface; no other snippet has supertypes
abbrev pub diagnostics : Tree → List Breach → List Diagnostic
diagnostics (tree.Class class) breaches = map (diagnostic class.name class.extends class.implements) breaches
diagnostics (tree.Interface interface) breaches = map (diagnostic interface.name None interface.extends) breaches
diagnostics _ breaches = []
