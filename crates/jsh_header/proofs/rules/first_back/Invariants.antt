use Rattle.std.proofs.Common.{◌≡◌, drop}
use Rattle.std.specs.List.{position_from}
use Rattle.jsh_header.specs.declared.written.Written.{Written}
use Rattle.jsh_header.specs.Outlines.{outlines}
use Rattle.jsh_header.specs.SuperRules.{leads_back, place_of}
use Rattle.jsh_header.proofs.rules.first_back.Given as goal

abbrev pub invariant-loop-index : goal.invariant-loop-index
invariant-loop-index l = record {
  kept : l.hierarchy ≡ l.initial.hierarchy;
  rest : position_from (λ (written : Written). leads_back (outlines l.initial.hierarchy) l.place (place_of l.initial.hierarchy written)) l.index (drop l.index l.supertypes)
      ≡ position_from (λ (written : Written). leads_back (outlines l.initial.hierarchy) l.place (place_of l.initial.hierarchy written)) 0 l.supertypes;
}
