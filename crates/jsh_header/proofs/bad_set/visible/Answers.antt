use Rattle.std.proofs.Common.{◌≡◌, List, Bool, length, map, not, ◌∙◌, ap}
use Rattle.std.specs.List.{range_with_len}
use Rattle.jsh_scope.specs.Scope.{Scope}
use Rattle.jsh_header.specs.Bad.{is_bad}
use Rattle.jsh_header.proofs.Closing.{map_turned}
use Rattle.jsh_header.proofs.bad_set.visible.Goals as goal

pub returns : goal.returns
returns c =
    let live = c.args.live.now in
    let scope : Scope = record { members = live; library = c.args.library.now } in
    c.in_ok-marks.ensures
    ∙ ap (λ (marks : List Bool). map not marks) (c.as_slice.ensures.value ∙ c.in_ok-bad.ensures.marks)
    ∙ map_turned (is_bad scope) (range_with_len 0 (length live))
