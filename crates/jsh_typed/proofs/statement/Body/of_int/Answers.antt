use Rattle.std.proofs.Common.{◌≡◌, ◌∙◌, ℤ, List, [], true, Some, None, ap, sym}
use Rattle.jsh_text.specs.declared.value.Value.{Value}
use Rattle.jsh_text.specs.declared.value.Value.TheVariants as value
use Rattle.jsh_typed.specs.declared.types.Element.TheVariants as element
use Rattle.jsh_typed.specs.declared.types.ResolvedType.TheVariants as type
use Rattle.jsh_typed.specs.declared.hierarchy.HierarchyEntry.{HierarchyEntry}
use Rattle.jsh_typed.specs.declared.expression.Start.TheVariants as start
use Rattle.jsh_typed.specs.declared.expression.Start.TheViews.{roll-Expression}
use Rattle.jsh_typed.specs.declared.statement.BodyCode.TheVariants as code
use Rattle.jsh_typed.specs.declared.expression.Start.TheOpen.{Start-F}
use Rattle.jsh_typed.specs.declared.expression.Start.TheFolds.{fold-roll-Start}
use Rattle.jsh_typed.specs.Kinds.{Typing, Scope, Whole, Onward, kinds, typing, start_typing, of_constant, is_of, on_start, on_step, on_target, on_expression}
use Rattle.jsh_typed.proofs.statement.Body.of_int.Goals as goal

constant : (v : Value) (scope : Scope) → start_typing (start.Constant v) scope ≡ of_constant v
constant v scope = ap (λ (f : Whole). f scope)
    (ap start_typing (sym (start.rolls-Constant v)) ∙ fold-roll-Start Whole Onward Whole Whole on_start on_step on_target on_expression (Start-F.Constant v))

number : (h : List HierarchyEntry) (n : ℤ) → kinds h (record {
  class = None;
  slots = [];
  params = 0;
  result = Some (type.Of element.Int 0);
  code = code.Value (roll-Expression (record { start = start.Constant (value.Int n); steps = [] }));
}) ≡ true
unfolding kinds typing
number h n =
    ap (λ (t : Typing). is_of t (type.Of element.Int 0)) (constant (value.Int n) (record { hierarchy = h; class_of_this = None; slots = [] }))

pub returns : goal.returns
returns c = λ h. rw (c.new.ensures, c.new-2.ensures) (number h _)
