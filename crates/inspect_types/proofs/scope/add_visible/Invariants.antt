use Rattle.inspect_types.specs.Visible.{Gathers, is_visible}
use Rattle.inspect_types.proofs.scope.add_visible.Given as goal

abbrev pub invariant-loop-attribute : goal.invariant-loop-attribute
invariant-loop-attribute l = Gathers (is_visible l.scopes l.at.0 l.block) l.fn.visible.items l.attributes l.visible.items l.attribute-index
