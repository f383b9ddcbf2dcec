-- What is written of a variable that is an operand of a level of operators.
use Rattle.std.specs.Prelude.{◌≡◌, ◌≢◌, ℕ}
use Rattle.sim_scope.specs.declared.bound.Bound.{Bound}
use Rattle.sim_tree.specs.declared.expr.Expr.{Expr}
use Rattle.codegen_expr.specs.declared.spot.Spot.{Spot}
use Rattle.codegen_expr.specs.Drafts.{DraftOf, given_up}
use Rattle.codegen_expr.specs.Emit.{WritesPlace}

-- the operand, if no others stand beside it
unfoldable pub WritesPlaceAlone : Bound → Spot → (n : ℕ) → (old new : DraftOf) → (class others : ℕ) → Expr → Type 0
WritesPlaceAlone b w n old new class others x = (others ≡ 0 → WritesPlace b w n old new class x) × (others ≢ 0 → new ≡ given_up old)
