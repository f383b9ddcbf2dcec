use Rattle.std.proofs.Common.{◌≡◌, ◌∙◌, ◌-◌, ap, arith, length, nat_lt, sym}
use Rattle.prefix_bind.specs.Cells.{most_cells}
use Rattle.prefix_bind.specs.Prefixes.{level_cells, level_cells_of}
use Rattle.prefix_bind.proofs.CellSums.{cells_last, cells_next, cells_none, cells_over}
use Rattle.prefix_bind.proofs.chains.is_overfull.Goals as goal

pub loop-step-init : goal.loop-step-init
unfolding level_cells
loop-step-init c =
    let n = length c.args.scopes.now.blocks in
    let e : n ≡ n - 0 = omega arith in ap (λ m. nat_lt most_cells (level_cells_of c.args.scopes.now m c.args.block)) e

pub returns-then-cells-room : goal.returns-then-cells-room
returns-then-cells-room c =
    sym (c.loop-step.invariant ∙ cells_over c.args.scopes.now (length c.args.scopes.now.blocks) c.loop-step.step c.loop-step.level c.loop-step.room _ (omega arith) c.cells_at-cells.ensures (omega arith))

pub returns-in-None : goal.returns-in-None
returns-in-None c =
    sym (c.loop-step.invariant ∙ cells_last c.args.scopes.now (length c.args.scopes.now.blocks) c.loop-step.step c.loop-step.level c.loop-step.room _ (omega arith) c.cells_at-cells.ensures (omega arith) (sym c.base_of.ensures ∙ c.in-None.is))

pub loop-step-preserved : goal.loop-step-preserved
loop-step-preserved c =
    c.loop-step.invariant ∙ cells_next c.args.scopes.now (length c.args.scopes.now.blocks) c.loop-step.step c.loop-step.level _ c.loop-step.room _ (omega arith) c.cells_at-cells.ensures (omega arith) (sym c.base_of.ensures ∙ c.in-Some.is)

pub returns : goal.returns
returns c =
    sym (c.loop-step.invariant ∙ cells_none c.args.scopes.now (length c.args.scopes.now.blocks) c.loop-step.step c.loop-step.level c.loop-step.room (omega arith))
