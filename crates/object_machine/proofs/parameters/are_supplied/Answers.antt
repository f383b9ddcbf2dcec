use Rattle.std.proofs.Common.{inl, inr, sym, subst, arith}
use Rattle.frame_arena.proofs.Changes.{same_or_not}
use Rattle.sim_code.specs.Levels.{parameter_cell}
use Rattle.object_machine.proofs.ParameterCells.{Placed, all_placed, one_unplaced, put_nowhere, put_past}
use Rattle.object_machine.proofs.parameters.are_supplied.Goals as goal

pub loop-number-init : goal.loop-number-init
loop-number-init c code eb ec k h = absurd (omega (arith, h))

pub returns-in_default-clause-no : goal.returns-in_default-clause-no
returns-in_default-clause-no c off code vs to eb ec long cells =
    let place = parameter_cell code c.args.class in
    one_unplaced place vs 0 c.loop-number.number to (λ k above below. subst (λ n. Placed place n k) (sym cells) (c.loop-number.invariant code eb ec k below)) (omega arith) (omega (arith, long, c.loop-number-test.true))
    (λ v to2 e. put_nowhere (place c.loop-number.number) v to2 (sym (c.in_default.ensures.row code eb ec)))

pub returns-then-cell-cells-clause-no : goal.returns-then-cell-cells-clause-no
returns-then-cell-cells-clause-no c off code vs to eb ec long cells =
    let place = parameter_cell code c.args.class in
    one_unplaced place vs 0 c.loop-number.number to (λ k above below. subst (λ n. Placed place n k) (sym cells) (c.loop-number.invariant code eb ec k below)) (omega arith) (omega (arith, long, c.loop-number-test.true))
    (λ v to2 e. put_past (place c.loop-number.number) c.in-Some.cell v to2 (sym (c.in-Some.ensures.row code eb ec)) (omega (arith, e, cells, c.if-cell-cells.true)))

pub loop-number-preserved : goal.loop-number-preserved
loop-number-preserved c code eb ec k h =
    elim (same_or_not k c.loop-number.number) [
      | inl e ↦ subst (λ k. Placed (parameter_cell code c.args.class) c.args.cells k) (sym e) (record { cell = c.in-Some.cell; is = sym (c.in-Some.ensures.row code eb ec); within = omega (arith, c.if-cell-cells.false) })
      | inr ne ↦ c.loop-number.invariant code eb ec k (omega (arith, h, ne))
    ]

pub returns-clause-yes : goal.returns-clause-yes
returns-clause-yes c on code vs to eb ec long cells =
    let place = parameter_cell code c.args.class in
    all_placed place vs 0 to (λ k above below. subst (λ n. Placed place n k) (sym cells) (c.loop-number.invariant code eb ec k (omega (arith, below, long, c.loop-number-test.false))))
