use Rattle.std.proofs.Common.{◌+◌, sym}
use Rattle.frame_arena.specs.Frames.{SlotLeads}
use Rattle.frame_arena.specs.Slots.{value_of}
use Rattle.frame_arena.specs.Stacks.{slot_at}
use Rattle.sim_code.specs.Levels.{parameter_cell}
use Rattle.object_machine.proofs.ParameterCells.{all_filled_by, none_filled_by, one_more_by}
use Rattle.object_machine.proofs.parameters.fill_parameters.Goals as goal

pub returns-in_default-clause-arrays : goal.returns-in_default-clause-arrays
returns-in_default-clause-arrays c regions arrays cells stack = c.loop-number.invariant.1 regions arrays cells stack

pub returns-then-not-set_cell-clause-arrays : goal.returns-then-not-set_cell-clause-arrays
returns-then-not-set_cell-clause-arrays c regions arrays cells stack =
    c.set_cell.ensures.arrays regions arrays (c.loop-number.invariant.1 regions arrays cells stack) (c.held-slot.ensures.leads_arrays regions arrays (stack (c.args.at + c.loop-number.number)))

pub loop-number-preserved : goal.loop-number-preserved
loop-number-preserved c = (
  λ code m eb ec h led all.
      let f = c.loop-number.invariant.0 code m eb ec h led all in
      let slot : SlotLeads c.args.frames.now f.memory (slot_at c.args.stack.now (c.args.at + c.loop-number.number)) = λ names. f.leads _ (all (c.args.at + c.loop-number.number) names) in
      one_more_by c.args.frames.now m c.args.home.stamp (parameter_cell code c.args.class) c.args.stack.now c.args.at c.args.count c.loop-number.cells c.set_cell.new.cells c.loop-number.number c.loop-number-test.true f c.in-Some.cell (sym (c.in-Some.ensures.row code eb ec)) (value_of c.held-slot.result) c.held-slot.ensures.value
      (c.if-not-set_cell.ensures.holds f.memory f.holds (f.leads c.args.home led) (c.held-slot.ensures.leads c.args.frames.now f.memory slot) c.held-slot.ensures.held)
      (λ r q. c.set_cell.ensures.leads f.memory (value_of c.held-slot.result) r q),
  λ regions arrays cells stack. c.set_cell.ensures.arrays regions arrays (c.loop-number.invariant.1 regions arrays cells stack) (c.held-slot.ensures.leads_arrays regions arrays (stack (c.args.at + c.loop-number.number))),
)

pub loop-number-init : goal.loop-number-init
loop-number-init c = (λ code m eb ec h led all. none_filled_by c.args.frames.now m c.args.home.stamp (parameter_cell code c.args.class) c.args.stack.now c.args.at c.args.count c.args.cells.now h, λ regions arrays cells stack. cells)

pub returns-clause-row : goal.returns-clause-row
returns-clause-row c on code m eb ec h led all =
    all_filled_by c.args.frames.now m c.args.home.stamp (parameter_cell code c.args.class) c.args.stack.now c.args.at c.args.count c.loop-number.cells c.loop-number.number c.loop-number-test.false (c.loop-number.invariant.0 code m eb ec h led all)
