use Rattle.std.proofs.Common.{◌+◌}
use Rattle.frame_arena.specs.Frames.{SlotLeads}
use Rattle.frame_arena.specs.Slots.{value_of}
use Rattle.frame_arena.specs.Stacks.{slot_at}
use Rattle.object_machine.proofs.Called.{all_filled, none_filled, one_more}
use Rattle.object_machine.proofs.calling.fill.Goals as goal

pub returns-then-not-set_cell-clause-arrays : goal.returns-then-not-set_cell-clause-arrays
returns-then-not-set_cell-clause-arrays c regions arrays cells stack =
    c.set_cell.ensures.arrays regions arrays (c.loop-next.invariant.1 regions arrays cells stack) (c.held-slot.ensures.leads_arrays regions arrays (stack (c.args.at + c.loop-next.next)))

pub loop-next-preserved : goal.loop-next-preserved
loop-next-preserved c = (
  λ m h led all.
      let f = c.loop-next.invariant.0 m h led all in
      let slot : SlotLeads c.args.frames.now f.memory (slot_at c.args.stack.now (c.args.at + c.loop-next.next)) = λ names. f.leads _ (all (c.args.at + c.loop-next.next) names) in
      one_more c.args.frames.now m c.args.home.stamp c.args.first c.args.stack.now c.args.at c.args.count c.loop-next.cells c.set_cell.new.cells c.loop-next.next c.loop-next-test.true f (value_of c.held-slot.result) c.held-slot.ensures.value
      (c.if-not-set_cell.ensures.holds f.memory f.holds (f.leads c.args.home led) (c.held-slot.ensures.leads c.args.frames.now f.memory slot) c.held-slot.ensures.held)
      (λ r q. c.set_cell.ensures.leads f.memory (value_of c.held-slot.result) r q),
  λ regions arrays cells stack. c.set_cell.ensures.arrays regions arrays (c.loop-next.invariant.1 regions arrays cells stack) (c.held-slot.ensures.leads_arrays regions arrays (stack (c.args.at + c.loop-next.next))),
)

pub loop-next-init : goal.loop-next-init
loop-next-init c = (λ m h led all. none_filled c.args.frames.now m c.args.home.stamp c.args.first c.args.stack.now c.args.at c.args.count c.args.cells.now h, λ regions arrays cells stack. cells)

pub returns-clause-row : goal.returns-clause-row
returns-clause-row c on m h led all =
    all_filled c.args.frames.now m c.args.home.stamp c.args.first c.args.stack.now c.args.at c.args.count c.loop-next.cells c.loop-next.next c.loop-next-test.false (c.loop-next.invariant.0 m h led all)
