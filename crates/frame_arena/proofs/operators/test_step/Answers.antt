use Rattle.std.proofs.Common.{ap, sym, ◌∙◌, ◌-◌, ◌+◌, ◌∷◌, arith}
use Rattle.sim_code.specs.Events.{answering, testing_step}
use Rattle.sim_code.specs.Machine.{Of, plain}
use Rattle.frame_arena.specs.Slots.{value_of}
use Rattle.frame_arena.specs.Stacks.{slot_at, values_of}
use Rattle.frame_arena.proofs.Operands.{three_at, three_few, three_on}
use Rattle.frame_arena.proofs.operators.test_step.Goals as goal

pub returns-then-depth-lt3-clause-row : goal.returns-then-depth-lt3-clause-row
returns-then-depth-lt3-clause-row c line o go = three_few line o go c.args.depth c.args.stack.now c.if-depth-lt3.true

pub returns-clause-row : goal.returns-clause-row
returns-clause-row c line o go =
    let at = c.args.depth - 3 in
    ap (λ l. testing_step plain line l o (λ z rest. go (Of z ∷ rest))) (three_at c.args.depth c.args.stack.now (omega (arith, c.if-depth-lt3.false)) c.requires.fits)
    ∙ three_on line o go (value_of (slot_at c.args.stack.now (at + 2))) (value_of (slot_at c.args.stack.now (at + 1))) (value_of (slot_at c.args.stack.now at)) (values_of at c.args.stack.now)
    ∙ ap (λ a. answering line a o (λ z. go (Of z ∷ values_of at c.args.stack.now))) (sym c.step_tested-computed.ensures.answer)
    ∙ c.put.ensures.row line o go
