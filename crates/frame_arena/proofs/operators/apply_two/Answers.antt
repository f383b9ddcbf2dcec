use Rattle.std.proofs.Common.{ap, sym, ◌∙◌, ◌-◌, ◌+◌, ◌∷◌, arith}
use Rattle.sim_code.specs.Events.{answering, applying_two}
use Rattle.sim_code.specs.Machine.{Of, plain}
use Rattle.frame_arena.specs.Slots.{value_of}
use Rattle.frame_arena.specs.Stacks.{slot_at, values_of}
use Rattle.frame_arena.proofs.Operands.{two_at, two_few, two_on}
use Rattle.frame_arena.proofs.operators.apply_two.Goals as goal

pub returns-then-depth-lt2-clause-row : goal.returns-then-depth-lt2-clause-row
returns-then-depth-lt2-clause-row c line o go = two_few line o go c.args.op c.args.depth c.args.stack.now c.if-depth-lt2.true

pub returns-clause-row : goal.returns-clause-row
returns-clause-row c line o go =
    let at = c.args.depth - 2 in
    ap (λ l. applying_two plain c.args.op line l o (λ z rest. go (Of z ∷ rest))) (two_at c.args.depth c.args.stack.now (omega (arith, c.if-depth-lt2.false)) c.requires.fits)
    ∙ two_on line o go c.args.op (value_of (slot_at c.args.stack.now (at + 1))) (value_of (slot_at c.args.stack.now at)) (values_of at c.args.stack.now)
    ∙ ap (λ a. answering line a o (λ z. go (Of z ∷ values_of at c.args.stack.now))) (sym (c.computed_of_two-computed.ensures.answer o.store.frames))
    ∙ c.put.ensures.row line o go
