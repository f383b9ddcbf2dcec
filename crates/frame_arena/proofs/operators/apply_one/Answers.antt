use Rattle.std.proofs.Common.{ap, sym, ◌∙◌, ◌-◌, ◌∷◌, arith}
use Rattle.sim_code.specs.Events.{answering, applying_one}
use Rattle.sim_code.specs.Machine.{Of, plain}
use Rattle.frame_arena.specs.Slots.{value_of}
use Rattle.frame_arena.specs.Stacks.{slot_at, values_of}
use Rattle.frame_arena.proofs.Operands.{one_none, one_on}
use Rattle.frame_arena.proofs.Tops.{top_of}
use Rattle.frame_arena.proofs.operators.apply_one.Goals as goal

pub returns-then-depth-lt1-clause-row : goal.returns-then-depth-lt1-clause-row
returns-then-depth-lt1-clause-row c line o go = one_none line o go c.args.op c.args.depth c.args.stack.now c.if-depth-lt1.true

pub returns-clause-row : goal.returns-clause-row
returns-clause-row c line o go =
    let at = c.args.depth - 1 in
    ap (λ l. applying_one plain c.args.op line l o (λ z rest. go (Of z ∷ rest))) (top_of c.args.depth c.args.stack.now (omega (arith, c.if-depth-lt1.false)) c.requires.fits)
    ∙ one_on line o go c.args.op (value_of (slot_at c.args.stack.now at)) (values_of at c.args.stack.now)
    ∙ ap (λ a. answering line a o (λ z. go (Of z ∷ values_of at c.args.stack.now))) (sym c.computed_of_one-computed.ensures.answer)
    ∙ c.put.ensures.row line o go
