use Rattle.std.proofs.Common.{rules, ◌≡◌, ◌-◌, ap, ◌∙◌, arith, of_z, w64}
use Rattle.std.specs.Prelude.{pos}
use Rattle.sim_code.specs.Events.{pop_truth}
use Rattle.sim_code.specs.Machine.{plain}
use Rattle.frame_arena.specs.Slots.{is_on}
use Rattle.frame_arena.specs.Stacks.{values_of, slot_at}
use Rattle.frame_arena.proofs.Tops.{top_of, no_truth, a_truth, truth_on, truth_none}
use Rattle.frame_arena.proofs.stack.pop_truth.Goals as goal

pub returns-then-depth-lt1-clause-row : goal.returns-then-depth-lt1-clause-row
returns-then-depth-lt1-clause-row c o go = truth_none c.args.depth c.args.stack.now o go (omega (arith, c.if-depth-lt1.true))

pub returns-in_default : goal.returns-in_default
returns-in_default c = record {
  some = tt;
  row = λ o go.
      ap (λ l. pop_truth plain l o go) (top_of c.args.depth c.args.stack.now (omega (arith, c.if-depth-lt1.false)) c.requires.fits)
      ∙ no_truth _ (slot_at c.args.stack.now (c.args.depth - 1)) _ o go c.in_default.not-Truth;
}

pub returns-then-stack-at-eq0-clause-row : goal.returns-then-stack-at-eq0-clause-row
returns-then-stack-at-eq0-clause-row c o go =
    let e : (slot_at c.args.stack.now (c.args.depth - 1)).«data» ≡ pos 0 = search rules in
    ap (λ l. pop_truth plain l o go) (top_of c.args.depth c.args.stack.now (omega (arith, c.if-depth-lt1.false)) c.requires.fits)
    ∙ a_truth _ (slot_at c.args.stack.now (c.args.depth - 1)) _ o go c.in-Truth.is
    ∙ ap (λ z. go (is_on z) (values_of (c.args.depth - 1) c.args.stack.now)) e

pub returns-else-stack-at-eq0-clause-row : goal.returns-else-stack-at-eq0-clause-row
returns-else-stack-at-eq0-clause-row c o go =
    ap (λ l. pop_truth plain l o go) (top_of c.args.depth c.args.stack.now (omega (arith, c.if-depth-lt1.false)) c.requires.fits)
    ∙ a_truth _ (slot_at c.args.stack.now (c.args.depth - 1)) _ o go c.in-Truth.is
    ∙ ap (λ b. go b (values_of (c.args.depth - 1) c.args.stack.now))
    (truth_on (slot_at c.args.stack.now (c.args.depth - 1)).«data» (λ e. c.if-stack-at-eq0.false (ap (λ z. of_z w64 z) e)))
