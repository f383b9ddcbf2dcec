use Rattle.std.proofs.Common.{◌∙◌, arith}
use Rattle.frame_arena.specs.Stacks.{values_of}
use Rattle.object_machine.proofs.ActivationRows.{Popped, operand_absent, operand_popped}
use Rattle.object_machine.proofs.activations.take_operand.Goals as goal

pub returns-in_default-pop : goal.returns-in_default-pop
returns-in_default-pop c = record {
  under = tt;
  leads = tt;
  row = λ o go. operand_popped o go c.args.timing (values_of c.args.depth c.args.stack.now) c.in_default.not-Directly ∙ c.in_default-pop.ensures.row o (Popped o go c.args.timing);
}

pub returns-in-Directly-clause-row : goal.returns-in-Directly-clause-row
returns-in-Directly-clause-row c o go = operand_absent o go c.args.timing _ (values_of c.args.depth c.args.stack.now) c.in-Directly.is

pub returns-in-Some : goal.returns-in-Some
returns-in-Some c = record {
  under = let e = c.in-Some.ensures.shallower in let f = c.requires.fits in omega (arith, e, f);
  leads = λ frames m all. all c.in-Some.under;
  row = λ o go. operand_popped o go c.args.timing (values_of c.args.depth c.args.stack.now) c.in_default.not-Directly ∙ c.in-Some.ensures.row o (Popped o go c.args.timing);
}
