use Rattle.std.proofs.Common.{◌∙◌, ap}
use Rattle.std.specs.Prelude.{length}
use Rattle.sim_code.specs.Events.{when}
use Rattle.sim_code.specs.Machine.{pushing_any}
use Rattle.frame_arena.specs.Frames.{found_value}
use Rattle.frame_arena.specs.Stacks.{values_of}
use Rattle.object_machine.proofs.leaving.put.Goals as goal

pub returns-in_default-clause-row : goal.returns-in_default-clause-row
unfolding when
returns-in_default-clause-row c o go = ap (λ v. pushing_any (length c.args.stack.now) (values_of c.args.regs.now.depth c.args.stack.now) (found_value v) o go) c.in_default.is

pub returns-in_default-push-clause-row : goal.returns-in_default-push-clause-row
unfolding when
returns-in_default-push-clause-row c o go =
    ap (λ v. pushing_any (length c.args.stack.now) (values_of c.args.regs.now.depth c.args.stack.now) (found_value v) o go) c.in-Some.is
    ∙ c.in_default-push.ensures.row o go

pub returns-clause-row : goal.returns-clause-row
unfolding when
returns-clause-row c o go =
    ap (λ v. pushing_any (length c.args.stack.now) (values_of c.args.regs.now.depth c.args.stack.now) (found_value v) o go) c.in-Some.is
    ∙ c.in-Some-push.ensures.row o go
