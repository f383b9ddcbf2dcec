use Rattle.std.proofs.Common.{refl, subst}
use Rattle.object_machine.specs.Standing.{Leaves}
use Rattle.object_machine.proofs.Formals.{elsewhere, exhausted_moves, fault_moves}
use Rattle.object_machine.proofs.actuals.at_line.Goals as goal

pub returns-in-Fault : goal.returns-in-Fault
returns-in-Fault c l other p r stack below before now run h =
    fault_moves l c.args.line.0 other p r stack below before now c.in-Fault.error c.args.line run refl (subst (λ f. Leaves f l c.args.line.0 p r stack below before now run) c.in-Fault.is h)

pub returns-in-Exhausted : goal.returns-in-Exhausted
returns-in-Exhausted c l other p r stack below before now run h =
    exhausted_moves l c.args.line.0 other p r stack below before now c.args.line run refl (subst (λ f. Leaves f l c.args.line.0 p r stack below before now run) c.in-Exhausted.is h)

pub returns-in_default : goal.returns-in_default
returns-in_default c l other p r stack below before now run h = elsewhere l c.args.line.0 other p r stack below before now c.args.flow run c.in_default.not-Fault c.in_default.not-Exhausted h
