use Rattle.std.proofs.Common.{refl, sym}
use Rattle.sim_base.specs.declared.run_error.RunError.TheVariants.{OutsideQualification}
use Rattle.object_machine.specs.Standing.{Obeys}
use Rattle.object_machine.proofs.ClassRows.{qualified_inside, qualified_never, qualified_outside}
use Rattle.object_machine.proofs.Going.{along, depth_goes_on, faults, no_rule_in}
use Rattle.object_machine.proofs.objects.qualified.Goals as goal

pub returns-in-Some-true-clause-row : goal.returns-in-Some-true-clause-row
unfolding Obeys
returns-in-Some-true-clause-row c l line p stack below now before o m s =
    let r = c.args.regs.now in
    along l line p below before now _ _ _ _ _ (qualified_inside line c.args.inside c.in-Some-true.field-0 o _ (sym c.in-Some-true.is) c.in-Some-true.field-0-test)
    (depth_goes_on l line p below before now r _ stack stack o m r.depth s refl (refl, refl, refl) refl refl s.top.slots s.top.arrays_lead)

pub returns-in-Some-false-clause-row : goal.returns-in-Some-false-clause-row
unfolding Obeys
returns-in-Some-false-clause-row c l line p stack below now before o m s =
    let r = c.args.regs.now in
    along l line p below before now _ _ _ _ _ (qualified_outside line c.args.inside c.in-Some-false.field-0 o _ (sym c.in-Some-false.is) c.in-Some-false.field-0-test)
    (faults l line p below before now OutsideQualification r r stack stack o m s)

pub returns-in-None-clause-row : goal.returns-in-None-clause-row
unfolding Obeys
returns-in-None-clause-row c l line p stack below now before o m s = no_rule_in l line p p below before now _ _ _ _ o m s (qualified_never line c.args.inside o _ (sym c.in-None.is))
