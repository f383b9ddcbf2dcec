use Rattle.std.proofs.Common.{◌∙◌, ap, refl}
use Rattle.std.specs.Prelude.{slice_get}
use Rattle.object_machine.specs.declared.machine.Registers.{Registers}
use Rattle.object_machine.specs.Standing.{Obeys}
use Rattle.object_machine.proofs.Going.{along, goes_on, jumps_on, no_rule_in, stands_with}
use Rattle.object_machine.proofs.Jumps.{get_within, none_at}
use Rattle.object_machine.proofs.StageRows.{first_line, leads_nowhere, leads_there}
use Rattle.object_machine.proofs.stages.go_to.Goals as goal

pub returns-then-start-instrs-clause-row : goal.returns-then-start-instrs-clause-row
unfolding Obeys
returns-then-start-instrs-clause-row c code l line p stack below now e before o m s =
    no_rule_in l line p p below before now c.args.regs.now c.args.regs.now stack stack o m s
    (leads_nowhere code c.args.start o _ (ap (λ v. slice_get v c.args.start) e ∙ none_at c.args.instrs.now c.args.start c.if-start-instrs.true))

pub returns-clause-row : goal.returns-clause-row
unfolding Obeys
returns-clause-row c code l line p stack below now e before o m s =
    let r = c.args.regs.now in
    let r2 : Registers = record r { stage = c.args.stage } in
    along l line p below before now _ _ stack _ _
    (leads_there code c.args.start _ o _ (ap (λ v. slice_get v c.args.start) e ∙ get_within c.args.instrs.now c.args.start first_line c.if-start-instrs.false))
    (jumps_on l line p below before now _ stack _ (goes_on l line p below before now r2 _ stack stack o m _ _ _ (stands_with l line p below before now r r2 stack stack o m s refl s.top.slots s.top.arrays_lead) (refl, refl, refl) s.top.slots s.top.arrays_lead refl refl refl))
