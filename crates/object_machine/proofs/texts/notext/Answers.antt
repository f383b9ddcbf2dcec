use Rattle.std.proofs.Common.{ap, refl, sym}
use Rattle.sim_values.specs.Plain.{Text}
use Rattle.sim_values.specs.Texts.{notext}
use Rattle.sim_code.specs.Rows.{pushed}
use Rattle.object_machine.specs.Standing.{Obeys, activation_at, below_of}
use Rattle.object_machine.proofs.Going.{along}
use Rattle.object_machine.proofs.Scalars.{scalar_leads, scalar_leads_array}
use Rattle.object_machine.proofs.texts.notext.Goals as goal

pub returns-clause-row : goal.returns-clause-row
unfolding Obeys
returns-clause-row c l line p below now before o m s =
    let slot = c.text-slot.result in
    along l line p below before now _ _ _ _ _ (ap (λ v. pushed o m (activation_at c.args.regs.now c.args.stack.now) (below_of below) v) (sym c.text-slot.ensures.value))
    (c.push.ensures.row l line p below before now o m s (scalar_leads p.frames.items m slot (Text notext) c.text-slot.ensures.value refl) (scalar_leads_array p.arrays.regions o.arrays slot (Text notext) c.text-slot.ensures.value refl))
