use Rattle.std.proofs.Common.{rules, to_z, of_z, w64, ◌≡◌, ◌∙◌, ap, sym, refl}
use Rattle.sim_code.specs.Machine.{Of}
use Rattle.sim_code.specs.Rows.{pushed}
use Rattle.object_machine.specs.Standing.{Obeys, activation_at, below_of}
use Rattle.object_machine.proofs.Going.{along}
use Rattle.object_machine.proofs.Scalars.{scalar_leads, scalar_leads_array}
use Rattle.sim_values.specs.Plain.{Integer}
use Rattle.object_machine.proofs.operands.push_integer.Goals as goal

pub returns-clause-row : goal.returns-clause-row
unfolding Obeys
returns-clause-row c l line p below now before o m s =
    let ex : to_z w64 (of_z w64 c.args.value) ≡ c.args.value = search rules in
    let v = c.integer.ensures.value ∙ ap (λ z. Of (Integer z)) ex in
    along l line p below before now _ _ _ _ _ (ap (λ v. pushed o m (activation_at c.args.regs.now c.args.stack.now) (below_of below) v) (sym v))
    (c.push.ensures.row l line p below before now o m s (scalar_leads p.frames.items m c.integer.result (Integer c.args.value) v refl) (scalar_leads_array p.arrays.regions o.arrays c.integer.result (Integer c.args.value) v refl))
