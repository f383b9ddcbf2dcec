use Rattle.std.proofs.Common.{◌≡◌, sym, subst, ap, ◌∙◌, arith}
use Rattle.std.specs.Prelude.{Some, true}
use Rattle.sim_code.specs.Simulations.{ended_at}
use Rattle.simset.specs.Instances.{linkage_of}
use Rattle.object_machine.specs.Enrolling.{Rises, stamps}
use Rattle.object_machine.specs.Simulating.{simulation_of}
use Rattle.object_machine.proofs.LastParts.{set_past}
use Rattle.object_machine.proofs.process_ends.end_process.Goals as goal

pub returns-else-place-len-clause-row : goal.returns-else-place-len-clause-row
returns-else-place-len-clause-row c rises =
    let y = c.args.simulated.now in
    let place = c.in-Some.place in
    let at : linkage_of (stamps y.processes.items) c.args.object ≡ Some place = subst (λ v. Rises (stamps v) → linkage_of (stamps v) c.args.object ≡ Some place) c.deref.ensures.value (λ r. sym (c.place_of.ensures.is r) ∙ c.in-Some.is) rises in
    sym (ap (λ q. ended_at (simulation_of y) q) at ∙ ap (λ l. record (simulation_of y) { ended = l }) (set_past y.ended.items place true (let past = c.if-place-len.false in let count = c.len.ensures in omega (arith, past, count))))
