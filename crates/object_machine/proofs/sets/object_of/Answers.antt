use Rattle.std.proofs.Common.{◌≡◌}
use Rattle.std.proofs.lemmas.Option.{IfSome_then}
use Rattle.std.specs.Prelude.{Some, slice_get}
use Rattle.object_machine.proofs.Jumps.{found_at}
use Rattle.object_machine.proofs.sets.object_of.Goals as goal

pub returns-clause-leads : goal.returns-clause-leads
returns-clause-leads c =
    let object = c.in-Some-get.object.now in
    let there : slice_get c.args.objects.now c.in-Some.x.0 ≡ Some object = found_at c.args.objects.now c.in-Some.x.0 object c.in-Some-get.ensures.lookup.3.0 c.in-Some-get.ensures.lookup.1 in
    IfSome_then c.reference_to.result c.reference_to.ensures.leads (λ s f frames m reach. f frames m (reach c.in-Some.x.0 object there))
