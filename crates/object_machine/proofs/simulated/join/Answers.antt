use Rattle.std.proofs.Common.{◌≡◌, ◌<◌, length, sym, subst}
use Rattle.std.specs.Prelude.{Some, None, slice_get, slice_set, map}
use Rattle.sim_code.specs.Simulations.{joined, located, with_place}
use Rattle.object_machine.specs.Enrolling.{Rises, stamps}
use Rattle.object_machine.specs.Simulating.{Simulating, blocks_of, simulation_of}
use Rattle.object_machine.proofs.Jumps.{found_at}
use Rattle.object_machine.proofs.Simulations.{both_ok, earlier_at, joins_at, joins_nowhere}
use Rattle.object_machine.proofs.simulated.join.Goals as goal

pub returns-in_default : goal.returns-in_default
returns-in_default c = record {
  row = λ frames m o e all here.
      let xs = c.args.simulations.now.items in
      let rises : Rises (stamps (blocks_of c.deref.result.now)) = subst (λ v. Rises (stamps (blocks_of v))) (sym c.deref.ensures.value) e.rises in
      let at : with_place (map simulation_of xs) None ≡ located (map simulation_of xs) c.args.block = subst (λ v. with_place (map simulation_of v) None ≡ located (map simulation_of v) c.args.block) c.deref.ensures.value (c.in_default.ensures.is rises) in
      subst (λ b. Simulating frames m xs (joined b c.args.block c.args.object.stamp o).simulations) (sym c.if-not-is_process.false) (joins_nowhere frames m xs o c.args.block c.args.object.stamp e at);
}

pub returns : goal.returns
returns c = record {
  row = both_ok c.add_process.result _ _ _ c.add_process.ensures.is c.add_process.ensures.keeps (λ u is keeps frames m o e all here.
      let xs = c.args.simulations.now.items in
      let j = c.args.object.stamp in
      let place = c.in-Some.place in
      let s = c.index_mut.result.now in
      let s2 = c.add_process.new.simulated in
      let within : place < length xs = subst (λ v. place < length v) c.deref.ensures.value c.in-Some.ensures.within in
      let there : slice_get xs place ≡ Some s = found_at xs place s within c.index_mut.ensures.value in
      let rises : Rises (stamps (blocks_of c.deref.result.now)) = subst (λ v. Rises (stamps (blocks_of v))) (sym c.deref.ensures.value) e.rises in
      let at : with_place (map simulation_of xs) (Some place) ≡ located (map simulation_of xs) c.args.block = subst (λ v. with_place (map simulation_of v) (Some place) ≡ located (map simulation_of v) c.args.block) c.deref.ensures.value (c.in-Some.ensures.is rises) in
      let before = earlier_at frames m xs o.simulations j place s e all there in
      subst (λ b. Simulating frames m (slice_set xs place s2) (joined b c.args.block j o).simulations) (sym c.if-not-is_process.false)
      (joins_at frames m xs o c.args.block j e place s s2 at there c.add_process.ensures.block is (keeps frames m (e.each place s there) before.processes before.block here)));
}
