use Rattle.std.proofs.Common.{refl, subst}
use Rattle.sim_code.specs.Levels.{is_process_class, linkage_of_class}
use Rattle.sim_code.specs.Sets.{enrolled}
use Rattle.sim_code.specs.Simulations.{joined}
use Rattle.object_machine.specs.declared.machine.Storage.{Storage}
use Rattle.object_machine.specs.Enrolling.{Enrolled}
use Rattle.object_machine.specs.Simulating.{Simulating}
use Rattle.object_machine.proofs.Registrations.{enrolled_earlier, enrolled_still, made_registered}
use Rattle.object_machine.proofs.Simulations.{then_ok}
use Rattle.object_machine.proofs.making.make_object.Goals as goal

pub returns : goal.returns
returns c = record {
  same = refl;
  row = then_ok c.join.result _ _ c.join.ensures.row (λ u joins code frames m o eb ec r all here.
      let p : Storage = record c.args.storage.now { members = c.enroll.new.members; simulations = c.join.new.simulations } in
      let class = c.args.class in
      let j = c.args.home.stamp in
      let parent = c.args.parent.stamp in
      let q = linkage_of_class code class in
      let w = enrolled j q o in
      let became : Enrolled frames m c.enroll.new.members w.members = subst (λ q. Enrolled frames m c.enroll.new.members (enrolled j q o).members) (c.linkage_of_class-linkage.ensures.row code eb ec) (c.in_ok-enroll.ensures.row frames m o r.members all.members here) in
      let joins_block : Simulating frames m c.join.new.simulations.items (joined (is_process_class code class) parent j w).simulations =
      subst (λ b. Simulating frames m c.join.new.simulations.items (joined b parent j w).simulations) (c.is_process-process.ensures.row code ec)
      (joins frames m w (enrolled_still frames m c.args.storage.now.simulations.items j q o r.simulations) (enrolled_earlier j j q o all.simulations) here) in
      made_registered frames m p code class parent j o became joins_block);
}
