use Rattle.std.proofs.Common.{refl, sym}
use Rattle.std.specs.Prelude.{Some}
use Rattle.object_machine.specs.declared.machine.Storage.{Storage}
use Rattle.object_machine.proofs.Registrations.{begun_registered}
use Rattle.object_machine.proofs.Simulations.{then_ok}
use Rattle.object_machine.proofs.making.begin_block.Goals as goal

pub returns : goal.returns
returns c = record {
  same = refl;
  row = then_ok c.begin_simulation.result _ _ c.begin_simulation.ensures.row (λ u begins code frames m o eb ec r all here.
      let p : Storage = record c.args.storage.now { members = c.enroll.new.members; simulations = c.begin_simulation.new.simulations } in
      begun_registered frames m p code c.args.class c.args.home.stamp o (Some c.in-Some.field-0) (sym (c.in-Some.ensures.row code eb ec)) (record {
        members = c.in_ok-enroll.ensures.row frames m o r.members all.members here;
        simulations = begins frames m o.simulations r.simulations all.simulations here;
      }));
}
