use Rattle.std.proofs.Common.{◌≡◌, sym, subst, ap, ◌∙◌}
use Rattle.std.specs.Prelude.{None, Some, slice_get}
use Rattle.sim_code.specs.Instances.{encloser_of}
use Rattle.sim_code.specs.Simulations.{number_in, process_tells}
use Rattle.frame_arena.specs.Slots.{value_of}
use Rattle.object_machine.specs.Classing.{Refers}
use Rattle.object_machine.specs.Simulating.{simulation_of}
use Rattle.object_machine.specs.Telling.{FindsBlock, IsNumber, Tells, block_of, bound, told_of}
use Rattle.object_machine.proofs.Jumps.{found_at}
use Rattle.object_machine.proofs.Sights.{located_nowhere, located_there, told_by, told_nowhere, told_unlocated}
use Rattle.object_machine.proofs.Told.{tells_missing}
use Rattle.object_machine.proofs.processes.tell_named.Goals as goal

pub returns-in-Err : goal.returns-in-Err
returns-in-Err c = record {
  row = λ cells m sims holds s leads.
      let around = encloser_of m in
      let v = value_of c.args.slot in
      let b : FindsBlock c.block_around.result (block_of around v) = c.block_around.ensures.row cells m c.args.slot holds c.reference_in-reference.ensures.is in
      tells_missing c.in-Err.missing c.told_by.result (block_of around v) (told_of around c.args.name sims v) c.args.frames.now m c.told_by.ensures (told_nowhere around c.args.name sims v) (subst (λ r. FindsBlock r (block_of around v)) c.in-Err.is b);
}

pub returns-in_default : goal.returns-in_default
returns-in_default c = record {
  row = λ cells m sims holds s leads.
      let around = encloser_of m in
      let v = value_of c.args.slot in
      let b = c.block_around.ensures.row cells m c.args.slot holds c.reference_in-reference.ensures.is in
      told_unlocated around c.args.name sims v c.in-Ok.block (subst (λ r. FindsBlock r (block_of around v)) c.in-Ok.is b) (located_nowhere c.args.simulations.now sims s.is c.in-Ok.block c.located.result (c.located.ensures.is s.rises) c.in_default.is);
}

pub returns-in-Process : goal.returns-in-Process
returns-in-Process c = record {
  row = λ cells m sims holds s leads.
      let around = encloser_of m in
      let v = value_of c.args.slot in
      let refers = c.reference_in-reference.ensures.is in
      let b = subst (λ r. FindsBlock r (block_of around v)) c.in-Ok.is (c.block_around.ensures.row cells m c.args.slot holds refers) in
      let place = c.in-Some.place in
      let y = c.index-simulations-place.result in
      let x = simulation_of y in
      let there : slice_get c.args.simulations.now place ≡ Some y = found_at c.args.simulations.now place y c.in-Some.ensures.within c.index-simulations-place.is in
      let at = told_by around c.args.name sims v c.in-Ok.block b place x (located_there c.args.simulations.now sims s.is c.in-Ok.block c.located.result (c.located.ensures.is s.rises) place y c.in-Some.is there) in
      let one = s.each place y there in
      let number : number_in x at.0 ≡ Some c.in-Process.number.0 = subst (λ q. IsNumber q (number_in x at.0)) c.in-Process.is (c.number_in.ensures.row at.0 (subst (λ w. Refers c.reference_in-reference.result w) at.1 refers) one.rises) in
      subst (λ q. Tells c.tell.result c.args.frames.now m q) (sym (at.2 ∙ ap (λ q. bound q (λ n. process_tells c.args.name x n)) number)) (c.tell.ensures.row c.args.frames.now m one);
}

pub returns-in-Other : goal.returns-in-Other
returns-in-Other c = record {
  row = λ cells m sims holds s leads.
      let around = encloser_of m in
      let v = value_of c.args.slot in
      let refers = c.reference_in-reference.ensures.is in
      let b = subst (λ r. FindsBlock r (block_of around v)) c.in-Ok.is (c.block_around.ensures.row cells m c.args.slot holds refers) in
      let place = c.in-Some.place in
      let y = c.index-simulations-place.result in
      let x = simulation_of y in
      let there : slice_get c.args.simulations.now place ≡ Some y = found_at c.args.simulations.now place y c.in-Some.ensures.within c.index-simulations-place.is in
      let at = told_by around c.args.name sims v c.in-Ok.block b place x (located_there c.args.simulations.now sims s.is c.in-Ok.block c.located.result (c.located.ensures.is s.rises) place y c.in-Some.is there) in
      let one = s.each place y there in
      let number : number_in x at.0 ≡ None = subst (λ q. IsNumber q (number_in x at.0)) c.in-Other.is (c.number_in.ensures.row at.0 (subst (λ w. Refers c.reference_in-reference.result w) at.1 refers) one.rises) in
      at.2 ∙ ap (λ q. bound q (λ n. process_tells c.args.name x n)) number;
}
