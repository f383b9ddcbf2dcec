use Rattle.std.proofs.Common.{rules, ◌≡◌, ◌<◌, ◌++◌, ◌∷◌, [], refl, subst, sym, arith}
use Rattle.sim_code.specs.Simulations.{begun}
use Rattle.object_machine.specs.declared.simulated.Simulated.{Simulated}
use Rattle.object_machine.specs.Simulating.{Simulating}
use Rattle.object_machine.proofs.Simulations.{begins}
use Rattle.object_machine.proofs.simulated.begin_simulation.Goals as goal

pub returns : goal.returns
returns c = record {
  row = λ frames m o e all here.
      let xs = c.args.simulations.now.items in
      let s : Simulated = record { block = c.args.block; processes = c.new.result; ended = c.new-2.result; sim = c.new-3.result } in
      let items : c.push.new.self.items ≡ xs ++ s ∷ [] = search rules in
      let reserved = c.in_ok-reserve.ensures.reserved in
      let higher = c.new-3.ensures.not_lower in
      let room : 0 < s.sim.room = omega (arith, reserved, higher) in
      subst (λ l. Simulating frames m l (o ++ begun c.args.block.stamp ∷ [])) (sym items) (begins frames m xs o s c.args.block refl (search rules) (search rules) c.new-3.ensures.begun room e all here);
}
