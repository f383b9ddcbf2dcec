use Rattle.std.proofs.Common.{rules, ◌≡◌, [], ◌∷◌, ◌++◌, ap, ◌∙◌}
use Rattle.std.specs.Prelude.{false}
use Rattle.sim_chains.specs.Chains.{is_instance, stands_on}
use Rattle.object_machine.specs.Transferring.{frame_of, operating}
use Rattle.object_machine.proofs.Cutting.{none_more, only_top, step_down}
use Rattle.object_machine.proofs.Departures.{last_fits, popped_none, rest_fit}
use Rattle.object_machine.proofs.chains.drop_above.Goals as goal

pub returns-in_default-clause-none : goal.returns-in_default-clause-none
returns-in_default-clause-none c e =
    let d = c.loop-below.invariant.dropped in
    let other : is_instance c.args.instance (frame_of c.loop-below.top) ≡ false = search rules in
    let none : c.loop-below.below.items ≡ [] = popped_none c.loop-below.below.items c.pop.new.self.items c.loop-below.below.len c.in_default.ensures.items c.in_default.ensures.cases.0 c.in_default.ensures.rest in
    ap (λ w. stands_on frame_of c.args.instance w) (only_top (operating c.args.top.now c.args.below.now.items) d.0 c.loop-below.top c.loop-below.below.items d.1 none) ∙ none_more c.args.instance d.0 c.loop-below.top d.2 other

pub loop-below-preserved : goal.loop-below-preserved
loop-below-preserved c =
    let d = c.loop-below.invariant.dropped in
    let other : is_instance c.args.instance (frame_of c.loop-below.top) ≡ false = search rules in
    record {
      fits = last_fits c.loop-below.below.items c.pop.new.self.items c.in-Some.next c.in-Some.ensures.items c.loop-below.invariant.others;
      others = rest_fit c.loop-below.below.items c.pop.new.self.items c.in-Some.next c.in-Some.ensures.items c.loop-below.invariant.others;
      dropped = (
        d.0 ++ c.loop-below.top ∷ [],
        step_down (operating c.args.top.now c.args.below.now.items) d.0 c.loop-below.top c.loop-below.below.items c.pop.new.self.items c.in-Some.next d.1 c.in-Some.ensures.items,
        none_more c.args.instance d.0 c.loop-below.top d.2 other,
      );
    }
