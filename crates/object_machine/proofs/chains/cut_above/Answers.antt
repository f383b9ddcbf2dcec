use Rattle.std.proofs.Common.{rules, ◌≡◌, ◌≤◌, [], ◌∷◌, ◌++◌, length, sym, subst, ap, ◌∙◌}
use Rattle.std.specs.Prelude.{false}
use Rattle.sim_chains.specs.Chains.{is_instance, stands_on}
use Rattle.object_machine.specs.Transferring.{frame_of, operating}
use Rattle.object_machine.proofs.Covered.{more_fit}
use Rattle.object_machine.proofs.Cutting.{none_more, step_down}
use Rattle.object_machine.proofs.Departures.{last_fits, rest_fit}
use Rattle.object_machine.proofs.chains.cut_above.Goals as goal

pub returns-in_default-push-clause-fits : goal.returns-in_default-push-clause-fits
returns-in_default-push-clause-fits c =
    subst (λ t. t.registers.depth ≤ length t.stack.items) (sym c.replace-left.ensures.after) (last_fits c.loop-below.below.items c.pop.new.self.items c.in-Some.next c.in-Some.ensures.items c.loop-below.invariant.others)

pub returns-in_default-push-clause-others : goal.returns-in_default-push-clause-others
returns-in_default-push-clause-others c = rest_fit c.loop-below.below.items c.pop.new.self.items c.in-Some.next c.in-Some.ensures.items c.loop-below.invariant.others

pub loop-below-preserved : goal.loop-below-preserved
loop-below-preserved c =
    let above = c.loop-below.above.items in
    let rest = c.pop.new.self.items in
    let other : is_instance c.args.instance (frame_of c.loop-below.top) ≡ false = search rules in
    record {
      fits = subst (λ t. t.registers.depth ≤ length t.stack.items) (sym c.replace-left.ensures.after) (last_fits c.loop-below.below.items rest c.in-Some.next c.in-Some.ensures.items c.loop-below.invariant.others);
      others = rest_fit c.loop-below.below.items rest c.in-Some.next c.in-Some.ensures.items c.loop-below.invariant.others;
      apart = more_fit above c.push.new.self.items c.replace-left.result c.in-Ok.ensures.items c.loop-below.invariant.apart (subst (λ t. t.registers.depth ≤ length t.stack.items) (sym c.replace-left.ensures.value) c.loop-below.invariant.fits);
      whole = step_down (operating c.args.top.now c.args.below.now.items) above c.loop-below.top c.loop-below.below.items rest c.in-Some.next c.loop-below.invariant.whole c.in-Some.ensures.items
          ∙ ap (λ t. (above ++ c.loop-below.top ∷ []) ++ operating t rest) (sym c.replace-left.ensures.after)
          ∙ ap (λ t. (above ++ t ∷ []) ++ operating c.replace-left.new.dest rest) (sym c.replace-left.ensures.value)
          ∙ ap (λ w. w ++ operating c.replace-left.new.dest rest) (sym c.in-Ok.ensures.items);
      none = ap (λ w. stands_on frame_of c.args.instance w) c.in-Ok.ensures.items ∙ ap (λ t. stands_on frame_of c.args.instance (above ++ t ∷ [])) c.replace-left.ensures.value ∙ none_more c.args.instance above c.loop-below.top c.loop-below.invariant.none other;
    }
