use Rattle.std.proofs.Common.{◌≡◌, ◌≤◌, [], ◌∷◌, ◌++◌, length, sym, subst, ap, ◌∙◌}
use Rattle.object_machine.specs.Transferring.{operating}
use Rattle.object_machine.proofs.Covered.{more_fit}
use Rattle.object_machine.proofs.Cutting.{ends_at, only_top, step_down}
use Rattle.object_machine.proofs.Departures.{last_fits, popped_none, rest_fit}
use Rattle.object_machine.proofs.chains.leave_chain.Goals as goal

pub returns-in_default-clause-leaves : goal.returns-in_default-clause-leaves
returns-in_default-clause-leaves c =
    let cut = c.cut_above.ensures.cut c.if-not-cut_above.false in
    let below = c.cut_above.new.below.items in
    let none : below ≡ [] = popped_none below c.pop.new.self.items c.cut_above.new.below.len c.in_default.ensures.items c.in_default.ensures.cases.0 c.in_default.ensures.rest in
    ends_at c.args.object (operating c.args.top.now c.args.below.now.items) c.cut_above.new.above.items c.cut_above.new.top below (operating c.args.top.now c.args.below.now.items) cut
    (only_top (operating c.args.top.now c.args.below.now.items) c.cut_above.new.above.items c.cut_above.new.top below cut.whole none)

pub returns-in_default-push-clause-fits : goal.returns-in_default-push-clause-fits
returns-in_default-push-clause-fits c =
    subst (λ t. t.registers.depth ≤ length t.stack.items) (sym c.replace-own.ensures.after) (last_fits c.cut_above.new.below.items c.pop.new.self.items c.in-Some.next c.in-Some.ensures.items c.cut_above.ensures.others)

pub returns-in_default-push-clause-others : goal.returns-in_default-push-clause-others
returns-in_default-push-clause-others c = rest_fit c.cut_above.new.below.items c.pop.new.self.items c.in-Some.next c.in-Some.ensures.items c.cut_above.ensures.others

pub returns-clause-fits : goal.returns-clause-fits
returns-clause-fits c =
    subst (λ t. t.registers.depth ≤ length t.stack.items) (sym c.replace-own.ensures.after) (last_fits c.cut_above.new.below.items c.pop.new.self.items c.in-Some.next c.in-Some.ensures.items c.cut_above.ensures.others)

pub returns-clause-others : goal.returns-clause-others
returns-clause-others c = rest_fit c.cut_above.new.below.items c.pop.new.self.items c.in-Some.next c.in-Some.ensures.items c.cut_above.ensures.others

pub returns-clause-kept : goal.returns-clause-kept
returns-clause-kept c =
    more_fit c.cut_above.new.above.items c.push.new.self.items c.replace-own.result c.in-Ok.ensures.items c.cut_above.ensures.above (subst (λ t. t.registers.depth ≤ length t.stack.items) (sym c.replace-own.ensures.value) c.cut_above.ensures.fits)

pub returns-clause-leaves : goal.returns-clause-leaves
returns-clause-leaves c =
    let cut = c.cut_above.ensures.cut c.if-not-cut_above.false in
    let above = c.cut_above.new.above.items in
    let top = c.cut_above.new.top in
    let below = c.cut_above.new.below.items in
    let rest = c.pop.new.self.items in
    let whole = operating c.args.top.now c.args.below.now.items in
    let kept : c.push.new.self.items ≡ above ++ top ∷ [] = c.in-Ok.ensures.items ∙ ap (λ t. above ++ t ∷ []) c.replace-own.ensures.value in (
      ends_at c.args.object whole above top below c.push.new.self.items cut kept,
      step_down whole above top below rest c.in-Some.next cut.whole c.in-Some.ensures.items ∙ ap (λ t. (above ++ top ∷ []) ++ operating t rest) (sym c.replace-own.ensures.after) ∙ ap (λ w. w ++ operating c.replace-own.new.dest rest) (sym kept),
    )
