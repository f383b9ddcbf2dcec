use Rattle.std.proofs.Common.{◌≡◌, [], refl, ap}
use Rattle.sim_chains.specs.Components.{TerminatedObject}
use Rattle.object_machine.specs.Standing.{below_of}
use Rattle.object_machine.proofs.Departures.{last_fits, popped_none, rest_fit}
use Rattle.object_machine.proofs.ObjectEnds.{attached_left, no_rule_popped, none_below_object}
use Rattle.object_machine.proofs.finishing.end_attached.Goals as goal

pub returns-in_default-clause-row : goal.returns-in_default-clause-row
returns-in_default-clause-row c l line before now o m s attached =
    let p = c.args.storage.now in
    let t = c.args.top.now in
    let below = c.args.below.now.items in
    let rest = c.pop.new.self.items in
    let none : below ≡ [] = popped_none below rest c.args.below.now.len c.in_default.ensures.items c.in_default.ensures.cases.0 c.in_default.ensures.rest in
    no_rule_popped l line p t.registers t.stack.items below rest before now o m s t rest p _ (none_below_object o m c.args.object (below_of below) (ap (λ b. below_of b) none) attached)

pub returns-clause-fits : goal.returns-clause-fits
returns-clause-fits c = last_fits c.args.below.now.items c.pop.new.self.items c.in-Some.next c.in-Some.ensures.items c.requires.others

pub returns-clause-others : goal.returns-clause-others
returns-clause-others c = rest_fit c.args.below.now.items c.pop.new.self.items c.in-Some.next c.in-Some.ensures.items c.requires.others

pub returns-clause-row : goal.returns-clause-row
returns-clause-row c l line before now o m s attached =
    let p = c.args.storage.now in
    let t = c.args.top.now in
    let below = c.args.below.now.items in
    attached_left l line p t.registers t.stack.items below c.pop.new.self.items before now o m s c.stand.new.storage c.in-Some.next c.args.object c.in-Some.ensures.items attached
    (c.stand.ensures.stands c.args.object l before now o m TerminatedObject c.requires.there refl s.stores)
