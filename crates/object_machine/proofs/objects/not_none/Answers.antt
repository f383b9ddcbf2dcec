use Rattle.std.proofs.Common.{◌∷◌, List, ap, refl, ◌∙◌}
use Rattle.sim_values.specs.Plain.{Plain}
use Rattle.sim_code.specs.Machine.{Machine, Of, Value, on}
use Rattle.sim_code.specs.Outcome.{Run}
use Rattle.sim_base.specs.declared.run_error.RunError.TheVariants.{AccessThroughNone}
use Rattle.frame_arena.specs.Slots.{value_of}
use Rattle.frame_arena.specs.Stacks.{slot_at, values_of}
use Rattle.object_machine.specs.Standing.{Obeys, activation_at, below_of}
use Rattle.object_machine.proofs.ArrayRows.{top_at}
use Rattle.object_machine.proofs.ClassRows.{main_kept, object_kept, popping_reference, reference_of, reference_popped, with_named}
use Rattle.object_machine.proofs.Going.{along, depth_goes_on, faults, no_rule_in}
use Rattle.object_machine.proofs.objects.not_none.Goals as goal

pub returns-in_default-clause-row : goal.returns-in_default-clause-row
unfolding Obeys
returns-in_default-clause-row c l line p below now before o m s =
    let r = c.args.regs.now in
    let stack = c.args.stack.now in
    let K : List Value → Run Machine = λ st. on o m (activation_at r stack) st (below_of below) in
    let go : Plain → List Value → Run Machine = λ v st. K (Of v ∷ st) in
    no_rule_in l line p p below before now _ _ _ _ o m s (popping_reference line (values_of r.depth stack) o go ∙ c.in_default.ensures.row o (reference_of line o go))

pub returns-in-Object-clause-row : goal.returns-in-Object-clause-row
unfolding Obeys
returns-in-Object-clause-row c l line p below now before o m s =
    let r = c.args.regs.now in
    let stack = c.args.stack.now in
    let K : List Value → Run Machine = λ st. on o m (activation_at r stack) st (below_of below) in
    let go : Plain → List Value → Run Machine = λ v st. K (Of v ∷ st) in
    let at = c.in-Some.at in
    let v = value_of (slot_at stack at) in
    let rest = values_of at stack in
    let begun = popping_reference line (values_of r.depth stack) o go ∙ c.in-Some.ensures.row o (reference_of line o go) ∙ reference_popped line o go c.reference_in.result v rest c.reference_in.ensures.is in
    along l line p below before now _ _ _ _ _
    (begun ∙ ap (λ q. with_named q line o (λ v. go v rest)) c.in-Object.is ∙ object_kept K c.reference_in.result _ v rest c.reference_in.ensures.is c.in-Object.is ∙ ap K (top_at r.depth at stack c.in-Some.ensures.shallower c.requires.fits))
    (depth_goes_on l line p below before now r _ stack stack o m r.depth s refl (refl, refl, refl) refl refl s.top.slots s.top.arrays_lead)

pub returns-in-Main-clause-row : goal.returns-in-Main-clause-row
unfolding Obeys
returns-in-Main-clause-row c l line p below now before o m s =
    let r = c.args.regs.now in
    let stack = c.args.stack.now in
    let K : List Value → Run Machine = λ st. on o m (activation_at r stack) st (below_of below) in
    let go : Plain → List Value → Run Machine = λ v st. K (Of v ∷ st) in
    let at = c.in-Some.at in
    let v = value_of (slot_at stack at) in
    let rest = values_of at stack in
    let begun = popping_reference line (values_of r.depth stack) o go ∙ c.in-Some.ensures.row o (reference_of line o go) ∙ reference_popped line o go c.reference_in.result v rest c.reference_in.ensures.is in
    along l line p below before now _ _ _ _ _
    (begun ∙ ap (λ q. with_named q line o (λ v. go v rest)) c.in-Main.is ∙ main_kept K c.reference_in.result _ v rest c.reference_in.ensures.is c.in-Main.is ∙ ap K (top_at r.depth at stack c.in-Some.ensures.shallower c.requires.fits))
    (depth_goes_on l line p below before now r _ stack stack o m r.depth s refl (refl, refl, refl) refl refl s.top.slots s.top.arrays_lead)

pub returns-in-IsNone-clause-row : goal.returns-in-IsNone-clause-row
unfolding Obeys
returns-in-IsNone-clause-row c l line p below now before o m s =
    let r = c.args.regs.now in
    let stack = c.args.stack.now in
    let K : List Value → Run Machine = λ st. on o m (activation_at r stack) st (below_of below) in
    let go : Plain → List Value → Run Machine = λ v st. K (Of v ∷ st) in
    let at = c.in-Some.at in
    let v = value_of (slot_at stack at) in
    let rest = values_of at stack in
    let begun = popping_reference line (values_of r.depth stack) o go ∙ c.in-Some.ensures.row o (reference_of line o go) ∙ reference_popped line o go c.reference_in.result v rest c.reference_in.ensures.is in
    along l line p below before now _ _ _ _ _ (begun ∙ ap (λ q. with_named q line o (λ v. go v rest)) c.in-IsNone.is) (faults l line p below before now AccessThroughNone r r stack stack o m s)

pub returns-in-Other-clause-row : goal.returns-in-Other-clause-row
unfolding Obeys
returns-in-Other-clause-row c l line p below now before o m s =
    let r = c.args.regs.now in
    let stack = c.args.stack.now in
    let K : List Value → Run Machine = λ st. on o m (activation_at r stack) st (below_of below) in
    let go : Plain → List Value → Run Machine = λ v st. K (Of v ∷ st) in
    let at = c.in-Some.at in
    let v = value_of (slot_at stack at) in
    let rest = values_of at stack in
    let begun = popping_reference line (values_of r.depth stack) o go ∙ c.in-Some.ensures.row o (reference_of line o go) ∙ reference_popped line o go c.reference_in.result v rest c.reference_in.ensures.is in
    no_rule_in l line p p below before now _ _ _ _ o m s (begun ∙ ap (λ q. with_named q line o (λ v. go v rest)) c.in-Other.is)
