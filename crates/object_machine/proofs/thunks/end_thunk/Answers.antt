use Rattle.std.proofs.Common.{◌≡◌, [], ◌∷◌, ◌++◌, arith, sym, subst, ap, ◌∙◌}
use Rattle.std.specs.Prelude.{None, Some}
use Rattle.sim_code.specs.Events.{popping}
use Rattle.frame_arena.specs.Slots.{empty_slot, value_of}
use Rattle.frame_arena.specs.Stacks.{slot_at, values_of, with_top}
use Rattle.sim_code.specs.Rows.{thunk_ended}
use Rattle.object_machine.specs.Placing.{LeadsFrom}
use Rattle.object_machine.specs.Standing.{Obeys, below_of}
use Rattle.object_machine.proofs.Departures.{last_fits, popped_none, rest_fit}
use Rattle.object_machine.proofs.Going.{along, no_rule_in}
use Rattle.object_machine.proofs.Moving.{slot_within}
use Rattle.object_machine.proofs.ObjectEnds.{no_rule_popped}
use Rattle.object_machine.proofs.ThunkRows.{EndsWith, ends_onto, no_thunk_ends, stands_idle, thunk_ends, waiting_stands}
use Rattle.object_machine.proofs.thunks.end_thunk.Goals as goal

pub give-requires : goal.give-requires
give-requires c =
    let is = c.in-Some-pop-2.ensures.items ∙ ap (λ u. c.pop-2.new.self.items ++ u ∷ []) (sym c.replace-ended.ensures.after) in
    record { fits = last_fits c.args.below.now.items c.pop-2.new.self.items c.replace-ended.new.dest is c.requires.others; images = c.requires.images }

pub returns-clause-others : goal.returns-clause-others
returns-clause-others c = rest_fit c.args.below.now.items c.pop-2.new.self.items c.in-Some-pop-2.next c.in-Some-pop-2.ensures.items c.requires.others

pub returns-in_default-clause-row : goal.returns-in_default-clause-row
unfolding Obeys
returns-in_default-clause-row c code line now eb ei ec before o m s =
    let l = c.args.limits.now in
    let p = c.args.storage.now in
    let t = c.args.top.now in
    let stack = t.stack.items in
    let below = c.args.below.now.items in
    let under = below_of below in
    no_rule_in l line p p below before now t.registers t.registers stack stack o m s (no_thunk_ends code l o m t.registers stack under line c.in_default.is)

pub returns-in_default-pop-clause-row : goal.returns-in_default-pop-clause-row
unfolding Obeys
returns-in_default-pop-clause-row c code line now eb ei ec before o m s =
    let l = c.args.limits.now in
    let p = c.args.storage.now in
    let t = c.args.top.now in
    let stack = t.stack.items in
    let below = c.args.below.now.items in
    let under = below_of below in
    let ends = thunk_ends code l o m t.registers stack under line c.in-Some._thunk c.in-Some.is in
    let E = EndsWith code l o m t.registers stack under line in
    let popped = subst (λ xs. popping (values_of t.registers.depth xs) o E ≡ with_top None xs o E) c.deref.ensures.value (c.in_default-pop.ensures.row o E) in
    no_rule_in l line p p below before now t.registers t.registers stack stack o m s (ends ∙ popped)

pub returns-in_default-pop-2-clause-row : goal.returns-in_default-pop-2-clause-row
unfolding Obeys
returns-in_default-pop-2-clause-row c code line now eb ei ec before o m s =
    let l = c.args.limits.now in
    let p = c.args.storage.now in
    let t = c.args.top.now in
    let stack = t.stack.items in
    let below = c.args.below.now.items in
    let under = below_of below in
    let ends = thunk_ends code l o m t.registers stack under line c.in-Some._thunk c.in-Some.is in
    let E = EndsWith code l o m t.registers stack under line in
    let at = c.in-Some-pop.at in
    let given = slot_at stack at in
    let popped = subst (λ xs. popping (values_of t.registers.depth xs) o E ≡ with_top (Some at) xs o E) c.deref.ensures.value (c.in-Some-pop.ensures.row o E) in
    let none : below ≡ [] = popped_none below c.pop-2.new.self.items c.args.below.now.len c.in_default-pop-2.ensures.items c.in_default-pop-2.ensures.cases.0 c.in_default-pop-2.ensures.rest in
    no_rule_popped l line p t.registers stack below [] before now o m s t c.pop-2.new.self.items p _ (ends ∙ popped ∙ ap (λ b. thunk_ended code l o m (value_of given) (below_of b)) none)

pub returns-clause-row : goal.returns-clause-row
unfolding Obeys
returns-clause-row c code line now eb ei ec before o m s =
    let l = c.args.limits.now in
    let p = c.args.storage.now in
    let t = c.args.top.now in
    let stack = t.stack.items in
    let below = c.args.below.now.items in
    let under = below_of below in
    let ends = thunk_ends code l o m t.registers stack under line c.in-Some._thunk c.in-Some.is in
    let E = EndsWith code l o m t.registers stack under line in
    let at = c.in-Some-pop.at in
    let given = slot_at stack at in
    let popped = subst (λ xs. popping (values_of t.registers.depth xs) o E ≡ with_top (Some at) xs o E) c.deref.ensures.value (c.in-Some-pop.ensures.row o E) in
    let next = c.replace-ended.new.dest in
    let rest = c.pop-2.new.self.items in
    let is = c.in-Some-pop-2.ensures.items ∙ ap (λ u. rest ++ u ∷ []) (sym c.replace-ended.ensures.after) in
    let slot : c.index-given.result.now ≡ given = c.index-given.ensures ∙ slot_within stack at c.index-given.result.now empty_slot (let e = c.in-Some-pop.ensures.shallower in let f = c.requires.fits in omega (arith, e, f)) in
    along l line c.give.new.storage rest before now c.give.result c.give.new.waiting.registers c.give.new.waiting.stack.items _ _
    (ends ∙ popped ∙ ap (λ x. E (value_of x) []) (sym slot) ∙ ends_onto l line p t.registers stack below rest next before now o m is code (value_of c.index-given.result.now))
    (c.give.ensures.row code line rest before now o m eb ei ec (waiting_stands l line (record p { idle = c.keep_idle.new.idle }) t.registers stack below rest next before now o m is (stands_idle l p c.keep_idle.new.idle t.registers stack below before now o m s)) (subst (λ x. LeadsFrom p o m x) (sym slot) (s.top.slots at, s.top.arrays_lead at)))
