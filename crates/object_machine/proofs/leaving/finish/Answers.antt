use Rattle.std.proofs.Common.{rules, ◌≡◌, ◌≤◌, List, [], length, sym, subst}
use Rattle.std.proofs.lemmas.List.{with_items_is, places}
use Rattle.sim_code.specs.Events.{no_rule, when}
use Rattle.sim_code.specs.Machine.{Machine, Value, leaving, pushing_any}
use Rattle.sim_code.specs.Outcome.{Run}
use Rattle.frame_arena.specs.Arrays.{AllLeadArrays}
use Rattle.frame_arena.specs.Frames.{AllLead, found_value}
use Rattle.frame_arena.specs.Stacks.{values_of}
use Rattle.object_machine.specs.declared.machine.Flow.TheVariants as flow
use Rattle.object_machine.specs.FrameEnds.{Ends}
use Rattle.object_machine.specs.Standing.{Leaves, below_of}
use Rattle.object_machine.proofs.Departures.{becomes_top, last_fits, last_works, no_room, none_below, popped_none, rest_fit, when_off, when_on}
use Rattle.object_machine.proofs.leaving.finish.Goals as goal

pub returns-in_default-clause-row : goal.returns-in_default-clause-row
returns-in_default-clause-row c l line b before now o m cells s led =
    let t = c.args.top.now in
    none_below l line c.args.storage.now c.args.storage.now b t.registers t.stack.items c.args.below.now.items [] before now o m (found_value c.args.value) s
    (popped_none c.args.below.now.items c.pop.new.self.items c.args.below.now.len c.in_default.ensures.items c.in_default.ensures.cases.0 c.in_default.ensures.rest) t.registers t.stack.items c.pop.new.self.items

pub put-requires : goal.put-requires
put-requires c = record {
  fits = subst (λ x. c.in-Some.next.registers.depth ≤ length x) (sym c.deref_mut.ensures.value) (last_fits c.args.below.now.items c.pop.new.self.items c.in-Some.next c.in-Some.ensures.items c.requires.others);
}

pub returns-then-not-put-clause-others : goal.returns-then-not-put-clause-others
returns-then-not-put-clause-others c = rest_fit c.args.below.now.items c.pop.new.self.items c.in-Some.next c.in-Some.ensures.items c.requires.others

pub returns-then-not-put-clause-row : goal.returns-then-not-put-clause-row
returns-then-not-put-clause-row c l line b before now o m cells s led =
    let t = c.args.top.now in
    let v = found_value c.args.value in
    let row : (go : List Value → Run Machine) → pushing_any (length c.in-Some.next.stack.items) (values_of c.in-Some.next.registers.depth c.in-Some.next.stack.items) v o go ≡ no_rule o = λ go. when_off c.put.result o _ _ c.if-not-put.true (subst (λ x. pushing_any (length x) (values_of c.in-Some.next.registers.depth x) v o go ≡ when c.put.result o (go (values_of c.put.new.regs.depth c.put.new.stack))) c.deref_mut.ensures.value (c.put.ensures.row o go)) in
    no_room l line c.args.storage.now c.args.storage.now b t.registers t.stack.items c.args.below.now.items c.pop.new.self.items before now o m v s c.in-Some.next c.in-Some.ensures.items row t.registers t.stack.items c.pop.new.self.items

pub returns-clause-others : goal.returns-clause-others
returns-clause-others c = rest_fit c.args.below.now.items c.pop.new.self.items c.in-Some.next c.in-Some.ensures.items c.requires.others

pub returns-clause-row : goal.returns-clause-row
returns-clause-row c l line b before now o m cells s led =
    let t = c.args.top.now in
    let p = c.args.storage.now in
    let p2 = c.give.new.storage in
    let next = c.in-Some.next in
    let rest = c.pop.new.self.items in
    let v = found_value c.args.value in
    let same = c.deref_mut.ensures.value in
    let row : (go : List Value → Run Machine) → pushing_any (length next.stack.items) (values_of next.registers.depth next.stack.items) v o go ≡ go (values_of c.put.new.regs.depth c.put.new.stack) = λ go. when_on c.put.result o _ _ c.if-not-put.false (subst (λ x. pushing_any (length x) (values_of next.registers.depth x) v o go ≡ when c.put.result o (go (values_of c.put.new.regs.depth c.put.new.stack))) same (c.put.ensures.row o go)) in
    let works = last_works l line p p2 b t.registers t.stack.items c.args.below.now.items rest before now o m v s next c.in-Some.ensures.items in
    subst (λ e. Leaves flow.On l line p2 e.registers e.stack.items rest before now (leaving b (below_of c.args.below.now.items) v t.registers.home.stamp o m)) (sym c.replace-ended.ensures.after)
    (subst (λ x. Leaves flow.On l line p2 c.put.new.regs x rest before now (leaving b (below_of c.args.below.now.items) v t.registers.home.stamp o m)) (sym (with_items_is next.stack c.put.new.stack (search (rules, places))))
    (becomes_top l line p p2 b t.registers t.stack.items c.args.below.now.items rest before now o m v s next c.in-Some.ensures.items c.put.new.regs c.put.new.stack
    (subst (λ e. Ends l p p2 b e.registers.home.stamp before now o m) c.replace-ended.ensures.value (c.give.ensures.row l b before now o m cells s.stores)) (c.put.ensures.home, c.put.ensures.stage, c.put.ensures.thunk) c.put.ensures.place (subst (λ x. length c.put.new.stack ≡ length x) same c.put.ensures.long)
    (c.put.ensures.leads p.frames.items m p.arrays.regions o.arrays (subst (λ x. AllLead p.frames.items m x) (sym same) works.slots) led)
    (c.put.ensures.leads_arrays p.frames.items m p.arrays.regions o.arrays (subst (λ x. AllLeadArrays p.arrays.regions o.arrays x) (sym same) works.arrays_lead) led) row))
