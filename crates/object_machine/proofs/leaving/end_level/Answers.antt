use Rattle.std.proofs.Common.{rules, to_z, of_z, w64, ◌≡◌, sym, subst, ap, ◌∙◌, arith}
use Rattle.std.specs.Prelude.{◌==◌, true, false}
use Rattle.sim_code.specs.Levels.{level_ended}
use Rattle.sim_code.specs.Machine.{number}
use Rattle.frame_arena.specs.Frames.{Has, frame_at}
use Rattle.object_machine.specs.Standing.{Leaves, Obeys, activation_at, below_of}
use Rattle.object_machine.proofs.Going.{along, chosen, no_rule_in, normal, other_chosen}
use Rattle.object_machine.proofs.ObjectEnds.{no_level_of_thunk, outermost_is}
use Rattle.object_machine.proofs.StageRows.{index_is, index_none}
use Rattle.object_machine.proofs.leaving.end_level.Goals as goal

pub returns-in_default-clause-row : goal.returns-in_default-clause-row
unfolding Obeys
returns-in_default-clause-row c code line now eb ei ec before o m s =
    let ez : to_z w64 (of_z w64 c.args.operand) ≡ c.args.operand = search rules in
    let p = c.args.storage.now in
    let t = c.args.top.now in
    no_rule_in c.args.limits.now line p p c.args.below.now.items before now t.registers t.registers t.stack.items t.stack.items o m s (index_none c.args.operand o _ (c.in_default.ensures ∙ ap number ez))

pub returns-then-level-gt0-clause-row : goal.returns-then-level-gt0-clause-row
unfolding Obeys
returns-then-level-gt0-clause-row c code line now eb ei ec before o m s =
    let ez : to_z w64 (of_z w64 c.args.operand) ≡ c.args.operand = search rules in
    let l = c.args.limits.now in
    let p = c.args.storage.now in
    let t = c.args.top.now in
    along l line p c.args.below.now.items before now _ _ t.stack.items _ _ (index_is c.args.operand c.in-Some.level o _ (c.in-Some.ensures ∙ ap number ez))
    (c.end_inner_level.ensures.row code l line p t.stack.items c.args.below.now.items now eb ei ec (sym c.deref.ensures.value) before o m s)

pub returns-then-is_thunk-clause-row : goal.returns-then-is_thunk-clause-row
unfolding Obeys
returns-then-is_thunk-clause-row c code line now eb ei ec before o m s =
    let ez : to_z w64 (of_z w64 c.args.operand) ≡ c.args.operand = search rules in
    let l = c.args.limits.now in
    let p = c.args.storage.now in
    let t = c.args.top.now in
    let a = activation_at t.registers t.stack.items in
    let under = below_of c.args.below.now.items in
    let zero : c.in-Some.level ≡ 0 = omega (arith, c.if-level-gt0.false) in
    no_rule_in l line p p c.args.below.now.items before now t.registers t.registers t.stack.items t.stack.items o m s
    (index_is c.args.operand c.in-Some.level o _ (c.in-Some.ensures ∙ ap number ez) ∙ ap (λ n. level_ended code l o m a under n) zero
    ∙ no_level_of_thunk code l o m t.registers t.stack.items under (c.is_thunk.ensures.yes c.if-is_thunk.true))

pub returns-in_default-find-clause-row : goal.returns-in_default-find-clause-row
unfolding Obeys Leaves
returns-in_default-find-clause-row c code line now eb ei ec before o m s = tt

pub returns-then-number-eq0-clause-row : goal.returns-then-number-eq0-clause-row
unfolding Obeys
returns-then-number-eq0-clause-row c code line now eb ei ec before o m s =
    let ez : to_z w64 (of_z w64 c.args.operand) ≡ c.args.operand = search rules in
    let l = c.args.limits.now in
    let p = c.args.storage.now in
    let t = c.args.top.now in
    let a = activation_at t.registers t.stack.items in
    let under = below_of c.args.below.now.items in
    let zero : c.in-Some.level ≡ 0 = omega (arith, c.if-level-gt0.false) in
    let has : Has p.frames.items c.in-Some-find.place t.registers.home.stamp = subst (λ f. Has f c.in-Some-find.place t.registers.home.stamp) c.deref-2.ensures.value c.in-Some-find.ensures.there in
    let is = c.block_of_frame-number.ensures ∙ ap (λ f. (frame_at f c.in-Some-find.place).block) c.deref-3.ensures.value in
    let none : (c.block_of_frame-number.result == 0) ≡ true = grind (arith, c.if-number-eq0.true) in
    along l line p c.args.below.now.items before now _ t.registers t.stack.items _ _
    (index_is c.args.operand c.in-Some.level o _ (c.in-Some.ensures ∙ ap number ez) ∙ ap (λ n. level_ended code l o m a under n) zero
    ∙ outermost_is code l o m t.registers t.stack.items under p.frames.items p.cells.items c.in-Some-find.place c.block_of_frame-number.result (c.is_thunk.ensures.no c.if-is_thunk.false) s.stores.frames has is ∙ chosen _ _ _ none)
    (normal l line p c.args.below.now.items before now t.registers t.registers t.stack.items t.stack.items o m s)

pub returns-clause-row : goal.returns-clause-row
unfolding Obeys
returns-clause-row c code line now eb ei ec before o m s =
    let ez : to_z w64 (of_z w64 c.args.operand) ≡ c.args.operand = search rules in
    let l = c.args.limits.now in
    let p = c.args.storage.now in
    let t = c.args.top.now in
    let a = activation_at t.registers t.stack.items in
    let under = below_of c.args.below.now.items in
    let zero : c.in-Some.level ≡ 0 = omega (arith, c.if-level-gt0.false) in
    let has : Has p.frames.items c.in-Some-find.place t.registers.home.stamp = subst (λ f. Has f c.in-Some-find.place t.registers.home.stamp) c.deref-2.ensures.value c.in-Some-find.ensures.there in
    let is = c.block_of_frame-number.ensures ∙ ap (λ f. (frame_at f c.in-Some-find.place).block) c.deref-3.ensures.value in
    let some : (c.block_of_frame-number.result == 0) ≡ false = grind (arith, c.if-number-eq0.false) in
    along l line c.end_outermost.new.storage c.end_outermost.new.below.items before now _ c.end_outermost.new.top.registers c.end_outermost.new.top.stack.items _ _
    (index_is c.args.operand c.in-Some.level o _ (c.in-Some.ensures ∙ ap number ez) ∙ ap (λ n. level_ended code l o m a under n) zero
    ∙ outermost_is code l o m t.registers t.stack.items under p.frames.items p.cells.items c.in-Some-find.place c.block_of_frame-number.result (c.is_thunk.ensures.no c.if-is_thunk.false) s.stores.frames has is ∙ other_chosen _ _ _ some)
    (c.end_outermost.ensures.row code line now eb before o m s)
