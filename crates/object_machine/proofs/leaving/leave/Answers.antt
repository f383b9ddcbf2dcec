use Rattle.std.proofs.Common.{◌∙◌, ap, subst}
use Rattle.std.specs.Prelude.{None}
use Rattle.sim_code.specs.declared.code.BlockKind.TheVariants as block
use Rattle.sim_code.specs.Machine.{Machine, leaving}
use Rattle.sim_code.specs.Outcome.{Run}
use Rattle.sim_code.specs.Code.{BlockOf}
use Rattle.frame_arena.specs.Frames.{Has, frame_at}
use Rattle.object_machine.specs.Standing.{Leaves, Obeys, below_of}
use Rattle.object_machine.proofs.Departures.{no_block_of_thunk, own_found}
use Rattle.object_machine.proofs.Going.{along, no_rule_in}
use Rattle.object_machine.proofs.leaving.leave.Goals as goal

pub returns-then-is_thunk-clause-row : goal.returns-then-is_thunk-clause-row
unfolding Obeys
returns-then-is_thunk-clause-row c code l line now e before o m s =
    let p = c.args.storage.now in
    let t = c.args.top.now in
    let go : BlockOf → Run Machine = λ x. leaving x (below_of c.args.below.now.items) None t.registers.home.stamp o m in
    no_rule_in l line p p c.args.below.now.items before now t.registers t.registers t.stack.items t.stack.items o m s
    (no_block_of_thunk code block.SubBlock m t.registers t.stack.items o go (c.is_thunk.ensures.yes c.if-is_thunk.true))

pub returns-in_default-clause-row : goal.returns-in_default-clause-row
unfolding Obeys Leaves
returns-in_default-clause-row c code l line now e before o m s = tt

pub returns-in_default-own_block-clause-row : goal.returns-in_default-own_block-clause-row
unfolding Obeys
returns-in_default-own_block-clause-row c code l line now e before o m s =
    let p = c.args.storage.now in
    let t = c.args.top.now in
    let has : Has p.frames.items c.in-Some.place t.registers.home.stamp = subst (λ f. Has f c.in-Some.place t.registers.home.stamp) c.deref.ensures.value c.in-Some.ensures.there in
    let number = c.block_of_frame-number.ensures ∙ ap (λ f. (frame_at f c.in-Some.place).block) c.deref-2.ensures.value in
    let go : BlockOf → Run Machine = λ x. leaving x (below_of c.args.below.now.items) None t.registers.home.stamp o m in
    no_rule_in l line p p c.args.below.now.items before now t.registers t.registers t.stack.items t.stack.items o m s
    (own_found code block.SubBlock p.frames.items p.cells.items m t.registers t.stack.items o go c.in-Some.place c.block_of_frame-number.result (c.is_thunk.ensures.no c.if-is_thunk.false) s.stores.frames has number ∙ c.in_default-own_block.ensures.row code e o go)

pub returns-clause-row : goal.returns-clause-row
unfolding Obeys
returns-clause-row c code l line now e before o m s =
    let p = c.args.storage.now in
    let t = c.args.top.now in
    let has : Has p.frames.items c.in-Some.place t.registers.home.stamp = subst (λ f. Has f c.in-Some.place t.registers.home.stamp) c.deref.ensures.value c.in-Some.ensures.there in
    let number = c.block_of_frame-number.ensures ∙ ap (λ f. (frame_at f c.in-Some.place).block) c.deref-2.ensures.value in
    let go : BlockOf → Run Machine = λ x. leaving x (below_of c.args.below.now.items) None t.registers.home.stamp o m in
    let own = c.in-Some-own_block.ensures.row code e in
    along l line c.finish.new.storage c.finish.new.below.items before now c.finish.result c.finish.new.top.registers c.finish.new.top.stack.items _ _
    (own_found code block.SubBlock p.frames.items p.cells.items m t.registers t.stack.items o go c.in-Some.place c.block_of_frame-number.result (c.is_thunk.ensures.no c.if-is_thunk.false) s.stores.frames has number ∙ own.3 o go)
    (c.finish.ensures.row l line own.0 before now o m own.1 s tt)
