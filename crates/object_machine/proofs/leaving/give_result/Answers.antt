use Rattle.std.proofs.Common.{ℕ, ◌∙◌, ap, sym, subst}
use Rattle.sim_code.specs.declared.code.BlockKind.TheVariants as block
use Rattle.sim_code.specs.Events.{having}
use Rattle.sim_code.specs.Machine.{Machine, leaving, with_result}
use Rattle.sim_code.specs.Outcome.{Run}
use Rattle.sim_code.specs.Code.{BlockOf}
use Rattle.frame_arena.specs.Arrays.{AllLeadArrays}
use Rattle.frame_arena.specs.Frames.{AllLead, Has, Holds, Leads, frame_at}
use Rattle.object_machine.specs.Standing.{Leaves, Obeys, below_of}
use Rattle.object_machine.proofs.Departures.{no_block_of_thunk, own_found, value_leads}
use Rattle.object_machine.proofs.Going.{along, no_rule_in}
use Rattle.object_machine.proofs.leaving.give_result.Goals as goal

pub returns-then-is_thunk-clause-row : goal.returns-then-is_thunk-clause-row
unfolding Obeys
returns-then-is_thunk-clause-row c code l line now e before o m s =
    let p = c.args.storage.now in
    let t = c.args.top.now in
    let go : BlockOf → Run Machine = λ x. with_result x m t.registers.home.stamp o (λ v. leaving x (below_of c.args.below.now.items) v t.registers.home.stamp o m) in
    no_rule_in l line p p c.args.below.now.items before now t.registers t.registers t.stack.items t.stack.items o m s
    (no_block_of_thunk code block.Procedure m t.registers t.stack.items o go (c.is_thunk.ensures.yes c.if-is_thunk.true))

pub returns-in_default-clause-row : goal.returns-in_default-clause-row
unfolding Obeys Leaves
returns-in_default-clause-row c code l line now e before o m s = tt

pub returns-in_default-own_block-clause-row : goal.returns-in_default-own_block-clause-row
unfolding Obeys
returns-in_default-own_block-clause-row c code l line now e before o m s =
    let p = c.args.storage.now in
    let t = c.args.top.now in
    let j : ℕ = t.registers.home.stamp in
    let has : Has p.frames.items c.in-Some.place j = subst (λ f. Has f c.in-Some.place j) c.deref.ensures.value c.in-Some.ensures.there in
    let number = c.block_of_frame-number.ensures ∙ ap (λ f. (frame_at f c.in-Some.place).block) c.deref-2.ensures.value in
    let go : BlockOf → Run Machine = λ x. with_result x m j o (λ v. leaving x (below_of c.args.below.now.items) v j o m) in
    no_rule_in l line p p c.args.below.now.items before now t.registers t.registers t.stack.items t.stack.items o m s
    (own_found code block.Procedure p.frames.items p.cells.items m t.registers t.stack.items o go c.in-Some.place c.block_of_frame-number.result (c.is_thunk.ensures.no c.if-is_thunk.false) s.stores.frames has number ∙ c.in_default-own_block.ensures.row code e o go)

pub returns-in_default-result_of-clause-row : goal.returns-in_default-result_of-clause-row
unfolding Obeys having
returns-in_default-result_of-clause-row c code l line now e before o m s =
    let p = c.args.storage.now in
    let t = c.args.top.now in
    let j : ℕ = t.registers.home.stamp in
    let has : Has p.frames.items c.in-Some.place j = subst (λ f. Has f c.in-Some.place j) c.deref.ensures.value c.in-Some.ensures.there in
    let number = c.block_of_frame-number.ensures ∙ ap (λ f. (frame_at f c.in-Some.place).block) c.deref-2.ensures.value in
    let go : BlockOf → Run Machine = λ x. with_result x m j o (λ v. leaving x (below_of c.args.below.now.items) v j o m) in
    let own = c.in-Some-own_block.ensures.row code e in
    let h : Holds c.deref-3.result.now c.deref-4.result.now m = subst (λ f. Holds f c.deref-4.result.now m) (sym c.deref-3.ensures.value) (subst (λ x. Holds p.frames.items x m) (sym c.deref-4.ensures.value) s.stores.frames) in
    let led : Leads c.deref-3.result.now m t.registers.home = subst (λ f. Leads f m t.registers.home) (sym c.deref-3.ensures.value) s.top.home in
    no_rule_in l line p p c.args.below.now.items before now t.registers t.registers t.stack.items t.stack.items o m s
    (own_found code block.Procedure p.frames.items p.cells.items m t.registers t.stack.items o go c.in-Some.place c.block_of_frame-number.result (c.is_thunk.ensures.no c.if-is_thunk.false) s.stores.frames has number ∙ own.3 o go
    ∙ c.in_default-result_of.ensures.row own.0 m o (λ v. leaving own.0 (below_of c.args.below.now.items) v j o m) own.2 h led)

pub returns-clause-row : goal.returns-clause-row
unfolding Obeys having
returns-clause-row c code l line now e before o m s =
    let p = c.args.storage.now in
    let t = c.args.top.now in
    let j : ℕ = t.registers.home.stamp in
    let has : Has p.frames.items c.in-Some.place j = subst (λ f. Has f c.in-Some.place j) c.deref.ensures.value c.in-Some.ensures.there in
    let number = c.block_of_frame-number.ensures ∙ ap (λ f. (frame_at f c.in-Some.place).block) c.deref-2.ensures.value in
    let go : BlockOf → Run Machine = λ x. with_result x m j o (λ v. leaving x (below_of c.args.below.now.items) v j o m) in
    let own = c.in-Some-own_block.ensures.row code e in
    let h : Holds c.deref-3.result.now c.deref-4.result.now m = subst (λ f. Holds f c.deref-4.result.now m) (sym c.deref-3.ensures.value) (subst (λ x. Holds p.frames.items x m) (sym c.deref-4.ensures.value) s.stores.frames) in
    let led : Leads c.deref-3.result.now m t.registers.home = subst (λ f. Leads f m t.registers.home) (sym c.deref-3.ensures.value) s.top.home in
    let slots : AllLead p.frames.items m c.deref-4.result.now = subst (λ x. AllLead p.frames.items m x) (sym c.deref-4.ensures.value) s.stores.frames.links in
    let arrays : AllLeadArrays p.arrays.regions o.arrays c.deref-4.result.now = subst (λ x. AllLeadArrays p.arrays.regions o.arrays x) (sym c.deref-4.ensures.value) s.stores.cells in
    along l line c.finish.new.storage c.finish.new.below.items before now c.finish.result c.finish.new.top.registers c.finish.new.top.stack.items _ _
    (own_found code block.Procedure p.frames.items p.cells.items m t.registers t.stack.items o go c.in-Some.place c.block_of_frame-number.result (c.is_thunk.ensures.no c.if-is_thunk.false) s.stores.frames has number ∙ own.3 o go
    ∙ c.in-Some-result_of.ensures.row own.0 m o (λ v. leaving own.0 (below_of c.args.below.now.items) v j o m) own.2 h led)
    (c.finish.ensures.row l line own.0 before now o m own.1 s (value_leads p.frames.items m p.arrays.regions o.arrays c.deref-4.result.now c.in-Some-result_of.value slots arrays c.in-Some-result_of.ensures.lies))
