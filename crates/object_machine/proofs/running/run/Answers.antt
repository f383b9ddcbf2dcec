use Rattle.std.proofs.Common.{None, rules, ◌≡◌, List, [], sym, subst, refl, ap, ◌∙◌}
use Rattle.sim_code.specs.Outcome.{Going, first_world}
use Rattle.sim_code.specs.Rows.{opening}
use Rattle.sim_code.specs.declared.stage.Stage.TheVariants as stage
use Rattle.frame_arena.specs.Frames.{empty_memory}
use Rattle.object_machine.specs.declared.machine.Registers.{Registers}
use Rattle.object_machine.specs.declared.machine.Activation as working
use Rattle.object_machine.specs.Running.{RanAs, Stops, StopsAtRead, state_of}
use Rattle.object_machine.specs.Standing.{Stands, Stores, outside}
use Rattle.object_machine.specs.Named.{InputEnds}
use Rattle.object_machine.specs.Taking.{NeverTakes}
use Rattle.object_machine.proofs.Closings.{broken_write}
use Rattle.object_machine.specs.Placed.{IsPlaced}
use Rattle.object_machine.proofs.Taking.{later}
use Rattle.object_machine.proofs.Whole.{ends_after, first_going, input_still, steady_of, stops_first, stops_later}
use Rattle.object_machine.proofs.Written.{append_nothing}
use Rattle.object_machine.proofs.running.run.Goals as goal

pub returns-in_default-clause-ran : goal.returns-in_default-clause-ran
unfolding RanAs
returns-in_default-clause-ran g c input told = (0, ([], [], append_nothing (g.O.Sink.written c.args.out.now), refl))

pub returns-in_default-place-clause-ran : goal.returns-in_default-place-clause-ran
unfolding RanAs
returns-in_default-place-clause-ran g c input told = (0, ([], [], append_nothing (g.O.Sink.written c.args.out.now), refl))

pub returns-in-Stopped-clause-ran : goal.returns-in-Stopped-clause-ran
unfolding RanAs
returns-in-Stopped-clause-ran g c input told =
    let code = c.args.code.now in
    let l = c.args.limits.now in
    let b0 = g.O.Sink.written c.args.out.now in
    let w = outside b0 input in
    let et : c.deref.result.now ≡ code.texts = c.deref.ensures.value ∙ ap (λ k. k.texts) c.code.view_is in
    let eb : code.blocks ≡ c.deref-2.result.now = ap (λ k. k.blocks) (sym c.code.view_is) ∙ sym c.deref-2.ensures.value in
    let ei : code.instrs ≡ c.deref-3.result.now = ap (λ k. k.instrs) (sym c.code.view_is) ∙ sym c.deref-3.ensures.value in
    let ec : code.classes ≡ c.deref-4.result.now = ap (λ k. k.classes) (sym c.code.view_is) ∙ sym c.deref-4.ensures.value in
    let s : Stores l c.in-Ok.storage b0 w (first_world code.texts l input) empty_memory = subst (λ t. Stores l c.in-Ok.storage b0 w (first_world t l input) empty_memory) et (c.in-Ok.ensures.row b0 input) in
    let r : Registers = record { home = record { frame = 0; stamp = 0 }; thunk = None; pc = 0; depth = 0; stage = stage.NoStage } in
    let b = c.in-Stopped.ensures.row code b0 w (first_world code.texts l input) eb ei ec s in
    c.answer.ensures.ran code (opening code l input) r [] [] b0 input (g.I.Source.faults c.args.input.now) (g.I.Source.faults c.args.input.now)
    (record {
      stops = stops_first code l input _ r [] b0 w c.in-Stopped.stop.flow c.in-Stopped.stop.line.0 c.in-Stopped.stop.at b.0 (b.1 r []) (append_nothing b0);
      reads = λ is. absurd (c.in-Stopped.ensures.read is);
    })

pub steps-stop-requires-clause-placed : goal.steps-stop-requires-clause-placed
steps-stop-requires-clause-placed g c = subst (λ v. IsPlaced v c.in-Ok-place.placed) (ap (λ k. k.instrs) (sym c.code.view_is) ∙ sym c.deref-in-Started-2.ensures.value) c.in-Ok-place.ensures

pub returns-in-WriteFault-clause-ran : goal.returns-in-WriteFault-clause-ran
unfolding RanAs
returns-in-WriteFault-clause-ran g c input told =
    let code = c.args.code.now in
    let l = c.args.limits.now in
    let b0 = g.O.Sink.written c.args.out.now in
    let w = outside b0 input in
    let et : c.deref.result.now ≡ code.texts = c.deref.ensures.value ∙ ap (λ k. k.texts) c.code.view_is in
    let eb : code.blocks ≡ c.deref-2.result.now = ap (λ k. k.blocks) (sym c.code.view_is) ∙ sym c.deref-2.ensures.value in
    let ei : code.instrs ≡ c.deref-3.result.now = ap (λ k. k.instrs) (sym c.code.view_is) ∙ sym c.deref-3.ensures.value in
    let ec : code.classes ≡ c.deref-4.result.now = ap (λ k. k.classes) (sym c.code.view_is) ∙ sym c.deref-4.ensures.value in
    let s : Stores l c.in-Ok.storage b0 w (first_world code.texts l input) empty_memory = subst (λ t. Stores l c.in-Ok.storage b0 w (first_world t l input) empty_memory) et (c.in-Ok.ensures.row b0 input) in
    let eb2 : code.blocks ≡ c.deref-in-Started.result.now = ap (λ k. k.blocks) (sym c.code.view_is) ∙ sym c.deref-in-Started.ensures.value in
    let ei2 : code.instrs ≡ c.deref-in-Started-2.result.now = ap (λ k. k.instrs) (sym c.code.view_is) ∙ sym c.deref-in-Started-2.ensures.value in
    let p = c.begin-begun.new.storage in
    let r = c.in-Started.top.registers in
    let stack = c.in-Started.top.stack.items in
    let k = first_going code l input p r stack b0 w 0 (c.in-Started.ensures.row code b0 w (first_world code.texts l input) eb ei ec s) in
    let none : c.new-below.result.items ≡ [] = search rules in
    let stop = c.steps-stop.result in
    let stands : Stands l p r stack c.new-below.result.items b0 w k.world k.memory = subst (λ b. Stands l p r stack b b0 w k.world k.memory) (sym none) k.stands in
    let later = c.steps-stop.ensures.row input told in
    let ek2 : code.texts ≡ c.deref-in-Started-3.result.now = ap (λ k. k.texts) (sym c.code.view_is) ∙ sym c.deref-in-Started-3.ensures.value in
    let el2 : code.classes ≡ c.deref-in-Started-4.result.now = ap (λ k. k.classes) (sym c.code.view_is) ∙ sym c.deref-in-Started-4.ensures.value in
    let ea2 : code.actual_lists ≡ c.deref-in-Started-5.result.now = ap (λ k. k.actual_lists) (sym c.code.view_is) ∙ sym c.deref-in-Started-5.ensures.value in
    let eh2 : code.thunks ≡ c.deref-in-Started-6.result.now = ap (λ k. k.thunks) (sym c.code.view_is) ∙ sym c.deref-in-Started-6.ensures.value in
    let w2 = outside (g.O.Sink.written c.steps-stop.new.out) later.0 in
    let stops0 = (later.2 code b0 k.world k.memory eb2 ei2 ek2 el2 ea2 eh2 stands).stops in
    let stops1 : Stops code l (Going k.world (state_of r stack [] k.memory)) stop.flow stop.line.0 stop.at c.steps-stop.new.storage c.steps-stop.new.top.registers c.steps-stop.new.top.stack.items c.steps-stop.new.below.items b0 w2 =
    subst (λ b. Stops code l (Going k.world (state_of r stack b k.memory)) stop.flow stop.line.0 stop.at c.steps-stop.new.storage c.steps-stop.new.top.registers c.steps-stop.new.top.stack.items c.steps-stop.new.below.items b0 w2) none stops0 in
    let stops = stops_later code l input p r stack b0 w k stop.flow stop.line.0 stop.at c.steps-stop.new.storage c.steps-stop.new.top.registers c.steps-stop.new.top.stack.items c.steps-stop.new.below.items w2 stops1 in
    broken_write code l (opening code l input) stop.line.0 stop.at c.steps-stop.new.storage c.steps-stop.new.top.registers c.steps-stop.new.top.stack.items c.steps-stop.new.below.items b0 w2
    (subst (λ f. Stops code l (opening code l input) f stop.line.0 stop.at c.steps-stop.new.storage c.steps-stop.new.top.registers c.steps-stop.new.top.stack.items c.steps-stop.new.below.items b0 w2) c.in-WriteFault.is stops)

pub returns : goal.returns
unfolding RanAs
returns g c = record {
  ran = λ input told.
      let code = c.args.code.now in
      let l = c.args.limits.now in
      let b0 = g.O.Sink.written c.args.out.now in
      let w = outside b0 input in
      let et : c.deref.result.now ≡ code.texts = c.deref.ensures.value ∙ ap (λ k. k.texts) c.code.view_is in
      let eb : code.blocks ≡ c.deref-2.result.now = ap (λ k. k.blocks) (sym c.code.view_is) ∙ sym c.deref-2.ensures.value in
      let ei : code.instrs ≡ c.deref-3.result.now = ap (λ k. k.instrs) (sym c.code.view_is) ∙ sym c.deref-3.ensures.value in
      let ec : code.classes ≡ c.deref-4.result.now = ap (λ k. k.classes) (sym c.code.view_is) ∙ sym c.deref-4.ensures.value in
      let s : Stores l c.in-Ok.storage b0 w (first_world code.texts l input) empty_memory = subst (λ t. Stores l c.in-Ok.storage b0 w (first_world t l input) empty_memory) et (c.in-Ok.ensures.row b0 input) in
      let eb2 : code.blocks ≡ c.deref-in-Started.result.now = ap (λ k. k.blocks) (sym c.code.view_is) ∙ sym c.deref-in-Started.ensures.value in
      let ei2 : code.instrs ≡ c.deref-in-Started-2.result.now = ap (λ k. k.instrs) (sym c.code.view_is) ∙ sym c.deref-in-Started-2.ensures.value in
      let p = c.begin-begun.new.storage in
      let r = c.in-Started.top.registers in
      let stack = c.in-Started.top.stack.items in
      let k = first_going code l input p r stack b0 w 0 (c.in-Started.ensures.row code b0 w (first_world code.texts l input) eb ei ec s) in
      let none : c.new-below.result.items ≡ [] = search rules in
      let stop = c.steps-stop.result in
      let stands : Stands l p r stack c.new-below.result.items b0 w k.world k.memory = subst (λ b. Stands l p r stack b b0 w k.world k.memory) (sym none) k.stands in
      let later = c.steps-stop.ensures.row input told in
      let ek2 : code.texts ≡ c.deref-in-Started-3.result.now = ap (λ k. k.texts) (sym c.code.view_is) ∙ sym c.deref-in-Started-3.ensures.value in
      let el2 : code.classes ≡ c.deref-in-Started-4.result.now = ap (λ k. k.classes) (sym c.code.view_is) ∙ sym c.deref-in-Started-4.ensures.value in
      let ea2 : code.actual_lists ≡ c.deref-in-Started-5.result.now = ap (λ k. k.actual_lists) (sym c.code.view_is) ∙ sym c.deref-in-Started-5.ensures.value in
      let eh2 : code.thunks ≡ c.deref-in-Started-6.result.now = ap (λ k. k.thunks) (sym c.code.view_is) ∙ sym c.deref-in-Started-6.ensures.value in
      let w2 = outside (g.O.Sink.written c.steps-stop.new.out) later.0 in
      let stops0 = later.2 code b0 k.world k.memory eb2 ei2 ek2 el2 ea2 eh2 stands in
      let Later : List working.Activation → Type 0 =
      λ b. StopsAtRead (g.I.Source.faults c.args.input.now) (g.I.Source.faults c.steps-stop.new.input) code l (Going k.world (state_of r stack b k.memory)) stop.flow stop.line.0 stop.at c.steps-stop.new.storage c.steps-stop.new.top.registers c.steps-stop.new.top.stack.items c.steps-stop.new.below.items b0 w2 in
      let stops1 : Later [] = subst Later none stops0 in
      c.answer-in_default-flow.ensures.ran code (opening code l input) c.steps-stop.new.top.registers c.steps-stop.new.top.stack.items c.steps-stop.new.below.items b0 later.0 (g.I.Source.faults c.args.input.now) (g.I.Source.faults c.steps-stop.new.input)
      (record {
        stops = stops_later code l input p r stack b0 w k stop.flow stop.line.0 stop.at c.steps-stop.new.storage c.steps-stop.new.top.registers c.steps-stop.new.top.stack.items c.steps-stop.new.below.items w2 stops1.stops;
        reads = stops1.reads;
      });
  faults = ends_after g.O.Sink.written g.O.Sink.faults c.args.out.now c.steps-stop.new.out c.answer-in_default-flow.new.out c.answer-in_default-flow.result
      (steady_of g.O.Sink.written g.O.Sink.faults c.args.out.now c.steps-stop.new.out c.steps-stop.result.flow c.in_default-flow.not-WriteFault c.steps-stop.ensures.ends) c.answer-in_default-flow.ensures.ends;
  input_faults = c.answer-in_default-flow.ensures.input _ _ c.steps-stop.ensures.read;
  takes = λ input told never.
      let code = c.args.code.now in
      let l = c.args.limits.now in
      let b0 = g.O.Sink.written c.args.out.now in
      let w = outside b0 input in
      let et : c.deref.result.now ≡ code.texts = c.deref.ensures.value ∙ ap (λ k. k.texts) c.code.view_is in
      let eb : code.blocks ≡ c.deref-2.result.now = ap (λ k. k.blocks) (sym c.code.view_is) ∙ sym c.deref-2.ensures.value in
      let ei : code.instrs ≡ c.deref-3.result.now = ap (λ k. k.instrs) (sym c.code.view_is) ∙ sym c.deref-3.ensures.value in
      let ec : code.classes ≡ c.deref-4.result.now = ap (λ k. k.classes) (sym c.code.view_is) ∙ sym c.deref-4.ensures.value in
      let s : Stores l c.in-Ok.storage b0 w (first_world code.texts l input) empty_memory = subst (λ t. Stores l c.in-Ok.storage b0 w (first_world t l input) empty_memory) et (c.in-Ok.ensures.row b0 input) in
      let eb2 : code.blocks ≡ c.deref-in-Started.result.now = ap (λ k. k.blocks) (sym c.code.view_is) ∙ sym c.deref-in-Started.ensures.value in
      let ei2 : code.instrs ≡ c.deref-in-Started-2.result.now = ap (λ k. k.instrs) (sym c.code.view_is) ∙ sym c.deref-in-Started-2.ensures.value in
      let ek2 : code.texts ≡ c.deref-in-Started-3.result.now = ap (λ k. k.texts) (sym c.code.view_is) ∙ sym c.deref-in-Started-3.ensures.value in
      let el2 : code.classes ≡ c.deref-in-Started-4.result.now = ap (λ k. k.classes) (sym c.code.view_is) ∙ sym c.deref-in-Started-4.ensures.value in
      let ea2 : code.actual_lists ≡ c.deref-in-Started-5.result.now = ap (λ k. k.actual_lists) (sym c.code.view_is) ∙ sym c.deref-in-Started-5.ensures.value in
      let eh2 : code.thunks ≡ c.deref-in-Started-6.result.now = ap (λ k. k.thunks) (sym c.code.view_is) ∙ sym c.deref-in-Started-6.ensures.value in
      let p = c.begin-begun.new.storage in
      let r = c.in-Started.top.registers in
      let stack = c.in-Started.top.stack.items in
      let k = first_going code l input p r stack b0 w 0 (c.in-Started.ensures.row code b0 w (first_world code.texts l input) eb ei ec s) in
      let none : c.new-below.result.items ≡ [] = search rules in
      let stands : Stands l p r stack c.new-below.result.items b0 w k.world k.memory = subst (λ b. Stands l p r stack b b0 w k.world k.memory) (sym none) k.stands in
      let still : NeverTakes code l input (Going k.world (state_of r stack c.new-below.result.items k.memory)) = subst (λ b. NeverTakes code l input (Going k.world (state_of r stack b k.memory))) (sym none) (later code l input _ k.is never) in
      c.steps-stop.ensures.takes input told code b0 k.world k.memory input eb2 ei2 ek2 el2 ea2 eh2 stands still;
}

pub returns-in-Stopped-clause-input_faults : goal.returns-in-Stopped-clause-input_faults
returns-in-Stopped-clause-input_faults g c = c.answer.ensures.input (g.I.Source.faults c.args.input.now) (g.I.Source.faults c.args.input.now) (input_still (g.I.Source.faults c.args.input.now) _ c.in-Stopped.ensures.read)

pub returns-in-WriteFault-clause-input_faults : goal.returns-in-WriteFault-clause-input_faults
returns-in-WriteFault-clause-input_faults g c = subst (λ f. InputEnds (g.I.Source.faults c.args.input.now) (g.I.Source.faults c.steps-stop.new.input) f) c.in-WriteFault.is c.steps-stop.ensures.read

pub returns-in-WriteFault-clause-takes : goal.returns-in-WriteFault-clause-takes
returns-in-WriteFault-clause-takes g c input told never =
    let code = c.args.code.now in
    let l = c.args.limits.now in
    let b0 = g.O.Sink.written c.args.out.now in
    let w = outside b0 input in
    let et : c.deref.result.now ≡ code.texts = c.deref.ensures.value ∙ ap (λ k. k.texts) c.code.view_is in
    let eb : code.blocks ≡ c.deref-2.result.now = ap (λ k. k.blocks) (sym c.code.view_is) ∙ sym c.deref-2.ensures.value in
    let ei : code.instrs ≡ c.deref-3.result.now = ap (λ k. k.instrs) (sym c.code.view_is) ∙ sym c.deref-3.ensures.value in
    let ec : code.classes ≡ c.deref-4.result.now = ap (λ k. k.classes) (sym c.code.view_is) ∙ sym c.deref-4.ensures.value in
    let s : Stores l c.in-Ok.storage b0 w (first_world code.texts l input) empty_memory = subst (λ t. Stores l c.in-Ok.storage b0 w (first_world t l input) empty_memory) et (c.in-Ok.ensures.row b0 input) in
    let eb2 : code.blocks ≡ c.deref-in-Started.result.now = ap (λ k. k.blocks) (sym c.code.view_is) ∙ sym c.deref-in-Started.ensures.value in
    let ei2 : code.instrs ≡ c.deref-in-Started-2.result.now = ap (λ k. k.instrs) (sym c.code.view_is) ∙ sym c.deref-in-Started-2.ensures.value in
    let ek2 : code.texts ≡ c.deref-in-Started-3.result.now = ap (λ k. k.texts) (sym c.code.view_is) ∙ sym c.deref-in-Started-3.ensures.value in
    let el2 : code.classes ≡ c.deref-in-Started-4.result.now = ap (λ k. k.classes) (sym c.code.view_is) ∙ sym c.deref-in-Started-4.ensures.value in
    let ea2 : code.actual_lists ≡ c.deref-in-Started-5.result.now = ap (λ k. k.actual_lists) (sym c.code.view_is) ∙ sym c.deref-in-Started-5.ensures.value in
    let eh2 : code.thunks ≡ c.deref-in-Started-6.result.now = ap (λ k. k.thunks) (sym c.code.view_is) ∙ sym c.deref-in-Started-6.ensures.value in
    let p = c.begin-begun.new.storage in
    let r = c.in-Started.top.registers in
    let stack = c.in-Started.top.stack.items in
    let k = first_going code l input p r stack b0 w 0 (c.in-Started.ensures.row code b0 w (first_world code.texts l input) eb ei ec s) in
    let none : c.new-below.result.items ≡ [] = search rules in
    let stands : Stands l p r stack c.new-below.result.items b0 w k.world k.memory = subst (λ b. Stands l p r stack b b0 w k.world k.memory) (sym none) k.stands in
    let still : NeverTakes code l input (Going k.world (state_of r stack c.new-below.result.items k.memory)) = subst (λ b. NeverTakes code l input (Going k.world (state_of r stack b k.memory))) (sym none) (later code l input _ k.is never) in
    c.steps-stop.ensures.takes input told code b0 k.world k.memory input eb2 ei2 ek2 el2 ea2 eh2 stands still
