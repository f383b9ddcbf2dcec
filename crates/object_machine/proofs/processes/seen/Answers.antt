use Rattle.std.proofs.Common.{◌≡◌, sym, subst, ap, ◌∙◌}
use Rattle.std.specs.Prelude.{None, Some}
use Rattle.notices.specs.declared.activation.ProcessRef.TheVariants.{OfThis}
use Rattle.sim_code.specs.Machine.{plain}
use Rattle.sim_code.specs.Simulations.{named_as, number_in, process_by}
use Rattle.frame_arena.specs.Slots.{value_of}
use Rattle.object_machine.specs.Simulating.{simulation_of}
use Rattle.object_machine.specs.Telling.{IsNumber}
use Rattle.object_machine.proofs.Sights.{Named, seen_as, seen_unclassed, seen_untested}
use Rattle.object_machine.proofs.processes.seen.Goals as goal

pub returns-in_default-process_at-clause-row : goal.returns-in_default-process_at-clause-row
returns-in_default-process_at-clause-row c code cells m b k holds s leads =
    seen_unclassed code m c.args.simulated.now.block.stamp (simulation_of c.args.simulated.now) c.reference_in-reference.result (plain (value_of c.args.slot)) c.reference_in-reference.ensures.is c.in_default.not-IsNone c.in_default.not-Other
    (sym (c.process_at.ensures.row code cells m b k holds s.block) ∙ c.in_default-process_at.is)

pub returns-in_default-test-clause-row : goal.returns-in_default-test-clause-row
returns-in_default-test-clause-row c code cells m b k holds s leads =
    seen_untested code m c.args.simulated.now.block.stamp (simulation_of c.args.simulated.now) c.reference_in-reference.result (plain (value_of c.args.slot)) c.reference_in-reference.ensures.is c.in_default.not-IsNone c.in_default.not-Other
    c.in-Some.class (sym (c.process_at.ensures.row code cells m b k holds s.block) ∙ c.in-Some.is) c.test.result (c.test.ensures.row code cells m b k holds leads) c.in_default-test.is

pub returns-then-not-is_process-clause-row : goal.returns-then-not-is_process-clause-row
returns-then-not-is_process-clause-row c code cells m b k holds s leads =
    let x = simulation_of c.args.simulated.now in
    let r = c.reference_in-reference.result in
    let v = plain (value_of c.args.slot) in
    let n = Named code m c.args.simulated.now.block.stamp x r v c.reference_in-reference.ensures.is c.in_default.not-IsNone c.in_default.not-Other in
    seen_as code m c.args.simulated.now.block.stamp x r v c.reference_in-reference.ensures.is c.in_default.not-IsNone c.in_default.not-Other
    c.in-Some.class (sym (c.process_at.ensures.row code cells m b k holds s.block) ∙ c.in-Some.is) c.test.result (c.test.ensures.row code cells m b k holds leads) c.in-Some-test.is_process c.in-Some-test.is
    ∙ ap (λ h. Some (Some (named_as h (number_in x n.0) x))) c.if-not-is_process.true

pub returns-in-Process-clause-row : goal.returns-in-Process-clause-row
returns-in-Process-clause-row c code cells m b k holds s leads =
    let x = simulation_of c.args.simulated.now in
    let r = c.reference_in-reference.result in
    let v = plain (value_of c.args.slot) in
    let n = Named code m c.args.simulated.now.block.stamp x r v c.reference_in-reference.ensures.is c.in_default.not-IsNone c.in_default.not-Other in
    let number : number_in x n.0 ≡ Some c.in-Process.process.0 = subst (λ q. IsNumber q (number_in x n.0)) c.in-Process.is (c.number_in.ensures.row n.0 n.2 s.rises) in
    seen_as code m c.args.simulated.now.block.stamp x r v c.reference_in-reference.ensures.is c.in_default.not-IsNone c.in_default.not-Other
    c.in-Some.class (sym (c.process_at.ensures.row code cells m b k holds s.block) ∙ c.in-Some.is) c.test.result (c.test.ensures.row code cells m b k holds leads) c.in-Some-test.is_process c.in-Some-test.is
    ∙ ap (λ h. Some (Some (named_as h (number_in x n.0) x))) c.if-not-is_process.false
    ∙ ap (λ q. Some (Some (process_by q x))) number
    ∙ ap (λ e. Some (Some (OfThis c.in-Process.process e))) (sym c.is_ended.ensures)

pub returns-in-Other-number_in-clause-row : goal.returns-in-Other-number_in-clause-row
returns-in-Other-number_in-clause-row c code cells m b k holds s leads =
    let x = simulation_of c.args.simulated.now in
    let r = c.reference_in-reference.result in
    let v = plain (value_of c.args.slot) in
    let n = Named code m c.args.simulated.now.block.stamp x r v c.reference_in-reference.ensures.is c.in_default.not-IsNone c.in_default.not-Other in
    let number : number_in x n.0 ≡ None = subst (λ q. IsNumber q (number_in x n.0)) c.in-Other-number_in.is (c.number_in.ensures.row n.0 n.2 s.rises) in
    seen_as code m c.args.simulated.now.block.stamp x r v c.reference_in-reference.ensures.is c.in_default.not-IsNone c.in_default.not-Other
    c.in-Some.class (sym (c.process_at.ensures.row code cells m b k holds s.block) ∙ c.in-Some.is) c.test.result (c.test.ensures.row code cells m b k holds leads) c.in-Some-test.is_process c.in-Some-test.is
    ∙ ap (λ h. Some (Some (named_as h (number_in x n.0) x))) c.if-not-is_process.false
    ∙ ap (λ q. Some (Some (process_by q x))) number
