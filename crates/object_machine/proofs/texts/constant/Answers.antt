use Rattle.std.proofs.Common.{rules, ℕ, ◌≡◌, ◌∙◌, List, length, ap, refl, sym, of_z, to_z, w64}
use Rattle.std.specs.Prelude.{slice_get}
use Rattle.sim_values.specs.Plain.{Text}
use Rattle.sim_code.specs.Machine.{Of, index, number}
use Rattle.sim_code.specs.Rows.{pushed, text_value}
use Rattle.frame_arena.specs.Slots.{value_of}
use Rattle.object_machine.specs.Standing.{Leaves, Obeys, activation_at, below_of}
use Rattle.object_machine.proofs.Going.{along, none}
use Rattle.object_machine.proofs.Having.{having_none, having_some}
use Rattle.object_machine.proofs.Jumps.{found_at, none_at}
use Rattle.object_machine.proofs.Scalars.{scalar_leads, scalar_leads_array}
use Rattle.object_machine.proofs.texts.constant.Goals as goal

pub returns-in_default-clause-row : goal.returns-in_default-clause-row
unfolding Obeys index
returns-in_default-clause-row c code l line p below now e before o m s =
    let en : to_z w64 (of_z w64 c.args.operand) ≡ c.args.operand = search rules in
    along l line p below before now _ _ _ _ _ (having_none (number c.args.operand) o _ (c.in_default.ensures ∙ ap number en)) (none l line p below before now _ c.args.regs.now _ c.args.stack.now o m s)

pub returns-in_default-get-clause-row : goal.returns-in_default-get-clause-row
unfolding Obeys index
returns-in_default-get-clause-row c code l line p below now e before o m s =
    let en : to_z w64 (of_z w64 c.args.operand) ≡ c.args.operand = search rules in
    let n = c.in-Some.number in
    along l line p below before now _ _ _ _ _
    (having_some (number c.args.operand) n o _ (c.in-Some.ensures ∙ ap number en) ∙ having_none (slice_get code.texts n) o _ (sym (ap (λ v. slice_get v n) e ∙ none_at c.args.constants.now n c.in_default-get.ensures.lookup.3)))
    (none l line p below before now _ c.args.regs.now _ c.args.stack.now o m s)

pub returns-in_default-try_from-clause-row : goal.returns-in_default-try_from-clause-row
unfolding Obeys Leaves
returns-in_default-try_from-clause-row c code l line p below now e before o m s = tt

pub returns-in_default-try_from-2-clause-row : goal.returns-in_default-try_from-2-clause-row
unfolding Obeys Leaves
returns-in_default-try_from-2-clause-row c code l line p below now e before o m s = tt

pub returns-clause-row : goal.returns-clause-row
unfolding Obeys index
returns-clause-row c code l line p below now e before o m s =
    let en : to_z w64 (of_z w64 c.args.operand) ≡ c.args.operand = search rules in
    let n = c.in-Some.number in
    let text : List ℕ = c.in-Some-get.text.now in
    let a = activation_at c.args.regs.now c.args.stack.now in
    let slot = c.text-slot.result in
    let short : c.in-Ok.text_frame ≡ n = search rules in
    let count : c.in-Ok-try_from.length ≡ length c.as_bytes-bytes.result.now = search rules in
    let is : Of (text_value n text) ≡ value_of slot =
    sym (c.text-slot.ensures.value
    ∙ ap (λ k. Of (Text (record { text_frame = k; start = 1; length = c.in-Ok-try_from.length; pos = 1 }))) short
    ∙ ap (λ k. Of (Text (record { text_frame = n; start = 1; length = k; pos = 1 }))) (count ∙ ap (λ b. length b) c.as_bytes-bytes.ensures.same)) in
    along l line p below before now _ _ _ _ _
    (having_some (number c.args.operand) n o _ (c.in-Some.ensures ∙ ap number en)
    ∙ having_some (slice_get code.texts n) text o _ (sym (ap (λ v. slice_get v n) e ∙ found_at c.args.constants.now n text c.in-Some-get.ensures.lookup.3.0 c.in-Some-get.ensures.lookup.1))
    ∙ ap (λ v. pushed o m a (below_of below) v) is)
    (c.push.ensures.row l line p below before now o m s
    (scalar_leads p.frames.items m slot (Text (record { text_frame = c.in-Ok.text_frame; start = 1; length = c.in-Ok-try_from.length; pos = 1 })) c.text-slot.ensures.value refl)
    (scalar_leads_array p.arrays.regions o.arrays slot (Text (record { text_frame = c.in-Ok.text_frame; start = 1; length = c.in-Ok-try_from.length; pos = 1 })) c.text-slot.ensures.value refl))
