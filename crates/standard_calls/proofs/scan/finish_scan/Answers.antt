use Rattle.std.proofs.Common.{◌≡◌, ◌≤◌, ◌∙◌, ℕ, ◌<◌, ◌-◌, List, ap, length, set, sym, subst}
use Rattle.std.specs.Prelude.{Ok}
use Rattle.sim_values.specs.Standard.{operands_of, row_of}
use Rattle.frame_arena.specs.declared.slot.Slot.{Slot}
use Rattle.frame_arena.specs.Stacks.{values_of}
use Rattle.standard_calls.specs.Calls.{CameAs, ReadAs, Takes, begins, name_of, operands}
use Rattle.standard_calls.specs.Performed.{Parts, parts}
use Rattle.standard_calls.proofs.Counts.{call_count}
use Rattle.standard_calls.proofs.ReadApart.{begins_below, read_apart, value_fits}
use Rattle.standard_calls.proofs.Slots.{same_below}
use Rattle.standard_calls.proofs.scan.finish_scan.Goals as goal

pub settle-requires-clause-room : goal.settle-requires-clause-room
settle-requires-clause-room c =
    let call = c.args.call in
    let depth = c.args.depth in
    let stack = c.args.stack.now in
    let count : length (operands_of (row_of c.args.name).function) ≡ length (operands call) = ap (λ n. length (operands_of (row_of n).function)) c.requires.named ∙ sym (call_count call) in
    let at : c.saturating_sub-at.result ≡ begins depth call = c.saturating_sub-at.ensures ∙ ap (λ k. depth - k) c.operand_places.ensures.count in
    value_fits c.come_scan.result c.saturating_sub-at.result stack
    (subst (λ k. k < length stack) (sym at) (begins_below depth stack c.requires.fits call (subst (λ k. k ≤ depth) count c.requires.deep) c.requires.rest))

pub returns-clause-row : goal.returns-clause-row
returns-clause-row c budget words input source image sink s is =
    let call = c.args.call in
    let n = c.args.name in
    let depth = c.args.depth in
    let stack = c.args.stack.now in
    let old : Parts = parts c.args.texts.now input source image sink words in
    let new : Parts = parts c.come_scan.new.texts input source image sink words in
    let places : ℕ = length (operands_of (row_of n).function) in
    let count : length (operands call) ≡ places = call_count call ∙ ap (λ n. length (operands_of (row_of n).function)) (sym c.requires.named) in
    let apart : List Slot = set stack (depth - places) s in
    let read : ReadAs (Ok call) n depth apart =
    subst (λ n. ReadAs (Ok call) n depth apart) (sym c.requires.named)
    (subst (λ k. ReadAs (Ok call) (name_of call) depth (set stack (depth - k) s)) count (read_apart depth stack c.requires.fits s call (subst (λ k. k ≤ depth) (sym count) c.requires.deep) c.requires.rest is)) in
    let at : c.saturating_sub-at.result ≡ begins depth call = c.saturating_sub-at.ensures ∙ ap (λ k. depth - k) c.operand_places.ensures.count in
    let same : values_of c.saturating_sub-at.result apart ≡ values_of c.saturating_sub-at.result stack = subst (λ k. values_of k apart ≡ values_of k stack) (sym (at ∙ ap (λ k. depth - k) count)) (same_below (depth - places) stack s) in
    c.settle.ensures.row budget n depth apart (operands call) old new same (subst (λ k. Takes n depth apart k (operands call)) (sym at) read.1)
    (subst (λ n. CameAs c.come_scan.result budget n (operands call) old new) (sym read.0) (c.come_scan.ensures.came budget words input source image sink))
