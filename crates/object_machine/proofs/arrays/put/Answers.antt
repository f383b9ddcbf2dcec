use Rattle.std.proofs.Common.{◌-◌, ◌+◌, List, ◌∙◌, ap}
use Rattle.sim_code.specs.Machine.{Frames, Machine, Value, on, variable_in}
use Rattle.sim_code.specs.Outcome.{Run, World}
use Rattle.frame_arena.specs.Slots.{value_of}
use Rattle.frame_arena.specs.Stacks.{slot_at, values_of}
use Rattle.object_machine.specs.Standing.{Obeys, activation_at, below_of}
use Rattle.object_machine.proofs.ClassRows.{Stored, not_stored, plainly_stored}
use Rattle.object_machine.proofs.Going.{along, none}
use Rattle.object_machine.proofs.Putting.{put_few, put_two}
use Rattle.object_machine.proofs.arrays.put.Goals as goal

pub returns-then-regs-lt2-clause-row : goal.returns-then-regs-lt2-clause-row
unfolding Obeys
returns-then-regs-lt2-clause-row c code l line below now before o m s =
    let r = c.args.regs.now in
    let stack = c.args.stack.now in
    let K : List Value → World → Frames → Run Machine = λ st w m2. on w m2 (activation_at r stack) st (below_of below) in
    along l line c.args.storage.now below before now _ _ _ _ _ (put_few code line o m K r.depth stack c.if-regs-lt2.true) (none l line c.args.storage.now below before now _ r _ stack o m s)

pub returns-then-is_image-clause-row : goal.returns-then-is_image-clause-row
unfolding Obeys
returns-then-is_image-clause-row c code l line below now before o m s =
    let r = c.args.regs.now in
    let stack = c.args.stack.now in
    let at = r.depth - 2 in
    let K : List Value → World → Frames → Run Machine = λ st w m2. on w m2 (activation_at r stack) st (below_of below) in
    along l line c.args.storage.now below before now _ _ _ _ _
    (put_two code line o m K r.depth stack c.if-regs-lt2.false c.requires.fits ∙ not_stored code line (value_of (slot_at stack (at + 1))) o m (K (values_of at stack)) (variable_in (value_of (slot_at stack at))) (c.is_image.ensures.yes c.if-is_image.true))
    (none l line c.args.storage.now below before now _ r _ stack o m s)

pub returns-clause-row : goal.returns-clause-row
unfolding Obeys
returns-clause-row c code l line below now before o m s =
    let r = c.args.regs.now in
    let stack = c.args.stack.now in
    let at = r.depth - 2 in
    let K : List Value → World → Frames → Run Machine = λ st w m2. on w m2 (activation_at r stack) st (below_of below) in
    along l line c.put_down.new.storage below before now _ _ _ _ _
    (put_two code line o m K r.depth stack c.if-regs-lt2.false c.requires.fits ∙ ap (Stored code line (value_of (slot_at stack (at + 1))) o m (K (values_of at stack))) (c.is_image.ensures.no c.if-is_image.false) ∙ plainly_stored code line (value_of (slot_at stack (at + 1))) o m (K (values_of at stack)) (slot_at stack at) c.if-stack-at-ne0.false)
    (c.put_down.ensures.row l line stack below before now o m s (s.top.slots at, s.top.arrays_lead at) (s.top.slots (at + 1), s.top.arrays_lead (at + 1)))
