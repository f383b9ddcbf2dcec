use Rattle.std.proofs.Common.{◌≡◌, ◌∷◌, suc, ap, arith, ◌∙◌}
use Rattle.frame_arena.specs.declared.slot.SlotKind.TheVariants as k
use Rattle.frame_arena.specs.Stacks.{slot_at, values_of}
use Rattle.object_machine.specs.Standing.{Obeys, activation_at, below_of}
use Rattle.object_machine.proofs.ArrayRows.{one_more}
use Rattle.object_machine.proofs.Copies.{CopyOf, copies_as_named, is_text, no_text, room_there, text_at}
use Rattle.object_machine.proofs.Going.{along, none}
use Rattle.object_machine.proofs.names.copy_text.Goals as goal

pub returns-in_default-clause-row : goal.returns-in_default-clause-row
unfolding Obeys
returns-in_default-clause-row c line below now before o m s =
    let l = c.args.limits.now in
    let p = c.args.storage.now in
    let r = c.args.regs.now in
    let stack = c.args.stack.now in
    along l line p below before now _ _ _ _ _ (c.in_default.ensures.row o (CopyOf l line o m (activation_at r stack) (below_of below))) (none l line p below before now _ r _ stack o m s)

pub returns-in-Text-clause-row : goal.returns-in-Text-clause-row
unfolding Obeys
returns-in-Text-clause-row c line below now before o m s =
    let l = c.args.limits.now in
    let r = c.args.regs.now in
    let stack = c.args.stack.now in
    let at = c.in-Some.at in
    let d = c.in-Some.ensures.shallower in
    let f = c.requires.fits in
    let kind = c.in-Text.is in
    let depth : r.depth ≡ suc at = omega (arith, d) in
    let top = ap (λ n. values_of n stack) depth ∙ one_more at stack (omega (arith, d, f)) ∙ ap (λ v. v ∷ values_of at stack) (is_text (slot_at stack at) kind) in
    along l line _ below before now _ _ _ _ _ (copies_as_named l line o m (activation_at r stack) (below_of below) (text_at (slot_at stack at)) (values_of at stack) top (room_there r stack f))
    (c.whole_standard.ensures.row line below now before o m s)

pub returns-in_default-kind-clause-row : goal.returns-in_default-kind-clause-row
unfolding Obeys
returns-in_default-kind-clause-row c line below now before o m s =
    let l = c.args.limits.now in
    let p = c.args.storage.now in
    let r = c.args.regs.now in
    let stack = c.args.stack.now in
    let at = c.in-Some.at in
    let a = activation_at r stack in
    along l line p below before now _ _ _ _ _
    (c.in-Some.ensures.row o (CopyOf l line o m a (below_of below)) ∙ no_text l line o m a (below_of below) (slot_at stack at) (values_of at stack) c.in_default-kind.not-Text)
    (none l line p below before now _ r _ stack o m s)
