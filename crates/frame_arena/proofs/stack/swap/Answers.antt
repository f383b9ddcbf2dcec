use Rattle.std.proofs.Common.{◌-◌, set, length-set, arith}
use Rattle.frame_arena.specs.Stacks.{slot_at}
use Rattle.frame_arena.proofs.Leading.{all_lead_set, all_lead_arrays_set}
use Rattle.frame_arena.proofs.Places.{swap_few, swaps}
use Rattle.frame_arena.proofs.stack.swap.Goals as goal

pub returns-then-depth-lt2-clause-row : goal.returns-then-depth-lt2-clause-row
returns-then-depth-lt2-clause-row c o go = swap_few c.args.depth c.args.stack.now o go c.if-depth-lt2.true

pub returns-clause-leads : goal.returns-clause-leads
returns-clause-leads c frames m all =
    let s = c.args.stack.now in
    let d = c.args.depth in
    let long = length-set s (d - 2) (slot_at s (d - 1)) in
    all_lead_set frames m (set s (d - 2) (slot_at s (d - 1))) (d - 1) (slot_at s (d - 2)) (omega (arith, long, c.if-depth-lt2.false, c.requires.fits))
    (all_lead_set frames m s (d - 2) (slot_at s (d - 1)) (omega (arith, c.if-depth-lt2.false, c.requires.fits)) all (all (d - 1)))
    (all (d - 2))

pub returns-clause-leads_arrays : goal.returns-clause-leads_arrays
returns-clause-leads_arrays c regions arrays all =
    let s = c.args.stack.now in
    let d = c.args.depth in
    let long = length-set s (d - 2) (slot_at s (d - 1)) in
    all_lead_arrays_set regions arrays (set s (d - 2) (slot_at s (d - 1))) (d - 1) (slot_at s (d - 2)) (omega (arith, long, c.if-depth-lt2.false, c.requires.fits))
    (all_lead_arrays_set regions arrays s (d - 2) (slot_at s (d - 1)) (omega (arith, c.if-depth-lt2.false, c.requires.fits)) all (all (d - 1)))
    (all (d - 2))

pub returns-clause-row : goal.returns-clause-row
returns-clause-row c o go = swaps c.args.depth c.args.stack.now c.if-depth-lt2.false c.requires.fits o go
