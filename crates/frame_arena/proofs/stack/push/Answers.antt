use Rattle.frame_arena.proofs.Leading.{all_lead_set, all_lead_arrays_set}
use Rattle.frame_arena.proofs.Tops.{push_on, push_off}
use Rattle.frame_arena.specs.Slots.{value_of}
use Rattle.frame_arena.proofs.stack.push.Goals as goal

pub returns-then-depth-stack-clause-row : goal.returns-then-depth-stack-clause-row
returns-then-depth-stack-clause-row c o go = push_on c.args.depth c.args.stack.now c.args.slot o go c.requires.fits c.if-depth-stack.true

pub returns-clause-row : goal.returns-clause-row
returns-clause-row c o go = push_off c.args.depth c.args.stack.now (value_of c.args.slot) o go c.requires.fits c.if-depth-stack.false

pub returns-then-depth-stack-clause-leads : goal.returns-then-depth-stack-clause-leads
returns-then-depth-stack-clause-leads c frames m all here = all_lead_set frames m c.args.stack.now c.args.depth c.args.slot c.if-depth-stack.true all here

pub returns-then-depth-stack-clause-leads_arrays : goal.returns-then-depth-stack-clause-leads_arrays
returns-then-depth-stack-clause-leads_arrays c regions arrays all here = all_lead_arrays_set regions arrays c.args.stack.now c.args.depth c.args.slot c.if-depth-stack.true all here
