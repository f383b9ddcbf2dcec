use Rattle.std.proofs.Common.{◌∷◌}
use Rattle.sim_code.specs.Machine.{waiting}
use Rattle.frame_arena.specs.Stacks.{values_of}
use Rattle.object_machine.specs.Standing.{activation_of, below_of}
use Rattle.object_machine.proofs.Decisions.{decided_so, refused, settled_fails, settled_goes, settled_stays, stays_behind}
use Rattle.object_machine.proofs.Going.{along}
use Rattle.object_machine.proofs.deciding.decide.Goals as goal

pub returns-in-Stay-clause-row : goal.returns-in-Stay-clause-row
returns-in-Stay-clause-row c l line before now o w m x i s is =
    let t = c.args.top.now in
    let below = c.args.below.now.items in
    let depth = c.args.depth in
    along l line c.args.storage.now below before now _ _ _ _ _
    (settled_stays line o w (waiting (activation_of t) (values_of depth t.stack.items) ∷ below_of below) m x c.args.answer c.in-Ok.next c.in-Ok.is c.in-Stay.is)
    (stays_behind l line c.args.storage.now t below before now o w m depth c.wait.new.top c.wait.ensures (s (decided_so c.args.answer c.in-Ok.next c.in-Ok.is)))

pub returns-in-Resume-clause-row : goal.returns-in-Resume-clause-row
returns-in-Resume-clause-row c l line before now o w m x i s is =
    let t = c.args.top.now in
    let below = c.args.below.now.items in
    let depth = c.args.depth in
    let d = c.resume_process in
    along l line d.new.storage d.new.below.items before now d.result d.new.top.registers d.new.top.stack.items _ _
    (settled_goes line o w (waiting (activation_of t) (values_of depth t.stack.items) ∷ below_of below) m x c.args.answer c.in-Ok.next c.in-Resume.process c.in-Ok.is c.in-Resume.is)
    (d.ensures.row l line before now w m x (s (decided_so c.args.answer c.in-Ok.next c.in-Ok.is)) is)

pub returns-in-Err-clause-row : goal.returns-in-Err-clause-row
returns-in-Err-clause-row c l line before now o w m x i s is =
    let t = c.args.top.now in
    let below = c.args.below.now.items in
    let depth = c.args.depth in
    along l line c.args.storage.now below before now _ _ _ _ _
    (settled_fails line o w (waiting (activation_of t) (values_of depth t.stack.items) ∷ below_of below) m x c.args.answer c.in-Err.error c.in-Err.is)
    (refused l line c.args.storage.now t below before now o w m c.in-Err.error t.registers t.stack.items i)
