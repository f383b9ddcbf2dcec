use Rattle.std.proofs.Common.{subst}
use Rattle.object_machine.specs.Settled.{named}
use Rattle.object_machine.specs.Standing.{Obeys}
use Rattle.object_machine.proofs.names.whole_apart.Goals as goal

pub returns-clause-row : goal.returns-clause-row
returns-clause-row c line below now =
    let done = c.whole_standard-flow in
    let l = c.args.limits.now in
    let r = c.args.regs.now in
    subst (λ t. Obeys done.result l line (λ o m a b. named l line c.args.name o m a b) c.args.storage.now done.new.storage r (record { pc = done.new.regs.pc; home = r.home; thunk = t; depth = done.new.regs.depth; stage = r.stage }) c.args.stack.now done.new.stack below below now now)
    done.ensures.thunk
    (subst (λ g. Obeys done.result l line (λ o m a b. named l line c.args.name o m a b) c.args.storage.now done.new.storage r (record { pc = done.new.regs.pc; home = r.home; thunk = done.new.regs.thunk; depth = done.new.regs.depth; stage = g }) c.args.stack.now done.new.stack below below now now)
    done.ensures.stage
    (subst (λ h. Obeys done.result l line (λ o m a b. named l line c.args.name o m a b) c.args.storage.now done.new.storage r (record { pc = done.new.regs.pc; home = h; thunk = done.new.regs.thunk; depth = done.new.regs.depth; stage = done.new.regs.stage }) c.args.stack.now done.new.stack below below now now)
    done.ensures.home (done.ensures.row line below now)))
