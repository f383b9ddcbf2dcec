use Rattle.std.proofs.Common.{arith}
use Rattle.object_machine.proofs.Payment.{ticks_off, words_off, words_on}
use Rattle.object_machine.proofs.paying.pay.Goals.{then-wanted-budget-via-then-wanted-budget, then-wanted-budget-via-else-wanted-budget+then-storage-budget}
use Rattle.object_machine.proofs.paying.pay.Goals as goal

pub returns-then-storage-limits-clause-row : goal.returns-then-storage-limits-clause-row
returns-then-storage-limits-clause-row c line before now o m s = ticks_off c.args.limits.now line c.args.wanted c.args.storage.now before now o m s (omega (arith, c.if-storage-limits.true))

pub returns-then-wanted-budget-clause-row : goal.returns-then-wanted-budget-clause-row
returns-then-wanted-budget-clause-row c line before now o m s =
    words_off c.args.limits.now line c.args.wanted c.args.storage.now before now o m s (omega (arith, c.if-storage-limits.false))
    (elim c.then-wanted-budget.branch [
      | then-wanted-budget-via-then-wanted-budget w ↦ omega (arith, w.if-wanted-budget.true, c.from-budget.ensures)
      | then-wanted-budget-via-else-wanted-budget+then-storage-budget w ↦ omega (arith, w.if-wanted-budget.false, w.if-storage-budget.true, c.from-budget.ensures)
    ])

pub returns-clause-row : goal.returns-clause-row
returns-clause-row c line before now o m s =
    words_on c.args.limits.now line c.args.wanted c.args.storage.now before now o m s (omega (arith, c.if-storage-limits.false))
    (omega (arith, c.if-wanted-budget.false, c.if-storage-budget.false, c.from-budget.ensures))
