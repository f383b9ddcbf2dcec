-- What is written all at once, at the end.
use Rattle.std.proofs.Common.{◌≡◌, true, Ok, subst, sym}
use Rattle.sim_driver.specs.OutputAfter.{WritesAtTheEnd, WrittenAtTheEnd}
use Rattle.sim_driver.specs.Speaking.{needs_memory}
use Rattle.sim_driver.specs.Status.{status_of}
use Rattle.sim_driver.specs.declared.status.Ending.{Ending}
use Rattle.sim_driver.specs.declared.status.Status.{Status}
use Rattle.sim_driver.specs.declared.status.Status.TheVariants.{Normal, WriteFault}

of_ending : {S : Type 0} (old new : S) (ending : Ending) → WritesAtTheEnd old new (Ok ending) → WrittenAtTheEnd old new (status_of ending)
of_ending old new Ending.Normal is = tt
of_ending old new (Ending.Refused rule line) is = is
of_ending old new (Ending.RunFault error line) is = is
of_ending old new (Ending.StorageExhausted line used budget wanted) is = is
of_ending old new (Ending.TickLimit ticks) is = is

-- so it was by the status of an ending
pub ended : {S : Type 0} (old new : S) (ending : Ending) (status : Status) → status ≡ status_of ending → WritesAtTheEnd old new (Ok ending) → WrittenAtTheEnd old new status
ended old new ending status same is = subst (λ (s : Status). WrittenAtTheEnd old new s) (sym same) (of_ending old new ending is)

-- a status whose line takes memory leaves the output as it was
pub unwritten : {S : Type 0} (old new : S) (status : Status) → needs_memory status ≡ true → WrittenAtTheEnd old new status → new ≡ old
unwritten old new Normal needs is = absurd (cc needs)
unwritten old new WriteFault needs is = absurd (cc needs)
unwritten old new (Status.Refused rule line) needs is = is
unwritten old new (Status.RunFault error line) needs is = is
unwritten old new (Status.StorageExhausted line used budget wanted) needs is = is
unwritten old new (Status.TickLimit ticks) needs is = is
unwritten old new Status.Usage needs is = is
unwritten old new Status.FileFault needs is = is
unwritten old new Status.InputFault needs is = is
unwritten old new Status.Memory needs is = is
unwritten old new (Status.BadCode at) needs is = is
unwritten old new (Status.CodeRefused rule place) needs is = is
