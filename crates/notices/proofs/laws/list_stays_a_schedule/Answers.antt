use Rattle.notices.proofs.ScheduleLemmas.{IsSchedule-removed, IsSchedule-placed_at, IsSchedule-placed_direct, IsSchedule-placed_near}
use Rattle.notices.proofs.laws.list_stays_a_schedule.Goals as goal

pub returns-clause-removed : goal.returns-clause-removed
returns-clause-removed c = λ l room x s. IsSchedule-removed x l room s

pub returns-clause-at : goal.returns-clause-at
returns-clause-at c = λ l room x t prior s h. IsSchedule-placed_at t prior x l room s h

pub returns-clause-direct : goal.returns-clause-direct
returns-clause-direct c = λ l room x s h. IsSchedule-placed_direct x l room s h

pub returns-clause-near : goal.returns-clause-near
returns-clause-near c = λ l room x y before s h. IsSchedule-placed_near before y x l room s h
