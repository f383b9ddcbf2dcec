-- Transfers of control among the components.
use Rattle.std.proofs.Common.{ℕ, List, [], ◌∷◌, Option, Some, None, refl}
use Rattle.std.specs.Prelude.{Result, Ok, Err}
use Rattle.sim_base.specs.declared.run_error.RunError.{RunError}
use Rattle.sim_chains.specs.Components.{Components, Standing, call, detach, resume}
use Rattle.sim_code.specs.Outcome.{World}
use Rattle.sim_code.specs.Events.{computing, having}
use Rattle.sim_code.specs.Instances.{Memory, going_below, system_head}
use Rattle.sim_code.specs.Transfers.{GoesAs, GoesOn, TransfersAsComponents, before, transferring}

module _ (C A : Type 0) (o : World) (m : Memory C A) where
  pub goes_on : (operating : List A) (standings : List (Standing A)) → GoesOn o m (record { operating = operating; standings = standings }) operating (going_below o operating (record m { standings = standings }))
  goes_on [] standings = refl
  goes_on (a ∷ below) standings = (record { chain = a ∷ below; memory = record m { standings = standings } }, refl, refl, refl)

  pub goes_as : (line : ℕ) (r : Result (Components A) RunError) → GoesAs o line m r (computing line r o (λ c. going_below o c.operating (record m { standings = c.standings })))
  unfolding computing
  goes_as line (Ok c) = goes_on c.operating c.standings
  goes_as line (Err e) = refl

pub transfers_move : (C A : Type 0) (owner : A → Option ℕ) (line : ℕ) (o : World) (chain : List A) (m : Memory C A) → TransfersAsComponents owner line o chain m
unfolding transferring having
transfers_move C A owner line o chain m = record {
  detaches = λ x. goes_as C A o m line (detach owner (system_head m) (before chain m) x);
  calls = λ y. goes_as C A o m line (call (before chain m) (Some y));
  calls_none = goes_as C A o m line (call (before chain m) None);
  resumes = λ y. goes_as C A o m line (resume owner (system_head m) (before chain m) (Some y));
  resumes_none = goes_as C A o m line (resume owner (system_head m) (before chain m) None);
}
