-- Two runs that are alike.
use Rattle.sim_code.specs.Outcome.{Ended, Ending, Going, NoRule, Run, World}

-- Both go on with related states, or both have ended; where the first has no rule the second may do as it likes.
pub data Alike {S M : Type 0} (R : S → M → Type 0) : Run S → Run M → Type 0 where
  going : {o : World} {s : S} {m : M} → R s m → Alike R (Going o s) (Going o m)
  ended : {o : World} {e : Ending} → Alike R (Ended o e) (Ended o e)
  unruled : {o : World} {q : Run M} → Alike R (Ended o NoRule) q
