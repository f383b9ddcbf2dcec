-- Where a run takes nothing of its input. `inimage`, by whichever name it comes, takes a line, or meets the end, or refuses a line that is
-- longer than the image. So a run that has done none of these has read nothing.
use Rattle.std.specs.Prelude.{◌≡◌, ℕ, false, List, Option, None}
use Rattle.sim_base.specs.declared.limits.Limits.{Limits}
use Rattle.sim_base.specs.declared.run_error.RunError.TheVariants.{InputLineTooLong}
use Rattle.sim_values.specs.declared.standard.Standard.{Standard}
use Rattle.sim_values.specs.declared.value.TextVal.{TextVal}
use Rattle.sim_values.specs.Plain.{Plain}
use Rattle.sim_values.specs.Standard.{standard_effect}
use Rattle.sim_code.specs.Outcome.{Ended, Going, Run, RunFault, World}
use Rattle.sim_code.specs.Events.{having}
use Rattle.sim_code.specs.Machine.{Machine, Value}
use Rattle.standard_calls.specs.Calls.{going_on}
use Rattle.standard_calls.specs.Performed.{Agrees, Held, Parts, standard_row}

-- Of an input of these bytes a run has taken nothing so far: all of them are left, the end was not met, and it has not ended at a line that
-- is too long.
abbrev pub HasAll : {S : Type 0} → (input : List ℕ) → Run S → Type 0
HasAll input (Going o s) = (o.store.left ≡ input) × (o.store.endfile ≡ false)
HasAll input (Ended o e) = (o.store.left ≡ input) × (o.store.endfile ≡ false) × ((line : ℕ) → e ≡ RunFault InputLineTooLong line → ⊥)

-- what comes behind a name that moves no text gives nothing back to the input
abbrev pub GivesNothingBack : (World → Option TextVal → List Value → Run Machine) → Type 0
GivesNothingBack go = (o : World) (values : List Value) (input : List ℕ) → HasAll input (go o None values) → (o.store.left ≡ input) × (o.store.endfile ≡ false)

-- A name on its operands leaves a source as it is where it takes nothing of the input, in whatever world these parts stand.
unfoldable pub CallTakes : {S : Type 0} → (budget : ℕ) → Standard → List Plain → Parts → (old new : S) → Type 0
CallTakes budget name vs parts old new =
    (l : Limits) (line : ℕ) (o : World) (go : World → Option TextVal → List Value → Run Machine) (rest : List Value) → l.storage ≡ budget → Agrees l o parts → GivesNothingBack go
    → HasAll o.store.left (having (standard_effect name vs o.store) o (going_on l line o go rest)) → new ≡ old

-- the same of its row
unfoldable pub RowTakes : {S : Type 0} → (budget : ℕ) → Standard → Held → Parts → (old new : S) → Type 0
RowTakes budget name stack parts old new =
    (l : Limits) (line : ℕ) (o : World) (go : World → Option TextVal → List Value → Run Machine) → l.storage ≡ budget → Agrees l o parts → GivesNothingBack go
    → HasAll o.store.left (standard_row l line name stack o go) → new ≡ old
