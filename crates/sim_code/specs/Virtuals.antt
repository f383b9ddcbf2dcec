-- Virtual procedures: the procedure that matches one in the class of an object, and the test of how many actual parameters there are. The meaning and
-- the machine use the same words.
use Rattle.std.specs.Prelude.{ℕ, ◌==◌, if◌then◌else◌, List, [], ◌∷◌, Option, Some, None}
use Rattle.sim_base.specs.declared.run_error.RunError.TheVariants.{NoMatch, WrongNumberOfParameters}
use Rattle.sim_code.specs.declared.code.Match.{Match}
use Rattle.sim_code.specs.Classes.{class_numbered, class_of}
use Rattle.sim_code.specs.Code.{ClassOf, CodeOf}
use Rattle.sim_code.specs.Events.{choosing, having, stopping}
use Rattle.sim_code.specs.Machine.{Frames}
use Rattle.sim_code.specs.Outcome.{Run, RunFault, World}

-- ---- what meaning and machine share

abbrev pub with_match : {S : Type 0} → (line : ℕ) → Option ℕ → World → (ℕ → Run S) → Run S
with_match line None o go = stopping (RunFault NoMatch line) o
with_match line (Some k) o go = go k

-- goes on with the match of a virtual, or ends with E8 where there is none
unfoldable pub matching : {S : Type 0} → (line : ℕ) → Option (Option ℕ) → World → (ℕ → Run S) → Run S
matching line found o go = having found o (λ x. with_match line x o go)

-- goes on where there are as many actual parameters as formal ones, or ends with E10
unfoldable pub counting : {S : Type 0} → (line formals actuals : ℕ) → World → Run S → Run S
counting line formals actuals o r = choosing (formals == actuals) r (stopping (RunFault WrongNumberOfParameters line) o)

-- ---- the matches in a class of the code

-- the block of the procedure that matches a virtual, by the first entry for it
abbrev pub matched : (virtual : ℕ) → List Match → Option ℕ
matched v [] = None
matched v (x ∷ xs) = if x.virtual_number == v then Some x.block else matched v xs

abbrev pub matched_in : (virtual : ℕ) → Option ClassOf → Option (Option ℕ)
matched_in v None = None
matched_in v (Some x) = Some (matched v x.matches)

abbrev pub record_of : CodeOf → Option ℕ → Option ClassOf
record_of code None = None
record_of code (Some c) = class_numbered code c

-- the match in the class of an object or prefixed block
unfoldable pub match_found : CodeOf → Frames → (virtual object : ℕ) → Option (Option ℕ)
match_found code m v j = matched_in v (record_of code (class_of code m j))
