-- Actual parameters that are held against formal ones.
use Rattle.std.specs.Prelude.{ℕ, Bool, List, length, ◌||◌, ◌==◌}
use Rattle.sim_code.specs.declared.code.CodeActual.{CodeActual}
use Rattle.sim_code.specs.declared.code.CodeFormal.{CodeFormal}
use Rattle.sim_code.specs.Code.{CodeOf}
use Rattle.sim_code.specs.Events.{having}
use Rattle.sim_code.specs.Formals.{all_fit, each, holders_agree, is_within, suiting}
use Rattle.sim_code.specs.Machine.{Activation, Frames, Machine, on}
use Rattle.sim_code.specs.Outcome.{Run, World}
use Rattle.sim_code.specs.Virtuals.{counting}

-- one of two classes is in front of the other or is the same, or there is no class that is given
abbrev pub on_one_chain : CodeOf → (wanted given : ℕ) → Bool
on_one_chain code wanted given = given == 0 || is_within code given wanted || is_within code wanted given

-- the run goes on where the parameters of a procedure that is declared in a frame fit
abbrev pub held_against : CodeOf → World → Frames → Activation → List Activation → (line parent : ℕ) → List CodeFormal → List CodeActual → Run Machine
held_against code o m a below line parent fs xs =
    counting line (length fs) (length xs) o (suiting line (all_fit code fs xs) o (having (each (holders_agree code m parent a.home) fs xs) o (λ agree. suiting line agree o (on o m a a.stack below))))
