-- Small schedules: who is current, and when, after each of a list of calls.
use Rattle.std.specs.Prelude.{ℕ, ℤ, pos, Bool, false, List, [], ◌∷◌, Option, Some, Result, Ok, Err}
use Rattle.sim_base.specs.declared.run_error.RunError.{RunError}
use Rattle.sim_base.specs.declared.run_error.RunError.TheVariants.{NoNoticeLeft}
use Rattle.notices.specs.declared.notice.Notice.{Notice}
use Rattle.notices.specs.declared.activation.Activation.{Activation}
use Rattle.notices.specs.declared.activation.Placement.{Placement}
use Rattle.notices.specs.declared.activation.ProcessRef.{ProcessRef}
use Rattle.notices.specs.declared.activation.ProcessRef.TheVariants.{OfThis}
use Rattle.notices.specs.Scheduling.{main, held, passivated, cancelled, activated}

pub data Call : Type 0 where
  Hold : ℤ → Call
  Passivate : Call
  Cancel : Option ProcessRef → Call
  Activate : Activation → Call

-- a process of the block that has not ended
abbrev pub process : ℕ → Option ProcessRef
process x = Some (OfThis (record { 0 = x }) false)

abbrev pub activation : Bool → ℕ → Placement → Call
activation again x placement = Activate (record { process = process x; again = again; placement = placement })

abbrev pub after_call : List Notice → Call → Result (List Notice) RunError
after_call l (Hold t) = held t l
after_call l Passivate = Ok (passivated l)
after_call l (Cancel x) = cancelled x l
after_call l (Activate a) = activated a l

-- the time and the current process after each call, up to the first error
abbrev pub currents_after : Result (List Notice) RunError → List Call → List (Result (ℤ × ℕ) RunError)
currents_after (Err e) calls = Err e ∷ []
currents_after (Ok []) calls = Err NoNoticeLeft ∷ []
currents_after (Ok (n ∷ l)) [] = Ok (n.time, n.process.0) ∷ []
currents_after (Ok (n ∷ l)) (call ∷ calls) = Ok (n.time, n.process.0) ∷ currents_after (after_call (n ∷ l) call) calls

-- a simulation begins with the notice of its main program at time 0
abbrev pub currents_of : List Call → List (Result (ℤ × ℕ) RunError)
currents_of calls = currents_after (Ok (record { time = pos 0; process = record { 0 = main } } ∷ [])) calls
