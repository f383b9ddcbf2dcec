-- Small runs: what a list of events makes of the operating chain. The activations are the instances themselves, numbered in the
-- order of entry, and the program's block, 0, is the system head of every object.
use Rattle.std.specs.Prelude.{ℕ, List, [], ◌∷◌, Option, Some, None, Result, Ok, Err, length}
use Rattle.sim_base.specs.declared.run_error.RunError.{RunError}
use Rattle.sim_chains.specs.Components.{Components, NoObject, AttachedObject, entered, left, call, resume, detach, finish}

pub data Event : Type 0 where
  -- a block or a procedure is entered or left
  Enter : Event
  Leave : Event
  -- an object is generated, or ends
  New : Event
  End : ℕ → Event
  Call : Option ℕ → Event
  Detach : ℕ → Event
  Resume : Option ℕ → Event

abbrev pub program : ℕ → ℕ
program x = 0

abbrev pub after_event : Components ℕ → Event → Result (Components ℕ) RunError
after_event c Enter = Ok (entered (length c.standings) (NoObject None) c)
after_event c Leave = Ok (left c)
after_event c New = Ok (entered (length c.standings) AttachedObject c)
after_event c (End x) = Ok (finish (λ x. Some x) program c x)
after_event c (Call x) = call c x
after_event c (Detach x) = detach (λ x. Some x) program c x
after_event c (Resume x) = resume (λ x. Some x) program c x

-- the operating chain after each event, up to the first error
abbrev pub chains_after : Result (Components ℕ) RunError → List Event → List (Result (List ℕ) RunError)
chains_after (Err e) events = Err e ∷ []
chains_after (Ok c) [] = Ok c.operating ∷ []
chains_after (Ok c) (event ∷ events) = Ok c.operating ∷ chains_after (after_event c event) events

-- a program begins with its block on the chain
abbrev pub chains_of : List Event → List (Result (List ℕ) RunError)
chains_of events = chains_after (Ok (record { operating = 0 ∷ []; standings = NoObject None ∷ [] })) events
