-- An output that failed in a later call failed in the whole.
use Rattle.std.proofs.Common.{◌≡◌, ℕ, List, Option, Result, Ok, Err, ◌∙◌, sym, subst, IsErrAnd}
use Rattle.sim_ports.specs.Faults.{StopsAt}
use Rattle.basic_io.specs.Output.{OutputStops}
use Rattle.basic_io.specs.declared.fault.IoFault.{IoFault}
use Rattle.basic_io.specs.declared.fault.IoFault.TheVariants as fault

-- after calls in which no write failed
pub stops_later : {S : Type 0} (written : S → Option (List ℕ)) (faults : S → ℕ) (old mid new : S) → faults mid ≡ faults old → StopsAt written faults mid new → StopsAt written faults old new
stops_later written faults old mid new same stops = record { last = stops.last; steady = stops.steady ∙ same; kept = stops.kept; later = stops.later; rose = stops.rose }

stops_by : {S : Type 0} (A B : Type 0) (written : S → Option (List ℕ)) (faults : S → ℕ) (old mid new : S) (e : IoFault) → faults mid ≡ faults old
    → OutputStops {A = A} written faults mid new (Err e) → OutputStops {A = B} written faults old new (Err e)
stops_by A B written faults old mid new (fault.Run e) same stops = tt
stops_by A B written faults old mid new fault.InputFault same stops = tt
stops_by A B written faults old mid new fault.WriteFault same stops = stops_later written faults old mid new same stops

-- the same of a fault that is handed on
pub stops_handed : {S : Type 0} (A B : Type 0) (written : S → Option (List ℕ)) (faults : S → ℕ) (old mid new : S) (e : IoFault) (r : Result B IoFault) → IsErrAnd r (λ f. f ≡ e) → faults mid ≡ faults old
    → OutputStops {A = A} written faults mid new (Err e) → OutputStops written faults old new r
stops_handed A B written faults old mid new e (Ok x) is same stops = absurd is
stops_handed A B written faults old mid new e (Err f) is same stops = subst (λ d. OutputStops {A = B} written faults old new (Err d)) (sym is) (stops_by A B written faults old mid new e same stops)
