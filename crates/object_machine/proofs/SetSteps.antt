-- Steps that read and write nothing.
use Rattle.std.proofs.Common.{ℕ, List, refl}
use Rattle.std.specs.Prelude.{Option}
use Rattle.object_machine.specs.declared.machine.Flow.{Flow}
use Rattle.object_machine.specs.declared.machine.Flow.TheVariants as flow
use Rattle.object_machine.specs.Named.{FlowEnds, InputEnds}
use Rattle.object_machine.specs.SetRows.{IsQuiet}

pub quiet_flow : {S : Type 0} (written : S → Option (List ℕ)) (faults : S → ℕ) (out : S) (f : Flow) → IsQuiet f → FlowEnds written faults out out f
quiet_flow written faults out flow.On h = refl
quiet_flow written faults out flow.Jumped h = refl
quiet_flow written faults out flow.Normal h = refl
quiet_flow written faults out flow.NoRule h = refl
quiet_flow written faults out flow.TickLimit h = refl
quiet_flow written faults out flow.Exhausted h = refl
quiet_flow written faults out (flow.ExhaustedAt place) h = refl
quiet_flow written faults out (flow.Fault e) h = refl
quiet_flow written faults out (flow.FaultAt e place) h = refl
quiet_flow written faults out flow.Memory h = refl
quiet_flow written faults out flow.WriteFault h = absurd h
quiet_flow written faults out flow.InputFault h = refl

pub quiet_input : (n : ℕ) (f : Flow) → IsQuiet f → InputEnds n n f
quiet_input n flow.On h = refl
quiet_input n flow.Jumped h = refl
quiet_input n flow.Normal h = refl
quiet_input n flow.NoRule h = refl
quiet_input n flow.TickLimit h = refl
quiet_input n flow.Exhausted h = refl
quiet_input n (flow.ExhaustedAt place) h = refl
quiet_input n (flow.Fault e) h = refl
quiet_input n (flow.FaultAt e place) h = refl
quiet_input n flow.Memory h = refl
quiet_input n flow.WriteFault h = refl
quiet_input n flow.InputFault h = absurd h
