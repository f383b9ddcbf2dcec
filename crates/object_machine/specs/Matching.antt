-- Matches of virtuals, and procedures in hand.
use Rattle.std.specs.Prelude.{◌≡◌, ℕ, ℤ, List, [], Option, Some, None}
use Rattle.sim_code.specs.Events.{having, no_rule, pop_many, popping, when}
use Rattle.sim_code.specs.Instances.{is_live}
use Rattle.sim_code.specs.Machine.{Frames, Machine, Value, index, procedure_in}
use Rattle.sim_code.specs.Outcome.{Run, World}
use Rattle.frame_arena.specs.declared.slot.Slot.{Slot}
use Rattle.frame_arena.specs.Stacks.{values_from, values_of}
use Rattle.object_machine.specs.declared.virtuals.MatchFound.{MatchFound}
use Rattle.object_machine.specs.declared.virtuals.MatchFound.TheVariants as found
use Rattle.object_machine.specs.declared.virtuals.ProcedureInHand.{ProcedureInHand}
use Rattle.object_machine.specs.declared.virtuals.ValueCall.{ValueCall}

-- the match in a class, if there is a class
abbrev pub found_in : MatchFound → Option (Option ℕ)
found_in (found.Block k) = Some (Some k)
found_in found.NoMatch = Some None
found_in found.NoClass = None

-- the procedure that a value is, with the frame in which it is declared
abbrev pub pair_of : Option ProcedureInHand → Option (ℕ × ℕ)
pair_of None = None
pair_of (Some q) = Some (q.block, q.parent.stamp)

abbrev pub IsProcedure : Option ProcedureInHand → Value → Type 0
IsProcedure r v = pair_of r ≡ procedure_in v

-- ---- what a call of a procedure in hand finds on the operand stack

-- as many values, and below them the procedure, the frame of which was not given back
abbrev pub value_called : Frames → ℤ → List Value → World → (List Value → List Value → ℕ × ℕ → Run Machine) → Run Machine
value_called m n stack o go =
    index n o (λ n. pop_many n [] stack o (λ values stack. popping stack o (λ v stack. having (procedure_in v) o (λ q. when (is_live m q.1) o (go values stack q)))))

abbrev pub with_value_call : Option ValueCall → List Slot → World → (List Value → List Value → ℕ × ℕ → Run Machine) → Run Machine
with_value_call None stack o go = no_rule o
with_value_call (Some c) stack o go = go (values_from stack c.actuals.at c.actuals.count) (values_of c.actuals.under stack) (c.block, c.actuals.parent.stamp)
