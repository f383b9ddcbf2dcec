-- How a row goes on with what an operator on the last values answered.
use Rattle.std.specs.Prelude.{◌≡◌, ℕ, Bool, true, false, List, Option, Some, None, Ok, Err}
use Rattle.sim_values.specs.declared.operators.Dyadic.{Dyadic}
use Rattle.sim_values.specs.declared.operators.Dyadic.TheVariants as dyadic
use Rattle.sim_values.specs.Operators.{Answer}
use Rattle.sim_values.specs.Plain.{Plain}
use Rattle.sim_code.specs.Outcome.{World, Run, RunFault}
use Rattle.sim_code.specs.Events.{no_rule, stopping}
use Rattle.sim_code.specs.Machine.{Machine, Value, plain}
use Rattle.frame_arena.specs.declared.slot.Slot.{Slot}
use Rattle.frame_arena.specs.declared.operators.Applied.{Applied}
use Rattle.frame_arena.specs.declared.operators.Applied.TheVariants as applied
use Rattle.frame_arena.specs.declared.operators.Computed.{Computed}
use Rattle.frame_arena.specs.declared.operators.Computed.TheVariants as computed
use Rattle.frame_arena.specs.Arrays.{names_array}
use Rattle.frame_arena.specs.Frames.{names_frame}
use Rattle.frame_arena.specs.Slots.{is_plain, value_of}
use Rattle.frame_arena.specs.Stacks.{values_of}

-- goes on with the values, of which the number is given; or there is no rule; or there is an error at a line
abbrev pub with_applied : Applied → (line : ℕ) → List Slot → World → (List Value → Run Machine) → Run Machine
with_applied (applied.Depth depth) line stack o go = go (values_of depth stack)
with_applied applied.NoRule line stack o go = no_rule o
with_applied (applied.Fault e) line stack o go = stopping (RunFault e line) o

-- a fact about the number of values
abbrev pub IfDepth : Applied → (ℕ → Type 0) → Type 0
IfDepth (applied.Depth depth) P = P depth
IfDepth _ P = Unit {0}

-- an operator that works on no text
abbrev pub is_on_texts : Dyadic → Bool
is_on_texts (dyadic.CompareTexts r) = true
is_on_texts dyadic.SameText = true
is_on_texts _ = false

-- ---- what an operator makes of values

abbrev pub answer_by : Option Plain → (Plain → Answer) → Answer
answer_by None f = None
answer_by (Some p) f = f p

-- of one value, of two, and of three, of which each must be plain
abbrev pub on_one : (Plain → Answer) → Value → Answer
on_one f x = answer_by (plain x) f

abbrev pub on_two : (Plain → Plain → Answer) → Value → Value → Answer
on_two f x y = answer_by (plain y) (λ q. answer_by (plain x) (λ p. f p q))

abbrev pub on_three : (Plain → Plain → Plain → Answer) → Value → Value → Value → Answer
on_three f x y z = answer_by (plain z) (λ r. answer_by (plain y) (λ q. answer_by (plain x) (λ p. f p q r)))

abbrev pub answer_of_plain : Option Plain → Answer
answer_of_plain None = None
answer_of_plain (Some p) = Some (Ok p)

-- what was computed, as an answer
abbrev pub answer_in : Computed → Answer
answer_in (computed.Value s) = answer_of_plain (plain (value_of s))
answer_in computed.NoRule = None
answer_in (computed.Fault e) = Some (Err e)

-- a value that was computed is plain, and refers to no frame and no array
abbrev pub IsScalar : Computed → Type 0
IsScalar (computed.Value s) = (names_frame s.kind ≡ false) × (names_array s.kind ≡ false) × (is_plain (value_of s) ≡ true)
IsScalar _ = Unit {0}
