-- Scheduling (SIMULA Standard, SIMULATION): each procedure as an equation on the list of event notices. The first notice is that of
-- the current process, at the present time; so no procedure meets an empty list.
use Rattle.std.specs.Prelude.{ℕ, ℤ, pos, ◌+ℤ◌, ◌^◌, Bool, true, false, not, ◌&&◌, ◌||◌, ◌==◌, ◌<◌, int_le, List, [], ◌∷◌, Option, Some, None, Result, Ok, Err, if◌then◌else◌}
use Rattle.std.specs.Int.{int_max}
use Rattle.sim_base.specs.declared.run_error.RunError.{RunError}
use Rattle.sim_base.specs.declared.run_error.RunError.TheVariants.{OutsideQualification, NoNoticeLeft, TimeTooLarge, NoEventTime, OtherSimulation}
use Rattle.notices.specs.declared.notice.Notice.{Notice}
use Rattle.notices.specs.declared.notice.ProcessNo.{ProcessNo}
use Rattle.notices.specs.declared.activation.Activation.{Activation}
use Rattle.notices.specs.declared.activation.Placement.{Placement}
use Rattle.notices.specs.declared.activation.Placement.TheVariants.{Direct, At, Delay, Before, After}
use Rattle.notices.specs.declared.activation.ProcessRef.{ProcessRef}
use Rattle.notices.specs.declared.activation.ProcessRef.TheVariants.{NoProcess, OfAnother, OfThis}
use Rattle.notices.specs.declared.next.Next.{Next}
use Rattle.notices.specs.declared.next.Next.TheVariants.{Stay, Resume}
use Rattle.notices.specs.Notices.{has_notice, event_time, next_process, removed, placed_at, placed_direct, placed_near}

-- ---- what the list tells

-- `time`: that of the first notice
abbrev pub time : List Notice → ℤ
time [] = pos 0
time (n ∷ _) = n.time

-- `current`: the process of the first notice
abbrev pub current : List Notice → Option ProcessNo
current [] = None
current (n ∷ _) = Some n.process

-- `main`: the main program of the block
abbrev pub main : ℕ
main = 0

-- `idle`: the process has no notice
abbrev pub idle : ℕ → List Notice → Bool
idle x l = not (has_notice x l)

-- `evtime`: the time of the notice of a process, which is E52 where it has none
abbrev pub evtime_of : Option ℤ → Result ℤ RunError
evtime_of None = Err NoEventTime
evtime_of (Some t) = Ok t

abbrev pub evtime : ℕ → List Notice → Result ℤ RunError
evtime x l = evtime_of (event_time x l)

-- `nextev`: the process of the next notice, or `none`
abbrev pub nextev : ℕ → List Notice → Option ProcessNo
nextev x l = next_process x l

-- ---- references

-- Tests of an object, by which a simulation block sees a reference to it: whether it is in the class `process`; whether it belongs
-- to this block; its number there; and whether its body has ended.
pub record ProcessTests : Type 0 where
  pub is_process : ℕ → Bool
  pub is_of_block : ℕ → Bool
  pub number : ℕ → ℕ
  pub has_ended : ℕ → Bool

abbrev pub seen_as : ProcessTests → ℕ → ProcessRef
seen_as tests x =
    if tests.is_process x then if tests.is_of_block x then OfThis (record { 0 = tests.number x }) (tests.has_ended x) else OfAnother else NoProcess

-- the process of this block, and whether it is `terminated`
abbrev pub number_of : Option ProcessRef → Option ProcessNo
number_of (Some (OfThis x ended)) = Some x
number_of (Some NoProcess) = None
number_of (Some OfAnother) = None
number_of None = None

abbrev pub terminated : Option ProcessRef → Bool
terminated (Some (OfThis x ended)) = ended
terminated (Some NoProcess) = false
terminated (Some OfAnother) = false
terminated None = false

abbrev pub is_no_process : Option ProcessRef → Bool
is_no_process (Some NoProcess) = true
is_no_process (Some (OfThis x ended)) = false
is_no_process (Some OfAnother) = false
is_no_process None = false

abbrev pub is_of_another : Option ProcessRef → Bool
is_of_another (Some OfAnother) = true
is_of_another (Some (OfThis x ended)) = false
is_of_another (Some NoProcess) = false
is_of_another None = false

-- there is room for a notice of the process
abbrev pub HasRoom : ℕ → ProcessRef → Type 0
HasRoom room (OfThis x ended) = x.0 < room
HasRoom room NoProcess = Unit {0}
HasRoom room OfAnother = Unit {0}

-- The references that a procedure is given are tested before anything else: first both for E7, then both for E53.
abbrev pub tested : Option ProcessRef → Option ProcessRef → Result (Unit {0}) RunError
tested x y =
    if is_no_process x || is_no_process y then Err OutsideQualification else if is_of_another x || is_of_another y then Err OtherSimulation else Ok tt

abbrev pub after_tests : Result (Unit {0}) RunError → Result (List Notice) RunError → Result (List Notice) RunError
after_tests (Ok _) new = new
after_tests (Err e) new = Err e

-- ---- the procedures: the list that each leaves, or the error that refuses it

-- t time units after a time, at that time itself where t is not above 0
abbrev pub later_by : ℤ → ℤ → ℤ
later_by t now = int_max (now +ℤ t) now

-- a time above the greatest one, 2^63 - 1
abbrev pub is_too_late : ℤ → Bool
is_too_late t = int_le (pos (2 ^ 63)) t

-- a notice of x at time t, which is E51 where the time is too large
abbrev pub scheduled_at : ℤ → Bool → ℕ → List Notice → Result (List Notice) RunError
scheduled_at t prior x l = if is_too_late t then Err TimeTooLarge else Ok (placed_at t prior x l)

-- `hold(t)`: t is added to the time of the first notice, where it is above 0, and the notice moves after all
-- notices of its time or less
abbrev pub held : ℤ → List Notice → Result (List Notice) RunError
held t [] = Ok []
held t (n ∷ l) = scheduled_at (later_by t n.time) false n.process.0 (n ∷ l)

-- `passivate`: the first notice goes
abbrev pub passivated : List Notice → List Notice
passivated [] = []
passivated (_ ∷ l) = l

-- `cancel(x)`: the notice of x goes; of `none`, nothing is done
abbrev pub without_process : Option ProcessNo → List Notice → List Notice
without_process None l = l
without_process (Some x) l = removed x.0 l

abbrev pub cancelled : Option ProcessRef → List Notice → Result (List Notice) RunError
cancelled x l = after_tests (tested x None) (Ok (without_process (number_of x) l))

-- `before y` and `after y`; where y is none, x is left without a notice
abbrev pub placed_beside_process : Bool → Option ProcessNo → ℕ → List Notice → List Notice
placed_beside_process before None x l = removed x l
placed_beside_process before (Some y) x l = placed_near before y.0 x l

-- the forms of an activation; a time in the past counts as the present one
abbrev pub scheduled : Placement → ℕ → List Notice → Result (List Notice) RunError
scheduled Direct x l = Ok (placed_direct x l)
scheduled (At t prior) x l = Ok (placed_at (int_max t (time l)) prior x l)
scheduled (Delay t prior) x l = scheduled_at (later_by t (time l)) prior x l
scheduled (Before y) x l = Ok (placed_beside_process true (number_of y) x l)
scheduled (After y) x l = Ok (placed_beside_process false (number_of y) x l)

-- the reference after `before` or `after`
abbrev pub operand_of : Placement → Option ProcessRef
operand_of Direct = None
operand_of (At t prior) = None
operand_of (Delay t prior) = None
operand_of (Before y) = y
operand_of (After y) = y

-- An activation does nothing on a terminated process, nor, unless it is a `reactivate`, on one that has a notice; nor on `none`.
abbrev pub does_nothing : ℕ → Bool → Bool → List Notice → Bool
does_nothing x ended again l = ended || (has_notice x l && not again)

abbrev pub activated_reference : ProcessRef → Bool → Placement → List Notice → Result (List Notice) RunError
activated_reference (OfThis x ended) again placement l = if does_nothing x.0 ended again l then Ok l else scheduled placement x.0 l
activated_reference NoProcess again placement l = Ok l
activated_reference OfAnother again placement l = Ok l

abbrev pub activated_process : Option ProcessRef → Bool → Placement → List Notice → Result (List Notice) RunError
activated_process None again placement l = Ok l
activated_process (Some reference) again placement l = activated_reference reference again placement l

-- An activation, in this order: the tests of its references, E7 and E53; whether it does nothing; E51; the place of the notice. What
-- follows is the same after every procedure: E50, and who goes on.
abbrev pub activated : Activation → List Notice → Result (List Notice) RunError
activated a l = after_tests (tested a.process (operand_of a.placement)) (activated_process a.process a.again a.placement l)

-- ---- what a procedure leaves, and who goes on

-- a procedure that is refused leaves the list as it was
abbrev pub list_after : List Notice → Result (List Notice) RunError → List Notice
list_after old (Ok new) = new
list_after old (Err _) = old

-- whether the first notice is that of process x
abbrev pub is_current : ℕ → List Notice → Bool
is_current x [] = false
is_current x (n ∷ _) = x == n.process.0

-- Where no notice is left, E50. Control stays where it is exactly where the first process is as before.
abbrev pub next_of : List Notice → List Notice → Result Next RunError
next_of old [] = Err NoNoticeLeft
next_of old (n ∷ _) = Ok (if is_current n.process.0 old then Stay else Resume n.process)

-- the error of a refused procedure, or the answer by the lists
abbrev pub answer_of : List Notice → Result (List Notice) RunError → Result Next RunError
answer_of old (Ok new) = next_of old new
answer_of old (Err e) = Err e
