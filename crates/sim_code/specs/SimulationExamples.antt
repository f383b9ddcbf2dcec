-- Small codes with simulations. The code of the classes is on line 1, but for the end of a process, which is on line 2, and for what a process does,
-- which is on line 3. The lines of the program count from 4, one for each instruction.
use Rattle.std.specs.Prelude.{◌≡◌, ℕ, ◌+◌, pos, negsuc, true, false, List, [], ◌∷◌, ◌++◌, length, Some, None, codes}
use Rattle.sim_base.specs.declared.run_error.RunError.TheVariants.{ComponentIsAttached, ComponentIsTerminated, NoEventTime, NoNoticeLeft, ObjectNotOperating, OtherSimulation, OutsideQualification, ResumedIsAttached, TimeTooLarge}
use Rattle.simset.specs.Sets.{Link}
use Rattle.sim_values.specs.Plain.{MainOf}
use Rattle.sim_code.specs.declared.code.BlockKind.TheVariants as kind
use Rattle.sim_code.specs.declared.code.CodeType.{CodeType}
use Rattle.sim_code.specs.declared.code.CodeType.TheVariants as type
use Rattle.sim_code.specs.declared.instr.Instr.{Instr}
use Rattle.sim_code.specs.declared.instr.Instr.TheVariants as i
use Rattle.sim_code.specs.declared.instr.Lined.{Lined}
use Rattle.sim_code.specs.Code.{BlockOf, ClassOf, CodeOf}
use Rattle.sim_code.specs.Outcome.{Normal, RunFault}
use Rattle.sim_code.specs.Machine.{Frames}
use Rattle.sim_code.specs.Classes.{is_in, is_of, process_class}
use Rattle.sim_code.specs.Levels.{linkage_of_class}
use Rattle.sim_code.specs.Examples.{at, block, limits, main, seen, shows, stops_at}
use Rattle.sim_code.specs.ClassExamples.{by_value, class, code, instance, objects_with}
use Rattle.sim_code.specs.SetExamples.{level_code, lines_from, marked, on_line_one, shown_number}

-- ---- a simulation block and its classes

-- Class 1 is linkage; link and head, 2 and 3, have it in front; process, 4, has link in front; 5 is that of the simulation block, and 6 is a class of
-- processes with a parameter. The blocks of the objects follow that of the simulation, which has this number and level.
abbrev pub simulation : (level : ℕ) → List CodeType → (entry : ℕ) → BlockOf
simulation level types entry = record (block kind.Prefixed level (length types) type.Nothing types 3 entry) { class = 5; class_free = false }

abbrev pub objects_at : (level class mark : ℕ) → BlockOf
objects_at level c mark = record (marked c mark) { level = level }

abbrev pub object_blocks : (level : ℕ) → List BlockOf
object_blocks level = objects_at level 1 1 ∷ objects_at level 2 2 ∷ objects_at level 3 3 ∷ objects_at level 4 4 ∷ record (objects_with 6 (type.Integer ∷ []) (by_value ∷ [])) { level = level; room = 3 } ∷ []

abbrev pub of_processes : ClassOf → ClassOf
of_processes x = record x { process = true }

abbrev pub classes : (number own_end declarations last : ℕ) → List ClassOf
classes k own_end declarations last =
    class 0 (k + 1) 0 1 2 ∷ class 1 (k + 2) 3 4 5 ∷ class 1 (k + 3) 3 4 5 ∷ of_processes (class 2 (k + 4) 6 7 10) ∷ class 0 k declarations (declarations + 1) last ∷ of_processes (class 4 (k + 5) 13 14 own_end) ∷ []

-- Levels 0 to 2, of which the last is that of process here, and level 3 with what the processes of class 6 do; then the code of the block.
abbrev pub level_of_process : (level : ℕ) → List Lined
level_of_process n = on_line_one (i.NextDecl (pos 2) ∷ i.This (pos (n + 1)) ∷ i.Detach ∷ i.Inner (pos 2) ∷ i.Link (pos n) ∷ []) ++ at 2 (i.Std (pos 69)) ∷ at 1 (i.EndLevel (pos 2)) ∷ []

abbrev pub on_line_three : List Instr → List Lined
on_line_three [] = []
on_line_three (x ∷ xs) = at 3 x ∷ on_line_three xs

abbrev pub with_levels : (level : ℕ) → (body program : List Instr) → List Lined
with_levels n body program =
    on_line_one (level_code 0 ++ level_code 1) ++ level_of_process n ++ at 1 (i.NextDecl (pos 3)) ∷ on_line_three body ++ at 1 (i.Inner (pos 3)) ∷ at 1 (i.EndLevel (pos 3))
    ∷ at 1 (i.NextDecl (pos 0)) ∷ lines_from 4 program ++ at 1 (i.Inner (pos 0)) ∷ at 1 (i.EndLevel (pos 0)) ∷ []

-- where the declarations of the block begin, and where it ends
abbrev pub start : (body : List Instr) → ℕ
start body = length body + 16

abbrev pub last : (body program : List Instr) → ℕ
last body program = start body + length program + 2

-- The program's block is a simulation block with four references.
abbrev pub references : List CodeType
references = type.Reference ∷ type.Reference ∷ type.Reference ∷ type.Reference ∷ []

abbrev pub with_process : (body program : List Instr) → CodeOf
with_process body program =
    code (simulation 1 references (start body) ∷ object_blocks 2) (classes 0 (length body + 15) (start body) (last body program)) (with_levels 1 body program)

-- ---- what they do

-- a process with a number is made, and kept in a cell
abbrev pub made : (value cell : ℕ) → List Instr
made n x = i.Link (pos 1) ∷ i.Int (pos n) ∷ i.New (pos 6) (pos 1) ∷ i.Store (pos 1) (pos x) ∷ []

-- so is an object of another class
abbrev pub generated : (class cell : ℕ) → List Instr
generated c x = i.Link (pos 1) ∷ i.New (pos c) (pos 0) ∷ i.Store (pos 1) (pos x) ∷ []

-- the process in a cell is activated: directly, at a time or with a delay, and before or after the one in another cell
abbrev pub directly : (cell : ℕ) → List Instr
directly x = i.Link (pos 1) ∷ i.Load (pos 1) (pos x) ∷ i.Act (pos 0) ∷ []

abbrev pub by_time : (form cell time : ℕ) → List Instr
by_time form x t = i.Link (pos 1) ∷ i.Load (pos 1) (pos x) ∷ i.Int (pos t) ∷ i.Act (pos form) ∷ []

abbrev pub beside : (form cell other : ℕ) → List Instr
beside form x y = i.Link (pos 1) ∷ i.Load (pos 1) (pos x) ∷ i.Load (pos 1) (pos y) ∷ i.Act (pos form) ∷ []

abbrev pub hold : (time : ℕ) → List Instr
hold t = i.Link (pos 1) ∷ i.Int (pos t) ∷ i.Std (pos 68) ∷ []

abbrev pub passivate : List Instr
passivate = i.Link (pos 1) ∷ i.Std (pos 69) ∷ []

abbrev pub main_program : List Instr
main_program = i.Link (pos 1) ∷ i.Std (pos 67) ∷ []

-- what an object in a cell tells
abbrev pub told : (cell number : ℕ) → List Instr
told x n = i.Load (pos 1) (pos x) ∷ i.NotNone ∷ i.Std (pos n) ∷ []

-- what is written: a number, the time, and the number of a process, by itself
abbrev pub written : (number : ℕ) → List Instr
written n = i.Int (pos n) ∷ shown_number

abbrev pub time_written : List Instr
time_written = i.Link (pos 1) ∷ i.Std (pos 65) ∷ shown_number

abbrev pub own_written : List Instr
own_written = i.Load (pos 2) (pos 0) ∷ shown_number

-- ---- the programs

-- time goes on by 3, by nothing where a time below 0 is to be added, and by 4
abbrev pub main_holds : CodeOf
main_holds = with_process own_written (hold 3 ++ time_written ++ i.Link (pos 1) ∷ i.Int (negsuc 0) ∷ i.Std (pos 68) ∷ time_written ++ hold 4 ++ time_written)

-- a process goes first, and when it ends the main program goes on
abbrev pub first_activated : CodeOf
first_activated = with_process own_written (made 1 0 ++ directly 0 ++ written 2)

-- Each process writes its number twice. In between it goes behind the main program, and behind the other one.
abbrev pub in_turn : CodeOf
in_turn = with_process (own_written ++ hold 0 ++ own_written) (made 1 0 ++ made 2 1 ++ directly 0 ++ directly 1 ++ hold 0 ++ written 3)

-- the second process is put before the first, which comes at time 3, and the third after the second
abbrev pub placed : CodeOf
placed = with_process own_written (made 1 0 ++ made 2 1 ++ made 3 2 ++ by_time 1 0 3 ++ beside 5 1 0 ++ beside 6 2 1 ++ hold 5 ++ time_written)

-- the current process is activated anew, two time units later
abbrev pub current_later : CodeOf
current_later = with_process (own_written ++ i.Link (pos 1) ∷ i.This (pos 2) ∷ i.Int (pos 2) ∷ i.Act (pos 11) ∷ time_written) (made 1 0 ++ directly 0 ++ written 3 ++ hold 5 ++ time_written)

-- no notice is left: the main program passivates, it is cancelled, or the last process ends
abbrev pub nobody_left : CodeOf
nobody_left = with_process own_written (written 1 ++ passivate)

abbrev pub main_cancelled : CodeOf
main_cancelled = with_process own_written (i.Link (pos 1) ∷ main_program ++ i.Std (pos 71) ∷ [])

abbrev pub last_ends : CodeOf
last_ends = with_process own_written (made 1 0 ++ by_time 3 0 1 ++ passivate)

-- the greatest time is not passed
abbrev pub too_late : CodeOf
too_late = with_process own_written (hold 1 ++ hold 9223372036854775807)

abbrev pub without_event : CodeOf
without_event = with_process own_written (made 1 0 ++ told 0 63)

-- a link that is no process
abbrev pub link_activated : CodeOf
link_activated = with_process own_written (generated 2 0 ++ directly 0)

-- A process passivates, and is not terminated then. It is activated once more, writes its number again, and is terminated at its end. A third
-- activation does nothing.
abbrev pub ended_once : CodeOf
ended_once = with_process (own_written ++ passivate ++ own_written)
    (made 1 0 ++ directly 0 ++ told 0 62 ++ i.JumpF (pos 39) ∷ written 9 ++ directly 0 ++ told 0 62 ++ i.JumpF (pos 49) ∷ written 2 ++ directly 0 ++ written 3)

-- a process that gets control again behind its end, by `call`, ends as every object does
abbrev pub called_behind : CodeOf
called_behind = with_process own_written (made 1 0 ++ directly 0 ++ i.Load (pos 1) (pos 0) ∷ i.Attach ∷ i.Load (pos 1) (pos 0) ∷ i.Attach ∷ [])

-- the main program is no component that a program may move
abbrev pub main_called : CodeOf
main_called = with_process own_written (main_program ++ i.Attach ∷ [])

abbrev pub main_resumed : CodeOf
main_resumed = with_process own_written (main_program ++ i.Resume ∷ [])

abbrev pub main_detached : CodeOf
main_detached = with_process own_written (main_program ++ i.NotNone ∷ i.Detach ∷ [])

-- A process waits in the set of a head. The main program finds it there, and activates it; it stays in the set.
abbrev pub process_waits : CodeOf
process_waits = with_process (i.Link (pos 1) ∷ i.Load (pos 1) (pos 0) ∷ i.Std (pos 70) ∷ own_written)
    (generated 3 0 ++ made 7 1 ++ directly 1 ++ told 0 59 ++ shown_number ++ i.Link (pos 1) ∷ told 0 56 ++ i.Act (pos 0) ∷ told 0 59 ++ shown_number)

-- the main program waits there, and a process activates the first link of the set, which it is
abbrev pub main_waits : CodeOf
main_waits = with_process (told 0 59 ++ shown_number ++ i.Link (pos 1) ∷ told 0 56 ++ i.Act (pos 0) ∷ [])
    (generated 3 0 ++ made 1 1 ++ by_time 3 1 1 ++ i.Link (pos 1) ∷ i.Load (pos 1) (pos 0) ∷ i.Std (pos 70) ∷ written 5 ++ time_written)

-- A simulation block in the program's block, which is entered twice: it activates the process in the program's cell, and makes one that it keeps
-- there. At first there is none.
abbrev pub of_another_block : CodeOf
of_another_block = code (main 1 (type.Reference ∷ []) 1 (last [] again + 1) ∷ simulation 2 [] (start []) ∷ object_blocks 3) (classes 1 15 (start []) (last [] again))
    (with_levels 2 [] again ++ at 20 (i.Pref (pos 1) (pos 0)) ∷ at 21 (i.Pref (pos 1) (pos 0)) ∷ at 22 (i.EndLevel (pos 0)) ∷ [])
  where
    again : List Instr
    again = i.Link (pos 2) ∷ i.Load (pos 1) (pos 0) ∷ i.Act (pos 0) ∷ i.Link (pos 2) ∷ i.Int (pos 1) ∷ i.New (pos 6) (pos 1) ∷ i.Store (pos 1) (pos 0) ∷ []

-- the program's block is no simulation
abbrev pub no_simulation : CodeOf
no_simulation = code (main 0 [] 1 0 ∷ []) [] (at 1 (i.Link (pos 1)) ∷ at 2 (i.Std (pos 65)) ∷ [])

-- ---- classes of main programs

-- the program's block, and a process
abbrev pub memory : Frames
memory = record { instances = instance 0 ∷ instance 5 ∷ []; standings = [] }

abbrev pub empty : CodeOf
empty = with_process [] []

pub record Worked : Type 0 where
  pub process_of_block : process_class empty 5 ≡ Some 4
  pub process_of_none : process_class empty 6 ≡ None
  pub processes_are_links : linkage_of_class empty 6 ≡ Some Link
  pub main_is_process : is_of empty memory 4 (MainOf 0) ≡ Some true
  pub main_is_no_link : is_of empty memory 2 (MainOf 0) ≡ Some false
  pub main_in_link : is_in empty memory 2 (MainOf 0) ≡ Some true
  pub main_not_below : is_in empty memory 6 (MainOf 0) ≡ Some false
  pub no_main_of_process : is_in empty memory 4 (MainOf 1) ≡ None
  pub time_goes_on : seen main_holds (limits 1000 100) 200 ≡ shows (codes " 3 3 7\n") 1 8 Normal
  pub process_first : seen first_activated (limits 1000 100) 200 ≡ shows (codes " 1 2\n") 2 17 Normal
  pub behind_equal_times : seen in_turn (limits 1000 100) 200 ≡ shows (codes " 1 2 1 2 3\n") 3 26 Normal
  pub placed_beside : seen placed (limits 1000 100) 200 ≡ shows (codes " 2 3 1 5\n") 4 35 Normal
  pub current_moved : seen current_later (limits 1000 100) 200 ≡ shows (codes " 1 3 2 5\n") 2 17 Normal
  pub none_left : seen nobody_left (limits 1000 100) 200 ≡ shows (codes " 1\n") 1 8 (RunFault NoNoticeLeft 8)
  pub none_left_but_main : seen main_cancelled (limits 1000 100) 200 ≡ shows (codes "") 1 8 (RunFault NoNoticeLeft 7)
  pub none_left_at_end : seen last_ends (limits 1000 100) 200 ≡ shows (codes " 1\n") 2 17 (RunFault NoNoticeLeft 2)
  pub time_too_large : seen too_late (limits 1000 100) 200 ≡ shows (codes "") 1 8 (RunFault TimeTooLarge 9)
  pub no_event_time : seen without_event (limits 1000 100) 200 ≡ shows (codes "") 2 17 (RunFault NoEventTime 10)
  pub no_process : seen link_activated (limits 1000 100) 200 ≡ shows (codes "") 3 12 (RunFault OutsideQualification 9)
  pub terminated_at_end : seen ended_once (limits 1000 100) 200 ≡ shows (codes " 1 1 2 3\n") 2 17 Normal
  pub second_end : seen called_behind (limits 1000 100) 200 ≡ shows (codes " 1\n") 3 17 (RunFault ComponentIsTerminated 14)
  pub main_not_called : seen main_called (limits 1000 100) 200 ≡ shows (codes "") 1 8 (RunFault ComponentIsAttached 6)
  pub main_not_resumed : seen main_resumed (limits 1000 100) 200 ≡ shows (codes "") 1 8 (RunFault ResumedIsAttached 6)
  pub main_not_detached : seen main_detached (limits 1000 100) 200 ≡ shows (codes "") 1 8 (RunFault ObjectNotOperating 7)
  pub process_in_set : seen process_waits (limits 1000 100) 200 ≡ shows (codes " 1 7 1\n") 4 21 Normal
  pub main_in_set : seen main_waits (limits 1000 100) 200 ≡ shows (codes " 1 5 1\n") 4 21 Normal
  pub other_block : seen of_another_block (limits 1000 100) 200 ≡ shows (codes "") 4 22 (RunFault OtherSimulation 6)
  pub no_simulation_block : stops_at no_simulation 2 ≡ Some 1
