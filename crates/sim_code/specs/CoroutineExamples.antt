-- Small codes of coroutines. The code of a class is all on line 1; after it the line of an instruction is its place, counted from 2.
use Rattle.std.specs.Prelude.{◌≡◌, pos, false, List, [], ◌∷◌, ◌++◌, Some, codes}
use Rattle.sim_base.specs.declared.run_error.RunError.TheVariants.{AccessThroughNone, ComponentIsAttached, ComponentIsResumed, ComponentIsTerminated, NoneIsNoComponent, ObjectNotOperating, ResumedIsAttached, SystemNotOperating}
use Rattle.sim_code.specs.declared.code.CodeFormal.{CodeFormal}
use Rattle.sim_code.specs.declared.code.CodeType.TheVariants as type
use Rattle.sim_code.specs.declared.instr.Instr.TheVariants as i
use Rattle.sim_code.specs.declared.instr.Lined.{Lined}
use Rattle.sim_code.specs.Code.{CodeOf}
use Rattle.sim_code.specs.Outcome.{Normal, RunFault}
use Rattle.sim_code.specs.Examples.{at, inner, limits, main, seen, shows, stops_at}
use Rattle.sim_code.specs.ClassExamples.{by_value, class, code, objects_with, one_level}

-- An object writes 1, and enters a block, which detaches it; the block then writes 2, and both end.
abbrev pub coroutine_class : List Lined
coroutine_class = at 1 (i.NextDecl (pos 0)) ∷ at 1 (i.Int (pos 1)) ∷ at 1 (i.Int (pos 2)) ∷ at 1 (i.Std (pos 40)) ∷ at 1 (i.Enter (pos 2)) ∷ at 1 (i.Inner (pos 0)) ∷ at 1 (i.EndLevel (pos 0)) ∷ at 1 (i.This (pos 2)) ∷ at 1 i.NotNone ∷ at 1 i.Detach ∷ at 1 (i.Int (pos 2)) ∷ at 1 (i.Int (pos 2)) ∷ at 1 (i.Std (pos 40)) ∷ at 1 i.Leave ∷ []

-- the program generates one, keeps the reference in its cell, and goes on with this
abbrev pub with_coroutine : List Lined → CodeOf
with_coroutine rest = code (main 1 (type.Reference ∷ []) 2 14 ∷ objects_with 1 [] [] ∷ record (inner 0 [] 2 7) { level = 3 } ∷ []) (class 0 1 0 1 5 ∷ [])
    (coroutine_class ++ at 2 (i.Link (pos 1)) ∷ at 3 (i.New (pos 1) (pos 0)) ∷ at 4 (i.Store (pos 1) (pos 0)) ∷ rest)

abbrev pub called : CodeOf
called = with_coroutine (at 5 (i.Load (pos 1) (pos 0)) ∷ at 6 i.Attach ∷ at 7 (i.EndLevel (pos 0)) ∷ [])

abbrev pub called_again : CodeOf
called_again = with_coroutine (at 5 (i.Load (pos 1) (pos 0)) ∷ at 6 i.Attach ∷ at 7 (i.Load (pos 1) (pos 0)) ∷ at 8 i.Attach ∷ [])

-- a value that lies on the stack of the caller is there when control returns
abbrev pub value_waits : CodeOf
value_waits = with_coroutine (at 5 (i.Int (pos 3)) ∷ at 6 (i.Load (pos 1) (pos 0)) ∷ at 7 i.Attach ∷ at 8 (i.Int (pos 2)) ∷ at 9 (i.Std (pos 40)) ∷ at 10 (i.EndLevel (pos 0)) ∷ [])

-- from outside, of an object that is detached, and of one that has ended
abbrev pub detached_twice : CodeOf
detached_twice = with_coroutine (at 5 (i.Load (pos 1) (pos 0)) ∷ at 6 i.NotNone ∷ at 7 i.Detach ∷ [])

abbrev pub detached_at_end : CodeOf
detached_at_end = with_coroutine (at 5 (i.Load (pos 1) (pos 0)) ∷ at 6 i.Attach ∷ at 7 (i.Load (pos 1) (pos 0)) ∷ at 8 i.Detach ∷ [])

-- the program's block is no object
abbrev pub program_detached : CodeOf
program_detached = with_coroutine (at 5 (i.This (pos 1)) ∷ at 6 i.Detach ∷ at 7 (i.EndLevel (pos 0)) ∷ [])

abbrev pub program_called : CodeOf
program_called = with_coroutine (at 5 (i.This (pos 1)) ∷ at 6 i.Attach ∷ [])

abbrev pub none_called : CodeOf
none_called = with_coroutine (at 5 i.None ∷ at 6 i.Attach ∷ [])

abbrev pub none_detached : CodeOf
none_detached = with_coroutine (at 5 i.None ∷ at 6 i.NotNone ∷ at 7 i.Detach ∷ [])

-- without the test
abbrev pub untested : CodeOf
untested = code (main 0 [] 1 0 ∷ []) [] (at 1 i.None ∷ at 2 i.Detach ∷ [])

-- an object calls itself
abbrev pub attached_called : CodeOf
attached_called = one_level (i.NextDecl (pos 0)) (i.This (pos 2)) i.Attach

-- ---- resume

-- an object that is resumed, and writes 2; the program goes on behind its end
abbrev pub resumed : CodeOf
resumed = with_coroutine (at 5 (i.Load (pos 1) (pos 0)) ∷ at 6 i.Resume ∷ at 7 (i.EndLevel (pos 0)) ∷ [])

abbrev pub ended_resumed : CodeOf
ended_resumed = with_coroutine (at 5 (i.Load (pos 1) (pos 0)) ∷ at 6 i.Attach ∷ at 7 (i.Load (pos 1) (pos 0)) ∷ at 8 i.Resume ∷ [])

abbrev pub program_resumed : CodeOf
program_resumed = with_coroutine (at 5 (i.This (pos 1)) ∷ at 6 i.Resume ∷ [])

abbrev pub none_resumed : CodeOf
none_resumed = with_coroutine (at 5 i.None ∷ at 6 i.Resume ∷ [])

-- Two objects with a character and a reference each resume each other in turn; each writes its character twice, and then `!`. The program resumes
-- the first one, and goes on behind its end.
abbrev pub character : CodeFormal
character = record by_value { code_type = type.Character }

abbrev pub resumed_in_turn : CodeOf
resumed_in_turn = code (main 2 (type.Reference ∷ type.Reference ∷ []) 3 16 ∷ objects_with 1 (type.Character ∷ type.Reference ∷ []) (character ∷ []) ∷ []) (class 0 1 0 1 15 ∷ [])
    (at 1 (i.NextDecl (pos 0)) ∷ at 1 (i.This (pos 2)) ∷ at 1 i.NotNone ∷ at 1 i.Detach ∷ at 1 (i.Load (pos 2) (pos 0)) ∷ at 1 (i.Std (pos 38)) ∷ at 1 (i.Load (pos 2) (pos 1)) ∷ at 1 i.Resume ∷ at 1 (i.Load (pos 2) (pos 0)) ∷ at 1 (i.Std (pos 38)) ∷ at 1 (i.Load (pos 2) (pos 1)) ∷ at 1 i.Resume ∷ at 1 (i.Char (pos 33)) ∷ at 1 (i.Std (pos 38)) ∷ at 1 (i.Inner (pos 0)) ∷ at 1 (i.EndLevel (pos 0))
    ∷ at 2 (i.Link (pos 1)) ∷ at 3 (i.Char (pos 120)) ∷ at 4 (i.New (pos 1) (pos 1)) ∷ at 5 (i.Store (pos 1) (pos 0)) ∷ at 6 (i.Link (pos 1)) ∷ at 7 (i.Char (pos 121)) ∷ at 8 (i.New (pos 1) (pos 1)) ∷ at 9 (i.Store (pos 1) (pos 1)) ∷ at 10 (i.Load (pos 1) (pos 0)) ∷ at 11 (i.AddrR (pos 1) (pos 1)) ∷ at 12 (i.Load (pos 1) (pos 1)) ∷ at 13 i.Put ∷ at 14 (i.Load (pos 1) (pos 1)) ∷ at 15 (i.AddrR (pos 1) (pos 1)) ∷ at 16 (i.Load (pos 1) (pos 0)) ∷ at 17 i.Put ∷ at 18 (i.Load (pos 1) (pos 0)) ∷ at 19 i.Resume ∷ at 20 (i.Char (pos 109)) ∷ at 21 (i.Std (pos 38)) ∷ at 22 (i.EndLevel (pos 0)) ∷ [])

-- An object is resumed, writes 1 and detaches itself, which gives control to the program; it is resumed again, writes 2, and calls itself.
abbrev pub resumed_twice : CodeOf
resumed_twice = code (main 1 (type.Reference ∷ []) 2 17 ∷ objects_with 1 [] [] ∷ []) (class 0 1 0 1 16 ∷ [])
    (at 1 (i.NextDecl (pos 0)) ∷ at 1 (i.This (pos 2)) ∷ at 1 i.NotNone ∷ at 1 i.Detach ∷ at 1 (i.Int (pos 1)) ∷ at 1 (i.Int (pos 2)) ∷ at 1 (i.Std (pos 40)) ∷ at 1 (i.This (pos 2)) ∷ at 1 i.NotNone ∷ at 1 i.Detach ∷ at 1 (i.Int (pos 2)) ∷ at 1 (i.Int (pos 2)) ∷ at 1 (i.Std (pos 40)) ∷ at 1 (i.This (pos 2)) ∷ at 1 i.Attach ∷ at 1 (i.Inner (pos 0)) ∷ at 1 (i.EndLevel (pos 0))
    ∷ at 2 (i.Link (pos 1)) ∷ at 3 (i.New (pos 1) (pos 0)) ∷ at 4 (i.Store (pos 1) (pos 0)) ∷ at 5 (i.Load (pos 1) (pos 0)) ∷ at 6 i.Resume ∷ at 7 (i.Load (pos 1) (pos 0)) ∷ at 8 i.Resume ∷ [])

-- An object of class 1 enters a block in which class 2 is declared, generates one of its objects there, and detaches itself. So that object is one
-- of a block that does not operate when the program resumes it.
abbrev pub head_away : CodeOf
head_away = code (main 1 (type.Reference ∷ []) 2 17 ∷ objects_with 1 [] [] ∷ record (inner 0 [] 2 4) { level = 3; class_free = false } ∷ record (objects_with 2 [] []) { level = 4 } ∷ []) (class 0 1 0 1 3 ∷ class 0 3 11 12 16 ∷ [])
    (at 1 (i.NextDecl (pos 0)) ∷ at 1 (i.Enter (pos 2)) ∷ at 1 (i.Inner (pos 0)) ∷ at 1 (i.EndLevel (pos 0)) ∷ at 1 (i.Link (pos 3)) ∷ at 1 (i.New (pos 2) (pos 0)) ∷ at 1 (i.Store (pos 1) (pos 0)) ∷ at 1 (i.This (pos 2)) ∷ at 1 i.NotNone ∷ at 1 i.Detach ∷ at 1 i.Leave ∷ at 1 (i.NextDecl (pos 0)) ∷ at 1 (i.This (pos 4)) ∷ at 1 i.NotNone ∷ at 1 i.Detach ∷ at 1 (i.Inner (pos 0)) ∷ at 1 (i.EndLevel (pos 0))
    ∷ at 2 (i.Link (pos 1)) ∷ at 3 (i.New (pos 1) (pos 0)) ∷ at 4 i.Pop ∷ at 5 (i.Load (pos 1) (pos 0)) ∷ at 6 i.Resume ∷ [])

pub record Worked : Type 0 where
  pub both_end : seen called (limits 1000 100) 100 ≡ shows (codes " 1 2\n") 4 9 Normal
  pub terminated : seen called_again (limits 1000 100) 100 ≡ shows (codes " 1 2\n") 4 9 (RunFault ComponentIsTerminated 8)
  pub value_kept : seen value_waits (limits 1000 100) 100 ≡ shows (codes " 1 2 3\n") 4 9 Normal
  pub not_operating : seen detached_twice (limits 1000 100) 100 ≡ shows (codes " 1\n") 3 13 (RunFault ObjectNotOperating 7)
  pub ended_object : seen detached_at_end (limits 1000 100) 100 ≡ shows (codes " 1 2\n") 4 9 (RunFault ObjectNotOperating 8)
  pub no_object_detached : seen program_detached (limits 1000 100) 100 ≡ shows (codes " 1\n") 3 13 Normal
  pub no_object_called : seen program_called (limits 1000 100) 100 ≡ shows (codes " 1\n") 3 13 (RunFault ComponentIsAttached 6)
  pub none_no_component : seen none_called (limits 1000 100) 100 ≡ shows (codes " 1\n") 3 13 (RunFault NoneIsNoComponent 6)
  pub through_none : seen none_detached (limits 1000 100) 100 ≡ shows (codes " 1\n") 3 13 (RunFault AccessThroughNone 6)
  pub none_untested : stops_at untested 2 ≡ Some 1
  pub calls_itself : seen attached_called (limits 1000 100) 100 ≡ shows (codes "") 2 8 (RunFault ComponentIsAttached 5)
  pub ends_resumed : seen resumed (limits 1000 100) 100 ≡ shows (codes " 1 2\n") 4 9 Normal
  pub resumed_too_late : seen ended_resumed (limits 1000 100) 100 ≡ shows (codes " 1 2\n") 4 9 (RunFault ComponentIsTerminated 8)
  pub no_object_resumed : seen program_resumed (limits 1000 100) 100 ≡ shows (codes " 1\n") 3 13 (RunFault ResumedIsAttached 6)
  pub none_not_resumed : seen none_resumed (limits 1000 100) 100 ≡ shows (codes " 1\n") 3 13 (RunFault NoneIsNoComponent 6)
  pub in_turn : seen resumed_in_turn (limits 1000 100) 100 ≡ shows (codes "xyxy!m\n") 4 18 Normal
  pub resumed_calls_itself : seen resumed_twice (limits 1000 100) 100 ≡ shows (codes " 1 2\n") 2 9 (RunFault ComponentIsResumed 1)
  pub system_away : seen head_away (limits 1000 100) 100 ≡ shows (codes "") 4 17 (RunFault SystemNotOperating 6)
