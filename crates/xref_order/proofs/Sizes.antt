-- What is found of a program is found of its tokens.
use Rattle.std.proofs.Common.{◌≡◌, ℕ, List, [], ◌∷◌, Option, Some, None, length, refl, ◌∙◌, subst}
use Rattle.std.proofs.lemmas.List.{length-replicate, length-set}
use Rattle.sim_scope.specs.declared.bound.Bound.{Bound}
use Rattle.sim_scope.specs.declared.found.Fault.{Fault}
use Rattle.sim_scope.specs.Declare.{declared_by}
use Rattle.sim_scope.specs.Found.{Broken, Event, Findings, FoundIn, Typed, Uses, found, unknown}
use Rattle.sim_scope.specs.Runs.{run}
use Rattle.sim_scope.specs.Tables.{Tables}
use Rattle.sim_static.specs.Check.{Allowed, Checked, IsBound, Refused, answer, completed, first_answer, first_least, judged, last_answer, second_answer, second_least}
use Rattle.sim_tree.specs.Syntax.{Program}
use Rattle.sim_tree.specs.SyntaxOfProgram.{program_syntax}

-- no piece of a program changes how many there are
as_many : (es : List Event) (f : Findings) → length (run found f es).uses ≡ length f.uses
unfolding run found
as_many [] f = refl
as_many (Broken token rule ∷ es) f = as_many es (found f (Broken token rule))
as_many (Uses token d ∷ es) f = as_many es (found f (Uses token d)) ∙ length-set f.uses token (Some d)
as_many (FoundIn token block ∷ es) f = as_many es (found f (FoundIn token block))
as_many (Typed token ty ∷ es) f = as_many es (found f (Typed token ty))

abbrev Sized : ℕ → Checked → Type 0
Sized n (Refused fault) = Unit {0}
Sized n (Allowed tables uses found_in types) = length uses ≡ n

judged_sized : (n : ℕ) (tables : Tables) (p : Program) → length (judged n tables p).uses ≡ n
unfolding judged
judged_sized n tables p = as_many _ (unknown n) ∙ length-replicate n None

last_sized : (n : ℕ) (tables : Tables) (f : Findings) (o : Option Fault) → length f.uses ≡ n → Sized n (last_answer tables f o)
last_sized n tables f (Some fault) e = tt
last_sized n tables f None e = e

second_sized : (n : ℕ) (p : Program) (tables : Tables) (o : Option Fault) → Sized n (second_answer n p tables o)
second_sized n p tables (Some fault) = tt
second_sized n p tables None = last_sized n tables (judged n tables p) (judged n tables p).least (judged_sized n tables p)

first_sized : (n : ℕ) (p : Program) (tables : Tables) (o : Option Fault) → Sized n (first_answer n p tables o)
first_sized n p tables (Some fault) = tt
first_sized n p tables None = second_sized n p (completed tables p) (second_least (completed tables p))

answer_sized : (n : ℕ) (p : Program) → Sized n (answer n p)
unfolding answer
answer_sized n p = first_sized n p (declared_by p).tables (first_least (declared_by p))

pub uses_sized : (b : Bound) → IsBound b → length b.uses.items ≡ length b.program.lines.items
unfolding IsBound
uses_sized b is = subst (Sized (length b.program.lines.items)) is (answer_sized (length b.program.lines.items) (program_syntax b.program))
