-- An inner page: what the steps of which the procedures are made answer.
use Rattle.std.specs.Prelude.{ℕ, List, [], ◌∷◌, Result, Ok, Err, ◌==◌, if◌then◌else◌}
use Rattle.sim_base.specs.declared.run_error.RunError.{RunError}
use Rattle.sim_base.specs.declared.run_error.RunError.TheVariants.{NoNoticeLeft}
use Rattle.notices.specs.declared.notice.Notice.{Notice}
use Rattle.notices.specs.declared.next.Next.{Next}
use Rattle.notices.specs.declared.next.Next.TheVariants.{Stay, Resume}

-- the error of a refused procedure
abbrev pub refusal_of : Result (List Notice) RunError → Result (Unit {0}) RunError
refusal_of (Ok _) = Ok tt
refusal_of (Err e) = Err e

-- who goes on after process x was current
abbrev pub next_after : ℕ → List Notice → Result Next RunError
next_after x [] = Err NoNoticeLeft
next_after x (n ∷ _) = Ok (if n.process.0 == x then Stay else Resume n.process)
