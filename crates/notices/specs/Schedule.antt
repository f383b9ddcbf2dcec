-- What holds of every list of event notices.
use Rattle.std.specs.Prelude.{ℕ, ◌<◌, ◌≢◌, ◌≤ℤ◌, List}
use Rattle.std.specs.List.{All, AllPairs}
use Rattle.notices.specs.declared.notice.Notice.{Notice}

-- each notice is no later than those behind it
abbrev pub IsOrdered : List Notice → Type 0
IsOrdered l = AllPairs (λ m n. m.time ≤ℤ n.time) l

-- each process has at most one notice
abbrev pub IsOnce : List Notice → Type 0
IsOnce l = AllPairs (λ m n. m.process.0 ≢ n.process.0) l

-- ordered by time, each process at most once, and each process below the room
pub record IsSchedule (l : List Notice) (room : ℕ) : Type 0 where
  pub ordered : IsOrdered l
  pub once : IsOnce l
  pub within : All (λ n. n.process.0 < room) l
