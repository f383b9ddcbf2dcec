-- The time of the first notice.
use Rattle.std.specs.Prelude.{ℤ, List, [], ◌∷◌, Option, Some, None}
use Rattle.notices.specs.declared.notice.Notice.{Notice}

abbrev pub first_time : List Notice → Option ℤ
first_time [] = None
first_time (n ∷ _) = Some n.time
