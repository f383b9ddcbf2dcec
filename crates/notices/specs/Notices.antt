-- Event notices: the list of the events to come of one simulation block, each with its time and its process.
-- The operations of the sequencing set (SIMULA Standard, SIMULATION), each as a function on that list.
use Rattle.std.specs.Prelude.{ℕ, ℤ, Bool, not, ◌==◌, int_le, int_lt, List, [], ◌∷◌, ◌++◌, Option, Some, None, if◌then◌else◌, is_some, slice_get}
use Rattle.std.specs.Option.{option_map}
use Rattle.std.specs.List.{filter, find, before_first, after_first}
use Rattle.notices.specs.declared.notice.Notice.{Notice}
use Rattle.notices.specs.declared.notice.ProcessNo.{ProcessNo}

-- ---- tests of a notice

-- whether the notice is that of process x
abbrev pub is_of : ℕ → Notice → Bool
is_of x n = n.process.0 == x

abbrev pub is_earlier_than : ℤ → Notice → Bool
is_earlier_than t n = int_lt n.time t

abbrev pub is_at_most : ℤ → Notice → Bool
is_at_most t n = int_le n.time t

abbrev pub is_at_least : ℤ → Notice → Bool
is_at_least t n = int_le t n.time

abbrev pub is_later_than : ℤ → Notice → Bool
is_later_than t n = int_lt t n.time

-- ---- what the list tells

-- the notice of process x, which is in the list at most once
abbrev pub notice_of : ℕ → List Notice → Option Notice
notice_of x l = find (is_of x) l

abbrev pub has_notice : ℕ → List Notice → Bool
has_notice x l = is_some (notice_of x l)

-- the time and the process of the first notice
abbrev pub first_event : List Notice → Option (ℤ × ProcessNo)
first_event [] = None
first_event (n ∷ _) = Some (n.time, n.process)

-- the time of x's notice
abbrev pub event_time : ℕ → List Notice → Option ℤ
event_time x l = option_map (λ n. n.time) (notice_of x l)

-- the process of the notice after x's
abbrev pub next_process : ℕ → List Notice → Option ProcessNo
next_process x l = option_map (λ n. n.process) (slice_get (after_first (is_of x) l) 0)

-- ---- how the list changes

-- the list without the notice of process x
abbrev pub removed : ℕ → List Notice → List Notice
removed x l = filter (λ n. not (is_of x n)) l

-- A notice is put between the two parts of a list. The place is found in the list as it stands, with the old
-- notice of the process in it; that one then goes out of its part.
abbrev pub placed_between : List Notice → Notice → List Notice → List Notice
placed_between front n back = removed n.process.0 front ++ n ∷ removed n.process.0 back

-- The place at a stated time divides the list: in front of it are the notices of time t or less, or, if it is
-- `prior`, only those that are earlier than t; behind it are the others.
abbrev pub front_at : ℤ → Bool → List Notice → List Notice
front_at t prior l = if prior then filter (is_earlier_than t) l else filter (is_at_most t) l

abbrev pub back_at : ℤ → Bool → List Notice → List Notice
back_at t prior l = if prior then filter (is_at_least t) l else filter (is_later_than t) l

-- at a stated time: after the notices of time t or less, or, if it is `prior`, before those of time t
abbrev pub placed_at : ℤ → Bool → ℕ → List Notice → List Notice
placed_at t prior x l = placed_between (front_at t prior l) (record { time = t; process = record { 0 = x } }) (back_at t prior l)

-- direct: before the first notice at the present time, which is the time of the first notice
abbrev pub placed_direct : ℕ → List Notice → List Notice
placed_direct x [] = []
placed_direct x (n ∷ l) = placed_between [] (record { time = n.time; process = record { 0 = x } }) (n ∷ l)

-- directly before or after a notice of the list, with its time; beside none, x is left without a notice
abbrev pub placed_beside : Bool → Option Notice → ℕ → List Notice → List Notice
placed_beside before None x l = removed x l
placed_beside before (Some m) x l =
    let n : Notice = record { time = m.time; process = record { 0 = x } } in
    let front = before_first (is_of m.process.0) l in
    let back = after_first (is_of m.process.0) l in
    if before then placed_between front n (m ∷ back) else placed_between (front ++ m ∷ []) n back

-- near process y: directly before or after its notice, if it has one; near itself, a process keeps its place
abbrev pub placed_near : Bool → ℕ → ℕ → List Notice → List Notice
placed_near before y x l = if y == x then l else placed_beside before (notice_of y l) x l
