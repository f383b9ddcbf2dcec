-- The calls on an end in memory: their numbers, those that fail, and the faults.
use Rattle.std.specs.Prelude.{ℕ, zero, suc, ◌+◌, ◌-◌, ◌^◌, ◌==◌, min, List, Bool, true, false}
use Rattle.std.specs.List.{list_any}

-- the numbers of the calls that fail, how many calls were made, how many of them failed, and how many bytes one call moves at the most
pub record CallLog : Type 0 where
  pub failing : List ℕ
  pub made : ℕ
  pub faults : ℕ
  pub most : ℕ

-- no call was made yet, and each moves as much as there is
abbrev pub fresh_calls : List ℕ → CallLog
fresh_calls failing = record { failing = failing; made = 0; faults = 0; most = 2 ^ 64 - 1 }

-- the same calls, of which each later one moves at most so many bytes
abbrev pub calls_in_pieces : ℕ → CallLog → CallLog
calls_in_pieces size calls = record { failing = calls.failing; made = calls.made; faults = calls.faults; most = size }

-- the next call is one of those that fail: calls are numbered from 0
abbrev pub fails_next : CallLog → Bool
fails_next calls = list_any (λ number. number == calls.made) calls.failing

-- one more, up to 2^64-1
abbrev pub one_more : ℕ → ℕ
one_more count = min (count + 1) (2 ^ 64 - 1)

-- the calls after one more, that succeeded or not
abbrev pub after_call : Bool → CallLog → CallLog
after_call true calls = record { failing = calls.failing; made = one_more calls.made; faults = calls.faults; most = calls.most }
after_call false calls = record { failing = calls.failing; made = one_more calls.made; faults = one_more calls.faults; most = calls.most }

-- the calls after one with a piece of this length, that succeeded or not: an empty piece counts as no call
abbrev pub after_piece : ℕ → Bool → CallLog → CallLog
after_piece zero succeeded calls = calls
after_piece (suc rest) succeeded calls = after_call succeeded calls
