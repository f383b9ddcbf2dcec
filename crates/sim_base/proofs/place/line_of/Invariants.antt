use Rattle.std.proofs.Common.{◌≡◌, ◌+◌, ◌≤◌, drop, nat_eq}
use Rattle.std.specs.List.{count_by}
use Rattle.sim_base.proofs.place.line_of.Given as goal

abbrev pub invariant-loop-byte : goal.invariant-loop-byte
invariant-loop-byte l = record { same : l.line + count_by (nat_eq 10) (drop l.byte-index l.before) ≡ 1 + count_by (nat_eq 10) l.before; small : l.line ≤ 1 + l.byte-index }
