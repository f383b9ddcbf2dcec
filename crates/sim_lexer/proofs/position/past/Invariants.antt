use Rattle.std.proofs.Common.{◌≡◌, ◌+◌, ◌≤◌, drop}
use Rattle.std.specs.List.{fold}
use Rattle.sim_lexer.specs.Scanning.{past_byte}
use Rattle.sim_lexer.proofs.position.past.Given as goal

abbrev pub invariant-loop-byte : goal.invariant-loop-byte
invariant-loop-byte l = record {
  same : fold past_byte l.position (drop l.byte-index l.bytes) ≡ fold past_byte l.fn.at l.bytes;
  place : l.position.place ≡ l.fn.at.place + l.byte-index;
  line : l.position.line ≤ l.position.place + 1;
}
