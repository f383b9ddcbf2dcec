use Rattle.std.proofs.Common.{◌≡◌, ◌+◌, ◌≤◌, length}
use Rattle.std.specs.List.{All}
use Rattle.sim_lexer.proofs.Following.{Follows}
use Rattle.sim_lexer.proofs.NoEnd.{IsInside}
use Rattle.sim_lexer.proofs.spelling.read.Given as goal

abbrev pub invariant-items : goal.invariant-items
invariant-items l = record {
  follows : Follows l.fn.source l.tokens.items l.at l.rest;
  place : l.at.place + length l.rest ≡ length l.fn.source;
  line : l.at.line ≤ l.at.place + 1;
  inside : All IsInside l.tokens.items;
  few : length l.tokens.items + length l.rest ≤ length l.fn.source;
}

abbrev pub decreases-items : goal.decreases-items
decreases-items l = length l.rest
