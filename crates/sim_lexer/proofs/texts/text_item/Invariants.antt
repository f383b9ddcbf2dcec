use Rattle.std.proofs.Common.{◌≡◌, ◌+◌, drop, length}
use Rattle.sim_lexer.proofs.TextLemmas.{AreRead}
use Rattle.sim_lexer.proofs.texts.text_item.Given as goal

abbrev pub invariant-pieces : goal.invariant-pieces
invariant-pieces l = record {
  are_read : AreRead (drop 1 l.fn.rest) l.bytes.items l.behind;
  place : l.behind ≡ drop (1 + l.read) l.fn.rest;
  whole : 1 + l.read + length l.behind ≡ length l.fn.rest;
}

abbrev pub decreases-pieces : goal.decreases-pieces
decreases-pieces l = length l.behind
