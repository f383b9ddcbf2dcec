use Rattle.std.proofs.Common.{◌≡◌, ◌+◌, length}
use Rattle.sim_lexer.specs.EndComments.{Elsewhere, comment_from}
use Rattle.sim_lexer.specs.Scanning.{spot}
use Rattle.sim_lexer.proofs.end_comments.end_comment.Given as goal

abbrev pub invariant-comment : goal.invariant-comment
invariant-comment l = record {
  same : l.len + comment_from (spot l.begins_line) l.behind ≡ comment_from Elsewhere l.fn.rest;
  whole : l.len + length l.behind ≡ length l.fn.rest;
}

abbrev pub decreases-comment : goal.decreases-comment
decreases-comment l = length l.behind
