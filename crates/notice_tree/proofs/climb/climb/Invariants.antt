use Rattle.std.proofs.Common.{ℕ, List}
use Rattle.notice_tree.specs.Trees.{Tree, Step}
use Rattle.notice_tree.specs.Climb.{IsGap}
use Rattle.notice_tree.proofs.ClimbLemmas.{IsClimbing}
use Rattle.notice_tree.proofs.climb.climb.Given as goal

abbrev pub invariant-loop-step : goal.invariant-loop-step
invariant-loop-step l = (way : List Step) (t : Tree) (h : ℕ) → IsGap l.initial.nodes l.initial.from l.initial.below l.initial.parent l.stop way t h → IsClimbing l.initial.nodes l.nodes l.from l.below l.parent l.stop l.settled way t h l._step
