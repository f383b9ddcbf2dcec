use Rattle.sim_scope.specs.Source.{source_of}
use Rattle.sim_xref.specs.Text.{Adds}
use Rattle.sim_xref.proofs.text.put_lines.Given as goal

abbrev pub invariant-loop-token : goal.invariant-loop-token
invariant-loop-token l = Adds (source_of l.bound) l.fn.text.items l.uses l.text.items l.last l.token-index
