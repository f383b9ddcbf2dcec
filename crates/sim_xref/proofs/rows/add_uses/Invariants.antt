use Rattle.sim_xref.specs.Filling.{Fills}
use Rattle.sim_xref.proofs.rows.add_uses.Given as goal

abbrev pub invariant-loop-index : goal.invariant-loop-index
invariant-loop-index l = Fills l.uses l.fn.rows.items l.rows.items l.index
