use Rattle.std.proofs.Common.{arith}
use Rattle.sim_tree.proofs.Bounded.{bounded}
use Rattle.sim_tree.proofs.grammar.bounded_depth.Goals as goal

pub returns-clause-derivation : goal.returns-clause-derivation
returns-clause-derivation c = λ most ws d i j s f le r. bounded le r

pub returns-clause-program : goal.returns-clause-program
returns-clause-program c = λ ws p x. omega (arith, bounded (omega arith) x.reads)
