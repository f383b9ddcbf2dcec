use Rattle.sim_tree.proofs.Leads.{expr_leads}
use Rattle.sim_tree.proofs.measure.first_token.Goals as goal

pub returns-clause-reads : goal.returns-clause-reads
returns-clause-reads c = λ ws d i j x. c.first_leaf_of.ensures.leaf i (expr_leads x.begins x.inside)
