use Rattle.sim_tree.proofs.Order.{in_order, in_text}
use Rattle.sim_tree.proofs.grammar.token_order.Goals as goal

pub returns : goal.returns
returns c = record { order = in_order; within = in_text }
