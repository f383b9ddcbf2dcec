use Rattle.xref_order.proofs.RowOrder.{rows_in_front}
use Rattle.xref_order.proofs.laws.rows_in_order.Goals as goal

pub returns : goal.returns
returns c = λ tokens b tree is. rows_in_front tokens b tree is
