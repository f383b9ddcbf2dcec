use Rattle.static_rules.proofs.Index.{is_index}
use Rattle.static_rules.proofs.laws.rules_have_rows.Goals as goal

pub returns : goal.returns
returns c = is_index
