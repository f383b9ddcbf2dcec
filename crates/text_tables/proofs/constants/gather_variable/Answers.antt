use Rattle.std.proofs.Common.{refl}
use Rattle.text_tables.proofs.Gathering as g
use Rattle.text_tables.proofs.constants.gather_variable.Goals as goal

pub returns : goal.returns
returns c = g.gather_one c.args.text c.args.table.now.items _ c.args.variable.now c.in_ok-value.value _ c.in_ok-value.ensures refl c.in_ok-enter.ensures
