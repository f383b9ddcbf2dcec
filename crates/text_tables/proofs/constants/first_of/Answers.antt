use Rattle.std.proofs.Common.{refl}
use Rattle.text_tables.proofs.Gathering as g
use Rattle.text_tables.proofs.Passing as p
use Rattle.text_tables.proofs.constants.first_of.Goals as goal

pub returns-then-entry-text : goal.returns-then-entry-text
returns-then-entry-text c = g.first_here c.args.row.now c.args.text c.loop-entry.entry-index _ c.loop-entry.invariant c.loop-entry-test.true (p.index_any c.args.row.now c.loop-entry.entry-index _ c.loop-entry-test.true) c.if-entry-text.true

pub loop-entry-preserved : goal.loop-entry-preserved
loop-entry-preserved c = g.first_next c.args.row.now c.args.text c.loop-entry.entry-index _ c.loop-entry.invariant c.loop-entry-test.true (p.index_any c.args.row.now c.loop-entry.entry-index _ c.loop-entry-test.true) c.if-entry-text.false

pub returns : goal.returns
returns c = g.first_end c.args.row.now c.args.text c.loop-entry.entry-index _ c.loop-entry.invariant c.loop-entry-test.false refl
