use Rattle.sim_scope.specs.Source.{source_of}
use Rattle.sim_xref.specs.Text.{row_text}
use Rattle.sim_xref.proofs.Lines.{rows_more}
use Rattle.sim_xref.proofs.text.put_rows.Goals as goal

pub loop-row-preserved : goal.loop-row-preserved
loop-row-preserved c =
    rows_more (row_text (source_of c.args.bound.now)) c.args.rows.now c.args.text.now.items c.loop-row.text.items _ c.loop-row.row-index c.row-item.result c.loop-row-test.true c.loop-row.invariant c.row-item.is c.in_ok-put_row.ensures
