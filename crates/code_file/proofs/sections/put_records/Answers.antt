use Rattle.code_file.proofs.Writing.{record_more}
use Rattle.code_file.proofs.sections.put_records.Goals as goal

pub loop-record-preserved : goal.loop-record-preserved
loop-record-preserved g c =
    record_more g.R.Record.fields _ _ _ c.args.records.now c.loop-record.record-index c.record-item.result c.loop-record-test.true c.record-item.is c.loop-record.invariant c.in_ok-write.ensures
