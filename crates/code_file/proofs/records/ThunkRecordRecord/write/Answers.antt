use Rattle.code_file.proofs.Writing.{then_field}
use Rattle.code_file.proofs.records.ThunkRecordRecord.write.Goals as goal

pub returns : goal.returns
returns c = then_field _ _ _ _ _ c.in_ok-put_number.ensures c.in_ok-put_number-2.ensures
