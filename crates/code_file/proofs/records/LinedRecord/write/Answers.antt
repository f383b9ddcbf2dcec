use Rattle.code_file.proofs.Writing.{appends, then_field, unused_too}
use Rattle.code_file.proofs.records.LinedRecord.write.Goals as goal

pub returns : goal.returns
returns c =
    let r = c.row_of-row.ensures in
    then_field _ _ _ _ _ (rw r.number at c.in_ok-put_opcode.ensures) (appends _ _ _ _ _ (unused_too _ _ _ (rw r.operands at c.in_ok-put_operands.ensures)) c.in_ok-put_number.ensures)
