use Rattle.code_file.proofs.Writing.{appends, then_field}
use Rattle.code_file.proofs.records.BlockRecordRecord.write.Goals as goal

pub returns : goal.returns
returns c =
    let formals = c.as_slice-formals.ensures.value in
    rw (← c.self.view_is) (then_field _ _ _ _ _ c.in_ok-put_kind.ensures (then_field _ _ _ _ _ c.in_ok-put_number.ensures (then_field _ _ _ _ _ c.in_ok-put_number-2.ensures (then_field _ _ _ _ _ c.in_ok-put_number-3.ensures (then_field _ _ _ _ _ c.in_ok-put_number-4.ensures (then_field _ _ _ _ _ c.in_ok-put_number-5.ensures (then_field _ _ _ _ _ c.in_ok-put_truth.ensures (then_field _ _ _ _ _ c.in_ok-put_type.ensures (then_field _ _ _ _ _ c.in_ok-put_number-6.ensures (then_field _ _ _ _ _ (rw formals at c.in_ok-put_count.ensures) ((appends _ _ _ _ _ (rw c.as_slice.ensures.value at c.in_ok-put_records.ensures) (rw formals at c.in_ok-put_records-2.ensures)))))))))))))
