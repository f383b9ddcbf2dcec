use Rattle.code_file.proofs.Writing.{then_field}
use Rattle.code_file.proofs.records.ClassRecordRecord.write.Goals as goal

pub returns : goal.returns
returns c = rw (← c.self.view_is) (then_field _ _ _ _ _ c.in_ok-put_number.ensures (then_field _ _ _ _ _ c.in_ok-put_number-2.ensures (then_field _ _ _ _ _ c.in_ok-put_number-3.ensures (then_field _ _ _ _ _ c.in_ok-put_number-4.ensures (then_field _ _ _ _ _ c.in_ok-put_number-5.ensures (then_field _ _ _ _ _ c.in_ok-put_truth.ensures ((rw c.as_slice.ensures.value at c.in_ok-put_section.ensures))))))))
