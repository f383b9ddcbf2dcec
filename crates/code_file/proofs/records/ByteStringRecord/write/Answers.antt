use Rattle.code_file.proofs.Writing.{then_field}
use Rattle.code_file.proofs.records.ByteStringRecord.write.Goals as goal

pub returns : goal.returns
returns c = rw c.as_bytes-text.ensures.same at (then_field _ _ _ _ _ c.in_ok-put_count.ensures c.in_ok-put_characters.ensures)
