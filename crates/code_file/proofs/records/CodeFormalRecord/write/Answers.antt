use Rattle.code_file.proofs.Writing.{then_field}
use Rattle.code_file.proofs.records.CodeFormalRecord.write.Goals as goal

pub returns : goal.returns
returns c = then_field _ _ _ _ _ c.in_ok-put_mode.ensures (then_field _ _ _ _ _ c.in_ok-put_shape.ensures (then_field _ _ _ _ _ c.in_ok-put_type.ensures c.in_ok-put_number.ensures))
