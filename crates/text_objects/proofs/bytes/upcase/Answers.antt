use Rattle.std.proofs.Common.{◌<◌, length, get_or, arith}
use Rattle.std.proofs.lemmas.List.{get_or_default}
use Rattle.std.proofs.lemmas.List.Edits.{map_over_more}
use Rattle.std.specs.Char.{to_ascii_uppercase}
use Rattle.text_objects.proofs.bytes.upcase.Goals as goal

pub loop-byte-preserved : goal.loop-byte-preserved
loop-byte-preserved c =
    let i = c.loop-byte.byte-index in
    let within : i < length c.loop-byte.bytes = omega arith in
    rw c.to_ascii_uppercase.ensures.value
    (map_over_more to_ascii_uppercase c.args.bytes.now c.loop-byte.bytes i (get_or c.loop-byte.bytes i 0) (omega arith) c.loop-byte.invariant (get_or_default c.loop-byte.bytes i 0 _ within))
