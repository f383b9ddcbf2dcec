use Rattle.std.proofs.Common.{◌≡◌, ◌++◌, map, take, drop}
use Rattle.std.specs.Char.{to_ascii_lowercase}
use Rattle.text_objects.proofs.bytes.lowcase.Given as goal

-- the bytes before the place are changed, and the others are as they were
abbrev pub invariant-loop-byte : goal.invariant-loop-byte
invariant-loop-byte l = l.bytes ≡ map to_ascii_lowercase (take l.byte-index l.fn.bytes) ++ drop l.byte-index l.fn.bytes
