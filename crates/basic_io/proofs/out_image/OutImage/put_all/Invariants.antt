use Rattle.std.proofs.Common.{take}
use Rattle.basic_io.proofs.OutputPlacing.{Placed}
use Rattle.basic_io.proofs.out_image.OutImage.put_all.Given as goal

-- the characters before the place are written
abbrev pub invariant-loop-character : goal.invariant-loop-character
invariant-loop-character l = Placed l.fn.texts l.fn.self (take l.character-index l.characters) l.character-index l.texts l.self-inside.image
