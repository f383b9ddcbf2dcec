use Rattle.std.proofs.Common.{replicate}
use Rattle.basic_io.proofs.OutputPlacing.{Placed}
use Rattle.basic_io.proofs.out_image.OutImage.put_repeated.Given as goal

-- the character is written as often as the loop has run
abbrev pub invariant-loop : goal.invariant-loop
invariant-loop l = Placed l.fn.texts l.fn.self (replicate l.counter l.character) l.counter l.texts l.self-inside.image
