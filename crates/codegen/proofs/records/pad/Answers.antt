use Rattle.std.proofs.Common.{arith}
use Rattle.codegen.specs.EmitProgram.{Padded}
use Rattle.codegen.proofs.records.pad.Goals as goal

pub returns : goal.returns
unfolding Padded
returns c = let h = c.loop-done.invariant.1 in let g = c.loop-done-test.false in (c.loop-done.invariant.0, omega (arith, h, g))
