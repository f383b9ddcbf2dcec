use Rattle.std.proofs.Common.{◌≡◌, drop}
use Rattle.std.specs.List.{list_any}
use Rattle.codegen.specs.EmitProgram.{class_inside}
use Rattle.codegen.proofs.records.any_inside.Given as goal

abbrev pub invariant-loop-block : goal.invariant-loop-block
invariant-loop-block l = list_any (class_inside l.row) l.blocks ≡ list_any (class_inside l.row) (drop l.block-index l.blocks)
