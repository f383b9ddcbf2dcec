use Rattle.std.proofs.Common.{map, take}
use Rattle.code_file.specs.Fields.{Operand}
use Rattle.code_file.specs.Writing.{Appends}
use Rattle.code_file.proofs.fields.put_operands.Given as goal

abbrev pub invariant-loop-operand : goal.invariant-loop-operand
invariant-loop-operand l = Appends l.fn.out.items l.out.items (map Operand (take l.operand-index l.operands))
