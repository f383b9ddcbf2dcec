use Rattle.std.proofs.Common.{◌≡◌, get_or, of_z, pos, rules, to_z, w64}
use Rattle.code_file.proofs.Writing.{operand_more}
use Rattle.code_file.proofs.fields.put_operands.Goals as goal

pub loop-operand-preserved : goal.loop-operand-preserved
loop-operand-preserved c =
    let operand = get_or c.args.operands.now c.loop-operand.operand-index (pos 0) in
    let same : to_z w64 (of_z w64 operand) ≡ operand = search rules in
    operand_more _ _ _ c.args.operands.now c.loop-operand.operand-index c.loop-operand-test.true c.loop-operand.invariant (rw same at c.in_ok-put_operand.ensures)
