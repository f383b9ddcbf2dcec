use Rattle.code_file.proofs.Numbered.{opcode_small}
use Rattle.code_file.proofs.records.LinedRecord.read.Goals as goal

pub operand_count-count-requires : goal.operand_count-count-requires
operand_count-count-requires c = opcode_small c.args.bytes.now c.in_ok-number.number c.in_ok-number.rest.now c.in_ok-number.ensures

pub instr_of-requires : goal.instr_of-requires
instr_of-requires c = opcode_small c.args.bytes.now c.in_ok-number.number c.in_ok-number.rest.now c.in_ok-number.ensures
