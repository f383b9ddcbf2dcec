use Rattle.std.proofs.Common.{pos}
use Rattle.code_file.proofs.Numbered.{count_made}
use Rattle.code_file.proofs.instructions.operand_count.Goals as goal

pub returns : goal.returns
returns c = rw (c.row_of.ensures.count, c.instr_of.ensures) (count_made c.args.number (pos 0) (pos 0) (pos 0) c.requires)
