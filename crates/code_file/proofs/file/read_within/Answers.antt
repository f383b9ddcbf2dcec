use Rattle.std.proofs.Common.{arith}
use Rattle.code_file.proofs.FileLaws.{within_err, within_ok}
use Rattle.code_file.proofs.Told.{leaves_within}
use Rattle.code_file.proofs.file.read_within.Goals as goal

pub refusal-requires : goal.refusal-requires
refusal-requires c = leaves_within c.in-Err.fault c.args.bytes.now (λ i. omega (arith, c.type_inv.bytes i)) c.in-Err.ensures

pub returns-in-Ok : goal.returns-in-Ok
returns-in-Ok c = within_ok c.args.bytes.now c.in-Ok.code c.requires c.in-Ok.ensures

pub returns-in-Err : goal.returns-in-Err
returns-in-Err c = rw c.refusal.ensures (within_err c.args.bytes.now c.in-Err.fault c.requires c.in-Err.ensures)
