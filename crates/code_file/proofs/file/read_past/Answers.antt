use Rattle.std.proofs.Common.{arith, sym}
use Rattle.code_file.proofs.FileLaws.{past_err, past_ok, seen_length}
use Rattle.code_file.proofs.Told.{leaves_past}
use Rattle.code_file.proofs.file.read_past.Goals as goal
use Rattle.code_file.proofs.file.read_past.Goals.{in-Err, in-Ok}

pub slice_bounds-read_file-end : goal.slice_bounds-read_file-end
slice_bounds-read_file-end c = sym (seen_length c.args.bytes.now c.requires)

pub refusal-requires : goal.refusal-requires
refusal-requires c = rw c.limited.ensures (leaves_past c.in-Err.fault c.args.bytes.now (λ i. omega (arith, c.type_inv.bytes i)) c.requires c.in-Err.ensures)

pub returns : goal.returns
returns c =
    elim c.match-read_file.branch [
      | in-Ok w ↦ rw w.result-is (past_ok c.args.bytes.now w.in-Ok.field-0 c.requires w.in-Ok.ensures)
      | in-Err w ↦ rw (w.result-is, w.refusal.ensures, w.limited.ensures) (past_err c.args.bytes.now w.in-Err.fault c.requires w.in-Err.ensures)
    ]
