-- Instructions of a code that is given, at their places.
use Rattle.std.proofs.Common.{◌≡◌, ◌<◌, ℕ, suc, length, Some, refl}
use Rattle.std.specs.Prelude.{slice_get}
use Rattle.sim_code.specs.declared.instr.Instr.{Instr}
use Rattle.sim_code.specs.Code.{CodeOf}
use Rattle.codegen_expr.specs.Sites.{Ahead, Is, Pushes, Site, lined}

pub ins : (code : CodeOf) (x : Instr) (line p : ℕ) → slice_get code.instrs p ≡ Some (lined x line) → Is code x p (suc p)
ins code x line p e = record { line = line; is = record { at = e; on = refl } }

pub push : (code : CodeOf) (site : Site) (n : ℕ) (x : Instr) (line p : ℕ) → n < site.room → slice_get code.instrs p ≡ Some (lined x line) → Pushes code site n x p (suc p)
push code site n x line p lt e = record { is = ins code x line p e; fits = lt }

pub ahead : (code : CodeOf) (p q : ℕ) → p < q → q < length code.instrs → Ahead code p q
ahead code p q a b = record { forward = a; there = b }
