-- What a run has written stays written.
use Rattle.std.specs.Prelude.{◌≡◌, ℕ, ◌+◌, List, ◌++◌}
use Rattle.sim_base.specs.declared.limits.Limits.{Limits}
use Rattle.sim_code.specs.Code.{CodeOf}
use Rattle.sim_code.specs.Outcome.{Ended, Going, Run}
use Rattle.sim_code.specs.Rows.{mrun}

-- a list, and one that begins with it
abbrev pub Grown : List ℕ → List ℕ → Type 0
Grown old new = (rest : List ℕ) × (new ≡ old ++ rest)

-- the output so far
abbrev pub written : {S : Type 0} → Run S → List ℕ
written (Going o s) = o.store.written
written (Ended o e) = o.store.written

abbrev pub OutputGrows : Type 0
OutputGrows = (code : CodeOf) (l : Limits) (input : List ℕ) (n k : ℕ) → Grown (written (mrun code l input n)) (written (mrun code l input (n + k)))
