-- What may be missing.
use Rattle.std.proofs.Common.{◌≡◌, ◌<◌, sym, ap}
use Rattle.std.specs.Prelude.{ℕ, if◌then◌else◌, nat_lt, Option, Some, None}
use Rattle.sim_code.specs.Events.{having, no_rule, when}
use Rattle.sim_code.specs.Machine.{Machine}
use Rattle.sim_code.specs.Outcome.{Run, World}
use Rattle.object_machine.proofs.Going.{lt_true}

pub having_none : {A : Type 0} (w : Option A) (o : World) (f : A → Run Machine) → None ≡ w → having w o f ≡ no_rule o
unfolding having
having_none w o f e = ap (λ x. having x o f) (sym e)

pub having_some : {A : Type 0} (w : Option A) (a : A) (o : World) (f : A → Run Machine) → Some a ≡ w → having w o f ≡ f a
unfolding having
having_some w a o f e = ap (λ x. having x o f) (sym e)

-- what there must be one of
pub uncounted : (n : ℕ) (o : World) (r : Run Machine) → n ≡ 0 → when (nat_lt 0 n) o r ≡ no_rule o
unfolding when
uncounted n o r e = ap (λ n. when (nat_lt 0 n) o r) e

pub counted : (n : ℕ) (o : World) (r : Run Machine) → 0 < n → when (nat_lt 0 n) o r ≡ r
unfolding when
counted n o r h = ap (λ b. if b then r else no_rule o) (lt_true 0 n h)
