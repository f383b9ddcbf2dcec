-- Words and ticks that are taken.
use Rattle.std.proofs.Common.{◌≡◌, ℕ, ◌+◌, ◌<◌, ◌≤◌, ap, ◌∙◌, arith}
use Rattle.std.specs.Prelude.{true, false, nat_lt, if◌then◌else◌}
use Rattle.sim_base.specs.declared.limits.Limits.{Limits}
use Rattle.sim_values.specs.Words.{is_exhausted}
use Rattle.sim_code.specs.Events.{stopping, taking, ticking}
use Rattle.sim_code.specs.Machine.{Machine}
use Rattle.sim_code.specs.Outcome.{Run, StorageExhausted, TickLimit, World}

module _ (l : Limits) (o : World) (go : World → Run Machine) where
  module _ (line budget used wanted : ℕ) (storage : l.storage ≡ budget) (words : o.words ≡ used) where
    same_test : is_exhausted l.storage o.words wanted ≡ is_exhausted budget used wanted
    same_test = ap (λ b. is_exhausted b o.words wanted) storage ∙ ap (λ u. is_exhausted budget u wanted) words

    pub no_words_left : is_exhausted budget used wanted ≡ true → taking l line wanted o go ≡ stopping (StorageExhausted line used wanted) o
    unfolding taking
    no_words_left e =
        ap (λ b. if b then stopping (StorageExhausted line o.words wanted) o else go (record o { words = o.words + wanted })) (same_test ∙ e) ∙ ap (λ u. stopping (StorageExhausted line u wanted) o) words

    pub words_left : is_exhausted budget used wanted ≡ false → taking l line wanted o go ≡ go (record o { words = used + wanted })
    unfolding taking
    words_left e =
        ap (λ b. if b then stopping (StorageExhausted line o.words wanted) o else go (record o { words = o.words + wanted })) (same_test ∙ e) ∙ ap (λ u. go (record o { words = u + wanted })) words

  module _ (limit ticks : ℕ) (bound : l.ticks ≡ limit) (taken : o.ticks ≡ ticks) where
    pub no_tick_left : limit ≤ ticks → ticking l o go ≡ stopping (TickLimit limit) o
    unfolding ticking
    no_tick_left h =
        let e : nat_lt o.ticks l.ticks ≡ false = none o.ticks l.ticks (omega (arith, h, bound, taken)) in
        ap (λ b. if b then go (record o { ticks = o.ticks + 1 }) else stopping (TickLimit l.ticks) o) e ∙ ap (λ n. stopping (TickLimit n) o) bound
      where
        none : (a b : ℕ) → b ≤ a → nat_lt a b ≡ false
        none a b h = grind (arith, h)

    pub tick_left : ticks < limit → ticking l o go ≡ go (record o { ticks = ticks + 1 })
    unfolding ticking
    tick_left h =
        let e : nat_lt o.ticks l.ticks ≡ true = some o.ticks l.ticks (omega (arith, h, bound, taken)) in
        ap (λ b. if b then go (record o { ticks = o.ticks + 1 }) else stopping (TickLimit l.ticks) o) e ∙ ap (λ n. go (record o { ticks = n + 1 })) taken
      where
        some : (a b : ℕ) → a < b → nat_lt a b ≡ true
        some a b h = grind (arith, h)
