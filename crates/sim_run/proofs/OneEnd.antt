-- A run ends in one way.
use Rattle.std.proofs.Common.{◌≡◌, ℕ, zero, suc, ◌+◌, ◌-◌, ◌≤◌, List, Some, inl, inr, refl, sym, ap, ◌∙◌, arith}
use Rattle.std.proofs.lemmas.Bool.{cases_lt}
use Rattle.sim_base.specs.declared.limits.Limits.{Limits}
use Rattle.sim_code.specs.Outcome.{Ended, Ending, Normal, NoRule, Run, RunFault, StorageExhausted, TickLimit, World, after}
use Rattle.sim_code.proofs.Growing.{after_more}
use Rattle.sim_meaning.specs.Meaning.{opening, step}
use Rattle.sim_meaning.specs.Pending.{Configuration}
use Rattle.sim_scope.specs.Source.{Source}
use Rattle.sim_finite.specs.Coming.{ComesToAnEnd}
use Rattle.sim_run.specs.declared.running.RunEnd.{RunEnd}
use Rattle.sim_run.specs.declared.running.RunEnd.TheVariants as end
use Rattle.sim_run.specs.RunEnds.{HasEnd, IsRunnable, MeaningEnds, RunEnds, end_of}

-- what has ended stays
stays : (S : Type 0) (f : World → S → Run S) (k : ℕ) (o : World) (e : Ending) → after f k (Ended o e) ≡ Ended o e
stays S f zero o e = refl
stays S f (suc k) o e = stays S f k o e

-- later it has ended so too
pub ended_later : (S : Type 0) (f : World → S → Run S) (n k : ℕ) (r : Run S) (o : World) (e : Ending) → after f n r ≡ Ended o e → after f (n + k) r ≡ Ended o e
ended_later S f n k r o e is = after_more S f n k r ∙ ap (after f k) is ∙ stays S f k o e

same_end : (S : Type 0) (r : Run S) (o p : World) (e f : Ending) → r ≡ Ended o e → r ≡ Ended p f → (o ≡ p) × (e ≡ f)
same_end S r o p e f x y = (cc, cc)

ends_alike : (S : Type 0) (f : World → S → Run S) (m n : ℕ) (r : Run S) (o p : World) (e d : Ending) → m ≤ n → after f m r ≡ Ended o e → after f n r ≡ Ended p d → (o ≡ p) × (e ≡ d)
ends_alike S f m n r o p e d le first second =
    let k : n ≡ m + (n - m) = omega (arith, le) in
    same_end S (after f n r) o p e d (ap (λ z. after f z r) k ∙ ended_later S f m (n - m) r o e first) second

same_ending : (s : Source) (l : Limits) (input : List ℕ) (e d : Ending) (xs ys : List ℕ) → MeaningEnds s l input e xs → MeaningEnds s l input d ys → (e ≡ d) × (xs ≡ ys)
same_ending s l input e d xs ys x y =
    elim (cases_lt y.steps x.steps) [
      | inl later ↦ (
          let same = ends_alike Configuration (step s l) y.steps x.steps (opening s l input) y.world x.world d e (omega (arith, later)) y.ends x.ends in
          (sym same.1, x.writes ∙ ap (λ (o : World). o.store.written) (sym same.0) ∙ sym y.writes)
          )
      | inr sooner ↦ (
          let same = ends_alike Configuration (step s l) x.steps y.steps (opening s l input) x.world y.world e d (omega (arith, sooner)) x.ends y.ends in
          (same.1, x.writes ∙ ap (λ (o : World). o.store.written) same.0 ∙ sym y.writes)
          )
    ]

same_some : (e d : RunEnd) → Some e ≡ Some d → e ≡ d
same_some e d is = cc

-- a program ends in one way, with one output
pub one_end : (s : Source) (l : Limits) (input : List ℕ) (e d : RunEnd) (xs ys : List ℕ) → RunEnds s l input e xs → RunEnds s l input d ys → (e ≡ d) × (xs ≡ ys)
one_end s l input e d xs ys x y =
    let same = same_ending s l input x.ending y.ending xs ys x.ends y.ends in
    (same_some e d (sym x.is ∙ ap end_of same.0 ∙ y.is), same.1)

-- each way to end but for the want of a rule
end_there : (ending : Ending) → (ending ≡ NoRule → ⊥) → (end : RunEnd) × (end_of ending ≡ Some end)
end_there Normal ruled = (end.Normal, refl)
end_there (RunFault error line) ruled = (end.RunFault error (record { 0 = line }), refl)
end_there (StorageExhausted line used wanted) ruled = (end.StorageExhausted (record { 0 = line }) used wanted, refl)
end_there (TickLimit ticks) ruled = (end.TickLimit ticks, refl)
end_there NoRule ruled = absurd (ruled refl)

-- what comes to an end has one
pub has_end : (s : Source) (l : Limits) (input : List ℕ) → IsRunnable s → ComesToAnEnd s l input → HasEnd s l input
has_end s l input runs come =
    let there = end_there come.ending (λ is. runs.ruled l input come.steps come.world (come.ends ∙ ap (λ e. Ended come.world e) is)) in
    (there.0, come.world.store.written, record { ending = come.ending; is = there.1; ends = record { steps = come.steps; world = come.world; ends = come.ends; writes = refl } })
