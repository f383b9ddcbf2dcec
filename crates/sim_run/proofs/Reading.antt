-- From a step of code that takes something of the input to a step of its program that does.
use Rattle.std.proofs.Common.{◌≡◌, ◌∙◌, ℕ, zero, suc, false, List, Option, Some, None, inl, inr, refl, sym, ap, subst}
use Rattle.std.specs.Io.KnownBytes.{Appends}
use Rattle.sim_base.specs.declared.limits.Limits.{Limits}
use Rattle.sim_code.specs.Code.{CodeOf}
use Rattle.sim_code.specs.Machine.{Machine}
use Rattle.sim_code.specs.Outcome.{Ended, Ending, Going, Run, World, after, next}
use Rattle.sim_code.specs.Rows.{mrun, mstep, opening}
use Rattle.sim_meaning.specs.Meaning.{run, step}
use Rattle.sim_meaning.specs.Meaning as meaning
use Rattle.sim_meaning.specs.Pending.{Configuration}
use Rattle.sim_scope.specs.Source.{Source}
use Rattle.standard_calls.specs.Taking.{HasAll}
use Rattle.object_machine.specs.Running.{WasCut}
use Rattle.sim_relate.specs.SameRuns.{SameRuns, Seen, StepShown, seen, seen_world}
use Rattle.sim_run.specs.RunEnds.{BeforeARead}
use Rattle.sim_run.proofs.Showing.{has_all_too}

-- one step more
one_more : {S : Type 0} (f : World → S → Run S) (n : ℕ) (r : Run S) → after f (suc n) r ≡ next f (after f n r)
one_more f zero r = refl
one_more f (suc n) r = one_more f n (next f r)

from_going : {S : Type 0} (f : World → S → Run S) (n : ℕ) (r : Run S) (o : World) (s : S) → after f n r ≡ Going o s → after f (suc n) r ≡ f o s
from_going f n r o s come = one_more f n r ∙ ap (next f) come

-- a run that is seen as one that goes on goes on, in a world that is seen the same
record GoesOn {S : Type 0} (o : World) (r : Run S) : Type 0 where
  world : World
  state : S
  is : r ≡ Going world state
  same : seen_world o None ≡ seen_world world None

goes_on : {S : Type 0} (o : World) (r : Run S) → seen_world o None ≡ seen r → GoesOn o r
goes_on o (Going p s) same = record { world = p; state = s; is = refl; same = same }
goes_on o (Ended p e) same = absurd (ends e (ap (λ (x : Seen). x.shown.ending) same))
  where
    ends : (e : Ending) → None ≡ Some e → ⊥
    ends e h = cc

module _ (s : Source) (code : CodeOf) (same : SameRuns s code) (l : Limits) (input : List ℕ) (faults now : ℕ) (old new : Option (List ℕ)) (cut : WasCut faults now code l (opening code l input) old new) where
  from : StepShown s code l input cut.steps
  from = same.steps l input cut.steps

  there : GoesOn cut.world (run s l input from.at)
  there = goes_on cut.world (run s l input from.at) (subst (λ (q : Run Machine). seen q ≡ seen (run s l input from.at)) cut.come from.here)

  behind_code : mrun code l input (suc cut.steps) ≡ mstep code l cut.world cut.state
  behind_code = from_going (mstep code l) cut.steps (opening code l input) cut.world cut.state cut.come

  behind : run s l input (suc from.at) ≡ step s l there.world there.state
  behind = from_going (step s l) from.at (meaning.opening s l input) there.world there.state there.is

  -- where the program's step takes nothing, the code's takes nothing
  nothing_too : there.world.store.endfile ≡ false → HasAll there.world.store.left (step s l there.world there.state) → HasAll cut.world.store.left (mstep code l cut.world cut.state)
  nothing_too unmet all =
      elim from.next [
        | inl still ↦ (
            let seen_so : seen (mstep code l cut.world cut.state) ≡ seen_world cut.world None =
            ap seen (sym behind_code) ∙ still ∙ ap seen cut.come in
            has_all_too Machine Machine (mstep code l cut.world cut.state) (Going cut.world cut.state) cut.world.store.left seen_so (refl, ap (λ (x : Seen). x.endfile) there.same ∙ unmet)
            )
        | inr shown ↦ (
            let seen_so : seen (mstep code l cut.world cut.state) ≡ seen (step s l there.world there.state) =
            ap seen (sym behind_code) ∙ shown ∙ ap seen behind in
            has_all_too Configuration Machine (mstep code l cut.world cut.state) (step s l there.world there.state) cut.world.store.left seen_so
            (subst (λ (xs : List ℕ). HasAll {S = Configuration} xs (step s l there.world there.state)) (sym (ap (λ (x : Seen). x.left) there.same)) all)
            )
      ]

  -- what was cut off had written what the program has written before such a step
  pub before_read : BeforeARead faults now s l input old new
  before_read = record {
    steps = from.at;
    world = there.world;
    state = there.state;
    come = there.is;
    writes = subst (λ xs. Appends old new xs) (ap (λ (x : Seen). x.shown.output) there.same) cut.written;
    reads = λ unmet all. cut.reads (ap (λ (x : Seen). x.endfile) there.same ∙ unmet) (nothing_too unmet all);
  }
