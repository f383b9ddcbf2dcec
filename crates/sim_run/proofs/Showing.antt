-- From a run of code that shows what its program means to the end of the program's own run, and back.
use Rattle.std.proofs.Common.{◌≡◌, ℕ, ◌+◌, ◌-◌, List, ◌++◌, Option, Some, None, inl, inr, refl, sym, ap, subst, ◌∙◌, arith}
use Rattle.std.proofs.lemmas.Bool.{cases_lt}
use Rattle.sim_base.specs.declared.limits.Limits.{Limits}
use Rattle.sim_code.specs.Code.{CodeOf}
use Rattle.sim_code.specs.Growing.{OutputGrows, written}
use Rattle.sim_code.specs.Outcome.{Ended, Ending, Going, NoRule, Run, Shown, World, shown, shown_world}
use Rattle.sim_code.specs.Machine.{Machine}
use Rattle.sim_code.specs.Rows.{mrun, mstep, opening}
use Rattle.sim_meaning.specs.Meaning.{run}
use Rattle.sim_meaning.specs.Pending.{Configuration}
use Rattle.sim_ports.specs.Bytes.{AddsPrefix}
use Rattle.sim_scope.specs.Source.{Source}
use Rattle.standard_calls.specs.Taking.{HasAll}
use Rattle.object_machine.specs.Taking.{TakesNothing as CodeTakesNothing}
use Rattle.sim_run.specs.RunEnds.{Begins, IsRunnable, MeaningEnds, TakesNothing}
use Rattle.sim_relate.specs.SameRuns.{SameRuns, Seen, seen}
use Rattle.sim_run.proofs.OneEnd.{ended_later}
use Rattle.sim_run.proofs.Prefixes.{adds_more}

-- a run that has ended so, having written this
pub record EndsIn {S : Type 0} (r : Run S) (ending : Ending) (output : List ℕ) : Type 0 where
  pub world : World
  pub is : r ≡ Ended world ending
  pub writes : output ≡ world.store.written

-- what is shown of an ended run tells that, how and with what it ended
ended_alike : (S : Type 0) (r : Run S) (o : World) (e : Ending) → shown_world o (Some e) ≡ shown r → EndsIn r e o.store.written
ended_alike S (Going p s) o e same = absurd (goes_on e (ap (λ (x : Shown). x.ending) same))
  where
    goes_on : (e : Ending) → Some e ≡ None → ⊥
    goes_on e h = cc
ended_alike S (Ended p d) o e same =
    let ending : e ≡ d = ends_so e d (ap (λ (x : Shown). x.ending) same) in
    record { world = p; is = ap (λ x. Ended p x) (sym ending); writes = ap (λ (x : Shown). x.output) same }
  where
    ends_so : (e d : Ending) → Some e ≡ Some d → e ≡ d
    ends_so e d h = cc

ends_too : (S M : Type 0) (r : Run S) (q : Run M) (e : Ending) (output : List ℕ) → EndsIn q e output → shown q ≡ shown r → EndsIn r e output
ends_too S M r q e output ends same =
    let there : EndsIn r e ends.world.store.written = ended_alike S r ends.world e (sym (ap shown ends.is) ∙ same) in
    record { world = there.world; is = there.is; writes = ends.writes ∙ there.writes }

-- what is seen tells what is shown
shown_alike : (S M : Type 0) (q : Run M) (r : Run S) → seen q ≡ seen r → shown q ≡ shown r
shown_alike S M q r same = sym (is_shown q) ∙ ap (λ (x : Seen). x.shown) same ∙ is_shown r
  where
    is_shown : {T : Type 0} (r : Run T) → (seen r).shown ≡ shown r
    is_shown (Going o s) = refl
    is_shown (Ended o e) = refl

-- and that nothing was taken
pub has_all_too : (S M : Type 0) (q : Run M) (r : Run S) (input : List ℕ) → seen q ≡ seen r → HasAll input r → HasAll input q
has_all_too S M (Going p m) (Going o s) input same h = (ap (λ (x : Seen). x.left) same ∙ h.0, ap (λ (x : Seen). x.endfile) same ∙ h.1)
has_all_too S M (Going p m) (Ended o e) input same h = absurd (goes_on e (ap (λ (x : Seen). x.shown.ending) same))
  where
    goes_on : (e : Ending) → None ≡ Some e → ⊥
    goes_on e h = cc
has_all_too S M (Ended p d) (Going o s) input same h = absurd (goes_on d (ap (λ (x : Seen). x.shown.ending) same))
  where
    goes_on : (e : Ending) → Some e ≡ None → ⊥
    goes_on e h = cc
has_all_too S M (Ended p d) (Ended o e) input same h =
    (ap (λ (x : Seen). x.left) same ∙ h.0, ap (λ (x : Seen). x.endfile) same ∙ h.1, λ line is. h.2 line (sym (ends_so d e (ap (λ (x : Seen). x.shown.ending) same)) ∙ is))
  where
    ends_so : (e d : Ending) → Some e ≡ Some d → e ≡ d
    ends_so e d h = cc

module _ (s : Source) (code : CodeOf) (same : SameRuns s code) (l : Limits) (input : List ℕ) where
  -- code of a program that takes nothing takes nothing
  pub code_takes : TakesNothing s l input → CodeTakesNothing code l input
  code_takes never m =
      let n = same.only l input m in
      has_all_too Configuration Machine (mrun code l input m) (run s l input n.0) input n.1 (never n.0)

  -- where the code has ended the program has
  pub program_ends : (n : ℕ) (e : Ending) (output : List ℕ) → EndsIn (mrun code l input n) e output → MeaningEnds s l input e output
  program_ends n e output ends =
      let k = same.only l input n in
      let there : EndsIn (run s l input k.0) e output = ends_too Configuration Machine (run s l input k.0) (mrun code l input n) e output ends (shown_alike Configuration Machine (mrun code l input n) (run s l input k.0) k.1) in
      record { steps = k.0; world = there.world; ends = there.is; writes = there.writes }

  -- and where the program has the code has
  pub code_ends : (e : Ending) (output : List ℕ) → MeaningEnds s l input e output → (n : ℕ) × EndsIn (mrun code l input n) e output
  code_ends e output ends =
      let m = same.shows l input ends.steps in
      let here : EndsIn (run s l input ends.steps) e output = record { world = ends.world; is = ends.ends; writes = ends.writes } in
      (m.0, ends_too Machine Configuration (mrun code l input m.0) (run s l input ends.steps) e output here (sym (shown_alike Configuration Machine (mrun code l input m.0) (run s l input ends.steps) m.1)))

  -- what begins the output of a moment begins that of the end
  begins_ending : OutputGrows → (old new : Option (List ℕ)) (n : ℕ) → AddsPrefix old new (written (mrun code l input n)) → (e : Ending) (output : List ℕ) → MeaningEnds s l input e output → AddsPrefix old new output
  begins_ending grows old new n adds e output ends =
      let m = code_ends e output ends in
      let whole : output ≡ written (mrun code l input m.0) = m.1.writes ∙ sym (ap written m.1.is) in
      subst (λ xs. AddsPrefix old new xs) (sym whole)
      (elim (cases_lt m.0 n) [
        | inl later ↦ (
            let k : n ≡ m.0 + (n - m.0) = omega (arith, later) in
            let stays : mrun code l input n ≡ mrun code l input m.0 = ap (mrun code l input) k ∙ ended_later Machine (mstep code l) m.0 (n - m.0) (opening code l input) m.1.world e m.1.is ∙ sym m.1.is in
            subst (λ (r : Run Machine). AddsPrefix old new (written r)) stays adds
            )
        | inr sooner ↦ (
            let k : m.0 ≡ n + (m.0 - n) = omega (arith, sooner) in
            let more = grows code l input n (m.0 - n) in
            let longer : written (mrun code l input m.0) ≡ written (mrun code l input n) ++ more.0 = ap (λ z. written (mrun code l input z)) k ∙ more.1 in
            subst (λ xs. AddsPrefix old new xs) (sym longer) (adds_more old new (written (mrun code l input n)) more.0 adds)
            )
      ])

  pub begins_end : OutputGrows → (old new : Option (List ℕ)) (n : ℕ) → AddsPrefix old new (written (mrun code l input n)) → Begins s l input old new
  begins_end grows old new n adds end output ends = begins_ending grows old new n adds ends.ending output ends.ends

  -- code of a program that can be run is never without a rule
  pub is_ruled : IsRunnable s → (n : ℕ) (o : World) → mrun code l input n ≡ Ended o NoRule → ⊥
  is_ruled runs n o is =
      let there = program_ends n NoRule o.store.written (record { world = o; is = is; writes = refl }) in
      runs.ruled l input there.steps there.world there.ends
