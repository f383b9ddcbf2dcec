-- Compiled code shows what the program shows.
use Rattle.std.proofs.Common.{◌≡◌, ◌<◌, ℕ, zero, suc, List, refl, sym, ap, ◌∙◌, subst, add-one, arith}
use Rattle.sim_base.specs.declared.limits.Limits.{Limits}
use Rattle.sim_scope.specs.Source.{Source}
use Rattle.sim_code.specs.Code.{CodeOf}
use Rattle.sim_code.specs.Instances.{no_instances}
use Rattle.sim_code.specs.Machine.{Machine}
use Rattle.sim_code.specs.Outcome.{Ended, Going, NoRule, World, first_world, next}
use Rattle.sim_code.specs.Rows.{mstep}
use Rattle.sim_code.specs.Rows as rows
use Rattle.sim_code.proofs.Growing.{after_more}
use Rattle.sim_meaning.specs.Meaning.{opening, run, step}
use Rattle.sim_meaning.specs.Pending.{Configuration}
use Rattle.sim_meaning.specs.Sane.{HasRules, NamesObjects, StaysSane}
use Rattle.codegen.specs.Compiled.{Compiled}
use Rattle.sim_relate.specs.SameRuns.{SameRuns}
use Rattle.sim_relate.proofs.Relation.{StateAt, StateNow}
use Rattle.sim_relate.proofs.Main.{MovesNow, both, moves_now, quiet, several}
use Rattle.sim_relate.proofs.Quiet.{weight}
use Rattle.sim_relate.proofs.Ranked.{AlikeIn, Both, InEach, Meets, Moves, Quiet, Simulates, Slow, caught, forth, going, meets, meets_as, only, shown_step, simply}
use Rattle.sim_relate.proofs.Settle.{Slows, no_step, one_step, settle}

module _ (s : Source) (code : CodeOf) (ruled : HasRules s) (names : NamesObjects s) (stays : StaysSane s) (compiled : Compiled s code) (l : Limits) (input : List ℕ) where
  -- the program comes to the configuration, in this world
  abbrev Comes : World → Configuration → Type 0
  Comes o c = (n : ℕ) × (run s l input n ≡ Going o c)

  comes_on : (o : World) (c : Configuration) (p : World) (d : Configuration) → Comes o c → step s l o c ≡ Going p d → Comes p d
  comes_on o c p d h e =
      (suc h.0, ap (run s l input) (sym (add-one h.0)) ∙ after_more Configuration (step s l) h.0 1 (opening s l input) ∙ ap (next (step s l)) h.1 ∙ e)

  -- related when the machine has made so many steps more
  abbrev Ranks : ℕ → World → Configuration → Machine → Type 0
  Ranks n o c x = (y : Machine) × Slows code l n x y × StateNow s code c y × Comes o c

  abbrev Ranked : World → Configuration → Machine → Type 0
  Ranked o c x = (n : ℕ) × Ranks n o c x

  settled : (o : World) (c : Configuration) (x : Machine) → Comes o c → StateAt s code c x → Ranked o c x
  settled o c x h a = let r = settle s code l o c x (stays l input h.0 o c h.1) (names l input h.0 o c h.1) a in (r.1.0, (r.0, r.1.1, r.2, h))

  abbrev MovesOf : ℕ → World → Configuration → Machine → Type 0
  MovesOf n o c x = Moves Configuration Machine (step s l) (mstep code l) Ranks (weight s) n o c x

  matched : (o : World) (c : Configuration) (x : Machine) → Comes o c → Meets (mstep code l) (InEach (StateAt s code)) (step s l o c) o x → MovesOf 0 o c x
  matched o c x h a = Both (meets_as (mstep code l) (InEach (StateAt s code)) Ranked (step s l o c) (λ p d y e b. settled p d y (comes_on o c p d h e) b) o x a)

  -- the next step of the program is by a rule
  no_end : (o : World) (c : Configuration) → Comes o c → (p : World) → step s l o c ≡ Ended p NoRule → ⊥
  no_end o c h p e = ruled l input (suc h.0) p (ap (run s l input) (sym (add-one h.0)) ∙ after_more Configuration (step s l) h.0 1 (opening s l input) ∙ ap (next (step s l)) h.1 ∙ e)

  from_now : (o : World) (c : Configuration) (x : Machine) → Comes o c → MovesNow s code l o c x → MovesOf 0 o c x
  from_now o c x h (both a) = matched o c x h (meets (caught (simply (no_end o c h) a)))
  from_now o c x h (several f) = matched o c x h (f (no_end o c h))
  from_now o c x h (quiet d e a lt) = Quiet d e (settled o d x (comes_on o c o d h e) a) lt

  moves : (n : ℕ) (o : World) (c : Configuration) (x y : Machine) → Slows code l n x y → StateNow s code c y → Comes o c → MovesOf n o c x
  moves zero o c x _ no_step a h = from_now o c x h (moves_now s code compiled l o c x (stays l input h.0 o c h.1) (names l input h.0 o c h.1) a)
  moves (suc n) o c x y (one_step {y = z} f more) a h = let lt : n < suc n = omega arith in Slow z n (f o) (y, more, a, h) lt

  simulates : Simulates Configuration Machine (step s l) (mstep code l) Ranks (weight s)
  simulates n o c x a = moves n o c x a.0 a.1 a.2 a.3

  opens : AlikeIn Ranked (opening s l input) (rows.opening code l input)
  opens =
      subst (λ z. AlikeIn Ranked (opening s l input) (Going (first_world z l input) no_instances)) (sym compiled.texts)
      (going (settled _ no_instances no_instances (0, refl) (record { chain = record { still = refl; is = refl }; store = record { as_many = refl; at = λ j. tt; all = λ j x e. absurd (cc) }; parked = record { each = λ j. tt; counted = refl } })))

-- both runs show the same
pub same_runs : (s : Source) (code : CodeOf) → HasRules s → NamesObjects s → StaysSane s → Compiled s code → SameRuns s code
same_runs s code ruled names stays compiled = record {
  shows = λ l input n. forth Configuration Machine (step s l) (mstep code l) (Ranks s code ruled names stays compiled l input) (weight s) (simulates s code ruled names stays compiled l input) n _ _ (caught (opens s code ruled names stays compiled l input));
  only = λ l input m. only Configuration Machine (step s l) (mstep code l) (Ranks s code ruled names stays compiled l input) (weight s) (simulates s code ruled names stays compiled l input) m _ _ (caught (opens s code ruled names stays compiled l input));
  steps = λ l input m.
      let x = shown_step Configuration Machine (step s l) (mstep code l) (Ranks s code ruled names stays compiled l input) (weight s) (simulates s code ruled names stays compiled l input) m _ _ (caught (opens s code ruled names stays compiled l input)) in
      record { at = x.at; here = x.here; next = x.next };
}
