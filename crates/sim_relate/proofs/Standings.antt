-- Stores that differ in how their instances stand as components.
use Rattle.std.proofs.Common.{◌≡◌, ℕ, List, [], ◌∷◌, refl, ◌∙◌}
use Rattle.std.proofs.lemmas.List.{length-set}
use Rattle.std.specs.Prelude.{slice_get, slice_set}
use Rattle.sim_chains.specs.Components.{Standing}
use Rattle.sim_scope.specs.Source.{Source}
use Rattle.sim_code.specs.Code.{CodeOf}
use Rattle.sim_code.specs.Instances.{going_below}
use Rattle.sim_code.specs.Machine.{Frames}
use Rattle.sim_code.specs.Machine as machine
use Rattle.sim_code.specs.Outcome.{World}
use Rattle.sim_code.proofs.Lifts.{Both}
use Rattle.sim_code.proofs.Simulation.{Alike, ended, going}
use Rattle.sim_meaning.specs.Pending.{Activation, Instances}
use Rattle.sim_meaning.specs.Sane.{OwnersKept, OwnersOf}
use Rattle.sim_relate.proofs.Carried.{both_later, chain_on_later, top_later}
use Rattle.sim_relate.proofs.Heads.{Heads, both_refl, heads_refl, later_all}
use Rattle.sim_relate.proofs.Known.{Keeps, Later, owner_of}
use Rattle.sim_relate.proofs.Lists.{set_both}
use Rattle.sim_relate.proofs.Relation.{Bottom, ChainAt, ChainOn, ObjectIs, StandingAt, StandingsAt, StateAt, StoreAt}
use Rattle.sim_relate.proofs.Values.{pair_later}
use Rattle.sim_relate.proofs.Waiting.{GetsIs, NoValue, Wait, suspended, suspended_by, suspended_in}

-- control goes on below, or there is no rule
pub goes_below : (s : Source) (code : CodeOf) (o : World) (m : Instances) (fs : Frames) → StoreAt s code m fs → StandingsAt s code m fs → (chain : List Activation) (under : List machine.Activation) → ChainAt s code m fs chain NoValue under → Alike (StateAt s code) (going_below o chain m) (going_below o under fs)
goes_below s code o m fs a parked [] [] c = ended
goes_below s code o m fs a parked [] (x ∷ under) c = absurd (cc (c.is))
goes_below s code o m fs a parked (y ∷ chain) [] c = absurd c
goes_below s code o m fs a parked (y ∷ chain) (x ∷ under) c = going (record { chain = c; store = a; parked = parked })

-- Some instances wait for the same main components as before, if for any.
module _ (s : Source) (code : CodeOf) (m : Instances) (fs : Frames) (a : StoreAt s code m fs) (xs : List (Standing Activation)) (ys : List (Standing machine.Activation)) (Of : ℕ → Type 0) (same : (j : ℕ) → Of j → suspended_in xs j ≡ suspended m j) where
  abbrev pub stood_m : Instances
  stood_m = record m { standings = xs }

  abbrev pub stood_fs : Frames
  stood_fs = record fs { standings = ys }

  stood_later : Later s m stood_m
  stood_later = later_all s m stood_m (λ k. both_refl Heads heads_refl (slice_get m.instances k))

  stood_keeps : Keeps s code m fs stood_fs Of
  stood_keeps = record { temps = λ j t c block of st found temp. refl }

  pub stood_store : StoreAt s code stood_m stood_fs
  stood_store = record { as_many = a.as_many; at = λ j. pair_later s code m stood_m stood_later (slice_get m.instances j) (slice_get fs.instances j) (a.at j); all = λ j x e. stood_later.stands j x.text (a.all j x e) }

  -- a chain of such instances
  pub stood_on : (d : Wait) (chain : List Activation) → OwnersOf Of chain → (v : Wait) (below : List machine.Activation) → ChainOn s code (Bottom s code d) m fs chain v below → ChainOn s code (Bottom s code d) stood_m stood_fs chain v below
  stood_on d chain all v below c = chain_on_later s code m stood_m fs stood_fs stood_later Of stood_keeps same (Bottom s code d) (Bottom s code d) (λ w b g. g) chain all v below c

  -- a chain with another instance on top
  pub stood_head : (x : Activation) (rest : List Activation) → OwnersOf Of rest → (v v' : Wait) (y : machine.Activation) (below : List machine.Activation) (c : ChainAt s code m fs (x ∷ rest) v (y ∷ below)) → GetsIs (suspended_by stood_m (owner_of c.block.thunk x.instance)) v' c.gets → ChainAt s code stood_m stood_fs (x ∷ rest) v' (y ∷ below)
  stood_head x rest all v v' y below c gets = top_later s code m stood_m fs stood_fs stood_later (Bottom s code NoValue) (Bottom s code NoValue) x rest v v' y below c (λ frame n behind within lt. refl) gets (λ w b. stood_on NoValue rest all w below b)

  pub stood_object : (j : ℕ) → ObjectIs s code m j → ObjectIs s code stood_m j
  stood_object j x = record { own = x.own; is = x.is; class = x.class }

  pub stood_each : OwnersKept Of m → StandingsAt s code m fs → (j : ℕ) → Both (StandingAt s code stood_m stood_fs j) (slice_get m.standings j) (slice_get fs.standings j)
  stood_each kept old j = both_later s code m stood_m fs stood_fs stood_later Of stood_keeps same j (slice_get m.standings j) (slice_get fs.standings j) (λ z is. kept j z is) (old.each j)

-- one instance stands in another way
pub stands_one : (s : Source) (code : CodeOf) (m : Instances) (fs : Frames) (a : StoreAt s code m fs) (j : ℕ) (x : Standing Activation) (y : Standing machine.Activation) (Of : ℕ → Type 0) → ((i : ℕ) → Of i → suspended_in (slice_set m.standings j x) i ≡ suspended m i) → OwnersKept Of m → StandingsAt s code m fs
    → StandingAt s code (record m { standings = slice_set m.standings j x }) (record fs { standings = slice_set fs.standings j y }) j x y → StandingsAt s code (record m { standings = slice_set m.standings j x }) (record fs { standings = slice_set fs.standings j y })
stands_one s code m fs a j x y Of same kept old here = record {
  each = set_both (StandingAt s code (record m { standings = slice_set m.standings j x }) (record fs { standings = slice_set fs.standings j y })) m.standings fs.standings j x y (stood_each s code m fs a (slice_set m.standings j x) (slice_set fs.standings j y) Of same kept old) here;
  counted = length-set m.standings j x ∙ old.counted;
}

-- two do
pub stands_two : (s : Source) (code : CodeOf) (m : Instances) (fs : Frames) (a : StoreAt s code m fs) (i : ℕ) (x : Standing Activation) (x' : Standing machine.Activation) (j : ℕ) (y : Standing Activation) (y' : Standing machine.Activation) (Of : ℕ → Type 0) → ((n : ℕ) → Of n → suspended_in (slice_set (slice_set m.standings i x) j y) n ≡ suspended m n) → OwnersKept Of m → StandingsAt s code m fs
    → StandingAt s code (record m { standings = slice_set (slice_set m.standings i x) j y }) (record fs { standings = slice_set (slice_set fs.standings i x') j y' }) i x x' → StandingAt s code (record m { standings = slice_set (slice_set m.standings i x) j y }) (record fs { standings = slice_set (slice_set fs.standings i x') j y' }) j y y'
    → StandingsAt s code (record m { standings = slice_set (slice_set m.standings i x) j y }) (record fs { standings = slice_set (slice_set fs.standings i x') j y' })
stands_two s code m fs a i x x' j y y' Of same kept old one other =
    let now = StandingAt s code (record m { standings = slice_set (slice_set m.standings i x) j y }) (record fs { standings = slice_set (slice_set fs.standings i x') j y' }) in
    record {
      each =
          set_both now (slice_set m.standings i x) (slice_set fs.standings i x') j y y'
          (set_both now m.standings fs.standings i x x' (stood_each s code m fs a (slice_set (slice_set m.standings i x) j y) (slice_set (slice_set fs.standings i x') j y') Of same kept old) one) other;
      counted = length-set (slice_set m.standings i x) j y ∙ length-set m.standings i x ∙ old.counted;
    }
