-- Instances that stand otherwise as components, with the chains that they keep.
use Rattle.std.proofs.Common.{◌≡◌, ℕ, zero, suc, ◌<◌, inl, inr, List, [], ◌∷◌, length, map, set, sym, subst, refl, ap, ◌∙◌, length-set}
use Rattle.std.proofs.lemmas.Option.{slice_get_within}
use Rattle.std.specs.Prelude.{true, Option, Some, slice_get, slice_index_or}
use Rattle.std.specs.declared.alloc.Global.{Global}
use Rattle.std.specs.declared.vec.Vec.{Vec}
use Rattle.sim_base.specs.declared.limits.Limits.{Limits}
use Rattle.sim_values.specs.declared.value.FrameRef.{FrameRef}
use Rattle.sim_chains.specs.Components.{Standing}
use Rattle.sim_code.specs.Instances.{is_live, is_live_in}
use Rattle.sim_code.specs.Machine.{Activation, Frames}
use Rattle.sim_code.specs.Outcome.{World}
use Rattle.frame_arena.specs.declared.frames.Component.{Component}
use Rattle.frame_arena.specs.declared.frames.Component.TheVariants as component
use Rattle.frame_arena.specs.declared.frames.Frame.{Frame}
use Rattle.frame_arena.specs.declared.slot.Slot.{Slot}
use Rattle.frame_arena.specs.Frames.{Has, Holds, IsKeeping, Leads, StandsAs, frame_at, keeping, keeps_chain, rooms}
use Rattle.frame_arena.proofs.Changes.{get_set_same, off, same_or_not}
use Rattle.frame_arena.proofs.Reading.{live_of}
use Rattle.object_machine.specs.declared.machine.Storage.{Storage}
use Rattle.object_machine.specs.declared.machine.Registers.{Registers}
use Rattle.object_machine.specs.declared.machine.Activation as working
use Rattle.object_machine.specs.Standing.{AllAtWork, AllFit, Outside, Parks, Stores, Works, activation_of, parked}
use Rattle.object_machine.specs.Transferring.{Anew}
use Rattle.object_machine.proofs.Linkages.{enrolled_later}
use Rattle.object_machine.proofs.Simulations.{simulating_later}
use Rattle.object_machine.proofs.Parks.{rooms_count, standings_other}
use Rattle.object_machine.proofs.Places.{has_leads, lead_later}

-- one that keeps a chain stands as one that does
pub keeping_stands : (c : Component) (chain : List Activation) → keeps_chain c ≡ true → StandsAs c (Some (keeping c chain))
keeping_stands component.NoObject chain e = absurd (off e)
keeping_stands component.Waiting chain e = (chain, refl)
keeping_stands component.Attached chain e = absurd (off e)
keeping_stands component.Detached chain e = (chain, refl)
keeping_stands component.Resumed chain e = absurd (off e)
keeping_stands component.Terminated chain e = absurd (off e)

-- a frame keeps its number
number_kept : (fs fs2 : List Frame) (cells : List Slot) (m : Frames) (standings : List (Standing Activation)) (place j n : ℕ) → Holds fs cells m → Has fs place j → ((r : FrameRef) → Leads fs m r → Leads fs2 (record m { standings = standings }) r) → Has fs2 place n → n ≡ j
number_kept fs fs2 cells m standings place j n h has leads there =
    let r : FrameRef = record { frame = place; stamp = j } in
    let led = leads r (has_leads fs cells m r h has) in
    sym there.2 ∙ (led.1 (ap is_live_in (live_of fs cells m place j h has))).2

abbrev pub Parked : Storage → (frames : Vec Frame Global) → (parks : Vec (Vec working.Activation Global) Global) → Storage
Parked p frames parks = record p { frames = frames; parks = parks }

module _ (l : Limits) (p : Storage) (before : Option (List ℕ)) (now : Outside) (o : World) (m : Frames) (s : Stores l p before now o m) (frames : Vec Frame Global) (parks : Vec (Vec working.Activation Global) Global)
    (place j : ℕ) (has : Has p.frames.items place j) (c : Component) (x : Standing Activation) (holds : Holds frames.items p.cells.items (record m { standings = set m.standings j x }))
    (leads : (standings : List (Standing Activation)) (r : FrameRef) → Leads p.frames.items m r → Leads frames.items (record m { standings = standings }) r) where
  abbrev Then : Frames
  Then = record m { standings = set m.standings j x }

  works : (r : Registers) (stack : List Slot) → Works p.frames.items m p.arrays.regions o.arrays r stack → Works frames.items Then p.arrays.regions o.arrays r stack
  works r stack v = record { home = leads Then.standings r.home v.home; slots = lead_later p.frames.items frames.items m Then (leads Then.standings) stack v.slots; arrays_lead = v.arrays_lead }

  parks_anew : ((at n : ℕ) (d : Component) → (at ≡ place → ⊥) → IsKeeping frames.items at n d → IsKeeping p.frames.items at n d) → (frame_at frames.items place).component ≡ c →
      (keeps_chain c ≡ true → x ≡ keeping c (map activation_of (parked parks.items place))) → length p.frames.items ≡ length frames.items → length parks.items ≡ length p.parks.items → ((at : ℕ) → (at ≡ place → ⊥) → parked parks.items at ≡ parked p.parks.items at) →
      AllAtWork p o m (parked parks.items place) → AllFit (parked parks.items place) → Parks frames.items parks.items Then p.arrays.regions o.arrays
  parks_anew chains stands here long count elsewhere work fit = record {
    each = count ∙ s.parks.each ∙ long;
    chains = λ at n d k.
        elim (same_or_not at place) [
          | inl e ↦
              let there : IsKeeping frames.items place n d = subst (λ z. IsKeeping frames.items z n d) e k in
              let same : c ≡ d = sym stands ∙ there.1 in
              let is_j : n ≡ j = number_kept p.frames.items frames.items p.cells.items m Then.standings place j n s.frames has (leads Then.standings) there.0 in
              let within : j < length m.standings = subst (λ w. j < w) (sym s.frames.counted) (slice_get_within m.instances j _ (s.frames.known place j has)) in
              ap (λ z. slice_get Then.standings z) is_j ∙ get_set_same m.standings j x within
              ∙ ap (λ z. Some z) (here (ap (λ c. keeps_chain c) same ∙ there.2) ∙ ap (λ c. keeping c (map activation_of (parked parks.items place))) same ∙ ap (λ z. keeping d (map activation_of (parked parks.items z))) (sym e))
          | inr ne ↦
              let was = chains at n d ne k in
              let other : n ≡ j → ⊥ = λ e. ne (s.frames.single at place n was.0 (subst (λ z. Has p.frames.items place z) (sym e) has)) in
              standings_other m.standings n j x other ∙ s.parks.chains at n d was ∙ ap (λ w. Some (keeping d (map activation_of w))) (sym (elsewhere at ne))
        ];
    work = λ at k t there.
        elim (same_or_not at place) [
          | inl e ↦ works t.registers t.stack.items (work k t (subst (λ z. slice_get (parked parks.items z) k ≡ Some t) e there))
          | inr ne ↦ works t.registers t.stack.items (s.parks.work at k t (subst (λ w. slice_get w k ≡ Some t) (elsewhere at ne) there))
        ];
    fit = λ at k t there.
        elim (same_or_not at place) [
          | inl e ↦ fit k t (subst (λ z. slice_get (parked parks.items z) k ≡ Some t) e there)
          | inr ne ↦ s.parks.fit at k t (subst (λ w. slice_get w k ≡ Some t) (elsewhere at ne) there)
        ];
  }

  pub anew : ((at n : ℕ) (d : Component) → (at ≡ place → ⊥) → IsKeeping frames.items at n d → IsKeeping p.frames.items at n d) → (frame_at frames.items place).component ≡ c →
      (keeps_chain c ≡ true → x ≡ keeping c (map activation_of (parked parks.items place))) → length p.frames.items ≡ length frames.items → length parks.items ≡ length p.parks.items → ((at : ℕ) → (at ≡ place → ⊥) → parked parks.items at ≡ parked p.parks.items at) →
      AllAtWork p o m (parked parks.items place) → AllFit (parked parks.items place) → Anew l p (Parked p frames parks) before now o m (set m.standings j x)
  anew chains stands here long count elsewhere work fit = record {
    stores = record {
      world = record { ticks = s.world.ticks; words = s.world.words; texts = s.world.texts; image = s.world.image; written = s.world.written };
      budget = s.budget;
      frames = holds;
      entered = s.entered;
      arrays = s.arrays;
      cells = s.cells;
      elements = λ at k names. leads Then.standings _ (s.elements at k names);
      parks = parks_anew chains stands here long count elsewhere work fit;
      members = enrolled_later p.frames.items frames.items m Then p.members o.members (leads Then.standings) s.members;
      simulations = simulating_later p.frames.items frames.items m Then p.simulations.items o.simulations (leads Then.standings) s.simulations;
    };
    works = works;
  }

-- ---- what a frame that stands otherwise leaves

pub record Restands (fs fs2 : List Frame) (place : ℕ) (c : Component) : Type 0 where
  pub stacks : rooms fs2 ≡ rooms fs
  pub holds : (cells : List Slot) (m : Frames) (standing : Standing Activation) → StandsAs c (Some standing) → Holds fs cells m → Holds fs2 cells (record m { standings = set m.standings (frame_at fs place).number standing })
  pub leads : (m : Frames) (standings : List (Standing Activation)) (r : FrameRef) → Leads fs m r → Leads fs2 (record m { standings = standings }) r
  pub chains : (at number : ℕ) (d : Component) → (at ≡ place → ⊥) → IsKeeping fs2 at number d → IsKeeping fs at number d
  pub stands : (frame_at fs2 place).component ≡ c

pub restands_in : (fs fs2 gs gs2 : List Frame) (place : ℕ) (c : Component) → fs ≡ gs → gs2 ≡ fs2 → Restands fs fs2 place c → Restands gs gs2 place c
restands_in fs fs2 gs gs2 place c e e2 r = subst (λ g. Restands g gs2 place c) e (subst (λ h. Restands fs h place c) (sym e2) r)

pub anew_stood : (l : Limits) (p : Storage) (before : Option (List ℕ)) (now : Outside) (o : World) (m : Frames) (s : Stores l p before now o m) (frames : Vec Frame Global) (parks : Vec (Vec working.Activation Global) Global)
    (place j : ℕ) (c : Component) (x : Standing Activation) → Restands p.frames.items frames.items place c → Has p.frames.items place j → StandsAs c (Some x) →
    (keeps_chain c ≡ true → x ≡ keeping c (map activation_of (parked parks.items place))) → length parks.items ≡ length p.parks.items → ((at : ℕ) → (at ≡ place → ⊥) → parked parks.items at ≡ parked p.parks.items at) →
    AllAtWork p o m (parked parks.items place) → AllFit (parked parks.items place) → Anew l p (Parked p frames parks) before now o m (set m.standings j x)
anew_stood l p before now o m s frames parks place j c x r has stands here count elsewhere work fit =
    anew l p before now o m s frames parks place j has c x
    (subst (λ n. Holds frames.items p.cells.items (record m { standings = set m.standings n x })) has.2 (r.holds p.cells.items m x stands s.frames)) (λ standings q led. r.leads m standings q led)
    r.chains r.stands here (rooms_count p.frames.items frames.items r.stacks) count elsewhere work fit

-- ---- what was given back

-- No frame stands otherwise where the instance of another was given back.
pub anew_gone : (l : Limits) (p : Storage) (before : Option (List ℕ)) (now : Outside) (o : World) (m : Frames) (s : Stores l p before now o m) (f : FrameRef) (x : Standing Activation) → Leads p.frames.items m f → (is_live m f.stamp ≡ true → ⊥) → Anew l p p before now o m (set m.standings f.stamp x)
anew_gone l p before now o m s f x leads gone =
    let then : Frames = record m { standings = set m.standings f.stamp x } in
    let other : (place n : ℕ) → Has p.frames.items place n → n ≡ f.stamp → ⊥ =
    λ place n has e. gone (ap is_live_in (live_of p.frames.items p.cells.items m place f.stamp s.frames (subst (λ k. Has p.frames.items place k) e has))) in
    let works : (r : Registers) (stack : List Slot) → Works p.frames.items m p.arrays.regions o.arrays r stack → Works p.frames.items then p.arrays.regions o.arrays r stack =
    λ r stack w. record { home = w.home; slots = w.slots; arrays_lead = w.arrays_lead } in
    record {
      stores = record {
        world = s.world;
        budget = s.budget;
        frames = record {
          known = s.frames.known;
          found = s.frames.found;
          standings = λ place n has. subst (λ q. StandsAs (frame_at p.frames.items place).component q) (sym (standings_other m.standings n f.stamp x (other place n has))) (s.frames.standings place n has);
          counted = length-set m.standings f.stamp x ∙ s.frames.counted;
          single = s.frames.single;
          parents = s.frames.parents;
          links = s.frames.links;
          within = s.frames.within;
          apart = s.frames.apart;
        };
        entered = s.entered;
        arrays = s.arrays;
        cells = s.cells;
        elements = s.elements;
        parks = record {
          each = s.parks.each;
          chains = λ place n c k. standings_other m.standings n f.stamp x (other place n k.0) ∙ s.parks.chains place n c k;
          work = λ place k t there. works t.registers t.stack.items (s.parks.work place k t there);
          fit = s.parks.fit;
        };
        members = enrolled_later p.frames.items p.frames.items m then p.members o.members (λ r led. led) s.members;
        simulations = simulating_later p.frames.items p.frames.items m then p.simulations.items o.simulations (λ r led. led) s.simulations;
      };
      works = works;
    }

-- ---- more than one

-- one after the other
pub anew_twice : (l : Limits) (p p2 p3 : Storage) (before : Option (List ℕ)) (now : Outside) (o : World) (m : Frames) (standings standings2 : List (Standing Activation)) →
    Anew l p p2 before now o m standings → Anew l p2 p3 before now o (record m { standings = standings }) standings2 → Anew l p p3 before now o m standings2
anew_twice l p p2 p3 before now o m standings standings2 a b = record { stores = b.stores; works = λ r stack w. b.works r stack (a.works r stack w) }

-- where nothing is changed
pub anew_same : (l : Limits) (p : Storage) (before : Option (List ℕ)) (now : Outside) (o : World) (m : Frames) → Stores l p before now o m → Anew l p p before now o m m.standings
anew_same l p before now o m s = record { stores = s; works = λ r stack w. w }

pub anew_as : (l : Limits) (p p2 : Storage) (before : Option (List ℕ)) (now : Outside) (o : World) (m : Frames) (standings standings2 : List (Standing Activation)) → standings ≡ standings2 → Anew l p p2 before now o m standings → Anew l p p2 before now o m standings2
anew_as l p p2 before now o m standings standings2 e a = subst (λ w. Anew l p p2 before now o m w) e a

-- ---- what stands at different places

module _ {X : Type 0} where
  pub set_apart : (xs : List X) (i j : ℕ) (x y : X) → (i ≡ j → ⊥) → set (set xs i x) j y ≡ set (set xs j y) i x
  set_apart [] i j x y h = refl
  set_apart (z ∷ zs) zero zero x y h = absurd (h refl)
  set_apart (z ∷ zs) zero (suc j) x y h = refl
  set_apart (z ∷ zs) (suc i) zero x y h = refl
  set_apart (z ∷ zs) (suc i) (suc j) x y h = ap (λ w. z ∷ w) (set_apart zs i j x y (λ e. h (ap suc e)))

  -- what is set last covers what was set there first
  pub set_twice : (xs : List X) (i : ℕ) (a x : X) → set (set xs i a) i x ≡ set xs i x
  set_twice [] i a x = refl
  set_twice (z ∷ zs) zero a x = refl
  set_twice (z ∷ zs) (suc i) a x = ap (λ w. z ∷ w) (set_twice zs i a x)

  pub set_over : (xs : List X) (i j : ℕ) (a x y : X) → set (set (set xs i a) j y) i x ≡ set (set xs j y) i x
  set_over [] i j a x y = refl
  set_over (z ∷ zs) zero zero a x y = refl
  set_over (z ∷ zs) zero (suc j) a x y = refl
  set_over (z ∷ zs) (suc i) zero a x y = ap (λ w. y ∷ w) (set_twice zs i a x)
  set_over (z ∷ zs) (suc i) (suc j) a x y = ap (λ w. z ∷ w) (set_over zs i j a x y)

  pub index_other : (xs : List X) (i j : ℕ) (x d : X) → (i ≡ j → ⊥) → slice_index_or (set xs j x) i d ≡ slice_index_or xs i d
  index_other [] i j x d h = refl
  index_other (y ∷ ys) zero zero x d h = absurd (h refl)
  index_other (y ∷ ys) zero (suc j) x d h = refl
  index_other (y ∷ ys) (suc i) zero x d h = refl
  index_other (y ∷ ys) (suc i) (suc j) x d h = index_other ys i j x d (λ e. h (ap suc e))
