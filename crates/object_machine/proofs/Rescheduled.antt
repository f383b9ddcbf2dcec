-- What is left where a procedure has changed a simulation, and who goes on.
use Rattle.std.proofs.Common.{◌≡◌, ℕ, zero, suc, ◌<◌, List, [], ◌∷◌, length, sym, subst, refl, ap, ◌∙◌, arith}
use Rattle.std.proofs.lemmas.Option.{same_Some}
use Rattle.std.specs.Prelude.{IfSome, Option, Some, None, Result, Ok, Err, get_or, slice_get, slice_set}
use Rattle.sim_base.specs.declared.limits.Limits.{Limits}
use Rattle.sim_base.specs.declared.run_error.RunError.{RunError}
use Rattle.notices.specs.declared.next.Next.{Next}
use Rattle.notices.specs.declared.notice.Notice.{Notice}
use Rattle.notices.specs.Scheduling.{answer_of, list_after, passivated}
use Rattle.sim_code.specs.Events.{computing}
use Rattle.sim_code.specs.Machine.{Activation, Frames, owner}
use Rattle.sim_code.specs.Outcome.{Simulation, World}
use Rattle.sim_code.specs.Scheduling.{deciding}
use Rattle.sim_code.specs.Simulations.{with_end, with_simulation}
use Rattle.frame_arena.specs.declared.frames.Frame.{Frame}
use Rattle.frame_arena.specs.Frames.{Leads}
use Rattle.object_machine.specs.declared.machine.Storage.{Storage}
use Rattle.object_machine.specs.declared.machine.Activation as working
use Rattle.object_machine.specs.declared.machine.Flow.{Flow}
use Rattle.object_machine.specs.declared.simulated.Simulated.{Simulated}
use Rattle.object_machine.specs.Deciding.{IsDecided, IsIn, settling}
use Rattle.object_machine.specs.Enrolling.{AllReach, Rises, stamps}
use Rattle.object_machine.specs.Rescheduling.{Ends, Passivates, Rescheduled, Reschedules}
use Rattle.object_machine.specs.Simulating.{AllAbove, IsSimulated, Simulating, simulation_of}
use Rattle.object_machine.specs.Standing.{InWorld, Leaves, Outside, Stands}
use Rattle.object_machine.proofs.Going.{along}
use Rattle.object_machine.proofs.Jumps.{found_at}
use Rattle.object_machine.proofs.Simulations.{simulating_set}

-- ---- by the lists of notices

-- where a procedure is not refused a notice is left
pub notice_left : (old : List Notice) (r : Result (List Notice) RunError) (a : Result Next RunError) → a ≡ answer_of old r → IsDecided a → list_after old r ≡ [] → ⊥
notice_left old (Ok []) a e d none = subst (λ a. IsDecided a) e d
notice_left old (Ok (n ∷ l)) a e d none = cc
notice_left old (Err f) a e d none = subst (λ a. IsDecided a) e d

pub get_set : {X : Type 0} (xs : List X) (i : ℕ) (x y : X) → slice_get xs i ≡ Some x → slice_get (slice_set xs i y) i ≡ Some y
get_set [] i x y e = absurd (cc)
get_set (z ∷ zs) zero x y e = refl
get_set (z ∷ zs) (suc i) x y e = get_set zs i x y e

pub same_ends : (y : Simulated) → Ends y y
same_ends y = record { block = refl; processes = refl; each = refl; sim = refl }

module _ (y y1 y2 : Simulated) (ends : Ends y y1) (r : Result (List Notice) RunError) (a : Result Next RunError) (h : Reschedules y1 y2 r a) where
  abbrev pub After : Simulation
  After = record (simulation_of y1) { notices = list_after (simulation_of y1).notices r }

  is_after : simulation_of y2 ≡ After
  is_after =
      ap (λ b. record { block = b.stamp; processes = stamps y2.processes.items; ended = y2.ended.items; notices = y2.sim.notices }) h.block
      ∙ ap (λ l. record { block = y1.block.stamp; processes = stamps l.items; ended = y2.ended.items; notices = y2.sim.notices }) h.processes
      ∙ ap (λ l. record { block = y1.block.stamp; processes = stamps y1.processes.items; ended = l.items; notices = y2.sim.notices }) h.ended
      ∙ ap (λ l. record { block = y1.block.stamp; processes = stamps y1.processes.items; ended = y1.ended.items; notices = l }) h.notices

  still_simulated : (fs : List Frame) (m : Frames) → IsDecided a → IsSimulated fs m y → IsSimulated fs m y2
  still_simulated fs m d e =
      let block = h.block ∙ ends.block in
      let processes = h.processes ∙ ends.processes in
      let each = ap (λ v. length v.items) h.ended ∙ ends.each in
      let count = ap (λ v. length v.items) processes in
      let before = ap (λ q. q.room) ends.sim in
      let more = h.room in
      let room = e.room in record {
        block = subst (Leads fs m) (sym block) e.block;
        lead = subst (λ v. AllReach fs m v.items) (sym processes) e.lead;
        rises = subst (λ v. Rises (stamps v.items)) (sym processes) e.rises;
        above = subst (λ b. AllAbove b.stamp (stamps y2.processes.items)) (sym block) (subst (λ v. AllAbove y.block.stamp (stamps v.items)) (sym processes) e.above);
        each = each ∙ e.each ∙ sym count;
        room = omega (arith, count, before, more, room);
        begun = λ none. notice_left y1.sim.notices r a h.answers d (sym h.notices ∙ none);
      }

module _ (l : Limits) (line : ℕ) (p p2 : Storage) (top : working.Activation) (below : List working.Activation) (before : Option (List ℕ)) (now : Outside) (o : World) (m : Frames) (s : Stands l p top.registers top.stack.items below before now o m)
    (place : ℕ) (y y1 : Simulated) (there : slice_get p.simulations.items place ≡ Some y) (r : Result (List Notice) RunError) (a : Result Next RunError) (h : Rescheduled p p2 place y y1 r a) where
  abbrev After_it : Simulation
  After_it = After y y1 h.after h.ends r a h.is

  abbrev pub WorldAfter : World
  WorldAfter = with_simulation o place After_it

  pub in_world_later : InWorld p2 before now o
  in_world_later = subst (λ q. InWorld q before now o) (sym h.same) (record { ticks = s.stores.world.ticks; words = s.stores.world.words; texts = s.stores.world.texts; image = s.stores.world.image; written = s.stores.world.written })

  pub stands_later : IsDecided a → Stands l p2 top.registers top.stack.items below before now WorldAfter m
  stands_later d = subst (λ q. Stands l q top.registers top.stack.items below before now WorldAfter m) (sym h.same) (record {
    stores = record {
      world = record { ticks = s.stores.world.ticks; words = s.stores.world.words; texts = s.stores.world.texts; image = s.stores.world.image; written = s.stores.world.written };
      budget = s.stores.budget;
      frames = s.stores.frames;
      entered = s.stores.entered;
      arrays = s.stores.arrays;
      cells = s.stores.cells;
      elements = s.stores.elements;
      parks = s.stores.parks;
      members = s.stores.members;
      simulations = subst (λ v. Simulating p.frames.items m v (slice_set o.simulations place After_it)) (sym h.left)
          (subst (λ x. Simulating p.frames.items m (slice_set p.simulations.items place h.after) (slice_set o.simulations place x)) (is_after y y1 h.after h.ends r a h.is)
          (simulating_set p.frames.items m p.simulations.items o.simulations place y h.after s.stores.simulations there (h.is.block ∙ h.ends.block) (still_simulated y y1 h.after h.ends r a h.is p.frames.items m d (s.stores.simulations.each place y there))));
    };
    top = s.top;
    others = s.others;
  })

  pub is_in_later : IsIn p2.simulations.items place (simulation_of y1)
  is_in_later z at =
      let same : h.after ≡ z = same_Some _ _ (sym (ap (λ v. slice_get v place) h.left ∙ get_set p.simulations.items place y h.after there) ∙ at) in
      (ap (λ b. b.stamp) (sym h.is.block) ∙ ap (λ k. k.block.stamp) same, ap (λ v. stamps v.items) (sym h.is.processes) ∙ ap (λ k. stamps k.processes.items) same)

  decides_by : (chain : List Activation) (r : Result (List Notice) RunError) → deciding owner line o chain m (place, simulation_of y1) r
      ≡ settling (answer_of y1.sim.notices r) line o (with_simulation o place (record (simulation_of y1) { notices = list_after y1.sim.notices r })) chain m (simulation_of y1)
  unfolding deciding computing
  decides_by chain (Ok new) = refl
  decides_by chain (Err e) = refl

  pub decides_as : (chain : List Activation) → deciding owner line o chain m (place, simulation_of y1) r ≡ settling a line o WorldAfter chain m (simulation_of y1)
  decides_as chain = decides_by chain r ∙ ap (λ a. settling a line o WorldAfter chain m (simulation_of y1)) (sym h.is.answers)

  -- where `decide` leaves what is settled, that is what is decided
  pub decided_leaves : (f : Flow) (p3 : Storage) (top3 : working.Activation) (below3 : List working.Activation) (chain : List Activation) →
      ((o w : World) (x : Simulation) → InWorld p2 before now o → (IsDecided a → Stands l p2 top.registers top.stack.items below before now w m) → IsIn p2.simulations.items place x →
      Leaves f l line p3 top3.registers top3.stack.items below3 before now (settling a line o w chain m x)) →
      Leaves f l line p3 top3.registers top3.stack.items below3 before now (deciding owner line o chain m (place, simulation_of y1) r)
  decided_leaves f p3 top3 below3 chain row =
      along l line p3 below3 before now f top3.registers top3.stack.items _ _ (decides_as chain) (row o WorldAfter (simulation_of y1) in_world_later stands_later is_in_later)

-- what is made of the simulation at a place
pub rescheduled_at : (f : Simulated → Result (List Notice) RunError) (p p2 : Storage) (place : ℕ) (y y2 : Simulated) (q : Option (Result Next RunError)) → place < length p.simulations.items → y ≡ get_or p.simulations.items place y →
    p2.simulations.items ≡ slice_set p.simulations.items place y2 → p2 ≡ record p { simulations = p2.simulations } → IfSome q (λ a. Reschedules y y2 (f y) a) →
    IfSome q (λ a. (z : Simulated) → slice_get p.simulations.items place ≡ Some z → Rescheduled p p2 place z z (f z) a)
rescheduled_at f p p2 place y y2 None within at left same h = tt
rescheduled_at f p p2 place y y2 (Some a) within at left same h = λ z there.
    let e : y ≡ z = same_Some _ _ (sym (found_at p.simulations.items place y within at) ∙ there) in
    subst (λ z. Rescheduled p p2 place z z (f z) a) e (record { after = y2; ends = same_ends y; is = h; left = left; same = same })

pub some_within : {X : Type 0} (xs : List X) (i : ℕ) → i < length xs → (x : X) × (slice_get xs i ≡ Some x)
some_within [] i h = absurd (omega (arith, h))
some_within (x ∷ xs) zero h = (x, refl)
some_within (x ∷ xs) (suc i) h = some_within xs i (omega (arith, h))

-- `passivate`, before which the process of an object may be terminated
pub passivated_at : (p p2 : Storage) (place : ℕ) (ending : Option ℕ) (y y1 y2 : Simulated) (q : Option (Result Next RunError)) → place < length p.simulations.items → y ≡ get_or p.simulations.items place y →
    p2.simulations.items ≡ slice_set p.simulations.items place y2 → p2 ≡ record p { simulations = p2.simulations } → Ends y y1 → (Rises (stamps y.processes.items) → simulation_of y1 ≡ with_end ending (simulation_of y)) →
    IfSome q (λ a. Reschedules y1 y2 (Ok (passivated y1.sim.notices)) a) →
    IfSome q (λ a. (z : Simulated) → slice_get p.simulations.items place ≡ Some z → Rises (stamps z.processes.items) → Passivates p p2 place z ending a)
passivated_at p p2 place ending y y1 y2 None within at left same ends end h = tt
passivated_at p p2 place ending y y1 y2 (Some a) within at left same ends end h = λ z there.
    let e : y ≡ z = same_Some _ _ (sym (found_at p.simulations.items place y within at) ∙ there) in
    subst (λ z. Rises (stamps z.processes.items) → Passivates p p2 place z ending a) e (λ rises. record {
      before = y1;
      end = end rises;
      is = record { after = y2; ends = ends; is = subst (λ q. Reschedules y1 y2 (Ok (passivated q.notices)) a) ends.sim h; left = left; same = same };
    })
