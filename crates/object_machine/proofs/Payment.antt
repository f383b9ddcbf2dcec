-- A tick and words.
use Rattle.std.proofs.Common.{◌≡◌, ℕ, ◌+◌, ◌<◌, ◌≤◌, List, sym, subst, refl, ap, ◌∙◌}
use Rattle.std.specs.Prelude.{true, false, nat_lt, if◌then◌else◌, Option}
use Rattle.sim_base.specs.declared.limits.Limits.{Limits}
use Rattle.sim_code.specs.Events.{entering, stopping, taking, ticking}
use Rattle.sim_code.specs.Machine.{Frames, Machine}
use Rattle.sim_code.specs.Outcome.{World, Run, StorageExhausted, TickLimit}
use Rattle.object_machine.specs.declared.machine.Storage.{Storage}
use Rattle.object_machine.specs.declared.machine.Flow.TheVariants as flow
use Rattle.object_machine.specs.Standing.{InWorld, Leaves, Outside, Stores}
use Rattle.object_machine.specs.Entering.{Pays}
use Rattle.object_machine.proofs.Going.{lt_false, lt_true}

module _ (l : Limits) (line wanted : ℕ) (p : Storage) (before : Option (List ℕ)) (now : Outside) (o : World) (m : Frames) (s : Stores l p before now o m) where
  abbrev ticked : World
  ticked = record o { ticks = o.ticks + 1 }

  pub ticks_off : l.ticks ≤ p.ticks → Pays flow.TickLimit l line wanted p before now o m
  unfolding Pays entering ticking stopping Leaves
  ticks_off h r stack below go =
      let e : nat_lt o.ticks l.ticks ≡ false = lt_false o.ticks l.ticks (subst (λ n. l.ticks ≤ n) (sym s.world.ticks) h) in
      subst (λ b. Leaves flow.TickLimit l line p r stack below before now (if b then taking l line wanted ticked go else stopping (TickLimit l.ticks) o)) (sym e) (refl, (o, s.world, refl))

  taken : p.ticks < l.ticks → (go : World → Run Machine) → entering l line wanted o go ≡ taking l line wanted ticked go
  unfolding entering ticking
  taken h go =
      let e : nat_lt o.ticks l.ticks ≡ true = lt_true o.ticks l.ticks (subst (λ n. n < l.ticks) (sym s.world.ticks) h) in
      ap (λ b. if b then taking l line wanted ticked go else stopping (TickLimit l.ticks) o) e

  pub words_off : p.ticks < l.ticks → l.storage < p.words + wanted → Pays flow.Exhausted l line wanted (record p { ticks = p.ticks + 1; wanted = wanted }) before now o m
  unfolding Pays taking stopping Leaves
  words_off h h2 r stack below go =
      let p2 : Storage = record p { ticks = p.ticks + 1; wanted = wanted } in
      let e : nat_lt l.storage (o.words + wanted) ≡ true = lt_true l.storage (o.words + wanted) (subst (λ n. l.storage < n + wanted) (sym s.world.words) h2) in
      let i : InWorld p2 before now ticked = record { ticks = ap (λ n. n + 1) s.world.ticks; words = s.world.words; texts = s.world.texts; image = s.world.image; written = s.world.written } in
      subst (λ q. Leaves flow.Exhausted l line p2 r stack below before now q) (sym (taken h go))
      (subst (λ b. Leaves flow.Exhausted l line p2 r stack below before now (if b then stopping (StorageExhausted line o.words wanted) ticked else go (record ticked { words = o.words + wanted }))) (sym e)
      (ap (λ n. StorageExhausted line n wanted) s.world.words, (ticked, i, refl)))

  pub words_on : p.ticks < l.ticks → p.words + wanted ≤ l.storage → Pays flow.On l line wanted (record p { ticks = p.ticks + 1; words = p.words + wanted; wanted = wanted }) before now o m
  unfolding Pays taking
  words_on h h2 =
      let e : nat_lt l.storage (o.words + wanted) ≡ false = lt_false l.storage (o.words + wanted) (subst (λ n. n + wanted ≤ l.storage) (sym s.world.words) h2) in (
        λ go. taken h go ∙ ap (λ b. if b then stopping (StorageExhausted line o.words wanted) ticked else go (record ticked { words = o.words + wanted })) e,
        record {
          world = record { ticks = ap (λ n. n + 1) s.world.ticks; words = ap (λ n. n + wanted) s.world.words; texts = s.world.texts; image = s.world.image; written = s.world.written };
          budget = h2;
          frames = s.frames;
          entered = s.entered;
          arrays = s.arrays;
          cells = s.cells;
          elements = s.elements;
          parks = s.parks;
          members = s.members;
          simulations = s.simulations;
        },
      )
