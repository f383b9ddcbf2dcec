-- New frames that become linkages, processes or simulation blocks.
use Rattle.std.proofs.Common.{◌≡◌, ℕ, zero, suc, ◌<◌, List, [], ◌∷◌, length, sym, subst, refl, ap, ◌∙◌}
use Rattle.std.proofs.lemmas.Option.{same_Some}
use Rattle.std.specs.Prelude.{Bool, true, false, is_some, map, slice_get, Option, Some, None}
use Rattle.sim_base.specs.declared.limits.Limits.{Limits}
use Rattle.sim_chains.specs.Components.{NoObject}
use Rattle.simset.specs.Sets.{Linkage}
use Rattle.sim_values.specs.declared.value.FrameRef.{FrameRef}
use Rattle.sim_code.specs.declared.code.BlockKind.{BlockKind}
use Rattle.sim_code.specs.declared.code.BlockKind.TheVariants as block
use Rattle.sim_code.specs.declared.stage.Stage.{Stage}
use Rattle.sim_code.specs.Code.{BlockOf, CodeOf}
use Rattle.sim_code.specs.Classes.{process_class}
use Rattle.sim_code.specs.Levels.{block_begun, is_process_class, is_simulation_class, linkage_of_class, object_made}
use Rattle.sim_code.specs.Machine.{Cells, Frames, first_cells, in_new}
use Rattle.sim_code.specs.Outcome.{Simulation, World}
use Rattle.sim_code.specs.Rows.{program_begun}
use Rattle.sim_code.specs.Sets.{enrolled}
use Rattle.sim_code.specs.Simulations.{begun_in, joined, joined_at, located}
use Rattle.frame_arena.specs.declared.frames.Frame.{Frame}
use Rattle.frame_arena.specs.Frames.{empty_memory}
use Rattle.object_machine.specs.declared.machine.Activation as working
use Rattle.object_machine.specs.declared.machine.Flow.TheVariants as flow
use Rattle.object_machine.specs.declared.machine.Storage.{Storage}
use Rattle.object_machine.specs.declared.openings.Beginning.{Beginning}
use Rattle.object_machine.specs.declared.simulated.Simulated.{Simulated}
use Rattle.object_machine.specs.Calling.{OpensWith, opened_with}
use Rattle.object_machine.specs.Enrolling.{AllBelow, Enrolled}
use Rattle.object_machine.specs.Entering.{Opens, opened}
use Rattle.object_machine.specs.Making.{AllRegisteredBelow, Registered, SameButRegisters}
use Rattle.object_machine.specs.Simulating.{AllEarlier, IsEarlier, IsSimulated, Simulating, simulation_of}
use Rattle.object_machine.specs.Standing.{Leaves, Outside, Stores}
use Rattle.object_machine.proofs.Firsts.{none_some}
use Rattle.object_machine.proofs.Linkages.{all_made, stamp_there}

-- ---- worlds

-- the worlds are the same but for linkages and simulations
abbrev pub OnlyRegisters : World → World → Type 0
OnlyRegisters o w = w ≡ record o { members = w.members; simulations = w.simulations }

only_twice : (o w u : World) → OnlyRegisters o w → OnlyRegisters w u → OnlyRegisters o u
only_twice o w u e f = f ∙ ap {A = World} (λ z. record z { members = u.members; simulations = u.simulations }) e

enrolled_only : (j : ℕ) (q : Option Linkage) (o : World) → OnlyRegisters o (enrolled j q o)
enrolled_only j None o = refl
enrolled_only j (Some linkage) o = refl

joined_only_at : (j : ℕ) (o : World) (q : Option (ℕ × Simulation)) → OnlyRegisters o (joined_at j o q)
joined_only_at j o None = refl
joined_only_at j o (Some x) = refl

joined_only : (b : Bool) (parent j : ℕ) (o : World) → OnlyRegisters o (joined b parent j o)
joined_only false parent j o = refl
joined_only true parent j o = joined_only_at j o (located o.simulations parent)

pub made_only : (code : CodeOf) (c parent j : ℕ) (o : World) → OnlyRegisters o (object_made code c parent j o)
made_only code c parent j o =
    let w = enrolled j (linkage_of_class code c) o in
    only_twice o w (object_made code c parent j o) (enrolled_only j (linkage_of_class code c) o) (joined_only (is_process_class code c) parent j w)

begun_only_in : (b : Bool) (j : ℕ) (o : World) → OnlyRegisters o (begun_in b j o)
begun_only_in false j o = refl
begun_only_in true j o = refl

pub begun_only : (code : CodeOf) (c j : ℕ) (o : World) → OnlyRegisters o (block_begun code c j o)
begun_only code c j o = begun_only_in (is_simulation_class code c) j o

-- the program's block by its kind
pub program_as : (code : CodeOf) (b : BlockOf) (kind : BlockKind) (o : World) → b.kind ≡ kind → program_begun code b o ≡ program_begun code (record b { kind = kind }) o
program_as code b kind o e = ap (λ k. program_begun code (record b { kind = k }) o) e

program_only_by : (code : CodeOf) (b : BlockOf) (kind : BlockKind) (o : World) → OnlyRegisters o (program_begun code (record b { kind = kind }) o)
program_only_by code b block.SubBlock o = refl
program_only_by code b block.Procedure o = refl
program_only_by code b block.Object o = refl
program_only_by code b block.Prefixed o = begun_only code b.class 0 o

pub program_only : (code : CodeOf) (b : BlockOf) (o : World) → OnlyRegisters o (program_begun code b o)
program_only code b o = program_only_by code b b.kind o

-- ---- what was made before

enrolled_simulations : (j : ℕ) (q : Option Linkage) (o : World) → (enrolled j q o).simulations ≡ o.simulations
enrolled_simulations j None o = refl
enrolled_simulations j (Some linkage) o = refl

joined_members_at : (j : ℕ) (o : World) (q : Option (ℕ × Simulation)) → (joined_at j o q).members ≡ o.members
joined_members_at j o None = refl
joined_members_at j o (Some x) = refl

joined_members : (b : Bool) (parent j : ℕ) (o : World) → (joined b parent j o).members ≡ o.members
joined_members false parent j o = refl
joined_members true parent j o = joined_members_at j o (located o.simulations parent)

simulated_made : (fs : List Frame) (m : Frames) (s : Simulated) → IsSimulated fs m s → IsEarlier (length m.instances) (simulation_of s)
simulated_made fs m s e = record {
  block = e.block.0;
  processes = λ x a there. let f = stamp_there s.processes.items x a there in subst (λ n. n < length m.instances) f.2 (e.lead x f.0 f.1).0;
}

simulations_made_by : (fs : List Frame) (m : Frames) (xs : List Simulated) → ((x : ℕ) (s : Simulated) → slice_get xs x ≡ Some s → IsSimulated fs m s) → AllEarlier (length m.instances) (map simulation_of xs)
simulations_made_by fs m [] all k x there = absurd (cc)
simulations_made_by fs m (s ∷ xs) all zero x there = subst (IsEarlier (length m.instances)) (same_Some _ _ there) (simulated_made fs m s (all 0 s refl))
simulations_made_by fs m (s ∷ xs) all (suc k) x there = simulations_made_by fs m xs (λ k y h. all (suc k) y h) k x there

simulations_made : (fs : List Frame) (m : Frames) (xs : List Simulated) (o : List Simulation) → Simulating fs m xs o → AllEarlier (length m.instances) o
simulations_made fs m xs o e = subst (AllEarlier (length m.instances)) (sym e.is) (simulations_made_by fs m xs e.each)

pub all_registered : (l : Limits) (p : Storage) (before : Option (List ℕ)) (now : Outside) (o : World) (m : Frames) → Stores l p before now o m → AllRegisteredBelow (length m.instances) o
all_registered l p before now o m s = record {
  members = all_made p.frames.items m p.members o.members s.members;
  simulations = simulations_made p.frames.items m p.simulations.items o.simulations s.simulations;
}

-- the same of a world with the same linkages and simulations
pub registered_as : (n : ℕ) (o w : World) → w.members ≡ o.members → w.simulations ≡ o.simulations → AllRegisteredBelow n o → AllRegisteredBelow n w
registered_as n o w e f a = record { members = subst (λ q. AllBelow n q.instances) (sym e) a.members; simulations = subst (AllEarlier n) (sym f) a.simulations }

pub registered_at : (n n2 : ℕ) (o : World) → n ≡ n2 → AllRegisteredBelow n o → AllRegisteredBelow n2 o
registered_at n n2 o e a = subst (λ n. AllRegisteredBelow n o) e a

-- ---- parts

pub registered : (l : Limits) (p : Storage) (before : Option (List ℕ)) (now : Outside) (o : World) (m : Frames) → Stores l p before now o m → Registered p.frames.items m p o
registered l p before now o m s = record { members = s.members; simulations = s.simulations }

-- an object that was enrolled, and then joined its block
pub made_registered : (fs : List Frame) (m : Frames) (p : Storage) (code : CodeOf) (c parent j : ℕ) (o : World) → Enrolled fs m p.members (enrolled j (linkage_of_class code c) o).members →
    Simulating fs m p.simulations.items (joined (is_process_class code c) parent j (enrolled j (linkage_of_class code c) o)).simulations → Registered fs m p (object_made code c parent j o)
made_registered fs m p code c parent j o e s =
    let w = enrolled j (linkage_of_class code c) o in
    record { members = subst (λ q. Enrolled fs m p.members q) (sym (joined_members (is_process_class code c) parent j w)) e; simulations = s }

pub enrolled_still : (fs : List Frame) (m : Frames) (xs : List Simulated) (j : ℕ) (q : Option Linkage) (o : World) → Simulating fs m xs o.simulations → Simulating fs m xs (enrolled j q o).simulations
enrolled_still fs m xs j q o s = subst (Simulating fs m xs) (sym (enrolled_simulations j q o)) s

pub enrolled_earlier : (n j : ℕ) (q : Option Linkage) (o : World) → AllEarlier n o.simulations → AllEarlier n (enrolled j q o).simulations
enrolled_earlier n j q o s = subst (AllEarlier n) (sym (enrolled_simulations j q o)) s

-- a prefixed block that is a simulation block, and one that is none
pub begun_registered : (fs : List Frame) (m : Frames) (p : Storage) (code : CodeOf) (c j : ℕ) (o : World) (q : Option ℕ) → process_class code c ≡ q → Registered fs m p (begun_in (is_some q) j o) → Registered fs m p (block_begun code c j o)
begun_registered fs m p code c j o q e r = subst (λ q. Registered fs m p (begun_in (is_some q) j o)) (sym e) r

-- ---- new frames

module _ (l : Limits) (p p2 p3 : Storage) (same : SameButRegisters p2 p3) (k : ℕ) (b : BlockOf) (g : Beginning) (parent : Option FrameRef) (cells : Cells) (t : working.Activation) (before : Option (List ℕ)) (now : Outside) (o o2 w : World) (only : OnlyRegisters o2 w) (m : Frames) where
  pub opens_registered : OpensWith l p p2 k b g parent cells t before now o o2 m → Registered p2.frames.items (opened_with m k b g parent cells) p3 w → OpensWith l p p3 k b g parent cells t before now o w m
  opens_registered h r =
      let s = h.stores in
      subst (λ z. OpensWith l p z k b g parent cells t before now o w m) (sym same)
      (subst (λ v. OpensWith l p (record p2 { members = p3.members; simulations = p3.simulations }) k b g parent cells t before now o v m) (sym only) (record {
        stores = record {
          world = record { ticks = s.world.ticks; words = s.world.words; texts = s.world.texts; image = s.world.image; written = s.world.written };
          budget = s.budget;
          frames = s.frames;
          entered = s.entered;
          arrays = s.arrays;
          cells = s.cells;
          elements = s.elements;
          parks = s.parks;
          members = r.members;
          simulations = r.simulations;
        };
        top = h.top;
        works = record { home = h.works.home; slots = h.works.slots; arrays_lead = h.works.arrays_lead };
        others = λ r stack w. let v = h.others r stack w in record { home = v.home; slots = v.slots; arrays_lead = v.arrays_lead };
      }))

-- the frame of block 0 stands alone on the chain
module _ (l : Limits) (line : ℕ) (p p2 p3 : Storage) (same : SameButRegisters p2 p3) (b : BlockOf) (stage : Stage) (t : working.Activation) (before : Option (List ℕ)) (now : Outside) (o w : World) (only : OnlyRegisters o w) where
  abbrev Beginning_at : Beginning
  Beginning_at = record { start = b.entry; stage = stage; object = false }

  pub enters_alone : Opens l p p2 0 b Beginning_at None t before now o empty_memory → Registered p2.frames.items (opened empty_memory 0 b Beginning_at None) p3 w →
      Leaves flow.On l line p3 t.registers t.stack.items [] before now (in_new w empty_memory 0 b b.entry stage (NoObject None) None (first_cells b) [])
  unfolding Leaves
  enters_alone h r =
      let s = h.stores in
      subst (λ z. Leaves flow.On l line z t.registers t.stack.items [] before now (in_new w empty_memory 0 b b.entry stage (NoObject None) None (first_cells b) [])) (sym same)
      (subst (λ v. Leaves flow.On l line (record p2 { members = p3.members; simulations = p3.simulations }) t.registers t.stack.items [] before now (in_new v empty_memory 0 b b.entry stage (NoObject None) None (first_cells b) [])) (sym only) (
        ap (λ a. a ∷ []) (sym h.top),
        record {
          stores = record {
            world = record { ticks = s.world.ticks; words = s.world.words; texts = s.world.texts; image = s.world.image; written = s.world.written };
            budget = s.budget;
            frames = s.frames;
            entered = s.entered;
            arrays = s.arrays;
            cells = s.cells;
            elements = s.elements;
            parks = s.parks;
            members = r.members;
            simulations = r.simulations;
          };
          top = record { home = h.works.home; slots = h.works.slots; arrays_lead = h.works.arrays_lead };
          others = λ j u there. absurd (none_some u there);
        },
      ))
