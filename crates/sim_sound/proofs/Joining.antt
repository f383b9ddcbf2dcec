-- A process is one of its block, and a simulation block has its entry, from the moment on in which they are made.
use Rattle.std.proofs.Common.{◌≡◌, ℕ, Bool, true, false, List, [], ◌∷◌, ◌++◌, length, Option, Some, None, refl, sym, ap, ◌∙◌, subst}
use Rattle.std.specs.Prelude.{◌+◌, slice_set}
use Rattle.simset.specs.Instances.{Memberships, with_linkage}
use Rattle.simset.specs.Sets.{Link, Linkage}
use Rattle.sim_scope.specs.declared.types.StandardClass.TheVariants as standard
use Rattle.sim_scope.specs.Access.{encloser}
use Rattle.sim_scope.specs.Levels.{is_for_prefixing}
use Rattle.sim_scope.specs.Source.{Source}
use Rattle.sim_code.specs.Instances.{entered}
use Rattle.sim_code.specs.Outcome.{Simulation, World}
use Rattle.sim_code.specs.Sets.{enrolled}
use Rattle.sim_code.specs.Simulations.{begun, begun_in, joined, joined_at, located, with_process}
use Rattle.sim_chains.specs.Components.{Standing}
use Rattle.sim_meaning.specs.Attributes.{is_connection}
use Rattle.sim_meaning.specs.Entries.{new_instance}
use Rattle.sim_meaning.specs.Levels.{has_levels, is_process_text, is_simulation_text, linkage_of_text}
use Rattle.sim_meaning.specs.Objects.{block_begun, object_made}
use Rattle.sim_meaning.specs.Pending.{Activation, Held, Instances}
use Rattle.sim_meaning.specs.Texts.{StandardText, Text, is_class_free, text}
use Rattle.sim_sound.specs.Expressions.{ProcessClassThere}
use Rattle.sim_sound.specs.Typed.{Typed}
use Rattle.sim_sound.proofs.Attributes.{leveled}
use Rattle.sim_sound.proofs.Entering.{made_new, more_new, new_lives, new_stays}
use Rattle.sim_sound.proofs.Lists.{same_some}
use Rattle.sim_sound.proofs.Members.{MembersFine, OneMore, block_no_linkage, enrolled_members, members_enrolled, members_main, members_more}
use Rattle.sim_sound.proofs.Prefixes.{LevelOf, level_around, levels_solid}
use Rattle.sim_sound.proofs.ProcessClasses.{block_no_process, no_process, no_simulation, not_prefixing, process_there, some_process}
use Rattle.sim_sound.proofs.Reach.{whole_level}
use Rattle.sim_sound.proofs.Running.{StoreFine}
use Rattle.sim_sound.proofs.Simulated.{SimulationsFine}
use Rattle.sim_sound.proofs.Simulating.{one_process, simulations_begun, simulations_joined, simulations_more}
use Rattle.sim_sound.proofs.SimulationWork.{block_whole}
use Rattle.sim_sound.proofs.Sound.{PrefixedAt}
use Rattle.sim_sound.proofs.Values.{Marks, Whole, see}

-- ---- the world then

-- an object that is made a linkage: the arrays stay, and the linkages are more
pub enrolled_arrays : (j : ℕ) (x : Option Linkage) (o : World) → (enrolled j x o).arrays ≡ o.arrays
enrolled_arrays j None o = refl
enrolled_arrays j (Some x) o = refl

enrolled_linkages : (j : ℕ) (x : Option Linkage) (o : World) → (enrolled j x o).members ≡ enrolled_members j x o.members
enrolled_linkages j None o = refl
enrolled_linkages j (Some x) o = refl

enrolled_simulations : (j : ℕ) (x : Option Linkage) (o : World) → (enrolled j x o).simulations ≡ o.simulations
enrolled_simulations j None o = refl
enrolled_simulations j (Some x) o = refl

-- one that is made a process
abbrev joined_in : (object : ℕ) → List Simulation → Option (ℕ × Simulation) → List Simulation
joined_in j sims None = sims
joined_in j sims (Some x) = slice_set sims x.0 (with_process j x.1)

abbrev pub joined_simulations : (process : Bool) → (block object : ℕ) → List Simulation → List Simulation
joined_simulations false b j sims = sims
joined_simulations true b j sims = joined_in j sims (located sims b)

at_arrays : (j : ℕ) (o : World) (x : Option (ℕ × Simulation)) → (joined_at j o x).arrays ≡ o.arrays
at_arrays j o None = refl
at_arrays j o (Some x) = refl

at_members : (j : ℕ) (o : World) (x : Option (ℕ × Simulation)) → (joined_at j o x).members ≡ o.members
at_members j o None = refl
at_members j o (Some x) = refl

at_simulations : (j : ℕ) (o : World) (x : Option (ℕ × Simulation)) → (joined_at j o x).simulations ≡ joined_in j o.simulations x
at_simulations j o None = refl
at_simulations j o (Some x) = refl

joined_arrays : (p : Bool) (b j : ℕ) (o : World) → (joined p b j o).arrays ≡ o.arrays
joined_arrays false b j o = refl
joined_arrays true b j o = at_arrays j o (located o.simulations b)

joined_members : (p : Bool) (b j : ℕ) (o : World) → (joined p b j o).members ≡ o.members
joined_members false b j o = refl
joined_members true b j o = at_members j o (located o.simulations b)

joined_blocks : (p : Bool) (b j : ℕ) (o : World) → (joined p b j o).simulations ≡ joined_simulations p b j o.simulations
joined_blocks false b j o = refl
joined_blocks true b j o = at_simulations j o (located o.simulations b)

module _ (s : Source) (k j n : ℕ) (o : World) where
  abbrev with_object : World
  with_object = enrolled n (linkage_of_text s k) o

  pub object_arrays : (object_made s k j n o).arrays ≡ o.arrays
  object_arrays = joined_arrays (is_process_text s k) j n with_object ∙ enrolled_arrays n (linkage_of_text s k) o

  pub object_members : (object_made s k j n o).members ≡ enrolled_members n (linkage_of_text s k) o.members
  object_members = joined_members (is_process_text s k) j n with_object ∙ enrolled_linkages n (linkage_of_text s k) o

  pub object_blocks : (object_made s k j n o).simulations ≡ joined_simulations (is_process_text s k) j n o.simulations
  object_blocks = joined_blocks (is_process_text s k) j n with_object ∙ ap (joined_simulations (is_process_text s k) j n) (enrolled_simulations n (linkage_of_text s k) o)

-- a simulation block
abbrev pub begun_members : (simulation : Bool) → (block : ℕ) → Memberships → Memberships
begun_members false b x = x
begun_members true b x = with_linkage b Link x

abbrev pub begun_simulations : (simulation : Bool) → (block : ℕ) → List Simulation → List Simulation
begun_simulations false b sims = sims
begun_simulations true b sims = sims ++ begun b ∷ []

begun_in_arrays : (t : Bool) (b : ℕ) (o : World) → (begun_in t b o).arrays ≡ o.arrays
begun_in_arrays false b o = refl
begun_in_arrays true b o = refl

begun_in_members : (t : Bool) (b : ℕ) (o : World) → (begun_in t b o).members ≡ begun_members t b o.members
begun_in_members false b o = refl
begun_in_members true b o = refl

begun_in_blocks : (t : Bool) (b : ℕ) (o : World) → (begun_in t b o).simulations ≡ begun_simulations t b o.simulations
begun_in_blocks false b o = refl
begun_in_blocks true b o = refl

module _ (s : Source) (k n : ℕ) (o : World) where
  pub block_arrays : (block_begun s k n o).arrays ≡ o.arrays
  block_arrays = begun_in_arrays (is_simulation_text s k) n o

  pub block_members : (block_begun s k n o).members ≡ begun_members (is_simulation_text s k) n o.members
  block_members = begun_in_members (is_simulation_text s k) n o

  pub block_blocks : (block_begun s k n o).simulations ≡ begun_simulations (is_simulation_text s k) n o.simulations
  block_blocks = begun_in_blocks (is_simulation_text s k) n o

-- ---- what holds then

at_entry : (s : Source) (sims : List Simulation) (m : Instances) (j : ℕ) (found : Option (ℕ × Simulation)) (x : ℕ × Simulation) → found ≡ Some x → SimulationsFine s (joined_in j sims (Some x)) m → SimulationsFine s (joined_in j sims found) m
at_entry s sims m j found x e f = subst (λ y. SimulationsFine s (joined_in j sims y) m) (sym e) f

module _ (s : Source) (ok : Typed s) (o : World) (g : Marks) (m : Instances) (store : StoreFine s (see g o) m) (k : ℕ) (e : Option ℕ) (cells : List Held) (z : Standing Activation) (has : has_levels (text s k) ≡ true) (u : Option ℕ) where
  solid : is_connection (text s k) ≡ false
  solid = levels_solid (text s k) has

  abbrev Words : Text
  Words = (leveled s ok k has).words

  abbrev Is : text s k ≡ Some Words
  Is = (leveled s ok k has).is

  free : is_class_free s k ≡ false
  free = ((leveled s ok k has).typed).stays

  abbrev N : ℕ
  N = length m.instances

  abbrev M : Instances
  M = entered m (new_instance s k e cells) z

  more : OneMore s m M k e
  more = more_new s ok (see g o) m k e cells z Words Is solid u o.members o.simulations

  -- an object, whose class may stand in `new`
  module _ (single : is_for_prefixing s.tables k ≡ false) (itself : text s k ≡ Some (StandardText standard.Process) → ProcessClassThere s k) (j around : ℕ) (in_encloser : e ≡ Some j) (stands_in : encloser s.tables k ≡ Some around) (whole : Whole s m j around) where
    pub object_linked : MembersFine s (enrolled_members N (linkage_of_text s k) o.members) M
    object_linked = members_enrolled s ok k solid o.members m M e more (not_prefixing s ok k solid single) store.members

    joins : (q : ℕ) → text s q ≡ Some (StandardText standard.Process) → LevelOf s k q → SimulationsFine s (joined_in N o.simulations (located o.simulations j)) M
    joins q is at =
        let there = process_there s ok k solid q itself is at in
        let lv = there.block in
        let level : LevelOf s k (lv + 4) = subst (LevelOf s k) there.is at in
        let out = level_around s ok solid level lv (ok.simulations lv there.simulates).process_around in
        let same : out.0 ≡ around = same_some (encloser s.tables k) out.0 around out.1 stands_in in
        let home = block_whole s ok o g m store j lv there.simulates (whole_level s ok (see g o) m store j k out.0 lv out.1 out.2 (subst (Whole s m j) (sym same) whole)) in
        let x = store.simulations.there j lv (home.lasts).now (home.lasts).lives there.simulates (home.lasts).level in
        at_entry s o.simulations M N (located o.simulations j) x.0 x.1
        (simulations_joined s ok o.simulations m M k e more store.simulations (not_prefixing s ok k solid single) lv there.simulates
        (λ v is' at'. let other = process_there s ok k solid v itself is' at' in other.is ∙ ap (λ y. y + 4) (one_process s ok k other.block lv other.simulates there.simulates (subst (LevelOf s k) other.is at') level)) j in_encloser home
        (record { now = made_new s ok (see g o) m k e cells z Words Is solid u o.members o.simulations; lives = new_lives s ok (see g o) m k e cells z Words Is solid u o.members o.simulations; solid = solid; level = level; stays = new_stays s ok (see g o) m k e cells z Words Is solid u o.members o.simulations free }) x.0 x.1)

    pub object_joined : SimulationsFine s (joined_simulations (is_process_text s k) j N o.simulations) M
    object_joined = by_flag (is_process_text s k) refl
      where
        by_flag : (b : Bool) → is_process_text s k ≡ b → SimulationsFine s (joined_simulations b j N o.simulations) M
        by_flag true is = let y = some_process s ok k solid is in joins y.0 y.1 y.2
        by_flag false is = simulations_more s o.simulations m M k e more store.simulations (not_prefixing s ok k solid single) (no_process s ok k solid is)

  -- a prefixed block
  module _ (block : PrefixedAt s k) where
    pub block_linked : MembersFine s (begun_members (is_simulation_text s k) N o.members) M
    block_linked = by_flag (is_simulation_text s k) refl
      where
        by_flag : (b : Bool) → is_simulation_text s k ≡ b → MembersFine s (begun_members b N o.members) M
        by_flag true is = members_main s o.members m M k e more (block_no_linkage s ok k block) store.members
        by_flag false is = members_more s o.members m M k e more (block_no_linkage s ok k block) (no_simulation s ok k solid is) store.members

    pub block_started : SimulationsFine s (begun_simulations (is_simulation_text s k) N o.simulations) M
    block_started = by_flag (is_simulation_text s k) refl
      where
        by_flag : (b : Bool) → is_simulation_text s k ≡ b → SimulationsFine s (begun_simulations b N o.simulations) M
        by_flag true is = simulations_begun s o.simulations m M k e more store.simulations (made_new s ok (see g o) m k e cells z Words Is solid u o.members o.simulations) (new_lives s ok (see g o) m k e cells z Words Is solid u o.members o.simulations) refl (new_stays s ok (see g o) m k e cells z Words Is solid u o.members o.simulations free) block (block_no_process s ok k block)
        by_flag false is = simulations_more s o.simulations m M k e more store.simulations (no_simulation s ok k solid is) (block_no_process s ok k block)
