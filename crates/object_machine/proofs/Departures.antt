-- What the end of a frame leaves.
use Rattle.std.proofs.Common.{◌≡◌, ℕ, ◌+◌, ◌-◌, ◌≤◌, List, [], ◌∷◌, ◌++◌, length, length-set, map, take, sym, subst, refl, ap, ◌∙◌, arith}
use Rattle.std.proofs.lemmas.List.{reverse-append}
use Rattle.std.proofs.Math.Nat.{sub-add-eq}
use Rattle.std.specs.Prelude.{Bool, true, false, if◌then◌else◌, Option, IfSome, Some, None, slice_get}
use Rattle.sim_base.specs.declared.limits.Limits.{Limits}
use Rattle.sim_values.specs.declared.value.FrameRef.{FrameRef}
use Rattle.sim_code.specs.Code.{BlockOf, CodeOf}
use Rattle.sim_code.specs.declared.code.BlockKind.{BlockKind}
use Rattle.sim_code.specs.Arrays.{given_with, giving_back, words_with}
use Rattle.sim_code.specs.Events.{having, no_rule, when}
use Rattle.sim_code.specs.Instances.{Instance, given, given_in, is_given_at_end}
use Rattle.sim_code.specs.Machine.{Cells, Frames, Machine, Value, at, cell, frames_left, is_nothing, leaving, own_block, pushing_any, same_kind, text_in, with_result, words_of_block, world_left}
use Rattle.sim_code.specs.Outcome.{ArrayOf, Run, World}
use Rattle.frame_arena.specs.declared.frames.Frame.{Frame}
use Rattle.frame_arena.specs.declared.slot.Slot.{Slot}
use Rattle.frame_arena.specs.Arrays.{AllLeadArrays, ElementsLead, HoldsArrays, KeepLeading, RegionOf}
use Rattle.frame_arena.specs.Frames.{AllLead, Has, Holds, KeptBefore, Leads, frame_at, instance_of, keeping}
use Rattle.frame_arena.specs.Stacks.{slot_at, values_of}
use Rattle.object_machine.specs.declared.machine.Storage.{Storage}
use Rattle.object_machine.specs.declared.machine.Registers.{Registers}
use Rattle.object_machine.specs.declared.machine.Activation as working
use Rattle.object_machine.specs.declared.machine.Flow.TheVariants as flow
use Rattle.object_machine.specs.FrameEnds.{Ends, ValueLeads}
use Rattle.object_machine.specs.Keeping.{owner_at}
use Rattle.object_machine.specs.Standing.{AllAtWork, AllFit, AtWork, Leaves, Outside, Stands, Stores, activation_at, activation_of, below_of, parked, ports_of}
use Rattle.object_machine.proofs.Filling.{none_taken}
use Rattle.object_machine.proofs.Going.{Stays, act, moved}
use Rattle.object_machine.proofs.Linkages.{enrolled_in}
use Rattle.object_machine.proofs.Simulations.{simulating_in}
use Rattle.object_machine.proofs.Parks.{get_front, parks_kept}
use Rattle.object_machine.proofs.Places.{lead_later, led_array_at, led_at}

-- ---- the block of the frame on top

pub own_at : (code : CodeOf) (kind : BlockKind) (m : Frames) (r : Registers) (stack : List Slot) (o : World) (go : BlockOf → Run Machine) (x : Instance Cells) → owner_at r ≡ Some r.home.stamp → slice_get m.instances r.home.stamp ≡ Some x →
    own_block code kind m (activation_at r stack) o go ≡ having (slice_get code.blocks x.text) o (λ b. when (same_kind b.kind kind) o (go b))
unfolding own_block having
own_at code kind m r stack o go x owned e =
    ap (λ q. having q o (λ j. having (text_in (slice_get m.instances j)) o (λ k. having (slice_get code.blocks k) o (λ b. when (same_kind b.kind kind) o (go b))))) owned
    ∙ ap (λ y. having (text_in y) o (λ k. having (slice_get code.blocks k) o (λ b. when (same_kind b.kind kind) o (go b)))) e

-- the same where the frame lies in its region
pub own_found : (code : CodeOf) (kind : BlockKind) (fs : List Frame) (cells : List Slot) (m : Frames) (r : Registers) (stack : List Slot) (o : World) (go : BlockOf → Run Machine) (place k : ℕ) → owner_at r ≡ Some r.home.stamp → Holds fs cells m → Has fs place r.home.stamp → k ≡ (frame_at fs place).block →
    own_block code kind m (activation_at r stack) o go ≡ having (slice_get code.blocks k) o (λ b. when (same_kind b.kind kind) o (go b))
own_found code kind fs cells m r stack o go place k owned h has e =
    own_at code kind m r stack o go (instance_of cells (frame_at fs place)) owned (h.known place r.home.stamp has) ∙ sym (ap (λ k. having (slice_get code.blocks k) o (λ b. when (same_kind b.kind kind) o (go b))) e)

-- a thunk has no block of its own
pub no_block_of_thunk : (code : CodeOf) (kind : BlockKind) (m : Frames) (r : Registers) (stack : List Slot) (o : World) (go : BlockOf → Run Machine) → owner_at r ≡ None → own_block code kind m (activation_at r stack) o go ≡ no_rule o
unfolding own_block having
no_block_of_thunk code kind m r stack o go e = ap (λ q. having q o (λ j. having (text_in (slice_get m.instances j)) o (λ k. having (slice_get code.blocks k) o (λ b. when (same_kind b.kind kind) o (go b))))) e

module _ (code : CodeOf) (kind : BlockKind) (k : ℕ) (o : World) (go : BlockOf → Run Machine) where
  abbrev Looked : Option BlockOf → Run Machine
  Looked q = having q o (λ b. when (same_kind b.kind kind) o (go b))

  pub no_own : slice_get code.blocks k ≡ None → Looked (slice_get code.blocks k) ≡ no_rule o
  unfolding having
  no_own e = ap (λ q. Looked q) e

  pub own_of_other_kind : (b : BlockOf) → slice_get code.blocks k ≡ Some b → same_kind b.kind kind ≡ false → Looked (slice_get code.blocks k) ≡ no_rule o
  unfolding having when
  own_of_other_kind b e h = ap (λ q. Looked q) e ∙ ap (λ c. when c o (go b)) h

  pub own_is : (b : BlockOf) → slice_get code.blocks k ≡ Some b → same_kind b.kind kind ≡ true → Looked (slice_get code.blocks k) ≡ go b
  unfolding having when
  own_is b e h = ap (λ q. Looked q) e ∙ ap (λ c. when c o (go b)) h

-- ---- the result

module _ (b : BlockOf) (m : Frames) (j : ℕ) (o : World) (go : Option Value → Run Machine) where
  pub without_result : is_nothing b.result_type ≡ true → with_result b m j o go ≡ go None
  unfolding with_result
  without_result e = ap (λ c. if c then go None else having (cell m j 0) o (λ v. go (Some v))) e

  pub result_in_cell : is_nothing b.result_type ≡ false → (v : Option Value) → v ≡ cell m j 0 → with_result b m j o go ≡ having v o (λ v. go (Some v))
  unfolding with_result
  result_in_cell e v e2 = ap (λ c. if c then go None else having (cell m j 0) o (λ v. go (Some v))) e ∙ ap (λ q. having q o (λ v. go (Some v))) (sym e2)

pub value_leads : (fs : List Frame) (m : Frames) (regions : List RegionOf) (arrays : List ArrayOf) (cells : List Slot) (v : Option Slot) → AllLead fs m cells → AllLeadArrays regions arrays cells → IfSome v (λ s. (k : ℕ) × (s ≡ slot_at cells k)) → ValueLeads fs m regions arrays v
value_leads fs m regions arrays cells None slots all lies = tt
value_leads fs m regions arrays cells (Some s) slots all lies = (led_at fs m cells s slots lies, led_array_at regions arrays cells s all lies)

pub when_on : (b : Bool) (o : World) (q q2 : Run Machine) → b ≡ true → q ≡ when b o q2 → q ≡ q2
unfolding when
when_on b o q q2 e h = h ∙ ap (λ c. when c o q2) e

pub when_off : (b : Bool) (o : World) (q q2 : Run Machine) → b ≡ false → q ≡ when b o q2 → q ≡ no_rule o
unfolding when
when_off b o q q2 e h = h ∙ ap (λ c. when c o q2) e

-- ---- the chain below

-- nothing was popped
pub popped_none : {X : Type 0} (xs ys : List X) (n : ℕ) → xs ≡ ys ++ [] → n ≡ 0 → ys ≡ take (n - 1) xs → xs ≡ []
popped_none xs ys n e z r = e ∙ ap (λ w. w ++ []) (r ∙ ap (λ k. take (k - 1) xs) z ∙ none_taken xs)

-- behind those that are left stands the one that becomes the top
pub below_more : (rest : List working.Activation) (t : working.Activation) → below_of (rest ++ t ∷ []) ≡ activation_of t ∷ below_of rest
below_more rest t = ap (λ l. map activation_of l) (reverse-append rest (t ∷ []))

pub get_last : {X : Type 0} (xs : List X) (x : X) → slice_get (xs ++ x ∷ []) (length xs) ≡ Some x
get_last [] x = refl
get_last (z ∷ zs) x = get_last zs x

pub rest_fit : (below rest : List working.Activation) (t : working.Activation) → below ≡ rest ++ t ∷ [] → AllFit below → AllFit rest
rest_fit below rest t e fit k u there = fit k u (subst (λ l. slice_get l k ≡ Some u) (sym e) (get_front rest (t ∷ []) k u there))

pub last_fits : (below rest : List working.Activation) (t : working.Activation) → below ≡ rest ++ t ∷ [] → AllFit below → t.registers.depth ≤ length t.stack.items
last_fits below rest t e fit = fit (length rest) t (subst (λ l. slice_get l (length rest) ≡ Some t) (sym e) (get_last rest t))

pub none_fit : (below rest : List working.Activation) → below ≡ rest ++ [] → AllFit below → AllFit rest
none_fit below rest e fit k u there = fit k u (subst (λ l. slice_get l k ≡ Some u) (sym e) (get_front rest [] k u there))

-- ---- what a frame leaves that has ended

given_count_in : (m : Frames) (j : ℕ) (x : Option (Instance Cells)) → length (given_in m j x).instances ≡ length m.instances
given_count_in m j None = refl
given_count_in m j (Some x) = length-set m.instances j (record x { given_back = true })

given_standings_in : (m : Frames) (j : ℕ) (x : Option (Instance Cells)) → (given_in m j x).standings ≡ m.standings
given_standings_in m j None = refl
given_standings_in m j (Some x) = refl

module _ (l : Limits) (p p2 : Storage) (b : BlockOf) (j : ℕ) (before : Option (List ℕ)) (now : Outside) (o : World) (m : Frames) where
  pub ends_kept : is_given_at_end m j ≡ false → Stores l p before now o m → Ends l p p b j before now o m
  ends_kept e s = record {
    stores = subst (λ c. Stores l p before now (if c then giving_back o j (words_of_block b) else o) (if c then given m j else m)) (sym e) s;
    others = λ r stack w. subst (λ c. AtWork p (if c then giving_back o j (words_of_block b) else o) (if c then given m j else m) r stack) (sym e) w;
  }

  module _ (leads : (r : FrameRef) → Leads p.frames.items m r → Leads p2.frames.items (given m j) r) (arrays : KeepLeading p.arrays o.arrays p2.arrays (given_with j o.arrays)) where
    given_works : (r : Registers) (stack : List Slot) → AtWork p o m r stack → AtWork p2 (giving_back o j (words_of_block b)) (given m j) r stack
    unfolding giving_back
    given_works r stack w = record {
      home = leads r.home w.home;
      slots = lead_later p.frames.items p2.frames.items m (given m j) leads stack w.slots;
      arrays_lead = λ at names. arrays _ (w.arrays_lead at names);
    }

    given_stores : (words : ℕ) → words ≡ words_of_block b → p2.words ≡ p.words - words - words_with j o.arrays →
        p2.texts ≡ p.texts → p2.image ≡ p.image → p2.members ≡ p.members → p2.simulations ≡ p.simulations → p2.ticks ≡ p.ticks → p2.entered ≡ p.entered → p2.cells ≡ p.cells →
        Holds p2.frames.items p.cells.items (given m j) → HoldsArrays p2.arrays (given_with j o.arrays) → ElementsLead p.frames.items m p2.arrays.regions → KeptBefore p.frames.items p2.frames.items → length p.frames.items ≡ length p2.frames.items → p2.parks ≡ p.parks →
        Stores l p before now o m → Stores l p2 before now (giving_back o j (words_of_block b)) (given m j)
    unfolding giving_back
    given_stores words w used texts image members simulations ticks count same holds owned elements before_kept long parks s = record {
      world = record {
        ticks = s.world.ticks ∙ sym ticks;
        words = ap (λ n. n - (words_of_block b + words_with j o.arrays)) s.world.words ∙ ap (λ n. p.words - (n + words_with j o.arrays)) (sym w) ∙ sub-add-eq p.words words (words_with j o.arrays) ∙ sym used;
        texts = s.world.texts ∙ sym texts;
        image = s.world.image ∙ ap (λ i. ports_of i now.source) (sym image);
        written = s.world.written;
      };
      budget = omega (arith, used, s.budget);
      frames = subst (λ x. Holds p2.frames.items x.items (given m j)) (sym same) holds;
      entered = count ∙ s.entered ∙ sym (given_count_in m j (slice_get m.instances j));
      arrays = owned;
      cells = subst (λ x. AllLeadArrays p2.arrays.regions (given_with j o.arrays) x.items) (sym same) (λ at names. arrays _ (s.cells at names));
      elements = λ place at names. leads _ (elements place at names);
      parks = parks_kept p.frames.items p2.frames.items p.parks.items p2.parks.items m (given m j) p.arrays.regions p2.arrays.regions o.arrays (given_with j o.arrays)
          (ap (λ v. length v.items) parks ∙ s.parks.each ∙ long) (λ at. ap (λ v. parked v.items at) parks) before_kept
          (λ place n c chain d e. subst (λ w. slice_get w n ≡ Some (keeping c chain)) (sym (given_standings_in m j (slice_get m.instances j))) e) given_works s.parks;
      members = enrolled_in p.frames.items p2.frames.items m (given m j) p.members o.members p2.members members leads s.members;
      simulations = simulating_in p.frames.items p2.frames.items m (given m j) p.simulations.items o.simulations p2.simulations.items (ap (λ v. v.items) simulations) leads s.simulations;
    }

    pub ends_given : (words : ℕ) → is_given_at_end m j ≡ true → words ≡ words_of_block b → p2.words ≡ p.words - words - words_with j o.arrays →
        p2.texts ≡ p.texts → p2.image ≡ p.image → p2.members ≡ p.members → p2.simulations ≡ p.simulations → p2.ticks ≡ p.ticks → p2.entered ≡ p.entered → p2.cells ≡ p.cells →
        Holds p2.frames.items p.cells.items (given m j) → HoldsArrays p2.arrays (given_with j o.arrays) → ElementsLead p.frames.items m p2.arrays.regions → KeptBefore p.frames.items p2.frames.items → length p.frames.items ≡ length p2.frames.items → p2.parks ≡ p.parks →
        Stores l p before now o m → Ends l p p2 b j before now o m
    ends_given words e w used texts image members simulations ticks count same holds owned elements before_kept long parks s = record {
      stores = subst (λ c. Stores l p2 before now (if c then giving_back o j (words_of_block b) else o) (if c then given m j else m)) (sym e) (given_stores words w used texts image members simulations ticks count same holds owned elements before_kept long parks s);
      others = λ r stack h. subst (λ c. AtWork p2 (if c then giving_back o j (words_of_block b) else o) (if c then given m j else m) r stack) (sym e) (given_works r stack h);
    }

-- ---- the frame below becomes the top

module _ (l : Limits) (line : ℕ) (p p2 : Storage) (b : BlockOf) (r : Registers) (stack : List Slot) (below rest : List working.Activation) (before : Option (List ℕ)) (now : Outside) (o : World) (m : Frames) (v : Option Value) (s : Stands l p r stack below before now o m) where
  -- there is none below
  pub none_below : below ≡ [] → (r2 : Registers) (stack2 : List Slot) (rest : List working.Activation) → Leaves flow.NoRule l line p2 r2 stack2 rest before now (leaving b (below_of below) v r.home.stamp o m)
  unfolding leaving no_rule Leaves
  none_below e r2 stack2 rest = subst (λ w. Leaves flow.NoRule l line p2 r2 stack2 rest before now (leaving b (below_of w) v r.home.stamp o m)) (sym e) (refl, s.stores.world.written)

  module _ (t : working.Activation) (e : below ≡ rest ++ t ∷ []) where
    abbrev Then : List Value → Run Machine
    Then values = at (world_left b r.home.stamp o m) (frames_left r.home.stamp m) (activation_of t) t.registers.pc values (below_of rest)

    leaving_is : leaving b (below_of below) v r.home.stamp o m ≡ pushing_any (length t.stack.items) (values_of t.registers.depth t.stack.items) v o (λ values. Then values)
    unfolding leaving
    leaving_is = ap (λ w. leaving b w v r.home.stamp o m) (ap (λ w. below_of w) e ∙ below_more rest t)

    pub no_room : ((go : List Value → Run Machine) → pushing_any (length t.stack.items) (values_of t.registers.depth t.stack.items) v o go ≡ no_rule o) → (r2 : Registers) (stack2 : List Slot) (rest2 : List working.Activation) →
        Leaves flow.NoRule l line p2 r2 stack2 rest2 before now (leaving b (below_of below) v r.home.stamp o m)
    unfolding no_rule Leaves
    no_room put r2 stack2 rest2 = subst (λ q. Leaves flow.NoRule l line p2 r2 stack2 rest2 before now q) (sym (leaving_is ∙ put Then)) (refl, s.stores.world.written)

    others_left : Ends l p p2 b r.home.stamp before now o m → AllAtWork p2 (world_left b r.home.stamp o m) (frames_left r.home.stamp m) rest
    others_left ends k u there = ends.others u.registers u.stack.items (s.others k u (subst (λ w. slice_get w k ≡ Some u) (sym e) (get_front rest (t ∷ []) k u there)))

    pub last_works : AtWork p o m t.registers t.stack.items
    last_works = s.others (length rest) t (subst (λ w. slice_get w (length rest) ≡ Some t) (sym e) (get_last rest t))

    pub becomes_top : (r2 : Registers) (stack2 : List Slot) → Ends l p p2 b r.home.stamp before now o m →
        Stays t.registers r2 → r2.pc ≡ t.registers.pc → length stack2 ≡ length t.stack.items → AllLead p.frames.items m stack2 → AllLeadArrays p.arrays.regions o.arrays stack2 →
        ((go : List Value → Run Machine) → pushing_any (length t.stack.items) (values_of t.registers.depth t.stack.items) v o go ≡ go (values_of r2.depth stack2)) →
        Leaves flow.On l line p2 r2 stack2 rest before now (leaving b (below_of below) v r.home.stamp o m)
    unfolding Leaves
    becomes_top r2 stack2 ends home place long slots arrays put =
        let chain : act t.registers.thunk t.registers.home.stamp t.registers.pc (values_of r2.depth stack2) (length t.stack.items) t.registers.stage ≡ activation_at r2 stack2 =
        moved t.registers r2 stack2 t.registers.pc (values_of r2.depth stack2) (length t.stack.items) home (sym place) refl (sym long) in
        subst (λ q. Leaves flow.On l line p2 r2 stack2 rest before now q) (sym (leaving_is ∙ put Then)) (
          ap (λ a. a ∷ below_of rest) chain,
          record {
            stores = ends.stores;
            top = ends.others r2 stack2 (record { home = subst (λ f. Leads p.frames.items m f) (sym home.0) last_works.home; slots = slots; arrays_lead = arrays });
            others = others_left ends;
          },
        )
