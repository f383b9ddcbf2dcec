-- Rows of standard names.
use Rattle.std.proofs.Common.{◌≡◌, inl, inr, ◌⊎◌, ℕ, zero, suc, ◌-◌, ◌<◌, ◌≤◌, List, [], ◌∷◌, ◌++◌, length, set, length-set, sym, subst, refl, ap, ◌∙◌, arith}
use Rattle.std.specs.Prelude.{ℤ, Bool, true, false, if◌then◌else◌, Option, Some, None}
use Rattle.std.specs.Io.KnownBytes.{Appends}
use Rattle.sim_base.specs.declared.limits.Limits.{Limits}
use Rattle.sim_values.specs.declared.standard.Standard.{Standard}
use Rattle.sim_values.specs.declared.value.TextVal.{TextVal}
use Rattle.sim_values.specs.Plain.{Plain, Text}
use Rattle.sim_values.specs.Standard.{Function, applied, of_nothing, of_integer, of_integers, of_character, of_text, of_text_and_integer, of_text_and_integers, of_text_and_character, elsewhere, operands_of, row_of, standard_effect}
use Rattle.sim_values.specs.Texts.{Frame as TextFrame}
use Rattle.basic_io.specs.Input.{HeldInput}
use Rattle.sim_code.specs.Code.{CodeOf}
use Rattle.sim_code.specs.Events.{computing, having, no_rule, performing, pop_operands, putting_back, stopping, taking, when}
use Rattle.sim_code.specs.Machine.{Activation, Frames, Machine, Of, Value, on, operand, plain}
use Rattle.sim_code.specs.Outcome.{Going, Run, StorageExhausted, World}
use Rattle.sim_code.specs.Rows.{has_room, put_back, room_for, standard_of, standard_row as row_of_name, with_value}
use Rattle.sim_code.specs.Running.{name_runs}
use Rattle.sim_code.specs.Sets.{is_set_name}
use Rattle.sim_code.specs.Simulations.{is_process_name, is_simulation_name}
use Rattle.frame_arena.specs.declared.slot.Slot.{Slot}
use Rattle.frame_arena.specs.Arrays.{AllLeadArrays}
use Rattle.frame_arena.specs.Frames.{AllLead}
use Rattle.frame_arena.specs.Slots.{value_of}
use Rattle.frame_arena.specs.Stacks.{slot_at, values_of}
use Rattle.standard_calls.specs.declared.manner.Manner.{Manner}
use Rattle.standard_calls.specs.declared.manner.Manner.TheVariants as manner
use Rattle.standard_calls.specs.declared.names.Performed.{Performed}
use Rattle.standard_calls.specs.declared.names.Performed.TheVariants as performed
use Rattle.standard_calls.specs.Quiet.{OnNumbers, OnText, is_done}
use Rattle.standard_calls.specs.Performed.{Agrees, Held, IfMoved, Parts, PerformedAs, PerformedFaults, PerformedStops, does, held, parts, standard_row, wrote}
use Rattle.object_machine.specs.declared.machine.Storage.{Storage}
use Rattle.object_machine.specs.declared.machine.Registers.{Registers}
use Rattle.object_machine.specs.declared.machine.Activation as working
use Rattle.object_machine.specs.declared.machine.Flow.{Flow}
use Rattle.object_machine.specs.declared.machine.Flow.TheVariants as flow
use Rattle.object_machine.specs.declared.placing.Placing.{Placing}
use Rattle.object_machine.specs.declared.placing.Placing.TheVariants as placing
use Rattle.object_machine.specs.Named.{FlowEnds, InputEnds, Still}
use Rattle.object_machine.specs.Operands.{AllRead, IsNoTextIn, IsReady, OneUnread, first_slot}
use Rattle.object_machine.specs.Placing.{LeadsFrom, PutsBack}
use Rattle.object_machine.specs.Settled.{Follows, Settles, named}
use Rattle.object_machine.specs.Standing.{InWorld, Leaves, Obeys, Outside, Stands, activation_at, below_of, ports_of}
use Rattle.object_machine.proofs.Going.{along, depth_goes_on, other_chosen}
use Rattle.object_machine.proofs.Having.{having_some}
use Rattle.object_machine.proofs.OperandRows.{above, character_behind, integer_behind, no_character_there, no_integer_there, no_text_popped, no_text_popped_below, no_text_taken, numbers_alone, pop_as_they_stand, text_popped, text_popped_below}
use Rattle.object_machine.proofs.Scalars.{off}
use Rattle.object_machine.proofs.ReadOperands.{moved_first, not_moved, origin, reads, same_values, too_few, unread, values_count}

assoc : (xs ys zs : List ℕ) → (xs ++ ys) ++ zs ≡ xs ++ (ys ++ zs)
assoc [] ys zs = refl
assoc (x ∷ xs) ys zs = ap (λ l. x ∷ l) (assoc xs ys zs)

added_twice : (a b c : Option (List ℕ)) (xs ys : List ℕ) → Appends a b xs → Appends b c ys → Appends a c (xs ++ ys)
added_twice None b c xs ys h h2 = tt
added_twice (Some a) None c xs ys h h2 = absurd h
added_twice (Some a) (Some b) None xs ys h h2 = absurd h2
added_twice (Some a) (Some b) (Some c) xs ys h h2 = h2 ∙ ap (λ l. l ++ ys) h ∙ assoc a xs ys

-- ---- operands that are read

when_never : (b : Bool) (o : World) (r : Run Machine) → r ≡ no_rule o → when b o r ≡ no_rule o
unfolding when
when_never true o r e = e
when_never false o r e = refl

module _ (l : Limits) (line : ℕ) (name : Standard) (o : World) (m : Frames) (r : Registers) (stack new : List Slot) (below : List working.Activation) where
  abbrev count : ℕ
  count = length (operands_of (row_of name).function)

  abbrev pub act : Activation
  act = activation_at r stack

  abbrev last : World → Frames → Option Plain → List Value → Run Machine
  last w n value st = on w n act (with_value value st) (below_of below)

  -- the row of the table
  abbrev pub table_row : Run Machine
  table_row = when (room_for name act) o (performing operand put_back l line name act.stack o m last)

  abbrev behind : List Plain → Option Value → List Value → Run Machine
  behind vs first rest =
      having (standard_effect name vs o.store) o (λ effect. taking l line effect.wanted o (λ p. computing line effect.answer (record p { store = effect.store }) (λ value.
      putting_back put_back first effect.moved (record p { store = effect.store }) m (λ p m. last p m value rest))))

  performing_is : performing operand put_back l line name act.stack o m last ≡ pop_operands (operand o m) count None (values_of r.depth stack) o behind
  unfolding performing
  performing_is = refl

  pub few_operands : r.depth < count → r.depth ≤ length stack → table_row ≡ no_rule o
  few_operands h h1 = when_never (room_for name act) o _ (performing_is ∙ too_few o (operand o m) plain stack new count r.depth None h h1 behind)

  pub unread_operand : count ≤ r.depth → r.depth ≤ length stack → OneUnread o m (r.depth - count) r.depth stack → table_row ≡ no_rule o
  unread_operand h h1 u = when_never (room_for name act) o _ (performing_is ∙ unread o (operand o m) plain stack new count r.depth None h h1 u.place u.begins u.ends u.nothing behind)

  -- where not all operands are something
  pub unready_row : r.depth ≤ length stack → IsReady None name o m r.depth stack new → table_row ≡ no_rule o
  unready_row h1 (inl few) = few_operands few h1
  unready_row h1 (inr u) = unread_operand u.0 h1 u.1

  -- the run goes on behind what the name came to, with its text put back
  abbrev pub goes : World → Option TextVal → List Value → Run Machine
  goes w moved values = putting_back put_back (origin count r.depth None stack) moved w m (λ w n. on w n act values (below_of below))

  does_is : pop_operands plain count None (values_of r.depth new) o (λ ps f rest. behind ps (origin count r.depth None stack) rest) ≡ does l line name (values_of r.depth new) o (λ p moved value rest. goes p moved (with_value value rest))
  unfolding does
  does_is = refl

  -- where the operands are popped as plain ones of another stack
  pub popped_row : r.depth ≤ length stack → length new ≡ length stack →
      pop_operands (operand o m) count None (values_of r.depth stack) o behind ≡ pop_operands plain count None (values_of r.depth new) o (λ ps f rest. behind ps (origin count r.depth None stack) rest) →
      table_row ≡ standard_row l line name (held r.depth new) o goes
  popped_row h1 long popped =
      let h2 : r.depth ≤ length new = subst (λ n. r.depth ≤ n) (sym long) h1 in
      let e = values_count r.depth stack h1 ∙ sym (values_count r.depth new h2) in
      ap (λ q. when (room_for name act) o q) (performing_is ∙ popped ∙ does_is)
      ∙ ap (λ n. when (has_room n (length (values_of r.depth stack)) count (row_of name).result) o (does l line name (values_of r.depth new) o (λ p moved value rest. goes p moved (with_value value rest)))) (sym long)
      ∙ ap (λ n. when (has_room (length new) n count (row_of name).result) o (does l line name (values_of r.depth new) o (λ p moved value rest. goes p moved (with_value value rest)))) e

  pub read_row : count ≤ r.depth → r.depth ≤ length stack → length new ≡ length stack → AllRead o m (r.depth - count) r.depth stack new → table_row ≡ standard_row l line name (held r.depth new) o goes
  read_row h h1 long all =
      let h2 : r.depth ≤ length new = subst (λ n. r.depth ≤ n) (sym long) h1 in
      let same = same_values (r.depth - count) stack new (omega (arith, h1)) (omega (arith, h2)) all.below in
      popped_row h1 long (reads o (operand o m) plain stack new count r.depth None None h h1 h2 all.read same behind)

  -- operands on which the name has no effect
  no_effect : (ps : List Plain) (f : Option Value) (rest : List Value) → standard_effect name ps o.store ≡ None → behind ps f rest ≡ no_rule o
  unfolding having
  no_effect ps f rest e =
      ap (λ q. having q o (λ effect. taking l line effect.wanted o (λ p. computing line effect.answer (record p { store = effect.store }) (λ value.
      putting_back put_back f effect.moved (record p { store = effect.store }) m (λ p m. last p m value rest))))) e

-- ---- operands that are not read before

le_or_lt : (a b : ℕ) → (a ≤ b) ⊎ (b < a)
le_or_lt zero b = inl (omega arith)
le_or_lt (suc a) zero = inr (omega arith)
le_or_lt (suc a) (suc b) = elim (le_or_lt a b) [ inl h ↦ inl (omega (arith, h)) | inr h ↦ inr (omega (arith, h)) ]

first_is : (n depth : ℕ) (stack : List Slot) → 1 ≤ n → slot_at stack (depth - n) ≡ first_slot n depth stack
first_is zero depth stack h = absurd (omega (arith, h))
first_is (suc n) depth stack h = refl

is_above : (k depth : ℕ) → k ≤ depth → depth ≡ above k (depth - k)
is_above zero depth h = omega arith
is_above (suc k) zero h = absurd (omega (arith, h))
is_above (suc k) (suc depth) h =
    let e : suc depth - suc k ≡ depth - k = omega arith in
    ap suc (is_above k depth (omega (arith, h)) ∙ ap (above k) (sym e))

pub one_at_least : (f : Function) → OnText f → 1 ≤ length (operands_of f)
one_at_least (of_nothing f) on = absurd on
one_at_least (of_integer f) on = absurd on
one_at_least (of_integers f) on = absurd on
one_at_least (of_character f) on = absurd on
one_at_least (of_text f) on = omega arith
one_at_least (of_text_and_integer f) on = omega arith
one_at_least (of_text_and_integers f) on = absurd on
one_at_least (of_text_and_character f) on = omega arith
one_at_least elsewhere on = absurd on

origin_is : (n depth : ℕ) (stack : List Slot) → 1 ≤ n → origin n depth None stack ≡ Some (value_of (slot_at stack (depth - n)))
origin_is zero depth stack h = absurd (omega (arith, h))
origin_is (suc n) depth stack h = refl

module _ (l : Limits) (line : ℕ) (name : Standard) (o : World) (m : Frames) (r : Registers) (stack : List Slot) (below : List working.Activation) (fits : r.depth ≤ length stack) where
  abbrev wanted : ℕ
  wanted = length (operands_of (row_of name).function)

  abbrev K : List Plain → Option Value → List Value → Run Machine
  K = behind l line name o m r stack stack below

  effect_of : (f : Function) → (row_of name).function ≡ f → (ps : List Plain) → standard_effect name ps o.store ≡ applied f ps o.store
  unfolding standard_effect
  effect_of f e ps = ap (λ f. applied f ps o.store) e

  dull : (ps : List Plain) (f : Option Value) (rest : List Value) (g : Function) → (row_of name).function ≡ g → applied g ps o.store ≡ None → K ps f rest ≡ no_rule o
  dull ps f rest g e h = no_effect l line name o m r stack stack below ps f rest (effect_of g e ps ∙ h)

  -- too few operands
  pub few_row : r.depth < wanted → table_row l line name o m r stack stack below ≡ no_rule o
  few_row h = few_operands l line name o m r stack stack below h fits

  -- the row of a name of numbers or characters, as its operands stand
  pub standing_row : OnNumbers (row_of name).function → table_row l line name o m r stack stack below ≡ standard_row l line name (held r.depth stack) o (goes l line name o m r stack stack below)
  standing_row on =
      popped_row l line name o m r stack stack below fits refl
      (pop_as_they_stand o m wanted None (values_of r.depth stack) K (λ ps f rest h. dull ps f rest (row_of name).function refl (numbers_alone (row_of name).function ps o.store on h))
      ∙ elim (le_or_lt wanted r.depth) [
        | inl enough ↦ reads o plain plain stack stack wanted r.depth None None enough fits fits (λ at a b. refl) refl K
        | inr few ↦ too_few o plain plain stack stack wanted r.depth None few fits K ∙ sym (too_few o plain plain stack stack wanted r.depth None few fits (λ ps f rest. K ps (origin wanted r.depth None stack) rest))
      ])

  module _ (s : Slot) (t : TextVal) (is : value_of s ≡ Of (Text t)) where
    abbrev Seen : (wanted depth at : ℕ) → Type 0
    Seen wanted depth at =
        operand o m (value_of (slot_at stack at)) ≡ Some (Text t) →
        pop_operands (operand o m) wanted None (values_of depth stack) o K ≡ pop_operands plain wanted None (values_of depth (set stack at s)) o (λ ps f rest. K ps (Some (value_of (slot_at stack at))) rest)

    seen : (k depth : ℕ) → k ≤ depth → depth ≤ length stack → ((d : ℕ) → above k d ≤ length stack → Seen k (above k d) d) → Seen k depth (depth - k)
    seen k depth h h2 all =
        let e : depth ≡ above k (depth - k) = is_above k depth h in
        subst (λ x. Seen k x (depth - k)) (sym e) (all (depth - k) (subst (λ x. x ≤ length stack) e h2))

    seen_by : (f : Function) → (row_of name).function ≡ f → OnText f → wanted ≤ r.depth → Seen wanted r.depth (r.depth - wanted)
    seen_by (of_nothing f) e on h = absurd on
    seen_by (of_integer f) e on h = absurd on
    seen_by (of_integers f) e on h = absurd on
    seen_by (of_character f) e on h = absurd on
    seen_by (of_text f) e on h =
        let one : wanted ≡ 1 = ap (λ f. length (operands_of f)) e in
        subst (λ k. Seen k r.depth (r.depth - k)) (sym one) (seen 1 r.depth (subst (λ k. k ≤ r.depth) one h) fits (λ d i x. text_popped o m stack s t is d i None None K x))
    seen_by (of_text_and_integer f) e on h =
        let two : wanted ≡ 2 = ap (λ f. length (operands_of f)) e in
        subst (λ k. Seen k r.depth (r.depth - k)) (sym two) (seen 2 r.depth (subst (λ k. k ≤ r.depth) two h) fits (λ d i x. text_popped_below o m stack s t is d i None None K x
        (λ t2 p f rest. dull (Text t2 ∷ p ∷ []) f rest _ e (no_integer_there t2 (p ∷ []) _))))
    seen_by (of_text_and_integers f) e on h = absurd on
    seen_by (of_text_and_character f) e on h =
        let two : wanted ≡ 2 = ap (λ f. length (operands_of f)) e in
        subst (λ k. Seen k r.depth (r.depth - k)) (sym two) (seen 2 r.depth (subst (λ k. k ≤ r.depth) two h) fits (λ d i x. text_popped_below o m stack s t is d i None None K x
        (λ t2 p f rest. dull (Text t2 ∷ p ∷ []) f rest _ e (no_character_there t2 (p ∷ []) _))))
    seen_by elsewhere e on h = absurd on

    -- the row of a name of one text, with the text in its place
    pub seen_row : OnText (row_of name).function → wanted ≤ r.depth → operand o m (value_of (slot_at stack (r.depth - wanted))) ≡ Some (Text t) →
        table_row l line name o m r stack (set stack (r.depth - wanted) s) below ≡ standard_row l line name (held r.depth (set stack (r.depth - wanted) s)) o (goes l line name o m r stack (set stack (r.depth - wanted) s) below)
    seen_row on h x =
        popped_row l line name o m r stack (set stack (r.depth - wanted) s) below fits (length-set stack (r.depth - wanted) s)
        (seen_by (row_of name).function refl on h x
        ∙ ap (λ q. pop_operands plain wanted None (values_of r.depth (set stack (r.depth - wanted) s)) o (λ ps f rest. K ps q rest)) (sym (origin_is wanted r.depth stack (one_at_least (row_of name).function on))))

  -- ---- where it is no text

  abbrev Unseen : (wanted depth at : ℕ) → Type 0
  Unseen wanted depth at = IsNoTextIn (operand o m (value_of (slot_at stack at))) → pop_operands (operand o m) wanted None (values_of depth stack) o K ≡ no_rule o

  unseen : (k depth : ℕ) → k ≤ depth → depth ≤ length stack → ((d : ℕ) → above k d ≤ length stack → Unseen k (above k d) d) → Unseen k depth (depth - k)
  unseen k depth h h2 all =
      let e : depth ≡ above k (depth - k) = is_above k depth h in
      subst (λ x. Unseen k x (depth - k)) (sym e) (all (depth - k) (subst (λ x. x ≤ length stack) e h2))

  unseen_by : (f : Function) → (row_of name).function ≡ f → OnText f → wanted ≤ r.depth → Unseen wanted r.depth (r.depth - wanted)
  unseen_by (of_nothing f) e on h = absurd on
  unseen_by (of_integer f) e on h = absurd on
  unseen_by (of_integers f) e on h = absurd on
  unseen_by (of_character f) e on h = absurd on
  unseen_by (of_text f) e on h =
      let one : wanted ≡ 1 = ap (λ f. length (operands_of f)) e in
      subst (λ k. Unseen k r.depth (r.depth - k)) (sym one) (unseen 1 r.depth (subst (λ k. k ≤ r.depth) one h) fits (λ d i x. no_text_popped o m stack d x None K i (λ p f rest no. dull (p ∷ []) f rest _ e (no_text_taken p [] _ no))))
  unseen_by (of_text_and_integer f) e on h =
      let two : wanted ≡ 2 = ap (λ f. length (operands_of f)) e in
      subst (λ k. Unseen k r.depth (r.depth - k)) (sym two) (unseen 2 r.depth (subst (λ k. k ≤ r.depth) two h) fits (λ d i x. no_text_popped_below o m stack d x None K i
      (λ q p f rest no. dull (q ∷ p ∷ []) f rest _ e (integer_behind q (p ∷ []) _ (λ i. no_text_taken p [] _ no)))))
  unseen_by (of_text_and_integers f) e on h = absurd on
  unseen_by (of_text_and_character f) e on h =
      let two : wanted ≡ 2 = ap (λ f. length (operands_of f)) e in
      subst (λ k. Unseen k r.depth (r.depth - k)) (sym two) (unseen 2 r.depth (subst (λ k. k ≤ r.depth) two h) fits (λ d i x. no_text_popped_below o m stack d x None K i
      (λ q p f rest no. dull (q ∷ p ∷ []) f rest _ e (character_behind q (p ∷ []) _ (λ c. no_text_taken p [] _ no)))))
  unseen_by elsewhere e on h = absurd on

  pub unseen_row : OnText (row_of name).function → wanted ≤ r.depth → IsNoTextIn (operand o m (value_of (slot_at stack (r.depth - wanted)))) → table_row l line name o m r stack stack below ≡ no_rule o
  unseen_row on h x = when_never (room_for name (act l line name o m r stack stack below)) o _ (performing_is l line name o m r stack stack below ∙ unseen_by (row_of name).function refl on h x)

pub first_led : (p : Storage) (o : World) (m : Frames) (n depth : ℕ) (stack : List Slot) → AllLead p.frames.items m stack → AllLeadArrays p.arrays.regions o.arrays stack → LeadsFrom p o m (first_slot n depth stack)
first_led p o m zero depth stack h h2 = (λ names. absurd (off names), λ names. absurd (off names))
first_led p o m (suc n) depth stack h h2 = (h (depth - suc n), h2 (depth - suc n))

-- ---- what a name came to

module _ (l : Limits) (line : ℕ) (p p2 : Storage) (below : List working.Activation) (before : Option (List ℕ)) (now now2 : Outside) (r r2 : Registers) (stack new stack2 : List Slot) (o : World) (m : Frames) (name : Standard) (budget : ℕ)
    (texts2 : List TextFrame) (input2 : HeldInput) (image2 : TextVal) (words2 : ℕ) (s : Stands l p r stack below before now o m) (limit : l.storage ≡ budget) (long : length stack2 ≡ length stack)
    (slots : AllLead p.frames.items m stack2) (arrays : AllLeadArrays p.arrays.regions o.arrays stack2) where
  abbrev pub later : Storage
  later = record p { texts = texts2; image = record { input = input2; output = image2 }; words = words2 }

  abbrev n : ℕ
  n = length (operands_of (row_of name).function)

  abbrev address : Slot
  address = first_slot n r.depth stack

  abbrev old : Parts
  old = parts p.texts p.image.input now.source p.image.output now.sink p.words

  abbrev new2 : Parts
  new2 = parts texts2 input2 now2.source image2 now2.sink words2

  abbrev go : World → Option TextVal → List Value → Run Machine
  go = goes l line name o m r stack new below

  agrees : Agrees l o old
  agrees = record {
    frames = s.stores.world.texts;
    sysin = ap (λ x. x.sysin) s.stores.world.image;
    endfile = ap (λ x. x.endfile) s.stores.world.image;
    left = ap (λ x. x.left) s.stores.world.image;
    image = ap (λ x. x.sysout) s.stores.world.image;
    words = s.stores.world.words;
    budget = s.stores.budget;
  }

  world_later : (bytes : List ℕ) → Appends now.sink now2.sink bytes → InWorld later before now2 (wrote o new2 bytes)
  world_later bytes a = record {
    ticks = s.stores.world.ticks;
    words = refl;
    texts = refl;
    image = refl;
    written = added_twice before now.sink now2.sink o.store.written bytes s.stores.world.written a;
  }

  stands_later : (bytes : List ℕ) → Appends now.sink now2.sink bytes → (p.words ≤ budget → words2 ≤ budget) → Stands l later r stack2 below before now2 (wrote o new2 bytes) m
  stands_later bytes a within = record {
    stores = record {
      world = world_later bytes a;
      budget = subst (λ b. words2 ≤ b) (sym limit) (within (subst (λ b. p.words ≤ b) limit s.stores.budget));
      frames = s.stores.frames;
      entered = s.stores.entered;
      arrays = s.stores.arrays;
      cells = s.stores.cells;
      elements = s.stores.elements;
      parks = s.stores.parks;
      members = s.stores.members;
      simulations = s.stores.simulations;
    };
    top = record { home = s.top.home; slots = slots; arrays_lead = arrays };
    others = s.others;
  }

  in_world : new2 ≡ old → InWorld later before now2 o
  in_world e = record {
    ticks = s.stores.world.ticks;
    words = s.stores.world.words ∙ sym (ap (λ x. x.words) e);
    texts = s.stores.world.texts ∙ sym (ap (λ x. x.frames) e);
    image = s.stores.world.image ∙ sym (ap (λ x. ports_of (record { input = x.input; output = x.image }) x.source) e);
    written = subst (λ x. Appends before x o.store.written) (sym (ap (λ x. x.sink) e)) s.stores.world.written;
  }

  -- the same with the other stack, which is as long
  same_room : (w : World) (n2 : Frames) (values : List Value) → on w n2 (activation_at r stack) values (below_of below) ≡ on w n2 (activation_at r stack2) values (below_of below)
  same_room w n2 values = ap (λ k. Going w (record { chain = record { thunk = r.thunk; home = r.home.stamp; pc = suc r.pc; stack = values; room = k; stage = r.stage } ∷ below_of below; memory = n2 })) (sym long)

  module _ (q : Run Machine) (is : q ≡ standard_row l line name (held r.depth new) o go) where
    follows : (f : Flow) (d : ℕ) (t : TextVal) (w : World) (place : Placing) → PutsBack place l p2 r stack2 below before now2 w m address t → Follows place f d r r2 → Stands l later r stack2 below before now2 w m →
        q ≡ put_back (value_of address) t w m (λ w n2. on w n2 (activation_at r stack) (values_of d stack2) (below_of below)) → Leaves f l line p2 r2 stack2 below before now2 q
    unfolding Leaves no_rule
    follows f d t w placing.Done puts fl st e =
        subst (λ f. Leaves f l line p2 r2 stack2 below before now2 q) (sym fl.0)
        (along l line p2 below before now2 flow.On r2 stack2 _ _ (e ∙ puts.is _ ∙ same_room puts.world puts.memory (values_of d stack2))
        (depth_goes_on l line p2 below before now2 r r2 stack2 stack2 puts.world puts.memory d puts.stands refl (ap (λ x. x.home) fl.1, ap (λ x. x.stage) fl.1, ap (λ x. x.thunk) fl.1) (ap (λ x. x.pc) fl.1) (ap (λ x. x.depth) fl.1) puts.stands.top.slots puts.stands.top.arrays_lead))
    follows f d t w placing.NoRule puts fl st e =
        subst (λ f. Leaves f l line p2 r2 stack2 below before now2 q) (sym fl) (along l line p2 below before now2 flow.NoRule r2 stack2 _ _ (e ∙ puts _) (refl, st.stores.world.written))
    follows f d t w placing.Memory puts fl st e = subst (λ f. Leaves f l line p2 r2 stack2 below before now2 q) (sym fl) tt

    pub name_row : (result : Performed) (f : Flow) → PerformedAs result budget name (held r.depth new) stack2 old new2 → Settles result f address later p2 r r2 → LeadsFrom p o m address → Leaves f l line p2 r2 stack2 below before now2 q
    unfolding Leaves no_rule stopping
    name_row (performed.Depth d) f did settled led =
        subst (λ f. Leaves f l line p2 r2 stack2 below before now2 q) (sym settled.0)
        (subst (λ x. Leaves flow.On l line x r2 stack2 below before now2 q) (sym settled.1)
        (along l line later below before now2 flow.On r2 stack2 _ _ (is ∙ did.3 l line o go limit agrees ∙ not_moved (wrote o new2 did.0) m _ _ ∙ same_room (wrote o new2 did.0) m (values_of d stack2))
        (depth_goes_on l line later below before now2 r r2 stack2 stack2 (wrote o new2 did.0) m d (stands_later did.0 did.1 did.2) refl (ap (λ x. x.home) settled.2, ap (λ x. x.stage) settled.2, ap (λ x. x.thunk) settled.2) (ap (λ x. x.pc) settled.2) (ap (λ x. x.depth) settled.2) slots arrays)))
    name_row (performed.Moved d t) f did settled led =
        let st = stands_later did.0 did.1 did.2 in
        follows f d t (wrote o new2 did.0) settled.placing (settled.puts l r stack2 below before now2 (wrote o new2 did.0) m st led) settled.follows st
        (is ∙ did.3 l line o go limit agrees ∙ moved_first (wrote o new2 did.0) m _ n r.depth stack t)
    name_row performed.NoRule f did settled led =
        subst (λ f. Leaves f l line p2 r2 stack2 below before now2 q) (sym settled.0)
        (along l line p2 below before now2 flow.NoRule r2 stack2 _ _ (is ∙ did.1 l line o go limit agrees) (refl, (in_world did.0).written))
    name_row (performed.Fault e) f did settled led =
        subst (λ f. Leaves f l line p2 r2 stack2 below before now2 q) (sym settled.0)
        (subst (λ x. Leaves (flow.Fault e) l line x r2 stack2 below before now2 q) (sym settled.1)
        (along l line later below before now2 (flow.Fault e) r2 stack2 _ _ (is ∙ did.2 l line o go limit agrees) (refl, (wrote o new2 [], world_later [] did.0, refl))))
    name_row (performed.Full w) f did settled led =
        subst (λ f. Leaves f l line p2 r2 stack2 below before now2 q) (sym settled.0)
        (subst (λ x. Leaves flow.Exhausted l line x r2 stack2 below before now2 q) (sym settled.1)
        (along l line (record later { wanted = w }) below before now2 flow.Exhausted r2 stack2 _ _ (is ∙ did.1 l line o go limit agrees)
        (ap (λ k. StorageExhausted line k w) (sym (ap (λ x. x.words) did.0)), (o, full did.0 w, refl))))
      where
        full : new2 ≡ old → (w : ℕ) → InWorld (record later { wanted = w }) before now2 o
        full e w = let i = in_world e in record { ticks = i.ticks; words = i.words; texts = i.texts; image = i.image; written = i.written }
    name_row performed.Memory f did settled led = subst (λ f. Leaves f l line p2 r2 stack2 below before now2 q) (sym settled) tt
    name_row performed.WriteFault f did settled led =
        let c = did.2 l line o limit agrees in
        subst (λ f. Leaves f l line p2 r2 stack2 below before now2 q) (sym settled)
        (along l line p2 below before now2 flow.WriteFault r2 stack2 _ _ (is ∙ c.4 go ∙ not_moved c.0 m _ _)
        (o.store.written ++ did.0, c.2, added_twice before now.sink now2.sink o.store.written did.0 s.stores.world.written did.1, c.3 ∙ sym (assoc o.store.written did.0 c.2)))
    name_row performed.InputFault f did settled led = subst (λ f. Leaves f l line p2 r2 stack2 below before now2 q) (sym settled) tt

  -- the row of a name whose operands were read
  pub performed_row : (first : Slot) → r.depth ≤ length stack → length new ≡ length stack → IsReady (Some first) name o m r.depth stack new → (result : Performed) (f : Flow) → PerformedAs result budget name (held r.depth new) stack2 old new2 → Settles result f first later p2 r r2 →
      Leaves f l line p2 r2 stack2 below before now2 (table_row l line name o m r stack new below)
  performed_row first fits same ready result f did settled =
      name_row (table_row l line name o m r stack new below) (read_row l line name o m r stack new below ready.0 fits same ready.2) result f did
      (subst (λ a. Settles result f a later p2 r r2) ready.1 settled) (first_led p o m n r.depth stack s.top.slots s.top.arrays_lead)

-- where no text was moved, the address is not asked for
settles_unmoved : (result : Performed) (f : Flow) (a b : Slot) (p p2 : Storage) (r r2 : Registers) → IfMoved result ⊥ → Settles result f a p p2 r r2 → Settles result f b p p2 r r2
settles_unmoved (performed.Depth d) f a b p p2 r r2 still s = s
settles_unmoved (performed.Moved d t) f a b p p2 r r2 still s = absurd still
settles_unmoved performed.NoRule f a b p p2 r r2 still s = s
settles_unmoved (performed.Fault e) f a b p p2 r r2 still s = s
settles_unmoved (performed.Full w) f a b p p2 r r2 still s = s
settles_unmoved performed.Memory f a b p p2 r r2 still s = s
settles_unmoved performed.WriteFault f a b p p2 r r2 still s = s
settles_unmoved performed.InputFault f a b p p2 r r2 still s = s

module _ (l : Limits) (line : ℕ) (p p2 : Storage) (below : List working.Activation) (before : Option (List ℕ)) (now : Outside) (r r2 : Registers) (stack stack2 : List Slot) (o : World) (m : Frames) (name : Standard)
    (s : Stands l p r stack below before now o m) (fits : r.depth ≤ length stack) (long : length stack2 ≡ length stack) (slots : AllLead p.frames.items m stack2) (arrays : AllLeadArrays p.arrays.regions o.arrays stack2) where
  -- the row of a name of numbers or characters
  pub plain_name_row : OnNumbers (row_of name).function → (result : Performed) (f : Flow) (a : Slot) → IfMoved result ⊥ →
      PerformedAs result l.storage name (held r.depth stack) stack2 (parts p.texts p.image.input now.source p.image.output now.sink p.words) (parts p.texts p.image.input now.source p.image.output now.sink p.words) →
      Settles result f a p p2 r r2 → Leaves f l line p2 r2 stack2 below before now (table_row l line name o m r stack stack below)
  plain_name_row on result f a still did settled =
      name_row l line p p2 below before now now r r2 stack stack stack2 o m name l.storage p.texts p.image.input p.image.output p.words s refl long slots arrays
      (table_row l line name o m r stack stack below) (standing_row l line name o m r stack below fits on) result f did
      (settles_unmoved result f a _ p p2 r r2 still settled) (first_led p o m (length (operands_of (row_of name).function)) r.depth stack s.top.slots s.top.arrays_lead)

  -- the row of a name of one text
  pub scan_name_row : (texts2 : List TextFrame) (first : Slot) (t : TextVal) → OnText (row_of name).function → length (operands_of (row_of name).function) ≤ r.depth → value_of first ≡ Of (Text t) →
      operand o m (value_of (slot_at stack (r.depth - length (operands_of (row_of name).function)))) ≡ Some (Text t) → (result : Performed) (f : Flow) →
      PerformedAs result l.storage name (held r.depth (set stack (r.depth - length (operands_of (row_of name).function)) first)) stack2 (parts p.texts p.image.input now.source p.image.output now.sink p.words) (parts texts2 p.image.input now.source p.image.output now.sink p.words) →
      Settles result f (slot_at stack (r.depth - length (operands_of (row_of name).function))) (record p { texts = texts2 }) p2 r r2 → Leaves f l line p2 r2 stack2 below before now (table_row l line name o m r stack stack below)
  scan_name_row texts2 first t on deep is x result f did settled =
      let at = r.depth - length (operands_of (row_of name).function) in
      name_row l line p p2 below before now now r r2 stack (set stack at first) stack2 o m name l.storage texts2 p.image.input p.image.output p.words s refl long slots arrays
      (table_row l line name o m r stack (set stack at first) below) (seen_row l line name o m r stack below fits first t is on deep x) result f did
      (subst (λ a. Settles result f a (record p { texts = texts2 }) p2 r r2) (first_is (length (operands_of (row_of name).function)) r.depth stack (one_at_least (row_of name).function on)) settled)
      (first_led p o m (length (operands_of (row_of name).function)) r.depth stack s.top.slots s.top.arrays_lead)

-- ---- the row of the table

-- The names that are done here are none of sets, of processes or of simulation blocks.
pub record IsApart (name : Standard) : Type 0 where
  pub sets : is_set_name name ≡ false
  pub processes : is_process_name name ≡ false
  pub blocks : is_simulation_name name ≡ false

pub done_apart : (name : Standard) → is_done name ≡ true → IsApart name
done_apart name e =
    let a = by_test (is_set_name name) _ e in
    let b = by_test (is_process_name name) _ a.1 in
    let c = by_test (is_simulation_name name) _ b.1 in
    record { sets = a.0; processes = b.0; blocks = c.0 }
  where
    by_test : (b x : Bool) → (if b then false else x) ≡ true → (b ≡ false) × (x ≡ true)
    by_test true x e = absurd (off e)
    by_test false x e = (refl, e)

abbrev pub IsQuietly : Manner → Type 0
IsQuietly manner.Ports = ⊥
IsQuietly _ = Unit {0}

pub not_ports : (x : Manner) → IsQuietly x → x ≡ manner.Ports → ⊥
not_ports x h e = subst IsQuietly e h

pub apart_done : (name : Standard) → name_runs name ≡ true → IsApart name → is_done name ≡ true
apart_done name e h =
    ap (λ b. if b then false else if is_process_name name then false else if is_simulation_name name then false else name_runs name) h.sets
    ∙ ap (λ b. if b then false else if is_simulation_name name then false else name_runs name) h.processes ∙ ap (λ b. if b then false else name_runs name) h.blocks ∙ e

pub apart_row : (code : CodeOf) (l : Limits) (line : ℕ) (name : Standard) (o : World) (m : Frames) (a : Activation) (below : List Activation) → IsApart name → row_of_name code l o m a below line name ≡ named l line name o m a below
apart_row code l line name o m a below e = other_chosen (is_set_name name) _ _ e.sets ∙ other_chosen (is_process_name name) _ _ e.processes ∙ other_chosen (is_simulation_name name) _ _ e.blocks

-- the row of the name of a number
pub for_name : (f : Flow) (code : CodeOf) (l : Limits) (line : ℕ) (z : ℤ) (name : Standard) → Some name ≡ standard_of z → IsApart name → (p p2 : Storage) (r r2 : Registers) (stack stack2 : List Slot) (below : List working.Activation) (now : Outside) →
    Obeys f l line (λ o m a b. named l line name o m a b) p p2 r r2 stack stack2 below below now now → Obeys f l line (λ o m a b. having (standard_of z) o (λ name. row_of_name code l o m a b line name)) p p2 r r2 stack stack2 below below now now
unfolding Obeys
for_name f code l line z name e apart p p2 r r2 stack stack2 below now h before o m s =
    along l line p2 below before now f r2 stack2 _ _ (having_some (standard_of z) name o _ e ∙ apart_row code l line name o m (activation_at r stack) (below_of below) apart) (h before o m s)

-- ---- how the ends stand

follows_steady : {S : Type 0} (written : S → Option (List ℕ)) (faults : S → ℕ) (old new : S) (place : Placing) (f : Flow) (d : ℕ) (r r2 : Registers) → Follows place f d r r2 → faults new ≡ faults old → FlowEnds written faults old new f
follows_steady written faults old new placing.Done f d r r2 fl e = subst (λ f. FlowEnds written faults old new f) (sym fl.0) e
follows_steady written faults old new placing.NoRule f d r r2 fl e = subst (λ f. FlowEnds written faults old new f) (sym fl) e
follows_steady written faults old new placing.Memory f d r r2 fl e = subst (λ f. FlowEnds written faults old new f) (sym fl) e

follows_unread : (before now : ℕ) (place : Placing) (f : Flow) (d : ℕ) (r r2 : Registers) → Follows place f d r r2 → now ≡ before → InputEnds before now f
follows_unread before now placing.Done f d r r2 fl e = subst (λ f. InputEnds before now f) (sym fl.0) e
follows_unread before now placing.NoRule f d r r2 fl e = subst (λ f. InputEnds before now f) (sym fl) e
follows_unread before now placing.Memory f d r r2 fl e = subst (λ f. InputEnds before now f) (sym fl) e

module _ (address : Slot) (p p2 : Storage) (r r2 : Registers) where
  pub flow_ends : {S : Type 0} (written : S → Option (List ℕ)) (faults : S → ℕ) (old new : S) (source source2 : ℕ) (q : Performed) (f : Flow) → Settles q f address p p2 r r2 →
      PerformedStops written faults old new q → PerformedFaults q (faults old) (faults new) source source2 → FlowEnds written faults old new f
  flow_ends written faults old new source source2 (performed.Depth d) f s st pf = subst (λ f. FlowEnds written faults old new f) (sym s.0) pf.0
  flow_ends written faults old new source source2 (performed.Moved d t) f s st pf = follows_steady written faults old new s.placing f d r r2 s.follows pf.0
  flow_ends written faults old new source source2 performed.NoRule f s st pf = subst (λ f. FlowEnds written faults old new f) (sym s.0) pf.0
  flow_ends written faults old new source source2 (performed.Fault e) f s st pf = subst (λ f. FlowEnds written faults old new f) (sym s.0) pf.0
  flow_ends written faults old new source source2 (performed.Full w) f s st pf = subst (λ f. FlowEnds written faults old new f) (sym s.0) pf.0
  flow_ends written faults old new source source2 performed.Memory f s st pf = subst (λ f. FlowEnds written faults old new f) (sym s) pf.0
  flow_ends written faults old new source source2 performed.WriteFault f s st pf = subst (λ f. FlowEnds written faults old new f) (sym s) st
  flow_ends written faults old new source source2 performed.InputFault f s st pf = subst (λ f. FlowEnds written faults old new f) (sym s) pf.0

  pub input_ends : (sink sink2 before now : ℕ) (q : Performed) (f : Flow) → Settles q f address p p2 r r2 → PerformedFaults q sink sink2 before now → InputEnds before now f
  input_ends sink sink2 before now (performed.Depth d) f s pf = subst (λ f. InputEnds before now f) (sym s.0) pf.1
  input_ends sink sink2 before now (performed.Moved d t) f s pf = follows_unread before now s.placing f d r r2 s.follows pf.1
  input_ends sink sink2 before now performed.NoRule f s pf = subst (λ f. InputEnds before now f) (sym s.0) pf.1
  input_ends sink sink2 before now (performed.Fault e) f s pf = subst (λ f. InputEnds before now f) (sym s.0) pf.1
  input_ends sink sink2 before now (performed.Full w) f s pf = subst (λ f. InputEnds before now f) (sym s.0) pf.1
  input_ends sink sink2 before now performed.Memory f s pf = subst (λ f. InputEnds before now f) (sym s) pf.1
  input_ends sink sink2 before now performed.WriteFault f s pf = subst (λ f. InputEnds before now f) (sym s) pf.2
  input_ends sink sink2 before now performed.InputFault f s pf = subst (λ f. InputEnds before now f) (sym s) (pf.1, pf.2)

  follows_still : (place : Placing) (f : Flow) (d : ℕ) (old new : Option (List ℕ)) → Follows place f d r r2 → Appends old new [] → Still f old new
  follows_still placing.Done f d old new fl a = subst (λ f. Still f old new) (sym fl.0) tt
  follows_still placing.NoRule f d old new fl a = subst (λ f. Still f old new) (sym fl) tt
  follows_still placing.Memory f d old new fl a = subst (λ f. Still f old new) (sym fl) a

  pub name_still : (budget : ℕ) (name : Standard) (stack : Held) (slots : List Slot) (old new : Parts) (q : Performed) (f : Flow) → Settles q f address p p2 r r2 → PerformedAs q budget name stack slots old new →
      IfMoved q (Appends old.sink new.sink []) → Still f old.sink new.sink
  name_still budget name stack slots old new (performed.Depth d) f s did moved = subst (λ f. Still f old.sink new.sink) (sym s.0) tt
  name_still budget name stack slots old new (performed.Moved d t) f s did moved = follows_still s.placing f d old.sink new.sink s.follows moved
  name_still budget name stack slots old new performed.NoRule f s did moved = subst (λ f. Still f old.sink new.sink) (sym s.0) tt
  name_still budget name stack slots old new (performed.Fault e) f s did moved = subst (λ f. Still f old.sink new.sink) (sym s.0) tt
  name_still budget name stack slots old new (performed.Full w) f s did moved = subst (λ f. Still f old.sink new.sink) (sym s.0) tt
  name_still budget name stack slots old new performed.Memory f s did moved = subst (λ f. Still f old.sink new.sink) (sym s) did
  name_still budget name stack slots old new performed.WriteFault f s did moved = subst (λ f. Still f old.sink new.sink) (sym s) tt
  name_still budget name stack slots old new performed.InputFault f s did moved = subst (λ f. Still f old.sink new.sink) (sym s) did
