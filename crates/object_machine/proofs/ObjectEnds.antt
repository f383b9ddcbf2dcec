-- Ends of objects and prefixed blocks.
use Rattle.std.proofs.Common.{◌≡◌, ℕ, List, [], ◌∷◌, ◌++◌, length, map, set, sym, subst, refl, ap, ◌∙◌}
use Rattle.std.specs.Prelude.{true, false, ◌==◌, Option, Some, None, slice_get}
use Rattle.sim_base.specs.declared.limits.Limits.{Limits}
use Rattle.sim_chains.specs.Chains.{Cut, cut_at}
use Rattle.sim_chains.specs.Components.{AttachedObject, NoObject, ResumedObject, Standing, TerminatedObject}
use Rattle.sim_code.specs.declared.code.BlockKind.{BlockKind}
use Rattle.sim_code.specs.declared.stage.Stage.TheVariants as stage
use Rattle.sim_code.specs.Code.{BlockOf, CodeOf}
use Rattle.sim_code.specs.Events.{choosing, having, no_rule, stopping, when}
use Rattle.sim_code.specs.Instances.{ended_as, going_below, main_goes_on, object_ended, system_head}
use Rattle.sim_code.specs.Levels.{ended_by_kind, level_ended, outermost_ended, same_stage}
use Rattle.sim_code.specs.Machine.{Activation, Frames, Machine, owner, text_in}
use Rattle.sim_code.specs.Outcome.{Normal, Run, World}
use Rattle.frame_arena.specs.declared.frames.Component.{Component}
use Rattle.frame_arena.specs.declared.frames.Component.TheVariants as component
use Rattle.frame_arena.specs.declared.frames.Frame.{Frame}
use Rattle.frame_arena.specs.declared.slot.Slot.{Slot}
use Rattle.frame_arena.specs.Frames.{Has, Holds, IsKeeping, StandsAs, frame_at}
use Rattle.object_machine.specs.declared.machine.Storage.{Storage}
use Rattle.object_machine.specs.declared.machine.Registers.{Registers}
use Rattle.object_machine.specs.declared.machine.Activation as working
use Rattle.object_machine.specs.declared.machine.Flow.{Flow}
use Rattle.object_machine.specs.declared.machine.Flow.TheVariants as flow
use Rattle.object_machine.specs.Keeping.{owner_at}
use Rattle.object_machine.specs.Standing.{AllFit, AtWork, Leaves, Outside, Stands, Stores, activation_at, activation_of, below_of, parked}
use Rattle.object_machine.specs.Transferring.{Anew, CutsAt, JoinsChain, operating}
use Rattle.object_machine.proofs.Anew.{anew_twice}
use Rattle.object_machine.proofs.Cutting.{Each, each_last, each_later, each_of, each_operating}
use Rattle.object_machine.proofs.Departures.{below_more, get_last}
use Rattle.object_machine.proofs.Moving.{cut_is, goes_on_with, joins_on}
use Rattle.object_machine.proofs.Parks.{get_front}

-- ---- the end of an object

module _ (o : World) (m : Frames) (j : ℕ) where
  pub not_ended : (c : Component) → (c ≡ component.Attached → ⊥) → (c ≡ component.Resumed → ⊥) → StandsAs c (slice_get m.standings j) → (below : List Activation) → object_ended owner o m j below ≡ no_rule o
  unfolding object_ended no_rule
  not_ended component.NoObject a r h below = ap (λ q. ended_as owner o m j below q) h
  not_ended component.Waiting a r h below = ap (λ q. ended_as owner o m j below q) h.1
  not_ended component.Attached a r h below = absurd (a refl)
  not_ended component.Detached a r h below = ap (λ q. ended_as owner o m j below q) h.1
  not_ended component.Resumed a r h below = absurd (r refl)
  not_ended component.Terminated a r h below = ap (λ q. ended_as owner o m j below q) h

  pub attached_ended : (below : List Activation) → slice_get m.standings j ≡ Some AttachedObject → object_ended owner o m j below ≡ going_below o below (record m { standings = set m.standings j TerminatedObject })
  unfolding object_ended
  attached_ended below h = ap (λ q. ended_as owner o m j below q) h

  pub none_below_object : (below : List Activation) → below ≡ [] → slice_get m.standings j ≡ Some AttachedObject → object_ended owner o m j below ≡ no_rule o
  unfolding no_rule
  none_below_object below e h = ap (λ b. object_ended owner o m j b) e ∙ attached_ended [] h

  -- of a resumed object, whose system head is this
  module _ (h : slice_get m.standings j ≡ Some ResumedObject) (head : ℕ) (is : head ≡ system_head m j) where
    resumed_ended : (below : List Activation) → object_ended owner o m j below ≡ main_goes_on owner o m j head (cut_at owner head below) (slice_get m.standings head)
    unfolding object_ended
    resumed_ended below = ap (λ q. ended_as owner o m j below q) h ∙ sym (ap (λ s. main_goes_on owner o m j s (cut_at owner s below) (slice_get m.standings s)) is)

    no_main : (c : Component) (cut : Option (Cut Activation)) (q : Option (Standing Activation)) → (c ≡ component.Waiting → ⊥) → StandsAs c q → main_goes_on owner o m j head cut q ≡ no_rule o
    unfolding no_rule
    no_main c None q ne e = refl
    no_main component.NoObject (Some k) q ne e = ap (λ q. main_goes_on owner o m j head (Some k) q) e
    no_main component.Waiting (Some k) q ne e = absurd (ne refl)
    no_main component.Attached (Some k) q ne e = ap (λ q. main_goes_on owner o m j head (Some k) q) e
    no_main component.Detached (Some k) q ne e = ap (λ q. main_goes_on owner o m j head (Some k) q) e.1
    no_main component.Resumed (Some k) q ne e = ap (λ q. main_goes_on owner o m j head (Some k) q) e
    no_main component.Terminated (Some k) q ne e = ap (λ q. main_goes_on owner o m j head (Some k) q) e

    pub head_keeps_none : (c : Component) (below : List Activation) → (c ≡ component.Waiting → ⊥) → StandsAs c (slice_get m.standings head) → object_ended owner o m j below ≡ no_rule o
    head_keeps_none c below ne e = resumed_ended below ∙ no_main c (cut_at owner head below) (slice_get m.standings head) ne e

    pub head_not_there : (below : List Activation) → cut_at owner head below ≡ None → object_ended owner o m j below ≡ no_rule o
    unfolding no_rule
    head_not_there below e = resumed_ended below ∙ ap (λ k. main_goes_on owner o m j head k (slice_get m.standings head)) e

    pub main_ends_it : (below main : List Activation) (k : Cut Activation) → cut_at owner head below ≡ Some k → slice_get m.standings head ≡ Some (NoObject (Some main)) →
        object_ended owner o m j below ≡ going_below o (main ++ k.here ∷ k.below) (record m { standings = set (set m.standings head (NoObject None)) j TerminatedObject })
    main_ends_it below main k e there = resumed_ended below ∙ ap (λ k. main_goes_on owner o m j head k (slice_get m.standings head)) e ∙ ap (λ q. main_goes_on owner o m j head (Some k) q) there

module _ (l : Limits) (line : ℕ) (p : Storage) (r : Registers) (stack : List Slot) (below rest : List working.Activation) (before : Option (List ℕ)) (now : Outside) (o : World) (m : Frames) (s : Stands l p r stack below before now o m) where
  -- those below, of which the last is the top
  pub below_is : (next : working.Activation) → below ≡ rest ++ next ∷ [] → below_of below ≡ map activation_of (operating next rest)
  below_is next e = ap (λ b. below_of b) e ∙ below_more rest next

  pub rest_work : (next : working.Activation) → below ≡ rest ++ next ∷ [] → Each (λ t. AtWork p o m t.registers t.stack.items) (operating next rest)
  rest_work next e =
      each_operating (λ t. AtWork p o m t.registers t.stack.items) next rest
      (s.others (length rest) next (subst (λ w. slice_get w (length rest) ≡ Some next) (sym e) (get_last rest next)))
      (λ k u there. s.others k u (subst (λ w. slice_get w k ≡ Some u) (sym e) (get_front rest (next ∷ []) k u there)))

  pub attached_left : (p2 : Storage) (next : working.Activation) (j : ℕ) → below ≡ rest ++ next ∷ [] → slice_get m.standings j ≡ Some AttachedObject → Anew l p p2 before now o m (set m.standings j TerminatedObject) →
      Leaves flow.On l line p2 next.registers next.stack.items rest before now (object_ended owner o m j (below_of below))
  attached_left p2 next j e attached a =
      goes_on_with l line before now o p2 (record m { standings = set m.standings j TerminatedObject }) next rest _
      (attached_ended o m j (below_of below) attached ∙ ap (λ w. going_below o w (record m { standings = set m.standings j TerminatedObject })) (below_is next e)) a.stores
      (each_later (λ t. AtWork p o m t.registers t.stack.items) _ (operating next rest) (λ t w. a.works t.registers t.stack.items w) (rest_work next e))

  -- the head stands below, and keeps the main chain
  pub main_left : (p1 p2 : Storage) (next top1 top2 : working.Activation) (below1 below2 above main left : List working.Activation) (f : Flow) (place j head : ℕ) → below ≡ rest ++ next ∷ [] → slice_get m.standings j ≡ Some ResumedObject → head ≡ system_head m j →
      IsKeeping p.frames.items place head component.Waiting → CutsAt head (operating next rest) above top1 below1 → main ≡ parked p.parks.items place →
      Anew l p p1 before now o m (set m.standings head (NoObject None)) →
      (Stores l p1 before now o (record m { standings = set m.standings head (NoObject None) }) → Anew l p1 p2 before now o (record m { standings = set m.standings head (NoObject None) }) (set (set m.standings head (NoObject None)) j TerminatedObject)) →
      JoinsChain f main (operating top1 below1) left (operating top2 below2) → Leaves f l line p2 top2.registers top2.stack.items below2 before now (object_ended owner o m j (below_of below))
  main_left p1 p2 next top1 top2 below1 below2 above main left f place j head e resumed is was cut mains a b joined =
      let standings2 = set (set m.standings head (NoObject None)) j TerminatedObject in
      let m2 : Frames = record m { standings = standings2 } in
      let c = anew_twice l p p1 p2 before now o m (set m.standings head (NoObject None)) standings2 a (b a.stores) in
      let Was : working.Activation → Type 0 = λ t. AtWork p o m t.registers t.stack.items in
      let Will : working.Activation → Type 0 = λ t. AtWork p2 o m2 t.registers t.stack.items in
      let later : (t : working.Activation) → Was t → Will t = λ t w. c.works t.registers t.stack.items w in
      let stands : slice_get m.standings head ≡ Some (NoObject (Some (map activation_of main))) = s.stores.parks.chains place head component.Waiting was ∙ ap (λ w. Some (NoObject (Some (map activation_of w)))) (sym mains) in
      joins_on l line before now o p2 m2 main left top1 top2 below1 below2 _ f joined (subst (λ w. AllFit w) (sym mains) (s.stores.parks.fit place))
      (main_ends_it o m j resumed head is (below_of below) (map activation_of main) _ (ap (λ w. cut_at owner head w) (below_is next e) ∙ cut_is head (operating next rest) above top1 below1 cut) stands)
      c.stores (each_later Was Will main later (subst (λ w. Each Was w) (sym mains) (each_of Was (parked p.parks.items place) (s.stores.parks.work place))))
      (each_later Was Will (operating top1 below1) later (each_last Was above (operating top1 below1) (subst (λ w. Each Was w) cut.whole (rest_work next e))))

  pub no_rule_popped : (top2 : working.Activation) (below2 : List working.Activation) (p2 : Storage) (q : Run Machine) → q ≡ no_rule o → Leaves flow.NoRule l line p2 top2.registers top2.stack.items below2 before now q
  unfolding no_rule Leaves
  no_rule_popped top2 below2 p2 q e = subst (λ q. Leaves flow.NoRule l line p2 top2.registers top2.stack.items below2 before now q) (sym e) (refl, s.stores.world.written)

-- ---- the end of the outermost level

module _ (code : CodeOf) (l : Limits) (o : World) (m : Frames) (r : Registers) (stack : List Slot) (below : List Activation) where
  abbrev Top : Activation
  Top = activation_at r stack

  abbrev Outermost_of : Option ℕ → Run Machine
  Outermost_of q = having q o (λ j. having (text_in (slice_get m.instances j)) o (λ k. choosing (k == 0) (stopping Normal o) (outermost_ended code l o m Top below j k)))

  -- a thunk has no outermost level
  pub no_level_of_thunk : owner_at r ≡ None → level_ended code l o m Top below 0 ≡ no_rule o
  unfolding having
  no_level_of_thunk e = ap Outermost_of e

  pub outermost_is : (fs : List Frame) (cells : List Slot) (place k : ℕ) → owner_at r ≡ Some r.home.stamp → Holds fs cells m → Has fs place r.home.stamp → k ≡ (frame_at fs place).block →
      level_ended code l o m Top below 0 ≡ choosing (k == 0) (stopping Normal o) (outermost_ended code l o m Top below r.home.stamp k)
  unfolding having
  outermost_is fs cells place k owned h has e =
      ap Outermost_of owned
      ∙ ap (λ x. having (text_in x) o (λ k. choosing (k == 0) (stopping Normal o) (outermost_ended code l o m Top below r.home.stamp k))) (h.known place r.home.stamp has)
      ∙ sym (ap (λ k. choosing {S = Machine} (k == 0) (stopping Normal o) (outermost_ended code l o m Top below r.home.stamp k)) e)

  module _ (j k : ℕ) where
    pub wrong_stage : same_stage r.stage (stage.Behind 0) ≡ false → outermost_ended code l o m Top below j k ≡ no_rule o
    unfolding when
    wrong_stage e = ap (λ b. when b o (having (slice_get code.blocks k) o (λ b. ended_by_kind l o m below j b b.kind))) e

    pub no_such_block : same_stage r.stage (stage.Behind 0) ≡ true → slice_get code.blocks k ≡ None → outermost_ended code l o m Top below j k ≡ no_rule o
    unfolding when having
    no_such_block e h = ap (λ b. when b o (having (slice_get code.blocks k) o (λ b. ended_by_kind l o m below j b b.kind))) e ∙ ap (λ q. having q o (λ b. ended_by_kind l o m below j b b.kind)) h

    pub of_kind : (b : BlockOf) (kind : BlockKind) → same_stage r.stage (stage.Behind 0) ≡ true → slice_get code.blocks k ≡ Some b → b.kind ≡ kind → outermost_ended code l o m Top below j k ≡ ended_by_kind l o m below j b kind
    unfolding when having
    of_kind b kind e h e2 =
        ap (λ b. when b o (having (slice_get code.blocks k) o (λ b. ended_by_kind l o m below j b b.kind))) e ∙ ap (λ q. having q o (λ b. ended_by_kind l o m below j b b.kind)) h ∙ ap (λ k. ended_by_kind l o m below j b k) e2
