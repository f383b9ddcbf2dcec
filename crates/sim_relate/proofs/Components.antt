-- Components: what transfers of control and the ends of objects do on both sides.
use Rattle.std.proofs.Common.{◌≡◌, ◌≢◌, ℕ, zero, suc, false, List, ◌∷◌, ◌++◌, Option, Some, None, refl, sym, ap, ◌∙◌, subst}
use Rattle.std.specs.Prelude.{◌||◌, if◌then◌else◌, slice_get, slice_index_or, slice_set, Result, Ok, Err}
use Rattle.sim_base.specs.declared.run_error.RunError.{RunError}
use Rattle.sim_base.specs.declared.run_error.RunError.TheVariants.{ComponentIsAttached, ComponentIsResumed, ComponentIsTerminated, NoneIsNoComponent, ObjectNotOperating, ResumedIsAttached, SystemNotOperating}
use Rattle.sim_chains.specs.Chains.{Cut, cut_at, is_instance, outermost, stands_on, under, upper}
use Rattle.sim_chains.specs.Components.{AttachedObject, Components, DetachedObject, NoObject, ResumedObject, Standing, TerminatedObject, call, call_by, detach, detach_by, give_control_to, give_up_at, kept, kept_as, kept_by, leave_at, main_at, main_by, resume, resume_at, resume_by, resume_main, with_operating, with_standing}
use Rattle.sim_chains.specs.Heads.{head_within}
use Rattle.sim_chains.specs.WellFormed.{IsWellFormed, is_object}
use Rattle.sim_chains.proofs.Cuts.{IsCut, cut_is}
use Rattle.sim_chains.proofs.Keeps.{kept_object}
use Rattle.sim_scope.specs.Source.{Source}
use Rattle.notices.specs.declared.next.Next.{Next}
use Rattle.notices.specs.declared.next.Next.TheVariants as next
use Rattle.notices.specs.declared.notice.Notice.{Notice}
use Rattle.notices.specs.Scheduling.{next_of}
use Rattle.sim_values.specs.Plain.{Character, Integer, MainOf, Nothing, Object, Plain, Text, Truth}
use Rattle.sim_code.specs.Code.{CodeOf}
use Rattle.sim_code.specs.Events.{computing, having}
use Rattle.sim_code.specs.Instances.{Instance, encloser_in, encloser_of, going_below, is_object_at, main_goes_on, or_first, system_head}
use Rattle.sim_code.specs.Machine.{Cells, Frames, Machine}
use Rattle.sim_code.specs.Machine as machine
use Rattle.sim_code.specs.Outcome.{Run, RunFault, Simulation, World}
use Rattle.sim_code.specs.Scheduling.{component_of, deciding, going_to}
use Rattle.sim_code.specs.Simulations.{with_simulation}
use Rattle.sim_code.specs.Transfers.{Calling, Detaching, Resuming, Transfer, component_in, refused_of_main, transferred, transferring}
use Rattle.sim_code.proofs.Lifts.{Both, alike_computing, alike_no_rule, alike_same, alike_stopping}
use Rattle.sim_code.proofs.Simulation.{Alike, unruled}
use Rattle.sim_meaning.specs.Pending.{Activation, Configuration, Held, Instances, Item, Val}
use Rattle.sim_meaning.specs.Pending as meaning
use Rattle.sim_meaning.specs.Sane.{Other, OwnersKeptOf, OwnersOf}
use Rattle.codegen.specs.Compiled.{Compiled}
use Rattle.sim_relate.proofs.Carried.{all_every, kept_every, top_owner}
use Rattle.sim_relate.proofs.Chains.{CutIs, chain_cut, chain_join, object_leaves, outermost_same}
use Rattle.sim_relate.proofs.Formed.{resumed_above, stands_once}
use Rattle.sim_relate.proofs.Known.{Every, owner_of}
use Rattle.sim_relate.proofs.Lists.{read_or, read_there}
use Rattle.sim_relate.proofs.Reach.{other_numbers}
use Rattle.sim_relate.proofs.Relation.{Bottom, ChainAt, ChainOn, InstanceAt, ObjectIs, StandingAt, StandingsAt, StateAt, StoreAt}
use Rattle.sim_relate.proofs.Standings.{goes_below, stands_one, stands_two, stood_head, stood_object, stood_on, stood_store}
use Rattle.sim_relate.proofs.Waiting.{NoValue, Wait, demand, free_gets, gets_free, gets_main, main_gets, set_alike, set_apart, set_here, set_none, suspended, suspended_by, suspended_in, suspends}

module _ (s : Source) (code : CodeOf) (compiled : Compiled s code) (o : World) (m : Instances) (fs : Frames) (store : StoreAt s code m fs) (parked : StandingsAt s code m fs) where
  abbrev R : Configuration → Machine → Type 0
  R = StateAt s code

  -- how an instance stands
  abbrev standing : ℕ → Standing Activation
  standing j = slice_index_or m.standings j (NoObject None)

  abbrev frame_standing : ℕ → Standing machine.Activation
  frame_standing j = slice_index_or fs.standings j (NoObject None)

  standing_here : (j : ℕ) → StandingAt s code m fs j (standing j) (frame_standing j)
  standing_here j = read_or (StandingAt s code m fs) (NoObject None) (NoObject None) (λ k. tt) m.standings fs.standings parked.each j

  -- ---- system heads

  same_encloser : (x : Option (Instance (List Held))) (y : Option (Instance Cells)) → Both (InstanceAt s code m) x y → encloser_in y ≡ encloser_in x
  same_encloser None None b = refl
  same_encloser None (Some y) b = absurd b
  same_encloser (Some x) None b = absurd b
  same_encloser (Some x) (Some y) b = b.encloser

  pub enclosers_same : (j : ℕ) → encloser_of fs j ≡ encloser_of m j
  enclosers_same j = same_encloser (slice_get m.instances j) (slice_get fs.instances j) (store.at j)

  same_object : (j : ℕ) (x : Standing Activation) (y : Standing machine.Activation) → StandingAt s code m fs j x y → is_object y ≡ is_object x
  same_object j (NoObject None) (NoObject None) a = refl
  same_object j (NoObject (Some u)) (NoObject (Some v)) a = refl
  same_object j AttachedObject AttachedObject a = refl
  same_object j (DetachedObject u) (DetachedObject v) a = refl
  same_object j ResumedObject ResumedObject a = refl
  same_object j TerminatedObject TerminatedObject a = refl
  same_object j _ _ a = absurd a

  within_same : (n : ℕ) (p p' : Option ℕ) → p' ≡ p → head_within (encloser_of fs) (is_object_at fs) n p' ≡ head_within (encloser_of m) (is_object_at m) n p
  within_same n None None e = refl
  within_same n None (Some j) e = absurd (cc (e))
  within_same n (Some j) None e = absurd (cc (e))
  within_same zero (Some j) (Some i) e = refl
  within_same (suc n) (Some j) (Some i) e =
      let same : i ≡ j = cc (e) in
      ap (λ z. if is_object_at fs z then head_within (encloser_of fs) (is_object_at fs) n (encloser_of fs z) else Some z) same
      ∙ ap (λ b. if b then head_within (encloser_of fs) (is_object_at fs) n (encloser_of fs j) else Some j) (same_object j (standing j) (frame_standing j) (standing_here j))
      ∙ ap (λ h. if is_object_at m j then h else Some j) (within_same n (encloser_of m j) (encloser_of fs j) (same_encloser (slice_get m.instances j) (slice_get fs.instances j) (store.at j)))

  pub heads_same : (j : ℕ) → system_head fs j ≡ system_head m j
  unfolding system_head
  heads_same j = ap or_first (within_same j (encloser_of m j) (encloser_of fs j) (same_encloser (slice_get m.instances j) (slice_get fs.instances j) (store.at j)))

  resumed_object : (j : ℕ) (x : Standing Activation) (y : Standing machine.Activation) → StandingAt s code m fs j x y → x ≡ ResumedObject → ObjectIs s code m j
  resumed_object j ResumedObject ResumedObject a e = a
  resumed_object j (NoObject None) (NoObject None) a e = absurd (cc (e))
  resumed_object j (NoObject (Some u)) (NoObject (Some v)) a e = absurd (cc (e))
  resumed_object j AttachedObject AttachedObject a e = absurd (cc (e))
  resumed_object j (DetachedObject u) (DetachedObject v) a e = absurd (cc (e))
  resumed_object j TerminatedObject TerminatedObject a e = absurd (cc (e))
  resumed_object j _ _ a e = absurd a

  -- ---- the main component goes on

  -- the head itself, and no evaluation for it
  head_is : (h : ℕ) (d : Wait) (k : Cut Activation) (k' : Cut machine.Activation) (b : ChainAt s code m fs (k.here ∷ k.below) d (k'.here ∷ k'.below)) → meaning.owner k.here ≡ Some h → owner_of b.block.thunk k.here.instance ≡ Some h
  head_is h d k k' b e = sym (top_owner s code (Bottom s code NoValue) m fs k.here k.below d k'.here k'.below b) ∙ e

  -- Its chain stands on its head then, which gets what it waits for.
  main_returns : (h : ℕ) (main : List Activation) (acts : List machine.Activation) (d : Wait) (k : Cut Activation) (k' : Cut machine.Activation) (xs : List (Standing Activation)) (ys : List (Standing machine.Activation)) (same : (j : ℕ) → Other h j → suspended_in xs j ≡ suspended m j) → suspended_in xs h ≡ None → standing h ≡ NoObject (Some main) → meaning.owner k.here ≡ Some h
      → ChainOn s code (Bottom s code (demand NoValue main)) m fs main NoValue acts → OwnersOf (Other h) main → ChainAt s code m fs (k.here ∷ k.below) d (k'.here ∷ k'.below) → OwnersOf (Other h) k.below → ChainAt s code (record m { standings = xs }) (record fs { standings = ys }) (main ++ k.here ∷ k.below) NoValue (acts ++ k'.here ∷ k'.below)
  main_returns h main acts d k k' xs ys same free is here c all b all_below =
      let at = head_is h d k k' b here in
      let gets = gets_main (suspended_by m (owner_of b.block.thunk k.here.instance)) d b.gets (demand NoValue main) (ap (suspended_by m) at ∙ ap suspends is) b.gets_is in
      let head = stood_head s code m fs store xs ys (Other h) same k.here k.below all_below d (demand NoValue main) k'.here k'.below b (free_gets (suspended_by (record m { standings = xs }) (owner_of b.block.thunk k.here.instance)) (demand NoValue main) b.gets (ap (suspended_by (record m { standings = xs })) at ∙ free) gets.1) in
      chain_join s code (record m { standings = xs }) (record fs { standings = ys }) (demand NoValue main) (k.here ∷ k.below) (k'.here ∷ k'.below) head main NoValue acts (stood_on s code m fs store xs ys (Other h) same (demand NoValue main) main all NoValue acts c)

  -- ---- the ends of objects

  pub attached_ends : (j : ℕ) (rest : List Activation) (below : List machine.Activation) → ChainAt s code m fs rest NoValue below → slice_get m.standings j ≡ Some AttachedObject
      → Alike R (going_below o rest (record m { standings = slice_set m.standings j TerminatedObject })) (going_below o below (record fs { standings = slice_set fs.standings j TerminatedObject }))
  attached_ends j rest below c e =
      let xs = slice_set m.standings j TerminatedObject in
      let ys = slice_set fs.standings j TerminatedObject in
      let same : (i : ℕ) → Every i → suspended_in xs i ≡ suspended m i = λ i of. set_alike m.standings j TerminatedObject (sym (ap suspends (read_there m.standings j AttachedObject (NoObject None) e))) i in
      goes_below s code o (record m { standings = xs }) (record fs { standings = ys }) (stood_store s code m fs store xs ys Every same)
      (stands_one s code m fs store j TerminatedObject TerminatedObject Every same (kept_every m) parked tt) rest below (stood_on s code m fs store xs ys Every same NoValue rest (all_every rest) NoValue below c)

  module _ (j : ℕ) (rest : List Activation) (below : List machine.Activation) (c : ChainAt s code m fs rest NoValue below) (w : List Item) (vals : List Val) (own : meaning.owner (record { instance = j; work = w; values = vals }) ≡ Some j) (formed : IsWellFormed meaning.owner (system_head m) (record { operating = record { instance = j; work = w; values = vals } ∷ rest; standings = m.standings })) (is : slice_get m.standings j ≡ Some ResumedObject) where
    abbrev h : ℕ
    h = system_head m j

    is_resumed : standing j ≡ ResumedObject
    is_resumed = read_there m.standings j ResumedObject (NoObject None) is

    -- the cut of the whole chain
    whole : (k : Cut Activation) → cut_at meaning.owner h rest ≡ Some k → j ≢ h → IsCut meaning.owner h (record { instance = j; work = w; values = vals } ∷ rest) (under (record { instance = j; work = w; values = vals }) k)
    whole k e apart =
        let cut = cut_is meaning.owner h rest k e in
        record { chain = ap (λ z. record { instance = j; work = w; values = vals } ∷ z) cut.chain; here = cut.here; free = ap (λ o. is_instance h o || stands_on meaning.owner h k.above) own ∙ ap (λ b. b || stands_on meaning.owner h k.above) (other_numbers j h apart) ∙ cut.free }

    main_after : (main : List Activation) (acts : List machine.Activation) (k : Cut Activation) (k' : Cut machine.Activation) → cut_at meaning.owner h rest ≡ Some k → CutIs s code m fs NoValue k k' → slice_get m.standings h ≡ Some (NoObject (Some main)) → ChainOn s code (Bottom s code (demand NoValue main)) m fs main NoValue acts
        → Alike R (going_below o (main ++ k.here ∷ k.below) (record m { standings = slice_set (slice_set m.standings h (NoObject None)) j TerminatedObject })) (going_below o (acts ++ k'.here ∷ k'.below) (record fs { standings = slice_set (slice_set fs.standings h (NoObject None)) j TerminatedObject }))
    main_after main acts k k' e r at_head a =
        let is_head : standing h ≡ NoObject (Some main) = read_there m.standings h (NoObject (Some main)) (NoObject None) at_head in
        let resumed = is_resumed in
        let apart : j ≢ h = λ same. (let one = ap standing same in absurd (cc (one, resumed, is_head))) in
        let once = stands_once (system_head m) (record { operating = record { instance = j; work = w; values = vals } ∷ rest; standings = m.standings }) formed h (under (record { instance = j; work = w; values = vals }) k) (whole k e apart) in
        let mid = slice_set m.standings h (NoObject None) in
        let xs = slice_set mid j TerminatedObject in
        let ys = slice_set (slice_set fs.standings h (NoObject None)) j TerminatedObject in
        let at_j : suspended_in mid j ≡ None = set_apart m.standings h (NoObject None) j apart ∙ ap suspends resumed in
        let same : (i : ℕ) → Other h i → suspended_in xs i ≡ suspended m i = λ i other. set_alike mid j TerminatedObject (sym at_j) i ∙ set_apart m.standings h (NoObject None) i other in
        let here = (cut_is meaning.owner h rest k e).here in
        goes_below s code o (record m { standings = xs }) (record fs { standings = ys }) (stood_store s code m fs store xs ys (Other h) same)
        (stands_two s code m fs store h (NoObject None) (NoObject None) j TerminatedObject TerminatedObject (Other h) same once.kept parked tt tt) (main ++ k.here ∷ k.below) (acts ++ k'.here ∷ k'.below)
        (main_returns h main acts (demand NoValue k.above) k k' xs ys same (set_alike mid j TerminatedObject (sym at_j) h ∙ set_none m.standings h) is_head here a (subst (OwnersKeptOf (Other h)) is_head (once.kept_at h)) r.1 once.below)

    ends_by : (x : Option (Cut Activation)) (x' : Option (Cut machine.Activation)) → cut_at meaning.owner h rest ≡ x → Both (CutIs s code m fs NoValue) x x' → (y : Option (Standing Activation)) (y' : Option (Standing machine.Activation)) → slice_get m.standings h ≡ y → Both (StandingAt s code m fs h) y y' → Alike R (main_goes_on meaning.owner o m j h x y) (main_goes_on machine.owner o fs j h x' y')
    ends_by None x' e r y y' f a = unruled
    ends_by (Some k) None e r y y' f a = absurd r
    ends_by (Some k) (Some k') e r None y' f a = unruled
    ends_by (Some k) (Some k') e r (Some (NoObject (Some main))) None f a = absurd a
    ends_by (Some k) (Some k') e r (Some (NoObject (Some main))) (Some (NoObject (Some acts))) f a = main_after main acts k k' e r f a
    ends_by (Some k) (Some k') e r (Some (NoObject (Some main))) (Some _) f a = absurd a
    ends_by (Some k) (Some k') e r (Some (NoObject None)) y' f a = unruled
    ends_by (Some k) (Some k') e r (Some AttachedObject) y' f a = unruled
    ends_by (Some k) (Some k') e r (Some (DetachedObject u)) y' f a = unruled
    ends_by (Some k) (Some k') e r (Some ResumedObject) y' f a = unruled
    ends_by (Some k) (Some k') e r (Some TerminatedObject) y' f a = unruled

    pub resumed_ends : Alike R (main_goes_on meaning.owner o m j (system_head m j) (cut_at meaning.owner (system_head m j) rest) (slice_get m.standings (system_head m j))) (main_goes_on machine.owner o fs j (system_head fs j) (cut_at machine.owner (system_head fs j) below) (slice_get fs.standings (system_head fs j)))
    resumed_ends =
        subst (λ z. Alike R (main_goes_on meaning.owner o m j h (cut_at meaning.owner h rest) (slice_get m.standings h)) (main_goes_on machine.owner o fs j z (cut_at machine.owner z below) (slice_get fs.standings z))) (sym (heads_same j))
        (ends_by (cut_at meaning.owner h rest) (cut_at machine.owner h below) refl (chain_cut s code m fs h rest NoValue below c) (slice_get m.standings h) (slice_get fs.standings h) refl (parked.each h))

  -- ---- transfers of control

  module _ (line : ℕ) (chain : List Activation) (acts : List machine.Activation) (c : ChainAt s code m fs chain NoValue acts) (formed : IsWellFormed meaning.owner (system_head m) (record { operating = chain; standings = m.standings })) where
    abbrev before : Components Activation
    before = record { operating = chain; standings = m.standings }

    abbrev frames_before : Components machine.Activation
    frames_before = record { operating = acts; standings = fs.standings }

    -- what the run goes on with onward
    abbrev onward : Result (Components Activation) RunError → Run Configuration
    onward r = computing line r o (λ c. going_below o c.operating (record m { standings = c.standings }))

    abbrev frames_onward : Result (Components machine.Activation) RunError → Run Machine
    frames_onward r = computing line r o (λ c. going_below o c.operating (record fs { standings = c.standings }))

    refused : (e : RunError) → Alike R (onward (Err e)) (frames_onward (Err e))
    unfolding computing
    refused e = alike_stopping Configuration Machine R (RunFault e line) o

    -- nothing is done
    stays : Alike R (onward (Ok before)) (frames_onward (Ok frames_before))
    unfolding computing
    stays = goes_below s code o m fs store parked chain acts c

    -- ---- `call`

    called_by : (j : ℕ) (x : Standing Activation) (y : Standing machine.Activation) → standing j ≡ x → StandingAt s code m fs j x y → Alike R (onward (call_by x before j)) (frames_onward (call_by y frames_before j))
    unfolding computing
    called_by j (DetachedObject u) (DetachedObject v) e a =
        let xs = slice_set m.standings j AttachedObject in
        let ys = slice_set fs.standings j AttachedObject in
        let same : (i : ℕ) → Every i → suspended_in xs i ≡ suspended m i = λ i of. set_alike m.standings j AttachedObject (sym (ap suspends e)) i in
        goes_below s code o (record m { standings = xs }) (record fs { standings = ys }) (stood_store s code m fs store xs ys Every same)
        (stands_one s code m fs store j AttachedObject AttachedObject Every same (kept_every m) parked (stood_object s code m fs store xs ys Every same j a.0)) (u ++ chain) (v ++ acts)
        (chain_join s code (record m { standings = xs }) (record fs { standings = ys }) NoValue chain acts (stood_on s code m fs store xs ys Every same NoValue chain (all_every chain) NoValue acts c) u NoValue v (stood_on s code m fs store xs ys Every same NoValue u (all_every u) NoValue v a.1))
    called_by j (NoObject None) (NoObject None) e a = refused ComponentIsAttached
    called_by j (NoObject (Some u)) (NoObject (Some v)) e a = refused ComponentIsAttached
    called_by j AttachedObject AttachedObject e a = refused ComponentIsAttached
    called_by j ResumedObject ResumedObject e a = refused ComponentIsResumed
    called_by j TerminatedObject TerminatedObject e a = refused ComponentIsTerminated
    called_by j _ _ e a = absurd a

    called : (y : Option ℕ) → Alike R (onward (call before y)) (frames_onward (call frames_before y))
    called None = refused NoneIsNoComponent
    called (Some j) = called_by j (standing j) (frame_standing j) refl (standing_here j)

    -- ---- the main component

    main_cut : (h : ℕ) (main : List Activation) (main' : List machine.Activation) → standing h ≡ NoObject (Some main) → frame_standing h ≡ NoObject (Some main') → ChainOn s code (Bottom s code (demand NoValue main)) m fs main NoValue main' → (x : Option (Cut Activation)) (x' : Option (Cut machine.Activation)) → cut_at meaning.owner h chain ≡ x → Both (CutIs s code m fs NoValue) x x'
        → Alike R (onward (main_at meaning.owner x main before h)) (frames_onward (main_at machine.owner x' main' frames_before h))
    unfolding computing
    main_cut h main main' is is' a None None e r = refused SystemNotOperating
    main_cut h main main' is is' a None (Some k') e r = absurd r
    main_cut h main main' is is' a (Some k) None e r = absurd r
    main_cut h main main' is is' a (Some k) (Some k') e r =
        let cut = cut_is meaning.owner h chain k e in
        let above = resumed_above (system_head m) before formed h k main cut is in
        let z = above.object in
        let once = stands_once (system_head m) before formed h k cut in
        let here = cut.here in
        let d = demand NoValue k.above in
        let b = r.1 in
        let at = head_is h d k k' b here in
        let gets = gets_main (suspended_by m (owner_of b.block.thunk k.here.instance)) d b.gets (demand NoValue main) (ap (suspended_by m) at ∙ ap suspends is) b.gets_is in
        let mid = slice_set m.standings z (DetachedObject k.above) in
        let mid' = slice_set fs.standings z (DetachedObject k'.above) in
        let xs = slice_set mid h (NoObject None) in
        let ys = slice_set mid' h (NoObject None) in
        let same : (i : ℕ) → Other h i → suspended_in xs i ≡ suspended m i = λ i other. set_apart mid h (NoObject None) i other ∙ set_alike m.standings z (DetachedObject k.above) (sym (ap suspends above.resumed)) i in
        let object = stood_object s code m fs store xs ys (Other h) same z (resumed_object z (standing z) (frame_standing z) (standing_here z) above.resumed) in
        let kept_chain = subst (λ g. ChainOn s code (Bottom s code g) (record m { standings = xs }) (record fs { standings = ys }) k.above NoValue k'.above) gets.0 (stood_on s code m fs store xs ys (Other h) same d k.above once.above NoValue k'.above r.0) in
        let state =
        goes_below s code o (record m { standings = xs }) (record fs { standings = ys }) (stood_store s code m fs store xs ys (Other h) same)
        (stands_two s code m fs store z (DetachedObject k.above) (DetachedObject k'.above) h (NoObject None) (NoObject None) (Other h) same once.kept parked (object, kept_chain) tt) (main ++ k.here ∷ k.below) (main' ++ k'.here ∷ k'.below)
        (main_returns h main main' d k k' xs ys same (set_none mid h) is here a (subst (OwnersKeptOf (Other h)) is (once.kept_at h)) b once.below) in
        let machine_above : outermost machine.owner k'.above ≡ Some z = outermost_same s code m fs d k.above NoValue k'.above r.0 ∙ above.above in
        subst (λ q. Alike R (onward (Ok (with_standing h (NoObject None) (with_operating (main ++ k.here ∷ k.below) q)))) (frames_onward (Ok (with_standing h (NoObject None) (with_operating (main' ++ k'.here ∷ k'.below) (kept machine.owner h k'.above frames_before)))))) (sym (kept_object meaning.owner (system_head m) before h z main k.above is above.above))
        (subst (λ q. Alike R (onward (Ok (with_standing h (NoObject None) (with_operating (main ++ k.here ∷ k.below) (with_standing z (DetachedObject k.above) before))))) (frames_onward (Ok (with_standing h (NoObject None) (with_operating (main' ++ k'.here ∷ k'.below) q))))) (sym (kept_object machine.owner (system_head m) frames_before h z main' k'.above is' machine_above)) state)

    main_of : (h : ℕ) (x : Standing Activation) (x' : Standing machine.Activation) → standing h ≡ x → frame_standing h ≡ x' → StandingAt s code m fs h x x' → Alike R (onward (main_by meaning.owner x before h)) (frames_onward (main_by machine.owner x' frames_before h))
    main_of h (NoObject (Some main)) (NoObject (Some main')) is is' a = main_cut h main main' is is' a (cut_at meaning.owner h chain) (cut_at machine.owner h acts) refl (chain_cut s code m fs h chain NoValue acts c)
    main_of h (NoObject None) (NoObject None) is is' a = stays
    main_of h AttachedObject AttachedObject is is' a = stays
    main_of h (DetachedObject u) (DetachedObject v) is is' a = stays
    main_of h ResumedObject ResumedObject is is' a = stays
    main_of h TerminatedObject TerminatedObject is is' a = stays
    main_of h _ _ is is' a = absurd a

    main_component : (h : ℕ) → Alike R (onward (resume_main meaning.owner before h)) (frames_onward (resume_main machine.owner frames_before h))
    main_component h = main_of h (standing h) (frame_standing h) refl refl (standing_here h)

    -- ---- `detach`

    -- an attached object leaves the chain
    left_at : (j : ℕ) → standing j ≡ AttachedObject → ObjectIs s code m j → (x : Option (Cut Activation)) (x' : Option (Cut machine.Activation)) → cut_at meaning.owner j chain ≡ x → Both (CutIs s code m fs NoValue) x x' → Alike R (onward (leave_at meaning.owner x before j)) (frames_onward (leave_at machine.owner x' frames_before j))
    unfolding computing
    left_at j is a None None e r = refused ObjectNotOperating
    left_at j is a None (Some k') e r = absurd r
    left_at j is a (Some k) None e r = absurd r
    left_at j is a (Some k) (Some k') e r =
        let here = (cut_is meaning.owner j chain k e).here in
        let parts = object_leaves s code compiled m fs store j a NoValue k k' r here in
        let xs = slice_set m.standings j (DetachedObject (upper k)) in
        let ys = slice_set fs.standings j (DetachedObject (upper k')) in
        let same : (i : ℕ) → Every i → suspended_in xs i ≡ suspended m i = λ i of. set_alike m.standings j (DetachedObject (upper k)) (sym (ap suspends is)) i in
        goes_below s code o (record m { standings = xs }) (record fs { standings = ys }) (stood_store s code m fs store xs ys Every same)
        (stands_one s code m fs store j (DetachedObject (upper k)) (DetachedObject (upper k')) Every same (kept_every m) parked
        (stood_object s code m fs store xs ys Every same j a, stood_on s code m fs store xs ys Every same NoValue (upper k) (all_every (upper k)) NoValue (upper k') parts.0)) k.below k'.below
        (stood_on s code m fs store xs ys Every same NoValue k.below (all_every k.below) NoValue k'.below parts.1)

    gives_up : (h : ℕ) (x : Option (Cut Activation)) (x' : Option (Cut machine.Activation)) → Both (CutIs s code m fs NoValue) x x' → Alike R (onward (give_up_at meaning.owner x before h)) (frames_onward (give_up_at machine.owner x' frames_before h))
    gives_up h None None r = refused ObjectNotOperating
    gives_up h None (Some k') r = absurd r
    gives_up h (Some k) None r = absurd r
    gives_up h (Some k) (Some k') r = main_component h

    left_by : (j : ℕ) (x : Standing Activation) (y : Standing machine.Activation) → standing j ≡ x → StandingAt s code m fs j x y → Alike R (onward (detach_by meaning.owner x before (system_head m j) j)) (frames_onward (detach_by machine.owner y frames_before (system_head m j) j))
    left_by j AttachedObject AttachedObject e a = left_at j e a (cut_at meaning.owner j chain) (cut_at machine.owner j acts) refl (chain_cut s code m fs j chain NoValue acts c)
    left_by j ResumedObject ResumedObject e a = gives_up (system_head m j) (cut_at meaning.owner j chain) (cut_at machine.owner j acts) (chain_cut s code m fs j chain NoValue acts c)
    left_by j (DetachedObject u) (DetachedObject v) e a = refused ObjectNotOperating
    left_by j (NoObject None) (NoObject None) e a = stays
    left_by j (NoObject (Some u)) (NoObject (Some v)) e a = stays
    left_by j TerminatedObject TerminatedObject e a = refused ObjectNotOperating
    left_by j _ _ e a = absurd a

    left : (j : ℕ) → Alike R (onward (detach meaning.owner (system_head m) before j)) (frames_onward (detach machine.owner (system_head fs) frames_before j))
    left j =
        subst (λ z. Alike R (onward (detach meaning.owner (system_head m) before j)) (frames_onward (detach_by machine.owner (frame_standing j) frames_before z j))) (sym (heads_same j))
        (left_by j (standing j) (frame_standing j) refl (standing_here j))

    -- ---- `resume`

    module _ (y : ℕ) (u : List Activation) (u' : List machine.Activation) (is_detached : standing y ≡ DetachedObject u) (object : ObjectIs s code m y) (own : ChainAt s code m fs u NoValue u') where
      abbrev its_head : ℕ
      its_head = system_head m y

      module _ (k : Cut Activation) (k' : Cut machine.Activation) (e : cut_at meaning.owner its_head chain ≡ Some k) (r : CutIs s code m fs NoValue k k') where
        cut : IsCut meaning.owner its_head chain k
        cut = cut_is meaning.owner its_head chain k e

        here : meaning.owner k.here ≡ Some its_head
        here = cut.here

        abbrev d : Wait
        d = demand NoValue k.above

        -- the main component operated so far, and waits from now on
        main_waits : standing its_head ≡ NoObject None → Alike R (onward (Ok (with_standing y ResumedObject (with_operating (u ++ k.here ∷ k.below) (with_standing its_head (NoObject (Some k.above)) before))))) (frames_onward (Ok (with_standing y ResumedObject (with_operating (u' ++ k'.here ∷ k'.below) (with_standing its_head (NoObject (Some k'.above)) frames_before)))))
        unfolding computing
        main_waits is =
            let once = stands_once (system_head m) before formed its_head k cut in
            let detached = is_detached in
            let apart : y ≢ its_head = λ same. (let one = ap standing same in absurd (cc (one, detached, is))) in
            let mid = slice_set m.standings its_head (NoObject (Some k.above)) in
            let xs = slice_set mid y ResumedObject in
            let ys = slice_set (slice_set fs.standings its_head (NoObject (Some k'.above))) y ResumedObject in
            let at_y : suspended_in mid y ≡ None = set_apart m.standings its_head (NoObject (Some k.above)) y apart ∙ ap suspends detached in
            let same : (i : ℕ) → Other its_head i → suspended_in xs i ≡ suspended m i = λ i other. set_alike mid y ResumedObject (sym at_y) i ∙ set_apart m.standings its_head (NoObject (Some k.above)) i other in
            let waits : suspended_in xs its_head ≡ Some d = set_alike mid y ResumedObject (sym at_y) its_head ∙ set_here m.standings its_head (NoObject (Some k.above)) once.entered in
            let b = r.1 in
            let at = head_is its_head d k k' b here in
            let gets = gets_free (suspended_by m (owner_of b.block.thunk k.here.instance)) d b.gets (ap (suspended_by m) at ∙ ap suspends is) b.gets_is in
            let head = stood_head s code m fs store xs ys (Other its_head) same k.here k.below once.below d NoValue k'.here k'.below b (main_gets (suspended_by (record m { standings = xs }) (owner_of b.block.thunk k.here.instance)) b.gets d (ap (suspended_by (record m { standings = xs })) at ∙ waits) gets) in
            goes_below s code o (record m { standings = xs }) (record fs { standings = ys }) (stood_store s code m fs store xs ys (Other its_head) same)
            (stands_two s code m fs store its_head (NoObject (Some k.above)) (NoObject (Some k'.above)) y ResumedObject ResumedObject (Other its_head) same once.kept parked (stood_on s code m fs store xs ys (Other its_head) same d k.above once.above NoValue k'.above r.0) (stood_object s code m fs store xs ys (Other its_head) same y object)) (u ++ k.here ∷ k.below) (u' ++ k'.here ∷ k'.below)
            (chain_join s code (record m { standings = xs }) (record fs { standings = ys }) NoValue (k.here ∷ k.below) (k'.here ∷ k'.below) head u NoValue u' (stood_on s code m fs store xs ys (Other its_head) same NoValue u (subst (OwnersKeptOf (Other its_head)) detached (once.kept_at y)) NoValue u' own))

        -- another object operated so far, and is detached
        object_leaves_head : (main : List Activation) → standing its_head ≡ NoObject (Some main) → Alike R (onward (Ok (with_standing y ResumedObject (with_operating (u ++ k.here ∷ k.below) (kept_as meaning.owner (outermost meaning.owner k.above) k.above before))))) (frames_onward (Ok (with_standing y ResumedObject (with_operating (u' ++ k'.here ∷ k'.below) (kept_as machine.owner (outermost machine.owner k'.above) k'.above frames_before)))))
        unfolding computing
        object_leaves_head main is =
            let above = resumed_above (system_head m) before formed its_head k main cut is in
            let z = above.object in
            let detached = is_detached in
            let mid = slice_set m.standings z (DetachedObject k.above) in
            let xs = slice_set mid y ResumedObject in
            let ys = slice_set (slice_set fs.standings z (DetachedObject k'.above)) y ResumedObject in
            let mid_same : (i : ℕ) → suspended_in mid i ≡ suspended m i = λ i. set_alike m.standings z (DetachedObject k.above) (sym (ap suspends above.resumed)) i in
            let at_y : suspended_in mid y ≡ None = mid_same y ∙ ap suspends detached in
            let same : (i : ℕ) → Every i → suspended_in xs i ≡ suspended m i = λ i of. set_alike mid y ResumedObject (sym at_y) i ∙ mid_same i in
            let b = r.1 in
            let at = head_is its_head d k k' b here in
            let gets = gets_main (suspended_by m (owner_of b.block.thunk k.here.instance)) d b.gets (demand NoValue main) (ap (suspended_by m) at ∙ ap suspends is) b.gets_is in
            let head = stood_on s code m fs store xs ys Every same NoValue (k.here ∷ k.below) (all_every (k.here ∷ k.below)) NoValue (k'.here ∷ k'.below) (subst (λ g. ChainAt s code m fs (k.here ∷ k.below) g (k'.here ∷ k'.below)) gets.0 b) in
            let old = stood_object s code m fs store xs ys Every same z (resumed_object z (standing z) (frame_standing z) (standing_here z) above.resumed) in
            let kept_chain = stood_on s code m fs store xs ys Every same NoValue k.above (all_every k.above) NoValue k'.above (subst (λ g. ChainOn s code (Bottom s code g) m fs k.above NoValue k'.above) gets.0 r.0) in
            let state =
            goes_below s code o (record m { standings = xs }) (record fs { standings = ys }) (stood_store s code m fs store xs ys Every same)
            (stands_two s code m fs store z (DetachedObject k.above) (DetachedObject k'.above) y ResumedObject ResumedObject Every same (kept_every m) parked (old, kept_chain) (stood_object s code m fs store xs ys Every same y object)) (u ++ k.here ∷ k.below) (u' ++ k'.here ∷ k'.below)
            (chain_join s code (record m { standings = xs }) (record fs { standings = ys }) NoValue (k.here ∷ k.below) (k'.here ∷ k'.below) head u NoValue u' (stood_on s code m fs store xs ys Every same NoValue u (all_every u) NoValue u' own)) in
            let machine_above : outermost machine.owner k'.above ≡ Some z = outermost_same s code m fs d k.above NoValue k'.above r.0 ∙ above.above in
            subst (λ q. Alike R (onward (Ok (with_standing y ResumedObject (with_operating (u ++ k.here ∷ k.below) (kept_as meaning.owner q k.above before))))) (frames_onward (Ok (with_standing y ResumedObject (with_operating (u' ++ k'.here ∷ k'.below) (kept_as machine.owner (outermost machine.owner k'.above) k'.above frames_before)))))) (sym above.above)
            (subst (λ q. Alike R (onward (Ok (with_standing y ResumedObject (with_operating (u ++ k.here ∷ k.below) (kept_as meaning.owner (Some z) k.above before))))) (frames_onward (Ok (with_standing y ResumedObject (with_operating (u' ++ k'.here ∷ k'.below) (kept_as machine.owner q k'.above frames_before)))))) (sym machine_above) state)

        -- the head of an object is none
        no_object : is_object (standing its_head) ≡ false
        no_object = formed.heads y (ap is_object is_detached)

        kept_so : (x : Standing Activation) (x' : Standing machine.Activation) → standing its_head ≡ x → StandingAt s code m fs its_head x x' → Alike R (onward (Ok (with_standing y ResumedObject (with_operating (u ++ k.here ∷ k.below) (kept_by meaning.owner x its_head k.above before))))) (frames_onward (Ok (with_standing y ResumedObject (with_operating (u' ++ k'.here ∷ k'.below) (kept_by machine.owner x' its_head k'.above frames_before)))))
        kept_so (NoObject None) (NoObject None) is a = main_waits is
        kept_so (NoObject (Some main)) (NoObject (Some main')) is a = object_leaves_head main is
        kept_so AttachedObject AttachedObject is a = let no = no_object in let yes = ap is_object is in absurd (cc (no, yes))
        kept_so (DetachedObject v) (DetachedObject v') is a = let no = no_object in let yes = ap is_object is in absurd (cc (no, yes))
        kept_so ResumedObject ResumedObject is a = let no = no_object in let yes = ap is_object is in absurd (cc (no, yes))
        kept_so TerminatedObject TerminatedObject is a = let no = no_object in let yes = ap is_object is in absurd (cc (no, yes))
        kept_so _ _ is a = absurd a

      resumed_cut : (x : Option (Cut Activation)) (x' : Option (Cut machine.Activation)) → cut_at meaning.owner its_head chain ≡ x → Both (CutIs s code m fs NoValue) x x' → Alike R (onward (resume_at meaning.owner x u before its_head y)) (frames_onward (resume_at machine.owner x' u' frames_before its_head y))
      resumed_cut None None e r = refused SystemNotOperating
      resumed_cut None (Some k') e r = absurd r
      resumed_cut (Some k) None e r = absurd r
      resumed_cut (Some k) (Some k') e r = kept_so k k' e r (standing its_head) (frame_standing its_head) refl (standing_here its_head)

    resumed_by : (y : ℕ) (x : Standing Activation) (x' : Standing machine.Activation) → standing y ≡ x → StandingAt s code m fs y x x' → Alike R (onward (resume_by meaning.owner x before (system_head m y) y)) (frames_onward (resume_by machine.owner x' frames_before (system_head m y) y))
    resumed_by y (DetachedObject u) (DetachedObject u') e a = resumed_cut y u u' e a.0 a.1 (cut_at meaning.owner (system_head m y) chain) (cut_at machine.owner (system_head m y) acts) refl (chain_cut s code m fs (system_head m y) chain NoValue acts c)
    resumed_by y (NoObject None) (NoObject None) e a = refused ResumedIsAttached
    resumed_by y (NoObject (Some u)) (NoObject (Some v)) e a = refused ResumedIsAttached
    resumed_by y AttachedObject AttachedObject e a = refused ResumedIsAttached
    resumed_by y ResumedObject ResumedObject e a = stays
    resumed_by y TerminatedObject TerminatedObject e a = refused ComponentIsTerminated
    resumed_by y _ _ e a = absurd a

    resumed : (y : Option ℕ) → Alike R (onward (resume meaning.owner (system_head m) before y)) (frames_onward (resume machine.owner (system_head fs) frames_before y))
    resumed None = refused NoneIsNoComponent
    resumed (Some y) =
        subst (λ z. Alike R (onward (resume meaning.owner (system_head m) before (Some y))) (frames_onward (resume_by machine.owner (frame_standing y) frames_before z y))) (sym (heads_same y))
        (resumed_by y (standing y) (frame_standing y) refl (standing_here y))

    -- ---- all of them

    moved_by : (way : Transfer) (y : Option ℕ) → Alike R (having (transferred meaning.owner way (system_head m) before y) o onward) (having (transferred machine.owner way (system_head fs) frames_before y) o frames_onward)
    unfolding having
    moved_by Detaching None = alike_no_rule Configuration Machine R o
    moved_by Detaching (Some j) = left j
    moved_by Calling y = called y
    moved_by Resuming y = resumed y

    moved_of : (way : Transfer) (v : Plain) → Alike R (having (component_in v) o (λ y. having (transferred meaning.owner way (system_head m) before y) o onward)) (having (component_in v) o (λ y. having (transferred machine.owner way (system_head fs) frames_before y) o frames_onward))
    moved_of way v = alike_same Configuration Machine R (Option ℕ) (component_in v) o _ _ (λ y. moved_by way y)

    pub transfers : (way : Transfer) (v : Plain) → Alike R (transferring meaning.owner way line o chain m v) (transferring machine.owner way line o acts fs v)
    unfolding transferring
    transfers way (MainOf j) = alike_stopping Configuration Machine R (RunFault (refused_of_main way) line) o
    transfers way (Object j) = moved_of way (Object j)
    transfers way Nothing = moved_of way Nothing
    transfers way (Integer z) = moved_of way (Integer z)
    transfers way (Truth z) = moved_of way (Truth z)
    transfers way (Character z) = moved_of way (Character z)
    transfers way (Text z) = moved_of way (Text z)

    -- who goes on after a scheduling procedure: the main component of a system, or an object that is resumed
    controlled : (head : ℕ) (y : Option ℕ) → Alike R (onward (give_control_to meaning.owner (system_head m) before head y)) (frames_onward (give_control_to machine.owner (system_head fs) frames_before head y))
    controlled head None = main_component head
    controlled head (Some y) = resumed (Some y)

    gone_to : (x : Simulation) (n : Next) → Alike R (going_to meaning.owner line o chain m x n) (going_to machine.owner line o acts fs x n)
    unfolding computing
    gone_to x next.Stay = stays
    gone_to x (next.Resume p) = alike_same Configuration Machine R (Option ℕ) (component_of x p.0) o _ _ (λ y. controlled x.block y)

-- the list of notices that a procedure leaves decides
pub decides : (s : Source) (code : CodeOf) → Compiled s code → (o : World) (m : Instances) (fs : Frames) → StoreAt s code m fs → StandingsAt s code m fs → (line : ℕ) (chain : List Activation) (acts : List machine.Activation) → ChainAt s code m fs chain NoValue acts → IsWellFormed meaning.owner (system_head m) (record { operating = chain; standings = m.standings }) → (x : ℕ × Simulation) (r : Result (List Notice) RunError)
    → Alike (StateAt s code) (deciding meaning.owner line o chain m x r) (deciding machine.owner line o acts fs x r)
unfolding deciding
decides s code compiled o m fs store parked line chain acts c formed x r =
    alike_computing Configuration Machine (StateAt s code) (List Notice) line r o _ _
    (λ notices. alike_computing Configuration Machine (StateAt s code) Next line (next_of x.1.notices notices) o _ _
    (λ n. gone_to s code compiled (with_simulation o x.0 (record x.1 { notices = notices })) m fs store parked line chain acts c formed x.1 n))
