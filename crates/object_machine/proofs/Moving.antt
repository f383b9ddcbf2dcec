-- Activations that move between the operating chain and a park.
use Rattle.std.proofs.Common.{◌≡◌, ℕ, zero, suc, ◌+◌, ◌<◌, ◌≤◌, List, [], ◌∷◌, ◌++◌, length, map, set, sym, subst, refl, ap, ◌∙◌, arith}
use Rattle.std.proofs.lemmas.List.{append_assoc, map-append}
use Rattle.std.specs.Prelude.{Bool, true, false, reverse, Option, Some, None, slice_get, slice_index_or}
use Rattle.sim_base.specs.declared.limits.Limits.{Limits}
use Rattle.sim_values.specs.Plain.{Plain, Object}
use Rattle.sim_chains.specs.Chains.{Cut, cut_at, outermost, stands_on}
use Rattle.sim_chains.specs.Components.{AttachedObject, Components, DetachedObject, NoObject, ResumedObject, Standing, TerminatedObject, kept as kept_of, kept_as, kept_by}
use Rattle.sim_code.specs.Events.{having, no_rule, pop_plain, popping}
use Rattle.sim_code.specs.Instances.{going_below, system_head}
use Rattle.sim_code.specs.Machine.{Activation, Frames, Machine, Value, owner, plain, waiting}
use Rattle.sim_code.specs.Outcome.{Run, World}
use Rattle.sim_code.specs.Transfers.{Calling, Detaching, Resuming, Transfer, transferring}
use Rattle.frame_arena.specs.declared.frames.Component.{Component}
use Rattle.frame_arena.specs.declared.frames.Component.TheVariants as component
use Rattle.frame_arena.specs.declared.frames.Frame.{Frame}
use Rattle.frame_arena.specs.declared.slot.Slot.{Slot}
use Rattle.frame_arena.specs.Frames.{Has, Holds, IsKeeping, StandsAs, frame_at}
use Rattle.frame_arena.specs.Slots.{value_of}
use Rattle.frame_arena.specs.Stacks.{slot_at, values_of, with_top}
use Rattle.frame_arena.proofs.Enclosers.{index_there}
use Rattle.object_machine.specs.declared.machine.Storage.{Storage}
use Rattle.object_machine.specs.declared.machine.Activation as working
use Rattle.object_machine.specs.declared.machine.Flow.{Flow}
use Rattle.object_machine.specs.declared.machine.Flow.TheVariants as flow
use Rattle.object_machine.specs.Classing.{IsNoReference}
use Rattle.object_machine.specs.Standing.{AllAtWork, AllFit, AtWork, Leaves, Outside, Stands, Stores, activation_of, below_of, parked}
use Rattle.object_machine.specs.Transferring.{Anew, controlling, CutsAt, EndsAt, JoinsChain, LeavesChain, frame_of, operating}
use Rattle.object_machine.proofs.Anew.{anew_twice, index_other, set_apart, set_over, set_twice}
use Rattle.object_machine.proofs.Cutting.{Each, each_first, each_join, each_last, each_later, each_below, each_of, each_operating, of_each, outermost_other}
use Rattle.object_machine.proofs.Going.{act}
use Rattle.object_machine.proofs.Having.{having_some}
use Rattle.object_machine.proofs.Transferring.{Board, cut_here, joins, leaves, main_goes, no_component, no_cut, plain_popped, resumes, some_cut}

-- ---- what a transfer leaves

module _ (l : Limits) (line : ℕ) (before : Option (List ℕ)) (now : Outside) (o : World) where
  abbrev pub At : Storage → Frames → working.Activation → Type 0
  At p m t = AtWork p o m t.registers t.stack.items

  abbrev pub Fits : working.Activation → Type 0
  Fits t = t.registers.depth ≤ length t.stack.items

  -- the run goes on with this chain and this memory
  pub goes_on_with : (p : Storage) (m : Frames) (top : working.Activation) (below : List working.Activation) (q : Run Machine) → q ≡ going_below o (map activation_of (operating top below)) m → Stores l p before now o m → Each (At p m) (operating top below) →
      Leaves flow.On l line p top.registers top.stack.items below before now q
  unfolding Leaves
  goes_on_with p m top below q e stores each = subst (λ q. Leaves flow.On l line p top.registers top.stack.items below before now q) (sym e)
      (refl, record { stores = stores; top = each.0; others = λ k t there. each_below (At p m) top below each k t there })

  misfit : (kept front : List working.Activation) (t : working.Activation) (back : List working.Activation) → AllFit kept → kept ≡ front ++ t ∷ back → (Fits t → ⊥) → ⊥
  misfit kept front t back fit e no_room = no_room (each_last Fits front (t ∷ back) (subst (λ w. Each Fits w) e (each_of Fits kept fit))).0

  -- the same where a chain that was kept goes on top
  module _ (p : Storage) (m : Frames) (kept left : List working.Activation) (top top2 : working.Activation) (below below2 : List working.Activation) (q : Run Machine) where
    pub joins_on : (f : Flow) → JoinsChain f kept (operating top below) left (operating top2 below2) → AllFit kept → q ≡ going_below o (map activation_of kept ++ map activation_of (operating top below)) m →
        Stores l p before now o m → Each (At p m) kept → Each (At p m) (operating top below) → Leaves f l line p top2.registers top2.stack.items below2 before now q
    unfolding Leaves
    joins_on flow.On h fit e stores ek et =
        goes_on_with p m top2 below2 q (e ∙ ap (λ w. going_below o w m) (sym (ap (λ w. map activation_of w) h.1 ∙ map-append activation_of kept (operating top below)))) stores
        (subst (λ w. Each (At p m) w) (sym h.1) (each_join (At p m) kept (operating top below) ek et))
    joins_on flow.Jumped h fit e stores ek et = absurd h
    joins_on flow.Normal h fit e stores ek et = absurd h
    joins_on flow.NoRule h fit e stores ek et = absurd (misfit kept h.0 h.1 h.2 fit h.3 h.4)
    joins_on flow.TickLimit h fit e stores ek et = absurd h
    joins_on flow.Exhausted h fit e stores ek et = absurd h
    joins_on (flow.ExhaustedAt place) h fit e stores ek et = absurd h
    joins_on (flow.Fault x) h fit e stores ek et = absurd h
    joins_on (flow.FaultAt x place) h fit e stores ek et = absurd h
    joins_on flow.Memory h fit e stores ek et = tt
    joins_on flow.WriteFault h fit e stores ek et = elim h [ ]
    joins_on flow.InputFault h fit e stores ek et = elim h [ ]

-- where a chain is cut
pub cut_is : (j : ℕ) (chain above : List working.Activation) (top : working.Activation) (below : List working.Activation) → CutsAt j chain above top below →
    cut_at owner j (map activation_of chain) ≡ Some (record { above = map activation_of above; here = activation_of top; below = map activation_of (reverse below) })
cut_is j chain above top below c = ap (λ w. cut_at owner j (map activation_of w)) c.whole ∙ cut_here j above top (reverse below) c.own c.first

module _ (l : Limits) (line : ℕ) (p : Storage) (top : working.Activation) (below : List working.Activation) (before : Option (List ℕ)) (now : Outside) (o : World) (m : Frames) (s : Stands l p top.registers top.stack.items below before now o m) where
  abbrev Works : working.Activation → Type 0
  Works t = AtWork p o m t.registers t.stack.items

  pub all_work : Each Works (operating top below)
  all_work = each_operating Works top below s.top s.others

  pub no_rule_left : (p2 : Storage) (top2 : working.Activation) (below2 : List working.Activation) (q : Run Machine) → q ≡ no_rule o → Leaves flow.NoRule l line p2 top2.registers top2.stack.items below2 before now q
  unfolding no_rule Leaves
  no_rule_left p2 top2 below2 q e = subst (λ q. Leaves flow.NoRule l line p2 top2.registers top2.stack.items below2 before now q) (sym e) (refl, s.stores.world.written)

  abbrev pub Chain : List Activation
  Chain = map activation_of (operating top below)

  -- what is at work stays at work
  pub still_work : (p2 : Storage) (standings : List (Standing Activation)) (ts : List working.Activation) → Anew l p p2 before now o m standings → Each Works ts → Each (λ t. AtWork p2 o (record m { standings = standings }) t.registers t.stack.items) ts
  still_work p2 standings ts a h = each_later Works (λ t. AtWork p2 o (record m { standings = standings }) t.registers t.stack.items) ts (λ t w. a.works t.registers t.stack.items w) h

  -- what is parked
  pub parked_work : (place : ℕ) (kept : List working.Activation) → kept ≡ parked p.parks.items place → Each Works kept
  parked_work place kept e = subst (λ w. Each Works w) (sym e) (each_of Works (parked p.parks.items place) (s.stores.parks.work place))

  pub parked_fit : (place : ℕ) (kept : List working.Activation) → kept ≡ parked p.parks.items place → AllFit kept
  parked_fit place kept e = subst (λ w. AllFit w) (sym e) (s.stores.parks.fit place)

  -- ---- an object leaves the chain

  module _ (j : ℕ) (attached : slice_get m.standings j ≡ Some AttachedObject) where
    left_over : (kept rest : List working.Activation) (k : EndsAt j kept) → operating top below ≡ kept ++ rest → transferring owner Detaching line o Chain m (Object j) ≡ going_below o (map activation_of rest) (record m { standings = set m.standings j (DetachedObject (map activation_of kept)) })
    left_over kept rest k e =
        let whole : operating top below ≡ k.above ++ k.here ∷ rest = e ∙ ap (λ w. w ++ rest) k.is ∙ append_assoc k.above (k.here ∷ []) rest in
        leaves line o Chain m j _ attached (ap (λ w. cut_at owner j (map activation_of w)) whole ∙ cut_here j k.above k.here rest k.own k.first)
        ∙ ap (λ w. going_below o (map activation_of rest) (record m { standings = set m.standings j (DetachedObject w) })) (sym (ap (λ w. map activation_of w) k.is ∙ map-append activation_of k.above (k.here ∷ [])))

    pub object_left : (p2 : Storage) (kept : List working.Activation) (top2 : working.Activation) (below2 : List working.Activation) → LeavesChain flow.On j (operating top below) kept (operating top2 below2) →
        (AllAtWork p o m kept → Anew l p p2 before now o m (set m.standings j (DetachedObject (map activation_of kept)))) → Leaves flow.On l line p2 top2.registers top2.stack.items below2 before now (transferring owner Detaching line o Chain m (Object j))
    object_left p2 kept top2 below2 left anew =
        let rest = operating top2 below2 in
        let split : Each Works (kept ++ rest) = subst (λ w. Each Works w) left.1 all_work in
        let a = anew (of_each Works kept (each_first Works kept rest split)) in
        goes_on_with l line before now o p2 (record m { standings = set m.standings j (DetachedObject (map activation_of kept)) }) top2 below2 _ (left_over kept rest left.0 left.1) a.stores
        (still_work p2 _ rest a (each_last Works kept rest split))

    pub nothing_left : (p2 : Storage) (top2 : working.Activation) (below2 : List working.Activation) → EndsAt j (operating top below) → Leaves flow.NoRule l line p2 top2.registers top2.stack.items below2 before now (transferring owner Detaching line o Chain m (Object j))
    unfolding no_rule
    nothing_left p2 top2 below2 k = no_rule_left p2 top2 below2 _
        (leaves line o Chain m j _ attached (ap (λ w. cut_at owner j (map activation_of w)) k.is ∙ cut_here j k.above k.here [] k.own k.first))

    pub leaving_ends : (f : Flow) → (f ≡ flow.On → ⊥) → (p2 : Storage) (kept : List working.Activation) (top2 : working.Activation) (below2 : List working.Activation) → LeavesChain f j (operating top below) kept (operating top2 below2) →
        Leaves f l line p2 top2.registers top2.stack.items below2 before now (transferring owner Detaching line o Chain m (Object j))
    unfolding Leaves
    leaving_ends flow.On ne p2 kept top2 below2 h = absurd (ne refl)
    leaving_ends flow.Jumped ne p2 kept top2 below2 h = absurd h
    leaving_ends flow.Normal ne p2 kept top2 below2 h = absurd h
    leaving_ends flow.NoRule ne p2 kept top2 below2 h = nothing_left p2 top2 below2 h
    leaving_ends flow.TickLimit ne p2 kept top2 below2 h = absurd h
    leaving_ends flow.Exhausted ne p2 kept top2 below2 h = absurd h
    leaving_ends (flow.ExhaustedAt place) ne p2 kept top2 below2 h = absurd h
    leaving_ends (flow.Fault e) ne p2 kept top2 below2 h = absurd h
    leaving_ends (flow.FaultAt e place) ne p2 kept top2 below2 h = absurd h
    leaving_ends flow.Memory ne p2 kept top2 below2 h = tt
    leaving_ends flow.WriteFault ne p2 kept top2 below2 h = elim h [ ]
    leaving_ends flow.InputFault ne p2 kept top2 below2 h = elim h [ ]

  -- ---- a chain that was kept goes on top

  pub object_joined : (place j : ℕ) (p2 : Storage) (kept left : List working.Activation) (top2 : working.Activation) (below2 : List working.Activation) (f : Flow) → IsKeeping p.frames.items place j component.Detached → kept ≡ parked p.parks.items place →
      Anew l p p2 before now o m (set m.standings j AttachedObject) → JoinsChain f kept (operating top below) left (operating top2 below2) → Leaves f l line p2 top2.registers top2.stack.items below2 before now (transferring owner Calling line o Chain m (Object j))
  object_joined place j p2 kept left top2 below2 f was is a h =
      joins_on l line before now o p2 (record m { standings = set m.standings j AttachedObject }) kept left top top2 below below2 _ f h (parked_fit place kept is)
      (joins line o Chain m j (map activation_of kept) (s.stores.parks.chains place j component.Detached was ∙ ap (λ w. Some (DetachedObject (map activation_of w))) (sym is)))
      a.stores (still_work p2 _ kept a (parked_work place kept is)) (still_work p2 _ (operating top below) a all_work)

  -- ---- the main component of a system goes on

  abbrev pub Standings : List Activation → List (Standing Activation) → Components Activation
  Standings chain standings = record { operating = chain; standings = standings }

  kept_apart : (chain : List Activation) (z : Option ℕ) (u : List Activation) (x : ℕ) (w : Standing Activation) → (z ≡ Some x → ⊥) →
      (kept_as owner z u (Standings chain (set m.standings x w))).standings ≡ set (kept_as owner z u (Standings chain m.standings)).standings x w
  kept_apart chain None u x w ne = refl
  kept_apart chain (Some z) u x w ne = set_apart m.standings x z w (DetachedObject u) (λ e. ne (ap (λ k. Some k) (sym e)))

  module _ (place h : ℕ) (was : IsKeeping p.frames.items place h component.Waiting) where
    pub given_to_main : (p1 p2 : Storage) (above main left : List working.Activation) (top1 top2 : working.Activation) (below1 below2 : List working.Activation) (f : Flow) → CutsAt h (operating top below) above top1 below1 → main ≡ parked p.parks.items place →
        Anew l p p1 before now o m (set m.standings h (NoObject None)) →
        (AllAtWork p1 o (record m { standings = set m.standings h (NoObject None) }) above → Anew l p1 p2 before now o (record m { standings = set m.standings h (NoObject None) }) (kept_as owner (outermost owner (map activation_of above)) (map activation_of above) (Standings Chain (set m.standings h (NoObject None)))).standings) →
        JoinsChain f main (operating top1 below1) left (operating top2 below2) → Leaves f l line p2 top2.registers top2.stack.items below2 before now (controlling line o Chain m h None)
    given_to_main p1 p2 above main left top1 top2 below1 below2 f cut mains a b joined =
        let u : List Activation = map activation_of above in
        let z : Option ℕ = outermost owner u in
        let standings = set m.standings h (NoObject None) in
        let standings2 = (kept_as owner z u (Standings Chain standings)).standings in
        let split : Each Works (above ++ operating top1 below1) = subst (λ w. Each Works w) cut.whole all_work in
        let up : AllAtWork p1 o (record m { standings = standings }) above = of_each (λ t. AtWork p1 o (record m { standings = standings }) t.registers t.stack.items) above (still_work p1 standings above a (each_first Works above (operating top1 below1) split)) in
        let c : Anew l p p2 before now o m standings2 = anew_twice l p p1 p2 before now o m standings standings2 a (b up) in
        let same : standings2 ≡ set (kept_as owner z u (Board line o Chain m h)).standings h (NoObject None) = kept_apart Chain z u h (NoObject None) (λ e. outermost_other h above cut.first e) in
        let stands : slice_get m.standings h ≡ Some (NoObject (Some (map activation_of main))) = s.stores.parks.chains place h component.Waiting was ∙ ap (λ w. Some (NoObject (Some (map activation_of w)))) (sym mains) in
        joins_on l line before now o p2 (record m { standings = standings2 }) main left top1 top2 below1 below2 _ f joined (parked_fit place main mains)
        (main_goes line o Chain m h (map activation_of main) _ stands (cut_is h (operating top below) above top1 below1 cut)
        ∙ ap (λ w. going_below o (map activation_of main ++ map activation_of (operating top1 below1)) (record m { standings = w })) (sym same))
        c.stores (still_work p2 standings2 main c (parked_work place main mains)) (still_work p2 standings2 (operating top1 below1) c (each_last Works above (operating top1 below1) split))

  -- ---- a detached object is resumed

  kept_over : (chain : List Activation) (z : Option ℕ) (u : List Activation) (x : ℕ) (a w : Standing Activation) → set (kept_as owner z u (Standings chain (set m.standings x a))).standings x w ≡ set (kept_as owner z u (Standings chain m.standings)).standings x w
  kept_over chain None u x a w = set_twice m.standings x a w
  kept_over chain (Some z) u x a w = set_over m.standings x z a w (DetachedObject u)

  kept_over_by : (q : Standing Activation) (chain : List Activation) (h : ℕ) (u : List Activation) (x : ℕ) (a w : Standing Activation) → set (kept_by owner q h u (Standings chain (set m.standings x a))).standings x w ≡ set (kept_by owner q h u (Standings chain m.standings)).standings x w
  kept_over_by (NoObject None) chain h u x a w = set_over m.standings x h a w (NoObject (Some u))
  kept_over_by (NoObject (Some main)) chain h u x a w = kept_over chain (outermost owner u) u x a w
  kept_over_by AttachedObject chain h u x a w = kept_over chain (outermost owner u) u x a w
  kept_over_by (DetachedObject d) chain h u x a w = kept_over chain (outermost owner u) u x a w
  kept_over_by ResumedObject chain h u x a w = kept_over chain (outermost owner u) u x a w
  kept_over_by TerminatedObject chain h u x a w = kept_over chain (outermost owner u) u x a w

  kept_the_same : (chain : List Activation) (h : ℕ) (u : List Activation) (x : ℕ) (a w : Standing Activation) → (h ≡ x → ⊥) → set (kept_of owner h u (Standings chain (set m.standings x a))).standings x w ≡ set (kept_of owner h u (Standings chain m.standings)).standings x w
  kept_the_same chain h u x a w ne =
      ap (λ q. set (kept_by owner q h u (Standings chain (set m.standings x a))).standings x w) (index_other m.standings h x a (NoObject None) ne)
      ∙ kept_over_by (slice_index_or m.standings h (NoObject None)) chain h u x a w

  module _ (place j : ℕ) (was : IsKeeping p.frames.items place j component.Detached) (h : ℕ) (is : h ≡ system_head m j) (apart : h ≡ j → ⊥) where
    pub turn_taken : (p1 p2 p3 : Storage) (above kept left : List working.Activation) (top1 top2 : working.Activation) (below1 below2 : List working.Activation) (f : Flow) → CutsAt h (operating top below) above top1 below1 → kept ≡ parked p.parks.items place →
        Anew l p p1 before now o m (set m.standings j AttachedObject) →
        (AllAtWork p1 o (record m { standings = set m.standings j AttachedObject }) above → Anew l p1 p2 before now o (record m { standings = set m.standings j AttachedObject }) (kept_of owner h (map activation_of above) (Standings Chain (set m.standings j AttachedObject))).standings) →
        ((standings : List (Standing Activation)) → Stores l p2 before now o (record m { standings = standings }) → Anew l p2 p3 before now o (record m { standings = standings }) (set standings j ResumedObject)) →
        JoinsChain f kept (operating top1 below1) left (operating top2 below2) → Leaves f l line p3 top2.registers top2.stack.items below2 before now (transferring owner Resuming line o Chain m (Object j))
    turn_taken p1 p2 p3 above kept left top1 top2 below1 below2 f cut keeps a b d joined =
        let u : List Activation = map activation_of above in
        let standings = set m.standings j AttachedObject in
        let standings2 = (kept_of owner h u (Standings Chain standings)).standings in
        let standings3 = set standings2 j ResumedObject in
        let split : Each Works (above ++ operating top1 below1) = subst (λ w. Each Works w) cut.whole all_work in
        let up : AllAtWork p1 o (record m { standings = standings }) above = of_each (λ t. AtWork p1 o (record m { standings = standings }) t.registers t.stack.items) above (still_work p1 standings above a (each_first Works above (operating top1 below1) split)) in
        let c : Anew l p p2 before now o m standings2 = anew_twice l p p1 p2 before now o m standings standings2 a (b up) in
        let e : Anew l p p3 before now o m standings3 = anew_twice l p p2 p3 before now o m standings2 standings3 c (d standings2 c.stores) in
        let same : standings3 ≡ set (kept_of owner h u (Board line o Chain m j)).standings j ResumedObject = kept_the_same Chain h u j AttachedObject ResumedObject apart in
        let stands : slice_get m.standings j ≡ Some (DetachedObject (map activation_of kept)) = s.stores.parks.chains place j component.Detached was ∙ ap (λ w. Some (DetachedObject (map activation_of w))) (sym keeps) in
        joins_on l line before now o p3 (record m { standings = standings3 }) kept left top1 top2 below1 below2 _ f joined (parked_fit place kept keeps)
        (resumes line o Chain m j (map activation_of kept) stands h is _ (cut_is h (operating top below) above top1 below1 cut)
        ∙ ap (λ w. going_below o (map activation_of kept ++ map activation_of (operating top1 below1)) (record m { standings = w })) (sym same))
        e.stores (still_work p3 standings3 kept e (parked_work place kept keeps)) (still_work p3 standings3 (operating top1 below1) e (each_last Works above (operating top1 below1) split))

-- ---- behind the instruction

abbrev pub waited : working.Activation → (depth : ℕ) → working.Activation
waited t depth = record t { registers = record (t.registers) { pc = t.registers.pc + 1; depth = depth } }

pub waits_as : (t t2 : working.Activation) (depth : ℕ) → t2 ≡ waited t depth → waiting (activation_of t) (values_of depth t.stack.items) ≡ activation_of t2
waits_as t t2 depth e =
    ap (λ n. act t.registers.thunk t.registers.home.stamp n (values_of depth t.stack.items) (length t.stack.items) t.registers.stage) (let e : suc t.registers.pc ≡ t.registers.pc + 1 = omega arith in e) ∙ ap (λ t. activation_of t) (sym e)

-- where it stands does not depend on its place in the code
module _ (t : working.Activation) (below : List working.Activation) (depth j : ℕ) where
  pub no_cut_waiting : stands_on frame_of j (operating t below) ≡ false → cut_at owner j (waiting (activation_of t) (values_of depth t.stack.items) ∷ below_of below) ≡ None
  no_cut_waiting e = ap (λ a. cut_at owner j (a ∷ below_of below)) (waits_as t (waited t depth) depth refl) ∙ no_cut j (operating (waited t depth) below) e

  pub stands_waited : (t2 : working.Activation) (b : Bool) → t2 ≡ waited t depth → stands_on frame_of j (operating t below) ≡ b → stands_on frame_of j (operating t2 below) ≡ b
  stands_waited t2 b e h = subst (λ t. stands_on frame_of j (operating t below) ≡ b) (sym e) h

  pub some_cut_waiting : stands_on frame_of j (operating t below) ≡ true → (k : Cut Activation) × (cut_at owner j (waiting (activation_of t) (values_of depth t.stack.items) ∷ below_of below) ≡ Some k)
  some_cut_waiting e =
      let k = some_cut j (operating (waited t depth) below) e in
      (k.0, ap (λ a. cut_at owner j (a ∷ below_of below)) (waits_as t (waited t depth) depth refl) ∙ k.1)

-- within a list it does not matter what stands past its end
pub slot_within : (xs : List Slot) (i : ℕ) (a b : Slot) → i < length xs → slice_index_or xs i a ≡ slice_index_or xs i b
slot_within [] i a b h = absurd (omega (arith, h))
slot_within (x ∷ xs) zero a b h = refl
slot_within (x ∷ xs) (suc i) a b h = slot_within xs i a b (omega (arith, h))

-- how the frame of an instance stands
pub stands_so : (fs fs2 : List Frame) (cells : List Slot) (m : Frames) (place j : ℕ) (c c2 : Component) → Holds fs cells m → Has fs2 place j → fs2 ≡ fs → c ≡ (frame_at fs2 place).component → c ≡ c2 → StandsAs c2 (slice_get m.standings j)
stands_so fs fs2 cells m place j c c2 h has e is is2 =
    subst (λ x. StandsAs x (slice_get m.standings j)) (sym is ∙ is2) (subst (λ f. StandsAs (frame_at f place).component (slice_get m.standings j)) (sym e) (h.standings place j (subst (λ f. Has f place j) e has)))

-- where the head keeps its main chain already, what stands above it is another object's
kept_of_other : (q : Standing Activation) (n : ℕ) (u : List Activation) (b : Components Activation) → (q ≡ NoObject None → ⊥) → kept_by owner q n u b ≡ kept_as owner (outermost owner u) u b
kept_of_other (NoObject None) n u b ne = absurd (ne refl)
kept_of_other (NoObject (Some main)) n u b ne = refl
kept_of_other AttachedObject n u b ne = refl
kept_of_other (DetachedObject d) n u b ne = refl
kept_of_other ResumedObject n u b ne = refl
kept_of_other TerminatedObject n u b ne = refl

not_head : (c : Component) (q : Option (Standing Activation)) → (c ≡ component.NoObject → ⊥) → StandsAs c q → q ≡ Some (NoObject None) → ⊥
not_head component.NoObject q ne h e = ne refl
not_head component.Waiting q ne h e = absurd (let x = sym h.1 ∙ e in cc)
not_head component.Attached q ne h e = absurd (let x = sym h ∙ e in cc)
not_head component.Detached q ne h e = absurd (let x = sym h.1 ∙ e in cc)
not_head component.Resumed q ne h e = absurd (let x = sym h ∙ e in cc)
not_head component.Terminated q ne h e = absurd (let x = sym h ∙ e in cc)

some_standing : (c : Component) (q : Option (Standing Activation)) → StandsAs c q → (x : Standing Activation) × (q ≡ Some x)
some_standing component.NoObject q h = (NoObject None, h)
some_standing component.Waiting q h = (NoObject (Some h.0), h.1)
some_standing component.Attached q h = (AttachedObject, h)
some_standing component.Detached q h = (DetachedObject h.0, h.1)
some_standing component.Resumed q h = (ResumedObject, h)
some_standing component.Terminated q h = (TerminatedObject, h)

pub kept_other : (c : Component) (standings : List (Standing Activation)) (n : ℕ) (u : List Activation) (b : Components Activation) → (c ≡ component.NoObject → ⊥) → StandsAs c (slice_get standings n) →
    kept_by owner (slice_index_or standings n (NoObject None)) n u b ≡ kept_as owner (outermost owner u) u b
kept_other c standings n u b ne h =
    let x = some_standing c (slice_get standings n) h in
    ap (λ q. kept_by owner q n u b) (index_there standings n x.0 (NoObject None) x.1)
    ∙ kept_of_other x.0 n u b (λ e. not_head c (slice_get standings n) ne h (x.1 ∙ ap (λ q. Some q) e))

module _ (l : Limits) (line : ℕ) (p : Storage) (top : working.Activation) (below : List working.Activation) (before : Option (List ℕ)) (now : Outside) (o : World) (m : Frames) (s : Stands l p top.registers top.stack.items below before now o m) where
  pub stands_waiting : (depth : ℕ) (t2 : working.Activation) → t2 ≡ waited top depth → Stands l p t2.registers t2.stack.items below before now o m
  stands_waiting depth t2 e = subst (λ t. Stands l p t.registers t.stack.items below before now o m) (sym e) (record { stores = s.stores; top = record { home = s.top.home; slots = s.top.slots; arrays_lead = s.top.arrays_lead }; others = s.others })

  -- where nothing is done the top goes on
  pub stays_on : (t : Transfer) (depth : ℕ) (t2 : working.Activation) → t2 ≡ waited top depth → (j : ℕ) → transferring owner t line o (activation_of t2 ∷ below_of below) m (Object j) ≡ going_below o (activation_of t2 ∷ below_of below) m →
      Leaves flow.On l line p t2.registers t2.stack.items below before now (transferring owner t line o (waiting (activation_of top) (values_of depth top.stack.items) ∷ below_of below) m (Object j))
  unfolding Leaves
  stays_on t depth t2 e j same =
      subst (λ q. Leaves flow.On l line p t2.registers t2.stack.items below before now q) (sym (ap (λ a. transferring owner t line o (a ∷ below_of below) m (Object j)) (waits_as top t2 depth e) ∙ same))
      (refl, stands_waiting depth t2 e)

  -- the same where the main component operates already
  pub main_stays_on : (depth : ℕ) (t2 : working.Activation) → t2 ≡ waited top depth → (h : ℕ) → controlling line o (activation_of t2 ∷ below_of below) m h None ≡ going_below o (activation_of t2 ∷ below_of below) m →
      Leaves flow.On l line p t2.registers t2.stack.items below before now (controlling line o (waiting (activation_of top) (values_of depth top.stack.items) ∷ below_of below) m h None)
  unfolding Leaves
  main_stays_on depth t2 e h same =
      subst (λ q. Leaves flow.On l line p t2.registers t2.stack.items below before now q) (sym (ap (λ a. controlling line o (a ∷ below_of below) m h None) (waits_as top t2 depth e) ∙ same))
      (refl, stands_waiting depth t2 e)

  -- the reference on top
  module _ (t : Transfer) (at : ℕ) where
    abbrev Then_by : Plain → List Value → Run Machine
    Then_by v rest = transferring owner t line o (waiting (activation_of top) rest ∷ below_of below) m v

    abbrev pub Row : Run Machine
    Row = pop_plain plain (values_of top.registers.depth top.stack.items) o (λ v rest. transferring owner t line o (waiting (activation_of top) rest ∷ below_of below) m v)

    abbrev pub Popped : Option ℕ → List Slot → Type 0
    Popped depth stack = (go : Value → List Value → Run Machine) → popping (values_of top.registers.depth stack) o go ≡ with_top depth stack o go

    pub row_none : (stack : List Slot) → stack ≡ top.stack.items → Popped None stack → Row ≡ no_rule o
    row_none stack e popped = plain_popped (values_of top.registers.depth top.stack.items) o Then_by ∙ subst (λ w. Popped None w) e popped (λ v rest. having (plain v) o (λ p. Then_by p rest))

    row_at : (stack : List Slot) → stack ≡ top.stack.items → Popped (Some at) stack → Row ≡ having (plain (value_of (slot_at top.stack.items at))) o (λ p. Then_by p (values_of at top.stack.items))
    row_at stack e popped = plain_popped (values_of top.registers.depth top.stack.items) o Then_by ∙ subst (λ w. Popped (Some at) w) e popped (λ v rest. having (plain v) o (λ p. Then_by p rest))

    pub row_of : (stack : List Slot) → stack ≡ top.stack.items → Popped (Some at) stack → (slot : Slot) → slot ≡ slot_at top.stack.items at → (v : Plain) → plain (value_of slot) ≡ Some v → Row ≡ transferring owner t line o (waiting (activation_of top) (values_of at top.stack.items) ∷ below_of below) m v
    row_of stack e popped slot e2 v is = row_at stack e popped ∙ having_some (plain (value_of (slot_at top.stack.items at))) v o (λ p. Then_by p (values_of at top.stack.items)) (sym (sym (ap (λ x. plain (value_of x)) e2) ∙ is))

    pub row_other : (stack : List Slot) → stack ≡ top.stack.items → Popped (Some at) stack → (slot : Slot) → slot ≡ slot_at top.stack.items at → IsNoReference (plain (value_of slot)) → Row ≡ no_rule o
    row_other stack e popped slot e2 is = row_at stack e popped ∙ no_component line o (waiting (activation_of top) (values_of at top.stack.items) ∷ below_of below) m t (plain (value_of (slot_at top.stack.items at))) (subst (λ x. IsNoReference (plain (value_of x))) e2 is)
