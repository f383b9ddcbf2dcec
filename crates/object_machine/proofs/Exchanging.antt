-- Chains that change places.
use Rattle.std.proofs.Common.{◌≡◌, ℕ, suc, ◌-◌, ◌≤◌, List, [], ◌∷◌, ◌++◌, length, sym, subst, refl, ap, ◌∙◌, arith}
use Rattle.std.proofs.lemmas.Bool.{eqb-true}
use Rattle.std.specs.Prelude.{true, false, Option, Some, None, slice_index_or}
use Rattle.sim_base.specs.declared.limits.Limits.{Limits}
use Rattle.sim_chains.specs.Chains.{is_instance, stands_on}
use Rattle.sim_code.specs.Machine.{Machine}
use Rattle.sim_code.specs.Outcome.{Run}
use Rattle.frame_arena.specs.declared.slot.Slot.{Slot}
use Rattle.object_machine.specs.declared.machine.Activation as working
use Rattle.object_machine.specs.declared.machine.Flow.{Flow}
use Rattle.object_machine.specs.declared.machine.Flow.TheVariants as flow
use Rattle.object_machine.specs.declared.machine.Registers.{Registers}
use Rattle.object_machine.specs.declared.machine.Storage.{Storage}
use Rattle.object_machine.specs.Standing.{AllFit, Leaves, Outside}
use Rattle.object_machine.specs.Transferring.{CutsAt, Exchanges, JoinsChain, StandAlone, frame_of, operating}
use Rattle.object_machine.proofs.Cutting.{Each, each_last, each_of, none_more, step_down}

-- the activation is that of the instance
pub is_frame : (j : ℕ) (o : Option ℕ) → is_instance j o ≡ true → o ≡ Some j
is_frame j None e = absurd (cc)
is_frame j (Some y) e = ap (λ k. Some k) (eqb-true y j e)

-- a list of one
pub only_one : (xs : List working.Activation) (d : working.Activation) → length xs ≡ 1 → xs ≡ slice_index_or xs 0 d ∷ []
only_one [] d e = absurd (omega (arith, e))
only_one (x ∷ []) d e = refl
only_one (x ∷ y ∷ xs) d e = absurd (omega (arith, e))

-- the last of a list
pub last_one : (xs : List working.Activation) (d : working.Activation) → (length xs ≡ 0 → ⊥) → (rest : List working.Activation) × (xs ≡ rest ++ slice_index_or xs (length xs - 1) d ∷ [])
last_one [] d h = absurd (h refl)
last_one (x ∷ []) d h = ([], refl)
last_one (x ∷ y ∷ xs) d h =
    let r = last_one (y ∷ xs) d (λ z. omega (arith, z)) in
    let e : length (y ∷ xs) - 1 ≡ length xs = omega arith in
    let e2 : length (x ∷ y ∷ xs) - 1 ≡ suc (length xs) = omega arith in
    (x ∷ r.0, ap (λ w. x ∷ w) r.1 ∙ ap (λ k. x ∷ (r.0 ++ slice_index_or (y ∷ xs) k d ∷ [])) e ∙ ap (λ k. x ∷ (r.0 ++ slice_index_or (x ∷ y ∷ xs) k d ∷ [])) (sym e2))

-- where each has one activation
pub alone_exchanged : (j : ℕ) (kept kept2 : List working.Activation) (top top2 : working.Activation) (below : List working.Activation) → StandAlone j kept top below → kept ≡ top2 ∷ [] → kept2 ≡ top ∷ [] → Exchanges flow.On j kept (operating top below) kept2 (operating top2 below)
alone_exchanged j kept kept2 top top2 below a e e2 = (
  a.under,
  a.rest,
  record {
    whole = step_down (operating top below) [] top below a.rest a.under refl a.next ∙ ap (λ w. w ++ operating a.under a.rest) (sym e2);
    own = a.own;
    first = subst (λ w. stands_on frame_of j w ≡ false) (sym e2) (none_more j [] top refl a.other);
  },
  step_down (operating top2 below) [] top2 below a.rest a.under refl a.next ∙ ap (λ w. w ++ operating a.under a.rest) (sym e),
)

-- no activation has more values than room
abbrev Fits : working.Activation → Type 0
Fits t = t.registers.depth ≤ length t.stack.items

misfit : (kept front : List working.Activation) (t : working.Activation) (back : List working.Activation) → AllFit kept → kept ≡ front ++ t ∷ back → (Fits t → ⊥) → ⊥
misfit kept front t back fit e no_room = no_room (each_last Fits front (t ∷ back) (subst (λ w. Each Fits w) e (each_of Fits kept fit))).0

-- where the chain does not go on top
pub not_joined : (f : Flow) (j : ℕ) (kept chain0 chain above left joined joined0 : List working.Activation) → (f ≡ flow.On → ⊥) → JoinsChain f kept chain left joined → Exchanges f j kept chain0 above joined0
not_joined flow.On j kept chain0 chain above left joined joined0 ne h = absurd (ne refl)
not_joined flow.Jumped j kept chain0 chain above left joined joined0 ne h = absurd h
not_joined flow.Normal j kept chain0 chain above left joined joined0 ne h = absurd h
not_joined flow.NoRule j kept chain0 chain above left joined joined0 ne h = h
not_joined flow.TickLimit j kept chain0 chain above left joined joined0 ne h = absurd h
not_joined flow.Exhausted j kept chain0 chain above left joined joined0 ne h = absurd h
not_joined (flow.ExhaustedAt place) j kept chain0 chain above left joined joined0 ne h = absurd h
not_joined (flow.Fault e) j kept chain0 chain above left joined joined0 ne h = absurd h
not_joined (flow.FaultAt e place) j kept chain0 chain above left joined joined0 ne h = absurd h
not_joined flow.Memory j kept chain0 chain above left joined joined0 ne h = tt
not_joined flow.WriteFault j kept chain0 chain above left joined joined0 ne h = absurd h
not_joined flow.InputFault j kept chain0 chain above left joined joined0 ne h = absurd h

-- what is left where chains don't change places: want of memory
pub not_exchanged : (l : Limits) (line : ℕ) (before : Option (List ℕ)) (now : Outside) (f : Flow) (j : ℕ) (kept chain above joined : List working.Activation) (p : Storage) (r : Registers) (stack : List Slot) (below : List working.Activation) (q : Run Machine) → (f ≡ flow.On → ⊥) → Exchanges f j kept chain above joined → AllFit kept → Leaves f l line p r stack below before now q
unfolding Leaves
not_exchanged l line before now flow.On j kept chain above joined p r stack below q ne h fit = absurd (ne refl)
not_exchanged l line before now flow.Jumped j kept chain above joined p r stack below q ne h fit = absurd h
not_exchanged l line before now flow.Normal j kept chain above joined p r stack below q ne h fit = absurd h
not_exchanged l line before now flow.NoRule j kept chain above joined p r stack below q ne h fit = absurd (misfit kept h.0 h.1 h.2 fit h.3 h.4)
not_exchanged l line before now flow.TickLimit j kept chain above joined p r stack below q ne h fit = absurd h
not_exchanged l line before now flow.Exhausted j kept chain above joined p r stack below q ne h fit = absurd h
not_exchanged l line before now (flow.ExhaustedAt place) j kept chain above joined p r stack below q ne h fit = absurd h
not_exchanged l line before now (flow.Fault e) j kept chain above joined p r stack below q ne h fit = absurd h
not_exchanged l line before now (flow.FaultAt e place) j kept chain above joined p r stack below q ne h fit = absurd h
not_exchanged l line before now flow.Memory j kept chain above joined p r stack below q ne h fit = tt
not_exchanged l line before now flow.WriteFault j kept chain above joined p r stack below q ne h fit = elim h [ ]
not_exchanged l line before now flow.InputFault j kept chain above joined p r stack below q ne h fit = elim h [ ]
