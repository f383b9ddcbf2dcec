-- Processes that values name, and how simulation blocks see references.
use Rattle.std.proofs.Common.{◌≡◌, ℕ, List, [], ◌∷◌, map, sym, subst, refl, ap, ◌∙◌}
use Rattle.std.proofs.lemmas.Option.{slice_get-map}
use Rattle.std.specs.Option.{option_map}
use Rattle.std.specs.Prelude.{Bool, slice_get, Option, Some, None, Result}
use Rattle.sim_base.specs.declared.run_error.RunError.{RunError}
use Rattle.notices.specs.declared.activation.ProcessRef.{ProcessRef}
use Rattle.sim_values.specs.declared.standard.Standard.{Standard}
use Rattle.sim_values.specs.Plain.{Character, Integer, MainOf, Nothing, Object, Plain, Text, Truth}
use Rattle.sim_code.specs.Classes.{in_process, in_process_class, is_in, process_at}
use Rattle.sim_code.specs.Code.{CodeOf}
use Rattle.sim_code.specs.Events.{computing, having, pop_plain, popping}
use Rattle.sim_code.specs.Machine.{Frames, Machine, Value, plain}
use Rattle.sim_code.specs.Outcome.{Run, Simulation, World}
use Rattle.sim_code.specs.Scheduling.{block_around, performing_process}
use Rattle.sim_code.specs.Simulations.{located, named_as, named_if, number_in, process_tells, seen, with_place}
use Rattle.object_machine.specs.declared.classes.Reference.{Reference}
use Rattle.object_machine.specs.declared.classes.Reference.TheVariants as reference
use Rattle.object_machine.specs.declared.simulated.Simulated.{Simulated}
use Rattle.object_machine.specs.Classing.{Refers, tested}
use Rattle.object_machine.specs.Simulating.{simulation_of}
use Rattle.object_machine.specs.Telling.{block_of, bound, told_of}

-- ---- one thing behind the other

module _ {A B C : Type 0} (f : A → Option B) (g : A → B → Option C) where
  pub bound_nowhere : (q : Option A) → bound q f ≡ None → bound q (λ a. bound (f a) (g a)) ≡ None
  bound_nowhere None e = refl
  bound_nowhere (Some a) e = ap (λ w. bound w (g a)) e

  pub bound_at : (q : Option A) (b : B) → bound q f ≡ Some b → (a : A) × (q ≡ Some a) × (bound q (λ a. bound (f a) (g a)) ≡ g a b)
  bound_at None b e = absurd (cc)
  bound_at (Some a) b e = (a, refl, ap (λ w. bound w (g a)) e)

-- ---- the simulation of a block

pub place_there : (ss : List Simulated) (place : ℕ) (s : Simulated) → slice_get ss place ≡ Some s → with_place (map simulation_of ss) (Some place) ≡ Some (place, simulation_of s)
place_there ss place s there = ap (λ q. option_map (λ x. (place, x)) q) (slice_get-map simulation_of ss place ∙ ap (λ q. option_map simulation_of q) there)

module _ (ss : List Simulated) (sims : List Simulation) (is : sims ≡ map simulation_of ss) (b : ℕ) (place : Option ℕ) (found : with_place (map simulation_of ss) place ≡ located (map simulation_of ss) b) where
  pub located_there : (n : ℕ) (s : Simulated) → place ≡ Some n → slice_get ss n ≡ Some s → located sims b ≡ Some (n, simulation_of s)
  located_there n s e there = ap (λ l. located l b) is ∙ sym found ∙ ap (λ q. with_place (map simulation_of ss) q) e ∙ place_there ss n s there

  pub located_nowhere : place ≡ None → located sims b ≡ None
  located_nowhere e = ap (λ l. located l b) is ∙ sym found ∙ ap (λ q. with_place (map simulation_of ss) q) e

-- ---- what a process tells

module _ (around : ℕ → Option ℕ) (name : Standard) (sims : List Simulation) (v : Value) where
  abbrev By_block : Plain → ℕ → Option (Result Plain RunError)
  By_block p b = bound (located sims b) (λ x. bound (number_in x.1 p) (λ n. process_tells name x.1 n))

  pub told_nowhere : block_of around v ≡ None → told_of around name sims v ≡ None
  told_nowhere e = bound_nowhere (λ p. block_around around p) By_block (plain v) e

  module _ (b : ℕ) (e : block_of around v ≡ Some b) where
    pub told_unlocated : located sims b ≡ None → told_of around name sims v ≡ None
    told_unlocated h = let at = bound_at (λ p. block_around around p) By_block (plain v) b e in at.2 ∙ ap (λ q. bound q (λ x. bound (number_in x.1 at.0) (λ n. process_tells name x.1 n))) h

    pub told_by : (place : ℕ) (x : Simulation) → located sims b ≡ Some (place, x) → (p : Plain) × (plain v ≡ Some p) × (told_of around name sims v ≡ bound (number_in x p) (λ n. process_tells name x n))
    told_by place x h =
        let at = bound_at (λ p. block_around around p) By_block (plain v) b e in
        (at.0, at.1, at.2 ∙ ap (λ q. bound q (λ x. bound (number_in x.1 at.0) (λ n. process_tells name x.1 n))) h)

-- ---- how a block sees a reference

-- what a reference names that is not none
pub names_something : (r : Reference) (v : Option Plain) → Refers r v → (r ≡ reference.IsNone → ⊥) → (r ≡ reference.Other → ⊥) →
    (p : Plain) × (v ≡ Some p) × Refers r (Some p) × ((in_class : Plain → Option Bool) (x : Simulation) → seen in_class x p ≡ named_if (in_class p) x p)
names_something (reference.Object f) v h none other = (Object f.stamp, h, refl, λ in_class x. refl)
names_something (reference.Main f) v h none other = (MainOf f.stamp, h, refl, λ in_class x. refl)
names_something reference.IsNone v h none other = absurd (none refl)
names_something reference.Other v h none other = absurd (other refl)

pub seen_none : (r : Reference) (v : Option Plain) (in_class : Plain → Option Bool) (x : Simulation) → r ≡ reference.IsNone → Refers r v → bound v (λ p. seen in_class x p) ≡ Some None
seen_none r v in_class x e h = ap (λ q. bound q (λ p. seen in_class x p)) (subst (λ r. Refers r v) e h)

pub seen_other : (r : Reference) (v : Option Plain) (in_class : Plain → Option Bool) (x : Simulation) → r ≡ reference.Other → Refers r v → bound v (λ p. seen in_class x p) ≡ None
seen_other r v in_class x e h = unseen v (subst (λ r. Refers r v) e h)
  where
    unseen : (v : Option Plain) → Refers reference.Other v → bound v (λ p. seen in_class x p) ≡ None
    unseen None h = refl
    unseen (Some (Integer i)) h = refl
    unseen (Some (Truth b)) h = refl
    unseen (Some (Character c)) h = refl
    unseen (Some (Text t)) h = refl
    unseen (Some (Object j)) h = absurd h
    unseen (Some (MainOf b)) h = absurd h
    unseen (Some Nothing) h = absurd h

module _ (code : CodeOf) (m : Frames) (b : ℕ) (x : Simulation) (r : Reference) (v : Option Plain) (refers : Refers r v) (none : r ≡ reference.IsNone → ⊥) (other : r ≡ reference.Other → ⊥) where
  abbrev pub Named : (p : Plain) × (v ≡ Some p) × Refers r (Some p) × ((in_class : Plain → Option Bool) (x : Simulation) → seen in_class x p ≡ named_if (in_class p) x p)
  Named = names_something r v refers none other

  abbrev pub Seen : Option (Option ProcessRef)
  Seen = bound v (λ p. seen (in_process code m b) x p)

  seen_if : Seen ≡ named_if (in_process code m b Named.0) x Named.0
  seen_if = ap (λ q. bound q (λ p. seen (in_process code m b) x p)) Named.1 ∙ Named.3 (in_process code m b) x

  pub seen_unclassed : process_at code m b ≡ None → Seen ≡ None
  seen_unclassed e = seen_if ∙ ap (λ q. named_if (in_process_class code m q Named.0) x Named.0) e

  module _ (c : ℕ) (e : process_at code m b ≡ Some c) (q : Option Bool) (test : q ≡ tested (λ p. is_in code m c p) v) where
    tested_so : in_process code m b Named.0 ≡ q
    tested_so = ap (λ k. in_process_class code m k Named.0) e ∙ sym (ap (λ w. tested (λ p. is_in code m c p) w) Named.1) ∙ sym test

    pub seen_untested : q ≡ None → Seen ≡ None
    seen_untested is = seen_if ∙ ap (λ k. named_if k x Named.0) (tested_so ∙ is)

    pub seen_as : (holds : Bool) → q ≡ Some holds → Seen ≡ Some (Some (named_as holds (number_in x Named.0) x))
    seen_as holds is = seen_if ∙ ap (λ k. named_if k x Named.0) (tested_so ∙ is)

-- ---- the row of what a process tells

module _ (around : ℕ → Option ℕ) (name : Standard) (line : ℕ) (o : World) (go : Plain → List Value → Run Machine) where
  abbrev pub Tell : Value → List Value → Run Machine
  Tell v rest = having (told_of around name o.simulations v) o (λ r. computing line r o (λ z. go z rest))

  module _ (rest : List Value) where
    abbrev Last : Option (Result Plain RunError) → Run Machine
    Last r = having r o (λ r. computing line r o (λ z. go z rest))

    by_number : (x : ℕ × Simulation) (n : Option ℕ) → having n o (λ n. Last (process_tells name x.1 n)) ≡ Last (bound n (λ n. process_tells name x.1 n))
    unfolding having
    by_number x None = refl
    by_number x (Some n) = refl

    by_place : (p : Plain) (x : Option (ℕ × Simulation)) → having x o (λ x. having (number_in x.1 p) o (λ n. Last (process_tells name x.1 n))) ≡ Last (bound x (λ x. bound (number_in x.1 p) (λ n. process_tells name x.1 n)))
    unfolding having
    by_place p None = refl
    by_place p (Some x) = by_number x (number_in x.1 p)

    by_block : (p : Plain) (b : Option ℕ) → having b o (λ b. having (located o.simulations b) o (λ x. having (number_in x.1 p) o (λ n. Last (process_tells name x.1 n)))) ≡ Last (bound b (λ b. bound (located o.simulations b) (λ x. bound (number_in x.1 p) (λ n. process_tells name x.1 n))))
    unfolding having
    by_block p None = refl
    by_block p (Some b) = by_place p (located o.simulations b)

    by_value : (p : Option Plain) → having p o (λ p. having (block_around around p) o (λ b. having (located o.simulations b) o (λ x. having (number_in x.1 p) o (λ n. Last (process_tells name x.1 n)))))
        ≡ Last (bound p (λ p. bound (block_around around p) (λ b. bound (located o.simulations b) (λ x. bound (number_in x.1 p) (λ n. process_tells name x.1 n)))))
    unfolding having
    by_value None = refl
    by_value (Some p) = by_block p (block_around around p)

  pub process_row : (stack : List Value) → performing_process plain around name line stack o go ≡ popping stack o Tell
  unfolding performing_process pop_plain popping
  process_row [] = refl
  process_row (v ∷ rest) = by_value rest (plain v)
