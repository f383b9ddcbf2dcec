-- What well-formed components say of the chains: where a head stands, and what stands directly above one that waits for its main component.
use Rattle.std.proofs.Common.{◌≡◌, ◌<◌, ℕ, zero, suc, List, [], ◌∷◌, length, Option, Some, None, refl, sym, ap, subst, arith}
use Rattle.std.specs.Prelude.{◌==◌, ◌&&◌, slice_get, slice_index_or}
use Rattle.sim_chains.specs.Chains.{Cut, is_first, is_instance, once_if, outermost, times_on}
use Rattle.sim_chains.specs.Components.{AttachedObject, Components, DetachedObject, NoObject, ResumedObject, Standing, TerminatedObject, standing_of}
use Rattle.sim_chains.specs.WellFormed.{IsWellFormed, chain_in, over_kept}
use Rattle.sim_chains.proofs.Cuts.{IsCut}
use Rattle.sim_chains.proofs.Keeps.{directly, parted}
use Rattle.sim_code.specs.Instances.{components, system_head}
use Rattle.sim_meaning.specs.Pending.{Activation, Instances, owner}
use Rattle.sim_meaning.specs.Sane.{Other, OwnerOf, OwnersKept, OwnersKeptOf, OwnersOf}
use Rattle.sim_relate.proofs.Carried.{of_owner}
use Rattle.sim_relate.proofs.Layouts.{less_or}
use Rattle.sim_relate.proofs.Reach.{equal_numbers}
use Rattle.sim_relate.proofs.Waiting.{suspended_by, suspends}

-- an instance that stands on no place of a chain
owner_other : (s : ℕ) (o : Option ℕ) → once_if (is_instance s o) ≡ 0 → OwnerOf (Other s) o
owner_other s None e = tt
owner_other s (Some j) e = λ same. (let here : once_if (j == s) ≡ 1 = ap once_if (equal_numbers j s same) in absurd (omega (arith, e, here)))

times_other : (s : ℕ) (chain : List Activation) → times_on owner s chain ≡ 0 → OwnersOf (Other s) chain
times_other s [] e = tt
times_other s (a ∷ rest) e = (owner_other s (owner a) (omega (arith, e)), times_other s rest (omega (arith, e)))

kept_none : (f : List Activation → ℕ) (xs : List (Standing Activation)) → over_kept f xs ≡ 0 → (j : ℕ) (z : Standing Activation) → slice_get xs j ≡ Some z → f (chain_in z) ≡ 0
kept_none f [] e j z is = absurd (cc)
kept_none f (x ∷ xs) e zero z is = let same : x ≡ z = cc (is) in subst (λ y. f (chain_in y) ≡ 0) same (omega (arith, e))
kept_none f (x ∷ xs) e (suc j) z is = kept_none f xs (omega (arith, e)) j z is

kept_none_at : (f : List Activation → ℕ) (xs : List (Standing Activation)) → f [] ≡ 0 → over_kept f xs ≡ 0 → (j : ℕ) → f (chain_in (slice_index_or xs j (NoObject None))) ≡ 0
kept_none_at f [] none e j = none
kept_none_at f (x ∷ xs) none e zero = omega (arith, e)
kept_none_at f (x ∷ xs) none e (suc j) = kept_none_at f xs none (omega (arith, e)) j

standing_other : (s : ℕ) (z : Standing Activation) → times_on owner s (chain_in z) ≡ 0 → OwnersKeptOf (Other s) z
standing_other s (NoObject None) e = tt
standing_other s (NoObject (Some main)) e = times_other s main e
standing_other s AttachedObject e = tt
standing_other s (DetachedObject chain) e = times_other s chain e
standing_other s ResumedObject e = tt
standing_other s TerminatedObject e = tt

-- An instance on the operating chain stands at no other place.
pub record StandsOnce (c : Components Activation) (s : ℕ) (k : Cut Activation) : Type 0 where
  pub above : OwnersOf (Other s) k.above
  pub below : OwnersOf (Other s) k.below
  pub kept : (j : ℕ) (z : Standing Activation) → slice_get c.standings j ≡ Some z → OwnersKeptOf (Other s) z
  pub kept_at : (j : ℕ) → OwnersKeptOf (Other s) (standing_of c j)
  pub entered : s < length c.standings

-- Directly above a head that waits for its main component a resumed object stands.
pub record ResumedAbove (c : Components Activation) (k : Cut Activation) : Type 0 where
  pub object : ℕ
  pub above : outermost owner k.above ≡ Some object
  pub resumed : standing_of c object ≡ ResumedObject

module _ (head : ℕ → ℕ) (c : Components Activation) (f : IsWellFormed owner head c) where
  pub stands_once : (s : ℕ) (k : Cut Activation) → IsCut owner s c.operating k → StandsOnce c s k
  stands_once s k cut =
      let parts = parted owner head s c.operating k cut in
      let times = parts.times s in
      let here = parts.here_itself in
      let once = f.once s in
      let none : over_kept (times_on owner s) c.standings ≡ 0 = omega (arith, times, here, once) in
      record {
        above = times_other s k.above (omega (arith, times, here, once));
        below = times_other s k.below (omega (arith, times, here, once));
        kept = λ j z is. standing_other s z (kept_none (times_on owner s) c.standings none j z is);
        kept_at = λ j. standing_other s (standing_of c j) (kept_none_at (times_on owner s) c.standings refl none j);
        entered = less_or s (length c.standings) (λ lt. lt) (λ le. let no = f.made s le in absurd (omega (arith, times, here, no)));
      }

  pub resumed_above : (s : ℕ) (k : Cut Activation) (main : List Activation) → IsCut owner s c.operating k → standing_of c s ≡ NoObject (Some main) → ResumedAbove c k
  resumed_above s k main cut e =
      let r = f.main s main e in
      record { object = r.object; above = directly owner head c s k r.object f cut r.resumed r.its_head; resumed = r.resumed }

  -- the instance that operates waits for no main component
  pub top_free : (a : Activation) (rest : List Activation) (j : ℕ) → c.operating ≡ a ∷ rest → owner a ≡ Some j → suspends (standing_of c j) ≡ None
  top_free a rest j top own = by (standing_of c j) refl
    where
      by : (x : Standing Activation) → standing_of c j ≡ x → suspends x ≡ None
      by (NoObject (Some main)) e =
          let r = resumed_above j (record { above = []; here = a; below = rest }) main (record { chain = sym top; here = own; free = refl }) e in
          let no = r.above in absurd (cc (no))
      by _ e = refl

pub free_top : (m : Instances) (a : Activation) (rest : List Activation) → IsWellFormed owner (system_head m) (components (record { chain = a ∷ rest; memory = m })) → suspended_by m (owner a) ≡ None
free_top m a rest f = by (owner a) refl
  where
    by : (o : Option ℕ) → owner a ≡ o → suspended_by m o ≡ None
    by None e = refl
    by (Some j) e = top_free (system_head m) (components (record { chain = a ∷ rest; memory = m })) f a rest j refl e

-- the same with another activation of the same owner
pub formed_as : (head : ℕ → ℕ) (standings : List (Standing Activation)) (rest : List Activation) (a b : Activation) → owner b ≡ owner a → IsWellFormed owner head (record { operating = a ∷ rest; standings = standings }) → IsWellFormed owner head (record { operating = b ∷ rest; standings = standings })
formed_as head standings rest a b e f =
    let times : (x : ℕ) → once_if (is_instance x (owner b)) ≡ once_if (is_instance x (owner a)) = λ x. ap (λ o. once_if (is_instance x o)) e in
    let first : (x y : ℕ) → once_if (is_instance x (owner b) && is_first owner y rest) ≡ once_if (is_instance x (owner a) && is_first owner y rest) = λ x y. ap (λ o. once_if (is_instance x o && is_first owner y rest)) e in
    record {
      once = λ x. let old = f.once x in let same = times x in omega (arith, old, same);
      made = λ x le. let old = f.made x le in let same = times x in omega (arith, old, same);
      terminated = λ x is. let old = f.terminated x is in let same = times x in omega (arith, old, same);
      detached = f.detached;
      heads = f.heads;
      resumed = λ x is.
          let p = f.resumed x is in
          let old = p.above in
          let same = first x (head x) in
          record { above = omega (arith, old, same); main = p.main; keeps = p.keeps };
      main = λ s main is. let r = f.main s main is in record { object = r.object; resumed = r.resumed; its_head = r.its_head };
    }

-- what operates stands nowhere else
pub others_on : (m : Instances) (a : Activation) (rest : List Activation) → OwnerOf (λ j. OwnersOf (Other j) rest × OwnersKept (Other j) m) (owner a) → (inst : ℕ) → owner a ≡ Some inst → OwnersOf (Other inst) rest × OwnersKept (Other inst) m
others_on m a rest all inst e = of_owner (λ j. OwnersOf (Other j) rest × OwnersKept (Other j) m) (owner a) inst e all
