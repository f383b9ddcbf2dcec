-- A transfer of control moves activations from chain to chain, and adds no work.
use Rattle.std.proofs.Common.{◌≡◌, ◌≤◌, ℕ, zero, suc, ◌+◌, Bool, true, false, List, [], ◌∷◌, ◌++◌, Option, Some, None, ap, arith, refl, subst}
use Rattle.std.specs.Prelude.{Result, Ok, Err, if◌then◌else◌, slice_index_or, slice_set}
use Rattle.std.specs.Option.{option_map}
use Rattle.sim_base.specs.declared.run_error.RunError.{RunError}
use Rattle.sim_chains.specs.Chains.{Cut, cut_at, is_instance, outermost, under, upper}
use Rattle.sim_chains.specs.Components.{AttachedObject, Components, DetachedObject, NoObject, ResumedObject, Standing, TerminatedObject, call_by, detach_by, give_control_to, give_up_at, kept, kept_as, kept_by, leave_at, main_at, main_by, resume_at, resume_by, standing_of}
use Rattle.sim_code.specs.Transfers.{Calling, Detaching, Resuming, Transfer, transferred}

-- ---- how much is to be done on chains of activations

module _ {A : Type 0} (work : A → ℕ) where
  abbrev pub chain_weight : List A → ℕ
  chain_weight [] = 0
  chain_weight (a ∷ rest) = work a + chain_weight rest

  -- the chain that an instance keeps
  abbrev pub standing_weight : Standing A → ℕ
  standing_weight (NoObject (Some main)) = chain_weight main
  standing_weight (DetachedObject chain) = chain_weight chain
  standing_weight _ = 0

  abbrev pub standings_weight : List (Standing A) → ℕ
  standings_weight [] = 0
  standings_weight (x ∷ xs) = standing_weight x + standings_weight xs

  joined_weight : (chain below : List A) → chain_weight (chain ++ below) ≡ chain_weight chain + chain_weight below
  joined_weight [] below = omega arith
  joined_weight (a ∷ chain) below = omega (arith, joined_weight chain below)

  -- where an instance gets another standing
  set_weight : (xs : List (Standing A)) (j : ℕ) (x : Standing A) → standings_weight (slice_set xs j x) ≤ standing_weight x + standings_weight xs
  set_weight [] j x = omega arith
  set_weight (y ∷ xs) zero x = omega arith
  set_weight (y ∷ xs) (suc j) x = omega (arith, set_weight xs j x)

  -- and where it keeps no chain any more
  abbrev held_at : List (Standing A) → ℕ → ℕ
  held_at xs j = standing_weight (slice_index_or xs j (NoObject None))

  emptied_weight : (xs : List (Standing A)) (j : ℕ) (x : Standing A) → standing_weight x ≡ 0 → held_at xs j + standings_weight (slice_set xs j x) ≤ standings_weight xs
  emptied_weight [] j x none = omega arith
  emptied_weight (y ∷ xs) zero x none = omega (arith, none)
  emptied_weight (y ∷ xs) (suc j) x none = omega (arith, emptied_weight xs j x none)

  -- both, one after the other
  both_weight : (xs : List (Standing A)) (i j : ℕ) (x y : Standing A) → standing_weight y ≡ 0 → held_at xs j + standings_weight (slice_set (slice_set xs i x) j y) ≤ standing_weight x + standings_weight xs
  both_weight [] i j x y none = omega arith
  both_weight (z ∷ xs) zero zero x y none = omega (arith, none)
  both_weight (z ∷ xs) zero (suc j) x y none = omega (arith, emptied_weight xs j y none)
  both_weight (z ∷ xs) (suc i) zero x y none = omega (arith, none, set_weight xs i x)
  both_weight (z ∷ xs) (suc i) (suc j) x y none = omega (arith, both_weight xs i j x y none)

  -- a transfer leaves no more than there was
  abbrev pub all_weight : Components A → ℕ
  all_weight c = chain_weight c.operating + standings_weight c.standings

  abbrev pub NotMore : ℕ → Result (Components A) RunError → Type 0
  NotMore n (Ok c) = all_weight c ≤ n
  NotMore n (Err e) = Unit {0}

  abbrev pub NotMoreIn : ℕ → Option (Result (Components A) RunError) → Type 0
  NotMoreIn n None = Unit {0}
  NotMoreIn n (Some r) = NotMore n r

-- ---- transfers

module _ {A : Type 0} (owner : A → Option ℕ) (work : A → ℕ) where
  abbrev Parts : List A → Cut A → Type 0
  Parts chain k = chain_weight work (upper k) + chain_weight work k.below ≡ chain_weight work chain

  cut_weight : (x : ℕ) (chain : List A) (k : Cut A) → cut_at owner x chain ≡ Some k → Parts chain k
  cut_weight x [] k is = absurd (cc)
  cut_weight x (a ∷ chain) k is = by_place (is_instance x (owner a)) (cut_at owner x chain) (λ c. cut_weight x chain c) is
    where
      by_place : (here : Bool) (further : Option (Cut A)) → ((c : Cut A) → further ≡ Some c → Parts chain c)
          → (if here then Some (record { above = []; here = a; below = chain }) else option_map (under a) further) ≡ Some k → Parts (a ∷ chain) k
      by_place true further parts is = let same : record { above = []; here = a; below = chain } ≡ k = cc in subst (Parts (a ∷ chain)) same (omega arith)
      by_place false None parts is = absurd (cc)
      by_place false (Some c) parts is = let same : under a c ≡ k = cc in subst (Parts (a ∷ chain)) same (omega (arith, parts c refl))

  left_small : (c : Components A) (x : ℕ) (k : Option (Cut A)) → cut_at owner x c.operating ≡ k → NotMore work (all_weight work c) (leave_at owner k c x)
  left_small c x None is = tt
  left_small c x (Some k) is = omega (arith, cut_weight x c.operating k is, set_weight work c.standings x (DetachedObject (upper k)))

  -- The component that operated keeps what stood above the head; then an instance keeps no chain any more, and that chain operates.
  abbrev Kept : Components A → (above : List A) → (j : ℕ) → (y : Standing A) → Components A → Type 0
  Kept c above j y d = held_at work c.standings j + standings_weight work (slice_set d.standings j y) ≤ chain_weight work above + standings_weight work c.standings

  kept_as_small : (c : Components A) (above : List A) (j : ℕ) (y : Standing A) → standing_weight work y ≡ 0 → (z : Option ℕ) → Kept c above j y (kept_as owner z above c)
  kept_as_small c above j y none None = omega (arith, emptied_weight work c.standings j y none)
  kept_as_small c above j y none (Some z) = both_weight work c.standings z j (DetachedObject above) y none

  kept_by_small : (c : Components A) (s : ℕ) (above : List A) (j : ℕ) (y : Standing A) → standing_weight work y ≡ 0 → (x : Standing A) → Kept c above j y (kept_by owner x s above c)
  kept_by_small c s above j y none (NoObject None) = both_weight work c.standings s j (NoObject (Some above)) y none
  kept_by_small c s above j y none (NoObject (Some main)) = kept_as_small c above j y none (outermost owner above)
  kept_by_small c s above j y none AttachedObject = kept_as_small c above j y none (outermost owner above)
  kept_by_small c s above j y none (DetachedObject chain) = kept_as_small c above j y none (outermost owner above)
  kept_by_small c s above j y none ResumedObject = kept_as_small c above j y none (outermost owner above)
  kept_by_small c s above j y none TerminatedObject = kept_as_small c above j y none (outermost owner above)

  kept_small : (c : Components A) (s : ℕ) (above : List A) (j : ℕ) (y : Standing A) → standing_weight work y ≡ 0 → Kept c above j y (kept owner s above c)
  kept_small c s above j y none = kept_by_small c s above j y none (standing_of c s)

  moved_weight : (chain : List A) (k : Cut A) → chain_weight work (chain ++ k.here ∷ k.below) ≡ chain_weight work chain + (work k.here + chain_weight work k.below)
  moved_weight chain k = joined_weight work chain (k.here ∷ k.below)

  above_weight : (s : ℕ) (chain : List A) (k : Cut A) → cut_at owner s chain ≡ Some k → chain_weight work k.above + (work k.here + chain_weight work k.below) ≡ chain_weight work chain
  above_weight s chain k is = omega (arith, cut_weight s chain k is, joined_weight work k.above (k.here ∷ []))

  resumed_small : (c : Components A) (chain : List A) (s y : ℕ) (k : Option (Cut A)) → cut_at owner s c.operating ≡ k → standing_of c y ≡ DetachedObject chain → NotMore work (all_weight work c) (resume_at owner k chain c s y)
  resumed_small c chain s y None is at = tt
  resumed_small c chain s y (Some k) is at =
      omega (arith, moved_weight chain k, above_weight s c.operating k is, kept_small c s k.above y ResumedObject refl, ap (standing_weight work) at)

  main_small : (c : Components A) (main : List A) (s : ℕ) (k : Option (Cut A)) → cut_at owner s c.operating ≡ k → standing_of c s ≡ NoObject (Some main) → NotMore work (all_weight work c) (main_at owner k main c s)
  main_small c main s None is at = tt
  main_small c main s (Some k) is at =
      omega (arith, moved_weight main k, above_weight s c.operating k is, kept_small c s k.above s (NoObject None) refl, ap (standing_weight work) at)

  main_goes_small : (c : Components A) (s : ℕ) (x : Standing A) → standing_of c s ≡ x → NotMore work (all_weight work c) (main_by owner x c s)
  main_goes_small c s (NoObject (Some main)) at = main_small c main s (cut_at owner s c.operating) refl at
  main_goes_small c s (NoObject None) at = omega arith
  main_goes_small c s AttachedObject at = omega arith
  main_goes_small c s (DetachedObject chain) at = omega arith
  main_goes_small c s ResumedObject at = omega arith
  main_goes_small c s TerminatedObject at = omega arith

  given_up_small : (c : Components A) (s : ℕ) (k : Option (Cut A)) → NotMore work (all_weight work c) (give_up_at owner k c s)
  given_up_small c s None = tt
  given_up_small c s (Some k) = main_goes_small c s (standing_of c s) refl

  detached_small : (c : Components A) (s x : ℕ) (standing : Standing A) → NotMore work (all_weight work c) (detach_by owner standing c s x)
  detached_small c s x (NoObject main) = omega arith
  detached_small c s x AttachedObject = left_small c x (cut_at owner x c.operating) refl
  detached_small c s x (DetachedObject chain) = tt
  detached_small c s x ResumedObject = given_up_small c s (cut_at owner x c.operating)
  detached_small c s x TerminatedObject = tt

  called_small : (c : Components A) (y : ℕ) (standing : Standing A) → standing_of c y ≡ standing → NotMore work (all_weight work c) (call_by standing c y)
  called_small c y (NoObject main) at = tt
  called_small c y AttachedObject at = tt
  called_small c y (DetachedObject chain) at = omega (arith, joined_weight work chain c.operating, emptied_weight work c.standings y AttachedObject refl, ap (standing_weight work) at)
  called_small c y ResumedObject at = tt
  called_small c y TerminatedObject at = tt

  resuming_small : (c : Components A) (s y : ℕ) (standing : Standing A) → standing_of c y ≡ standing → NotMore work (all_weight work c) (resume_by owner standing c s y)
  resuming_small c s y (NoObject main) at = tt
  resuming_small c s y AttachedObject at = tt
  resuming_small c s y (DetachedObject chain) at = resumed_small c chain s y (cut_at owner s c.operating) refl at
  resuming_small c s y ResumedObject at = omega arith
  resuming_small c s y TerminatedObject at = tt

  pub transfer_small : (t : Transfer) (head : ℕ → ℕ) (c : Components A) (y : Option ℕ) → NotMoreIn work (all_weight work c) (transferred owner t head c y)
  transfer_small Detaching head c None = tt
  transfer_small Detaching head c (Some x) = detached_small c (head x) x (standing_of c x)
  transfer_small Calling head c None = tt
  transfer_small Calling head c (Some y) = called_small c y (standing_of c y) refl
  transfer_small Resuming head c None = tt
  transfer_small Resuming head c (Some y) = resuming_small c (head y) y (standing_of c y) refl

  -- and where scheduling gives control to another process
  pub given_small : (head : ℕ → ℕ) (c : Components A) (s : ℕ) (process : Option ℕ) → NotMore work (all_weight work c) (give_control_to owner head c s process)
  given_small head c s None = main_goes_small c s (standing_of c s) refl
  given_small head c s (Some y) = resuming_small c (head y) y (standing_of c y) refl
