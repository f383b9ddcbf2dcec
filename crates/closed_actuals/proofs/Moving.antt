-- A transfer of control moves activations from chain to chain, and changes none. The operating chain still ends with an instance.
use Rattle.std.proofs.Common.{◌≡◌, ℕ, zero, suc, false, List, [], ◌∷◌, ◌++◌, Option, Some, None, refl, sym, subst}
use Rattle.std.specs.Prelude.{⊤, Result, Ok, Err, slice_index_or, slice_set}
use Rattle.sim_base.specs.declared.run_error.RunError.{RunError}
use Rattle.sim_chains.specs.Chains.{Cut, cut_at, outermost, upper}
use Rattle.sim_chains.specs.Components.{AttachedObject, Components, DetachedObject, NoObject, ResumedObject, Standing, TerminatedObject, call_by, detach_by, give_up_at, kept, kept_as, kept_by, leave_at, main_at, main_by, resume_at, resume_by, standing_of}
use Rattle.sim_chains.specs.WellFormed.{chain_in}
use Rattle.sim_chains.proofs.Cuts.{cut_is}
use Rattle.sim_meaning.specs.Pending.{Activation, Op, evaluates, owner}
use Rattle.closed_actuals.specs.Evaluations.{Transfers, calls, detaches, resumes, schedules, schedules_main}

-- the outermost activation of a chain is an instance
abbrev pub Rooted : List Activation → Type 0
Rooted [] = ⊤
Rooted (a ∷ []) = evaluates a.work ≡ false
Rooted (a ∷ b ∷ rest) = Rooted (b ∷ rest)

pub rooted_behind : (xs ys : List Activation) → Rooted (xs ++ ys) → Rooted ys
rooted_behind [] ys r = r
rooted_behind (x ∷ xs) ys r = rooted_behind xs ys (further (xs ++ ys) r)
  where
    further : (zs : List Activation) → Rooted (x ∷ zs) → Rooted zs
    further [] r = tt
    further (z ∷ zs) r = r

pub rooted_under : (xs : List Activation) (y : Activation) (ys : List Activation) → Rooted (y ∷ ys) → Rooted (xs ++ y ∷ ys)
rooted_under [] y ys r = r
rooted_under (x ∷ xs) y ys r = over (xs ++ y ∷ ys) (rooted_under xs y ys r) (not_empty xs)
  where
    over : (zs : List Activation) → Rooted zs → (zs ≡ [] → ⊥) → Rooted (x ∷ zs)
    over [] r some = absurd (some refl)
    over (z ∷ zs) r some = r

    not_empty : (xs : List Activation) → xs ++ y ∷ ys ≡ [] → ⊥
    not_empty [] e = cc
    not_empty (x ∷ xs) e = cc

module _ (P : Activation → Type 0) where
  abbrev pub AllOn : List Activation → Type 0
  AllOn [] = ⊤
  AllOn (a ∷ rest) = P a × AllOn rest

  abbrev pub AllKept : List (Standing Activation) → Type 0
  AllKept [] = ⊤
  AllKept (x ∷ xs) = AllOn (chain_in x) × AllKept xs

  pub all_joined : (xs ys : List Activation) → AllOn xs → AllOn ys → AllOn (xs ++ ys)
  all_joined [] ys a b = b
  all_joined (x ∷ xs) ys a b = (a.0, all_joined xs ys a.1 b)

  pub all_before : (xs ys : List Activation) → AllOn (xs ++ ys) → AllOn xs
  all_before [] ys a = tt
  all_before (x ∷ xs) ys a = (a.0, all_before xs ys a.1)

  pub all_behind : (xs ys : List Activation) → AllOn (xs ++ ys) → AllOn ys
  all_behind [] ys a = a
  all_behind (x ∷ xs) ys a = all_behind xs ys a.1

  pub kept_more : (xs : List (Standing Activation)) (x : Standing Activation) → AllKept xs → AllOn (chain_in x) → AllKept (xs ++ x ∷ [])
  kept_more [] x a b = (b, tt)
  kept_more (y ∷ xs) x a b = (a.0, kept_more xs x a.1 b)

  pub kept_set : (xs : List (Standing Activation)) (j : ℕ) (x : Standing Activation) → AllKept xs → AllOn (chain_in x) → AllKept (slice_set xs j x)
  kept_set [] j x a b = tt
  kept_set (y ∷ xs) zero x a b = (b, a.1)
  kept_set (y ∷ xs) (suc j) x a b = (a.0, kept_set xs j x a.1 b)

  pub kept_at : (xs : List (Standing Activation)) (j : ℕ) → AllKept xs → AllOn (chain_in (slice_index_or xs j (NoObject None)))
  kept_at [] j a = tt
  kept_at (y ∷ xs) zero a = a.0
  kept_at (y ∷ xs) (suc j) a = kept_at xs j a.1

  -- of all chains
  pub record AllIn (c : Components Activation) : Type 0 where
    pub operating : AllOn c.operating
    pub kept : AllKept c.standings
    pub rooted : Rooted c.operating

  abbrev AllThere : Result (Components Activation) RunError → Type 0
  AllThere (Ok c) = AllIn c
  AllThere (Err e) = ⊤

  -- the parts of a chain that is cut
  pub record Parts (l : List Activation) (k : Cut Activation) : Type 0 where
    pub above : AllOn k.above
    pub here : P k.here
    pub below : AllOn k.below
    pub rooted : Rooted (k.here ∷ k.below)

  pub parts : (x : ℕ) (l : List Activation) (k : Cut Activation) → cut_at owner x l ≡ Some k → AllOn l → Rooted l → Parts l k
  parts x l k is all root =
      let same = sym (cut_is owner x l k is).chain in
      let whole : AllOn (k.above ++ k.here ∷ k.below) = subst AllOn same all in
      let behind : AllOn (k.here ∷ k.below) = all_behind k.above (k.here ∷ k.below) whole in
      record { above = all_before k.above (k.here ∷ k.below) whole; here = behind.0; below = behind.1; rooted = rooted_behind k.above (k.here ∷ k.below) (subst Rooted same root) }

  module _ (c : Components Activation) (all : AllIn c) where
    standing_all : (y : ℕ) (x : Standing Activation) → standing_of c y ≡ x → AllOn (chain_in x)
    standing_all y x is = subst (λ (z : Standing Activation). AllOn (chain_in z)) is (kept_at c.standings y all.kept)

    called_all : (y : ℕ) (a : Activation) (rest : List Activation) → c.operating ≡ a ∷ rest → (x : Standing Activation) → standing_of c y ≡ x → AllThere (call_by x c y)
    called_all y a rest top (NoObject main) is = tt
    called_all y a rest top AttachedObject is = tt
    called_all y a rest top TerminatedObject is = tt
    called_all y a rest top ResumedObject is = tt
    called_all y a rest top (DetachedObject chain) is = record {
      operating = all_joined chain c.operating (standing_all y (DetachedObject chain) is) all.operating;
      kept = kept_set c.standings y AttachedObject all.kept tt;
      rooted = subst (λ (z : List Activation). Rooted (chain ++ z)) (sym top) (rooted_under chain a rest (subst Rooted top all.rooted));
    }

    kept_as_all : (z : Option ℕ) (u : List Activation) → AllOn u → AllKept (kept_as owner z u c).standings
    kept_as_all None u a = all.kept
    kept_as_all (Some z) u a = kept_set c.standings z (DetachedObject u) all.kept a

    kept_by_all : (x : Standing Activation) (s : ℕ) (u : List Activation) → AllOn u → AllKept (kept_by owner x s u c).standings
    kept_by_all (NoObject None) s u a = kept_set c.standings s (NoObject (Some u)) all.kept a
    kept_by_all (NoObject (Some main)) s u a = kept_as_all (outermost owner u) u a
    kept_by_all AttachedObject s u a = kept_as_all (outermost owner u) u a
    kept_by_all (DetachedObject chain) s u a = kept_as_all (outermost owner u) u a
    kept_by_all ResumedObject s u a = kept_as_all (outermost owner u) u a
    kept_by_all TerminatedObject s u a = kept_as_all (outermost owner u) u a

    resumed_all : (s y : ℕ) (chain : List Activation) → AllOn chain → (k : Option (Cut Activation)) → cut_at owner s c.operating ≡ k → AllThere (resume_at owner k chain c s y)
    resumed_all s y chain a None is = tt
    resumed_all s y chain a (Some k) is =
        let p = parts s c.operating k is all.operating all.rooted in
        record {
          operating = all_joined chain (k.here ∷ k.below) a (p.here, p.below);
          kept = kept_set (kept owner s k.above c).standings y ResumedObject (kept_by_all (standing_of c s) s k.above p.above) tt;
          rooted = rooted_under chain k.here k.below p.rooted;
        }

    resuming_all : (s y : ℕ) (x : Standing Activation) → standing_of c y ≡ x → AllThere (resume_by owner x c s y)
    resuming_all s y (NoObject main) is = tt
    resuming_all s y AttachedObject is = tt
    resuming_all s y TerminatedObject is = tt
    resuming_all s y ResumedObject is = all
    resuming_all s y (DetachedObject chain) is = resumed_all s y chain (standing_all y (DetachedObject chain) is) (cut_at owner s c.operating) refl

    main_at_all : (s : ℕ) (main : List Activation) → AllOn main → (k : Option (Cut Activation)) → cut_at owner s c.operating ≡ k → AllThere (main_at owner k main c s)
    main_at_all s main a None is = tt
    main_at_all s main a (Some k) is =
        let p = parts s c.operating k is all.operating all.rooted in
        record {
          operating = all_joined main (k.here ∷ k.below) a (p.here, p.below);
          kept = kept_set (kept owner s k.above c).standings s (NoObject None) (kept_by_all (standing_of c s) s k.above p.above) tt;
          rooted = rooted_under main k.here k.below p.rooted;
        }

    main_all : (s : ℕ) (x : Standing Activation) → standing_of c s ≡ x → AllThere (main_by owner x c s)
    main_all s (NoObject (Some main)) is = main_at_all s main (standing_all s (NoObject (Some main)) is) (cut_at owner s c.operating) refl
    main_all s (NoObject None) is = all
    main_all s AttachedObject is = all
    main_all s (DetachedObject chain) is = all
    main_all s ResumedObject is = all
    main_all s TerminatedObject is = all

    left_all : (x : ℕ) (k : Option (Cut Activation)) → cut_at owner x c.operating ≡ k → AllThere (leave_at owner k c x)
    left_all x None is = tt
    left_all x (Some k) is =
        let p = parts x c.operating k is all.operating all.rooted in
        record {
          operating = p.below;
          kept = kept_set c.standings x (DetachedObject (upper k)) all.kept (all_joined k.above (k.here ∷ []) p.above (p.here, tt));
          rooted = rooted_behind (k.here ∷ []) k.below p.rooted;
        }

    given_up_all : (s : ℕ) (k : Option (Cut Activation)) → AllThere (give_up_at owner k c s)
    given_up_all s None = tt
    given_up_all s (Some k) = main_all s (standing_of c s) refl

    detached_all : (s x : ℕ) (standing : Standing Activation) → AllThere (detach_by owner standing c s x)
    detached_all s x (NoObject main) = all
    detached_all s x AttachedObject = left_all x (cut_at owner x c.operating) refl
    detached_all s x (DetachedObject chain) = tt
    detached_all s x ResumedObject = given_up_all s (cut_at owner x c.operating)
    detached_all s x TerminatedObject = tt

  -- what was refused moves nothing
  all_ok : (r : Result (Components Activation) RunError) (d : Components Activation) → r ≡ Ok d → AllThere r → AllIn d
  all_ok r d is a = subst AllThere is a

  pub transfers_all : (op : Op) (head : ℕ → ℕ) (c d : Components Activation) (a : Activation) (rest : List Activation) → c.operating ≡ a ∷ rest → AllIn c → Transfers owner head c op d → AllIn d
  transfers_all op head c d a rest top all (calls None is) = absurd (cc)
  transfers_all op head c d a rest top all (calls (Some y) is) = all_ok _ d is (called_all c all y a rest top (standing_of c y) refl)
  transfers_all op head c d a rest top all (detaches x is) = all_ok _ d is (detached_all c all (head x) x (standing_of c x))
  transfers_all op head c d a rest top all (resumes None is) = absurd (cc)
  transfers_all op head c d a rest top all (resumes (Some y) is) = all_ok _ d is (resuming_all c all (head y) y (standing_of c y) refl)
  transfers_all op head c d a rest top all (schedules by y is) = all_ok _ d is (resuming_all c all (head y) y (standing_of c y) refl)
  transfers_all op head c d a rest top all (schedules_main by s is) = all_ok _ d is (main_all c all s (standing_of c s) refl)
