-- Transfers of control among instances, evaluations left out, are those among all activations.
use Rattle.std.proofs.Common.{◌≡◌, ℕ, zero, suc, Bool, true, false, List, [], ◌∷◌, ◌++◌, map, Option, Some, None, refl, sym, ap, ◌∙◌}
use Rattle.std.proofs.lemmas.Bool.{eqb-true}
use Rattle.std.specs.Prelude.{Result, Ok, Err, if◌then◌else◌, slice_index_or, slice_set}
use Rattle.std.specs.Option.{option_map}
use Rattle.sim_base.specs.declared.run_error.RunError.{RunError}
use Rattle.sim_chains.specs.Chains.{Cut, cut_at, is_instance, outermost, under, upper}
use Rattle.sim_chains.specs.Components.{AttachedObject, Components, DetachedObject, NoObject, ResumedObject, Standing, TerminatedObject, call, call_by, detach, detach_by, dropped, finish, finish_by, give_up_at, kept, kept_as, kept_by, leave_at, main_at, main_by, resume, resume_at, resume_by, resume_main, returned, standing_of, with_standing}
use Rattle.sim_chains.specs.WellFormed.{is_object}
use Rattle.sim_chains.proofs.Cuts.{cut_is, is_itself}
use Rattle.sim_meaning.specs.Pending.{Activation, Item, Op, evaluates, owner}
use Rattle.closed_actuals.specs.Evaluations.{OnChain, Transfers, in_front, on_chain, waiting, calls, detaches, instances_in, instances_on, itself, schedules, schedules_main, resumes, with_owner, without_evaluations}

-- ---- lists

pub set_same : {A B : Type 0} (f : A → B) (xs : List A) (j : ℕ) (x : A) → map f (slice_set xs j x) ≡ slice_set (map f xs) j (f x)
set_same f [] j x = refl
set_same f (y ∷ xs) zero x = refl
set_same f (y ∷ xs) (suc j) x = ap (λ (zs : List _). f y ∷ zs) (set_same f xs j x)

at_same : (xs : List (Standing Activation)) (j : ℕ) → slice_index_or (map instances_in xs) j (NoObject None) ≡ instances_in (slice_index_or xs j (NoObject None))
at_same [] j = refl
at_same (x ∷ xs) zero = refl
at_same (x ∷ xs) (suc j) = at_same xs j

pub joined_same : (xs ys : List Activation) → instances_on (xs ++ ys) ≡ instances_on xs ++ instances_on ys
joined_same [] ys = refl
joined_same (x ∷ xs) ys = ap (with_owner (owner x)) (joined_same xs ys) ∙ by_owner (owner x)
  where
    by_owner : (u : Option ℕ) → with_owner u (instances_on xs ++ instances_on ys) ≡ with_owner u (instances_on xs) ++ instances_on ys
    by_owner None = refl
    by_owner (Some i) = refl

-- an activation that is an instance
own_same : (x : ℕ) (a : Activation) (rest : List Activation) → owner a ≡ Some x → instances_on (a ∷ rest) ≡ x ∷ instances_on rest
own_same x a rest is = ap (λ (u : Option ℕ). with_owner u (instances_on rest)) is

-- ---- chains

abbrev pub number : OnChain → ℕ
number x = x.instance

-- the instances of a chain, with their work or without
pub numbers_on : (chain : List Activation) → instances_on chain ≡ map number (on_chain chain)
numbers_on [] = refl
numbers_on (a ∷ rest) = ap (with_owner (owner a)) (numbers_on rest) ∙ by_flag (evaluates a.work)
  where
    in_front_same : (w : List Item) (xs : List OnChain) → map number (in_front w xs) ≡ map number xs
    in_front_same w [] = refl
    in_front_same w (x ∷ xs) = refl

    by_flag : (is : Bool) → with_owner (if is then None else Some a.instance) (map number (on_chain rest)) ≡ map number (if is then in_front a.work (on_chain rest) else waiting a.instance a.work ∷ on_chain rest)
    by_flag true = sym (in_front_same a.work (on_chain rest))
    by_flag false = refl

pub numbers_are : (chain : List Activation) (xs : List OnChain) → on_chain chain ≡ xs → instances_on chain ≡ map number xs
numbers_are chain xs is = numbers_on chain ∙ ap (map number) is

-- ---- cuts

some_number : (x i : ℕ) → is_instance x (Some i) ≡ true → i ≡ x
some_number x i same = eqb-true i x same

abbrev pub cut_without : ℕ → Cut Activation → Cut ℕ
cut_without x k = record { above = instances_on k.above; here = x; below = instances_on k.below }

abbrev pub cut_of : ℕ → Option (Cut Activation) → Option (Cut ℕ)
cut_of x None = None
cut_of x (Some k) = Some (cut_without x k)

over_same : (x : ℕ) (a : Activation) (k : Option (Cut Activation)) (u : Option ℕ) → owner a ≡ u → is_instance x u ≡ false → (rest : List ℕ) → cut_at itself x rest ≡ cut_of x k → cut_at itself x (with_owner u rest) ≡ cut_of x (option_map (under a) k)
over_same x a None None is other rest same = same
over_same x a (Some k) None is other rest same = same ∙ ap (λ (z : Option ℕ). Some (record { above = with_owner z (instances_on k.above); here = x; below = instances_on k.below })) (sym is)
over_same x a None (Some i) is other rest same = ap (λ (b : Bool). if b then Some (record { above = []; here = i; below = rest }) else option_map (under i) (cut_at itself x rest)) other ∙ ap (option_map (under i)) same
over_same x a (Some k) (Some i) is other rest same =
    ap (λ (b : Bool). if b then Some (record { above = []; here = i; below = rest }) else option_map (under i) (cut_at itself x rest)) other ∙ ap (option_map (under i)) same
    ∙ ap (λ (z : Option ℕ). Some (record { above = with_owner z (instances_on k.above); here = x; below = instances_on k.below })) (sym is)

pub cut_same : (x : ℕ) (chain : List Activation) → cut_at itself x (instances_on chain) ≡ cut_of x (cut_at owner x chain)
cut_same x [] = refl
cut_same x (a ∷ rest) = by_test (is_instance x (owner a)) refl (cut_same x rest)
  where
    here : (u : Option ℕ) → owner a ≡ u → is_instance x u ≡ true → cut_at itself x (with_owner u (instances_on rest)) ≡ Some (record { above = []; here = x; below = instances_on rest })
    here None is same = absurd (cc)
    here (Some i) is same =
        let number : i ≡ x = some_number x i same in
        ap (λ (j : ℕ). cut_at itself x (j ∷ instances_on rest)) number ∙ ap (λ (b : Bool). if b then Some (record { above = []; here = x; below = instances_on rest }) else option_map (under x) (cut_at itself x (instances_on rest))) (is_itself x)

    by_test : (b : Bool) → is_instance x (owner a) ≡ b → cut_at itself x (instances_on rest) ≡ cut_of x (cut_at owner x rest)
        → cut_at itself x (instances_on (a ∷ rest)) ≡ cut_of x (if b then Some (record { above = []; here = a; below = rest }) else option_map (under a) (cut_at owner x rest))
    by_test true is further = here (owner a) refl is
    by_test false is further = over_same x a (cut_at owner x rest) (owner a) refl is (instances_on rest) further

-- ---- components

abbrev pub result_without : Result (Components Activation) RunError → Result (Components ℕ) RunError
result_without (Ok c) = Ok (without_evaluations c)
result_without (Err e) = Err e

pub standing_same : (c : Components Activation) (y : ℕ) → standing_of (without_evaluations c) y ≡ instances_in (standing_of c y)
standing_same c y = at_same c.standings y

pub with_same : (y : ℕ) (x : Standing Activation) (c : Components Activation) → without_evaluations (with_standing y x c) ≡ with_standing y (instances_in x) (without_evaluations c)
with_same y x c = ap (λ (z : List (Standing ℕ)). record { operating = instances_on c.operating; standings = z }) (set_same instances_in c.standings y x)

-- both may differ in two ways
pub components_are : (xs ys : List ℕ) (s t : List (Standing ℕ)) → xs ≡ ys → s ≡ t → ◌≡◌ {A = Components ℕ} (record { operating = xs; standings = s }) (record { operating = ys; standings = t })
components_are xs ys s t operating standings = ap (λ (z : List ℕ). record { operating = z; standings = s }) operating ∙ ap (λ (z : List (Standing ℕ)). record { operating = ys; standings = z }) standings

pub outermost_same : (u : List Activation) (z : ℕ) → outermost owner u ≡ Some z → outermost itself (instances_on u) ≡ Some z
outermost_same [] z is = absurd (cc)
outermost_same (a ∷ []) z is = ap (λ (v : Option ℕ). outermost itself (with_owner v [])) is
outermost_same (a ∷ b ∷ u) z is = over (owner a) (instances_on (b ∷ u)) (outermost_same (b ∷ u) z is)
  where
    over : (v : Option ℕ) (xs : List ℕ) → outermost itself xs ≡ Some z → outermost itself (with_owner v xs) ≡ Some z
    over None xs is = is
    over (Some i) [] is = absurd (cc)
    over (Some i) (x ∷ xs) is = is

-- What is asked of components where a system head keeps its main chain: a resumed object stands directly above it. And the head of an object is none.
pub record IsGood (head : ℕ → ℕ) (c : Components Activation) : Type 0 where
  pub direct : (s : ℕ) (k : Cut Activation) (waits : List Activation) → cut_at owner s c.operating ≡ Some k → standing_of c s ≡ NoObject (Some waits) → (z : ℕ) × (outermost owner k.above ≡ Some z)
  pub heads : (y : ℕ) (chain : List Activation) → standing_of c y ≡ DetachedObject chain → is_object (standing_of c (head y)) ≡ false

module _ (head : ℕ → ℕ) (c : Components Activation) (good : IsGood head c) where
  abbrev W : Components ℕ
  W = without_evaluations c

  called_same : (y : ℕ) (x : Standing Activation) → call_by (instances_in x) W y ≡ result_without (call_by x c y)
  called_same y (NoObject None) = refl
  called_same y (NoObject (Some main)) = refl
  called_same y AttachedObject = refl
  called_same y TerminatedObject = refl
  called_same y ResumedObject = refl
  called_same y (DetachedObject chain) =
      ap (λ (z : Components ℕ). Ok z) (components_are _ _ _ _ (sym (joined_same chain c.operating)) (sym (set_same instances_in c.standings y AttachedObject)))

  pub call_same : (y : Option ℕ) → call W y ≡ result_without (call c y)
  call_same None = refl
  call_same (Some y) = ap (λ (x : Standing ℕ). call_by x W y) (standing_same c y) ∙ called_same y (standing_of c y)

  -- what a head keeps of the chain above it
  kept_same : (s : ℕ) (k : Cut Activation) → cut_at owner s c.operating ≡ Some k → is_object (standing_of c s) ≡ false → kept itself s (instances_on k.above) W ≡ without_evaluations (kept owner s k.above c)
  kept_same s k cut none = ap (λ (x : Standing ℕ). kept_by itself x s (instances_on k.above) W) (standing_same c s) ∙ by_standing (standing_of c s) refl none
    where
      by_standing : (x : Standing Activation) → standing_of c s ≡ x → is_object x ≡ false → kept_by itself (instances_in x) s (instances_on k.above) W ≡ without_evaluations (kept_by owner x s k.above c)
      by_standing (NoObject None) at none = sym (with_same s (NoObject (Some k.above)) c)
      by_standing (NoObject (Some waits)) at none =
          let above = good.direct s k waits cut at in
          ap (λ (z : Option ℕ). kept_as itself z (instances_on k.above) W) (outermost_same k.above above.0 above.1)
          ∙ sym (with_same above.0 (DetachedObject k.above) c)
          ∙ ap (λ (z : Option ℕ). without_evaluations (kept_as owner z k.above c)) (sym above.1)
      by_standing AttachedObject at none = absurd (cc)
      by_standing (DetachedObject chain) at none = absurd (cc)
      by_standing ResumedObject at none = absurd (cc)
      by_standing TerminatedObject at none = absurd (cc)

  here_same : (s : ℕ) (k : Cut Activation) → cut_at owner s c.operating ≡ Some k → instances_on (k.here ∷ k.below) ≡ s ∷ instances_on k.below
  here_same s k cut = own_same s k.here k.below (cut_is owner s c.operating k cut).here

  -- a chain above what was below the cut
  over_cut : (s : ℕ) (k : Cut Activation) (chain : List Activation) → cut_at owner s c.operating ≡ Some k → instances_on (chain ++ k.here ∷ k.below) ≡ instances_on chain ++ s ∷ instances_on k.below
  over_cut s k chain cut = joined_same chain (k.here ∷ k.below) ∙ ap (λ (z : List ℕ). instances_on chain ++ z) (here_same s k cut)

  resumed_same : (s y : ℕ) (chain : List Activation) → is_object (standing_of c s) ≡ false → (k : Option (Cut Activation)) → cut_at owner s c.operating ≡ k → resume_at itself (cut_of s k) (instances_on chain) W s y ≡ result_without (resume_at owner k chain c s y)
  resumed_same s y chain none None cut = refl
  resumed_same s y chain none (Some k) cut =
      ap (λ (z : Components ℕ). Ok z) (components_are _ _ _ _ (sym (over_cut s k chain cut))
      (ap (λ (z : Components ℕ). slice_set z.standings y ResumedObject) (kept_same s k cut none) ∙ sym (set_same instances_in (kept owner s k.above c).standings y ResumedObject)))

  resuming_same : (y : ℕ) (x : Standing Activation) → standing_of c y ≡ x → resume_by itself (instances_in x) W (head y) y ≡ result_without (resume_by owner x c (head y) y)
  resuming_same y (NoObject None) at = refl
  resuming_same y (NoObject (Some main)) at = refl
  resuming_same y AttachedObject at = refl
  resuming_same y TerminatedObject at = refl
  resuming_same y ResumedObject at = refl
  resuming_same y (DetachedObject chain) at =
      ap (λ (z : Option (Cut ℕ)). resume_at itself z (instances_on chain) W (head y) y) (cut_same (head y) c.operating) ∙ resumed_same (head y) y chain (good.heads y chain at) (cut_at owner (head y) c.operating) refl

  pub resume_same : (y : Option ℕ) → resume itself head W y ≡ result_without (resume owner head c y)
  resume_same None = refl
  resume_same (Some y) = ap (λ (x : Standing ℕ). resume_by itself x W (head y) y) (standing_same c y) ∙ resuming_same y (standing_of c y) refl

  main_at_same : (s : ℕ) (main : List Activation) → standing_of c s ≡ NoObject (Some main) → (k : Option (Cut Activation)) → cut_at owner s c.operating ≡ k → main_at itself (cut_of s k) (instances_on main) W s ≡ result_without (main_at owner k main c s)
  main_at_same s main at None cut = refl
  main_at_same s main at (Some k) cut =
      ap (λ (z : Components ℕ). Ok z) (components_are _ _ _ _ (sym (over_cut s k main cut))
      (ap (λ (z : Components ℕ). slice_set z.standings s (NoObject None)) (kept_same s k cut (ap is_object at)) ∙ sym (set_same instances_in (kept owner s k.above c).standings s (NoObject None))))

  mains_same : (s : ℕ) (x : Standing Activation) → standing_of c s ≡ x → main_by itself (instances_in x) W s ≡ result_without (main_by owner x c s)
  mains_same s (NoObject (Some main)) at = ap (λ (z : Option (Cut ℕ)). main_at itself z (instances_on main) W s) (cut_same s c.operating) ∙ main_at_same s main at (cut_at owner s c.operating) refl
  mains_same s (NoObject None) at = refl
  mains_same s AttachedObject at = refl
  mains_same s (DetachedObject chain) at = refl
  mains_same s ResumedObject at = refl
  mains_same s TerminatedObject at = refl

  pub main_same : (s : ℕ) → resume_main itself W s ≡ result_without (resume_main owner c s)
  main_same s = ap (λ (x : Standing ℕ). main_by itself x W s) (standing_same c s) ∙ mains_same s (standing_of c s) refl

  left_same : (x : ℕ) (k : Option (Cut Activation)) → cut_at owner x c.operating ≡ k → leave_at itself (cut_of x k) W x ≡ result_without (leave_at owner k c x)
  left_same x None cut = refl
  left_same x (Some k) cut =
      ap (λ (z : Components ℕ). Ok z) (components_are _ _ _ _ refl
      (ap (λ (z : List ℕ). slice_set (map instances_in c.standings) x (DetachedObject z)) (sym (joined_same k.above (k.here ∷ []) ∙ ap (λ (z : List ℕ). instances_on k.above ++ z) (own_same x k.here [] (cut_is owner x c.operating k cut).here)))
      ∙ sym (set_same instances_in c.standings x (DetachedObject (upper k)))))

  given_up_same : (x s : ℕ) (k : Option (Cut Activation)) → give_up_at itself (cut_of x k) W s ≡ result_without (give_up_at owner k c s)
  given_up_same x s None = refl
  given_up_same x s (Some k) = main_same s

  detached_same : (s x : ℕ) (standing : Standing Activation) → detach_by itself (instances_in standing) W s x ≡ result_without (detach_by owner standing c s x)
  detached_same s x (NoObject None) = refl
  detached_same s x (NoObject (Some main)) = refl
  detached_same s x AttachedObject = ap (λ (z : Option (Cut ℕ)). leave_at itself z W x) (cut_same x c.operating) ∙ left_same x (cut_at owner x c.operating) refl
  detached_same s x (DetachedObject chain) = refl
  detached_same s x ResumedObject = ap (λ (z : Option (Cut ℕ)). give_up_at itself z W s) (cut_same x c.operating) ∙ given_up_same x s (cut_at owner x c.operating)
  detached_same s x TerminatedObject = refl

  pub detach_same : (x : ℕ) → detach itself head W x ≡ result_without (detach owner head c x)
  detach_same x = ap (λ (z : Standing ℕ). detach_by itself z W (head x) x) (standing_same c x) ∙ detached_same (head x) x (standing_of c x)

  pub transfers_same : (op : Op) (d : Components Activation) → Transfers owner head c op d → Transfers itself head W op (without_evaluations d)
  transfers_same op d (calls y is) = calls y (call_same y ∙ ap result_without is)
  transfers_same op d (detaches x is) = detaches x (detach_same x ∙ ap result_without is)
  transfers_same op d (resumes y is) = resumes y (resume_same y ∙ ap result_without is)
  transfers_same op d (schedules by y is) = schedules by y (resume_same (Some y) ∙ ap result_without is)
  transfers_same op d (schedules_main by s is) = schedules_main by s (main_same s ∙ ap result_without is)

-- ---- the end of an object

module _ (head : ℕ → ℕ) (c : Components Activation) where
  dropped_same : (s : ℕ) (k : Option (Cut Activation)) → cut_at owner s c.operating ≡ k → (x : Standing Activation) → dropped itself (cut_of s k) (instances_in x) s (without_evaluations c) ≡ without_evaluations (dropped owner k x s c)
  dropped_same s None cut (NoObject None) = refl
  dropped_same s None cut (NoObject (Some main)) = refl
  dropped_same s None cut AttachedObject = refl
  dropped_same s None cut (DetachedObject chain) = refl
  dropped_same s None cut ResumedObject = refl
  dropped_same s None cut TerminatedObject = refl
  dropped_same s (Some k) cut (NoObject None) = refl
  dropped_same s (Some k) cut (NoObject (Some main)) =
      components_are _ _ _ _ (sym (joined_same main (k.here ∷ k.below) ∙ ap (λ (z : List ℕ). instances_on main ++ z) (own_same s k.here k.below (cut_is owner s c.operating k cut).here))) (sym (set_same instances_in c.standings s (NoObject None)))
  dropped_same s (Some k) cut AttachedObject = refl
  dropped_same s (Some k) cut (DetachedObject chain) = refl
  dropped_same s (Some k) cut ResumedObject = refl
  dropped_same s (Some k) cut TerminatedObject = refl

  returned_same : (x : ℕ) (k : Option (Cut Activation)) → returned itself (cut_of x k) (without_evaluations c) ≡ without_evaluations (returned owner k c)
  returned_same x None = refl
  returned_same x (Some k) = refl

  ended_same : (s x : ℕ) → with_standing x TerminatedObject (returned itself (cut_at itself x (instances_on c.operating)) (without_evaluations c)) ≡ without_evaluations (with_standing x TerminatedObject (returned owner (cut_at owner x c.operating) c))
  ended_same s x =
      ap (λ (z : Option (Cut ℕ)). with_standing x TerminatedObject (returned itself z (without_evaluations c))) (cut_same x c.operating)
      ∙ ap (with_standing x TerminatedObject) (returned_same x (cut_at owner x c.operating))
      ∙ sym (with_same x TerminatedObject (returned owner (cut_at owner x c.operating) c))

  finished_same : (s x : ℕ) (standing : Standing Activation) → finish_by itself (instances_in standing) (without_evaluations c) s x ≡ without_evaluations (finish_by owner standing c s x)
  finished_same s x ResumedObject =
      ap (λ (z : Option (Cut ℕ)). with_standing x TerminatedObject (dropped itself z (standing_of (without_evaluations c) s) s (without_evaluations c))) (cut_same s c.operating)
      ∙ ap (λ (z : Standing ℕ). with_standing x TerminatedObject (dropped itself (cut_of s (cut_at owner s c.operating)) z s (without_evaluations c))) (standing_same c s)
      ∙ ap (with_standing x TerminatedObject) (dropped_same s (cut_at owner s c.operating) refl (standing_of c s))
      ∙ sym (with_same x TerminatedObject (dropped owner (cut_at owner s c.operating) (standing_of c s) s c))
  finished_same s x (NoObject None) = ended_same s x
  finished_same s x (NoObject (Some main)) = ended_same s x
  finished_same s x AttachedObject = ended_same s x
  finished_same s x (DetachedObject chain) = ended_same s x
  finished_same s x TerminatedObject = ended_same s x

  pub finish_same : (x : ℕ) → finish itself head (without_evaluations c) x ≡ without_evaluations (finish owner head c x)
  finish_same x = ap (λ (z : Standing ℕ). finish_by itself z (without_evaluations c) (head x) x) (standing_same c x) ∙ finished_same (head x) x (standing_of c x)
