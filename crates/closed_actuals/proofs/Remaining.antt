-- A transfer of control leaves what is pending in each instance.
use Rattle.std.proofs.Common.{◌≡◌, ◌⊎◌, ℕ, zero, suc, ◌+◌, ◌<◌, ◌≤◌, Bool, true, false, List, [], ◌∷◌, ◌++◌, length, Option, Some, None, inl, inr, refl, sym, ap, ◌∙◌, subst, arith}
use Rattle.std.proofs.lemmas.Bool.Decides.{nat_tests}
use Rattle.std.proofs.lemmas.List.{append-nil, append_assoc}
use Rattle.std.specs.Prelude.{Result, Ok, Err, nat_lt, if◌then◌else◌, slice_get, slice_index_or, slice_set}
use Rattle.sim_base.specs.declared.run_error.RunError.{RunError}
use Rattle.sim_chains.specs.Chains.{Cut, cut_at, is_instance, once_if, outermost, times_on, upper}
use Rattle.sim_chains.specs.Components.{AttachedObject, Components, DetachedObject, NoObject, ResumedObject, Standing, TerminatedObject, call_by, detach_by, give_up_at, kept, kept_as, kept_by, leave_at, main_at, main_by, resume_at, resume_by, standing_of}
use Rattle.sim_chains.specs.WellFormed.{chain_in, is_object, over_kept, times_in}
use Rattle.sim_chains.proofs.Counts.{times-append}
use Rattle.sim_chains.proofs.Cuts.{IsCut, cut_is, is_itself, times-free}
use Rattle.sim_meaning.specs.Pending.{Activation, Item, Op, evaluates, owner}
use Rattle.closed_actuals.specs.Evaluations.{IsChain, IsOn, OnChain, PendingOf, Transfers, calls, detaches, if_alone, in_front, is_kept, on_chain, operates, outer_work, resumes, schedules, schedules_main, waiting, work_for_head}
use Rattle.closed_actuals.proofs.Moving.{Rooted}
use Rattle.closed_actuals.proofs.Pending.{FirstOn, first_on, own_on}

-- ---- lists

abbrev pub Standings : Type 0
Standings = List (Standing Activation)

pub set_here : (xs : Standings) (j : ℕ) (x : Standing Activation) → j < length xs → slice_get (slice_set xs j x) j ≡ Some x
set_here [] j x lt = absurd (omega (arith, lt))
set_here (y ∷ xs) zero x lt = refl
set_here (y ∷ xs) (suc j) x lt = set_here xs j x (omega (arith, lt))

pub set_there : (xs : Standings) (j k : ℕ) (x : Standing Activation) → (k ≡ j → ⊥) → slice_get (slice_set xs j x) k ≡ slice_get xs k
set_there [] j k x other = refl
set_there (y ∷ xs) zero zero x other = absurd (other refl)
set_there (y ∷ xs) zero (suc k) x other = refl
set_there (y ∷ xs) (suc j) zero x other = refl
set_there (y ∷ xs) (suc j) (suc k) x other = set_there xs j k x (λ e. other (ap suc e))

pub set_count : (xs : Standings) (j : ℕ) (x : Standing Activation) → length (slice_set xs j x) ≡ length xs
set_count [] j x = refl
set_count (y ∷ xs) zero x = refl
set_count (y ∷ xs) (suc j) x = ap suc (set_count xs j x)

pub there_is : (xs : Standings) (j : ℕ) (x : Standing Activation) → slice_get xs j ≡ Some x → j < length xs
there_is [] j x is = absurd (cc)
there_is (y ∷ xs) zero x is = omega arith
there_is (y ∷ xs) (suc j) x is = let e = there_is xs j x is in omega (arith, e)

-- what stands there is there, but for where nothing does
pub got : (xs : Standings) (j : ℕ) (x : Standing Activation) → slice_index_or xs j (NoObject None) ≡ x → (NoObject None ≡ x → ⊥) → slice_get xs j ≡ Some x
got [] j x is some = absurd (some is)
got (y ∷ xs) zero x is some = ap (λ (z : Standing Activation). Some z) is
got (y ∷ xs) (suc j) x is some = got xs j x is some

got_within : (xs : Standings) (j : ℕ) (x : Standing Activation) → slice_index_or xs j (NoObject None) ≡ x → j < length xs → slice_get xs j ≡ Some x
got_within [] j x is lt = absurd (omega (arith, lt))
got_within (y ∷ xs) zero x is lt = ap (λ (z : Standing Activation). Some z) is
got_within (y ∷ xs) (suc j) x is lt = got_within xs j x is (omega (arith, lt))

pub same_or_other : (j k : ℕ) → (j ≡ k) ⊎ (j ≡ k → ⊥)
same_or_other zero zero = inl refl
same_or_other zero (suc k) = inr (λ e. omega (arith, e))
same_or_other (suc j) zero = inr (λ e. omega (arith, e))
same_or_other (suc j) (suc k) = further (same_or_other j k)
  where
    further : (j ≡ k) ⊎ (j ≡ k → ⊥) → (suc j ≡ suc k) ⊎ (suc j ≡ suc k → ⊥)
    further (inl e) = inl (ap suc e)
    further (inr n) = inr (λ e. n (omega (arith, e)))

-- ---- chains that are joined

pub rooted_of : (u : List Activation) (z : ℕ) → outermost owner u ≡ Some z → Rooted u
rooted_of [] z is = tt
rooted_of (a ∷ []) z is = by_flag (evaluates a.work) refl is
  where
    by_flag : (b : Bool) → evaluates a.work ≡ b → (if b then None else Some a.instance) ≡ Some z → evaluates a.work ≡ false
    by_flag true e is = absurd (cc)
    by_flag false e is = e
rooted_of (a ∷ b ∷ u) z is = rooted_of (b ∷ u) z is

-- nothing is for a head where an instance is outermost
pub outer_none : (u : List Activation) → Rooted u → outer_work u ≡ []
outer_none [] root = refl
outer_none (a ∷ []) root = ap (λ (b : Bool). if b then if_alone [] a.work [] else []) root
outer_none (a ∷ b ∷ u) root = by_flag (evaluates a.work) (first_on b u root) (outer_none (b ∷ u) root)
  where
    over : (xs : List OnChain) (v : List Item) (x : OnChain) (more : List OnChain) → xs ≡ x ∷ more → if_alone xs a.work v ≡ v
    over xs v x more is = ap (λ (z : List OnChain). if_alone z a.work v) is

    by_flag : (e : Bool) → FirstOn (b ∷ u) → outer_work (b ∷ u) ≡ [] → (if e then if_alone (on_chain (b ∷ u)) a.work (outer_work (b ∷ u)) else outer_work (b ∷ u)) ≡ []
    by_flag true f none = over (on_chain (b ∷ u)) (outer_work (b ∷ u)) _ _ f.first ∙ none
    by_flag false f none = none

-- above an instance
over_instance : (xs : List Activation) (h : Activation) (ys : List Activation) (s : ℕ) → owner h ≡ Some s → on_chain (xs ++ h ∷ ys) ≡ on_chain xs ++ waiting s (outer_work xs ++ h.work) ∷ on_chain ys
over_instance [] h ys s is = by_flag (evaluates h.work) is
  where
    by_flag : (b : Bool) → (if b then None else Some h.instance) ≡ Some s → (if b then in_front h.work (on_chain ys) else waiting h.instance h.work ∷ on_chain ys) ≡ waiting s h.work ∷ on_chain ys
    by_flag true is = absurd (cc)
    by_flag false is = ap (λ (j : ℕ). waiting j h.work ∷ on_chain ys) (let same : h.instance ≡ s = cc in same)
over_instance (a ∷ xs) h ys s is = by_flag (evaluates a.work) (on_chain xs) refl (over_instance xs h ys s is)
  where
    by_flag : (b : Bool) (zs : List OnChain) → on_chain xs ≡ zs → on_chain (xs ++ h ∷ ys) ≡ on_chain xs ++ waiting s (outer_work xs ++ h.work) ∷ on_chain ys
        → (if b then in_front a.work (on_chain (xs ++ h ∷ ys)) else waiting a.instance a.work ∷ on_chain (xs ++ h ∷ ys))
        ≡ (if b then in_front a.work (on_chain xs) else waiting a.instance a.work ∷ on_chain xs) ++ waiting s ((if b then if_alone (on_chain xs) a.work (outer_work xs) else outer_work xs) ++ h.work) ∷ on_chain ys
    by_flag false zs are further = ap (λ (z : List OnChain). waiting a.instance a.work ∷ z) further
    by_flag true [] are further =
        ap (in_front a.work) (further ∙ ap (λ (z : List OnChain). z ++ waiting s (outer_work xs ++ h.work) ∷ on_chain ys) are)
        ∙ ap (λ (w : List Item). waiting s w ∷ on_chain ys) (sym (append_assoc a.work (outer_work xs) h.work))
        ∙ ap (λ (z : List OnChain). in_front a.work z ++ waiting s (if_alone z a.work (outer_work xs) ++ h.work) ∷ on_chain ys) (sym are)
    by_flag true (z ∷ zs) are further =
        ap (in_front a.work) (further ∙ ap (λ (z : List OnChain). z ++ waiting s (outer_work xs ++ h.work) ∷ on_chain ys) are)
        ∙ ap (λ (z : List OnChain). in_front a.work z ++ waiting s (if_alone z a.work (outer_work xs) ++ h.work) ∷ on_chain ys) (sym are)

-- a chain that ends with an instance, above any other
over_chain : (xs ys : List Activation) → Rooted xs → on_chain (xs ++ ys) ≡ on_chain xs ++ on_chain ys
over_chain [] ys root = refl
over_chain (a ∷ []) ys root = own_on a ys root ∙ ap (λ (z : List OnChain). z ++ on_chain ys) (sym (own_on a [] root))
over_chain (a ∷ b ∷ xs) ys root = by_flag (evaluates a.work) (first_on b xs root) (over_chain (b ∷ xs) ys root)
  where
    in_front_of : (w : List Item) (p q : List OnChain) (x : OnChain) (more : List OnChain) → p ≡ x ∷ more → in_front w (p ++ q) ≡ in_front w p ++ q
    in_front_of w p q x more is = ap (λ (z : List OnChain). in_front w (z ++ q)) is ∙ ap (λ (z : List OnChain). in_front w z ++ q) (sym is)

    by_flag : (e : Bool) → FirstOn (b ∷ xs) → on_chain (b ∷ xs ++ ys) ≡ on_chain (b ∷ xs) ++ on_chain ys
        → (if e then in_front a.work (on_chain (b ∷ xs ++ ys)) else waiting a.instance a.work ∷ on_chain (b ∷ xs ++ ys)) ≡ (if e then in_front a.work (on_chain (b ∷ xs)) else waiting a.instance a.work ∷ on_chain (b ∷ xs)) ++ on_chain ys
    by_flag true f further = ap (in_front a.work) further ∙ in_front_of a.work (on_chain (b ∷ xs)) (on_chain ys) _ _ f.first
    by_flag false f further = ap (λ (z : List OnChain). waiting a.instance a.work ∷ z) further

-- ---- who stands there

module _ (j : ℕ) (w : List Item) where
  pub on_left : (xs ys : List OnChain) → IsOn j w xs → IsOn j w (xs ++ ys)
  on_left [] ys on = absurd on
  on_left (x ∷ xs) ys (inl is) = inl is
  on_left (x ∷ xs) ys (inr on) = inr (on_left xs ys on)

  pub on_right : (xs ys : List OnChain) → IsOn j w ys → IsOn j w (xs ++ ys)
  on_right [] ys on = on
  on_right (x ∷ xs) ys on = inr (on_right xs ys on)

  pub on_either : (xs ys : List OnChain) → IsOn j w (xs ++ ys) → IsOn j w xs ⊎ IsOn j w ys
  on_either [] ys on = inr on
  on_either (x ∷ xs) ys (inl is) = inl (inl is)
  on_either (x ∷ xs) ys (inr on) = further (on_either xs ys on)
    where
      further : IsOn j w xs ⊎ IsOn j w ys → IsOn j w (x ∷ xs) ⊎ IsOn j w ys
      further (inl on) = inl (inr on)
      further (inr on) = inr on

pub is_counted : (j : ℕ) (u : Option ℕ) (n : ℕ) → u ≡ Some j → 1 ≤ once_if (is_instance j u) + n
is_counted j u n is = let one = ap (λ (z : Option ℕ). once_if (is_instance j z)) is ∙ ap once_if (is_itself j) in omega (arith, one)

pub on_counted : (j : ℕ) (w : List Item) (chain : List Activation) → IsOn j w (on_chain chain) → 1 ≤ times_on owner j chain
on_counted j w [] on = absurd on
on_counted j w (a ∷ rest) on = by_flag (evaluates a.work) refl on (λ v further. on_counted j v rest further)
  where
    behind : (xs : List OnChain) → IsOn j w (in_front a.work xs) → (v : List Item) × IsOn j v xs
    behind [] on = absurd on
    behind (x ∷ xs) (inl is) = (x.work, inl (let same : x.instance ≡ j = ap (λ (z : OnChain). z.instance) is in ap (λ (i : ℕ). waiting i x.work) same))
    behind (x ∷ xs) (inr on) = (w, inr on)

    by_flag : (b : Bool) → evaluates a.work ≡ b → IsOn j w (if b then in_front a.work (on_chain rest) else waiting a.instance a.work ∷ on_chain rest) → ((v : List Item) → IsOn j v (on_chain rest) → 1 ≤ times_on owner j rest) → 1 ≤ times_on owner j (a ∷ rest)
    by_flag true is on further = let x = behind (on_chain rest) on in let e = further x.0 x.1 in omega (arith, e)
    by_flag false is (inl first) further = is_counted j (owner a) (times_on owner j rest) (ap (λ (b : Bool). if b then None else Some a.instance) is ∙ ap (λ (z : OnChain). Some z.instance) first)
    by_flag false is (inr on) further = let e = further w on in omega (arith, e)

pub kept_counted : (s : ℕ) (xs : Standings) (k : ℕ) (x : Standing Activation) → slice_get xs k ≡ Some x → times_on owner s (chain_in x) ≤ over_kept (times_on owner s) xs
kept_counted s [] k x is = absurd (cc)
kept_counted s (y ∷ xs) zero x is = let same : y ≡ x = cc in let e = ap (λ (z : Standing Activation). times_on owner s (chain_in z)) same in omega (arith, e)
kept_counted s (y ∷ xs) (suc k) x is = let e = kept_counted s xs k x is in omega (arith, e)

-- ---- what a transfer leaves

-- What is asked of components: each instance stands once at most, and was entered; a detached object's own activation is the outermost one of its
-- chain; a resumed object stands directly above a head that keeps its main chain; and the head of an object is none.
pub record IsSettled (head : ℕ → ℕ) (c : Components Activation) : Type 0 where
  pub once : (x : ℕ) → times_in owner x c ≤ 1
  pub made : (x : ℕ) → length c.standings ≤ x → times_in owner x c ≡ 0
  pub detached : (x : ℕ) (chain : List Activation) → standing_of c x ≡ DetachedObject chain → outermost owner chain ≡ Some x
  pub direct : (s : ℕ) (k : Cut Activation) (waits : List Activation) → cut_at owner s c.operating ≡ Some k → standing_of c s ≡ NoObject (Some waits) → (z : ℕ) × (standing_of c z ≡ ResumedObject) × (outermost owner k.above ≡ Some z)
  pub heads : (y : ℕ) (chain : List Activation) → standing_of c y ≡ DetachedObject chain → is_object (standing_of c (head y)) ≡ false
  pub resumed : (z : ℕ) (k : Cut Activation) → standing_of c z ≡ ResumedObject → cut_at owner (head z) c.operating ≡ Some k → outermost owner k.above ≡ Some z

abbrev Anyone : ℕ → Type 0
Anyone j = Unit {0}

-- what is pending stays so
abbrev pub Remains : Components Activation → Components Activation → Type 0
Remains c d = (j : ℕ) (u : List Item) → PendingOf c j u → PendingOf d j u

abbrev RemainsIn : Components Activation → Result (Components Activation) RunError → Type 0
RemainsIn c (Ok d) = Remains c d
RemainsIn c (Err e) = Unit {0}

abbrev for_head : Standing Activation → List Item
for_head x = work_for_head (Some x)

-- where none of both is a head that keeps its main chain
pub head_set : (xs : Standings) (y : ℕ) (old new : Standing Activation) → slice_get xs y ≡ Some old → for_head old ≡ [] → for_head new ≡ [] → (j : ℕ) → work_for_head (slice_get (slice_set xs y new) j) ≡ work_for_head (slice_get xs j)
head_set xs y old new is none still j = by_place (same_or_other j y)
  where
    by_place : (j ≡ y) ⊎ (j ≡ y → ⊥) → work_for_head (slice_get (slice_set xs y new) j) ≡ work_for_head (slice_get xs j)
    by_place (inl same) =
        ap (λ (k : ℕ). work_for_head (slice_get (slice_set xs y new) k)) same ∙ ap work_for_head (set_here xs y new (there_is xs y old is)) ∙ still ∙ sym none
        ∙ ap work_for_head (sym is) ∙ ap (λ (k : ℕ). work_for_head (slice_get xs k)) (sym same)
    by_place (inr other) = ap work_for_head (set_there xs y j new other)

-- a chain of these components on which an instance stands
pub pend : (d : Components Activation) (chain : List Activation) → IsChain d chain → (j : ℕ) (own u : List Item) → IsOn j own (on_chain chain) → u ≡ work_for_head (slice_get d.standings j) ++ own → PendingOf d j u
pend d chain of j own u on whole = record { chain = chain; of = of; own = own; on = on; whole = whole }

module _ (head : ℕ → ℕ) (c : Components Activation) (fine : IsSettled head c) where
  -- an instance of the operating chain is on no chain that is kept
  pub not_kept : (s : ℕ) → 1 ≤ times_on owner s c.operating → (k : ℕ) (x : Standing Activation) → slice_get c.standings k ≡ Some x → (w : List Item) → IsOn s w (on_chain (chain_in x)) → ⊥
  not_kept s here k x is w on = let one = fine.once s in let more = on_counted s w (chain_in x) on in let few = kept_counted s c.standings k x is in omega (arith, one, more, few, here)

  -- ---- the parts of the operating chain that is cut

  module _ (s : ℕ) (k : Cut Activation) (is_cut : cut_at owner s c.operating ≡ Some k) where
    its : IsCut owner s c.operating k
    its = cut_is owner s c.operating k is_cut

    counted : times_on owner s c.operating ≡ times_on owner s k.above + (1 + times_on owner s k.below)
    counted =
        let one = ap (λ (z : Option ℕ). once_if (is_instance s z)) its.here ∙ ap once_if (is_itself s) in
        let whole = ap (times_on owner s) (sym its.chain) ∙ times-append owner s k.above (k.here ∷ k.below) in
        omega (arith, one, whole)

    pub here_counted : 1 ≤ times_on owner s c.operating
    here_counted = let e = counted in omega (arith, e)

    pub not_above : (w : List Item) → IsOn s w (on_chain k.above) → ⊥
    not_above w on = let none = times-free owner s k.above its.free in let some = on_counted s w k.above on in omega (arith, none, some)

    pub not_below : (w : List Item) → IsOn s w (on_chain k.below) → ⊥
    not_below w on = let one = fine.once s in let some = on_counted s w k.below on in let e = counted in omega (arith, one, some, e)

    pub s_within : s < length c.standings
    s_within = by_test (nat_lt s (length c.standings)) refl
      where
        by_test : (b : Bool) → nat_lt s (length c.standings) ≡ b → s < length c.standings
        by_test true is = grind (arith, nat_tests, is)
        by_test false is = let none = fine.made s (grind (arith, nat_tests, is)) in let e = here_counted in absurd (omega (arith, none, e))

    pub on_operating : on_chain c.operating ≡ on_chain k.above ++ waiting s (outer_work k.above ++ (k.here).work) ∷ on_chain k.below
    on_operating = ap on_chain (sym its.chain) ∙ over_instance k.above k.here k.below s its.here

    pub over_here : (chain : List Activation) → on_chain (chain ++ k.here ∷ k.below) ≡ on_chain chain ++ waiting s (outer_work chain ++ (k.here).work) ∷ on_chain k.below
    over_here chain = over_instance chain k.here k.below s its.here

  -- ---- transfers

  -- a detached object is called
  called_remains : (y : ℕ) (x : Standing Activation) → standing_of c y ≡ x → RemainsIn c (call_by x c y)
  called_remains y (NoObject main) is = tt
  called_remains y AttachedObject is = tt
  called_remains y TerminatedObject is = tt
  called_remains y ResumedObject is = tt
  called_remains y (DetachedObject chain) is = remains
    where
      D : Components Activation
      D = record { operating = chain ++ c.operating; standings = slice_set c.standings y AttachedObject }

      root : Rooted chain
      root = rooted_of chain y (fine.detached y chain is)

      same_head : (j : ℕ) → work_for_head (slice_get c.standings j) ≡ work_for_head (slice_get (slice_set c.standings y AttachedObject) j)
      same_head j = sym (head_set c.standings y (DetachedObject chain) AttachedObject (got c.standings y (DetachedObject chain) is (λ e. cc)) refl refl j)

      here : (j : ℕ) (own u : List Item) → IsOn j own (on_chain chain ++ on_chain c.operating) → u ≡ work_for_head (slice_get c.standings j) ++ own → PendingOf D j u
      here j own u on whole = pend D (chain ++ c.operating) operates j own u (subst (IsOn j own) (sym (over_chain chain c.operating root)) on) (whole ∙ ap (λ (v : List Item). v ++ own) (same_head j))

      by_place : (k : ℕ) (x : Standing Activation) → slice_get c.standings k ≡ Some x → (k ≡ y) ⊎ (k ≡ y → ⊥) → (j : ℕ) (own u : List Item) → IsOn j own (on_chain (chain_in x)) → u ≡ work_for_head (slice_get c.standings j) ++ own → PendingOf D j u
      by_place k x at (inl same) j own u on whole =
          let there : slice_get c.standings y ≡ Some x = ap (slice_get c.standings) (sym same) ∙ at in
          let x_is : x ≡ DetachedObject chain = (let e = got c.standings y (DetachedObject chain) is (λ e. cc) in cc) in
          here j own u (on_left j own (on_chain chain) (on_chain c.operating) (subst (λ (z : Standing Activation). IsOn j own (on_chain (chain_in z))) x_is on)) whole
      by_place k x at (inr other) j own u on whole =
          pend D (chain_in x) (is_kept k x (set_there c.standings y k AttachedObject other ∙ at)) j own u on (whole ∙ ap (λ (v : List Item). v ++ own) (same_head j))

      by_chain : (l : List Activation) → IsChain c l → (j : ℕ) (own u : List Item) → IsOn j own (on_chain l) → u ≡ work_for_head (slice_get c.standings j) ++ own → PendingOf D j u
      by_chain l operates j own u on whole = here j own u (on_right j own (on_chain chain) (on_chain c.operating) on) whole
      by_chain l (is_kept k x at) j own u on whole = by_place k x at (same_or_other k y) j own u on whole

      remains : Remains c D
      remains j u p = by_chain p.chain p.of j p.own u p.on p.whole

  -- A chain comes above the head s, where the operating chain is cut. What stood above s is kept, where it is asked for.
  module _ (s : ℕ) (k : Cut Activation) (is_cut : cut_at owner s c.operating ≡ Some k) (chain : List Activation) (standings : Standings) where
    abbrev Above : Components Activation
    Above = record { operating = chain ++ k.here ∷ k.below; standings = standings }

    module _ (same_head : (j : ℕ) → (j ≡ s → ⊥) → work_for_head (slice_get c.standings j) ≡ work_for_head (slice_get standings j))
        (its_head : work_for_head (slice_get c.standings s) ++ outer_work k.above ≡ work_for_head (slice_get standings s) ++ outer_work chain)
        (Asked : ℕ → Type 0)
        (above : (j : ℕ) (own : List Item) → Asked j → IsOn j own (on_chain k.above) → IsChain Above k.above)
        (others : (i : ℕ) (x : Standing Activation) → slice_get c.standings i ≡ Some x → (chain_in x ≡ []) ⊎ ((chain_in x ≡ chain) ⊎ IsChain Above (chain_in x))) where
      still : (l : List Activation) → IsChain Above l → (j : ℕ) → (j ≡ s → ⊥) → (own u : List Item) → IsOn j own (on_chain l) → u ≡ work_for_head (slice_get c.standings j) ++ own → PendingOf Above j u
      still l of j other own u on whole = pend Above l of j own u on (whole ∙ ap (λ (v : List Item). v ++ own) (same_head j other))

      on_head : (j : ℕ) (own u : List Item) → waiting s (outer_work k.above ++ (k.here).work) ≡ waiting j own → u ≡ work_for_head (slice_get c.standings j) ++ own → PendingOf Above j u
      on_head j own u is whole =
          let same : s ≡ j = ap (λ (z : OnChain). z.instance) is in
          let mine : outer_work k.above ++ (k.here).work ≡ own = ap (λ (z : OnChain). z.work) is in
          let now : u ≡ work_for_head (slice_get standings s) ++ (outer_work chain ++ (k.here).work) =
          whole ∙ ap (λ (i : ℕ). work_for_head (slice_get c.standings i) ++ own) (sym same) ∙ ap (λ (v : List Item). work_for_head (slice_get c.standings s) ++ v) (sym mine)
          ∙ sym (append_assoc (work_for_head (slice_get c.standings s)) (outer_work k.above) (k.here).work)
          ∙ ap (λ (v : List Item). v ++ (k.here).work) its_head
          ∙ append_assoc (work_for_head (slice_get standings s)) (outer_work chain) (k.here).work in
          let there : IsOn s (outer_work chain ++ (k.here).work) (on_chain (chain ++ k.here ∷ k.below)) =
          subst (IsOn s (outer_work chain ++ (k.here).work)) (sym (over_here s k is_cut chain)) (on_right s (outer_work chain ++ (k.here).work) (on_chain chain) (waiting s (outer_work chain ++ (k.here).work) ∷ on_chain k.below) (inl refl)) in
          subst (λ (i : ℕ). PendingOf Above i u) same (pend Above (chain ++ k.here ∷ k.below) operates s (outer_work chain ++ (k.here).work) u there now)

      not_head : (j : ℕ) → (s ≡ j → ⊥) → j ≡ s → ⊥
      not_head j other e = other (sym e)

      on_cut : (j : ℕ) → Asked j → (own u : List Item) → IsOn j own (on_chain k.above) ⊎ IsOn j own (waiting s (outer_work k.above ++ (k.here).work) ∷ on_chain k.below) → u ≡ work_for_head (slice_get c.standings j) ++ own → PendingOf Above j u
      on_cut j asked own u (inl on) whole = still k.above (above j own asked on) j (λ e. not_above s k is_cut own (subst (λ (i : ℕ). IsOn i own (on_chain k.above)) e on)) own u on whole
      on_cut j asked own u (inr (inl is)) whole = on_head j own u is whole
      on_cut j asked own u (inr (inr on)) whole =
          still (chain ++ k.here ∷ k.below) operates j (λ e. not_below s k is_cut own (subst (λ (i : ℕ). IsOn i own (on_chain k.below)) e on)) own u
          (subst (IsOn j own) (sym (over_here s k is_cut chain)) (on_right j own (on_chain chain) (waiting s (outer_work chain ++ (k.here).work) ∷ on_chain k.below) (inr on))) whole

      by_others : (x : Standing Activation) → (chain_in x ≡ []) ⊎ ((chain_in x ≡ chain) ⊎ IsChain Above (chain_in x)) → (j : ℕ) → (j ≡ s → ⊥) → (own u : List Item) → IsOn j own (on_chain (chain_in x)) → u ≡ work_for_head (slice_get c.standings j) ++ own → PendingOf Above j u
      by_others x (inl none) j other own u on whole = absurd (subst (λ (l : List Activation). IsOn j own (on_chain l)) none on)
      by_others x (inr (inl same)) j other own u on whole =
          still (chain ++ k.here ∷ k.below) operates j other own u
          (subst (IsOn j own) (sym (over_here s k is_cut chain)) (on_left j own (on_chain chain) (waiting s (outer_work chain ++ (k.here).work) ∷ on_chain k.below) (subst (λ (l : List Activation). IsOn j own (on_chain l)) same on))) whole
      by_others x (inr (inr of)) j other own u on whole = still (chain_in x) of j other own u on whole

      by_chain : (l : List Activation) → IsChain c l → (j : ℕ) → Asked j → (own u : List Item) → IsOn j own (on_chain l) → u ≡ work_for_head (slice_get c.standings j) ++ own → PendingOf Above j u
      by_chain l operates j asked own u on whole = on_cut j asked own u (on_either j own (on_chain k.above) (waiting s (outer_work k.above ++ (k.here).work) ∷ on_chain k.below) (subst (IsOn j own) (on_operating s k is_cut) on)) whole
      by_chain l (is_kept i x at) j asked own u on whole =
          by_others x (others i x at) j (λ e. not_kept s (here_counted s k is_cut) i x at own (subst (λ (z : ℕ). IsOn z own (on_chain (chain_in x))) e on)) own u on whole

      pub above_remains : (j : ℕ) (u : List Item) → Asked j → PendingOf c j u → PendingOf Above j u
      above_remains j u asked p = by_chain p.chain p.of j asked p.own u p.on p.whole

  -- a standing is not at two places
  pub other_places : (y z : ℕ) (x v : Standing Activation) → slice_get c.standings y ≡ Some x → slice_get c.standings z ≡ Some v → (x ≡ v → ⊥) → y ≡ z → ⊥
  other_places y z x v at there differ e =
      let same : slice_get c.standings y ≡ slice_get c.standings z = ap (slice_get c.standings) e in
      differ (let one : Some x ≡ Some v = sym at ∙ same ∙ there in cc)

  -- ---- the main component of a system goes on

  main_remains : (s : ℕ) (main : List Activation) → standing_of c s ≡ NoObject (Some main) → (k : Option (Cut Activation)) → cut_at owner s c.operating ≡ k → RemainsIn c (main_at owner k main c s)
  main_remains s main is None cut = tt
  main_remains s main is (Some k) cut = by_kept (fine.direct s k main cut is)
    where
      at_s : slice_get c.standings s ≡ Some (NoObject (Some main))
      at_s = got c.standings s (NoObject (Some main)) is (λ e. cc)

      with_resumed : (z : ℕ) → slice_get c.standings z ≡ Some ResumedObject → Rooted k.above → Remains c (record { operating = main ++ k.here ∷ k.below; standings = slice_set (slice_set c.standings z (DetachedObject k.above)) s (NoObject None) })
      with_resumed z at_z root = λ j u p. above_remains s k cut main after same_head its_head Anyone (λ j own asked on. above) others j u tt p
        where
          first : Standings
          first = slice_set c.standings z (DetachedObject k.above)

          after : Standings
          after = slice_set first s (NoObject None)

          apart : z ≡ s → ⊥
          apart = other_places z s ResumedObject (NoObject (Some main)) at_z at_s (λ e. cc)

          same_head : (j : ℕ) → (j ≡ s → ⊥) → work_for_head (slice_get c.standings j) ≡ work_for_head (slice_get after j)
          same_head j other = sym (ap work_for_head (set_there first s j (NoObject None) other) ∙ head_set c.standings z ResumedObject (DetachedObject k.above) at_z refl refl j)

          its_head : work_for_head (slice_get c.standings s) ++ outer_work k.above ≡ work_for_head (slice_get after s) ++ outer_work main
          its_head =
              ap (λ (v : List Item). work_for_head (slice_get c.standings s) ++ v) (outer_none k.above root)
              ∙ append-nil (work_for_head (slice_get c.standings s)) ∙ ap work_for_head at_s
              ∙ ap (λ (v : List Item). v ++ outer_work main) (sym (ap work_for_head (set_here first s (NoObject None) (let n = set_count c.standings z (DetachedObject k.above) in let lt = s_within s k cut in omega (arith, n, lt)))))

          above : IsChain (record { operating = main ++ k.here ∷ k.below; standings = after }) k.above
          above = is_kept z (DetachedObject k.above) (set_there first s z (NoObject None) apart ∙ set_here c.standings z (DetachedObject k.above) (there_is c.standings z ResumedObject at_z))

          others : (i : ℕ) (x : Standing Activation) → slice_get c.standings i ≡ Some x → (chain_in x ≡ []) ⊎ ((chain_in x ≡ main) ⊎ IsChain (record { operating = main ++ k.here ∷ k.below; standings = after }) (chain_in x))
          others i x at = by_place (same_or_other i s) (same_or_other i z)
            where
              by_place : (i ≡ s) ⊎ (i ≡ s → ⊥) → (i ≡ z) ⊎ (i ≡ z → ⊥) → (chain_in x ≡ []) ⊎ ((chain_in x ≡ main) ⊎ IsChain (record { operating = main ++ k.here ∷ k.below; standings = after }) (chain_in x))
              by_place (inl same) p = let one : Some x ≡ Some (NoObject (Some main)) = sym at ∙ ap (slice_get c.standings) same ∙ at_s in let x_is : x ≡ NoObject (Some main) = cc in inr (inl (ap chain_in x_is))
              by_place (inr n) (inl same) = let one : Some x ≡ Some ResumedObject = sym at ∙ ap (slice_get c.standings) same ∙ at_z in let x_is : x ≡ ResumedObject = cc in inl (ap chain_in x_is)
              by_place (inr n) (inr l) = inr (inr (is_kept i x (set_there first s i (NoObject None) n ∙ set_there c.standings z i (DetachedObject k.above) l ∙ at)))

      by_kept : ((z : ℕ) × (standing_of c z ≡ ResumedObject) × (outermost owner k.above ≡ Some z)) → RemainsIn c (main_at owner (Some k) main c s)
      by_kept (z, resumed, last) =
          let kept_is : kept owner s k.above c ≡ record { operating = c.operating; standings = slice_set c.standings z (DetachedObject k.above) } =
          ap (λ (x : Standing Activation). kept_by owner x s k.above c) is ∙ ap (λ (y : Option ℕ). kept_as owner y k.above c) last in
          subst (λ (b : Components Activation). Remains c (record { operating = main ++ k.here ∷ k.below; standings = slice_set b.standings s (NoObject None) })) (sym kept_is)
          (with_resumed z (got c.standings z ResumedObject resumed (λ e. cc)) (rooted_of k.above z last))

  mains_remain : (s : ℕ) (x : Standing Activation) → standing_of c s ≡ x → RemainsIn c (main_by owner x c s)
  mains_remain s (NoObject (Some main)) is = main_remains s main is (cut_at owner s c.operating) refl
  mains_remain s (NoObject None) is = λ j u p. p
  mains_remain s AttachedObject is = λ j u p. p
  mains_remain s (DetachedObject chain) is = λ j u p. p
  mains_remain s ResumedObject is = λ j u p. p
  mains_remain s TerminatedObject is = λ j u p. p

  -- ---- a detached object is resumed

  module _ (s y : ℕ) (chain : List Activation) (is : standing_of c y ≡ DetachedObject chain) (k : Cut Activation) (cut : cut_at owner s c.operating ≡ Some k) where
    abbrev Resumed : Standings → Components Activation
    Resumed standings = record { operating = chain ++ k.here ∷ k.below; standings = slice_set standings y ResumedObject }

    at_y : slice_get c.standings y ≡ Some (DetachedObject chain)
    at_y = got c.standings y (DetachedObject chain) is (λ e. cc)

    chain_root : Rooted chain
    chain_root = rooted_of chain y (fine.detached y chain is)

    -- another standing was set before
    module _ (z : ℕ) (old new : Standing Activation) (at_z : slice_get c.standings z ≡ Some old) (apart : y ≡ z → ⊥) where
      abbrev before : Standings
      before = slice_set c.standings z new

      still_y : slice_get before y ≡ Some (DetachedObject chain)
      still_y = set_there c.standings z y new apart ∙ at_y

      heads_but : (j : ℕ) → (j ≡ z → ⊥) → work_for_head (slice_get c.standings j) ≡ work_for_head (slice_get (slice_set before y ResumedObject) j)
      heads_but j other = sym (head_set before y (DetachedObject chain) ResumedObject still_y refl refl j ∙ ap work_for_head (set_there c.standings z j new other))

      at_new : slice_get (slice_set before y ResumedObject) z ≡ Some new
      at_new = set_there before y z ResumedObject (λ e. apart (sym e)) ∙ set_here c.standings z new (there_is c.standings z old at_z)

      kept_others : chain_in old ≡ [] → (i : ℕ) (x : Standing Activation) → slice_get c.standings i ≡ Some x → (chain_in x ≡ []) ⊎ ((chain_in x ≡ chain) ⊎ IsChain (Resumed before) (chain_in x))
      kept_others none i x at = by_place (same_or_other i y) (same_or_other i z)
        where
          by_place : (i ≡ y) ⊎ (i ≡ y → ⊥) → (i ≡ z) ⊎ (i ≡ z → ⊥) → (chain_in x ≡ []) ⊎ ((chain_in x ≡ chain) ⊎ IsChain (Resumed before) (chain_in x))
          by_place (inl same) p = let one : Some x ≡ Some (DetachedObject chain) = sym at ∙ ap (slice_get c.standings) same ∙ at_y in let x_is : x ≡ DetachedObject chain = cc in inr (inl (ap chain_in x_is))
          by_place (inr n) (inl same) = let one : Some x ≡ Some old = sym at ∙ ap (slice_get c.standings) same ∙ at_z in let x_is : x ≡ old = cc in inl (ap chain_in x_is ∙ none)
          by_place (inr n) (inr l) = inr (inr (is_kept i x (set_there before y i ResumedObject n ∙ set_there c.standings z i new l ∙ at)))

    -- the main component operated
    from_main : slice_get c.standings s ≡ Some (NoObject None) → Remains c (Resumed (slice_set c.standings s (NoObject (Some k.above))))
    from_main at_s =
        let apart : y ≡ s → ⊥ = other_places y s (DetachedObject chain) (NoObject None) at_y at_s (λ e. cc) in
        let now = at_new s (NoObject None) (NoObject (Some k.above)) at_s apart in
        λ j u p. above_remains s k cut chain (slice_set (slice_set c.standings s (NoObject (Some k.above))) y ResumedObject)
        (heads_but s (NoObject None) (NoObject (Some k.above)) at_s apart)
        (ap (λ (v : List Item). v ++ outer_work k.above) (ap work_for_head at_s)
        ∙ sym (append-nil (outer_work k.above))
        ∙ ap (λ (v : List Item). v ++ []) (sym (ap work_for_head now))
        ∙ ap (λ (v : List Item). work_for_head (slice_get (slice_set (slice_set c.standings s (NoObject (Some k.above))) y ResumedObject) s) ++ v) (sym (outer_none chain chain_root)))
        Anyone (λ j own asked on. is_kept s (NoObject (Some k.above)) now) (kept_others s (NoObject None) (NoObject (Some k.above)) at_s apart refl) j u tt p

    -- another resumed object did
    from_object : (waits : List Activation) (z : ℕ) → slice_get c.standings s ≡ Some (NoObject (Some waits)) → slice_get c.standings z ≡ Some ResumedObject → Rooted k.above → Remains c (Resumed (slice_set c.standings z (DetachedObject k.above)))
    from_object waits z at_s at_z root =
        let apart : y ≡ z → ⊥ = other_places y z (DetachedObject chain) ResumedObject at_y at_z (λ e. cc) in
        let from : s ≡ z → ⊥ = other_places s z (NoObject (Some waits)) ResumedObject at_s at_z (λ e. cc) in
        let now = at_new z ResumedObject (DetachedObject k.above) at_z apart in
        λ j u p. above_remains s k cut chain (slice_set (slice_set c.standings z (DetachedObject k.above)) y ResumedObject)
        (λ j other. sym (head_set (slice_set c.standings z (DetachedObject k.above)) y (DetachedObject chain) ResumedObject (still_y z ResumedObject (DetachedObject k.above) at_z apart) refl refl j ∙ head_set c.standings z ResumedObject (DetachedObject k.above) at_z refl refl j))
        (ap (λ (v : List Item). work_for_head (slice_get c.standings s) ++ v) (outer_none k.above root ∙ sym (outer_none chain chain_root))
        ∙ ap (λ (v : List Item). v ++ outer_work chain) (heads_but z ResumedObject (DetachedObject k.above) at_z apart s from))
        Anyone (λ j own asked on. is_kept z (DetachedObject k.above) now) (kept_others z ResumedObject (DetachedObject k.above) at_z apart refl) j u tt p

    resumed_remains : (x : Standing Activation) → standing_of c s ≡ x → is_object x ≡ false → Remains c (Resumed (kept_by owner x s k.above c).standings)
    resumed_remains (NoObject None) at none = from_main (got_within c.standings s (NoObject None) at (s_within s k cut))
    resumed_remains (NoObject (Some waits)) at none = by_direct (fine.direct s k waits cut at)
      where
        by_direct : ((z : ℕ) × (standing_of c z ≡ ResumedObject) × (outermost owner k.above ≡ Some z)) → Remains c (Resumed (kept_as owner (outermost owner k.above) k.above c).standings)
        by_direct (z, resumed, last) =
            subst (λ (v : Option ℕ). Remains c (Resumed (kept_as owner v k.above c).standings)) (sym last)
            (from_object waits z (got c.standings s (NoObject (Some waits)) at (λ e. cc)) (got c.standings z ResumedObject resumed (λ e. cc)) (rooted_of k.above z last))
    resumed_remains AttachedObject at none = absurd (cc)
    resumed_remains (DetachedObject l) at none = absurd (cc)
    resumed_remains ResumedObject at none = absurd (cc)
    resumed_remains TerminatedObject at none = absurd (cc)

  resuming_remains : (y : ℕ) (x : Standing Activation) → standing_of c y ≡ x → RemainsIn c (resume_by owner x c (head y) y)
  resuming_remains y (NoObject main) is = tt
  resuming_remains y AttachedObject is = tt
  resuming_remains y TerminatedObject is = tt
  resuming_remains y ResumedObject is = λ j u p. p
  resuming_remains y (DetachedObject chain) is = by_cut (cut_at owner (head y) c.operating) refl
    where
      by_cut : (k : Option (Cut Activation)) → cut_at owner (head y) c.operating ≡ k → RemainsIn c (resume_at owner k chain c (head y) y)
      by_cut None cut = tt
      by_cut (Some k) cut = resumed_remains (head y) y chain is k cut (standing_of c (head y)) refl (fine.heads y chain is)

  -- ---- an attached object detaches

  left_remains : (x : ℕ) → standing_of c x ≡ AttachedObject → (k : Option (Cut Activation)) → cut_at owner x c.operating ≡ k → RemainsIn c (leave_at owner k c x)
  left_remains x is None cut = tt
  left_remains x is (Some k) cut = remains
    where
      D : Components Activation
      D = record { operating = k.below; standings = slice_set c.standings x (DetachedObject (upper k)) }

      at_x : slice_get c.standings x ≡ Some AttachedObject
      at_x = got c.standings x AttachedObject is (λ e. cc)

      same_head : (j : ℕ) → work_for_head (slice_get c.standings j) ≡ work_for_head (slice_get (slice_set c.standings x (DetachedObject (upper k))) j)
      same_head j = sym (head_set c.standings x AttachedObject (DetachedObject (upper k)) at_x refl refl j)

      upper_on : on_chain (upper k) ≡ on_chain k.above ++ waiting x (outer_work k.above ++ (k.here).work) ∷ []
      upper_on = over_instance k.above k.here [] x (cut_is owner x c.operating k cut).here

      kept_part : (j : ℕ) (own u : List Item) → IsOn j own (on_chain k.above ++ waiting x (outer_work k.above ++ (k.here).work) ∷ []) → u ≡ work_for_head (slice_get c.standings j) ++ own → PendingOf D j u
      kept_part j own u on whole =
          pend D (upper k) (is_kept x (DetachedObject (upper k)) (set_here c.standings x (DetachedObject (upper k)) (there_is c.standings x AttachedObject at_x))) j own u (subst (IsOn j own) (sym upper_on) on) (whole ∙ ap (λ (v : List Item). v ++ own) (same_head j))

      on_cut : (j : ℕ) (own u : List Item) → IsOn j own (on_chain k.above) ⊎ IsOn j own (waiting x (outer_work k.above ++ (k.here).work) ∷ on_chain k.below) → u ≡ work_for_head (slice_get c.standings j) ++ own → PendingOf D j u
      on_cut j own u (inl on) whole = kept_part j own u (on_left j own (on_chain k.above) (waiting x (outer_work k.above ++ (k.here).work) ∷ []) on) whole
      on_cut j own u (inr (inl at)) whole = kept_part j own u (on_right j own (on_chain k.above) (waiting x (outer_work k.above ++ (k.here).work) ∷ []) (inl at)) whole
      on_cut j own u (inr (inr on)) whole = pend D k.below operates j own u on (whole ∙ ap (λ (v : List Item). v ++ own) (same_head j))

      by_place : (i : ℕ) (v : Standing Activation) → slice_get c.standings i ≡ Some v → (i ≡ x) ⊎ (i ≡ x → ⊥) → (j : ℕ) (own u : List Item) → IsOn j own (on_chain (chain_in v)) → u ≡ work_for_head (slice_get c.standings j) ++ own → PendingOf D j u
      by_place i v at (inl same) j own u on whole =
          let one : Some v ≡ Some AttachedObject = sym at ∙ ap (slice_get c.standings) same ∙ at_x in
          let v_is : v ≡ AttachedObject = cc in
          absurd (subst (λ (z : Standing Activation). IsOn j own (on_chain (chain_in z))) v_is on)
      by_place i v at (inr other) j own u on whole = pend D (chain_in v) (is_kept i v (set_there c.standings x i (DetachedObject (upper k)) other ∙ at)) j own u on (whole ∙ ap (λ (z : List Item). z ++ own) (same_head j))

      by_chain : (l : List Activation) → IsChain c l → (j : ℕ) (own u : List Item) → IsOn j own (on_chain l) → u ≡ work_for_head (slice_get c.standings j) ++ own → PendingOf D j u
      by_chain l operates j own u on whole = on_cut j own u (on_either j own (on_chain k.above) (waiting x (outer_work k.above ++ (k.here).work) ∷ on_chain k.below) (subst (IsOn j own) (on_operating x k cut) on)) whole
      by_chain l (is_kept i v at) j own u on whole = by_place i v at (same_or_other i x) j own u on whole

      remains : Remains c D
      remains j u p = by_chain p.chain p.of j p.own u p.on p.whole

  given_up_remains : (s : ℕ) (k : Option (Cut Activation)) → RemainsIn c (give_up_at owner k c s)
  given_up_remains s None = tt
  given_up_remains s (Some k) = mains_remain s (standing_of c s) refl

  detached_remains : (s x : ℕ) (standing : Standing Activation) → standing_of c x ≡ standing → RemainsIn c (detach_by owner standing c s x)
  detached_remains s x (NoObject main) is = λ j u p. p
  detached_remains s x AttachedObject is = left_remains x is (cut_at owner x c.operating) refl
  detached_remains s x (DetachedObject chain) is = tt
  detached_remains s x ResumedObject is = given_up_remains s (cut_at owner x c.operating)
  detached_remains s x TerminatedObject is = tt

  -- ---- all transfers

  ok_remains : (r : Result (Components Activation) RunError) (d : Components Activation) → r ≡ Ok d → RemainsIn c r → Remains c d
  ok_remains r d is a = subst (RemainsIn c) is a

  pub transfers_remain : (op : Op) (d : Components Activation) → Transfers owner head c op d → Remains c d
  transfers_remain op d (calls None is) = absurd (cc)
  transfers_remain op d (calls (Some y) is) = ok_remains _ d is (called_remains y (standing_of c y) refl)
  transfers_remain op d (detaches x is) = ok_remains _ d is (detached_remains (head x) x (standing_of c x) refl)
  transfers_remain op d (resumes None is) = absurd (cc)
  transfers_remain op d (resumes (Some y) is) = ok_remains _ d is (resuming_remains y (standing_of c y) refl)
  transfers_remain op d (schedules by y is) = ok_remains _ d is (resuming_remains y (standing_of c y) refl)
  transfers_remain op d (schedules_main by s is) = ok_remains _ d is (mains_remain s (standing_of c s) refl)
