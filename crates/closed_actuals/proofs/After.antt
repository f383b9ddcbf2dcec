-- What is pending in each instance after a step.
use Rattle.std.proofs.Common.{◌≡◌, ◌⊎◌, ℕ, ◌+◌, ◌≤◌, Bool, List, [], ◌∷◌, ◌++◌, map, Option, Some, None, inl, inr, refl, sym, ap, ◌∙◌, subst, arith}
use Rattle.std.specs.Prelude.{if◌then◌else◌, slice_get, slice_set}
use Rattle.std.proofs.lemmas.Option.{get_or_from_slice_get}
use Rattle.std.specs.Option.{option_map}
use Rattle.sim_chains.proofs.Counts.{times-append}
use Rattle.sim_chains.proofs.Cuts.{cut_is, is_itself}
use Rattle.std.proofs.lemmas.List.{append-nil}
use Rattle.sim_chains.specs.Chains.{Cut, cut_at, under, is_instance, once_if, outermost, times_on}
use Rattle.sim_chains.specs.Components.{AttachedObject, Components, DetachedObject, NoObject, ResumedObject, Standing, TerminatedObject, dropped, finish, finish_by, returned, standing_of, with_standing}
use Rattle.sim_chains.specs.WellFormed.{chain_in}
use Rattle.sim_meaning.specs.Pending.{Activation, Item, owner}
use Rattle.closed_actuals.specs.Evaluations.{IsChain, IsOn, OnChain, PendingOf, instances_on, is_kept, itself, on_chain, operates, outer_work, waiting, with_owner, work_for_head}
use Rattle.closed_actuals.proofs.Numbers.{cut_of, cut_same, number, numbers_are, numbers_on, outermost_same}
use Rattle.closed_actuals.proofs.Remaining.{IsSettled, Standings, above_remains, is_counted, other_places, outer_none, rooted_of, set_here, got, head_set, on_operating, pend, same_or_other, set_there, there_is}

pub times_same : (x : ℕ) (chain : List Activation) → times_on itself x (instances_on chain) ≡ times_on owner x chain
times_same x [] = refl
times_same x (a ∷ rest) = by_owner (owner a) (times_same x rest)
  where
    by_owner : (u : Option ℕ) → times_on itself x (instances_on rest) ≡ times_on owner x rest → times_on itself x (with_owner u (instances_on rest)) ≡ once_if (is_instance x u) + times_on owner x rest
    by_owner None same = omega (arith, same)
    by_owner (Some i) same = omega (arith, same)

cut_first : (i : ℕ) (xs : List ℕ) → cut_at itself i (i ∷ xs) ≡ Some (record { above = []; here = i; below = xs })
cut_first i xs = ap (λ (b : Bool). if b then Some (record { above = []; here = i; below = xs }) else option_map (under i) (cut_at itself i xs)) (is_itself i)

nobody : (chain : List Activation) → instances_on chain ≡ [] → on_chain chain ≡ []
nobody chain none = by_list (on_chain chain) (sym (numbers_on chain) ∙ none)
  where
    by_list : (xs : List OnChain) → map number xs ≡ [] → xs ≡ []
    by_list [] e = refl
    by_list (x ∷ xs) e = absurd (cc)

-- ---- the instance that operates is no head that keeps its main chain

module _ (head : ℕ → ℕ) (c : Components Activation) (fine : IsSettled head c) (i : ℕ) (w : List Item) (others : List OnChain) (first : on_chain c.operating ≡ waiting i w ∷ others) where
  -- nothing stands above it
  record OnTop : Type 0 where
    cut : Cut Activation
    is : cut_at owner i c.operating ≡ Some cut
    alone : instances_on cut.above ≡ []

  on_top : OnTop
  on_top = by_cut (cut_at owner i c.operating) refl (sym (cut_same i c.operating) ∙ ap (cut_at itself i) (numbers_are c.operating _ first) ∙ top_itself)
    where
      top_itself : cut_at itself i (i ∷ map (λ (x : OnChain). x.instance) others) ≡ Some (record { above = []; here = i; below = map (λ (x : OnChain). x.instance) others })
      top_itself = cut_first i (map (λ (x : OnChain). x.instance) others)

      by_cut : (k : Option (Cut Activation)) → cut_at owner i c.operating ≡ k → cut_of i k ≡ Some (record { above = []; here = i; below = map (λ (x : OnChain). x.instance) others }) → OnTop
      by_cut None is e = absurd (cc)
      by_cut (Some k) is e = record { cut = k; is = is; alone = ap above_in e }
        where
          above_in : Option (Cut ℕ) → List ℕ
          above_in None = []
          above_in (Some k) = k.above

  pub no_head : work_for_head (slice_get c.standings i) ≡ []
  no_head = by_standing (slice_get c.standings i) refl
    where
      keeps_main : (main : List Activation) → slice_get c.standings i ≡ Some (NoObject (Some main)) → ⊥
      keeps_main main at =
          let top = on_top in
          let above = fine.direct i top.cut main top.is (get_or_from_slice_get c.standings i (NoObject (Some main)) (NoObject None) at) in
          let last = ap (outermost itself) (sym top.alone) ∙ outermost_same (top.cut).above above.0 above.2 in
          (let no : None ≡ Some above.0 = last in cc)

      by_standing : (x : Option (Standing Activation)) → slice_get c.standings i ≡ x → work_for_head x ≡ []
      by_standing None at = refl
      by_standing (Some (NoObject None)) at = refl
      by_standing (Some (NoObject (Some main))) at = absurd (keeps_main main at)
      by_standing (Some AttachedObject) at = refl
      by_standing (Some (DetachedObject chain)) at = refl
      by_standing (Some ResumedObject) at = refl
      by_standing (Some TerminatedObject) at = refl

  pub mine : PendingOf c i w
  mine = record { chain = c.operating; of = operates; own = w; on = subst (IsOn i w) (sym first) (inl refl); whole = ap (λ (v : List Item). v ++ w) (sym no_head) }

  -- another instance stands further out, or on a chain that is kept
  not_first : (j : ℕ) → (j ≡ i → ⊥) → (own : List Item) → IsOn j own (on_chain c.operating) → IsOn j own others
  not_first j other own on = by_place (subst (IsOn j own) first on)
    where
      by_place : IsOn j own (waiting i w ∷ others) → IsOn j own others
      by_place (inl is) = absurd (other (sym (ap number is)))
      by_place (inr on) = on

  -- ---- to components with the same chains kept, and the others of the operating chain

  module _ (d : Components Activation) (same_head : (j : ℕ) → work_for_head (slice_get c.standings j) ≡ work_for_head (slice_get d.standings j))
      (kept_there : (k : ℕ) (x : Standing Activation) → slice_get c.standings k ≡ Some x → (chain_in x ≡ []) ⊎ IsChain d (chain_in x))
      (there : (j : ℕ) (own : List Item) → IsOn j own others → IsOn j own (on_chain d.operating)) where
    by_chain : (l : List Activation) → IsChain c l → (j : ℕ) → (j ≡ i → ⊥) → (own u : List Item) → IsOn j own (on_chain l) → u ≡ work_for_head (slice_get c.standings j) ++ own → PendingOf d j u
    by_chain l operates j other own u on whole = pend d d.operating operates j own u (there j own (not_first j other own on)) (whole ∙ ap (λ (v : List Item). v ++ own) (same_head j))
    by_chain l (is_kept k x at) j other own u on whole = by_kept (kept_there k x at)
      where
        by_kept : (chain_in x ≡ []) ⊎ IsChain d (chain_in x) → PendingOf d j u
        by_kept (inl none) = absurd (subst (λ (z : List Activation). IsOn j own (on_chain z)) none on)
        by_kept (inr of) = pend d (chain_in x) of j own u on (whole ∙ ap (λ (v : List Item). v ++ own) (same_head j))

    pub others_remain : (j : ℕ) (u : List Item) → (j ≡ i → ⊥) → PendingOf c j u → PendingOf d j u
    others_remain j u other p = by_chain p.chain p.of j other p.own u p.on p.whole

  -- ---- the end of an object

  ended_head : (x : Standing Activation) → slice_get c.standings i ≡ Some x → work_for_head (Some x) ≡ [] → (j : ℕ) → work_for_head (slice_get c.standings j) ≡ work_for_head (slice_get (slice_set c.standings i TerminatedObject) j)
  ended_head x at none j = sym (head_set c.standings i x TerminatedObject at none refl j)

  ended_kept : (d : Components Activation) → d.standings ≡ slice_set c.standings i TerminatedObject → (x : Standing Activation) → slice_get c.standings i ≡ Some x → chain_in x ≡ [] → (k : ℕ) (y : Standing Activation) → slice_get c.standings k ≡ Some y → (chain_in y ≡ []) ⊎ IsChain d (chain_in y)
  ended_kept d is x at none k y there = by_place (same_or_other k i)
    where
      by_place : (k ≡ i) ⊎ (k ≡ i → ⊥) → (chain_in y ≡ []) ⊎ IsChain d (chain_in y)
      by_place (inl same) = let one : Some y ≡ Some x = sym there ∙ ap (slice_get c.standings) same ∙ at in let y_is : y ≡ x = cc in inl (ap chain_in y_is ∙ none)
      by_place (inr other) = inr (is_kept k y (ap (λ (z : Standings). slice_get z k) is ∙ set_there c.standings i k TerminatedObject other ∙ there))

  -- what stands below it
  below_is : (k : Cut Activation) → cut_at owner i c.operating ≡ Some k → instances_on k.above ≡ [] → others ≡ on_chain k.below
  below_is k cut alone = ap behind (sym first ∙ on_operating head c fine i k cut ∙ ap (λ (z : List OnChain). z ++ waiting i (outer_work k.above ++ (k.here).work) ∷ on_chain k.below) (nobody k.above alone))
    where
      behind : List OnChain → List OnChain
      behind [] = []
      behind (x ∷ xs) = xs

  attached_remain : slice_get c.standings i ≡ Some AttachedObject → (j : ℕ) (u : List Item) → (j ≡ i → ⊥) → PendingOf c j u → PendingOf (finish owner head c i) j u
  attached_remain at j u other p =
      let top = on_top in
      let finished : finish owner head c i ≡ record { operating = (top.cut).below; standings = slice_set c.standings i TerminatedObject } =
      ap (λ (x : Standing Activation). finish_by owner x c (head i) i) (get_or_from_slice_get c.standings i AttachedObject (NoObject None) at)
      ∙ ap (λ (z : Option (Cut Activation)). with_standing i TerminatedObject (returned owner z c)) top.is in
      let d : Components Activation = record { operating = (top.cut).below; standings = slice_set c.standings i TerminatedObject } in
      subst (λ (z : Components Activation). PendingOf z j u) (sym finished)
      (others_remain d (ended_head AttachedObject at refl) (ended_kept d refl AttachedObject at refl) (λ k own on. subst (IsOn k own) (below_is top.cut top.is top.alone) on) j u other p)

  -- the resumed object stands alone above its head
  alone_above : slice_get c.standings i ≡ Some ResumedObject → (k : Cut Activation) → cut_at owner (head i) c.operating ≡ Some k → (head i ≡ i → ⊥) → (j : ℕ) → (j ≡ i → ⊥) → (own : List Item) → IsOn j own (on_chain k.above) → ⊥
  alone_above at k cut apart j other own on = by_list (on_chain k.above) (numbers_on k.above) (sym (on_operating head c fine (head i) k cut) ∙ first) on
    where
      last : outermost itself (instances_on k.above) ≡ Some i
      last = outermost_same k.above i (fine.resumed i k (get_or_from_slice_get c.standings i ResumedObject (NoObject None) at) cut)

      counted : times_on itself i (instances_on k.above) ≤ 1
      counted =
          let same = times_same i k.above in
          let whole = ap (times_on owner i) (sym (cut_is owner (head i) c.operating k cut).chain) ∙ times-append owner i k.above (k.here ∷ k.below) in
          let once = fine.once i in
          omega (arith, same, whole, once)

      outer_counted : (xs : List ℕ) → outermost itself xs ≡ Some i → 1 ≤ times_on itself i xs
      outer_counted [] is = absurd (cc)
      outer_counted (x ∷ []) is = is_counted i (itself x) 0 is
      outer_counted (x ∷ y ∷ xs) is = let e = outer_counted (y ∷ xs) is in omega (arith, e)

      by_more : (x : OnChain) (xs : List OnChain) → x ≡ waiting i w → instances_on k.above ≡ map number (x ∷ xs) → IsOn j own (x ∷ xs) → ⊥
      by_more x xs is numbers (inl first) = other (sym (ap number (sym is ∙ first)))
      by_more x [] is numbers (inr on) = on
      by_more x (y ∷ xs) is numbers (inr on) =
          let list : instances_on k.above ≡ i ∷ map number (y ∷ xs) = numbers ∙ ap (λ (z : OnChain). number z ∷ map number (y ∷ xs)) is in
          let inner = outer_counted (map number (y ∷ xs)) (ap (outermost itself) (sym list) ∙ last) in
          let twice = is_counted i (itself i) (times_on itself i (map number (y ∷ xs))) refl in
          let all = ap (times_on itself i) list in
          let few = counted in
          let one = ap once_if (is_itself i) in
          omega (arith, inner, all, few, one)

      by_list : (xs : List OnChain) → instances_on k.above ≡ map number xs → xs ++ waiting (head i) (outer_work k.above ++ (k.here).work) ∷ on_chain k.below ≡ waiting i w ∷ others → IsOn j own xs → ⊥
      by_list [] numbers is on = on
      by_list (x ∷ xs) numbers is on = by_more x xs (ap first_of is) numbers on
        where
          first_of : List OnChain → OnChain
          first_of [] = waiting i w
          first_of (x ∷ xs) = x

  resumed_remain : slice_get c.standings i ≡ Some ResumedObject → (j : ℕ) (u : List Item) → (j ≡ i → ⊥) → PendingOf c j u → PendingOf (finish owner head c i) j u
  resumed_remain at j u other p =
      let finished : finish owner head c i ≡ finish_by owner ResumedObject c (head i) i = ap (λ (x : Standing Activation). finish_by owner x c (head i) i) (get_or_from_slice_get c.standings i ResumedObject (NoObject None) at) in
      subst (λ (z : Components Activation). PendingOf z j u) (sym finished) (by_head (cut_at owner (head i) c.operating) refl (standing_of c (head i)) refl)
    where
      stays_on : PendingOf (with_standing i TerminatedObject c) j u
      stays_on = others_remain (with_standing i TerminatedObject c) (ended_head ResumedObject at refl) (ended_kept (with_standing i TerminatedObject c) refl ResumedObject at refl) (λ k own on. subst (IsOn k own) (sym first) (inr on)) j u other p

      main_on : (k : Cut Activation) → cut_at owner (head i) c.operating ≡ Some k → (main : List Activation) → standing_of c (head i) ≡ NoObject (Some main) → PendingOf (with_standing i TerminatedObject (record { operating = main ++ k.here ∷ k.below; standings = slice_set c.standings (head i) (NoObject None) })) j u
      main_on k cut main is =
          above_remains head c fine s k cut main standings same_head its_head (λ z. z ≡ i → ⊥) (λ z own asked on. absurd (alone_above at k cut apart z asked own on)) kept_others j u other p
        where
          s : ℕ
          s = head i

          standings : Standings
          standings = slice_set (slice_set c.standings (head i) (NoObject None)) i TerminatedObject

          at_s : slice_get c.standings (head i) ≡ Some (NoObject (Some main))
          at_s = got c.standings (head i) (NoObject (Some main)) is (λ e. cc)

          apart : head i ≡ i → ⊥
          apart = other_places head c fine (head i) i (NoObject (Some main)) ResumedObject at_s at (λ e. cc)

          at_i : slice_get (slice_set c.standings (head i) (NoObject None)) i ≡ Some ResumedObject
          at_i = set_there c.standings (head i) i (NoObject None) (λ e. apart (sym e)) ∙ at

          same_head : (z : ℕ) → (z ≡ head i → ⊥) → work_for_head (slice_get c.standings z) ≡ work_for_head (slice_get standings z)
          same_head z n = sym (head_set (slice_set c.standings (head i) (NoObject None)) i ResumedObject TerminatedObject at_i refl refl z ∙ ap work_for_head (set_there c.standings (head i) z (NoObject None) n))

          its_head : work_for_head (slice_get c.standings (head i)) ++ outer_work k.above ≡ work_for_head (slice_get standings (head i)) ++ outer_work main
          its_head =
              let root = rooted_of k.above i (fine.resumed i k (get_or_from_slice_get c.standings i ResumedObject (NoObject None) at) cut) in
              ap (λ (v : List Item). work_for_head (slice_get c.standings (head i)) ++ v) (outer_none k.above root)
              ∙ append-nil (work_for_head (slice_get c.standings (head i))) ∙ ap work_for_head at_s
              ∙ ap (λ (v : List Item). v ++ outer_work main) (sym (head_set (slice_set c.standings (head i) (NoObject None)) i ResumedObject TerminatedObject at_i refl refl (head i) ∙ ap work_for_head (set_here c.standings (head i) (NoObject None) (there_is c.standings (head i) (NoObject (Some main)) at_s))))

          kept_others : (l : ℕ) (x : Standing Activation) → slice_get c.standings l ≡ Some x → (chain_in x ≡ []) ⊎ ((chain_in x ≡ main) ⊎ IsChain (record { operating = main ++ k.here ∷ k.below; standings = standings }) (chain_in x))
          kept_others l x there = by_place (same_or_other l (head i)) (same_or_other l i)
            where
              by_place : (l ≡ head i) ⊎ (l ≡ head i → ⊥) → (l ≡ i) ⊎ (l ≡ i → ⊥) → (chain_in x ≡ []) ⊎ ((chain_in x ≡ main) ⊎ IsChain (record { operating = main ++ k.here ∷ k.below; standings = standings }) (chain_in x))
              by_place (inl same) q = let one : Some x ≡ Some (NoObject (Some main)) = sym there ∙ ap (slice_get c.standings) same ∙ at_s in let x_is : x ≡ NoObject (Some main) = cc in inr (inl (ap chain_in x_is))
              by_place (inr n) (inl same) = let one : Some x ≡ Some ResumedObject = sym there ∙ ap (slice_get c.standings) same ∙ at in let x_is : x ≡ ResumedObject = cc in inl (ap chain_in x_is)
              by_place (inr n) (inr m) = inr (inr (is_kept l x (set_there (slice_set c.standings (head i) (NoObject None)) i l TerminatedObject m ∙ set_there c.standings (head i) l (NoObject None) n ∙ there)))

      by_head : (k : Option (Cut Activation)) → cut_at owner (head i) c.operating ≡ k → (x : Standing Activation) → standing_of c (head i) ≡ x → PendingOf (with_standing i TerminatedObject (dropped owner k x (head i) c)) j u
      by_head None cut x is = stays_on
      by_head (Some k) cut (NoObject (Some main)) is = main_on k cut main is
      by_head (Some k) cut (NoObject None) is = stays_on
      by_head (Some k) cut AttachedObject is = stays_on
      by_head (Some k) cut (DetachedObject chain) is = stays_on
      by_head (Some k) cut ResumedObject is = stays_on
      by_head (Some k) cut TerminatedObject is = stays_on

  pub ended_remain : (slice_get c.standings i ≡ Some AttachedObject) ⊎ (slice_get c.standings i ≡ Some ResumedObject) → (j : ℕ) (u : List Item) → (j ≡ i → ⊥) → PendingOf c j u → PendingOf (finish owner head c i) j u
  ended_remain (inl at) j u other p = attached_remain at j u other p
  ended_remain (inr at) j u other p = resumed_remain at j u other p
