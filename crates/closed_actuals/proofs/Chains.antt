-- What each step is for the chains of instances, evaluations left out.
use Rattle.std.proofs.Common.{◌≡◌, ◌⊎◌, ℕ, zero, suc, ◌+◌, inl, inr, arith, Bool, true, false, List, [], ◌∷◌, ◌++◌, length, map, Option, Some, None, refl, sym, ap, ◌∙◌, subst}
use Rattle.std.specs.Prelude.{slice_get, if◌then◌else◌}
use Rattle.std.specs.Option.{option_map}
use Rattle.sim_chains.specs.Chains.{once_if, times_on, Cut, cut_at, is_instance, outermost, under}
use Rattle.sim_chains.specs.Components.{AttachedObject, Components, NoObject, Standing, left}
use Rattle.sim_chains.specs.WellFormed.{chain_in, over_kept, times_in, IsWellFormed, is_object}
use Rattle.sim_chains.proofs.Cuts.{cut_is}
use Rattle.sim_chains.proofs.Keeps.{directly}
use Rattle.sim_scope.specs.Source.{Source}
use Rattle.sim_code.specs.Instances.{components, system_head}
use Rattle.sim_meaning.specs.Pending.{Activation, CloseOp, EndEvaluation, Configuration, Do, Instances, Item, Op, Val, evaluates, owner}
use Rattle.sim_meaning.specs.Sane.{Sane, SaneOn, StaysSane}
use Rattle.closed_actuals.specs.Evaluations.{BeginsProgram, with_owner, began_evaluation, by_operator, evaluation_comes, ChainsAreOfInstances, Done, DoesPending, NextMoments, OnChain, Steps, StepsWithout, Transfers, ended_object, ends_object, entered_instance, entered_object, enters_instance, enters_object, inside, instances_in, itself, leaves_instance, left_instance, left_on_top, on_chain, stays, transferred_control, transfers_control, waiting, without_evaluations, IsChain, IsOn, OwnAfter, PendingAfter, PendingOf, adds_nothing, done_after, pending_after, is_kept, operates, work_for_head, work_comes}
use Rattle.sim_code.specs.Outcome.{Ended, Going, Run}
use Rattle.sim_meaning.specs.Meaning.{step}
use Rattle.closed_actuals.proofs.Does.{ChainDoes, first_enters}
use Rattle.code_finite.proofs.Lifts.{Goes}
use Rattle.closed_actuals.proofs.Steps.{step_does}
use Rattle.closed_actuals.proofs.Moving.{AllOn}
use Rattle.closed_actuals.proofs.Neat.{IsWhole, Neat, WholeActivation, operator_evaluates, own_evaluates, reached_neat}
use Rattle.closed_actuals.proofs.After.{ended_remain, mine, no_head, others_remain}
use Rattle.closed_actuals.proofs.One.{one_pending}
use Rattle.closed_actuals.proofs.Numbers.{IsGood, components_are, numbers_are, finish_same, transfers_same}
use Rattle.closed_actuals.proofs.Remaining.{IsSettled, pend, transfers_remain}
use Rattle.closed_actuals.proofs.Pending.{works_off_pending}

-- ---- standings

more_standings : (xs : List (Standing Activation)) (x : Standing Activation) → map instances_in (xs ++ x ∷ []) ≡ map instances_in xs ++ instances_in x ∷ []
more_standings [] x = refl
more_standings (y ∷ xs) x = ap (λ (zs : List (Standing ℕ)). instances_in y ∷ zs) (more_standings xs x)

more_there : (xs : List (Standing Activation)) (x : Standing Activation) (k : ℕ) (y : Standing Activation) → slice_get xs k ≡ Some y → slice_get (xs ++ x ∷ []) k ≡ Some y
more_there [] x k y is = absurd (cc)
more_there (z ∷ xs) x zero y is = is
more_there (z ∷ xs) x (suc k) y is = more_there xs x k y is

more_head : (xs : List (Standing Activation)) (x : Standing Activation) → work_for_head (Some x) ≡ [] → (j : ℕ) → work_for_head (slice_get (xs ++ x ∷ []) j) ≡ work_for_head (slice_get xs j)
more_head [] x none zero = none
more_head [] x none (suc j) = refl
more_head (z ∷ xs) x none zero = refl
more_head (z ∷ xs) x none (suc j) = more_head xs x none j

-- ---- another activation on top, of the same instance

module _ (a b : Activation) (rest : List Activation) (same : owner b ≡ owner a) where
  outermost_top : (above : List Activation) → outermost owner (b ∷ above) ≡ outermost owner (a ∷ above)
  outermost_top [] = same
  outermost_top (x ∷ above) = refl

  -- what stands above an instance
  record CutBefore (s : ℕ) (k : Cut Activation) : Type 0 where
    before : Cut Activation
    is : cut_at owner s (a ∷ rest) ≡ Some before
    above : outermost owner k.above ≡ outermost owner before.above

  cut_before : (s : ℕ) (k : Cut Activation) → cut_at owner s (b ∷ rest) ≡ Some k → CutBefore s k
  cut_before s k cut = by_test (is_instance s (owner a)) refl (cut_at owner s rest) refl
    where
      Choice : Activation → Bool → Option (Cut Activation) → Option (Cut Activation)
      Choice x is further = if is then Some (record { above = []; here = x; below = rest }) else option_map (under x) further

      by_test : (is : Bool) → is_instance s (owner a) ≡ is → (further : Option (Cut Activation)) → cut_at owner s rest ≡ further → CutBefore s k
      by_test true is further there =
          let found : Some (record { above = []; here = b; below = rest }) ≡ Some k = ap (λ (t : Bool). Choice b t (cut_at owner s rest)) (sym (ap (is_instance s) same ∙ is)) ∙ cut in
          let k_is : record { above = []; here = b; below = rest } ≡ k = cc in
          record { before = record { above = []; here = a; below = rest }; is = ap (λ (t : Bool). Choice a t (cut_at owner s rest)) is; above = ap (λ (z : Cut Activation). outermost owner z.above) (sym k_is) }
      by_test false is None there =
          let found : None ≡ Some k = ap (Choice b false) (sym there) ∙ ap (λ (t : Bool). Choice b t (cut_at owner s rest)) (sym (ap (is_instance s) same ∙ is)) ∙ cut in
          absurd (cc)
      by_test false is (Some j) there =
          let found : Some (under b j) ≡ Some k = ap (Choice b false) (sym there) ∙ ap (λ (t : Bool). Choice b t (cut_at owner s rest)) (sym (ap (is_instance s) same ∙ is)) ∙ cut in
          let k_is : under b j ≡ k = cc in
          record { before = under a j; is = ap (λ (t : Bool). Choice a t (cut_at owner s rest)) is ∙ ap (Choice a false) there; above = ap (λ (z : Cut Activation). outermost owner z.above) (sym k_is) ∙ outermost_top j.above }

-- Where the components are well formed, a resumed object stands directly above a head that keeps its main chain.
settled_top : (m : Instances) (a b : Activation) (rest : List Activation) → owner b ≡ owner a → IsWellFormed owner (system_head m) (record { operating = a ∷ rest; standings = m.standings }) → IsSettled (system_head m) (record { operating = b ∷ rest; standings = m.standings })
settled_top m a b rest same well = record {
  once = λ x. let e = well.once x in let f = counted x in omega (arith, e, f);
  made = λ x past. let e = well.made x past in let f = counted x in omega (arith, e, f);
  detached = λ x chain at. well.detached x chain at;
  direct = λ s k waits cut at.
      let before = cut_before a b rest same s k cut in
      let object = well.main s waits at in
      (object.object, object.resumed, before.above ∙ directly owner (system_head m) There s before.before object.object well (cut_is owner s (a ∷ rest) before.before before.is) object.resumed object.its_head);
  heads = λ y chain at. well.heads y (ap is_object at);
  resumed = λ z k at cut.
      let before = cut_before a b rest same (system_head m z) k cut in
      before.above ∙ directly owner (system_head m) There (system_head m z) before.before z well (cut_is owner (system_head m z) (a ∷ rest) before.before before.is) at refl;
}
  where
    There : Components Activation
    There = record { operating = a ∷ rest; standings = m.standings }

    counted : (x : ℕ) → times_in owner x (record { operating = b ∷ rest; standings = m.standings }) ≡ times_in owner x (record { operating = a ∷ rest; standings = m.standings })
    counted x = ap (λ (u : Option ℕ). (once_if (is_instance x u) + times_on owner x rest) + over_kept (times_on owner x) m.standings) same

good_of : (head : ℕ → ℕ) (c : Components Activation) → IsSettled head c → IsGood head c
good_of head c fine = record { direct = λ s k waits cut at. let d = fine.direct s k waits cut at in (d.0, d.2); heads = fine.heads }

-- ---- steps

module _ (c : Configuration) (sane : Sane c) (neat : Neat c) where
  abbrev Before : Components ℕ
  Before = without_evaluations (components c)

  well_on : (chain : List Activation) (top : Activation) (below : List Activation) → chain ≡ top ∷ below → SaneOn c.memory chain → IsWellFormed owner (system_head c.memory) (record { operating = chain; standings = c.memory.standings })
  well_on [] top below is sane = absurd (cc)
  well_on (a ∷ rest) top below is sane = sane.2

  -- when the item was taken from the activation on top
  taken_settled : (top : Activation) (work : List Item) (values : List Val) (below : List Activation) (op : Op) → c.chain ≡ top ∷ below → top.work ≡ Do op ∷ work
      → IsSettled (system_head c.memory) (record { operating = left_on_top top work values ∷ below; standings = c.memory.standings })
  taken_settled top work values below op top_is work_is =
      let whole = (subst (λ (z : List Activation). AllOn WholeActivation z) top_is neat.operating).0 in
      let same : owner (left_on_top top work values) ≡ owner top = ap (λ (t : Bool). if t then None else Some top.instance) (sym (operator_evaluates op work (subst IsWhole work_is whole)) ∙ ap evaluates (sym work_is)) in
      settled_top c.memory top (left_on_top top work values) below same (subst (λ (z : List Activation). IsWellFormed owner (system_head c.memory) (record { operating = z; standings = c.memory.standings })) top_is (well_on c.chain top below top_is sane))

  settled : (top : Activation) (below : List Activation) → c.chain ≡ top ∷ below → IsSettled (system_head c.memory) (components c)
  settled top below top_is =
      subst (λ (z : List Activation). IsSettled (system_head c.memory) (record { operating = z; standings = c.memory.standings })) (sym top_is)
      (settled_top c.memory top top below refl (subst (λ (z : List Activation). IsWellFormed owner (system_head c.memory) (record { operating = z; standings = c.memory.standings })) top_is (well_on c.chain top below top_is sane)))

  step_chains : (i : ℕ) (item : Item) (w : List Item) (others : List OnChain) → on_chain c.chain ≡ waiting i (item ∷ w) ∷ others → (d : Configuration) → Done c i w others item d
      → Steps (length c.memory.instances) (system_head c.memory) Before item (without_evaluations (components d))
  step_chains i item w others at d (inside {v = v} _ stays_in comes on stand) =
      subst (λ (z : Components ℕ). Steps (length c.memory.instances) (system_head c.memory) Before item z)
      (components_are _ _ _ _ (numbers_are c.chain _ at ∙ sym (numbers_are d.chain _ on)) (ap (map instances_in) (sym stand.standings))) (stays stays_in)
  step_chains i (Do op) w others at d (began_evaluation _ by p e wanted on stand) =
      subst (λ (z : Components ℕ). Steps (length c.memory.instances) (system_head c.memory) Before (Do op) z)
      (components_are _ _ _ _ (numbers_are c.chain _ at ∙ sym (numbers_are d.chain _ on)) (ap (map instances_in) (sym stand.standings))) (stays by_operator)
  step_chains i (Do op) w others at d (entered_instance v _ by on more) =
      subst (λ (z : Components ℕ). Steps (length c.memory.instances) (system_head c.memory) Before (Do op) z)
      (components_are _ _ _ _ (ap (λ (xs : List ℕ). length c.memory.instances ∷ xs) (numbers_are c.chain _ at) ∙ sym (numbers_are d.chain _ on)) (sym (ap (map instances_in) more.standings ∙ more_standings c.memory.standings (NoObject None)))) (enters_instance by)
  step_chains i (Do op) w others at d (entered_object v _ by on more) =
      subst (λ (z : Components ℕ). Steps (length c.memory.instances) (system_head c.memory) Before (Do op) z)
      (components_are _ _ _ _ (ap (λ (xs : List ℕ). length c.memory.instances ∷ xs) (numbers_are c.chain _ at) ∙ sym (numbers_are d.chain _ on)) (sym (ap (map instances_in) more.standings ∙ more_standings c.memory.standings AttachedObject))) (enters_object by)
  step_chains i item w others at d (left_instance _ ends none on stand) =
      subst (λ (z : Components ℕ). Steps (length c.memory.instances) (system_head c.memory) Before item z)
      (components_are _ _ _ _ (ap (λ (xs : List ℕ). (left (record { operating = xs; standings = map instances_in c.memory.standings })).operating) (numbers_are c.chain _ at) ∙ sym (numbers_are d.chain _ on)) (ap (map instances_in) (sym stand.standings))) (leaves_instance ends)
  step_chains i (Do op) w others at d (transferred_control _ top work values below top_is work_is on moved counted) =
      let b = left_on_top top work values in
      let numbers = transfers_same (system_head c.memory) (record { operating = b ∷ below; standings = c.memory.standings }) (good_of (system_head c.memory) (record { operating = b ∷ below; standings = c.memory.standings }) (taken_settled top work values below op top_is work_is)) op (components d) moved in
      transfers_control (subst (λ (xs : List ℕ). Transfers itself (system_head c.memory) (record { operating = xs; standings = map instances_in c.memory.standings }) op (without_evaluations (components d))) (numbers_are (b ∷ below) _ on ∙ sym (numbers_are c.chain _ at)) numbers)
  step_chains i item w others at d (ended_object _ stands none finished counted) =
      subst (λ (z : Components ℕ). Steps (length c.memory.instances) (system_head c.memory) Before item z)
      (finish_same (system_head c.memory) (components c) i ∙ ap without_evaluations (sym finished)) (ends_object i (numbers_are c.chain _ at))

  -- ---- what is pending

  module _ (fine : IsSettled (system_head c.memory) (components c)) (i : ℕ) (item : Item) (w : List Item) (others : List OnChain) (at : on_chain c.chain ≡ waiting i (item ∷ w) ∷ others) where
    abbrev OthersIn : Configuration → Type 0
    OthersIn d = (j : ℕ) (u : List Item) → (j ≡ i → ⊥) → PendingOf (components c) j u → PendingOf (components d) j u

    its_head : work_for_head (slice_get c.memory.standings i) ≡ []
    its_head = no_head (system_head c.memory) (components c) fine i (item ∷ w) others at

    -- the operating instance, where nothing is kept for it
    own_pending : (d : Components Activation) (v : List Item) → IsOn i v (on_chain d.operating) → work_for_head (slice_get d.standings i) ≡ work_for_head (slice_get c.memory.standings i) → PendingOf d i v
    own_pending d v on same = pend d d.operating operates i v v on (ap (λ (z : List Item). z ++ v) (sym (same ∙ its_head)))

    same_kept : (d : Components Activation) → d.standings ≡ c.memory.standings → (k : ℕ) (x : Standing Activation) → slice_get c.memory.standings k ≡ Some x → (chain_in x ≡ []) ⊎ IsChain d (chain_in x)
    same_kept d same k x there = inr (is_kept k x (ap (λ (z : List (Standing Activation)). slice_get z k) same ∙ there))

    with_same : (d : Components Activation) → d.standings ≡ c.memory.standings → ((j : ℕ) (own : List Item) → IsOn j own others → IsOn j own (on_chain d.operating)) → (j : ℕ) (u : List Item) → (j ≡ i → ⊥) → PendingOf (components c) j u → PendingOf d j u
    with_same d same there = others_remain (system_head c.memory) (components c) fine i (item ∷ w) others at d (λ j. ap (λ (z : List (Standing Activation)). work_for_head (slice_get z j)) (sym same)) (same_kept d same) there

    -- one instance more
    with_more : (d : Components Activation) (x : Standing Activation) → work_for_head (Some x) ≡ [] → d.standings ≡ c.memory.standings ++ x ∷ [] → (v : List Item) (n : ℕ) → on_chain d.operating ≡ waiting n v ∷ waiting i w ∷ others
        → (PendingOf d i w) × ((j : ℕ) (u : List Item) → (j ≡ i → ⊥) → PendingOf (components c) j u → PendingOf d j u)
    with_more d x none more v n on =
        let heads : (j : ℕ) → work_for_head (slice_get c.memory.standings j) ≡ work_for_head (slice_get d.standings j) = λ j. sym (ap (λ (z : List (Standing Activation)). work_for_head (slice_get z j)) more ∙ more_head c.memory.standings x none j) in (
          own_pending d w (subst (IsOn i w) (sym on) (inr (inl refl))) (sym (heads i)),
          others_remain (system_head c.memory) (components c) fine i (item ∷ w) others at d heads
              (λ k y there. inr (is_kept k y (ap (λ (z : List (Standing Activation)). slice_get z k) more ∙ more_there c.memory.standings x k y there)))
              (λ j own there. subst (IsOn j own) (sym on) (inr (inr there))),
        )

    done_pending : (done : Item) (d : Configuration) → Done c i w others done d → (OwnAfter d i w) × OthersIn d
    done_pending done d (inside {v = v} _ stays_in comes on stand) = (
      pending_after v (work_comes comes) (own_pending (components d) v (subst (IsOn i v) (sym on) (inl refl)) (ap (λ (z : List (Standing Activation)). work_for_head (slice_get z i)) stand.standings)),
      with_same (components d) stand.standings (λ j own there. subst (IsOn j own) (sym on) (inr there)),
    )
    done_pending (Do op) d (began_evaluation _ by p e wanted on stand) =
        let v = Do (CloseOp p e) ∷ EndEvaluation wanted ∷ w in (
          pending_after v (evaluation_comes p e wanted) (own_pending (components d) v (subst (IsOn i v) (sym on) (inl refl)) (ap (λ (z : List (Standing Activation)). work_for_head (slice_get z i)) stand.standings)),
          with_same (components d) stand.standings (λ j own there. subst (IsOn j own) (sym on) (inr there)),
        )
    done_pending (Do op) d (entered_instance v _ by on more) = let both = with_more (components d) (NoObject None) refl more.standings v (length c.memory.instances) on in (pending_after w (work_comes adds_nothing) both.0, both.1)
    done_pending (Do op) d (entered_object v _ by on more) = let both = with_more (components d) AttachedObject refl more.standings v (length c.memory.instances) on in (pending_after w (work_comes adds_nothing) both.0, both.1)
    done_pending done d (left_instance _ ends none on stand) = (done_after none, with_same (components d) stand.standings (λ j own there. subst (IsOn j own) (sym on) there))
    done_pending (Do op) d (transferred_control _ top work values below top_is work_is on moved counted) =
        let taken : Components Activation = record { operating = left_on_top top work values ∷ below; standings = c.memory.standings } in
        let remain = transfers_remain (system_head c.memory) taken (taken_settled top work values below op top_is work_is) op (components d) moved in (
          pending_after w (work_comes adds_nothing) (remain i w (own_pending taken w (subst (IsOn i w) (sym on) (inl refl)) refl)),
          λ j u other p. remain j u (with_same taken refl (λ k own there. subst (IsOn k own) (sym on) (inr there)) j u other p),
        )
    done_pending done d (ended_object _ stands none finished counted) =
        (done_after none, λ j u other p. subst (λ (z : Components Activation). PendingOf z j u) (sym finished) (ended_remain (system_head c.memory) (components c) fine i (item ∷ w) others at stands j u other p))

  some_top : (c.chain ≡ [] → ⊥) → (top : Activation) × (below : List Activation) × (c.chain ≡ top ∷ below)
  some_top some = by_chain c.chain refl
    where
      by_chain : (l : List Activation) → c.chain ≡ l → (top : Activation) × (below : List Activation) × (c.chain ≡ top ∷ below)
      by_chain [] is = absurd (some is)
      by_chain (top ∷ below) is = (top, below, is)

  pending_then : (c.chain ≡ [] → ⊥) → (d : Configuration) (p : DoesPending c d) → PendingAfter c d p.instance p.item p.behind
  pending_then some d p =
      let top = some_top some in
      let fine = settled top.0 top.1 top.2 in
      let both = done_pending fine p.instance p.item p.behind p.others p.operates p.item d p.done in
      record { one = λ j u v x y. one_pending (system_head c.memory) (components c) fine j u v x y; before = mine (system_head c.memory) (components c) fine p.instance (p.item ∷ p.behind) p.others p.operates; own = both.0; others = both.1 }

step_without : (s : Source) → StaysSane s → (t : NextMoments s) → ((t.now).chain ≡ [] → ⊥) → StepsWithout t.now t.next
step_without s sane t some =
    let does = (works_off_pending s).each t some in
    let neat = reached_neat s t.limits t.input t.steps t.world t.now t.reaches in
    let stays = sane t.limits t.input t.steps t.world t.now t.reaches in
    record {
      does = does;
      pending = pending_then t.now stays neat some t.next does;
      chains = step_chains t.now stays neat does.instance does.item does.behind does.others does.operates t.next does.done;
    }

first_begins : (m : Instances) (chain : List Activation) (d : Configuration) → chain ≡ [] → ChainDoes m chain d → BeginsProgram (record { chain = chain; memory = m }) d
first_begins m (a ∷ rest) d is does = absurd (cc)
first_begins m [] d is (first_enters x {v = v} alone empty own) = record {
  none = no_element m.instances empty;
  chains = components_are _ _ _ _
      (ap (λ (b : Bool). with_owner (if b then None else Some (length m.instances)) []) (own_evaluates own) ∙ ap (λ (n : ℕ). n ∷ []) empty)
      (more_standings m.standings (NoObject None));
}
  where
    no_element : {A : Type 0} (xs : List A) → length xs ≡ 0 → xs ≡ []
    no_element [] e = refl
    no_element (y ∷ xs) e = absurd (omega (arith, e))

first_step : (s : Source) (t : NextMoments s) → (t.now).chain ≡ [] → BeginsProgram t.now t.next
first_step s t is = from_run (step s t.limits t.world t.now) (step_does s t.limits t.world t.now) t.goes_on
  where
    from_run : (r : Run Configuration) → Goes (λ _. ChainDoes (t.now).memory (t.now).chain) r → r ≡ Going t.next_world t.next → BeginsProgram t.now t.next
    from_run (Going p d) does e = let same : d ≡ t.next = cc in subst (BeginsProgram t.now) same (first_begins (t.now).memory (t.now).chain d is does)
    from_run (Ended p q) does e = absurd (cc)

pub chains_are_of_instances : (s : Source) → StaysSane s → ChainsAreOfInstances s
chains_are_of_instances s sane = record { first = first_step s; each = step_without s sane }
