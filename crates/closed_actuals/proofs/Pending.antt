-- Each step does the first item of what is pending in the instance that operates, evaluations left out.
use Rattle.std.proofs.Common.{◌≡◌, ℕ, ◌+◌, Bool, true, false, List, [], ◌∷◌, ◌++◌, length, Option, Some, None, inl, inr, refl, sym, ap, ◌∙◌, subst, arith}
use Rattle.std.proofs.lemmas.Bool.{eqb-true}
use Rattle.std.proofs.lemmas.List.{append-nil}
use Rattle.std.proofs.lemmas.Option.{get_or_from_slice_get}
use Rattle.std.specs.Prelude.{if◌then◌else◌, slice_get, slice_index_or, slice_set}
use Rattle.std.specs.Option.{option_map}
use Rattle.sim_chains.specs.Chains.{Cut, cut_at, is_instance, under}
use Rattle.sim_chains.specs.Components.{AttachedObject, Components, NoObject, ResumedObject, Standing, TerminatedObject, dropped, finish, finish_by, returned, with_standing}
use Rattle.sim_chains.proofs.Cuts.{is_itself}
use Rattle.sim_scope.specs.Source.{Source}
use Rattle.sim_code.specs.Instances.{components, system_head}
use Rattle.sim_code.specs.Outcome.{Ended, Going, Run}
use Rattle.sim_meaning.specs.Meaning.{step}
use Rattle.sim_meaning.specs.Pending.{Activation, CloseOp, Configuration, Do, EndEvaluation, EndLevel, EndObject, Instances, Item, Op, evaluates, owner}
use Rattle.closed_actuals.specs.Evaluations.{Adds, Done, DoesPending, EndsInstance, NextMoments, OnChain, StandAsBefore, WorksOffPending, adds_level, adds_nothing, adds_operator, began_evaluation, behind_evaluation, behind_level, by_operator, ended_object, entered_instance, entered_object, in_front, inside, left_instance, of_block, of_prefixed, of_procedure, on_chain, transferred_control, waiting}
use Rattle.closed_actuals.proofs.Does.{ChainDoes, Does, ItemDoes, WorkDoes, act, attached_ends, begins, enters, generates, gives, is_last, leaves, level_ends, operator_does, resumed_ends, transfers, works}
use Rattle.code_finite.proofs.Lifts.{Goes}
use Rattle.closed_actuals.proofs.Moving.{AllIn, Rooted}
use Rattle.closed_actuals.proofs.Neat.{IsWhole, WholeActivation, adds_evaluates, level_evaluates, nothing_behind, operator_evaluates, own_evaluates, reached_neat, whole_behind}
use Rattle.closed_actuals.proofs.Steps.{step_does}

-- ---- what is behind work

adds_behind : {w v : List Item} (u : List Item) → Adds w v → Adds (w ++ u) (v ++ u)
adds_behind u adds_nothing = adds_nothing
adds_behind u (adds_operator a) = adds_operator (adds_behind u a)
adds_behind u (adds_level a) = adds_level (adds_behind u a)

-- ---- the first instance of a chain

pub record FirstOn (chain : List Activation) : Type 0 where
  pub instance : ℕ
  pub work : List Item
  pub others : List OnChain
  pub first : on_chain chain ≡ waiting instance work ∷ others

pub own_on : (a : Activation) (rest : List Activation) → evaluates a.work ≡ false → on_chain (a ∷ rest) ≡ waiting a.instance a.work ∷ on_chain rest
own_on a rest is = ap (λ (b : Bool). if b then in_front a.work (on_chain rest) else waiting a.instance a.work ∷ on_chain rest) is

pub evaluation_on : (a : Activation) (rest : List Activation) → evaluates a.work ≡ true → on_chain (a ∷ rest) ≡ in_front a.work (on_chain rest)
evaluation_on a rest is = ap (λ (b : Bool). if b then in_front a.work (on_chain rest) else waiting a.instance a.work ∷ on_chain rest) is

-- the activation on top belongs to an instance, whatever its work is, as long as it is an evaluation or not
record Belongs (i : ℕ) (rest : List Activation) (is : Bool) : Type 0 where
  instance : ℕ
  below : List Item
  others : List OnChain
  on : (a : Activation) → a.instance ≡ i → evaluates a.work ≡ is → on_chain (a ∷ rest) ≡ waiting instance (a.work ++ below) ∷ others
  own : is ≡ false → (instance ≡ i) × (below ≡ []) × (others ≡ on_chain rest)
  evaluation : is ≡ true → on_chain rest ≡ waiting instance below ∷ others

own_belongs : (i : ℕ) (rest : List Activation) → Belongs i rest false
own_belongs i rest = record {
  instance = i;
  below = [];
  others = on_chain rest;
  on = λ a same is. own_on a rest is ∙ ap (λ (j : ℕ). waiting j a.work ∷ on_chain rest) same ∙ ap (λ (w : List Item). waiting i w ∷ on_chain rest) (sym (append-nil a.work));
  own = λ e. (refl, refl, refl);
  evaluation = λ e. absurd (cc);
}

evaluation_belongs : (i : ℕ) (rest : List Activation) → FirstOn rest → Belongs i rest true
evaluation_belongs i rest f = record {
  instance = f.instance;
  below = f.work;
  others = f.others;
  on = λ a same is. evaluation_on a rest is ∙ ap (in_front a.work) f.first;
  own = λ e. absurd (cc);
  evaluation = λ e. f.first;
}

pub first_on : (a : Activation) (rest : List Activation) → Rooted (a ∷ rest) → FirstOn (a ∷ rest)
first_on a [] root = record { instance = a.instance; work = a.work; others = []; first = own_on a [] root }
first_on a (b ∷ rest) root = by_flag (evaluates a.work) refl (first_on b rest root)
  where
    by_flag : (is : Bool) → evaluates a.work ≡ is → FirstOn (b ∷ rest) → FirstOn (a ∷ b ∷ rest)
    by_flag false is f = record { instance = a.instance; work = a.work; others = on_chain (b ∷ rest); first = own_on a (b ∷ rest) is }
    by_flag true is f = record { instance = f.instance; work = a.work ++ f.work; others = f.others; first = evaluation_on a (b ∷ rest) is ∙ ap (in_front a.work) f.first }

belongs : (a : Activation) (rest : List Activation) → Rooted (a ∷ rest) → (is : Bool) → evaluates a.work ≡ is → Belongs a.instance rest is
belongs a rest root false is = own_belongs a.instance rest
belongs a [] root true is = absurd (cc)
belongs a (b ∷ rest) root true is = evaluation_belongs a.instance (b ∷ rest) (first_on b rest root)

-- ---- the end of an object among the components

module _ (top : Activation) (below : List Activation) (m : Instances) (j : ℕ) (is : owner top ≡ Some j) where
  abbrev There : Components Activation
  There = record { operating = top ∷ below; standings = m.standings }

  abbrev At : ℕ → Bool → Option (Cut Activation)
  At x here = if here then Some (record { above = []; here = top; below = below }) else option_map (under top) (cut_at owner x below)

  top_cut : cut_at owner j (top ∷ below) ≡ Some (record { above = []; here = top; below = below })
  top_cut = ap (At j) (ap (is_instance j) is ∙ is_itself j)

  other_cut : (s : ℕ) (k : Cut Activation) → (s ≡ j → ⊥) → cut_at owner s below ≡ Some k → cut_at owner s (top ∷ below) ≡ Some (under top k)
  other_cut s k other cut = ap (At s) (ap (is_instance s) is ∙ by_test (is_instance s (Some j)) refl) ∙ ap (option_map (under top)) cut
    where
      by_test : (b : Bool) → is_instance s (Some j) ≡ b → is_instance s (Some j) ≡ false
      by_test true same = absurd (other (sym (eqb-true j s same)))
      by_test false differ = differ

  attached_finish : slice_get m.standings j ≡ Some AttachedObject → record { operating = below; standings = slice_set m.standings j TerminatedObject } ≡ finish owner (system_head m) There j
  attached_finish at =
      sym (ap (λ (x : Standing Activation). finish_by owner x There (system_head m j) j) (get_or_from_slice_get m.standings j AttachedObject (NoObject None) at)
      ∙ ap (λ (k : Option (Cut Activation)). with_standing j TerminatedObject (returned owner k There)) top_cut)

  resumed_finish : (main : List Activation) (k : Cut Activation) → slice_get m.standings j ≡ Some ResumedObject → slice_get m.standings (system_head m j) ≡ Some (NoObject (Some main)) → cut_at owner (system_head m j) below ≡ Some k
      → record { operating = main ++ k.here ∷ k.below; standings = slice_set (slice_set m.standings (system_head m j) (NoObject None)) j TerminatedObject } ≡ finish owner (system_head m) There j
  resumed_finish main k at kept cut =
      let s = system_head m j in
      let other : s ≡ j → ⊥ = λ e. (let same : slice_get m.standings s ≡ slice_get m.standings j = ap (slice_get m.standings) e in cc) in
      sym (ap (λ (x : Standing Activation). finish_by owner x There s j) (get_or_from_slice_get m.standings j ResumedObject (NoObject None) at)
      ∙ ap (λ (z : Option (Cut Activation)). with_standing j TerminatedObject (dropped owner z (slice_index_or m.standings s (NoObject None)) s There)) (other_cut s k other cut)
      ∙ ap (λ (z : Standing Activation). with_standing j TerminatedObject (dropped owner (Some (under top k)) z s There)) (get_or_from_slice_get m.standings s (NoObject (Some main)) (NoObject None) kept))

-- ---- steps

same_standing : (c : Configuration) (d : Configuration) → d.memory ≡ c.memory → StandAsBefore c d
same_standing c d same = record { counted = ap (λ (m : Instances). length m.instances) same; standings = ap (λ (m : Instances). m.standings) same }

longer : {A : Type 0} (xs : List A) (x : A) → length (xs ++ x ∷ []) ≡ length xs + 1
longer [] x = refl
longer (y ∷ xs) x = let e = longer xs x in omega (arith, e)

module _ (m : Instances) (a : Activation) (rest : List Activation) where
  abbrev Now : Configuration
  Now = record { chain = a ∷ rest; memory = m }

  module _ (w : List Item) (whole : IsWhole w) (is : Bool) (b : Belongs a.instance rest is) (its : evaluates w ≡ is) where
    done_operator : (op : Op) → a.work ≡ Do op ∷ w → (d : Configuration) → Does op m a.instance w rest d → Done Now b.instance (w ++ b.below) b.others (Do op) d
    done_operator op work d (works {v = v} {vals = vals} alike more) =
        inside d by_operator (adds_behind b.below more) (b.on (act a.instance v vals) refl (adds_evaluates more whole ∙ its)) (record { counted = alike.counted; standings = alike.standings })
    done_operator op work d (begins by home p e wanted {vals = vals}) =
        began_evaluation d by p e wanted (ap (in_front (Do (CloseOp p e) ∷ EndEvaluation wanted ∷ [])) (b.on (act a.instance w vals) refl its)) (record { counted = refl; standings = refl })
    done_operator op work d (enters by n x {v = v} {vals = vals} from alike own) =
        entered_instance v d by
        (own_on (act (length n.instances) v []) (act a.instance w vals ∷ rest) (own_evaluates own)
        ∙ ap (λ (z : List OnChain). waiting (length n.instances) v ∷ z) (b.on (act a.instance w vals) refl its)
        ∙ ap (λ (z : ℕ). waiting z v ∷ waiting b.instance (w ++ b.below) ∷ b.others) alike.counted)
        (record { counted = longer n.instances x ∙ ap (λ (z : ℕ). z + 1) alike.counted; standings = ap (λ (z : List (Standing Activation)). z ++ NoObject None ∷ []) alike.standings })
    done_operator op work d (generates by x {v = v} {vals = vals} from own) =
        entered_object v d by
        (own_on (act (length m.instances) v []) (act a.instance w vals ∷ rest) (own_evaluates own) ∙ ap (λ (z : List OnChain). waiting (length m.instances) v ∷ z) (b.on (act a.instance w vals) refl its))
        (record { counted = longer m.instances x; standings = refl })
    done_operator op work d (transfers {vals = vals} moved) = transferred_control d a w vals rest refl work (b.on (act a.instance w vals) refl its) moved refl

  ends_last : (end : Item) → EndsInstance end → (is_last end ≡ true) × (evaluates (end ∷ []) ≡ false)
  ends_last end of_block = (refl, refl)
  ends_last end of_procedure = (refl, refl)
  ends_last end of_prefixed = (refl, refl)

  module _ (is : Bool) (b : Belongs a.instance rest is) where
    done_item : (x : Item) (w : List Item) → IsWhole (x ∷ w) → evaluates (x ∷ w) ≡ is → a.work ≡ x ∷ w → (d : Configuration) → ItemDoes m a.instance w rest x d → Done Now b.instance (w ++ b.below) b.others x d
    done_item (Do op) w whole its work d (operator_does does) = done_operator w (whole_behind whole) is b (sym (operator_evaluates op w whole) ∙ its) op work d does
    done_item (EndLevel text) w whole its work d (level_ends {vals = vals}) =
        inside d behind_level adds_nothing (b.on (act a.instance w vals) refl (sym (level_evaluates text w whole) ∙ its)) (record { counted = refl; standings = refl })
    done_item x w whole its work d (leaves {vals = vals} below under ends alike there) =
        let last = ends_last x ends in
        let none = nothing_behind last.0 whole in
        let own = b.own (sym its ∙ ap (λ (z : List Item). evaluates (x ∷ z)) none ∙ last.1) in
        left_instance d ends (ap (λ (z : List Item). z ++ b.below) none ∙ own.1) (ap on_chain (sym there) ∙ sym own.2) (record { counted = alike.counted; standings = alike.standings })
    done_item (EndEvaluation wanted) w whole its work d (gives {vals = vals} below under there) =
        let none = nothing_behind refl whole in
        let evaluation = b.evaluation (sym its ∙ ap (λ (z : List Item). evaluates (EndEvaluation wanted ∷ z)) none) in
        inside d behind_evaluation adds_nothing (ap on_chain (sym there) ∙ evaluation ∙ ap (λ (z : List Item). waiting b.instance (z ++ b.below) ∷ b.others) (sym none)) (record { counted = refl; standings = refl })
    done_item EndObject w whole its work d (attached_ends at) =
        let none = nothing_behind refl whole in
        let alone = ap (λ (z : List Item). evaluates (EndObject ∷ z)) none in
        let own = b.own (sym its ∙ alone) in
        let mine : owner a ≡ Some a.instance = ap (λ (z : Bool). if z then None else Some a.instance) (ap evaluates work ∙ alone) in
        ended_object d (inl (ap (slice_get m.standings) own.0 ∙ at)) (ap (λ (z : List Item). z ++ b.below) none ∙ own.1) (attached_finish a rest m a.instance mine at ∙ ap (finish owner (system_head m) (components Now)) (sym own.0)) refl
    done_item EndObject w whole its work d (resumed_ends k main at cut kept) =
        let none = nothing_behind refl whole in
        let alone = ap (λ (z : List Item). evaluates (EndObject ∷ z)) none in
        let own = b.own (sym its ∙ alone) in
        let mine : owner a ≡ Some a.instance = ap (λ (z : Bool). if z then None else Some a.instance) (ap evaluates work ∙ alone) in
        ended_object d (inr (ap (slice_get m.standings) own.0 ∙ at)) (ap (λ (z : List Item). z ++ b.below) none ∙ own.1) (resumed_finish a rest m a.instance mine main k at kept cut ∙ ap (finish owner (system_head m) (components Now)) (sym own.0)) refl

-- what is done of a configuration with an activation on top
chain_pending : (m : Instances) (chain : List Activation) (d : Configuration) → AllIn WholeActivation (record { operating = chain; standings = m.standings }) → (chain ≡ [] → ⊥) → ChainDoes m chain d → DoesPending (record { chain = chain; memory = m }) d
chain_pending m [] d neat some does = absurd (some refl)
chain_pending m (a ∷ rest) d neat some does = by_work a.work refl does
  where
    by_work : (w : List Item) → a.work ≡ w → WorkDoes m a.instance rest w d → DoesPending (record { chain = a ∷ rest; memory = m }) d
    by_work [] work does = absurd does
    by_work (x ∷ w) work does =
        let b = belongs a rest neat.rooted (evaluates (x ∷ w)) (ap evaluates work) in
        record {
          instance = b.instance;
          item = x;
          behind = w ++ b.below;
          others = b.others;
          operates = b.on a refl (ap evaluates work) ∙ ap (λ (z : List Item). waiting b.instance (z ++ b.below) ∷ b.others) work;
          done = done_item m a rest (evaluates (x ∷ w)) b x w (subst IsWhole work (neat.operating).0) refl work d does;
        }

step_pending : (s : Source) (t : NextMoments s) → ((t.now).chain ≡ [] → ⊥) → DoesPending t.now t.next
step_pending s t some = from_run (step s t.limits t.world t.now) (step_does s t.limits t.world t.now) t.goes_on
  where
    from_run : (r : Run Configuration) → Goes (λ _. ChainDoes (t.now).memory (t.now).chain) r → r ≡ Going t.next_world t.next → DoesPending t.now t.next
    from_run (Going p d) does is =
        let same : d ≡ t.next = cc in
        subst (DoesPending t.now) same (chain_pending (t.now).memory (t.now).chain d (reached_neat s t.limits t.input t.steps t.world t.now t.reaches) some does)
    from_run (Ended p e) does is = absurd (cc)

pub works_off_pending : (s : Source) → WorksOffPending s
works_off_pending s = record { each = step_pending s }
