-- At each moment of a run the work of each activation ends with an end, and with no other one but those of levels; and an evaluation has an
-- instance below it on the operating chain.
use Rattle.std.proofs.Common.{◌≡◌, ℕ, zero, suc, true, false, List, [], ◌∷◌, Some, None, refl, sym, ap, ◌∙◌, subst}
use Rattle.std.specs.Prelude.{slice_set}
use Rattle.std.proofs.lemmas.Option.{get_or_from_slice_get}
use Rattle.sim_base.specs.declared.limits.Limits.{Limits}
use Rattle.sim_chains.specs.Components.{AttachedObject, NoObject, Standing, TerminatedObject}
use Rattle.sim_chains.specs.WellFormed.{chain_in}
use Rattle.sim_scope.specs.Source.{Source}
use Rattle.sim_code.specs.Instances.{components, system_head}
use Rattle.sim_code.specs.Outcome.{Ended, Ending, Going, Run, World, after}
use Rattle.sim_meaning.specs.Meaning.{run, step}
use Rattle.sim_meaning.specs.Pending.{Activation, Configuration, Do, EndLevel, Instances, Item, Op, evaluates}
use Rattle.closed_actuals.specs.Evaluations.{Adds, adds_level, adds_nothing, adds_operator}
use Rattle.closed_actuals.proofs.Does.{ChainDoes, Does, IsOwn, ItemDoes, WorkDoes, act, attached_ends, begins, enters, first_enters, generates, gives, is_last, leaves, level_ends, operator_does, own_end, own_level, own_operator, resumed_ends, transfers, works}
use Rattle.code_finite.proofs.Lifts.{Goes}
use Rattle.closed_actuals.proofs.Moving.{AllIn, AllKept, AllOn, Rooted, all_joined, kept_at, kept_more, kept_set, parts, rooted_behind, rooted_under, transfers_all}
use Rattle.closed_actuals.proofs.Steps.{step_does}

-- ---- work

pub data IsWhole : List Item → Type 0 where
  whole_end : {end : Item} → is_last end ≡ true → IsWhole (end ∷ [])
  whole_operator : {op : Op} {w : List Item} → IsWhole w → IsWhole (Do op ∷ w)
  whole_level : {text : ℕ} {w : List Item} → IsWhole w → IsWhole (EndLevel text ∷ w)

pub own_whole : {w : List Item} → IsOwn w → IsWhole w
own_whole (own_end is last) = whole_end last
own_whole (own_operator own) = whole_operator (own_whole own)
own_whole (own_level own) = whole_level (own_whole own)

pub whole_adds : {w v : List Item} → Adds w v → IsWhole w → IsWhole v
whole_adds adds_nothing whole = whole
whole_adds (adds_operator a) whole = whole_operator (whole_adds a whole)
whole_adds (adds_level a) whole = whole_level (whole_adds a whole)

pub whole_behind : {op : Op} {w : List Item} → IsWhole (Do op ∷ w) → IsWhole w
whole_behind (whole_operator whole) = whole
whole_behind (whole_end last) = absurd (cc)

pub level_behind : {text : ℕ} {w : List Item} → IsWhole (EndLevel text ∷ w) → IsWhole w
level_behind (whole_level whole) = whole
level_behind (whole_end last) = absurd (cc)

-- nothing is behind an end
pub nothing_behind : {end : Item} {w : List Item} → is_last end ≡ true → IsWhole (end ∷ w) → w ≡ []
nothing_behind last (whole_end is) = refl
nothing_behind last (whole_operator whole) = absurd (cc)
nothing_behind last (whole_level whole) = absurd (cc)

-- ---- whose work it is

over_whole : (x : Item) (w : List Item) → IsWhole w → evaluates (x ∷ w) ≡ evaluates w
over_whole x w (whole_end last) = refl
over_whole x w (whole_operator whole) = refl
over_whole x w (whole_level whole) = refl

pub operator_evaluates : (op : Op) (w : List Item) → IsWhole (Do op ∷ w) → evaluates (Do op ∷ w) ≡ evaluates w
operator_evaluates op w whole = over_whole (Do op) w (whole_behind whole)

pub level_evaluates : (text : ℕ) (w : List Item) → IsWhole (EndLevel text ∷ w) → evaluates (EndLevel text ∷ w) ≡ evaluates w
level_evaluates text w whole = over_whole (EndLevel text) w (level_behind whole)

pub adds_evaluates : {w v : List Item} → Adds w v → IsWhole w → evaluates v ≡ evaluates w
adds_evaluates adds_nothing whole = refl
adds_evaluates (adds_operator {op = op} {v = v} a) whole = over_whole (Do op) v (whole_adds a whole) ∙ adds_evaluates a whole
adds_evaluates (adds_level {text = text} {v = v} a) whole = over_whole (EndLevel text) v (whole_adds a whole) ∙ adds_evaluates a whole

pub own_evaluates : {w : List Item} → IsOwn w → evaluates w ≡ false
own_evaluates (own_end is last) = is
own_evaluates (own_operator {op = op} {w = w} own) = over_whole (Do op) w (own_whole own) ∙ own_evaluates own
own_evaluates (own_level {text = text} {w = w} own) = over_whole (EndLevel text) w (own_whole own) ∙ own_evaluates own

-- ---- chains

abbrev pub WholeActivation : Activation → Type 0
WholeActivation a = IsWhole a.work

abbrev pub Neat : Configuration → Type 0
Neat c = AllIn WholeActivation (components c)

-- another activation on top, which evaluates or not as before
pub rooted_top : (a b : Activation) (rest : List Activation) → evaluates b.work ≡ evaluates a.work → Rooted (a ∷ rest) → Rooted (b ∷ rest)
rooted_top a b [] same root = same ∙ root
rooted_top a b (x ∷ rest) same root = root

rooted_below : (a : Activation) (rest : List Activation) → Rooted (a ∷ rest) → Rooted rest
rooted_below a rest root = rooted_behind (a ∷ []) rest root

module _ (m : Instances) (i : ℕ) (rest : List Activation) (kept : AllKept WholeActivation m.standings) (below : AllOn WholeActivation rest) where
  -- with the work that is left on top
  module _ (w : List Item) (whole : IsWhole w) (root : (a : Activation) → evaluates a.work ≡ evaluates w → Rooted (a ∷ rest)) where
    does_neat : (op : Op) (d : Configuration) → Does op m i w rest d → Neat d
    does_neat op d (works {v = v} {vals = vals} alike a) = record { operating = (whole_adds a whole, below); kept = subst (AllKept WholeActivation) (sym alike.standings) kept; rooted = root (act i v vals) (adds_evaluates a whole) }
    does_neat op d (begins by home p e wanted {vals = vals}) = record { operating = (whole_operator (whole_end refl), (whole, below)); kept = kept; rooted = root (act i w vals) refl }
    does_neat op d (enters by n x {vals = vals} from alike own) =
        record { operating = (own_whole own, (whole, below)); kept = kept_more WholeActivation n.standings (NoObject None) (subst (AllKept WholeActivation) (sym alike.standings) kept) tt; rooted = root (act i w vals) refl }
    does_neat op d (generates by x {vals = vals} from own) = record { operating = (own_whole own, (whole, below)); kept = kept_more WholeActivation m.standings AttachedObject kept tt; rooted = root (act i w vals) refl }
    does_neat op d (transfers {vals = vals} {operating = operating} {standings = standings} moved) =
        transfers_all WholeActivation op (system_head m) (record { operating = act i w vals ∷ rest; standings = m.standings }) (record { operating = operating; standings = standings }) (act i w vals) rest refl (record { operating = (whole, below); kept = kept; rooted = root (act i w vals) refl }) moved

  item_neat : (x : Item) (w : List Item) → IsWhole (x ∷ w) → ((a : Activation) → evaluates a.work ≡ evaluates (x ∷ w) → Rooted (a ∷ rest)) → (d : Configuration) → ItemDoes m i w rest x d → Neat d
  item_neat x w whole root d (operator_does {op = op} a) = does_neat w (whole_behind whole) (λ b same. root b (same ∙ sym (operator_evaluates op w whole))) op d a
  item_neat x w whole root d (level_ends {text = text} {vals = vals}) = record { operating = (level_behind whole, below); kept = kept; rooted = root (act i w vals) (sym (level_evaluates text w whole)) }
  item_neat x w whole root d (leaves {vals = vals} a under ends alike is) =
      let parts : AllOn WholeActivation (a ∷ under) = subst (AllOn WholeActivation) is below in
      record { operating = (parts.0, parts.1); kept = subst (AllKept WholeActivation) (sym alike.standings) kept; rooted = rooted_top a (act a.instance a.work vals) under refl (subst Rooted is (rooted_below (act i (x ∷ w) []) rest (root (act i (x ∷ w) []) refl))) }
  item_neat x w whole root d (gives {vals = vals} a under is) =
      let parts : AllOn WholeActivation (a ∷ under) = subst (AllOn WholeActivation) is below in
      record { operating = (parts.0, parts.1); kept = kept; rooted = rooted_top a (act a.instance a.work vals) under refl (subst Rooted is (rooted_below (act i (x ∷ w) []) rest (root (act i (x ∷ w) []) refl))) }
  item_neat x w whole root d (attached_ends is) = record { operating = below; kept = kept_set WholeActivation m.standings i TerminatedObject kept tt; rooted = rooted_below (act i (x ∷ w) []) rest (root (act i (x ∷ w) []) refl) }
  item_neat x w whole root d (resumed_ends k main is cut at) =
      let p = parts WholeActivation (system_head m i) rest k cut below (rooted_below (act i (x ∷ w) []) rest (root (act i (x ∷ w) []) refl)) in
      let before : AllOn WholeActivation main = subst (λ (z : Standing Activation). AllOn WholeActivation (chain_in z)) (get_or_from_slice_get m.standings (system_head m i) (NoObject (Some main)) (NoObject None) at) (kept_at WholeActivation m.standings (system_head m i) kept) in
      record {
        operating = all_joined WholeActivation main (k.here ∷ k.below) before (p.here, p.below);
        kept = kept_set WholeActivation (slice_set m.standings (system_head m i) (NoObject None)) i TerminatedObject (kept_set WholeActivation m.standings (system_head m i) (NoObject None) kept tt) tt;
        rooted = rooted_under main k.here k.below p.rooted;
      }

chain_neat : (m : Instances) (chain : List Activation) (d : Configuration) → AllIn WholeActivation (record { operating = chain; standings = m.standings }) → ChainDoes m chain d → Neat d
chain_neat m [] d neat (first_enters x alone empty own) = record { operating = (own_whole own, tt); kept = kept_more WholeActivation m.standings (NoObject None) neat.kept tt; rooted = own_evaluates own }
chain_neat m (a ∷ rest) d neat does = by_work a.work refl does
  where
    by_work : (w : List Item) → a.work ≡ w → WorkDoes m a.instance rest w d → Neat d
    by_work [] is does = absurd does
    by_work (x ∷ w) is does =
        item_neat m a.instance rest neat.kept (neat.operating).1 x w (subst IsWhole is (neat.operating).0) (λ b same. rooted_top a b rest (same ∙ ap evaluates (sym is)) neat.rooted) d does

-- ---- runs

module _ (s : Source) (l : Limits) where
  step_neat : (o p : World) (c d : Configuration) → Neat c → step s l o c ≡ Going p d → Neat d
  step_neat o p c d neat is = from_run (step s l o c) (step_does s l o c) is
    where
      from_run : (r : Run Configuration) → Goes (λ _. ChainDoes c.memory c.chain) r → r ≡ Going p d → Neat d
      from_run (Going q b) does is = let same : b ≡ d = cc in subst Neat same (chain_neat c.memory c.chain b neat does)
      from_run (Ended q e) does is = absurd (cc)

  ended_still : (k : ℕ) (o p : World) (e : Ending) (d : Configuration) → after (step s l) k (Ended o e) ≡ Going p d → ⊥
  ended_still zero o p e d is = cc
  ended_still (suc k) o p e d is = ended_still k o p e d is

  stays_neat : (k : ℕ) (o p : World) (c d : Configuration) → Neat c → after (step s l) k (Going o c) ≡ Going p d → Neat d
  stays_neat zero o p c d neat is = let same : c ≡ d = cc in subst Neat same neat
  stays_neat (suc k) o p c d neat is = by_step (step s l o c) refl is (λ q b n. stays_neat k q p b d n)
    where
      by_step : (r : Run Configuration) → step s l o c ≡ r → after (step s l) k r ≡ Going p d → ((q : World) (b : Configuration) → Neat b → after (step s l) k (Going q b) ≡ Going p d → Neat d) → Neat d
      by_step (Going q b) first is further = further q b (step_neat o q c b neat first) is
      by_step (Ended q e) first is further = absurd (ended_still k q p e d is)

  pub reached_neat : (input : List ℕ) (n : ℕ) (o : World) (c : Configuration) → run s l input n ≡ Going o c → Neat c
  reached_neat input n o c is = stays_neat n _ o _ c (record { operating = tt; kept = tt; rooted = tt }) is
