-- What a step does to the instances and to the chains.
use Rattle.std.proofs.Common.{◌≡◌, ◌⊎◌, ℕ, zero, suc, Bool, true, false, List, [], ◌∷◌, ◌++◌, length, Option, Some, None, refl, ap, ◌∙◌, subst}
use Rattle.std.specs.Prelude.{⊤, if◌then◌else◌, slice_get, slice_set}
use Rattle.sim_tree.specs.Syntax.{Expression}
use Rattle.sim_chains.specs.Chains.{Cut, cut_at}
use Rattle.sim_chains.specs.Components.{AttachedObject, NoObject, ResumedObject, Standing, TerminatedObject}
use Rattle.sim_code.specs.Instances.{Instance, cells_of, cells_put, entered, given, given_in, is_live, kept_at, kept_further, kept_on, live, system_head, unless_given, with_instance}
use Rattle.closed_actuals.specs.Evaluations.{Adds, BeginsEvaluation, EndsInstance, Enters, Generates, Transfers}
use Rattle.sim_meaning.specs.Pending.{Activation, CloseOp, Configuration, Do, EndEvaluation, EndLevel, EndObject, Held, Instances, Item, Key, Op, Use, Val, is_evaluation, cell_made, cell_set, made_in, owner, put_in}

-- ---- instances

-- An instance that is as it was, but for its cells; and it may be kept or given back now.
pub record Lasts (x : Instance (List Held)) (y : Option (Instance (List Held))) : Type 0 where
  pub now : Instance (List Held)
  pub there : y ≡ Some now
  pub text : now.text ≡ x.text
  pub level : now.level ≡ x.level
  pub encloser : now.encloser ≡ x.encloser
  pub given_back : x.given_back ≡ true → now.given_back ≡ true

-- All instances last, and keep their numbers.
abbrev pub AllLast : List (Instance (List Held)) → List (Instance (List Held)) → Type 0
AllLast xs ys = (j : ℕ) (x : Instance (List Held)) → slice_get xs j ≡ Some x → Lasts x (slice_get ys j)

pub lasts_itself : (x : Instance (List Held)) (y : Option (Instance (List Held))) → y ≡ Some x → Lasts x y
lasts_itself x y is = record { now = x; there = is; text = refl; level = refl; encloser = refl; given_back = λ e. e }

pub all_last_same : (xs : List (Instance (List Held))) → AllLast xs xs
all_last_same xs j x is = lasts_itself x (slice_get xs j) is

pub all_last_then : (xs ys zs : List (Instance (List Held))) → AllLast xs ys → AllLast ys zs → AllLast xs zs
all_last_then xs ys zs f g j x is =
    let a = f j x is in
    let b = g j a.now a.there in
    record { now = b.now; there = b.there; text = b.text ∙ a.text; level = b.level ∙ a.level; encloser = b.encloser ∙ a.encloser; given_back = λ e. b.given_back (a.given_back e) }

-- one is replaced by one that lasts
set_last : (xs : List (Instance (List Held))) (k : ℕ) (old new : Instance (List Held)) → slice_get xs k ≡ Some old → Lasts old (Some new) → AllLast xs (slice_set xs k new)
set_last [] k old new is a j x at = absurd (cc)
set_last (z ∷ xs) zero old new is a zero x at = subst (λ v. Lasts v (Some new)) (let same : old ≡ x = cc in same) a
set_last (z ∷ xs) zero old new is a (suc j) x at = lasts_itself x (slice_get xs j) at
set_last (z ∷ xs) (suc k) old new is a zero x at = lasts_itself x (Some z) at
set_last (z ∷ xs) (suc k) old new is a (suc j) x at = set_last xs k old new is a j x at

pub more_last : (xs : List (Instance (List Held))) (new : Instance (List Held)) → AllLast xs (xs ++ new ∷ [])
more_last [] new j x at = absurd (cc)
more_last (z ∷ xs) new zero x at = lasts_itself x (Some z) at
more_last (z ∷ xs) new (suc j) x at = more_last xs new j x at

set_count : {A : Type 0} (xs : List A) (k : ℕ) (x : A) → length (slice_set xs k x) ≡ length xs
set_count [] k x = refl
set_count (y ∷ xs) zero x = refl
set_count (y ∷ xs) (suc k) x = ap suc (set_count xs k x)

-- The same instances stand in the same way; what they hold may differ.
pub record Alike (m n : Instances) : Type 0 where
  pub lasts : AllLast m.instances n.instances
  pub counted : length n.instances ≡ length m.instances
  pub standings : n.standings ≡ m.standings

pub alike_same : (m : Instances) → Alike m m
alike_same m = record { lasts = all_last_same m.instances; counted = refl; standings = refl }

pub alike_then : (m n p : Instances) → Alike m n → Alike n p → Alike m p
alike_then m n p a b = record { lasts = all_last_then m.instances n.instances p.instances a.lasts b.lasts; counted = b.counted ∙ a.counted; standings = b.standings ∙ a.standings }

alike_set : (m : Instances) (j : ℕ) (old new : Instance (List Held)) → slice_get m.instances j ≡ Some old → Lasts old (Some new) → Alike m (with_instance m j new)
alike_set m j old new is a = record { lasts = set_last m.instances j old new is a; counted = set_count m.instances j new; standings = refl }

pub live_there : (y : Option (Instance (List Held))) (x : Instance (List Held)) → unless_given y ≡ Some x → y ≡ Some x
live_there None x e = absurd (cc)
live_there (Some z) x e = by_flag z.given_back e
  where
    by_flag : (b : Bool) → (if b then None else Some z) ≡ Some x → Some z ≡ Some x
    by_flag true e = absurd (cc)
    by_flag false e = e

put_alike : (m : Instances) (j : ℕ) (y : Option (Instance (List Held))) (cells : Option (List Held)) (n : Instances) → live m j ≡ y → cells_put m j y cells ≡ Some n → Alike m n
put_alike m j (Some x) (Some cells) n at is =
    let same : with_instance m j (record x { cells = cells }) ≡ n = cc in
    subst (Alike m) same (alike_set m j x (record x { cells = cells }) (live_there (slice_get m.instances j) x at) (record { now = record x { cells = cells }; there = refl; text = refl; level = refl; encloser = refl; given_back = λ e. e }))
put_alike m j (Some x) None n at is = absurd (cc)
put_alike m j None (Some cells) n at is = absurd (cc)
put_alike m j None None n at is = absurd (cc)

pub cell_alike : (m : Instances) (j : ℕ) (key : Key) (v : Val) (n : Instances) → cell_set m j key v ≡ Some n → Alike m n
cell_alike m j key v n is = put_alike m j (live m j) (put_in (cells_of m j) key v) n refl is

pub made_alike : (m : Instances) (j : ℕ) (key : Key) (v : Val) (n : Instances) → cell_made m j key v ≡ Some n → Alike m n
made_alike m j key v n is = put_alike m j (live m j) (made_in (cells_of m j) key v) n refl is

pub given_alike : (m : Instances) (j : ℕ) → Alike m (given m j)
given_alike m j = by_instance (slice_get m.instances j) refl
  where
    by_instance : (y : Option (Instance (List Held))) → slice_get m.instances j ≡ y → Alike m (given_in m j y)
    by_instance None at = alike_same m
    by_instance (Some x) at = alike_set m j x (record x { given_back = true }) at (record { now = record x { given_back = true }; there = refl; text = refl; level = refl; encloser = refl; given_back = λ e. refl })

pub given_if : (b : Bool) (m : Instances) (j : ℕ) → Alike m (if b then given m j else m)
given_if true m j = given_alike m j
given_if false m j = alike_same m

pub kept_alike : (chain : List Activation) (m : Instances) → Alike m (kept_on owner chain m)
unfolding kept_on
kept_alike [] m = alike_same m
kept_alike (a ∷ chain) m = by_owner (owner a) (λ n. kept_alike chain n)
  where
    by_flag : (b : Bool) (j : ℕ) (x : Instance (List Held)) → slice_get m.instances j ≡ Some x → ((n : Instances) → Alike n (kept_on owner chain n)) → Alike m (if b then kept_on owner chain (with_instance m j (record x { kept = true })) else m)
    by_flag true j x at further =
        let marked = with_instance m j (record x { kept = true }) in
        alike_then m marked (kept_on owner chain marked) (alike_set m j x (record x { kept = true }) at (record { now = record x { kept = true }; there = refl; text = refl; level = refl; encloser = refl; given_back = λ e. e })) (further marked)
    by_flag false j x at further = alike_same m

    by_instance : (j : ℕ) (y : Option (Instance (List Held))) → slice_get m.instances j ≡ y → ((n : Instances) → Alike n (kept_on owner chain n)) → Alike m (kept_further (kept_on owner chain) m j y)
    by_instance j None at further = alike_same m
    by_instance j (Some x) at further = by_flag x.passing j x at further

    by_owner : (u : Option ℕ) → ((n : Instances) → Alike n (kept_on owner chain n)) → Alike m (kept_at (kept_on owner chain) m u)
    by_owner None further = further m
    by_owner (Some j) further = by_instance j (slice_get m.instances j) refl further

-- ---- steps

abbrev pub act : ℕ → List Item → List Val → Activation
act i w vals = record { instance = i; work = w; values = vals }

-- an end, but not of a level
abbrev pub is_last : Item → Bool
is_last (Do op) = false
is_last (EndLevel text) = false
is_last _ = true

-- work of an instance, which ends with the end of that
pub data IsOwn : List Item → Type 0 where
  own_end : {end : Item} → is_evaluation end ≡ false → is_last end ≡ true → IsOwn (end ∷ [])
  own_operator : {op : Op} {w : List Item} → IsOwn w → IsOwn (Do op ∷ w)
  own_level : {text : ℕ} {w : List Item} → IsOwn w → IsOwn (EndLevel text ∷ w)

-- The encloser of a new instance is the operating one, or one that lives.
abbrev pub EnteredFrom : Instances → (operating : ℕ) → (encloser : Option ℕ) → Type 0
EnteredFrom m i None = ⊤
EnteredFrom m i (Some e) = (e ≡ i) ⊎ (is_live m e ≡ true)

-- An operator was taken from the work of the activation on top, which is for the instance i, and w is left of that.
pub data Does (op : Op) (m : Instances) (i : ℕ) (w : List Item) (rest : List Activation) : Configuration → Type 0 where
  -- other work comes in its place
  works : {n : Instances} {v : List Item} {vals : List Val} → Alike m n → Adds w v → Does op m i w rest (record { chain = act i v vals ∷ rest; memory = n })
  -- the evaluation of an actual parameter begins
  begins : BeginsEvaluation op → (home : ℕ) (as_procedure : Bool) (e : Expression) (wanted : Use) {vals : List Val}
      → Does op m i w rest (record { chain = act home (Do (CloseOp as_procedure e) ∷ EndEvaluation wanted ∷ []) [] ∷ act i w vals ∷ rest; memory = m })
  -- an instance is entered
  enters : Enters op → (n : Instances) (x : Instance (List Held)) {v : List Item} {vals : List Val} → EnteredFrom m i x.encloser → Alike m n → IsOwn v → Does op m i w rest (record { chain = act (length n.instances) v [] ∷ act i w vals ∷ rest; memory = entered n x (NoObject None) })
  generates : Generates op → (x : Instance (List Held)) {v : List Item} {vals : List Val} → EnteredFrom m i x.encloser → IsOwn v → Does op m i w rest (record { chain = act (length m.instances) v [] ∷ act i w vals ∷ rest; memory = entered m x AttachedObject })
  -- control is transferred
  transfers : {vals : List Val} {operating : List Activation} {standings : List (Standing Activation)}
      → Transfers owner (system_head m) (record { operating = act i w vals ∷ rest; standings = m.standings }) op (record { operating = operating; standings = standings })
      → Does op m i w rest (record { chain = operating; memory = record m { standings = standings } })

-- What is done with the first item of the work of the activation on top.
pub data ItemDoes (m : Instances) (i : ℕ) (w : List Item) (rest : List Activation) : Item → Configuration → Type 0 where
  operator_does : {op : Op} {d : Configuration} → Does op m i w rest d → ItemDoes m i w rest (Do op) d
  level_ends : {text : ℕ} {vals : List Val} → ItemDoes m i w rest (EndLevel text) (record { chain = act i w vals ∷ rest; memory = m })
  -- an instance ends, but no object
  leaves : {end : Item} {n : Instances} {vals : List Val} (a : Activation) (below : List Activation) → EndsInstance end → Alike m n → rest ≡ a ∷ below
      → ItemDoes m i w rest end (record { chain = act a.instance a.work vals ∷ below; memory = n })
  -- an evaluation ends
  gives : {wanted : Use} {vals : List Val} (a : Activation) (below : List Activation) → rest ≡ a ∷ below
      → ItemDoes m i w rest (EndEvaluation wanted) (record { chain = act a.instance a.work vals ∷ below; memory = m })
  -- an object ends, which is attached or resumed
  attached_ends : slice_get m.standings i ≡ Some AttachedObject → ItemDoes m i w rest EndObject (record { chain = rest; memory = record m { standings = slice_set m.standings i TerminatedObject } })
  resumed_ends : (k : Cut Activation) (main : List Activation) → slice_get m.standings i ≡ Some ResumedObject → cut_at owner (system_head m i) rest ≡ Some k → slice_get m.standings (system_head m i) ≡ Some (NoObject (Some main))
      → ItemDoes m i w rest EndObject (record { chain = main ++ k.here ∷ k.below; memory = record m { standings = slice_set (slice_set m.standings (system_head m i) (NoObject None)) i TerminatedObject } })

abbrev pub WorkDoes : Instances → ℕ → List Activation → List Item → Configuration → Type 0
WorkDoes m i rest [] d = ⊥
WorkDoes m i rest (x ∷ w) d = ItemDoes m i w rest x d

-- the first step of a program
pub data FirstDoes (m : Instances) : Configuration → Type 0 where
  first_enters : (x : Instance (List Held)) {v : List Item} → x.encloser ≡ None → length m.instances ≡ 0 → IsOwn v → FirstDoes m (record { chain = act (length m.instances) v [] ∷ []; memory = entered m x (NoObject None) })

-- what a step does
abbrev pub ChainDoes : Instances → List Activation → Configuration → Type 0
ChainDoes m [] d = FirstDoes m d
ChainDoes m (a ∷ rest) d = WorkDoes m a.instance rest a.work d
