-- The way outward from an instance is the same at each moment at which the instances on it live.
use Rattle.std.proofs.Common.{◌⊎◌, ◌<◌, ◌+◌, inl, inr, arith, length, true, false, ◌++◌, ◌≡◌, ℕ, zero, suc, List, [], ◌∷◌, Option, Some, None, refl, sym, ap, ◌∙◌, subst, Bool}
use Rattle.std.specs.Prelude.{◌==◌, if◌then◌else◌, slice_get}
use Rattle.sim_base.specs.declared.limits.Limits.{Limits}
use Rattle.sim_scope.specs.Source.{Source}
use Rattle.std.proofs.lemmas.Option.{slice_get_within}
use Rattle.sim_code.specs.Instances.{is_live, is_live_in, no_instances, unless_given, Instance, at_level, found_at, level_within, live, outward}
use Rattle.sim_code.specs.Outcome.{Ended, Ending, Going, Run, World, after}
use Rattle.sim_meaning.specs.Meaning.{step}
use Rattle.sim_meaning.specs.Pending.{Activation, Configuration, Held, Instances, Item, Op}
use Rattle.sim_code.proofs.Growing.{after_more}
use Rattle.sim_meaning.specs.Meaning.{opening, run}
use Rattle.sim_meaning.specs.Sane.{SaneOn, StaysSane, Lives, lives_alone, lives_inside}
use Rattle.closed_actuals.proofs.Does.{Alike, EnteredFrom, AllLast, ChainDoes, Does, ItemDoes, WorkDoes, all_last_same, all_last_then, attached_ends, begins, enters, first_enters, generates, gives, leaves, level_ends, live_there, more_last, operator_does, resumed_ends, transfers, works}
use Rattle.code_finite.proofs.Lifts.{Goes}
use Rattle.closed_actuals.proofs.Steps.{step_does}

-- ---- instances last

does_last : (op : Op) (m : Instances) (i : ℕ) (w : List Item) (rest : List Activation) (d : Configuration) → Does op m i w rest d → AllLast m.instances d.memory.instances
does_last op m i w rest d (works alike a) = alike.lasts
does_last op m i w rest d (begins by home p e wanted) = all_last_same m.instances
does_last op m i w rest d (enters by n x from alike own) = all_last_then m.instances n.instances (n.instances ++ x ∷ []) alike.lasts (more_last n.instances x)
does_last op m i w rest d (generates by x from own) = more_last m.instances x
does_last op m i w rest d (transfers moved) = all_last_same m.instances

item_last : (m : Instances) (i : ℕ) (w : List Item) (rest : List Activation) (x : Item) (d : Configuration) → ItemDoes m i w rest x d → AllLast m.instances d.memory.instances
item_last m i w rest x d (operator_does {op = op} a) = does_last op m i w rest d a
item_last m i w rest x d level_ends = all_last_same m.instances
item_last m i w rest x d (leaves a below ends alike is) = alike.lasts
item_last m i w rest x d (gives a below is) = all_last_same m.instances
item_last m i w rest x d (attached_ends is) = all_last_same m.instances
item_last m i w rest x d (resumed_ends k main is cut at) = all_last_same m.instances

chain_last : (m : Instances) (chain : List Activation) (d : Configuration) → ChainDoes m chain d → AllLast m.instances d.memory.instances
chain_last m [] d (first_enters x alone empty own) = more_last m.instances x
chain_last m (a ∷ rest) d does = work_last a.work does
  where
    work_last : (w : List Item) → WorkDoes m a.instance rest w d → AllLast m.instances d.memory.instances
    work_last [] does = absurd does
    work_last (x ∷ w) does = item_last m a.instance w rest x d does

module _ (s : Source) (l : Limits) where
  ended_stays : (k : ℕ) (o p : World) (e : Ending) (d : Configuration) → after (step s l) k (Ended o e) ≡ Going p d → ⊥
  ended_stays zero o p e d is = cc
  ended_stays (suc k) o p e d is = ended_stays k o p e d is

  -- after some more steps
  pub later_last : (k : ℕ) (o p : World) (c d : Configuration) → after (step s l) k (Going o c) ≡ Going p d → AllLast c.memory.instances d.memory.instances
  later_last zero o p c d is = let same : c ≡ d = cc in subst (λ (z : Configuration). AllLast c.memory.instances z.memory.instances) same (all_last_same c.memory.instances)
  later_last (suc k) o p c d is = by_step (step s l o c) (step_does s l o c) is (λ q b. later_last k q p b d)
    where
      by_step : (r : Run Configuration) → Goes (λ _. ChainDoes c.memory c.chain) r → after (step s l) k r ≡ Going p d
          → ((q : World) (b : Configuration) → after (step s l) k (Going q b) ≡ Going p d → AllLast b.memory.instances d.memory.instances) → AllLast c.memory.instances d.memory.instances
      by_step (Going q b) does is further = all_last_then c.memory.instances b.memory.instances d.memory.instances (chain_last c.memory c.chain b does) (further q b is)
      by_step (Ended q e) does is further = absurd (ended_stays k q p e d is)

-- ---- ways outward

-- an instance that lives, with its encloser
pub record LivesAt (m : Instances) (j : ℕ) : Type 0 where
  pub instance : Instance (List Held)
  pub lives : live m j ≡ Some instance
  pub beyond : (e : ℕ) → instance.encloser ≡ Some e → Lives m e

pub lives_at : (m : Instances) (j : ℕ) → Lives m j → LivesAt m j
lives_at m j (lives_alone {x = x} is none) = record { instance = x; lives = is; beyond = λ e some. absurd (cc) }
lives_at m j (lives_inside {e = e} {x = x} is some further) = record { instance = x; lives = is; beyond = λ f other. subst (Lives m) (let same : e ≡ f = cc in same) further }

-- ---- enclosers are entered before

-- the encloser of each instance was entered
abbrev pub Enclosed : List (Instance (List Held)) → Type 0
Enclosed xs = (j e : ℕ) (x : Instance (List Held)) → slice_get xs j ≡ Some x → x.encloser ≡ Some e → e < length xs

there_get : {A : Type 0} (xs : List A) (j : ℕ) → j < length xs → (x : A) × (slice_get xs j ≡ Some x)
there_get [] j lt = absurd (omega (arith, lt))
there_get (x ∷ xs) zero lt = (x, refl)
there_get (x ∷ xs) (suc j) lt = there_get xs j (omega (arith, lt))

old_or_new : (xs : List (Instance (List Held))) (y : Instance (List Held)) (j : ℕ) (x : Instance (List Held)) → slice_get (xs ++ y ∷ []) j ≡ Some x → (slice_get xs j ≡ Some x) ⊎ (x ≡ y)
old_or_new [] y zero x is = inr (let same : y ≡ x = cc in sym same)
old_or_new [] y (suc j) x is = absurd (cc)
old_or_new (z ∷ xs) y zero x is = inl is
old_or_new (z ∷ xs) y (suc j) x is = old_or_new xs y j x is

longer : (xs : List (Instance (List Held))) (y : Instance (List Held)) → length (xs ++ y ∷ []) ≡ suc (length xs)
longer [] y = refl
longer (x ∷ xs) y = ap suc (longer xs y)

alike_enclosed : (m n : Instances) → Alike m n → Enclosed m.instances → Enclosed n.instances
alike_enclosed m n a enclosed j e y at is =
    let count = a.counted in
    let within = slice_get_within n.instances j y at in
    let old = there_get m.instances j (omega (arith, count, within)) in
    let z = a.lasts j old.0 old.1 in
    let same : z.now ≡ y = (let f = z.there in cc) in
    let before = enclosed j e old.0 old.1 (sym z.encloser ∙ ap (λ (v : Instance (List Held)). v.encloser) same ∙ is) in
    omega (arith, before, count)

more_enclosed : (xs : List (Instance (List Held))) (y : Instance (List Held)) → ((e : ℕ) → y.encloser ≡ Some e → e < length xs) → Enclosed xs → Enclosed (xs ++ y ∷ [])
more_enclosed xs y new enclosed j e x at is = by_place (old_or_new xs y j x at)
  where
    by_place : (slice_get xs j ≡ Some x) ⊎ (x ≡ y) → e < length (xs ++ y ∷ [])
    by_place (inl old) = let lt = enclosed j e x old is in let n = longer xs y in omega (arith, lt, n)
    by_place (inr same) = let lt = new e (ap (λ (v : Instance (List Held)). v.encloser) (sym same) ∙ is) in let n = longer xs y in omega (arith, lt, n)

live_within : (m : Instances) (e : ℕ) → is_live m e ≡ true → e < length m.instances
live_within m e lives = by_live (live m e) refl lives
  where
    by_live : (y : Option (Instance (List Held))) → live m e ≡ y → is_live_in y ≡ true → e < length m.instances
    by_live None is lives = absurd (cc)
    by_live (Some x) is lives = slice_get_within m.instances e x (live_there (slice_get m.instances e) x is)

pub lives_within : (m : Instances) (j : ℕ) → Lives m j → j < length m.instances
lives_within m j lives = let x = lives_at m j lives in slice_get_within m.instances j x.instance (live_there (slice_get m.instances j) x.instance x.lives)

from_within : (m : Instances) (i : ℕ) → i < length m.instances → (u : Option ℕ) → EnteredFrom m i u → (e : ℕ) → u ≡ Some e → e < length m.instances
from_within m i lt None from e is = absurd (cc)
from_within m i lt (Some f) from e is = by_place (let same : f ≡ e = cc in same) from
  where
    by_place : f ≡ e → (f ≡ i) ⊎ (is_live m f ≡ true) → e < length m.instances
    by_place same (inl here) = omega (arith, same, here, lt)
    by_place same (inr lives) = let within = live_within m f lives in omega (arith, same, within)

does_enclosed : (op : Op) (m : Instances) (i : ℕ) (w : List Item) (rest : List Activation) → i < length m.instances → Enclosed m.instances → (d : Configuration) → Does op m i w rest d → Enclosed d.memory.instances
does_enclosed op m i w rest lt enclosed d (works alike a) = alike_enclosed m d.memory alike enclosed
does_enclosed op m i w rest lt enclosed d (begins by home p e wanted) = enclosed
does_enclosed op m i w rest lt enclosed d (enters by n x from alike own) =
    more_enclosed n.instances x (λ e is. let before = from_within m i lt x.encloser from e is in let count = alike.counted in omega (arith, before, count)) (alike_enclosed m n alike enclosed)
does_enclosed op m i w rest lt enclosed d (generates by x from own) = more_enclosed m.instances x (from_within m i lt x.encloser from) enclosed
does_enclosed op m i w rest lt enclosed d (transfers moved) = enclosed

item_enclosed : (m : Instances) (i : ℕ) (w : List Item) (rest : List Activation) → i < length m.instances → Enclosed m.instances → (x : Item) (d : Configuration) → ItemDoes m i w rest x d → Enclosed d.memory.instances
item_enclosed m i w rest lt enclosed x d (operator_does {op = op} a) = does_enclosed op m i w rest lt enclosed d a
item_enclosed m i w rest lt enclosed x d level_ends = enclosed
item_enclosed m i w rest lt enclosed x d (leaves a below ends alike is) = alike_enclosed m d.memory alike enclosed
item_enclosed m i w rest lt enclosed x d (gives a below is) = enclosed
item_enclosed m i w rest lt enclosed x d (attached_ends is) = enclosed
item_enclosed m i w rest lt enclosed x d (resumed_ends k main is cut at) = enclosed

chain_enclosed : (m : Instances) (chain : List Activation) → SaneOn m chain → Enclosed m.instances → (d : Configuration) → ChainDoes m chain d → Enclosed d.memory.instances
chain_enclosed m [] sane enclosed d (first_enters x alone empty own) = more_enclosed m.instances x (λ e is. absurd (let no : None ≡ Some e = sym alone ∙ is in cc)) enclosed
chain_enclosed m (a ∷ rest) sane enclosed d does = work_enclosed a.work does
  where
    work_enclosed : (w : List Item) → WorkDoes m a.instance rest w d → Enclosed d.memory.instances
    work_enclosed [] does = absurd does
    work_enclosed (x ∷ w) does = item_enclosed m a.instance w rest (lives_within m a.instance sane.0) enclosed x d does

module _ (s : Source) (sane : StaysSane s) (l : Limits) (input : List ℕ) where
  pub reached_enclosed : (n : ℕ) (o : World) (c : Configuration) → run s l input n ≡ Going o c → Enclosed c.memory.instances
  reached_enclosed zero o c is =
      let same : ◌≡◌ {A = Configuration} no_instances c = cc in
      subst (λ (z : Configuration). Enclosed z.memory.instances) same (λ j e x at there. absurd (cc))
  reached_enclosed (suc n) o c is =
      let count : n + 1 ≡ suc n = omega arith in
      by_last (run s l input n) refl (sym (after_more Configuration (step s l) n 1 (opening s l input)) ∙ ap (λ (k : ℕ). run s l input k) count ∙ is) (λ p b e. reached_enclosed n p b e)
    where
      by_step : (p : World) (b : Configuration) → run s l input n ≡ Going p b → Enclosed b.memory.instances → (r : Run Configuration) → Goes (λ _. ChainDoes b.memory b.chain) r → r ≡ Going o c → Enclosed c.memory.instances
      by_step p b reached enclosed (Going q d) does is = let same : d ≡ c = cc in subst (λ (z : Configuration). Enclosed z.memory.instances) same (chain_enclosed b.memory b.chain (sane l input n p b reached) enclosed d does)
      by_step p b reached enclosed (Ended q e) does is = absurd (cc)

      by_last : (r : Run Configuration) → run s l input n ≡ r → after (step s l) 1 r ≡ Going o c → ((p : World) (b : Configuration) → run s l input n ≡ Going p b → Enclosed b.memory.instances) → Enclosed c.memory.instances
      by_last (Going p b) reached is further = by_step p b reached (further p b reached) (step s l p b) (step_does s l p b) is
      by_last (Ended p e) reached is further = absurd (cc)

-- ---- the same way

-- one that lives later, with its enclosers, lived before
was_live : (x y : Instance (List Held)) (u : Option (Instance (List Held))) → u ≡ Some x → (x.given_back ≡ true → y.given_back ≡ true) → unless_given (Some y) ≡ Some y → unless_given u ≡ Some x
was_live x y u at given lives = ap unless_given at ∙ by_flag x.given_back refl
  where
    by_flag : (b : Bool) → x.given_back ≡ b → (if b then None else Some x) ≡ Some x
    by_flag false is = refl
    by_flag true is = absurd (let back = given is in let no : None ≡ Some y = ap (λ (b : Bool). if b then None else Some y) (sym back) ∙ lives in cc)

module _ (m n : Instances) (last : AllLast m.instances n.instances) (enclosed : Enclosed m.instances) where
  same_within : (k level j : ℕ) → j < length m.instances → Lives n j → level_within k n level j ≡ level_within k m level j
  same_within zero level j a b = refl
  same_within (suc k) level j a b =
      let x = there_get m.instances j a in
      let y = lives_at n j b in
      let z = last j x.0 x.1 in
      let there = live_there (slice_get n.instances j) y.instance y.lives in
      let same : z.now ≡ y.instance = (let f = z.there in cc) in
      let level_same : y.instance.level ≡ x.0.level = ap (λ (v : Instance (List Held)). v.level) (sym same) ∙ z.level in
      let encloser_same : y.instance.encloser ≡ x.0.encloser = ap (λ (v : Instance (List Held)). v.encloser) (sym same) ∙ z.encloser in
      let lived : live m j ≡ Some x.0 = was_live x.0 y.instance (slice_get m.instances j) x.1 (λ e. ap (λ (v : Instance (List Held)). v.given_back) (sym same) ∙ z.given_back e) (ap unless_given (sym there) ∙ y.lives) in
      ap (found_at level (level_within k n level) j) y.lives
      ∙ ap (λ (v : ℕ). if v == level then Some j else outward (level_within k n level) y.instance.encloser) level_same
      ∙ ap (λ (v : Option ℕ). if x.0.level == level then Some j else outward (level_within k n level) v) encloser_same
      ∙ ap (λ (v : Option ℕ). if x.0.level == level then Some j else v) (beyond x.0.encloser refl (λ e is. same_within k level e (enclosed j e x.0 x.1 is) (y.beyond e (encloser_same ∙ is))))
      ∙ ap (found_at level (level_within k m level) j) (sym lived)
    where
      beyond : (u : Option ℕ) {v : Option ℕ} → v ≡ u → ((e : ℕ) → v ≡ Some e → level_within k n level e ≡ level_within k m level e) → outward (level_within k n level) u ≡ outward (level_within k m level) u
      beyond None is further = refl
      beyond (Some e) is further = further e is

  -- the instance of a level, seen from one that lives later with its enclosers
  pub same_level : (level j : ℕ) → j < length m.instances → Lives n j → at_level n level j ≡ at_level m level j
  unfolding at_level
  same_level level j a b = same_within (suc j) level j a b
