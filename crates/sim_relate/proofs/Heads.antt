-- What instances have in common before and after a step, and what follows for what is found from them.
use Rattle.std.proofs.Common.{◌≡◌, ℕ, zero, suc, ◌<◌, List, [], ◌∷◌, ◌++◌, length, Option, Some, None, Bool, true, false, refl, sym, ap, ◌∙◌, subst}
use Rattle.std.specs.Prelude.{◌==◌, if◌then◌else◌, slice_get, slice_set}
use Rattle.sim_chains.specs.Components.{Standing}
use Rattle.sim_scope.specs.Source.{Source}
use Rattle.sim_code.specs.Instances.{Instance, Memory, entered, found_at, given, given_in, kept_at, kept_further, kept_on, outward, unless_given, with_instance}
use Rattle.sim_code.proofs.Lifts.{Both}
use Rattle.sim_meaning.specs.Levels.{text_at, text_in}
use Rattle.sim_meaning.specs.Pending.{Held, Instances}
use Rattle.sim_relate.proofs.Lists.{append_before}
use Rattle.sim_relate.proofs.Reach.{if_false, stands_rooted}
use Rattle.codegen_expr.specs.Sites.{LevelOf, frame_text}
use Rattle.sim_relate.proofs.Known.{Later, Rooted, Stands, enclosed, inside, outermost, seen_at, seen_within, unenclosed}

-- ---- both there

pub both_refl : {A : Type 0} (P : A → A → Type 0) → ((a : A) → P a a) → (o : Option A) → Both P o o
both_refl P r None = tt
both_refl P r (Some a) = r a

pub both_equal : {A : Type 0} (P : A → A → Type 0) → ((a : A) → P a a) → (o o' : Option A) → o' ≡ o → Both P o o'
both_equal P r o o' e = subst (λ z. Both P o z) (sym e) (both_refl P r o)

pub both_trans : {A : Type 0} (P : A → A → Type 0) → ((a b c : A) → P a b → P b c → P a c) → (x y z : Option A) → Both P x y → Both P y z → Both P x z
both_trans P t None None z p q = q
both_trans P t None (Some y) z p q = absurd p
both_trans P t (Some x) None z p q = absurd p
both_trans P t (Some x) (Some y) None p q = absurd q
both_trans P t (Some x) (Some y) (Some z) p q = t x y z p q

-- what is there on the one side is there on the other
pub record Found {A B : Type 0} (P : A → B → Type 0) (a : A) (y : Option B) : Type 0 where
  pub it : B
  pub is : y ≡ Some it
  pub related : P a it

found_in : {A B : Type 0} (P : A → B → Type 0) (a : A) (y : Option B) → Both P (Some a) y → Found P a y
found_in P a None b = absurd b
found_in P a (Some y) b = record { it = y; is = refl; related = b }

pub both_found : {A B : Type 0} (P : A → B → Type 0) (x : Option A) (y : Option B) (a : A) → x ≡ Some a → Both P x y → Found P a y
both_found P x y a e b = found_in P a y (subst (λ z. Both P z y) e b)

-- a write where something is
pub set_self : {A : Type 0} (P : A → A → Type 0) → ((a : A) → P a a) → (xs : List A) (j : ℕ) (x x' : A) → slice_get xs j ≡ Some x → P x x' → (k : ℕ) → Both P (slice_get xs k) (slice_get (slice_set xs j x') k)
set_self P r [] j x x' e p k = tt
set_self P r (a ∷ xs) zero x x' e p zero = let same : a ≡ x = cc in subst (λ z. P z x') (sym same) p
set_self P r (a ∷ xs) zero x x' e p (suc k) = both_refl P r (slice_get xs k)
set_self P r (a ∷ xs) (suc j) x x' e p zero = r a
set_self P r (a ∷ xs) (suc j) x x' e p (suc k) = set_self P r xs j x x' e p k

-- ---- given back or not

flag_if : {A B : Type 0} (P : A → B → Type 0) (x : A) (y : B) (b b' : Bool) → b' ≡ b → P x y → Both P (if b then None else Some x) (if b' then None else Some y)
flag_if P x y true true e p = tt
flag_if P x y true false e p = absurd (cc)
flag_if P x y false true e p = absurd (cc)
flag_if P x y false false e p = p

module _ {C D : Type 0} (P : Instance C → Instance D → Type 0) (same : (x : Instance C) (y : Instance D) → P x y → y.given_back ≡ x.given_back) where
  pub given_both : (x : Option (Instance C)) (y : Option (Instance D)) → Both P x y → Both P (unless_given x) (unless_given y)
  given_both None None b = b
  given_both None (Some y) b = absurd b
  given_both (Some x) None b = absurd b
  given_both (Some x) (Some y) b = flag_if P x y x.given_back y.given_back (same x y b) b

-- an instance that is there and was not given back
pub record IsLive {C : Type 0} (o : Option (Instance C)) (x : Instance C) : Type 0 where
  pub there : o ≡ Some x
  pub stays : x.given_back ≡ false

live_if : {C : Type 0} (z x : Instance C) (b : Bool) → z.given_back ≡ b → (if b then None else Some z) ≡ Some x → IsLive (Some z) x
live_if z x true e h = absurd (cc)
live_if z x false e h = let same : z ≡ x = cc in record { there = ap Some same; stays = subst (λ y. y.given_back ≡ false) same e }

pub is_live_at : {C : Type 0} (o : Option (Instance C)) (x : Instance C) → unless_given o ≡ Some x → IsLive o x
is_live_at None x h = absurd (cc)
is_live_at (Some z) x h = live_if z x z.given_back refl h

pub lives_in : {C : Type 0} (o : Option (Instance C)) (x : Instance C) → o ≡ Some x → x.given_back ≡ false → unless_given o ≡ Some x
lives_in o x e s = ap unless_given e ∙ if_false x.given_back None (Some x) s

-- ---- instances that are found alike

module _ {C : Type 0} where
  pub record Heads (x x' : Instance C) : Type 0 where
    pub text : x'.text ≡ x.text
    pub level : x'.level ≡ x.level
    pub encloser : x'.encloser ≡ x.encloser

  pub heads_refl : (x : Instance C) → Heads x x
  heads_refl x = record { text = refl; level = refl; encloser = refl }

  -- and have the same cells
  pub record Same (x x' : Instance C) : Type 0 where
    pub heads : Heads x x'
    pub cells : x'.cells ≡ x.cells

  pub same_refl : (x : Instance C) → Same x x
  same_refl x = record { heads = heads_refl x; cells = refl }

  pub same_trans : (x y z : Instance C) → Same x y → Same y z → Same x z
  same_trans x y z a b =
      let p = a.heads in
      let q = b.heads in
      record { heads = record { text = q.text ∙ p.text; level = q.level ∙ p.level; encloser = q.encloser ∙ p.encloser }; cells = b.cells ∙ a.cells }

  pub both_heads : (o o' : Option (Instance C)) → Both Same o o' → Both Heads o o'
  both_heads None None b = b
  both_heads None (Some y) b = absurd b
  both_heads (Some x) None b = absurd b
  both_heads (Some x) (Some y) b = b.heads

-- ---- what later stores keep

module _ (s : Source) (m m' : Instances) (heads : (k : ℕ) (x : Instance (List Held)) → slice_get m.instances k ≡ Some x → Found Heads x (slice_get m'.instances k)) where
  rooted_later : (o : Option ℕ) → Rooted m o → Rooted m' o
  rooted_later _ unenclosed = unenclosed
  rooted_later _ (enclosed {e = e} {x = x} is more) =
      let y = heads e x is in
      enclosed y.is (subst (Rooted m') (sym (y.related).encloser) (rooted_later x.encloser more))

  stands_later : (j t : ℕ) → Stands s m j t → Stands s m' j t
  stands_later j t (outermost {x = x} is text level rooted around) =
      let y = heads j x is in
      let h = y.related in
      outermost y.is (subst (λ z. LevelOf s.tables z (frame_text s t)) (sym h.text) text) (h.level ∙ level) (subst (Rooted m') (sym h.encloser) (rooted_later x.encloser rooted)) around
  stands_later j t (inside {e = e} {u = u} {x = x} is text level alone around before stands) =
      let y = heads j x is in
      let h = y.related in
      inside y.is (subst (λ z. LevelOf s.tables z (frame_text s t)) (sym h.text) text) (h.level ∙ level) (h.encloser ∙ alone) around before (stands_later e u stands)

  found_same : (look look' : ℕ → Option ℕ) (level j : ℕ) (x y : Instance (List Held)) → slice_get m.instances j ≡ Some x → slice_get m'.instances j ≡ Some y → Heads x y → outward look' x.encloser ≡ outward look x.encloser → found_at level look' j (slice_get m'.instances j) ≡ found_at level look j (slice_get m.instances j)
  found_same look look' level j x y ex ey h out =
      ap (found_at level look' j) ey ∙ ap (λ l. if l == level then Some j else outward look' y.encloser) h.level ∙ ap (λ e. if x.level == level then Some j else outward look' e) h.encloser ∙ ap (λ z. if x.level == level then Some j else z) out ∙ sym (ap (found_at level look j) ex)

  outward_later : (n level : ℕ) (o : Option ℕ) → Rooted m o → outward (seen_within n m' level) o ≡ outward (seen_within n m level) o
  outward_later n level _ unenclosed = refl
  outward_later zero level _ (enclosed {e = e} {x = x} is more) = refl
  outward_later (suc n) level _ (enclosed {e = e} {x = x} is more) =
      let y = heads e x is in
      found_same (seen_within n m level) (seen_within n m' level) level e x y.it is y.is y.related (outward_later n level x.encloser more)

  within_later : (n level j t : ℕ) → Stands s m j t → seen_within n m' level j ≡ seen_within n m level j
  within_later n level j t st = outward_later n level (Some j) (stands_rooted s m st)

  text_same : (o o' : Option (Instance (List Held))) (own : ℕ) → text_in o ≡ Some own → ((x : Instance (List Held)) → o ≡ Some x → Found Heads x o') → text_in o' ≡ Some own
  text_same None o' own e f = absurd (cc)
  text_same (Some x) o' own e f =
      let y = f x refl in
      ap text_in y.is ∙ ap Some (y.related).text ∙ e

  texts_later : (j own : ℕ) → text_at m j ≡ Some own → text_at m' j ≡ Some own
  texts_later j own e = text_same (slice_get m.instances j) (slice_get m'.instances j) own e (heads j)

  pub later_heads : Later s m m'
  unfolding seen_at
  later_heads = record { texts = texts_later; stands = stands_later; same = λ level j t st. within_later (suc j) level j t st }

pub later_all : (s : Source) (m m' : Instances) → ((k : ℕ) → Both Heads (slice_get m.instances k) (slice_get m'.instances k)) → Later s m m'
later_all s m m' all = later_heads s m m' (λ k x e. both_found Heads (slice_get m.instances k) (slice_get m'.instances k) x e (all k))

-- nothing is later than the store itself
pub later_itself : (s : Source) (m : Instances) → Later s m m
later_itself s m = record { texts = λ j own e. e; stands = λ j t st. st; same = λ level j t st. refl }

-- ---- entries and ends

module _ {C A : Type 0} (m : Memory C A) where
  pub entered_same : (x : Instance C) (st : Standing A) (k : ℕ) → k < length m.instances → Both Same (slice_get m.instances k) (slice_get (entered m x st).instances k)
  entered_same x st k lt = both_equal Same same_refl (slice_get m.instances k) (slice_get (m.instances ++ x ∷ []) k) (append_before m.instances x k lt)

  given_at : (i : ℕ) (o : Option (Instance C)) → slice_get m.instances i ≡ o → (k : ℕ) → Both Same (slice_get m.instances k) (slice_get (given_in m i o).instances k)
  given_at i None e k = both_refl Same same_refl (slice_get m.instances k)
  given_at i (Some x) e k = set_self Same same_refl m.instances i x (record x { given_back = true }) e (record { heads = record { text = refl; level = refl; encloser = refl }; cells = refl }) k

  pub given_same : (i k : ℕ) → Both Same (slice_get m.instances k) (slice_get (given m i).instances k)
  given_same i k = given_at i (slice_get m.instances i) refl k

  pub given_standings : (i : ℕ) (o : Option (Instance C)) → (given_in m i o).standings ≡ m.standings
  given_standings i None = refl
  given_standings i (Some x) = refl

module _ {C A : Type 0} (owner : A → Option ℕ) (k : ℕ) where
  abbrev KeepsAt : Memory C A → Memory C A → Type 0
  KeepsAt m m' = Both Same (slice_get m.instances k) (slice_get m'.instances k)

  kept_if : (go : Memory C A → Memory C A) → ((m : Memory C A) → KeepsAt m (go m)) → (m : Memory C A) (j : ℕ) (x : Instance C) → slice_get m.instances j ≡ Some x → (b : Bool) → KeepsAt m (if b then go (with_instance m j (record x { kept = true })) else m)
  kept_if go ih m j x e false = both_refl Same same_refl (slice_get m.instances k)
  kept_if go ih m j x e true =
      let m1 : Memory C A = with_instance m j (record x { kept = true }) in
      let p : Same x (record x { kept = true }) = record { heads = record { text = refl; level = refl; encloser = refl }; cells = refl } in
      both_trans Same same_trans (slice_get m.instances k) (slice_get m1.instances k) (slice_get (go m1).instances k) (set_self Same same_refl m.instances j x (record x { kept = true }) e p k) (ih m1)

  kept_in : (go : Memory C A → Memory C A) → ((m : Memory C A) → KeepsAt m (go m)) → (m : Memory C A) (j : ℕ) (o : Option (Instance C)) → slice_get m.instances j ≡ o → KeepsAt m (kept_further go m j o)
  kept_in go ih m j None e = both_refl Same same_refl (slice_get m.instances k)
  kept_in go ih m j (Some x) e = kept_if go ih m j x e x.passing

  kept_one : (go : Memory C A → Memory C A) → ((m : Memory C A) → KeepsAt m (go m)) → (m : Memory C A) (o : Option ℕ) → KeepsAt m (kept_at go m o)
  kept_one go ih m None = ih m
  kept_one go ih m (Some j) = kept_in go ih m j (slice_get m.instances j) refl

  pub kept_same : (chain : List A) (m : Memory C A) → Both Same (slice_get m.instances k) (slice_get (kept_on owner chain m).instances k)
  unfolding kept_on
  kept_same [] m = both_refl Same same_refl (slice_get m.instances k)
  kept_same (a ∷ chain) m = kept_one (kept_on owner chain) (kept_same chain) m (owner a)

-- instances that are kept stand as they did
module _ {C A : Type 0} (owner : A → Option ℕ) where
  abbrev SameStandings : (Memory C A → Memory C A) → Type 0
  SameStandings go = (m : Memory C A) → (go m).standings ≡ m.standings

  kept_standings_if : (go : Memory C A → Memory C A) → SameStandings go → (m : Memory C A) (j : ℕ) (x : Instance C) (b : Bool) → (if b then go (with_instance m j (record x { kept = true })) else m).standings ≡ m.standings
  kept_standings_if go f m j x true = f (with_instance m j (record x { kept = true }))
  kept_standings_if go f m j x false = refl

  kept_standings_in : (go : Memory C A → Memory C A) → SameStandings go → (m : Memory C A) (j : ℕ) (o : Option (Instance C)) → (kept_further go m j o).standings ≡ m.standings
  kept_standings_in go f m j None = refl
  kept_standings_in go f m j (Some x) = kept_standings_if go f m j x x.passing

  kept_standings_at : (go : Memory C A → Memory C A) → SameStandings go → (m : Memory C A) (o : Option ℕ) → (kept_at go m o).standings ≡ m.standings
  kept_standings_at go f m None = f m
  kept_standings_at go f m (Some j) = kept_standings_in go f m j (slice_get m.instances j)

  pub kept_standings : (chain : List A) → SameStandings (kept_on owner chain)
  unfolding kept_on
  kept_standings [] m = refl
  kept_standings (a ∷ chain) m = kept_standings_at (kept_on owner chain) (kept_standings chain) m (owner a)
