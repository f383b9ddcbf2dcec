-- The levels of a text as a list, the outermost one first: each stands in it once, at the place that the length of its own list tells.
use Rattle.std.proofs.Common.{◌≡◌, ◌≢◌, ◌<◌, ◌≤◌, ℕ, zero, suc, Bool, true, false, List, [], ◌∷◌, ◌++◌, length, Option, Some, None, ⊎_elim, inl, inr, refl, sym, ap, ◌∙◌, subst, arith}
use Rattle.std.specs.Prelude.{◌⊎◌, ◌||◌, ◌==◌, drop, if◌then◌else◌, nat_eq, slice_get}
use Rattle.std.proofs.lemmas.Bool.Decides.{nat_tests}
use Rattle.sim_scope.specs.Levels.{base, base_in, has_level, holds, some_level_of}
use Rattle.sim_scope.specs.Source.{Source}
use Rattle.sim_scope.specs.Tables as scope
use Rattle.sim_meaning.specs.Attributes.{is_connection as is_connection_text}
use Rattle.sim_meaning.specs.Levels.{both, is_class, level_made, levels_beyond, levels_from, levels_inside, levels_made, levels_of}
use Rattle.sim_meaning.specs.Pending.{Level}
use Rattle.sim_meaning.specs.Texts.{BlockText, ClassText, ConnectionText, PrefixedText, ProcedureText, StandardText, Text, text}
use Rattle.codegen_expr.specs.Sites.{LevelOf, connects, in_front, innermost, is_connected, is_connection, outer, prefix_of}
use Rattle.codegen.specs.Agrees.{Agrees, Ends, before, last}

-- ---- lists

some_is : {A : Type 0} {x y : A} → Some x ≡ Some y → x ≡ y
some_is e = cc (e)

if_not : {A : Type 0} (b : Bool) (x y : A) → b ≡ false → (if b then x else y) ≡ y
if_not true x y e = absurd (cc)
if_not false x y e = refl

same_numbers : (a b : ℕ) → a ≡ b → (a == b) ≡ true
same_numbers a b e = grind (arith, e)

other_numbers : (a b : ℕ) → a ≢ b → (a == b) ≡ false
other_numbers a b e = grind (arith, e)

are_same : (a b : ℕ) → nat_eq a b ≡ true → a ≡ b
are_same a b e = grind (arith, nat_tests, e)

tested_same : (k : ℕ) → nat_eq k k ≡ true
tested_same k = grind (arith, nat_tests)

or_true : (x y : Bool) → y ≡ true → (x || y) ≡ true
or_true true y e = refl
or_true false y e = e

or_cases : {A : Type 0} (x y : Bool) → (x || y) ≡ true → (x ≡ true → A) → (y ≡ true → A) → A
or_cases true y e f g = f refl
or_cases false y e f g = g e

pub one_more : {A : Type 0} (xs : List A) (y : A) → length (xs ++ y ∷ []) ≡ suc (length xs)
one_more [] y = refl
one_more (x ∷ xs) y = ap suc (one_more xs y)

at_end : {A : Type 0} (xs : List A) (y : A) (n : ℕ) → n ≡ length xs → slice_get (xs ++ y ∷ []) n ≡ Some y
at_end [] y n e = subst (λ z. slice_get (y ∷ []) z ≡ Some y) (sym e) refl
at_end (x ∷ xs) y zero e = let no : ⊥ = omega (arith, e) in absurd no
at_end (x ∷ xs) y (suc n) e = at_end xs y n (omega (arith, e))

at_front : {A : Type 0} (xs ys : List A) (n : ℕ) (x : A) → slice_get xs n ≡ Some x → slice_get (xs ++ ys) n ≡ Some x
at_front [] ys n x e = absurd (cc)
at_front (y ∷ xs) ys zero x e = e
at_front (y ∷ xs) ys (suc n) x e = at_front xs ys n x e

front_or_end : {A : Type 0} (xs : List A) (y : A) (n : ℕ) (x : A) → slice_get (xs ++ y ∷ []) n ≡ Some x → (slice_get xs n ≡ Some x) ⊎ ((n ≡ length xs) × (x ≡ y))
front_or_end [] y zero x e = inr (refl, sym (some_is e))
front_or_end [] y (suc n) x e = absurd (cc)
front_or_end (z ∷ xs) y zero x e = inl e
front_or_end (z ∷ xs) y (suc n) x e = ⊎_elim (λ f. inl f) (λ r. inr (ap suc r.0, r.1)) (front_or_end xs y n x e)

same_get : {A : Type 0} (o : Option A) (a b : A) → o ≡ Some a → o ≡ Some b → a ≡ b
same_get o a b e f = cc

-- ---- what is in front

in_front_solid : (b : scope.BlockOf) (u : ℕ) → in_front (Some b) ≡ Some u → is_connection b.kind ≡ false
in_front_solid b u e = by (is_connection b.kind) refl e
  where
    by : (c : Bool) → is_connection b.kind ≡ c → (if c then None else b.base) ≡ Some u → c ≡ false
    by true f e = absurd (cc)
    by false f e = refl

-- a connection has nothing in front of it
pub front_solid : (s : Source) (k u : ℕ) → prefix_of s.tables k ≡ Some u → is_connected s.tables k ≡ false
unfolding prefix_of is_connected
front_solid s k u e = by (slice_get s.tables.blocks k) e
  where
    by : (o : Option scope.BlockOf) → in_front o ≡ Some u → connects o ≡ false
    by None e = absurd (cc)
    by (Some b) e = in_front_solid b u e

-- for other texts the next level is what is in front
pub base_front : (s : Source) (k : ℕ) → is_connected s.tables k ≡ false → base s.tables k ≡ prefix_of s.tables k
unfolding base prefix_of is_connected
base_front s k c = by (slice_get s.tables.blocks k) c
  where
    by : (o : Option scope.BlockOf) → connects o ≡ false → base_in o ≡ in_front o
    by None c = refl
    by (Some b) c = sym (if_not (is_connection b.kind) None b.base c)

class_solid : (o : Option Text) → is_class o ≡ true → is_connection_text o ≡ false
class_solid None e = absurd (cc)
class_solid (Some (BlockText begin ds ss)) e = absurd (cc)
class_solid (Some (ProcedureText result h a)) e = absurd (cc)
class_solid (Some (ClassText prefix h ds ss)) e = refl
class_solid (Some (PrefixedText class arguments ds ss)) e = absurd (cc)
class_solid (Some ConnectionText) e = absurd (cc)
class_solid (Some (StandardText which)) e = refl

pub level_text : (s : Source) (k : ℕ) (o : Option Text) (y : Level) → level_made s k o ≡ Some y → y.text ≡ k
level_text s k None y e = absurd (cc)
level_text s k (Some (BlockText begin ds ss)) y e = absurd (cc)
level_text s k (Some (ProcedureText result h a)) y e = absurd (cc)
level_text s k (Some (ClassText prefix h ds ss)) y e = ap (λ z. z.text) (sym (some_is e))
level_text s k (Some (PrefixedText class arguments ds ss)) y e = ap (λ z. z.text) (sym (some_is e))
level_text s k (Some ConnectionText) y e = absurd (cc)
level_text s k (Some (StandardText which)) y e = ap (λ z. z.text) (sym (some_is e))

module _ (s : Source) (agrees : Agrees s) where
  abbrev Solid : ℕ → Type 0
  Solid k = is_connected s.tables k ≡ false

  -- what is in front is no connection
  pub solid_front : (k u : ℕ) → prefix_of s.tables k ≡ Some u → is_connected s.tables u ≡ false
  solid_front k u e = agrees.connected u ∙ class_solid (text s u) ((agrees.prefixes k u e).class)

  -- nor is a level of a text that is none
  pub solid_level : (own k : ℕ) → LevelOf s.tables own k → is_connected s.tables own ≡ false → is_connected s.tables k ≡ false
  solid_level own k innermost c = c
  solid_level own k (outer {u = u} e r) c = solid_level u k r (solid_front own u e)

  pub level_on : (a b c : ℕ) → LevelOf s.tables a b → LevelOf s.tables b c → LevelOf s.tables a c
  level_on a b c innermost r = r
  level_on a b c (outer {u = u} e q) r = outer e (level_on u b c q r)

  -- ---- the list

  enough : (n m k : ℕ) → Ends s.tables n k → is_connected s.tables k ≡ false → n ≤ m → levels_from s.tables m k ≡ levels_from s.tables n k
  enough n zero k (last {n = i} e) c le = let no : ⊥ = omega (arith, le) in absurd no
  enough n (suc m) k (last {n = i} e) c le =
      let none = base_front s k c ∙ e in
      ap (λ z. levels_beyond (levels_from s.tables m) z ++ k ∷ []) none ∙ sym (ap (λ z. levels_beyond (levels_from s.tables i) z ++ k ∷ []) none)
  enough n zero k (before {n = i} e r) c le = let no : ⊥ = omega (arith, le) in absurd no
  enough n (suc m) k (before {n = i} {u = u} e r) c le =
      let next = base_front s k c ∙ e in
      ap (λ z. levels_beyond (levels_from s.tables m) z ++ k ∷ []) next ∙ ap (λ z. z ++ k ∷ []) (enough i m u r (solid_front k u e) (omega (arith, le))) ∙ sym (ap (λ z. levels_beyond (levels_from s.tables i) z ++ k ∷ []) next)

  first_from : (n k : ℕ) → Ends s.tables n k → prefix_of s.tables k ≡ None → is_connected s.tables k ≡ false → levels_from s.tables n k ≡ k ∷ []
  first_from n k (last {n = i} e) none c = ap (λ z. levels_beyond (levels_from s.tables i) z ++ k ∷ []) (base_front s k c ∙ e)
  first_from n k (before e r) none c = absurd (cc)

  pub levels_first : (k : ℕ) → prefix_of s.tables k ≡ None → is_connected s.tables k ≡ false → levels_of s k ≡ k ∷ []
  unfolding levels_of
  levels_first k e c = first_from (length s.tables.blocks) k (agrees.ends k) e c

  behind_from : (n m k u : ℕ) → Ends s.tables n k → n ≤ m → prefix_of s.tables k ≡ Some u → levels_from s.tables n k ≡ levels_from s.tables m u ++ k ∷ []
  behind_from n m k u (last e) le f = absurd (cc)
  behind_from n m k u (before {n = i} {u = v} e r) le f =
      let c = front_solid s k u f in
      let same : v ≡ u = same_get (prefix_of s.tables k) v u e f in
      let r2 = subst (λ z. Ends s.tables i z) same r in
      ap (λ z. levels_beyond (levels_from s.tables i) z ++ k ∷ []) (base_front s k c ∙ f) ∙ ap (λ z. z ++ k ∷ []) (sym (enough i m u r2 (solid_front k u f) (omega (arith, le))))

  pub levels_behind : (k u : ℕ) → prefix_of s.tables k ≡ Some u → levels_of s k ≡ levels_of s u ++ k ∷ []
  unfolding levels_of
  levels_behind k u e = behind_from (length s.tables.blocks) (length s.tables.blocks) k u (agrees.ends k) (omega arith) e

  -- the text itself is the last one
  pub levels_last : (k : ℕ) → is_connected s.tables k ≡ false → (xs : List ℕ) × (levels_of s k ≡ xs ++ k ∷ [])
  levels_last k c = by (prefix_of s.tables k) refl
    where
      by : (o : Option ℕ) → prefix_of s.tables k ≡ o → (xs : List ℕ) × (levels_of s k ≡ xs ++ k ∷ [])
      by None e = ([], levels_first k e c)
      by (Some u) e = (levels_of s u, levels_behind k u e)

  pub levels_some : (k : ℕ) → is_connected s.tables k ≡ false → 0 < length (levels_of s k)
  levels_some k c =
      let x = levels_last k c in
      let n = ap length x.1 ∙ one_more x.0 k in
      omega (arith, n)

  -- ---- places

  pub level_place : (own k n : ℕ) → LevelOf s.tables own k → is_connected s.tables own ≡ false → suc n ≡ length (levels_of s k) → slice_get (levels_of s own) n ≡ Some k
  level_place own k n innermost c e =
      let x = levels_last own c in
      let long : suc n ≡ suc (length x.0) = e ∙ ap length x.1 ∙ one_more x.0 own in
      ap (λ z. slice_get z n) x.1 ∙ at_end x.0 own n (omega (arith, long))
  level_place own k n (outer {u = u} f r) c e =
      ap (λ z. slice_get z n) (levels_behind own u f) ∙ at_front (levels_of s u) (own ∷ []) n k (level_place u k n r (solid_front own u f) e)

  abbrev Placed : (own k n : ℕ) → Type 0
  Placed own k n = LevelOf s.tables own k × (suc n ≡ length (levels_of s k))

  only_place : (own k n : ℕ) → prefix_of s.tables own ≡ None → is_connected s.tables own ≡ false → slice_get (own ∷ []) n ≡ Some k → Placed own k n
  only_place own k (suc n) none c e = absurd (cc)
  only_place own k zero none c e =
      let same : own ≡ k = some_is e in
      (subst (λ z. LevelOf s.tables own z) same innermost, subst (λ z. 1 ≡ length (levels_of s z)) same (sym (ap length (levels_first own none c))))

  place_from : (f own k n : ℕ) → Ends s.tables f own → is_connected s.tables own ≡ false → slice_get (levels_of s own) n ≡ Some k → Placed own k n
  place_from f own k n (last e) c g = only_place own k n e c (sym (ap (λ z. slice_get z n) (levels_first own e c)) ∙ g)
  place_from f own k n (before {n = i} {u = u} e r) c g =
      ⊎_elim (λ h. let x = place_from i u k n r (solid_front own u e) h in (outer e x.0, x.1))
      (λ h.
      let same : own ≡ k = sym h.1 in
      let long : suc n ≡ length (levels_of s own) = ap suc h.0 ∙ sym (one_more (levels_of s u) own) ∙ sym (ap length (levels_behind own u e)) in
      (subst (λ z. LevelOf s.tables own z) same innermost, subst (λ z. suc n ≡ length (levels_of s z)) same long))
      (front_or_end (levels_of s u) own n k (sym (ap (λ z. slice_get z n) (levels_behind own u e)) ∙ g))

  pub place_level : (own k n : ℕ) → is_connected s.tables own ≡ false → slice_get (levels_of s own) n ≡ Some k → LevelOf s.tables own k × (suc n ≡ length (levels_of s k))
  place_level own k n c e = place_from (length s.tables.blocks) own k n (agrees.ends own) c e

  -- the level at the first place has nothing in front of it
  pub first_front : (own k : ℕ) → is_connected s.tables own ≡ false → slice_get (levels_of s own) 0 ≡ Some k → prefix_of s.tables k ≡ None
  first_front own k c e = by (prefix_of s.tables k) refl
    where
      by : (o : Option ℕ) → prefix_of s.tables k ≡ o → prefix_of s.tables k ≡ None
      by None f = f
      by (Some u) f =
          let x = (place_level own k 0 c e).1 in
          let more = ap length (levels_behind k u f) ∙ one_more (levels_of s u) k in
          let some = levels_some u (solid_front k u f) in
          let no : ⊥ = omega (arith, x, more, some) in
          absurd no

  -- each other level has the one before it in front
  pub next_front : (own k next n : ℕ) → is_connected s.tables own ≡ false → slice_get (levels_of s own) n ≡ Some k → slice_get (levels_of s own) (suc n) ≡ Some next → prefix_of s.tables next ≡ Some k
  next_front own k next n c e f = by (place_level own next (suc n) c f) (prefix_of s.tables next) refl
    where
      by : LevelOf s.tables own next × (suc (suc n) ≡ length (levels_of s next)) → (o : Option ℕ) → prefix_of s.tables next ≡ o → prefix_of s.tables next ≡ Some k
      by x None g =
          let one = ap length (levels_first next g (solid_level own next x.0 c)) in
          let long = x.1 in
          let no : ⊥ = omega (arith, one, long) in
          absurd no
      by x (Some u) g =
          let more : length (levels_of s next) ≡ suc (length (levels_of s u)) = ap length (levels_behind next u g) ∙ one_more (levels_of s u) next in
          let long = x.1 in
          let there = level_place own u n (level_on own next u x.0 (outer g innermost)) c (omega (arith, more, long)) in
          g ∙ sym there ∙ e

  -- ---- the test

  level_by : (n t k : ℕ) → is_connected s.tables t ≡ false → some_level_of s.tables n (λ b. nat_eq b k) t ≡ true → LevelOf s.tables t k
  unfolding some_level_of
  level_by zero t k c e = absurd (cc)
  level_by (suc n) t k c e =
      or_cases (nat_eq t k) (holds (λ b. some_level_of s.tables n (λ b. nat_eq b k) b) (base s.tables t)) e
      (λ f. subst (λ z. LevelOf s.tables t z) (are_same t k f) innermost)
      (λ f. by (λ u g h. level_by n u k g h) (prefix_of s.tables t) refl (sym (ap (holds (λ b. some_level_of s.tables n (λ b. nat_eq b k) b)) (base_front s t c)) ∙ f))
    where
      by : ((u : ℕ) → is_connected s.tables u ≡ false → some_level_of s.tables n (λ b. nat_eq b k) u ≡ true → LevelOf s.tables u k) → (o : Option ℕ) → prefix_of s.tables t ≡ o → holds (λ b. some_level_of s.tables n (λ b. nat_eq b k) b) (prefix_of s.tables t) ≡ true → LevelOf s.tables t k
      by rest None g f = let none : false ≡ true = sym (ap (holds (λ b. some_level_of s.tables n (λ b. nat_eq b k) b)) g) ∙ f in absurd (cc)
      by rest (Some u) g f = outer g (rest u (solid_front t u g) (sym (ap (holds (λ b. some_level_of s.tables n (λ b. nat_eq b k) b)) g) ∙ f))

  pub has_level_is : (t k : ℕ) → has_level s.tables t k ≡ true → is_connected s.tables t ≡ false → LevelOf s.tables t k
  unfolding has_level
  has_level_is t k e c = level_by (length s.tables.blocks) t k c e

  tested_by : (n m t k : ℕ) → Ends s.tables n t → n ≤ m → LevelOf s.tables t k → is_connected s.tables t ≡ false → some_level_of s.tables m (λ b. nat_eq b k) t ≡ true
  unfolding some_level_of
  tested_by n zero t k (last e) le r c = let no : ⊥ = omega (arith, le) in absurd no
  tested_by n zero t k (before e q) le r c = let no : ⊥ = omega (arith, le) in absurd no
  tested_by n (suc m) t k q le innermost c = ap (λ z. z || holds (λ b. some_level_of s.tables m (λ b. nat_eq b t) b) (base s.tables t)) (tested_same t)
  tested_by n (suc m) t k (last e) le (outer {u = u} f r) c = absurd (cc)
  tested_by n (suc m) t k (before {n = i} {u = v} e q) le (outer {u = u} f r) c =
      let same : v ≡ u = same_get (prefix_of s.tables t) v u e f in
      let q2 = subst (λ z. Ends s.tables i z) same q in
      or_true (nat_eq t k) _ (ap (holds (λ b. some_level_of s.tables m (λ b. nat_eq b k) b)) (base_front s t c ∙ f) ∙ tested_by i m u k q2 (omega (arith, le)) r (solid_front t u f))

  pub level_has : (t k : ℕ) → LevelOf s.tables t k → is_connected s.tables t ≡ false → has_level s.tables t k ≡ true
  unfolding has_level
  level_has t k r c = tested_by (length s.tables.blocks) (length s.tables.blocks) t k (agrees.ends t) (omega arith) r c

  -- ---- what is inside a level

  abbrev Once : (ks : List ℕ) (k n : ℕ) → Type 0
  Once ks k n = (m : ℕ) → m < n → slice_get ks m ≡ Some k → ⊥

  inside_at : (n k a : ℕ) (ks : List ℕ) (y : Level) (ys : List Level) → y.text ≡ a → levels_made s ks ≡ Some ys → slice_get (a ∷ ks) n ≡ Some k → Once (a ∷ ks) k n → ((m : ℕ) → suc m ≡ n → slice_get ks m ≡ Some k → Once ks k m → levels_made s (drop (suc m) ks) ≡ Some (levels_inside k ys)) → levels_made s (drop n ks) ≡ Some (levels_inside k (y ∷ ys))
  inside_at zero k a ks y ys t g f once rest =
      let same : y.text ≡ k = t ∙ some_is f in
      g ∙ ap Some (sym (ap (λ z. if z then ys else levels_inside k ys) (same_numbers y.text k same)))
  inside_at (suc n) k a ks y ys t g f once rest =
      let other : y.text ≢ k = λ same. once 0 (omega arith) (ap Some (sym t ∙ same)) in
      rest n refl f (λ m lt h. once (suc m) (omega (arith, lt)) h) ∙ ap Some (sym (ap (λ z. if z then ys else levels_inside k ys) (other_numbers y.text k other)))

  inside_from : (ks : List ℕ) (xs : List Level) (n k : ℕ) → levels_made s ks ≡ Some xs → slice_get ks n ≡ Some k → Once ks k n → levels_made s (drop (suc n) ks) ≡ Some (levels_inside k xs)
  inside_from [] xs n k e f once = absurd (cc)
  inside_from (a ∷ ks) xs n k e f once = by (λ ys m g h o. inside_from ks ys m k g h o) (level_made s a (text s a)) (levels_made s ks) refl refl e
    where
      by : ((ys : List Level) (m : ℕ) → levels_made s ks ≡ Some ys → slice_get ks m ≡ Some k → Once ks k m → levels_made s (drop (suc m) ks) ≡ Some (levels_inside k ys)) → (o : Option Level) (os : Option (List Level)) → level_made s a (text s a) ≡ o → levels_made s ks ≡ os → both o os ≡ Some xs → levels_made s (drop n ks) ≡ Some (levels_inside k xs)
      by rest None os g h e = absurd (cc)
      by rest (Some y) None g h e = absurd (cc)
      by rest (Some y) (Some ys) g h e =
          let same : y ∷ ys ≡ xs = some_is e in
          subst (λ z. levels_made s (drop n ks) ≡ Some (levels_inside k z)) same (inside_at n k a ks y ys (level_text s a (text s a) y g) h f once (λ m e q o. rest ys m h q o))

  pub inside_made : (own k n : ℕ) (xs : List Level) → is_connected s.tables own ≡ false → levels_made s (levels_of s own) ≡ Some xs → slice_get (levels_of s own) n ≡ Some k → levels_made s (drop (suc n) (levels_of s own)) ≡ Some (levels_inside k xs)
  inside_made own k n xs c e f =
      inside_from (levels_of s own) xs n k e f (λ m lt g.
      let there = (place_level own k n c f).1 in
      let other = (place_level own k m c g).1 in
      omega (arith, there, other, lt))
