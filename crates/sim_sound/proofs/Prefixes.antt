-- The levels of a text: itself, and those of its prefix.
use Rattle.std.proofs.Common.{◌≡◌, ◌≤◌, ℕ, zero, suc, Bool, true, false, length, Option, Some, None, ◌⊎◌, inl, inr, ⊎_elim, refl, sym, ap, ◌∙◌, subst, arith}
use Rattle.std.specs.Prelude.{◌||◌, nat_eq}
use Rattle.sim_scope.specs.Access.{encloser}
use Rattle.sim_scope.specs.Levels.{base, has_level, holds, some_level_of}
use Rattle.sim_scope.specs.Source.{Source, level_of}
use Rattle.sim_meaning.specs.Attributes.{is_connection}
use Rattle.sim_meaning.specs.Levels.{has_levels, is_class}
use Rattle.sim_meaning.specs.Texts.{BlockText, ClassText, ConnectionText, PrefixedText, ProcedureText, StandardText, Text, text}
use Rattle.sim_sound.specs.Typed.{Ends, Home, PrefixTyped, Typed, connected, outermost, prefixed, stands}
use Rattle.sim_sound.proofs.Lists.{equal_numbers, no_some, numbers_equal, same_some}

pub data LevelOf (s : Source) : (inner outer : ℕ) → Type 0 where
  same_level : {k : ℕ} → LevelOf s k k
  prefix_level : {k b u : ℕ} → base s.tables k ≡ Some b → LevelOf s b u → LevelOf s k u

pub same_is : (s : Source) (a b : ℕ) → a ≡ b → LevelOf s a b
same_is s a b e = subst (LevelOf s a) e same_level

pub level_then : (s : Source) {a b c : ℕ} → LevelOf s a b → LevelOf s b c → LevelOf s a c
level_then s same_level y = y
level_then s (prefix_level e x) y = prefix_level e (level_then s x y)

-- ---- as it is tested

or_left : (p q : Bool) → p ≡ true → (p || q) ≡ true
or_left true q e = refl
or_left false q e = absurd (cc)

or_right : (p q : Bool) → q ≡ true → (p || q) ≡ true
or_right true q e = refl
or_right false q e = e

level_by : (s : Source) (n k u : ℕ) → some_level_of s.tables n (λ b. nat_eq b u) k ≡ true → LevelOf s k u
unfolding some_level_of
level_by s zero k u e = absurd (cc)
level_by s (suc n) k u e = by_first (nat_eq k u) refl e (λ b f. level_by s n b u f)
  where
    by_base : (x : Option ℕ) → base s.tables k ≡ x → holds (λ b. some_level_of s.tables n (λ b. nat_eq b u) b) x ≡ true → ((b : ℕ) → some_level_of s.tables n (λ b. nat_eq b u) b ≡ true → LevelOf s b u) → LevelOf s k u
    by_base None f g go = absurd (cc)
    by_base (Some b) f g go = prefix_level f (go b g)

    by_first : (t : Bool) → nat_eq k u ≡ t → (t || holds (λ b. some_level_of s.tables n (λ b. nat_eq b u) b) (base s.tables k)) ≡ true → ((b : ℕ) → some_level_of s.tables n (λ b. nat_eq b u) b ≡ true → LevelOf s b u) → LevelOf s k u
    by_first true f g go = same_is s k u (numbers_equal k u f)
    by_first false f g go = by_base (base s.tables k) refl g go

pub level_is : (s : Source) (k u : ℕ) → has_level s.tables k u ≡ true → LevelOf s k u
unfolding has_level
level_is s k u e = level_by s (length s.tables.blocks) k u e

level_tested : (s : Source) (n k u : ℕ) → Ends s.tables n k → LevelOf s k u → some_level_of s.tables n (λ b. nat_eq b u) k ≡ true
unfolding some_level_of
level_tested s (suc n) k _ e same_level = or_left (nat_eq k k) _ (equal_numbers k k refl)
level_tested s (suc n) k u (outermost none) (prefix_level {b = b} f x) = absurd (no_some (base s.tables k) b none f)
level_tested s (suc n) k u (prefixed {b = c} g e) (prefix_level {b = b} f x) =
    let same : c ≡ b = same_some (base s.tables k) c b g f in
    ap (λ z. nat_eq k u || holds (λ b. some_level_of s.tables n (λ b. nat_eq b u) b) z) f ∙ or_right (nat_eq k u) _ (level_tested s n b u (subst (Ends s.tables n) same e) x)
level_tested s zero k u e x = elim e [ ]

-- ---- what a level is

pub class_solid : (x : Option Text) → is_class x ≡ true → is_connection x ≡ false
class_solid (Some (ClassText prefix h ds ss)) e = refl
class_solid (Some (StandardText which)) e = refl
class_solid None e = absurd (cc)
class_solid (Some (BlockText begin ds ss)) e = absurd (cc)
class_solid (Some (ProcedureText result h a)) e = absurd (cc)
class_solid (Some (PrefixedText class arguments ds ss)) e = absurd (cc)
class_solid (Some ConnectionText) e = absurd (cc)

pub levels_solid : (x : Option Text) → has_levels x ≡ true → is_connection x ≡ false
levels_solid (Some (ClassText prefix h ds ss)) e = refl
levels_solid (Some (PrefixedText class arguments ds ss)) e = refl
levels_solid None e = absurd (cc)
levels_solid (Some (BlockText begin ds ss)) e = absurd (cc)
levels_solid (Some (ProcedureText result h a)) e = absurd (cc)
levels_solid (Some (StandardText which)) e = refl
levels_solid (Some ConnectionText) e = absurd (cc)

levels_there : (x : Option Text) → has_levels x ≡ true → (y : Text) × (x ≡ Some y)
levels_there (Some y) e = (y, refl)
levels_there None e = absurd (cc)

connection_text : (x : Option Text) → is_connection x ≡ true → x ≡ Some ConnectionText
connection_text None e = absurd (cc)
connection_text (Some ConnectionText) e = refl
connection_text (Some (BlockText begin ds ss)) e = absurd (cc)
connection_text (Some (ProcedureText result h a)) e = absurd (cc)
connection_text (Some (ClassText prefix h ds ss)) e = absurd (cc)
connection_text (Some (PrefixedText class arguments ds ss)) e = absurd (cc)
connection_text (Some (StandardText which)) e = absurd (cc)

pub is_connection_text : (s : Source) (t : ℕ) → is_connection (text s t) ≡ true → text s t ≡ Some ConnectionText
is_connection_text s t e = connection_text (text s t) e

-- ---- the nearest text that is no connection

pub home_solid : (s : Source) {k h : ℕ} → Home s k h → is_connection (text s h) ≡ false
home_solid s (stands e solid) = solid
home_solid s (connected e is x) = home_solid s x

home_place : (s : Source) {k h : ℕ} → Home s k h → (v : ℕ) × (encloser s.tables k ≡ Some v)
home_place s (stands {u = u} e solid) = (u, e)
home_place s (connected {u = u} e is x) = (u, e)

-- where the text around is none, it is that
home_first : (s : Source) {k h : ℕ} → Home s k h → (v : ℕ) → encloser s.tables k ≡ Some v → is_connection (text s v) ≡ false → v ≡ h
home_first s (stands {k = k} {u = u} e solid) v f other = same_some (encloser s.tables k) v u f e
home_first s (connected {k = k} {u = u} e is x) v f other = absurd (let same : v ≡ u = same_some (encloser s.tables k) v u f e in let none : is_connection (text s u) ≡ false = subst (λ z. is_connection (text s z) ≡ false) same other in cc)

module _ (s : Source) (ok : Typed s) where
  -- a connection is on the level of the text around
  pub connection_level : (t u : ℕ) → is_connection (text s t) ≡ true → encloser s.tables t ≡ Some u → level_of s t ≡ level_of s u
  connection_level t u is e =
      let c = ok.texts t ConnectionText (is_connection_text s t is) in
      let w = c.stands in
      let same : w.0 ≡ u = same_some (encloser s.tables t) w.0 u w.1 e in
      subst (λ z. level_of s t ≡ level_of s z) same w.2

  home_level : {k h : ℕ} → Home s k h → (v : ℕ) → encloser s.tables k ≡ Some v → level_of s v ≡ level_of s h
  home_level (stands {k = k} {u = u} e solid) v f = ap (level_of s) (same_some (encloser s.tables k) v u f e)
  home_level (connected {k = k} {u = u} e is x) v f =
      let more = home_place s x in
      ap (level_of s) (same_some (encloser s.tables k) v u f e) ∙ connection_level u more.0 is more.1 ∙ home_level x more.0 more.1

  -- it is found by the test
  pub level_has : (k u : ℕ) → is_connection (text s k) ≡ false → LevelOf s k u → has_level s.tables k u ≡ true
  unfolding has_level
  level_has k u solid x = level_tested s (length s.tables.blocks) k u ((ok.prefixes).ends k solid) x

  prefix_of : (k b : ℕ) → is_connection (text s k) ≡ false → base s.tables k ≡ Some b → PrefixTyped s k b
  prefix_of k b solid e = (ok.prefixes).prefixed_by k b solid e

  prefix_solid : (k b : ℕ) → is_connection (text s k) ≡ false → base s.tables k ≡ Some b → is_connection (text s b) ≡ false
  prefix_solid k b solid e = class_solid (text s b) (prefix_of k b solid e).prefix

  pub level_solid : {k u : ℕ} → is_connection (text s k) ≡ false → LevelOf s k u → is_connection (text s u) ≡ false
  level_solid solid same_level = solid
  level_solid {k = k} solid (prefix_level {b = b} e x) = level_solid (prefix_solid k b solid e) x

  -- a class has levels
  class_of_text : (k : ℕ) (x : Option Text) → text s k ≡ x → is_class x ≡ true → has_levels x ≡ true
  class_of_text k (Some (ClassText prefix h ds ss)) e class = refl
  class_of_text k (Some (StandardText which)) e class = refl
  class_of_text k None e class = absurd (cc)
  class_of_text k (Some _) e class = absurd (cc)

  pub class_has : (k : ℕ) → is_class (text s k) ≡ true → has_levels (text s k) ≡ true
  class_has k class = class_of_text k (text s k) refl class

  -- each level of what has levels has levels
  pub level_has_levels : {k u : ℕ} → has_levels (text s k) ≡ true → LevelOf s k u → has_levels (text s u) ≡ true
  level_has_levels has same_level = has
  level_has_levels {k = k} has (prefix_level {b = b} e x) = level_has_levels (class_has b (prefix_of k b (levels_solid (text s k) has) e).prefix) x

  -- and what has such a level has levels
  pub level_of_levels : {k u : ℕ} → is_connection (text s k) ≡ false → LevelOf s k u → has_levels (text s u) ≡ true → has_levels (text s k) ≡ true
  level_of_levels solid same_level has = has
  level_of_levels {k = k} solid (prefix_level {b = b} e x) has = (prefix_of k b solid e).has

  pub same_levels : {k u : ℕ} → is_connection (text s k) ≡ false → LevelOf s k u → has_levels (text s k) ≡ has_levels (text s u)
  same_levels solid same_level = refl
  same_levels {k = k} solid (prefix_level {b = b} e x) = let p = prefix_of k b solid e in p.has ∙ sym (level_has_levels (class_has b p.prefix) x)

  -- what has no levels has none but itself
  pub only_level : {k u : ℕ} → is_connection (text s k) ≡ false → has_levels (text s k) ≡ false → LevelOf s k u → k ≡ u
  only_level solid has_none same_level = refl
  only_level {k = k} solid has_none (prefix_level {b = b} e x) = absurd (let yes : has_levels (text s k) ≡ true = (prefix_of k b solid e).has in cc)

  -- All levels are on one level, since what stands around them is.
  chain_number : (n : ℕ) → ((k b : ℕ) → level_of s k ≤ n → is_connection (text s k) ≡ false → base s.tables k ≡ Some b → level_of s b ≡ level_of s k) → {k u : ℕ} → level_of s k ≤ n → is_connection (text s k) ≡ false → LevelOf s k u → level_of s k ≡ level_of s u
  chain_number n go le solid same_level = refl
  chain_number n go {k = k} le solid (prefix_level {b = b} e x) =
      let same = go k b le solid e in
      sym same ∙ chain_number n go (omega (arith, le, same)) (prefix_solid k b solid e) x

  prefix_number : (n k b : ℕ) → level_of s k ≤ n → is_connection (text s k) ≡ false → base s.tables k ≡ Some b → level_of s b ≡ level_of s k
  prefix_number zero k b le solid e =
      let p = prefix_of k b solid e in
      let place = home_place s p.around in
      let up = ok.levels k place.0 solid place.1 in
      absurd (omega (arith, le, up))
  prefix_number (suc n) k b le solid e =
      let p = prefix_of k b solid e in
      let place = home_place s p.around in
      let up = ok.levels k place.0 solid place.1 in
      let out = home_level p.around place.0 place.1 in
      let same = chain_number n (λ k b le solid e. prefix_number n k b le solid e) (omega (arith, le, up, out)) p.solid (level_is s p.outer p.outer_prefix p.declared) in
      ok.levels b p.outer_prefix (prefix_solid k b solid e) p.around_prefix ∙ ap suc (sym same) ∙ ap suc (sym out) ∙ sym up

  pub level_number : {k u : ℕ} → is_connection (text s k) ≡ false → LevelOf s k u → level_of s k ≡ level_of s u
  level_number {k = k} solid x = chain_number (level_of s k) (λ k' b le solid e. prefix_number (level_of s k) k' b le solid e) (omega arith) solid x

  -- each has a text
  pub level_words : {k u : ℕ} → is_connection (text s k) ≡ false → LevelOf s k u → (x : Text) → text s k ≡ Some x → (y : Text) × (text s u ≡ Some y)
  level_words solid same_level x is = (x, is)
  level_words {k = k} {u = u} solid (prefix_level {b = b} e y) x is = levels_there (text s u) (level_has_levels (class_has b (prefix_of k b solid e).prefix) y)

  -- what stands around a level is what stands around the text, or a level of the nearest that is no connection
  pub level_around : {k u : ℕ} → is_connection (text s k) ≡ false → LevelOf s k u → (w : ℕ) → encloser s.tables u ≡ Some w → (v : ℕ) × (encloser s.tables k ≡ Some v) × ((v ≡ w) ⊎ ((h : ℕ) × Home s k h × LevelOf s h w))
  level_around solid same_level w e = (w, e, inl refl)
  level_around {k = k} solid (prefix_level {b = b} f x) w e =
      let p = prefix_of k b solid f in
      let more = level_around (prefix_solid k b solid f) x w e in
      let from : LevelOf s p.outer p.outer_prefix = level_is s p.outer p.outer_prefix p.declared in
      let same : p.outer_prefix ≡ more.0 = same_some (encloser s.tables b) p.outer_prefix more.0 p.around_prefix more.1 in
      let next : LevelOf s p.outer more.0 = subst (LevelOf s p.outer) same from in
      let place = home_place s p.around in
      (place.0, place.1, inr (p.outer, p.around, ⊎_elim (λ is. subst (LevelOf s p.outer) is next) (λ l. level_then s next (subst (λ z. LevelOf s z w) (sym (home_first s l.1 more.0 more.1 (level_solid p.solid next))) l.2)) more.2))
