-- The attributes of a class, level by level.
use Rattle.std.proofs.Common.{◌≡◌, ◌<◌, ◌≤◌, ◌+◌, ◌-◌, ℕ, suc, Bool, true, false, if◌then◌else◌, List, [], ◌∷◌, ◌++◌, Option, Some, None, refl, sym, ap, ◌∙◌, drop, length, arith, append_assoc, append-nil}
use Rattle.std.proofs.lemmas.List.{drop_more, drop_all}
use Rattle.std.proofs.lemmas.List.Elements.{filter-append}
use Rattle.std.specs.List.{filter}
use Rattle.std.specs.Prelude.{slice_get, slice_index_or}
use Rattle.sim_base.specs.declared.numbering.DeclNo.{DeclNo}
use Rattle.sim_scope.specs.Levels.{base}
use Rattle.sim_scope.specs.Tables.{Tables}
use Rattle.inspect_types.specs.Visible.{Adds, AreVisible, Gathers, GathersLevels, attributes_beyond, attributes_of, is_visible, numbers_in, visible}

module _ (test : DeclNo → Bool) where
  pub gathers_all : (xs l : List DeclNo) → Gathers test xs l xs 0
  unfolding Gathers
  gathers_all xs l = refl

  pub gathers_next : (xs l now new : List DeclNo) (i : ℕ) (z : DeclNo) → Gathers test xs l now i → i < length l → Adds test now new (slice_index_or l i z ∷ []) → Gathers test xs l new (i + 1)
  unfolding Gathers Adds
  gathers_next xs l now new i z owed le is =
      let d = slice_index_or l i z in
      let rest = filter test (drop (i + 1) l) in
      ap (λ z. z ++ rest) is ∙ append_assoc now (if test d then d ∷ [] else []) rest
      ∙ ap (λ z. now ++ z) (one_more (test d) d rest)
      ∙ ap (λ z. now ++ filter test z) (sym (drop_more l i z le)) ∙ owed
    where
      one_more : (c : Bool) (d : DeclNo) (rest : List DeclNo) → (if c then d ∷ [] else []) ++ rest ≡ (if c then d ∷ rest else rest)
      one_more true d rest = refl
      one_more false d rest = refl

  pub gathers_end : (xs l now : List DeclNo) (i : ℕ) → Gathers test xs l now i → length l ≤ i → Adds test xs now l
  unfolding Gathers Adds
  gathers_end xs l now i owed le = sym (append-nil now) ∙ ap (λ z. now ++ filter test z) (sym (drop_all i l le)) ∙ owed

pub ruleset attributes = (gathers_all, gathers_next, gathers_end)

module _ (s : Tables) (token block : ℕ) where
  pub levels_all : GathersLevels s token block [] block 0
  unfolding GathersLevels visible
  levels_all = let e : length s.blocks - 0 ≡ length s.blocks = omega arith in ap (λ m. filter (is_visible s token block) (attributes_of s m block)) e

  one_level : (i level : ℕ) → i < length s.blocks
      → attributes_of s (length s.blocks - i) level ≡ numbers_in (slice_get s.blocks level) ++ attributes_beyond (λ b. attributes_of s (length s.blocks - (i + 1)) b) (base s level)
  unfolding attributes_of
  one_level i level le = let e : length s.blocks - i ≡ suc (length s.blocks - (i + 1)) = omega arith in ap (λ m. attributes_of s m level) e

  added : (now l new : List DeclNo) (i level : ℕ) → GathersLevels s token block now level i → i < length s.blocks → l ≡ numbers_in (slice_get s.blocks level) → Adds (is_visible s token block) now new l
      → new ++ filter (is_visible s token block) (attributes_beyond (λ b. attributes_of s (length s.blocks - (i + 1)) b) (base s level)) ≡ visible s token block
  unfolding GathersLevels Adds
  added now l new i level owed le there is =
      let rest = attributes_beyond (λ b. attributes_of s (length s.blocks - (i + 1)) b) (base s level) in
      let p = is_visible s token block in
      ap (λ z. z ++ filter p rest) (is ∙ ap (λ z. now ++ filter p z) there)
      ∙ append_assoc now (filter p (numbers_in (slice_get s.blocks level))) (filter p rest)
      ∙ ap (λ z. now ++ z) (sym (filter-append p (numbers_in (slice_get s.blocks level)) rest))
      ∙ ap (λ z. now ++ filter p z) (sym (one_level i level le)) ∙ owed

  pub levels_next : (now l new : List DeclNo) (i level outer : ℕ) (o : Option ℕ) → GathersLevels s token block now level i → i < length s.blocks → l ≡ numbers_in (slice_get s.blocks level) → Adds (is_visible s token block) now new l
      → o ≡ base s level → o ≡ Some outer → GathersLevels s token block new outer (i + 1)
  unfolding GathersLevels
  levels_next now l new i level outer o owed le there is further on =
      ap (λ z. new ++ filter (is_visible s token block) (attributes_beyond (λ b. attributes_of s (length s.blocks - (i + 1)) b) z)) (sym on ∙ further) ∙ added now l new i level owed le there is

  pub levels_last : (now l new : List DeclNo) (i level : ℕ) (o : Option ℕ) → GathersLevels s token block now level i → i < length s.blocks → l ≡ numbers_in (slice_get s.blocks level) → Adds (is_visible s token block) now new l
      → o ≡ base s level → o ≡ None → AreVisible s token block new
  unfolding AreVisible
  levels_last now l new i level o owed le there is further out =
      sym (append-nil new) ∙ ap (λ z. new ++ filter (is_visible s token block) (attributes_beyond (λ b. attributes_of s (length s.blocks - (i + 1)) b) z)) (sym out ∙ further) ∙ added now l new i level owed le there is

  pub levels_end : (now : List DeclNo) (i level : ℕ) → GathersLevels s token block now level i → length s.blocks ≤ i → AreVisible s token block now
  unfolding GathersLevels attributes_of AreVisible
  levels_end now i level owed le =
      let e : length s.blocks - i ≡ 0 = omega arith in
      sym (append-nil now) ∙ ap (λ m. now ++ filter (is_visible s token block) (attributes_of s m level)) (sym e) ∙ owed

pub ruleset levels = (levels_all, levels_next, levels_last, levels_end)
