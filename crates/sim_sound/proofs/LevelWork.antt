-- The cells of what has levels, and what is pending when it is entered: the declarations of all levels, and their statements.
use Rattle.std.proofs.Common.{Bool, List, None, Option, Some, [], ap, false, length, map, refl, subst, sym, true, ℕ, ◌∙◌, ◌∷◌, ◌≡◌}
use Rattle.sim_base.specs.declared.numbering.DeclNo.{DeclNo}
use Rattle.sim_scope.specs.declared.types.Entry.{Entry}
use Rattle.sim_scope.specs.declared.types.Entry.TheVariants as entry
use Rattle.sim_scope.specs.declared.types.SimType.{SimType}
use Rattle.sim_scope.specs.Scopes.{class_formals, entry_of}
use Rattle.sim_scope.specs.Source.{Source}
use Rattle.sim_meaning.specs.Entries.{numbers_of}
use Rattle.sim_meaning.specs.Levels.{has_levels}
use Rattle.sim_meaning.specs.Objects.{attributes_from, declared, level_work, levels_work, no_line, process_begun, process_done, with_inner}
use Rattle.sim_meaning.specs.Pending.{Declared, Do, Execs, Held, Instances, Item, Key, Level, held}
use Rattle.sim_meaning.specs.Texts.{text}
use Rattle.sim_sound.specs.Held.{Among, ArrayOf, Holds, IsFormal, Simply, entry_holds, held_by, key_holds}
use Rattle.sim_sound.specs.Typed.{ConstantHas, Distinct, Typed, arrays_of_block}
use Rattle.sim_sound.proofs.Cells.{held_no_array}
use Rattle.sim_sound.proofs.ClassCells.{Waiting, attributes_among, attributes_first}
use Rattle.sim_sound.proofs.ClassLevels.{AllLevels, LevelIn, LevelIs, LevelsAre, all_levels_of, arrays_in, arrays_of_levels, distinct_right, level_among, level_arrays_are, level_arrays_distinct, level_formal, level_key, levels_fine, number_from, process_levels, number_in, numbers_of_levels}
use Rattle.sim_sound.proofs.Lists.{same_some}
use Rattle.sim_sound.proofs.Prefixes.{LevelOf}
use Rattle.sim_sound.proofs.Running.{Begun, WorkFine}
use Rattle.sim_sound.proofs.Sound.{LevelsFine, ProcessText}
use Rattle.sim_sound.proofs.Values.{AllArrays, Component, KeyAmong, Kinds, Made, Waits, key_of, keys_in}

-- ---- the cells and the levels of what has levels

module _ (s : Source) (ok : Typed s) (k : ℕ) (has : has_levels (text s k) ≡ true) where
  -- its levels, with what they declare
  abbrev pub levels_there : AllLevels s ok (length s.tables.blocks) k
  levels_there = all_levels_of s ok k has

  abbrev pub level_list : List Level
  level_list = levels_there.list

  abbrev pub level_numbers : List DeclNo
  level_numbers = numbers_of_levels s level_list

  -- the formal parameters and constants of all levels
  level_parameters : (e : DeclNo) → Among e level_numbers → IsFormal (entry_of s.tables e) → Among e (class_formals s.tables k)
  level_parameters e a f =
      let y = number_from s e level_list a in
      let q = level_among s k y.0 level_list levels_there.are y.1 in
      level_formal s ok k has (y.0).text q.level e ((q.typed).parameters e y.2 f)

  level_constants : (e : DeclNo) (ty : SimType) → Among e level_numbers → entry_of s.tables e ≡ Some (entry.Constant ty) → ConstantHas s e ty
  level_constants e ty a f =
      let y = number_from s e level_list a in
      ((level_among s k y.0 level_list levels_there.are y.1).typed).constants e ty y.2 f

  -- the first cells, in which formal parameters wait for their values
  pub cells_wait : (v : AllArrays) (m : Instances) (n : ℕ) → Waiting s v m n k (class_formals s.tables k) (attributes_from s level_numbers)
  cells_wait v m n = attributes_first s v m n k has (class_formals s.tables k) level_numbers level_parameters level_constants

  -- its first cells, when the formal parameters have their values
  module _ (Cells : List Held) (same_keys : map key_of Cells ≡ map key_of (attributes_from s level_numbers)) (got : (d : DeclNo) → Among d (class_formals s.tables k) → held (Declared d.0) Cells ≡ None → ⊥) where
    -- it has the cells of each level
    of_level : (u : ℕ) (y : Level) → y.text ≡ u → LevelIs s k y → (key : Key) → KeyAmong key (keys_in s u (text s u)) → KeyAmong key (map key_of (attributes_from s (numbers_of s y.text)))
    of_level u y same q key a = subst (λ h. KeyAmong key (map key_of h)) q.own (subst (λ x. KeyAmong key (keys_in s y.text x)) q.is (subst (λ x. KeyAmong key (keys_in s x (text s x))) (sym same) a))

    pub keys : (u : ℕ) → LevelOf s k u → (key : Key) → KeyAmong key (keys_in s u (text s u)) → KeyAmong key (map key_of Cells)
    keys u at key a =
        let y = levels_there.covers u at in
        subst (KeyAmong key) (sym same_keys) (level_key s key y.0 level_list y.2 (of_level u y.0 y.1 (level_among s k y.0 level_list levels_there.are y.2) key a))

    -- the arrays that the levels declare are still to be made
    made_level : (y : Level) → LevelIs s k y → LevelIn y level_list → (c : DeclNo) (h : Holds) → key_holds s y.text (Declared c.0) ≡ Some (ArrayOf h) → Among c (numbers_of s y.text) → held (Declared c.0) Cells ≡ None → Among c (arrays_of_levels s level_list)
    made_level y q place c h is_array among none = by_entry (entry_of s.tables c) refl (sym (ap (λ x. entry_holds s x (entry_of s.tables c)) q.has) ∙ is_array)
      where
        simply : (kd : Rattle.sim_values.specs.declared.kind.Kind.Kind) → Some (Simply kd) ≡ Some (ArrayOf h) → ⊥
        simply kd e = cc

        by_entry : (e : Option Entry) → entry_of s.tables c ≡ e → entry_holds s true e ≡ Some (ArrayOf h) → Among c (arrays_of_levels s level_list)
        by_entry (Some (entry.Array element dimensions)) e f = arrays_in s c y level_list place ((q.typed).made c element dimensions among e)
        by_entry (Some (entry.Formal g)) e f = absurd (got c (level_parameters c (number_in s c y level_list place among) (subst IsFormal (sym e) tt)) none)
        by_entry (Some (entry.Variable type)) e f = absurd (held_no_array s type h (same_some (Some (held_by s type)) (held_by s type) (ArrayOf h) refl f))
        by_entry (Some (entry.Constant type)) e f = absurd (simply _ f)
        by_entry (Some _) e f = absurd (cc)
        by_entry None e f = absurd (cc)

    pub made : Made s k (arrays_of_levels s level_list) Cells
    made u at c h is_array there none =
        let y = levels_there.covers u at in
        let q = level_among s k y.0 level_list levels_there.are y.2 in
        made_level y.0 q y.2 c h (subst (λ x. key_holds s x (Declared c.0) ≡ Some (ArrayOf h)) (sym y.1) is_array) (attributes_among s c (numbers_of s (y.0).text) (of_level u y.0 y.1 q (Declared c.0) there)) none

-- ---- the statements of a level, with those of the levels inside

module _ (s : Source) (o : AllArrays) (m : Instances) (j t : ℕ) (Below : Waits → Type 0) (Outermost : Type 0) where
  abbrev Pending : List Item → List Kinds → Type 0
  Pending w ks = WorkFine s o m Below Outermost j t w [] ks

  -- a process detaches before them, and comes to its end behind them
  pub level_works : (x : Level) (xs : List Level) (w : List Item) (ks : List Kinds) → LevelsFine s m j t (x ∷ xs) → Pending w ks → Pending (level_work x xs w) ks
  level_works x xs w ks a work = begins (Do (Execs x.statements) ∷ behind x.inner_last) x.process a.2 ([], ks, (refl, refl, refl, (x.text, a.0, a.1)), inner x.inner_last)
    where
      behind : Bool → List Item
      behind last = with_inner last xs (process_done x.process w)

      done : (b : Bool) → (b ≡ true → ProcessText s t) → Pending (process_done b w) ks
      done true f = ([], ks, (refl, refl, refl, f refl), work)
      done false f = work

      inner : (last : Bool) → Pending (behind last) ks
      inner true = ([], ks, (refl, refl, refl, a.3), done x.process a.2)
      inner false = done x.process a.2

      begins : (v : List Item) (b : Bool) → (b ≡ true → ProcessText s t) → Pending v ks → Pending (process_begun b no_line v) ks
      begins v true f y = ([], Component ∷ ks, (refl, refl, f refl, refl), ([], ks, (refl, refl), y))
      begins v false f y = y

-- ---- what is pending then

module _ (s : Source) (ok : Typed s) (o : AllArrays) (m : Instances) (n k : ℕ) (has : has_levels (text s k) ≡ true) (todo : List DeclNo) (begun : Begun s o m n k todo) (Below : Waits → Type 0) (Outermost : Type 0) (end : Item) (at_end : WorkFine s o m Below Outermost n k (end ∷ []) [] []) where
  abbrev Wk : List Item → List DeclNo → List Kinds → Type 0
  Wk w todo ks = WorkFine s o m Below Outermost n k w todo ks

  -- each of its levels, with those inside
  inside : (ys : List Level) → LevelsAre s k ys → LevelsFine s m n k ys
  inside ys a =
      let y = (begun.here).now in
      subst (λ x. LevelsFine s m n x ys) begun.own (levels_fine s ok m n y (begun.here).lives (process_levels s ok o m begun.store n y (begun.here).lives) ys (subst (λ x. LevelsAre s x ys) (sym begun.own) a))

  statements_work : (y : Level) (ys : List Level) → LevelIs s k y → LevelsAre s k ys → Wk (level_work y ys (end ∷ [])) [] []
  statements_work y ys q a = level_works s o m n k Below Outermost y ys (end ∷ []) [] (inside (y ∷ ys) (q, a)) at_end

  declared_work : (ys : List Level) → LevelsAre s k ys → Distinct (arrays_of_levels s ys) → (w : List Item) → Wk w [] [] → Wk (declared ys w) (arrays_of_levels s ys) []
  declared_work [] a apart w x = x
  declared_work (y ∷ ys) a apart w x =
      let q = a.0 in
      let p = q.typed in
      let more = arrays_of_levels s ys in (
        more,
        [],
        (record { level = y.text; of_level = q.level; waits = refl; arrays = p.arrays; distinct = apart; own = p.own; all_arrays = level_arrays_are s ok k (y ∷ ys) a }, refl, refl),
        (more, [], (refl, refl), declared_work ys a.1 (distinct_right (arrays_of_block s y.declarations) more apart) w x),
      )

  all_work : (ys : List Level) → LevelsAre s k ys → Distinct (arrays_of_levels s ys) → Wk (levels_work ys end) (arrays_of_levels s ys) []
  all_work [] a apart = at_end
  all_work (y ∷ ys) a apart = declared_work (y ∷ ys) a apart (level_work y ys (end ∷ [])) (statements_work y ys a.0 a.1)

  pub works : Wk (levels_work (level_list s ok k has) end) (arrays_of_levels s (level_list s ok k has)) []
  works = let all = levels_there s ok k has in all_work all.list all.are (level_arrays_distinct s ok k all.list all.are all.distinct)
