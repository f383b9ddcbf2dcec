-- The class `process` of a simulation block: how it is found, and what is a level of it.
use Rattle.std.proofs.Common.{◌≡◌, ◌≢◌, ℕ, zero, suc, Bool, true, false, List, [], ◌∷◌, ◌++◌, length, Option, Some, None, refl, ap, ◌∙◌, ⊎_elim, subst, arith}
use Rattle.std.proofs.lemmas.Bool.{cases_eq}
use Rattle.std.specs.Prelude.{◌+◌, ◌||◌, is_some}
use Rattle.sim_scope.specs.declared.types.StandardClass.{StandardClass}
use Rattle.sim_scope.specs.declared.types.StandardClass.TheVariants as standard
use Rattle.sim_scope.specs.Levels.{base, holds, is_for_prefixing, is_simulation_block, some_level_of}
use Rattle.sim_scope.specs.Source.{Source}
use Rattle.sim_meaning.specs.Attributes.{is_connection}
use Rattle.sim_meaning.specs.Levels.{has_levels, is_process_class, is_process_itself, is_process_text, is_simulation_text, is_standard_text, levels_beyond, levels_from, levels_of, or_else, process_among, process_behind, process_class, process_if}
use Rattle.sim_meaning.specs.Texts.{BlockText, ClassText, ConnectionText, PrefixedText, ProcedureText, StandardText, Text, text}
use Rattle.sim_sound.specs.Expressions.{ProcessClassThere}
use Rattle.sim_sound.specs.Typed.{Ends, Typed, outermost, prefixed}
use Rattle.sim_sound.proofs.Lists.{no_some, same_some}
use Rattle.sim_sound.proofs.Members.{NoSimulation, level_among, level_counted}
use Rattle.sim_sound.proofs.Prefixes.{LevelOf, level_has, level_solid, only_level, prefix_level, same_level}
use Rattle.sim_sound.proofs.Simulating.{NoProcess}
use Rattle.sim_sound.proofs.Sound.{NotStandard, PrefixedAt}

-- ---- the level that has `simulation` in front

module _ (s : Source) (ok : Typed s) where
  among_first : (xs ys : List ℕ) (p : ℕ) → process_among s xs ≡ Some p → process_among s (xs ++ ys) ≡ Some p
  among_first [] ys p e = absurd (cc)
  among_first (x ∷ xs) ys p e = by_first (process_behind s x) e (λ f. among_first xs ys p f)
    where
      by_first : (o : Option ℕ) → or_else o (process_among s xs) ≡ Some p → (process_among s xs ≡ Some p → process_among s (xs ++ ys) ≡ Some p) → or_else o (process_among s (xs ++ ys)) ≡ Some p
      by_first None f go = go f
      by_first (Some q) f go = f

  -- it is the outermost, and has the class behind it
  level_found : (n t k : ℕ) → Ends s.tables n t → LevelOf s t k → is_simulation_block s.tables k ≡ true → process_among s (levels_from s.tables n t) ≡ Some (k + 4)
  level_found zero t k ends at is = elim ends [ ]
  level_found (suc n) t _ ends same_level is =
      let c = ok.simulations t is in
      ap (λ z. process_among s (levels_beyond (levels_from s.tables n) z ++ t ∷ [])) c.first ∙ ap (λ z. or_else (process_if (is_standard_text is_process_class z) (t + 4)) None) c.process_is
  level_found (suc n) t k (outermost none) (prefix_level {b = b} e at) is = absurd (no_some (base s.tables t) b none e)
  level_found (suc n) t k (prefixed {b = c} g ends) (prefix_level {b = b} e at) is =
      let more = level_found n b k (subst (Ends s.tables n) (same_some (base s.tables t) c b g e) ends) at is in
      ap (λ z. process_among s (levels_beyond (levels_from s.tables n) z ++ t ∷ [])) e ∙ among_first (levels_from s.tables n b) (t ∷ []) (k + 4) more

  pub process_class_is : (t k : ℕ) → is_connection (text s t) ≡ false → LevelOf s t k → is_simulation_block s.tables k ≡ true → process_class s t ≡ Some (k + 4)
  unfolding process_class levels_of
  process_class_is t k solid at is = level_found (length s.tables.blocks) t k ((ok.prefixes).ends t solid) at is

  pub simulation_is : (t k : ℕ) → is_connection (text s t) ≡ false → LevelOf s t k → is_simulation_block s.tables k ≡ true → is_simulation_text s t ≡ true
  simulation_is t k solid at is = ap is_some (process_class_is t k solid at is)

  pub no_simulation : (t : ℕ) → is_connection (text s t) ≡ false → is_simulation_text s t ≡ false → NoSimulation s t
  no_simulation t solid none k is at = let yes = simulation_is t k solid at is in cc

  -- no level of what may stand in `new` has one in front
  some_prefixing : (n t k : ℕ) → Ends s.tables n t → LevelOf s t k → is_simulation_block s.tables k ≡ true → some_level_of s.tables n (is_simulation_block s.tables) t ≡ true
  unfolding some_level_of
  some_prefixing zero t k ends at is = elim ends [ ]
  some_prefixing (suc n) t _ ends same_level is = ap (λ z. z || holds (λ b. some_level_of s.tables n (is_simulation_block s.tables) b) (base s.tables t)) is
  some_prefixing (suc n) t k (outermost none) (prefix_level {b = b} e at) is = absurd (no_some (base s.tables t) b none e)
  some_prefixing (suc n) t k (prefixed {b = c} g ends) (prefix_level {b = b} e at) is =
      let more = some_prefixing n b k (subst (Ends s.tables n) (same_some (base s.tables t) c b g e) ends) at is in
      or_right (is_simulation_block s.tables t) (holds (λ b. some_level_of s.tables n (is_simulation_block s.tables) b) (base s.tables t)) (ap (holds (λ b. some_level_of s.tables n (is_simulation_block s.tables) b)) e ∙ more)
    where
      or_right : (p q : Bool) → q ≡ true → (p || q) ≡ true
      or_right true q e = refl
      or_right false q e = e

  pub not_prefixing : (t : ℕ) → is_connection (text s t) ≡ false → is_for_prefixing s.tables t ≡ false → NoSimulation s t
  unfolding is_for_prefixing
  not_prefixing t solid none k is at = let yes = some_prefixing (length s.tables.blocks) t k ((ok.prefixes).ends t solid) at is in cc

  -- ---- what is a level of `process`

  linkage_only : (k u : ℕ) → is_simulation_block s.tables k ≡ true → LevelOf s (k + 1) u → (which : StandardClass) × (text s u ≡ Some (StandardText which))
  linkage_only k u is at = by_level (k + 1) refl at
    where
      by_level : (t : ℕ) → t ≡ k + 1 → LevelOf s t u → (which : StandardClass) × (text s u ≡ Some (StandardText which))
      by_level t same same_level = (standard.Linkage, ap (text s) same ∙ ((ok.simulations k is).sets).linkage_is)
      by_level t same (prefix_level {b = b} e at) = absurd (no_some (base s.tables t) b (ap (base s.tables) same ∙ ((ok.simulations k is).sets).first) e)

  link_only : (k u : ℕ) → is_simulation_block s.tables k ≡ true → LevelOf s (k + 1 + 1) u → (which : StandardClass) × (text s u ≡ Some (StandardText which))
  link_only k u is at = by_level (k + 1 + 1) refl at
    where
      by_level : (t : ℕ) → t ≡ k + 1 + 1 → LevelOf s t u → (which : StandardClass) × (text s u ≡ Some (StandardText which))
      by_level t same same_level = (standard.Link, ap (text s) same ∙ ((ok.simulations k is).sets).link_is)
      by_level t same (prefix_level {b = b} e at) = linkage_only k u is (subst (λ z. LevelOf s z u) (same_some (base s.tables t) b (k + 1) e (ap (base s.tables) same ∙ ((ok.simulations k is).sets).link_prefix)) at)

  -- each is a class of SIMSET or `process` itself
  process_only : (k u : ℕ) → is_simulation_block s.tables k ≡ true → LevelOf s (k + 4) u → (which : StandardClass) × (text s u ≡ Some (StandardText which))
  process_only k u is at = by_level (k + 4) refl at
    where
      by_level : (t : ℕ) → t ≡ k + 4 → LevelOf s t u → (which : StandardClass) × (text s u ≡ Some (StandardText which))
      by_level t same same_level = (standard.Process, ap (text s) same ∙ (ok.simulations k is).process_is)
      by_level t same (prefix_level {b = b} e at) =
          let q : b ≡ k + 2 = same_some (base s.tables t) b (k + 2) e (ap (base s.tables) same ∙ (ok.simulations k is).process_prefix) in
          link_only k u is (subst (λ z. LevelOf s z u) (let r : b ≡ k + 1 + 1 = omega (arith, q) in r) at)

  -- of which only the last is `process`
  linkage_no_process : (k u : ℕ) → is_simulation_block s.tables k ≡ true → LevelOf s (k + 1) u → text s u ≡ Some (StandardText standard.Process) → ⊥
  linkage_no_process k u is at e = by_level (k + 1) refl at
    where
      by_level : (t : ℕ) → t ≡ k + 1 → LevelOf s t u → ⊥
      by_level t same same_level = let f = ap (text s) same ∙ ((ok.simulations k is).sets).linkage_is in cc
      by_level t same (prefix_level {b = b} q at) = no_some (base s.tables t) b (ap (base s.tables) same ∙ ((ok.simulations k is).sets).first) q

  link_no_process : (k u : ℕ) → is_simulation_block s.tables k ≡ true → LevelOf s (k + 1 + 1) u → text s u ≡ Some (StandardText standard.Process) → ⊥
  link_no_process k u is at e = by_level (k + 1 + 1) refl at
    where
      by_level : (t : ℕ) → t ≡ k + 1 + 1 → LevelOf s t u → ⊥
      by_level t same same_level = let f = ap (text s) same ∙ ((ok.simulations k is).sets).link_is in cc
      by_level t same (prefix_level {b = b} q at) = linkage_no_process k u is (subst (λ z. LevelOf s z u) (same_some (base s.tables t) b (k + 1) q (ap (base s.tables) same ∙ ((ok.simulations k is).sets).link_prefix)) at) e

  pub only_process : (k u : ℕ) → is_simulation_block s.tables k ≡ true → LevelOf s (k + 4) u → text s u ≡ Some (StandardText standard.Process) → u ≡ k + 4
  only_process k u is at e = by_level (k + 4) refl at
    where
      by_level : (t : ℕ) → t ≡ k + 4 → LevelOf s t u → u ≡ k + 4
      by_level t same same_level = same
      by_level t same (prefix_level {b = b} q at) =
          let r : b ≡ k + 2 = same_some (base s.tables t) b (k + 2) q (ap (base s.tables) same ∙ (ok.simulations k is).process_prefix) in
          absurd (link_no_process k u is (subst (λ z. LevelOf s z u) (let r : b ≡ k + 1 + 1 = omega (arith, r) in r) at) e)

  -- so a main program has no attribute of another class
  pub main_bare : (k u : ℕ) → is_simulation_block s.tables k ≡ true → LevelOf s (k + 4) u → NotStandard s u → ⊥
  main_bare k u is at own = let r = process_only k u is at in own r.0 r.1

-- ---- processes

-- a level that is not the innermost is the prefix of one
level_above : (s : Source) {v d u : ℕ} → base s.tables v ≡ Some d → LevelOf s d u → (c : ℕ) × LevelOf s v c × (base s.tables c ≡ Some u)
level_above s {v = v} f same_level = (v, same_level, f)
level_above s f (prefix_level g at) = let r = level_above s g at in (r.0, prefix_level f r.1, r.2)

above_level : (s : Source) {t u : ℕ} → LevelOf s t u → t ≢ u → (c : ℕ) × LevelOf s t c × (base s.tables c ≡ Some u)
above_level s same_level differ = absurd (differ refl)
above_level s (prefix_level e at) differ = level_above s e at

module _ (s : Source) (ok : Typed s) (t : ℕ) (solid : is_connection (text s t) ≡ false) where
  -- a class `process` that is a level of a class was brought by `simulation`, if it is where it is that class
  pub process_there : (u : ℕ) → (text s t ≡ Some (StandardText standard.Process) → ProcessClassThere s t) → text s u ≡ Some (StandardText standard.Process) → LevelOf s t u → ProcessClassThere s u
  process_there u itself is at =
      ⊎_elim
      (λ same. subst (ProcessClassThere s) same (itself (ap (text s) same ∙ is)))
      (λ differ. let r = above_level s at differ in ok.processes r.0 u (level_solid s ok solid r.1) r.2 is)
      (cases_eq t u)

  pub process_text : (u : ℕ) (x : Option Text) → text s u ≡ x → is_standard_text is_process_class x ≡ true → text s u ≡ Some (StandardText standard.Process)
  process_text u (Some (StandardText standard.Process)) e is = e
  process_text u (Some (StandardText standard.Linkage)) e is = absurd (cc)
  process_text u (Some (StandardText standard.Link)) e is = absurd (cc)
  process_text u (Some (StandardText standard.Head)) e is = absurd (cc)
  process_text u None e is = absurd (cc)
  process_text u (Some (BlockText begin ds ss)) e is = absurd (cc)
  process_text u (Some (ProcedureText result h a)) e is = absurd (cc)
  process_text u (Some (ClassText prefix h ds ss)) e is = absurd (cc)
  process_text u (Some (PrefixedText class es ds ss)) e is = absurd (cc)
  process_text u (Some ConnectionText) e is = absurd (cc)

  -- objects are processes where it is a level of their class
  pub some_process : is_process_text s t ≡ true → (u : ℕ) × (text s u ≡ Some (StandardText standard.Process)) × LevelOf s t u
  unfolding is_process_text levels_of
  some_process e =
      let r = level_among s (λ u. is_standard_text is_process_class (text s u)) (length s.tables.blocks) t e in
      (r.0, process_text r.0 (text s r.0) refl r.2, r.1)

  pub no_process : is_process_text s t ≡ false → NoProcess s t
  unfolding is_process_text levels_of
  no_process none u is at =
      let yes = level_counted s (λ u. is_standard_text is_process_class (text s u)) (length s.tables.blocks) t u ((ok.prefixes).ends t solid) at (ap (is_standard_text is_process_class) is) in
      cc

pub itself_process : (s : Source) (ok : Typed s) (k : ℕ) → is_connection (text s k) ≡ false → is_process_itself s k ≡ true → text s k ≡ Some (StandardText standard.Process)
unfolding is_process_itself
itself_process s ok k solid is = process_text s ok k solid k (text s k) refl is

-- what has no levels is no process, and neither is a block
pub plain_no_process : (s : Source) → Typed s → (k : ℕ) → is_connection (text s k) ≡ false → has_levels (text s k) ≡ false → NoProcess s k
plain_no_process s ok k solid none u is at = let same = only_level s ok solid none at in let yes : has_levels (text s k) ≡ true = ap (λ z. has_levels (text s z)) same ∙ ap has_levels is in cc

pub block_no_process : (s : Source) → Typed s → (k : ℕ) → PrefixedAt s k → NoProcess s k
block_no_process s ok k p u is at = ok.no_set_block k u standard.Process p.class p.arguments p.declarations p.statements p.is (level_has s ok k u (ap is_connection p.is) at) is
