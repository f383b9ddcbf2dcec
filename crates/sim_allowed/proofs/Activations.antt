-- The simulation around an activation: its level is one of a text around that is no connection.
use Rattle.std.proofs.Common.{◌≡◌, ℕ, zero, suc, Bool, true, false, length, Option, Some, None, refl, sym, ap, ◌∙◌, subst, arith, if◌then◌else◌}
use Rattle.std.proofs.lemmas.Bool.{false≢true}
use Rattle.std.proofs.lemmas.Bool.Decides.{nat_tests}
use Rattle.std.specs.Prelude.{◌||◌, nat_eq}
use Rattle.std.specs.Option.{option_or}
use Rattle.sim_base.specs.declared.numbering.DeclNo.{DeclNo}
use Rattle.sim_scope.specs.Access.{block_at, encloser}
use Rattle.sim_scope.specs.Levels.{base, has_level, holds, is_simulation_block, level_beyond, simulation_level_of, some_level_of}
use Rattle.sim_scope.specs.Source.{Source, block_around}
use Rattle.sim_scope.specs.Statements.{process_at, process_of, simulation_of}
use Rattle.sim_scope.specs.Tables.{Tables}
use Rattle.sim_meaning.specs.Attributes.{is_connection}
use Rattle.sim_meaning.specs.Levels.{has_levels}
use Rattle.sim_meaning.specs.Texts.{BlockText, ClassText, ConnectionText, PrefixedText, ProcedureText, StandardText, Text, text}
use Rattle.sim_sound.specs.Held.{Seen, further, itself}
use Rattle.sim_sound.specs.Statements.{SimulationIs}
use Rattle.sim_agree.specs.Facts.{Tabled}
use Rattle.sim_allowed.proofs.Simulations.{never_connected}

some_same : {A : Type 0} (a b : A) → Some a ≡ Some b → a ≡ b
some_same a b e = cc

same_number : (k : ℕ) → nat_eq k k ≡ true
same_number k = grind (arith, nat_tests)

or_true : (x y : Bool) → y ≡ true → (x || y) ≡ true
or_true true y e = refl
or_true false y e = e

-- ---- levels

-- the level that is found simulates, and is one of the levels
level_found : (T : Tables) (n k b : ℕ) → simulation_level_of T n k ≡ Some b → (is_simulation_block T b ≡ true) × (some_level_of T n (λ x. nat_eq x b) k ≡ true)
unfolding simulation_level_of some_level_of
level_found T zero k b e = absurd (cc)
level_found T (suc n) k b e = go (is_simulation_block T k) refl (base T k) e (λ c f. level_found T n c b f)
  where
    go : (z : Bool) → is_simulation_block T k ≡ z → (o : Option ℕ) → (if z then Some k else level_beyond (λ x. simulation_level_of T n x) o) ≡ Some b
        → ((c : ℕ) → simulation_level_of T n c ≡ Some b → (is_simulation_block T b ≡ true) × (some_level_of T n (λ x. nat_eq x b) c ≡ true))
        → (is_simulation_block T b ≡ true) × ((nat_eq k b || holds (λ x. some_level_of T n (λ x. nat_eq x b) x) o) ≡ true)
    go true is o f rest =
        let same : k ≡ b = some_same k b f in
        (subst (λ z. is_simulation_block T z ≡ true) same is, ap (λ z. z || holds (λ x. some_level_of T n (λ x. nat_eq x b) x) o) (subst (λ z. nat_eq k z ≡ true) same (same_number k)))
    go false is None f rest = absurd (cc)
    go false is (Some c) f rest = let q = rest c f in (q.0, or_true (nat_eq k b) _ q.1)

level_more : (T : Tables) (n : ℕ) (p : ℕ → Bool) (k : ℕ) → some_level_of T n p k ≡ true → some_level_of T (suc n) p k ≡ true
unfolding some_level_of
level_more T zero p k e = absurd (cc)
level_more T (suc n) p k e = go (p k) (base T k) e (λ c f. level_more T n p c f)
  where
    go : (a : Bool) (o : Option ℕ) → (a || holds (λ b. some_level_of T n p b) o) ≡ true → ((c : ℕ) → some_level_of T n p c ≡ true → some_level_of T (suc n) p c ≡ true) → (a || holds (λ b. some_level_of T (suc n) p b) o) ≡ true
    go true o e rest = refl
    go false None e rest = absurd (cc)
    go false (Some c) e rest = rest c e

-- what a connection has is a level of the class that is connected
level_beyond_connection : (T : Tables) (n k b : ℕ) → is_simulation_block T k ≡ false → simulation_level_of T n k ≡ Some b → (c : ℕ) × (base T k ≡ Some c) × (some_level_of T n (λ x. nat_eq x b) c ≡ true) × (is_simulation_block T b ≡ true)
unfolding simulation_level_of
level_beyond_connection T zero k b other e = absurd (cc)
level_beyond_connection T (suc n) k b other e = go (base T k) refl (sym (ap (λ z. if z then Some k else level_beyond (λ x. simulation_level_of T n x) (base T k)) other) ∙ e)
  where
    go : (o : Option ℕ) → base T k ≡ o → level_beyond (λ x. simulation_level_of T n x) o ≡ Some b → (c : ℕ) × (base T k ≡ Some c) × (some_level_of T (suc n) (λ x. nat_eq x b) c ≡ true) × (is_simulation_block T b ≡ true)
    go None is f = absurd (cc)
    go (Some c) is f = let q = level_found T n c b f in (c, is, level_more T n (λ x. nat_eq x b) c q.1, q.0)

-- ---- a text

no_levels : (o : Option Text) → is_connection o ≡ true → has_levels o ≡ true → ⊥
no_levels (Some ConnectionText) e f = false≢true f
no_levels (Some (BlockText i ds ss)) e f = false≢true e
no_levels (Some (ProcedureText result h a)) e f = false≢true e
no_levels (Some (ClassText before h ds ss)) e f = false≢true e
no_levels (Some (PrefixedText class es ds ss)) e f = false≢true e
no_levels (Some (StandardText which)) e f = false≢true e
no_levels None e f = false≢true e

module _ (s : Source) (known : Tabled s) where
  -- no connection has it
  instance_of : (k b : ℕ) → simulation_level_of s.tables (length s.tables.blocks) k ≡ Some b → (c : Bool) → is_connection (text s k) ≡ c → is_connection (text s k) ≡ false
  unfolding has_level
  instance_of k b e false is = is
  instance_of k b e true is = absurd (go (is_simulation_block s.tables k) refl)
    where
      go : (z : Bool) → is_simulation_block s.tables k ≡ z → ⊥
      go true f = no_levels (text s k) is (known.simulation_levels k f)
      go false f = let q = level_beyond_connection s.tables (length s.tables.blocks) k b f e in never_connected s known k q.0 b is q.1 q.2 q.3

  found_around : (n k b : ℕ) → simulation_of s.tables n k ≡ Some b → (is_simulation_block s.tables b ≡ true) × Seen s k b
  unfolding simulation_of has_level
  found_around zero k b e = absurd (cc)
  found_around (suc n) k b e = go (simulation_level_of s.tables (length s.tables.blocks) k) refl (encloser s.tables k) refl e (λ u f. found_around n u b f)
    where
      go : (o : Option ℕ) → simulation_level_of s.tables (length s.tables.blocks) k ≡ o → (p : Option ℕ) → encloser s.tables k ≡ p → option_or o (level_beyond (λ u. simulation_of s.tables n u) p) ≡ Some b
          → ((u : ℕ) → simulation_of s.tables n u ≡ Some b → (is_simulation_block s.tables b ≡ true) × Seen s u b) → (is_simulation_block s.tables b ≡ true) × Seen s k b
      go (Some c) at p out f rest =
          let here : simulation_level_of s.tables (length s.tables.blocks) k ≡ Some b = at ∙ f in
          let q = level_found s.tables (length s.tables.blocks) k b here in
          (q.0, record { found = k; around = itself; instance = instance_of k b here (is_connection (text s k)) refl; level = q.1 })
      go None at None out f rest = absurd (cc)
      go None at (Some u) out f rest =
          let q = rest u f in
          let seen = q.1 in (q.0, record { found = seen.found; around = further out seen.around; instance = seen.instance; level = seen.level })

  -- where a class `process` is known for an activation
  pub simulation_is : (k token : ℕ) (process : DeclNo) → block_at s.tables token ≡ Some k → process_at s.tables token ≡ Some process → SimulationIs s k token
  unfolding process_at block_around block_at
  simulation_is k token process placed e = go (simulation_of s.tables (length s.tables.blocks) k) refl (sym (ap (λ o. process_of s.tables (level_beyond (λ b. simulation_of s.tables (length s.tables.blocks) b) o)) placed) ∙ e)
    where
      go : (o : Option ℕ) → simulation_of s.tables (length s.tables.blocks) k ≡ o → process_of s.tables o ≡ Some process → SimulationIs s k token
      go None at f = absurd (cc)
      go (Some b) at f =
          let q = found_around (length s.tables.blocks) k b at in
          record { block = b; is = ap (λ o. level_beyond (λ b. simulation_of s.tables (length s.tables.blocks) b) o) placed ∙ at; simulates = q.0; seen = q.1 }
