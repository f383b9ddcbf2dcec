-- The levels of a class from the outermost prefix inward, and the simulation around a token.
use Rattle.std.proofs.Common.{◌≡◌, ◌<◌, ◌≤◌, ◌+◌, inl, inr, ℕ, zero, suc, Bool, true, false, ◌||◌, if◌then◌else◌, List, [], ◌∷◌, ◌++◌, Option, Some, None, refl, sym, ap, ◌∙◌, arith, length, append-nil, append_assoc, reverse}
use Rattle.std.specs.Prelude.{nat_eq, nat_le}
use Rattle.std.proofs.lemmas.Bool.Decides.{nat_tests}
use Rattle.std.proofs.lemmas.List.{reverse-append}
use Rattle.std.specs.Option.{option_or}
use Rattle.sim_base.specs.declared.numbering.DeclNo.{DeclNo}
use Rattle.sim_scope.specs.Access.{block_at, encloser}
use Rattle.sim_scope.specs.Along.{first_along, from_next}
use Rattle.sim_scope.specs.Levels.{base, class_block, is_simulation_block, level_beyond, owner_in, owner_of_level, simulation_level_of}
use Rattle.sim_scope.specs.Runs.{each}
use Rattle.sim_scope.specs.Statements.{process_at, process_of, simulation_of}
use Rattle.sim_scope.specs.Tables.{Tables}
use Rattle.sim_scope.proofs.Alongs.{simulation_along}
use Rattle.prefix_bind.specs.Classes.{chain_of, classes_of, ends_chain, if_any, levels_in, levels_of}
use Rattle.prefix_bind.proofs.ChainLevels.{chain_ends, chain_goes, chain_stops, chain_zero}
use Rattle.prefix_bind.proofs.Numbers.{each-append}
use Rattle.scope_lists.specs.Classes.{classes_in, classes_inward, process_around, simulation_level}
use Rattle.scope_lists.specs.Lists.{Lists, first, of_block, up_to}
use Rattle.scope_lists.proofs.Chains.{counted, free, free_all, free_less, has, nat_order, none_free, outside, outside_met, outside_new, outside_nothing, outside_up_to}
use Rattle.scope_lists.proofs.Classes.{simulation_none}
use Rattle.scope_lists.proofs.Exist.{has_behind}
use Rattle.scope_lists.proofs.Walks.{absent, base_none, first_around, first_of_levels}

-- what was met, in another order
outside_same : (a b : List ℕ) → ((x : ℕ) → has a x ≡ has b x) → (bs : List ℕ) → outside a bs ≡ outside b bs
unfolding outside
outside_same a b is [] = refl
outside_same a b is (x ∷ bs) = ap (λ t. if t then [] else x ∷ outside a bs) (is x) ∙ ap (λ l. if has b x then [] else x ∷ l) (outside_same a b is bs)

free_same : (a b : List ℕ) → ((x : ℕ) → has a x ≡ has b x) → (n : ℕ) → free a n ≡ free b n
unfolding free
free_same a b is zero = refl
free_same a b is (suc n) = ap (λ t. counted t + free a n) (is n) ∙ ap (λ m. counted (has b n) + m) (free_same a b is n)

either : (t u : Bool) → (t || u) ≡ (u || t)
either true true = refl
either true false = refl
either false true = refl
either false false = refl

in_front : (seen : List ℕ) (b x : ℕ) → has (seen ++ b ∷ []) x ≡ has (b ∷ seen) x
in_front seen b x = has_behind seen b x ∙ either (has seen x) (nat_eq x b)

neither : (t u : Bool) → (t || u) ≡ false → (t ≡ false) × (u ≡ false)
neither false u h = (refl, h)
neither true u h = absurd (cc)

below : (n b : ℕ) → nat_le n b ≡ false → b < n
below n b h = grind (arith, nat_tests)

beyond : (n b : ℕ) → nat_le n b ≡ true → n ≤ b
beyond n b h = grind (arith, nat_tests)

module _ (s : Tables) (l : Lists s) where
  -- classes from the last block to the first
  inward : List ℕ → List DeclNo
  inward bs = classes_of s (reverse bs)

  inward_both : (xs ys : List ℕ) → inward (xs ++ ys) ≡ inward ys ++ inward xs
  unfolding inward classes_of
  inward_both xs ys = ap (each (λ b. if_any (owner_of_level s (Some b)))) (reverse-append xs ys) ∙ each-append (λ b. if_any (owner_of_level s (Some b))) (reverse ys) (reverse xs)

  inward_none : inward [] ≡ []
  unfolding inward classes_of
  inward_none = refl

  inward_far : (b : ℕ) → length s.blocks ≤ b → inward (b ∷ []) ≡ []
  unfolding inward classes_of
  inward_far b far = ap (λ o. if_any (owner_in o) ++ []) (absent s.blocks b far)

  met : (seen : List ℕ) (b : ℕ) → has seen b ≡ true → inward (outside seen (l.levels b)) ++ inward seen ≡ inward seen
  met seen b at = ap (λ z. inward z ++ inward seen) (ap (outside seen) (l.of_levels b) ∙ outside_met seen b _ at) ∙ ap (λ z. z ++ inward seen) inward_none

  new : (seen : List ℕ) (b : ℕ) → has seen b ≡ false → (o : Option ℕ) → base s b ≡ o → outside seen (l.levels b) ≡ b ∷ outside (b ∷ seen) (of_block l.levels o)
  new seen b at o to = ap (outside seen) (l.of_levels b) ∙ outside_new seen b _ at ∙ ap (λ z. b ∷ z) (outside_up_to seen b (of_block l.levels (base s b)) ∙ ap (λ o. outside (b ∷ seen) (of_block l.levels o)) to)

  last : (seen : List ℕ) (b : ℕ) → has seen b ≡ false → base s b ≡ None → outside seen (l.levels b) ≡ b ∷ []
  unfolding outside
  last seen b at to = new seen b at None to

  far_off : (seen : List ℕ) (b : ℕ) → length s.blocks ≤ b → inward (outside seen (l.levels b)) ++ inward seen ≡ inward seen
  far_off seen b far = go (has seen b) refl
    where
      go : (t : Bool) → has seen b ≡ t → inward (outside seen (l.levels b)) ++ inward seen ≡ inward seen
      go true at = met seen b at
      go false at = ap (λ z. inward z ++ inward seen) (last seen b at (base_none s b far)) ∙ ap (λ z. z ++ inward seen) (inward_far b far)

  chain_same : (k : ℕ) (seen : List ℕ) (b : ℕ) → free seen (length s.blocks) ≤ k → inward (chain_of s k seen b) ≡ inward (outside seen (l.levels b)) ++ inward seen
  chain_same zero seen b le = ap inward (chain_zero s seen b) ∙ go (has seen b) refl
    where
      go : (t : Bool) → has seen b ≡ t → inward seen ≡ inward (outside seen (l.levels b)) ++ inward seen
      go true at = sym (met seen b at)
      go false at = sym (far_off seen b (elim (nat_order b (length s.blocks)) [ inl less ↦ absurd (none_free seen b (length s.blocks) less at le) | inr far ↦ far ]))
  chain_same (suc k) seen b le = go (λ c fewer. chain_same k (seen ++ b ∷ []) c fewer) (ends_chain s seen b) refl
    where
      ended : (t : Bool) → has seen b ≡ t → (t || nat_le (length s.blocks) b) ≡ true → inward seen ≡ inward (outside seen (l.levels b)) ++ inward seen
      ended true at h = sym (met seen b at)
      ended false at h = sym (far_off seen b (beyond (length s.blocks) b h))

      on : ((c : ℕ) → free (seen ++ b ∷ []) (length s.blocks) ≤ k → inward (chain_of s k (seen ++ b ∷ []) c) ≡ inward (outside (seen ++ b ∷ []) (l.levels c)) ++ inward (seen ++ b ∷ []))
          → ends_chain s seen b ≡ false → has seen b ≡ false → b < length s.blocks → (o : Option ℕ) → base s b ≡ o
          → inward (chain_of s (suc k) seen b) ≡ inward (outside seen (l.levels b)) ++ inward seen
      on deep e at less None to = ap inward (chain_ends s k seen b e to) ∙ inward_both seen (b ∷ []) ∙ ap (λ z. inward z ++ inward seen) (sym (last seen b at to))
      on deep e at less (Some c) to =
          let few = free_less seen b (length s.blocks) less at in
          let same = free_same (seen ++ b ∷ []) (b ∷ seen) (in_front seen b) (length s.blocks) in
          let fewer : free (seen ++ b ∷ []) (length s.blocks) ≤ k = omega arith in
          let L : List ℕ = outside (b ∷ seen) (l.levels c) in
          ap inward (chain_goes s k seen b c e to) ∙ deep c fewer
          ∙ ap (λ z. inward z ++ inward (seen ++ b ∷ [])) (outside_same (seen ++ b ∷ []) (b ∷ seen) (in_front seen b) (l.levels c))
          ∙ ap (λ z. inward L ++ z) (inward_both seen (b ∷ []))
          ∙ sym (append_assoc (inward L) (inward (b ∷ [])) (inward seen))
          ∙ ap (λ z. z ++ inward seen) (sym (inward_both (b ∷ []) L))
          ∙ ap (λ z. inward z ++ inward seen) (sym (new seen b at (Some c) to))

      go : ((c : ℕ) → free (seen ++ b ∷ []) (length s.blocks) ≤ k → inward (chain_of s k (seen ++ b ∷ []) c) ≡ inward (outside (seen ++ b ∷ []) (l.levels c)) ++ inward (seen ++ b ∷ []))
          → (t : Bool) → ends_chain s seen b ≡ t → inward (chain_of s (suc k) seen b) ≡ inward (outside seen (l.levels b)) ++ inward seen
      go deep true e = ap inward (chain_stops s k seen b e) ∙ ended (has seen b) refl e
      go deep false e =
          let no = neither (has seen b) (nat_le (length s.blocks) b) e in
          on deep e no.0 (below (length s.blocks) b no.1) (base s b) refl

  whole_chain : (b : ℕ) → inward (chain_of s (length s.blocks) [] b) ≡ inward (l.levels b)
  whole_chain b =
      chain_same (length s.blocks) [] b (let e = free_all (length s.blocks) in omega arith)
      ∙ ap (λ z. inward (outside [] (l.levels b)) ++ z) inward_none ∙ append-nil (inward (outside [] (l.levels b))) ∙ ap inward (outside_nothing (l.levels b))

  pub levels_same : (class : DeclNo) → levels_of s class ≡ classes_inward s l class
  unfolding levels_of classes_inward inward
  levels_same class = go (class_block s class)
    where
      go : (o : Option ℕ) → levels_in s o ≡ classes_in s l o
      go None = refl
      go (Some b) = whole_chain b

  -- the level of `simulation` of a block, and of the scopes around
  level_simulated : (b : ℕ) → simulation_level_of s (length s.blocks) b ≡ simulation_level s l b
  unfolding simulation_level
  level_simulated b =
      sym (simulation_along s (length s.blocks) b)
      ∙ first_of_levels s l (λ b. if is_simulation_block s b then Some b else None) (λ b far. ap (λ t. if t then Some b else None) (simulation_none s l b far)) b

  simulated_along : (m b : ℕ) → first_along (encloser s) m (simulation_level s l) b ≡ simulation_of s m b
  unfolding first_along simulation_of
  simulated_along zero b = refl
  simulated_along (suc m) b =
      ap (λ x. option_or x (from_next (λ b. first_along (encloser s) m (simulation_level s l) b) (encloser s b))) (sym (level_simulated b))
      ∙ ap (option_or (simulation_level_of s (length s.blocks) b)) (go (λ p. simulated_along m p) (encloser s b))
    where
      go : ((p : ℕ) → first_along (encloser s) m (simulation_level s l) p ≡ simulation_of s m p) → (o : Option ℕ) → from_next (λ b. first_along (encloser s) m (simulation_level s l) b) o ≡ level_beyond (λ b. simulation_of s m b) o
      go deep None = refl
      go deep (Some p) = deep p

  simulation_far : (b : ℕ) → length s.blocks ≤ b → simulation_level s l b ≡ None
  unfolding simulation_level first up_to
  simulation_far b far =
      ap (first test) (l.of_levels b) ∙ ap (λ o. first test (b ∷ up_to b (of_block l.levels o))) (base_none s b far) ∙ ap (λ t. option_or (if t then Some b else None) None) (simulation_none s l b far)
    where
      test : ℕ → Option ℕ
      test b = if is_simulation_block s b then Some b else None

  pub process_same : (token : ℕ) → process_at s token ≡ process_around s l token
  unfolding process_at process_around first
  process_same token = ap (process_of s) (go (block_at s token))
    where
      go : (o : Option ℕ) → level_beyond (λ b. simulation_of s (length s.blocks) b) o ≡ first (simulation_level s l) (of_block l.outward o)
      go None = refl
      go (Some b) = sym (simulated_along (length s.blocks) b) ∙ first_around s l (simulation_level s l) simulation_far b
