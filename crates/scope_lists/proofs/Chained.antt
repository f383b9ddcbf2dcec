-- `this`, and classes on one prefix chain.
use Rattle.std.proofs.Common.{◌≡◌, ◌<◌, ◌≤◌, inl, inr, ℕ, zero, suc, Bool, true, false, Option, Some, None, refl, sym, ap, ◌∙◌, length, if◌then◌else◌}
use Rattle.std.specs.Prelude.{◌&&◌}
use Rattle.std.specs.Option.{option_or}
use Rattle.sim_base.specs.declared.numbering.DeclNo.{DeclNo}
use Rattle.sim_scope.specs.declared.scopes.Denotation.{Denotation}
use Rattle.sim_scope.specs.declared.scopes.Denotation.TheVariants as denotation
use Rattle.sim_scope.specs.declared.standard.StandardName.TheVariants as standard
use Rattle.sim_scope.specs.declared.types.StandardPrefix.TheVariants as standard_prefix
use Rattle.sim_scope.specs.Access.{block_at, encloser}
use Rattle.sim_scope.specs.Along.{first_along, from_next}
use Rattle.sim_scope.specs.Levels.{base, both_blocks, class_block, has_level, has_standard, is_in_chain, is_simulation_block, is_standard, level_beyond, owner_in, owner_of_level, shared_class, shared_level_of, shared_of, standard_in}
use Rattle.sim_scope.specs.References.{block_of_class, is_this, level_is, this_block, this_of}
use Rattle.sim_scope.specs.Scopes.{shows_detach}
use Rattle.sim_scope.specs.Tables.{Tables}
use Rattle.sim_scope.proofs.Alongs.{shared_along}
use Rattle.scope_lists.specs.Classes.{HasBlocks, common_class, common_of, is_level, is_of, is_of_block, is_subclass, this_means}
use Rattle.scope_lists.specs.Lists.{Lists, first, first_that, of_block}
use Rattle.scope_lists.proofs.Access.{has_level_same}
use Rattle.scope_lists.proofs.Chains.{first_same, nat_order, reads_first}
use Rattle.scope_lists.proofs.Classes.{simulation_none}
use Rattle.scope_lists.proofs.Denoted.{detach_none}
use Rattle.scope_lists.proofs.Walks.{absent, base_bounded, base_none, first_around, some_of_levels}

choice : {A : Type 0} (c : Bool) (x : A) (rest : Option A) → option_or (if c then Some x else None) rest ≡ (if c then Some x else rest)
choice true x rest = refl
choice false x rest = refl

this_along : (s : Tables) (class : Denotation) (m b : ℕ) → first_along (encloser s) m (λ b. if is_this s class b then Some b else None) b ≡ this_of s m class b
unfolding first_along this_of
this_along s class zero b = refl
this_along s class (suc m) b = choice (is_this s class b) b _ ∙ ap (λ x. if is_this s class b then Some b else x) (go (λ p. this_along s class m p) (encloser s b))
  where
    go : ((p : ℕ) → first_along (encloser s) m (λ b. if is_this s class b then Some b else None) p ≡ this_of s m class p) → (o : Option ℕ)
        → from_next (λ b. first_along (encloser s) m (λ b. if is_this s class b then Some b else None) b) o ≡ level_beyond (λ b. this_of s m class b) o
    go deep None = refl
    go deep (Some p) = deep p

-- two walks that find what reads alike
module _ {A B : Type 0} (read : Option A → B) (next : ℕ → Option ℕ) (f g : ℕ → Option A) (n : ℕ) (alike : (b : ℕ) → b < n → f b ≡ g b)
    (far_alike : (b : ℕ) → n ≤ b → read (f b) ≡ read (g b)) (ends : (b : ℕ) → n ≤ b → next b ≡ None) where
  or_none : (o : Option A) → option_or o None ≡ o
  or_none None = refl
  or_none (Some x) = refl

  walks_alike : (k b : ℕ) → read (first_along next k f b) ≡ read (first_along next k g b)
  unfolding first_along
  walks_alike zero b = refl
  walks_alike (suc k) b = elim (nat_order b n) [ inl less ↦ near less (g b) (next b) (λ c. walks_alike k c) | inr far ↦ beyond far ]
    where
      on : (x : Option A) (o : Option ℕ) → ((c : ℕ) → read (first_along next k f c) ≡ read (first_along next k g c))
          → read (option_or x (from_next (λ c. first_along next k f c) o)) ≡ read (option_or x (from_next (λ c. first_along next k g c) o))
      on (Some x) o deep = refl
      on None None deep = refl
      on None (Some c) deep = deep c

      near : b < n → (x : Option A) (o : Option ℕ) → ((c : ℕ) → read (first_along next k f c) ≡ read (first_along next k g c))
          → read (option_or (f b) (from_next (λ c. first_along next k f c) (next b))) ≡ read (option_or (g b) (from_next (λ c. first_along next k g c) (next b)))
      near less x o deep = ap (λ x. read (option_or x (from_next (λ c. first_along next k f c) (next b)))) (alike b less) ∙ on (g b) (next b) deep

      beyond : n ≤ b → read (option_or (f b) (from_next (λ c. first_along next k f c) (next b))) ≡ read (option_or (g b) (from_next (λ c. first_along next k g c) (next b)))
      beyond far =
          ap (λ o. read (option_or (f b) (from_next (λ c. first_along next k f c) o))) (ends b far) ∙ ap read (or_none (f b)) ∙ far_alike b far
          ∙ sym (ap (λ o. read (option_or (g b) (from_next (λ c. first_along next k g c) o))) (ends b far) ∙ ap read (or_none (g b)))

module _ (s : Tables) (l : Lists s) where
  level_same : (level : ℕ) → level < length s.blocks → (b : ℕ) → has_level s b level ≡ is_level s l level b
  unfolding has_level
  level_same level le b = has_level_same s l level le b

  owner_none : (level : ℕ) → length s.blocks ≤ level → owner_of_level s (Some level) ≡ None
  owner_none level far = ap owner_in (absent s.blocks level far)

  test_none : (t : Bool) (level : ℕ) → length s.blocks ≤ level → owner_of_level s (if t then Some level else None) ≡ None
  test_none true level far = owner_none level far
  test_none false level far = refl

  shared_same : (a b : ℕ) → owner_of_level s (shared_level_of s (length s.blocks) b a) ≡ owner_of_level s (first_that (λ level. is_level s l level b) (l.levels a))
  shared_same a b =
      ap (owner_of_level s) (sym (shared_along s (length s.blocks) b a))
      ∙ walks_alike (owner_of_level s) (base s) today listed (length s.blocks)
      (λ level less. ap (λ t. if t then Some level else None) (level_same level less b))
      (λ level far. test_none (has_level s b level) level far ∙ sym (test_none (is_level s l level b) level far))
      (base_none s) (length s.blocks) a
      ∙ reads_first (base s) listed (owner_of_level s) (length s.blocks) (base_bounded s) l.levels l.of_levels (λ level far. test_none (is_level s l level b) level far) a
    where
      today : ℕ → Option ℕ
      today level = if has_level s b level then Some level else None

      listed : ℕ → Option ℕ
      listed level = if is_level s l level b then Some level else None

  pub common_same : (c d : DeclNo) → shared_class s c d ≡ common_class s l c d
  unfolding shared_class common_class
  common_same c d = go (class_block s c) (class_block s d)
    where
      go : (a b : Option ℕ) → shared_of s a b ≡ common_of s l a b
      go None b = refl
      go (Some a) None = refl
      go (Some a) (Some b) = shared_same a b

module _ (s : Tables) (l : Lists s) (h : HasBlocks s) where
  standard_none : (b : ℕ) → length s.blocks ≤ b → has_standard s b ≡ false
  unfolding has_standard
  standard_none b far = ap (λ o. is_standard (standard_in o)) (absent s.blocks b far)

  declared_same : (o : Option ℕ) → ((level : ℕ) → o ≡ Some level → level < length s.blocks) → (d : DeclNo) (b : ℕ) → level_is s (denotation.Declared d) o b ≡ is_of_block s l o b
  declared_same None below d b = refl
  declared_same (Some level) below d b = level_same s l level (below level refl) b

  of_same : (class : Denotation) (b : ℕ) → level_is s class (block_of_class s class) b ≡ is_of s l class b
  of_same (denotation.Declared d) b = declared_same (class_block s d) (λ level is. h d level is) d b
  of_same (denotation.Standard (standard.Prefix standard_prefix.Simulation)) b = some_of_levels s l (is_simulation_block s) (simulation_none s l) b
  of_same (denotation.Standard name) b = some_of_levels s l (has_standard s) standard_none b

  this_same_at : (class : Denotation) (b : ℕ) → (if is_this s class b then Some b else None) ≡ (if shows_detach s b && is_of s l class b then Some b else None)
  unfolding is_this
  this_same_at class b = ap (λ t. if shows_detach s b && t then Some b else None) (of_same class b)

  this_none : (class : Denotation) (b : ℕ) → length s.blocks ≤ b → (if is_this s class b then Some b else None) ≡ None
  unfolding is_this
  this_none class b far = ap (λ t. if t && level_is s class (block_of_class s class) b then Some b else None) (detach_none s l b far)

  pub this_same : (token : ℕ) (class : Denotation) → this_block s token class ≡ this_means s l token class
  unfolding this_block this_means first
  this_same token class = go (block_at s token)
    where
      go : (o : Option ℕ) → level_beyond (λ b. this_of s (length s.blocks) class b) o ≡ first_that (λ b. shows_detach s b && is_of s l class b) (of_block l.outward o)
      go None = refl
      go (Some b) =
          sym (this_along s class (length s.blocks) b)
          ∙ first_around s l (λ b. if is_this s class b then Some b else None) (this_none class) b
          ∙ first_same (λ b. if is_this s class b then Some b else None) (λ b. if shows_detach s b && is_of s l class b then Some b else None) (this_same_at class) (l.outward b)

  pub subclass_same : (c d : DeclNo) → is_in_chain s c d ≡ is_subclass s l c d
  unfolding is_in_chain is_subclass
  subclass_same c d = go (class_block s c) (class_block s d) (λ level is. h d level is)
    where
      go : (a b : Option ℕ) → ((level : ℕ) → b ≡ Some level → level < length s.blocks) → both_blocks (has_level s) a b ≡ both_blocks (λ a b. is_level s l b a) a b
      go None b below = refl
      go (Some a) None below = refl
      go (Some a) (Some b) below = level_same s l b (below b refl) a
