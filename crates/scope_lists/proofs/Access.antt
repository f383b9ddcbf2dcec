-- What is accessible.
use Rattle.std.proofs.Common.{◌≡◌, ◌<◌, ◌≤◌, inl, inr, ℕ, Bool, true, false, List, Option, Some, None, refl, sym, ap, ◌∙◌, arith, length, if◌then◌else◌, ◌||◌}
use Rattle.std.proofs.lemmas.Bool.Decides.{nat_tests}
use Rattle.std.specs.Prelude.{nat_eq, not, slice_get, ◌&&◌}
use Rattle.std.specs.List.{list_any}
use Rattle.sim_base.specs.declared.numbering.DeclNo.{DeclNo}
use Rattle.sim_scope.specs.declared.scopes.Declaration.{Declaration}
use Rattle.sim_scope.specs.Access.{accessible, accessible_row, has_text_of_levels, hides, hides_in, is_kind, is_level, is_open, is_so, kind_in, names_hidden, no_block, opens, protector, protects, protects_in}
use Rattle.sim_scope.specs.Levels.{base, some_level}
use Rattle.sim_scope.specs.Tables.{Tables}
use Rattle.sim_scope.proofs.Alongs.{protector_along}
use Rattle.scope_lists.specs.Accessible.{accessible_of, gives_access, hides_it, is_accessible}
use Rattle.scope_lists.specs.Lists.{Lists, around, first_that, of_block, prefix_levels}
use Rattle.scope_lists.proofs.Chains.{any_same, nat_order}
use Rattle.scope_lists.proofs.Walks.{absent, first_of_levels, some_of_levels, some_of_scopes}

module _ (s : Tables) (l : Lists s) where
  protects_none : (name : List ℕ) (b : ℕ) → length s.blocks ≤ b → protects s b name ≡ false
  unfolding protects
  protects_none name b far = ap (λ o. protects_in o name) (absent s.blocks b far)

  hidden_none : (name : List ℕ) (b : ℕ) → length s.blocks ≤ b → names_hidden s b name ≡ false
  unfolding names_hidden
  hidden_none name b far = ap (λ o. hides_in o name) (absent s.blocks b far)

  text_none : (b : ℕ) → length s.blocks ≤ b → is_kind has_text_of_levels s b ≡ false
  unfolding is_kind
  text_none b far = ap (λ o. is_so has_text_of_levels (kind_in o)) (absent s.blocks b far)

  pub protector_first : (name : List ℕ) (b : ℕ) → protector s b name ≡ first_that (λ b. protects s b name) (l.levels b)
  unfolding protector
  protector_first name b =
      sym (protector_along s (length s.blocks) name b)
      ∙ first_of_levels s l (λ b. if protects s b name then Some b else None) (λ b far. ap (λ t. if t then Some b else None) (protects_none name b far)) b

  pub hides_same : (level : ℕ) (name : List ℕ) (b : ℕ) → hides s level name b ≡ hides_it s l level name b
  unfolding hides
  hides_same level name b = ap (λ o. names_hidden s b name && is_level o level) (protector_first name b)

  hides_none : (level : ℕ) (name : List ℕ) (b : ℕ) → length s.blocks ≤ b → hides s level name b ≡ false
  unfolding hides
  hides_none level name b far = ap (λ t. t && is_level (protector s b name) level) (hidden_none name b far)

  pub has_level_same : (level : ℕ) → level < length s.blocks → (b : ℕ) → some_level s (λ b. nat_eq b level) b ≡ list_any (λ b. nat_eq b level) (l.levels b)
  has_level_same level le b = some_of_levels s l (λ b. nat_eq b level) (λ b far. other b level (omega arith)) b
    where
      other : (b level : ℕ) → level < b → nat_eq b level ≡ false
      other b level less = grind (arith, nat_tests)

  not_hidden_same : (level : ℕ) (name : List ℕ) (b : ℕ) → no_block (λ b. some_level s (hides s level name) b) (base s b) ≡ not (list_any (hides_it s l level name) (prefix_levels s l b))
  not_hidden_same level name b = go (base s b)
    where
      go : (o : Option ℕ) → no_block (λ b. some_level s (hides s level name) b) o ≡ not (list_any (hides_it s l level name) (of_block l.levels o))
      go None = refl
      go (Some p) = ap not (some_of_levels s l (hides s level name) (hides_none level name) p ∙ any_same (hides s level name) (hides_it s l level name) (hides_same level name) (l.levels p))

  gives_same : (level : ℕ) (name : List ℕ) → level < length s.blocks → (b : ℕ) → (is_kind has_text_of_levels s b && opens s level name b) ≡ gives_access s l level name b
  unfolding opens
  gives_same level name le b =
      ap (λ t. is_kind has_text_of_levels s b && (t && no_block (λ b. some_level s (hides s level name) b) (base s b))) (has_level_same level le b)
      ∙ ap (λ t. is_kind has_text_of_levels s b && (list_any (λ b. nat_eq b level) (l.levels b) && t)) (not_hidden_same level name b)

  open_same : (level : ℕ) (name : List ℕ) (token : ℕ) → level < length s.blocks → is_open s level name token ≡ list_any (gives_access s l level name) (around s l token)
  unfolding is_open
  open_same level name token le =
      some_of_scopes s l (λ b. is_kind has_text_of_levels s b && opens s level name b) (λ b far. ap (λ t. t && opens s level name b) (text_none b far)) token
      ∙ any_same (λ b. is_kind has_text_of_levels s b && opens s level name b) (gives_access s l level name) (gives_same level name le) (around s l token)

  below : (b : ℕ) (name : List ℕ) → protects s b name ≡ true → b < length s.blocks
  below b name is = elim (nat_order b (length s.blocks)) [ inl less ↦ less | inr far ↦ absurd (let h = protects_none name b far in cc) ]

  pub accessible_same : (token : ℕ) (d : DeclNo) → accessible s token d ≡ is_accessible s l token d
  unfolding accessible is_accessible
  accessible_same token d = go (slice_get s.declarations d.0)
    where
      go : (o : Option Declaration) → accessible_row s token o ≡ accessible_of s l token o
      go None = refl
      go (Some row) = test (protects s row.block row.name) refl
        where
          test : (t : Bool) → protects s row.block row.name ≡ t → (not (protects s row.block row.name) || is_open s row.block row.name token) ≡ (not (protects s row.block row.name) || list_any (gives_access s l row.block row.name) (around s l token))
          test false e = ap (λ t. not t || is_open s row.block row.name token) e ∙ sym (ap (λ t. not t || list_any (gives_access s l row.block row.name) (around s l token)) e)
          test true e = ap (λ x. not (protects s row.block row.name) || x) (open_same row.block row.name token (below row.block row.name e))
