-- Matches of virtuals, `this`, and classes on one prefix chain.
use Rattle.std.proofs.Common.{◌≡◌, ◌≤◌, ℕ, false, Option, Some, None, refl, ap, length}
use Rattle.sim_base.specs.declared.numbering.DeclNo.{DeclNo}
use Rattle.sim_scope.specs.Levels.{class_block, has_classes, holds_class, holds_class_in, is_for_prefixing, is_simulation, is_simulation_block, standard_in}
use Rattle.sim_scope.specs.Scopes.{lookup}
use Rattle.sim_scope.specs.Tables.{Tables}
use Rattle.virtual_match.specs.Matching.{match_in, match_of, match_of_declared, name_of}
use Rattle.scope_lists.specs.Classes.{has_classes_in, match_in_class, matched_from, only_for_prefixing}
use Rattle.scope_lists.specs.Lists.{Lists}
use Rattle.scope_lists.proofs.Denoted.{lookup_none}
use Rattle.scope_lists.proofs.Walks.{absent, first_of_levels, some_of_levels}

module _ (s : Tables) (l : Lists s) where
  pub match_same : (class virtual : DeclNo) → match_of s class virtual ≡ match_in_class s l class virtual
  unfolding match_of match_in_class
  match_same class virtual = go (class_block s class)
    where
      go : (o : Option ℕ) → match_in s (name_of s virtual) o ≡ matched_from s l (name_of s virtual) o
      go None = refl
      go (Some b) = ap (match_of_declared s) (first_of_levels s l (λ b. lookup s b (name_of s virtual)) (lookup_none s l (name_of s virtual)) b)

  class_none : (b : ℕ) → length s.blocks ≤ b → holds_class s b ≡ false
  unfolding holds_class
  class_none b far = ap holds_class_in (absent s.blocks b far)

  pub simulation_none : (b : ℕ) → length s.blocks ≤ b → is_simulation_block s b ≡ false
  unfolding is_simulation_block
  simulation_none b far = ap (λ o. is_simulation (standard_in o)) (absent s.blocks b far)

  pub classes_same : (b : ℕ) → has_classes s b ≡ has_classes_in s l b
  unfolding has_classes has_classes_in
  classes_same b = some_of_levels s l (holds_class s) class_none b

  pub prefixing_same : (b : ℕ) → is_for_prefixing s b ≡ only_for_prefixing s l b
  unfolding is_for_prefixing only_for_prefixing
  prefixing_same b = some_of_levels s l (is_simulation_block s) simulation_none b
