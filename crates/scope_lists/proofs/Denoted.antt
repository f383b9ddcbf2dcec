-- What blocks show, and what identifiers denote.
use Rattle.std.proofs.Common.{◌≡◌, ◌≤◌, ℕ, Bool, true, false, List, Option, Some, None, refl, sym, ap, ◌∙◌, length, if◌then◌else◌, ◌||◌}
use Rattle.std.specs.Prelude.{not, slice_get, ◌&&◌}
use Rattle.std.specs.Option.{option_or}
use Rattle.sim_base.specs.declared.numbering.DeclNo.{DeclNo}
use Rattle.sim_scope.specs.declared.scopes.Declaration.{Declaration}
use Rattle.sim_scope.specs.declared.scopes.Denotation.TheVariants.{Declared}
use Rattle.sim_scope.specs.declared.standard.StandardName.{StandardName}
use Rattle.sim_scope.specs.Access.{block_at, encloser}
use Rattle.sim_scope.specs.Along.{first_along}
use Rattle.sim_scope.specs.Levels.{base, level_beyond}
use Rattle.sim_scope.specs.Scopes.{binding, brought_by, brought_in, declaration_from, declared_in, declared_or_standard, detach_in, ends_search, found_in, if_found, is_detach, is_passed_over, is_procedure_entry, is_shown, level_shows, lookup, or_itself, outward, represented, represented_row, searched, seen, shown, shows_detach, standard_at, virtual_among, virtual_of}
use Rattle.sim_scope.specs.Standard.{standard_name}
use Rattle.sim_scope.specs.Tables.{Tables}
use Rattle.sim_scope.proofs.Alongs.{searched_along, shown_along, virtual_along}
use Rattle.scope_lists.specs.Denoted.{declared, denoted_by, denotes, found, is_declared_around, of_level, seen_of, shows, standard_seen, stands_as, stands_for, through, virtual_at}
use Rattle.scope_lists.specs.Lists.{Lists, first, first_that, of_block, up_to}
use Rattle.scope_lists.proofs.Access.{accessible_same}
use Rattle.scope_lists.proofs.Chains.{finds_ended, first_same}
use Rattle.scope_lists.proofs.Walks.{absent, base_none, encloser_bounded, first_around, first_of_levels, some_of_scopes}

module _ (s : Tables) (l : Lists s) where
  pub lookup_none : (name : List ℕ) (b : ℕ) → length s.blocks ≤ b → lookup s b name ≡ None
  unfolding lookup
  lookup_none name b far = ap (λ o. declared_in o name) (absent s.blocks b far)

  brought_none : (name : List ℕ) (b : ℕ) → length s.blocks ≤ b → brought_by s b name ≡ None
  unfolding brought_by
  brought_none name b far = ap (λ o. brought_in o name) (absent s.blocks b far)

  seen_same : (from : Option ℕ) (o : Option DeclNo) → seen s from o ≡ seen_of s l from o
  seen_same from None = refl
  seen_same None (Some d) = refl
  seen_same (Some token) (Some d) = ap (λ t. if t then Some d else None) (accessible_same s l token d)

  level_same : (from : Option ℕ) (name : List ℕ) (b : ℕ) → level_shows s from b name ≡ of_level s l from name b
  unfolding level_shows
  level_same from name b = ap (λ o. option_or o (brought_by s b name)) (seen_same from (lookup s b name))

  level_none : (from : Option ℕ) (name : List ℕ) (b : ℕ) → length s.blocks ≤ b → level_shows s from b name ≡ None
  unfolding level_shows
  level_none from name b far =
      ap (λ o. option_or (seen s from o) (brought_by s b name)) (lookup_none name b far) ∙ brought_none name b far

  pub shown_same : (from : Option ℕ) (name : List ℕ) (b : ℕ) → shown s from b name ≡ shows s l from name b
  unfolding shown shows
  shown_same from name b =
      sym (shown_along s (length s.blocks) from name b)
      ∙ first_of_levels s l (λ b. level_shows s from b name) (level_none from name) b
      ∙ first_same (λ b. level_shows s from b name) (of_level s l from name) (level_same from name) (l.levels b)

  shown_none : (from : Option ℕ) (name : List ℕ) (b : ℕ) → length s.blocks ≤ b → shown s from b name ≡ None
  unfolding shown first up_to
  shown_none from name b far =
      sym (shown_along s (length s.blocks) from name b)
      ∙ first_of_levels s l look (level_none from name) b
      ∙ ap (first look) (l.of_levels b)
      ∙ ap (λ o. option_or o (first look (up_to b (of_block l.levels (base s b))))) (level_none from name b far)
      ∙ ap (λ o. first look (up_to b (of_block l.levels o))) (base_none s b far)
    where
      look : ℕ → Option DeclNo
      look b = level_shows s from b name

  pub detach_none : (b : ℕ) → length s.blocks ≤ b → shows_detach s b ≡ false
  unfolding shows_detach
  detach_none b far = ap detach_in (absent s.blocks b far)

  ends_none : (name : List ℕ) (b : ℕ) → length s.blocks ≤ b → ends_search s b name ≡ false
  unfolding ends_search
  ends_none name b far = ap (λ t. is_detach name && t) (detach_none b far) ∙ go (is_detach name)
    where
      go : (t : Bool) → (t && false) ≡ false
      go true = refl
      go false = refl

  from_same : (from : Option ℕ) (name : List ℕ) (b : ℕ) → searched s from (length s.blocks) b name ≡ first (shows s l from name) (through (λ b. ends_search s b name) (l.outward b))
  unfolding outward
  from_same from name b =
      sym (searched_along s (length s.blocks) from name b)
      ∙ finds_ended (encloser s) (λ b. ends_search s b name) (λ b. shown s from b name) (length s.blocks) (encloser_bounded s) l.outward l.of_outward (shown_none from name) (ends_none name) b
      ∙ first_same (λ b. shown s from b name) (shows s l from name) (shown_same from name) (through (λ b. ends_search s b name) (l.outward b))

  pub declared_same : (from : Option ℕ) (token : ℕ) (name : List ℕ) → declaration_from s from (block_at s token) name ≡ declared s l from token name
  unfolding declaration_from declared first through
  declared_same from token name = go (block_at s token)
    where
      go : (o : Option ℕ) → declaration_from s from o name ≡ first (shows s l from name) (through (λ b. ends_search s b name) (of_block l.outward o))
      go None = refl
      go (Some b) = from_same from name b

  pub passed_same : (token : ℕ) (name : List ℕ) → is_passed_over s token name ≡ is_declared_around s l token name
  unfolding is_passed_over is_declared_around
  passed_same token name = go (declaration_from s None (block_at s token) name) ∙ ap is_shown (declared_same None token name)
    where
      go : (o : Option DeclNo) → (elim o [ None ↦ false | Some d ↦ true ]) ≡ is_shown o
      go None = refl
      go (Some d) = refl

  if_found_same : (token : ℕ) (name : List ℕ) (b : ℕ) → if_found s token name b ≡ (if is_shown (shows s l (Some token) name b) || ends_search s b name then Some b else None)
  unfolding if_found
  if_found_same token name b = ap (λ o. if is_shown o || ends_search s b name then Some b else None) (shown_same (Some token) name b)

  if_found_none : (token : ℕ) (name : List ℕ) (b : ℕ) → length s.blocks ≤ b → if_found s token name b ≡ None
  unfolding if_found
  if_found_none token name b far =
      ap (λ o. if is_shown o || ends_search s b name then Some b else None) (shown_none (Some token) name b far)
      ∙ ap (λ t. if t then Some b else None) (ends_none name b far)

  pub found_same : (token : ℕ) (name : List ℕ) → found_in s token name ≡ found s l token name
  unfolding found_in found first
  found_same token name = go (block_at s token)
    where
      go : (o : Option ℕ) → level_beyond (first_along (encloser s) (length s.blocks) (if_found s token name)) o
          ≡ first_that (λ b. is_shown (shows s l (Some token) name b) || ends_search s b name) (of_block l.outward o)
      go None = refl
      go (Some b) =
          first_around s l (if_found s token name) (if_found_none token name) b
          ∙ first_same (if_found s token name) (λ b. if is_shown (shows s l (Some token) name b) || ends_search s b name then Some b else None) (if_found_same token name) (l.outward b)

  pub virtual_same : (name : List ℕ) (b : ℕ) → virtual_of s (length s.blocks) b name ≡ virtual_at s l b name
  unfolding virtual_at
  virtual_same name b =
      sym (virtual_along s (length s.blocks) name b)
      ∙ first_of_levels s l (λ b. virtual_among s (lookup s b name)) (λ b far. ap (virtual_among s) (lookup_none name b far)) b

  pub represented_same : (d : DeclNo) → represented s d ≡ stands_for s l d
  unfolding represented stands_for
  represented_same d = go (slice_get s.declarations d.0)
    where
      go : (o : Option Declaration) → represented_row s d o ≡ stands_as s l d o
      go None = refl
      go (Some row) = ap (λ o. if is_procedure_entry row.entry then or_itself o d else d) (virtual_same row.name row.block)

  pub standard_same : (token : ℕ) (name : List ℕ) → standard_at s token name ≡ standard_seen s l token name
  unfolding standard_at standard_seen
  standard_same token name = ap (λ t. if is_detach name && not t then None else standard_name name) (some_of_scopes s l (shows_detach s) detach_none token)

  denoted_same : (o : Option DeclNo) (k : Option StandardName) → declared_or_standard s o k ≡ denoted_by s l o k
  denoted_same (Some d) k = ap (λ d. Some (Declared d)) (represented_same d)
  denoted_same None (Some k) = refl
  denoted_same None None = refl

  pub binding_same : (token : ℕ) (name : List ℕ) → binding s token name ≡ denotes s l token name
  unfolding binding denotes
  binding_same token name =
      ap (λ o. declared_or_standard s o (standard_at s token name)) (declared_same (Some token) token name)
      ∙ ap (declared_or_standard s (declared s l (Some token) token name)) (standard_same token name)
      ∙ denoted_same (declared s l (Some token) token name) (standard_seen s l token name)
