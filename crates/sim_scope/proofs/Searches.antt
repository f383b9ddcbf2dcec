-- The search outward finds the innermost declaration.
use Rattle.std.proofs.Common.{◌≡◌, ◌<◌, ℕ, zero, suc, Bool, true, false, List, Option, Some, None, refl, sym, ap, ◌∙◌, arith, length, if◌then◌else◌}
use Rattle.std.specs.Option.{option_or}
use Rattle.sim_base.specs.declared.numbering.DeclNo.{DeclNo}
use Rattle.std.specs.Prelude.{◌||◌}
use Rattle.sim_scope.specs.Access.{block_at, encloser}
use Rattle.sim_scope.specs.Along.{first_along, from_next}
use Rattle.sim_scope.specs.Levels.{level_beyond}
use Rattle.sim_scope.specs.Laws.{Innermost, here, further, Nested}
use Rattle.sim_scope.specs.Scopes.{beyond, declaration_from, ends_search, found_in, if_found, is_shown, outward, searched, shown}
use Rattle.sim_scope.specs.Tables.{Tables}

module _ (s : Tables) (from : Option ℕ) (name : List ℕ) where
  found_here : (m b : ℕ) (d : DeclNo) → shown s from b name ≡ Some d → searched s from (suc m) b name ≡ Some d
  unfolding searched
  found_here m b d is = ap (λ x. option_or x (beyond (λ b. searched s from m b name) (outward s b name))) is

  found_outside : (m b p : ℕ) → shown s from b name ≡ None → outward s b name ≡ Some p → searched s from (suc m) b name ≡ searched s from m p name
  unfolding searched
  found_outside m b p is out = ap (λ x. option_or x (beyond (λ b. searched s from m b name) (outward s b name))) is ∙ ap (λ x. beyond (λ b. searched s from m b name) x) out

pub found_innermost : (s : Tables) (from : Option ℕ) (most block : ℕ) (name : List ℕ) (d : DeclNo) → searched s from most block name ≡ Some d → Innermost s from name block d
unfolding searched
found_innermost s from zero block name d is = absurd (cc)
found_innermost s from (suc more) block name d is = go (λ b h. found_innermost s from more b name d h) (shown s from block name) refl (outward s block name) refl is
  where
    go : ((b : ℕ) → searched s from more b name ≡ Some d → Innermost s from name b d) → (x : Option DeclNo) → shown s from block name ≡ x → (e : Option ℕ) → outward s block name ≡ e
        → option_or x (beyond (λ b. searched s from more b name) e) ≡ Some d → Innermost s from name block d
    go deep (Some c) at e around h = here (at ∙ h)
    go deep None at (Some b) around h = further at around (deep b h)
    go deep None at None around h = absurd (cc)

-- the search goes on in the block around
outward_around : (s : Tables) (block p : ℕ) (name : List ℕ) → outward s block name ≡ Some p → encloser s block ≡ Some p
unfolding outward
outward_around s block p name out = go (ends_search s block name) out
  where
    go : (c : Bool) → (if c then None else encloser s block) ≡ Some p → encloser s block ≡ Some p
    go true h = absurd (cc)
    go false h = h

nested_outward : (s : Tables) (block p : ℕ) (name : List ℕ) → Nested s.blocks → outward s block name ≡ Some p → p < block
unfolding Nested encloser
nested_outward s block p name nested out = nested block p (outward_around s block p name out)

found_within : (s : Tables) (from : Option ℕ) (most block : ℕ) (name : List ℕ) (d : DeclNo) → Nested s.blocks → Innermost s from name block d → block < most → searched s from most block name ≡ Some d
found_within s from zero block name d nested is le = absurd (omega arith)
found_within s from (suc more) block name d nested (here at) le = found_here s from name more block d at
found_within s from (suc more) block name d nested (further {around = b} at out is) le =
    found_outside s from name more block b at out ∙ found_within s from more b name d nested is (let lt : b < block = nested_outward s block b name nested out in omega arith)

pub every_innermost : (s : Tables) (from : Option ℕ) (block : ℕ) (name : List ℕ) (d : DeclNo) → Nested s.blocks → Innermost s from name block d → block < length s.blocks → searched s from (length s.blocks) block name ≡ Some d
every_innermost s from block name d nested is le = found_within s from (length s.blocks) block name d nested is le

-- ---- the block in which a name is found

module _ (s : Tables) (token : ℕ) (name : List ℕ) where
  pub shown_along_blocks : (most block : ℕ) → searched s (Some token) most block name ≡ beyond (λ b. shown s (Some token) b name) (first_along (encloser s) most (if_found s token name) block)
  unfolding searched first_along if_found outward
  shown_along_blocks zero block = refl
  shown_along_blocks (suc more) block = go (λ b. shown_along_blocks more b) (shown s (Some token) block name) refl (ends_search s block name) (encloser s block)
    where
      go : ((b : ℕ) → searched s (Some token) more b name ≡ beyond (λ b. shown s (Some token) b name) (first_along (encloser s) more (if_found s token name) b)) → (x : Option DeclNo) → shown s (Some token) block name ≡ x → (ends : Bool) → (e : Option ℕ)
          → option_or x (beyond (λ b. searched s (Some token) more b name) (if ends then None else e))
          ≡ beyond (λ b. shown s (Some token) b name) (option_or (if is_shown x || ends then Some block else None) (from_next (λ b. first_along (encloser s) more (if_found s token name) b) e))
      go deep (Some d) at ends e = sym at
      go deep None at true e = sym at
      go deep None at false None = refl
      go deep None at false (Some p) = deep p

  pub shown_where_found : declaration_from s (Some token) (block_at s token) name ≡ beyond (λ b. shown s (Some token) b name) (found_in s token name)
  unfolding declaration_from found_in
  shown_where_found = go (block_at s token)
    where
      go : (o : Option ℕ) → declaration_from s (Some token) o name ≡ beyond (λ b. shown s (Some token) b name) (level_beyond (first_along (encloser s) (length s.blocks) (if_found s token name)) o)
      go None = refl
      go (Some block) = shown_along_blocks (length s.blocks) block
