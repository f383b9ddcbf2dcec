-- A standard name is found in no block, but for `detach`.
use Rattle.std.proofs.Common.{◌≡◌, ℕ, zero, suc, Bool, true, false, List, length, Option, Some, None, refl, sym, ap, ◌∙◌, if◌then◌else◌}
use Rattle.std.proofs.lemmas.Bool.{false≢true}
use Rattle.std.proofs.lemmas.Slice.Eq.{bytes_eq-Decides}
use Rattle.std.specs.Prelude.{◌&&◌, ◌||◌, codes}
use Rattle.std.specs.Option.{option_or}
use Rattle.sim_base.specs.declared.numbering.DeclNo.{DeclNo}
use Rattle.sim_scope.specs.declared.scopes.Denotation.{Denotation}
use Rattle.sim_scope.specs.declared.scopes.Denotation.TheVariants as denotation
use Rattle.sim_scope.specs.declared.standard.StandardName.{StandardName}
use Rattle.sim_scope.specs.declared.standard.StandardName.TheVariants as found
use Rattle.sim_scope.specs.Access.{block_at, encloser}
use Rattle.sim_scope.specs.Along.{first_along, from_next}
use Rattle.sim_scope.specs.Levels.{level_beyond}
use Rattle.sim_scope.specs.Scopes.{beyond, binding, declaration_from, declared_or_standard, ends_search, found_in, if_found, is_detach, is_shown, outward, searched, shown, shows_detach, standard_at}
use Rattle.sim_scope.specs.Standard.{standard_name}
use Rattle.sim_scope.specs.Tables.{Tables}
use Rattle.sim_values.specs.declared.standard.Standard.TheVariants as name
use Rattle.sim_values.specs.Standard.{row_of}
use Rattle.sim_agree.proofs.Unprefixed.{standard_is}

-- what is found in no block
abbrev pub is_nowhere : Denotation → Bool
is_nowhere (denotation.Declared d) = false
is_nowhere (denotation.Standard (found.Procedure name.Detach)) = false
is_nowhere (denotation.Standard k) = true

pub neither_or : {A : Type 0} (a b : Option A) → option_or a b ≡ None → (a ≡ None) × (b ≡ None)
neither_or None b e = (refl, e)
neither_or (Some x) b e = absurd (cc)

module _ (s : Tables) (token : ℕ) (name' : List ℕ) (other : is_detach name' ≡ false) where
  searched_none : (n block : ℕ) → searched s (Some token) n block name' ≡ None → first_along (encloser s) n (if_found s token name') block ≡ None
  unfolding searched first_along if_found outward ends_search
  searched_none zero block e = refl
  searched_none (suc n) block e =
      let both = neither_or (shown s (Some token) block name') (beyond (λ b. searched s (Some token) n b name') (outward s block name')) e in
      let ends : ends_search s block name' ≡ false = ap (λ z. z && shows_detach s block) other in
      let out : outward s block name' ≡ encloser s block = ap (λ z. if z then None else encloser s block) ends in
      let look : if_found s token name' block ≡ None = ap (λ z. if is_shown z || ends_search s block name' then Some block else None) both.0 ∙ ap (λ z. if z then Some block else None) ends in
      ap (λ z. option_or z (from_next (λ b. first_along (encloser s) n (if_found s token name') b) (encloser s block))) look ∙ rest (λ u e. searched_none n u e) (encloser s block) (sym (ap (λ z. beyond (λ b. searched s (Some token) n b name') z) out) ∙ both.1)
    where
      rest : ((u : ℕ) → searched s (Some token) n u name' ≡ None → first_along (encloser s) n (if_found s token name') u ≡ None) → (o : Option ℕ) → beyond (λ b. searched s (Some token) n b name') o ≡ None → from_next (λ b. first_along (encloser s) n (if_found s token name') b) o ≡ None
      rest deep None e = refl
      rest deep (Some u) e = deep u e

  found_nowhere : declaration_from s (Some token) (block_at s token) name' ≡ None → found_in s token name' ≡ None
  unfolding declaration_from found_in
  found_nowhere e = go (block_at s token) e
    where
      go : (o : Option ℕ) → declaration_from s (Some token) o name' ≡ None → level_beyond (first_along (encloser s) (length s.blocks) (if_found s token name')) o ≡ None
      go None e = refl
      go (Some b) e = searched_none (length s.blocks) b e

none_declared : (s : Tables) (o : Option DeclNo) (k : Option StandardName) (x : StandardName) → declared_or_standard s o k ≡ Some (denotation.Standard x) → o ≡ None
none_declared s None k x e = refl
none_declared s (Some d) k x e = absurd (cc)

-- the name of `detach`
detach_named : standard_name (codes "detach") ≡ Some (found.Procedure name.Detach)
unfolding standard_name row_of
detach_named = refl

no_detach : (k : StandardName) → is_nowhere (denotation.Standard k) ≡ true → (n : List ℕ) → standard_name n ≡ Some k → is_detach n ≡ false
unfolding is_detach
no_detach k nowhere n e = go (is_detach n) refl
  where
    go : (b : Bool) → is_detach n ≡ b → is_detach n ≡ false
    go false is = is
    go true is =
        let same : n ≡ codes "detach" = (bytes_eq-Decides n (codes "detach")).0 is in
        let both : Some (found.Procedure name.Detach) ≡ Some k = sym detach_named ∙ ap standard_name (sym same) ∙ e in
        let it : found.Procedure name.Detach ≡ k = cc in
        absurd (false≢true (ap (λ z. is_nowhere (denotation.Standard z)) it ∙ nowhere))

pub undeclared : (s : Tables) (token : ℕ) (n : List ℕ) (k : StandardName) → binding s token n ≡ Some (denotation.Standard k) → declaration_from s (Some token) (block_at s token) n ≡ None
unfolding binding
undeclared s token n k e = none_declared s (declaration_from s (Some token) (block_at s token) n) (standard_at s token n) k e

pub nowhere : (s : Tables) (token : ℕ) (n : List ℕ) (d : Denotation) → binding s token n ≡ Some d → is_nowhere d ≡ true → found_in s token n ≡ None
nowhere s token n (denotation.Declared d) e is = absurd (false≢true is)
nowhere s token n (denotation.Standard k) e is = found_nowhere s token n (no_detach k is n (standard_is s token n k e)) (undeclared s token n k e)
