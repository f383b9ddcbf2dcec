-- All levels of a text are on one level, and a class that is found where an expression stands is declared around.
use Rattle.std.proofs.Common.{◌≡◌, ◌≤◌, ℕ, zero, suc, true, false, length, Option, Some, refl, sym, ap, ◌∙◌, arith}
use Rattle.sim_base.specs.declared.numbering.DeclNo.{DeclNo}
use Rattle.sim_scope.specs.Access.{encloser}
use Rattle.sim_scope.specs.Levels.{base, has_level}
use Rattle.sim_scope.specs.Source.{Source, block_of, level_of}
use Rattle.sim_meaning.specs.Attributes.{is_connection}
use Rattle.sim_meaning.specs.Texts.{text}
use Rattle.sim_sound.specs.Held.{Around, In}
use Rattle.sim_sound.specs.Expressions.{DeclaredNear}
use Rattle.sim_sound.specs.Typed.{ClassThere, Home, PrefixTyped, Prefixes, connected, stands}
use Rattle.sim_agree.proofs.Prefixing.{Reaches, itself, through}
use Rattle.sim_allowed.proofs.Classes.{level_reached, no_connection}

same_some : {A : Type 0} (o : Option A) (a b : A) → o ≡ Some a → o ≡ Some b → a ≡ b
same_some o a b e f = let z : Some a ≡ Some b = sym e ∙ f in cc

home_place : (s : Source) {k h : ℕ} → Home s k h → (v : ℕ) × (encloser s.tables k ≡ Some v)
home_place s (stands {u = u} e solid) = (u, e)
home_place s (connected {u = u} e is x) = (u, e)

module _ (s : Source) (prefixes : Prefixes s) (levels : (t u : ℕ) → is_connection (text s t) ≡ false → encloser s.tables t ≡ Some u → level_of s t ≡ suc (level_of s u))
    (connections : (t u : ℕ) → is_connection (text s t) ≡ true → encloser s.tables t ≡ Some u → level_of s t ≡ level_of s u) where
  home_level : {k h : ℕ} → Home s k h → (v : ℕ) → encloser s.tables k ≡ Some v → level_of s v ≡ level_of s h
  home_level (stands {k = k} {u = u} e solid) v f = ap (level_of s) (same_some (encloser s.tables k) v u f e)
  home_level (connected {k = k} {u = u} e is x) v f =
      let more = home_place s x in ap (level_of s) (same_some (encloser s.tables k) v u f e) ∙ connections u more.0 is more.1 ∙ home_level x more.0 more.1

  prefix_of : (k b : ℕ) → is_connection (text s k) ≡ false → base s.tables k ≡ Some b → PrefixTyped s k b
  prefix_of k b solid e = prefixes.prefixed_by k b solid e

  prefix_solid : (k b : ℕ) → is_connection (text s k) ≡ false → base s.tables k ≡ Some b → is_connection (text s b) ≡ false
  prefix_solid k b solid e = no_connection (text s b) (prefix_of k b solid e).prefix

  chain_number : (n : ℕ) → ((k b : ℕ) → level_of s k ≤ n → is_connection (text s k) ≡ false → base s.tables k ≡ Some b → level_of s b ≡ level_of s k) → {k u : ℕ} → level_of s k ≤ n → is_connection (text s k) ≡ false → Reaches s.tables k u
      → level_of s k ≡ level_of s u
  chain_number n go le solid itself = refl
  chain_number n go {k = k} le solid (through {b = b} e x) =
      let same = go k b le solid e in sym same ∙ chain_number n go (omega (arith, le, same)) (prefix_solid k b solid e) x

  prefix_number : (n k b : ℕ) → level_of s k ≤ n → is_connection (text s k) ≡ false → base s.tables k ≡ Some b → level_of s b ≡ level_of s k
  unfolding has_level
  prefix_number zero k b le solid e =
      let p = prefix_of k b solid e in
      let place = home_place s p.around in
      let up = levels k place.0 solid place.1 in absurd (omega (arith, le, up))
  prefix_number (suc n) k b le solid e =
      let p = prefix_of k b solid e in
      let place = home_place s p.around in
      let up = levels k place.0 solid place.1 in
      let out = home_level p.around place.0 place.1 in
      let same = chain_number n (λ k b le solid e. prefix_number n k b le solid e) (omega (arith, le, up, out)) p.solid (level_reached s.tables (length s.tables.blocks) p.outer p.outer_prefix p.declared) in
      levels b p.outer_prefix (prefix_solid k b solid e) p.around_prefix ∙ ap suc (sym same) ∙ ap suc (sym out) ∙ sym up

  pub level_number : (k u : ℕ) → is_connection (text s k) ≡ false → has_level s.tables k u ≡ true → level_of s k ≡ level_of s u
  unfolding has_level
  level_number k u solid level =
      chain_number (level_of s k) (λ k' b le solid e. prefix_number (level_of s k) k' b le solid e) (omega arith) solid (level_reached s.tables (length s.tables.blocks) k u level)

  -- a class that is found in a text around is of the level of those that are declared there
  pub found_near : (t found : ℕ) (d : DeclNo) (c : ℕ) → Around s.tables t found → is_connection (text s found) ≡ false → has_level s.tables found (block_of s d) ≡ true → ClassThere s d c → DeclaredNear s (In t) (Some c)
  found_near t found d c around solid level there =
      (found, around, levels c (block_of s d) (no_connection (text s c) there.is) there.around ∙ ap suc (sym (level_number found (block_of s d) solid level)))
