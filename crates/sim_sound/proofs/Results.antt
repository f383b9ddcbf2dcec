-- What results fit, one after the other.
use Rattle.std.proofs.Common.{◌≡◌, ℕ, Bool, true, false, Option, Some, None, refl, sym, ap, ◌∙◌, subst}
use Rattle.std.specs.Prelude.{if◌then◌else◌}
use Rattle.sim_scope.specs.declared.types.SimType.{SimType}
use Rattle.sim_scope.specs.declared.types.SimType.TheVariants as type
use Rattle.sim_scope.specs.Levels.{class_block}
use Rattle.sim_scope.specs.Source.{Source}
use Rattle.sim_meaning.specs.Levels.{class_text, is_class, qualification}
use Rattle.sim_meaning.specs.Texts.{text}
use Rattle.sim_sound.specs.Held.{ArrayOf, ByName, Fits, FitsIn, Holds, Procedure, Refers, ResultFits, Simply, ValueFits, given_by, held_by, reference_to}
use Rattle.sim_sound.specs.Typed.{Typed}
use Rattle.sim_sound.proofs.Prefixes.{same_level, class_solid, level_has, level_is, level_then}

-- ---- the class of a reference

pub class_is : (s : Source) (x : Option ℕ) (k : ℕ) → class_text s x ≡ Some k → is_class (text s k) ≡ true
class_is s None k e = absurd (cc)
class_is s (Some c) k e = by_class (is_class (text s c)) refl e
  where
    by_class : (b : Bool) → is_class (text s c) ≡ b → (if b then Some c else None) ≡ Some k → is_class (text s k) ≡ true
    by_class true f g = let same : c ≡ k = cc in ap (λ z. is_class (text s z)) (sym same) ∙ f
    by_class false f g = absurd (cc)

pub qualified_class : (s : Source) (ty : Option SimType) (k : ℕ) → qualification s ty ≡ Some k → is_class (text s k) ≡ true
unfolding qualification
qualified_class s (Some (type.Ref d)) k e = class_is s (class_block s.tables d) k e
qualified_class s (Some type.Integer) k e = absurd (cc)
qualified_class s (Some type.Boolean) k e = absurd (cc)
qualified_class s (Some type.Character) k e = absurd (cc)
qualified_class s (Some type.Text) k e = absurd (cc)
qualified_class s (Some type.NoneType) k e = absurd (cc)
qualified_class s None k e = absurd (cc)

-- a reference of a type is qualified by a class
pub held_class : (s : Source) (ty : SimType) (c : ℕ) → held_by s ty ≡ Refers c → is_class (text s c) ≡ true
held_class s type.Integer c e = absurd (cc)
held_class s type.Boolean c e = absurd (cc)
held_class s type.Character c e = absurd (cc)
held_class s type.Text c e = absurd (cc)
held_class s type.NoneType c e = absurd (cc)
held_class s (type.Ref d) c e = by_class (qualification s (Some (type.Ref d))) refl e
  where
    by_class : (x : Option ℕ) → qualification s (Some (type.Ref d)) ≡ x → reference_to x ≡ Refers c → is_class (text s c) ≡ true
    by_class None f g = absurd (cc)
    by_class (Some k) f g = let same : k ≡ c = cc in subst (λ z. is_class (text s z) ≡ true) same (qualified_class s (Some (type.Ref d)) k f)

-- ---- what fits

-- a value fits as what is held
pub value_held : (s : Source) (g h : Holds) → ValueFits s g h → Fits s g h
value_held s (Simply k) (Simply k') e = e
value_held s (Simply k) (Refers c) e = absurd e
value_held s (Simply k) (ArrayOf h) e = absurd e
value_held s (Simply k) (Procedure r) e = absurd e
value_held s (Simply k) (ByName h) e = absurd e
value_held s (Refers c) (Simply k) e = e
value_held s (Refers c) (Refers c') e = e
value_held s (Refers c) (ArrayOf h) e = absurd e
value_held s (Refers c) (Procedure r) e = absurd e
value_held s (Refers c) (ByName h) e = absurd e
value_held s (ArrayOf g) h e = absurd e
value_held s (Procedure r) h e = absurd e
value_held s (ByName g) h e = absurd e

pub result_held : (s : Source) (g h : Option Holds) → ResultFits s g h → FitsIn s g h
result_held s None None e = tt
result_held s None (Some h) e = absurd e
result_held s (Some g) None e = absurd e
result_held s (Some g) (Some h) e = value_held s g h e

module _ (s : Source) (ok : Typed s) where
  pub itself_fits : (r : Option SimType) → ResultFits s (given_by s r) (given_by s r)
  itself_fits None = tt
  itself_fits (Some type.Integer) = refl
  itself_fits (Some type.Boolean) = refl
  itself_fits (Some type.Character) = refl
  itself_fits (Some type.Text) = refl
  itself_fits (Some type.NoneType) = refl
  itself_fits (Some (type.Ref d)) = by_class (qualification s (Some (type.Ref d))) refl
    where
      by_class : (x : Option ℕ) → qualification s (Some (type.Ref d)) ≡ x → ValueFits s (reference_to x) (reference_to x)
      by_class None f = refl
      by_class (Some c) f = level_has s ok c c (class_solid (text s c) (qualified_class s (Some (type.Ref d)) c f)) same_level

  -- what fits in a value that fits in another fits in that
  pub values_then : (g h' h : Holds) → ((c : ℕ) → g ≡ Refers c → is_class (text s c) ≡ true) → ValueFits s g h' → ValueFits s h' h → ValueFits s g h
  values_then (Simply k) (Simply k') (Simply q) class e f = e ∙ f
  values_then (Refers c) (Refers c') (Refers q) class e f = level_has s ok c q (class_solid (text s c) (class c refl)) (level_then s (level_is s c c' e) (level_is s c' q f))
  values_then (Refers c) (Refers c') (Simply q) class e f = f
  values_then (Refers c) (Simply k') (Simply q) class e f = e ∙ f
  values_then (Simply k) (Simply k') (Refers q) class e f = absurd f
  values_then (Simply k) (Simply k') (ArrayOf q) class e f = absurd f
  values_then (Simply k) (Simply k') (Procedure q) class e f = absurd f
  values_then (Simply k) (Simply k') (ByName q) class e f = absurd f
  values_then (Simply k) (Refers k') h class e f = absurd e
  values_then (Simply k) (ArrayOf k') h class e f = absurd e
  values_then (Simply k) (Procedure k') h class e f = absurd e
  values_then (Simply k) (ByName k') h class e f = absurd e
  values_then (Refers c) (Refers c') (ArrayOf q) class e f = absurd f
  values_then (Refers c) (Refers c') (Procedure q) class e f = absurd f
  values_then (Refers c) (Refers c') (ByName q) class e f = absurd f
  values_then (Refers c) (Simply k') (Refers q) class e f = absurd f
  values_then (Refers c) (Simply k') (ArrayOf q) class e f = absurd f
  values_then (Refers c) (Simply k') (Procedure q) class e f = absurd f
  values_then (Refers c) (Simply k') (ByName q) class e f = absurd f
  values_then (Refers c) (ArrayOf k') h class e f = absurd e
  values_then (Refers c) (Procedure k') h class e f = absurd e
  values_then (Refers c) (ByName k') h class e f = absurd e
  values_then (ArrayOf x) h' h class e f = absurd e
  values_then (Procedure x) h' h class e f = absurd e
  values_then (ByName x) h' h class e f = absurd e

  pub results_then : (own mid result : Option SimType) → ResultFits s (given_by s own) (given_by s mid) → ResultFits s (given_by s mid) (given_by s result) → ResultFits s (given_by s own) (given_by s result)
  results_then None None None e f = tt
  results_then None None (Some r) e f = absurd f
  results_then None (Some q) r e f = absurd e
  results_then (Some p) None r e f = absurd e
  results_then (Some p) (Some q) None e f = absurd f
  results_then (Some p) (Some q) (Some r) e f = values_then (held_by s p) (held_by s q) (held_by s r) (λ c same. held_class s p c same) e f

  -- and what it gives
  fits_after : (g h' h : Holds) → ((c : ℕ) → g ≡ Refers c → is_class (text s c) ≡ true) → ValueFits s g h' → Fits s h' h → Fits s g h
  fits_after g (Simply k) (Simply q) class e f = value_held s g (Simply q) (values_then g (Simply k) (Simply q) class e f)
  fits_after g (Simply k) (Refers q) class e f = absurd f
  fits_after g (Simply k) (ArrayOf q) class e f = absurd f
  fits_after g (Simply k) (Procedure q) class e f = absurd f
  fits_after g (Simply k) (ByName q) class e f = absurd f
  fits_after g (Refers c) (Simply q) class e f = value_held s g (Simply q) (values_then g (Refers c) (Simply q) class e f)
  fits_after g (Refers c) (Refers q) class e f = value_held s g (Refers q) (values_then g (Refers c) (Refers q) class e f)
  fits_after g (Refers c) (ArrayOf q) class e f = absurd f
  fits_after g (Refers c) (Procedure q) class e f = absurd f
  fits_after g (Refers c) (ByName q) class e f = absurd f
  fits_after (Simply k) (ArrayOf x) h class e f = absurd e
  fits_after (Refers c) (ArrayOf x) h class e f = absurd e
  fits_after (ArrayOf y) (ArrayOf x) h class e f = absurd e
  fits_after (Procedure y) (ArrayOf x) h class e f = absurd e
  fits_after (ByName y) (ArrayOf x) h class e f = absurd e
  fits_after (Simply k) (Procedure x) h class e f = absurd e
  fits_after (Refers c) (Procedure x) h class e f = absurd e
  fits_after (ArrayOf y) (Procedure x) h class e f = absurd e
  fits_after (Procedure y) (Procedure x) h class e f = absurd e
  fits_after (ByName y) (Procedure x) h class e f = absurd e
  fits_after (Simply k) (ByName x) h class e f = absurd e
  fits_after (Refers c) (ByName x) h class e f = absurd e
  fits_after (ArrayOf y) (ByName x) h class e f = absurd e
  fits_after (Procedure y) (ByName x) h class e f = absurd e
  fits_after (ByName y) (ByName x) h class e f = absurd e

  pub given_then : (own result : Option SimType) (h : Option Holds) → ResultFits s (given_by s own) (given_by s result) → FitsIn s (given_by s result) h → FitsIn s (given_by s own) h
  given_then None None None e f = tt
  given_then None None (Some h) e f = absurd f
  given_then None (Some r) h e f = absurd e
  given_then (Some q) None h e f = absurd e
  given_then (Some q) (Some r) None e f = absurd f
  given_then (Some q) (Some r) (Some h) e f = fits_after (held_by s q) (held_by s r) h (λ c same. held_class s q c same) e f
