-- What a standard prefix brings: the texts of three classes with `simset`, of four with `simulation`; any other name brings none.
use Rattle.std.proofs.Common.{◌≡◌, ℕ, zero, suc, List, [], ◌++◌, Option, Some, None, refl, sym, ap, ◌∙◌, subst}
use Rattle.std.specs.Prelude.{map, slice_get}
use Rattle.sim_scope.specs.declared.types.StandardClass.{StandardClass}
use Rattle.sim_scope.specs.declared.types.StandardClass.TheVariants as standard
use Rattle.sim_scope.specs.declared.types.StandardPrefix.{StandardPrefix}
use Rattle.sim_scope.specs.declared.types.StandardPrefix.TheVariants as prefix
use Rattle.sim_scope.specs.Bodies.{classes_declared}
use Rattle.sim_scope.specs.Building.{place_of}
use Rattle.sim_scope.specs.Standard.{standard_prefix}
use Rattle.sim_meaning.specs.Texts.{ClassText, PrefixedText, StandardText, Text, prefix_texts, standard_texts}
use Rattle.sim_tree.specs.declared.expr.Identifier.{Identifier}

-- an identifier is spelt as a standard prefix
abbrev pub Spells : StandardPrefix → Identifier → Type 0
Spells p y = standard_prefix y.name ≡ Some p

-- the classes that it brings, and their texts
abbrev pub classes_of : StandardPrefix → List StandardClass
classes_of p = classes_declared (Some p)

abbrev pub brought_texts : StandardPrefix → List Text
brought_texts p = map StandardText (classes_of p)

-- `simulation` alone brings `process`
abbrev pub IsBrought : StandardPrefix → StandardClass → Type 0
IsBrought p standard.Process = p ≡ prefix.Simulation
IsBrought p _ = Unit {0}

some_same : {A : Type 0} (a b : A) → Some a ≡ Some b → a ≡ b
some_same a b e = cc

-- each at its place
pub brought_text : (p : StandardPrefix) (which : StandardClass) → IsBrought p which → slice_get (brought_texts p) (place_of which) ≡ Some (StandardText which)
brought_text prefix.Simset standard.Linkage is = refl
brought_text prefix.Simset standard.Link is = refl
brought_text prefix.Simset standard.Head is = refl
brought_text prefix.Simset standard.Process is = absurd (cc)
brought_text prefix.Simulation standard.Linkage is = refl
brought_text prefix.Simulation standard.Link is = refl
brought_text prefix.Simulation standard.Head is = refl
brought_text prefix.Simulation standard.Process is = refl

pub text_brought : (p : StandardPrefix) (i : ℕ) (x : Text) → slice_get (brought_texts p) i ≡ Some x → (which : StandardClass) × (x ≡ StandardText which) × IsBrought p which × (i ≡ place_of which)
text_brought prefix.Simset zero x e = (standard.Linkage, sym (some_same (StandardText standard.Linkage) x e), tt, refl)
text_brought prefix.Simset (suc zero) x e = (standard.Link, sym (some_same (StandardText standard.Link) x e), tt, refl)
text_brought prefix.Simset (suc (suc zero)) x e = (standard.Head, sym (some_same (StandardText standard.Head) x e), tt, refl)
text_brought prefix.Simset (suc (suc (suc i))) x e = absurd (cc)
text_brought prefix.Simulation zero x e = (standard.Linkage, sym (some_same (StandardText standard.Linkage) x e), tt, refl)
text_brought prefix.Simulation (suc zero) x e = (standard.Link, sym (some_same (StandardText standard.Link) x e), tt, refl)
text_brought prefix.Simulation (suc (suc zero)) x e = (standard.Head, sym (some_same (StandardText standard.Head) x e), tt, refl)
text_brought prefix.Simulation (suc (suc (suc zero))) x e = (standard.Process, sym (some_same (StandardText standard.Process) x e), refl, refl)
text_brought prefix.Simulation (suc (suc (suc (suc i)))) x e = absurd (cc)

-- a standard prefix in front of a class or a block, as it is written
abbrev pub InFront : StandardPrefix → Text → Type 0
InFront p (ClassText (Some y) h ds ss) = Spells p y
InFront p (PrefixedText class es ds ss) = Spells p class
InFront p _ = ⊥

-- there is one alone
pub one_in_front : (p q : StandardPrefix) (x : Text) → InFront p x → InFront q x → p ≡ q
one_in_front p q (ClassText (Some y) h ds ss) a b = some_same p q (sym a ∙ b)
one_in_front p q (PrefixedText class es ds ss) a b = some_same p q (sym a ∙ b)
one_in_front p q _ a b = absurd a

pub no_texts : (name : List ℕ) → standard_prefix name ≡ None → standard_texts name ≡ []
unfolding standard_texts
no_texts name e = ap (λ o. map StandardText (classes_declared o)) e

pub texts_of_standard : (p : StandardPrefix) (name : List ℕ) → standard_prefix name ≡ Some p → standard_texts name ≡ brought_texts p
unfolding standard_texts
texts_of_standard p name e = ap (λ o. map StandardText (classes_declared o)) e

-- what is so of texts is so of them behind those that a prefix brings
pub behind_prefix : (P : List Text → Type 0) (prefix : Option Identifier) (xs : List Text) → P xs → ((p : StandardPrefix) → P (brought_texts p ++ xs)) → P (prefix_texts prefix ++ xs)
behind_prefix P None xs a b = a
behind_prefix P (Some y) xs a b = go (standard_prefix y.name) refl
  where
    go : (o : Option StandardPrefix) → standard_prefix y.name ≡ o → P (standard_texts y.name ++ xs)
    go None e = subst (λ z. P (z ++ xs)) (sym (no_texts y.name e)) a
    go (Some p) e = subst (λ z. P (z ++ xs)) (sym (texts_of_standard p y.name e)) (b p)
