-- What a call is held against when it is done fits on both sides or on neither, and both find the same instances of classes.
use Rattle.std.proofs.Common.{◌≡◌, ℕ, zero, suc, Bool, true, false, List, [], ◌∷◌, length, map, Option, Some, None, refl, sym, ap, ◌∙◌, arith}
use Rattle.std.specs.List.{list_any}
use Rattle.std.specs.Prelude.{◌==◌, ◌&&◌, ◌||◌, if◌then◌else◌, not, slice_get}
use Rattle.sim_scope.specs.declared.types.Formal.{Formal}
use Rattle.sim_scope.specs.declared.types.FormalKind.{FormalKind}
use Rattle.sim_scope.specs.declared.types.FormalKind.TheVariants as shape
use Rattle.sim_scope.specs.declared.types.Mode.{Mode}
use Rattle.sim_scope.specs.declared.types.SimType.{SimType}
use Rattle.sim_scope.specs.declared.types.SimType.TheVariants as t
use Rattle.sim_scope.specs.Levels.{has_level}
use Rattle.sim_scope.specs.Source.{Source, level_of}
use Rattle.sim_tree.specs.Syntax.{Expressions, NoMore, Then}
use Rattle.sim_code.specs.Classes.{block_in_record, levels}
use Rattle.sim_code.specs.Code.{CodeOf}
use Rattle.sim_code.specs.Formals.{and_then, each, holder_at, same_holder}
use Rattle.sim_code.specs.Formals as table
use Rattle.sim_code.specs.Machine.{Frames, is_nothing}
use Rattle.sim_meaning.specs.Checks.{Passed, PassedArray, PassedProcedure, PassedValue, agrees, all_fit, all_passed, fits, fits_as, passed}
use Rattle.sim_meaning.specs.Checks as checks
use Rattle.sim_meaning.specs.Levels.{has_levels, levels_of, qualification}
use Rattle.sim_meaning.specs.Pending.{Instances}
use Rattle.sim_meaning.specs.Steps.{count_of}
use Rattle.sim_meaning.specs.Texts.{text}
use Rattle.codegen_expr.specs.CodeExpr.{class_or_none, code_actual, code_actuals, type_of}
use Rattle.codegen_expr.specs.Sites.{class_number}
use Rattle.codegen.specs.Compiled.{Compiled, code_formal}
use Rattle.sim_relate.proofs.Admitting.{class_counts}
use Rattle.sim_relate.proofs.ClassLevels.{among_same, class_levels, class_test, level_levels, counts as block_counts, levels_numbers, levels_solid, number_is as block_number_is, numbered, place_in}
use Rattle.sim_relate.proofs.ClassNames.{qualification_classed}
use Rattle.sim_relate.proofs.ClassTexts.{class_has}
use Rattle.sim_relate.proofs.Frames.{bool_cases}
use Rattle.sim_relate.proofs.LevelLists.{place_level}
use Rattle.sim_relate.proofs.Relation.{StoreAt}
use Rattle.sim_relate.proofs.Stores.{levels_same}
use Rattle.sim_relate.proofs.Trees.{Classed}

-- ---- numbers

number_is : (a b : ℕ) → (a == b) ≡ true → a ≡ b
number_is a b e = grind (arith, e)

not_zero : (n : ℕ) → (suc n == 0) ≡ false
not_zero n = grind arith

zero_not : (n : ℕ) → (0 == suc n) ≡ false
zero_not n = grind arith

-- ---- types

-- as the code knows them
types_alike : (c : Bool) (a b : SimType) → table.alike c (type_of (Some a)) (type_of (Some b)) ≡ checks.alike c a b
types_alike c t.Integer t.Integer = refl
types_alike c t.Integer t.Boolean = refl
types_alike c t.Integer t.Character = refl
types_alike c t.Integer t.Text = refl
types_alike c t.Integer (t.Ref y) = refl
types_alike c t.Integer t.NoneType = refl
types_alike c t.Boolean t.Integer = refl
types_alike c t.Boolean t.Boolean = refl
types_alike c t.Boolean t.Character = refl
types_alike c t.Boolean t.Text = refl
types_alike c t.Boolean (t.Ref y) = refl
types_alike c t.Boolean t.NoneType = refl
types_alike c t.Character t.Integer = refl
types_alike c t.Character t.Boolean = refl
types_alike c t.Character t.Character = refl
types_alike c t.Character t.Text = refl
types_alike c t.Character (t.Ref y) = refl
types_alike c t.Character t.NoneType = refl
types_alike c t.Text t.Integer = refl
types_alike c t.Text t.Boolean = refl
types_alike c t.Text t.Character = refl
types_alike c t.Text t.Text = refl
types_alike c t.Text (t.Ref y) = refl
types_alike c t.Text t.NoneType = refl
types_alike c (t.Ref x) t.Integer = refl
types_alike c (t.Ref x) t.Boolean = refl
types_alike c (t.Ref x) t.Character = refl
types_alike c (t.Ref x) t.Text = refl
types_alike c (t.Ref x) (t.Ref y) = refl
types_alike c (t.Ref x) t.NoneType = refl
types_alike c t.NoneType t.Integer = refl
types_alike c t.NoneType t.Boolean = refl
types_alike c t.NoneType t.Character = refl
types_alike c t.NoneType t.Text = refl
types_alike c t.NoneType (t.Ref y) = refl
types_alike c t.NoneType t.NoneType = refl

types_as : (c c' : Bool) → c ≡ c' → (a b : SimType) → table.alike c (type_of (Some a)) (type_of (Some b)) ≡ checks.alike c' a b
types_as c c' e a b = ap (λ z. table.alike z (type_of (Some a)) (type_of (Some b))) e ∙ types_alike c' a b

some_type : (a : SimType) → is_nothing (type_of (Some a)) ≡ false
some_type t.Integer = refl
some_type t.Boolean = refl
some_type t.Character = refl
some_type t.Text = refl
some_type (t.Ref x) = refl
some_type t.NoneType = refl

-- nothing is no such type
none_alike : (c : Bool) (a : SimType) → table.alike c (type_of (Some a)) (type_of None) ≡ false
none_alike c t.Integer = refl
none_alike c t.Boolean = refl
none_alike c t.Character = refl
none_alike c t.Text = refl
none_alike c (t.Ref x) = refl
none_alike c t.NoneType = refl

nothing_alike : (c : Bool) (a : SimType) → table.alike c (type_of None) (type_of (Some a)) ≡ false
nothing_alike c t.Integer = refl
nothing_alike c t.Boolean = refl
nothing_alike c t.Character = refl
nothing_alike c t.Text = refl
nothing_alike c (t.Ref x) = refl
nothing_alike c t.NoneType = refl

-- of three tests of which the first holds
and_all : (a b c d : Bool) → a ≡ false → b ≡ true → c ≡ d → (not a && b && c) ≡ d
and_all false true c d e f g = g
and_all true b c d e f g = absurd (cc (e))
and_all false false c d e f g = absurd (cc (f))

and_two : (a c d : Bool) → a ≡ false → c ≡ d → (not a && c) ≡ d
and_two false c d e g = g
and_two true c d e g = absurd (cc (e))

and_not : (a b c : Bool) → b ≡ false → (not a && b && c) ≡ false
and_not a true c e = absurd (cc (e))
and_not false false c e = refl
and_not true false c e = refl

-- ---- classes

module _ (s : Source) (code : CodeOf) (compiled : Compiled s code) where
  abbrev number : Option ℕ → ℕ
  number o = class_or_none s code o

  abbrev ClassIf : Option ℕ → Type 0
  ClassIf o = (k : ℕ) → o ≡ Some k → Classed s k

  leveled : (k : ℕ) → Classed s k → has_levels (text s k) ≡ true
  leveled k c = class_levels s code compiled k c

  counts : (k : ℕ) → Classed s k → (n : ℕ) × (class_number s code k ≡ suc n)
  counts k c = class_counts s code compiled k c

  numbers_count : (k : ℕ) → has_levels (text s k) ≡ true → (n : ℕ) × (class_number s code k ≡ suc n)
  numbers_count k has =
      let x = class_has s code compiled k has in
      let y = block_counts s code compiled k x in
      (y.0, block_number_is s code compiled k x ∙ y.1)

  -- no level has the number 0
  no_zero : (k : ℕ) → has_levels (text s k) ≡ true → list_any (λ z. z == 0) (map (class_number s code) (levels_of s k)) ≡ false
  no_zero k has =
      bool_cases (list_any (λ z. z == 0) (map (class_number s code) (levels_of s k)))
      (λ e. let x = place_in (class_number s code) 0 (levels_of s k) e in
      let solid = levels_solid s code compiled k has in
      let level = (place_level s compiled.agrees k x.text x.place solid x.there).0 in
      absurd (none x.text (level_levels s code compiled k x.text level has) x.same))
      (λ e. e)
    where
      none : (j : ℕ) → has_levels (text s j) ≡ true → (class_number s code j == 0) ≡ true → ⊥
      none j h e =
          let n = numbers_count j h in
          let zero : class_number s code j ≡ 0 = number_is (class_number s code j) 0 e in
          absurd (cc (sym n.1 ∙ zero))

  -- whether one is inside another
  within : (outer inner : Option ℕ) → ClassIf outer → ClassIf inner → table.is_within code (number inner) (number outer) ≡ checks.is_within s outer inner
  unfolding levels
  within None None f g = refl
  within (Some k) None f g = refl
  within None (Some a) f g = ap (table.has_level 0) (levels_numbers s code compiled a (leveled a (g a refl))) ∙ no_zero a (leveled a (g a refl))
  within (Some k) (Some a) f g = ap (table.has_level (class_number s code k)) (levels_numbers s code compiled a (leveled a (g a refl))) ∙ among_same s code compiled a k (leveled a (g a refl)) (leveled k (f k refl))

  counted_not : (k : ℕ) → Classed s k → (class_number s code k == 0) ≡ false
  counted_not k c = let n = counts k c in ap (λ z. z == 0) n.1 ∙ not_zero n.0

  abbrev chained : (formal actual : ℕ) → Bool
  chained f a = a == 0 || table.is_within code a f || table.is_within code f a

  chain : (f a : Option ℕ) → ClassIf f → ClassIf a → chained (number f) (number a) ≡ checks.on_chain s f a
  chain f None h g = refl
  chain None (Some a) h g =
      ap (λ z. z || table.is_within code (class_number s code a) 0 || table.is_within code 0 (class_number s code a)) (counted_not a (g a refl)) ∙
      ap (λ z. z || table.is_within code 0 (class_number s code a)) (within None (Some a) h g) ∙ within (Some a) None g h
  chain (Some f) (Some a) h g =
      ap (λ z. z || table.is_within code (class_number s code a) (class_number s code f) || table.is_within code (class_number s code f) (class_number s code a)) (counted_not a (g a refl)) ∙
      ap (λ z. z || table.is_within code (class_number s code f) (class_number s code a)) (within (Some f) (Some a) h g) ∙ ap (λ z. has_level s.tables a f || z) (within (Some a) (Some f) g h)

  same : (f a : Option ℕ) → ClassIf f → ClassIf a → (number a == number f) ≡ checks.same_class f a
  same None None h g = refl
  same None (Some a) h g = counted_not a (g a refl)
  same (Some f) None h g = let n = counts f (h f refl) in ap (λ z. 0 == z) n.1 ∙ zero_not n.0
  same (Some f) (Some a) h g = class_test s code compiled a f (leveled a (g a refl)) (leveled f (h f refl))

  of_type : (type : Option SimType) → ClassIf (qualification s type)
  of_type type k e = qualification_classed s type k e

  abbrev formal : Mode → FormalKind → Option SimType → Formal
  formal by kind type = record { mode = by; kind = kind; ty = type }

  -- ---- whether an actual parameter fits

  value_fits : (by : Mode) (type : Option SimType) (p : Passed) → table.value_fits code (code_formal s code (formal by shape.Simple type)) (code_actual s code p) ≡ checks.simple_fits s type p
  value_fits by None (PassedArray element) = refl
  value_fits by None (PassedValue given variable) = refl
  value_fits by None (PassedProcedure result zero) = refl
  value_fits by None (PassedProcedure result (suc n)) = refl
  value_fits by (Some a) (PassedArray element) = and_all (is_nothing (type_of (Some a))) true _ false (some_type a) refl (none_alike _ a)
  value_fits by (Some a) (PassedValue None variable) = and_all (is_nothing (type_of (Some a))) true _ false (some_type a) refl (none_alike _ a)
  value_fits by (Some a) (PassedValue (Some b) variable) =
      and_all (is_nothing (type_of (Some a))) true _ _ (some_type a) refl (types_as _ _ (chain (qualification s (Some a)) (qualification s (Some b)) (of_type (Some a)) (of_type (Some b))) a b)
  value_fits by (Some a) (PassedProcedure None zero) = and_all (is_nothing (type_of (Some a))) true _ false (some_type a) refl (none_alike _ a)
  value_fits by (Some a) (PassedProcedure (Some b) zero) =
      and_all (is_nothing (type_of (Some a))) true _ _ (some_type a) refl (types_as _ _ (chain (qualification s (Some a)) (qualification s (Some b)) (of_type (Some a)) (of_type (Some b))) a b)
  value_fits by (Some a) (PassedProcedure result (suc n)) = and_not (is_nothing (type_of (Some a))) (suc n == 0) _ (not_zero n)

  array_fits : (by : Mode) (type : Option SimType) (p : Passed) → table.array_fits (code_formal s code (formal by shape.Array type)) (code_actual s code p) ≡ fits_as s shape.Array type p
  array_fits by None (PassedArray element) = refl
  array_fits by None (PassedValue given variable) = refl
  array_fits by None (PassedProcedure result n) = refl
  array_fits by (Some a) (PassedArray None) = and_two (is_nothing (type_of (Some a))) _ false (some_type a) (none_alike _ a)
  array_fits by (Some a) (PassedArray (Some b)) = and_two (is_nothing (type_of (Some a))) _ _ (some_type a) (types_as _ _ (same (qualification s (Some a)) (qualification s (Some b)) (of_type (Some a)) (of_type (Some b))) a b)
  array_fits by (Some a) (PassedValue given variable) = and_two (is_nothing (type_of (Some a))) _ false (some_type a) (none_alike _ a)
  array_fits by (Some a) (PassedProcedure result n) = and_two (is_nothing (type_of (Some a))) _ false (some_type a) (none_alike _ a)

  procedure_fits : (by : Mode) (type : Option SimType) (p : Passed) → table.procedure_fits code (code_formal s code (formal by shape.Procedure type)) (code_actual s code p) ≡ fits_as s shape.Procedure type p
  procedure_fits by type (PassedArray element) = refl
  procedure_fits by type (PassedValue given variable) = refl
  procedure_fits by None (PassedProcedure None n) = refl
  procedure_fits by None (PassedProcedure (Some b) n) = nothing_alike true b
  procedure_fits by (Some a) (PassedProcedure None n) = none_alike _ a
  procedure_fits by (Some a) (PassedProcedure (Some b) n) = types_as _ _ (within (qualification s (Some a)) (qualification s (Some b)) (of_type (Some a)) (of_type (Some b))) a b

  pub fits_same : (f : Formal) (p : Passed) → table.fits code (code_formal s code f) (code_actual s code p) ≡ fits s f p
  unfolding fits
  fits_same f p = by f.kind
    where
      by : (kind : FormalKind) → table.fits code (code_formal s code (formal f.mode kind f.ty)) (code_actual s code p) ≡ fits_as s kind f.ty p
      by shape.Simple = value_fits f.mode f.ty p
      by shape.Array = array_fits f.mode f.ty p
      by shape.Procedure = procedure_fits f.mode f.ty p

  pub all_fit_same : (fs : List Formal) (es : Expressions) → table.all_fit code (map (code_formal s code) fs) (code_actuals s code es) ≡ all_fit s fs (all_passed s es)
  all_fit_same [] es = refl
  all_fit_same (f ∷ fs) NoMore = refl
  all_fit_same (f ∷ fs) (Then e es) =
      ap (λ z. z && table.all_fit code (map (code_formal s code) fs) (code_actuals s code es)) (fits_same f (passed s e)) ∙ ap (λ z. fits s f (passed s e) && z) (all_fit_same fs es)

  pub actuals_many : (es : Expressions) → length (code_actuals s code es) ≡ count_of es
  actuals_many NoMore = refl
  actuals_many (Then e es) = ap suc (actuals_many es)

  -- ---- the instances of classes

  -- the level of the objects of a class
  class_level : (k : ℕ) → Classed s k → table.class_level code (class_number s code k) ≡ Some (level_of s k)
  class_level k c =
      let x = class_has s code compiled k (leveled k c) in
      ap (λ z. table.level_in (block_in_record code z)) (numbered s code compiled k x) ∙ ap (λ n. table.level_in (slice_get code.blocks n)) x.has.is.of_block ∙ ap table.level_in x.found ∙ ap Some x.has.heads.level

  module _ (m : Instances) (fs : Frames) (store : StoreAt s code m fs) where
    holder_same : (level j : ℕ) → holder_at fs level j ≡ holder_at m level j
    holder_same zero j = refl
    holder_same (suc level) j = levels_same s code store level j

    holder : (o : Option ℕ) → ClassIf o → (j : ℕ) → table.holder_of fs (table.class_level code (number o)) j ≡ checks.holder_of s m o j
    holder None f j = refl
    holder (Some k) f j = ap (λ z. table.holder_of fs z j) (class_level k (f k refl)) ∙ holder_same (level_of s k) j

    abbrev Both : (parent home : ℕ) → (f a : ℕ) → Option Bool
    Both parent home f a = same_holder (table.holder_of fs (table.class_level code f) parent) (table.holder_of fs (table.class_level code a) home)

    abbrev by_reference : (formal : Option SimType) → (parent home a : ℕ) → Option Bool
    by_reference type parent home a = if table.is_reference (type_of type) && not (a == 0) then Both parent home (number (qualification s type)) a else Some true

    agree_by : (type : Option SimType) (parent home : ℕ) (o : Option ℕ) → ClassIf o → table.is_reference (type_of type) ≡ true → by_reference type parent home (number o) ≡ checks.holders_agree s m parent home (qualification s type) o
    agree_by type parent home None f e = rw e refl
    agree_by type parent home (Some k) f e =
        ap (λ z. if z && not (class_number s code k == 0) then Both parent home (number (qualification s type)) (class_number s code k) else Some true) e ∙
        ap (λ z. if true && not z then Both parent home (number (qualification s type)) (class_number s code k) else Some true) (counted_not k (f k refl)) ∙
        ap (λ z. same_holder z (table.holder_of fs (table.class_level code (class_number s code k)) home)) (holder (qualification s type) (of_type type) parent) ∙ ap (λ z. same_holder (checks.holder_of s m (qualification s type) parent) z) (holder (Some k) f home)

    agree_type : (type : Option SimType) (parent home : ℕ) (o : Option ℕ) → ClassIf o → by_reference type parent home (number o) ≡ checks.if_reference type (checks.holders_agree s m parent home (qualification s type) o)
    agree_type None parent home o f = refl
    agree_type (Some t.Integer) parent home o f = refl
    agree_type (Some t.Boolean) parent home o f = refl
    agree_type (Some t.Character) parent home o f = refl
    agree_type (Some t.Text) parent home o f = refl
    agree_type (Some (t.Ref c)) parent home o f = agree_by (Some (t.Ref c)) parent home o f refl
    agree_type (Some t.NoneType) parent home o f = agree_by (Some t.NoneType) parent home o f refl

    agree_passed : (parent home : ℕ) (f : Formal) (p : Passed) → table.holders_agree code fs parent home (code_formal s code f) (code_actual s code p) ≡ agrees s m parent home f p
    unfolding agrees
    agree_passed parent home f (PassedArray element) = agree_type f.ty parent home (qualification s element) (of_type element)
    agree_passed parent home f (PassedProcedure result n) = agree_type f.ty parent home (qualification s result) (of_type result)
    agree_passed parent home f (PassedValue given variable) = agree_type f.ty parent home (qualification s given) (of_type given)

    pub each_same : (parent home : ℕ) (fs' : List Formal) (es : Expressions) → each (table.holders_agree code fs parent home) (map (code_formal s code) fs') (code_actuals s code es) ≡ each (agrees s m parent home) fs' (all_passed s es)
    unfolding each
    each_same parent home [] es = refl
    each_same parent home (f ∷ fs') NoMore = refl
    each_same parent home (f ∷ fs') (Then e es) =
        ap (λ z. and_then z (each (table.holders_agree code fs parent home) (map (code_formal s code) fs') (code_actuals s code es))) (agree_passed parent home f (passed s e)) ∙ ap (and_then (agrees s m parent home f (passed s e))) (each_same parent home fs' es)
