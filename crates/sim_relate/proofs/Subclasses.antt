-- The classes of which a class is a level: each is a class, and all are there.
use Rattle.std.proofs.Common.{◌≡◌, ◌<◌, ◌≤◌, ◌+◌, ℕ, zero, suc, Bool, true, false, length, Option, Some, None, refl, sym, ap, ◌∙◌, arith}
use Rattle.std.proofs.lemmas.Option.{slice_get_within}
use Rattle.std.specs.Prelude.{◌&&◌, ◌==◌, ◌≢◌, slice_get}
use Rattle.sim_scope.specs.Levels.{has_level}
use Rattle.sim_scope.specs.Source.{Source}
use Rattle.sim_meaning.specs.Levels.{is_class}
use Rattle.sim_meaning.specs.Texts.{BlockText, ClassText, ConnectionText, PrefixedText, ProcedureText, StandardText, Text, program_texts, text}
use Rattle.codegen_expr.specs.Sites.{LevelOf, is_connected}
use Rattle.codegen.specs.Agrees.{Agrees}
use Rattle.codegen.specs.CodeStm.{is_class_text, is_subclass, subclasses, subclasses_from, with_subclass}
use Rattle.sim_relate.proofs.LevelLists.{level_has}

pub class_is : (x : Option Text) → is_class_text x ≡ true → is_class x ≡ true
class_is None e = absurd (cc (e))
class_is (Some (BlockText begin ds ss)) e = absurd (cc (e))
class_is (Some (ProcedureText result h a)) e = absurd (cc (e))
class_is (Some (PrefixedText class es ds ss)) e = absurd (cc (e))
class_is (Some ConnectionText) e = absurd (cc (e))
class_is (Some (StandardText which)) e = absurd (cc (e))
class_is (Some (ClassText prefix h ds ss)) e = refl

there_is : (x : Option Text) → is_class_text x ≡ true → (y : Text) × (x ≡ Some y)
there_is None e = absurd (cc (e))
there_is (Some y) e = (y, refl)

and_left : (a b : Bool) → (a && b) ≡ true → a ≡ true
and_left true b e = refl
and_left false b e = absurd (cc (e))

same_number : (a b : ℕ) → (a == b) ≡ true → a ≡ b
same_number a b e = grind (arith, e)

equal_number : (x : ℕ) → (x == x) ≡ true
equal_number x = grind arith

some_is : {A : Type 0} {x y : A} → Some x ≡ Some y → x ≡ y
some_is e = cc (e)

module _ (s : Source) (k : ℕ) where
  -- the first of them, if it is one, and those behind it
  each_with : (a j : ℕ) (count : ℕ) → ((n : ℕ) → slice_get (subclasses_from s k (suc a) count) n ≡ Some j → is_class_text (text s j) ≡ true) → (b : Bool) → is_subclass s k a ≡ b → (n : ℕ) → slice_get (with_subclass b a (subclasses_from s k (suc a) count)) n ≡ Some j → is_class_text (text s j) ≡ true
  each_with a j count more false f n e = more n e
  each_with a j count more true f zero e = ap (λ z. is_class_text (text s z)) (sym (some_is e)) ∙ and_left _ _ f
  each_with a j count more true f (suc n) e = more n e

  each_from : (a count n j : ℕ) → slice_get (subclasses_from s k a count) n ≡ Some j → is_class_text (text s j) ≡ true
  each_from a zero n j e = absurd (cc (e))
  each_from a (suc count) n j e = each_with a j count (λ n e. each_from (suc a) count n j e) (is_subclass s k a) refl n e

  behind : (a j count : ℕ) (b : Bool) → (n : ℕ) × (slice_get (subclasses_from s k (suc a) count) n ≡ Some j) → (n : ℕ) × (slice_get (with_subclass b a (subclasses_from s k (suc a) count)) n ≡ Some j)
  behind a j count false x = x
  behind a j count true x = (suc x.0, x.1)

  there_with : (a j count : ℕ) → is_subclass s k j ≡ true → (a ≢ j → (n : ℕ) × (slice_get (subclasses_from s k (suc a) count) n ≡ Some j)) → (y : Bool) → (a == j) ≡ y → (n : ℕ) × (slice_get (with_subclass (is_subclass s k a) a (subclasses_from s k (suc a) count)) n ≡ Some j)
  there_with a j count h more true f =
      let same = same_number a j f in
      let here : is_subclass s k a ≡ true = ap (is_subclass s k) same ∙ h in
      (0, ap (λ b. slice_get (with_subclass b a (subclasses_from s k (suc a) count)) 0) here ∙ ap Some same)
  there_with a j count h more false f =
      behind a j count (is_subclass s k a) (more (λ same. let wrong : false ≡ true = sym f ∙ ap (λ z. a == z) (sym same) ∙ equal_number a in absurd (cc (wrong))))

  there_from : (a count j : ℕ) → is_subclass s k j ≡ true → a ≤ j → j < a + count → (n : ℕ) × (slice_get (subclasses_from s k a count) n ≡ Some j)
  there_from a zero j h low high = absurd (omega (arith, low, high))
  there_from a (suc count) j h low high = there_with a j count h (λ other. there_from (suc a) count j h (grind (arith, low, other)) (omega (arith, high))) (a == j) refl

  pub each_class : (n j : ℕ) → slice_get (subclasses s k) n ≡ Some j → is_class_text (text s j) ≡ true
  unfolding subclasses
  each_class n j e = each_from 0 (length s.tables.blocks) n j e

  -- a class text that has it among its levels
  pub own_class : (agrees : Agrees s) (own : ℕ) → is_connected s.tables own ≡ false → is_class_text (text s own) ≡ true → LevelOf s.tables own k → (n : ℕ) × (slice_get (subclasses s k) n ≡ Some own)
  unfolding subclasses text
  own_class agrees own solid class level =
      let there = there_is (text s own) class in
      let within = slice_get_within (program_texts s.program.prefix s.program.block) own there.0 there.1 in
      let many = agrees.as_many in
      there_from 0 (length s.tables.blocks) own (ap (λ z. z && has_level s.tables own k) class ∙ level_has s agrees own k level solid) (omega arith) (omega (arith, within, many))
