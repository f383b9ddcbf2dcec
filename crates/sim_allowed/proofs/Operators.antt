-- What operators make of operands.
use Rattle.std.proofs.Common.{◌≡◌, ℕ, Bool, true, false, Option, Some, None, refl, sym, ap, ◌∙◌, subst, arith, if◌then◌else◌}
use Rattle.std.proofs.lemmas.Bool.{false≢true}
use Rattle.std.proofs.lemmas.Bool.Decides.{nat_tests}
use Rattle.std.specs.Prelude.{nat_eq}
use Rattle.sim_base.specs.declared.numbering.DeclNo.{DeclNo}
use Rattle.sim_base.specs.declared.rule.Rule.TheVariants as r
use Rattle.sim_scope.specs.declared.outcome.Fit.{Fit}
use Rattle.sim_scope.specs.declared.outcome.Fit.TheVariants as fit
use Rattle.sim_scope.specs.declared.outcome.Side.{Side}
use Rattle.sim_scope.specs.declared.types.SimType.{SimType}
use Rattle.sim_scope.specs.declared.types.SimType.TheVariants as t
use Rattle.sim_scope.specs.Judged.{telling}
use Rattle.sim_scope.specs.Levels.{shared_class}
use Rattle.sim_scope.specs.Operators.{alike, both_are, common_type, is_reference, is_same, misfit_of, operands_fit, ordered, reference_to, wrong_type_unless}
use Rattle.sim_scope.specs.Outcomes.{arms_fit, breaks, fitted, has, in_common, one, three, two, type_wanted, types_fit}
use Rattle.sim_scope.specs.Source.{Source, type_at}
use Rattle.sim_scope.specs.Tables.{Tables}
use Rattle.sim_tree.specs.declared.expr.Multiplication.TheVariants as multiplication
use Rattle.sim_tree.specs.declared.expr.Relation.{Relation}
use Rattle.sim_tree.specs.declared.expr.Relation.TheVariants as relation
use Rattle.sim_tree.specs.declared.expr.Sign.{Sign}
use Rattle.sim_tree.specs.declared.expr.Sign.TheVariants as sign
use Rattle.sim_tree.specs.declared.operator.Operator.{Operator}
use Rattle.sim_tree.specs.declared.operator.Operator.TheVariants as op
use Rattle.sim_tree.specs.Syntax.{Expression}
use Rattle.sim_tree.specs.Syntax as syntax
use Rattle.sim_values.specs.declared.kind.Kind.TheVariants as kind
use Rattle.sim_meaning.specs.Closing.{is_placed, is_text, is_text_type, own_match, result_meant, sort_of, stream_of, typed_token}
use Rattle.sim_meaning.specs.Texts.{kind_of_type, text}
use Rattle.sim_sound.specs.Held.{Fits, Holds, Place, Simply}
use Rattle.sim_sound.specs.Expressions.{ExprIs, SortKinds}
use Rattle.sim_agree.specs.Facts.{IsClass, PlainType, Tabled}
use Rattle.sim_meaning.specs.Checks.{passed, value_passed}
use Rattle.sim_allowed.proofs.Calls.{OperandIs}
use Rattle.sim_allowed.proofs.Classes.{class_held, fits_inside, none_takes, plain_proper, plain_value, proper_value, shared_both, simply, no_connection}
use Rattle.sim_allowed.proofs.Meant.{Means, Takes, ValueType, NoOwn}
use Rattle.sim_allowed.proofs.Said.{AllSay}

-- types that are the same
pub same_type : (a b : SimType) → PlainType b → is_same a b ≡ true → a ≡ b
same_type t.Integer t.Integer p e = refl
same_type t.Boolean t.Boolean p e = refl
same_type t.Character t.Character p e = refl
same_type t.Text t.Text p e = refl
same_type a (t.Ref c) p e = absurd p
same_type a t.NoneType p e = absurd p
same_type a b p e = absurd (false≢true e)

pub same_type_of : (a b : SimType) → PlainType a → is_same a b ≡ true → a ≡ b
same_type_of t.Integer t.Integer p e = refl
same_type_of t.Boolean t.Boolean p e = refl
same_type_of t.Character t.Character p e = refl
same_type_of t.Text t.Text p e = refl
same_type_of (t.Ref c) b p e = absurd p
same_type_of t.NoneType b p e = absurd p
same_type_of a b p e = absurd (false≢true e)

-- the same number of a declaration
same_number : (c d : DeclNo) → nat_eq c.0 d.0 ≡ true → c ≡ d
same_number c d e = let same : c.0 ≡ d.0 = grind (arith, nat_tests) in ap (λ z. let y : DeclNo = record { 0 = z } in y) same

pub same_types : (a b : SimType) → is_same a b ≡ true → a ≡ b
same_types t.Integer t.Integer e = refl
same_types t.Boolean t.Boolean e = refl
same_types t.Character t.Character e = refl
same_types t.Text t.Text e = refl
same_types (t.Ref c) (t.Ref d) e = ap t.Ref (same_number c d e)
same_types t.NoneType t.NoneType e = refl
same_types a b e = absurd (false≢true e)

-- a value that goes to a place of a type has that type, where one of the two is no reference
same_unless : (a b : SimType) → wrong_type_unless (is_same a b) ≡ None → is_same a b ≡ true
same_unless a b e = go (is_same a b) refl e
  where
    go : (c : Bool) → is_same a b ≡ c → wrong_type_unless c ≡ None → is_same a b ≡ true
    go true is e = is
    go false is e = absurd (cc)

never_wrong : Some r.WrongType ≡ None → ⊥
never_wrong e = cc

-- what goes to a place of a type has the kind of that type, and is of that type where it is no reference
pub no_misfit : (s : Tables) (a b : SimType) → misfit_of s a b ≡ None → kind_of_type b ≡ kind_of_type a
unfolding misfit_of
no_misfit s t.Integer b e = ap kind_of_type (sym (same_type_of t.Integer b tt (same_unless t.Integer b e)))
no_misfit s t.Boolean b e = ap kind_of_type (sym (same_type_of t.Boolean b tt (same_unless t.Boolean b e)))
no_misfit s t.Character b e = ap kind_of_type (sym (same_type_of t.Character b tt (same_unless t.Character b e)))
no_misfit s t.Text b e = ap kind_of_type (sym (same_type_of t.Text b tt (same_unless t.Text b e)))
no_misfit s (t.Ref c) t.Integer e = absurd (never_wrong e)
no_misfit s (t.Ref c) t.Boolean e = absurd (never_wrong e)
no_misfit s (t.Ref c) t.Character e = absurd (never_wrong e)
no_misfit s (t.Ref c) t.Text e = absurd (never_wrong e)
no_misfit s (t.Ref c) (t.Ref d) e = refl
no_misfit s (t.Ref c) t.NoneType e = refl
no_misfit s t.NoneType t.Integer e = absurd (never_wrong e)
no_misfit s t.NoneType t.Boolean e = absurd (never_wrong e)
no_misfit s t.NoneType t.Character e = absurd (never_wrong e)
no_misfit s t.NoneType t.Text e = absurd (never_wrong e)
no_misfit s t.NoneType (t.Ref d) e = refl
no_misfit s t.NoneType t.NoneType e = refl

pub no_misfit_of : (s : Tables) (a b : SimType) → PlainType a → misfit_of s a b ≡ None → b ≡ a
unfolding misfit_of
no_misfit_of s t.Integer b p e = sym (same_type_of t.Integer b p (same_unless t.Integer b e))
no_misfit_of s t.Boolean b p e = sym (same_type_of t.Boolean b p (same_unless t.Boolean b e))
no_misfit_of s t.Character b p e = sym (same_type_of t.Character b p (same_unless t.Character b e))
no_misfit_of s t.Text b p e = sym (same_type_of t.Text b p (same_unless t.Text b e))
no_misfit_of s (t.Ref c) b p e = absurd p
no_misfit_of s t.NoneType b p e = absurd p

-- what fits
abbrev OperandsFit : Operator → (a b : SimType) → Fit → Type 0
OperandsFit o a b (fit.Fits type) = PlainType type × (kind_of_type a ≡ kind_of_type b) × SortKinds (sort_of (is_text_type (Some a)) o) (kind_of_type a) (kind_of_type type)
OperandsFit o a b _ = Unit {0}

both_fit : (o : Operator) (wanted result a b : SimType) → PlainType wanted → PlainType result → SortKinds (sort_of (is_text_type (Some wanted)) o) (kind_of_type wanted) (kind_of_type result)
    → OperandsFit o a b (both_are wanted result a b)
both_fit o wanted result a b p q k = go (is_same a wanted) refl (is_same b wanted) refl
  where
    go : (x : Bool) → is_same a wanted ≡ x → (y : Bool) → is_same b wanted ≡ y → OperandsFit o a b (if x then (if y then fit.Fits result else fit.SecondWrong) else fit.FirstWrong)
    go true x true y = (
      q,
      ap kind_of_type (same_type a wanted p x ∙ sym (same_type b wanted p y)),
      subst (λ z. SortKinds (sort_of (is_text_type (Some z)) o) (kind_of_type z) (kind_of_type result)) (sym (same_type a wanted p x)) k,
    )
    go true x false y = tt
    go false x b y = tt

-- an order is one of integers, characters or texts
ordered_fit : (r : Relation) → SortKinds (sort_of false (op.Relate r)) kind.Integer kind.Boolean → SortKinds (sort_of false (op.Relate r)) kind.Character kind.Boolean
    → SortKinds (sort_of true (op.Relate r)) kind.Text kind.Boolean → (a b : SimType) → OperandsFit (op.Relate r) a b (ordered a b)
ordered_fit r integers characters texts t.Integer b = both_fit (op.Relate r) t.Integer t.Boolean t.Integer b tt tt integers
ordered_fit r integers characters texts t.Character b = both_fit (op.Relate r) t.Character t.Boolean t.Character b tt tt characters
ordered_fit r integers characters texts t.Text b = both_fit (op.Relate r) t.Text t.Boolean t.Text b tt tt texts
ordered_fit r integers characters texts a b = tt

-- two references, of any classes
both_references : (r : Relation) → SortKinds (sort_of false (op.Relate r)) kind.Reference kind.Boolean → (a b : SimType) → is_reference a ≡ true → OperandsFit (op.Relate r) a b (if is_reference b then fit.Fits t.Boolean else fit.SecondWrong)
both_references r k (t.Ref c) (t.Ref d) e = (tt, refl, k)
both_references r k (t.Ref c) t.NoneType e = (tt, refl, k)
both_references r k (t.Ref c) t.Integer e = tt
both_references r k (t.Ref c) t.Boolean e = tt
both_references r k (t.Ref c) t.Character e = tt
both_references r k (t.Ref c) t.Text e = tt
both_references r k t.NoneType (t.Ref d) e = (tt, refl, k)
both_references r k t.NoneType t.NoneType e = (tt, refl, k)
both_references r k t.NoneType t.Integer e = tt
both_references r k t.NoneType t.Boolean e = tt
both_references r k t.NoneType t.Character e = tt
both_references r k t.NoneType t.Text e = tt
both_references r k a b e = absurd (false≢true e)

alike_fit : (r : Relation) → SortKinds (sort_of true (op.Relate r)) kind.Text kind.Boolean → SortKinds (sort_of false (op.Relate r)) kind.Reference kind.Boolean → (a b : SimType) → OperandsFit (op.Relate r) a b (alike a b)
alike_fit r texts references t.Text b = both_fit (op.Relate r) t.Text t.Boolean t.Text b tt tt texts
alike_fit r texts references t.Integer b = tt
alike_fit r texts references t.Boolean b = tt
alike_fit r texts references t.Character b = tt
alike_fit r texts references (t.Ref d) b = both_references r references (t.Ref d) b refl
alike_fit r texts references t.NoneType b = both_references r references t.NoneType b refl

operators_fit : (o : Operator) (a b : SimType) → OperandsFit o a b (operands_fit o a b)
unfolding operands_fit
operators_fit (op.Relate relation.Less) a b = ordered_fit relation.Less (tt, refl) (tt, refl) (refl, refl) a b
operators_fit (op.Relate relation.LessEqual) a b = ordered_fit relation.LessEqual (tt, refl) (tt, refl) (refl, refl) a b
operators_fit (op.Relate relation.Equal) a b = ordered_fit relation.Equal (tt, refl) (tt, refl) (refl, refl) a b
operators_fit (op.Relate relation.GreaterEqual) a b = ordered_fit relation.GreaterEqual (tt, refl) (tt, refl) (refl, refl) a b
operators_fit (op.Relate relation.Greater) a b = ordered_fit relation.Greater (tt, refl) (tt, refl) (refl, refl) a b
operators_fit (op.Relate relation.NotEqual) a b = ordered_fit relation.NotEqual (tt, refl) (tt, refl) (refl, refl) a b
operators_fit (op.Relate relation.SameReference) a b = alike_fit relation.SameReference (refl, refl) (refl, refl) a b
operators_fit (op.Relate relation.OtherReference) a b = alike_fit relation.OtherReference ((refl, refl), refl) ((refl, refl), refl) a b
operators_fit op.Concatenate a b = both_fit op.Concatenate t.Text t.Text a b tt tt (refl, refl)
operators_fit (op.Add sign.Plus) a b = both_fit (op.Add sign.Plus) t.Integer t.Integer a b tt tt (refl, refl)
operators_fit (op.Add sign.Minus) a b = both_fit (op.Add sign.Minus) t.Integer t.Integer a b tt tt (refl, refl)
operators_fit (op.Multiply multiplication.Times) a b = both_fit (op.Multiply multiplication.Times) t.Integer t.Integer a b tt tt (refl, refl)
operators_fit (op.Multiply multiplication.Divide) a b = both_fit (op.Multiply multiplication.Divide) t.Integer t.Integer a b tt tt (refl, refl)
operators_fit op.Power a b = both_fit op.Power t.Integer t.Integer a b tt tt (refl, refl)
operators_fit op.OrElse a b = both_fit op.OrElse t.Boolean t.Boolean a b tt tt (refl, refl)
operators_fit op.AndThen a b = both_fit op.AndThen t.Boolean t.Boolean a b tt tt (refl, refl)
operators_fit op.Equivalent a b = both_fit op.Equivalent t.Boolean t.Boolean a b tt tt (refl, refl)
operators_fit op.Implies a b = both_fit op.Implies t.Boolean t.Boolean a b tt tt (refl, refl)
operators_fit op.Or a b = both_fit op.Or t.Boolean t.Boolean a b tt tt (refl, refl)
operators_fit op.And a b = both_fit op.And t.Boolean t.Boolean a b tt tt (refl, refl)

-- two operands
pub two_means : (s : Source) (from : Place) (o : Operator) (i : ℕ) (a b : Expression) (x y : Side) → OperandIs s from a x → OperandIs s from b y
    → AllSay s (two o i x y).events → Means true s from (syntax.Binary o i a b) (two o i x y).value
unfolding two has telling breaks is_text is_placed own_match result_meant stream_of passed
two_means s from o i a b x y p q said =
    subst (λ z. Means true s from (syntax.Binary o i a b) (types_fit o i x y z y.ty).value) (sym p.is)
    (subst (λ z. Means true s from (syntax.Binary o i a b) (types_fit o i x y (Some p.ty) z).value) (sym q.is)
    (go (operands_fit o p.ty q.ty) (operators_fit o p.ty q.ty)
    (subst (λ z. AllSay s (types_fit o i x y (Some p.ty) z).events) q.is (subst (λ z. AllSay s (types_fit o i x y z y.ty).events) p.is said))))
  where
    go : (f : Fit) → OperandsFit o p.ty q.ty f → AllSay s (fitted i x y f).events → Means true s from (syntax.Binary o i a b) (fitted i x y f).value
    go (fit.Fits type) k said = (
      record {
        proper = proper_value s type (plain_proper s type k.0);
        texts = ap is_text_type said.0;
        stream = refl;
        typed = said.0;
        value = plain_value s from (syntax.Binary o i a b) type k.0 (
          kind_of_type p.ty,
          kind_of_type type,
          subst (λ z. SortKinds (sort_of z o) (kind_of_type p.ty) (kind_of_type type)) (sym p.value.texts) k.2,
          refl,
          simply s from a p.ty p.value,
          subst (λ z. ExprIs s from b (Simply z)) (sym k.1) (simply s from b q.ty q.value),
        );
      },
      (refl, refl),
      refl,
      refl,
    )
    go fit.FirstWrong k said = absurd said.0
    go fit.SecondWrong k said = absurd said.0

-- one operand
one_is : (s : Source) (from : Place) (wanted : SimType) (i : ℕ) (a e : Expression) (x : Side) → PlainType wanted → OperandIs s from a x → typed_token e ≡ i → NoOwn s e → is_placed s e ≡ false → (stream_of s e ≡ None) → passed s e ≡ value_passed s e
    → (ExprIs s from a (Simply (kind_of_type wanted)) → ExprIs s from e (Simply (kind_of_type wanted))) → AllSay s (one wanted i x).events → Means true s from e (one wanted i x).value
unfolding one has telling breaks is_text
one_is s from wanted i a e x w p at own free stream shown value said =
    subst (λ z. Means true s from e (type_wanted wanted i x z).value) (sym p.is)
    (go (is_same p.ty wanted) refl (subst (λ z. AllSay s (type_wanted wanted i x z).events) p.is said))
  where
    go : (b : Bool) → is_same p.ty wanted ≡ b → AllSay s (if b then has i wanted else breaks x.first.0 r.WrongType).events → Means true s from e (if b then has i wanted else breaks x.first.0 r.WrongType).value
    go true same said =
        let typed = ap (type_at s) at ∙ said.0 in (
          record {
            proper = proper_value s wanted (plain_proper s wanted w);
            texts = ap is_text_type typed;
            stream = stream;
            typed = typed;
            value = plain_value s from e wanted w (value (subst (λ z. ExprIs s from a (Simply (kind_of_type z))) (same_type p.ty wanted w same) (simply s from a p.ty p.value)));
          },
          own,
          free,
          shown,
        )
    go false same said = absurd said.0

pub not_means : (s : Source) (from : Place) (i : ℕ) (a : Expression) (x : Side) → OperandIs s from a x → AllSay s (one t.Boolean i x).events → Means true s from (syntax.Not i a) (one t.Boolean i x).value
unfolding is_placed own_match result_meant stream_of passed
not_means s from i a x p said = one_is s from t.Boolean i a (syntax.Not i a) x tt p refl (refl, refl) refl refl refl (λ v. (refl, v)) said

pub signed_means : (s : Source) (from : Place) (g : Sign) (i : ℕ) (a : Expression) (x : Side) → OperandIs s from a x → AllSay s (one t.Integer i x).events → Means true s from (syntax.Signed g i a) (one t.Integer i x).value
unfolding is_placed own_match result_meant stream_of passed
signed_means s from g i a x p said = one_is s from t.Integer i a (syntax.Signed g i a) x tt p refl (refl, refl) refl refl refl (λ v. (refl, v)) said

-- a conditional expression: what may stand where its type does may stand where the type of each arm does
record InCommon (s : Source) (a b type : SimType) : Type 0 where
  proper : ValueType s type
  first : (h : Holds) → Takes s type h → Takes s a h
  second : (h : Holds) → Takes s type h → Takes s b h

same_common : (s : Source) (a b type : SimType) → ValueType s a → (if is_same a b then Some a else None) ≡ Some type → InCommon s a b type
same_common s a b type p e = go (is_same a b) refl e
  where
    go : (x : Bool) → is_same a b ≡ x → (if x then Some a else None) ≡ Some type → InCommon s a b type
    go true x e =
        let same = same_types a b x in
        let is : a ≡ type = cc in
        record { proper = subst (ValueType s) is p; first = λ h f. subst (λ z. Takes s z h) (sym is) f; second = λ h f. subst (λ z. Takes s z h) (sym is ∙ same) f }
    go false x e = absurd (cc)

module _ (s : Source) (known : Tabled s) where
  with_none : (d : DeclNo) (a b type : SimType) → ValueType s (t.Ref d) → ((h : Holds) → Takes s (t.Ref d) h → Takes s a h) → ((h : Holds) → Takes s (t.Ref d) h → Takes s b h) → Some (t.Ref d) ≡ Some type → InCommon s a b type
  with_none d a b type p first second e =
      let is : t.Ref d ≡ type = cc in
      record { proper = subst (ValueType s) is p; first = λ h f. first h (subst (λ z. Takes s z h) (sym is) f); second = λ h f. second h (subst (λ z. Takes s z h) (sym is) f) }

  of_classes : (c d : DeclNo) (type : SimType) → IsClass s c → IsClass s d → (o : Option DeclNo) → shared_class s.tables c d ≡ o → reference_to o ≡ Some type → InCommon s (t.Ref c) (t.Ref d) type
  of_classes c d type a b None is e = absurd (cc)
  of_classes c d type a b (Some class) is e =
      let both = shared_both s known c d class a b is in
      let same : t.Ref class ≡ type = cc in
      with_none class (t.Ref c) (t.Ref d) type both.is
      (λ h f. subst (λ z. Fits s z h) (sym (class_held s c a)) (fits_inside s known a.block both.is.block (no_connection (text s a.block) a.is) both.first h (subst (λ z. Fits s z h) (class_held s class both.is) f)))
      (λ h f. subst (λ z. Fits s z h) (sym (class_held s d b)) (fits_inside s known b.block both.is.block (no_connection (text s b.block) b.is) both.second h (subst (λ z. Fits s z h) (class_held s class both.is) f))) (ap Some same)

  in_common_is : (a b type : SimType) → ValueType s a → ValueType s b → common_type s.tables a b ≡ Some type → InCommon s a b type
  unfolding common_type
  in_common_is t.Integer b type p q e = same_common s t.Integer b type p e
  in_common_is t.Boolean b type p q e = same_common s t.Boolean b type p e
  in_common_is t.Character b type p q e = same_common s t.Character b type p e
  in_common_is t.Text b type p q e = same_common s t.Text b type p e
  in_common_is (t.Ref c) (t.Ref d) type p q e = of_classes c d type p q (shared_class s.tables c d) refl e
  in_common_is (t.Ref d) t.NoneType type p q e = with_none d (t.Ref d) t.NoneType type p (λ h f. f) (λ h f. none_takes s d h f) e
  in_common_is (t.Ref d) t.Integer type p q e = same_common s (t.Ref d) t.Integer type p e
  in_common_is (t.Ref d) t.Boolean type p q e = same_common s (t.Ref d) t.Boolean type p e
  in_common_is (t.Ref d) t.Character type p q e = same_common s (t.Ref d) t.Character type p e
  in_common_is (t.Ref d) t.Text type p q e = same_common s (t.Ref d) t.Text type p e
  in_common_is t.NoneType (t.Ref d) type p q e = with_none d t.NoneType (t.Ref d) type q (λ h f. none_takes s d h f) (λ h f. f) e
  in_common_is t.NoneType t.NoneType type p q e = same_common s t.NoneType t.NoneType type p e
  in_common_is t.NoneType t.Integer type p q e = same_common s t.NoneType t.Integer type p e
  in_common_is t.NoneType t.Boolean type p q e = same_common s t.NoneType t.Boolean type p e
  in_common_is t.NoneType t.Character type p q e = same_common s t.NoneType t.Character type p e
  in_common_is t.NoneType t.Text type p q e = same_common s t.NoneType t.Text type p e

pub three_means : (s : Source) → Tabled s → (from : Place) (i : ℕ) (c a b : Expression) (x y z : Side) → OperandIs s from c x → OperandIs s from a y → OperandIs s from b z
    → AllSay s (three s.tables i x y z).events → Means true s from (syntax.If i c a b) (three s.tables i x y z).value
unfolding three has telling breaks is_text is_placed own_match result_meant stream_of passed
three_means s known from i c a b x y z p q w said =
    subst (λ k. Means true s from (syntax.If i c a b) (arms_fit s.tables i x y z k y.ty z.ty).value) (sym p.is)
    (subst (λ k. Means true s from (syntax.If i c a b) (arms_fit s.tables i x y z (Some p.ty) k z.ty).value) (sym q.is)
    (subst (λ k. Means true s from (syntax.If i c a b) (arms_fit s.tables i x y z (Some p.ty) (Some q.ty) k).value) (sym w.is)
    (go (is_same p.ty t.Boolean) refl
    (subst (λ k. AllSay s (arms_fit s.tables i x y z (Some p.ty) (Some q.ty) k).events) w.is
    (subst (λ k. AllSay s (arms_fit s.tables i x y z (Some p.ty) k z.ty).events) q.is
    (subst (λ k. AllSay s (arms_fit s.tables i x y z k y.ty z.ty).events) p.is said))))))
  where
    arms : ExprIs s from c (Simply kind.Boolean) → (o : Option SimType) → common_type s.tables q.ty w.ty ≡ o → AllSay s (in_common i z o).events → Means true s from (syntax.If i c a b) (in_common i z o).value
    arms condition None e said = absurd said.0
    arms condition (Some type) e said =
        let both = in_common_is s known q.ty w.ty type q.value.proper w.value.proper e in (
          record {
            proper = both.proper;
            texts = ap is_text_type said.0;
            stream = refl;
            typed = said.0;
            value = λ h f. (condition, q.value.value h (both.first h f), w.value.value h (both.second h f));
          },
          (refl, refl),
          refl,
          refl,
        )

    go : (k : Bool) → is_same p.ty t.Boolean ≡ k → AllSay s (if k then in_common i z (common_type s.tables q.ty w.ty) else breaks x.first.0 r.WrongType).events
        → Means true s from (syntax.If i c a b) (if k then in_common i z (common_type s.tables q.ty w.ty) else breaks x.first.0 r.WrongType).value
    go true same said = arms (subst (λ k. ExprIs s from c (Simply (kind_of_type k))) (same_type p.ty t.Boolean tt same) (simply s from c p.ty p.value)) (common_type s.tables q.ty w.ty) refl said
    go false same said = absurd said.0
