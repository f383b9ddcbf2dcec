-- How the types of two operands fit an operator. Where the first operand cannot be right, it is the wrong one; else the second, where it does
-- not agree with the first.
use Rattle.std.specs.Prelude.{Bool, true, false, nat_eq, if◌then◌else◌, Option, Some, None}
use Rattle.sim_tree.specs.Syntax.{Literal, IntegerValue, CharacterValue, TextValue, BooleanValue, NoObject, NoText}
use Rattle.sim_tree.specs.declared.expr.Relation.{Relation}
use Rattle.sim_tree.specs.declared.expr.Relation.TheVariants as relation
use Rattle.sim_tree.specs.declared.operator.Operator.{Operator}
use Rattle.sim_tree.specs.declared.operator.Operator.TheVariants as o
use Rattle.sim_base.specs.declared.numbering.DeclNo.{DeclNo}
use Rattle.sim_base.specs.declared.rule.Rule.{Rule}
use Rattle.sim_base.specs.declared.rule.Rule.TheVariants as r
use Rattle.sim_scope.specs.Levels.{on_one_chain, shared_class}
use Rattle.sim_scope.specs.Tables.{Tables}
use Rattle.sim_scope.specs.declared.outcome.Fit.{Fit}
use Rattle.sim_scope.specs.declared.outcome.Fit.TheVariants as fit
use Rattle.sim_scope.specs.declared.types.SimType.{SimType}
use Rattle.sim_scope.specs.declared.types.SimType.TheVariants as t

-- whether two types are the same
abbrev pub is_same : SimType → SimType → Bool
is_same t.Integer t.Integer = true
is_same t.Boolean t.Boolean = true
is_same t.Character t.Character = true
is_same t.Text t.Text = true
is_same (t.Ref c) (t.Ref d) = nat_eq c.0 d.0
is_same t.NoneType t.NoneType = true
is_same _ _ = false

-- two values of one type
abbrev pub both_are : (wanted result : SimType) → SimType → SimType → Fit
both_are wanted result a b =
    if is_same a wanted then (if is_same b wanted then fit.Fits result else fit.SecondWrong) else fit.FirstWrong

-- `<` to `<>`: two integers, two characters or two texts
abbrev pub ordered : SimType → SimType → Fit
ordered t.Integer b = both_are t.Integer t.Boolean t.Integer b
ordered t.Character b = both_are t.Character t.Boolean t.Character b
ordered t.Text b = both_are t.Text t.Boolean t.Text b
ordered a b = fit.FirstWrong

abbrev pub is_reference : SimType → Bool
is_reference (t.Ref d) = true
is_reference t.NoneType = true
is_reference _ = false

-- `==` and `=/=`: two texts or two references, of any classes
abbrev pub alike : SimType → SimType → Fit
alike t.Text b = both_are t.Text t.Boolean t.Text b
alike a b = if is_reference a then (if is_reference b then fit.Fits t.Boolean else fit.SecondWrong) else fit.FirstWrong

abbrev pub relates : Relation → SimType → SimType → Fit
relates relation.SameReference = alike
relates relation.OtherReference = alike
relates _ = ordered

-- arithmetic has integers, `&` texts, and the logical operators booleans
unfoldable pub operands_fit : Operator → SimType → SimType → Fit
operands_fit (o.Relate r) = relates r
operands_fit o.Concatenate = both_are t.Text t.Text
operands_fit (o.Add s) = both_are t.Integer t.Integer
operands_fit (o.Multiply m) = both_are t.Integer t.Integer
operands_fit o.Power = both_are t.Integer t.Integer
operands_fit _ = both_are t.Boolean t.Boolean

-- the type of a constant
abbrev pub literal_type : Literal → SimType
literal_type (IntegerValue n) = t.Integer
literal_type (CharacterValue c) = t.Character
literal_type (TextValue bytes) = t.Text
literal_type (BooleanValue b) = t.Boolean
literal_type NoObject = t.NoneType
literal_type NoText = t.Text

-- The common type of the two arms of a conditional expression. With `none` it is the other arm's. Two references have the innermost class that
-- stands in the prefix chains of both.
abbrev pub reference_to : Option DeclNo → Option SimType
reference_to None = None
reference_to (Some d) = Some (t.Ref d)

unfoldable pub common_type : Tables → SimType → SimType → Option SimType
common_type s (t.Ref c) (t.Ref d) = reference_to (shared_class s c d)
common_type s (t.Ref d) t.NoneType = Some (t.Ref d)
common_type s t.NoneType (t.Ref d) = Some (t.Ref d)
common_type s a b = if is_same a b then Some a else None

-- The rule that a value breaks which goes to a place of another type: S13, and of references on different chains S16. A place of the type of
-- `none` takes every reference.
abbrev pub wrong_type_unless : Bool → Option Rule
wrong_type_unless true = None
wrong_type_unless false = Some r.WrongType

abbrev pub reference_misfit : Tables → DeclNo → SimType → Option Rule
reference_misfit s c (t.Ref d) = if on_one_chain s c d then None else Some r.DifferentChains
reference_misfit s c t.NoneType = None
reference_misfit s c b = Some r.WrongType

unfoldable pub misfit_of : Tables → (wanted given : SimType) → Option Rule
misfit_of s (t.Ref c) b = reference_misfit s c b
misfit_of s t.NoneType b = wrong_type_unless (is_reference b)
misfit_of s a b = wrong_type_unless (is_same a b)
