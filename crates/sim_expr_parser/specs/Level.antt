-- The levels that have one operator each.
use Rattle.std.specs.Prelude.{ℕ, suc, Option, Some, None}
use Rattle.sim_base.specs.declared.token.TokenKind.{TokenKind}
use Rattle.sim_base.specs.declared.token.TokenKind.TheVariants as k
use Rattle.sim_tree.specs.Grammar as g
use Rattle.sim_tree.specs.Grammar.{Part, Times, Maybe, Many, Symbol, Of}
use Rattle.sim_expr_parser.specs.declared.level.Level.{Level}
use Rattle.sim_expr_parser.specs.declared.level.Level.TheVariants as level
use Rattle.sim_expr_parser.specs.declared.operators.Operators.{Operators}
use Rattle.sim_expr_parser.specs.declared.operators.Operators.TheVariants as operators

-- the level of the operands
abbrev pub under : Level → ℕ
under level.OrElse = 12
under level.AndThen = 11
under level.Eqv = 10
under level.Imp = 9
under level.Or = 8
under level.And = 7
under level.Concatenation = 4
under level.Power = 1

-- the operator
abbrev pub operator : Level → TokenKind
operator level.OrElse = k.OrElse
operator level.AndThen = k.AndThen
operator level.Eqv = k.Eqv
operator level.Imp = k.Imp
operator level.Or = k.Or
operator level.And = k.And
operator level.Concatenation = k.Ampersand
operator level.Power = k.Power

-- an operator with the operand behind it
abbrev pub many : Level → Part
many level.OrElse = g.NextOrElse
many level.AndThen = g.NextAndThen
many level.Eqv = g.NextEquivalence
many level.Imp = g.NextImplication
many level.Or = g.NextOr
many level.And = g.NextAnd
many level.Concatenation = g.NextConcatenated
many level.Power = g.NextPower

-- the level of the operands of operators
abbrev pub below_of : Operators → ℕ
below_of (operators.Single lv) = under lv
below_of operators.Relations = 5
below_of operators.Signs = 3
below_of operators.Multiplications = 2

-- the level that they make
abbrev pub level_of : Operators → ℕ
level_of o = suc (below_of o)

-- the part behind an operand that they begin
abbrev pub tail_part : Operators → Part
tail_part (operators.Single lv) = many lv
tail_part operators.Relations = g.RelationTail
tail_part operators.Signs = g.NextTerm
tail_part operators.Multiplications = g.NextFactor

-- how often it stands
abbrev pub tail_times : Operators → Times
tail_times operators.Relations = Maybe
tail_times _ = Many

abbrev pub tail_of : Operators → Symbol
tail_of o = Of (tail_times o) (tail_part o)

-- the operators that a kind is one of
abbrev pub operators_of : TokenKind → Option Operators
operators_of k.OrElse = Some (operators.Single level.OrElse)
operators_of k.AndThen = Some (operators.Single level.AndThen)
operators_of k.Eqv = Some (operators.Single level.Eqv)
operators_of k.Imp = Some (operators.Single level.Imp)
operators_of k.Or = Some (operators.Single level.Or)
operators_of k.And = Some (operators.Single level.And)
operators_of k.Ampersand = Some (operators.Single level.Concatenation)
operators_of k.Power = Some (operators.Single level.Power)
operators_of k.Plus = Some operators.Signs
operators_of k.Minus = Some operators.Signs
operators_of k.Times = Some operators.Multiplications
operators_of k.Divide = Some operators.Multiplications
operators_of k.Less = Some operators.Relations
operators_of k.LessEqual = Some operators.Relations
operators_of k.Equal = Some operators.Relations
operators_of k.GreaterEqual = Some operators.Relations
operators_of k.Greater = Some operators.Relations
operators_of k.NotEqual = Some operators.Relations
operators_of k.SameReference = Some operators.Relations
operators_of k.OtherReference = Some operators.Relations
operators_of k.Is = Some operators.Relations
operators_of k.In = Some operators.Relations
operators_of _ = None
