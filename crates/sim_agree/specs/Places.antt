-- Where the parts of a text stand: the innermost block around each identifier that is used in it is the block of the text, a dot is another token
-- than the attribute behind it, and each of the text's sub-blocks and prefixed blocks stands in it.
use Rattle.std.specs.Prelude.{◌≡◌, ℕ, List, [], ◌∷◌, Option, Some, None, false, nat_eq}
use Rattle.sim_scope.specs.Access.{block_at, encloser}
use Rattle.sim_scope.specs.declared.outcome.Extent.TheVariants as extent
use Rattle.sim_scope.specs.declared.scopes.Denotation.{Denotation}
use Rattle.sim_scope.specs.declared.scopes.Denotation.TheVariants as denotation
use Rattle.sim_scope.specs.declared.types.SimType.{SimType}
use Rattle.sim_scope.specs.declared.types.SimType.TheVariants as type
use Rattle.sim_scope.specs.Expressions.{judge_side}
use Rattle.sim_scope.specs.Levels.{base, class_block}
use Rattle.sim_scope.specs.Scopes.{binding}
use Rattle.sim_scope.specs.Source.{Source, block_around}
use Rattle.sim_scope.specs.Tables.{Tables}
use Rattle.sim_sound.specs.Statements.{BlockIs, ConnectionIs, InnerIs}
use Rattle.sim_tree.specs.declared.expr.Identifier.{Identifier}
use Rattle.sim_tree.specs.Syntax as s
use Rattle.sim_tree.specs.Syntax.{Expression, Expressions, Statement, Statements, Arms, Block, Declarations, RightSide, Element, Schedule, BoundPair, Arrayed}
use Rattle.sim_meaning.specs.Texts.{PrefixedText, text}
use Rattle.sim_scope.specs.Walk.{begin_of}

-- of each element of a list
abbrev pub Each : {A : Type 0} → (A → Type 0) → List A → Type 0
Each P [] = Unit {0}
Each P (x ∷ xs) = P x × Each P xs

-- the innermost block around the token of an identifier
abbrev pub PlacedName : Tables → (block : ℕ) → Identifier → Type 0
PlacedName t k x = block_at t x.token.0 ≡ Some k

abbrev mutual
  pub PlacedExpression : Tables → (block : ℕ) → Expression → Type 0
  PlacedExpression t k (s.If i a b c) = PlacedExpression t k a × PlacedExpression t k b × PlacedExpression t k c
  PlacedExpression t k (s.Binary operator i a b) = PlacedExpression t k a × PlacedExpression t k b
  PlacedExpression t k (s.Not i a) = PlacedExpression t k a
  PlacedExpression t k (s.Signed sign i a) = PlacedExpression t k a
  PlacedExpression t k (s.Member m i a class) = PlacedExpression t k a × PlacedName t k class
  PlacedExpression t k (s.Dot i a name es) = PlacedExpression t k a × (nat_eq i name.token.0 ≡ false) × PlacedExpressions t k es
  PlacedExpression t k (s.Qua i a class) = PlacedExpression t k a × PlacedName t k class
  PlacedExpression t k (s.Constant literal i) = Unit {0}
  PlacedExpression t k (s.Named name es) = PlacedName t k name × PlacedExpressions t k es
  PlacedExpression t k (s.This i class) = PlacedName t k class
  PlacedExpression t k (s.New i class es) = PlacedName t k class × PlacedExpressions t k es
  PlacedExpression t k (s.Parentheses i a) = PlacedExpression t k a

  pub PlacedExpressions : Tables → (block : ℕ) → Expressions → Type 0
  PlacedExpressions t k s.NoMore = Unit {0}
  PlacedExpressions t k (s.Then e es) = PlacedExpression t k e × PlacedExpressions t k es

abbrev pub PlacedSide : Tables → (block : ℕ) → RightSide → Type 0
PlacedSide t k x = PlacedExpression t k x.value

abbrev pub PlacedElement : Tables → (block : ℕ) → Element → Type 0
PlacedElement t k (s.Once a) = PlacedExpression t k a
PlacedElement t k (s.Step a i b c) = PlacedExpression t k a × PlacedExpression t k b × PlacedExpression t k c
PlacedElement t k (s.While a i b) = PlacedExpression t k a × PlacedExpression t k b

abbrev pub PlacedSchedule : Tables → (block : ℕ) → Schedule → Type 0
PlacedSchedule t k s.Now = Unit {0}
PlacedSchedule t k (s.At i a prior) = PlacedExpression t k a
PlacedSchedule t k (s.Delay i a prior) = PlacedExpression t k a
PlacedSchedule t k (s.Before i a) = PlacedExpression t k a
PlacedSchedule t k (s.After i a) = PlacedExpression t k a

abbrev pub PlacedBounds : Tables → (block : ℕ) → BoundPair → Type 0
PlacedBounds t k b = PlacedExpression t k b.lower × PlacedExpression t k b.upper

abbrev pub PlacedSegment : Tables → (block : ℕ) → Arrayed → Type 0
PlacedSegment t k a = Each (PlacedBounds t k) a.bounds

-- a block without declarations is a compound statement, any other a text of its own
abbrev pub PlacedWhole : Source → (block token : ℕ) → Declarations → (Inner : Type 0) → Type 0
PlacedWhole x k token s.NoDeclaration Inner = Inner
PlacedWhole x k token (s.With d ds) Inner = BlockIs x k token

-- the block of the class that a reference of a type or an identifier names
abbrev pub class_of_type : Tables → Option SimType → Option ℕ
class_of_type t (Some (type.Ref class)) = class_block t class
class_of_type t _ = None

abbrev pub class_of_name : Tables → Option Denotation → Option ℕ
class_of_name t (Some (denotation.Declared d)) = class_block t d
class_of_name t _ = None

-- a connection, which connects a class or none
pub record PlacedConnection (x : Source) (k opening : ℕ) (class : Option ℕ) : Type 0 where
  pub connection : ConnectionIs x k opening
  pub connects : base x.tables connection.number ≡ class

-- a prefixed block is the text around its first token, and stands in this block
pub record PlacedPrefixed (x : Source) (k token : ℕ) : Type 0 where
  pub number : ℕ
  pub around : block_around x token ≡ Some number
  pub stands_in : encloser x.tables number ≡ Some k
  pub class : Identifier
  pub arguments : Expressions
  pub declarations : Declarations
  pub statements : Statements
  pub is : text x number ≡ Some (PrefixedText class arguments declarations statements)

abbrev mutual
  pub PlacedStatement : Source → (block : ℕ) → Statement → Type 0
  PlacedStatement x k (s.Empty i) = Unit {0}
  PlacedStatement x k (s.Compound b) = PlacedBlock x k b
  -- the actual parameters of its prefix stand in the block around
  PlacedStatement x k (s.Prefixed class es b) = PlacedExpressions x.tables k es × PlacedPrefixed x k (begin_of b)
  PlacedStatement x k (s.Call e) = PlacedExpression x.tables k e
  PlacedStatement x k (s.Assign e sides) = PlacedExpression x.tables k e × Each (PlacedSide x.tables k) sides
  PlacedStatement x k (s.Choose i e a b) = PlacedExpression x.tables k e × PlacedStatement x k a × PlacedStatements x k b
  PlacedStatement x k (s.Repeat i e a) = PlacedExpression x.tables k e × PlacedStatement x k a
  PlacedStatement x k (s.For i name sign j elements a) = PlacedName x.tables k name × Each (PlacedElement x.tables k) elements × PlacedStatement x k a
  PlacedStatement x k (s.Inner i) = InnerIs x k i
  PlacedStatement x k (s.Inspect i e opening a end b) =
      PlacedExpression x.tables k e × (c : PlacedConnection x k opening (class_of_type x.tables (judge_side x.tables extent.Statement e).value.ty)) × PlacedStatement x c.connection.number a × PlacedStatements x k b
  PlacedStatement x k (s.InspectWhen i e arms b) = PlacedExpression x.tables k e × PlacedArms x k arms × PlacedStatements x k b
  PlacedStatement x k (s.Activate i word e schedule) = (block_at x.tables i ≡ Some k) × PlacedExpression x.tables k e × PlacedSchedule x.tables k schedule

  pub PlacedArms : Source → (block : ℕ) → Arms → Type 0
  PlacedArms x k s.NoArm = Unit {0}
  PlacedArms x k (s.When i class opening a end more) =
      (c : PlacedConnection x k opening (class_of_name x.tables (binding x.tables class.token.0 class.name))) × PlacedStatement x c.connection.number a × PlacedArms x k more

  pub PlacedStatements : Source → (block : ℕ) → Statements → Type 0
  PlacedStatements x k s.NoStatement = Unit {0}
  PlacedStatements x k (s.Also a more) = PlacedStatement x k a × PlacedStatements x k more

  pub PlacedBlock : Source → (block : ℕ) → Block → Type 0
  PlacedBlock x k (s.Begin token ds ss end) = PlacedWhole x k token ds (PlacedStatements x k ss)

-- the bounds of the arrays that a block declares
abbrev pub PlacedArrays : Tables → (block : ℕ) → Declarations → Type 0
PlacedArrays t k s.NoDeclaration = Unit {0}
PlacedArrays t k (s.With (s.Arrays name i segments) ds) = Each (PlacedSegment t k) segments × PlacedArrays t k ds
PlacedArrays t k (s.With _ ds) = PlacedArrays t k ds
