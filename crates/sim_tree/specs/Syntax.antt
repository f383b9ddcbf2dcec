-- The abstract syntax of programs: what all layers above the grammar speak of. It has lists, numbers and names alone: no punctuation, no levels
-- of operators, no parentheses but the written ones. An occurrence is the number of its token. Operators of one level associate to the left.
use Rattle.std.specs.Prelude.{ℕ, ℤ, Bool, List, [], ◌∷◌, Option}
use Rattle.sim_tree.specs.declared.expr.Identifier.{Identifier}
use Rattle.sim_tree.specs.declared.expr.Membership.{Membership}
use Rattle.sim_tree.specs.declared.expr.Sign.{Sign}
use Rattle.sim_tree.specs.declared.operator.Operator.{Operator}
use Rattle.sim_tree.specs.declared.stmt.Activation.{Activation}
use Rattle.sim_tree.specs.declared.stmt.Assignment.{Assignment}
use Rattle.sim_tree.specs.declared.stmt.Mode.{Mode}
use Rattle.sim_tree.specs.declared.stmt.TypeName.{TypeName}
use Rattle.sim_tree.specs.declared.stmt.Variable.{Variable}

-- Expressions.

-- a constant with its value; `none`, and `notext`
pub data Literal : Type 0 where
  IntegerValue : ℤ → Literal
  CharacterValue : ℕ → Literal
  TextValue : List ℕ → Literal
  BooleanValue : Bool → Literal
  NoObject : Literal
  NoText : Literal

-- The token is the one that names the expression: the operator, the word, the dot, the constant, the parenthesis. It is unique in a program.
mutual
  pub data Expression : Type 0 where
    If : (token : ℕ) → (condition first second : Expression) → Expression
    Binary : Operator → (token : ℕ) → (left right : Expression) → Expression
    Not : (token : ℕ) → (operand : Expression) → Expression
    -- the sign in front of a sum belongs to the whole first term
    Signed : Sign → (token : ℕ) → (term : Expression) → Expression
    Member : Membership → (token : ℕ) → (object : Expression) → (class : Identifier) → Expression
    Dot : (token : ℕ) → (object : Expression) → (attribute : Identifier) → (arguments : Expressions) → Expression
    Qua : (token : ℕ) → (object : Expression) → (class : Identifier) → Expression
    Constant : Literal → (token : ℕ) → Expression
    Named : (name : Identifier) → (arguments : Expressions) → Expression
    This : (token : ℕ) → (class : Identifier) → Expression
    New : (token : ℕ) → (class : Identifier) → (arguments : Expressions) → Expression
    Parentheses : (token : ℕ) → (inner : Expression) → Expression

  pub data Expressions : Type 0 where
    NoMore : Expressions
    Then : Expression → Expressions → Expressions

abbrev pub expressions : List Expression → Expressions
expressions [] = NoMore
expressions (e ∷ es) = Then e (expressions es)

-- Parts of statements.

-- an assignment sign and what stands on its right: the value, or a further left side
pub record RightSide : Type 0 where
  pub sign : Assignment
  pub token : ℕ
  pub value : Expression

-- An element of a `for` list. The token is that of `step` or `while`.
pub data Element : Type 0 where
  Once : (value : Expression) → Element
  Step : (start : Expression) → (token : ℕ) → (step limit : Expression) → Element
  While : (value : Expression) → (token : ℕ) → (condition : Expression) → Element

-- When a process is scheduled for. The token is that of the word; `prior` is the token of that word.
pub data Schedule : Type 0 where
  Now : Schedule
  At : (token : ℕ) → (time : Expression) → (prior : Option ℕ) → Schedule
  Delay : (token : ℕ) → (time : Expression) → (prior : Option ℕ) → Schedule
  Before : (token : ℕ) → (process : Expression) → Schedule
  After : (token : ℕ) → (process : Expression) → Schedule

-- Parts of declarations.

-- the bounds of one dimension
pub record BoundPair : Type 0 where
  pub lower : Expression
  pub upper : Expression

-- arrays with the same bounds
pub record Arrayed : Type 0 where
  pub names : List Identifier
  pub bounds : List BoundPair

-- parameters whose mode is written
pub record Moded : Type 0 where
  pub token : ℕ
  pub mode : Mode
  pub names : List Identifier

-- What parameters are specified as. The token is that of `array` or `procedure`.
pub data Specified : Type 0 where
  Simple : TypeName → Specified
  Array : TypeName → (token : ℕ) → Specified
  Procedure : Option TypeName → (token : ℕ) → Specified

pub record Specification : Type 0 where
  pub kind : Specified
  pub names : List Identifier

-- a heading: the formal parameters in order, then the parts that say their modes and what they are
pub record Heading : Type 0 where
  pub name : Identifier
  pub formals : List Identifier
  pub modes : List Moded
  pub specifications : List Specification

-- attributes that a class hides, or protects, or both
pub record Protected : Type 0 where
  pub hidden : Option ℕ
  pub protected : Option ℕ
  pub names : List Identifier

-- virtual procedures of one result type
pub record Virtual : Type 0 where
  pub result : Option TypeName
  pub token : ℕ
  pub names : List Identifier

-- what a class declares beside its parameters and its body
pub record Interface : Type 0 where
  pub protections : List Protected
  pub virtuals : List Virtual

-- Statements, blocks and declarations. The tokens are those of the words that begin them; `end` is the token behind the last one of the part,
-- but of a block the word `end` itself. A list of statements for `else` and `otherwise` has none or one.
mutual
  pub data Statement : Type 0 where
    Empty : (token : ℕ) → Statement
    Compound : Block → Statement
    Prefixed : (class : Identifier) → (arguments : Expressions) → Block → Statement
    Inner : (token : ℕ) → Statement
    Call : Expression → Statement
    Assign : (left : Expression) → List RightSide → Statement
    Choose : (token : ℕ) → (condition : Expression) → (then_branch : Statement) → (else_branch : Statements) → Statement
    Repeat : (token : ℕ) → (condition : Expression) → (body : Statement) → Statement
    For : (token : ℕ) → (variable : Identifier) → (sign : Assignment) → (assign : ℕ) → List Element → (body : Statement) → Statement
    -- the connection is what stands between `do`, whose token is `opening`, and `end`
    Inspect : (token : ℕ) → (object : Expression) → (opening : ℕ) → (body : Statement) → (end : ℕ) → (otherwise : Statements) → Statement
    InspectWhen : (token : ℕ) → (object : Expression) → Arms → (otherwise : Statements) → Statement
    Activate : (token : ℕ) → Activation → (process : Expression) → Schedule → Statement

  pub data Statements : Type 0 where
    NoStatement : Statements
    Also : Statement → Statements → Statements

  -- the connection of an arm is what stands between its `do` and `end`
  pub data Arms : Type 0 where
    NoArm : Arms
    When : (token : ℕ) → (class : Identifier) → (opening : ℕ) → (body : Statement) → (end : ℕ) → Arms → Arms

  pub data Block : Type 0 where
    Begin : (token : ℕ) → Declarations → Statements → (end : ℕ) → Block

  pub data Declarations : Type 0 where
    NoDeclaration : Declarations
    With : Declaration → Declarations → Declarations

  pub data Declaration : Type 0 where
    Variables : TypeName → List Variable → Declaration
    Arrays : TypeName → (token : ℕ) → List Arrayed → Declaration
    DeclareProcedure : (result : Option TypeName) → (token : ℕ) → Heading → (body : Statement) → (end : ℕ) → Declaration
    DeclareClass : (prefix : Option Identifier) → (token : ℕ) → Heading → Interface → (body : Statement) → (end : ℕ) → Declaration

abbrev pub statements : List Statement → Statements
statements [] = NoStatement
statements (s ∷ ss) = Also s (statements ss)

abbrev pub declarations : List Declaration → Declarations
declarations [] = NoDeclaration
declarations (d ∷ ds) = With d (declarations ds)

-- the class in front of a block, with its actual parameters
pub record Prefix : Type 0 where
  pub class : Identifier
  pub arguments : Expressions

pub record Program : Type 0 where
  pub prefix : Option Prefix
  pub block : Block

-- The first token of an expression.
abbrev pub first_of : Expression → ℕ
first_of (If i a b c) = i
first_of (Binary operator i a b) = first_of a
first_of (Not i a) = i
first_of (Signed sign i a) = i
first_of (Member m i a class) = first_of a
first_of (Dot i a name arguments) = first_of a
first_of (Qua i a class) = first_of a
first_of (Constant literal i) = i
first_of (Named name arguments) = name.token.0
first_of (This i class) = i
first_of (New i class arguments) = i
first_of (Parentheses i a) = i

-- The token that names an expression.
abbrev pub naming : Expression → ℕ
naming (If i a b c) = i
naming (Binary operator i a b) = i
naming (Not i a) = i
naming (Signed sign i a) = i
naming (Member m i a class) = i
naming (Dot i a name arguments) = i
naming (Qua i a class) = i
naming (Constant literal i) = i
naming (Named name arguments) = name.token.0
naming (This i class) = i
naming (New i class arguments) = i
naming (Parentheses i a) = i
