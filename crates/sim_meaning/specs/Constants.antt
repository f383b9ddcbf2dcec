-- The text constants of a program, in the order in which they are written. Each is one frame of the texts, whose number is its place.
use Rattle.std.specs.Prelude.{ℕ, suc, ◌==◌, if◌then◌else◌, List, [], ◌∷◌, ◌++◌, map, Option, Some, None}
use Rattle.sim_scope.specs.Source.{Source}
use Rattle.sim_tree.specs.declared.stmt.Constant.{Constant}
use Rattle.sim_tree.specs.declared.stmt.Constant.TheVariants as constant
use Rattle.sim_tree.specs.declared.stmt.Variable.{Variable}
use Rattle.sim_tree.specs.Syntax.{Also, Arms, Arrayed, Arrays, Begin, Block, BoundPair, Declaration, Declarations, DeclareClass, DeclareProcedure, Element, Expression, Expressions, NoArm, NoDeclaration, NoMore, NoStatement, Prefix, RightSide, Schedule, Statement, Statements, Then, Variables, When, With}
use Rattle.sim_tree.specs.Syntax as syntax
use Rattle.sim_values.specs.Plain.{Plain}
use Rattle.sim_code.specs.Rows.{text_value}

-- a text constant: its token and its characters
pub record TextConstant : Type 0 where
  pub token : ℕ
  pub bytes : List ℕ

abbrev pub literal_constants : syntax.Literal → (token : ℕ) → List TextConstant
literal_constants (syntax.TextValue bytes) token = record { token = token; bytes = bytes } ∷ []
literal_constants _ token = []

abbrev mutual
  pub expression_constants : Expression → List TextConstant
  expression_constants (syntax.If token c a b) = expression_constants c ++ (expression_constants a ++ expression_constants b)
  expression_constants (syntax.Binary op token a b) = expression_constants a ++ expression_constants b
  expression_constants (syntax.Not token a) = expression_constants a
  expression_constants (syntax.Signed sign token a) = expression_constants a
  expression_constants (syntax.Member member token a class) = expression_constants a
  expression_constants (syntax.Dot token a name es) = expression_constants a ++ expressions_constants es
  expression_constants (syntax.Qua token a class) = expression_constants a
  expression_constants (syntax.Constant literal token) = literal_constants literal token
  expression_constants (syntax.Named name es) = expressions_constants es
  expression_constants (syntax.This token class) = []
  expression_constants (syntax.New token class es) = expressions_constants es
  expression_constants (syntax.Parentheses token a) = expression_constants a

  pub expressions_constants : Expressions → List TextConstant
  expressions_constants NoMore = []
  expressions_constants (Then e es) = expression_constants e ++ expressions_constants es

-- ---- parts of statements and declarations

abbrev pub right_constants : List RightSide → List TextConstant
right_constants [] = []
right_constants (r ∷ rs) = expression_constants r.value ++ right_constants rs

abbrev pub element_constants : Element → List TextConstant
element_constants (syntax.Once e) = expression_constants e
element_constants (syntax.Step start token step limit) = expression_constants start ++ (expression_constants step ++ expression_constants limit)
element_constants (syntax.While e token c) = expression_constants e ++ expression_constants c

abbrev pub elements_constants : List Element → List TextConstant
elements_constants [] = []
elements_constants (e ∷ es) = element_constants e ++ elements_constants es

abbrev pub schedule_constants : Schedule → List TextConstant
schedule_constants syntax.Now = []
schedule_constants (syntax.At token e prior) = expression_constants e
schedule_constants (syntax.Delay token e prior) = expression_constants e
schedule_constants (syntax.Before token e) = expression_constants e
schedule_constants (syntax.After token e) = expression_constants e

-- of declared constants the texts
abbrev pub value_constants : Option Constant → List TextConstant
value_constants (Some (constant.Text token bytes)) = record { token = token.0; bytes = bytes } ∷ []
value_constants _ = []

abbrev pub variables_constants : List Variable → List TextConstant
variables_constants [] = []
variables_constants (v ∷ vs) = value_constants v.value ++ variables_constants vs

abbrev pub bounds_constants : List BoundPair → List TextConstant
bounds_constants [] = []
bounds_constants (b ∷ bs) = (expression_constants b.lower ++ expression_constants b.upper) ++ bounds_constants bs

abbrev pub segments_constants : List Arrayed → List TextConstant
segments_constants [] = []
segments_constants (a ∷ more) = bounds_constants a.bounds ++ segments_constants more

-- ---- statements and declarations

abbrev mutual
  pub statement_constants : Statement → List TextConstant
  statement_constants (syntax.Empty token) = []
  statement_constants (syntax.Compound b) = block_constants b
  statement_constants (syntax.Prefixed class es b) = expressions_constants es ++ block_constants b
  statement_constants (syntax.Inner token) = []
  statement_constants (syntax.Call e) = expression_constants e
  statement_constants (syntax.Assign left rs) = expression_constants left ++ right_constants rs
  statement_constants (syntax.Choose token c a b) = expression_constants c ++ (statement_constants a ++ statements_constants b)
  statement_constants (syntax.Repeat token c a) = expression_constants c ++ statement_constants a
  statement_constants (syntax.For token x sign assign es a) = elements_constants es ++ statement_constants a
  statement_constants (syntax.Inspect token e opening a end other) = expression_constants e ++ (statement_constants a ++ statements_constants other)
  statement_constants (syntax.InspectWhen token e arms other) = expression_constants e ++ (arms_constants arms ++ statements_constants other)
  statement_constants (syntax.Activate token word e schedule) = expression_constants e ++ schedule_constants schedule

  pub statements_constants : Statements → List TextConstant
  statements_constants NoStatement = []
  statements_constants (Also a more) = statement_constants a ++ statements_constants more

  pub arms_constants : Arms → List TextConstant
  arms_constants NoArm = []
  arms_constants (When token class opening a end more) = statement_constants a ++ arms_constants more

  pub block_constants : Block → List TextConstant
  block_constants (Begin token ds ss end) = declarations_constants ds ++ statements_constants ss

  pub declarations_constants : Declarations → List TextConstant
  declarations_constants NoDeclaration = []
  declarations_constants (With d ds) = declaration_constants d ++ declarations_constants ds

  pub declaration_constants : Declaration → List TextConstant
  declaration_constants (Variables type vs) = variables_constants vs
  declaration_constants (Arrays type token segments) = segments_constants segments
  declaration_constants (DeclareProcedure result token h a end) = statement_constants a
  declaration_constants (DeclareClass prefix token h interface a end) = statement_constants a

abbrev pub prefix_constants : Option Prefix → List TextConstant
prefix_constants None = []
prefix_constants (Some p) = expressions_constants p.arguments

-- ---- of a program

unfoldable pub text_constants : Source → List TextConstant
text_constants s = prefix_constants s.program.prefix ++ block_constants s.program.block

abbrev pub bytes_of : TextConstant → List ℕ
bytes_of c = c.bytes

-- the characters of each, in order
unfoldable pub constants_of : Source → List (List ℕ)
constants_of s = map bytes_of (text_constants s)

-- the value of the first constant at a token, which is its number, counted from n on, with its characters
abbrev pub constant_from : ℕ → (token : ℕ) → List TextConstant → Option Plain
constant_from n token [] = None
constant_from n token (c ∷ cs) = if c.token == token then Some (text_value n c.bytes) else constant_from (suc n) token cs

-- the text constant that is written at a token, as a value
unfoldable pub text_constant : Source → (token : ℕ) → Option Plain
text_constant s token = constant_from 0 token (text_constants s)
