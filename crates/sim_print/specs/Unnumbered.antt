-- A syntax with the numbers of its tokens taken away. Two programs that differ in no more than these have the same.
use Rattle.std.specs.Prelude.{ℕ, map, Option, Some, None, option_map}
use Rattle.sim_base.specs.declared.numbering.TokenNo.{TokenNo}
use Rattle.sim_tree.specs.declared.expr.Identifier.{Identifier}
use Rattle.sim_tree.specs.declared.expr.LeadingSign.{LeadingSign}
use Rattle.sim_tree.specs.declared.stmt.Constant.{Constant as ConstantTree}
use Rattle.sim_tree.specs.declared.stmt.Constant.TheVariants as constant
use Rattle.sim_tree.specs.declared.stmt.TypeName.{TypeName}
use Rattle.sim_tree.specs.declared.stmt.TypeName.TheVariants as type_name
use Rattle.sim_tree.specs.declared.stmt.Variable.{Variable}
use Rattle.sim_tree.specs.Syntax as s
use Rattle.sim_tree.specs.Syntax.{Arms, Arrayed, Block, BoundPair, Declaration, Declarations, Element, Expression, Expressions, Heading, Interface, Moded, Prefix, Program, Protected, RightSide, Schedule, Specification, Specified, Statement, Statements, Virtual}

abbrev pub zero_token : TokenNo
zero_token = record { 0 = 0 }

abbrev pub identifier : Identifier → Identifier
identifier x = record { token = zero_token; name = x.name }

abbrev pub mark : Option ℕ → Option ℕ
mark None = None
mark (Some token) = Some 0

-- ---- expressions

abbrev mutual
  pub expression : Expression → Expression
  expression (s.If token a b c) = s.If 0 (expression a) (expression b) (expression c)
  expression (s.Binary operator token a b) = s.Binary operator 0 (expression a) (expression b)
  expression (s.Not token a) = s.Not 0 (expression a)
  expression (s.Signed sign token a) = s.Signed sign 0 (expression a)
  expression (s.Member membership token a class) = s.Member membership 0 (expression a) (identifier class)
  expression (s.Dot token a x es) = s.Dot 0 (expression a) (identifier x) (expressions es)
  expression (s.Qua token a class) = s.Qua 0 (expression a) (identifier class)
  expression (s.Constant value token) = s.Constant value 0
  expression (s.Named x es) = s.Named (identifier x) (expressions es)
  expression (s.This token class) = s.This 0 (identifier class)
  expression (s.New token class es) = s.New 0 (identifier class) (expressions es)
  expression (s.Parentheses token a) = s.Parentheses 0 (expression a)

  pub expressions : Expressions → Expressions
  expressions s.NoMore = s.NoMore
  expressions (s.Then e es) = s.Then (expression e) (expressions es)

-- ---- parts of declarations

abbrev pub typed : TypeName → TypeName
typed (type_name.Integer token) = type_name.Integer zero_token
typed (type_name.Boolean token) = type_name.Boolean zero_token
typed (type_name.Character token) = type_name.Character zero_token
typed (type_name.Text token) = type_name.Text zero_token
typed (type_name.Reference token class) = type_name.Reference zero_token (identifier class)

abbrev pub leading_sign : LeadingSign → LeadingSign
leading_sign x = record { token = zero_token; sign = x.sign }

abbrev pub constant_value : ConstantTree → ConstantTree
constant_value (constant.Integer sign token value) = constant.Integer (option_map leading_sign sign) zero_token value
constant_value (constant.Character token value) = constant.Character zero_token value
constant_value (constant.Text token value) = constant.Text zero_token value
constant_value (constant.True token) = constant.True zero_token
constant_value (constant.False token) = constant.False zero_token

abbrev pub variable : Variable → Variable
variable v = record { name = identifier v.name; value = option_map constant_value v.value }

abbrev pub bounds : BoundPair → BoundPair
bounds b = record { lower = expression b.lower; upper = expression b.upper }

abbrev pub arrays : Arrayed → Arrayed
arrays a = record { names = map identifier a.names; bounds = map bounds a.bounds }

abbrev pub moded : Moded → Moded
moded m = record { token = 0; mode = m.mode; names = map identifier m.names }

abbrev pub specified : Specified → Specified
specified (s.Simple t) = s.Simple (typed t)
specified (s.Array t token) = s.Array (typed t) 0
specified (s.Procedure result token) = s.Procedure (option_map typed result) 0

abbrev pub specification : Specification → Specification
specification x = record { kind = specified x.kind; names = map identifier x.names }

abbrev pub heading : Heading → Heading
heading h = record { name = identifier h.name; formals = map identifier h.formals; modes = map moded h.modes; specifications = map specification h.specifications }

abbrev pub protected : Protected → Protected
protected p = record { hidden = mark p.hidden; protected = mark p.protected; names = map identifier p.names }

abbrev pub virtually : Virtual → Virtual
virtually v = record { result = option_map typed v.result; token = 0; names = map identifier v.names }

abbrev pub interface : Interface → Interface
interface i = record { protections = map protected i.protections; virtuals = map virtually i.virtuals }

-- ---- parts of statements

abbrev pub right_side : RightSide → RightSide
right_side r = record { sign = r.sign; token = 0; value = expression r.value }

abbrev pub element : Element → Element
element (s.Once value) = s.Once (expression value)
element (s.Step start token step limit) = s.Step (expression start) 0 (expression step) (expression limit)
element (s.While value token condition) = s.While (expression value) 0 (expression condition)

abbrev pub schedule : Schedule → Schedule
schedule s.Now = s.Now
schedule (s.At token time prior) = s.At 0 (expression time) (mark prior)
schedule (s.Delay token time prior) = s.Delay 0 (expression time) (mark prior)
schedule (s.Before token process) = s.Before 0 (expression process)
schedule (s.After token process) = s.After 0 (expression process)

-- ---- statements, blocks and declarations

abbrev mutual
  pub statement : Statement → Statement
  statement (s.Empty token) = s.Empty 0
  statement (s.Compound b) = s.Compound (block b)
  statement (s.Prefixed class es b) = s.Prefixed (identifier class) (expressions es) (block b)
  statement (s.Inner token) = s.Inner 0
  statement (s.Call e) = s.Call (expression e)
  statement (s.Assign left sides) = s.Assign (expression left) (map right_side sides)
  statement (s.Choose token e x y) = s.Choose 0 (expression e) (statement x) (statements y)
  statement (s.Repeat token e x) = s.Repeat 0 (expression e) (statement x)
  statement (s.For token x sign assign elements y) = s.For 0 (identifier x) sign 0 (map element elements) (statement y)
  statement (s.Inspect token e opening x end y) = s.Inspect 0 (expression e) 0 (statement x) 0 (statements y)
  statement (s.InspectWhen token e ws y) = s.InspectWhen 0 (expression e) (arms ws) (statements y)
  statement (s.Activate token word e times) = s.Activate 0 word (expression e) (schedule times)

  pub statements : Statements → Statements
  statements s.NoStatement = s.NoStatement
  statements (s.Also x xs) = s.Also (statement x) (statements xs)

  pub arms : Arms → Arms
  arms s.NoArm = s.NoArm
  arms (s.When token class opening x end ws) = s.When 0 (identifier class) 0 (statement x) 0 (arms ws)

  pub block : Block → Block
  block (s.Begin token ds xs end) = s.Begin 0 (declarations ds) (statements xs) 0

  pub declarations : Declarations → Declarations
  declarations s.NoDeclaration = s.NoDeclaration
  declarations (s.With d ds) = s.With (declaration d) (declarations ds)

  pub declaration : Declaration → Declaration
  declaration (s.Variables t vs) = s.Variables (typed t) (map variable vs)
  declaration (s.Arrays t token list) = s.Arrays (typed t) 0 (map arrays list)
  declaration (s.DeclareProcedure result token h x end) = s.DeclareProcedure (option_map typed result) 0 (heading h) (statement x) 0
  declaration (s.DeclareClass prefix token h i x end) = s.DeclareClass (option_map identifier prefix) 0 (heading h) (interface i) (statement x) 0

abbrev pub block_prefix : Prefix → Prefix
block_prefix p = record { class = identifier p.class; arguments = expressions p.arguments }

unfoldable pub unnumbered : Program → Program
unnumbered p = record { prefix = option_map block_prefix p.prefix; block = block p.block }
