-- The tokens of a program, in the order of the grammar. A block has one semicolon behind each declaration and between statements, and no
-- other; `hidden` stands before `protected`.
use Rattle.std.specs.Prelude.{ℕ, List, [], ◌∷◌, ◌++◌, true, false, Option, Some, None}
use Rattle.sim_base.specs.Lexeme.{bare, named, whole_number, character, text}
use Rattle.sim_base.specs.declared.token.Lexeme.{Lexeme}
use Rattle.sim_base.specs.declared.token.TokenKind.{TokenKind}
use Rattle.sim_base.specs.declared.token.TokenKind.TheVariants as k
use Rattle.sim_tree.specs.declared.expr.Identifier.{Identifier}
use Rattle.sim_tree.specs.declared.expr.LeadingSign.{LeadingSign}
use Rattle.sim_tree.specs.declared.operator.Operator.{Operator}
use Rattle.sim_tree.specs.declared.operator.Operator.TheVariants as o
use Rattle.sim_tree.specs.declared.stmt.Constant.{Constant as ConstantTree}
use Rattle.sim_tree.specs.declared.stmt.Constant.TheVariants as constant
use Rattle.sim_tree.specs.declared.stmt.TypeName.{TypeName}
use Rattle.sim_tree.specs.declared.stmt.TypeName.TheVariants as type_name
use Rattle.sim_tree.specs.declared.stmt.Variable.{Variable}
use Rattle.sim_tree.specs.Derivation.{membership_kind, multiplication_kind, relation_kind, sign_kind}
use Rattle.sim_tree.specs.ProgramDerivation.{activation_kind, assignment_kind, mode_kind}
use Rattle.sim_tree.specs.Syntax as s
use Rattle.sim_tree.specs.Syntax.{Arms, Arrayed, Block, BoundPair, Declaration, Declarations, Element, Expression, Expressions, Heading, Interface, Literal, Moded, Prefix, Program, Protected, RightSide, Schedule, Specification, Specified, Statement, Statements, Virtual}
use Rattle.sim_print.specs.Spelling.{each}

-- a word or a sign
abbrev pub one : TokenKind → List Lexeme
one kind = bare kind ∷ []

abbrev pub name : Identifier → List Lexeme
name x = named x.name ∷ []

abbrev pub behind_comma : {A : Type 0} → (A → List Lexeme) → A → List Lexeme
behind_comma f x = one k.Comma ++ f x

-- a list, with commas between
abbrev pub listed : {A : Type 0} → (A → List Lexeme) → List A → List Lexeme
listed f [] = []
listed f (x ∷ xs) = f x ++ each (behind_comma f) xs

abbrev pub names : List Identifier → List Lexeme
names xs = listed name xs

-- ---- expressions

abbrev pub operator_kind : Operator → TokenKind
operator_kind o.OrElse = k.OrElse
operator_kind o.AndThen = k.AndThen
operator_kind o.Equivalent = k.Eqv
operator_kind o.Implies = k.Imp
operator_kind o.Or = k.Or
operator_kind o.And = k.And
operator_kind (o.Relate relation) = relation_kind relation
operator_kind o.Concatenate = k.Ampersand
operator_kind (o.Add sign) = sign_kind sign
operator_kind (o.Multiply operator) = multiplication_kind operator
operator_kind o.Power = k.Power

abbrev pub literal : Literal → Lexeme
literal (s.IntegerValue number) = whole_number number
literal (s.CharacterValue code) = character code
literal (s.TextValue bytes) = text bytes
literal (s.BooleanValue true) = bare k.True
literal (s.BooleanValue false) = bare k.False
literal s.NoObject = bare k.None
literal s.NoText = bare k.Notext

abbrev mutual
  pub expression : Expression → List Lexeme
  expression (s.If token a b c) = one k.If ++ (expression a ++ (one k.Then ++ (expression b ++ (one k.Else ++ expression c))))
  expression (s.Binary operator token a b) = expression a ++ (one (operator_kind operator) ++ expression b)
  expression (s.Not token a) = one k.Not ++ expression a
  expression (s.Signed sign token a) = one (sign_kind sign) ++ expression a
  expression (s.Member membership token a class) = expression a ++ (one (membership_kind membership) ++ name class)
  expression (s.Dot token a x es) = expression a ++ (one k.Dot ++ (name x ++ actuals es))
  expression (s.Qua token a class) = expression a ++ (one k.Qua ++ name class)
  expression (s.Constant value token) = literal value ∷ []
  expression (s.Named x es) = name x ++ actuals es
  expression (s.This token class) = one k.This ++ name class
  expression (s.New token class es) = one k.New ++ (name class ++ actuals es)
  expression (s.Parentheses token a) = one k.Open ++ (expression a ++ one k.Close)

  -- actual parameters or subscripts, where there are some
  pub actuals : Expressions → List Lexeme
  actuals s.NoMore = []
  actuals (s.Then e es) = one k.Open ++ (expression e ++ further_actuals es)

  pub further_actuals : Expressions → List Lexeme
  further_actuals s.NoMore = one k.Close
  further_actuals (s.Then e es) = one k.Comma ++ (expression e ++ further_actuals es)

-- ---- parts of declarations

abbrev pub type_tokens : TypeName → List Lexeme
type_tokens (type_name.Integer token) = one k.IntegerWord
type_tokens (type_name.Boolean token) = one k.Boolean
type_tokens (type_name.Character token) = one k.CharacterWord
type_tokens (type_name.Text token) = one k.TextWord
type_tokens (type_name.Reference token class) = one k.Ref ++ (one k.Open ++ (name class ++ one k.Close))

-- the type of a result, where one is written
abbrev pub result_tokens : Option TypeName → List Lexeme
result_tokens None = []
result_tokens (Some t) = type_tokens t

abbrev pub sign_tokens : Option LeadingSign → List Lexeme
sign_tokens None = []
sign_tokens (Some sign) = one (sign_kind sign.sign)

abbrev pub constant_tokens : ConstantTree → List Lexeme
constant_tokens (constant.Integer sign token value) = sign_tokens sign ++ (whole_number value ∷ [])
constant_tokens (constant.Character token value) = character value ∷ []
constant_tokens (constant.Text token value) = text value ∷ []
constant_tokens (constant.True token) = one k.True
constant_tokens (constant.False token) = one k.False

abbrev pub value_tokens : Option ConstantTree → List Lexeme
value_tokens None = []
value_tokens (Some value) = one k.Equal ++ constant_tokens value

abbrev pub variable_tokens : Variable → List Lexeme
variable_tokens v = name v.name ++ value_tokens v.value

abbrev pub bound_tokens : BoundPair → List Lexeme
bound_tokens b = expression b.lower ++ (one k.Colon ++ expression b.upper)

abbrev pub array_tokens : Arrayed → List Lexeme
array_tokens a = names a.names ++ (one k.Open ++ (listed bound_tokens a.bounds ++ one k.Close))

abbrev pub mode_tokens : Moded → List Lexeme
mode_tokens m = one (mode_kind m.mode) ++ (names m.names ++ one k.Semicolon)

abbrev pub specified_tokens : Specified → List Lexeme
specified_tokens (s.Simple t) = type_tokens t
specified_tokens (s.Array t token) = type_tokens t ++ one k.Array
specified_tokens (s.Procedure result token) = result_tokens result ++ one k.Procedure

abbrev pub specification_tokens : Specification → List Lexeme
specification_tokens x = specified_tokens x.kind ++ (names x.names ++ one k.Semicolon)

-- formal parameters, where there are some
abbrev pub formal_tokens : List Identifier → List Lexeme
formal_tokens [] = []
formal_tokens (x ∷ xs) = one k.Open ++ (names (x ∷ xs) ++ one k.Close)

abbrev pub heading_tokens : Heading → List Lexeme
heading_tokens h =
    name h.name ++ (formal_tokens h.formals ++ (one k.Semicolon ++ (each mode_tokens h.modes ++ each specification_tokens h.specifications)))

-- a word that is written
abbrev pub mark_tokens : TokenKind → Option ℕ → List Lexeme
mark_tokens kind None = []
mark_tokens kind (Some token) = one kind

abbrev pub protection_tokens : Protected → List Lexeme
protection_tokens p = mark_tokens k.Hidden p.hidden ++ (mark_tokens k.Protected p.protected ++ (names p.names ++ one k.Semicolon))

abbrev pub virtual_tokens : Virtual → List Lexeme
virtual_tokens v = result_tokens v.result ++ (one k.Procedure ++ (names v.names ++ one k.Semicolon))

-- the part of the virtual procedures, where there are some
abbrev pub virtual_part : List Virtual → List Lexeme
virtual_part [] = []
virtual_part (v ∷ vs) = one k.Virtual ++ (one k.Colon ++ each virtual_tokens (v ∷ vs))

abbrev pub interface_tokens : Interface → List Lexeme
interface_tokens i = each protection_tokens i.protections ++ virtual_part i.virtuals

-- the prefix of a class, where one is written
abbrev pub class_prefix : Option Identifier → List Lexeme
class_prefix None = []
class_prefix (Some x) = name x

-- ---- parts of statements

abbrev pub right_side : RightSide → List Lexeme
right_side r = one (assignment_kind r.sign) ++ expression r.value

abbrev pub element : Element → List Lexeme
element (s.Once value) = expression value
element (s.Step start token step limit) = expression start ++ (one k.Step ++ (expression step ++ (one k.Until ++ expression limit)))
element (s.While value token condition) = expression value ++ (one k.While ++ expression condition)

abbrev pub schedule : Schedule → List Lexeme
schedule s.Now = []
schedule (s.At token time prior) = one k.At ++ (expression time ++ mark_tokens k.Prior prior)
schedule (s.Delay token time prior) = one k.Delay ++ (expression time ++ mark_tokens k.Prior prior)
schedule (s.Before token process) = one k.Before ++ expression process
schedule (s.After token process) = one k.After ++ expression process

-- ---- statements, blocks and declarations

abbrev mutual
  pub statement : Statement → List Lexeme
  statement (s.Empty token) = []
  statement (s.Compound b) = block b
  statement (s.Prefixed class es b) = name class ++ (actuals es ++ block b)
  statement (s.Inner token) = one k.Inner
  statement (s.Call e) = expression e
  statement (s.Assign left sides) = expression left ++ each right_side sides
  statement (s.Choose token e x y) = one k.If ++ (expression e ++ (one k.Then ++ (statement x ++ branch k.Else y)))
  statement (s.Repeat token e x) = one k.While ++ (expression e ++ (one k.Do ++ statement x))
  statement (s.For token x sign assign elements y) =
      one k.For ++ (name x ++ (one (assignment_kind sign) ++ (listed element elements ++ (one k.Do ++ statement y))))
  statement (s.Inspect token e opening x end y) = one k.Inspect ++ (expression e ++ (one k.Do ++ (statement x ++ branch k.Otherwise y)))
  statement (s.InspectWhen token e ws y) = one k.Inspect ++ (expression e ++ (arms ws ++ branch k.Otherwise y))
  statement (s.Activate token word e times) = one (activation_kind word) ++ (expression e ++ schedule times)

  -- the statement behind a word, where there is one
  pub branch : TokenKind → Statements → List Lexeme
  branch kind s.NoStatement = []
  branch kind (s.Also x xs) = one kind ++ (statement x ++ branch kind xs)

  pub arms : Arms → List Lexeme
  arms s.NoArm = []
  arms (s.When token class opening x end ws) = one k.When ++ (name class ++ (one k.Do ++ (statement x ++ arms ws)))

  pub block : Block → List Lexeme
  block (s.Begin token ds xs end) = one k.Begin ++ (declarations ds ++ (statements xs ++ one k.End))

  pub declarations : Declarations → List Lexeme
  declarations s.NoDeclaration = []
  declarations (s.With d ds) = declaration d ++ (one k.Semicolon ++ declarations ds)

  pub statements : Statements → List Lexeme
  statements s.NoStatement = []
  statements (s.Also x xs) = statement x ++ further_statements xs

  pub further_statements : Statements → List Lexeme
  further_statements s.NoStatement = []
  further_statements (s.Also x xs) = one k.Semicolon ++ (statement x ++ further_statements xs)

  pub declaration : Declaration → List Lexeme
  declaration (s.Variables t vs) = type_tokens t ++ listed variable_tokens vs
  declaration (s.Arrays t token arrays) = type_tokens t ++ (one k.Array ++ listed array_tokens arrays)
  declaration (s.DeclareProcedure result token heading x end) = result_tokens result ++ (one k.Procedure ++ (heading_tokens heading ++ statement x))
  declaration (s.DeclareClass prefix token heading interface x end) =
      class_prefix prefix ++ (one k.Class ++ (heading_tokens heading ++ (interface_tokens interface ++ statement x)))

-- the class in front of a block, with its actual parameters, where there is one
abbrev pub block_prefix : Option Prefix → List Lexeme
block_prefix None = []
block_prefix (Some p) = name p.class ++ actuals p.arguments

-- of a whole program
unfoldable pub program : Program → List Lexeme
program p = block_prefix p.prefix ++ block p.block
