-- The tokens of a syntax may stand side by side.
use Rattle.std.proofs.Common.{◌≡◌, ℕ, true, false, List, [], ◌∷◌, ◌++◌, Option, Some, None, refl, subst, append-nil}
use Rattle.std.proofs.lemmas.Bool.{false≢true}
use Rattle.sim_base.specs.Lexeme.{character, named, text, whole_number}
use Rattle.sim_base.specs.declared.token.Lexeme.{Lexeme}
use Rattle.sim_base.specs.declared.token.TokenKind.{TokenKind}
use Rattle.sim_base.specs.declared.token.TokenKind.TheVariants as k
use Rattle.sim_tree.specs.Derivation.{membership_kind, sign_kind}
use Rattle.sim_tree.specs.ProgramDerivation.{activation_kind, assignment_kind, mode_kind}
use Rattle.sim_tree.specs.Syntax as s
use Rattle.sim_tree.specs.Syntax.{Arms, Arrayed, Block, BoundPair, Declaration, Declarations, Element, Expression, Expressions, Heading, Interface, Literal, Moded, Prefix, Program, Protected, RightSide, Schedule, Specification, Specified, Statement, Statements, Virtual}
use Rattle.sim_tree.specs.declared.expr.Identifier.{Identifier}
use Rattle.sim_tree.specs.declared.expr.LeadingSign.{LeadingSign}
use Rattle.sim_tree.specs.declared.expr.Membership.{Membership}
use Rattle.sim_tree.specs.declared.expr.Membership.TheVariants as membership
use Rattle.sim_tree.specs.declared.expr.Multiplication.TheVariants as multiplication
use Rattle.sim_tree.specs.declared.expr.Relation.TheVariants as relation
use Rattle.sim_tree.specs.declared.expr.Sign.{Sign}
use Rattle.sim_tree.specs.declared.expr.Sign.TheVariants as sign
use Rattle.sim_tree.specs.declared.operator.Operator.{Operator}
use Rattle.sim_tree.specs.declared.operator.Operator.TheVariants as o
use Rattle.sim_tree.specs.declared.stmt.Activation.{Activation}
use Rattle.sim_tree.specs.declared.stmt.Activation.TheVariants as activation
use Rattle.sim_tree.specs.declared.stmt.Assignment.{Assignment}
use Rattle.sim_tree.specs.declared.stmt.Assignment.TheVariants as assignment
use Rattle.sim_tree.specs.declared.stmt.Constant.{Constant as ConstantTree}
use Rattle.sim_tree.specs.declared.stmt.Constant.TheVariants as constant
use Rattle.sim_tree.specs.declared.stmt.Mode.{Mode}
use Rattle.sim_tree.specs.declared.stmt.Mode.TheVariants as mode
use Rattle.sim_tree.specs.declared.stmt.TypeName.{TypeName}
use Rattle.sim_tree.specs.declared.stmt.TypeName.TheVariants as type_name
use Rattle.sim_tree.specs.declared.stmt.Variable.{Variable}
use Rattle.sim_print.specs.Tokens as t
use Rattle.sim_print.specs.Tokens.{one}
use Rattle.print_reads.specs.Writable.{Stand, StandBehind, may_stand}
use Rattle.print_reads.proofs.Fits.{Closes, Ends, Fits, Free, Names, Opens, at_end, begins, begins_expression, behind_expression, behind_statement, closes-ends, empty, fits-each, fits-listed, free-closes, free-ends, free-names, free-opens, free_word, in_front, lexeme, opens-names, then}

-- ---- words and signs

operator : (op : Operator) → Fits Closes Opens (one (t.operator_kind op))
operator o.OrElse = behind_expression k.OrElse refl (record { may = λ next b. refl })
operator o.AndThen = behind_expression k.AndThen refl (record { may = λ next b. refl })
operator o.Equivalent = behind_expression k.Eqv refl (record { may = λ next b. refl })
operator o.Implies = behind_expression k.Imp refl (record { may = λ next b. refl })
operator o.Or = behind_expression k.Or refl (record { may = by })
  where
    by : (next : TokenKind) → begins next ≡ true → may_stand k.Or next ≡ true
    by k.Else b = absurd (false≢true b)
    by _ b = refl
operator o.And = behind_expression k.And refl (record { may = by })
  where
    by : (next : TokenKind) → begins next ≡ true → may_stand k.And next ≡ true
    by k.Then b = absurd (false≢true b)
    by _ b = refl
operator (o.Relate relation.Less) = behind_expression k.Less refl (record { may = λ next b. refl })
operator (o.Relate relation.LessEqual) = behind_expression k.LessEqual refl (record { may = λ next b. refl })
operator (o.Relate relation.Equal) = behind_expression k.Equal refl (record { may = λ next b. refl })
operator (o.Relate relation.GreaterEqual) = behind_expression k.GreaterEqual refl (record { may = λ next b. refl })
operator (o.Relate relation.Greater) = behind_expression k.Greater refl (record { may = λ next b. refl })
operator (o.Relate relation.NotEqual) = behind_expression k.NotEqual refl (record { may = λ next b. refl })
operator (o.Relate relation.SameReference) = behind_expression k.SameReference refl (record { may = λ next b. refl })
operator (o.Relate relation.OtherReference) = behind_expression k.OtherReference refl (record { may = λ next b. refl })
operator o.Concatenate = behind_expression k.Ampersand refl (record { may = λ next b. refl })
operator (o.Add sign.Plus) = behind_expression k.Plus refl (record { may = λ next b. refl })
operator (o.Add sign.Minus) = behind_expression k.Minus refl (record { may = λ next b. refl })
operator (o.Multiply multiplication.Times) = behind_expression k.Times refl (record { may = λ next b. refl })
operator (o.Multiply multiplication.Divide) = behind_expression k.Divide refl (record { may = λ next b. refl })
operator o.Power = behind_expression k.Power refl (record { may = λ next b. refl })

leading : (sn : Sign) → Fits Opens Free (one (sign_kind sn))
leading sign.Plus = begins_expression k.Plus refl (record { may = λ next. refl })
leading sign.Minus = begins_expression k.Minus refl (record { may = λ next. refl })

test : (m : Membership) → Fits Closes Free (one (membership_kind m))
test membership.Is = behind_expression k.Is refl (record { may = λ next. refl })
test membership.In = behind_expression k.In refl (record { may = λ next. refl })

assign : (sn : Assignment) → Fits Closes Free (one (assignment_kind sn))
assign assignment.Value = behind_expression k.Assign refl (record { may = λ next. refl })
assign assignment.Reference = behind_expression k.AssignReference refl (record { may = λ next. refl })

activates : (word : Activation) → Fits Free Free (one (activation_kind word))
activates activation.Activate = free_word k.Activate (record { may = λ next. refl })
activates activation.Reactivate = free_word k.Reactivate (record { may = λ next. refl })

modes : (m : Mode) → Fits Free Free (one (mode_kind m))
modes mode.Value = free_word k.Value (record { may = λ next. refl })
modes mode.Name = free_word k.Name (record { may = λ next. refl })

opening : Fits Closes Free (one k.Open)
opening = behind_expression k.Open refl (record { may = λ next. refl })

closing : Fits Closes Closes (one k.Close)
closing = behind_expression k.Close refl (record { may = λ next h. refl })

semicolon : Fits Closes Free (one k.Semicolon)
semicolon = behind_expression k.Semicolon refl (record { may = λ next. refl })

name : (x : Identifier) → Fits Names Closes (t.name x)
name x = lexeme (named x.name) (λ last n. n.may) (record { may = λ next h. refl })

free_name : (x : Identifier) → Fits Free Closes (t.name x)
free_name x = in_front free-names (name x)

literal : (value : Literal) → Fits Opens Closes (t.literal value ∷ [])
literal (s.IntegerValue number) = lexeme (whole_number number) (λ last o. o.may k.Integer refl) (record { may = λ next h. refl })
literal (s.CharacterValue code) = lexeme (character code) (λ last o. o.may k.Character refl) (record { may = λ next h. refl })
literal (s.TextValue bytes) = lexeme (text bytes) (λ last o. o.may k.Text refl) (record { may = λ next h. h })
literal (s.BooleanValue true) = begins_expression k.True refl (record { may = λ next h. refl })
literal (s.BooleanValue false) = begins_expression k.False refl (record { may = λ next h. refl })
literal s.NoObject = begins_expression k.None refl (record { may = λ next h. refl })
literal s.NoText = begins_expression k.Notext refl (record { may = λ next h. refl })

-- ---- expressions

mutual
  expression : (e : Expression) → Fits Opens Closes (t.expression e)
  expression (s.If token a b c) =
      then (begins_expression k.If refl (record { may = λ next. refl }))
      (then (in_front free-opens (expression a))
      (then (behind_expression k.Then refl (record { may = λ next. refl }))
      (then (in_front free-opens (expression b))
      (then (behind_expression k.Else refl (record { may = λ next. refl }))
      (in_front free-opens (expression c))))))
  expression (s.Binary op token a b) = then (expression a) (then (operator op) (expression b))
  expression (s.Not token a) = then (begins_expression k.Not refl (record { may = λ next. refl })) (in_front free-opens (expression a))
  expression (s.Signed sn token a) = then (leading sn) (in_front free-opens (expression a))
  expression (s.Member m token a class) = then (expression a) (then (test m) (free_name class))
  expression (s.Dot token a x es) = then (expression a) (then (behind_expression k.Dot refl (record { may = refl })) (then (name x) (actuals es)))
  expression (s.Qua token a class) = then (expression a) (then (behind_expression k.Qua refl (record { may = λ next. refl })) (free_name class))
  expression (s.Constant value token) = literal value
  expression (s.Named x es) = then (in_front opens-names (name x)) (actuals es)
  expression (s.This token class) = then (begins_expression k.This refl (record { may = λ next. refl })) (free_name class)
  expression (s.New token class es) = then (begins_expression k.New refl (record { may = λ next. refl })) (then (free_name class) (actuals es))
  expression (s.Parentheses token a) =
      then (begins_expression k.Open refl (record { may = λ next. refl })) (then (in_front free-opens (expression a)) closing)

  actuals : (es : Expressions) → Fits Closes Closes (t.actuals es)
  actuals s.NoMore = empty (λ last c. c)
  actuals (s.Then e es) = then opening (then (in_front free-opens (expression e)) (further es))

  further : (es : Expressions) → Fits Closes Closes (t.further_actuals es)
  further s.NoMore = closing
  further (s.Then e es) = then (behind_expression k.Comma refl (record { may = λ next. refl })) (then (in_front free-opens (expression e)) (further es))

free_expression : (e : Expression) → Fits Free Closes (t.expression e)
free_expression e = in_front free-opens (expression e)

-- ---- parts of declarations

type_tokens : (x : TypeName) → Fits Free Free (t.type_tokens x)
type_tokens (type_name.Integer token) = free_word k.IntegerWord (record { may = λ next. refl })
type_tokens (type_name.Boolean token) = free_word k.Boolean (record { may = λ next. refl })
type_tokens (type_name.Character token) = free_word k.CharacterWord (record { may = λ next. refl })
type_tokens (type_name.Text token) = free_word k.TextWord (record { may = λ next. refl })
type_tokens (type_name.Reference token class) =
    then (free_word k.Ref (record { may = λ next h. refl })) (then opening (then (free_name class) (behind_expression k.Close refl (record { may = λ next. refl }))))

result : (x : Option TypeName) → Fits Free Free (t.result_tokens x)
result None = empty (λ last f. f)
result (Some x) = type_tokens x

signed : (x : Option LeadingSign) → Fits Free Opens (t.sign_tokens x)
signed None = empty free-opens
signed (Some x) = by x.sign
  where
    by : (sn : Sign) → Fits Free Opens (one (sign_kind sn))
    by sign.Plus = free_word k.Plus (record { may = λ next b. refl })
    by sign.Minus = free_word k.Minus (record { may = λ next b. refl })

constant_tokens : (x : ConstantTree) → Fits Free Closes (t.constant_tokens x)
constant_tokens (constant.Integer sn token value) = then (signed sn) (literal (s.IntegerValue value))
constant_tokens (constant.Character token value) = in_front free-opens (literal (s.CharacterValue value))
constant_tokens (constant.Text token value) = in_front free-opens (literal (s.TextValue value))
constant_tokens (constant.True token) = in_front free-opens (literal (s.BooleanValue true))
constant_tokens (constant.False token) = in_front free-opens (literal (s.BooleanValue false))

value : (x : Option ConstantTree) → Fits Closes Closes (t.value_tokens x)
value None = empty (λ last c. c)
value (Some x) = then (behind_expression k.Equal refl (record { may = λ next. refl })) (constant_tokens x)

variable : (v : Variable) → Fits Free Closes (t.variable_tokens v)
variable v = then (free_name v.name) (value v.value)

names : (xs : List Identifier) → Fits Free Closes (t.names xs)
names xs = fits-listed t.name free_name xs

bounds : (b : BoundPair) → Fits Free Closes (t.bound_tokens b)
bounds b = then (free_expression b.lower) (then (behind_expression k.Colon refl (record { may = λ next. refl })) (free_expression b.upper))

arrays : (a : Arrayed) → Fits Free Closes (t.array_tokens a)
arrays a = then (names a.names) (then opening (then (fits-listed t.bound_tokens bounds a.bounds) closing))

mode_part : (m : Moded) → Fits Free Free (t.mode_tokens m)
mode_part m = then (modes m.mode) (then (names m.names) semicolon)

specified : (x : Specified) → Fits Free Free (t.specified_tokens x)
specified (s.Simple x) = type_tokens x
specified (s.Array x token) = then (type_tokens x) (free_word k.Array (record { may = λ next. refl }))
specified (s.Procedure x token) = then (result x) (free_word k.Procedure (record { may = λ next. refl }))

specification : (x : Specification) → Fits Free Free (t.specification_tokens x)
specification x = then (specified x.kind) (then (names x.names) semicolon)

formals : (xs : List Identifier) → Fits Closes Closes (t.formal_tokens xs)
formals [] = empty (λ last c. c)
formals (x ∷ xs) = then opening (then (names (x ∷ xs)) closing)

heading : (h : Heading) → Fits Free Free (t.heading_tokens h)
heading h =
    then (free_name h.name)
    (then (formals h.formals)
    (then semicolon
    (then (fits-each t.mode_tokens mode_part h.modes)
    (fits-each t.specification_tokens specification h.specifications))))

marked : (kind : TokenKind) → Free kind → (x : Option ℕ) → Fits Free Free (t.mark_tokens kind x)
marked kind f None = empty (λ last f. f)
marked kind f (Some token) = free_word kind f

protection : (p : Protected) → Fits Free Free (t.protection_tokens p)
protection p =
    then (marked k.Hidden (record { may = λ next. refl }) p.hidden)
    (then (marked k.Protected (record { may = λ next. refl }) p.protected) (then (names p.names) semicolon))

virtual_procedures : (v : Virtual) → Fits Free Free (t.virtual_tokens v)
virtual_procedures v = then (result v.result) (then (free_word k.Procedure (record { may = λ next. refl })) (then (names v.names) semicolon))

virtual_part : (vs : List Virtual) → Fits Free Free (t.virtual_part vs)
virtual_part [] = empty (λ last f. f)
virtual_part (v ∷ vs) =
    then (free_word k.Virtual (record { may = λ next. refl }))
    (then (free_word k.Colon (record { may = λ next. refl })) (fits-each t.virtual_tokens virtual_procedures (v ∷ vs)))

interface : (i : Interface) → Fits Free Free (t.interface_tokens i)
interface i = then (fits-each t.protection_tokens protection i.protections) (virtual_part i.virtuals)

class_prefix : (x : Option Identifier) → Fits Free Closes (t.class_prefix x)
class_prefix None = empty free-closes
class_prefix (Some x) = free_name x

-- ---- parts of statements

right_side : (r : RightSide) → Fits Closes Closes (t.right_side r)
right_side r = then (assign r.sign) (free_expression r.value)

element : (e : Element) → Fits Free Closes (t.element e)
element (s.Once e) = free_expression e
element (s.Step start token step limit) =
    then (free_expression start)
    (then (behind_expression k.Step refl (record { may = λ next. refl }))
    (then (free_expression step) (then (behind_expression k.Until refl (record { may = λ next. refl })) (free_expression limit))))
element (s.While e token condition) = then (free_expression e) (then (behind_expression k.While refl (record { may = λ next. refl })) (free_expression condition))

prior : (x : Option ℕ) → Fits Closes Closes (t.mark_tokens k.Prior x)
prior None = empty (λ last c. c)
prior (Some token) = behind_expression k.Prior refl (record { may = λ next h. refl })

schedule : (x : Schedule) → Fits Closes Closes (t.schedule x)
schedule s.Now = empty (λ last c. c)
schedule (s.At token time p) = then (behind_expression k.At refl (record { may = λ next. refl })) (then (free_expression time) (prior p))
schedule (s.Delay token time p) = then (behind_expression k.Delay refl (record { may = λ next. refl })) (then (free_expression time) (prior p))
schedule (s.Before token process) = then (behind_expression k.Before refl (record { may = λ next. refl })) (free_expression process)
schedule (s.After token process) = then (behind_expression k.After refl (record { may = λ next. refl })) (free_expression process)

-- ---- statements, blocks and declarations

mutual
  statement : (x : Statement) → Fits Free Ends (t.statement x)
  statement (s.Empty token) = empty free-ends
  statement (s.Compound b) = in_front free-closes (block b)
  statement (s.Prefixed class es b) = then (free_name class) (then (actuals es) (block b))
  statement (s.Inner token) = free_word k.Inner (record { may = λ next h. refl })
  statement (s.Call e) = at_end closes-ends (free_expression e)
  statement (s.Assign left sides) = at_end closes-ends (then (free_expression left) (fits-each t.right_side right_side sides))
  statement (s.Choose token e x y) =
      then (free_word k.If (record { may = λ next. refl }))
      (then (free_expression e)
      (then (behind_expression k.Then refl (record { may = λ next. refl }))
      (then (statement x) (branch k.Else refl (record { may = λ next. refl }) y))))
  statement (s.Repeat token e x) =
      then (free_word k.While (record { may = λ next. refl }))
      (then (free_expression e) (then (behind_expression k.Do refl (record { may = λ next. refl })) (statement x)))
  statement (s.For token x sn at elements y) =
      then (free_word k.For (record { may = λ next. refl }))
      (then (free_name x)
      (then (assign sn)
      (then (fits-listed t.element element elements) (then (behind_expression k.Do refl (record { may = λ next. refl })) (statement y)))))
  statement (s.Inspect token e from x end y) =
      then (free_word k.Inspect (record { may = λ next. refl }))
      (then (free_expression e)
      (then (behind_expression k.Do refl (record { may = λ next. refl }))
      (then (statement x) (branch k.Otherwise refl (record { may = λ next. refl }) y))))
  statement (s.InspectWhen token e ws y) =
      then (free_word k.Inspect (record { may = λ next. refl }))
      (then (at_end closes-ends (free_expression e)) (then (arms ws) (branch k.Otherwise refl (record { may = λ next. refl }) y)))
  statement (s.Activate token word e times) = at_end closes-ends (then (activates word) (then (free_expression e) (schedule times)))

  branch : (kind : TokenKind) → may_stand k.End kind ≡ true → Free kind → (xs : Statements) → Fits Ends Ends (t.branch kind xs)
  branch kind may f s.NoStatement = empty (λ last e. e)
  branch kind may f (s.Also x xs) = then (behind_statement kind may f) (then (statement x) (branch kind may f xs))

  arms : (ws : Arms) → Fits Ends Ends (t.arms ws)
  arms s.NoArm = empty (λ last e. e)
  arms (s.When token class from x end ws) =
      then (behind_statement k.When refl (record { may = λ next. refl }))
      (then (free_name class)
      (then (behind_expression k.Do refl (record { may = λ next. refl }))
      (then (statement x) (arms ws))))

  block : (b : Block) → Fits Closes Ends (t.block b)
  block (s.Begin token ds xs end) =
      then (behind_expression k.Begin refl (record { may = λ next. refl }))
      (then (declarations ds) (then (statements xs) (behind_statement k.End refl (record { may = λ next h. h }))))

  declarations : (ds : Declarations) → Fits Free Free (t.declarations ds)
  declarations s.NoDeclaration = empty (λ last f. f)
  declarations (s.With d ds) = then (declaration d) (then (behind_statement k.Semicolon refl (record { may = λ next. refl })) (declarations ds))

  statements : (xs : Statements) → Fits Free Ends (t.statements xs)
  statements s.NoStatement = empty free-ends
  statements (s.Also x xs) = then (statement x) (further_statements xs)

  further_statements : (xs : Statements) → Fits Ends Ends (t.further_statements xs)
  further_statements s.NoStatement = empty (λ last e. e)
  further_statements (s.Also x xs) = then (behind_statement k.Semicolon refl (record { may = λ next. refl })) (then (statement x) (further_statements xs))

  declaration : (d : Declaration) → Fits Free Ends (t.declaration d)
  declaration (s.Variables x vs) = at_end closes-ends (then (type_tokens x) (fits-listed t.variable_tokens variable vs))
  declaration (s.Arrays x token list) =
      at_end closes-ends (then (type_tokens x) (then (free_word k.Array (record { may = λ next. refl })) (fits-listed t.array_tokens arrays list)))
  declaration (s.DeclareProcedure x token h y end) =
      then (result x) (then (free_word k.Procedure (record { may = λ next. refl })) (then (heading h) (statement y)))
  declaration (s.DeclareClass x token h i y end) =
      then (class_prefix x)
      (then (behind_expression k.Class refl (record { may = λ next. refl })) (then (heading h) (then (interface i) (statement y))))

block_prefix : (p : Option Prefix) → Fits Free Closes (t.block_prefix p)
block_prefix None = empty free-closes
block_prefix (Some p) = then (free_name p.class) (actuals p.arguments)

-- ---- programs

stand_on : (last : TokenKind) (xs : List Lexeme) → StandBehind last xs → Stand xs
stand_on last [] stand = tt
stand_on last (x ∷ xs) stand = stand.1

pub tokens_stand : (p : Program) → Stand (t.program p)
unfolding t.program
tokens_stand p =
    let all = then (block_prefix p.prefix) (block p.block) in
    let tokens = t.block_prefix p.prefix ++ t.block p.block in
    stand_on k.Semicolon tokens
    (subst (StandBehind k.Semicolon) (append-nil tokens) (all.stand k.Semicolon (record { may = λ next. refl }) [] (λ end e. tt)))
