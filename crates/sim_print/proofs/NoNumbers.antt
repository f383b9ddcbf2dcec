-- The tokens of a syntax hang on no number.
use Rattle.std.proofs.Common.{◌≡◌, ℕ, List, [], ◌∷◌, ◌++◌, Option, Some, None, refl, ap, ◌∙◌, map}
use Rattle.std.specs.Prelude.{option_map}
use Rattle.sim_base.specs.declared.token.Lexeme.{Lexeme}
use Rattle.sim_base.specs.declared.token.TokenKind.{TokenKind}
use Rattle.sim_base.specs.declared.token.TokenKind.TheVariants as k
use Rattle.sim_tree.specs.declared.expr.Identifier.{Identifier}
use Rattle.sim_tree.specs.declared.stmt.Constant.{Constant as ConstantTree}
use Rattle.sim_tree.specs.declared.stmt.Constant.TheVariants as constant
use Rattle.sim_tree.specs.declared.stmt.TypeName.{TypeName}
use Rattle.sim_tree.specs.declared.stmt.TypeName.TheVariants as type_name
use Rattle.sim_tree.specs.declared.stmt.Variable.{Variable}
use Rattle.sim_tree.specs.Derivation.{membership_kind, sign_kind}
use Rattle.sim_tree.specs.ProgramDerivation.{activation_kind, assignment_kind, mode_kind}
use Rattle.sim_tree.specs.Syntax as s
use Rattle.sim_tree.specs.Syntax.{Arms, Arrayed, Block, BoundPair, Declaration, Declarations, Element, Expression, Expressions, Heading, Interface, Moded, Prefix, Program, Protected, RightSide, Schedule, Specification, Specified, Statement, Statements, Virtual}
use Rattle.sim_print.specs.Canonical.{canonical_text}
use Rattle.sim_print.specs.Layout.{text_of}
use Rattle.sim_print.specs.Spelling.{each}
use Rattle.sim_print.specs.Tokens as t
use Rattle.sim_print.specs.Tokens.{behind_comma, listed, name, one, operator_kind}
use Rattle.sim_print.specs.Unnumbered as u
use Rattle.sim_print.specs.Unnumbered.{unnumbered}

then : {xs ys zs us : List Lexeme} → xs ≡ ys → zs ≡ us → xs ++ zs ≡ ys ++ us
then {xs} {ys} {zs} {us} e f = ap (λ z. z ++ zs) e ∙ ap (λ z. ys ++ z) f

each_same : {A : Type 0} (f : A → List Lexeme) (g : A → A) → ((x : A) → f x ≡ f (g x)) → (xs : List A) → each f xs ≡ each f (map g xs)
each_same f g e [] = refl
each_same f g e (x ∷ xs) = then (e x) (each_same f g e xs)

listed_same : {A : Type 0} (f : A → List Lexeme) (g : A → A) → ((x : A) → f x ≡ f (g x)) → (xs : List A) → listed f xs ≡ listed f (map g xs)
listed_same f g e [] = refl
listed_same f g e (x ∷ xs) = then (e x) (each_same (behind_comma f) g (λ y. ap (λ z. one k.Comma ++ z) (e y)) xs)

names_same : (xs : List Identifier) → t.names xs ≡ t.names (map u.identifier xs)
names_same xs = listed_same name u.identifier (λ x. refl) xs

-- ---- expressions

mutual
  expression : (e : Expression) → t.expression e ≡ t.expression (u.expression e)
  expression (s.If token a b c) = ap (λ z. one k.If ++ z) (then (expression a) (ap (λ z. one k.Then ++ z) (then (expression b) (ap (λ z. one k.Else ++ z) (expression c)))))
  expression (s.Binary operator token a b) = then (expression a) (ap (λ z. one (operator_kind operator) ++ z) (expression b))
  expression (s.Not token a) = ap (λ z. one k.Not ++ z) (expression a)
  expression (s.Signed sign token a) = ap (λ z. one (sign_kind sign) ++ z) (expression a)
  expression (s.Member membership token a class) = ap (λ z. z ++ (one (membership_kind membership) ++ name class)) (expression a)
  expression (s.Dot token a x es) = then (expression a) (ap (λ z. one k.Dot ++ (name x ++ z)) (actuals es))
  expression (s.Qua token a class) = ap (λ z. z ++ (one k.Qua ++ name class)) (expression a)
  expression (s.Constant value token) = refl
  expression (s.Named x es) = ap (λ z. name x ++ z) (actuals es)
  expression (s.This token class) = refl
  expression (s.New token class es) = ap (λ z. one k.New ++ (name class ++ z)) (actuals es)
  expression (s.Parentheses token a) = ap (λ z. one k.Open ++ (z ++ one k.Close)) (expression a)

  actuals : (es : Expressions) → t.actuals es ≡ t.actuals (u.expressions es)
  actuals s.NoMore = refl
  actuals (s.Then e es) = ap (λ z. one k.Open ++ z) (then (expression e) (further es))

  further : (es : Expressions) → t.further_actuals es ≡ t.further_actuals (u.expressions es)
  further s.NoMore = refl
  further (s.Then e es) = ap (λ z. one k.Comma ++ z) (then (expression e) (further es))

-- ---- parts of declarations

typed : (x : TypeName) → t.type_tokens x ≡ t.type_tokens (u.typed x)
typed (type_name.Integer token) = refl
typed (type_name.Boolean token) = refl
typed (type_name.Character token) = refl
typed (type_name.Text token) = refl
typed (type_name.Reference token class) = refl

result : (x : Option TypeName) → t.result_tokens x ≡ t.result_tokens (option_map u.typed x)
result None = refl
result (Some x) = typed x

constant_value : (x : ConstantTree) → t.constant_tokens x ≡ t.constant_tokens (u.constant_value x)
constant_value (constant.Integer None token value) = refl
constant_value (constant.Integer (Some sign) token value) = refl
constant_value (constant.Character token value) = refl
constant_value (constant.Text token value) = refl
constant_value (constant.True token) = refl
constant_value (constant.False token) = refl

value : (x : Option ConstantTree) → t.value_tokens x ≡ t.value_tokens (option_map u.constant_value x)
value None = refl
value (Some x) = ap (λ z. one k.Equal ++ z) (constant_value x)

variable : (v : Variable) → t.variable_tokens v ≡ t.variable_tokens (u.variable v)
variable v = ap (λ z. name v.name ++ z) (value v.value)

bounds : (b : BoundPair) → t.bound_tokens b ≡ t.bound_tokens (u.bounds b)
bounds b = then (expression b.lower) (ap (λ z. one k.Colon ++ z) (expression b.upper))

arrays : (a : Arrayed) → t.array_tokens a ≡ t.array_tokens (u.arrays a)
arrays a = then (names_same a.names) (ap (λ z. one k.Open ++ (z ++ one k.Close)) (listed_same t.bound_tokens u.bounds bounds a.bounds))

moded : (m : Moded) → t.mode_tokens m ≡ t.mode_tokens (u.moded m)
moded m = ap (λ z. one (mode_kind m.mode) ++ (z ++ one k.Semicolon)) (names_same m.names)

specified : (x : Specified) → t.specified_tokens x ≡ t.specified_tokens (u.specified x)
specified (s.Simple x) = typed x
specified (s.Array x token) = ap (λ z. z ++ one k.Array) (typed x)
specified (s.Procedure x token) = ap (λ z. z ++ one k.Procedure) (result x)

specification : (x : Specification) → t.specification_tokens x ≡ t.specification_tokens (u.specification x)
specification x = then (specified x.kind) (ap (λ z. z ++ one k.Semicolon) (names_same x.names))

formals : (xs : List Identifier) → t.formal_tokens xs ≡ t.formal_tokens (map u.identifier xs)
formals [] = refl
formals (x ∷ xs) = ap (λ z. one k.Open ++ (z ++ one k.Close)) (names_same (x ∷ xs))

heading : (h : Heading) → t.heading_tokens h ≡ t.heading_tokens (u.heading h)
heading h =
    ap (λ z. name h.name ++ z) (then (formals h.formals) (ap (λ z. one k.Semicolon ++ z)
    (then (each_same t.mode_tokens u.moded moded h.modes) (each_same t.specification_tokens u.specification specification h.specifications))))

mark : (kind : TokenKind) (x : Option ℕ) → t.mark_tokens kind x ≡ t.mark_tokens kind (u.mark x)
mark kind None = refl
mark kind (Some i) = refl

protected : (p : Protected) → t.protection_tokens p ≡ t.protection_tokens (u.protected p)
protected p = then (mark k.Hidden p.hidden) (then (mark k.Protected p.protected) (ap (λ z. z ++ one k.Semicolon) (names_same p.names)))

virtually : (v : Virtual) → t.virtual_tokens v ≡ t.virtual_tokens (u.virtually v)
virtually v = then (result v.result) (ap (λ z. one k.Procedure ++ (z ++ one k.Semicolon)) (names_same v.names))

virtuals : (vs : List Virtual) → t.virtual_part vs ≡ t.virtual_part (map u.virtually vs)
virtuals [] = refl
virtuals (v ∷ vs) = ap (λ z. one k.Virtual ++ (one k.Colon ++ z)) (each_same t.virtual_tokens u.virtually virtually (v ∷ vs))

interface : (i : Interface) → t.interface_tokens i ≡ t.interface_tokens (u.interface i)
interface i = then (each_same t.protection_tokens u.protected protected i.protections) (virtuals i.virtuals)

class_prefix : (x : Option Identifier) → t.class_prefix x ≡ t.class_prefix (option_map u.identifier x)
class_prefix None = refl
class_prefix (Some x) = refl

-- ---- parts of statements

right_side : (r : RightSide) → t.right_side r ≡ t.right_side (u.right_side r)
right_side r = ap (λ z. one (assignment_kind r.sign) ++ z) (expression r.value)

element : (x : Element) → t.element x ≡ t.element (u.element x)
element (s.Once value) = expression value
element (s.Step start token step limit) = then (expression start) (ap (λ z. one k.Step ++ z) (then (expression step) (ap (λ z. one k.Until ++ z) (expression limit))))
element (s.While value token condition) = then (expression value) (ap (λ z. one k.While ++ z) (expression condition))

schedule : (x : Schedule) → t.schedule x ≡ t.schedule (u.schedule x)
schedule s.Now = refl
schedule (s.At token time prior) = ap (λ z. one k.At ++ z) (then (expression time) (mark k.Prior prior))
schedule (s.Delay token time prior) = ap (λ z. one k.Delay ++ z) (then (expression time) (mark k.Prior prior))
schedule (s.Before token process) = ap (λ z. one k.Before ++ z) (expression process)
schedule (s.After token process) = ap (λ z. one k.After ++ z) (expression process)

-- ---- statements, blocks and declarations

mutual
  statement : (x : Statement) → t.statement x ≡ t.statement (u.statement x)
  statement (s.Empty token) = refl
  statement (s.Compound b) = block b
  statement (s.Prefixed class es b) = ap (λ z. name class ++ z) (then (actuals es) (block b))
  statement (s.Inner token) = refl
  statement (s.Call e) = expression e
  statement (s.Assign left sides) = then (expression left) (each_same t.right_side u.right_side right_side sides)
  statement (s.Choose token e x y) = ap (λ z. one k.If ++ z) (then (expression e) (ap (λ z. one k.Then ++ z) (then (statement x) (branch k.Else y))))
  statement (s.Repeat token e x) = ap (λ z. one k.While ++ z) (then (expression e) (ap (λ z. one k.Do ++ z) (statement x)))
  statement (s.For token x sign assign elements y) =
      ap (λ z. one k.For ++ (name x ++ (one (assignment_kind sign) ++ z))) (then (listed_same t.element u.element element elements) (ap (λ z. one k.Do ++ z) (statement y)))
  statement (s.Inspect token e opening x end y) = ap (λ z. one k.Inspect ++ z) (then (expression e) (ap (λ z. one k.Do ++ z) (then (statement x) (branch k.Otherwise y))))
  statement (s.InspectWhen token e ws y) = ap (λ z. one k.Inspect ++ z) (then (expression e) (then (arms ws) (branch k.Otherwise y)))
  statement (s.Activate token word e times) = ap (λ z. one (activation_kind word) ++ z) (then (expression e) (schedule times))

  branch : (kind : TokenKind) (xs : Statements) → t.branch kind xs ≡ t.branch kind (u.statements xs)
  branch kind s.NoStatement = refl
  branch kind (s.Also x xs) = ap (λ z. one kind ++ z) (then (statement x) (branch kind xs))

  arms : (ws : Arms) → t.arms ws ≡ t.arms (u.arms ws)
  arms s.NoArm = refl
  arms (s.When token class opening x end ws) = ap (λ z. one k.When ++ (name class ++ (one k.Do ++ z))) (then (statement x) (arms ws))

  block : (b : Block) → t.block b ≡ t.block (u.block b)
  block (s.Begin token ds xs end) = ap (λ z. one k.Begin ++ z) (then (declarations ds) (ap (λ z. z ++ one k.End) (statements xs)))

  declarations : (ds : Declarations) → t.declarations ds ≡ t.declarations (u.declarations ds)
  declarations s.NoDeclaration = refl
  declarations (s.With d ds) = then (declaration d) (ap (λ z. one k.Semicolon ++ z) (declarations ds))

  statements : (xs : Statements) → t.statements xs ≡ t.statements (u.statements xs)
  statements s.NoStatement = refl
  statements (s.Also x xs) = then (statement x) (further_statements xs)

  further_statements : (xs : Statements) → t.further_statements xs ≡ t.further_statements (u.statements xs)
  further_statements s.NoStatement = refl
  further_statements (s.Also x xs) = ap (λ z. one k.Semicolon ++ z) (then (statement x) (further_statements xs))

  declaration : (d : Declaration) → t.declaration d ≡ t.declaration (u.declaration d)
  declaration (s.Variables x vs) = then (typed x) (listed_same t.variable_tokens u.variable variable vs)
  declaration (s.Arrays x token list) = then (typed x) (ap (λ z. one k.Array ++ z) (listed_same t.array_tokens u.arrays arrays list))
  declaration (s.DeclareProcedure x token h y end) = then (result x) (ap (λ z. one k.Procedure ++ z) (then (heading h) (statement y)))
  declaration (s.DeclareClass x token h i y end) = then (class_prefix x) (ap (λ z. one k.Class ++ z) (then (heading h) (then (interface i) (statement y))))

prefix : (p : Option Prefix) → t.block_prefix p ≡ t.block_prefix (option_map u.block_prefix p)
prefix None = refl
prefix (Some p) = ap (λ z. name p.class ++ z) (actuals p.arguments)

program : (p : Program) → t.program p ≡ t.program (unnumbered p)
unfolding t.program unnumbered
program p = then (prefix p.prefix) (block p.block)

pub no_numbers : (p : Program) → canonical_text p ≡ canonical_text (unnumbered p)
unfolding canonical_text
no_numbers p = ap text_of (program p)
