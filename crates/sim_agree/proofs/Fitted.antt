-- What is known of each text of a program beside where its parts stand: a dot is another token than the attribute behind it, `inner` stands
-- in the body of a class alone, and a connection connects the class that is looked up in front of it.
use Rattle.std.proofs.Common.{◌≡◌, ◌≤◌, ◌+◌, ℕ, zero, suc, Bool, true, false, List, [], ◌∷◌, ◌++◌, Option, Some, None, refl, subst, arith}
use Rattle.std.specs.Prelude.{nat_eq, slice_get}
use Rattle.std.proofs.lemmas.Bool.Decides.{nat_tests}
use Rattle.sim_tree.specs.declared.expr.Identifier.{Identifier}
use Rattle.sim_tree.specs.declared.stmt.TypeName.{TypeName}
use Rattle.sim_tree.specs.declared.stmt.TypeName.TheVariants as type_name
use Rattle.sim_tree.specs.declared.stmt.Variable.{Variable}
use Rattle.sim_tree.specs.Named.{all_named, named}
use Rattle.sim_tree.specs.Order.{Ascends, Behind, Spot, Token, in_bounds, in_each, in_element, in_expression, in_name, in_result, in_schedule, in_segment, in_side, in_type, in_variable, tokens, in_prefix}
use Rattle.sim_agree.specs.Order.{InOrder, in_arms, in_block, in_declaration, in_declarations, in_heading, in_specification, in_specified, in_statement, in_statements, in_virtual}
use Rattle.sim_tree.specs.Syntax.{Also, Arms, Arrayed, Arrays, Begin, Block, BoundPair, Declaration, Declarations, DeclareClass, DeclareProcedure, Element, Expression, Expressions, Heading, Interface, NoArm, NoDeclaration, NoStatement, RightSide, Schedule, Specification, Specified as Specifier, Statement, Statements, Variables, Virtual, When, With, Prefix}
use Rattle.sim_tree.specs.Syntax as syntax
use Rattle.sim_scope.specs.declared.types.StandardPrefix.{StandardPrefix}
use Rattle.sim_scope.specs.declared.types.StandardPrefix.TheVariants as prefixes
use Rattle.sim_scope.specs.declared.outcome.Extent.TheVariants as extent
use Rattle.sim_scope.specs.declared.scopes.Denotation.{Denotation}
use Rattle.sim_scope.specs.declared.scopes.Denotation.TheVariants as denotation
use Rattle.sim_scope.specs.declared.types.Position.{Position}
use Rattle.sim_scope.specs.declared.types.Position.TheVariants.{ClassBody, ClassStatement, Inside}
use Rattle.sim_scope.specs.declared.types.SimType.{SimType}
use Rattle.sim_scope.specs.declared.types.SimType.TheVariants as t
use Rattle.sim_scope.specs.Access.{block_at}
use Rattle.sim_scope.specs.Building.{Breaks, Brings, Closes, Declares, DeclaresClass, DeclaresProcedure, Headed, Inner, Mark, Moded, Opens, Parameter, Prefixes, Protects, Provides, Qualifies, Specified}
use Rattle.sim_scope.specs.Declare.{declaring, inner_marks, prefixed_marks}
use Rattle.sim_scope.specs.Expressions.{judge_side}
use Rattle.sim_scope.specs.Levels.{base}
use Rattle.sim_scope.specs.Scopes.{binding}
use Rattle.sim_scope.specs.Source.{Source}
use Rattle.sim_scope.specs.Walk.{arms_events, begin_of, block_events, class_events, declaration_events, declarations_events, program_events, statement_events, statements_events, whole_events}
use Rattle.inspect_types.specs.Connecting.{Connecting, Connects, Looks, Names, class_of_name as connected_name, class_of_type as connected_type, connections}
use Rattle.sim_meaning.specs.Texts.{BlockText, ClassText, ProcedureText, Text, arms_texts, block_texts, declaration_texts, declarations_texts, program_texts, statement_texts, statements_texts, text, prefix_texts, PrefixedText, prefixed_texts}
use Rattle.sim_agree.specs.Places.{Each, class_of_name, class_of_type}
use Rattle.sim_agree.proofs.Groups.{NoBreaks}
use Rattle.sim_agree.proofs.StandardPrefixes.{behind_prefix, brought_texts}

-- ---- what is known

-- the connection that begins at a token connects this class or none
abbrev pub ConnectsAt : Source → (opening : ℕ) → (class : Option ℕ) → Type 0
ConnectsAt s i class = (k : ℕ) → block_at s.tables i ≡ Some k → base s.tables k ≡ class

-- what is said of a connection by its first token and the class that was looked up last
abbrev pub Meets : Type 1
Meets = (opening : ℕ) → (class : Option ℕ) → Type 0

-- it is said of each connection
abbrev pub AllMeet : Source → Meets → (next : Option ℕ) → List Connecting → Type 0
AllMeet s C n [] = Unit {0}
AllMeet s C n (Looks e ∷ es) = AllMeet s C (connected_type s.tables (judge_side s.tables extent.Statement e).value.ty) es
AllMeet s C n (Names x ∷ es) = AllMeet s C (connected_name s.tables (binding s.tables x.token.0 x.name)) es
AllMeet s C n (Connects i ∷ es) = C i n × AllMeet s C n es

-- each connection connects what was looked up last
abbrev pub AllConnect : Source → (next : Option ℕ) → List Connecting → Type 0
AllConnect s n es = AllMeet s (ConnectsAt s) n es

-- nothing is said
abbrev pub Whatever : Meets
Whatever i class = Unit {0}

pub all_whatever : (s : Source) (n : Option ℕ) (es : List Connecting) → AllMeet s Whatever n es
all_whatever s n [] = tt
all_whatever s n (Looks e ∷ es) = all_whatever s (connected_type s.tables (judge_side s.tables extent.Statement e).value.ty) es
all_whatever s n (Names x ∷ es) = all_whatever s (connected_name s.tables (binding s.tables x.token.0 x.name)) es
all_whatever s n (Connects i ∷ es) = (tt, all_whatever s n es)

-- a dot is another token than the attribute behind it
abbrev mutual
  pub DotsExpression : Expression → Type 0
  DotsExpression (syntax.If i a b c) = DotsExpression a × DotsExpression b × DotsExpression c
  DotsExpression (syntax.Binary operator i a b) = DotsExpression a × DotsExpression b
  DotsExpression (syntax.Not i a) = DotsExpression a
  DotsExpression (syntax.Signed sign i a) = DotsExpression a
  DotsExpression (syntax.Member m i a class) = DotsExpression a
  DotsExpression (syntax.Dot i a name es) = DotsExpression a × (nat_eq i name.token.0 ≡ false) × DotsExpressions es
  DotsExpression (syntax.Qua i a class) = DotsExpression a
  DotsExpression (syntax.Constant literal i) = Unit {0}
  DotsExpression (syntax.Named name es) = DotsExpressions es
  DotsExpression (syntax.This i class) = Unit {0}
  DotsExpression (syntax.New i class es) = DotsExpressions es
  DotsExpression (syntax.Parentheses i a) = DotsExpression a

  pub DotsExpressions : Expressions → Type 0
  DotsExpressions syntax.NoMore = Unit {0}
  DotsExpressions (syntax.Then e es) = DotsExpression e × DotsExpressions es

abbrev pub DotsSide : RightSide → Type 0
DotsSide x = DotsExpression x.value

abbrev pub DotsElement : Element → Type 0
DotsElement (syntax.Once a) = DotsExpression a
DotsElement (syntax.Step a i b c) = DotsExpression a × DotsExpression b × DotsExpression c
DotsElement (syntax.While a i b) = DotsExpression a × DotsExpression b

abbrev pub DotsSchedule : Schedule → Type 0
DotsSchedule syntax.Now = Unit {0}
DotsSchedule (syntax.At i a prior) = DotsExpression a
DotsSchedule (syntax.Delay i a prior) = DotsExpression a
DotsSchedule (syntax.Before i a) = DotsExpression a
DotsSchedule (syntax.After i a) = DotsExpression a

abbrev pub DotsBounds : BoundPair → Type 0
DotsBounds b = DotsExpression b.lower × DotsExpression b.upper

abbrev pub DotsSegment : Arrayed → Type 0
DotsSegment a = Each DotsBounds a.bounds

abbrev pub DotsDeclaration : Declaration → Type 0
DotsDeclaration (Arrays type i segments) = Each DotsSegment segments
DotsDeclaration _ = Unit {0}

abbrev pub DotsDeclarations : Declarations → Type 0
DotsDeclarations NoDeclaration = Unit {0}
DotsDeclarations (With d ds) = DotsDeclaration d × DotsDeclarations ds

-- `inner` says that `inner` may stand there
abbrev pub Given : Bool → Type 0
Given true = Unit {0}
Given false = ⊥

abbrev mutual
  pub FittedStatement : Source → Meets → (inner : Bool) → Statement → Type 0
  FittedStatement s C w (syntax.Empty i) = Unit {0}
  FittedStatement s C w (syntax.Compound b) = FittedBlock s C w b
  FittedStatement s C w (syntax.Call e) = DotsExpression e
  FittedStatement s C w (syntax.Assign e sides) = DotsExpression e × Each DotsSide sides
  FittedStatement s C w (syntax.Choose i e a b) = DotsExpression e × FittedStatement s C w a × FittedStatements s C w b
  FittedStatement s C w (syntax.Repeat i e a) = DotsExpression e × FittedStatement s C w a
  FittedStatement s C w (syntax.For i name sign j elements a) = Each DotsElement elements × FittedStatement s C w a
  FittedStatement s C w (syntax.Prefixed class es b) = DotsExpressions es
  FittedStatement s C w (syntax.Inner i) = Given w
  FittedStatement s C w (syntax.Inspect i e opening a end b) =
      DotsExpression e × C opening (class_of_type s.tables (judge_side s.tables extent.Statement e).value.ty) × FittedStatement s C false a × FittedStatements s C w b
  FittedStatement s C w (syntax.InspectWhen i e arms b) = DotsExpression e × FittedArms s C arms × FittedStatements s C w b
  FittedStatement s C w (syntax.Activate i word e schedule) = DotsExpression e × DotsSchedule schedule

  pub FittedArms : Source → Meets → Arms → Type 0
  FittedArms s C NoArm = Unit {0}
  FittedArms s C (When i class opening a end more) = C opening (class_of_name s.tables (binding s.tables class.token.0 class.name)) × FittedStatement s C false a × FittedArms s C more

  pub FittedStatements : Source → Meets → (inner : Bool) → Statements → Type 0
  FittedStatements s C w NoStatement = Unit {0}
  FittedStatements s C w (Also a more) = FittedStatement s C w a × FittedStatements s C w more

  -- a block is a text of its own
  pub FittedBlock : Source → Meets → (inner : Bool) → Block → Type 0
  FittedBlock s C w (Begin i NoDeclaration ss end) = FittedStatements s C w ss
  FittedBlock s C w (Begin i (With d ds) ss end) = Unit {0}

abbrev pub TextFitted : Source → Meets → Text → Type 0
TextFitted s C (BlockText i ds ss) = DotsDeclarations ds × FittedStatements s C false ss
TextFitted s C (ProcedureText result h a) = FittedStatement s C false a
TextFitted s C (ClassText prefix h ds ss) = DotsDeclarations ds × FittedStatements s C true ss
TextFitted s C (PrefixedText class es ds ss) = DotsDeclarations ds × FittedStatements s C false ss
TextFitted s C _ = Unit {0}

abbrev AllFitted : Source → Meets → List Text → Type 0
AllFitted s C [] = Unit {0}
AllFitted s C (x ∷ xs) = TextFitted s C x × AllFitted s C xs

both_fitted : (s : Source) (C : Meets) (xs ys : List Text) → AllFitted s C xs → AllFitted s C ys → AllFitted s C (xs ++ ys)
both_fitted s C [] ys a b = b
both_fitted s C (x ∷ xs) ys a b = (a.0, both_fitted s C xs ys a.1 b)

-- ---- one part after the other

both_unbroken : (xs ys : List Mark) → NoBreaks (xs ++ ys) → NoBreaks xs × NoBreaks ys
both_unbroken [] ys h = (tt, h)
both_unbroken (Breaks token rule ∷ xs) ys h = absurd h
both_unbroken (Opens k text first ∷ xs) ys h = both_unbroken xs ys h
both_unbroken (Closes end ∷ xs) ys h = both_unbroken xs ys h
both_unbroken (Declares x e ∷ xs) ys h = both_unbroken xs ys h
both_unbroken (DeclaresProcedure x result ∷ xs) ys h = both_unbroken xs ys h
both_unbroken (DeclaresClass x ∷ xs) ys h = both_unbroken xs ys h
both_unbroken (Parameter x ∷ xs) ys h = both_unbroken xs ys h
both_unbroken (Moded x m ∷ xs) ys h = both_unbroken xs ys h
both_unbroken (Specified x k ty ∷ xs) ys h = both_unbroken xs ys h
both_unbroken (Headed x ∷ xs) ys h = both_unbroken xs ys h
both_unbroken (Qualifies class ∷ xs) ys h = both_unbroken xs ys h
both_unbroken (Prefixes class ∷ xs) ys h = both_unbroken xs ys h
both_unbroken (Brings which token ∷ xs) ys h = both_unbroken xs ys h
both_unbroken (Provides which name token ∷ xs) ys h = both_unbroken xs ys h
both_unbroken (Protects hides keeps x ∷ xs) ys h = both_unbroken xs ys h
both_unbroken (Inner token ∷ xs) ys h = both_unbroken xs ys h

-- what was looked up last, and what is connected then
abbrev Connected : Source → Meets → List Connecting → Type 0
Connected s C es = (n : Option ℕ) × AllMeet s C n es

both_connect : (s : Source) (C : Meets) (xs ys : List Connecting) (n : Option ℕ) → AllMeet s C n (xs ++ ys) → AllMeet s C n xs × Connected s C ys
both_connect s C [] ys n h = (tt, (n, h))
both_connect s C (Looks e ∷ xs) ys n h = both_connect s C xs ys (connected_type s.tables (judge_side s.tables extent.Statement e).value.ty) h
both_connect s C (Names x ∷ xs) ys n h = both_connect s C xs ys (connected_name s.tables (binding s.tables x.token.0 x.name)) h
both_connect s C (Connects i ∷ xs) ys n h = let q = both_connect s C xs ys n h.1 in ((h.0, q.0), q.1)

parts_connect : (s : Source) (C : Meets) (xs ys : List Connecting) → Connected s C (xs ++ ys) → Connected s C xs × Connected s C ys
parts_connect s C xs ys c = let q = both_connect s C xs ys c.0 c.1 in ((c.0, q.0), q.1)

same_type : (s : Source) (o : Option SimType) → connected_type s.tables o ≡ class_of_type s.tables o
same_type s None = refl
same_type s (Some (t.Ref class)) = refl
same_type s (Some t.Integer) = refl
same_type s (Some t.Boolean) = refl
same_type s (Some t.Character) = refl
same_type s (Some t.Text) = refl
same_type s (Some t.NoneType) = refl

same_name : (s : Source) (o : Option Denotation) → connected_name s.tables o ≡ class_of_name s.tables o
same_name s None = refl
same_name s (Some (denotation.Declared d)) = refl
same_name s (Some (denotation.Standard k)) = refl

-- the tokens of what follows ascend
abbrev Rest : List Spot → Type 0
Rest l = (from : ℕ) × Ascends from l

mutual
  expression_dots : (e : Expression) (ns : List ℕ) (l : List Spot) (from : ℕ) → Ascends from (tokens (named e ns) l) → DotsExpression e × Rest (tokens ns l)
  expression_dots (syntax.If i a b c) ns l from h =
      let p = expression_dots a (named b (named c ns)) l (i + 1) h.1 in
      let q = expression_dots b (named c ns) l p.1.0 p.1.1 in
      let r = expression_dots c ns l q.1.0 q.1.1 in ((p.0, q.0, r.0), r.1)
  expression_dots (syntax.Binary operator i a b) ns l from h = let p = expression_dots a (i ∷ named b ns) l from h in let q = expression_dots b ns l (i + 1) p.1.1.1 in ((p.0, q.0), q.1)
  expression_dots (syntax.Not i a) ns l from h = expression_dots a ns l (i + 1) h.1
  expression_dots (syntax.Signed sign i a) ns l from h = expression_dots a ns l (i + 1) h.1
  expression_dots (syntax.Member m i a class) ns l from h = let p = expression_dots a (i ∷ class.token.0 ∷ ns) l from h in (p.0, (class.token.0 + 1, p.1.1.1.1))
  expression_dots (syntax.Dot i a name es) ns l from h =
      let p = expression_dots a (i ∷ name.token.0 ∷ all_named es ns) l from h in
      let q = expressions_dots es ns l (name.token.0 + 1) p.1.1.1.1 in
      let lt : i + 1 ≤ name.token.0 = p.1.1.1.0 in
      let apart : nat_eq i name.token.0 ≡ false = grind (arith, nat_tests) in ((p.0, apart, q.0), q.1)
  expression_dots (syntax.Qua i a class) ns l from h = let p = expression_dots a (i ∷ class.token.0 ∷ ns) l from h in (p.0, (class.token.0 + 1, p.1.1.1.1))
  expression_dots (syntax.Constant literal i) ns l from h = (tt, (i + 1, h.1))
  expression_dots (syntax.Named name es) ns l from h = expressions_dots es ns l (name.token.0 + 1) h.1
  expression_dots (syntax.This i class) ns l from h = (tt, (class.token.0 + 1, h.1.1))
  expression_dots (syntax.New i class es) ns l from h = expressions_dots es ns l (class.token.0 + 1) h.1.1
  expression_dots (syntax.Parentheses i a) ns l from h = expression_dots a ns l (i + 1) h.1

  expressions_dots : (es : Expressions) (ns : List ℕ) (l : List Spot) (from : ℕ) → Ascends from (tokens (all_named es ns) l) → DotsExpressions es × Rest (tokens ns l)
  expressions_dots syntax.NoMore ns l from h = (tt, (from, h))
  expressions_dots (syntax.Then e es) ns l from h = let p = expression_dots e (all_named es ns) l from h in let q = expressions_dots es ns l p.1.0 p.1.1 in ((p.0, q.0), q.1)

one_dots : (e : Expression) (l : List Spot) (from : ℕ) → Ascends from (in_expression e l) → DotsExpression e × Rest l
one_dots e l from h = expression_dots e [] l from h

each_dots : {A : Type 0} (f : A → List Spot → List Spot) (P : A → Type 0) → ((a : A) (l : List Spot) (from : ℕ) → Ascends from (f a l) → P a × Rest l) → (xs : List A) (l : List Spot) (from : ℕ) → Ascends from (in_each f xs l) → Each P xs × Rest l
each_dots f P one [] l from h = (tt, (from, h))
each_dots f P one (x ∷ xs) l from h = let p = one x (in_each f xs l) from h in let q = each_dots f P one xs l p.1.0 p.1.1 in ((p.0, q.0), q.1)

side_dots : (x : RightSide) (l : List Spot) (from : ℕ) → Ascends from (in_side x l) → DotsSide x × Rest l
side_dots x l from h = one_dots x.value l from h

schedule_dots : (x : Schedule) (l : List Spot) (from : ℕ) → Ascends from (in_schedule x l) → DotsSchedule x × Rest l
schedule_dots syntax.Now l from h = (tt, (from, h))
schedule_dots (syntax.At i a prior) l from h = one_dots a l from h
schedule_dots (syntax.Delay i a prior) l from h = one_dots a l from h
schedule_dots (syntax.Before i a) l from h = one_dots a l from h
schedule_dots (syntax.After i a) l from h = one_dots a l from h

element_dots : (x : Element) (l : List Spot) (from : ℕ) → Ascends from (in_element x l) → DotsElement x × Rest l
element_dots (syntax.Once a) l from h = one_dots a l from h
element_dots (syntax.Step a i b c) l from h =
    let p = one_dots a (in_expression b (in_expression c l)) from h in
    let q = one_dots b (in_expression c l) p.1.0 p.1.1 in
    let r = one_dots c l q.1.0 q.1.1 in ((p.0, q.0, r.0), r.1)
element_dots (syntax.While a i b) l from h = let p = one_dots a (in_expression b l) from h in let q = one_dots b l p.1.0 p.1.1 in ((p.0, q.0), q.1)

bounds_dots : (b : BoundPair) (l : List Spot) (from : ℕ) → Ascends from (in_bounds b l) → DotsBounds b × Rest l
bounds_dots b l from h = let p = one_dots b.lower (in_expression b.upper l) from h in let q = one_dots b.upper l p.1.0 p.1.1 in ((p.0, q.0), q.1)

abbrev Any : {A : Type 0} → A → Type 0
Any a = Unit {0}

name_passes : (x : Identifier) (l : List Spot) (from : ℕ) → Ascends from (in_name x l) → Any x × Rest l
name_passes x l from h = (tt, (x.token.0 + 1, h.1))

variable_passes : (x : Variable) (l : List Spot) (from : ℕ) → Ascends from (in_variable x l) → Any x × Rest l
variable_passes x l from h = (tt, (x.name.token.0 + 1, h.1))

segment_dots : (a : Arrayed) (l : List Spot) (from : ℕ) → Ascends from (in_segment a l) → DotsSegment a × Rest l
segment_dots a l from h = let p = each_dots in_name Any name_passes a.names (in_each in_bounds a.bounds l) from h in each_dots in_bounds DotsBounds bounds_dots a.bounds l p.1.0 p.1.1

type_passes : (type : TypeName) (l : List Spot) (from : ℕ) → Ascends from (in_type type l) → Rest l
type_passes (type_name.Integer i) l from h = (from, h)
type_passes (type_name.Boolean i) l from h = (from, h)
type_passes (type_name.Character i) l from h = (from, h)
type_passes (type_name.Text i) l from h = (from, h)
type_passes (type_name.Reference i class) l from h = (class.token.0 + 1, h.1)

prefix_passes : (prefix : Option Identifier) (l : List Spot) (from : ℕ) → Ascends from (in_prefix prefix l) → Rest l
prefix_passes None l from h = (from, h)
prefix_passes (Some class) l from h = (class.token.0 + 1, h.1)

result_passes : (result : Option TypeName) (l : List Spot) (from : ℕ) → Ascends from (in_result result l) → Rest l
result_passes None l from h = (from, h)
result_passes (Some type) l from h = type_passes type l from h

abbrev AnyVirtual : Virtual → Type 0
AnyVirtual v = Unit {0}

virtual_passes : (v : Virtual) (l : List Spot) (from : ℕ) → Ascends from (in_virtual v l) → AnyVirtual v × Rest l
virtual_passes v l from h =
    let r = result_passes v.result (in_each in_name v.names l) from h in
    let x = each_dots in_name Any name_passes v.names l r.0 r.1 in (tt, x.1)

abbrev AnySpecification : Specification → Type 0
AnySpecification x = Unit {0}

specification_passes : (x : Specification) (l : List Spot) (from : ℕ) → Ascends from (in_specification x l) → AnySpecification x × Rest l
specification_passes x l from h = go x.kind h
  where
    go : (k : Specifier) → Ascends from (in_specified k l) → Unit {0} × Rest l
    go (syntax.Simple type) h = (tt, type_passes type l from h)
    go (syntax.Array type i) h = (tt, type_passes type l from h)
    go (syntax.Procedure result i) h = (tt, result_passes result l from h)

heading_passes : (g : Heading) (l : List Spot) (from : ℕ) → Ascends from (in_heading g l) → Rest l
heading_passes g l from h =
    let f = each_dots in_name Any name_passes g.formals (in_each in_specification g.specifications l) from h in
    (each_dots in_specification AnySpecification specification_passes g.specifications l f.1.0 f.1.1).1

-- ---- the walk over a program

-- the body of a class is read as its own text, where it is a block
abbrev InClass : Position → Statement → Type 0
InClass ClassBody (syntax.Compound b) = ⊥
InClass _ a = Unit {0}

abbrev NoBody : Position → Type 0
NoBody ClassBody = ⊥
NoBody _ = Unit {0}

in_class : (q : Position) (a : Statement) → NoBody q → InClass q a
in_class ClassBody a n = absurd n
in_class ClassStatement a n = tt
in_class Inside a n = tt

-- where `inner` may stand
abbrev Allows : Position → Type 0
Allows ClassStatement = Unit {0}
Allows _ = ⊥

-- behind the texts of a prefix
fitted_prefix : (s : Source) (C : Meets) (prefix : Option Identifier) (xs : List Text) → AllFitted s C xs → AllFitted s C (prefix_texts prefix ++ xs)
fitted_prefix s C prefix xs a = behind_prefix (AllFitted s C) prefix xs a go
  where
    go : (p : StandardPrefix) → AllFitted s C (brought_texts p ++ xs)
    go prefixes.Simset = (tt, (tt, (tt, a)))
    go prefixes.Simulation = (tt, (tt, (tt, (tt, a))))

module _ (s : Source) (C : Meets) where
  mutual
    unfolding declaring inner_marks connections

    statement_fitted : (q : Position) (w : Bool) → (Allows q → Given w) → (a : Statement) → InClass q a → NoBreaks (statement_events declaring q a) → Connected s C (statement_events connections q a) → (l : List Spot) (from : ℕ) → Ascends from (in_statement a l)
        → FittedStatement s C w a × AllFitted s C (statement_texts a) × Rest l
    statement_fitted q w f (syntax.Empty i) c b k l from h = (tt, tt, (from, h))
    statement_fitted ClassBody w f (syntax.Compound x) c b k l from h = absurd c
    statement_fitted ClassStatement w f (syntax.Compound x) c b k l from h = block_fitted w x b k l from h
    statement_fitted Inside w f (syntax.Compound x) c b k l from h = block_fitted w x b k l from h
    statement_fitted ClassBody w f (syntax.Inner i) c b k l from h = absurd b
    statement_fitted ClassStatement w f (syntax.Inner i) c b k l from h = (f tt, tt, (i + 1, h.1))
    statement_fitted Inside w f (syntax.Inner i) c b k l from h = absurd b
    statement_fitted q w f (syntax.Call e) c b k l from h = let d = one_dots e l from h in (d.0, tt, d.1)
    statement_fitted q w f (syntax.Assign e sides) c b k l from h =
        let d = one_dots e (in_each in_side sides l) from h in
        let g = each_dots in_side DotsSide side_dots sides l d.1.0 d.1.1 in ((d.0, g.0), tt, g.1)
    statement_fitted q w f (syntax.Choose i e a other) c b k l from h =
        let n = both_unbroken (statement_events declaring Inside a) (statements_events declaring Inside other) b in
        let j = parts_connect s C (statement_events connections Inside a) (statements_events connections Inside other) k in
        let d = one_dots e (in_statement a (in_statements other l)) from h in
        let x = statement_fitted Inside w (λ z. absurd z) a tt n.0 j.0 (in_statements other l) d.1.0 d.1.1 in
        let y = statements_fitted Inside w (λ z. absurd z) other tt n.1 j.1 l x.2.0 x.2.1 in
        ((d.0, x.0, y.0), both_fitted s C (statement_texts a) (statements_texts other) x.1 y.1, y.2)
    statement_fitted q w f (syntax.Repeat i e a) c b k l from h =
        let d = one_dots e (in_statement a l) from h in
        let x = statement_fitted Inside w (λ z. absurd z) a tt b k l d.1.0 d.1.1 in ((d.0, x.0), x.1, x.2)
    statement_fitted q w f (syntax.For i name sign j es a) c b k l from h =
        let d = each_dots in_element DotsElement element_dots es (in_statement a l) (name.token.0 + 1) h.1 in
        let x = statement_fitted Inside w (λ z. absurd z) a tt b k l d.1.0 d.1.1 in ((d.0, x.0), x.1, x.2)
    statement_fitted q w f (syntax.Inspect i e opening a end other) c b k l from h =
        let n = both_unbroken (statement_events declaring Inside a) (Closes end ∷ statements_events declaring Inside other) b in
        let ty : Option SimType = (judge_side s.tables extent.Statement e).value.ty in
        let j = parts_connect s C (statement_events connections Inside a) (statements_events connections Inside other) (connected_type s.tables ty, k.1.1) in
        let d = one_dots e (Token opening ∷ in_statement a (Behind end ∷ in_statements other l)) from h in
        let x = statement_fitted Inside false (λ z. z) a tt n.0 j.0 (Behind end ∷ in_statements other l) (opening + 1) d.1.1.1 in
        let y = statements_fitted Inside w (λ z. absurd z) other tt n.1 j.1 l end x.2.1.1 in
        ((d.0, subst (C opening) (same_type s ty) k.1.0, x.0, y.0), (tt, both_fitted s C (statement_texts a) (statements_texts other) x.1 y.1), y.2)
    statement_fitted q w f (syntax.InspectWhen i e arms other) c b k l from h =
        let n = both_unbroken (arms_events declaring arms) (statements_events declaring Inside other) b in
        let j = parts_connect s C (arms_events connections arms) (statements_events connections Inside other) k in
        let d = one_dots e (in_arms arms (in_statements other l)) from h in
        let x = arms_fitted arms n.0 j.0 (in_statements other l) d.1.0 d.1.1 in
        let y = statements_fitted Inside w (λ z. absurd z) other tt n.1 j.1 l x.2.0 x.2.1 in
        ((d.0, x.0, y.0), both_fitted s C (arms_texts arms) (statements_texts other) x.1 y.1, y.2)
    statement_fitted q w f (syntax.Prefixed class es x) c b k l from h = prefixed_fitted class es x b k l from h
    statement_fitted q w f (syntax.Activate i word e schedule) c b k l from h =
        let d = one_dots e (in_schedule schedule l) (i + 1) h.1 in
        let g = schedule_dots schedule l d.1.0 d.1.1 in ((d.0, g.0), tt, g.1)

    arms_fitted : (arms : Arms) → NoBreaks (arms_events declaring arms) → Connected s C (arms_events connections arms) → (l : List Spot) (from : ℕ) → Ascends from (in_arms arms l) → FittedArms s C arms × AllFitted s C (arms_texts arms) × Rest l
    arms_fitted NoArm b k l from h = (tt, tt, (from, h))
    arms_fitted (When i class opening a end more) b k l from h =
        let n = both_unbroken (statement_events declaring Inside a ++ Closes end ∷ []) (arms_events declaring more) b in
        let m = both_unbroken (statement_events declaring Inside a) (Closes end ∷ []) n.0 in
        let o : Option Denotation = binding s.tables class.token.0 class.name in
        let j = parts_connect s C (statement_events connections Inside a ++ []) (arms_events connections more) (connected_name s.tables o, k.1.1) in
        let g = parts_connect s C (statement_events connections Inside a) [] j.0 in
        let x = statement_fitted Inside false (λ z. z) a tt m.0 g.0 (Behind end ∷ in_arms more l) (opening + 1) h.1.1 in
        let y = arms_fitted more n.1 j.1 l end x.2.1.1 in
        ((subst (C opening) (same_name s o) k.1.0, x.0, y.0), (tt, both_fitted s C (statement_texts a) (arms_texts more) x.1 y.1), y.2)

    statements_fitted : (q : Position) (w : Bool) → (Allows q → Given w) → (ss : Statements) → NoBody q → NoBreaks (statements_events declaring q ss) → Connected s C (statements_events connections q ss) → (l : List Spot) (from : ℕ) → Ascends from (in_statements ss l)
        → FittedStatements s C w ss × AllFitted s C (statements_texts ss) × Rest l
    statements_fitted q w f NoStatement c b k l from h = (tt, tt, (from, h))
    statements_fitted q w f (Also a more) c b k l from h =
        let n = both_unbroken (statement_events declaring q a) (statements_events declaring q more) b in
        let j = parts_connect s C (statement_events connections q a) (statements_events connections q more) k in
        let x = statement_fitted q w f a (in_class q a c) n.0 j.0 (in_statements more l) from h in
        let y = statements_fitted q w f more c n.1 j.1 l x.2.0 x.2.1 in
        ((x.0, y.0), both_fitted s C (statement_texts a) (statements_texts more) x.1 y.1, y.2)

    prefixed_fitted : (class : Identifier) (es : Expressions) (x : Block) → NoBreaks (prefixed_marks class (begin_of x) ++ whole_events declaring x) → Connected s C (whole_events connections x) → (l : List Spot) (from : ℕ) → Ascends from (in_expression (syntax.Named class es) (in_block x l)) → DotsExpressions es × AllFitted s C (prefixed_texts class es x) × Rest l
    prefixed_fitted class es (Begin i ds ss end) b k l from h =
        let d = one_dots (syntax.Named class es) (in_block (Begin i ds ss end) l) from h in
        let o = both_unbroken (prefixed_marks class i) (declarations_events declaring ds ++ (statements_events declaring Inside ss ++ Closes end ∷ [])) b in
        let n = both_unbroken (declarations_events declaring ds) (statements_events declaring Inside ss ++ Closes end ∷ []) o.1 in
        let m = both_unbroken (statements_events declaring Inside ss) (Closes end ∷ []) n.1 in
        let j = parts_connect s C (declarations_events connections ds) (statements_events connections Inside ss ++ []) k in
        let g = parts_connect s C (statements_events connections Inside ss) [] j.1 in
        let x = declarations_fitted ds n.0 j.0 (in_statements ss (Behind end ∷ l)) (i + 1) d.1.1.1 in
        let y = statements_fitted Inside false (λ z. z) ss tt m.0 g.0 (Behind end ∷ l) x.2.0 x.2.1 in
        (d.0, ((x.0, y.0), fitted_prefix s C (Some class) (declarations_texts ds ++ statements_texts ss) (both_fitted s C (declarations_texts ds) (statements_texts ss) x.1 y.1)), (end, y.2.1.1))

    block_fitted : (w : Bool) (x : Block) → NoBreaks (block_events declaring x) → Connected s C (block_events connections x) → (l : List Spot) (from : ℕ) → Ascends from (in_block x l) → FittedBlock s C w x × AllFitted s C (block_texts x) × Rest l
    block_fitted w (Begin i NoDeclaration ss end) b k l from h =
        let x = statements_fitted Inside w (λ z. absurd z) ss tt b k (Behind end ∷ l) (i + 1) h.1 in (x.0, x.1, (end, x.2.1.1))
    block_fitted w (Begin i (With d ds) ss end) b k l from h =
        let n = both_unbroken (declarations_events declaring (With d ds) ++ statements_events declaring Inside ss) (Closes end ∷ []) b in
        let m = both_unbroken (declarations_events declaring (With d ds)) (statements_events declaring Inside ss) n.0 in
        let o = both_unbroken (declaration_events declaring d) (declarations_events declaring ds) m.0 in
        let g = parts_connect s C (declarations_events connections (With d ds) ++ statements_events connections Inside ss) [] k in
        let j = parts_connect s C (declarations_events connections (With d ds)) (statements_events connections Inside ss) g.0 in
        let w = parts_connect s C (declaration_events connections d) (declarations_events connections ds) j.0 in
        let x = declaration_fitted d o.0 w.0 (in_declarations ds (in_statements ss (Behind end ∷ l))) (i + 1) h.1 in
        let y = declarations_fitted ds o.1 w.1 (in_statements ss (Behind end ∷ l)) x.2.0 x.2.1 in
        let z = statements_fitted Inside false (λ z. z) ss tt m.1 j.1 (Behind end ∷ l) y.2.0 y.2.1 in
        (tt, (((x.0, y.0), z.0), both_fitted s C (declaration_texts d) (declarations_texts ds ++ statements_texts ss) x.1 (both_fitted s C (declarations_texts ds) (statements_texts ss) y.1 z.1)), (end, z.2.1.1))

    declarations_fitted : (ds : Declarations) → NoBreaks (declarations_events declaring ds) → Connected s C (declarations_events connections ds) → (l : List Spot) (from : ℕ) → Ascends from (in_declarations ds l)
        → DotsDeclarations ds × AllFitted s C (declarations_texts ds) × Rest l
    declarations_fitted NoDeclaration b k l from h = (tt, tt, (from, h))
    declarations_fitted (With d ds) b k l from h =
        let n = both_unbroken (declaration_events declaring d) (declarations_events declaring ds) b in
        let j = parts_connect s C (declaration_events connections d) (declarations_events connections ds) k in
        let x = declaration_fitted d n.0 j.0 (in_declarations ds l) from h in
        let y = declarations_fitted ds n.1 j.1 l x.2.0 x.2.1 in
        ((x.0, y.0), both_fitted s C (declaration_texts d) (declarations_texts ds) x.1 y.1, y.2)

    declaration_fitted : (d : Declaration) → NoBreaks (declaration_events declaring d) → Connected s C (declaration_events connections d) → (l : List Spot) (from : ℕ) → Ascends from (in_declaration d l)
        → DotsDeclaration d × AllFitted s C (declaration_texts d) × Rest l
    declaration_fitted (Variables type vs) b k l from h =
        let r = type_passes type (in_each in_variable vs l) from h in
        let x = each_dots in_variable Any variable_passes vs l r.0 r.1 in (tt, tt, x.1)
    declaration_fitted (Arrays type i segments) b k l from h =
        let r = type_passes type (in_each in_segment segments l) from h in
        let x = each_dots in_segment DotsSegment segment_dots segments l r.0 r.1 in (x.0, tt, x.1)
    declaration_fitted (DeclareProcedure result i g a end) b k l from h =
        let n = both_unbroken (declaring.procedure result i g) (statement_events declaring Inside a ++ Closes end ∷ []) b in
        let m = both_unbroken (statement_events declaring Inside a) (Closes end ∷ []) n.1 in
        let j = parts_connect s C (statement_events connections Inside a) [] k in
        let r = result_passes result (in_name g.name (in_heading g (in_statement a (Behind end ∷ l)))) from h in
        let f = heading_passes g (in_statement a (Behind end ∷ l)) (g.name.token.0 + 1) r.1.1 in
        let x = statement_fitted Inside false (λ z. z) a tt m.0 j.0 (Behind end ∷ l) f.0 f.1 in
        (tt, (x.0, x.1), (end, x.2.1.1))
    declaration_fitted (DeclareClass prefix i g interface (syntax.Compound x) end) b k l from h =
        let n = both_unbroken (declaring.class prefix i g interface) (class_events declaring x ++ Closes end ∷ []) b in
        let m = both_unbroken (class_events declaring x) (Closes end ∷ []) n.1 in
        let j = parts_connect s C (class_events connections x) [] k in
        let v = prefix_passes prefix (in_name g.name (in_heading g (in_each in_virtual interface.virtuals (in_block x (Behind end ∷ l))))) from h in
        let f = heading_passes g (in_each in_virtual interface.virtuals (in_block x (Behind end ∷ l))) (g.name.token.0 + 1) v.1.1 in
        let u = each_dots in_virtual AnyVirtual virtual_passes interface.virtuals (in_block x (Behind end ∷ l)) f.0 f.1 in
        let r = class_fitted prefix i g interface x end m.0 j.0 l u.1.0 u.1.1 in
        r
    declaration_fitted (DeclareClass prefix i g interface a end) b k l from h =
        let n = both_unbroken (declaring.class prefix i g interface) (statement_events declaring ClassBody a ++ Closes end ∷ []) b in
        let m = both_unbroken (statement_events declaring ClassBody a) (Closes end ∷ []) n.1 in
        let j = parts_connect s C (statement_events connections ClassBody a) [] k in
        let v = prefix_passes prefix (in_name g.name (in_heading g (in_each in_virtual interface.virtuals (in_statement a (Behind end ∷ l))))) from h in
        let f = heading_passes g (in_each in_virtual interface.virtuals (in_statement a (Behind end ∷ l))) (g.name.token.0 + 1) v.1.1 in
        let u = each_dots in_virtual AnyVirtual virtual_passes interface.virtuals (in_statement a (Behind end ∷ l)) f.0 f.1 in
        let x = statement_fitted ClassBody true (λ z. tt) a tt m.0 j.0 (Behind end ∷ l) u.1.0 u.1.1 in
        (tt, ((tt, (x.0, tt)), fitted_prefix s C prefix (statement_texts a) x.1), (end, x.2.1.1))

    -- a class whose body is a block
    class_fitted : (prefix : Option Identifier) (i : ℕ) (g : Heading) (interface : Interface) (x : Block) (end : ℕ) → NoBreaks (class_events declaring x) → Connected s C (class_events connections x) → (l : List Spot) (from : ℕ) → Ascends from (in_block x (Behind end ∷ l))
        → Unit {0} × AllFitted s C (declaration_texts (DeclareClass prefix i g interface (syntax.Compound x) end)) × Rest l
    class_fitted prefix i g interface (Begin j ds ss e) end b k l from h =
        let n = both_unbroken (declarations_events declaring ds) (statements_events declaring ClassStatement ss) b in
        let m = parts_connect s C (declarations_events connections ds) (statements_events connections ClassStatement ss) k in
        let x = declarations_fitted ds n.0 m.0 (in_statements ss (Behind e ∷ Behind end ∷ l)) (j + 1) h.1 in
        let y = statements_fitted ClassStatement true (λ z. z) ss tt n.1 m.1 (Behind e ∷ Behind end ∷ l) x.2.0 x.2.1 in
        (tt, ((x.0, y.0), fitted_prefix s C prefix (declarations_texts ds ++ statements_texts ss) (both_fitted s C (declarations_texts ds) (statements_texts ss) x.1 y.1)), (end, y.2.1.1.1))

  block_fits : (prefix : Option Prefix) → (b : Block) → NoBreaks (whole_events declaring b) → Connected s C (whole_events connections b) → Ascends 0 (in_block b []) → AllFitted s C (program_texts prefix b)
  unfolding declaring connections
  block_fits prefix (Begin i ds ss end) b k h =
      let n = both_unbroken (declarations_events declaring ds) (statements_events declaring Inside ss ++ Closes end ∷ []) b in
      let m = both_unbroken (statements_events declaring Inside ss) (Closes end ∷ []) n.1 in
      let j = parts_connect s C (declarations_events connections ds) (statements_events connections Inside ss ++ []) k in
      let g = parts_connect s C (statements_events connections Inside ss) [] j.1 in
      let x = declarations_fitted ds n.0 j.0 (in_statements ss (Behind end ∷ [])) (i + 1) h.1 in
      let y = statements_fitted Inside false (λ z. z) ss tt m.0 g.0 (Behind end ∷ []) x.2.0 x.2.1 in
      whole prefix (x.0, y.0) (both_fitted s C (declarations_texts ds) (statements_texts ss) x.1 y.1)
    where
      whole : (prefix : Option Prefix) → DotsDeclarations ds × FittedStatements s C false ss → AllFitted s C (declarations_texts ds ++ statements_texts ss) → AllFitted s C (program_texts prefix (Begin i ds ss end))
      whole None own inner = (own, inner)
      whole (Some x) own inner = (own, fitted_prefix s C (Some x.class) (declarations_texts ds ++ statements_texts ss) inner)

  fitted_at : (xs : List Text) (k : ℕ) (x : Text) → AllFitted s C xs → slice_get xs k ≡ Some x → TextFitted s C x
  fitted_at [] k x a e = absurd (cc)
  fitted_at (y ∷ ys) zero x a e = let same : y ≡ x = cc in subst (TextFitted s C) same a.0
  fitted_at (y ∷ ys) (suc k) x a e = fitted_at ys k x a.1 e

  pub text_fitted : InOrder s.program → NoBreaks (program_events declaring s.program) → AllMeet s C None (program_events connections s.program) → (k : ℕ) (x : Text) → text s k ≡ Some x → TextFitted s C x
  unfolding text program_events declaring connections
  text_fitted order b c k x e =
      let body = s.program.block in
      let n = both_unbroken (declaring.program s.program.prefix (begin_of body)) (whole_events declaring body) b in
      fitted_at (program_texts s.program.prefix body) k x (block_fits s.program.prefix body n.1 (None, c) order) e
