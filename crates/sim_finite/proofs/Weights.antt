-- How much is pending: no more steps can come between two ticks.
use Rattle.std.proofs.Common.{◌≡◌, ◌≤◌, ◌<◌, ℕ, ◌+◌, List, [], ◌∷◌}
use Rattle.sim_base.specs.declared.limits.Limits.{Limits}
use Rattle.sim_chains.specs.Components.{Standing}
use Rattle.sim_tree.specs.declared.expr.Identifier.{Identifier}
use Rattle.sim_tree.specs.Syntax.{Also, Arms, Arrayed, Arrays, BoundPair, Declarations, DeclareClass, DeclareProcedure, Element, Expression, Expressions, NoArm, NoDeclaration, NoMore, NoStatement, Statements, Then, Variables, When, With}
use Rattle.sim_tree.specs.Syntax as syntax
use Rattle.sim_code.specs.Outcome.{World}
use Rattle.sim_meaning.specs.Pending.{ActivateOp, Activation, ActualOf, AgainOp, ArrayOp, AttributeOf, AttributeOp, BackOp, BlockOp, BranchOp, CallOf, CallOp, CallValueOp, Cell, CheckOp, ChooseOp, CloseOp, Configuration, ConnectOp, CopyOf, CopyOp, DeclareOp, Do, DropOp, Either, ElementOf, ElementOp, ElementsOp, EndBlock, EndEvaluation, EndLevel, EndObject, EndPrefixed, EndProcedure, EndProcessOp, EndProgram, EnterOp, Eval, Exec, Execs, FetchOp, FitsOf, FitsOp, Further, GiveOp, Given, IfOp, ImageOf, InnerOp, Instances, Item, JoinOp, Joined, KeepOp, KeptOf, Level, LevelOp, MemberOf, MemberOp, NamedOf, NamedOp, NewOf, NewOp, NoTerm, NotNoneOf, NotNoneOp, ObjectOp, One, OneOp, Op, PastOp, PlaceOf, PrefixedOp, ProcessOf, ProcessOp, QuaOf, QuaOp, QualifiedElementOf, QualifiedElementOp, QualifiedPlaceOf, RaiseOp, ReferOp, RemoteCallOf, SelfOp, SetOf, SetOp, ShareOp, SimulationOf, SimulationOp, StandardOf, StandardOp, StepOp, StepTestOp, StoreOp, SwapOp, Target, Term, Terms, TestOp, ToAddress, ToCell, ToNamed, ToPlace, ToReference, ToReferenceAt, ToText, ToTextAt, ToTextOf, TransferOf, TransferOp, Two, TwoOp, NoMeaning, ValueAt, VirtualOp, WhenOp, WhileElementOp, OriginOf, OriginOp, ProcedureOf, ProcedureOp, RemoteProcedureOf, MatchOf, CheckedOf, ParameterOp}
use Rattle.code_finite.proofs.Transfers as each

-- as many steps as an expression takes at most, once it is closed
abbrev mutual
  pub expression_weight : Expression → ℕ
  expression_weight (syntax.If token c a b) = 3 + (expression_weight c + (expression_weight a + expression_weight b))
  expression_weight (syntax.Binary op token a b) = 4 + (expression_weight a + expression_weight b)
  expression_weight (syntax.Not token a) = 2 + expression_weight a
  expression_weight (syntax.Signed sign token a) = 2 + expression_weight a
  expression_weight (syntax.Member member token a class) = 2 + expression_weight a
  expression_weight (syntax.Dot token a name es) = 8 + (expression_weight a + expressions_weight es)
  expression_weight (syntax.Qua token a class) = 2 + expression_weight a
  expression_weight (syntax.Named name es) = 9 + expressions_weight es
  expression_weight (syntax.New token class es) = 4 + expressions_weight es
  expression_weight (syntax.Parentheses token a) = expression_weight a
  expression_weight _ = 1

  pub expressions_weight : Expressions → ℕ
  expressions_weight NoMore = 3
  expressions_weight (Then e es) = 6 + (expression_weight e + expressions_weight es)

-- the steps that a closed tree takes
abbrev mutual
  pub term_weight : Term → ℕ
  term_weight (Given p) = 1
  term_weight (Cell j key) = 1
  term_weight (PlaceOf j key) = 1
  term_weight (ImageOf n) = 1
  term_weight (One op line a) = 2 + term_weight a
  term_weight (Two op line a b) = 2 + (term_weight a + term_weight b)
  term_weight (Joined line a b) = 2 + (term_weight a + term_weight b)
  term_weight (Either c a b) = 3 + (term_weight c + (term_weight a + term_weight b))
  term_weight (ElementOf line a ts) = 2 + (term_weight a + terms_weight ts)
  term_weight (ValueAt a) = 2 + term_weight a
  term_weight (CopyOf line a) = 2 + term_weight a
  term_weight (CallOf j k ts line) = 2 + terms_weight ts
  term_weight (StandardOf name ts line) = 2 + terms_weight ts
  term_weight (NewOf j k ts line) = 2 + terms_weight ts
  term_weight (AttributeOf k key class line a) = 2 + term_weight a
  term_weight (RemoteCallOf a k ts line) = 3 + (term_weight a + terms_weight ts)
  term_weight (QualifiedPlaceOf j key k) = 1
  term_weight (QualifiedElementOf line k a ts) = 2 + (term_weight a + terms_weight ts)
  term_weight (MemberOf member k a) = 2 + term_weight a
  term_weight (QuaOf k line a) = 2 + term_weight a
  term_weight (FitsOf k line a) = 2 + term_weight a
  term_weight (KeptOf a) = 2 + term_weight a
  term_weight (NotNoneOf line a) = 2 + term_weight a
  term_weight (TransferOf t line a) = 2 + term_weight a
  term_weight (SetOf name ts) = 2 + terms_weight ts
  term_weight (ProcessOf name line a) = 2 + term_weight a
  term_weight (SimulationOf j name ts line) = 2 + terms_weight ts
  term_weight (OriginOf k token line a) = 2 + term_weight a
  term_weight (ProcedureOf j k) = 2
  term_weight (RemoteProcedureOf a k line) = 3 + term_weight a
  term_weight (MatchOf a v line) = 2 + term_weight a
  term_weight (CheckedOf a leaves home es line) = 3 + (term_weight a + expressions_weight es)
  term_weight (ActualOf j p e) = 1
  term_weight (NamedOf j key wanted) = 1
  term_weight NoMeaning = 1

  pub terms_weight : Terms → ℕ
  terms_weight NoTerm = 0
  terms_weight (Further t ts) = term_weight t + terms_weight ts

-- an assignment, in which a variable is found that lies at no fixed place
abbrev pub target_weight : Target → ℕ
target_weight (ToCell j key) = 1
target_weight ToAddress = 1
target_weight (ToText line) = 1
target_weight (ToTextOf j key line) = 1
target_weight (ToReference line) = 2
target_weight (ToNamed k line) = 3
target_weight (ToPlace a) = 3 + term_weight a
target_weight (ToTextAt a line) = 3 + term_weight a
target_weight (ToReferenceAt a line) = 3 + term_weight a

abbrev pub targets_weight : List Target → ℕ
targets_weight [] = 0
targets_weight (t ∷ ts) = 1 + (target_weight t + targets_weight ts)

-- the elements of a `for` list, up to the first tick
abbrev pub elements_weight : Target → List Element → ℕ
elements_weight t [] = 1
elements_weight t (syntax.Once e ∷ es) = 1
elements_weight t (syntax.While e token c ∷ es) = 2 + elements_weight t es
elements_weight t (syntax.Step first token step limit ∷ es) = 2 + (target_weight t + (expression_weight first + (expression_weight step + elements_weight t es)))

abbrev pub statements_weight : Statements → ℕ
statements_weight NoStatement = 1
statements_weight (Also a more) = 2 + statements_weight more

-- the arms of an inspection
abbrev pub arms_weight : Arms → ℕ
arms_weight NoArm = 0
arms_weight (When token class opening a end more) = 1 + arms_weight more

-- declarations: the bounds of each segment of arrays, and three steps for each array
abbrev pub bounds_weight : List BoundPair → ℕ
bounds_weight [] = 0
bounds_weight (b ∷ bs) = expression_weight b.lower + (expression_weight b.upper + bounds_weight bs)

abbrev pub names_weight : List Identifier → ℕ
names_weight [] = 0
names_weight (x ∷ xs) = 3 + names_weight xs

abbrev pub segments_weight : List Arrayed → ℕ
segments_weight [] = 0
segments_weight (a ∷ more) = bounds_weight a.bounds + (names_weight a.names + segments_weight more)

abbrev pub declarations_weight : Declarations → ℕ
declarations_weight NoDeclaration = 0
declarations_weight (With (Variables type vs) ds) = declarations_weight ds
declarations_weight (With (Arrays type token segments) ds) = segments_weight segments + declarations_weight ds
declarations_weight (With (DeclareProcedure result token h a end) ds) = declarations_weight ds
declarations_weight (With (DeclareClass prefix token h interface a end) ds) = declarations_weight ds

-- the statements of levels, each inside the one before, with what a process does before them and behind them
abbrev pub levels_weight : List Level → ℕ
levels_weight [] = 1
levels_weight (x ∷ xs) = 5 + (statements_weight x.statements + levels_weight xs)

-- A statement that is not empty takes a tick.
abbrev pub op_weight : Op → ℕ
op_weight (Eval t) = term_weight t
op_weight (OneOp op line) = 1
op_weight (TwoOp op line) = 1
op_weight (IfOp a b) = 2 + (term_weight a + term_weight b)
op_weight (ElementOp n line) = 1
op_weight FetchOp = 1
op_weight (CopyOp line) = 1
op_weight (CallOp k n line) = 1
op_weight (JoinOp line) = 1
op_weight (StandardOp name line) = 1
op_weight (NewOp k n line) = 1
op_weight (AttributeOp k key class line) = 1
op_weight (ObjectOp k line) = 1
op_weight (QualifiedElementOp n line k) = 1
op_weight (MemberOp member k) = 1
op_weight (QuaOp k line) = 1
op_weight (FitsOp k line) = 1
op_weight KeepOp = 1
op_weight (NotNoneOp line) = 1
op_weight (TransferOp t line) = 1
op_weight (SetOp name) = 1
op_weight (ProcessOp name line) = 1
op_weight (SimulationOp name line) = 1
op_weight (VirtualOp v line) = 1
op_weight (OriginOp k token line) = 1
op_weight (ProcedureOp k) = 1
op_weight (CheckOp es line) = 1
op_weight (ParameterOp n e line) = 3 + expression_weight e
op_weight (CallValueOp n leaves line) = 1
op_weight (NamedOp j key wanted) = 0
op_weight (CloseOp p e) = 1 + expression_weight e
op_weight DropOp = 1
op_weight AgainOp = 1
op_weight SwapOp = 1
op_weight (StoreOp t) = target_weight t
op_weight (ShareOp ts) = 2 + targets_weight ts
op_weight (GiveOp v ts) = 1 + targets_weight ts
op_weight (ReferOp line) = 1
op_weight (ArrayOp kind n line) = 1
op_weight (Exec a) = 1
op_weight (Execs ss) = statements_weight ss
op_weight (EnterOp k line) = 1
op_weight (PrefixedOp k n line) = 1
op_weight (DeclareOp ds) = 1 + declarations_weight ds
op_weight (LevelOp k) = 1
op_weight (InnerOp xs) = levels_weight xs
op_weight SelfOp = 1
op_weight EndProcessOp = 1
op_weight (BlockOp j) = 1
op_weight (ActivateOp again timing line) = 1
op_weight (ConnectOp k a other) = 3 + statements_weight other
op_weight (WhenOp arms other) = 3 + (arms_weight arms + statements_weight other)
op_weight (ChooseOp a b) = 3 + statements_weight b
op_weight (TestOp c a) = 1
op_weight (BranchOp a again) = 2 + op_weight again
op_weight (BackOp op) = 1 + op_weight op
op_weight PastOp = 1
op_weight (ElementsOp t es a) = elements_weight t es
op_weight (WhileElementOp t e c a) = 1
op_weight (StepTestOp t line step limit a) = 1
op_weight (StepOp line) = 1
op_weight (RaiseOp t line step limit a) = 7 + (expression_weight step + (target_weight t + target_weight t))

abbrev pub item_weight : Item → ℕ
item_weight (Do op) = op_weight op
item_weight EndBlock = 1
item_weight (EndProcedure has_result) = 1
item_weight (EndLevel k) = 1
item_weight EndObject = 1
item_weight EndPrefixed = 1
item_weight (EndEvaluation wanted) = 1
item_weight EndProgram = 1

abbrev pub work_weight : List Item → ℕ
work_weight [] = 0
work_weight (x ∷ w) = item_weight x + work_weight w

abbrev pub activation_weight : Activation → ℕ
activation_weight a = work_weight a.work

abbrev pub chain_weight : List Activation → ℕ
chain_weight chain = each.chain_weight activation_weight chain

abbrev pub standings_weight : List (Standing Activation) → ℕ
standings_weight standings = each.standings_weight activation_weight standings

abbrev pub kept_weight : Instances → ℕ
kept_weight m = standings_weight m.standings

-- on the operating chain, and on those that are kept
abbrev pub weight : Configuration → ℕ
weight c = chain_weight c.chain + kept_weight c.memory

-- Less is pending than before, or a tick was taken.
pub data Lower (l : Limits) (ticks before : ℕ) (o : World) (c : Configuration) : Type 0 where
  lighter : o.ticks ≡ ticks → weight c < before → Lower l ticks before o c
  ticked : ticks < o.ticks → o.ticks ≤ l.ticks → Lower l ticks before o c
