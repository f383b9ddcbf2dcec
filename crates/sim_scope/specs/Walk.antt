-- The walk over a program, from left to right: what its statements and declarations contribute, one after the other.
-- Each round of the static rules is this walk with leaves of its own.
use Rattle.std.specs.Prelude.{ℕ, List, [], ◌∷◌, ◌++◌, Option}
use Rattle.std.specs.declared.alloc.Global.{Global}
use Rattle.std.specs.declared.boxed.Box.{Box}
use Rattle.sim_tree.specs.declared.expr.Identifier.{Identifier}
use Rattle.sim_tree.specs.declared.stmt.Activation.{Activation}
use Rattle.sim_tree.specs.declared.stmt.Assignment.{Assignment}
use Rattle.sim_tree.specs.declared.stmt.Block.{Block as BlockTree}
use Rattle.sim_tree.specs.declared.stmt.Decl.{Decl}
use Rattle.sim_tree.specs.declared.stmt.Stmt.{Stmt}
use Rattle.sim_tree.specs.declared.stmt.TypeName.{TypeName}
use Rattle.sim_tree.specs.declared.stmt.Variable.{Variable}
use Rattle.sim_tree.specs.declared.stmt.When.{When as WhenTree}
use Rattle.sim_tree.specs.Syntax.{Expression, Expressions, RightSide, Element, Schedule, Arrayed, Heading, Interface, Statement, Empty, Compound, Prefixed, Inner, Call, Assign, Choose, Repeat, For, Inspect, InspectWhen, Activate, Statements, NoStatement, Also, Arms, NoArm, When, Block, Begin, Declarations, NoDeclaration, With, Declaration, Variables, Arrays, DeclareProcedure, DeclareClass, Prefix, Program}
use Rattle.sim_tree.specs.SyntaxOfProgram.{statement_syntax, declaration_syntax, block_syntax, arm_syntax, branch_syntax}
use Rattle.sim_scope.specs.declared.types.Position.{Position}
use Rattle.sim_scope.specs.declared.types.Position.TheVariants.{ClassBody, ClassStatement, Inside}

-- What the parts of a program contribute that have no statements in them.
pub record Visit (E : Type 0) : Type 0 where
  -- where a block begins, and where it ends: the token behind it. The statements `begin .. end` without declarations are no block.
  pub program : (prefix : Option Prefix) → (begin : ℕ) → List E
  pub block : (begin : ℕ) → List E
  pub prefixed : (class : Identifier) → (arguments : Expressions) → (begin : ℕ) → List E
  pub procedure : (result : Option TypeName) → (token : ℕ) → Heading → List E
  pub class : (prefix : Option Identifier) → (token : ℕ) → Heading → Interface → List E
  pub connected : (opening : ℕ) → List E
  pub leave : (end : ℕ) → List E
  -- declarations
  pub variables : TypeName → List Variable → List E
  pub arrays : TypeName → List Arrayed → List E
  -- statements; of those that hold others, what stands in front of these
  pub inner : Position → (token : ℕ) → List E
  pub call : Expression → List E
  pub assign : (left : Expression) → List RightSide → List E
  pub condition : Expression → List E
  pub control : (variable : Identifier) → Assignment → (sign : ℕ) → List Element → List E
  pub inspect : (token : ℕ) → (object : Expression) → List E
  -- the classes are those of the arms
  pub inspect_when : (token : ℕ) → (object : Expression) → (classes : List Identifier) → List E
  pub arm : (class : Identifier) → List E
  pub activate : (token : ℕ) → Activation → (process : Expression) → Schedule → List E

abbrev pub begin_of : Block → ℕ
begin_of (Begin i ds ss e) = i

-- A block with declarations; without any it is none.
abbrev pub enclosed : {E : Type 0} → Declarations → (enter inside leave : List E) → List E
enclosed NoDeclaration enter inside leave = inside
enclosed (With d ds) enter inside leave = enter ++ (inside ++ leave)

-- the classes of arms
abbrev pub arm_classes : Arms → List Identifier
arm_classes NoArm = []
arm_classes (When i x d a e others) = x ∷ arm_classes others

abbrev mutual
  pub statement_events : {E : Type 0} → Visit E → Position → Statement → List E
  statement_events v p (Empty i) = []
  statement_events v ClassBody (Compound b) = class_events v b
  statement_events v ClassStatement (Compound b) = block_events v b
  statement_events v Inside (Compound b) = block_events v b
  statement_events v p (Prefixed x args b) = v.prefixed x args (begin_of b) ++ whole_events v b
  statement_events v p (Inner i) = v.inner p i
  statement_events v p (Call e) = v.call e
  statement_events v p (Assign left rest) = v.assign left rest
  statement_events v p (Choose i c a rest) = v.condition c ++ (statement_events v Inside a ++ statements_events v Inside rest)
  statement_events v p (Repeat i c a) = v.condition c ++ statement_events v Inside a
  statement_events v p (For i x sign j es a) = v.control x sign j es ++ statement_events v Inside a
  statement_events v p (Inspect i object d a e rest) =
      v.inspect i object ++ (v.connected d ++ (statement_events v Inside a ++ (v.leave e ++ statements_events v Inside rest)))
  statement_events v p (InspectWhen i object whens rest) = v.inspect_when i object (arm_classes whens) ++ (arms_events v whens ++ statements_events v Inside rest)
  statement_events v p (Activate i word process schedule) = v.activate i word process schedule

  pub statements_events : {E : Type 0} → Visit E → Position → Statements → List E
  statements_events v p NoStatement = []
  statements_events v p (Also s ss) = statement_events v p s ++ statements_events v p ss

  pub arms_events : {E : Type 0} → Visit E → Arms → List E
  arms_events v NoArm = []
  arms_events v (When i x d a e others) = (v.arm x ++ (v.connected d ++ (statement_events v Inside a ++ v.leave e))) ++ arms_events v others

  -- a block, or a compound statement
  pub block_events : {E : Type 0} → Visit E → Block → List E
  block_events v (Begin i ds ss e) = enclosed ds (v.block i) (declarations_events v ds ++ statements_events v Inside ss) (v.leave e)

  -- what is inside a block that is one also without declarations, and its end
  pub whole_events : {E : Type 0} → Visit E → Block → List E
  whole_events v (Begin i ds ss e) = declarations_events v ds ++ (statements_events v Inside ss ++ v.leave e)

  -- the body of a class: its declarations are those of the class
  pub class_events : {E : Type 0} → Visit E → Block → List E
  class_events v (Begin i ds ss e) = declarations_events v ds ++ statements_events v ClassStatement ss

  pub declarations_events : {E : Type 0} → Visit E → Declarations → List E
  declarations_events v NoDeclaration = []
  declarations_events v (With d ds) = declaration_events v d ++ declarations_events v ds

  pub declaration_events : {E : Type 0} → Visit E → Declaration → List E
  declaration_events v (Variables type vs) = v.variables type vs
  declaration_events v (Arrays type i segments) = v.arrays type segments
  declaration_events v (DeclareProcedure result i h body e) = v.procedure result i h ++ (statement_events v Inside body ++ v.leave e)
  declaration_events v (DeclareClass prefix i h interface body e) = v.class prefix i h interface ++ (statement_events v ClassBody body ++ v.leave e)

unfoldable pub program_events : {E : Type 0} → Visit E → Program → List E
program_events v p = v.program p.prefix (begin_of p.block) ++ whole_events v p.block

-- The same of the trees.
unfoldable pub of_statement : {E : Type 0} → Visit E → Position → Stmt → List E
of_statement v p x = statement_events v p (statement_syntax x)

unfoldable pub of_branch : {E : Type 0} → Visit E → Option (Box Stmt Global) → List E
of_branch v x = statements_events v Inside (branch_syntax x)

unfoldable pub of_arm : {E : Type 0} → Visit E → WhenTree → List E
of_arm v w = let a = arm_syntax w in v.arm a.class ++ (v.connected a.opening ++ (statement_events v Inside a.body ++ v.leave a.end))

unfoldable pub of_block : {E : Type 0} → Visit E → BlockTree → List E
of_block v b = block_events v (block_syntax b)

unfoldable pub of_whole : {E : Type 0} → Visit E → BlockTree → List E
of_whole v b = whole_events v (block_syntax b)

unfoldable pub of_class_body : {E : Type 0} → Visit E → BlockTree → List E
of_class_body v b = class_events v (block_syntax b)

unfoldable pub of_declaration : {E : Type 0} → Visit E → Decl → List E
of_declaration v d = declaration_events v (declaration_syntax d)
