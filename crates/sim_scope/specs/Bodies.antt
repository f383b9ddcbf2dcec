-- The bodies of a program in text order: which there are, and of each its kind, the body around it, its level, its tokens, its prefix and what
-- it is made of. The number of a body is its place in this list.
use Rattle.std.specs.Prelude.{ℕ, ◌+◌, List, [], ◌∷◌, ◌++◌, length, map, Option, Some, None}
use Rattle.sim_tree.specs.declared.expr.Identifier.{Identifier}
use Rattle.sim_tree.specs.declared.stmt.TypeName.{TypeName}
use Rattle.sim_tree.specs.Syntax.{Expressions, Heading, Statement, Statements, Empty, Compound, Prefixed, Inner, Call, Assign, Choose, Repeat, For, Inspect, InspectWhen, Activate, NoStatement, Also, Arms, NoArm, When, Block, Begin, Declarations, NoDeclaration, With, Declaration, Variables, Arrays, DeclareProcedure, DeclareClass, Prefix, Program}
use Rattle.sim_scope.specs.declared.types.BlockKind.{BlockKind}
use Rattle.sim_scope.specs.declared.types.BlockKind.TheVariants as kind
use Rattle.sim_scope.specs.declared.types.StandardClass.{StandardClass}
use Rattle.sim_scope.specs.declared.types.StandardPrefix.{StandardPrefix}
use Rattle.sim_scope.specs.declared.types.StandardPrefix.TheVariants as prefix
use Rattle.sim_scope.specs.Standard.{classes_of_sets, classes_of_simulation, standard_prefix}
use Rattle.sim_scope.specs.Tables.{deeper}

-- What a body is made of. A class whose body is `begin .. end` has the declarations and statements of that block.
pub data Part : Type 0 where
  OfBlock : Declarations → Statements → Part
  OfProcedure : (result : Option TypeName) → Heading → Statement → Part
  OfClass : Heading → Declarations → Statements → Part
  OfPrefixed : (arguments : Expressions) → Declarations → Statements → Part
  OfConnection : Part
  OfStandard : Part

pub record Body : Type 0 where
  pub kind : BlockKind
  -- the number of the body around it, and its level: 1 for the program's
  pub encloser : Option ℕ
  pub level : ℕ
  -- the token from which on its text is inside, and the token behind its text
  pub first : ℕ
  pub end : ℕ
  -- the class identifier in front of it
  pub prefix : Option Identifier
  pub part : Part

-- the body in which something stands: its number and its level
pub record Around : Type 0 where
  pub number : ℕ
  pub level : ℕ

-- The bodies of a piece of program, given the number of the first of them.
abbrev pub Bodies : Type 0
Bodies = (next : ℕ) → List Body

abbrev pub no_body : Bodies
no_body next = []

-- those of one piece, and then those of another
abbrev pub both : Bodies → Bodies → Bodies
both f g next = f next ++ g (next + length (f next))

-- a body, and then those inside
abbrev pub one : BlockKind → Around → (first end : ℕ) → Option Identifier → Part → (Around → Bodies) → Bodies
one k o first end prefix part inside next =
    record { kind = k; encloser = Some o.number; level = deeper k o.level; first = first; end = end; prefix = prefix; part = part }
    ∷ inside (record { number = next; level = deeper k o.level }) (next + 1)

-- What the body of a class declares, and its statements: those of its `begin .. end`, or the one statement that it is.
abbrev pub body_declarations : Statement → Declarations
body_declarations (Compound (Begin token ds ss end)) = ds
body_declarations _ = NoDeclaration

abbrev pub body_statements : Statement → Statements
body_statements (Compound (Begin token ds ss end)) = ss
body_statements a = Also a NoStatement

-- The classes that `simset` and `simulation` declare stand directly behind the block or class that they are written in front of.
abbrev pub classes_declared : Option StandardPrefix → List StandardClass
classes_declared None = []
classes_declared (Some prefix.Simset) = classes_of_sets
classes_declared (Some prefix.Simulation) = classes_of_simulation

abbrev pub standard_body : Around → StandardClass → Body
standard_body o which = record { kind = kind.StandardClass which; encloser = Some o.number; level = o.level + 1; first = 0; end = 0; prefix = None; part = OfStandard }

unfoldable pub standard_bodies : Around → (name : List ℕ) → Bodies
standard_bodies o name next = map (standard_body o) (classes_declared (standard_prefix name))

abbrev pub prefix_bodies : Around → Option Identifier → Bodies
prefix_bodies o None = no_body
prefix_bodies o (Some class) = standard_bodies o class.name

abbrev mutual
  pub statement_bodies : Around → Statement → Bodies
  statement_bodies o (Empty i) = no_body
  statement_bodies o (Compound b) = block_bodies o b
  statement_bodies o (Prefixed class arguments b) = prefixed_bodies o class arguments b
  statement_bodies o (Inner i) = no_body
  statement_bodies o (Call e) = no_body
  statement_bodies o (Assign left rest) = no_body
  statement_bodies o (Choose i e a b) = both (statement_bodies o a) (statements_bodies o b)
  statement_bodies o (Repeat i e a) = statement_bodies o a
  statement_bodies o (For i x sign assign es a) = statement_bodies o a
  statement_bodies o (Inspect i e opening a end other) =
      both (one kind.Connection o opening end None OfConnection (λ inner. statement_bodies inner a)) (statements_bodies o other)
  statement_bodies o (InspectWhen i e arms other) = both (arms_bodies o arms) (statements_bodies o other)
  statement_bodies o (Activate i word e schedule) = no_body

  pub statements_bodies : Around → Statements → Bodies
  statements_bodies o NoStatement = no_body
  statements_bodies o (Also a more) = both (statement_bodies o a) (statements_bodies o more)

  pub arms_bodies : Around → Arms → Bodies
  arms_bodies o NoArm = no_body
  arms_bodies o (When i class opening a end more) =
      both (one kind.Connection o opening end None OfConnection (λ inner. statement_bodies inner a)) (arms_bodies o more)

  -- a block without declarations is a compound statement and no body of its own
  pub block_bodies : Around → Block → Bodies
  block_bodies o (Begin i NoDeclaration ss end) = statements_bodies o ss
  block_bodies o (Begin i (With d ds) ss end) =
      one kind.SubBlock o i end None (OfBlock (With d ds) ss) (λ inner. both (declarations_bodies inner (With d ds)) (statements_bodies inner ss))

  pub prefixed_bodies : Around → Identifier → Expressions → Block → Bodies
  prefixed_bodies o class arguments (Begin i ds ss end) =
      one kind.Prefixed o i end (Some class) (OfPrefixed arguments ds ss)
      (λ inner. both (standard_bodies inner class.name) (both (declarations_bodies inner ds) (statements_bodies inner ss)))

  pub declarations_bodies : Around → Declarations → Bodies
  declarations_bodies o NoDeclaration = no_body
  declarations_bodies o (With d ds) = both (declaration_bodies o d) (declarations_bodies o ds)

  pub declaration_bodies : Around → Declaration → Bodies
  declaration_bodies o (Variables type vs) = no_body
  declaration_bodies o (Arrays type i segments) = no_body
  declaration_bodies o (DeclareProcedure result i h a end) = one kind.Procedure o h.name.token.0 end None (OfProcedure result h a) (λ inner. statement_bodies inner a)
  -- the `begin .. end` of a class is no body of its own
  declaration_bodies o (DeclareClass prefix i h interface (Compound (Begin token ds ss e)) end) =
      one kind.Class o h.name.token.0 end prefix (OfClass h ds ss) (λ inner. both (prefix_bodies inner prefix) (both (declarations_bodies inner ds) (statements_bodies inner ss)))
  declaration_bodies o (DeclareClass prefix i h interface a end) =
      one kind.Class o h.name.token.0 end prefix (OfClass h NoDeclaration (Also a NoStatement)) (λ inner. both (prefix_bodies inner prefix) (statement_bodies inner a))

-- the program's block, around which there is none, and whose level is 1
abbrev pub program_around : Around
program_around = record { number = 0; level = 1 }

abbrev pub bodies_of : Option Prefix → Block → List Body
bodies_of None (Begin i ds ss end) =
    record { kind = kind.Program; encloser = None; level = 1; first = i; end = end; prefix = None; part = OfBlock ds ss }
    ∷ both (declarations_bodies program_around ds) (statements_bodies program_around ss) 1
bodies_of (Some p) (Begin i ds ss end) =
    record { kind = kind.Prefixed; encloser = None; level = 1; first = i; end = end; prefix = Some p.class; part = OfPrefixed p.arguments ds ss }
    ∷ both (standard_bodies program_around p.class.name) (both (declarations_bodies program_around ds) (statements_bodies program_around ss)) 1

-- the bodies of a program
unfoldable pub program_bodies : Program → List Body
program_bodies p = bodies_of p.prefix p.block
