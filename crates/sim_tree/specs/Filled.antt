-- Programs whose lists are not empty where the grammar has at least one: each assignment has a right side, each `for` list
-- an element, each segment of arrays a name and a pair of bounds.
use Rattle.std.specs.Prelude.{List, [], ◌∷◌}
use Rattle.sim_tree.specs.declared.expr.Identifier.{Identifier}
use Rattle.sim_tree.specs.Syntax.{Also, Arms, Arrayed, Arrays, Begin, Block, BoundPair, Declaration, Declarations, DeclareClass, DeclareProcedure, Element, NoArm, NoDeclaration, NoStatement, Program, RightSide, Statement, Statements, When, With}
use Rattle.sim_tree.specs.Syntax as syntax

abbrev pub SomeSide : List RightSide → Type 0
SomeSide [] = ⊥
SomeSide (r ∷ rs) = Unit {0}

abbrev pub SomeElement : List Element → Type 0
SomeElement [] = ⊥
SomeElement (e ∷ es) = Unit {0}

abbrev pub SomeIdentifier : List Identifier → Type 0
SomeIdentifier [] = ⊥
SomeIdentifier (x ∷ xs) = Unit {0}

abbrev pub SomeBounds : List BoundPair → Type 0
SomeBounds [] = ⊥
SomeBounds (b ∷ bs) = Unit {0}

abbrev pub FilledSegments : List Arrayed → Type 0
FilledSegments [] = Unit {0}
FilledSegments (a ∷ more) = SomeIdentifier a.names × SomeBounds a.bounds × FilledSegments more

-- of activations nothing is said
abbrev mutual
  pub FilledStatement : Statement → Type 0
  FilledStatement (syntax.Compound b) = FilledBlock b
  FilledStatement (syntax.Prefixed class es b) = FilledBlock b
  FilledStatement (syntax.Assign left rs) = SomeSide rs
  FilledStatement (syntax.Choose token c a b) = FilledStatement a × FilledStatements b
  FilledStatement (syntax.Repeat token c a) = FilledStatement a
  FilledStatement (syntax.For token x sign assign es a) = SomeElement es × FilledStatement a
  FilledStatement (syntax.Inspect token e opening a end other) = FilledStatement a × FilledStatements other
  FilledStatement (syntax.InspectWhen token e arms other) = FilledArms arms × FilledStatements other
  FilledStatement _ = Unit {0}

  pub FilledArms : Arms → Type 0
  FilledArms NoArm = Unit {0}
  FilledArms (When token class opening a end more) = FilledStatement a × FilledArms more

  pub FilledStatements : Statements → Type 0
  FilledStatements NoStatement = Unit {0}
  FilledStatements (Also a more) = FilledStatement a × FilledStatements more

  pub FilledBlock : Block → Type 0
  FilledBlock (Begin token ds ss end) = FilledDeclarations ds × FilledStatements ss

  pub FilledDeclarations : Declarations → Type 0
  FilledDeclarations NoDeclaration = Unit {0}
  FilledDeclarations (With d ds) = FilledDeclaration d × FilledDeclarations ds

  pub FilledDeclaration : Declaration → Type 0
  FilledDeclaration (DeclareProcedure result token h a end) = FilledStatement a
  FilledDeclaration (DeclareClass prefix token h interface a end) = FilledStatement a
  FilledDeclaration (Arrays type token segments) = FilledSegments segments
  FilledDeclaration _ = Unit {0}

abbrev pub Filled : Program → Type 0
Filled p = FilledBlock p.block
