-- Each block, procedure, class and connection ends behind the token that begins it.
use Rattle.std.specs.Prelude.{◌<◌}
use Rattle.sim_tree.specs.Syntax as s
use Rattle.sim_tree.specs.Syntax.{Statement, Statements, Arms, Block, Declarations, Declaration, Program}

abbrev mutual
  pub InStatement : Statement → Type 0
  InStatement (s.Empty i) = Unit {0}
  InStatement (s.Compound b) = InBlock b
  InStatement (s.Prefixed class es b) = InBlock b
  InStatement (s.Inner i) = Unit {0}
  InStatement (s.Call e) = Unit {0}
  InStatement (s.Assign e sides) = Unit {0}
  InStatement (s.Choose i e x y) = InStatement x × InStatements y
  InStatement (s.Repeat i e x) = InStatement x
  InStatement (s.For i name sign j elements x) = InStatement x
  InStatement (s.Inspect i e opening x end y) = (opening < end) × InStatement x × InStatements y
  InStatement (s.InspectWhen i e arms y) = InArms arms × InStatements y
  InStatement (s.Activate i word e schedule) = Unit {0}

  pub InStatements : Statements → Type 0
  InStatements s.NoStatement = Unit {0}
  InStatements (s.Also x xs) = InStatement x × InStatements xs

  pub InArms : Arms → Type 0
  InArms s.NoArm = Unit {0}
  InArms (s.When i class opening x end arms) = (opening < end) × InStatement x × InArms arms

  pub InBlock : Block → Type 0
  InBlock (s.Begin token ds xs end) = (token < end) × InDeclarations ds × InStatements xs

  pub InDeclarations : Declarations → Type 0
  InDeclarations s.NoDeclaration = Unit {0}
  InDeclarations (s.With d ds) = InDeclaration d × InDeclarations ds

  pub InDeclaration : Declaration → Type 0
  InDeclaration (s.Variables t vs) = Unit {0}
  InDeclaration (s.Arrays t i segments) = Unit {0}
  InDeclaration (s.DeclareProcedure result token heading x end) = (token < end) × InStatement x
  InDeclaration (s.DeclareClass prefix token heading interface x end) = (token < end) × InStatement x

-- of a whole program
abbrev pub EndsBehind : Program → Type 0
EndsBehind p = InBlock p.block
