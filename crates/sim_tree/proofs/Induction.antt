-- A claim on the derivation and the syntax of each part of a program holds of every block, if it holds of each node whose parts it holds of.
use Rattle.std.proofs.Common.{List, [], ◌∷◌, map, sym, subst}
use Rattle.sim_tree.specs.declared.stmt.Block.{Block}
use Rattle.sim_tree.specs.declared.stmt.Class.{Class}
use Rattle.sim_tree.specs.declared.stmt.Decl.{Decl}
use Rattle.sim_tree.specs.declared.stmt.Decl.TheOpen.{Stmt-F, Decl-F, Block-F, Class-F, Procedure-F, When-F}
use Rattle.sim_tree.specs.declared.stmt.Decl.TheFolds.{ind-Block, map-Stmt, map-Decl, map-Block, map-Class, map-Procedure, map-When, fold-roll-Stmt, fold-roll-Decl, fold-roll-Block, fold-roll-Class, fold-roll-Procedure, fold-roll-When}
use Rattle.sim_tree.specs.declared.stmt.Decl.TheViews.{roll-Stmt, roll-Decl, roll-Block, roll-Class, roll-Procedure, roll-When}
use Rattle.sim_tree.specs.declared.stmt.Procedure.{Procedure}
use Rattle.sim_tree.specs.declared.stmt.Stmt.{Stmt}
use Rattle.sim_tree.specs.declared.stmt.When.{When}
use Rattle.sim_tree.specs.Reading.{Forest}
use Rattle.sim_tree.specs.ProgramDerivation as d
use Rattle.sim_tree.specs.ProgramDerivation.{Declared, Plain, Prefixed, acted, begun, contents, next_statement, assigned_derivation, statement_derivation, declaration_derivation, block_derivation, class_derivation, procedure_derivation, when_derivation, program_derivation}
use Rattle.sim_tree.specs.Syntax.{Statement, Declaration}
use Rattle.sim_tree.specs.Syntax.{Block as BlockSyntax}
use Rattle.sim_tree.specs.SyntaxOfProgram as t
use Rattle.sim_tree.specs.SyntaxOfProgram.{Arm, arms, Classed, Headed, statement_syntax, declaration_syntax, block_syntax, class_syntax, procedure_syntax, arm_syntax, program_syntax}

module _ (Says : Forest → Statement → Type 0) (Declares : Declared → Declaration → Type 0) (Blocks : Forest → BlockSyntax → Type 0) (Classes : Forest → Classed → Type 0) (Procedures : Forest → Headed → Type 0)
    (Arms : Forest → Arm → Type 0) where
  abbrev pub EachStatement : List Forest → List Statement → Type 0
  EachStatement [] [] = Unit {0}
  EachStatement (f ∷ fs) (e ∷ es) = Says f e × EachStatement fs es
  EachStatement _ _ = ⊥

  abbrev pub EachDeclaration : List Declared → List Declaration → Type 0
  EachDeclaration [] [] = Unit {0}
  EachDeclaration (f ∷ fs) (e ∷ es) = Declares f e × EachDeclaration fs es
  EachDeclaration _ _ = ⊥

  abbrev pub StmtClaim : Stmt → Type 0
  StmtClaim x = Says (statement_derivation x) (statement_syntax x)

  abbrev pub DeclClaim : Decl → Type 0
  DeclClaim x = Declares (declaration_derivation x) (declaration_syntax x)

  abbrev pub BlockClaim : Block → Type 0
  BlockClaim x = Blocks (block_derivation x) (block_syntax x)

  abbrev pub ClassClaim : Class → Type 0
  ClassClaim x = Classes (class_derivation x) (class_syntax x)

  abbrev pub ProcedureClaim : Procedure → Type 0
  ProcedureClaim x = Procedures (procedure_derivation x) (procedure_syntax x)

  abbrev pub WhenClaim : When → Type 0
  WhenClaim x = Arms (when_derivation x) (arm_syntax x)

  abbrev pub StmtPair : Type 0
  StmtPair = (x : Stmt) × StmtClaim x

  abbrev pub DeclPair : Type 0
  DeclPair = (x : Decl) × DeclClaim x

  abbrev pub BlockPair : Type 0
  BlockPair = (x : Block) × BlockClaim x

  abbrev pub ClassPair : Type 0
  ClassPair = (x : Class) × ClassClaim x

  abbrev pub ProcedurePair : Type 0
  ProcedurePair = (x : Procedure) × ProcedureClaim x

  abbrev pub WhenPair : Type 0
  WhenPair = (x : When) × WhenClaim x

  abbrev pub first_stmt : StmtPair → Stmt
  first_stmt x = x.0

  abbrev pub first_decl : DeclPair → Decl
  first_decl x = x.0

  abbrev pub first_block : BlockPair → Block
  first_block x = x.0

  abbrev pub first_class : ClassPair → Class
  first_class x = x.0

  abbrev pub first_procedure : ProcedurePair → Procedure
  first_procedure x = x.0

  abbrev pub first_when : WhenPair → When
  first_when x = x.0

  pub each_statement : (xs : List StmtPair) → EachStatement (map statement_derivation (map first_stmt xs)) (map statement_syntax (map first_stmt xs))
  each_statement [] = tt
  each_statement (x ∷ xs) = (x.1, each_statement xs)

  pub each_declaration : (xs : List DeclPair) → EachDeclaration (map declaration_derivation (map first_decl xs)) (map declaration_syntax (map first_decl xs))
  each_declaration [] = tt
  each_declaration (x ∷ xs) = (x.1, each_declaration xs)

  abbrev pub UnderStmt : Type 0
  UnderStmt = Stmt-F Decl Stmt Block Class Procedure When

  abbrev pub under_stmt : Stmt-F DeclPair StmtPair BlockPair ClassPair ProcedurePair WhenPair → UnderStmt
  under_stmt y = map-Stmt DeclPair StmtPair BlockPair ClassPair ProcedurePair WhenPair Decl Stmt Block Class Procedure When first_decl first_stmt first_block first_class first_procedure first_when y

  abbrev pub StmtLayer : UnderStmt → Type 0
  StmtLayer x =
      Says
      (d.stmt_layer (map-Stmt Decl Stmt Block Class Procedure When Declared Forest Forest Forest Forest Forest declaration_derivation statement_derivation block_derivation class_derivation procedure_derivation when_derivation x))
      (t.stmt_layer (map-Stmt Decl Stmt Block Class Procedure When Declaration Statement BlockSyntax Classed Headed Arm declaration_syntax statement_syntax block_syntax class_syntax procedure_syntax arm_syntax x))

  stmt_rolled : (x : UnderStmt) → StmtLayer x → StmtClaim (roll-Stmt x)
  unfolding statement_syntax declaration_syntax block_syntax class_syntax procedure_syntax arm_syntax
  stmt_rolled x h =
      subst (λ z. Says z (statement_syntax (roll-Stmt x))) (sym (fold-roll-Stmt Declared Forest Forest Forest Forest Forest d.decl_layer d.stmt_layer d.block_layer d.class_layer d.procedure_layer d.when_layer x))
      (subst (λ z. Says (d.stmt_layer (map-Stmt Decl Stmt Block Class Procedure When Declared Forest Forest Forest Forest Forest declaration_derivation statement_derivation block_derivation class_derivation procedure_derivation when_derivation x)) z)
      (sym (fold-roll-Stmt Declaration Statement BlockSyntax Classed Headed Arm t.decl_layer t.stmt_layer t.block_layer t.class_layer t.procedure_layer t.when_layer x)) h)

  abbrev pub UnderDecl : Type 0
  UnderDecl = Decl-F Decl Stmt Block Class Procedure When

  abbrev pub under_decl : Decl-F DeclPair StmtPair BlockPair ClassPair ProcedurePair WhenPair → UnderDecl
  under_decl y = map-Decl DeclPair StmtPair BlockPair ClassPair ProcedurePair WhenPair Decl Stmt Block Class Procedure When first_decl first_stmt first_block first_class first_procedure first_when y

  abbrev pub DeclLayer : UnderDecl → Type 0
  DeclLayer x =
      Declares
      (d.decl_layer (map-Decl Decl Stmt Block Class Procedure When Declared Forest Forest Forest Forest Forest declaration_derivation statement_derivation block_derivation class_derivation procedure_derivation when_derivation x))
      (t.decl_layer (map-Decl Decl Stmt Block Class Procedure When Declaration Statement BlockSyntax Classed Headed Arm declaration_syntax statement_syntax block_syntax class_syntax procedure_syntax arm_syntax x))

  decl_rolled : (x : UnderDecl) → DeclLayer x → DeclClaim (roll-Decl x)
  unfolding statement_syntax declaration_syntax block_syntax class_syntax procedure_syntax arm_syntax
  decl_rolled x h =
      subst (λ z. Declares z (declaration_syntax (roll-Decl x))) (sym (fold-roll-Decl Declared Forest Forest Forest Forest Forest d.decl_layer d.stmt_layer d.block_layer d.class_layer d.procedure_layer d.when_layer x))
      (subst (λ z. Declares (d.decl_layer (map-Decl Decl Stmt Block Class Procedure When Declared Forest Forest Forest Forest Forest declaration_derivation statement_derivation block_derivation class_derivation procedure_derivation when_derivation x)) z)
      (sym (fold-roll-Decl Declaration Statement BlockSyntax Classed Headed Arm t.decl_layer t.stmt_layer t.block_layer t.class_layer t.procedure_layer t.when_layer x)) h)

  abbrev pub UnderBlock : Type 0
  UnderBlock = Block-F Decl Stmt Block Class Procedure When

  abbrev pub under_block : Block-F DeclPair StmtPair BlockPair ClassPair ProcedurePair WhenPair → UnderBlock
  under_block y = map-Block DeclPair StmtPair BlockPair ClassPair ProcedurePair WhenPair Decl Stmt Block Class Procedure When first_decl first_stmt first_block first_class first_procedure first_when y

  abbrev pub BlockLayer : UnderBlock → Type 0
  BlockLayer x =
      Blocks
      (d.block_layer (map-Block Decl Stmt Block Class Procedure When Declared Forest Forest Forest Forest Forest declaration_derivation statement_derivation block_derivation class_derivation procedure_derivation when_derivation x))
      (t.block_layer (map-Block Decl Stmt Block Class Procedure When Declaration Statement BlockSyntax Classed Headed Arm declaration_syntax statement_syntax block_syntax class_syntax procedure_syntax arm_syntax x))

  block_rolled : (x : UnderBlock) → BlockLayer x → BlockClaim (roll-Block x)
  unfolding statement_syntax declaration_syntax block_syntax class_syntax procedure_syntax arm_syntax
  block_rolled x h =
      subst (λ z. Blocks z (block_syntax (roll-Block x))) (sym (fold-roll-Block Declared Forest Forest Forest Forest Forest d.decl_layer d.stmt_layer d.block_layer d.class_layer d.procedure_layer d.when_layer x))
      (subst (λ z. Blocks (d.block_layer (map-Block Decl Stmt Block Class Procedure When Declared Forest Forest Forest Forest Forest declaration_derivation statement_derivation block_derivation class_derivation procedure_derivation when_derivation x)) z)
      (sym (fold-roll-Block Declaration Statement BlockSyntax Classed Headed Arm t.decl_layer t.stmt_layer t.block_layer t.class_layer t.procedure_layer t.when_layer x)) h)

  abbrev pub UnderClass : Type 0
  UnderClass = Class-F Decl Stmt Block Class Procedure When

  abbrev pub under_class : Class-F DeclPair StmtPair BlockPair ClassPair ProcedurePair WhenPair → UnderClass
  under_class y = map-Class DeclPair StmtPair BlockPair ClassPair ProcedurePair WhenPair Decl Stmt Block Class Procedure When first_decl first_stmt first_block first_class first_procedure first_when y

  abbrev pub ClassLayer : UnderClass → Type 0
  ClassLayer x =
      Classes
      (d.class_layer (map-Class Decl Stmt Block Class Procedure When Declared Forest Forest Forest Forest Forest declaration_derivation statement_derivation block_derivation class_derivation procedure_derivation when_derivation x))
      (t.class_layer (map-Class Decl Stmt Block Class Procedure When Declaration Statement BlockSyntax Classed Headed Arm declaration_syntax statement_syntax block_syntax class_syntax procedure_syntax arm_syntax x))

  class_rolled : (x : UnderClass) → ClassLayer x → ClassClaim (roll-Class x)
  unfolding statement_syntax declaration_syntax block_syntax class_syntax procedure_syntax arm_syntax
  class_rolled x h =
      subst (λ z. Classes z (class_syntax (roll-Class x))) (sym (fold-roll-Class Declared Forest Forest Forest Forest Forest d.decl_layer d.stmt_layer d.block_layer d.class_layer d.procedure_layer d.when_layer x))
      (subst (λ z. Classes (d.class_layer (map-Class Decl Stmt Block Class Procedure When Declared Forest Forest Forest Forest Forest declaration_derivation statement_derivation block_derivation class_derivation procedure_derivation when_derivation x)) z)
      (sym (fold-roll-Class Declaration Statement BlockSyntax Classed Headed Arm t.decl_layer t.stmt_layer t.block_layer t.class_layer t.procedure_layer t.when_layer x)) h)

  abbrev pub UnderProcedure : Type 0
  UnderProcedure = Procedure-F Decl Stmt Block Class Procedure When

  abbrev pub under_procedure : Procedure-F DeclPair StmtPair BlockPair ClassPair ProcedurePair WhenPair → UnderProcedure
  under_procedure y = map-Procedure DeclPair StmtPair BlockPair ClassPair ProcedurePair WhenPair Decl Stmt Block Class Procedure When first_decl first_stmt first_block first_class first_procedure first_when y

  abbrev pub ProcedureLayer : UnderProcedure → Type 0
  ProcedureLayer x =
      Procedures
      (d.procedure_layer (map-Procedure Decl Stmt Block Class Procedure When Declared Forest Forest Forest Forest Forest declaration_derivation statement_derivation block_derivation class_derivation procedure_derivation when_derivation x))
      (t.procedure_layer (map-Procedure Decl Stmt Block Class Procedure When Declaration Statement BlockSyntax Classed Headed Arm declaration_syntax statement_syntax block_syntax class_syntax procedure_syntax arm_syntax x))

  procedure_rolled : (x : UnderProcedure) → ProcedureLayer x → ProcedureClaim (roll-Procedure x)
  unfolding statement_syntax declaration_syntax block_syntax class_syntax procedure_syntax arm_syntax
  procedure_rolled x h =
      subst (λ z. Procedures z (procedure_syntax (roll-Procedure x))) (sym (fold-roll-Procedure Declared Forest Forest Forest Forest Forest d.decl_layer d.stmt_layer d.block_layer d.class_layer d.procedure_layer d.when_layer x))
      (subst (λ z. Procedures (d.procedure_layer (map-Procedure Decl Stmt Block Class Procedure When Declared Forest Forest Forest Forest Forest declaration_derivation statement_derivation block_derivation class_derivation procedure_derivation when_derivation x)) z)
      (sym (fold-roll-Procedure Declaration Statement BlockSyntax Classed Headed Arm t.decl_layer t.stmt_layer t.block_layer t.class_layer t.procedure_layer t.when_layer x)) h)

  abbrev pub UnderWhen : Type 0
  UnderWhen = When-F Decl Stmt Block Class Procedure When

  abbrev pub under_when : When-F DeclPair StmtPair BlockPair ClassPair ProcedurePair WhenPair → UnderWhen
  under_when y = map-When DeclPair StmtPair BlockPair ClassPair ProcedurePair WhenPair Decl Stmt Block Class Procedure When first_decl first_stmt first_block first_class first_procedure first_when y

  abbrev pub WhenLayer : UnderWhen → Type 0
  WhenLayer x =
      Arms
      (d.when_layer (map-When Decl Stmt Block Class Procedure When Declared Forest Forest Forest Forest Forest declaration_derivation statement_derivation block_derivation class_derivation procedure_derivation when_derivation x))
      (t.when_layer (map-When Decl Stmt Block Class Procedure When Declaration Statement BlockSyntax Classed Headed Arm declaration_syntax statement_syntax block_syntax class_syntax procedure_syntax arm_syntax x))

  when_rolled : (x : UnderWhen) → WhenLayer x → WhenClaim (roll-When x)
  unfolding statement_syntax declaration_syntax block_syntax class_syntax procedure_syntax arm_syntax
  when_rolled x h =
      subst (λ z. Arms z (arm_syntax (roll-When x))) (sym (fold-roll-When Declared Forest Forest Forest Forest Forest d.decl_layer d.stmt_layer d.block_layer d.class_layer d.procedure_layer d.when_layer x))
      (subst (λ z. Arms (d.when_layer (map-When Decl Stmt Block Class Procedure When Declared Forest Forest Forest Forest Forest declaration_derivation statement_derivation block_derivation class_derivation procedure_derivation when_derivation x)) z)
      (sym (fold-roll-When Declaration Statement BlockSyntax Classed Headed Arm t.decl_layer t.stmt_layer t.block_layer t.class_layer t.procedure_layer t.when_layer x)) h)

  abbrev pub StmtStep : Type 0
  StmtStep = (y : Stmt-F DeclPair StmtPair BlockPair ClassPair ProcedurePair WhenPair) → StmtLayer (under_stmt y)

  abbrev pub DeclStep : Type 0
  DeclStep = (y : Decl-F DeclPair StmtPair BlockPair ClassPair ProcedurePair WhenPair) → DeclLayer (under_decl y)

  abbrev pub BlockStep : Type 0
  BlockStep = (y : Block-F DeclPair StmtPair BlockPair ClassPair ProcedurePair WhenPair) → BlockLayer (under_block y)

  abbrev pub ClassStep : Type 0
  ClassStep = (y : Class-F DeclPair StmtPair BlockPair ClassPair ProcedurePair WhenPair) → ClassLayer (under_class y)

  abbrev pub ProcedureStep : Type 0
  ProcedureStep = (y : Procedure-F DeclPair StmtPair BlockPair ClassPair ProcedurePair WhenPair) → ProcedureLayer (under_procedure y)

  abbrev pub WhenStep : Type 0
  WhenStep = (y : When-F DeclPair StmtPair BlockPair ClassPair ProcedurePair WhenPair) → WhenLayer (under_when y)

  pub each_block : StmtStep → DeclStep → BlockStep → ClassStep → ProcedureStep → WhenStep → (b : Block) → BlockClaim b
  each_block stmt decl block class procedure when =
      ind-Block DeclClaim StmtClaim BlockClaim ClassClaim ProcedureClaim WhenClaim (λ x y is. decl_rolled x (subst DeclLayer is (decl y))) (λ x y is. stmt_rolled x (subst StmtLayer is (stmt y)))
      (λ x y is. block_rolled x (subst BlockLayer is (block y))) (λ x y is. class_rolled x (subst ClassLayer is (class y))) (λ x y is. procedure_rolled x (subst ProcedureLayer is (procedure y)))
      (λ x y is. when_rolled x (subst WhenLayer is (when y)))
