-- The abstract syntax that the trees of statements, declarations and programs stand for.
use Rattle.std.specs.Prelude.{ℕ, List, [], ◌∷◌, map, Option, Some, None, option_map}
use Rattle.std.specs.declared.alloc.Global.{Global}
use Rattle.std.specs.declared.boxed.Box.{Box}
use Rattle.sim_base.specs.declared.numbering.TokenNo.{TokenNo}
use Rattle.sim_tree.specs.declared.expr.Identifier.{Identifier}
use Rattle.sim_tree.specs.declared.program.BlockPrefix.{BlockPrefix}
use Rattle.sim_tree.specs.declared.program.Program.{Program as ProgramTree}
use Rattle.sim_tree.specs.declared.stmt.ArraySegment.{ArraySegment}
use Rattle.sim_tree.specs.declared.stmt.Assigned.{Assigned}
use Rattle.sim_tree.specs.declared.stmt.Assignment.TheVariants as assignment
use Rattle.sim_tree.specs.declared.stmt.Block.{Block}
use Rattle.sim_tree.specs.declared.stmt.Bounds.{Bounds}
use Rattle.sim_tree.specs.declared.stmt.Class.{Class}
use Rattle.sim_tree.specs.declared.stmt.Decl.{Decl}
use Rattle.sim_tree.specs.declared.stmt.Decl.TheFolds.{fold-Stmt, fold-Decl, fold-Block, fold-Class, fold-Procedure, fold-When}
use Rattle.sim_tree.specs.declared.stmt.Decl.TheOpen.{Stmt-F, Decl-F, Block-F, Class-F, Procedure-F, When-F}
use Rattle.sim_tree.specs.declared.stmt.ForElement.{ForElement}
use Rattle.sim_tree.specs.declared.stmt.ForElement.TheVariants as for_element
use Rattle.sim_tree.specs.declared.stmt.ModePart.{ModePart}
use Rattle.sim_tree.specs.declared.stmt.Procedure.{Procedure}
use Rattle.sim_tree.specs.declared.stmt.Protection.{Protection}
use Rattle.sim_tree.specs.declared.stmt.ReferenceElement.{ReferenceElement}
use Rattle.sim_tree.specs.declared.stmt.ReferenceElement.TheVariants as reference_element
use Rattle.sim_tree.specs.declared.stmt.Specification.{Specification as SpecificationTree}
use Rattle.sim_tree.specs.declared.stmt.Specifier.{Specifier}
use Rattle.sim_tree.specs.declared.stmt.Specifier.TheVariants as specifier
use Rattle.sim_tree.specs.declared.stmt.Stmt.{Stmt}
use Rattle.sim_tree.specs.declared.stmt.Timing.{Timing}
use Rattle.sim_tree.specs.declared.stmt.Timing.TheVariants as timing
use Rattle.sim_tree.specs.declared.stmt.TypeName.{TypeName}
use Rattle.sim_tree.specs.declared.stmt.VirtualSpecification.{VirtualSpecification}
use Rattle.sim_tree.specs.declared.stmt.When.{When as WhenTree}
use Rattle.sim_tree.specs.Syntax as s
use Rattle.sim_tree.specs.Syntax.{Expression, Expressions, expressions, RightSide, Element, Schedule, BoundPair, Arrayed, Moded, Specified, Specification, Heading, Protected, Virtual, Interface, Statement, Statements, NoStatement, Also, statements, Arms, NoArm, When, Begin, Declaration, Declarations, declarations, Prefix, Program}
use Rattle.sim_tree.specs.Syntax.{Block as BlockSyntax}
use Rattle.sim_tree.specs.SyntaxOf.{syntax_of}

-- Parts of statements.
abbrev pub right_side_syntax : Assigned → RightSide
right_side_syntax a = record { sign = a.sign; token = a.token.0; value = syntax_of a.value }

abbrev pub element_syntax : ForElement → Element
element_syntax (for_element.Value value) = s.Once (syntax_of value)
element_syntax (for_element.Step start i step limit) = s.Step (syntax_of start) i.0 (syntax_of step) (syntax_of limit)
element_syntax (for_element.While value i condition) = s.While (syntax_of value) i.0 (syntax_of condition)

abbrev pub reference_element_syntax : ReferenceElement → Element
reference_element_syntax (reference_element.Value value) = s.Once (syntax_of value)
reference_element_syntax (reference_element.While value i condition) = s.While (syntax_of value) i.0 (syntax_of condition)

abbrev pub number_of : TokenNo → ℕ
number_of i = i.0

abbrev pub timing_syntax : Timing → Schedule
timing_syntax (timing.At i time prior) = s.At i.0 (syntax_of time) (option_map number_of prior)
timing_syntax (timing.Delay i time prior) = s.Delay i.0 (syntax_of time) (option_map number_of prior)
timing_syntax (timing.Before i process) = s.Before i.0 (syntax_of process)
timing_syntax (timing.After i process) = s.After i.0 (syntax_of process)

abbrev pub schedule_syntax : Option Timing → Schedule
schedule_syntax None = s.Now
schedule_syntax (Some t) = timing_syntax t

-- Parts of declarations.
abbrev pub bound_pair_syntax : Bounds → BoundPair
bound_pair_syntax b = record { lower = syntax_of b.lower; upper = syntax_of b.upper }

abbrev pub segment_syntax : ArraySegment → Arrayed
segment_syntax a = record { names = a.names.items; bounds = map bound_pair_syntax a.bounds.items }

abbrev pub mode_syntax : ModePart → Moded
mode_syntax m = record { token = m.token.0; mode = m.mode; names = m.names.items }

abbrev pub specifier_syntax : Specifier → Specified
specifier_syntax (specifier.Simple t) = s.Simple t
specifier_syntax (specifier.Array t i) = s.Array t i.0
specifier_syntax (specifier.Procedure result i) = s.Procedure result i.0

abbrev pub specification_syntax : SpecificationTree → Specification
specification_syntax x = record { kind = specifier_syntax x.specifier; names = x.names.items }

abbrev pub heading_syntax : Identifier → List Identifier → List ModePart → List SpecificationTree → Heading
heading_syntax name formals modes specifications =
    record { name = name; formals = formals; modes = map mode_syntax modes; specifications = map specification_syntax specifications }

abbrev pub protection_syntax : Protection → Protected
protection_syntax p = record { hidden = option_map number_of p.hidden; protected = option_map number_of p.protected; names = p.names.items }

abbrev pub virtual_syntax : VirtualSpecification → Virtual
virtual_syntax v = record { result = v.result; token = v.token.0; names = v.names.items }

abbrev pub interface_syntax : List Protection → List VirtualSpecification → Interface
interface_syntax protections virtuals = record { protections = map protection_syntax protections; virtuals = map virtual_syntax virtuals }

-- Statements, blocks, declarations.

-- an arm of `inspect`, before the arms behind it
pub record Arm : Type 0 where
  pub token : ℕ
  pub class : Identifier
  pub opening : ℕ
  pub body : Statement
  pub end : ℕ

abbrev pub arms : List Arm → Arms
arms [] = NoArm
arms (a ∷ others) = When a.token a.class a.opening a.body a.end (arms others)

abbrev pub branch : Option (Box Statement Global) → Statements
branch None = NoStatement
branch (Some x) = Also x.value NoStatement

-- a procedure without its result, a class without its prefix
abbrev pub Headed : Type 0
Headed = Option TypeName → ℕ → Declaration

abbrev pub Classed : Type 0
Classed = Option Identifier → ℕ → Declaration

abbrev pub block_layer : Block-F Declaration Statement BlockSyntax Classed Headed Arm → BlockSyntax
block_layer b = Begin b.token.0 (declarations b.declarations.items) (statements b.statements.items) b.end.0

abbrev pub procedure_layer : Procedure-F Declaration Statement BlockSyntax Classed Headed Arm → Headed
procedure_layer p result token =
    s.DeclareProcedure result token (heading_syntax p.name p.parameters.items p.modes.items p.specifications.items) p.body.value p.end.0

abbrev pub class_layer : Class-F Declaration Statement BlockSyntax Classed Headed Arm → Classed
class_layer c prefix token =
    s.DeclareClass prefix token (heading_syntax c.name c.parameters.items c.modes.items c.specifications.items)
    (interface_syntax c.protections.items c.virtuals.items) c.body.value c.end.0

abbrev pub when_layer : When-F Declaration Statement BlockSyntax Classed Headed Arm → Arm
when_layer w = record { token = w.token.0; class = w.class; opening = w.opening.0; body = w.body; end = w.end.0 }

abbrev pub decl_layer : Decl-F Declaration Statement BlockSyntax Classed Headed Arm → Declaration
decl_layer (Decl-F.Variables t vs) = s.Variables t vs.items
decl_layer (Decl-F.Arrays t i segments) = s.Arrays t i.0 (map segment_syntax segments.items)
decl_layer (Decl-F.Procedure result i p) = p result i.0
decl_layer (Decl-F.Class prefix i c) = c prefix i.0

abbrev pub stmt_layer : Stmt-F Declaration Statement BlockSyntax Classed Headed Arm → Statement
stmt_layer (Stmt-F.Empty i) = s.Empty i.0
stmt_layer (Stmt-F.Block b) = s.Compound b
stmt_layer (Stmt-F.PrefixedBlock p b) = s.Prefixed p.class (expressions (map syntax_of p.arguments.items)) b
stmt_layer (Stmt-F.Inner i) = s.Inner i.0
stmt_layer (Stmt-F.Call e) = s.Call (syntax_of e)
stmt_layer (Stmt-F.Assignment left rest) = s.Assign (syntax_of left) (map right_side_syntax rest.items)
stmt_layer (Stmt-F.If i condition first second) = s.Choose i.0 (syntax_of condition) first.value (branch second)
stmt_layer (Stmt-F.While i condition body) = s.Repeat i.0 (syntax_of condition) body.value
stmt_layer (Stmt-F.For i x sign elements body) = s.For i.0 x assignment.Value sign.0 (map element_syntax elements.items) body.value
stmt_layer (Stmt-F.ForReference i x sign elements body) =
    s.For i.0 x assignment.Reference sign.0 (map reference_element_syntax elements.items) body.value
stmt_layer (Stmt-F.Inspect i object opening body end otherwise) = s.Inspect i.0 (syntax_of object) opening.0 body.value end.0 (branch otherwise)
stmt_layer (Stmt-F.InspectWhen i object whens otherwise) = s.InspectWhen i.0 (syntax_of object) (arms whens.items) (branch otherwise)
stmt_layer (Stmt-F.Activation i word process timing) = s.Activate i.0 word (syntax_of process) (schedule_syntax timing)

unfoldable pub statement_syntax : Stmt → Statement
statement_syntax = fold-Stmt Declaration Statement BlockSyntax Classed Headed Arm decl_layer stmt_layer block_layer class_layer procedure_layer when_layer

unfoldable pub declaration_syntax : Decl → Declaration
declaration_syntax = fold-Decl Declaration Statement BlockSyntax Classed Headed Arm decl_layer stmt_layer block_layer class_layer procedure_layer when_layer

unfoldable pub block_syntax : Block → BlockSyntax
block_syntax = fold-Block Declaration Statement BlockSyntax Classed Headed Arm decl_layer stmt_layer block_layer class_layer procedure_layer when_layer

unfoldable pub class_syntax : Class → Classed
class_syntax = fold-Class Declaration Statement BlockSyntax Classed Headed Arm decl_layer stmt_layer block_layer class_layer procedure_layer when_layer

unfoldable pub procedure_syntax : Procedure → Headed
procedure_syntax = fold-Procedure Declaration Statement BlockSyntax Classed Headed Arm decl_layer stmt_layer block_layer class_layer procedure_layer when_layer

unfoldable pub arm_syntax : WhenTree → Arm
arm_syntax = fold-When Declaration Statement BlockSyntax Classed Headed Arm decl_layer stmt_layer block_layer class_layer procedure_layer when_layer

-- the statement of a branch, where there is one
abbrev pub branch_syntax : Option (Box Stmt Global) → Statements
branch_syntax None = NoStatement
branch_syntax (Some x) = Also (statement_syntax x.value) NoStatement

abbrev pub prefix_syntax : BlockPrefix → Prefix
prefix_syntax p = record { class = p.class; arguments = expressions (map syntax_of p.arguments.items) }

-- the abstract syntax of a program
unfoldable pub program_syntax : ProgramTree → Program
program_syntax p = record { prefix = option_map prefix_syntax p.prefix; block = block_syntax p.block }
