-- In the tables of each program each class has its block.
use Rattle.std.proofs.Common.{ℕ, Bool, true, false, List, [], ◌∷◌, ◌++◌, length, Option, Some, None, refl, sym, ◌∙◌, if◌then◌else◌}
use Rattle.sim_tree.specs.declared.stmt.Mode.{Mode as Word}
use Rattle.sim_tree.specs.declared.expr.Identifier.{Identifier}
use Rattle.sim_tree.specs.declared.stmt.Constant.{Constant}
use Rattle.sim_tree.specs.declared.stmt.TypeName.{TypeName}
use Rattle.sim_tree.specs.declared.stmt.TypeName.TheVariants as type_name
use Rattle.sim_tree.specs.declared.stmt.Variable.{Variable}
use Rattle.sim_tree.specs.Syntax.{Arms, Arrayed, Begin, Block, Declaration, Declarations, Heading, Interface, NoDeclaration, Prefix, Program, Specified as Specifier, Statement, Statements, With}
use Rattle.sim_tree.specs.Syntax as s
use Rattle.sim_values.specs.declared.standard.Standard.{Standard}
use Rattle.sim_values.specs.declared.standard.TheConstants.{STANDARD_NAMES}
use Rattle.sim_values.specs.Standard.{row_of}
use Rattle.sim_scope.specs.declared.types.Entry.TheVariants as entry
use Rattle.sim_scope.specs.declared.types.StandardClass.{StandardClass}
use Rattle.sim_scope.specs.declared.types.StandardPrefix.{StandardPrefix}
use Rattle.sim_scope.specs.declared.types.StandardPrefix.TheVariants as prefix
use Rattle.sim_scope.specs.Building.{Declares, Mark, Provides}
use Rattle.sim_scope.specs.Declare.{array_marks, brings_class, brought_marks, class_marks, class_prefix_marks, declared_by, declaring, empty, headed_marks, heading_marks, inner_marks, interface_marks, is_written, marks_of_standard, mode_part_marks, moded_marks, parameter_marks, prefix_marks, prefixed_marks, procedure_marks, program_marks, protected_marks, protection_marks, provides_attribute, qualified_marks, qualified_result, segment_marks, specification_marks, specified_marks, standard_marks, type_named, variable_marks, virtual_marks, virtual_name_marks}
use Rattle.sim_scope.specs.Runs.{each}
use Rattle.sim_scope.specs.Standard.{classes_of_sets, classes_of_simulation, class_owning, is_provided, standard_prefix}
use Rattle.sim_scope.specs.declared.types.Position.{Position}
use Rattle.sim_scope.specs.declared.types.Position.TheVariants.{ClassBody, ClassStatement, Inside}
use Rattle.sim_scope.specs.Walk.{arms_events, block_events, class_events, declaration_events, declarations_events, program_events, statement_events, statements_events, whole_events}
use Rattle.scope_lists.specs.Classes.{HasBlocks}
use Rattle.scope_lists.proofs.ClassMarks.{Opened, class, class_of_row, none, plain, run_housed}

both : {xs ys : List Mark} → Opened xs → Opened ys → Opened (xs ++ ys)
both none o = o
both (plain p q) o = plain p (both q o)
both (class q) o = class (both q o)

every : {A : Type 0} (f : A → List Mark) → ((x : A) → Opened (f x)) → (xs : List A) → Opened (each f xs)
every f all [] = none
every f all (x ∷ xs) = both (all x) (every f all xs)

type_opened : (t : TypeName) → Opened (qualified_marks t)
unfolding qualified_marks
type_opened (type_name.Integer i) = none
type_opened (type_name.Boolean i) = none
type_opened (type_name.Character i) = none
type_opened (type_name.Text i) = none
type_opened (type_name.Reference i c) = plain tt none

result_opened : (o : Option TypeName) → Opened (qualified_result o)
unfolding qualified_result
result_opened None = none
result_opened (Some t) = type_opened t

variable_opened : (t : TypeName) (v : Variable) → Opened (variable_marks t v)
unfolding variable_marks
variable_opened t v = go v.value
  where
    go : (o : Option Constant) → Opened (elim o [ None ↦ Declares v.name (entry.Variable (type_named t)) ∷ qualified_marks t | Some c ↦ Declares v.name (entry.Constant (type_named t)) ∷ qualified_marks t ])
    go None = plain refl (type_opened t)
    go (Some c) = plain refl (type_opened t)

array_opened : (t : TypeName) (n : ℕ) (x : Identifier) → Opened (array_marks t n x)
unfolding array_marks
array_opened t n x = plain refl (type_opened t)

parameter_opened : (x : Identifier) → Opened (parameter_marks x)
unfolding parameter_marks
parameter_opened x = plain tt none

moded_opened : (m : Word) (x : Identifier) → Opened (moded_marks m x)
unfolding moded_marks
moded_opened m x = plain tt none

specified_opened : (k : Specifier) (x : Identifier) → Opened (specified_marks k x)
unfolding specified_marks
specified_opened (s.Simple t) x = plain tt (type_opened t)
specified_opened (s.Array t i) x = plain tt (type_opened t)
specified_opened (s.Procedure t i) x = plain tt (result_opened t)

headed_opened : (x : Identifier) → Opened (headed_marks x)
unfolding headed_marks
headed_opened x = plain tt none

heading_opened : (h : Heading) → Opened (heading_marks h)
heading_opened h =
    both (every parameter_marks parameter_opened h.formals)
    (both (every mode_part_marks (λ m. every (moded_marks m.mode) (moded_opened m.mode) m.names) h.modes)
    (both (every specification_marks (λ x. every (specified_marks x.kind) (specified_opened x.kind) x.names) h.specifications)
    (every headed_marks headed_opened h.formals)))

protected_opened : (hides keeps : Bool) (x : Identifier) → Opened (protected_marks hides keeps x)
unfolding protected_marks
protected_opened hides keeps x = plain tt none

virtual_opened : (t : Option TypeName) (x : Identifier) → Opened (virtual_name_marks t x)
unfolding virtual_name_marks
virtual_opened t x = plain refl (result_opened t)

interface_opened : (i : Interface) → Opened (interface_marks i)
interface_opened i =
    both (every protection_marks (λ p. every (protected_marks (is_written p.hidden) (is_written p.protected)) (protected_opened (is_written p.hidden) (is_written p.protected)) p.names) i.protections)
    (every virtual_marks (λ v. every (virtual_name_marks v.result) (virtual_opened v.result) v.names) i.virtuals)

brings_opened : (token : ℕ) (which : StandardClass) → Opened (brings_class token which)
unfolding brings_class
brings_opened token which = plain tt none

provides_opened : (which : StandardPrefix) (token : ℕ) (name : Standard) → Opened (provides_attribute which token name)
unfolding provides_attribute
provides_opened which token name = go (is_provided which (row_of name).owner)
  where
    go : (t : Bool) → Opened (if t then Provides (class_owning (row_of name).owner) name token ∷ [] else [])
    go true = plain tt none
    go false = none

brought_opened : (token : ℕ) (which : StandardPrefix) (classes : List StandardClass) → Opened (brought_marks token which classes)
unfolding brought_marks
brought_opened token which classes = both (every (brings_class token) (brings_opened token) classes) (every (provides_attribute which token) (provides_opened which token) STANDARD_NAMES)

standard_opened : (token : ℕ) (o : Option StandardPrefix) → Opened (marks_of_standard token o)
unfolding marks_of_standard
standard_opened token None = none
standard_opened token (Some prefix.Simset) = brought_opened token prefix.Simset classes_of_sets
standard_opened token (Some prefix.Simulation) = brought_opened token prefix.Simulation classes_of_simulation

prefix_opened : (first : ℕ) (x : Identifier) → Opened (prefix_marks first x)
unfolding prefix_marks standard_marks
prefix_opened first x = plain tt (standard_opened first (standard_prefix x.name))

class_prefix_opened : (first : ℕ) (o : Option Identifier) → Opened (class_prefix_marks first o)
unfolding class_prefix_marks
class_prefix_opened first None = none
class_prefix_opened first (Some x) = prefix_opened first x

class_opened : (o : Option Identifier) (token : ℕ) (x : Identifier) → Opened (class_marks o token x)
unfolding class_marks
class_opened o token x = class (class_prefix_opened x.token.0 o)

procedure_opened : (result : Option TypeName) (token : ℕ) (x : Identifier) → Opened (procedure_marks result token x)
unfolding procedure_marks
procedure_opened result token x = plain tt (both (result_opened result) (plain tt none))

prefixed_opened : (x : Identifier) (begin : ℕ) → Opened (prefixed_marks x begin)
unfolding prefixed_marks
prefixed_opened x begin = plain tt (prefix_opened begin x)

program_opened : (o : Option Prefix) (begin : ℕ) → Opened (program_marks o begin)
unfolding program_marks
program_opened None begin = plain tt none
program_opened (Some p) begin = prefixed_opened p.class begin

inner_opened : (p : Position) (token : ℕ) → Opened (inner_marks p token)
unfolding inner_marks
inner_opened ClassStatement token = plain tt none
inner_opened ClassBody token = plain tt none
inner_opened Inside token = plain tt none

mutual
  unfolding declaring

  statement_opened : (p : Position) (a : Statement) → Opened (statement_events declaring p a)
  statement_opened p (s.Empty i) = none
  statement_opened ClassBody (s.Compound b) = class_body_opened b
  statement_opened ClassStatement (s.Compound b) = block_opened b
  statement_opened Inside (s.Compound b) = block_opened b
  statement_opened p (s.Prefixed x es (Begin i ds ss e)) = both (prefixed_opened x i) (whole_opened (Begin i ds ss e))
  statement_opened p (s.Inner i) = inner_opened p i
  statement_opened p (s.Call x) = none
  statement_opened p (s.Assign l rest) = none
  statement_opened p (s.Choose i x a rest) = both (statement_opened Inside a) (statements_opened Inside rest)
  statement_opened p (s.Repeat i x a) = statement_opened Inside a
  statement_opened p (s.For i x g j es a) = statement_opened Inside a
  statement_opened p (s.Inspect i x d a e rest) = plain tt (both (statement_opened Inside a) (plain tt (statements_opened Inside rest)))
  statement_opened p (s.InspectWhen i x arms rest) = both (arms_opened arms) (statements_opened Inside rest)
  statement_opened p (s.Activate i w x t) = none

  statements_opened : (p : Position) (ss : Statements) → Opened (statements_events declaring p ss)
  statements_opened p s.NoStatement = none
  statements_opened p (s.Also a ss) = both (statement_opened p a) (statements_opened p ss)

  arms_opened : (a : Arms) → Opened (arms_events declaring a)
  arms_opened s.NoArm = none
  arms_opened (s.When i x d a e others) = plain tt (both (both (statement_opened Inside a) (plain tt none)) (arms_opened others))

  block_opened : (b : Block) → Opened (block_events declaring b)
  block_opened (Begin i NoDeclaration ss e) = statements_opened Inside ss
  block_opened (Begin i (With d ds) ss e) = plain tt (both (both (declarations_opened (With d ds)) (statements_opened Inside ss)) (plain tt none))

  whole_opened : (b : Block) → Opened (whole_events declaring b)
  whole_opened (Begin i ds ss e) = both (declarations_opened ds) (both (statements_opened Inside ss) (plain tt none))

  class_body_opened : (b : Block) → Opened (class_events declaring b)
  class_body_opened (Begin i ds ss e) = both (declarations_opened ds) (statements_opened ClassStatement ss)

  declarations_opened : (ds : Declarations) → Opened (declarations_events declaring ds)
  declarations_opened NoDeclaration = none
  declarations_opened (With d ds) = both (declaration_opened d) (declarations_opened ds)

  declaration_opened : (d : Declaration) → Opened (declaration_events declaring d)
  declaration_opened (s.Variables t vs) = every (variable_marks t) (variable_opened t) vs
  declaration_opened (s.Arrays t i segments) = every (segment_marks t) (λ a. every (array_marks t (length a.bounds)) (array_opened t (length a.bounds)) a.names) segments
  declaration_opened (s.DeclareProcedure result i h a e) = both (both (procedure_opened result i h.name) (heading_opened h)) (both (statement_opened Inside a) (plain tt none))
  declaration_opened (s.DeclareClass o i h interface a e) =
      both (both (class_opened o i h.name) (both (heading_opened h) (interface_opened interface))) (both (statement_opened ClassBody a) (plain tt none))

events_opened : (o : Option Prefix) (b : Block) → Opened (program_events declaring (record { prefix = o; block = b }))
unfolding program_events declaring
events_opened o (Begin i ds ss e) = both (program_opened o i) (whole_opened (Begin i ds ss e))

pub declared_blocks : (p : Program) → HasBlocks (declared_by p).tables
unfolding declared_by
declared_blocks p d k is =
    run_housed (program_events declaring p) empty (events_opened p.prefix p.block) (λ i k e. absurd (cc)) d.0 k (sym (class_of_row (declared_by p).tables d) ∙ is)
