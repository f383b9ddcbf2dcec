-- What a program declares, read from left to right.
use Rattle.std.specs.Prelude.{ℕ, Bool, true, false, if◌then◌else◌, List, [], ◌∷◌, ◌++◌, length, Option, Some, None}
use Rattle.sim_tree.specs.declared.expr.Identifier.{Identifier}
use Rattle.sim_tree.specs.declared.program.Program.{Program as Tree}
use Rattle.sim_tree.specs.declared.stmt.ArraySegment.{ArraySegment}
use Rattle.sim_tree.specs.declared.stmt.ModePart.{ModePart as ModeTree}
use Rattle.sim_tree.specs.declared.stmt.Specification.{Specification as SpecificationTree}
use Rattle.sim_tree.specs.declared.stmt.Protection.{Protection as ProtectionTree}
use Rattle.sim_tree.specs.declared.stmt.Specifier.{Specifier as SpecifierTree}
use Rattle.sim_tree.specs.declared.stmt.VirtualSpecification.{VirtualSpecification}
use Rattle.sim_tree.specs.declared.stmt.Mode.{Mode as Word}
use Rattle.sim_tree.specs.declared.stmt.Mode.TheVariants as word
use Rattle.sim_tree.specs.declared.stmt.TypeName.{TypeName}
use Rattle.sim_tree.specs.declared.stmt.TypeName.TheVariants as type_name
use Rattle.sim_tree.specs.declared.stmt.Variable.{Variable}
use Rattle.sim_tree.specs.Syntax.{Arrayed, Moded as ModePart, Specified as Specifier, Simple, Array, Procedure, Specification, Heading, Interface, Protected, Virtual, Prefix, Program}
use Rattle.sim_tree.specs.SyntaxOfProgram.{mode_syntax, program_syntax, protection_syntax, segment_syntax, specification_syntax, specifier_syntax, virtual_syntax}
use Rattle.sim_base.specs.declared.rule.Rule.TheVariants as r
use Rattle.sim_scope.specs.declared.types.BlockKind.TheVariants as kind
use Rattle.sim_scope.specs.declared.types.Entry.TheVariants as entry
use Rattle.sim_scope.specs.declared.types.FormalKind.TheVariants as formal_kind
use Rattle.sim_scope.specs.declared.types.Mode.{Mode}
use Rattle.sim_scope.specs.declared.types.Mode.TheVariants as mode
use Rattle.sim_scope.specs.declared.types.Position.{Position}
use Rattle.sim_scope.specs.declared.types.Position.TheVariants.{ClassBody, ClassStatement, Inside}
use Rattle.sim_scope.specs.declared.types.SimType.{SimType}
use Rattle.sim_scope.specs.declared.types.SimType.TheVariants as t
use Rattle.sim_scope.specs.declared.types.StandardClass.{StandardClass}
use Rattle.sim_scope.specs.declared.types.StandardPrefix.{StandardPrefix}
use Rattle.sim_scope.specs.declared.types.StandardPrefix.TheVariants as prefix
use Rattle.sim_scope.specs.Building.{BuildingOf, Mark, Opens, Closes, Declares, DeclaresProcedure, DeclaresClass, Parameter, Moded, Specified, Headed, Qualifies, Prefixes, Brings, Provides, Protects, Inner, Breaks, marked}
use Rattle.sim_scope.specs.Runs.{each, run}
use Rattle.sim_scope.specs.Standard.{class_owning, classes_of_sets, classes_of_simulation, is_provided, standard_prefix}
use Rattle.sim_values.specs.declared.standard.Standard.{Standard}
use Rattle.sim_values.specs.declared.standard.TheConstants.{STANDARD_NAMES}
use Rattle.sim_values.specs.Standard.{row_of}
use Rattle.sim_scope.specs.Walk.{Visit, program_events}

-- Types and modes as they are written. The class of a `ref` is not looked for yet.
unfoldable pub type_named : TypeName → SimType
type_named (type_name.Integer i) = t.Integer
type_named (type_name.Boolean i) = t.Boolean
type_named (type_name.Character i) = t.Character
type_named (type_name.Text i) = t.Text
type_named (type_name.Reference i class) = t.NoneType

unfoldable pub result_named : Option TypeName → Option SimType
result_named None = None
result_named (Some name) = Some (type_named name)

unfoldable pub mode_named : Word → Mode
mode_named word.Value = mode.ByValue
mode_named word.Name = mode.ByName

-- The first token of a typed procedure is its type, of a prefixed class its prefix.
abbrev pub token_of : TypeName → ℕ
token_of (type_name.Integer i) = i.0
token_of (type_name.Boolean i) = i.0
token_of (type_name.Character i) = i.0
token_of (type_name.Text i) = i.0
token_of (type_name.Reference i class) = i.0

unfoldable pub first_of_procedure : Option TypeName → (token : ℕ) → ℕ
first_of_procedure None token = token
first_of_procedure (Some type) token = token_of type

unfoldable pub first_of_class : Option Identifier → (token : ℕ) → ℕ
first_of_class None token = token
first_of_class (Some prefix) token = prefix.token.0

-- the class of a `ref`, written for what is declared
unfoldable pub qualified_marks : TypeName → List Mark
qualified_marks (type_name.Reference i class) = Qualifies class ∷ []
qualified_marks type = []

unfoldable pub qualified_result : Option TypeName → List Mark
qualified_result None = []
qualified_result (Some type) = qualified_marks type

-- Declarations.
-- a variable, or a constant where a value is given
unfoldable pub variable_marks : TypeName → Variable → List Mark
variable_marks type v =
    (elim v.value [ None ↦ Declares v.name (entry.Variable (type_named type)) ∷ qualified_marks type | Some c ↦ Declares v.name (entry.Constant (type_named type)) ∷ qualified_marks type ])

unfoldable pub array_marks : TypeName → (dimensions : ℕ) → Identifier → List Mark
array_marks type dimensions x = Declares x (entry.Array (type_named type) dimensions) ∷ qualified_marks type

abbrev pub segment_marks : TypeName → Arrayed → List Mark
segment_marks type a = each (array_marks type (length a.bounds)) a.names

-- Headings.
unfoldable pub parameter_marks : Identifier → List Mark
parameter_marks x = Parameter x ∷ []

unfoldable pub moded_marks : Word → Identifier → List Mark
moded_marks m x = Moded x (mode_named m) ∷ []

abbrev pub mode_part_marks : ModePart → List Mark
mode_part_marks m = each (moded_marks m.mode) m.names

unfoldable pub specified_marks : Specifier → Identifier → List Mark
specified_marks (Simple type) x = Specified x formal_kind.Simple (Some (type_named type)) ∷ qualified_marks type
specified_marks (Array type token) x = Specified x formal_kind.Array (Some (type_named type)) ∷ qualified_marks type
specified_marks (Procedure result token) x = Specified x formal_kind.Procedure (result_named result) ∷ qualified_result result

abbrev pub specification_marks : Specification → List Mark
specification_marks s = each (specified_marks s.kind) s.names

unfoldable pub headed_marks : Identifier → List Mark
headed_marks x = Headed x ∷ []

-- the parameters, then the parts that say their modes and what they are
abbrev pub heading_marks : Heading → List Mark
heading_marks h =
    each parameter_marks h.formals ++ (each mode_part_marks h.modes ++ (each specification_marks h.specifications ++ each headed_marks h.formals))

-- The identifier is declared outside; inside stand the parameters.
unfoldable pub procedure_marks : Option TypeName → (token : ℕ) → Identifier → List Mark
procedure_marks result token x =
    DeclaresProcedure x (result_named result) ∷ (qualified_result result ++ Opens kind.Procedure (first_of_procedure result token) x.token.0 ∷ [])

-- What `simset` and `simulation` declare: their classes first, then the attributes of these, and then their own.
unfoldable pub brings_class : (token : ℕ) → StandardClass → List Mark
brings_class token which = Brings which token ∷ []

unfoldable pub provides_attribute : StandardPrefix → (token : ℕ) → Standard → List Mark
provides_attribute which token name = if is_provided which (row_of name).owner then Provides (class_owning (row_of name).owner) name token ∷ [] else []

unfoldable pub brought_marks : (token : ℕ) → StandardPrefix → List StandardClass → List Mark
brought_marks token which classes = each (brings_class token) classes ++ each (provides_attribute which token) STANDARD_NAMES

-- what a prefix declares in its block, where it turns out to be the standard one of this name
unfoldable pub marks_of_standard : (token : ℕ) → Option StandardPrefix → List Mark
marks_of_standard token None = []
marks_of_standard token (Some prefix.Simset) = brought_marks token prefix.Simset classes_of_sets
marks_of_standard token (Some prefix.Simulation) = brought_marks token prefix.Simulation classes_of_simulation

unfoldable pub standard_marks : (token : ℕ) → List ℕ → List Mark
standard_marks token name = marks_of_standard token (standard_prefix name)

-- a prefix in front of the block that has begun at a token
unfoldable pub prefix_marks : (first : ℕ) → Identifier → List Mark
prefix_marks first class = Prefixes class ∷ standard_marks first class.name

unfoldable pub class_prefix_marks : (first : ℕ) → Option Identifier → List Mark
class_prefix_marks first None = []
class_prefix_marks first (Some prefix) = prefix_marks first prefix

unfoldable pub class_marks : Option Identifier → (token : ℕ) → Identifier → List Mark
class_marks prefix token x =
    DeclaresClass x ∷ Opens kind.Class (first_of_class prefix token) x.token.0 ∷ class_prefix_marks x.token.0 prefix

unfoldable pub prefixed_marks : (class : Identifier) → (begin : ℕ) → List Mark
prefixed_marks class begin = Opens kind.Prefixed class.token.0 begin ∷ prefix_marks begin class

-- the attributes that a class hides or protects
abbrev pub is_written : Option ℕ → Bool
is_written None = false
is_written (Some token) = true

unfoldable pub protected_marks : (hides keeps : Bool) → Identifier → List Mark
protected_marks hides keeps x = Protects hides keeps x ∷ []

abbrev pub protection_marks : Protected → List Mark
protection_marks p = each (protected_marks (is_written p.hidden) (is_written p.protected)) p.names

-- the virtual procedures of a class
unfoldable pub virtual_name_marks : Option TypeName → Identifier → List Mark
virtual_name_marks result x = Declares x (entry.Virtual (result_named result) None) ∷ qualified_result result

abbrev pub virtual_marks : Virtual → List Mark
virtual_marks v = each (virtual_name_marks v.result) v.names

abbrev pub interface_marks : Interface → List Mark
interface_marks i = each protection_marks i.protections ++ each virtual_marks i.virtuals

unfoldable pub program_marks : Option Prefix → (begin : ℕ) → List Mark
program_marks None begin = Opens kind.Program begin begin ∷ []
program_marks (Some p) begin = prefixed_marks p.class begin

unfoldable pub inner_marks : Position → (token : ℕ) → List Mark
inner_marks ClassStatement token = Inner token ∷ []
inner_marks ClassBody token = Breaks token r.InnerOutOfPlace ∷ []
inner_marks Inside token = Breaks token r.InnerOutOfPlace ∷ []

-- What the parts of a program declare.
unfoldable pub declaring : Visit Mark
declaring = record {
  program = program_marks;
  block = λ begin. Opens kind.SubBlock begin begin ∷ [];
  prefixed = λ class arguments begin. prefixed_marks class begin;
  procedure = λ result token h. procedure_marks result token h.name ++ heading_marks h;
  class = λ prefix token h i. class_marks prefix token h.name ++ (heading_marks h ++ interface_marks i);
  connected = λ opening. Opens kind.Connection opening opening ∷ [];
  leave = λ end. Closes end ∷ [];
  variables = λ type vs. each (variable_marks type) vs;
  arrays = λ type segments. each (segment_marks type) segments;
  inner = inner_marks;
  call = λ e. [];
  assign = λ left rest. [];
  condition = λ e. [];
  control = λ x sign token es. [];
  inspect = λ token object. [];
  inspect_when = λ token object classes. [];
  arm = λ class. [];
  activate = λ token word process schedule. [];
}

-- The same of the trees.
unfoldable pub of_segment : TypeName → ArraySegment → List Mark
of_segment type a = segment_marks type (segment_syntax a)

unfoldable pub of_mode_part : ModeTree → List Mark
of_mode_part m = mode_part_marks (mode_syntax m)

unfoldable pub of_specification : SpecificationTree → List Mark
of_specification x = specification_marks (specification_syntax x)

unfoldable pub of_specifier : SpecifierTree → Identifier → List Mark
of_specifier x name = specified_marks (specifier_syntax x) name

unfoldable pub of_virtual : VirtualSpecification → List Mark
of_virtual v = virtual_marks (virtual_syntax v)

unfoldable pub of_protection : ProtectionTree → List Mark
of_protection p = protection_marks (protection_syntax p)

unfoldable pub of_heading : List Identifier → List ModeTree → List SpecificationTree → List Mark
of_heading formals modes specifications =
    each parameter_marks formals ++ (each of_mode_part modes ++ (each of_specification specifications ++ each headed_marks formals))

-- no tables yet
abbrev pub empty : BuildingOf
empty = record {
  tables = record { blocks = []; declarations = []; places = []; qualifications = []; protections = [] };
  own = 0;
  current = None;
  latest = None;
  least = None;
}

-- the first round: the tables of a program, and the first rule that its declarations break
unfoldable pub declared_by : Program → BuildingOf
declared_by p = run marked empty (program_events declaring p)

unfoldable pub declarations_of : Tree → BuildingOf
declarations_of p = declared_by (program_syntax p)
