-- The standard names: which are seen where, the types of their operands, and the type of their result. And the names that are left out.
use Rattle.std.specs.Prelude.{◌≡◌, ◌&&◌, drop, ℕ, Bool, true, false, if◌then◌else◌, List, [], ◌∷◌, Option, Some, None, codes, slice_get}
use Rattle.std.specs.List.{list_any}
use Rattle.std.specs.Str.{bytes_eq}
use Rattle.sim_base.specs.declared.rule.Rule.{Rule}
use Rattle.sim_base.specs.declared.rule.Rule.TheVariants as rule
use Rattle.sim_values.specs.declared.standard.Owner.{Owner}
use Rattle.sim_values.specs.declared.standard.Owner.TheVariants as owner
use Rattle.sim_values.specs.declared.standard.Standard.{Standard}
use Rattle.sim_values.specs.declared.standard.StandardType.{StandardType}
use Rattle.sim_values.specs.declared.standard.StandardType.TheVariants as of
use Rattle.sim_values.specs.declared.standard.TheConstants.{STANDARD_NAMES}
use Rattle.sim_values.specs.Standard.{row_of}
use Rattle.sim_scope.specs.declared.standard.Place.{Place}
use Rattle.sim_scope.specs.declared.standard.Place.TheVariants as place
use Rattle.sim_scope.specs.declared.standard.Signature.{Signature}
use Rattle.sim_scope.specs.declared.standard.StandardName.{StandardName}
use Rattle.sim_scope.specs.declared.standard.StandardName.TheVariants as standard
use Rattle.sim_scope.specs.declared.types.SimType.{SimType}
use Rattle.sim_scope.specs.declared.types.SimType.TheVariants as t
use Rattle.sim_scope.specs.declared.types.StandardClass.{StandardClass}
use Rattle.sim_scope.specs.declared.types.StandardClass.TheVariants as class
use Rattle.sim_scope.specs.declared.types.StandardPrefix.{StandardPrefix}
use Rattle.sim_scope.specs.declared.types.StandardPrefix.TheVariants as prefix

-- Which names are seen at a place, by where the table has them. Alone `pos`, `setpos`, `more`, `length` and `image` are those of sysout.
abbrev pub is_seen : Place → Owner → Bool
is_seen place.Alone owner.Environment = true
is_seen place.Alone owner.Sysin = true
is_seen place.Alone owner.Sysout = true
is_seen place.Alone owner.Images = true
is_seen place.Alone owner.Object = true
is_seen place.Text owner.Text = true
is_seen place.Sysin owner.Sysin = true
is_seen place.Sysin owner.Images = true
is_seen place.Sysout owner.Sysout = true
is_seen place.Sysout owner.Images = true
is_seen _ _ = false

abbrev pub is_named : Place → List ℕ → Standard → Bool
is_named place name x = is_seen place (row_of x).owner && bytes_eq name (row_of x).spelling

-- the first of these names that is seen at a place, and spelt so
abbrev pub first_named : Place → List ℕ → List Standard → Option Standard
first_named place name [] = None
first_named place name (x ∷ xs) = if is_named place name x then Some x else first_named place name xs

unfoldable pub Names : Place → List ℕ → List Standard → Option Standard → Type 0
Names place name table standard = standard ≡ first_named place name table

-- in a loop: the name is not among those before this one
unfoldable pub Passes : Place → List ℕ → List Standard → ℕ → Type 0
Passes place name table i = first_named place name table ≡ first_named place name (drop i table)

-- the standard prefix of this name
unfoldable pub standard_prefix : List ℕ → Option StandardPrefix
standard_prefix name =
    if bytes_eq name (codes "simset") then Some prefix.Simset
    else if bytes_eq name (codes "simulation") then Some prefix.Simulation
    else None

-- `sysin` and `sysout` stand only before a dot, and the prefixes are classes: the table has none of these
abbrev pub prefix_or_none : Option StandardPrefix → Option StandardName
prefix_or_none None = None
prefix_or_none (Some which) = Some (standard.Prefix which)

abbrev pub named_beside : List ℕ → Option StandardName
named_beside name =
    if bytes_eq name (codes "sysin") then Some standard.Sysin
    else if bytes_eq name (codes "sysout") then Some standard.Sysout
    else prefix_or_none (standard_prefix name)

abbrev pub procedure_or : Option Standard → Option StandardName → Option StandardName
procedure_or None other = other
procedure_or (Some x) other = Some (standard.Procedure x)

-- what a name written alone stands for, where the program does not declare it
unfoldable pub standard_name : List ℕ → Option StandardName
standard_name name = procedure_or (first_named place.Alone name STANDARD_NAMES) (named_beside name)

-- The attributes of texts, of sysin and of sysout, which stand behind a dot.
unfoldable pub text_attribute : List ℕ → Option StandardName
text_attribute name = procedure_or (first_named place.Text name STANDARD_NAMES) None

unfoldable pub sysin_attribute : List ℕ → Option StandardName
sysin_attribute name = procedure_or (first_named place.Sysin name STANDARD_NAMES) None

unfoldable pub sysout_attribute : List ℕ → Option StandardName
sysout_attribute name = procedure_or (first_named place.Sysout name STANDARD_NAMES) None

-- The types of operands and results. A parameter of the type of `none` takes every reference.
abbrev pub plain_type : StandardType → SimType
plain_type of.Integer = t.Integer
plain_type of.Boolean = t.Boolean
plain_type of.Character = t.Character
plain_type of.Text = t.Text
plain_type _ = t.NoneType

abbrev pub plain_or_none : Option StandardType → Option SimType
plain_or_none None = None
plain_or_none (Some ty) = Some (plain_type ty)

abbrev pub of_none : Signature
of_none = record { first = None; second = None; result = None }

abbrev pub signature_of : Standard → Signature
signature_of x = record {
  first = plain_or_none (slice_get (row_of x).parameters 0);
  second = plain_or_none (slice_get (row_of x).parameters 1);
  result = plain_or_none (row_of x).result;
}

-- what is no procedure is never called
unfoldable pub signature : StandardName → Signature
signature (standard.Procedure x) = signature_of x
signature _ = of_none

-- `simset` and `simulation` are classes
unfoldable pub is_standard_class : StandardName → Bool
is_standard_class (standard.Prefix which) = true
is_standard_class _ = false

-- The names that the language leaves out, where the program does not declare them, and the rule that refuses them.
abbrev pub real_functions : List (List ℕ)
real_functions =
    codes "addepsilon" ∷ codes "subepsilon" ∷ codes "arccos" ∷ codes "arcsin" ∷ codes "arctan" ∷ codes "arctan2" ∷
    codes "cos" ∷ codes "cosh" ∷ codes "cotan" ∷ codes "entier" ∷ codes "exp" ∷ codes "ln" ∷ codes "log10" ∷
    codes "sin" ∷ codes "sinh" ∷ codes "sqrt" ∷ codes "tan" ∷ codes "tanh" ∷ codes "getreal" ∷ codes "getfrac" ∷
    codes "putfix" ∷ codes "putreal" ∷ codes "putfrac" ∷ codes "inreal" ∷ codes "infrac" ∷ codes "outfix" ∷
    codes "outreal" ∷ codes "outfrac" ∷ []

abbrev pub random_drawing : List (List ℕ)
random_drawing =
    codes "draw" ∷ codes "randint" ∷ codes "uniform" ∷ codes "normal" ∷ codes "negexp" ∷ codes "poisson" ∷ codes "erlang" ∷
    codes "discrete" ∷ codes "linear" ∷ codes "histd" ∷ codes "histo" ∷ codes "accum" ∷ []

abbrev pub files_and_layout : List (List ℕ)
files_and_layout =
    codes "infile" ∷ codes "outfile" ∷ codes "directfile" ∷ codes "printfile" ∷ codes "line" ∷ codes "page" ∷ codes "eject" ∷
    codes "spacing" ∷ codes "linesperpage" ∷ []

abbrev pub environment_names : List (List ℕ)
environment_names =
    codes "clocktime" ∷ codes "cputime" ∷ codes "datetime" ∷ codes "sourceline" ∷ codes "error" ∷ codes "terminate_program" ∷ []

unfoldable pub is_real_function : List ℕ → Bool
is_real_function name = list_any (bytes_eq name) real_functions

unfoldable pub is_random_drawing : List ℕ → Bool
is_random_drawing name = list_any (bytes_eq name) random_drawing

unfoldable pub is_file_or_layout : List ℕ → Bool
is_file_or_layout name = list_any (bytes_eq name) files_and_layout

unfoldable pub is_environment_name : List ℕ → Bool
is_environment_name name = list_any (bytes_eq name) environment_names

-- the rule that an identifier breaks which nothing declares: one of N1 to N4, else S10
unfoldable pub undeclared : List ℕ → Rule
undeclared name =
    if is_real_function name then rule.RealFunction
    else if is_random_drawing name then rule.RandomDrawing
    else if is_file_or_layout name then rule.FileOrLayout
    else if is_environment_name name then rule.EnvironmentName
    else rule.NotDeclared

-- The classes that `simset` and `simulation` declare in the block that they stand in front of, and the names of the table that they declare
-- with these: the attributes of the classes, and those of `simulation` itself.
abbrev pub classes_of_sets : List StandardClass
classes_of_sets = class.Linkage ∷ class.Link ∷ class.Head ∷ []

abbrev pub classes_of_simulation : List StandardClass
classes_of_simulation = class.Linkage ∷ class.Link ∷ class.Head ∷ class.Process ∷ []

abbrev pub is_provided : StandardPrefix → Owner → Bool
is_provided _ owner.Linkage = true
is_provided _ owner.Link = true
is_provided _ owner.Head = true
is_provided prefix.Simulation owner.Process = true
is_provided prefix.Simulation owner.Simulation = true
is_provided _ _ = false

-- the class that has an attribute; those of `simulation` have none
abbrev pub class_owning : Owner → Option StandardClass
class_owning owner.Linkage = Some class.Linkage
class_owning owner.Link = Some class.Link
class_owning owner.Head = Some class.Head
class_owning owner.Process = Some class.Process
class_owning _ = None

-- the class of a type of the table
abbrev pub class_typed : StandardType → Option StandardClass
class_typed of.Linkage = Some class.Linkage
class_typed of.Link = Some class.Link
class_typed of.Head = Some class.Head
class_typed of.Process = Some class.Process
class_typed _ = None

abbrev pub attribute_name : Standard → List ℕ
attribute_name name = (row_of name).spelling

-- the type of the parameter of an attribute, and that of its result
abbrev pub parameter_of : Standard → Option StandardType
parameter_of name = slice_get (row_of name).parameters 0

abbrev pub result_of : Standard → Option StandardType
result_of name = (row_of name).result
