-- A closed expression takes no more steps than the expression allows.
use Rattle.std.proofs.Common.{◌≡◌, ◌≤◌, ℕ, ◌+◌, Bool, true, false, List, [], ◌∷◌, Option, Some, None, arith, refl}
use Rattle.std.specs.Prelude.{◌&&◌, ◌||◌}
use Rattle.sim_base.specs.declared.numbering.DeclNo.{DeclNo}
use Rattle.sim_scope.specs.declared.scopes.Denotation.{Denotation}
use Rattle.sim_scope.specs.declared.scopes.Denotation.TheVariants as denotation
use Rattle.sim_scope.specs.declared.types.Entry.{Entry}
use Rattle.sim_scope.specs.declared.types.Entry.TheVariants as entry
use Rattle.sim_scope.specs.declared.types.Formal.{Formal}
use Rattle.sim_scope.specs.declared.types.FormalKind.{FormalKind}
use Rattle.sim_scope.specs.declared.types.FormalKind.TheVariants as shape
use Rattle.sim_scope.specs.declared.types.Mode.{Mode}
use Rattle.sim_scope.specs.declared.types.Mode.TheVariants as mode
use Rattle.sim_scope.specs.Scopes.{entry_of}
use Rattle.sim_scope.specs.Source.{Source, denoted, found_at, level_of, line_at, type_at}
use Rattle.sim_tree.specs.declared.expr.Membership.{Membership}
use Rattle.sim_tree.specs.declared.expr.Sign.{Sign}
use Rattle.sim_tree.specs.declared.expr.Sign.TheVariants as sign
use Rattle.sim_tree.specs.Syntax.{Expression, Expressions, Literal, NoMore, Then}
use Rattle.sim_tree.specs.Syntax as syntax
use Rattle.sim_values.specs.declared.standard.Standard.{Standard}
use Rattle.sim_values.specs.Plain.{Plain}
use Rattle.sim_values.specs.Standard.{is_image, moves_position, on_image}
use Rattle.sim_meaning.specs.Closing.{Joining, Lazily, Negated, Plainly, Sort, actual_term, array_place, array_term, attribute_term, behind_dot, by_name, class_parameters, class_passed, close, close_actual, close_actual_by, close_actuals, close_all, close_place, constant_term, declared_place, declared_term, dot_term, formal_place, formal_term, formals_at, given_term, has_type, home_of, home_of_class, image_place, in_instance, is_attribute, is_placed, is_text, is_text_type, is_variable, literal_term, name_term, named_place, named_term, object_term, qualified_if, signed_term, sort_of, standard_name_term, standard_term, stream_of, sysout, two_term, typed_token, variable_place, variable_term, close_passed, close_procedure, declared_procedure, formal_procedure, formal_value, is_procedure_kind, named_array, named_array_place, procedure_denoted}
use Rattle.sim_code.specs.Instances.{at_level}
use Rattle.sim_meaning.specs.Attributes.{array_attribute, attribute, attribute_of_object, attribute_place, block_found, connected_object, connection_at, connection_in, declared_attribute, element_at, entry_at, entry_attribute, fitting, generation, if_any, kept_if, membership_term, own_attribute, own_term, parameter_at, parameter_attribute, place_of_attribute, process_term, qua_term, qualified, simulation_term, this_instance, this_term, transfer_at, transfer_term, variable_at, variable_attribute, with_arrays_kept, attribute_procedure, entry_procedure, origin_if}
use Rattle.sim_code.specs.Sets.{is_set_name}
use Rattle.sim_code.specs.Simulations.{is_process_name, is_simulation_name}
use Rattle.sim_code.specs.Transfers.{Calling, Detaching, Resuming, Transfer}
use Rattle.sim_meaning.specs.Constants.{text_constant}
use Rattle.sim_meaning.specs.Levels.{class_at, qualification, is_process_itself}
use Rattle.sim_meaning.specs.Names.{procedure_named}
use Rattle.sim_meaning.specs.Pending.{ActualOf, AttributeOf, CallOf, Cell, CopyOf, Declared, Either, ElementOf, FitsOf, Further, Given, ImageOf, Instances, Joined, KeptOf, MemberOf, NamedOf, NewOf, NoTerm, NotNoneOf, One, PlaceOf, ProcessOf, QuaOf, QualifiedElementOf, QualifiedPlaceOf, RemoteCallOf, SetOf, SimulationOf, StandardOf, Term, Terms, TransferOf, Two, NoMeaning, Use, ValueAt, CheckedOf, MatchOf, OriginOf, ProcedureOf, RemoteProcedureOf}
use Rattle.sim_meaning.specs.Texts.{constant_of}
use Rattle.sim_finite.proofs.Weights.{expression_weight, expressions_weight, term_weight, terms_weight}

-- ---- one construct

two_small : (sort : Sort) (line : ℕ) (a b : Term) → term_weight (two_term sort line a b) ≤ 4 + (term_weight a + term_weight b)
two_small (Plainly op) line a b = omega arith
two_small (Negated op) line a b = omega arith
two_small (Lazily true) line a b = omega arith
two_small (Lazily false) line a b = omega arith
two_small Joining line a b = omega arith

signed_small : (x : Sign) (line : ℕ) (a : Term) → term_weight (signed_term x line a) ≤ 2 + term_weight a
signed_small sign.Plus line a = omega arith
signed_small sign.Minus line a = omega arith

given_small : (v : Option Plain) (n : ℕ) → 1 ≤ n → term_weight (given_term v) ≤ n
given_small None n h = h
given_small (Some p) n h = h

literal_small : (s : Source) (token : ℕ) (x : Literal) → term_weight (literal_term s token x) ≤ 1
literal_small s token (syntax.IntegerValue z) = omega arith
literal_small s token (syntax.CharacterValue c) = omega arith
literal_small s token (syntax.TextValue bytes) = given_small (text_constant s token) 1 (omega arith)
literal_small s token (syntax.BooleanValue b) = omega arith
literal_small s token syntax.NoObject = omega arith
literal_small s token syntax.NoText = omega arith

in_small : (x : Option ℕ) (f : ℕ → Term) (n : ℕ) → 1 ≤ n → ((j : ℕ) → term_weight (f j) ≤ n) → term_weight (in_instance x f) ≤ n
in_small None f n h g = h
in_small (Some j) f n h g = g j

-- ---- identifiers

module _ (s : Source) (m : Instances) (i n : ℕ) (some : 1 ≤ n) where
  variable_small : (d : DeclNo) (es : Expressions) → term_weight (variable_term s m i d es) ≤ n
  variable_small d NoMore = in_small (home_of s m i d) _ n some (λ j. some)
  variable_small d (Then e es) = some

  constant_small : (v : Option Plain) (es : Expressions) → term_weight (constant_term v es) ≤ n
  constant_small (Some p) NoMore = some
  constant_small (Some p) (Then e es) = some
  constant_small None es = some

  place_small : (d : DeclNo) (es : Expressions) → term_weight (variable_place s m i d es) ≤ n
  place_small d NoMore = in_small (home_of s m i d) _ n some (λ j. some)
  place_small d (Then e es) = some

  use_small : (d : DeclNo) (es : Expressions) (wanted : Use) → term_weight (name_term s m i d es wanted) ≤ n
  use_small d NoMore wanted = in_small (home_of s m i d) _ n some (λ j. some)
  use_small d (Then e es) wanted = some

  formal_value_small : (line : ℕ) (d : DeclNo) (mode : Mode) (j : ℕ) → term_weight (formal_value line d mode j) ≤ 1
  formal_value_small line d mode.ByName j = omega arith
  formal_value_small line d mode.ByValue j = omega arith
  formal_value_small line d mode.ByReference j = omega arith

  module _ (line : ℕ) (terms : Terms) (most : 5 + terms_weight terms ≤ n) where
    array_small : (d : DeclNo) (es : Expressions) → term_weight (array_term s m i line d es terms) ≤ n
    array_small d NoMore = in_small (home_of s m i d) _ n some (λ j. some)
    array_small d (Then e es) = in_small (home_of s m i d) _ n some (λ j. omega (arith, most))

    element_small : (d : DeclNo) (es : Expressions) → term_weight (array_place s m i line d es terms) ≤ n
    element_small d NoMore = some
    element_small d (Then e es) = in_small (home_of s m i d) _ n some (λ j. omega (arith, most))

    named_array_small : (d : DeclNo) (es : Expressions) → term_weight (named_array s m i line d es terms) ≤ n
    named_array_small d NoMore = use_small d NoMore _
    named_array_small d (Then e es) = in_small (home_of s m i d) _ n some (λ j. omega (arith, most))

    named_element_small : (d : DeclNo) (es : Expressions) → term_weight (named_array_place s m i line d es terms) ≤ n
    named_element_small d NoMore = some
    named_element_small d (Then e es) = in_small (home_of s m i d) _ n some (λ j. omega (arith, most))

    formal_call_small : (d : DeclNo) (mode : Mode) (leaves : Bool) (es : Expressions) → 6 + expressions_weight es ≤ n → term_weight (in_instance (home_of s m i d) (λ j. CheckedOf (formal_value line d mode j) leaves i es line)) ≤ n
    formal_call_small d mode leaves es wide = in_small (home_of s m i d) _ n some (λ j. omega (arith, wide, formal_value_small line d mode j))

    formal_small : (d : DeclNo) (mode : Mode) (kind : FormalKind) (leaves : Bool) (es : Expressions) → 6 + expressions_weight es ≤ n → term_weight (formal_term s m i line d mode kind leaves es terms) ≤ n
    formal_small d mode.ByName shape.Simple leaves es wide = use_small d es _
    formal_small d mode.ByName shape.Array leaves es wide = named_array_small d es
    formal_small d mode.ByName shape.Procedure leaves es wide = formal_call_small d mode.ByName leaves es wide
    formal_small d mode.ByValue shape.Simple leaves es wide = variable_small d es
    formal_small d mode.ByValue shape.Array leaves es wide = array_small d es
    formal_small d mode.ByValue shape.Procedure leaves es wide = formal_call_small d mode.ByValue leaves es wide
    formal_small d mode.ByReference shape.Simple leaves es wide = variable_small d es
    formal_small d mode.ByReference shape.Array leaves es wide = array_small d es
    formal_small d mode.ByReference shape.Procedure leaves es wide = formal_call_small d mode.ByReference leaves es wide

    formal_place_small : (d : DeclNo) (mode : Mode) (kind : FormalKind) (es : Expressions) → term_weight (formal_place s m i line d mode kind es terms) ≤ n
    formal_place_small d mode.ByName shape.Simple es = use_small d es _
    formal_place_small d mode.ByName shape.Array es = named_element_small d es
    formal_place_small d mode.ByName shape.Procedure es = some
    formal_place_small d mode.ByValue shape.Simple es = place_small d es
    formal_place_small d mode.ByValue shape.Array es = element_small d es
    formal_place_small d mode.ByValue shape.Procedure es = some
    formal_place_small d mode.ByReference shape.Simple es = place_small d es
    formal_place_small d mode.ByReference shape.Array es = element_small d es
    formal_place_small d mode.ByReference shape.Procedure es = some

    declared_place_small : (d : DeclNo) (e : Option Entry) (es : Expressions) → term_weight (declared_place s m i line d e es terms) ≤ n
    declared_place_small d None es = some
    declared_place_small d (Some (entry.Variable t)) es = place_small d es
    declared_place_small d (Some (entry.Constant t)) es = some
    declared_place_small d (Some (entry.Array t k)) es = element_small d es
    declared_place_small d (Some (entry.Procedure result k)) es = some
    declared_place_small d (Some (entry.Class k)) es = some
    declared_place_small d (Some (entry.Virtual result own)) es = some
    declared_place_small d (Some (entry.Formal f)) es = formal_place_small d f.mode f.kind es
    declared_place_small d (Some (entry.Unspecified w)) es = some
    declared_place_small d (Some (entry.Attribute name parameter result)) es = some

    named_place_small : (x : Option Denotation) (es : Expressions) → term_weight (named_place s m i line x es terms) ≤ n
    named_place_small None es = some
    named_place_small (Some (denotation.Declared d)) es = declared_place_small d (entry_of s.tables d) es
    named_place_small (Some (denotation.Standard name)) es = some

    name_small : (image : Bool) (other : Option Standard) (name : Standard) (k : ℕ) → term_weight (standard_name_term image other name k line terms) ≤ n
    name_small true other name k = omega (arith, most)
    name_small false (Some of_text) name k = omega (arith, most)
    name_small false None name k = omega (arith, most)

    standard_small : (x : Option Standard) (k : ℕ) → term_weight (standard_term x k line terms) ≤ n
    standard_small None k = some
    standard_small (Some name) k = name_small (is_image name) (on_image name) name k

    module _ (actuals : List Formal → Terms) (few : (fs : List Formal) → 2 + terms_weight (actuals fs) ≤ n) where
      declared_small : (d : DeclNo) (e : Option Entry) (es : Expressions) → 6 + expressions_weight es ≤ n → term_weight (declared_term s m i line d e es terms actuals) ≤ n
      declared_small d None es wide = some
      declared_small d (Some (entry.Variable t)) es wide = variable_small d es
      declared_small d (Some (entry.Constant t)) es wide = constant_small (constant_of s d) es
      declared_small d (Some (entry.Array t k)) es wide = array_small d es
      declared_small d (Some (entry.Procedure result k)) es wide = in_small (home_of s m i d) _ n some (λ j. few (formals_at s d))
      declared_small d (Some (entry.Class k)) es wide = some
      declared_small d (Some (entry.Virtual result own)) es wide = in_small (home_of s m i d) _ n some (λ j. omega (arith, wide))
      declared_small d (Some (entry.Formal f)) es wide = formal_small d f.mode f.kind (has_type f.ty) es wide
      declared_small d (Some (entry.Unspecified w)) es wide = some
      declared_small d (Some (entry.Attribute name parameter result)) es wide = some

      named_small : (x : Option Denotation) (es : Expressions) → 6 + expressions_weight es ≤ n → term_weight (named_term s m i line x es terms actuals) ≤ n
      named_small None es wide = some
      named_small (Some (denotation.Declared d)) es wide = declared_small d (entry_of s.tables d) es wide
      named_small (Some (denotation.Standard name)) es wide = standard_small (procedure_named name) sysout

-- ---- procedures as values

module _ (s : Source) (m : Instances) (i line n : ℕ) (some : 3 ≤ n) where
  formal_procedure_small : (d : DeclNo) (mode : Mode) (kind : FormalKind) → term_weight (formal_procedure s m i line d mode kind) ≤ n
  formal_procedure_small d mode shape.Procedure = in_small (home_of s m i d) _ n (omega (arith, some)) (λ j. omega (arith, some, formal_value_small s m i 1 (omega arith) line d mode j))
  formal_procedure_small d mode shape.Simple = omega (arith, some)
  formal_procedure_small d mode shape.Array = omega (arith, some)

  declared_procedure_small : (d : DeclNo) (e : Option Entry) → term_weight (declared_procedure s m i line d e) ≤ n
  declared_procedure_small d None = omega (arith, some)
  declared_procedure_small d (Some (entry.Variable t)) = omega (arith, some)
  declared_procedure_small d (Some (entry.Constant t)) = omega (arith, some)
  declared_procedure_small d (Some (entry.Array t k)) = omega (arith, some)
  declared_procedure_small d (Some (entry.Procedure result k)) = in_small (home_of s m i d) _ n (omega (arith, some)) (λ j. omega (arith, some))
  declared_procedure_small d (Some (entry.Class k)) = omega (arith, some)
  declared_procedure_small d (Some (entry.Virtual result own)) = in_small (home_of s m i d) _ n (omega (arith, some)) (λ j. some)
  declared_procedure_small d (Some (entry.Formal f)) = formal_procedure_small d f.mode f.kind
  declared_procedure_small d (Some (entry.Unspecified w)) = omega (arith, some)
  declared_procedure_small d (Some (entry.Attribute name parameter result)) = omega (arith, some)

  denoted_small : (x : Option Denotation) → term_weight (procedure_denoted s m i line x) ≤ n
  denoted_small None = omega (arith, some)
  denoted_small (Some (denotation.Declared d)) = declared_procedure_small d (entry_of s.tables d)
  denoted_small (Some (denotation.Standard name)) = omega (arith, some)

module _ (s : Source) (line : ℕ) (object : Term) (n : ℕ) (most : 3 + term_weight object ≤ n) where
  entry_procedure_small : (d : DeclNo) (e : Option Entry) → term_weight (entry_procedure line d e object) ≤ n
  entry_procedure_small d None = omega (arith, most)
  entry_procedure_small d (Some (entry.Variable t)) = omega (arith, most)
  entry_procedure_small d (Some (entry.Constant t)) = omega (arith, most)
  entry_procedure_small d (Some (entry.Array t k)) = omega (arith, most)
  entry_procedure_small d (Some (entry.Procedure result k)) = most
  entry_procedure_small d (Some (entry.Class k)) = omega (arith, most)
  entry_procedure_small d (Some (entry.Virtual result own)) = omega (arith, most)
  entry_procedure_small d (Some (entry.Formal f)) = omega (arith, most)
  entry_procedure_small d (Some (entry.Unspecified w)) = omega (arith, most)
  entry_procedure_small d (Some (entry.Attribute name parameter result)) = omega (arith, most)

  attribute_procedure_small : (d : DeclNo) → term_weight (attribute_procedure s line object d) ≤ n
  attribute_procedure_small d = entry_procedure_small d (entry_of s.tables d)

-- ---- attributes

object_small : (b : Bool) (variable whole : Term) (k : ℕ) → term_weight variable ≤ k → term_weight whole ≤ k → term_weight (object_term b variable whole) ≤ k
object_small true variable whole k f g = f
object_small false variable whole k f g = g

module _ (line k n : ℕ) (variable whole : Term) (terms : Terms) (f : term_weight variable ≤ k) (g : term_weight whole ≤ k) (most : 4 + (k + (1 + terms_weight terms)) ≤ n) where
  attribute_small : (x : Option Standard) (is_variable : Bool) → term_weight (attribute_term x is_variable line variable whole terms) ≤ n
  attribute_small None is_variable = omega (arith, most)
  attribute_small (Some name) is_variable = omega (arith, most, object_small (moves_position name && is_variable) variable whole k f g)

  behind_small : Source → Instances → (stream : Option ℕ) (x : Option Standard) (is_variable : Bool) → term_weight (behind_dot stream x is_variable line variable whole terms) ≤ n
  behind_small s m (Some image) x is_variable = standard_small s m 0 n (omega (arith, most)) line terms (omega (arith, most)) x image
  behind_small s m None x is_variable = attribute_small x is_variable

  dot_small : Source → Instances → (x : Option Denotation) (stream : Option ℕ) (is_variable : Bool) → term_weight (dot_term x stream is_variable line variable whole terms) ≤ n
  dot_small s m None stream is_variable = omega (arith, most)
  dot_small s m (Some (denotation.Declared d)) stream is_variable = omega (arith, most)
  dot_small s m (Some (denotation.Standard name)) stream is_variable = behind_small s m stream (procedure_named name) is_variable

image_small : (x : Option ℕ) (other : Term) (n : ℕ) → 1 ≤ n → term_weight other ≤ n → term_weight (image_place x other) ≤ n
image_small None other n h g = g
image_small (Some k) other n h g = h

-- ---- what objects have

if_small : {A : Type 0} (x : Option A) (f : A → Term) (other : Term) (n : ℕ) → ((a : A) → term_weight (f a) ≤ n) → term_weight other ≤ n → term_weight (if_any x f other) ≤ n
if_small None f other n g h = h
if_small (Some a) f other n g h = g a

connected_small : (s : Source) (m : Instances) (i k : ℕ) → term_weight (connected_object s m i k) ≤ 1
connected_small s m i k = if_small (at_level m (level_of s k) i) _ _ 1 (λ j. omega arith) (omega arith)

module _ (s : Source) (line : ℕ) (object : Term) (terms : Terms) (n : ℕ) (most : 8 + (term_weight object + terms_weight terms) ≤ n) where
  variable_attribute_small : (d : DeclNo) (es : Expressions) → term_weight (variable_attribute (attribute_place s line d object) es) ≤ n
  variable_attribute_small d NoMore = omega (arith, most)
  variable_attribute_small d (Then e es) = omega (arith, most)

  array_attribute_small : (d : DeclNo) (es : Expressions) → term_weight (array_attribute line (attribute_place s line d object) es terms) ≤ n
  array_attribute_small d NoMore = omega (arith, most)
  array_attribute_small d (Then e es) = omega (arith, most)

  parameter_attribute_small : (d : DeclNo) (kind : FormalKind) (es : Expressions) → term_weight (parameter_attribute line kind (attribute_place s line d object) es terms) ≤ n
  parameter_attribute_small d shape.Simple es = variable_attribute_small d es
  parameter_attribute_small d shape.Array es = array_attribute_small d es
  parameter_attribute_small d shape.Procedure es = omega (arith, most)

  variable_at_small : (d : DeclNo) (es : Expressions) → term_weight (variable_at (attribute_place s line d object) es) ≤ n
  variable_at_small d NoMore = omega (arith, most)
  variable_at_small d (Then e es) = omega (arith, most)

  element_at_small : (d : DeclNo) (es : Expressions) → term_weight (element_at line (attribute_place s line d object) es terms) ≤ n
  element_at_small d NoMore = omega (arith, most)
  element_at_small d (Then e es) = omega (arith, most)

  parameter_at_small : (d : DeclNo) (kind : FormalKind) (es : Expressions) → term_weight (parameter_at line kind (attribute_place s line d object) es terms) ≤ n
  parameter_at_small d shape.Simple es = variable_at_small d es
  parameter_at_small d shape.Array es = element_at_small d es
  parameter_at_small d shape.Procedure es = omega (arith, most)

  entry_at_small : (d : DeclNo) (e : Option Entry) (es : Expressions) → term_weight (entry_at s line d e object es terms) ≤ n
  entry_at_small d None es = omega (arith, most)
  entry_at_small d (Some (entry.Variable t)) es = variable_at_small d es
  entry_at_small d (Some (entry.Constant t)) es = omega (arith, most)
  entry_at_small d (Some (entry.Array t k)) es = element_at_small d es
  entry_at_small d (Some (entry.Procedure result k)) es = omega (arith, most)
  entry_at_small d (Some (entry.Class k)) es = omega (arith, most)
  entry_at_small d (Some (entry.Virtual result own)) es = omega (arith, most)
  entry_at_small d (Some (entry.Formal f)) es = parameter_at_small d f.kind es
  entry_at_small d (Some (entry.Unspecified w)) es = omega (arith, most)
  entry_at_small d (Some (entry.Attribute name parameter result)) es = omega (arith, most)

  attribute_place_small : (es : Expressions) (d : DeclNo) → term_weight (place_of_attribute s line object es terms d) ≤ n
  attribute_place_small es d = entry_at_small d (entry_of s.tables d) es

  of_process_small : (of_process : Bool) (name : Standard) → term_weight (process_term of_process name line object) ≤ n
  of_process_small true name = omega (arith, most)
  of_process_small false name = omega (arith, most)

  module _ (actuals : DeclNo → Terms) (few : (d : DeclNo) → 4 + (term_weight object + terms_weight (actuals d)) ≤ n) where
    of_object_small : (of_set : Bool) (name : Standard) (d : DeclNo) → term_weight (attribute_of_object of_set name line object (actuals d)) ≤ n
    of_object_small true name d = omega (arith, few d)
    of_object_small false name d = of_process_small (is_process_name name) name

    entry_attribute_small : (i : ℕ) (d : DeclNo) (e : Option Entry) (es : Expressions) → 5 + (term_weight object + expressions_weight es) ≤ n → term_weight (entry_attribute s i line d e object es terms (actuals d)) ≤ n
    entry_attribute_small i d None es wide = omega (arith, most)
    entry_attribute_small i d (Some (entry.Variable t)) es wide = variable_attribute_small d es
    entry_attribute_small i d (Some (entry.Constant t)) es wide = variable_attribute_small d es
    entry_attribute_small i d (Some (entry.Array t k)) es wide = array_attribute_small d es
    entry_attribute_small i d (Some (entry.Procedure result k)) es wide = omega (arith, few d)
    entry_attribute_small i d (Some (entry.Class k)) es wide = omega (arith, most)
    entry_attribute_small i d (Some (entry.Virtual result own)) es wide = omega (arith, wide)
    entry_attribute_small i d (Some (entry.Formal f)) es wide = parameter_attribute_small d f.kind es
    entry_attribute_small i d (Some (entry.Unspecified w)) es wide = omega (arith, most)
    entry_attribute_small i d (Some (entry.Attribute name parameter result)) es wide = of_object_small (is_set_name name) name d

    attribute_of_small : (i : ℕ) (es : Expressions) → 5 + (term_weight object + expressions_weight es) ≤ n → (d : DeclNo) → term_weight (attribute s i line object es terms actuals d) ≤ n
    attribute_of_small i es wide d = entry_attribute_small i d (entry_of s.tables d) es wide

own_small : (s : Source) (e : Option Entry) (block : Option ℕ) (actuals : Terms) (line : ℕ) (other : Term) (n : ℕ) → 2 + terms_weight actuals ≤ n → term_weight other ≤ n → term_weight (own_term s e block actuals line other) ≤ n
own_small s (Some (entry.Attribute name parameter result)) block actuals line other n few less = of_block (is_simulation_name name) block
  where
    of_block : (of_simulation : Bool) (j : Option ℕ) → term_weight (simulation_term s of_simulation name j actuals line other) ≤ n
    of_block true None = omega (arith, few)
    of_block true (Some j) = few
    of_block false j = less
own_small s None block actuals line other n few less = less
own_small s (Some (entry.Variable t)) block actuals line other n few less = less
own_small s (Some (entry.Constant t)) block actuals line other n few less = less
own_small s (Some (entry.Array t k)) block actuals line other n few less = less
own_small s (Some (entry.Procedure result k)) block actuals line other n few less = less
own_small s (Some (entry.Class k)) block actuals line other n few less = less
own_small s (Some (entry.Virtual result own)) block actuals line other n few less = less
own_small s (Some (entry.Formal f)) block actuals line other n few less = less
own_small s (Some (entry.Unspecified w)) block actuals line other n few less = less

generation_small : (s : Source) (token : ℕ) (x class : Option ℕ) (terms : Terms) (line : ℕ) → term_weight (generation s token x class terms line) ≤ 4 + terms_weight terms
generation_small s token None class terms line = omega arith
generation_small s token (Some j) None terms line = omega arith
generation_small s token (Some j) (Some k) terms line = by_class (is_process_itself s k)
  where
    by_class : (itself : Bool) → term_weight (origin_if itself k token line (NewOf j k terms line)) ≤ 4 + terms_weight terms
    by_class false = omega arith
    by_class true = omega arith

membership_small : (member : Membership) (class : Option ℕ) (a : Term) → term_weight (membership_term member class a) ≤ 2 + term_weight a
membership_small member None a = omega arith
membership_small member (Some k) a = omega arith

qua_small : (class : Option ℕ) (line : ℕ) (a : Term) → term_weight (qua_term class line a) ≤ 2 + term_weight a
qua_small None line a = omega arith
qua_small (Some k) line a = omega arith

instance_small : (x : Option ℕ) → term_weight (this_instance x) ≤ 1
instance_small None = omega arith
instance_small (Some j) = omega arith

this_small : (s : Source) (m : Instances) (i : ℕ) (x : Option ℕ) → term_weight (this_term s m i x) ≤ 1
this_small s m i None = omega arith
this_small s m i (Some k) = if_small (connection_in s (Some k)) _ _ 1 (λ c. connected_small s m i c) (instance_small (at_level m (level_of s k) i))

transfer_small : (t : Transfer) (line : ℕ) (around : Term) (terms : Terms) → term_weight (transfer_term t line around terms) ≤ 4 + (term_weight around + terms_weight terms)
transfer_small Detaching line around terms = omega arith
transfer_small Calling line around NoTerm = omega arith
transfer_small Calling line around (Further a NoTerm) = omega arith
transfer_small Calling line around (Further a (Further b terms)) = omega arith
transfer_small Resuming line around NoTerm = omega arith
transfer_small Resuming line around (Further a NoTerm) = omega arith
transfer_small Resuming line around (Further a (Further b terms)) = omega arith

fitting_small : (class : Option ℕ) (line : ℕ) (a : Term) → term_weight (fitting class line a) ≤ 2 + term_weight a
fitting_small None line a = omega arith
fitting_small (Some k) line a = omega arith

-- ---- actual parameters

actual_small : (line : ℕ) (mode : Mode) (kind : FormalKind) (text : Bool) (a p : Term) (j : ℕ) (as_procedure : Bool) (e : Expression) (k : ℕ) → term_weight a ≤ k → term_weight p ≤ k → term_weight (actual_term line mode kind text a p (ActualOf j as_procedure e)) ≤ 2 + k
actual_small line mode.ByValue shape.Array text a p j b e k f g = omega (arith, f)
actual_small line mode.ByReference shape.Array text a p j b e k f g = omega (arith, f)
actual_small line mode.ByValue shape.Simple true a p j b e k f g = omega (arith, f)
actual_small line mode.ByValue shape.Simple false a p j b e k f g = omega (arith, f)
actual_small line mode.ByReference shape.Simple text a p j b e k f g = omega (arith, f)
actual_small line mode.ByValue shape.Procedure text a p j b e k f g = omega (arith, g)
actual_small line mode.ByReference shape.Procedure text a p j b e k f g = omega (arith, g)
actual_small line mode.ByName kind text a p j b e k f g = omega arith

kept_small : (mode : Mode) (kind : FormalKind) (a : Term) → term_weight (kept_if mode kind a) ≤ 2 + term_weight a
kept_small mode.ByReference shape.Array a = omega arith
kept_small mode.ByReference shape.Simple a = omega arith
kept_small mode.ByReference shape.Procedure a = omega arith
kept_small mode.ByValue kind a = omega arith
kept_small mode.ByName kind a = omega arith

none_kept : (fs : List Formal) → terms_weight (with_arrays_kept fs NoTerm) ≡ 0
none_kept [] = refl
none_kept (f ∷ fs) = refl

-- ---- expressions

mutual
  pub close_small : (s : Source) (m : Instances) (i : ℕ) (e : Expression) → term_weight (close s m i e) ≤ expression_weight e
  close_small s m i (syntax.If token c a b) = omega (arith, close_small s m i c, close_small s m i a, close_small s m i b)
  close_small s m i (syntax.Binary op token a b) = omega (arith, two_small (sort_of (is_text s a) op) (line_at s token) (close s m i a) (close s m i b), close_small s m i a, close_small s m i b)
  close_small s m i (syntax.Not token a) = omega (arith, close_small s m i a)
  close_small s m i (syntax.Signed x token a) = omega (arith, signed_small x (line_at s token) (close s m i a), close_small s m i a)
  close_small s m i (syntax.Member member token a class) = omega (arith, membership_small member (class_at s class.token.0) (close s m i a), close_small s m i a)
  close_small s m i (syntax.Dot token a name es) =
      let line = line_at s name.token.0 in
      if_small (transfer_at s name.token.0) _ _ (expression_weight (syntax.Dot token a name es)) (λ t. omega (arith, close_small s m i a))
      (if_small (declared_attribute (denoted s name.token.0)) _ _ (expression_weight (syntax.Dot token a name es))
      (attribute_of_small s line (close s m i a) (close_all s m i es) (expression_weight (syntax.Dot token a name es)) (omega (arith, close_small s m i a, close_all_small s m i es))
      (λ d. close_actuals s m i line es (formals_at s d)) (λ d. omega (arith, close_small s m i a, close_actuals_small s m i line es (formals_at s d))) i es (omega (arith, close_small s m i a)))
      (dot_small line (expression_weight a) (expression_weight (syntax.Dot token a name es)) (close_place s m i a) (close s m i a) (close_all s m i es)
      (close_place_small s m i a) (close_small s m i a) (omega (arith, close_all_small s m i es)) s m (denoted s name.token.0) (stream_of s a) (is_variable s a || is_attribute s a)))
  close_small s m i (syntax.Qua token a class) = omega (arith, qua_small (class_at s class.token.0) (line_at s token) (close s m i a), close_small s m i a)
  close_small s m i (syntax.Constant literal token) = literal_small s token literal
  close_small s m i (syntax.Named name es) =
      let line = line_at s name.token.0 in
      if_small (transfer_at s name.token.0) _ _ (9 + expressions_weight es)
      (λ t. omega (arith, transfer_small t line (this_term s m i (found_at s name.token.0)) (close_all s m i es), this_small s m i (found_at s name.token.0), close_all_small s m i es))
      (if_small (connection_at s name.token.0) _ _ (9 + expressions_weight es)
      (λ k. if_small (declared_attribute (denoted s name.token.0)) _ _ (9 + expressions_weight es)
      (attribute_of_small s line (connected_object s m i k) (close_all s m i es) (9 + expressions_weight es) (omega (arith, connected_small s m i k, close_all_small s m i es))
      (λ d. close_actuals s m i line es (formals_at s d)) (λ d. omega (arith, connected_small s m i k, close_actuals_small s m i line es (formals_at s d))) i es (omega (arith, connected_small s m i k)))
      (omega arith))
      (if_small (own_attribute s name.token.0) _ _ (9 + expressions_weight es)
      (λ d. own_small s (entry_of s.tables d) (block_found s m i (found_at s name.token.0)) (close_actuals s m i line es (formals_at s d)) line _ (9 + expressions_weight es) (omega (arith, close_actuals_small s m i line es (formals_at s d)))
      (attribute_of_small s line (this_term s m i (found_at s name.token.0)) (close_all s m i es) (9 + expressions_weight es) (omega (arith, this_small s m i (found_at s name.token.0), close_all_small s m i es))
      (λ d. close_actuals s m i line es (formals_at s d)) (λ d. omega (arith, this_small s m i (found_at s name.token.0), close_actuals_small s m i line es (formals_at s d))) i es (omega (arith, this_small s m i (found_at s name.token.0))) d))
      (named_small s m i (9 + expressions_weight es) (omega arith) line (close_all s m i es) (omega (arith, close_all_small s m i es))
      (λ fs. close_actuals s m i line es fs) (λ fs. omega (arith, close_actuals_small s m i line es fs)) (denoted s name.token.0) es (omega arith))))
  close_small s m i (syntax.This token class) = this_small s m i (found_at s token)
  close_small s m i (syntax.New token class es) =
      let line = line_at s class.token.0 in
      let fs = class_parameters s (class_at s class.token.0) in
      omega (arith, generation_small s class.token.0 (home_of_class s m i (denoted s class.token.0)) (class_at s class.token.0) (with_arrays_kept fs (close_actuals s m i line es fs)) (line_at s token), close_kept_small s m i line es fs)
  close_small s m i (syntax.Parentheses token a) = close_small s m i a

  close_place_small : (s : Source) (m : Instances) (i : ℕ) (e : Expression) → term_weight (close_place s m i e) ≤ expression_weight e
  close_place_small s m i (syntax.Named name es) =
      let line = line_at s name.token.0 in
      if_small (connection_at s name.token.0) _ _ (9 + expressions_weight es)
      (λ k. if_small (declared_attribute (denoted s name.token.0)) _ _ (9 + expressions_weight es)
      (attribute_place_small s line (connected_object s m i k) (close_all s m i es) (9 + expressions_weight es) (omega (arith, connected_small s m i k, close_all_small s m i es)) es)
      (omega arith))
      (named_place_small s m i (9 + expressions_weight es) (omega arith) line (close_all s m i es) (omega (arith, close_all_small s m i es)) (denoted s name.token.0) es)
  close_place_small s m i (syntax.Dot token a name es) =
      let n = expression_weight (syntax.Dot token a name es) in
      image_small (stream_of s a) _ n (omega arith)
      (if_small (declared_attribute (denoted s name.token.0)) _ _ n
      (attribute_place_small s (line_at s name.token.0) (close s m i a) (close_all s m i es) n (omega (arith, close_small s m i a, close_all_small s m i es)) es)
      (omega arith))
  close_place_small s m i (syntax.If token c a b) = omega arith
  close_place_small s m i (syntax.Binary op token a b) = omega arith
  close_place_small s m i (syntax.Not token a) = omega arith
  close_place_small s m i (syntax.Signed x token a) = omega arith
  close_place_small s m i (syntax.Member member token a class) = omega arith
  close_place_small s m i (syntax.Qua token a class) = omega arith
  close_place_small s m i (syntax.Constant literal token) = omega arith
  close_place_small s m i (syntax.This token class) = omega arith
  close_place_small s m i (syntax.New token class es) = omega arith
  close_place_small s m i (syntax.Parentheses token a) = some_weight a

  close_procedure_small : (s : Source) (m : Instances) (i : ℕ) (e : Expression) → term_weight (close_procedure s m i e) ≤ expression_weight e
  close_procedure_small s m i (syntax.Named name NoMore) =
      let line = line_at s name.token.0 in
      if_small (connection_at s name.token.0) _ _ 12
      (λ k. if_small (declared_attribute (denoted s name.token.0)) _ _ 12 (attribute_procedure_small s line (connected_object s m i k) 12 (omega (arith, connected_small s m i k))) (omega arith))
      (denoted_small s m i line 12 (omega arith) (denoted s name.token.0))
  close_procedure_small s m i (syntax.Named name (Then e es)) = omega arith
  close_procedure_small s m i (syntax.Dot token a name NoMore) =
      if_small (declared_attribute (denoted s name.token.0)) _ _ (8 + (expression_weight a + 3))
      (attribute_procedure_small s (line_at s name.token.0) (close s m i a) (8 + (expression_weight a + 3)) (omega (arith, close_small s m i a))) (omega arith)
  close_procedure_small s m i (syntax.Dot token a name (Then e es)) = omega arith
  close_procedure_small s m i (syntax.If token c a b) = omega arith
  close_procedure_small s m i (syntax.Binary op token a b) = omega arith
  close_procedure_small s m i (syntax.Not token a) = omega arith
  close_procedure_small s m i (syntax.Signed x token a) = omega arith
  close_procedure_small s m i (syntax.Member member token a class) = omega arith
  close_procedure_small s m i (syntax.Qua token a class) = omega arith
  close_procedure_small s m i (syntax.Constant literal token) = omega arith
  close_procedure_small s m i (syntax.This token class) = omega arith
  close_procedure_small s m i (syntax.New token class es) = omega arith
  close_procedure_small s m i (syntax.Parentheses token a) = some_weight a

  some_weight : (e : Expression) → 1 ≤ expression_weight e
  some_weight (syntax.Parentheses token a) = some_weight a
  some_weight (syntax.If token c a b) = omega arith
  some_weight (syntax.Binary op token a b) = omega arith
  some_weight (syntax.Not token a) = omega arith
  some_weight (syntax.Signed x token a) = omega arith
  some_weight (syntax.Member member token a class) = omega arith
  some_weight (syntax.Dot token a name es) = omega arith
  some_weight (syntax.Qua token a class) = omega arith
  some_weight (syntax.Constant literal token) = omega arith
  some_weight (syntax.Named name es) = omega arith
  some_weight (syntax.This token class) = omega arith
  some_weight (syntax.New token class es) = omega arith

  close_all_small : (s : Source) (m : Instances) (i : ℕ) (es : Expressions) → 1 + terms_weight (close_all s m i es) ≤ expressions_weight es
  close_all_small s m i NoMore = omega arith
  close_all_small s m i (Then e es) = omega (arith, close_small s m i e, close_all_small s m i es)

  close_actuals_small : (s : Source) (m : Instances) (i line : ℕ) (es : Expressions) (fs : List Formal) → terms_weight (close_actuals s m i line es fs) ≤ expressions_weight es
  close_actuals_small s m i line NoMore [] = omega arith
  close_actuals_small s m i line NoMore (f ∷ fs) = omega arith
  close_actuals_small s m i line (Then e es) [] = omega arith
  close_actuals_small s m i line (Then e es) (f ∷ fs) =
      let a = actual_term line f.mode f.kind (is_text_type f.ty) (close s m i e) (close_procedure s m i e) (ActualOf i (is_procedure_kind f.kind) e) in
      omega (arith, fitting_small (class_passed s f) line a, actual_small line f.mode f.kind (is_text_type f.ty) (close s m i e) (close_procedure s m i e) i (is_procedure_kind f.kind) e (expression_weight e) (close_small s m i e) (close_procedure_small s m i e), close_actuals_small s m i line es fs)

  -- those of a class, whose arrays by reference are kept
  close_kept_small : (s : Source) (m : Instances) (i line : ℕ) (es : Expressions) (fs : List Formal) → terms_weight (with_arrays_kept fs (close_actuals s m i line es fs)) ≤ expressions_weight es
  close_kept_small s m i line NoMore [] = omega arith
  close_kept_small s m i line NoMore (f ∷ fs) = omega (arith, kept_small f.mode f.kind NoMeaning, none_kept fs)
  close_kept_small s m i line (Then e es) [] = omega arith
  close_kept_small s m i line (Then e es) (f ∷ fs) =
      let a = actual_term line f.mode f.kind (is_text_type f.ty) (close s m i e) (close_procedure s m i e) (ActualOf i (is_procedure_kind f.kind) e) in
      let b = fitting (class_passed s f) line a in
      omega (arith, kept_small f.mode f.kind b, fitting_small (class_passed s f) line a, actual_small line f.mode f.kind (is_text_type f.ty) (close s m i e) (close_procedure s m i e) i (is_procedure_kind f.kind) e (expression_weight e) (close_small s m i e) (close_procedure_small s m i e), close_kept_small s m i line es fs)

-- ---- actual parameters by name, when they are evaluated

qualified_small : (k : ℕ) (t : Term) → term_weight (qualified k t) ≤ term_weight t
qualified_small k (Given p) = omega arith
qualified_small k (Cell j key) = omega arith
qualified_small k (PlaceOf j key) = omega arith
qualified_small k (ImageOf n) = omega arith
qualified_small k (One op line a) = omega arith
qualified_small k (Two op line a b) = omega arith
qualified_small k (Joined line a b) = omega arith
qualified_small k (Either c a b) = omega arith
qualified_small k (ElementOf line a ts) = omega arith
qualified_small k (ValueAt a) = omega arith
qualified_small k (CopyOf line a) = omega arith
qualified_small k (CallOf j k' ts line) = omega arith
qualified_small k (StandardOf name ts line) = omega arith
qualified_small k (NewOf j k' ts line) = omega arith
qualified_small k (AttributeOf k' key class line a) = omega arith
qualified_small k (RemoteCallOf a k' ts line) = omega arith
qualified_small k (QualifiedPlaceOf j key k') = omega arith
qualified_small k (QualifiedElementOf line k' a ts) = omega arith
qualified_small k (MemberOf member k' a) = omega arith
qualified_small k (QuaOf k' line a) = omega arith
qualified_small k (FitsOf k' line a) = omega arith
qualified_small k (KeptOf a) = omega arith
qualified_small k (NotNoneOf line a) = omega arith
qualified_small k (TransferOf t line a) = omega arith
qualified_small k (SetOf name ts) = omega arith
qualified_small k (ProcessOf name line a) = omega arith
qualified_small k (SimulationOf j name ts line) = omega arith
qualified_small k (OriginOf k' token line a) = omega arith
qualified_small k (ProcedureOf j k') = omega arith
qualified_small k (RemoteProcedureOf a k' line) = omega arith
qualified_small k (MatchOf a v line) = omega arith
qualified_small k (CheckedOf a leaves home es line) = omega arith
qualified_small k (ActualOf j p e) = omega arith
qualified_small k (NamedOf j key wanted) = omega arith
qualified_small k NoMeaning = omega arith

close_actual_small : (s : Source) (m : Instances) (i : ℕ) (e : Expression) → term_weight (close_actual s m i e) ≤ expression_weight e
close_actual_small s m i e = by_place (is_placed s e)
  where
    of_class : (class : Option ℕ) (formal : Option DeclNo) → term_weight (qualified_if class formal (close_place s m i e)) ≤ term_weight (close_place s m i e)
    of_class None formal = omega arith
    of_class (Some k) (Some d) = omega arith
    of_class (Some k) None = qualified_small k (close_place s m i e)

    by_place : (placed : Bool) → term_weight (close_actual_by placed s m i e) ≤ expression_weight e
    by_place true = omega (arith, of_class (qualification s (type_at s (typed_token e))) (by_name s e), close_place_small s m i e)
    by_place false = close_small s m i e

pub close_passed_small : (as_procedure : Bool) (s : Source) (m : Instances) (i : ℕ) (e : Expression) → term_weight (close_passed as_procedure s m i e) ≤ expression_weight e
close_passed_small true s m i e = close_procedure_small s m i e
close_passed_small false s m i e = close_actual_small s m i e
