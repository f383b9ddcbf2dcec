-- Expressions are closed when their statement begins: what an identifier denotes is looked up, and what instance that lies in.
use Rattle.std.specs.Prelude.{ℕ, Bool, true, false, ◌&&◌, ◌||◌, List, [], ◌∷◌, Option, Some, None}
use Rattle.sim_base.specs.declared.numbering.DeclNo.{DeclNo}
use Rattle.sim_scope.specs.declared.scopes.Denotation.{Denotation}
use Rattle.sim_scope.specs.declared.scopes.Denotation.TheVariants as denotation
use Rattle.sim_scope.specs.declared.types.Entry.{Entry}
use Rattle.sim_scope.specs.declared.types.Entry.TheVariants as entry
use Rattle.sim_scope.specs.declared.types.Formal.{Formal}
use Rattle.sim_scope.specs.declared.types.FormalKind.{FormalKind}
use Rattle.sim_scope.specs.declared.types.FormalKind.TheVariants as shape
use Rattle.sim_scope.specs.declared.types.Mode.{Mode}
use Rattle.sim_scope.specs.declared.types.Mode.TheVariants as mode
use Rattle.sim_scope.specs.declared.types.SimType.{SimType}
use Rattle.sim_scope.specs.declared.types.SimType.TheVariants as t
use Rattle.sim_scope.specs.Actuals.{result_in}
use Rattle.sim_scope.specs.Calls.{is_inside, match_seen, own_of}
use Rattle.sim_scope.specs.Scopes.{class_formals, entry_is, entry_of, formal_declared, formals_of, is_virtual}
use Rattle.sim_scope.specs.Source.{Source, block_of, denoted, found_at, level_of, line_at, type_at}
use Rattle.sim_tree.specs.declared.expr.Multiplication.TheVariants as multiplication
use Rattle.sim_tree.specs.declared.expr.Relation.{Relation}
use Rattle.sim_tree.specs.declared.expr.Relation.TheVariants as relation
use Rattle.sim_tree.specs.declared.expr.Sign.{Sign}
use Rattle.sim_tree.specs.declared.expr.Sign.TheVariants as sign
use Rattle.sim_tree.specs.declared.operator.Operator.{Operator}
use Rattle.sim_tree.specs.declared.operator.Operator.TheVariants as op
use Rattle.sim_tree.specs.declared.stmt.Assignment.{Assignment}
use Rattle.sim_tree.specs.declared.stmt.Assignment.TheVariants as assignment
use Rattle.sim_tree.specs.Syntax.{Expression, Expressions, Literal, NoMore, Then, naming}
use Rattle.sim_tree.specs.Syntax as syntax
use Rattle.sim_values.specs.declared.operators.Calculation.TheVariants as calculation
use Rattle.sim_values.specs.declared.operators.Comparison.{Comparison}
use Rattle.sim_values.specs.declared.operators.Comparison.TheVariants as comparison
use Rattle.sim_values.specs.declared.operators.Connective.TheVariants as connective
use Rattle.sim_values.specs.declared.operators.Dyadic.{Dyadic}
use Rattle.sim_values.specs.declared.operators.Dyadic.TheVariants as dyadic
use Rattle.sim_values.specs.declared.operators.Monadic.TheVariants as monadic
use Rattle.sim_values.specs.declared.standard.Standard.{Standard}
use Rattle.sim_values.specs.declared.standard.Standard.TheVariants as name_of
use Rattle.sim_values.specs.Plain.{Character, Integer, Nothing, Object, Plain, Text, Truth}
use Rattle.sim_values.specs.Standard.{is_image, moves_position, on_image}
use Rattle.sim_values.specs.Texts.{notext}
use Rattle.sim_code.specs.Instances.{at_level}
use Rattle.sim_meaning.specs.Attributes.{attribute, attribute_formals, connected_object, connection_at, attribute_procedure, declared_attribute, detach_term, fitting, block_found, generation, has_type, if_any, membership_term, own_attribute, own_term, parameter_qualification, place_of_attribute, qua_term, qualified, qualified_place, this_term, transfer_at, transfer_term, with_arrays_kept}
pub use Rattle.sim_meaning.specs.Attributes.{has_type}
use Rattle.sim_meaning.specs.Constants.{text_constant}
use Rattle.sim_meaning.specs.Levels.{class_at, qualification}
use Rattle.sim_meaning.specs.Names.{is_image_in, procedure_named, stream_named}
use Rattle.sim_meaning.specs.Texts.{constant_of}
use Rattle.sim_meaning.specs.Virtuals.{text_of_procedure}
use Rattle.sim_meaning.specs.Pending.{ActualOf, Cell, CallOf, CheckedOf, CopyOf, Declared, Either, ElementOf, Further, Given, ForPlace, ForValue, ImageOf, Instances, Joined, Key, MatchOf, NamedOf, NoTerm, One, PlaceOf, ProcedureOf, Result, StandardOf, Term, Terms, Two, NoMeaning, Use, ValueAt}

-- ---- operators

abbrev pub comparison_of : Relation → Option Comparison
comparison_of relation.Less = Some comparison.Less
comparison_of relation.LessEqual = Some comparison.LessOrEqual
comparison_of relation.Equal = Some comparison.Equal
comparison_of relation.GreaterEqual = Some comparison.GreaterOrEqual
comparison_of relation.Greater = Some comparison.Greater
comparison_of relation.NotEqual = Some comparison.NotEqual
comparison_of relation.SameReference = None
comparison_of relation.OtherReference = None

-- How an operator is done: as one of the operators on plain values; as the negation of one; or as a conditional expression, in which a
-- left operand of this value leaves out the right one.
pub data Sort : Type 0 where
  Plainly : Dyadic → Sort
  Negated : Dyadic → Sort
  Lazily : Bool → Sort
  Joining : Sort

abbrev pub compared : (texts : Bool) → Comparison → Dyadic
compared true r = dyadic.CompareTexts r
compared false r = dyadic.Compare r

abbrev pub same : (texts : Bool) → Dyadic
same true = dyadic.SameText
same false = dyadic.SameObject

abbrev pub sort_of_relation : (texts : Bool) → Relation → Sort
sort_of_relation texts relation.Less = Plainly (compared texts comparison.Less)
sort_of_relation texts relation.LessEqual = Plainly (compared texts comparison.LessOrEqual)
sort_of_relation texts relation.Equal = Plainly (compared texts comparison.Equal)
sort_of_relation texts relation.GreaterEqual = Plainly (compared texts comparison.GreaterOrEqual)
sort_of_relation texts relation.Greater = Plainly (compared texts comparison.Greater)
sort_of_relation texts relation.NotEqual = Plainly (compared texts comparison.NotEqual)
sort_of_relation texts relation.SameReference = Plainly (same texts)
sort_of_relation texts relation.OtherReference = Negated (same texts)

-- `texts` tells whether the operands are texts
abbrev pub sort_of : (texts : Bool) → Operator → Sort
sort_of texts op.OrElse = Lazily true
sort_of texts op.AndThen = Lazily false
sort_of texts op.Equivalent = Plainly (dyadic.Connect connective.Equivalent)
sort_of texts op.Implies = Plainly (dyadic.Connect connective.Implies)
sort_of texts op.Or = Plainly (dyadic.Connect connective.Or)
sort_of texts op.And = Plainly (dyadic.Connect connective.And)
sort_of texts (op.Relate r) = sort_of_relation texts r
sort_of texts op.Concatenate = Joining
sort_of texts (op.Add sign.Plus) = Plainly (dyadic.Calculate calculation.Add)
sort_of texts (op.Add sign.Minus) = Plainly (dyadic.Calculate calculation.Subtract)
sort_of texts (op.Multiply multiplication.Times) = Plainly (dyadic.Calculate calculation.Multiply)
sort_of texts (op.Multiply multiplication.Divide) = Plainly (dyadic.Calculate calculation.Divide)
sort_of texts op.Power = Plainly (dyadic.Calculate calculation.Power)

abbrev pub is_text_type : Option SimType → Bool
is_text_type (Some t.Text) = true
is_text_type _ = false

-- the token at which the type of an expression stands: that of parentheses is the type of what is in them
abbrev pub typed_token : Expression → ℕ
typed_token (syntax.Parentheses token a) = typed_token a
typed_token e = naming e

-- whether an expression is a text
unfoldable pub is_text : Source → Expression → Bool
is_text s e = is_text_type (type_at s (typed_token e))

-- ---- terms

-- the image of names that stand without a dot
abbrev pub sysout : ℕ
sysout = 1

abbrev pub two_term : Sort → (line : ℕ) → Term → Term → Term
two_term (Plainly op) line a b = Two op line a b
two_term (Negated op) line a b = One monadic.Not line (Two op line a b)
two_term (Lazily true) line a b = Either a (Given (Truth true)) b
two_term (Lazily false) line a b = Either a b (Given (Truth false))
two_term Joining line a b = Joined line a b

abbrev pub signed_term : Sign → (line : ℕ) → Term → Term
signed_term sign.Plus line a = a
signed_term sign.Minus line a = One monadic.Negate line a

abbrev pub given_term : Option Plain → Term
given_term None = NoMeaning
given_term (Some p) = Given p

abbrev pub literal_term : Source → (token : ℕ) → Literal → Term
literal_term s token (syntax.IntegerValue z) = Given (Integer z)
literal_term s token (syntax.CharacterValue c) = Given (Character c)
literal_term s token (syntax.TextValue bytes) = given_term (text_constant s token)
literal_term s token (syntax.BooleanValue b) = Given (Truth b)
literal_term s token syntax.NoObject = Given Nothing
literal_term s token syntax.NoText = Given (Text notext)

abbrev pub in_instance : Option ℕ → (ℕ → Term) → Term
in_instance None f = NoMeaning
in_instance (Some j) f = f j

-- the instance, seen from the instance i, in which a declaration lies
unfoldable pub home_of : Source → Instances → ℕ → DeclNo → Option ℕ
home_of s m i d = at_level m (level_of s (block_of s d)) i

abbrev pub variable_term : Source → Instances → ℕ → DeclNo → Expressions → Term
variable_term s m i d NoMore = in_instance (home_of s m i d) (λ j. Cell j (Declared d.0))
variable_term s m i d (Then e es) = NoMeaning

-- a constant is its value
abbrev pub constant_term : Option Plain → Expressions → Term
constant_term (Some p) NoMore = Given p
constant_term _ es = NoMeaning

-- an array by itself, or one of its elements
abbrev pub array_term : Source → Instances → ℕ → (line : ℕ) → DeclNo → Expressions → Terms → Term
array_term s m i line d NoMore terms = in_instance (home_of s m i d) (λ j. Cell j (Declared d.0))
array_term s m i line d (Then e es) terms = in_instance (home_of s m i d) (λ j. ValueAt (ElementOf line (Cell j (Declared d.0)) terms))

-- a formal parameter by name is used in the instance of its procedure; a reference is held against its qualification
abbrev pub name_term : Source → Instances → ℕ → DeclNo → Expressions → Use → Term
name_term s m i d NoMore wanted = in_instance (home_of s m i d) (λ j. NamedOf j (Declared d.0) wanted)
name_term s m i d (Then e es) wanted = NoMeaning

abbrev pub type_of_formal : Option Entry → Option SimType
type_of_formal (Some (entry.Formal f)) = f.ty
type_of_formal _ = None

abbrev pub class_of_formal : Source → DeclNo → Option ℕ
class_of_formal s d = qualification s (type_of_formal (entry_of s.tables d))

-- an array that a formal parameter is by name: it is used, and held against nothing
abbrev pub named_array : Source → Instances → ℕ → (line : ℕ) → DeclNo → Expressions → Terms → Term
named_array s m i line d NoMore terms = name_term s m i d NoMore (ForValue None line)
named_array s m i line d (Then e es) terms = in_instance (home_of s m i d) (λ j. ValueAt (ElementOf line (NamedOf j (Declared d.0) (ForValue None line)) terms))

-- the procedure that a formal parameter is, by name or not
abbrev pub formal_value : (line : ℕ) → DeclNo → Mode → (instance : ℕ) → Term
formal_value line d mode.ByName j = NamedOf j (Declared d.0) (ForValue None line)
formal_value line d mode j = Cell j (Declared d.0)

abbrev pub formal_term : Source → Instances → ℕ → (line : ℕ) → DeclNo → Mode → FormalKind → (leaves : Bool) → Expressions → Terms → Term
formal_term s m i line d mode.ByName shape.Simple leaves es terms = name_term s m i d es (ForValue (class_of_formal s d) line)
formal_term s m i line d mode.ByName shape.Array leaves es terms = named_array s m i line d es terms
formal_term s m i line d mode shape.Simple leaves es terms = variable_term s m i d es
formal_term s m i line d mode shape.Array leaves es terms = array_term s m i line d es terms
formal_term s m i line d mode shape.Procedure leaves es terms = in_instance (home_of s m i d) (λ j. CheckedOf (formal_value line d mode j) leaves i es line)

abbrev pub formal_before : Option Formal → List Formal → List Formal
formal_before None fs = fs
formal_before (Some f) fs = f ∷ fs

abbrev pub formals_from : Source → List DeclNo → List Formal
formals_from s [] = []
formals_from s (d ∷ ds) = formal_before (formal_declared s.tables (Some d)) (formals_from s ds)

-- the formal parameters of a procedure
abbrev pub formals_declared : Source → DeclNo → Option Entry → List Formal
formals_declared s d (Some (entry.Attribute name parameter result)) = attribute_formals parameter
formals_declared s d e = formals_from s (formals_of s.tables d)

abbrev pub formals_at : Source → DeclNo → List Formal
formals_at s d = formals_declared s d (entry_of s.tables d)

-- an identifier that is declared, with its operands, as they are closed for themselves and for formal parameters
abbrev pub declared_term : Source → Instances → ℕ → (line : ℕ) → DeclNo → Option Entry → Expressions → Terms → (List Formal → Terms) → Term
declared_term s m i line d (Some (entry.Variable type)) es terms actuals = variable_term s m i d es
declared_term s m i line d (Some (entry.Constant type)) es terms actuals = constant_term (constant_of s d) es
declared_term s m i line d (Some (entry.Array element dimensions)) es terms actuals = array_term s m i line d es terms
declared_term s m i line d (Some (entry.Formal f)) es terms actuals = formal_term s m i line d f.mode f.kind (has_type f.ty) es terms
declared_term s m i line d (Some (entry.Procedure result block)) es terms actuals = in_instance (home_of s m i d) (λ j. CallOf j block (actuals (formals_at s d)) line)
-- the object around is the one whose procedure is done
declared_term s m i line d (Some (entry.Virtual result own)) es terms actuals = in_instance (home_of s m i d) (λ j. CheckedOf (MatchOf (Given (Object j)) d.0 line) (has_type result) i es line)
declared_term s m i line d _ es terms actuals = NoMeaning

-- Names of both images are done on one of them: `image` is its text, and the others are names of texts.
abbrev pub standard_name_term : (is_image : Bool) → (on_image : Option Standard) → Standard → (image line : ℕ) → Terms → Term
standard_name_term true other name image line terms = ValueAt (ImageOf image)
standard_name_term false (Some of_text) name image line terms = StandardOf of_text (Further (ImageOf image) terms) line
standard_name_term false None name image line terms = StandardOf name terms line

abbrev pub standard_term : Option Standard → (image line : ℕ) → Terms → Term
standard_term None image line terms = NoMeaning
standard_term (Some name) image line terms = standard_name_term (is_image name) (on_image name) name image line terms

abbrev pub named_term : Source → Instances → ℕ → (line : ℕ) → Option Denotation → Expressions → Terms → (List Formal → Terms) → Term
named_term s m i line None es terms actuals = NoMeaning
named_term s m i line (Some (denotation.Declared d)) es terms actuals = declared_term s m i line d (entry_of s.tables d) es terms actuals
named_term s m i line (Some (denotation.Standard name)) es terms actuals = standard_term (procedure_named name) sysout line terms

-- ---- variables, whose position the attributes of texts move

abbrev pub has_operands : Expressions → Bool
has_operands NoMore = false
has_operands (Then e es) = true

-- an element of an array is a variable, and an array alone is none
abbrev pub is_variable_formal : FormalKind → Expressions → Bool
is_variable_formal shape.Simple es = true
is_variable_formal shape.Array es = has_operands es
is_variable_formal shape.Procedure es = false

abbrev pub is_variable_entry : Option Entry → Expressions → Bool
is_variable_entry (Some (entry.Variable type)) es = true
is_variable_entry (Some (entry.Array element dimensions)) es = has_operands es
is_variable_entry (Some (entry.Formal f)) es = is_variable_formal f.kind es
is_variable_entry _ es = false

abbrev pub is_image_denoted : Option Denotation → Bool
is_image_denoted (Some (denotation.Standard name)) = is_image_in (procedure_named name)
is_image_denoted _ = false

abbrev pub is_variable_denoted : Source → Option Denotation → Expressions → Bool
is_variable_denoted s (Some (denotation.Declared d)) es = is_variable_entry (entry_of s.tables d) es
is_variable_denoted s denotation es = is_image_denoted denotation

-- `sysin` or `sysout` before a dot
abbrev pub stream_denoted : Option Denotation → Option ℕ
stream_denoted (Some (denotation.Standard name)) = stream_named name
stream_denoted _ = None

unfoldable pub stream_of : Source → Expression → Option ℕ
stream_of s (syntax.Named name es) = stream_denoted (denoted s name.token.0)
stream_of s _ = None

abbrev pub is_image_behind : (stream : Option ℕ) → Option Denotation → Bool
is_image_behind None denotation = false
is_image_behind (Some image) denotation = is_image_denoted denotation

-- whether an expression is a variable, an element of an array, or an image; the result of a procedure is none, it is a call
unfoldable pub is_variable : Source → Expression → Bool
is_variable s (syntax.Named name es) = is_variable_denoted s (denoted s name.token.0) es
is_variable s (syntax.Dot token a name es) = is_image_behind (stream_of s a) (denoted s name.token.0)
is_variable s _ = false

-- whether an expression is a variable of an object, or an element of an array that it has
abbrev pub is_attribute_denoted : Source → Option Denotation → Expressions → Bool
is_attribute_denoted s (Some (denotation.Declared d)) es = is_variable_entry (entry_of s.tables d) es
is_attribute_denoted s _ es = false

unfoldable pub is_attribute : Source → Expression → Bool
is_attribute s (syntax.Dot token a name es) = is_attribute_denoted s (denoted s name.token.0) es
is_attribute s _ = false

-- where a variable lies
abbrev pub variable_place : Source → Instances → ℕ → DeclNo → Expressions → Term
variable_place s m i d NoMore = in_instance (home_of s m i d) (λ j. PlaceOf j (Declared d.0))
variable_place s m i d (Then e es) = NoMeaning

abbrev pub array_place : Source → Instances → ℕ → (line : ℕ) → DeclNo → Expressions → Terms → Term
array_place s m i line d NoMore terms = NoMeaning
array_place s m i line d (Then e es) terms = in_instance (home_of s m i d) (λ j. ElementOf line (Cell j (Declared d.0)) terms)

abbrev pub named_array_place : Source → Instances → ℕ → (line : ℕ) → DeclNo → Expressions → Terms → Term
named_array_place s m i line d NoMore terms = NoMeaning
named_array_place s m i line d (Then e es) terms = in_instance (home_of s m i d) (λ j. ElementOf line (NamedOf j (Declared d.0) (ForValue None line)) terms)

abbrev pub formal_place : Source → Instances → ℕ → (line : ℕ) → DeclNo → Mode → FormalKind → Expressions → Terms → Term
formal_place s m i line d mode.ByName shape.Simple es terms = name_term s m i d es (ForPlace true line)
formal_place s m i line d mode.ByName shape.Array es terms = named_array_place s m i line d es terms
formal_place s m i line d mode shape.Simple es terms = variable_place s m i d es
formal_place s m i line d mode shape.Array es terms = array_place s m i line d es terms
formal_place s m i line d mode shape.Procedure es terms = NoMeaning

abbrev pub declared_place : Source → Instances → ℕ → (line : ℕ) → DeclNo → Option Entry → Expressions → Terms → Term
declared_place s m i line d (Some (entry.Variable type)) es terms = variable_place s m i d es
declared_place s m i line d (Some (entry.Array element dimensions)) es terms = array_place s m i line d es terms
declared_place s m i line d (Some (entry.Formal f)) es terms = formal_place s m i line d f.mode f.kind es terms
declared_place s m i line d _ es terms = NoMeaning

-- the image of a stream, or what else is in front of the dot
abbrev pub image_place : (stream : Option ℕ) → (other : Term) → Term
image_place None other = other
image_place (Some image) other = ImageOf image

abbrev pub named_place : Source → Instances → ℕ → (line : ℕ) → Option Denotation → Expressions → Terms → Term
named_place s m i line (Some (denotation.Declared d)) es terms = declared_place s m i line d (entry_of s.tables d) es terms
named_place s m i line _ es terms = ImageOf sysout

-- An attribute of a text that moves its position gets where a variable lies, and so reads it after the actual; any other gets the text.
abbrev pub object_term : (place : Bool) → (variable text : Term) → Term
object_term true variable text = variable
object_term false variable text = text

abbrev pub attribute_term : Option Standard → (is_variable : Bool) → (line : ℕ) → (variable text : Term) → Terms → Term
attribute_term None is_variable line variable text terms = NoMeaning
attribute_term (Some name) is_variable line variable text terms = StandardOf name (Further (object_term (moves_position name && is_variable) variable text) terms) line

abbrev pub behind_dot : (stream : Option ℕ) → Option Standard → (is_variable : Bool) → (line : ℕ) → (variable text : Term) → Terms → Term
behind_dot (Some image) name is_variable line variable text terms = standard_term name image line terms
behind_dot None name is_variable line variable text terms = attribute_term name is_variable line variable text terms

-- an attribute of a text or of a stream
abbrev pub dot_term : Option Denotation → (stream : Option ℕ) → (is_variable : Bool) → (line : ℕ) → (variable text : Term) → Terms → Term
dot_term (Some (denotation.Standard name)) stream is_variable line variable text terms = behind_dot stream (procedure_named name) is_variable line variable text terms
dot_term _ stream is_variable line variable text terms = NoMeaning

-- An actual parameter: an array and a text by value are copied; one by name is passed as it is; a procedure is not called.
abbrev pub actual_term : (line : ℕ) → Mode → FormalKind → (text : Bool) → (value procedure actual : Term) → Term
actual_term line mode.ByName kind text a p e = e
actual_term line mode.ByValue shape.Array text a p e = CopyOf line a
actual_term line mode.ByReference shape.Array text a p e = a
actual_term line mode.ByValue shape.Simple true a p e = StandardOf name_of.Copy (Further a NoTerm) line
actual_term line mode.ByValue shape.Simple false a p e = a
actual_term line mode.ByReference shape.Simple text a p e = a
actual_term line mode shape.Procedure text a p e = p

abbrev pub is_procedure_kind : FormalKind → Bool
is_procedure_kind shape.Procedure = true
is_procedure_kind shape.Simple = false
is_procedure_kind shape.Array = false

-- a value is held against the qualification of its formal parameter; by name that is done at each use
abbrev pub class_passed : Source → Formal → Option ℕ
class_passed s f = by_mode f.mode (parameter_qualification s f.kind f.ty)
  where
    by_mode : Mode → Option ℕ → Option ℕ
    by_mode mode.ByName class = None
    by_mode mode class = class

-- the formal parameters of a class, of all its levels
abbrev pub class_parameters : Source → Option ℕ → List Formal
class_parameters s None = []
class_parameters s (Some k) = formals_from s (class_formals s.tables k)

-- the instance in which a class is declared
abbrev pub home_of_class : Source → Instances → ℕ → Option Denotation → Option ℕ
home_of_class s m i (Some (denotation.Declared d)) = home_of s m i d
home_of_class s m i _ = None

-- A procedure as a value. One that is seen without a dot is declared around, or is a formal parameter.
abbrev pub formal_procedure : Source → Instances → ℕ → (line : ℕ) → DeclNo → Mode → FormalKind → Term
formal_procedure s m i line d mode shape.Procedure = in_instance (home_of s m i d) (λ j. formal_value line d mode j)
formal_procedure s m i line d mode kind = NoMeaning

abbrev pub declared_procedure : Source → Instances → ℕ → (line : ℕ) → DeclNo → Option Entry → Term
declared_procedure s m i line d (Some (entry.Procedure result block)) = in_instance (home_of s m i d) (λ j. ProcedureOf j block)
declared_procedure s m i line d (Some (entry.Virtual result own)) = in_instance (home_of s m i d) (λ j. MatchOf (Given (Object j)) d.0 line)
declared_procedure s m i line d (Some (entry.Formal f)) = formal_procedure s m i line d f.mode f.kind
declared_procedure s m i line d _ = NoMeaning

abbrev pub procedure_denoted : Source → Instances → ℕ → (line : ℕ) → Option Denotation → Term
procedure_denoted s m i line (Some (denotation.Declared d)) = declared_procedure s m i line d (entry_of s.tables d)
procedure_denoted s m i line _ = NoMeaning

abbrev mutual
  -- an expression as the instance i sees it
  pub close : Source → Instances → ℕ → Expression → Term
  close s m i (syntax.If token c a b) = Either (close s m i c) (close s m i a) (close s m i b)
  close s m i (syntax.Binary op token a b) = two_term (sort_of (is_text s a) op) (line_at s token) (close s m i a) (close s m i b)
  close s m i (syntax.Not token a) = One monadic.Not (line_at s token) (close s m i a)
  close s m i (syntax.Signed sign token a) = signed_term sign (line_at s token) (close s m i a)
  close s m i (syntax.Member member token a class) = membership_term member (class_at s class.token.0) (close s m i a)
  close s m i (syntax.Dot token a name es) =
      if_any (transfer_at s name.token.0) (λ t. detach_term (line_at s name.token.0) (close s m i a))
      (if_any (declared_attribute (denoted s name.token.0))
      (attribute s i (line_at s name.token.0) (close s m i a) es (close_all s m i es) (λ d. close_actuals s m i (line_at s name.token.0) es (formals_at s d)))
      (dot_term (denoted s name.token.0) (stream_of s a) (is_variable s a || is_attribute s a) (line_at s name.token.0) (close_place s m i a) (close s m i a) (close_all s m i es)))
  close s m i (syntax.Qua token a class) = qua_term (class_at s class.token.0) (line_at s token) (close s m i a)
  close s m i (syntax.Constant literal token) = literal_term s token literal
  close s m i (syntax.Named name es) =
      if_any (transfer_at s name.token.0) (λ t. transfer_term t (line_at s name.token.0) (this_term s m i (found_at s name.token.0)) (close_all s m i es))
      (if_any (connection_at s name.token.0)
      (λ k. if_any (declared_attribute (denoted s name.token.0))
      (attribute s i (line_at s name.token.0) (connected_object s m i k) es (close_all s m i es) (λ d. close_actuals s m i (line_at s name.token.0) es (formals_at s d)))
      NoMeaning)
      (if_any (own_attribute s name.token.0)
      (λ d. own_term s (entry_of s.tables d) (block_found s m i (found_at s name.token.0)) (close_actuals s m i (line_at s name.token.0) es (formals_at s d)) (line_at s name.token.0)
      (attribute s i (line_at s name.token.0) (this_term s m i (found_at s name.token.0)) es (close_all s m i es) (λ d. close_actuals s m i (line_at s name.token.0) es (formals_at s d)) d))
      (named_term s m i (line_at s name.token.0) (denoted s name.token.0) es (close_all s m i es) (λ formals. close_actuals s m i (line_at s name.token.0) es formals))))
  close s m i (syntax.This token class) = this_term s m i (found_at s token)
  close s m i (syntax.New token class es) =
      generation s class.token.0 (home_of_class s m i (denoted s class.token.0)) (class_at s class.token.0)
      (with_arrays_kept (class_parameters s (class_at s class.token.0)) (close_actuals s m i (line_at s class.token.0) es (class_parameters s (class_at s class.token.0)))) (line_at s token)
  close s m i (syntax.Parentheses token a) = close s m i a

  -- where a variable lies
  pub close_place : Source → Instances → ℕ → Expression → Term
  close_place s m i (syntax.Named name es) =
      if_any (connection_at s name.token.0)
      (λ k. if_any (declared_attribute (denoted s name.token.0)) (place_of_attribute s (line_at s name.token.0) (connected_object s m i k) es (close_all s m i es)) NoMeaning)
      (named_place s m i (line_at s name.token.0) (denoted s name.token.0) es (close_all s m i es))
  close_place s m i (syntax.Dot token a name es) =
      image_place (stream_of s a) (if_any (declared_attribute (denoted s name.token.0)) (place_of_attribute s (line_at s name.token.0) (close s m i a) es (close_all s m i es)) NoMeaning)
  close_place s m i _ = NoMeaning

  -- a procedure that stands alone
  pub close_procedure : Source → Instances → ℕ → Expression → Term
  close_procedure s m i (syntax.Named name NoMore) =
      if_any (connection_at s name.token.0)
      (λ k. if_any (declared_attribute (denoted s name.token.0)) (attribute_procedure s (line_at s name.token.0) (connected_object s m i k)) NoMeaning)
      (procedure_denoted s m i (line_at s name.token.0) (denoted s name.token.0))
  close_procedure s m i (syntax.Dot token a name NoMore) =
      if_any (declared_attribute (denoted s name.token.0)) (attribute_procedure s (line_at s name.token.0) (close s m i a)) NoMeaning
  close_procedure s m i _ = NoMeaning

  pub close_all : Source → Instances → ℕ → Expressions → Terms
  close_all s m i NoMore = NoTerm
  close_all s m i (Then e es) = Further (close s m i e) (close_all s m i es)

  -- actual parameters, one for each formal
  pub close_actuals : Source → Instances → ℕ → (line : ℕ) → Expressions → List Formal → Terms
  close_actuals s m i line NoMore [] = NoTerm
  close_actuals s m i line NoMore (f ∷ fs) = Further NoMeaning NoTerm
  close_actuals s m i line (Then e es) [] = Further NoMeaning NoTerm
  close_actuals s m i line (Then e es) (f ∷ fs) =
      Further (fitting (class_passed s f) line (actual_term line f.mode f.kind (is_text_type f.ty) (close s m i e) (close_procedure s m i e) (ActualOf i (is_procedure_kind f.kind) e))) (close_actuals s m i line es fs)

-- the actual parameters of a block prefix, whose class has these formal parameters
abbrev pub close_parameters : Source → Instances → ℕ → (line : ℕ) → Expressions → List Formal → Terms
close_parameters s m i line es fs = with_arrays_kept fs (close_actuals s m i line es fs)

-- the formal parameter by name that an expression is
abbrev pub named_formal : Mode → FormalKind → DeclNo → Option DeclNo
named_formal mode.ByName shape.Simple d = Some d
named_formal mode kind d = None

abbrev pub formal_by_name : DeclNo → Option Entry → Option DeclNo
formal_by_name d (Some (entry.Formal f)) = named_formal f.mode f.kind d
formal_by_name d _ = None

abbrev pub name_denoted : Source → Option Denotation → Option DeclNo
name_denoted s (Some (denotation.Declared d)) = formal_by_name d (entry_of s.tables d)
name_denoted s _ = None

unfoldable pub by_name : Source → Expression → Option DeclNo
by_name s (syntax.Named name NoMore) = name_denoted s (denoted s name.token.0)
by_name s _ = None

-- Whether an expression is a variable that is declared, or an element of such an array, seen with a dot or without. An image is none.
unfoldable pub is_placed : Source → Expression → Bool
is_placed s (syntax.Named name es) = is_attribute_denoted s (denoted s name.token.0) es
is_placed s (syntax.Dot token a name es) = is_attribute_denoted s (denoted s name.token.0) es
is_placed s _ = false

-- The evaluation of an actual parameter by name gives where such a variable lies, or the value of any other expression. A formal parameter by name
-- alone is handed on as it is.
abbrev pub qualified_if : (class : Option ℕ) → (by_name : Option DeclNo) → (place : Term) → Term
qualified_if None formal place = place
qualified_if (Some k) (Some d) place = place
qualified_if (Some k) None place = qualified k place

abbrev pub close_actual_by : Bool → Source → Instances → ℕ → Expression → Term
close_actual_by true s m i e = qualified_if (qualification s (type_at s (typed_token e))) (by_name s e) (close_place s m i e)
close_actual_by false s m i e = close s m i e

abbrev pub close_actual : Source → Instances → ℕ → Expression → Term
close_actual s m i e = close_actual_by (is_placed s e) s m i e

-- an actual parameter that is passed as a procedure gives that, and is not called
abbrev pub close_passed : (as_procedure : Bool) → Source → Instances → ℕ → Expression → Term
close_passed true s m i e = close_procedure s m i e
close_passed false s m i e = close_actual s m i e

-- ---- left sides

-- a left side: a cell, or the tree of an address, or that of a text which a text is assigned to, or the address of a reference
pub data Left : Type 0 where
  LeftCell : (instance : ℕ) → Key → Left
  LeftAddress : Term → Left
  LeftText : (line : ℕ) → Term → Left
  LeftReference : (line : ℕ) → Term → Left
  LeftNamed : (class line : ℕ) → Term → Left
  NoLeftSide : Left

abbrev pub left_in : Option ℕ → (ℕ → Left) → Left
left_in None f = NoLeftSide
left_in (Some j) f = f j

abbrev pub variable_left : Source → Instances → ℕ → DeclNo → Expressions → Left
variable_left s m i d NoMore = left_in (home_of s m i d) (λ j. LeftCell j (Declared d.0))
variable_left s m i d (Then e es) = NoLeftSide

abbrev pub array_left : Source → Instances → ℕ → (line : ℕ) → DeclNo → Expressions → Left
array_left s m i line d NoMore = NoLeftSide
array_left s m i line d (Then e es) = left_in (home_of s m i d) (λ j. LeftAddress (ElementOf line (Cell j (Declared d.0)) (close_all s m i (Then e es))))

abbrev pub named_array_left : Source → Instances → ℕ → (line : ℕ) → DeclNo → Expressions → Left
named_array_left s m i line d NoMore = NoLeftSide
named_array_left s m i line d (Then e es) = LeftAddress (named_array_place s m i line d (Then e es) (close_all s m i (Then e es)))

-- the result of a procedure lies in its own instance
abbrev pub result_left : Source → Instances → ℕ → (block : ℕ) → Expressions → Left
result_left s m i block NoMore = left_in (at_level m (level_of s block) i) (λ j. LeftCell j Result)
result_left s m i block (Then e es) = NoLeftSide

abbrev pub formal_left : Source → Instances → ℕ → (line : ℕ) → DeclNo → Mode → FormalKind → Expressions → Left
formal_left s m i line d mode.ByName shape.Simple es = NoLeftSide
formal_left s m i line d mode.ByName shape.Array es = named_array_left s m i line d es
formal_left s m i line d mode shape.Simple es = variable_left s m i d es
formal_left s m i line d mode shape.Array es = array_left s m i line d es
formal_left s m i line d mode shape.Procedure es = NoLeftSide

abbrev pub declared_left : Source → Instances → ℕ → (line : ℕ) → DeclNo → Option Entry → Expressions → Left
declared_left s m i line d (Some (entry.Variable type)) es = variable_left s m i d es
declared_left s m i line d (Some (entry.Array element dimensions)) es = array_left s m i line d es
declared_left s m i line d (Some (entry.Formal f)) es = formal_left s m i line d f.mode f.kind es
declared_left s m i line d (Some (entry.Procedure result block)) es = result_left s m i block es
declared_left s m i line d _ es = NoLeftSide

abbrev pub named_left : Source → Instances → ℕ → (line : ℕ) → Option Denotation → Expressions → Left
named_left s m i line (Some (denotation.Declared d)) es = declared_left s m i line d (entry_of s.tables d) es
named_left s m i line _ es = NoLeftSide

-- The match of a virtual whose result an expression is as a left side: of the identifier alone of the virtual, inside the text of the match that the
-- search comes to.
abbrev pub is_virtual_denoted : Source → Option Denotation → Bool
is_virtual_denoted s (Some (denotation.Declared d)) = entry_is is_virtual (entry_of s.tables d)
is_virtual_denoted s _ = false

abbrev pub match_if_virtual : Bool → Option DeclNo → Option DeclNo
match_if_virtual true d = d
match_if_virtual false d = None

unfoldable pub own_match : Source → Expression → Option DeclNo
own_match s (syntax.Named name NoMore) = match_if_virtual (is_virtual_denoted s (denoted s name.token.0)) (own_of s.tables name (match_seen s.tables name))
own_match s _ = None

abbrev pub result_or_own : (match own : Option ℕ) → Option ℕ
result_or_own None own = own
result_or_own (Some block) own = Some block

-- an attribute of an object is found anew as a left side
abbrev pub left_found : {A : Type 0} → Option A → (place : Term) → Left → Left
left_found None place other = other
left_found (Some a) place other = LeftAddress place

-- the result of a match lies in the instance of that
abbrev pub match_left : Source → Instances → ℕ → (match : Option ℕ) → Left → Left
match_left s m i None other = other
match_left s m i (Some block) other = result_left s m i block NoMore

-- a variable as a left side
abbrev pub left_variable : Source → Instances → ℕ → Expression → Left
left_variable s m i (syntax.Named name es) =
    left_found (connection_at s name.token.0) (close_place s m i (syntax.Named name es))
    (match_left s m i (text_of_procedure s (own_match s (syntax.Named name es))) (named_left s m i (line_at s name.token.0) (denoted s name.token.0) es))
left_variable s m i (syntax.Dot token a name es) = left_found (declared_attribute (denoted s name.token.0)) (close_place s m i (syntax.Dot token a name es)) NoLeftSide
left_variable s m i e = NoLeftSide

-- The block of the procedure whose result an expression is as a left side: of the identifier alone of a procedure, inside its text.
abbrev pub block_if : Bool → ℕ → Option ℕ
block_if true block = Some block
block_if false block = None

abbrev pub own_block : Source → (token : ℕ) → Option Entry → Option ℕ
own_block s token (Some (entry.Procedure result block)) = block_if (is_inside s.tables token block) block
own_block s token _ = None

abbrev pub own_block_denoted : Source → (token : ℕ) → Option Denotation → Option ℕ
own_block_denoted s token (Some (denotation.Declared d)) = own_block s token (entry_of s.tables d)
own_block_denoted s token _ = None

unfoldable pub own_result : Source → Expression → Option ℕ
own_result s (syntax.Named name NoMore) = own_block_denoted s name.token.0 (denoted s name.token.0)
own_result s _ = None

-- What is seen in a connection is an attribute of the object there, also where it is the procedure in whose text it stands.
abbrev pub unless_connected : (connection : Option ℕ) → Option ℕ → Option ℕ
unless_connected None own = own
unless_connected (Some k) own = None

-- the procedure whose own result a left side is
unfoldable pub result_meant : Source → Expression → Option ℕ
result_meant s (syntax.Named name es) = unless_connected (connection_at s name.token.0) (result_or_own (text_of_procedure s (own_match s (syntax.Named name es))) (own_result s (syntax.Named name es)))
result_meant s _ = None

-- the text that is assigned to: the result of a procedure, or the value of any other expression
abbrev pub result_or : Source → Instances → ℕ → Option ℕ → Term → Term
result_or s m i None text = text
result_or s m i (Some block) text = in_instance (at_level m (level_of s block) i) (λ j. Cell j Result)

-- Through a formal parameter by name only a variable is assigned to, also by `:=` of texts.
abbrev pub named_text : Source → Instances → ℕ → (line : ℕ) → Option DeclNo → Term → Term
named_text s m i line None text = text
named_text s m i line (Some d) text = ValueAt (name_term s m i d NoMore (ForPlace false line))

abbrev pub left_text : Source → Instances → ℕ → (line : ℕ) → Expression → Term
left_text s m i line e = named_text s m i line (by_name s e) (result_or s m i (result_meant s e) (close s m i e))

-- A reference is assigned to a variable, an element of an array, an attribute, or the result of a procedure. The value is held against the
-- qualification of the left side.
abbrev pub result_place : Source → Instances → ℕ → Option ℕ → (place : Term) → Term
result_place s m i None place = place
result_place s m i (Some block) place = in_instance (at_level m (level_of s block) i) (λ j. PlaceOf j Result)

-- The result of a match has its own type, which is that of the virtual or of a subclass of that.
abbrev pub type_of_left : Source → (match : Option DeclNo) → (type : Option SimType) → Option SimType
type_of_left s None type = type
type_of_left s (Some d) type = result_in (entry_of s.tables d)

abbrev pub left_type : Source → Expression → Option SimType
left_type s e = type_of_left s (own_match s e) (type_at s (typed_token e))

abbrev pub reference_place : Source → Instances → ℕ → Expression → Term
reference_place s m i e = qualified_place (qualification s (left_type s e)) (result_place s m i (result_meant s e) (close_place s m i e))

abbrev pub left_plain : Source → Instances → ℕ → (line : ℕ) → Option DeclNo → Expression → Left
left_plain s m i line None e = left_variable s m i e
left_plain s m i line (Some d) e = LeftAddress (name_term s m i d NoMore (ForPlace false line))

-- The actual of a formal parameter by name has a qualification of its own, so that what is assigned is held against both.
abbrev pub left_named : (class : Option ℕ) → (line : ℕ) → Term → Left
left_named None line place = NoLeftSide
left_named (Some k) line place = LeftNamed k line place

abbrev pub reference_left : Source → Instances → ℕ → (line : ℕ) → Option DeclNo → Expression → Left
reference_left s m i line None e = LeftReference line (reference_place s m i e)
reference_left s m i line (Some d) e = left_named (class_of_formal s d) line (name_term s m i d NoMore (ForPlace false line))

-- `:=` assigns a text to a text, and any other value to a variable; `:-` assigns a text to a variable, and a reference
abbrev pub close_left_of : (text : Bool) → Assignment → Source → Instances → ℕ → (line : ℕ) → Expression → Left
close_left_of true assignment.Value s m i line e = LeftText line (left_text s m i line e)
close_left_of true assignment.Reference s m i line e = left_plain s m i line (by_name s e) e
close_left_of false assignment.Value s m i line e = left_plain s m i line (by_name s e) e
close_left_of false assignment.Reference s m i line e = reference_left s m i line (by_name s e) e

-- a left side, with the line of its sign
abbrev pub close_left : Source → Instances → ℕ → Assignment → (line : ℕ) → Expression → Left
close_left s m i sign line e = close_left_of (is_text s e) sign s m i line e
