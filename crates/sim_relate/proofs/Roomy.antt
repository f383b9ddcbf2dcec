-- Where an expression stands there is room for its value.
use Rattle.std.proofs.Common.{◌≡◌, ◌<◌, ℕ, suc, Bool, true, false, Option, Some, None}
use Rattle.std.specs.Prelude.{◌||◌}
use Rattle.sim_base.specs.declared.numbering.DeclNo.{DeclNo}
use Rattle.sim_scope.specs.declared.scopes.Denotation.{Denotation}
use Rattle.sim_scope.specs.declared.scopes.Denotation.TheVariants as denotation
use Rattle.sim_scope.specs.declared.types.Entry.{Entry}
use Rattle.sim_scope.specs.declared.types.Entry.TheVariants as entry
use Rattle.sim_scope.specs.declared.types.FormalKind.{FormalKind}
use Rattle.sim_scope.specs.declared.types.FormalKind.TheVariants as shape
use Rattle.sim_scope.specs.declared.types.Mode.{Mode}
use Rattle.sim_scope.specs.declared.types.Mode.TheVariants as mode
use Rattle.sim_scope.specs.Scopes.{entry_of}
use Rattle.sim_scope.specs.Source.{Source, denoted, found_at, line_at}
use Rattle.sim_tree.specs.declared.expr.Membership.{Membership}
use Rattle.sim_tree.specs.declared.expr.Sign.{Sign}
use Rattle.sim_tree.specs.declared.expr.Sign.TheVariants as sign
use Rattle.sim_tree.specs.Syntax.{Expression, Expressions, Literal, NoMore, Then}
use Rattle.sim_tree.specs.Syntax as syntax
use Rattle.sim_values.specs.declared.standard.Standard.{Standard}
use Rattle.sim_values.specs.Plain.{Plain, Character, Integer, Nothing, Object, Text, Truth, MainOf}
use Rattle.sim_values.specs.Standard.{is_image, on_image, row_of}
use Rattle.sim_code.specs.Code.{CodeOf}
use Rattle.sim_code.specs.Simulations.{is_simulation_name}
use Rattle.sim_meaning.specs.Attributes.{connection_at, is_connection, own_attribute}
use Rattle.sim_meaning.specs.Closing.{Joining, Lazily, Negated, Plainly, Sort, formals_at, is_attribute, is_text, is_variable, sort_of, stream_of, sysout}
use Rattle.sim_meaning.specs.Constants.{text_constant}
use Rattle.sim_meaning.specs.Levels.{class_at, is_process_itself}
use Rattle.sim_meaning.specs.Names.{procedure_named}
use Rattle.sim_meaning.specs.Pending.{Use}
use Rattle.sim_meaning.specs.Statements.{has_value, standard_leaves}
use Rattle.sim_meaning.specs.Texts.{constant_of, text}
use Rattle.codegen_expr.specs.Sites.{Site}
use Rattle.codegen_expr.specs.CodeExpr.{ActualsAt, ByNameAt, Listed, NamedArrayAt, OriginIfAt, NewAt, FormalProcedureAt, Parameters, parameters_at, ArrayAt, ArrayOfAt, AttributeAt, BehindDotAt, ConnectedAt, ConnectedNameAt, ConstantAt, ConstantAttributeAt, DeclaredAt, DotAt, ExprAt, ExprsAt, FormalAt, GenerationAt, GivenAt, LiteralAt, MemberAt, NameAt, NamedAt, OfObjectAt, OwnAt, ParameterOfAt, PlaceAt, PlainAt, QuaAt, SignedAt, StandardAt, ThisFoundAt, ThisOfAt, ThroughAt, TwoAt, VariableAt, VariableOfAt, gives, OwnBy, OwnNameAt, SimulationFoundAt}

module _ (s : Source) (code : CodeOf) (site : Site) where
  -- one value more has room
  abbrev pub Fits : ℕ → Type 0
  Fits n = n < site.room

  abbrev pub FitsWhere : (n : ℕ) → (A : ℕ → ℕ → Type 0) → Type 0
  FitsWhere n A = (p q : ℕ) → A p q → Fits n

  plain_fits : (v : Plain) (n p q : ℕ) → PlainAt s code site n v p q → Fits n
  plain_fits (Integer z) n p q a = a.fits
  plain_fits (Truth true) n p q a = a.fits
  plain_fits (Truth false) n p q a = a.fits
  plain_fits (Character c) n p q a = let x = a.1 in x.fits
  plain_fits (Text t) n p q a = let x = a.1 in x.fits
  plain_fits (Object j) n p q a = absurd a
  plain_fits (MainOf j) n p q a = absurd a
  plain_fits Nothing n p q a = absurd a

  given_fits : (v : Option Plain) (n p q : ℕ) → GivenAt s code site n v p q → Fits n
  given_fits None n p q a = absurd a
  given_fits (Some v) n p q a = plain_fits v n p q a

  literal_fits : (token : ℕ) (x : Literal) (n p q : ℕ) → LiteralAt s code site n token x p q → Fits n
  literal_fits token (syntax.IntegerValue z) n p q a = plain_fits (Integer z) n p q a
  literal_fits token (syntax.CharacterValue c) n p q a = plain_fits (Character c) n p q a
  literal_fits token (syntax.TextValue t) n p q a = given_fits (text_constant s token) n p q a
  literal_fits token (syntax.BooleanValue c) n p q a = plain_fits (Truth c) n p q a
  literal_fits token syntax.NoText n p q a = a.fits
  literal_fits token syntax.NoObject n p q a = a.fits

  two_fits : (k : Sort) (line n : ℕ) (A B C : ℕ → ℕ → Type 0) (p q : ℕ) → FitsWhere n A → TwoAt s code site n k line A B C p q → Fits n
  two_fits (Plainly op) line n A B C p q f a = f p a.0 a.2
  two_fits (Negated op) line n A B C p q f a = f p a.0 a.3
  two_fits (Lazily true) line n A B C p q f a = f p a.y a.test
  two_fits (Lazily false) line n A B C p q f a = f p a.y a.test
  two_fits Joining line n A B C p q f a = f p a.x a.left

  signed_fits : (k : Sign) (line n : ℕ) (A : ℕ → ℕ → Type 0) (p q : ℕ) → FitsWhere n A → SignedAt code k line A p q → Fits n
  signed_fits sign.Plus line n A p q f a = f p q a
  signed_fits sign.Minus line n A p q f a = f p a.0 a.1

  -- ---- identifiers

  variable_fits : (d : DeclNo) (es : Expressions) (n p q : ℕ) → VariableAt s code site n d es p q → Fits n
  variable_fits d NoMore n p q a = (a.load).fits
  variable_fits d (Then e es) n p q a = absurd a

  constant_fits : (v : Option Plain) (es : Expressions) (n p q : ℕ) → ConstantAt s code site n v es p q → Fits n
  constant_fits (Some v) NoMore n p q a = plain_fits v n p q a
  constant_fits (Some v) (Then e es) n p q a = absurd a
  constant_fits None NoMore n p q a = absurd a
  constant_fits None (Then e es) n p q a = absurd a

  array_fits : (d : DeclNo) (line n : ℕ) (es : Expressions) (Inner : ℕ → ℕ → Type 0) (p q : ℕ) → ArrayAt s code site n line d es Inner p q → Fits n
  array_fits d line n NoMore Inner p q a = (a.load).fits
  array_fits d line n (Then e es) Inner p q a = let x = a.1 in ((x.array).load).fits

  name_alone_fits : (d : DeclNo) (es : Expressions) (wanted : Use) (n p q : ℕ) → ByNameAt s code site n d es wanted p q → Fits n
  name_alone_fits d NoMore wanted n p q a = a.fits
  name_alone_fits d (Then e es) wanted n p q a = absurd a

  named_array_fits : (d : DeclNo) (line n : ℕ) (es : Expressions) (Inner : ℕ → ℕ → Type 0) (p q : ℕ) → NamedArrayAt s code site n line d es Inner p q → Fits n
  named_array_fits d line n NoMore Inner p q a = a.fits
  named_array_fits d line n (Then e es) Inner p q a = let x = a.1 in (x.array).fits

  formal_procedure_fits : (d : DeclNo) (line n : ℕ) (by_name : Bool) (p q : ℕ) → FormalProcedureAt s code site n line d by_name p q → Fits n
  formal_procedure_fits d line n true p q a = a.fits
  formal_procedure_fits d line n false p q a = (a.load).fits

  formal_fits : (d : DeclNo) (line n : ℕ) (by : Mode) (kind : FormalKind) (es : Expressions) (Inner : ℕ → ℕ → Type 0) (Actuals : Parameters → ℕ → ℕ → Type 0) (p q : ℕ) → FormalAt s code site n line d by kind es Inner Actuals p q → Fits n
  formal_fits d line n mode.ByName shape.Simple es Inner Actuals p q a = name_alone_fits d es _ n p q a
  formal_fits d line n mode.ByName shape.Array es Inner Actuals p q a = named_array_fits d line n es Inner p q a
  formal_fits d line n mode.ByName shape.Procedure es Inner Actuals p q a = formal_procedure_fits d line n true p a.x a.procedure
  formal_fits d line n mode.ByValue shape.Simple es Inner Actuals p q a = variable_fits d es n p q a
  formal_fits d line n mode.ByValue shape.Array es Inner Actuals p q a = array_fits d line n es Inner p q a
  formal_fits d line n mode.ByValue shape.Procedure es Inner Actuals p q a = formal_procedure_fits d line n false p a.x a.procedure
  formal_fits d line n mode.ByReference shape.Simple es Inner Actuals p q a = variable_fits d es n p q a
  formal_fits d line n mode.ByReference shape.Array es Inner Actuals p q a = array_fits d line n es Inner p q a
  formal_fits d line n mode.ByReference shape.Procedure es Inner Actuals p q a = formal_procedure_fits d line n false p a.x a.procedure

  declared_fits : (d : DeclNo) (line n : ℕ) (o : Option Entry) (es : Expressions) (Inner : ℕ → ℕ → Type 0) (Actuals : Parameters → ℕ → ℕ → Type 0) (p q : ℕ) → DeclaredAt s code site n line d o es Inner Actuals p q → Fits n
  declared_fits d line n (Some (entry.Variable type)) es Inner Actuals p q a = variable_fits d es n p q a
  declared_fits d line n (Some (entry.Constant type)) es Inner Actuals p q a = constant_fits (constant_of s d) es n p q a
  declared_fits d line n (Some (entry.Array element dimensions)) es Inner Actuals p q a = array_fits d line n es Inner p q a
  declared_fits d line n (Some (entry.Formal x)) es Inner Actuals p q a = formal_fits d line n x.mode x.kind es Inner Actuals p q a
  declared_fits d line n (Some (entry.Procedure result k)) es Inner Actuals p q a = (a.link).fits
  declared_fits d line n (Some (entry.Class block)) es Inner Actuals p q a = absurd a
  declared_fits d line n (Some (entry.Virtual result own)) es Inner Actuals p q a = let x = a.procedure in let y = x.object in (y.push).fits
  declared_fits d line n (Some (entry.Unspecified written)) es Inner Actuals p q a = absurd a
  declared_fits d line n (Some (entry.Attribute name parameter result)) es Inner Actuals p q a = absurd a
  declared_fits d line n None es Inner Actuals p q a = absurd a

  name_fits : (is : Bool) (on : Option Standard) (name : Standard) (image line n : ℕ) (es : Expressions) (Operands Inner : ℕ → ℕ → Type 0) (p q : ℕ) → has_value (row_of name).result ≡ true → NameAt code site n line image is on name es Operands Inner p q → Fits n
  name_fits true on name image line n es Operands Inner p q g a = let x = a.1 in x.fits
  name_fits false (Some x) name image line n es Operands Inner p q g a = let y = a.2 in y.fits
  name_fits false None name image line n es Operands Inner p q g a = let x = a.2 in x.fits g

  standard_fits : (name : Option Standard) (image line n : ℕ) (es : Expressions) (Operands Inner : ℕ → ℕ → Type 0) (p q : ℕ) → standard_leaves name ≡ true → StandardAt code site n line image name es Operands Inner p q → Fits n
  standard_fits None image line n es Operands Inner p q g a = absurd a
  standard_fits (Some name) image line n es Operands Inner p q g a = name_fits (is_image name) (on_image name) name image line n es Operands Inner p q g a

  named_fits : (u : Option Denotation) (line n : ℕ) (es : Expressions) (Operands Inner : ℕ → ℕ → Type 0) (Actuals : Parameters → ℕ → ℕ → Type 0) (p q : ℕ) → gives s u ≡ true → NamedAt s code site n line u es Operands Inner Actuals p q → Fits n
  named_fits None line n es Operands Inner Actuals p q g a = absurd a
  named_fits (Some (denotation.Declared d)) line n es Operands Inner Actuals p q g a = declared_fits d line n (entry_of s.tables d) es Inner Actuals p q a
  named_fits (Some (denotation.Standard name)) line n es Operands Inner Actuals p q g a = standard_fits (procedure_named name) sysout line n es Operands Inner p q g a

  -- ---- what objects have

  variable_of_fits : (d : DeclNo) (es : Expressions) (line n : ℕ) (Base : ℕ → ℕ → Type 0) (p q : ℕ) → FitsWhere n Base → VariableOfAt s code line d es Base p q → Fits n
  variable_of_fits d NoMore line n Base p q f a = let x = a.1 in f p x.x x.object
  variable_of_fits d (Then e es) line n Base p q f a = absurd a

  array_of_fits : (d : DeclNo) (line n : ℕ) (es : Expressions) (Base Inner : ℕ → ℕ → Type 0) (p q : ℕ) → FitsWhere n Base → ArrayOfAt s code line d es Base Inner p q → Fits n
  array_of_fits d line n NoMore Base Inner p q f a = variable_of_fits d NoMore line n Base p q f a
  array_of_fits d line n (Then e es) Base Inner p q f a = let x = a.1 in let y = x.place in f p y.x y.object

  parameter_of_fits : (d : DeclNo) (line n : ℕ) (kind : FormalKind) (es : Expressions) (Base Inner : ℕ → ℕ → Type 0) (p q : ℕ) → FitsWhere n Base → ParameterOfAt s code line d kind es Base Inner p q → Fits n
  parameter_of_fits d line n shape.Simple es Base Inner p q f a = variable_of_fits d es line n Base p q f a
  parameter_of_fits d line n shape.Array es Base Inner p q f a = array_of_fits d line n es Base Inner p q f a
  parameter_of_fits d line n shape.Procedure es Base Inner p q f a = absurd a

  constant_of_fits : (d : DeclNo) (es : Expressions) (line n : ℕ) (Base : ℕ → ℕ → Type 0) (p q : ℕ) → FitsWhere n Base → ConstantAttributeAt s code site n line d es Base p q → Fits n
  constant_of_fits d NoMore line n Base p q f a = f p a.x a.object
  constant_of_fits d (Then e es) line n Base p q f a = absurd a

  of_object_fits : (d : DeclNo) (line n : ℕ) (o : Option Entry) (es : Expressions) (Base Inner Actuals : ℕ → ℕ → Type 0) (p q : ℕ) → FitsWhere n Base → OfObjectAt s code site n line d o es Base Inner Actuals p q → Fits n
  of_object_fits d line n (Some (entry.Variable type)) es Base Inner Actuals p q f a = variable_of_fits d es line n Base p q f a
  of_object_fits d line n (Some (entry.Constant type)) es Base Inner Actuals p q f a = constant_of_fits d es line n Base p q f a
  of_object_fits d line n (Some (entry.Array element dimensions)) es Base Inner Actuals p q f a = array_of_fits d line n es Base Inner p q f a
  of_object_fits d line n (Some (entry.Formal x)) es Base Inner Actuals p q f a = parameter_of_fits d line n x.kind es Base Inner p q f a
  of_object_fits d line n (Some (entry.Procedure result k)) es Base Inner Actuals p q f a = f p a.x a.object
  of_object_fits d line n (Some (entry.Class block)) es Base Inner Actuals p q f a = absurd a
  of_object_fits d line n (Some (entry.Virtual result own)) es Base Inner Actuals p q f a = let x = a.procedure in f p x.x x.object
  of_object_fits d line n (Some (entry.Unspecified written)) es Base Inner Actuals p q f a = absurd a
  of_object_fits d line n (Some (entry.Attribute name parameter result)) es Base Inner Actuals p q f a = f p a.x a.object
  of_object_fits d line n None es Base Inner Actuals p q f a = absurd a

  attribute_fits : (name : Option Standard) (is : Bool) (line n : ℕ) (es : Expressions) (Place Value Inner : ℕ → ℕ → Type 0) (p q : ℕ) → standard_leaves name ≡ true → AttributeAt code site n line name is es Place Value Inner p q → Fits n
  attribute_fits None is line n es Place Value Inner p q g a = absurd a
  attribute_fits (Some name) is line n es Place Value Inner p q g a = let x = a.4 in x.fits g

  behind_fits : (stream : Option ℕ) (name : Option Standard) (is : Bool) (line n : ℕ) (es : Expressions) (Place Value Operands Inner : ℕ → ℕ → Type 0) (p q : ℕ) → standard_leaves name ≡ true → BehindDotAt code site n line stream name is es Place Value Operands Inner p q → Fits n
  behind_fits (Some image) name is line n es Place Value Operands Inner p q g a = standard_fits name image line n es Operands Inner p q g a
  behind_fits None name is line n es Place Value Operands Inner p q g a = attribute_fits name is line n es Place Value Inner p q g a

  dot_fits : (u : Option Denotation) (stream : Option ℕ) (is : Bool) (line n : ℕ) (es : Expressions) (Place Value Operands Inner : ℕ → ℕ → Type 0) (Actuals : Parameters → ℕ → ℕ → Type 0) (p q : ℕ) → gives s u ≡ true → FitsWhere n Value → DotAt s code site n line u stream is es Place Value Operands Inner Actuals p q → Fits n
  dot_fits None stream is line n es Place Value Operands Inner Actuals p q g f a = absurd a
  dot_fits (Some (denotation.Standard name)) stream is line n es Place Value Operands Inner Actuals p q g f a = behind_fits stream (procedure_named name) is line n es Place Value Operands Inner p q g a
  dot_fits (Some (denotation.Declared d)) stream is line n es Place Value Operands Inner Actuals p q g f a = of_object_fits d line n (entry_of s.tables d) es Value Inner (Actuals (parameters_at s d)) p q f a

  pub connected_fits : (t n p q : ℕ) → ConnectedAt s code site n t p q → Fits n
  connected_fits t n p q a = (a.load).fits

  connected_name_fits : (t : ℕ) (u : Option Denotation) (line n : ℕ) (es : Expressions) (Inner : ℕ → ℕ → Type 0) (Actuals : Parameters → ℕ → ℕ → Type 0) (p q : ℕ) → ConnectedNameAt s code site n line t u es Inner Actuals p q → Fits n
  connected_name_fits t (Some (denotation.Declared d)) line n es Inner Actuals p q a = of_object_fits d line n (entry_of s.tables d) es (ConnectedAt s code site n t) Inner (Actuals (parameters_at s d)) p q (λ p q. connected_fits t n p q) a
  connected_name_fits t (Some (denotation.Standard name)) line n es Inner Actuals p q a = absurd a
  connected_name_fits t None line n es Inner Actuals p q a = absurd a

  this_of_fits : (t n p q : ℕ) (c : Bool) → ThisOfAt s code site n t c p q → Fits n
  this_of_fits t n p q true a = (a.load).fits
  this_of_fits t n p q false a = (a.push).fits

  pub this_fits : (found : Option ℕ) (n p q : ℕ) → ThisFoundAt s code site n found p q → Fits n
  this_fits None n p q a = absurd a
  this_fits (Some t) n p q a = this_of_fits t n p q (is_connection (text s t)) a

  -- an attribute, seen without a dot
  own_name_fits : (found : Option ℕ) (line n : ℕ) (o : Option Entry) (es : Expressions) (Actuals Other : ℕ → ℕ → Type 0) (p q : ℕ) → FitsWhere n Other → OwnNameAt s code site n line found o es Actuals Other p q → Fits n
  own_name_fits found line n (Some (entry.Attribute name parameter result)) es Actuals Other p q f a = by (is_simulation_name name) found a
    where
      by : (c : Bool) (found : Option ℕ) → OwnBy c (SimulationFoundAt s code site n line found name result es Actuals) Other p q → Fits n
      by true None a = absurd a
      by true (Some k) a = (a.link).fits
      by false found a = f p q a
  own_name_fits found line n (Some (entry.Variable type)) es Actuals Other p q f a = f p q a
  own_name_fits found line n (Some (entry.Constant type)) es Actuals Other p q f a = f p q a
  own_name_fits found line n (Some (entry.Array element dimensions)) es Actuals Other p q f a = f p q a
  own_name_fits found line n (Some (entry.Formal y)) es Actuals Other p q f a = f p q a
  own_name_fits found line n (Some (entry.Procedure result k)) es Actuals Other p q f a = f p q a
  own_name_fits found line n (Some (entry.Class block)) es Actuals Other p q f a = f p q a
  own_name_fits found line n (Some (entry.Virtual result own)) es Actuals Other p q f a = f p q a
  own_name_fits found line n (Some (entry.Unspecified written)) es Actuals Other p q f a = f p q a
  own_name_fits found line n None es Actuals Other p q f a = f p q a

  own_fits : (own : Option DeclNo) (u : Option Denotation) (found : Option ℕ) (line n : ℕ) (es : Expressions) (Operands Inner : ℕ → ℕ → Type 0) (Actuals : Parameters → ℕ → ℕ → Type 0) (p q : ℕ) → gives s u ≡ true
      → OwnAt own (λ d. OwnNameAt s code site n line found (entry_of s.tables d) es (Actuals (Listed (formals_at s d))) (OfObjectAt s code site n line d (entry_of s.tables d) es (ThisFoundAt s code site n found) Inner (Actuals (parameters_at s d)))) (NamedAt s code site n line u es Operands Inner Actuals) p q → Fits n
  own_fits None u found line n es Operands Inner Actuals p q g a = named_fits u line n es Operands Inner Actuals p q g a
  own_fits (Some d) u found line n es Operands Inner Actuals p q g a =
      own_name_fits found line n (entry_of s.tables d) es (Actuals (Listed (formals_at s d))) (OfObjectAt s code site n line d (entry_of s.tables d) es (ThisFoundAt s code site n found) Inner (Actuals (parameters_at s d))) p q
      (λ p q b. of_object_fits d line n (entry_of s.tables d) es (ThisFoundAt s code site n found) Inner (Actuals (parameters_at s d)) p q (λ p q. this_fits found n p q) b) a

  through_fits : (c : Option ℕ) (u : Option Denotation) (line n : ℕ) (es : Expressions) (Inner Direct : ℕ → ℕ → Type 0) (Actuals : Parameters → ℕ → ℕ → Type 0) → FitsWhere n Direct → (p q : ℕ) → ThroughAt c (λ t. ConnectedNameAt s code site n line t u es Inner Actuals) Direct p q → Fits n
  through_fits None u line n es Inner Direct Actuals f p q a = f p q a
  through_fits (Some t) u line n es Inner Direct Actuals f p q a = connected_name_fits t u line n es Inner Actuals p q a

  member_fits : (member : Membership) (class : Option ℕ) (A : ℕ → ℕ → Type 0) (n p q : ℕ) → FitsWhere n A → MemberAt s code member class A p q → Fits n
  member_fits member None A n p q f a = absurd a
  member_fits member (Some k) A n p q f a = f p a.0 a.1

  qua_fits : (line : ℕ) (class : Option ℕ) (A : ℕ → ℕ → Type 0) (n p q : ℕ) → FitsWhere n A → QuaAt s code line class A p q → Fits n
  qua_fits line None A n p q f a = absurd a
  qua_fits line (Some k) A n p q f a = f p a.0 a.1

  generation_fits : (u : Option Denotation) (class : Option ℕ) (line token n : ℕ) (es : Expressions) (Actuals : ℕ → ℕ → Type 0) (p q : ℕ) → GenerationAt s code site n line token u class es Actuals p q → Fits n
  generation_fits None class line token n es Actuals p q a = absurd a
  generation_fits (Some (denotation.Standard name)) class line token n es Actuals p q a = absurd a
  generation_fits (Some (denotation.Declared d)) None line token n es Actuals p q a = absurd a
  generation_fits (Some (denotation.Declared d)) (Some t) line token n es Actuals p q a = by (is_process_itself s t) a
    where
      by : (c : Bool) → OriginIfAt s code site n line token t c (NewAt s code site n line d t es Actuals) p q → Fits n
      by true a = let x = a.new in (x.link).fits
      by false a = (a.link).fits

  pub expression_fits : (e : Expression) (n p q : ℕ) → ExprAt s code site n e p q → Fits n
  expression_fits (syntax.If token c x y) n p q a = expression_fits c n p a.y a.test
  expression_fits (syntax.Binary op token x y) n p q a = two_fits (sort_of (is_text s x) op) (line_at s token) n (ExprAt s code site n x) (ExprAt s code site n y) (ExprAt s code site (suc n) y) p q (λ p q. expression_fits x n p q) a
  expression_fits (syntax.Not token x) n p q a = expression_fits x n p a.0 a.1
  expression_fits (syntax.Signed k token x) n p q a = signed_fits k (line_at s token) n (ExprAt s code site n x) p q (λ p q. expression_fits x n p q) a
  expression_fits (syntax.Member member token x class) n p q a = member_fits member (class_at s class.token.0) (ExprAt s code site n x) n p q (λ p q. expression_fits x n p q) a
  expression_fits (syntax.Dot token x name es) n p q a =
      dot_fits (denoted s name.token.0) (stream_of s x) (is_variable s x || is_attribute s x) (line_at s name.token.0) n es (PlaceAt s code site n 0 x) (ExprAt s code site n x) (ExprsAt s code site n es) (ExprsAt s code site (suc n) es) (λ fs. ActualsAt s code site (suc n) (line_at s name.token.0) false es fs) p q a.0 (λ p q. expression_fits x n p q) a.1
  expression_fits (syntax.Qua token x class) n p q a = qua_fits (line_at s token) (class_at s class.token.0) (ExprAt s code site n x) n p q (λ p q. expression_fits x n p q) a
  expression_fits (syntax.Constant x token) n p q a = literal_fits token x n p q a
  expression_fits (syntax.Named name es) n p q a =
      let line = line_at s name.token.0 in
      let Actuals : Parameters → ℕ → ℕ → Type 0 = λ fs. ActualsAt s code site (suc n) line false es fs in
      through_fits (connection_at s name.token.0) (denoted s name.token.0) line n es (ExprsAt s code site (suc n) es) _ Actuals
      (λ p q. own_fits (own_attribute s name.token.0) (denoted s name.token.0) (found_at s name.token.0) line n es (ExprsAt s code site n es) (ExprsAt s code site (suc n) es) Actuals p q a.0) p q a.1
  expression_fits (syntax.This token class) n p q a = this_fits (found_at s token) n p q a
  expression_fits (syntax.New token class es) n p q a = generation_fits (denoted s class.token.0) (class_at s class.token.0) (line_at s token) class.token.0 n es (ActualsAt s code site (suc n) (line_at s class.token.0) true es (Listed _)) p q a
  expression_fits (syntax.Parentheses token x) n p q a = expression_fits x n p q a
