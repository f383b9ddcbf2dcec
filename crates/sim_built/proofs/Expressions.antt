-- Typed expressions are built.
use Rattle.std.proofs.Common.{◌≡◌, ◌+◌, ℕ, zero, suc, Bool, true, false, List, [], ◌∷◌, length, Option, Some, None, refl, sym, ap, ◌∙◌, subst}
use Rattle.std.specs.Prelude.{◌&&◌, ◌||◌, if◌then◌else◌}
use Rattle.sim_base.specs.declared.numbering.DeclNo.{DeclNo}
use Rattle.sim_scope.specs.declared.scopes.Denotation.{Denotation}
use Rattle.sim_scope.specs.declared.scopes.Denotation.TheVariants as denotation
use Rattle.sim_scope.specs.declared.types.Entry.{Entry}
use Rattle.sim_scope.specs.declared.types.Entry.TheVariants as entry
use Rattle.sim_scope.specs.declared.types.Formal.{Formal}
use Rattle.sim_scope.specs.declared.types.FormalKind.{FormalKind}
use Rattle.sim_scope.specs.declared.types.FormalKind.TheVariants as shape
use Rattle.sim_scope.specs.declared.types.Mode.{Mode}
use Rattle.sim_scope.specs.declared.types.Mode.TheVariants as mode
use Rattle.sim_scope.specs.declared.types.SimType.{SimType}
use Rattle.sim_scope.specs.Levels.{class_block, class_block_in, has_level}
use Rattle.sim_scope.specs.Scopes.{entry_of}
use Rattle.sim_scope.specs.Source.{Source, block_of, denoted, found_at, type_at}
use Rattle.sim_tree.specs.Syntax.{Expression, Expressions, Literal, NoMore, Then}
use Rattle.sim_tree.specs.Syntax as syntax
use Rattle.sim_values.specs.declared.kind.Kind.{Kind}
use Rattle.sim_values.specs.declared.kind.Kind.TheVariants as kind
use Rattle.sim_values.specs.declared.standard.Standard.{Standard}
use Rattle.sim_values.specs.declared.standard.StandardType.{StandardType}
use Rattle.sim_values.specs.Standard.{is_image, moves_position, on_image, operands_of, row_of}
use Rattle.sim_code.specs.Simulations.{is_simulation_name}
use Rattle.sim_meaning.specs.Attributes.{attribute_denoted, attribute_formals, attribute_if, connection_at, is_connection, is_standard_attribute, own_attribute}
use Rattle.sim_meaning.specs.Checks.{Passed, PassedArray, PassedProcedure, PassedValue, passed as passed_by}
use Rattle.sim_meaning.specs.Closing.{class_parameters, formals_at, formals_declared, is_attribute, is_attribute_denoted, is_image_behind, is_placed, is_variable, is_variable_denoted, is_variable_entry, stream_of, typed_token}
use Rattle.sim_meaning.specs.Levels.{class_at, class_denoted, class_text, has_levels, is_class, qualification}
use Rattle.sim_meaning.specs.Names.{procedure_named}
use Rattle.sim_meaning.specs.Statements.{has_value, standard_leaves}
use Rattle.sim_meaning.specs.Texts.{kind_of_type, text}
use Rattle.sim_sound.specs.Held.{ArrayOf, FitsIn, Holds, Place, Procedure, Refers, Sees, SeesConnected, Simply, StandsAround, entry_holds, formal_holds, formal_means, given_by, held_by}
use Rattle.sim_sound.specs.Expressions.{ActualFits, ActualPassed, ActualsFit, AreIntegers, AreOf, AttributeGives, ClassNamed, DeclaredGives, DotGives, ExprIs, FormalCalled, Generates, HeldNames, IdentifierGives, LiteralIs, NameGives, NamedGives, ObjectHas, OfText, OwnGives, OwnKnown, OwnNameGives, ParameterOf, ParametersAre, PlaceDot, PlaceIs, PlaceNamed, ProcedureDot, ProcedureIs, ProcedureNamed, SetGives, SimulationGives, SimulationKnown, StandardGives, ThisFound, ThisIs, passed, some_holds, standard_kind}
use Rattle.sim_sound.specs.Statements.{is_given}
use Rattle.sim_sound.specs.Typed.{Typed}
use Rattle.sim_sound.proofs.Attributes.{no_formal_procedure, not_named}
use Rattle.sim_sound.proofs.Calls.{not_own, own_denoted, own_is_attribute}
use Rattle.sim_sound.proofs.Places.{no_array_placed}
use Rattle.sim_sound.proofs.Prefixes.{class_has, level_has_levels, level_is}
use Rattle.codegen_expr.specs.Built.{ActualBuilt, ActualsBuilt, AreBuilt, AttributeBuilt, ClassBuilt, ConnectedBuilt, ConnectedNameBuilt, ConstantBuilt, DotBuilt, GenerationBuilt, ImageNameBuilt, IsBuilt, LiteralBuilt, NameBuilt, NamedBuilt, NamedPlaceBuilt, NothingMore, ObjectBuilt, IfBuilt, OfObjectBuilt, OwnBuilt, OwnByBuilt, OwnNameBuilt, ParametersBuilt, PassedBuilt, PlaceBehindBuilt, ProcedureBehindBuilt, ProcedureBuilt, ProcedureNamedBuilt, SimulationFoundBuilt, PlaceBuilt, StandardBuilt, StandsIn, StreamBuilt, ThisFoundBuilt, ThisOfBuilt, ThroughBuilt}
use Rattle.codegen_expr.specs.CodeExpr.{Checked, Listed, Parameters, gives, gives_entry, gives_formal, is_procedure, is_value, operands, parameters_at, parameters_of}
use Rattle.sim_built.specs.Laid.{Laid}
use Rattle.sim_built.proofs.Attributes.{declared_built, declared_place_built, of_object_built, place_of_built, procedure_entry_built, procedure_of_object_built}
use Rattle.sim_built.proofs.Cells.{class_is_solid, connection_has, level_solid, text_built}
use Rattle.sim_built.proofs.Lists.{gives_place}
use Rattle.sim_built.proofs.Names.{image_gives, on_image_gives}
use Rattle.sim_built.proofs.SetNames.{simulation_named}

-- ---- values of names

kind_has_value : (t : Option StandardType) (h : Option Holds) → some_holds (standard_kind t) ≡ h → has_value t ≡ is_given h
kind_has_value None h e = ap is_given e
kind_has_value (Some t) h e = ap is_given e

name_gives : (image : Bool) (on : Option Standard) (n : Standard) (Operands : List Kind → Type 0) (h : Option Holds) → is_image n ≡ image → on_image n ≡ on → NameGives image on n Operands h → has_value (row_of n).result ≡ is_given h
name_gives true on n Operands h e f a = image_gives n e ∙ ap is_given a.0
name_gives false (Some m) n Operands h e f a = on_image_gives n m f ∙ kind_has_value (row_of m).result h (a.0).1
name_gives false None n Operands h e f a = kind_has_value (row_of n).result h (a.0).1

standard_gives : (n : Option Standard) (Operands : List Kind → Type 0) (h : Option Holds) → StandardGives n Operands h → standard_leaves n ≡ is_given h
standard_gives None Operands h a = absurd a
standard_gives (Some n) Operands h a = name_gives (is_image n) (on_image n) n Operands h refl refl a

formal_gives : (s : Source) (Known Indices Checks : Type 0) (es : Expressions) (k : FormalKind) (ty : Option SimType) (h : Holds) → HeldNames s Known es Indices Checks (formal_means s k ty) h → gives_formal k ty ≡ true
formal_gives s Known Indices Checks es shape.Simple ty h a = refl
formal_gives s Known Indices Checks es shape.Array ty h a = refl
formal_gives s Known Indices Checks es shape.Procedure (Some ty) h a = refl
formal_gives s Known Indices Checks es shape.Procedure None h a = absurd a.0

formal_gives_none : (s : Source) (Known Checks : Type 0) (k : FormalKind) (ty : Option SimType) → FormalCalled s Known k ty Checks → gives_formal k ty ≡ false
formal_gives_none s Known Checks shape.Procedure None a = refl
formal_gives_none s Known Checks shape.Procedure (Some ty) a = absurd a.0
formal_gives_none s Known Checks shape.Simple ty a = absurd a
formal_gives_none s Known Checks shape.Array ty a = absurd a

declared_gives : (s : Source) (Known : Type 0) (d : DeclNo) (es : Expressions) (Indices Checks : Type 0) (Actuals : List Formal → Type 0) (e : Option Entry) (h : Option Holds) → DeclaredGives s Known d es Indices Checks Actuals e h → gives_entry e ≡ is_given h
declared_gives s Known d es Indices Checks Actuals (Some (entry.Procedure None k)) None a = refl
declared_gives s Known d es Indices Checks Actuals (Some (entry.Procedure None k)) (Some h) a = absurd a.0
declared_gives s Known d es Indices Checks Actuals (Some (entry.Procedure (Some t) k)) None a = absurd a.0
declared_gives s Known d es Indices Checks Actuals (Some (entry.Procedure (Some t) k)) (Some h) a = refl
declared_gives s Known d es Indices Checks Actuals (Some (entry.Attribute name parameter None)) None a = refl
declared_gives s Known d es Indices Checks Actuals (Some (entry.Attribute name parameter None)) (Some h) a = absurd a.1
declared_gives s Known d es Indices Checks Actuals (Some (entry.Attribute name parameter (Some t))) None a = absurd a.1
declared_gives s Known d es Indices Checks Actuals (Some (entry.Attribute name parameter (Some t))) (Some h) a = refl
declared_gives s Known d es Indices Checks Actuals (Some (entry.Virtual None own)) None a = refl
declared_gives s Known d es Indices Checks Actuals (Some (entry.Virtual None own)) (Some h) a = absurd a.0
declared_gives s Known d es Indices Checks Actuals (Some (entry.Virtual (Some t) own)) None a = absurd a.0
declared_gives s Known d es Indices Checks Actuals (Some (entry.Virtual (Some t) own)) (Some h) a = refl
declared_gives s Known d es Indices Checks Actuals (Some (entry.Formal f)) None a = formal_gives_none s Known Checks f.kind f.ty a
declared_gives s Known d es Indices Checks Actuals (Some (entry.Formal f)) (Some h) a = formal_gives s Known Indices Checks es f.kind f.ty h a
declared_gives s Known d es Indices Checks Actuals None h a = absurd a
declared_gives s Known d es Indices Checks Actuals (Some (entry.Constant t)) None a = absurd a
declared_gives s Known d es Indices Checks Actuals (Some (entry.Constant t)) (Some h) a = refl
declared_gives s Known d es Indices Checks Actuals (Some (entry.Variable t)) None a = absurd a
declared_gives s Known d es Indices Checks Actuals (Some (entry.Variable t)) (Some h) a = refl
declared_gives s Known d es Indices Checks Actuals (Some (entry.Array t n)) None a = absurd a
declared_gives s Known d es Indices Checks Actuals (Some (entry.Array t n)) (Some h) a = refl
declared_gives s Known d es Indices Checks Actuals (Some (entry.Class k)) None a = absurd a
declared_gives s Known d es Indices Checks Actuals (Some (entry.Class k)) (Some h) a = refl
declared_gives s Known d es Indices Checks Actuals (Some (entry.Unspecified w)) None a = absurd a
declared_gives s Known d es Indices Checks Actuals (Some (entry.Unspecified w)) (Some h) a = refl

named_gives : (s : Source) (from : Place) (c : Option ℕ) (x : Option Denotation) (es : Expressions) (Indices Checks : Type 0) (Operands : List Kind → Type 0) (Actuals : List Formal → Type 0) (h : Option Holds) → NamedGives s from c x es Indices Checks Operands Actuals h → gives s x ≡ is_given h
named_gives s from None None es Indices Checks Operands Actuals h a = absurd a
named_gives s from (Some k) None es Indices Checks Operands Actuals h a = absurd a
named_gives s from None (Some (denotation.Declared d)) es Indices Checks Operands Actuals h a = declared_gives s (Sees s from d) d es Indices Checks Actuals (entry_of s.tables d) h a
named_gives s from (Some k) (Some (denotation.Declared d)) es Indices Checks Operands Actuals h a = declared_gives s (SeesConnected s from k d) d es Indices Checks Actuals (entry_of s.tables d) h a
named_gives s from None (Some (denotation.Standard n)) es Indices Checks Operands Actuals h a = standard_gives (procedure_named n) Operands h a
named_gives s from (Some k) (Some (denotation.Standard n)) es Indices Checks Operands Actuals h a = absurd a

-- an attribute that is seen without a dot
own_gives : (s : Source) (from : Place) (token : ℕ) (d : DeclNo) (es : Expressions) (Indices Checks : Type 0) (Actuals : List Formal → Type 0) (e : Option Entry) (h : Option Holds) → OwnGives s from token d Actuals e h (DeclaredGives s (OwnKnown s from token d) d es Indices Checks Actuals e h) → gives_entry e ≡ is_given h
own_gives s from token d es I C A (Some (entry.Attribute name parameter result)) h a = go (is_simulation_name name) a
  where
    result_given : (r : Option SimType) (h : Option Holds) → FitsIn s (given_by s r) h → gives_entry (Some (entry.Attribute name parameter r)) ≡ is_given h
    result_given None None f = refl
    result_given None (Some g) f = absurd f
    result_given (Some t) None f = absurd f
    result_given (Some t) (Some g) f = refl

    go : (c : Bool) → OwnNameGives c (SimulationGives s (SimulationKnown s from token d) parameter result A h) (SetGives s (OwnKnown s from token d) name parameter result A h) → gives_entry (Some (entry.Attribute name parameter result)) ≡ is_given h
    go true a = result_given result h a.0
    go false a = result_given result h a.1
own_gives s from token d es I C A (Some (entry.Procedure result k)) h a = declared_gives s (OwnKnown s from token d) d es I C A (Some (entry.Procedure result k)) h a
own_gives s from token d es I C A (Some (entry.Variable t)) h a = declared_gives s (OwnKnown s from token d) d es I C A (Some (entry.Variable t)) h a
own_gives s from token d es I C A (Some (entry.Constant t)) h a = declared_gives s (OwnKnown s from token d) d es I C A (Some (entry.Constant t)) h a
own_gives s from token d es I C A (Some (entry.Array t n)) h a = declared_gives s (OwnKnown s from token d) d es I C A (Some (entry.Array t n)) h a
own_gives s from token d es I C A (Some (entry.Class k)) h a = declared_gives s (OwnKnown s from token d) d es I C A (Some (entry.Class k)) h a
own_gives s from token d es I C A (Some (entry.Virtual result own)) h a = declared_gives s (OwnKnown s from token d) d es I C A (Some (entry.Virtual result own)) h a
own_gives s from token d es I C A (Some (entry.Formal f)) h a = declared_gives s (OwnKnown s from token d) d es I C A (Some (entry.Formal f)) h a
own_gives s from token d es I C A (Some (entry.Unspecified w)) h a = declared_gives s (OwnKnown s from token d) d es I C A (Some (entry.Unspecified w)) h a
own_gives s from token d es I C A None h a = declared_gives s (OwnKnown s from token d) d es I C A None h a

-- an identifier, which may be an attribute of the object around
pub identifier_gives : (s : Source) (from : Place) (token : ℕ) (c : Option ℕ) (own : Option DeclNo) (es : Expressions) (Indices Checks : Type 0) (Operands : List Kind → Type 0) (Actuals : List Formal → Type 0) (h : Option Holds) → own_attribute s token ≡ own → IdentifierGives s from token c own es Indices Checks Operands Actuals h → gives s (denoted s token) ≡ is_given h
identifier_gives s from token None None es Indices Checks Operands Actuals h e a = named_gives s from None (denoted s token) es Indices Checks Operands Actuals h a
identifier_gives s from token (Some k) own es Indices Checks Operands Actuals h e a = named_gives s from (Some k) (denoted s token) es Indices Checks Operands Actuals h a
identifier_gives s from token None (Some d) es Indices Checks Operands Actuals h e a =
    ap (gives s) (own_denoted s token d e) ∙ own_gives s from token d es Indices Checks Actuals (entry_of s.tables d) h a

attribute_gives : (n : Option Standard) (Object : Type 0) (Operands : List Kind → Type 0) (h : Option Holds) → AttributeGives n Object Operands h → standard_leaves n ≡ is_given h
attribute_gives None Object Operands h a = absurd a
attribute_gives (Some n) Object Operands h a = kind_has_value (row_of n).result h ((a.1).0).1

pub dot_gives : (s : Source) (x : Option Denotation) (stream : Option ℕ) (Text : Type 0) (Object : ℕ → Type 0) (es : Expressions) (Indices Checks : Type 0) (Operands : List Kind → Type 0) (Actuals : List Formal → Type 0) (h : Option Holds) → DotGives s x stream Text Object es Indices Checks Operands Actuals h → gives s x ≡ is_given h
dot_gives s None stream Text Object es Indices Checks Operands Actuals h a = absurd a
dot_gives s (Some (denotation.Declared d)) stream Text Object es Indices Checks Operands Actuals h a = declared_gives s (ObjectHas s Object d) d es Indices Checks Actuals (entry_of s.tables d) h a
dot_gives s (Some (denotation.Standard n)) (Some image) Text Object es Indices Checks Operands Actuals h a = standard_gives (procedure_named n) Operands h a
dot_gives s (Some (denotation.Standard n)) None Text Object es Indices Checks Operands Actuals h a = attribute_gives (procedure_named n) Text Operands h a

-- ---- variables

either : (a b : Bool) → (a || b) ≡ true → b ≡ false → a ≡ true
either true b e f = refl
either false b e f = absurd (cc)

-- what is a variable before a dot is an identifier, an image, or an attribute behind a dot
abbrev VariableForm : Source → Expression → Type 0
VariableForm s (syntax.Named name es) = is_variable_denoted s (denoted s name.token.0) es ≡ true
VariableForm s (syntax.Dot i a name es) = (is_image_behind (stream_of s a) (denoted s name.token.0) || is_attribute_denoted s (denoted s name.token.0) es) ≡ true
VariableForm s _ = ⊥

variable_form : (s : Source) (e : Expression) → (is_variable s e || is_attribute s e) ≡ true → VariableForm s e
unfolding is_variable is_attribute
variable_form s (syntax.Named name es) b = either (is_variable_denoted s (denoted s name.token.0) es) false b refl
variable_form s (syntax.Dot i a name es) b = b
variable_form s (syntax.If i c a d) b = absurd (cc)
variable_form s (syntax.Binary op i a d) b = absurd (cc)
variable_form s (syntax.Not i a) b = absurd (cc)
variable_form s (syntax.Signed sign i a) b = absurd (cc)
variable_form s (syntax.Constant literal i) b = absurd (cc)
variable_form s (syntax.Parentheses i a) b = absurd (cc)
variable_form s (syntax.Member m i a c) b = absurd (cc)
variable_form s (syntax.Qua i a c) b = absurd (cc)
variable_form s (syntax.This i c) b = absurd (cc)
variable_form s (syntax.New i c es) b = absurd (cc)

-- ---- operands

counted : (s : Source) (from : Place) (es : Expressions) (ks : List Kind) → AreOf s from es ks → operands es ≡ length ks
counted s from NoMore [] a = refl
counted s from NoMore (k ∷ ks) a = absurd a
counted s from (Then e es) [] a = absurd a
counted s from (Then e es) (k ∷ ks) a = ap suc (counted s from es ks a.1)

-- as many actual parameters as formal ones
pub fitted : (s : Source) (from : Place) (es : Expressions) (fs : List Formal) → ActualsFit s from es fs → operands es ≡ length fs
fitted s from NoMore [] a = refl
fitted s from NoMore (f ∷ fs) a = absurd a
fitted s from (Then e es) [] a = absurd a
fitted s from (Then e es) (f ∷ fs) a = ap suc (fitted s from es fs a.1)

nothing_more : (s : Source) (from : Place) (es : Expressions) → AreOf s from es [] → NothingMore es
nothing_more s from NoMore a = tt
nothing_more s from (Then e es) a = absurd a

-- ---- procedures of SIMSET

not_attribute : (b : Bool) (d : DeclNo) → attribute_if b d ≡ None → b ≡ false
not_attribute false d e = refl
not_attribute true d e = absurd (cc)

-- such a procedure is no variable
own_no_variable : (y : Option Entry) (es : Expressions) → is_standard_attribute y ≡ true → is_variable_entry y es ≡ true → ⊥
own_no_variable (Some (entry.Attribute n parameter result)) es f v = cc
own_no_variable None es f v = cc
own_no_variable (Some (entry.Variable ty)) es f v = cc
own_no_variable (Some (entry.Array ty n)) es f v = cc
own_no_variable (Some (entry.Formal g)) es f v = cc
own_no_variable (Some _) es f v = cc

-- ---- classes

named_class : (s : Source) (token : ℕ) → ClassNamed s token → ClassBuilt (class_at s token)
named_class s token c = subst ClassBuilt (sym c.is) tt

-- a class that is declared is denoted as that
class_there : (s : Source) → Typed s → (d : DeclNo) (k : ℕ) → entry_of s.tables d ≡ Some (entry.Class k) → class_text s (class_block s.tables d) ≡ Some k
unfolding class_block entry_of
class_there s ok d k e = ap (λ z. class_text s (class_block_in z)) e ∙ is_text (is_class (text s k)) (ok.classes d k e).is
  where
    is_text : (b : Bool) → b ≡ true → (if b then Some k else None) ≡ Some k
    is_text true e = refl
    is_text false e = absurd (cc)

-- what is declared is no procedure as a formal parameter
abbrev pub NeverGiven : Source → DeclNo → Type 0
NeverGiven s d = (m : Mode) (ty : Option SimType) → entry_holds s true (entry_of s.tables d) ≡ formal_holds s m shape.Procedure ty → ⊥

-- an attribute of a class is none
pub class_never : (s : Source) → Typed s → (d : DeclNo) (class : ℕ) → is_class (text s class) ≡ true → has_level s.tables class (block_of s d) ≡ true → NeverGiven s d
class_never s ok d class is level mode.ByValue ty e = no_formal_procedure s ok d class level is ty e
class_never s ok d class is level mode.ByReference ty e = no_formal_procedure s ok d class level is ty e
class_never s ok d class is level mode.ByName ty e = not_named s ok d class level (Procedure ty) e (level_has_levels s ok (class_has s ok class is) (level_is s class (block_of s d) level))

-- What a place sees is built from a text.
pub record Stands (s : Source) (t : ℕ) (from : Place) : Type 0 where
  pub seen : (d : DeclNo) → Sees s from d → StandsIn s t (block_of s d)
  pub solid : (d : DeclNo) → Sees s from d → is_connection (text s (block_of s d)) ≡ false
  pub connected : (k : ℕ) (d : DeclNo) → SeesConnected s from k d → ConnectedBuilt s t k
  pub behind : (k : ℕ) (d : DeclNo) → SeesConnected s from k d → is_connection (text s (block_of s d)) ≡ false
  pub around : (k : ℕ) → StandsAround s from k → StandsIn s t k
  pub never : (k : ℕ) (d : DeclNo) → SeesConnected s from k d → NeverGiven s d

module _ (s : Source) (ok : Typed s) (laid : Laid s) (t : ℕ) (from : Place) (stands : Stands s t from) where
  pub object_solid : (Object : ℕ → Type 0) (d : DeclNo) → ObjectHas s Object d → is_connection (text s (block_of s d)) ≡ false
  object_solid Object d a = level_solid s ok laid a.0 (block_of s d) (class_is_solid (text s a.0) a.1) a.2

  object_never : (Object : ℕ → Type 0) (d : DeclNo) → ObjectHas s Object d → NeverGiven s d
  object_never Object d a = class_never s ok d a.0 a.1 a.2

  this_of : (k : ℕ) (connection levels : Bool) (h : Holds) → is_connection (text s k) ≡ connection → ThisIs s from connection levels k h → ThisOfBuilt s t k connection
  this_of k true levels h e a = record { has = connection_has s ok laid k e; inside = stands.around k a.0 }
  this_of k false true h e a = stands.around k a.0
  this_of k false false h e a = absurd a

  pub this_built : (found : Option ℕ) (h : Holds) → ThisFound s from found h → ThisFoundBuilt s t found
  this_built None h a = absurd a
  this_built (Some k) h a = this_of k (is_connection (text s k)) (has_levels (text s k)) h refl a

  -- ---- standard names

  behind_text : (es : Expressions) (n : Standard) (h : Option Holds) → OfText n (λ ks. AreOf s from es ks) h → NameBuilt n (suc (operands es))
  behind_text es n h a = record { runs = ((a.0).0).0; as_many = ap suc (counted s from es a.1 a.3) ∙ sym (ap length a.2) }

  name_built : (es : Expressions) (Built : Type 0) (image : Bool) (on : Option Standard) (n : Standard) (h : Option Holds) → ((ks : List Kind) → AreOf s from es ks → Built) → NameGives image on n (λ ks. AreOf s from es ks) h → ImageNameBuilt image on n es Built
  name_built es Built true on n h f a = nothing_more s from es a.1
  name_built es Built false (Some m) n h f a = (behind_text es m h a, f a.1 a.3)
  name_built es Built false None n h f a = (record { runs = ((a.0).0).0; as_many = counted s from es (operands_of (row_of n).function) a.1 }, f (operands_of (row_of n).function) a.1)

  standard_built : (es : Expressions) (Built : Type 0) (n : Option Standard) (h : Option Holds) → ((ks : List Kind) → AreOf s from es ks → Built) → StandardGives n (λ ks. AreOf s from es ks) h → StandardBuilt n es Built
  standard_built es Built None h f a = absurd a
  standard_built es Built (Some n) h f a = name_built es Built (is_image n) (on_image n) n h f a

  object_built : (b : Bool) (Place Value : Type 0) → (b ≡ true → Place) → Value → ObjectBuilt b Place Value
  object_built true Place Value f v = f refl
  object_built false Place Value f v = v

  second : (a b : Bool) → (a && b) ≡ true → b ≡ true
  second true b e = e
  second false b e = absurd (cc)

  attribute_built : (es : Expressions) (Text Place Value Built : Type 0) (n : Option Standard) (is_variable : Bool) (h : Option Holds) → (is_variable ≡ true → Text → Place) → (Text → Value) → ((ks : List Kind) → AreOf s from es ks → Built) → AttributeGives n Text (λ ks. AreOf s from es ks) h → AttributeBuilt n is_variable es Place Value Built
  attribute_built es Text Place Value Built None is_variable h p v f a = absurd a
  attribute_built es Text Place Value Built (Some n) is_variable h p v f a =
      (behind_text es n h a.1, object_built (moves_position n && is_variable) Place Value (λ e. p (second (moves_position n) is_variable e) a.0) (v a.0), f (a.1).1 (a.1).3)

  -- ---- identifiers, with their operands

  module _ (es : Expressions) (integers : AreIntegers s from es → AreBuilt s t es) (operand : (ks : List Kind) → AreOf s from es ks → AreBuilt s t es) (Actuals : List Formal → Type 0) (Given : Parameters → Type 0) (given : (fs : List Formal) → Actuals fs → Given (Listed fs)) (checks : ParametersAre s from es → Given Checked) (count : (fs : List Formal) → Actuals fs → operands es ≡ length fs) where
    named_built : (x : Option Denotation) (h : Option Holds) → attribute_denoted s x ≡ None → NamedGives s from None x es (AreIntegers s from es) (ParametersAre s from es) (λ ks. AreOf s from es ks) Actuals h → NamedBuilt s t x es (AreBuilt s t es) Given
    named_built None h o a = absurd a
    named_built (Some (denotation.Declared d)) h o a =
        declared_built s ok laid t d (Sees s from d) (λ z. stands.solid d z) es (AreIntegers s from es) (ParametersAre s from es) integers (λ z. stands.seen d z) Actuals Given (entry_of s.tables d) h refl (not_attribute (is_standard_attribute (entry_of s.tables d)) d o) given checks a
    named_built (Some (denotation.Standard n)) h o a = standard_built es (AreBuilt s t es) (procedure_named n) h operand a

    connected_name_built : (k : ℕ) (x : Option Denotation) (h : Option Holds) → NamedGives s from (Some k) x es (AreIntegers s from es) (ParametersAre s from es) (λ ks. AreOf s from es ks) Actuals h → ConnectedNameBuilt s t k x es (AreBuilt s t es) Given
    connected_name_built k None h a = absurd a
    connected_name_built k (Some (denotation.Declared d)) h a =
        of_object_built s ok laid t d (SeesConnected s from k d) (λ z. stands.behind k d z) es (AreIntegers s from es) (ParametersAre s from es) integers (ConnectedBuilt s t k) (λ z. stands.connected k d z) (λ z. stands.never k d z) Actuals Given (entry_of s.tables d) h refl given checks count a
    connected_name_built k (Some (denotation.Standard n)) h a = absurd a

    -- an attribute of the object around
    own_object : (token : ℕ) (d : DeclNo) (h : Option Holds) (y : Option Entry) → entry_of s.tables d ≡ y → DeclaredGives s (OwnKnown s from token d) d es (AreIntegers s from es) (ParametersAre s from es) Actuals y h
        → OfObjectBuilt s d y es (ThisFoundBuilt s t (found_at s token)) (AreBuilt s t es) (Given (parameters_of y (formals_at s d)))
    own_object token d h y e a =
        of_object_built s ok laid t d (OwnKnown s from token d) (λ z. object_solid (λ c. ThisFound s from (found_at s token) (Refers c)) d z) es (AreIntegers s from es) (ParametersAre s from es) integers (ThisFoundBuilt s t (found_at s token)) (λ z. this_built (found_at s token) (Refers z.0) z.3) (λ z. object_never (λ c. ThisFound s from (found_at s token) (Refers c)) d z) Actuals Given y h e given checks count a

    -- a procedure of a simulation block, which is a text around
    simulation_built : (token : ℕ) (d : DeclNo) (name : Standard) (parameter result : Option SimType) (h : Option Holds) → entry_of s.tables d ≡ Some (entry.Attribute name parameter result) → is_simulation_name name ≡ true
        → SimulationGives s (SimulationKnown s from token d) parameter result Actuals h → SimulationFoundBuilt s t (found_at s token) name result es (Given (Listed (formals_at s d)))
    simulation_built token d name parameter result h e is a =
        let there = ok.simulation_procedures d name parameter result e is in
        let known = a.1 in
        subst (λ z. SimulationFoundBuilt s t z name result es (Given (Listed (formals_at s d)))) (sym known.is_found) (
          simulation_named s name parameter result (block_of s d + 1) es is (count (attribute_formals parameter) a.2) there.parameter_is there.result_is,
          stands.around known.found known.around,
          subst (λ z. Given (Listed z)) (sym (ap (formals_declared s d) e)) (given (attribute_formals parameter) a.2),
        )

    own_built : (token : ℕ) (d : DeclNo) (h : Option Holds) (y : Option Entry) → entry_of s.tables d ≡ y → OwnGives s from token d Actuals y h (DeclaredGives s (OwnKnown s from token d) d es (AreIntegers s from es) (ParametersAre s from es) Actuals y h)
        → OwnNameBuilt s t (found_at s token) y es (Given (Listed (formals_at s d))) (OfObjectBuilt s d y es (ThisFoundBuilt s t (found_at s token)) (AreBuilt s t es) (Given (parameters_of y (formals_at s d))))
    own_built token d h (Some (entry.Attribute name parameter result)) e a = go (is_simulation_name name) refl a
      where
        go : (c : Bool) → is_simulation_name name ≡ c → OwnNameGives c (SimulationGives s (SimulationKnown s from token d) parameter result Actuals h) (SetGives s (OwnKnown s from token d) name parameter result Actuals h)
            → OwnByBuilt c (SimulationFoundBuilt s t (found_at s token) name result es (Given (Listed (formals_at s d)))) (OfObjectBuilt s d (Some (entry.Attribute name parameter result)) es (ThisFoundBuilt s t (found_at s token)) (AreBuilt s t es) (Given (Listed (formals_at s d))))
        go true is a = simulation_built token d name parameter result h e is a
        go false is a = own_object token d h (Some (entry.Attribute name parameter result)) e a
    own_built token d h (Some (entry.Procedure result k)) e a = own_object token d h (Some (entry.Procedure result k)) e a
    own_built token d h (Some (entry.Variable ty)) e a = own_object token d h (Some (entry.Variable ty)) e a
    own_built token d h (Some (entry.Constant ty)) e a = own_object token d h (Some (entry.Constant ty)) e a
    own_built token d h (Some (entry.Array ty n)) e a = own_object token d h (Some (entry.Array ty n)) e a
    own_built token d h (Some (entry.Class k)) e a = own_object token d h (Some (entry.Class k)) e a
    own_built token d h (Some (entry.Virtual result own)) e a = own_object token d h (Some (entry.Virtual result own)) e a
    own_built token d h (Some (entry.Formal f)) e a = own_object token d h (Some (entry.Formal f)) e a
    own_built token d h (Some (entry.Unspecified w)) e a = own_object token d h (Some (entry.Unspecified w)) e a
    own_built token d h None e a = own_object token d h None e a

    -- an identifier, which may be an attribute of the object around
    pub identifier_built : (token : ℕ) (c : Option ℕ) (own : Option DeclNo) (h : Option Holds) → own_attribute s token ≡ own → IdentifierGives s from token c own es (AreIntegers s from es) (ParametersAre s from es) (λ ks. AreOf s from es ks) Actuals h
        → ThroughBuilt c (λ k. ConnectedNameBuilt s t k (denoted s token) es (AreBuilt s t es) Given) (OwnBuilt own (λ d. OwnNameBuilt s t (found_at s token) (entry_of s.tables d) es (Given (Listed (formals_at s d))) (OfObjectBuilt s d (entry_of s.tables d) es (ThisFoundBuilt s t (found_at s token)) (AreBuilt s t es) (Given (parameters_at s d)))) (NamedBuilt s t (denoted s token) es (AreBuilt s t es) Given))
    identifier_built token None None h e a = named_built (denoted s token) h (not_own s token e) a
    identifier_built token (Some k) own h e a = connected_name_built k (denoted s token) h a
    identifier_built token None (Some d) h e a = own_built token d h (entry_of s.tables d) refl a

    pub dot_built : (Text Place Value : Type 0) (Object : ℕ → Type 0) (x : Option Denotation) (stream : Option ℕ) (is_variable : Bool) (h : Option Holds) → (is_variable ≡ true → Text → Place) → (Text → Value) → ((c : ℕ) → Object c → Value) → DotGives s x stream Text Object es (AreIntegers s from es) (ParametersAre s from es) (λ ks. AreOf s from es ks) Actuals h → DotBuilt s x stream is_variable es Place Value (AreBuilt s t es) Given
    dot_built Text Place Value Object None stream is_variable h p v o a = absurd a
    dot_built Text Place Value Object (Some (denotation.Declared d)) stream is_variable h p v o a =
        of_object_built s ok laid t d (ObjectHas s Object d) (λ z. object_solid Object d z) es (AreIntegers s from es) (ParametersAre s from es) integers Value (λ z. o z.0 z.3) (λ z. object_never Object d z) Actuals Given (entry_of s.tables d) h refl given checks count a
    dot_built Text Place Value Object (Some (denotation.Standard n)) (Some image) is_variable h p v o a = standard_built es (AreBuilt s t es) (procedure_named n) h operand a
    dot_built Text Place Value Object (Some (denotation.Standard n)) None is_variable h p v o a = attribute_built es Text Place Value (AreBuilt s t es) (procedure_named n) is_variable h p v operand a

    -- where a variable before a dot lies
    named_place_built : (c : Option ℕ) (x : Option Denotation) (v : Kind) → is_variable_denoted s x es ≡ true → NamedGives s from c x es (AreIntegers s from es) (ParametersAre s from es) (λ ks. AreOf s from es ks) Actuals (Some (Simply v)) → ThroughBuilt c (λ k. PlaceBehindBuilt s x es (ConnectedBuilt s t k) (AreBuilt s t es)) (NamedPlaceBuilt s t x es (AreBuilt s t es))
    named_place_built None None v b a = absurd a
    named_place_built (Some k) None v b a = absurd a
    named_place_built None (Some (denotation.Declared d)) v b a =
        let z = gives_place s (Sees s from d) (AreIntegers s from es) (ParametersAre s from es) d es Actuals (entry_of s.tables d) v b a in
        declared_place_built s ok laid t d (Sees s from d) (λ z. stands.solid d z) es (AreIntegers s from es) (ParametersAre s from es) integers (λ z. stands.seen d z) (entry_of s.tables d) z.0 refl z.1
    named_place_built (Some k) (Some (denotation.Declared d)) v b a =
        let z = gives_place s (SeesConnected s from k d) (AreIntegers s from es) (ParametersAre s from es) d es Actuals (entry_of s.tables d) v b a in
        place_of_built s ok laid t d (SeesConnected s from k d) (λ z. stands.behind k d z) es (AreIntegers s from es) (ParametersAre s from es) integers (ConnectedBuilt s t k) (λ z. stands.connected k d z) (λ z. stands.never k d z) (entry_of s.tables d) z.0 refl z.1
    named_place_built None (Some (denotation.Standard n)) v b a = tt
    named_place_built (Some k) (Some (denotation.Standard n)) v b a = absurd a

    identifier_place_built : (token : ℕ) (c : Option ℕ) (own : Option DeclNo) (v : Kind) → own_attribute s token ≡ own → is_variable_denoted s (denoted s token) es ≡ true → IdentifierGives s from token c own es (AreIntegers s from es) (ParametersAre s from es) (λ ks. AreOf s from es ks) Actuals (Some (Simply v))
        → ThroughBuilt c (λ k. PlaceBehindBuilt s (denoted s token) es (ConnectedBuilt s t k) (AreBuilt s t es)) (NamedPlaceBuilt s t (denoted s token) es (AreBuilt s t es))
    identifier_place_built token None None v e b a = named_place_built None (denoted s token) v b a
    identifier_place_built token (Some k) own v e b a = named_place_built (Some k) (denoted s token) v b a
    identifier_place_built token None (Some d) v e b a = absurd (own_no_variable (entry_of s.tables d) es (own_is_attribute s token d e) (ap (λ z. is_variable_denoted s z es) (sym (own_denoted s token d e)) ∙ b))

    dot_place_built : (Text Value : Type 0) (Object : ℕ → Type 0) (x : Option Denotation) (stream : Option ℕ) (v : Kind) → (is_image_behind stream x || is_attribute_denoted s x es) ≡ true → ((c : ℕ) → Object c → Value) → DotGives s x stream Text Object es (AreIntegers s from es) (ParametersAre s from es) (λ ks. AreOf s from es ks) Actuals (Some (Simply v)) → StreamBuilt stream (PlaceBehindBuilt s x es Value (AreBuilt s t es))
    dot_place_built Text Value Object x (Some image) v b o a = tt
    dot_place_built Text Value Object None None v b o a = absurd a
    dot_place_built Text Value Object (Some (denotation.Standard n)) None v b o a = absurd (cc)
    dot_place_built Text Value Object (Some (denotation.Declared d)) None v b o a =
        let z = gives_place s (ObjectHas s Object d) (AreIntegers s from es) (ParametersAre s from es) d es Actuals (entry_of s.tables d) v b a in
        place_of_built s ok laid t d (ObjectHas s Object d) (λ z. object_solid Object d z) es (AreIntegers s from es) (ParametersAre s from es) integers Value (λ z. o z.0 z.3) (λ z. object_never Object d z) (entry_of s.tables d) z.0 refl z.1

    -- where a variable or an element lies
    named_lies : (c : Option ℕ) (x : Option Denotation) (h : Holds) → PlaceNamed s from c x es (AreIntegers s from es) h → ThroughBuilt c (λ k. PlaceBehindBuilt s x es (ConnectedBuilt s t k) (AreBuilt s t es)) (NamedPlaceBuilt s t x es (AreBuilt s t es))
    named_lies None None h a = absurd a
    named_lies (Some k) None h a = absurd a
    named_lies None (Some (denotation.Declared d)) h a =
        declared_place_built s ok laid t d (Sees s from d) (λ z. stands.solid d z) es (AreIntegers s from es) (ParametersAre s from es) integers (λ z. stands.seen d z) (entry_of s.tables d) h refl a
    named_lies (Some k) (Some (denotation.Declared d)) h a =
        place_of_built s ok laid t d (SeesConnected s from k d) (λ z. stands.behind k d z) es (AreIntegers s from es) (ParametersAre s from es) integers (ConnectedBuilt s t k) (λ z. stands.connected k d z) (λ z. stands.never k d z) (entry_of s.tables d) h refl a
    named_lies None (Some (denotation.Standard n)) h a = absurd a
    named_lies (Some k) (Some (denotation.Standard n)) h a = absurd a

    dot_lies : (Value : Type 0) (Object : ℕ → Type 0) (x : Option Denotation) (stream : Option ℕ) (h : Holds) → ((c : ℕ) → Object c → Value) → PlaceDot s x Object es (AreIntegers s from es) h → StreamBuilt stream (PlaceBehindBuilt s x es Value (AreBuilt s t es))
    dot_lies Value Object x (Some image) h o a = tt
    dot_lies Value Object None None h o a = absurd a
    dot_lies Value Object (Some (denotation.Standard n)) None h o a = absurd a
    dot_lies Value Object (Some (denotation.Declared d)) None h o a =
        place_of_built s ok laid t d (ObjectHas s Object d) (λ z. object_solid Object d z) es (AreIntegers s from es) (ParametersAre s from es) integers Value (λ z. o z.0 z.3) (λ z. object_never Object d z) (entry_of s.tables d) h refl a

  -- ---- procedures alone

  procedure_named_built : (c : Option ℕ) (x : Option Denotation) (wanted : Option SimType) → ProcedureNamed s from c x wanted → ThroughBuilt c (λ k. ProcedureBehindBuilt s x (ConnectedBuilt s t k)) (ProcedureNamedBuilt s t x)
  procedure_named_built None None wanted a = absurd a
  procedure_named_built (Some k) None wanted a = absurd a
  procedure_named_built None (Some (denotation.Declared d)) wanted a =
      procedure_entry_built s ok laid t d (Sees s from d) (λ z. stands.solid d z) NoMore ⊥ ⊥ (λ z. absurd z) (λ z. stands.seen d z) (entry_of s.tables d) wanted refl a
  procedure_named_built (Some k) (Some (denotation.Declared d)) wanted a =
      procedure_of_object_built s ok laid t d (SeesConnected s from k d) (λ z. stands.behind k d z) NoMore ⊥ ⊥ (λ z. absurd z) (ConnectedBuilt s t k) (λ z. stands.connected k d z) (λ z. stands.never k d z) (entry_of s.tables d) wanted refl a
  procedure_named_built None (Some (denotation.Standard n)) wanted a = absurd a
  procedure_named_built (Some k) (Some (denotation.Standard n)) wanted a = absurd a

  procedure_dot_built : (Value : Type 0) (Object : ℕ → Type 0) (x : Option Denotation) (wanted : Option SimType) → ((c : ℕ) → Object c → Value) → ProcedureDot s x Object wanted → ProcedureBehindBuilt s x Value
  procedure_dot_built Value Object None wanted o a = absurd a
  procedure_dot_built Value Object (Some (denotation.Standard n)) wanted o a = absurd a
  procedure_dot_built Value Object (Some (denotation.Declared d)) wanted o a =
      procedure_of_object_built s ok laid t d (ObjectHas s Object d) (λ z. object_solid Object d z) NoMore ⊥ ⊥ (λ z. absurd z) Value (λ z. o z.0 z.3) (λ z. object_never Object d z) (entry_of s.tables d) wanted refl a

  -- ---- objects

  generation_built : (token : ℕ) (Actuals Given : List Formal → Type 0) → ((fs : List Formal) → Actuals fs → Given fs) → Generates s from token Actuals → GenerationBuilt s t (denoted s token) (class_at s token) (Given (class_parameters s (class_at s token)))
  unfolding class_at
  generation_built token Actuals Given given g =
      subst (λ x. GenerationBuilt s t x (class_denoted s x) (Given (class_parameters s (class_denoted s x)))) (sym g.denotes)
      (subst (λ c. GenerationBuilt s t (Some (denotation.Declared g.declaration)) c (Given (class_parameters s c))) (sym (class_there s ok g.declaration g.class g.declares))
      (stands.seen g.declaration g.seen, given (class_parameters s (Some g.class)) g.actuals))

  -- ---- expressions

  -- what a thunk gives: a value of the kind, or where such a variable lies; an array
  actual_built : (m : Mode) (k : FormalKind) (ty : Option SimType) (Is : Holds → Type 0) (Passed : Kind → Type 0) (Gives : Option SimType → Type 0) (Value Alone Given : Type 0) → ((h : Holds) → Is h → Value) → ((k : Kind) → Passed k → Given) → ((h : Holds) → Is (ArrayOf h) → Given) → ((ty : Option SimType) → Gives ty → Alone) → ActualFits s m k ty Is Passed Gives
      → ActualBuilt m k Value Alone Given
  actual_built mode.ByValue shape.Simple (Some ty) Is Passed Gives Value Alone Given f g w p a = f (passed (held_by s ty)) a
  actual_built mode.ByReference shape.Simple (Some ty) Is Passed Gives Value Alone Given f g w p a = f (passed (held_by s ty)) a
  actual_built mode.ByName shape.Simple (Some ty) Is Passed Gives Value Alone Given f g w p a = g (kind_of_type ty) a
  actual_built mode.ByReference shape.Array (Some ty) Is Passed Gives Value Alone Given f g w p a = f (ArrayOf (held_by s ty)) a
  actual_built mode.ByValue shape.Array (Some ty) Is Passed Gives Value Alone Given f g w p a = f (ArrayOf (held_by s ty)) a
  actual_built mode.ByName shape.Array (Some ty) Is Passed Gives Value Alone Given f g w p a = w (held_by s ty) a
  actual_built mode.ByValue shape.Procedure ty Is Passed Gives Value Alone Given f g w p a = p ty a
  actual_built mode.ByReference shape.Procedure ty Is Passed Gives Value Alone Given f g w p a = p ty a
  actual_built mode.ByName shape.Procedure ty Is Passed Gives Value Alone Given f g w p a = p ty a
  actual_built mode.ByValue shape.Simple None Is Passed Gives Value Alone Given f g w p a = absurd a
  actual_built mode.ByReference shape.Simple None Is Passed Gives Value Alone Given f g w p a = absurd a
  actual_built mode.ByName shape.Simple None Is Passed Gives Value Alone Given f g w p a = absurd a
  actual_built mode.ByValue shape.Array None Is Passed Gives Value Alone Given f g w p a = absurd a
  actual_built mode.ByReference shape.Array None Is Passed Gives Value Alone Given f g w p a = absurd a
  actual_built mode.ByName shape.Array None Is Passed Gives Value Alone Given f g w p a = absurd a

  -- an actual parameter that is held against the formal one when the call is done
  parameter_built : (p : Passed) (Is : Holds → Type 0) (Named : Kind → Type 0) (Gives : Option SimType → Type 0) (Alone Given : Type 0) → ((k : Kind) → Named k → Given) → ((h : Holds) → Is (ArrayOf h) → Given) → ((ty : Option SimType) → Gives ty → Alone) → ParameterOf s p Is Named Gives
      → IfBuilt (is_value p) Given × IfBuilt (is_procedure p) Alone
  parameter_built (PassedArray (Some ty)) Is Named Gives Alone Given g w q a = (w (held_by s ty) a, tt)
  parameter_built (PassedArray None) Is Named Gives Alone Given g w q a = absurd a
  parameter_built (PassedProcedure None zero) Is Named Gives Alone Given g w q a = (tt, q None a.0)
  parameter_built (PassedProcedure (Some ty) zero) Is Named Gives Alone Given g w q a = (let v = a.1 in g (kind_of_type ty) v.1, q (Some ty) a.0)
  parameter_built (PassedProcedure None (suc n)) Is Named Gives Alone Given g w q a = (tt, q None a)
  parameter_built (PassedProcedure (Some ty) (suc n)) Is Named Gives Alone Given g w q a = (tt, q (Some ty) a)
  parameter_built (PassedValue (Some ty) v) Is Named Gives Alone Given g w q a = (g (kind_of_type ty) a.1, tt)
  parameter_built (PassedValue None v) Is Named Gives Alone Given g w q a = absurd a

  -- what a thunk gives: where a variable lies, or a value
  passed_built : (placed : Bool) (class : Option ℕ) (Is Lies : Holds → Type 0) (Lying Value : Type 0) → ((h : Holds) → Is h → Value) → ((h : Holds) → Lies h → Lying) → (k : Kind) → ActualPassed placed class Is Lies k → ObjectBuilt placed Lying Value
  passed_built true None Is Lies Lying Value f g k a = g (Simply k) a.1
  passed_built true (Some c) Is Lies Lying Value f g k a = g (Refers c) a.1
  passed_built false class Is Lies Lying Value f g k a = f (Simply k) a

  literal_built : (token : ℕ) (x : Literal) (h : Holds) → LiteralIs s token x h → LiteralBuilt s token x
  literal_built token (syntax.IntegerValue z) h a = tt
  literal_built token (syntax.CharacterValue c) h a = tt
  literal_built token (syntax.TextValue bytes) h a = subst (λ z. ConstantBuilt z NoMore) (sym a.1) (text_built s token a.0 a.1)
  literal_built token (syntax.BooleanValue b) h a = tt
  literal_built token syntax.NoText h a = tt
  literal_built token syntax.NoObject h a = tt

  -- an array alone is no variable
  array_built : (e : Expression) (h : Holds) → ExprIs s from e (ArrayOf h) → IsBuilt s t e → ObjectBuilt (is_placed s e) (PlaceBuilt s t e) (IsBuilt s t e)
  array_built e h a b = object_built (is_placed s e) (PlaceBuilt s t e) (IsBuilt s t e) (λ v. absurd (no_array_placed s from e h a v)) b

  mutual
    pub is_built : (e : Expression) (h : Holds) → ExprIs s from e h → IsBuilt s t e
    is_built (syntax.If i c a b) h x = (is_built c (Simply kind.Boolean) x.0, is_built a h x.1, is_built b h x.2)
    is_built (syntax.Binary op i a b) h x = (is_built a (Simply x.0) x.4, is_built b (Simply x.0) x.5)
    is_built (syntax.Not i a) h x = is_built a (Simply kind.Boolean) x.1
    is_built (syntax.Signed sign i a) h x = is_built a (Simply kind.Integer) x.1
    is_built (syntax.Member m i a c) h x = (named_class s c.token.0 x.1, is_built a (Simply kind.Reference) x.2)
    is_built (syntax.Dot i a name es) h x = (
      dot_gives s (denoted s name.token.0) (stream_of s a) (ExprIs s from a (Simply kind.Text)) (λ c. ExprIs s from a (Refers c)) es (AreIntegers s from es) (ParametersAre s from es) (λ ks. AreOf s from es ks) (λ fs. ActualsFit s from es fs) (Some h) x,
      dot_built es (λ y. integers_built es y) (λ ks y. are_built es ks y) (λ fs. ActualsFit s from es fs) (λ ps. ActualsBuilt s t es ps) (λ fs y. actuals_built es fs y) (λ y. parameters_built es y) (λ fs y. fitted s from es fs y)
          (ExprIs s from a (Simply kind.Text)) (PlaceBuilt s t a) (IsBuilt s t a) (λ c. ExprIs s from a (Refers c)) (denoted s name.token.0) (stream_of s a) (is_variable s a || is_attribute s a) (Some h)
          (λ b y. text_place a b y) (λ y. is_built a (Simply kind.Text) y) (λ c y. is_built a (Refers c) y) x,
    )
    is_built (syntax.Qua i a c) h x = (named_class s c.token.0 x.0, is_built a (Simply kind.Reference) x.2)
    is_built (syntax.Constant literal i) h x = literal_built i literal h x
    is_built (syntax.Named name es) h x = (
      identifier_gives s from name.token.0 (connection_at s name.token.0) (own_attribute s name.token.0) es (AreIntegers s from es) (ParametersAre s from es) (λ ks. AreOf s from es ks) (λ fs. ActualsFit s from es fs) (Some h) refl x,
      identifier_built es (λ y. integers_built es y) (λ ks y. are_built es ks y) (λ fs. ActualsFit s from es fs) (λ ps. ActualsBuilt s t es ps) (λ fs y. actuals_built es fs y) (λ y. parameters_built es y) (λ fs y. fitted s from es fs y)
          name.token.0 (connection_at s name.token.0) (own_attribute s name.token.0) (Some h) refl x,
    )
    is_built (syntax.This i c) h x = this_built (found_at s i) h x
    is_built (syntax.New i c es) h x = generation_built c.token.0 (λ fs. ActualsFit s from es fs) (λ fs. PassedBuilt s t es fs) (λ fs y. actuals_built es fs y) x.0
    is_built (syntax.Parentheses i a) h x = is_built a h x

    pub text_place : (e : Expression) → (is_variable s e || is_attribute s e) ≡ true → ExprIs s from e (Simply kind.Text) → PlaceBuilt s t e
    text_place (syntax.Named name es) b x =
        identifier_place_built es (λ y. integers_built es y) (λ ks y. are_built es ks y) (λ fs. ActualsFit s from es fs) (λ ps. ActualsBuilt s t es ps) (λ fs y. actuals_built es fs y) (λ y. parameters_built es y) (λ fs y. fitted s from es fs y)
        name.token.0 (connection_at s name.token.0) (own_attribute s name.token.0) kind.Text refl (variable_form s (syntax.Named name es) b) x
    text_place (syntax.Dot i a name es) b x =
        dot_place_built es (λ y. integers_built es y) (λ ks y. are_built es ks y) (λ fs. ActualsFit s from es fs) (λ ps. ActualsBuilt s t es ps) (λ fs y. actuals_built es fs y) (λ y. parameters_built es y) (λ fs y. fitted s from es fs y)
        (ExprIs s from a (Simply kind.Text)) (IsBuilt s t a) (λ c. ExprIs s from a (Refers c)) (denoted s name.token.0) (stream_of s a) kind.Text (variable_form s (syntax.Dot i a name es) b) (λ c y. is_built a (Refers c) y) x
    text_place (syntax.If i c a d) b x = absurd (variable_form s (syntax.If i c a d) b)
    text_place (syntax.Binary op i a d) b x = absurd (variable_form s (syntax.Binary op i a d) b)
    text_place (syntax.Not i a) b x = absurd (variable_form s (syntax.Not i a) b)
    text_place (syntax.Signed sign i a) b x = absurd (variable_form s (syntax.Signed sign i a) b)
    text_place (syntax.Constant literal i) b x = absurd (variable_form s (syntax.Constant literal i) b)
    text_place (syntax.Parentheses i a) b x = absurd (variable_form s (syntax.Parentheses i a) b)
    text_place (syntax.Member m i a c) b x = absurd (variable_form s (syntax.Member m i a c) b)
    text_place (syntax.Qua i a c) b x = absurd (variable_form s (syntax.Qua i a c) b)
    text_place (syntax.This i c) b x = absurd (variable_form s (syntax.This i c) b)
    text_place (syntax.New i c es) b x = absurd (variable_form s (syntax.New i c es) b)

    pub place_built : (e : Expression) (h : Holds) → PlaceIs s from e h → PlaceBuilt s t e
    place_built (syntax.Named name es) h a =
        named_lies es (λ y. integers_built es y) (λ ks y. are_built es ks y) (λ fs. ActualsFit s from es fs) (λ ps. ActualsBuilt s t es ps) (λ fs y. actuals_built es fs y) (λ y. parameters_built es y) (λ fs y. fitted s from es fs y)
        (connection_at s name.token.0) (denoted s name.token.0) h a
    place_built (syntax.Dot i b name es) h a =
        dot_lies es (λ y. integers_built es y) (λ ks y. are_built es ks y) (λ fs. ActualsFit s from es fs) (λ ps. ActualsBuilt s t es ps) (λ fs y. actuals_built es fs y) (λ y. parameters_built es y) (λ fs y. fitted s from es fs y)
        (IsBuilt s t b) (λ c. ExprIs s from b (Refers c)) (denoted s name.token.0) (stream_of s b) h (λ c y. is_built b (Refers c) y) a
    place_built (syntax.If i c b d) h a = absurd a
    place_built (syntax.Binary op i b d) h a = absurd a
    place_built (syntax.Not i b) h a = absurd a
    place_built (syntax.Signed sign i b) h a = absurd a
    place_built (syntax.Constant literal i) h a = absurd a
    place_built (syntax.Parentheses i b) h a = absurd a
    place_built (syntax.Member m i b c) h a = absurd a
    place_built (syntax.Qua i b c) h a = absurd a
    place_built (syntax.This i c) h a = absurd a
    place_built (syntax.New i c es) h a = absurd a

    pub are_built : (es : Expressions) (ks : List Kind) → AreOf s from es ks → AreBuilt s t es
    are_built NoMore ks x = tt
    are_built (Then e es) [] x = absurd x
    are_built (Then e es) (k ∷ ks) x = (is_built e (Simply k) x.0, are_built es ks x.1)

    pub integers_built : (es : Expressions) → AreIntegers s from es → AreBuilt s t es
    integers_built NoMore x = tt
    integers_built (Then e es) x = (is_built e (Simply kind.Integer) x.0, integers_built es x.1)

    pub actuals_built : (es : Expressions) (fs : List Formal) → ActualsFit s from es fs → PassedBuilt s t es fs
    actuals_built NoMore [] x = tt
    actuals_built NoMore (f ∷ fs) x = absurd x
    actuals_built (Then e es) [] x = absurd x
    actuals_built (Then e es) (f ∷ fs) x =
        let class = qualification s (type_at s (typed_token e)) in (
          actual_built f.mode f.kind f.ty (ExprIs s from e) (ActualPassed (is_placed s e) class (ExprIs s from e) (PlaceIs s from e)) (ProcedureIs s from e) (IsBuilt s t e) (ProcedureBuilt s t e) (ObjectBuilt (is_placed s e) (PlaceBuilt s t e) (IsBuilt s t e)) (λ h z. is_built e h z)
              (λ k z. passed_built (is_placed s e) class (ExprIs s from e) (PlaceIs s from e) (PlaceBuilt s t e) (IsBuilt s t e) (λ h y. is_built e h y) (λ h y. place_built e h y) k z) (λ h y. array_built e h y (is_built e (ArrayOf h) y)) (λ ty y. procedure_built e ty y) x.0,
          actuals_built es fs x.1,
        )

    pub parameters_built : (es : Expressions) → ParametersAre s from es → ParametersBuilt s t es
    parameters_built NoMore x = tt
    parameters_built (Then e es) x =
        let class = qualification s (type_at s (typed_token e)) in
        let given = parameter_built (passed_by s e) (ExprIs s from e) (ActualPassed (is_placed s e) class (ExprIs s from e) (PlaceIs s from e)) (ProcedureIs s from e) (ProcedureBuilt s t e) (ObjectBuilt (is_placed s e) (PlaceBuilt s t e) (IsBuilt s t e))
        (λ k z. passed_built (is_placed s e) class (ExprIs s from e) (PlaceIs s from e) (PlaceBuilt s t e) (IsBuilt s t e) (λ h y. is_built e h y) (λ h y. place_built e h y) k z) (λ h y. array_built e h y (is_built e (ArrayOf h) y)) (λ ty y. procedure_built e ty y) x.0 in
        (given.0, given.1, parameters_built es x.2)

    -- a procedure alone
    procedure_built : (e : Expression) (wanted : Option SimType) → ProcedureIs s from e wanted → ProcedureBuilt s t e
    procedure_built (syntax.Named name NoMore) wanted a = procedure_named_built (connection_at s name.token.0) (denoted s name.token.0) wanted a
    procedure_built (syntax.Dot i b name NoMore) wanted a = procedure_dot_built (IsBuilt s t b) (λ c. ExprIs s from b (Refers c)) (denoted s name.token.0) wanted (λ c y. is_built b (Refers c) y) a
    procedure_built (syntax.Named name (Then e es)) wanted a = absurd a
    procedure_built (syntax.Dot i b name (Then e es)) wanted a = absurd a
    procedure_built (syntax.If i c b d) wanted a = absurd a
    procedure_built (syntax.Binary op i b d) wanted a = absurd a
    procedure_built (syntax.Not i b) wanted a = absurd a
    procedure_built (syntax.Signed sign i b) wanted a = absurd a
    procedure_built (syntax.Constant literal i) wanted a = absurd a
    procedure_built (syntax.Parentheses i b) wanted a = absurd a
    procedure_built (syntax.Member m i b c) wanted a = absurd a
    procedure_built (syntax.Qua i b c) wanted a = absurd a
    procedure_built (syntax.This i c) wanted a = absurd a
    procedure_built (syntax.New i c es) wanted a = absurd a
