-- What a call of a formal procedure, or of a virtual, is held against when it is done: what each actual parameter is, and whether it fits the formal
-- one. Two types with classes fit only where the classes belong to the same instance.
use Rattle.std.specs.Prelude.{ℕ, zero, suc, Bool, true, false, ◌&&◌, ◌||◌, ◌==◌, List, [], ◌∷◌, length, Option, Some, None}
use Rattle.sim_base.specs.declared.numbering.DeclNo.{DeclNo}
use Rattle.sim_scope.specs.declared.scopes.Denotation.{Denotation}
use Rattle.sim_scope.specs.declared.scopes.Denotation.TheVariants as denotation
use Rattle.sim_scope.specs.declared.types.Entry.{Entry}
use Rattle.sim_scope.specs.declared.types.Entry.TheVariants as entry
use Rattle.sim_scope.specs.declared.types.Formal.{Formal}
use Rattle.sim_scope.specs.declared.types.FormalKind.{FormalKind}
use Rattle.sim_scope.specs.declared.types.FormalKind.TheVariants as shape
use Rattle.sim_scope.specs.declared.types.Mode.{Mode}
use Rattle.sim_scope.specs.declared.types.Mode.TheVariants as mode
use Rattle.sim_scope.specs.declared.types.SimType.{SimType}
use Rattle.sim_scope.specs.declared.types.SimType.TheVariants as t
use Rattle.sim_scope.specs.Levels.{has_level}
use Rattle.sim_scope.specs.Operators.{is_reference}
use Rattle.sim_scope.specs.Scopes.{entry_of}
use Rattle.sim_scope.specs.Source.{Source, denoted, level_of, type_at}
use Rattle.sim_tree.specs.Syntax.{Expression, Expressions, NoMore, Then}
use Rattle.sim_tree.specs.Syntax as syntax
use Rattle.sim_code.specs.Formals.{ArrayCopied, Copied, NothingCopied, TextCopied, holder_at, same_holder}
use Rattle.sim_meaning.specs.Closing.{formals_at, is_placed, typed_token}
use Rattle.sim_meaning.specs.Levels.{qualification}
use Rattle.sim_meaning.specs.Pending.{Instances}

-- ---- what an actual parameter is

-- An array alone, with the type of its elements; a procedure alone, with what it gives and how many formal parameters it has, of which nothing is
-- known where it is a virtual or a formal procedure; or any other expression, with its type, and whether it is a variable.
pub data Passed : Type 0 where
  PassedArray : Option SimType → Passed
  PassedProcedure : (result : Option SimType) → (formals : ℕ) → Passed
  PassedValue : (type : Option SimType) → (is_variable : Bool) → Passed

abbrev pub formal_passed : FormalKind → Option SimType → (value : Passed) → Passed
formal_passed shape.Simple type value = value
formal_passed shape.Array type value = PassedArray type
formal_passed shape.Procedure type value = PassedProcedure type 0

abbrev pub entry_passed : Source → DeclNo → Option Entry → (value : Passed) → Passed
entry_passed s d (Some (entry.Array element dimensions)) value = PassedArray (Some element)
entry_passed s d (Some (entry.Procedure result block)) value = PassedProcedure result (length (formals_at s d))
entry_passed s d (Some (entry.Virtual result own)) value = PassedProcedure result 0
entry_passed s d (Some (entry.Formal f)) value = formal_passed f.kind f.ty value
entry_passed s d _ value = value

abbrev pub denoted_passed : Source → Option Denotation → (value : Passed) → Passed
denoted_passed s (Some (denotation.Declared d)) value = entry_passed s d (entry_of s.tables d) value
denoted_passed s _ value = value

abbrev pub value_passed : Source → Expression → Passed
value_passed s e = PassedValue (type_at s (typed_token e)) (is_placed s e)

-- an identifier alone, with a dot or without, may be an array or a procedure
unfoldable pub passed : Source → Expression → Passed
passed s (syntax.Named name NoMore) = denoted_passed s (denoted s name.token.0) (value_passed s (syntax.Named name NoMore))
passed s (syntax.Dot token a name NoMore) = denoted_passed s (denoted s name.token.0) (value_passed s (syntax.Dot token a name NoMore))
passed s e = value_passed s e

abbrev pub all_passed : Source → Expressions → List Passed
all_passed s NoMore = []
all_passed s (Then e es) = passed s e ∷ all_passed s es

-- ---- whether it fits

-- types of values, where the classes of two references pass a test
abbrev pub alike : (classes : Bool) → (formal actual : SimType) → Bool
alike classes t.Integer t.Integer = true
alike classes t.Boolean t.Boolean = true
alike classes t.Character t.Character = true
alike classes t.Text t.Text = true
alike classes (t.Ref c) b = is_reference b && classes
alike classes t.NoneType b = is_reference b && classes
alike classes _ _ = false

-- Of two classes: whether they lie on one prefix chain, where `none`, which has no class, fits each; whether they are the same; and whether the
-- actual one is the formal one, or has it in front.
abbrev pub on_chain : Source → (formal actual : Option ℕ) → Bool
on_chain s f None = true
on_chain s None (Some a) = false
on_chain s (Some f) (Some a) = has_level s.tables a f || has_level s.tables f a

abbrev pub same_class : (formal actual : Option ℕ) → Bool
same_class None None = true
same_class (Some f) (Some a) = a == f
same_class _ _ = false

abbrev pub is_within : Source → (formal actual : Option ℕ) → Bool
is_within s (Some f) (Some a) = has_level s.tables a f
is_within s _ _ = false

-- a value has the type of the formal parameter; the classes of two references lie on one prefix chain
abbrev pub value_fits : Source → (formal actual : Option SimType) → Bool
value_fits s (Some a) (Some b) = alike (on_chain s (qualification s (Some a)) (qualification s (Some b))) a b
value_fits s _ _ = false

-- an array has elements of the type of those of the formal parameter, and of the same class
abbrev pub array_fits : Source → (formal actual : Option SimType) → Bool
array_fits s (Some a) (Some b) = alike (same_class (qualification s (Some a)) (qualification s (Some b))) a b
array_fits s _ _ = false

-- a procedure gives what the formal one gives, or a reference of a class inside; and nothing where that gives nothing
abbrev pub result_fits : Source → (formal actual : Option SimType) → Bool
result_fits s None None = true
result_fits s (Some a) (Some b) = alike (is_within s (qualification s (Some a)) (qualification s (Some b))) a b
result_fits s _ _ = false

-- a procedure alone is a value where it is called without parameters
abbrev pub simple_fits : Source → (type : Option SimType) → Passed → Bool
simple_fits s type (PassedValue given is_variable) = value_fits s type given
simple_fits s type (PassedProcedure result zero) = value_fits s type result
simple_fits s type (PassedProcedure result (suc n)) = false
simple_fits s type (PassedArray element) = false

abbrev pub fits_as : Source → FormalKind → (type : Option SimType) → Passed → Bool
fits_as s shape.Simple type p = simple_fits s type p
fits_as s shape.Array type (PassedArray element) = array_fits s type element
fits_as s shape.Array type p = false
fits_as s shape.Procedure type (PassedProcedure result formals) = result_fits s type result
fits_as s shape.Procedure type p = false

-- whether an actual parameter fits a formal one, but for the instances to which their classes belong
unfoldable pub fits : Source → Formal → Passed → Bool
fits s f p = fits_as s f.kind f.ty p

abbrev pub all_fit : Source → List Formal → List Passed → Bool
all_fit s (f ∷ fs) (p ∷ ps) = fits s f p && all_fit s fs ps
all_fit s _ _ = true

-- ---- the instances of classes

abbrev pub type_passed : Passed → Option SimType
type_passed (PassedArray element) = element
type_passed (PassedProcedure result formals) = result
type_passed (PassedValue type is_variable) = type

-- The instance to which a class belongs, seen from an instance: it holds the declaration of the class.
abbrev pub holder_of : Source → Instances → (class : Option ℕ) → (from : ℕ) → Option ℕ
holder_of s m None j = None
holder_of s m (Some k) j = holder_at m (level_of s k) j

-- Whether the classes of two references belong to the same instance: that of the formal parameter as it is seen from where the procedure is declared,
-- and that of the actual one as it is seen from where the call stands. `none` has no class.
abbrev pub holders_agree : Source → Instances → (parent home : ℕ) → (formal actual : Option ℕ) → Option Bool
holders_agree s m parent home f None = Some true
holders_agree s m parent home f (Some a) = same_holder (holder_of s m f parent) (holder_of s m (Some a) home)

abbrev pub if_reference : Option SimType → Option Bool → Option Bool
if_reference (Some (t.Ref c)) agree = agree
if_reference (Some t.NoneType) agree = agree
if_reference _ agree = Some true

unfoldable pub agrees : Source → Instances → (parent home : ℕ) → Formal → Passed → Option Bool
agrees s m parent home f p = if_reference f.ty (holders_agree s m parent home (qualification s f.ty) (qualification s (type_passed p)))

-- ---- what is copied

abbrev pub copied_as : Mode → FormalKind → Option SimType → Copied
copied_as mode.ByValue shape.Array type = ArrayCopied
copied_as mode.ByValue shape.Simple (Some t.Text) = TextCopied
copied_as mode kind type = NothingCopied

unfoldable pub copied_for : Formal → Copied
copied_for f = copied_as f.mode f.kind f.ty
