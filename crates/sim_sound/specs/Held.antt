-- What is held by cells and named by expressions, and from where a declaration is seen.
use Rattle.std.specs.Prelude.{◌≡◌, ℕ, Bool, true, false, List, ◌∷◌, Option, Some, None}
use Rattle.sim_base.specs.declared.numbering.DeclNo.{DeclNo}
use Rattle.sim_scope.specs.declared.types.Entry.{Entry}
use Rattle.sim_scope.specs.declared.types.Entry.TheVariants as entry
use Rattle.sim_scope.specs.declared.types.FormalKind.{FormalKind}
use Rattle.sim_scope.specs.declared.types.FormalKind.TheVariants as shape
use Rattle.sim_scope.specs.declared.types.Mode.{Mode}
use Rattle.sim_scope.specs.declared.types.Mode.TheVariants as mode
use Rattle.sim_scope.specs.declared.types.SimType.{SimType}
use Rattle.sim_scope.specs.declared.types.SimType.TheVariants as t
use Rattle.sim_scope.specs.Access.{encloser}
use Rattle.sim_scope.specs.Levels.{base, has_level, owner_of_level}
use Rattle.sim_scope.specs.Scopes.{entry_of, result_of}
use Rattle.sim_scope.specs.Source.{Source, block_around, block_of}
use Rattle.sim_scope.specs.Tables.{Tables}
use Rattle.sim_values.specs.declared.kind.Kind.{Kind}
use Rattle.sim_values.specs.declared.kind.Kind.TheVariants as kind
use Rattle.sim_meaning.specs.Attributes.{is_connection}
use Rattle.sim_meaning.specs.Levels.{has_levels, is_class, qualification}
use Rattle.sim_meaning.specs.Pending.{Connection, Declared, Key, Origin, Result}
use Rattle.sim_meaning.specs.Texts.{kind_of_type, text}

-- ---- what is held

-- What is held by a cell or named by an expression: a plain value of a kind, which of references is any reference; a reference to an object of
-- a class, by the class's text, or to none; an array of such; a procedure, whose calls give what a type says; an actual parameter by name, which
-- means values of a kind, an array or a procedure.
pub data Holds : Type 0 where
  Simply : Kind → Holds
  Refers : (class : ℕ) → Holds
  ArrayOf : Holds → Holds
  Procedure : (result : Option SimType) → Holds
  ByName : Holds → Holds

-- a reference with this qualification
abbrev pub reference_to : (class : Option ℕ) → Holds
reference_to None = Simply kind.Reference
reference_to (Some k) = Refers k

-- what a variable of a type holds
abbrev pub held_by : Source → SimType → Holds
held_by s (t.Ref d) = reference_to (qualification s (Some (t.Ref d)))
held_by s type = Simply (kind_of_type type)

-- what a call gives that has a result of this type, or none
abbrev pub given_by : Source → (result : Option SimType) → Option Holds
given_by s None = None
given_by s (Some type) = Some (held_by s type)

-- what is held is a value of a kind
abbrev pub IsOfKind : Holds → Kind → Type 0
IsOfKind (Simply k) wanted = k ≡ wanted
IsOfKind (Refers class) wanted = kind.Reference ≡ wanted
IsOfKind (ArrayOf h) wanted = ⊥
IsOfKind (Procedure result) wanted = ⊥
IsOfKind (ByName h) wanted = ⊥

-- What holds the first may stand where the second is wanted: a reference to an object of a class is one to an object of each of the class's
-- levels, and is a reference.
abbrev pub ValueFits : Source → (given wanted : Holds) → Type 0
ValueFits s (Simply k) (Simply k') = k ≡ k'
ValueFits s (Refers c) (Refers c') = has_level s.tables c c' ≡ true
ValueFits s (Refers c) (Simply k) = kind.Reference ≡ k
ValueFits s _ _ = ⊥

-- and so is a procedure that gives such a reference
abbrev pub ResultFits : Source → (given wanted : Option Holds) → Type 0
ResultFits s None None = Unit {0}
ResultFits s (Some h) (Some h') = ValueFits s h h'
ResultFits s _ _ = ⊥

abbrev pub Fits : Source → (given wanted : Holds) → Type 0
Fits s (ArrayOf h) (ArrayOf h') = h ≡ h'
Fits s (Procedure r) (Procedure r') = ResultFits s (given_by s r) (given_by s r')
Fits s h h' = ValueFits s h h'

abbrev pub FitsIn : Source → (given wanted : Option Holds) → Type 0
FitsIn s None None = Unit {0}
FitsIn s (Some h) (Some h') = Fits s h h'
FitsIn s _ _ = ⊥

-- ---- cells

-- what a formal parameter of a kind means
abbrev pub formal_means : Source → FormalKind → Option SimType → Option Holds
formal_means s shape.Simple (Some type) = Some (held_by s type)
formal_means s shape.Array (Some type) = Some (ArrayOf (held_by s type))
formal_means s shape.Procedure type = Some (Procedure type)
formal_means s kind None = None

-- and what its actual one means, which is any value of the kind
abbrev pub actual_means : Source → FormalKind → Option SimType → Option Holds
actual_means s shape.Simple (Some type) = Some (Simply (kind_of_type type))
actual_means s kind type = formal_means s kind type

abbrev pub named : Option Holds → Option Holds
named None = None
named (Some h) = Some (ByName h)

-- what its cell holds
abbrev pub formal_holds : Source → Mode → FormalKind → Option SimType → Option Holds
formal_holds s mode.ByValue kind type = formal_means s kind type
formal_holds s mode.ByReference kind type = formal_means s kind type
formal_holds s mode.ByName kind type = named (actual_means s kind type)

-- a constant of a class is read in its cell from outside, and so has one in a prefixed block
abbrev pub constant_holds : (in_class : Bool) → SimType → Option Holds
constant_holds true type = Some (Simply (kind_of_type type))
constant_holds false type = None

-- what the cell of a declaration holds, if it has a cell that is looked at
abbrev pub entry_holds : Source → (in_class : Bool) → Option Entry → Option Holds
entry_holds s c (Some (entry.Variable type)) = Some (held_by s type)
entry_holds s c (Some (entry.Constant type)) = constant_holds c type
entry_holds s c (Some (entry.Array element dimensions)) = Some (ArrayOf (held_by s element))
entry_holds s c (Some (entry.Formal f)) = formal_holds s f.mode f.kind f.ty
entry_holds s c _ = None

-- What the identifier of a declaration names: of a parameter by name what the actual one means.
abbrev pub entry_names : Source → Option Entry → Option Holds
entry_names s (Some (entry.Formal f)) = formal_means s f.kind f.ty
entry_names s e = entry_holds s false e

abbrev pub declared_holds : Source → (text : ℕ) → DeclNo → Option Holds
declared_holds s t d = entry_holds s (has_levels (text s t)) (entry_of s.tables d)

-- the type of the result of the procedure to which a text belongs
abbrev pub result_declared : Source → Option DeclNo → Option SimType
result_declared s None = None
result_declared s (Some d) = result_of s.tables d

abbrev pub result_type : Source → (text : ℕ) → Option SimType
result_type s k = result_declared s (owner_of_level s.tables (Some k))

abbrev pub result_holds : Source → (text : ℕ) → Option Holds
result_holds s k = given_by s (result_type s k)

-- a connection holds a reference with the qualification of the class that is connected
abbrev pub connection_holds : Source → (connection : Option ℕ) → Option Holds
connection_holds s None = None
connection_holds s (Some k) = Some (reference_to (base s.tables k))

-- what is held by a cell of an instance of a text
abbrev pub key_holds : Source → (text : ℕ) → Key → Option Holds
key_holds s t (Declared d) = declared_holds s t (record { 0 = d })
key_holds s t Result = result_holds s t
key_holds s t (Connection token) = connection_holds s (block_around s token)
key_holds s t Origin = Some (Simply kind.Integer)

-- ---- from where something is seen

pub data Among (d : DeclNo) : List DeclNo → Type 0 where
  first : {ds : List DeclNo} → Among d (d ∷ ds)
  later : {e : DeclNo} {ds : List DeclNo} → Among d ds → Among d (e ∷ ds)

-- a text is another one, or stands somewhere in it
pub data Around (tables : Tables) : (inner outer : ℕ) → Type 0 where
  itself : {t : ℕ} → Around tables t t
  further : {t u k : ℕ} → encloser tables t ≡ Some u → Around tables u k → Around tables t k

-- What stands in a text is seen from another text: the text, or one around it that is no connection, has it among its levels.
pub record Seen (s : Source) (from declared : ℕ) : Type 0 where
  pub found : ℕ
  pub around : Around s.tables from found
  pub instance : is_connection (text s found) ≡ false
  pub level : has_level s.tables found declared ≡ true

-- It is seen through a connection around: the class that is connected there has it among its levels.
pub record Connected (s : Source) (from connection declared : ℕ) : Type 0 where
  pub around : Around s.tables from connection
  pub is : is_connection (text s connection) ≡ true
  pub class : ℕ
  pub connects : base s.tables connection ≡ Some class
  pub is_class : is_class (text s class) ≡ true
  pub level : has_level s.tables class declared ≡ true

-- Where an expression stands: in a text, or in a bound of an array that a text declares.
pub data Place : Type 0 where
  In : (text : ℕ) → Place
  InBound : (text : ℕ) → Place

-- the text to which it belongs
abbrev pub text_of : Place → ℕ
text_of (In t) = t
text_of (InBound t) = t

abbrev pub IsFormal : Option Entry → Type 0
IsFormal (Some (entry.Formal f)) = Unit {0}
IsFormal e = ⊥

abbrev pub IsFixed : Option Entry → Type 0
IsFixed (Some (entry.Formal f)) = Unit {0}
IsFixed (Some (entry.Constant type)) = Unit {0}
IsFixed e = ⊥

-- A bound sees of its own text, and of the levels of that, formal parameters and constants alone; and what is seen from the text around.
pub data SeenInBound (s : Source) (t : ℕ) (d : DeclNo) : Type 0 where
  own_fixed : IsFixed (entry_of s.tables d) → has_level s.tables t (block_of s d) ≡ true → SeenInBound s t d
  from_around : {u : ℕ} → encloser s.tables t ≡ Some u → Seen s u (block_of s d) → SeenInBound s t d

abbrev pub Sees : Source → Place → DeclNo → Type 0
Sees s (In t) d = Seen s t (block_of s d)
Sees s (InBound t) d = SeenInBound s t d

-- what stands in a text, or in one around it
pub record ConnectedInBound (s : Source) (t connection declared : ℕ) : Type 0 where
  pub around : ℕ
  pub stands_in : encloser s.tables t ≡ Some around
  pub seen : Connected s around connection declared

abbrev pub SeesConnected : Source → Place → (connection : ℕ) → DeclNo → Type 0
SeesConnected s (In t) k d = Connected s t k (block_of s d)
SeesConnected s (InBound t) k d = ConnectedInBound s t k (block_of s d)

-- `this` means a text around; in a bound it is not that of the array
pub record AroundBound (s : Source) (t outer : ℕ) : Type 0 where
  pub next : ℕ
  pub stands_in : encloser s.tables t ≡ Some next
  pub around : Around s.tables next outer

abbrev pub StandsAround : Source → Place → (outer : ℕ) → Type 0
StandsAround s (In t) k = Around s.tables t k
StandsAround s (InBound t) k = AroundBound s t k
