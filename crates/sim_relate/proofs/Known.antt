-- Values in hand, instances and their frames: what is known of both sides.
use Rattle.std.proofs.Common.{◌≡◌, ◌⊎◌, ◌+◌, ◌<◌, ◌≤◌, ℕ, suc, zero, Bool, true, false, List, [], ◌∷◌, length, Option, Some, None, refl, sym, ap, subst, ◌∙◌, arith}
use Rattle.std.specs.Prelude.{⊤, slice_get}
use Rattle.sim_scope.specs.Access.{encloser}
use Rattle.sim_scope.specs.Scopes.{entry_of}
use Rattle.sim_scope.specs.Source.{Source, level_of}
use Rattle.sim_tree.specs.declared.stmt.TypeName.{TypeName}
use Rattle.sim_tree.specs.Syntax.{Expression}
use Rattle.sim_tree.specs.Syntax as syntax
use Rattle.sim_values.specs.Plain.{Object, Plain, MainOf}
use Rattle.sim_values.specs.Standard.{row_of}
use Rattle.sim_code.specs.declared.instr.Instr.TheVariants as i
use Rattle.sim_code.specs.declared.stage.Stage.{Stage}
use Rattle.sim_code.specs.declared.stage.Stage.TheVariants as stage
use Rattle.sim_code.specs.Code.{BlockOf, CodeOf}
use Rattle.sim_code.specs.Instances.{CellPlace, ElementPlace, ImagePlace, Instance, Memory, at_level, found_at}
use Rattle.sim_code.specs.Instances as instances
use Rattle.sim_code.specs.Machine.{Frames, Value, Cells}
use Rattle.sim_code.specs.Machine as machine
use Rattle.sim_code.proofs.Lifts.{Both}
use Rattle.sim_meaning.specs.Pending.{Actual, AttributeOf, CallOf, CheckedOf, Connection, Declared, ForParameter, ForPlace, ForValue, Held, Instances, Key, NamedOf, PlaceOf, QualifiedElementOf, QualifiedPlaceOf, RemoteCallOf, SetOf, SimulationOf, StandardOf, Target, Term, ToCell, ToPlace, ToTextAt, ToTextOf, TransferOf, NoMeaning, Val}
use Rattle.sim_meaning.specs.Pending as meaning
use Rattle.sim_meaning.specs.Closing.{is_placed}
use Rattle.sim_meaning.specs.Levels.{is_class, is_process_class, is_standard_text, levels_of, text_at}
use Rattle.sim_meaning.specs.Meaning.{has_result}
use Rattle.sim_meaning.specs.Objects.{constant_cell}
use Rattle.sim_meaning.specs.Statements.{has_value}
use Rattle.sim_meaning.specs.Texts.{ProcedureText, Text, constant_of, text}
use Rattle.codegen.specs.CodeStm.{is_class_text}
use Rattle.codegen_expr.specs.CodeExpr.{ExprAt, GivenBy, ObjectAt, PlaceAt, ProcedureAt, class_given}
use Rattle.codegen_expr.specs.Sites.{HasCell, Is, LevelOf, Site, block_number, class_number, expression_temps, frame_text, own_end, slot_of}
pub use Rattle.codegen_expr.specs.Sites.{is_constant}

-- ---- values

-- What is known of a value in hand: that it is a link to an instance of a text, or the object as such a link, or the link to just this instance;
-- that it is where a cell lies, or where a reference of a class lies, or a constant of an object; or that it is what a parameter by name gave, a
-- value or where such lies; or that it is none of these.
pub data Kind : Type 0 where
  Any : Kind
  Located : Kind
  LinkTo : (text : ℕ) → Kind
  OwnerOf : (text : ℕ) → Kind
  LinkOf : (instance : ℕ) → Kind
  Refers : (class : ℕ) → Kind
  FixedOf : (declaration : ℕ) → Kind
  Named : Kind

-- a link to an instance of a text, for a call
abbrev pub IsLink : Kind → (text : ℕ) → Type 0
IsLink (LinkTo u) text = u ≡ text
IsLink (OwnerOf u) text = u ≡ text
IsLink _ text = ⊥

-- so many values more
abbrev pub anys : ℕ → List Kind → List Kind
anys zero ks = ks
anys (suc n) ks = Any ∷ anys n ks

-- one value more, or none
abbrev pub given : Bool → List Kind → List Kind
given true ks = Any ∷ ks
given false ks = ks

-- operands that may be addresses: so many values of the first kinds, before others
abbrev pub IsRead : Kind → Type 0
IsRead Any = ⊤
IsRead Located = ⊤
IsRead Named = ⊤
IsRead _ = ⊥

abbrev pub AllRead : ℕ → List Kind → List Kind → Type 0
AllRead zero ks left = ks ≡ left
AllRead (suc n) [] left = ⊥
AllRead (suc n) (k ∷ ks) left = IsRead k × AllRead n ks left

-- Whether the evaluation of a tree leaves a value that may lie in a cell: a procedure or a standard name may have no result, a transfer of
-- control has none, and where a cell lies is no such value.
abbrev pub text_gives : Option Text → Bool
text_gives (Some (ProcedureText result h a)) = has_result result
text_gives _ = false

abbrev pub gives : Source → Term → Bool
gives s (CallOf j k ts line) = text_gives (text s k)
gives s (RemoteCallOf a k ts line) = text_gives (text s k)
gives s (StandardOf name ts line) = has_value (row_of name).result
gives s (SetOf name ts) = has_value (row_of name).result
gives s (SimulationOf j name ts line) = has_value (row_of name).result
gives s (PlaceOf j key) = false
gives s (AttributeOf text key class line a) = false
gives s (QualifiedPlaceOf j key k) = false
gives s (QualifiedElementOf line k a ts) = false
gives s (TransferOf t line a) = false
gives s (CheckedOf a leaves home es line) = leaves
gives s (NamedOf j key (ForPlace value_too line)) = false
gives s _ = true

-- whether a cell is that of a constant
abbrev pub is_fixed : Source → Key → Bool
is_fixed s (Declared d) = is_constant (entry_of s.tables (record { 0 = d }))
is_fixed s _ = false

abbrev pub kind_unless : (fixed : Bool) → (declaration : ℕ) → Kind
kind_unless true d = FixedOf d
kind_unless false d = Located

abbrev pub attribute_kind : Source → Key → (class : Option ℕ) → Kind
attribute_kind s key (Some k) = Refers k
attribute_kind s (Declared d) None = kind_unless (is_fixed s (Declared d)) d
attribute_kind s key None = Located

-- where a variable lies that a tree tells
abbrev pub place_kind : Source → Term → Option Kind
place_kind s (PlaceOf j key) = Some Located
place_kind s (AttributeOf text key class line a) = Some (attribute_kind s key class)
place_kind s (QualifiedPlaceOf j key k) = Some (Refers k)
place_kind s (QualifiedElementOf line k a ts) = Some (Refers k)
place_kind s (NamedOf j key (ForPlace value_too line)) = Some Named
place_kind s _ = None

abbrev pub with_kind : Bool → Option Kind → List Kind → List Kind
with_kind g None ks = given g ks
with_kind g (Some k) ks = k ∷ ks

-- the values in hand behind its evaluation, and whether it can be an operand of a standard name
abbrev pub leaving : Source → Term → List Kind → List Kind
leaving s t ks = with_kind (gives s t) (place_kind s t) ks

-- of what has no meaning nothing is known
abbrev pub LeavesIs : Source → Term → (before behind : List Kind) → Type 0
LeavesIs s NoMeaning before behind = ⊤
LeavesIs s t before behind = behind ≡ leaving s t before

pub leaves_is : (s : Source) (t : Term) (before : List Kind) → LeavesIs s t before (leaving s t before)
leaves_is s NoMeaning before = tt
leaves_is s t before = refl

pub leaves_as : (s : Source) (t : Term) (before behind : List Kind) → behind ≡ leaving s t before → LeavesIs s t before behind
leaves_as s NoMeaning before behind e = tt
leaves_as s t before behind e = e

abbrev pub is_read : Kind → Bool
is_read Any = true
is_read Located = true
is_read Named = true
is_read _ = false

abbrev pub reads_kind : Bool → Option Kind → Bool
reads_kind g None = g
reads_kind g (Some k) = is_read k

abbrev pub reads : Source → Term → Bool
reads s t = reads_kind (gives s t) (place_kind s t)

-- what an operand leaves, and what an operand of a standard name does
pub leaves_any : (s : Source) (x : Term) (ks : List Kind) → gives s x ≡ true → LeavesIs s x ks (Any ∷ ks)
leaves_any s (PlaceOf j key) ks e = absurd (cc)
leaves_any s (AttributeOf text key class line a) ks e = absurd (cc)
leaves_any s (QualifiedPlaceOf j key k) ks e = absurd (cc)
leaves_any s (QualifiedElementOf line k a ts) ks e = absurd (cc)
leaves_any s (NamedOf j key (ForPlace value_too line)) ks e = absurd (cc)
leaves_any s (NamedOf j key (ForValue class line)) ks e = refl
leaves_any s (NamedOf j key (ForParameter number line)) ks e = refl
leaves_any s NoMeaning ks e = tt
leaves_any s x ks e = ap (λ g. given g ks) (sym e)

pub read_kind : (k : Kind) → is_read k ≡ true → IsRead k
read_kind Any e = tt
read_kind Located e = tt
read_kind Named e = tt
read_kind (LinkTo text) e = absurd (cc)
read_kind (OwnerOf text) e = absurd (cc)
read_kind (LinkOf j) e = absurd (cc)
read_kind (Refers class) e = absurd (cc)
read_kind (FixedOf d) e = absurd (cc)

pub leaves_read : (s : Source) (x : Term) (ks : List Kind) → reads s x ≡ true → (k : Kind) × IsRead k × LeavesIs s x ks (k ∷ ks)
leaves_read s (PlaceOf j key) ks e = (Located, tt, refl)
leaves_read s (AttributeOf text key class line a) ks e = (attribute_kind s key class, read_kind (attribute_kind s key class) e, refl)
leaves_read s (QualifiedPlaceOf j key k) ks e = absurd (cc)
leaves_read s (QualifiedElementOf line k a ts) ks e = absurd (cc)
leaves_read s (NamedOf j key (ForPlace value_too line)) ks e = (Named, tt, refl)
leaves_read s (NamedOf j key (ForValue class line)) ks e = (Any, tt, refl)
leaves_read s (NamedOf j key (ForParameter number line)) ks e = (Any, tt, refl)
leaves_read s NoMeaning ks e = (Any, tt, tt)
leaves_read s x ks e = (Any, tt, ap (λ g. given g ks) (sym e))

-- the kind of what is left, where that can be read
abbrev pub left_kind : Option Kind → Kind
left_kind None = Any
left_kind (Some k) = k

pub kind_read : (s : Source) (x : Term) → reads s x ≡ true → IsRead (left_kind (place_kind s x))
kind_read s x e = by_parts (gives s x) (place_kind s x) e
  where
    by_parts : (g : Bool) (o : Option Kind) → reads_kind g o ≡ true → IsRead (left_kind o)
    by_parts g None e = tt
    by_parts g (Some k) e = read_kind k e

pub leaves_kind : (s : Source) (x : Term) (ks : List Kind) → reads s x ≡ true → LeavesIs s x ks (left_kind (place_kind s x) ∷ ks)
leaves_kind s x ks e = leaves_as s x ks (left_kind (place_kind s x) ∷ ks) (by_parts (gives s x) (place_kind s x) e)
  where
    by_parts : (g : Bool) (o : Option Kind) → reads_kind g o ≡ true → left_kind o ∷ ks ≡ with_kind g o ks
    by_parts true None e = refl
    by_parts false None e = absurd (cc)
    by_parts g (Some k) e = refl

pub read_given : (s : Source) (x : Term) → gives s x ≡ true → reads s x ≡ true
read_given s (PlaceOf j key) e = absurd (cc)
read_given s (AttributeOf text key class line a) e = absurd (cc)
read_given s (QualifiedPlaceOf j key k) e = absurd (cc)
read_given s (QualifiedElementOf line k a ts) e = absurd (cc)
read_given s (NamedOf j key (ForPlace value_too line)) e = refl
read_given s (NamedOf j key (ForValue class line)) e = refl
read_given s (NamedOf j key (ForParameter number line)) e = refl
read_given s x e = e

-- a reference to an object or a main program
abbrev pub IsReference : Plain → Type 0
IsReference (Object j) = ⊤
IsReference (MainOf b) = ⊤
IsReference _ = ⊥

-- values in hand of these kinds and values on the stack, one by one
pub data StackAt {V X : Type 0} (W : Kind → V → X → Type 0) : List Kind → List V → List X → Type 0 where
  none_at : StackAt W [] [] []
  more_at : {k : Kind} {ks : List Kind} {v : V} {vals : List V} {x : X} {stack : List X} → W k v x → StackAt W ks vals stack → StackAt W (k ∷ ks) (v ∷ vals) (x ∷ stack)

-- cells of connections are made when an object is connected; all others are there from the entry on
abbrev pub is_declared : Key → Bool
is_declared (Connection token) = false
is_declared _ = true

-- ---- instances

-- What is found by a level from an instance outward, given back or not.
abbrev pub seen_within : {C A : Type 0} → ℕ → Memory C A → (level j : ℕ) → Option ℕ
seen_within zero m level j = None
seen_within (suc n) m level j = found_at level (seen_within n m level) j (slice_get m.instances j)

unfoldable pub seen_at : {C A : Type 0} → Memory C A → (level j : ℕ) → Option ℕ
seen_at m level j = seen_within (suc j) m level j

-- an encloser is there, and so is its own, and so on
pub data Rooted (m : Instances) : (encloser : Option ℕ) → Type 0 where
  unenclosed : Rooted m None
  enclosed : {e : ℕ} {x : Instance (List Held)} → slice_get m.instances e ≡ Some x → Rooted m x.encloser → Rooted m (Some e)

-- An instance stands for a text: the text in whose frames lies what that text has is one of the levels of its own, and it has its level; and
-- its encloser, which was entered before it, stands for the text around that. Whether it was given back is not asked: so it stands for the
-- text in all later stores.
pub data Stands (s : Source) (m : Instances) : (instance text : ℕ) → Type 0 where
  outermost : {j t : ℕ} {x : Instance (List Held)} → slice_get m.instances j ≡ Some x → LevelOf s.tables x.text (frame_text s t) → x.level ≡ level_of s t → Rooted m x.encloser → encloser s.tables (frame_text s t) ≡ None → Stands s m j t
  inside : {j t e u : ℕ} {x : Instance (List Held)} → slice_get m.instances j ≡ Some x → LevelOf s.tables x.text (frame_text s t) → x.level ≡ level_of s t → x.encloser ≡ Some e → encloser s.tables (frame_text s t) ≡ Some u → e < j → Stands s m e u → Stands s m j t

-- two texts with the same frames
pub record SameFrame (s : Source) (v t : ℕ) : Type 0 where
  pub frame : frame_text s v ≡ frame_text s t
  pub level : level_of s v ≡ level_of s t

-- what is seen from an instance outward: the instance in which a declaration of a text lies
pub record Reaches (s : Source) (m : Instances) (from text instance : ℕ) : Type 0 where
  pub found : seen_at m (level_of s text) from ≡ Some instance
  pub stands : Stands s m instance text

-- and code finds it
abbrev pub Finds : Source → Instances → (from text : ℕ) → Type 0
Finds s m from text = (j : ℕ) × Reaches s m from text j × (at_level m (level_of s text) from ≡ Some j)

-- ---- actual parameters by name

-- the code of an actual parameter: a procedure where it is passed as one; or else where a variable lies, or a value
abbrev pub ActualCode : Source → CodeOf → Site → (as_procedure : Bool) → Expression → ℕ → ℕ → Type 0
ActualCode s code site as_procedure e p q = GivenBy as_procedure (ProcedureAt s code site 0 e) (ObjectAt (is_placed s e) (PlaceAt s code site 0 (class_given s code e) e) (ExprAt s code site 0 e)) p q

-- A thunk of this number evaluates an actual parameter for its home, which stands for the text in which that is written.
pub record ThunkIs (s : Source) (code : CodeOf) (m : Instances) (home : ℕ) (as_procedure : Bool) (e : Expression) (number : ℕ) : Type 0 where
  pub text : ℕ
  pub block : BlockOf
  pub room : ℕ
  pub used : ℕ
  pub entry : ℕ
  pub done : ℕ
  pub last : ℕ
  pub stands : Stands s m home text
  pub found : slice_get code.blocks (block_number s (frame_text s text)) ≡ Some block
  pub there : slice_get code.thunks number ≡ Some (record { entry = entry; room = room })
  pub within : entry < length code.instrs
  pub gives : ActualCode s code (record { text = text; room = room; temps = own_end s code (frame_text s text); used = used; size = length block.types; thunk = Some number }) as_procedure e entry done
  pub end : Is code i.EndThunk done last

-- ---- values in cells

-- a procedure as a value, with the instance in which it is declared
pub record ProcedureHeld (s : Source) (m : Instances) (k instance : ℕ) : Type 0 where
  pub around : ℕ
  pub result : Option TypeName
  pub heading : syntax.Heading
  pub body : syntax.Statement
  pub is : text s k ≡ Some (ProcedureText result heading body)
  pub stands_in : encloser s.tables k ≡ Some around
  pub stands : Stands s m instance around

pub data ValAt (s : Source) (code : CodeOf) (m : Instances) : Val → Value → Type 0 where
  plain_at : {p : Plain} → ValAt s code m (meaning.Of p) (machine.Of p)
  link_at : {j : ℕ} → ValAt s code m (meaning.Link j) (machine.Link j)
  array_at : {a : ℕ} → ValAt s code m (meaning.ArrayValue a) (machine.ArrayValue a)
  element_at : {a n : ℕ} → ValAt s code m (meaning.Address (ElementPlace a n None)) (machine.Address (ElementPlace a n 0))
  image_at : {n : ℕ} → ValAt s code m (meaning.Address (ImagePlace n)) (machine.Address (ImagePlace n))
  procedure_at : {k j : ℕ} → ProcedureHeld s m k j → ValAt s code m (meaning.ProcedureValue k j) (machine.ProcedureValue (block_number s k) j)
  actual_at : {home number : ℕ} {as_procedure : Bool} {e : Expression} → ThunkIs s code m home as_procedure e number → ValAt s code m (Actual home as_procedure e) (machine.ThunkValue number home)

-- A cell of an instance, and its slot in the frame: that of a constant is never looked at, and has the constant's value if it has one.
abbrev pub fixed_value : Source → Key → Option Val
fixed_value s (Declared d) = constant_cell (constant_of s (record { 0 = d }))
fixed_value s _ = None

abbrev pub SlotAt : Source → CodeOf → Instances → (fixed : Bool) → Key → Option Val → Option Value → Type 0
SlotAt s code m true key v c = (v ≡ None) ⊎ (v ≡ fixed_value s key)
SlotAt s code m false key v c = Both (ValAt s code m) v c

-- ---- values in hand

-- a link in hand
pub record LinkIs (s : Source) (m : Instances) (text : ℕ) (v : Val) (x : Value) : Type 0 where
  pub instance : ℕ
  pub is_val : v ≡ meaning.Link instance
  pub is_value : x ≡ machine.Link instance
  pub stands : Stands s m instance text

-- an object in hand as such a link
pub record OwnerIs (s : Source) (m : Instances) (text : ℕ) (v : Val) (x : Value) : Type 0 where
  pub instance : ℕ
  pub is_val : v ≡ meaning.Link instance
  pub is_value : x ≡ machine.Of (Object instance)
  pub stands : Stands s m instance text

-- where a cell lies that is no constant's
pub record PlaceIs (s : Source) (code : CodeOf) (m : Instances) (v : Val) (x : Value) : Type 0 where
  pub instance : ℕ
  pub text : ℕ
  pub key : Key
  pub is_val : v ≡ meaning.Address (CellPlace instance key None)
  pub is_value : x ≡ machine.Address (CellPlace instance (slot_of s code text key) 0)
  pub stands : Stands s m instance text
  pub own : frame_text s text ≡ text
  pub has : HasCell s text key
  pub varies : is_fixed s key ≡ false
  pub declared : is_declared key ≡ true

-- where a reference of a class lies
pub data RefersAt (s : Source) (code : CodeOf) (m : Instances) (k : ℕ) : Val → Value → Type 0 where
  refers_cell : {j t : ℕ} {key : Key} → Stands s m j t → frame_text s t ≡ t → HasCell s t key → is_fixed s key ≡ false → is_declared key ≡ true → RefersAt s code m k (meaning.Address (CellPlace j key (Some k))) (machine.Address (CellPlace j (slot_of s code t key) (class_number s code k)))
  refers_element : {a n : ℕ} → RefersAt s code m k (meaning.Address (ElementPlace a n (Some k))) (machine.Address (ElementPlace a n (class_number s code k)))

-- a constant of an object: the object itself
pub record FixedIs (s : Source) (m : Instances) (d : ℕ) (v : Val) (x : Value) : Type 0 where
  pub instance : ℕ
  pub text : ℕ
  pub is_val : v ≡ meaning.Address (CellPlace instance (Declared d) None)
  pub is_value : x ≡ machine.Of (Object instance)
  pub stands : Stands s m instance text
  pub own : frame_text s text ≡ text
  pub has : HasCell s text (Declared d)
  pub fixed : is_fixed s (Declared d) ≡ true

-- What a parameter by name gave: a value, or where a cell lies, or where a reference lies.
pub data NamedAt (s : Source) (code : CodeOf) (m : Instances) : Val → Value → Type 0 where
  named_value : {v : Val} {x : Value} → ValAt s code m v x → NamedAt s code m v x
  named_place : {v : Val} {x : Value} → PlaceIs s code m v x → NamedAt s code m v x
  named_reference : {v : Val} {x : Value} (k : ℕ) → is_class (text s k) ≡ true → RefersAt s code m k v x → NamedAt s code m v x

-- what may be given so
abbrev pub IsGiven : Source → Kind → Type 0
IsGiven s Any = ⊤
IsGiven s Located = ⊤
IsGiven s Named = ⊤
IsGiven s (Refers k) = is_class (text s k) ≡ true
IsGiven s _ = ⊥

abbrev pub HandAt : Source → CodeOf → Instances → Kind → Val → Value → Type 0
HandAt s code m Any v x = ValAt s code m v x
HandAt s code m Located v x = PlaceIs s code m v x
HandAt s code m (LinkTo text) v x = LinkIs s m text v x
HandAt s code m (OwnerOf text) v x = OwnerIs s m text v x
HandAt s code m (LinkOf j) v x = (v ≡ meaning.Link j) × (x ≡ machine.Link j)
HandAt s code m (Refers k) v x = RefersAt s code m k v x
HandAt s code m (FixedOf d) v x = FixedIs s m d v x
HandAt s code m Named v x = NamedAt s code m v x

pub hand_given : (s : Source) (code : CodeOf) (m : Instances) (k : Kind) (v : Val) (x : Value) → IsGiven s k → HandAt s code m k v x → NamedAt s code m v x
hand_given s code m Any v x g h = named_value h
hand_given s code m Located v x g h = named_place h
hand_given s code m Named v x g h = h
hand_given s code m (Refers k) v x g h = named_reference k g h
hand_given s code m (LinkTo t) v x g h = absurd g
hand_given s code m (OwnerOf t) v x g h = absurd g
hand_given s code m (LinkOf j) v x g h = absurd g
hand_given s code m (FixedOf d) v x g h = absurd g

-- what the later of two stores keeps of the instances: their texts, what they stand for, and what is found from them outward
pub record Later (s : Source) (m m' : Instances) : Type 0 where
  pub texts : (j own : ℕ) → text_at m j ≡ Some own → text_at m' j ≡ Some own
  pub stands : (j t : ℕ) → Stands s m j t → Stands s m' j t
  pub same : (level j t : ℕ) → Stands s m j t → seen_at m' level j ≡ seen_at m level j

-- what is in a cell of a frame, given back or not
abbrev pub placed_in : Option (Instance Cells) → ℕ → Option Value
placed_in x c = machine.value_in (instances.cells_in x) c

abbrev pub placed : Frames → (frame cell : ℕ) → Option Value
placed fs j c = placed_in (slice_get fs.instances j) c

-- a temp of the level of a text, of which this is the block: it stands behind the own part of the text
pub record InTemps (s : Source) (code : CodeOf) (text temp : ℕ) (b : BlockOf) : Type 0 where
  pub behind : own_end s code (frame_text s text) ≤ temp
  pub within : temp < length b.types

-- a temp of the statements there: it stands behind those of expressions
pub record IsTemp (s : Source) (code : CodeOf) (text temp : ℕ) (b : BlockOf) : Type 0 where
  pub behind : own_end s code (frame_text s text) + expression_temps ≤ temp
  pub within : temp < length b.types

-- what it keeps of the frames of some instances: the temps of the statements of all levels
pub record Keeps (s : Source) (code : CodeOf) (m : Instances) (fs fs' : Frames) (Of : ℕ → Type 0) : Type 0 where
  pub temps : (j t c : ℕ) (b : BlockOf) → Of j → Stands s m j t → slice_get code.blocks (block_number s (frame_text s t)) ≡ Some b → IsTemp s code t c b → placed fs' j c ≡ placed fs j c

-- What an activation runs: the text of its instance, the thunk if it is one, the room that its operand stack has, how much of that the code there
-- takes, where the temps of expressions begin there, the block of the level in which control is, and the stage at which it is.
pub record Runs : Type 0 where
  pub own : ℕ
  pub thunk : Option ℕ
  pub room : ℕ
  pub limit : ℕ
  pub temps : ℕ
  pub block : BlockOf
  pub stage : Stage

-- a thunk is no frame
abbrev pub owner_of : (thunk : Option ℕ) → (instance : ℕ) → Option ℕ
owner_of None j = Some j
owner_of (Some n) j = None

abbrev pub is_some : Option ℕ → Bool
is_some None = false
is_some (Some n) = true

abbrev pub at_stage : Runs → Stage → Runs
at_stage b stage = record b { stage = stage }

-- the level of the class `process`
abbrev pub is_process_in : Source → (text : ℕ) → Bool
is_process_in s k = is_standard_text is_process_class (text s k)

abbrev pub is_process_level : Source → Option ℕ → Bool
is_process_level s None = false
is_process_level s (Some k) = is_process_in s k

-- What has that level is an object of a class of the program, or of that class itself.
abbrev pub HasClass : Source → (own : ℕ) → Type 0
HasClass s own = (k : ℕ) → LevelOf s.tables own k → is_process_in s k ≡ true → (is_class_text (text s own) ≡ true) ⊎ (own ≡ k)

-- whether control is behind `inner` of that level, where a process comes to its end
abbrev pub behind_process : Source → (own : ℕ) → Stage → Bool
behind_process s own (stage.Behind n) = is_process_level s (slice_get (levels_of s own) n)
behind_process s own _ = false

abbrev pub Calm : Source → Runs → Type 0
Calm s b = behind_process s b.own b.stage ≡ false

-- Where work of an activation stands in the code of a text: all cells of the text and the temps of expressions are in use, and in a thunk all temps.
pub record Low (s : Source) (code : CodeOf) (t : ℕ) (b : Runs) (used : ℕ) : Type 0 where
  pub low : own_end s code (frame_text s t) + expression_temps ≤ used
  pub temps : b.temps ≡ own_end s code (frame_text s t)
  pub full : (n : ℕ) → b.thunk ≡ Some n → length b.block.types < used

-- and no process is at its end there
pub record Settled (s : Source) (code : CodeOf) (t : ℕ) (b : Runs) (used : ℕ) : Type 0 where
  pub at : Low s code t b used
  pub calm : Calm s b

-- what has an unused temp is no thunk
pub is_frame : (s : Source) (code : CodeOf) (t : ℕ) (b : Runs) (used temp : ℕ) → Low s code t b used → used ≤ temp → temp < length b.block.types → b.thunk ≡ None
is_frame s code t b used temp low unused within = by_thunk b.thunk refl
  where
    by_thunk : (o : Option ℕ) → b.thunk ≡ o → o ≡ None
    by_thunk None e = refl
    by_thunk (Some n) e = let all = low.full n e in absurd (omega (arith, all, unused, within))

-- nor what has the last one in use
pub is_frame_in_use : (s : Source) (code : CodeOf) (t : ℕ) (b : Runs) (used temp : ℕ) → Low s code t b used → used ≡ suc temp → temp < length b.block.types → b.thunk ≡ None
is_frame_in_use s code t b used temp low last within = by_thunk b.thunk refl
  where
    by_thunk : (o : Option ℕ) → b.thunk ≡ o → o ≡ None
    by_thunk None e = refl
    by_thunk (Some n) e = let all = low.full n e in absurd (omega (arith, all, last, within))

-- the same of texts with the same frames
pub low_same : (s : Source) (code : CodeOf) (v t : ℕ) (b : Runs) (used : ℕ) → SameFrame s v t → Low s code t b used → Low s code v b used
low_same s code v t b used f a = record {
  low = subst (λ z. own_end s code z + expression_temps ≤ used) (sym f.frame) a.low;
  temps = a.temps ∙ ap (own_end s code) (sym f.frame);
  full = a.full;
}

-- where pending work goes on: in the code of a text, with so many cells and temps in use
pub record Spot : Type 0 where
  pub text : ℕ
  pub runs : Runs
  pub used : ℕ

abbrev pub spot : (text : ℕ) → Runs → (used : ℕ) → Spot
spot t b u = record { text = t; runs = b; used = u }

-- every instance
abbrev pub Every : ℕ → Type 0
Every j = ⊤

-- the site in a text's code where so many cells and temps are in use
abbrev pub site_at : (text : ℕ) → Runs → (used : ℕ) → Site
site_at t b used = record { text = t; room = b.limit; temps = b.temps; used = used; size = length b.block.types; thunk = b.thunk }

-- there are two images
pub data IsImage : ℕ → Type 0 where
  of_input : IsImage 0
  of_output : IsImage 1

-- what is assigned to the variable of a `for` list
abbrev pub variable_target : (assigned : Option ℕ) → (instance : ℕ) → Key → Target
variable_target None j key = ToCell j key
variable_target (Some line) j key = ToTextOf j key line

abbrev pub place_target : (assigned : Option ℕ) → (place : Term) → Target
place_target None place = ToPlace place
place_target (Some line) place = ToTextAt place line
