-- Which values, cells and arrays are fine for an instance among others.
use Rattle.std.proofs.Common.{◌≡◌, ◌<◌, ℕ, zero, suc, Bool, true, false, List, [], ◌∷◌, length, map, Option, Some, None, ◌⊎◌}
use Rattle.std.specs.Prelude.{slice_get, ◌+◌, ◌&&◌, not}
use Rattle.sim_base.specs.declared.numbering.DeclNo.{DeclNo}
use Rattle.sim_scope.specs.declared.types.Formal.{Formal}
use Rattle.sim_scope.specs.declared.types.SimType.{SimType}
use Rattle.sim_scope.specs.Access.{encloser}
use Rattle.sim_scope.specs.Levels.{has_level, is_simulation_block}
use Rattle.sim_scope.specs.Scopes.{entry_of}
use Rattle.sim_scope.specs.declared.types.StandardClass.TheVariants as standard
use Rattle.sim_scope.specs.Source.{Source, level_of}
use Rattle.sim_tree.specs.declared.stmt.TypeName.{TypeName}
use Rattle.sim_tree.specs.Syntax.{Expression, Expressions, Heading, Statement}
use Rattle.sim_values.specs.declared.kind.Kind.{Kind}
use Rattle.sim_values.specs.declared.kind.Kind.TheVariants as kind
use Rattle.sim_values.specs.Plain.{MainOf, Nothing, Object, Plain, kind_of}
use Rattle.sim_values.specs.Words.{element_count}
use Rattle.simset.specs.Instances.{Memberships}
use Rattle.sim_code.specs.Outcome.{ArrayOf as OneArray, Simulation, World}
use Rattle.sim_code.specs.Arrays.{unless_given}
use Rattle.sim_code.specs.Instances.{CellPlace, ElementPlace, ImagePlace, Instance, is_given_at_end, live}
use Rattle.sim_code.specs.Instances as instances
use Rattle.sim_meaning.specs.Attributes.{cell_of_connection, is_connection}
use Rattle.sim_meaning.specs.Checks.{all_fit, all_passed}
use Rattle.sim_meaning.specs.Entries.{first_cells, formals_of, is_array_by_value, numbers_of}
use Rattle.sim_meaning.specs.Levels.{has_levels, is_class}
use Rattle.sim_meaning.specs.Meaning.{formal_in_hand}
use Rattle.sim_meaning.specs.Objects.{attributes_from}
use Rattle.sim_meaning.specs.Pending.{Actual, Address, ArrayValue, Declared, Held, Instances, Key, Link, Of, Origin, ProcedureValue, Val, held}
use Rattle.sim_meaning.specs.Steps.{count_of}
use Rattle.sim_meaning.specs.Texts.{ClassText, PrefixedText, ProcedureText, StandardText, Text, is_class_free, text}
use Rattle.sim_sound.specs.Expressions.{ActualIs}
use Rattle.sim_sound.specs.Held.{Among, ArrayOf, ByName, Holds, In, InBound, IsFixed, Place, Procedure, Refers, ResultFits, Simply, formal_holds, given_by, key_holds, result_holds}
use Rattle.sim_sound.proofs.Prefixes.{LevelOf}

-- ---- what stays

-- an instance that is not given back at its end, and one that is
pub record Stays (m : Instances) (j : ℕ) : Type 0 where
  pub now : Instance (List Held)
  pub lives : live m j ≡ Some now
  pub stays : (now.passing && not now.kept) ≡ false

-- the way outward, from encloser to encloser
pub data Outward (m : Instances) : (j e : ℕ) → Type 0 where
  no_further : {j : ℕ} → Outward m j j
  one_out : {j f e : ℕ} {x : Instance (List Held)} → live m j ≡ Some x → x.encloser ≡ Some f → Outward m f e → Outward m j e

-- What an instance may know: what stays, and its enclosers.
pub data Knows (m : Instances) (j e : ℕ) : Type 0 where
  staying : Stays m e → Knows m j e
  outward : Outward m j e → Knows m j e

-- ---- arrays

-- Where an activation stands: it is an instance's own, or one of the evaluations directly above that, which are counted; and for which instance
-- the one below it works, or it itself if it is an instance.
pub record Seat : Type 0 where
  pub owner : ℕ
  pub evaluations : ℕ
  pub lower : ℕ

-- Who may know an array, and what its elements hold: all, or, of a copy for a parameter by value, one place alone, which is a value in hand of
-- an activation, on top of so many others.
pub data Sight : Type 0 where
  Open : (elements : Holds) → Sight
  Hidden : (elements : Holds) → Seat → (depth : ℕ) → Sight

abbrev pub elements_of : Sight → Holds
elements_of (Open h) = h
elements_of (Hidden h seat depth) = h

-- a value; where a variable or an element lies; where a reference lies, with its qualification; where an image lies; an instance of a text; a
-- copy for a parameter by value; an array that is kept; an object or a main program, and one of a class; where a variable lies that a parameter by
-- name means, of a reference with its qualification, or else a value where that is enough; an object of a class, no prefixed block; a procedure that conforms to its actual parameters; and what
-- is passed for the formal parameter of a number, of the procedure that lies below as many values
pub data Kinds : Type 0 where
  Value : Holds → Kinds
  AddressOf : Holds → Kinds
  ReferenceAddress : (class : ℕ) → Kinds
  ImageAddress : Kinds
  LinkTo : (text : ℕ) → Kinds
  Copied : Holds → Kinds
  Lasting : Holds → Kinds
  Component : Kinds
  ObjectIn : (class : ℕ) → Kinds
  Whichever : (value_too : Bool) → Kind → Kinds
  NewObject : (class : ℕ) → Kinds
  Checked : (actuals : Expressions) → (result : Option SimType) → Kinds
  ForFormal : (number : ℕ) → Kinds

-- What an activation waits for: a value or none, which is put in its hand; what is passed for a formal parameter, of a number, of the procedure in
-- its hand; that the object ends, or lets go, that it generated, whose reference it has in hand already; or that the resumed object above it
-- gives control to the main component that it keeps, and then what is noted of it.
pub data Waits : Type 0 where
  Takes : Option Kinds → Waits
  Passes : (number : ℕ) → Formal → Waits
  Generated : (object class : ℕ) → Waits
  Suspended : Waits

-- what is noted beside a run: who may know its arrays; on top of which instance each instance was entered, if of any; what a system head
-- waits for while a resumed object operates in its system; and where the activation stands that is looked at, which is first the operating one
pub record Marks : Type 0 where
  pub sights : List Sight
  pub beneath : List (Option ℕ)
  pub waiting : ℕ → Waits
  pub seat : Seat

-- the arrays of a run, its linkages and its simulation blocks, with what is noted
pub record AllArrays : Type 0 where
  pub sights : List Sight
  pub beneath : List (Option ℕ)
  pub waiting : ℕ → Waits
  pub seat : Seat
  pub real : List OneArray
  pub members : Memberships
  pub simulations : List Simulation

abbrev pub see : Marks → World → AllArrays
see g o = record { sights = g.sights; beneath = g.beneath; waiting = g.waiting; seat = g.seat; real = o.arrays; members = o.members; simulations = o.simulations }

-- where another activation is looked at
abbrev pub at_seat : AllArrays → Seat → AllArrays
at_seat o q = record o { seat = q }

-- what is below an instance on its chain, through those that are given back at their end: it stays there until they end
pub data Beneath (o : AllArrays) (m : Instances) : (j e : ℕ) → Type 0 where
  at_itself : {j : ℕ} → Beneath o m j j
  one_lower : {j k e : ℕ} → is_given_at_end m j ≡ true → slice_get o.beneath j ≡ Some (Some k) → Beneath o m k e → Beneath o m j e

-- What is there for as long as an instance is: what stays, and what is below it.
pub data Near (o : AllArrays) (m : Instances) (j e : ℕ) : Type 0 where
  near_staying : Stays m e → Near o m j e
  near_below : Beneath o m j e → Near o m j e

-- an array that stays for as long as an instance, as many elements as it has bounds for
pub record ArrayFine (o : AllArrays) (m : Instances) (j : ℕ) (h : Holds) (a : ℕ) : Type 0 where
  pub it : OneArray
  pub lives : unless_given (slice_get o.real a) ≡ Some it
  pub known : slice_get o.sights a ≡ Some (Open h)
  pub owned : (it.kept ≡ true) ⊎ Near o m j it.owner
  pub count : length it.elements ≡ element_count it.bounds

-- an array that is kept
pub record KeptFine (o : AllArrays) (h : Holds) (a : ℕ) : Type 0 where
  pub it : OneArray
  pub lives : unless_given (slice_get o.real a) ≡ Some it
  pub known : slice_get o.sights a ≡ Some (Open h)
  pub keeps : it.kept ≡ true
  pub count : length it.elements ≡ element_count it.bounds

-- a copy that is in hand in one place alone, of an activation for the instance j
pub record CopyFine (o : AllArrays) (j d : ℕ) (h : Holds) (a : ℕ) : Type 0 where
  pub it : OneArray
  pub lives : unless_given (slice_get o.real a) ≡ Some it
  pub hidden : slice_get o.sights a ≡ Some (Hidden h o.seat d)
  pub owned : it.owner ≡ j
  pub count : length it.elements ≡ element_count it.bounds

-- ---- cells

abbrev pub key_of : Held → Key
key_of h = h.key

-- the cells of a text of its own
abbrev pub own_cells : Source → ℕ → Text → List Held
own_cells s t (ClassText prefix h ds ss) = attributes_from s (numbers_of s t)
own_cells s t (PrefixedText class arguments ds ss) = attributes_from s (numbers_of s t)
own_cells s t (StandardText which) = attributes_from s (numbers_of s t)
own_cells s t x = first_cells s t x

abbrev pub keys_in : Source → ℕ → Option Text → List Key
keys_in s t None = []
keys_in s t (Some x) = map key_of (own_cells s t x)

pub data KeyAmong (key : Key) : List Key → Type 0 where
  first_key : {ks : List Key} → KeyAmong key (key ∷ ks)
  later_key : {k : Key} {ks : List Key} → KeyAmong key ks → KeyAmong key (k ∷ ks)

-- the arrays of an instance of a text are made, those of all its levels, but for these
abbrev pub Made : Source → (text : ℕ) → List DeclNo → List Held → Type 0
Made s t todo hs = (u : ℕ) → LevelOf s t u → (d : DeclNo) (k : Holds) → key_holds s u (Declared d.0) ≡ Some (ArrayOf k) → KeyAmong (Declared d.0) (keys_in s u (text s u)) → held (Declared d.0) hs ≡ None → Among d todo

-- An instance stands for each level of its text, and for each connection in such a text whose object is there.
pub data StandsFor (s : Source) (x : Instance (List Held)) : (t : ℕ) → Type 0 where
  own_text : {t : ℕ} → LevelOf s x.text t → StandsFor s x t
  connected : {t u : ℕ} → is_connection (text s t) ≡ true → encloser s.tables t ≡ Some u → KeyAmong (cell_of_connection s t) (map key_of x.cells) → StandsFor s x u → StandsFor s x t

-- an instance that stands for a text and was not given back, whose arrays are made but for these
pub record Present (s : Source) (m : Instances) (j t : ℕ) (todo : List DeclNo) : Type 0 where
  pub now : Instance (List Held)
  pub lives : live m j ≡ Some now
  pub stands : StandsFor s now t
  pub words : Text
  pub has_text : text s now.text ≡ Some words
  pub made : Made s now.text todo now.cells

abbrev pub Whole : Source → Instances → (j t : ℕ) → Type 0
Whole s m j t = Present s m j t []

-- An instance stands where an expression does: in a text, or in a bound of an array of its own, which sees none of the arrays that are still to be made.
pub data Stands (s : Source) (m : Instances) (j : ℕ) : Place → Type 0 where
  in_text : {u : ℕ} → Whole s m j u → Stands s m j (In u)
  in_bound : {t u : ℕ} {todo : List DeclNo} → (p : Present s m j t todo) → (p.now).text ≡ t → LevelOf s t u → ((d : DeclNo) → IsFixed (entry_of s.tables d) → Among d todo → ⊥) → is_connection (text s t) ≡ false → Stands s m j (InBound u)

-- An actual parameter by name, as an instance has it: the instance for which the expression stands is there for as long.
pub record ActualFine (s : Source) (o : AllArrays) (m : Instances) (j : ℕ) (h : Holds) (home : ℕ) (as_procedure : Bool) (e : Expression) : Type 0 where
  pub near : Near o m j home
  pub from : Place
  pub stands : Stands s m home from
  pub typed : ActualIs s from as_procedure e h

-- a procedure that is declared in a text
pub record ProcedureIn (s : Source) (k around : ℕ) : Type 0 where
  pub stands_in : encloser s.tables k ≡ Some around
  pub result : Option TypeName
  pub heading : Heading
  pub body : Statement
  pub is : text s k ≡ Some (ProcedureText result heading body)

-- A procedure as an instance has it, with the instance in which it is declared, which is there for as long. It gives what a type says.
pub record ProcedureFine (s : Source) (o : AllArrays) (m : Instances) (j : ℕ) (result : Option SimType) (k e : ℕ) : Type 0 where
  pub around : ℕ
  pub near : Near o m j e
  pub whole : Whole s m e around
  pub procedure : ProcedureIn s k around
  pub gives : ResultFits s (result_holds s k) (given_by s result)

-- a procedure that these actual parameters fit, but for the instances of their classes
pub record Conforms (s : Source) (es : Expressions) (k : ℕ) : Type 0 where
  pub count : length (formals_of s k) ≡ count_of es
  pub fit : all_fit s (formals_of s k) (all_passed s es) ≡ true

-- ---- values

-- an object, or a prefixed block, that has the class among its levels, with its arrays, which is not given back at its end
pub record ObjectOf (s : Source) (m : Instances) (j class : ℕ) : Type 0 where
  pub now : Instance (List Held)
  pub lives : live m j ≡ Some now
  pub object : has_levels (text s now.text) ≡ true
  pub levels : has_level s.tables now.text class ≡ true
  pub stays : (now.passing && not now.kept) ≡ false
  pub words : Text
  pub has_text : text s now.text ≡ Some words
  pub made : Made s now.text [] now.cells

-- one that is no prefixed block
pub record MadeOf (s : Source) (m : Instances) (j class : ℕ) : Type 0 where
  pub object : ObjectOf s m j class
  pub proper : is_class (text s (object.now).text) ≡ true

-- what has a text among its levels, and is not given back at its end
pub record Lasts (s : Source) (m : Instances) (j u : ℕ) : Type 0 where
  pub now : Instance (List Held)
  pub lives : live m j ≡ Some now
  pub solid : is_connection (text s now.text) ≡ false
  pub level : LevelOf s now.text u
  pub stays : (now.passing && not now.kept) ≡ false

-- a simulation block, with the level that has `simulation` in front
pub record Simulates (s : Source) (m : Instances) (b k : ℕ) : Type 0 where
  pub lasts : Lasts s m b k
  pub simulates : is_simulation_block s.tables k ≡ true

-- the main program of a simulation block is in its class `process`
pub record MainIn (s : Source) (m : Instances) (b class : ℕ) : Type 0 where
  pub level : ℕ
  pub block : Simulates s m b level
  pub levels : has_level s.tables (level + 4) class ≡ true

-- a reference to an object of a class, to a main program that is in it, or to none
abbrev pub ReferenceFine : Source → Instances → (class : ℕ) → Plain → Type 0
ReferenceFine s m c Nothing = Unit {0}
ReferenceFine s m c (Object j) = ObjectOf s m j c
ReferenceFine s m c (MainOf b) = MainIn s m b c
ReferenceFine s m c _ = ⊥

-- each reference is one to an object or a main program
abbrev pub NamesObject : Source → Instances → Plain → Type 0
NamesObject s m (Object j) = (c : ℕ) × ObjectOf s m j c
NamesObject s m (MainOf b) = (k : ℕ) × Simulates s m b k
NamesObject s m p = Unit {0}

abbrev pub PlainFine : Source → Instances → Holds → Plain → Type 0
PlainFine s m (Simply k) p = (kind_of p ≡ k) × NamesObject s m p
PlainFine s m (Refers c) p = ReferenceFine s m c p
PlainFine s m (ArrayOf h) p = ⊥
PlainFine s m (Procedure result) p = ⊥
PlainFine s m (ByName h) p = ⊥

abbrev pub ValFine : Source → AllArrays → Instances → ℕ → Holds → Val → Type 0
ValFine s o m j (Simply k) (Of p) = (kind_of p ≡ k) × NamesObject s m p
ValFine s o m j (Refers c) (Of p) = ReferenceFine s m c p
ValFine s o m j (ArrayOf h) (ArrayValue a) = ArrayFine o m j h a
ValFine s o m j (Procedure result) (ProcedureValue k e) = ProcedureFine s o m j result k e
ValFine s o m j (ByName h) (Actual home as_procedure e) = ActualFine s o m j h home as_procedure e
ValFine s o m j _ _ = ⊥

-- what a variable may hold
abbrev pub IsPlain : Holds → Type 0
IsPlain (Simply k) = Unit {0}
IsPlain (Refers c) = Unit {0}
IsPlain (ArrayOf k) = ⊥
IsPlain (Procedure result) = ⊥
IsPlain (ByName h) = ⊥

-- A cell has what it holds; one of an array may have nothing yet.
abbrev pub CellFine : Source → AllArrays → Instances → ℕ → Option Holds → Option Val → Type 0
CellFine s o m j None v = Unit {0}
CellFine s o m j (Some (Simply k)) None = ⊥
CellFine s o m j (Some (Refers c)) None = ⊥
CellFine s o m j (Some (Procedure result)) None = ⊥
CellFine s o m j (Some (ByName h)) None = ⊥
CellFine s o m j (Some (ArrayOf k)) None = Unit {0}
CellFine s o m j (Some h) (Some v) = ValFine s o m j h v

abbrev pub CellsFine : Source → AllArrays → Instances → (instance text : ℕ) → List Held → Type 0
CellsFine s o m j t [] = Unit {0}
CellsFine s o m j t (h ∷ hs) = CellFine s o m j (key_holds s t h.key) h.value × CellsFine s o m j t hs

-- ---- the store

-- The encloser of an instance of a text is older, is there for as long as it is, and is a whole one of the text around.
pub data Enclosed (s : Source) (o : AllArrays) (m : Instances) (j t : ℕ) (out : Option ℕ) : Type 0 where
  alone : out ≡ None → encloser s.tables t ≡ None → Enclosed s o m j t out
  within : {e u : ℕ} → out ≡ Some e → encloser s.tables t ≡ Some u → e < j → Near o m j e → Whole s m e u → Enclosed s o m j t out

-- a process has a cell in which one of `process` itself keeps where it was generated
abbrev pub HasOrigin : Source → (text : ℕ) → List Held → Type 0
HasOrigin s t hs = is_class (text s t) ≡ true → (u : ℕ) → LevelOf s t u → text s u ≡ Some (StandardText standard.Process) → KeyAmong Origin (map key_of hs)

-- An instance is as its text says: it has the cells of all its levels, each holds what it should, and it is given back at its end if the text is class-free.
pub record InstanceFine (s : Source) (o : AllArrays) (m : Instances) (j : ℕ) (x : Instance (List Held)) : Type 0 where
  pub level : x.level ≡ level_of s x.text
  pub solid : is_connection (text s x.text) ≡ false
  pub keys : (u : ℕ) → LevelOf s x.text u → (key : Key) → KeyAmong key (keys_in s u (text s u)) → KeyAmong key (map key_of x.cells)
  pub holds : (u : ℕ) → LevelOf s x.text u → (key : Key) → KeyAmong key (keys_in s u (text s u)) → key_holds s x.text key ≡ key_holds s u key
  pub cells : CellsFine s o m j x.text x.cells
  pub ends : x.passing ≡ is_class_free s x.text
  pub origins : HasOrigin s x.text x.cells
  pub out : Enclosed s o m j x.text x.encloser

-- ---- values in hand

pub record ElementFine (o : AllArrays) (m : Instances) (j : ℕ) (h : Holds) (a n : ℕ) : Type 0 where
  pub array : ArrayFine o m j h a
  pub there : n < length (array.it).elements

-- a cell that holds what it should: of an instance whose arrays are made, but for some others
pub record CellTarget (s : Source) (m : Instances) (j e : ℕ) (key : Key) (h : Holds) : Type 0 where
  pub around : ℕ
  pub todo : List DeclNo
  pub near : Knows m j e
  pub here : Present s m e around todo
  pub ready : (d : DeclNo) → key ≡ Declared d.0 → Among d todo → ⊥
  pub holds : key_holds s around key ≡ Some h
  pub there : KeyAmong key (keys_in s around (text s around))

-- the same of one that is there for as long as what has its address in hand
pub record CellLies (s : Source) (o : AllArrays) (m : Instances) (j e : ℕ) (key : Key) (h : Holds) : Type 0 where
  pub around : ℕ
  pub todo : List DeclNo
  pub near : Near o m j e
  pub here : Present s m e around todo
  pub ready : (d : DeclNo) → key ≡ Declared d.0 → Among d todo → ⊥
  pub holds : key_holds s around key ≡ Some h
  pub there : KeyAmong key (keys_in s around (text s around))

abbrev pub IsImage : ℕ → Type 0
IsImage zero = Unit {0}
IsImage (suc zero) = Unit {0}
IsImage (suc (suc n)) = ⊥

-- where a variable of a kind lies, of a reference with its qualification
abbrev pub PlaceFine : Source → AllArrays → Instances → ℕ → Kind → instances.Place Key (Option ℕ) → Type 0
PlaceFine s o m j k (ElementPlace a n None) = (k ≡ kind.Reference → ⊥) × ElementFine o m j (Simply k) a n
PlaceFine s o m j k (CellPlace e key None) = (k ≡ kind.Reference → ⊥) × CellLies s o m j e key (Simply k)
PlaceFine s o m j k (ElementPlace a n (Some c)) = (k ≡ kind.Reference) × ElementFine o m j (Refers c) a n
PlaceFine s o m j k (CellPlace e key (Some c)) = (k ≡ kind.Reference) × CellLies s o m j e key (Refers c)
PlaceFine s o m j k (ImagePlace n) = ⊥

abbrev pub HandFine : Source → AllArrays → Instances → ℕ → Kinds → Val → Type 0
HandFine s o m j (Value h) v = ValFine s o m j h v
HandFine s o m j (AddressOf h) (Address (ElementPlace a n None)) = ElementFine o m j h a n
HandFine s o m j (AddressOf h) (Address (CellPlace e key None)) = CellLies s o m j e key h
HandFine s o m j (ReferenceAddress c) (Address (ElementPlace a n (Some k))) = (k ≡ c) × ElementFine o m j (Refers c) a n
HandFine s o m j (ReferenceAddress c) (Address (CellPlace e key (Some k))) = (k ≡ c) × CellLies s o m j e key (Refers c)
HandFine s o m j ImageAddress (Address (ImagePlace n)) = IsImage n
HandFine s o m j (LinkTo u) (Link e) = Knows m j e × Whole s m e u
HandFine s o m j (Lasting h) (ArrayValue a) = KeptFine o h a
HandFine s o m j Component (Of (Object i)) = (c : ℕ) × ObjectOf s m i c
HandFine s o m j Component (Of (MainOf b)) = (k : ℕ) × Simulates s m b k
HandFine s o m j (ObjectIn c) (Of (Object i)) = ObjectOf s m i c
HandFine s o m j (ObjectIn c) (Of (MainOf b)) = MainIn s m b c
HandFine s o m j (NewObject c) (Of (Object i)) = MadeOf s m i c
HandFine s o m j (Checked es result) (ProcedureValue k e) = ProcedureFine s o m j result k e × Conforms s es k
HandFine s o m j (Whichever value_too k) (Address p) = PlaceFine s o m j k p
HandFine s o m j (Whichever true k) (Of p) = (kind_of p ≡ k) × NamesObject s m p
HandFine s o m j _ _ = ⊥

-- what is in hand for a formal parameter: of an array by value a copy
abbrev pub held_kinds : Option Holds → Option Kinds
held_kinds None = None
held_kinds (Some h) = Some (Value h)

abbrev pub in_hand : (by_value : Bool) → Option Holds → Option Kinds
in_hand true (Some (ArrayOf k)) = Some (Copied k)
in_hand true (Some (Simply k)) = Some (Value (Simply k))
in_hand true (Some (Refers c)) = Some (Value (Refers c))
in_hand true (Some (Procedure result)) = Some (Value (Procedure result))
in_hand true (Some (ByName h)) = Some (Value (ByName h))
in_hand true None = None
in_hand false h = held_kinds h

abbrev pub hand_of : Source → Formal → Option Kinds
hand_of s f = in_hand (is_array_by_value f.mode f.kind) (formal_holds s f.mode f.kind f.ty)

-- a value or a copy, with so many values below, which is not passed for a formal parameter of a procedure in hand
abbrev pub HeldDeep : Source → AllArrays → Instances → (j depth : ℕ) → Kinds → Val → Type 0
HeldDeep s o m j d (Copied k) (ArrayValue a) = CopyFine o j d k a
HeldDeep s o m j d (Copied k) _ = ⊥
HeldDeep s o m j d (ForFormal n) v = ⊥
HeldDeep s o m j d (Value h) v = ValFine s o m j h v
HeldDeep s o m j d (AddressOf k) v = HandFine s o m j (AddressOf k) v
HeldDeep s o m j d (ReferenceAddress c) v = HandFine s o m j (ReferenceAddress c) v
HeldDeep s o m j d ImageAddress v = HandFine s o m j ImageAddress v
HeldDeep s o m j d (LinkTo u) v = HandFine s o m j (LinkTo u) v
HeldDeep s o m j d (Lasting h) v = HandFine s o m j (Lasting h) v
HeldDeep s o m j d Component v = HandFine s o m j Component v
HeldDeep s o m j d (ObjectIn c) v = HandFine s o m j (ObjectIn c) v
HeldDeep s o m j d (Whichever value_too k) v = HandFine s o m j (Whichever value_too k) v
HeldDeep s o m j d (NewObject c) v = HandFine s o m j (NewObject c) v
HeldDeep s o m j d (Checked es result) v = HandFine s o m j (Checked es result) v

-- what is passed for the formal parameter of a number, of the procedure that lies so deep below
pub record PassedFine (s : Source) (o : AllArrays) (m : Instances) (j number : ℕ) (below : List Val) (v : Val) : Type 0 where
  pub formal : Formal
  pub is : formal_in_hand s number below ≡ Some formal
  pub kinds : Kinds
  pub hand : hand_of s formal ≡ Some kinds
  pub fine : HeldDeep s o m j (length below) kinds v

-- with these values below
abbrev pub DeepFine : Source → AllArrays → Instances → (j : ℕ) → (below : List Val) → Kinds → Val → Type 0
DeepFine s o m j vs (Copied k) (ArrayValue a) = CopyFine o j (length vs) k a
DeepFine s o m j vs (Copied k) _ = ⊥
DeepFine s o m j vs (ForFormal n) v = PassedFine s o m j n vs v
DeepFine s o m j vs (Value h) v = ValFine s o m j h v
DeepFine s o m j vs (AddressOf k) v = HandFine s o m j (AddressOf k) v
DeepFine s o m j vs (ReferenceAddress c) v = HandFine s o m j (ReferenceAddress c) v
DeepFine s o m j vs ImageAddress v = HandFine s o m j ImageAddress v
DeepFine s o m j vs (LinkTo u) v = HandFine s o m j (LinkTo u) v
DeepFine s o m j vs (Lasting h) v = HandFine s o m j (Lasting h) v
DeepFine s o m j vs Component v = HandFine s o m j Component v
DeepFine s o m j vs (ObjectIn c) v = HandFine s o m j (ObjectIn c) v
DeepFine s o m j vs (Whichever value_too k) v = HandFine s o m j (Whichever value_too k) v
DeepFine s o m j vs (NewObject c) v = HandFine s o m j (NewObject c) v
DeepFine s o m j vs (Checked es result) v = HandFine s o m j (Checked es result) v

-- what is no parameter of a procedure in hand
abbrev pub NotFor : Kinds → Type 0
NotFor (ForFormal n) = ⊥
NotFor _ = Unit {0}

pub by_depth : (s : Source) (o : AllArrays) (m : Instances) (j : ℕ) (vs : List Val) (k : Kinds) (v : Val) → NotFor k → DeepFine s o m j vs k v → HeldDeep s o m j (length vs) k v
by_depth s o m j vs (Copied k) (ArrayValue a) n f = f
by_depth s o m j vs (Copied k) (Of p) n f = f
by_depth s o m j vs (Copied k) (Link z) n f = f
by_depth s o m j vs (Copied k) (Address z) n f = f
by_depth s o m j vs (Copied k) (ProcedureValue z y) n f = f
by_depth s o m j vs (Copied k) (Actual z p y) n f = f
by_depth s o m j vs (ForFormal number) v n f = absurd n
by_depth s o m j vs (Value h) v n f = f
by_depth s o m j vs (AddressOf k) v n f = f
by_depth s o m j vs (ReferenceAddress c) v n f = f
by_depth s o m j vs ImageAddress v n f = f
by_depth s o m j vs (LinkTo u) v n f = f
by_depth s o m j vs (Lasting h) v n f = f
by_depth s o m j vs Component v n f = f
by_depth s o m j vs (ObjectIn c) v n f = f
by_depth s o m j vs (Whichever b k) v n f = f
by_depth s o m j vs (NewObject c) v n f = f
by_depth s o m j vs (Checked es result) v n f = f

-- what is in hand is held as something with so many values below
pub some_held : (s : Source) (o : AllArrays) (m : Instances) (j : ℕ) (vs : List Val) (k : Kinds) (v : Val) → DeepFine s o m j vs k v → (x : Kinds) × HeldDeep s o m j (length vs) x v
some_held s o m j vs (ForFormal number) v f = (f.kinds, f.fine)
some_held s o m j vs (Copied k) v f = (Copied k, by_depth s o m j vs (Copied k) v tt f)
some_held s o m j vs (Value h) v f = (Value h, f)
some_held s o m j vs (AddressOf k) v f = (AddressOf k, f)
some_held s o m j vs (ReferenceAddress c) v f = (ReferenceAddress c, f)
some_held s o m j vs ImageAddress v f = (ImageAddress, f)
some_held s o m j vs (LinkTo u) v f = (LinkTo u, f)
some_held s o m j vs (Lasting h) v f = (Lasting h, f)
some_held s o m j vs Component v f = (Component, f)
some_held s o m j vs (ObjectIn c) v f = (ObjectIn c, f)
some_held s o m j vs (Whichever b k) v f = (Whichever b k, f)
some_held s o m j vs (NewObject c) v f = (NewObject c, f)
some_held s o m j vs (Checked es result) v f = (Checked es result, f)

abbrev pub HandsFine : Source → AllArrays → Instances → ℕ → List Kinds → List Val → Type 0
HandsFine s o m j [] [] = Unit {0}
HandsFine s o m j [] (v ∷ vs) = ⊥
HandsFine s o m j (k ∷ ks) [] = ⊥
HandsFine s o m j (k ∷ ks) (v ∷ vs) = DeepFine s o m j vs k v × HandsFine s o m j ks vs
