-- The entry and the end of blocks and procedures.
use Rattle.std.specs.Prelude.{ℕ, Bool, true, false, not, ◌&&◌, if◌then◌else◌, List, [], ◌∷◌, length, slice_get, take, Option, Some, None}
use Rattle.std.specs.List.{list_any}
use Rattle.sim_base.specs.declared.numbering.DeclNo.{DeclNo}
use Rattle.sim_chains.specs.Components.{NoObject}
use Rattle.sim_scope.specs.declared.types.Entry.{Entry}
use Rattle.sim_scope.specs.declared.types.Entry.TheVariants as entry
use Rattle.sim_scope.specs.declared.types.Formal.{Formal}
use Rattle.sim_scope.specs.declared.types.FormalKind.{FormalKind}
use Rattle.sim_scope.specs.declared.types.FormalKind.TheVariants as shape
use Rattle.sim_scope.specs.declared.types.Mode.{Mode}
use Rattle.sim_scope.specs.declared.types.Mode.TheVariants as mode
use Rattle.sim_scope.specs.declared.types.SimType.{SimType}
use Rattle.sim_scope.specs.Scopes.{entry_of}
use Rattle.sim_scope.specs.Source.{Source, level_of, line_at}
use Rattle.sim_scope.specs.Tables.{BlockOf}
use Rattle.sim_tree.specs.declared.expr.Identifier.{Identifier}
use Rattle.sim_tree.specs.declared.stmt.TypeName.{TypeName}
use Rattle.sim_tree.specs.Syntax.{Arrayed, Arrays, BoundPair, Declarations, DeclareClass, DeclareProcedure, NoDeclaration, Variables, With}
use Rattle.sim_values.specs.declared.kind.Kind.{Kind}
use Rattle.sim_values.specs.Plain.{initial}
use Rattle.sim_values.specs.Words.{instance_words}
use Rattle.sim_code.specs.Outcome.{Going, Run, World}
use Rattle.sim_code.specs.Instances.{Instance, entered, kept_on}
use Rattle.sim_meaning.specs.Pending.{Activation, ArrayOp, ArrayValue, Cell, Configuration, CopyOp, Declared, Do, Eval, Held, Instances, Item, Of, Result, StoreOp, ToCell, Val, owner}
use Rattle.sim_meaning.specs.Texts.{BlockText, ClassText, ConnectionText, PrefixedText, ProcedureText, StandardText, Text, declared_at, is_class_free, kind_named, kind_of_type, text}
use Rattle.sim_meaning.specs.Closing.{close}

-- ---- cells

abbrev pub of_kind : Kind → Option Val
of_kind kind = Some (Of (initial kind))

abbrev pub cell_before : DeclNo → Option Val → List Held → List Held
cell_before d v hs = record { key = Declared d.0; value = v } ∷ hs

-- A formal parameter that is no name, array or procedure starts with the value of its kind, and gets another one at once.
abbrev pub of_formal : Mode → FormalKind → Option SimType → Option Val
of_formal mode.ByName kind type = None
of_formal mode shape.Simple (Some type) = of_kind (kind_of_type type)
of_formal mode kind type = None

-- The cell of a declaration, if it has one: a variable has the value of its kind, an array none yet. A constant is seen as its value, and its cell
-- is never looked at.
abbrev pub with_cell : DeclNo → Option Entry → List Held → List Held
with_cell d (Some (entry.Variable type)) hs = cell_before d (of_kind (kind_of_type type)) hs
with_cell d (Some (entry.Constant type)) hs = cell_before d None hs
with_cell d (Some (entry.Array element dimensions)) hs = cell_before d None hs
with_cell d (Some (entry.Formal f)) hs = cell_before d (of_formal f.mode f.kind f.ty) hs
with_cell d _ hs = hs

abbrev pub cells_from : Source → List DeclNo → List Held
cells_from s [] = []
cells_from s (d ∷ more) = with_cell d (entry_of s.tables d) (cells_from s more)

abbrev pub numbers_in : Option BlockOf → List DeclNo
numbers_in None = []
numbers_in (Some b) = b.numbers

abbrev pub numbers_of : Source → ℕ → List DeclNo
numbers_of s k = numbers_in (slice_get s.tables.blocks k)

-- the result of a procedure comes first
abbrev pub with_result : Option TypeName → List Held → List Held
with_result None hs = hs
with_result (Some type) hs = record { key = Result; value = of_kind (kind_named type) } ∷ hs

-- The cells with which an instance of a text starts. Classes and prefixed blocks have those of all their levels, which `Objects` lists.
unfoldable pub first_cells : Source → ℕ → Text → List Held
first_cells s k (BlockText begin ds ss) = cells_from s (numbers_of s k)
first_cells s k (ProcedureText result h a) = with_result result (cells_from s (numbers_of s k))
first_cells s k (ClassText prefix h ds ss) = []
first_cells s k (PrefixedText class arguments ds ss) = []
first_cells s k ConnectionText = []
first_cells s k (StandardText which) = []

abbrev pub words_of_cells : List Held → ℕ
words_of_cells hs = instance_words (length hs) false

-- values fill the cells of formals, which come first behind the result; none where there are too few cells
abbrev pub held_before : Held → Option (List Held) → Option (List Held)
held_before h None = None
held_before h (Some hs) = Some (h ∷ hs)

abbrev pub filled : List Val → List Held → Option (List Held)
filled [] hs = Some hs
filled (v ∷ vs) [] = None
filled (v ∷ vs) (h ∷ hs) = held_before (record { key = h.key; value = Some v }) (filled vs hs)

abbrev pub filled_behind : Option TypeName → List Val → List Held → Option (List Held)
filled_behind (Some type) vs (h ∷ hs) = held_before h (filled vs hs)
filled_behind _ vs hs = filled vs hs

-- ---- formals

abbrev pub formal_before : Option Entry → List Formal → List Formal
formal_before (Some (entry.Formal f)) fs = f ∷ fs
formal_before _ fs = fs

abbrev pub formals_from : Source → List DeclNo → List Formal
formals_from s [] = []
formals_from s (d ∷ ds) = formal_before (entry_of s.tables d) (formals_from s ds)

abbrev pub formals_of : Source → ℕ → List Formal
formals_of s k = formals_in (slice_get s.tables.blocks k)
  where
    formals_in : Option BlockOf → List Formal
    formals_in None = []
    formals_in (Some b) = formals_from s (take b.formals b.numbers)

-- arrays by value go over to the instance of a procedure
abbrev pub is_array_by_value : Mode → FormalKind → Bool
is_array_by_value mode.ByValue shape.Array = true
is_array_by_value _ _ = false

abbrev pub with_array_of : Val → List ℕ → List ℕ
with_array_of (ArrayValue a) rest = a ∷ rest
with_array_of _ rest = rest

abbrev pub arrays_by_value : List Formal → List Val → List ℕ
arrays_by_value (f ∷ fs) (v ∷ vs) = if is_array_by_value f.mode f.kind then with_array_of v (arrays_by_value fs vs) else arrays_by_value fs vs
arrays_by_value _ _ = []

-- and to an object or a prefixed block all that are among its actuals
abbrev pub arrays_among : List Val → List ℕ
arrays_among [] = []
arrays_among (v ∷ vs) = with_array_of v (arrays_among vs)

-- whether a formal is by name, an array by reference or a procedure
abbrev pub is_held : Formal → Bool
is_held f = holds f.mode f.kind
  where
    holds : Mode → FormalKind → Bool
    holds mode.ByName kind = true
    holds mode.ByReference shape.Array = true
    holds mode.ByValue shape.Array = false
    holds mode.ByReference shape.Procedure = true
    holds mode.ByValue shape.Procedure = true
    holds mode.ByReference shape.Simple = false
    holds mode.ByValue shape.Simple = false

-- The instances on the chain are kept where a procedure is entered that has such a formal and is not class-free.
abbrev pub instances_kept : Source → ℕ → List Activation → Instances → Instances
instances_kept s k chain m = if not (is_class_free s k) && list_any is_held (formals_of s k) then kept_on owner chain m else m

-- ---- entries

-- a sub-block or a procedure is class-free where its text is so; an object or a prefixed block never is
abbrev pub passes : Option Text → (class_free : Bool) → Bool
passes (Some (BlockText begin ds ss)) free = free
passes (Some (ProcedureText result h a)) free = free
passes _ free = false

abbrev pub new_instance : Source → (text : ℕ) → (encloser : Option ℕ) → List Held → Instance (List Held)
new_instance s k encloser cells = record { text = k; level = level_of s k; encloser = encloser; cells = cells; passing = passes (text s k) (is_class_free s k); kept = false; given_back = false }

-- a new instance on top of the chain, with the work that it has among the instances then
abbrev pub in_instance : Source → World → Instances → (text : ℕ) → (encloser : Option ℕ) → List Held → (Instances → List Item) → List Activation → Run Configuration
in_instance s o m k encloser cells work rest =
    let now = entered m (new_instance s k encloser cells) (NoObject None) in
    Going o (record { chain = record { instance = length m.instances; work = work now; values = [] } ∷ rest; memory = now })

-- Arrays are made at the entry. The bounds of a segment are evaluated once; each further array of it is a copy of the first one, which has
-- no values yet.
abbrev pub further_arrays : Source → ℕ → (first : DeclNo) → List Identifier → List Item → List Item
further_arrays s i first [] w = w
further_arrays s i first (x ∷ xs) w =
    Do (Eval (Cell i (Declared first.0))) ∷ Do (CopyOp (line_at s x.token.0)) ∷ stored_as (declared_at s x.token.0) (further_arrays s i first xs w)
  where
    stored_as : Option DeclNo → List Item → List Item
    stored_as None w = w
    stored_as (Some d) w = Do (StoreOp (ToCell i (Declared d.0))) ∷ w

abbrev pub first_array : Source → ℕ → Option DeclNo → List Identifier → List Item → List Item
first_array s i None xs w = w
first_array s i (Some d) xs w = Do (StoreOp (ToCell i (Declared d.0))) ∷ further_arrays s i d xs w

abbrev pub arrays_of : Source → ℕ → Kind → (dimensions : ℕ) → List Identifier → List Item → List Item
arrays_of s i kind n [] w = w
arrays_of s i kind n (x ∷ xs) w = Do (ArrayOp kind n (line_at s x.token.0)) ∷ first_array s i (declared_at s x.token.0) xs w

abbrev pub bounds_of : Source → Instances → ℕ → List BoundPair → List Item → List Item
bounds_of s m i [] w = w
bounds_of s m i (b ∷ bs) w = Do (Eval (close s m i b.lower)) ∷ Do (Eval (close s m i b.upper)) ∷ bounds_of s m i bs w

abbrev pub segments_of : Source → Instances → ℕ → Kind → List Arrayed → List Item → List Item
segments_of s m i kind [] w = w
segments_of s m i kind (a ∷ more) w = bounds_of s m i a.bounds (arrays_of s i kind (length a.bounds) a.names (segments_of s m i kind more w))

abbrev pub arrays_declared : Source → Instances → ℕ → Declarations → List Item → List Item
arrays_declared s m i NoDeclaration w = w
arrays_declared s m i (With (Variables type vs) ds) w = arrays_declared s m i ds w
arrays_declared s m i (With (Arrays type token segments) ds) w = segments_of s m i (kind_named type) segments (arrays_declared s m i ds w)
arrays_declared s m i (With (DeclareProcedure result token h a end) ds) w = arrays_declared s m i ds w
arrays_declared s m i (With (DeclareClass prefix token h interface a end) ds) w = arrays_declared s m i ds w
