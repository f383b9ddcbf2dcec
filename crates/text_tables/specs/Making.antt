-- Tables that are being made.
use Rattle.std.specs.Prelude.{◌≡◌, ◌≢◌, ◌<◌, ◌≤◌, ◌+◌, ℕ, Bool, true, false, List, [], ◌∷◌, ◌++◌, length, map, drop, replicate, slice_get, Option, Some, None}
use Rattle.std.specs.Option.{option_or}
use Rattle.std.specs.declared.alloc.Global.{Global}
use Rattle.std.specs.declared.vec.Vec.{Vec}
use Rattle.sim_base.specs.declared.numbering.DeclNo.{DeclNo}
use Rattle.sim_scope.specs.declared.bound.Bound.{Bound}
use Rattle.sim_scope.specs.declared.types.Entry.{Entry}
use Rattle.sim_scope.specs.declared.types.Entry.TheVariants as entry
use Rattle.sim_scope.specs.declared.types.Formal.{Formal}
use Rattle.sim_scope.specs.declared.types.StandardClass.TheVariants as standard
use Rattle.sim_scope.specs.Access.{joined}
use Rattle.sim_scope.specs.Scopes.{class_formals, entry_of, formals_in}
use Rattle.sim_scope.specs.Source.{Source, block_of, source_of}
use Rattle.sim_scope.specs.Tables.{BlockOf}
use Rattle.sim_tree.specs.declared.stmt.TypeName.{TypeName}
use Rattle.sim_meaning.specs.Closing.{formals_from}
use Rattle.sim_meaning.specs.Entries.{cells_from, with_cell}
use Rattle.sim_meaning.specs.Pending.{Declared, Held}
use Rattle.sim_meaning.specs.Texts.{text}
use Rattle.codegen_expr.specs.Built.{place_from}
use Rattle.codegen_expr.specs.Known.{place_in}
use Rattle.codegen_expr.specs.Sites.{cells_in, counted_unless, is_connection}
use Rattle.program_texts.specs.declared.tree.TextTree.{TextTree}
use Rattle.program_texts.specs.declared.tree.TextTree.TheVariants as tree
use Rattle.program_texts.specs.TextTrees.{AreTexts}

-- ---- one row for each of a list

-- so far there are rows for the first of a list
unfoldable pub Passes : {A B : Type 0} → (A → B) → List A → (rows : List B) → (done : ℕ) → Type 0
Passes f xs rows i = rows ++ map f (drop i xs) ≡ map f xs

-- ---- numbers of blocks

abbrev pub next_number : ℕ → BlockOf → ℕ
next_number n b = counted_unless (is_connection b.kind) n

abbrev pub numbers_from : ℕ → List BlockOf → List ℕ
numbers_from n [] = []
numbers_from n (b ∷ bs) = n ∷ numbers_from (next_number n b) bs

abbrev pub number_behind : ℕ → List BlockOf → ℕ
number_behind n [] = n
number_behind n (b ∷ bs) = number_behind (next_number n b) bs

pub record Numbers (blocks : List BlockOf) (numbers : List ℕ) (count : ℕ) : Type 0 where
  pub all : numbers ≡ numbers_from 0 blocks
  pub behind : count ≡ number_behind 0 blocks

-- what is written with what is still to be written
pub record OwesNumbers (blocks : List BlockOf) (numbers : List ℕ) (number done : ℕ) : Type 0 where
  pub all : numbers ++ numbers_from number (drop done blocks) ≡ numbers_from 0 blocks
  pub behind : number_behind number (drop done blocks) ≡ number_behind 0 blocks

-- ---- formal parameters

abbrev pub items_of : Vec Formal Global → List Formal
items_of v = v.items

abbrev pub formals_of : Source → BlockOf → List Formal
formals_of s b = formals_from s (formals_in (Some b))

unfoldable pub Formals : Source → List BlockOf → List (Vec Formal Global) → Type 0
Formals s blocks table = map items_of table ≡ map (formals_of s) blocks

abbrev pub one_formal : Option Formal → List Formal
one_formal None = []
one_formal (Some f) = f ∷ []

unfoldable pub OwesFormals : Source → List DeclNo → List Formal → (done : ℕ) → Type 0
OwesFormals s ds formals i = formals ++ formals_from s (drop i ds) ≡ formals_from s ds

-- the formal parameters of a class, of all its levels
abbrev pub class_formals_of : Source → ℕ → List Formal
class_formals_of s k = formals_from s (class_formals s.tables k)

-- the tables of the first blocks
unfoldable pub ClassFormals : Source → List (Vec Formal Global) → (done : ℕ) → Type 0
ClassFormals s table done = (length table ≡ done) × ((k : ℕ) (v : Vec Formal Global) → slice_get table k ≡ Some v → v.items ≡ class_formals_of s k)

-- ---- cells

abbrev pub is_some : Option TypeName → Bool
is_some None = false
is_some (Some type) = true

abbrev pub is_result : TextTree → Bool
is_result (tree.Procedure result p) = is_some result.now
is_result _ = false

abbrev pub is_class_tree : TextTree → Bool
is_class_tree (tree.Class prefix c b) = true
is_class_tree (tree.ClassOfStatement prefix c) = true
is_class_tree (tree.Standard which) = true
is_class_tree _ = false

abbrev pub is_connection_tree : TextTree → Bool
is_connection_tree tree.Connection = true
is_connection_tree _ = false

abbrev pub is_process_tree : TextTree → Bool
is_process_tree (tree.Standard standard.Process) = true
is_process_tree _ = false

abbrev pub has_cell : Option Entry → Bool
has_cell (Some (entry.Variable type)) = true
has_cell (Some (entry.Constant type)) = true
has_cell (Some (entry.Array element dimensions)) = true
has_cell (Some (entry.Formal f)) = true
has_cell _ = false

-- the cell of one declaration, if it has one
abbrev pub cell_alone : Source → DeclNo → List Held
cell_alone s d = with_cell d (entry_of s.tables d) []

abbrev pub slot_at : List (Option ℕ) → DeclNo → Option ℕ
slot_at slots d = joined (slice_get slots d.0)

-- the declaration has this cell of the text k, if it stands there and had none yet
pub record IsPlaced (s : Source) (k : ℕ) (old new : List (Option ℕ)) (d : DeclNo) (cell : ℕ) : Type 0 where
  pub as_long : length new ≡ length old
  pub here : d.0 < length old → block_of s d ≡ k → slot_at new d ≡ option_or (slot_at old d) (Some cell)
  pub elsewhere : block_of s d ≢ k → new ≡ old
  pub others : (e : DeclNo) → e.0 ≢ d.0 → slot_at new e ≡ slot_at old e

-- the declarations of the text k have these cells, the first of which has the number start
pub record PlacesCells (s : Source) (k : ℕ) (old new : List (Option ℕ)) (start : ℕ) (hs : List Held) (end : ℕ) : Type 0 where
  pub as_long : length new ≡ length old
  pub counted : end ≡ start + length hs
  pub here : (d : DeclNo) → block_of s d ≡ k → slot_at new d ≡ option_or (slot_at old d) (place_from start (Declared d.0) hs)
  pub elsewhere : (d : DeclNo) → block_of s d ≢ k → slot_at new d ≡ slot_at old d

unfoldable pub Places : Source → (k : ℕ) → (old new : List (Option ℕ)) → (start : ℕ) → List Held → (end : ℕ) → Type 0
Places s k old new start hs end = length old ≡ length s.tables.declarations → PlacesCells s k old new start hs end

unfoldable pub OwesPlaces : Source → (k : ℕ) → (old : List (Option ℕ)) → (start : ℕ) → List DeclNo → (now : List (Option ℕ)) → (cell done : ℕ) → Type 0
OwesPlaces s k old start ds now cell i =
    (new : List (Option ℕ)) (end : ℕ) → Places s k now new cell (cells_from s (drop i ds)) end → Places s k old new start (cells_from s ds) end

-- the cells of the first texts are in their places
pub record FilledTo (s : Source) (slots : List (Option ℕ)) (counts : List ℕ) (done : ℕ) : Type 0 where
  pub as_long : length slots ≡ length s.tables.declarations
  pub many : length counts ≡ done
  pub filled : (d : DeclNo) → block_of s d < done → slot_at slots d ≡ place_in s (block_of s d) (Declared d.0)
  pub free : (d : DeclNo) → done ≤ block_of s d → slot_at slots d ≡ None
  pub known : (j : ℕ) → j < done → slice_get counts j ≡ Some (length (cells_in s j (text s j)))

unfoldable pub PlacedTo : Bound → List TextTree → (old new : List (Option ℕ)) → (counts : List ℕ) → (done : ℕ) → Type 0
PlacedTo b ts old new counts i = AreTexts b.program ts → old ≡ replicate (length b.scopes.declarations) None → FilledTo (source_of b) new counts i

abbrev pub AllPlaced : Bound → List TextTree → (old new : List (Option ℕ)) → (counts : List ℕ) → Type 0
AllPlaced b ts old new counts = PlacedTo b ts old new counts (length ts)
