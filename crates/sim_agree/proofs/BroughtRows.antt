-- The blocks and the declarations that a standard prefix in front of a class or a block adds, one by one.
use Rattle.std.proofs.Common.{◌≡◌, ◌+◌, ℕ, true, false, List, [], ◌∷◌, ◌++◌, length, Some, None, refl, sym, ap, ◌∙◌, append-nil}
use Rattle.std.specs.Prelude.{map, slice_get, slice_set}
use Rattle.sim_base.specs.declared.numbering.DeclNo.{DeclNo}
use Rattle.sim_scope.specs.declared.scopes.Declaration.{Declaration}
use Rattle.sim_scope.specs.declared.types.BlockKind.TheVariants as kind
use Rattle.sim_scope.specs.declared.types.Entry.TheVariants as entry
use Rattle.sim_scope.specs.declared.types.StandardClass.{StandardClass}
use Rattle.sim_scope.specs.declared.types.StandardClass.TheVariants as standard
use Rattle.sim_scope.specs.declared.types.StandardPrefix.{StandardPrefix}
use Rattle.sim_scope.specs.declared.types.StandardPrefix.TheVariants as prefix
use Rattle.sim_scope.specs.Building.{Brings, BuildingOf, Mark, Provides, attribute_entry, marked, name_of, place_of, standard_base, standard_row}
use Rattle.sim_scope.specs.Declare.{brings_class, brought_marks, provides_attribute}
use Rattle.sim_scope.specs.Runs.{run}
use Rattle.sim_scope.specs.Standard.{attribute_name}
use Rattle.sim_scope.specs.Tables.{BlockOf}
use Rattle.sim_values.specs.declared.standard.Standard.{Standard}
use Rattle.sim_values.specs.declared.standard.Standard.TheVariants as name
use Rattle.sim_values.specs.Standard.{row_of}
use Rattle.sim_agree.proofs.Brought.{Adding, AllBring, adding, all_added, behind, set_same}
use Rattle.sim_agree.proofs.StandardPrefixes.{classes_of}

-- ---- what a prefix brings

-- the attributes of its classes
pub record Attributed : Type 0 where
  pub class : StandardClass
  pub name : Standard

abbrev of : StandardClass → Standard → Attributed
of class name = record { class = class; name = name }

abbrev pub attributes_of_sets : List Attributed
attributes_of_sets =
    of standard.Linkage name.Suc ∷ of standard.Linkage name.Pred ∷ of standard.Linkage name.Prev
    ∷ of standard.Link name.Out ∷ of standard.Link name.Follow ∷ of standard.Link name.Precede ∷ of standard.Link name.Into
    ∷ of standard.Head name.First ∷ of standard.Head name.Last ∷ of standard.Head name.Empty ∷ of standard.Head name.Cardinal ∷ of standard.Head name.Clear
    ∷ []

abbrev pub attributes_of_processes : List Attributed
attributes_of_processes = of standard.Process name.Idle ∷ of standard.Process name.Terminated ∷ of standard.Process name.Evtime ∷ of standard.Process name.Nextev ∷ []

abbrev pub attributes : StandardPrefix → List Attributed
attributes prefix.Simset = attributes_of_sets
attributes prefix.Simulation = attributes_of_sets ++ attributes_of_processes

-- and its own
abbrev pub own_names : StandardPrefix → List Standard
own_names prefix.Simset = []
own_names prefix.Simulation = name.Time ∷ name.Current ∷ name.Main ∷ name.Hold ∷ name.Passivate ∷ name.Wait ∷ name.Cancel ∷ []

-- ---- the marks

abbrev brings_mark : (token : ℕ) → StandardClass → Mark
brings_mark token which = Brings which token

abbrev provides_mark : (token : ℕ) → Attributed → Mark
provides_mark token x = Provides (Some x.class) x.name token

abbrev own_mark : (token : ℕ) → Standard → Mark
own_mark token name = Provides None name token

abbrev pub all_marks : StandardPrefix → (token : ℕ) → List Mark
all_marks p token = map (brings_mark token) (classes_of p) ++ (map (provides_mark token) (attributes p) ++ map (own_mark token) (own_names p))

pub marks_are : (p : StandardPrefix) (token : ℕ) → brought_marks token p (classes_of p) ≡ all_marks p token
unfolding brought_marks brings_class provides_attribute row_of
marks_are prefix.Simset token = refl
marks_are prefix.Simulation token = refl

all_bring : (p : StandardPrefix) (token : ℕ) → AllBring (all_marks p token)
all_bring prefix.Simset token = tt
all_bring prefix.Simulation token = tt

-- ---- what they add

-- to a block, where the next declaration has a number
abbrev pub added_number : (next i : ℕ) → DeclNo
added_number next i = record { 0 = next + i }

module _ (n next token : ℕ) where
  abbrev pub class_declared : StandardClass → Declaration
  class_declared which = standard_row (name_of which) token n (entry.Class (n + 1 + place_of which)) false

  abbrev pub attribute_declared : Attributed → Declaration
  attribute_declared x = standard_row (attribute_name x.name) token (n + 1 + place_of x.class) (attribute_entry (Some (added_number next 0)) x.name) true

  abbrev pub own_declared : Standard → Declaration
  own_declared name = standard_row (attribute_name name) token n (attribute_entry (Some (added_number next 0)) name) false

  abbrev pub added_declarations : StandardPrefix → List Declaration
  added_declarations p = map class_declared (classes_of p) ++ (map attribute_declared (attributes p) ++ map own_declared (own_names p))

module _ (n next level : ℕ) where
  abbrev pub added_row : StandardClass → List (List ℕ) → List DeclNo → BlockOf
  added_row which names numbers = record {
    kind = kind.StandardClass which;
    first = 0;
    end = 0;
    encloser = Some n;
    level = level + 1;
    owner = Some (added_number next (place_of which));
    formals = 0;
    inner = None;
    prefix = None;
    base = standard_base which n;
    standard = None;
    names = names;
    numbers = numbers;
    has_class = false;
    brought_names = [];
    brought = [];
    protected = [];
    hidden = [];
  }

  -- the attributes come behind so many classes
  abbrev pub linkage_row : (classes : ℕ) → BlockOf
  linkage_row c = added_row standard.Linkage (attribute_name name.Suc ∷ attribute_name name.Pred ∷ attribute_name name.Prev ∷ []) (added_number next c ∷ added_number next (c + 1) ∷ added_number next (c + 2) ∷ [])

  abbrev pub link_row : (classes : ℕ) → BlockOf
  link_row c =
      added_row standard.Link (attribute_name name.Out ∷ attribute_name name.Follow ∷ attribute_name name.Precede ∷ attribute_name name.Into ∷ [])
      (added_number next (c + 3) ∷ added_number next (c + 4) ∷ added_number next (c + 5) ∷ added_number next (c + 6) ∷ [])

  abbrev pub head_row : (classes : ℕ) → BlockOf
  head_row c =
      added_row standard.Head (attribute_name name.First ∷ attribute_name name.Last ∷ attribute_name name.Empty ∷ attribute_name name.Cardinal ∷ attribute_name name.Clear ∷ [])
      (added_number next (c + 7) ∷ added_number next (c + 8) ∷ added_number next (c + 9) ∷ added_number next (c + 10) ∷ added_number next (c + 11) ∷ [])

  abbrev pub process_row : (classes : ℕ) → BlockOf
  process_row c =
      added_row standard.Process (attribute_name name.Idle ∷ attribute_name name.Terminated ∷ attribute_name name.Evtime ∷ attribute_name name.Nextev ∷ [])
      (added_number next (c + 12) ∷ added_number next (c + 13) ∷ added_number next (c + 14) ∷ added_number next (c + 15) ∷ [])

  abbrev pub added_rows : StandardPrefix → List BlockOf
  added_rows prefix.Simset = linkage_row 3 ∷ link_row 3 ∷ head_row 3 ∷ []
  added_rows prefix.Simulation = linkage_row 4 ∷ link_row 4 ∷ head_row 4 ∷ process_row 4 ∷ []

-- the block in front knows the classes, and what is the prefix's own
abbrev pub names_brought : StandardPrefix → List (List ℕ)
names_brought p = map name_of (classes_of p) ++ map attribute_name (own_names p)

abbrev pub numbers_brought : StandardPrefix → (next : ℕ) → List DeclNo
numbers_brought prefix.Simset next = added_number next 0 ∷ added_number next 1 ∷ added_number next 2 ∷ []
numbers_brought prefix.Simulation next =
    added_number next 0 ∷ added_number next 1 ∷ added_number next 2 ∷ added_number next 3 ∷ added_number next 20 ∷ added_number next 21
    ∷ added_number next 22 ∷ added_number next 23 ∷ added_number next 24 ∷ added_number next 25 ∷ added_number next 26 ∷ []

abbrev pub bringing : StandardPrefix → (next : ℕ) → BlockOf → BlockOf
bringing p next r = record r { brought_names = names_brought p; brought = numbers_brought p next }

-- the tables with all this
abbrev pub with_standard : StandardPrefix → BuildingOf → (n token : ℕ) → BlockOf → BuildingOf
with_standard p b n token r = record b {
  tables = record b.tables {
    blocks = slice_set b.tables.blocks n (bringing p (length b.tables.declarations) r) ++ added_rows n (length b.tables.declarations) r.level p;
    declarations = b.tables.declarations ++ added_declarations n (length b.tables.declarations) token p;
  };
}

-- ---- they are added

-- nothing yet
abbrev pub starting : BlockOf → Adding
starting r = record { row = record r { brought_names = []; brought = [] }; rows = []; declarations = [] }

all_adding : (p : StandardPrefix) (n next token : ℕ) (r : BlockOf) → run (adding n next) (starting r) (all_marks p token) ≡ record { row = bringing p next r; rows = added_rows n next r.level p; declarations = added_declarations n next token p }
unfolding run row_of
all_adding prefix.Simset n next token r = refl
all_adding prefix.Simulation n next token r = refl

module _ (p : StandardPrefix) (b : BuildingOf) (n token : ℕ) (r : BlockOf) (cur : b.current ≡ Some n) (last : length b.tables.blocks ≡ n + 1) (at : slice_get b.tables.blocks n ≡ Some r) (nameless : r.brought_names ≡ []) (none : r.brought ≡ []) where
  empty_row : record r { brought_names = []; brought = [] } ≡ r
  empty_row = ap (λ z. let q : BlockOf = record r { brought_names = z; brought = [] } in q) (sym nameless) ∙ ap (λ z. let q : BlockOf = record r { brought = z } in q) (sym none)

  begins : behind b n cur last r at (starting r) ≡ b
  begins =
      ap (λ z. let c : BuildingOf = record b { tables = record b.tables { blocks = slice_set b.tables.blocks n z ++ []; declarations = b.tables.declarations ++ [] } } in c) empty_row
      ∙ ap (λ z. let c : BuildingOf = record b { tables = record b.tables { blocks = z; declarations = b.tables.declarations ++ [] } } in c) (append-nil (slice_set b.tables.blocks n r) ∙ set_same b.tables.blocks n r at)
      ∙ ap (λ z. let c : BuildingOf = record b { tables = record b.tables { declarations = z } } in c) (append-nil b.tables.declarations)

  pub standard_added : run marked b (brought_marks token p (classes_of p)) ≡ with_standard p b n token r
  standard_added =
      ap (run marked b) (marks_are p token) ∙ ap (λ z. run marked z (all_marks p token)) (sym begins) ∙ all_added b n cur last r at (all_marks p token) (all_bring p token) (starting r)
      ∙ ap (behind b n cur last r at) (all_adding p n (length b.tables.declarations) token r)
