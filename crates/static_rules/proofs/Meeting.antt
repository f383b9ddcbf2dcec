-- The same clauses, in terms of the tables that are built of the text in front.
use Rattle.std.specs.Prelude.{◌≡◌, ◌<◌, ℕ, Bool, true, false, List, ◌∷◌, ◌++◌, length, Option, Some, None, slice_get}
use Rattle.std.specs.List.{list_any}
use Rattle.std.specs.Str.{bytes_eq}
use Rattle.sim_base.specs.declared.numbering.DeclNo.{DeclNo}
use Rattle.sim_base.specs.declared.rule.Rule.TheVariants as r
use Rattle.sim_tree.specs.declared.expr.Identifier.{Identifier}
use Rattle.sim_tree.specs.Syntax.{Program}
use Rattle.sim_scope.specs.Building.{Breaks, BuildingOf, Declares, DeclaresClass, DeclaresProcedure, Headed, Inner, Mark, Moded, Opens, Parameter, Specified, block_around, found_in, in_class, is_by_name, is_match, is_procedure, level_in, marked, mode_allowed, most_declarations, most_levels, token_in, unspecified_at}
use Rattle.sim_scope.specs.Declare.{declaring, empty}
use Rattle.sim_scope.specs.Runs.{run}
use Rattle.sim_scope.specs.Scopes.{declared_in, entry_of}
use Rattle.sim_scope.specs.Tables.{BlockOf}
use Rattle.sim_scope.specs.Walk.{program_events}
use Rattle.sim_scope.specs.declared.types.BlockKind.{BlockKind}
use Rattle.sim_scope.specs.declared.types.Entry.{Entry}
use Rattle.sim_scope.specs.declared.types.Entry.TheVariants as entry
use Rattle.sim_scope.specs.declared.types.FormalKind.{FormalKind}
use Rattle.sim_scope.specs.declared.types.Mode.{Mode}
use Rattle.sim_scope.specs.declared.types.SimType.{SimType}
use Rattle.sim_scope.specs.declared.types.WrittenMode.{WrittenMode}

-- Something that is met in the text of a program, and the tables of the text in front of it.
pub record Met (p : Program) (m : Mark) (front : BuildingOf) : Type 0 where
  pub before : List Mark
  pub behind : List Mark
  pub all : program_events declaring p ≡ before ++ m ∷ behind
  pub known : front ≡ run marked empty before

-- the innermost block that is open there, with what it has declared so far
pub record IsOpen (front : BuildingOf) (row : BlockOf) : Type 0 where
  pub block : ℕ
  pub current : front.current ≡ Some block
  pub is : slice_get front.tables.blocks block ≡ Some row

-- an identifier that is declared, and as what
pub data IsDeclared (front : BuildingOf) : Mark → Identifier → Entry → Type 0 where
  as_itself : {x : Identifier} {e : Entry} → IsDeclared front (Declares x e) x e
  as_procedure : {x : Identifier} {result : Option SimType}
      → IsDeclared front (DeclaresProcedure x result) x (entry.Procedure result (length front.tables.blocks))
  as_class : {x : Identifier} → IsDeclared front (DeclaresClass x) x (entry.Class (length front.tables.blocks))
  as_parameter : {x : Identifier} → IsDeclared front (Parameter x) x (entry.Unspecified None)

-- whether a block has declared an identifier of this name
abbrev pub has_name : BlockOf → List ℕ → Bool
has_name row name = list_any (bytes_eq name) row.names

-- whether a declaration is a procedure that matches the virtual of its name in the same block, which has no match yet
abbrev pub matches : BuildingOf → Entry → Option DeclNo → Bool
matches front e None = false
matches front e (Some d) = is_match e (entry_of front.tables d)

abbrev pub is_its_match : BuildingOf → BlockOf → List ℕ → Entry → Bool
is_its_match front row name e = matches front e (declared_in (Some row) name)

-- an identifier that its block has declared in front of it; a virtual and its match are no double
pub data IsDouble (front : BuildingOf) (m : Mark) (x : Identifier) : Type 0 where
  double : {e : Entry} {row : BlockOf} → IsDeclared front m x e → IsOpen front row → has_name row x.name ≡ true
      → is_its_match front row x.name e ≡ false → IsDouble front m x

-- one that it has not declared, or a match
pub data IsNew (front : BuildingOf) (m : Mark) (x : Identifier) : Type 0 where
  first_one : {e : Entry} {row : BlockOf} → IsDeclared front m x e → IsOpen front row → has_name row x.name ≡ false → IsNew front m x
  match : {e : Entry} {row : BlockOf} → IsDeclared front m x e → IsOpen front row → has_name row x.name ≡ true
      → is_its_match front row x.name e ≡ true → IsNew front m x

-- S1, at the later identifier
pub data DeclaredTwice (p : Program) : (token : ℕ) → Type 0 where
  declared_twice : {m : Mark} {front : BuildingOf} {x : Identifier} → Met p m front → IsDouble front m x → DeclaredTwice p x.token.0

-- L3, at the identifier with as many in front of it as a program may declare
pub data TooManyDeclarations (p : Program) : (token : ℕ) → Type 0 where
  one_more : {m : Mark} {front : BuildingOf} {x : Identifier} → Met p m front → IsNew front m x → front.own ≡ most_declarations
      → TooManyDeclarations p x.token.0

-- L1, at the first token of a block, a procedure or a class at a level past the last one
pub data TooManyLevels (p : Program) : (token : ℕ) → Type 0 where
  too_deep : {k : BlockKind} {text first : ℕ} {front : BuildingOf} → Met p (Opens k text first) front
      → most_levels < level_in k (block_around front.tables front.current) → TooManyLevels p text

-- A parameter of the heading that no specification has named yet, with the mode that is written for it.
abbrev pub unspecified_there : BuildingOf → List ℕ → Option (Option WrittenMode)
unspecified_there front name = unspecified_at front.tables (found_in front.tables front.current name)

-- S4, at an identifier that is specified and is no parameter, or is specified before; and at a parameter without a specification
pub data SpecificationDisagrees (p : Program) : (token : ℕ) → Type 0 where
  no_parameter : {x : Identifier} {k : FormalKind} {ty : Option SimType} {front : BuildingOf} → Met p (Specified x k ty) front
      → unspecified_there front x.name ≡ None → SpecificationDisagrees p x.token.0
  no_specification : {x : Identifier} {mode : Option WrittenMode} {front : BuildingOf} → Met p (Headed x) front
      → unspecified_there front x.name ≡ Some mode → SpecificationDisagrees p x.token.0

-- S5, at an identifier of the mode part that is no parameter, or that it names before, or by name in a class, or whose kind and type may not be
-- passed so; and at the parameter of a class that is a procedure
pub data ModeNotAllowed (p : Program) : (token : ℕ) → Type 0 where
  of_no_parameter : {x : Identifier} {m : Mode} {front : BuildingOf} → Met p (Moded x m) front → unspecified_there front x.name ≡ None
      → ModeNotAllowed p x.token.0
  twice : {x : Identifier} {m : Mode} {front : BuildingOf} {w : WrittenMode} → Met p (Moded x m) front
      → unspecified_there front x.name ≡ Some (Some w) → ModeNotAllowed p x.token.0
  by_name_in_class : {x : Identifier} {m : Mode} {front : BuildingOf} → Met p (Moded x m) front → unspecified_there front x.name ≡ Some None
      → is_by_name m ≡ true → in_class front ≡ true → ModeNotAllowed p x.token.0
  not_so : {x : Identifier} {k : FormalKind} {ty : Option SimType} {front : BuildingOf} {w : WrittenMode} → Met p (Specified x k ty) front
      → unspecified_there front x.name ≡ Some (Some w) → mode_allowed w.mode k ty ≡ false → ModeNotAllowed p w.token.0
  procedure_of_class : {x : Identifier} {k : FormalKind} {ty : Option SimType} {front : BuildingOf} {d : DeclNo} {mode : Option WrittenMode}
      → Met p (Specified x k ty) front → found_in front.tables front.current x.name ≡ Some d → unspecified_there front x.name ≡ Some mode
      → is_procedure k ≡ true → in_class front ≡ true → ModeNotAllowed p (token_in (slice_get front.tables.declarations d.0))

-- S6, at a second `inner` in the statement list of the body of a class, and at one elsewhere
pub data InnerOutOfPlace (p : Program) : (token : ℕ) → Type 0 where
  second_one : {token other : ℕ} {front : BuildingOf} {row : BlockOf} → Met p (Inner token) front → IsOpen front row → row.inner ≡ Some other
      → InnerOutOfPlace p token
  elsewhere : {token : ℕ} {front : BuildingOf} → Met p (Breaks token r.InnerOutOfPlace) front → InnerOutOfPlace p token
