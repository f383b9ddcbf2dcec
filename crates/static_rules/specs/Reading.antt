-- A program is read from left to right. What is known at a place are the blocks that are open there, each with what it has declared so far, and how
-- many identifiers are declared.
use Rattle.std.specs.Prelude.{◌≡◌, ℕ, ◌+◌, Bool, true, false, not, ◌||◌, ◌&&◌, if◌then◌else◌, List, [], ◌∷◌, ◌++◌, Option, Some, None}
use Rattle.std.specs.Str.{bytes_eq}
use Rattle.sim_base.specs.declared.numbering.TokenNo.{TokenNo}
use Rattle.sim_tree.specs.declared.expr.Identifier.{Identifier}
use Rattle.sim_tree.specs.Syntax.{Program}
use Rattle.sim_scope.specs.Building.{Closes, Declares, DeclaresClass, DeclaresProcedure, Inner, Mark, Moded, Opens, Parameter, Specified, is_by_name, is_class}
use Rattle.sim_scope.specs.Declare.{declaring}
use Rattle.sim_scope.specs.Runs.{run}
use Rattle.sim_scope.specs.Tables.{deeper}
use Rattle.sim_scope.specs.Walk.{program_events}
use Rattle.sim_scope.specs.declared.types.BlockKind.{BlockKind}
use Rattle.sim_scope.specs.declared.types.Entry.{Entry}
use Rattle.sim_scope.specs.declared.types.Entry.TheVariants as entry
use Rattle.sim_scope.specs.declared.types.Mode.{Mode}
use Rattle.sim_scope.specs.declared.types.SimType.{SimType}
use Rattle.sim_scope.specs.declared.types.WrittenMode.{WrittenMode}

-- a block that is open: its kind, its level, and what has been met in it
pub record OpenBlock : Type 0 where
  pub kind : BlockKind
  pub level : ℕ
  pub own : List Mark

-- what is known at a place: the blocks that are open, the innermost first, and the number of declarations
pub record Reading : Type 0 where
  pub blocks : List OpenBlock
  pub count : ℕ

-- ---- identifiers in a block

-- What an identifier is in a block so far.
pub data Standing : Type 0 where
  -- the block has not declared it
  Absent : Standing
  -- it is a parameter that no specification has named: its token, and the mode that is written for it
  Unspecified : (token : ℕ) → Option WrittenMode → Standing
  -- it is a virtual procedure, and the block has declared no match of it
  Unmatched : Standing
  -- it is something else
  Known : Standing

abbrev pub is_procedure_entry : Entry → Bool
is_procedure_entry (entry.Procedure result block) = true
is_procedure_entry _ = false

-- what a declaration makes of its identifier
abbrev pub stands_as : (token : ℕ) → Entry → Standing
stands_as token (entry.Unspecified written) = Unspecified token written
stands_as token (entry.Virtual result None) = Unmatched
stands_as token _ = Known

abbrev pub after_declaration : (token : ℕ) → Entry → Standing → Standing
after_declaration token e Absent = stands_as token e
after_declaration token e Unmatched = if is_procedure_entry e then Known else Unmatched
after_declaration token e x = x

-- The mode part names it; a class has no parameters by name.
abbrev pub after_mode : (in_class : Bool) → TokenNo → Mode → Standing → Standing
after_mode in_class token m (Unspecified own None) =
    if is_by_name m && in_class then Unspecified own None else Unspecified own (Some (record { token = token; mode = m }))
after_mode in_class token m x = x

abbrev pub after_specification : Standing → Standing
after_specification (Unspecified own written) = Known
after_specification x = x

-- the block of a procedure or a class that is declared is of no matter here
abbrev pub a_procedure : Option SimType → Entry
a_procedure result = entry.Procedure result 0

abbrev pub a_class : Entry
a_class = entry.Class 0

abbrev pub a_parameter : Entry
a_parameter = entry.Unspecified None

-- what something that is met makes of an identifier
abbrev pub if_its_own : (name : List ℕ) → Identifier → (Standing → Standing) → Standing → Standing
if_its_own name x change st = if bytes_eq name x.name then change st else st

abbrev pub after_mark : (in_class : Bool) → (name : List ℕ) → Standing → Mark → Standing
after_mark c name st (Declares x e) = if_its_own name x (after_declaration x.token.0 e) st
after_mark c name st (DeclaresProcedure x result) = if_its_own name x (after_declaration x.token.0 (a_procedure result)) st
after_mark c name st (DeclaresClass x) = if_its_own name x (after_declaration x.token.0 a_class) st
after_mark c name st (Parameter x) = if_its_own name x (after_declaration x.token.0 a_parameter) st
after_mark c name st (Moded x m) = if_its_own name x (after_mode c x.token m) st
after_mark c name st (Specified x k ty) = if_its_own name x after_specification st
after_mark c name st _ = st

-- what an identifier is in a block
abbrev pub standing : OpenBlock → (name : List ℕ) → Standing
standing o name = run (after_mark (is_class o.kind) name) Absent o.own

-- ---- declarations

-- whether a block has the identifier already; a virtual and its match are no double
abbrev pub is_double : Standing → Entry → Bool
is_double Absent e = false
is_double Unmatched e = not (is_procedure_entry e)
is_double (Unspecified token written) e = true
is_double Known e = true

abbrev pub double_in : List OpenBlock → (name : List ℕ) → Entry → Bool
double_in [] name e = false
double_in (o ∷ os) name e = is_double (standing o name) e

abbrev pub new_in : List OpenBlock → (name : List ℕ) → Entry → Bool
new_in [] name e = false
new_in (o ∷ os) name e = not (is_double (standing o name) e)

-- an identifier that is declared, and as what
pub data IsDeclared : Mark → Identifier → Entry → Type 0 where
  as_itself : {x : Identifier} {e : Entry} → IsDeclared (Declares x e) x e
  as_procedure : {x : Identifier} {result : Option SimType} → IsDeclared (DeclaresProcedure x result) x (a_procedure result)
  as_class : {x : Identifier} → IsDeclared (DeclaresClass x) x a_class
  as_parameter : {x : Identifier} → IsDeclared (Parameter x) x a_parameter

-- a parameter without a specification so far: the mode that is written for it
abbrev pub unspecified : Standing → Option (Option WrittenMode)
unspecified (Unspecified token written) = Some written
unspecified _ = None

abbrev pub unspecified_in : List OpenBlock → (name : List ℕ) → Option (Option WrittenMode)
unspecified_in [] name = None
unspecified_in (o ∷ os) name = unspecified (standing o name)

-- whether the innermost block is a class
abbrev pub is_in_class : List OpenBlock → Bool
is_in_class [] = false
is_in_class (o ∷ os) = is_class o.kind

-- whether an `inner` has been met in a block
abbrev pub is_inner : Mark → Bool
is_inner (Inner token) = true
is_inner _ = false

abbrev pub has_inner : List Mark → Bool
has_inner [] = false
has_inner (m ∷ ms) = is_inner m || has_inner ms

abbrev pub inner_in : List OpenBlock → Bool
inner_in [] = false
inner_in (o ∷ os) = has_inner o.own

-- the level of a block that begins
abbrev pub level_inside : BlockKind → List OpenBlock → ℕ
level_inside k [] = 1
level_inside k (o ∷ os) = deeper k o.level

-- ---- reading

abbrev pub with_mark : OpenBlock → Mark → OpenBlock
with_mark o m = record { kind = o.kind; level = o.level; own = o.own ++ m ∷ [] }

abbrev pub met_inside : List OpenBlock → Mark → List OpenBlock
met_inside [] m = []
met_inside (o ∷ os) m = with_mark o m ∷ os

abbrev pub without_innermost : List OpenBlock → List OpenBlock
without_innermost [] = []
without_innermost (o ∷ os) = os

abbrev pub blocks_after : List OpenBlock → Mark → List OpenBlock
blocks_after os (Opens k text first) = record { kind = k; level = level_inside k os; own = [] } ∷ os
blocks_after os (Closes end) = without_innermost os
blocks_after os m = met_inside os m

abbrev pub one_if : Bool → ℕ
one_if true = 1
one_if false = 0

abbrev pub declared_by : List OpenBlock → Mark → ℕ
declared_by os (Declares x e) = one_if (new_in os x.name e)
declared_by os (DeclaresProcedure x result) = one_if (new_in os x.name (a_procedure result))
declared_by os (DeclaresClass x) = one_if (new_in os x.name a_class)
declared_by os (Parameter x) = one_if (new_in os x.name a_parameter)
declared_by os m = 0

unfoldable pub read : Reading → Mark → Reading
read r m = record { blocks = blocks_after r.blocks m; count = r.count + declared_by r.blocks m }

abbrev pub nothing_read : Reading
nothing_read = record { blocks = []; count = 0 }

-- something that is met in a program, and what is known in front of it
pub record Met (p : Program) (m : Mark) (front : Reading) : Type 0 where
  pub before : List Mark
  pub behind : List Mark
  pub all : program_events declaring p ≡ before ++ m ∷ behind
  pub known : front ≡ run read nothing_read before
