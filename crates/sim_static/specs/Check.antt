-- The answer of the static rules: three rounds, each a list of the rules that are broken. The answer is the least of the first round that has one.
use Rattle.std.specs.Prelude.{◌≡◌, ⊤, ℕ, List, length, Option, Some, None, Result, Ok, Err}
use Rattle.sim_tree.specs.declared.program.Program.{Program as Tree}
use Rattle.sim_tree.specs.Syntax.{Program}
use Rattle.sim_tree.specs.SyntaxOfProgram.{program_syntax}
use Rattle.prefix_bind.specs.Prefixes.{least_of, prefix_faults, prefixed}
use Rattle.virtual_match.specs.Protections.{second_faults}
use Rattle.virtual_match.specs.Qualifying.{qualified}
use Rattle.inspect_types.specs.Connecting.{connected}
use Rattle.sim_scope.specs.declared.bound.Bound.{Bound}
use Rattle.sim_scope.specs.declared.found.Fault.{Fault}
use Rattle.sim_scope.specs.declared.refusal.StaticRefusal.{StaticRefusal}
use Rattle.sim_scope.specs.declared.refusal.StaticRefusal.TheVariants as refusal
use Rattle.sim_scope.specs.declared.scopes.Denotation.{Denotation}
use Rattle.sim_scope.specs.declared.types.SimType.{SimType}
use Rattle.sim_scope.specs.Building.{BuildingOf}
use Rattle.sim_scope.specs.Declare.{declared_by}
use Rattle.sim_scope.specs.Found.{Findings, found, lesser_of, unknown}
use Rattle.sim_scope.specs.Runs.{run}
use Rattle.sim_scope.specs.Statements.{judging}
use Rattle.sim_scope.specs.Tables.{Tables}
use Rattle.sim_scope.specs.Walk.{program_events}

pub data Checked : Type 0 where
  -- the first broken rule
  Refused : Fault → Checked
  -- the block tables, what each identifier denotes, the block in which it and the object of each `this` is found, and the type of each expression
  Allowed : Tables → (uses : List (Option Denotation)) → (found_in : List (Option ℕ)) → (types : List (Option SimType)) → Checked

-- the first round: what the declarations of a program break, its prefixes, and the cells of its instances
abbrev pub first_least : BuildingOf → Option Fault
first_least b = lesser_of b.least (least_of (prefix_faults (prefixed b.tables)))

-- the tables with the class of each prefix, of each reference and of each connection
unfoldable pub completed : Tables → Program → Tables
completed s p = connected (qualified (prefixed s)) p

-- The second round: qualifications, virtuals and protection. What is connected is in sight of a qualification that is written inside.
abbrev pub second_least : Tables → Option Fault
second_least s = least_of (second_faults s)

-- the last round: what the bodies of a program break, use and are
unfoldable pub judged : (tokens : ℕ) → Tables → Program → Findings
judged tokens tables p = run found (unknown tokens) (program_events (judging tables) p)

abbrev pub last_answer : Tables → Findings → Option Fault → Checked
last_answer tables f (Some fault) = Refused fault
last_answer tables f None = Allowed tables f.uses f.found_in f.types

abbrev pub second_answer : (tokens : ℕ) → Program → Tables → Option Fault → Checked
second_answer tokens p tables (Some fault) = Refused fault
second_answer tokens p tables None = last_answer tables (judged tokens tables p) (judged tokens tables p).least

abbrev pub first_answer : (tokens : ℕ) → Program → Tables → Option Fault → Checked
first_answer tokens p tables (Some fault) = Refused fault
first_answer tokens p tables None = second_answer tokens p (completed tables p) (second_least (completed tables p))

-- the answer of a program with so many tokens
unfoldable pub answer : (tokens : ℕ) → Program → Checked
answer tokens p = first_answer tokens p (declared_by p).tables (first_least (declared_by p))

abbrev pub check_of : Tree → Checked
check_of p = answer (length p.lines.items) (program_syntax p)

-- A program with what the definition gives it: it is allowed, and its tables, what its identifiers denote, where they are found and the types of
-- its expressions are those of its check.
unfoldable pub IsBound : Bound → Type 0
IsBound b = check_of b.program ≡ Allowed b.scopes b.uses.items b.found_in.items b.types.items

abbrev pub Answers : Tree → Result Bound StaticRefusal → Type 0
Answers p (Ok b) = (b.program ≡ p) × (check_of p ≡ Allowed b.scopes b.uses.items b.found_in.items b.types.items)
Answers p (Err (refusal.Broken rule token)) = check_of p ≡ Refused (record { token = token; rule = rule })
Answers p (Err refusal.Memory) = ⊤
