-- Reading from left to right, with the first fault that is met.
use Rattle.std.specs.Prelude.{◌≡◌, ℕ, zero, suc, ◌+◌, ◌-◌, ◌≤◌, Bool, true, false, not, ◌&&◌, ◌==◌, nat_lt, if◌then◌else◌, ℤ, pos, List, [], ◌∷◌, length, take, drop, slice_get, Option, Some, None, Result, Ok, Err}
use Rattle.std.specs.Int.{w32, w64, from_le_bytes, cast_signed}
use Rattle.std.specs.Str.{bytes_eq}
use Rattle.sim_code.specs.declared.code.BlockKind.{BlockKind}
use Rattle.sim_code.specs.declared.code.BlockKind.TheVariants as kind
use Rattle.sim_code.specs.declared.code.CodeActual.{CodeActual}
use Rattle.sim_code.specs.declared.code.CodeFormal.{CodeFormal}
use Rattle.sim_code.specs.declared.code.CodeMode.{CodeMode}
use Rattle.sim_code.specs.declared.code.CodeMode.TheVariants as mode
use Rattle.sim_code.specs.declared.code.CodeType.{CodeType}
use Rattle.sim_code.specs.declared.code.CodeType.TheVariants as type
use Rattle.sim_code.specs.declared.code.FormalShape.{FormalShape}
use Rattle.sim_code.specs.declared.code.FormalShape.TheVariants as shape
use Rattle.sim_code.specs.declared.code.Match.{Match}
use Rattle.sim_code.specs.declared.code.ThunkRecord.{ThunkRecord}
use Rattle.sim_code.specs.declared.instr.Instr.{Instr}
use Rattle.sim_code.specs.declared.instr.Instr.TheVariants as i
use Rattle.sim_code.specs.declared.instr.Lined.{Lined}
use Rattle.sim_code.specs.Code.{BlockOf, ClassOf, CodeOf}
use Rattle.code_file.specs.declared.rule.CodeRule.{CodeRule}
use Rattle.code_file.specs.declared.rule.CodeRule.TheVariants.{NoHeader, EndsEarly, OutOfRange, NotZero, AfterEnd}
use Rattle.code_file.specs.declared.fault.CodeRefusal.{CodeRefusal}
use Rattle.code_file.specs.declared.fault.CodeRefusal.TheVariants as refusal
use Rattle.code_file.specs.declared.fault.Fault.{Fault}
use Rattle.code_file.specs.declared.fault.Fault.TheVariants as fault
use Rattle.code_file.specs.Spelling.{header, largest}
use Rattle.code_file.specs.Table.{last_instruction}

-- A fault: the rule, and how many bytes are left from its place on.
abbrev pub Found : Type 0 → Type 0
Found A = Result A (CodeRule × ℕ)

-- What reads a value at the front answers it with the bytes behind it.
abbrev pub Reader : Type 0 → Type 0
Reader A = List ℕ → Found (A × List ℕ)

abbrev pub after : {A B : Type 0} → Found A → (A → Found B) → Found B
after (Ok x) go = go x
after (Err e) go = Err e

infixl 10 ◌>>=◌
abbrev pub ◌>>=◌ : {A B : Type 0} → Reader A → (A → Reader B) → Reader B
(p >>= go) bytes = after (p bytes) (λ x. go x.0 x.1)

abbrev pub done : {A : Type 0} → A → Reader A
done x bytes = Ok (x, bytes)

-- What a function returned, seen by view, is what reading gives, unless memory ran out.
abbrev pub Fails : {Y : Type 0} → Fault → Found Y → Type 0
Fails fault.Memory read = Unit {0}
Fails (fault.Broken rule left) read = read ≡ Err (rule, left)

abbrev pub Gives : {X Y : Type 0} → (X → Y) → Result X Fault → Found Y → Type 0
Gives view (Ok x) read = read ≡ Ok (view x)
Gives view (Err e) read = Fails e read

-- ---- fields

abbrev pub number_at : Reader ℕ
number_at bytes = if nat_lt (length bytes) 4 then Err (EndsEarly, 0) else Ok (from_le_bytes w32 (take 4 bytes), drop 4 bytes)

-- refused where a test fails of what was read, which has as many bytes as stand in front of the rest
abbrev pub refused_by : {A : Type 0} → (wrong : Bool) → CodeRule → (left : ℕ) → A → Found A
refused_by wrong rule left x = if wrong then Err (rule, left) else Ok x

unfoldable pub listed_at : (last : ℕ) → Reader ℕ
listed_at last bytes = after (number_at bytes) (λ x. refused_by (nat_lt last x.0) OutOfRange (length bytes) x)

unfoldable pub opcode_at : Reader ℕ
opcode_at [] = Err (EndsEarly, 0)
opcode_at (n ∷ bytes) = refused_by (nat_lt last_instruction n) OutOfRange (suc (length bytes)) (n, bytes)

abbrev pub long_at : Reader ℤ
long_at bytes = if nat_lt (length bytes) 8 then Err (EndsEarly, 0) else Ok (cast_signed w64 (from_le_bytes w64 (take 8 bytes)), drop 8 bytes)

abbrev pub is_zero : ℤ → Bool
is_zero (pos zero) = true
is_zero _ = false

unfoldable pub operand_at : (used : Bool) → Reader ℤ
operand_at used bytes = after (long_at bytes) (λ x. refused_by (not used && not (is_zero x.0)) NotZero (length bytes) x)

unfoldable pub characters_at : (count : ℕ) → Reader (List ℕ)
characters_at count bytes = if nat_lt (length bytes) count then Err (EndsEarly, 0) else Ok (take count bytes, drop count bytes)

-- ---- what is chosen from a list

abbrev pub truth_of : ℕ → Bool
truth_of n = not (n == 0)

abbrev pub kind_of : ℕ → BlockKind
kind_of n = if n == 0 then kind.SubBlock else if n == 1 then kind.Procedure else if n == 2 then kind.Object else kind.Prefixed

abbrev pub type_of : ℕ → CodeType
type_of n = if n == 0 then type.Nothing else if n == 1 then type.Integer else if n == 2 then type.Boolean else if n == 3 then type.Character else if n == 4 then type.Text else type.Reference

abbrev pub mode_of : ℕ → CodeMode
mode_of n = if n == 0 then mode.Value else if n == 1 then mode.Reference else mode.Name

abbrev pub shape_of : ℕ → FormalShape
shape_of n = if n == 0 then shape.Simple else if n == 1 then shape.Array else shape.Procedure

unfoldable pub truth_at : Reader Bool
truth_at = do
  n ← listed_at 1
  done (truth_of n)

unfoldable pub kind_at : Reader BlockKind
kind_at = do
  n ← listed_at 3
  done (kind_of n)

unfoldable pub type_at : Reader CodeType
type_at = do
  n ← listed_at 5
  done (type_of n)

unfoldable pub mode_at : Reader CodeMode
mode_at = do
  n ← listed_at 2
  done (mode_of n)

unfoldable pub shape_at : Reader FormalShape
shape_at = do
  n ← listed_at 2
  done (shape_of n)

-- ---- records

unfoldable pub records_at : {A : Type 0} → Reader A → (count : ℕ) → Reader (List A)
records_at p zero = done []
records_at p (suc count) = do
  x ← p
  xs ← records_at p count
  done (x ∷ xs)

unfoldable pub section_at : {A : Type 0} → Reader A → Reader (List A)
section_at p = do
  count ← number_at
  records_at p count

unfoldable pub text_at : Reader (List ℕ)
text_at = do
  count ← number_at
  characters_at count

unfoldable pub formal_at : Reader CodeFormal
formal_at = do
  mode ← mode_at
  shape ← shape_at
  code_type ← type_at
  class ← number_at
  done (record { mode = mode; shape = shape; code_type = code_type; class = class })

unfoldable pub block_at : Reader BlockOf
block_at = do
  kind ← kind_at
  level ← number_at
  cells ← number_at
  temps ← number_at
  room ← number_at
  entry ← number_at
  class_free ← truth_at
  result_type ← type_at
  class ← number_at
  count ← number_at
  types ← records_at type_at (cells + temps)
  formals ← records_at formal_at count
  done (record { kind = kind; level = level; cells = cells; temps = temps; room = room; entry = entry; class_free = class_free; result_type = result_type; class = class; types = types; formals = formals })

unfoldable pub match_at : Reader Match
match_at = do
  virtual_number ← number_at
  block ← number_at
  done (record { virtual_number = virtual_number; block = block })

unfoldable pub class_at : Reader ClassOf
class_at = do
  prefix ← number_at
  block ← number_at
  declarations ← number_at
  statements ← number_at
  after_inner ← number_at
  process ← truth_at
  matches ← section_at match_at
  done (record { prefix = prefix; block = block; declarations = declarations; statements = statements; after_inner = after_inner; process = process; matches = matches })

unfoldable pub thunk_at : Reader ThunkRecord
thunk_at = do
  entry ← number_at
  room ← number_at
  done (record { entry = entry; room = room })

unfoldable pub actual_at : Reader CodeActual
actual_at = do
  code_type ← type_at
  variable ← truth_at
  array ← type_at
  procedure ← truth_at
  result_type ← type_at
  formals ← number_at
  class ← number_at
  done (record { code_type = code_type; variable = variable; array = array; procedure = procedure; result_type = result_type; formals = formals; class = class })

unfoldable pub list_at : Reader (List CodeActual)
list_at = section_at actual_at

-- ---- instructions

-- how many operands an instruction has, and what it is with them
pub record Maker : Type 0 where
  pub count : ℕ
  pub make : ℤ → ℤ → ℤ → Instr

abbrev pub maker : ℕ → (ℤ → ℤ → ℤ → Instr) → Maker
maker count make = record { count = count; make = make }

-- in the order of their numbers
abbrev pub makers : List Maker
makers =
    maker 0 (λ a b c. i.Halt) ∷
    maker 1 (λ a b c. i.Int a) ∷
    maker 1 (λ a b c. i.Bool a) ∷
    maker 1 (λ a b c. i.Char a) ∷
    maker 1 (λ a b c. i.TextK a) ∷
    maker 0 (λ a b c. i.None) ∷
    maker 0 (λ a b c. i.NoText) ∷
    maker 1 (λ a b c. i.Link a) ∷
    maker 1 (λ a b c. i.This a) ∷
    maker 3 (λ a b c. i.Addr a b c) ∷
    maker 2 (λ a b c. i.AddrR a b) ∷
    maker 1 (λ a b c. i.AddrImg a) ∷
    maker 2 (λ a b c. i.Elem a b) ∷
    maker 0 (λ a b c. i.Fetch) ∷
    maker 0 (λ a b c. i.Put) ∷
    maker 2 (λ a b c. i.Load a b) ∷
    maker 2 (λ a b c. i.Store a b) ∷
    maker 0 (λ a b c. i.Dup) ∷
    maker 0 (λ a b c. i.Pop) ∷
    maker 0 (λ a b c. i.Swap) ∷
    maker 0 (λ a b c. i.Neg) ∷
    maker 0 (λ a b c. i.Add) ∷
    maker 0 (λ a b c. i.Sub) ∷
    maker 0 (λ a b c. i.Mul) ∷
    maker 0 (λ a b c. i.Div) ∷
    maker 0 (λ a b c. i.Pow) ∷
    maker 1 (λ a b c. i.Rel a) ∷
    maker 1 (λ a b c. i.RelT a) ∷
    maker 0 (λ a b c. i.Same) ∷
    maker 0 (λ a b c. i.SameT) ∷
    maker 0 (λ a b c. i.Not) ∷
    maker 0 (λ a b c. i.And) ∷
    maker 0 (λ a b c. i.Or) ∷
    maker 0 (λ a b c. i.Imp) ∷
    maker 0 (λ a b c. i.Eqv) ∷
    maker 1 (λ a b c. i.Is a) ∷
    maker 1 (λ a b c. i.In a) ∷
    maker 1 (λ a b c. i.Qua a) ∷
    maker 1 (λ a b c. i.Jump a) ∷
    maker 1 (λ a b c. i.JumpF a) ∷
    maker 0 (λ a b c. i.Tick) ∷
    maker 0 (λ a b c. i.StepTest) ∷
    maker 1 (λ a b c. i.Enter a) ∷
    maker 0 (λ a b c. i.Leave) ∷
    maker 2 (λ a b c. i.Call a b) ∷
    maker 0 (λ a b c. i.Return) ∷
    maker 1 (λ a b c. i.ProcVal a) ∷
    maker 1 (λ a b c. i.Virt a) ∷
    maker 1 (λ a b c. i.Check a) ∷
    maker 3 (λ a b c. i.Param a b c) ∷
    maker 1 (λ a b c. i.CallV a) ∷
    maker 1 (λ a b c. i.Thunk a) ∷
    maker 3 (λ a b c. i.NameVal a b c) ∷
    maker 3 (λ a b c. i.NameAddr a b c) ∷
    maker 0 (λ a b c. i.EndThunk) ∷
    maker 2 (λ a b c. i.New a b) ∷
    maker 2 (λ a b c. i.Pref a b) ∷
    maker 1 (λ a b c. i.NextDecl a) ∷
    maker 1 (λ a b c. i.Inner a) ∷
    maker 1 (λ a b c. i.EndLevel a) ∷
    maker 2 (λ a b c. i.Array a b) ∷
    maker 0 (λ a b c. i.CopyArr) ∷
    maker 0 (λ a b c. i.Keep) ∷
    maker 0 (λ a b c. i.AssignT) ∷
    maker 1 (λ a b c. i.Std a) ∷
    maker 1 (λ a b c. i.Act a) ∷
    maker 0 (λ a b c. i.Detach) ∷
    maker 0 (λ a b c. i.Attach) ∷
    maker 0 (λ a b c. i.Resume) ∷
    maker 0 (λ a b c. i.NotNone) ∷ []

abbrev pub made : Option Maker → (a b c : ℤ) → Instr
made None a b c = i.Halt
made (Some m) a b c = m.make a b c

unfoldable pub instr_of : (number : ℕ) (a b c : ℤ) → Instr
instr_of number a b c = made (slice_get makers number) a b c

abbrev pub counted : Option Maker → ℕ
counted None = 0
counted (Some m) = m.count

-- how many operands the instruction of a number has
unfoldable pub operand_count : ℕ → ℕ
operand_count number = counted (slice_get makers number)

unfoldable pub lined_at : Reader Lined
lined_at = do
  number ← opcode_at
  a ← operand_at (nat_lt 0 (operand_count number))
  b ← operand_at (nat_lt 1 (operand_count number))
  c ← operand_at (nat_lt 2 (operand_count number))
  line ← number_at
  done (record { instr = instr_of number a b c; line = record { 0 = line } })

-- ---- the file

unfoldable pub code_at : Reader CodeOf
code_at = do
  texts ← section_at text_at
  blocks ← section_at block_at
  classes ← section_at class_at
  thunks ← section_at thunk_at
  actual_lists ← section_at list_at
  instrs ← section_at lined_at
  done (record { texts = texts; blocks = blocks; classes = classes; thunks = thunks; actual_lists = actual_lists; instrs = instrs })

abbrev pub ended : CodeOf × List ℕ → Found CodeOf
ended x = if length x.1 == 0 then Ok x.0 else Err (AfterEnd, length x.1)

-- what bytes within the limit say
unfoldable pub file_at : List ℕ → Found CodeOf
file_at bytes = if bytes_eq (take 8 bytes) header then after (code_at (drop 8 bytes)) ended else Err (NoHeader, length bytes)

abbrev pub placed : (count : ℕ) → Found CodeOf → Found CodeOf
placed count (Ok code) = Ok code
placed count (Err fault) = Err (fault.0, count - fault.1)

-- where bytes past the limit were not looked at, more of them are no end but too many
abbrev pub limited_rule : CodeRule → CodeRule
limited_rule NoHeader = NoHeader
limited_rule EndsEarly = AfterEnd
limited_rule OutOfRange = OutOfRange
limited_rule NotZero = NotZero
limited_rule AfterEnd = AfterEnd

abbrev pub too_long : Found CodeOf → Found CodeOf
too_long (Ok code) = Err (AfterEnd, largest)
too_long (Err fault) = Err (limited_rule fault.0, largest - fault.1)

-- what bytes say, with the place of what is wrong
unfoldable pub read_of : List ℕ → Found CodeOf
read_of bytes = if nat_lt largest (length bytes) then too_long (file_at (take largest bytes)) else placed (length bytes) (file_at bytes)

-- what was answered is what reading gives, unless memory ran out
abbrev pub IsRead : CodeRefusal → Found CodeOf → Type 0
IsRead refusal.Memory read = Unit {0}
IsRead (refusal.Broken rule place) read = read ≡ Err (rule, place)

abbrev pub Tells : Result CodeOf CodeRefusal → Found CodeOf → Type 0
Tells (Ok code) read = read ≡ Ok code
Tells (Err refused) read = IsRead refused read

-- a fault's place lies in so many bytes
abbrev pub LeavesWithin : Fault → (count : ℕ) → Type 0
LeavesWithin fault.Memory count = Unit {0}
LeavesWithin (fault.Broken rule left) count = left ≤ count

abbrev pub limited : Fault → Fault
limited fault.Memory = fault.Memory
limited (fault.Broken rule left) = fault.Broken (limited_rule rule) left

abbrev pub refusal_of : Fault → (count : ℕ) → CodeRefusal
refusal_of fault.Memory count = refusal.Memory
refusal_of (fault.Broken rule left) count = refusal.Broken rule (count - left)
