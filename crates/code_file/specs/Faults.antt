-- What is wrong with bytes that are no code file: the rule that they break, and the place. In front of the place stands what a code file
-- has there; so there is one place at most, and it is the least.
use Rattle.std.specs.Prelude.{◌≡◌, ◌≢◌, ◌⊎◌, ℕ, ◌-◌, ◌<◌, ◌≤◌, List, ◌∷◌, ◌++◌, length, take, slice_index}
use Rattle.std.specs.Int.{w32, w64, from_le_bytes}
use Rattle.sim_code.specs.Code.{CodeOf}
use Rattle.code_file.specs.declared.rule.CodeRule.{CodeRule}
use Rattle.code_file.specs.declared.rule.CodeRule.TheVariants.{NoHeader, EndsEarly, OutOfRange, NotZero, AfterEnd}
use Rattle.code_file.specs.Fields.{Field, Listed, Opcode, Unused, bytes_of, size}
use Rattle.code_file.specs.Spelling.{IsCode, code_fields, header, largest, spelling}
use Rattle.code_file.specs.Table.{instructions}

-- The header and then fields of a code, up to a field in whose place these bytes are left.
pub record ComesTo (bytes : List ℕ) (next : Field) (left : List ℕ) : Type 0 where
  pub code : CodeOf
  pub is_code : IsCode code
  pub front : List Field
  pub after : List Field
  pub fields : code_fields code ≡ front ++ next ∷ after
  pub parts : bytes ≡ header ++ (bytes_of front ++ left)

-- the place at which these bytes are left
abbrev pub place_of : (bytes left : List ℕ) → ℕ
place_of bytes left = length bytes - length left

-- the field is there, and its number is none of the list
abbrev pub IsOutOfRange : Field → (left : List ℕ) → Type 0
IsOutOfRange (Listed last n) left = (4 ≤ length left) × (last < from_le_bytes w32 left)
IsOutOfRange (Opcode n) left = (1 ≤ length left) × (instructions ≤ slice_index left 0)
IsOutOfRange _ left = ⊥

-- the instruction has no such operand, and there is one
abbrev pub IsUsed : Field → (left : List ℕ) → Type 0
IsUsed Unused left = (8 ≤ length left) × (0 < from_le_bytes w64 left)
IsUsed _ left = ⊥

-- the end of the bytes, inside a field
abbrev pub EndsInside : List ℕ → ℕ → Type 0
EndsInside bytes place = (next : Field) × (left : List ℕ) × ComesTo bytes next left × (length left < size next) × (place ≡ length bytes)

abbrev pub HasOutOfRange : List ℕ → ℕ → Type 0
HasOutOfRange bytes place = (next : Field) × (left : List ℕ) × ComesTo bytes next left × IsOutOfRange next left × (place ≡ place_of bytes left)

abbrev pub HasUsed : List ℕ → ℕ → Type 0
HasUsed bytes place = (next : Field) × (left : List ℕ) × ComesTo bytes next left × IsUsed next left × (place ≡ place_of bytes left)

-- the first byte behind a code
abbrev pub EndsAt : List ℕ → ℕ → Type 0
EndsAt bytes place = (code : CodeOf) × (left : List ℕ) × IsCode code × (bytes ≡ spelling code ++ left) × (place ≡ length (spelling code))

-- Of a file that is too long, the bytes up to the limit are looked at: what is wrong in them comes first.
abbrev pub Breaks : List ℕ → CodeRule → (place : ℕ) → Type 0
Breaks bytes NoHeader place = (place ≡ 0) × (take 8 bytes ≢ header)
Breaks bytes EndsEarly place = (length bytes ≤ largest) × EndsInside bytes place
Breaks bytes OutOfRange place = HasOutOfRange (take largest bytes) place
Breaks bytes NotZero place = HasUsed (take largest bytes) place
Breaks bytes AfterEnd place = (place < length bytes) × (EndsAt (take largest bytes) place ⊎ EndsInside (take largest bytes) place)
