-- The fields that a code file is made of. All numbers are little-endian.
use Rattle.std.specs.Prelude.{ℕ, ◌<◌, ◌≤◌, ◌^◌, ℤ, FitsSigned, List, [], ◌∷◌, length}
use Rattle.std.specs.Int.{w32, w64, to_le_bytes, cast_unsigned}
use Rattle.std.specs.List.{flat_map, AllByRecursion}
use Rattle.code_file.specs.Table.{instructions}

pub data Field : Type 0 where
  -- four bytes: a number
  Number : (n : ℕ) → Field
  -- four bytes: a number of a list, from 0 to the last one
  Listed : (last n : ℕ) → Field
  -- one byte: which instruction it is
  Opcode : (n : ℕ) → Field
  -- eight bytes: an operand
  Operand : (z : ℤ) → Field
  -- eight bytes for an operand that the instruction has not: 0
  Unused : Field
  -- the bytes of a text
  Characters : (bytes : List ℕ) → Field

abbrev pub bytes_of_field : Field → List ℕ
bytes_of_field (Number n) = to_le_bytes w32 n
bytes_of_field (Listed last n) = to_le_bytes w32 n
bytes_of_field (Opcode n) = n ∷ []
bytes_of_field (Operand z) = to_le_bytes w64 (cast_unsigned w64 z)
bytes_of_field Unused = to_le_bytes w64 0
bytes_of_field (Characters bytes) = bytes

-- the bytes of fields that stand one behind the other
abbrev pub bytes_of : List Field → List ℕ
bytes_of fields = flat_map bytes_of_field fields

-- how many bytes a field has
abbrev pub size : Field → ℕ
size (Number n) = 4
size (Listed last n) = 4
size (Opcode n) = 1
size (Operand z) = 8
size Unused = 8
size (Characters bytes) = length bytes

-- what a field can hold
abbrev pub Fits : Field → Type 0
Fits (Number n) = n < 2 ^ 32
Fits (Listed last n) = n ≤ last
Fits (Opcode n) = n < instructions
Fits (Operand z) = FitsSigned w64 z
Fits Unused = Unit {0}
Fits (Characters bytes) = AllByRecursion (λ b. b < 256) bytes
