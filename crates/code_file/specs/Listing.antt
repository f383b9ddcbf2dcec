-- Code as text: a line for each instruction.
use Rattle.std.specs.Prelude.{ℕ, suc, ℤ, List, [], ◌∷◌, ◌++◌, codes, decimal}
use Rattle.std.specs.List.{flat_map}
use Rattle.std.specs.Fmt.{signed_decimal}
use Rattle.sim_code.specs.declared.instr.Lined.{Lined}
use Rattle.sim_code.specs.Code.{CodeOf}
use Rattle.code_file.specs.Table.{row_of}

abbrev pub listed_operand : ℤ → List ℕ
listed_operand z = codes " " ++ signed_decimal z

-- the index, a blank, the name, each operand behind a blank, and the line
abbrev pub listed_line : (index : ℕ) → Lined → List ℕ
listed_line index l =
    decimal index ++ (codes " " ++ ((row_of l.instr).name ++ (flat_map listed_operand (row_of l.instr).operands ++
    (codes " ; line " ++ (decimal l.line.0 ++ codes "\n")))))

abbrev pub listing_from : (index : ℕ) → List Lined → List ℕ
listing_from index [] = []
listing_from index (l ∷ ls) = listed_line index l ++ listing_from (suc index) ls

abbrev pub listing_of : CodeOf → List ℕ
listing_of c = listing_from 0 c.instrs
