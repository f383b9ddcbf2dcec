-- How long a generated program is.
use Rattle.std.proofs.Common.{◌<◌, ◌≤◌, ◌+◌, ◌*◌, ◌^◌, ℕ, List, [], ◌∷◌, ◌++◌, length, arith, length-append}
use Rattle.std.specs.List.{flat_map, range_with_len}
use Rattle.std.specs.Prelude.{codes, decimal}
use Rattle.std.proofs.lemmas.Fmt.{length-decimal-le}
use Rattle.std.proofs.lemmas.List.FromFn.{length-range_with_len}
use Rattle.generated_program.specs.GeneratedProgram.{activation, first_lines, hold_time, last_lines}

short : (i : ℕ) → hold_time i < 10 ^ 2
short i = omega arith

line : (i : ℕ) → length (activation i) ≤ 20
line i =
    let digits : length (decimal (hold_time i)) ≤ 2 = length-decimal-le 2 (hold_time i) (omega arith) (short i) (omega (arith, short i)) in
    omega (arith, digits, length-append (codes "activate new p(") (decimal (hold_time i) ++ codes ");\n"), length-append (decimal (hold_time i)) (codes ");\n"))

lines : (is : List ℕ) → length (flat_map activation is) ≤ 20 * length is
lines [] = omega arith
lines (i ∷ is) = omega (arith, line i, lines is, length-append (activation i) (flat_map activation is))

-- first lines, activations and last lines, as they are put together
pub fits : (n : ℕ) → n ≤ 20000 → length ((first_lines ++ flat_map activation (range_with_len 1 n)) ++ last_lines) ≤ 2 ^ 20
fits n most =
    let middle : length (flat_map activation (range_with_len 1 n)) ≤ 20 * length (range_with_len 1 n) = lines (range_with_len 1 n) in
    omega (arith, most, middle, length-range_with_len 1 n, length-append (first_lines ++ flat_map activation (range_with_len 1 n)) last_lines, length-append first_lines (flat_map activation (range_with_len 1 n)))
