-- What the functions on instructions answer.
use Rattle.std.proofs.Common.{◌≡◌, ℕ, suc, ◌<◌, ℤ, List, [], ◌∷◌, length, ltb, slice_get, Ok, SFits, of_z, refl, sym, ap, subst, ◌∙◌, to_z, w64, arith}
use Rattle.std.proofs.lemmas.Bool.{ltb-false}
use Rattle.std.proofs.lemmas.Int.{to_z-of_z}
use Rattle.code_file.specs.declared.rule.CodeRule.TheVariants.{OutOfRange}
use Rattle.code_file.specs.Table.{instructions, last_instruction, row_of}
use Rattle.code_file.specs.Reading.{instr_of, made, makers, opcode_at, operand_count}
use Rattle.code_file.proofs.FieldFormats.{refused_ok}
use Rattle.code_file.proofs.TableLemmas.{count_is, made_number}

abbrev again : ℤ → ℤ
again z = to_z w64 (of_z w64 z)

-- the instruction of a number that is known
pub known : (n k : ℕ) (a b c : ℤ) → SFits w64 a → SFits w64 b → SFits w64 c → n ≡ k → made (slice_get makers k) (again a) (again b) (again c) ≡ instr_of n a b c
unfolding instr_of
known n k a b c fa fb fc e = rw (to_z-of_z w64 a fa, to_z-of_z w64 b fb, to_z-of_z w64 c fc, e) refl

pub count_made : (n : ℕ) (a b c : ℤ) → n < instructions → length (row_of (instr_of n a b c)).operands ≡ operand_count n
count_made n a b c lt = sym (count_is (instr_of n a b c)) ∙ ap operand_count (made_number n a b c lt)

pub opcode_small : (bytes : List ℕ) (n : ℕ) (rest : List ℕ) → opcode_at bytes ≡ Ok (n, rest) → n < instructions
unfolding opcode_at
opcode_small [] n rest e = absurd cc
opcode_small (b ∷ bytes) n rest e =
    let g = refused_ok (ltb last_instruction b) OutOfRange (suc (length bytes)) (b, bytes) (n, rest) e in
    let is : b ≡ n = ap (λ (p : ℕ × List ℕ). p.0) g.1 in
    subst (λ (k : ℕ). k < instructions) is (omega (arith, ltb-false _ _ g.0))
