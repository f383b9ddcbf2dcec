-- The formats of an instruction with its line, and of a code.
use Rattle.std.proofs.Common.{◌≡◌, ℕ, ◌<◌, ltb, ℤ, List, [], ◌∷◌, ◌++◌, length, refl, sym, ap, ◌∙◌}
use Rattle.std.specs.List.{AllByRecursion}
use Rattle.std.proofs.lemmas.List.{append-nil}
use Rattle.sim_code.specs.declared.instr.Lined.{Lined}
use Rattle.sim_code.specs.Code.{CodeOf}
use Rattle.code_file.specs.Fields.{Field, Number, Opcode}
use Rattle.code_file.specs.Table.{instructions, row_of}
use Rattle.code_file.specs.Spelling.{HasTypes, block_fields, class_fields, code_fields, lined_fields, list_fields, operand_fields, section, text_fields, thunk_fields}
use Rattle.code_file.specs.Reading.{◌>>=◌, block_at, class_at, code_at, done, instr_of, lined_at, list_at, number_at, opcode_at, operand_at, operand_count, section_at, text_at, thunk_at}
use Rattle.code_file.proofs.Formats.{IsFormat, done_format, same_fields, seq}
use Rattle.code_file.proofs.FieldFormats.{number_format, opcode_format}
use Rattle.code_file.proofs.TableLemmas.{op0, op1, op2, operand_field, operands_split, op0_unused, op1_unused, op2_unused, op0_first, op1_first, op2_first, number_below, count_is, instr_again, made_number, made_operands}
use Rattle.code_file.proofs.OperandFormats.{UnusedIsZero, operand_format}
use Rattle.code_file.proofs.RecordFormats.{all_any, section_format, text_format, block_format, class_format, thunk_format, list_format}

abbrev ops_of : Lined → List ℤ
ops_of l = (row_of l.instr).operands

-- the operand fields of a line from one on
abbrev from2 : Lined → List Field
from2 l = operand_field (ltb 2 (length (ops_of l))) (op2 (ops_of l)) ∷ Number l.line.0 ∷ []

abbrev from1 : Lined → List Field
from1 l = operand_field (ltb 1 (length (ops_of l))) (op1 (ops_of l)) ∷ from2 l

abbrev from0 : Lined → List Field
from0 l = operand_field (ltb 0 (length (ops_of l))) (op0 (ops_of l)) ∷ from1 l

abbrev Numbered : ℕ → Lined → Type 0
Numbered number l = Unit {0} × ((row_of l.instr).number ≡ number)

counted : (number : ℕ) (l : Lined) → Numbered number l → operand_count number ≡ length (ops_of l)
counted number l h = ap operand_count (sym h.1) ∙ count_is l.instr

-- what is made of a number and three operands
abbrev made : (number : ℕ) (a b c : ℤ) (line : ℕ) → Lined
made number a b c line = record { instr = instr_of number a b c; line = record { 0 = line } }

made_again : (number : ℕ) (a b c : ℤ) (line : ℕ) (l : Lined) → (row_of l.instr).number ≡ number → op0 (ops_of l) ≡ a → op1 (ops_of l) ≡ b → op2 (ops_of l) ≡ c → l.line.0 ≡ line → l ≡ made number a b c line
made_again number a b c line l en ea eb ec el =
    let instr : l.instr ≡ instr_of number a b c = sym (instr_again l.instr) ∙ (λ i. instr_of (en i) (ea i) (eb i) (ec i)) in
    λ i. record { instr = instr i; line = record { 0 = el i } }

pub lined_format : IsFormat lined_at (λ _. Unit {0}) lined_fields
unfolding lined_at
lined_format =
    seq opcode_at (λ n. n < instructions) (λ n. Opcode n ∷ []) (λ number. operand_at (ltb 0 (operand_count number)) >>= λ a. operand_at (ltb 1 (operand_count number)) >>= λ b. operand_at (ltb 2 (operand_count number)) >>= λ c. number_at >>= λ line. done (record { instr = instr_of number a b c; line = record { 0 = line } })) (λ (l : Lined). Unit {0}) lined_fields (λ (l : Lined). (row_of l.instr).number) (λ (l : Lined). operand_fields (ops_of l) ++ Number l.line.0 ∷ []) (record {
      first = opcode_format;
      then = λ number v. same_fields (operand_at (ltb 0 (operand_count number)) >>= λ a. operand_at (ltb 1 (operand_count number)) >>= λ b. operand_at (ltb 2 (operand_count number)) >>= λ c. number_at >>= λ line. done (record { instr = instr_of number a b c; line = record { 0 = line } })) (Numbered number) from0 (λ (l : Lined). operand_fields (ops_of l) ++ Number l.line.0 ∷ []) (λ l w. sym (operands_split (ops_of l) (Number l.line.0 ∷ [])))
          (seq (operand_at (ltb 0 (operand_count number))) (UnusedIsZero (ltb 0 (operand_count number))) (λ z. operand_field (ltb 0 (operand_count number)) z ∷ []) (λ a. operand_at (ltb 1 (operand_count number)) >>= λ b. operand_at (ltb 2 (operand_count number)) >>= λ c. number_at >>= λ line. done (record { instr = instr_of number a b c; line = record { 0 = line } })) (λ (l : Lined). Numbered number l) from0 (λ (l : Lined). op0 (ops_of l)) from1 (record {
            first = operand_format (ltb 0 (operand_count number));
            then = λ a va. seq (operand_at (ltb 1 (operand_count number))) (UnusedIsZero (ltb 1 (operand_count number))) (λ z. operand_field (ltb 1 (operand_count number)) z ∷ []) (λ b. operand_at (ltb 2 (operand_count number)) >>= λ c. number_at >>= λ line. done (record { instr = instr_of number a b c; line = record { 0 = line } })) (λ (l : Lined). (Numbered number l) × (op0 (ops_of l) ≡ a)) from1 (λ (l : Lined). op1 (ops_of l)) from2 (record {
              first = operand_format (ltb 1 (operand_count number));
              then = λ b vb. seq (operand_at (ltb 2 (operand_count number))) (UnusedIsZero (ltb 2 (operand_count number))) (λ z. operand_field (ltb 2 (operand_count number)) z ∷ []) (λ c. number_at >>= λ line. done (record { instr = instr_of number a b c; line = record { 0 = line } })) (λ (l : Lined). ((Numbered number l) × (op0 (ops_of l) ≡ a)) × (op1 (ops_of l) ≡ b)) from2 (λ (l : Lined). op2 (ops_of l)) (λ (l : Lined). Number l.line.0 ∷ []) (record {
                first = operand_format (ltb 2 (operand_count number));
                then = λ c vc. seq number_at (λ _. Unit {0}) (λ n. Number n ∷ []) (λ line. done (record { instr = instr_of number a b c; line = record { 0 = line } })) (λ (l : Lined). (((Numbered number l) × (op0 (ops_of l) ≡ a)) × (op1 (ops_of l) ≡ b)) × (op2 (ops_of l) ≡ c)) (λ (l : Lined). Number l.line.0 ∷ []) (λ (l : Lined). l.line.0) (λ (l : Lined). []) (record {
                  first = number_format;
                  then = λ line vl. done_format (made number a b c line) (λ (l : Lined). (((Numbered number l × (op0 (ops_of l) ≡ a)) × (op1 (ops_of l) ≡ b)) × (op2 (ops_of l) ≡ c)) × (l.line.0 ≡ line))
                      (((((tt, made_number number a b c v), ap op0 (made_operands number a b c v) ∙ op0_first (operand_count number) a b c va), ap op1 (made_operands number a b c v) ∙ op1_first (operand_count number) a b c vb), ap op2 (made_operands number a b c v) ∙ op2_first (operand_count number) a b c vc), refl)
                      (λ l w. made_again number a b c line l w.0.0.0.0.1 w.0.0.0.1 w.0.0.1 w.0.1 w.1);
                  part_valid = λ l w. tt;
                  in_two = λ l w. refl;
                });
                part_valid = λ l w u. op2_unused (ops_of l) (ap (ltb 2) (sym (counted number l w.0.0)) ∙ u);
                in_two = λ l w. ap (λ (n : ℕ). operand_field (ltb 2 n) (op2 (ops_of l)) ∷ (Number l.line.0 ∷ [])) (sym (counted number l w.0.0));
              });
              part_valid = λ l w u. op1_unused (ops_of l) (ap (ltb 1) (sym (counted number l w.0)) ∙ u);
              in_two = λ l w. ap (λ (n : ℕ). operand_field (ltb 1 n) (op1 (ops_of l)) ∷ from2 l) (sym (counted number l w.0));
            });
            part_valid = λ l w u. op0_unused (ops_of l) (ap (ltb 0) (sym (counted number l w)) ∙ u);
            in_two = λ l w. ap (λ (n : ℕ). operand_field (ltb 0 n) (op0 (ops_of l)) ∷ from1 l) (sym (counted number l w));
          }));
      part_valid = λ l w. number_below l.instr;
      in_two = λ l w. refl;
    })

pub code_format : IsFormat code_at (λ c. AllByRecursion HasTypes c.blocks) code_fields
unfolding code_at
code_format =
    seq (section_at text_at) (AllByRecursion (λ _. Unit {0})) (section text_fields) (λ texts. section_at block_at >>= λ blocks. section_at class_at >>= λ classes. section_at thunk_at >>= λ thunks. section_at list_at >>= λ actual_lists. section_at lined_at >>= λ instrs. done (record { texts = texts; blocks = blocks; classes = classes; thunks = thunks; actual_lists = actual_lists; instrs = instrs })) (λ (c : CodeOf). AllByRecursion HasTypes c.blocks) (code_fields) (λ (c : CodeOf). c.texts) (λ (c : CodeOf). section block_fields c.blocks ++ (section class_fields c.classes ++ (section thunk_fields c.thunks ++ (section list_fields c.actual_lists ++ (section lined_fields c.instrs))))) (record {
      first = section_format text_at (λ _. Unit {0}) text_fields text_format;
      then = λ texts v0. seq (section_at block_at) (AllByRecursion HasTypes) (section block_fields) (λ blocks. section_at class_at >>= λ classes. section_at thunk_at >>= λ thunks. section_at list_at >>= λ actual_lists. section_at lined_at >>= λ instrs. done (record { texts = texts; blocks = blocks; classes = classes; thunks = thunks; actual_lists = actual_lists; instrs = instrs })) (λ (c : CodeOf). (AllByRecursion HasTypes c.blocks) × (c.texts ≡ texts)) (λ (c : CodeOf). section block_fields c.blocks ++ (section class_fields c.classes ++ (section thunk_fields c.thunks ++ (section list_fields c.actual_lists ++ (section lined_fields c.instrs))))) (λ (c : CodeOf). c.blocks) (λ (c : CodeOf). section class_fields c.classes ++ (section thunk_fields c.thunks ++ (section list_fields c.actual_lists ++ (section lined_fields c.instrs)))) (record {
        first = section_format block_at HasTypes block_fields block_format;
        then = λ blocks v1. seq (section_at class_at) (AllByRecursion (λ _. Unit {0})) (section class_fields) (λ classes. section_at thunk_at >>= λ thunks. section_at list_at >>= λ actual_lists. section_at lined_at >>= λ instrs. done (record { texts = texts; blocks = blocks; classes = classes; thunks = thunks; actual_lists = actual_lists; instrs = instrs })) (λ (c : CodeOf). ((AllByRecursion HasTypes c.blocks) × (c.texts ≡ texts)) × (c.blocks ≡ blocks)) (λ (c : CodeOf). section class_fields c.classes ++ (section thunk_fields c.thunks ++ (section list_fields c.actual_lists ++ (section lined_fields c.instrs)))) (λ (c : CodeOf). c.classes) (λ (c : CodeOf). section thunk_fields c.thunks ++ (section list_fields c.actual_lists ++ (section lined_fields c.instrs))) (record {
          first = section_format class_at (λ _. Unit {0}) class_fields class_format;
          then = λ classes v2. seq (section_at thunk_at) (AllByRecursion (λ _. Unit {0})) (section thunk_fields) (λ thunks. section_at list_at >>= λ actual_lists. section_at lined_at >>= λ instrs. done (record { texts = texts; blocks = blocks; classes = classes; thunks = thunks; actual_lists = actual_lists; instrs = instrs })) (λ (c : CodeOf). (((AllByRecursion HasTypes c.blocks) × (c.texts ≡ texts)) × (c.blocks ≡ blocks)) × (c.classes ≡ classes)) (λ (c : CodeOf). section thunk_fields c.thunks ++ (section list_fields c.actual_lists ++ (section lined_fields c.instrs))) (λ (c : CodeOf). c.thunks) (λ (c : CodeOf). section list_fields c.actual_lists ++ (section lined_fields c.instrs)) (record {
            first = section_format thunk_at (λ _. Unit {0}) thunk_fields thunk_format;
            then = λ thunks v3. seq (section_at list_at) (AllByRecursion (λ _. Unit {0})) (section list_fields) (λ actual_lists. section_at lined_at >>= λ instrs. done (record { texts = texts; blocks = blocks; classes = classes; thunks = thunks; actual_lists = actual_lists; instrs = instrs })) (λ (c : CodeOf). ((((AllByRecursion HasTypes c.blocks) × (c.texts ≡ texts)) × (c.blocks ≡ blocks)) × (c.classes ≡ classes)) × (c.thunks ≡ thunks)) (λ (c : CodeOf). section list_fields c.actual_lists ++ (section lined_fields c.instrs)) (λ (c : CodeOf). c.actual_lists) (λ (c : CodeOf). section lined_fields c.instrs) (record {
              first = section_format list_at (λ _. Unit {0}) list_fields list_format;
              then = λ actual_lists v4. seq (section_at lined_at) (AllByRecursion (λ _. Unit {0})) (section lined_fields) (λ instrs. done (record { texts = texts; blocks = blocks; classes = classes; thunks = thunks; actual_lists = actual_lists; instrs = instrs })) (λ (c : CodeOf). (((((AllByRecursion HasTypes c.blocks) × (c.texts ≡ texts)) × (c.blocks ≡ blocks)) × (c.classes ≡ classes)) × (c.thunks ≡ thunks)) × (c.actual_lists ≡ actual_lists)) (λ (c : CodeOf). section lined_fields c.instrs) (λ (c : CodeOf). c.instrs) (λ (c : CodeOf). []) (record {
                first = section_format lined_at (λ _. Unit {0}) lined_fields lined_format;
                then = λ instrs v5. done_format (record { texts = texts; blocks = blocks; classes = classes; thunks = thunks; actual_lists = actual_lists; instrs = instrs }) (λ (c : CodeOf). ((((((AllByRecursion HasTypes c.blocks) × (c.texts ≡ texts)) × (c.blocks ≡ blocks)) × (c.classes ≡ classes)) × (c.thunks ≡ thunks)) × (c.actual_lists ≡ actual_lists)) × (c.instrs ≡ instrs)) ((((((v1, refl), refl), refl), refl), refl), refl) (λ c w. λ i. record { texts = w.0.0.0.0.0.1 i; blocks = w.0.0.0.0.1 i; classes = w.0.0.0.1 i; thunks = w.0.0.1 i; actual_lists = w.0.1 i; instrs = w.1 i });
                part_valid = λ c w. all_any c.instrs;
                in_two = λ c w. sym (append-nil (section lined_fields c.instrs));
              });
              part_valid = λ c w. all_any c.actual_lists;
              in_two = λ c w. refl;
            });
            part_valid = λ c w. all_any c.thunks;
            in_two = λ c w. refl;
          });
          part_valid = λ c w. all_any c.classes;
          in_two = λ c w. refl;
        });
        part_valid = λ c w. w.0;
        in_two = λ c w. refl;
      });
      part_valid = λ c w. all_any c.texts;
      in_two = λ c w. refl;
    })
