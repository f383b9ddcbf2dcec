-- The table of instructions, read in both directions.
use Rattle.std.proofs.Common.{◌≡◌, ℕ, zero, suc, ◌+◌, ◌<◌, Bool, true, false, ltb, ℤ, pos, List, [], ◌∷◌, ◌++◌, length, Some, slice_get, refl, sym, subst, ◌∙◌, arith, lit<}
use Rattle.std.proofs.lemmas.Bool.{ltb-false, lt-ltb}
use Rattle.sim_code.specs.declared.instr.Instr.{Instr}
use Rattle.sim_code.specs.declared.instr.Instr.TheVariants as i
use Rattle.code_file.specs.Fields.{Field, Operand, Unused}
use Rattle.code_file.specs.Spelling.{operand_fields}
use Rattle.code_file.specs.Table.{instructions, row_of}
use Rattle.code_file.specs.Reading.{Maker, makers, instr_of, operand_count}

-- ---- the operands one by one, and 0 where there is none

abbrev pub op0 : List ℤ → ℤ
op0 [] = pos 0
op0 (a ∷ _) = a

abbrev pub op1 : List ℤ → ℤ
op1 [] = pos 0
op1 (a ∷ []) = pos 0
op1 (a ∷ b ∷ _) = b

abbrev pub op2 : List ℤ → ℤ
op2 [] = pos 0
op2 (a ∷ []) = pos 0
op2 (a ∷ b ∷ []) = pos 0
op2 (a ∷ b ∷ c ∷ _) = c

abbrev pub operand_field : (used : Bool) → ℤ → Field
operand_field true z = Operand z
operand_field false z = Unused

pub operands_split : (ops : List ℤ) (l : List Field) → operand_fields ops ++ l ≡ operand_field (ltb 0 (length ops)) (op0 ops) ∷ operand_field (ltb 1 (length ops)) (op1 ops) ∷ operand_field (ltb 2 (length ops)) (op2 ops) ∷ l
operands_split [] l = refl
operands_split (a ∷ []) l = refl
operands_split (a ∷ b ∷ []) l = refl
operands_split (a ∷ b ∷ c ∷ ops) l =
    let t0 : ltb 0 (suc (suc (suc (length ops)))) ≡ true = lt-ltb _ _ (omega arith) in
    let t1 : ltb 1 (suc (suc (suc (length ops)))) ≡ true = lt-ltb _ _ (omega arith) in
    let t2 : ltb 2 (suc (suc (suc (length ops)))) ≡ true = lt-ltb _ _ (omega arith) in
    rw (t0, t1, t2) refl

pub op0_unused : (ops : List ℤ) → ltb 0 (length ops) ≡ false → op0 ops ≡ pos 0
op0_unused [] h = refl
op0_unused (a ∷ ops) h = absurd (omega (arith, ltb-false _ _ h))

pub op1_unused : (ops : List ℤ) → ltb 1 (length ops) ≡ false → op1 ops ≡ pos 0
op1_unused [] h = refl
op1_unused (a ∷ []) h = refl
op1_unused (a ∷ b ∷ ops) h = absurd (omega (arith, ltb-false _ _ h))

pub op2_unused : (ops : List ℤ) → ltb 2 (length ops) ≡ false → op2 ops ≡ pos 0
op2_unused [] h = refl
op2_unused (a ∷ []) h = refl
op2_unused (a ∷ b ∷ []) h = refl
op2_unused (a ∷ b ∷ c ∷ ops) h = absurd (omega (arith, ltb-false _ _ h))

-- the first ones of three
abbrev pub first_of : (count : ℕ) (a b c : ℤ) → List ℤ
first_of zero a b c = []
first_of (suc zero) a b c = a ∷ []
first_of (suc (suc zero)) a b c = a ∷ b ∷ []
first_of (suc (suc (suc _))) a b c = a ∷ b ∷ c ∷ []

pub op0_first : (k : ℕ) (a b c : ℤ) → (ltb 0 k ≡ false → a ≡ pos 0) → op0 (first_of k a b c) ≡ a
op0_first zero a b c h = sym (h refl)
op0_first (suc zero) a b c h = refl
op0_first (suc (suc zero)) a b c h = refl
op0_first (suc (suc (suc k))) a b c h = refl

pub op1_first : (k : ℕ) (a b c : ℤ) → (ltb 1 k ≡ false → b ≡ pos 0) → op1 (first_of k a b c) ≡ b
op1_first zero a b c h = sym (h refl)
op1_first (suc zero) a b c h = sym (h refl)
op1_first (suc (suc zero)) a b c h = refl
op1_first (suc (suc (suc k))) a b c h = refl

pub op2_first : (k : ℕ) (a b c : ℤ) → (ltb 2 k ≡ false → c ≡ pos 0) → op2 (first_of k a b c) ≡ c
op2_first zero a b c h = sym (h refl)
op2_first (suc zero) a b c h = sym (h refl)
op2_first (suc (suc zero)) a b c h = sym (h refl)
op2_first (suc (suc (suc k))) a b c h = refl

-- ---- from instructions to numbers

pub number_below : (instr : Instr) → (row_of instr).number < instructions
number_below i.Halt = lit< tt
number_below (i.Int a) = lit< tt
number_below (i.Bool a) = lit< tt
number_below (i.Char a) = lit< tt
number_below (i.TextK a) = lit< tt
number_below i.None = lit< tt
number_below i.NoText = lit< tt
number_below (i.Link a) = lit< tt
number_below (i.This a) = lit< tt
number_below (i.Addr a b c) = lit< tt
number_below (i.AddrR a b) = lit< tt
number_below (i.AddrImg a) = lit< tt
number_below (i.Elem a b) = lit< tt
number_below i.Fetch = lit< tt
number_below i.Put = lit< tt
number_below (i.Load a b) = lit< tt
number_below (i.Store a b) = lit< tt
number_below i.Dup = lit< tt
number_below i.Pop = lit< tt
number_below i.Swap = lit< tt
number_below i.Neg = lit< tt
number_below i.Add = lit< tt
number_below i.Sub = lit< tt
number_below i.Mul = lit< tt
number_below i.Div = lit< tt
number_below i.Pow = lit< tt
number_below (i.Rel a) = lit< tt
number_below (i.RelT a) = lit< tt
number_below i.Same = lit< tt
number_below i.SameT = lit< tt
number_below i.Not = lit< tt
number_below i.And = lit< tt
number_below i.Or = lit< tt
number_below i.Imp = lit< tt
number_below i.Eqv = lit< tt
number_below (i.Is a) = lit< tt
number_below (i.In a) = lit< tt
number_below (i.Qua a) = lit< tt
number_below (i.Jump a) = lit< tt
number_below (i.JumpF a) = lit< tt
number_below i.Tick = lit< tt
number_below i.StepTest = lit< tt
number_below (i.Enter a) = lit< tt
number_below i.Leave = lit< tt
number_below (i.Call a b) = lit< tt
number_below i.Return = lit< tt
number_below (i.ProcVal a) = lit< tt
number_below (i.Virt a) = lit< tt
number_below (i.Check a) = lit< tt
number_below (i.Param a b c) = lit< tt
number_below (i.CallV a) = lit< tt
number_below (i.Thunk a) = lit< tt
number_below (i.NameVal a b c) = lit< tt
number_below (i.NameAddr a b c) = lit< tt
number_below i.EndThunk = lit< tt
number_below (i.New a b) = lit< tt
number_below (i.Pref a b) = lit< tt
number_below (i.NextDecl a) = lit< tt
number_below (i.Inner a) = lit< tt
number_below (i.EndLevel a) = lit< tt
number_below (i.Array a b) = lit< tt
number_below i.CopyArr = lit< tt
number_below i.Keep = lit< tt
number_below i.AssignT = lit< tt
number_below (i.Std a) = lit< tt
number_below (i.Act a) = lit< tt
number_below i.Detach = lit< tt
number_below i.Attach = lit< tt
number_below i.Resume = lit< tt
number_below i.NotNone = lit< tt

pub count_is : (instr : Instr) → operand_count (row_of instr).number ≡ length (row_of instr).operands
unfolding operand_count
count_is i.Halt = refl
count_is (i.Int a) = refl
count_is (i.Bool a) = refl
count_is (i.Char a) = refl
count_is (i.TextK a) = refl
count_is i.None = refl
count_is i.NoText = refl
count_is (i.Link a) = refl
count_is (i.This a) = refl
count_is (i.Addr a b c) = refl
count_is (i.AddrR a b) = refl
count_is (i.AddrImg a) = refl
count_is (i.Elem a b) = refl
count_is i.Fetch = refl
count_is i.Put = refl
count_is (i.Load a b) = refl
count_is (i.Store a b) = refl
count_is i.Dup = refl
count_is i.Pop = refl
count_is i.Swap = refl
count_is i.Neg = refl
count_is i.Add = refl
count_is i.Sub = refl
count_is i.Mul = refl
count_is i.Div = refl
count_is i.Pow = refl
count_is (i.Rel a) = refl
count_is (i.RelT a) = refl
count_is i.Same = refl
count_is i.SameT = refl
count_is i.Not = refl
count_is i.And = refl
count_is i.Or = refl
count_is i.Imp = refl
count_is i.Eqv = refl
count_is (i.Is a) = refl
count_is (i.In a) = refl
count_is (i.Qua a) = refl
count_is (i.Jump a) = refl
count_is (i.JumpF a) = refl
count_is i.Tick = refl
count_is i.StepTest = refl
count_is (i.Enter a) = refl
count_is i.Leave = refl
count_is (i.Call a b) = refl
count_is i.Return = refl
count_is (i.ProcVal a) = refl
count_is (i.Virt a) = refl
count_is (i.Check a) = refl
count_is (i.Param a b c) = refl
count_is (i.CallV a) = refl
count_is (i.Thunk a) = refl
count_is (i.NameVal a b c) = refl
count_is (i.NameAddr a b c) = refl
count_is i.EndThunk = refl
count_is (i.New a b) = refl
count_is (i.Pref a b) = refl
count_is (i.NextDecl a) = refl
count_is (i.Inner a) = refl
count_is (i.EndLevel a) = refl
count_is (i.Array a b) = refl
count_is i.CopyArr = refl
count_is i.Keep = refl
count_is i.AssignT = refl
count_is (i.Std a) = refl
count_is (i.Act a) = refl
count_is i.Detach = refl
count_is i.Attach = refl
count_is i.Resume = refl
count_is i.NotNone = refl

pub instr_again : (instr : Instr) → instr_of (row_of instr).number (op0 (row_of instr).operands) (op1 (row_of instr).operands) (op2 (row_of instr).operands) ≡ instr
unfolding instr_of
instr_again i.Halt = refl
instr_again (i.Int a) = refl
instr_again (i.Bool a) = refl
instr_again (i.Char a) = refl
instr_again (i.TextK a) = refl
instr_again i.None = refl
instr_again i.NoText = refl
instr_again (i.Link a) = refl
instr_again (i.This a) = refl
instr_again (i.Addr a b c) = refl
instr_again (i.AddrR a b) = refl
instr_again (i.AddrImg a) = refl
instr_again (i.Elem a b) = refl
instr_again i.Fetch = refl
instr_again i.Put = refl
instr_again (i.Load a b) = refl
instr_again (i.Store a b) = refl
instr_again i.Dup = refl
instr_again i.Pop = refl
instr_again i.Swap = refl
instr_again i.Neg = refl
instr_again i.Add = refl
instr_again i.Sub = refl
instr_again i.Mul = refl
instr_again i.Div = refl
instr_again i.Pow = refl
instr_again (i.Rel a) = refl
instr_again (i.RelT a) = refl
instr_again i.Same = refl
instr_again i.SameT = refl
instr_again i.Not = refl
instr_again i.And = refl
instr_again i.Or = refl
instr_again i.Imp = refl
instr_again i.Eqv = refl
instr_again (i.Is a) = refl
instr_again (i.In a) = refl
instr_again (i.Qua a) = refl
instr_again (i.Jump a) = refl
instr_again (i.JumpF a) = refl
instr_again i.Tick = refl
instr_again i.StepTest = refl
instr_again (i.Enter a) = refl
instr_again i.Leave = refl
instr_again (i.Call a b) = refl
instr_again i.Return = refl
instr_again (i.ProcVal a) = refl
instr_again (i.Virt a) = refl
instr_again (i.Check a) = refl
instr_again (i.Param a b c) = refl
instr_again (i.CallV a) = refl
instr_again (i.Thunk a) = refl
instr_again (i.NameVal a b c) = refl
instr_again (i.NameAddr a b c) = refl
instr_again i.EndThunk = refl
instr_again (i.New a b) = refl
instr_again (i.Pref a b) = refl
instr_again (i.NextDecl a) = refl
instr_again (i.Inner a) = refl
instr_again (i.EndLevel a) = refl
instr_again (i.Array a b) = refl
instr_again i.CopyArr = refl
instr_again i.Keep = refl
instr_again i.AssignT = refl
instr_again (i.Std a) = refl
instr_again (i.Act a) = refl
instr_again i.Detach = refl
instr_again i.Attach = refl
instr_again i.Resume = refl
instr_again i.NotNone = refl

-- ---- from numbers to instructions

pub record MakerFits (n : ℕ) (m : Maker) : Type 0 where
  pub number : (a b c : ℤ) → (row_of (m.make a b c)).number ≡ n
  pub operands : (a b c : ℤ) → (row_of (m.make a b c)).operands ≡ first_of m.count a b c

abbrev MakersFit : (from : ℕ) → List Maker → Type 0
MakersFit from [] = Unit {0}
MakersFit from (m ∷ ms) = MakerFits from m × MakersFit (suc from) ms

abbrev fitting : {n : ℕ} {m : Maker} → ((a b c : ℤ) → (row_of (m.make a b c)).number ≡ n) → ((a b c : ℤ) → (row_of (m.make a b c)).operands ≡ first_of m.count a b c) → MakerFits n m
fitting p q = record { number = p; operands = q }

makers_fit : MakersFit 0 makers
makers_fit = (
  record { number = λ a b c. refl; operands = λ a b c. refl },
  (
    record { number = λ a b c. refl; operands = λ a b c. refl },
    (
      record { number = λ a b c. refl; operands = λ a b c. refl },
      (
        record { number = λ a b c. refl; operands = λ a b c. refl },
        (
          record { number = λ a b c. refl; operands = λ a b c. refl },
          (
            record { number = λ a b c. refl; operands = λ a b c. refl },
            (
              record { number = λ a b c. refl; operands = λ a b c. refl },
              (
                record { number = λ a b c. refl; operands = λ a b c. refl },
                (
                  record { number = λ a b c. refl; operands = λ a b c. refl },
                  (
                    record { number = λ a b c. refl; operands = λ a b c. refl },
                    (
                      record { number = λ a b c. refl; operands = λ a b c. refl },
                      (
                        record { number = λ a b c. refl; operands = λ a b c. refl },
                        (
                          record { number = λ a b c. refl; operands = λ a b c. refl },
                          (
                            record { number = λ a b c. refl; operands = λ a b c. refl },
                            (
                              record { number = λ a b c. refl; operands = λ a b c. refl },
                              (
                                record { number = λ a b c. refl; operands = λ a b c. refl },
                                (
                                  record { number = λ a b c. refl; operands = λ a b c. refl },
                                  (
                                    record { number = λ a b c. refl; operands = λ a b c. refl },
                                    (
                                      record { number = λ a b c. refl; operands = λ a b c. refl },
                                      (
                                        record { number = λ a b c. refl; operands = λ a b c. refl },
                                        (
                                          record { number = λ a b c. refl; operands = λ a b c. refl },
                                          (
                                            record { number = λ a b c. refl; operands = λ a b c. refl },
                                            (
                                              record { number = λ a b c. refl; operands = λ a b c. refl },
                                              (
                                                record { number = λ a b c. refl; operands = λ a b c. refl },
                                                (
                                                  record { number = λ a b c. refl; operands = λ a b c. refl },
                                                  (
                                                    record { number = λ a b c. refl; operands = λ a b c. refl },
                                                    (
                                                      record { number = λ a b c. refl; operands = λ a b c. refl },
                                                      (
                                                        record { number = λ a b c. refl; operands = λ a b c. refl },
                                                        (
                                                          record { number = λ a b c. refl; operands = λ a b c. refl },
                                                          (
                                                            record { number = λ a b c. refl; operands = λ a b c. refl },
                                                            (
                                                              record { number = λ a b c. refl; operands = λ a b c. refl },
                                                              (
                                                                record { number = λ a b c. refl; operands = λ a b c. refl },
                                                                (
                                                                  record { number = λ a b c. refl; operands = λ a b c. refl },
                                                                  (
                                                                    record { number = λ a b c. refl; operands = λ a b c. refl },
                                                                    (
                                                                      record { number = λ a b c. refl; operands = λ a b c. refl },
                                                                      (
                                                                        record { number = λ a b c. refl; operands = λ a b c. refl },
                                                                        (
                                                                          record { number = λ a b c. refl; operands = λ a b c. refl },
                                                                          (
                                                                            record { number = λ a b c. refl; operands = λ a b c. refl },
                                                                            (
                                                                              record { number = λ a b c. refl; operands = λ a b c. refl },
                                                                              (
                                                                                record { number = λ a b c. refl; operands = λ a b c. refl },
                                                                                (
                                                                                  record { number = λ a b c. refl; operands = λ a b c. refl },
                                                                                  (
                                                                                    record { number = λ a b c. refl; operands = λ a b c. refl },
                                                                                    (
                                                                                      record { number = λ a b c. refl; operands = λ a b c. refl },
                                                                                      (
                                                                                        record { number = λ a b c. refl; operands = λ a b c. refl },
                                                                                        (
                                                                                          record { number = λ a b c. refl; operands = λ a b c. refl },
                                                                                          (
                                                                                            record { number = λ a b c. refl; operands = λ a b c. refl },
                                                                                            (
                                                                                              record { number = λ a b c. refl; operands = λ a b c. refl },
                                                                                              (
                                                                                                record { number = λ a b c. refl; operands = λ a b c. refl },
                                                                                                (
                                                                                                  record { number = λ a b c. refl; operands = λ a b c. refl },
                                                                                                  (
                                                                                                    record { number = λ a b c. refl; operands = λ a b c. refl },
                                                                                                    (
                                                                                                      record { number = λ a b c. refl; operands = λ a b c. refl },
                                                                                                      (
                                                                                                        record { number = λ a b c. refl; operands = λ a b c. refl },
                                                                                                        (
                                                                                                          record { number = λ a b c. refl; operands = λ a b c. refl },
                                                                                                          (
                                                                                                            record { number = λ a b c. refl; operands = λ a b c. refl },
                                                                                                            (
                                                                                                              record { number = λ a b c. refl; operands = λ a b c. refl },
                                                                                                              (
                                                                                                                record { number = λ a b c. refl; operands = λ a b c. refl },
                                                                                                                (
                                                                                                                  record { number = λ a b c. refl; operands = λ a b c. refl },
                                                                                                                  (
                                                                                                                    record { number = λ a b c. refl; operands = λ a b c. refl },
                                                                                                                    (
                                                                                                                      record { number = λ a b c. refl; operands = λ a b c. refl },
                                                                                                                      (
                                                                                                                        record { number = λ a b c. refl; operands = λ a b c. refl },
                                                                                                                        (
                                                                                                                          record { number = λ a b c. refl; operands = λ a b c. refl },
                                                                                                                          (
                                                                                                                            record { number = λ a b c. refl; operands = λ a b c. refl },
                                                                                                                            (
                                                                                                                              record { number = λ a b c. refl; operands = λ a b c. refl },
                                                                                                                              (
                                                                                                                                record { number = λ a b c. refl; operands = λ a b c. refl },
                                                                                                                                (
                                                                                                                                  record { number = λ a b c. refl; operands = λ a b c. refl },
                                                                                                                                  (
                                                                                                                                    record { number = λ a b c. refl; operands = λ a b c. refl },
                                                                                                                                    (
                                                                                                                                      record { number = λ a b c. refl; operands = λ a b c. refl },
                                                                                                                                      (
                                                                                                                                        record { number = λ a b c. refl; operands = λ a b c. refl },
                                                                                                                                        (
                                                                                                                                          record { number = λ a b c. refl; operands = λ a b c. refl },
                                                                                                                                          (
                                                                                                                                            record { number = λ a b c. refl; operands = λ a b c. refl },
                                                                                                                                            tt,
                                                                                                                                          ),
                                                                                                                                        ),
                                                                                                                                      ),
                                                                                                                                    ),
                                                                                                                                  ),
                                                                                                                                ),
                                                                                                                              ),
                                                                                                                            ),
                                                                                                                          ),
                                                                                                                        ),
                                                                                                                      ),
                                                                                                                    ),
                                                                                                                  ),
                                                                                                                ),
                                                                                                              ),
                                                                                                            ),
                                                                                                          ),
                                                                                                        ),
                                                                                                      ),
                                                                                                    ),
                                                                                                  ),
                                                                                                ),
                                                                                              ),
                                                                                            ),
                                                                                          ),
                                                                                        ),
                                                                                      ),
                                                                                    ),
                                                                                  ),
                                                                                ),
                                                                              ),
                                                                            ),
                                                                          ),
                                                                        ),
                                                                      ),
                                                                    ),
                                                                  ),
                                                                ),
                                                              ),
                                                            ),
                                                          ),
                                                        ),
                                                      ),
                                                    ),
                                                  ),
                                                ),
                                              ),
                                            ),
                                          ),
                                        ),
                                      ),
                                    ),
                                  ),
                                ),
                              ),
                            ),
                          ),
                        ),
                      ),
                    ),
                  ),
                ),
              ),
            ),
          ),
        ),
      ),
    ),
  ),
)

pub record Found (from n : ℕ) (ms : List Maker) : Type 0 where
  pub maker : Maker
  pub there : slice_get ms n ≡ Some maker
  pub fits : MakerFits (from + n) maker

maker_found : (from n : ℕ) (ms : List Maker) → MakersFit from ms → n < length ms → Found from n ms
maker_found from n [] h lt = absurd (omega arith)
maker_found from zero (m ∷ ms) h lt = record { maker = m; there = refl; fits = subst (λ (k : ℕ). MakerFits k m) (omega arith) h.0 }
maker_found from (suc n) (m ∷ ms) h lt =
    let f = maker_found (suc from) n ms h.1 (omega arith) in
    record { maker = f.maker; there = f.there; fits = subst (λ (k : ℕ). MakerFits k f.maker) (omega arith) f.fits }

found_at : (n : ℕ) → n < instructions → Found 0 n makers
found_at n lt = maker_found 0 n makers makers_fit lt

pub made_number : (n : ℕ) (a b c : ℤ) → n < instructions → (row_of (instr_of n a b c)).number ≡ n
unfolding instr_of
made_number n a b c lt =
    let f = found_at n lt in
    rw f.there (f.fits.number a b c ∙ omega arith)

pub made_operands : (n : ℕ) (a b c : ℤ) → n < instructions → (row_of (instr_of n a b c)).operands ≡ first_of (operand_count n) a b c
unfolding instr_of operand_count
made_operands n a b c lt =
    let f = found_at n lt in
    rw f.there (f.fits.operands a b c)
