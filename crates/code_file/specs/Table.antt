-- The instructions: the number of each, its name, and the operands that it has.
use Rattle.std.specs.Prelude.{ℕ, ℤ, pos, List, [], ◌∷◌, codes}
use Rattle.sim_code.specs.declared.instr.Instr.{Instr}
use Rattle.sim_code.specs.declared.instr.Instr.TheVariants as i

pub record Row : Type 0 where
  pub number : ℕ
  pub name : List ℕ
  pub operands : List ℤ

abbrev pub row : ℕ → List ℕ → List ℤ → Row
row number name operands = record { number = number; name = name; operands = operands }

-- the numbers go from 0 to that of the last instruction
abbrev pub last_instruction : ℕ
last_instruction = 69

abbrev pub instructions : ℕ
instructions = 70

-- three operands: those that there are, then 0
abbrev pub padded : List ℤ → List ℤ
padded [] = pos 0 ∷ pos 0 ∷ pos 0 ∷ []
padded (a ∷ []) = a ∷ pos 0 ∷ pos 0 ∷ []
padded (a ∷ b ∷ []) = a ∷ b ∷ pos 0 ∷ []
padded (a ∷ b ∷ c ∷ _) = a ∷ b ∷ c ∷ []

abbrev pub row_of : Instr → Row
row_of i.Halt = row 0 (codes "Halt") []
row_of (i.Int a) = row 1 (codes "Int") (a ∷ [])
row_of (i.Bool a) = row 2 (codes "Bool") (a ∷ [])
row_of (i.Char a) = row 3 (codes "Char") (a ∷ [])
row_of (i.TextK a) = row 4 (codes "TextK") (a ∷ [])
row_of i.None = row 5 (codes "None") []
row_of i.NoText = row 6 (codes "NoText") []
row_of (i.Link a) = row 7 (codes "Link") (a ∷ [])
row_of (i.This a) = row 8 (codes "This") (a ∷ [])
row_of (i.Addr a b c) = row 9 (codes "Addr") (a ∷ b ∷ c ∷ [])
row_of (i.AddrR a b) = row 10 (codes "AddrR") (a ∷ b ∷ [])
row_of (i.AddrImg a) = row 11 (codes "AddrImg") (a ∷ [])
row_of (i.Elem a b) = row 12 (codes "Elem") (a ∷ b ∷ [])
row_of i.Fetch = row 13 (codes "Fetch") []
row_of i.Put = row 14 (codes "Put") []
row_of (i.Load a b) = row 15 (codes "Load") (a ∷ b ∷ [])
row_of (i.Store a b) = row 16 (codes "Store") (a ∷ b ∷ [])
row_of i.Dup = row 17 (codes "Dup") []
row_of i.Pop = row 18 (codes "Pop") []
row_of i.Swap = row 19 (codes "Swap") []
row_of i.Neg = row 20 (codes "Neg") []
row_of i.Add = row 21 (codes "Add") []
row_of i.Sub = row 22 (codes "Sub") []
row_of i.Mul = row 23 (codes "Mul") []
row_of i.Div = row 24 (codes "Div") []
row_of i.Pow = row 25 (codes "Pow") []
row_of (i.Rel a) = row 26 (codes "Rel") (a ∷ [])
row_of (i.RelT a) = row 27 (codes "RelT") (a ∷ [])
row_of i.Same = row 28 (codes "Same") []
row_of i.SameT = row 29 (codes "SameT") []
row_of i.Not = row 30 (codes "Not") []
row_of i.And = row 31 (codes "And") []
row_of i.Or = row 32 (codes "Or") []
row_of i.Imp = row 33 (codes "Imp") []
row_of i.Eqv = row 34 (codes "Eqv") []
row_of (i.Is a) = row 35 (codes "Is") (a ∷ [])
row_of (i.In a) = row 36 (codes "In") (a ∷ [])
row_of (i.Qua a) = row 37 (codes "Qua") (a ∷ [])
row_of (i.Jump a) = row 38 (codes "Jump") (a ∷ [])
row_of (i.JumpF a) = row 39 (codes "JumpF") (a ∷ [])
row_of i.Tick = row 40 (codes "Tick") []
row_of i.StepTest = row 41 (codes "StepTest") []
row_of (i.Enter a) = row 42 (codes "Enter") (a ∷ [])
row_of i.Leave = row 43 (codes "Leave") []
row_of (i.Call a b) = row 44 (codes "Call") (a ∷ b ∷ [])
row_of i.Return = row 45 (codes "Return") []
row_of (i.ProcVal a) = row 46 (codes "ProcVal") (a ∷ [])
row_of (i.Virt a) = row 47 (codes "Virt") (a ∷ [])
row_of (i.Check a) = row 48 (codes "Check") (a ∷ [])
row_of (i.Param a b c) = row 49 (codes "Param") (a ∷ b ∷ c ∷ [])
row_of (i.CallV a) = row 50 (codes "CallV") (a ∷ [])
row_of (i.Thunk a) = row 51 (codes "Thunk") (a ∷ [])
row_of (i.NameVal a b c) = row 52 (codes "NameVal") (a ∷ b ∷ c ∷ [])
row_of (i.NameAddr a b c) = row 53 (codes "NameAddr") (a ∷ b ∷ c ∷ [])
row_of i.EndThunk = row 54 (codes "EndThunk") []
row_of (i.New a b) = row 55 (codes "New") (a ∷ b ∷ [])
row_of (i.Pref a b) = row 56 (codes "Pref") (a ∷ b ∷ [])
row_of (i.NextDecl a) = row 57 (codes "NextDecl") (a ∷ [])
row_of (i.Inner a) = row 58 (codes "Inner") (a ∷ [])
row_of (i.EndLevel a) = row 59 (codes "EndLevel") (a ∷ [])
row_of (i.Array a b) = row 60 (codes "Array") (a ∷ b ∷ [])
row_of i.CopyArr = row 61 (codes "CopyArr") []
row_of i.Keep = row 62 (codes "Keep") []
row_of i.AssignT = row 63 (codes "AssignT") []
row_of (i.Std a) = row 64 (codes "Std") (a ∷ [])
row_of (i.Act a) = row 65 (codes "Act") (a ∷ [])
row_of i.Detach = row 66 (codes "Detach") []
row_of i.Attach = row 67 (codes "Attach") []
row_of i.Resume = row 68 (codes "Resume") []
row_of i.NotNone = row 69 (codes "NotNone") []
