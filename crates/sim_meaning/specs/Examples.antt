-- Small programs, as what scopes make of their abstract syntax. Tokens are numbered as they stand in the source.
use Rattle.std.specs.Prelude.{◌≡◌, ℕ, zero, suc, ◌+◌, true, pos, List, [], ◌∷◌, ◌++◌, replicate, Option, Some, None, codes}
use Rattle.sim_base.specs.declared.limits.Limits.{Limits}
use Rattle.sim_base.specs.declared.numbering.Line.{Line}
use Rattle.sim_base.specs.declared.numbering.TokenNo.{TokenNo}
use Rattle.sim_scope.specs.declared.scopes.Denotation.{Denotation}
use Rattle.sim_scope.specs.Declare.{declared_by}
use Rattle.sim_scope.specs.Scopes.{binding}
use Rattle.sim_scope.specs.Source.{Source}
use Rattle.sim_scope.specs.Tables.{Tables}
use Rattle.sim_tree.specs.declared.expr.Identifier.{Identifier}
use Rattle.sim_tree.specs.declared.expr.Multiplication.TheVariants as multiplication
use Rattle.sim_tree.specs.declared.expr.Relation.TheVariants as relation
use Rattle.sim_tree.specs.declared.expr.Sign.TheVariants as sign
use Rattle.sim_tree.specs.declared.operator.Operator.TheVariants as op
use Rattle.sim_tree.specs.declared.stmt.Assignment.TheVariants as assignment
use Rattle.sim_tree.specs.declared.stmt.Mode.TheVariants as mode
use Rattle.sim_tree.specs.declared.stmt.TypeName.TheVariants as type_name
use Rattle.sim_tree.specs.Syntax.{Also, Array, Arrays, Assign, Begin, Binary, Block, BooleanValue, Call, CharacterValue, Choose, Compound, Constant, DeclareProcedure, Empty, For, If, IntegerValue, Named, NoDeclaration, NoMore, NoStatement, Once, Program, Repeat, Signed, Simple, Step, Then, Variables, While, With}
use Rattle.sim_base.specs.declared.run_error.RunError.TheVariants.{ArrayTooLarge, IntegerOverflow, SubscriptOutOfBounds, WrongNumberOfSubscripts}
use Rattle.sim_code.specs.Outcome.{Ending, Normal, RunFault, Shown, StorageExhausted, TickLimit, shown}
use Rattle.sim_meaning.specs.Meaning.{run}

abbrev pub token : ℕ → TokenNo
token n = record { 0 = n }

abbrev pub identifier : ℕ → List ℕ → Identifier
identifier n name = record { token = token n; name = name }

-- the lines of tokens, of each line how many it has
abbrev pub line : ℕ → Line
line n = record { 0 = n }

abbrev pub lines_of : List (ℕ × ℕ) → List Line
lines_of [] = []
lines_of (x ∷ xs) = replicate x.1 (line x.0) ++ lines_of xs

-- what the identifiers in use denote; their tokens ascend, and those from n on are left
abbrev pub uses_of : ℕ → Tables → List (ℕ × List ℕ) → List (Option Denotation)
uses_of n tables [] = []
uses_of n tables (x ∷ xs) = replicate (gap x.0 n) None ++ binding tables x.0 x.1 ∷ uses_of (x.0 + 1) tables xs
  where
    gap : ℕ → ℕ → ℕ
    gap zero n = zero
    gap (suc m) zero = suc m
    gap (suc m) (suc n) = gap m n

abbrev pub with_tables : List Line → List (ℕ × List ℕ) → Program → Tables → Source
with_tables lines uses program tables = record { program = program; tables = tables; uses = uses_of 0 tables uses; found_in = []; types = []; lines = lines }

abbrev pub source : List (ℕ × ℕ) → List (ℕ × List ℕ) → Block → Source
source lines uses block =
    let program : Program = record { prefix = None; block = block } in with_tables (lines_of lines) uses program (declared_by program).tables

-- begin outint(12345,3); outchar('.'); outint(7,0); outchar('.'); outint(7,-3); outchar('.'); outimage end
abbrev pub fields : Source
fields = source ((1, 41) ∷ []) ((1, codes "outint") ∷ (8, codes "outchar") ∷ (13, codes "outint") ∷ (20, codes "outchar") ∷ (25, codes "outint") ∷ (33, codes "outchar") ∷ (38, codes "outimage") ∷ []) (Begin 0 NoDeclaration (Also (Call (Named (identifier 1 (codes "outint")) (Then (Constant (IntegerValue (pos 12345)) 3) (Then (Constant (IntegerValue (pos 3)) 5) NoMore)))) (Also (Call (Named (identifier 8 (codes "outchar")) (Then (Constant (CharacterValue 46) 10) NoMore))) (Also (Call (Named (identifier 13 (codes "outint")) (Then (Constant (IntegerValue (pos 7)) 15) (Then (Constant (IntegerValue (pos 0)) 17) NoMore)))) (Also (Call (Named (identifier 20 (codes "outchar")) (Then (Constant (CharacterValue 46) 22) NoMore))) (Also (Call (Named (identifier 25 (codes "outint")) (Then (Constant (IntegerValue (pos 7)) 27) (Then (Signed sign.Minus 29 (Constant (IntegerValue (pos 3)) 30)) NoMore)))) (Also (Call (Named (identifier 33 (codes "outchar")) (Then (Constant (CharacterValue 46) 35) NoMore))) (Also (Call (Named (identifier 38 (codes "outimage")) NoMore)) NoStatement))))))) 39)

-- begin while true do; end
abbrev pub endless : Source
endless = source ((1, 7) ∷ []) ([]) (Begin 0 NoDeclaration (Also (Repeat 1 (Constant (BooleanValue true) 2) (Empty 4)) (Also (Empty 5) NoStatement)) 5)

-- begin integer i; for i := 3 step -1 until 1, 10, i+1 while i < 13 do outint(i,3); outimage end
abbrev pub for_list : Source
for_list = source ((1, 34) ∷ []) ((5, codes "i") ∷ (16, codes "i") ∷ (20, codes "i") ∷ (24, codes "outint") ∷ (26, codes "i") ∷ (31, codes "outimage") ∷ []) (Begin 0 (With (Variables (type_name.Integer (token 1)) (record { name = (identifier 2 (codes "i")); value = None } ∷ [])) NoDeclaration) (Also (For 4 (identifier 5 (codes "i")) assignment.Value 6 (Step (Constant (IntegerValue (pos 3)) 7) 8 (Signed sign.Minus 9 (Constant (IntegerValue (pos 1)) 10)) (Constant (IntegerValue (pos 1)) 12) ∷ Once (Constant (IntegerValue (pos 10)) 14) ∷ While (Binary (op.Add sign.Plus) 17 (Named (identifier 16 (codes "i")) NoMore) (Constant (IntegerValue (pos 1)) 18)) 19 (Binary (op.Relate relation.Less) 21 (Named (identifier 20 (codes "i")) NoMore) (Constant (IntegerValue (pos 13)) 22)) ∷ []) (Call (Named (identifier 24 (codes "outint")) (Then (Named (identifier 26 (codes "i")) NoMore) (Then (Constant (IntegerValue (pos 3)) 28) NoMore))))) (Also (Call (Named (identifier 31 (codes "outimage")) NoMore)) NoStatement)) 32)

-- begin integer procedure f(n); integer n; f := if n = 0 then 1 else n*f(n-1); outint(f(20),20); outimage end
abbrev pub factorial_20 : Source
factorial_20 = source ((1, 42) ∷ []) ((11, codes "f") ∷ (14, codes "n") ∷ (20, codes "n") ∷ (22, codes "f") ∷ (24, codes "n") ∷ (29, codes "outint") ∷ (31, codes "f") ∷ (39, codes "outimage") ∷ []) (Begin 0 (With (DeclareProcedure (Some (type_name.Integer (token 1))) 2 (record { name = (identifier 3 (codes "f")); formals = (identifier 5 (codes "n") ∷ []); modes = []; specifications = (record { kind = Simple (type_name.Integer (token 8)); names = identifier 9 (codes "n") ∷ [] } ∷ []) }) (Assign (Named (identifier 11 (codes "f")) NoMore) (record { sign = assignment.Value; token = 12; value = (If 13 (Binary (op.Relate relation.Equal) 15 (Named (identifier 14 (codes "n")) NoMore) (Constant (IntegerValue (pos 0)) 16)) (Constant (IntegerValue (pos 1)) 18) (Binary (op.Multiply multiplication.Times) 21 (Named (identifier 20 (codes "n")) NoMore) (Named (identifier 22 (codes "f")) (Then (Binary (op.Add sign.Minus) 25 (Named (identifier 24 (codes "n")) NoMore) (Constant (IntegerValue (pos 1)) 26)) NoMore)))) } ∷ [])) 28) NoDeclaration) (Also (Call (Named (identifier 29 (codes "outint")) (Then (Named (identifier 31 (codes "f")) (Then (Constant (IntegerValue (pos 20)) 33) NoMore)) (Then (Constant (IntegerValue (pos 20)) 36) NoMore)))) (Also (Call (Named (identifier 39 (codes "outimage")) NoMore)) NoStatement)) 40)

-- begin integer procedure f(n); integer n; f := if n = 0 then 1 else n*f(n-1); outint(f(21),20); outimage end
abbrev pub factorial_21 : Source
factorial_21 = source ((1, 42) ∷ []) ((11, codes "f") ∷ (14, codes "n") ∷ (20, codes "n") ∷ (22, codes "f") ∷ (24, codes "n") ∷ (29, codes "outint") ∷ (31, codes "f") ∷ (39, codes "outimage") ∷ []) (Begin 0 (With (DeclareProcedure (Some (type_name.Integer (token 1))) 2 (record { name = (identifier 3 (codes "f")); formals = (identifier 5 (codes "n") ∷ []); modes = []; specifications = (record { kind = Simple (type_name.Integer (token 8)); names = identifier 9 (codes "n") ∷ [] } ∷ []) }) (Assign (Named (identifier 11 (codes "f")) NoMore) (record { sign = assignment.Value; token = 12; value = (If 13 (Binary (op.Relate relation.Equal) 15 (Named (identifier 14 (codes "n")) NoMore) (Constant (IntegerValue (pos 0)) 16)) (Constant (IntegerValue (pos 1)) 18) (Binary (op.Multiply multiplication.Times) 21 (Named (identifier 20 (codes "n")) NoMore) (Named (identifier 22 (codes "f")) (Then (Binary (op.Add sign.Minus) 25 (Named (identifier 24 (codes "n")) NoMore) (Constant (IntegerValue (pos 1)) 26)) NoMore)))) } ∷ [])) 28) NoDeclaration) (Also (Call (Named (identifier 29 (codes "outint")) (Then (Named (identifier 31 (codes "f")) (Then (Constant (IntegerValue (pos 21)) 33) NoMore)) (Then (Constant (IntegerValue (pos 20)) 36) NoMore)))) (Also (Call (Named (identifier 39 (codes "outimage")) NoMore)) NoStatement)) 40)

-- begin integer procedure f(n); integer n; f := if n = 0 then 1 else n*f(n-1); outint(f(166),20); outimage end
abbrev pub factorial_166 : Source
factorial_166 = source ((1, 42) ∷ []) ((11, codes "f") ∷ (14, codes "n") ∷ (20, codes "n") ∷ (22, codes "f") ∷ (24, codes "n") ∷ (29, codes "outint") ∷ (31, codes "f") ∷ (39, codes "outimage") ∷ []) (Begin 0 (With (DeclareProcedure (Some (type_name.Integer (token 1))) 2 (record { name = (identifier 3 (codes "f")); formals = (identifier 5 (codes "n") ∷ []); modes = []; specifications = (record { kind = Simple (type_name.Integer (token 8)); names = identifier 9 (codes "n") ∷ [] } ∷ []) }) (Assign (Named (identifier 11 (codes "f")) NoMore) (record { sign = assignment.Value; token = 12; value = (If 13 (Binary (op.Relate relation.Equal) 15 (Named (identifier 14 (codes "n")) NoMore) (Constant (IntegerValue (pos 0)) 16)) (Constant (IntegerValue (pos 1)) 18) (Binary (op.Multiply multiplication.Times) 21 (Named (identifier 20 (codes "n")) NoMore) (Named (identifier 22 (codes "f")) (Then (Binary (op.Add sign.Minus) 25 (Named (identifier 24 (codes "n")) NoMore) (Constant (IntegerValue (pos 1)) 26)) NoMore)))) } ∷ [])) 28) NoDeclaration) (Also (Call (Named (identifier 29 (codes "outint")) (Then (Named (identifier 31 (codes "f")) (Then (Constant (IntegerValue (pos 166)) 33) NoMore)) (Then (Constant (IntegerValue (pos 20)) 36) NoMore)))) (Also (Call (Named (identifier 39 (codes "outimage")) NoMore)) NoStatement)) 40)

-- begin procedure p(a); value a; integer array a; a(1) := 7; integer array b(1:1); p(b); outint(b(1),2); outimage end
abbrev pub value_array : Source
value_array = source ((1, 48) ∷ []) ((14, codes "a") ∷ (30, codes "p") ∷ (32, codes "b") ∷ (35, codes "outint") ∷ (37, codes "b") ∷ (45, codes "outimage") ∷ []) (Begin 0 (With (DeclareProcedure None 1 (record { name = (identifier 2 (codes "p")); formals = (identifier 4 (codes "a") ∷ []); modes = (record { token = 7; mode = mode.Value; names = identifier 8 (codes "a") ∷ [] } ∷ []); specifications = (record { kind = Array (type_name.Integer (token 10)) 11; names = identifier 12 (codes "a") ∷ [] } ∷ []) }) (Assign (Named (identifier 14 (codes "a")) (Then (Constant (IntegerValue (pos 1)) 16) NoMore)) (record { sign = assignment.Value; token = 18; value = (Constant (IntegerValue (pos 7)) 19) } ∷ [])) 20) (With (Arrays (type_name.Integer (token 21)) 22 (record { names = identifier 23 (codes "b") ∷ []; bounds = record { lower = (Constant (IntegerValue (pos 1)) 25); upper = (Constant (IntegerValue (pos 1)) 27) } ∷ [] } ∷ [])) NoDeclaration)) (Also (Call (Named (identifier 30 (codes "p")) (Then (Named (identifier 32 (codes "b")) NoMore) NoMore))) (Also (Call (Named (identifier 35 (codes "outint")) (Then (Named (identifier 37 (codes "b")) (Then (Constant (IntegerValue (pos 1)) 39) NoMore)) (Then (Constant (IntegerValue (pos 2)) 42) NoMore)))) (Also (Call (Named (identifier 45 (codes "outimage")) NoMore)) NoStatement))) 46)

-- begin integer array a(1:2);
-- a(1) := 1;
-- a
-- (3) := 1 // 0
-- end
abbrev pub subscript : Source
subscript = source ((1, 10) ∷ (2, 7) ∷ (3, 1) ∷ (4, 7) ∷ (5, 2) ∷ []) ((10, codes "a") ∷ (17, codes "a") ∷ []) (Begin 0 (With (Arrays (type_name.Integer (token 1)) 2 (record { names = identifier 3 (codes "a") ∷ []; bounds = record { lower = (Constant (IntegerValue (pos 1)) 5); upper = (Constant (IntegerValue (pos 2)) 7) } ∷ [] } ∷ [])) NoDeclaration) (Also (Assign (Named (identifier 10 (codes "a")) (Then (Constant (IntegerValue (pos 1)) 12) NoMore)) (record { sign = assignment.Value; token = 14; value = (Constant (IntegerValue (pos 1)) 15) } ∷ [])) (Also (Assign (Named (identifier 17 (codes "a")) (Then (Constant (IntegerValue (pos 3)) 19) NoMore)) (record { sign = assignment.Value; token = 21; value = (Binary (op.Multiply multiplication.Divide) 23 (Constant (IntegerValue (pos 1)) 22) (Constant (IntegerValue (pos 0)) 24)) } ∷ [])) NoStatement)) 25)

-- begin procedure p(a); integer array a; a(1) := 1;
-- integer array b(1:2, 1:2);
-- p(b)
-- end
abbrev pub dimensions : Source
dimensions = source ((1, 18) ∷ (2, 13) ∷ (3, 4) ∷ (4, 2) ∷ []) ((11, codes "a") ∷ (31, codes "p") ∷ (33, codes "b") ∷ []) (Begin 0 (With (DeclareProcedure None 1 (record { name = (identifier 2 (codes "p")); formals = (identifier 4 (codes "a") ∷ []); modes = []; specifications = (record { kind = Array (type_name.Integer (token 7)) 8; names = identifier 9 (codes "a") ∷ [] } ∷ []) }) (Assign (Named (identifier 11 (codes "a")) (Then (Constant (IntegerValue (pos 1)) 13) NoMore)) (record { sign = assignment.Value; token = 15; value = (Constant (IntegerValue (pos 1)) 16) } ∷ [])) 17) (With (Arrays (type_name.Integer (token 18)) 19 (record { names = identifier 20 (codes "b") ∷ []; bounds = record { lower = (Constant (IntegerValue (pos 1)) 22); upper = (Constant (IntegerValue (pos 2)) 24) } ∷ record { lower = (Constant (IntegerValue (pos 1)) 26); upper = (Constant (IntegerValue (pos 2)) 28) } ∷ [] } ∷ [])) NoDeclaration)) (Also (Call (Named (identifier 31 (codes "p")) (Then (Named (identifier 33 (codes "b")) NoMore) NoMore))) NoStatement) 35)

-- begin integer array a, b
-- (1:65536, 1:65536); end
abbrev pub large_array : Source
large_array = source ((1, 6) ∷ (2, 12) ∷ []) ([]) (Begin 0 (With (Arrays (type_name.Integer (token 1)) 2 (record { names = identifier 3 (codes "a") ∷ identifier 5 (codes "b") ∷ []; bounds = record { lower = (Constant (IntegerValue (pos 1)) 7); upper = (Constant (IntegerValue (pos 65536)) 9) } ∷ record { lower = (Constant (IntegerValue (pos 1)) 11); upper = (Constant (IntegerValue (pos 65536)) 13) } ∷ [] } ∷ [])) NoDeclaration) NoStatement 16)

-- begin integer i, j;
-- i := j := 2;
-- begin integer array a(i:3), b(1:j); a(3) := b(2) + 5; outint(a(3), 3) end;
-- if i = 2 and then j // i = 1 then outint(i, 2) else outint(0, 2);
-- outimage
-- end
abbrev pub sub_block : Source
sub_block = source ((1, 6) ∷ (2, 6) ∷ (3, 40) ∷ (4, 25) ∷ (5, 1) ∷ (6, 2) ∷ []) ((6, codes "i") ∷ (8, codes "j") ∷ (17, codes "i") ∷ (26, codes "j") ∷ (29, codes "a") ∷ (34, codes "b") ∷ (41, codes "outint") ∷ (43, codes "a") ∷ (53, codes "i") ∷ (57, codes "j") ∷ (59, codes "i") ∷ (63, codes "outint") ∷ (65, codes "i") ∷ (70, codes "outint") ∷ (77, codes "outimage") ∷ []) (Begin 0 (With (Variables (type_name.Integer (token 1)) (record { name = (identifier 2 (codes "i")); value = None } ∷ record { name = (identifier 4 (codes "j")); value = None } ∷ [])) NoDeclaration) (Also (Assign (Named (identifier 6 (codes "i")) NoMore) (record { sign = assignment.Value; token = 7; value = (Named (identifier 8 (codes "j")) NoMore) } ∷ record { sign = assignment.Value; token = 9; value = (Constant (IntegerValue (pos 2)) 10) } ∷ [])) (Also (Compound (Begin 12 (With (Arrays (type_name.Integer (token 13)) 14 (record { names = identifier 15 (codes "a") ∷ []; bounds = record { lower = (Named (identifier 17 (codes "i")) NoMore); upper = (Constant (IntegerValue (pos 3)) 19) } ∷ [] } ∷ record { names = identifier 22 (codes "b") ∷ []; bounds = record { lower = (Constant (IntegerValue (pos 1)) 24); upper = (Named (identifier 26 (codes "j")) NoMore) } ∷ [] } ∷ [])) NoDeclaration) (Also (Assign (Named (identifier 29 (codes "a")) (Then (Constant (IntegerValue (pos 3)) 31) NoMore)) (record { sign = assignment.Value; token = 33; value = (Binary (op.Add sign.Plus) 38 (Named (identifier 34 (codes "b")) (Then (Constant (IntegerValue (pos 2)) 36) NoMore)) (Constant (IntegerValue (pos 5)) 39)) } ∷ [])) (Also (Call (Named (identifier 41 (codes "outint")) (Then (Named (identifier 43 (codes "a")) (Then (Constant (IntegerValue (pos 3)) 45) NoMore)) (Then (Constant (IntegerValue (pos 3)) 48) NoMore)))) NoStatement)) 50)) (Also (Choose 52 (Binary op.AndThen 56 (Binary (op.Relate relation.Equal) 54 (Named (identifier 53 (codes "i")) NoMore) (Constant (IntegerValue (pos 2)) 55)) (Binary (op.Relate relation.Equal) 60 (Binary (op.Multiply multiplication.Divide) 58 (Named (identifier 57 (codes "j")) NoMore) (Named (identifier 59 (codes "i")) NoMore)) (Constant (IntegerValue (pos 1)) 61))) (Call (Named (identifier 63 (codes "outint")) (Then (Named (identifier 65 (codes "i")) NoMore) (Then (Constant (IntegerValue (pos 2)) 67) NoMore)))) (Also (Call (Named (identifier 70 (codes "outint")) (Then (Constant (IntegerValue (pos 0)) 72) (Then (Constant (IntegerValue (pos 2)) 74) NoMore)))) NoStatement)) (Also (Call (Named (identifier 77 (codes "outimage")) NoMore)) NoStatement)))) 78)

-- ---- what a run shows

abbrev pub limits : (storage ticks : ℕ) → Limits
limits storage ticks = record { storage = storage; ticks = ticks; in_length = 80; out_length = 132 }

abbrev pub shows : List ℕ → (ticks words : ℕ) → Ending → Shown
shows output ticks words ending = record { output = output; ticks = ticks; words = words; ending = Some ending }

-- what is seen of a program under limits after n steps, without input
abbrev pub seen : Source → Limits → ℕ → Shown
seen s l n = shown (run s l [] n)

-- The output, the ticks and the words at the end, and the ending of each.
pub record Worked : Type 0 where
  pub fields_shown : seen fields (limits 1000 1000) 200 ≡ shows (codes "***.7.7  .\n") 8 4 Normal
  pub tick_limit : seen endless (limits 1000 20) 200 ≡ shows (codes "") 20 4 (TickLimit 20)
  pub elements_in_turn : seen for_list (limits 1000 1000) 300 ≡ shows (codes "  3  2  1 10 11 12\n") 17 5 Normal
  pub recursion : seen factorial_20 (limits 1000 1000) 1000 ≡ shows (codes " 2432902008176640000\n") 45 4 Normal
  pub overflow : seen factorial_21 (limits 1000 1000) 1000 ≡ shows (codes "") 46 10 (RunFault IntegerOverflow 1)
  pub exhausted : seen factorial_166 (limits 1000 1000) 5000 ≡ shows (codes "") 335 1000 (StorageExhausted 1 1000 6)
  pub copied_array : seen value_array (limits 1000 1000) 200 ≡ shows (codes " 0\n") 6 11 Normal
  pub left_side_first : seen subscript (limits 1000 1000) 200 ≡ shows (codes "") 3 12 (RunFault SubscriptOutOfBounds 3)
  pub wrong_subscripts : seen dimensions (limits 1000 1000) 200 ≡ shows (codes "") 4 21 (RunFault WrongNumberOfSubscripts 1)
  pub too_large : seen large_array (limits 1000 1000) 200 ≡ shows (codes "") 1 6 (RunFault ArrayTooLarge 1)
  pub given_back : seen sub_block (limits 1000 1000) 300 ≡ shows (codes "  5 2\n") 9 6 Normal
