-- Small programs with parameters by name, as what scopes make of their abstract syntax.
use Rattle.std.specs.Prelude.{◌≡◌, pos, [], ◌∷◌, Some, None, codes}
use Rattle.sim_base.specs.declared.run_error.RunError.TheVariants.{ActualIsNoVariable, OutsideQualification}
use Rattle.sim_scope.specs.Source.{Source}
use Rattle.sim_tree.specs.declared.expr.Multiplication.TheVariants as multiplication
use Rattle.sim_tree.specs.declared.expr.Relation.TheVariants as relation
use Rattle.sim_tree.specs.declared.expr.Sign.TheVariants as sign
use Rattle.sim_tree.specs.declared.operator.Operator.TheVariants as op
use Rattle.sim_tree.specs.declared.stmt.Assignment.TheVariants as assignment
use Rattle.sim_tree.specs.declared.stmt.Mode.TheVariants as mode
use Rattle.sim_tree.specs.declared.stmt.TypeName.TheVariants as type_name
use Rattle.sim_tree.specs.Syntax.{Also, Assign, Begin, Binary, Call, Compound, Constant, DeclareClass, DeclareProcedure, Dot, IntegerValue, Named, New, NoDeclaration, NoMore, NoStatement, Repeat, Simple, Then, Variables, With}
use Rattle.sim_code.specs.Outcome.{Normal, RunFault, TickLimit}
use Rattle.sim_meaning.specs.Examples.{identifier, limits, seen, shows, token}
use Rattle.sim_meaning.specs.ClassExamples.{Alone, Behind, Reference, at, typed}
use Rattle.sim_meaning.specs.SetExamples.{source_with_sets}

-- begin procedure p(x); name x; integer x; outint(x, 2); p(7); outimage end
abbrev pub passed_by_name : Source
passed_by_name = source_with_sets ((1, 27) ∷ []) (at 13 Alone (codes "outint") ∷ at 15 Alone (codes "x") ∷ at 20 Alone (codes "p") ∷ at 25 Alone (codes "outimage") ∷ []) ([]) [] None (Begin 0 (With (DeclareProcedure None 1 (record { name = (identifier 2 (codes "p")); formals = (identifier 4 (codes "x") ∷ []); modes = (record { token = 7; mode = mode.Name; names = (identifier 8 (codes "x") ∷ []) } ∷ []); specifications = (record { kind = Simple (type_name.Integer (token 10)); names = (identifier 11 (codes "x") ∷ []) } ∷ []) }) (Call (Named (identifier 13 (codes "outint")) (Then (Named (identifier 15 (codes "x")) NoMore) (Then (Constant (IntegerValue (pos 2)) 17) NoMore)))) 19) NoDeclaration) (Also (Call (Named (identifier 20 (codes "p")) (Then (Constant (IntegerValue (pos 7)) 22) NoMore))) (Also (Call (Named (identifier 25 (codes "outimage")) NoMore)) NoStatement)) 26)

-- begin
-- integer procedure sum(k, high, term); name k, term; integer k, high, term;
-- begin
-- integer s;
-- k := 1;
-- while k <= high do begin s := s + term; k := k + 1 end;
-- sum := s
-- end;
-- integer i;
-- outint(sum(i, 3, i * i), 4); outint(i, 2)
-- end
abbrev pub summed : Source
summed = source_with_sets ((1, 1) ∷ (2, 23) ∷ (3, 1) ∷ (4, 3) ∷ (5, 4) ∷ (6, 19) ∷ (7, 3) ∷ (8, 2) ∷ (9, 3) ∷ (10, 22) ∷ (11, 1) ∷ []) (at 28 Alone (codes "k") ∷ at 33 Alone (codes "k") ∷ at 35 Alone (codes "high") ∷ at 38 Alone (codes "s") ∷ at 40 Alone (codes "s") ∷ at 42 Alone (codes "term") ∷ at 44 Alone (codes "k") ∷ at 46 Alone (codes "k") ∷ at 51 Alone (codes "sum") ∷ at 53 Alone (codes "s") ∷ at 59 Alone (codes "outint") ∷ at 61 Alone (codes "sum") ∷ at 63 Alone (codes "i") ∷ at 67 Alone (codes "i") ∷ at 69 Alone (codes "i") ∷ at 75 Alone (codes "outint") ∷ at 77 Alone (codes "i") ∷ []) ([]) [] None (Begin 0 (With (DeclareProcedure (Some (type_name.Integer (token 1))) 2 (record { name = (identifier 3 (codes "sum")); formals = (identifier 5 (codes "k") ∷ identifier 7 (codes "high") ∷ identifier 9 (codes "term") ∷ []); modes = (record { token = 12; mode = mode.Name; names = (identifier 13 (codes "k") ∷ identifier 15 (codes "term") ∷ []) } ∷ []); specifications = (record { kind = Simple (type_name.Integer (token 17)); names = (identifier 18 (codes "k") ∷ identifier 20 (codes "high") ∷ identifier 22 (codes "term") ∷ []) } ∷ []) }) (Compound (Begin 24 (With (Variables (type_name.Integer (token 25)) (record { name = (identifier 26 (codes "s")); value = None } ∷ [])) NoDeclaration) (Also (Assign (Named (identifier 28 (codes "k")) NoMore) (record { sign = assignment.Value; token = 29; value = (Constant (IntegerValue (pos 1)) 30) } ∷ [])) (Also (Repeat 32 (Binary (op.Relate relation.LessEqual) 34 (Named (identifier 33 (codes "k")) NoMore) (Named (identifier 35 (codes "high")) NoMore)) (Compound (Begin 37 NoDeclaration (Also (Assign (Named (identifier 38 (codes "s")) NoMore) (record { sign = assignment.Value; token = 39; value = (Binary (op.Add sign.Plus) 41 (Named (identifier 40 (codes "s")) NoMore) (Named (identifier 42 (codes "term")) NoMore)) } ∷ [])) (Also (Assign (Named (identifier 44 (codes "k")) NoMore) (record { sign = assignment.Value; token = 45; value = (Binary (op.Add sign.Plus) 47 (Named (identifier 46 (codes "k")) NoMore) (Constant (IntegerValue (pos 1)) 48)) } ∷ [])) NoStatement)) 49))) (Also (Assign (Named (identifier 51 (codes "sum")) NoMore) (record { sign = assignment.Value; token = 52; value = (Named (identifier 53 (codes "s")) NoMore) } ∷ [])) NoStatement))) 54)) 55) (With (Variables (type_name.Integer (token 56)) (record { name = (identifier 57 (codes "i")); value = None } ∷ [])) NoDeclaration)) (Also (Call (Named (identifier 59 (codes "outint")) (Then (Named (identifier 61 (codes "sum")) (Then (Named (identifier 63 (codes "i")) NoMore) (Then (Constant (IntegerValue (pos 3)) 65) (Then (Binary (op.Multiply multiplication.Times) 68 (Named (identifier 67 (codes "i")) NoMore) (Named (identifier 69 (codes "i")) NoMore)) NoMore)))) (Then (Constant (IntegerValue (pos 4)) 72) NoMore)))) (Also (Call (Named (identifier 75 (codes "outint")) (Then (Named (identifier 77 (codes "i")) NoMore) (Then (Constant (IntegerValue (pos 2)) 79) NoMore)))) NoStatement)) 81)

-- begin
-- procedure show(y); name y; integer y; outint(y, 3);
-- procedure through(x); name x; integer x; begin x := x + 1; show(x) end;
-- integer i;
-- i := 4;
-- through(i);
-- through(i + 1)
-- end
abbrev pub handed_on : Source
handed_on = source_with_sets ((1, 1) ∷ (2, 19) ∷ (3, 25) ∷ (4, 3) ∷ (5, 4) ∷ (6, 5) ∷ (7, 6) ∷ (8, 1) ∷ []) (at 13 Alone (codes "outint") ∷ at 15 Alone (codes "y") ∷ at 33 Alone (codes "x") ∷ at 35 Alone (codes "x") ∷ at 39 Alone (codes "show") ∷ at 41 Alone (codes "x") ∷ at 48 Alone (codes "i") ∷ at 52 Alone (codes "through") ∷ at 54 Alone (codes "i") ∷ at 57 Alone (codes "through") ∷ at 59 Alone (codes "i") ∷ []) ([]) [] None (Begin 0 (With (DeclareProcedure None 1 (record { name = (identifier 2 (codes "show")); formals = (identifier 4 (codes "y") ∷ []); modes = (record { token = 7; mode = mode.Name; names = (identifier 8 (codes "y") ∷ []) } ∷ []); specifications = (record { kind = Simple (type_name.Integer (token 10)); names = (identifier 11 (codes "y") ∷ []) } ∷ []) }) (Call (Named (identifier 13 (codes "outint")) (Then (Named (identifier 15 (codes "y")) NoMore) (Then (Constant (IntegerValue (pos 3)) 17) NoMore)))) 19) (With (DeclareProcedure None 20 (record { name = (identifier 21 (codes "through")); formals = (identifier 23 (codes "x") ∷ []); modes = (record { token = 26; mode = mode.Name; names = (identifier 27 (codes "x") ∷ []) } ∷ []); specifications = (record { kind = Simple (type_name.Integer (token 29)); names = (identifier 30 (codes "x") ∷ []) } ∷ []) }) (Compound (Begin 32 NoDeclaration (Also (Assign (Named (identifier 33 (codes "x")) NoMore) (record { sign = assignment.Value; token = 34; value = (Binary (op.Add sign.Plus) 36 (Named (identifier 35 (codes "x")) NoMore) (Constant (IntegerValue (pos 1)) 37)) } ∷ [])) (Also (Call (Named (identifier 39 (codes "show")) (Then (Named (identifier 41 (codes "x")) NoMore) NoMore))) NoStatement)) 43)) 44) (With (Variables (type_name.Integer (token 45)) (record { name = (identifier 46 (codes "i")); value = None } ∷ [])) NoDeclaration))) (Also (Assign (Named (identifier 48 (codes "i")) NoMore) (record { sign = assignment.Value; token = 49; value = (Constant (IntegerValue (pos 4)) 50) } ∷ [])) (Also (Call (Named (identifier 52 (codes "through")) (Then (Named (identifier 54 (codes "i")) NoMore) NoMore))) (Also (Call (Named (identifier 57 (codes "through")) (Then (Binary (op.Add sign.Plus) 60 (Named (identifier 59 (codes "i")) NoMore) (Constant (IntegerValue (pos 1)) 61)) NoMore))) NoStatement))) 63)

-- begin
-- class c; begin integer n; n := 3 end;
-- c class d; begin end;
-- procedure see(x); name x; ref(d) x; outint(x.n, 2);
-- procedure set(x); name x; ref(c) x; x :- new c;
-- ref(c) a; ref(d) b;
-- a :- new d; see(a);
-- set(a); outint(a.n, 2);
-- see(a)
-- end
abbrev pub qualified_by_both : Source
qualified_by_both = source_with_sets ((1, 1) ∷ (2, 12) ∷ (3, 7) ∷ (4, 24) ∷ (5, 20) ∷ (6, 12) ∷ (7, 10) ∷ (8, 14) ∷ (9, 4) ∷ (10, 1) ∷ []) (at 8 Alone (codes "n") ∷ at 35 Alone (codes "outint") ∷ at 37 Alone (codes "x") ∷ at 39 (Behind (codes "d")) (codes "n") ∷ at 59 Alone (codes "x") ∷ at 62 Alone (codes "c") ∷ at 76 Alone (codes "a") ∷ at 79 Alone (codes "d") ∷ at 81 Alone (codes "see") ∷ at 83 Alone (codes "a") ∷ at 86 Alone (codes "set") ∷ at 88 Alone (codes "a") ∷ at 91 Alone (codes "outint") ∷ at 93 Alone (codes "a") ∷ at 95 (Behind (codes "c")) (codes "n") ∷ at 100 Alone (codes "see") ∷ at 102 Alone (codes "a") ∷ []) (typed 37 (Reference (codes "d")) ∷ typed 59 (Reference (codes "c")) ∷ typed 76 (Reference (codes "c")) ∷ typed 83 (Reference (codes "c")) ∷ typed 88 (Reference (codes "c")) ∷ typed 93 (Reference (codes "c")) ∷ typed 102 (Reference (codes "c")) ∷ []) [] None (Begin 0 (With (DeclareClass None 1 (record { name = (identifier 2 (codes "c")); formals = ([]); modes = ([]); specifications = ([]) }) (record { protections = []; virtuals = [] }) (Compound (Begin 4 (With (Variables (type_name.Integer (token 5)) (record { name = (identifier 6 (codes "n")); value = None } ∷ [])) NoDeclaration) (Also (Assign (Named (identifier 8 (codes "n")) NoMore) (record { sign = assignment.Value; token = 9; value = (Constant (IntegerValue (pos 3)) 10) } ∷ [])) NoStatement) 11)) 12) (With (DeclareClass (Some (identifier 13 (codes "c"))) 14 (record { name = (identifier 15 (codes "d")); formals = ([]); modes = ([]); specifications = ([]) }) (record { protections = []; virtuals = [] }) (Compound (Begin 17 NoDeclaration NoStatement 18)) 19) (With (DeclareProcedure None 20 (record { name = (identifier 21 (codes "see")); formals = (identifier 23 (codes "x") ∷ []); modes = (record { token = 26; mode = mode.Name; names = (identifier 27 (codes "x") ∷ []) } ∷ []); specifications = (record { kind = Simple (type_name.Reference (token 29) (identifier 31 (codes "d"))); names = (identifier 33 (codes "x") ∷ []) } ∷ []) }) (Call (Named (identifier 35 (codes "outint")) (Then (Dot 38 (Named (identifier 37 (codes "x")) NoMore) (identifier 39 (codes "n")) NoMore) (Then (Constant (IntegerValue (pos 2)) 41) NoMore)))) 43) (With (DeclareProcedure None 44 (record { name = (identifier 45 (codes "set")); formals = (identifier 47 (codes "x") ∷ []); modes = (record { token = 50; mode = mode.Name; names = (identifier 51 (codes "x") ∷ []) } ∷ []); specifications = (record { kind = Simple (type_name.Reference (token 53) (identifier 55 (codes "c"))); names = (identifier 57 (codes "x") ∷ []) } ∷ []) }) (Assign (Named (identifier 59 (codes "x")) NoMore) (record { sign = assignment.Reference; token = 60; value = (New 61 (identifier 62 (codes "c")) NoMore) } ∷ [])) 63) (With (Variables (type_name.Reference (token 64) (identifier 66 (codes "c"))) (record { name = (identifier 68 (codes "a")); value = None } ∷ [])) (With (Variables (type_name.Reference (token 70) (identifier 72 (codes "d"))) (record { name = (identifier 74 (codes "b")); value = None } ∷ [])) NoDeclaration)))))) (Also (Assign (Named (identifier 76 (codes "a")) NoMore) (record { sign = assignment.Reference; token = 77; value = (New 78 (identifier 79 (codes "d")) NoMore) } ∷ [])) (Also (Call (Named (identifier 81 (codes "see")) (Then (Named (identifier 83 (codes "a")) NoMore) NoMore))) (Also (Call (Named (identifier 86 (codes "set")) (Then (Named (identifier 88 (codes "a")) NoMore) NoMore))) (Also (Call (Named (identifier 91 (codes "outint")) (Then (Dot 94 (Named (identifier 93 (codes "a")) NoMore) (identifier 95 (codes "n")) NoMore) (Then (Constant (IntegerValue (pos 2)) 97) NoMore)))) (Also (Call (Named (identifier 100 (codes "see")) (Then (Named (identifier 102 (codes "a")) NoMore) NoMore))) NoStatement))))) 104)

-- begin
-- class c; begin end;
-- c class d; begin end;
-- procedure set(x); name x; ref(c) x;
-- x :- new c;
-- ref(d) b;
-- set(b)
-- end
abbrev pub assigned_outside : Source
assigned_outside = source_with_sets ((1, 1) ∷ (2, 6) ∷ (3, 7) ∷ (4, 15) ∷ (5, 5) ∷ (6, 6) ∷ (7, 4) ∷ (8, 1) ∷ []) (at 29 Alone (codes "x") ∷ at 32 Alone (codes "c") ∷ at 40 Alone (codes "set") ∷ at 42 Alone (codes "b") ∷ []) (typed 29 (Reference (codes "c")) ∷ typed 42 (Reference (codes "d")) ∷ []) [] None (Begin 0 (With (DeclareClass None 1 (record { name = (identifier 2 (codes "c")); formals = ([]); modes = ([]); specifications = ([]) }) (record { protections = []; virtuals = [] }) (Compound (Begin 4 NoDeclaration NoStatement 5)) 6) (With (DeclareClass (Some (identifier 7 (codes "c"))) 8 (record { name = (identifier 9 (codes "d")); formals = ([]); modes = ([]); specifications = ([]) }) (record { protections = []; virtuals = [] }) (Compound (Begin 11 NoDeclaration NoStatement 12)) 13) (With (DeclareProcedure None 14 (record { name = (identifier 15 (codes "set")); formals = (identifier 17 (codes "x") ∷ []); modes = (record { token = 20; mode = mode.Name; names = (identifier 21 (codes "x") ∷ []) } ∷ []); specifications = (record { kind = Simple (type_name.Reference (token 23) (identifier 25 (codes "c"))); names = (identifier 27 (codes "x") ∷ []) } ∷ []) }) (Assign (Named (identifier 29 (codes "x")) NoMore) (record { sign = assignment.Reference; token = 30; value = (New 31 (identifier 32 (codes "c")) NoMore) } ∷ [])) 33) (With (Variables (type_name.Reference (token 34) (identifier 36 (codes "d"))) (record { name = (identifier 38 (codes "b")); value = None } ∷ [])) NoDeclaration)))) (Also (Call (Named (identifier 40 (codes "set")) (Then (Named (identifier 42 (codes "b")) NoMore) NoMore))) NoStatement) 44)

-- ---- what they show

-- The output, the ticks and the words at the end, and the ending of each.
pub record WorkedNames : Type 0 where
  pub read_once : seen passed_by_name (limits 1000 1000) 1000 ≡ shows (codes " 7\n") 6 4 Normal
  pub three_ticks : seen passed_by_name (limits 1000 3) 1000 ≡ shows (codes "") 3 9 (TickLimit 3)
  pub sum_of_squares : seen summed (limits 1000 1000) 1000 ≡ shows (codes "  14 4\n") 36 5 Normal
  pub no_variable : seen handed_on (limits 1000 1000) 1000 ≡ shows (codes "  5\n") 18 10 (RunFault ActualIsNoVariable 3)
  pub read_outside : seen qualified_by_both (limits 1000 1000) 1000 ≡ shows (codes " 3 3\n") 21 21 (RunFault OutsideQualification 4)
  pub written_outside : seen assigned_outside (limits 1000 1000) 1000 ≡ shows (codes "") 7 14 (RunFault OutsideQualification 5)
