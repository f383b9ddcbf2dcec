-- Small programs with formal procedures and other calls that are checked, as what scopes make of their abstract syntax.
use Rattle.std.specs.Prelude.{◌≡◌, pos, [], ◌∷◌, Some, None, codes}
use Rattle.sim_base.specs.declared.run_error.RunError.TheVariants.{NoNoticeLeft, OutsideQualification, WrongNumberOfParameters, WrongParameter}
use Rattle.sim_scope.specs.Source.{Source}
use Rattle.sim_tree.specs.declared.expr.Relation.TheVariants as relation
use Rattle.sim_tree.specs.declared.expr.Sign.TheVariants as sign
use Rattle.sim_tree.specs.declared.operator.Operator.TheVariants as op
use Rattle.sim_tree.specs.declared.stmt.Activation.TheVariants as activation
use Rattle.sim_tree.specs.declared.stmt.Assignment.TheVariants as assignment
use Rattle.sim_tree.specs.declared.stmt.Mode.TheVariants as mode
use Rattle.sim_tree.specs.declared.stmt.TypeName.TheVariants as type_name
use Rattle.sim_tree.specs.Syntax as syntax
use Rattle.sim_tree.specs.Syntax.{Also, Array, Arrays, Assign, Begin, Binary, Call, Choose, Compound, Constant, DeclareClass, DeclareProcedure, Dot, Empty, For, If, IntegerValue, Named, New, NoDeclaration, NoMore, NoObject, NoStatement, Procedure, Simple, Step, TextValue, Then, Variables, With}
use Rattle.sim_code.specs.Outcome.{Normal, RunFault}
use Rattle.sim_meaning.specs.Examples.{identifier, limits, seen, shows, token}
use Rattle.sim_meaning.specs.ClassExamples.{AText, Alone, AnInteger, Behind, OfNone, Reference, at, typed}
use Rattle.sim_meaning.specs.SetExamples.{source_with_sets}

-- begin
-- procedure show(n); integer n; begin outint(n, 4); outimage end;
-- procedure twice(p); procedure p;
-- begin
-- p(1);
-- p(2, 3)
-- end;
-- twice(show)
-- end
abbrev pub counted : Source
counted = source_with_sets ((1, 1) ∷ (2, 20) ∷ (3, 9) ∷ (4, 1) ∷ (5, 5) ∷ (6, 6) ∷ (7, 2) ∷ (8, 4) ∷ (9, 2) ∷ []) (at 11 Alone (codes "outint") ∷ at 13 Alone (codes "n") ∷ at 18 Alone (codes "outimage") ∷ at 31 Alone (codes "p") ∷ at 36 Alone (codes "p") ∷ at 44 Alone (codes "twice") ∷ at 46 Alone (codes "show") ∷ []) (typed 33 AnInteger ∷ typed 38 AnInteger ∷ typed 40 AnInteger ∷ []) [] None (Begin 0 (With (DeclareProcedure None 1 (record { name = (identifier 2 (codes "show")); formals = ((identifier 4 (codes "n")) ∷ []); modes = []; specifications = (record { kind = (Simple (type_name.Integer (token 7))); names = ((identifier 8 (codes "n")) ∷ []) } ∷ []) }) (Compound (Begin 10 NoDeclaration (Also (Call (Named (identifier 11 (codes "outint")) (Then (Named (identifier 13 (codes "n")) NoMore) (Then (Constant (IntegerValue (pos 4)) 15) NoMore)))) (Also (Call (Named (identifier 18 (codes "outimage")) NoMore)) NoStatement)) 19)) 20) (With (DeclareProcedure None 21 (record { name = (identifier 22 (codes "twice")); formals = ((identifier 24 (codes "p")) ∷ []); modes = []; specifications = (record { kind = (Procedure None 27); names = ((identifier 28 (codes "p")) ∷ []) } ∷ []) }) (Compound (Begin 30 NoDeclaration (Also (Call (Named (identifier 31 (codes "p")) (Then (Constant (IntegerValue (pos 1)) 33) NoMore))) (Also (Call (Named (identifier 36 (codes "p")) (Then (Constant (IntegerValue (pos 2)) 38) (Then (Constant (IntegerValue (pos 3)) 40) NoMore)))) NoStatement)) 42)) 43) NoDeclaration)) (Also (Call (Named (identifier 44 (codes "twice")) (Then (Named (identifier 46 (codes "show")) NoMore) NoMore))) NoStatement) 48)

-- begin
-- procedure show(n); integer n; outint(n, 2);
-- procedure given(p); procedure p; p(4);
-- procedure named(p); name p; procedure p; given(p);
-- named(show);
-- given(named)
-- end
abbrev pub passed_on : Source
passed_on = source_with_sets ((1, 1) ∷ (2, 16) ∷ (3, 14) ∷ (4, 17) ∷ (5, 5) ∷ (6, 4) ∷ (7, 2) ∷ []) (at 10 Alone (codes "outint") ∷ at 12 Alone (codes "n") ∷ at 26 Alone (codes "p") ∷ at 43 Alone (codes "given") ∷ at 45 Alone (codes "p") ∷ at 48 Alone (codes "named") ∷ at 50 Alone (codes "show") ∷ at 53 Alone (codes "given") ∷ at 55 Alone (codes "named") ∷ []) (typed 28 AnInteger ∷ []) [] None (Begin 0 (With (DeclareProcedure None 1 (record { name = (identifier 2 (codes "show")); formals = ((identifier 4 (codes "n")) ∷ []); modes = []; specifications = (record { kind = (Simple (type_name.Integer (token 7))); names = ((identifier 8 (codes "n")) ∷ []) } ∷ []) }) (Call (Named (identifier 10 (codes "outint")) (Then (Named (identifier 12 (codes "n")) NoMore) (Then (Constant (IntegerValue (pos 2)) 14) NoMore)))) 16) (With (DeclareProcedure None 17 (record { name = (identifier 18 (codes "given")); formals = ((identifier 20 (codes "p")) ∷ []); modes = []; specifications = (record { kind = (Procedure None 23); names = ((identifier 24 (codes "p")) ∷ []) } ∷ []) }) (Call (Named (identifier 26 (codes "p")) (Then (Constant (IntegerValue (pos 4)) 28) NoMore))) 30) (With (DeclareProcedure None 31 (record { name = (identifier 32 (codes "named")); formals = ((identifier 34 (codes "p")) ∷ []); modes = (record { token = 37; mode = mode.Name; names = ((identifier 38 (codes "p")) ∷ []) } ∷ []); specifications = (record { kind = (Procedure None 40); names = ((identifier 41 (codes "p")) ∷ []) } ∷ []) }) (Call (Named (identifier 43 (codes "given")) (Then (Named (identifier 45 (codes "p")) NoMore) NoMore))) 47) NoDeclaration))) (Also (Call (Named (identifier 48 (codes "named")) (Then (Named (identifier 50 (codes "show")) NoMore) NoMore))) (Also (Call (Named (identifier 53 (codes "given")) (Then (Named (identifier 55 (codes "named")) NoMore) NoMore))) NoStatement)) 57)

-- begin
-- class c; begin integer n; n := 3 end;
-- c class d;;
-- procedure see(x); ref(c) x; outint(if x == none then 0 else x.n, 2);
-- procedure fill(a); ref(c) array a; a(1) :- new d;
-- procedure use(p, q); procedure p, q;
-- begin ref(c) array e(1:1); ref(d) array f(1:1); p(none); p(new d); q(e); p(e(1));
-- q(f)
-- end;
-- use(see, fill)
-- end
abbrev pub references : Source
references = source_with_sets ((1, 1) ∷ (2, 12) ∷ (3, 5) ∷ (4, 28) ∷ (5, 21) ∷ (6, 13) ∷ (7, 49) ∷ (8, 4) ∷ (9, 2) ∷ (10, 6) ∷ (11, 2) ∷ []) (at 8 Alone (codes "n") ∷ at 30 Alone (codes "outint") ∷ at 33 Alone (codes "x") ∷ at 39 Alone (codes "x") ∷ at 41 (Behind (codes "c")) (codes "n") ∷ at 59 Alone (codes "a") ∷ at 65 Alone (codes "d") ∷ at 105 Alone (codes "p") ∷ at 110 Alone (codes "p") ∷ at 113 Alone (codes "d") ∷ at 116 Alone (codes "q") ∷ at 118 Alone (codes "e") ∷ at 121 Alone (codes "p") ∷ at 123 Alone (codes "e") ∷ at 129 Alone (codes "q") ∷ at 131 Alone (codes "f") ∷ at 135 Alone (codes "use") ∷ at 137 Alone (codes "see") ∷ at 139 Alone (codes "fill") ∷ []) (typed 33 (Reference (codes "c")) ∷ typed 39 (Reference (codes "c")) ∷ typed 59 (Reference (codes "c")) ∷ typed 64 (Reference (codes "d")) ∷ typed 107 OfNone ∷ typed 112 (Reference (codes "d")) ∷ typed 118 (Reference (codes "c")) ∷ typed 123 (Reference (codes "c")) ∷ typed 131 (Reference (codes "d")) ∷ []) [] None (Begin 0 (With (DeclareClass None 1 (record { name = (identifier 2 (codes "c")); formals = []; modes = []; specifications = [] }) (record { protections = []; virtuals = [] }) (Compound (Begin 4 (With (Variables (type_name.Integer (token 5)) (record { name = (identifier 6 (codes "n")); value = None } ∷ [])) NoDeclaration) (Also (Assign (Named (identifier 8 (codes "n")) NoMore) (record { sign = assignment.Value; token = 9; value = (Constant (IntegerValue (pos 3)) 10) } ∷ [])) NoStatement) 11)) 12) (With (DeclareClass (Some (identifier 13 (codes "c"))) 14 (record { name = (identifier 15 (codes "d")); formals = []; modes = []; specifications = [] }) (record { protections = []; virtuals = [] }) (Empty 17) 17) (With (DeclareProcedure None 18 (record { name = (identifier 19 (codes "see")); formals = ((identifier 21 (codes "x")) ∷ []); modes = []; specifications = (record { kind = (Simple (type_name.Reference (token 24) (identifier 26 (codes "c")))); names = ((identifier 28 (codes "x")) ∷ []) } ∷ []) }) (Call (Named (identifier 30 (codes "outint")) (Then (If 32 (Binary (op.Relate relation.SameReference) 34 (Named (identifier 33 (codes "x")) NoMore) (Constant NoObject 35)) (Constant (IntegerValue (pos 0)) 37) (Dot 40 (Named (identifier 39 (codes "x")) NoMore) (identifier 41 (codes "n")) NoMore)) (Then (Constant (IntegerValue (pos 2)) 43) NoMore)))) 45) (With (DeclareProcedure None 46 (record { name = (identifier 47 (codes "fill")); formals = ((identifier 49 (codes "a")) ∷ []); modes = []; specifications = (record { kind = (Array (type_name.Reference (token 52) (identifier 54 (codes "c"))) 56); names = ((identifier 57 (codes "a")) ∷ []) } ∷ []) }) (Assign (Named (identifier 59 (codes "a")) (Then (Constant (IntegerValue (pos 1)) 61) NoMore)) (record { sign = assignment.Reference; token = 63; value = (New 64 (identifier 65 (codes "d")) NoMore) } ∷ [])) 66) (With (DeclareProcedure None 67 (record { name = (identifier 68 (codes "use")); formals = ((identifier 70 (codes "p")) ∷ (identifier 72 (codes "q")) ∷ []); modes = []; specifications = (record { kind = (Procedure None 75); names = ((identifier 76 (codes "p")) ∷ (identifier 78 (codes "q")) ∷ []) } ∷ []) }) (Compound (Begin 80 (With (Arrays (type_name.Reference (token 81) (identifier 83 (codes "c"))) 85 (record { names = ((identifier 86 (codes "e")) ∷ []); bounds = (record { lower = (Constant (IntegerValue (pos 1)) 88); upper = (Constant (IntegerValue (pos 1)) 90) } ∷ []) } ∷ [])) (With (Arrays (type_name.Reference (token 93) (identifier 95 (codes "d"))) 97 (record { names = ((identifier 98 (codes "f")) ∷ []); bounds = (record { lower = (Constant (IntegerValue (pos 1)) 100); upper = (Constant (IntegerValue (pos 1)) 102) } ∷ []) } ∷ [])) NoDeclaration)) (Also (Call (Named (identifier 105 (codes "p")) (Then (Constant NoObject 107) NoMore))) (Also (Call (Named (identifier 110 (codes "p")) (Then (New 112 (identifier 113 (codes "d")) NoMore) NoMore))) (Also (Call (Named (identifier 116 (codes "q")) (Then (Named (identifier 118 (codes "e")) NoMore) NoMore))) (Also (Call (Named (identifier 121 (codes "p")) (Then (Named (identifier 123 (codes "e")) (Then (Constant (IntegerValue (pos 1)) 125) NoMore)) NoMore))) (Also (Call (Named (identifier 129 (codes "q")) (Then (Named (identifier 131 (codes "f")) NoMore) NoMore))) NoStatement))))) 133)) 134) NoDeclaration))))) (Also (Call (Named (identifier 135 (codes "use")) (Then (Named (identifier 137 (codes "see")) NoMore) (Then (Named (identifier 139 (codes "fill")) NoMore) NoMore)))) NoStatement) 141)

-- begin
-- procedure outer(level, p); integer level; procedure p;
-- begin
-- class c; begin end;
-- procedure take(x); ref(c) x; outtext("t");
-- if level = 0 then outer(1, take) else begin p(none);
-- p(new c) end
-- end;
-- procedure nothing;;
-- outer(0, nothing)
-- end
abbrev pub two_instances : Source
two_instances = source_with_sets ((1, 1) ∷ (2, 14) ∷ (3, 1) ∷ (4, 6) ∷ (5, 17) ∷ (6, 18) ∷ (7, 6) ∷ (8, 2) ∷ (9, 4) ∷ (10, 6) ∷ (11, 2) ∷ []) (at 34 Alone (codes "outtext") ∷ at 40 Alone (codes "level") ∷ at 44 Alone (codes "outer") ∷ at 48 Alone (codes "take") ∷ at 52 Alone (codes "p") ∷ at 57 Alone (codes "p") ∷ at 60 Alone (codes "c") ∷ at 69 Alone (codes "outer") ∷ at 73 Alone (codes "nothing") ∷ []) (typed 36 AText ∷ typed 54 OfNone ∷ typed 59 (Reference (codes "c")) ∷ []) [] None (Begin 0 (With (DeclareProcedure None 1 (record { name = (identifier 2 (codes "outer")); formals = ((identifier 4 (codes "level")) ∷ (identifier 6 (codes "p")) ∷ []); modes = []; specifications = (record { kind = (Simple (type_name.Integer (token 9))); names = ((identifier 10 (codes "level")) ∷ []) } ∷ record { kind = (Procedure None 12); names = ((identifier 13 (codes "p")) ∷ []) } ∷ []) }) (Compound (Begin 15 (With (DeclareClass None 16 (record { name = (identifier 17 (codes "c")); formals = []; modes = []; specifications = [] }) (record { protections = []; virtuals = [] }) (Compound (Begin 19 NoDeclaration NoStatement 20)) 21) (With (DeclareProcedure None 22 (record { name = (identifier 23 (codes "take")); formals = ((identifier 25 (codes "x")) ∷ []); modes = []; specifications = (record { kind = (Simple (type_name.Reference (token 28) (identifier 30 (codes "c")))); names = ((identifier 32 (codes "x")) ∷ []) } ∷ []) }) (Call (Named (identifier 34 (codes "outtext")) (Then (Constant (TextValue (codes "t")) 36) NoMore))) 38) NoDeclaration)) (Also (Choose 39 (Binary (op.Relate relation.Equal) 41 (Named (identifier 40 (codes "level")) NoMore) (Constant (IntegerValue (pos 0)) 42)) (Call (Named (identifier 44 (codes "outer")) (Then (Constant (IntegerValue (pos 1)) 46) (Then (Named (identifier 48 (codes "take")) NoMore) NoMore)))) (Also (Compound (Begin 51 NoDeclaration (Also (Call (Named (identifier 52 (codes "p")) (Then (Constant NoObject 54) NoMore))) (Also (Call (Named (identifier 57 (codes "p")) (Then (New 59 (identifier 60 (codes "c")) NoMore) NoMore))) NoStatement)) 62)) NoStatement)) NoStatement) 63)) 64) (With (DeclareProcedure None 65 (record { name = (identifier 66 (codes "nothing")); formals = []; modes = []; specifications = [] }) (Empty 68) 68) NoDeclaration)) (Also (Call (Named (identifier 69 (codes "outer")) (Then (Constant (IntegerValue (pos 0)) 71) (Then (Named (identifier 73 (codes "nothing")) NoMore) NoMore)))) NoStatement) 75)

-- begin
-- class a; virtual: procedure put;
-- begin put(7) end;
-- a class b;
-- begin procedure put(n); integer n; outint(n, 2) end;
-- ref(a) x;
-- x :- new b; x.put(5);
-- x.put("t")
-- end
abbrev pub matched : Source
matched = source_with_sets ((1, 1) ∷ (2, 8) ∷ (3, 7) ∷ (4, 4) ∷ (5, 18) ∷ (6, 6) ∷ (7, 12) ∷ (8, 6) ∷ (9, 2) ∷ []) (at 10 Alone (codes "put") ∷ at 30 Alone (codes "outint") ∷ at 32 Alone (codes "n") ∷ at 44 Alone (codes "x") ∷ at 47 Alone (codes "b") ∷ at 49 Alone (codes "x") ∷ at 51 (Behind (codes "a")) (codes "put") ∷ at 56 Alone (codes "x") ∷ at 58 (Behind (codes "a")) (codes "put") ∷ []) (typed 12 AnInteger ∷ typed 44 (Reference (codes "a")) ∷ typed 46 (Reference (codes "b")) ∷ typed 49 (Reference (codes "a")) ∷ typed 53 AnInteger ∷ typed 56 (Reference (codes "a")) ∷ typed 60 AText ∷ []) [] None (Begin 0 (With (DeclareClass None 1 (record { name = (identifier 2 (codes "a")); formals = []; modes = []; specifications = [] }) (record { protections = []; virtuals = (record { result = None; token = 6; names = ((identifier 7 (codes "put")) ∷ []) } ∷ []) }) (Compound (Begin 9 NoDeclaration (Also (Call (Named (identifier 10 (codes "put")) (Then (Constant (IntegerValue (pos 7)) 12) NoMore))) NoStatement) 14)) 15) (With (DeclareClass (Some (identifier 16 (codes "a"))) 17 (record { name = (identifier 18 (codes "b")); formals = []; modes = []; specifications = [] }) (record { protections = []; virtuals = [] }) (Compound (Begin 20 (With (DeclareProcedure None 21 (record { name = (identifier 22 (codes "put")); formals = ((identifier 24 (codes "n")) ∷ []); modes = []; specifications = (record { kind = (Simple (type_name.Integer (token 27))); names = ((identifier 28 (codes "n")) ∷ []) } ∷ []) }) (Call (Named (identifier 30 (codes "outint")) (Then (Named (identifier 32 (codes "n")) NoMore) (Then (Constant (IntegerValue (pos 2)) 34) NoMore)))) 36) NoDeclaration) NoStatement 36)) 37) (With (Variables (type_name.Reference (token 38) (identifier 40 (codes "a"))) (record { name = (identifier 42 (codes "x")); value = None } ∷ [])) NoDeclaration))) (Also (Assign (Named (identifier 44 (codes "x")) NoMore) (record { sign = assignment.Reference; token = 45; value = (New 46 (identifier 47 (codes "b")) NoMore) } ∷ [])) (Also (Call (Dot 50 (Named (identifier 49 (codes "x")) NoMore) (identifier 51 (codes "put")) (Then (Constant (IntegerValue (pos 5)) 53) NoMore))) (Also (Call (Dot 57 (Named (identifier 56 (codes "x")) NoMore) (identifier 58 (codes "put")) (Then (Constant (TextValue (codes "t")) 60) NoMore))) NoStatement))) 62)

-- begin
-- integer array v(1:2);
-- integer procedure sum(a); name a; integer array a;
-- begin integer j, s; for j := 1 step 1 until 2 do s := s + a(j); sum := s end;
-- procedure shown(b); name b; integer array b; outint(sum(b), 3);
-- v(1) := 4; v(2) := 5;
-- shown(v)
-- end
abbrev pub array_by_name : Source
array_by_name = source_with_sets ((1, 1) ∷ (2, 9) ∷ (3, 14) ∷ (4, 29) ∷ (5, 23) ∷ (6, 14) ∷ (7, 4) ∷ (8, 2) ∷ []) (at 31 Alone (codes "j") ∷ at 39 Alone (codes "s") ∷ at 41 Alone (codes "s") ∷ at 43 Alone (codes "a") ∷ at 45 Alone (codes "j") ∷ at 48 Alone (codes "sum") ∷ at 50 Alone (codes "s") ∷ at 66 Alone (codes "outint") ∷ at 68 Alone (codes "sum") ∷ at 70 Alone (codes "b") ∷ at 76 Alone (codes "v") ∷ at 83 Alone (codes "v") ∷ at 90 Alone (codes "shown") ∷ at 92 Alone (codes "v") ∷ []) [] [] None (Begin 0 (With (Arrays (type_name.Integer (token 1)) 2 (record { names = ((identifier 3 (codes "v")) ∷ []); bounds = (record { lower = (Constant (IntegerValue (pos 1)) 5); upper = (Constant (IntegerValue (pos 2)) 7) } ∷ []) } ∷ [])) (With (DeclareProcedure (Some (type_name.Integer (token 10))) 11 (record { name = (identifier 12 (codes "sum")); formals = ((identifier 14 (codes "a")) ∷ []); modes = (record { token = 17; mode = mode.Name; names = ((identifier 18 (codes "a")) ∷ []) } ∷ []); specifications = (record { kind = (Array (type_name.Integer (token 20)) 21); names = ((identifier 22 (codes "a")) ∷ []) } ∷ []) }) (Compound (Begin 24 (With (Variables (type_name.Integer (token 25)) (record { name = (identifier 26 (codes "j")); value = None } ∷ record { name = (identifier 28 (codes "s")); value = None } ∷ [])) NoDeclaration) (Also (For 30 (identifier 31 (codes "j")) assignment.Value 32 (Step (Constant (IntegerValue (pos 1)) 33) 34 (Constant (IntegerValue (pos 1)) 35) (Constant (IntegerValue (pos 2)) 37) ∷ []) (Assign (Named (identifier 39 (codes "s")) NoMore) (record { sign = assignment.Value; token = 40; value = (Binary (op.Add sign.Plus) 42 (Named (identifier 41 (codes "s")) NoMore) (Named (identifier 43 (codes "a")) (Then (Named (identifier 45 (codes "j")) NoMore) NoMore))) } ∷ []))) (Also (Assign (Named (identifier 48 (codes "sum")) NoMore) (record { sign = assignment.Value; token = 49; value = (Named (identifier 50 (codes "s")) NoMore) } ∷ [])) NoStatement)) 51)) 52) (With (DeclareProcedure None 53 (record { name = (identifier 54 (codes "shown")); formals = ((identifier 56 (codes "b")) ∷ []); modes = (record { token = 59; mode = mode.Name; names = ((identifier 60 (codes "b")) ∷ []) } ∷ []); specifications = (record { kind = (Array (type_name.Integer (token 62)) 63); names = ((identifier 64 (codes "b")) ∷ []) } ∷ []) }) (Call (Named (identifier 66 (codes "outint")) (Then (Named (identifier 68 (codes "sum")) (Then (Named (identifier 70 (codes "b")) NoMore) NoMore)) (Then (Constant (IntegerValue (pos 3)) 73) NoMore)))) 75) NoDeclaration))) (Also (Assign (Named (identifier 76 (codes "v")) (Then (Constant (IntegerValue (pos 1)) 78) NoMore)) (record { sign = assignment.Value; token = 80; value = (Constant (IntegerValue (pos 4)) 81) } ∷ [])) (Also (Assign (Named (identifier 83 (codes "v")) (Then (Constant (IntegerValue (pos 2)) 85) NoMore)) (record { sign = assignment.Value; token = 87; value = (Constant (IntegerValue (pos 5)) 88) } ∷ [])) (Also (Call (Named (identifier 90 (codes "shown")) (Then (Named (identifier 92 (codes "v")) NoMore) NoMore))) NoStatement))) 94)

-- begin
-- class c; begin end;
-- c class d; begin end;
-- procedure take(x, n); ref(d) x; integer n; outint(n, 2);
-- integer procedure told; begin outtext("t"); told := 1 end;
-- procedure give(p); procedure p; begin p(new d, told);
-- p(new c, told) end;
-- give(take)
-- end
abbrev pub outside : Source
outside = source_with_sets ((1, 1) ∷ (2, 6) ∷ (3, 7) ∷ (4, 24) ∷ (5, 15) ∷ (6, 18) ∷ (7, 9) ∷ (8, 4) ∷ (9, 2) ∷ []) (at 31 Alone (codes "outint") ∷ at 33 Alone (codes "n") ∷ at 43 Alone (codes "outtext") ∷ at 48 Alone (codes "told") ∷ at 63 Alone (codes "p") ∷ at 66 Alone (codes "d") ∷ at 68 Alone (codes "told") ∷ at 71 Alone (codes "p") ∷ at 74 Alone (codes "c") ∷ at 76 Alone (codes "told") ∷ at 80 Alone (codes "give") ∷ at 82 Alone (codes "take") ∷ []) (typed 45 AText ∷ typed 65 (Reference (codes "d")) ∷ typed 68 AnInteger ∷ typed 73 (Reference (codes "c")) ∷ typed 76 AnInteger ∷ []) [] None (Begin 0 (With (DeclareClass None 1 (record { name = (identifier 2 (codes "c")); formals = []; modes = []; specifications = [] }) (record { protections = []; virtuals = [] }) (Compound (Begin 4 NoDeclaration NoStatement 5)) 6) (With (DeclareClass (Some (identifier 7 (codes "c"))) 8 (record { name = (identifier 9 (codes "d")); formals = []; modes = []; specifications = [] }) (record { protections = []; virtuals = [] }) (Compound (Begin 11 NoDeclaration NoStatement 12)) 13) (With (DeclareProcedure None 14 (record { name = (identifier 15 (codes "take")); formals = ((identifier 17 (codes "x")) ∷ (identifier 19 (codes "n")) ∷ []); modes = []; specifications = (record { kind = (Simple (type_name.Reference (token 22) (identifier 24 (codes "d")))); names = ((identifier 26 (codes "x")) ∷ []) } ∷ record { kind = (Simple (type_name.Integer (token 28))); names = ((identifier 29 (codes "n")) ∷ []) } ∷ []) }) (Call (Named (identifier 31 (codes "outint")) (Then (Named (identifier 33 (codes "n")) NoMore) (Then (Constant (IntegerValue (pos 2)) 35) NoMore)))) 37) (With (DeclareProcedure (Some (type_name.Integer (token 38))) 39 (record { name = (identifier 40 (codes "told")); formals = []; modes = []; specifications = [] }) (Compound (Begin 42 NoDeclaration (Also (Call (Named (identifier 43 (codes "outtext")) (Then (Constant (TextValue (codes "t")) 45) NoMore))) (Also (Assign (Named (identifier 48 (codes "told")) NoMore) (record { sign = assignment.Value; token = 49; value = (Constant (IntegerValue (pos 1)) 50) } ∷ [])) NoStatement)) 51)) 52) (With (DeclareProcedure None 53 (record { name = (identifier 54 (codes "give")); formals = ((identifier 56 (codes "p")) ∷ []); modes = []; specifications = (record { kind = (Procedure None 59); names = ((identifier 60 (codes "p")) ∷ []) } ∷ []) }) (Compound (Begin 62 NoDeclaration (Also (Call (Named (identifier 63 (codes "p")) (Then (New 65 (identifier 66 (codes "d")) NoMore) (Then (Named (identifier 68 (codes "told")) NoMore) NoMore)))) (Also (Call (Named (identifier 71 (codes "p")) (Then (New 73 (identifier 74 (codes "c")) NoMore) (Then (Named (identifier 76 (codes "told")) NoMore) NoMore)))) NoStatement)) 78)) 79) NoDeclaration))))) (Also (Call (Named (identifier 80 (codes "give")) (Then (Named (identifier 82 (codes "take")) NoMore) NoMore))) NoStatement) 84)

-- begin
-- procedure up(x, t); name x; value t; integer x; text t; begin x := x + 1; outtext(t) end;
-- procedure use(p); procedure p; begin integer k; k := 5; p(k, "a"); outint(k, 2) end;
-- use(up)
-- end
abbrev pub name_of_a_caller : Source
name_of_a_caller = source_with_sets ((1, 1) ∷ (2, 33) ∷ (3, 32) ∷ (4, 4) ∷ (5, 2) ∷ []) (at 22 Alone (codes "x") ∷ at 24 Alone (codes "x") ∷ at 28 Alone (codes "outtext") ∷ at 30 Alone (codes "t") ∷ at 47 Alone (codes "k") ∷ at 51 Alone (codes "p") ∷ at 53 Alone (codes "k") ∷ at 58 Alone (codes "outint") ∷ at 60 Alone (codes "k") ∷ at 66 Alone (codes "use") ∷ at 68 Alone (codes "up") ∷ []) (typed 30 AText ∷ typed 53 AnInteger ∷ typed 55 AText ∷ []) [] None (Begin 0 (With (DeclareProcedure None 1 (record { name = (identifier 2 (codes "up")); formals = ((identifier 4 (codes "x")) ∷ (identifier 6 (codes "t")) ∷ []); modes = (record { token = 9; mode = mode.Name; names = ((identifier 10 (codes "x")) ∷ []) } ∷ record { token = 12; mode = mode.Value; names = ((identifier 13 (codes "t")) ∷ []) } ∷ []); specifications = (record { kind = (Simple (type_name.Integer (token 15))); names = ((identifier 16 (codes "x")) ∷ []) } ∷ record { kind = (Simple (type_name.Text (token 18))); names = ((identifier 19 (codes "t")) ∷ []) } ∷ []) }) (Compound (Begin 21 NoDeclaration (Also (Assign (Named (identifier 22 (codes "x")) NoMore) (record { sign = assignment.Value; token = 23; value = (Binary (op.Add sign.Plus) 25 (Named (identifier 24 (codes "x")) NoMore) (Constant (IntegerValue (pos 1)) 26)) } ∷ [])) (Also (Call (Named (identifier 28 (codes "outtext")) (Then (Named (identifier 30 (codes "t")) NoMore) NoMore))) NoStatement)) 32)) 33) (With (DeclareProcedure None 34 (record { name = (identifier 35 (codes "use")); formals = ((identifier 37 (codes "p")) ∷ []); modes = []; specifications = (record { kind = (Procedure None 40); names = ((identifier 41 (codes "p")) ∷ []) } ∷ []) }) (Compound (Begin 43 (With (Variables (type_name.Integer (token 44)) (record { name = (identifier 45 (codes "k")); value = None } ∷ [])) NoDeclaration) (Also (Assign (Named (identifier 47 (codes "k")) NoMore) (record { sign = assignment.Value; token = 48; value = (Constant (IntegerValue (pos 5)) 49) } ∷ [])) (Also (Call (Named (identifier 51 (codes "p")) (Then (Named (identifier 53 (codes "k")) NoMore) (Then (Constant (TextValue (codes "a")) 55) NoMore)))) (Also (Call (Named (identifier 58 (codes "outint")) (Then (Named (identifier 60 (codes "k")) NoMore) (Then (Constant (IntegerValue (pos 2)) 62) NoMore)))) NoStatement))) 64)) 65) NoDeclaration)) (Also (Call (Named (identifier 66 (codes "use")) (Then (Named (identifier 68 (codes "up")) NoMore) NoMore))) NoStatement) 70)

-- simulation begin
-- activate new
-- process delay 1;
-- passivate
-- end
abbrev pub process_itself : Source
process_itself = source_with_sets ((1, 2) ∷ (2, 2) ∷ (3, 4) ∷ (4, 1) ∷ (5, 2) ∷ []) (at 4 Alone (codes "process") ∷ at 8 Alone (codes "passivate") ∷ []) (typed 3 (Reference (codes "process")) ∷ []) [] (Some (record { class = (identifier 0 (codes "simulation")); arguments = NoMore })) (Begin 1 NoDeclaration (Also (syntax.Activate 2 activation.Activate (New 3 (identifier 4 (codes "process")) NoMore) (syntax.Delay 5 (Constant (IntegerValue (pos 1)) 6) None)) (Also (Call (Named (identifier 8 (codes "passivate")) NoMore)) NoStatement)) 9)

-- ---- what they show

-- The output, the ticks and the words at the end, and the ending of each.
pub record WorkedFormals : Type 0 where
  pub wrong_number : seen counted (limits 1000 1000) 1000 ≡ shows (codes "   1\n") 10 9 (RunFault WrongNumberOfParameters 6)
  pub wrong_kind : seen passed_on (limits 1000 1000) 1000 ≡ shows (codes " 4\n") 12 9 (RunFault WrongParameter 3)
  pub wrong_class : seen references (limits 1000 1000) 1000 ≡ shows (codes " 0 3 3\n") 24 38 (RunFault WrongParameter 8)
  pub other_instance : seen two_instances (limits 1000 1000) 1000 ≡ shows (codes "t\n") 16 24 (RunFault WrongParameter 7)
  pub wrong_type : seen matched (limits 1000 1000) 1000 ≡ shows (codes " 7 5\n") 11 9 (RunFault WrongParameter 8)
  pub sum_by_name : seen array_by_name (limits 1000 1000) 1000 ≡ shows (codes "  9\n") 20 12 Normal
  pub outside_class : seen outside (limits 1000 1000) 1000 ≡ shows (codes "t 1\n") 16 17 (RunFault OutsideQualification 7)
  pub home_of_caller : seen name_of_a_caller (limits 1000 1000) 1000 ≡ shows (codes "a 6\n") 14 7 Normal
  pub generated_at : seen process_itself (limits 1000 1000) 1000 ≡ shows (codes "") 4 12 (RunFault NoNoticeLeft 2)
