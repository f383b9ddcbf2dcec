-- Small programs with virtuals, as what scopes make of their abstract syntax.
use Rattle.std.specs.Prelude.{◌≡◌, pos, [], ◌∷◌, Some, None, codes}
use Rattle.sim_base.specs.declared.run_error.RunError.TheVariants.{NoMatch, WrongNumberOfParameters}
use Rattle.sim_scope.specs.Source.{Source}
use Rattle.sim_tree.specs.declared.expr.Sign.TheVariants as sign
use Rattle.sim_tree.specs.declared.operator.Operator.TheVariants as op
use Rattle.sim_tree.specs.declared.stmt.Assignment.TheVariants as assignment
use Rattle.sim_tree.specs.declared.stmt.TypeName.TheVariants as type_name
use Rattle.sim_tree.specs.Syntax.{Also, Assign, Begin, Binary, Call, Compound, Constant, DeclareClass, DeclareProcedure, Dot, IntegerValue, Named, New, NoDeclaration, NoMore, NoStatement, TextValue, Then, Variables, With}
use Rattle.sim_code.specs.Outcome.{Normal, RunFault}
use Rattle.sim_meaning.specs.Examples.{identifier, limits, seen, shows, token}
use Rattle.sim_meaning.specs.ClassExamples.{AText, Alone, Behind, Reference, at, typed}
use Rattle.sim_meaning.specs.SetExamples.{source_with_sets}

-- begin
-- class c; virtual: procedure show; integer procedure next;
-- begin integer n; n := 4; show; outint(next, 2) end;
-- c class d;
-- begin procedure show; outtext("d"); integer procedure next; next := n + 1; end;
-- ref(c) x;
-- x :- new d; x.show;
-- outint(x.next, 2)
-- end
abbrev pub matched_inside : Source
matched_inside = source_with_sets ((1, 1) ∷ (2, 12) ∷ (3, 18) ∷ (4, 4) ∷ (5, 21) ∷ (6, 6) ∷ (7, 9) ∷ (8, 8) ∷ (9, 1) ∷ []) (at 17 Alone (codes "n") ∷ at 21 Alone (codes "show") ∷ at 23 Alone (codes "outint") ∷ at 25 Alone (codes "next") ∷ at 39 Alone (codes "outtext") ∷ at 48 Alone (codes "next") ∷ at 50 Alone (codes "n") ∷ at 62 Alone (codes "x") ∷ at 65 Alone (codes "d") ∷ at 67 Alone (codes "x") ∷ at 69 (Behind (codes "c")) (codes "show") ∷ at 71 Alone (codes "outint") ∷ at 73 Alone (codes "x") ∷ at 75 (Behind (codes "c")) (codes "next") ∷ []) (typed 41 AText ∷ typed 62 (Reference (codes "c")) ∷ []) [] None (Begin 0 (With (DeclareClass None 1 (record { name = (identifier 2 (codes "c")); formals = []; modes = []; specifications = [] }) (record { protections = []; virtuals = (record { result = None; token = 6; names = ((identifier 7 (codes "show")) ∷ []) } ∷ record { result = (Some (type_name.Integer (token 9))); token = 10; names = ((identifier 11 (codes "next")) ∷ []) } ∷ []) }) (Compound (Begin 13 (With (Variables (type_name.Integer (token 14)) (record { name = (identifier 15 (codes "n")); value = None } ∷ [])) NoDeclaration) (Also (Assign (Named (identifier 17 (codes "n")) NoMore) (record { sign = assignment.Value; token = 18; value = (Constant (IntegerValue (pos 4)) 19) } ∷ [])) (Also (Call (Named (identifier 21 (codes "show")) NoMore)) (Also (Call (Named (identifier 23 (codes "outint")) (Then (Named (identifier 25 (codes "next")) NoMore) (Then (Constant (IntegerValue (pos 2)) 27) NoMore)))) NoStatement))) 29)) 30) (With (DeclareClass (Some (identifier 31 (codes "c"))) 32 (record { name = (identifier 33 (codes "d")); formals = []; modes = []; specifications = [] }) (record { protections = []; virtuals = [] }) (Compound (Begin 35 (With (DeclareProcedure None 36 (record { name = (identifier 37 (codes "show")); formals = []; modes = []; specifications = [] }) (Call (Named (identifier 39 (codes "outtext")) (Then (Constant (TextValue (codes "d")) 41) NoMore))) 43) (With (DeclareProcedure (Some (type_name.Integer (token 44))) 45 (record { name = (identifier 46 (codes "next")); formals = []; modes = []; specifications = [] }) (Assign (Named (identifier 48 (codes "next")) NoMore) (record { sign = assignment.Value; token = 49; value = (Binary (op.Add sign.Plus) 51 (Named (identifier 50 (codes "n")) NoMore) (Constant (IntegerValue (pos 1)) 52)) } ∷ [])) 53) NoDeclaration)) NoStatement 54)) 55) (With (Variables (type_name.Reference (token 56) (identifier 58 (codes "c"))) (record { name = (identifier 60 (codes "x")); value = None } ∷ [])) NoDeclaration))) (Also (Assign (Named (identifier 62 (codes "x")) NoMore) (record { sign = assignment.Reference; token = 63; value = (New 64 (identifier 65 (codes "d")) NoMore) } ∷ [])) (Also (Call (Dot 68 (Named (identifier 67 (codes "x")) NoMore) (identifier 69 (codes "show")) NoMore)) (Also (Call (Named (identifier 71 (codes "outint")) (Then (Dot 74 (Named (identifier 73 (codes "x")) NoMore) (identifier 75 (codes "next")) NoMore) (Then (Constant (IntegerValue (pos 2)) 77) NoMore)))) NoStatement))) 79)

-- begin
-- class c; virtual: procedure p; begin end;
-- ref(c) x;
-- x :- new c; outtext("a");
-- x.p
-- end
abbrev pub without_match : Source
without_match = source_with_sets ((1, 1) ∷ (2, 11) ∷ (3, 6) ∷ (4, 10) ∷ (5, 3) ∷ (6, 1) ∷ []) (at 18 Alone (codes "x") ∷ at 21 Alone (codes "c") ∷ at 23 Alone (codes "outtext") ∷ at 28 Alone (codes "x") ∷ at 30 (Behind (codes "c")) (codes "p") ∷ []) (typed 18 (Reference (codes "c")) ∷ typed 25 AText ∷ []) [] None (Begin 0 (With (DeclareClass None 1 (record { name = (identifier 2 (codes "c")); formals = []; modes = []; specifications = [] }) (record { protections = []; virtuals = (record { result = None; token = 6; names = ((identifier 7 (codes "p")) ∷ []) } ∷ []) }) (Compound (Begin 9 NoDeclaration NoStatement 10)) 11) (With (Variables (type_name.Reference (token 12) (identifier 14 (codes "c"))) (record { name = (identifier 16 (codes "x")); value = None } ∷ [])) NoDeclaration)) (Also (Assign (Named (identifier 18 (codes "x")) NoMore) (record { sign = assignment.Reference; token = 19; value = (New 20 (identifier 21 (codes "c")) NoMore) } ∷ [])) (Also (Call (Named (identifier 23 (codes "outtext")) (Then (Constant (TextValue (codes "a")) 25) NoMore))) (Also (Call (Dot 29 (Named (identifier 28 (codes "x")) NoMore) (identifier 30 (codes "p")) NoMore)) NoStatement))) 31)

-- begin
-- class c; virtual: procedure p; begin end;
-- c class d; begin procedure p; outtext("p"); end;
-- ref(c) x;
-- x :- new d; x.p;
-- x.p(1)
-- end
abbrev pub with_an_actual : Source
with_an_actual = source_with_sets ((1, 1) ∷ (2, 11) ∷ (3, 15) ∷ (4, 6) ∷ (5, 9) ∷ (6, 6) ∷ (7, 1) ∷ []) (at 20 Alone (codes "outtext") ∷ at 33 Alone (codes "x") ∷ at 36 Alone (codes "d") ∷ at 38 Alone (codes "x") ∷ at 40 (Behind (codes "c")) (codes "p") ∷ at 42 Alone (codes "x") ∷ at 44 (Behind (codes "c")) (codes "p") ∷ []) (typed 22 AText ∷ typed 33 (Reference (codes "c")) ∷ []) [] None (Begin 0 (With (DeclareClass None 1 (record { name = (identifier 2 (codes "c")); formals = []; modes = []; specifications = [] }) (record { protections = []; virtuals = (record { result = None; token = 6; names = ((identifier 7 (codes "p")) ∷ []) } ∷ []) }) (Compound (Begin 9 NoDeclaration NoStatement 10)) 11) (With (DeclareClass (Some (identifier 12 (codes "c"))) 13 (record { name = (identifier 14 (codes "d")); formals = []; modes = []; specifications = [] }) (record { protections = []; virtuals = [] }) (Compound (Begin 16 (With (DeclareProcedure None 17 (record { name = (identifier 18 (codes "p")); formals = []; modes = []; specifications = [] }) (Call (Named (identifier 20 (codes "outtext")) (Then (Constant (TextValue (codes "p")) 22) NoMore))) 24) NoDeclaration) NoStatement 25)) 26) (With (Variables (type_name.Reference (token 27) (identifier 29 (codes "c"))) (record { name = (identifier 31 (codes "x")); value = None } ∷ [])) NoDeclaration))) (Also (Assign (Named (identifier 33 (codes "x")) NoMore) (record { sign = assignment.Reference; token = 34; value = (New 35 (identifier 36 (codes "d")) NoMore) } ∷ [])) (Also (Call (Dot 39 (Named (identifier 38 (codes "x")) NoMore) (identifier 40 (codes "p")) NoMore)) (Also (Call (Dot 43 (Named (identifier 42 (codes "x")) NoMore) (identifier 44 (codes "p")) (Then (Constant (IntegerValue (pos 1)) 46) NoMore))) NoStatement))) 48)

-- ---- what they show

-- The output, the ticks and the words at the end, and the ending of each.
pub record WorkedVirtuals : Type 0 where
  pub by_prefix : seen matched_inside (limits 1000 1000) 1000 ≡ shows (codes "d 5d 5\n") 17 10 Normal
  pub no_match : seen without_match (limits 1000 1000) 1000 ≡ shows (codes "a\n") 6 9 (RunFault NoMatch 5)
  pub wrong_number : seen with_an_actual (limits 1000 1000) 1000 ≡ shows (codes "p\n") 8 9 (RunFault WrongNumberOfParameters 6)
