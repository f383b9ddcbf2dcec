-- Small programs with coroutines, as what scopes make of their abstract syntax.
use Rattle.std.specs.Prelude.{◌≡◌, pos, [], ◌∷◌, None, codes}
use Rattle.sim_base.specs.declared.run_error.RunError.TheVariants.{AccessThroughNone, ComponentIsTerminated, ObjectNotOperating}
use Rattle.sim_scope.specs.Source.{Source}
use Rattle.sim_tree.specs.declared.stmt.Assignment.TheVariants as assignment
use Rattle.sim_tree.specs.declared.stmt.TypeName.TheVariants as type_name
use Rattle.sim_tree.specs.Syntax.{Also, Assign, Begin, Call, CharacterValue, Compound, Constant, DeclareClass, DeclareProcedure, Dot, IntegerValue, Named, New, NoDeclaration, NoMore, NoStatement, Prefixed, Simple, TextValue, Then, Variables, With}
use Rattle.sim_code.specs.Outcome.{Normal, RunFault}
use Rattle.sim_meaning.specs.Examples.{identifier, limits, seen, shows, token}
use Rattle.sim_meaning.specs.ClassExamples.{AText, Alone, Behind, Reference, at, source_with_classes, typed}

-- begin
-- class c; begin outint(1, 2); detach; outint(2, 2); detach; outint(3, 2) end;
-- ref(c) x;
-- x :- new c; outtext(" new");
-- call(x); outtext(" back");
-- call(x);
-- call(x)
-- end
abbrev pub three_parts : Source
three_parts = source_with_classes ((1, 1) ∷ (2, 30) ∷ (3, 6) ∷ (4, 10) ∷ (5, 10) ∷ (6, 5) ∷ (7, 4) ∷ (8, 1) ∷ []) (at 5 Alone (codes "outint") ∷ at 12 Alone (codes "detach") ∷ at 14 Alone (codes "outint") ∷ at 21 Alone (codes "detach") ∷ at 23 Alone (codes "outint") ∷ at 37 Alone (codes "x") ∷ at 40 Alone (codes "c") ∷ at 42 Alone (codes "outtext") ∷ at 47 Alone (codes "call") ∷ at 49 Alone (codes "x") ∷ at 52 Alone (codes "outtext") ∷ at 57 Alone (codes "call") ∷ at 59 Alone (codes "x") ∷ at 62 Alone (codes "call") ∷ at 64 Alone (codes "x") ∷ []) (typed 37 (Reference (codes "c")) ∷ typed 44 AText ∷ typed 49 (Reference (codes "c")) ∷ typed 54 AText ∷ typed 59 (Reference (codes "c")) ∷ typed 64 (Reference (codes "c")) ∷ []) [] (Begin 0 (With (DeclareClass None 1 (record { name = (identifier 2 (codes "c")); formals = []; modes = []; specifications = [] }) (record { protections = []; virtuals = [] }) (Compound (Begin 4 NoDeclaration (Also (Call (Named (identifier 5 (codes "outint")) (Then (Constant (IntegerValue (pos 1)) 7) (Then (Constant (IntegerValue (pos 2)) 9) NoMore)))) (Also (Call (Named (identifier 12 (codes "detach")) NoMore)) (Also (Call (Named (identifier 14 (codes "outint")) (Then (Constant (IntegerValue (pos 2)) 16) (Then (Constant (IntegerValue (pos 2)) 18) NoMore)))) (Also (Call (Named (identifier 21 (codes "detach")) NoMore)) (Also (Call (Named (identifier 23 (codes "outint")) (Then (Constant (IntegerValue (pos 3)) 25) (Then (Constant (IntegerValue (pos 2)) 27) NoMore)))) NoStatement))))) 29)) 30) (With (Variables (type_name.Reference (token 31) (identifier 33 (codes "c"))) (record { name = (identifier 35 (codes "x")); value = None } ∷ [])) NoDeclaration)) (Also (Assign (Named (identifier 37 (codes "x")) NoMore) (record { sign = assignment.Reference; token = 38; value = (New 39 (identifier 40 (codes "c")) NoMore) } ∷ [])) (Also (Call (Named (identifier 42 (codes "outtext")) (Then (Constant (TextValue (codes " new")) 44) NoMore))) (Also (Call (Named (identifier 47 (codes "call")) (Then (Named (identifier 49 (codes "x")) NoMore) NoMore))) (Also (Call (Named (identifier 52 (codes "outtext")) (Then (Constant (TextValue (codes " back")) 54) NoMore))) (Also (Call (Named (identifier 57 (codes "call")) (Then (Named (identifier 59 (codes "x")) NoMore) NoMore))) (Also (Call (Named (identifier 62 (codes "call")) (Then (Named (identifier 64 (codes "x")) NoMore) NoMore))) NoStatement)))))) 66)

-- begin
-- class c; begin procedure p; detach; outint(1, 2); p; outint(2, 2); p end;
-- ref(c) x;
-- x :- new c;
-- call(x); x.p
-- end
abbrev pub detached_in_procedure : Source
detached_in_procedure = source_with_classes ((1, 1) ∷ (2, 28) ∷ (3, 6) ∷ (4, 5) ∷ (5, 8) ∷ (6, 1) ∷ []) (at 8 Alone (codes "detach") ∷ at 10 Alone (codes "outint") ∷ at 17 Alone (codes "p") ∷ at 19 Alone (codes "outint") ∷ at 26 Alone (codes "p") ∷ at 35 Alone (codes "x") ∷ at 38 Alone (codes "c") ∷ at 40 Alone (codes "call") ∷ at 42 Alone (codes "x") ∷ at 45 Alone (codes "x") ∷ at 47 (Behind (codes "c")) (codes "p") ∷ []) (typed 35 (Reference (codes "c")) ∷ typed 42 (Reference (codes "c")) ∷ typed 45 (Reference (codes "c")) ∷ []) [] (Begin 0 (With (DeclareClass None 1 (record { name = (identifier 2 (codes "c")); formals = []; modes = []; specifications = [] }) (record { protections = []; virtuals = [] }) (Compound (Begin 4 (With (DeclareProcedure None 5 (record { name = (identifier 6 (codes "p")); formals = []; modes = []; specifications = [] }) (Call (Named (identifier 8 (codes "detach")) NoMore)) 9) NoDeclaration) (Also (Call (Named (identifier 10 (codes "outint")) (Then (Constant (IntegerValue (pos 1)) 12) (Then (Constant (IntegerValue (pos 2)) 14) NoMore)))) (Also (Call (Named (identifier 17 (codes "p")) NoMore)) (Also (Call (Named (identifier 19 (codes "outint")) (Then (Constant (IntegerValue (pos 2)) 21) (Then (Constant (IntegerValue (pos 2)) 23) NoMore)))) (Also (Call (Named (identifier 26 (codes "p")) NoMore)) NoStatement)))) 27)) 28) (With (Variables (type_name.Reference (token 29) (identifier 31 (codes "c"))) (record { name = (identifier 33 (codes "x")); value = None } ∷ [])) NoDeclaration)) (Also (Assign (Named (identifier 35 (codes "x")) NoMore) (record { sign = assignment.Reference; token = 36; value = (New 37 (identifier 38 (codes "c")) NoMore) } ∷ [])) (Also (Call (Named (identifier 40 (codes "call")) (Then (Named (identifier 42 (codes "x")) NoMore) NoMore))) (Also (Call (Dot 46 (Named (identifier 45 (codes "x")) NoMore) (identifier 47 (codes "p")) NoMore)) NoStatement))) 48)

-- begin
-- class c; begin end;
-- ref(c) x;
-- c begin detach; outint(1, 2) end;
-- x
-- .detach
-- end
abbrev pub detached_block : Source
detached_block = source_with_classes ((1, 1) ∷ (2, 6) ∷ (3, 6) ∷ (4, 12) ∷ (5, 1) ∷ (6, 2) ∷ (7, 1) ∷ []) (at 15 Alone (codes "detach") ∷ at 17 Alone (codes "outint") ∷ at 25 Alone (codes "x") ∷ at 27 (Behind (codes "c")) (codes "detach") ∷ []) (typed 25 (Reference (codes "c")) ∷ []) [] (Begin 0 (With (DeclareClass None 1 (record { name = (identifier 2 (codes "c")); formals = []; modes = []; specifications = [] }) (record { protections = []; virtuals = [] }) (Compound (Begin 4 NoDeclaration NoStatement 5)) 6) (With (Variables (type_name.Reference (token 7) (identifier 9 (codes "c"))) (record { name = (identifier 11 (codes "x")); value = None } ∷ [])) NoDeclaration)) (Also (Prefixed (identifier 13 (codes "c")) NoMore (Begin 14 NoDeclaration (Also (Call (Named (identifier 15 (codes "detach")) NoMore)) (Also (Call (Named (identifier 17 (codes "outint")) (Then (Constant (IntegerValue (pos 1)) 19) (Then (Constant (IntegerValue (pos 2)) 21) NoMore)))) NoStatement)) 23)) (Also (Call (Dot 26 (Named (identifier 25 (codes "x")) NoMore) (identifier 27 (codes "detach")) NoMore)) NoStatement)) 28)

-- begin
-- class c(ch); character ch;
-- begin
-- ref(c) other;
-- detach;
-- outchar(ch); resume(other); outchar(ch); resume(other); outchar('!') end;
-- ref(c) x, y;
-- x :- new c('x'); y :- new c('y'); x.other :- y; y.other :- x;
-- resume(x); outchar('m'); outimage end
abbrev pub resumed_in_turn : Source
resumed_in_turn = source_with_classes ((1, 1) ∷ (2, 9) ∷ (3, 1) ∷ (4, 6) ∷ (5, 2) ∷ (6, 26) ∷ (7, 8) ∷ (8, 28) ∷ (9, 12) ∷ []) (at 17 Alone (codes "detach") ∷ at 19 Alone (codes "outchar") ∷ at 21 Alone (codes "ch") ∷ at 24 Alone (codes "resume") ∷ at 26 Alone (codes "other") ∷ at 29 Alone (codes "outchar") ∷ at 31 Alone (codes "ch") ∷ at 34 Alone (codes "resume") ∷ at 36 Alone (codes "other") ∷ at 39 Alone (codes "outchar") ∷ at 53 Alone (codes "x") ∷ at 56 Alone (codes "c") ∷ at 61 Alone (codes "y") ∷ at 64 Alone (codes "c") ∷ at 69 Alone (codes "x") ∷ at 71 (Behind (codes "c")) (codes "other") ∷ at 73 Alone (codes "y") ∷ at 75 Alone (codes "y") ∷ at 77 (Behind (codes "c")) (codes "other") ∷ at 79 Alone (codes "x") ∷ at 81 Alone (codes "resume") ∷ at 83 Alone (codes "x") ∷ at 86 Alone (codes "outchar") ∷ at 91 Alone (codes "outimage") ∷ []) (typed 26 (Reference (codes "c")) ∷ typed 36 (Reference (codes "c")) ∷ typed 53 (Reference (codes "c")) ∷ typed 61 (Reference (codes "c")) ∷ typed 69 (Reference (codes "c")) ∷ typed 70 (Reference (codes "c")) ∷ typed 73 (Reference (codes "c")) ∷ typed 75 (Reference (codes "c")) ∷ typed 76 (Reference (codes "c")) ∷ typed 79 (Reference (codes "c")) ∷ typed 83 (Reference (codes "c")) ∷ []) [] (Begin 0 (With (DeclareClass None 1 (record { name = (identifier 2 (codes "c")); formals = (identifier 4 (codes "ch") ∷ []); modes = []; specifications = (record { kind = Simple (type_name.Character (token 7)); names = (identifier 8 (codes "ch") ∷ []) } ∷ []) }) (record { protections = []; virtuals = [] }) (Compound (Begin 10 (With (Variables (type_name.Reference (token 11) (identifier 13 (codes "c"))) (record { name = (identifier 15 (codes "other")); value = None } ∷ [])) NoDeclaration) (Also (Call (Named (identifier 17 (codes "detach")) NoMore)) (Also (Call (Named (identifier 19 (codes "outchar")) (Then (Named (identifier 21 (codes "ch")) NoMore) NoMore))) (Also (Call (Named (identifier 24 (codes "resume")) (Then (Named (identifier 26 (codes "other")) NoMore) NoMore))) (Also (Call (Named (identifier 29 (codes "outchar")) (Then (Named (identifier 31 (codes "ch")) NoMore) NoMore))) (Also (Call (Named (identifier 34 (codes "resume")) (Then (Named (identifier 36 (codes "other")) NoMore) NoMore))) (Also (Call (Named (identifier 39 (codes "outchar")) (Then (Constant (CharacterValue 33) 41) NoMore))) NoStatement)))))) 43)) 44) (With (Variables (type_name.Reference (token 45) (identifier 47 (codes "c"))) (record { name = (identifier 49 (codes "x")); value = None } ∷ record { name = (identifier 51 (codes "y")); value = None } ∷ [])) NoDeclaration)) (Also (Assign (Named (identifier 53 (codes "x")) NoMore) (record { sign = assignment.Reference; token = 54; value = (New 55 (identifier 56 (codes "c")) (Then (Constant (CharacterValue 120) 58) NoMore)) } ∷ [])) (Also (Assign (Named (identifier 61 (codes "y")) NoMore) (record { sign = assignment.Reference; token = 62; value = (New 63 (identifier 64 (codes "c")) (Then (Constant (CharacterValue 121) 66) NoMore)) } ∷ [])) (Also (Assign (Dot 70 (Named (identifier 69 (codes "x")) NoMore) (identifier 71 (codes "other")) NoMore) (record { sign = assignment.Reference; token = 72; value = (Named (identifier 73 (codes "y")) NoMore) } ∷ [])) (Also (Assign (Dot 76 (Named (identifier 75 (codes "y")) NoMore) (identifier 77 (codes "other")) NoMore) (record { sign = assignment.Reference; token = 78; value = (Named (identifier 79 (codes "x")) NoMore) } ∷ [])) (Also (Call (Named (identifier 81 (codes "resume")) (Then (Named (identifier 83 (codes "x")) NoMore) NoMore))) (Also (Call (Named (identifier 86 (codes "outchar")) (Then (Constant (CharacterValue 109) 88) NoMore))) (Also (Call (Named (identifier 91 (codes "outimage")) NoMore)) NoStatement))))))) 92)

-- ---- what they show

pub record WorkedCoroutines : Type 0 where
  pub called_once_more : seen three_parts (limits 1000 1000) 1000 ≡ shows (codes " 1 new 2 back 3\n") 14 9 (RunFault ComponentIsTerminated 7)
  pub called_from_outside : seen detached_in_procedure (limits 1000 1000) 1000 ≡ shows (codes " 1 2\n") 15 17 (RunFault ObjectNotOperating 2)
  pub none_is_no_object : seen detached_block (limits 1000 1000) 1000 ≡ shows (codes " 1\n") 6 9 (RunFault AccessThroughNone 6)
  pub each_in_turn : seen resumed_in_turn (limits 1000 1000) 1000 ≡ shows (codes "xyxy!m\n") 22 18 Normal
