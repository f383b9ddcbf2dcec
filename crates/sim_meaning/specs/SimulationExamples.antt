-- Small programs with simulations, as what scopes make of their abstract syntax.
use Rattle.std.specs.Prelude.{◌≡◌, pos, [], ◌∷◌, Some, None, codes}
use Rattle.sim_base.specs.declared.run_error.RunError.TheVariants.{NoEventTime, NoNoticeLeft}
use Rattle.sim_scope.specs.Source.{Source}
use Rattle.sim_tree.specs.declared.expr.Relation.TheVariants as relation
use Rattle.sim_tree.specs.declared.operator.Operator.TheVariants as op
use Rattle.sim_tree.specs.declared.stmt.Activation.TheVariants as activation
use Rattle.sim_tree.specs.declared.stmt.Assignment.TheVariants as assignment
use Rattle.sim_tree.specs.declared.stmt.TypeName.TheVariants as type_name
use Rattle.sim_tree.specs.Syntax as syntax
use Rattle.sim_tree.specs.Syntax.{Also, Assign, Begin, Binary, Call, CharacterValue, Choose, Compound, Constant, DeclareClass, Dot, InspectWhen, IntegerValue, Named, New, NoArm, NoDeclaration, NoMore, NoStatement, Prefixed, Simple, TextValue, Then, Variables, When, With}
use Rattle.sim_code.specs.Outcome.{Normal, RunFault}
use Rattle.sim_meaning.specs.Examples.{identifier, limits, seen, shows, token}
use Rattle.sim_meaning.specs.ClassExamples.{AText, Alone, Behind, Reference, at, typed}
use Rattle.sim_meaning.specs.SetExamples.{source_with_sets}

-- simulation begin
-- process class p(n); integer n;
-- begin outint(n, 2); hold(n); outint(time, 2) end;
-- ref(p) x;
-- x :- new p(3); activate x;
-- activate new p(2) delay 1;
-- hold(4); outint(time, 2);
-- if x.terminated then outtext("!");
-- inspect main when p do outtext("p") when process do outint(evtime, 2)
-- end
abbrev pub printing_in_turn : Source
printing_in_turn = source_with_sets ((1, 2) ∷ (2, 10) ∷ (3, 21) ∷ (4, 6) ∷ (5, 11) ∷ (6, 9) ∷ (7, 12) ∷ (8, 10) ∷ (9, 18) ∷ (10, 1) ∷ []) (at 13 Alone (codes "outint") ∷ at 15 Alone (codes "n") ∷ at 20 Alone (codes "hold") ∷ at 22 Alone (codes "n") ∷ at 25 Alone (codes "outint") ∷ at 27 Alone (codes "time") ∷ at 39 Alone (codes "x") ∷ at 42 Alone (codes "p") ∷ at 48 Alone (codes "x") ∷ at 52 Alone (codes "p") ∷ at 59 Alone (codes "hold") ∷ at 64 Alone (codes "outint") ∷ at 66 Alone (codes "time") ∷ at 72 Alone (codes "x") ∷ at 74 (Behind (codes "p")) (codes "terminated") ∷ at 76 Alone (codes "outtext") ∷ at 82 Alone (codes "main") ∷ at 84 Alone (codes "p") ∷ at 86 Alone (codes "outtext") ∷ at 91 Alone (codes "process") ∷ at 93 Alone (codes "outint") ∷ at 95 Alone (codes "evtime") ∷ []) (typed 39 (Reference (codes "p")) ∷ typed 78 AText ∷ typed 88 AText ∷ []) (codes "p" ∷ codes "process" ∷ []) (Some (record { class = (identifier 0 (codes "simulation")); arguments = NoMore })) (Begin 1 (With (DeclareClass (Some (identifier 2 (codes "process"))) 3 (record { name = (identifier 4 (codes "p")); formals = ((identifier 6 (codes "n")) ∷ []); modes = []; specifications = (record { kind = Simple (type_name.Integer (token 9)); names = ((identifier 10 (codes "n")) ∷ []) } ∷ []) }) (record { protections = []; virtuals = [] }) (Compound (Begin 12 NoDeclaration (Also (Call (Named (identifier 13 (codes "outint")) (Then (Named (identifier 15 (codes "n")) NoMore) (Then (Constant (IntegerValue (pos 2)) 17) NoMore)))) (Also (Call (Named (identifier 20 (codes "hold")) (Then (Named (identifier 22 (codes "n")) NoMore) NoMore))) (Also (Call (Named (identifier 25 (codes "outint")) (Then (Named (identifier 27 (codes "time")) NoMore) (Then (Constant (IntegerValue (pos 2)) 29) NoMore)))) NoStatement))) 31)) 32) (With (Variables (type_name.Reference (token 33) (identifier 35 (codes "p"))) (record { name = (identifier 37 (codes "x")); value = None } ∷ [])) NoDeclaration)) (Also (Assign (Named (identifier 39 (codes "x")) NoMore) (record { sign = assignment.Reference; token = 40; value = (New 41 (identifier 42 (codes "p")) (Then (Constant (IntegerValue (pos 3)) 44) NoMore)) } ∷ [])) (Also (syntax.Activate 47 activation.Activate (Named (identifier 48 (codes "x")) NoMore) syntax.Now) (Also (syntax.Activate 50 activation.Activate (New 51 (identifier 52 (codes "p")) (Then (Constant (IntegerValue (pos 2)) 54) NoMore)) (syntax.Delay 56 (Constant (IntegerValue (pos 1)) 57) None)) (Also (Call (Named (identifier 59 (codes "hold")) (Then (Constant (IntegerValue (pos 4)) 61) NoMore))) (Also (Call (Named (identifier 64 (codes "outint")) (Then (Named (identifier 66 (codes "time")) NoMore) (Then (Constant (IntegerValue (pos 2)) 68) NoMore)))) (Also (Choose 71 (Dot 73 (Named (identifier 72 (codes "x")) NoMore) (identifier 74 (codes "terminated")) NoMore) (Call (Named (identifier 76 (codes "outtext")) (Then (Constant (TextValue (codes "!")) 78) NoMore))) NoStatement) (Also (InspectWhen 81 (Named (identifier 82 (codes "main")) NoMore) (When 83 (identifier 84 (codes "p")) 85 (Call (Named (identifier 86 (codes "outtext")) (Then (Constant (TextValue (codes "p")) 88) NoMore))) 90 (When 90 (identifier 91 (codes "process")) 92 (Call (Named (identifier 93 (codes "outint")) (Then (Named (identifier 95 (codes "evtime")) NoMore) (Then (Constant (IntegerValue (pos 2)) 97) NoMore)))) 99 NoArm)) NoStatement) NoStatement))))))) 99)

-- simulation begin
-- ref(head) q;
-- process class p;
-- begin wait(q); out; outint(q.cardinal, 2)
-- end;
-- q :- new head;
-- activate new p; activate new p;
-- outint(q.cardinal, 2);
-- activate q.first; activate q.first delay 2;
-- outint(time, 2);
-- passivate
-- end
abbrev pub waiting_in_a_set : Source
waiting_in_a_set = source_with_sets ((1, 2) ∷ (2, 6) ∷ (3, 4) ∷ (4, 16) ∷ (5, 2) ∷ (6, 5) ∷ (7, 8) ∷ (8, 9) ∷ (9, 12) ∷ (10, 7) ∷ (11, 1) ∷ (12, 1) ∷ []) (at 13 Alone (codes "wait") ∷ at 15 Alone (codes "q") ∷ at 18 Alone (codes "out") ∷ at 20 Alone (codes "outint") ∷ at 22 Alone (codes "q") ∷ at 24 (Behind (codes "head")) (codes "cardinal") ∷ at 30 Alone (codes "q") ∷ at 33 Alone (codes "head") ∷ at 37 Alone (codes "p") ∷ at 41 Alone (codes "p") ∷ at 43 Alone (codes "outint") ∷ at 45 Alone (codes "q") ∷ at 47 (Behind (codes "head")) (codes "cardinal") ∷ at 53 Alone (codes "q") ∷ at 55 (Behind (codes "head")) (codes "first") ∷ at 58 Alone (codes "q") ∷ at 60 (Behind (codes "head")) (codes "first") ∷ at 64 Alone (codes "outint") ∷ at 66 Alone (codes "time") ∷ at 71 Alone (codes "passivate") ∷ []) (typed 30 (Reference (codes "head")) ∷ []) [] (Some (record { class = (identifier 0 (codes "simulation")); arguments = NoMore })) (Begin 1 (With (Variables (type_name.Reference (token 2) (identifier 4 (codes "head"))) (record { name = (identifier 6 (codes "q")); value = None } ∷ [])) (With (DeclareClass (Some (identifier 8 (codes "process"))) 9 (record { name = (identifier 10 (codes "p")); formals = []; modes = []; specifications = [] }) (record { protections = []; virtuals = [] }) (Compound (Begin 12 NoDeclaration (Also (Call (Named (identifier 13 (codes "wait")) (Then (Named (identifier 15 (codes "q")) NoMore) NoMore))) (Also (Call (Named (identifier 18 (codes "out")) NoMore)) (Also (Call (Named (identifier 20 (codes "outint")) (Then (Dot 23 (Named (identifier 22 (codes "q")) NoMore) (identifier 24 (codes "cardinal")) NoMore) (Then (Constant (IntegerValue (pos 2)) 26) NoMore)))) NoStatement))) 28)) 29) NoDeclaration)) (Also (Assign (Named (identifier 30 (codes "q")) NoMore) (record { sign = assignment.Reference; token = 31; value = (New 32 (identifier 33 (codes "head")) NoMore) } ∷ [])) (Also (syntax.Activate 35 activation.Activate (New 36 (identifier 37 (codes "p")) NoMore) syntax.Now) (Also (syntax.Activate 39 activation.Activate (New 40 (identifier 41 (codes "p")) NoMore) syntax.Now) (Also (Call (Named (identifier 43 (codes "outint")) (Then (Dot 46 (Named (identifier 45 (codes "q")) NoMore) (identifier 47 (codes "cardinal")) NoMore) (Then (Constant (IntegerValue (pos 2)) 49) NoMore)))) (Also (syntax.Activate 52 activation.Activate (Dot 54 (Named (identifier 53 (codes "q")) NoMore) (identifier 55 (codes "first")) NoMore) syntax.Now) (Also (syntax.Activate 57 activation.Activate (Dot 59 (Named (identifier 58 (codes "q")) NoMore) (identifier 60 (codes "first")) NoMore) (syntax.Delay 61 (Constant (IntegerValue (pos 2)) 62) None)) (Also (Call (Named (identifier 64 (codes "outint")) (Then (Named (identifier 66 (codes "time")) NoMore) (Then (Constant (IntegerValue (pos 2)) 68) NoMore)))) (Also (Call (Named (identifier 71 (codes "passivate")) NoMore)) NoStatement)))))))) 72)

-- begin
-- simulation class lab;
-- begin
-- process class p(ch); character ch; begin outchar(ch); reactivate current delay 2; outchar(ch) end;
-- end;
-- lab begin
-- ref(p) a, b;
-- a :- new p('a'); b :- new p('b');
-- activate a at 3; activate b before a;
-- if main.nextev == b then outint(b.evtime, 2);
-- hold(9);
-- outint(a.
-- evtime, 2)
-- end
-- end
abbrev pub in_a_class : Source
in_a_class = source_with_sets ((1, 1) ∷ (2, 4) ∷ (3, 1) ∷ (4, 27) ∷ (5, 2) ∷ (6, 2) ∷ (7, 8) ∷ (8, 16) ∷ (9, 10) ∷ (10, 16) ∷ (11, 5) ∷ (12, 4) ∷ (13, 4) ∷ (14, 1) ∷ (15, 1) ∷ []) (at 17 Alone (codes "outchar") ∷ at 19 Alone (codes "ch") ∷ at 23 Alone (codes "current") ∷ at 27 Alone (codes "outchar") ∷ at 29 Alone (codes "ch") ∷ at 45 Alone (codes "a") ∷ at 48 Alone (codes "p") ∷ at 53 Alone (codes "b") ∷ at 56 Alone (codes "p") ∷ at 62 Alone (codes "a") ∷ at 67 Alone (codes "b") ∷ at 69 Alone (codes "a") ∷ at 72 Alone (codes "main") ∷ at 74 (Behind (codes "process")) (codes "nextev") ∷ at 76 Alone (codes "b") ∷ at 78 Alone (codes "outint") ∷ at 80 Alone (codes "b") ∷ at 82 (Behind (codes "p")) (codes "evtime") ∷ at 87 Alone (codes "hold") ∷ at 92 Alone (codes "outint") ∷ at 94 Alone (codes "a") ∷ at 96 (Behind (codes "p")) (codes "evtime") ∷ []) (typed 45 (Reference (codes "p")) ∷ typed 53 (Reference (codes "p")) ∷ []) [] None (Begin 0 (With (DeclareClass (Some (identifier 1 (codes "simulation"))) 2 (record { name = (identifier 3 (codes "lab")); formals = []; modes = []; specifications = [] }) (record { protections = []; virtuals = [] }) (Compound (Begin 5 (With (DeclareClass (Some (identifier 6 (codes "process"))) 7 (record { name = (identifier 8 (codes "p")); formals = ((identifier 10 (codes "ch")) ∷ []); modes = []; specifications = (record { kind = Simple (type_name.Character (token 13)); names = ((identifier 14 (codes "ch")) ∷ []) } ∷ []) }) (record { protections = []; virtuals = [] }) (Compound (Begin 16 NoDeclaration (Also (Call (Named (identifier 17 (codes "outchar")) (Then (Named (identifier 19 (codes "ch")) NoMore) NoMore))) (Also (syntax.Activate 22 activation.Reactivate (Named (identifier 23 (codes "current")) NoMore) (syntax.Delay 24 (Constant (IntegerValue (pos 2)) 25) None)) (Also (Call (Named (identifier 27 (codes "outchar")) (Then (Named (identifier 29 (codes "ch")) NoMore) NoMore))) NoStatement))) 31)) 32) NoDeclaration) NoStatement 33)) 34) NoDeclaration) (Also (Prefixed (identifier 35 (codes "lab")) NoMore (Begin 36 (With (Variables (type_name.Reference (token 37) (identifier 39 (codes "p"))) (record { name = (identifier 41 (codes "a")); value = None } ∷ record { name = (identifier 43 (codes "b")); value = None } ∷ [])) NoDeclaration) (Also (Assign (Named (identifier 45 (codes "a")) NoMore) (record { sign = assignment.Reference; token = 46; value = (New 47 (identifier 48 (codes "p")) (Then (Constant (CharacterValue 97) 50) NoMore)) } ∷ [])) (Also (Assign (Named (identifier 53 (codes "b")) NoMore) (record { sign = assignment.Reference; token = 54; value = (New 55 (identifier 56 (codes "p")) (Then (Constant (CharacterValue 98) 58) NoMore)) } ∷ [])) (Also (syntax.Activate 61 activation.Activate (Named (identifier 62 (codes "a")) NoMore) (syntax.At 63 (Constant (IntegerValue (pos 3)) 64) None)) (Also (syntax.Activate 66 activation.Activate (Named (identifier 67 (codes "b")) NoMore) (syntax.Before 68 (Named (identifier 69 (codes "a")) NoMore))) (Also (Choose 71 (Binary (op.Relate relation.SameReference) 75 (Dot 73 (Named (identifier 72 (codes "main")) NoMore) (identifier 74 (codes "nextev")) NoMore) (Named (identifier 76 (codes "b")) NoMore)) (Call (Named (identifier 78 (codes "outint")) (Then (Dot 81 (Named (identifier 80 (codes "b")) NoMore) (identifier 82 (codes "evtime")) NoMore) (Then (Constant (IntegerValue (pos 2)) 84) NoMore)))) NoStatement) (Also (Call (Named (identifier 87 (codes "hold")) (Then (Constant (IntegerValue (pos 9)) 89) NoMore))) (Also (Call (Named (identifier 92 (codes "outint")) (Then (Dot 95 (Named (identifier 94 (codes "a")) NoMore) (identifier 96 (codes "evtime")) NoMore) (Then (Constant (IntegerValue (pos 2)) 98) NoMore)))) NoStatement))))))) 100)) NoStatement) 101)

-- ---- what they show

-- The output, the ticks and the words at the end, and the ending of each.
pub record WorkedSimulations : Type 0 where
  pub by_turns : seen printing_in_turn (limits 1000 1000) 1000 ≡ shows (codes " 3 2 3 3 4! 4\n") 18 23 Normal
  pub in_a_set : seen waiting_in_a_set (limits 1000 1000) 1000 ≡ shows (codes " 2 1 0 0\n") 19 25 (RunFault NoNoticeLeft 5)
  pub by_a_class : seen in_a_class (limits 1000 1000) 1000 ≡ shows (codes " 3baba\n") 19 28 (RunFault NoEventTime 13)
