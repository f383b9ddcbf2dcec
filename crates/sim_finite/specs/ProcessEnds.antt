-- Programs in which a process ends and no notice is left, or the next process can't get control; each as a tree with its tables, and what they show. The line
-- of the error is that of the last token of the object's own class; where the body of that is empty, of the token in front of it; and for an object of
-- `process` itself, of its `new`.
use Rattle.std.specs.Prelude.{◌≡◌, pos, [], ◌∷◌, Some, None, codes}
use Rattle.sim_base.specs.declared.run_error.RunError.TheVariants.{NoNoticeLeft, ResumedIsAttached}
use Rattle.sim_scope.specs.Source.{Source}
use Rattle.sim_tree.specs.declared.stmt.Activation.TheVariants as activation
use Rattle.sim_tree.specs.declared.stmt.Assignment.TheVariants as assignment
use Rattle.sim_tree.specs.declared.stmt.TypeName.TheVariants as type_name
use Rattle.sim_tree.specs.Syntax as syntax
use Rattle.sim_tree.specs.Syntax.{Also, Assign, Begin, Call, Compound, Constant, DeclareClass, Empty, IntegerValue, Named, New, NoDeclaration, NoMore, NoStatement, Then, Variables, With}
use Rattle.sim_code.specs.Outcome.{RunFault}
use Rattle.sim_meaning.specs.Examples.{identifier, limits, seen, shows, token}
use Rattle.sim_meaning.specs.ClassExamples.{Alone, Reference, at, typed}
use Rattle.sim_meaning.specs.SetExamples.{source_with_sets}

-- simulation begin
-- process class p;
-- begin cancel(main)
-- end
-- ;
-- activate new p
-- end
abbrev pub class_with_a_body : Source
class_with_a_body = source_with_sets ((1, 2) ∷ (2, 4) ∷ (3, 5) ∷ (4, 1) ∷ (5, 1) ∷ (6, 3) ∷ (7, 1) ∷ []) (at 7 Alone (codes "cancel") ∷ at 9 Alone (codes "main") ∷ at 15 Alone (codes "p") ∷ []) [] [] (Some (record { class = (identifier 0 (codes "simulation")); arguments = NoMore })) (Begin 1 (With (DeclareClass (Some (identifier 2 (codes "process"))) 3 (record { name = (identifier 4 (codes "p")); formals = []; modes = []; specifications = [] }) (record { protections = []; virtuals = [] }) (Compound (Begin 6 NoDeclaration (Also (Call (Named (identifier 7 (codes "cancel")) (Then (Named (identifier 9 (codes "main")) NoMore) NoMore))) NoStatement) 11)) 12) NoDeclaration) (Also (syntax.Activate 13 activation.Activate (New 14 (identifier 15 (codes "p")) NoMore) syntax.Now) NoStatement) 16)

-- simulation begin
-- process class p
-- ;
-- ;
-- activate new p delay 1;
-- passivate
-- end
abbrev pub class_without_a_body : Source
class_without_a_body = source_with_sets ((1, 2) ∷ (2, 3) ∷ (3, 1) ∷ (4, 1) ∷ (5, 6) ∷ (6, 1) ∷ (7, 1) ∷ []) (at 9 Alone (codes "p") ∷ at 13 Alone (codes "passivate") ∷ []) [] [] (Some (record { class = (identifier 0 (codes "simulation")); arguments = NoMore })) (Begin 1 (With (DeclareClass (Some (identifier 2 (codes "process"))) 3 (record { name = (identifier 4 (codes "p")); formals = []; modes = []; specifications = [] }) (record { protections = []; virtuals = [] }) (Empty 6) 6) NoDeclaration) (Also (syntax.Activate 7 activation.Activate (New 8 (identifier 9 (codes "p")) NoMore) (syntax.Delay 10 (Constant (IntegerValue (pos 1)) 11) None)) (Also (Call (Named (identifier 13 (codes "passivate")) NoMore)) NoStatement)) 14)

-- simulation begin
-- activate
-- new
-- process delay 1;
-- passivate
-- end
abbrev pub process_itself : Source
process_itself = source_with_sets ((1, 2) ∷ (2, 1) ∷ (3, 1) ∷ (4, 4) ∷ (5, 1) ∷ (6, 1) ∷ []) (at 4 Alone (codes "process") ∷ at 8 Alone (codes "passivate") ∷ []) [] [] (Some (record { class = (identifier 0 (codes "simulation")); arguments = NoMore })) (Begin 1 NoDeclaration (Also (syntax.Activate 2 activation.Activate (New 3 (identifier 4 (codes "process")) NoMore) (syntax.Delay 5 (Constant (IntegerValue (pos 1)) 6) None)) (Also (Call (Named (identifier 8 (codes "passivate")) NoMore)) NoStatement)) 9)

-- simulation begin
-- process class p; begin end;
-- p class q; begin end;
-- activate new q delay 1;
-- passivate
-- end
abbrev pub class_behind_another : Source
class_behind_another = source_with_sets ((1, 2) ∷ (2, 7) ∷ (3, 7) ∷ (4, 6) ∷ (5, 1) ∷ (6, 1) ∷ []) (at 18 Alone (codes "q") ∷ at 22 Alone (codes "passivate") ∷ []) [] [] (Some (record { class = (identifier 0 (codes "simulation")); arguments = NoMore })) (Begin 1 (With (DeclareClass (Some (identifier 2 (codes "process"))) 3 (record { name = (identifier 4 (codes "p")); formals = []; modes = []; specifications = [] }) (record { protections = []; virtuals = [] }) (Compound (Begin 6 NoDeclaration NoStatement 7)) 8) (With (DeclareClass (Some (identifier 9 (codes "p"))) 10 (record { name = (identifier 11 (codes "q")); formals = []; modes = []; specifications = [] }) (record { protections = []; virtuals = [] }) (Compound (Begin 13 NoDeclaration NoStatement 14)) 15) NoDeclaration)) (Also (syntax.Activate 16 activation.Activate (New 17 (identifier 18 (codes "q")) NoMore) (syntax.Delay 19 (Constant (IntegerValue (pos 1)) 20) None)) (Also (Call (Named (identifier 22 (codes "passivate")) NoMore)) NoStatement)) 23)

-- simulation begin
-- ref(w) x;
-- process class w;
-- begin activate x delay 1
-- end;
-- process class c;
-- call(x);
-- x :- new w;
-- activate new c delay 1;
-- passivate
-- end
abbrev pub called_process : Source
called_process = source_with_sets ((1, 2) ∷ (2, 6) ∷ (3, 4) ∷ (4, 5) ∷ (5, 2) ∷ (6, 4) ∷ (7, 5) ∷ (8, 5) ∷ (9, 6) ∷ (10, 1) ∷ (11, 1) ∷ []) (at 14 Alone (codes "x") ∷ at 23 Alone (codes "call") ∷ at 25 Alone (codes "x") ∷ at 28 Alone (codes "x") ∷ at 31 Alone (codes "w") ∷ at 35 Alone (codes "c") ∷ at 39 Alone (codes "passivate") ∷ []) (typed 25 (Reference (codes "w")) ∷ typed 28 (Reference (codes "w")) ∷ []) [] (Some (record { class = (identifier 0 (codes "simulation")); arguments = NoMore })) (Begin 1 (With (Variables (type_name.Reference (token 2) (identifier 4 (codes "w"))) (record { name = (identifier 6 (codes "x")); value = None } ∷ [])) (With (DeclareClass (Some (identifier 8 (codes "process"))) 9 (record { name = (identifier 10 (codes "w")); formals = []; modes = []; specifications = [] }) (record { protections = []; virtuals = [] }) (Compound (Begin 12 NoDeclaration (Also (syntax.Activate 13 activation.Activate (Named (identifier 14 (codes "x")) NoMore) (syntax.Delay 15 (Constant (IntegerValue (pos 1)) 16) None)) NoStatement) 17)) 18) (With (DeclareClass (Some (identifier 19 (codes "process"))) 20 (record { name = (identifier 21 (codes "c")); formals = []; modes = []; specifications = [] }) (record { protections = []; virtuals = [] }) (Call (Named (identifier 23 (codes "call")) (Then (Named (identifier 25 (codes "x")) NoMore) NoMore))) 27) NoDeclaration))) (Also (Assign (Named (identifier 28 (codes "x")) NoMore) (record { sign = assignment.Reference; token = 29; value = (New 30 (identifier 31 (codes "w")) NoMore) } ∷ [])) (Also (syntax.Activate 33 activation.Activate (New 34 (identifier 35 (codes "c")) NoMore) (syntax.Delay 36 (Constant (IntegerValue (pos 1)) 37) None)) (Also (Call (Named (identifier 39 (codes "passivate")) NoMore)) NoStatement))) 40)

-- ---- what they show

-- The output, the ticks and the words at the end, and the ending of each.
pub record WorkedEnds : Type 0 where
  pub with_a_body : seen class_with_a_body (limits 1000 1000) 1000 ≡ shows (codes "") 4 12 (RunFault NoNoticeLeft 4)
  pub without_a_body : seen class_without_a_body (limits 1000 1000) 1000 ≡ shows (codes "") 4 12 (RunFault NoNoticeLeft 3)
  pub of_process_itself : seen process_itself (limits 1000 1000) 1000 ≡ shows (codes "") 4 12 (RunFault NoNoticeLeft 3)
  pub behind_another : seen class_behind_another (limits 1000 1000) 1000 ≡ shows (codes "") 4 12 (RunFault NoNoticeLeft 3)
  pub of_a_called_process : seen called_process (limits 1000 1000) 1000 ≡ shows (codes "") 8 21 (RunFault ResumedIsAttached 5)
