-- What the last round finds is what breaks a clause of it.
use Rattle.std.proofs.Common.{◌≡◌, ℕ, List, Some, None, sym, subst}
use Rattle.sim_base.specs.declared.rule.Rule.{Rule}
use Rattle.sim_base.specs.declared.rule.Rule.TheVariants as r
use Rattle.sim_tree.specs.Syntax.{Program}
use Rattle.sim_scope.specs.Assignments.{first_sign, last_value, left_sides}
use Rattle.sim_scope.specs.Calls.{attribute_missing}
use Rattle.sim_scope.specs.Found.{fault}
use Rattle.sim_scope.specs.Least.{Among, faults}
use Rattle.sim_scope.specs.Runs.{each}
use Rattle.sim_scope.specs.Scopes.{is_passed_over, is_shown, shown}
use Rattle.sim_scope.specs.Statements.{judging}
use Rattle.sim_scope.specs.Tables.{Tables}
use Rattle.sim_scope.specs.Walk.{program_events}
use Rattle.sim_scope.specs.declared.found.Fault.{Fault}
use Rattle.sim_scope.specs.declared.outcome.Extent.TheVariants as extent
use Rattle.sim_scope.specs.declared.types.SimType.TheVariants as t
use Rattle.static_rules.specs.Judgements.{Judgement, class_of, finds, operand}
use Rattle.static_rules.specs.LastRound as l
use Rattle.static_rules.specs.LastRound.{GoesTo, IsApplied, IsMisfit, IsMissing}
use Rattle.static_rules.specs.Rules.{Breaks, Last, judged_of, n1, n2, n3, n4, s10, s11, s12, s13, s14, s15, s16, s17, s18, s19, s20, s21, s22, s23}
use Rattle.static_rules.specs.SecondRound.{whole_tables}
use Rattle.static_rules.proofs.Bodies.{program_same}
use Rattle.static_rules.proofs.LastBroken.{activation_told, bound_told, chain_told, classes_told, controlled_told, kind_told, left_side_told, missing_told, name_told, number_told, outside_told, prefixing_told, type_told_by}
use Rattle.static_rules.proofs.LastFound.{Found, activation_found, bound_found, chain_found, classes_found, controlled_found, going_found, kind_found, left_found, misfit_found, missing_found, name_found, number_found, prefixing_found, this_found_outside, type_found}
use Rattle.static_rules.proofs.Lists.{some_each}
use Rattle.static_rules.proofs.Misfits.{MisfitRule, MissingRule, TypeRule, another_chain, another_type, environment_name, file_or_layout, given_rule, lefts_rule, missing_rule, not_accessible, not_declared, of_chain, of_name, of_type, random_drawing, real_function, type_rule, undeclared_rule}
use Rattle.static_rules.proofs.UsesFound.{found_by}

-- ---- each rule by its row

module _ (s : Tables) (js : List Judgement) where
  missing_ruled : (rule : Rule) (token : ℕ) → IsMissing s js rule token → MissingRule rule
  unfolding attribute_missing
  missing_ruled _ _ (l.nowhere e {x = x} j at) = missing_rule (is_passed_over s x.token.0 x.name) x.name
  missing_ruled _ _ (l.not_of_sysin e {x = x} token j at none) = undeclared_rule x.name
  missing_ruled _ _ (l.not_of_sysout e {x = x} token j at none) = undeclared_rule x.name
  missing_ruled _ _ (l.not_of_text e {x = x} j plain p none) = undeclared_rule x.name
  missing_ruled _ _ (l.of_none e {x = x} j plain p) = undeclared_rule x.name
  missing_ruled _ _ (l.not_of_class e {x = x} {block = block} j plain p q none) = missing_rule (is_shown (shown s None block x.name)) x.name

  going_ruled : (rule : Rule) (first : ℕ) → GoesTo s js rule first → TypeRule rule
  going_ruled rule _ (l.to_controlled {a = a} {b = b} j p is) = type_rule s a b rule is
  going_ruled rule _ (l.to_activation {process = process} {b = b} j p is) = type_rule s (t.Ref process) b rule is

  applied_ruled : (token : ℕ) (f : Fault) → {d : _} {a : _} → IsApplied s js token d a → a.misfit ≡ Some f → MisfitRule f.rule
  applied_ruled token f (l.with_actuals naming e {o = o} args j at some) misfit = given_rule s e o.denotes args f misfit

  misfit_ruled : (f : Fault) → IsMisfit s js f → MisfitRule f.rule
  misfit_ruled f (l.in_call {token = token} is typed plain p q u v) = applied_ruled token f is v
  misfit_ruled f (l.in_generation {e = e} {class = class} {args = args} j at right allowed open_one typed misfit) = given_rule s e (class_of s e class).denotes args f misfit
  misfit_ruled f (l.in_prefix {d = d} {args = args} j typed right misfit) = given_rule s extent.Statement (Some d) args f misfit
  misfit_ruled f (l.in_assignment {left = left} {parts = parts} j typed misfit) =
      lefts_rule s (first_sign parts) (operand s extent.Statement (last_value left parts)) (left_sides left parts) f misfit

module _ (p : Program) where
  missing_row : (rule : Rule) (token : ℕ) → MissingRule rule → IsMissing (whole_tables p) (judged_of p) rule token → Breaks p Last (fault token rule)
  missing_row _ token not_declared m = s10 m
  missing_row _ token not_accessible m = s11 m
  missing_row _ token real_function m = n1 m
  missing_row _ token random_drawing m = n2 m
  missing_row _ token file_or_layout m = n3 m
  missing_row _ token environment_name m = n4 m

  going_row : (rule : Rule) (token : ℕ) → TypeRule rule → GoesTo (whole_tables p) (judged_of p) rule token → Breaks p Last (fault token rule)
  going_row _ token another_type g = s13 (l.of_other_type g)
  going_row _ token another_chain g = s16 (l.of_other_chain g)

  misfit_row : (rule : Rule) (token : ℕ) → MisfitRule rule → IsMisfit (whole_tables p) (judged_of p) (fault token rule) → Breaks p Last (fault token rule)
  misfit_row _ token of_type m = s13 (l.misfit_of_type m)
  misfit_row _ token of_chain m = s16 (l.misfit_of_chain m)
  misfit_row _ token of_name m = s23 (l.misfit_of_name m)

  row : (y : Fault) → Found (whole_tables p) (judged_of p) y → Breaks p Last y
  row _ (missing_found {rule = rule} {token = token} m) = missing_row rule token (missing_ruled (whole_tables p) (judged_of p) rule token m) m
  row y (misfit_found m) = misfit_row y.rule y.token.0 (misfit_ruled (whole_tables p) (judged_of p) y m) m
  row _ (going_found {rule = rule} {token = token} g) = going_row rule token (going_ruled (whole_tables p) (judged_of p) rule token g) g
  row _ (kind_found b) = s12 b
  row _ (type_found b) = s13 b
  row _ (left_found b) = s14 b
  row _ (number_found b) = s15 b
  row _ (chain_found b) = s16 b
  row _ (classes_found b) = s17 b
  row _ (this_found_outside b) = s18 b
  row _ (controlled_found b) = s19 b
  row _ (activation_found b) = s20 b
  row _ (prefixing_found b) = s21 b
  row _ (bound_found b) = s22 b
  row _ (name_found b) = s23 b

  told : (y : Fault) → Breaks p Last y → Among (each (finds (whole_tables p)) (judged_of p)) y
  told _ (s10 {token = k} b) = missing_told (whole_tables p) (judged_of p) r.NotDeclared k b
  told _ (s11 {token = k} b) = missing_told (whole_tables p) (judged_of p) r.NotAccessible k b
  told _ (s12 {token = k} b) = kind_told (whole_tables p) (judged_of p) k b
  told _ (s13 {token = k} b) = type_told_by (whole_tables p) (judged_of p) k b
  told _ (s14 {token = k} b) = left_side_told (whole_tables p) (judged_of p) k b
  told _ (s15 {token = k} b) = number_told (whole_tables p) (judged_of p) k b
  told _ (s16 {token = k} b) = chain_told (whole_tables p) (judged_of p) k b
  told _ (s17 {token = k} b) = classes_told (whole_tables p) (judged_of p) k b
  told _ (s18 {token = k} b) = outside_told (whole_tables p) (judged_of p) k b
  told _ (s19 {token = k} b) = controlled_told (whole_tables p) (judged_of p) k b
  told _ (s20 {token = k} b) = activation_told (whole_tables p) (judged_of p) k b
  told _ (s21 {token = k} b) = prefixing_told (whole_tables p) (judged_of p) k b
  told _ (s22 {token = k} b) = bound_told (whole_tables p) (judged_of p) k b
  told _ (s23 {token = k} b) = name_told (whole_tables p) (judged_of p) k b
  told _ (n1 {token = k} b) = missing_told (whole_tables p) (judged_of p) r.RealFunction k b
  told _ (n2 {token = k} b) = missing_told (whole_tables p) (judged_of p) r.RandomDrawing k b
  told _ (n3 {token = k} b) = missing_told (whole_tables p) (judged_of p) r.FileOrLayout k b
  told _ (n4 {token = k} b) = missing_told (whole_tables p) (judged_of p) r.EnvironmentName k b

-- ---- the round

pub last_found : (p : Program) (y : Fault) → Among (faults (program_events (judging (whole_tables p)) p)) y → Breaks p Last y
last_found p y h =
    let d = some_each (finds (whole_tables p)) (judged_of p) y (subst (λ z. Among z y) (program_same (whole_tables p) p) h) in
    row p y (found_by (whole_tables p) (judged_of p) d.1 y (record { place = d.0; at = d.2 }) d.3)

pub last_broken : (p : Program) (y : Fault) → Breaks p Last y → Among (faults (program_events (judging (whole_tables p)) p)) y
last_broken p y b = subst (λ z. Among z y) (sym (program_same (whole_tables p) p)) (told p y b)
