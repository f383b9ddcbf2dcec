use Rattle.std.proofs.Common.{◌≡◌, ◌-◌, ◌∙◌, ap, sym}
use Rattle.std.specs.Prelude.{Some, slice_get}
use Rattle.sim_code.specs.Classes.{class_numbered}
use Rattle.sim_code.specs.Code.{ClassOf}
use Rattle.sim_code.specs.Levels.{record_in}
use Rattle.object_machine.specs.Levelling.{index_in}
use Rattle.object_machine.proofs.ClassRows.{numbered_at, numbered_past}
use Rattle.object_machine.proofs.Jumps.{found_at, none_at}
use Rattle.object_machine.proofs.LevelRows.{no_part}
use Rattle.object_machine.proofs.levels.part_of_level.Goals as goal

pub returns-in_default-clause-row : goal.returns-in_default-clause-row
returns-in_default-clause-row c code cs e is long = sym (no_part c.args.part _ (ap (record_in code) (sym (c.in_default.ensures.row code cs e is long))))

pub returns-then-class-eq0-clause-row : goal.returns-then-class-eq0-clause-row
returns-then-class-eq0-clause-row c code cs e is long =
    sym (no_part c.args.part _ (ap (record_in code) (sym (c.in-Some.ensures.row code cs e is long)) ∙ ap (class_numbered code) c.if-class-eq0.true))

pub returns-in_default-get-clause-row : goal.returns-in_default-get-clause-row
returns-in_default-get-clause-row c code cs e is long =
    let at = c.in-Some.class in
    let missing = numbered_past code at c.if-class-eq0.false (ap (λ v. slice_get v (at - 1)) e ∙ none_at c.args.classes.now (at - 1) c.in_default-get.ensures.lookup.3) in
    sym (no_part c.args.part _ (ap (record_in code) (sym (c.in-Some.ensures.row code cs e is long)) ∙ missing))

pub returns-in-Declarations-clause-row : goal.returns-in-Declarations-clause-row
returns-in-Declarations-clause-row c code cs e is long =
    let at = c.in-Some.class in
    let x = c.in-Some-get.record.now in
    let there : class_numbered code at ≡ Some x = numbered_at code at x c.if-class-eq0.false (ap (λ v. slice_get v (at - 1)) e ∙ found_at c.args.classes.now (at - 1) x c.in-Some-get.ensures.lookup.3.0 c.in-Some-get.ensures.lookup.1) in
    sym (ap (index_in c.args.part) (ap (record_in code) (sym (c.in-Some.ensures.row code cs e is long)) ∙ there) ∙ ap (λ p. index_in p (Some x)) c.in-Declarations.is ∙ ap {A = ClassOf} (λ r. Some r.declarations) (sym c.record.view_is))

pub returns-in-Statements-clause-row : goal.returns-in-Statements-clause-row
returns-in-Statements-clause-row c code cs e is long =
    let at = c.in-Some.class in
    let x = c.in-Some-get.record.now in
    let there : class_numbered code at ≡ Some x = numbered_at code at x c.if-class-eq0.false (ap (λ v. slice_get v (at - 1)) e ∙ found_at c.args.classes.now (at - 1) x c.in-Some-get.ensures.lookup.3.0 c.in-Some-get.ensures.lookup.1) in
    sym (ap (index_in c.args.part) (ap (record_in code) (sym (c.in-Some.ensures.row code cs e is long)) ∙ there) ∙ ap (λ p. index_in p (Some x)) c.in-Statements.is ∙ ap {A = ClassOf} (λ r. Some r.statements) (sym c.record.view_is))

pub returns-in-AfterInner-clause-row : goal.returns-in-AfterInner-clause-row
returns-in-AfterInner-clause-row c code cs e is long =
    let at = c.in-Some.class in
    let x = c.in-Some-get.record.now in
    let there : class_numbered code at ≡ Some x = numbered_at code at x c.if-class-eq0.false (ap (λ v. slice_get v (at - 1)) e ∙ found_at c.args.classes.now (at - 1) x c.in-Some-get.ensures.lookup.3.0 c.in-Some-get.ensures.lookup.1) in
    sym (ap (index_in c.args.part) (ap (record_in code) (sym (c.in-Some.ensures.row code cs e is long)) ∙ there) ∙ ap (λ p. index_in p (Some x)) c.in-AfterInner.is ∙ ap {A = ClassOf} (λ r. Some r.after_inner) (sym c.record.view_is))
