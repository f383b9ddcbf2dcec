use Rattle.std.proofs.Common.{◌≡◌, ◌+◌, ◌-◌, ◌∙◌, ap, sym}
use Rattle.std.specs.Prelude.{Some, slice_get}
use Rattle.sim_code.specs.Classes.{class_numbered}
use Rattle.sim_code.specs.Code.{ClassOf}
use Rattle.sim_code.specs.Levels.{in_front, parameter_within}
use Rattle.object_machine.proofs.ClassRows.{numbered_at, numbered_past}
use Rattle.object_machine.proofs.Jumps.{found_at, none_at}
use Rattle.object_machine.proofs.ParameterCells.{cell_first, cell_no_front, cell_none, cell_outer, cell_over, cell_own}
use Rattle.object_machine.proofs.parameters.parameter_cell.Goals as goal

pub loop-init : goal.loop-init
loop-init c code eb ec = cell_first code c.args.class c.args.number

pub returns-then-at-eq0 : goal.returns-then-at-eq0
returns-then-at-eq0 c = record {
  row = λ code eb ec. sym (c.loop.invariant code eb ec ∙ cell_none code c.args.class c.loop.counter c.loop.at c.args.number c.loop-test.true (ap (class_numbered code) c.if-at-eq0.true));
}

pub returns-in_default : goal.returns-in_default
returns-in_default c = record {
  row = λ code eb ec.
      let at = c.loop.at in
      let missing = numbered_past code at c.if-at-eq0.false (ap (λ v. slice_get v (at - 1)) ec ∙ none_at c.args.classes.now (at - 1) c.in_default.ensures.lookup.3) in
      sym (c.loop.invariant code eb ec ∙ cell_none code c.args.class c.loop.counter at c.args.number c.loop-test.true missing);
}

pub returns-in_default-in_front : goal.returns-in_default-in_front
returns-in_default-in_front c = record {
  row = λ code eb ec.
      let at = c.loop.at in
      let x = c.in-Some.record.now in
      let there : class_numbered code at ≡ Some x = numbered_at code at x c.if-at-eq0.false (ap (λ v. slice_get v (at - 1)) ec ∙ found_at c.args.classes.now (at - 1) x c.in-Some.ensures.lookup.3.0 c.in-Some.ensures.lookup.1) in
      let prefix = ap {A = ClassOf} (λ r. r.prefix) (sym c.record.view_is) in
      sym (c.loop.invariant code eb ec ∙ cell_no_front code c.args.class c.loop.counter at c.args.number c.loop-test.true x there (ap (in_front code) prefix ∙ sym (c.in_default-in_front.ensures.row code eb ec)));
}

pub returns-then-number-front : goal.returns-then-number-front
returns-then-number-front c = record {
  row = λ code eb ec.
      let at = c.loop.at in
      let x = c.in-Some.record.now in
      let f = c.in-Some-in_front.front in
      let there : class_numbered code at ≡ Some x = numbered_at code at x c.if-at-eq0.false (ap (λ v. slice_get v (at - 1)) ec ∙ found_at c.args.classes.now (at - 1) x c.in-Some.ensures.lookup.3.0 c.in-Some.ensures.lookup.1) in
      let prefix = ap {A = ClassOf} (λ r. r.prefix) (sym c.record.view_is) in
      sym (c.loop.invariant code eb ec ∙ cell_own code c.args.class c.loop.counter at c.args.number c.loop-test.true x f.cells f.formals there (ap (in_front code) prefix ∙ sym (c.in-Some-in_front.ensures.row code eb ec)) c.if-number-front.true);
}

pub loop-preserved : goal.loop-preserved
loop-preserved c code eb ec =
    let at = c.loop.at in
    let x = c.in-Some.record.now in
    let f = c.in-Some-in_front.front in
    let there : class_numbered code at ≡ Some x = numbered_at code at x c.if-at-eq0.false (ap (λ v. slice_get v (at - 1)) ec ∙ found_at c.args.classes.now (at - 1) x c.in-Some.ensures.lookup.3.0 c.in-Some.ensures.lookup.1) in
    let prefix = ap {A = ClassOf} (λ r. r.prefix) (sym c.record.view_is) in
    c.loop.invariant code eb ec ∙ cell_outer code c.args.class c.loop.counter at c.args.number c.loop-test.true x f.cells f.formals there (ap (in_front code) prefix ∙ sym (c.in-Some-in_front.ensures.row code eb ec)) c.if-number-front.false
    ∙ ap (λ q. parameter_within (c.args.class - (c.loop.counter + 1)) code q c.args.number) prefix

pub returns : goal.returns
returns c = record {
  row = λ code eb ec. sym (c.loop.invariant code eb ec ∙ cell_over code c.args.class c.loop.counter c.loop.at c.args.number c.loop-test.false);
}
