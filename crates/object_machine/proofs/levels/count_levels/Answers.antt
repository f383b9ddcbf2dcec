use Rattle.std.proofs.Common.{◌≡◌, ◌+◌, ◌-◌, ◌≤◌, ◌<◌, ◌∙◌, ap, sym, subst}
use Rattle.std.specs.Prelude.{Some, slice_get}
use Rattle.sim_code.specs.Classes.{class_numbered}
use Rattle.sim_code.specs.Code.{ClassOf}
use Rattle.object_machine.proofs.ClassRows.{numbered_at, numbered_past}
use Rattle.object_machine.proofs.LevelRows.{Counted, count_broken, count_last, count_more, count_none, count_over, counted_first}
use Rattle.object_machine.proofs.Jumps.{found_at, none_at}
use Rattle.object_machine.proofs.levels.count_levels.Goals as goal

pub loop-outward-init : goal.loop-outward-init
loop-outward-init c code e = counted_first code c.args.class

pub returns-then-at-eq0 : goal.returns-then-at-eq0
returns-then-at-eq0 c = record {
  row = λ code e. sym (c.loop-outward.invariant code e ∙ count_none code c.args.class c.loop-outward.outward c.loop-outward.at c.loop-outward-test.true (ap (class_numbered code) c.if-at-eq0.true));
}

pub returns-in_default : goal.returns-in_default
returns-in_default c = record {
  row = λ code e.
      let at = c.loop-outward.at in
      let missing = numbered_past code at c.if-at-eq0.false (ap (λ v. slice_get v (at - 1)) e ∙ none_at c.args.classes.now (at - 1) c.in_default.ensures.lookup.3) in
      sym (c.loop-outward.invariant code e ∙ count_none code c.args.class c.loop-outward.outward at c.loop-outward-test.true missing);
}

pub returns-then-prefix-eq0 : goal.returns-then-prefix-eq0
returns-then-prefix-eq0 c = record {
  row = λ code e.
      let at = c.loop-outward.at in
      let x = c.in-Some.record.now in
      let there : class_numbered code at ≡ Some x = numbered_at code at x c.if-at-eq0.false (ap (λ v. slice_get v (at - 1)) e ∙ found_at c.args.classes.now (at - 1) x c.in-Some.ensures.lookup.3.0 c.in-Some.ensures.lookup.1) in
      let prefix = ap {A = ClassOf} (λ r. r.prefix) (sym c.record.view_is) in
      sym (c.loop-outward.invariant code e ∙ count_last code c.args.class c.loop-outward.outward at c.loop-outward-test.true x there (prefix ∙ c.if-prefix-eq0.true));
}

pub returns-then-prefix-at : goal.returns-then-prefix-at
returns-then-prefix-at c = record {
  row = λ code e.
      let at = c.loop-outward.at in
      let x = c.in-Some.record.now in
      let there : class_numbered code at ≡ Some x = numbered_at code at x c.if-at-eq0.false (ap (λ v. slice_get v (at - 1)) e ∙ found_at c.args.classes.now (at - 1) x c.in-Some.ensures.lookup.3.0 c.in-Some.ensures.lookup.1) in
      let prefix = ap {A = ClassOf} (λ r. r.prefix) (sym c.record.view_is) in
      sym (c.loop-outward.invariant code e ∙ count_broken code c.args.class c.loop-outward.outward at c.loop-outward-test.true x there (λ z. c.if-prefix-eq0.false (sym prefix ∙ z)) (subst (λ n. at ≤ n) (sym prefix) c.if-prefix-at.true));
}

pub loop-outward-preserved : goal.loop-outward-preserved
loop-outward-preserved c code e =
    let at = c.loop-outward.at in
    let x = c.in-Some.record.now in
    let there : class_numbered code at ≡ Some x = numbered_at code at x c.if-at-eq0.false (ap (λ v. slice_get v (at - 1)) e ∙ found_at c.args.classes.now (at - 1) x c.in-Some.ensures.lookup.3.0 c.in-Some.ensures.lookup.1) in
    let prefix = ap {A = ClassOf} (λ r. r.prefix) (sym c.record.view_is) in
    c.loop-outward.invariant code e ∙ count_more code c.args.class c.loop-outward.outward at c.loop-outward-test.true x there (λ z. c.if-prefix-eq0.false (sym prefix ∙ z)) (subst (λ n. n < at) (sym prefix) c.if-prefix-at.false)
    ∙ ap (λ q. Counted code c.args.class (c.loop-outward.outward + 1) q) prefix

pub returns : goal.returns
returns c = record {
  row = λ code e. sym (c.loop-outward.invariant code e ∙ count_over code c.args.class c.loop-outward.outward c.loop-outward.at c.loop-outward-test.false);
}
