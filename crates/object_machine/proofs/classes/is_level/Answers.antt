use Rattle.std.proofs.Common.{◌≡◌, ◌+◌, ◌-◌, ◌≤◌, ◌<◌, ◌∙◌, ap, sym, subst}
use Rattle.std.specs.Prelude.{Some, slice_get}
use Rattle.sim_code.specs.Classes.{class_numbered}
use Rattle.sim_code.specs.Code.{ClassOf}
use Rattle.object_machine.proofs.ClassRows.{Left, found_at_first, left_broken, left_last, left_more, left_none, numbered_at, numbered_past, or_found}
use Rattle.object_machine.proofs.Jumps.{found_at, none_at}
use Rattle.object_machine.proofs.classes.is_level.Goals as goal

pub loop-init : goal.loop-init
loop-init c code e = found_at_first code c.args.class c.args.wanted

pub returns-then-at-eq0 : goal.returns-then-at-eq0
returns-then-at-eq0 c = record {
  row = λ code e.
      let at = c.loop.at in
      sym (c.loop.invariant code e ∙ left_none code c.args.class c.args.wanted c.loop.counter at c.loop.found c.loop-test.true (ap (class_numbered code) c.if-at-eq0.true));
}

pub returns-in_default : goal.returns-in_default
returns-in_default c = record {
  row = λ code e.
      let at = c.loop.at in
      let missing = numbered_past code at c.if-at-eq0.false (ap (λ v. slice_get v (at - 1)) e ∙ none_at c.args.classes.now (at - 1) c.in_default.ensures.lookup.3) in
      sym (c.loop.invariant code e ∙ left_none code c.args.class c.args.wanted c.loop.counter at c.loop.found c.loop-test.true missing);
}

pub returns-then-prefix-eq0 : goal.returns-then-prefix-eq0
returns-then-prefix-eq0 c = record {
  row = λ code e.
      let at = c.loop.at in
      let x = c.in-Some.record.now in
      let there : class_numbered code at ≡ Some x = numbered_at code at x c.if-at-eq0.false (ap (λ v. slice_get v (at - 1)) e ∙ found_at c.args.classes.now (at - 1) x c.in-Some.ensures.lookup.3.0 c.in-Some.ensures.lookup.1) in
      let prefix = ap {A = ClassOf} (λ r. r.prefix) (sym c.record.view_is) in
      sym (c.loop.invariant code e ∙ left_last code c.args.class c.args.wanted c.loop.counter at c.loop.found c.loop-test.true x c.noted-found_now.result there (prefix ∙ c.if-prefix-eq0.true) (sym c.noted-found_now.ensures));
}

pub returns-then-prefix-at : goal.returns-then-prefix-at
returns-then-prefix-at c = record {
  row = λ code e.
      let at = c.loop.at in
      let x = c.in-Some.record.now in
      let there : class_numbered code at ≡ Some x = numbered_at code at x c.if-at-eq0.false (ap (λ v. slice_get v (at - 1)) e ∙ found_at c.args.classes.now (at - 1) x c.in-Some.ensures.lookup.3.0 c.in-Some.ensures.lookup.1) in
      let prefix = ap {A = ClassOf} (λ r. r.prefix) (sym c.record.view_is) in
      sym (c.loop.invariant code e ∙ left_broken code c.args.class c.args.wanted c.loop.counter at c.loop.found c.loop-test.true x there (λ z. c.if-prefix-eq0.false (sym prefix ∙ z)) (subst (λ n. at ≤ n) (sym prefix) c.if-prefix-at.true));
}

pub loop-preserved : goal.loop-preserved
loop-preserved c code e =
    let at = c.loop.at in
    let x = c.in-Some.record.now in
    let there : class_numbered code at ≡ Some x = numbered_at code at x c.if-at-eq0.false (ap (λ v. slice_get v (at - 1)) e ∙ found_at c.args.classes.now (at - 1) x c.in-Some.ensures.lookup.3.0 c.in-Some.ensures.lookup.1) in
    let prefix = ap {A = ClassOf} (λ r. r.prefix) (sym c.record.view_is) in
    c.loop.invariant code e ∙ left_more code c.args.class c.args.wanted c.loop.counter at c.loop.found c.loop-test.true x c.noted-found_now.result there (λ z. c.if-prefix-eq0.false (sym prefix ∙ z)) (subst (λ n. n < at) (sym prefix) c.if-prefix-at.false) (sym c.noted-found_now.ensures)
    ∙ ap (λ q. or_found c.noted-found_now.result (Left code c.args.class c.args.wanted (c.loop.counter + 1) q)) prefix
