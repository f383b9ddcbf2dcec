use Rattle.std.proofs.Common.{◌≡◌, ◌-◌, ◌≤◌, ◌<◌, ◌+◌, ◌∙◌, ap, sym, subst}
use Rattle.std.specs.Prelude.{Some, slice_get}
use Rattle.sim_code.specs.Classes.{class_numbered, or_else, process_behind}
use Rattle.sim_code.specs.Code.{ClassOf}
use Rattle.object_machine.proofs.ClassRows.{numbered_at, numbered_past}
use Rattle.object_machine.proofs.ProcessClasses.{Unsought, unsought_broken, unsought_first, unsought_last, unsought_more, unsought_none, unsought_over}
use Rattle.object_machine.proofs.Jumps.{found_at, none_at}
use Rattle.object_machine.proofs.marks.process_class.Goals as goal

pub loop-init : goal.loop-init
loop-init c code eb e = unsought_first code c.args.class

pub returns-then-at-eq0 : goal.returns-then-at-eq0
returns-then-at-eq0 c = record {
  row = λ code eb e. sym (c.loop.invariant code eb e ∙ unsought_none code c.loop.found c.args.class c.loop.counter c.loop.at c.loop-test.true (ap (class_numbered code) c.if-at-eq0.true));
}

pub returns-in_default : goal.returns-in_default
returns-in_default c = record {
  row = λ code eb e.
      let at = c.loop.at in
      let missing = numbered_past code at c.if-at-eq0.false (ap (λ v. slice_get v (at - 1)) e ∙ none_at c.args.classes.now (at - 1) c.in_default.ensures.lookup.3) in
      sym (c.loop.invariant code eb e ∙ unsought_none code c.loop.found c.args.class c.loop.counter at c.loop-test.true missing);
}

pub returns-then-prefix-eq0 : goal.returns-then-prefix-eq0
returns-then-prefix-eq0 c = record {
  row = λ code eb e.
      let at = c.loop.at in
      let x = c.in-Some.record.now in
      let there : class_numbered code at ≡ Some x = numbered_at code at x c.if-at-eq0.false (ap (λ v. slice_get v (at - 1)) e ∙ found_at c.args.classes.now (at - 1) x c.in-Some.ensures.lookup.3.0 c.in-Some.ensures.lookup.1) in
      let prefix = ap {A = ClassOf} (λ r. r.prefix) (sym c.record.view_is) in
      let found : or_else (process_behind code (Some x)) c.loop.found ≡ c.found_or-found_now.result = ap (λ y. or_else y c.loop.found) (sym (c.process_behind.ensures code eb)) ∙ sym c.found_or-found_now.ensures in
      sym (c.loop.invariant code eb e ∙ unsought_last code c.loop.found c.args.class c.loop.counter at c.loop-test.true x c.found_or-found_now.result there (prefix ∙ c.if-prefix-eq0.true) found);
}

pub returns-then-prefix-at : goal.returns-then-prefix-at
returns-then-prefix-at c = record {
  row = λ code eb e.
      let at = c.loop.at in
      let x = c.in-Some.record.now in
      let there : class_numbered code at ≡ Some x = numbered_at code at x c.if-at-eq0.false (ap (λ v. slice_get v (at - 1)) e ∙ found_at c.args.classes.now (at - 1) x c.in-Some.ensures.lookup.3.0 c.in-Some.ensures.lookup.1) in
      let prefix = ap {A = ClassOf} (λ r. r.prefix) (sym c.record.view_is) in
      sym (c.loop.invariant code eb e ∙ unsought_broken code c.loop.found c.args.class c.loop.counter at c.loop-test.true x there (λ z. c.if-prefix-eq0.false (sym prefix ∙ z)) (subst (λ n. at ≤ n) (sym prefix) c.if-prefix-at.true));
}

pub loop-preserved : goal.loop-preserved
loop-preserved c code eb e =
    let at = c.loop.at in
    let x = c.in-Some.record.now in
    let there : class_numbered code at ≡ Some x = numbered_at code at x c.if-at-eq0.false (ap (λ v. slice_get v (at - 1)) e ∙ found_at c.args.classes.now (at - 1) x c.in-Some.ensures.lookup.3.0 c.in-Some.ensures.lookup.1) in
    let prefix = ap {A = ClassOf} (λ r. r.prefix) (sym c.record.view_is) in
    let found : or_else (process_behind code (Some x)) c.loop.found ≡ c.found_or-found_now.result = ap (λ y. or_else y c.loop.found) (sym (c.process_behind.ensures code eb)) ∙ sym c.found_or-found_now.ensures in
    c.loop.invariant code eb e ∙ unsought_more code c.loop.found c.args.class c.loop.counter at c.loop-test.true x c.found_or-found_now.result there (λ z. c.if-prefix-eq0.false (sym prefix ∙ z)) (subst (λ n. n < at) (sym prefix) c.if-prefix-at.false) found
    ∙ ap (λ q. Unsought code c.found_or-found_now.result c.args.class (c.loop.counter + 1) q) prefix

pub returns : goal.returns
returns c = record {
  row = λ code eb e. sym (c.loop.invariant code eb e ∙ unsought_over code c.loop.found c.args.class c.loop.counter c.loop.at c.loop-test.false);
}
