use Rattle.std.proofs.Common.{◌≡◌, ◌+◌, ◌-◌, ◌∙◌, ap, sym, subst, arith, refl}
use Rattle.std.specs.Prelude.{Some, None, slice_get}
use Rattle.sim_code.specs.Classes.{class_numbered}
use Rattle.sim_code.specs.Code.{ClassOf}
use Rattle.object_machine.proofs.ClassRows.{numbered_at, numbered_past}
use Rattle.object_machine.proofs.LevelRows.{Rest, rest_first, rest_last, rest_more, rest_there}
use Rattle.object_machine.proofs.Jumps.{found_at, none_at}
use Rattle.object_machine.proofs.levels.class_of_level.Goals as goal

pub loop-init : goal.loop-init
loop-init c code cs e is long = rest_first code cs c.args.own.class c.args.own.count c.args.level is long

pub returns-then-level-own-clause-row : goal.returns-then-level-own-clause-row
returns-then-level-own-clause-row c code cs e is long = sym (none_at cs c.args.level (omega (arith, long, c.if-level-own.true)))

pub returns-then-at-eq0-clause-row : goal.returns-then-at-eq0-clause-row
returns-then-at-eq0-clause-row c code cs e is long =
    absurd (rest_there code cs _ c.loop.at _ c.args.level (c.loop.invariant code cs e is long) None (ap (class_numbered code) c.if-at-eq0.true) refl)

pub returns-in_default-clause-row : goal.returns-in_default-clause-row
returns-in_default-clause-row c code cs e is long =
    let at = c.loop.at in
    let missing = numbered_past code at c.if-at-eq0.false (ap (λ v. slice_get v (at - 1)) e ∙ none_at c.args.classes.now (at - 1) c.in_default.ensures.lookup.3) in
    absurd (rest_there code cs _ at _ c.args.level (c.loop.invariant code cs e is long) None missing refl)

pub loop-preserved : goal.loop-preserved
loop-preserved c code cs e is long =
    let at = c.loop.at in
    let x = c.in-Some.record.now in
    let there : class_numbered code at ≡ Some x = numbered_at code at x c.if-at-eq0.false (ap (λ v. slice_get v (at - 1)) e ∙ found_at c.args.classes.now (at - 1) x c.in-Some.ensures.lookup.3.0 c.in-Some.ensures.lookup.1) in
    let prefix = ap {A = ClassOf} (λ r. r.prefix) (sym c.record.view_is) in
    subst (λ q. Rest code cs (c.args.own.class - (c.loop.counter + 1)) q (c.args.own.count - (c.loop.counter + 1)) c.args.level) prefix
    (rest_more code cs _ at _ c.args.level (c.loop.invariant code cs e is long) x _ _ there (omega (arith, c.loop-test.true)) (omega arith) (omega arith))

pub returns-clause-row : goal.returns-clause-row
returns-clause-row c code cs e is long = rest_last code cs _ c.loop.at _ c.args.level (c.loop.invariant code cs e is long) (omega (arith, c.loop-test.false, c.if-level-own.false))
