use Rattle.std.proofs.Common.{◌<◌, ◌-◌, length, arith}
use Rattle.codegen.specs.ForElements.{in_list}
use Rattle.codegen.proofs.Shares as w
use Rattle.codegen.proofs.lists.emit_returns.Goals as goal

pub loop-number-init : goal.loop-number-init
loop-number-init c = (omega arith, w.returns_all c.args.bound.now c.args.spot c.args.draft.now (in_list c.args.elements))

pub loop-number-preserved : goal.loop-number-preserved
loop-number-preserved c =
    let k = c.loop-number.number in
    let xs = in_list c.args.elements in
    let many = c.count-number-end.ensures in
    let test' = c.loop-number-test.true in
    let test : k < length xs - 1 = omega (arith, test', many) in
    (omega (arith, test), w.returns_on c.args.bound.now c.args.spot c.args.draft.now c.loop-number.draft c.emit_return.new.draft xs k c.loop-number.invariant.1 test c.in_ok-emit_return.ensures)

pub returns : goal.returns
returns c =
    let k = c.loop-number.number in
    let xs = in_list c.args.elements in
    let many = c.count-number-end.ensures in
    let test = c.loop-number-test.false in
    w.returns_end c.args.bound.now c.args.spot c.args.draft.now c.loop-number.draft c.leave_hole.new.self xs k c.loop-number.invariant.1 c.requires.some (omega (arith, test, many)) c.loop-number.invariant.0 c.in_ok-leave_hole.ensures
