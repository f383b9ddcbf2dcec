use Rattle.std.proofs.Common.{subst}
use Rattle.codegen.specs.Planning.{IsFront, PlannedBehind}
use Rattle.codegen.proofs.PlanSteps as w
use Rattle.codegen.proofs.plan.plan_text.Goals as goal

pub returns : goal.returns
returns c =
    let b = c.args.bound.now in
    let old = c.args.planning.now in
    let own = c.in_ok-own.own.items in
    let front = c.front_of-front.result.now in
    let count = c.cell_count-count.result in
    let class = c.in_ok-class.class in
    let planned = c.in_ok-planned.planned in
    w.text_planned b old c.put_planned.new.planning c.args.text c.block_number-block.result count class c.args.tree own c.blank-nothing.result front planned c.block_number-block.ensures c.cell_count-count.ensures c.in_ok-own.ensures c.in_ok-class.ensures c.blank-nothing.ensures
    (subst (λ z. IsFront b z c.blank-nothing.result c.args.text front) c.deref.ensures.value c.front_of-front.ensures) (subst (λ z. PlannedBehind planned front count z class) c.deref-2.ensures.value c.in_ok-planned.ensures) c.put_planned.ensures
