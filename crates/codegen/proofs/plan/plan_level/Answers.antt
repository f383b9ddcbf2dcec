use Rattle.std.proofs.Common.{OnOk, Result, Ok, Err}
use Rattle.codegen.proofs.PlanSteps as w
use Rattle.codegen.proofs.Planned.{index_found}
use Rattle.codegen.proofs.plan.plan_level.Goals as goal

on_ok : {X E : Type 0} (r : Result X E) (P Q : Type 0) → (P → Q) → OnOk r P → OnOk r Q
on_ok (Ok x) P Q f h = f h
on_ok (Err e) P Q f h = h

pub returns-in-Some : goal.returns-in-Some
returns-in-Some c =
    let trees = c.args.trees.now in
    let there = index_found trees c.args.text c.in-Some.tree.now c.in-Some.ensures.lookup.3.0 c.in-Some.ensures.lookup.1 in
    on_ok c.plan_text.result _ _
    (w.level_planned c.args.bound.now c.args.planning.now c.plan_text.new.planning trees c.args.text c.block_number-block.result c.in-Some.tree.now c.is_done.result c.block_number-block.ensures c.is_done.ensures c.if-is_done.false there)
    c.plan_text.ensures

pub returns-in-None : goal.returns-in-None
returns-in-None c = w.level_past c.args.bound.now c.args.planning.now c.args.trees.now c.args.text c.in-None.ensures.lookup.3
