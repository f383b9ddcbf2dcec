use Rattle.codegen.proofs.Planned as w
use Rattle.codegen.proofs.plan.front_of.Goals as goal

pub returns-in-Some-get : goal.returns-in-Some-get
returns-in-Some-get c =
    let plan = c.args.plan.now in
    let there = w.index_found plan c.block_number.result c.in-Some-get.planned.now c.in-Some-get.ensures.lookup.3.0 c.in-Some-get.ensures.lookup.1 in
    w.front_there c.args.bound.now plan c.args.nothing.now c.in-Some-get.planned.now c.args.text c.in-Some.front c.block_number.result c.prefix_of.result c.prefix_of.ensures c.in-Some.is c.block_number.ensures there

pub returns-in-None : goal.returns-in-None
returns-in-None c =
    w.front_past c.args.bound.now c.args.plan.now c.args.nothing.now c.args.text c.in-Some.front c.block_number.result c.prefix_of.result c.prefix_of.ensures c.in-Some.is c.block_number.ensures c.in-None.ensures.lookup.3
