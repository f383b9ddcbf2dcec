use Rattle.codegen.proofs.Planned.{index_found}
use Rattle.codegen.proofs.ProcessLevels as w
use Rattle.codegen.proofs.processes.is_subclass.Goals as goal

pub returns-then-is_declared_class : goal.returns-then-is_declared_class
returns-then-is_declared_class c =
    let trees = c.args.trees.now in
    let there = index_found trees c.args.text c.in-Some.tree.now c.in-Some.ensures.lookup.3.0 c.in-Some.ensures.lookup.1 in
    w.subclass_of c.args.bound.now trees c.args.class c.args.text c.in-Some.tree.now c.is_declared_class.result c.has_level.result c.requires.trees there c.is_declared_class.ensures c.if-is_declared_class.true c.has_level.ensures

pub returns-else-is_declared_class : goal.returns-else-is_declared_class
returns-else-is_declared_class c =
    let trees = c.args.trees.now in
    let there = index_found trees c.args.text c.in-Some.tree.now c.in-Some.ensures.lookup.3.0 c.in-Some.ensures.lookup.1 in
    w.subclass_other c.args.bound.now trees c.args.class c.args.text c.in-Some.tree.now c.is_declared_class.result c.requires.trees there c.is_declared_class.ensures c.if-is_declared_class.false

pub returns-in-None : goal.returns-in-None
returns-in-None c = w.subclass_none c.args.bound.now c.args.trees.now c.args.class c.args.text c.requires.trees c.in-None.ensures.lookup.3
