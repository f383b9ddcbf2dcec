use Rattle.codegen.proofs.Whole as w
use Rattle.codegen.proofs.program.compile.Goals as goal

pub returns-clause-stands : goal.returns-clause-stands
returns-clause-stands c =
    w.code_stands c.args.bound.now _ c.emit_texts.new.written c.in_ok-trees.trees.items c.deref-2.result.now c.deref-5.result.now c.in_ok-plan.plan.items c.in_ok-texts.texts.items c.in_ok-classes.classes.items c.into_parts-instrs.result.1.items c.into_parts-instrs.result.2.items c.into_parts-instrs.result.0.items
    c.requires c.in_ok-trees.ensures c.new.ensures c.new-2.ensures.items c.deref-2.ensures.value c.in_ok-plan.ensures c.deref-5.ensures.value c.in_ok-emit_texts.ensures c.in_ok-texts.ensures c.in_ok-classes.ensures c.into_parts-instrs.ensures.thunks c.into_parts-instrs.ensures.lists c.into_parts-instrs.ensures.instrs
