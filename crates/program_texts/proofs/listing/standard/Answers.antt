use Rattle.program_texts.specs.TextTrees.{of_standard}
use Rattle.program_texts.proofs.Lists as p
use Rattle.program_texts.proofs.listing.standard.Goals as goal

pub loop-item-preserved : goal.loop-item-preserved
loop-item-preserved c =
    let classes = c.classes_declared-classes.result.now in
    p.owes_next of_standard c.args.list.now.items c.loop-item.list.items _ classes c.loop-item.item-index _ c.loop-item.invariant c.loop-item-test.true (p.index_any classes c.loop-item.item-index _ c.loop-item-test.true) (p.list_standard c.loop-item.list.items _ _ c.in_ok-push.ensures.items)

pub returns : goal.returns
returns c =
    let classes = c.classes_declared-classes.result.now in
    p.list_classes c.args.list.now.items c.loop-item.list.items classes c.standard_prefix.result c.args.class.now.name c.as_bytes.result.now c.classes_declared-classes.ensures c.standard_prefix.ensures c.as_bytes.ensures.same
    (p.owes_end of_standard c.args.list.now.items c.loop-item.list.items classes c.loop-item.item-index c.loop-item.invariant c.loop-item-test.false)
