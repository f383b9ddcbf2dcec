use Rattle.text_tables.proofs.Knowing as k
use Rattle.text_tables.proofs.tables.cells_of.Goals as goal

pub returns : goal.returns
returns c = k.known_from c.args.bound.now _ c.in_ok-texts.texts.items c.deref.result.now c.deref-2.result.now c.deref-3.result.now c.deref-4.result.now c.deref-5.result.now c.deref-6.result.now c.in_ok-slots.slots.items c.declarations.result.now c.declarations-2.result.now c.blocks-2.result.now c.blocks-3.result.now c.in_ok-texts.ensures c.deref.ensures.value c.in_ok-results.ensures c.declarations.ensures c.in_ok-slots.ensures c.deref-2.ensures.value c.in_ok-counts.ensures c.deref-3.ensures.value c.declarations-2.ensures c.in_ok-constants.ensures c.blocks-2.ensures c.in_ok-block_count.ensures c.blocks-3.ensures c.in_ok-formals.ensures c.in_ok-by_token.ensures c.deref-4.ensures.value c.in_ok-classes.ensures c.deref-5.ensures.value c.in_ok-connections.ensures c.deref-6.ensures.value c.in_ok-processes.ensures c.in_ok-class_formals.ensures
