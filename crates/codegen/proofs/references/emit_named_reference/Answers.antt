use Rattle.std.proofs.lemmas.Result.{on_ok_weaker}
use Rattle.codegen.proofs.Lying as w
use Rattle.codegen.proofs.references.emit_named_reference.Goals as goal

pub returns-in-Some-own_named : goal.returns-in-Some-own_named
returns-in-Some-own_named c =
    on_ok_weaker c.emit_result_place.result
    (w.named_result c.args.bound.now c.args.spot c.args.depth c.args.draft.now c.emit_result_place.new.draft c.args.name.now c.in-Some.text c.block_number.result c.class_of-class.result c.in-Some-own_named.own c.named_type.result c.qualification.result c.own_named.result
    c.named_type.ensures c.qualification.ensures c.in-Some.is c.block_number.ensures c.class_of-class.ensures c.own_named.ensures c.in-Some-own_named.is)
    c.emit_result_place.ensures

pub returns-in-None : goal.returns-in-None
returns-in-None c =
    on_ok_weaker c.emit_named_place.result
    (w.named_place c.args.bound.now c.args.spot c.args.depth c.args.draft.now c.emit_named_place.new.draft c.args.name.now c.in-Some.text c.block_number.result c.class_of-class.result c.named_type.result c.qualification.result c.own_named.result
    c.named_type.ensures c.qualification.ensures c.in-Some.is c.block_number.ensures c.class_of-class.ensures c.own_named.ensures c.in-None.is)
    c.emit_named_place.ensures
