use Rattle.std.proofs.Common.{◌<◌, ◌≡◌, length, arith}
use Rattle.std.proofs.lemmas.Option.{slice_get-get_or}
use Rattle.sim_scope.specs.Source.{source_of}
use Rattle.codegen.proofs.Recorded as w
use Rattle.codegen.proofs.program.class_records.Goals as goal

pub loop-index-init : goal.loop-index-init
loop-index-init c = w.records_first (source_of c.args.bound.now) c.args.classes.now c.args.texts.now c.new-records.result.items c.new-records.ensures.items

pub loop-index-preserved : goal.loop-index-preserved
loop-index-preserved c =
    let i = c.loop-index.index in
    let cs = c.args.classes.now in
    let ks = c.args.texts.now in
    let inside = c.loop-index-test.true in
    let long = c.requires.long in
    let in_texts : i < length ks = omega (arith, inside, long) in
    w.records_next (source_of c.args.bound.now) cs ks c.loop-index.records.items _ i _ _ _ _ c.loop-index.invariant
    (slice_get-get_or cs i _ inside) (slice_get-get_or ks i _ in_texts) c.in_ok-matches.ensures c.class_record.ensures c.in_ok-push.ensures.items

pub returns : goal.returns
returns c =
    let low = c.loop-index.auto.index-end in
    let high = c.loop-index-test.false in
    let done : c.loop-index.index ≡ length c.args.classes.now = omega (arith, low, high) in
    w.records_last (source_of c.args.bound.now) c.args.classes.now c.args.texts.now c.loop-index.records.items c.loop-index.index c.loop-index.invariant done
