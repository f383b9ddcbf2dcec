use Rattle.std.proofs.lemmas.Result.{err_from_is_err_and}
use Rattle.code_file.specs.Reading.{records_at}
use Rattle.code_file.proofs.Loop.{goes_on, ends, is_done}
use Rattle.code_file.proofs.sections.read_records.Goals as goal

pub returns-in_err-record : goal.returns-in_err-record
returns-in_err-record g c =
    let p = err_from_is_err_and c.from_residual-in_err-record.result c.from_residual-in_err-record.ensures.1 in
    rw (p.1, p.2) (ends g.R.Record.reading c.in_err-record.field-0.0 c.loop.records.items c.args.count c.loop.counter c.loop.rest.now (records_at g.R.Record.reading c.args.count c.args.bytes.now) c.loop-test.true c.in_err-record.ensures c.loop.invariant)

pub loop-preserved : goal.loop-preserved
loop-preserved g c =
    let n = c.in_ok-record.record in
    rw c.in_ok-push.ensures.items (goes_on g.R.Record.reading c.loop.records.items c.args.count c.loop.counter c.loop.rest.now n c.in_ok-record.after.now (records_at g.R.Record.reading c.args.count c.args.bytes.now) c.loop-test.true c.in_ok-record.ensures c.loop.invariant)

pub returns : goal.returns
returns g c = is_done g.R.Record.reading c.loop.records.items c.args.count c.loop.counter c.loop.rest.now (records_at g.R.Record.reading c.args.count c.args.bytes.now) c.loop-test.false c.loop.invariant
