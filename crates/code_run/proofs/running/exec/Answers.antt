use Rattle.code_run.proofs.Ended.{broken_of, has_end, input_of, output_of, ran_of}
use Rattle.code_run.proofs.running.exec.Goals as goal

pub returns-clause-ends : goal.returns-clause-ends
returns-clause-ends g c bytes = has_end c.args.code c.args.limits.now bytes (c.every_code_ends.ensures c.args.code c.args.limits.now bytes)

pub returns-clause-ran : goal.returns-clause-ran
returns-clause-ran g c bytes told =
    rw c.end_of.ensures
    (ran_of c.args.code c.args.limits.now bytes (g.O.Sink.written c.args.out.now) (g.O.Sink.written c.run.new.out) (g.I.Source.faults c.args.input.now) (g.I.Source.faults c.run.new.input) c.run.result (c.run.ensures.ran bytes told))

pub returns-clause-broken : goal.returns-clause-broken
returns-clause-broken g c bytes told =
    rw c.end_of.ensures
    (broken_of c.args.code c.args.limits.now bytes (g.O.Sink.written c.args.out.now) (g.O.Sink.written c.run.new.out) c.output_grows.ensures (has_end c.args.code c.args.limits.now bytes (c.every_code_ends.ensures c.args.code c.args.limits.now bytes)) (g.I.Source.faults c.args.input.now) (g.I.Source.faults c.run.new.input) c.run.result (c.run.ensures.ran bytes told))

pub returns-clause-output : goal.returns-clause-output
returns-clause-output g c = rw c.end_of.ensures (output_of g.O.Sink.written g.O.Sink.faults c.args.out.now c.run.new.out c.run.result c.run.ensures.faults)

pub returns-clause-input : goal.returns-clause-input
returns-clause-input g c = rw c.end_of.ensures (input_of (g.I.Source.faults c.args.input.now) (g.I.Source.faults c.run.new.input) c.run.result c.run.ensures.input_faults)

pub returns-clause-takes : goal.returns-clause-takes
returns-clause-takes g c bytes told never = c.run.ensures.takes bytes told never
