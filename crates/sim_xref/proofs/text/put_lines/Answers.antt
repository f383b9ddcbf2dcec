use Rattle.sim_scope.specs.Source.{source_of}
use Rattle.sim_xref.proofs.Lines.{adds_next}
use Rattle.sim_xref.proofs.text.put_lines.Goals as goal

pub loop-token-preserved : goal.loop-token-preserved
loop-token-preserved c =
    adds_next (source_of c.args.bound.now) c.args.text.now.items c.loop-token.text.items _ c.args.uses.now c.loop-token.last c.loop-token.token-index _ c.line_of-line.result
    c.loop-token.invariant c.loop-token-test.true c.line_of-line.ensures c.in_ok-put_unless_last.ensures
