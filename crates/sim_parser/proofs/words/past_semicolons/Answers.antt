use Rattle.std.proofs.Common.{arith}
use Rattle.sim_parser.proofs.WordSteps.{skips-more, skips-end}
use Rattle.sim_parser.proofs.words.past_semicolons.Goals as goal

pub loop-next-preserved : goal.loop-next-preserved
loop-next-preserved c =
    let l = c.loop-next in
    let w = c.in-Some.ensures in
    record {
      goes = λ d. skips-more (l.invariant.goes d) w.0 w.1;
      ahead = omega (arith, l.invariant.ahead, w.1);
      within = w.2;
    }

pub returns : goal.returns
returns c = λ d. skips-end (c.loop-next.invariant.goes d) c.in_default.ensures c.loop-next.invariant.ahead c.loop-next.invariant.within
