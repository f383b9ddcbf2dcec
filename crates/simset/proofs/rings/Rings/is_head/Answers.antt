use Rattle.std.proofs.Common.{ap, arith}
use Rattle.simset.specs.Sets.{Simset}
use Rattle.simset.proofs.Closings.{kept-view, read-is_head, is_head_at-past}
use Rattle.std.proofs.lemmas.Bool.Decides.{nat_tests}
use Rattle.simset.proofs.rings.Rings.is_head.Goals as goal

pub returns-then-x-len : goal.returns-then-x-len
returns-then-x-len c = read-is_head c.self.inside.nodes.items _ c.args.x.0 c.index.result.now (kept-view _ _ (ap (λ (v : Simset). v.sets) c.self.view_is) c.self.invariant) (omega (arith, c.len.ensures, c.if-x-len.true)) c.index.ensures

pub returns-else-x-len : goal.returns-else-x-len
returns-else-x-len c = grind (arith, nat_tests, c.if-x-len.false, is_head_at-past c.args.self.now.sets c.args.x.0 (omega (arith, c.len.ensures, c.if-x-len.false, (kept-view _ _ (ap (λ (v : Simset). v.sets) c.self.view_is) c.self.invariant).made)))
