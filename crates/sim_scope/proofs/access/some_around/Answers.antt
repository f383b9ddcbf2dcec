use Rattle.std.proofs.Common.{◌∙◌, ap, sym, length, rules}
use Rattle.sim_scope.specs.Access.{block_at, encloser, holds_at, some_around, some_around_of}
use Rattle.sim_scope.proofs.Alongs.{around_counted}
use Rattle.sim_scope.proofs.access.some_around.Goals as goal

pub returns-in-Some : goal.returns-in-Some
unfolding some_around
returns-in-Some g c t tests =
    let s = c.args.scopes.now in
    c.some_along.ensures (encloser s) t (λ b r le is. search rules) tests
    ∙ around_counted s c.block_count.result t c.in-Some.block (block_at s c.args.token.0) c.block_count.ensures (sym c.block_at.ensures ∙ c.in-Some.is)

pub returns-in-None : goal.returns-in-None
unfolding some_around
returns-in-None g c t tests =
    let s = c.args.scopes.now in
    ap (holds_at (λ b. some_around_of s (length s.blocks) t b)) (sym c.in-None.is ∙ c.block_at.ensures)
