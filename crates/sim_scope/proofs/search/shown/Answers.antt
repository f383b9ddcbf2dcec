use Rattle.std.proofs.Common.{◌∙◌, rules}
use Rattle.sim_scope.specs.Scopes.{level_shows, shown}
use Rattle.sim_scope.proofs.Alongs.{shown_along}
use Rattle.sim_scope.proofs.search.shown.Goals as goal

pub returns : goal.returns
unfolding shown
returns c =
    let s = c.args.scopes.now in
    c.first_level.ensures (λ b. level_shows s c.args.from b c.args.name.now) (λ b r le is. search rules) ∙ shown_along s _ c.args.from c.args.name.now c.args.block
