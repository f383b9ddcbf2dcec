use Rattle.std.proofs.Common.{◌∙◌, rules}
use Rattle.sim_scope.specs.Levels.{base}
use Rattle.sim_scope.proofs.Alongs.{levels_counted}
use Rattle.sim_scope.proofs.levels.some_level.Goals as goal

pub returns : goal.returns
returns g c t tests =
    let s = c.args.scopes.now in
    c.some_along.ensures (base s) t (λ b r le is. search rules) tests ∙ levels_counted s c.block_count.result t c.args.block c.block_count.ensures
