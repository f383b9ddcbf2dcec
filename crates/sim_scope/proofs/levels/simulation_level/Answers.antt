use Rattle.std.proofs.Common.{◌∙◌, Some, None, if◌then◌else◌, rules}
use Rattle.sim_scope.specs.Levels.{is_simulation_block}
use Rattle.sim_scope.proofs.Alongs.{simulation_along}
use Rattle.sim_scope.proofs.levels.simulation_level.Goals as goal

pub returns : goal.returns
returns c =
    let s = c.args.scopes.now in
    c.first_level.ensures (λ b. if is_simulation_block s b then Some b else None) (λ b r le is. search rules) ∙ simulation_along s _ c.args.block
