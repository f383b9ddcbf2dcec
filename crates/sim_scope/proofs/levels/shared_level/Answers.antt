use Rattle.std.proofs.Common.{◌∙◌, Some, None, if◌then◌else◌, rules}
use Rattle.sim_scope.specs.Levels.{has_level}
use Rattle.sim_scope.proofs.Alongs.{shared_along}
use Rattle.sim_scope.proofs.levels.shared_level.Goals as goal

pub returns : goal.returns
returns c =
    let s = c.args.scopes.now in
    c.first_level.ensures (λ b. if has_level s c.args.other b then Some b else None) (λ b r le is. search rules) ∙ shared_along s _ c.args.other c.args.block
