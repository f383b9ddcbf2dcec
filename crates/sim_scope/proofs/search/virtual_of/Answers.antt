use Rattle.std.proofs.Common.{◌∙◌, rules}
use Rattle.sim_scope.specs.Scopes.{lookup, virtual_among}
use Rattle.sim_scope.proofs.Alongs.{virtual_along}
use Rattle.sim_scope.proofs.search.virtual_of.Goals as goal

pub returns : goal.returns
returns c =
    let s = c.args.scopes.now in
    c.first_level.ensures (λ b. virtual_among s (lookup s b c.args.name.now)) (λ b r le is. search rules) ∙ virtual_along s _ c.args.name.now c.args.block
