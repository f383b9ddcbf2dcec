use Rattle.std.proofs.Common.{◌∙◌, Some, None, if◌then◌else◌, rules}
use Rattle.sim_scope.specs.Access.{protector, protects}
use Rattle.sim_scope.proofs.Alongs.{protector_along}
use Rattle.sim_scope.proofs.access.protector.Goals as goal

pub returns : goal.returns
unfolding protector
returns c =
    let s = c.args.scopes.now in
    c.first_level.ensures (λ b. if protects s b c.args.name.now then Some b else None) (λ b r le is. search rules) ∙ protector_along s _ c.args.name.now c.args.block
