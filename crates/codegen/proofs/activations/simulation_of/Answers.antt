use Rattle.std.proofs.Common.{◌∙◌, length, rules}
use Rattle.sim_scope.specs.Levels.{simulation_level_of}
use Rattle.codegen.proofs.Activated.{outward}
use Rattle.codegen.proofs.activations.simulation_of.Goals as goal

pub returns : goal.returns
returns c =
    let s = c.args.scopes.now in
    c.first_around.ensures (λ b. simulation_level_of s (length s.blocks) b) (λ b r le is. search rules) ∙ outward s _ c.args.block
