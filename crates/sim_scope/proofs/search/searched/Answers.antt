use Rattle.std.proofs.Common.{◌∙◌, rules}
use Rattle.sim_scope.specs.Scopes.{outward, shown}
use Rattle.sim_scope.proofs.Alongs.{searched_counted}
use Rattle.sim_scope.proofs.search.searched.Goals as goal

pub returns : goal.returns
returns c =
    let s = c.args.scopes.now in
    let name = c.args.name.now in
    c.first_along.ensures (λ b. outward s b name) (λ b. shown s c.args.from b name) (λ b r le is. search rules) (λ b r le is. search rules)
    ∙ searched_counted s c.block_count.result c.args.from name c.args.block c.block_count.ensures
