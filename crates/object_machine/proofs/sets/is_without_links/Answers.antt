use Rattle.std.proofs.Common.{rules, ◌≡◌, true}
use Rattle.simset.specs.Sets.{is_head_at}
use Rattle.object_machine.proofs.Emptiness.{with_links, without_links}
use Rattle.object_machine.proofs.sets.is_without_links.Goals as goal

pub returns-in-Some : goal.returns-in-Some
returns-in-Some c =
    let head : is_head_at c.args.rings.now.sets c.args.x.0 ≡ true = search rules in
    with_links c.args.rings.now.sets c.args.x.0 c.suc.result c.in-Some.field-0 head c.suc.ensures c.in-Some.is

pub returns-in-None : goal.returns-in-None
returns-in-None c =
    let head : is_head_at c.args.rings.now.sets c.args.x.0 ≡ true = search rules in
    without_links c.args.rings.now.sets c.args.x.0 c.suc.result head c.suc.ensures c.in-None.is
