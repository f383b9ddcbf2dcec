use Rattle.std.proofs.Common.{rules, ◌≡◌, ◌∙◌, ap, refl, subst}
use Rattle.std.specs.Prelude.{Some}
use Rattle.sim_code.specs.Levels.{filled_by, parameter_cell}
use Rattle.sim_code.specs.Machine.{first_cells}
use Rattle.frame_arena.specs.Frames.{Leads}
use Rattle.frame_arena.specs.Stacks.{values_from}
use Rattle.object_machine.specs.Entering.{Opens}
use Rattle.object_machine.specs.Preparing.{with_levels}
use Rattle.object_machine.proofs.BlockFacts.{same_found}
use Rattle.object_machine.proofs.generating.set_up.Goals as goal

pub returns-clause-row : goal.returns-clause-row
returns-clause-row c code l before now o m cells r eb ec stores works leads is =
    let p = c.args.storage.now in
    let x = c.args.ready in
    let b = c.args.block.now in
    let parent = x.actuals.parent in
    let g = with_levels x c.args.object in
    let next = c.in-Ok-open.next in
    let vs = values_from c.args.stack.now x.actuals.at x.actuals.count in
    let number : c.in-Ok.number ≡ x.block = search rules in
    let opens : Opens l p c.open.new.storage x.block b g (Some parent) next before now o m =
    subst (λ k. Opens l p c.open.new.storage k b g (Some parent) next before now o m) number (c.in-Ok-open.ensures.row l before now o m stores (λ q there. subst (λ f. Leads p.frames.items m f) (same_found (Some parent) parent q refl there) leads)) in
    let filled : filled_by (parameter_cell code c.block.inside.class) 0 vs (Some (first_cells b)) ≡ Some cells = ap (λ k. filled_by (parameter_cell code k) 0 vs (Some (first_cells b))) (ap (λ b. b.class) c.block.view_is) ∙ is in
    c.furnish.ensures.row c.if-not-furnish.false code l before now p o m x.block b g (Some parent) cells next r eb ec refl opens works filled
