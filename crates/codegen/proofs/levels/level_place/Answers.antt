use Rattle.std.proofs.Common.{◌<◌, length, sym, ◌∙◌, subst}
use Rattle.codegen.specs.EmitProgram.{LevelPlace}
use Rattle.codegen.proofs.ClassLevels as w
use Rattle.codegen.proofs.levels.level_place.Goals as goal

pub loop-step-init : goal.loop-step-init
loop-step-init c = w.place_first c.args.bound.now c.args.text

pub loop-step-preserved : goal.loop-step-preserved
loop-step-preserved c =
    let n = length c.args.bound.now.scopes.blocks in
    let inside : c.loop-step.step < n = subst (λ z. c.loop-step.step < z) c.block_count-step-end.ensures c.loop-step-test.true in
    w.place_further c.args.bound.now n c.loop-step.step c.in_ok-place-in-Some.place c.loop-step.place c.loop-step.level c.in-Some.front _ inside (sym c.base.ensures ∙ c.in-Some.is) c.loop-step.invariant c.in_ok-place-in-Some.ensures

pub returns-in-None : goal.returns-in-None
unfolding LevelPlace
returns-in-None c =
    let n = length c.args.bound.now.scopes.blocks in
    let inside : c.loop-step.step < n = subst (λ z. c.loop-step.step < z) c.block_count-step-end.ensures c.loop-step-test.true in
    w.place_found c.args.bound.now n c.loop-step.step c.loop-step.place c.loop-step.level _ inside (sym c.base.ensures ∙ c.in-None.is) c.loop-step.invariant
