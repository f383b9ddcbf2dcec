use Rattle.std.proofs.Common.{◌-◌, length, ap, sym, ◌∙◌, arith}
use Rattle.std.specs.Prelude.{slice_get}
use Rattle.sim_scope.specs.Scopes.{class_formal, class_formals, formal_declared}
use Rattle.sim_scope.proofs.LevelsLeft.{behind_none, behind_some, behind_further, behind_last, count_of, found_behind, found_here, left_all, left_none}
use Rattle.sim_scope.proofs.formals.class_formal.Goals as goal

pub loop-step-init : goal.loop-step-init
unfolding class_formals
loop-step-init c =
    let s = c.args.scopes.now in
    let e = left_all s (length s.blocks) c.args.block in
    (c.class_formals_count-outer.ensures ∙ ap length (sym e), ap (λ l. slice_get l c.args.place) e)

pub overflow_sub-outer : goal.overflow_sub-outer
overflow_sub-outer c =
    let s = c.args.scopes.now in
    let a = c.loop-step.invariant.0 in
    let b = count_of s (length s.blocks) c.loop-step.step c.loop-step.block (omega arith) in
    omega (arith, a, b, c.own_count-outer.ensures.count)

pub returns-in-Some : goal.returns-in-Some
unfolding class_formal class_formals
returns-in-Some c =
    let s = c.args.scopes.now in
    let n = length s.blocks in
    let i = c.loop-step.step in
    let block = c.loop-step.block in
    let a = c.loop-step.invariant.0 in
    let b = count_of s n i block (omega arith) in
    let d = c.own_count-outer.ensures.count in
    let h = behind_some (c.loop-step.outer - c.own_count-outer.result) c.args.place c.in-Some.own (sym c.place_behind.ensures ∙ c.in-Some.is) in
    let e = found_here s n i block c.args.place c.in-Some.own (omega arith) (omega (arith, a, b, d, h.0)) (omega (arith, a, b, d, h.1)) in
    c.own_formal.ensures ∙ ap (formal_declared s) (sym e ∙ c.loop-step.invariant.1)

pub returns-in-None : goal.returns-in-None
returns-in-None c =
    let s = c.args.scopes.now in
    let n = length s.blocks in
    let i = c.loop-step.step in
    let block = c.loop-step.block in
    let a = c.loop-step.invariant.0 in
    let b = count_of s n i block (omega arith) in
    let d = c.own_count-outer.ensures.count in
    let h = behind_none (c.loop-step.outer - c.own_count-outer.result) c.args.place (sym c.place_behind.ensures ∙ c.in_default.is) in
    let e = ap length (behind_last s n i block (sym c.base.ensures ∙ c.in-None.is)) in
    absurd (omega (arith, a, b, d, h, e))

pub loop-step-preserved : goal.loop-step-preserved
loop-step-preserved c =
    let s = c.args.scopes.now in
    let n = length s.blocks in
    let i = c.loop-step.step in
    let block = c.loop-step.block in
    let a = c.loop-step.invariant.0 in
    let b = count_of s n i block (omega arith) in
    let d = c.own_count-outer.ensures.count in
    let h = behind_none (c.loop-step.outer - c.own_count-outer.result) c.args.place (sym c.place_behind.ensures ∙ c.in_default.is) in
    let out = sym c.base.ensures ∙ c.in-Some-base.is in
    let e = ap length (behind_further s n i block c.in-Some-base.outward out) in
    (omega (arith, a, b, d, e), found_behind s n i block c.args.place c.in-Some-base.outward (omega arith) (omega (arith, a, b, d, h)) out ∙ c.loop-step.invariant.1)

pub returns : goal.returns
unfolding class_formal class_formals
returns c =
    let s = c.args.scopes.now in
    let n = length s.blocks in
    let e = left_none s n c.loop-step.step c.loop-step.block (omega arith) in
    ap (formal_declared s) (sym (ap (λ l. slice_get l c.args.place) e) ∙ c.loop-step.invariant.1)
