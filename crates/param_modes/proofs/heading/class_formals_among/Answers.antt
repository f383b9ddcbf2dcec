use Rattle.std.proofs.Common.{◌<◌, ◌≤◌, length, subst}
use Rattle.std.proofs.lemmas.List.{drop_more}
use Rattle.std.specs.Prelude.{slice_index_or}
use Rattle.sim_base.specs.declared.numbering.DeclNo.{DeclNo}
use Rattle.sim_scope.specs.Scopes.{class_formals}
use Rattle.param_modes.proofs.Gathering.{class_formal_here, gathers_all, gathers_end, gathers_next, gathers_none}
use Rattle.param_modes.proofs.heading.class_formals_among.Goals as goal

pub loop-place-init : goal.loop-place-init
loop-place-init c = gathers_all c.args.scopes.now (class_formals c.args.scopes.now c.args.block) c.new-list.result.items c.new-list.ensures.items

pub returns-in-None : goal.returns-in-None
returns-in-None c =
    let s = c.args.scopes.now in
    let ds = class_formals s c.args.block in
    let i = c.loop-place.place in
    let zero : DeclNo = record { 0 = 0 } in
    let within : i < length ds = subst (λ n. i < n) c.in_ok-place-end.ensures c.loop-place-test.true in
    gathers_none s ds c.loop-place.list.items i (slice_index_or ds i zero) c.class_formal.result c.loop-place.invariant (drop_more ds i zero within) (class_formal_here s c.args.block i zero c.class_formal.result within c.class_formal.ensures) c.in-None.is

pub loop-place-preserved : goal.loop-place-preserved
loop-place-preserved c =
    let s = c.args.scopes.now in
    let ds = class_formals s c.args.block in
    let i = c.loop-place.place in
    let zero : DeclNo = record { 0 = 0 } in
    let within : i < length ds = subst (λ n. i < n) c.in_ok-place-end.ensures c.loop-place-test.true in
    gathers_next s ds c.loop-place.list.items c.push.new.self.items i (slice_index_or ds i zero) c.class_formal.result c.in-Some.formal c.loop-place.invariant (drop_more ds i zero within)
    (class_formal_here s c.args.block i zero c.class_formal.result within c.class_formal.ensures) c.in-Some.is (c.in_ok-push-in-Some.ensures).items

pub returns : goal.returns
returns c =
    let s = c.args.scopes.now in
    let ds = class_formals s c.args.block in
    gathers_end s ds c.loop-place.list.items c.loop-place.place c.loop-place.invariant (subst (λ n. n ≤ c.loop-place.place) c.in_ok-place-end.ensures c.loop-place-test.false)
