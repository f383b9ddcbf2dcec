use Rattle.std.proofs.lemmas.List.{drop_more}
use Rattle.std.specs.Prelude.{slice_index_or}
use Rattle.sim_base.specs.declared.numbering.DeclNo.{DeclNo}
use Rattle.param_modes.proofs.Gathering.{gathers_all, gathers_end, gathers_next, gathers_none}
use Rattle.param_modes.proofs.heading.formals_among.Goals as goal

pub loop-number-init : goal.loop-number-init
loop-number-init c = gathers_all c.args.scopes.now c.args.numbers.now c.new-list.result.items c.new-list.ensures.items

pub returns-in-None : goal.returns-in-None
returns-in-None c =
    let ds = c.args.numbers.now in
    let i = c.loop-number.number-index in
    let zero : DeclNo = record { 0 = 0 } in
    gathers_none c.args.scopes.now ds c.loop-number.list.items i (slice_index_or ds i zero) c.formal_declared.result c.loop-number.invariant (drop_more ds i zero c.loop-number-test.true) c.formal_declared.ensures c.in-None.is

pub loop-number-preserved : goal.loop-number-preserved
loop-number-preserved c =
    let ds = c.args.numbers.now in
    let i = c.loop-number.number-index in
    let zero : DeclNo = record { 0 = 0 } in
    gathers_next c.args.scopes.now ds c.loop-number.list.items c.push.new.self.items i (slice_index_or ds i zero) c.formal_declared.result c.in-Some.formal c.loop-number.invariant (drop_more ds i zero c.loop-number-test.true) c.formal_declared.ensures c.in-Some.is
    (c.in_ok-push-in-Some.ensures).items

pub returns : goal.returns
returns c = gathers_end c.args.scopes.now c.args.numbers.now c.loop-number.list.items c.loop-number.number-index c.loop-number.invariant c.loop-number-test.false
