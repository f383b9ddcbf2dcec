use Rattle.std.proofs.Common.{◌∙◌, subst}
use Rattle.std.specs.Prelude.{Some, None}
use Rattle.sim_code.specs.Machine.{plain}
use Rattle.frame_arena.specs.Slots.{value_of}
use Rattle.frame_arena.specs.Stacks.{slot_at, values_of}
use Rattle.object_machine.specs.SetRows.{Names}
use Rattle.object_machine.proofs.SetRows.{GivenBy, given_nowhere, given_popped, given_there, none_given}
use Rattle.object_machine.proofs.sets.take_parameter.Goals as goal

pub returns-then-not-takes-clause-row : goal.returns-then-not-takes-clause-row
returns-then-not-takes-clause-row c o rises same go = none_given o go c.args.takes (values_of c.args.depth c.args.stack.now) c.if-not-takes.true

pub returns-in_default-clause-row : goal.returns-in_default-clause-row
returns-in_default-clause-row c o rises same go = given_popped o go c.args.takes (values_of c.args.depth c.args.stack.now) c.if-not-takes.false ∙ c.in_default.ensures.row o (GivenBy o go)

pub returns-in-Linkage-clause-row : goal.returns-in-Linkage-clause-row
returns-in-Linkage-clause-row c o rises same go =
    let stack = c.args.stack.now in
    let at = c.in-Some.under in
    let v = value_of (slot_at stack at) in
    let names = subst (λ q. Names q o.members (plain v)) c.in-Linkage.is (c.linkage_in.ensures o.members rises same) in
    given_popped o go c.args.takes (values_of c.args.depth stack) c.if-not-takes.false ∙ c.in-Some.ensures.row o (GivenBy o go) ∙ given_there o go v (values_of at stack) (Some c.in-Linkage.number.0) names.1

pub returns-in-IsNone-clause-row : goal.returns-in-IsNone-clause-row
returns-in-IsNone-clause-row c o rises same go =
    let stack = c.args.stack.now in
    let at = c.in-Some.under in
    let v = value_of (slot_at stack at) in
    let names = subst (λ q. Names q o.members (plain v)) c.in-IsNone.is (c.linkage_in.ensures o.members rises same) in
    given_popped o go c.args.takes (values_of c.args.depth stack) c.if-not-takes.false ∙ c.in-Some.ensures.row o (GivenBy o go) ∙ given_there o go v (values_of at stack) None names.1

pub returns-in-Other-clause-row : goal.returns-in-Other-clause-row
returns-in-Other-clause-row c o rises same go =
    let stack = c.args.stack.now in
    let at = c.in-Some.under in
    let v = value_of (slot_at stack at) in
    let names = subst (λ q. Names q o.members (plain v)) c.in-Other.is (c.linkage_in.ensures o.members rises same) in
    given_popped o go c.args.takes (values_of c.args.depth stack) c.if-not-takes.false ∙ c.in-Some.ensures.row o (GivenBy o go) ∙ given_nowhere o go v (values_of at stack) names.1
