use Rattle.std.proofs.Common.{◌∙◌, subst}
use Rattle.sim_code.specs.Machine.{plain}
use Rattle.frame_arena.specs.Slots.{value_of}
use Rattle.frame_arena.specs.Stacks.{slot_at, values_of}
use Rattle.object_machine.specs.SetRows.{Names}
use Rattle.object_machine.proofs.SetRows.{OwnedBy, owner_nowhere, owner_popped, owner_there}
use Rattle.object_machine.proofs.sets.take_owner.Goals as goal

pub returns-in_default-clause-row : goal.returns-in_default-clause-row
returns-in_default-clause-row c o rises same go = owner_popped o go (values_of c.args.depth c.args.stack.now) ∙ c.in_default.ensures.row o (OwnedBy o go)

pub returns-in-Linkage-clause-row : goal.returns-in-Linkage-clause-row
returns-in-Linkage-clause-row c o rises same go =
    let stack = c.args.stack.now in
    let at = c.in-Some.under in
    let v = value_of (slot_at stack at) in
    let names = subst (λ q. Names q o.members (plain v)) c.in-Linkage.is (c.linkage_in.ensures o.members rises same) in
    owner_popped o go (values_of c.args.depth stack) ∙ c.in-Some.ensures.row o (OwnedBy o go) ∙ owner_there o go v (values_of at stack) c.in-Linkage.linkage.0 names.0

pub returns-in-IsNone-clause-row : goal.returns-in-IsNone-clause-row
returns-in-IsNone-clause-row c o rises same go =
    let stack = c.args.stack.now in
    let at = c.in-Some.under in
    let v = value_of (slot_at stack at) in
    let names = subst (λ q. Names q o.members (plain v)) c.in-IsNone.is (c.linkage_in.ensures o.members rises same) in
    owner_popped o go (values_of c.args.depth stack) ∙ c.in-Some.ensures.row o (OwnedBy o go) ∙ owner_nowhere o go v (values_of at stack) names.0

pub returns-in-Other-clause-row : goal.returns-in-Other-clause-row
returns-in-Other-clause-row c o rises same go =
    let stack = c.args.stack.now in
    let at = c.in-Some.under in
    let v = value_of (slot_at stack at) in
    let names = subst (λ q. Names q o.members (plain v)) c.in-Other.is (c.linkage_in.ensures o.members rises same) in
    owner_popped o go (values_of c.args.depth stack) ∙ c.in-Some.ensures.row o (OwnedBy o go) ∙ owner_nowhere o go v (values_of at stack) names.0
