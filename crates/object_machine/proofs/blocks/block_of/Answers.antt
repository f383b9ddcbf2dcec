use Rattle.std.proofs.Common.{rules, to_z, of_z, w64, ◌≡◌, ◌<◌, ◌∙◌, length, ap, sym, subst, arith}
use Rattle.std.specs.Prelude.{slice_get, Some, None, true}
use Rattle.sim_code.specs.Code.{BlockOf}
use Rattle.sim_code.specs.Machine.{number, same_kind}
use Rattle.sim_code.specs.Events.{having}
use Rattle.object_machine.proofs.BlockFacts.{block_no_index, no_block, other_kind, entry_is, same_found}
use Rattle.object_machine.proofs.Jumps.{found_at, got, none_at}
use Rattle.object_machine.proofs.blocks.block_of.Goals as goal

pub returns-in_default-clause-row : goal.returns-in_default-clause-row
returns-in_default-clause-row c code z e1 e2 e3 o go =
    let ex : to_z w64 (of_z w64 c.args.operand) ≡ c.args.operand = search rules in
    block_no_index code c.args.kind z o go (c.in_default.ensures ∙ ap number ex ∙ ap number (sym e3))

pub returns-in_default-get-clause-row : goal.returns-in_default-get-clause-row
returns-in_default-get-clause-row c code z e1 e2 e3 o go =
    let ex : to_z w64 (of_z w64 c.args.operand) ≡ c.args.operand = search rules in
    no_block code c.args.kind z o go c.in-Some.number (c.in-Some.ensures ∙ ap number ex ∙ ap number (sym e3)) (ap (λ v. slice_get v c.in-Some.number) e1 ∙ none_at c.args.blocks.now c.in-Some.number c.in_default-get.ensures.lookup.3)

pub returns-then-not-same_kind-clause-row : goal.returns-then-not-same_kind-clause-row
returns-then-not-same_kind-clause-row c code z e1 e2 e3 o go =
    let ex : to_z w64 (of_z w64 c.args.operand) ≡ c.args.operand = search rules in
    other_kind code c.args.kind z o go c.in-Some.number c.in-Some-get.block.now (c.in-Some.ensures ∙ ap number ex ∙ ap number (sym e3)) (ap (λ v. slice_get v c.in-Some.number) e1 ∙ found_at c.args.blocks.now c.in-Some.number c.in-Some-get.block.now c.in-Some-get.ensures.lookup.3.0 c.in-Some-get.ensures.lookup.1) (ap (λ b. same_kind b.kind c.args.kind) (sym c.block.view_is) ∙ (sym c.same_kind.ensures ∙ c.if-not-same_kind.true))

pub returns-then-block-instrs-clause-row : goal.returns-then-block-instrs-clause-row
unfolding having
returns-then-block-instrs-clause-row c code z e1 e2 e3 o go =
    let ex : to_z w64 (of_z w64 c.args.operand) ≡ c.args.operand = search rules in
    let at = ap (λ b. b.entry) (sym c.block.view_is) in
    entry_is code c.args.kind z o go c.in-Some.number c.in-Some-get.block.now None (c.in-Some.ensures ∙ ap number ex ∙ ap number (sym e3)) (ap (λ v. slice_get v c.in-Some.number) e1 ∙ found_at c.args.blocks.now c.in-Some.number c.in-Some-get.block.now c.in-Some-get.ensures.lookup.3.0 c.in-Some-get.ensures.lookup.1) (ap (λ b. same_kind b.kind c.args.kind) (sym c.block.view_is) ∙ (sym c.same_kind.ensures ∙ c.if-not-same_kind.false)) (ap (λ v. slice_get v c.in-Some-get.block.now.entry) e2 ∙ none_at c.args.instrs.now c.in-Some-get.block.now.entry (omega (arith, at, c.if-block-instrs.true)))

pub returns-clause-number : goal.returns-clause-number
returns-clause-number c =
    let ex : to_z w64 (of_z w64 c.args.operand) ≡ c.args.operand = search rules in
    c.in-Some.ensures ∙ ap number ex

pub returns-clause-row : goal.returns-clause-row
unfolding having
returns-clause-row c code z e1 e2 e3 b there o go =
    let ex : to_z w64 (of_z w64 c.args.operand) ≡ c.args.operand = search rules in
    let is = same_found (slice_get code.blocks c.in-Some.number) c.in-Some-get.block.now b (ap (λ v. slice_get v c.in-Some.number) e1 ∙ found_at c.args.blocks.now c.in-Some.number c.in-Some-get.block.now c.in-Some-get.ensures.lookup.3.0 c.in-Some-get.ensures.lookup.1) there in
    let at : b.entry ≡ c.block.inside.entry = ap (λ (b : BlockOf). b.entry) (sym is) ∙ ap (λ b. b.entry) (sym c.block.view_is) in
    let entry = got code.instrs b.entry (subst (λ v. b.entry < length v) (sym e2) (omega (arith, at, c.if-block-instrs.false))) in
    entry_is code c.args.kind z o (λ k b x. go k b) c.in-Some.number b (Some entry.0) (c.in-Some.ensures ∙ ap number ex ∙ ap number (sym e3)) there (subst (λ b. same_kind b.kind c.args.kind ≡ true) is (ap (λ b. same_kind b.kind c.args.kind) (sym c.block.view_is) ∙ (sym c.same_kind.ensures ∙ c.if-not-same_kind.false))) entry.1
