use Rattle.std.proofs.Common.{rules, to_z, of_z, w64, ◌≡◌, ℕ, ◌∙◌, List, [], length, ap, sym, subst}
use Rattle.std.specs.Prelude.{Some, slice_get}
use Rattle.sim_code.specs.declared.code.BlockKind.TheVariants as block
use Rattle.sim_code.specs.Code.{BlockOf}
use Rattle.sim_code.specs.Events.{pop_many}
use Rattle.sim_code.specs.Machine.{Machine, Value, index, number}
use Rattle.sim_code.specs.Outcome.{Run}
use Rattle.frame_arena.specs.Stacks.{values_from, values_of}
use Rattle.object_machine.specs.declared.generating.Ready.{Ready}
use Rattle.object_machine.specs.Preparing.{PrefixReady}
use Rattle.object_machine.proofs.BlockFacts.{same_found}
use Rattle.object_machine.proofs.Called.{values_long}
use Rattle.object_machine.proofs.Generated.{no_block_there}
use Rattle.object_machine.proofs.Jumps.{found_at, none_at}
use Rattle.object_machine.proofs.PrefixRows.{AfterAll, InPrefixed, no_number, none_supplied, some_number, some_supplied}
use Rattle.object_machine.proofs.prefixing.prepare.Goals as goal

pub returns-in_default-clause-row : goal.returns-in_default-clause-row
returns-in_default-clause-row c code l o m below line eb ei ec =
    let en : to_z w64 (of_z w64 c.args.values) ≡ c.args.values = search rules in
    let ez : to_z w64 (of_z w64 c.args.operand) ≡ c.args.operand = search rules in
    let r = c.args.regs.now in
    let stack = c.args.stack.now in
    let go : List Value → List Value → Run Machine = λ vs rest. AfterAll code l o m r stack below line c.args.operand vs rest in
    let taken = ap (λ z. index z o (λ n. pop_many n [] (values_of r.depth stack) o go)) (sym en) in
    taken ∙ c.in_default.ensures.row o go

pub returns-in_default-index-clause-row : goal.returns-in_default-index-clause-row
returns-in_default-index-clause-row c code l o m below line eb ei ec =
    let en : to_z w64 (of_z w64 c.args.values) ≡ c.args.values = search rules in
    let ez : to_z w64 (of_z w64 c.args.operand) ≡ c.args.operand = search rules in
    let r = c.args.regs.now in
    let stack = c.args.stack.now in
    let go : List Value → List Value → Run Machine = λ vs rest. AfterAll code l o m r stack below line c.args.operand vs rest in
    let taken = ap (λ z. index z o (λ n. pop_many n [] (values_of r.depth stack) o go)) (sym en) in
    let acts = c.in-Some.actuals in
    let vs = values_from stack acts.at acts.count in
    let rest = values_of acts.under stack in
    let found = taken ∙ c.in-Some.ensures.row o go in
    found ∙ no_number code l o m r stack below line c.args.operand vs rest (c.in_default-index.ensures ∙ ap number ez)

pub returns-in_default-start_of-clause-row : goal.returns-in_default-start_of-clause-row
returns-in_default-start_of-clause-row c code l o m below line eb ei ec =
    let en : to_z w64 (of_z w64 c.args.values) ≡ c.args.values = search rules in
    let ez : to_z w64 (of_z w64 c.args.operand) ≡ c.args.operand = search rules in
    let r = c.args.regs.now in
    let stack = c.args.stack.now in
    let go : List Value → List Value → Run Machine = λ vs rest. AfterAll code l o m r stack below line c.args.operand vs rest in
    let taken = ap (λ z. index z o (λ n. pop_many n [] (values_of r.depth stack) o go)) (sym en) in
    let acts = c.in-Some.actuals in
    let vs = values_from stack acts.at acts.count in
    let rest = values_of acts.under stack in
    let found = taken ∙ c.in-Some.ensures.row o go in
    let k = c.in-Some-index.number in
    let counted = found ∙ some_number code l o m r stack below line c.args.operand vs rest k (c.in-Some-index.ensures ∙ ap number ez) in
    let go2 : BlockOf → ℕ → Run Machine = λ b start. InPrefixed code l o m r stack below line c.args.operand vs rest k b start in
    counted ∙ c.in_default-start_of.ensures.row code eb ei ec o go2

pub returns-in_default-get-clause-row : goal.returns-in_default-get-clause-row
returns-in_default-get-clause-row c code l o m below line eb ei ec =
    let en : to_z w64 (of_z w64 c.args.values) ≡ c.args.values = search rules in
    let ez : to_z w64 (of_z w64 c.args.operand) ≡ c.args.operand = search rules in
    let r = c.args.regs.now in
    let stack = c.args.stack.now in
    let go : List Value → List Value → Run Machine = λ vs rest. AfterAll code l o m r stack below line c.args.operand vs rest in
    let taken = ap (λ z. index z o (λ n. pop_many n [] (values_of r.depth stack) o go)) (sym en) in
    let acts = c.in-Some.actuals in
    let vs = values_from stack acts.at acts.count in
    let rest = values_of acts.under stack in
    let found = taken ∙ c.in-Some.ensures.row o go in
    let k = c.in-Some-index.number in
    let counted = found ∙ some_number code l o m r stack below line c.args.operand vs rest k (c.in-Some-index.ensures ∙ ap number ez) in
    let go2 : BlockOf → ℕ → Run Machine = λ b start. InPrefixed code l o m r stack below line c.args.operand vs rest k b start in
    counted ∙ no_block_there code block.Prefixed k o go2 (ap (λ v. slice_get v k) eb ∙ none_at c.args.blocks.now k c.in_default-get.ensures.lookup.3)

pub returns-then-not-supplies-clause-row : goal.returns-then-not-supplies-clause-row
returns-then-not-supplies-clause-row c code l o m below line eb ei ec =
    let en : to_z w64 (of_z w64 c.args.values) ≡ c.args.values = search rules in
    let ez : to_z w64 (of_z w64 c.args.operand) ≡ c.args.operand = search rules in
    let r = c.args.regs.now in
    let stack = c.args.stack.now in
    let go : List Value → List Value → Run Machine = λ vs rest. AfterAll code l o m r stack below line c.args.operand vs rest in
    let taken = ap (λ z. index z o (λ n. pop_many n [] (values_of r.depth stack) o go)) (sym en) in
    let acts = c.in-Some.actuals in
    let vs = values_from stack acts.at acts.count in
    let rest = values_of acts.under stack in
    let found = taken ∙ c.in-Some.ensures.row o go in
    let k = c.in-Some-index.number in
    let counted = found ∙ some_number code l o m r stack below line c.args.operand vs rest k (c.in-Some-index.ensures ∙ ap number ez) in
    let go2 : BlockOf → ℕ → Run Machine = λ b start. InPrefixed code l o m r stack below line c.args.operand vs rest k b start in
    let b2 = c.in-Some-get.block.now in
    let start = c.in-Some-start_of.start in
    let there2 : slice_get code.blocks k ≡ Some b2 = ap (λ v. slice_get v k) eb ∙ found_at c.args.blocks.now k b2 c.in-Some-get.ensures.lookup.3.0 c.in-Some-get.ensures.lookup.1 in
    let entered = counted ∙ c.in-Some-start_of.ensures.row code eb ei ec b2 there2 o go2 in
    let long : length vs ≡ acts.count = values_long stack acts.at acts.count in
    entered ∙ none_supplied code l o m r stack below line c.args.operand vs rest k b2 start (c.supplies.ensures.no c.if-not-supplies.true code vs eb ec long)

pub returns-clause-row : goal.returns-clause-row
returns-clause-row c code l o m below line eb ei ec b there =
    let en : to_z w64 (of_z w64 c.args.values) ≡ c.args.values = search rules in
    let ez : to_z w64 (of_z w64 c.args.operand) ≡ c.args.operand = search rules in
    let r = c.args.regs.now in
    let stack = c.args.stack.now in
    let go : List Value → List Value → Run Machine = λ vs rest. AfterAll code l o m r stack below line c.args.operand vs rest in
    let taken = ap (λ z. index z o (λ n. pop_many n [] (values_of r.depth stack) o go)) (sym en) in
    let acts = c.in-Some.actuals in
    let vs = values_from stack acts.at acts.count in
    let rest = values_of acts.under stack in
    let found = taken ∙ c.in-Some.ensures.row o go in
    let k = c.in-Some-index.number in
    let counted = found ∙ some_number code l o m r stack below line c.args.operand vs rest k (c.in-Some-index.ensures ∙ ap number ez) in
    let go2 : BlockOf → ℕ → Run Machine = λ b start. InPrefixed code l o m r stack below line c.args.operand vs rest k b start in
    let b2 = c.in-Some-get.block.now in
    let start = c.in-Some-start_of.start in
    let there2 : slice_get code.blocks k ≡ Some b2 = ap (λ v. slice_get v k) eb ∙ found_at c.args.blocks.now k b2 c.in-Some-get.ensures.lookup.3.0 c.in-Some-get.ensures.lookup.1 in
    let entered = counted ∙ c.in-Some-start_of.ensures.row code eb ei ec b2 there2 o go2 in
    let long : length vs ≡ acts.count = values_long stack acts.at acts.count in
    let fill = c.supplies.ensures.yes c.if-not-supplies.false code vs eb ec long in
    let x : Ready = record { actuals = acts; block = k; start = start } in
    subst (λ b. PrefixReady b x code l o m r stack below line c.args.operand c.args.values) (same_found (slice_get code.blocks k) b2 b there2 there) (record {
      cells = fill.cells;
      filled = fill.filled;
      is = entered ∙ some_supplied code l o m r stack below line c.args.operand vs rest k b2 start fill.cells fill.is;
    })
