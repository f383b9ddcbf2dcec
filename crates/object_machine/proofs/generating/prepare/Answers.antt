use Rattle.std.proofs.Common.{rules, to_z, of_z, w64, ◌≡◌, ℕ, ◌∙◌, List, length, ap, sym, arith}
use Rattle.std.specs.Prelude.{Some, slice_get}
use Rattle.sim_code.specs.Levels.{objects_of}
use Rattle.sim_code.specs.Machine.{Machine, Value}
use Rattle.sim_code.specs.Outcome.{Run}
use Rattle.frame_arena.specs.Stacks.{values_from, values_of}
use Rattle.object_machine.specs.Generating.{linked}
use Rattle.object_machine.proofs.Called.{values_long}
use Rattle.object_machine.proofs.Jumps.{found_at}
use Rattle.object_machine.proofs.Prepared.{AfterValues, InBlock, all_supplied, not_supplied}
use Rattle.object_machine.proofs.generating.prepare.Goals as goal

pub returns-in_default-clause-row : goal.returns-in_default-clause-row
returns-in_default-clause-row c code cells l o m below line eb ei ec h all =
    let ez : to_z w64 (of_z w64 c.args.class) ≡ c.args.class = search rules in
    let en : to_z w64 (of_z w64 c.args.values) ≡ c.args.values = search rules in
    let r = c.args.regs.now in
    let stack = c.args.stack.now in
    let go : List Value → List Value → ℕ → Run Machine = λ vs rest j. AfterValues code l o m r stack below line c.args.class vs rest j in
    let taken = ap (λ z. linked m z (values_of r.depth stack) o go) (sym en) in
    taken ∙ c.in_default.ensures.row cells m o go h all

pub returns-in_default-objects_of-clause-row : goal.returns-in_default-objects_of-clause-row
returns-in_default-objects_of-clause-row c code cells l o m below line eb ei ec h all =
    let ez : to_z w64 (of_z w64 c.args.class) ≡ c.args.class = search rules in
    let en : to_z w64 (of_z w64 c.args.values) ≡ c.args.values = search rules in
    let r = c.args.regs.now in
    let stack = c.args.stack.now in
    let go : List Value → List Value → ℕ → Run Machine = λ vs rest j. AfterValues code l o m r stack below line c.args.class vs rest j in
    let taken = ap (λ z. linked m z (values_of r.depth stack) o go) (sym en) in
    let acts = c.in-Some.actuals in
    let vs = values_from stack acts.at acts.count in
    let rest = values_of acts.under stack in
    let j : ℕ = acts.parent.stamp in
    let found = taken ∙ c.in-Some.ensures.row cells m o go h all in
    found ∙ ap (λ z. objects_of code z o (λ k b start. InBlock code l o m r stack below line c.args.class vs rest j k b start)) (sym ez) ∙ c.in_default-objects_of.ensures.row code eb ei ec o _

pub returns-in_default-get-clause-row : goal.returns-in_default-get-clause-row
returns-in_default-get-clause-row c code cells l o m below line eb ei ec h all = absurd (let a = c.in_default-get.ensures.lookup.3 in let b = c.in-Some-objects_of.ensures.there in omega (arith, a, b))

pub returns-then-not-supplies-clause-row : goal.returns-then-not-supplies-clause-row
returns-then-not-supplies-clause-row c code cells l o m below line eb ei ec h all =
    let ez : to_z w64 (of_z w64 c.args.class) ≡ c.args.class = search rules in
    let en : to_z w64 (of_z w64 c.args.values) ≡ c.args.values = search rules in
    let r = c.args.regs.now in
    let stack = c.args.stack.now in
    let go : List Value → List Value → ℕ → Run Machine = λ vs rest j. AfterValues code l o m r stack below line c.args.class vs rest j in
    let taken = ap (λ z. linked m z (values_of r.depth stack) o go) (sym en) in
    let acts = c.in-Some.actuals in
    let vs = values_from stack acts.at acts.count in
    let rest = values_of acts.under stack in
    let j : ℕ = acts.parent.stamp in
    let found = taken ∙ c.in-Some.ensures.row cells m o go h all in
    let x = c.in-Some-objects_of.entered in
    let b = c.in-Some-get.block.now in
    let there : slice_get code.blocks x.block ≡ Some b = ap (λ v. slice_get v x.block) eb ∙ found_at c.args.blocks.now x.block b c.in-Some-get.ensures.lookup.3.0 c.in-Some-get.ensures.lookup.1 in
    let entered = found ∙ ap (λ z. objects_of code z o (λ k b start. InBlock code l o m r stack below line c.args.class vs rest j k b start)) (sym ez) ∙ c.in-Some-objects_of.ensures.row code eb ei ec b there o (λ k b start. InBlock code l o m r stack below line c.args.class vs rest j k b start) in
    let long : length vs ≡ acts.count = values_long stack acts.at acts.count in
    entered ∙ not_supplied code l o m r stack below line c.args.class vs rest j x.block b x.start (c.supplies.ensures.no c.if-not-supplies.true code vs eb ec long)

pub returns-clause-row : goal.returns-clause-row
returns-clause-row c code cells l o m below line eb ei ec h all =
    let ez : to_z w64 (of_z w64 c.args.class) ≡ c.args.class = search rules in
    let en : to_z w64 (of_z w64 c.args.values) ≡ c.args.values = search rules in
    let r = c.args.regs.now in
    let stack = c.args.stack.now in
    let go : List Value → List Value → ℕ → Run Machine = λ vs rest j. AfterValues code l o m r stack below line c.args.class vs rest j in
    let taken = ap (λ z. linked m z (values_of r.depth stack) o go) (sym en) in
    let acts = c.in-Some.actuals in
    let vs = values_from stack acts.at acts.count in
    let rest = values_of acts.under stack in
    let j : ℕ = acts.parent.stamp in
    let found = taken ∙ c.in-Some.ensures.row cells m o go h all in
    let x = c.in-Some-objects_of.entered in
    let b = c.in-Some-get.block.now in
    let there : slice_get code.blocks x.block ≡ Some b = ap (λ v. slice_get v x.block) eb ∙ found_at c.args.blocks.now x.block b c.in-Some-get.ensures.lookup.3.0 c.in-Some-get.ensures.lookup.1 in
    let entered = found ∙ ap (λ z. objects_of code z o (λ k b start. InBlock code l o m r stack below line c.args.class vs rest j k b start)) (sym ez) ∙ c.in-Some-objects_of.ensures.row code eb ei ec b there o (λ k b start. InBlock code l o m r stack below line c.args.class vs rest j k b start) in
    let long : length vs ≡ acts.count = values_long stack acts.at acts.count in
    let fill = c.supplies.ensures.yes c.if-not-supplies.false code vs eb ec long in
    record {
      block = b;
      there = there;
      cells = fill.cells;
      filled = fill.filled;
      is = entered ∙ all_supplied code l o m r stack below line c.args.class vs rest j x.block b x.start fill.cells fill.is;
    }

pub returns-clause-leads : goal.returns-clause-leads
returns-clause-leads c cells m h all = c.in-Some.ensures.leads cells m h all
