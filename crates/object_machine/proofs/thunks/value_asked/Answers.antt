use Rattle.std.proofs.Common.{rules, to_z, of_z, w64, ◌≡◌, ℕ, sym, subst, ap, ◌∙◌}
use Rattle.std.specs.Prelude.{true, false, Some}
use Rattle.sim_code.specs.Classes.{admitting}
use Rattle.sim_code.specs.Events.{having}
use Rattle.sim_code.specs.Machine.{Machine, Value, at, pushing}
use Rattle.sim_code.specs.Outcome.{Run}
use Rattle.sim_code.specs.Rows.{qualified}
use Rattle.sim_code.specs.Thunks.{value_given}
use Rattle.frame_arena.specs.Frames.{Holds, SlotLeads}
use Rattle.frame_arena.specs.Slots.{value_of}
use Rattle.object_machine.proofs.ClassRows.{admitted, not_admitted, refused}
use Rattle.object_machine.proofs.Having.{having_none, having_some}
use Rattle.object_machine.proofs.thunks.value_asked.Goals as goal

pub returns-in-NoRule-clause-row : goal.returns-in-NoRule-clause-row
returns-in-NoRule-clause-row c code l before now o m level cell eb ec s led b rest =
    let ez : to_z w64 (of_z w64 c.args.class) ≡ c.args.class = search rules in
    let Push : Value → Run Machine = λ v. pushing b.room b.stack v o (λ stack. at o m b b.pc stack rest) in
    let F : ℕ → Value → Run Machine = λ q v. admitting code m c.args.line.0 q v o (Push v) in
    let K : ℕ → Run Machine = λ q. having (value_given o m (value_of c.args.given)) o (λ v. F q v) in
    ap (λ z. qualified code z o K) (sym ez) ∙ c.in-NoRule.ensures.row code ec o K

pub returns-in_default-clause-row : goal.returns-in_default-clause-row
returns-in_default-clause-row c code l before now o m level cell eb ec s led b rest =
    let ez : to_z w64 (of_z w64 c.args.class) ≡ c.args.class = search rules in
    let Push : Value → Run Machine = λ v. pushing b.room b.stack v o (λ stack. at o m b b.pc stack rest) in
    let F : ℕ → Value → Run Machine = λ q v. admitting code m c.args.line.0 q v o (Push v) in
    let K : ℕ → Run Machine = λ q. having (value_given o m (value_of c.args.given)) o (λ v. F q v) in
    ap (λ z. qualified code z o K) (sym ez) ∙ c.in-Class.ensures.row code ec o K ∙ having_none (value_given o m (value_of c.args.given)) o (λ v. F c.in-Class.number v) (c.in_default.ensures.row l before now o m s led)

pub returns-in-Some-true-clause-row : goal.returns-in-Some-true-clause-row
returns-in-Some-true-clause-row c code l before now o m level cell eb ec s led b rest =
    let ez : to_z w64 (of_z w64 c.args.class) ≡ c.args.class = search rules in
    let Push : Value → Run Machine = λ v. pushing b.room b.stack v o (λ stack. at o m b b.pc stack rest) in
    let F : ℕ → Value → Run Machine = λ q v. admitting code m c.args.line.0 q v o (Push v) in
    let K : ℕ → Run Machine = λ q. having (value_given o m (value_of c.args.given)) o (λ v. F q v) in
    let value = c.in-Some.value in
    let x : Value = value_of value in
    let p = c.args.storage.now in
    let is = c.in-Some.ensures.row l before now o m s led in
    let h : Holds c.deref.result.now p.cells.items m = subst (λ f. Holds f p.cells.items m) (sym c.deref.ensures.value) s.frames in
    let leads : SlotLeads c.deref.result.now m value = subst (λ f. SlotLeads f m value) (sym c.deref.ensures.value) (c.in-Some.ensures.leads l before now o m s led).0 in
    ap (λ z. qualified code z o K) (sym ez) ∙ c.in-Class.ensures.row code ec o K ∙ having_some (value_given o m (value_of c.args.given)) x o (λ v. F c.in-Class.number v) is ∙ admitted code m c.args.line.0 c.in-Class.number x c.in-Some-true.field-0 o (Push x) (c.in-Some-true.ensures.row code p.cells.items m eb ec h leads) c.in-Some-true.field-0-test

pub returns-in-Some-false-clause-row : goal.returns-in-Some-false-clause-row
returns-in-Some-false-clause-row c code l before now o m level cell eb ec s led b rest =
    let ez : to_z w64 (of_z w64 c.args.class) ≡ c.args.class = search rules in
    let Push : Value → Run Machine = λ v. pushing b.room b.stack v o (λ stack. at o m b b.pc stack rest) in
    let F : ℕ → Value → Run Machine = λ q v. admitting code m c.args.line.0 q v o (Push v) in
    let K : ℕ → Run Machine = λ q. having (value_given o m (value_of c.args.given)) o (λ v. F q v) in
    let value = c.in-Some.value in
    let x : Value = value_of value in
    let p = c.args.storage.now in
    let is = c.in-Some.ensures.row l before now o m s led in
    let h : Holds c.deref.result.now p.cells.items m = subst (λ f. Holds f p.cells.items m) (sym c.deref.ensures.value) s.frames in
    let leads : SlotLeads c.deref.result.now m value = subst (λ f. SlotLeads f m value) (sym c.deref.ensures.value) (c.in-Some.ensures.leads l before now o m s led).0 in
    ap (λ z. qualified code z o K) (sym ez) ∙ c.in-Class.ensures.row code ec o K ∙ having_some (value_given o m (value_of c.args.given)) x o (λ v. F c.in-Class.number v) is ∙ refused code m c.args.line.0 c.in-Class.number x c.in-Some-false.field-0 o (Push x) (c.in-Some-false.ensures.row code p.cells.items m eb ec h leads) c.in-Some-false.field-0-test

pub returns-in-None-clause-row : goal.returns-in-None-clause-row
returns-in-None-clause-row c code l before now o m level cell eb ec s led b rest =
    let ez : to_z w64 (of_z w64 c.args.class) ≡ c.args.class = search rules in
    let Push : Value → Run Machine = λ v. pushing b.room b.stack v o (λ stack. at o m b b.pc stack rest) in
    let F : ℕ → Value → Run Machine = λ q v. admitting code m c.args.line.0 q v o (Push v) in
    let K : ℕ → Run Machine = λ q. having (value_given o m (value_of c.args.given)) o (λ v. F q v) in
    let value = c.in-Some.value in
    let x : Value = value_of value in
    let p = c.args.storage.now in
    let is = c.in-Some.ensures.row l before now o m s led in
    let h : Holds c.deref.result.now p.cells.items m = subst (λ f. Holds f p.cells.items m) (sym c.deref.ensures.value) s.frames in
    let leads : SlotLeads c.deref.result.now m value = subst (λ f. SlotLeads f m value) (sym c.deref.ensures.value) (c.in-Some.ensures.leads l before now o m s led).0 in
    ap (λ z. qualified code z o K) (sym ez) ∙ c.in-Class.ensures.row code ec o K ∙ having_some (value_given o m (value_of c.args.given)) x o (λ v. F c.in-Class.number v) is ∙ not_admitted code m c.args.line.0 c.in-Class.number x o (Push x) (c.in-None.ensures.row code p.cells.items m eb ec h leads)

pub returns-in-Some-true-clause-leads : goal.returns-in-Some-true-clause-leads
returns-in-Some-true-clause-leads c l before now o m s led = c.in-Some.ensures.leads l before now o m s led
