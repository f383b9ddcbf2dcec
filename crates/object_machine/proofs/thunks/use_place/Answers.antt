use Rattle.std.proofs.Common.{rules, to_z, of_z, w64, ◌≡◌, ℕ, ◌∙◌, ap, sym}
use Rattle.std.specs.Prelude.{Bool, ℤ}
use Rattle.sim_code.specs.Events.{having}
use Rattle.sim_code.specs.Machine.{Machine, cell_at}
use Rattle.sim_code.specs.Outcome.{Run}
use Rattle.sim_code.specs.Rows.{truth_of}
use Rattle.sim_code.specs.Thunks.{using_name}
use Rattle.object_machine.specs.Standing.{Obeys, activation_at, below_of}
use Rattle.object_machine.proofs.Going.{along, no_rule_in}
use Rattle.object_machine.proofs.Having.{having_none, having_some}
use Rattle.object_machine.proofs.thunks.use_place.Goals as goal

pub returns-in_default-clause-row : goal.returns-in_default-clause-row
unfolding Obeys
returns-in_default-clause-row c code line now et ei before o m s =
    let l = c.args.limits.now in
    let p = c.args.storage.now in
    let t = c.args.top.now in
    let below = c.args.below.now.items in
    let evalue : to_z w64 (of_z w64 c.args.value_too) ≡ c.args.value_too = search rules in
    let a = activation_at t.registers t.stack.items in
    let go : Bool → Run Machine = λ b. cell_at m a c.args.level c.args.cell o (λ j k. using_name code l o m a (below_of below) j k) in
    no_rule_in l line p p below before now t.registers t.registers t.stack.items t.stack.items o m s (having_none (truth_of c.args.value_too) o go (c.in_default.ensures ∙ ap truth_of evalue))

pub returns-clause-row : goal.returns-clause-row
unfolding Obeys
returns-clause-row c code line now et ei before o m s =
    let l = c.args.limits.now in
    let p = c.args.storage.now in
    let t = c.args.top.now in
    let below = c.args.below.now.items in
    let evalue : to_z w64 (of_z w64 c.args.value_too) ≡ c.args.value_too = search rules in
    let elevel : to_z w64 (of_z w64 c.args.level) ≡ c.args.level = search rules in
    let ecell : to_z w64 (of_z w64 c.args.cell) ≡ c.args.cell = search rules in
    let a = activation_at t.registers t.stack.items in
    let uses : ℤ → ℤ → Run Machine = λ y z. cell_at m a y z o (λ j k. using_name code l o m a (below_of below) j k) in
    let go : Bool → Run Machine = λ b. uses c.args.level c.args.cell in
    along l line _ _ before now _ _ _ _ _
    (having_some (truth_of c.args.value_too) c.in-Some._either o go (c.in-Some.ensures ∙ ap truth_of evalue) ∙ ap (λ z. uses z c.args.cell) (sym elevel) ∙ ap (λ z. uses (to_z w64 (of_z w64 c.args.level)) z) (sym ecell))
    (c.use_name.ensures.row code line now et ei before o m s)
