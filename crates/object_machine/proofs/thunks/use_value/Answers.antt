use Rattle.std.proofs.Common.{rules, to_z, of_z, w64, ◌≡◌, ℕ, ◌∙◌, ap, sym}
use Rattle.std.specs.Prelude.{ℤ}
use Rattle.sim_code.specs.Machine.{Machine, cell_at}
use Rattle.sim_code.specs.Outcome.{Run}
use Rattle.sim_code.specs.Rows.{qualified}
use Rattle.sim_code.specs.Thunks.{using_name}
use Rattle.object_machine.specs.Standing.{Leaves, Obeys, activation_at, below_of}
use Rattle.object_machine.proofs.Going.{along, no_rule_in}
use Rattle.object_machine.proofs.thunks.use_value.Goals as goal

pub returns-in-Class-clause-row : goal.returns-in-Class-clause-row
unfolding Obeys
returns-in-Class-clause-row c code line now ec et ei before o m s =
    let l = c.args.limits.now in
    let p = c.args.storage.now in
    let t = c.args.top.now in
    let below = c.args.below.now.items in
    let eclass : to_z w64 (of_z w64 c.args.class) ≡ c.args.class = search rules in
    let elevel : to_z w64 (of_z w64 c.args.level) ≡ c.args.level = search rules in
    let ecell : to_z w64 (of_z w64 c.args.cell) ≡ c.args.cell = search rules in
    let a = activation_at t.registers t.stack.items in
    let go : ℤ → ℤ → Run Machine = λ y z. cell_at m a y z o (λ j k. using_name code l o m a (below_of below) j k) in
    along l line _ _ before now _ _ _ _ _
    (ap (λ z. qualified code z o (λ q. go c.args.level c.args.cell)) (sym eclass) ∙ c.in-Class.ensures.row code ec o (λ q. go c.args.level c.args.cell) ∙ ap (λ z. go z c.args.cell) (sym elevel) ∙ ap (λ z. go (to_z w64 (of_z w64 c.args.level)) z) (sym ecell))
    (c.use_name.ensures.row code line now et ei before o m s)

pub returns-in-NoRule-clause-row : goal.returns-in-NoRule-clause-row
unfolding Obeys
returns-in-NoRule-clause-row c code line now ec et ei before o m s =
    let l = c.args.limits.now in
    let p = c.args.storage.now in
    let t = c.args.top.now in
    let below = c.args.below.now.items in
    let eclass : to_z w64 (of_z w64 c.args.class) ≡ c.args.class = search rules in
    let a = activation_at t.registers t.stack.items in
    let go : ℤ → ℤ → Run Machine = λ y z. cell_at m a y z o (λ j k. using_name code l o m a (below_of below) j k) in
    no_rule_in l line p p below before now t.registers t.registers t.stack.items t.stack.items o m s
    (ap (λ z. qualified code z o (λ q. go c.args.level c.args.cell)) (sym eclass) ∙ c.in-NoRule.ensures.row code ec o (λ q. go c.args.level c.args.cell))

pub returns-in-Memory-clause-row : goal.returns-in-Memory-clause-row
unfolding Obeys Leaves
returns-in-Memory-clause-row c code line now ec et ei before o m s = tt
