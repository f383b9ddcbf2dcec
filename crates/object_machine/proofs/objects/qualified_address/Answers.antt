use Rattle.std.proofs.Common.{rules, to_z, of_z, w64, ◌≡◌, ℕ, ◌∙◌, ap, sym}
use Rattle.std.specs.Prelude.{ℤ}
use Rattle.sim_code.specs.Events.{when}
use Rattle.sim_code.specs.Instances.{CellPlace}
use Rattle.sim_code.specs.Machine.{Address, Machine, cell_at, has_cell}
use Rattle.sim_code.specs.Outcome.{Run}
use Rattle.sim_code.specs.Rows.{pushed, qualified}
use Rattle.object_machine.specs.Standing.{Leaves, Obeys, activation_at, below_of}
use Rattle.object_machine.proofs.Going.{along, no_rule_in}
use Rattle.object_machine.proofs.objects.qualified_address.Goals as goal

pub returns-in-Class-clause-row : goal.returns-in-Class-clause-row
unfolding Obeys
returns-in-Class-clause-row c code l line p below now e e2 before o m s =
    let eclass : to_z w64 (of_z w64 c.args.class) ≡ c.args.class = search rules in
    let elevel : to_z w64 (of_z w64 c.args.level) ≡ c.args.level = search rules in
    let ecell : to_z w64 (of_z w64 c.args.cell) ≡ c.args.cell = search rules in
    let a = activation_at c.args.regs.now c.args.stack.now in
    let go : ℤ → ℤ → ℕ → Run Machine = λ y z q. cell_at m a y z o (λ j k. when (has_cell m j k) o (pushed o m a (below_of below) (Address (CellPlace j k q)))) in
    along l line p below before now _ _ _ _ _
    (ap (λ z. qualified code z o (go c.args.level c.args.cell)) (sym eclass) ∙ c.in-Class.ensures.row code e o (go c.args.level c.args.cell) ∙ ap (λ z. go z c.args.cell c.in-Class.number) (sym elevel) ∙ ap (λ z. go (to_z w64 (of_z w64 c.args.level)) z c.in-Class.number) (sym ecell))
    (c.cell_address.ensures.row l line p below now e2 before o m s)

pub returns-in-NoRule-clause-row : goal.returns-in-NoRule-clause-row
unfolding Obeys
returns-in-NoRule-clause-row c code l line p below now e e2 before o m s =
    let eclass : to_z w64 (of_z w64 c.args.class) ≡ c.args.class = search rules in
    let elevel : to_z w64 (of_z w64 c.args.level) ≡ c.args.level = search rules in
    let ecell : to_z w64 (of_z w64 c.args.cell) ≡ c.args.cell = search rules in
    let a = activation_at c.args.regs.now c.args.stack.now in
    let go : ℤ → ℤ → ℕ → Run Machine = λ y z q. cell_at m a y z o (λ j k. when (has_cell m j k) o (pushed o m a (below_of below) (Address (CellPlace j k q)))) in
    no_rule_in l line p p below before now _ _ _ _ o m s (ap (λ z. qualified code z o (go c.args.level c.args.cell)) (sym eclass) ∙ c.in-NoRule.ensures.row code e o (go c.args.level c.args.cell))

pub returns-in-Memory-clause-row : goal.returns-in-Memory-clause-row
unfolding Obeys Leaves
returns-in-Memory-clause-row c code l line p below now e e2 before o m s = tt
