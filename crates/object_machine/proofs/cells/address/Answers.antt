use Rattle.std.proofs.Common.{rules, to_z, of_z, w64, ◌≡◌, ℕ, ◌∙◌, ap, sym}
use Rattle.sim_code.specs.Instances.{CellPlace}
use Rattle.sim_code.specs.Events.{when}
use Rattle.sim_code.specs.Machine.{Address, Machine, cell_at, has_cell}
use Rattle.sim_code.specs.Outcome.{Run}
use Rattle.sim_code.specs.Rows.{pushed}
use Rattle.object_machine.specs.Arrayed.{is_unqualified}
use Rattle.object_machine.specs.Standing.{Obeys, activation_at, below_of}
use Rattle.object_machine.proofs.ClassRows.{plainly_qualified}
use Rattle.object_machine.proofs.Going.{along}
use Rattle.object_machine.proofs.cells.address.Goals as goal

pub returns-clause-row : goal.returns-clause-row
unfolding Obeys
returns-clause-row c code l line p below now e before o m s =
    let elevel : to_z w64 (of_z w64 c.args.level) ≡ c.args.level = search rules in
    let ecell : to_z w64 (of_z w64 c.args.cell) ≡ c.args.cell = search rules in
    let eclass : to_z w64 (of_z w64 c.args.class) ≡ c.args.class = search rules in
    let a = activation_at c.args.regs.now c.args.stack.now in
    let go : ℕ → ℕ → ℕ → Run Machine = λ q j k. when (has_cell m j k) o (pushed o m a (below_of below) (Address (CellPlace j k q))) in
    along l line p below before now _ _ _ _ _
    (plainly_qualified code c.args.class o (λ q. cell_at m a c.args.level c.args.cell o (go q)) (ap is_unqualified (sym eclass) ∙ sym c.unqualified.ensures ∙ c.if-not-unqualified.false)
    ∙ ap (λ z. cell_at m a z c.args.cell o (go 0)) (sym elevel) ∙ ap (λ z. cell_at m a (to_z w64 (of_z w64 c.args.level)) z o (go 0)) (sym ecell))
    (c.plain_address.ensures.row l line p below now e before o m s)
