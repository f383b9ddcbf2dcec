use Rattle.std.proofs.Common.{rules, to_z, of_z, w64, ◌≡◌, ◌∷◌, ℕ, ◌∙◌, ap, sym}
use Rattle.sim_code.specs.Arrays.{finding_element}
use Rattle.sim_code.specs.Instances.{ElementPlace}
use Rattle.sim_code.specs.Machine.{Address, Machine, array_in, index, on, plain}
use Rattle.sim_code.specs.Outcome.{Run}
use Rattle.object_machine.specs.Arrayed.{is_unqualified}
use Rattle.object_machine.specs.Standing.{Obeys, activation_at, below_of}
use Rattle.object_machine.proofs.ClassRows.{plainly_qualified}
use Rattle.object_machine.proofs.Going.{along}
use Rattle.object_machine.proofs.arrays.elem.Goals as goal

pub returns-clause-row : goal.returns-clause-row
unfolding Obeys
returns-clause-row c code l line p below now e before o m s =
    let ecount : to_z w64 (of_z w64 c.args.count) ≡ c.args.count = search rules in
    let eclass : to_z w64 (of_z w64 c.args.class) ≡ c.args.class = search rules in
    let a = activation_at c.args.regs.now c.args.stack.now in
    let go : ℕ → ℕ → Run Machine = λ q n. finding_element plain array_in n line a.stack o (λ array k st. on o m a (Address (ElementPlace array k q) ∷ st) (below_of below)) in
    along l line p below before now _ _ _ _ _
    (plainly_qualified code c.args.class o (λ q. index c.args.count o (go q)) (ap is_unqualified (sym eclass) ∙ sym c.unqualified.ensures ∙ c.if-not-unqualified.false) ∙ ap (λ z. index z o (go 0)) (sym ecount))
    (c.element_address.ensures.row l line p below now e before o m s)
