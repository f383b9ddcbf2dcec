use Rattle.std.proofs.Common.{◌∙◌, refl, sym, ap, arith, map}
use Rattle.std.proofs.lemmas.Bool.{eqb-true}
use Rattle.std.specs.Prelude.{vec_len}
use Rattle.sim_tree.specs.Grammar as g
use Rattle.sim_tree.specs.Reading.{node, done}
use Rattle.sim_tree.specs.Derivation.{raise, row, selector_derivation, derivation_of}
use Rattle.sim_tree.proofs.DerivationLemmas.{raise-same, raise-up, derivation-Postfix}
use Rattle.sim_expr_parser.proofs.Shapes.{selected-some, some-mapped}
use Rattle.sim_expr_parser.proofs.Steps.{no-items, some-items}
use Rattle.sim_parser.proofs.operation.operand.Goals as goal

pub returns-then-is_empty : goal.returns-then-is_empty
returns-then-is_empty c = λ h.
    let s = derivation_of c.args.primary in
    let v = c.args.selectors in
    let none = no-items v.items (sym v.ok.0 ∙ eqb-true (vec_len v) 0 (sym c.if-is_empty.ensures)) in
    raise-up 0 s (omega (arith, h)) ∙ ap (λ l. node g.Primary (raise 0 s) (row g.Selection (map selector_derivation l) done)) (sym none)

pub returns : goal.returns
returns c = λ h.
    let v = c.args.selectors in
    let some = some-items v.items (vec_len v) v.ok.0 (sym c.if-is_empty.ensures) in
    let fs = map selector_derivation v.items in
    ap (raise 1) (derivation-Postfix c.in_ok-primary.primary v ∙ selected-some (derivation_of c.in_ok-primary.primary.value) fs (some-mapped selector_derivation v.items some))
    ∙ raise-same 1 (record { level = 1; inside = node g.Primary (raise 0 (derivation_of c.in_ok-primary.primary.value)) (row g.Selection fs done) }) refl
    ∙ ap (λ e. node g.Primary (raise 0 (derivation_of e)) (row g.Selection fs done)) c.in_ok-primary.ensures.ok
