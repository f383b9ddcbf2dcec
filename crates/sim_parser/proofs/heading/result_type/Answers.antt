use Rattle.std.proofs.Common.{◌≡◌, refl, sym, ap, ◌∙◌, true, false}
use Rattle.sim_base.specs.declared.token.TokenKind.TheVariants as k
use Rattle.sim_tree.specs.Grammar as g
use Rattle.sim_tree.specs.Grammar.{is}
use Rattle.sim_tree.specs.Reading.{kind_at}
use Rattle.sim_tree.specs.ProgramDerivation.{typed}
use Rattle.sim_expr_parser.proofs.Steps.{opened, to, once, exit}
use Rattle.sim_expr_parser.proofs.Tables.{by_test}
use Rattle.sim_expr_parser.proofs.Tokens.{made_is}
use Rattle.sim_parser.specs.Fronts.{GivesFront}
use Rattle.sim_parser.proofs.HeadingSteps.{front, type-began, type-stops, procedure_row, typed_virtual_row, virtual-spec-row, virtual_procedure}
use Rattle.sim_parser.proofs.heading.result_type.Goals as goal

pub returns-then-eq : goal.returns-then-eq
returns-then-eq c = λ d.
    let ws = c.args.source.now in
    let i = c.args.at in
    let h : is (kind_at ws i) k.Procedure ≡ true = ap (λ a. is a k.Procedure) (sym c.kind_at.ensures) ∙ made_is _ _ true c.if-eq.ensures in
    front (opened ws d i g.VirtualSpecification procedure_row refl (by_test g.VirtualSpecification (kind_at ws i) k.Procedure procedure_row h virtual_procedure) c.requires.within)

pub returns-in_err-result : goal.returns-in_err-result
returns-in_err-result c = λ d.
    let ws = c.args.source.now in
    let i = c.args.at in
    let e = c.in_err-result.field-0.0 in
    let r = c.from_residual in
    let plain : is (kind_at ws i) k.Procedure ≡ false = ap (λ a. is a k.Procedure) (sym c.kind_at.ensures) ∙ made_is _ _ false c.if-eq.ensures in
    exit (λ r. GivesFront ws d g.VirtualSpecification i typed procedure_row r) r.result e r.ensures.1
    (type-stops ws d i c.requires.within plain e (c.in_err-result.ensures d)).1

pub returns : goal.returns
returns c = λ d.
    let ws = c.args.source.now in
    let i = c.args.at in
    let p = c.in_ok-result.ensures d in
    front (to (opened ws d i g.VirtualSpecification typed_virtual_row refl (virtual-spec-row (kind_at ws i) true (is (kind_at ws i) k.Procedure) (type-began p) refl) c.requires.within) (once p))
