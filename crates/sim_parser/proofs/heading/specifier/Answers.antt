use Rattle.std.proofs.Common.{refl, true}
use Rattle.sim_base.specs.declared.token.TokenKind.TheVariants as k
use Rattle.sim_tree.specs.Grammar as g
use Rattle.sim_tree.specs.Grammar.{is}
use Rattle.sim_tree.specs.Reading.{kind_at}
use Rattle.sim_tree.specs.ProgramDerivation.{specifier_derivation}
use Rattle.sim_expr_parser.proofs.Steps.{opened, to, once, kept, exit}
use Rattle.sim_expr_parser.proofs.Tables.{by_test}
use Rattle.sim_expr_parser.proofs.Tokens.{took_one}
use Rattle.sim_parser.specs.Fronts.{GivesFront, names_row}
use Rattle.sim_parser.proofs.HeadingSteps.{front, type-began, type-stops, procedure_row, typed_spec_row, spec-row, spec_procedure, spec-kind, no-spec-kind}
use Rattle.sim_parser.proofs.heading.specifier.Goals as goal

pub returns-in-Some : goal.returns-in-Some
returns-in-Some c = λ d.
    let ws = c.args.source.now in
    let i = c.args.at in
    let w = c.in-Some.ensures in
    let n = c.token_no-token.result in
    front (to (opened ws d i g.Specification procedure_row refl (by_test g.Specification (kind_at ws i) k.Procedure procedure_row w.0 spec_procedure) c.requires.within) (kept n.0 c.token_no-token.ensures (took_one ws i c.in-Some.next k.Procedure refl w)))

pub returns-in_err-element : goal.returns-in_err-element
returns-in_err-element c = λ d.
    let ws = c.args.source.now in
    let i = c.args.at in
    let e = c.in_err-element.field-0.0 in
    let r = c.from_residual in
    exit (λ r. GivesFront ws d g.Specification i specifier_derivation names_row r) r.result e r.ensures.1
    (type-stops ws d i c.requires.within c.in_default.ensures e (c.in_err-element.ensures d)).0

pub token_no-token-requires-2 : goal.token_no-token-requires-2
token_no-token-requires-2 c = record { within = (c.in_ok-element.ensures 0).within }

pub eat-requires-2-clause-within : goal.eat-requires-2-clause-within
eat-requires-2-clause-within c = (c.in_ok-element.ensures 0).within

pub returns-in-Some-eat : goal.returns-in-Some-eat
unfolding is
returns-in-Some-eat c = λ d.
    let ws = c.args.source.now in
    let i = c.args.at in
    let p = c.in_ok-element.ensures d in
    let n = c.token_no-token-2.result in
    front (to (to (opened ws d i g.Specification typed_spec_row refl (spec-row (kind_at ws i) true (is (kind_at ws i) k.Procedure) (type-began p) refl) c.requires.within) (once p))
    (spec-kind ws d c.in_ok-element.next c.in-Some-eat.end k.Array n refl refl c.in-Some-eat.ensures c.token_no-token-2.ensures p.within))

pub eat-requires-3-clause-within : goal.eat-requires-3-clause-within
eat-requires-3-clause-within c = (c.in_ok-element.ensures 0).within

pub returns-in-Some-eat-2 : goal.returns-in-Some-eat-2
unfolding is
returns-in-Some-eat-2 c = λ d.
    let ws = c.args.source.now in
    let i = c.args.at in
    let p = c.in_ok-element.ensures d in
    let n = c.token_no-token-2.result in
    front (to (to (opened ws d i g.Specification typed_spec_row refl (spec-row (kind_at ws i) true (is (kind_at ws i) k.Procedure) (type-began p) refl) c.requires.within) (once p))
    (spec-kind ws d c.in_ok-element.next c.in-Some-eat-2.end k.Procedure n refl refl c.in-Some-eat-2.ensures c.token_no-token-2.ensures p.within))

pub returns : goal.returns
returns c = λ d.
    let ws = c.args.source.now in
    let i = c.args.at in
    let p = c.in_ok-element.ensures d in
    front (to (to (opened ws d i g.Specification typed_spec_row refl (spec-row (kind_at ws i) true (is (kind_at ws i) k.Procedure) (type-began p) refl) c.requires.within) (once p))
    (no-spec-kind ws d c.in_ok-element.next c.in_default-eat.ensures c.in_default-eat-2.ensures p.within))
