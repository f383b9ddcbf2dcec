use Rattle.std.proofs.Common.{refl, sym, subst, false, []}
use Rattle.sim_base.specs.declared.token.TokenKind.TheVariants as k
use Rattle.sim_tree.specs.Grammar as g
use Rattle.sim_tree.specs.Grammar.{Once}
use Rattle.sim_tree.specs.Reading.{kind_at, fails-part}
use Rattle.sim_tree.specs.Claim.{one}
use Rattle.sim_tree.specs.ProgramDerivation.{heading_derivation}
use Rattle.sim_expr_parser.specs.Parsing.{Stops}
use Rattle.sim_expr_parser.proofs.Steps.{opened, to, stops, stops-at, gone, exit, once, once-stops, marked, mark-stops}
use Rattle.sim_expr_parser.proofs.Tables.{by_test}
use Rattle.sim_parser.specs.Parsing.{GivesPart}
use Rattle.sim_parser.proofs.Along.{closed-by}
use Rattle.sim_parser.proofs.HeadingSteps.{heading-none, heading-some, heading-row, heading_semicolon, no_parameters_row, open-parameters}
use Rattle.sim_parser.proofs.heading.heading_at.Goals as goal

pub returns-in-Some : goal.returns-in-Some
returns-in-Some c = λ d.
    let ws = c.args.source.now in
    let i = c.args.at in
    let w = c.in-Some.ensures in
    gone (to (opened ws d i g.Heading no_parameters_row refl (by_test g.Heading (kind_at ws i) k.Semicolon no_parameters_row w.0 heading_semicolon) c.requires.within) (marked w)) _
    (heading-none c.new.result.items c.new-in-Some.result.items c.new-in-Some-2.result.items c.new.ensures.items c.new-in-Some.ensures.items c.new-in-Some-2.ensures.items)

pub returns-in_err-next : goal.returns-in_err-next
returns-in_err-next c = λ d.
    let ws = c.args.source.now in
    let i = c.args.at in
    let e = c.in_err-next.field-0.0 in
    let r = c.from_residual in
    let h = c.in_err-next.ensures in
    exit (λ r. GivesPart ws d g.Heading i (λ h. heading_derivation h.parameters.items h.modes.items h.specifications.items) r) r.result e r.ensures.1
    (subst (λ z. Stops ws d (one g.Heading) i z) (sym h.1) (fails-part (heading-row (kind_at ws i) false false h.0 c.in_default.ensures) refl))

pub returns-in_err-parameters : goal.returns-in_err-parameters
returns-in_err-parameters c = λ d.
    let ws = c.args.source.now in
    let i = c.args.at in
    let w1 = open-parameters ws d i c.in_ok-next.next c.requires.within c.in_ok-next.ensures in
    let e = c.in_err-parameters.field-0.0 in
    let r = c.from_residual-in_err-parameters in
    exit (λ r. GivesPart ws d g.Heading i (λ h. heading_derivation h.parameters.items h.modes.items h.specifications.items) r) r.result e r.ensures.1
    (stops w1 e (once-stops ws d c.in_ok-next.next g.Identifiers e (c.in_err-parameters.ensures d)))

pub expect-requires-2-clause-within : goal.expect-requires-2-clause-within
expect-requires-2-clause-within c = (c.in_ok-parameters.ensures 0).within

pub returns-in_err-next-2 : goal.returns-in_err-next-2
returns-in_err-next-2 c = λ d.
    let ws = c.args.source.now in
    let i = c.args.at in
    let w1 = open-parameters ws d i c.in_ok-next.next c.requires.within c.in_ok-next.ensures in
    let w2 = to w1 (once (c.in_ok-parameters.ensures d)) in
    let e = c.in_err-next-2.field-0.0 in
    let r = c.from_residual-in_err-next-2 in
    exit (λ r. GivesPart ws d g.Heading i (λ h. heading_derivation h.parameters.items h.modes.items h.specifications.items) r) r.result e r.ensures.1
    (stops w2 e (mark-stops ws d c.in_ok-parameters.next k.Close e c.in_err-next-2.ensures))

pub returns-in_err-next-3 : goal.returns-in_err-next-3
returns-in_err-next-3 c = λ d.
    let ws = c.args.source.now in
    let i = c.args.at in
    let w1 = open-parameters ws d i c.in_ok-next.next c.requires.within c.in_ok-next.ensures in
    let w2 = to w1 (once (c.in_ok-parameters.ensures d)) in
    let w3 = to w2 (marked c.in_ok-next-2.ensures) in
    let e = c.in_err-next-3.field-0.0 in
    let r = c.from_residual-in_err-next-3 in
    exit (λ r. GivesPart ws d g.Heading i (λ h. heading_derivation h.parameters.items h.modes.items h.specifications.items) r) r.result e r.ensures.1
    (stops w3 e (mark-stops ws d c.in_ok-next-2.next k.Semicolon e c.in_err-next-3.ensures))

pub returns-in_err-modes : goal.returns-in_err-modes
returns-in_err-modes c = λ d.
    let ws = c.args.source.now in
    let i = c.args.at in
    let w1 = open-parameters ws d i c.in_ok-next.next c.requires.within c.in_ok-next.ensures in
    let w2 = to w1 (once (c.in_ok-parameters.ensures d)) in
    let w3 = to w2 (marked c.in_ok-next-2.ensures) in
    let w4 = to w3 (marked c.in_ok-next-3.ensures) in
    let e = c.in_err-modes.field-0.0 in
    let r = c.from_residual-in_err-modes in
    exit (λ r. GivesPart ws d g.Heading i (λ h. heading_derivation h.parameters.items h.modes.items h.specifications.items) r) r.result e r.ensures.1
    (stops w4 e (c.in_err-modes.ensures d))

pub specifications-requires : goal.specifications-requires
specifications-requires c = record { within = (c.in_ok-modes.ensures 0).within }

pub returns-in_err-specifications : goal.returns-in_err-specifications
returns-in_err-specifications c = λ d.
    let ws = c.args.source.now in
    let i = c.args.at in
    let w1 = open-parameters ws d i c.in_ok-next.next c.requires.within c.in_ok-next.ensures in
    let w2 = to w1 (once (c.in_ok-parameters.ensures d)) in
    let w3 = to w2 (marked c.in_ok-next-2.ensures) in
    let w4 = to w3 (marked c.in_ok-next-3.ensures) in
    let w5 = to w4 (c.in_ok-modes.ensures d) in
    let e = c.in_err-specifications.field-0.0 in
    let r = c.from_residual-in_err-specifications in
    exit (λ r. GivesPart ws d g.Heading i (λ h. heading_derivation h.parameters.items h.modes.items h.specifications.items) r) r.result e r.ensures.1
    (stops-at Once w5 e (c.in_err-specifications.ensures d) [])

pub returns : goal.returns
returns c = λ d.
    let ws = c.args.source.now in
    let i = c.args.at in
    let w1 = open-parameters ws d i c.in_ok-next.next c.requires.within c.in_ok-next.ensures in
    let w2 = to w1 (once (c.in_ok-parameters.ensures d)) in
    let w3 = to w2 (marked c.in_ok-next-2.ensures) in
    let w4 = to w3 (marked c.in_ok-next-3.ensures) in
    let w5 = to w4 (c.in_ok-modes.ensures d) in
    let q = c.in_ok-specifications.ensures d in
    closed-by w5 _ q.1 _ (heading-some c.in_ok-parameters.parameters.items c.in_ok-modes.modes.items c.in_ok-specifications.specifications.items q.0)
