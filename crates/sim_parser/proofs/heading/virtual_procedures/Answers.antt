use Rattle.std.proofs.Common.{arith, [], refl}
use Rattle.sim_base.specs.declared.token.TokenKind.TheVariants as k
use Rattle.sim_tree.specs.Grammar as g
use Rattle.sim_tree.specs.Grammar.{Once, just}
use Rattle.sim_tree.specs.ProgramDerivation.{virtual_derivation}
use Rattle.sim_expr_parser.proofs.Steps.{exit, kept, kept-stops, once, once-stops, marked, mark-stops}
use Rattle.sim_expr_parser.proofs.Tables.{just_is}
use Rattle.sim_expr_parser.proofs.Tokens.{took_one}
use Rattle.sim_parser.specs.Parsing.{GivesPart}
use Rattle.sim_parser.specs.Fronts.{names_row}
use Rattle.sim_parser.proofs.Along.{all, along, along-stops, past}
use Rattle.sim_parser.proofs.HeadingSteps.{procedure_row}
use Rattle.sim_parser.proofs.heading.virtual_procedures.Goals as goal

pub returns-in_err-result-clause-gives : goal.returns-in_err-result-clause-gives
returns-in_err-result-clause-gives c = λ d.
    let r = c.from_residual in
    exit (λ r. GivesPart c.args.source.now d g.VirtualSpecification c.args.at virtual_derivation r) r.result c.in_err-result.field-0.0 r.ensures.1
    (c.in_err-result.ensures d)

pub token_no-token-requires : goal.token_no-token-requires
token_no-token-requires c = record { within = (c.in_ok-result.ensures 0).within }

pub expect-requires-clause-within : goal.expect-requires-clause-within
expect-requires-clause-within c = (c.in_ok-result.ensures 0).within

pub returns-in_err-next-clause-gives : goal.returns-in_err-next-clause-gives
returns-in_err-next-clause-gives c = λ d.
    let ws = c.args.source.now in
    let e = c.in_err-next.field-0.0 in
    let r = c.from_residual-in_err-next in
    let h = c.in_err-next.ensures in
    exit (λ r. GivesPart ws d g.VirtualSpecification c.args.at virtual_derivation r) r.result e r.ensures.1
    ((c.in_ok-result.ensures d).fails e (kept-stops ws d c.in_ok-result.next (just k.Procedure) e (just_is _ _ _ h.0) h.1 names_row) [] Once)

pub returns-in_err-names-clause-gives : goal.returns-in_err-names-clause-gives
returns-in_err-names-clause-gives c = λ d.
    let ws = c.args.source.now in
    let e = c.in_err-names.field-0.0 in
    let r = c.from_residual-in_err-names in
    let q = c.in_ok-result.ensures d in
    let n = c.token_no-token.result in
    let b1 = past (along d c.in_ok-result.next procedure_row q.within) (kept n.0 c.token_no-token.ensures (took_one ws c.in_ok-result.next c.in_ok-next.next k.Procedure refl c.in_ok-next.ensures)) in
    exit (λ r. GivesPart ws d g.VirtualSpecification c.args.at virtual_derivation r) r.result e r.ensures.1
    (q.fails e (along-stops b1 e (once-stops ws d c.in_ok-next.next g.Identifiers e (c.in_err-names.ensures d))) [] Once)

pub expect-requires-2-clause-within : goal.expect-requires-2-clause-within
expect-requires-2-clause-within c = (c.in_ok-names.ensures 0).within

pub returns-in_err-end-clause-gives : goal.returns-in_err-end-clause-gives
returns-in_err-end-clause-gives c = λ d.
    let ws = c.args.source.now in
    let e = c.in_err-end.field-0.0 in
    let r = c.from_residual-in_err-end in
    let q = c.in_ok-result.ensures d in
    let n = c.token_no-token.result in
    let b1 = past (along d c.in_ok-result.next procedure_row q.within) (kept n.0 c.token_no-token.ensures (took_one ws c.in_ok-result.next c.in_ok-next.next k.Procedure refl c.in_ok-next.ensures)) in
    exit (λ r. GivesPart ws d g.VirtualSpecification c.args.at virtual_derivation r) r.result e r.ensures.1
    (q.fails e (along-stops (past b1 (once (c.in_ok-names.ensures d))) e (mark-stops ws d c.in_ok-names.next k.Semicolon e c.in_err-end.ensures)) [] Once)

pub returns-clause-gives : goal.returns-clause-gives
returns-clause-gives c = λ d.
    let ws = c.args.source.now in
    let q = c.in_ok-result.ensures d in
    let n = c.token_no-token.result in
    let b1 = past (along d c.in_ok-result.next procedure_row q.within) (kept n.0 c.token_no-token.ensures (took_one ws c.in_ok-result.next c.in_ok-next.next k.Procedure refl c.in_ok-next.ensures)) in
    q.reads _ _ (all (past (past b1 (once (c.in_ok-names.ensures d))) (marked c.in_ok-end.ensures)) _ refl)

pub returns-clause-ahead : goal.returns-clause-ahead
returns-clause-ahead c = omega (arith, (c.in_ok-result.ensures 0).ahead, c.in_ok-next.ensures.1, (c.in_ok-names.ensures 0).ahead, c.in_ok-end.ensures.1)
