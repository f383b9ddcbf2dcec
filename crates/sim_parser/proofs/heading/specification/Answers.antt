use Rattle.std.proofs.Common.{arith, []}
use Rattle.sim_tree.specs.Grammar as g
use Rattle.sim_tree.specs.Grammar.{Once}
use Rattle.sim_tree.specs.ProgramDerivation.{specification_derivation}
use Rattle.sim_expr_parser.proofs.Steps.{exit}
use Rattle.sim_parser.specs.Parsing.{GivesPart}
use Rattle.sim_parser.proofs.HeadingSteps.{names-end, names-first-stop, names-last-stop}
use Rattle.sim_parser.proofs.heading.specification.Goals as goal

pub returns-in_err-specifier-clause-gives : goal.returns-in_err-specifier-clause-gives
returns-in_err-specifier-clause-gives c = λ d.
    let r = c.from_residual in
    exit (λ r. GivesPart c.args.source.now d g.Specification c.args.at specification_derivation r) r.result c.in_err-specifier.field-0.0 r.ensures.1
    (c.in_err-specifier.ensures d)

pub identifiers-requires : goal.identifiers-requires
identifiers-requires c = record { within = (c.in_ok-specifier.ensures 0).within }

pub returns-in_err-names-clause-gives : goal.returns-in_err-names-clause-gives
returns-in_err-names-clause-gives c = λ d.
    let ws = c.args.source.now in
    let e = c.in_err-names.field-0.0 in
    let r = c.from_residual-in_err-names in
    exit (λ r. GivesPart ws d g.Specification c.args.at specification_derivation r) r.result e r.ensures.1
    ((c.in_ok-specifier.ensures d).fails e (names-first-stop ws d c.in_ok-specifier.next e (c.in_err-names.ensures d)) [] Once)

pub expect-requires-clause-within : goal.expect-requires-clause-within
expect-requires-clause-within c = (c.in_ok-names.ensures 0).within

pub returns-in_err-end-clause-gives : goal.returns-in_err-end-clause-gives
returns-in_err-end-clause-gives c = λ d.
    let e = c.in_err-end.field-0.0 in
    let r = c.from_residual-in_err-end in
    let q = c.in_ok-specifier.ensures d in
    exit (λ r. GivesPart c.args.source.now d g.Specification c.args.at specification_derivation r) r.result e r.ensures.1
    (q.fails e (names-last-stop e q.within (c.in_ok-names.ensures d) c.in_err-end.ensures) [] Once)

pub returns-clause-gives : goal.returns-clause-gives
returns-clause-gives c = λ d.
    let q = c.in_ok-specifier.ensures d in
    q.reads _ _ (names-end c.in_ok-names.names.items q.within (c.in_ok-names.ensures d) c.in_ok-end.ensures)

pub returns-clause-ahead : goal.returns-clause-ahead
returns-clause-ahead c = omega (arith, (c.in_ok-specifier.ensures 0).ahead, (c.in_ok-names.ensures 0).ahead, c.in_ok-end.ensures.1)
