use Rattle.std.proofs.Common.{◌∙◌, sym, ap}
use Rattle.sim_tree.specs.Reading.{bare_leaf}
use Rattle.sim_tree.specs.ProgramDerivation.{activation_kind, expr, statement_derivation, timing_derivation}
use Rattle.sim_tree.proofs.StatementLemmas.{derivation-Activation}
use Rattle.sim_expr_parser.proofs.Steps.{exit, once}
use Rattle.sim_parser.specs.Parsing.{GivesAll, activation_row}
use Rattle.sim_parser.proofs.Exits.{here_part, out, past_part, past_to, rest}
use Rattle.sim_parser.proofs.Along.{along, past, left, along-stops}
use Rattle.sim_parser.proofs.operation.activation_statement.Goals as goal

pub returns-in_err-activation : goal.returns-in_err-activation
returns-in_err-activation c =
    let ws = c.args.source.now in
    let d = c.args.depth in
    let at = c.args.at in
    let w0 = along d at activation_row c.requires.within in
    let e = c.in_err-activation.field-0.0 in
    exit (λ r. GivesAll ws d activation_row at statement_derivation r) c.from_residual.result e c.from_residual.ensures.1
    (along-stops w0 e (c.in_err-activation.ensures d))

pub expression-requires-clause-within : goal.expression-requires-clause-within
expression-requires-clause-within c = (c.in_ok-activation.ensures c.args.depth).within

pub returns-in_err-process : goal.returns-in_err-process
returns-in_err-process c =
    let r = c.from_residual-in_err-process in
    out c.args.source.now c.args.depth activation_row c.args.at statement_derivation r.result c.in_err-process.field-0.0 r.ensures.1
    (past_to (c.in_ok-activation.ensures c.args.depth) (here_part c.in_err-process.ensures))

pub returns-in_err-timing : goal.returns-in_err-timing
returns-in_err-timing c =
    let r = c.from_residual-in_err-timing in
    out c.args.source.now c.args.depth activation_row c.args.at statement_derivation r.result c.in_err-timing.field-0.0 r.ensures.1
    (past_to (c.in_ok-activation.ensures c.args.depth) (past_part c.in_ok-process.ensures.1 (rest c.in_err-timing.ensures)))

pub returns : goal.returns
returns c =
    let d = c.args.depth in
    let at = c.args.at in
    let n = c.token_no-token.result in
    let word = c.in_ok-activation.activation in
    let process = c.in_ok-process.process in
    let time = c.in_ok-timing.timing in
    let w2 = past (past (along d at activation_row c.requires.within) (c.in_ok-activation.ensures d)) (once c.in_ok-process.ensures.1) in
    left w2 (timing_derivation time) c.in_ok-timing.ensures _
    (ap (λ i. bare_leaf i (activation_kind word) (expr process (timing_derivation time))) (sym c.token_no-token.ensures) ∙ sym (derivation-Activation n word process time))
