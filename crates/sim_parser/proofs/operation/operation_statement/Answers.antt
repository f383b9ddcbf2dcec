use Rattle.std.proofs.Common.{◌∙◌, sym, map}
use Rattle.sim_tree.specs.Grammar as g
use Rattle.sim_tree.specs.Reading.{done}
use Rattle.sim_tree.specs.Derivation.{raise, row, derivation_of}
use Rattle.sim_tree.specs.ProgramDerivation.{assigned_derivation, statement_derivation}
use Rattle.sim_expr_parser.proofs.Steps.{exit, once, once-stops}
use Rattle.sim_parser.specs.Parsing.{GivesAll, operation_row}
use Rattle.sim_parser.proofs.Along.{along, past, all, along-stops}
use Rattle.sim_parser.proofs.OperationTables.{acted-other}
use Rattle.sim_parser.proofs.operation.operation_statement.Goals as goal

pub returns-in_err-left : goal.returns-in_err-left
returns-in_err-left c =
    let ws = c.args.source.now in
    let d = c.args.depth in
    let at = c.args.at in
    let e = c.in_err-left.field-0.0 in
    exit (λ r. GivesAll ws d operation_row at statement_derivation r) c.from_residual.result e c.from_residual.ensures.1
    (along-stops (along d at operation_row c.requires.within) e (once-stops ws d at g.Postfix e c.in_err-left.ensures))

pub returns-in_err-rest : goal.returns-in_err-rest
returns-in_err-rest c =
    let ws = c.args.source.now in
    let d = c.args.depth in
    let at = c.args.at in
    let e = c.in_err-rest.field-0.0 in
    let r = c.from_residual-in_err-rest in
    exit (λ r. GivesAll ws d operation_row at statement_derivation r) r.result e r.ensures.1
    (along-stops (past (along d at operation_row c.requires.within) (once c.in_ok-left.ensures.1)) e c.in_err-rest.ensures)

pub returns : goal.returns
returns c =
    let ws = c.args.source.now in
    let d = c.args.depth in
    let at = c.args.at in
    let left = c.in_ok-left.left in
    let assigned = row g.Assigned (map assigned_derivation c.in_ok-rest.rest.items) done in
    let w2 = past (past (along d at operation_row c.requires.within) (once c.in_ok-left.ensures.1)) c.in_ok-rest.ensures in
    all w2 _ (sym (c.operation.ensures ∙ acted-other ws d at _ (raise 1 (derivation_of left)) assigned c.in_ok-left.ensures.1 c.requires.begins))
