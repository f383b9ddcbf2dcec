use Rattle.std.proofs.Common.{◌∙◌, sym}
use Rattle.std.specs.Prelude.{vec_len}
use Rattle.sim_tree.proofs.StatementLemmas.{derivation-Assignment}
use Rattle.sim_expr_parser.proofs.Steps.{some-items}
use Rattle.sim_parser.proofs.OperationTables.{assigning-some}
use Rattle.sim_parser.proofs.operation.operation.Goals as goal

pub returns-else-is_empty : goal.returns-else-is_empty
returns-else-is_empty c =
    let v = c.args.rest in
    derivation-Assignment c.args.left v ∙ assigning-some c.args.left v.items (some-items v.items (vec_len v) v.ok.0 (sym c.if-is_empty.ensures))
