use Rattle.std.proofs.Common.{◌≡◌}
use Rattle.sim_base.specs.declared.token.TokenKind.TheVariants as k
use Rattle.sim_base.specs.declared.token.TokenValue.TheVariants as token_value
use Rattle.sim_tree.specs.Grammar.{just, Kept}
use Rattle.sim_tree.specs.Reading.{kind_at, value_at}
use Rattle.sim_tree.specs.Derivation.{identifier}
use Rattle.sim_tree.proofs.Completion.{is_same}
use Rattle.sim_expr_parser.specs.Parsing.{GivesTo}
use Rattle.sim_expr_parser.proofs.Tokens.{took_valued}
use Rattle.sim_expr_parser.proofs.Tables.{just_is}
use Rattle.sim_expr_parser.proofs.Steps.{exit, kept, kept-stops}
use Rattle.sim_expr_parser.proofs.source.Source.identifier_at.Goals as goal

pub returns-in_err-next : goal.returns-in_err-next
returns-in_err-next c = λ d.
    exit (λ r. GivesTo c.args.self.now d (Kept (just k.Identifier)) c.args.at identifier r) c.from_residual.result c.in_err-next.field-0.0 c.from_residual.ensures.1
    (kept-stops c.args.self.now d c.args.at (just k.Identifier) c.in_err-next.field-0.0 (just_is _ _ _ c.in_err-next.ensures.0) c.in_err-next.ensures.1)

pub returns : goal.returns
returns c = λ d.
    let ws = c.args.self.now in
    let i = c.args.at in
    let name = c.in_ok-name.name in
    let held : value_at ws i ≡ token_value.Bytes name = c.in_ok-name.ensures.name (is_same (kind_at ws i) k.Identifier c.in_ok-next.ensures.0) in
    kept c.token_no-token.result.0 c.token_no-token.ensures (took_valued ws i c.in_ok-next.next k.Identifier (token_value.Bytes name) held c.in_ok-next.ensures)
