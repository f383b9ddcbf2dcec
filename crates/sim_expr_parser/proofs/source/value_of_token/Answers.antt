use Rattle.std.proofs.Common.{ap, sym, ◌∙◌}
use Rattle.std.proofs.lemmas.List.{get_or_read}
use Rattle.sim_base.specs.Lexeme.{value_for}
use Rattle.sim_tree.specs.Reading.{finish, kind_at, value_at}
use Rattle.sim_expr_parser.proofs.source.value_of_token.Goals as goal

pub returns : goal.returns
unfolding value_at
returns c =
    let ws = c.args.tokens.now in
    let t = c.index-tokens-at in
    ap (λ x. value_for (kind_at ws c.args.at) x.lexeme.value) (sym (get_or_read ws c.args.at t.result c.requires t.is finish) ∙ t.is)
