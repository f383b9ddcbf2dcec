use Rattle.std.proofs.Common.{ap, sym, ◌∙◌}
use Rattle.std.proofs.lemmas.List.{get_or_read}
use Rattle.sim_tree.specs.Reading.{kind_at, finish}
use Rattle.sim_expr_parser.proofs.source.kind_at_token.Goals as goal

pub returns : goal.returns
unfolding kind_at
returns c =
    let t = c.index-tokens-at in
    sym (ap (λ x. x.lexeme.kind) t.is) ∙ ap (λ x. x.lexeme.kind) (get_or_read c.args.tokens.now c.args.at t.result c.requires t.is finish)
