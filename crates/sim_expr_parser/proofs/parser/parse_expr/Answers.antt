use Rattle.std.proofs.Common.{◌<◌, length, refl, sym, subst}
use Rattle.sim_tree.specs.Grammar as g
use Rattle.sim_tree.specs.Reading.{Fails, Unexpected, TooDeep}
use Rattle.sim_tree.specs.Claim.{Begins, IsFirstBad, one}
use Rattle.sim_tree.specs.Tree.{limit}
use Rattle.sim_tree.proofs.Completion.{begun, first_bad}
use Rattle.sim_expr_parser.specs.declared.refusal.Stop.TheVariants as stop
use Rattle.sim_expr_parser.specs.Parsing.{Stops}
use Rattle.sim_expr_parser.proofs.Ranges.{fails_within}
use Rattle.sim_expr_parser.proofs.parser.parse_expr.Goals as goal

pub token_no-requires : goal.token_no-requires
token_no-requires c =
    record {
      within = subst (λ ws. c.in-Err-Unexpected.bad < length ws) (sym c.new.ensures)
          (fails_within c.requires.source.ended (subst (λ ws. Stops ws c.args.depth (one g.Expression) c.args.at (stop.Unexpected c.in-Err-Unexpected.bad)) c.new.ensures (subst (λ z. Stops c.new.result c.args.depth (one g.Expression) c.args.at z) c.in-Err-Unexpected.field-0-is c.in-Err-Unexpected.ensures)) refl c.requires.within);
    }

pub token_no-requires-in-Err-TooDeep : goal.token_no-requires-in-Err-TooDeep
token_no-requires-in-Err-TooDeep c =
    record {
      within = subst (λ ws. c.in-Err-TooDeep.deep < length ws) (sym c.new.ensures)
          (fails_within c.requires.source.ended (subst (λ ws. Stops ws c.args.depth (one g.Expression) c.args.at (stop.TooDeep c.in-Err-TooDeep.deep)) c.new.ensures (subst (λ z. Stops c.new.result c.args.depth (one g.Expression) c.args.at z) c.in-Err-TooDeep.field-0-is c.in-Err-TooDeep.ensures)) refl c.requires.within);
    }

pub returns-in-Err-Unexpected : goal.returns-in-Err-Unexpected
returns-in-Err-Unexpected c =
    let ws = c.args.tokens.now in
    let d = c.args.depth in
    let i = c.args.at in
    let bad = c.in-Err-Unexpected.bad in
    let stops = subst (λ w. Stops w d (one g.Expression) i (stop.Unexpected bad)) c.new.ensures (subst (λ z. Stops c.new.result d (one g.Expression) i z) c.in-Err-Unexpected.field-0-is c.in-Err-Unexpected.ensures) in
    subst (λ z. Fails limit ws d (one g.Expression) i (Unexpected z) × IsFirstBad ws (one g.Expression) i z) (sym c.token_no.ensures) (stops, first_bad limit d ws g.Expression i bad stops)

pub returns-in-Err-TooDeep : goal.returns-in-Err-TooDeep
returns-in-Err-TooDeep c =
    let ws = c.args.tokens.now in
    let d = c.args.depth in
    let i = c.args.at in
    let deep = c.in-Err-TooDeep.deep in
    let stops = subst (λ w. Stops w d (one g.Expression) i (stop.TooDeep deep)) c.new.ensures (subst (λ z. Stops c.new.result d (one g.Expression) i z) c.in-Err-TooDeep.field-0-is c.in-Err-TooDeep.ensures) in
    subst (λ z. Fails limit ws d (one g.Expression) i (TooDeep z) × Begins ws (one g.Expression) i z) (sym c.token_no-in-Err-TooDeep.ensures) (stops, begun limit d ws g.Expression i (TooDeep deep) stops)
