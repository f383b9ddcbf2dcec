use Rattle.std.proofs.Common.{false, refl, ◌∙◌, ap}
use Rattle.std.specs.Prelude.{◌||◌}
use Rattle.sim_base.specs.declared.token.TokenKind.TheVariants as k
use Rattle.sim_tree.specs.Grammar.{Kept, is}
use Rattle.sim_tree.specs.Reading.{kind_at, bare_leaf}
use Rattle.sim_tree.specs.ProgramDerivation.{activation_kind}
use Rattle.sim_expr_parser.specs.Parsing.{GivesTo}
use Rattle.sim_expr_parser.proofs.Tokens.{took}
use Rattle.sim_expr_parser.proofs.Steps.{exit, kept, kept-stops}
use Rattle.sim_parser.specs.Parsing.{activation_words}
use Rattle.sim_parser.proofs.operation.activation_at.Goals as goal

pub returns-in-Some : goal.returns-in-Some
unfolding is
returns-in-Some c = λ d. kept c.args.at refl (took c.args.source.now c.args.at c.in-Some.next activation_words k.Activate refl refl c.in-Some.ensures)

pub returns-in_err-next : goal.returns-in_err-next
returns-in_err-next c = λ d.
    let ws = c.args.source.now in
    let at = c.args.at in
    let e = c.in_err-next.field-0.0 in
    let none = ap (λ v. v || (is (kind_at ws at) k.Reactivate || false)) c.in_default.ensures ∙ ap (λ v. v || false) c.in_err-next.ensures.0 in
    exit (λ r. GivesTo ws d (Kept activation_words) at (λ a f. bare_leaf at (activation_kind a) f) r) c.from_residual.result e c.from_residual.ensures.1
    (kept-stops ws d at activation_words e none c.in_err-next.ensures.1)

pub returns : goal.returns
unfolding is
returns c = λ d. kept c.args.at refl (took c.args.source.now c.args.at c.in_ok-next.next activation_words k.Reactivate refl refl c.in_ok-next.ensures)
