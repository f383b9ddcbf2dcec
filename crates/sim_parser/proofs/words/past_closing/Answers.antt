use Rattle.std.proofs.Common.{sym, ap, ◌∙◌, true, false}
use Rattle.sim_base.specs.declared.token.TokenKind.TheVariants as k
use Rattle.sim_tree.specs.Grammar.{is}
use Rattle.sim_expr_parser.proofs.Tokens.{not_is}
use Rattle.sim_parser.proofs.WordSteps.{closed-by-semicolon, closed-by-end, not-closed}
use Rattle.sim_parser.proofs.words.past_closing.Goals as goal

pub returns-in-Some : goal.returns-in-Some
returns-in-Some c = λ d. closed-by-semicolon c.args.source.now d c.args.at c.in-Some.next c.past_semicolons.result c.in-Some.ensures c.requires.within (c.past_semicolons.ensures d)

pub returns-then-ne : goal.returns-then-ne
returns-then-ne c = λ d. not-closed c.args.source.now d c.args.at c.in_default.ensures (ap (λ a. is a k.End) (sym c.kind_at.ensures) ∙ not_is _ _ true c.if-ne.ensures)

pub returns : goal.returns
returns c = λ d. closed-by-end c.args.source.now d c.args.at c.in_default.ensures (ap (λ a. is a k.End) (sym c.kind_at.ensures) ∙ not_is _ _ false c.if-ne.ensures) c.requires.within
