use Rattle.std.proofs.Common.{refl}
use Rattle.sim_base.specs.declared.token.TokenKind.TheVariants as k
use Rattle.sim_tree.specs.Grammar.{is}
use Rattle.sim_expr_parser.specs.Parsing.{multiplications}
use Rattle.sim_expr_parser.proofs.Tokens.{took}
use Rattle.sim_expr_parser.proofs.signs.multiplication_at.Goals as goal

pub returns-in-Some : goal.returns-in-Some
unfolding is
returns-in-Some c = took c.args.source.now c.args.at c.in-Some.next multiplications k.Times refl refl c.in-Some.ensures

pub returns : goal.returns
unfolding is
returns c = took c.args.source.now c.args.at c.in_ok-next.next multiplications k.Divide refl refl c.in_ok-next.ensures
