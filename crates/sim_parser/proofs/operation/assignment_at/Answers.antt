use Rattle.std.proofs.Common.{refl}
use Rattle.sim_base.specs.declared.token.TokenKind.TheVariants as k
use Rattle.sim_tree.specs.Grammar.{is, assignments}
use Rattle.sim_expr_parser.proofs.Tokens.{took}
use Rattle.sim_parser.proofs.operation.assignment_at.Goals as goal

pub returns-in-Some : goal.returns-in-Some
unfolding is
returns-in-Some c = took c.args.source.now c.args.at c.in-Some.next assignments k.Assign refl refl c.in-Some.ensures

pub returns : goal.returns
unfolding is
returns c = took c.args.source.now c.args.at c.in_ok-next.next assignments k.AssignReference refl refl c.in_ok-next.ensures
