use Rattle.std.proofs.Common.{◌≡◌, refl, ap, ◌∙◌, sym, subst, true, false}
use Rattle.sim_tree.specs.Grammar.{is}
use Rattle.sim_tree.specs.Reading.{kind_at}
use Rattle.sim_tree.specs.Tree.{IsEnded}
use Rattle.sim_expr_parser.proofs.Tokens.{made_is, next_within}
use Rattle.sim_expr_parser.proofs.source.Source.eat.Goals as goal

pub returns-then-eq : goal.returns-then-eq
returns-then-eq c =
    let h : is (kind_at c.args.self.now c.args.at) c.args.kind ≡ true = ap (λ a. is a c.args.kind) (sym (c.kind_at_token.ensures ∙ ap (λ ws. kind_at ws c.args.at) c.self.view_is)) ∙ made_is _ _ true c.if-eq.ensures in
    (h, refl, next_within c.args.self.now c.args.at c.args.kind (subst IsEnded c.self.view_is c.self.invariant.ended) c.requires.within c.requires.no_end h)

pub returns-else-eq : goal.returns-else-eq
returns-else-eq c = ap (λ a. is a c.args.kind) (sym (c.kind_at_token.ensures ∙ ap (λ ws. kind_at ws c.args.at) c.self.view_is)) ∙ made_is _ _ false c.if-eq.ensures
