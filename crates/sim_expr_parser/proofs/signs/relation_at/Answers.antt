use Rattle.std.proofs.Common.{◌≡◌, ◌+◌, ◌<◌, ℕ, true, List, length, refl, subst}
use Rattle.sim_base.specs.declared.token.Token.{Token}
use Rattle.sim_tree.specs.declared.expr.Relation.{Relation}
use Rattle.sim_tree.specs.declared.expr.Relation.TheVariants as relation
use Rattle.sim_tree.specs.Grammar.{is, relations}
use Rattle.sim_tree.specs.Reading.{kind_at}
use Rattle.sim_tree.specs.Derivation.{relation_kind}
use Rattle.sim_expr_parser.specs.Parsing.{TookBare}
use Rattle.sim_expr_parser.proofs.Tokens.{took}
use Rattle.sim_expr_parser.proofs.signs.relation_at.Goals as goal

took-relation : (ws : List Token) (i j : ℕ) (r : Relation) → (is (kind_at ws i) (relation_kind r) ≡ true) × (j ≡ i + 1) × (j < length ws) → TookBare ws i relations (relation_kind r) j
unfolding is
took-relation ws i j relation.Less w = took ws i j relations (relation_kind relation.Less) refl refl w
took-relation ws i j relation.LessEqual w = took ws i j relations (relation_kind relation.LessEqual) refl refl w
took-relation ws i j relation.Equal w = took ws i j relations (relation_kind relation.Equal) refl refl w
took-relation ws i j relation.GreaterEqual w = took ws i j relations (relation_kind relation.GreaterEqual) refl refl w
took-relation ws i j relation.Greater w = took ws i j relations (relation_kind relation.Greater) refl refl w
took-relation ws i j relation.NotEqual w = took ws i j relations (relation_kind relation.NotEqual) refl refl w
took-relation ws i j relation.SameReference w = took ws i j relations (relation_kind relation.SameReference) refl refl w
took-relation ws i j relation.OtherReference w = took ws i j relations (relation_kind relation.OtherReference) refl refl w

pub returns : goal.returns
returns c =
    let w = c.in_ok-eat.ensures in
    took-relation c.args.source.now c.args.at c.in_ok-eat.field-0 c.in_ok-relation.relation
    (subst (λ a. is (kind_at c.args.source.now c.args.at) a ≡ true) c.in_ok-relation.ensures w.0, w.1, w.2)
