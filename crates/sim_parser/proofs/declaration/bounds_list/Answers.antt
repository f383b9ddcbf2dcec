use Rattle.std.proofs.Common.{refl, rules}
use Rattle.sim_tree.specs.Grammar as g
use Rattle.sim_tree.specs.Grammar.{Of, Once}
use Rattle.sim_tree.specs.Reading.{node}
use Rattle.sim_tree.specs.ProgramDerivation.{bounds_derivation}
use Rattle.sim_parser.proofs.ListSteps.{item-part}
use Rattle.sim_parser.proofs.declaration.bounds_list.Goals as goal

pub returns : goal.returns
returns c =
    c.comma_list.ensures c.args.depth (Of Once g.Bounds) g.NextBounds (λ x. node g.Bounds (bounds_derivation x)) (refl, refl) (λ j r h p. item-part c.args.source.now c.args.depth j g.Bounds bounds_derivation r (search rules))
