use Rattle.std.proofs.Common.{◌≡◌, List, [], ◌∷◌, refl, rules}
use Rattle.sim_tree.specs.declared.stmt.ArraySegment.{ArraySegment}
use Rattle.sim_tree.specs.Grammar as g
use Rattle.sim_tree.specs.Grammar.{Of, Once}
use Rattle.sim_tree.specs.Reading.{done, node}
use Rattle.sim_tree.specs.ProgramDerivation.{segment_derivation, segments_derivation}
use Rattle.sim_parser.specs.CommaLists.{listed_with}
use Rattle.sim_parser.proofs.ListSteps.{item-part, items-all}
use Rattle.sim_parser.proofs.declaration.segments.Goals as goal

same : (xs : List ArraySegment) → listed_with (λ x. node g.ArraySegment (segment_derivation x)) g.NextArraySegment xs done ≡ segments_derivation xs
same [] = refl
same (x ∷ xs) = refl

pub returns : goal.returns
returns c =
    let ws = c.args.source.now in
    items-all ws c.args.depth c.args.start (Of Once g.ArraySegment) g.NextArraySegment (λ x. node g.ArraySegment (segment_derivation x)) (λ v. segments_derivation v.items) (λ v. same v.items) c.comma_list.result
    (c.comma_list.ensures c.args.depth (Of Once g.ArraySegment) g.NextArraySegment (λ x. node g.ArraySegment (segment_derivation x)) (refl, refl) (λ j r h p. item-part ws c.args.depth j g.ArraySegment segment_derivation r (search rules)))
