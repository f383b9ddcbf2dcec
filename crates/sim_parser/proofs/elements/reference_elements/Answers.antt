use Rattle.std.proofs.Common.{◌≡◌, List, [], ◌∷◌, refl, rules}
use Rattle.sim_tree.specs.declared.stmt.ReferenceElement.{ReferenceElement}
use Rattle.sim_tree.specs.Grammar as g
use Rattle.sim_tree.specs.Grammar.{Of, Once}
use Rattle.sim_tree.specs.Reading.{done, node}
use Rattle.sim_tree.specs.ProgramDerivation.{reference_element_derivation, reference_elements}
use Rattle.sim_parser.specs.CommaLists.{listed_with}
use Rattle.sim_parser.proofs.ListSteps.{item-part, items-all}
use Rattle.sim_parser.proofs.elements.reference_elements.Goals as goal

same : (xs : List ReferenceElement) → listed_with (λ x. node g.ReferenceElement (reference_element_derivation x)) g.NextReferenceElement xs done ≡ reference_elements xs
same [] = refl
same (x ∷ xs) = refl

pub returns : goal.returns
returns c =
    let ws = c.args.source.now in
    items-all ws c.args.depth c.args.start (Of Once g.ReferenceElement) g.NextReferenceElement (λ x. node g.ReferenceElement (reference_element_derivation x)) (λ v. reference_elements v.items) (λ v. same v.items) c.comma_list.result
    (c.comma_list.ensures c.args.depth (Of Once g.ReferenceElement) g.NextReferenceElement (λ x. node g.ReferenceElement (reference_element_derivation x)) (refl, refl) (λ j r h p. item-part ws c.args.depth j g.ReferenceElement reference_element_derivation r (search rules)))
