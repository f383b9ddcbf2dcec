use Rattle.std.proofs.Common.{◌≡◌, List, [], ◌∷◌, refl, rules}
use Rattle.sim_tree.specs.declared.stmt.ForElement.{ForElement}
use Rattle.sim_tree.specs.Grammar as g
use Rattle.sim_tree.specs.Grammar.{Of, Once}
use Rattle.sim_tree.specs.Reading.{done, node}
use Rattle.sim_tree.specs.ProgramDerivation.{for_element_derivation, for_elements}
use Rattle.sim_parser.specs.CommaLists.{listed_with}
use Rattle.sim_parser.proofs.ListSteps.{item-part, items-all}
use Rattle.sim_parser.proofs.elements.for_elements.Goals as goal

same : (xs : List ForElement) → listed_with (λ x. node g.ForElement (for_element_derivation x)) g.NextForElement xs done ≡ for_elements xs
same [] = refl
same (x ∷ xs) = refl

pub returns : goal.returns
returns c =
    let ws = c.args.source.now in
    items-all ws c.args.depth c.args.start (Of Once g.ForElement) g.NextForElement (λ x. node g.ForElement (for_element_derivation x)) (λ v. for_elements v.items) (λ v. same v.items) c.comma_list.result
    (c.comma_list.ensures c.args.depth (Of Once g.ForElement) g.NextForElement (λ x. node g.ForElement (for_element_derivation x)) (refl, refl) (λ j r h p. item-part ws c.args.depth j g.ForElement for_element_derivation r (search rules)))
