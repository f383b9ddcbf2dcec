use Rattle.std.proofs.Common.{◌≡◌, Ok, List, [], ◌∷◌, refl, rules}
use Rattle.sim_tree.specs.declared.stmt.Variable.{Variable}
use Rattle.sim_tree.specs.Grammar as g
use Rattle.sim_tree.specs.Grammar.{Of, Once}
use Rattle.sim_tree.specs.Reading.{done, node}
use Rattle.sim_tree.specs.ProgramDerivation.{variable_derivation, variables_derivation}
use Rattle.sim_parser.specs.Parsing.{PartAt}
use Rattle.sim_parser.specs.CommaLists.{listed_with}
use Rattle.sim_parser.proofs.ListSteps.{item-part, items-all}
use Rattle.sim_parser.proofs.declaration.variables.Goals as goal

same : (xs : List Variable) → listed_with (λ x. node g.Variable (variable_derivation x)) g.NextVariable xs done ≡ variables_derivation xs
same [] = refl
same (x ∷ xs) = refl

pub returns : goal.returns
returns c = λ d.
    let ws = c.args.source.now in
    items-all ws d c.args.start (Of Once g.Variable) g.NextVariable (λ x. node g.Variable (variable_derivation x)) (λ v. variables_derivation v.items) (λ v. same v.items) c.comma_list.result
    (c.comma_list.ensures d (Of Once g.Variable) g.NextVariable (λ x. node g.Variable (variable_derivation x)) (refl, refl) (λ j r h p. item-part ws d j g.Variable variable_derivation r (let here : PartAt ws g.Variable variable_derivation j r = search rules in here.each d)))

pub comma_list-requires-clause-reader : goal.comma_list-requires-clause-reader
comma_list-requires-clause-reader c = record {
  callable = λ i h. search rules;
  ahead = λ i x j h p. let here : PartAt c.args.source.now g.Variable variable_derivation i (Ok (x, j)) = search rules in ((here.each 0).ahead, (here.each 0).within);
}
