use Rattle.std.proofs.Common.{◌≡◌, Ok, List, [], ◌∷◌, refl, rules}
use Rattle.sim_tree.specs.declared.expr.Identifier.{Identifier}
use Rattle.sim_base.specs.declared.token.TokenKind.TheVariants as k
use Rattle.sim_tree.specs.Grammar as g
use Rattle.sim_tree.specs.Grammar.{Of, Many, Kept, just}
use Rattle.sim_tree.specs.Reading.{done}
use Rattle.sim_tree.specs.Derivation.{identifier}
use Rattle.sim_tree.specs.ProgramDerivation.{ids}
use Rattle.sim_parser.specs.CommaLists.{ReadsAt, listed_with}
use Rattle.sim_parser.proofs.ListSteps.{items-all}
use Rattle.sim_parser.proofs.DeclarationSteps.{kept-part}
use Rattle.sim_parser.proofs.names.identifiers.Goals as goal

same : (xs : List Identifier) → listed_with identifier g.NextIdentifier xs done ≡ ids xs
same [] = refl
same (x ∷ xs) = refl

pub returns : goal.returns
returns c = λ d.
    let ws = c.args.source.now in
    let i = c.args.start in
    kept-part ws d i g.Identifiers (just k.Identifier) (Of Many g.NextIdentifier ∷ []) (λ v. ids v.items) refl refl c.requires.within c.comma_list.result
    (items-all ws d i (Kept (just k.Identifier)) g.NextIdentifier identifier (λ v. ids v.items) (λ v. same v.items) c.comma_list.result
    (c.comma_list.ensures d (Kept (just k.Identifier)) g.NextIdentifier identifier (refl, refl) (λ j r h p. let here : ReadsAt ws (Kept (just k.Identifier)) identifier j r = search rules in here.each d)))

pub comma_list-requires-clause-reader : goal.comma_list-requires-clause-reader
comma_list-requires-clause-reader c = record {
  callable = λ i h. search rules;
  ahead = λ i x j h p. let here : ReadsAt c.args.source.now (Kept (just k.Identifier)) identifier i (Ok (x, j)) = search rules in ((here.each 0).ahead, (here.each 0).within);
}
