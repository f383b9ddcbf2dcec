use Rattle.std.proofs.Common.{Ok, false, rules}
use Rattle.sim_tree.specs.Grammar as g
use Rattle.sim_tree.specs.ProgramDerivation.{specification_derivation}
use Rattle.sim_parser.specs.Parsing.{PartAt}
use Rattle.sim_parser.proofs.HeadingSteps.{begins-neither, begins-spec, spec-row}
use Rattle.sim_parser.proofs.heading.specifications.Goals as goal

pub returns : goal.returns
returns c = λ d. c.specified_list.ensures d g.Specification specification_derivation (λ a. (begins-spec a, λ h. let b = begins-neither a h in spec-row a false false b.0 b.1)) (λ i r h p. let here : PartAt c.args.source.now g.Specification specification_derivation i r = search rules in here.each d)

pub specified_list-requires-clause-reader : goal.specified_list-requires-clause-reader
specified_list-requires-clause-reader c = record {
  callable = λ i h. search rules;
  ahead = λ i x j h p. let here : PartAt c.args.source.now g.Specification specification_derivation i (Ok (x, j)) = search rules in ((here.each 0).ahead, (here.each 0).within);
}
