use Rattle.std.proofs.Common.{Ok, false, rules}
use Rattle.sim_tree.specs.Grammar as g
use Rattle.sim_tree.specs.ProgramDerivation.{virtual_derivation}
use Rattle.sim_parser.specs.Parsing.{PartAt}
use Rattle.sim_parser.proofs.HeadingSteps.{begins-neither, begins-virtual, virtual-spec-row}
use Rattle.sim_parser.proofs.heading.virtual_list.Goals as goal

pub returns : goal.returns
returns c = λ d. c.specified_list.ensures d g.VirtualSpecification virtual_derivation (λ a. (begins-virtual a, λ h. let b = begins-neither a h in virtual-spec-row a false false b.0 b.1)) (λ i r h p. let here : PartAt c.args.source.now g.VirtualSpecification virtual_derivation i r = search rules in here.each d)

pub specified_list-requires-clause-reader : goal.specified_list-requires-clause-reader
specified_list-requires-clause-reader c = record {
  callable = λ i h. search rules;
  ahead = λ i x j h p. let here : PartAt c.args.source.now g.VirtualSpecification virtual_derivation i (Ok (x, j)) = search rules in ((here.each 0).ahead, (here.each 0).within);
}
