-- What the list of a `for` statement stands for.
use Rattle.sim_base.specs.declared.token.TokenKind.TheVariants as k
use Rattle.sim_tree.specs.Reading.{Forest, bare_leaf}
use Rattle.sim_tree.specs.ProgramDerivation.{for_elements, reference_elements}
use Rattle.sim_parser.specs.declared.elements.ForList.{ForList}
use Rattle.sim_parser.specs.declared.elements.ForList.TheVariants as for_list

abbrev pub for_list_derivation : ForList → Forest
for_list_derivation (for_list.Values sign elements) = bare_leaf sign.0 k.Assign (for_elements elements.items)
for_list_derivation (for_list.References sign elements) = bare_leaf sign.0 k.AssignReference (reference_elements elements.items)
