-- The elements of a `for` list, of either sign.
use Rattle.std.specs.Prelude.{List, map}
use Rattle.sim_tree.specs.Syntax.{Element as ElementSyntax}
use Rattle.sim_tree.specs.Syntax as syntax
use Rattle.sim_tree.specs.SyntaxOf.{syntax_of}
use Rattle.sim_tree.specs.SyntaxOfProgram.{element_syntax, reference_element_syntax}
use Rattle.codegen.specs.declared.elements.Element.{Element}
use Rattle.codegen.specs.declared.elements.Element.TheVariants as element
use Rattle.codegen.specs.declared.elements.Elements.{Elements}
use Rattle.codegen.specs.declared.elements.Elements.TheVariants as elements

abbrev pub view_syntax : Element → ElementSyntax
view_syntax (element.Once value) = syntax.Once (syntax_of value.now)
view_syntax (element.Step start token step limit) = syntax.Step (syntax_of start.now) token.0 (syntax_of step.now) (syntax_of limit.now)
view_syntax (element.While token value condition) = syntax.While (syntax_of value.now) token.0 (syntax_of condition.now)

-- all elements of a list
abbrev pub in_list : Elements → List ElementSyntax
in_list (elements.Values list) = map element_syntax list.now
in_list (elements.References list) = map reference_element_syntax list.now
