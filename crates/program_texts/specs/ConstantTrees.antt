-- The text constants of a program as parts of its tree.
use Rattle.std.specs.Prelude.{◌≡◌, ℕ, List, [], ◌∷◌, ◌++◌, map, Option, Some, None}
use Rattle.std.specs.declared.alloc.Global.{Global}
use Rattle.std.specs.declared.boxed.Box.{Box}
use Rattle.sim_tree.specs.declared.expr.Expr.{Expr}
use Rattle.sim_tree.specs.declared.expr.Factor.{Factor}
use Rattle.sim_tree.specs.declared.expr.Operand.{Operand}
use Rattle.sim_tree.specs.declared.expr.Selector.{Selector}
use Rattle.sim_tree.specs.declared.expr.Term.{Term}
use Rattle.sim_tree.specs.declared.program.Program.{Program as ProgramTree}
use Rattle.sim_tree.specs.declared.stmt.ArraySegment.{ArraySegment}
use Rattle.sim_tree.specs.declared.stmt.Assigned.{Assigned}
use Rattle.sim_tree.specs.declared.stmt.Block.{Block as BlockTree}
use Rattle.sim_tree.specs.declared.stmt.Bounds.{Bounds}
use Rattle.sim_tree.specs.declared.stmt.Decl.{Decl}
use Rattle.sim_tree.specs.declared.stmt.ForElement.{ForElement}
use Rattle.sim_tree.specs.declared.stmt.ReferenceElement.{ReferenceElement}
use Rattle.sim_tree.specs.declared.stmt.Stmt.{Stmt}
use Rattle.sim_tree.specs.declared.stmt.Timing.{Timing}
use Rattle.sim_tree.specs.declared.stmt.Variable.{Variable}
use Rattle.sim_tree.specs.declared.stmt.When.{When}
use Rattle.sim_tree.specs.Syntax.{Program}
use Rattle.sim_tree.specs.SyntaxOf.{Cast, Selection, Take, selector_syntax, syntax_of}
use Rattle.sim_tree.specs.SyntaxOfProgram.{arm_syntax, block_syntax, branch_syntax, declaration_syntax, element_syntax, program_syntax, reference_element_syntax, schedule_syntax, statement_syntax}
use Rattle.sim_scope.specs.Runs.{each}
use Rattle.sim_meaning.specs.Constants.{TextConstant, block_constants, declaration_constants, element_constants, expression_constants, expressions_constants, prefix_constants, schedule_constants, statement_constants, statements_constants, value_constants}
use Rattle.program_texts.specs.declared.constants.ConstantTree.{ConstantTree}

-- the text constant that a part of the tree is
abbrev pub constant_in : ConstantTree → TextConstant
constant_in c = record { token = c.token.0; bytes = c.value.now }

abbrev pub program_constants : Program → List TextConstant
program_constants p = prefix_constants p.prefix ++ block_constants p.block

-- the parts of the tree are the text constants of the program
unfoldable pub AreConstants : ProgramTree → List ConstantTree → Type 0
AreConstants p cs = map constant_in cs ≡ program_constants (program_syntax p)

-- behind old there are these constants
unfoldable pub Adds : (old new : List ConstantTree) → List TextConstant → Type 0
Adds old new xs = map constant_in new ≡ map constant_in old ++ xs

-- ---- of the parts of expressions

unfoldable pub of_expr : Expr → List TextConstant
of_expr x = expression_constants (syntax_of x)

abbrev pub of_operand : Operand → List TextConstant
of_operand x = of_expr x.operand

abbrev pub of_term : Term → List TextConstant
of_term x = of_expr x.term

abbrev pub of_factor : Factor → List TextConstant
of_factor x = of_expr x.factor

abbrev pub selection_constants : Selection → List TextConstant
selection_constants (Take token name es) = expressions_constants es
selection_constants (Cast token class) = []

unfoldable pub of_selector : Selector → List TextConstant
of_selector x = selection_constants (selector_syntax x)

-- ---- of the parts of statements and declarations

abbrev pub of_assigned : Assigned → List TextConstant
of_assigned x = of_expr x.value

unfoldable pub of_element : ForElement → List TextConstant
of_element x = element_constants (element_syntax x)

unfoldable pub of_reference_element : ReferenceElement → List TextConstant
of_reference_element x = element_constants (reference_element_syntax x)

unfoldable pub of_timing : Option Timing → List TextConstant
of_timing x = schedule_constants (schedule_syntax x)

unfoldable pub of_variable : Variable → List TextConstant
of_variable x = value_constants x.value

abbrev pub of_bounds : Bounds → List TextConstant
of_bounds x = of_expr x.lower ++ of_expr x.upper

abbrev pub of_segment : ArraySegment → List TextConstant
of_segment x = each of_bounds x.bounds.items

unfoldable pub of_statement : Stmt → List TextConstant
of_statement x = statement_constants (statement_syntax x)

unfoldable pub of_branch : Option (Box Stmt Global) → List TextConstant
of_branch x = statements_constants (branch_syntax x)

unfoldable pub of_arm : When → List TextConstant
of_arm w = statement_constants (arm_syntax w).body

unfoldable pub of_block : BlockTree → List TextConstant
of_block b = block_constants (block_syntax b)

unfoldable pub of_declaration : Decl → List TextConstant
of_declaration d = declaration_constants (declaration_syntax d)
