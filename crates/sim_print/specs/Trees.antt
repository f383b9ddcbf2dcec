-- The tokens of the parts of a tree.
use Rattle.std.specs.Prelude.{List, [], ◌∷◌, ◌++◌, map, Option, option_map}
use Rattle.std.specs.declared.alloc.Global.{Global}
use Rattle.std.specs.declared.boxed.Box.{Box}
use Rattle.sim_base.specs.declared.numbering.TokenNo.{TokenNo}
use Rattle.sim_base.specs.declared.token.Lexeme.{Lexeme}
use Rattle.sim_base.specs.declared.token.TokenKind.{TokenKind}
use Rattle.sim_base.specs.declared.token.TokenKind.TheVariants as k
use Rattle.sim_tree.specs.declared.expr.Expr.{Expr}
use Rattle.sim_tree.specs.declared.expr.Factor.{Factor}
use Rattle.sim_tree.specs.declared.expr.Identifier.{Identifier}
use Rattle.sim_tree.specs.declared.expr.LeadingSign.{LeadingSign}
use Rattle.sim_tree.specs.declared.expr.Operand.{Operand}
use Rattle.sim_tree.specs.declared.expr.Selector.{Selector}
use Rattle.sim_tree.specs.declared.expr.Term.{Term}
use Rattle.sim_tree.specs.declared.program.BlockPrefix.{BlockPrefix}
use Rattle.sim_tree.specs.declared.stmt.ArraySegment.{ArraySegment}
use Rattle.sim_tree.specs.declared.stmt.Assigned.{Assigned}
use Rattle.sim_tree.specs.declared.stmt.Block.{Block}
use Rattle.sim_tree.specs.declared.stmt.Bounds.{Bounds}
use Rattle.sim_tree.specs.declared.stmt.Constant.{Constant}
use Rattle.sim_tree.specs.declared.stmt.Decl.{Decl}
use Rattle.sim_tree.specs.declared.stmt.ForElement.{ForElement}
use Rattle.sim_tree.specs.declared.stmt.ModePart.{ModePart}
use Rattle.sim_tree.specs.declared.stmt.Protection.{Protection}
use Rattle.sim_tree.specs.declared.stmt.ReferenceElement.{ReferenceElement}
use Rattle.sim_tree.specs.declared.stmt.Specification.{Specification}
use Rattle.sim_tree.specs.declared.stmt.Specifier.{Specifier}
use Rattle.sim_tree.specs.declared.stmt.Stmt.{Stmt}
use Rattle.sim_tree.specs.declared.stmt.Timing.{Timing}
use Rattle.sim_tree.specs.declared.stmt.TypeName.{TypeName}
use Rattle.sim_tree.specs.declared.stmt.Variable.{Variable}
use Rattle.sim_tree.specs.declared.stmt.VirtualSpecification.{VirtualSpecification}
use Rattle.sim_tree.specs.declared.stmt.When.{When}
use Rattle.sim_tree.specs.Derivation.{multiplication_kind, sign_kind}
use Rattle.sim_tree.specs.Syntax.{expressions}
use Rattle.sim_tree.specs.SyntaxOf.{Cast, Selection, Take, selector_syntax, syntax_of}
use Rattle.sim_tree.specs.SyntaxOfProgram.{Arm, arm_syntax, block_syntax, bound_pair_syntax, branch_syntax, declaration_syntax, element_syntax, heading_syntax, mode_syntax, number_of, prefix_syntax, protection_syntax, reference_element_syntax, right_side_syntax, schedule_syntax, segment_syntax, specification_syntax, specifier_syntax, statement_syntax, virtual_syntax}
use Rattle.sim_print.specs.Spelling.{each}
use Rattle.sim_print.specs.Tokens as t
use Rattle.sim_print.specs.Tokens.{behind_comma, name, one}

-- ---- expressions

unfoldable pub of_expr : Expr → List Lexeme
of_expr x = t.expression (syntax_of x)

abbrev pub of_operand : TokenKind → Operand → List Lexeme
of_operand kind x = one kind ++ of_expr x.operand

abbrev pub of_term : Term → List Lexeme
of_term x = one (sign_kind x.sign) ++ of_expr x.term

abbrev pub of_factor : Factor → List Lexeme
of_factor x = one (multiplication_kind x.operator) ++ of_expr x.factor

abbrev pub of_not : TokenNo → List Lexeme
of_not token = one k.Not

abbrev pub selection_tokens : Selection → List Lexeme
selection_tokens (Take token x es) = one k.Dot ++ (name x ++ t.actuals es)
selection_tokens (Cast token class) = one k.Qua ++ name class

unfoldable pub of_selector : Selector → List Lexeme
of_selector x = selection_tokens (selector_syntax x)

unfoldable pub of_actuals : List Expr → List Lexeme
of_actuals xs = t.actuals (expressions (map syntax_of xs))

-- ---- parts of declarations

unfoldable pub of_type : TypeName → List Lexeme
of_type x = t.type_tokens x

unfoldable pub of_result : Option TypeName → List Lexeme
of_result x = t.result_tokens x

unfoldable pub of_sign : Option LeadingSign → List Lexeme
of_sign x = t.sign_tokens x

unfoldable pub of_constant : Constant → List Lexeme
of_constant x = t.constant_tokens x

unfoldable pub of_variable : Variable → List Lexeme
of_variable x = t.variable_tokens x

unfoldable pub of_variables : List Variable → List Lexeme
of_variables xs = t.listed t.variable_tokens xs

unfoldable pub of_names : List Identifier → List Lexeme
of_names xs = t.names xs

unfoldable pub of_bounds : Bounds → List Lexeme
of_bounds x = t.bound_tokens (bound_pair_syntax x)

unfoldable pub of_dimensions : List Bounds → List Lexeme
of_dimensions xs = t.listed t.bound_tokens (map bound_pair_syntax xs)

unfoldable pub of_segment : ArraySegment → List Lexeme
of_segment x = t.array_tokens (segment_syntax x)

unfoldable pub of_segments : List ArraySegment → List Lexeme
of_segments xs = t.listed t.array_tokens (map segment_syntax xs)

unfoldable pub of_mode : ModePart → List Lexeme
of_mode x = t.mode_tokens (mode_syntax x)

unfoldable pub of_specifier : Specifier → List Lexeme
of_specifier x = t.specified_tokens (specifier_syntax x)

unfoldable pub of_specification : Specification → List Lexeme
of_specification x = t.specification_tokens (specification_syntax x)

unfoldable pub of_formals : List Identifier → List Lexeme
of_formals xs = t.formal_tokens xs

unfoldable pub of_heading : Identifier → List Identifier → List ModePart → List Specification → List Lexeme
of_heading x formals modes specifications = t.heading_tokens (heading_syntax x formals modes specifications)

unfoldable pub of_mark : TokenKind → Option TokenNo → List Lexeme
of_mark kind x = t.mark_tokens kind (option_map number_of x)

unfoldable pub of_protection : Protection → List Lexeme
of_protection x = t.protection_tokens (protection_syntax x)

unfoldable pub of_virtual : VirtualSpecification → List Lexeme
of_virtual x = t.virtual_tokens (virtual_syntax x)

unfoldable pub of_virtuals : List VirtualSpecification → List Lexeme
of_virtuals xs = t.virtual_part (map virtual_syntax xs)

unfoldable pub of_class_prefix : Option Identifier → List Lexeme
of_class_prefix x = t.class_prefix x

-- ---- parts of statements

unfoldable pub of_assigned : Assigned → List Lexeme
of_assigned x = t.right_side (right_side_syntax x)

unfoldable pub of_element : ForElement → List Lexeme
of_element x = t.element (element_syntax x)

unfoldable pub of_elements : List ForElement → List Lexeme
of_elements xs = t.listed t.element (map element_syntax xs)

unfoldable pub of_reference_element : ReferenceElement → List Lexeme
of_reference_element x = t.element (reference_element_syntax x)

unfoldable pub of_reference_elements : List ReferenceElement → List Lexeme
of_reference_elements xs = t.listed t.element (map reference_element_syntax xs)

unfoldable pub of_timing : Option Timing → List Lexeme
of_timing x = t.schedule (schedule_syntax x)

-- ---- statements, blocks and declarations

unfoldable pub of_statement : Stmt → List Lexeme
of_statement x = t.statement (statement_syntax x)

abbrev pub behind_semicolon : Stmt → List Lexeme
behind_semicolon x = one k.Semicolon ++ of_statement x

unfoldable pub of_statements : List Stmt → List Lexeme
of_statements [] = []
of_statements (x ∷ xs) = of_statement x ++ each behind_semicolon xs

unfoldable pub of_branch : TokenKind → Option (Box Stmt Global) → List Lexeme
of_branch kind x = t.branch kind (branch_syntax x)

abbrev pub arm_tokens : Arm → List Lexeme
arm_tokens a = one k.When ++ (name a.class ++ (one k.Do ++ t.statement a.body))

unfoldable pub of_arm : When → List Lexeme
of_arm x = arm_tokens (arm_syntax x)

unfoldable pub of_block : Block → List Lexeme
of_block x = t.block (block_syntax x)

unfoldable pub of_declaration : Decl → List Lexeme
of_declaration x = t.declaration (declaration_syntax x)

abbrev pub before_semicolon : Decl → List Lexeme
before_semicolon x = of_declaration x ++ one k.Semicolon

unfoldable pub of_prefix : BlockPrefix → List Lexeme
of_prefix x = name x.class ++ of_actuals x.arguments.items

unfoldable pub of_program_prefix : Option BlockPrefix → List Lexeme
of_program_prefix x = t.block_prefix (option_map prefix_syntax x)
