-- The texts of a program as parts of its tree.
use Rattle.std.specs.Prelude.{◌≡◌, List, [], ◌∷◌, ◌++◌, map, Option}
use Rattle.std.specs.declared.alloc.Global.{Global}
use Rattle.std.specs.declared.boxed.Box.{Box}
use Rattle.sim_scope.specs.declared.types.StandardClass.{StandardClass}
use Rattle.sim_tree.specs.declared.expr.Identifier.{Identifier}
use Rattle.sim_tree.specs.declared.program.BlockPrefix.{BlockPrefix}
use Rattle.sim_tree.specs.declared.program.Program.{Program as ProgramTree}
use Rattle.sim_tree.specs.declared.stmt.Block.{Block as BlockTree}
use Rattle.sim_tree.specs.declared.stmt.Class.{Class}
use Rattle.sim_tree.specs.declared.stmt.Decl.{Decl}
use Rattle.sim_tree.specs.declared.stmt.Stmt.{Stmt}
use Rattle.sim_tree.specs.declared.stmt.When.{When}
use Rattle.sim_tree.specs.Syntax.{Also, Begin, Block, Heading, NoDeclaration, NoStatement, Prefix}
use Rattle.sim_tree.specs.SyntaxOfProgram.{arm_syntax, block_syntax, branch_syntax, class_syntax, declaration_syntax, heading_syntax, prefix_syntax, program_syntax, statement_syntax}
use Rattle.sim_meaning.specs.Texts.{BlockText, ClassText, ConnectionText, PrefixedText, ProcedureText, StandardText, Text, block_texts, declaration_texts, declarations_texts, prefix_texts, prefixed_texts, program_texts, statement_texts, statements_texts}
use Rattle.program_texts.specs.declared.tree.TextTree.{TextTree}
use Rattle.program_texts.specs.declared.tree.TextTree.TheVariants as tree

-- ---- one text

abbrev pub block_text : Block → Text
block_text (Begin token ds ss end) = BlockText token ds ss

abbrev pub prefixed_text : Prefix → Block → Text
prefixed_text p (Begin token ds ss end) = PrefixedText p.class p.arguments ds ss

abbrev pub class_text : Option Identifier → Heading → Block → Text
class_text prefix h (Begin token ds ss end) = ClassText prefix h ds ss

abbrev pub heading_of : Class → Heading
heading_of c = heading_syntax c.name c.parameters.items c.modes.items c.specifications.items

-- the text that a part of the tree is
abbrev pub text_in : TextTree → Text
text_in (tree.Block b) = block_text (block_syntax b.now)
text_in (tree.Procedure result p) = ProcedureText result.now (heading_syntax p.now.name p.now.parameters.items p.now.modes.items p.now.specifications.items) (statement_syntax p.now.body.value)
text_in (tree.Class prefix c b) = class_text prefix.now (heading_of c.now) (block_syntax b.now)
text_in (tree.ClassOfStatement prefix c) = ClassText prefix.now (heading_of c.now) NoDeclaration (Also (statement_syntax c.now.body.value) NoStatement)
text_in (tree.Prefixed p b) = prefixed_text (prefix_syntax p.now) (block_syntax b.now)
text_in tree.Connection = ConnectionText
text_in (tree.Standard which) = StandardText which

-- the parts of the tree are the texts of the program
unfoldable pub AreTexts : ProgramTree → List TextTree → Type 0
AreTexts p ts = map text_in ts ≡ program_texts (program_syntax p).prefix (program_syntax p).block

-- ---- texts behind texts

-- behind old there are these texts
unfoldable pub Lists : (old new : List TextTree) → List Text → Type 0
Lists old new xs = map text_in new ≡ map text_in old ++ xs

unfoldable pub of_statement : Stmt → List Text
of_statement x = statement_texts (statement_syntax x)

unfoldable pub of_branch : Option (Box Stmt Global) → List Text
of_branch x = statements_texts (branch_syntax x)

unfoldable pub of_arm : When → List Text
of_arm w = ConnectionText ∷ statement_texts (arm_syntax w).body

unfoldable pub of_block : BlockTree → List Text
of_block b = block_texts (block_syntax b)

abbrev pub inside_texts : Block → List Text
inside_texts (Begin token ds ss end) = declarations_texts ds ++ statements_texts ss

unfoldable pub of_inside : BlockTree → List Text
of_inside b = inside_texts (block_syntax b)

unfoldable pub of_prefixed : BlockPrefix → BlockTree → List Text
of_prefixed p b = prefixed_texts (prefix_syntax p).class (prefix_syntax p).arguments (block_syntax b)

-- a class that is declared by a standard prefix
unfoldable pub of_standard : StandardClass → List Text
of_standard which = StandardText which ∷ []

unfoldable pub of_declaration : Decl → List Text
of_declaration d = declaration_texts (declaration_syntax d)

unfoldable pub of_class : Option Identifier → Class → List Text
of_class prefix c = declaration_texts (class_syntax c prefix 0)

-- a class whose body is this block, without what stands inside; and one whose body is another statement
unfoldable pub of_class_head : Option Identifier → Class → BlockTree → List Text
of_class_head prefix c b = class_text prefix (heading_of c) (block_syntax b) ∷ prefix_texts prefix

unfoldable pub of_class_statement : Option Identifier → Class → List Text
of_class_statement prefix c =
    let a = statement_syntax c.body.value in
    ClassText prefix (heading_of c) NoDeclaration (Also a NoStatement) ∷ (prefix_texts prefix ++ statement_texts a)
