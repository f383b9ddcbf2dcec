-- Where the grammar has at least one right side or element, a tree of tokens has one.
use Rattle.std.proofs.Common.{◌≡◌, ℕ, true, List, [], ◌∷◌, Option, Some, None, map}
use Rattle.std.proofs.lemmas.Bool.{false≢true}
use Rattle.sim_base.specs.declared.token.Token.{Token}
use Rattle.sim_base.specs.declared.token.TokenKind.TheVariants as k
use Rattle.sim_tree.specs.declared.expr.Expr.{Expr}
use Rattle.sim_tree.specs.declared.expr.Identifier.{Identifier}
use Rattle.sim_tree.specs.declared.program.BlockPrefix.{BlockPrefix}
use Rattle.sim_tree.specs.declared.program.Program.{Program as ProgramTree}
use Rattle.sim_tree.specs.declared.stmt.ArraySegment.{ArraySegment}
use Rattle.sim_tree.specs.declared.stmt.Assigned.{Assigned}
use Rattle.sim_tree.specs.declared.stmt.Block.{Block}
use Rattle.sim_tree.specs.declared.stmt.Bounds.{Bounds}
use Rattle.sim_tree.specs.declared.stmt.Decl.{Decl}
use Rattle.sim_tree.specs.declared.stmt.Decl.TheOpen.{Stmt-F, Decl-F}
use Rattle.sim_tree.specs.declared.stmt.ForElement.{ForElement}
use Rattle.sim_tree.specs.declared.stmt.ReferenceElement.{ReferenceElement}
use Rattle.sim_tree.specs.declared.stmt.Stmt.{Stmt}
use Rattle.sim_tree.specs.declared.stmt.TypeName.{TypeName}
use Rattle.sim_tree.specs.declared.stmt.VirtualSpecification.{VirtualSpecification}
use Rattle.sim_tree.specs.declared.stmt.When.{When}
use Rattle.sim_tree.specs.Filled.{Filled, FilledArms, FilledBlock, FilledDeclaration, FilledDeclarations, FilledSegments, FilledStatement, FilledStatements, SomeBounds, SomeElement, SomeIdentifier, SomeSide}
use Rattle.sim_tree.specs.Grammar as g
use Rattle.sim_tree.specs.Nesting.{has_token}
use Rattle.sim_tree.specs.Reading.{Forest, done, node, place, bare_leaf}
use Rattle.sim_tree.specs.Derivation.{Derivation, arguments, row, derivation_of}
use Rattle.sim_tree.specs.ProgramDerivation as d
use Rattle.sim_tree.specs.ProgramDerivation.{Declared, Plain, Prefixed, block_derivation, contents, declaration_derivation, next_statement, program_derivation, statement_derivation, when_derivation}
use Rattle.sim_tree.specs.Syntax.{Block as BlockSyntax}
use Rattle.sim_tree.specs.Syntax.{Declaration, Statement, declarations, statements}
use Rattle.sim_tree.specs.SyntaxOfProgram as t
use Rattle.sim_tree.specs.SyntaxOfProgram.{Arm, Classed, Headed, arm_syntax, arms, block_syntax, declaration_syntax, program_syntax, statement_syntax}
use Rattle.sim_tree.specs.Tree.{IsTree}
use Rattle.sim_tree.proofs.Full.{reads_full}
use Rattle.sim_tree.proofs.Induction as induction
use Rattle.sim_tree.proofs.Order.{begun_full}
use Rattle.sim_tree.proofs.ReadExpressions.{Full, is_full-Full}

-- The claims of derivations.
abbrev Says : Forest → Statement → Type 0
Says f e = has_token g.Statement f ≡ true → Full f → FilledStatement e

abbrev Declares : Declared → Declaration → Type 0
Declares (Plain f) e = Full f → FilledDeclaration e
Declares (Prefixed x i f) e = Full f → FilledDeclaration e

abbrev Blocks : Forest → BlockSyntax → Type 0
Blocks f e = Full f → FilledBlock e

abbrev Classes : Forest → Classed → Type 0
Classes f e = Full f → (prefix : Option Identifier) (i : ℕ) → FilledDeclaration (e prefix i)

abbrev Procedures : Forest → Headed → Type 0
Procedures f e = Full f → (result : Option TypeName) (i : ℕ) → FilledDeclaration (e result i)

abbrev Arms : Forest → Arm → Type 0
Arms f e = Full f → FilledStatement e.body

abbrev EachStatement : List Forest → List Statement → Type 0
EachStatement = induction.EachStatement Says Declares Blocks Classes Procedures Arms

abbrev EachDeclaration : List Declared → List Declaration → Type 0
EachDeclaration = induction.EachDeclaration Says Declares Blocks Classes Procedures Arms

more_filled : (fs : List Forest) (es : List Statement) (end : ℕ) → EachStatement fs es → Full (row g.NextStatement (map next_statement fs) (bare_leaf end k.End done)) → FilledStatements (statements es)
more_filled [] [] end each full = tt
more_filled [] (e ∷ es) end each full = absurd each
more_filled (f ∷ fs) [] end each full = absurd each
more_filled (f ∷ fs) (e ∷ es) end each full = (each.0 full.1.0 full.1.1, more_filled fs es end each.1 full.2)

statements_filled : (fs : List Forest) (es : List Statement) (end : ℕ) → EachStatement fs es → Full (d.statements fs end) → FilledStatements (statements es)
statements_filled [] [] end each full = tt
statements_filled [] (e ∷ es) end each full = absurd each
statements_filled (f ∷ fs) [] end each full = absurd each
statements_filled (f ∷ fs) (e ∷ es) end each full =
    let parts = begun_full f (row g.NextStatement (map next_statement fs) (bare_leaf end k.End done)) full in (each.0 parts.0 parts.1, more_filled fs es end each.1 parts.2)

contents_filled : (ds : List Declared) (xs : List Declaration) (fs : List Forest) (es : List Statement) (end : ℕ) → EachDeclaration ds xs → EachStatement fs es → Full (contents ds fs end)
    → FilledDeclarations (declarations xs) × FilledStatements (statements es)
contents_filled [] [] fs es end all each full = (tt, statements_filled fs es end each full)
contents_filled [] (x ∷ xs) fs es end all each full = absurd all
contents_filled (y ∷ ds) [] fs es end all each full = absurd all
contents_filled (Plain f ∷ ds) (x ∷ xs) fs es end all each full = let more = contents_filled ds xs fs es end all.1 each full.2.2.1 in ((all.0 full.1, more.0), more.1)
contents_filled (Prefixed name i f ∷ ds) (x ∷ xs) fs es end all each full = let more = contents_filled ds xs fs es end all.1 each full.1.2.2.1 in ((all.0 full.1.1, more.0), more.1)

sides_filled : (e : Expr) (xs : List Assigned) → has_token g.Statement (d.assigning e xs) ≡ true → SomeSide (map t.right_side_syntax xs)
sides_filled e [] token = absurd (false≢true token)
sides_filled e (x ∷ xs) token = tt

elements_filled : (i : ℕ) (xs : List ForElement) → has_token g.ForList (bare_leaf i k.Assign (d.for_elements xs)) ≡ true → SomeElement (map t.element_syntax xs)
elements_filled i [] token = absurd (false≢true token)
elements_filled i (x ∷ xs) token = tt

reference_elements_filled : (i : ℕ) (xs : List ReferenceElement) → has_token g.ForList (bare_leaf i k.AssignReference (d.reference_elements xs)) ≡ true → SomeElement (map t.reference_element_syntax xs)
reference_elements_filled i [] token = absurd (false≢true token)
reference_elements_filled i (x ∷ xs) token = tt

ids_filled : (xs : List Identifier) → has_token g.Identifiers (d.ids xs) ≡ true → SomeIdentifier xs
ids_filled [] token = absurd (false≢true token)
ids_filled (x ∷ xs) token = tt

bounds_filled : (names : Forest) (bs : List Bounds) → has_token g.ArraySegment (node g.Identifiers names (d.dimensions bs)) ≡ true → SomeBounds (map t.bound_pair_syntax bs)
bounds_filled names [] token = absurd (false≢true token)
bounds_filled names (b ∷ bs) token = tt

next_filled : (xs : List ArraySegment) → Full (row g.NextArraySegment (map d.next_segment xs) done) → FilledSegments (map t.segment_syntax xs)
next_filled [] full = tt
next_filled (x ∷ xs) full = (ids_filled x.names.items full.1.1.0, bounds_filled (d.ids x.names.items) x.bounds.items full.1.0, next_filled xs full.2)

segments_filled : (xs : List ArraySegment) → Full (d.segments_derivation xs) → FilledSegments (map t.segment_syntax xs)
segments_filled [] full = tt
segments_filled (x ∷ xs) full = (ids_filled x.names.items full.1.0, bounds_filled (d.ids x.names.items) x.bounds.items full.0, next_filled xs full.2)

-- Each node.
abbrev StmtPair : Type 0
StmtPair = induction.StmtPair Says Declares Blocks Classes Procedures Arms

abbrev DeclPair : Type 0
DeclPair = induction.DeclPair Says Declares Blocks Classes Procedures Arms

abbrev first_stmt : StmtPair → Stmt
first_stmt x = x.0

abbrev first_decl : DeclPair → Decl
first_decl x = x.0

abbrev WhenPair : Type 0
WhenPair = induction.WhenPair Says Declares Blocks Classes Procedures Arms

abbrev first_when : WhenPair → When
first_when x = x.0

arms_filled : (xs : List WhenPair) → Full (row g.WhenArm (map when_derivation (map first_when xs)) done) → FilledArms (arms (map arm_syntax (map first_when xs)))
arms_filled [] full = tt
arms_filled (x ∷ xs) full = (x.1 full.1, arms_filled xs full.2)

row_full : (n : g.Part) (fs : List Forest) (f : Forest) → Full (row n fs f) → Full f
row_full n [] f full = full
row_full n (x ∷ xs) f full = row_full n xs f full.2

virtuals_full : (vs : List VirtualSpecification) (f : Forest) → Full (d.virtuals_derivation vs f) → Full f
virtuals_full [] f full = full
virtuals_full (v ∷ vs) f full = full.2

behind_arguments : (xs : List Derivation) (f : Forest) → Full (arguments xs f) → Full f
behind_arguments [] f full = full
behind_arguments (x ∷ xs) f full = full.2

stmt_step : induction.StmtStep Says Declares Blocks Classes Procedures Arms
stmt_step (Stmt-F.Empty i) token full = tt
stmt_step (Stmt-F.Block b) token full = b.1 full.1
stmt_step (Stmt-F.PrefixedBlock p b) token full = b.1 (behind_arguments (map derivation_of p.arguments.items) (node g.AfterFirstOperand (node g.Compound (block_derivation b.0) done) done) full).1.1
stmt_step (Stmt-F.Inner i) token full = tt
stmt_step (Stmt-F.Call e) token full = tt
stmt_step (Stmt-F.Assignment e v) token full = sides_filled e v.items token
stmt_step (Stmt-F.If i e a None) token full = (a.value.1 full.2.0 full.2.1, tt)
stmt_step (Stmt-F.If i e a (Some b)) token full = (a.value.1 full.2.0 full.2.1, (b.value.1 full.2.2.1.0 full.2.2.1.1, tt))
stmt_step (Stmt-F.While i e a) token full = a.value.1 full.2.0 full.2.1
stmt_step (Stmt-F.For i x n v a) token full = (elements_filled n.0 v.items full.0, a.value.1 full.2.0 full.2.1)
stmt_step (Stmt-F.ForReference i x n v a) token full = (reference_elements_filled n.0 v.items full.0, a.value.1 full.2.0 full.2.1)
stmt_step (Stmt-F.Inspect i e n a m None) token full = (a.value.1 full.2.1.0 full.2.1.1, tt)
stmt_step (Stmt-F.Inspect i e n a m (Some b)) token full = (a.value.1 full.2.1.0 full.2.1.1, (b.value.1 full.2.2.1.0 full.2.2.1.1, tt))
stmt_step (Stmt-F.InspectWhen i e v None) token full = (arms_filled v.items full.2.1, tt)
stmt_step (Stmt-F.InspectWhen i e v (Some b)) token full = (arms_filled v.items full.2.1, (b.value.1 full.2.2.1.0 full.2.2.1.1, tt))
stmt_step (Stmt-F.Activation i w e o) token full = tt

decl_step : induction.DeclStep Says Declares Blocks Classes Procedures Arms
decl_step (Decl-F.Variables n v) = λ full. tt
decl_step (Decl-F.Arrays n i v) = λ full. segments_filled v.items full.2.1
decl_step (Decl-F.Procedure None i p) = λ full. p.1 full.1 None i.0
decl_step (Decl-F.Procedure (Some n) i p) = λ full. p.1 full.2.1.1 (Some n) i.0
decl_step (Decl-F.Class None i c) = λ full. c.1 full.1 None i.0
decl_step (Decl-F.Class (Some x) i c) = λ full. c.1 full (Some x) i.0

block_step : induction.BlockStep Says Declares Blocks Classes Procedures Arms
block_step b full =
    contents_filled (map declaration_derivation (map first_decl b.declarations.items)) (map declaration_syntax (map first_decl b.declarations.items)) (map statement_derivation (map first_stmt b.statements.items))
    (map statement_syntax (map first_stmt b.statements.items)) b.end.0 (induction.each_declaration Says Declares Blocks Classes Procedures Arms b.declarations.items) (induction.each_statement Says Declares Blocks Classes Procedures Arms b.statements.items) full.1

class_step : induction.ClassStep Says Declares Blocks Classes Procedures Arms
class_step c full prefix i =
    let last = node g.Statement (statement_derivation c.body.value.0) (place c.end.0 done) in
    let inside = virtuals_full c.virtuals.items last (row_full g.Protection (map d.protection_derivation c.protections.items) (d.virtuals_derivation c.virtuals.items last) full.2) in
    c.body.value.1 inside.0 inside.1

procedure_step : induction.ProcedureStep Says Declares Blocks Classes Procedures Arms
procedure_step p full result i = p.body.value.1 full.2.0 full.2.1

when_step : induction.WhenStep Says Declares Blocks Classes Procedures Arms
when_step w full = w.body.1 full.0 full.1

block_filled : (b : Block) → Blocks (block_derivation b) (block_syntax b)
block_filled = induction.each_block Says Declares Blocks Classes Procedures Arms stmt_step decl_step block_step class_step procedure_step when_step

pub filled : (ws : List Token) (p : ProgramTree) → IsTree ws p → Filled (program_syntax p)
unfolding program_syntax
filled ws p tree = let full = is_full-Full (node g.Program (program_derivation p) done) (reads_full tree.reads) in go p.prefix full.1
  where
    go : (x : Option BlockPrefix) → Full (d.prefixed x (node g.Compound (block_derivation p.block) done)) → FilledBlock (block_syntax p.block)
    go None full = block_filled p.block full.1
    go (Some x) full = let behind = behind_arguments (map derivation_of x.arguments.items) (node g.Compound (block_derivation p.block) done) full in block_filled p.block behind.1
