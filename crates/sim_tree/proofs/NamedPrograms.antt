-- The tokens that name the expressions of a program are among the tokens of its derivation, in its order; so they ascend.
use Rattle.std.proofs.Common.{◌≡◌, ◌≤◌, ◌<◌, ◌+◌, arith, ℕ, true, List, [], ◌∷◌, Option, Some, None, map, refl, sym, ap, ◌∙◌, subst}
use Rattle.std.proofs.lemmas.Bool.{false≢true}
use Rattle.std.specs.Prelude.{not, option_map}
use Rattle.sim_base.specs.declared.token.TokenKind.TheVariants as k
use Rattle.sim_tree.specs.declared.expr.Expr.{Expr}
use Rattle.sim_tree.specs.declared.expr.Identifier.{Identifier}
use Rattle.sim_tree.specs.declared.program.BlockPrefix.{BlockPrefix}
use Rattle.sim_tree.specs.declared.program.Program.{Program as ProgramTree}
use Rattle.sim_tree.specs.declared.stmt.Assigned.{Assigned}
use Rattle.sim_tree.specs.declared.stmt.Block.{Block}
use Rattle.sim_tree.specs.declared.stmt.Class.{Class}
use Rattle.sim_tree.specs.declared.stmt.Decl.{Decl}
use Rattle.sim_tree.specs.declared.stmt.Decl.TheOpen.{Stmt-F, Decl-F}
use Rattle.sim_tree.specs.declared.stmt.Procedure.{Procedure}
use Rattle.sim_tree.specs.declared.stmt.Stmt.{Stmt}
use Rattle.sim_tree.specs.declared.stmt.TypeName.{TypeName}
use Rattle.sim_tree.specs.declared.stmt.When.{When}
use Rattle.sim_tree.specs.Grammar as g
use Rattle.sim_tree.specs.Reading.{Forest, done, leaf, place, node, bare_leaf}
use Rattle.sim_tree.specs.Tree.{is_bare, IsTree}
use Rattle.sim_tree.proofs.Induction as induction
use Rattle.sim_tree.proofs.Full.{reads_full}
use Rattle.sim_tree.specs.Nesting.{has_token}
use Rattle.sim_tree.specs.Derivation.{derivation_of, raise, row, expression}
use Rattle.sim_tree.specs.ProgramDerivation as d
use Rattle.sim_tree.specs.ProgramDerivation.{Declared, Plain, Prefixed, joined, acted, begun, contents, next_statement, assigned_derivation, statement_derivation, declaration_derivation, block_derivation, class_derivation, procedure_derivation, when_derivation, program_derivation}
use Rattle.sim_tree.specs.Syntax.{Statement, Declaration, statements, declarations}
use Rattle.sim_tree.specs.Syntax.{Block as BlockSyntax}
use Rattle.sim_tree.specs.SyntaxOf.{syntax_of}
use Rattle.sim_tree.specs.SyntaxOfProgram as t
use Rattle.sim_tree.specs.SyntaxOfProgram.{Arm, arms, Classed, Headed, statement_syntax, declaration_syntax, block_syntax, class_syntax, procedure_syntax, arm_syntax, program_syntax}
use Rattle.sim_base.specs.declared.token.Token.{Token}
use Rattle.sim_tree.specs.declared.stmt.ArraySegment.{ArraySegment}
use Rattle.sim_tree.specs.declared.stmt.Bounds.{Bounds}
use Rattle.sim_tree.specs.declared.stmt.ForElement.{ForElement}
use Rattle.sim_tree.specs.declared.stmt.ForElement.TheVariants as for_element
use Rattle.sim_tree.specs.declared.stmt.ReferenceElement.{ReferenceElement}
use Rattle.sim_tree.specs.declared.stmt.ReferenceElement.TheVariants as reference_element
use Rattle.sim_tree.specs.declared.stmt.Timing.{Timing}
use Rattle.sim_tree.specs.declared.stmt.Timing.TheVariants as timing
use Rattle.sim_tree.specs.declared.stmt.VirtualSpecification.{VirtualSpecification}
use Rattle.sim_tree.specs.Grammar.{Symbol}
use Rattle.sim_tree.specs.Reading.{Reads, reads-done, reads-kept, reads-mark, reads-any, reads-none, reads-here, reads-part, reads-skip, bare_leaf}
use Rattle.sim_tree.specs.Named.{named, in_each, in_side, in_element, in_schedule, in_bounds, in_segment, in_statement, in_statements, in_arms, in_block, in_declarations, in_declaration, in_prefix, named_tokens, IsAscending}
use Rattle.std.specs.List.{AllByRecursion}
use Rattle.sim_tree.proofs.ReadExpressions.{Full, is_full-Full}
use Rattle.sim_tree.proofs.ReadStatements.{acted_full}
use Rattle.sim_tree.proofs.NamedExpressions.{Among, among-none, among-skip, among-keep, Puts, leaves, skip, none, both, puts_none, valued, operand_named, name_expr, each_expr, arguments_named}

-- The claims of derivations.
abbrev Says : Forest → Statement → Type 0
Says f e = has_token g.Statement f ≡ true → Full f → Puts (in_statement e) (leaves f)

abbrev Declares : Declared → Declaration → Type 0
Declares (Plain f) e = Full f → Puts (in_declaration e) (leaves f)
Declares (Prefixed x i f) e = Full f → Puts (in_declaration e) (leaves f)

abbrev Blocks : Forest → BlockSyntax → Type 0
Blocks f e = Full f → Puts (in_block e) (leaves f)

abbrev Classes : Forest → Classed → Type 0
Classes f e = Full f → (prefix : Option Identifier) (i : ℕ) → Puts (in_declaration (e prefix i)) (leaves f)

abbrev Procedures : Forest → Headed → Type 0
Procedures f e = Full f → (result : Option TypeName) (i : ℕ) → Puts (in_declaration (e result i)) (leaves f)

abbrev Arms : Forest → Arm → Type 0
Arms f e = Full f → Puts (in_statement e.body) (leaves f)

abbrev EachStatement : List Forest → List Statement → Type 0
EachStatement = induction.EachStatement Says Declares Blocks Classes Procedures Arms

abbrev EachDeclaration : List Declared → List Declaration → Type 0
EachDeclaration = induction.EachDeclaration Says Declares Blocks Classes Procedures Arms

-- the tokens may be written otherwise
same_leaves : {h g k : List ℕ → List ℕ} → ((q : List ℕ) → g q ≡ k q) → Puts h k → Puts h g
same_leaves {h} is p = record { puts = λ r q a. subst (λ z. Among (h r) z) (sym (is q)) (p.puts r q a) }

leaves-joined : (f h : Forest) (q : List ℕ) → leaves (joined f h) q ≡ leaves f (leaves h q)
leaves-joined done h q = refl
leaves-joined (leaf i kind value f) h q = ap (λ z. i ∷ z) (leaves-joined f h q)
leaves-joined (place i f) h q = leaves-joined f h q
leaves-joined (node n inside f) h q = ap (leaves inside) (leaves-joined f h q)

leaves-acted : (f rest : Forest) (q : List ℕ) → leaves (acted f rest) q ≡ leaves f (leaves rest q)
leaves-acted (node g.Primary (leaf i k.Identifier value act) sel) rest q =
    ap (λ z. i ∷ z) (leaves-joined act (node g.AfterFirstOperand (joined sel rest) done) q ∙ ap (leaves act) (leaves-joined sel rest q))
leaves-acted f rest q = refl

leaves-begun : (f rest : Forest) (q : List ℕ) → leaves (begun f rest) q ≡ leaves f (leaves rest q)
leaves-begun (leaf i k.Identifier value f) rest q = refl
leaves-begun f rest q = refl

begun_full : (f rest : Forest) → Full (begun f rest) → (has_token g.Statement f ≡ true) × Full f × Full rest
begun_full (leaf i k.Identifier value f) rest full = (refl, full.1.1, full.1.2)
begun_full f rest full = full

-- parts without a name of an expression in front
row_none : (n : g.Part) (fs : List Forest) (f : Forest) {h : List ℕ → List ℕ} → Full (row n fs f) → (Full f → Puts h (leaves f)) → Puts h (leaves (row n fs f))
row_none n [] f full rest = rest full
row_none n (x ∷ xs) f full rest = both (puts_none x) (row_none n xs f full.2 rest)

virtuals_none : (vs : List VirtualSpecification) (f : Forest) {h : List ℕ → List ℕ} → Full (d.virtuals_derivation vs f) → (Full f → Puts h (leaves f)) → Puts h (leaves (d.virtuals_derivation vs f))
virtuals_none [] f full rest = rest full
virtuals_none (v ∷ vs) f full rest = both (puts_none (row g.VirtualSpecification (map d.virtual_derivation (v ∷ vs)) done)) (rest full.2)

-- an expression
expr_named : (e : Expr) → not (is_bare (expression e)) ≡ true → Full (expression e) → Puts (named (syntax_of e)) (leaves (expression e))
expr_named e bare full = valued (name_expr e) bare full

-- Parts of statements and declarations.
each_row : {A B : Type 0} (n : g.Part) (f : A → Forest) (t : A → B) (i : B → List ℕ → List ℕ) (xs : List A) → ((x : A) → Full (f x) → Puts (i (t x)) (leaves (f x)))
    → Full (row n (map f xs) done) → Puts (in_each i (map t xs)) (leaves (row n (map f xs) done))
each_row n f t i [] one full = none
each_row n f t i (x ∷ xs) one full = both (one x full.1) (each_row n f t i xs one full.2)

bounds_named : (b : Bounds) → Full (d.bounds_derivation b) → Puts (in_bounds (t.bound_pair_syntax b)) (leaves (d.bounds_derivation b))
bounds_named b full = both (expr_named b.lower full.0 full.1) (expr_named b.upper full.2.0 full.2.1)

dimensions_named : (bs : List Bounds) → Full (d.dimensions bs) → Puts (in_each in_bounds (map t.bound_pair_syntax bs)) (leaves (d.dimensions bs))
dimensions_named [] full = none
dimensions_named (b ∷ bs) full = both (bounds_named b full.1) (each_row g.NextBounds d.next_bounds t.bound_pair_syntax in_bounds bs (λ x full. bounds_named x full.1) full.2)

segment_named : (x : ArraySegment) → Full (d.segment_derivation x) → Puts (in_segment (t.segment_syntax x)) (leaves (d.segment_derivation x))
segment_named x full = both (puts_none (d.ids x.names.items)) (dimensions_named x.bounds.items full.2)

segments_named : (xs : List ArraySegment) → Full (d.segments_derivation xs) → Puts (in_each in_segment (map t.segment_syntax xs)) (leaves (d.segments_derivation xs))
segments_named [] full = none
segments_named (x ∷ xs) full = both (segment_named x full.1) (each_row g.NextArraySegment d.next_segment t.segment_syntax in_segment xs (λ x full. segment_named x full.1) full.2)

element_named : (x : ForElement) → Full (d.for_element_derivation x) → Puts (in_element (t.element_syntax x)) (leaves (d.for_element_derivation x))
element_named (for_element.Value e) full = expr_named e full.0 full.1
element_named (for_element.Step e i a b) full = both (expr_named e full.0 full.1) (skip (both (expr_named a full.2.1.0 full.2.1.1) (expr_named b full.2.1.2.0 full.2.1.2.1)))
element_named (for_element.While e i a) full = both (expr_named e full.0 full.1) (skip (expr_named a full.2.1.0 full.2.1.1))

elements_named : (xs : List ForElement) → Full (d.for_elements xs) → Puts (in_each in_element (map t.element_syntax xs)) (leaves (d.for_elements xs))
elements_named [] full = none
elements_named (x ∷ xs) full = both (element_named x full.1) (each_row g.NextForElement d.next_for_element t.element_syntax in_element xs (λ x full. element_named x full.1) full.2)

reference_element_named : (x : ReferenceElement) → Full (d.reference_element_derivation x) → Puts (in_element (t.reference_element_syntax x)) (leaves (d.reference_element_derivation x))
reference_element_named (reference_element.Value e) full = expr_named e full.0 full.1
reference_element_named (reference_element.While e i a) full = both (expr_named e full.0 full.1) (skip (expr_named a full.2.1.0 full.2.1.1))

reference_elements_named : (xs : List ReferenceElement) → Full (d.reference_elements xs) → Puts (in_each in_element (map t.reference_element_syntax xs)) (leaves (d.reference_elements xs))
reference_elements_named [] full = none
reference_elements_named (x ∷ xs) full =
    both (reference_element_named x full.1) (each_row g.NextReferenceElement d.next_reference_element t.reference_element_syntax in_element xs (λ x full. reference_element_named x full.1) full.2)

timing_named : (x : Option Timing) → Full (d.timing_derivation x) → Puts (in_schedule (t.schedule_syntax x)) (leaves (d.timing_derivation x))
timing_named None full = none
timing_named (Some (timing.At i e p)) full = skip (both (expr_named e full.1.0 full.1.1) (puts_none (d.prior_derivation p)))
timing_named (Some (timing.Delay i e p)) full = skip (both (expr_named e full.1.0 full.1.1) (puts_none (d.prior_derivation p)))
timing_named (Some (timing.Before i e)) full = skip (expr_named e full.1.0 full.1.1)
timing_named (Some (timing.After i e)) full = skip (expr_named e full.1.0 full.1.1)

called : (e : Expr) (rest : Forest) {h : List ℕ → List ℕ} → Full (acted (raise 1 (derivation_of e)) rest) → (Full rest → Puts h (leaves rest)) → Puts (λ r. named (syntax_of e) (h r)) (leaves (acted (raise 1 (derivation_of e)) rest))
called e rest full h =
    let f = raise 1 (derivation_of e) in
    let all = acted_full f rest full in
    same_leaves (leaves-acted f rest) (both (operand_named (name_expr e) all.0 all.1) (h all.2))

assigned_named : (e : Expr) (xs : List Assigned) → has_token g.Statement (d.assigning e xs) ≡ true → Full (d.assigning e xs)
    → Puts (λ r. named (syntax_of e) (in_each in_side (map t.right_side_syntax xs) r)) (leaves (d.assigning e xs))
assigned_named e [] token full = absurd (false≢true token)
assigned_named e (x ∷ xs) token full =
    called e (row g.Assigned (map assigned_derivation (x ∷ xs)) done) full
    (λ full. each_row g.Assigned assigned_derivation t.right_side_syntax in_side (x ∷ xs) (λ x full. skip (expr_named x.value full.0 full.1)) full)

-- Blocks.
more_statements : (fs : List Forest) (es : List Statement) (end : ℕ) → EachStatement fs es → Full (row g.NextStatement (map next_statement fs) (bare_leaf end k.End done))
    → Puts (in_statements (statements es)) (leaves (row g.NextStatement (map next_statement fs) (bare_leaf end k.End done)))
more_statements [] [] end each full = skip none
more_statements [] (e ∷ es) end each full = absurd each
more_statements (f ∷ fs) [] end each full = absurd each
more_statements (f ∷ fs) (e ∷ es) end each full = both (each.0 full.1.0 full.1.1) (more_statements fs es end each.1 full.2)

statements_named : (fs : List Forest) (es : List Statement) (end : ℕ) → EachStatement fs es → Full (d.statements fs end) → Puts (in_statements (statements es)) (leaves (d.statements fs end))
statements_named [] [] end each full = skip none
statements_named [] (e ∷ es) end each full = absurd each
statements_named (f ∷ fs) [] end each full = absurd each
statements_named (f ∷ fs) (e ∷ es) end each full =
    let rest = row g.NextStatement (map next_statement fs) (bare_leaf end k.End done) in
    let parts = begun_full f rest full in
    same_leaves (leaves-begun f rest) (both (each.0 parts.0 parts.1) (more_statements fs es end each.1 parts.2))

contents_named : (ds : List Declared) (xs : List Declaration) (fs : List Forest) (es : List Statement) (end : ℕ) → EachDeclaration ds xs → EachStatement fs es → Full (contents ds fs end)
    → Puts (λ r. in_declarations (declarations xs) (in_statements (statements es) r)) (leaves (contents ds fs end))
contents_named [] [] fs es end all each full = statements_named fs es end each full
contents_named [] (x ∷ xs) fs es end all each full = absurd all
contents_named (y ∷ ds) [] fs es end all each full = absurd all
contents_named (Plain f ∷ ds) (x ∷ xs) fs es end all each full = both (all.0 full.1) (contents_named ds xs fs es end all.1 each full.2.2.1)
contents_named (Prefixed name i f ∷ ds) (x ∷ xs) fs es end all each full = skip (skip (both (all.0 full.1.1) (contents_named ds xs fs es end all.1 each full.1.2.2.1)))

-- Each node.

abbrev StmtPair : Type 0
StmtPair = induction.StmtPair Says Declares Blocks Classes Procedures Arms

abbrev DeclPair : Type 0
DeclPair = induction.DeclPair Says Declares Blocks Classes Procedures Arms

abbrev BlockPair : Type 0
BlockPair = induction.BlockPair Says Declares Blocks Classes Procedures Arms

abbrev ClassPair : Type 0
ClassPair = induction.ClassPair Says Declares Blocks Classes Procedures Arms

abbrev ProcedurePair : Type 0
ProcedurePair = induction.ProcedurePair Says Declares Blocks Classes Procedures Arms

abbrev WhenPair : Type 0
WhenPair = induction.WhenPair Says Declares Blocks Classes Procedures Arms

abbrev first_stmt : StmtPair → Stmt
first_stmt x = x.0

abbrev first_decl : DeclPair → Decl
first_decl x = x.0

abbrev first_block : BlockPair → Block
first_block x = x.0

abbrev first_class : ClassPair → Class
first_class x = x.0

abbrev first_procedure : ProcedurePair → Procedure
first_procedure x = x.0

abbrev first_when : WhenPair → When
first_when x = x.0

arms_named : (xs : List WhenPair) → Full (row g.WhenArm (map when_derivation (map first_when xs)) done)
    → Puts (in_arms (arms (map arm_syntax (map first_when xs)))) (leaves (row g.WhenArm (map when_derivation (map first_when xs)) done))
arms_named [] full = none
arms_named (x ∷ xs) full = both (x.1 full.1) (arms_named xs full.2)

stmt_step : induction.StmtStep Says Declares Blocks Classes Procedures Arms
stmt_step (Stmt-F.Empty i) token full = none
stmt_step (Stmt-F.Block b) token full = b.1 full.1
stmt_step (Stmt-F.PrefixedBlock p b) token full =
    skip
    (arguments_named (map derivation_of p.arguments.items) (map syntax_of p.arguments.items) (node g.AfterFirstOperand (node g.Compound (block_derivation b.0) done) done) (in_block (block_syntax b.0)) (each_expr p.arguments.items) full
    (λ full. b.1 full.1.1))
stmt_step (Stmt-F.Inner i) token full = skip none
stmt_step (Stmt-F.Call e) token full = called e done full (λ full. none)
stmt_step (Stmt-F.Assignment e v) token full = assigned_named e v.items token full
stmt_step (Stmt-F.If i e a None) token full = skip (both (expr_named e full.0 full.1) (a.value.1 full.2.0 full.2.1))
stmt_step (Stmt-F.If i e a (Some b)) token full = skip (both (expr_named e full.0 full.1) (both (a.value.1 full.2.0 full.2.1) (b.value.1 full.2.2.1.0 full.2.2.1.1)))
stmt_step (Stmt-F.While i e a) token full = skip (both (expr_named e full.0 full.1) (a.value.1 full.2.0 full.2.1))
stmt_step (Stmt-F.For i x n v a) token full = skip (skip (skip (both (elements_named v.items full.1) (a.value.1 full.2.0 full.2.1))))
stmt_step (Stmt-F.ForReference i x n v a) token full = skip (skip (skip (both (reference_elements_named v.items full.1) (a.value.1 full.2.0 full.2.1))))
stmt_step (Stmt-F.Inspect i e n a m None) token full = skip (both (expr_named e full.0 full.1) (skip (a.value.1 full.2.1.0 full.2.1.1)))
stmt_step (Stmt-F.Inspect i e n a m (Some b)) token full = skip (both (expr_named e full.0 full.1) (skip (both (a.value.1 full.2.1.0 full.2.1.1) (b.value.1 full.2.2.1.0 full.2.2.1.1))))
stmt_step (Stmt-F.InspectWhen i e v None) token full = skip (both (expr_named e full.0 full.1) (arms_named v.items full.2.1))
stmt_step (Stmt-F.InspectWhen i e v (Some b)) token full = skip (both (expr_named e full.0 full.1) (both (arms_named v.items full.2.1) (b.value.1 full.2.2.1.0 full.2.2.1.1)))
stmt_step (Stmt-F.Activation i w e o) token full = skip (both (expr_named e full.0 full.1) (timing_named o full.2))

decl_step : induction.DeclStep Says Declares Blocks Classes Procedures Arms
decl_step (Decl-F.Variables n v) = λ full. puts_none (node g.TypeName (d.type_derivation n) (node g.TypedDeclaration (d.variables_derivation v.items) done))
decl_step (Decl-F.Arrays n i v) = λ full. both (puts_none (d.type_derivation n)) (skip (segments_named v.items full.2.1))
decl_step (Decl-F.Procedure None i p) = λ full. skip (p.1 full.1 None i.0)
decl_step (Decl-F.Procedure (Some n) i p) = λ full. both (puts_none (d.type_derivation n)) (skip (p.1 full.2.1.1 (Some n) i.0))
decl_step (Decl-F.Class None i c) = λ full. skip (c.1 full.1 None i.0)
decl_step (Decl-F.Class (Some x) i c) = λ full. c.1 full (Some x) i.0

block_step : induction.BlockStep Says Declares Blocks Classes Procedures Arms
block_step b full =
    skip
    (contents_named (map declaration_derivation (map first_decl b.declarations.items)) (map declaration_syntax (map first_decl b.declarations.items)) (map statement_derivation (map first_stmt b.statements.items))
    (map statement_syntax (map first_stmt b.statements.items)) b.end.0 (induction.each_declaration Says Declares Blocks Classes Procedures Arms b.declarations.items) (induction.each_statement Says Declares Blocks Classes Procedures Arms b.statements.items) full.1)

class_step : induction.ClassStep Says Declares Blocks Classes Procedures Arms
class_step c full prefix i =
    let last = node g.Statement (statement_derivation c.body.value.0) (place c.end.0 done) in
    let middle = d.virtuals_derivation c.virtuals.items last in
    skip
    (both (puts_none (d.heading_derivation c.parameters.items c.modes.items c.specifications.items))
    (row_none g.Protection (map d.protection_derivation c.protections.items) middle full.2 (λ full. virtuals_none c.virtuals.items last full (λ full. c.body.value.1 full.0 full.1))))

procedure_step : induction.ProcedureStep Says Declares Blocks Classes Procedures Arms
procedure_step p full result i = skip (both (puts_none (d.heading_derivation p.parameters.items p.modes.items p.specifications.items)) (p.body.value.1 full.2.0 full.2.1))

when_step : induction.WhenStep Says Declares Blocks Classes Procedures Arms
when_step w full = skip (skip (skip (w.body.1 full.0 full.1)))

name_block : (b : Block) → Blocks (block_derivation b) (block_syntax b)
name_block = induction.each_block Says Declares Blocks Classes Procedures Arms stmt_step decl_step block_step class_step procedure_step when_step

-- a program
name_program : (p : ProgramTree) → Full (program_derivation p) → Puts (λ r. in_prefix (program_syntax p).prefix (in_block (program_syntax p).block r)) (leaves (program_derivation p))
unfolding program_syntax
name_program p full = go p.prefix full
  where
    go : (x : Option BlockPrefix) → Full (d.prefixed x (node g.Compound (block_derivation p.block) done))
        → Puts (λ r. in_prefix (option_map t.prefix_syntax x) (in_block (block_syntax p.block) r)) (leaves (d.prefixed x (node g.Compound (block_derivation p.block) done)))
    go None full = name_block p.block full.1
    go (Some x) full =
        skip
        (arguments_named (map derivation_of x.arguments.items) (map syntax_of x.arguments.items) (node g.Compound (block_derivation p.block) done) (in_block (block_syntax p.block)) (each_expr x.arguments.items) full
        (λ full. name_block p.block full.1))

-- The tokens of what was read ascend.
abbrev Ascends : ℕ → List ℕ → Type 0
Ascends i [] = Unit {0}
Ascends i (x ∷ xs) = (i ≤ x) × Ascends (x + 1) xs

weaker : (i j : ℕ) (q : List ℕ) → i ≤ j → Ascends j q → Ascends i q
weaker i j [] le a = tt
weaker i j (x ∷ xs) le a = (let low = a.0 in omega (arith, le, low), a.1)

module _ {most : ℕ} {ws : List Token} where
  reads_ascend : {d i j : ℕ} {s : List Symbol} {f : Forest} → Reads most ws d s i f j → (q : List ℕ) → Ascends j q → Ascends i (leaves f q)
  reads_ascend reads-done q a = a
  reads_ascend (reads-kept {start = i} h r) q a = (let z : i ≤ i = omega arith in z, reads_ascend r q a)
  reads_ascend (reads-mark {start = i} {f = f} h r) q a = weaker i (i + 1) (leaves f q) (omega arith) (reads_ascend r q a)
  reads_ascend (reads-any {start = i} {f = f} h r) q a = weaker i (i + 1) (leaves f q) (omega arith) (reads_ascend r q a)
  reads_ascend (reads-none h r) q a = reads_ascend r q a
  reads_ascend (reads-here r) q a = reads_ascend r q a
  reads_ascend (reads-part {g = h} b sh r o) q a = reads_ascend r (leaves h q) (reads_ascend o q a)
  reads_ascend (reads-skip b may r) q a = reads_ascend r q a

among_ascend : (i : ℕ) (r q : List ℕ) → Among r q → Ascends i q → Ascends i r
among_ascend i r q among-none a = tt
among_ascend i r q (among-skip {i = x} {r = s} {q = p} h) a = among_ascend i s p h (weaker i (x + 1) p (let low = a.0 in omega (arith, low)) a.1)
among_ascend i r q (among-keep {i = x} {r = s} {q = p} h) a = (a.0, among_ascend (x + 1) s p h a.1)

above : (i j : ℕ) (q : List ℕ) → i < j → Ascends j q → AllByRecursion (λ y. i < y) q
above i j [] le a = tt
above i j (x ∷ xs) le a = (let low = a.0 in omega (arith, low, le), above i (x + 1) xs (let low = a.0 in omega (arith, low, le)) a.1)

ascending : (i : ℕ) (q : List ℕ) → Ascends i q → IsAscending q
ascending i [] a = tt
ascending i (x ∷ xs) a = (above x (x + 1) xs (omega arith) a.1, ascending (x + 1) xs a.1)

pub names_ascend : (ws : List Token) (p : ProgramTree) → IsTree ws p → IsAscending (named_tokens (program_syntax p))
names_ascend ws p tree =
    let f = node g.Program (program_derivation p) done in
    let full = is_full-Full f (reads_full tree.reads) in
    let all = (name_program p full.1).puts [] [] among-none in
    ascending 0 (named_tokens (program_syntax p)) (among_ascend 0 (named_tokens (program_syntax p)) (leaves f []) all (reads_ascend tree.reads [] tt))
