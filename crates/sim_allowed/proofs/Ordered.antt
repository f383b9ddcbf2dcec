-- The identifiers that a program declares, those of virtual parts too, the classes that it names, the tokens that name its expressions, the words of
-- activations, and where its blocks and connections begin and end are among the tokens and places of its derivation, in its order; so they ascend.
use Rattle.std.proofs.Common.{◌≡◌, ℕ, true, List, [], ◌∷◌, Option, Some, None, map, refl, ap, ◌∙◌}
use Rattle.std.proofs.lemmas.Bool.{false≢true}
use Rattle.std.specs.Prelude.{not}
use Rattle.sim_base.specs.declared.token.TokenKind.TheVariants as k
use Rattle.sim_tree.specs.declared.expr.Expr.{Expr}
use Rattle.sim_tree.specs.declared.expr.Identifier.{Identifier}
use Rattle.sim_tree.specs.declared.program.BlockPrefix.{BlockPrefix}
use Rattle.sim_tree.specs.declared.program.Program.{Program as ProgramTree}
use Rattle.sim_tree.specs.declared.stmt.Assigned.{Assigned}
use Rattle.sim_tree.specs.declared.stmt.Block.{Block}
use Rattle.sim_tree.specs.declared.stmt.Class.{Class}
use Rattle.sim_tree.specs.declared.stmt.Decl.{Decl}
use Rattle.sim_tree.specs.declared.stmt.Decl.TheOpen.{Stmt-F, Decl-F}
use Rattle.sim_tree.specs.declared.stmt.Procedure.{Procedure}
use Rattle.sim_tree.specs.declared.stmt.Stmt.{Stmt}
use Rattle.sim_tree.specs.declared.stmt.Timing.{Timing}
use Rattle.sim_tree.specs.declared.stmt.Timing.TheVariants as timing
use Rattle.sim_tree.specs.declared.stmt.TypeName.{TypeName}
use Rattle.sim_tree.specs.declared.stmt.TypeName.TheVariants as type_name
use Rattle.sim_tree.specs.declared.stmt.When.{When}
use Rattle.sim_tree.specs.Grammar as g
use Rattle.sim_tree.specs.Reading.{Forest, done, leaf, place, node, bare_leaf}
use Rattle.sim_tree.specs.Tree.{is_bare, IsTree}
use Rattle.sim_tree.proofs.Induction as induction
use Rattle.sim_tree.proofs.Full.{reads_full}
use Rattle.sim_tree.specs.Nesting.{has_token}
use Rattle.sim_tree.specs.Derivation.{Derivation, argument, arguments, expression, raise, row, derivation_of, whole, identifier}
use Rattle.sim_tree.specs.ProgramDerivation as d
use Rattle.sim_tree.specs.ProgramDerivation.{Declared, Plain, Prefixed, joined, acted, begun, contents, next_statement, assigned_derivation, statement_derivation, declaration_derivation, block_derivation, when_derivation, program_derivation}
use Rattle.sim_tree.specs.Syntax.{Statement, Declaration, statements, declarations, Named, expressions}
use Rattle.sim_tree.specs.Syntax.{Block as BlockSyntax}
use Rattle.sim_tree.specs.SyntaxOf.{syntax_of}
use Rattle.sim_tree.specs.SyntaxOfProgram as t
use Rattle.sim_tree.specs.SyntaxOfProgram.{Arm, arms, Classed, Headed, statement_syntax, declaration_syntax, block_syntax, arm_syntax, program_syntax}
use Rattle.sim_base.specs.declared.token.Token.{Token}
use Rattle.sim_tree.specs.declared.stmt.ModePart.{ModePart}
use Rattle.sim_tree.specs.declared.stmt.Specification.{Specification}
use Rattle.sim_tree.specs.declared.stmt.Specifier.{Specifier}
use Rattle.sim_tree.specs.declared.stmt.Specifier.TheVariants as specifier
use Rattle.sim_tree.specs.declared.stmt.Variable.{Variable}
use Rattle.sim_tree.specs.declared.stmt.ArraySegment.{ArraySegment}
use Rattle.sim_tree.specs.declared.stmt.Bounds.{Bounds}
use Rattle.sim_tree.specs.declared.stmt.ForElement.{ForElement}
use Rattle.sim_tree.specs.declared.stmt.ForElement.TheVariants as for_element
use Rattle.sim_tree.specs.declared.stmt.ReferenceElement.{ReferenceElement}
use Rattle.sim_tree.specs.declared.stmt.ReferenceElement.TheVariants as reference_element
use Rattle.sim_tree.specs.declared.stmt.VirtualSpecification.{VirtualSpecification}
use Rattle.sim_tree.specs.Order.{Behind, Spot, Token as Mark, in_bounds, in_each, in_element, in_expression, in_name, in_result, in_schedule, in_segment, in_side, in_type, in_variable}
use Rattle.sim_agree.specs.Order.{InOrder, in_arms, in_block, in_declaration, in_declarations, in_specification, in_specified, in_statement, in_statements, in_virtual}
use Rattle.sim_tree.proofs.ReadExpressions.{Full, is_full-Full}
use Rattle.sim_tree.proofs.ReadStatements.{acted_full}
use Rattle.sim_allowed.proofs.NamedExpressions as n
use Rattle.sim_allowed.proofs.NamedExpressions.{name_expr, operand_named, valued}
use Rattle.sim_allowed.proofs.Spots.{Lays, ahead, both, expression_lays, keep, kept-none, kept_ascend, lays_none, none, reads_ascend, same_spots, skip, spots}

-- The claims of derivations.
abbrev Says : Forest → Statement → Type 0
Says f e = has_token g.Statement f ≡ true → Full f → Lays (in_statement e) (spots f)

-- in front of a class: its prefix, and behind that the word that declares it
abbrev behind_prefix : Option Identifier → ℕ → List Spot → List Spot
behind_prefix None i q = q
behind_prefix (Some x) i q = Mark x.token.0 ∷ (Mark i ∷ q)

abbrev Declares : Declared → Declaration → Type 0
Declares (Plain f) e = Full f → Lays (in_declaration e) (spots f)
Declares (Prefixed x i f) e = Full f → Lays (in_declaration e) (λ q. behind_prefix (Some x) i (spots f q))

abbrev Blocks : Forest → BlockSyntax → Type 0
Blocks f e = Full f → Lays (in_block e) (spots f)

abbrev Classes : Forest → Classed → Type 0
Classes f e = Full f → (prefix : Option Identifier) (i : ℕ) → Lays (in_declaration (e prefix i)) (λ q. behind_prefix prefix i (spots f q))

-- in front of a procedure: the type of its result, and the word that declares it
abbrev behind_result : Option TypeName → ℕ → List Spot → List Spot
behind_result None i q = q
behind_result (Some n) i q = spots (d.type_derivation n) (Mark i ∷ q)

abbrev Procedures : Forest → Headed → Type 0
Procedures f e = Full f → (result : Option TypeName) (i : ℕ) → Lays (in_declaration (e result i)) (λ q. behind_result result i (spots f q))

abbrev Arms : Forest → Arm → Type 0
Arms f e = Full f → Lays (λ r. Mark e.class.token.0 ∷ (Mark e.opening ∷ in_statement e.body (Behind e.end ∷ r))) (spots f)

abbrev EachStatement : List Forest → List Statement → Type 0
EachStatement = induction.EachStatement Says Declares Blocks Classes Procedures Arms

abbrev EachDeclaration : List Declared → List Declaration → Type 0
EachDeclaration = induction.EachDeclaration Says Declares Blocks Classes Procedures Arms

spots-joined : (f h : Forest) (q : List Spot) → spots (joined f h) q ≡ spots f (spots h q)
spots-joined done h q = refl
spots-joined (leaf i kind value f) h q = ap (λ z. Mark i ∷ z) (spots-joined f h q)
spots-joined (place i f) h q = ap (λ z. Behind i ∷ z) (spots-joined f h q)
spots-joined (node n inside f) h q = ap (spots inside) (spots-joined f h q)

spots-acted : (f rest : Forest) (q : List Spot) → spots (acted f rest) q ≡ spots f (spots rest q)
spots-acted (node g.Primary (leaf i k.Identifier value act) sel) rest q =
    ap (λ z. Mark i ∷ z) (spots-joined act (node g.AfterFirstOperand (joined sel rest) done) q ∙ ap (spots act) (spots-joined sel rest q))
spots-acted f rest q = refl

spots-begun : (f rest : Forest) (q : List Spot) → spots (begun f rest) q ≡ spots f (spots rest q)
spots-begun (leaf i k.Identifier value f) rest q = refl
spots-begun f rest q = refl

begun_full : (f rest : Forest) → Full (begun f rest) → (has_token g.Statement f ≡ true) × Full f × Full rest
begun_full (leaf i k.Identifier value f) rest full = (refl, full.1.1, full.1.2)
begun_full f rest full = full

-- parts without a name of an expression in front
row_none : (n : g.Part) (fs : List Forest) (f : Forest) {h : List Spot → List Spot} → Full (row n fs f) → (Full f → Lays h (spots f)) → Lays h (spots (row n fs f))
row_none n [] f full rest = rest full
row_none n (x ∷ xs) f full rest = both (lays_none x) (row_none n xs f full.2 rest)

-- nothing is kept of actual parameters
behind_arguments : (xs : List Derivation) (f : Forest) {h : List Spot → List Spot} → Full (arguments xs f) → (Full f → Lays h (spots f)) → Lays h (spots (arguments xs f))
behind_arguments [] f full rest = rest full
behind_arguments (x ∷ xs) f full rest = both (lays_none (node g.Expression (whole x) (row g.NextArgument (map argument xs) done))) (rest full.2)

-- a class in front of a block, with the actual parameters behind it
arguments_full : (xs : List Derivation) (f : Forest) → Full (arguments xs f) → Full (arguments xs done) × Full f
arguments_full [] f full = (tt, full)
arguments_full (x ∷ xs) f full = ((full.0, full.1, tt), full.2)

arguments_end : (xs : List Derivation) (f : Forest) (q : List Spot) → spots (arguments xs f) q ≡ spots (arguments xs done) (spots f q)
arguments_end [] f q = refl
arguments_end (x ∷ xs) f q = refl

prefix_named : (x : Identifier) (es : List Expr) (f : Forest) {h : List Spot → List Spot} → Full (arguments (map derivation_of es) f) → (Full f → Lays h (spots f))
    → Lays (λ r. in_expression (Named x (expressions (map syntax_of es))) (h r)) (spots (identifier x (arguments (map derivation_of es) f)))
prefix_named x es f full rest =
    let all = arguments_full (map derivation_of es) f full in
    same_spots (λ q. ap (λ z. Mark x.token.0 ∷ z) (arguments_end (map derivation_of es) f q))
    (both
    (expression_lays (Named x (expressions (map syntax_of es))) (identifier x (arguments (map derivation_of es) done))
    (n.keep (n.arguments_named (map derivation_of es) (map syntax_of es) done (λ r. r) (n.each_expr es) all.0 (λ full. n.none))))
    (rest all.1))

-- an expression
expr_named : (e : Expr) → not (is_bare (expression e)) ≡ true → Full (expression e) → Lays (in_expression (syntax_of e)) (spots (expression e))
expr_named e bare full = expression_lays (syntax_of e) (expression e) (valued (name_expr e) bare full)

-- Parts of statements and declarations.
each_row : {A B : Type 0} (n : g.Part) (f : A → Forest) (t : A → B) (i : B → List Spot → List Spot) (xs : List A) → ((x : A) → Full (f x) → Lays (i (t x)) (spots (f x)))
    → Full (row n (map f xs) done) → Lays (in_each i (map t xs)) (spots (row n (map f xs) done))
each_row n f t i [] one full = none
each_row n f t i (x ∷ xs) one full = both (one x full.1) (each_row n f t i xs one full.2)

bounds_named : (b : Bounds) → Full (d.bounds_derivation b) → Lays (in_bounds (t.bound_pair_syntax b)) (spots (d.bounds_derivation b))
bounds_named b full = both (expr_named b.lower full.0 full.1) (expr_named b.upper full.2.0 full.2.1)

dimensions_named : (bs : List Bounds) → Full (d.dimensions bs) → Lays (in_each in_bounds (map t.bound_pair_syntax bs)) (spots (d.dimensions bs))
dimensions_named [] full = none
dimensions_named (b ∷ bs) full = both (bounds_named b full.1) (each_row g.NextBounds d.next_bounds t.bound_pair_syntax in_bounds bs (λ x full. bounds_named x full.1) full.2)

more_ids : (xs : List Identifier) → Lays (in_each in_name xs) (spots (row g.NextIdentifier (map d.next_id xs) done))
more_ids [] = none
more_ids (x ∷ xs) = keep (more_ids xs)

ids_named : (xs : List Identifier) → Lays (in_each in_name xs) (spots (d.ids xs))
ids_named [] = none
ids_named (x ∷ xs) = keep (more_ids xs)

type_named : (n : TypeName) → Lays (in_type n) (spots (d.type_derivation n))
type_named (type_name.Integer i) = skip none
type_named (type_name.Boolean i) = skip none
type_named (type_name.Character i) = skip none
type_named (type_name.Text i) = skip none
type_named (type_name.Reference i class) = skip (keep none)

variable_named : (x : Variable) → Lays (in_variable x) (spots (d.variable_derivation x))
variable_named x = keep (lays_none (d.value_derivation x.value))

more_variables : (xs : List Variable) → Lays (in_each in_variable xs) (spots (row g.NextVariable (map d.next_variable xs) done))
more_variables [] = none
more_variables (x ∷ xs) = both (variable_named x) (more_variables xs)

variables_named : (xs : List Variable) → Lays (in_each in_variable xs) (spots (d.variables_derivation xs))
variables_named [] = none
variables_named (x ∷ xs) = both (variable_named x) (more_variables xs)

-- the names of virtual parts
result_named : (result : Option TypeName) (f : Forest) {h : List Spot → List Spot} → Lays h (spots f) → Lays (λ r. in_result result (h r)) (spots (d.typed result f))
result_named None f rest = rest
result_named (Some n) f rest = both (type_named n) rest

virtual_named : (v : VirtualSpecification) → Lays (in_virtual (t.virtual_syntax v)) (spots (d.virtual_derivation v))
virtual_named v = result_named v.result (bare_leaf v.token.0 k.Procedure (node g.Identifiers (d.ids v.names.items) done)) (skip (ids_named v.names.items))

each_virtual : (vs : List VirtualSpecification) → Lays (in_each in_virtual (map t.virtual_syntax vs)) (spots (row g.VirtualSpecification (map d.virtual_derivation vs) done))
each_virtual [] = none
each_virtual (v ∷ vs) = both (virtual_named v) (each_virtual vs)

virtuals_named : (vs : List VirtualSpecification) (f : Forest) {h : List Spot → List Spot} → Full (d.virtuals_derivation vs f) → (Full f → Lays h (spots f)) → Lays (λ r. in_each in_virtual (map t.virtual_syntax vs) (h r)) (spots (d.virtuals_derivation vs f))
virtuals_named [] f full rest = rest full
virtuals_named (v ∷ vs) f full rest = both (each_virtual (v ∷ vs)) (rest full.2)

-- the classes of specifications
specification_named : (x : Specification) → Lays (in_specification (t.specification_syntax x)) (spots (d.specification_derivation x))
specification_named x = go x.specifier
  where
    names : Forest
    names = node g.Identifiers (d.ids x.names.items) done

    go : (k : Specifier) → Lays (in_specified (t.specifier_syntax k)) (spots (d.specifier_derivation k (node g.Identifiers (d.ids x.names.items) done)))
    go (specifier.Simple n) = both (type_named n) (lays_none names)
    go (specifier.Array n i) = both (type_named n) (skip (lays_none names))
    go (specifier.Procedure None i) = skip (lays_none names)
    go (specifier.Procedure (Some n) i) = both (type_named n) (skip (lays_none names))

each_specification : (ss : List Specification) → Lays (in_each in_specification (map t.specification_syntax ss)) (spots (row g.Specification (map d.specification_derivation ss) done))
each_specification [] = none
each_specification (x ∷ ss) = both (specification_named x) (each_specification ss)

modes_skipped : (ms : List ModePart) (f : Forest) {h : List Spot → List Spot} → Lays h (spots f) → Lays h (spots (row g.Mode (map d.mode_derivation ms) f))
modes_skipped [] f rest = rest
modes_skipped (m ∷ ms) f rest = both (lays_none (d.mode_derivation m)) (modes_skipped ms f rest)

abbrev of_heading : List Identifier → List Specification → List Spot → List Spot
of_heading ps ss l = in_each in_name ps (in_each in_specification (map t.specification_syntax ss) l)

behind_ids : (ps : List Identifier) (ms : List ModePart) (ss : List Specification) → Lays (of_heading ps ss) (spots (node g.Identifiers (d.ids ps) (row g.Mode (map d.mode_derivation ms) (row g.Specification (map d.specification_derivation ss) done))))
behind_ids ps ms ss = both (ids_named ps) (modes_skipped ms (row g.Specification (map d.specification_derivation ss) done) (each_specification ss))

-- the parameters of a heading, and the classes of its specifications
heading_named : (ps : List Identifier) (ms : List ModePart) (ss : List Specification) → Lays (of_heading ps ss) (spots (d.heading_derivation ps ms ss))
heading_named [] [] [] = none
heading_named [] [] (x ∷ ss) = behind_ids [] [] (x ∷ ss)
heading_named [] (m ∷ ms) ss = behind_ids [] (m ∷ ms) ss
heading_named (p ∷ ps) ms ss = behind_ids (p ∷ ps) ms ss

segment_named : (x : ArraySegment) → Full (d.segment_derivation x) → Lays (in_segment (t.segment_syntax x)) (spots (d.segment_derivation x))
segment_named x full = both (ids_named x.names.items) (dimensions_named x.bounds.items full.2)

segments_named : (xs : List ArraySegment) → Full (d.segments_derivation xs) → Lays (in_each in_segment (map t.segment_syntax xs)) (spots (d.segments_derivation xs))
segments_named [] full = none
segments_named (x ∷ xs) full = both (segment_named x full.1) (each_row g.NextArraySegment d.next_segment t.segment_syntax in_segment xs (λ x full. segment_named x full.1) full.2)

element_named : (x : ForElement) → Full (d.for_element_derivation x) → Lays (in_element (t.element_syntax x)) (spots (d.for_element_derivation x))
element_named (for_element.Value e) full = expr_named e full.0 full.1
element_named (for_element.Step e i a b) full = both (expr_named e full.0 full.1) (skip (both (expr_named a full.2.1.0 full.2.1.1) (expr_named b full.2.1.2.0 full.2.1.2.1)))
element_named (for_element.While e i a) full = both (expr_named e full.0 full.1) (skip (expr_named a full.2.1.0 full.2.1.1))

elements_named : (xs : List ForElement) → Full (d.for_elements xs) → Lays (in_each in_element (map t.element_syntax xs)) (spots (d.for_elements xs))
elements_named [] full = none
elements_named (x ∷ xs) full = both (element_named x full.1) (each_row g.NextForElement d.next_for_element t.element_syntax in_element xs (λ x full. element_named x full.1) full.2)

reference_element_named : (x : ReferenceElement) → Full (d.reference_element_derivation x) → Lays (in_element (t.reference_element_syntax x)) (spots (d.reference_element_derivation x))
reference_element_named (reference_element.Value e) full = expr_named e full.0 full.1
reference_element_named (reference_element.While e i a) full = both (expr_named e full.0 full.1) (skip (expr_named a full.2.1.0 full.2.1.1))

reference_elements_named : (xs : List ReferenceElement) → Full (d.reference_elements xs) → Lays (in_each in_element (map t.reference_element_syntax xs)) (spots (d.reference_elements xs))
reference_elements_named [] full = none
reference_elements_named (x ∷ xs) full =
    both (reference_element_named x full.1) (each_row g.NextReferenceElement d.next_reference_element t.reference_element_syntax in_element xs (λ x full. reference_element_named x full.1) full.2)

timing_named : (x : Option Timing) → Full (d.timing_derivation x) → Lays (in_schedule (t.schedule_syntax x)) (spots (d.timing_derivation x))
timing_named None full = none
timing_named (Some (timing.At i e p)) full = skip (both (expr_named e full.1.0 full.1.1) (lays_none (d.prior_derivation p)))
timing_named (Some (timing.Delay i e p)) full = skip (both (expr_named e full.1.0 full.1.1) (lays_none (d.prior_derivation p)))
timing_named (Some (timing.Before i e)) full = skip (expr_named e full.1.0 full.1.1)
timing_named (Some (timing.After i e)) full = skip (expr_named e full.1.0 full.1.1)

called : (e : Expr) (rest : Forest) {h : List Spot → List Spot} → Full (acted (raise 1 (derivation_of e)) rest) → (Full rest → Lays h (spots rest)) → Lays (λ r. in_expression (syntax_of e) (h r)) (spots (acted (raise 1 (derivation_of e)) rest))
called e rest full h =
    let f = raise 1 (derivation_of e) in
    let all = acted_full f rest full in
    same_spots (spots-acted f rest) (both (expression_lays (syntax_of e) f (operand_named (name_expr e) all.0 all.1)) (h all.2))

assigned_named : (e : Expr) (xs : List Assigned) → has_token g.Statement (d.assigning e xs) ≡ true → Full (d.assigning e xs)
    → Lays (λ r. in_expression (syntax_of e) (in_each in_side (map t.right_side_syntax xs) r)) (spots (d.assigning e xs))
assigned_named e [] token full = absurd (false≢true token)
assigned_named e (x ∷ xs) token full =
    called e (row g.Assigned (map assigned_derivation (x ∷ xs)) done) full
    (λ full. each_row g.Assigned assigned_derivation t.right_side_syntax in_side (x ∷ xs) (λ x full. skip (expr_named x.value full.0 full.1)) full)

-- Blocks.
more_statements : (fs : List Forest) (es : List Statement) (end : ℕ) → EachStatement fs es → Full (row g.NextStatement (map next_statement fs) (bare_leaf end k.End done))
    → Lays (λ r. in_statements (statements es) (Behind end ∷ r)) (spots (row g.NextStatement (map next_statement fs) (bare_leaf end k.End done)))
more_statements [] [] end each full = ahead none
more_statements [] (e ∷ es) end each full = absurd each
more_statements (f ∷ fs) [] end each full = absurd each
more_statements (f ∷ fs) (e ∷ es) end each full = both (each.0 full.1.0 full.1.1) (more_statements fs es end each.1 full.2)

statements_named : (fs : List Forest) (es : List Statement) (end : ℕ) → EachStatement fs es → Full (d.statements fs end) → Lays (λ r. in_statements (statements es) (Behind end ∷ r)) (spots (d.statements fs end))
statements_named [] [] end each full = ahead none
statements_named [] (e ∷ es) end each full = absurd each
statements_named (f ∷ fs) [] end each full = absurd each
statements_named (f ∷ fs) (e ∷ es) end each full =
    let rest = row g.NextStatement (map next_statement fs) (bare_leaf end k.End done) in
    let parts = begun_full f rest full in
    same_spots (spots-begun f rest) (both (each.0 parts.0 parts.1) (more_statements fs es end each.1 parts.2))

contents_named : (ds : List Declared) (xs : List Declaration) (fs : List Forest) (es : List Statement) (end : ℕ) → EachDeclaration ds xs → EachStatement fs es → Full (contents ds fs end)
    → Lays (λ r. in_declarations (declarations xs) (in_statements (statements es) (Behind end ∷ r))) (spots (contents ds fs end))
contents_named [] [] fs es end all each full = statements_named fs es end each full
contents_named [] (x ∷ xs) fs es end all each full = absurd all
contents_named (y ∷ ds) [] fs es end all each full = absurd all
contents_named (Plain f ∷ ds) (x ∷ xs) fs es end all each full = both (all.0 full.1) (contents_named ds xs fs es end all.1 each full.2.2.1)
contents_named (Prefixed name i f ∷ ds) (x ∷ xs) fs es end all each full = both (all.0 full.1.1) (contents_named ds xs fs es end all.1 each full.1.2.2.1)

-- Each node.

abbrev StmtPair : Type 0
StmtPair = induction.StmtPair Says Declares Blocks Classes Procedures Arms

abbrev DeclPair : Type 0
DeclPair = induction.DeclPair Says Declares Blocks Classes Procedures Arms

abbrev BlockPair : Type 0
BlockPair = induction.BlockPair Says Declares Blocks Classes Procedures Arms

abbrev ClassPair : Type 0
ClassPair = induction.ClassPair Says Declares Blocks Classes Procedures Arms

abbrev ProcedurePair : Type 0
ProcedurePair = induction.ProcedurePair Says Declares Blocks Classes Procedures Arms

abbrev WhenPair : Type 0
WhenPair = induction.WhenPair Says Declares Blocks Classes Procedures Arms

abbrev first_stmt : StmtPair → Stmt
first_stmt x = x.0

abbrev first_decl : DeclPair → Decl
first_decl x = x.0

abbrev first_block : BlockPair → Block
first_block x = x.0

abbrev first_class : ClassPair → Class
first_class x = x.0

abbrev first_procedure : ProcedurePair → Procedure
first_procedure x = x.0

abbrev first_when : WhenPair → When
first_when x = x.0

arms_named : (xs : List WhenPair) → Full (row g.WhenArm (map when_derivation (map first_when xs)) done)
    → Lays (in_arms (arms (map arm_syntax (map first_when xs)))) (spots (row g.WhenArm (map when_derivation (map first_when xs)) done))
arms_named [] full = none
arms_named (x ∷ xs) full = both (x.1 full.1) (arms_named xs full.2)

stmt_step : induction.StmtStep Says Declares Blocks Classes Procedures Arms
stmt_step (Stmt-F.Empty i) token full = skip none
stmt_step (Stmt-F.Block b) token full = b.1 full.1
stmt_step (Stmt-F.PrefixedBlock p b) token full = prefix_named p.class p.arguments.items (node g.AfterFirstOperand (node g.Compound (block_derivation b.0) done) done) full (λ full. b.1 full.1.1)
stmt_step (Stmt-F.Inner i) token full = keep none
stmt_step (Stmt-F.Call e) token full = called e done full (λ full. none)
stmt_step (Stmt-F.Assignment e v) token full = assigned_named e v.items token full
stmt_step (Stmt-F.If i e a None) token full = skip (both (expr_named e full.0 full.1) (a.value.1 full.2.0 full.2.1))
stmt_step (Stmt-F.If i e a (Some b)) token full = skip (both (expr_named e full.0 full.1) (both (a.value.1 full.2.0 full.2.1) (b.value.1 full.2.2.1.0 full.2.2.1.1)))
stmt_step (Stmt-F.While i e a) token full = skip (both (expr_named e full.0 full.1) (a.value.1 full.2.0 full.2.1))
stmt_step (Stmt-F.For i x n v a) token full = skip (keep (skip (both (elements_named v.items full.1) (a.value.1 full.2.0 full.2.1))))
stmt_step (Stmt-F.ForReference i x n v a) token full = skip (keep (skip (both (reference_elements_named v.items full.1) (a.value.1 full.2.0 full.2.1))))
stmt_step (Stmt-F.Inspect i e n a m None) token full = skip (both (expr_named e full.0 full.1) (keep (both (a.value.1 full.2.1.0 full.2.1.1) (keep none))))
stmt_step (Stmt-F.Inspect i e n a m (Some b)) token full = skip (both (expr_named e full.0 full.1) (keep (both (a.value.1 full.2.1.0 full.2.1.1) (keep (b.value.1 full.2.2.1.0 full.2.2.1.1)))))
stmt_step (Stmt-F.InspectWhen i e v None) token full = skip (both (expr_named e full.0 full.1) (arms_named v.items full.2.1))
stmt_step (Stmt-F.InspectWhen i e v (Some b)) token full = skip (both (expr_named e full.0 full.1) (both (arms_named v.items full.2.1) (b.value.1 full.2.2.1.0 full.2.2.1.1)))
stmt_step (Stmt-F.Activation i w e o) token full = keep (both (expr_named e full.0 full.1) (timing_named o full.2))

decl_step : induction.DeclStep Says Declares Blocks Classes Procedures Arms
decl_step (Decl-F.Variables n v) = λ full. both (type_named n) (variables_named v.items)
decl_step (Decl-F.Arrays n i v) = λ full. both (type_named n) (skip (segments_named v.items full.2.1))
decl_step (Decl-F.Procedure None i p) = λ full. skip (p.1 full.1 None i.0)
decl_step (Decl-F.Procedure (Some n) i p) = λ full. p.1 full.2.1.1 (Some n) i.0
decl_step (Decl-F.Class None i c) = λ full. skip (c.1 full.1 None i.0)
decl_step (Decl-F.Class (Some x) i c) = λ full. c.1 full (Some x) i.0

block_step : induction.BlockStep Says Declares Blocks Classes Procedures Arms
block_step b full =
    keep
    (contents_named (map declaration_derivation (map first_decl b.declarations.items)) (map declaration_syntax (map first_decl b.declarations.items)) (map statement_derivation (map first_stmt b.statements.items))
    (map statement_syntax (map first_stmt b.statements.items)) b.end.0 (induction.each_declaration Says Declares Blocks Classes Procedures Arms b.declarations.items) (induction.each_statement Says Declares Blocks Classes Procedures Arms b.statements.items) full.1)

class_step : induction.ClassStep Says Declares Blocks Classes Procedures Arms
class_step c full None i =
    let last = node g.Statement (statement_derivation c.body.value.0) (place c.end.0 done) in
    let middle = d.virtuals_derivation c.virtuals.items last in
    keep
    (both (heading_named c.parameters.items c.modes.items c.specifications.items)
    (row_none g.Protection (map d.protection_derivation c.protections.items) middle full.2 (λ full. virtuals_named c.virtuals.items last full (λ full. both (c.body.value.1 full.0 full.1) (keep none)))))
class_step c full (Some x) i =
    let last = node g.Statement (statement_derivation c.body.value.0) (place c.end.0 done) in
    let middle = d.virtuals_derivation c.virtuals.items last in
    keep (skip (keep
    (both (heading_named c.parameters.items c.modes.items c.specifications.items)
    (row_none g.Protection (map d.protection_derivation c.protections.items) middle full.2 (λ full. virtuals_named c.virtuals.items last full (λ full. both (c.body.value.1 full.0 full.1) (keep none)))))))

procedure_step : induction.ProcedureStep Says Declares Blocks Classes Procedures Arms
procedure_step p full None i = keep (both (heading_named p.parameters.items p.modes.items p.specifications.items) (both (p.body.value.1 full.2.0 full.2.1) (keep none)))
procedure_step p full (Some n) i = both (type_named n) (skip (keep (both (heading_named p.parameters.items p.modes.items p.specifications.items) (both (p.body.value.1 full.2.0 full.2.1) (keep none)))))

when_step : induction.WhenStep Says Declares Blocks Classes Procedures Arms
when_step w full = skip (keep (keep (both (w.body.1 full.0 full.1) (keep none))))

name_block : (b : Block) → Blocks (block_derivation b) (block_syntax b)
name_block = induction.each_block Says Declares Blocks Classes Procedures Arms stmt_step decl_step block_step class_step procedure_step when_step

-- a program
name_program : (p : ProgramTree) → Full (program_derivation p) → Lays (in_block (program_syntax p).block) (spots (program_derivation p))
unfolding program_syntax
name_program p full = go p.prefix full
  where
    go : (x : Option BlockPrefix) → Full (d.prefixed x (node g.Compound (block_derivation p.block) done)) → Lays (in_block (block_syntax p.block)) (spots (d.prefixed x (node g.Compound (block_derivation p.block) done)))
    go None full = name_block p.block full.1
    go (Some x) full = skip (behind_arguments (map derivation_of x.arguments.items) (node g.Compound (block_derivation p.block) done) full (λ full. name_block p.block full.1))

pub in_order : (ws : List Token) (p : ProgramTree) → IsTree ws p → InOrder (program_syntax p)
in_order ws p tree =
    let f = node g.Program (program_derivation p) done in
    let full = is_full-Full f (reads_full tree.reads) in
    kept_ascend 0 (in_block (program_syntax p).block []) (spots f []) ((name_program p full.1).lays [] [] kept-none) (reads_ascend tree.reads [] tt)
