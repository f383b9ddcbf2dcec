-- The derivation that the tree of a program stands for.
use Rattle.std.specs.Prelude.{ℕ, List, [], ◌∷◌, map, Option, Some, None, nat_lt, if◌then◌else◌}
use Rattle.sim_base.specs.declared.numbering.TokenNo.{TokenNo}
use Rattle.sim_base.specs.declared.token.TokenKind.{TokenKind}
use Rattle.sim_base.specs.declared.token.TokenKind.TheVariants as k
use Rattle.sim_base.specs.declared.token.TokenValue.TheVariants as token_value
use Rattle.sim_tree.specs.declared.expr.Expr.{Expr}
use Rattle.sim_tree.specs.declared.expr.Identifier.{Identifier}
use Rattle.sim_tree.specs.declared.program.BlockPrefix.{BlockPrefix}
use Rattle.sim_tree.specs.declared.program.Program.{Program}
use Rattle.sim_tree.specs.declared.stmt.Activation.{Activation}
use Rattle.sim_tree.specs.declared.stmt.Activation.TheVariants as activation
use Rattle.sim_tree.specs.declared.stmt.Assigned.{Assigned}
use Rattle.sim_tree.specs.declared.stmt.Assignment.{Assignment}
use Rattle.sim_tree.specs.declared.stmt.Assignment.TheVariants as assignment
use Rattle.sim_tree.specs.declared.stmt.Block.{Block}
use Rattle.sim_tree.specs.declared.stmt.Bounds.{Bounds}
use Rattle.sim_tree.specs.declared.stmt.Constant.{Constant}
use Rattle.sim_tree.specs.declared.stmt.Constant.TheVariants as constant
use Rattle.sim_tree.specs.declared.stmt.Decl.{Decl}
use Rattle.sim_tree.specs.declared.stmt.ForElement.{ForElement}
use Rattle.sim_tree.specs.declared.stmt.ForElement.TheVariants as for_element
use Rattle.sim_tree.specs.declared.stmt.Mode.{Mode}
use Rattle.sim_tree.specs.declared.stmt.Mode.TheVariants as mode
use Rattle.sim_tree.specs.declared.stmt.ModePart.{ModePart}
use Rattle.sim_tree.specs.declared.stmt.Protection.{Protection}
use Rattle.sim_tree.specs.declared.stmt.ReferenceElement.{ReferenceElement}
use Rattle.sim_tree.specs.declared.stmt.ReferenceElement.TheVariants as reference_element
use Rattle.sim_tree.specs.declared.stmt.ArraySegment.{ArraySegment}
use Rattle.sim_tree.specs.declared.stmt.Specification.{Specification}
use Rattle.sim_tree.specs.declared.stmt.Specifier.{Specifier}
use Rattle.sim_tree.specs.declared.stmt.Specifier.TheVariants as specifier
use Rattle.sim_tree.specs.declared.stmt.Stmt.{Stmt}
use Rattle.sim_tree.specs.declared.stmt.Decl.TheOpen.{Stmt-F, Decl-F, Block-F, Class-F, Procedure-F, When-F}
use Rattle.sim_tree.specs.declared.stmt.Decl.TheFolds.{fold-Stmt, fold-Decl, fold-Block, fold-Class, fold-Procedure, fold-When}
use Rattle.sim_tree.specs.declared.stmt.Class.{Class}
use Rattle.sim_tree.specs.declared.stmt.Procedure.{Procedure}
use Rattle.sim_tree.specs.declared.stmt.Timing.{Timing}
use Rattle.sim_tree.specs.declared.stmt.Timing.TheVariants as timing
use Rattle.sim_tree.specs.declared.stmt.TypeName.{TypeName}
use Rattle.sim_tree.specs.declared.stmt.TypeName.TheVariants as type_name
use Rattle.sim_tree.specs.declared.stmt.Variable.{Variable}
use Rattle.sim_tree.specs.declared.stmt.VirtualSpecification.{VirtualSpecification}
use Rattle.sim_tree.specs.declared.stmt.When.{When}
use Rattle.sim_tree.specs.Grammar as g
use Rattle.sim_tree.specs.Reading.{Forest, done, leaf, place, node, bare_leaf}
use Rattle.sim_tree.specs.Derivation.{derivation_of, raise, expression, row, identifier, arguments, sign_kind}

-- one derivation in a row after the other
abbrev pub joined : Forest → Forest → Forest
joined done rest = rest
joined (leaf i kind value f) rest = leaf i kind value (joined f rest)
joined (place i f) rest = place i (joined f rest)
joined (node n inside f) rest = node n inside (joined f rest)

abbrev pub expr : Expr → Forest → Forest
expr e rest = node g.Expression (expression e) rest

-- Lists of identifiers, which have at least one.
abbrev pub next_id : Identifier → Forest
next_id x = identifier x done

abbrev pub ids : List Identifier → Forest
ids [] = done
ids (x ∷ xs) = identifier x (row g.NextIdentifier (map next_id xs) done)

-- Types and constants.
abbrev pub type_derivation : TypeName → Forest
type_derivation (type_name.Integer i) = bare_leaf i.0 k.IntegerWord done
type_derivation (type_name.Boolean i) = bare_leaf i.0 k.Boolean done
type_derivation (type_name.Character i) = bare_leaf i.0 k.CharacterWord done
type_derivation (type_name.Text i) = bare_leaf i.0 k.TextWord done
type_derivation (type_name.Reference i class) = bare_leaf i.0 k.Ref (identifier class done)

-- a type, where one is written, and what stands behind it
abbrev pub typed : Option TypeName → Forest → Forest
typed None rest = rest
typed (Some t) rest = node g.TypeName (type_derivation t) rest

abbrev pub constant_derivation : Constant → Forest
constant_derivation (constant.Integer None i value) = leaf i.0 k.Integer (token_value.Integer value) done
constant_derivation (constant.Integer (Some s) i value) = bare_leaf s.token.0 (sign_kind s.sign) (leaf i.0 k.Integer (token_value.Integer value) done)
constant_derivation (constant.Character i value) = leaf i.0 k.Character (token_value.Character value) done
constant_derivation (constant.Text i value) = leaf i.0 k.Text (token_value.Bytes value) done
constant_derivation (constant.True i) = bare_leaf i.0 k.True done
constant_derivation (constant.False i) = bare_leaf i.0 k.False done

abbrev pub value_derivation : Option Constant → Forest
value_derivation None = done
value_derivation (Some c) = node g.Value (node g.Constant (constant_derivation c) done) done

abbrev pub variable_derivation : Variable → Forest
variable_derivation v = identifier v.name (value_derivation v.value)

abbrev pub next_variable : Variable → Forest
next_variable v = node g.Variable (variable_derivation v) done

abbrev pub variables_derivation : List Variable → Forest
variables_derivation [] = done
variables_derivation (v ∷ vs) = node g.Variable (variable_derivation v) (row g.NextVariable (map next_variable vs) done)

-- Arrays.
abbrev pub bounds_derivation : Bounds → Forest
bounds_derivation b = expr b.lower (expr b.upper done)

abbrev pub next_bounds : Bounds → Forest
next_bounds b = node g.Bounds (bounds_derivation b) done

abbrev pub dimensions : List Bounds → Forest
dimensions [] = done
dimensions (b ∷ bs) = node g.Bounds (bounds_derivation b) (row g.NextBounds (map next_bounds bs) done)

abbrev pub segment_derivation : ArraySegment → Forest
segment_derivation s = node g.Identifiers (ids s.names.items) (dimensions s.bounds.items)

abbrev pub next_segment : ArraySegment → Forest
next_segment s = node g.ArraySegment (segment_derivation s) done

abbrev pub segments_derivation : List ArraySegment → Forest
segments_derivation [] = done
segments_derivation (s ∷ ss) = node g.ArraySegment (segment_derivation s) (row g.NextArraySegment (map next_segment ss) done)

-- Formal parameters.
abbrev pub mode_kind : Mode → TokenKind
mode_kind mode.Value = k.Value
mode_kind mode.Name = k.Name

abbrev pub mode_derivation : ModePart → Forest
mode_derivation m = bare_leaf m.token.0 (mode_kind m.mode) (node g.Identifiers (ids m.names.items) done)

abbrev pub specifier_derivation : Specifier → Forest → Forest
specifier_derivation (specifier.Simple t) rest = node g.TypeName (type_derivation t) rest
specifier_derivation (specifier.Array t i) rest = node g.TypeName (type_derivation t) (node g.SpecifiedKind (bare_leaf i.0 k.Array done) rest)
specifier_derivation (specifier.Procedure None i) rest = bare_leaf i.0 k.Procedure rest
specifier_derivation (specifier.Procedure (Some t) i) rest = node g.TypeName (type_derivation t) (node g.SpecifiedKind (bare_leaf i.0 k.Procedure done) rest)

abbrev pub specification_derivation : Specification → Forest
specification_derivation s = specifier_derivation s.specifier (node g.Identifiers (ids s.names.items) done)

abbrev pub heading_derivation : List Identifier → List ModePart → List Specification → Forest
heading_derivation [] [] [] = done
heading_derivation ps ms ss = node g.Identifiers (ids ps) (row g.Mode (map mode_derivation ms) (row g.Specification (map specification_derivation ss) done))

-- Protection and virtual procedures.
abbrev pub protecting : Option TokenNo → Option TokenNo → Forest → Forest
protecting None None rest = done
protecting (Some h) None rest = bare_leaf h.0 k.Hidden rest
protecting None (Some p) rest = bare_leaf p.0 k.Protected rest
protecting (Some h) (Some p) rest =
    if nat_lt h.0 p.0
    then bare_leaf h.0 k.Hidden (node g.AndProtected (bare_leaf p.0 k.Protected done) rest)
    else bare_leaf p.0 k.Protected (node g.AndHidden (bare_leaf h.0 k.Hidden done) rest)

abbrev pub protection_derivation : Protection → Forest
protection_derivation p = protecting p.hidden p.protected (node g.Identifiers (ids p.names.items) done)

abbrev pub virtual_derivation : VirtualSpecification → Forest
virtual_derivation v = typed v.result (bare_leaf v.token.0 k.Procedure (node g.Identifiers (ids v.names.items) done))

abbrev pub virtuals_derivation : List VirtualSpecification → Forest → Forest
virtuals_derivation [] rest = rest
virtuals_derivation (v ∷ vs) rest = node g.Virtuals (row g.VirtualSpecification (map virtual_derivation (v ∷ vs)) done) rest

-- Parts of statements.
abbrev pub assignment_kind : Assignment → TokenKind
assignment_kind assignment.Value = k.Assign
assignment_kind assignment.Reference = k.AssignReference

abbrev pub assigned_derivation : Assigned → Forest
assigned_derivation a = bare_leaf a.token.0 (assignment_kind a.sign) (expr a.value done)

-- A left side or a call, and what is assigned. Where an identifier begins it, that and its actuals are taken first.
abbrev pub acted : Forest → Forest → Forest
acted (node g.Primary (leaf i k.Identifier value actuals) selected) rest =
    leaf i k.Identifier value (joined actuals (node g.AfterFirstOperand (joined selected rest) done))
acted f rest = node g.Postfix f rest

abbrev pub assigning : Expr → List Assigned → Forest
assigning left [] = done
assigning left (a ∷ others) = acted (raise 1 (derivation_of left)) (row g.Assigned (map assigned_derivation (a ∷ others)) done)

abbrev pub for_element_derivation : ForElement → Forest
for_element_derivation (for_element.Value value) = expr value done
for_element_derivation (for_element.Step start i step limit) = expr start (node g.ForElementTail (bare_leaf i.0 k.Step (expr step (expr limit done))) done)
for_element_derivation (for_element.While value i condition) = expr value (node g.ForElementTail (bare_leaf i.0 k.While (expr condition done)) done)

abbrev pub next_for_element : ForElement → Forest
next_for_element e = node g.ForElement (for_element_derivation e) done

abbrev pub for_elements : List ForElement → Forest
for_elements [] = done
for_elements (e ∷ es) = node g.ForElement (for_element_derivation e) (row g.NextForElement (map next_for_element es) done)

abbrev pub reference_element_derivation : ReferenceElement → Forest
reference_element_derivation (reference_element.Value value) = expr value done
reference_element_derivation (reference_element.While value i condition) = expr value (node g.ReferenceElementTail (bare_leaf i.0 k.While (expr condition done)) done)

abbrev pub next_reference_element : ReferenceElement → Forest
next_reference_element e = node g.ReferenceElement (reference_element_derivation e) done

abbrev pub reference_elements : List ReferenceElement → Forest
reference_elements [] = done
reference_elements (e ∷ es) = node g.ReferenceElement (reference_element_derivation e) (row g.NextReferenceElement (map next_reference_element es) done)

abbrev pub activation_kind : Activation → TokenKind
activation_kind activation.Activate = k.Activate
activation_kind activation.Reactivate = k.Reactivate

abbrev pub prior_derivation : Option TokenNo → Forest
prior_derivation None = done
prior_derivation (Some i) = node g.PriorMark (bare_leaf i.0 k.Prior done) done

abbrev pub timing_inside : Timing → Forest
timing_inside (timing.At i time prior) = bare_leaf i.0 k.At (expr time (prior_derivation prior))
timing_inside (timing.Delay i time prior) = bare_leaf i.0 k.Delay (expr time (prior_derivation prior))
timing_inside (timing.Before i process) = bare_leaf i.0 k.Before (expr process done)
timing_inside (timing.After i process) = bare_leaf i.0 k.After (expr process done)

abbrev pub timing_derivation : Option Timing → Forest
timing_derivation None = done
timing_derivation (Some t) = node g.Timing (timing_inside t) done

abbrev pub prefix_derivation : BlockPrefix → Forest → Forest
prefix_derivation p rest = identifier p.class (arguments (map derivation_of p.arguments.items) rest)

-- Statements. What is inside one is given; a block's is what is inside `begin .. end`.
-- what is inside a declaration, behind the prefix of a class, if one is written
pub data Declared : Type 0 where
  Plain : (inside : Forest) → Declared
  Prefixed : (prefix : Identifier) → (token : ℕ) → (class : Forest) → Declared

abbrev pub next_statement : Forest → Forest
next_statement f = node g.Statement f done

-- The statements of a block and its `end`. Where an identifier begins the first one, it is taken before it.
abbrev pub begun : Forest → Forest → Forest
begun (leaf i k.Identifier value f) rest = leaf i k.Identifier value (node g.AfterIdentifier (node g.StatementOfIdentifier f rest) done)
begun f rest = node g.Statement f rest

abbrev pub statements : List Forest → ℕ → Forest
statements [] end = bare_leaf end k.End done
statements (f ∷ fs) end = begun f (row g.NextStatement (map next_statement fs) (bare_leaf end k.End done))

abbrev pub contents : List Declared → List Forest → ℕ → Forest
contents [] fs end = statements fs end
contents (Plain f ∷ ds) fs end = node g.Declaration f (node g.AfterDeclaration done (node g.Block (contents ds fs end) done))
contents (Prefixed x i f ∷ ds) fs end =
    identifier x (node g.AfterIdentifier (bare_leaf i k.Class (node g.Class f (node g.AfterDeclaration done (node g.Block (contents ds fs end) done)))) done)

abbrev pub block_layer : Block-F Declared Forest Forest Forest Forest Forest → Forest
block_layer b = bare_leaf b.token.0 k.Begin (node g.Block (contents b.declarations.items b.statements.items b.end.0) done)

abbrev pub procedure_layer : Procedure-F Declared Forest Forest Forest Forest Forest → Forest
procedure_layer p =
    identifier p.name (node g.Heading (heading_derivation p.parameters.items p.modes.items p.specifications.items) (node g.Statement p.body.value (place p.end.0 done)))

abbrev pub class_layer : Class-F Declared Forest Forest Forest Forest Forest → Forest
class_layer c =
    identifier c.name (node g.Heading (heading_derivation c.parameters.items c.modes.items c.specifications.items)
    (row g.Protection (map protection_derivation c.protections.items) (virtuals_derivation c.virtuals.items (node g.Statement c.body.value (place c.end.0 done)))))

abbrev pub when_layer : When-F Declared Forest Forest Forest Forest Forest → Forest
when_layer w = bare_leaf w.token.0 k.When (identifier w.class (bare_leaf w.opening.0 k.Do (node g.Statement w.body (place w.end.0 done))))

abbrev pub decl_layer : Decl-F Declared Forest Forest Forest Forest Forest → Declared
decl_layer (Decl-F.Variables t vs) = Plain (node g.TypeName (type_derivation t) (node g.TypedDeclaration (variables_derivation vs.items) done))
decl_layer (Decl-F.Arrays t i ss) = Plain (node g.TypeName (type_derivation t) (node g.TypedDeclaration (bare_leaf i.0 k.Array (segments_derivation ss.items)) done))
decl_layer (Decl-F.Procedure None i p) = Plain (bare_leaf i.0 k.Procedure (node g.Procedure p done))
decl_layer (Decl-F.Procedure (Some t) i p) = Plain (node g.TypeName (type_derivation t) (node g.TypedDeclaration (bare_leaf i.0 k.Procedure (node g.Procedure p done)) done))
decl_layer (Decl-F.Class None i c) = Plain (bare_leaf i.0 k.Class (node g.Class c done))
decl_layer (Decl-F.Class (Some x) i c) = Prefixed x i.0 c

abbrev pub stmt_layer : Stmt-F Declared Forest Forest Forest Forest Forest → Forest
stmt_layer (Stmt-F.Empty i) = place i.0 done
stmt_layer (Stmt-F.Block b) = node g.Compound b done
stmt_layer (Stmt-F.PrefixedBlock p b) = prefix_derivation p (node g.AfterFirstOperand (node g.Compound b done) done)
stmt_layer (Stmt-F.Inner i) = bare_leaf i.0 k.Inner done
stmt_layer (Stmt-F.Call e) = acted (raise 1 (derivation_of e)) done
stmt_layer (Stmt-F.Assignment left rest) = assigning left rest.items
stmt_layer (Stmt-F.If i condition first None) = bare_leaf i.0 k.If (expr condition (node g.Statement first.value done))
stmt_layer (Stmt-F.If i condition first (Some second)) =
    bare_leaf i.0 k.If (expr condition (node g.Statement first.value (node g.ElseBranch (node g.Statement second.value done) done)))
stmt_layer (Stmt-F.While i condition body) = bare_leaf i.0 k.While (expr condition (node g.Statement body.value done))
stmt_layer (Stmt-F.For i x s elements body) =
    bare_leaf i.0 k.For (identifier x (node g.ForList (bare_leaf s.0 k.Assign (for_elements elements.items)) (node g.Statement body.value done)))
stmt_layer (Stmt-F.ForReference i x s elements body) =
    bare_leaf i.0 k.For (identifier x (node g.ForList (bare_leaf s.0 k.AssignReference (reference_elements elements.items)) (node g.Statement body.value done)))
stmt_layer (Stmt-F.Inspect i object opening body end None) =
    bare_leaf i.0 k.Inspect (expr object (node g.Arms (bare_leaf opening.0 k.Do (node g.Statement body.value (place end.0 done))) done))
stmt_layer (Stmt-F.Inspect i object opening body end (Some otherwise)) =
    bare_leaf i.0 k.Inspect (expr object (node g.Arms (bare_leaf opening.0 k.Do (node g.Statement body.value (place end.0 done))) (node g.OtherwiseBranch (node g.Statement otherwise.value done) done)))
stmt_layer (Stmt-F.InspectWhen i object arms None) = bare_leaf i.0 k.Inspect (expr object (node g.Arms (row g.WhenArm arms.items done) done))
stmt_layer (Stmt-F.InspectWhen i object arms (Some otherwise)) =
    bare_leaf i.0 k.Inspect (expr object (node g.Arms (row g.WhenArm arms.items done) (node g.OtherwiseBranch (node g.Statement otherwise.value done) done)))
stmt_layer (Stmt-F.Activation i word process time) = bare_leaf i.0 (activation_kind word) (expr process (timing_derivation time))

abbrev pub statement_derivation : Stmt → Forest
statement_derivation = fold-Stmt Declared Forest Forest Forest Forest Forest decl_layer stmt_layer block_layer class_layer procedure_layer when_layer

abbrev pub declaration_derivation : Decl → Declared
declaration_derivation = fold-Decl Declared Forest Forest Forest Forest Forest decl_layer stmt_layer block_layer class_layer procedure_layer when_layer

abbrev pub block_derivation : Block → Forest
block_derivation = fold-Block Declared Forest Forest Forest Forest Forest decl_layer stmt_layer block_layer class_layer procedure_layer when_layer

abbrev pub class_derivation : Class → Forest
class_derivation = fold-Class Declared Forest Forest Forest Forest Forest decl_layer stmt_layer block_layer class_layer procedure_layer when_layer

abbrev pub procedure_derivation : Procedure → Forest
procedure_derivation = fold-Procedure Declared Forest Forest Forest Forest Forest decl_layer stmt_layer block_layer class_layer procedure_layer when_layer

abbrev pub when_derivation : When → Forest
when_derivation = fold-When Declared Forest Forest Forest Forest Forest decl_layer stmt_layer block_layer class_layer procedure_layer when_layer

abbrev pub prefixed : Option BlockPrefix → Forest → Forest
prefixed None rest = rest
prefixed (Some x) rest = prefix_derivation x rest

-- what is inside a program
abbrev pub program_derivation : Program → Forest
program_derivation p = prefixed p.prefix (node g.Compound (block_derivation p.block) done)
