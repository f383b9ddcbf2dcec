-- The identifiers that a program declares are among the tokens of its derivation, in order.
use Rattle.std.proofs.Common.{◌≡◌, ℕ, Bool, true, false, List, [], ◌∷◌, ◌++◌, Option, Some, None, map, refl, sym, ap, ◌∙◌, subst, append-nil, append_assoc, if◌then◌else◌}
use Rattle.std.specs.Prelude.{option_map}
use Rattle.sim_base.specs.declared.token.Token.{Token}
use Rattle.sim_base.specs.declared.token.TokenKind.TheVariants as k
use Rattle.sim_scope.specs.Building.{Closes, Declares, Mark, Opens, Provides}
use Rattle.sim_scope.specs.Declare.{array_marks, brings_class, brought_marks, class_marks, class_prefix_marks, declaring, headed_marks, heading_marks, inner_marks, interface_marks, marks_of_standard, mode_part_marks, moded_marks, parameter_marks, prefix_marks, prefixed_marks, procedure_marks, program_marks, protected_marks, protection_marks, provides_attribute, qualified_marks, qualified_result, segment_marks, specification_marks, specified_marks, standard_marks, type_named, variable_marks, virtual_marks, virtual_name_marks}
use Rattle.sim_scope.specs.declared.types.Entry.TheVariants as entry
use Rattle.sim_scope.specs.declared.types.BlockKind.TheVariants as kind
use Rattle.sim_scope.specs.declared.types.Position.{Position}
use Rattle.sim_scope.specs.declared.types.Position.TheVariants.{ClassBody, ClassStatement, Inside}
use Rattle.sim_scope.specs.declared.types.StandardClass.{StandardClass}
use Rattle.sim_scope.specs.declared.types.StandardPrefix.{StandardPrefix}
use Rattle.sim_scope.specs.declared.types.StandardPrefix.TheVariants as prefix
use Rattle.sim_scope.specs.Runs.{each}
use Rattle.sim_scope.specs.Standard.{class_owning, classes_of_sets, classes_of_simulation, is_provided, standard_prefix}
use Rattle.sim_scope.specs.Walk.{arms_events, begin_of, block_events, declaration_events, declarations_events, program_events, statement_events, statements_events, whole_events}
use Rattle.sim_values.specs.declared.standard.Standard.{Standard}
use Rattle.sim_values.specs.declared.standard.TheConstants.{STANDARD_NAMES}
use Rattle.sim_values.specs.Standard.{row_of}
use Rattle.sim_tree.specs.declared.expr.Identifier.{Identifier}
use Rattle.sim_tree.specs.declared.program.BlockPrefix.{BlockPrefix}
use Rattle.sim_tree.specs.declared.program.Program.{Program as ProgramTree}
use Rattle.sim_tree.specs.declared.stmt.ArraySegment.{ArraySegment}
use Rattle.sim_tree.specs.declared.stmt.Block.{Block}
use Rattle.sim_tree.specs.declared.stmt.Constant.{Constant}
use Rattle.sim_tree.specs.declared.stmt.Decl.{Decl}
use Rattle.sim_tree.specs.declared.stmt.Decl.TheOpen.{Stmt-F, Decl-F}
use Rattle.sim_tree.specs.declared.stmt.ModePart.{ModePart}
use Rattle.sim_tree.specs.declared.stmt.Protection.{Protection}
use Rattle.sim_tree.specs.declared.stmt.Specification.{Specification}
use Rattle.sim_tree.specs.declared.stmt.Stmt.{Stmt}
use Rattle.sim_tree.specs.declared.stmt.TypeName.{TypeName}
use Rattle.sim_tree.specs.declared.stmt.TypeName.TheVariants as type_name
use Rattle.sim_tree.specs.declared.stmt.Variable.{Variable}
use Rattle.sim_tree.specs.declared.stmt.VirtualSpecification.{VirtualSpecification}
use Rattle.sim_tree.specs.declared.stmt.When.{When}
use Rattle.sim_tree.specs.Derivation.{Derivation, argument, arguments, derivation_of, expression, raise, row, whole}
use Rattle.sim_tree.specs.Grammar as g
use Rattle.sim_tree.specs.Grammar.{Part}
use Rattle.sim_tree.specs.Named.{IsAscending}
use Rattle.sim_tree.specs.ProgramDerivation as d
use Rattle.sim_tree.specs.ProgramDerivation.{Declared, Prefixed, begun, block_derivation, contents, declaration_derivation, next_statement, program_derivation, statement_derivation, when_derivation}
use Rattle.sim_tree.specs.Reading.{Forest, bare_leaf, done, leaf, node, place}
use Rattle.sim_tree.specs.Syntax as s
use Rattle.sim_tree.specs.Syntax.{Arrayed, Declaration, Heading, Interface, Statement, declarations, statements}
use Rattle.sim_tree.specs.Syntax.{Block as BlockSyntax}
use Rattle.sim_tree.specs.SyntaxOfProgram as t
use Rattle.sim_tree.specs.SyntaxOfProgram.{Arm, Classed, Headed, arm_syntax, block_syntax, declaration_syntax, program_syntax, statement_syntax}
use Rattle.sim_tree.specs.Tree.{IsTree}
use Rattle.sim_tree.proofs.Induction as induction
use Rattle.xref_order.specs.Declared.{declared_tokens, own_token}
use Rattle.xref_order.proofs.Within.{Within, ahead, also, behind, both, leaves, leaves_ascend, none, nothing, over, own, quiet, within_ascend}

-- ---- marks that declare nothing

abbrev Quiet : List Mark → Type 0
Quiet ms = Within ms []

quiet_each : {A : Type 0} (f : A → List Mark) → ((x : A) → Quiet (f x)) → (xs : List A) → Quiet (each f xs)
quiet_each f h [] = none
quiet_each f h (x ∷ xs) = also (h x) (quiet_each f h xs)

qualified_quiet : (type : TypeName) → Quiet (qualified_marks type)
unfolding qualified_marks
qualified_quiet (type_name.Reference i class) = quiet refl none
qualified_quiet _ = none

result_quiet : (result : Option TypeName) → Quiet (qualified_result result)
unfolding qualified_result
result_quiet None = none
result_quiet (Some type) = qualified_quiet type

one_or_none : (b : Bool) (m : Mark) → own_token m ≡ [] → Quiet (if b then m ∷ [] else [])
one_or_none true m e = quiet e none
one_or_none false m e = none

provides_quiet : (which : StandardPrefix) (token : ℕ) (name : Standard) → Quiet (provides_attribute which token name)
unfolding provides_attribute
provides_quiet which token name = one_or_none (is_provided which (row_of name).owner) (Provides (class_owning (row_of name).owner) name token) refl

brings_quiet : (token : ℕ) (which : StandardClass) → Quiet (brings_class token which)
unfolding brings_class
brings_quiet token which = quiet refl none

brought_quiet : (token : ℕ) (which : StandardPrefix) (classes : List StandardClass) → Quiet (brought_marks token which classes)
unfolding brought_marks
brought_quiet token which classes = also (quiet_each (brings_class token) (brings_quiet token) classes) (quiet_each (provides_attribute which token) (provides_quiet which token) STANDARD_NAMES)

of_standard_quiet : (token : ℕ) (which : Option StandardPrefix) → Quiet (marks_of_standard token which)
unfolding marks_of_standard
of_standard_quiet token None = none
of_standard_quiet token (Some prefix.Simset) = brought_quiet token prefix.Simset classes_of_sets
of_standard_quiet token (Some prefix.Simulation) = brought_quiet token prefix.Simulation classes_of_simulation

prefix_quiet : (first : ℕ) (x : Identifier) → Quiet (prefix_marks first x)
unfolding prefix_marks standard_marks
prefix_quiet first x = quiet refl (of_standard_quiet first (standard_prefix x.name))

class_prefix_quiet : (first : ℕ) (x : Option Identifier) → Quiet (class_prefix_marks first x)
unfolding class_prefix_marks
class_prefix_quiet first None = none
class_prefix_quiet first (Some x) = prefix_quiet first x

prefixed_quiet : (x : Identifier) (begin : ℕ) → Quiet (prefixed_marks x begin)
unfolding prefixed_marks
prefixed_quiet x begin = quiet refl (prefix_quiet begin x)

program_quiet : (x : Option s.Prefix) (begin : ℕ) → Quiet (program_marks x begin)
unfolding program_marks
program_quiet None begin = quiet refl none
program_quiet (Some p) begin = prefixed_quiet p.class begin

inner_quiet : (p : Position) (token : ℕ) → Quiet (inner_marks p token)
unfolding inner_marks
inner_quiet ClassStatement token = quiet refl none
inner_quiet ClassBody token = quiet refl none
inner_quiet Inside token = quiet refl none

moded_quiet : (m : s.Moded) → Quiet (mode_part_marks m)
unfolding moded_marks
moded_quiet m = quiet_each (moded_marks m.mode) (λ x. quiet refl none) m.names

specified_quiet : (kind : s.Specified) (x : Identifier) → Quiet (specified_marks kind x)
unfolding specified_marks
specified_quiet (s.Simple type) x = quiet refl (qualified_quiet type)
specified_quiet (s.Array type token) x = quiet refl (qualified_quiet type)
specified_quiet (s.Procedure result token) x = quiet refl (result_quiet result)

specification_quiet : (x : s.Specification) → Quiet (specification_marks x)
specification_quiet x = quiet_each (specified_marks x.kind) (specified_quiet x.kind) x.names

headed_quiet : (x : Identifier) → Quiet (headed_marks x)
unfolding headed_marks
headed_quiet x = quiet refl none

protection_quiet : (p : s.Protected) → Quiet (protection_marks p)
unfolding protected_marks
protection_quiet p = quiet_each (protected_marks _ _) (λ x. quiet refl none) p.names

-- ---- lists of identifiers

more_names : (f : Identifier → List Mark) → ((x : Identifier) → Within (f x) (x.token.0 ∷ [])) → (xs : List Identifier) → Within (each f xs) (leaves (row g.NextIdentifier (map d.next_id xs) done))
more_names f h [] = none
more_names f h (x ∷ xs) = both (h x) (more_names f h xs)

names : (f : Identifier → List Mark) → ((x : Identifier) → Within (f x) (x.token.0 ∷ [])) → (xs : List Identifier) → Within (each f xs) (leaves (d.ids xs))
names f h [] = none
names f h (x ∷ xs) = both (h x) (more_names f h xs)

-- ---- variables and arrays

variable : (type : TypeName) (v : Variable) → Within (variable_marks type v) (v.name.token.0 ∷ [])
unfolding variable_marks
variable type v = go v.value
  where
    go : (o : Option Constant) → Within (elim o [ None ↦ Declares v.name (entry.Variable (type_named type)) ∷ qualified_marks type | Some c ↦ Declares v.name (entry.Constant (type_named type)) ∷ qualified_marks type ]) (v.name.token.0 ∷ [])
    go None = own refl (qualified_quiet type)
    go (Some c) = own refl (qualified_quiet type)

variable_leaves : (type : TypeName) (v : Variable) → Within (variable_marks type v) (leaves (d.variable_derivation v))
variable_leaves type v = behind (leaves (d.value_derivation v.value)) (variable type v)

more_variables : (type : TypeName) (vs : List Variable) → Within (each (variable_marks type) vs) (leaves (row g.NextVariable (map d.next_variable vs) done))
more_variables type [] = none
more_variables type (v ∷ vs) = both (behind [] (variable_leaves type v)) (more_variables type vs)

variables : (type : TypeName) (vs : List Variable) → Within (each (variable_marks type) vs) (leaves (d.variables_derivation vs))
variables type [] = none
variables type (v ∷ vs) = both (variable_leaves type v) (more_variables type vs)

array : (type : TypeName) (n : ℕ) (x : Identifier) → Within (array_marks type n x) (x.token.0 ∷ [])
unfolding array_marks
array type n x = own refl (qualified_quiet type)

segment : (type : TypeName) (a : ArraySegment) → Within (segment_marks type (t.segment_syntax a)) (leaves (d.segment_derivation a))
segment type a = behind (leaves (d.dimensions a.bounds.items)) (names (array_marks type _) (array type _) a.names.items)

more_segments : (type : TypeName) (xs : List ArraySegment) → Within (each (segment_marks type) (map t.segment_syntax xs)) (leaves (row g.NextArraySegment (map d.next_segment xs) done))
more_segments type [] = none
more_segments type (a ∷ xs) = both (behind [] (segment type a)) (more_segments type xs)

segments : (type : TypeName) (xs : List ArraySegment) → Within (each (segment_marks type) (map t.segment_syntax xs)) (leaves (d.segments_derivation xs))
segments type [] = none
segments type (a ∷ xs) = both (segment type a) (more_segments type xs)

-- ---- headings

parameters : (xs : List Identifier) → Within (each parameter_marks xs) (leaves (d.ids xs))
unfolding parameter_marks
parameters xs = names parameter_marks (λ x. own refl none) xs

heading : (x : Identifier) (ps : List Identifier) (ms : List ModePart) (xs : List Specification) → Within (heading_marks (t.heading_syntax x ps ms xs)) (leaves (d.heading_derivation ps ms xs))
heading x ps ms xs = go ps ms xs
  where
    whole : (ps : List Identifier) (ms : List ModePart) (xs : List Specification)
        → Within (heading_marks (t.heading_syntax x ps ms xs)) (leaves (node g.Identifiers (d.ids ps) (row g.Mode (map d.mode_derivation ms) (row g.Specification (map d.specification_derivation xs) done))))
    whole ps ms xs =
        both (parameters ps)
        (behind (leaves (row g.Mode (map d.mode_derivation ms) (row g.Specification (map d.specification_derivation xs) done)))
        (also (quiet_each mode_part_marks moded_quiet (map t.mode_syntax ms)) (also (quiet_each specification_marks specification_quiet (map t.specification_syntax xs)) (quiet_each headed_marks headed_quiet ps))))

    go : (ps : List Identifier) (ms : List ModePart) (xs : List Specification) → Within (heading_marks (t.heading_syntax x ps ms xs)) (leaves (d.heading_derivation ps ms xs))
    go [] [] [] = none
    go [] [] (y ∷ ys) = whole [] [] (y ∷ ys)
    go [] (m ∷ ms) xs = whole [] (m ∷ ms) xs
    go (p ∷ ps) ms xs = whole (p ∷ ps) ms xs

-- ---- what a class declares

row_leaves : (n : Part) (fs : List Forest) (rest : Forest) → leaves (row n fs rest) ≡ leaves (row n fs done) ++ leaves rest
row_leaves n [] rest = refl
row_leaves n (f ∷ fs) rest = ap (λ z. leaves f ++ z) (row_leaves n fs rest) ∙ sym (append_assoc (leaves f) (leaves (row n fs done)) (leaves rest))

virtual_name : (result : Option TypeName) (x : Identifier) → Within (virtual_name_marks result x) (x.token.0 ∷ [])
unfolding virtual_name_marks
virtual_name result x = own refl (result_quiet result)

typed_leaves : {ms : List Mark} (result : Option TypeName) (rest : Forest) → Within ms (leaves rest) → Within ms (leaves (d.typed result rest))
typed_leaves None rest w = w
typed_leaves (Some type) rest w = ahead (leaves (d.type_derivation type)) w

virtual : (v : VirtualSpecification) → Within (virtual_marks (t.virtual_syntax v)) (leaves (d.virtual_derivation v))
virtual v =
    typed_leaves v.result (bare_leaf v.token.0 k.Procedure (node g.Identifiers (d.ids v.names.items) done))
    (over v.token.0 (behind [] (names (virtual_name_marks v.result) (virtual_name v.result) v.names.items)))

each_virtual : (vs : List VirtualSpecification) → Within (each virtual_marks (map t.virtual_syntax vs)) (leaves (row g.VirtualSpecification (map d.virtual_derivation vs) done))
each_virtual [] = none
each_virtual (v ∷ vs) = both (virtual v) (each_virtual vs)

-- in front of what stands behind them
virtuals : {ms : List Mark} (vs : List VirtualSpecification) (rest : Forest) → Within ms (leaves rest) → Within (each virtual_marks (map t.virtual_syntax vs) ++ ms) (leaves (d.virtuals_derivation vs rest))
virtuals [] rest w = w
virtuals (v ∷ vs) rest w = both (each_virtual (v ∷ vs)) w

interface : {ms : List Mark} (ps : List Protection) (vs : List VirtualSpecification) (rest : Forest) → Within ms (leaves rest)
    → Within (interface_marks (t.interface_syntax ps vs) ++ ms) (leaves (row g.Protection (map d.protection_derivation ps) (d.virtuals_derivation vs rest)))
interface {ms} ps vs rest w =
    let protecting = each protection_marks (map t.protection_syntax ps) in
    let inside = leaves (d.virtuals_derivation vs rest) in
    let silent : Within protecting (leaves (row g.Protection (map d.protection_derivation ps) done)) =
    behind (leaves (row g.Protection (map d.protection_derivation ps) done)) (quiet_each protection_marks protection_quiet (map t.protection_syntax ps)) in
    subst (Within (interface_marks (t.interface_syntax ps vs) ++ ms)) (sym (row_leaves g.Protection (map d.protection_derivation ps) (d.virtuals_derivation vs rest)))
    (subst (λ z. Within z (leaves (row g.Protection (map d.protection_derivation ps) done) ++ inside)) (sym (append_assoc protecting (each virtual_marks (map t.virtual_syntax vs)) ms)) (both silent (virtuals vs rest w)))

-- ---- the claims of derivations

abbrev inside_events : Position → BlockSyntax → List Mark
inside_events p (s.Begin i ds xs end) = declarations_events declaring ds ++ statements_events declaring p xs

abbrev Says : Forest → Statement → Type 0
Says f e = (p : Position) → Within (statement_events declaring p e) (leaves f)

abbrev Declares' : Declared → Declaration → Type 0
Declares' (d.Plain f) e = Within (declaration_events declaring e) (leaves f)
Declares' (Prefixed x i f) e = Within (declaration_events declaring e) (leaves f)

abbrev Blocks : Forest → BlockSyntax → Type 0
Blocks f e = (p : Position) → Within (inside_events p e) (leaves f)

abbrev Classes : Forest → Classed → Type 0
Classes f e = (prefix : Option Identifier) (i : ℕ) → Within (declaration_events declaring (e prefix i)) (leaves f)

abbrev Procedures : Forest → Headed → Type 0
Procedures f e = (result : Option TypeName) (i : ℕ) → Within (declaration_events declaring (e result i)) (leaves f)

abbrev Arms : Forest → Arm → Type 0
Arms f e = Within (statement_events declaring Inside e.body) (leaves f)

abbrev EachStatement : List Forest → List Statement → Type 0
EachStatement = induction.EachStatement Says Declares' Blocks Classes Procedures Arms

abbrev EachDeclaration : List Declared → List Declaration → Type 0
EachDeclaration = induction.EachDeclaration Says Declares' Blocks Classes Procedures Arms

-- ---- blocks

begun_leaves : {ms ns : List Mark} (f rest : Forest) → Within ms (leaves f) → Within ns (leaves rest) → Within (ms ++ ns) (leaves (begun f rest))
begun_leaves (leaf i k.Identifier value f) rest w h = plain w h
  where
    plain : {ms ns : List Mark} → Within ms (i ∷ leaves f) → Within ns (leaves rest) → Within (ms ++ ns) (i ∷ ((leaves f ++ leaves rest) ++ []))
    plain {ms} {ns} w h = subst (λ z. Within (ms ++ ns) (i ∷ z)) (sym (append-nil (leaves f ++ leaves rest))) (both w h)
begun_leaves f rest w h = both w h

more_statements : (p : Position) (fs : List Forest) (es : List Statement) (end : ℕ) → EachStatement fs es
    → Within (statements_events declaring p (statements es)) (leaves (row g.NextStatement (map next_statement fs) (bare_leaf end k.End done)))
more_statements p [] [] end all = nothing (end ∷ [])
more_statements p [] (e ∷ es) end all = absurd all
more_statements p (f ∷ fs) [] end all = absurd all
more_statements p (f ∷ fs) (e ∷ es) end all = both (behind [] (all.0 p)) (more_statements p fs es end all.1)

statements_leaves : (p : Position) (fs : List Forest) (es : List Statement) (end : ℕ) → EachStatement fs es → Within (statements_events declaring p (statements es)) (leaves (d.statements fs end))
statements_leaves p [] [] end all = nothing (end ∷ [])
statements_leaves p [] (e ∷ es) end all = absurd all
statements_leaves p (f ∷ fs) [] end all = absurd all
statements_leaves p (f ∷ fs) (e ∷ es) end all = begun_leaves f (row g.NextStatement (map next_statement fs) (bare_leaf end k.End done)) (all.0 p) (more_statements p fs es end all.1)

contents_leaves : (p : Position) (ds : List Declared) (xs : List Declaration) (fs : List Forest) (es : List Statement) (end : ℕ) → EachDeclaration ds xs → EachStatement fs es
    → Within (declarations_events declaring (declarations xs) ++ statements_events declaring p (statements es)) (leaves (contents ds fs end))
contents_leaves p [] [] fs es end all every = statements_leaves p fs es end every
contents_leaves p [] (x ∷ xs) fs es end all every = absurd all
contents_leaves p (y ∷ ds) [] fs es end all every = absurd all
contents_leaves p (d.Plain f ∷ ds) (x ∷ xs) fs es end all every =
    let rest = statements_events declaring p (statements es) in
    subst (λ z. Within z (leaves (contents (d.Plain f ∷ ds) fs end))) (sym (append_assoc (declaration_events declaring x) (declarations_events declaring (declarations xs)) rest))
    (both all.0 (behind [] (contents_leaves p ds xs fs es end all.1 every)))
contents_leaves p (Prefixed name i f ∷ ds) (x ∷ xs) fs es end all every =
    let rest = statements_events declaring p (statements es) in
    subst (λ z. Within z (leaves (contents (Prefixed name i f ∷ ds) fs end))) (sym (append_assoc (declaration_events declaring x) (declarations_events declaring (declarations xs)) rest))
    (over name.token.0 (behind [] (over i (both all.0 (behind [] (contents_leaves p ds xs fs es end all.1 every))))))

whole_within : (b : BlockSyntax) (l : List ℕ) → Within (inside_events Inside b) l → Within (whole_events declaring b) l
unfolding declaring
whole_within (s.Begin i ds xs end) l w =
    let closing = Closes end ∷ [] in
    subst (λ z. Within z l) (append_assoc (declarations_events declaring ds) (statements_events declaring Inside xs) closing) (also w (quiet refl none))

block_within : (b : BlockSyntax) (l : List ℕ) → Within (inside_events Inside b) l → Within (block_events declaring b) l
unfolding declaring
block_within (s.Begin i s.NoDeclaration xs end) l w = w
block_within (s.Begin i (s.With x ds) xs end) l w = quiet refl (also w (quiet refl none))

compound : (p : Position) (b : BlockSyntax) (l : List ℕ) → ((p : Position) → Within (inside_events p b) l) → Within (statement_events declaring p (s.Compound b)) l
compound ClassBody (s.Begin i ds xs end) l h = h ClassStatement
compound ClassStatement b l h = block_within b l (h Inside)
compound Inside b l h = block_within b l (h Inside)

arguments_leaves : {ms : List Mark} (xs : List Derivation) (rest : Forest) → Within ms (leaves rest) → Within ms (leaves (arguments xs rest))
arguments_leaves [] rest w = w
arguments_leaves (x ∷ xs) rest w = ahead (leaves (node g.Expression (whole x) (row g.NextArgument (map argument xs) done))) w

-- ---- each node

abbrev StmtPair : Type 0
StmtPair = induction.StmtPair Says Declares' Blocks Classes Procedures Arms

abbrev DeclPair : Type 0
DeclPair = induction.DeclPair Says Declares' Blocks Classes Procedures Arms

abbrev WhenPair : Type 0
WhenPair = induction.WhenPair Says Declares' Blocks Classes Procedures Arms

abbrev first_stmt : StmtPair → Stmt
first_stmt x = x.0

abbrev first_decl : DeclPair → Decl
first_decl x = x.0

abbrev first_when : WhenPair → When
first_when x = x.0

arms_leaves : (xs : List WhenPair) → Within (arms_events declaring (t.arms (map arm_syntax (map first_when xs)))) (leaves (row g.WhenArm (map when_derivation (map first_when xs)) done))
unfolding declaring
arms_leaves [] = none
arms_leaves (x ∷ xs) = both (quiet refl (also x.1 (quiet refl none))) (arms_leaves xs)

-- a connection
connection : {ms : List Mark} (i j : ℕ) {l : List ℕ} → Within ms l → Within (Opens kind.Connection i i ∷ (ms ++ (Closes j ∷ []))) (i ∷ (l ++ []))
connection i j w = quiet refl (over i (both w (quiet refl none)))

connection_before : (i j : ℕ) (ms ns : List Mark) (l : List ℕ) → Within ((Opens kind.Connection i i ∷ (ms ++ (Closes j ∷ []))) ++ ns) l → Within (Opens kind.Connection i i ∷ (ms ++ (Closes j ∷ ns))) l
connection_before i j ms ns l w = subst (λ z. Within (Opens kind.Connection i i ∷ z) l) (append_assoc ms (Closes j ∷ []) ns) w

stmt_step : induction.StmtStep Says Declares' Blocks Classes Procedures Arms
unfolding declaring
stmt_step (Stmt-F.Empty i) p = none
stmt_step (Stmt-F.Block b) p = behind [] (compound p (block_syntax b.0) (leaves (block_derivation b.0)) b.1)
stmt_step (Stmt-F.PrefixedBlock x b) p =
    over x.class.token.0 (arguments_leaves (map derivation_of x.arguments.items) (node g.AfterFirstOperand (node g.Compound (block_derivation b.0) done) done)
    (both (prefixed_quiet x.class (begin_of (block_syntax b.0))) (behind [] (behind [] (whole_within (block_syntax b.0) (leaves (block_derivation b.0)) (b.1 Inside))))))
stmt_step (Stmt-F.Inner i) p = over i.0 (inner_quiet p i.0)
stmt_step (Stmt-F.Call e) p = nothing (leaves (d.acted (raise 1 (derivation_of e)) done))
stmt_step (Stmt-F.Assignment e v) p = nothing (leaves (d.assigning e v.items))
stmt_step (Stmt-F.If i e a None) p = over i.0 (ahead (leaves (expression e)) (both (a.value.1 Inside) none))
stmt_step (Stmt-F.If i e a (Some b)) p = over i.0 (ahead (leaves (expression e)) (both (a.value.1 Inside) (behind [] (both (b.value.1 Inside) none))))
stmt_step (Stmt-F.While i e a) p = over i.0 (ahead (leaves (expression e)) (behind [] (a.value.1 Inside)))
stmt_step (Stmt-F.For i x n v a) p = over i.0 (over x.token.0 (ahead (n.0 ∷ leaves (d.for_elements v.items)) (behind [] (a.value.1 Inside))))
stmt_step (Stmt-F.ForReference i x n v a) p = over i.0 (over x.token.0 (ahead (n.0 ∷ leaves (d.reference_elements v.items)) (behind [] (a.value.1 Inside))))
stmt_step (Stmt-F.Inspect i e n a m None) p = over i.0 (ahead (leaves (expression e)) (behind [] (connection n.0 m.0 (a.value.1 Inside))))
stmt_step (Stmt-F.Inspect i e n a m (Some b)) p =
    let first = statement_events declaring Inside (statement_syntax a.value.0) in
    let other = statement_events declaring Inside (statement_syntax b.value.0) in
    over i.0 (ahead (leaves (expression e))
    (connection_before n.0 m.0 first (other ++ []) ((n.0 ∷ (leaves (statement_derivation a.value.0) ++ [])) ++ ((leaves (statement_derivation b.value.0) ++ []) ++ []))
    (both (connection n.0 m.0 (a.value.1 Inside)) (behind [] (both (b.value.1 Inside) none)))))
stmt_step (Stmt-F.InspectWhen i e v None) p = over i.0 (ahead (leaves (expression e)) (both (arms_leaves v.items) none))
stmt_step (Stmt-F.InspectWhen i e v (Some b)) p = over i.0 (ahead (leaves (expression e)) (both (arms_leaves v.items) (behind [] (both (b.value.1 Inside) none))))
stmt_step (Stmt-F.Activation i word e o) p = nothing (i.0 ∷ leaves (d.expr e (d.timing_derivation o)))

decl_step : induction.DeclStep Says Declares' Blocks Classes Procedures Arms
unfolding declaring
decl_step (Decl-F.Variables n v) = ahead (leaves (d.type_derivation n)) (behind [] (variables n v.items))
decl_step (Decl-F.Arrays n i v) = ahead (leaves (d.type_derivation n)) (behind [] (over i.0 (segments n v.items)))
decl_step (Decl-F.Procedure None i p) = over i.0 (behind [] (p.1 None i.0))
decl_step (Decl-F.Procedure (Some n) i p) = ahead (leaves (d.type_derivation n)) (behind [] (over i.0 (behind [] (p.1 (Some n) i.0))))
decl_step (Decl-F.Class None i q) = over i.0 (behind [] (q.1 None i.0))
decl_step (Decl-F.Class (Some x) i q) = q.1 (Some x) i.0

block_step : induction.BlockStep Says Declares' Blocks Classes Procedures Arms
block_step b p =
    over b.token.0 (behind []
    (contents_leaves p (map declaration_derivation (map first_decl b.declarations.items)) (map declaration_syntax (map first_decl b.declarations.items)) (map statement_derivation (map first_stmt b.statements.items))
    (map statement_syntax (map first_stmt b.statements.items)) b.end.0 (induction.each_declaration Says Declares' Blocks Classes Procedures Arms b.declarations.items) (induction.each_statement Says Declares' Blocks Classes Procedures Arms b.statements.items)))

procedure_named : (result : Option TypeName) (token : ℕ) (x : Identifier) → Within (procedure_marks result token x) (x.token.0 ∷ [])
unfolding procedure_marks
procedure_named result token x = own refl (also (result_quiet result) (quiet refl none))

class_named : (prefix : Option Identifier) (token : ℕ) (x : Identifier) → Within (class_marks prefix token x) (x.token.0 ∷ [])
unfolding class_marks
class_named prefix token x = own refl (quiet refl (class_prefix_quiet x.token.0 prefix))

class_step : induction.ClassStep Says Declares' Blocks Classes Procedures Arms
unfolding declaring
class_step q prefix i =
    let h = t.heading_syntax q.name q.parameters.items q.modes.items q.specifications.items in
    let j = t.interface_syntax q.protections.items q.virtuals.items in
    let body = statement_derivation q.body.value.0 in
    let inside = statement_events declaring ClassBody (statement_syntax q.body.value.0) ++ (Closes q.end.0 ∷ []) in
    let first = class_marks prefix i q.name in
    let last = node g.Statement body (place q.end.0 done) in
    let all = q.name.token.0 ∷ (leaves (d.heading_derivation q.parameters.items q.modes.items q.specifications.items) ++ leaves (row g.Protection (map d.protection_derivation q.protections.items) (d.virtuals_derivation q.virtuals.items last))) in
    subst (λ z. Within z all) (sym (append_assoc first (heading_marks h ++ interface_marks j) inside ∙ ap (λ z. first ++ z) (append_assoc (heading_marks h) (interface_marks j) inside)))
    (both (class_named prefix i q.name) (both (heading q.name q.parameters.items q.modes.items q.specifications.items)
    (interface q.protections.items q.virtuals.items (node g.Statement body (place q.end.0 done)) (both (q.body.value.1 ClassBody) (quiet refl none)))))

procedure_step : induction.ProcedureStep Says Declares' Blocks Classes Procedures Arms
unfolding declaring
procedure_step p result i =
    both (both (procedure_named result i p.name) (heading p.name p.parameters.items p.modes.items p.specifications.items)) (both (p.body.value.1 Inside) (quiet refl none))

when_step : induction.WhenStep Says Declares' Blocks Classes Procedures Arms
when_step x = over x.token.0 (over x.class.token.0 (over x.opening.0 (behind [] (x.body.1 Inside))))

block_leaves : (b : Block) → Blocks (block_derivation b) (block_syntax b)
block_leaves = induction.each_block Says Declares' Blocks Classes Procedures Arms stmt_step decl_step block_step class_step procedure_step when_step

-- ---- a program

program_within : (p : ProgramTree) → Within (program_events declaring (program_syntax p)) (leaves (program_derivation p))
unfolding program_events program_syntax declaring
program_within p = go p.prefix
  where
    whole : Within (whole_events declaring (block_syntax p.block)) (leaves (node g.Compound (block_derivation p.block) done))
    whole = behind [] (whole_within (block_syntax p.block) (leaves (block_derivation p.block)) (block_leaves p.block Inside))

    go : (x : Option BlockPrefix) → Within (program_marks (option_map t.prefix_syntax x) (begin_of (block_syntax p.block)) ++ whole_events declaring (block_syntax p.block)) (leaves (d.prefixed x (node g.Compound (block_derivation p.block) done)))
    go None = both (program_quiet None (begin_of (block_syntax p.block))) whole
    go (Some x) =
        over x.class.token.0 (arguments_leaves (map derivation_of x.arguments.items) (node g.Compound (block_derivation p.block) done)
        (both (program_quiet (Some (t.prefix_syntax x)) (begin_of (block_syntax p.block))) whole))

pub declared_ascend : (tokens : List Token) (p : ProgramTree) → IsTree tokens p → IsAscending (declared_tokens (program_syntax p))
declared_ascend tokens p is =
    within_ascend (behind [] (program_within p)) (leaves_ascend is.reads)
