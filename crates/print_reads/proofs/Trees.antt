-- The tokens of a program can be written where what its derivation keeps can.
use Rattle.std.proofs.Common.{◌≡◌, ℕ, Bool, true, false, List, [], ◌∷◌, ◌++◌, Option, Some, None, map, refl}
use Rattle.std.proofs.lemmas.Bool.{false≢true}
use Rattle.std.specs.List.{AllByRecursion}
use Rattle.std.specs.Prelude.{not, nat_lt, option_map, if◌then◌else◌}
use Rattle.sim_base.specs.declared.token.Token.{Token}
use Rattle.sim_base.specs.declared.token.TokenKind.TheVariants as k
use Rattle.sim_tree.specs.declared.expr.Expr.{Expr}
use Rattle.sim_tree.specs.declared.expr.Identifier.{Identifier}
use Rattle.sim_tree.specs.declared.program.BlockPrefix.{BlockPrefix}
use Rattle.sim_tree.specs.declared.program.Program.{Program as ProgramTree}
use Rattle.sim_tree.specs.declared.stmt.ArraySegment.{ArraySegment}
use Rattle.sim_tree.specs.declared.stmt.Assigned.{Assigned}
use Rattle.sim_tree.specs.declared.stmt.Block.{Block}
use Rattle.sim_tree.specs.declared.stmt.Bounds.{Bounds}
use Rattle.sim_tree.specs.declared.stmt.Decl.{Decl}
use Rattle.sim_tree.specs.declared.stmt.Decl.TheOpen.{Stmt-F, Decl-F}
use Rattle.sim_tree.specs.declared.stmt.ForElement.{ForElement}
use Rattle.sim_tree.specs.declared.stmt.ForElement.TheVariants as for_element
use Rattle.sim_tree.specs.declared.stmt.Protection.{Protection}
use Rattle.sim_tree.specs.declared.stmt.ReferenceElement.{ReferenceElement}
use Rattle.sim_tree.specs.declared.stmt.ReferenceElement.TheVariants as reference_element
use Rattle.sim_tree.specs.declared.stmt.Stmt.{Stmt}
use Rattle.sim_tree.specs.declared.stmt.Timing.{Timing}
use Rattle.sim_tree.specs.declared.stmt.Timing.TheVariants as timing
use Rattle.sim_tree.specs.declared.stmt.TypeName.{TypeName}
use Rattle.sim_tree.specs.declared.stmt.VirtualSpecification.{VirtualSpecification}
use Rattle.sim_tree.specs.declared.stmt.When.{When}
use Rattle.sim_tree.specs.Grammar as g
use Rattle.sim_tree.specs.Nesting.{has_token}
use Rattle.sim_tree.specs.Reading.{Forest, done, leaf, place, node, bare_leaf}
use Rattle.sim_tree.specs.Derivation.{derivation_of, raise, row, expression}
use Rattle.sim_tree.specs.ProgramDerivation as d
use Rattle.sim_tree.specs.ProgramDerivation.{Declared, Prefixed, acted, assigned_derivation, begun, block_derivation, contents, declaration_derivation, joined, next_statement, program_derivation, statement_derivation, when_derivation}
use Rattle.sim_tree.specs.Syntax as s
use Rattle.sim_tree.specs.Syntax.{Declaration, Declarations, Heading, Moded, Specification as SpecificationOf, Statement, declarations, statements}
use Rattle.sim_tree.specs.Syntax.{Block as BlockSyntax}
use Rattle.sim_tree.specs.SyntaxOf.{syntax_of}
use Rattle.sim_tree.specs.SyntaxOfProgram as t
use Rattle.sim_tree.specs.SyntaxOfProgram.{Arm, Classed, Headed, arm_syntax, block_syntax, declaration_syntax, program_syntax, statement_syntax}
use Rattle.sim_tree.specs.Tree.{IsTree, is_bare}
use Rattle.sim_tree.proofs.Full.{reads_full}
use Rattle.sim_tree.proofs.Induction as induction
use Rattle.sim_tree.proofs.ReadExpressions.{Full, is_full-Full}
use Rattle.sim_tree.proofs.ReadStatements.{acted_full}
use Rattle.sim_base.specs.declared.numbering.TokenNo.{TokenNo}
use Rattle.sim_base.specs.declared.token.Lexeme.{Lexeme}
use Rattle.sim_base.specs.declared.token.TokenKind.{TokenKind}
use Rattle.sim_base.specs.Lexeme.{character, named, text, whole_number}
use Rattle.sim_tree.specs.declared.stmt.Activation.{Activation}
use Rattle.sim_tree.specs.declared.stmt.Activation.TheVariants as activation
use Rattle.sim_tree.specs.declared.stmt.Assignment.{Assignment}
use Rattle.sim_tree.specs.declared.stmt.Assignment.TheVariants as assignment
use Rattle.sim_tree.specs.declared.stmt.Constant.{Constant}
use Rattle.sim_tree.specs.declared.stmt.Constant.TheVariants as constant
use Rattle.sim_tree.specs.declared.stmt.Mode.{Mode}
use Rattle.sim_tree.specs.declared.stmt.Mode.TheVariants as mode
use Rattle.sim_tree.specs.declared.stmt.ModePart.{ModePart}
use Rattle.sim_tree.specs.declared.stmt.Specification.{Specification}
use Rattle.sim_tree.specs.declared.stmt.Specifier.{Specifier}
use Rattle.sim_tree.specs.declared.stmt.Specifier.TheVariants as specifier
use Rattle.sim_tree.specs.declared.stmt.TypeName.TheVariants as type_name
use Rattle.sim_tree.specs.declared.stmt.Variable.{Variable}
use Rattle.sim_print.specs.Spelling.{each}
use Rattle.sim_print.specs.Tokens as token
use Rattle.sim_print.specs.Tokens.{behind_comma, listed, one}
use Rattle.print_reads.specs.Writable.{CanBeWritten, IsWritable}
use Rattle.print_reads.proofs.Expressions.{ExpressionWritable, actuals_writable, arguments_given, name_writable, operand_writable, sign_writable, valued, writable_expr}
use Rattle.print_reads.proofs.Leaves.{AreWritable, Good, app, nil, reads-good, single, w}

-- ---- the claims of derivations

abbrev NameWritable : Identifier → Type 0
NameWritable x = IsWritable (named x.name)

abbrev Says : Forest → Statement → Type 0
Says f e = has_token g.Statement f ≡ true → Full f → Good f → AreWritable (token.statement e)

abbrev Declares : Declared → Declaration → Type 0
Declares (d.Plain f) e = Full f → Good f → AreWritable (token.declaration e)
Declares (Prefixed x i f) e = Full f → Good f → NameWritable x → AreWritable (token.declaration e)

abbrev Blocks : Forest → BlockSyntax → Type 0
Blocks f e = Full f → Good f → AreWritable (token.block e)

abbrev Classes : Forest → Classed → Type 0
Classes f e = Full f → Good f → (prefix : Option Identifier) (i : ℕ) → AreWritable (token.class_prefix prefix) → AreWritable (token.declaration (e prefix i))

abbrev Procedures : Forest → Headed → Type 0
Procedures f e = Full f → Good f → (result : Option TypeName) (i : ℕ) → AreWritable (token.result_tokens result) → AreWritable (token.declaration (e result i))

abbrev Arms : Forest → Arm → Type 0
Arms f e = Full f → Good f → NameWritable e.class × AreWritable (token.statement e.body)

abbrev EachStatement : List Forest → List Statement → Type 0
EachStatement = induction.EachStatement Says Declares Blocks Classes Procedures Arms

abbrev EachDeclaration : List Declared → List Declaration → Type 0
EachDeclaration = induction.EachDeclaration Says Declares Blocks Classes Procedures Arms

-- ---- parts of derivations

good_joined : (f h : Forest) → Good (joined f h) → Good f × Good h
good_joined done h c = (tt, c)
good_joined (leaf i kind value f) h c = let r = good_joined f h c.1 in ((c.0, r.0), r.1)
good_joined (place i f) h c = good_joined f h c
good_joined (node n inside f) h c = let r = good_joined f h c.1 in ((c.0, r.0), r.1)

good_acted : (f rest : Forest) → Good (acted f rest) → Good f × Good rest
good_acted (node g.Primary (leaf i k.Identifier value act) sel) rest c =
    let one = good_joined act (node g.AfterFirstOperand (joined sel rest) done) c.1 in
    let two = good_joined sel rest one.1.0 in
    (((c.0, one.0), two.0), two.1)
good_acted f rest c = c

good_begun : (f rest : Forest) → Good (begun f rest) → Good f × Good rest
good_begun (leaf i k.Identifier value f) rest c = ((c.0, c.1.0.0), c.1.0.1)
good_begun f rest c = c

begun_full : (f rest : Forest) → Full (begun f rest) → (has_token g.Statement f ≡ true) × Full f × Full rest
begun_full (leaf i k.Identifier value f) rest full = (refl, full.1.1, full.1.2)
begun_full f rest full = full

-- ---- rows

-- parts behind commas
commas : {A B : Type 0} (n : g.Part) (f : A → Forest) (t : A → B) (written : B → List Lexeme) (xs : List A) → ((x : A) → Full (f x) → Good (f x) → AreWritable (written (t x)))
    → Full (row n (map f xs) done) → Good (row n (map f xs) done) → AreWritable (each (behind_comma written) (map t xs))
commas n f t written [] one full c = nil
commas n f t written (x ∷ xs) one full c = app (app (w k.Comma refl) (one x full.1 c.0)) (commas n f t written xs one full.2 c.1)

bare_commas : {A : Type 0} (n : g.Part) (f : A → Forest) (written : A → List Lexeme) (xs : List A) → ((x : A) → Good (f x) → AreWritable (written x))
    → Good (row n (map f xs) done) → AreWritable (each (behind_comma written) xs)
bare_commas n f written [] one c = nil
bare_commas n f written (x ∷ xs) one c = app (app (w k.Comma refl) (one x c.0)) (bare_commas n f written xs one c.1)

-- parts one behind the other, and what stands behind them
parts : {A B : Type 0} (n : g.Part) (f : A → Forest) (t : A → B) (written : B → List Lexeme) (xs : List A) (rest : Forest)
    → ((x : A) → has_token n (f x) ≡ true → Good (f x) → AreWritable (written (t x)))
    → Full (row n (map f xs) rest) → Good (row n (map f xs) rest) → AreWritable (each written (map t xs)) × Full rest × Good rest
parts n f t written [] rest one full c = (nil, full, c)
parts n f t written (x ∷ xs) rest one full c =
    let others = parts n f t written xs rest one full.2 c.1 in (app (one x full.0 c.0) others.0, others.1, others.2)

-- ---- names, types and constants

names_writable : (xs : List Identifier) → Good (d.ids xs) → AreWritable (token.names xs)
names_writable [] c = nil
names_writable (x ∷ xs) c = app (name_writable x c.0) (bare_commas g.NextIdentifier d.next_id token.name xs (λ x c. name_writable x c.0) c.1)

type_writable : (x : TypeName) → Good (d.type_derivation x) → AreWritable (token.type_tokens x)
type_writable (type_name.Integer i) c = w k.IntegerWord refl
type_writable (type_name.Boolean i) c = w k.Boolean refl
type_writable (type_name.Character i) c = w k.CharacterWord refl
type_writable (type_name.Text i) c = w k.TextWord refl
type_writable (type_name.Reference i class) c = app (w k.Ref refl) (app (w k.Open refl) (app (name_writable class c.1.0) (w k.Close refl)))

typed_writable : (x : Option TypeName) (rest : Forest) → Good (d.typed x rest) → AreWritable (token.result_tokens x) × Good rest
typed_writable None rest c = (nil, c)
typed_writable (Some x) rest c = (type_writable x c.0, c.1)

constant_writable : (x : Constant) → Good (d.constant_derivation x) → AreWritable (token.constant_tokens x)
constant_writable (constant.Integer None i value) c = single (whole_number value) c.0
constant_writable (constant.Integer (Some sn) i value) c = app (sign_writable sn.sign) (single (whole_number value) c.1.0)
constant_writable (constant.Character i value) c = single (character value) c.0
constant_writable (constant.Text i value) c = single (text value) c.0
constant_writable (constant.True i) c = w k.True refl
constant_writable (constant.False i) c = w k.False refl

value_writable : (x : Option Constant) → Good (d.value_derivation x) → AreWritable (token.value_tokens x)
value_writable None c = nil
value_writable (Some x) c = app (w k.Equal refl) (constant_writable x c.0.0)

variable_writable : (v : Variable) → Good (d.variable_derivation v) → AreWritable (token.variable_tokens v)
variable_writable v c = app (name_writable v.name c.0) (value_writable v.value c.1)

variables_writable : (vs : List Variable) → Good (d.variables_derivation vs) → AreWritable (listed token.variable_tokens vs)
variables_writable [] c = nil
variables_writable (v ∷ vs) c = app (variable_writable v c.0) (bare_commas g.NextVariable d.next_variable token.variable_tokens vs (λ x c. variable_writable x c.0) c.1)

-- ---- expressions and parts of statements

expr_writable : (e : Expr) → not (is_bare (expression e)) ≡ true → Full (expression e) → Good (expression e) → ExpressionWritable (syntax_of e)
expr_writable e bare full c = valued (writable_expr e) bare full c

bounds_writable : (b : Bounds) → Full (d.bounds_derivation b) → Good (d.bounds_derivation b) → AreWritable (token.bound_tokens (t.bound_pair_syntax b))
bounds_writable b full c = app (expr_writable b.lower full.0 full.1 c.0) (app (w k.Colon refl) (expr_writable b.upper full.2.0 full.2.1 c.1.0))

dimensions_writable : (bs : List Bounds) → Full (d.dimensions bs) → Good (d.dimensions bs) → AreWritable (listed token.bound_tokens (map t.bound_pair_syntax bs))
dimensions_writable [] full c = nil
dimensions_writable (b ∷ bs) full c = app (bounds_writable b full.1 c.0) (commas g.NextBounds d.next_bounds t.bound_pair_syntax token.bound_tokens bs (λ x full c. bounds_writable x full.1 c.0) full.2 c.1)

segment_writable : (x : ArraySegment) → Full (d.segment_derivation x) → Good (d.segment_derivation x) → AreWritable (token.array_tokens (t.segment_syntax x))
segment_writable x full c = app (names_writable x.names.items c.0) (app (w k.Open refl) (app (dimensions_writable x.bounds.items full.2 c.1) (w k.Close refl)))

segments_writable : (xs : List ArraySegment) → Full (d.segments_derivation xs) → Good (d.segments_derivation xs) → AreWritable (listed token.array_tokens (map t.segment_syntax xs))
segments_writable [] full c = nil
segments_writable (x ∷ xs) full c = app (segment_writable x full.1 c.0) (commas g.NextArraySegment d.next_segment t.segment_syntax token.array_tokens xs (λ x full c. segment_writable x full.1 c.0) full.2 c.1)

element_writable : (x : ForElement) → Full (d.for_element_derivation x) → Good (d.for_element_derivation x) → AreWritable (token.element (t.element_syntax x))
element_writable (for_element.Value e) full c = expr_writable e full.0 full.1 c.0
element_writable (for_element.Step e i a b) full c =
    app (expr_writable e full.0 full.1 c.0) (app (w k.Step refl) (app (expr_writable a full.2.1.0 full.2.1.1 c.1.0.1.0) (app (w k.Until refl) (expr_writable b full.2.1.2.0 full.2.1.2.1 c.1.0.1.1.0))))
element_writable (for_element.While e i a) full c = app (expr_writable e full.0 full.1 c.0) (app (w k.While refl) (expr_writable a full.2.1.0 full.2.1.1 c.1.0.1.0))

elements_writable : (xs : List ForElement) → Full (d.for_elements xs) → Good (d.for_elements xs) → AreWritable (listed token.element (map t.element_syntax xs))
elements_writable [] full c = nil
elements_writable (x ∷ xs) full c = app (element_writable x full.1 c.0) (commas g.NextForElement d.next_for_element t.element_syntax token.element xs (λ x full c. element_writable x full.1 c.0) full.2 c.1)

reference_element_writable : (x : ReferenceElement) → Full (d.reference_element_derivation x) → Good (d.reference_element_derivation x) → AreWritable (token.element (t.reference_element_syntax x))
reference_element_writable (reference_element.Value e) full c = expr_writable e full.0 full.1 c.0
reference_element_writable (reference_element.While e i a) full c = app (expr_writable e full.0 full.1 c.0) (app (w k.While refl) (expr_writable a full.2.1.0 full.2.1.1 c.1.0.1.0))

reference_elements_writable : (xs : List ReferenceElement) → Full (d.reference_elements xs) → Good (d.reference_elements xs) → AreWritable (listed token.element (map t.reference_element_syntax xs))
reference_elements_writable [] full c = nil
reference_elements_writable (x ∷ xs) full c =
    app (reference_element_writable x full.1 c.0) (commas g.NextReferenceElement d.next_reference_element t.reference_element_syntax token.element xs (λ x full c. reference_element_writable x full.1 c.0) full.2 c.1)

prior_writable : (x : Option TokenNo) → AreWritable (token.mark_tokens k.Prior (option_map t.number_of x))
prior_writable None = nil
prior_writable (Some i) = w k.Prior refl

timing_writable : (x : Option Timing) → Full (d.timing_derivation x) → Good (d.timing_derivation x) → AreWritable (token.schedule (t.schedule_syntax x))
timing_writable None full c = nil
timing_writable (Some (timing.At i e p)) full c = app (w k.At refl) (app (expr_writable e full.1.0 full.1.1 c.0.1.0) (prior_writable p))
timing_writable (Some (timing.Delay i e p)) full c = app (w k.Delay refl) (app (expr_writable e full.1.0 full.1.1 c.0.1.0) (prior_writable p))
timing_writable (Some (timing.Before i e)) full c = app (w k.Before refl) (expr_writable e full.1.0 full.1.1 c.0.1.0)
timing_writable (Some (timing.After i e)) full c = app (w k.After refl) (expr_writable e full.1.0 full.1.1 c.0.1.0)

called : (e : Expr) (rest : Forest) → Full (acted (raise 1 (derivation_of e)) rest) → Good (acted (raise 1 (derivation_of e)) rest) → ExpressionWritable (syntax_of e)
called e rest full c = let all = acted_full (raise 1 (derivation_of e)) rest full in operand_writable (writable_expr e) all.0 all.1 (good_acted (raise 1 (derivation_of e)) rest c).0

assign_writable : (x : Assignment) → AreWritable (one (d.assignment_kind x))
assign_writable assignment.Value = w k.Assign refl
assign_writable assignment.Reference = w k.AssignReference refl

sides_writable : (xs : List Assigned) → Full (row g.Assigned (map assigned_derivation xs) done) → Good (row g.Assigned (map assigned_derivation xs) done) → AreWritable (each token.right_side (map t.right_side_syntax xs))
sides_writable [] full c = nil
sides_writable (x ∷ xs) full c = app (app (assign_writable x.sign) (expr_writable x.value full.1.0 full.1.1 c.0.1.0)) (sides_writable xs full.2 c.1)

assigned_writable : (e : Expr) (xs : List Assigned) → has_token g.Statement (d.assigning e xs) ≡ true → Full (d.assigning e xs) → Good (d.assigning e xs)
    → AreWritable (token.expression (syntax_of e) ++ each token.right_side (map t.right_side_syntax xs))
assigned_writable e [] token full c = absurd (false≢true token)
assigned_writable e (x ∷ xs) token full c =
    let rest = row g.Assigned (map assigned_derivation (x ∷ xs)) done in
    let all = acted_full (raise 1 (derivation_of e)) rest full in
    app (called e rest full c) (sides_writable (x ∷ xs) all.2 (good_acted (raise 1 (derivation_of e)) rest c).1)

-- ---- headings

mode_kind_writable : (x : Mode) → AreWritable (one (d.mode_kind x))
mode_kind_writable mode.Value = w k.Value refl
mode_kind_writable mode.Name = w k.Name refl

mode_writable : (m : ModePart) → Good (d.mode_derivation m) → AreWritable (token.mode_tokens (t.mode_syntax m))
mode_writable m c = app (mode_kind_writable m.mode) (app (names_writable m.names.items c.1.0) (w k.Semicolon refl))

specifier_writable : (x : Specifier) (rest : Forest) → Good (d.specifier_derivation x rest) → AreWritable (token.specified_tokens (t.specifier_syntax x)) × Good rest
specifier_writable (specifier.Simple x) rest c = (type_writable x c.0, c.1)
specifier_writable (specifier.Array x i) rest c = (app (type_writable x c.0) (w k.Array refl), c.1.1)
specifier_writable (specifier.Procedure None i) rest c = (w k.Procedure refl, c.1)
specifier_writable (specifier.Procedure (Some x) i) rest c = (app (type_writable x c.0) (w k.Procedure refl), c.1.1)

specification_writable : (x : Specification) → Good (d.specification_derivation x) → AreWritable (token.specification_tokens (t.specification_syntax x))
specification_writable x c =
    let kind = specifier_writable x.specifier (node g.Identifiers (d.ids x.names.items) done) c in
    app kind.0 (app (names_writable x.names.items kind.1.0) (w k.Semicolon refl))

modes_writable : (ms : List ModePart) (rest : Forest) → Good (row g.Mode (map d.mode_derivation ms) rest) → AreWritable (each token.mode_tokens (map t.mode_syntax ms)) × Good rest
modes_writable [] rest c = (nil, c)
modes_writable (m ∷ ms) rest c = let others = modes_writable ms rest c.1 in (app (mode_writable m c.0) others.0, others.1)

specifications_writable : (xs : List Specification) → Good (row g.Specification (map d.specification_derivation xs) done) → AreWritable (each token.specification_tokens (map t.specification_syntax xs))
specifications_writable [] c = nil
specifications_writable (x ∷ xs) c = app (specification_writable x c.0) (specifications_writable xs c.1)

abbrev behind_formals : List ModePart → List Specification → Forest
behind_formals ms xs = row g.Mode (map d.mode_derivation ms) (row g.Specification (map d.specification_derivation xs) done)

heading_parts : (ps : List Identifier) (ms : List ModePart) (xs : List Specification) → Good (d.heading_derivation ps ms xs) → Good (d.ids ps) × Good (behind_formals ms xs)
heading_parts [] [] [] c = (tt, tt)
heading_parts ps ms xs c = c

formals_writable : (ps : List Identifier) → Good (d.ids ps) → AreWritable (token.formal_tokens ps)
formals_writable [] c = nil
formals_writable (x ∷ xs) c = app (w k.Open refl) (app (names_writable (x ∷ xs) c) (w k.Close refl))

heading_writable : (x : Identifier) (ps : List Identifier) (ms : List ModePart) (xs : List Specification) → NameWritable x → Good (d.heading_derivation ps ms xs) → AreWritable (token.heading_tokens (t.heading_syntax x ps ms xs))
heading_writable x ps ms xs name c =
    let inside = heading_parts ps ms xs c in
    let modes = modes_writable ms (row g.Specification (map d.specification_derivation xs) done) inside.1 in
    app (name_writable x name) (app (formals_writable ps inside.0) (app (w k.Semicolon refl) (app modes.0 (specifications_writable xs modes.1))))

-- ---- what a class declares

mark_writable : (kind : TokenKind) → AreWritable (one kind) → (x : Option TokenNo) → AreWritable (token.mark_tokens kind (option_map t.number_of x))
mark_writable kind here None = nil
mark_writable kind here (Some i) = here

protected_names : (h p : Option TokenNo) (rest : Forest) → has_token g.Protection (d.protecting h p rest) ≡ true → Good (d.protecting h p rest) → Good rest
protected_names None None rest token c = absurd (false≢true token)
protected_names (Some h) None rest token c = c.1
protected_names None (Some p) rest token c = c.1
protected_names (Some h) (Some p) rest token c = by (nat_lt h.0 p.0) c
  where
    by : (b : Bool) → Good (if b then bare_leaf h.0 k.Hidden (node g.AndProtected (bare_leaf p.0 k.Protected done) rest) else bare_leaf p.0 k.Protected (node g.AndHidden (bare_leaf h.0 k.Hidden done) rest)) → Good rest
    by true c = c.1.1
    by false c = c.1.1

protection_writable : (x : Protection) → has_token g.Protection (d.protection_derivation x) ≡ true → Good (d.protection_derivation x) → AreWritable (token.protection_tokens (t.protection_syntax x))
protection_writable x has c =
    let names = protected_names x.hidden x.protected (node g.Identifiers (d.ids x.names.items) done) has c in
    app (mark_writable k.Hidden (w k.Hidden refl) x.hidden) (app (mark_writable k.Protected (w k.Protected refl) x.protected) (app (names_writable x.names.items names.0) (w k.Semicolon refl)))

virtual_writable : (x : VirtualSpecification) → Good (d.virtual_derivation x) → AreWritable (token.virtual_tokens (t.virtual_syntax x))
virtual_writable x c =
    let result = typed_writable x.result (bare_leaf x.token.0 k.Procedure (node g.Identifiers (d.ids x.names.items) done)) c in
    app result.0 (app (w k.Procedure refl) (app (names_writable x.names.items result.1.1.0) (w k.Semicolon refl)))

virtuals_writable : (xs : List VirtualSpecification) → Good (row g.VirtualSpecification (map d.virtual_derivation xs) done) → AreWritable (each token.virtual_tokens (map t.virtual_syntax xs))
virtuals_writable [] c = nil
virtuals_writable (x ∷ xs) c = app (virtual_writable x c.0) (virtuals_writable xs c.1)

virtual_part_writable : (xs : List VirtualSpecification) (rest : Forest) → Full (d.virtuals_derivation xs rest) → Good (d.virtuals_derivation xs rest)
    → AreWritable (token.virtual_part (map t.virtual_syntax xs)) × Full rest × Good rest
virtual_part_writable [] rest full c = (nil, full, c)
virtual_part_writable (x ∷ xs) rest full c = (app (w k.Virtual refl) (app (w k.Colon refl) (virtuals_writable (x ∷ xs) c.0)), full.2, c.1)

abbrev behind_heading : List Protection → List VirtualSpecification → Forest → Forest
behind_heading xs ys f = row g.Protection (map d.protection_derivation xs) (d.virtuals_derivation ys f)

interface_writable : (xs : List Protection) (ys : List VirtualSpecification) (f : Forest) → Full (behind_heading xs ys f) → Good (behind_heading xs ys f)
    → AreWritable (token.interface_tokens (t.interface_syntax xs ys)) × Full f × Good f
interface_writable xs ys f full c =
    let protections = parts g.Protection d.protection_derivation t.protection_syntax token.protection_tokens xs (d.virtuals_derivation ys f) protection_writable full c in
    let virtuals = virtual_part_writable ys f protections.1 protections.2 in
    (app protections.0 virtuals.0, virtuals.1, virtuals.2)

-- ---- blocks

more_statements : (fs : List Forest) (es : List Statement) (end : ℕ) → EachStatement fs es → Full (row g.NextStatement (map next_statement fs) (bare_leaf end k.End done)) → Good (row g.NextStatement (map next_statement fs) (bare_leaf end k.End done))
    → AreWritable (token.further_statements (statements es))
more_statements [] [] end all full c = nil
more_statements [] (e ∷ es) end all full c = absurd all
more_statements (f ∷ fs) [] end all full c = absurd all
more_statements (f ∷ fs) (e ∷ es) end all full c = app (w k.Semicolon refl) (app (all.0 full.1.0 full.1.1 c.0.0) (more_statements fs es end all.1 full.2 c.1))

statements_writable : (fs : List Forest) (es : List Statement) (end : ℕ) → EachStatement fs es → Full (d.statements fs end) → Good (d.statements fs end) → AreWritable (token.statements (statements es))
statements_writable [] [] end all full c = nil
statements_writable [] (e ∷ es) end all full c = absurd all
statements_writable (f ∷ fs) [] end all full c = absurd all
statements_writable (f ∷ fs) (e ∷ es) end all full c =
    let rest = row g.NextStatement (map next_statement fs) (bare_leaf end k.End done) in
    let both = begun_full f rest full in
    let good = good_begun f rest c in
    app (all.0 both.0 both.1 good.0) (more_statements fs es end all.1 both.2 good.1)

contents_writable : (ds : List Declared) (xs : List Declaration) (fs : List Forest) (es : List Statement) (end : ℕ) → EachDeclaration ds xs → EachStatement fs es → Full (contents ds fs end) → Good (contents ds fs end)
    → AreWritable (token.declarations (declarations xs)) × AreWritable (token.statements (statements es))
contents_writable [] [] fs es end all every full c = (nil, statements_writable fs es end every full c)
contents_writable [] (x ∷ xs) fs es end all every full c = absurd all
contents_writable (y ∷ ds) [] fs es end all every full c = absurd all
contents_writable (d.Plain f ∷ ds) (x ∷ xs) fs es end all every full c =
    let rest = contents_writable ds xs fs es end all.1 every full.2.2.1 c.1.1.0 in
    (app (all.0 full.1 c.0) (app (w k.Semicolon refl) rest.0), rest.1)
contents_writable (Prefixed name i f ∷ ds) (x ∷ xs) fs es end all every full c =
    let rest = contents_writable ds xs fs es end all.1 every full.1.2.2.1 c.1.0.1.1.1.0 in
    (app (all.0 full.1.1 c.1.0.1.0 c.0) (app (w k.Semicolon refl) rest.0), rest.1)

-- ---- each node

abbrev WhenPair : Type 0
WhenPair = induction.WhenPair Says Declares Blocks Classes Procedures Arms

abbrev first_when : WhenPair → When
first_when x = x.0

arms_writable : (xs : List WhenPair) → Full (row g.WhenArm (map when_derivation (map first_when xs)) done) → Good (row g.WhenArm (map when_derivation (map first_when xs)) done)
    → AreWritable (token.arms (t.arms (map arm_syntax (map first_when xs))))
arms_writable [] full c = nil
arms_writable (x ∷ xs) full c =
    let here = x.1 full.1 c.0 in
    app (w k.When refl) (app (name_writable (arm_syntax x.0).class here.0) (app (w k.Do refl) (app here.1 (arms_writable xs full.2 c.1))))

abbrev StmtPair : Type 0
StmtPair = induction.StmtPair Says Declares Blocks Classes Procedures Arms

abbrev DeclPair : Type 0
DeclPair = induction.DeclPair Says Declares Blocks Classes Procedures Arms

abbrev first_stmt : StmtPair → Stmt
first_stmt x = x.0

abbrev first_decl : DeclPair → Decl
first_decl x = x.0

activation_writable : (x : Activation) → AreWritable (one (d.activation_kind x))
activation_writable activation.Activate = w k.Activate refl
activation_writable activation.Reactivate = w k.Reactivate refl

otherwise_written : (kind : TokenKind) → AreWritable (one kind) → (x : Statement) → AreWritable (token.statement x) → AreWritable (token.branch kind (s.Also x s.NoStatement))
otherwise_written kind here x h = app here (app h nil)

stmt_step : induction.StmtStep Says Declares Blocks Classes Procedures Arms
stmt_step (Stmt-F.Empty i) has full c = nil
stmt_step (Stmt-F.Block b) has full c = b.1 full.1 c.0
stmt_step (Stmt-F.PrefixedBlock x b) has full c =
    let given = arguments_given x.arguments.items (node g.AfterFirstOperand (node g.Compound (block_derivation b.0) done) done) full c.1 in
    app (name_writable x.class c.0) (app (actuals_writable (s.expressions (map syntax_of x.arguments.items)) given.0) (b.1 given.1.1.1 given.2.0.0))
stmt_step (Stmt-F.Inner i) has full c = w k.Inner refl
stmt_step (Stmt-F.Call e) has full c = called e done full c
stmt_step (Stmt-F.Assignment e v) has full c = assigned_writable e v.items has full c
stmt_step (Stmt-F.If i e a None) has full c =
    app (w k.If refl) (app (expr_writable e full.0 full.1 c.1.0) (app (w k.Then refl) (app (a.value.1 full.2.0 full.2.1 c.1.1.0) nil)))
stmt_step (Stmt-F.If i e a (Some b)) has full c =
    app (w k.If refl) (app (expr_writable e full.0 full.1 c.1.0) (app (w k.Then refl) (app (a.value.1 full.2.0 full.2.1 c.1.1.0)
    (otherwise_written k.Else (w k.Else refl) (statement_syntax b.value.0) (b.value.1 full.2.2.1.0 full.2.2.1.1 c.1.1.1.0.0)))))
stmt_step (Stmt-F.While i e a) has full c = app (w k.While refl) (app (expr_writable e full.0 full.1 c.1.0) (app (w k.Do refl) (a.value.1 full.2.0 full.2.1 c.1.1.0)))
stmt_step (Stmt-F.For i x n v a) has full c =
    app (w k.For refl) (app (name_writable x c.1.0) (app (w k.Assign refl) (app (elements_writable v.items full.1 c.1.1.0.1) (app (w k.Do refl) (a.value.1 full.2.0 full.2.1 c.1.1.1.0)))))
stmt_step (Stmt-F.ForReference i x n v a) has full c =
    app (w k.For refl) (app (name_writable x c.1.0) (app (w k.AssignReference refl) (app (reference_elements_writable v.items full.1 c.1.1.0.1) (app (w k.Do refl) (a.value.1 full.2.0 full.2.1 c.1.1.1.0)))))
stmt_step (Stmt-F.Inspect i e n a m None) has full c =
    app (w k.Inspect refl) (app (expr_writable e full.0 full.1 c.1.0) (app (w k.Do refl) (app (a.value.1 full.2.1.0 full.2.1.1 c.1.1.0.1.0) nil)))
stmt_step (Stmt-F.Inspect i e n a m (Some b)) has full c =
    app (w k.Inspect refl) (app (expr_writable e full.0 full.1 c.1.0) (app (w k.Do refl) (app (a.value.1 full.2.1.0 full.2.1.1 c.1.1.0.1.0)
    (otherwise_written k.Otherwise (w k.Otherwise refl) (statement_syntax b.value.0) (b.value.1 full.2.2.1.0 full.2.2.1.1 c.1.1.1.0.0)))))
stmt_step (Stmt-F.InspectWhen i e v None) has full c =
    app (w k.Inspect refl) (app (expr_writable e full.0 full.1 c.1.0) (app (arms_writable v.items full.2.1 c.1.1.0) nil))
stmt_step (Stmt-F.InspectWhen i e v (Some b)) has full c =
    app (w k.Inspect refl) (app (expr_writable e full.0 full.1 c.1.0) (app (arms_writable v.items full.2.1 c.1.1.0)
    (otherwise_written k.Otherwise (w k.Otherwise refl) (statement_syntax b.value.0) (b.value.1 full.2.2.1.0 full.2.2.1.1 c.1.1.1.0.0))))
stmt_step (Stmt-F.Activation i word e o) has full c = app (activation_writable word) (app (expr_writable e full.0 full.1 c.1.0) (timing_writable o full.2 c.1.1))

decl_step : induction.DeclStep Says Declares Blocks Classes Procedures Arms
decl_step (Decl-F.Variables n v) = λ full c. app (type_writable n c.0) (variables_writable v.items c.1.0)
decl_step (Decl-F.Arrays n i v) = λ full c. app (type_writable n c.0) (app (w k.Array refl) (segments_writable v.items full.2.1 c.1.0.1))
decl_step (Decl-F.Procedure None i p) = λ full c. p.1 full.1 c.1.0 None i.0 nil
decl_step (Decl-F.Procedure (Some n) i p) = λ full c. p.1 full.2.1.1 c.1.0.1.0 (Some n) i.0 (type_writable n c.0)
decl_step (Decl-F.Class None i q) = λ full c. q.1 full.1 c.1.0 None i.0 nil
decl_step (Decl-F.Class (Some x) i q) = λ full c name. q.1 full c (Some x) i.0 (name_writable x name)

block_step : induction.BlockStep Says Declares Blocks Classes Procedures Arms
block_step b full c =
    let inside = contents_writable (map declaration_derivation (map first_decl b.declarations.items)) (map declaration_syntax (map first_decl b.declarations.items)) (map statement_derivation (map first_stmt b.statements.items))
    (map statement_syntax (map first_stmt b.statements.items)) b.end.0 (induction.each_declaration Says Declares Blocks Classes Procedures Arms b.declarations.items) (induction.each_statement Says Declares Blocks Classes Procedures Arms b.statements.items)
    full.1 c.1.0 in
    app (w k.Begin refl) (app inside.0 (app inside.1 (w k.End refl)))

class_step : induction.ClassStep Says Declares Blocks Classes Procedures Arms
class_step q full c prefix i written =
    let inside = interface_writable q.protections.items q.virtuals.items (node g.Statement (statement_derivation q.body.value.0) (place q.end.0 done)) full.2 c.1.1 in
    app written (app (w k.Class refl) (app (heading_writable q.name q.parameters.items q.modes.items q.specifications.items c.0 c.1.0)
    (app inside.0 (q.body.value.1 inside.1.0 inside.1.1 inside.2.0))))

procedure_step : induction.ProcedureStep Says Declares Blocks Classes Procedures Arms
procedure_step p full c result i written =
    app written (app (w k.Procedure refl) (app (heading_writable p.name p.parameters.items p.modes.items p.specifications.items c.0 c.1.0) (p.body.value.1 full.2.0 full.2.1 c.1.1.0)))

when_step : induction.WhenStep Says Declares Blocks Classes Procedures Arms
when_step x full c = (c.1.0, x.body.1 full.0 full.1 c.1.1.1.0)

block_writable : (b : Block) → Blocks (block_derivation b) (block_syntax b)
block_writable = induction.each_block Says Declares Blocks Classes Procedures Arms stmt_step decl_step block_step class_step procedure_step when_step

-- ---- a program

prefix_writable : (x : Option BlockPrefix) (f : Forest) → Full (d.prefixed x f) → Good (d.prefixed x f) → AreWritable (token.block_prefix (option_map t.prefix_syntax x)) × Full f × Good f
prefix_writable None f full c = (nil, full, c)
prefix_writable (Some x) f full c =
    let given = arguments_given x.arguments.items f full c.1 in
    (app (name_writable x.class c.0) (actuals_writable (s.expressions (map syntax_of x.arguments.items)) given.0), given.1, given.2)

pub program_writable : (ws : List Token) (p : ProgramTree) → AllByRecursion CanBeWritten ws → IsTree ws p → AreWritable (token.program (program_syntax p))
unfolding program_syntax token.program
program_writable ws p all tree =
    let f = node g.Program (program_derivation p) done in
    let full = is_full-Full f (reads_full tree.reads) in
    let c = reads-good all tree.reads in
    let both = prefix_writable p.prefix (node g.Compound (block_derivation p.block) done) full.1 c.0 in
    app both.0 (block_writable p.block both.1.1 both.2.0)
