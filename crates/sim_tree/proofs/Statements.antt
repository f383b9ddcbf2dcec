-- How deep the derivations of statements and declarations nest.
use Rattle.std.proofs.Common.{◌≡◌, ◌≤◌, ℕ, ◌+◌, max, Bool, true, false, List, [], ◌∷◌, Option, Some, None, map, subst, if◌then◌else◌, refl, ap, arith}
use Rattle.std.proofs.lemmas.Bool.{false≢true}
use Rattle.std.specs.Prelude.{nat_lt, not}
use Rattle.std.specs.declared.alloc.Global.{Global}
use Rattle.std.specs.declared.boxed.Box.{Box}
use Rattle.std.specs.declared.vec.Vec.{Vec}
use Rattle.sim_base.specs.declared.numbering.TokenNo.{TokenNo}
use Rattle.sim_base.specs.declared.token.TokenKind.TheVariants as k
use Rattle.sim_tree.specs.declared.expr.Expr.{Expr}
use Rattle.sim_tree.specs.declared.expr.Identifier.{Identifier}
use Rattle.sim_tree.specs.declared.program.BlockPrefix.{BlockPrefix}
use Rattle.sim_tree.specs.declared.stmt.Assigned.{Assigned}
use Rattle.sim_tree.specs.declared.stmt.Bounds.{Bounds}
use Rattle.sim_tree.specs.declared.stmt.Constant.{Constant}
use Rattle.sim_tree.specs.declared.stmt.Constant.TheVariants as constant
use Rattle.sim_tree.specs.declared.stmt.Block.{Block}
use Rattle.sim_tree.specs.declared.stmt.Class.{Class}
use Rattle.sim_tree.specs.declared.stmt.Decl.TheVariants as decl
use Rattle.sim_tree.specs.declared.stmt.Procedure.{Procedure}
use Rattle.sim_tree.specs.declared.program.Program.{Program}
use Rattle.sim_base.specs.declared.token.Token.{Token}
use Rattle.sim_tree.specs.declared.stmt.ForElement.{ForElement}
use Rattle.sim_tree.specs.declared.stmt.ModePart.{ModePart}
use Rattle.sim_tree.specs.declared.stmt.Protection.{Protection}
use Rattle.sim_tree.specs.declared.stmt.ReferenceElement.{ReferenceElement}
use Rattle.sim_tree.specs.declared.stmt.ArraySegment.{ArraySegment}
use Rattle.sim_tree.specs.declared.stmt.Specification.{Specification}
use Rattle.sim_tree.specs.declared.stmt.Specifier.{Specifier}
use Rattle.sim_tree.specs.declared.stmt.Specifier.TheVariants as specifier
use Rattle.sim_tree.specs.declared.stmt.Stmt.{Stmt}
use Rattle.sim_tree.specs.declared.stmt.Stmt.TheVariants as s
use Rattle.sim_tree.specs.declared.stmt.TypeName.{TypeName}
use Rattle.sim_tree.specs.declared.stmt.TypeName.TheVariants as type_name
use Rattle.sim_tree.specs.declared.stmt.Variable.{Variable}
use Rattle.sim_tree.specs.declared.stmt.VirtualSpecification.{VirtualSpecification}
use Rattle.sim_tree.specs.declared.stmt.When.{When}
use Rattle.sim_tree.specs.Grammar as g
use Rattle.sim_tree.specs.Reading.{Forest, done, place, node, bare_leaf}
use Rattle.sim_tree.specs.Derivation.{derivation_of, row, whole, argument, identifier}
use Rattle.sim_tree.specs.ProgramDerivation.{Declared, Plain, Prefixed, assigned_derivation, assigning, block_derivation, bounds_derivation, class_derivation, constant_derivation, contents, declaration_derivation, dimensions, for_element_derivation, for_elements, heading_derivation, ids, mode_derivation, next_bounds, next_for_element, next_id, next_reference_element, next_segment, next_statement, next_variable, prefix_derivation, prior_derivation, procedure_derivation, program_derivation, protecting, protection_derivation, reference_element_derivation, reference_elements, segment_derivation, segments_derivation, specification_derivation, specifier_derivation, statements, statement_derivation, type_derivation, typed, value_derivation, variable_derivation, variables_derivation, virtual_derivation, virtuals_derivation, when_derivation}
use Rattle.sim_tree.specs.Tree.{is_bare, depth_of, IsTree}
use Rattle.sim_tree.specs.Nesting.{apart, branch_derivation, capped, is_full, Nests, NestsInside, Largest, largest-none, largest-more}
use Rattle.sim_tree.proofs.Nests.{along, at_list, counted, followed, in_arguments, mapped, nests_acted, nests_alone, nests_begun, nests_done, nests_leaf, nests_node, nests_place, inside_of, rows, flat_row, same}
use Rattle.sim_tree.proofs.Bounded.{bounded}
use Rattle.sim_tree.proofs.Full.{reads_full}
use Rattle.sim_tree.proofs.StatementLemmas as lemma

-- What has no statement or expression in it.
pub flat_ids : (xs : List Identifier) → Nests (ids xs) 0
flat_ids [] = nests_done
flat_ids (x ∷ xs) = nests_leaf (flat_row g.NextIdentifier next_id xs refl (λ y. nests_leaf nests_done) nests_done)

flat_names : (xs : List Identifier) → Nests (node g.Identifiers (ids xs) done) 0
flat_names xs = nests_alone refl (flat_ids xs)

-- a part without statements and expressions, and what is behind it
pub before : {n : g.Part} {f h : Forest} {a : ℕ} → g.is_counted n ≡ false → Nests f 0 → Nests h a → Nests (node n f h) a
before {a = a} e flat rest = same (let z : max 0 a ≡ a = omega arith in z) (nests_node e flat rest)

pub flat_type : (t : TypeName) → Nests (type_derivation t) 0
flat_type (type_name.Integer i) = nests_leaf nests_done
flat_type (type_name.Boolean i) = nests_leaf nests_done
flat_type (type_name.Character i) = nests_leaf nests_done
flat_type (type_name.Text i) = nests_leaf nests_done
flat_type (type_name.Reference i class) = nests_leaf (nests_leaf nests_done)

flat_typed : (t : Option TypeName) {f : Forest} → Nests f 0 → Nests (typed t f) 0
flat_typed None h = h
flat_typed (Some t) h = before refl (flat_type t) h

flat_constant : (c : Constant) → Nests (constant_derivation c) 0
flat_constant (constant.Integer None i value) = nests_leaf nests_done
flat_constant (constant.Integer (Some x) i value) = nests_leaf (nests_leaf nests_done)
flat_constant (constant.Character i value) = nests_leaf nests_done
flat_constant (constant.Text i value) = nests_leaf nests_done
flat_constant (constant.True i) = nests_leaf nests_done
flat_constant (constant.False i) = nests_leaf nests_done

flat_value : (c : Option Constant) → Nests (value_derivation c) 0
flat_value None = nests_done
flat_value (Some c) = nests_alone refl (nests_alone refl (flat_constant c))

flat_variable : (v : Variable) → Nests (variable_derivation v) 0
flat_variable v = nests_leaf (flat_value v.value)

pub flat_variables : (vs : List Variable) → Nests (variables_derivation vs) 0
flat_variables [] = nests_done
flat_variables (v ∷ vs) = before refl (flat_variable v) (flat_row g.NextVariable next_variable vs refl (λ x. nests_alone refl (flat_variable x)) nests_done)

flat_specifier : (x : Specifier) {f : Forest} → Nests f 0 → Nests (specifier_derivation x f) 0
flat_specifier (specifier.Simple t) h = before refl (flat_type t) h
flat_specifier (specifier.Array t i) h = before refl (flat_type t) (before refl (nests_leaf nests_done) h)
flat_specifier (specifier.Procedure None i) h = nests_leaf h
flat_specifier (specifier.Procedure (Some t) i) h = before refl (flat_type t) (before refl (nests_leaf nests_done) h)

pub flat_heading : (ps : List Identifier) (ms : List ModePart) (ss : List Specification) → Nests (heading_derivation ps ms ss) 0
flat_heading [] [] [] = nests_done
flat_heading ps ms ss =
    before refl (flat_ids ps) (flat_row g.Mode mode_derivation ms refl (λ m. nests_leaf (flat_names m.names.items))
    (flat_row g.Specification specification_derivation ss refl (λ x. flat_specifier x.specifier (flat_names x.names.items)) nests_done))

flat_protecting : (h p : Option TokenNo) {f : Forest} → Nests f 0 → Nests (protecting h p f) 0
flat_protecting None None rest = nests_done
flat_protecting (Some h) None rest = nests_leaf rest
flat_protecting None (Some p) rest = nests_leaf rest
flat_protecting (Some h) (Some p) {f} rest = go (nat_lt h.0 p.0)
  where
    go : (b : Bool) → Nests (if b then bare_leaf h.0 k.Hidden (node g.AndProtected (bare_leaf p.0 k.Protected done) f) else bare_leaf p.0 k.Protected (node g.AndHidden (bare_leaf h.0 k.Hidden done) f)) 0
    go true = nests_leaf (before refl (nests_leaf nests_done) rest)
    go false = nests_leaf (before refl (nests_leaf nests_done) rest)

flat_protections : (ps : List Protection) {f : Forest} {a : ℕ} → Nests f a → Nests (row g.Protection (map protection_derivation ps) f) a
flat_protections ps rest = flat_row g.Protection protection_derivation ps refl (λ p. flat_protecting p.hidden p.protected (flat_names p.names.items)) rest

flat_virtuals : (vs : List VirtualSpecification) {f : Forest} {a : ℕ} → Nests f a → Nests (virtuals_derivation vs f) a
flat_virtuals [] rest = rest
flat_virtuals (v ∷ vs) rest =
    before refl (flat_row g.VirtualSpecification virtual_derivation (v ∷ vs) refl (λ x. flat_typed x.result (nests_leaf (flat_names x.names.items))) nests_done) rest

-- a body, and the token behind it
pub nests_to_its_end : (i : ℕ) {f : Forest} {a : ℕ} → Nests (next_statement f) a → Nests (node g.Statement f (place i done)) a
nests_to_its_end i {a = a} body = same (let z : max a 0 ≡ a = omega arith in z) (followed body (nests_place nests_done))

-- what stands in front of the body of a procedure, and of a class
pub nests_procedure : (x : Identifier) (ps : List Identifier) (ms : List ModePart) (ss : List Specification) (i : ℕ) {f : Forest} {a : ℕ}
    → Nests (next_statement f) a → Nests (identifier x (node g.Heading (heading_derivation ps ms ss) (node g.Statement f (place i done)))) a
nests_procedure x ps ms ss i body = nests_leaf (before refl (flat_heading ps ms ss) (nests_to_its_end i body))

pub nests_class : (x : Identifier) (ps : List Identifier) (ms : List ModePart) (ss : List Specification) (rs : List Protection) (vs : List VirtualSpecification) (i : ℕ) {f : Forest} {a : ℕ}
    → Nests (next_statement f) a
    → Nests (identifier x (node g.Heading (heading_derivation ps ms ss) (row g.Protection (map protection_derivation rs) (virtuals_derivation vs (node g.Statement f (place i done)))))) a
nests_class x ps ms ss rs vs i body =
    nests_leaf (before refl (flat_heading ps ms ss) (flat_protections rs (flat_virtuals vs (nests_to_its_end i body))))

-- Lists whose first part is no further one.
first_and_more : (a b : ℕ) → max a (max b 0) ≡ max a b
first_and_more a b = omega arith

pub nests_dimensions : {bs : List Bounds} {a : ℕ} → Largest (λ x. Nests (bounds_derivation x)) bs a → Nests (dimensions bs) a
nests_dimensions largest-none = nests_done
nests_dimensions (largest-more {a = a} {b = b} one others) = same (first_and_more a b) (followed (nests_alone refl one) (rows g.NextBounds refl (mapped next_bounds (λ x n z. nests_alone refl z) others) nests_done))

pub nests_segments : {ss : List ArraySegment} {a : ℕ} → Largest (λ x. Nests (segment_derivation x)) ss a → Nests (segments_derivation ss) a
nests_segments largest-none = nests_done
nests_segments (largest-more {a = a} {b = b} one others) = same (first_and_more a b) (followed (nests_alone refl one) (rows g.NextArraySegment refl (mapped next_segment (λ x n z. nests_alone refl z) others) nests_done))

pub nests_for_elements : {es : List ForElement} {a : ℕ} → Largest (λ x. Nests (for_element_derivation x)) es a → Nests (for_elements es) a
nests_for_elements largest-none = nests_done
nests_for_elements (largest-more {a = a} {b = b} one others) = same (first_and_more a b) (followed (nests_alone refl one) (rows g.NextForElement refl (mapped next_for_element (λ x n z. nests_alone refl z) others) nests_done))

pub nests_reference_elements : {es : List ReferenceElement} {a : ℕ} → Largest (λ x. Nests (reference_element_derivation x)) es a → Nests (reference_elements es) a
nests_reference_elements largest-none = nests_done
nests_reference_elements (largest-more {a = a} {b = b} one others) = same (first_and_more a b) (followed (nests_alone refl one) (rows g.NextReferenceElement refl (mapped next_reference_element (λ x n z. nests_alone refl z) others) nests_done))

-- Statements.
pub nests_stmt : {f : Forest} {a : ℕ} → is_bare f ≡ false → Nests f a → Nests (next_statement f) (capped (a + 1))
nests_stmt bare h = counted refl bare h.known

pub nests_prefixed : (p : BlockPrefix) (xs : List Expr) {f : Forest} {a b : ℕ} → xs ≡ p.arguments.items → Largest (λ x. Nests (argument (derivation_of x))) xs a → Nests f b → Nests (prefix_derivation p f) (max a b)
nests_prefixed p xs is h rest = nests_leaf (in_arguments (mapped derivation_of (λ x n z. z) (at_list is h)) rest)

pub nests_assigning : (left : Expr) (others : List Assigned) {a b : ℕ} → NestsInside (derivation_of left) a → Largest (λ x. Nests (assigned_derivation x)) others b → Nests (next_statement (assigning left others)) (capped (max a b + 1))
nests_assigning left [] h rest = record { known = λ full. absurd (false≢true full) }
nests_assigning left (x ∷ xs) {a} {b} h rest =
    same (let z : capped (max a (max b 0) + 1) ≡ capped (max a b + 1) = omega arith in z) (nests_acted (derivation_of left) h (rows g.Assigned refl (mapped assigned_derivation (λ x n z. z) rest) nests_done))

pub nests_if : (i : TokenNo) (e : Expr) (b : Box Stmt Global) (o : Option (Box Stmt Global)) {x y z : ℕ}
    → Nests (argument (derivation_of e)) x → Nests (next_statement (statement_derivation b.value)) y → Nests (branch_derivation o) z → Nests (next_statement (statement_derivation (s.If i e b o))) (capped (max (max x y) z + 1))
nests_if i e b None {x} {y} {z} one two three =
    along (ap next_statement (lemma.derivation-If i e b)) (nests_stmt refl (nests_leaf (same (let q : max x (max y z) ≡ max (max x y) z = omega arith in q) (followed one (followed two three)))))
nests_if i e b (Some o) {x} {y} {z} one two three =
    along (ap next_statement (lemma.derivation-If-two i e b o)) (nests_stmt refl (nests_leaf (same (let q : max x (max y z) ≡ max (max x y) z = omega arith in q) (followed one (followed two (nests_alone refl three))))))

pub nests_inspect : (i : TokenNo) (e : Expr) (d : TokenNo) (b : Box Stmt Global) (n : TokenNo) (o : Option (Box Stmt Global)) {x y z : ℕ}
    → Nests (argument (derivation_of e)) x → Nests (next_statement (statement_derivation b.value)) y → Nests (branch_derivation o) z → Nests (next_statement (statement_derivation (s.Inspect i e d b n o))) (capped (max (max x y) z + 1))
nests_inspect i e d b n None {x} {y} {z} one two three =
    along (ap next_statement (lemma.derivation-Inspect i e d b n)) (nests_stmt refl (nests_leaf (same (let q : max x (max y z) ≡ max (max x y) z = omega arith in q) (followed one (nests_node refl (nests_leaf (nests_to_its_end n.0 two)) three)))))
nests_inspect i e d b n (Some o) {x} {y} {z} one two three =
    along (ap next_statement (lemma.derivation-Inspect-two i e d b n o)) (nests_stmt refl (nests_leaf (same (let q : max x (max y z) ≡ max (max x y) z = omega arith in q) (followed one (nests_node refl (nests_leaf (nests_to_its_end n.0 two)) (nests_alone refl three))))))

pub nests_inspect_when : (i : TokenNo) (e : Expr) (v : Vec When Global) (o : Option (Box Stmt Global)) {x y z : ℕ}
    → Nests (argument (derivation_of e)) x → Largest (λ w. Nests (when_derivation w)) v.items y → Nests (branch_derivation o) z → Nests (next_statement (statement_derivation (s.InspectWhen i e v o))) (capped (max (max x y) z + 1))
nests_inspect_when i e v None {x} {y} {z} one two three =
    along (ap next_statement (lemma.derivation-InspectWhen i e v)) (nests_stmt refl (nests_leaf (same (let q : max x (max (max y 0) z) ≡ max (max x y) z = omega arith in q) (followed one (nests_node refl (rows g.WhenArm refl (mapped when_derivation (λ x n z. z) two) nests_done) three)))))
nests_inspect_when i e v (Some o) {x} {y} {z} one two three =
    along (ap next_statement (lemma.derivation-InspectWhen-two i e v o))
    (nests_stmt refl (nests_leaf (same (let q : max x (max (max y 0) z) ≡ max (max x y) z = omega arith in q) (followed one (nests_node refl (rows g.WhenArm refl (mapped when_derivation (λ x n z. z) two) nests_done) (nests_alone refl three))))))

-- the statements of a block
pub nests_statements : (fs : List Forest) (i : ℕ) {a : ℕ} → Largest (λ f. Nests (next_statement f)) fs a → Nests (statements fs i) a
nests_statements [] i largest-none = nests_leaf nests_done
nests_statements (f ∷ fs) i (largest-more {a = a} {b = b} one others) = same (first_and_more a b) (nests_begun f one (rows g.NextStatement refl (mapped next_statement (λ x n z. z) others) (nests_leaf nests_done)))

-- a block
pub nests_contents : (ds : List Declared) (fs : List Forest) (i : ℕ) {a b : ℕ} → Largest (λ d. Nests (apart d)) ds a → Largest (λ f. Nests (next_statement f)) fs b → Nests (contents ds fs i) (max a b)
nests_contents [] fs i {b = b} largest-none rest = same (let z : b ≡ max 0 b = omega arith in z) (nests_statements fs i rest)
nests_contents (Plain f ∷ ds) fs i {b = b} (largest-more {a = x} {b = y} one others) rest =
    same (let z : max x (max y b) ≡ max (max x y) b = omega arith in z) (followed one (before refl nests_done (nests_alone refl (nests_contents ds fs i others rest))))
nests_contents (Prefixed p j f ∷ ds) fs i {b = b} (largest-more {a = x} {b = y} one others) rest =
    same (let z : max x (max y b) ≡ max (max x y) b = omega arith in z)
    (nests_leaf (nests_alone refl (nests_leaf (followed one (before refl nests_done (nests_alone refl (nests_contents ds fs i others rest)))))))

pub nests_block : (b : Block) {a x : ℕ} → Largest (λ d. Nests (apart (declaration_derivation d))) b.declarations.items a → Largest (λ f. Nests (next_statement (statement_derivation f))) b.statements.items x → Nests (block_derivation b) (max a x)
nests_block b ds ss =
    along (lemma.derivation-block b.token b.declarations b.statements b.end)
    (nests_leaf (nests_alone refl (nests_contents (map declaration_derivation b.declarations.items) (map statement_derivation b.statements.items) b.end.0 (mapped declaration_derivation (λ x n z. z) ds) (mapped statement_derivation (λ x n z. z) ss))))

-- declarations
pub nests_declared_procedure : (t : Option TypeName) (i : TokenNo) (p : Procedure) {a : ℕ} → Nests (next_statement (statement_derivation p.body.value)) a → Nests (apart (declaration_derivation (decl.Procedure t i p))) a
nests_declared_procedure t i p {a} body = go t (along (lemma.derivation-procedure p.name p.parameters p.modes p.specifications p.body p.end) (nests_procedure p.name p.parameters.items p.modes.items p.specifications.items p.end.0 body))
  where
    go : (t : Option TypeName) → Nests (procedure_derivation p) a → Nests (apart (declaration_derivation (decl.Procedure t i p))) a
    go None h = along (ap apart (lemma.derivation-Procedure i p)) (nests_alone refl (nests_leaf (nests_alone refl h)))
    go (Some t) h = along (ap apart (lemma.derivation-Procedure-typed t i p)) (nests_alone refl (before refl (flat_type t) (nests_alone refl (nests_leaf (nests_alone refl h)))))

pub nests_declared_class : (x : Option Identifier) (i : TokenNo) (c : Class) {a : ℕ} → Nests (next_statement (statement_derivation c.body.value)) a → Nests (apart (declaration_derivation (decl.Class x i c))) a
nests_declared_class x i c {a} body =
    go x (along (lemma.derivation-class c.name c.parameters c.modes c.specifications c.protections c.virtuals c.body c.end)
    (nests_class c.name c.parameters.items c.modes.items c.specifications.items c.protections.items c.virtuals.items c.end.0 body))
  where
    go : (x : Option Identifier) → Nests (class_derivation c) a → Nests (apart (declaration_derivation (decl.Class x i c))) a
    go None h = along (ap apart (lemma.derivation-Class i c)) (nests_alone refl (nests_leaf (nests_alone refl h)))
    go (Some x) h = along (ap apart (lemma.derivation-Class-prefixed x i c)) (nests_alone refl h)

flat_prior : (i : Option TokenNo) → Nests (prior_derivation i) 0
flat_prior None = nests_done
flat_prior (Some i) = nests_alone refl (nests_leaf nests_done)

-- an expression, and the word `prior`
pub nests_time : (i : Option TokenNo) (e : Expr) {a : ℕ} → Nests (argument (derivation_of e)) a → Nests (node g.Expression (whole (derivation_of e)) (prior_derivation i)) a
nests_time i e {a} h = same (let z : max a 0 ≡ a = omega arith in z) (followed h (flat_prior i))

pub at_stmt : {x y : Stmt} {a : ℕ} → x ≡ y → Nests (next_statement (statement_derivation x)) a → Nests (next_statement (statement_derivation y)) a
at_stmt {a = a} is h = subst (λ z. Nests (next_statement (statement_derivation z)) a) is h

-- a program's own depth
pub nests_program : (ws : List Token) (p : Program) (r : ℕ) → IsTree ws p → Nests (program_derivation p) r → r ≡ depth_of p
nests_program ws p r tree h =
    let f = program_derivation p in
    let full = inside_of (not (is_bare f)) (is_full f) true (reads_full tree.reads) in
    let small = bounded (let z : 0 ≤ 200 = omega arith in z) tree.reads in
    let e = h.known full in
    omega (arith, e, small)
