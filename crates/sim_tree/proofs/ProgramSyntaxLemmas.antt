-- The abstract syntax of each node of the trees of statements and declarations.
use Rattle.std.proofs.Common.{◌≡◌, ℕ, Option, Some, None, sym, ap, ◌∙◌, map}
use Rattle.std.specs.declared.alloc.Global.{Global}
use Rattle.std.specs.declared.boxed.Box.{Box}
use Rattle.std.specs.declared.vec.Vec.{Vec}
use Rattle.sim_base.specs.declared.numbering.TokenNo.{TokenNo}
use Rattle.sim_tree.specs.declared.expr.Expr.{Expr}
use Rattle.sim_tree.specs.declared.expr.Identifier.{Identifier}
use Rattle.sim_tree.specs.declared.program.BlockPrefix.{BlockPrefix}
use Rattle.sim_tree.specs.declared.stmt.Activation.{Activation}
use Rattle.sim_tree.specs.declared.stmt.ArraySegment.{ArraySegment}
use Rattle.sim_tree.specs.declared.stmt.Assigned.{Assigned}
use Rattle.sim_tree.specs.declared.stmt.Assignment.TheVariants as assignment
use Rattle.sim_tree.specs.declared.stmt.Block.{Block}
use Rattle.sim_tree.specs.declared.stmt.Class.{Class}
use Rattle.sim_tree.specs.declared.stmt.Decl.{Decl}
use Rattle.sim_tree.specs.declared.stmt.Decl.TheVariants as d
use Rattle.sim_tree.specs.declared.stmt.Decl.TheOpen.{Stmt-F, Decl-F}
use Rattle.sim_tree.specs.declared.stmt.Decl.TheFolds.{fold-roll-Stmt, fold-roll-Decl, fold-roll-Block, fold-roll-Class, fold-roll-Procedure, fold-roll-When}
use Rattle.sim_tree.specs.declared.stmt.Decl.TheViews.{roll-Block, roll-Class, roll-Procedure, roll-When}
use Rattle.sim_tree.specs.declared.stmt.ForElement.{ForElement}
use Rattle.sim_tree.specs.declared.stmt.ModePart.{ModePart}
use Rattle.sim_tree.specs.declared.stmt.Procedure.{Procedure}
use Rattle.sim_tree.specs.declared.stmt.Protection.{Protection}
use Rattle.sim_tree.specs.declared.stmt.ReferenceElement.{ReferenceElement}
use Rattle.sim_tree.specs.declared.stmt.Specification.{Specification}
use Rattle.sim_tree.specs.declared.stmt.Stmt.{Stmt}
use Rattle.sim_tree.specs.declared.stmt.Stmt.TheVariants as t
use Rattle.sim_tree.specs.declared.stmt.Timing.{Timing}
use Rattle.sim_tree.specs.declared.stmt.TypeName.{TypeName}
use Rattle.sim_tree.specs.declared.stmt.Variable.{Variable}
use Rattle.sim_tree.specs.declared.stmt.VirtualSpecification.{VirtualSpecification}
use Rattle.sim_tree.specs.declared.stmt.When.{When}
use Rattle.sim_tree.specs.Syntax as s
use Rattle.sim_tree.specs.Syntax.{expressions, statements, declarations, Begin, Statement, Declaration}
use Rattle.sim_tree.specs.Syntax.{Block as BlockSyntax}
use Rattle.sim_tree.specs.SyntaxOf.{syntax_of}
use Rattle.sim_tree.specs.SyntaxOfProgram.{Arm, arms, branch_syntax, Classed, Headed, heading_syntax, interface_syntax, right_side_syntax, element_syntax, reference_element_syntax, schedule_syntax, segment_syntax, decl_layer, stmt_layer, block_layer, class_layer, procedure_layer, when_layer, statement_syntax, declaration_syntax, block_syntax, class_syntax, procedure_syntax, arm_syntax}

pub syntax-Empty : (i : TokenNo) → statement_syntax (t.Empty i) ≡ s.Empty i.0
unfolding statement_syntax declaration_syntax block_syntax class_syntax procedure_syntax arm_syntax
syntax-Empty i = ap statement_syntax (sym (t.rolls-Empty i)) ∙ fold-roll-Stmt Declaration Statement BlockSyntax Classed Headed Arm decl_layer stmt_layer block_layer class_layer procedure_layer when_layer (Stmt-F.Empty i)

pub syntax-Block : (b : Block) → statement_syntax (t.Block b) ≡ s.Compound (block_syntax b)
unfolding statement_syntax declaration_syntax block_syntax class_syntax procedure_syntax arm_syntax
syntax-Block b = ap statement_syntax (sym (t.rolls-Block b)) ∙ fold-roll-Stmt Declaration Statement BlockSyntax Classed Headed Arm decl_layer stmt_layer block_layer class_layer procedure_layer when_layer (Stmt-F.Block b)

pub syntax-PrefixedBlock : (p : BlockPrefix) (b : Block) → statement_syntax (t.PrefixedBlock p b) ≡ s.Prefixed p.class (expressions (map syntax_of p.arguments.items)) (block_syntax b)
unfolding statement_syntax declaration_syntax block_syntax class_syntax procedure_syntax arm_syntax
syntax-PrefixedBlock p b = ap statement_syntax (sym (t.rolls-PrefixedBlock p b)) ∙ fold-roll-Stmt Declaration Statement BlockSyntax Classed Headed Arm decl_layer stmt_layer block_layer class_layer procedure_layer when_layer (Stmt-F.PrefixedBlock p b)

pub syntax-Inner : (i : TokenNo) → statement_syntax (t.Inner i) ≡ s.Inner i.0
unfolding statement_syntax declaration_syntax block_syntax class_syntax procedure_syntax arm_syntax
syntax-Inner i = ap statement_syntax (sym (t.rolls-Inner i)) ∙ fold-roll-Stmt Declaration Statement BlockSyntax Classed Headed Arm decl_layer stmt_layer block_layer class_layer procedure_layer when_layer (Stmt-F.Inner i)

pub syntax-Call : (e : Expr) → statement_syntax (t.Call e) ≡ s.Call (syntax_of e)
unfolding statement_syntax declaration_syntax block_syntax class_syntax procedure_syntax arm_syntax
syntax-Call e = ap statement_syntax (sym (t.rolls-Call e)) ∙ fold-roll-Stmt Declaration Statement BlockSyntax Classed Headed Arm decl_layer stmt_layer block_layer class_layer procedure_layer when_layer (Stmt-F.Call e)

pub syntax-Assignment : (e : Expr) (v : Vec Assigned Global) → statement_syntax (t.Assignment e v) ≡ s.Assign (syntax_of e) (map right_side_syntax v.items)
unfolding statement_syntax declaration_syntax block_syntax class_syntax procedure_syntax arm_syntax
syntax-Assignment e v = ap statement_syntax (sym (t.rolls-Assignment e v)) ∙ fold-roll-Stmt Declaration Statement BlockSyntax Classed Headed Arm decl_layer stmt_layer block_layer class_layer procedure_layer when_layer (Stmt-F.Assignment e v)

pub syntax-If : (i : TokenNo) (e : Expr) (a : Box Stmt Global) (o : Option (Box Stmt Global)) → statement_syntax (t.If i e a o) ≡ s.Choose i.0 (syntax_of e) (statement_syntax a.value) (branch_syntax o)
unfolding statement_syntax declaration_syntax block_syntax class_syntax procedure_syntax arm_syntax
syntax-If i e a None = ap statement_syntax (sym (t.rolls-If i e a None)) ∙ fold-roll-Stmt Declaration Statement BlockSyntax Classed Headed Arm decl_layer stmt_layer block_layer class_layer procedure_layer when_layer (Stmt-F.If i e a None)
syntax-If i e a (Some o) = ap statement_syntax (sym (t.rolls-If i e a (Some o))) ∙ fold-roll-Stmt Declaration Statement BlockSyntax Classed Headed Arm decl_layer stmt_layer block_layer class_layer procedure_layer when_layer (Stmt-F.If i e a (Some o))

pub syntax-While : (i : TokenNo) (e : Expr) (a : Box Stmt Global) → statement_syntax (t.While i e a) ≡ s.Repeat i.0 (syntax_of e) (statement_syntax a.value)
unfolding statement_syntax declaration_syntax block_syntax class_syntax procedure_syntax arm_syntax
syntax-While i e a = ap statement_syntax (sym (t.rolls-While i e a)) ∙ fold-roll-Stmt Declaration Statement BlockSyntax Classed Headed Arm decl_layer stmt_layer block_layer class_layer procedure_layer when_layer (Stmt-F.While i e a)

pub syntax-For : (i : TokenNo) (x : Identifier) (n : TokenNo) (v : Vec ForElement Global) (a : Box Stmt Global) → statement_syntax (t.For i x n v a) ≡ s.For i.0 x assignment.Value n.0 (map element_syntax v.items) (statement_syntax a.value)
unfolding statement_syntax declaration_syntax block_syntax class_syntax procedure_syntax arm_syntax
syntax-For i x n v a = ap statement_syntax (sym (t.rolls-For i x n v a)) ∙ fold-roll-Stmt Declaration Statement BlockSyntax Classed Headed Arm decl_layer stmt_layer block_layer class_layer procedure_layer when_layer (Stmt-F.For i x n v a)

pub syntax-ForReference : (i : TokenNo) (x : Identifier) (n : TokenNo) (v : Vec ReferenceElement Global) (a : Box Stmt Global) → statement_syntax (t.ForReference i x n v a) ≡ s.For i.0 x assignment.Reference n.0 (map reference_element_syntax v.items) (statement_syntax a.value)
unfolding statement_syntax declaration_syntax block_syntax class_syntax procedure_syntax arm_syntax
syntax-ForReference i x n v a = ap statement_syntax (sym (t.rolls-ForReference i x n v a)) ∙ fold-roll-Stmt Declaration Statement BlockSyntax Classed Headed Arm decl_layer stmt_layer block_layer class_layer procedure_layer when_layer (Stmt-F.ForReference i x n v a)

pub syntax-Inspect : (i : TokenNo) (e : Expr) (n : TokenNo) (a : Box Stmt Global) (m : TokenNo) (o : Option (Box Stmt Global)) → statement_syntax (t.Inspect i e n a m o) ≡ s.Inspect i.0 (syntax_of e) n.0 (statement_syntax a.value) m.0 (branch_syntax o)
unfolding statement_syntax declaration_syntax block_syntax class_syntax procedure_syntax arm_syntax
syntax-Inspect i e n a m None = ap statement_syntax (sym (t.rolls-Inspect i e n a m None)) ∙ fold-roll-Stmt Declaration Statement BlockSyntax Classed Headed Arm decl_layer stmt_layer block_layer class_layer procedure_layer when_layer (Stmt-F.Inspect i e n a m None)
syntax-Inspect i e n a m (Some o) = ap statement_syntax (sym (t.rolls-Inspect i e n a m (Some o))) ∙ fold-roll-Stmt Declaration Statement BlockSyntax Classed Headed Arm decl_layer stmt_layer block_layer class_layer procedure_layer when_layer (Stmt-F.Inspect i e n a m (Some o))

pub syntax-InspectWhen : (i : TokenNo) (e : Expr) (v : Vec When Global) (o : Option (Box Stmt Global)) → statement_syntax (t.InspectWhen i e v o) ≡ s.InspectWhen i.0 (syntax_of e) (arms (map arm_syntax v.items)) (branch_syntax o)
unfolding statement_syntax declaration_syntax block_syntax class_syntax procedure_syntax arm_syntax
syntax-InspectWhen i e v None = ap statement_syntax (sym (t.rolls-InspectWhen i e v None)) ∙ fold-roll-Stmt Declaration Statement BlockSyntax Classed Headed Arm decl_layer stmt_layer block_layer class_layer procedure_layer when_layer (Stmt-F.InspectWhen i e v None)
syntax-InspectWhen i e v (Some o) = ap statement_syntax (sym (t.rolls-InspectWhen i e v (Some o))) ∙ fold-roll-Stmt Declaration Statement BlockSyntax Classed Headed Arm decl_layer stmt_layer block_layer class_layer procedure_layer when_layer (Stmt-F.InspectWhen i e v (Some o))

pub syntax-Activation : (i : TokenNo) (w : Activation) (e : Expr) (o : Option Timing) → statement_syntax (t.Activation i w e o) ≡ s.Activate i.0 w (syntax_of e) (schedule_syntax o)
unfolding statement_syntax declaration_syntax block_syntax class_syntax procedure_syntax arm_syntax
syntax-Activation i w e o = ap statement_syntax (sym (t.rolls-Activation i w e o)) ∙ fold-roll-Stmt Declaration Statement BlockSyntax Classed Headed Arm decl_layer stmt_layer block_layer class_layer procedure_layer when_layer (Stmt-F.Activation i w e o)

pub syntax-Variables : (n : TypeName) (v : Vec Variable Global) → declaration_syntax (d.Variables n v) ≡ s.Variables n v.items
unfolding statement_syntax declaration_syntax block_syntax class_syntax procedure_syntax arm_syntax
syntax-Variables n v = ap declaration_syntax (sym (d.rolls-Variables n v)) ∙ fold-roll-Decl Declaration Statement BlockSyntax Classed Headed Arm decl_layer stmt_layer block_layer class_layer procedure_layer when_layer (Decl-F.Variables n v)

pub syntax-Arrays : (n : TypeName) (i : TokenNo) (v : Vec ArraySegment Global) → declaration_syntax (d.Arrays n i v) ≡ s.Arrays n i.0 (map segment_syntax v.items)
unfolding statement_syntax declaration_syntax block_syntax class_syntax procedure_syntax arm_syntax
syntax-Arrays n i v = ap declaration_syntax (sym (d.rolls-Arrays n i v)) ∙ fold-roll-Decl Declaration Statement BlockSyntax Classed Headed Arm decl_layer stmt_layer block_layer class_layer procedure_layer when_layer (Decl-F.Arrays n i v)

pub syntax-Procedure : (r : Option TypeName) (i : TokenNo) (p : Procedure) → declaration_syntax (d.Procedure r i p) ≡ procedure_syntax p r i.0
unfolding statement_syntax declaration_syntax block_syntax class_syntax procedure_syntax arm_syntax
syntax-Procedure r i p = ap declaration_syntax (sym (d.rolls-Procedure r i p)) ∙ fold-roll-Decl Declaration Statement BlockSyntax Classed Headed Arm decl_layer stmt_layer block_layer class_layer procedure_layer when_layer (Decl-F.Procedure r i p)

pub syntax-Class : (x : Option Identifier) (i : TokenNo) (c : Class) → declaration_syntax (d.Class x i c) ≡ class_syntax c x i.0
unfolding statement_syntax declaration_syntax block_syntax class_syntax procedure_syntax arm_syntax
syntax-Class x i c = ap declaration_syntax (sym (d.rolls-Class x i c)) ∙ fold-roll-Decl Declaration Statement BlockSyntax Classed Headed Arm decl_layer stmt_layer block_layer class_layer procedure_layer when_layer (Decl-F.Class x i c)

pub syntax-block : (i : TokenNo) (ds : Vec Decl Global) (ss : Vec Stmt Global) (e : TokenNo)
    → block_syntax (roll-Block (record { token = i; declarations = ds; statements = ss; end = e })) ≡ Begin i.0 (declarations (map declaration_syntax ds.items)) (statements (map statement_syntax ss.items)) e.0
unfolding statement_syntax declaration_syntax block_syntax class_syntax procedure_syntax arm_syntax
syntax-block i ds ss e = fold-roll-Block Declaration Statement BlockSyntax Classed Headed Arm decl_layer stmt_layer block_layer class_layer procedure_layer when_layer (record { token = i; declarations = ds; statements = ss; end = e })

pub syntax-procedure : (x : Identifier) (ps : Vec Identifier Global) (ms : Vec ModePart Global) (ss : Vec Specification Global) (b : Box Stmt Global) (e : TokenNo) (r : Option TypeName) (n : ℕ)
    → procedure_syntax (roll-Procedure (record { name = x; parameters = ps; modes = ms; specifications = ss; body = b; end = e })) r n ≡ s.DeclareProcedure r n (heading_syntax x ps.items ms.items ss.items) (statement_syntax b.value) e.0
unfolding statement_syntax declaration_syntax block_syntax class_syntax procedure_syntax arm_syntax
syntax-procedure x ps ms ss b e r n = ap (λ f. f r n) (fold-roll-Procedure Declaration Statement BlockSyntax Classed Headed Arm decl_layer stmt_layer block_layer class_layer procedure_layer when_layer (record { name = x; parameters = ps; modes = ms; specifications = ss; body = b; end = e }))

pub syntax-class : (x : Identifier) (ps : Vec Identifier Global) (ms : Vec ModePart Global) (ss : Vec Specification Global) (rs : Vec Protection Global) (vs : Vec VirtualSpecification Global) (b : Box Stmt Global) (e : TokenNo) (r : Option Identifier) (n : ℕ)
    → class_syntax (roll-Class (record { name = x; parameters = ps; modes = ms; specifications = ss; protections = rs; virtuals = vs; body = b; end = e })) r n ≡ s.DeclareClass r n (heading_syntax x ps.items ms.items ss.items) (interface_syntax rs.items vs.items) (statement_syntax b.value) e.0
unfolding statement_syntax declaration_syntax block_syntax class_syntax procedure_syntax arm_syntax
syntax-class x ps ms ss rs vs b e r n = ap (λ f. f r n) (fold-roll-Class Declaration Statement BlockSyntax Classed Headed Arm decl_layer stmt_layer block_layer class_layer procedure_layer when_layer (record { name = x; parameters = ps; modes = ms; specifications = ss; protections = rs; virtuals = vs; body = b; end = e }))

pub syntax-when : (i : TokenNo) (x : Identifier) (n : TokenNo) (b : Stmt) (e : TokenNo)
    → arm_syntax (roll-When (record { token = i; class = x; opening = n; body = b; end = e })) ≡ record { token = i.0; class = x; opening = n.0; body = statement_syntax b; end = e.0 }
unfolding statement_syntax declaration_syntax block_syntax class_syntax procedure_syntax arm_syntax
syntax-when i x n b e = fold-roll-When Declaration Statement BlockSyntax Classed Headed Arm decl_layer stmt_layer block_layer class_layer procedure_layer when_layer (record { token = i; class = x; opening = n; body = b; end = e })
