-- What the nodes of the tree of a program stand for.
use Rattle.std.proofs.Common.{◌≡◌, Option, Some, None, map, sym, ap, ◌∙◌}
use Rattle.std.specs.declared.alloc.Global.{Global}
use Rattle.std.specs.declared.boxed.Box.{Box}
use Rattle.std.specs.declared.vec.Vec.{Vec}
use Rattle.sim_base.specs.declared.numbering.TokenNo.{TokenNo}
use Rattle.sim_base.specs.declared.token.TokenKind.TheVariants as k
use Rattle.sim_tree.specs.declared.expr.Expr.{Expr}
use Rattle.sim_tree.specs.declared.expr.Identifier.{Identifier}
use Rattle.sim_tree.specs.declared.program.BlockPrefix.{BlockPrefix}
use Rattle.sim_tree.specs.declared.stmt.Activation.{Activation}
use Rattle.sim_tree.specs.declared.stmt.Assigned.{Assigned}
use Rattle.sim_tree.specs.declared.stmt.Block.{Block}
use Rattle.sim_tree.specs.declared.stmt.Class.{Class}
use Rattle.sim_tree.specs.declared.stmt.Decl.{Decl}
use Rattle.sim_tree.specs.declared.stmt.Decl.TheVariants as decl
use Rattle.sim_tree.specs.declared.stmt.Decl.TheOpen.{Stmt-F, Decl-F}
use Rattle.sim_tree.specs.declared.stmt.Decl.TheFolds.{fold-roll-Stmt, fold-roll-Decl, fold-roll-Block, fold-roll-Class, fold-roll-Procedure, fold-roll-When}
use Rattle.sim_tree.specs.declared.stmt.Decl.TheViews.{roll-Block, roll-Class, roll-Procedure, roll-When}
use Rattle.sim_tree.specs.declared.stmt.ForElement.{ForElement}
use Rattle.sim_tree.specs.declared.stmt.ModePart.{ModePart}
use Rattle.sim_tree.specs.declared.stmt.Procedure.{Procedure}
use Rattle.sim_tree.specs.declared.stmt.Protection.{Protection}
use Rattle.sim_tree.specs.declared.stmt.ReferenceElement.{ReferenceElement}
use Rattle.sim_tree.specs.declared.stmt.ArraySegment.{ArraySegment}
use Rattle.sim_tree.specs.declared.stmt.Specification.{Specification}
use Rattle.sim_tree.specs.declared.stmt.Stmt.{Stmt}
use Rattle.sim_tree.specs.declared.stmt.Stmt.TheVariants as s
use Rattle.sim_tree.specs.declared.stmt.Timing.{Timing}
use Rattle.sim_tree.specs.declared.stmt.TypeName.{TypeName}
use Rattle.sim_tree.specs.declared.stmt.Variable.{Variable}
use Rattle.sim_tree.specs.declared.stmt.VirtualSpecification.{VirtualSpecification}
use Rattle.sim_tree.specs.declared.stmt.When.{When}
use Rattle.sim_tree.specs.Grammar as g
use Rattle.sim_tree.specs.Reading.{Forest, done, place, node, bare_leaf}
use Rattle.sim_tree.specs.Derivation.{derivation_of, raise, row, identifier}
use Rattle.sim_tree.specs.ProgramDerivation.{Declared, Plain, Prefixed, expr, type_derivation, variables_derivation, segments_derivation, heading_derivation, protection_derivation, virtuals_derivation, acted, assigning, for_elements, reference_elements, activation_kind, timing_derivation, prefix_derivation, contents, decl_layer, stmt_layer, block_layer, class_layer, procedure_layer, when_layer, statement_derivation, declaration_derivation, block_derivation, class_derivation, procedure_derivation, when_derivation}

pub derivation-Empty : (i : TokenNo) → statement_derivation (s.Empty i) ≡ place i.0 done
derivation-Empty i = ap statement_derivation (sym (s.rolls-Empty i)) ∙ fold-roll-Stmt Declared Forest Forest Forest Forest Forest decl_layer stmt_layer block_layer class_layer procedure_layer when_layer (Stmt-F.Empty i)

pub derivation-Block : (b : Block) → statement_derivation (s.Block b) ≡ node g.Compound (block_derivation b) done
derivation-Block b = ap statement_derivation (sym (s.rolls-Block b)) ∙ fold-roll-Stmt Declared Forest Forest Forest Forest Forest decl_layer stmt_layer block_layer class_layer procedure_layer when_layer (Stmt-F.Block b)

pub derivation-PrefixedBlock : (p : BlockPrefix) (b : Block) → statement_derivation (s.PrefixedBlock p b) ≡ prefix_derivation p (node g.AfterFirstOperand (node g.Compound (block_derivation b) done) done)
derivation-PrefixedBlock p b = ap statement_derivation (sym (s.rolls-PrefixedBlock p b)) ∙ fold-roll-Stmt Declared Forest Forest Forest Forest Forest decl_layer stmt_layer block_layer class_layer procedure_layer when_layer (Stmt-F.PrefixedBlock p b)

pub derivation-Inner : (i : TokenNo) → statement_derivation (s.Inner i) ≡ bare_leaf i.0 k.Inner done
derivation-Inner i = ap statement_derivation (sym (s.rolls-Inner i)) ∙ fold-roll-Stmt Declared Forest Forest Forest Forest Forest decl_layer stmt_layer block_layer class_layer procedure_layer when_layer (Stmt-F.Inner i)

pub derivation-Call : (e : Expr) → statement_derivation (s.Call e) ≡ acted (raise 1 (derivation_of e)) done
derivation-Call e = ap statement_derivation (sym (s.rolls-Call e)) ∙ fold-roll-Stmt Declared Forest Forest Forest Forest Forest decl_layer stmt_layer block_layer class_layer procedure_layer when_layer (Stmt-F.Call e)

pub derivation-Assignment : (e : Expr) (v : Vec Assigned Global) → statement_derivation (s.Assignment e v) ≡ assigning e v.items
derivation-Assignment e v = ap statement_derivation (sym (s.rolls-Assignment e v)) ∙ fold-roll-Stmt Declared Forest Forest Forest Forest Forest decl_layer stmt_layer block_layer class_layer procedure_layer when_layer (Stmt-F.Assignment e v)

pub derivation-While : (i : TokenNo) (e : Expr) (a : Box Stmt Global) → statement_derivation (s.While i e a) ≡ bare_leaf i.0 k.While (expr e (node g.Statement (statement_derivation a.value) done))
derivation-While i e a = ap statement_derivation (sym (s.rolls-While i e a)) ∙ fold-roll-Stmt Declared Forest Forest Forest Forest Forest decl_layer stmt_layer block_layer class_layer procedure_layer when_layer (Stmt-F.While i e a)

pub derivation-For : (i : TokenNo) (x : Identifier) (n : TokenNo) (v : Vec ForElement Global) (a : Box Stmt Global) → statement_derivation (s.For i x n v a) ≡ bare_leaf i.0 k.For (identifier x (node g.ForList (bare_leaf n.0 k.Assign (for_elements v.items)) (node g.Statement (statement_derivation a.value) done)))
derivation-For i x n v a = ap statement_derivation (sym (s.rolls-For i x n v a)) ∙ fold-roll-Stmt Declared Forest Forest Forest Forest Forest decl_layer stmt_layer block_layer class_layer procedure_layer when_layer (Stmt-F.For i x n v a)

pub derivation-ForReference : (i : TokenNo) (x : Identifier) (n : TokenNo) (v : Vec ReferenceElement Global) (a : Box Stmt Global) → statement_derivation (s.ForReference i x n v a) ≡ bare_leaf i.0 k.For (identifier x (node g.ForList (bare_leaf n.0 k.AssignReference (reference_elements v.items)) (node g.Statement (statement_derivation a.value) done)))
derivation-ForReference i x n v a = ap statement_derivation (sym (s.rolls-ForReference i x n v a)) ∙ fold-roll-Stmt Declared Forest Forest Forest Forest Forest decl_layer stmt_layer block_layer class_layer procedure_layer when_layer (Stmt-F.ForReference i x n v a)

pub derivation-Activation : (i : TokenNo) (w : Activation) (e : Expr) (t : Option Timing) → statement_derivation (s.Activation i w e t) ≡ bare_leaf i.0 (activation_kind w) (expr e (timing_derivation t))
derivation-Activation i w e t = ap statement_derivation (sym (s.rolls-Activation i w e t)) ∙ fold-roll-Stmt Declared Forest Forest Forest Forest Forest decl_layer stmt_layer block_layer class_layer procedure_layer when_layer (Stmt-F.Activation i w e t)

pub derivation-If : (i : TokenNo) (e : Expr) (a : Box Stmt Global) → statement_derivation (s.If i e a None) ≡ bare_leaf i.0 k.If (expr e (node g.Statement (statement_derivation a.value) done))
derivation-If i e a = ap statement_derivation (sym (s.rolls-If i e a None)) ∙ fold-roll-Stmt Declared Forest Forest Forest Forest Forest decl_layer stmt_layer block_layer class_layer procedure_layer when_layer (Stmt-F.If i e a None)

pub derivation-If-two : (i : TokenNo) (e : Expr) (a : Box Stmt Global) (o : Box Stmt Global) → statement_derivation (s.If i e a (Some o)) ≡ bare_leaf i.0 k.If (expr e (node g.Statement (statement_derivation a.value) (node g.ElseBranch (node g.Statement (statement_derivation o.value) done) done)))
derivation-If-two i e a o = ap statement_derivation (sym (s.rolls-If i e a (Some o))) ∙ fold-roll-Stmt Declared Forest Forest Forest Forest Forest decl_layer stmt_layer block_layer class_layer procedure_layer when_layer (Stmt-F.If i e a (Some o))

pub derivation-Inspect : (i : TokenNo) (e : Expr) (o : TokenNo) (a : Box Stmt Global) (n : TokenNo)
    → statement_derivation (s.Inspect i e o a n None) ≡ bare_leaf i.0 k.Inspect (expr e (node g.Arms (bare_leaf o.0 k.Do (node g.Statement (statement_derivation a.value) (place n.0 done))) done))
derivation-Inspect i e o a n = ap statement_derivation (sym (s.rolls-Inspect i e o a n None)) ∙ fold-roll-Stmt Declared Forest Forest Forest Forest Forest decl_layer stmt_layer block_layer class_layer procedure_layer when_layer (Stmt-F.Inspect i e o a n None)

pub derivation-Inspect-two : (i : TokenNo) (e : Expr) (d : TokenNo) (a : Box Stmt Global) (n : TokenNo) (o : Box Stmt Global)
    → statement_derivation (s.Inspect i e d a n (Some o)) ≡ bare_leaf i.0 k.Inspect (expr e (node g.Arms (bare_leaf d.0 k.Do (node g.Statement (statement_derivation a.value) (place n.0 done))) (node g.OtherwiseBranch (node g.Statement (statement_derivation o.value) done) done)))
derivation-Inspect-two i e d a n o = ap statement_derivation (sym (s.rolls-Inspect i e d a n (Some o))) ∙ fold-roll-Stmt Declared Forest Forest Forest Forest Forest decl_layer stmt_layer block_layer class_layer procedure_layer when_layer (Stmt-F.Inspect i e d a n (Some o))

pub derivation-InspectWhen : (i : TokenNo) (e : Expr) (v : Vec When Global) → statement_derivation (s.InspectWhen i e v None) ≡ bare_leaf i.0 k.Inspect (expr e (node g.Arms (row g.WhenArm (map when_derivation v.items) done) done))
derivation-InspectWhen i e v = ap statement_derivation (sym (s.rolls-InspectWhen i e v None)) ∙ fold-roll-Stmt Declared Forest Forest Forest Forest Forest decl_layer stmt_layer block_layer class_layer procedure_layer when_layer (Stmt-F.InspectWhen i e v None)

pub derivation-InspectWhen-two : (i : TokenNo) (e : Expr) (v : Vec When Global) (o : Box Stmt Global) → statement_derivation (s.InspectWhen i e v (Some o)) ≡ bare_leaf i.0 k.Inspect (expr e (node g.Arms (row g.WhenArm (map when_derivation v.items) done) (node g.OtherwiseBranch (node g.Statement (statement_derivation o.value) done) done)))
derivation-InspectWhen-two i e v o = ap statement_derivation (sym (s.rolls-InspectWhen i e v (Some o))) ∙ fold-roll-Stmt Declared Forest Forest Forest Forest Forest decl_layer stmt_layer block_layer class_layer procedure_layer when_layer (Stmt-F.InspectWhen i e v (Some o))

pub derivation-Variables : (t : TypeName) (v : Vec Variable Global) → declaration_derivation (decl.Variables t v) ≡ Plain (node g.TypeName (type_derivation t) (node g.TypedDeclaration (variables_derivation v.items) done))
derivation-Variables t v = ap declaration_derivation (sym (decl.rolls-Variables t v)) ∙ fold-roll-Decl Declared Forest Forest Forest Forest Forest decl_layer stmt_layer block_layer class_layer procedure_layer when_layer (Decl-F.Variables t v)

pub derivation-Arrays : (t : TypeName) (i : TokenNo) (v : Vec ArraySegment Global) → declaration_derivation (decl.Arrays t i v) ≡ Plain (node g.TypeName (type_derivation t) (node g.TypedDeclaration (bare_leaf i.0 k.Array (segments_derivation v.items)) done))
derivation-Arrays t i v = ap declaration_derivation (sym (decl.rolls-Arrays t i v)) ∙ fold-roll-Decl Declared Forest Forest Forest Forest Forest decl_layer stmt_layer block_layer class_layer procedure_layer when_layer (Decl-F.Arrays t i v)

pub derivation-Procedure : (i : TokenNo) (p : Procedure) → declaration_derivation (decl.Procedure None i p) ≡ Plain (bare_leaf i.0 k.Procedure (node g.Procedure (procedure_derivation p) done))
derivation-Procedure i p = ap declaration_derivation (sym (decl.rolls-Procedure None i p)) ∙ fold-roll-Decl Declared Forest Forest Forest Forest Forest decl_layer stmt_layer block_layer class_layer procedure_layer when_layer (Decl-F.Procedure None i p)

pub derivation-Procedure-typed : (t : TypeName) (i : TokenNo) (p : Procedure) → declaration_derivation (decl.Procedure (Some t) i p) ≡ Plain (node g.TypeName (type_derivation t) (node g.TypedDeclaration (bare_leaf i.0 k.Procedure (node g.Procedure (procedure_derivation p) done)) done))
derivation-Procedure-typed t i p = ap declaration_derivation (sym (decl.rolls-Procedure (Some t) i p)) ∙ fold-roll-Decl Declared Forest Forest Forest Forest Forest decl_layer stmt_layer block_layer class_layer procedure_layer when_layer (Decl-F.Procedure (Some t) i p)

pub derivation-Class : (i : TokenNo) (c : Class) → declaration_derivation (decl.Class None i c) ≡ Plain (bare_leaf i.0 k.Class (node g.Class (class_derivation c) done))
derivation-Class i c = ap declaration_derivation (sym (decl.rolls-Class None i c)) ∙ fold-roll-Decl Declared Forest Forest Forest Forest Forest decl_layer stmt_layer block_layer class_layer procedure_layer when_layer (Decl-F.Class None i c)

pub derivation-Class-prefixed : (x : Identifier) (i : TokenNo) (c : Class) → declaration_derivation (decl.Class (Some x) i c) ≡ Prefixed x i.0 (class_derivation c)
derivation-Class-prefixed x i c = ap declaration_derivation (sym (decl.rolls-Class (Some x) i c)) ∙ fold-roll-Decl Declared Forest Forest Forest Forest Forest decl_layer stmt_layer block_layer class_layer procedure_layer when_layer (Decl-F.Class (Some x) i c)

pub derivation-block : (i : TokenNo) (ds : Vec Decl Global) (ss : Vec Stmt Global) (e : TokenNo)
    → block_derivation (roll-Block (record { token = i; declarations = ds; statements = ss; end = e })) ≡ bare_leaf i.0 k.Begin (node g.Block (contents (map declaration_derivation ds.items) (map statement_derivation ss.items) e.0) done)
derivation-block i ds ss e =
    fold-roll-Block Declared Forest Forest Forest Forest Forest decl_layer stmt_layer block_layer class_layer procedure_layer when_layer (record { token = i; declarations = ds; statements = ss; end = e })

pub derivation-procedure : (x : Identifier) (ps : Vec Identifier Global) (ms : Vec ModePart Global) (ss : Vec Specification Global) (b : Box Stmt Global) (e : TokenNo)
    → procedure_derivation (roll-Procedure (record { name = x; parameters = ps; modes = ms; specifications = ss; body = b; end = e })) ≡ identifier x (node g.Heading (heading_derivation ps.items ms.items ss.items) (node g.Statement (statement_derivation b.value) (place e.0 done)))
derivation-procedure x ps ms ss b e =
    fold-roll-Procedure Declared Forest Forest Forest Forest Forest decl_layer stmt_layer block_layer class_layer procedure_layer when_layer (record { name = x; parameters = ps; modes = ms; specifications = ss; body = b; end = e })

pub derivation-class : (x : Identifier) (ps : Vec Identifier Global) (ms : Vec ModePart Global) (ss : Vec Specification Global) (rs : Vec Protection Global) (vs : Vec VirtualSpecification Global) (b : Box Stmt Global) (e : TokenNo)
    → class_derivation (roll-Class (record { name = x; parameters = ps; modes = ms; specifications = ss; protections = rs; virtuals = vs; body = b; end = e })) ≡ identifier x (node g.Heading (heading_derivation ps.items ms.items ss.items) (row g.Protection (map protection_derivation rs.items) (virtuals_derivation vs.items (node g.Statement (statement_derivation b.value) (place e.0 done)))))
derivation-class x ps ms ss rs vs b e =
    fold-roll-Class Declared Forest Forest Forest Forest Forest decl_layer stmt_layer block_layer class_layer procedure_layer when_layer (record { name = x; parameters = ps; modes = ms; specifications = ss; protections = rs; virtuals = vs; body = b; end = e })

pub derivation-when : (i : TokenNo) (x : Identifier) (n : TokenNo) (b : Stmt) (e : TokenNo)
    → when_derivation (roll-When (record { token = i; class = x; opening = n; body = b; end = e })) ≡ bare_leaf i.0 k.When (identifier x (bare_leaf n.0 k.Do (node g.Statement (statement_derivation b) (place e.0 done))))
derivation-when i x n b e =
    fold-roll-When Declared Forest Forest Forest Forest Forest decl_layer stmt_layer block_layer class_layer procedure_layer when_layer (record { token = i; class = x; opening = n; body = b; end = e })
