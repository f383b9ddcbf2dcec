-- Statements, one part behind another.
use Rattle.std.proofs.Common.{◌≡◌, ◌≢◌, ◌≤◌, ℕ, zero, ℤ, pos, suc, Bool, List, [], ◌∷◌, length, map, Option, Some, None, Bor, true, false, refl, sym, ap, ◌∙◌, subst, arith}
use Rattle.std.specs.Prelude.{⊤, option_map, slice_get, slice_index_or}
use Rattle.std.specs.declared.alloc.Global.{Global}
use Rattle.std.specs.declared.boxed.Box.{Box}
use Rattle.std.specs.declared.vec.Vec.{Vec}
use Rattle.sim_base.specs.declared.numbering.DeclNo.{DeclNo}
use Rattle.sim_base.specs.declared.numbering.Line.{Line}
use Rattle.sim_base.specs.declared.numbering.TokenNo.{TokenNo}
use Rattle.sim_scope.specs.declared.bound.Bound.{Bound}
use Rattle.sim_scope.specs.declared.scopes.Denotation.{Denotation}
use Rattle.sim_scope.specs.Assignments.{last_value, left_sides}
use Rattle.sim_scope.specs.Access.{block_at, encloser}
use Rattle.sim_scope.specs.Scopes.{entry_of}
use Rattle.sim_scope.specs.Source.{Source, block_around, denoted, found_at, line_at, source_of, type_at}
use Rattle.sim_tree.specs.declared.expr.Expr.{Expr}
use Rattle.sim_tree.specs.declared.expr.Identifier.{Identifier}
use Rattle.sim_tree.specs.declared.expr.Selector.{Selector}
use Rattle.sim_tree.specs.declared.program.BlockPrefix.{BlockPrefix}
use Rattle.sim_tree.specs.declared.stmt.Activation.{Activation}
use Rattle.sim_tree.specs.declared.stmt.Assigned.{Assigned}
use Rattle.sim_tree.specs.declared.stmt.Assignment.{Assignment}
use Rattle.sim_tree.specs.declared.stmt.Assignment.TheVariants as assignment
use Rattle.sim_tree.specs.declared.stmt.Block.{Block}
use Rattle.sim_tree.specs.declared.stmt.Decl.{Decl}
use Rattle.sim_tree.specs.declared.stmt.ForElement.{ForElement}
use Rattle.sim_tree.specs.declared.stmt.ReferenceElement.{ReferenceElement}
use Rattle.sim_tree.specs.declared.stmt.Stmt.{Stmt}
use Rattle.sim_tree.specs.declared.stmt.Stmt.TheVariants as t
use Rattle.sim_tree.specs.declared.stmt.Timing.{Timing}
use Rattle.sim_tree.specs.declared.stmt.When.{When}
use Rattle.sim_tree.specs.Syntax as syntax
use Rattle.sim_tree.specs.Syntax.{Also, Begin, Dot, Expression, Named, NoMore, NoStatement, Qua, Statement, declarations, expressions, statements}
use Rattle.sim_tree.specs.SyntaxOf.{syntax_of}
use Rattle.sim_tree.specs.SyntaxOfProgram.{arm_syntax, arms, block_syntax, branch_syntax, declaration_syntax, element_syntax, reference_element_syntax, right_side_syntax, schedule_syntax, statement_syntax}
use Rattle.sim_tree.proofs.ProgramSyntaxLemmas as v
use Rattle.sim_code.specs.declared.instr.Instr.{Instr}
use Rattle.sim_code.specs.declared.instr.Instr.TheVariants as i
use Rattle.sim_code.specs.Code.{CodeOf}
use Rattle.sim_meaning.specs.Attributes.{connection_at, own_attribute, transfer_at}
use Rattle.sim_meaning.specs.Statements.{denoted_leaves, is_again, leaves, simulation_around}
use Rattle.codegen_expr.specs.declared.spot.Spot.{Spot}
use Rattle.codegen_expr.specs.Built.{ActualsBuilt, AreBuilt, ConnectedNameBuilt, IsBuilt, NamedBuilt, OfObjectBuilt, OwnBuilt, OwnNameBuilt, ThisFoundBuilt, ThroughBuilt}
use Rattle.codegen_expr.specs.CodeExpr.{ActualsAt, ConnectedNameAt, ExprAt, ExprsAt, Listed, NamedAt, OfObjectAt, OwnAt, OwnNameAt, ThisFoundAt, ThroughAt, gives, parameters_at}
use Rattle.codegen_expr.specs.Drafts.{DraftOf, Emits, filled_in, given_up, with_hole, with_instr, with_push}
use Rattle.codegen_expr.specs.declared.forms.Form.{Form}
use Rattle.codegen_expr.specs.declared.forms.Form.TheVariants as form
use Rattle.codegen_expr.specs.Forms.{FindsForm, IsNew, IsOther}
use Rattle.codegen_expr.specs.Emit.{PutsNamed, Writes, WritesNamed}
use Rattle.codegen_expr.specs.Sites.{At, Is, Pushes, Site, block_number}
use Rattle.codegen_expr.proofs.Pieces.{emits_as, emits_at, emits_if, emits_loop, emits_none, emits_nothing, emits_push, emits_then, emits_when}
use Rattle.codegen.specs.declared.left.Left.{Left}
use Rattle.codegen.specs.declared.left.Left.TheVariants as left
use Rattle.codegen.specs.BuiltProgram.{AssignBuilt, BlockBuilt, CalledBuilt, ElementsBuilt, EnterBuilt, ForBuilt, LeftBuilt, ListBuilt, PrefixBuilt, StatementBuilt, StatementsBuilt, StepsBuilt, VariableBuilt}
use Rattle.codegen.specs.CodeFor.{ForAt, GivesVariable, ListAt, LoadsVariable, OfCell, OfPlace, OfReference, StoresVariable, TakesValues, Variable, VariableThere, assigned_by, is_empty, variable_of, variable_stored}
use Rattle.codegen.specs.CodeLeft.{AssignAt, AtAddress, AtAttribute, InCell, NoPlace, Stored, ToNamed, ToNamedReference, ToNamedText, ToReference, ToResult, ToText, each_stored, stored_left}
use Rattle.sim_meaning.specs.Closing.{formals_at, is_text, is_text_type}
use Rattle.codegen.specs.CodeStm.{ActivatesAt, ArmsAt, BlockAt, CalledAt, ConnectsAt, DropsAt, EnterAt, InspectAt, PrefixedAt, StmAt, StmsAt}
use Rattle.codegen.specs.EmitTargets.{Controls, ElementsOver, ListOver, WritesLoaded, WritesStored, line_in, takes_values}
use Rattle.codegen.specs.Emit.{OwesStatements, WritesAssignment, WritesBlock, WritesCall, WritesCalled, WritesElementOf, WritesFor, WritesGiven, WritesList, WritesOne, WritesPrefixed, WritesStatement, WritesStatements, WritesTakenCall}
use Rattle.codegen.specs.declared.elements.Element.{Element}
use Rattle.codegen.specs.declared.elements.Element.TheVariants as view
use Rattle.codegen.specs.declared.targets.Target.{Target}
use Rattle.codegen.specs.declared.targets.Target.TheVariants as target
use Rattle.codegen.specs.EmitLeft.{FindsNamed, IsWhole}
use Rattle.codegen.specs.EmitActivations.{WritesActivation}
use Rattle.codegen.specs.EmitTransfers.{FindsTransfer}
use Rattle.codegen.specs.ForElements.{view_syntax}
use Rattle.codegen.specs.declared.transfers.Transfer.{Transfer as Word}
use Rattle.codegen.proofs.TransferCalls.{NamedCall, at_none}
use Rattle.codegen.proofs.Inspected.{WritesArms, WritesInspect}
use Rattle.codegen.proofs.Cells.{cell_there}
use Rattle.codegen.specs.declared.lists.Shared.{Shared}
use Rattle.codegen.specs.EmitShared.{TurnBuilt, TurnOf, WritesSent, WritesTurn, begins}
use Rattle.codegen.proofs.Found.{form_at}
use Rattle.codegen.proofs.Sides.{here}
use Rattle.codegen.proofs.Cycles.{emits_cycle}
use Rattle.codegen.proofs.Holes.{as_long, emits_here, longer, longer_hole, longer_push, longer_put}

abbrev Place : Type 1
Place = CodeOf → Site → ℕ → ℕ → Type 0

-- a list of one part
one_part : {A : Type 0} (l : List A) (a : A) → length l ≡ 1 → a ≡ slice_index_or l 0 a → l ≡ a ∷ []
one_part [] a one at = absurd (omega (arith, one))
one_part (x ∷ []) a one at = ap (λ z. z ∷ []) (sym at)
one_part (x ∷ y ∷ zs) a one at = absurd (omega (arith, one))

some_is : {A : Type 0} (x y : A) → Some x ≡ Some y → x ≡ y
some_is x y e = cc

module _ (b : Bound) (w : Spot) where
  -- a tick, and something
  tick_then : (P : Type 0) (A : Place) (a c d : DraftOf) → c ≡ with_instr a i.Tick 0 → Emits w c d P A → Emits w a d P (λ final site p q. (x : ℕ) × Is final i.Tick p x × A final site x q)
  tick_then P A a c d ec f =
      emits_as w (⊤ × P) P _ _ a d (λ h. (tt, h)) (λ h. h.1) (λ final site p q _ _ r. (r.0, record { line = 0; is = r.1 }, r.2))
      (emits_then w ⊤ P (λ final site p q. At final i.Tick 0 p q) A a c d (emits_at w a c i.Tick 0 ec (λ z. cc) refl) f)

  stm_as : (a c : DraftOf) (x : Stmt) (y : Statement) → statement_syntax x ≡ y → Emits w a c (StatementBuilt (source_of b) w.text y) (λ final site p q. StmAt (source_of b) final site 0 y p q) → WritesStatement b w a c x
  unfolding WritesStatement
  stm_as a c x y is f = subst (λ z. Emits w a c (StatementBuilt (source_of b) w.text z) (λ final site p q. StmAt (source_of b) final site 0 z p q)) (sym is) f

  pub write_empty : (a : DraftOf) (x : Stmt) (k : TokenNo) → x ≡ t.Empty k → WritesStatement b w a a x
  write_empty a x k is = stm_as a a x _ (ap statement_syntax is ∙ v.syntax-Empty k) (emits_none w a)

  pub write_block : (a c d : DraftOf) (x : Stmt) (k : Block) → x ≡ t.Block k → c ≡ with_instr a i.Tick 0 → WritesBlock b w c d k → WritesStatement b w a d x
  unfolding WritesBlock
  write_block a c d x k is ec f = stm_as a d x _ (ap statement_syntax is ∙ v.syntax-Block k) (tick_then (BlockBuilt (source_of b) w.text (block_syntax k)) (λ z site. BlockAt (source_of b) z site 0 (block_syntax k)) a c d ec f)

  pub write_call : (a c d : DraftOf) (x : Stmt) (k : Expr) → x ≡ t.Call k → c ≡ with_instr a i.Tick 0 → WritesCall b w c d k → WritesStatement b w a d x
  unfolding WritesCall
  write_call a c d x k is ec f = stm_as a d x _ (ap statement_syntax is ∙ v.syntax-Call k)
      (emits_as w _ _ _ _ a d (λ h. h) (λ h. h) (λ final site p q _ _ r. (r.0, r.2.0, r.1, r.2.1, r.2.2))
      (tick_then (CalledBuilt (source_of b) w.text (syntax_of k)) (λ final site p q. (y : ℕ) × CalledAt (source_of b) final site 0 (syntax_of k) p y × DropsAt final (leaves (source_of b) (syntax_of k)) y q) a c d ec f))

  pub write_assigned : (a c d : DraftOf) (x : Stmt) (k : Expr) (l : Vec Assigned Global) (xs : List Assigned) → x ≡ t.Assignment k l → xs ≡ l.items → c ≡ with_instr a i.Tick 0 → WritesAssignment b w c d k xs → WritesStatement b w a d x
  unfolding WritesAssignment
  write_assigned a c d x k l xs is same ec f =
      let s = source_of b in
      let rs = map right_side_syntax xs in
      let ts = each_stored s (left_sides (syntax_of k) rs) in
      stm_as a d x _ (ap statement_syntax is ∙ v.syntax-Assignment k l ∙ ap (λ z. syntax.Assign (syntax_of k) (map right_side_syntax z)) (sym same))
      (tick_then (AssignBuilt s w.text ts (last_value (syntax_of k) rs)) (λ final site. AssignAt s final site 0 ts (last_value (syntax_of k) rs)) a c d ec f)

  pub write_when : (c c0 c1 c2 c3 c4 : DraftOf) (x : Stmt) (k : TokenNo) (h : Expr) (p : Box Stmt Global) (o : Option (Box Stmt Global)) (y : Stmt) (jump : ℕ) (end : ℤ) → x ≡ t.If k h p o → o ≡ None → y ≡ p.value → c0 ≡ with_instr c i.Tick 0
      → Writes b w 0 c0 c1 h → jump ≡ length c1.instrs → c2 ≡ with_hole c1 → WritesStatement b w c2 c3 y → end ≡ pos (length c3.instrs) → c4 ≡ filled_in c3 jump (i.JumpF end) → WritesStatement b w c c4 x
  unfolding Writes Rattle.codegen_expr.specs.Emit.Puts WritesStatement
  write_when c c0 c1 c2 c3 c4 x k h p o y jump end is none ey e0 f ej e2 g ee e4 =
      let s = source_of b in
      stm_as c c4 x _ (ap statement_syntax (is ∙ ap (λ z. t.If k h p z) none) ∙ v.syntax-If k h p None ∙ ap (λ z. syntax.Choose k.0 (syntax_of h) (statement_syntax z) NoStatement) (sym ey))
      (emits_as w _ _ _ _ c c4 (λ z. (z.0, z.1)) (λ z. (z.0, z.1, tt)) (λ final site p q _ _ r. r)
      (tick_then _ _ c c0 c4 e0
      (emits_when w (IsBuilt s w.text (syntax_of h)) (StatementBuilt s w.text (statement_syntax y)) (λ z site. ExprAt s z site 0 (syntax_of h)) (λ z site. StmAt s z site 0 (statement_syntax y)) c0 c1 c2 c3 c4 jump end f ej e2 g ee e4)))

  pub write_choose : (c c0 c1 c2 c3 c4 c5 c6 c7 : DraftOf) (x : Stmt) (k : TokenNo) (h : Expr) (p r : Box Stmt Global) (o : Option (Box Stmt Global)) (y z : Stmt) (jump over : ℕ) (start end : ℤ) → x ≡ t.If k h p o → o ≡ Some r → y ≡ p.value → z ≡ r.value → c0 ≡ with_instr c i.Tick 0
      → Writes b w 0 c0 c1 h → jump ≡ length c1.instrs → c2 ≡ with_hole c1 → WritesStatement b w c2 c3 y → over ≡ length c3.instrs → c4 ≡ with_hole c3 → start ≡ pos (length c4.instrs) → WritesStatement b w c4 c5 z → end ≡ pos (length c5.instrs)
      → c6 ≡ filled_in c5 jump (i.JumpF start) → c7 ≡ filled_in c6 over (i.Jump end) → WritesStatement b w c c7 x
  unfolding Writes Rattle.codegen_expr.specs.Emit.Puts WritesStatement
  write_choose c c0 c1 c2 c3 c4 c5 c6 c7 x k h p r o y z jump over start end is some ey ez e0 f ej e2 g eo e4 es j ee e6 e7 =
      let s = source_of b in
      let second : Emits w c4 c5 (StatementsBuilt s w.text (Also (statement_syntax z) NoStatement)) (λ final site p q. (u : ℕ) × StmAt s final site 0 (statement_syntax z) p u × StmsAt s final site 0 NoStatement u q) = emits_as w (StatementBuilt s w.text (statement_syntax z)) _ (λ final site p q. StmAt s final site 0 (statement_syntax z) p q) _ c4 c5 (λ d. d.0) (λ d. (d, tt)) (λ final site m n _ _ d. (n, d, refl)) j in
      stm_as c c7 x _ (ap statement_syntax (is ∙ ap (λ n. t.If k h p n) some) ∙ v.syntax-If k h p (Some r) ∙ ap (λ n. syntax.Choose k.0 (syntax_of h) (statement_syntax n) (Also (statement_syntax r.value) NoStatement)) (sym ey) ∙ ap (λ n. syntax.Choose k.0 (syntax_of h) (statement_syntax y) (Also (statement_syntax n) NoStatement)) (sym ez))
      (tick_then _ _ c c0 c7 e0
      (emits_if w (IsBuilt s w.text (syntax_of h)) (StatementBuilt s w.text (statement_syntax y)) (StatementsBuilt s w.text (Also (statement_syntax z) NoStatement)) (λ n site. ExprAt s n site 0 (syntax_of h)) (λ n site. StmAt s n site 0 (statement_syntax y))
      (λ n site p q. (u : ℕ) × StmAt s n site 0 (statement_syntax z) p u × StmsAt s n site 0 NoStatement u q) c0 c1 c2 c3 c4 c5 c6 c7 jump over start end f ej e2 g eo e4 es second ee e6 e7))

  pub write_while : (c0 c1 c2 c3 c4 c5 c6 new : DraftOf) (x : Stmt) (k : TokenNo) (h : Expr) (p : Box Stmt Global) (y : Stmt) (start end : ℤ) (jump : ℕ) → x ≡ t.While k h p → y ≡ p.value → c1 ≡ with_instr c0 i.Tick 0 → start ≡ pos (length c1.instrs) → c2 ≡ with_instr c1 i.Tick 0
      → Writes b w 0 c2 c3 h → jump ≡ length c3.instrs → c4 ≡ with_hole c3 → WritesStatement b w c4 c5 y → c6 ≡ with_instr c5 (i.Jump start) 0 → end ≡ pos (length c6.instrs) → new ≡ filled_in c6 jump (i.JumpF end) → WritesStatement b w c0 new x
  unfolding Writes Rattle.codegen_expr.specs.Emit.Puts WritesStatement
  write_while c0 c1 c2 c3 c4 c5 c6 new x k h p y start end jump is ey e1 es e2 f ej e4 g e6 ee en =
      let s = source_of b in
      stm_as c0 new x _ (ap statement_syntax is ∙ v.syntax-While k h p ∙ ap (λ z. syntax.Repeat k.0 (syntax_of h) (statement_syntax z)) (sym ey))
      (emits_as w _ _ _ _ c0 new (λ z. (z.0, z.1)) (λ z. (z.0, z.1)) (λ final site m n _ _ r. (r.0, r.2.0, r.2.1, r.1, r.2.2))
      (tick_then _ _ c0 c1 new e1
      (emits_loop w (IsBuilt s w.text (syntax_of h)) (StatementBuilt s w.text (statement_syntax y)) (λ z site. ExprAt s z site 0 (syntax_of h)) (λ z site. StmAt s z site 0 (statement_syntax y)) c1 c2 c3 c4 c5 c6 new start end jump es e2 f ej e4 g e6 ee en)))

  -- what has no code
  no_meaning : (a c : DraftOf) (x : Stmt) (y : Statement) → statement_syntax x ≡ y → (StatementBuilt (source_of b) w.text y → ⊥) → c ≡ given_up a → WritesStatement b w a c x
  no_meaning a c x y is never ec = stm_as a c x y is (emits_nothing w a c _ _ never ec)

  pub write_prefixed : (a c d : DraftOf) (x : Stmt) (p : BlockPrefix) (k : Block) (ys : List Expr) → x ≡ t.PrefixedBlock p k → ys ≡ p.arguments.items → c ≡ with_instr a i.Tick 0 → WritesPrefixed b w c d p.class ys k.token → WritesStatement b w a d x
  unfolding WritesPrefixed
  write_prefixed a c d x p k ys is ey ec f =
      let s = source_of b in
      let es = expressions (map syntax_of ys) in
      stm_as a d x _ (ap statement_syntax is ∙ v.syntax-PrefixedBlock p k ∙ ap (λ z. syntax.Prefixed p.class (expressions (map syntax_of z)) (block_syntax k)) (sym ey) ∙ ap (syntax.Prefixed p.class es) (v.syntax-block k.token k.declarations k.statements k.end))
      (tick_then (PrefixBuilt s w.text es (block_around s k.token.0)) (λ final site. PrefixedAt s final site 0 (line_at s p.class.token.0) es (block_around s k.token.0)) a c d ec f)

  pub write_inner : (a c : DraftOf) (x : Stmt) (k : TokenNo) → x ≡ t.Inner k → c ≡ given_up a → WritesStatement b w a c x
  write_inner a c x k is ec = no_meaning a c x _ (ap statement_syntax is ∙ v.syntax-Inner k) (λ z. z) ec

  pub write_connects : (a c d : DraftOf) (x : Stmt) (k : TokenNo) (h : Expr) (n : TokenNo) (p : Box Stmt Global) (m : TokenNo) (o : Option (Box Stmt Global)) (y : Stmt) → x ≡ t.Inspect k h n p m o → y ≡ p.value → c ≡ with_instr a i.Tick 0 → WritesInspect b w c d h n y o → WritesStatement b w a d x
  unfolding WritesInspect
  write_connects a c d x k h n p m o y is ey ec f =
      let s = source_of b in
      stm_as a d x _ (ap statement_syntax is ∙ v.syntax-Inspect k h n p m o ∙ ap (λ z. syntax.Inspect k.0 (syntax_of h) n.0 (statement_syntax z) m.0 (branch_syntax o)) (sym ey))
      (tick_then _ (λ final site. InspectAt final site 0 (ExprAt s final site 0 (syntax_of h)) (ConnectsAt s final site n.0 (block_around s n.0) (λ site. StmAt s final site 0 (statement_syntax y))) (StmsAt s final site 0 (branch_syntax o))) a c d ec f)

  pub write_arms : (a c0 c1 d : DraftOf) (x : Stmt) (k : TokenNo) (h : Expr) (l : Vec When Global) (xs : List When) (o : Option (Box Stmt Global)) → x ≡ t.InspectWhen k h l o → xs ≡ l.items → c0 ≡ with_instr a i.Tick 0 → Writes b w 0 c0 c1 h → WritesArms b w c1 d xs o → WritesStatement b w a d x
  unfolding Writes Rattle.codegen_expr.specs.Emit.Puts WritesArms
  write_arms a c0 c1 d x k h l xs o is ex e0 f g =
      let s = source_of b in
      stm_as a d x _ (ap statement_syntax is ∙ v.syntax-InspectWhen k h l o ∙ ap (λ z. syntax.InspectWhen k.0 (syntax_of h) (arms (map arm_syntax z)) (branch_syntax o)) (sym ex))
      (emits_as w _ _ _ _ a d (λ z. (z.0, (z.1, z.2))) (λ z. (z.0, z.1.0, z.1.1)) (λ final site p q _ _ r. (r.0, r.2.0, r.1, r.2.1, r.2.2))
      (tick_then _ _ a c0 d e0 (emits_then w _ _ (λ final site. ExprAt s final site 0 (syntax_of h)) (λ final site. ArmsAt s final site 0 (arms (map arm_syntax xs)) (StmsAt s final site 0 (branch_syntax o))) c0 c1 d f g)))

  pub write_activation : (a c d : DraftOf) (x : Stmt) (k : TokenNo) (n : Activation) (h : Expr) (o : Option Timing) → x ≡ t.Activation k n h o → c ≡ with_instr a i.Tick 0 → WritesActivation b w c d k n h o → WritesStatement b w a d x
  unfolding WritesActivation
  write_activation a c d x k n h o is ec f =
      let s = source_of b in
      stm_as a d x _ (ap statement_syntax is ∙ v.syntax-Activation k n h o)
      (tick_then _ (λ final site. ActivatesAt s final site 0 (line_at s k.0) (simulation_around s k.0) (is_again n) (syntax_of h) (schedule_syntax o)) a c d ec f)

  -- ---- statements one behind another

  pub statements_all : (a : DraftOf) (xs : List Stmt) → OwesStatements b w a xs a xs
  unfolding OwesStatements
  statements_all a xs end f = f

  pub statements_next : (a c d : DraftOf) (xs r r' : List Stmt) (x : Stmt) → OwesStatements b w a xs c r → r ≡ x ∷ r' → WritesStatement b w c d x → OwesStatements b w a xs d r'
  unfolding OwesStatements WritesStatements WritesStatement
  statements_next a c d xs r r' x f is one end rest =
      f end (subst (WritesStatements b w c end) (sym is) (emits_then w (StatementBuilt (source_of b) w.text (statement_syntax x)) (StatementsBuilt (source_of b) w.text (statements (map statement_syntax r'))) (λ z site. StmAt (source_of b) z site 0 (statement_syntax x)) (λ z site. StmsAt (source_of b) z site 0 (statements (map statement_syntax r'))) c d end one rest))

  pub statements_none : (a c : DraftOf) (xs r : List Stmt) → OwesStatements b w a xs c r → r ≡ [] → WritesStatements b w a c xs
  unfolding OwesStatements WritesStatements
  statements_none a c xs r f is = f c (subst (WritesStatements b w c c) (sym is) (emits_none w c))

  -- ---- blocks

  pub write_body : (a c : DraftOf) (k : Block) (ds : List Decl) (l : List Stmt) → ds ≡ k.declarations.items → length ds ≡ 0 → l ≡ k.statements.items → WritesStatements b w a c l → WritesBlock b w a c k
  unfolding WritesBlock WritesStatements
  write_body a c k [] l same none also_ f =
      let s = source_of b in
      subst (λ z. Emits w a c (BlockBuilt s w.text z) (λ final site p q. BlockAt s final site 0 z p q)) (sym (v.syntax-block k.token k.declarations k.statements k.end))
      (subst (λ z. Emits w a c (BlockBuilt s w.text (Begin k.token.0 (declarations (map declaration_syntax z)) (statements (map statement_syntax k.statements.items)) k.end.0)) (λ final site p q. BlockAt s final site 0 (Begin k.token.0 (declarations (map declaration_syntax z)) (statements (map statement_syntax k.statements.items)) k.end.0) p q)) same
      (subst (λ z. Emits w a c (StatementsBuilt s w.text (statements (map statement_syntax z))) (λ final site p q. StmsAt s final site 0 (statements (map statement_syntax z)) p q)) also_ f))
  write_body a c k (d ∷ ds) l same none also_ f = absurd (omega (arith, none))

  -- a sub-block, of which the tables have this number
  entered_as : (a c : DraftOf) (k : Block) (o : Option ℕ) → length k.declarations.items ≢ 0 → o ≡ block_at b.scopes k.token.0
      → Emits w a c (EnterBuilt (source_of b) w.text o) (λ final site p q. EnterAt (source_of b) final site (line_at (source_of b) k.token.0) o p q) → WritesBlock b w a c k
  unfolding WritesBlock block_around block_at source_of
  entered_as a c k o some eo f =
      subst (λ z. Emits w a c (BlockBuilt (source_of b) w.text z) (λ final site p q. BlockAt (source_of b) final site 0 z p q)) (sym (v.syntax-block k.token k.declarations k.statements k.end)) (cases k.declarations.items some)
    where
      cases : (l : List Decl) → length l ≢ 0 → Emits w a c (BlockBuilt (source_of b) w.text (Begin k.token.0 (declarations (map declaration_syntax l)) (statements (map statement_syntax k.statements.items)) k.end.0)) (λ final site p q. BlockAt (source_of b) final site 0 (Begin k.token.0 (declarations (map declaration_syntax l)) (statements (map statement_syntax k.statements.items)) k.end.0) p q)
      cases [] ne = absurd (ne refl)
      cases (d ∷ ds) ne = subst (λ z. Emits w a c (EnterBuilt (source_of b) w.text z) (λ final site p q. EnterAt (source_of b) final site (line_at (source_of b) k.token.0) z p q)) eo f

  pub write_nowhere : (a c : DraftOf) (k : Block) (o : Option ℕ) → length k.declarations.items ≢ 0 → o ≡ block_at b.scopes k.token.0 → o ≡ None → c ≡ given_up a → WritesBlock b w a c k
  write_nowhere a c k o some eo none ec = entered_as a c k None some (sym none ∙ eo) (emits_nothing w a c _ _ (λ z. z) ec)

  pub write_outermost : (a c : DraftOf) (k : Block) (o : Option ℕ) (n : ℕ) → length k.declarations.items ≢ 0 → o ≡ block_at b.scopes k.token.0 → o ≡ Some n → n ≡ 0 → c ≡ given_up a → WritesBlock b w a c k
  write_outermost a c k o n some eo is zero_ ec = entered_as a c k (Some 0) some (sym (is ∙ ap Some zero_) ∙ eo) (emits_nothing w a c _ _ (λ z. z) ec)

  pub write_elsewhere : (a c : DraftOf) (k : Block) (o : Option ℕ) (n : ℕ) → length k.declarations.items ≢ 0 → o ≡ block_at b.scopes k.token.0 → o ≡ Some n → n ≢ 0 → encloser b.scopes n ≢ Some w.text → c ≡ given_up a → WritesBlock b w a c k
  unfolding source_of
  write_elsewhere a c k o zero some eo is ne out ec = absurd (ne refl)
  write_elsewhere a c k o (suc n) some eo is ne out ec = entered_as a c k (Some (suc n)) some (sym is ∙ eo) (emits_nothing w a c _ _ out ec)

  pub write_entry : (a c : DraftOf) (k : Block) (o : Option ℕ) (n m line : ℕ) (x : Instr) → length k.declarations.items ≢ 0 → o ≡ block_at b.scopes k.token.0 → o ≡ Some n → n ≢ 0 → encloser b.scopes n ≡ Some w.text
      → m ≡ block_number (source_of b) n → x ≡ i.Enter (pos m) → line ≡ line_at (source_of b) k.token.0 → c ≡ with_instr a x line → WritesBlock b w a c k
  unfolding source_of
  write_entry a c k o zero m line x some eo is ne around em ex el ec = absurd (ne refl)
  write_entry a c k o (suc n) m line x some eo is ne around em ex el ec =
      let s = source_of b in
      let same : x ≡ i.Enter (pos (block_number s (suc n))) = ex ∙ ap (λ z. i.Enter (pos z)) em in
      let put : c ≡ with_instr a (i.Enter (pos (block_number s (suc n)))) (line_at s k.token.0) = ec ∙ ap (λ z. with_instr a z line) same ∙ ap (λ z. with_instr a (i.Enter (pos (block_number s (suc n)))) z) el in
      entered_as a c k (Some (suc n)) some (sym is ∙ eo)
      (emits_as w ⊤ _ _ _ a c (λ h. tt) (λ h. around) (λ final site p q stands _ r. (around ∙ ap Some (sym stands), r))
      (emits_at w a c (i.Enter (pos (block_number s (suc n)))) (line_at s k.token.0) put (λ z. cc) refl))

  -- ---- calls

  no_call : (y : Expression) → IsOther y → CalledBuilt (source_of b) w.text y → ⊥
  no_call (syntax.If k h l m) f z = z
  no_call (syntax.Binary k h l m) f z = z
  no_call (syntax.Not k h) f z = z
  no_call (syntax.Signed k h l) f z = z
  no_call (syntax.Member k h l m) f z = z
  no_call (Dot k h l m) f z = f
  no_call (Qua k h l) f z = z
  no_call (syntax.Constant k h) f z = z
  no_call (Named name es) f z = f
  no_call (syntax.This k h) f z = z
  no_call (syntax.New k h l) f z = f
  no_call (syntax.Parentheses k h) f z = z

  call_as : (a c : DraftOf) (x : Expr) (y : Expression) → syntax_of x ≡ y → Emits w a c (CalledBuilt (source_of b) w.text y) (λ final site p q. (k : ℕ) × CalledAt (source_of b) final site 0 y p k × DropsAt final (leaves (source_of b) y) k q) → WritesCall b w a c x
  unfolding WritesCall
  call_as a c x y is f = subst (λ z. Emits w a c (CalledBuilt (source_of b) w.text z) (λ final site p q. (k : ℕ) × CalledAt (source_of b) final site 0 z p k × DropsAt final (leaves (source_of b) z) k q)) (sym is) f

  pub write_named_call : (a c : DraftOf) (x : Expr) (f : Form) (k : Bor Identifier) (l : Bor (List Expr)) → FindsForm f x → f ≡ form.Named k l → WritesCalled b w a c k.now l.now → WritesCall b w a c x
  unfolding WritesCalled
  write_named_call a c x f k l h is g = call_as a c x _ (form_at f (form.Named k l) x h is) g

  pub write_taken_call : (a c : DraftOf) (x : Expr) (f : Form) (p : Bor Expr) (l : Bor (List Selector)) → FindsForm f x → f ≡ form.Taken p l → WritesTakenCall b w a c p.now l.now → WritesCall b w a c x
  unfolding WritesTakenCall
  write_taken_call a c x f p l h is g = call_as a c x _ (form_at f (form.Taken p l) x h is).0 g

  pub some_taken : (x : Expr) (f : Form) (p : Bor Expr) (l : Bor (List Selector)) → FindsForm f x → f ≡ form.Taken p l → length l.now ≢ 0
  some_taken x f p l h is = (form_at f (form.Taken p l) x h is).1

  pub write_closed_call : (a c : DraftOf) (x : Expr) (f : Form) (p : Bor Expr) → FindsForm f x → f ≡ form.Closed p → c ≡ given_up a → WritesCall b w a c x
  write_closed_call a c x f p h is ec = call_as a c x _ (form_at f (form.Closed p) x h is).1 (emits_nothing w a c _ _ (λ z. z) ec)

  pub write_new_call : (a c d : DraftOf) (x : Expr) (f : Form) → FindsForm f x → f ≡ form.New → Writes b w 0 a c x → d ≡ with_instr c i.Pop 0 → WritesCall b w a d x
  unfolding Writes Rattle.codegen_expr.specs.Emit.Puts
  write_new_call a c d x f h is g ed = call_as a d x (syntax_of x) refl (cases (syntax_of x) (form_at f form.New x h is) g)
    where
      s : Source
      s = source_of b

      cases : (y : Expression) → IsNew y → Emits w a c (IsBuilt s w.text y) (λ final site p q. ExprAt s final site 0 y p q) → Emits w a d (CalledBuilt s w.text y) (λ final site p q. (k : ℕ) × CalledAt s final site 0 y p k × DropsAt final (leaves s y) k q)
      cases (syntax.New k y l) n e =
          emits_as w _ _ _ _ a d (λ z. (z, tt)) (λ z. z.0) (λ final site p q _ _ r. (r.0, r.1, record { line = 0; is = r.2 }))
          (emits_then w _ ⊤ _ (λ final site p q. At final i.Pop 0 p q) a c d e (emits_at w c d i.Pop 0 ed (λ z. cc) refl))
      cases _ n e = absurd n

  pub write_other_call : (a c : DraftOf) (x : Expr) (f : Form) → FindsForm f x → f ≡ form.Other → c ≡ given_up a → WritesCall b w a c x
  write_other_call a c x f h is ec = call_as a c x (syntax_of x) refl (emits_nothing w a c _ _ (no_call (syntax_of x) (form_at f form.Other x h is)) ec)

  -- a value is left, or none, just as is given
  called : (a c d : DraftOf) (x : Identifier) (es : List Expr) (o : Option Denotation) (k : Bool) → transfer_at (source_of b) x.token.0 ≡ None → o ≡ denoted (source_of b) x.token.0 → k ≡ denoted_leaves (source_of b) o → k ≡ gives (source_of b) o → WritesNamed b w 0 a c x.token o es
      → Emits w c d ⊤ (λ final site p q. DropsAt final k p q) → WritesCalled b w a d x es
  unfolding WritesCalled WritesNamed PutsNamed
  called a c d x es o k none eo el eg f g =
      let s = source_of b in
      let xs = expressions (map syntax_of es) in
      let same : denoted_leaves s (denoted s x.token.0) ≡ gives s (denoted s x.token.0) = ap (denoted_leaves s) (sym eo) ∙ sym el ∙ eg ∙ ap (gives s) eo in
      let drops : denoted_leaves s (denoted s x.token.0) ≡ k = ap (denoted_leaves s) (sym eo) ∙ sym el in
      let f' = subst (λ z. Emits w a c (ThroughBuilt (connection_at s x.token.0) (λ m. ConnectedNameBuilt s w.text m z xs (AreBuilt s w.text xs) (λ formals. ActualsBuilt s w.text xs formals))
      (OwnBuilt (own_attribute s x.token.0)
      (λ j. OwnNameBuilt s w.text (found_at s x.token.0) (entry_of s.tables j) xs (ActualsBuilt s w.text xs (Listed (formals_at s j)))
      (OfObjectBuilt s j (entry_of s.tables j) xs (ThisFoundBuilt s w.text (found_at s x.token.0)) (AreBuilt s w.text xs) (ActualsBuilt s w.text xs (parameters_at s j))))
      (NamedBuilt s w.text z xs (AreBuilt s w.text xs) (λ formals. ActualsBuilt s w.text xs formals))))
      (λ final site p q. ThroughAt (connection_at s x.token.0) (λ m. ConnectedNameAt s final site 0 (line_at s x.token.0) m z xs (ExprsAt s final site 1 xs) (λ formals. ActualsAt s final site 1 (line_at s x.token.0) false xs formals))
      (OwnAt (own_attribute s x.token.0)
      (λ j. OwnNameAt s final site 0 (line_at s x.token.0) (found_at s x.token.0) (entry_of s.tables j) xs (ActualsAt s final site 1 (line_at s x.token.0) false xs (Listed (formals_at s j)))
      (OfObjectAt s final site 0 (line_at s x.token.0) j (entry_of s.tables j) xs (ThisFoundAt s final site 0 (found_at s x.token.0)) (ExprsAt s final site 1 xs) (ActualsAt s final site 1 (line_at s x.token.0) false xs (parameters_at s j))))
      (NamedAt s final site 0 (line_at s x.token.0) z xs (ExprsAt s final site 0 xs) (ExprsAt s final site 1 xs) (λ formals. ActualsAt s final site 1 (line_at s x.token.0) false xs formals))) p q)) eo f in
      subst (NamedCall s w a d x xs) (sym none)
      (emits_as w _ _ _ _ a d (λ h. (h.1, tt)) (λ h. (same, h.0)) (λ final site p q _ _ r. (r.0, (same, r.1), subst (λ z. DropsAt final z r.0 q) (sym drops) r.2))
      (emits_then w _ ⊤ _ (λ final site p q. DropsAt final k p q) a c d f' g))

  pub write_dropped : (a c d : DraftOf) (x : Identifier) (es : List Expr) (o : Option Denotation) (t : Option Word) (k m : Bool) → o ≡ denoted (source_of b) x.token.0 → FindsTransfer t o → t ≡ None → k ≡ denoted_leaves (source_of b) o → k ≡ true → m ≡ gives (source_of b) o → m ≡ true → WritesNamed b w 0 a c x.token o es → d ≡ with_instr c i.Pop 0 → WritesCalled b w a d x es
  write_dropped a c d x es o t k m eo et none el is eg gs f ed =
      called a c d x es o true (at_none (source_of b) x.token.0 o t eo et none) eo (sym is ∙ el) (sym gs ∙ eg) f (emits_as w ⊤ ⊤ _ _ c d (λ h. h) (λ h. h) (λ final site p q _ _ r. record { line = 0; is = r }) (emits_at w c d i.Pop 0 ed (λ z. cc) refl))

  pub write_kept : (a c : DraftOf) (x : Identifier) (es : List Expr) (o : Option Denotation) (t : Option Word) (k m : Bool) → o ≡ denoted (source_of b) x.token.0 → FindsTransfer t o → t ≡ None → k ≡ denoted_leaves (source_of b) o → k ≡ false → m ≡ gives (source_of b) o → m ≡ false → WritesNamed b w 0 a c x.token o es → WritesCalled b w a c x es
  write_kept a c x es o t k m eo et none el is eg gs f = called a c c x es o false (at_none (source_of b) x.token.0 o t eo et none) eo (sym is ∙ el) (sym gs ∙ eg) f (emits_none w c)

  uncalled : (a c : DraftOf) (x : Identifier) (es : List Expr) (o : Option Denotation) (k m : Bool) → transfer_at (source_of b) x.token.0 ≡ None → o ≡ denoted (source_of b) x.token.0 → k ≡ denoted_leaves (source_of b) o → m ≡ gives (source_of b) o → (k ≡ m → ⊥) → c ≡ given_up a → WritesCalled b w a c x es
  unfolding WritesCalled
  uncalled a c x es o k m none eo el eg never ec =
      let s = source_of b in
      subst (NamedCall s w a c x (expressions (map syntax_of es))) (sym none)
      (emits_nothing w a c _ _ (λ h. never (el ∙ ap (denoted_leaves s) eo ∙ h.0 ∙ ap (gives s) (sym eo) ∙ sym eg)) ec)

  pub write_lost : (a c : DraftOf) (x : Identifier) (es : List Expr) (o : Option Denotation) (t : Option Word) (k m : Bool) → o ≡ denoted (source_of b) x.token.0 → FindsTransfer t o → t ≡ None → k ≡ denoted_leaves (source_of b) o → k ≡ true → m ≡ gives (source_of b) o → m ≡ false → c ≡ given_up a → WritesCalled b w a c x es
  write_lost a c x es o t k m eo et none el is eg gs ec = uncalled a c x es o k m (at_none (source_of b) x.token.0 o t eo et none) eo el eg (λ h. cc) ec

  pub write_stays : (a c : DraftOf) (x : Identifier) (es : List Expr) (o : Option Denotation) (t : Option Word) (k m : Bool) → o ≡ denoted (source_of b) x.token.0 → FindsTransfer t o → t ≡ None → k ≡ denoted_leaves (source_of b) o → k ≡ false → m ≡ gives (source_of b) o → m ≡ true → c ≡ given_up a → WritesCalled b w a c x es
  write_stays a c x es o t k m eo et none el is eg gs ec = uncalled a c x es o k m (at_none (source_of b) x.token.0 o t eo et none) eo el eg (λ h. cc) ec

  -- ---- assignments

  abbrev Assigns : (a c : DraftOf) → Expr → List Assigned → Type 0
  Assigns a c x l =
      Emits w a c (AssignBuilt (source_of b) w.text (each_stored (source_of b) (left_sides (syntax_of x) (map right_side_syntax l))) (last_value (syntax_of x) (map right_side_syntax l)))
      (λ final site p q. AssignAt (source_of b) final site 0 (each_stored (source_of b) (left_sides (syntax_of x) (map right_side_syntax l))) (last_value (syntax_of x) (map right_side_syntax l)) p q)

  single : (a c : DraftOf) (x : Expr) (l : List Assigned) (k : Assigned) → length l ≡ 1 → k ≡ slice_index_or l 0 k → Assigns a c x (k ∷ []) → WritesAssignment b w a c x l
  unfolding WritesAssignment
  single a c x l k one at f = subst (Assigns a c x) (sym (one_part l k one at)) f

  pub write_single : (a c : DraftOf) (x : Bor Expr) (l : List Assigned) (k : Assigned) → length l ≡ 1 → k ≡ slice_index_or l 0 k → WritesOne b w a c (record { sign = k.sign; token = k.token.0; left = x.now }) k.value → WritesAssignment b w a c x.now l
  unfolding WritesOne
  write_single a c x l k one at f = single a c x.now l k one at f

  pub write_not_single : (a c : DraftOf) (x : Expr) (l : List Assigned) → length l ≡ 0 → c ≡ given_up a → WritesAssignment b w a c x l
  unfolding WritesAssignment
  write_not_single a c x l none ec = emits_nothing w a c _ _ (never l none) ec
    where
      never : (l : List Assigned) → length l ≡ 0 → AssignBuilt (source_of b) w.text (each_stored (source_of b) (left_sides (syntax_of x) (map right_side_syntax l))) (last_value (syntax_of x) (map right_side_syntax l)) → ⊥
      never [] none h = h
      never (k ∷ ks) none h = absurd (omega (arith, none))

  -- ---- `for`

  abbrev Fors : (a c : DraftOf) → Option Variable → List syntax.Element → Statement → Type 0
  Fors a c v es z =
      Emits w a c (ForBuilt (source_of b) w.text v es (StatementBuilt (source_of b) w.text z))
      (λ final site p q. ForAt (source_of b) final site 0 v (is_empty z) es (λ site. StmAt (source_of b) final site 0 z) p q)

  -- the variable of an identifier, by whether it is a text and by the sign
  abbrev over : Identifier → (text : Bool) → Assignment → (line : ℕ) → Option Variable
  over y u sign line = variable_of (source_of b) line (Named y NoMore) (assigned_by u sign line)

  -- whether the variable is a text
  text_is : (y : Identifier) (t u : Bool) → t ≡ is_text_type (type_at (source_of b) y.token.0) → t ≡ u → u ≡ is_text (source_of b) (Named y NoMore)
  unfolding is_text
  text_is y k0 u et is = sym is ∙ et

  values_as : (a c d : DraftOf) (x : Stmt) (k : TokenNo) (y : Identifier) (n : TokenNo) (l : Vec ForElement Global) (es : List ForElement) (p : Box Stmt Global) (z : Stmt) (k0 u : Bool) → x ≡ t.For k y n l p → es ≡ l.items → z ≡ p.value → c ≡ with_instr a i.Tick 0 → k0 ≡ is_text_type (type_at (source_of b) y.token.0) → k0 ≡ u → Fors c d (over y u assignment.Value (line_at (source_of b) n.0)) (map element_syntax es) (statement_syntax z) → WritesStatement b w a d x
  values_as a c d x k y n l es p z k0 u is ee ez ec et eu f =
      let s = source_of b in
      stm_as a d x _ (ap statement_syntax is ∙ v.syntax-For k y n l p ∙ ap (λ m. syntax.For k.0 y assignment.Value n.0 (map element_syntax m) (statement_syntax p.value)) (sym ee) ∙ ap (λ m. syntax.For k.0 y assignment.Value n.0 (map element_syntax es) (statement_syntax m)) (sym ez))
      (tick_then _ _ a c d ec (subst (λ m. Fors c d (over y m assignment.Value (line_at s n.0)) (map element_syntax es) (statement_syntax z)) (text_is y k0 u et eu) f))

  pub write_for_texts : (a c d : DraftOf) (x : Stmt) (k : TokenNo) (y : Identifier) (n : TokenNo) (l : Vec ForElement Global) (es : List ForElement) (p : Box Stmt Global) (z : Stmt) (k0 : Bool) (line : Line) → x ≡ t.For k y n l p → es ≡ l.items → z ≡ p.value → c ≡ with_instr a i.Tick 0 → k0 ≡ is_text_type (type_at (source_of b) y.token.0) → k0 ≡ true → line.0 ≡ line_at (source_of b) n.0 → WritesFor b w c d y (Some line.0) (map element_syntax es) z → WritesStatement b w a d x
  unfolding WritesFor
  write_for_texts a c d x k y n l es p z k0 line is ee ez ec et yes' el f = values_as a c d x k y n l es p z k0 true is ee ez ec et yes' (subst (λ m. Fors c d (variable_stored (stored_left (source_of b) (Named y NoMore)) (Some m)) (map element_syntax es) (statement_syntax z)) el f)

  pub write_for_values : (a c d : DraftOf) (x : Stmt) (k : TokenNo) (y : Identifier) (n : TokenNo) (l : Vec ForElement Global) (es : List ForElement) (p : Box Stmt Global) (z : Stmt) (k0 : Bool) → x ≡ t.For k y n l p → es ≡ l.items → z ≡ p.value → c ≡ with_instr a i.Tick 0 → k0 ≡ is_text_type (type_at (source_of b) y.token.0) → k0 ≡ false → WritesFor b w c d y None (map element_syntax es) z → WritesStatement b w a d x
  unfolding WritesFor
  write_for_values a c d x k y n l es p z k0 is ee ez ec et not' f = values_as a c d x k y n l es p z k0 false is ee ez ec et not' f

  references_as : (a c d : DraftOf) (x : Stmt) (k : TokenNo) (y : Identifier) (n : TokenNo) (l : Vec ReferenceElement Global) (es : List ReferenceElement) (p : Box Stmt Global) (z : Stmt) (k0 u : Bool) → x ≡ t.ForReference k y n l p → es ≡ l.items → z ≡ p.value → c ≡ with_instr a i.Tick 0 → k0 ≡ is_text_type (type_at (source_of b) y.token.0) → k0 ≡ u → Fors c d (over y u assignment.Reference (line_at (source_of b) n.0)) (map reference_element_syntax es) (statement_syntax z) → WritesStatement b w a d x
  references_as a c d x k y n l es p z k0 u is ee ez ec et eu f =
      let s = source_of b in
      stm_as a d x _ (ap statement_syntax is ∙ v.syntax-ForReference k y n l p ∙ ap (λ m. syntax.For k.0 y assignment.Reference n.0 (map reference_element_syntax m) (statement_syntax p.value)) (sym ee) ∙ ap (λ m. syntax.For k.0 y assignment.Reference n.0 (map reference_element_syntax es) (statement_syntax m)) (sym ez))
      (tick_then _ _ a c d ec (subst (λ m. Fors c d (over y m assignment.Reference (line_at s n.0)) (map reference_element_syntax es) (statement_syntax z)) (text_is y k0 u et eu) f))

  pub write_references : (a c d : DraftOf) (x : Stmt) (k : TokenNo) (y : Identifier) (n : TokenNo) (l : Vec ReferenceElement Global) (es : List ReferenceElement) (p : Box Stmt Global) (z : Stmt) (k0 : Bool) → x ≡ t.ForReference k y n l p → es ≡ l.items → z ≡ p.value → c ≡ with_instr a i.Tick 0 → k0 ≡ is_text_type (type_at (source_of b) y.token.0) → k0 ≡ true → WritesFor b w c d y None (map reference_element_syntax es) z → WritesStatement b w a d x
  unfolding WritesFor
  write_references a c d x k y n l es p z k0 is ee ez ec et yes' f = references_as a c d x k y n l es p z k0 true is ee ez ec et yes' f

  -- ---- the variable, and the list over it

  over_all : (s : Source) (k : ℕ) (v : Variable) (es : List syntax.Element) → VariableBuilt s k v → ElementsBuilt s k v es → ElementsOver s k v es
  over_all s k v [] f h = tt
  over_all s k v (e ∷ es) f h = ((f, h.0), over_all s k v es f h.1)

  all_over : (s : Source) (k : ℕ) (v : Variable) (es : List syntax.Element) → ElementsOver s k v es → ElementsBuilt s k v es
  all_over s k v [] h = tt
  all_over s k v (e ∷ es) h = (h.0.1, all_over s k v es h.1)

  over_list : (s : Source) (k : ℕ) (v : Variable) (es : List syntax.Element) (Body : Type 0) → VariableBuilt s k v × ListBuilt s k v es Body → ListOver s k v es Body
  over_list s k v [] Body h = h.1
  over_list s k v (e ∷ []) Body h = (((h.0, h.1.0), tt), h.1.1)
  over_list s k v (e ∷ f ∷ es) Body h = (over_all s k v (e ∷ f ∷ es) h.0 h.1.0, h.1.1)

  list_over : (s : Source) (k : ℕ) (v : Variable) (es : List syntax.Element) (Body : Type 0) → ListOver s k v es Body → VariableBuilt s k v × ListBuilt s k v es Body
  list_over s k v [] Body h = absurd h
  list_over s k v (e ∷ []) Body h = (h.0.0.0, (h.0.0.1, h.1))
  list_over s k v (e ∷ f ∷ es) Body h = (h.0.0.0, (all_over s k v (e ∷ f ∷ es) h.0, h.1))

  there : (s : Source) (v : Variable) (site : Site) → site.text ≡ w.text → VariableBuilt s w.text v → VariableThere s site v
  there s (OfCell home key line) site stands built = (here b w s home site.text stands built.inside, cell_there s home key built.has)
  there s (OfPlace e line) site stands built = tt
  there s (OfReference e line) site stands built = tt

  for_over : (a c : DraftOf) (t0 : Target) (v : Variable) (es : List syntax.Element) (z : Stmt) → Controls (source_of b) w.text t0 v → WritesList b w a c t0 es z → Fors a c (Some v) es (statement_syntax z)
  unfolding WritesList
  for_over a c t0 v es z ct f =
      let s = source_of b in
      let Body = StatementBuilt s w.text (statement_syntax z) in
      let g = f v ct in
      record {
        rest = g.rest;
        front = g.front;
        roomier = g.roomier;
        larger = g.larger;
        classed = g.classed;
        thunked = g.thunked;
        listed = g.listed;
        built = λ h. g.built (over_list s w.text v es Body h);
        before = g.before;
        only = λ u. list_over s w.text v es Body (g.only u);
        fits = g.fits;
        at = λ u final site k. (there s v site k.stands (list_over s w.text v es Body (g.only u)).0, g.at u final site k);
      }

  pub write_objects : (a c d : DraftOf) (x : Stmt) (k : TokenNo) (y : Identifier) (y' : Bor Identifier) (n : TokenNo) (l : Vec ReferenceElement Global) (es : List ReferenceElement) (p : Box Stmt Global) (z : Stmt) (k0 : Bool) (line : Line) → x ≡ t.ForReference k y n l p → y ≡ y'.now → es ≡ l.items → z ≡ p.value → c ≡ with_instr a i.Tick 0 → k0 ≡ is_text_type (type_at (source_of b) y.token.0) → k0 ≡ false → line.0 ≡ line_at (source_of b) n.0 → WritesList b w c d (target.Reference y' line) (map reference_element_syntax es) z → WritesStatement b w a d x
  write_objects a c d x k y y' n l es p z k0 line is ey ee ez ec et not' el f =
      references_as a c d x k y n l es p z k0 false is ee ez ec et not' (for_over c d (target.Reference y' line) (OfReference (Named y NoMore) (line_at (source_of b) n.0)) (map reference_element_syntax es) z (ap (λ m. Named m NoMore) ey, el) f)

  -- what the variable is found to be
  abbrev Found : Identifier → Left → Type 0
  Found name r = IsWhole (source_of b) w (Named name NoMore) r (stored_left (source_of b) (Named name NoMore))

  for_is : (name : Identifier) (r r' : Left) → FindsNamed b w name [] r → r ≡ r' → Found name r'
  unfolding FindsNamed
  for_is name r r' f er = subst (λ z. Found name z) er f

  no_for : (s : Source) (o : Option ℕ) (t0 : Stored) (es : List syntax.Element) (Body : Type 0) → ForBuilt s w.text (variable_stored t0 o) es Body → LeftBuilt s w.text t0
  no_for s o (InCell home key) es Body h = h.0
  no_for s o (AtAttribute e) es Body h = h.0
  no_for s o (AtAddress d es line) es' Body h = absurd h
  no_for s o (ToReference e line) es' Body h = absurd h
  no_for s o (ToText e line) es' Body h = absurd h
  no_for s o (ToResult home line) es' Body h = absurd h
  no_for s o (ToNamed d line) es Body h = absurd h
  no_for s o (ToNamedText d line) es Body h = absurd h
  no_for s o (ToNamedReference d class line) es Body h = absurd h
  no_for s o NoPlace es Body h = absurd h

  pub write_for_unbuilt : (a c : DraftOf) (name : Identifier) (o : Option ℕ) (es : List syntax.Element) (z : Stmt) (r : Left) → FindsNamed b w name [] r → r ≡ left.NoPlace → c ≡ given_up a → WritesFor b w a c name o es z
  unfolding WritesFor
  write_for_unbuilt a c name o es z r f er ec = emits_nothing w a c _ _ (λ h. for_is name r left.NoPlace f er (no_for (source_of b) o _ es _ h)) ec

  pub write_for_text : (a c : DraftOf) (name : Identifier) (o : Option ℕ) (es : List syntax.Element) (z : Stmt) (r : Left) → FindsNamed b w name [] r → r ≡ left.Text → c ≡ given_up a → WritesFor b w a c name o es z
  write_for_text a c name o es z r f er ec = absurd (for_is name r left.Text f er)

  pub write_for_result : (a c : DraftOf) (name : Identifier) (o : Option ℕ) (es : List syntax.Element) (z : Stmt) (level slot : ℕ) (r : Left) → FindsNamed b w name [] r → r ≡ left.Result level slot → c ≡ given_up a → WritesFor b w a c name o es z
  write_for_result a c name o es z level slot r f er ec = absurd (for_is name r (left.Result level slot) f er)

  pub write_for_reference : (a c : DraftOf) (name : Identifier) (o : Option ℕ) (es : List syntax.Element) (z : Stmt) (r : Left) → FindsNamed b w name [] r → r ≡ left.Reference → c ≡ given_up a → WritesFor b w a c name o es z
  write_for_reference a c name o es z r f er ec = absurd (for_is name r left.Reference f er)

  pub write_for_named : (a c : DraftOf) (name : Identifier) (o : Option ℕ) (es : List syntax.Element) (z : Stmt) (d : DeclNo) (r : Left) → FindsNamed b w name [] r → r ≡ left.Named d → c ≡ given_up a → WritesFor b w a c name o es z
  write_for_named a c name o es z d r f er ec = absurd (for_is name r (left.Named d) f er)

  pub write_for_named_text : (a c : DraftOf) (name : Identifier) (o : Option ℕ) (es : List syntax.Element) (z : Stmt) (d : DeclNo) (r : Left) → FindsNamed b w name [] r → r ≡ left.NamedText d → c ≡ given_up a → WritesFor b w a c name o es z
  write_for_named_text a c name o es z d r f er ec = absurd (for_is name r (left.NamedText d) f er)

  pub write_for_named_reference : (a c : DraftOf) (name : Identifier) (o : Option ℕ) (es : List syntax.Element) (z : Stmt) (d : DeclNo) (class : ℕ) (r : Left) → FindsNamed b w name [] r → r ≡ left.NamedReference d class → c ≡ given_up a → WritesFor b w a c name o es z
  write_for_named_reference a c name o es z d class r f er ec = absurd (for_is name r (left.NamedReference d class) f er)

  pub write_for_element : (a c : DraftOf) (name : Identifier) (o : Option ℕ) (es : List syntax.Element) (z : Stmt) (token : TokenNo) (d : DeclNo) (xs : Bor (List Expr)) (r : Left) → FindsNamed b w name [] r → r ≡ left.Element token d xs → c ≡ given_up a → WritesFor b w a c name o es z
  unfolding WritesFor
  write_for_element a c name o es z token d xs r f er ec =
      let l = for_is name r (left.Element token d xs) f er in
      emits_nothing w a c _ _ (λ h. subst (λ m. ForBuilt (source_of b) w.text (variable_stored m o) es (StatementBuilt (source_of b) w.text (statement_syntax z))) l h) ec

  pub write_for_cell : (a c : DraftOf) (name : Identifier) (o : Option Line) (es : List syntax.Element) (z : Stmt) (home place : ℕ) (r : Left) → FindsNamed b w name [] r → r ≡ left.Cell home place → WritesList b w a c (target.Cell home place o) es z → WritesFor b w a c name (option_map line_in o) es z
  unfolding WritesFor
  write_for_cell a c name o es z home place r f er g =
      let l = for_is name r (left.Cell home place) f er in
      subst (λ m. Fors a c (variable_stored m (option_map line_in o)) es (statement_syntax z)) (sym l.1) (for_over a c (target.Cell home place o) (OfCell home l.0 (option_map line_in o)) es z (refl, l.3, refl, l.2) g)

  pub write_for_attribute : (a c : DraftOf) (name : Bor Identifier) (o : Option Line) (es : List syntax.Element) (z : Stmt) (r : Left) → FindsNamed b w name.now [] r → r ≡ left.Attribute → WritesList b w a c (target.Place name o) es z → WritesFor b w a c name.now (option_map line_in o) es z
  unfolding WritesFor
  write_for_attribute a c name o es z r f er g =
      let l = for_is name.now r left.Attribute f er in
      subst (λ m. Fors a c (variable_stored m (option_map line_in o)) es (statement_syntax z)) (sym l) (for_over a c (target.Place name o) (OfPlace (Named name.now NoMore) (option_map line_in o)) es z (refl, refl) g)

  alone : {A : Type 0} (xs : List A) (x : A) → length xs ≡ 1 → slice_get xs 0 ≡ Some x → xs ≡ x ∷ []
  alone [] x one at = absurd (omega (arith, one))
  alone (y ∷ []) x one at = ap (λ z. z ∷ []) (some_is y x at)
  alone (y ∷ z ∷ zs) x one at = absurd (omega (arith, one))

  pub write_one_of : (a c : DraftOf) (es : List syntax.Element) (z : Stmt) (t0 : Target) (x : syntax.Element) (on m : ℕ) → m ≡ length es → m ≡ 1 → slice_get es 0 ≡ Some x → WritesElementOf b w a c t0 x z None on → WritesList b w a c t0 es z
  unfolding WritesList WritesElementOf
  write_one_of a c es z t0 x on m em one at f variable k =
      let s = source_of b in
      subst (λ m. Emits w a c (ListOver s w.text variable m (StatementBuilt s w.text (statement_syntax z))) (λ final site p q. ListAt s final site 0 variable (is_empty (statement_syntax z)) m (λ site. StmAt s final site 0 (statement_syntax z)) p q)) (sym (alone es x (sym em ∙ one) at))
      (emits_as w _ _ _ _ a c (λ h. (h.0.0, h.1)) (λ h. ((h.0, tt), h.1)) (λ final site p q _ _ r. r) (f variable k (omega arith)).2)

  pub write_no_element : (a c : DraftOf) (es : List syntax.Element) (z : Stmt) (t0 : Target) (m : ℕ) → m ≡ length es → m ≡ 0 → c ≡ given_up a → WritesList b w a c t0 es z
  unfolding WritesList
  write_no_element a c es z t0 m em none ec variable k = emits_nothing w a c _ _ (never es (sym em ∙ none)) ec
    where
      never : (es : List syntax.Element) → length es ≡ 0 → ListOver (source_of b) w.text variable es (StatementBuilt (source_of b) w.text (statement_syntax z)) → ⊥
      never [] none h = h
      never (x ∷ xs) none h = absurd (omega (arith, none))

  element_as : (a c : DraftOf) (t0 : Target) (x y : syntax.Element) (z : Stmt) (k : Option Shared) (on : ℕ) → x ≡ y → WritesElementOf b w a c t0 y z k on → WritesElementOf b w a c t0 x z k on
  element_as a c t0 x y z k on is f = subst (λ n. WritesElementOf b w a c t0 n z k on) (sym is) f

  pub turn_whole : (a c : DraftOf) (z : Stmt) (k : Option Shared) (on : ℕ) → k ≡ None → WritesStatement b w a c z → on ≡ length c.instrs → WritesTurn b w a c z k on
  unfolding WritesTurn WritesStatement
  turn_whole a c z k on is f at = subst (λ m. (on ≡ length c.instrs) × (begins m ≤ length a.instrs → Emits w a c (TurnBuilt (source_of b) w.text (statement_syntax z) m) (λ final site p q. TurnOf (source_of b) final site w.used (statement_syntax z) m on p q))) (sym is) (at, λ le. f)

  pub turn_sent : (a c : DraftOf) (z : Stmt) (k : Option Shared) (m : Shared) (on : ℕ) → k ≡ Some m → WritesSent b w a c m.start m.number → on ≡ length c.instrs → WritesTurn b w a c z k on
  unfolding WritesTurn WritesSent
  turn_sent a c z k m on is f at = subst (λ n. (on ≡ length c.instrs) × (begins n ≤ length a.instrs → Emits w a c (TurnBuilt (source_of b) w.text (statement_syntax z) n) (λ final site p q. TurnOf (source_of b) final site w.used (statement_syntax z) n on p q))) (sym is) (at, λ le. emits_here w _ _ _ a c (λ final site stands r. (r, sym at)) (f le))

  pub write_once : (c0 c1 c2 c3 : DraftOf) (t0 : Target) (x : Element) (h : Bor Expr) (z : Stmt) (turn : Option Shared) (on : ℕ) → x ≡ view.Once h → c1 ≡ with_instr c0 i.Tick 0 → WritesGiven b w c1 c2 t0 h.now → WritesTurn b w c2 c3 z turn on → WritesElementOf b w c0 c3 t0 (view_syntax x) z turn on
  unfolding WritesGiven WritesTurn WritesElementOf
  write_once c0 c1 c2 c3 t0 x h z turn on is e1 f g =
      let s = source_of b in
      element_as c0 c3 t0 (view_syntax x) (syntax.Once (syntax_of h.now)) z turn on (ap view_syntax is) (λ k ct le.
      let given = f k ct in
      let n1 = longer_put c0 c1 i.Tick 0 e1 in
      let n2 = longer w c1 c2 _ _ given in
      let go = g.1 (omega (arith, le, n1, n2)) in
      let n4 = longer w c2 c3 _ _ go in
      let at = g.0 in (
        omega (arith, at, n1, n2, n4),
        omega (arith, at),
        emits_as w _ _ _ _ c0 c3 (λ m. m) (λ m. m) (λ final site p q _ _ r. record { x = r.0; z = r.2.0; tick = r.1; given = r.2.1; turn = r.2.2 })
            (tick_then _ _ c0 c1 c3 e1
            (emits_then w _ _ (λ m site. GivesVariable s m site 0 k (syntax_of h.now)) (λ m site p q. TurnOf s m site w.used (statement_syntax z) turn on p q) c1 c2 c3 given go)),
      ))

  pub write_while_element : (c0 c1 c2 c4 c5 c6 c7 c8 : DraftOf) (t0 : Target) (x : Element) (h m : Bor Expr) (token : TokenNo) (z : Stmt) (start end : ℤ) (jump : ℕ) (turn : Option Shared) (on : ℕ) → x ≡ view.While token h m → start ≡ pos (length c0.instrs) → c1 ≡ with_instr c0 i.Tick 0 → WritesGiven b w c1 c2 t0 h.now
      → Writes b w 0 c2 c4 m.now → jump ≡ length c4.instrs → c5 ≡ with_hole c4 → WritesTurn b w c5 c6 z turn on → c7 ≡ with_instr c6 (i.Jump start) 0 → end ≡ pos (length c7.instrs) → c8 ≡ filled_in c7 jump (i.JumpF end) → WritesElementOf b w c0 c8 t0 (view_syntax x) z turn on
  unfolding Writes Rattle.codegen_expr.specs.Emit.Puts WritesGiven WritesTurn WritesElementOf
  write_while_element c0 c1 c2 c4 c5 c6 c7 c8 t0 x h m token z start end jump turn on is es e1 f g ej e5 j e7 ee e8 =
      let s = source_of b in
      element_as c0 c8 t0 (view_syntax x) (syntax.While (syntax_of h.now) token.0 (syntax_of m.now)) z turn on (ap view_syntax is) (λ k ct le.
      let given = f k ct in
      let n1 = longer_put c0 c1 i.Tick 0 e1 in
      let n2 = longer w c1 c2 _ _ given in
      let n4 = longer w c2 c4 _ _ g in
      let n5 = longer_hole c4 c5 e5 in
      let go = j.1 (omega (arith, le, n1, n2, n4, n5)) in
      let n6 = longer w c5 c6 _ _ go in
      let n7 = longer_put c6 c7 (i.Jump start) 0 e7 in
      let n8 = as_long c7 c8 jump (i.JumpF end) e8 in
      let at = j.0 in (
        omega (arith, at, n1, n2, n4, n5, n6),
        omega (arith, at, n7, n8),
        emits_as w _ _ _ _ c0 c8 (λ o. (((o.0.0, o.0.1.0), o.0.1.1), o.1)) (λ o. ((o.0.0.0, (o.0.0.1, o.0.1)), o.1))
            (λ final site p q _ _ r. record { x = r.test.0; z = r.test.2.0; u = r.y; b = r.z; w = r.v; tick = r.test.1; given = r.test.2.1; test = r.test.2.2; jump = r.jump; leads = r.leads; turn = r.body; «back» = r.«back»; behind = r.behind })
            (emits_cycle w _ _ _ (λ o site p q. TurnOf s o site w.used (statement_syntax z) turn on p q) c0 c4 c5 c6 c7 c8 start end jump es
            (tick_then _ _ c0 c1 c4 e1
            (emits_then w _ _ (λ o site. GivesVariable s o site 0 k (syntax_of h.now)) (λ o site. ExprAt s o site 0 (syntax_of m.now)) c1 c2 c4 given g))
            ej e5 go e7 ee e8),
      ))

  -- steps are over values
  steps_taken : (t0 : Target) (v : Variable) → Controls (source_of b) w.text t0 v → takes_values t0 ≡ true → StepsBuilt v × TakesValues v
  steps_taken (target.Cell level slot None) (OfCell home key None) k e = (tt, refl)
  steps_taken (target.Cell level slot None) (OfCell home key (Some line)) k e = let f = k.2 in absurd (cc)
  steps_taken (target.Cell level slot (Some line)) v k e = absurd (cc)
  steps_taken (target.Cell level slot None) (OfPlace x line) k e = absurd k
  steps_taken (target.Cell level slot None) (OfReference x line) k e = absurd k
  steps_taken (target.Place name None) (OfPlace x None) k e = (tt, refl)
  steps_taken (target.Place name None) (OfPlace x (Some line)) k e = let f = k.1 in absurd (cc)
  steps_taken (target.Place name (Some line)) v k e = absurd (cc)
  steps_taken (target.Place name None) (OfCell home key line) k e = absurd k
  steps_taken (target.Place name None) (OfReference x line) k e = absurd k
  steps_taken (target.Reference name at) v k e = absurd (cc)

  no_steps : (t0 : Target) (v : Variable) → Controls (source_of b) w.text t0 v → takes_values t0 ≡ false → StepsBuilt v → ⊥
  no_steps (target.Cell level slot (Some line)) (OfCell home key None) k e h = let f = k.2 in cc
  no_steps (target.Cell level slot (Some line)) (OfCell home key (Some n)) k e h = h
  no_steps (target.Cell level slot None) v k e h = cc
  no_steps (target.Cell level slot (Some line)) (OfPlace x n) k e h = k
  no_steps (target.Cell level slot (Some line)) (OfReference x n) k e h = k
  no_steps (target.Place name (Some line)) (OfPlace x None) k e h = let f = k.1 in cc
  no_steps (target.Place name (Some line)) (OfPlace x (Some n)) k e h = h
  no_steps (target.Place name None) v k e h = cc
  no_steps (target.Place name (Some line)) (OfCell home key n) k e h = k
  no_steps (target.Place name (Some line)) (OfReference x n) k e h = k
  no_steps (target.Reference name at) (OfReference x n) k e h = h
  no_steps (target.Reference name at) (OfCell home key n) k e h = k
  no_steps (target.Reference name at) (OfPlace x n) k e h = k

  pub write_no_step : (a c : DraftOf) (t0 : Target) (x : Element) (h m o : Bor Expr) (token : TokenNo) (z : Stmt) (turn : Option Shared) (on : ℕ) (r : Bool) → x ≡ view.Step h token m o → r ≡ takes_values t0 → r ≡ false → c ≡ given_up a → on ≡ length c.instrs → WritesElementOf b w a c t0 (view_syntax x) z turn on
  unfolding WritesElementOf
  write_no_step a c t0 x h m o token z turn on r is er no0 ec at =
      element_as a c t0 (view_syntax x) (syntax.Step (syntax_of h.now) token.0 (syntax_of m.now) (syntax_of o.now)) z turn on (ap view_syntax is) (λ k ct le.
      let none = emits_nothing w a c _ _ (λ q. no_steps t0 k ct (sym er ∙ no0) q.0.1.0) ec in
      let n1 = longer w a c _ _ none in (omega (arith, at, n1), omega (arith, at), none))

  pub write_step : (c0 c1 c2 c3 c4 c5 c6 c7 c8 c9 c10 c11 c12 c13 c14 c15 c16 : DraftOf) (t0 : Target) (line : ℕ) (x : Element) (h m o : Bor Expr) (token : TokenNo) (z : Stmt) (test end : ℤ) (jump : ℕ) (turn : Option Shared) (on : ℕ) (r0 : Bool) → x ≡ view.Step h token m o → r0 ≡ takes_values t0 → r0 ≡ true
      → Writes b w 0 c0 c1 h.now → WritesStored b w 0 c1 c2 t0 → Writes b w 0 c2 c3 m.now → test ≡ pos (length c3.instrs) → c4 ≡ with_instr c3 i.Tick 0 → WritesLoaded b w 1 c4 c5 t0 → Writes b w 2 c5 c6 o.now → c7 ≡ with_instr c6 i.StepTest 0
      → jump ≡ length c7.instrs → c8 ≡ with_hole c7 → WritesTurn b w c8 c9 z turn on → Writes b w 0 c9 c10 m.now → c11 ≡ with_push c10 1 i.Dup 0 → WritesLoaded b w 2 c11 c12 t0 → line ≡ line_at (source_of b) token.0 → c13 ≡ with_instr c12 i.Add line → WritesStored b w 1 c13 c14 t0
      → c15 ≡ with_instr c14 (i.Jump test) 0 → end ≡ pos (length c15.instrs) → c16 ≡ filled_in c15 jump (i.JumpF end) → WritesElementOf b w c0 c16 t0 (view_syntax x) z turn on
  unfolding Writes Rattle.codegen_expr.specs.Emit.Puts WritesTurn WritesElementOf WritesStored WritesLoaded
  write_step c0 c1 c2 c3 c4 c5 c6 c7 c8 c9 c10 c11 c12 c13 c14 c15 c16 t0 line x h m o token z test end jump turn on r0 is er0 yes0 f1 s1 f3 et e4 s2 f6 e7 ej e8 f9 f10 e11 s3 el13 e13 s4 e15 ee e16 =
      let s = source_of b in
      let at = line_at s token.0 in
      element_as c0 c16 t0 (view_syntax x) (syntax.Step (syntax_of h.now) token.0 (syntax_of m.now) (syntax_of o.now)) z turn on (ap view_syntax is) (λ k ct le.
      let takes = steps_taken t0 k ct (sym er0 ∙ yes0) in
      let v1 = s1 k ct in
      let v2 = s2 k ct in
      let v3 = s3 k ct in
      let v4 = s4 k ct in
      let t1 = longer w c0 c1 _ _ f1 in
      let t2 = longer w c1 c2 _ _ v1 in
      let t3 = longer w c2 c3 _ _ f3 in
      let t4 = longer_put c3 c4 i.Tick 0 e4 in
      let t5 = longer w c4 c5 _ _ v2 in
      let t6 = longer w c5 c6 _ _ f6 in
      let t7 = longer_put c6 c7 i.StepTest 0 e7 in
      let t8 = longer_hole c7 c8 e8 in
      let go = f9.1 (omega (arith, le, t1, t2, t3, t4, t5, t6, t7, t8)) in
      let t9 = longer w c8 c9 _ _ go in
      let t10 = longer w c9 c10 _ _ f10 in
      let t11 = longer_push c10 c11 1 i.Dup 0 e11 in
      let t12 = longer w c11 c12 _ _ v3 in
      let t13 = longer_put c12 c13 i.Add line e13 in
      let t14 = longer w c13 c14 _ _ v4 in
      let t15 = longer_put c14 c15 (i.Jump test) 0 e15 in
      let t16 = as_long c15 c16 jump (i.JumpF end) e16 in
      let there' = f9.0 in (
        omega (arith, there', t1, t2, t3, t4, t5, t6, t7, t8, t9),
        omega (arith, there', t10, t11, t12, t13, t14, t15, t16),
        emits_as w _ _ _ _ c0 c16
            (λ j. (j.0.1.1, (j.0.0, (j.0.1.2, ((j.0.0, (j.0.1.3, tt)), (j.1, (j.0.1.2, (tt, (j.0.0, (tt, j.0.0))))))))))
            (λ j. ((j.1.0, (takes.0, j.0, j.1.1.0, j.1.1.1.0.1.0)), j.1.1.1.1.0))
            (λ final site p q _ _ r.
            let first = r.2.2.2 in
            record {
              a = r.0;
              b = r.2.0;
              t = r.2.2.0;
              c = first.test.0;
              d = first.test.2.0;
              e = first.test.2.2.0;
              f = first.y;
              g = first.z;
              h = first.body.0;
              j = first.body.2.0;
              k = first.body.2.2.0;
              l = first.body.2.2.2.0;
              m = first.body.2.2.2.2.0;
              w = first.v;
              takes = takes.1;
              first = r.1;
              stored = r.2.1;
              first_step = r.2.2.1;
              tick = first.test.1;
              variable = first.test.2.1;
              last = first.test.2.2.1;
              test = record { line = 0; is = first.test.2.2.2 };
              jump = first.jump;
              leads = first.leads;
              turn = first.body.1;
              next_step = first.body.2.1;
              again = first.body.2.2.1;
              old = first.body.2.2.2.1;
              sum = first.body.2.2.2.2.1;
              raised = first.body.2.2.2.2.2;
              «back» = first.«back»;
              behind = first.behind;
            })
            (emits_then w _ _ (λ j site. ExprAt s j site 0 (syntax_of h.now)) _ c0 c1 c16 f1
            (emits_then w _ _ (λ j site p q. StoresVariable s j site 0 k p q) _ c1 c2 c16 v1
            (emits_then w _ _ (λ j site. ExprAt s j site 0 (syntax_of m.now)) _ c2 c3 c16 f3
            (emits_cycle w _ _ _ _ c3 c7 c8 c14 c15 c16 test end jump et
            (tick_then _ _ c3 c4 c7 e4
            (emits_then w _ _ (λ j site p q. LoadsVariable s j site 1 k p q) _ c4 c5 c7 v2
            (emits_then w _ ⊤ (λ j site. ExprAt s j site 2 (syntax_of o.now)) (λ j site p q. At j i.StepTest 0 p q) c5 c6 c7 f6 (emits_at w c6 c7 i.StepTest 0 e7 (λ j. cc) refl))))
            ej e8
            (emits_then w _ _ (λ j site p q. TurnOf s j site w.used (statement_syntax z) turn on p q) _ c8 c9 c14 go
            (emits_then w _ _ (λ j site. ExprAt s j site 0 (syntax_of m.now)) _ c9 c10 c14 f10
            (emits_then w ⊤ _ (λ j site p q. Pushes j site 1 i.Dup p q) _ c10 c11 c14 (emits_push w c10 c11 1 i.Dup 0 e11 (λ j. cc) refl)
            (emits_then w _ _ (λ j site p q. LoadsVariable s j site 2 k p q) _ c11 c12 c14 v3
            (emits_then w ⊤ _ (λ j site p q. At j i.Add at p q) (λ j site p q. StoresVariable s j site 1 k p q) c12 c13 c14 (emits_at w c12 c13 i.Add at (e13 ∙ ap (λ j. with_instr c12 i.Add j) el13) (λ j. cc) refl) v4)))))
            e15 ee e16)))),
      ))

pub ruleset writes = (write_empty, write_block, write_call, write_assigned, write_when, write_while, write_for_texts, write_for_values, write_references, write_objects, write_prefixed, write_inner, write_connects, write_arms, write_activation, write_body, write_nowhere, write_outermost, write_elsewhere, write_entry, write_named_call, write_taken_call, some_taken, write_closed_call, write_new_call, write_other_call, write_dropped, write_kept, write_lost, write_stays, write_single, write_not_single, write_for_unbuilt, write_for_text, write_for_result, write_for_reference, write_for_named, write_for_named_text, write_for_named_reference, write_for_element, write_for_cell, write_for_attribute, write_one_of, write_no_element, write_once, write_while_element, write_no_step, write_step, turn_whole, turn_sent)
