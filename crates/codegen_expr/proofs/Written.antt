-- Expressions, one part behind another.
use Rattle.std.proofs.Common.{◌≡◌, ◌≢◌, ◌<◌, ◌+◌, ◌-◌, ℕ, ℤ, pos, suc, Bool, List, [], ◌∷◌, length, map, drop, Option, Some, None, true, false, refl, sym, ap, ◌∙◌, subst, arith}
use Rattle.std.proofs.lemmas.List.{drop_more}
use Rattle.std.specs.Prelude.{⊤, slice_get, slice_index_or}
use Rattle.std.specs.declared.alloc.Global.{Global}
use Rattle.std.specs.declared.boxed.Box.{Box}
use Rattle.std.specs.declared.vec.Vec.{Vec}
use Rattle.sim_base.specs.declared.numbering.DeclNo.{DeclNo}
use Rattle.sim_base.specs.declared.numbering.TokenNo.{TokenNo}
use Rattle.sim_scope.specs.declared.bound.Bound.{Bound}
use Rattle.sim_scope.specs.Source.{block_of, level_of, line_at, source_of}
use Rattle.sim_tree.specs.declared.expr.Expr.{Expr}
use Rattle.sim_tree.specs.declared.expr.Expr.TheVariants as e
use Rattle.sim_tree.specs.declared.expr.Factor.{Factor}
use Rattle.sim_tree.specs.declared.expr.Identifier.{Identifier}
use Rattle.sim_tree.specs.declared.expr.LeadingSign.{LeadingSign}
use Rattle.sim_tree.specs.declared.expr.Membership.{Membership}
use Rattle.sim_tree.specs.declared.expr.Multiplication.{Multiplication}
use Rattle.sim_tree.specs.declared.expr.Multiplication.TheVariants as multiplication
use Rattle.sim_tree.specs.declared.expr.Operand.{Operand}
use Rattle.sim_tree.specs.declared.expr.Relation.{Relation}
use Rattle.sim_tree.specs.declared.expr.Selector.{Selector}
use Rattle.sim_tree.specs.declared.expr.Sign.{Sign}
use Rattle.sim_tree.specs.declared.expr.Sign.TheVariants as sign
use Rattle.sim_tree.specs.declared.expr.Term.{Term}
use Rattle.sim_tree.specs.declared.operator.Operator.{Operator}
use Rattle.sim_tree.specs.declared.operator.Operator.TheVariants as o
use Rattle.sim_tree.specs.Syntax.{Binary, Expression, If, Member, Named, New, Signed, This, expressions}
use Rattle.sim_tree.specs.SyntaxOf.{Tail, chain, factor_syntax, negated, operand_syntax, selected, selector_syntax, signed, syntax_of, term_syntax, with_operator}
use Rattle.sim_tree.proofs.SyntaxLemmas as v
use Rattle.sim_values.specs.declared.operators.Calculation.TheVariants as calculation
use Rattle.sim_values.specs.declared.operators.Connective.TheVariants as connective
use Rattle.sim_values.specs.declared.operators.Dyadic.{Dyadic}
use Rattle.sim_values.specs.declared.operators.Dyadic.TheVariants as dyadic
use Rattle.sim_code.specs.declared.instr.Instr.{Instr}
use Rattle.sim_code.specs.declared.instr.Instr.TheVariants as i
use Rattle.sim_code.specs.Code.{CodeOf}
use Rattle.sim_code.specs.Running.{runs}
use Rattle.sim_meaning.specs.Closing.{Joining, Lazily, Negated, Plainly, Sort, is_text, sort_of}
use Rattle.sim_meaning.specs.Pending.{Declared}
use Rattle.codegen_expr.specs.declared.spot.Spot.{Spot}
use Rattle.codegen_expr.specs.declared.operators.Object.{Object}
use Rattle.codegen_expr.specs.declared.operators.Sorted.{Sorted}
use Rattle.codegen_expr.specs.declared.operators.Sorted.TheVariants as sorted
use Rattle.codegen_expr.specs.Built.{AreBuilt, IsBuilt, is_around, is_there, slot_in}
use Rattle.codegen_expr.specs.CodeExpr.{CellAt, ExprAt, ExprsAt, JoinAt, Stand, TwoAt, join_instrs, operands, two_instr}
use Rattle.codegen_expr.specs.Drafts.{DraftOf, Emits, filled_in, given_up, planned_at, planned_in, planned_start, with_hole, with_instr, with_push}
use Rattle.codegen_expr.specs.Emit.{OwesList, OwesTails, Puts, Steady, Writes, WritesCell, WritesElement, WritesEnd, WritesGiving, WritesJoin, WritesList, WritesNot, WritesOperand, WritesOperands, WritesSign, WritesStart, WritesSteps, WritesTails, WritesTaken, WritesTextAt, moves_next, sorted_of}
use Rattle.codegen_expr.specs.EmitObjects.{WritesMember, WritesNew, WritesThis}
use Rattle.codegen_expr.specs.Sites.{At, HasCell, IfAt, Inside, Pushes, Site, slot_of}
use Rattle.codegen_expr.proofs.Around.{inside}
use Rattle.codegen_expr.proofs.Slots.{slot_found, slot_within}
use Rattle.codegen_expr.proofs.Taken.{taken_before, taken_nothing, taken_whole}
use Rattle.codegen_expr.proofs.Pieces.{emits_as, emits_at, emits_classed, emits_if, emits_none, emits_nothing, emits_push, emits_then}

two_real : (op : Dyadic) → two_instr op ≢ i.Halt
two_real (dyadic.Calculate calculation.Add) = λ z. cc
two_real (dyadic.Calculate calculation.Subtract) = λ z. cc
two_real (dyadic.Calculate calculation.Multiply) = λ z. cc
two_real (dyadic.Calculate calculation.Divide) = λ z. cc
two_real (dyadic.Calculate calculation.Power) = λ z. cc
two_real (dyadic.Compare r) = λ z. cc
two_real (dyadic.CompareTexts r) = λ z. cc
two_real (dyadic.Connect connective.And) = λ z. cc
two_real (dyadic.Connect connective.Or) = λ z. cc
two_real (dyadic.Connect connective.Implies) = λ z. cc
two_real (dyadic.Connect connective.Equivalent) = λ z. cc
two_real dyadic.SameObject = λ z. cc
two_real dyadic.SameText = λ z. cc

two_runs : (op : Dyadic) → runs (two_instr op) ≡ true
two_runs (dyadic.Calculate calculation.Add) = refl
two_runs (dyadic.Calculate calculation.Subtract) = refl
two_runs (dyadic.Calculate calculation.Multiply) = refl
two_runs (dyadic.Calculate calculation.Divide) = refl
two_runs (dyadic.Calculate calculation.Power) = refl
two_runs (dyadic.Compare r) = refl
two_runs (dyadic.CompareTexts r) = refl
two_runs (dyadic.Connect connective.And) = refl
two_runs (dyadic.Connect connective.Or) = refl
two_runs (dyadic.Connect connective.Implies) = refl
two_runs (dyadic.Connect connective.Equivalent) = refl
two_runs dyadic.SameObject = refl
two_runs dyadic.SameText = refl

plain_same : (x y : Instr) → sorted.Plain x ≡ sorted.Plain y → x ≡ y
plain_same x y e = cc

negated_same : (x y : Instr) → sorted.Negated x ≡ sorted.Negated y → x ≡ y
negated_same x y e = cc

-- operators that are no relations
pub steady_OrElse : Steady o.OrElse
unfolding Steady
steady_OrElse texts = refl

pub steady_AndThen : Steady o.AndThen
unfolding Steady
steady_AndThen texts = refl

pub steady_Equivalent : Steady o.Equivalent
unfolding Steady
steady_Equivalent texts = refl

pub steady_Implies : Steady o.Implies
unfolding Steady
steady_Implies texts = refl

pub steady_Or : Steady o.Or
unfolding Steady
steady_Or texts = refl

pub steady_And : Steady o.And
unfolding Steady
steady_And texts = refl

pub steady_Concatenate : Steady o.Concatenate
unfolding Steady
steady_Concatenate texts = refl

pub steady_Power : Steady o.Power
unfolding Steady
steady_Power texts = refl

pub steady_Add : (k : Sign) → Steady (o.Add k)
unfolding Steady
steady_Add sign.Plus texts = refl
steady_Add sign.Minus texts = refl

pub steady_Multiply : (k : Multiplication) → Steady (o.Multiply k)
unfolding Steady
steady_Multiply multiplication.Times texts = refl
steady_Multiply multiplication.Divide texts = refl

abbrev Place : Type 1
Place = CodeOf → Site → ℕ → ℕ → Type 0

module _ (b : Bound) (w : Spot) (n : ℕ) where
  pub puts_as : (c d : DraftOf) (x y : Expression) → x ≡ y → Puts (source_of b) w n c d x → Puts (source_of b) w n c d y
  puts_as c d x y e p = subst (Puts (source_of b) w n c d) e p

  pub write_if : (c0 c1 c2 c3 c4 c5 c6 c7 : DraftOf) (a x y z : Expr) (t : TokenNo) (p q r : Box Expr Global) (jump over : ℕ) (start end : ℤ) → a ≡ e.If t p q r → x ≡ p.value → y ≡ q.value → z ≡ r.value
      → Writes b w n c0 c1 x → jump ≡ length c1.instrs → c2 ≡ with_hole c1 → Writes b w n c2 c3 y → over ≡ length c3.instrs → c4 ≡ with_hole c3 → start ≡ pos (length c4.instrs) → Writes b w n c4 c5 z → end ≡ pos (length c5.instrs)
      → c6 ≡ filled_in c5 jump (i.JumpF start) → c7 ≡ filled_in c6 over (i.Jump end) → Writes b w n c0 c7 a
  unfolding Writes Puts
  write_if c0 c1 c2 c3 c4 c5 c6 c7 a x y z t p q r jump over start end is ex ey ez f1 ej e2 f3 eo e4 es f5 ee e6 e7 =
      let s = source_of b in
      let same : If t.0 (syntax_of x) (syntax_of y) (syntax_of z) ≡ syntax_of a = ap (λ u. If t.0 (syntax_of u) (syntax_of y) (syntax_of z)) ex ∙ ap (λ u. If t.0 (syntax_of p.value) (syntax_of u) (syntax_of z)) ey ∙ ap (λ u. If t.0 (syntax_of p.value) (syntax_of q.value) (syntax_of u)) ez ∙ sym (ap syntax_of is ∙ v.syntax-If t p q r) in
      puts_as c0 c7 (If t.0 (syntax_of x) (syntax_of y) (syntax_of z)) (syntax_of a) same
      (emits_if w (IsBuilt s w.text (syntax_of x)) (IsBuilt s w.text (syntax_of y)) (IsBuilt s w.text (syntax_of z))
      (λ f site. ExprAt s f site n (syntax_of x)) (λ f site. ExprAt s f site n (syntax_of y)) (λ f site. ExprAt s f site n (syntax_of z)) c0 c1 c2 c3 c4 c5 c6 c7 jump over start end f1 ej e2 f3 eo e4 es f5 ee e6 e7)

  -- an operator and its second operand, of which there are codes on n values and on one more
  plain_emits : (k : Sort) (line : ℕ) (A B C : Place) (P Q : Type 0) (c d : DraftOf) (x : Instr) → sorted.Plain x ≡ sorted_of k
      → ((op : Dyadic) → two_instr op ≡ x → Emits w c d (P × Q) (λ f site p q. (y : ℕ) × (z : ℕ) × A f site p y × C f site y z × At f (two_instr op) line z q))
      → Emits w c d (P × Q) (λ f site p q. TwoAt (source_of b) f site n k line (A f site) (B f site) (C f site) p q)
  plain_emits (Plainly op) line A B C P Q c d x e f = f op (sym (plain_same x (two_instr op) e))
  plain_emits (Negated op) line A B C P Q c d x e f = absurd (cc)
  plain_emits (Lazily true) line A B C P Q c d x e f = absurd (cc)
  plain_emits (Lazily false) line A B C P Q c d x e f = absurd (cc)
  plain_emits Joining line A B C P Q c d x e f = absurd (cc)

  negated_emits : (k : Sort) (line : ℕ) (A B C : Place) (P Q : Type 0) (c d : DraftOf) (x : Instr) → sorted.Negated x ≡ sorted_of k
      → ((op : Dyadic) → two_instr op ≡ x → Emits w c d (P × Q) (λ f site p q. (y : ℕ) × (z : ℕ) × (u : ℕ) × A f site p y × C f site y z × At f (two_instr op) line z u × At f i.Not line u q))
      → Emits w c d (P × Q) (λ f site p q. TwoAt (source_of b) f site n k line (A f site) (B f site) (C f site) p q)
  negated_emits (Plainly op) line A B C P Q c d x e f = absurd (cc)
  negated_emits (Negated op) line A B C P Q c d x e f = f op (sym (negated_same x (two_instr op) e))
  negated_emits (Lazily true) line A B C P Q c d x e f = absurd (cc)
  negated_emits (Lazily false) line A B C P Q c d x e f = absurd (cc)
  negated_emits Joining line A B C P Q c d x e f = absurd (cc)

  or_emits : (k : Sort) (line : ℕ) (A B C : Place) (P Q : Type 0) (c d : DraftOf) → sorted.OrElse ≡ sorted_of k
      → Emits w c d (P × ⊤ × Q) (λ f site p q. IfAt f (A f site) (Pushes f site n (i.Bool (pos 1))) (B f site) p q)
      → Emits w c d (P × Q) (λ f site p q. TwoAt (source_of b) f site n k line (A f site) (B f site) (C f site) p q)
  or_emits (Plainly op) line A B C P Q c d e f = absurd (cc)
  or_emits (Negated op) line A B C P Q c d e f = absurd (cc)
  or_emits (Lazily true) line A B C P Q c d e f = emits_as w (P × ⊤ × Q) (P × Q) _ _ c d (λ t. (t.0, tt, t.1)) (λ t. (t.0, t.2)) (λ final site p q _ _ t. t) f
  or_emits (Lazily false) line A B C P Q c d e f = absurd (cc)
  or_emits Joining line A B C P Q c d e f = absurd (cc)

  and_emits : (k : Sort) (line : ℕ) (A B C : Place) (P Q : Type 0) (c d : DraftOf) → sorted.AndThen ≡ sorted_of k
      → Emits w c d (P × Q × ⊤) (λ f site p q. IfAt f (A f site) (B f site) (Pushes f site n (i.Bool (pos 0))) p q)
      → Emits w c d (P × Q) (λ f site p q. TwoAt (source_of b) f site n k line (A f site) (B f site) (C f site) p q)
  and_emits (Plainly op) line A B C P Q c d e f = absurd (cc)
  and_emits (Negated op) line A B C P Q c d e f = absurd (cc)
  and_emits (Lazily true) line A B C P Q c d e f = absurd (cc)
  and_emits (Lazily false) line A B C P Q c d e f = emits_as w (P × Q × ⊤) (P × Q) _ _ c d (λ t. (t.0, t.1, tt)) (λ t. (t.0, t.1)) (λ final site p q _ _ t. t) f
  and_emits Joining line A B C P Q c d e f = absurd (cc)

  join_emits : (k : Sort) (line : ℕ) (A B C : Place) (P Q : Type 0) (c d : DraftOf) → sorted.Joined ≡ sorted_of k
      → Emits w c d (P × Q) (λ f site p q. JoinAt (source_of b) f site n line (A f site) (C f site) p q)
      → Emits w c d (P × Q) (λ f site p q. TwoAt (source_of b) f site n k line (A f site) (B f site) (C f site) p q)
  join_emits (Plainly op) line A B C P Q c d e f = absurd (cc)
  join_emits (Negated op) line A B C P Q c d e f = absurd (cc)
  join_emits (Lazily true) line A B C P Q c d e f = absurd (cc)
  join_emits (Lazily false) line A B C P Q c d e f = absurd (cc)
  join_emits Joining line A B C P Q c d e f = f

  pub write_plain : (c0 c1 c2 : DraftOf) (texts : Bool) (operator : Operator) (token : TokenNo) (a : Expr) (k : Sorted) (x : Instr) (m line : ℕ) → k ≡ sorted_of (sort_of texts operator) → k ≡ sorted.Plain x → m ≡ suc n → Writes b w m c0 c1 a → line ≡ line_at (source_of b) token.0 → c2 ≡ with_instr c1 x line → WritesOperand b w n c0 c2 texts operator token a
  unfolding Writes WritesOperand Puts
  write_plain c0 c1 c2 texts operator token a k x m line ek ex em f el e2 start left st l =
      let s = source_of b in
      let f' = subst (λ z. Emits w c0 c1 (IsBuilt s w.text (syntax_of a)) (λ final site p q. ExprAt s final site z (syntax_of a) p q)) em f in
      plain_emits (sort_of (is_text s left) operator) (line_at s token.0) (λ f site. ExprAt s f site n left) (λ f site. ExprAt s f site n (syntax_of a)) (λ f site. ExprAt s f site (suc n) (syntax_of a)) (IsBuilt s w.text left) (IsBuilt s w.text (syntax_of a)) start c2 x (sym ex ∙ ek ∙ ap sorted_of (sym st)) (λ op same.
      emits_as w _ _ _ _ start c2 (λ t. (t.0, (t.1, tt))) (λ t. (t.0, t.1.0)) (λ final site p q _ _ r. (r.0, r.2.0, r.1, r.2.1, r.2.2))
      (emits_then w _ _ (λ z site. ExprAt s z site n left) (λ z site p q. (y : ℕ) × ExprAt s z site (suc n) (syntax_of a) p y × At z (two_instr op) (line_at s token.0) y q) start c0 c2 l
      (emits_then w _ _ (λ z site. ExprAt s z site (suc n) (syntax_of a)) (λ z site. At z (two_instr op) (line_at s token.0)) c0 c1 c2 f'
      (emits_at w c1 c2 (two_instr op) (line_at s token.0) (e2 ∙ ap (λ z. with_instr c1 z line) (sym same) ∙ ap (λ z. with_instr c1 (two_instr op) z) el) (two_real op) (two_runs op)))))

  pub write_negated : (c0 c1 c2 c3 : DraftOf) (texts : Bool) (operator : Operator) (token : TokenNo) (a : Expr) (k : Sorted) (x : Instr) (m line line2 : ℕ) → k ≡ sorted_of (sort_of texts operator) → k ≡ sorted.Negated x → m ≡ suc n → Writes b w m c0 c1 a → line ≡ line_at (source_of b) token.0 → c2 ≡ with_instr c1 x line → line2 ≡ line_at (source_of b) token.0 → c3 ≡ with_instr c2 i.Not line2 → WritesOperand b w n c0 c3 texts operator token a
  unfolding Writes WritesOperand Puts
  write_negated c0 c1 c2 c3 texts operator token a k x m line line2 ek ex em f el e2 el2 e3 start left st l =
      let s = source_of b in
      let f' = subst (λ z. Emits w c0 c1 (IsBuilt s w.text (syntax_of a)) (λ final site p q. ExprAt s final site z (syntax_of a) p q)) em f in
      negated_emits (sort_of (is_text s left) operator) (line_at s token.0) (λ f site. ExprAt s f site n left) (λ f site. ExprAt s f site n (syntax_of a)) (λ f site. ExprAt s f site (suc n) (syntax_of a)) (IsBuilt s w.text left) (IsBuilt s w.text (syntax_of a)) start c3 x (sym ex ∙ ek ∙ ap sorted_of (sym st)) (λ op same.
      emits_as w _ _ _ _ start c3 (λ t. (t.0, (t.1, (tt, tt)))) (λ t. (t.0, t.1.0)) (λ final site p q _ _ r. (r.0, r.2.0, r.2.2.0, r.1, r.2.1, r.2.2.1, r.2.2.2))
      (emits_then w _ _ (λ z site. ExprAt s z site n left) (λ z site p q. (y : ℕ) × ExprAt s z site (suc n) (syntax_of a) p y × ((u : ℕ) × At z (two_instr op) (line_at s token.0) y u × At z i.Not (line_at s token.0) u q)) start c0 c3 l
      (emits_then w _ _ (λ z site. ExprAt s z site (suc n) (syntax_of a)) (λ z site y q. (u : ℕ) × At z (two_instr op) (line_at s token.0) y u × At z i.Not (line_at s token.0) u q) c0 c1 c3 f'
      (emits_then w _ _ (λ z site. At z (two_instr op) (line_at s token.0)) (λ z site. At z i.Not (line_at s token.0)) c1 c2 c3
      (emits_at w c1 c2 (two_instr op) (line_at s token.0) (e2 ∙ ap (λ z. with_instr c1 z line) (sym same) ∙ ap (λ z. with_instr c1 (two_instr op) z) el) (two_real op) (two_runs op))
      (emits_at w c2 c3 i.Not (line_at s token.0) (e3 ∙ ap (λ z. with_instr c2 i.Not z) el2) (λ z. cc) refl)))))

  pub write_or : (c1 c2 c3 c4 c5 c6 c7 : DraftOf) (texts : Bool) (operator : Operator) (token : TokenNo) (a : Expr) (k : Sorted) (jump over : ℕ) (start end : ℤ) → k ≡ sorted_of (sort_of texts operator) → k ≡ sorted.OrElse
      → jump ≡ length c1.instrs → c2 ≡ with_hole c1 → c3 ≡ with_push c2 n (i.Bool (pos 1)) 0 → over ≡ length c3.instrs → c4 ≡ with_hole c3 → start ≡ pos (length c4.instrs) → Writes b w n c4 c5 a → end ≡ pos (length c5.instrs)
      → c6 ≡ filled_in c5 jump (i.JumpF start) → c7 ≡ filled_in c6 over (i.Jump end) → WritesOperand b w n c1 c7 texts operator token a
  unfolding Writes WritesOperand Puts
  write_or c1 c2 c3 c4 c5 c6 c7 texts operator token a k jump over start end ek ex ej e2 e3 eo e4 es f5 ee e6 e7 begin left st l =
      let s = source_of b in
      or_emits (sort_of (is_text s left) operator) (line_at s token.0) (λ f site. ExprAt s f site n left) (λ f site. ExprAt s f site n (syntax_of a)) (λ f site. ExprAt s f site (suc n) (syntax_of a)) (IsBuilt s w.text left) (IsBuilt s w.text (syntax_of a)) begin c7 (sym ex ∙ ek ∙ ap sorted_of (sym st))
      (emits_if w (IsBuilt s w.text left) ⊤ (IsBuilt s w.text (syntax_of a)) (λ z site. ExprAt s z site n left) (λ z site. Pushes z site n (i.Bool (pos 1))) (λ z site. ExprAt s z site n (syntax_of a)) begin c1 c2 c3 c4 c5 c6 c7 jump over start end l ej e2 (emits_push w c2 c3 n (i.Bool (pos 1)) 0 e3 (λ z. cc) refl) eo e4 es f5 ee e6 e7)

  pub write_and : (c1 c2 c3 c4 c5 c6 c7 : DraftOf) (texts : Bool) (operator : Operator) (token : TokenNo) (a : Expr) (k : Sorted) (jump over : ℕ) (start end : ℤ) → k ≡ sorted_of (sort_of texts operator) → k ≡ sorted.AndThen
      → jump ≡ length c1.instrs → c2 ≡ with_hole c1 → Writes b w n c2 c3 a → over ≡ length c3.instrs → c4 ≡ with_hole c3 → start ≡ pos (length c4.instrs) → c5 ≡ with_push c4 n (i.Bool (pos 0)) 0 → end ≡ pos (length c5.instrs)
      → c6 ≡ filled_in c5 jump (i.JumpF start) → c7 ≡ filled_in c6 over (i.Jump end) → WritesOperand b w n c1 c7 texts operator token a
  unfolding Writes WritesOperand Puts
  write_and c1 c2 c3 c4 c5 c6 c7 texts operator token a k jump over start end ek ex ej e2 f3 eo e4 es e5 ee e6 e7 begin left st l =
      let s = source_of b in
      and_emits (sort_of (is_text s left) operator) (line_at s token.0) (λ f site. ExprAt s f site n left) (λ f site. ExprAt s f site n (syntax_of a)) (λ f site. ExprAt s f site (suc n) (syntax_of a)) (IsBuilt s w.text left) (IsBuilt s w.text (syntax_of a)) begin c7 (sym ex ∙ ek ∙ ap sorted_of (sym st))
      (emits_if w (IsBuilt s w.text left) (IsBuilt s w.text (syntax_of a)) ⊤ (λ z site. ExprAt s z site n left) (λ z site. ExprAt s z site n (syntax_of a)) (λ z site. Pushes z site n (i.Bool (pos 0))) begin c1 c2 c3 c4 c5 c6 c7 jump over start end l ej e2 f3 eo e4 es (emits_push w c4 c5 n (i.Bool (pos 0)) 0 e5 (λ z. cc) refl) ee e6 e7)

  -- what stands behind something and has no code
  gives_up : (P Q : Type 0) (A B : Place) (a c d : DraftOf) → Emits w a c P A → (Q → ⊥) → d ≡ given_up c → Emits w a d Q B
  gives_up P Q A B a c d f never is =
      emits_as w (P × ⊥) Q _ _ a d (λ q. absurd (never q)) (λ q. absurd q.1) (λ final site p q _ _ r. absurd r.2)
      (emits_then w P ⊥ A (λ final site p q. ⊥) a c d f (emits_nothing w c d ⊥ (λ final site p q. ⊥) (λ z. z) is))

  pub write_joined : (c0 c1 c2 : DraftOf) (texts : Bool) (operator : Operator) (token : TokenNo) (a : Expr) (k : Sorted) (m : ℕ) → k ≡ sorted_of (sort_of texts operator) → k ≡ sorted.Joined → m ≡ suc n → Writes b w m c0 c1 a → WritesJoin b w n c1 c2 token → WritesOperand b w n c0 c2 texts operator token a
  unfolding Writes WritesOperand Puts WritesJoin
  write_joined c0 c1 c2 texts operator token a k m ek ex em f g start left st l =
      let s = source_of b in
      let f' = subst (λ z. Emits w c0 c1 (IsBuilt s w.text (syntax_of a)) (λ final site p q. ExprAt s final site z (syntax_of a) p q)) em f in
      join_emits (sort_of (is_text s left) operator) (line_at s token.0) (λ f site. ExprAt s f site n left) (λ f site. ExprAt s f site n (syntax_of a)) (λ f site. ExprAt s f site (suc n) (syntax_of a)) (IsBuilt s w.text left) (IsBuilt s w.text (syntax_of a)) start c2 (sym ex ∙ ek ∙ ap sorted_of (sym st))
      (emits_as w _ _ _ _ start c2 (λ t. (t.0, (t.1, tt))) (λ t. (t.0, t.1.0)) (λ final site p q _ _ r. record { x = r.0; y = r.2.0; within = r.2.2.0; left = r.1; right = r.2.1; room = r.2.2.1; joins = r.2.2.2 })
      (emits_then w _ _ (λ z site. ExprAt s z site n left) (λ z site p q. (y : ℕ) × ExprAt s z site (suc n) (syntax_of a) p y × ((suc (suc site.temps) < site.size) × (suc (suc n) < site.room) × Stand z (line_at s token.0) (join_instrs (level_of s site.text) site.temps) y q)) start c0 c2 l
      (emits_then w _ _ (λ z site. ExprAt s z site (suc n) (syntax_of a)) (λ z site y q. (suc (suc site.temps) < site.size) × (suc (suc n) < site.room) × Stand z (line_at s token.0) (join_instrs (level_of s site.text) site.temps) y q) c0 c1 c2 f' g)))

  -- further operands
  pub owes_all : (a : DraftOf) (ts : List Tail) → OwesTails b w n a ts a ts
  unfolding OwesTails
  owes_all a ts end f = f

  pub owes_next : (a c d : DraftOf) (ts r r' : List Tail) (operator : Operator) (token : TokenNo) (x : Expr) → Steady operator → OwesTails b w n a ts c r → r ≡ (let t : Tail = record { operator = operator; token = token.0; operand = syntax_of x } in t) ∷ r' → WritesOperand b w n c d false operator token x → OwesTails b w n a ts d r'
  unfolding OwesTails WritesTails WritesOperand Steady
  owes_next a c d ts r r' operator token x steady f is one end rest = f end (subst (WritesTails b w n c end) (sym is) (λ start left l. rest start (Binary operator token.0 left (syntax_of x)) (one start left (steady (is_text (source_of b) left)) l)))

  pub owes_none : (a c : DraftOf) (ts r : List Tail) → OwesTails b w n a ts c r → r ≡ [] → WritesTails b w n a c ts
  unfolding OwesTails WritesTails
  owes_none a c ts r f is = f c (subst (WritesTails b w n c c) (sym is) (λ start left l. l))

  chained : (c0 c1 c2 : DraftOf) (a x : Expr) (ts : List Tail) → chain (syntax_of x) ts ≡ syntax_of a → Writes b w n c0 c1 x → WritesTails b w n c1 c2 ts → Writes b w n c0 c2 a
  unfolding Writes WritesTails
  chained c0 c1 c2 a x ts is f g = puts_as c0 c2 (chain (syntax_of x) ts) (syntax_of a) is (g c0 (syntax_of x) f)

  level : (op : Operator) (a x : Expr) (p : Box Expr Global) (l : Vec Operand Global) (ts : List Operand) → syntax_of a ≡ chain (syntax_of p.value) (map (with_operator op) (map operand_syntax l.items)) → x ≡ p.value → ts ≡ l.items → chain (syntax_of x) (map (with_operator op) (map operand_syntax ts)) ≡ syntax_of a
  level op a x p l ts is ex et = ap (λ z. chain (syntax_of z) (map (with_operator op) (map operand_syntax ts))) ex ∙ ap (λ z. chain (syntax_of p.value) (map (with_operator op) (map operand_syntax z))) et ∙ sym is

  pub write_OrElse : (c0 c1 c2 : DraftOf) (a x : Expr) (p : Box Expr Global) (l : Vec Operand Global) (ts : List Operand) → a ≡ e.OrElse p l → x ≡ p.value → ts ≡ l.items → Writes b w n c0 c1 x → WritesOperands b w n c1 c2 o.OrElse ts → Writes b w n c0 c2 a
  unfolding WritesOperands
  write_OrElse c0 c1 c2 a x p l ts is ex et f g = chained c0 c1 c2 a x _ (level o.OrElse a x p l ts (ap syntax_of is ∙ v.syntax-OrElse p l) ex et) f (g steady_OrElse)

  pub write_AndThen : (c0 c1 c2 : DraftOf) (a x : Expr) (p : Box Expr Global) (l : Vec Operand Global) (ts : List Operand) → a ≡ e.AndThen p l → x ≡ p.value → ts ≡ l.items → Writes b w n c0 c1 x → WritesOperands b w n c1 c2 o.AndThen ts → Writes b w n c0 c2 a
  unfolding WritesOperands
  write_AndThen c0 c1 c2 a x p l ts is ex et f g = chained c0 c1 c2 a x _ (level o.AndThen a x p l ts (ap syntax_of is ∙ v.syntax-AndThen p l) ex et) f (g steady_AndThen)

  pub write_Eqv : (c0 c1 c2 : DraftOf) (a x : Expr) (p : Box Expr Global) (l : Vec Operand Global) (ts : List Operand) → a ≡ e.Eqv p l → x ≡ p.value → ts ≡ l.items → Writes b w n c0 c1 x → WritesOperands b w n c1 c2 o.Equivalent ts → Writes b w n c0 c2 a
  unfolding WritesOperands
  write_Eqv c0 c1 c2 a x p l ts is ex et f g = chained c0 c1 c2 a x _ (level o.Equivalent a x p l ts (ap syntax_of is ∙ v.syntax-Eqv p l) ex et) f (g steady_Equivalent)

  pub write_Imp : (c0 c1 c2 : DraftOf) (a x : Expr) (p : Box Expr Global) (l : Vec Operand Global) (ts : List Operand) → a ≡ e.Imp p l → x ≡ p.value → ts ≡ l.items → Writes b w n c0 c1 x → WritesOperands b w n c1 c2 o.Implies ts → Writes b w n c0 c2 a
  unfolding WritesOperands
  write_Imp c0 c1 c2 a x p l ts is ex et f g = chained c0 c1 c2 a x _ (level o.Implies a x p l ts (ap syntax_of is ∙ v.syntax-Imp p l) ex et) f (g steady_Implies)

  pub write_Or : (c0 c1 c2 : DraftOf) (a x : Expr) (p : Box Expr Global) (l : Vec Operand Global) (ts : List Operand) → a ≡ e.Or p l → x ≡ p.value → ts ≡ l.items → Writes b w n c0 c1 x → WritesOperands b w n c1 c2 o.Or ts → Writes b w n c0 c2 a
  unfolding WritesOperands
  write_Or c0 c1 c2 a x p l ts is ex et f g = chained c0 c1 c2 a x _ (level o.Or a x p l ts (ap syntax_of is ∙ v.syntax-Or p l) ex et) f (g steady_Or)

  pub write_And : (c0 c1 c2 : DraftOf) (a x : Expr) (p : Box Expr Global) (l : Vec Operand Global) (ts : List Operand) → a ≡ e.And p l → x ≡ p.value → ts ≡ l.items → Writes b w n c0 c1 x → WritesOperands b w n c1 c2 o.And ts → Writes b w n c0 c2 a
  unfolding WritesOperands
  write_And c0 c1 c2 a x p l ts is ex et f g = chained c0 c1 c2 a x _ (level o.And a x p l ts (ap syntax_of is ∙ v.syntax-And p l) ex et) f (g steady_And)

  pub write_Concatenation : (c0 c1 c2 : DraftOf) (a x : Expr) (p : Box Expr Global) (l : Vec Operand Global) (ts : List Operand) → a ≡ e.Concatenation p l → x ≡ p.value → ts ≡ l.items → Writes b w n c0 c1 x → WritesOperands b w n c1 c2 o.Concatenate ts → Writes b w n c0 c2 a
  unfolding WritesOperands
  write_Concatenation c0 c1 c2 a x p l ts is ex et f g = chained c0 c1 c2 a x _ (level o.Concatenate a x p l ts (ap syntax_of is ∙ v.syntax-Concatenation p l) ex et) f (g steady_Concatenate)

  pub write_Power : (c0 c1 c2 : DraftOf) (a x : Expr) (p : Box Expr Global) (l : Vec Operand Global) (ts : List Operand) → a ≡ e.Power p l → x ≡ p.value → ts ≡ l.items → Writes b w n c0 c1 x → WritesOperands b w n c1 c2 o.Power ts → Writes b w n c0 c2 a
  unfolding WritesOperands
  write_Power c0 c1 c2 a x p l ts is ex et f g = chained c0 c1 c2 a x _ (level o.Power a x p l ts (ap syntax_of is ∙ v.syntax-Power p l) ex et) f (g steady_Power)

  pub write_product : (c0 c1 c2 : DraftOf) (a x : Expr) (p : Box Expr Global) (l : Vec Factor Global) (ts : List Factor) → a ≡ e.Product p l → x ≡ p.value → ts ≡ l.items → Writes b w n c0 c1 x → WritesTails b w n c1 c2 (map factor_syntax ts) → Writes b w n c0 c2 a
  write_product c0 c1 c2 a x p l ts is ex et f g = chained c0 c1 c2 a x (map factor_syntax ts) (ap (λ z. chain (syntax_of z) (map factor_syntax ts)) ex ∙ ap (λ z. chain (syntax_of p.value) (map factor_syntax z)) et ∙ sym (ap syntax_of is ∙ v.syntax-Product p l)) f g

  pub write_sum : (c0 c1 c2 : DraftOf) (a x : Expr) (m : Option LeadingSign) (p : Box Expr Global) (l : Vec Term Global) (ts : List Term) → a ≡ e.Sum m p l → m ≡ None → x ≡ p.value → ts ≡ l.items → Writes b w n c0 c1 x → WritesTails b w n c1 c2 (map term_syntax ts) → Writes b w n c0 c2 a
  write_sum c0 c1 c2 a x m p l ts is none ex et f g = chained c0 c1 c2 a x (map term_syntax ts)
      (ap (λ z. chain (syntax_of z) (map term_syntax ts)) ex ∙ ap (λ z. chain (syntax_of p.value) (map term_syntax z)) et ∙ sym (ap syntax_of is ∙ v.syntax-Sum m p l ∙ ap (λ z. chain (signed z (syntax_of p.value)) (map term_syntax l.items)) none)) f g

  pub write_signed : (c0 c1 c2 c3 : DraftOf) (a x : Expr) (m : Option LeadingSign) (k : LeadingSign) (p : Box Expr Global) (l : Vec Term Global) (ts : List Term) → a ≡ e.Sum m p l → m ≡ Some k → x ≡ p.value → ts ≡ l.items → Writes b w n c0 c1 x → WritesSign b w n c1 c2 k.sign k.token → WritesTails b w n c2 c3 (map term_syntax ts) → Writes b w n c0 c3 a
  unfolding Writes WritesTails WritesSign
  write_signed c0 c1 c2 c3 a x m k p l ts is some ex et f h g =
      let same : chain (Signed k.sign k.token.0 (syntax_of x)) (map term_syntax ts) ≡ syntax_of a = ap (λ z. chain (Signed k.sign k.token.0 (syntax_of z)) (map term_syntax ts)) ex ∙ ap (λ z. chain (Signed k.sign k.token.0 (syntax_of p.value)) (map term_syntax z)) et ∙ sym (ap syntax_of is ∙ v.syntax-Sum m p l ∙ ap (λ z. chain (signed z (syntax_of p.value)) (map term_syntax l.items)) some) in
      puts_as c0 c3 _ (syntax_of a) same (g c0 (Signed k.sign k.token.0 (syntax_of x)) (h c0 (syntax_of x) f))

  pub write_plus : (a : DraftOf) (k : Sign) (t : TokenNo) → k ≡ sign.Plus → WritesSign b w n a a k t
  unfolding WritesSign Puts
  write_plus a k t is start x f = subst (λ z. Emits w start a (IsBuilt (source_of b) w.text (Signed z t.0 x)) (λ final site p q. ExprAt (source_of b) final site n (Signed z t.0 x) p q)) (sym is) f

  pub write_minus : (a c : DraftOf) (k : Sign) (t : TokenNo) (line : ℕ) → k ≡ sign.Minus → line ≡ line_at (source_of b) t.0 → c ≡ with_instr a i.Neg line → WritesSign b w n a c k t
  unfolding WritesSign Puts
  write_minus a c k t line is el ec start x f =
      let s = source_of b in
      subst (λ z. Emits w start c (IsBuilt s w.text (Signed z t.0 x)) (λ final site p q. ExprAt s final site n (Signed z t.0 x) p q)) (sym is)
      (emits_as w _ _ _ _ start c (λ t. (t, tt)) (λ t. t.0) (λ final site p q _ _ r. r)
      (emits_then w _ _ (λ z site. ExprAt s z site n x) (λ z site. At z i.Neg (line_at s t.0)) start a c f (emits_at w a c i.Neg (line_at s t.0) (ec ∙ ap (λ z. with_instr a i.Neg z) el) (λ z. cc) refl)))

  pub write_related : (c0 c1 c2 : DraftOf) (a x y : Expr) (p q : Box Expr Global) (t : TokenNo) (r : Relation) (texts : Bool) → a ≡ e.Related p t r q → x ≡ p.value → y ≡ q.value → Writes b w n c0 c1 x → texts ≡ is_text (source_of b) (syntax_of x) → WritesOperand b w n c1 c2 texts (o.Relate r) t y → Writes b w n c0 c2 a
  unfolding Writes WritesOperand
  write_related c0 c1 c2 a x y p q t r texts is ex ey f et g = puts_as c0 c2 (Binary (o.Relate r) t.0 (syntax_of x) (syntax_of y)) (syntax_of a)
      (ap (λ z. Binary (o.Relate r) t.0 (syntax_of z) (syntax_of y)) ex ∙ ap (λ z. Binary (o.Relate r) t.0 (syntax_of p.value) (syntax_of z)) ey ∙ sym (ap syntax_of is ∙ v.syntax-Related p t r q)) (g c0 (syntax_of x) (ap (λ z. sort_of z (o.Relate r)) (sym et)) f)

  pub write_not : (a c : DraftOf) (u x : Expr) (l : Vec TokenNo Global) (ts : List TokenNo) (p : Box Expr Global) → u ≡ e.Not l p → x ≡ p.value → ts ≡ l.items → WritesNot b w n a c ts x → Writes b w n a c u
  unfolding Writes WritesNot
  write_not a c u x l ts p is ex et f = puts_as a c (negated ts (syntax_of x)) (syntax_of u) (ap (λ z. negated ts (syntax_of z)) ex ∙ ap (λ z. negated z (syntax_of p.value)) et ∙ sym (ap syntax_of is ∙ v.syntax-Not l p)) f

  pub nots_none : (a c : DraftOf) (ts : List TokenNo) (x : Expr) → ts ≡ [] → Writes b w n a c x → WritesNot b w n a c ts x
  unfolding Writes WritesNot
  nots_none a c ts x is f = subst (λ z. Puts (source_of b) w n a c (negated z (syntax_of x))) (sym is) f

  pub nots_next : (a c d : DraftOf) (ts us : List TokenNo) (t : TokenNo) (x : Expr) (line : ℕ) → us ≡ t ∷ ts → WritesNot b w n a c ts x → line ≡ line_at (source_of b) t.0 → d ≡ with_instr c i.Not line → WritesNot b w n a d us x
  unfolding WritesNot Puts
  nots_next a c d ts us t x line is f el ed =
      let s = source_of b in
      subst (λ z. Emits w a d (IsBuilt s w.text (negated z (syntax_of x))) (λ final site p q. ExprAt s final site n (negated z (syntax_of x)) p q)) (sym is)
      (emits_as w _ _ _ _ a d (λ t. (t, tt)) (λ t. t.0) (λ final site p q _ _ r. r)
      (emits_then w _ _ (λ z site. ExprAt s z site n (negated ts (syntax_of x))) (λ z site. At z i.Not (line_at s t.0)) a c d f (emits_at w c d i.Not (line_at s t.0) (ed ∙ ap (λ z. with_instr c i.Not z) el) (λ z. cc) refl)))

  write_postfix : (c0 c1 : DraftOf) (a x : Expr) (p : Box Expr Global) (l : Vec Selector Global) (ts : List Selector) → a ≡ e.Postfix p l → x ≡ p.value → ts ≡ l.items → WritesTaken b w n c0 c1 x ts → Writes b w n c0 c1 a
  unfolding Writes WritesTaken
  write_postfix c0 c1 a x p l ts is ex et f = puts_as c0 c1 (selected (syntax_of x) (map selector_syntax ts)) (syntax_of a)
      (ap (λ z. selected (syntax_of z) (map selector_syntax ts)) ex ∙ ap (λ z. selected (syntax_of p.value) (map selector_syntax z)) et ∙ sym (ap syntax_of is ∙ v.syntax-Postfix p l)) f

  pub write_postfix_alone : (c0 c1 : DraftOf) (a x : Expr) (p : Box Expr Global) (l : Vec Selector Global) (ts : List Selector) → a ≡ e.Postfix p l → x ≡ p.value → ts ≡ l.items → length ts ≡ 0 → Writes b w n c0 c1 x → Writes b w n c0 c1 a
  write_postfix_alone c0 c1 a x p l ts is ex et none f = write_postfix c0 c1 a x p l ts is ex et (taken_nothing b w n c0 c1 x ts none f)

  pub write_postfix_taken : (c0 c1 c2 c3 : DraftOf) (a x : Expr) (p : Box Expr Global) (l : Vec Selector Global) (ts : List Selector) (o o' : Object) (moves : Bool) → a ≡ e.Postfix p l → x ≡ p.value → ts ≡ l.items
      → moves ≡ moves_next (source_of b) (drop 0 (map selector_syntax ts)) → WritesStart b w n c0 c1 moves o x → WritesSteps b w n c1 c2 o ts o' → WritesEnd b w n c2 c3 o' ts → Writes b w n c0 c3 a
  write_postfix_taken c0 c1 c2 c3 a x p l ts o o' moves is ex et em f g h =
      write_postfix c0 c3 a x p l ts is ex et (taken_whole b w n c0 c2 c3 x ts o' (taken_before b w n c0 c1 c2 x ts o o' moves em f g) h)

  -- identifiers, of which there is what they write
  pub write_named : (a c : DraftOf) (u : Expr) (x : Identifier) (l : Vec Expr Global) (es : List Expr) → u ≡ e.Named x l → es ≡ l.items → WritesGiving b w n a c x es → Writes b w n a c u
  unfolding Writes WritesGiving
  write_named a c u x l es is ee f = puts_as a c (Named x (expressions (map syntax_of es))) (syntax_of u) (ap (λ z. Named x (expressions (map syntax_of z))) ee ∙ sym (ap syntax_of is ∙ v.syntax-Named x l)) f

  pub count : (es : List Expr) → operands (expressions (map syntax_of es)) ≡ length es
  count [] = refl
  count (x ∷ xs) = ap suc (count xs)

  -- lists and elements
  pub lists_all : (a : DraftOf) (es : List Expr) → OwesList b w n a es n a es
  unfolding OwesList
  lists_all a es end f = f

  pub lists_next : (a c d : DraftOf) (es r r' : List Expr) (m m' : ℕ) (x : Expr) → OwesList b w n a es m c r → r ≡ x ∷ r' → Writes b w m c d x → m' ≡ suc m → OwesList b w n a es m' d r'
  unfolding OwesList WritesList Writes Puts
  lists_next a c d es r r' m m' x f is one em end rest =
      let s = source_of b in
      let rest' = subst (λ z. Emits w d end (AreBuilt s w.text (expressions (map syntax_of r'))) (λ final site p q. ExprsAt s final site z (expressions (map syntax_of r')) p q)) em rest in
      f end (subst (λ z. Emits w c end (AreBuilt s w.text (expressions (map syntax_of z))) (λ final site p q. ExprsAt s final site m (expressions (map syntax_of z)) p q)) (sym is)
      (emits_then w _ _ (λ z site. ExprAt s z site m (syntax_of x)) (λ z site. ExprsAt s z site (suc m) (expressions (map syntax_of r'))) c d end one rest'))

  pub lists_none : (a c : DraftOf) (es r : List Expr) (m : ℕ) → OwesList b w n a es m c r → r ≡ [] → WritesList b w n a c es
  unfolding OwesList WritesList
  lists_none a c es r m f is =
      let s = source_of b in
      f c (subst (λ z. Emits w c c (AreBuilt s w.text (expressions (map syntax_of z))) (λ final site p q. ExprsAt s final site m (expressions (map syntax_of z)) p q)) (sym is) (emits_none w c))

  pub write_element : (a c0 c1 c : DraftOf) (token : TokenNo) (d : DeclNo) (es : List Expr) (m k class line : ℕ) (x : Instr) → m ≡ suc n → WritesCell b w n a c0 d → WritesList b w m c0 c1 es → k ≡ length es → x ≡ i.Elem (pos k) (pos class) → line ≡ line_at (source_of b) token.0 → c ≡ with_instr c1 x line → WritesElement b w n a c class token d es
  unfolding WritesElement WritesCell WritesList
  write_element a c0 c1 c token d es m k class line x em f g ek ex el ec =
      let s = source_of b in
      let xs = expressions (map syntax_of es) in
      let g' = subst (λ z. Emits w c0 c1 (AreBuilt s w.text xs) (λ final site p q. ExprsAt s final site z xs p q)) em g in
      let at : x ≡ i.Elem (pos (operands xs)) (pos class) = ex ∙ ap (λ z. i.Elem (pos z) (pos class)) (ek ∙ sym (count es)) in
      emits_as w _ _ _ _ a c (λ t. (t.0, (t.1, tt))) (λ t. (t.0, t.1.0)) (λ final site p q _ _ r. record { x = r.0; y = r.2.0; array = r.1; subscripts = r.2.1; found = r.2.2 })
      (emits_then w _ _ (λ z site. CellAt s z site n d) (λ z site p q. (y : ℕ) × ExprsAt s z site (suc n) xs p y × At z (i.Elem (pos (operands xs)) (pos class)) (line_at s token.0) y q) a c0 c f
      (emits_then w _ _ (λ z site. ExprsAt s z site (suc n) xs) (λ z site. At z (i.Elem (pos (operands xs)) (pos class)) (line_at s token.0)) c0 c1 c g'
      (emits_at w c1 c (i.Elem (pos (operands xs)) (pos class)) (line_at s token.0) (ec ∙ ap (λ z. with_instr c1 z line) at ∙ ap (λ z. with_instr c1 (i.Elem (pos (operands xs)) (pos class)) z) el) (λ z. cc) refl)))

  -- cells
  pub write_load : (a c : DraftOf) (d : DeclNo) (x : Instr) (block k m v : ℕ) (slot : Option ℕ) → block ≡ block_of (source_of b) d → slot ≡ slot_in (source_of b) (block_of (source_of b) d) (Declared d.0) → slot ≡ Some k → is_around b.scopes (length b.scopes.blocks) w.text block ≡ true → v ≡ planned_start (source_of b) a.classes block + k → m ≡ level_of (source_of b) block → x ≡ i.Load (pos m) (pos v) → c ≡ with_push a n x 0 → WritesCell b w n a c d
  unfolding WritesCell source_of
  write_load a c d x block k m v slot eb es some around ev em ex ec =
      let s = source_of b in
      let found : slot_in s (block_of s d) (Declared d.0) ≡ Some k = sym es ∙ some in
      let number : v ≡ planned_start s a.classes (block_of s d) + k = ev ∙ ap (λ z. planned_start s a.classes z + k) eb in
      let at : (final : CodeOf) → ((j : ℕ) → planned_in (slice_get final.blocks j) ≡ planned_at a.classes j) → x ≡ i.Load (pos (level_of s (block_of s d))) (pos (slot_of s final (block_of s d) (Declared d.0))) =
      λ final known. ex ∙ ap (λ z. i.Load (pos z) (pos v)) (em ∙ ap (level_of s) eb) ∙ ap (λ z. i.Load (pos (level_of s (block_of s d))) (pos z)) (slot_found s final a.classes (block_of s d) (Declared d.0) k v known found number) in
      let there : is_around s.tables (length s.tables.blocks) w.text (block_of s d) ≡ true = ap (λ z. is_around s.tables (length s.tables.blocks) w.text z) (sym eb) ∙ around in
      let is : Inside s.tables w.text (block_of s d) = inside s.tables (block_of s d) (length s.tables.blocks) w.text there in
      let has : HasCell s (block_of s d) (Declared d.0) = slot_within s (block_of s d) (Declared d.0) k found in
      emits_as w _ _ (λ final site p q. Pushes final site n (i.Load (pos (level_of s (block_of s d))) (pos (slot_of s final (block_of s d) (Declared d.0)))) p q) _ a c (λ t. tt) (λ t. record { has = ap is_there found; inside = record { found = there } })
      (λ final site p q stands _ r. record { load = r; inside = subst (λ z. Inside s.tables z (block_of s d)) (sym stands) is; within = has })
      (emits_classed w _ (λ final site p q. Pushes final site n x p q) _ a c (λ final site p q known r. subst (λ z. Pushes final site n z p q) (at final known) r) (emits_push w a c n x 0 ec (λ z. let h : i.Load (pos m) (pos v) ≡ i.Halt = sym ex ∙ z in cc) (ap runs ex)))

  pub write_no_slot : (a c : DraftOf) (d : DeclNo) (slot : Option ℕ) → slot ≡ slot_in (source_of b) (block_of (source_of b) d) (Declared d.0) → slot ≡ None → c ≡ given_up a → WritesCell b w n a c d
  unfolding WritesCell
  write_no_slot a c d slot es none ec = emits_nothing w a c _ _ (λ h. let k : true ≡ false = sym h.has ∙ ap is_there (sym es ∙ none) in cc) ec

  pub write_outside : (a c : DraftOf) (d : DeclNo) (block : ℕ) → block ≡ block_of (source_of b) d → is_around b.scopes (length b.scopes.blocks) w.text block ≡ false → c ≡ given_up a → WritesCell b w n a c d
  unfolding WritesCell source_of
  write_outside a c d block eb out ec = emits_nothing w a c _ _ (λ h. let t : is_around b.scopes (length b.scopes.blocks) w.text block ≡ true = ap (λ z. is_around b.scopes (length b.scopes.blocks) w.text z) eb ∙ h.inside.found in cc) ec

  -- constants
  pub write_Integer : (a c : DraftOf) (u : Expr) (t : TokenNo) (z : ℤ) → u ≡ e.Integer t z → c ≡ with_push a n (i.Int z) 0 → Writes b w n a c u
  unfolding Writes Puts
  write_Integer a c u t z is ec = puts_as a c _ (syntax_of u) (sym (ap syntax_of is ∙ v.syntax-Integer t z)) (emits_push w a c n (i.Int z) 0 ec (λ z. cc) refl)

  pub write_Character : (a c : DraftOf) (u : Expr) (t : TokenNo) (z : ℕ) (x : Instr) → u ≡ e.Character t z → x ≡ i.Char (pos z) → z < 256 → c ≡ with_push a n x 0 → Writes b w n a c u
  unfolding Writes Puts
  write_Character a c u t z x is ex small ec =
      puts_as a c _ (syntax_of u) (sym (ap syntax_of is ∙ v.syntax-Character t z))
      (emits_as w ⊤ ⊤ (λ final site p q. Pushes final site n (i.Char (pos z)) p q) _ a c (λ t. t) (λ t. t) (λ final site p q _ _ r. (small, r)) (emits_push w a c n (i.Char (pos z)) 0 (ec ∙ ap (λ y. with_push a n y 0) ex) (λ z. cc) refl))

  pub write_True : (a c : DraftOf) (u : Expr) (t : TokenNo) → u ≡ e.True t → c ≡ with_push a n (i.Bool (pos 1)) 0 → Writes b w n a c u
  unfolding Writes Puts
  write_True a c u t is ec = puts_as a c _ (syntax_of u) (sym (ap syntax_of is ∙ v.syntax-True t)) (emits_push w a c n (i.Bool (pos 1)) 0 ec (λ z. cc) refl)

  pub write_False : (a c : DraftOf) (u : Expr) (t : TokenNo) → u ≡ e.False t → c ≡ with_push a n (i.Bool (pos 0)) 0 → Writes b w n a c u
  unfolding Writes Puts
  write_False a c u t is ec = puts_as a c _ (syntax_of u) (sym (ap syntax_of is ∙ v.syntax-False t)) (emits_push w a c n (i.Bool (pos 0)) 0 ec (λ z. cc) refl)

  pub write_parentheses : (a c : DraftOf) (u x : Expr) (t : TokenNo) (p : Box Expr Global) → u ≡ e.Parentheses t p → x ≡ p.value → Writes b w n a c x → Writes b w n a c u
  unfolding Writes Puts
  write_parentheses a c u x t p is ex f = puts_as a c _ (syntax_of u) (sym (ap syntax_of is ∙ v.syntax-Parentheses t p)) (subst (λ z. Emits w a c (IsBuilt (source_of b) w.text (syntax_of z)) (λ final site p q. ExprAt (source_of b) final site n (syntax_of z) p q)) ex f)

  -- objects
  pub write_Member : (a c d : DraftOf) (u y : Expr) (p : Box Expr Global) (t : TokenNo) (r : Membership) (x : Identifier) → u ≡ e.Member p t r x → y ≡ p.value → Writes b w n a c y → WritesMember b w n c d r x.token → Writes b w n a d u
  unfolding Writes WritesMember Puts
  write_Member a c d u y p t r x is ey f g = puts_as a d (Member r t.0 (syntax_of y) x) (syntax_of u) (ap (λ z. Member r t.0 (syntax_of z) x) ey ∙ sym (ap syntax_of is ∙ v.syntax-Member p t r x)) (g a (syntax_of y) f)

  pub write_Text : (a c : DraftOf) (u : Expr) (t : TokenNo) (z : List ℕ) → u ≡ e.Text t z → WritesTextAt b w n a c t → Writes b w n a c u
  unfolding Writes Puts WritesTextAt
  write_Text a c u t z is f = puts_as a c _ (syntax_of u) (sym (ap syntax_of is ∙ v.syntax-Text t z)) f

  pub write_NoObject : (a c : DraftOf) (u : Expr) (t : TokenNo) → u ≡ e.NoObject t → c ≡ with_push a n i.None 0 → Writes b w n a c u
  unfolding Writes Puts
  write_NoObject a c u t is ec = puts_as a c _ (syntax_of u) (sym (ap syntax_of is ∙ v.syntax-NoObject t)) (emits_push w a c n i.None 0 ec (λ z. cc) refl)

  pub write_Notext : (a c : DraftOf) (u : Expr) (t : TokenNo) → u ≡ e.Notext t → c ≡ with_push a n i.NoText 0 → Writes b w n a c u
  unfolding Writes Puts
  write_Notext a c u t is ec = puts_as a c _ (syntax_of u) (sym (ap syntax_of is ∙ v.syntax-Notext t)) (emits_push w a c n i.NoText 0 ec (λ z. cc) refl)

  pub write_This : (a c : DraftOf) (u : Expr) (t : TokenNo) (x : Identifier) → u ≡ e.This t x → WritesThis b w n a c t → Writes b w n a c u
  unfolding Writes Puts WritesThis
  write_This a c u t x is f = puts_as a c (This t.0 x) (syntax_of u) (sym (ap syntax_of is ∙ v.syntax-This t x)) f

  pub write_New : (a c : DraftOf) (u : Expr) (t : TokenNo) (x : Identifier) (l : Vec Expr Global) (es : List Expr) → u ≡ e.New t x l → es ≡ l.items → WritesNew b w n a c t x es → Writes b w n a c u
  unfolding Writes Puts WritesNew
  write_New a c u t x l es is ee f = puts_as a c (New t.0 x (expressions (map syntax_of es))) (syntax_of u) (ap (λ z. New t.0 x (expressions (map syntax_of z))) ee ∙ sym (ap syntax_of is ∙ v.syntax-New t x l)) f

-- what is left of a list
pub from_drop : {A : Type 0} (xs : List A) (i : ℕ) (x : A) → i < length xs → x ≡ slice_index_or xs i x → drop i xs ≡ x ∷ drop (i + 1) xs
from_drop xs i x le is = drop_more xs i x le ∙ ap (λ y. y ∷ drop (i + 1) xs) (sym is)

pub from_back : {A : Type 0} (xs : List A) (i : ℕ) (d : A) → i < length xs → drop (length xs - (i + 1)) xs ≡ slice_index_or xs (length xs - 1 - i) d ∷ drop (length xs - i) xs
from_back xs i d le =
    let k = length xs - (i + 1) in
    let one : k + 1 ≡ length xs - i = omega arith in
    let two : k ≡ length xs - 1 - i = omega arith in
    drop_more xs k d (omega arith) ∙ ap (λ n. slice_index_or xs k d ∷ drop n xs) one ∙ ap (λ n. slice_index_or xs n d ∷ drop (length xs - i) xs) two

pub ruleset writes = (write_if, write_OrElse, write_AndThen, write_Eqv, write_Imp, write_Or, write_And, write_Concatenation, write_Power, write_product, write_sum, write_signed, write_related, write_not, write_postfix_alone, write_postfix_taken, write_named, write_Integer, write_Character, write_True, write_False, write_parentheses, write_Member, write_Text, write_NoObject, write_Notext, write_This, write_New)

pub ruleset second_operands = (write_plain, write_negated, write_or, write_and, write_joined)

pub ruleset of_cells = (write_element, write_load, write_no_slot, write_outside)

pub ruleset leading_signs = (write_plus, write_minus)
