-- One left side.
use Rattle.std.proofs.Common.{◌≡◌, ℕ, pos, false, List, Bor, refl, sym, ap, ◌∙◌, subst}
use Rattle.std.specs.Prelude.{⊤}
use Rattle.sim_base.specs.declared.numbering.DeclNo.{DeclNo}
use Rattle.sim_base.specs.declared.numbering.TokenNo.{TokenNo}
use Rattle.sim_scope.specs.declared.bound.Bound.{Bound}
use Rattle.sim_scope.specs.Source.{line_at, source_of}
use Rattle.sim_tree.specs.declared.expr.Expr.{Expr}
use Rattle.sim_tree.specs.SyntaxOf.{syntax_of}
use Rattle.sim_code.specs.declared.instr.Instr.TheVariants as i
use Rattle.sim_meaning.specs.Pending.{ForPlace, Result}
use Rattle.sim_tree.specs.Syntax.{NoMore}
use Rattle.codegen_expr.specs.declared.spot.Spot.{Spot}
use Rattle.codegen_expr.specs.Built.{IsBuilt, KeyBuilt}
use Rattle.codegen_expr.specs.CodeExpr.{ByNameAt, ElementAt, ExprAt, ExprsAt, HeldAt, PlaceAt, ReferencePlaceAt}
use Rattle.sim_scope.specs.Source.{level_of}
use Rattle.codegen_expr.specs.Drafts.{DraftOf, Emits, given_up, with_instr}
use Rattle.codegen_expr.specs.Emit.{Puts, PutsPlace, Writes, WritesElement, WritesNamePlace, WritesPlace, WritesUse}
use Rattle.codegen_expr.specs.EmitObjects.{WritesFit}
use Rattle.codegen_expr.specs.Sites.{At, Pushes, class_number, slot_of}
use Rattle.codegen_expr.proofs.Pieces.{emits_as, emits_at, emits_nothing, emits_then}
use Rattle.codegen.specs.declared.left.Left.{Left}
use Rattle.codegen.specs.declared.left.Left.TheVariants as left
use Rattle.codegen.specs.declared.several.Side.{Side}
use Rattle.codegen.specs.BuiltProgram.{LeftBuilt}
use Rattle.codegen.specs.Emit.{OneGoesAt, WritesOne}
use Rattle.codegen.specs.EmitLeft.{FindsSide, LoadsCell, StoresCell, WritesReferencePlace, operands_in}
use Rattle.codegen.specs.EmitSeveral.{side_in}
use Rattle.codegen.proofs.Cells.{cell_there, emits_load, emits_store}
use Rattle.codegen.proofs.Sides.{at_side, here}

module _ (b : Bound) (w : Spot) where
  pub one_cell : (c0 c1 c2 : DraftOf) (x : Side) (v : Expr) (home place : ℕ) (r : Left) → FindsSide b w x.sign x.left.now r → r ≡ left.Cell home place → Writes b w 0 c0 c1 v → StoresCell b c1 c2 home place → WritesOne b w c0 c2 (side_in x) v
  unfolding WritesOne Writes Puts
  one_cell c0 c1 c2 x v home place r f er g ec =
      let s = source_of b in
      let l = at_side b w x r (left.Cell home place) f er in
      let key = l.0 in
      let built : KeyBuilt s w.text home key = l.2 in
      subst (λ z. Emits w c0 c2 (LeftBuilt s w.text z × IsBuilt s w.text (syntax_of v)) (λ final site p q. OneGoesAt s final site z (syntax_of v) p q)) (sym l.1)
      (emits_as w _ _ _ _ c0 c2 (λ h. (h.1, tt)) (λ h. (built, h.0)) (λ final site p q stands _ k. (here b w s home site.text stands built.inside, cell_there s home key built.has, (k.0, k.1, record { line = 0; is = k.2 })))
      (emits_then w _ ⊤ (λ z site. ExprAt s z site 0 (syntax_of v)) (λ final site p q. At final (i.Store (pos (level_of s home)) (pos (slot_of s final home key))) 0 p q) c0 c1 c2 g (emits_store b w c1 c2 home place key l.3 ec)))

  pub one_element : (c0 c1 c2 c3 : DraftOf) (x : Side) (v : Expr) (token : TokenNo) (d : DeclNo) (es : Bor (List Expr)) (r : Left) → FindsSide b w x.sign x.left.now r → r ≡ left.Element token d es → WritesElement b w 0 c0 c1 0 token d es.now → Writes b w 1 c1 c2 v → c3 ≡ with_instr c2 i.Put 0 → WritesOne b w c0 c3 (side_in x) v
  unfolding WritesOne WritesElement Writes Puts
  one_element c0 c1 c2 c3 x v token d es r f er g h ec =
      let s = source_of b in
      let xs = operands_in es.now in
      let line = line_at s token.0 in
      let l = at_side b w x r (left.Element token d es) f er in
      subst (λ z. Emits w c0 c3 (LeftBuilt s w.text z × IsBuilt s w.text (syntax_of v)) (λ final site p q. OneGoesAt s final site z (syntax_of v) p q)) (sym l)
      (emits_as w _ _ _ _ c0 c3 (λ k. (k.0, (k.1, tt))) (λ k. (k.0, k.1.0)) (λ final site p q stands _ k. (k.0, k.1, (k.2.0, k.2.1, record { line = 0; is = k.2.2 })))
      (emits_then w _ _ (λ final site p q. ElementAt s final site 0 line 0 d xs (λ m n. ExprsAt s final site 1 xs m n) p q) (λ final site p q. (y : ℕ) × ExprAt s final site 1 (syntax_of v) p y × At final i.Put 0 y q) c0 c1 c3 g
      (emits_then w _ ⊤ (λ z site. ExprAt s z site 1 (syntax_of v)) (λ final site p q. At final i.Put 0 p q) c1 c2 c3 h (emits_at w c2 c3 i.Put 0 ec (λ z. cc) refl))))

  pub one_text : (c0 c1 c2 c3 : DraftOf) (x : Side) (v : Expr) (line : ℕ) (r : Left) → FindsSide b w x.sign x.left.now r → r ≡ left.Text → Writes b w 0 c0 c1 x.left.now → Writes b w 1 c1 c2 v → line ≡ line_at (source_of b) x.token.0 → c3 ≡ with_instr c2 i.AssignT line → WritesOne b w c0 c3 (side_in x) v
  unfolding WritesOne Writes Puts
  one_text c0 c1 c2 c3 x v line r f er g h el ec =
      let s = source_of b in
      let at = line_at s x.token.0 in
      let l = at_side b w x r left.Text f er in
      subst (λ z. Emits w c0 c3 (LeftBuilt s w.text z × IsBuilt s w.text (syntax_of v)) (λ final site p q. OneGoesAt s final site z (syntax_of v) p q)) (sym l)
      (emits_as w _ _ _ _ c0 c3 (λ k. (k.0, (k.1, tt))) (λ k. (k.0, k.1.0)) (λ final site p q stands _ k. (k.0, k.1, (k.2.0, k.2.1, k.2.2)))
      (emits_then w _ _ (λ final site p q. ExprAt s final site 0 (syntax_of x.left.now) p q) (λ final site p q. (y : ℕ) × ExprAt s final site 1 (syntax_of v) p y × At final i.AssignT at y q) c0 c1 c3 g
      (emits_then w _ ⊤ (λ z site. ExprAt s z site 1 (syntax_of v)) (λ final site p q. At final i.AssignT at p q) c1 c2 c3 h (emits_at w c2 c3 i.AssignT at (ec ∙ ap (with_instr c2 i.AssignT) el) (λ z. cc) refl))))

  pub one_result : (c0 c1 c2 c3 : DraftOf) (x : Side) (v : Expr) (line home place : ℕ) (r : Left) → FindsSide b w x.sign x.left.now r → r ≡ left.Result home place → LoadsCell b 0 c0 c1 home place → Writes b w 1 c1 c2 v → line ≡ line_at (source_of b) x.token.0 → c3 ≡ with_instr c2 i.AssignT line → WritesOne b w c0 c3 (side_in x) v
  unfolding WritesOne Writes Puts
  one_result c0 c1 c2 c3 x v line home place r f er e1 h el ec =
      let s = source_of b in
      let at = line_at s x.token.0 in
      let l = at_side b w x r (left.Result home place) f er in
      let built : KeyBuilt s w.text home Result = l.1 in
      subst (λ z. Emits w c0 c3 (LeftBuilt s w.text z × IsBuilt s w.text (syntax_of v)) (λ final site p q. OneGoesAt s final site z (syntax_of v) p q)) (sym l.0)
      (emits_as w _ _ _ _ c0 c3 (λ k. (tt, (k.1, tt))) (λ k. (built, k.1.0)) (λ final site p q stands _ k. (k.0, record { load = k.1; inside = here b w s home site.text stands built.inside; within = cell_there s home Result built.has }, (k.2.0, k.2.1, k.2.2)))
      (emits_then w ⊤ _ (λ final site p q. Pushes final site 0 (i.Load (pos (level_of s home)) (pos (slot_of s final home Result))) p q) (λ final site p q. (u : ℕ) × ExprAt s final site 1 (syntax_of v) p u × At final i.AssignT at u q) c0 c1 c3 (emits_load b w 0 c0 c1 home place Result l.2 e1)
      (emits_then w _ ⊤ (λ z site. ExprAt s z site 1 (syntax_of v)) (λ final site p q. At final i.AssignT at p q) c1 c2 c3 h (emits_at w c2 c3 i.AssignT at (ec ∙ ap (with_instr c2 i.AssignT) el) (λ z. cc) refl))))

  pub one_unbuilt : (a c : DraftOf) (x : Side) (v : Expr) (r : Left) → FindsSide b w x.sign x.left.now r → r ≡ left.NoPlace → c ≡ given_up a → WritesOne b w a c (side_in x) v
  unfolding WritesOne
  one_unbuilt a c x v r f er ec = emits_nothing w a c _ _ (λ h. at_side b w x r left.NoPlace f er h.0) ec

  pub one_attribute : (c0 c1 c2 c3 : DraftOf) (x : Side) (v : Expr) (r : Left) → FindsSide b w x.sign x.left.now r → r ≡ left.Attribute → WritesPlace b w 0 c0 c1 0 x.left.now → Writes b w 1 c1 c2 v → c3 ≡ with_instr c2 i.Put 0 → WritesOne b w c0 c3 (side_in x) v
  unfolding WritesOne WritesPlace PutsPlace Writes Puts
  one_attribute c0 c1 c2 c3 x v r f er g h ec =
      let s = source_of b in
      let l = at_side b w x r left.Attribute f er in
      subst (λ z. Emits w c0 c3 (LeftBuilt s w.text z × IsBuilt s w.text (syntax_of v)) (λ final site p q. OneGoesAt s final site z (syntax_of v) p q)) (sym l)
      (emits_as w _ _ _ _ c0 c3 (λ k. (k.0, (k.1, tt))) (λ k. (k.0, k.1.0)) (λ final site p q stands _ k. (k.0, k.1, (k.2.0, k.2.1, record { line = 0; is = k.2.2 })))
      (emits_then w _ _ (λ final site p q. PlaceAt s final site 0 0 (syntax_of x.left.now) p q) (λ final site p q. (y : ℕ) × ExprAt s final site 1 (syntax_of v) p y × At final i.Put 0 y q) c0 c1 c3 g
      (emits_then w _ ⊤ (λ z site. ExprAt s z site 1 (syntax_of v)) (λ final site p q. At final i.Put 0 p q) c1 c2 c3 h (emits_at w c2 c3 i.Put 0 ec (λ z. cc) refl))))

  pub one_reference : (c0 c1 c2 c3 : DraftOf) (x : Side) (v : Expr) (line : ℕ) (r : Left) → FindsSide b w x.sign x.left.now r → r ≡ left.Reference → WritesReferencePlace b w 0 c0 c1 x.left.now → Writes b w 1 c1 c2 v → line ≡ line_at (source_of b) x.token.0 → c3 ≡ with_instr c2 i.Put line → WritesOne b w c0 c3 (side_in x) v
  unfolding WritesOne WritesReferencePlace Writes Puts
  one_reference c0 c1 c2 c3 x v line r f er g h el ec =
      let s = source_of b in
      let at = line_at s x.token.0 in
      let l = at_side b w x r left.Reference f er in
      subst (λ z. Emits w c0 c3 (LeftBuilt s w.text z × IsBuilt s w.text (syntax_of v)) (λ final site p q. OneGoesAt s final site z (syntax_of v) p q)) (sym l)
      (emits_as w _ _ _ _ c0 c3 (λ k. (k.0, (k.1, tt))) (λ k. (k.0, k.1.0)) (λ final site p q stands _ k. (k.0, k.1, (k.2.0, k.2.1, k.2.2)))
      (emits_then w _ _ (λ final site p q. ReferencePlaceAt s final site 0 (syntax_of x.left.now) p q) (λ final site p q. (y : ℕ) × ExprAt s final site 1 (syntax_of v) p y × At final i.Put at y q) c0 c1 c3 g
      (emits_then w _ ⊤ (λ z site. ExprAt s z site 1 (syntax_of v)) (λ final site p q. At final i.Put at p q) c1 c2 c3 h (emits_at w c2 c3 i.Put at (ec ∙ ap (with_instr c2 i.Put) el) (λ z. cc) refl))))

  -- ---- formal parameters by name

  pub one_named : (c0 c1 c2 c3 : DraftOf) (x : Side) (v : Expr) (d : DeclNo) (r : Left) → FindsSide b w x.sign x.left.now r → r ≡ left.Named d → WritesNamePlace b w 0 c0 c1 false x.token d → Writes b w 1 c1 c2 v → c3 ≡ with_instr c2 i.Put 0 → WritesOne b w c0 c3 (side_in x) v
  unfolding WritesOne WritesNamePlace WritesUse Writes Puts
  one_named c0 c1 c2 c3 x v d r f er g h ec =
      let s = source_of b in
      let l = at_side b w x r (left.Named d) f er in
      subst (λ z. Emits w c0 c3 (LeftBuilt s w.text z × IsBuilt s w.text (syntax_of v)) (λ final site p q. OneGoesAt s final site z (syntax_of v) p q)) (sym l)
      (emits_as w _ _ _ _ c0 c3 (λ k. (k.0, (k.1, tt))) (λ k. (k.0, k.1.0)) (λ final site p q stands _ k. (k.0, k.1, (k.2.0, k.2.1, record { line = 0; is = k.2.2 })))
      (emits_then w _ _ (λ final site p q. ByNameAt s final site 0 d NoMore (ForPlace false (line_at s x.token.0)) p q) (λ final site p q. (y : ℕ) × ExprAt s final site 1 (syntax_of v) p y × At final i.Put 0 y q) c0 c1 c3 g
      (emits_then w _ ⊤ (λ z site. ExprAt s z site 1 (syntax_of v)) (λ final site p q. At final i.Put 0 p q) c1 c2 c3 h (emits_at w c2 c3 i.Put 0 ec (λ z. cc) refl))))

  pub one_named_text : (c0 c1 c2 c3 c4 : DraftOf) (x : Side) (v : Expr) (d : DeclNo) (line : ℕ) (r : Left) → FindsSide b w x.sign x.left.now r → r ≡ left.NamedText d → WritesNamePlace b w 0 c0 c1 false x.token d → c2 ≡ with_instr c1 i.Fetch 0 → Writes b w 1 c2 c3 v → line ≡ line_at (source_of b) x.token.0 → c4 ≡ with_instr c3 i.AssignT line → WritesOne b w c0 c4 (side_in x) v
  unfolding WritesOne WritesNamePlace WritesUse Writes Puts
  one_named_text c0 c1 c2 c3 c4 x v d line r f er g ef h el ec =
      let s = source_of b in
      let at = line_at s x.token.0 in
      let l = at_side b w x r (left.NamedText d) f er in
      subst (λ z. Emits w c0 c4 (LeftBuilt s w.text z × IsBuilt s w.text (syntax_of v)) (λ final site p q. OneGoesAt s final site z (syntax_of v) p q)) (sym l)
      (emits_as w _ _ _ _ c0 c4 (λ k. (k.0, (tt, (k.1, tt)))) (λ k. (k.0, k.1.1.0)) (λ final site p q stands _ k. (k.0, k.2.0, k.1, record { line = 0; is = k.2.1 }, (k.2.2.0, k.2.2.1, k.2.2.2)))
      (emits_then w _ _ (λ final site p q. ByNameAt s final site 0 d NoMore (ForPlace false at) p q) (λ final site p q. (u : ℕ) × At final i.Fetch 0 p u × ((y : ℕ) × ExprAt s final site 1 (syntax_of v) u y × At final i.AssignT at y q)) c0 c1 c4 g
      (emits_then w ⊤ _ (λ final site p q. At final i.Fetch 0 p q) (λ final site p q. (y : ℕ) × ExprAt s final site 1 (syntax_of v) p y × At final i.AssignT at y q) c1 c2 c4 (emits_at w c1 c2 i.Fetch 0 ef (λ z. cc) refl)
      (emits_then w _ ⊤ (λ z site. ExprAt s z site 1 (syntax_of v)) (λ final site p q. At final i.AssignT at p q) c2 c3 c4 h (emits_at w c3 c4 i.AssignT at (ec ∙ ap (with_instr c3 i.AssignT) el) (λ z. cc) refl)))))

  pub one_named_reference : (c0 c1 c2 c3 c4 : DraftOf) (x : Side) (v : Expr) (d : DeclNo) (class line : ℕ) (r : Left) → FindsSide b w x.sign x.left.now r → r ≡ left.NamedReference d class → WritesNamePlace b w 0 c0 c1 false x.token d → Writes b w 1 c1 c2 v → WritesFit b w 1 c2 c3 x.token class → line ≡ line_at (source_of b) x.token.0 → c4 ≡ with_instr c3 i.Put line → WritesOne b w c0 c4 (side_in x) v
  unfolding WritesOne WritesNamePlace WritesUse WritesFit Writes Puts
  one_named_reference c0 c1 c2 c3 c4 x v d class line r f er g h k el ec =
      let s = source_of b in
      let at = line_at s x.token.0 in
      let l = at_side b w x r (left.NamedReference d class) f er in
      subst (λ z. Emits w c0 c4 (LeftBuilt s w.text z × IsBuilt s w.text (syntax_of v)) (λ final site p q. OneGoesAt s final site z (syntax_of v) p q)) (sym l)
      (emits_as w _ _ _ _ c0 c4 (λ k. (k.0, (k.1, (tt, tt)))) (λ k. (k.0, k.1.0)) (λ final site p q stands _ k. (k.0, k.1, (k.2.0, k.2.1, (k.2.2.0, k.2.2.1, k.2.2.2))))
      (emits_then w _ _ (λ final site p q. ByNameAt s final site 0 d NoMore (ForPlace false at) p q) (λ final site p q. (y : ℕ) × ExprAt s final site 1 (syntax_of v) p y × ((u : ℕ) × HeldAt s final site 1 at (class_number s final class) y u × At final i.Put at u q)) c0 c1 c4 g
      (emits_then w _ _ (λ z site. ExprAt s z site 1 (syntax_of v)) (λ final site p q. (u : ℕ) × HeldAt s final site 1 at (class_number s final class) p u × At final i.Put at u q) c1 c2 c4 h
      (emits_then w ⊤ ⊤ (λ final site p q. HeldAt s final site 1 at (class_number s final class) p q) (λ final site p q. At final i.Put at p q) c2 c3 c4 k (emits_at w c3 c4 i.Put at (ec ∙ ap (with_instr c3 i.Put) el) (λ z. cc) refl)))))

pub ruleset ones = (one_cell, one_element, one_text, one_result, one_attribute, one_reference, one_named, one_named_text, one_named_reference, one_unbuilt)
