-- Where references lie that are left sides.
use Rattle.std.proofs.Common.{◌≡◌, ◌+◌, ℕ, true, false, pos, [], Option, Some, None, refl, sym, ap, ◌∙◌, subst, length}
use Rattle.std.specs.Prelude.{⊤}
use Rattle.sim_scope.specs.declared.bound.Bound.{Bound}
use Rattle.sim_scope.specs.declared.types.SimType.{SimType}
use Rattle.sim_scope.specs.Source.{level_of, source_of}
use Rattle.sim_tree.specs.declared.expr.Expr.{Expr}
use Rattle.sim_tree.specs.declared.expr.Identifier.{Identifier}
use Rattle.sim_tree.specs.Syntax.{Expression, Named, NoMore}
use Rattle.sim_tree.specs.SyntaxOf.{syntax_of}
use Rattle.sim_code.specs.declared.instr.Instr.{Instr}
use Rattle.sim_code.specs.declared.instr.Instr.TheVariants as i
use Rattle.sim_code.specs.Code.{CodeOf}
use Rattle.sim_meaning.specs.Closing.{left_type, result_meant}
use Rattle.sim_meaning.specs.Levels.{qualification}
use Rattle.sim_meaning.specs.Pending.{Result}
use Rattle.codegen_expr.specs.declared.spot.Spot.{Spot}
use Rattle.codegen_expr.specs.Built.{ClassBuilt, PlaceBuilt, PlaceOrResultBuilt, ReferenceBuilt, is_around, is_there, slot_in}
use Rattle.codegen_expr.specs.CodeExpr.{PlaceAt, PlaceOrResultAt, QualifiedPlaceAt, ReferencePlaceAt}
use Rattle.codegen_expr.specs.Drafts.{Becomes, DraftOf, Emits, class_of, given_up, planned_start, with_push}
use Rattle.codegen_expr.specs.Emit.{PutsPlace, WritesNamedPlace, WritesPlace}
use Rattle.codegen_expr.specs.Sites.{Pushes, Site, block_number, class_number, slot_of}
use Rattle.codegen_expr.proofs.Pieces.{emits_as, emits_classed, emits_nothing, emits_push}
use Rattle.codegen_expr.proofs.Slots.{slot_found}
use Rattle.codegen.specs.EmitLeft.{FindsOwnNamed, FindsType, WritesNamedReference, WritesReferencePlace, WritesResultPlace}
use Rattle.codegen.proofs.Cells.{cell_there, own_cell}
use Rattle.codegen.proofs.Sides.{here}

module _ (b : Bound) (w : Spot) where
  pub result_nowhere : (n class k : ℕ) (a c : DraftOf) (o : Option ℕ) → o ≡ slot_in (source_of b) k Result → o ≡ None → c ≡ given_up a → WritesResultPlace b w n a c class k
  unfolding WritesResultPlace
  result_nowhere n class k a c o eo none ec = emits_nothing w a c _ _ (λ h. let x = h.has in let u : is_there (slot_in (source_of b) k Result) ≡ false = ap is_there (sym eo ∙ none) in cc) ec

  pub result_outside : (n class k : ℕ) (a c : DraftOf) → is_around b.scopes (length b.scopes.blocks) w.text k ≡ false → c ≡ given_up a → WritesResultPlace b w n a c class k
  unfolding WritesResultPlace source_of
  result_outside n class k a c out ec = emits_nothing w a c _ _ (λ h. let t = h.inside.found in cc) ec

  pub result_lies : (n class k level place slot : ℕ) (a c : DraftOf) (o : Option ℕ) (x : Instr) → o ≡ slot_in (source_of b) k Result → o ≡ Some place → is_around b.scopes (length b.scopes.blocks) w.text k ≡ true → slot ≡ planned_start (source_of b) a.classes k + place → level ≡ level_of (source_of b) k → x ≡ i.Addr (pos level) (pos slot) (pos class) → c ≡ with_push a n x 0 → WritesResultPlace b w n a c class k
  unfolding WritesResultPlace
  result_lies n class k level place slot a c o x eo some around es el ex ec =
      let s = source_of b in
      let r = own_cell b w k place o eo some around in
      emits_as w ⊤ _ _ _ a c (λ h. tt) (λ h. r.0)
      (λ final site p q stands _ g. record {
        address = g;
        inside = here b w s k site.text stands r.0.inside;
        within = cell_there s k Result r.0.has;
      })
      (emits_classed w ⊤ (λ final site p q. Pushes final site n (i.Addr (pos level) (pos slot) (pos class)) p q) (λ final site p q. Pushes final site n (i.Addr (pos (level_of s k)) (pos (slot_of s final k Result)) (pos class)) p q) a c
      (λ final site p q known g. subst (λ z. Pushes final site n z p q) (ap (λ z. i.Addr (pos z) (pos slot) (pos class)) el ∙ ap (λ z. i.Addr (pos (level_of s k)) (pos z) (pos class)) (slot_found s final a.classes k Result place slot known r.1 es)) g)
      (emits_push w a c n (i.Addr (pos level) (pos slot) (pos class)) 0 (ec ∙ ap (λ z. with_push a n z 0) ex) (λ z. cc) refl))

  -- ---- with its class

  -- the number of a class in the final code
  pub numbered : (final : CodeOf) (site : Site) (c : DraftOf) (k m number : ℕ) → Becomes w c final site → m ≡ block_number (source_of b) k → number ≡ class_of c.classes m → number ≡ class_number (source_of b) final k
  unfolding class_number
  numbered final site c k m number g em en = en ∙ ap (class_of c.classes) em ∙ sym (ap (λ z. z.class) (g.classed (block_number (source_of b) k)))

  with_class : (n : ℕ) (a c : DraftOf) (e : Expression) (k m number : ℕ) (own : Option ℕ) → m ≡ block_number (source_of b) k → number ≡ class_of a.classes m
      → Emits w a c (PlaceOrResultBuilt (source_of b) w.text own (PlaceBuilt (source_of b) w.text e)) (λ final site p q. PlaceOrResultAt (source_of b) final site n number own (PlaceAt (source_of b) final site n number e) p q)
      → Emits w a c (⊤ × PlaceOrResultBuilt (source_of b) w.text own (PlaceBuilt (source_of b) w.text e)) (λ final site p q. PlaceOrResultAt (source_of b) final site n (class_number (source_of b) final k) own (PlaceAt (source_of b) final site n (class_number (source_of b) final k) e) p q)
  with_class n a c e k m number own em en f =
      let s = source_of b in
      record {
        rest = f.rest;
        front = f.front;
        roomier = f.roomier;
        larger = f.larger;
        classed = f.classed;
        thunked = f.thunked;
        listed = f.listed;
        built = λ h. f.built h.1;
        before = f.before;
        only = λ v. (tt, f.only v);
        fits = f.fits;
        at = λ v final site g. subst (λ z. PlaceOrResultAt s final site n z own (PlaceAt s final site n z e) (length a.instrs) (length c.instrs)) (numbered final site c k m number g em (en ∙ ap (λ z. class_of z m) (sym f.classed))) (f.at v final site g);
      }

  -- the class of a left side, by its type
  lies_as : (n : ℕ) (a c : DraftOf) (e : Expression) (k : ℕ) → qualification (source_of b) (left_type (source_of b) e) ≡ Some k
      → Emits w a c (⊤ × PlaceOrResultBuilt (source_of b) w.text (result_meant (source_of b) e) (PlaceBuilt (source_of b) w.text e)) (λ final site p q. PlaceOrResultAt (source_of b) final site n (class_number (source_of b) final k) (result_meant (source_of b) e) (PlaceAt (source_of b) final site n (class_number (source_of b) final k) e) p q)
      → Emits w a c (ReferenceBuilt (source_of b) w.text e) (λ final site p q. ReferencePlaceAt (source_of b) final site n e p q)
  lies_as n a c e k is f =
      let s = source_of b in
      subst (λ z. Emits w a c (ClassBuilt z × PlaceOrResultBuilt s w.text (result_meant s e) (PlaceBuilt s w.text e)) (λ final site p q. QualifiedPlaceAt s final site n z e p q)) (sym is) f

  none_as : (n : ℕ) (a c : DraftOf) (e : Expression) → qualification (source_of b) (left_type (source_of b) e) ≡ None → c ≡ given_up a → Emits w a c (ReferenceBuilt (source_of b) w.text e) (λ final site p q. ReferencePlaceAt (source_of b) final site n e p q)
  none_as n a c e is ec = emits_nothing w a c _ _ (λ h. subst ClassBuilt is h.0) ec

  pub reference_none : (n : ℕ) (a c : DraftOf) (x : Expr) (u : Option SimType) (o : Option ℕ) → u ≡ left_type (source_of b) (syntax_of x) → o ≡ qualification (source_of b) u → o ≡ None → c ≡ given_up a → WritesReferencePlace b w n a c x
  unfolding WritesReferencePlace
  reference_none n a c x u o eu eo none ec = none_as n a c (syntax_of x) (sym (ap (qualification (source_of b)) eu) ∙ sym eo ∙ none) ec

  pub reference_result : (n : ℕ) (a c : DraftOf) (x : Expr) (k m number own : ℕ) (u : Option SimType) (o p : Option ℕ) → u ≡ left_type (source_of b) (syntax_of x) → o ≡ qualification (source_of b) u → o ≡ Some k → m ≡ block_number (source_of b) k → number ≡ class_of a.classes m
      → p ≡ result_meant (source_of b) (syntax_of x) → p ≡ Some own → WritesResultPlace b w n a c number own → WritesReferencePlace b w n a c x
  unfolding WritesReferencePlace WritesResultPlace
  reference_result n a c x k m number own u o p eu eo some em en ep is f =
      let s = source_of b in
      let e = syntax_of x in
      lies_as n a c e k (sym (ap (qualification s) eu) ∙ sym eo ∙ some)
      (subst (λ z. Emits w a c (⊤ × PlaceOrResultBuilt s w.text z (PlaceBuilt s w.text e)) (λ final site p q. PlaceOrResultAt s final site n (class_number s final k) z (PlaceAt s final site n (class_number s final k) e) p q)) (sym is ∙ ep)
      (with_class n a c e k m number (Some own) em en f))

  pub reference_place : (n : ℕ) (a c : DraftOf) (x : Expr) (k m number : ℕ) (u : Option SimType) (o p : Option ℕ) → u ≡ left_type (source_of b) (syntax_of x) → o ≡ qualification (source_of b) u → o ≡ Some k → m ≡ block_number (source_of b) k → number ≡ class_of a.classes m
      → p ≡ result_meant (source_of b) (syntax_of x) → p ≡ None → WritesPlace b w n a c number x → WritesReferencePlace b w n a c x
  unfolding WritesReferencePlace WritesPlace PutsPlace
  reference_place n a c x k m number u o p eu eo some em en ep is f =
      let s = source_of b in
      let e = syntax_of x in
      lies_as n a c e k (sym (ap (qualification s) eu) ∙ sym eo ∙ some)
      (subst (λ z. Emits w a c (⊤ × PlaceOrResultBuilt s w.text z (PlaceBuilt s w.text e)) (λ final site p q. PlaceOrResultAt s final site n (class_number s final k) z (PlaceAt s final site n (class_number s final k) e) p q)) (sym is ∙ ep)
      (with_class n a c e k m number None em en f))

  -- ---- the same of an identifier alone

  named_own : (x : Identifier) (p : Option ℕ) → FindsOwnNamed b x 0 p → p ≡ result_meant (source_of b) (Named x NoMore)
  unfolding FindsOwnNamed
  named_own x p f = f

  named_typed : (x : Identifier) (u : Option SimType) → FindsType b x 0 u → u ≡ left_type (source_of b) (Named x NoMore)
  unfolding FindsType
  named_typed x u f = f

  pub named_none : (n : ℕ) (a c : DraftOf) (x : Identifier) (u : Option SimType) (o : Option ℕ) → FindsType b x 0 u → o ≡ qualification (source_of b) u → o ≡ None → c ≡ given_up a → WritesNamedReference b w n a c x
  unfolding WritesNamedReference
  named_none n a c x u o eu eo none ec = none_as n a c (Named x NoMore) (sym (ap (qualification (source_of b)) (named_typed x u eu)) ∙ sym eo ∙ none) ec

  pub named_result : (n : ℕ) (a c : DraftOf) (x : Identifier) (k m number own : ℕ) (u : Option SimType) (o p : Option ℕ) → FindsType b x 0 u → o ≡ qualification (source_of b) u → o ≡ Some k → m ≡ block_number (source_of b) k → number ≡ class_of a.classes m
      → FindsOwnNamed b x 0 p → p ≡ Some own → WritesResultPlace b w n a c number own → WritesNamedReference b w n a c x
  unfolding WritesNamedReference WritesResultPlace
  named_result n a c x k m number own u o p eu eo some em en ep is f =
      let s = source_of b in
      let e = Named x NoMore in
      lies_as n a c e k (sym (ap (qualification s) (named_typed x u eu)) ∙ sym eo ∙ some)
      (subst (λ z. Emits w a c (⊤ × PlaceOrResultBuilt s w.text z (PlaceBuilt s w.text e)) (λ final site p q. PlaceOrResultAt s final site n (class_number s final k) z (PlaceAt s final site n (class_number s final k) e) p q)) (sym is ∙ named_own x p ep)
      (with_class n a c e k m number (Some own) em en f))

  pub named_place : (n : ℕ) (a c : DraftOf) (x : Identifier) (k m number : ℕ) (u : Option SimType) (o p : Option ℕ) → FindsType b x 0 u → o ≡ qualification (source_of b) u → o ≡ Some k → m ≡ block_number (source_of b) k → number ≡ class_of a.classes m
      → FindsOwnNamed b x 0 p → p ≡ None → WritesNamedPlace b w n a c number x [] → WritesNamedReference b w n a c x
  unfolding WritesNamedReference WritesNamedPlace PutsPlace
  named_place n a c x k m number u o p eu eo some em en ep is f =
      let s = source_of b in
      let e = Named x NoMore in
      lies_as n a c e k (sym (ap (qualification s) (named_typed x u eu)) ∙ sym eo ∙ some)
      (subst (λ z. Emits w a c (⊤ × PlaceOrResultBuilt s w.text z (PlaceBuilt s w.text e)) (λ final site p q. PlaceOrResultAt s final site n (class_number s final k) z (PlaceAt s final site n (class_number s final k) e) p q)) (sym is ∙ named_own x p ep)
      (with_class n a c e k m number None em en f))

pub ruleset lying = (result_nowhere, result_outside, result_lies, reference_none, reference_result, reference_place, named_none, named_result, named_place)
