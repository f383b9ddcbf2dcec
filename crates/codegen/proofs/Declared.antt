-- Arrays, one declaration behind another.
use Rattle.std.proofs.Common.{◌≡◌, ◌≢◌, ◌<◌, ℕ, ℤ, pos, suc, Bool, true, false, List, [], ◌∷◌, length, map, drop, Option, Some, None, refl, sym, ap, ◌∙◌, subst, arith}
use Rattle.std.specs.Prelude.{⊤, slice_index_or}
use Rattle.std.specs.declared.alloc.Global.{Global}
use Rattle.std.specs.declared.vec.Vec.{Vec}
use Rattle.sim_base.specs.declared.numbering.DeclNo.{DeclNo}
use Rattle.sim_base.specs.declared.numbering.TokenNo.{TokenNo}
use Rattle.sim_scope.specs.declared.bound.Bound.{Bound}
use Rattle.sim_scope.specs.declared.types.Entry.{Entry}
use Rattle.sim_scope.specs.Scopes.{entry_of}
use Rattle.sim_scope.specs.Source.{Source, block_of, level_of, line_at, source_of}
use Rattle.sim_tree.specs.declared.expr.Identifier.{Identifier}
use Rattle.sim_tree.specs.declared.stmt.ArraySegment.{ArraySegment}
use Rattle.sim_tree.specs.declared.stmt.Bounds.{Bounds}
use Rattle.sim_tree.specs.declared.stmt.Class.{Class}
use Rattle.sim_tree.specs.declared.stmt.Decl.{Decl}
use Rattle.sim_tree.specs.declared.stmt.Decl.TheVariants as d
use Rattle.sim_tree.specs.declared.stmt.Procedure.{Procedure}
use Rattle.sim_tree.specs.declared.stmt.TypeName.{TypeName}
use Rattle.sim_tree.specs.declared.stmt.Variable.{Variable}
use Rattle.sim_tree.specs.Syntax.{BoundPair, Declaration, With, declarations}
use Rattle.sim_tree.specs.SyntaxOf.{syntax_of}
use Rattle.sim_tree.specs.SyntaxOfProgram.{bound_pair_syntax, declaration_syntax, segment_syntax}
use Rattle.sim_tree.proofs.ProgramSyntaxLemmas as v
use Rattle.sim_code.specs.declared.instr.Instr.{Instr}
use Rattle.sim_code.specs.declared.instr.Instr.TheVariants as i
use Rattle.sim_code.specs.Code.{CodeOf}
use Rattle.sim_meaning.specs.Pending.{Declared}
use Rattle.sim_meaning.specs.Texts.{declared_at, kind_named}
use Rattle.codegen_expr.specs.declared.spot.Spot.{Spot}
use Rattle.codegen_expr.specs.Built.{IsBuilt, is_there, slot_in}
use Rattle.codegen_expr.specs.CodeExpr.{ExprAt}
use Rattle.codegen_expr.specs.Drafts.{DraftOf, Emits, given_up, with_instr, with_push}
use Rattle.codegen_expr.specs.Emit.{Puts, Writes}
use Rattle.codegen_expr.specs.Sites.{At, HasCell, Is, Pushes, Site, Varies, is_constant, slot_of}
use Rattle.codegen_expr.proofs.Pieces.{emits_as, emits_at, emits_none, emits_nothing, emits_push_at, emits_then}
use Rattle.codegen.specs.BuiltProgram.{ArraysBuilt, BoundsBuilt, KeptBuilt, MadeBuilt, NamesBuilt, SegmentsBuilt}
use Rattle.codegen.specs.CodeArrays.{ArraysAt, BoundsAt, FurtherAt, KeepsArray, LoadsArray, MakesAt, SegmentsAt, element_number}
use Rattle.codegen.specs.EmitArrays.{FindsKept, FurtherBuilt, KeptIs, OwesArrays, OwesBounds, OwesFurther, OwesSegments, PutsArrays, WritesArrays, WritesBounds, WritesFurther, WritesKeep, WritesLoad, WritesMade, WritesSegment, WritesSegments}
use Rattle.codegen.specs.EmitLeft.{LoadsCell, StoresCell}
use Rattle.codegen.proofs.Cells.{cell_there, emits_load, emits_store}

module _ (b : Bound) (w : Spot) where
  -- ---- one array

  pub kept_nowhere : (t : TokenNo) (o : Option DeclNo) → o ≡ declared_at (source_of b) t.0 → o ≡ None → FindsKept b w t None
  unfolding FindsKept
  kept_nowhere t o eo none = λ h. subst (KeptBuilt (source_of b) w.text) (sym eo ∙ none) h

  pub kept_elsewhere : (t : TokenNo) (o : Option DeclNo) (x : DeclNo) (m : ℕ) → o ≡ declared_at (source_of b) t.0 → o ≡ Some x → m ≡ block_of (source_of b) x → m ≢ w.text → FindsKept b w t None
  unfolding FindsKept
  kept_elsewhere t o x m eo some em ne = λ h. (let k : KeptBuilt (source_of b) w.text (Some x) = subst (KeptBuilt (source_of b) w.text) (sym eo ∙ some) h in ne (em ∙ k.0))

  pub kept_constant : (t : TokenNo) (o : Option DeclNo) (x : DeclNo) (y : Option Entry) (z : Bool) → o ≡ declared_at (source_of b) t.0 → o ≡ Some x → y ≡ entry_of b.scopes x → z ≡ is_constant y → z ≡ true → FindsKept b w t None
  unfolding FindsKept source_of
  kept_constant t o x y z eo some ey ez yes' = λ h.
      let k : KeptBuilt (source_of b) w.text (Some x) = subst (KeptBuilt (source_of b) w.text) (sym eo ∙ some) h in
      let e : true ≡ false = sym yes' ∙ ez ∙ ap is_constant ey ∙ k.1 in cc

  pub kept_found : (t : TokenNo) (o : Option DeclNo) (x : DeclNo) (m : ℕ) (y : Option Entry) (z : Bool) (r : Option ℕ) → o ≡ declared_at (source_of b) t.0 → o ≡ Some x → m ≡ block_of (source_of b) x → m ≡ w.text → y ≡ entry_of b.scopes x → z ≡ is_constant y → z ≡ false → r ≡ slot_in (source_of b) (block_of (source_of b) x) (Declared x.0) → FindsKept b w t r
  unfolding FindsKept source_of
  kept_found t o x m y z None eo some em here ey ez no' er = λ h.
      let s = source_of b in
      let k : KeptBuilt s w.text (Some x) = subst (KeptBuilt s w.text) (sym eo ∙ some) h in
      let none : is_there (slot_in s w.text (Declared x.0)) ≡ false = ap is_there (ap (λ z. slot_in s z (Declared x.0)) (sym (sym em ∙ here)) ∙ sym er) in
      let e : true ≡ false = sym k.2 ∙ none in cc
  kept_found t o x m y z (Some n) eo some em here ey ez no' er = (x, sym eo ∙ some, sym em ∙ here, sym (ap is_constant ey) ∙ sym ez ∙ no', ap (λ z. slot_in (source_of b) z (Declared x.0)) (sym (sym em ∙ here)) ∙ sym er)

  -- what is kept, by the declaration
  kept_as : (a c : DraftOf) (t : TokenNo) (x : DeclNo) (At' : Option DeclNo → CodeOf → Site → ℕ → ℕ → Type 0) → declared_at (source_of b) t.0 ≡ Some x → Emits w a c (KeptBuilt (source_of b) w.text (Some x)) (At' (Some x)) → Emits w a c (KeptBuilt (source_of b) w.text (declared_at (source_of b) t.0)) (At' (declared_at (source_of b) t.0))
  kept_as a c t x At' e f = subst (λ z. Emits w a c (KeptBuilt (source_of b) w.text z) (At' z)) (sym e) f

  pub write_keep : (a c : DraftOf) (t : TokenNo) (r : Option ℕ) (place : ℕ) → FindsKept b w t r → r ≡ Some place → StoresCell b a c w.text place → WritesKeep b w a c t
  unfolding FindsKept WritesKeep
  write_keep a c t r place f er ec =
      let s = source_of b in
      let k : KeptIs s w.text t.0 (Some place) = subst (KeptIs s w.text t.0) er f in
      let key = Declared k.0.0 in
      let there : is_there (slot_in s w.text key) ≡ true = ap is_there k.4 in
      kept_as a c t k.0 (λ o final site p q. KeepsArray s final site o p q) k.1
      (emits_as w ⊤ _ _ _ a c (λ h. tt) (λ h. (k.2, k.3, there)) (λ final site p q stands _ r. subst (λ z. HasCell s z key × Varies s k.0 × Is final (i.Store (pos (level_of s z)) (pos (slot_of s final z key))) p q) (sym stands) (cell_there s w.text key there, k.3, record { line = 0; is = r }))
      (emits_store b w a c w.text place key k.4 ec))

  pub write_no_keep : (a c : DraftOf) (t : TokenNo) (r : Option ℕ) → FindsKept b w t r → r ≡ None → c ≡ given_up a → WritesKeep b w a c t
  unfolding FindsKept WritesKeep
  write_no_keep a c t r f er ec = emits_nothing w a c _ _ (subst (KeptIs (source_of b) w.text t.0) er f) ec

  pub write_load : (a c : DraftOf) (t : TokenNo) (r : Option ℕ) (place : ℕ) → FindsKept b w t r → r ≡ Some place → LoadsCell b 0 a c w.text place → WritesLoad b w a c t
  unfolding FindsKept WritesLoad
  write_load a c t r place f er ec =
      let s = source_of b in
      let k : KeptIs s w.text t.0 (Some place) = subst (KeptIs s w.text t.0) er f in
      let key = Declared k.0.0 in
      let there : is_there (slot_in s w.text key) ≡ true = ap is_there k.4 in
      kept_as a c t k.0 (λ o final site p q. LoadsArray s final site o p q) k.1
      (emits_as w ⊤ _ _ _ a c (λ h. tt) (λ h. (k.2, k.3, there)) (λ final site p q stands _ r. subst (λ z. HasCell s z key × Pushes final site 0 (i.Load (pos (level_of s z)) (pos (slot_of s final z key))) p q) (sym stands) (cell_there s w.text key there, r))
      (emits_load b w 0 a c w.text place key k.4 ec))

  pub write_no_load : (a c : DraftOf) (t : TokenNo) (r : Option ℕ) → FindsKept b w t r → r ≡ None → c ≡ given_up a → WritesLoad b w a c t
  unfolding FindsKept WritesLoad
  write_no_load a c t r f er ec = emits_nothing w a c _ _ (subst (KeptIs (source_of b) w.text t.0) er f) ec

  -- ---- further arrays

  pub further_all : (a : DraftOf) (t : TokenNo) (xs : List Identifier) → OwesFurther b w a t xs a xs
  unfolding OwesFurther
  further_all a t xs end f = f

  pub further_next : (a c c1 c2 c3 : DraftOf) (t : TokenNo) (xs r r' : List Identifier) (x : Identifier) (line : ℕ) → OwesFurther b w a t xs c r → r ≡ x ∷ r' → WritesLoad b w c c1 t → line ≡ line_at (source_of b) x.token.0 → c2 ≡ with_instr c1 i.CopyArr line → WritesKeep b w c2 c3 x.token → OwesFurther b w a t xs c3 r'
  unfolding OwesFurther WritesFurther WritesLoad WritesKeep
  further_next a c c1 c2 c3 t xs r r' x line f is load el ec keep end rest =
      let s = source_of b in
      let first = declared_at s t.0 in
      let here = declared_at s x.token.0 in
      f end (subst (λ z. Emits w c end (FurtherBuilt s w.text first z) (λ final site p q. FurtherAt s final site first z p q)) (sym is)
      (emits_as w _ _ _ _ c end (λ h. (h.0, (tt, (h.1, h.2)))) (λ h. (h.0, h.1.1.0, h.1.1.1)) (λ final site p q _ _ k. (k.0, k.2.0, k.2.2.0, k.1, k.2.1, k.2.2.1, k.2.2.2))
      (emits_then w _ _ (λ final site p q. LoadsArray s final site first p q) (λ final site p q. (y : ℕ) × At final i.CopyArr (line_at s x.token.0) p y × ((z : ℕ) × KeepsArray s final site here y z × FurtherAt s final site first r' z q)) c c1 end load
      (emits_then w ⊤ _ (λ final site p q. At final i.CopyArr (line_at s x.token.0) p q) (λ final site p q. (z : ℕ) × KeepsArray s final site here p z × FurtherAt s final site first r' z q) c1 c2 end (emits_at w c1 c2 i.CopyArr (line_at s x.token.0) (ec ∙ ap (λ z. with_instr c1 i.CopyArr z) el) (λ z. cc) refl)
      (emits_then w _ _ (λ final site p q. KeepsArray s final site here p q) (λ final site p q. FurtherAt s final site first r' p q) c2 c3 end keep rest)))))

  pub further_none : (a c : DraftOf) (t : TokenNo) (xs r : List Identifier) → OwesFurther b w a t xs c r → r ≡ [] → WritesFurther b w a c t xs
  unfolding OwesFurther WritesFurther
  further_none a c t xs r f is = f c (subst (λ z. Emits w c c (FurtherBuilt (source_of b) w.text (declared_at (source_of b) t.0) z) (λ final site p q. FurtherAt (source_of b) final site (declared_at (source_of b) t.0) z p q)) (sym is) (emits_none w c))

  -- ---- bounds

  pub bounds_all : (a : DraftOf) (xs : List Bounds) → OwesBounds b w a xs 0 a xs
  unfolding OwesBounds
  bounds_all a xs end f = f

  pub bounds_next : (a c c1 c2 : DraftOf) (xs r r' : List Bounds) (x : Bounds) (m k n : ℕ) → OwesBounds b w a xs m c r → r ≡ x ∷ r' → Writes b w m c c1 x.lower → k ≡ suc m → Writes b w k c1 c2 x.upper → n ≡ suc k → OwesBounds b w a xs n c2 r'
  unfolding OwesBounds WritesBounds Writes Puts
  bounds_next a c c1 c2 xs r r' x m k n f is lower ek upper en end rest =
      let s = source_of b in
      let ys = map bound_pair_syntax r' in
      let upper' = subst (λ z. Emits w c1 c2 (IsBuilt s w.text (syntax_of x.upper)) (λ final site p q. ExprAt s final site z (syntax_of x.upper) p q)) ek upper in
      let rest' = subst (λ z. Emits w c2 end (BoundsBuilt s w.text ys) (λ final site p q. BoundsAt s final site z ys (λ p q. q ≡ p) p q)) (en ∙ ap suc ek) rest in
      f end (subst (λ z. Emits w c end (BoundsBuilt s w.text (map bound_pair_syntax z)) (λ final site p q. BoundsAt s final site m (map bound_pair_syntax z) (λ p q. q ≡ p) p q)) (sym is)
      (emits_as w _ _ _ _ c end (λ h. (h.0, (h.1, h.2))) (λ h. (h.0, h.1.0, h.1.1)) (λ final site p q _ _ g. (g.0, g.2.0, g.1, g.2.1, g.2.2))
      (emits_then w _ _ (λ final site p q. ExprAt s final site m (syntax_of x.lower) p q) (λ final site p q. (y : ℕ) × ExprAt s final site (suc m) (syntax_of x.upper) p y × BoundsAt s final site (suc (suc m)) ys (λ p q. q ≡ p) y q) c c1 end lower
      (emits_then w _ _ (λ final site p q. ExprAt s final site (suc m) (syntax_of x.upper) p q) (λ final site p q. BoundsAt s final site (suc (suc m)) ys (λ p q. q ≡ p) p q) c1 c2 end upper' rest'))))

  pub bounds_none : (a c : DraftOf) (xs r : List Bounds) (m : ℕ) → OwesBounds b w a xs m c r → r ≡ [] → WritesBounds b w 0 a c xs
  unfolding OwesBounds WritesBounds
  bounds_none a c xs r m f is = f c (subst (λ z. Emits w c c (BoundsBuilt (source_of b) w.text (map bound_pair_syntax z)) (λ final site p q. BoundsAt (source_of b) final site m (map bound_pair_syntax z) (λ p q. q ≡ p) p q)) (sym is) (emits_none w c))

  -- ---- segments

  names_of : (first : Option DeclNo) (xs : List Identifier) → KeptBuilt (source_of b) w.text first → NamesBuilt (source_of b) w.text xs → FurtherBuilt (source_of b) w.text first xs
  names_of first [] h g = tt
  names_of first (x ∷ xs) h g = (h, g.0, names_of first xs h g.1)

  further_of : (first : Option DeclNo) (xs : List Identifier) → FurtherBuilt (source_of b) w.text first xs → NamesBuilt (source_of b) w.text xs
  further_of first [] h = tt
  further_of first (x ∷ xs) h = (h.1, further_of first xs h.2)

  pub write_none_made : (a c : DraftOf) (type : TypeName) (n : ℕ) (xs : List Identifier) → length xs ≡ 0 → c ≡ given_up a → WritesMade b w a c type n xs
  unfolding WritesMade
  write_none_made a c type n [] none ec = emits_nothing w a c _ _ (λ h. h) ec
  write_none_made a c type n (x ∷ xs) none ec = absurd (omega (arith, none))

  pub write_flat_made : (a c : DraftOf) (type : TypeName) (n : ℕ) (xs : List Identifier) → n ≡ 0 → c ≡ given_up a → WritesMade b w a c type n xs
  unfolding WritesMade
  write_flat_made a c type n [] none ec = emits_nothing w a c _ _ (λ h. h) ec
  write_flat_made a c type n (x ∷ xs) none ec = emits_nothing w a c _ _ (λ h. absurd (let some = h.0 in omega (arith, some, none))) ec

  pub write_made : (a c1 c2 c3 : DraftOf) (type : TypeName) (n line : ℕ) (xs : List Identifier) (x : Identifier) (element : ℤ) (k : Instr) → length xs ≢ 0 → n ≢ 0 → x ≡ slice_index_or xs 0 x → element ≡ element_number (kind_named type) → k ≡ i.Array element (pos n) → line ≡ line_at (source_of b) x.token.0 → c1 ≡ with_push a 0 k line
      → WritesKeep b w c1 c2 x.token → WritesFurther b w c2 c3 x.token (drop 1 xs) → WritesMade b w a c3 type n xs
  unfolding WritesMade WritesKeep WritesFurther
  write_made a c1 c2 c3 type n line [] x element k ne some at ee ek el ec keep further = absurd (ne refl)
  write_made a c1 c2 c3 type n line (y ∷ ys) x element k ne some at ee ek el ec keep further =
      let s = source_of b in
      let here = declared_at s x.token.0 in
      let one : 0 < n = omega (arith, some) in
      let put : k ≡ i.Array (element_number (kind_named type)) (pos n) = ek ∙ ap (λ z. i.Array z (pos n)) ee in
      subst (λ z. Emits w a c3 (MadeBuilt s w.text n (z ∷ ys)) (λ final site p q. MakesAt s final site (kind_named type) n (z ∷ ys) p q)) at
      (emits_as w _ _ _ _ a c3 (λ h. (tt, (h.1.0, names_of here ys h.1.0 h.1.1))) (λ h. (one, (h.1.0, further_of here ys h.1.1))) (λ final site p q _ _ g. (g.0, g.2.0, one, g.1.1, g.1.0, g.2.1, g.2.2))
      (emits_then w ⊤ _ (λ final site p q. At final (i.Array (element_number (kind_named type)) (pos n)) (line_at s x.token.0) p q × (0 < site.room)) (λ final site p q. (z : ℕ) × KeepsArray s final site here p z × FurtherAt s final site here ys z q) a c1 c3
      (emits_push_at w a c1 0 (i.Array (element_number (kind_named type)) (pos n)) (line_at s x.token.0) (ec ∙ ap (λ z. with_push a 0 z line) put ∙ ap (λ z. with_push a 0 (i.Array (element_number (kind_named type)) (pos n)) z) el) (λ z. cc) refl)
      (emits_then w _ _ (λ final site p q. KeepsArray s final site here p q) (λ final site p q. FurtherAt s final site here ys p q) c1 c2 c3 keep further)))

  bounds_end : (s : Source) (code : CodeOf) (site : Site) (End : ℕ → ℕ → Type 0) (bs : List BoundPair) (n p x q : ℕ) → BoundsAt s code site n bs (λ p q. q ≡ p) p x → End x q → BoundsAt s code site n bs End p q
  bounds_end s code site End [] n p x q e f = subst (λ z. End z q) e f
  bounds_end s code site End (y ∷ ys) n p x q e f = (e.0, e.1, e.2, e.3, bounds_end s code site End ys (suc (suc n)) e.1 x q e.4 f)

  mapped : {A B : Type 0} (f : A → B) (xs : List A) → length (map f xs) ≡ length xs
  mapped f [] = refl
  mapped f (x ∷ xs) = ap suc (mapped f xs)

  pub write_segment : (a c e : DraftOf) (type : TypeName) (x : ArraySegment) (bs : List Bounds) (xs : List Identifier) (n : ℕ) → bs ≡ x.bounds.items → WritesBounds b w 0 a c bs → n ≡ length x.bounds.items → xs ≡ x.names.items → WritesMade b w c e type n xs → WritesSegment b w a e type x
  unfolding WritesSegment WritesBounds WritesMade
  write_segment a c e type x bs xs n eb f en exs g =
      let s = source_of b in
      let f' = subst (λ z. Emits w a c (BoundsBuilt s w.text (map bound_pair_syntax z)) (λ final site p q. BoundsAt s final site 0 (map bound_pair_syntax z) (λ p q. q ≡ p) p q)) eb f in
      let g' = subst (λ z. Emits w c e (MadeBuilt s w.text n z) (λ final site p q. MakesAt s final site (kind_named type) n z p q)) exs g in
      let g'' = subst (λ z. Emits w c e (MadeBuilt s w.text z x.names.items) (λ final site p q. MakesAt s final site (kind_named type) z x.names.items p q)) (en ∙ sym (mapped bound_pair_syntax x.bounds.items)) g' in
      emits_as w _ _ _ _ a e (λ h. (h.0, h.1)) (λ h. (h.0, h.1)) (λ final site p q _ _ r. bounds_end s final site (MakesAt s final site (kind_named type) (length (map bound_pair_syntax x.bounds.items)) x.names.items) (map bound_pair_syntax x.bounds.items) 0 p r.0 q r.1 r.2)
      (emits_then w _ _ (λ final site p q. BoundsAt s final site 0 (map bound_pair_syntax x.bounds.items) (λ p q. q ≡ p) p q) (λ final site p q. MakesAt s final site (kind_named type) (length (map bound_pair_syntax x.bounds.items)) x.names.items p q) a c e f' g'')

  pub segments_all : (a : DraftOf) (type : TypeName) (xs : List ArraySegment) → OwesSegments b w a type xs a xs
  unfolding OwesSegments
  segments_all a type xs end f = f

  pub segments_next : (a c e : DraftOf) (type : TypeName) (xs r r' : List ArraySegment) (x : ArraySegment) → OwesSegments b w a type xs c r → r ≡ x ∷ r' → WritesSegment b w c e type x → OwesSegments b w a type xs e r'
  unfolding OwesSegments WritesSegments WritesSegment
  segments_next a c e type xs r r' x f is one end rest =
      let s = source_of b in
      f end (subst (λ z. Emits w c end (SegmentsBuilt s w.text (map segment_syntax z)) (λ final site p q. SegmentsAt s final site (kind_named type) (map segment_syntax z) p q)) (sym is)
      (emits_as w _ _ _ _ c end (λ h. ((h.0, h.1), h.2)) (λ h. (h.0.0, h.0.1, h.1)) (λ final site p q _ _ g. g)
      (emits_then w _ _ (λ final site p q. BoundsAt s final site 0 (segment_syntax x).bounds (MakesAt s final site (kind_named type) (length (segment_syntax x).bounds) (segment_syntax x).names) p q) (λ final site p q. SegmentsAt s final site (kind_named type) (map segment_syntax r') p q) c e end one rest)))

  pub segments_none : (a c : DraftOf) (type : TypeName) (xs r : List ArraySegment) → OwesSegments b w a type xs c r → r ≡ [] → WritesSegments b w a c type xs
  unfolding OwesSegments WritesSegments
  segments_none a c type xs r f is = f c (subst (λ z. Emits w c c (SegmentsBuilt (source_of b) w.text (map segment_syntax z)) (λ final site p q. SegmentsAt (source_of b) final site (kind_named type) (map segment_syntax z) p q)) (sym is) (emits_none w c))

  -- ---- declarations

  puts_as : (a c : DraftOf) (x : Decl) (y : Declaration) → declaration_syntax x ≡ y
      → ((end : DraftOf) (rest : List Decl) → WritesArrays b w c end rest → Emits w a end (ArraysBuilt (source_of b) w.text (With y (declarations (map declaration_syntax rest)))) (λ final site p q. ArraysAt (source_of b) final site (With y (declarations (map declaration_syntax rest))) p q)) → PutsArrays b w a c x
  unfolding PutsArrays WritesArrays
  puts_as a c x y is f end rest g = subst (λ z. Emits w a end (ArraysBuilt (source_of b) w.text (With z (declarations (map declaration_syntax rest)))) (λ final site p q. ArraysAt (source_of b) final site (With z (declarations (map declaration_syntax rest))) p q)) (sym is) (f end rest g)

  pub puts_variables : (a : DraftOf) (x : Decl) (n : TypeName) (l : Vec Variable Global) → x ≡ d.Variables n l → PutsArrays b w a a x
  unfolding WritesArrays
  puts_variables a x n l is = puts_as a a x _ (ap declaration_syntax is ∙ v.syntax-Variables n l) (λ end rest g. g)

  pub puts_procedure : (a : DraftOf) (x : Decl) (r : Option TypeName) (i : TokenNo) (p : Procedure) → x ≡ d.Procedure r i p → PutsArrays b w a a x
  unfolding WritesArrays
  puts_procedure a x r i p is = puts_as a a x _ (ap declaration_syntax is ∙ v.syntax-Procedure r i p ∙ v.syntax-procedure p.name p.parameters p.modes p.specifications p.body p.end r i.0) (λ end rest g. g)

  pub puts_class : (a : DraftOf) (x : Decl) (r : Option Identifier) (i : TokenNo) (p : Class) → x ≡ d.Class r i p → PutsArrays b w a a x
  unfolding WritesArrays
  puts_class a x r i p is = puts_as a a x _ (ap declaration_syntax is ∙ v.syntax-Class r i p ∙ v.syntax-class p.name p.parameters p.modes p.specifications p.protections p.virtuals p.body p.end r i.0) (λ end rest g. g)

  pub puts_arrays : (a c : DraftOf) (x : Decl) (n : TypeName) (i : TokenNo) (l : Vec ArraySegment Global) (xs : List ArraySegment) → x ≡ d.Arrays n i l → xs ≡ l.items → WritesSegments b w a c n xs → PutsArrays b w a c x
  unfolding WritesArrays WritesSegments
  puts_arrays a c x n i l xs is ex f = puts_as a c x _ (ap declaration_syntax is ∙ v.syntax-Arrays n i l)
      (λ end rest g. emits_then w _ _ (λ final site p q. SegmentsAt (source_of b) final site (kind_named n) (map segment_syntax l.items) p q) (λ final site p q. ArraysAt (source_of b) final site (declarations (map declaration_syntax rest)) p q) a c end
      (subst (λ z. Emits w a c (SegmentsBuilt (source_of b) w.text (map segment_syntax z)) (λ final site p q. SegmentsAt (source_of b) final site (kind_named n) (map segment_syntax z) p q)) ex f) g)

  pub arrays_all : (a : DraftOf) (xs : List Decl) → OwesArrays b w a xs a xs
  unfolding OwesArrays
  arrays_all a xs end f = f

  pub arrays_next : (a c e : DraftOf) (xs r r' : List Decl) (x : Decl) → OwesArrays b w a xs c r → r ≡ x ∷ r' → PutsArrays b w c e x → OwesArrays b w a xs e r'
  unfolding OwesArrays PutsArrays
  arrays_next a c e xs r r' x f is one end rest = f end (subst (WritesArrays b w c end) (sym is) (one end r' rest))

  pub arrays_none : (a c : DraftOf) (xs r : List Decl) → OwesArrays b w a xs c r → r ≡ [] → WritesArrays b w a c xs
  unfolding OwesArrays WritesArrays
  arrays_none a c xs r f is = f c (subst (WritesArrays b w c c) (sym is) (emits_none w c))

pub ruleset declared = (kept_nowhere, kept_elsewhere, kept_constant, kept_found, write_keep, write_no_keep, write_load, write_no_load, write_none_made, write_flat_made, write_made, write_segment, puts_variables, puts_procedure, puts_class, puts_arrays)
