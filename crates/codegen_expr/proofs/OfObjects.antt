-- Objects, what they have, and the classes that are named.
use Rattle.std.proofs.Common.{◌≡◌, ◌+◌, ◌≢◌, ◌<◌, ℕ, pos, suc, Bool, List, [], ◌∷◌, length, map, Option, Some, None, true, false, refl, sym, ap, ◌∙◌, subst, arith}
use Rattle.std.specs.Prelude.{⊤, slice_get}
use Rattle.sim_base.specs.declared.numbering.DeclNo.{DeclNo}
use Rattle.sim_base.specs.declared.numbering.TokenNo.{TokenNo}
use Rattle.sim_scope.specs.declared.bound.Bound.{Bound}
use Rattle.sim_scope.specs.declared.scopes.Denotation.{Denotation}
use Rattle.sim_scope.specs.declared.scopes.Denotation.TheVariants as denotation
use Rattle.sim_scope.specs.declared.standard.StandardName.{StandardName}
use Rattle.sim_scope.specs.declared.types.Entry.{Entry}
use Rattle.sim_scope.specs.declared.types.Entry.TheVariants as entry
use Rattle.sim_scope.specs.declared.types.Formal.{Formal}
use Rattle.sim_scope.specs.declared.types.FormalKind.{FormalKind}
use Rattle.sim_scope.specs.declared.types.FormalKind.TheVariants as shape
use Rattle.sim_scope.specs.Scopes.{entry_of}
use Rattle.sim_scope.specs.Source.{Source, block_of, denoted, found_at, level_of, line_at, source_of}
use Rattle.sim_tree.specs.declared.expr.Expr.{Expr}
use Rattle.sim_tree.specs.declared.expr.Identifier.{Identifier}
use Rattle.sim_tree.specs.declared.expr.Membership.{Membership}
use Rattle.sim_tree.specs.declared.expr.Membership.TheVariants as membership
use Rattle.sim_tree.specs.Syntax.{Expression, Expressions, NoMore, Then, expressions}
use Rattle.sim_tree.specs.SyntaxOf.{syntax_of}
use Rattle.sim_values.specs.Plain.{Plain}
use Rattle.sim_code.specs.declared.instr.Instr.{Instr}
use Rattle.sim_code.specs.declared.instr.Instr.TheVariants as i
use Rattle.sim_code.specs.Code.{CodeOf}
use Rattle.sim_code.specs.Running.{runs}
use Rattle.sim_meaning.specs.Attributes.{attribute_formals, cell_of_connection, is_connection}
use Rattle.sim_meaning.specs.Closing.{class_parameters, formals_at, formals_declared}
use Rattle.sim_meaning.specs.Levels.{class_at, is_process_itself}
use Rattle.sim_meaning.specs.Pending.{Declared, Origin}
use Rattle.sim_meaning.specs.Texts.{constant_of, text}
use Rattle.codegen_expr.specs.declared.operators.Seen.{Seen}
use Rattle.codegen_expr.specs.declared.operators.Seen.TheVariants as seen
use Rattle.codegen_expr.specs.declared.sets.SetProcedure.{SetProcedure}
use Rattle.codegen_expr.specs.declared.spot.Spot.{Spot}
use Rattle.codegen_expr.specs.Built.{ActualsBuilt, AreBuilt, StandsIn, ClassBuilt, ConstantBuilt, GenerationBuilt, IsBuilt, OfObjectBuilt, ParameterOfBuilt, ParameterPlaceOfBuilt, PlaceBehindBuilt, PlaceOfObjectBuilt, ThisFoundBuilt, ThisOfBuilt, is_around, is_there, slot_in}
use Rattle.codegen_expr.specs.CodeExpr.{Checked, Listed, MatchAt, NewAt, OriginIfAt, Parameters, parameters_of, ActualsAt, AttributePlaceAt, ConstantAt, ExprAt, ExprsAt, GenerationAt, GivenAt, MemberAt, OfObjectAt, ParameterOfAt, ParameterPlaceOfAt, PlaceBehindAt, PlaceOfObjectAt, QuaAt, RemoteCallAt, ElementOfAt, SetAt, SetNamed, ThisFoundAt, ThisOfAt, member_instr, operands}
use Rattle.codegen_expr.specs.Drafts.{DraftOf, Emits, class_of, given_up, planned_at, planned_in, planned_start, with_instr, with_push, with_temp}
use Rattle.codegen_expr.specs.Emit.{Puts, WritesActuals, WritesConstant, WritesLink, WritesLinkTo, WritesList, attribute_seen, formals_of_block, parameter_seen}
use Rattle.codegen_expr.specs.EmitObjects.{Base, BaseAt, BaseBuilt, OfConnection, PutsBase, SeenOfAt, SeenOfBuilt, SeenPlaceOfAt, SeenPlaceOfBuilt, WritesAttribute, WritesConstantOf, WritesElementOf, WritesFit, WritesGeneration, WritesMember, WritesNew, WritesObjectOf, WritesOf, WritesOrigin, WritesPlaceBehind, WritesPlaceOf, WritesQua, WritesSeenOf, WritesSeenPlaceOf, WritesThis}
use Rattle.codegen_expr.specs.EmitSets.{WritesSet, set_procedure}
use Rattle.codegen_expr.specs.EmitVirtuals.{WritesMatch, WritesValueCall}
use Rattle.codegen_expr.specs.Sites.{At, HasCell, Inside, Is, Pushes, Site, block_number, frame_text, slot_of}
use Rattle.codegen_expr.proofs.Around.{inside}
use Rattle.codegen_expr.proofs.Pieces.{class_numbered, emits_as, emits_at, emits_classed, emits_nothing, emits_push, emits_temp_behind, emits_temps, emits_then}
use Rattle.codegen_expr.proofs.Seen.{block_formals, count}
use Rattle.codegen_expr.proofs.Slots.{slot_found, slot_within}
use Rattle.codegen_expr.proofs.Matched.{match_found}

abbrev Part : Type 1
Part = CodeOf → Site → ℕ → ℕ → Type 0

member_real : (m : Membership) (k : ℕ) → member_instr m k ≢ i.Halt
member_real membership.Is k = λ z. cc
member_real membership.In k = λ z. cc

member_runs : (m : Membership) (k : ℕ) → runs (member_instr m k) ≡ true
member_runs membership.Is k = refl
member_runs membership.In k = refl

given_constant : (s : Source) (final : CodeOf) (site : Site) (n : ℕ) (o : Option Plain) (p q : ℕ) → ConstantAt s final site n o NoMore p q → GivenAt s final site n o p q
given_constant s final site n None p q h = h
given_constant s final site n (Some v) p q h = h

no_operands : (o : Option Plain) (x : Expression) (xs : Expressions) → ConstantBuilt o (Then x xs) → ⊥
no_operands None x xs h = h
no_operands (Some v) x xs h = h

module _ (b : Bound) (w : Spot) (n : ℕ) where
  -- what stands behind something and has no code
  pub gives_up : (P Q : Type 0) (A B : Part) (a c d : DraftOf) → Emits w a c P A → (Q → ⊥) → d ≡ given_up c → Emits w a d Q B
  gives_up P Q A B a c d f never is =
      emits_as w (P × ⊥) Q _ _ a d (λ q. absurd (never q)) (λ q. absurd q.1) (λ final site p q _ _ r. absurd r.2)
      (emits_then w P ⊥ A (λ final site p q. ⊥) a c d f (emits_nothing w c d ⊥ (λ final site p q. ⊥) (λ z. z) is))

  -- ---- connections and `this`

  pub connected_load : (a c : DraftOf) (k m place frame v : ℕ) (x : Instr) (slot : Option ℕ) → slot ≡ slot_in (source_of b) (frame_text (source_of b) k) (cell_of_connection (source_of b) k) → slot ≡ Some place → is_around b.scopes (length b.scopes.blocks) w.text k ≡ true → frame ≡ frame_text (source_of b) k → v ≡ planned_start (source_of b) a.classes frame + place → m ≡ level_of (source_of b) k → x ≡ i.Load (pos m) (pos v) → c ≡ with_push a n x 0 → PutsBase (source_of b) w n a c (OfConnection k)
  unfolding PutsBase source_of
  connected_load a c k m place frame v x slot es some around ef ev em ex ec =
      let s = source_of b in
      let home = frame_text s k in
      let key = cell_of_connection s k in
      let found : slot_in s home key ≡ Some place = sym es ∙ some in
      let number : v ≡ planned_start s a.classes home + place = ev ∙ ap (λ z. planned_start s a.classes z + place) ef in
      let at : (final : CodeOf) → ((j : ℕ) → planned_in (slice_get final.blocks j) ≡ planned_at a.classes j) → x ≡ i.Load (pos (level_of s k)) (pos (slot_of s final home key)) =
      λ final known. ex ∙ ap (λ z. i.Load (pos z) (pos v)) em ∙ ap (λ z. i.Load (pos (level_of s k)) (pos z)) (slot_found s final a.classes home key place v known found number) in
      let is : Inside s.tables w.text k = inside s.tables k (length s.tables.blocks) w.text around in
      let has : HasCell s home key = slot_within s home key place found in
      emits_as w _ _ (λ final site p q. Pushes final site n (i.Load (pos (level_of s k)) (pos (slot_of s final home key))) p q) _ a c (λ t. tt) (λ t. record { has = ap is_there found; inside = record { found = around } })
      (λ final site p q stands _ r. record { load = r; inside = subst (λ z. Inside s.tables z k) (sym stands) is; within = has })
      (emits_classed w _ (λ final site p q. Pushes final site n x p q) _ a c (λ final site p q known r. subst (λ z. Pushes final site n z p q) (at final known) r) (emits_push w a c n x 0 ec (λ z. let h : i.Load (pos m) (pos v) ≡ i.Halt = sym ex ∙ z in cc) (ap runs ex)))

  pub connected_no_slot : (a c : DraftOf) (k : ℕ) (slot : Option ℕ) → slot ≡ slot_in (source_of b) (frame_text (source_of b) k) (cell_of_connection (source_of b) k) → slot ≡ None → c ≡ given_up a → PutsBase (source_of b) w n a c (OfConnection k)
  unfolding PutsBase
  connected_no_slot a c k slot es none ec = emits_nothing w a c _ _ (λ h. let t : true ≡ false = sym h.has ∙ ap is_there (sym es ∙ none) in cc) ec

  pub connected_outside : (a c : DraftOf) (k : ℕ) → is_around b.scopes (length b.scopes.blocks) w.text k ≡ false → c ≡ given_up a → PutsBase (source_of b) w n a c (OfConnection k)
  unfolding PutsBase source_of
  connected_outside a c k out ec = emits_nothing w a c _ _ (λ h. let t : is_around b.scopes (length b.scopes.blocks) w.text k ≡ true = h.inside.found in cc) ec

  pub object_pushed : (a c : DraftOf) (k m : ℕ) (x : Instr) → is_around b.scopes (length b.scopes.blocks) w.text k ≡ true → m ≡ level_of (source_of b) k → x ≡ i.This (pos m) → c ≡ with_push a n x 0 → WritesObjectOf b w n a c k
  unfolding WritesObjectOf source_of
  object_pushed a c k m x around em ex ec =
      let s = source_of b in
      let at : x ≡ i.This (pos (level_of s k)) = ex ∙ ap (λ z. i.This (pos z)) em in
      let is : Inside s.tables w.text k = inside s.tables k (length s.tables.blocks) w.text around in
      emits_as w _ _ _ _ a c (λ t. tt) (λ t. record { found = around }) (λ final site p q stands _ r. record { push = r; inside = subst (λ z. Inside s.tables z k) (sym stands) is })
      (emits_push w a c n (i.This (pos (level_of s k))) 0 (ec ∙ ap (λ z. with_push a n z 0) at) (λ z. cc) refl)

  pub object_outside : (a c : DraftOf) (k : ℕ) → is_around b.scopes (length b.scopes.blocks) w.text k ≡ false → c ≡ given_up a → WritesObjectOf b w n a c k
  unfolding WritesObjectOf source_of
  object_outside a c k out ec = emits_nothing w a c _ _ (λ h. let t : is_around b.scopes (length b.scopes.blocks) w.text k ≡ true = h.found in cc) ec

  abbrev This' : (a c : DraftOf) → Option ℕ → Type 0
  This' a c o = Emits w a c (ThisFoundBuilt (source_of b) w.text o) (λ final site p q. ThisFoundAt (source_of b) final site n o p q)

  abbrev ThisText : (a c : DraftOf) → ℕ → Bool → Type 0
  ThisText a c k r = Emits w a c (ThisOfBuilt (source_of b) w.text k r) (λ final site p q. ThisOfAt (source_of b) final site n k r p q)

  pub this_connected : (a c : DraftOf) (token : TokenNo) (o : Option ℕ) (k : ℕ) (r : Bool) → o ≡ found_at (source_of b) token.0 → o ≡ Some k → r ≡ is_connection (text (source_of b) k) → r ≡ true → PutsBase (source_of b) w n a c (OfConnection k) → WritesThis b w n a c token
  unfolding WritesThis PutsBase
  this_connected a c token o k r eo some er is f = subst (This' a c) (sym some ∙ eo) (subst (ThisText a c k) (sym is ∙ er) f)

  pub this_object : (a c : DraftOf) (token : TokenNo) (o : Option ℕ) (k : ℕ) (r : Bool) → o ≡ found_at (source_of b) token.0 → o ≡ Some k → r ≡ is_connection (text (source_of b) k) → r ≡ false → WritesObjectOf b w n a c k → WritesThis b w n a c token
  unfolding WritesThis WritesObjectOf
  this_object a c token o k r eo some er is f = subst (This' a c) (sym some ∙ eo) (subst (ThisText a c k) (sym is ∙ er) f)

  pub this_nowhere : (a c : DraftOf) (token : TokenNo) (o : Option ℕ) → o ≡ found_at (source_of b) token.0 → o ≡ None → c ≡ given_up a → WritesThis b w n a c token
  unfolding WritesThis
  this_nowhere a c token o eo none ec = subst (This' a c) (sym none ∙ eo) (emits_nothing w a c _ _ (λ z. z) ec)

  -- ---- where an attribute lies

  pub attribute_found : (a c : DraftOf) (class : ℕ) (token : TokenNo) (d : DeclNo) (x : Instr) (place home v line : ℕ) (slot : Option ℕ) → slot ≡ slot_in (source_of b) (block_of (source_of b) d) (Declared d.0) → slot ≡ Some place → home ≡ block_of (source_of b) d → v ≡ planned_start (source_of b) a.classes home + place → x ≡ i.AddrR (pos v) (pos class) → line ≡ line_at (source_of b) token.0 → c ≡ with_instr a x line → WritesAttribute b w n a c class token d
  unfolding WritesAttribute PutsBase
  attribute_found a c class token d x place home' v line slot es some eh ev ex el ec start y f =
      let s = source_of b in
      let home = block_of s d in
      let found : slot_in s home (Declared d.0) ≡ Some place = sym es ∙ some in
      let number : v ≡ planned_start s a.classes home + place = ev ∙ ap (λ z. planned_start s a.classes z + place) eh in
      let at : (final : CodeOf) → ((j : ℕ) → planned_in (slice_get final.blocks j) ≡ planned_at a.classes j) → x ≡ i.AddrR (pos (slot_of s final home (Declared d.0))) (pos class) =
      λ final known. ex ∙ ap (λ z. i.AddrR (pos z) (pos class)) (slot_found s final a.classes home (Declared d.0) place v known found number) in
      let has : HasCell s home (Declared d.0) = slot_within s home (Declared d.0) place found in
      emits_as w _ _ _ _ start c (λ t. (t.0, tt)) (λ t. (t.0, ap is_there found))
      (λ final site p q _ _ r. record { x = r.0; object = r.1; found = r.2; within = has })
      (emits_then w _ _ (λ z site p q. BaseAt s z site n y p q) (λ z site. At z (i.AddrR (pos (slot_of s z home (Declared d.0))) (pos class)) (line_at s token.0)) start a c f
      (emits_classed w _ (λ final site p q. At final x (line_at s token.0) p q) _ a c (λ final site p q known r. subst (λ z. At final z (line_at s token.0) p q) (at final known) r)
      (emits_at w a c x (line_at s token.0) (ec ∙ ap (λ z. with_instr a x z) el) (λ z. let h : i.AddrR (pos v) (pos class) ≡ i.Halt = sym ex ∙ z in cc) (ap runs ex))))

  pub attribute_no_slot : (a c : DraftOf) (class : ℕ) (token : TokenNo) (d : DeclNo) (slot : Option ℕ) → slot ≡ slot_in (source_of b) (block_of (source_of b) d) (Declared d.0) → slot ≡ None → c ≡ given_up a → WritesAttribute b w n a c class token d
  unfolding WritesAttribute PutsBase
  attribute_no_slot a c class token d slot es none ec start y f = gives_up _ _ _ _ start a c f (λ h. let t : true ≡ false = sym h.1 ∙ ap is_there (sym es ∙ none) in cc) ec

  pub constant_read : (a c0 c1 c : DraftOf) (token : TokenNo) (d : DeclNo) (v line : ℕ) (slot : Option ℕ) → slot ≡ slot_in (source_of b) (block_of (source_of b) d) (Declared d.0) → slot ≡ Some v → line ≡ line_at (source_of b) token.0 → c0 ≡ with_instr a i.NotNone line → c1 ≡ with_instr c0 i.Pop 0 → WritesConstant b w n c1 c d → WritesConstantOf b w n a c token d
  unfolding WritesConstantOf WritesConstant PutsBase
  constant_read a c0 c1 c token d v line slot es some el e0 e1 f start y h =
      let s = source_of b in
      let found : slot_in s (block_of s d) (Declared d.0) ≡ Some v = sym es ∙ some in
      let has : HasCell s (block_of s d) (Declared d.0) = slot_within s (block_of s d) (Declared d.0) v found in
      emits_as w _ _ _ _ start c (λ t. (t.0, (tt, (tt, t.2)))) (λ t. (t.0, ap is_there found, t.1.1.1))
      (λ final site p q _ _ r. record { x = r.0; y = r.2.0; z = r.2.2.0; object = r.1; there = r.2.1; dropped = record { line = 0; is = r.2.2.1 }; within = has; value = given_constant s final site n (constant_of s d) r.2.2.0 q r.2.2.2 })
      (emits_then w _ _ (λ z site p q. BaseAt s z site n y p q) (λ z site p q. (u : ℕ) × At z i.NotNone (line_at s token.0) p u × ((v : ℕ) × At z i.Pop 0 u v × ConstantAt s z site n (constant_of s d) NoMore v q)) start a c h
      (emits_then w _ _ (λ z site. At z i.NotNone (line_at s token.0)) (λ z site p q. (v : ℕ) × At z i.Pop 0 p v × ConstantAt s z site n (constant_of s d) NoMore v q) a c0 c (emits_at w a c0 i.NotNone (line_at s token.0) (e0 ∙ ap (λ z. with_instr a i.NotNone z) el) (λ z. cc) refl)
      (emits_then w _ _ (λ z site. At z i.Pop 0) (λ z site p q. ConstantAt s z site n (constant_of s d) NoMore p q) c0 c1 c (emits_at w c0 c1 i.Pop 0 e1 (λ z. cc) refl) f)))

  pub constant_no_slot : (a c : DraftOf) (token : TokenNo) (d : DeclNo) (slot : Option ℕ) → slot ≡ slot_in (source_of b) (block_of (source_of b) d) (Declared d.0) → slot ≡ None → c ≡ given_up a → WritesConstantOf b w n a c token d
  unfolding WritesConstantOf PutsBase
  constant_no_slot a c token d slot es none ec start y f = gives_up _ _ _ _ start a c f (λ h. let t : true ≡ false = sym h.1 ∙ ap is_there (sym es ∙ none) in cc) ec

  -- ---- classes that are named

  pub member_named : (a c : DraftOf) (m : Membership) (token : TokenNo) (o : Option ℕ) (k j num : ℕ) (x : Instr) → o ≡ class_at (source_of b) token.0 → o ≡ Some k → j ≡ block_number (source_of b) k → num ≡ class_of a.classes j → x ≡ member_instr m num → c ≡ with_instr a x 0 → WritesMember b w n a c m token
  unfolding WritesMember Puts
  member_named a c m token o k j num x eo some ej en ex ec start e f =
      let s = source_of b in
      let number : num ≡ class_of start.classes (block_number s k) = en ∙ ap (class_of a.classes) ej ∙ ap (λ z. class_of z (block_number s k)) f.classed in
      subst (λ z. Emits w start c (ClassBuilt z × IsBuilt s w.text e) (λ final site p q. MemberAt s final m z (λ u v. ExprAt s final site n e u v) p q)) (sym some ∙ eo)
      (emits_classed w _ (λ final site p q. (u : ℕ) × ExprAt s final site n e p u × Is final x u q) _ start c
      (λ final site p q all r. (r.0, r.1, subst (λ z. Is final z r.0 q) (ex ∙ ap (member_instr m) (sym (class_numbered s final start.classes k num all number))) r.2))
      (emits_as w _ _ _ _ start c (λ t. (t.1, tt)) (λ t. (tt, t.0)) (λ final site p q _ _ r. (r.0, r.1, record { line = 0; is = r.2 }))
      (emits_then w _ _ (λ z site p q. ExprAt s z site n e p q) (λ z site. At z x 0) start a c f (emits_at w a c x 0 ec (λ z. member_real m num (sym ex ∙ z)) (ap runs ex ∙ member_runs m num)))))

  pub member_unnamed : (a c : DraftOf) (m : Membership) (token : TokenNo) (o : Option ℕ) → o ≡ class_at (source_of b) token.0 → o ≡ None → c ≡ given_up a → WritesMember b w n a c m token
  unfolding WritesMember Puts
  member_unnamed a c m token o eo none ec start e f =
      let s = source_of b in
      subst (λ z. Emits w start c (ClassBuilt z × IsBuilt s w.text e) (λ final site p q. MemberAt s final m z (λ u v. ExprAt s final site n e u v) p q)) (sym none ∙ eo)
      (gives_up _ _ _ _ start a c f (λ h. h.0) ec)

  pub qua_named : (a c : DraftOf) (token class : TokenNo) (o : Option ℕ) (k j num line : ℕ) (x : Instr) → o ≡ class_at (source_of b) class.0 → o ≡ Some k → j ≡ block_number (source_of b) k → num ≡ class_of a.classes j → x ≡ i.Qua (pos num) → line ≡ line_at (source_of b) token.0 → c ≡ with_instr a x line → WritesQua b w n a c token class
  unfolding WritesQua Puts
  qua_named a c token class o k j num line x eo some ej en ex el ec start e f =
      let s = source_of b in
      let number : num ≡ class_of start.classes (block_number s k) = en ∙ ap (class_of a.classes) ej ∙ ap (λ z. class_of z (block_number s k)) f.classed in
      subst (λ z. Emits w start c (ClassBuilt z × IsBuilt s w.text e) (λ final site p q. QuaAt s final (line_at s token.0) z (λ u v. ExprAt s final site n e u v) p q)) (sym some ∙ eo)
      (emits_classed w _ (λ final site p q. (u : ℕ) × ExprAt s final site n e p u × At final x (line_at s token.0) u q) _ start c
      (λ final site p q all r. (r.0, r.1, subst (λ z. At final z (line_at s token.0) r.0 q) (ex ∙ ap (λ z. i.Qua (pos z)) (sym (class_numbered s final start.classes k num all number))) r.2))
      (emits_as w _ _ _ _ start c (λ t. (t.1, tt)) (λ t. (tt, t.0)) (λ final site p q _ _ r. r)
      (emits_then w _ _ (λ z site p q. ExprAt s z site n e p q) (λ z site. At z x (line_at s token.0)) start a c f
      (emits_at w a c x (line_at s token.0) (ec ∙ ap (λ z. with_instr a x z) el) (λ z. let h : i.Qua (pos num) ≡ i.Halt = sym ex ∙ z in cc) (ap runs ex)))))

  pub qua_unnamed : (a c : DraftOf) (token class : TokenNo) (o : Option ℕ) → o ≡ class_at (source_of b) class.0 → o ≡ None → c ≡ given_up a → WritesQua b w n a c token class
  unfolding WritesQua Puts
  qua_unnamed a c token class o eo none ec start e f =
      let s = source_of b in
      subst (λ z. Emits w start c (ClassBuilt z × IsBuilt s w.text e) (λ final site p q. QuaAt s final (line_at s token.0) z (λ u v. ExprAt s final site n e u v) p q)) (sym none ∙ eo)
      (gives_up _ _ _ _ start a c f (λ h. h.0) ec)

  abbrev Fits : CodeOf → Site → (temp level class line : ℕ) → ℕ → ℕ → Type 0
  Fits final site temp level k line p q =
      (y : ℕ) × (z : ℕ) × (v : ℕ) × Pushes final site (suc n) (i.Addr (pos level) (pos temp) (pos k)) p y × Is final i.Swap y z × At final i.Put line z v × Pushes final site n (i.Load (pos level) (pos temp)) v q

  pub fitted : (a c0 c1 c2 c3 c : DraftOf) (token : TokenNo) (k m j num level line : ℕ) (x y : Instr) → m ≡ suc n → j ≡ block_number (source_of b) k → num ≡ class_of a.classes j → level ≡ level_of (source_of b) w.text → c0 ≡ with_temp a w.temps
      → x ≡ i.Addr (pos level) (pos w.temps) (pos num) → c1 ≡ with_push c0 m x 0 → c2 ≡ with_instr c1 i.Swap 0 → line ≡ line_at (source_of b) token.0 → c3 ≡ with_instr c2 i.Put line → y ≡ i.Load (pos level) (pos w.temps) → c ≡ with_push c3 n y 0 → WritesFit b w n a c token k
  unfolding WritesFit
  fitted a c0 c1 c2 c3 c token k m j num level line x y em ej en elv e0 ex e1 e2 el e3 ey e4 =
      let s = source_of b in
      let ln = line_at s token.0 in
      let p1 = emits_push w c0 c1 (suc n) (i.Addr (pos level) (pos w.temps) (pos num)) 0 (e1 ∙ ap (λ z. with_push c0 z x 0) em ∙ ap (λ z. with_push c0 (suc n) z 0) ex) (λ z. cc) refl in
      let p2 = emits_at w c1 c2 i.Swap 0 e2 (λ z. cc) refl in
      let p3 = emits_at w c2 c3 i.Put ln (e3 ∙ ap (λ z. with_instr c2 i.Put z) el) (λ z. cc) refl in
      let p4 = emits_push w c3 c n (i.Load (pos level) (pos w.temps)) 0 (e4 ∙ ap (λ z. with_push c3 n z 0) ey) (λ z. cc) refl in
      let all : Emits w c0 c ⊤ (λ final site p q. Fits final site w.temps level num ln p q) =
      emits_as w _ _ _ _ c0 c (λ t. (tt, (tt, (tt, tt)))) (λ t. tt) (λ final site p q _ _ r. (r.0, r.2.0, r.2.2.0, r.1, record { line = 0; is = r.2.1 }, r.2.2.1, r.2.2.2))
      (emits_then w _ _ (λ z site. Pushes z site (suc n) (i.Addr (pos level) (pos w.temps) (pos num))) (λ z site p q. (u : ℕ) × At z i.Swap 0 p u × ((v : ℕ) × At z i.Put ln u v × Pushes z site n (i.Load (pos level) (pos w.temps)) v q)) c0 c1 c p1
      (emits_then w _ _ (λ z site. At z i.Swap 0) (λ z site p q. (v : ℕ) × At z i.Put ln p v × Pushes z site n (i.Load (pos level) (pos w.temps)) v q) c1 c2 c p2
      (emits_then w _ _ (λ z site. At z i.Put ln) (λ z site. Pushes z site n (i.Load (pos level) (pos w.temps))) c2 c3 c p3 p4))) in
      let numbered : Emits w a c ⊤ (λ final site p q. (w.temps < site.size) × Fits final site w.temps level num ln p q) = emits_temp_behind w ⊤ (λ final site p q. Fits final site w.temps level num ln p q) a c0 c w.temps e0 all in
      let at_site : Emits w a c ⊤ (λ final site p q. (site.temps < site.size) × Fits final site site.temps (level_of s site.text) num ln p q) =
      emits_temps w ⊤ (λ final site p q. (w.temps < site.size) × Fits final site w.temps (level_of s site.text) num ln p q) _ a c (λ final site p q temps r. subst (λ z. (z < site.size) × Fits final site z (level_of s site.text) num ln p q) (sym temps) r)
      (emits_as w _ _ _ _ a c (λ t. t) (λ t. t) (λ final site p q stands _ r. (r.0, subst (λ z. Fits final site w.temps z num ln p q) (elv ∙ ap (level_of s) (sym stands)) r.1)) numbered) in
      emits_classed w ⊤ (λ final site p q. (site.temps < site.size) × Fits final site site.temps (level_of s site.text) num ln p q) _ a c
      (λ final site p q known r.
      let f = subst (λ z. Fits final site site.temps (level_of s site.text) z ln p q) (sym (class_numbered s final a.classes k num known (en ∙ ap (class_of a.classes) ej))) r.1 in
      record { x = f.0; y = f.1; z = f.2; within = r.0; address = f.3; under = f.4; put = f.5; again = f.6 })
      at_site

  -- ---- what an object has

  abbrev Has : (start c : DraftOf) → TokenNo → DeclNo → Base → Expressions → Seen → Type 0
  Has start c token d x es k =
      Emits w start c (SeenOfBuilt (source_of b) d k es (BaseBuilt (source_of b) w.text x) (AreBuilt (source_of b) w.text es) (λ formals. ActualsBuilt (source_of b) w.text es formals))
      (λ final site p q. SeenOfAt (source_of b) final site n (line_at (source_of b) token.0) d k es (λ u v. BaseAt (source_of b) final site n x u v) (λ u v. ExprsAt (source_of b) final site (suc n) es u v) (λ formals u v. ActualsAt (source_of b) final site (suc n) (line_at (source_of b) token.0) false es formals u v) p q)

  pub element_of : (a c0 c1 c2 c : DraftOf) (class : ℕ) (token : TokenNo) (d : DeclNo) (es : List Expr) (m k line : ℕ) (x : Instr) → m ≡ suc n → WritesAttribute b w n a c0 0 token d → c1 ≡ with_instr c0 i.Fetch 0 → WritesList b w m c1 c2 es → k ≡ length es → x ≡ i.Elem (pos k) (pos class) → line ≡ line_at (source_of b) token.0 → c ≡ with_instr c2 x line → WritesElementOf b w n a c class token d es
  unfolding WritesElementOf WritesAttribute WritesList PutsBase
  element_of a c0 c1 c2 c class token d ys m k line x em f e1 g ek ex el ec start y h =
      let s = source_of b in
      let es = expressions (map syntax_of ys) in
      let g' = subst (λ z. Emits w c1 c2 (AreBuilt s w.text es) (λ final site p q. ExprsAt s final site z es p q)) em g in
      let at : x ≡ i.Elem (pos (operands es)) (pos class) = ex ∙ ap (λ z. i.Elem (pos z) (pos class)) (ek ∙ sym (count ys)) in
      emits_as w _ _ _ _ start c (λ t. ((t.0, t.1), (tt, (t.2, tt)))) (λ t. (t.0.0, t.0.1, t.1.1.0))
      (λ final site p q _ _ r. record { x = r.0; y = r.2.0; z = r.2.2.0; place = r.1; array = record { line = 0; is = r.2.1 }; subscripts = r.2.2.1; found = r.2.2.2 })
      (emits_then w _ _ (λ z site p q. AttributePlaceAt s z (line_at s token.0) 0 d (λ u v. BaseAt s z site n y u v) p q) (λ z site p q. (u : ℕ) × At z i.Fetch 0 p u × ((v : ℕ) × ExprsAt s z site (suc n) es u v × At z (i.Elem (pos (operands es)) (pos class)) (line_at s token.0) v q)) start c0 c (f start y h)
      (emits_then w _ _ (λ z site. At z i.Fetch 0) (λ z site p q. (v : ℕ) × ExprsAt s z site (suc n) es p v × At z (i.Elem (pos (operands es)) (pos class)) (line_at s token.0) v q) c0 c1 c (emits_at w c0 c1 i.Fetch 0 e1 (λ z. cc) refl)
      (emits_then w _ _ (λ z site p q. ExprsAt s z site (suc n) es p q) (λ z site. At z (i.Elem (pos (operands es)) (pos class)) (line_at s token.0)) c1 c2 c g'
      (emits_at w c2 c (i.Elem (pos (operands es)) (pos class)) (line_at s token.0) (ec ∙ ap (λ z. with_instr c2 z line) at ∙ ap (λ z. with_instr c2 (i.Elem (pos (operands es)) (pos class)) z) el) (λ z. cc) refl))))

  pub of_variable : (a c0 c : DraftOf) (token : TokenNo) (d : DeclNo) (k : Seen) (es : List Expr) → k ≡ seen.Variable → length es ≡ 0 → WritesAttribute b w n a c0 0 token d → c ≡ with_instr c0 i.Fetch 0 → WritesSeenOf b w n a c token d k es
  unfolding WritesSeenOf WritesAttribute PutsBase
  of_variable a c0 c token d k [] is none f ec start y h =
      let s = source_of b in
      subst (Has start c token d y NoMore) (sym is)
      (emits_as w _ _ _ _ start c (λ t. (t, tt)) (λ t. t.0) (λ final site p q _ _ r. (r.0, r.1, record { line = 0; is = r.2 }))
      (emits_then w _ _ (λ z site p q. AttributePlaceAt s z (line_at s token.0) 0 d (λ u v. BaseAt s z site n y u v) p q) (λ z site. At z i.Fetch 0) start c0 c (f start y h) (emits_at w c0 c i.Fetch 0 ec (λ z. cc) refl)))
  of_variable a c0 c token d k (z ∷ zs) is none f ec start y h = absurd (omega (arith, none))

  pub of_no_variable : (a c : DraftOf) (token : TokenNo) (d : DeclNo) (k : Seen) (es : List Expr) → k ≡ seen.Variable → length es ≢ 0 → c ≡ given_up a → WritesSeenOf b w n a c token d k es
  unfolding WritesSeenOf PutsBase
  of_no_variable a c token d k [] is some' ec start y h = absurd (some' refl)
  of_no_variable a c token d k (z ∷ zs) is some' ec start y h = subst (Has start c token d y (expressions (map syntax_of (z ∷ zs)))) (sym is) (gives_up _ _ _ _ start a c h (λ t. t) ec)

  pub of_constant : (a c : DraftOf) (token : TokenNo) (d : DeclNo) (k : Seen) (es : List Expr) → k ≡ seen.Constant → length es ≡ 0 → WritesConstantOf b w n a c token d → WritesSeenOf b w n a c token d k es
  unfolding WritesSeenOf WritesConstantOf
  of_constant a c token d k [] is none f start y h = subst (Has start c token d y NoMore) (sym is) (f start y h)
  of_constant a c token d k (z ∷ zs) is none f start y h = absurd (omega (arith, none))

  pub of_no_constant : (a c : DraftOf) (token : TokenNo) (d : DeclNo) (k : Seen) (es : List Expr) → k ≡ seen.Constant → length es ≢ 0 → c ≡ given_up a → WritesSeenOf b w n a c token d k es
  unfolding WritesSeenOf PutsBase
  of_no_constant a c token d k [] is some' ec start y h = absurd (some' refl)
  of_no_constant a c token d k (z ∷ zs) is some' ec start y h =
      subst (Has start c token d y (expressions (map syntax_of (z ∷ zs)))) (sym is) (gives_up _ _ _ _ start a c h (λ t. no_operands (constant_of (source_of b) d) (syntax_of z) (expressions (map syntax_of zs)) t.2) ec)

  pub of_array : (a c0 c : DraftOf) (token : TokenNo) (d : DeclNo) (k : Seen) (es : List Expr) → k ≡ seen.Array → length es ≡ 0 → WritesAttribute b w n a c0 0 token d → c ≡ with_instr c0 i.Fetch 0 → WritesSeenOf b w n a c token d k es
  unfolding WritesSeenOf WritesAttribute PutsBase
  of_array a c0 c token d k [] is none f ec start y h =
      let s = source_of b in
      subst (Has start c token d y NoMore) (sym is)
      (emits_as w _ _ _ _ start c (λ t. ((t.0, t.1), tt)) (λ t. (t.0.0, t.0.1, tt)) (λ final site p q _ _ r. (r.0, r.1, record { line = 0; is = r.2 }))
      (emits_then w _ _ (λ z site p q. AttributePlaceAt s z (line_at s token.0) 0 d (λ u v. BaseAt s z site n y u v) p q) (λ z site. At z i.Fetch 0) start c0 c (f start y h) (emits_at w c0 c i.Fetch 0 ec (λ z. cc) refl)))
  of_array a c0 c token d k (z ∷ zs) is none f ec start y h = absurd (omega (arith, none))

  pub of_element : (a c0 c : DraftOf) (token : TokenNo) (d : DeclNo) (k : Seen) (es : List Expr) → k ≡ seen.Array → length es ≢ 0 → WritesElementOf b w n a c0 0 token d es → c ≡ with_instr c0 i.Fetch 0 → WritesSeenOf b w n a c token d k es
  unfolding WritesSeenOf WritesElementOf PutsBase
  of_element a c0 c token d k [] is some' f ec start y h = absurd (some' refl)
  of_element a c0 c token d k (z ∷ zs) is some' f ec start y h =
      let s = source_of b in
      let es = expressions (map syntax_of (z ∷ zs)) in
      subst (Has start c token d y es) (sym is)
      (emits_as w _ _ _ _ start c (λ t. (t, tt)) (λ t. t.0) (λ final site p q _ _ r. (r.0, r.1, record { line = 0; is = r.2 }))
      (emits_then w _ _ (λ z site p q. ElementOfAt s z (line_at s token.0) 0 d es (λ u v. BaseAt s z site n y u v) (λ u v. ExprsAt s z site (suc n) es u v) p q) (λ z site. At z i.Fetch 0) start c0 c (f start y h) (emits_at w c0 c i.Fetch 0 ec (λ z. cc) refl)))

  pub of_call : (a c0 c1 c : DraftOf) (token : TokenNo) (d : DeclNo) (k : Seen) (block : ℕ) (es : List Expr) (fs : List Formal) (m j line line2 number : ℕ) (x : Instr) → k ≡ seen.Call block → m ≡ suc n → line ≡ line_at (source_of b) token.0 → c0 ≡ with_instr a i.NotNone line → fs ≡ formals_of_block (source_of b) block → WritesActuals b w m c0 c1 false token es fs
      → number ≡ block_number (source_of b) block → j ≡ length es → x ≡ i.Call (pos number) (pos j) → line2 ≡ line_at (source_of b) token.0 → c ≡ with_instr c1 x line2 → WritesSeenOf b w n a c token d k es
  unfolding WritesSeenOf WritesActuals PutsBase
  of_call a c0 c1 c token d k block ys fs m j line line2 number x is em el e0 ef g en ej ex el2 ec start y h =
      let s = source_of b in
      let es = expressions (map syntax_of ys) in
      let at : x ≡ i.Call (pos (block_number s block)) (pos (operands es)) = ex ∙ ap (λ z. i.Call (pos z) (pos j)) en ∙ ap (λ z. i.Call (pos (block_number s block)) (pos z)) (ej ∙ sym (count ys)) in
      let g1 = subst (λ z. Emits w c0 c1 (ActualsBuilt s w.text es (Listed fs)) (λ final site p q. ActualsAt s final site z (line_at s token.0) false es (Listed fs) p q)) em g in
      let g2 = subst (λ z. Emits w c0 c1 (ActualsBuilt s w.text es (Listed z)) (λ final site p q. ActualsAt s final site (suc n) (line_at s token.0) false es (Listed z) p q)) ef g1 in
      subst (Has start c token d y es) (sym is)
      (emits_as w _ _ _ _ start c (λ t. (t.0, (tt, (t.1, tt)))) (λ t. (t.0, t.1.1.0)) (λ final site p q _ _ r. record { x = r.0; y = r.2.0; z = r.2.2.0; object = r.1; there = r.2.1; actuals = r.2.2.1; call = r.2.2.2 })
      (emits_then w _ _ (λ z site p q. BaseAt s z site n y p q) (λ z site p q. (u : ℕ) × At z i.NotNone (line_at s token.0) p u × ((v : ℕ) × ActualsAt s z site (suc n) (line_at s token.0) false es (Listed (formals_of_block s block)) u v × At z (i.Call (pos (block_number s block)) (pos (operands es))) (line_at s token.0) v q)) start a c h
      (emits_then w _ _ (λ z site. At z i.NotNone (line_at s token.0)) (λ z site p q. (v : ℕ) × ActualsAt s z site (suc n) (line_at s token.0) false es (Listed (formals_of_block s block)) p v × At z (i.Call (pos (block_number s block)) (pos (operands es))) (line_at s token.0) v q) a c0 c (emits_at w a c0 i.NotNone (line_at s token.0) (e0 ∙ ap (λ z. with_instr a i.NotNone z) el) (λ z. cc) refl)
      (emits_then w _ _ (λ z site p q. ActualsAt s z site (suc n) (line_at s token.0) false es (Listed (formals_of_block s block)) p q) (λ z site. At z (i.Call (pos (block_number s block)) (pos (operands es))) (line_at s token.0)) c0 c1 c g2
      (emits_at w c1 c (i.Call (pos (block_number s block)) (pos (operands es))) (line_at s token.0) (ec ∙ ap (λ z. with_instr c1 z line2) at ∙ ap (λ z. with_instr c1 (i.Call (pos (block_number s block)) (pos (operands es))) z) el2) (λ z. cc) refl)))))

  pub of_virtual : (a c0 c : DraftOf) (token : TokenNo) (d : DeclNo) (k : Seen) (es : List Expr) → k ≡ seen.Virtual → WritesMatch b a c0 token d → WritesValueCall b w n c0 c token es → WritesSeenOf b w n a c token d k es
  unfolding WritesSeenOf PutsBase WritesValueCall
  of_virtual a c0 c token d k ys is f g start y h =
      let s = source_of b in
      let es = expressions (map syntax_of ys) in
      subst (Has start c token d y es) (sym is)
      (emits_as w _ _ _ _ start c (λ t. t) (λ t. t) (λ final site p q _ _ r. record { x = r.0; y = r.2.0; procedure = r.1; actuals = r.2.1; called = r.2.2 })
      (emits_then w _ _ (λ final site p q. MatchAt final (line_at s token.0) d.0 (λ u v. BaseAt s final site n y u v) p q) (λ z site p q. (v : ℕ) × ActualsAt s z site (suc n) (line_at s token.0) false es Checked p v × At z (i.CallV (pos (operands es))) (line_at s token.0) v q) start c0 c
      (match_found b w (BaseBuilt s w.text y) (λ final site p q. BaseAt s final site n y p q) start a c0 token d h f) g))

  pub of_named : (a c : DraftOf) (token : TokenNo) (d : DeclNo) (k : Seen) (es : List Expr) → k ≡ seen.Named → c ≡ given_up a → WritesSeenOf b w n a c token d k es
  unfolding WritesSeenOf PutsBase
  of_named a c token d k es is ec start y h = subst (Has start c token d y (expressions (map syntax_of es))) (sym is) (gives_up _ _ _ _ start a c h (λ t. t) ec)

  pub of_named_array : (a c : DraftOf) (token : TokenNo) (d : DeclNo) (k : Seen) (es : List Expr) → k ≡ seen.NamedArray → c ≡ given_up a → WritesSeenOf b w n a c token d k es
  unfolding WritesSeenOf PutsBase
  of_named_array a c token d k es is ec start y h = subst (Has start c token d y (expressions (map syntax_of es))) (sym is) (gives_up _ _ _ _ start a c h (λ t. t) ec)

  pub of_procedure : (a c : DraftOf) (token : TokenNo) (d : DeclNo) (k : Seen) (named : Bool) (es : List Expr) → k ≡ seen.Procedure named → c ≡ given_up a → WritesSeenOf b w n a c token d k es
  unfolding WritesSeenOf PutsBase
  of_procedure a c token d k named es is ec start y h = subst (Has start c token d y (expressions (map syntax_of es))) (sym is) (gives_up _ _ _ _ start a c h (λ t. t) ec)

  pub of_nothing : (a c : DraftOf) (token : TokenNo) (d : DeclNo) (k : Seen) (es : List Expr) → k ≡ seen.Nothing → c ≡ given_up a → WritesSeenOf b w n a c token d k es
  unfolding WritesSeenOf PutsBase
  of_nothing a c token d k es is ec start y h = subst (Has start c token d y (expressions (map syntax_of es))) (sym is) (gives_up _ _ _ _ start a c h (λ t. t) ec)

  of_emits : (a c : DraftOf) (line : ℕ) (d : DeclNo) (k : Option Entry) (es : Expressions) (O P : Type 0) (A : Parameters → Type 0) (X I : Part) (B : CodeOf → Site → Parameters → ℕ → ℕ → Type 0) → k ≡ entry_of (source_of b).tables d → set_procedure k ≡ None
      → Emits w a c (SeenOfBuilt (source_of b) d (attribute_seen k) es O P A) (λ final site p q. SeenOfAt (source_of b) final site n line d (attribute_seen k) es (X final site) (I final site) (B final site) p q)
      → Emits w a c (OfObjectBuilt (source_of b) d k es O P (A (parameters_of k (formals_at (source_of b) d)))) (λ final site p q. OfObjectAt (source_of b) final site n line d k es (X final site) (I final site) (B final site (parameters_of k (formals_at (source_of b) d))) p q)
  of_emits a c line d None es O P A X I B ek none f = f
  of_emits a c line d (Some (entry.Variable type)) es O P A X I B ek none f = f
  of_emits a c line d (Some (entry.Constant type)) es O P A X I B ek none f = f
  of_emits a c line d (Some (entry.Array element dimensions)) es O P A X I B ek none f = f
  of_emits a c line d (Some (entry.Procedure result block)) es O P A X I B ek none f =
      subst (λ fs. Emits w a c (O × A (Listed fs)) (λ final site p q. RemoteCallAt (source_of b) final line block es (X final site) (B final site (Listed fs)) p q)) (block_formals (source_of b) d result block ek) f
  of_emits a c line d (Some (entry.Class text)) es O P A X I B ek none f = f
  of_emits a c line d (Some (entry.Virtual result own)) es O P A X I B ek none f = f
  of_emits a c line d (Some (entry.Unspecified written)) es O P A X I B ek none f = f
  of_emits a c line d (Some (entry.Attribute name parameter result)) es O P A X I B ek none f = absurd (cc)
  of_emits a c line d (Some (entry.Formal x)) es O P A X I B ek none f = formal x.kind f
    where
      formal : (k : FormalKind) → Emits w a c (SeenOfBuilt (source_of b) d (parameter_seen k) es O P A) (λ final site p q. SeenOfAt (source_of b) final site n line d (parameter_seen k) es (X final site) (I final site) (B final site) p q)
          → Emits w a c (ParameterOfBuilt (source_of b) d k es O P) (λ final site p q. ParameterOfAt (source_of b) final line d k es (X final site) (I final site) p q)
      formal shape.Simple f = f
      formal shape.Array f = f
      formal shape.Procedure f = f

  pub of_declared : (a c : DraftOf) (token : TokenNo) (d : DeclNo) (es : List Expr) (k : Option Entry) (r : Option SetProcedure) (x : Seen) → k ≡ entry_of b.scopes d → r ≡ set_procedure k → r ≡ None → x ≡ attribute_seen k → WritesSeenOf b w n a c token d x es → WritesOf b w n a c token d es
  unfolding WritesOf WritesSeenOf source_of
  of_declared a c token d ys k r x ek er none ex f start y h =
      let s = source_of b in
      let es = expressions (map syntax_of ys) in
      let line = line_at s token.0 in
      of_emits start c line d (entry_of s.tables d) es (BaseBuilt s w.text y) (AreBuilt s w.text es) (λ formals. ActualsBuilt s w.text es formals) (λ final site p q. BaseAt s final site n y p q) (λ final site p q. ExprsAt s final site (suc n) es p q) (λ final site formals p q. ActualsAt s final site (suc n) line false es formals p q) refl (ap set_procedure (sym ek) ∙ sym er ∙ none)
      (subst (Has start c token d y es) (ex ∙ ap attribute_seen ek) (f start y h))

  set_emits : (a c : DraftOf) (line : ℕ) (d : DeclNo) (k : Option Entry) (x : SetProcedure) (es : Expressions) (O P : Type 0) (A : Parameters → Type 0) (X I : Part) (B : CodeOf → Site → Parameters → ℕ → ℕ → Type 0) → k ≡ entry_of (source_of b).tables d → set_procedure k ≡ Some x
      → Emits w a c (O × SetNamed x.name x.result (operands es) × A (Listed (attribute_formals x.parameter))) (λ final site p q. SetAt final line x.name x.result es (X final site) (B final site (Listed (attribute_formals x.parameter))) p q)
      → Emits w a c (OfObjectBuilt (source_of b) d k es O P (A (parameters_of k (formals_at (source_of b) d)))) (λ final site p q. OfObjectAt (source_of b) final site n line d k es (X final site) (I final site) (B final site (parameters_of k (formals_at (source_of b) d))) p q)
  set_emits a c line d None x es O P A X I B ek some f = absurd (cc)
  set_emits a c line d (Some (entry.Variable type)) x es O P A X I B ek some f = absurd (cc)
  set_emits a c line d (Some (entry.Constant type)) x es O P A X I B ek some f = absurd (cc)
  set_emits a c line d (Some (entry.Array element dimensions)) x es O P A X I B ek some f = absurd (cc)
  set_emits a c line d (Some (entry.Procedure result block)) x es O P A X I B ek some f = absurd (cc)
  set_emits a c line d (Some (entry.Class text)) x es O P A X I B ek some f = absurd (cc)
  set_emits a c line d (Some (entry.Virtual result own)) x es O P A X I B ek some f = absurd (cc)
  set_emits a c line d (Some (entry.Unspecified written)) x es O P A X I B ek some f = absurd (cc)
  set_emits a c line d (Some (entry.Formal y)) x es O P A X I B ek some f = absurd (cc)
  set_emits a c line d (Some (entry.Attribute name parameter result)) x es O P A X I B ek some f =
      let is : record { name = name; parameter = parameter; result = result } ≡ x = cc in
      let f' = subst (λ z. Emits w a c (O × SetNamed z.name z.result (operands es) × A (Listed (attribute_formals z.parameter))) (λ final site p q. SetAt final line z.name z.result es (X final site) (B final site (Listed (attribute_formals z.parameter))) p q)) (sym is) f in
      subst (λ fs. Emits w a c (O × SetNamed name result (operands es) × A (Listed fs)) (λ final site p q. SetAt final line name result es (X final site) (B final site (Listed fs)) p q)) (ap (formals_declared (source_of b) d) ek) f'

  pub of_set : (a c : DraftOf) (token : TokenNo) (d : DeclNo) (es : List Expr) (k : Option Entry) (r : Option SetProcedure) (x : SetProcedure) → k ≡ entry_of b.scopes d → r ≡ set_procedure k → r ≡ Some x → WritesSet b w n a c token x es → WritesOf b w n a c token d es
  unfolding WritesOf WritesSet source_of
  of_set a c token d ys k r x ek er some f start y h =
      let s = source_of b in
      let es = expressions (map syntax_of ys) in
      let line = line_at s token.0 in
      set_emits start c line d (entry_of s.tables d) x es (BaseBuilt s w.text y) (AreBuilt s w.text es) (λ formals. ActualsBuilt s w.text es formals) (λ final site p q. BaseAt s final site n y p q) (λ final site p q. ExprsAt s final site (suc n) es p q) (λ final site formals p q. ActualsAt s final site (suc n) line false es formals p q) refl (ap set_procedure (sym ek) ∙ sym er ∙ some)
      (f start y h)

  -- ---- where what an object has lies

  abbrev LiesIn : (start c : DraftOf) → (class : ℕ) → TokenNo → DeclNo → Base → Expressions → Seen → Type 0
  LiesIn start c class token d x es k =
      Emits w start c (SeenPlaceOfBuilt (source_of b) d k es (BaseBuilt (source_of b) w.text x) (AreBuilt (source_of b) w.text es))
      (λ final site p q. SeenPlaceOfAt (source_of b) final (line_at (source_of b) token.0) class d k es (λ u v. BaseAt (source_of b) final site n x u v) (λ u v. ExprsAt (source_of b) final site (suc n) es u v) p q)

  pub lying_variable : (a c : DraftOf) (class : ℕ) (token : TokenNo) (d : DeclNo) (k : Seen) (es : List Expr) → k ≡ seen.Variable → length es ≡ 0 → WritesAttribute b w n a c class token d → WritesSeenPlaceOf b w n a c class token d k es
  unfolding WritesSeenPlaceOf WritesAttribute
  lying_variable a c class token d k [] is none f start y h = subst (LiesIn start c class token d y NoMore) (sym is) (f start y h)
  lying_variable a c class token d k (z ∷ zs) is none f start y h = absurd (omega (arith, none))

  pub lying_no_variable : (a c : DraftOf) (class : ℕ) (token : TokenNo) (d : DeclNo) (k : Seen) (es : List Expr) → k ≡ seen.Variable → length es ≢ 0 → c ≡ given_up a → WritesSeenPlaceOf b w n a c class token d k es
  unfolding WritesSeenPlaceOf PutsBase
  lying_no_variable a c class token d k [] is some' ec start y h = absurd (some' refl)
  lying_no_variable a c class token d k (z ∷ zs) is some' ec start y h = subst (LiesIn start c class token d y (expressions (map syntax_of (z ∷ zs)))) (sym is) (gives_up _ _ _ _ start a c h (λ t. t) ec)

  pub lying_element : (a c : DraftOf) (class : ℕ) (token : TokenNo) (d : DeclNo) (k : Seen) (es : List Expr) → k ≡ seen.Array → length es ≢ 0 → WritesElementOf b w n a c class token d es → WritesSeenPlaceOf b w n a c class token d k es
  unfolding WritesSeenPlaceOf WritesElementOf
  lying_element a c class token d k [] is some' f start y h = absurd (some' refl)
  lying_element a c class token d k (z ∷ zs) is some' f start y h = subst (LiesIn start c class token d y (expressions (map syntax_of (z ∷ zs)))) (sym is) (f start y h)

  pub lying_array : (a c : DraftOf) (class : ℕ) (token : TokenNo) (d : DeclNo) (k : Seen) (es : List Expr) → k ≡ seen.Array → length es ≡ 0 → c ≡ given_up a → WritesSeenPlaceOf b w n a c class token d k es
  unfolding WritesSeenPlaceOf PutsBase
  lying_array a c class token d k [] is none ec start y h = subst (LiesIn start c class token d y NoMore) (sym is) (gives_up _ _ _ _ start a c h (λ t. t) ec)
  lying_array a c class token d k (z ∷ zs) is none ec start y h = absurd (omega (arith, none))

  pub lying_constant : (a c : DraftOf) (class : ℕ) (token : TokenNo) (d : DeclNo) (k : Seen) (es : List Expr) → k ≡ seen.Constant → c ≡ given_up a → WritesSeenPlaceOf b w n a c class token d k es
  unfolding WritesSeenPlaceOf PutsBase
  lying_constant a c class token d k es is ec start y h = subst (LiesIn start c class token d y (expressions (map syntax_of es))) (sym is) (gives_up _ _ _ _ start a c h (λ t. t) ec)

  pub lying_call : (a c : DraftOf) (class : ℕ) (token : TokenNo) (d : DeclNo) (k : Seen) (block : ℕ) (es : List Expr) → k ≡ seen.Call block → c ≡ given_up a → WritesSeenPlaceOf b w n a c class token d k es
  unfolding WritesSeenPlaceOf PutsBase
  lying_call a c class token d k block es is ec start y h = subst (LiesIn start c class token d y (expressions (map syntax_of es))) (sym is) (gives_up _ _ _ _ start a c h (λ t. t) ec)

  pub lying_virtual : (a c : DraftOf) (class : ℕ) (token : TokenNo) (d : DeclNo) (k : Seen) (es : List Expr) → k ≡ seen.Virtual → c ≡ given_up a → WritesSeenPlaceOf b w n a c class token d k es
  unfolding WritesSeenPlaceOf PutsBase
  lying_virtual a c class token d k es is ec start y h = subst (LiesIn start c class token d y (expressions (map syntax_of es))) (sym is) (gives_up _ _ _ _ start a c h (λ t. t) ec)

  pub lying_named : (a c : DraftOf) (class : ℕ) (token : TokenNo) (d : DeclNo) (k : Seen) (es : List Expr) → k ≡ seen.Named → c ≡ given_up a → WritesSeenPlaceOf b w n a c class token d k es
  unfolding WritesSeenPlaceOf PutsBase
  lying_named a c class token d k es is ec start y h = subst (LiesIn start c class token d y (expressions (map syntax_of es))) (sym is) (gives_up _ _ _ _ start a c h (λ t. t) ec)

  pub lying_named_array : (a c : DraftOf) (class : ℕ) (token : TokenNo) (d : DeclNo) (k : Seen) (es : List Expr) → k ≡ seen.NamedArray → c ≡ given_up a → WritesSeenPlaceOf b w n a c class token d k es
  unfolding WritesSeenPlaceOf PutsBase
  lying_named_array a c class token d k es is ec start y h = subst (LiesIn start c class token d y (expressions (map syntax_of es))) (sym is) (gives_up _ _ _ _ start a c h (λ t. t) ec)

  pub lying_procedure : (a c : DraftOf) (class : ℕ) (token : TokenNo) (d : DeclNo) (k : Seen) (named : Bool) (es : List Expr) → k ≡ seen.Procedure named → c ≡ given_up a → WritesSeenPlaceOf b w n a c class token d k es
  unfolding WritesSeenPlaceOf PutsBase
  lying_procedure a c class token d k named es is ec start y h = subst (LiesIn start c class token d y (expressions (map syntax_of es))) (sym is) (gives_up _ _ _ _ start a c h (λ t. t) ec)

  pub lying_nothing : (a c : DraftOf) (class : ℕ) (token : TokenNo) (d : DeclNo) (k : Seen) (es : List Expr) → k ≡ seen.Nothing → c ≡ given_up a → WritesSeenPlaceOf b w n a c class token d k es
  unfolding WritesSeenPlaceOf PutsBase
  lying_nothing a c class token d k es is ec start y h = subst (LiesIn start c class token d y (expressions (map syntax_of es))) (sym is) (gives_up _ _ _ _ start a c h (λ t. t) ec)

  lying_emits : (a c : DraftOf) (line class : ℕ) (d : DeclNo) (k : Option Entry) (es : Expressions) (O P : Type 0) (X I : Part)
      → Emits w a c (SeenPlaceOfBuilt (source_of b) d (attribute_seen k) es O P) (λ final site p q. SeenPlaceOfAt (source_of b) final line class d (attribute_seen k) es (X final site) (I final site) p q)
      → Emits w a c (PlaceOfObjectBuilt (source_of b) d k es O P) (λ final site p q. PlaceOfObjectAt (source_of b) final line class d k es (X final site) (I final site) p q)
  lying_emits a c line class d None es O P X I f = f
  lying_emits a c line class d (Some (entry.Variable type)) es O P X I f = f
  lying_emits a c line class d (Some (entry.Constant type)) es O P X I f = f
  lying_emits a c line class d (Some (entry.Array element dimensions)) es O P X I f = f
  lying_emits a c line class d (Some (entry.Procedure result block)) es O P X I f = f
  lying_emits a c line class d (Some (entry.Class text)) es O P X I f = f
  lying_emits a c line class d (Some (entry.Virtual result own)) es O P X I f = f
  lying_emits a c line class d (Some (entry.Unspecified written)) es O P X I f = f
  lying_emits a c line class d (Some (entry.Attribute name parameter result)) es O P X I f = f
  lying_emits a c line class d (Some (entry.Formal x)) es O P X I f = formal x.kind f
    where
      formal : (k : FormalKind) → Emits w a c (SeenPlaceOfBuilt (source_of b) d (parameter_seen k) es O P) (λ final site p q. SeenPlaceOfAt (source_of b) final line class d (parameter_seen k) es (X final site) (I final site) p q)
          → Emits w a c (ParameterPlaceOfBuilt (source_of b) d k es O P) (λ final site p q. ParameterPlaceOfAt (source_of b) final line class d k es (X final site) (I final site) p q)
      formal shape.Simple f = f
      formal shape.Array f = f
      formal shape.Procedure f = f

  pub lying_declared : (a c : DraftOf) (class : ℕ) (token : TokenNo) (d : DeclNo) (es : List Expr) (k : Option Entry) (x : Seen) → k ≡ entry_of b.scopes d → x ≡ attribute_seen k → WritesSeenPlaceOf b w n a c class token d x es → WritesPlaceOf b w n a c class token d es
  unfolding WritesPlaceOf WritesSeenPlaceOf source_of
  lying_declared a c class token d ys k x ek ex f start y h =
      let s = source_of b in
      let es = expressions (map syntax_of ys) in
      lying_emits start c (line_at s token.0) class d (entry_of s.tables d) es (BaseBuilt s w.text y) (AreBuilt s w.text es) (λ final site p q. BaseAt s final site n y p q) (λ final site p q. ExprsAt s final site (suc n) es p q)
      (subst (LiesIn start c class token d y es) (ex ∙ ap attribute_seen ek) (f start y h))

  abbrev Behind : (start c : DraftOf) → (class : ℕ) → TokenNo → Base → Expressions → Option Denotation → Type 0
  Behind start c class token x es o =
      Emits w start c (PlaceBehindBuilt (source_of b) o es (BaseBuilt (source_of b) w.text x) (AreBuilt (source_of b) w.text es))
      (λ final site p q. PlaceBehindAt (source_of b) final (line_at (source_of b) token.0) class o es (λ u v. BaseAt (source_of b) final site n x u v) (λ u v. ExprsAt (source_of b) final site (suc n) es u v) p q)

  pub behind_declared : (a c : DraftOf) (class : ℕ) (token : TokenNo) (es : List Expr) (o : Option Denotation) (d : DeclNo) → o ≡ denoted (source_of b) token.0 → o ≡ Some (denotation.Declared d) → WritesPlaceOf b w n a c class token d es → WritesPlaceBehind b w n a c class token es
  unfolding WritesPlaceBehind WritesPlaceOf
  behind_declared a c class token es o d eo some f start y h = subst (Behind start c class token y (expressions (map syntax_of es))) (sym some ∙ eo) (f start y h)

  pub behind_standard : (a c : DraftOf) (class : ℕ) (token : TokenNo) (es : List Expr) (o : Option Denotation) (x : StandardName) → o ≡ denoted (source_of b) token.0 → o ≡ Some (denotation.Standard x) → c ≡ given_up a → WritesPlaceBehind b w n a c class token es
  unfolding WritesPlaceBehind PutsBase
  behind_standard a c class token es o x eo some ec start y h = subst (Behind start c class token y (expressions (map syntax_of es))) (sym some ∙ eo) (gives_up _ _ _ _ start a c h (λ t. t) ec)

  pub behind_undeclared : (a c : DraftOf) (class : ℕ) (token : TokenNo) (es : List Expr) (o : Option Denotation) → o ≡ denoted (source_of b) token.0 → o ≡ None → c ≡ given_up a → WritesPlaceBehind b w n a c class token es
  unfolding WritesPlaceBehind PutsBase
  behind_undeclared a c class token es o eo none ec start y h = subst (Behind start c class token y (expressions (map syntax_of es))) (sym none ∙ eo) (gives_up _ _ _ _ start a c h (λ t. t) ec)

  -- ---- `new`

  pub generated : (a c0 c1 c : DraftOf) (token : TokenNo) (y : Identifier) (d : DeclNo) (k : ℕ) (es : List Expr) (fs : List Formal) (m j num l line : ℕ) (x : Instr) → m ≡ suc n → WritesLink b w n a c0 d → fs ≡ class_parameters (source_of b) (Some k) → WritesActuals b w m c0 c1 true y.token es fs
      → j ≡ block_number (source_of b) k → num ≡ class_of c1.classes j → l ≡ length es → x ≡ i.New (pos num) (pos l) → line ≡ line_at (source_of b) token.0 → c ≡ with_instr c1 x line → WritesGeneration b w n a c token y d k es
  unfolding WritesGeneration WritesLink WritesLinkTo WritesActuals
  generated a c0 c1 c token y d k ys fs m j num l line x em f ef g ej en ek ex el ec =
      let s = source_of b in
      let es = expressions (map syntax_of ys) in
      let ps = Listed (class_parameters s (Some k)) in
      let at : x ≡ i.New (pos num) (pos (operands es)) = ex ∙ ap (λ z. i.New (pos num) (pos z)) (ek ∙ sym (count ys)) in
      let g1 = subst (λ z. Emits w c0 c1 (ActualsBuilt s w.text es (Listed fs)) (λ final site p q. ActualsAt s final site z (line_at s y.token.0) true es (Listed fs) p q)) em g in
      let g2 = subst (λ z. Emits w c0 c1 (ActualsBuilt s w.text es (Listed z)) (λ final site p q. ActualsAt s final site (suc n) (line_at s y.token.0) true es (Listed z) p q)) ef g1 in
      let number : num ≡ class_of a.classes (block_number s k) = en ∙ ap (class_of c1.classes) ej ∙ ap (λ z. class_of z (block_number s k)) (g2.classed ∙ f.classed) in
      emits_classed w _ (λ final site p q. (u : ℕ) × (v : ℕ) × (Pushes final site n (i.Link (pos (level_of s (block_of s d)))) p u × Inside s.tables site.text (block_of s d)) × ActualsAt s final site (suc n) (line_at s y.token.0) true es ps u v × At final x (line_at s token.0) v q) _ a c
      (λ final site p q all r. record { x = r.0; y = r.1; link = r.2.0; inside = r.2.1; actuals = r.3; new = subst (λ z. At final z (line_at s token.0) r.1 q) (at ∙ ap (λ z. i.New (pos z) (pos (operands es))) (sym (class_numbered s final a.classes k num all number))) r.4 })
      (emits_as w _ _ _ _ a c (λ t. (t.0, (t.1, tt))) (λ t. (t.0, t.1.0)) (λ final site p q _ _ r. (r.0, r.2.0, r.1, r.2.1, r.2.2))
      (emits_then w _ _ (λ z site p q. Pushes z site n (i.Link (pos (level_of s (block_of s d)))) p q × Inside s.tables site.text (block_of s d)) (λ z site p q. (v : ℕ) × ActualsAt s z site (suc n) (line_at s y.token.0) true es ps p v × At z x (line_at s token.0) v q) a c0 c f
      (emits_then w _ _ (λ z site p q. ActualsAt s z site (suc n) (line_at s y.token.0) true es ps p q) (λ z site. At z x (line_at s token.0)) c0 c1 c g2
      (emits_at w c1 c x (line_at s token.0) (ec ∙ ap (λ z. with_instr c1 x z) el) (λ z. let h : i.New (pos num) (pos l) ≡ i.Halt = sym ex ∙ z in cc) (ap runs ex)))))

  abbrev News : (a c : DraftOf) → TokenNo → Identifier → Expressions → Option Denotation → (class : Option ℕ) → Type 0
  News a c token y es o k =
      Emits w a c (GenerationBuilt (source_of b) w.text o k (ActualsBuilt (source_of b) w.text es (Listed (class_parameters (source_of b) k))))
      (λ final site p q. GenerationAt (source_of b) final site n (line_at (source_of b) token.0) y.token.0 o k es (λ u v. ActualsAt (source_of b) final site (suc n) (line_at (source_of b) y.token.0) true es (Listed (class_parameters (source_of b) k)) u v) p q)

  abbrev Generated : DeclNo → (class : ℕ) → TokenNo → Identifier → Expressions → Part
  Generated d k token y es final site p q = NewAt (source_of b) final site n (line_at (source_of b) token.0) d k es (λ u v. ActualsAt (source_of b) final site (suc n) (line_at (source_of b) y.token.0) true es (Listed (class_parameters (source_of b) (Some k))) u v) p q

  -- of the class k, which is `process` itself where t holds
  abbrev NewsOf : (a c : DraftOf) → TokenNo → Identifier → Expressions → DeclNo → (class : ℕ) → Bool → Type 0
  NewsOf a c token y es d k t =
      Emits w a c (StandsIn (source_of b) w.text (block_of (source_of b) d) × ActualsBuilt (source_of b) w.text es (Listed (class_parameters (source_of b) (Some k))))
      (λ final site p q. OriginIfAt (source_of b) final site n (line_at (source_of b) token.0) y.token.0 k t (Generated d k token y es final site) p q)

  news_of : (a c : DraftOf) (token : TokenNo) (y : Identifier) (es : List Expr) (o : Option Denotation) (d : DeclNo) (r : Option ℕ) (k : ℕ) (t : Bool) → o ≡ denoted (source_of b) y.token.0 → o ≡ Some (denotation.Declared d) → r ≡ class_at (source_of b) y.token.0 → r ≡ Some k
      → t ≡ is_process_itself (source_of b) k → NewsOf a c token y (expressions (map syntax_of es)) d k t → WritesNew b w n a c token y es
  unfolding WritesNew
  news_of a c token y ys o d r k t eo some er named et f =
      let es = expressions (map syntax_of ys) in
      subst (λ z. News a c token y es z (class_at (source_of b) y.token.0)) (sym some ∙ eo) (subst (News a c token y es (Some (denotation.Declared d))) (sym named ∙ er) (subst (NewsOf a c token y es d k) et f))

  pub new_declared : (a c : DraftOf) (token : TokenNo) (y : Identifier) (es : List Expr) (o : Option Denotation) (d : DeclNo) (r : Option ℕ) (k : ℕ) (t : Bool) → o ≡ denoted (source_of b) y.token.0 → o ≡ Some (denotation.Declared d) → r ≡ class_at (source_of b) y.token.0 → r ≡ Some k
      → WritesGeneration b w n a c token y d k es → t ≡ is_process_itself (source_of b) k → t ≡ false → WritesNew b w n a c token y es
  unfolding WritesGeneration
  new_declared a c token y ys o d r k t eo some er named f et no' = news_of a c token y ys o d r k t eo some er named et (subst (NewsOf a c token y (expressions (map syntax_of ys)) d k) (sym no') f)

  pub new_process : (a c0 c : DraftOf) (token : TokenNo) (y : Identifier) (es : List Expr) (o : Option Denotation) (d : DeclNo) (r : Option ℕ) (k : ℕ) (t : Bool) → o ≡ denoted (source_of b) y.token.0 → o ≡ Some (denotation.Declared d) → r ≡ class_at (source_of b) y.token.0 → r ≡ Some k
      → WritesGeneration b w n a c0 token y d k es → t ≡ is_process_itself (source_of b) k → t ≡ true → WritesOrigin b w n c0 c token y.token k → WritesNew b w n a c token y es
  unfolding WritesGeneration WritesOrigin
  new_process a c0 c token y ys o d r k t eo some er named f et yes' g =
      let s = source_of b in
      let es = expressions (map syntax_of ys) in
      let line = line_at s token.0 in
      news_of a c token y ys o d r k t eo some er named et (subst (NewsOf a c token y es d k) (sym yes')
      (emits_as w _ _ _ _ a c (λ h. (h, tt)) (λ h. h.0)
      (λ final site p q _ _ r. record { x = r.0; y = r.2.1; z = r.2.2; w = r.2.3; new = r.1; again = r.2.4; address = r.2.5; token_pushed = r.2.6; put = r.2.7; within = r.2.0 })
      (emits_then w _ ⊤ (Generated d k token y es)
      (λ final site p q. (HasCell s k Origin) × (x : ℕ) × (z : ℕ) × (v : ℕ) × Pushes final site (suc n) i.Dup p x × At final (i.AddrR (pos (slot_of s final k Origin)) (pos 0)) line x z × Pushes final site (suc (suc n)) (i.Int (pos y.token.0)) z v × Is final i.Put v q)
      a c0 c f (g (sym et ∙ yes')))))

  pub new_no_class : (a c : DraftOf) (token : TokenNo) (y : Identifier) (es : List Expr) (o : Option Denotation) (d : DeclNo) (r : Option ℕ) → o ≡ denoted (source_of b) y.token.0 → o ≡ Some (denotation.Declared d) → r ≡ class_at (source_of b) y.token.0 → r ≡ None → c ≡ given_up a → WritesNew b w n a c token y es
  unfolding WritesNew
  new_no_class a c token y ys o d r eo some er none ec =
      let es = expressions (map syntax_of ys) in
      subst (λ z. News a c token y es z (class_at (source_of b) y.token.0)) (sym some ∙ eo) (subst (News a c token y es (Some (denotation.Declared d))) (sym none ∙ er) (emits_nothing w a c _ _ (λ z. z) ec))

  pub new_standard : (a c : DraftOf) (token : TokenNo) (y : Identifier) (es : List Expr) (o : Option Denotation) (x : StandardName) → o ≡ denoted (source_of b) y.token.0 → o ≡ Some (denotation.Standard x) → c ≡ given_up a → WritesNew b w n a c token y es
  unfolding WritesNew
  new_standard a c token y ys o x eo some ec = subst (λ z. News a c token y (expressions (map syntax_of ys)) z (class_at (source_of b) y.token.0)) (sym some ∙ eo) (emits_nothing w a c _ _ (λ z. z) ec)

  pub new_undeclared : (a c : DraftOf) (token : TokenNo) (y : Identifier) (es : List Expr) (o : Option Denotation) → o ≡ denoted (source_of b) y.token.0 → o ≡ None → c ≡ given_up a → WritesNew b w n a c token y es
  unfolding WritesNew
  new_undeclared a c token y ys o eo none ec = subst (λ z. News a c token y (expressions (map syntax_of ys)) z (class_at (source_of b) y.token.0)) (sym none ∙ eo) (emits_nothing w a c _ _ (λ z. z) ec)

pub ruleset leaves = (connected_load, connected_no_slot, connected_outside, object_pushed, object_outside, this_connected, this_object, this_nowhere, attribute_found, attribute_no_slot, constant_read, constant_no_slot, member_named, member_unnamed, qua_named, qua_unnamed, fitted)

pub ruleset objects = (element_of, of_variable, of_no_variable, of_constant, of_no_constant, of_array, of_element, of_call, of_virtual, of_named, of_named_array, of_procedure, of_nothing, of_declared, of_set, lying_variable, lying_no_variable, lying_element, lying_array, lying_constant, lying_call, lying_virtual, lying_named, lying_named_array, lying_procedure, lying_nothing, lying_declared, behind_declared, behind_standard, behind_undeclared, generated, new_declared, new_process, new_no_class, new_standard, new_undeclared)
