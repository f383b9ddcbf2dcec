-- Connections.
use Rattle.std.proofs.Common.{◌≡◌, ◌≢◌, ◌<◌, ◌≤◌, ◌+◌, ℕ, suc, ℤ, pos, Bool, true, false, [], ◌∷◌, length, Option, Some, None, refl, sym, ap, ◌∙◌, subst, arith}
use Rattle.std.specs.Prelude.{⊤, slice_get, slice_set}
use Rattle.std.specs.declared.alloc.Global.{Global}
use Rattle.std.specs.declared.boxed.Box.{Box}
use Rattle.sim_base.specs.declared.numbering.TokenNo.{TokenNo}
use Rattle.sim_scope.specs.declared.bound.Bound.{Bound}
use Rattle.sim_scope.specs.Access.{block_at, encloser}
use Rattle.sim_scope.specs.Source.{block_around, level_of, source_of}
use Rattle.sim_tree.specs.declared.expr.Expr.{Expr}
use Rattle.sim_tree.specs.declared.stmt.Stmt.{Stmt}
use Rattle.sim_tree.specs.declared.stmt.When.{When}
use Rattle.sim_tree.specs.Syntax.{Also, NoStatement}
use Rattle.sim_tree.specs.SyntaxOf.{syntax_of}
use Rattle.sim_tree.specs.SyntaxOfProgram.{Arm, arm_syntax, branch_syntax, statement_syntax}
use Rattle.sim_tree.proofs.ProgramSyntaxLemmas as v
use Rattle.sim_code.specs.declared.instr.Instr.{Instr}
use Rattle.sim_code.specs.declared.instr.Instr.TheVariants as i
use Rattle.sim_code.specs.Code.{CodeOf}
use Rattle.sim_meaning.specs.Attributes.{cell_of_connection, first_in, is_connection}
use Rattle.sim_meaning.specs.Levels.{class_at}
use Rattle.sim_meaning.specs.Pending.{Connection}
use Rattle.sim_meaning.specs.Texts.{ConnectionText, Text, text}
use Rattle.codegen_expr.specs.declared.spot.Spot.{Spot}
use Rattle.codegen_expr.specs.Built.{ClassBuilt, IsBuilt, is_there, slot_in}
use Rattle.codegen_expr.specs.CodeExpr.{ExprAt}
use Rattle.codegen_expr.specs.Drafts.{Becomes, DraftOf, Emits, class_of, filled_in, given_up, planned_start, with_hole, with_instr, with_push}
use Rattle.codegen_expr.specs.Emit.{Puts, Writes}
use Rattle.codegen_expr.specs.Sites.{Ahead, At, Is, Pushes, Site, block_number, class_number, frame_text, lined, slot_of}
use Rattle.codegen_expr.proofs.Pieces.{emits_as, emits_at, emits_classed, emits_if, emits_nothing, emits_push, emits_then, emits_when, fronts_le, later_emits, becomes_later, set_other}
use Rattle.codegen.specs.BuiltProgram.{ConnectsBuilt, StatementBuilt, StatementsBuilt}
use Rattle.codegen.specs.CodeStm.{ArmOfAt, ConnectsAt, StmAt, StmsAt}
use Rattle.codegen.specs.Emit.{WritesStatement}
use Rattle.codegen.specs.EmitConnections.{ArmBuilt, ArmFrom, OpenEmits, WritesArm, WritesConnected, WritesConnection, WritesOtherwise}
use Rattle.codegen.proofs.Inspected.{WritesInspect}
use Rattle.codegen_expr.proofs.Slots.{slot_found}
use Rattle.codegen.proofs.Cells.{cell_there}
use Rattle.codegen.proofs.Holes.{as_long, emits_hole, hole_there, longer, longer_hole}
use Rattle.codegen.proofs.Lying.{numbered}

-- an arm of the tree, in the syntax
pub arm_is : (x : When) → arm_syntax x ≡ record { token = x.token.0; class = x.class; opening = x.opening.0; body = statement_syntax x.body; end = x.end.0 }
arm_is x = v.syntax-when x.token x.class x.opening x.body x.end

connection_is : (x : Option Text) → is_connection x ≡ true → x ≡ Some ConnectionText
connection_is (Some ConnectionText) e = refl
connection_is _ e = absurd (cc)

module _ (b : Bound) (w : Spot) where
  -- ---- a connection

  pub connection_no_text : (a c : DraftOf) (opening : TokenNo) (k : ℕ) (x : Stmt) (t : Bool) → t ≡ is_connection (text (source_of b) k) → t ≡ false → c ≡ given_up a → WritesConnection b w a c opening (Some k) x
  unfolding WritesConnection
  connection_no_text a c opening k x t et no' ec = emits_nothing w a c _ _ (λ h. let e : is_connection (text (source_of b) k) ≡ true = ap is_connection h.is in let f = sym et ∙ no' in cc) ec

  pub connection_begins_not : (a c : DraftOf) (opening : TokenNo) (k first : ℕ) (x : Stmt) → first ≡ first_in (slice_get (source_of b).tables.blocks k) → first ≢ opening.0 → c ≡ given_up a → WritesConnection b w a c opening (Some k) x
  unfolding WritesConnection
  connection_begins_not a c opening k first x ef ne ec = emits_nothing w a c _ _ (λ h. ne (ef ∙ same_token h.begins)) ec
    where
      same_token : {m n : ℕ} → Connection m ≡ Connection n → m ≡ n
      same_token e = cc

  pub connection_elsewhere : (a c : DraftOf) (opening : TokenNo) (k : ℕ) (x : Stmt) → encloser b.scopes k ≢ Some w.text → c ≡ given_up a → WritesConnection b w a c opening (Some k) x
  unfolding WritesConnection source_of
  connection_elsewhere a c opening k x ne ec = emits_nothing w a c _ _ (λ h. ne h.stands) ec

  -- the cell of a connection that begins at a token
  slot_as : (k opening : ℕ) (o : Option ℕ) → cell_of_connection (source_of b) k ≡ Connection opening → o ≡ slot_in (source_of b) (frame_text (source_of b) k) (cell_of_connection (source_of b) k) → o ≡ slot_in (source_of b) (frame_text (source_of b) k) (Connection opening)
  slot_as k opening o begins eo = eo ∙ ap (slot_in (source_of b) (frame_text (source_of b) k)) begins

  pub connection_no_cell : (a c : DraftOf) (opening : TokenNo) (k : ℕ) (x : Stmt) (o : Option ℕ) → o ≡ slot_in (source_of b) (frame_text (source_of b) k) (cell_of_connection (source_of b) k) → o ≡ None → c ≡ given_up a → WritesConnection b w a c opening (Some k) x
  unfolding WritesConnection
  connection_no_cell a c opening k x o eo none ec =
      emits_nothing w a c _ _ (λ h. let e = h.has in let f : is_there (slot_in (source_of b) (frame_text (source_of b) k) (Connection opening.0)) ≡ false = ap is_there (sym (slot_as k opening.0 o h.begins eo) ∙ none) in cc) ec

  pub connection_kept : (a c d : DraftOf) (opening : TokenNo) (k first place frame slot level : ℕ) (x : Stmt) (t : Bool) (o : Option ℕ) (u : Spot) (y : Instr) → t ≡ is_connection (text (source_of b) k) → t ≡ true → first ≡ first_in (slice_get (source_of b).tables.blocks k) → first ≡ opening.0 → encloser b.scopes k ≡ Some w.text
      → o ≡ slot_in (source_of b) (frame_text (source_of b) k) (cell_of_connection (source_of b) k) → o ≡ Some place → frame ≡ frame_text (source_of b) k → slot ≡ planned_start (source_of b) a.classes frame + place → level ≡ level_of (source_of b) k → y ≡ i.Store (pos level) (pos slot) → c ≡ with_instr a y 0 → u.text ≡ k → u.temps ≡ w.temps → u.used ≡ w.used → WritesStatement b u c d x → WritesConnection b w a d opening (Some k) x
  unfolding WritesConnection WritesStatement source_of
  connection_kept a c d opening k first place frame slot level x t o u y et is ef ea around eo some eh es el ey ec et' em eu f =
      let s = source_of b in
      let home = frame_text s k in
      let begins : cell_of_connection s k ≡ Connection opening.0 = ap Connection (sym ef ∙ ea) in
      let here : slot_in s home (Connection opening.0) ≡ Some place = sym (slot_as k opening.0 o begins eo) ∙ some in
      let has : is_there (slot_in s home (Connection opening.0)) ≡ true = ap is_there here in
      let is_text = connection_is (text s k) (sym et ∙ is) in
      let number : slot ≡ planned_start s a.classes home + place = es ∙ ap (λ z. planned_start s a.classes z + place) eh in
      let store =
      emits_classed w ⊤ (λ final site p q. At final (i.Store (pos level) (pos slot)) 0 p q) (λ final site p q. At final (i.Store (pos (level_of s k)) (pos (slot_of s final home (Connection opening.0)))) 0 p q) a c
      (λ final site p q known r. subst (λ z. At final z 0 p q) (ap (λ z. i.Store (pos z) (pos slot)) el ∙ ap (λ z. i.Store (pos (level_of s k)) (pos z)) (slot_found s final a.classes home (Connection opening.0) place slot known here number)) r)
      (emits_at w a c (i.Store (pos level) (pos slot)) 0 (ec ∙ ap (λ z. with_instr a z 0) ey) (λ z. cc) refl) in
      let inner : Emits u c d (StatementBuilt s k (statement_syntax x)) (λ final site p q. StmAt s final site 0 (statement_syntax x) p q) = subst (λ z. Emits u c d (StatementBuilt s z (statement_syntax x)) (λ final site p q. StmAt s final site 0 (statement_syntax x) p q)) et' f in
      let moved : Emits w c d (StatementBuilt s k (statement_syntax x)) (λ final site p q. StmAt s final (record site { text = k }) 0 (statement_syntax x) p q) =
      record {
        rest = inner.rest;
        front = inner.front;
        roomier = inner.roomier;
        larger = inner.larger;
        classed = inner.classed;
        thunked = inner.thunked;
        listed = inner.listed;
        built = inner.built;
        before = inner.before;
        only = inner.only;
        fits = inner.fits;
        at = λ h final site g. inner.at h final (record site { text = k }) (record { grows = g.grows; roomy = g.roomy; sized = g.sized; stands = sym et'; temps = g.temps ∙ sym em; taken = g.taken ∙ sym eu; follows = g.follows; classed = g.classed; thunked = g.thunked; belongs = g.belongs; listed = g.listed });
      } in
      emits_as w _ _ _ _ a d (λ h. (tt, h.body)) (λ h. record { is = is_text; begins = begins; stands = around; has = has; body = h.1 })
      (λ final site p q stands _ r. record {
        x = r.0;
        is = is_text;
        begins = begins;
        around = around ∙ ap Some (sym stands);
        kept = record { line = 0; is = r.1 };
        has = cell_there s home (Connection opening.0) has;
        body = r.2;
      })
      (emits_then w ⊤ _ (λ final site p q. At final (i.Store (pos (level_of s k)) (pos (slot_of s final home (Connection opening.0)))) 0 p q) _ a c d store moved)

  pub connects_none : (a c : DraftOf) (opening : TokenNo) (x : Stmt) (o : Option ℕ) → o ≡ block_at b.scopes opening.0 → o ≡ None → c ≡ given_up a → WritesConnected b w a c opening x
  unfolding WritesConnected WritesConnection block_around block_at source_of
  connects_none a c opening x o eo none ec =
      subst (λ z. Emits w a c (ConnectsBuilt (source_of b) w.text opening.0 z (λ k. StatementBuilt (source_of b) k (statement_syntax x))) (λ final site p q. ConnectsAt (source_of b) final site opening.0 z (λ site. StmAt (source_of b) final site 0 (statement_syntax x)) p q)) (sym none ∙ eo) (emits_nothing w a c _ _ (λ h. h) ec)

  pub connects_some : (a c : DraftOf) (opening : TokenNo) (x : Stmt) (k : ℕ) (o : Option ℕ) → o ≡ block_at b.scopes opening.0 → o ≡ Some k → WritesConnection b w a c opening (Some k) x → WritesConnected b w a c opening x
  unfolding WritesConnected block_around block_at source_of
  connects_some a c opening x k o eo some f = subst (λ z. WritesConnection b w a c opening z x) (sym some ∙ eo) f

  -- ---- where none is connected

  pub otherwise_none : (a c : DraftOf) (o : Option (Box Stmt Global)) → c ≡ with_instr a i.Pop 0 → o ≡ None → WritesOtherwise b w a c o
  unfolding WritesOtherwise
  otherwise_none a c o ec none =
      subst (λ z. Emits w a c (StatementsBuilt (source_of b) w.text (branch_syntax z)) (λ final site p q. (y : ℕ) × Is final i.Pop p y × StmsAt (source_of b) final site 0 (branch_syntax z) y q)) (sym none)
      (emits_as w ⊤ _ _ _ a c (λ h. h) (λ h. h) (λ final site p q _ _ r. (q, record { line = 0; is = r }, refl)) (emits_at w a c i.Pop 0 ec (λ z. cc) refl))

  pub otherwise_some : (a c d : DraftOf) (o : Option (Box Stmt Global)) (x : Box Stmt Global) (y : Stmt) → c ≡ with_instr a i.Pop 0 → o ≡ Some x → y ≡ x.value → WritesStatement b w c d y → WritesOtherwise b w a d o
  unfolding WritesOtherwise WritesStatement
  otherwise_some a c d o x y ec some ey f =
      let s = source_of b in
      subst (λ z. Emits w a d (StatementsBuilt s w.text (branch_syntax z)) (λ final site p q. (y : ℕ) × Is final i.Pop p y × StmsAt s final site 0 (branch_syntax z) y q)) (sym some)
      (subst (λ z. Emits w a d (StatementsBuilt s w.text (Also (statement_syntax z) NoStatement)) (λ final site p q. (y : ℕ) × Is final i.Pop p y × StmsAt s final site 0 (Also (statement_syntax z) NoStatement) y q)) ey
      (emits_as w _ _ _ _ a d (λ h. (tt, h.0)) (λ h. (h.1, tt)) (λ final site p q _ _ r. (r.0, record { line = 0; is = r.1 }, (q, r.2, refl)))
      (emits_then w ⊤ _ (λ final site p q. At final i.Pop 0 p q) (λ final site p q. StmAt s final site 0 (statement_syntax y) p q) a c d (emits_at w a c i.Pop 0 ec (λ z. cc) refl) f)))

  -- ---- `inspect` with `do`

  pub write_inspect : (c0 c1 c2 c3 c4 c5 c6 c7 c8 c9 c10 c11 : DraftOf) (x : Expr) (opening : TokenNo) (y : Stmt) (o : Option (Box Stmt Global)) (jump over : ℕ) (start end : ℤ) → Writes b w 0 c0 c1 x → c2 ≡ with_push c1 1 i.Dup 0 → c3 ≡ with_push c2 2 i.None 0 → c4 ≡ with_instr c3 i.Same 0 → c5 ≡ with_instr c4 i.Not 0
      → jump ≡ length c5.instrs → c6 ≡ with_hole c5 → WritesConnected b w c6 c7 opening y → over ≡ length c7.instrs → c8 ≡ with_hole c7 → start ≡ pos (length c8.instrs) → WritesOtherwise b w c8 c9 o → end ≡ pos (length c9.instrs) → c10 ≡ filled_in c9 jump (i.JumpF start) → c11 ≡ filled_in c10 over (i.Jump end) → WritesInspect b w c0 c11 x opening y o
  unfolding WritesInspect Writes Puts WritesConnected WritesConnection WritesOtherwise
  write_inspect c0 c1 c2 c3 c4 c5 c6 c7 c8 c9 c10 c11 x opening y o jump over start end f e2 e3 e4 e5 ej e6 g eo e8 es h ee e10 e11 =
      let s = source_of b in
      let test = emits_then w (IsBuilt s w.text (syntax_of x)) _ (λ z site. ExprAt s z site 0 (syntax_of x)) (λ z site p q. (u : ℕ) × Pushes z site 1 i.Dup p u × ((m : ℕ) × Pushes z site 2 i.None u m × ((n : ℕ) × At z i.Same 0 m n × At z i.Not 0 n q))) c0 c1 c5 f
      (emits_then w ⊤ _ (λ z site p q. Pushes z site 1 i.Dup p q) (λ z site p q. (m : ℕ) × Pushes z site 2 i.None p m × ((n : ℕ) × At z i.Same 0 m n × At z i.Not 0 n q)) c1 c2 c5 (emits_push w c1 c2 1 i.Dup 0 e2 (λ z. cc) refl)
      (emits_then w ⊤ _ (λ z site p q. Pushes z site 2 i.None p q) (λ z site p q. (n : ℕ) × At z i.Same 0 p n × At z i.Not 0 n q) c2 c3 c5 (emits_push w c2 c3 2 i.None 0 e3 (λ z. cc) refl)
      (emits_then w ⊤ ⊤ (λ z site p q. At z i.Same 0 p q) (λ z site p q. At z i.Not 0 p q) c3 c4 c5 (emits_at w c3 c4 i.Same 0 e4 (λ z. cc) refl) (emits_at w c4 c5 i.Not 0 e5 (λ z. cc) refl)))) in
      emits_as w _ _ _ _ c0 c11 (λ z. ((z.0, (tt, (tt, (tt, tt)))), z.1, z.2)) (λ z. (z.0.0, z.1, z.2))
      (λ final site p q _ _ r. record {
        a = r.test.0;
        b = r.test.2.0;
        c = r.test.2.2.0;
        d = r.test.2.2.2.0;
        e = r.y;
        f = r.z;
        g = r.w;
        y = r.x;
        z = r.second.0;
        object = r.test.1;
        again = r.test.2.1;
        none = r.test.2.2.1;
        same = record { line = 0; is = r.test.2.2.2.1 };
        other = record { line = 0; is = r.test.2.2.2.2 };
        jump = r.jump;
        leads = r.leads;
        connected = r.first;
        over = r.over;
        past = r.past;
        dropped = r.second.1;
        otherwise = r.second.2;
      })
      (emits_if w _ _ _ _ _ _ c0 c5 c6 c7 c8 c9 c10 c11 jump over start end test ej e6 g eo e8 es h ee e10 e11)

  -- ---- an arm

  abbrev ArmOf : When → Arm
  ArmOf x = record { token = x.token.0; class = x.class; opening = x.opening.0; body = statement_syntax x.body; end = x.end.0 }

  abbrev Open : (a d : DraftOf) → (over : ℕ) → Arm → Type 0
  Open a d over x = OpenEmits w a d (over ∷ []) (ArmBuilt (source_of b) w.text x) (λ final site target p q. ArmFrom (source_of b) final site x (λ m t. m ≡ q) p target)

  arm_as : (a d : DraftOf) (x : When) (over : ℕ) → Open a d over (ArmOf x) → WritesArm b w a d x over
  unfolding WritesArm
  arm_as a d x over f = subst (λ z. Open a d over z) (sym (arm_is x)) f

  pub arm_unknown : (a c d : DraftOf) (x : When) (over : ℕ) (o : Option ℕ) → o ≡ class_at (source_of b) x.class.token.0 → o ≡ None → c ≡ given_up a → over ≡ length c.instrs → d ≡ with_hole c → WritesArm b w a d x over
  unfolding given_up
  arm_unknown a c d x over o eo none ec ev ed =
      let s = source_of b in
      let never : ArmBuilt s w.text (ArmOf x) → ⊥ = λ h. subst ClassBuilt (sym eo ∙ none) h.0 in
      let all = emits_then w (ArmBuilt s w.text (ArmOf x)) ⊤ (λ final site p q. ⊥) (λ final site p q. (q ≡ suc p) × (q < length final.instrs)) a c d (emits_nothing w a c _ _ never ec) (emits_hole w c d ed) in
      let same : c.instrs ≡ a.instrs = ap (λ z. z.instrs) ec in
      arm_as a d x over (record {
        rest = all.rest;
        front = all.front;
        roomier = all.roomier;
        larger = all.larger;
        classed = all.classed;
        thunked = all.thunked;
        listed = all.listed;
        built = λ h u. all.built (h, tt) u;
        before = all.before;
        only = λ u. (all.only u).0;
        fits = all.fits;
        holes_open = (let n : length c.instrs ≡ length a.instrs = ap length same in omega (arith, ev, n), subst (λ z. slice_get d.instrs z ≡ Some (lined i.Halt 0)) (sym ev) (hole_there c d ed), tt);
        at = λ u final site g target l. absurd (never (all.only u).0);
      })

  pub arm_tried : (c0 c1 c2 c3 c4 c5 c6 : DraftOf) (x : When) (k m number jump over : ℕ) (o : Option ℕ) (start : ℤ) (y : Instr) (z : Stmt) → o ≡ class_at (source_of b) x.class.token.0 → o ≡ Some k → m ≡ block_number (source_of b) k → number ≡ class_of c0.classes m → c1 ≡ with_push c0 1 i.Dup 0 → y ≡ i.In (pos number) → c2 ≡ with_instr c1 y 0
      → jump ≡ length c2.instrs → c3 ≡ with_hole c2 → z ≡ x.body → WritesConnected b w c3 c4 x.opening z → over ≡ length c4.instrs → c5 ≡ with_hole c4 → start ≡ pos (length c5.instrs) → c6 ≡ filled_in c5 jump (i.JumpF start) → WritesArm b w c0 c6 x over
  unfolding WritesConnected WritesConnection filled_in
  arm_tried c0 c1 c2 c3 c4 c5 c6 x k m number jump over o start y z eo some em en e1 ey e2 ej e3 ez f ev e5 es e6 =
      let s = source_of b in
      let a = ArmOf x in
      let f' = subst (λ u. Emits w c3 c4 (ConnectsBuilt s w.text x.opening.0 (block_around s x.opening.0) (λ k. StatementBuilt s k (statement_syntax u))) (λ final site p q. ConnectsAt s final site x.opening.0 (block_around s x.opening.0) (λ site. StmAt s final site 0 (statement_syntax u)) p q)) ez f in
      let test = emits_then w ⊤ ⊤ (λ final site p q. Pushes final site 1 i.Dup p q) (λ final site p q. At final (i.In (pos number)) 0 p q) c0 c1 c2 (emits_push w c0 c1 1 i.Dup 0 e1 (λ u. cc) refl) (emits_at w c1 c2 (i.In (pos number)) 0 (e2 ∙ ap (λ u. with_instr c1 u 0) ey) (λ u. cc) refl) in
      let first = emits_then w (ConnectsBuilt s w.text a.opening (block_around s a.opening) (λ k. StatementBuilt s k a.body)) ⊤ (λ final site p q. ConnectsAt s final site a.opening (block_around s a.opening) (λ site. StmAt s final site 0 a.body) p q) (λ final site p q. (q ≡ suc p) × (q < length final.instrs)) c3 c4 c5 f' (emits_hole w c4 c5 e5) in
      let all = emits_when w (⊤ × ⊤) _ _ _ c0 c2 c3 c5 c6 jump start test ej e3 first es e6 in
      let ei : c6.instrs ≡ slice_set c5.instrs jump (lined (i.JumpF start) 0) = ap (λ u. u.instrs) e6 in
      let n2 : length c0.instrs ≤ length c2.instrs = fronts_le c0.instrs c2.instrs (test.rest, test.front) in
      let n3 : length c3.instrs ≡ suc (length c2.instrs) = longer_hole c2 c3 e3 in
      let n4 : length c3.instrs ≤ length c4.instrs = longer w c3 c4 _ _ f' in
      let n5 : length c5.instrs ≡ suc (length c4.instrs) = longer_hole c4 c5 e5 in
      let n6 : length c6.instrs ≡ length c5.instrs = as_long c5 c6 jump (i.JumpF start) e6 in
      let known : ClassBuilt (class_at s a.class.token.0) = subst ClassBuilt (sym some ∙ eo) tt in
      arm_as c0 c6 x over (record {
        rest = all.rest;
        front = all.front;
        roomier = all.roomier;
        larger = all.larger;
        classed = all.classed;
        thunked = all.thunked;
        listed = all.listed;
        built = λ h u. all.built ((tt, tt), (h.1, tt)) u;
        before = all.before;
        only = λ u. (known, (all.only u).1.0);
        fits = all.fits;
        holes_open = (omega (arith, ev, n2, n3, n4), ap (λ u. slice_get u over) ei ∙ set_other c5.instrs jump over _ (λ e. (let e' : ⊥ = omega (arith, e, ev, ej, n3, n4) in e')) ∙ subst (λ u. slice_get c5.instrs u ≡ Some (lined i.Halt 0)) (sym ev) (hole_there c4 c5 e5), tt);
        at = λ u final site g target l.
            let r = all.at u final site g in
            let body = r.first in
            let is : number ≡ class_number s final k = numbered b w final site c0 k m number (becomes_front c0 c6 final site all g) em en in
            let q1 : length c6.instrs ≡ suc body.0 = body.2.0 in
            let place : body.0 ≡ over = omega (arith, q1, ev, n5, n6) in
            subst (λ v. ArmOfAt s final site 0 v (ConnectsAt s final site a.opening (block_around s a.opening) (λ site. StmAt s final site 0 a.body)) (λ m t. m ≡ length c6.instrs) (length c0.instrs) target) (sym some ∙ eo)
            (record {
              a = r.test.0;
              b = r.y;
              c = r.z;
              d = body.0;
              y = length c6.instrs;
              again = r.test.1;
              test = record { line = 0; is = subst (λ v. At final (i.In (pos v)) 0 r.test.0 r.y) is r.test.2 };
              jump = r.jump;
              leads = r.leads;
              connected = body.1;
              over = record { line = 0; is = record { at = subst (λ v. slice_get final.instrs v ≡ Some (lined (i.Jump (pos target)) 0)) (sym place) l.0; on = q1 } };
              past = subst (λ v. Ahead final v target) (sym place) l.1;
              more = refl;
            });
      })
    where
      becomes_front : {P : Type 0} {H : CodeOf → Site → ℕ → ℕ → Type 0} (a c : DraftOf) (final : CodeOf) (site : Site) → Emits w a c P H → Becomes w c final site → Becomes w a final site
      becomes_front a c final site e g = becomes_later w a c final site (later_emits w a c _ _ e) g

pub ruleset connected = (connection_no_text, connection_begins_not, connection_elsewhere, connection_no_cell, connection_kept, connects_none, connects_some, otherwise_none, otherwise_some, write_inspect, arm_unknown, arm_tried)
