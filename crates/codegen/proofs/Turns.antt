-- The elements that share a statement, and the whole list.
use Rattle.std.proofs.Common.{◌≡◌, ◌<◌, ◌≤◌, ◌+◌, ◌*◌, ◌-◌, ℕ, zero, suc, pos, true, false, List, [], ◌∷◌, length, drop, Some, refl, sym, ap, ◌∙◌, subst, arith}
use Rattle.std.specs.Prelude.{⊤, slice_get, slice_set}
use Rattle.std.proofs.lemmas.List.{drop_all}
use Rattle.sim_scope.specs.declared.bound.Bound.{Bound}
use Rattle.sim_scope.specs.Source.{Source, source_of}
use Rattle.sim_tree.specs.declared.stmt.Stmt.{Stmt}
use Rattle.sim_tree.specs.Syntax.{Element, Statement}
use Rattle.sim_tree.specs.Syntax as syntax
use Rattle.sim_tree.specs.SyntaxOfProgram.{statement_syntax}
use Rattle.sim_code.specs.declared.instr.Instr.{Instr}
use Rattle.sim_code.specs.declared.instr.Instr.TheVariants as i
use Rattle.sim_code.specs.Code.{CodeOf}
use Rattle.codegen_expr.specs.declared.spot.Spot.{Spot}
use Rattle.codegen_expr.specs.Drafts.{Becomes, DraftOf, Emits, filled_in, with_hole, with_temp}
use Rattle.codegen_expr.specs.Sites.{Ahead, Is, Site, lined}
use Rattle.codegen_expr.proofs.Pieces.{becomes_filled, becomes_later, emits_as, emits_inside, emits_temp, emits_then, fronts_set, fronts_then, get_front, later_emits, more_before, more_then, run_set, set_same, still_before, still_then}
use Rattle.codegen.specs.declared.lists.Shared.{Shared}
use Rattle.codegen.specs.BuiltProgram.{StatementBuilt}
use Rattle.codegen.specs.CodeFor.{ElementsAt, ListAt, OneElementAt, ReturnsAt, TurnAt, Variable, is_empty}
use Rattle.codegen.specs.EmitTargets.{ElementsOver}
use Rattle.codegen.specs.CodeStm.{StmAt}
use Rattle.codegen.specs.Emit.{WritesElementOf, WritesList, WritesStatement}
use Rattle.codegen.specs.EmitShared.{OpenAt, OwesTurns, PutsTurn, Turns, WritesInside, WritesReturns, WritesTurns, hole_before, holes_from}
use Rattle.codegen.proofs.Holes.{as_long, emits_hole, hole_there, longer, longer_hole, open_front, open_set, turns_more, turns_none}
use Rattle.codegen.specs.declared.targets.Target.{Target}
use Rattle.codegen.proofs.Views.{from_get, two_left}

-- the same element with other turns
element_turn : (s : Source) (code : CodeOf) (site : Site) (n : ℕ) (v : Variable) (e : Element) (T U : ℕ → ℕ → Type 0) (p q : ℕ) → ((p q : ℕ) → T p q → U p q) → OneElementAt s code site n v e T p q → OneElementAt s code site n v e U p q
element_turn s code site n v (syntax.Once e) T U p q f r = record { x = r.x; z = r.z; tick = r.tick; given = r.given; turn = f r.z q r.turn }
element_turn s code site n v (syntax.While e token c) T U p q f r =
    record { x = r.x; z = r.z; u = r.u; b = r.b; w = r.w; tick = r.tick; given = r.given; test = r.test; jump = r.jump; leads = r.leads; turn = f r.b r.w r.turn; «back» = r.«back»; behind = r.behind }
element_turn s code site n v (syntax.Step start token step limit) T U p q f r =
    record { a = r.a; b = r.b; t = r.t; c = r.c; d = r.d; e = r.e; f = r.f; g = r.g; h = r.h; j = r.j; k = r.k; l = r.l; m = r.m; w = r.w; takes = r.takes; first = r.first; stored = r.stored; first_step = r.first_step; tick = r.tick; variable = r.variable; last = r.last; test = r.test; jump = r.jump; leads = r.leads; turn = f r.g r.h r.turn; next_step = r.next_step; again = r.again; old = r.old; sum = r.sum; raised = r.raised; «back» = r.«back»; behind = r.behind }

drop_get : (all : List ℕ) (k on : ℕ) (rs : List ℕ) → drop k all ≡ on ∷ rs → (slice_get all k ≡ Some on) × (drop (suc k) all ≡ rs)
drop_get [] zero on rs e = absurd (cc)
drop_get [] (suc k) on rs e = absurd (cc)
drop_get (x ∷ xs) zero on rs e = (cc, cc)
drop_get (x ∷ xs) (suc k) on rs e = drop_get xs k on rs e

-- a statement that is not empty begins with a tick
first_tick : (s : Source) (code : CodeOf) (site : Site) (n : ℕ) (a : Statement) (p q : ℕ) → is_empty a ≡ false → StmAt s code site n a p q → (u : ℕ) × Is code i.Tick p u
first_tick s code site n (syntax.Empty token) p q e r = absurd (cc)
first_tick s code site n (syntax.Compound k) p q e r = (r.0, r.1)
first_tick s code site n (syntax.Prefixed k es m) p q e r = (r.0, r.1)
first_tick s code site n (syntax.Inner token) p q e r = absurd r
first_tick s code site n (syntax.Call k) p q e r = (r.0, r.2)
first_tick s code site n (syntax.Assign left rs) p q e r = (r.0, r.1)
first_tick s code site n (syntax.Choose token c a k) p q e r = (r.0, r.1)
first_tick s code site n (syntax.Repeat token c a) p q e r = (r.0, r.3)
first_tick s code site n (syntax.For token x sign assign es a) p q e r = (r.0, r.1)
first_tick s code site n (syntax.Inspect token object opening a end otherwise) p q e r = (r.0, r.1)
first_tick s code site n (syntax.InspectWhen token object arms otherwise) p q e r = (r.0, r.2)
first_tick s code site n (syntax.Activate token k process schedule) p q e r = (r.0, r.1)

shared_at : (s : Source) (v : Variable) (x y : Element) (xs : List Element) (a : Statement) → is_empty a ≡ false → (temp : ℕ) (final : CodeOf) (site : Site) (p q : ℕ)
    → (site.used ≤ temp) × (temp < site.size) × (start : ℕ) × (d : ℕ) × (first : ℕ) × (targets : List ℕ) × (length targets ≡ length (x ∷ y ∷ xs)) × Is final (i.Jump (pos first)) p start × Ahead final p first × StmAt s final (record site { used = suc temp }) 0 a start d × ReturnsAt s final site 0 temp 0 targets d first × ElementsAt s final site 0 v 0 (x ∷ y ∷ xs) (TurnAt s final site 0 temp start targets) first q
    → ListAt s final site 0 v (is_empty a) (x ∷ y ∷ xs) (λ site. StmAt s final site 0 a) p q
shared_at s v x y xs a some temp final site p q k =
    let begun = first_tick s final (record site { used = suc temp }) 0 a k.2 k.3 some k.9 in
    subst (λ m. ListAt s final site 0 v m (x ∷ y ∷ xs) (λ site. StmAt s final site 0 a) p q) (sym some)
    (record { temp = temp; outside = k.0; within = k.1; returns = k.5; as_many = k.6; start = k.2; u = begun.0; d = k.3; first = k.4; over = k.7; leads = k.8; tick = begun.1; body = k.9; «back» = k.10; elements = k.11 })

module _ (b : Bound) (w : Spot) where
  pub puts_turn : (a m c : DraftOf) (t0 : Target) (on hole : ℕ) (x : Element) (z : Stmt) (k : Shared) (j : Instr) → WritesElementOf b w a m t0 x z (Some k) on → j ≡ i.Jump (pos on) → c ≡ filled_in m hole j → PutsTurn b w a c t0 x k.start k.number hole
  unfolding WritesElementOf PutsTurn
  puts_turn a m c t0 on hole x z k j e ej ec v ct le =
      let f = e v ct le in
      (m, on, f.0, f.1, ec ∙ ap (λ n. filled_in m hole n) ej, emits_as w _ _ _ _ a m (λ h. (h, tt)) (λ h. h.0) (λ final site p q _ _ r. r) f.2)

  pub turns_all : (a : DraftOf) (t0 : Target) (start chain : ℕ) (xs : List Element) → OwesTurns b w a t0 xs start chain a 0 xs
  unfolding OwesTurns
  turns_all a t0 start chain xs end f = f

  turns_step : (a c d : DraftOf) (t0 : Target) (start chain k hole : ℕ) (xs r r' : List Element) (x : Element) → OwesTurns b w a t0 xs start chain c k r → r ≡ x ∷ r' → hole ≡ hole_before chain k r' → PutsTurn b w c d t0 x start k hole → OwesTurns b w a t0 xs start chain d (k + 1) r'
  unfolding OwesTurns WritesTurns PutsTurn filled_in
  turns_step a c d t0 start chain k hole xs r r' x f is eh one end rest =
      let next : k + 1 ≡ suc k = omega arith in
      f end (subst (λ l. WritesTurns b w c end t0 l start chain k) (sym is) (λ v ct low le open_.
      let s = source_of b in
      let u = one v ct le in
      let m = u.0 in
      let on = u.1 in
      let h = hole_before chain k r' in
      let hs = holes_from chain (suc k) r' in
      let ed : d ≡ filled_in m h (i.Jump (pos on)) = u.4 ∙ ap (λ n. filled_in m n (i.Jump (pos on))) eh in
      let md : length d.instrs ≡ length m.instrs = as_long m d h (i.Jump (pos on)) ed in
      let cm : length c.instrs ≤ on = u.2 in
      let om : on ≤ length m.instrs = u.3 in
      let open_m : OpenAt m.instrs (suc h) hs = open_front c.instrs m.instrs (suc h) hs (u.5.rest, u.5.front) open_.2 in
      let open_d : OpenAt d.instrs (suc h) hs = subst (λ l. OpenAt l (suc h) hs) (sym (ap (λ z. z.instrs) ed)) (open_set m.instrs h (suc h) hs _ (omega arith) open_m) in
      let later : WritesTurns b w d end t0 r' start chain (suc k) = subst (λ n. WritesTurns b w d end t0 r' start chain n) next rest in
      turns_more w c m d end h low on hs _ _ _ _ _ open_.0 open_.1 u.5 cm om ed (later v ct (suc h) (omega (arith, le, cm, om, md)) open_d)
      (λ final site y rs p q element others. (
        ap suc others.0,
        λ all e.
            let got = drop_get all k on rs e in
            (y, element_turn s final site 0 v x _ _ p y (λ p q g. record { x = g.0.x; y = g.0.y; pushed = g.0.pushed; kept = g.0.kept; jump = g.0.jump; behind = g.0.behind; returns_here = got.0 ∙ ap Some (sym g.1) }) element, others.1 all got.1),
      ))))

  pub turns_on : (a c d : DraftOf) (t0 : Target) (start chain k hole : ℕ) (xs : List Element) (x : Element) → OwesTurns b w a t0 xs start chain c k (drop k xs) → k < length xs - 1 → slice_get xs k ≡ Some x → hole ≡ chain + 5 * k + 4 → PutsTurn b w c d t0 x start k hole → OwesTurns b w a t0 xs start chain d (k + 1) (drop (k + 1) xs)
  turns_on a c d t0 start chain k hole xs x f le is eh one =
      let two = two_left xs k le in
      turns_step a c d t0 start chain k hole xs (drop k xs) (drop (k + 1) xs) x f (from_get xs k x is) (eh ∙ ap (hole_before chain k) (sym (ap (λ n. drop n xs) (let next : k + 1 ≡ suc k = omega arith in next) ∙ two.3))) one

  finished : (d : DraftOf) (t0 : Target) (start chain n : ℕ) → WritesTurns b w d d t0 [] start chain n
  unfolding WritesTurns
  finished d t0 start chain n v ct low le open_ = turns_none w d low _ (λ final site p. (refl, λ all e. refl))

  pub turns_end : (a c d : DraftOf) (t0 : Target) (start chain k last hole : ℕ) (xs : List Element) (x : Element) → OwesTurns b w a t0 xs start chain c k (drop k xs) → 0 < length xs → length xs - 1 ≤ k → k ≤ length xs - 1 → last ≡ length xs - 1 → slice_get xs last ≡ Some x → hole ≡ chain + 5 * last + 0 → PutsTurn b w c d t0 x start last hole → WritesTurns b w a d t0 xs start chain 0
  unfolding OwesTurns
  turns_end a c d t0 start chain k last hole xs x f some least most el is eh one =
      let same : last ≡ k = omega (arith, least, most, el) in
      let none : drop (k + 1) xs ≡ [] = drop_all (k + 1) xs (omega (arith, some, least, most)) in
      let at : drop k xs ≡ x ∷ [] = from_get xs k x (subst (λ n. slice_get xs n ≡ Some x) same is) ∙ ap (λ z. x ∷ z) none in
      let place : hole ≡ chain + 5 * k = omega (arith, eh, same) in
      turns_step a c d t0 start chain k hole xs (drop k xs) [] x f at place (subst (λ n. PutsTurn b w c d t0 x start n hole) same one) d (finished d t0 start chain (k + 1))

  pub write_inside : (a c : DraftOf) (z : Stmt) (u : Spot) → u.text ≡ w.text → u.temps ≡ w.temps → u.used ≡ suc w.used → WritesStatement b u a c z → WritesInside b w a c z
  unfolding WritesInside WritesStatement
  write_inside a c z u et em eu f = emits_inside w u (StatementBuilt (source_of b) w.text (statement_syntax z)) (λ final site p q. StmAt (source_of b) final site 0 (statement_syntax z) p q) a c w.used et em eu (subst (λ n. Emits u a c (StatementBuilt (source_of b) n (statement_syntax z)) (λ final site p q. StmAt (source_of b) final site 0 (statement_syntax z) p q)) et f)

  pub write_shared : (c0 c1 c2 c3 c4 c5 c6 : DraftOf) (es : List Element) (z : Stmt) (t0 : Target) (over start chain first : ℕ) (j : Instr) → 1 < length es → is_empty (statement_syntax z) ≡ false → c1 ≡ with_temp c0 w.used → over ≡ length c1.instrs → c2 ≡ with_hole c1 → start ≡ length c2.instrs → WritesInside b w c2 c3 z → chain ≡ length c3.instrs
      → WritesReturns b w c3 c4 es (length c3.instrs) 0 → first ≡ length c4.instrs → j ≡ i.Jump (pos first) → c5 ≡ filled_in c4 over j → WritesTurns b w c5 c6 t0 es start chain 0 → WritesList b w c0 c6 t0 es z
  unfolding WritesInside WritesReturns WritesTurns WritesList filled_in
  write_shared c0 c1 c2 c3 c4 c5 c6 [] z t0 over start chain first j several some e1 eo e2 es body ec ways ef ej e5 turns_ v ct = absurd (omega (arith, several))
  write_shared c0 c1 c2 c3 c4 c5 c6 (x ∷ []) z t0 over start chain first j several some e1 eo e2 es body ec ways ef ej e5 turns_ v ct = absurd (omega (arith, several))
  write_shared c0 c1 c2 c3 c4 c5 c6 (x ∷ y ∷ xs) z t0 over start chain first j several some e1 eo e2 es body ec ways ef ej e5 turns_ v ct =
      let s = source_of b in
      let all = x ∷ y ∷ xs in
      let a = statement_syntax z in
      let Body = StatementBuilt s w.text a in
      let hs = holes_from (length c3.instrs) 0 all in
      let back = ways (omega arith) in
      let jump = lined (i.Jump (pos (length c4.instrs))) 0 in
      let e5' : c5 ≡ filled_in c4 over (i.Jump (pos (length c4.instrs))) = e5 ∙ ap (filled_in c4 over) (ej ∙ ap (λ n. i.Jump (pos n)) ef) in
      let ei : c5.instrs ≡ slice_set c4.instrs over jump = ap (λ n. n.instrs) e5' in
      let room : c5.room ≡ c4.room = ap (λ n. n.room) e5' in
      let size : c5.size ≡ c4.size = ap (λ n. n.size) e5' in
      let whole : c5.whole ≡ c4.whole = ap (λ n. n.whole) e5' in
      let n2 : length c2.instrs ≡ suc (length c1.instrs) = longer_hole c1 c2 e2 in
      let n3 : length c2.instrs ≤ length c3.instrs = longer w c2 c3 _ _ body in
      let n4 : length c3.instrs ≤ length c4.instrs = longer w c3 c4 _ _ back.1 in
      let n5 : length c5.instrs ≡ length c4.instrs = as_long c4 c5 over _ e5' in
      let open_5 : OpenAt c5.instrs (length c3.instrs) hs = subst (λ l. OpenAt l (length c3.instrs) hs) (sym ei) (open_set c4.instrs over (length c3.instrs) hs jump (omega (arith, eo, n2, n3)) back.0) in
      let r = subst (λ n. OpenAt c5.instrs (length c3.instrs) (holes_from n 0 all) → Turns w c5 c6 (holes_from n 0 all) (length c3.instrs) (ElementsOver s w.text v all) (λ final site rs p q. (length rs ≡ length all) × ((every : List ℕ) → drop 0 every ≡ rs → ElementsAt s final site 0 v 0 all (TurnAt s final site 0 w.used start every) p q))) ec (turns_ v ct (length c3.instrs) (omega (arith, es, n3, n4, n5))) open_5 in
      let e14 = emits_then w ⊤ (Body × ⊤) _ _ c1 c2 c4 (emits_hole w c1 c2 e2) (emits_then w Body ⊤ _ _ c2 c3 c4 body back.1) in
      let open_2 : slice_get c4.instrs over ≡ Some (lined i.Halt 0) = ap (λ l. slice_get l over) (fronts_then c2.instrs c3.instrs c4.instrs (body.rest, body.front) (back.1.rest, back.1.front)).1 ∙ get_front c2.instrs (fronts_then c2.instrs c3.instrs c4.instrs (body.rest, body.front) (back.1.rest, back.1.front)).0 over (lined i.Halt 0) (ap (slice_get c2.instrs) eo ∙ hole_there c1 c2 e2) in
      let put : slice_get c5.instrs over ≡ Some jump = ap (λ l. slice_get l over) ei ∙ set_same c4.instrs over (lined i.Halt 0) jump open_2 in
      let f15 = fronts_set c1.instrs c4.instrs c5.instrs over jump (e14.rest, e14.front) (omega (arith, eo)) ei in
      let f16 = r.keeps c1.instrs (omega (arith, n2, n3)) f15 in
      let rm = e14.roomier in
      let rr = r.roomier in
      let sm = e14.larger in
      let sr = r.larger in
      let n6 = r.longer in
      emits_as w _ _ _ _ c0 c6 (λ h. (h.1, h.0)) (λ h. (h.1, h.0))
      (λ final site p q stands _ k. shared_at s v x y xs a some w.used final site p q (k.0, k.1, k.2.0, k.2.1, k.2.2, k.2.3, k.2.4, k.2.5, k.2.6, k.2.7, k.2.8, k.2.9))
      (emits_temp w (Body × ElementsOver s w.text v all) (λ final site p q. (start : ℕ) × (d : ℕ) × (first : ℕ) × (targets : List ℕ) × (length targets ≡ length all) × Is final (i.Jump (pos first)) p start × Ahead final p first × StmAt s final (record site { used = suc w.used }) 0 a start d × ReturnsAt s final site 0 w.used 0 targets d first × ElementsAt s final site 0 v 0 all (TurnAt s final site 0 w.used start targets) first q) c0 c1 c6 w.used refl e1
      (record {
        rest = f16.0;
        front = f16.1;
        roomier = omega (arith, rm, room, rr);
        larger = omega (arith, sm, size, sr);
        classed = r.classed ∙ ap (λ z. z.classes) e5' ∙ e14.classed;
        thunked = still_then e14.thunked (still_before (ap (λ z. z.thunks) e5') r.thunked);
        listed = more_then e14.listed (more_before (ap (λ z. z.lists) e5') r.listed);
        built = λ p h. r.built p.1 (whole ∙ e14.built (tt, (p.0, tt)) h);
        before = λ h. e14.before (sym whole ∙ r.before h);
        only = λ h. ((e14.only (sym whole ∙ r.before h)).1.0, r.only h);
        fits = λ h. r.fits (run_set c4.instrs c5.instrs over jump ei refl (e14.fits h));
        at = λ h final site g.
            let g5 : Becomes w c5 final site = r.becomes final site g in
            let g4 : Becomes w c4 final site = becomes_filled w c4 c5 final site over (i.Jump (pos (length c4.instrs))) open_2 e5' g5 in
            let g3 : Becomes w c3 final site = becomes_later w c3 c4 final site (later_emits w c3 c4 _ _ back.1) g4 in
            let w4 : c4.whole ≡ true = sym whole ∙ r.before h in
            let w3 : c3.whole ≡ true = back.1.before w4 in
            let fs : length c5.instrs < length final.instrs = g5.follows in
            let there : slice_get final.instrs over ≡ Some jump = g5.grows.keeps over jump put (λ n. cc) in
            let turned = r.at h final site g in (
              length c2.instrs,
              length c3.instrs,
              length c4.instrs,
              r.targets,
              turned.0,
              record { line = 0; is = record { at = ap (slice_get final.instrs) (sym eo) ∙ there; on = n2 } },
              record { forward = omega (arith, n2, n3, n4); there = omega (arith, n5, fs) },
              body.at w3 final site g3,
              back.1.at w4 final site g4 r.targets (r.jumps final site g),
              subst (λ n. ElementsAt s final site 0 v 0 all (TurnAt s final site 0 w.used n r.targets) (length c4.instrs) (length c6.instrs)) es (subst (λ n. ElementsAt s final site 0 v 0 all (TurnAt s final site 0 w.used start r.targets) n (length c6.instrs)) n5 (turned.1 r.targets refl)),
            );
      }))

pub ruleset turns = (puts_turn, write_inside, write_shared)
