-- The end of an object of `process` itself.
use Rattle.std.proofs.Common.{◌≡◌, ◌<◌, ◌≤◌, ◌+◌, ◌-◌, ◌++◌, ℕ, suc, ℤ, pos, Bool, true, false, List, [], ◌∷◌, length, Option, Some, None, refl, sym, ap, ◌∙◌, subst, arith, append_assoc, append-nil}
use Rattle.std.specs.Prelude.{⊤, slice_get, slice_set}
use Rattle.sim_scope.specs.declared.bound.Bound.{Bound}
use Rattle.sim_scope.specs.Source.{Source, level_of, line_at, source_of}
use Rattle.sim_code.specs.declared.instr.Instr.{Instr}
use Rattle.sim_code.specs.declared.instr.Instr.TheVariants as i
use Rattle.sim_code.specs.Code.{CodeOf}
use Rattle.sim_meaning.specs.Levels.{class_at}
use Rattle.sim_meaning.specs.Pending.{Origin}
use Rattle.codegen_expr.specs.declared.spot.Spot.{Spot}
use Rattle.codegen_expr.specs.Drafts.{DraftOf, filled_in, planned_start, with_hole, with_instr, with_push}
use Rattle.codegen_expr.specs.Sites.{Ahead, At, HasCell, Pushes, Site, lined, slot_of}
use Rattle.codegen_expr.proofs.Pieces.{becomes_later, emits_as, emits_at, emits_push, emits_then, emits_when, fronts_le, later_emits, set_other}
use Rattle.codegen_expr.proofs.Slots.{slot_found, slot_within}
use Rattle.codegen.specs.CodeStm.{OriginEndAt, LastEndAt, OriginsAt, is_same, means, origins, origins_from, with_subclass}
use Rattle.codegen.specs.EmitConnections.{FillsAll}
use Rattle.codegen.specs.EmitProcesses.{OpenOrigins, OriginsFrom, OwesOrigins, WritesLastEnd, WritesOriginEnd, WritesOrigins}
use Rattle.codegen.proofs.Holes.{as_long, emits_hole, hole_there, longer, longer_hole}
use Rattle.codegen.proofs.Opened.{open_as, open_filled, open_none, open_then}

-- ---- the tokens at which a class is meant

module _ (b : Bound) where
  pub meant : (k token : ℕ) (o : Option ℕ) (j : ℕ) → o ≡ class_at (source_of b) token → o ≡ Some j → is_same k (Some j) ≡ means (source_of b) k token
  meant k token o j eo some = ap (is_same k) (sym some ∙ eo)

  pub meant_nothing : (k token : ℕ) (o : Option ℕ) → o ≡ class_at (source_of b) token → o ≡ None → false ≡ means (source_of b) k token
  meant_nothing k token o eo none = ap (is_same k) (sym none ∙ eo)

  less : (n i : ℕ) → i < n → n - i ≡ suc (n - (i + 1))
  less n i le = omega (arith, le)

  -- those of the rest of the tokens
  abbrev pub Behind : (class count from : ℕ) → List ℕ
  Behind k n j = origins_from (source_of b) k j (n - j)

  pub origins_first : (k : ℕ) → [] ++ Behind k (length b.uses.items) 0 ≡ origins (source_of b) k
  unfolding origins source_of
  origins_first k = let e : length b.uses.items - 0 ≡ length b.uses.items = omega arith in ap (λ n. origins_from (source_of b) k 0 n) e

  behind_next : (k n j : ℕ) → j < n → Behind k n j ≡ with_subclass (means (source_of b) k j) j (Behind k n (j + 1))
  behind_next k n j le =
      let more : suc j ≡ j + 1 = omega arith in
      ap (λ m. origins_from (source_of b) k j m) (less n j le) ∙ ap (λ m. with_subclass (means (source_of b) k j) j (origins_from (source_of b) k m (n - (j + 1)))) more

  pub origins_more : (k n j t : ℕ) (xs ys : List ℕ) (r : Bool) → j < n → t ≡ j → r ≡ means (source_of b) k t → r ≡ true → ys ≡ xs ++ (t ∷ []) → xs ++ Behind k n j ≡ origins (source_of b) k → ys ++ Behind k n (j + 1) ≡ origins (source_of b) k
  origins_more k n j t xs ys r le et er is ey f =
      let here : means (source_of b) k j ≡ true = ap (means (source_of b) k) (sym et) ∙ sym er ∙ is in
      ap (λ z. z ++ Behind k n (j + 1)) (ey ∙ ap (λ z. xs ++ (z ∷ [])) et) ∙ append_assoc xs (j ∷ []) (Behind k n (j + 1)) ∙ ap (λ z. xs ++ z) (sym (behind_next k n j le ∙ ap (λ z. with_subclass z j (Behind k n (j + 1))) here)) ∙ f

  pub origins_same : (k n j t : ℕ) (xs : List ℕ) (r : Bool) → j < n → t ≡ j → r ≡ means (source_of b) k t → r ≡ false → xs ++ Behind k n j ≡ origins (source_of b) k → xs ++ Behind k n (j + 1) ≡ origins (source_of b) k
  origins_same k n j t xs r le et er is f =
      let here : means (source_of b) k j ≡ false = ap (means (source_of b) k) (sym et) ∙ sym er ∙ is in
      ap (λ z. xs ++ z) (sym (behind_next k n j le ∙ ap (λ z. with_subclass z j (Behind k n (j + 1))) here)) ∙ f

  pub origins_last : (k n j : ℕ) (xs : List ℕ) → n ≤ j → xs ++ Behind k n j ≡ origins (source_of b) k → xs ≡ origins (source_of b) k
  origins_last k n j xs le f = let e : n - j ≡ 0 = omega (arith, le) in sym (append-nil xs) ∙ ap (λ m. xs ++ origins_from (source_of b) k j m) (sym e) ∙ f

-- ---- the end

-- what stands behind it
origin_more : (s : Source) (code : CodeOf) (site : Site) (u k : ℕ) (M N : ℕ → ℕ → Type 0) (p q : ℕ) → ((m : ℕ) → M m q → N m q) → OriginEndAt s code site u k M p q → OriginEndAt s code site u k N p q
origin_more s code site u k M N p q f r = record { a = r.a; b = r.b; c = r.c; d = r.d; e = r.e; f = r.f; y = r.y; kept = r.kept; given = r.given; test = r.test; jump = r.jump; leads = r.leads; link = r.link; number = r.number; numbered = r.numbered; done = r.done; over = r.over; past = r.past; within = r.within; more = f r.y r.more }

origins_at : (s : Source) (code : CodeOf) (site : Site) (u : ℕ) (ts : List ℕ) (p q m : ℕ) → LastEndAt s code site u m q → OriginsFrom s code site u ts (λ n t. n ≡ m) p q → OriginsAt s code site u ts p q
origins_at s code site u [] p q m o r = subst (λ z. LastEndAt s code site u z q) (sym r) o
origins_at s code site u (t ∷ ts) p q m o r = origin_more s code site u t _ _ p q (λ n. origins_at s code site u ts n q m o) r

module _ (b : Bound) (w : Spot) where
  pub origin_end_put : (c0 c1 c2 c3 c4 c5 c6 c7 c8 : DraftOf) (u token place slot n l line jump over : ℕ) (start : ℤ) (x y z v : Instr) → slot ≡ planned_start (source_of b) c0.classes w.text + place → n ≡ level_of (source_of b) w.text → x ≡ i.Load (pos n) (pos slot) → c1 ≡ with_push c0 0 x 0 → y ≡ i.Int (pos token) → c2 ≡ with_push c1 1 y 0
      → c3 ≡ with_instr c2 (i.Rel (pos 2)) 0 → jump ≡ length c3.instrs → c4 ≡ with_hole c3 → l ≡ level_of (source_of b) u → z ≡ i.Link (pos l) → c5 ≡ with_push c4 0 z 0 → line ≡ line_at (source_of b) (token - 1) → v ≡ i.Std (pos 69) → c6 ≡ with_instr c5 v line
      → over ≡ length c6.instrs → c7 ≡ with_hole c6 → start ≡ pos (length c7.instrs) → c8 ≡ filled_in c7 jump (i.JumpF start) → WritesOriginEnd b w u place token c0 c8 over
  unfolding WritesOriginEnd filled_in
  origin_end_put c0 c1 c2 c3 c4 c5 c6 c7 c8 u token place slot n l line jump over start x y z v eslot el ex e1 ey e2 e3 ej e4 eu ez e5 eline ev e6 eo e7 es e8 = λ found.
      let s = source_of b in
      let load = i.Load (pos (level_of s w.text)) (pos slot) in
      let given = i.Int (pos token) in
      let link = i.Link (pos (level_of s u)) in
      let std = i.Std (pos 69) in
      let at_new = line_at s (token - 1) in
      let p1 : c1 ≡ with_push c0 0 load 0 = e1 ∙ ap (λ o. with_push c0 0 o 0) (ex ∙ ap (λ o. i.Load (pos o) (pos slot)) el) in
      let p2 : c2 ≡ with_push c1 1 given 0 = e2 ∙ ap (λ o. with_push c1 1 o 0) ey in
      let p5 : c5 ≡ with_push c4 0 link 0 = e5 ∙ ap (λ o. with_push c4 0 o 0) (ez ∙ ap (λ o. i.Link (pos o)) eu) in
      let p6 : c6 ≡ with_instr c5 std at_new = e6 ∙ ap (λ o. with_instr c5 o line) ev ∙ ap (λ o. with_instr c5 std o) eline in
      let compared = emits_then w ⊤ ⊤ (λ final site p q. Pushes final site 1 given p q) (λ final site p q. At final (i.Rel (pos 2)) 0 p q) c1 c2 c3 (emits_push w c1 c2 1 given 0 p2 (λ o. cc) refl) (emits_at w c2 c3 (i.Rel (pos 2)) 0 e3 (λ o. cc) refl) in
      let test = emits_then w ⊤ (⊤ × ⊤) (λ final site p q. Pushes final site 0 load p q) (λ final site p q. (o : ℕ) × Pushes final site 1 given p o × At final (i.Rel (pos 2)) 0 o q) c0 c1 c3 (emits_push w c0 c1 0 load 0 p1 (λ o. cc) refl) compared in
      let pushed = emits_push w c4 c5 0 link 0 p5 (λ o. cc) refl in
      let done = emits_at w c5 c6 std at_new p6 (λ o. cc) refl in
      let last = emits_then w ⊤ ⊤ (λ final site p q. At final std at_new p q) (λ final site p q. (q ≡ suc p) × (q < length final.instrs)) c5 c6 c7 done (emits_hole w c6 c7 e7) in
      let first = emits_then w ⊤ (⊤ × ⊤) (λ final site p q. Pushes final site 0 link p q) (λ final site p q. (o : ℕ) × At final std at_new p o × ((q ≡ suc o) × (q < length final.instrs))) c4 c5 c7 pushed last in
      let all = emits_when w (⊤ × (⊤ × ⊤)) (⊤ × (⊤ × ⊤)) _ _ c0 c3 c4 c7 c8 jump start test ej e4 first es e8 in
      let ei : c8.instrs ≡ slice_set c7.instrs jump (lined (i.JumpF start) 0) = ap (λ o. o.instrs) e8 in
      let n3 : length c0.instrs ≤ length c3.instrs = fronts_le c0.instrs c3.instrs (test.rest, test.front) in
      let n4 : length c4.instrs ≡ suc (length c3.instrs) = longer_hole c3 c4 e4 in
      let n5 : length c4.instrs ≤ length c5.instrs = longer w c4 c5 _ _ pushed in
      let n6 : length c5.instrs ≤ length c6.instrs = longer w c5 c6 _ _ done in
      let n7 : length c7.instrs ≡ suc (length c6.instrs) = longer_hole c6 c7 e7 in
      let n8 : length c8.instrs ≡ length c7.instrs = as_long c7 c8 jump (i.JumpF start) e8 in
      record {
        rest = all.rest;
        front = all.front;
        roomier = all.roomier;
        larger = all.larger;
        classed = all.classed;
        thunked = all.thunked;
        listed = all.listed;
        built = λ h o. all.built ((tt, (tt, tt)), (tt, (tt, tt))) o;
        before = all.before;
        only = λ o. tt;
        fits = all.fits;
        holes_open = (omega (arith, eo, n3, n4, n5, n6), ap (λ o. slice_get o over) ei ∙ set_other c7.instrs jump over _ (λ e. (let e' : ⊥ = omega (arith, e, eo, ej, n4, n5, n6) in e')) ∙ subst (λ o. slice_get c7.instrs o ≡ Some (lined i.Halt 0)) (sym eo) (hole_there c6 c7 e7), tt);
        at = λ o final site g target t.
            let r = all.at o final site g in
            let known = becomes_later w c0 c8 final site (later_emits w c0 c8 _ _ all) g in
            let is : slot ≡ slot_of s final w.text Origin = slot_found s final c0.classes w.text Origin place slot known.classed found eslot in
            let q1 : length c8.instrs ≡ suc r.first.2.0 = r.first.2.2.0 in
            let behind : r.first.2.0 ≡ over = omega (arith, q1, eo, n7, n8) in
            record {
              a = r.test.0;
              b = r.test.2.0;
              c = r.y;
              d = r.z;
              e = r.first.0;
              f = r.first.2.0;
              y = length c8.instrs;
              kept = subst (λ o. Pushes final site 0 (i.Load (pos (level_of s o)) (pos (slot_of s final o Origin))) (length c0.instrs) r.test.0) (sym g.stands) (subst (λ o. Pushes final site 0 (i.Load (pos (level_of s w.text)) (pos o)) (length c0.instrs) r.test.0) is r.test.1);
              given = r.test.2.1;
              test = record { line = 0; is = r.test.2.2 };
              jump = r.jump;
              leads = r.leads;
              link = r.first.1;
              number = 69;
              numbered = refl;
              done = r.first.2.1;
              over = record { line = 0; is = record { at = subst (λ o. slice_get final.instrs o ≡ Some (lined (i.Jump (pos target)) 0)) (sym behind) t.0; on = q1 } };
              past = subst (λ o. Ahead final o target) (sym behind) t.1;
              within = subst (λ o. HasCell s o Origin) (sym g.stands) (slot_within s w.text Origin place found);
              more = refl;
            };
      }

  pub last_end_put : (a c d : DraftOf) (u l line : ℕ) (x y : Instr) → l ≡ level_of (source_of b) u → x ≡ i.Link (pos l) → c ≡ with_push a 0 x 0 → y ≡ i.Std (pos 69) → line ≡ line_at (source_of b) 0 → d ≡ with_instr c y line → WritesLastEnd b w u a d
  unfolding WritesLastEnd
  last_end_put a c d u l line x y el ex ec ey eline ed =
      let s = source_of b in
      let link = i.Link (pos (level_of s u)) in
      let std = i.Std (pos 69) in
      emits_as w (⊤ × ⊤) ⊤ _ _ a d (λ h. (h, h)) (λ h. h.0) (λ final site p q _ _ r. record { a = r.0; link = r.1; number = 69; numbered = refl; done = r.2 })
      (emits_then w ⊤ ⊤ (λ final site p q. Pushes final site 0 link p q) (λ final site p q. At final std (line_at s 0) p q) a c d (emits_push w a c 0 link 0 (ec ∙ ap (λ z. with_push a 0 z 0) (ex ∙ ap (λ z. i.Link (pos z)) el)) (λ z. cc) refl)
      (emits_at w c d std (line_at s 0) (ed ∙ ap (λ z. with_instr c z line) ey ∙ ap (with_instr c std) eline) (λ z. cc) refl))

  -- ---- tokens one behind another

  pub origins_all : (u place : ℕ) (a : DraftOf) (ts : List ℕ) → OwesOrigins b w u place a ts a [] ts
  unfolding OwesOrigins
  origins_all u place a ts found end more f = f

  pub origins_next : (u place : ℕ) (a c d : DraftOf) (ts r r' : List ℕ) (t : ℕ) (overs overs' : List ℕ) (over : ℕ) → OwesOrigins b w u place a ts c overs r → r ≡ t ∷ r' → WritesOriginEnd b w u place t c d over → overs' ≡ overs ++ (over ∷ []) → OwesOrigins b w u place a ts d overs' r'
  unfolding OwesOrigins WritesOriginEnd
  origins_next u place a c d ts r r' t overs overs' over f is g eo found end more rest =
      let s = source_of b in
      subst (λ z. OpenOrigins b w u a end z ts) (sym (append_assoc overs (over ∷ []) more) ∙ ap (λ z. z ++ more) (sym eo))
      (f found end (over ∷ more) (subst (λ z. OpenOrigins b w u c end (over ∷ more) z) (sym is)
      (open_as w (⊤ × ⊤) ⊤ _ (λ final site target p q. OriginsFrom s final site u (t ∷ r') (λ m t. m ≡ q) p target) c end (over ∷ more) (over ∷ more) refl (λ h. (h, h)) (λ h. h.0)
      (λ final site target p q o. origin_more s final site u t (λ m t. m ≡ o.0) (OriginsFrom s final site u r' (λ m t. m ≡ q)) p target (λ m e. subst (λ z. OriginsFrom s final site u r' (λ m t. m ≡ q) z target) (sym e) o.2) o.1)
      (open_then w ⊤ ⊤ _ _ c d end over more (g found) rest))))

  pub origins_put : (u place : ℕ) (a c d e : DraftOf) (ts r : List ℕ) (overs : List ℕ) (target : ℤ) → OwesOrigins b w u place a ts c overs r → r ≡ [] → WritesLastEnd b w u c d → target ≡ pos (length d.instrs) → FillsAll d e overs target → WritesOrigins b w u place ts a e
  unfolding FillsAll WritesOrigins WritesLastEnd OwesOrigins
  origins_put u place a c d e ts r overs target f is g et ee = λ found.
      let s = source_of b in
      let done : OpenOrigins b w u a c overs ts = subst (λ z. OpenOrigins b w u a c z ts) (append-nil overs) (f found c [] (subst (λ z. OpenOrigins b w u c c [] z) (sym is) (open_none w c _ (λ final site target p. refl)))) in
      emits_as w (⊤ × ⊤) ⊤ _ _ a e (λ h. (h, h)) (λ h. h.0)
      (λ final site p q _ _ o. origins_at s final site u ts p q o.0 o.2 o.1)
      (open_filled w ⊤ ⊤ (λ final site target p q. OriginsFrom s final site u ts (λ m t. m ≡ q) p target) (λ final site p q. LastEndAt s final site u p q) a c d e overs target done g et ee)

pub ruleset meanings = (meant, meant_nothing)

pub ruleset origin_ends = (origin_end_put, last_end_put)
