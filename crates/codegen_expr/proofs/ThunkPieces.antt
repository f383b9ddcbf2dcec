-- The code of a thunk, which is gone past.
use Rattle.std.proofs.Common.{◌≡◌, ◌≢◌, ◌+◌, ◌<◌, ◌≤◌, ℕ, suc, ℤ, pos, true, List, [], ◌∷◌, ◌++◌, length, Some, ⊎_elim, refl, sym, ap, ◌∙◌, subst, arith, length-append}
use Rattle.std.specs.Prelude.{⊤, slice_get, slice_set}
use Rattle.std.proofs.lemmas.Bool.{cases_eq}
use Rattle.sim_code.specs.declared.code.ThunkRecord.{ThunkRecord}
use Rattle.sim_code.specs.declared.instr.Instr.TheVariants as i
use Rattle.sim_code.specs.Code.{CodeOf}
use Rattle.sim_code.specs.Running.{AllRun}
use Rattle.codegen_expr.specs.declared.spot.Spot.{Spot}
use Rattle.codegen_expr.specs.CodeExpr.{PastThunkAt, ThunkAt}
use Rattle.codegen_expr.specs.Drafts.{Becomes, DraftOf, Emits, Longer, filled_in, open_thunk, planned_at, thunk_begun, thunk_ended, with_hole, with_instr, with_push, with_room_of}
use Rattle.codegen_expr.specs.Sites.{Pushes, Site, lined}
use Rattle.codegen_expr.proofs.OpenThunks.{open_ended, open_last, open_within}
use Rattle.codegen_expr.proofs.Pieces.{Fronts, append_at, becomes_filled, emits_as, emits_push, emits_then, fronts_le, fronts_set, fronts_then, get_front, grows_front, grows_then, more_before, more_behind, more_same, more_set, more_then, run_more, run_set, set_len, set_other, set_same}

one_more : {A : Type 0} (a b : List A) (x : A) → b ≡ a ++ (x ∷ []) → length b ≡ suc (length a)
one_more a b x e = ap length e ∙ length-append a (x ∷ []) ∙ (let t : length a + length (x ∷ []) ≡ suc (length a) = omega arith in t)

-- a thunk that is there, with another room
with_room_there : (ts : List ThunkRecord) (t n : ℕ) (x : ThunkRecord) → slice_get ts t ≡ Some x → with_room_of (slice_get ts t) ts t n ≡ slice_set ts t (record { entry = x.entry; room = n })
with_room_there ts t n x is = ap (λ z. with_room_of z ts t n) is

pub emits_past : (t : Spot) (P : Type 0) (A : CodeOf → Site → ℕ → ℕ → Type 0) (c0 c1 c2 c3 c4 c5 c6 : DraftOf) (over outside number : ℕ) (end : ℤ)
    → over ≡ length c0.instrs → c1 ≡ with_hole c0 → outside ≡ c1.room → number ≡ length c1.thunks → c2 ≡ thunk_begun c1 → Emits t c2 c3 P A → c4 ≡ with_instr c3 i.EndThunk 0 → c5 ≡ thunk_ended c4 number outside → end ≡ pos (length c5.instrs)
    → c6 ≡ filled_in c5 over (i.Jump end) → Emits t c0 c6 P (λ final site p q. PastThunkAt final site number (A final) p q)
unfolding with_hole thunk_begun with_instr thunk_ended filled_in
emits_past t P A c0 c1 c2 c3 c4 c5 c6 over outside number end eo e1 eu en e2 f e4 e5 ee e6 =
    let i1 : c1.instrs ≡ c0.instrs ++ (lined i.Halt 0 ∷ []) = ap (λ z. z.instrs) e1 in
    let i2 : c2.instrs ≡ c1.instrs = ap (λ z. z.instrs) e2 in
    let i4 : c4.instrs ≡ c3.instrs ++ (lined i.EndThunk 0 ∷ []) = ap (λ z. z.instrs) e4 in
    let i5 : c5.instrs ≡ c4.instrs = ap (λ z. z.instrs) e5 in
    let i6 : c6.instrs ≡ slice_set c5.instrs over (lined (i.Jump end) 0) = ap (λ z. z.instrs) e6 in
    let n01 : length c1.instrs ≡ suc (length c0.instrs) = one_more c0.instrs c1.instrs (lined i.Halt 0) i1 in
    let n12 : length c2.instrs ≡ length c1.instrs = ap length i2 in
    let f23 : Fronts c2.instrs c3.instrs = (f.rest, f.front) in
    let n23 : length c2.instrs ≤ length c3.instrs = fronts_le c2.instrs c3.instrs f23 in
    let n34 : length c4.instrs ≡ suc (length c3.instrs) = one_more c3.instrs c4.instrs (lined i.EndThunk 0) i4 in
    let n45 : length c5.instrs ≡ length c4.instrs = ap length i5 in
    let n56 : length c6.instrs ≡ length c5.instrs = ap length i6 ∙ set_len c5.instrs over (lined (i.Jump end) 0) in
    let f35 : Fronts c3.instrs c5.instrs = (lined i.EndThunk 0 ∷ [], i5 ∙ i4) in
    let f13 : Fronts c1.instrs c3.instrs = (f.rest, f.front ∙ ap (λ z. z ++ f.rest) i2) in
    let f15 : Fronts c1.instrs c5.instrs = fronts_then c1.instrs c3.instrs c5.instrs f13 f35 in
    let f05 : Fronts c0.instrs c5.instrs = fronts_then c0.instrs c1.instrs c5.instrs (lined i.Halt 0 ∷ [], i1) f15 in
    let from : length c0.instrs ≤ over = omega (arith, eo) in
    let f06 : Fronts c0.instrs c6.instrs = fronts_set c0.instrs c5.instrs c6.instrs over (lined (i.Jump end) 0) f05 from i6 in
    let hole1 : slice_get c1.instrs over ≡ Some (lined i.Halt 0) = ap (slice_get c1.instrs) eo ∙ ap (λ z. slice_get z (length c0.instrs)) i1 ∙ append_at c0.instrs (lined i.Halt 0) in
    let hole : slice_get c5.instrs over ≡ Some (lined i.Halt 0) = ap (λ z. slice_get z over) f15.1 ∙ get_front c1.instrs f15.0 over (lined i.Halt 0) hole1 in
    let room1 : c1.room ≡ c0.room = ap (λ z. z.room) e1 in
    let room2 : c2.room ≡ 1 = ap (λ z. z.room) e2 in
    let room4 : c4.room ≡ c3.room = ap (λ z. z.room) e4 in
    let room5 : c5.room ≡ outside = ap (λ z. z.room) e5 in
    let room6 : c6.room ≡ c5.room = ap (λ z. z.room) e6 in
    let r23 = f.roomier in
    let some_room : c4.room ≢ 0 = λ h. (let k : ⊥ = omega (arith, h, room4, room2, r23) in k) in
    let size1 : c1.size ≡ c0.size = ap (λ z. z.size) e1 in
    let size2 : c2.size ≡ c1.size = ap (λ z. z.size) e2 in
    let size4 : c4.size ≡ c3.size = ap (λ z. z.size) e4 in
    let size5 : c5.size ≡ c4.size = ap (λ z. z.size) e5 in
    let size6 : c6.size ≡ c5.size = ap (λ z. z.size) e6 in
    let s23 = f.larger in
    let whole1 : c1.whole ≡ c0.whole = ap (λ z. z.whole) e1 in
    let whole2 : c2.whole ≡ c1.whole = ap (λ z. z.whole) e2 in
    let whole4 : c4.whole ≡ c3.whole = ap (λ z. z.whole) e4 in
    let whole5 : c5.whole ≡ c4.whole = ap (λ z. z.whole) e5 in
    let whole6 : c6.whole ≡ c5.whole = ap (λ z. z.whole) e6 in
    let at3 : c6.whole ≡ true → c3.whole ≡ true = λ w. sym whole4 ∙ sym whole5 ∙ sym whole6 ∙ w in
    let entry : ThunkRecord = record { entry = length c1.instrs; room = 0 } in
    let whole_thunk : ThunkRecord = record { entry = length c1.instrs; room = c4.room } in
    let t1 : c1.thunks ≡ c0.thunks = ap (λ z. z.thunks) e1 in
    let t2 : c2.thunks ≡ c1.thunks ++ (entry ∷ []) = ap (λ z. z.thunks) e2 in
    let t4 : c4.thunks ≡ c3.thunks = ap (λ z. z.thunks) e4 in
    let open2 : slice_get c2.thunks number ≡ Some entry = ap (slice_get c2.thunks) en ∙ ap (λ z. slice_get z (length c1.thunks)) t2 ∙ append_at c1.thunks entry in
    let open3 : slice_get c3.thunks number ≡ Some entry = ap (λ z. slice_get z number) f.thunked.front ∙ get_front c2.thunks f.thunked.more number entry open2 in
    let open4 : slice_get c4.thunks number ≡ Some entry = ap (λ z. slice_get z number) t4 ∙ open3 in
    let t5 : c5.thunks ≡ slice_set c4.thunks number whole_thunk = ap (λ z. z.thunks) e5 ∙ with_room_there c4.thunks number c4.room entry open4 in
    let t6 : c6.thunks ≡ c5.thunks = ap (λ z. z.thunks) e6 in
    let done5 : slice_get c5.thunks number ≡ Some whole_thunk = ap (λ z. slice_get z number) t5 ∙ set_same c4.thunks number entry whole_thunk open4 in
    let m04 : Longer c0.thunks c4.thunks = more_behind t4 (more_then (more_behind t1 (more_same refl)) (more_then (record { more = entry ∷ []; front = t2 }) (record { more = f.thunked.more; front = f.thunked.front }))) in
    let past : length c0.thunks ≤ number = (let k : length c1.thunks ≡ length c0.thunks = ap length t1 in omega (arith, k, en)) in
    let m05 : Longer c0.thunks c5.thunks = more_behind t5 (more_set c0.thunks c4.thunks number whole_thunk m04 past) in
    let front3 : c3.thunks ≡ (c1.thunks ++ (entry ∷ [])) ++ f.thunked.more = f.thunked.front ∙ ap (λ z. z ++ f.thunked.more) t2 in
    let opened3 : open_thunk c3.thunks ≡ Some (length c1.thunks) = f.thunked.opened ∙ ap open_thunk t2 ∙ open_last c1.thunks entry refl in
    let open5 : open_thunk c5.thunks ≡ open_thunk c1.thunks =
    ap open_thunk (t5 ∙ ap (λ z. slice_set z number whole_thunk) (t4 ∙ front3) ∙ ap (λ z. slice_set ((c1.thunks ++ (entry ∷ [])) ++ f.thunked.more) z whole_thunk) en) ∙ open_ended c1.thunks f.thunked.more entry whole_thunk refl some_room (sym (ap open_thunk front3) ∙ opened3) in
    let open6 : open_thunk c6.thunks ≡ open_thunk c0.thunks = ap open_thunk t6 ∙ open5 ∙ ap open_thunk t1 in
    let m06 : Longer c0.thunks c6.thunks = more_behind t6 m05 in
    let lists35 : c5.lists ≡ c3.lists = ap (λ z. z.lists) e5 ∙ ap (λ z. z.lists) e4 in
    let classes35 : c5.classes ≡ c3.classes = ap (λ z. z.classes) e5 ∙ ap (λ z. z.classes) e4 in
    let put6 : slice_get c6.instrs over ≡ Some (lined (i.Jump end) 0) = ap (λ z. slice_get z over) i6 ∙ set_same c5.instrs over (lined i.Halt 0) (lined (i.Jump end) 0) hole in
    let ended5 : slice_get c5.instrs (length c3.instrs) ≡ Some (lined i.EndThunk 0) = ap (λ z. slice_get z (length c3.instrs)) (i5 ∙ i4) ∙ append_at c3.instrs (lined i.EndThunk 0) in
    record {
      rest = f06.0;
      front = f06.1;
      roomier = omega (arith, room1, eu, room5, room6);
      larger = omega (arith, size1, size2, size4, size5, size6, s23);
      classed = ap (λ z. z.classes) e6 ∙ classes35 ∙ f.classed ∙ ap (λ z. z.classes) e2 ∙ ap (λ z. z.classes) e1;
      thunked = record { more = m06.more; front = m06.front; opened = open6 };
      listed = more_behind (ap (λ z. z.lists) e6 ∙ lists35) (more_before (ap (λ z. z.lists) e2 ∙ ap (λ z. z.lists) e1) f.listed);
      built = λ p w. whole6 ∙ whole5 ∙ whole4 ∙ f.built p (whole2 ∙ whole1 ∙ w);
      before = λ w. sym whole1 ∙ sym whole2 ∙ f.before (at3 w);
      only = λ w. f.only (at3 w);
      fits = λ h.
          run_set c5.instrs c6.instrs over (lined (i.Jump end) 0) i6 refl
          (subst AllRun (sym i5) (run_more c3.instrs c4.instrs (lined i.EndThunk 0) i4 refl (f.fits (subst AllRun (sym i2) (run_more c0.instrs c1.instrs (lined i.Halt 0) i1 refl h)))));
      at = λ w final site g.
          let g5 : Becomes t c5 final site = becomes_filled t c5 c6 final site over (i.Jump end) hole e6 g in
          let g3 : Becomes t c3 final (record site { room = c4.room; thunk = Some number }) = inner t c3 c4 c5 final site number entry whole_thunk f35 room4 (size5 ∙ size4) classes35 lists35 t4 t5 open3 (opened3 ∙ ap Some (sym en)) g5 refl in
          let there1 : slice_get final.instrs over ≡ Some (lined (i.Jump end) 0) = g.grows.keeps over (lined (i.Jump end) 0) put6 (λ z. cc) in
          let there2 : slice_get final.instrs (length c3.instrs) ≡ Some (lined i.EndThunk 0) = g5.grows.keeps (length c3.instrs) (lined i.EndThunk 0) ended5 (λ z. cc) in
          let fs = g.follows in
          let whole_there : slice_get final.thunks number ≡ Some whole_thunk = g5.thunked.keeps number whole_thunk done5 some_room in
          record {
            x = length c2.instrs;
            y = length c3.instrs;
            room = c4.room;
            over = record { line = 0; is = record { at = ap (slice_get final.instrs) (sym eo) ∙ there1 ∙ ap (λ z. Some (lined (i.Jump z) 0)) (ee ∙ ap pos (sym n56)); on = n12 ∙ n01 } };
            past = record { forward = omega (arith, n01, n12, n23, n34, n45, n56); there = fs };
            there = whole_there ∙ ap (λ z. Some (record { entry = z; room = c4.room })) (sym n12);
            later = λ k is.
                let lt : k < length c0.thunks = open_within c0.thunks k (sym open6 ∙ sym g.belongs ∙ is) in
                let same : length c1.thunks ≡ length c0.thunks = ap length t1 in
                omega (arith, lt, same, en);
            given = f.at (at3 w) final (record site { room = c4.room; thunk = Some number }) g3;
            end = record { line = 0; is = record { at = there2; on = n56 ∙ n45 ∙ n34 } };
          };
    }
  where
    inner : (t : Spot) (c3 c4 c5 : DraftOf) (final : CodeOf) (site : Site) (number : ℕ) (entry whole_thunk : ThunkRecord) → Fronts c3.instrs c5.instrs → c4.room ≡ c3.room → c5.size ≡ c3.size → c5.classes ≡ c3.classes → c5.lists ≡ c3.lists → c4.thunks ≡ c3.thunks → c5.thunks ≡ slice_set c4.thunks number whole_thunk
        → slice_get c3.thunks number ≡ Some entry → open_thunk c3.thunks ≡ Some number → Becomes t c5 final site → entry.room ≡ 0 → Becomes t c3 final (record site { room = c4.room; thunk = Some number })
    inner t c3 c4 c5 final site number entry whole_thunk f35 er es ec els t4 t5 open3 opened g none =
        let le = fronts_le c3.instrs c5.instrs f35 in
        let fs = g.follows in
        let sized = g.sized in
        record {
          grows = grows_then c3.instrs c5.instrs final.instrs (grows_front c3.instrs c5.instrs f35) g.grows;
          roomy = omega (arith, er);
          sized = omega (arith, es, sized);
          stands = g.stands;
          temps = g.temps;
          taken = g.taken;
          follows = omega (arith, le, fs);
          thunked = record {
            keeps = λ k x is some'.
                ⊎_elim
                (λ same. absurd (some' (ap (λ z. z.room) (some_same x entry (sym (subst (λ z. slice_get c3.thunks z ≡ Some x) same is) ∙ open3)) ∙ none)))
                (λ other. g.thunked.keeps k x (ap (λ z. slice_get z k) t5 ∙ set_other c4.thunks number k whole_thunk other ∙ ap (λ z. slice_get z k) t4 ∙ is) some')
                (cases_eq k number);
          };
          belongs = sym opened;
          listed = more_before els g.listed;
          classed = λ k. g.classed k ∙ ap (λ z. planned_at z k) ec;
        }
      where
        some_same : (y z : ThunkRecord) → Some y ≡ Some z → y ≡ z
        some_same y z h = cc

-- and then it is pushed
pub emits_thunk : (t : Spot) (n : ℕ) (P : Type 0) (A : CodeOf → Site → ℕ → ℕ → Type 0) (c0 c6 c7 : DraftOf) (number : ℕ) → Emits t c0 c6 P (λ final site p q. PastThunkAt final site number (A final) p q) → c7 ≡ with_push c6 n (i.Thunk (pos number)) 0
    → Emits t c0 c7 P (λ final site p q. ThunkAt final site n (A final) p q)
emits_thunk t n P A c0 c6 c7 number f e7 =
    emits_as t (P × ⊤) P _ _ c0 c7 (λ h. (h, tt)) (λ h. h.0) (λ final site p q _ _ r. record { z = r.0; number = number; past = r.1; thunk = r.2 })
    (emits_then t P ⊤ (λ final site p q. PastThunkAt final site number (A final) p q) (λ final site p q. Pushes final site n (i.Thunk (pos number)) p q) c0 c6 c7 f (emits_push t c6 c7 n (i.Thunk (pos number)) 0 e7 (λ z. cc) refl))
