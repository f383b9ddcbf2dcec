-- A statement that several elements share.
use Rattle.std.proofs.Common.{◌≡◌, ◌<◌, ◌≤◌, ◌+◌, ◌*◌, ◌-◌, ℕ, suc, pos, List, [], ◌∷◌, length, drop, Some, refl, sym, ap, ◌∙◌, subst, arith}
use Rattle.std.specs.Prelude.{⊤, slice_get}
use Rattle.sim_scope.specs.declared.bound.Bound.{Bound}
use Rattle.sim_scope.specs.Source.{level_of, source_of}
use Rattle.sim_tree.specs.Syntax.{Element}
use Rattle.sim_code.specs.declared.instr.Instr.{Instr}
use Rattle.sim_code.specs.declared.instr.Instr.TheVariants as i
use Rattle.sim_code.specs.Code.{CodeOf}
use Rattle.codegen_expr.specs.declared.spot.Spot.{Spot}
use Rattle.codegen_expr.specs.Drafts.{DraftOf, Emits, with_hole, with_instr, with_push}
use Rattle.codegen_expr.specs.Sites.{Ahead, At, Pushes, Site, lined}
use Rattle.codegen_expr.proofs.Pieces.{emits_as, emits_at, emits_push, emits_then, get_front}
use Rattle.codegen.specs.CodeFor.{ReturnAt, ReturnsAt}
use Rattle.codegen.specs.EmitShared.{JumpsTo, OpenAt, OwesReturns, PutsReturn, WritesReturns, WritesSent, holes_from}
use Rattle.codegen.proofs.Views.{one_left, two_left}
use Rattle.codegen.proofs.Holes.{emits_here, emits_hole, hole_there, longer_hole, longer_push, longer_put, open_low}

module _ (b : Bound) (w : Spot) where
  pub write_sent : (c0 c1 c2 c3 : DraftOf) (start number level : ℕ) (x y z : Instr) → x ≡ i.Int (pos number) → c1 ≡ with_push c0 0 x 0 → level ≡ level_of (source_of b) w.text → y ≡ i.Store (pos level) (pos w.used) → c2 ≡ with_instr c1 y 0 → z ≡ i.Jump (pos start) → c3 ≡ with_instr c2 z 0 → WritesSent b w c0 c3 start number
  unfolding WritesSent
  write_sent c0 c1 c2 c3 start number level x y z ex e1 el ey e2 ez e3 le =
      let s = source_of b in
      let store = i.Store (pos (level_of s w.text)) (pos w.used) in
      let n1 = longer_push c0 c1 0 x 0 e1 in
      let n2 = longer_put c1 c2 y 0 e2 in
      let n3 = longer_put c2 c3 z 0 e3 in
      emits_here w ⊤ _ _ c0 c3
      (λ final site stands r.
      record {
        x = r.0;
        y = r.2.0;
        pushed = r.1;
        kept = record { line = 0; is = subst (λ m. At final (i.Store (pos (level_of s m)) (pos w.used)) 0 r.0 r.2.0) (sym stands) r.2.1 };
        jump = record { line = 0; is = r.2.2 };
        behind = (let on : length c3.instrs ≡ suc r.2.0 = r.2.2.on in omega (arith, le, on, n1, n2, n3));
      })
      (emits_as w (⊤ × (⊤ × ⊤)) ⊤ _ _ c0 c3 (λ h. (tt, (tt, tt))) (λ h. tt) (λ final site p q _ _ r. r)
      (emits_then w ⊤ (⊤ × ⊤) (λ final site p q. Pushes final site 0 (i.Int (pos number)) p q) (λ final site p q. (u : ℕ) × At final store 0 p u × At final (i.Jump (pos start)) 0 u q) c0 c1 c3
      (emits_push w c0 c1 0 (i.Int (pos number)) 0 (e1 ∙ ap (λ m. with_push c0 0 m 0) ex) (λ m. cc) refl)
      (emits_then w ⊤ ⊤ (λ final site p q. At final store 0 p q) (λ final site p q. At final (i.Jump (pos start)) 0 p q) c1 c2 c3
      (emits_at w c1 c2 store 0 (e2 ∙ ap (λ m. with_instr c1 m 0) (ey ∙ ap (λ m. i.Store (pos m) (pos w.used)) el)) (λ m. cc) refl)
      (emits_at w c2 c3 (i.Jump (pos start)) 0 (e3 ∙ ap (λ m. with_instr c2 m 0) ez) (λ m. cc) refl))))

  pub write_return : (c0 c1 c2 c3 c4 c5 : DraftOf) (number level place : ℕ) (x y z : Instr) → level ≡ level_of (source_of b) w.text → x ≡ i.Load (pos level) (pos w.used) → c1 ≡ with_push c0 0 x 0 → y ≡ i.Int (pos number) → c2 ≡ with_push c1 1 y 0 → c3 ≡ with_instr c2 (i.Rel (pos 2)) 0 → place ≡ length c3.instrs → z ≡ i.JumpF (pos (place + 2)) → c4 ≡ with_instr c3 z 0 → c5 ≡ with_hole c4 → PutsReturn b w c0 c5 number
  unfolding PutsReturn
  write_return c0 c1 c2 c3 c4 c5 number level place x y z el ex e1 ey e2 e3 ep ez e4 e5 =
      let s = source_of b in
      let load = i.Load (pos (level_of s w.text)) (pos w.used) in
      let over = i.JumpF (pos (place + 2)) in
      let n1 : length c1.instrs ≡ suc (length c0.instrs) = longer_push c0 c1 0 x 0 e1 in
      let n2 : length c2.instrs ≡ suc (length c1.instrs) = longer_push c1 c2 1 y 0 e2 in
      let n3 : length c3.instrs ≡ suc (length c2.instrs) = longer_put c2 c3 (i.Rel (pos 2)) 0 e3 in
      let n4 : length c4.instrs ≡ suc (length c3.instrs) = longer_put c3 c4 z 0 e4 in
      let n5 : length c5.instrs ≡ suc (length c4.instrs) = longer_hole c4 c5 e5 in
      let last : length c0.instrs + 4 ≡ length c4.instrs = omega (arith, n1, n2, n3, n4) in
      let end : place + 2 ≡ length c5.instrs = omega (arith, ep, n4, n5) in (
        omega (arith, n1, n2, n3, n4, n5),
        subst (λ m. slice_get c5.instrs m ≡ Some (lined i.Halt 0)) (sym last) (hole_there c4 c5 e5),
        emits_here w ⊤ _ _ c0 c5
            (λ final site stands r target there ahead.
            let on1 = r.1.is.is.on in
            let at4 : length c0.instrs + 4 ≡ r.2.2.2.0 = (let o5 : length c5.instrs ≡ suc r.2.2.2.0 = r.2.2.2.2.0 in omega (arith, o5, n1, n2, n3, n4, n5)) in
            let o4 : r.2.2.2.0 ≡ suc r.2.2.0 = r.2.2.2.1.on in
            record {
              a = r.0;
              b = r.2.0;
              c = r.2.2.0;
              d = r.2.2.2.0;
              kept = subst (λ m. Pushes final site 0 (i.Load (pos (level_of s m)) (pos w.used)) (length c0.instrs) r.0) (sym stands) r.1;
              number_pushed = r.2.1;
              equal = record { line = 0; is = r.2.2.1 };
              other = record { line = 0; is = subst (λ m. At final (i.JumpF (pos m)) 0 r.2.2.0 r.2.2.2.0) end r.2.2.2.1 };
              leads = record { forward = omega (arith, o4, at4, last, n5); there = r.2.2.2.2.1 };
              jump = record { line = 0; is = record { at = subst (λ m. slice_get final.instrs m ≡ Some (lined (i.Jump (pos target)) 0)) at4 there; on = r.2.2.2.2.0 } };
              there = subst (λ m. Ahead final m target) at4 ahead;
            })
            (emits_as w (⊤ × (⊤ × (⊤ × (⊤ × ⊤)))) ⊤ _ _ c0 c5 (λ h. (tt, (tt, (tt, (tt, tt))))) (λ h. tt) (λ final site p q _ _ r. r)
            (emits_then w ⊤ _ (λ final site p q. Pushes final site 0 load p q) _ c0 c1 c5 (emits_push w c0 c1 0 load 0 (e1 ∙ ap (λ m. with_push c0 0 m 0) (ex ∙ ap (λ m. i.Load (pos m) (pos w.used)) el)) (λ m. cc) refl)
            (emits_then w ⊤ _ (λ final site p q. Pushes final site 1 (i.Int (pos number)) p q) _ c1 c2 c5 (emits_push w c1 c2 1 (i.Int (pos number)) 0 (e2 ∙ ap (λ m. with_push c1 1 m 0) ey) (λ m. cc) refl)
            (emits_then w ⊤ _ (λ final site p q. At final (i.Rel (pos 2)) 0 p q) _ c2 c3 c5 (emits_at w c2 c3 (i.Rel (pos 2)) 0 e3 (λ m. cc) refl)
            (emits_then w ⊤ ⊤ (λ final site p q. At final over 0 p q) (λ final site p q. (q ≡ suc p) × (q < length final.instrs)) c3 c4 c5 (emits_at w c3 c4 over 0 (e4 ∙ ap (λ m. with_instr c3 m 0) ez) (λ m. cc) refl)
            (emits_hole w c4 c5 e5)))))),
      )

  pub returns_all : (a : DraftOf) (xs : List Element) → OwesReturns b w a xs a 0 xs
  unfolding OwesReturns
  returns_all a xs end f = f

  pub returns_next : (a c d : DraftOf) (xs r r' : List Element) (x y : Element) (k : ℕ) → OwesReturns b w a xs c k r → r ≡ x ∷ y ∷ r' → PutsReturn b w c d k → OwesReturns b w a xs d (k + 1) (y ∷ r')
  unfolding OwesReturns WritesReturns PutsReturn
  returns_next a c d xs r r' x y k f is one end rest =
      let next : k + 1 ≡ suc k = omega arith in
      f end (subst (λ l. WritesReturns b w c end l (length a.instrs) k) (sym is) (λ at.
      let here : length a.instrs + 5 * k + 4 ≡ length c.instrs + 4 = omega (arith, at) in
      let more : length d.instrs ≡ length c.instrs + 5 = one.0 in
      let later = subst (λ m. length d.instrs ≡ length a.instrs + 5 * m → OpenAt end.instrs (length d.instrs) (holes_from (length a.instrs) m (y ∷ r')) × Emits w d end ⊤ (λ final site p q. (rs : List ℕ) → JumpsTo final (holes_from (length a.instrs) m (y ∷ r')) rs → ReturnsAt (source_of b) final site 0 w.used m rs p q)) next rest (omega (arith, more, at)) in (
        (omega (arith, at), ap (λ z. slice_get z (length a.instrs + 5 * k + 4)) later.1.front ∙ get_front d.instrs later.1.rest (length a.instrs + 5 * k + 4) (lined i.Halt 0) (subst (λ m. slice_get d.instrs m ≡ Some (lined i.Halt 0)) (sym here) one.1), open_low end.instrs (length d.instrs) (suc (length a.instrs + 5 * k + 4)) (holes_from (length a.instrs) (suc k) (y ∷ r')) (omega (arith, more, at)) later.0),
        emits_here w ⊤ _ _ c end
            (λ final site stands at_. turn final site (length a.instrs + 5 * k + 4) (holes_from (length a.instrs) (suc k) (y ∷ r')) k (length c.instrs) (length end.instrs) here at_)
            (emits_as w (⊤ × ⊤) ⊤ _ _ c end (λ h. (tt, tt)) (λ h. tt) (λ final site p q _ _ m. m) (emits_then w ⊤ ⊤ _ _ c d end one.2 later.1)),
      )))
    where
      turn : (final : CodeOf) (site : Site) (h : ℕ) (hs : List ℕ) (k p q : ℕ) → h ≡ p + 4 → ((m : ℕ) × ((target : ℕ) → slice_get final.instrs (p + 4) ≡ Some (lined (i.Jump (pos target)) 0) → Ahead final (p + 4) target → ReturnAt (source_of b) final site 0 w.used k target p m) × ((rs : List ℕ) → JumpsTo final hs rs → ReturnsAt (source_of b) final site 0 w.used (suc k) rs m q))
          → (rs : List ℕ) → JumpsTo final (h ∷ hs) rs → ReturnsAt (source_of b) final site 0 w.used k rs p q
      turn final site h hs k p q eh both [] j = absurd j
      turn final site h hs k p q eh both (r ∷ []) j = absurd (both.2 [] j.2)
      turn final site h hs k p q eh both (r ∷ r2 ∷ rs) j = (both.0, both.1 r (subst (λ m. slice_get final.instrs m ≡ Some (lined (i.Jump (pos r)) 0)) eh j.0) (subst (λ m. Ahead final m r) eh j.1), both.2 (r2 ∷ rs) j.2)

  pub returns_last : (a c d : DraftOf) (xs r : List Element) (x : Element) (k : ℕ) → OwesReturns b w a xs c k r → r ≡ x ∷ [] → d ≡ with_hole c → WritesReturns b w a d xs (length a.instrs) 0
  unfolding OwesReturns WritesReturns
  returns_last a c d xs r x k f is e =
      f d (subst (λ l. WritesReturns b w c d l (length a.instrs) k) (sym is) (λ at. (
        (omega (arith, at), subst (λ m. slice_get d.instrs m ≡ Some (lined i.Halt 0)) at (hole_there c d e), tt),
        emits_here w ⊤ _ _ c d (λ final site stands there. last final site (length a.instrs + 5 * k) k (length c.instrs) (length d.instrs) (sym at) there.0) (emits_hole w c d e),
      )))
    where
      last : (final : CodeOf) (site : Site) (h k p q : ℕ) → h ≡ p → q ≡ suc p → (rs : List ℕ) → JumpsTo final (h ∷ []) rs → ReturnsAt (source_of b) final site 0 w.used k rs p q
      last final site h k p q eh eq [] j = absurd j
      last final site h k p q eh eq (r ∷ []) j = (record { line = 0; is = record { at = subst (λ m. slice_get final.instrs m ≡ Some (lined (i.Jump (pos r)) 0)) eh j.0; on = eq } }, subst (λ m. Ahead final m r) eh j.1)
      last final site h k p q eh eq (r ∷ r2 ∷ rs) j = absurd j.2

  -- by number
  pub returns_on : (a c d : DraftOf) (xs : List Element) (k : ℕ) → OwesReturns b w a xs c k (drop k xs) → k < length xs - 1 → PutsReturn b w c d k → OwesReturns b w a xs d (k + 1) (drop (k + 1) xs)
  returns_on a c d xs k f le one =
      let two = two_left xs k le in
      subst (λ l. OwesReturns b w a xs d (k + 1) l) (sym (ap (λ n. drop n xs) (let next : k + 1 ≡ suc k = omega arith in next) ∙ two.3)) (returns_next a c d xs (drop k xs) two.2 two.0 two.1 k f two.4 one)

  pub returns_end : (a c d : DraftOf) (xs : List Element) (k : ℕ) → OwesReturns b w a xs c k (drop k xs) → 0 < length xs → length xs - 1 ≤ k → k ≤ length xs - 1 → d ≡ with_hole c → WritesReturns b w a d xs (length a.instrs) 0
  returns_end a c d xs k f some le most e =
      let one = one_left xs k (omega (arith, some, le, most)) in
      returns_last a c d xs (drop k xs) one.0 k f one.1 e

pub ruleset shares = (write_sent, write_return)
