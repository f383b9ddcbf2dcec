-- Loops: a test, a body, and the jump back.
use Rattle.std.proofs.Common.{◌≡◌, ◌≤◌, ◌+◌, ℕ, ℤ, pos, suc, List, [], ◌∷◌, ◌++◌, length, refl, ap, ◌∙◌, subst, arith, length-append}
use Rattle.std.specs.Prelude.{⊤}
use Rattle.sim_code.specs.declared.instr.Instr.TheVariants as i
use Rattle.sim_code.specs.declared.instr.Lined.{Lined}
use Rattle.sim_code.specs.Code.{CodeOf}
use Rattle.codegen_expr.specs.declared.spot.Spot.{Spot}
use Rattle.codegen_expr.specs.Drafts.{DraftOf, Emits, filled_in, with_hole, with_instr}
use Rattle.codegen_expr.specs.Sites.{Ahead, At, Is, Site, lined}
use Rattle.codegen_expr.proofs.Pieces.{Later, emits_at, emits_then, emits_when, fronts_le, later_emits, later_hole, later_then, set_len}

-- The test is at p, the jump out at y, the jump back at v.
pub record CycleAt (code : CodeOf) (Test Body : ℕ → ℕ → Type 0) (p q : ℕ) : Type 0 where
  pub y : ℕ
  pub z : ℕ
  pub v : ℕ
  pub test : Test p y
  pub jump : Is code (i.JumpF (pos q)) y z
  pub leads : Ahead code y q
  pub body : Body z v
  pub back : Is code (i.Jump (pos p)) v q
  pub behind : p ≤ v

pub emits_cycle : (t : Spot) (P Q : Type 0) (A B : CodeOf → Site → ℕ → ℕ → Type 0) (c1 c3 c4 c5 c6 new : DraftOf) (start end : ℤ) (jump : ℕ) → start ≡ pos (length c1.instrs) → Emits t c1 c3 P A → jump ≡ length c3.instrs → c4 ≡ with_hole c3 → Emits t c4 c5 Q B
    → c6 ≡ with_instr c5 (i.Jump start) 0 → end ≡ pos (length c6.instrs) → new ≡ filled_in c6 jump (i.JumpF end) → Emits t c1 new (P × Q) (λ final site p q. CycleAt final (A final site) (B final site) p q)
unfolding with_instr filled_in
emits_cycle t P Q A B c1 c3 c4 c5 c6 new start end jump es a ej e4 b e6 ee en =
    let body = emits_then t Q ⊤ B (λ f site p q. At f (i.Jump start) 0 p q) c4 c5 c6 b (emits_at t c5 c6 (i.Jump start) 0 e6 (λ z. cc) refl) in
    let all = emits_when t P (Q × ⊤) A (λ f site p q. (x : ℕ) × B f site p x × At f (i.Jump start) 0 x q) c1 c3 c4 c6 new jump end a ej e4 body ee en in
    let l35 : Later c3 c5 = later_then c3 c4 c5 (later_hole c3 c4 e4) (later_emits t c4 c5 Q B b) in
    let n15 : length c1.instrs ≤ length c5.instrs = fronts_le c1.instrs c5.instrs (later_then c1 c3 c5 (later_emits t c1 c3 P A a) l35).front in
    let n56 : length c6.instrs ≡ suc (length c5.instrs) = plus_one c5.instrs c6.instrs (lined (i.Jump start) 0) (ap (λ z. z.instrs) e6) in
    let same : length new.instrs ≡ length c6.instrs = ap length (ap (λ z. z.instrs) en) ∙ set_len c6.instrs jump (lined (i.JumpF end) 0) in
    record {
      rest = all.rest;
      front = all.front;
      roomier = all.roomier;
      larger = all.larger;
      classed = all.classed;
      thunked = all.thunked;
      listed = all.listed;
      built = λ p w. all.built (p.0, (p.1, tt)) w;
      before = all.before;
      only = λ w. (let r = all.only w in (r.0, r.1.0));
      fits = all.fits;
      at = λ w final site g.
          let r = all.at w final site g in
          let on : length new.instrs ≡ suc r.first.0 = r.first.2.on in
          let back : At final (i.Jump (pos (length c1.instrs))) 0 r.first.0 (length new.instrs) = subst (λ z. At final (i.Jump z) 0 r.first.0 (length new.instrs)) es r.first.2 in
          record { y = r.y; z = r.z; v = r.first.0; test = r.test; jump = r.jump; leads = r.leads; body = r.first.1; «back» = record { line = 0; is = back }; behind = omega (arith, on, same, n15, n56) };
    }
  where
    plus_one : (a b : List Lined) (x : Lined) → b ≡ a ++ (x ∷ []) → length b ≡ suc (length a)
    plus_one a b x e = ap length e ∙ length-append a (x ∷ []) ∙ (let t : length a + length (x ∷ []) ≡ suc (length a) = omega arith in t)
