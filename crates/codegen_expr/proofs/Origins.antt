-- Where an object of `process` itself was generated.
use Rattle.std.proofs.Common.{◌≡◌, ◌+◌, ℕ, suc, pos, refl, ap, ◌∙◌, subst}
use Rattle.std.specs.Prelude.{⊤}
use Rattle.sim_base.specs.declared.numbering.TokenNo.{TokenNo}
use Rattle.sim_scope.specs.declared.bound.Bound.{Bound}
use Rattle.sim_scope.specs.Source.{line_at, source_of}
use Rattle.sim_code.specs.declared.instr.Instr.{Instr}
use Rattle.sim_code.specs.declared.instr.Instr.TheVariants as i
use Rattle.sim_meaning.specs.Pending.{Origin}
use Rattle.codegen_expr.specs.declared.spot.Spot.{Spot}
use Rattle.codegen_expr.specs.Drafts.{DraftOf, planned_start, with_instr, with_push}
use Rattle.codegen_expr.specs.EmitObjects.{WritesOrigin}
use Rattle.codegen_expr.specs.Known.{OriginSlot}
use Rattle.codegen_expr.specs.Sites.{At, Pushes}
use Rattle.codegen_expr.proofs.Pieces.{emits_as, emits_at, emits_classed, emits_push, emits_then}
use Rattle.codegen_expr.proofs.Slots.{slot_found, slot_within}

module _ (b : Bound) (w : Spot) (n : ℕ) where
  pub origin_written : (a c0 c1 c2 c : DraftOf) (token class : TokenNo) (k m j place slot line : ℕ) (x y : Instr) → m ≡ suc n → j ≡ suc m → OriginSlot (source_of b) k place → slot ≡ planned_start (source_of b) a.classes k + place → c0 ≡ with_push a m i.Dup 0 → x ≡ i.AddrR (pos slot) (pos 0)
      → line ≡ line_at (source_of b) token.0 → c1 ≡ with_instr c0 x line → y ≡ i.Int (pos class.0) → c2 ≡ with_push c1 j y 0 → c ≡ with_instr c2 i.Put 0 → WritesOrigin b w n a c token class k
  unfolding WritesOrigin OriginSlot
  origin_written a c0 c1 c2 c token class k m j place slot line x y em ej f es e0 ex el e1 ey e2 ec = λ process.
      let s = source_of b in
      let l = line_at s token.0 in
      let found = f process in
      let address = i.AddrR (pos slot) (pos 0) in
      let given = i.Int (pos class.0) in
      emits_classed w ⊤ (λ final site p q. (u : ℕ) × Pushes final site (suc n) i.Dup p u × ((v : ℕ) × At final address l u v × ((t : ℕ) × Pushes final site (suc (suc n)) given v t × At final i.Put 0 t q))) _ a c
      (λ final site p q known r. (
        slot_within s k Origin place found,
        r.0,
        r.2.0,
        r.2.2.0,
        r.1,
        subst (λ z. At final (i.AddrR (pos z) (pos 0)) l r.0 r.2.0) (slot_found s final a.classes k Origin place slot known found es) r.2.1,
        r.2.2.1,
        record { line = 0; is = r.2.2.2 },
      ))
      (emits_as w _ ⊤ _ _ a c (λ t. (tt, (tt, (tt, tt)))) (λ t. tt) (λ final site p q _ _ r. r)
      (emits_then w ⊤ _ (λ z site p q. Pushes z site (suc n) i.Dup p q) (λ z site p q. (v : ℕ) × At z address l p v × ((t : ℕ) × Pushes z site (suc (suc n)) given v t × At z i.Put 0 t q)) a c0 c (emits_push w a c0 (suc n) i.Dup 0 (e0 ∙ ap (λ z. with_push a z i.Dup 0) em) (λ z. cc) refl)
      (emits_then w ⊤ _ (λ z site p q. At z address l p q) (λ z site p q. (t : ℕ) × Pushes z site (suc (suc n)) given p t × At z i.Put 0 t q) c0 c1 c (emits_at w c0 c1 address l (e1 ∙ ap (λ z. with_instr c0 z line) ex ∙ ap (with_instr c0 address) el) (λ z. cc) refl)
      (emits_then w ⊤ ⊤ (λ z site p q. Pushes z site (suc (suc n)) given p q) (λ z site p q. At z i.Put 0 p q) c1 c2 c (emits_push w c1 c2 (suc (suc n)) given 0 (e2 ∙ ap (λ z. with_push c1 z y 0) (ej ∙ ap suc em) ∙ ap (λ z. with_push c1 (suc (suc n)) z 0) ey) (λ z. cc) refl)
      (emits_at w c2 c i.Put 0 ec (λ z. cc) refl)))))

pub ruleset origins = (origin_written)
