-- Operand stacks lie one behind the other.
use Rattle.std.proofs.Common.{◌≡◌, ℕ, zero, suc, ◌+◌, ◌<◌, List, [], ◌∷◌, ◌++◌, length, set, sym, subst, ap, ◌∙◌, arith}
use Rattle.frame_arena.specs.declared.frames.Frame.{Frame}
use Rattle.frame_arena.specs.Frames.{Laid, frame_at, rooms}

-- a frame with the same operand stack
pub rooms_kept : (fs : List Frame) (place : ℕ) (f : Frame) → place < length fs → f.floor ≡ (frame_at fs place).floor → f.room ≡ (frame_at fs place).room → rooms (set fs place f) ≡ rooms fs
rooms_kept [] place f h a b = absurd (omega (arith, h))
rooms_kept (x ∷ xs) zero f h a b = ap (λ n. (n, f.room) ∷ rooms xs) a ∙ ap (λ n. (x.floor, n) ∷ rooms xs) b
rooms_kept (x ∷ xs) (suc n) f h a b = ap (λ l. (x.floor, x.room) ∷ l) (rooms_kept xs n f (omega (arith, h)) a b)

-- a region more, with its operand stack behind all others
pub laid_more : (from end : ℕ) (fs : List Frame) (f : Frame) → Laid from (rooms fs) end → f.floor ≡ end → Laid from (rooms (fs ++ f ∷ [])) (end + f.room)
laid_more from end [] f h a = (a ∙ sym h, ap (λ n. n + f.room) h)
laid_more from end (x ∷ xs) f h a = (h.0, laid_more (from + x.room) end xs f h.1 a)

pub laid_to : (end end2 : ℕ) (fs : List Frame) (f : Frame) → Laid 0 (rooms fs) end → f.floor ≡ end → end2 ≡ end + f.room → Laid 0 (rooms (fs ++ f ∷ [])) end2
laid_to end end2 fs f h a e = subst (λ n. Laid 0 (rooms (fs ++ f ∷ [])) n) (sym e) (laid_more 0 end fs f h a)
