-- One turn of `lastitem`, over the image or on to the next one.
use Rattle.std.proofs.Common.{◌≡◌, ℕ, zero, suc, ◌+◌, ◌<◌, ◌≤◌, Bool, true, false, cond, eqb, ltb, List, [], ◌∷◌, length, Result, Ok, Err, refl, sym, ap, ◌∙◌, arith, length-drop}
use Rattle.std.proofs.lemmas.Bool.Decides.{nat_tests}
use Rattle.std.specs.List.{after_first, position_or_len, before_first}
use Rattle.sim_base.specs.declared.run_error.RunError.{RunError}
use Rattle.sim_base.specs.declared.run_error.RunError.TheVariants.{InputLineTooLong, InputAtEnd}
use Rattle.sim_values.specs.Images.{InputState, InputStep, answers, behind_separators, filled, go_on, inimage, is_line_feed, is_used_up, next_item, refuses}

-- how many images a state can still take at most
abbrev pub rank : InputState → ℕ
rank s = cond s.endfile 0 (length s.left + 1)

pub rank-le : (s : InputState) → rank s ≤ length s.left + 1
rank-le s = at_most s.endfile
  where
    at_most : (b : Bool) → cond b 0 (length s.left + 1) ≤ length s.left + 1
    at_most true = omega arith
    at_most false = omega arith

-- `inimage`, at what its tests say
abbrev pub line_step : Bool → Bool → Bool → InputState → InputStep (Unit {0})
line_step ended none long s =
    cond ended (refuses s InputAtEnd)
    (cond none (answers (filled s (25 ∷ []) true []) tt)
    (cond long (refuses s InputLineTooLong) (answers (filled s (before_first is_line_feed s.left) false (after_first is_line_feed s.left)) tt)))

shorter : (xs : List ℕ) → eqb (length xs) 0 ≡ false → length (after_first is_line_feed xs) < length xs
shorter xs some =
    let l = length-drop (position_or_len is_line_feed xs + 1) xs in
    let positive : 0 < length xs = grind (arith, nat_tests) in
    omega (arith, l)

line_falls : (ended none long : Bool) (s : InputState) → ended ≡ s.endfile → none ≡ eqb (length s.left) 0 → (line_step ended none long s).answer ≡ Ok tt → rank (line_step ended none long s).after < rank s
line_falls true none long s e n ok = cc
line_falls false true long s e n ok = rw (← e) (omega arith)
line_falls false false true s e n ok = cc
line_falls false false false s e n ok = rw (← e) (let l = shorter s.left (sym n) in omega arith)

-- each image lowers the bound
pub image_falls : (s : InputState) → (inimage s).answer ≡ Ok tt → rank (inimage s).after < rank s
image_falls s ok = line_falls s.endfile (eqb (length s.left) 0) (ltb s.image.length (length (before_first is_line_feed s.left))) s refl refl ok

-- `next_item` where one more image may be taken, at what its tests say and what `inimage` answers
abbrev pub item_step : Bool → Bool → Result (Unit {0}) RunError → InputState → (InputState → InputStep Bool) → InputStep Bool
item_step ended used answer s next =
    let r = behind_separators s in
    cond ended (answers s true) (cond used (go_on (inimage r).after answer (λ (q : InputState) (done : Unit {0}). next q)) (answers r false))

pub item_at_end : (n : ℕ) (s : InputState) → s.endfile ≡ true → next_item n s ≡ answers s true
item_at_end zero s e = ap (answers s) e
item_at_end (suc n) s e = ap (λ (b : Bool). item_step b (is_used_up (behind_separators s).image) (inimage (behind_separators s)).answer s (next_item n)) e

item_step_same : (ended used : Bool) (answer : Result (Unit {0}) RunError) (s : InputState) (f g : InputState → InputStep Bool) → (answer ≡ Ok tt → f (inimage (behind_separators s)).after ≡ g (inimage (behind_separators s)).after) → item_step ended used answer s f ≡ item_step ended used answer s g
item_step_same true used answer s f g same = refl
item_step_same false false answer s f g same = refl
item_step_same false true (Err e) s f g same = refl
item_step_same false true (Ok done) s f g same = same refl

ended_from_rank : (b : Bool) (k : ℕ) → cond b 0 (k + 1) ≤ 0 → b ≡ true
ended_from_rank true k h = refl
ended_from_rank false k h = absurd (omega arith)

-- enough images are as good as more of them
pub next_item_steady : (n m : ℕ) (s : InputState) → rank s ≤ n → rank s ≤ m → next_item n s ≡ next_item m s
next_item_steady zero m s p q =
    let e = ended_from_rank s.endfile (length s.left) p in
    item_at_end zero s e ∙ sym (item_at_end m s e)
next_item_steady (suc n) zero s p q =
    let e = ended_from_rank s.endfile (length s.left) q in
    item_at_end (suc n) s e ∙ sym (item_at_end zero s e)
next_item_steady (suc n) (suc m) s p q =
    let r = behind_separators s in
    item_step_same s.endfile (is_used_up r.image) (inimage r).answer s (next_item n) (next_item m)
    (λ (e : (inimage r).answer ≡ Ok tt).
    let f = image_falls r e in
    next_item_steady n m (inimage r).after (omega arith) (omega arith))
