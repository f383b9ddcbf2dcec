-- `&` makes the text that has the characters of both.
use Rattle.std.proofs.Common.{◌≡◌, ◌<◌, ◌≤◌, ℕ, zero, suc, ◌+◌, true, false, List, [], ◌∷◌, ◌++◌, length, refl, sym, ap, ◌∙◌, subst, arith, append-nil}
use Rattle.std.specs.Prelude.{◌-◌, ◌==◌, if◌then◌else◌, pos, take, drop, replicate, slice_index_or, slice_set, Ok, Err}
use Rattle.std.proofs.lemmas.List.{length-append, length-drop, length-replicate, length-take-le}
use Rattle.std.proofs.Math.Seq.{drop-length, take-append_seam}
use Rattle.sim_values.specs.declared.value.TextVal.{TextVal}
use Rattle.sim_values.specs.Arithmetic.{is_integer}
use Rattle.sim_values.specs.Texts.{Frame, IsText, LiesIn, Making, assigned, both_assigned, characters, concatenated, frame_at, join, new_text, notext, padded, part, replaced, with_new, written}
use Rattle.sim_base.specs.declared.run_error.RunError.TheVariants.{IntegerOverflow}
use Rattle.sim_values.specs.Words.{text_words}

-- ---- lists

drop_all : (n : ℕ) (xs : List ℕ) → length xs ≡ n → drop n xs ≡ []
drop_all n xs e = subst (λ k. drop k xs ≡ []) e (drop-length xs)

take_first : (n : ℕ) (xs ys : List ℕ) → length xs ≡ n → take n (xs ++ ys) ≡ xs
take_first n xs ys e = subst (λ k. take k (xs ++ ys) ≡ xs) e (take-append_seam xs ys)

last_frame : (frames : List Frame) (f d : Frame) → slice_index_or (frames ++ f ∷ []) (length frames) d ≡ f
last_frame [] f d = refl
last_frame (x ∷ frames) f d = last_frame frames f d

last_set : (frames : List Frame) (f g : Frame) → slice_set (frames ++ f ∷ []) (length frames) g ≡ frames ++ g ∷ []
last_set [] f g = refl
last_set (x ∷ frames) f g = ap (λ z. x ∷ z) (last_set frames f g)

earlier_frame : (frames : List Frame) (f d : Frame) (n : ℕ) → n < length frames → slice_index_or (frames ++ f ∷ []) n d ≡ slice_index_or frames n d
earlier_frame [] f d n lt = absurd (omega (arith, lt))
earlier_frame (x ∷ frames) f d zero lt = refl
earlier_frame (x ∷ frames) f d (suc n) lt = earlier_frame frames f d n (omega (arith, lt))

abbrev of_bytes : List ℕ → Frame
of_bytes bytes = record { bytes = bytes; constant = false }

-- ---- characters

nothing_taken : (n : ℕ) (xs : List ℕ) → n ≡ 0 → take n xs ≡ []
nothing_taken n xs e = ap (λ k. take k xs) e

lies : (frames : List Frame) (t : TextVal) → IsText frames t → (n : ℕ) → t.length ≡ suc n → LiesIn frames t
lies frames t is n e = is.lies (let s = is.starts in omega (arith, s, e))

many_of : (frames : List Frame) (t : TextVal) (n : ℕ) → t.length ≡ n → IsText frames t → length (characters frames t) ≡ n
many_of frames t zero e is = ap length (nothing_taken t.length (drop (t.start - 1) (frame_at frames t.text_frame).bytes) e)
many_of frames t (suc n) e is =
    let l = (lies frames t is n e).within in
    let s = is.starts in
    let d = length-drop (t.start - 1) (frame_at frames t.text_frame).bytes in
    length-take-le t.length (drop (t.start - 1) (frame_at frames t.text_frame).bytes) (omega (arith, l, s, d)) ∙ e

-- a new frame leaves the characters of a text
same_characters : (frames : List Frame) (f : Frame) (t : TextVal) (n : ℕ) → t.length ≡ n → IsText frames t → characters (frames ++ f ∷ []) t ≡ characters frames t
same_characters frames f t zero e is = nothing_taken t.length _ e ∙ sym (nothing_taken t.length (drop (t.start - 1) (frame_at frames t.text_frame).bytes) e)
same_characters frames f t (suc n) e is = ap (λ (z : Frame). take t.length (drop (t.start - 1) z.bytes)) (earlier_frame frames f (record { bytes = []; constant = true }) t.text_frame (lies frames t is n e).made)

-- ---- frames that are written

-- what is written into the last frame
last_written : (frames : List Frame) (bytes : List ℕ) (at : ℕ) (new : List ℕ) → written (frames ++ of_bytes bytes ∷ []) (length frames) at new ≡ frames ++ of_bytes (replaced bytes at new) ∷ []
last_written frames bytes at new =
    ap (λ (f : Frame). slice_set (frames ++ of_bytes bytes ∷ []) (length frames) (record { bytes = replaced f.bytes at new; constant = f.constant })) (last_frame frames (of_bytes bytes) (record { bytes = []; constant = true }))
    ∙ last_set frames (of_bytes bytes) (of_bytes (replaced bytes at new))

first_same : (frames : List Frame) → written frames 0 0 [] ≡ frames
first_same [] = refl
first_same (f ∷ frames) = refl

-- nothing is assigned to `notext`
empty_assigned : (frames : List Frame) (b : TextVal) → b.length ≡ 0 → assigned frames notext b ≡ frames
empty_assigned frames b e = ap (λ cs. written frames 0 0 (padded 0 cs)) (nothing_taken b.length _ e) ∙ first_same frames

padded_long : (n : ℕ) (cs : List ℕ) → length cs ≤ n → length (padded n cs) ≡ n
padded_long n cs le = let a = length-append cs (replicate (n - length cs) 32) in let b = length-replicate {A = ℕ} (n - length cs) 32 in omega (arith, a, b, le)

no_blanks : (n : ℕ) (cs : List ℕ) → length cs ≡ n → padded n cs ≡ cs
no_blanks n cs e = ap (λ k. cs ++ replicate k 32) (let z : n - length cs ≡ 0 = omega (arith, e) in z) ∙ append-nil cs

-- all of a frame is replaced
all_replaced : (n : ℕ) (bytes new : List ℕ) → length bytes ≡ n → length new ≡ n → replaced bytes 0 new ≡ new
all_replaced n bytes new e f = ap (λ z. new ++ z) (ap (λ k. drop k bytes) (let z : 0 + length new ≡ n = omega (arith, f) in z) ∙ drop_all n bytes e) ∙ append-nil new

-- what is behind some bytes is replaced
rest_replaced : (n m : ℕ) (front rest new : List ℕ) → length front ≡ n → length new ≡ m → length (front ++ rest) ≡ n + m → replaced (front ++ rest) n new ≡ front ++ new
rest_replaced n m front rest new e f g =
    ap (λ z. z ++ (new ++ drop (n + length new) (front ++ rest))) (take_first n front rest e)
    ∙ ap (λ z. front ++ (new ++ z)) (ap (λ k. drop (n + k) (front ++ rest)) f ∙ drop_all (n + m) (front ++ rest) g)
    ∙ ap (λ z. front ++ z) (append-nil new)

-- ---- texts of some length

not_zero : (m : ℕ) → (suc m == 0) ≡ false
not_zero m = grind arith

abbrev whole : List Frame → ℕ → TextVal
whole frames n = record { text_frame = length frames; start = 1; length = n; pos = 1 }

new_whole : (frames : List Frame) (m : ℕ) → new_text frames (suc m) ≡ whole frames (suc m)
new_whole frames m = ap (λ b. if b then notext else whole frames (suc m)) (not_zero m)

part_of : (t : TextVal) (i k : ℕ) → part t i (suc k) ≡ record { text_frame = t.text_frame; start = t.start + i - 1; length = suc k; pos = 1 }
part_of t i k = ap (λ b. if b then notext else record { text_frame = t.text_frame; start = t.start + i - 1; length = suc k; pos = 1 }) (not_zero k)

-- ---- the two parts

module _ (frames : List Frame) (a b : TextVal) (fa : IsText frames a) (fb : IsText frames b) where
  abbrev ca : List ℕ
  ca = characters frames a

  abbrev cb : List ℕ
  cb = characters frames b

  -- the left text, in a new frame
  first_part : (m : ℕ) → a.length ≤ suc m → assigned (frames ++ of_bytes (replicate (suc m) 32) ∷ []) (whole frames (suc m)) a ≡ frames ++ of_bytes (padded (suc m) ca) ∷ []
  first_part m le =
      let many = many_of frames a a.length refl fa in
      ap (λ cs. written (frames ++ of_bytes (replicate (suc m) 32) ∷ []) (length frames) 0 (padded (suc m) cs)) (same_characters frames (of_bytes (replicate (suc m) 32)) a a.length refl fa)
      ∙ last_written frames (replicate (suc m) 32) 0 (padded (suc m) ca)
      ∙ ap (λ z. frames ++ of_bytes z ∷ []) (all_replaced (suc m) (replicate (suc m) 32) (padded (suc m) ca) (length-replicate {A = ℕ} (suc m) 32) (padded_long (suc m) ca (omega (arith, many, le))))

  -- and the right one behind it
  second_part : (m lb : ℕ) → b.length ≡ lb → a.length + lb ≡ suc m → assigned (frames ++ of_bytes (padded (suc m) ca) ∷ []) (part (whole frames (suc m)) (a.length + 1) b.length) b ≡ frames ++ of_bytes (ca ++ cb) ∷ []
  second_part m zero e n =
      let many = many_of frames a a.length refl fa in
      ap (λ k. assigned (frames ++ of_bytes (padded (suc m) ca) ∷ []) (part (whole frames (suc m)) (a.length + 1) k) b) e
      ∙ empty_assigned (frames ++ of_bytes (padded (suc m) ca) ∷ []) b e
      ∙ ap (λ z. frames ++ of_bytes z ∷ []) (no_blanks (suc m) ca (omega (arith, many, n)) ∙ sym (append-nil ca) ∙ ap (λ z. ca ++ z) (sym (nothing_taken b.length (drop (b.start - 1) (frame_at frames b.text_frame).bytes) e)))
  second_part m (suc k) e n =
      let many_a = many_of frames a a.length refl fa in
      let many_b = many_of frames b (suc k) e fb in
      let f : Frame = of_bytes (padded (suc m) ca) in
      let at : ((1 + (a.length + 1)) - 1) - 1 ≡ a.length = omega arith in
      ap (λ j. assigned (frames ++ f ∷ []) (part (whole frames (suc m)) (a.length + 1) j) b) e
      ∙ ap (λ z. assigned (frames ++ f ∷ []) z b) (part_of (whole frames (suc m)) (a.length + 1) k)
      ∙ ap (λ cs. written (frames ++ f ∷ []) (length frames) (((1 + (a.length + 1)) - 1) - 1) (padded (suc k) cs)) (same_characters frames f b b.length refl fb)
      ∙ ap (λ cs. written (frames ++ f ∷ []) (length frames) (((1 + (a.length + 1)) - 1) - 1) cs) (no_blanks (suc k) cb many_b)
      ∙ ap (λ j. written (frames ++ f ∷ []) (length frames) j cb) at
      ∙ last_written frames (padded (suc m) ca) a.length cb
      ∙ ap (λ z. frames ++ of_bytes z ∷ []) (rest_replaced a.length (suc k) ca (replicate (suc m - length ca) 32) cb many_a many_b (let p = padded_long (suc m) ca (omega (arith, many_a, n)) in p ∙ sym n))

  some_new : (cs : List ℕ) (m : ℕ) → length cs ≡ suc m → with_new frames cs ≡ frames ++ of_bytes cs ∷ []
  some_new [] m e = absurd (omega (arith, e))
  some_new (c ∷ cs) m e = refl

  both : (n : ℕ) → a.length + b.length ≡ n → both_assigned (with_new frames (replicate n 32)) (new_text frames n) a b ≡ with_new frames (ca ++ cb)
  both zero e =
      let ea : a.length ≡ 0 = omega (arith, e) in
      let eb : b.length ≡ 0 = omega (arith, e) in
      ap (λ k. assigned (assigned frames notext a) (part notext (a.length + 1) k) b) eb
      ∙ empty_assigned (assigned frames notext a) b eb
      ∙ empty_assigned frames a ea
      ∙ ap (with_new frames) (sym (nothing_taken b.length (drop (b.start - 1) (frame_at frames b.text_frame).bytes) eb) ∙ ap (λ z. z ++ cb) (sym (nothing_taken a.length (drop (a.start - 1) (frame_at frames a.text_frame).bytes) ea)))
  both (suc m) e =
      let many_a = many_of frames a a.length refl fa in
      let many_b = many_of frames b b.length refl fb in
      let all = length-append ca cb in
      ap (λ z. both_assigned (with_new frames (replicate (suc m) 32)) z a b) (new_whole frames m)
      ∙ ap (λ fs. assigned fs (part (whole frames (suc m)) (a.length + 1) b.length) b) (first_part m (omega (arith, e)))
      ∙ second_part m b.length refl e
      ∙ sym (some_new (ca ++ cb) m (omega (arith, all, many_a, many_b, e)))

  abbrev made : (long : ℕ) → List Frame → Making
  made long fs = record { wanted = text_words long; frames = fs; answer = Ok (new_text frames long) }

  pub joins : is_integer (pos (a.length + 1 + b.length)) ≡ true → concatenated frames a b ≡ join frames a b
  joins fits =
      let n : ℕ = a.length + b.length in
      let start : List ℕ = replicate n 32 in
      let long : length start ≡ n = length-replicate {A = ℕ} n 32 in
      let all = length-append ca cb in
      let many_a = many_of frames a a.length refl fa in
      let many_b = many_of frames b b.length refl fb in
      let same : n ≡ length (ca ++ cb) = omega (arith, all, many_a, many_b) in
      ap (λ c. if c then made (length start) (both_assigned (with_new frames start) (new_text frames (length start)) a b) else record { wanted = 0; frames = frames; answer = Err IntegerOverflow }) fits
      ∙ ap (λ k. made k (both_assigned (with_new frames start) (new_text frames k) a b)) long
      ∙ ap (made n) (both n refl)
      ∙ ap (λ k. made k (with_new frames (ca ++ cb))) same
