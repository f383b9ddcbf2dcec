-- A call on the input that takes nothing of it has not come to `inimage`.
use Rattle.std.proofs.Common.{◌≡◌, ℕ, zero, suc, ◌+◌, ◌<◌, ◌≤◌, Bool, true, false, cond, eqb, ltb, List, [], ◌∷◌, length, Result, Ok, Err, ◌⊎◌, inl, inr, refl, sym, ap, ◌∙◌, subst, arith, length-drop, replicate}
use Rattle.std.proofs.lemmas.Bool.{false≢true}
use Rattle.std.proofs.lemmas.Bool.Decides.{nat_tests}
use Rattle.std.specs.Prelude.{ℤ}
use Rattle.std.specs.List.{after_first, position_or_len, before_first}
use Rattle.sim_base.specs.declared.run_error.RunError.{RunError}
use Rattle.sim_base.specs.declared.run_error.RunError.TheVariants.{InputLineTooLong, InputAtEnd, NoItemBeforeEnd}
use Rattle.sim_values.specs.declared.value.TextVal.{TextVal}
use Rattle.sim_values.specs.Texts.{at_position, integer_item, new_text, next_character, with_character, with_new}
use Rattle.sim_values.specs.Images.{InputState, InputStep, answers, behind_separators, characters_left, characters_read, filled, go_on, inchar, inimage, inint, is_line_feed, is_used_up, item_taken, lastitem, next_item, refuses, text_read, with_frames, with_position}

-- all of the input is left, its end was not met, and no line was refused
pub record TakesNone {A : Type 0} (s : InputState) (step : InputStep A) : Type 0 where
  pub left : step.after.left ≡ s.left
  pub endfile : step.after.endfile ≡ false
  pub short : step.answer ≡ Err InputLineTooLong → ⊥

-- ---- `inimage`

-- at what its tests say
abbrev line_step : Bool → Bool → Bool → InputState → InputStep (Unit {0})
line_step ended none long s =
    cond ended (refuses s InputAtEnd)
    (cond none (answers (filled s (25 ∷ []) true []) tt)
    (cond long (refuses s InputLineTooLong) (answers (filled s (before_first is_line_feed s.left) false (after_first is_line_feed s.left)) tt)))

shorter : (xs : List ℕ) → eqb (length xs) 0 ≡ false → length (after_first is_line_feed xs) < length xs
shorter xs some =
    let l = length-drop (position_or_len is_line_feed xs + 1) xs in
    let positive : 0 < length xs = grind (arith, nat_tests) in
    omega (arith, l)

line_takes : (ended none long : Bool) (s : InputState) → ended ≡ s.endfile → none ≡ eqb (length s.left) 0 → TakesNone s (line_step ended none long s) → ⊥
line_takes true none long s e n u = false≢true (sym u.endfile ∙ sym e)
line_takes false true long s e n u = false≢true (sym u.endfile)
line_takes false false true s e n u = u.short refl
line_takes false false false s e n u = let l = shorter s.left (sym n) in let same : length (after_first is_line_feed s.left) ≡ length s.left = ap length u.left in omega (arith, l, same)

pub inimage_takes : (s : InputState) → TakesNone s (inimage s) → ⊥
inimage_takes s u = line_takes s.endfile (eqb (length s.left) 0) (ltb s.image.length (length (before_first is_line_feed s.left))) s refl refl u

-- it has no more of the input behind it, and where it was done less of it, or it has met the end
abbrev Lessens : InputState → InputStep (Unit {0}) → Type 0
Lessens s step = (length step.after.left ≤ length s.left) × (s.endfile ≡ true → step.after.endfile ≡ true) × (step.answer ≡ Ok tt → (step.after.endfile ≡ true) ⊎ (length step.after.left < length s.left))

line_lessens : (ended none long : Bool) (s : InputState) → ended ≡ s.endfile → none ≡ eqb (length s.left) 0 → Lessens s (line_step ended none long s)
line_lessens true none long s e n = (omega arith, λ h. h, λ is. cc is)
line_lessens false true long s e n = (omega arith, λ h. refl, λ is. inl refl)
line_lessens false false true s e n = (omega arith, λ h. h, λ is. cc is)
line_lessens false false false s e n = let l = shorter s.left (sym n) in (omega (arith, l), λ h. absurd (false≢true (e ∙ h)), λ is. inr l)

inimage_lessens : (s : InputState) → Lessens s (inimage s)
inimage_lessens s = line_lessens s.endfile (eqb (length s.left) 0) (ltb s.image.length (length (before_first is_line_feed s.left))) s refl refl

-- what comes behind an `inimage` that was done has no more of the input, and does not take back the end
abbrev Follows : {A : Type 0} → InputState → InputStep A → Type 0
Follows s step = (length step.after.left ≤ length s.left) × (s.endfile ≡ true → step.after.endfile ≡ true)

not_behind : {A : Type 0} (s r : InputState) (step : InputStep A) → r.left ≡ s.left → (inimage r).answer ≡ Ok tt → Follows (inimage r).after step → TakesNone s step → ⊥
not_behind s r step same ok f u = by (by_answer ok)
  where
    by_answer : (inimage r).answer ≡ Ok tt → ((inimage r).after.endfile ≡ true) ⊎ (length (inimage r).after.left < length r.left)
    by_answer = (inimage_lessens r).2

    by : ((inimage r).after.endfile ≡ true) ⊎ (length (inimage r).after.left < length r.left) → ⊥
    by (inl end) = false≢true (sym u.endfile ∙ f.1 end)
    by (inr less) = let n = f.0 in let a : length step.after.left ≡ length s.left = ap length u.left in let b : length r.left ≡ length s.left = ap length same in omega (arith, n, a, b, less)

-- ---- `inchar`

-- at its test and the answer of `inimage`
abbrev character_step : {A : Type 0} → Bool → Result (Unit {0}) RunError → InputState → (InputState → ℕ → InputStep A) → InputStep A
character_step used answer s next =
    cond used (go_on (inimage s).after answer (λ (r : InputState) (done : Unit {0}). next (with_position r (r.image.pos + 1)) (next_character r.frames r.image)))
    (next (with_position s (s.image.pos + 1)) (next_character s.frames s.image))

-- `inchar` and what is done with its character
abbrev behind_character : {A : Type 0} → InputState → (InputState → ℕ → InputStep A) → InputStep A
behind_character s next = go_on (inchar s).after (inchar s).answer next

by_test : {A : Type 0} (used : Bool) (answer : Result (Unit {0}) RunError) (s : InputState) (next : InputState → ℕ → InputStep A) → used ≡ is_used_up s.image → answer ≡ (inimage s).answer → behind_character s next ≡ character_step used answer s next
by_test true (Ok done) s next u a = rw (← u, ← a) refl
by_test true (Err e) s next u a = rw (← u, ← a) refl
by_test false answer s next u a = rw (← u) refl

-- nothing is given back
abbrev Keeps : {A : Type 0} → (InputState → ℕ → InputStep A) → Type 0
Keeps next = (r : InputState) (c : ℕ) → Follows r (next r c)

character_follows : {A : Type 0} (used : Bool) (answer : Result (Unit {0}) RunError) (s : InputState) (next : InputState → ℕ → InputStep A) → answer ≡ (inimage s).answer → Keeps next → Follows s (character_step used answer s next)
character_follows true (Err e) s next a k = let l = inimage_lessens s in (l.0, l.1)
character_follows true (Ok done) s next a k =
    let r = (inimage s).after in
    let l = inimage_lessens s in
    let f = k (with_position r (r.image.pos + 1)) (next_character r.frames r.image) in
    (omega (arith, l.0, f.0), λ h. f.1 (l.1 h))
character_follows false answer s next a k = k (with_position s (s.image.pos + 1)) (next_character s.frames s.image)

behind_follows : {A : Type 0} (s : InputState) (next : InputState → ℕ → InputStep A) → Keeps next → Follows s (behind_character s next)
behind_follows s next k = subst (λ q. Follows s q) (sym (by_test (is_used_up s.image) (inimage s).answer s next refl refl)) (character_follows (is_used_up s.image) (inimage s).answer s next refl k)

-- The character is in the image, and nothing is taken behind it.
abbrev TakesNext : {A : Type 0} → InputState → (InputState → ℕ → InputStep A) → Type 0
TakesNext s next = (is_used_up s.image ≡ false) × TakesNone (with_position s (s.image.pos + 1)) (next (with_position s (s.image.pos + 1)) (next_character s.frames s.image))

character_takes : {A : Type 0} (used : Bool) (answer : Result (Unit {0}) RunError) (s : InputState) (next : InputState → ℕ → InputStep A) → used ≡ is_used_up s.image → answer ≡ (inimage s).answer → Keeps next → TakesNone s (character_step used answer s next) → TakesNext s next
character_takes true (Err e) s next u a k t = absurd (inimage_takes s (record { left = t.left; endfile = t.endfile; short = λ is. t.short (refused (a ∙ is)) }))
  where
    refused : {A : Type 0} → ◌≡◌ {A = Result (Unit {0}) RunError} (Err e) (Err InputLineTooLong) → ◌≡◌ {A = Result A RunError} (Err e) (Err InputLineTooLong)
    refused is = cc is
character_takes true (Ok done) s next u a k t =
    let r = (inimage s).after in
    absurd (not_behind s s (next (with_position r (r.image.pos + 1)) (next_character r.frames r.image)) refl (sym a) (k (with_position r (r.image.pos + 1)) (next_character r.frames r.image)) t)
character_takes false answer s next u a k t = (sym u, record { left = t.left; endfile = t.endfile; short = t.short })

behind_takes : {A : Type 0} (s : InputState) (next : InputState → ℕ → InputStep A) → Keeps next → TakesNone s (behind_character s next) → TakesNext s next
behind_takes s next k t =
    character_takes (is_used_up s.image) (inimage s).answer s next refl refl k (subst (λ q. TakesNone s q) (by_test (is_used_up s.image) (inimage s).answer s next refl refl) t)

answered : (s : InputState) → behind_character s (λ (r : InputState) (c : ℕ). answers r c) ≡ inchar s
answered s = by (inchar s).after (inchar s).answer
  where
    by : (r : InputState) (a : Result ℕ RunError) → go_on r a (λ (r : InputState) (c : ℕ). answers r c) ≡ record { after = r; answer = a }
    by r (Ok c) = refl
    by r (Err e) = refl

pub inchar_takes : (s : InputState) → TakesNone s (inchar s) → is_used_up s.image ≡ false
inchar_takes s t = (behind_takes s (λ (r : InputState) (c : ℕ). answers r c) (λ r c. (omega arith, λ h. h)) (subst (λ q. TakesNone s q) (sym (answered s)) t)).0

-- ---- `intext`

-- so many characters are in the image from a position on
abbrev pub AreIn : ℕ → (length pos : ℕ) → Type 0
AreIn zero length pos = Unit {0}
AreIn (suc n) length pos = (ltb length pos ≡ false) × AreIn n length (pos + 1)

characters_follow : (n : ℕ) (t : TextVal) (s : InputState) → Follows s (characters_read n t s)
characters_follow zero t s = (omega arith, λ h. h)
characters_follow (suc n) t s = behind_follows s (λ (r : InputState) (c : ℕ). characters_read n (at_position t (t.pos + 1)) (with_frames r (with_character r.frames t c))) (λ r c. characters_follow n (at_position t (t.pos + 1)) (with_frames r (with_character r.frames t c)))

pub characters_take : (n : ℕ) (t : TextVal) (s : InputState) → TakesNone s (characters_read n t s) → AreIn n s.image.length s.image.pos
characters_take zero t s u = tt
characters_take (suc n) t s u =
    let next = behind_takes s (λ (r : InputState) (c : ℕ). characters_read n (at_position t (t.pos + 1)) (with_frames r (with_character r.frames t c)))
    (λ r c. characters_follow n (at_position t (t.pos + 1)) (with_frames r (with_character r.frames t c))) u in
    let q = with_position s (s.image.pos + 1) in
    let w = with_frames q (with_character s.frames t (next_character s.frames s.image)) in
    (next.0, characters_take n (at_position t (t.pos + 1)) w (record { left = next.1.left; endfile = next.1.endfile; short = next.1.short }))

pub text_takes : (n : ℕ) (s : InputState) → TakesNone s (text_read n s) → AreIn n s.image.length s.image.pos
text_takes n s u =
    let t = new_text s.frames n in
    let w = with_frames s (with_new s.frames (replicate n 32)) in
    let step = characters_read n t w in
    characters_take n t w (by step.answer refl u)
  where
    w : InputState
    w = with_frames s (with_new s.frames (replicate n 32))

    read : InputStep (Unit {0})
    read = characters_read n (new_text s.frames n) w

    by : (answer : Result (Unit {0}) RunError) → read.answer ≡ answer → TakesNone s (go_on read.after answer (λ (r : InputState) (done : Unit {0}). answers r (new_text s.frames n))) → TakesNone w read
    by (Ok done) is u = record { left = u.left; endfile = u.endfile; short = λ e. cc (is, e) }
    by (Err e) is u = record { left = u.left; endfile = u.endfile; short = λ f. u.short (refused (sym is ∙ f)) }
      where
        refused : ◌≡◌ {A = Result (Unit {0}) RunError} (Err e) (Err InputLineTooLong) → ◌≡◌ {A = Result TextVal RunError} (Err e) (Err InputLineTooLong)
        refused is = cc is

-- ---- `lastitem` and `inint`

-- `next_item` where one more image may be taken, at what its tests say and what `inimage` answers
abbrev item_step : Bool → Bool → Result (Unit {0}) RunError → InputState → (InputState → InputStep Bool) → InputStep Bool
item_step ended used answer s next =
    let r = behind_separators s in
    cond ended (answers s true) (cond used (go_on (inimage r).after answer (λ (q : InputState) (done : Unit {0}). next q)) (answers r false))

item_follows : (ended used : Bool) (answer : Result (Unit {0}) RunError) (s : InputState) (next : InputState → InputStep Bool) → ended ≡ s.endfile → ((q : InputState) → Follows q (next q)) → Follows s (item_step ended used answer s next)
item_follows true used answer s next e k = (omega arith, λ h. h)
item_follows false false answer s next e k = (omega arith, λ h. h)
item_follows false true (Err x) s next e k = let l = inimage_lessens (behind_separators s) in (l.0, l.1)
item_follows false true (Ok done) s next e k = let l = inimage_lessens (behind_separators s) in let f = k (inimage (behind_separators s)).after in (omega (arith, l.0, f.0), λ h. f.1 (l.1 h))

items_follow : (n : ℕ) (s : InputState) → Follows s (next_item n s)
items_follow zero s = (omega arith, λ h. h)
items_follow (suc n) s = item_follows s.endfile (is_used_up (behind_separators s).image) (inimage (behind_separators s)).answer s (next_item n) refl (λ q. items_follow n q)

item_takes : (n : ℕ) (ended used : Bool) (answer : Result (Unit {0}) RunError) (s : InputState) → ended ≡ s.endfile → answer ≡ (inimage (behind_separators s)).answer → TakesNone s (item_step ended used answer s (next_item n)) → used ≡ false
item_takes n true used answer s e a t = absurd (false≢true (sym t.endfile ∙ sym e))
item_takes n false false answer s e a t = refl
item_takes n false true (Err x) s e a t = absurd (inimage_takes (behind_separators s) (record { left = t.left; endfile = t.endfile; short = λ is. t.short (refused (a ∙ is)) }))
  where
    refused : ◌≡◌ {A = Result (Unit {0}) RunError} (Err x) (Err InputLineTooLong) → ◌≡◌ {A = Result Bool RunError} (Err x) (Err InputLineTooLong)
    refused is = cc is
item_takes n false true (Ok done) s e a t = absurd (not_behind s (behind_separators s) (next_item n (inimage (behind_separators s)).after) refl (sym a) (items_follow n (inimage (behind_separators s)).after) t)

pub lastitem_takes : (s : InputState) → TakesNone s (lastitem s) → is_used_up (behind_separators s).image ≡ false
lastitem_takes s t =
    let n : length s.left + 2 ≡ suc (length s.left + 1) = omega arith in
    item_takes (length s.left + 1) s.endfile (is_used_up (behind_separators s).image) (inimage (behind_separators s)).answer s refl refl (subst (λ (k : ℕ). TakesNone s (next_item k s)) n t)

taken_keeps : (r : InputState) (item : Result (ℤ × ℕ) RunError) → ((item_taken r item).after.left ≡ r.left) × ((item_taken r item).after.endfile ≡ r.endfile)
taken_keeps r (Ok (value, used)) = (refl, refl)
taken_keeps r (Err e) = (refl, refl)

abbrev integer_step : InputState → Bool → InputStep ℤ
integer_step r last = cond last (refuses r NoItemBeforeEnd) (item_taken r (integer_item (characters_left r.frames r.image)))

pub inint_takes : (s : InputState) → TakesNone s (inint s) → is_used_up (behind_separators s).image ≡ false
inint_takes s t = lastitem_takes s (by (lastitem s).answer refl t)
  where
    by : (answer : Result Bool RunError) → (lastitem s).answer ≡ answer → TakesNone s (go_on (lastitem s).after answer integer_step) → TakesNone s (lastitem s)
    by (Ok true) is t = record { left = t.left; endfile = t.endfile; short = λ e. cc (is, e) }
    by (Ok false) is t =
        let r = (lastitem s).after in
        let k = taken_keeps r (integer_item (characters_left r.frames r.image)) in
        record { left = sym k.0 ∙ t.left; endfile = sym k.1 ∙ t.endfile; short = λ e. cc (is, e) }
    by (Err x) is t = record { left = t.left; endfile = t.endfile; short = λ e. t.short (refused (sym is ∙ e)) }
      where
        refused : ◌≡◌ {A = Result Bool RunError} (Err x) (Err InputLineTooLong) → ◌≡◌ {A = Result ℤ RunError} (Err x) (Err InputLineTooLong)
        refused is = cc is
