-- The line that `inimage` takes from an input of which some bytes are held.
use Rattle.std.proofs.Common.{◌≡◌, ◌≢◌, inl, inr, ◌==◌, nat_lt, nat_le, ℕ, ◌+◌, ◌<◌, ◌≤◌, Bool, true, false, not, List, [], ◌∷◌, ◌++◌, Option, Ok, Err, length, take, drop, refl, sym, ap, ◌∙◌, subst, arith, rules, tests, length-append, length-take}
use Rattle.std.specs.List.{after_first, before_first, list_any, position_or_len, prefix_len}
use Rattle.std.proofs.lemmas.Bool.{cases_Bool, cases_lt, false≢true}
use Rattle.std.proofs.lemmas.Bool.Decides.{nat_tests}
use Rattle.std.proofs.lemmas.List.{length-take-le, take-append-le, drop-append-le}
use Rattle.std.proofs.lemmas.List.Sums.{prefix_len-le-length}
use Rattle.sim_base.specs.declared.run_error.RunError.TheVariants.{InputLineTooLong}
use Rattle.sim_values.specs.Images.{InputState, InputStep, answers, filled, inimage, is_line_feed, refuses}
use Rattle.sim_values.specs.Texts.{Frame, at_position, padded, with_characters}
use Rattle.basic_io.specs.declared.fault.IoFault.TheVariants as fault
use Rattle.basic_io.specs.Input.{Held, HeldInput, Performs, Told, WantsImage, holds_line, input_state, left_of, reading}

-- ---- the first line of a list

-- more bytes behind a list do not shorten its prefix
prefix_grows : (p : ℕ → Bool) (xs ys : List ℕ) → prefix_len p xs ≤ prefix_len p (xs ++ ys)
prefix_grows p [] ys = omega arith
prefix_grows p (x ∷ xs) ys = let rest = prefix_grows p xs ys in grind arith

-- nor do they lengthen a prefix that ends in the list
prefix_stays : (p : ℕ → Bool) (xs ys : List ℕ) → prefix_len p xs < length xs → prefix_len p (xs ++ ys) ≡ prefix_len p xs
prefix_stays p [] ys ends = absurd (omega arith)
prefix_stays p (x ∷ xs) ys ends = let rest = prefix_stays p xs ys in grind arith

found_within : (p : ℕ → Bool) (xs : List ℕ) → list_any p xs ≡ true → position_or_len p xs < length xs
found_within p [] found = absurd (search rules)
found_within p (x ∷ xs) found = let rest = found_within p xs in grind (arith, tests)

-- ---- the first line of what is left

-- Where the source has not ended, a line that is shorter than the room ends within the bytes that are held.
ends_within : (h : Held) → holds_line h ≡ true → length (before_first is_line_feed h.bytes) < h.room → h.ended ≡ false → position_or_len is_line_feed h.bytes < length h.bytes
ends_within h holds short going =
    let n : ℕ = position_or_len is_line_feed h.bytes in
    let size : length (before_first is_line_feed h.bytes) ≡ n = length-take-le n h.bytes (prefix_len-le-length (λ (x : ℕ). not (is_line_feed x)) h.bytes) in
    elim (cases_lt n (length h.bytes)) [
      | inl within ↦ within
      | inr all ↦ elim (cases_Bool (list_any is_line_feed h.bytes)) [
        | inl found ↦ found_within is_line_feed h.bytes found
        | inr none ↦ absurd (let not_full : nat_le h.room (length h.bytes) ≡ false = grind (arith, nat_tests) in false≢true (rw (going, not_full, none) at holds))
      ]
    ]

-- So it is the first line of what is left, and what is left behind it is what is left once it is dropped.
left_split : (h after : Held) (source : List ℕ) → holds_line h ≡ true → length (before_first is_line_feed h.bytes) < h.room → after.bytes ≡ after_first is_line_feed h.bytes → after.ended ≡ h.ended
    → (before_first is_line_feed (left_of h source) ≡ before_first is_line_feed h.bytes) × (after_first is_line_feed (left_of h source) ≡ left_of after source)
left_split h after source holds short rest ended =
    let n : ℕ = position_or_len is_line_feed h.bytes in
    let all : List ℕ = h.bytes ++ source in
    elim (cases_Bool h.ended) [
      | inl end ↦ rw (ended, end) (refl, sym rest)
      | inr going ↦
          let within : n < length h.bytes = ends_within h holds short going in
          let same : position_or_len is_line_feed all ≡ n = prefix_stays _ h.bytes source within in
          let line : before_first is_line_feed all ≡ before_first is_line_feed h.bytes = ap (λ (k : ℕ). take k all) same ∙ take-append-le n h.bytes source (omega arith) in
          let behind : after_first is_line_feed all ≡ after.bytes ++ source =
          ap (λ (k : ℕ). drop (k + 1) all) same ∙ drop-append-le (n + 1) h.bytes source (omega arith) ∙ ap (λ (r : List ℕ). r ++ source) (sym rest)
          in
          rw (ended, going) (line, behind)
    ]

-- it is never longer than the first line of what is left
line_grows : (h : Held) (source : List ℕ) → length (before_first is_line_feed h.bytes) ≤ length (before_first is_line_feed (left_of h source))
line_grows h source =
    let p = λ (x : ℕ). not (is_line_feed x) in
    elim (cases_Bool h.ended) [
      | inl end ↦ rw end (omega arith)
      | inr going ↦ rw going (omega (arith, length-take {A = ℕ}, prefix_len-le-length p h.bytes, prefix_len-le-length p (h.bytes ++ source), prefix_grows p h.bytes source))
    ]

-- some byte is left, where one is held
some_bytes : (xs : List ℕ) → xs ≢ [] → 0 < length xs
some_bytes [] some = absurd (some refl)
some_bytes (x ∷ xs) some = omega arith

left_some : (h : Held) (source : List ℕ) → h.bytes ≢ [] → 0 < length (left_of h source)
left_some h source some =
    let held = some_bytes h.bytes some in
    elim (cases_Bool h.ended) [ inl end ↦ rw end held | inr going ↦ rw going (omega (arith, length-append h.bytes source)) ]

-- ---- what `inimage` does

takes_line : (s : InputState) (line rest : List ℕ) → s.endfile ≡ false → 0 < length s.left → before_first is_line_feed s.left ≡ line → length line ≤ s.image.length → after_first is_line_feed s.left ≡ rest
    → inimage s ≡ answers (filled s line false rest) tt
takes_line s line rest going some is short behind =
    let more : (length s.left == 0) ≡ false = grind (arith, nat_tests) in
    let fits : nat_lt s.image.length (length (before_first is_line_feed s.left)) ≡ false = rw is (grind (arith, nat_tests)) in
    rw (going, more, fits) (ap (λ (l : List ℕ). answers (filled s l false (after_first is_line_feed s.left)) tt) is ∙ ap (λ (r : List ℕ). answers (filled s line false r) tt) behind)

refuses_line : (s : InputState) → s.endfile ≡ false → 0 < length s.left → s.image.length < length (before_first is_line_feed s.left) → inimage s ≡ refuses s InputLineTooLong
refuses_line s going some long =
    let more : (length s.left == 0) ≡ false = grind (arith, nat_tests) in
    let fits : nat_lt s.image.length (length (before_first is_line_feed s.left)) ≡ true = grind (arith, nat_tests) in
    rw (going, more, fits) refl

-- ---- what the calls of `inimage` make of it

-- a claim follows from another
pub told_as : {P R : List ℕ → List ℕ → Type 0} (a b : Option (List ℕ)) → Told a b P → ((x y : List ℕ) → P x y → R x y) → Told a b R
told_as a b p as_r = record {
  tells = p.tells;
  claim = λ n left. let x = p.claim n left in (x.0, (x.1.0, as_r x.0 n x.1.1));
}

-- one call after another
pub told_then : {P Q R : List ℕ → List ℕ → Type 0} (a b c : Option (List ℕ)) → Told a b P → Told b c Q → ((x y z : List ℕ) → P x y → Q y z → R x z) → Told a c R
told_then a b c p q join = record {
  tells = λ some. q.tells (p.tells some);
  claim = λ n left. let y = q.claim n left in let x = p.claim y.0 y.1.0 in (x.0, (x.1.0, join x.0 y.0 n x.1.1 y.1.1));
}

-- no call
pub told_still : {P : List ℕ → List ℕ → Type 0} (a : Option (List ℕ)) → ((x : List ℕ) → P x x) → Told a a P
told_still a p = record {
  tells = λ some. some;
  claim = λ n left. (n, (left, p n));
}

-- the line is taken
pub performs_line : (texts new : List Frame) (old now : HeldInput) (h : Held) (source left : Option (List ℕ)) → Told source left (λ b n. left_of h n ≡ left_of old.held b) → old.endfile ≡ false → now.endfile ≡ false
    → holds_line h ≡ true → h.bytes ≢ [] → length (before_first is_line_feed h.bytes) ≤ old.image.length → h.room ≡ old.image.length + 1
    → new ≡ with_characters texts old.image (padded old.image.length (before_first is_line_feed h.bytes)) → now.image ≡ at_position old.image 1
    → now.held.bytes ≡ after_first is_line_feed h.bytes → now.held.ended ≡ h.ended
    → Performs inimage WantsImage (reading texts old source) (reading new now left) (Ok tt)
performs_line texts new old now h source left told going goes holds some short room wrote moved rest ended =
    told_as source left told (λ b n same.
    let s : InputState = input_state texts old b in
    let line : List ℕ = before_first is_line_feed h.bytes in
    let split = left_split h now.held n holds (omega arith) rest ended in
    let more : 0 < length (left_of old.held b) = subst (λ (l : List ℕ). 0 < length l) same (left_some h n some) in
    let does : inimage s ≡ answers (filled s line false (left_of now.held n)) tt = takes_line s line _ going more (ap (before_first is_line_feed) (sym same) ∙ split.0) short (ap (after_first is_line_feed) (sym same) ∙ split.1) in
    let after : filled s line false (left_of now.held n) ≡ input_state new now n = rw (wrote, moved, goes) refl in
    (ap (λ (t : InputStep (Unit {0})). t.answer) does, ap (λ (t : InputStep (Unit {0})). t.after) does ∙ after))

-- the line is longer than the image, and stays
pub performs_refusal : (texts : List Frame) (old now : HeldInput) (source left : Option (List ℕ)) → Told source left (λ b n. left_of now.held n ≡ left_of old.held b) → old.endfile ≡ false → now.endfile ≡ false
    → now.held.bytes ≢ [] → old.image.length < length (before_first is_line_feed now.held.bytes) → now.image ≡ old.image
    → Performs inimage WantsImage (reading texts old source) (reading texts now left) (Err (fault.Run InputLineTooLong))
performs_refusal texts old now source left told going goes some long kept =
    told_as source left told (λ b n same.
    let s : InputState = input_state texts old b in
    let more : 0 < length (left_of old.held b) = subst (λ (l : List ℕ). 0 < length l) same (left_some now.held n some) in
    let longer : old.image.length < length (before_first is_line_feed (left_of old.held b)) = subst (λ (l : List ℕ). old.image.length < length (before_first is_line_feed l)) same (omega (arith, line_grows now.held n)) in
    let does : inimage s ≡ refuses s InputLineTooLong = refuses_line s going more longer in
    let stays : s ≡ input_state texts now n = cc in
    (ap (λ (t : InputStep (Unit {0})). t.answer) does, ap (λ (t : InputStep (Unit {0})). t.after) does ∙ stays))
