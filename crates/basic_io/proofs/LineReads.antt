-- One more piece of an input, behind the bytes that are held.
use Rattle.std.proofs.Common.{◌≡◌, ℕ, ◌+◌, ◌<◌, ◌≤◌, false, rules, tests, eqb, List, [], ◌∷◌, ◌++◌, length, take, Option, Some, None, refl, subst, inl, inr, sym, ap, ◌∙◌, arith, append_assoc, length-append}
use Rattle.std.specs.Io.KnownBytes.{Consumes, IsAtEnd, Keeps}
use Rattle.std.proofs.lemmas.List.{length-take-le, take-take, take-append-le}
use Rattle.std.proofs.Math.Seq.{take-append-add}
use Rattle.std.proofs.lemmas.Bool.Decides.{nat_tests}
use Rattle.std.specs.Prelude.{IsSome}
use Rattle.std.proofs.lemmas.Bool.{cases_Bool}
use Rattle.basic_io.specs.Input.{Held, MayBeLeft, Told, holds_line, left_of}

-- Where no line is held yet, the source has not ended, and there is room for more.
pub wants_more : (h : Held) → holds_line h ≡ false → (h.ended ≡ false) × (length h.bytes < h.room)
wants_more h e = search (rules, tests)

-- the first bytes of the list into which the piece was read
pub read_behind : (d into post rest : List ℕ) (len held count : ℕ) → held ≤ length d → count ≤ length into → held + count ≤ len
    → take (held + count) (take len ((take held d ++ (into ++ post)) ++ rest)) ≡ take held d ++ take count into
read_behind d into post rest len held count front given room =
    let f : List ℕ = take held d in
    let size : length f ≡ held = length-take-le held d front in
    let whole : (f ++ (into ++ post)) ++ rest ≡ f ++ (into ++ (post ++ rest)) = append_assoc f (into ++ post) rest ∙ ap (λ (r : List ℕ). f ++ r) (append_assoc into post rest) in
    take-take (held + count) len _ room
    ∙ ap (take (held + count)) whole
    ∙ ap (λ (k : ℕ). take (k + count) (f ++ (into ++ (post ++ rest)))) (sym size)
    ∙ take-append-add f (into ++ (post ++ rest)) count
    ∙ ap (λ (r : List ℕ). f ++ r) (take-append-le count into (post ++ rest) given)

-- what was taken was in front of what is left
consumed : (before now : Option (List ℕ)) (piece n : List ℕ) → Consumes before now piece → MayBeLeft now n → (m : List ℕ) × (MayBeLeft before m × (m ≡ piece ++ n))
consumed None now piece n taken left = (piece ++ n, (tt, refl))
consumed (Some xs) None piece n taken left = absurd taken
consumed (Some xs) (Some ys) piece n taken left = (xs, (refl, taken ∙ ap (λ (r : List ℕ). piece ++ r) left))

-- at the end nothing was left
ended_before : (before now : Option (List ℕ)) (piece : List ℕ) → Consumes before now piece → length piece ≡ 0 → IsAtEnd now → MayBeLeft before []
ended_before None now piece taken none last = tt
ended_before (Some xs) None piece taken none last = absurd taken
ended_before (Some xs) (Some ys) [] taken none last = taken ∙ last
ended_before (Some xs) (Some ys) (c ∷ piece) taken none last = absurd (omega arith)

still_tells : (before now : Option (List ℕ)) (piece : List ℕ) → Consumes before now piece → IsSome before → IsSome now
still_tells None now piece taken some = absurd (search rules)
still_tells (Some xs) None piece taken some = absurd taken
still_tells (Some xs) (Some ys) piece taken some = search rules

-- what is left to the program stays the same
pub told_more : (before now : Option (List ℕ)) (h : Held) (into after : List ℕ) (room count : ℕ)
    → h.ended ≡ false → count ≤ length into → Consumes before now (take count into) → (count ≡ 0 → IsAtEnd now) → after ≡ h.bytes ++ take count into
    → Told before now (λ b n. left_of (record { bytes = after; room = room; ended = eqb count 0 }) n ≡ left_of h b)
told_more before now h into after room count going given taken last more = record {
  tells = still_tells before now (take count into) taken;
  claim = λ n left. elim (cases_Bool (eqb count 0)) [
    | inl end ↦
        let none : count ≡ 0 = grind (arith, nat_tests) in
        let nothing : length (take count into) ≡ 0 = length-take-le count into given ∙ none in
        let same : after ≡ h.bytes ++ [] = more ∙ ap (λ (r : List ℕ). h.bytes ++ r) (no_bytes (take count into) nothing) in
        ([], (ended_before before now (take count into) taken nothing (last none), rw (end, going) same))
    | inr on ↦
        let m = consumed before now (take count into) n taken left in
        let joined : after ++ n ≡ h.bytes ++ m.0 = ap (λ (r : List ℕ). r ++ n) more ∙ append_assoc h.bytes (take count into) n ∙ ap (λ (r : List ℕ). h.bytes ++ r) (sym m.1.1) in
        (m.0, (m.1.0, rw (on, going) joined))
  ];
}
  where
    no_bytes : (xs : List ℕ) → length xs ≡ 0 → xs ≡ []
    no_bytes [] e = refl
    no_bytes (x ∷ xs) e = absurd (omega arith)

-- where nothing was taken nothing has changed
pub told_kept : (a b : Option (List ℕ)) (h : Held) → Keeps a b → Told a b (λ x n. left_of h n ≡ left_of h x)
told_kept None b h kept = record { tells = λ some. absurd (search rules); claim = λ n left. (n, (tt, refl)) }
told_kept (Some xs) None h kept = absurd kept
told_kept (Some xs) (Some ys) h kept = record { tells = λ some. search rules; claim = λ n left. (n, (sym kept ∙ left, refl)) }

pub told_same : (a b : Option (List ℕ)) (h now : Held) → Keeps a b → now ≡ h → Told a b (λ x n. left_of now n ≡ left_of h x)
told_same a b h now kept same = subst (λ (k : Held). Told a b (λ x n. left_of k n ≡ left_of h x)) (sym same) (told_kept a b h kept)

-- so does what the input can give, with the bytes that are held
pub gives_more : (bytes into after : List ℕ) (count before now all : ℕ) → after ≡ bytes ++ take count into → count ≤ length into → before ≡ now + count → length bytes + before ≡ all
    → length after + now ≡ all
gives_more bytes into after count before now all more given took sum =
    let size : length after ≡ length bytes + count = ap length more ∙ length-append bytes (take count into) ∙ ap (λ (k : ℕ). length bytes + k) (length-take-le count into given) in
    omega arith
