-- What one read or write of some bytes moves.
use Rattle.std.proofs.Common.{◌≡◌, ℕ, ◌+◌, ◌<◌, min, List, [], ◌∷◌, ◌++◌, Option, length, take, drop, refl, sym, subst, arith, take-append-drop}
use Rattle.std.proofs.Math.Seq.{take-add}
use Rattle.std.proofs.lemmas.List.{drop-drop}
use Rattle.std.specs.Io.KnownBytes.{Appends}
use Rattle.std.proofs.KnownBytes.{Appends-trans}

-- n bytes of a piece and then the next m are n + m bytes of it
pub Appends-take : (a b c : Option (List ℕ)) (n m : ℕ) (piece : List ℕ) → Appends a b (take n piece) → Appends b c (take m (drop n piece)) → Appends a c (take (n + m) piece)
Appends-take a b c n m piece first second =
    subst (Appends a c) (sym (take-add n m piece)) (Appends-trans a b c _ _ first second)

-- what stands behind a place is the next n bytes and what stands behind them
pub reads_next : (bytes into : List ℕ) (place n : ℕ) → take n into ≡ take n (drop place bytes)
    → drop place bytes ≡ take n into ++ drop (place + n) bytes
reads_next bytes into place n same = rw (same, ← drop-drop n place bytes) (sym (take-append-drop n (drop place bytes)))

empty_if : (xs : List ℕ) → length xs ≡ 0 → xs ≡ []
empty_if [] none = refl
empty_if (x ∷ xs) none = absurd (omega arith)

-- nothing is read into a piece with room only at the end
pub reads_none : (bytes : List ℕ) (place room most n : ℕ) → n ≡ min (min (length (drop place bytes)) room) most → 0 < room → 0 < most → n ≡ 0 → drop (place + n) bytes ≡ []
reads_none bytes place room most n is some moves none =
    let here : place + n ≡ place = omega arith in rw here (empty_if (drop place bytes) (omega arith))
