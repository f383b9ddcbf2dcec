-- Bytes put in place of others.
use Rattle.std.proofs.Common.{◌≡◌, ℕ, suc, ◌+◌, ◌<◌, ◌≤◌, List, [], ◌∷◌, ◌++◌, length, take, drop, set, sym, ap, ◌∙◌, arith}
use Rattle.std.proofs.lemmas.List.{append_assoc, length-append, length-take-le, set_split, take_at, drop_at, drop-drop, take-append-drop}
use Rattle.sim_values.specs.Texts.{replaced}

-- one byte in place of another
pub set_is_replaced : (b : List ℕ) (at y : ℕ) → at < length b → set b at y ≡ replaced b at (y ∷ [])
set_is_replaced b at y below =
    let next : suc at ≡ at + 1 = omega arith in
    set_split b at y below ∙ ap (λ (k : ℕ). take at b ++ (y ∷ drop k b)) next

-- nothing in place of nothing
pub replaced-nil : (b : List ℕ) (at : ℕ) → replaced b at [] ≡ b
replaced-nil b at = ap (λ (k : ℕ). take at b ++ drop k b) (omega arith) ∙ take-append-drop at b

-- bytes put behind others that were put
pub replaced-replaced : (b xs ys : List ℕ) (at : ℕ) → at + length xs ≤ length b → replaced (replaced b at xs) (at + length xs) ys ≡ replaced b at (xs ++ ys)
replaced-replaced b xs ys at room =
    let front : List ℕ = take at b ++ xs in
    let count : length front ≡ at + length xs = length-append (take at b) xs ∙ ap (λ (k : ℕ). k + length xs) (length-take-le at b (omega arith)) in
    let whole : replaced b at xs ≡ front ++ drop (at + length xs) b = sym (append_assoc (take at b) xs (drop (at + length xs) b)) in
    let first : take (at + length xs) (replaced b at xs) ≡ front = ap (take (at + length xs)) whole ∙ take_at front (drop (at + length xs) b) (at + length xs) count in
    let behind : drop (at + length xs) (replaced b at xs) ≡ drop (at + length xs) b = ap (drop (at + length xs)) whole ∙ drop_at front (drop (at + length xs) b) (at + length xs) count in
    let last : drop (at + length xs + length ys) (replaced b at xs) ≡ drop (at + length (xs ++ ys)) b =
    sym (drop-drop (length ys) (at + length xs) (replaced b at xs))
    ∙ ap (drop (length ys)) behind
    ∙ drop-drop (length ys) (at + length xs) b
    ∙ ap (λ (k : ℕ). drop k b) (let n = length-append xs ys in omega arith)
    in
    ap (λ (f : List ℕ). f ++ (ys ++ drop (at + length xs + length ys) (replaced b at xs))) first
    ∙ ap (λ (r : List ℕ). front ++ (ys ++ r)) last
    ∙ append_assoc (take at b) xs (ys ++ drop (at + length (xs ++ ys)) b)
    ∙ ap (λ (r : List ℕ). take at b ++ r) (sym (append_assoc xs ys (drop (at + length (xs ++ ys)) b)))
