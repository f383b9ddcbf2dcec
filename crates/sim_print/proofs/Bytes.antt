-- Bytes that are written one by one.
use Rattle.std.proofs.Common.{◌≡◌, ◌<◌, ◌≤◌, ◌+◌, ℕ, List, ◌++◌, refl, sym, ap, ◌∙◌, drop, length, append_assoc, append-nil}
use Rattle.std.proofs.lemmas.List.{drop_more, drop_all}
use Rattle.std.specs.Prelude.{slice_index_or}
use Rattle.sim_print.specs.Laid.{OwesBytes}
use Rattle.sim_print.specs.Spelling.{each}

pub bytes_all : (f : ℕ → List ℕ) (a xs : List ℕ) → OwesBytes f a xs a 0
unfolding OwesBytes
bytes_all f a xs = refl

pub bytes_next : (f : ℕ → List ℕ) (a b c xs : List ℕ) (i : ℕ) → OwesBytes f a xs b i → i < length xs → c ≡ b ++ f (slice_index_or xs i 0) → OwesBytes f a xs c (i + 1)
unfolding OwesBytes
bytes_next f a b c xs i owes le more =
    let x = slice_index_or xs i 0 in
    let rest = each f (drop (i + 1) xs) in
    ap (λ z. z ++ rest) more ∙ append_assoc b (f x) rest ∙ ap (λ z. b ++ each f z) (sym (drop_more xs i 0 le)) ∙ owes

pub bytes_end : (f : ℕ → List ℕ) (a b xs : List ℕ) (i : ℕ) → OwesBytes f a xs b i → length xs ≤ i → b ≡ a ++ each f xs
unfolding OwesBytes
bytes_end f a b xs i owes le = sym (append-nil b) ∙ ap (λ z. b ++ each f z) (sym (drop_all i xs le)) ∙ owes

pub ruleset byte_rules = (bytes_all, bytes_next, bytes_end)
