-- The lines of a listing, one behind the other.
use Rattle.std.proofs.Common.{◌≡◌, ℕ, suc, ◌+◌, ◌<◌, List, [], ◌∷◌, ◌++◌, length, take, get_or, sym, ap, ◌∙◌, append_assoc, arith}
use Rattle.std.proofs.lemmas.List.{append-nil, length-take, take_more}
use Rattle.sim_code.specs.declared.instr.Lined.{Lined}
use Rattle.code_file.specs.Listing.{listed_line, listing_from}

one_line : (k : ℕ) (xs : List Lined) (x : Lined) → listing_from k (xs ++ x ∷ []) ≡ listing_from k xs ++ listed_line (k + length xs) x
one_line k [] x = append-nil (listed_line k x) ∙ ap (λ (n : ℕ). listed_line n x) (omega arith)
one_line k (y ∷ xs) x =
    let rest : listing_from (suc k) (xs ++ x ∷ []) ≡ listing_from (suc k) xs ++ listed_line (suc k + length xs) x = one_line (suc k) xs x in
    let number : suc k + length xs ≡ k + suc (length xs) = omega arith in
    ap (λ (t : List ℕ). listed_line k y ++ t) (rest ∙ ap (λ (n : ℕ). listing_from (suc k) xs ++ listed_line n x) number)
    ∙ sym (append_assoc (listed_line k y) (listing_from (suc k) xs) (listed_line (k + suc (length xs)) x))

pub line_more : (xs : List Lined) (i : ℕ) (x : Lined) (out : List ℕ) → i < length xs → out ≡ listing_from 0 (take i xs) → out ++ listed_line i (get_or xs i x) ≡ listing_from 0 (take (i + 1) xs)
line_more xs i x out lt so_far =
    let longer : take (i + 1) xs ≡ take i xs ++ get_or xs i x ∷ [] = take_more xs i x lt in
    let number : 0 + length (take i xs) ≡ i = omega (arith, length-take i xs) in
    ap (λ (t : List ℕ). t ++ listed_line i (get_or xs i x)) so_far ∙ sym (ap (listing_from 0) longer ∙ one_line 0 (take i xs) (get_or xs i x) ∙ ap (λ (n : ℕ). listing_from 0 (take i xs) ++ listed_line n (get_or xs i x)) number)
