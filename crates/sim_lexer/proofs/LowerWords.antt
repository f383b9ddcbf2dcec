-- A word without a capital letter is its own in lower case.
use Rattle.std.proofs.Common.{◌≡◌, ◌+◌, ℕ, Bool, true, false, cond, List, [], ◌∷◌, length, map, refl, ap, arith, ◌∙◌}
use Rattle.std.specs.Char.{to_ascii_lowercase}
use Rattle.std.specs.List.{prefix_len}
use Rattle.sim_lexer.specs.Scanning.{is_no_capital}

small : (byte : ℕ) → is_no_capital byte ≡ true → byte ≡ to_ascii_lowercase byte
small byte is = grind (arith, is)

by_first : (byte : ℕ) (rest : List ℕ) (test : Bool) → is_no_capital byte ≡ test
    → (prefix_len is_no_capital rest ≡ length rest → rest ≡ map to_ascii_lowercase rest)
    → cond test (1 + prefix_len is_no_capital rest) 0 ≡ length (byte ∷ rest)
    → byte ∷ rest ≡ map to_ascii_lowercase (byte ∷ rest)
by_first byte rest true is others all =
    let more : prefix_len is_no_capital rest ≡ length rest = omega (arith, all) in
    ap (λ first. first ∷ rest) (small byte is) ∙ ap (λ (bytes : List ℕ). to_ascii_lowercase byte ∷ bytes) (others more)
by_first byte rest false is others all = absurd (omega (arith, all))

pub kept : (word : List ℕ) → prefix_len is_no_capital word ≡ length word → word ≡ map to_ascii_lowercase word
kept [] all = refl
kept (byte ∷ rest) all = by_first byte rest (is_no_capital byte) refl (kept rest) all
