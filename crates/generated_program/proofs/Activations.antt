-- The lines that activate processes, one by one.
use Rattle.std.proofs.Common.{◌≡◌, ◌<◌, ◌+◌, ◌-◌, ℕ, suc, List, [], ◌++◌, refl, sym, ◌∙◌, ap, arith, append-nil, append_assoc}
use Rattle.std.specs.List.{flat_map, range_with_len}
use Rattle.generated_program.specs.GeneratedProgram.{activation}

-- the lines that are still to come behind those of the first processes
abbrev pub owed : (processes before : ℕ) → List ℕ
owed processes before = flat_map activation (range_with_len (before + 1) (processes - before))

none_after : (a n : ℕ) → n ≡ 0 → flat_map activation (range_with_len a n) ≡ []
none_after a n none = rw none refl

one_after : (a n m : ℕ) → n ≡ suc m → flat_map activation (range_with_len a n) ≡ activation a ++ flat_map activation (range_with_len (a + 1) m)
one_after a n m more = rw more refl

-- behind all of them nothing is to come
pub nothing_owed : (text all : List ℕ) (n : ℕ) → text ++ owed n n ≡ all → text ≡ all
nothing_owed text all n is =
    let none : n - n ≡ 0 = omega arith in
    sym (append-nil text) ∙ ap (λ xs. text ++ xs) (sym (none_after (n + 1) (n - n) none)) ∙ is

-- one more line is there, and the rest is to come
pub one_less : (text all : List ℕ) (n k : ℕ) → k < n → text ++ owed n k ≡ all → (text ++ activation (k + 1)) ++ owed n (k + 1) ≡ all
one_less text all n k less is =
    let more : n - k ≡ suc (n - (k + 1)) = omega (arith, less) in
    append_assoc text (activation (k + 1)) (owed n (k + 1)) ∙ ap (λ xs. text ++ xs) (sym (one_after (k + 1) (n - k) (n - (k + 1)) more)) ∙ is
