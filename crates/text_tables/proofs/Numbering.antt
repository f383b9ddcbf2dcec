-- Numbers of blocks.
use Rattle.std.proofs.Common.{◌≡◌, ◌<◌, ◌≤◌, ◌+◌, ℕ, zero, suc, Bool, true, false, List, [], ◌∷◌, ◌++◌, length, drop, refl, sym, ap, ◌∙◌, arith, append_assoc, append-nil}
use Rattle.std.proofs.lemmas.List.{drop_more, drop_all}
use Rattle.std.specs.Prelude.{slice_get, slice_index_or}
use Rattle.sim_scope.specs.Tables.{BlockOf}
use Rattle.codegen_expr.specs.Sites.{blocks_before, counted_unless, is_connection}
use Rattle.codegen_expr.specs.Known.{number_or}
use Rattle.text_tables.specs.Making.{Numbers, OwesNumbers, next_number, number_behind, numbers_from}

pub numbers_all : (blocks : List BlockOf) (numbers : List ℕ) → numbers ≡ [] → OwesNumbers blocks numbers 0 0
numbers_all blocks numbers e = record { all = ap (λ z. z ++ numbers_from 0 blocks) e; behind = refl }

pub numbers_next : (blocks : List BlockOf) (numbers numbers' : List ℕ) (n n' i : ℕ) (x : BlockOf) → OwesNumbers blocks numbers n i → i < length blocks → x ≡ slice_index_or blocks i x → numbers' ≡ numbers ++ (n ∷ []) → n' ≡ next_number n x → OwesNumbers blocks numbers' n' (i + 1)
numbers_next blocks numbers numbers' n n' i x owes le is e en =
    let from : drop i blocks ≡ x ∷ drop (i + 1) blocks = drop_more blocks i x le ∙ ap (λ y. y ∷ drop (i + 1) blocks) (sym is) in
    record {
      all = ap (λ z. z ++ numbers_from n' (drop (i + 1) blocks)) e ∙ append_assoc numbers (n ∷ []) (numbers_from n' (drop (i + 1) blocks)) ∙ ap (λ z. numbers ++ (n ∷ numbers_from z (drop (i + 1) blocks))) en ∙ ap (λ z. numbers ++ numbers_from n z) (sym from) ∙ owes.all;
      behind = ap (λ z. number_behind z (drop (i + 1) blocks)) en ∙ ap (number_behind n) (sym from) ∙ owes.behind;
    }

pub numbers_end : (blocks : List BlockOf) (numbers : List ℕ) (n i : ℕ) → OwesNumbers blocks numbers n i → length blocks ≤ i → Numbers blocks numbers n
numbers_end blocks numbers n i owes le =
    let none : drop i blocks ≡ [] = drop_all i blocks le in
    record {
      all = sym (append-nil numbers) ∙ ap (λ z. numbers ++ numbers_from n z) (sym none) ∙ owes.all;
      behind = ap (number_behind n) (sym none) ∙ owes.behind;
    }

counted_sum : (c : Bool) (n x : ℕ) → counted_unless c n + x ≡ n + counted_unless c x
counted_sum true n x = refl
counted_sum false n x = omega arith

pub number_at : (n : ℕ) (blocks : List BlockOf) (k : ℕ) → number_or (number_behind n blocks) (slice_get (numbers_from n blocks) k) ≡ n + blocks_before k blocks
number_at n [] zero = omega arith
number_at n [] (suc k) = omega arith
number_at n (b ∷ bs) zero = omega arith
number_at n (b ∷ bs) (suc k) = number_at (next_number n b) bs k ∙ counted_sum (is_connection b.kind) n (blocks_before k bs)

pub ruleset numbering = (numbers_all, numbers_next, numbers_end)
