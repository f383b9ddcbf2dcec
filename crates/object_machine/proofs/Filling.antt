-- Cells of a region that are filled one after the other.
use Rattle.std.proofs.Common.{◌≡◌, ℕ, zero, suc, ◌+◌, ◌<◌, ◌≤◌, List, [], ◌∷◌, ◌++◌, length, get_or, map, take, set, sym, refl, ap, ◌∙◌, arith}
use Rattle.std.proofs.Math.Seq.{take-suc}
use Rattle.std.proofs.lemmas.List.{take_more_set}
use Rattle.std.specs.Prelude.{Option}
use Rattle.sim_code.specs.declared.code.CodeType.{CodeType}
use Rattle.sim_code.specs.Machine.{Cells, Value, first_value}
use Rattle.frame_arena.specs.declared.slot.Slot.{Slot}
use Rattle.frame_arena.specs.Frames.{cells_at}

pub take_whole : {X : Type 0} (xs : List X) (n : ℕ) → length xs ≤ n → take n xs ≡ xs
take_whole [] zero h = refl
take_whole [] (suc n) h = refl
take_whole (x ∷ xs) zero h = absurd (omega (arith, h))
take_whole (x ∷ xs) (suc n) h = ap (λ l. x ∷ l) (take_whole xs n (omega (arith, h)))

pub region_count : (cells : List Slot) (base n : ℕ) → length (cells_at cells base n) ≡ n
region_count cells base zero = refl
region_count cells base (suc n) = ap suc (region_count cells (suc base) n)

map_behind : {X Y : Type 0} (f : X → Y) (xs : List X) (x : X) → map f (xs ++ x ∷ []) ≡ map f xs ++ f x ∷ []
map_behind f [] x = refl
map_behind f (y ∷ xs) x = ap (λ l. f y ∷ l) (map_behind f xs x)

pub none_taken : {X : Type 0} (xs : List X) → take 0 xs ≡ []
none_taken [] = refl
none_taken (x ∷ xs) = refl

pub one_more_filled : (xs : Cells) (types : List CodeType) (at : ℕ) (d : CodeType) (v : Option Value) → at < length xs → at < length types → take at xs ≡ map first_value (take at types) → v ≡ first_value (get_or types at d) →
    take (at + 1) (set xs at v) ≡ map first_value (take (at + 1) types)
one_more_filled xs types at d v h h2 e e2 =
    let n : at + 1 ≡ suc at = omega arith in
    take_more_set xs at v h
    ∙ ap (λ l. l ++ v ∷ []) e
    ∙ ap (λ w. map first_value (take at types) ++ w ∷ []) e2
    ∙ sym (map_behind first_value (take at types) (get_or types at d))
    ∙ sym (ap (λ l. map first_value l) (ap (λ k. take k types) n ∙ take-suc types at d h2))
