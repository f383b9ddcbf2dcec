-- A balanced tree is low.
use Rattle.std.proofs.Common.{◌≡◌, ℕ, ◌+◌, ◌*◌, ◌^◌, ◌<◌, ◌≤◌, max, min, inl, inr, List, length, sym, ap, ◌∙◌, subst, arith, add-one}
use Rattle.std.proofs.Math.Nat.{pow-suc, pow-zero, pow-le-pow_right, mul-le-mul_left, one-mul}
use Rattle.std.specs.List.{sum_by}
use Rattle.std.proofs.lemmas.Bool.{cases_lt}
use Rattle.notices.specs.declared.notice.Notice.{Notice}
use Rattle.notice_tree.specs.Trees.{Tree, Empty, Branch, in_order, height, total, one, IsBalanced}
use Rattle.notice_tree.proofs.ListLemmas.{total-listed, sum_by-one}

double : (h : ℕ) → 2 ^ (h + 1) ≡ 2 ^ h * 2
double h = ap (λ k. 2 ^ k) (add-one h) ∙ pow-suc 2 h

grows : (i j : ℕ) → i ≤ j → 2 ^ i ≤ 2 ^ j
grows i j h = let two : 0 < 2 = omega arith in pow-le-pow_right two h

four : (h : ℕ) → 2 ^ (h + 1 + 1) ≡ 2 ^ h * 4
four h = double (h + 1) ∙ ap (λ m. m * 2) (double h) ∙ twice (2 ^ h)
  where
    twice : (p : ℕ) → p * 2 * 2 ≡ p * 4
    twice p = omega arith

-- the square of a sum holds each of four products
expand : (a b : ℕ) → (a + b) * (a + b) ≡ a * a + a * b + (b * a + b * b)
expand a b = omega arith

quarter : (p a b : ℕ) → p ≤ a * a → p ≤ b * b → p * 4 ≤ (a + b) * (a + b)
quarter p a b pa pb =
    elim (cases_lt a b) [
      | inl lt ↦ (let le : a ≤ b = omega arith in omega (arith, expand a b, mul-le-mul_left a le, mul-le-mul_left b le))
      | inr ge ↦ omega (arith, expand a b, mul-le-mul_left a ge, mul-le-mul_left b ge)
    ]

bound : (x y p s : ℕ) → x ≤ y → y ≡ p * 4 → p * 4 ≤ s → x ≤ s
bound x y p s a b c = omega arith

height-square : (t : Tree) → IsBalanced t → 2 ^ height t ≤ (total one t + 1) * (total one t + 1)
unfolding one
height-square Empty b = omega arith
height-square (Branch l n r) b =
    let k : ℕ = min (height l) (height r) in
    let a : ℕ = total one l + 1 in
    let c : ℕ = total one r + 1 in
    let on_left : 2 ^ k ≤ a * a = below (2 ^ k) (2 ^ height l) (a * a) (grows k (height l) (omega arith)) (height-square l b.2) in
    let on_right : 2 ^ k ≤ c * c = below (2 ^ k) (2 ^ height r) (c * c) (grows k (height r) (omega arith)) (height-square r b.3) in
    let sum : total one (Branch l n r) + 1 ≡ a + c = omega arith in
    let up : 2 ^ (max (height l) (height r) + 1) ≤ 2 ^ (k + 1 + 1) = grows (max (height l) (height r) + 1) (k + 1 + 1) (omega (arith, b.0, b.1)) in
    subst (λ m. 2 ^ (max (height l) (height r) + 1) ≤ m * m) (sym sum)
    (bound (2 ^ (max (height l) (height r) + 1)) (2 ^ (k + 1 + 1)) (2 ^ k) ((a + c) * (a + c)) up (four k) (quarter (2 ^ k) a c on_left on_right))
  where
    below : (x y z : ℕ) → x ≤ y → y ≤ z → x ≤ z
    below x y z a b = omega arith

-- a tree of a height has no more notices than fit
height-full : (t : Tree) → total one t + 1 ≤ 2 ^ height t
unfolding one
height-full Empty = omega arith
height-full (Branch l n r) =
    let m : ℕ = max (height l) (height r) in
    sides (total one l) (total one r) (2 ^ height l) (2 ^ height r) (2 ^ m) (2 ^ (m + 1)) (height-full l) (height-full r)
    (grows (height l) m (omega arith)) (grows (height r) m (omega arith)) (double m)
  where
    sides : (a b x y p q : ℕ) → a + 1 ≤ x → b + 1 ≤ y → x ≤ p → y ≤ p → q ≡ p * 2 → a + 1 + b + 1 ≤ q
    sides a b x y p q h1 h2 h3 h4 h5 = omega arith

square : (x : ℕ) → x ^ 2 ≡ x * x
square x = pow-suc x 1 ∙ ap (λ m. m * x) (pow-suc x 0 ∙ ap (λ m. m * x) (pow-zero x) ∙ one-mul x)

pub low_height : (t : Tree) (l : List Notice) → in_order t ≡ l → IsBalanced t → 2 ^ height t ≤ (length l + 1) ^ 2
low_height t l e b =
    let count : total one t ≡ length l = total-listed one t ∙ ap (sum_by one) e ∙ sum_by-one l in
    subst (λ m. 2 ^ height t ≤ m) (sym (square (length l + 1))) (subst (λ m. 2 ^ height t ≤ (m + 1) * (m + 1)) count (height-square t b))

pub full_height : (t : Tree) (l : List Notice) → in_order t ≡ l → length l < 2 ^ height t
full_height t l e =
    let count : total one t ≡ length l = total-listed one t ∙ ap (sum_by one) e ∙ sum_by-one l in
    omega (arith, height-full t)
