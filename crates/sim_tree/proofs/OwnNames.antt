-- The token that names an expression is among those of the expression.
use Rattle.std.proofs.Common.{◌≡◌, ◌<◌, ℕ, suc, length, List, [], ◌∷◌, ◌⊎◌, inl, inr, refl, sym, arith}
use Rattle.std.specs.List.{Contains}
use Rattle.sim_tree.specs.Named.{named, all_named}
use Rattle.sim_tree.specs.Syntax as s
use Rattle.sim_tree.specs.Syntax.{Expression, Expressions, naming}

abbrev Has : ℕ → List ℕ → Type 0
Has x [] = ⊥
Has x (y ∷ ys) = (x ≡ y) ⊎ Has x ys

mutual
  kept : (e : Expression) (x : ℕ) (l : List ℕ) → Has x l → Has x (named e l)
  kept (s.If i a b c) x l h = inr (kept a x (named b (named c l)) (kept b x (named c l) (kept c x l h)))
  kept (s.Binary operator i a b) x l h = kept a x (i ∷ named b l) (inr (kept b x l h))
  kept (s.Not i a) x l h = inr (kept a x l h)
  kept (s.Signed sign i a) x l h = inr (kept a x l h)
  kept (s.Member m i a class) x l h = kept a x (i ∷ class.token.0 ∷ l) (inr (inr h))
  kept (s.Dot i a name es) x l h = kept a x (i ∷ name.token.0 ∷ all_named es l) (inr (inr (all_kept es x l h)))
  kept (s.Qua i a class) x l h = kept a x (i ∷ class.token.0 ∷ l) (inr (inr h))
  kept (s.Constant literal i) x l h = inr h
  kept (s.Named name es) x l h = inr (all_kept es x l h)
  kept (s.This i class) x l h = inr (inr h)
  kept (s.New i class es) x l h = inr (inr (all_kept es x l h))
  kept (s.Parentheses i a) x l h = inr (kept a x l h)

  all_kept : (es : Expressions) (x : ℕ) (l : List ℕ) → Has x l → Has x (all_named es l)
  all_kept s.NoMore x l h = h
  all_kept (s.Then e es) x l h = kept e x (all_named es l) (all_kept es x l h)

own : (e : Expression) (l : List ℕ) → Has (naming e) (named e l)
own (s.If i a b c) l = inl refl
own (s.Binary operator i a b) l = kept a i (i ∷ named b l) (inl refl)
own (s.Not i a) l = inl refl
own (s.Signed sign i a) l = inl refl
own (s.Member m i a class) l = kept a i (i ∷ class.token.0 ∷ l) (inl refl)
own (s.Dot i a name es) l = kept a i (i ∷ name.token.0 ∷ all_named es l) (inl refl)
own (s.Qua i a class) l = kept a i (i ∷ class.token.0 ∷ l) (inl refl)
own (s.Constant literal i) l = inl refl
own (s.Named name es) l = inl refl
own (s.This i class) l = inl refl
own (s.New i class es) l = inl refl
own (s.Parentheses i a) l = inl refl

contains : (x : ℕ) (l : List ℕ) → Has x l → Contains l x
contains x [] h = absurd h
contains x (y ∷ ys) (inl e) = (0, let z : 0 < length (y ∷ ys) = omega arith in z, sym e)
contains x (y ∷ ys) (inr h) = let c = contains x ys h in (suc c.0, let a = c.1 in let z : suc c.0 < length (y ∷ ys) = omega (arith, a) in z, c.2)

pub contains_own : (e : Expression) (l : List ℕ) → Contains (named e l) (naming e)
contains_own e l = contains (naming e) (named e l) (own e l)
