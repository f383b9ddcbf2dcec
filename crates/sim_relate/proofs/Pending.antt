-- What is pending stands in the code.
use Rattle.std.proofs.Common.{◌≡◌, ◌≤◌, ◌+◌, ℕ, zero, suc, List, ◌∷◌, length, refl, sym, ap, subst, arith}
use Rattle.sim_scope.specs.Source.{Source}
use Rattle.sim_code.specs.Code.{CodeOf}
use Rattle.sim_code.specs.Machine.{Frames}
use Rattle.sim_meaning.specs.Pending.{Do, EndBlock, EndEvaluation, EndObject, EndPrefixed, EndProcedure, EndProgram, Eval, Further, Instances, Item, NoTerm, Op, Term, Terms}
use Rattle.sim_meaning.specs.Steps.{count, each}
use Rattle.codegen_expr.specs.Sites.{frame_text}
use Rattle.sim_relate.proofs.Known.{AllRead, Any, Kind, Low, Runs, SameFrame, Spot, anys, leaves_any, leaves_read, site_at, spot, Settled}
use Rattle.sim_relate.proofs.Trees.{OperandAt, ReadsAt, TermsAt}
use Rattle.sim_relate.proofs.Relation.{EndAt, InStage, OpAt, WorkAt, stays, there}
use Rattle.sim_relate.proofs.Frames.{same_frame}
use Rattle.sim_relate.proofs.Waiting.{Wait}

-- one value more at either end
pub anys_more : (n : ℕ) (k : List Kind) → anys n (Any ∷ k) ≡ anys (suc n) k
anys_more zero k = refl
anys_more (suc n) k = ap (λ x. Any ∷ x) (anys_more n k)

module _ (s : Source) (code : CodeOf) (m : Instances) (fs : Frames) (Below : Wait → Type 0) (inst t : ℕ) (b : Runs) (u : ℕ) (low : Low s code t b u) where
  -- an operator at its stage, which may stand in another text with the same frames; behind it the work goes on at a spot
  pub pends_in : (w : List Item) (op : Op) (v : ℕ) (c : Spot) (p q : ℕ) (ks ks' : List Kind) → SameFrame s v t → InStage s code (OpAt s code m fs inst (site_at v b u)) (site_at v b u) op b c p q ks ks' → WorkAt s code m fs Below inst c.text c.runs c.used w q ks' → WorkAt s code m fs Below inst t b u (Do op ∷ w) p ks
  pends_in w op v c p q ks ks' f a k = let same : u ≤ u = omega arith in (p, u, q, ks', v, c, f, there refl, same, low, a, k)

module _ (s : Source) (code : CodeOf) (m : Instances) (fs : Frames) (Below : Wait → Type 0) (inst t : ℕ) (b : Runs) (u : ℕ) (low : Settled s code t b u) where
  -- an operator in front of other work
  pub pends : (w : List Item) (op : Op) (p q : ℕ) (ks ks' : List Kind) → OpAt s code m fs inst (site_at t b u) op p q ks ks' → WorkAt s code m fs Below inst t b u w q ks' → WorkAt s code m fs Below inst t b u (Do op ∷ w) p ks
  pends w op p q ks ks' a k = let same : u ≤ u = omega arith in (p, u, q, ks', t, spot t b u, same_frame s t, there refl, same, low.at, stays a low.calm refl, k)

  -- an operand in front of other work
  pub evals : (w : List Item) (x : Term) (p q : ℕ) (ks : List Kind) → OperandAt s code m inst (site_at t b u) (length ks) x p q → WorkAt s code m fs Below inst t b u w q (Any ∷ ks) → WorkAt s code m fs Below inst t b u (Do (Eval x) ∷ w) p ks
  evals w x p q ks a k = pends w (Eval x) p q ks (Any ∷ ks) (a.0, leaves_any s x ks a.1) k

  -- operands, one behind the other
  pub each_pends : (w : List Item) (xs : Terms) (p q : ℕ) (ks : List Kind) → TermsAt s code m inst (site_at t b u) (length ks) xs p q → WorkAt s code m fs Below inst t b u w q (anys (count xs) ks) → WorkAt s code m fs Below inst t b u (each xs w) p ks
  each_pends w NoTerm p q ks a k = subst (λ x. WorkAt s code m fs Below inst t b u w x ks) a k
  each_pends w (Further x xs) p q ks a k =
      evals (each xs w) x p a.0 ks a.1 (each_pends w xs a.0 q (Any ∷ ks) a.2 (subst (λ z. WorkAt s code m fs Below inst t b u w q z) (sym (anys_more (count xs) ks)) k))

  -- operands of a standard name
  pub each_reads : (w : List Item) (xs : Terms) (done p q : ℕ) (ks left : List Kind) → AllRead done ks left → ReadsAt s code m inst (site_at t b u) (length ks) xs p q → ((ks2 : List Kind) → AllRead (done + count xs) ks2 left → WorkAt s code m fs Below inst t b u w q ks2) → WorkAt s code m fs Below inst t b u (each xs w) p ks
  each_reads w NoTerm done p q ks left r a k = let same : done ≡ done + 0 = omega arith in subst (λ x. WorkAt s code m fs Below inst t b u w x ks) a (k ks (subst (λ n. AllRead n ks left) same r))
  each_reads w (Further x xs) done p q ks left r a k =
      let y = leaves_read s x ks (a.1).1 in
      let same : suc done + count xs ≡ done + suc (count xs) = omega arith in
      pends (each xs w) (Eval x) p a.0 ks (y.0 ∷ ks) ((a.1).0, y.2) (each_reads w xs (suc done) a.0 q (y.0 ∷ ks) left (y.1, r) a.2 (λ ks2 r2. k ks2 (subst (λ n. AllRead n ks2 left) same r2)))

-- an end
pub ends_at : (s : Source) (code : CodeOf) (m : Instances) (fs : Frames) (Below : Wait → Type 0) (inst t : ℕ) (b : Runs) (u : ℕ) (x : Item) (w : List Item) (p : ℕ) (ks : List Kind) → EndAt s code Below (frame_text s t) b x w p ks → WorkAt s code m fs Below inst t b u (x ∷ w) p ks
ends_at s code m fs Below inst t b u (Do op) w p ks a = absurd a
ends_at s code m fs Below inst t b u EndBlock w p ks a = (p, there refl, a)
ends_at s code m fs Below inst t b u (EndProcedure v) w p ks a = (p, there refl, a)
ends_at s code m fs Below inst t b u EndProgram w p ks a = (p, there refl, a)
ends_at s code m fs Below inst t b u EndObject w p ks a = (p, there refl, a)
ends_at s code m fs Below inst t b u EndPrefixed w p ks a = (p, there refl, a)
ends_at s code m fs Below inst t b u (EndEvaluation wanted) w p ks a = (p, there refl, a)
ends_at s code m fs Below inst t b u _ w p ks a = absurd a
