-- What is left inside a part, step by step from the left.
use Rattle.std.proofs.Common.{◌≡◌, ◌≤◌, ◌<◌, ℕ, List, [], ◌∷◌, length, None, refl, sym, subst, arith}
use Rattle.sim_base.specs.declared.token.Token.{Token}
use Rattle.sim_tree.specs.Grammar.{Part, Maybe, Of, Symbol, right_side}
use Rattle.sim_tree.specs.Reading.{Forest, done, node, kind_at, Reads, reads-done}
use Rattle.sim_tree.specs.Tree.{limit, ReadsPart}
use Rattle.sim_tree.proofs.Steps.{Leads, start}
use Rattle.sim_expr_parser.specs.declared.refusal.Stop.{Stop}
use Rattle.sim_expr_parser.specs.Parsing.{Stops, ReadsTo}
use Rattle.sim_expr_parser.proofs.Steps.{Within, leads-stops, maybe, skipped}
use Rattle.sim_parser.specs.Parsing.{ReadsAll}

-- Of the symbols s0 from i0 on, what stands in front of i was read, to which F adds the derivation of s.
pub record Along (ws : List Token) (d : ℕ) (s0 : List Symbol) (i0 : ℕ) (F : Forest → Forest) (s : List Symbol) (i : ℕ) : Type 0 where
  pub leads : Leads ws d s0 i0 F d s i
  pub ahead : i0 ≤ i
  pub within : i < length ws

pub along : {ws : List Token} (d i : ℕ) (s : List Symbol) → i < length ws → Along ws d s i (λ f. f) s i
along d i s h = record { leads = start d s i; ahead = omega arith; within = h }

module _ {ws : List Token} {d i0 i : ℕ} {s0 : List Symbol} {F : Forest → Forest} where
  pub past : {first : Symbol} {s : List Symbol} {G : Forest → Forest} {m : ℕ} → Along ws d s0 i0 F (first ∷ s) i → ReadsTo ws d first i G m → Along ws d s0 i0 (λ f. F (G f)) s m
  past {first} {s} {G} l r = record {
    leads = record { reads = λ f k q. l.leads.reads (G f) k (r.reads s f k q); fails = λ x q. l.leads.fails x (r.fails s x q) };
    ahead = omega (arith, l.ahead, r.ahead);
    within = r.within;
  }

  pub left : {s : List Symbol} {m : ℕ} → Along ws d s0 i0 F s i → (f : Forest) → ReadsAll ws d s i f m → (h : Forest) → F f ≡ h → ReadsAll ws d s0 i0 h m
  left {m = m} l f r h same = record {
    reads = subst (λ z. Reads limit ws d s0 i0 z m) same (l.leads.reads f m r.reads);
    ahead = omega (arith, l.ahead, r.ahead);
    within = r.within;
  }

  pub all : Along ws d s0 i0 F [] i → (h : Forest) → F done ≡ h → ReadsAll ws d s0 i0 h i
  all l h same = record { reads = subst (λ z. Reads limit ws d s0 i0 z i) same (l.leads.reads done i reads-done); ahead = l.ahead; within = l.within }

  pub along-stops : {first : Symbol} {s : List Symbol} → Along ws d s0 i0 F (first ∷ s) i → (x : Stop) → ((s : List Symbol) → Stops ws d (first ∷ s) i x) → Stops ws d s0 i0 x
  along-stops {first} {s} l x h = leads-stops l.leads x (h s)

  pub along-ends : {s : List Symbol} → Along ws d s0 i0 F s i → (x : Stop) → Stops ws d s i x → Stops ws d s0 i0 x
  along-ends l x h = leads-stops l.leads x h

-- Inside a part, all that is left of it.
pub closed-by : {ws : List Token} {d i j e m : ℕ} {n : Part} {F : Forest → Forest} {s : List Symbol} → Within ws d n i F e s j → (f : Forest) → ReadsAll ws e s j f m → (h : Forest) → F f ≡ h → ReadsPart ws d n i h m
closed-by {ws} {d} {i} {j} {e} {m} {n} w f r h same = record {
  right = w.right;
  begins = w.begins;
  shallow = w.shallow;
  inside = subst (λ x. Reads limit ws x w.right i h m) (sym w.depth) (subst (λ y. Reads limit ws e w.right i y m) same (w.leads.reads f m r.reads));
  ahead = omega (arith, w.ahead, r.ahead);
  within = r.within;
}

-- A part alone, which may be left out.
pub maybe-all : {ws : List Token} {d i j : ℕ} {n : Part} {f : Forest} → ReadsPart ws d n i f j → i < length ws → ReadsAll ws d (Of Maybe n ∷ []) i (node n f done) j
maybe-all {d = d} {i = i} {n = n} {f = f} p h = all (past (along d i (Of Maybe n ∷ []) h) (maybe p)) (node n f done) refl

pub skipped-all : {ws : List Token} {d i : ℕ} {n : Part} → right_side n (kind_at ws i) ≡ None → i < length ws → ReadsAll ws d (Of Maybe n ∷ []) i done i
skipped-all {d = d} {i = i} {n = n} none h = all (past (along d i (Of Maybe n ∷ []) h) (skipped none h)) done refl
