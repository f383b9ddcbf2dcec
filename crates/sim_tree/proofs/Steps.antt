-- How readings are put together, step by step from the left: what a parser's steps lead to.
use Rattle.std.proofs.Common.{◌≡◌, ℕ, ◌+◌, true, false, List, [], ◌∷◌, Some, None, sym, subst}
use Rattle.std.proofs.lemmas.Bool.{false≢true}
use Rattle.sim_base.specs.declared.token.Token.{Token}
use Rattle.sim_base.specs.declared.token.TokenKind.{TokenKind}
use Rattle.sim_tree.specs.Grammar.{Part, Times, Once, Symbol, Kept, Mark, Any, Here, Of, is, one_of, right_side}
use Rattle.sim_tree.specs.Reading.{Forest, leaf, place, node, kind_at, after, may_skip, inside_depth, is_too_deep, Reads, reads-kept, reads-mark, reads-any, reads-none, reads-here, reads-part, reads-skip, Fails, fails-part, fails-deep, fails-inside, after-kept, after-mark, after-any, after-none, after-here, after-part, after-skip, Fault, value_at}
use Rattle.sim_tree.specs.Claim.{one}
use Rattle.sim_tree.specs.Tree.{limit, ReadsPart}

-- What reading s from i gives leads to what reading s0 from i0 gives: F makes the one derivation of the other, and a fault is the same.
pub record Leads (ws : List Token) (d0 : ℕ) (s0 : List Symbol) (i0 : ℕ) (F : Forest → Forest) (d : ℕ) (s : List Symbol) (i : ℕ) : Type 0 where
  pub reads : (f : Forest) (j : ℕ) → Reads limit ws d s i f j → Reads limit ws d0 s0 i0 (F f) j
  pub fails : (e : Fault) → Fails limit ws d s i e → Fails limit ws d0 s0 i0 e

module _ {ws : List Token} where
  pub start : (d : ℕ) (s : List Symbol) (i : ℕ) → Leads ws d s i (λ f. f) d s i
  start d s i = record { reads = λ f j r. r; fails = λ e r. r }

  module _ {d0 d i i0 : ℕ} {s0 s : List Symbol} {F : Forest → Forest} where
    pub past-mark : {a : TokenKind} → Leads ws d0 s0 i0 F d (Mark a ∷ s) i → is (kind_at ws i) a ≡ true → Leads ws d0 s0 i0 F d s (i + 1)
    past-mark l h = record { reads = λ f j r. l.reads f j (reads-mark h r); fails = λ e r. l.fails e (after-mark h r) }

    pub past-kept : {any : List TokenKind} → Leads ws d0 s0 i0 F d (Kept any ∷ s) i → one_of any (kind_at ws i) ≡ true → Leads ws d0 s0 i0 (λ f. F (leaf i (kind_at ws i) (value_at ws i) f)) d s (i + 1)
    past-kept l h = record { reads = λ f j r. l.reads (leaf i (kind_at ws i) (value_at ws i) f) j (reads-kept h r); fails = λ e r. l.fails e (after-kept h r) }

    -- one more of any number of tokens that the tree does not keep
    pub past-any : {a : TokenKind} → Leads ws d0 s0 i0 F d (Any a ∷ s) i → is (kind_at ws i) a ≡ true → Leads ws d0 s0 i0 F d (Any a ∷ s) (i + 1)
    past-any l h = record { reads = λ f j r. l.reads f j (reads-any h r); fails = λ e r. l.fails e (after-any h r) }

    pub past-none : {a : TokenKind} → Leads ws d0 s0 i0 F d (Any a ∷ s) i → is (kind_at ws i) a ≡ false → Leads ws d0 s0 i0 F d s i
    past-none l h = record { reads = λ f j r. l.reads f j (reads-none h r); fails = λ e r. l.fails e (after-none h r) }

    pub past-here : Leads ws d0 s0 i0 F d (Here ∷ s) i → Leads ws d0 s0 i0 (λ f. F (place i f)) d s i
    past-here l = record { reads = λ f j r. l.reads (place i f) j (reads-here r); fails = λ e r. l.fails e (after-here r) }

    -- the same, where the code has a name for the next index
    pub mark-to : {a : TokenKind} {j : ℕ} → j ≡ i + 1 → Leads ws d0 s0 i0 F d (Mark a ∷ s) i → is (kind_at ws i) a ≡ true → Leads ws d0 s0 i0 F d s j
    mark-to e l h = subst (λ m. Leads ws d0 s0 i0 F d s m) (sym e) (past-mark l h)

    pub kept-to : {any : List TokenKind} {j : ℕ} → j ≡ i + 1 → Leads ws d0 s0 i0 F d (Kept any ∷ s) i → one_of any (kind_at ws i) ≡ true → Leads ws d0 s0 i0 (λ f. F (leaf i (kind_at ws i) (value_at ws i) f)) d s j
    kept-to e l h = subst (λ m. Leads ws d0 s0 i0 (λ f. F (leaf i (kind_at ws i) (value_at ws i) f)) d s m) (sym e) (past-kept l h)

    pub past-skip : {t : Times} {n : Part} → Leads ws d0 s0 i0 F d (Of t n ∷ s) i → right_side n (kind_at ws i) ≡ None → may_skip t ≡ true → Leads ws d0 s0 i0 F d s i
    past-skip l h m = record { reads = λ f j r. l.reads f j (reads-skip h m r); fails = λ e r. l.fails e (after-skip h m r) }

    -- past a part whose inside was read here
    pub past-part : {t : Times} {n : Part} (right : List Symbol) (g : Forest) (m : ℕ) → Leads ws d0 s0 i0 F d (Of t n ∷ s) i → right_side n (kind_at ws i) ≡ Some right → is_too_deep limit n d right ≡ false
        → Reads limit ws (inside_depth n d) right i g m → Leads ws d0 s0 i0 (λ f. F (node n g f)) d (after t n s) m
    past-part {t} {n} right g m l e shallow h = record {
      reads = λ f j r. l.reads (node n g f) j (reads-part e shallow h r);
      fails = λ x r. l.fails x (after-part e shallow h r);
    }

    -- inside a part that is read here
    pub fails-in : {t : Times} {n : Part} (right : List Symbol) → Leads ws d0 s0 i0 F d (Of t n ∷ s) i → right_side n (kind_at ws i) ≡ Some right → is_too_deep limit n d right ≡ false
        → (e : Fault) → Fails limit ws (inside_depth n d) right i e → Fails limit ws d0 s0 i0 e
    fails-in right l e shallow x h = l.fails x (fails-inside e shallow h)

    -- past a part that a function read
    pub past-one : {t : Times} {n : Part} {g : Forest} {m : ℕ} → Leads ws d0 s0 i0 F d (Of t n ∷ s) i → ReadsPart ws d n i g m → Leads ws d0 s0 i0 (λ f. F (node n g f)) d (after t n s) m
    past-one {g = g} {m = m} l p = past-part p.right g m l p.begins p.shallow p.inside

    -- the fault of a part that stands once
    pub one-fails : {n : Part} → Leads ws d0 s0 i0 F d (Of Once n ∷ s) i → (x : Fault) → Fails limit ws d (one n) i x → Fails limit ws d0 s0 i0 x
    one-fails {n} l x h = l.fails x (there h)
      where
        there : {x : Fault} → Fails limit ws d (one n) i x → Fails limit ws d (Of Once n ∷ s) i x
        there (fails-part e m) = fails-part e m
        there (fails-deep e m) = fails-deep e m
        there (fails-inside e m r) = fails-inside e m r
        there (after-part e m q r) = absurd (none r)
          where
            none : {k : ℕ} {y : Fault} → Fails limit ws d [] k y → ⊥
            none r = elim r [ ]
        there (after-skip e m r) = absurd (false≢true m)

-- the same derivation in another form
pub leads-as : {ws : List Token} {d0 d i i0 : ℕ} {s0 s : List Symbol} (F G : Forest → Forest) → ((f : Forest) → F f ≡ G f) → Leads ws d0 s0 i0 F d s i → Leads ws d0 s0 i0 G d s i
leads-as {ws} {d0} {d} {i} {i0} {s0} {s} F G same l = record {
  reads = λ f j r. subst (λ x. Reads limit ws d0 s0 i0 x j) (same f) (l.reads f j r);
  fails = l.fails;
}
