-- The grammar, run: what it computes for a token list is a derivation, or a fault.
use Rattle.std.proofs.Common.{zero, suc, ◌≡◌, ℕ, ◌+◌, Bool, true, false, List, [], ◌∷◌, Option, Some, None, refl}
use Rattle.sim_base.specs.declared.token.Token.{Token}
use Rattle.sim_tree.specs.Grammar.{Symbol, Kept, Mark, Any, Here, Of, is, one_of, right_side}
use Rattle.sim_tree.specs.Reading.{Forest, done, leaf, place, node, kind_at, after, may_skip, inside_depth, is_too_deep, first_of, Reads, reads-done, reads-kept, reads-mark, reads-any, reads-none, reads-here, reads-part, reads-skip, Fails, fails-kept, fails-mark, fails-part, fails-deep, fails-inside, after-kept, after-mark, after-any, after-none, after-here, after-part, after-skip, Fault, Unexpected, TooDeep, value_at}

pub data Answer : Type 0 where
  Read : Forest → ℕ → Answer
  Faulty : Fault → Answer
  Unknown : Answer

abbrev with_leaf : (Forest → Forest) → Answer → Answer
with_leaf h (Read f j) = Read (h f) j
with_leaf h (Faulty e) = Faulty e
with_leaf h Unknown = Unknown

-- what reading symbols from i on comes to, in so many steps
unfoldable pub run : ℕ → ℕ → List Token → ℕ → List Symbol → ℕ → Answer
run zero most ws d s i = Unknown
run (suc n) most ws d [] i = Read done i
run (suc n) most ws d (Kept any ∷ s) i =
    elim (one_of any (kind_at ws i)) [ true ↦ with_leaf (leaf i (kind_at ws i) (value_at ws i)) (run n most ws d s (i + 1)) | false ↦ Faulty (Unexpected i) ]
run (suc n) most ws d (Mark a ∷ s) i = elim (is (kind_at ws i) a) [ true ↦ run n most ws d s (i + 1) | false ↦ Faulty (Unexpected i) ]
run (suc n) most ws d (Any a ∷ s) i = elim (is (kind_at ws i) a) [ true ↦ run n most ws d (Any a ∷ s) (i + 1) | false ↦ run n most ws d s i ]
run (suc n) most ws d (Here ∷ s) i = with_leaf (place i) (run n most ws d s i)
run (suc n) most ws d (Of t p ∷ s) i =
    elim (right_side p (kind_at ws i)) [
      | None ↦ elim (may_skip t) [ true ↦ run n most ws d s i | false ↦ Faulty (Unexpected i) ]
      | Some right ↦ elim (is_too_deep most p d right) [
        | true ↦ Faulty (TooDeep (first_of p i))
        | false ↦ elim (run n most ws (inside_depth p d) right i) [
          | Read f m ↦ with_leaf (node p f) (run n most ws d (after t p s) m)
          | Faulty e ↦ Faulty e
          | Unknown ↦ Unknown
        ]
      ]
    ]

module _ (most : ℕ) (ws : List Token) where
  abbrev pub Sound : ℕ → List Symbol → ℕ → Answer → Type 0
  Sound d s i (Read f j) = Reads most ws d s i f j
  Sound d s i (Faulty e) = Fails most ws d s i e
  Sound d s i Unknown = Unit {0}

  passed : (d e i m : ℕ) (s u : List Symbol) (h : Forest → Forest) → ((f : Forest) (j : ℕ) → Reads most ws d s i f j → Reads most ws e u m (h f) j)
      → ((x : Fault) → Fails most ws d s i x → Fails most ws e u m x) → (r : Answer) → Sound d s i r → Sound e u m (with_leaf h r)
  passed d e i m s u h good bad (Read f j) r = good f j r
  passed d e i m s u h good bad (Faulty x) r = bad x r
  passed d e i m s u h good bad Unknown r = tt

  straight : (d e i m : ℕ) (s u : List Symbol) → ((f : Forest) (j : ℕ) → Reads most ws d s i f j → Reads most ws e u m f j)
      → ((x : Fault) → Fails most ws d s i x → Fails most ws e u m x) → (r : Answer) → Sound d s i r → Sound e u m r
  straight d e i m s u good bad (Read f j) r = good f j r
  straight d e i m s u good bad (Faulty x) r = bad x r
  straight d e i m s u good bad Unknown r = tt

  pub sound : (n d : ℕ) (s : List Symbol) (i : ℕ) → Sound d s i (run n most ws d s i)
  unfolding run
  sound zero d s i = tt
  sound (suc n) d [] i = reads-done
  sound (suc n) d (Kept any ∷ s) i = go (one_of any (kind_at ws i)) refl (sound n d s (i + 1))
    where
      go : (b : Bool) → one_of any (kind_at ws i) ≡ b → Sound d s (i + 1) (run n most ws d s (i + 1))
          → Sound d (Kept any ∷ s) i (elim b [ true ↦ with_leaf (leaf i (kind_at ws i) (value_at ws i)) (run n most ws d s (i + 1)) | false ↦ Faulty (Unexpected i) ])
      go true e r = passed d d (i + 1) i s (Kept any ∷ s) (leaf i (kind_at ws i) (value_at ws i)) (λ f j q. reads-kept e q) (λ x q. after-kept e q) (run n most ws d s (i + 1)) r
      go false e r = fails-kept e
  sound (suc n) d (Mark a ∷ s) i = go (is (kind_at ws i) a) refl (sound n d s (i + 1))
    where
      go : (b : Bool) → is (kind_at ws i) a ≡ b → Sound d s (i + 1) (run n most ws d s (i + 1))
          → Sound d (Mark a ∷ s) i (elim b [ true ↦ run n most ws d s (i + 1) | false ↦ Faulty (Unexpected i) ])
      go true e r = straight d d (i + 1) i s (Mark a ∷ s) (λ f j q. reads-mark e q) (λ x q. after-mark e q) (run n most ws d s (i + 1)) r
      go false e r = fails-mark e
  sound (suc n) d (Any a ∷ s) i = go (is (kind_at ws i) a) refl (sound n d (Any a ∷ s) (i + 1)) (sound n d s i)
    where
      go : (b : Bool) → is (kind_at ws i) a ≡ b → Sound d (Any a ∷ s) (i + 1) (run n most ws d (Any a ∷ s) (i + 1)) → Sound d s i (run n most ws d s i)
          → Sound d (Any a ∷ s) i (elim b [ true ↦ run n most ws d (Any a ∷ s) (i + 1) | false ↦ run n most ws d s i ])
      go true e r q = straight d d (i + 1) i (Any a ∷ s) (Any a ∷ s) (λ f j q. reads-any e q) (λ x q. after-any e q) (run n most ws d (Any a ∷ s) (i + 1)) r
      go false e r q = straight d d i i s (Any a ∷ s) (λ f j q. reads-none e q) (λ x q. after-none e q) (run n most ws d s i) q
  sound (suc n) d (Here ∷ s) i =
      passed d d i i s (Here ∷ s) (place i) (λ f j q. reads-here q) (λ x q. after-here q) (run n most ws d s i) (sound n d s i)
  sound (suc n) d (Of t p ∷ s) i = go (right_side p (kind_at ws i)) refl (λ right. sound n (inside_depth p d) right i) (λ m. sound n d (after t p s) m) (sound n d s i)
    where
      skipped : (b : Bool) → may_skip t ≡ b → right_side p (kind_at ws i) ≡ None → Sound d s i (run n most ws d s i)
          → Sound d (Of t p ∷ s) i (elim b [ true ↦ run n most ws d s i | false ↦ Faulty (Unexpected i) ])
      skipped true e b r = straight d d i i s (Of t p ∷ s) (λ f j q. reads-skip b e q) (λ x q. after-skip b e q) (run n most ws d s i) r
      skipped false e b r = fails-part b e

      inner : (right : List Symbol) → right_side p (kind_at ws i) ≡ Some right → is_too_deep most p d right ≡ false → (r : Answer) → Sound (inside_depth p d) right i r
          → ((m : ℕ) → Sound d (after t p s) m (run n most ws d (after t p s) m))
          → Sound d (Of t p ∷ s) i (elim r [ Read f m ↦ with_leaf (node p f) (run n most ws d (after t p s) m) | Faulty e ↦ Faulty e | Unknown ↦ Unknown ])
      inner right b sh (Read f m) r next =
          passed d d m i (after t p s) (Of t p ∷ s) (node p f) (λ g j q. reads-part b sh r q) (λ x q. after-part b sh r q) (run n most ws d (after t p s) m) (next m)
      inner right b sh (Faulty e) r next = fails-inside b sh r
      inner right b sh Unknown r next = tt

      deep : (right : List Symbol) → right_side p (kind_at ws i) ≡ Some right → (b : Bool) → is_too_deep most p d right ≡ b
          → Sound (inside_depth p d) right i (run n most ws (inside_depth p d) right i) → ((m : ℕ) → Sound d (after t p s) m (run n most ws d (after t p s) m))
          → Sound d (Of t p ∷ s) i (elim b [
            | true ↦ Faulty (TooDeep (first_of p i))
            | false ↦ elim (run n most ws (inside_depth p d) right i) [
              | Read f m ↦ with_leaf (node p f) (run n most ws d (after t p s) m)
              | Faulty e ↦ Faulty e
              | Unknown ↦ Unknown
            ]
          ])
      deep right b true e r next = fails-deep b e
      deep right b false e r next = inner right b e (run n most ws (inside_depth p d) right i) r next

      go : (o : Option (List Symbol)) → right_side p (kind_at ws i) ≡ o → ((right : List Symbol) → Sound (inside_depth p d) right i (run n most ws (inside_depth p d) right i))
          → ((m : ℕ) → Sound d (after t p s) m (run n most ws d (after t p s) m)) → Sound d s i (run n most ws d s i)
          → Sound d (Of t p ∷ s) i (elim o [
            | None ↦ elim (may_skip t) [ true ↦ run n most ws d s i | false ↦ Faulty (Unexpected i) ]
            | Some right ↦ elim (is_too_deep most p d right) [
              | true ↦ Faulty (TooDeep (first_of p i))
              | false ↦ elim (run n most ws (inside_depth p d) right i) [
                | Read f m ↦ with_leaf (node p f) (run n most ws d (after t p s) m)
                | Faulty e ↦ Faulty e
                | Unknown ↦ Unknown
              ]
            ]
          ])
      go None e inside next rest = skipped (may_skip t) refl e rest
      go (Some right) e inside next rest = deep right e (is_too_deep most p d right) refl (inside right) next
