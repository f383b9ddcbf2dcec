-- Reading is determined, and looks at no token after the next one.
use Rattle.std.proofs.Common.{◌≡◌, ℕ, ◌+◌, ◌-◌, ◌≤◌, ◌<◌, Bool, true, false, if◌then◌else◌, List, ◌∷◌, Option, Some, None, refl, sym, subst, ap, ◌∙◌, arith}
use Rattle.std.proofs.lemmas.Bool.{false≢true}
use Rattle.std.proofs.lemmas.Bool.Decides.{leb_tells}
use Rattle.std.specs.Prelude.{slice_index_or, nat_le, ◌&&◌, not}
use Rattle.std.proofs.Common.{◌⊎◌, inl, inr}
use Rattle.sim_base.specs.declared.token.Token.{Token}
use Rattle.sim_base.specs.Lexeme.{value_for}
use Rattle.sim_tree.specs.Grammar.{Part, Symbol, Kept, is, one_of, right_side, is_counted, is_begun}
use Rattle.sim_tree.specs.Reading.{Forest, leaf, place, node, finish, kind_at, after, is_empty, inside_depth, is_too_deep, first_of, Reads, reads-done, reads-kept, reads-mark, reads-any, reads-none, reads-here, reads-part, reads-skip, Fails, fails-kept, fails-mark, fails-part, fails-deep, fails-inside, after-kept, after-mark, after-any, after-none, after-here, after-part, after-skip, Fault, Unexpected, TooDeep, value_at}
use Rattle.sim_tree.specs.Claim.{SameBelow}

-- the same right side
same_right : {x y : List Symbol} {o : Option (List Symbol)} → o ≡ Some x → o ≡ Some y → y ≡ x
same_right e f = cc

none_or_some : {x : List Symbol} {o : Option (List Symbol)} → o ≡ None → o ≡ Some x → ⊥
none_or_some e f = cc

true_or_false : {b : Bool} → b ≡ true → b ≡ false → ⊥
true_or_false e f = false≢true (sym f ∙ e)

two_nodes : (n : Part) (f f' g g' : Forest) → f ≡ f' → g ≡ g' → node n f g ≡ node n f' g'
two_nodes n f f' g g' e e' = ap (λ z. node n z g) e ∙ ap (λ z. node n f' z) e'

module _ (limit : ℕ) (ws : List Token) where
  -- one derivation, and one end
  pub one_reading : {d i : ℕ} {s : List Symbol} {f g : Forest} {j m : ℕ} → Reads limit ws d s i f j → Reads limit ws d s i g m → (f ≡ g) × (j ≡ m)
  one_reading reads-done reads-done = (refl, refl)
  one_reading {i = i} (reads-kept h r) (reads-kept h' r') = let e = one_reading r r' in (ap (leaf i (kind_at ws i) (value_at ws i)) e.0, e.1)
  one_reading (reads-mark h r) (reads-mark h' r') = one_reading r r'
  one_reading (reads-any h r) (reads-any h' r') = one_reading r r'
  one_reading (reads-any h r) (reads-none h' r') = absurd (true_or_false h h')
  one_reading (reads-none h r) (reads-any h' r') = absurd (true_or_false h' h)
  one_reading (reads-none h r) (reads-none h' r') = one_reading r r'
  one_reading {i = i} (reads-here r) (reads-here r') = let e = one_reading r r' in (ap (place i) e.0, e.1)
  one_reading (reads-part {depth = d} {start = i} {t = t} {n = n} {right = x} {s = s} {f = f} {g = g} b sh r q) (reads-part {m = m'} {end = j'} {right = y} {f = f'} {g = g'} b' sh' r' q') =
      let e = one_reading r (subst (λ z. Reads limit ws (inside_depth n d) z i f' m') (same_right b b') r') in
      let e' = one_reading q (subst (λ z. Reads limit ws d (after t n s) z g' j') (sym e.1) q') in
      (two_nodes n f f' g g' e.0 e'.0, e'.1)
  one_reading (reads-part b sh r q) (reads-skip b' k r') = absurd (none_or_some b' b)
  one_reading (reads-skip b k r) (reads-part b' sh r' q') = absurd (none_or_some b b')
  one_reading (reads-skip b k r) (reads-skip b' k' r') = one_reading r r'

  -- no reading beside a fault
  pub never_both : {d i : ℕ} {s : List Symbol} {f : Forest} {j : ℕ} {e : Fault} → Reads limit ws d s i f j → Fails limit ws d s i e → ⊥
  never_both reads-done h = elim h [ ]
  never_both (reads-kept h r) (fails-kept h') = true_or_false h h'
  never_both (reads-kept h r) (after-kept h' r') = never_both r r'
  never_both (reads-mark h r) (fails-mark h') = true_or_false h h'
  never_both (reads-mark h r) (after-mark h' r') = never_both r r'
  never_both (reads-any h r) (after-any h' r') = never_both r r'
  never_both (reads-any h r) (after-none h' r') = true_or_false h h'
  never_both (reads-none h r) (after-any h' r') = true_or_false h' h
  never_both (reads-none h r) (after-none h' r') = never_both r r'
  never_both (reads-here r) (after-here r') = never_both r r'
  never_both (reads-part b sh r q) (fails-part b' k) = none_or_some b' b
  never_both (reads-part {depth = d} {n = n} b sh r q) (fails-deep b' deep) = true_or_false deep (subst (λ z. is_too_deep limit n d z ≡ false) (same_right b' b) sh)
  never_both (reads-part {depth = d} {start = i} {n = n} b sh r q) (fails-inside {e = e} b' sh' r') = never_both r (subst (λ z. Fails limit ws (inside_depth n d) z i e) (same_right b b') r')
  never_both (reads-part {depth = d} {start = i} {t = t} {n = n} {s = s} b sh r q) (after-part {m = m'} {e = e} {f = f'} b' sh' r' q') =
      let e' = one_reading r (subst (λ z. Reads limit ws (inside_depth n d) z i f' m') (same_right b b') r') in
      never_both q (subst (λ z. Fails limit ws d (after t n s) z e) (sym e'.1) q')
  never_both (reads-part b sh r q) (after-skip b' k r') = none_or_some b' b
  never_both (reads-skip b k r) (fails-part b' k') = true_or_false k k'
  never_both (reads-skip b k r) (fails-deep b' deep) = none_or_some b b'
  never_both (reads-skip b k r) (fails-inside b' sh' r') = none_or_some b b'
  never_both (reads-skip b k r) (after-part b' sh' r' q') = none_or_some b b'
  never_both (reads-skip b k r) (after-skip b' k' r') = never_both r r'

  pub reads_ahead : {d i : ℕ} {s : List Symbol} {f : Forest} {j : ℕ} → Reads limit ws d s i f j → i ≤ j
  reads_ahead reads-done = omega arith
  reads_ahead (reads-kept h r) = omega (arith, reads_ahead r)
  reads_ahead (reads-mark h r) = omega (arith, reads_ahead r)
  reads_ahead (reads-any h r) = omega (arith, reads_ahead r)
  reads_ahead (reads-none h r) = reads_ahead r
  reads_ahead (reads-here r) = reads_ahead r
  reads_ahead (reads-part b sh r q) = omega (arith, reads_ahead r, reads_ahead q)
  reads_ahead (reads-skip b k r) = reads_ahead r

  -- a fault has one token and one kind
  pub one_fault : {d i : ℕ} {s : List Symbol} {e e' : Fault} → Fails limit ws d s i e → Fails limit ws d s i e' → e ≡ e'
  one_fault (fails-kept h) (fails-kept h') = refl
  one_fault (fails-kept h) (after-kept h' r') = absurd (true_or_false h' h)
  one_fault (fails-mark h) (fails-mark h') = refl
  one_fault (fails-mark h) (after-mark h' r') = absurd (true_or_false h' h)
  one_fault (fails-part b k) (fails-part b' k') = refl
  one_fault (fails-part b k) (fails-deep b' deep) = absurd (none_or_some b b')
  one_fault (fails-part b k) (fails-inside b' sh' r') = absurd (none_or_some b b')
  one_fault (fails-part b k) (after-part b' sh' r' q') = absurd (none_or_some b b')
  one_fault (fails-part b k) (after-skip b' k' r') = absurd (true_or_false k' k)
  one_fault (fails-deep b deep) (fails-part b' k') = absurd (none_or_some b' b)
  one_fault (fails-deep b deep) (fails-deep b' deep') = refl
  one_fault (fails-deep {depth = d} {n = n} b deep) (fails-inside b' sh' r') = absurd (true_or_false deep (subst (λ z. is_too_deep limit n d z ≡ false) (same_right b b') sh'))
  one_fault (fails-deep {depth = d} {n = n} b deep) (after-part b' sh' r' q') = absurd (true_or_false deep (subst (λ z. is_too_deep limit n d z ≡ false) (same_right b b') sh'))
  one_fault (fails-deep b deep) (after-skip b' k' r') = absurd (none_or_some b' b)
  one_fault (fails-inside b sh r) (fails-part b' k') = absurd (none_or_some b' b)
  one_fault (fails-inside {depth = d} {n = n} b sh r) (fails-deep b' deep) = absurd (true_or_false deep (subst (λ z. is_too_deep limit n d z ≡ false) (same_right b' b) sh))
  one_fault (fails-inside {depth = d} {start = i} {n = n} b sh r) (fails-inside {e = e'} b' sh' r') = one_fault r (subst (λ z. Fails limit ws (inside_depth n d) z i e') (same_right b b') r')
  one_fault (fails-inside {depth = d} {start = i} {e = e} {n = n} b sh r) (after-part b' sh' r' q') = absurd (never_both r' (subst (λ z. Fails limit ws (inside_depth n d) z i e) (same_right b' b) r))
  one_fault (fails-inside b sh r) (after-skip b' k' r') = absurd (none_or_some b' b)
  one_fault (after-kept h r) (fails-kept h') = absurd (true_or_false h h')
  one_fault (after-kept h r) (after-kept h' r') = one_fault r r'
  one_fault (after-mark h r) (fails-mark h') = absurd (true_or_false h h')
  one_fault (after-mark h r) (after-mark h' r') = one_fault r r'
  one_fault (after-any h r) (after-any h' r') = one_fault r r'
  one_fault (after-any h r) (after-none h' r') = absurd (true_or_false h h')
  one_fault (after-none h r) (after-any h' r') = absurd (true_or_false h' h)
  one_fault (after-none h r) (after-none h' r') = one_fault r r'
  one_fault (after-here r) (after-here r') = one_fault r r'
  one_fault (after-part b sh r q) (fails-part b' k') = absurd (none_or_some b' b)
  one_fault (after-part {depth = d} {n = n} b sh r q) (fails-deep b' deep) = absurd (true_or_false deep (subst (λ z. is_too_deep limit n d z ≡ false) (same_right b' b) sh))
  one_fault (after-part {depth = d} {start = i} {n = n} b sh r q) (fails-inside {e = e'} b' sh' r') = absurd (never_both r (subst (λ z. Fails limit ws (inside_depth n d) z i e') (same_right b b') r'))
  one_fault (after-part {depth = d} {start = i} {t = t} {n = n} {s = s} b sh r q) (after-part {m = m'} {e = e'} {f = f'} b' sh' r' q') =
      let o = one_reading r (subst (λ z. Reads limit ws (inside_depth n d) z i f' m') (same_right b b') r') in
      one_fault q (subst (λ z. Fails limit ws d (after t n s) z e') (sym o.1) q')
  one_fault (after-part b sh r q) (after-skip b' k' r') = absurd (none_or_some b' b)
  one_fault (after-skip b k r) (fails-part b' k') = absurd (true_or_false k k')
  one_fault (after-skip b k r) (fails-deep b' deep) = absurd (none_or_some b b')
  one_fault (after-skip b k r) (fails-inside b' sh' r') = absurd (none_or_some b b')
  one_fault (after-skip b k r) (after-part b' sh' r' q') = absurd (none_or_some b b')
  one_fault (after-skip b k r) (after-skip b' k' r') = one_fault r r'

-- the token of a fault
abbrev pub fault_at : Fault → ℕ
fault_at (Unexpected k) = k
fault_at (TooDeep k) = k

-- a limit that is not less stops no sooner
module _ (limit more : ℕ) (le : limit ≤ more) where
  shallow_more : (n : Part) (d : ℕ) (s : List Symbol) → is_too_deep limit n d s ≡ false → is_too_deep more n d s ≡ false
  shallow_more n d s h = go (is_counted n) (not (is_empty s)) h
    where
      tests : (b : Bool) → (nat_le limit d && b) ≡ false → (nat_le more d && b) ≡ false
      tests b h = by (leb_tells limit d) (leb_tells more d) h
        where
          by : ((nat_le limit d ≡ true) × (limit ≤ d)) ⊎ ((nat_le limit d ≡ false) × (d < limit)) → ((nat_le more d ≡ true) × (more ≤ d)) ⊎ ((nat_le more d ≡ false) × (d < more)) → (nat_le limit d && b) ≡ false → (nat_le more d && b) ≡ false
          by (inl x) (inl y) h = ap (λ z. z && b) (y.0 ∙ sym x.0) ∙ h
          by (inr x) (inl y) h = absurd (omega (arith, x.1, y.1, le))
          by x (inr y) h = ap (λ z. z && b) y.0

      go : (a b : Bool) → (a && nat_le limit d && b) ≡ false → (a && nat_le more d && b) ≡ false
      go false b h = h
      go true b h = tests b h

  pub reads_more : {ws : List Token} {d i : ℕ} {s : List Symbol} {f : Forest} {j : ℕ} → Reads limit ws d s i f j → Reads more ws d s i f j
  reads_more reads-done = reads-done
  reads_more (reads-kept h r) = reads-kept h (reads_more r)
  reads_more (reads-mark h r) = reads-mark h (reads_more r)
  reads_more (reads-any h r) = reads-any h (reads_more r)
  reads_more (reads-none h r) = reads-none h (reads_more r)
  reads_more (reads-here r) = reads-here (reads_more r)
  reads_more (reads-part {depth = d} {n = n} {right = x} b sh r q) = reads-part b (shallow_more n d x sh) (reads_more r) (reads_more q)
  reads_more (reads-skip b k r) = reads-skip b k (reads_more r)

  pub fails_more : {ws : List Token} {d i k : ℕ} {s : List Symbol} {e : Fault} → e ≡ Unexpected k → Fails limit ws d s i e → Fails more ws d s i e
  fails_more u (fails-kept h) = fails-kept h
  fails_more u (fails-mark h) = fails-mark h
  fails_more u (fails-part b k) = fails-part b k
  fails_more u (fails-deep b deep) = absurd (no_deep u)
    where
      no_deep : {a b : ℕ} → TooDeep a ≡ Unexpected b → ⊥
      no_deep h = cc
  fails_more u (fails-inside {depth = d} {n = n} {right = x} b sh r) = fails-inside b (shallow_more n d x sh) (fails_more u r)
  fails_more u (after-kept h r) = after-kept h (fails_more u r)
  fails_more u (after-mark h r) = after-mark h (fails_more u r)
  fails_more u (after-any h r) = after-any h (fails_more u r)
  fails_more u (after-none h r) = after-none h (fails_more u r)
  fails_more u (after-here r) = after-here (fails_more u r)
  fails_more u (after-part {depth = d} {n = n} {right = x} b sh r q) = after-part b (shallow_more n d x sh) (reads_more r) (fails_more u q)
  fails_more u (after-skip b k r) = after-skip b k (fails_more u r)

-- A reading and a fault look at no token after the next one.
module _ (limit : ℕ) (ws us : List Token) where
  abbrev Same : ℕ → Type 0
  Same k = (m : ℕ) → m ≤ k → slice_index_or ws m finish ≡ slice_index_or us m finish

  pub same_kind : (i : ℕ) → slice_index_or ws i finish ≡ slice_index_or us i finish → kind_at ws i ≡ kind_at us i
  unfolding kind_at
  same_kind i e = ap (λ t. t.lexeme.kind) e

  same_leaf : (i : ℕ) (f : Forest) → slice_index_or ws i finish ≡ slice_index_or us i finish → leaf i (kind_at us i) (value_at us i) f ≡ leaf i (kind_at ws i) (value_at ws i) f
  unfolding kind_at value_at
  same_leaf i f e = ap (λ t. leaf i t.lexeme.kind (value_for t.lexeme.kind t.lexeme.value) f) (sym e)

  pub reads_local : {d i : ℕ} {s : List Symbol} {f : Forest} {j : ℕ} → Reads limit ws d s i f j → Same j → Reads limit us d s i f j
  reads_local reads-done same = reads-done
  reads_local (reads-kept {depth = d} {start = i} {end = j} {any = any} {s = s} {f = f} h r) same =
      let le : i ≤ j = omega (arith, reads_ahead limit ws r) in
      subst (λ x. Reads limit us d (Kept any ∷ s) i x j) (same_leaf i f (same i le))
      (reads-kept (subst (λ b. one_of any b ≡ true) (same_kind i (same i le)) h) (reads_local r same))
  reads_local (reads-mark {start = i} {end = j} {a = a} h r) same =
      let le : i ≤ j = omega (arith, reads_ahead limit ws r) in
      reads-mark (subst (λ b. is b a ≡ true) (same_kind i (same i le)) h) (reads_local r same)
  reads_local (reads-any {start = i} {end = j} {a = a} h r) same =
      let le : i ≤ j = omega (arith, reads_ahead limit ws r) in
      reads-any (subst (λ b. is b a ≡ true) (same_kind i (same i le)) h) (reads_local r same)
  reads_local (reads-none {start = i} {end = j} {a = a} h r) same =
      reads-none (subst (λ b. is b a ≡ false) (same_kind i (same i (reads_ahead limit ws r))) h) (reads_local r same)
  reads_local (reads-here r) same = reads-here (reads_local r same)
  reads_local (reads-part {start = i} {m = m} {end = j} {n = n} {right = x} b sh r q) same =
      let le : i ≤ j = omega (arith, reads_ahead limit ws r, reads_ahead limit ws q) in
      reads-part (subst (λ b. right_side n b ≡ Some x) (same_kind i (same i le)) b) sh
      (reads_local r (λ o h. same o (omega (arith, h, reads_ahead limit ws q)))) (reads_local q same)
  reads_local (reads-skip {start = i} {n = n} b k r) same =
      reads-skip (subst (λ b. right_side n b ≡ None) (same_kind i (same i (reads_ahead limit ws r))) b) k (reads_local r same)

-- the last token that a fault depends on
abbrev pub last_at : Fault → ℕ
last_at (Unexpected k) = k
last_at (TooDeep k) = k + 1

first_near : (n : Part) (i : ℕ) → i ≤ first_of n i + 1
first_near n i = go (is_begun n)
  where
    go : (b : Bool) → i ≤ (if b then i - 1 else i) + 1
    go true = omega arith
    go false = omega arith

-- A fault depends on no token behind that one.
module _ (limit : ℕ) (ws us : List Token) where
  pub fails_ahead : {d i : ℕ} {s : List Symbol} {e : Fault} → Fails limit ws d s i e → i ≤ last_at e
  fails_ahead (fails-kept h) = omega arith
  fails_ahead (fails-mark h) = omega arith
  fails_ahead (fails-part b may) = omega arith
  fails_ahead (fails-deep {start = i} {n = n} b deep) = first_near n i
  fails_ahead (fails-inside b sh r) = fails_ahead r
  fails_ahead (after-kept h r) = omega (arith, fails_ahead r)
  fails_ahead (after-mark h r) = omega (arith, fails_ahead r)
  fails_ahead (after-any h r) = omega (arith, fails_ahead r)
  fails_ahead (after-none h r) = fails_ahead r
  fails_ahead (after-here r) = fails_ahead r
  fails_ahead (after-part b sh r q) = omega (arith, reads_ahead limit ws r, fails_ahead q)
  fails_ahead (after-skip b may r) = fails_ahead r

  pub fails_local : {d i : ℕ} {s : List Symbol} {e : Fault} → Fails limit ws d s i e
      → ((m : ℕ) → m ≤ last_at e → slice_index_or ws m finish ≡ slice_index_or us m finish) → Fails limit us d s i e
  fails_local (fails-kept {start = i} {any = any} h) same = fails-kept (subst (λ b. one_of any b ≡ false) (same_kind limit ws us i (same i (omega arith))) h)
  fails_local (fails-mark {start = i} {a = a} h) same = fails-mark (subst (λ b. is b a ≡ false) (same_kind limit ws us i (same i (omega arith))) h)
  fails_local (fails-part {start = i} {n = n} b k) same = fails-part (subst (λ b. right_side n b ≡ None) (same_kind limit ws us i (same i (omega arith))) b) k
  fails_local (fails-deep {start = i} {n = n} {right = x} b deep) same = fails-deep (subst (λ b. right_side n b ≡ Some x) (same_kind limit ws us i (same i (first_near n i))) b) deep
  fails_local (fails-inside {start = i} {n = n} {right = x} b sh r) same =
      fails-inside (subst (λ b. right_side n b ≡ Some x) (same_kind limit ws us i (same i (fails_ahead r))) b) sh (fails_local r same)
  fails_local (after-kept {start = i} {any = any} h r) same =
      after-kept (subst (λ b. one_of any b ≡ true) (same_kind limit ws us i (same i (omega (arith, fails_ahead r)))) h) (fails_local r same)
  fails_local (after-mark {start = i} {a = a} h r) same =
      after-mark (subst (λ b. is b a ≡ true) (same_kind limit ws us i (same i (omega (arith, fails_ahead r)))) h) (fails_local r same)
  fails_local (after-any {start = i} {a = a} h r) same =
      after-any (subst (λ b. is b a ≡ true) (same_kind limit ws us i (same i (omega (arith, fails_ahead r)))) h) (fails_local r same)
  fails_local (after-none {start = i} {a = a} h r) same =
      after-none (subst (λ b. is b a ≡ false) (same_kind limit ws us i (same i (fails_ahead r))) h) (fails_local r same)
  fails_local (after-here r) same = after-here (fails_local r same)
  fails_local (after-part {start = i} {n = n} {right = x} b sh r q) same =
      after-part (subst (λ b. right_side n b ≡ Some x) (same_kind limit ws us i (same i (omega (arith, reads_ahead limit ws r, fails_ahead q)))) b) sh
      (reads_local limit ws us r (λ o h. same o (omega (arith, h, fails_ahead q)))) (fails_local q same)
  fails_local (after-skip {start = i} {n = n} b k r) same =
      after-skip (subst (λ b. right_side n b ≡ None) (same_kind limit ws us i (same i (fails_ahead r))) b) k (fails_local r same)

-- With the unexpected token the tokens begin nothing.
pub not_begun : (limit d : ℕ) (ws : List Token) (s : List Symbol) (i k : ℕ) → Fails limit ws d s i (Unexpected k)
    → (us : List Token) → SameBelow (k + 1) ws us → (other : ℕ) (f : Forest) (j : ℕ) → Reads other us d s i f j → ⊥
not_begun limit d ws s i k h us same other f j r =
    let there = fails_local limit ws us h (λ m le. same m (omega (arith, le))) in
    never_both (limit + other) us (reads_more other (limit + other) (omega arith) r) (fails_more limit (limit + other) (omega arith) refl there)
