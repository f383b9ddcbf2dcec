-- Tables of what is known of chains.
use Rattle.std.proofs.Common.{◌≡◌, ◌<◌, ◌≤◌, ◌+◌, ◌⊎◌, inl, inr, ℕ, zero, suc, Bool, true, false, not, List, [], ◌∷◌, Option, Some, None, refl, sym, ap, ◌∙◌, arith, subst, length, replicate}
use Rattle.std.proofs.lemmas.Bool.Decides.{nat_tests}
use Rattle.std.proofs.lemmas.List.{length-replicate, length-set}
use Rattle.std.proofs.lemmas.Option.{slice_get_past}
use Rattle.std.specs.Prelude.{nat_eq, nat_lt, slice_get, slice_set, ◌||◌, ◌&&◌}
use Rattle.sim_scope.specs.Levels.{base, holds, some_level, some_level_of}
use Rattle.sim_scope.specs.Tables.{Tables}
use Rattle.prefix_bind.specs.Cells.{most_cells}
use Rattle.prefix_bind.specs.Prefixes.{breaks_cells, breaks_prefix, breaks_rule, has_broken_chain, has_wrong_prefix, is_in_own_chain, level_cells}
use Rattle.prefix_bind.specs.Sums.{Ends, EndsWith, IsClosed, IsClosedBut, IsSo, IsSoAt, Knows, LeadsBack, Settled, SettledBut, behind, cells_in, inside, is_known, is_known_at, itself, nowhere, outermost}
use Rattle.prefix_bind.specs.declared.sums.Chain.{Chain}
use Rattle.prefix_bind.specs.declared.sums.Chain.TheVariants as chain
use Rattle.prefix_bind.proofs.Ending.{all_cells as cells_counted, at_most, no_base, no_cycle}

equal : (a b : ℕ) → nat_eq a b ≡ true → a ≡ b
equal a b h = grind (arith, nat_tests)

itself_equal : (a : ℕ) → nat_eq a a ≡ true
itself_equal a = go (nat_eq a a) refl
  where
    go : (b : Bool) → nat_eq a a ≡ b → nat_eq a a ≡ true
    go true e = e
    go false e = absurd (grind (arith, nat_tests, e))

not_none : (n : ℕ) → nat_eq (n + 1) 0 ≡ false
not_none n = grind (arith, nat_tests)

or_right : (a b : Bool) → b ≡ true → (a || b) ≡ true
or_right true b e = refl
or_right false b e = e

or_none : (a : Bool) → (a || false) ≡ a
or_none true = refl
or_none false = refl

without : (w o r q : Bool) → o ≡ false → r ≡ q → ((w || o) || r) ≡ (w || q)
without true o r q e f = refl
without false o r q e f = ap (λ z. z || r) e ∙ f

with_own : (w o r : Bool) → o ≡ true → ((w || o) || r) ≡ true
with_own true o r e = refl
with_own false o r e = ap (λ z. z || r) e

never : (a : Bool) → (a && false) ≡ false
never true = refl
never false = refl

-- ---- a row of a table in which one was written

at_set : (P : Option Chain → Type 0) (xs : List Chain) (j k : ℕ) (n : Chain) → P (slice_get xs k) → (k ≡ j → P (Some n)) → P (slice_get (slice_set xs j n) k)
at_set P [] j k n p q = p
at_set P (x ∷ xs) zero zero n p q = q refl
at_set P (x ∷ xs) zero (suc k) n p q = p
at_set P (x ∷ xs) (suc j) zero n p q = p
at_set P (x ∷ xs) (suc j) (suc k) n p q = at_set P xs j k n p (λ e. q (ap suc e))

known_kept : (rows : List Chain) (l k : ℕ) (c : Chain) → is_known c ≡ true → is_known_at (slice_get rows k) ≡ true → is_known_at (slice_get (slice_set rows l c) k) ≡ true
known_kept rows l k c is h = at_set (λ o. is_known_at o ≡ true) rows l k c h (λ e. is)

known_only : (rows : List Chain) (l k : ℕ) (c : Chain) → is_known_at (slice_get (slice_set rows l c) k) ≡ true → (k ≡ l) ⊎ (is_known_at (slice_get rows k) ≡ true)
known_only rows l k c = at_set (λ o. is_known_at o ≡ true → (k ≡ l) ⊎ (is_known_at (slice_get rows k) ≡ true)) rows l k c (λ h. inr h) (λ e h. inl e)

known_there : (rows : List Chain) (l : ℕ) (c : Chain) → l < length rows → is_known c ≡ true → is_known_at (slice_get (slice_set rows l c) l) ≡ true
known_there [] l c le is = absurd (omega (arith, le))
known_there (x ∷ rows) zero c le is = is
known_there (x ∷ rows) (suc l) c le is = known_there rows l c (omega (arith, le)) is

unknown_at : (n k : ℕ) → is_known_at (slice_get (replicate n chain.Unknown) k) ≡ false
unknown_at zero k = refl
unknown_at (suc n) zero = refl
unknown_at (suc n) (suc k) = unknown_at n k

module _ (s : Tables) where
  within : (l p : ℕ) → base s l ≡ Some p → l < length s.blocks
  within l p out = go (nat_lt l (length s.blocks)) refl
    where
      go : (b : Bool) → nat_lt l (length s.blocks) ≡ b → l < length s.blocks
      go true e = grind (arith, nat_tests, e)
      go false e = absurd (let h : base s l ≡ None = no_base s l (grind (arith, nat_tests, e)) in cc)

  -- ---- tables

  pub settled_at : (rows : List Chain) (b : ℕ) (c : Chain) → Settled s rows → slice_get rows b ≡ Some c → IsSo s b c
  unfolding Knows
  settled_at rows b c is at = subst (IsSoAt s b) at (is.knows b)

  pub nothing_so : (b : ℕ) → IsSo s b chain.Unknown
  unfolding IsSo
  nothing_so b = tt

  knows_set : (rows : List Chain) (l : ℕ) (c : Chain) → Knows s rows → IsSo s l c → Knows s (slice_set rows l c)
  unfolding Knows
  knows_set rows l c known so b = at_set (IsSoAt s b) rows l b c (known b) (λ e. subst (λ z. IsSo s z c) (sym e) so)

  closed_set : (rows : List Chain) (l : ℕ) (c : Chain) → IsClosed s rows → is_known c ≡ true → ((p : ℕ) → base s l ≡ Some p → is_known_at (slice_get rows p) ≡ true) → IsClosed s (slice_set rows l c)
  unfolding IsClosed
  closed_set rows l c closed is further b p known out = go (known_only rows l b c known)
    where
      go : (b ≡ l) ⊎ (is_known_at (slice_get rows b) ≡ true) → is_known_at (slice_get (slice_set rows l c) p) ≡ true
      go (inl e) = known_kept rows l p c is (further p (subst (λ z. base s z ≡ Some p) e out))
      go (inr h) = known_kept rows l p c is (closed b p h out)

  settled_set : (rows : List Chain) (l : ℕ) (c : Chain) → Settled s rows → is_known c ≡ true → IsSo s l c → ((p : ℕ) → base s l ≡ Some p → is_known_at (slice_get rows p) ≡ true) → Settled s (slice_set rows l c)
  settled_set rows l c is known so further = record {
    knows = knows_set rows l c is.knows so;
    closed = closed_set rows l c is.closed known further;
    long = length-set rows l c ∙ is.long;
  }

  pub settled_unknown : (n : ℕ) → n ≡ length s.blocks → Settled s (replicate n chain.Unknown)
  unfolding Knows IsClosed IsSo
  settled_unknown n same = record {
    knows = λ b. at b;
    closed = λ b p h out. absurd (let e = unknown_at n b in cc);
    long = length-replicate n chain.Unknown ∙ same;
  }
    where
      rows : (m k b : ℕ) → IsSoAt s b (slice_get (replicate m chain.Unknown) k)
      rows zero k b = tt
      rows (suc m) zero b = tt
      rows (suc m) (suc k) b = rows m k b

      at : (b : ℕ) → IsSoAt s b (slice_get (replicate n chain.Unknown) b)
      at b = rows n b b

  -- the next level of a block is the one whose row is known
  is_next : (rows : List Chain) (l p : ℕ) (c : Chain) → base s l ≡ Some p → slice_get rows p ≡ Some c → is_known c ≡ true → (q : ℕ) → base s l ≡ Some q → is_known_at (slice_get rows q) ≡ true
  is_next rows l p c out at is q also =
      let same : p ≡ q = cc in subst (λ z. is_known_at (slice_get rows z) ≡ true) same (ap is_known_at at ∙ is)

  -- ---- chains that end

  past_wrong : (b : ℕ) → length s.blocks ≤ b → has_wrong_prefix s b ≡ false
  unfolding has_wrong_prefix
  past_wrong b le = ap (λ o. elim o as (λ z. Bool) [ None ↦ false | Some row ↦ breaks_prefix s row row.prefix ]) (slice_get_past s.blocks b le)

  past_own : (b : ℕ) → length s.blocks ≤ b → is_in_own_chain s b ≡ false
  unfolding is_in_own_chain
  past_own b le = ap (holds (λ c. some_level s (λ x. nat_eq x b) c)) (no_base s b le)

  past : (b : ℕ) → length s.blocks ≤ b → breaks_rule s b ≡ false
  past b le = ap (λ z. z || is_in_own_chain s b) (past_wrong b le) ∙ past_own b le

  module _ (t : ℕ → Bool) (no : (b : ℕ) → length s.blocks ≤ b → t b ≡ false) where
    -- one level more changes nothing
    some_more : (m k b v : ℕ) → Ends s k b v → k ≤ m → some_level_of s m t b ≡ some_level_of s (suc m) t b
    unfolding some_level_of
    some_more zero k b v (nowhere le) few = sym (ap (λ x. t b || holds (λ c. some_level_of s 0 t c) x) (no_base s b le) ∙ or_none (t b) ∙ no b le)
    some_more (suc m) k b v (nowhere le) few =
        ap (λ x. t b || holds (λ c. some_level_of s m t c) x) (no_base s b le) ∙ sym (ap (λ x. t b || holds (λ c. some_level_of s (suc m) t c) x) (no_base s b le))
    some_more zero k b v (outermost le out) few = absurd (omega (arith, few))
    some_more (suc m) k b v (outermost le out) few =
        ap (λ x. t b || holds (λ c. some_level_of s m t c) x) out ∙ sym (ap (λ x. t b || holds (λ c. some_level_of s (suc m) t c) x) out)
    some_more zero k b v (inside le out ends) few = absurd (omega (arith, few))
    some_more (suc m) k b v (inside {n = n} {p = p} {cells = x} le out ends) few =
        ap (λ x. t b || holds (λ c. some_level_of s m t c) x) out
        ∙ ap (λ z. t b || z) (some_more m n p x ends (omega (arith, few)))
        ∙ sym (ap (λ x. t b || holds (λ c. some_level_of s (suc m) t c) x) out)

    rest_same : (m k b v : ℕ) → Ends s k b v → k ≤ m → holds (λ c. some_level_of s m t c) (base s b) ≡ holds (λ c. some_level_of s (suc m) t c) (base s b)
    rest_same m k b v (nowhere le) few = ap (holds (λ c. some_level_of s m t c)) (no_base s b le) ∙ sym (ap (holds (λ c. some_level_of s (suc m) t c)) (no_base s b le))
    rest_same m k b v (outermost le out) few = ap (holds (λ c. some_level_of s m t c)) out ∙ sym (ap (holds (λ c. some_level_of s (suc m) t c)) out)
    rest_same m k b v (inside {n = n} {p = p} {cells = x} le out ends) few =
        ap (holds (λ c. some_level_of s m t c)) out ∙ some_more m n p x ends (omega (arith, few)) ∙ sym (ap (holds (λ c. some_level_of s (suc m) t c)) out)

    level_first : (n k b v : ℕ) → Ends s k b v → k < n → some_level_of s n t b ≡ (t b || holds (λ c. some_level_of s n t c) (base s b))
    unfolding some_level_of
    level_first zero k b v ends less = absurd (omega (arith, less))
    level_first (suc m) k b v ends less = ap (λ z. t b || z) (rest_same m k b v ends (omega (arith, less)))

  pub set_outermost : (rows : List Chain) (l cells : ℕ) (broken : Bool) → Settled s rows → base s l ≡ None → l < length s.blocks → cells ≡ cells_in s l → broken ≡ has_wrong_prefix s l → Settled s (slice_set rows l (chain.Ends cells broken))
  unfolding IsSo
  set_outermost rows l cells broken is out le count wrong =
      settled_set rows l (chain.Ends cells broken) is refl (ends, breaks) (λ p also. absurd (cc))
    where
      ends : EndsWith s l cells
      ends = subst (EndsWith s l) (sym count) (1, outermost le out)

      breaks : has_broken_chain s l ≡ broken
      breaks =
          without (has_wrong_prefix s l) (is_in_own_chain s l) _ false (no_cycle s l cells ends) (ap (holds (λ b. some_level s (breaks_rule s) b)) out)
          ∙ or_none (has_wrong_prefix s l) ∙ sym wrong

  pub set_longer : (rows : List Chain) (l p others cells : ℕ) (br broken : Bool) → Settled s rows → base s l ≡ Some p → slice_get rows p ≡ Some (chain.Ends others br) → cells ≡ cells_in s l + others → broken ≡ (has_wrong_prefix s l || br)
      → Settled s (slice_set rows l (chain.Ends cells broken))
  unfolding IsSo
  set_longer rows l p others cells br broken is out at count wrong =
      settled_set rows l (chain.Ends cells broken) is refl (ends, breaks) (is_next rows l p (chain.Ends others br) out at refl)
    where
      so : EndsWith s p others × (has_broken_chain s p ≡ br)
      so = settled_at rows p (chain.Ends others br) is at

      whole : Ends s (suc so.0.0) l (cells_in s l + others)
      whole = inside (within l p out) out so.0.1

      ends : EndsWith s l cells
      ends = subst (EndsWith s l) (sym count) (suc so.0.0, whole)

      few : so.0.0 < length s.blocks
      few = let le = at_most s (suc so.0.0) l (cells_in s l + others) whole in omega (arith, le)

      breaks : has_broken_chain s l ≡ broken
      breaks =
          without (has_wrong_prefix s l) (is_in_own_chain s l) _ br (no_cycle s l cells ends)
          (ap (holds (λ b. some_level s (breaks_rule s) b)) out ∙ level_first (breaks_rule s) past (length s.blocks) so.0.0 p others so.0.1 few ∙ so.1)
          ∙ sym wrong

  -- ---- chains that lead into a cycle

  -- what is not known is no level of what is known
  unreached : (rows : List Chain) (l : ℕ) → IsClosed s rows → is_known_at (slice_get rows l) ≡ false → (m p : ℕ) → is_known_at (slice_get rows p) ≡ true → some_level_of s m (λ c. nat_eq c l) p ≡ false
  unfolding some_level_of IsClosed
  unreached rows l closed fresh zero p known = refl
  unreached rows l closed fresh (suc m) p known = go (λ q h. unreached rows l closed fresh m q h) (nat_eq p l) refl (base s p) refl
    where
      go : ((q : ℕ) → is_known_at (slice_get rows q) ≡ true → some_level_of s m (λ c. nat_eq c l) q ≡ false) → (b : Bool) → nat_eq p l ≡ b → (o : Option ℕ) → base s p ≡ o
          → (b || holds (λ c. some_level_of s m (λ x. nat_eq x l) c) o) ≡ false
      go deep true e o out = absurd (let h = subst (λ z. is_known_at (slice_get rows z) ≡ true) (equal p l e) known in cc)
      go deep false e None out = refl
      go deep false e (Some q) out = deep q (closed p q known out)

  pub set_further : (rows : List Chain) (l p levels : ℕ) → Settled s rows → base s l ≡ Some p → slice_get rows p ≡ Some (chain.Cyclic levels) → is_known_at (slice_get rows l) ≡ false → levels < length s.blocks
      → Settled s (slice_set rows l (chain.Cyclic (levels + 1)))
  unfolding IsSo is_in_own_chain
  set_further rows l p levels is out at fresh less =
      settled_set rows l (chain.Cyclic (levels + 1)) is refl (leads, omega (arith, less), own) (is_next rows l p (chain.Cyclic levels) out at refl)
    where
      so : LeadsBack s levels p × (levels ≤ length s.blocks) × (is_in_own_chain s p ≡ nat_eq levels 0)
      so = settled_at rows p (chain.Cyclic levels) is at

      longer : suc levels ≡ levels + 1
      longer = omega arith

      leads : LeadsBack s (levels + 1) l
      leads = subst (λ z. LeadsBack s z l) longer (behind out so.0)

      own : is_in_own_chain s l ≡ nat_eq (levels + 1) 0
      own =
          ap (holds (λ b. some_level s (λ c. nat_eq c l) b)) out
          ∙ unreached rows l is.closed fresh (length s.blocks) p (is_next rows l p (chain.Cyclic levels) out at refl p out)
          ∙ sym (not_none levels)

  -- the next level of a class in its own chain is one too
  carried : (m x c d : ℕ) → some_level_of s m (λ b. nat_eq b c) x ≡ true → base s c ≡ Some d → holds (λ b. some_level_of s m (λ b. nat_eq b d) b) (base s x) ≡ true
  unfolding some_level_of
  carried zero x c d h out = absurd (cc)
  carried (suc m) x c d h out = go (λ y h. carried m y c d h out) (nat_eq x c) refl (base s x) refl h
    where
      go : ((y : ℕ) → some_level_of s m (λ b. nat_eq b c) y ≡ true → holds (λ b. some_level_of s m (λ b. nat_eq b d) b) (base s y) ≡ true) → (t : Bool) → nat_eq x c ≡ t → (o : Option ℕ) → base s x ≡ o
          → (t || holds (λ b. some_level_of s m (λ b. nat_eq b c) b) o) ≡ true → holds (λ b. some_level_of s (suc m) (λ b. nat_eq b d) b) o ≡ true
      go deep true e o at h =
          let same : o ≡ Some d = sym at ∙ ap (base s) (equal x c e) ∙ out in
          ap (holds (λ b. some_level_of s (suc m) (λ b. nat_eq b d) b)) same ∙ ap (λ z. z || holds (λ b. some_level_of s m (λ b. nat_eq b d) b) (base s d)) (itself_equal d)
      go deep false e None at h = absurd (cc)
      go deep false e (Some y) at h = or_right (nat_eq y d) _ (deep y h)

  own_next : (c d : ℕ) → is_in_own_chain s c ≡ true → base s c ≡ Some d → is_in_own_chain s d ≡ true
  unfolding is_in_own_chain
  own_next c d own out = carried (length s.blocks) d c d (sym (ap (holds (λ b. some_level s (λ x. nat_eq x c) b)) out) ∙ own) out

  pub cycle_first : (rows : List Chain) (b : ℕ) → Settled s rows → is_in_own_chain s b ≡ true → SettledBut s rows b
  unfolding IsClosed IsClosedBut
  cycle_first rows b is own = record { knows = is.knows; closed = λ c p known out. inl (is.closed c p known out); long = is.long; own = own }

  pub cycle_known : (rows : List Chain) (l : ℕ) (k : Bool) → SettledBut s rows l → k ≡ is_known_at (slice_get rows l) → k ≡ true → Settled s rows
  unfolding IsClosed IsClosedBut
  cycle_known rows l k is same true_so = record {
    knows = is.knows;
    closed = λ c p known out. back p (is.closed c p known out);
    long = is.long;
  }
    where
      back : (p : ℕ) → (is_known_at (slice_get rows p) ≡ true) ⊎ (p ≡ l) → is_known_at (slice_get rows p) ≡ true
      back p (inl h) = h
      back p (inr e) = subst (λ z. is_known_at (slice_get rows z) ≡ true) (sym e) (sym same ∙ true_so)

  pub cycle_next : (rows : List Chain) (l p : ℕ) → SettledBut s rows l → base s l ≡ Some p → SettledBut s (slice_set rows l (chain.Cyclic 0)) p
  unfolding IsClosedBut IsSo
  cycle_next rows l p is out = record {
    knows = knows_set rows l (chain.Cyclic 0) is.knows so;
    closed = λ c q known at. further c q at (known_only rows l c (chain.Cyclic 0) known);
    long = length-set rows l (chain.Cyclic 0) ∙ is.long;
    own = own_next l p is.own out;
  }
    where
      so : IsSo s l (chain.Cyclic 0)
      so = (itself is.own, omega arith, is.own)

      here : is_known_at (slice_get (slice_set rows l (chain.Cyclic 0)) l) ≡ true
      here = known_there rows l (chain.Cyclic 0) (let le = within l p out in let same = is.long in omega (arith, le, same)) refl

      kept : (q : ℕ) → (is_known_at (slice_get rows q) ≡ true) ⊎ (q ≡ l) → (is_known_at (slice_get (slice_set rows l (chain.Cyclic 0)) q) ≡ true) ⊎ (q ≡ p)
      kept q (inl h) = inl (known_kept rows l q (chain.Cyclic 0) refl h)
      kept q (inr e) = inl (subst (λ z. is_known_at (slice_get (slice_set rows l (chain.Cyclic 0)) z) ≡ true) (sym e) here)

      further : (c q : ℕ) → base s c ≡ Some q → (c ≡ l) ⊎ (is_known_at (slice_get rows c) ≡ true) → (is_known_at (slice_get (slice_set rows l (chain.Cyclic 0)) q) ≡ true) ⊎ (q ≡ p)
      further c q at (inl e) = inr (let also : base s l ≡ Some q = subst (λ z. base s z ≡ Some q) e at in cc)
      further c q at (inr h) = kept q (is.closed c q h at)

  -- its chain is broken
  reached : (m k b : ℕ) → LeadsBack s k b → k < m → some_level_of s m (breaks_rule s) b ≡ true
  unfolding some_level_of
  reached zero k b leads less = absurd (omega (arith, less))
  reached (suc m) k b (itself own) less = with_own (has_wrong_prefix s b) (is_in_own_chain s b) _ own
  reached (suc m) k b (behind {n = n} {p = p} out leads) less =
      or_right (breaks_rule s b) _ (ap (holds (λ c. some_level_of s m (breaks_rule s) c)) out ∙ reached m n p leads (omega (arith, less)))

  leads_broken : (k b : ℕ) → LeadsBack s k b → k ≤ length s.blocks → has_broken_chain s b ≡ true
  leads_broken k b (itself own) le = with_own (has_wrong_prefix s b) (is_in_own_chain s b) _ own
  leads_broken k b (behind {n = n} {p = p} out leads) le =
      or_right (breaks_rule s b) _ (ap (holds (λ c. some_level s (breaks_rule s) c)) out ∙ reached (length s.blocks) n p leads (omega (arith, le)))

  -- ---- what is read off a row

  pub ends_own : (b v : ℕ) (broken : Bool) (c : Chain) → IsSo s b c → c ≡ chain.Ends v broken → is_in_own_chain s b ≡ false
  unfolding IsSo
  ends_own b v broken c so is = go (subst (IsSo s b) is so)
    where
      go : EndsWith s b v × (has_broken_chain s b ≡ broken) → is_in_own_chain s b ≡ false
      go x = no_cycle s b v x.0

  pub cyclic_own : (b levels : ℕ) (c : Chain) → IsSo s b c → c ≡ chain.Cyclic levels → is_in_own_chain s b ≡ nat_eq levels 0
  unfolding IsSo
  cyclic_own b levels c so is = go (subst (IsSo s b) is so)
    where
      go : LeadsBack s levels b × (levels ≤ length s.blocks) × (is_in_own_chain s b ≡ nat_eq levels 0) → is_in_own_chain s b ≡ nat_eq levels 0
      go x = x.2

  pub ends_cells : (b v : ℕ) (broken : Bool) (c : Chain) → IsSo s b c → c ≡ chain.Ends v broken → breaks_cells s b ≡ (nat_lt most_cells v && not broken)
  unfolding IsSo
  ends_cells b v broken c so is = go (subst (IsSo s b) is so)
    where
      go : EndsWith s b v × (has_broken_chain s b ≡ broken) → breaks_cells s b ≡ (nat_lt most_cells v && not broken)
      go x = ap (λ z. nat_lt most_cells z && not (has_broken_chain s b)) (cells_counted s b v x.0) ∙ ap (λ z. nat_lt most_cells v && not z) x.1

  pub cyclic_cells : (b levels : ℕ) (c : Chain) → IsSo s b c → c ≡ chain.Cyclic levels → breaks_cells s b ≡ false
  unfolding IsSo
  cyclic_cells b levels c so is = go (subst (IsSo s b) is so)
    where
      go : LeadsBack s levels b × (levels ≤ length s.blocks) × (is_in_own_chain s b ≡ nat_eq levels 0) → breaks_cells s b ≡ false
      go x = ap (λ z. nat_lt most_cells (level_cells s b) && not z) (leads_broken levels b x.0 x.1) ∙ never (nat_lt most_cells (level_cells s b))

pub ruleset endings = (settled_at, nothing_so)

pub ruleset settles = (set_outermost, set_longer, set_further)

pub ruleset cycles = (cycle_first, cycle_known, cycle_next)

pub ruleset tables = (settled_unknown)

pub ruleset own_chains = (ends_own, cyclic_own)

pub ruleset cell_rules = (ends_cells, cyclic_cells)
