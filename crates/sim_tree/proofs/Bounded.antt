-- What the grammar gives nests no deeper than its limit.
use Rattle.std.proofs.Common.{◌≡◌, ℕ, ◌+◌, ◌≤◌, ◌<◌, Bool, true, false, if◌then◌else◌, List, ◌∷◌, Some, refl, sym, ap, ◌∙◌, arith}
use Rattle.std.proofs.Common.{◌⊎◌, inl, inr}
use Rattle.std.proofs.lemmas.Bool.{false≢true}
use Rattle.std.proofs.lemmas.Bool.Decides.{leb_tells}
use Rattle.std.specs.Prelude.{nat_le, ◌&&◌, ◌||◌, not}
use Rattle.sim_base.specs.declared.token.Token.{Token}
use Rattle.sim_tree.specs.Grammar as g
use Rattle.sim_tree.specs.Grammar.{Part, Once, Maybe, Many, Symbol, Kept, Mark, Any, Here, Of, rows, right_side, is_counted}
use Rattle.sim_tree.specs.Reading.{Forest, kind_at, is_empty, inside_depth, is_too_deep, Reads, reads-done, reads-kept, reads-mark, reads-any, reads-none, reads-here, reads-part, reads-skip, Fails, TooDeep}
use Rattle.sim_tree.specs.Claim.{SameBelow}
use Rattle.sim_tree.specs.Tree.{is_bare, deepest}
use Rattle.sim_tree.proofs.Completion.{row_get}
use Rattle.sim_tree.proofs.Follow.{each_row}
use Rattle.sim_tree.proofs.Laws.{never_both, fails_local}
use Rattle.sim_tree.proofs.Prefix.{leb_no}
use native.Mathlib.Decide.{dec_lt}

module _ {most : ℕ} {ws : List Token} where
  -- where no token is taken, none is in the derivation
  bare : {d i j : ℕ} {s : List Symbol} {f : Forest} → is_empty s ≡ true → Reads most ws d s i f j → (is_bare f ≡ true) × (deepest f ≡ 0)
  bare e reads-done = (refl, refl)
  bare e (reads-kept h r) = absurd (false≢true e)
  bare e (reads-mark h r) = absurd (false≢true e)
  bare e (reads-any h r) = absurd (false≢true e)
  bare e (reads-none h r) = absurd (false≢true e)
  bare e (reads-here r) = bare e r
  bare e (reads-part b sh r q) = absurd (false≢true e)
  bare e (reads-skip b k r) = absurd (false≢true e)

-- a part, by whether it counts and whether it has a token
part_deep : (most d x : ℕ) (counts is_bare is_empty : Bool) → (counts && nat_le most d && not is_empty) ≡ false → (is_empty ≡ true → (is_bare ≡ true) × (x ≡ 0))
    → ((if counts then d + 1 else d) ≤ most → (if counts then d + 1 else d) + x ≤ most) → d ≤ most → d + (if counts && not is_bare then x + 1 else x) ≤ most
part_deep most d x false b e sh empty inner le = inner le
part_deep most d x true b e sh empty inner le = go (leb_tells most d)
  where
    either : (b : Bool) → d + 1 + x ≤ most → d + (if not b then x + 1 else x) ≤ most
    either true h = omega arith
    either false h = omega arith

    at_most : (e : Bool) → not e ≡ false → e ≡ true
    at_most true h = refl
    at_most false h = absurd (false≢true (sym h))

    none : (b : Bool) → b ≡ true → x ≡ 0 → d + (if not b then x + 1 else x) ≤ most
    none true h z = omega arith
    none false h z = absurd (false≢true h)

    go : ((nat_le most d ≡ true) × (most ≤ d)) ⊎ ((nat_le most d ≡ false) × (d < most)) → d + (if not b then x + 1 else x) ≤ most
    go (inl w) = let o = empty (at_most e (sym (ap (λ z. z && not e) w.0) ∙ sh)) in none b o.0 o.1
    go (inr w) = either b (inner (omega (arith, w.1)))

pub bounded : {most : ℕ} {ws : List Token} {d i j : ℕ} {s : List Symbol} {f : Forest} → d ≤ most → Reads most ws d s i f j → d + deepest f ≤ most
bounded le reads-done = omega arith
bounded le (reads-kept h r) = bounded le r
bounded le (reads-mark h r) = bounded le r
bounded le (reads-any h r) = bounded le r
bounded le (reads-none h r) = bounded le r
bounded le (reads-here r) = bounded le r
bounded {most} {d = d} le (reads-part {n = n} {right = right} {f = f} b sh r q) =
    let p = part_deep most d (deepest f) (is_counted n) (is_bare f) (is_empty right) sh (λ e. bare e r) (λ l. bounded l r) le in
    omega (arith, p, bounded le q)
bounded le (reads-skip b k r) = bounded le r

-- Where a part counts, its derivation has a token, unless it takes none.
abbrev solid : List Symbol → Bool
solid (Kept any ∷ s) = true
solid (Of Once n ∷ s) = true
solid (Of Maybe n ∷ s) = solid s
solid (Of Many n ∷ s) = solid s
solid _ = false

rows_solid : (n : Part) → (not (is_counted n) || each_row (rows n) (λ r. is_empty r || solid r)) ≡ true
rows_solid g.Expression = refl
rows_solid _ = refl

module _ {most : ℕ} {ws : List Token} where
  not_bare : {d i j : ℕ} {s : List Symbol} {f : Forest} → solid s ≡ true → Reads most ws d s i f j → is_bare f ≡ false
  not_bare e reads-done = absurd (false≢true e)
  not_bare e (reads-kept h r) = refl
  not_bare e (reads-mark h r) = absurd (false≢true e)
  not_bare e (reads-any h r) = absurd (false≢true e)
  not_bare e (reads-none h r) = absurd (false≢true e)
  not_bare e (reads-here r) = absurd (false≢true e)
  not_bare e (reads-part b sh r q) = refl
  not_bare e (reads-skip {t = Once} b may r) = absurd (false≢true may)
  not_bare e (reads-skip {t = Maybe} b may r) = not_bare e r
  not_bare e (reads-skip {t = Many} b may r) = not_bare e r

  -- symbols that take no token are read at any limit and depth
  empty_reads : (other : ℕ) {d i j : ℕ} {s : List Symbol} {f : Forest} → is_empty s ≡ true → Reads most ws d s i f j → Reads other ws d s i f j
  empty_reads other e reads-done = reads-done
  empty_reads other e (reads-kept h r) = absurd (false≢true e)
  empty_reads other e (reads-mark h r) = absurd (false≢true e)
  empty_reads other e (reads-any h r) = absurd (false≢true e)
  empty_reads other e (reads-none h r) = absurd (false≢true e)
  empty_reads other e (reads-here r) = reads-here (empty_reads other e r)
  empty_reads other e (reads-part b sh r q) = absurd (false≢true e)
  empty_reads other e (reads-skip b k r) = absurd (false≢true e)

part_solid : (ws : List Token) (n : Part) (i : ℕ) (right : List Symbol) → right_side n (kind_at ws i) ≡ Some right → is_counted n ≡ true → is_empty right ≡ false → solid right ≡ true
unfolding right_side
part_solid ws n i right b c e =
    sym (ap (λ z. z || solid right) e) ∙ row_get (rows n) (λ r. is_empty r || solid r) (kind_at ws i) right
    (sym (ap (λ z. not z || each_row (rows n) (λ r. is_empty r || solid r)) c) ∙ rows_solid n) b

shallow_empty : (most d : ℕ) (counts : Bool) (e : Bool) → e ≡ true → (counts && nat_le most d && not e) ≡ false
shallow_empty most d counts true h = go counts (nat_le most d)
  where
    go : (a b : Bool) → (a && b && false) ≡ false
    go true true = refl
    go true false = refl
    go false b = refl
shallow_empty most d counts false h = absurd (false≢true h)

shallow_below : (most d : ℕ) (e : Bool) → d < most → (nat_le most d && not e) ≡ false
shallow_below most d e h = ap (λ z. z && not e) (leb_no most d h)

-- What nests no deeper than a limit is read with that limit.
pub within : {other most : ℕ} {ws : List Token} {d i j : ℕ} {s : List Symbol} {f : Forest} → Reads other ws d s i f j → d + deepest f ≤ most → Reads most ws d s i f j
within reads-done le = reads-done
within (reads-kept h r) le = reads-kept h (within r le)
within (reads-mark h r) le = reads-mark h (within r le)
within (reads-any h r) le = reads-any h (within r le)
within (reads-none h r) le = reads-none h (within r le)
within (reads-here r) le = reads-here (within r le)
within {other = other} {most = most} {ws = ws} (reads-part {depth = d} {start = i} {m = m} {n = n} {right = right} {f = f} {g = g} b sh r q) le =
    let there = counted (is_counted n) refl (is_empty right) refl (λ l. within r l) in
    reads-part b there.0 there.1 (within q (omega (arith, le)))
  where
    counted : (c : Bool) → is_counted n ≡ c → (e : Bool) → is_empty right ≡ e → (inside_depth n d + deepest f ≤ most → Reads most ws (inside_depth n d) right i f m)
        → (is_too_deep most n d right ≡ false) × Reads most ws (inside_depth n d) right i f m
    counted false c e x inner = (
      ap (λ z. z && nat_le most d && not (is_empty right)) c,
      inner (let p : d + (if is_counted n && not (is_bare f) then deepest f + 1 else deepest f) ≤ most = omega (arith, le) in
          let same = ap (λ z. d + (if z && not (is_bare f) then deepest f + 1 else deepest f)) c in
          let inside = ap (λ z. (if z then d + 1 else d) + deepest f) c in omega (arith, p, same, inside)),
    )
    counted true c true x inner = (shallow_empty most d (is_counted n) (is_empty right) x, empty_reads most x r)
    counted true c false x inner =
        let bare = not_bare (part_solid ws n i right b c x) r in
        let p : d + (if is_counted n && not (is_bare f) then deepest f + 1 else deepest f) ≤ most = omega (arith, le) in
        let same = ap (λ z. d + (if z && not (is_bare f) then deepest f + 1 else deepest f)) c ∙ ap (λ z. d + (if not z then deepest f + 1 else deepest f)) bare in
        let inside = ap (λ z. (if z then d + 1 else d) + deepest f) c in
        (ap (λ z. z && nat_le most d && not (is_empty right)) c ∙ shallow_below most d (is_empty right) (omega (arith, p, same)), inner (omega (arith, p, same, inside)))
within (reads-skip b k r) le = reads-skip b k (within r le)

-- With a token that nests too deeply, all that goes on nests too deeply.
pub too_deep : (most d : ℕ) (ws : List Token) (s : List Symbol) (i k : ℕ) → Fails most ws d s i (TooDeep k) → (us : List Token) → SameBelow (k + 2) ws us
    → (other : ℕ) (f : Forest) (j : ℕ) → Reads other us d s i f j → most < d + deepest f
too_deep most d ws s i k h us same other f j r = go (dec_lt most (d + deepest f))
  where
    go : Dec (most < d + deepest f) → most < d + deepest f
    go (yes l) = l
    go (no n) = absurd (never_both most us (within r (omega (arith, n))) (fails_local most ws us h (λ m le. same m (omega (arith, le)))))
