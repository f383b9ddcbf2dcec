-- The tokens before a fault can be gone on with.
use Rattle.std.proofs.Common.{◌≡◌, ℕ, ◌+◌, ◌-◌, ◌≤◌, ◌<◌, Bool, true, false, if◌then◌else◌, List, [], ◌∷◌, ◌++◌, Some, None, refl, subst, ap, ◌∙◌, arith}
use Rattle.std.proofs.Common.{◌⊎◌, inl, inr}
use Rattle.std.proofs.lemmas.Bool.Decides.{leb_tells}
use Rattle.std.specs.Prelude.{slice_index_or, nat_le, ◌&&◌, not}
use native.Mathlib.Decide.{dec_lt}
use Rattle.sim_base.specs.declared.token.Token.{Token}
use Rattle.sim_base.specs.declared.token.TokenKind.{TokenKind}
use Rattle.sim_tree.specs.Grammar.{Part, Times, Once, Maybe, Many, Symbol, Kept, Mark, Any, Here, Of, is, one_of, right_side, is_counted, is_begun}
use Rattle.sim_tree.specs.Reading.{Forest, done, leaf, place, node, finish, kind_at, after, may_skip, is_empty, inside_depth, is_too_deep, first_of, Reads, reads-done, reads-kept, reads-mark, reads-any, reads-none, reads-here, reads-part, reads-skip, Fails, fails-kept, fails-mark, fails-part, fails-deep, fails-inside, after-kept, after-mark, after-any, after-none, after-here, after-part, after-skip, Fault, value_at}
use Rattle.sim_tree.specs.Claim.{SameBelow}
use Rattle.sim_tree.proofs.Laws.{same_kind, reads_local, reads_ahead, fault_at}

pub leb_no : (a b : ℕ) → b < a → nat_le a b ≡ false
leb_no a b h = go (leb_tells a b)
  where
    go : ((nat_le a b ≡ true) × (a ≤ b)) ⊎ ((nat_le a b ≡ false) × (b < a)) → nat_le a b ≡ false
    go (inl w) = absurd (omega (arith, w.1, h))
    go (inr w) = w.0

-- a reading at every depth, where the limit is high enough
pub record Free (us : List Token) (s : List Symbol) (i : ℕ) (f : Forest) (j : ℕ) : Type 0 where
  pub by : (d : ℕ) → (least : ℕ) × ((limit : ℕ) → least ≤ limit → Reads limit us d s i f j)

high_enough : (limit d : ℕ) (n : Part) (right : List Symbol) → d < limit → is_too_deep limit n d right ≡ false
high_enough limit d n right h = go (is_counted n) (not (is_empty right))
  where
    go : (a b : Bool) → (a && nat_le limit d && b) ≡ false
    go false b = refl
    go true b = ap (λ z. z && b) (leb_no limit d h)

module _ {us : List Token} where
  pub free-done : {i : ℕ} → Free us [] i done i
  free-done = record { by = λ d. (0, λ limit le. reads-done) }

  pub free-kept : {i j : ℕ} {any : List TokenKind} {s : List Symbol} {f : Forest} → one_of any (kind_at us i) ≡ true → Free us s (i + 1) f j → Free us (Kept any ∷ s) i (leaf i (kind_at us i) (value_at us i) f) j
  free-kept h r = record { by = λ d. let p = r.by d in (p.0, λ limit le. reads-kept h (p.1 limit le)) }

  pub free-mark : {i j : ℕ} {a : TokenKind} {s : List Symbol} {f : Forest} → is (kind_at us i) a ≡ true → Free us s (i + 1) f j → Free us (Mark a ∷ s) i f j
  free-mark h r = record { by = λ d. let p = r.by d in (p.0, λ limit le. reads-mark h (p.1 limit le)) }

  pub free-any : {i j : ℕ} {a : TokenKind} {s : List Symbol} {f : Forest} → is (kind_at us i) a ≡ true → Free us (Any a ∷ s) (i + 1) f j → Free us (Any a ∷ s) i f j
  free-any h r = record { by = λ d. let p = r.by d in (p.0, λ limit le. reads-any h (p.1 limit le)) }

  pub free-none : {i j : ℕ} {a : TokenKind} {s : List Symbol} {f : Forest} → is (kind_at us i) a ≡ false → Free us s i f j → Free us (Any a ∷ s) i f j
  free-none h r = record { by = λ d. let p = r.by d in (p.0, λ limit le. reads-none h (p.1 limit le)) }

  pub free-here : {i j : ℕ} {s : List Symbol} {f : Forest} → Free us s i f j → Free us (Here ∷ s) i (place i f) j
  free-here r = record { by = λ d. let p = r.by d in (p.0, λ limit le. reads-here (p.1 limit le)) }

  pub free-skip : {i j : ℕ} {t : Times} {n : Part} {s : List Symbol} {f : Forest} → right_side n (kind_at us i) ≡ None → may_skip t ≡ true → Free us s i f j → Free us (Of t n ∷ s) i f j
  free-skip b k r = record { by = λ d. let p = r.by d in (p.0, λ limit le. reads-skip b k (p.1 limit le)) }

  pub free-part : {i m j : ℕ} {t : Times} {n : Part} {right s : List Symbol} {f g : Forest} → right_side n (kind_at us i) ≡ Some right
      → Free us right i f m → Free us (after t n s) m g j → Free us (Of t n ∷ s) i (node n f g) j
  free-part {n = n} {right = right} b r q = record {
    by = λ d.
        let p = r.by (inside_depth n d) in
        let o = q.by d in
        (p.0 + o.0 + d + 1, λ limit le. reads-part b (high_enough limit d n right (omega (arith, le))) (p.1 limit (omega (arith, le))) (o.1 limit (omega (arith, le))));
  }

  pub free_reading : {limit d i : ℕ} {s : List Symbol} {f : Forest} {j : ℕ} → Reads limit us d s i f j → Free us s i f j
  free_reading reads-done = free-done
  free_reading (reads-kept h r) = free-kept h (free_reading r)
  free_reading (reads-mark h r) = free-mark h (free_reading r)
  free_reading (reads-any h r) = free-any h (free_reading r)
  free_reading (reads-none h r) = free-none h (free_reading r)
  free_reading (reads-here r) = free-here (free_reading r)
  free_reading (reads-part b sh r q) = free-part b (free_reading r) (free_reading q)
  free_reading (reads-skip b k r) = free-skip b k (free_reading r)

after-append : (t : Times) (n : Part) (a b : List Symbol) → after t n (a ++ b) ≡ after t n a ++ b
after-append Once n a b = refl
after-append Maybe n a b = refl
after-append Many n a b = refl

heads : {x y : Symbol} {s a : List Symbol} → x ∷ s ≡ y ∷ a → x ≡ y
heads e = cc

tails : {x y : Symbol} {s a : List Symbol} → x ∷ s ≡ y ∷ a → s ≡ a
tails e = cc

not_empty : {x : Symbol} {a : List Symbol} → [] ≡ x ∷ a → ⊥
not_empty e = cc

-- read, with some derivation
abbrev pub FreeTo : List Token → List Symbol → ℕ → ℕ → Type 0
FreeTo us s i j = (f : Forest) × Free us s i f j

-- a sequence in two pieces
record Pieces (us : List Token) (a b : List Symbol) (i j : ℕ) : Type 0 where
  middle : ℕ
  first : FreeTo us a i middle
  second : FreeTo us b middle j

module _ {us : List Token} where
  whole : {limit d i : ℕ} {s : List Symbol} {f : Forest} {j : ℕ} (b : List Symbol) → Reads limit us d s i f j → s ≡ [] ++ b → Pieces us [] b i j
  whole {i = i} {f = f} {j = j} b r e = record { middle = i; first = (done, free-done); second = (f, subst (λ z. Free us z i f j) e (free_reading r)) }

  pieces : {limit d i : ℕ} {s : List Symbol} {f : Forest} {j : ℕ} → Reads limit us d s i f j → (a b : List Symbol) → s ≡ a ++ b → Pieces us a b i j
  pieces reads-done [] b e = whole {limit = 0} {d = 0} b reads-done e
  pieces reads-done (x ∷ a) b e = absurd (not_empty e)
  pieces (reads-kept h r) [] b e = whole b (reads-kept h r) e
  pieces (reads-kept {start = i} h r) (x ∷ a) b e =
      let p = pieces r a b (tails e) in
      record { middle = p.middle; first = subst (λ z. FreeTo us (z ∷ a) i p.middle) (heads e) (_, free-kept h p.first.1); second = p.second }
  pieces (reads-mark h r) [] b e = whole b (reads-mark h r) e
  pieces (reads-mark {start = i} h r) (x ∷ a) b e =
      let p = pieces r a b (tails e) in
      record { middle = p.middle; first = (p.first.0, subst (λ z. Free us (z ∷ a) i p.first.0 p.middle) (heads e) (free-mark h p.first.1)); second = p.second }
  pieces (reads-any h r) [] b e = whole b (reads-any h r) e
  pieces (reads-any {start = i} {a = w} h r) (x ∷ a) b e =
      let p = pieces r (Any w ∷ a) b (ap (λ z. Any w ∷ z) (tails e)) in
      record { middle = p.middle; first = (p.first.0, subst (λ z. Free us (z ∷ a) i p.first.0 p.middle) (heads e) (free-any h p.first.1)); second = p.second }
  pieces (reads-none h r) [] b e = whole b (reads-none h r) e
  pieces (reads-none {start = i} h r) (x ∷ a) b e =
      let p = pieces r a b (tails e) in
      record { middle = p.middle; first = (p.first.0, subst (λ z. Free us (z ∷ a) i p.first.0 p.middle) (heads e) (free-none h p.first.1)); second = p.second }
  pieces (reads-here r) [] b e = whole b (reads-here r) e
  pieces (reads-here {start = i} r) (x ∷ a) b e =
      let p = pieces r a b (tails e) in
      record { middle = p.middle; first = (place i p.first.0, subst (λ z. Free us (z ∷ a) i (place i p.first.0) p.middle) (heads e) (free-here p.first.1)); second = p.second }
  pieces (reads-part c sh r q) [] b e = whole b (reads-part c sh r q) e
  pieces (reads-part {start = i} {t = t} {n = n} {s = s} {f = f} c sh r q) (x ∷ a) b e =
      let p = pieces q (after t n a) b (ap (after t n) (tails e) ∙ after-append t n a b) in
      record { middle = p.middle; first = (node n f p.first.0, subst (λ z. Free us (z ∷ a) i (node n f p.first.0) p.middle) (heads e) (free-part c (free_reading r) p.first.1)); second = p.second }
  pieces (reads-skip c may r) [] b e = whole b (reads-skip c may r) e
  pieces (reads-skip {start = i} c may r) (x ∷ a) b e =
      let p = pieces r a b (tails e) in
      record { middle = p.middle; first = (p.first.0, subst (λ z. Free us (z ∷ a) i p.first.0 p.middle) (heads e) (free-skip c may p.first.1)); second = p.second }

  cut : {i j : ℕ} {s : List Symbol} (a b : List Symbol) → s ≡ a ++ b → FreeTo us s i j → Pieces us a b i j
  cut a b e h = let p = h.1.by 0 in pieces (p.1 p.0 (omega arith)) a b e

pub free_local : (ws us : List Token) {s : List Symbol} {i j : ℕ} {f : Forest} → Free ws s i f j → ((m : ℕ) → m ≤ j → slice_index_or ws m finish ≡ slice_index_or us m finish) → Free us s i f j
free_local ws us h same = record { by = λ d. let p = h.by d in (p.0, λ limit le. reads_local limit ws us (p.1 limit le) same) }

-- Having read the tokens from i up to k, these symbols are left. Each choice was made by a token before k.
pub data Pending (ws : List Token) : List Symbol → ℕ → ℕ → List Symbol → Type 0 where
  p-nothing : {i : ℕ} {s : List Symbol} → Pending ws s i i s
  p-kept : {i k : ℕ} {any : List TokenKind} {s left : List Symbol} → one_of any (kind_at ws i) ≡ true → i < k → Pending ws s (i + 1) k left → Pending ws (Kept any ∷ s) i k left
  p-mark : {i k : ℕ} {a : TokenKind} {s left : List Symbol} → is (kind_at ws i) a ≡ true → i < k → Pending ws s (i + 1) k left → Pending ws (Mark a ∷ s) i k left
  p-any : {i k : ℕ} {a : TokenKind} {s left : List Symbol} → is (kind_at ws i) a ≡ true → i < k → Pending ws (Any a ∷ s) (i + 1) k left → Pending ws (Any a ∷ s) i k left
  p-none : {i k : ℕ} {a : TokenKind} {s left : List Symbol} → is (kind_at ws i) a ≡ false → i < k → Pending ws s i k left → Pending ws (Any a ∷ s) i k left
  p-here : {i k : ℕ} {s left : List Symbol} → i < k → Pending ws s i k left → Pending ws (Here ∷ s) i k left
  p-inside : {i k : ℕ} {t : Times} {n : Part} {right s inner left : List Symbol} → right_side n (kind_at ws i) ≡ Some right → i < k
      → Pending ws right i k inner → left ≡ inner ++ after t n s → Pending ws (Of t n ∷ s) i k left
  p-after : {i m k : ℕ} {t : Times} {n : Part} {right s left : List Symbol} {f : Forest} → right_side n (kind_at ws i) ≡ Some right → i ≤ m → m < k
      → Free ws right i f m → Pending ws (after t n s) m k left → Pending ws (Of t n ∷ s) i k left
  p-skip : {i k : ℕ} {t : Times} {n : Part} {s left : List Symbol} → right_side n (kind_at ws i) ≡ None → may_skip t ≡ true → i < k
      → Pending ws s i k left → Pending ws (Of t n ∷ s) i k left

abbrev pub Left : List Token → List Symbol → ℕ → ℕ → Type 0
Left ws s i k = (left : List Symbol) × Pending ws s i k left

-- where a fault is seen, not before its token, and what was left to read there
pub record Seen (ws : List Token) (s : List Symbol) (i : ℕ) (e : Fault) : Type 0 where
  pub at : ℕ
  pub behind : fault_at e ≤ at
  pub ahead : i ≤ at
  pub left : Left ws s i at

module _ (limit : ℕ) (ws : List Token) where
  -- all is read, or something is, or nothing
  at_or_below : (i k : ℕ) (P : Type 0) → i ≤ k → (i ≡ k → P) → (i < k → P) → P
  at_or_below i k P le same below = go (dec_lt i k)
    where
      go : Dec (i < k) → P
      go (yes h) = below h
      go (no h) = same (omega (arith, h))

  nothing : {s : List Symbol} (i k : ℕ) → i ≡ k → Left ws s i k
  nothing {s} i k e = subst (λ m. Left ws s i m) e (s, p-nothing)

  pub after_reading : {d i : ℕ} {s : List Symbol} {f : Forest} {k : ℕ} → Reads limit ws d s i f k → Left ws s i k
  after_reading reads-done = ([], p-nothing)
  after_reading (reads-kept h r) = let l = after_reading r in (l.0, p-kept h (omega (arith, reads_ahead limit ws r)) l.1)
  after_reading (reads-mark h r) = let l = after_reading r in (l.0, p-mark h (omega (arith, reads_ahead limit ws r)) l.1)
  after_reading (reads-any h r) = let l = after_reading r in (l.0, p-any h (omega (arith, reads_ahead limit ws r)) l.1)
  after_reading (reads-none {start = i} {end = k} {a = a} {s = s} h r) =
      let l = after_reading r in
      at_or_below i k (Left ws (Any a ∷ s) i k) (reads_ahead limit ws r) (λ e. nothing i k e) (λ lt. (l.0, p-none h lt l.1))
  after_reading (reads-here {start = i} {end = k} {s = s} r) =
      let l = after_reading r in
      at_or_below i k (Left ws (Here ∷ s) i k) (reads_ahead limit ws r) (λ e. nothing i k e) (λ lt. (l.0, p-here lt l.1))
  after_reading (reads-part {depth = d} {start = i} {m = m} {end = k} {t = t} {n = n} {right = right} {s = s} {f = f} b sh r q) =
      let a = reads_ahead limit ws r in
      let c = reads_ahead limit ws q in
      let inner = after_reading r in
      let outer = after_reading q in
      at_or_below i k (Left ws (Of t n ∷ s) i k) (omega (arith, a, c)) (λ e. nothing i k e) (λ lt.
      at_or_below m k (Left ws (Of t n ∷ s) i k) c
      (λ e. let l = subst (λ x. Left ws right i x) e inner in (l.0 ++ after t n s, p-inside b lt l.1 refl))
      (λ below. (outer.0, p-after b a below (free_reading r) outer.1)))
  after_reading (reads-skip {start = i} {end = k} {t = t} {n = n} {s = s} b may r) =
      let l = after_reading r in
      at_or_below i k (Left ws (Of t n ∷ s) i k) (reads_ahead limit ws r) (λ e. nothing i k e) (λ lt. (l.0, p-skip b may lt l.1))

  first_before : (n : Part) (i : ℕ) → first_of n i ≤ i
  first_before n i = go (is_begun n)
    where
      go : (b : Bool) → (if b then i - 1 else i) ≤ i
      go true = omega arith
      go false = omega arith

  pub before_fault : {d i : ℕ} {s : List Symbol} {e : Fault} → Fails limit ws d s i e → Seen ws s i e
  before_fault (fails-kept {start = i} h) = record { at = i; behind = omega arith; ahead = omega arith; left = (_, p-nothing) }
  before_fault (fails-mark {start = i} h) = record { at = i; behind = omega arith; ahead = omega arith; left = (_, p-nothing) }
  before_fault (fails-part {start = i} b may) = record { at = i; behind = omega arith; ahead = omega arith; left = (_, p-nothing) }
  before_fault (fails-deep {start = i} {n = n} b deep) = record { at = i; behind = first_before n i; ahead = omega arith; left = (_, p-nothing) }
  before_fault (fails-inside {start = i} {e = e} {t = t} {n = n} {s = s} b sh r) =
      let p = before_fault r in
      let l = p.left in
      record {
        at = p.at;
        behind = p.behind;
        ahead = p.ahead;
        left = at_or_below i p.at (Left ws (Of t n ∷ s) i p.at) p.ahead (λ x. nothing i p.at x) (λ lt. (l.0 ++ after t n s, p-inside b lt l.1 refl));
      }
  before_fault (after-kept h r) = let p = before_fault r in record { at = p.at; behind = p.behind; ahead = omega (arith, p.ahead); left = (p.left.0, p-kept h (omega (arith, p.ahead)) p.left.1) }
  before_fault (after-mark h r) = let p = before_fault r in record { at = p.at; behind = p.behind; ahead = omega (arith, p.ahead); left = (p.left.0, p-mark h (omega (arith, p.ahead)) p.left.1) }
  before_fault (after-any h r) = let p = before_fault r in record { at = p.at; behind = p.behind; ahead = omega (arith, p.ahead); left = (p.left.0, p-any h (omega (arith, p.ahead)) p.left.1) }
  before_fault (after-none {start = i} {a = a} {s = s} h r) =
      let p = before_fault r in
      record {
        at = p.at;
        behind = p.behind;
        ahead = p.ahead;
        left = at_or_below i p.at (Left ws (Any a ∷ s) i p.at) p.ahead (λ x. nothing i p.at x) (λ lt. (p.left.0, p-none h lt p.left.1));
      }
  before_fault (after-here {start = i} {s = s} r) =
      let p = before_fault r in
      record {
        at = p.at;
        behind = p.behind;
        ahead = p.ahead;
        left = at_or_below i p.at (Left ws (Here ∷ s) i p.at) p.ahead (λ x. nothing i p.at x) (λ lt. (p.left.0, p-here lt p.left.1));
      }
  before_fault (after-part {depth = d} {start = i} {m = m} {e = e} {t = t} {n = n} {right = right} {s = s} {f = f} b sh r q) =
      let p = before_fault q in
      let a = reads_ahead limit ws r in
      let inner = after_reading r in
      record {
        at = p.at;
        behind = p.behind;
        ahead = omega (arith, a, p.ahead);
        left = at_or_below i p.at (Left ws (Of t n ∷ s) i p.at) (omega (arith, a, p.ahead)) (λ x. nothing i p.at x) (λ lt.
            at_or_below m p.at (Left ws (Of t n ∷ s) i p.at) p.ahead
            (λ x. let l = subst (λ y. Left ws right i y) x inner in (l.0 ++ after t n s, p-inside b lt l.1 refl))
            (λ below. (p.left.0, p-after b a below (free_reading r) p.left.1)));
      }
  before_fault (after-skip {start = i} {e = e} {t = t} {n = n} {s = s} b may r) =
      let p = before_fault r in
      record {
        at = p.at;
        behind = p.behind;
        ahead = p.ahead;
        left = at_or_below i p.at (Left ws (Of t n ∷ s) i p.at) p.ahead (λ x. nothing i p.at x) (λ lt. (p.left.0, p-skip b may lt p.left.1));
      }

-- what is left is read, so all is
module _ (ws us : List Token) where
  kind_same : (i : ℕ) → slice_index_or ws i finish ≡ slice_index_or us i finish → kind_at ws i ≡ kind_at us i
  kind_same i e = same_kind 0 ws us i e

  pub filled : {s left : List Symbol} {i k : ℕ} → Pending ws s i k left → SameBelow k ws us → (j : ℕ) → FreeTo us left k j → FreeTo us s i j
  filled p-nothing same j h = h
  filled (p-kept {i = i} {any = any} w lt p) same j h =
      let r = filled p same j h in (_, free-kept (subst (λ b. one_of any b ≡ true) (kind_same i (same i lt)) w) r.1)
  filled (p-mark {i = i} {a = a} w lt p) same j h =
      let r = filled p same j h in (_, free-mark (subst (λ b. is b a ≡ true) (kind_same i (same i lt)) w) r.1)
  filled (p-any {i = i} {a = a} w lt p) same j h =
      let r = filled p same j h in (_, free-any (subst (λ b. is b a ≡ true) (kind_same i (same i lt)) w) r.1)
  filled (p-none {i = i} {a = a} w lt p) same j h =
      let r = filled p same j h in (_, free-none (subst (λ b. is b a ≡ false) (kind_same i (same i lt)) w) r.1)
  filled (p-here lt p) same j h = let r = filled p same j h in (_, free-here r.1)
  filled (p-inside {i = i} {t = t} {n = n} {right = right} {s = s} {inner = inner} b lt p e) same j h =
      let c = cut inner (after t n s) e h in
      let r = filled p same c.middle c.first in
      (_, free-part (subst (λ z. right_side n z ≡ Some right) (kind_same i (same i lt)) b) r.1 c.second.1)
  filled (p-after {i = i} {m = m} {k = k} {n = n} {right = right} b le lt q p) same j h =
      let r = filled p same j h in
      (_, free-part (subst (λ z. right_side n z ≡ Some right) (kind_same i (same i (omega arith))) b) (free_local ws us q (λ o w. same o (omega (arith, w)))) r.1)
  filled (p-skip {i = i} {n = n} b may lt p) same j h =
      let r = filled p same j h in
      (r.0, free-skip (subst (λ z. right_side n z ≡ None) (kind_same i (same i lt)) b) may r.1)
