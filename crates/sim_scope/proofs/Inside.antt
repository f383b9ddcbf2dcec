-- The block of a token is the innermost one whose text has it.
use Rattle.std.proofs.Common.{◌≡◌, ◌<◌, ◌≤◌, ◌+◌, ◌⊎◌, inl, inr, ℕ, zero, suc, Bool, true, false, List, [], ◌∷◌, ◌++◌, length, Option, Some, None, refl, sym, ap, ◌∙◌, subst, arith}
use Rattle.std.specs.Prelude.{nat_eq, replicate, slice_get}
use Rattle.std.proofs.lemmas.Bool.Decides.{nat_tests}

-- the first token of a block, the token behind it, and the block around it
abbrev pub Shape : Type 0
Shape = ℕ × ℕ × Option ℕ

abbrev pub Shapes : Type 0
Shapes = ℕ → Option Shape

abbrev pub out : Option Shape → Option ℕ
out None = None
out (Some x) = x.2

-- the blocks that are open: the innermost one, and those around it
pub data Open (s : Shapes) : Option ℕ → ℕ → Type 0 where
  top : {current : Option ℕ} {c : ℕ} → current ≡ Some c → Open s current c
  under : {current : Option ℕ} {b c : ℕ} → current ≡ Some b → Open s (out (s b)) c → Open s current c

-- a block that is open, or whose end is behind a token, has it
abbrev pub In : Shapes → Option ℕ → (token : ℕ) → ℕ → Type 0
In s current i b = (x : Shape) × (s b ≡ Some x) × (x.0 ≤ i) × (Open s current b ⊎ (i < x.1))

abbrev pub PlacedIn : Shapes → Option ℕ → (token : ℕ) → Option ℕ → Type 0
PlacedIn s current i None = (b : ℕ) → In s current i b → ⊥
PlacedIn s current i (Some k) = In s current i k × ((b : ℕ) → In s current i b → b ≤ k)

placed_as : (s t : Shapes) (c d : Option ℕ) (i : ℕ) → ((b : ℕ) → In s c i b → In t d i b) → ((b : ℕ) → In t d i b → In s c i b) → (place : Option ℕ) → PlacedIn s c i place → PlacedIn t d i place
placed_as s t c d i to from None p = λ b h. p b (from b h)
placed_as s t c d i to from (Some k) p = (to k p.0, λ b h. p.1 b (from b h))

-- the tables so far: the blocks, how many there are, the innermost open one, and the places
pub record Inside (s : Shapes) (n : ℕ) (current : Option ℕ) (places : List (Option ℕ)) : Type 0 where
  pub nested : (b k : ℕ) → out (s b) ≡ Some k → k < b
  pub known : (b : ℕ) (x : Shape) → s b ≡ Some x → b < n
  pub total : (b : ℕ) → b < n → (x : Shape) × (s b ≡ Some x)
  pub within : (k : ℕ) → current ≡ Some k → k < n
  pub firsts : (b : ℕ) (x : Shape) → s b ≡ Some x → x.0 ≤ length places
  pub ends : (b : ℕ) (x : Shape) → s b ≡ Some x → Open s current b ⊎ (x.1 ≤ length places)
  pub placed : (i : ℕ) (place : Option ℕ) → slice_get places i ≡ Some place → PlacedIn s current i place

pub some-same : {A : Type 0} (a b : A) → Some a ≡ Some b → a ≡ b
some-same a b e = cc

pub none_open : (s : Shapes) (current : Option ℕ) (c : ℕ) → current ≡ None → Open s current c → ⊥
none_open s current c none (top e) = absurd (cc)
none_open s current c none (under e h) = absurd (cc)

open_below : (s : Shapes) → ((b k : ℕ) → out (s b) ≡ Some k → k < b) → (m : ℕ) (current : Option ℕ) (c : ℕ) → ((k : ℕ) → current ≡ Some k → k < m) → Open s current c → c < m
open_below s nested m current c bound (top e) = bound c e
open_below s nested m current c bound (under {b = b} e h) =
    open_below s nested m (out (s b)) c (λ k is. (let below : k < b = nested b k is in let le : b < m = bound b e in omega arith)) h

-- what is open depends on the blocks around those that are open alone
open_same : (s t : Shapes) (m : ℕ) → ((b k : ℕ) → out (s b) ≡ Some k → k < b) → ((b : ℕ) → b < m → out (s b) ≡ out (t b)) → (current : Option ℕ) (c : ℕ) → ((k : ℕ) → current ≡ Some k → k < m) → Open s current c → Open t current c
open_same s t m nested agree current c bound (top e) = top e
open_same s t m nested agree current c bound (under {b = b} e h) =
    under e (subst (λ o. Open t o c) (agree b (bound b e)) (open_same s t m nested agree (out (s b)) c (λ k is. (let below : k < b = nested b k is in let le : b < m = bound b e in omega arith)) h))

-- Tokens are given the innermost open block.
more_cases : (xs : List (Option ℕ)) (m : ℕ) (x : Option ℕ) (i : ℕ) (y : Option ℕ) → slice_get (xs ++ replicate m x) i ≡ Some y → (slice_get xs i ≡ Some y) ⊎ ((y ≡ x) × (length xs ≤ i))
more_cases [] m x i y at = inr (repeated m i at, omega arith)
  where
    repeated : (m i : ℕ) → slice_get (replicate m x) i ≡ Some y → y ≡ x
    repeated zero i at = absurd (cc)
    repeated (suc m) zero at = cc
    repeated (suc m) (suc i) at = repeated m i at
more_cases (z ∷ xs) m x zero y at = inl at
more_cases (z ∷ xs) m x (suc i) y at = next (more_cases xs m x i y at)
  where
    next : (slice_get xs i ≡ Some y) ⊎ ((y ≡ x) × (length xs ≤ i)) → (slice_get xs i ≡ Some y) ⊎ ((y ≡ x) × (length (z ∷ xs) ≤ suc i))
    next (inl h) = inl h
    next (inr h) = inr (h.0, (let le : length xs ≤ i = h.1 in omega arith))

here_placed : (s : Shapes) (n : ℕ) (current : Option ℕ) (places : List (Option ℕ)) → Inside s n current places → (i : ℕ) → length places ≤ i → (o : Option ℕ) → current ≡ o → PlacedIn s current i o
here_placed s n current places a i le o is = go o is
  where
    opened : (b : ℕ) → In s current i b → Open s current b
    opened b h = pick (a.ends b h.0 h.1) h.3
      where
        pick : Open s current b ⊎ (h.0.1 ≤ length places) → Open s current b ⊎ (i < h.0.1) → Open s current b
        pick (inl p) q = p
        pick (inr p) (inl q) = q
        pick (inr p) (inr q) = absurd (let r : h.0.1 ≤ length places = p in let t : i < h.0.1 = q in omega arith)

    go : (o : Option ℕ) → current ≡ o → PlacedIn s current i o
    go None is = λ b h. none_open s current b is (opened b h)
    go (Some k) is =
        let row = a.total k (a.within k is) in (
          (row.0, row.1, (let f : row.0.0 ≤ length places = a.firsts k row.0 row.1 in omega arith), inl (top is)),
          λ b h. (let lt : b < k + 1 = open_below s a.nested (k + 1) current b (λ j e. (let same : k ≡ j = some-same k j (sym is ∙ e) in omega arith)) (opened b h) in omega arith),
        )

pub filled : (s : Shapes) (n : ℕ) (current : Option ℕ) (places : List (Option ℕ)) (m : ℕ) → length places ≤ length (places ++ replicate m current) → Inside s n current places → Inside s n current (places ++ replicate m current)
filled s n current places m more a = record {
  nested = a.nested;
  known = a.known;
  total = a.total;
  within = a.within;
  firsts = λ b x is. (let f : x.0 ≤ length places = a.firsts b x is in omega arith);
  ends = λ b x is. later x (a.ends b x is);
  placed = λ i place is. pick i place (more_cases places m current i place is);
}
  where
    later : {b : ℕ} (x : Shape) → Open s current b ⊎ (x.1 ≤ length places) → Open s current b ⊎ (x.1 ≤ length (places ++ replicate m current))
    later x (inl p) = inl p
    later x (inr p) = inr (let q : x.1 ≤ length places = p in omega arith)

    pick : (i : ℕ) (place : Option ℕ) → (slice_get places i ≡ Some place) ⊎ ((place ≡ current) × (length places ≤ i)) → PlacedIn s current i place
    pick i place (inl h) = a.placed i place h
    pick i place (inr h) = here_placed s n current places a i h.1 place (sym h.0)

-- A block begins.
pub begun : (s t : Shapes) (n : ℕ) (current : Option ℕ) (places : List (Option ℕ)) (first : ℕ) → length places ≡ first → t n ≡ Some (first, first, current) → ((b : ℕ) → nat_eq b n ≡ false → t b ≡ s b)
    → ((i : ℕ) (place : Option ℕ) → slice_get places i ≡ Some place → i < length places) → Inside s n current places → Inside t (n + 1) (Some n) places
begun s t n current places first at new other short a = record {
  nested = λ b k is. nested b k (nat_eq b n) refl is;
  known = λ b x is. known b x (nat_eq b n) refl is;
  total = λ b le. total b (nat_eq b n) refl le;
  within = λ k is. (let same : n ≡ k = some-same n k is in omega arith);
  firsts = λ b x is. firsts b x (nat_eq b n) refl is;
  ends = λ b x is. ends b x (nat_eq b n) refl is;
  placed = λ i place is. placed_as s t current (Some n) i (λ b h. to i b (nat_eq b n) refl h) (λ b h. from i (short i place is) b (nat_eq b n) refl h) place (a.placed i place is);
}
  where
    same_out : (b : ℕ) → b < n → out (s b) ≡ out (t b)
    same_out b lt = ap out (sym (other b (let P : nat_eq b n ≡ false = grind (arith, nat_tests) in P)))

    up : (c : ℕ) → Open s current c → Open t (Some n) c
    up c h = under refl (subst (λ o. Open t o c) (sym (ap out new)) (open_same s t n a.nested same_out current c a.within h))

    nested : (b k : ℕ) (c : Bool) → nat_eq b n ≡ c → out (t b) ≡ Some k → k < b
    nested b k true e is =
        let same : b ≡ n = grind (arith, nat_tests) in
        let lt : k < n = a.within k (sym (ap out (ap t same ∙ new)) ∙ is) in omega arith
    nested b k false e is = a.nested b k (sym (ap out (other b e)) ∙ is)

    down : (c : ℕ) → Open t current c → Open s current c
    down c h = open_same t s n (λ b k is. nested b k (nat_eq b n) refl is) (λ b lt. sym (same_out b lt)) current c a.within h

    down_from : (c : ℕ) → nat_eq c n ≡ false → Open t (Some n) c → Open s current c
    down_from c e (top is) = absurd (let same : n ≡ c = some-same n c is in let P : nat_eq c n ≡ true = grind (arith, nat_tests) in cc)
    down_from c e (under {b = b} is h) = down c (subst (λ o. Open t o c) (ap (λ j. out (t j)) (sym (some-same n b is)) ∙ ap out new) h)

    known : (b : ℕ) (x : Shape) (c : Bool) → nat_eq b n ≡ c → t b ≡ Some x → b < n + 1
    known b x true e is = let same : b ≡ n = grind (arith, nat_tests) in omega arith
    known b x false e is = let lt : b < n = a.known b x (sym (other b e) ∙ is) in omega arith

    total : (b : ℕ) (c : Bool) → nat_eq b n ≡ c → b < n + 1 → (x : Shape) × (t b ≡ Some x)
    total b true e le = let same : b ≡ n = grind (arith, nat_tests) in ((first, first, current), ap t same ∙ new)
    total b false e le =
        let differ : b < n = grind (arith, nat_tests) in
        let row = a.total b differ in (row.0, other b e ∙ row.1)

    firsts : (b : ℕ) (x : Shape) (c : Bool) → nat_eq b n ≡ c → t b ≡ Some x → x.0 ≤ length places
    firsts b x true e is =
        let same : b ≡ n = grind (arith, nat_tests) in
        let row : x.0 ≡ first = sym (ap (λ (y : Shape). y.0) (some-same (first, first, current) x (sym (ap t same ∙ new) ∙ is))) in omega arith
    firsts b x false e is = a.firsts b x (sym (other b e) ∙ is)

    ends : (b : ℕ) (x : Shape) (c : Bool) → nat_eq b n ≡ c → t b ≡ Some x → Open t (Some n) b ⊎ (x.1 ≤ length places)
    ends b x true e is = let same : n ≡ b = grind (arith, nat_tests) in inl (top (ap Some same))
    ends b x false e is = go (a.ends b x (sym (other b e) ∙ is))
      where
        go : Open s current b ⊎ (x.1 ≤ length places) → Open t (Some n) b ⊎ (x.1 ≤ length places)
        go (inl h) = inl (up b h)
        go (inr h) = inr h

    to : (i b : ℕ) (c : Bool) → nat_eq b n ≡ c → In s current i b → In t (Some n) i b
    to i b true e h =
        let same : b ≡ n = grind (arith, nat_tests) in
        let lt : b < n = a.known b h.0 h.1 in absurd (omega arith)
    to i b false e h = (h.0, other b e ∙ h.1, h.2, go h.3)
      where
        go : Open s current b ⊎ (i < h.0.1) → Open t (Some n) b ⊎ (i < h.0.1)
        go (inl p) = inl (up b p)
        go (inr p) = inr p

    from : (i : ℕ) → i < length places → (b : ℕ) (c : Bool) → nat_eq b n ≡ c → In t (Some n) i b → In s current i b
    from i lt b true e h =
        let same : b ≡ n = grind (arith, nat_tests) in
        let row : h.0.0 ≡ first = sym (ap (λ (y : Shape). y.0) (some-same (first, first, current) h.0 (sym (ap t same ∙ new) ∙ h.1))) in
        let le : h.0.0 ≤ i = h.2 in absurd (omega arith)
    from i lt b false e h = (h.0, sym (other b e) ∙ h.1, h.2, go h.3)
      where
        go : Open t (Some n) b ⊎ (i < h.0.1) → Open s current b ⊎ (i < h.0.1)
        go (inl p) = inl (down_from b e p)
        go (inr p) = inr p

-- The innermost open block ends.
pub finished : (s t : Shapes) (n k : ℕ) (x : Shape) (current : Option ℕ) (places : List (Option ℕ)) (end : ℕ) → length places ≡ end → current ≡ Some k → s k ≡ Some x → t k ≡ Some (x.0, end, x.2) → ((b : ℕ) → nat_eq b k ≡ false → t b ≡ s b)
    → ((i : ℕ) (place : Option ℕ) → slice_get places i ≡ Some place → i < length places) → Inside s n current places → Inside t n x.2 places
finished s t n k x current places end at now row new other short a = record {
  nested = λ b j is. a.nested b j (outs b ∙ is);
  known = λ b y is. known b y (nat_eq b k) refl is;
  total = λ b le. total b (nat_eq b k) refl le;
  within = λ j is. (let lt : j < k = a.nested k j (ap out row ∙ is) in let le : k < n = a.within k now in omega arith);
  firsts = λ b y is. firsts b y (nat_eq b k) refl is;
  ends = λ b y is. ends b y (nat_eq b k) refl is;
  placed = λ i place is. placed_as s t current x.2 i (λ b h. to i (short i place is) b (nat_eq b k) refl h) (λ b h. from i b (nat_eq b k) refl h) place (a.placed i place is);
}
  where
    outs : (b : ℕ) → out (s b) ≡ out (t b)
    outs b = decide (nat_eq b k) refl
      where
        decide : (c : Bool) → nat_eq b k ≡ c → out (s b) ≡ out (t b)
        decide true e = let same : b ≡ k = grind (arith, nat_tests) in ap (λ j. out (s j)) same ∙ ap out row ∙ sym (ap (λ j. out (t j)) same ∙ ap out new)
        decide false e = sym (ap out (other b e))

    bound : (j : ℕ) → x.2 ≡ Some j → j < n
    bound j is = let lt : j < k = a.nested k j (ap out row ∙ is) in let le : k < n = a.within k now in omega arith

    forth : (c : ℕ) → Open s x.2 c → Open t x.2 c
    forth c h = open_same s t n a.nested (λ b lt. outs b) x.2 c bound h

    back : (c : ℕ) → Open t x.2 c → Open s x.2 c
    back c h = open_same t s n (λ b j is. a.nested b j (outs b ∙ is)) (λ b lt. sym (outs b)) x.2 c bound h

    known : (b : ℕ) (y : Shape) (c : Bool) → nat_eq b k ≡ c → t b ≡ Some y → b < n
    known b y true e is = let same : b ≡ k = grind (arith, nat_tests) in let le : k < n = a.within k now in omega arith
    known b y false e is = a.known b y (sym (other b e) ∙ is)

    total : (b : ℕ) (c : Bool) → nat_eq b k ≡ c → b < n → (y : Shape) × (t b ≡ Some y)
    total b true e le = let same : b ≡ k = grind (arith, nat_tests) in ((x.0, end, x.2), ap t same ∙ new)
    total b false e le = let old = a.total b le in (old.0, other b e ∙ old.1)

    -- the row of the block that ends
    last : (b : ℕ) (y : Shape) → nat_eq b k ≡ true → t b ≡ Some y → y ≡ (x.0, end, x.2)
    last b y e is = let same : b ≡ k = grind (arith, nat_tests) in some-same y (x.0, end, x.2) (sym is ∙ ap t same ∙ new)

    firsts : (b : ℕ) (y : Shape) (c : Bool) → nat_eq b k ≡ c → t b ≡ Some y → y.0 ≤ length places
    firsts b y true e is = let le : x.0 ≤ length places = a.firsts k x row in subst (λ m. m ≤ length places) (sym (ap (λ (z : Shape). z.0) (last b y e is))) le
    firsts b y false e is = a.firsts b y (sym (other b e) ∙ is)

    lower : (c : ℕ) → nat_eq c k ≡ false → Open s current c → Open t x.2 c
    lower c e (top is) = absurd (let same : k ≡ c = some-same k c (sym now ∙ is) in let P : nat_eq c k ≡ true = grind (arith, nat_tests) in cc)
    lower c e (under {b = b} is h) = forth c (subst (λ o. Open s o c) (ap (λ j. out (s j)) (sym (some-same k b (sym now ∙ is))) ∙ ap out row) h)

    ends : (b : ℕ) (y : Shape) (c : Bool) → nat_eq b k ≡ c → t b ≡ Some y → Open t x.2 b ⊎ (y.1 ≤ length places)
    ends b y true e is = inr (let same : y.1 ≡ end = ap (λ (z : Shape). z.1) (last b y e is) in omega arith)
    ends b y false e is = go (a.ends b y (sym (other b e) ∙ is))
      where
        go : Open s current b ⊎ (y.1 ≤ length places) → Open t x.2 b ⊎ (y.1 ≤ length places)
        go (inl h) = inl (lower b e h)
        go (inr h) = inr h

    to : (i : ℕ) → i < length places → (b : ℕ) (c : Bool) → nat_eq b k ≡ c → In s current i b → In t x.2 i b
    to i lt b true e h =
        let same : b ≡ k = grind (arith, nat_tests) in
        let first : h.0.0 ≡ x.0 = ap (λ (z : Shape). z.0) (some-same h.0 x (sym h.1 ∙ ap s same ∙ row)) in
        ((x.0, end, x.2), ap t same ∙ new, (let le : h.0.0 ≤ i = h.2 in omega arith), inr (omega arith))
    to i lt b false e h = (h.0, other b e ∙ h.1, h.2, go h.3)
      where
        go : Open s current b ⊎ (i < h.0.1) → Open t x.2 b ⊎ (i < h.0.1)
        go (inl p) = inl (lower b e p)
        go (inr p) = inr p

    from : (i b : ℕ) (c : Bool) → nat_eq b k ≡ c → In t x.2 i b → In s current i b
    from i b true e h =
        let same : b ≡ k = grind (arith, nat_tests) in
        let first : h.0.0 ≡ x.0 = ap (λ (z : Shape). z.0) (last b h.0 e h.1) in
        (x, ap s same ∙ row, (let le : h.0.0 ≤ i = h.2 in omega arith), inl (top (now ∙ ap Some (sym same))))
    from i b false e h = (h.0, sym (other b e) ∙ h.1, h.2, go h.3)
      where
        go : Open t x.2 b ⊎ (i < h.0.1) → Open s current b ⊎ (i < h.0.1)
        go (inl p) = inl (under now (subst (λ o. Open s o b) (sym (ap out row)) (back b p)))
        go (inr p) = inr p

-- A block without text stands inside another one. It is never open.
pub brought : (s t : Shapes) (n : ℕ) (current : Option ℕ) (places : List (Option ℕ)) (k : ℕ) → k < n → t n ≡ Some (0, 0, Some k) → ((b : ℕ) → nat_eq b n ≡ false → t b ≡ s b) → Inside s n current places → Inside t (n + 1) current places
brought s t n current places k le new other a = record {
  nested = λ b j is. nested b j (nat_eq b n) refl is;
  known = λ b x is. known b x (nat_eq b n) refl is;
  total = λ b lt. total b (nat_eq b n) refl lt;
  within = λ j is. (let lt : j < n = a.within j is in omega arith);
  firsts = λ b x is. firsts b x (nat_eq b n) refl is;
  ends = λ b x is. ends b x (nat_eq b n) refl is;
  placed = λ i place is. placed_as s t current current i (λ b h. to i b (nat_eq b n) refl h) (λ b h. from i b (nat_eq b n) refl h) place (a.placed i place is);
}
  where
    same_out : (b : ℕ) → b < n → out (s b) ≡ out (t b)
    same_out b lt = ap out (sym (other b (let P : nat_eq b n ≡ false = grind (arith, nat_tests) in P)))

    nested : (b j : ℕ) (c : Bool) → nat_eq b n ≡ c → out (t b) ≡ Some j → j < b
    nested b j true e is =
        let same : b ≡ n = grind (arith, nat_tests) in
        let j_is : k ≡ j = some-same k j (sym (ap out (ap t same ∙ new)) ∙ is) in omega arith
    nested b j false e is = a.nested b j (sym (ap out (other b e)) ∙ is)

    up : (c : ℕ) → Open s current c → Open t current c
    up c h = open_same s t n a.nested same_out current c a.within h

    down : (c : ℕ) → Open t current c → Open s current c
    down c h = open_same t s n (λ b j is. nested b j (nat_eq b n) refl is) (λ b lt. sym (same_out b lt)) current c a.within h

    -- the row of the new block
    row : (b : ℕ) (x : Shape) → nat_eq b n ≡ true → t b ≡ Some x → x ≡ (0, 0, Some k)
    row b x e is = let same : b ≡ n = grind (arith, nat_tests) in some-same x (0, 0, Some k) (sym is ∙ ap t same ∙ new)

    known : (b : ℕ) (x : Shape) (c : Bool) → nat_eq b n ≡ c → t b ≡ Some x → b < n + 1
    known b x true e is = let same : b ≡ n = grind (arith, nat_tests) in omega arith
    known b x false e is = let lt : b < n = a.known b x (sym (other b e) ∙ is) in omega arith

    total : (b : ℕ) (c : Bool) → nat_eq b n ≡ c → b < n + 1 → (x : Shape) × (t b ≡ Some x)
    total b true e lt = let same : b ≡ n = grind (arith, nat_tests) in ((0, 0, Some k), ap t same ∙ new)
    total b false e lt =
        let differ : b < n = grind (arith, nat_tests) in
        let old = a.total b differ in (old.0, other b e ∙ old.1)

    firsts : (b : ℕ) (x : Shape) (c : Bool) → nat_eq b n ≡ c → t b ≡ Some x → x.0 ≤ length places
    firsts b x true e is = let same : x.0 ≡ 0 = ap (λ (y : Shape). y.0) (row b x e is) in omega arith
    firsts b x false e is = a.firsts b x (sym (other b e) ∙ is)

    ends : (b : ℕ) (x : Shape) (c : Bool) → nat_eq b n ≡ c → t b ≡ Some x → Open t current b ⊎ (x.1 ≤ length places)
    ends b x true e is = inr (let same : x.1 ≡ 0 = ap (λ (y : Shape). y.1) (row b x e is) in omega arith)
    ends b x false e is = go (a.ends b x (sym (other b e) ∙ is))
      where
        go : Open s current b ⊎ (x.1 ≤ length places) → Open t current b ⊎ (x.1 ≤ length places)
        go (inl h) = inl (up b h)
        go (inr h) = inr h

    to : (i b : ℕ) (c : Bool) → nat_eq b n ≡ c → In s current i b → In t current i b
    to i b true e h =
        let same : b ≡ n = grind (arith, nat_tests) in
        let lt : b < n = a.known b h.0 h.1 in absurd (omega arith)
    to i b false e h = (h.0, other b e ∙ h.1, h.2, go h.3)
      where
        go : Open s current b ⊎ (i < h.0.1) → Open t current b ⊎ (i < h.0.1)
        go (inl p) = inl (up b p)
        go (inr p) = inr p

    from : (i b : ℕ) (c : Bool) → nat_eq b n ≡ c → In t current i b → In s current i b
    from i b true e h = absurd (go h.3)
      where
        go : Open t current b ⊎ (i < h.0.1) → ⊥
        go (inl p) =
            let same : b ≡ n = grind (arith, nat_tests) in
            let lt : b < n = open_below t (λ c j is. nested c j (nat_eq c n) refl is) n current b a.within p in omega arith
        go (inr p) = let same : h.0.1 ≡ 0 = ap (λ (y : Shape). y.1) (row b h.0 e h.1) in let lt : i < h.0.1 = p in omega arith
    from i b false e h = (h.0, sym (other b e) ∙ h.1, h.2, go h.3)
      where
        go : Open t current b ⊎ (i < h.0.1) → Open s current b ⊎ (i < h.0.1)
        go (inl p) = inl (down b p)
        go (inr p) = inr p
