-- Each sequence that a fault leaves can be completed, with a word that the table knows.
use Rattle.std.proofs.Common.{zero, suc, ◌≡◌, ℕ, ◌+◌, ◌<◌, ◌≤◌, Bool, true, false, if◌then◌else◌, List, [], ◌∷◌, ◌++◌, length, Option, Some, None, refl, sym, subst, ap, ◌∙◌, arith, rules, append_assoc, map, length-append}
use Rattle.std.proofs.lemmas.List.{length-map}
use Rattle.std.proofs.Common.{◌⊎◌, inl, inr}
use Rattle.std.proofs.lemmas.Bool.{false≢true}
use Rattle.std.proofs.lemmas.Bool.Decides.{leb_tells}
use Rattle.std.proofs.Math.Seq.{get_or-append_seam}
use Rattle.std.specs.Prelude.{slice_index_or, nat_le, ◌&&◌, ◌||◌, not}
use denote.Enum.Bare.{same_true}
use Rattle.sim_base.specs.declared.token.Token.{Token}
use Rattle.sim_base.specs.declared.token.TokenKind.{TokenKind}
use Rattle.sim_base.specs.declared.token.TokenKind.TheVariants as k
use Rattle.sim_base.specs.Lexeme.{bare}
use Rattle.sim_base.specs.contracts.token.TokenKind.{the_type}
use Rattle.sim_tree.specs.Grammar.{Part, Times, Once, Maybe, Many, Symbol, Kept, Mark, Any, Here, Of, Row, At, Else, is, one_of, rows, chosen, right_side}
use Rattle.sim_tree.specs.Reading.{Forest, done, finish, kind_at, after, may_skip, Reads, reads-done, reads-part, reads-skip, Fails, Fault, Unexpected}
use Rattle.sim_tree.specs.Claim.{SameBelow, Begins, IsFirstBad, one}
use Rattle.sim_tree.proofs.Laws.{fault_at, not_begun}
use Rattle.sim_tree.proofs.Prefix.{FreeTo, free_reading, free-done, free-kept, free-mark, free-none, free-here, free-part, free-skip, Pending, p-nothing, p-kept, p-mark, p-any, p-none, p-here, p-inside, p-after, p-skip, before_fault, filled}
use Rattle.sim_tree.proofs.Follow.{follow, sample, rank, word, head_of, is_none, fits, is_some, ok, each, each_row, same_word, below, makes, all_fit, all_end}

both : {a b : Bool} → a ≡ true → b ≡ true → (a && b) ≡ true
both {a} {b} h i = ap (λ x. x && b) h ∙ i

pub left_true : (a b : Bool) → (a && b) ≡ true → a ≡ true
left_true true b h = refl
left_true false b h = h

pub right_true : (a b : Bool) → (a && b) ≡ true → b ≡ true
right_true true b h = h
right_true false b h = absurd (false≢true h)

not_true : (b : Bool) → not b ≡ true → b ≡ false
not_true true h = absurd (false≢true h)
not_true false h = refl

pub is_same : (a b : TokenKind) → is a b ≡ true → a ≡ b
unfolding is
is_same a b h = same_true the_type (search rules) a b h

pub is_self : (a : TokenKind) → is a a ≡ true
unfolding is
is_self k.Begin = refl
is_self _ = refl

pub one_itself : (a : TokenKind) (any : List TokenKind) → one_of (a ∷ any) a ≡ true
one_itself a any = ap (λ x. x || one_of any a) (is_self a)

-- what holds of each holds of one
each_get : (xs : List TokenKind) (p : TokenKind → Bool) (x : TokenKind) → each xs p ≡ true → one_of xs x ≡ true → p x ≡ true
each_get [] p x h i = absurd (false≢true i)
each_get (y ∷ ys) p x h i = go (is x y) refl (λ j. each_get ys p x (right_true (p y) (each ys p) h) j)
  where
    go : (b : Bool) → is x y ≡ b → (one_of ys x ≡ true → p x ≡ true) → p x ≡ true
    go true e later = subst (λ z. p z ≡ true) (sym (is_same x y e)) (left_true (p y) (each ys p) h)
    go false e later = later (sym (ap (λ b. b || one_of ys x) e) ∙ i)

pub row_get : (rs : List Row) (p : List Symbol → Bool) (a : TokenKind) (right : List Symbol) → each_row rs p ≡ true → chosen rs a ≡ Some right → p right ≡ true
row_get [] p a right h e = absurd (none e)
  where
    none : {l : List Symbol} → None ≡ Some l → ⊥
    none e = cc
row_get (At next here ∷ others) p a right h e = go (one_of next a) e (λ j. row_get others p a right (right_true (p here) (each_row others p) h) j)
  where
    some : Some here ≡ Some right → here ≡ right
    some e = cc

    go : (b : Bool) → (if b then Some here else chosen others a) ≡ Some right → (chosen others a ≡ Some right → p right ≡ true) → p right ≡ true
    go true e later = subst (λ z. p z ≡ true) (some e) (left_true (p here) (each_row others p) h)
    go false e later = later e
row_get (Else here ∷ others) p a right h e = subst (λ z. p z ≡ true) (some e) (left_true (p here) (each_row others p) h)
  where
    some : Some here ≡ Some right → here ≡ right
    some e = cc

-- inside a part that is followed by a kind, all can be followed
ok_inside : (t : Times) (n : Part) (x y : TokenKind) (right : List Symbol) → fits t n x ≡ true → right_side n y ≡ Some right → ok right x ≡ true
unfolding right_side
ok_inside t n x y right h e =
    row_get (rows n) (λ r. ok r x) y right (each_get (follow n) (λ z. each_row (rows n) (λ r. ok r z)) x (left_true _ _ (all_fit n)) (followed t h)) e
  where
    followed : (t : Times) → fits t n x ≡ true → one_of (follow n) x ≡ true
    followed Once h = h
    followed Maybe h = left_true (one_of (follow n) x) (is_none (chosen (rows n) x)) h
    followed Many h = left_true (one_of (follow n) x) (is_none (chosen (rows n) x)) h

none_is : (o : Option (List Symbol)) → is_none o ≡ true → o ≡ None
none_is None h = refl
none_is (Some right) h = absurd (false≢true h)

skips : (t : Times) (n : Part) (x : TokenKind) → fits t n x ≡ true → may_skip t ≡ true → right_side n x ≡ None
unfolding right_side
skips Once n x h may = absurd (false≢true may)
skips Maybe n x h may = none_is (chosen (rows n) x) (right_true (one_of (follow n) x) (is_none (chosen (rows n) x)) h)
skips Many n x h may = none_is (chosen (rows n) x) (right_true (one_of (follow n) x) (is_none (chosen (rows n) x)) h)

head-append : (a b : List TokenKind) (x : TokenKind) → head_of (a ++ b) x ≡ head_of a (head_of b x)
head-append [] b x = refl
head-append (y ∷ a) b x = refl

word-append : (a b : List Symbol) → word (a ++ b) ≡ word a ++ word b
word-append [] b = refl
word-append (Kept [] ∷ a) b = word-append a b
word-append (Kept (x ∷ any) ∷ a) b = ap (λ l. x ∷ l) (word-append a b)
word-append (Mark x ∷ a) b = ap (λ l. x ∷ l) (word-append a b)
word-append (Any x ∷ a) b = word-append a b
word-append (Here ∷ a) b = word-append a b
word-append (Of Once n ∷ a) b = ap (λ l. sample n ++ l) (word-append a b) ∙ sym (append_assoc (sample n) (word a) (word b))
word-append (Of Maybe n ∷ a) b = word-append a b
word-append (Of Many n ∷ a) b = word-append a b

-- what stands behind a, in a sequence
head_behind : (a c : List Symbol) (b : TokenKind) → head_of (word (a ++ c)) b ≡ head_of (word a) (head_of (word c) b)
head_behind a c b = ap (λ l. head_of l b) (word-append a c) ∙ head-append (word a) (word c) b

ok-append : (a c : List Symbol) (b : TokenKind) → ok a (head_of (word c) b) ≡ true → ok c b ≡ true → ok (a ++ c) b ≡ true
ok-append [] c b h i = i
ok-append (Kept any ∷ a) c b h i = both (left_true (is_some any) _ h) (ok-append a c b (right_true (is_some any) _ h) i)
ok-append (Mark x ∷ a) c b h i = ok-append a c b h i
ok-append (Any x ∷ a) c b h i =
    let z = head_of (word a) (head_of (word c) b) in
    both (ap (λ v. not (is v x)) (head_behind a c b) ∙ left_true (not (is z x)) _ h) (ok-append a c b (right_true (not (is z x)) _ h) i)
ok-append (Here ∷ a) c b h i = ok-append a c b h i
ok-append (Of t n ∷ a) c b h i =
    let z = head_of (word a) (head_of (word c) b) in
    both (ap (fits t n) (head_behind a c b) ∙ left_true (fits t n z) _ h) (ok-append a c b (right_true (fits t n z) _ h) i)

ok_part : (t : Times) (n : Part) (s : List Symbol) (b : TokenKind) → ok (Of t n ∷ s) b ≡ true → (fits t n (head_of (word s) b) ≡ true) × (ok s b ≡ true)
ok_part t n s b h = (left_true (fits t n (head_of (word s) b)) (ok s b) h, right_true (fits t n (head_of (word s) b)) (ok s b) h)

word-after : (t : Times) (n : Part) (s : List Symbol) (b : TokenKind) → ok (Of t n ∷ s) b ≡ true → (head_of (word (after t n s)) b ≡ head_of (word s) b) × (ok (after t n s) b ≡ true)
word-after Once n s b h = (refl, (ok_part Once n s b h).1)
word-after Maybe n s b h = (refl, (ok_part Maybe n s b h).1)
word-after Many n s b h = (refl, h)

ok_left : {ws : List Token} {s left : List Symbol} {i m : ℕ} → Pending ws s i m left → (b : TokenKind) → ok s b ≡ true → ok left b ≡ true
ok_left p-nothing b h = h
ok_left (p-kept {any = any} {s = s} w lt p) b h = ok_left p b (right_true (is_some any) (ok s b) h)
ok_left (p-mark w lt p) b h = ok_left p b h
ok_left (p-any w lt p) b h = ok_left p b h
ok_left (p-none {a = a} {s = s} w lt p) b h = ok_left p b (right_true (not (is (head_of (word s) b) a)) (ok s b) h)
ok_left (p-here lt p) b h = ok_left p b h
ok_left (p-inside {t = t} {n = n} {right = right} {s = s} {inner = inner} w lt p e) b h =
    let a = word-after t n s b h in
    let o = ok_left p (head_of (word s) b) (ok_inside t n _ _ right (ok_part t n s b h).0 w) in
    subst (λ l. ok l b ≡ true) (sym e) (ok-append inner (after t n s) b (subst (λ x. ok inner x ≡ true) (sym a.0) o) a.1)
ok_left (p-after {t = t} {n = n} {s = s} w le lt q p) b h = ok_left p b (word-after t n s b h).1
ok_left (p-skip {t = t} {n = n} {s = s} w may lt p) b h = ok_left p b (ok_part t n s b h).1

-- the tokens from i on have these kinds
abbrev pub Stand : List Token → ℕ → List TokenKind → Type 0
Stand us i [] = Unit {0}
Stand us i (x ∷ xs) = (kind_at us i ≡ x) × Stand us (i + 1) xs

-- the right side of which the word of a part is made
record Made (n : Part) (x : TokenKind) : Type 0 where
  right : List Symbol
  begins : right_side n (head_of (sample n) x) ≡ Some right
  same : word right ≡ sample n
  lower : below (rank n) right ≡ true

word_same : (xs ys : List TokenKind) → same_word xs ys ≡ true → xs ≡ ys
word_same [] [] h = refl
word_same (x ∷ xs) [] h = absurd (false≢true h)
word_same [] (y ∷ ys) h = absurd (false≢true h)
word_same (x ∷ xs) (y ∷ ys) h =
    ap (λ z. z ∷ xs) (is_same x y (left_true (is x y) (same_word xs ys) h)) ∙ ap (λ z. y ∷ z) (word_same xs ys (right_true (is x y) (same_word xs ys) h))

made : (n : Part) (x : TokenKind) → one_of (follow n) x ≡ true → Made n x
unfolding right_side
made n x h = go (chosen (rows n) (head_of (sample n) x)) refl (each_get (follow n) (λ z. makes n (chosen (rows n) (head_of (sample n) z))) x (right_true _ _ (all_fit n)) h)
  where
    go : (o : Option (List Symbol)) → chosen (rows n) (head_of (sample n) x) ≡ o → makes n o ≡ true → Made n x
    go None e m = absurd (false≢true m)
    go (Some r) e m = record {
      right = r;
      begins = e;
      same = word_same (word r) (sample n) (left_true (same_word (word r) (sample n)) (below (rank n) r) m);
      lower = right_true (same_word (word r) (sample n)) (below (rank n) r) m;
    }

below_part : (k : ℕ) (n : Part) (s : List Symbol) → below k (Of Once n ∷ s) ≡ true → (rank n < k) × (below k s ≡ true)
below_part k n s h = (go (leb_tells k (rank n)), right_true (not (nat_le k (rank n))) (below k s) h)
  where
    go : ((nat_le k (rank n) ≡ true) × (k ≤ rank n)) ⊎ ((nat_le k (rank n) ≡ false) × (rank n < k)) → rank n < k
    go (inl w) = absurd (false≢true (sym (ap not w.0) ∙ left_true (not (nat_le k (rank n))) (below k s) h))
    go (inr w) = w.1

-- what stands behind a word
rest_of : List TokenKind → TokenKind → List TokenKind → List TokenKind
rest_of [] b more = more
rest_of (y ∷ ys) b more = ys ++ b ∷ more

split_head : (w : List TokenKind) (b : TokenKind) (more : List TokenKind) → w ++ b ∷ more ≡ head_of w b ∷ rest_of w b more
unfolding rest_of
split_head [] b more = refl
split_head (y ∷ ys) b more = refl

module _ (us : List Token) where
  is_there : (i : ℕ) (a : TokenKind) → kind_at us i ≡ a → is (kind_at us i) a ≡ true
  is_there i a e = subst (λ z. is z a ≡ true) (sym e) (is_self a)

  stand_behind : (xs ys : List TokenKind) (i : ℕ) → Stand us i (xs ++ ys) → Stand us (i + length xs) ys
  stand_behind [] ys i h = subst (λ m. Stand us m ys) (let e : i ≡ i + 0 = omega arith in e) h
  stand_behind (x ∷ xs) ys i h =
      let e : i + 1 + length xs ≡ i + length (x ∷ xs) = omega arith in subst (λ m. Stand us m ys) e (stand_behind xs ys (i + 1) h.1)

  -- one part, and then the rest
  then_free : (n : Part) (s : List Symbol) (i m j : ℕ) → FreeTo us (one n) i m → FreeTo us s m j → FreeTo us (Of Once n ∷ s) i j
  then_free n s i m j a b =
      let p = a.1.by 0 in
      let q = b.1.by 0 in
      joined (p.1 (p.0 + q.0) (omega arith)) (q.1 (p.0 + q.0) (omega arith))
    where
      joined : {limit : ℕ} {f g : Forest} → Reads limit us 0 (one n) i f m → Reads limit us 0 s m g j → FreeTo us (Of Once n ∷ s) i j
      joined (reads-part c sh r reads-done) q = (_, free-part c (free_reading r) (free_reading q))
      joined (reads-skip c may r) q = absurd (false≢true may)

  next_is : (w more : List TokenKind) (b : TokenKind) (i : ℕ) → Stand us i (w ++ b ∷ more) → kind_at us i ≡ head_of w b
  next_is [] more b i h = h.0
  next_is (x ∷ w) more b i h = h.0

  -- the words of the parts below a number are read
  abbrev Single : ℕ → Type 0
  Single k = (n : Part) → rank n < k → (x : TokenKind) → one_of (follow n) x ≡ true → (more : List TokenKind) (i : ℕ)
      → Stand us i (sample n ++ x ∷ more) → FreeTo us (one n) i (i + length (sample n))

  completed : (k : ℕ) → Single k → (s : List Symbol) (b : TokenKind) (more : List TokenKind) (i : ℕ) → ok s b ≡ true → below k s ≡ true
      → Stand us i (word s ++ b ∷ more) → FreeTo us s i (i + length (word s))
  completed k single [] b more i h low w = let e : i ≡ i + 0 = omega arith in subst (λ m. FreeTo us [] i m) e (done, free-done)
  completed k single (Kept [] ∷ s) b more i h low w = absurd (false≢true h)
  completed k single (Kept (a ∷ any) ∷ s) b more i h low w =
      let r = completed k single s b more (i + 1) h low w.1 in
      let e : i + 1 + length (word s) ≡ i + length (a ∷ word s) = omega arith in
      subst (λ m. FreeTo us (Kept (a ∷ any) ∷ s) i m) e (_, free-kept (subst (λ z. one_of (a ∷ any) z ≡ true) (sym w.0) (one_itself a any)) r.1)
  completed k single (Mark a ∷ s) b more i h low w =
      let r = completed k single s b more (i + 1) h low w.1 in
      let e : i + 1 + length (word s) ≡ i + length (a ∷ word s) = omega arith in
      subst (λ m. FreeTo us (Mark a ∷ s) i m) e (r.0, free-mark (is_there i a w.0) r.1)
  completed k single (Any a ∷ s) b more i h low w =
      let z = head_of (word s) b in
      let r = completed k single s b more i (right_true (not (is z a)) (ok s b) h) low w in
      let none = not_true (is z a) (left_true (not (is z a)) (ok s b) h) in
      (r.0, free-none (subst (λ y. is y a ≡ false) (sym (next_is (word s) more b i w)) none) r.1)
  completed k single (Here ∷ s) b more i h low w = let r = completed k single s b more i h low w in (_, free-here r.1)
  completed k single (Of Once n ∷ s) b more i h low w =
      let o = ok_part Once n s b h in
      let l = below_part k n s low in
      let whole = subst (λ z. Stand us i z) (append_assoc (sample n) (word s) (b ∷ more)) w in
      let first = single n l.0 (head_of (word s) b) o.0 (rest_of (word s) b more) i (subst (λ z. Stand us i (sample n ++ z)) (split_head (word s) b more) whole) in
      let r = completed k single s b more (i + length (sample n)) o.1 l.1 (stand_behind (sample n) (word s ++ b ∷ more) i whole) in
      let e : i + length (sample n) + length (word s) ≡ i + length (sample n ++ word s) = omega (arith, length-append (sample n) (word s)) in
      subst (λ m. FreeTo us (Of Once n ∷ s) i m) e (then_free n s i (i + length (sample n)) (i + length (sample n) + length (word s)) first r)
  completed k single (Of Maybe n ∷ s) b more i h low w =
      let o = ok_part Maybe n s b h in
      let r = completed k single s b more i o.1 low w in
      (r.0, free-skip (subst (λ z. right_side n z ≡ None) (sym (next_is (word s) more b i w)) (skips Maybe n (head_of (word s) b) o.0 refl)) refl r.1)
  completed k single (Of Many n ∷ s) b more i h low w =
      let o = ok_part Many n s b h in
      let r = completed k single s b more i o.1 low w in
      (r.0, free-skip (subst (λ z. right_side n z ≡ None) (sym (next_is (word s) more b i w)) (skips Many n (head_of (word s) b) o.0 refl)) refl r.1)

  each_single : (k : ℕ) → Single k
  each_single zero n lt x f more i w = absurd (omega (arith, lt))
  each_single (suc k) n lt x f more i w =
      let m = made n x f in
      let fine = ok_inside Once n x (head_of (sample n) x) m.right f m.begins in
      let lower : Single (rank n) = λ p less. each_single k p (omega (arith, less, lt)) in
      let r = completed (rank n) lower m.right x more i fine m.lower (subst (λ z. Stand us i (z ++ x ∷ more)) (sym m.same) w) in
      let there : kind_at us i ≡ head_of (sample n) x = next_is (sample n) more x i w in
      subst (λ z. FreeTo us (one n) i (i + length z)) m.same (_, free-part (subst (λ z. right_side n z ≡ Some m.right) (sym there) m.begins) r.1 free-done)

-- a number above that of each part that stands once
enough : List Symbol → ℕ
enough [] = 0
enough (Of Once n ∷ s) = rank n + 1 + enough s
enough (_ ∷ s) = enough s

below_more : (k m : ℕ) (s : List Symbol) → k ≤ m → below k s ≡ true → below m s ≡ true
below_more k m [] le h = refl
below_more k m (Kept any ∷ s) le h = below_more k m s le h
below_more k m (Mark a ∷ s) le h = below_more k m s le h
below_more k m (Any a ∷ s) le h = below_more k m s le h
below_more k m (Here ∷ s) le h = below_more k m s le h
below_more k m (Of Once n ∷ s) le h =
    let p = below_part k n s h in both (ap not (leb_false m (rank n) (omega (arith, p.0, le)))) (below_more k m s le p.1)
  where
    leb_false : (a b : ℕ) → b < a → nat_le a b ≡ false
    leb_false a b lt = go (leb_tells a b)
      where
        go : ((nat_le a b ≡ true) × (a ≤ b)) ⊎ ((nat_le a b ≡ false) × (b < a)) → nat_le a b ≡ false
        go (inl w) = absurd (omega (arith, w.1, lt))
        go (inr w) = w.0
below_more k m (Of Maybe n ∷ s) le h = below_more k m s le h
below_more k m (Of Many n ∷ s) le h = below_more k m s le h

below_enough : (s : List Symbol) → below (enough s) s ≡ true
unfolding enough
below_enough [] = refl
below_enough (Kept any ∷ s) = below_enough s
below_enough (Mark a ∷ s) = below_enough s
below_enough (Any a ∷ s) = below_enough s
below_enough (Here ∷ s) = below_enough s
below_enough (Of Once n ∷ s) =
    both (ap not (leb_false (rank n + 1 + enough s) (rank n) (omega arith))) (below_more (enough s) (rank n + 1 + enough s) s (omega arith) (below_enough s))
  where
    leb_false : (a b : ℕ) → b < a → nat_le a b ≡ false
    leb_false a b lt = go (leb_tells a b)
      where
        go : ((nat_le a b ≡ true) × (a ≤ b)) ⊎ ((nat_le a b ≡ false) × (b < a)) → nat_le a b ≡ false
        go (inl w) = absurd (omega (arith, w.1, lt))
        go (inr w) = w.0
below_enough (Of Maybe n ∷ s) = below_enough s
below_enough (Of Many n ∷ s) = below_enough s

-- a token of a kind
abbrev blank : TokenKind → Token
blank kind = record { lexeme = bare kind; place = 0; line = record { 0 = 0 } }

-- the first m tokens, with ends where there are fewer
abbrev front : List Token → ℕ → List Token
front ws zero = []
front [] (suc m) = finish ∷ front [] m
front (w ∷ ws) (suc m) = w ∷ front ws m

length-front : (ws : List Token) (m : ℕ) → length (front ws m) ≡ m
length-front ws zero = refl
length-front [] (suc m) = ap suc (length-front [] m)
length-front (w ∷ ws) (suc m) = ap suc (length-front ws m)

front-get : (ws : List Token) (m o : ℕ) (l : List Token) → o < m → slice_index_or ws o finish ≡ slice_index_or (front ws m ++ l) o finish
front-get ws zero o l lt = absurd (omega (arith, lt))
front-get [] (suc m) zero l lt = refl
front-get [] (suc m) (suc o) l lt = front-get [] m o l (omega (arith, lt))
front-get (w ∷ ws) (suc m) zero l lt = refl
front-get (w ∷ ws) (suc m) (suc o) l lt = front-get ws m o l (omega (arith, lt))

-- the tokens below m, and then tokens of these kinds
abbrev gone_on : List Token → ℕ → List TokenKind → List Token
gone_on ws m xs = front ws m ++ map blank xs

past_end : (us : List Token) → slice_index_or us (length us) finish ≡ finish
past_end [] = refl
past_end (u ∷ us) = past_end us

stands : (pre : List Token) (xs : List TokenKind) → Stand (pre ++ map blank xs) (length pre) (xs ++ k.EndOfSource ∷ [])
unfolding kind_at
stands pre [] =
    let nil : pre ++ [] ≡ pre = search rules in
    (ap (λ l. (slice_index_or l (length pre) finish).lexeme.kind) nil ∙ ap (λ w. w.lexeme.kind) (past_end pre), tt)
stands pre (x ∷ xs) =
    let here = ap (λ w. w.lexeme.kind) (get_or-append_seam pre (blank x) (map blank xs) finish) in
    let n : length (pre ++ blank x ∷ []) ≡ length pre + 1 = omega (arith, length-append pre (blank x ∷ [])) in
    let rest = stands (pre ++ blank x ∷ []) xs in
    let rest' = subst (λ l. Stand l (length (pre ++ blank x ∷ [])) (xs ++ k.EndOfSource ∷ [])) (append_assoc pre (blank x ∷ []) (map blank xs)) rest in
    (here, subst (λ m. Stand (pre ++ blank x ∷ map blank xs) m (xs ++ k.EndOfSource ∷ [])) n rest')

-- the tokens before a fault begin the part
pub begun : (limit d : ℕ) (ws : List Token) (n : Part) (i : ℕ) (e : Fault) → Fails limit ws d (one n) i e → Begins ws (one n) i (fault_at e)
begun limit d ws n i e h =
    let seen = before_fault limit ws h in
    let m = seen.at in
    let left = seen.left in
    let xs = word left.0 in
    let us = gone_on ws m xs in
    let fine = ok_left left.1 k.EndOfSource (both (all_end n) refl) in
    let there = subst (λ j. Stand us j (xs ++ k.EndOfSource ∷ [])) (length-front ws m) (stands (front ws m) xs) in
    let rest = completed us (enough left.0) (each_single us (enough left.0)) left.0 k.EndOfSource [] m fine (below_enough left.0) there in
    let same : SameBelow m ws us = λ o lt. front-get ws m o (map blank xs) lt in
    let all = filled ws us left.1 same (m + length xs) rest in
    let r = all.1.by 0 in
    let size : m + length xs ≡ length us = omega (arith, length-append (front ws m) (map blank xs), length-front ws m, length-map xs blank) in
    record {
      whole = us;
      same = λ o lt. same o (omega (arith, lt, seen.behind));
      limit = r.0;
      forest = all.0;
      reads = subst (λ j. Reads r.0 us 0 (one n) i all.0 j) size (r.1 r.0 (omega arith));
    }

-- an unexpected token is the first bad one
pub first_bad : (limit d : ℕ) (ws : List Token) (n : Part) (i k : ℕ) → Fails limit ws d (one n) i (Unexpected k) → IsFirstBad ws (one n) i k
first_bad limit d ws n i k h = record {
  before = begun limit d ws n i (Unexpected k) h;
  not_with = λ whole same other f end r.
      let p = (free_reading r).by d in
      not_begun limit d ws (one n) i k h whole same p.0 f end (p.1 p.0 (omega arith));
}
