-- The lists of sets, read link by link: where the neighbours of a linkage stand, and which links a change leaves.
use Rattle.std.proofs.Common.{◌≡◌, ◌<◌, ◌≤◌, ℕ, zero, suc, Bool, true, false, List, [], ◌∷◌, ◌++◌, length, Option, Some, None, ◌⊎◌, inl, inr, ⊎_elim, refl, sym, ap, ◌∙◌, subst, arith}
use Rattle.std.proofs.lemmas.Bool.{cases_lt}
use Rattle.std.proofs.lemmas.Bool.Decides.{nat_tests}
use Rattle.std.specs.List.{position_or_len}
use Rattle.std.specs.Prelude.{◌==◌, ◌+◌, if◌then◌else◌, nat_lt, slice_get}
use Rattle.simset.specs.Instances.{linkage_of}
use Rattle.simset.specs.Sets.{Head, Link, Linkage, after, before_or, each_from, emptied, first, following, going_into, head_from, head_of, insert_after, insert_before, is_head, is_head_at, is_link_at, last_or, link_before, linkage_before, links_in, links_of, next_link, pred_of, preceding, prev_of, suc_of, times_among, without}
use Rattle.sim_sound.proofs.Lists.{equal_numbers, if_false, if_true, numbers_equal}

-- a link stands in a list
pub data Stands (x : ℕ) : List ℕ → Type 0 where
  stands_first : {xs : List ℕ} → Stands x (x ∷ xs)
  stands_later : {y : ℕ} {xs : List ℕ} → Stands x xs → Stands x (y ∷ xs)

stands_here : (x y : ℕ) (xs : List ℕ) → x ≡ y → Stands x (y ∷ xs)
stands_here x y xs e = subst (λ z. Stands x (z ∷ xs)) e stands_first

by_test : {A : Type 0} (b : Bool) → (b ≡ true → A) → (b ≡ false → A) → A
by_test true f g = f refl
by_test false f g = g refl

counted_stands : (x : ℕ) (xs : List ℕ) → (times_among x xs == 0) ≡ false → Stands x xs
counted_stands x [] e = absurd (cc)
counted_stands x (y ∷ ys) e =
    by_test (y == x) (λ same. stands_here x y ys (sym (numbers_equal y x same)))
    (λ other. stands_later (counted_stands x ys (none_more (times_among x ys) (sym (ap (λ z. (z + times_among x ys) == 0) (if_false (y == x) 1 0 other)) ∙ e))))
  where
    none_more : (n : ℕ) → (0 + n == 0) ≡ false → (n == 0) ≡ false
    none_more n f = grind (arith, f)

-- ---- lists that were changed

stands_cases : (z y : ℕ) (ys : List ℕ) → Stands z (y ∷ ys) → (z ≡ y) ⊎ Stands z ys
stands_cases _ y ys stands_first = inl refl
stands_cases z y ys (stands_later a) = inr a

out_stands : (z x : ℕ) (xs : List ℕ) → Stands z (without x xs) → Stands z xs
out_stands z x [] a = a
out_stands z x (y ∷ ys) a =
    by_test (y == x) (λ same. stands_later (out_stands z x ys (subst (Stands z) (if_true (y == x) (without x ys) (y ∷ without x ys) same) a)))
    (λ other. ⊎_elim (λ same. stands_here z y ys same) (λ b. stands_later (out_stands z x ys b)) (stands_cases z y (without x ys) (subst (Stands z) (if_false (y == x) (without x ys) (y ∷ without x ys) other) a)))

-- it stood there, or was put beside one that stands there
abbrev pub Beside : (z x p : ℕ) → List ℕ → Type 0
Beside z x p xs = Stands z xs ⊎ ((z ≡ x) × Stands p xs)

beside_later : (z x p y : ℕ) (xs : List ℕ) → Beside z x p xs → Beside z x p (y ∷ xs)
beside_later z x p y xs a = ⊎_elim (λ b. inl (stands_later b)) (λ b. inr (b.0, stands_later b.1)) a

beside_rest : (z x p y : ℕ) (xs ys : List ℕ) → (Stands z ys → Beside z x p xs) → Stands z (y ∷ ys) → Beside z x p (y ∷ xs)
beside_rest z x p y xs ys go a = ⊎_elim (λ same. inl (stands_here z y xs same)) (λ b. beside_later z x p y xs (go b)) (stands_cases z y ys a)

inserted_after : (z x p : ℕ) (xs : List ℕ) → Stands z (insert_after x p xs) → Beside z x p xs
inserted_after z x p [] a = inl a
inserted_after z x p (y ∷ ys) a =
    by_test (y == p)
    (λ same. ⊎_elim (λ here. inl (stands_here z y ys here))
    (λ b. ⊎_elim (λ new. inr (new, stands_here p y ys (sym (numbers_equal y p same)))) (λ c. beside_later z x p y ys (inserted_after z x p ys c)) (stands_cases z x (insert_after x p ys) b))
    (stands_cases z y (x ∷ insert_after x p ys) (subst (Stands z) (if_true (y == p) (y ∷ x ∷ insert_after x p ys) (y ∷ insert_after x p ys) same) a)))
    (λ other. beside_rest z x p y ys (insert_after x p ys) (λ c. inserted_after z x p ys c) (subst (Stands z) (if_false (y == p) (y ∷ x ∷ insert_after x p ys) (y ∷ insert_after x p ys) other) a))

inserted_before : (z x p : ℕ) (xs : List ℕ) → Stands z (insert_before x p xs) → Beside z x p xs
inserted_before z x p [] a = inl a
inserted_before z x p (y ∷ ys) a =
    by_test (y == p)
    (λ same. ⊎_elim (λ new. inr (new, stands_here p y ys (sym (numbers_equal y p same))))
    (λ b. beside_rest z x p y ys (insert_before x p ys) (λ c. inserted_before z x p ys c) b)
    (stands_cases z x (y ∷ insert_before x p ys) (subst (Stands z) (if_true (y == p) (x ∷ y ∷ insert_before x p ys) (y ∷ insert_before x p ys) same) a)))
    (λ other. beside_rest z x p y ys (insert_before x p ys) (λ c. inserted_before z x p ys c) (subst (Stands z) (if_false (y == p) (x ∷ y ∷ insert_before x p ys) (y ∷ insert_before x p ys) other) a))

put_behind : (z x : ℕ) (xs : List ℕ) → Stands z (xs ++ x ∷ []) → Stands z xs ⊎ (z ≡ x)
put_behind z x [] a = ⊎_elim (λ same. inr same) (λ b. elim b [ ]) (stands_cases z x [] a)
put_behind z x (y ∷ ys) a = ⊎_elim (λ same. inl (stands_here z y ys same)) (λ b. ⊎_elim (λ c. inl (stands_later c)) (λ c. inr c) (put_behind z x ys b)) (stands_cases z y (ys ++ x ∷ []) a)

-- what stands in the list of a head after a link x was put at p: it stood there, or it is x, and p is the head or stands there
abbrev pub PutAt : (z x p h : ℕ) → List ℕ → Type 0
PutAt z x p h xs = Stands z xs ⊎ ((z ≡ x) × ((h ≡ p) ⊎ Stands p xs))

beside_put : (z x p h : ℕ) (xs : List ℕ) → Beside z x p (without x xs) → PutAt z x p h xs
beside_put z x p h xs a = ⊎_elim (λ b. inl (out_stands z x xs b)) (λ b. inr (b.0, inr (out_stands p x xs b.1))) a

first_put : (z x p h : ℕ) (xs : List ℕ) → h ≡ p → Stands z (x ∷ without x xs) → PutAt z x p h xs
first_put z x p h xs same a = ⊎_elim (λ new. inr (new, inl same)) (λ b. inl (out_stands z x xs b)) (stands_cases z x (without x xs) a)

last_put : (z x p h : ℕ) (xs : List ℕ) → h ≡ p → Stands z (without x xs ++ x ∷ []) → PutAt z x p h xs
last_put z x p h xs same a = ⊎_elim (λ b. inl (out_stands z x xs b)) (λ b. inr (b, inl same)) (put_behind z x (without x xs) a)

pub followed : (z x p h : ℕ) (xs : List ℕ) → Stands z (following x (Some p) h xs) → PutAt z x p h xs
followed z x p h xs a =
    by_test (h == p) (λ same. first_put z x p h xs (numbers_equal h p same) (subst (Stands z) (if_true (h == p) (x ∷ without x xs) (insert_after x p (without x xs)) same) a))
    (λ other. beside_put z x p h xs (inserted_after z x p (without x xs) (subst (Stands z) (if_false (h == p) (x ∷ without x xs) (insert_after x p (without x xs)) other) a)))

pub preceded : (z x p h : ℕ) (xs : List ℕ) → Stands z (preceding x (Some p) h xs) → PutAt z x p h xs
preceded z x p h xs a =
    by_test (h == p) (λ same. last_put z x p h xs (numbers_equal h p same) (subst (Stands z) (if_true (h == p) (without x xs ++ x ∷ []) (insert_before x p (without x xs)) same) a))
    (λ other. beside_put z x p h xs (inserted_before z x p (without x xs) (subst (Stands z) (if_false (h == p) (without x xs ++ x ∷ []) (insert_before x p (without x xs)) other) a)))

pub gone_into : (z x p h : ℕ) (xs : List ℕ) → Stands z (going_into x (Some p) h xs) → PutAt z x p h xs
gone_into z x p h xs a =
    by_test (h == p) (λ same. last_put z x p h xs (numbers_equal h p same) (subst (Stands z) (if_true (h == p) (without x xs ++ x ∷ []) (without x xs) same) a))
    (λ other. inl (out_stands z x xs (subst (Stands z) (if_false (h == p) (without x xs ++ x ∷ []) (without x xs) other) a)))

pub left_out : (z x : ℕ) (xs : List ℕ) → Stands z (without x xs) → Stands z xs
left_out z x xs a = out_stands z x xs a

pub cleared : (z p h : ℕ) (xs : List ℕ) → Stands z (emptied p h xs) → Stands z xs
cleared z p h xs a =
    by_test (h == p) (λ same. nothing (subst (Stands z) (if_true (h == p) [] xs same) a))
    (λ other. subst (Stands z) (if_false (h == p) [] xs other) a)
  where
    nothing : Stands z [] → Stands z xs
    nothing b = elim b [ ]

-- ---- all lists

pub record Was (change : ℕ → List ℕ → List ℕ) (sets : List Linkage) (k h : ℕ) (ys : List ℕ) : Type 0 where
  pub links : List ℕ
  pub is : slice_get sets h ≡ Some (Head links)
  pub became : ys ≡ change (k + h) links

same_head : (xs ys : List ℕ) → Some (Head xs) ≡ Some (Head ys) → xs ≡ ys
same_head xs ys e = cc

pub was_head : (change : ℕ → List ℕ → List ℕ) (k : ℕ) (sets : List Linkage) (h : ℕ) (ys : List ℕ) → slice_get (each_from change k sets) h ≡ Some (Head ys) → Was change sets k h ys
was_head change k [] h ys e = absurd (cc)
was_head change k (Link ∷ rest) zero ys e = absurd (cc)
was_head change k (Link ∷ rest) (suc h) ys e = let r = was_head change (k + 1) rest h ys e in record { links = r.links; is = r.is; became = r.became ∙ ap (λ z. change z r.links) (let q : k + 1 + h ≡ k + suc h = omega arith in q) }
was_head change k (Head xs ∷ rest) zero ys e = record { links = xs; is = refl; became = same_head ys (change k xs) (sym e) ∙ ap (λ z. change z xs) (let q : k ≡ k + 0 = omega arith in q) }
was_head change k (Head xs ∷ rest) (suc h) ys e = let r = was_head change (k + 1) rest h ys e in record { links = r.links; is = r.is; became = r.became ∙ ap (λ z. change z r.links) (let q : k + 1 + h ≡ k + suc h = omega arith in q) }

pub each_long : (change : ℕ → List ℕ → List ℕ) (k : ℕ) (sets : List Linkage) → length (each_from change k sets) ≡ length sets
each_long change k [] = refl
each_long change k (Link ∷ rest) = ap suc (each_long change (k + 1) rest)
each_long change k (Head xs ∷ rest) = ap suc (each_long change (k + 1) rest)

pub each_head : (change : ℕ → List ℕ → List ℕ) (k : ℕ) (sets : List Linkage) (n : ℕ) → is_head_at (each_from change k sets) n ≡ is_head_at sets n
each_head change k [] n = refl
each_head change k (Link ∷ rest) zero = refl
each_head change k (Head xs ∷ rest) zero = refl
each_head change k (Link ∷ rest) (suc n) = each_head change (k + 1) rest n
each_head change k (Head xs ∷ rest) (suc n) = each_head change (k + 1) rest n

pub each_link : (change : ℕ → List ℕ → List ℕ) (k : ℕ) (sets : List Linkage) (n : ℕ) → is_link_at (each_from change k sets) n ≡ is_link_at sets n
each_link change k [] n = refl
each_link change k (Link ∷ rest) zero = refl
each_link change k (Head xs ∷ rest) zero = refl
each_link change k (Link ∷ rest) (suc n) = each_link change (k + 1) rest n
each_link change k (Head xs ∷ rest) (suc n) = each_link change (k + 1) rest n

-- ---- neighbours

-- a head, with its list
pub record HeadThere (sets : List Linkage) (h : ℕ) (xs : List ℕ) : Type 0 where
  pub is : slice_get sets h ≡ Some (Head xs)
  pub links : links_of sets h ≡ xs

pub head_there : (sets : List Linkage) (h : ℕ) → is_head_at sets h ≡ true → (xs : List ℕ) × HeadThere sets h xs
head_there sets h e = by_linkage (slice_get sets h) refl e
  where
    by_linkage : (x : Option Linkage) → slice_get sets h ≡ x → is_head x ≡ true → (xs : List ℕ) × HeadThere sets h xs
    by_linkage (Some (Head xs)) at is = (xs, record { is = at; links = ap links_in at })
    by_linkage (Some Link) at is = absurd (cc)
    by_linkage None at is = absurd (cc)

-- y stands in the list of a head, which is x or has x in its list
pub record Near (sets : List Linkage) (x y : ℕ) : Type 0 where
  pub head : ℕ
  pub links : List ℕ
  pub is : slice_get sets head ≡ Some (Head links)
  pub here : Stands y links
  pub from : (x ≡ head) ⊎ Stands x links

-- the head in whose list x stands
pub record Within (sets : List Linkage) (x h : ℕ) : Type 0 where
  pub links : List ℕ
  pub is : slice_get sets h ≡ Some (Head links)
  pub stands : Stands x links

same_number : (a b : ℕ) → Some a ≡ Some b → a ≡ b
same_number a b e = cc

within_from : (x k : ℕ) (sets : List Linkage) (h : ℕ) → head_from x k sets ≡ Some h → (n : ℕ) × (h ≡ k + n) × Within sets x n
within_from x k [] h e = absurd (cc)
within_from x k (Link ∷ rest) h e = let r = within_from x (k + 1) rest h e in let same = r.1 in (suc r.0, (let q : h ≡ k + suc r.0 = omega (arith, same) in q), record { links = (r.2).links; is = (r.2).is; stands = (r.2).stands })
within_from x k (Head xs ∷ rest) h e =
    by_test (times_among x xs == 0)
    (λ none. let r = within_from x (k + 1) rest h (sym (if_true (times_among x xs == 0) (head_from x (k + 1) rest) (Some k) none) ∙ e) in let same = r.1 in (suc r.0, (let q : h ≡ k + suc r.0 = omega (arith, same) in q), record { links = (r.2).links; is = (r.2).is; stands = (r.2).stands }))
    (λ some. let same : k ≡ h = same_number k h (sym (if_false (times_among x xs == 0) (head_from x (k + 1) rest) (Some k) some) ∙ e) in (0, (let q : h ≡ k + 0 = omega (arith, same) in q), record { links = xs; is = refl; stands = counted_stands x xs some }))

within : (sets : List Linkage) (x h : ℕ) → head_of sets x ≡ Some h → Within sets x h
unfolding head_of
within sets x h e = let r = within_from x 0 sets h e in let same : r.0 ≡ h = (let q = r.1 in omega (arith, q)) in subst (Within sets x) same r.2

first_stands : (xs : List ℕ) (y : ℕ) → first xs ≡ Some y → Stands y xs
first_stands [] y e = absurd (cc)
first_stands (x ∷ xs) y e = stands_here y x xs (same_number y x (sym e))

after_stands : (x : ℕ) (xs : List ℕ) (y : ℕ) → after x xs ≡ Some y → Stands y xs
after_stands x [] y e = absurd (cc)
after_stands x (z ∷ zs) y e =
    by_test (z == x) (λ same. stands_later (first_stands zs y (sym (if_true (z == x) (first zs) (after x zs) same) ∙ e)))
    (λ other. stands_later (after_stands x zs y (sym (if_false (z == x) (first zs) (after x zs) other) ∙ e)))

-- the last one, or what is there in its place
last_stands : (d : Option ℕ) (xs : List ℕ) (y : ℕ) → last_or d xs ≡ Some y → (d ≡ Some y) ⊎ Stands y xs
last_stands d [] y e = inl e
last_stands d (x ∷ xs) y e = inr (⊎_elim (λ same. stands_here y x xs (same_number y x (sym same))) (λ b. stands_later b) (last_stands (Some x) xs y e))

before_stands : (d : Option ℕ) (x : ℕ) (xs : List ℕ) (y : ℕ) → before_or d x xs ≡ Some y → (d ≡ Some y) ⊎ Stands y xs
before_stands d x [] y e = absurd (cc)
before_stands d x (z ∷ zs) y e =
    by_test (z == x) (λ same. inl (sym (if_true (z == x) d (before_or (Some z) x zs) same) ∙ e))
    (λ other. inr (⊎_elim (λ same. stands_here y z zs (same_number y z (sym same))) (λ b. stands_later b) (before_stands (Some z) x zs y (sym (if_false (z == x) d (before_or (Some z) x zs) other) ∙ e))))

no_number : (y : ℕ) → None ≡ Some y → ⊥
no_number y e = cc

of_head : (sets : List Linkage) (x y : ℕ) → is_head_at sets x ≡ true → ((xs : List ℕ) → links_of sets x ≡ xs → Stands y xs) → Near sets x y
of_head sets x y is stands = let r = head_there sets x is in record { head = x; links = r.0; is = (r.1).is; here = stands r.0 (r.1).links; from = inl refl }

of_link : (sets : List Linkage) (x y h : ℕ) → head_of sets x ≡ Some h → Stands y (links_of sets h) → Near sets x y
of_link sets x y h e stands = let r = within sets x h e in record { head = h; links = r.links; is = r.is; here = subst (Stands y) (ap links_in r.is) stands; from = inr r.stands }

pub suc_near : (sets : List Linkage) (x y : ℕ) → suc_of sets x ≡ Some y → Near sets x y
unfolding suc_of
suc_near sets x y e =
    by_test (is_head_at sets x)
    (λ head. let f : first (links_of sets x) ≡ Some y = sym (if_true (is_head_at sets x) (first (links_of sets x)) (next_link sets x (head_of sets x)) head) ∙ e in of_head sets x y head (λ xs same. first_stands xs y (ap first (sym same) ∙ f)))
    (λ link. by_head (head_of sets x) refl (sym (if_false (is_head_at sets x) (first (links_of sets x)) (next_link sets x (head_of sets x)) link) ∙ e))
  where
    by_head : (h : Option ℕ) → head_of sets x ≡ h → next_link sets x h ≡ Some y → Near sets x y
    by_head None at f = absurd (cc)
    by_head (Some h) at f = of_link sets x y h at (after_stands x (links_of sets h) y f)

pub pred_near : (sets : List Linkage) (x y : ℕ) → pred_of sets x ≡ Some y → Near sets x y
unfolding pred_of
pred_near sets x y e =
    by_test (is_head_at sets x)
    (λ head. let f : last_or None (links_of sets x) ≡ Some y = sym (if_true (is_head_at sets x) (last_or None (links_of sets x)) (link_before sets x (head_of sets x)) head) ∙ e in of_head sets x y head (λ xs same. ⊎_elim (λ n. absurd (no_number y n)) (λ b. b) (last_stands None xs y (ap (last_or None) (sym same) ∙ f))))
    (λ link. by_head (head_of sets x) refl (sym (if_false (is_head_at sets x) (last_or None (links_of sets x)) (link_before sets x (head_of sets x)) link) ∙ e))
  where
    by_head : (h : Option ℕ) → head_of sets x ≡ h → link_before sets x h ≡ Some y → Near sets x y
    by_head None at f = absurd (cc)
    by_head (Some h) at f = of_link sets x y h at (⊎_elim (λ n. absurd (no_number y n)) (λ b. b) (before_stands None x (links_of sets h) y f))

-- the linkage before may also be the head: of the list of x, or x itself
pub data Previous (sets : List Linkage) (x y : ℕ) : Type 0 where
  a_link : Near sets x y → Previous sets x y
  its_head : Within sets x y → Previous sets x y
  a_head_itself : x ≡ y → Previous sets x y

pub prev_near : (sets : List Linkage) (x y : ℕ) → prev_of sets x ≡ Some y → Previous sets x y
unfolding prev_of
prev_near sets x y e =
    by_test (is_head_at sets x)
    (λ head. (
    let f : last_or (Some x) (links_of sets x) ≡ Some y = sym (if_true (is_head_at sets x) (last_or (Some x) (links_of sets x)) (linkage_before sets x (head_of sets x)) head) ∙ e in
    let r = head_there sets x head in
    ⊎_elim (λ same. a_head_itself (same_number x y same)) (λ b. a_link (record { head = x; links = r.0; is = (r.1).is; here = b; from = inl refl })) (last_stands (Some x) r.0 y (ap (last_or (Some x)) (sym (r.1).links) ∙ f))))
    (λ link. by_head (head_of sets x) refl (sym (if_false (is_head_at sets x) (last_or (Some x) (links_of sets x)) (linkage_before sets x (head_of sets x)) link) ∙ e))
  where
    by_head : (h : Option ℕ) → head_of sets x ≡ h → linkage_before sets x h ≡ Some y → Previous sets x y
    by_head None at f = absurd (cc)
    by_head (Some h) at f = ⊎_elim (λ same. its_head (subst (Within sets x) (same_number h y same) (within sets x h at))) (λ b. a_link (of_link sets x y h at b)) (before_stands (Some h) x (links_of sets h) y f)

-- ---- the numbers of linkages

-- where an instance does not stand first, it is found further on or nowhere
data Further (x j : ℕ) (xs : List ℕ) : Type 0 where
  found_further : (n : ℕ) → linkage_of xs j ≡ Some n → linkage_of (x ∷ xs) j ≡ Some (suc n) → Further x j xs
  nowhere : linkage_of xs j ≡ None → linkage_of (x ∷ xs) j ≡ None → Further x j xs

found_first : (x j : ℕ) (xs : List ℕ) → (x == j) ≡ true → linkage_of (x ∷ xs) j ≡ Some 0
found_first x j xs e =
    let t : nat_lt 0 (suc (length xs)) ≡ true = grind (arith, nat_tests) in
    let shown : linkage_of (x ∷ xs) j ≡ (if nat_lt 0 (suc (length xs)) then Some 0 else None) = rw e refl in
    shown ∙ if_true (nat_lt 0 (suc (length xs))) (Some 0) None t

-- how far one has to go
abbrev place_of : ℕ → List ℕ → ℕ
place_of j xs = position_or_len (λ k. k == j) xs

further : (x j : ℕ) (xs : List ℕ) → (x == j) ≡ false → Further x j xs
further x j xs e = ⊎_elim (λ a. under a) (λ a. over a) (cases_lt (place_of j xs) (length xs))
  where
    shown : linkage_of (x ∷ xs) j ≡ (if nat_lt (1 + place_of j xs) (suc (length xs)) then Some (1 + place_of j xs) else None)
    shown = rw e refl

    under : place_of j xs < length xs → Further x j xs
    under a =
        let t : nat_lt (place_of j xs) (length xs) ≡ true = grind (arith, nat_tests, a) in
        let u : nat_lt (1 + place_of j xs) (suc (length xs)) ≡ true = grind (arith, nat_tests, a) in
        found_further (place_of j xs) (if_true (nat_lt (place_of j xs) (length xs)) (Some (place_of j xs)) None t) (shown ∙ if_true (nat_lt (1 + place_of j xs) (suc (length xs))) (Some (1 + place_of j xs)) None u ∙ ap Some (let q : 1 + place_of j xs ≡ suc (place_of j xs) = omega arith in q))

    over : length xs ≤ place_of j xs → Further x j xs
    over a =
        let t : nat_lt (place_of j xs) (length xs) ≡ false = grind (arith, nat_tests, a) in
        let u : nat_lt (1 + place_of j xs) (suc (length xs)) ≡ false = grind (arith, nat_tests, a) in
        nowhere (if_false (nat_lt (place_of j xs) (length xs)) (Some (place_of j xs)) None t) (shown ∙ if_false (nat_lt (1 + place_of j xs) (suc (length xs))) (Some (1 + place_of j xs)) None u)

pub found_instance : (xs : List ℕ) (j n : ℕ) → linkage_of xs j ≡ Some n → slice_get xs n ≡ Some j
found_instance [] j n e = absurd (cc)
found_instance (x ∷ xs) j n e = by_test (x == j) (λ same. here same) (λ other. by_rest (λ k f. found_instance xs j k f) (further x j xs other))
  where
    here : (x == j) ≡ true → slice_get (x ∷ xs) n ≡ Some j
    here same = subst (λ z. slice_get (x ∷ xs) z ≡ Some j) (same_number 0 n (sym (found_first x j xs same) ∙ e)) (ap Some (numbers_equal x j same))

    by_rest : ((k : ℕ) → linkage_of xs j ≡ Some k → slice_get xs k ≡ Some j) → Further x j xs → slice_get (x ∷ xs) n ≡ Some j
    by_rest go (found_further k f g) = subst (λ z. slice_get (x ∷ xs) z ≡ Some j) (same_number (suc k) n (sym g ∙ e)) (go k f)
    by_rest go (nowhere f g) = absurd (no_number n (sym g ∙ e))

pub found_still : (xs : List ℕ) (i j n : ℕ) → linkage_of xs j ≡ Some n → linkage_of (xs ++ i ∷ []) j ≡ Some n
found_still [] i j n e = absurd (cc)
found_still (x ∷ xs) i j n e = by_test (x == j) (λ same. found_first x j (xs ++ i ∷ []) same ∙ sym (found_first x j xs same) ∙ e) (λ other. by_rest other (λ k f. found_still xs i j k f) (further x j xs other))
  where
    again : (k : ℕ) → linkage_of (xs ++ i ∷ []) j ≡ Some k → suc k ≡ n → Further x j (xs ++ i ∷ []) → linkage_of (x ∷ (xs ++ i ∷ [])) j ≡ Some n
    again k f same (found_further l g h) = h ∙ ap Some (ap suc (same_number l k (sym g ∙ f)) ∙ same)
    again k f same (nowhere g h) = absurd (no_number k (sym g ∙ f))

    by_rest : (x == j) ≡ false → ((k : ℕ) → linkage_of xs j ≡ Some k → linkage_of (xs ++ i ∷ []) j ≡ Some k) → Further x j xs → linkage_of (x ∷ (xs ++ i ∷ [])) j ≡ Some n
    by_rest other go (found_further k f g) = again k (go k f) (same_number (suc k) n (sym g ∙ e)) (further x j (xs ++ i ∷ []) other)
    by_rest other go (nowhere f g) = absurd (no_number n (sym g ∙ e))

pub found_new : (xs : List ℕ) (j : ℕ) → ((n : ℕ) → slice_get xs n ≡ Some j → ⊥) → linkage_of (xs ++ j ∷ []) j ≡ Some (length xs)
found_new [] j none = found_first j j [] (equal_numbers j j refl)
found_new (x ∷ xs) j none = by_test (x == j) (λ same. absurd (none 0 (ap Some (numbers_equal x j same)))) (λ other. by_rest (found_new xs j (λ n e. none (suc n) e)) (further x j (xs ++ j ∷ []) other))
  where
    by_rest : linkage_of (xs ++ j ∷ []) j ≡ Some (length xs) → Further x j (xs ++ j ∷ []) → linkage_of (x ∷ (xs ++ j ∷ [])) j ≡ Some (suc (length xs))
    by_rest f (found_further k g h) = h ∙ ap (λ z. Some (suc z)) (same_number k (length xs) (sym g ∙ f))
    by_rest f (nowhere g h) = absurd (no_number (length xs) (sym g ∙ f))
