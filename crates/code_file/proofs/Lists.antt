-- Lists of fields and of bytes, cut in two.
use Rattle.std.proofs.Common.{◌≡◌, ◌⊎◌, ℕ, zero, suc, ◌<◌, List, [], ◌∷◌, ◌++◌, get_or, refl, ap, subst, ◌∙◌, append_assoc, arith, inl, inr}
use Rattle.std.specs.List.{AllByRecursion}
use Rattle.std.proofs.lemmas.List.Concat.{flat_map-append}
use Rattle.code_file.specs.Fields.{Field, bytes_of_field, bytes_of, Fits}

abbrev pub IsBytes : List ℕ → Type 0
IsBytes bytes = AllByRecursion (λ b. b < 256) bytes

abbrev pub AllFit : List Field → Type 0
AllFit fields = AllByRecursion Fits fields

pub small_at : (bytes : List ℕ) → IsBytes bytes → (i : ℕ) → get_or bytes i 0 < 256
small_at [] h i = omega arith
small_at (b ∷ bytes) h zero = h.0
small_at (b ∷ bytes) h (suc i) = small_at bytes h.1 i

pub small_from : (bytes : List ℕ) → ((i : ℕ) → get_or bytes i 0 < 256) → IsBytes bytes
small_from [] h = tt
small_from (b ∷ bytes) h = (h 0, small_from bytes (λ i. h (suc i)))

pub all_front : {A : Type 0} (P : A → Type 0) (xs ys : List A) → AllByRecursion P (xs ++ ys) → AllByRecursion P xs
all_front P [] ys h = tt
all_front P (x ∷ xs) ys h = (h.0, all_front P xs ys h.1)

pub all_back : {A : Type 0} (P : A → Type 0) (xs ys : List A) → AllByRecursion P (xs ++ ys) → AllByRecursion P ys
all_back P [] ys h = h
all_back P (x ∷ xs) ys h = all_back P xs ys h.1

pub all_both : {A : Type 0} (P : A → Type 0) (xs ys : List A) → AllByRecursion P xs → AllByRecursion P ys → AllByRecursion P (xs ++ ys)
all_both P [] ys g h = h
all_both P (x ∷ xs) ys g h = (g.0, all_both P xs ys g.1 h)

-- the rest of bytes is bytes
pub rest_small : (bytes front rest : List ℕ) → bytes ≡ front ++ rest → IsBytes bytes → IsBytes rest
rest_small bytes front rest e h = all_back (λ b. b < 256) front rest (subst IsBytes e h)

pub front_small : (bytes front rest : List ℕ) → bytes ≡ front ++ rest → IsBytes bytes → IsBytes front
front_small bytes front rest e h = all_front (λ b. b < 256) front rest (subst IsBytes e h)

-- the bytes of two lists of fields, and what is behind
pub bytes_then : (xs ys : List Field) (rest : List ℕ) → bytes_of (xs ++ ys) ++ rest ≡ bytes_of xs ++ (bytes_of ys ++ rest)
bytes_then xs ys rest = ap (λ (b : List ℕ). b ++ rest) (flat_map-append bytes_of_field xs ys) ∙ append_assoc (bytes_of xs) (bytes_of ys) rest

-- where a list that consists of two is cut: in the first one, or behind it
pub record CutIn {A : Type 0} (xs front : List A) (next : A) : Type 0 where
  pub after : List A
  pub is : xs ≡ front ++ next ∷ after

pub record CutBehind {A : Type 0} (xs ys front : List A) (next : A) (after : List A) : Type 0 where
  pub more : List A
  pub front_is : front ≡ xs ++ more
  pub is : ys ≡ more ++ next ∷ after

pub cut : {A : Type 0} (xs ys front : List A) (next : A) (after : List A) → xs ++ ys ≡ front ++ next ∷ after → CutIn xs front next ⊎ CutBehind xs ys front next after
cut [] ys front next after e = inr (record { more = front; front_is = refl; is = e })
cut (x ∷ xs) ys [] next after e = inl (record { after = xs; is = cc })
cut (x ∷ xs) ys (f ∷ front) next after e =
    let tails : xs ++ ys ≡ front ++ next ∷ after = cc in
    let heads : x ≡ f = cc in
    elim (cut xs ys front next after tails) [
      | inl c ↦ inl (record { after = c.after; is = cc (c.is, heads) })
      | inr c ↦ inr (record { more = c.more; front_is = cc (c.front_is, heads); is = c.is })
    ]

-- a list of one
pub no_cut : {A : Type 0} (front : List A) (next : A) (after : List A) → [] ≡ front ++ next ∷ after → ⊥
no_cut [] next after e = cc
no_cut (f ∷ front) next after e = cc
