-- What the regions of arrays say of the list of arrays, and how that changes with one region.
use Rattle.std.proofs.Common.{◌≡◌, ℕ, zero, suc, ◌+◌, ◌<◌, ◌≤◌, ◌⊎◌, inl, inr, List, [], ◌∷◌, ◌++◌, length, length-append, set, sym, subst, refl, length-set, ap, ◌∙◌, arith, get_or-set_same, get_or-set_other}
use Rattle.std.proofs.lemmas.Option.{slice_get_within}
use Rattle.std.specs.Prelude.{true, false, Option, Some, None, slice_get}
use Rattle.sim_values.specs.declared.value.ArrayRef.{ArrayRef}
use Rattle.sim_code.specs.Arrays.{unless_given}
use Rattle.sim_code.specs.Outcome.{ArrayOf}
use Rattle.frame_arena.specs.Arrays.{ArrayLeads, ArraysOf, HoldsArrays, IsSound, KeepLeading, Lies, RegionOf, array_at, array_of, is_live_array, is_some, no_region, region_at}
use Rattle.frame_arena.proofs.Changes.{get_set_other, get_set_same, off, same_or_not}
use Rattle.frame_arena.proofs.Entries.{get_new, get_old}

-- ---- options

pub live_some : (o : Option ArrayOf) (a : ArrayOf) → o ≡ Some a → is_some o ≡ true
live_some o a e = ap is_some e

-- ---- one region

module _ (rs : List RegionOf) (place : ℕ) (r : RegionOf) where
  pub region_same : place < length rs → region_at (set rs place r) place ≡ r
  region_same h = get_or-set_same rs place r no_region h

  pub region_other : (q : ℕ) → (q ≡ place → ⊥) → region_at (set rs place r) q ≡ region_at rs q
  region_other q h = get_or-set_other rs place q r no_region h

  pub lies_from : (q n : ℕ) → (q ≡ place → ⊥) → Lies (set rs place r) q n → Lies rs q n
  lies_from q n h e = (subst (λ l. q < l) (length-set rs place r) e.0, sym (ap (λ g. g.live) (region_other q h)) ∙ e.1, sym (ap (λ g. g.number) (region_other q h)) ∙ e.2)

  pub lies_to : (q n : ℕ) → (q ≡ place → ⊥) → Lies rs q n → Lies (set rs place r) q n
  lies_to q n h e = (subst (λ l. q < l) (sym (length-set rs place r)) e.0, ap (λ g. g.live) (region_other q h) ∙ e.1, ap (λ g. g.number) (region_other q h) ∙ e.2)

  pub lies_here : (n : ℕ) → place < length rs → r.live ≡ true → r.number ≡ n → Lies (set rs place r) place n
  lies_here n h on e = (subst (λ l. place < l) (sym (length-set rs place r)) h, ap (λ g. g.live) (region_same h) ∙ on, ap (λ g. g.number) (region_same h) ∙ e)

pub array_found : (a : ArraysOf) (arrays : List ArrayOf) (place n : ℕ) → HoldsArrays a arrays → Lies a.regions place n → array_at arrays n ≡ Some (array_of (region_at a.regions place))
array_found a arrays place n h e = ap unless_given (h.known place n e)

pub array_live : (a : ArraysOf) (arrays : List ArrayOf) (place n : ℕ) → HoldsArrays a arrays → Lies a.regions place n → is_live_array arrays n ≡ true
array_live a arrays place n h e = ap is_some (array_found a arrays place n h e)

-- ---- a region gets another array of the same number

module _ (a b : ArraysOf) (arrays : List ArrayOf) (place n : ℕ) (r : RegionOf) (h : HoldsArrays a arrays) (lies : Lies a.regions place n) (on : r.live ≡ true) (same : r.number ≡ n)
    (regions : b.regions ≡ set a.regions place r) where
  below : n < length arrays
  below = slice_get_within arrays n _ (h.known place n lies)

  long : length (set arrays n (array_of r)) ≡ length arrays
  long = length-set arrays n (array_of r)

  here : Lies (set a.regions place r) place n
  here = lies_here a.regions place r n lies.0 on same

  was_other : (q m : ℕ) → (q ≡ place → ⊥) → Lies (set a.regions place r) q m → Lies a.regions q m
  was_other q m ne hq = lies_from a.regions place r q m ne hq

  number_other : (q m : ℕ) → (q ≡ place → ⊥) → Lies (set a.regions place r) q m → m ≡ n → ⊥
  number_other q m ne hq e = ne (h.single q place n (subst (λ k. Lies a.regions q k) e (was_other q m ne hq)) lies)

  number_here : (q m : ℕ) → q ≡ place → Lies (set a.regions place r) q m → m ≡ n
  number_here q m e hq = sym hq.2 ∙ ap (λ k. (region_at (set a.regions place r) k).number) e ∙ ap (λ g. g.number) (region_same a.regions place r lies.0) ∙ same

  was : (q m : ℕ) → Lies (set a.regions place r) q m → Lies a.regions q m
  was q m hq =
      elim (same_or_not q place) [
        | inl e ↦ subst (λ k. Lies a.regions k m) (sym e) (subst (λ k. Lies a.regions place k) (sym (number_here q m e hq)) lies)
        | inr ne ↦ was_other q m ne hq
      ]

  will : (q m : ℕ) → Lies a.regions q m → Lies (set a.regions place r) q m
  will q m hq =
      elim (same_or_not q place) [
        | inl e ↦
            let e2 : m ≡ n = sym hq.2 ∙ ap (λ k. (region_at a.regions k).number) e ∙ lies.2 in
            subst (λ k. Lies (set a.regions place r) k m) (sym e) (subst (λ k. Lies (set a.regions place r) place k) (sym e2) here)
        | inr ne ↦ lies_to a.regions place r q m ne hq
      ]

  live_was : (m : ℕ) → is_live_array (set arrays n (array_of r)) m ≡ true → is_live_array arrays m ≡ true
  live_was m l =
      elim (same_or_not m n) [
        | inl e ↦ ap (is_live_array arrays) e ∙ array_live a arrays place n h lies
        | inr ne ↦ sym (ap (λ o. is_some (unless_given o)) (get_set_other arrays m n (array_of r) ne)) ∙ l
      ]

  changes_in : b.made ≡ a.made → a.newest ≤ b.newest → IsSound r → (r.kept ≡ false → r.owner ≤ b.newest) → HoldsArrays (record b { regions = set a.regions place r }) (set arrays n (array_of r))
  changes_in made newest sound owned = record {
    counted = made ∙ h.counted ∙ sym long;
    known = λ q m hq.
        elim (same_or_not q place) [
          | inl e ↦
              ap (slice_get (set arrays n (array_of r))) (number_here q m e hq) ∙ get_set_same arrays n (array_of r) below
              ∙ ap (λ g. Some (array_of g)) (sym (ap (region_at (set a.regions place r)) e ∙ region_same a.regions place r lies.0))
          | inr ne ↦
              get_set_other arrays m n (array_of r) (number_other q m ne hq)
              ∙ h.known q m (was_other q m ne hq)
              ∙ ap (λ g. Some (array_of g)) (sym (region_other a.regions place r q ne))
        ];
    found = λ m l. let f = h.found m (live_was m l) in (f.0, will f.0 m f.1);
    single = λ p q m hp hq. h.single p q m (was p m hp) (was q m hq);
    sound = λ q m hq.
        elim (same_or_not q place) [
          | inl e ↦ subst IsSound (sym (ap (region_at (set a.regions place r)) e ∙ region_same a.regions place r lies.0)) sound
          | inr ne ↦ subst IsSound (sym (region_other a.regions place r q ne)) (h.sound q m (was_other q m ne hq))
        ];
    owners = λ q m hq.
        elim (same_or_not q place) [
          | inl e ↦ subst (λ g. g.kept ≡ false → g.owner ≤ b.newest) (sym (ap (region_at (set a.regions place r)) e ∙ region_same a.regions place r lies.0)) owned
          | inr ne ↦ subst (λ g. g.kept ≡ false → g.owner ≤ b.newest) (sym (region_other a.regions place r q ne)) (λ k. let o = h.owners q m (was_other q m ne hq) k in omega (arith, o, newest))
        ];
  }

  pub changes : b.made ≡ a.made → a.newest ≤ b.newest → IsSound r → (r.kept ≡ false → r.owner ≤ b.newest) → HoldsArrays b (set arrays n (array_of r))
  changes made newest sound owned =
      subst (λ rs. HoldsArrays (record b { regions = rs }) (set arrays n (array_of r))) (sym regions) (changes_in made newest sound owned)

  pub changes_leading : (x : ArrayOf) → KeepLeading a arrays b (set arrays n x)
  changes_leading x q leads = (
    subst (λ l. q.stamp < l) (sym (length-set arrays n x)) leads.0,
    λ l.
        let l2 : is_live_array arrays q.stamp ≡ true = elim (same_or_not q.stamp n) [
          | inl e ↦ ap (is_live_array arrays) e ∙ array_live a arrays place n h lies
          | inr ne ↦ sym (ap (λ o. is_some (unless_given o)) (get_set_other arrays q.stamp n x ne)) ∙ l
        ] in
        subst (λ rs. Lies rs q.array q.stamp) (sym regions) (will q.array q.stamp (leads.1 l2)),
  )

-- ---- an array is given back

module _ (a b : ArraysOf) (arrays : List ArrayOf) (place n : ℕ) (r : RegionOf) (h : HoldsArrays a arrays) (lies : Lies a.regions place n) (gone : r.live ≡ false)
    (regions : b.regions ≡ set a.regions place r) (x : ArrayOf) (dead : unless_given (Some x) ≡ None) where
  below_given : n < length arrays
  below_given = slice_get_within arrays n _ (h.known place n lies)

  away : (q m : ℕ) → Lies (set a.regions place r) q m → q ≡ place → ⊥
  away q m hq e = off (sym gone ∙ sym (ap (λ g. g.live) (region_same a.regions place r lies.0)) ∙ ap (λ k. (region_at (set a.regions place r) k).live) (sym e) ∙ hq.1)

  before : (q m : ℕ) → Lies (set a.regions place r) q m → Lies a.regions q m
  before q m hq = lies_from a.regions place r q m (away q m hq) hq

  apart : (q m : ℕ) → Lies (set a.regions place r) q m → m ≡ n → ⊥
  apart q m hq e = away q m hq (h.single q place n (subst (λ k. Lies a.regions q k) e (before q m hq)) lies)

  now_dead : is_live_array (set arrays n x) n ≡ false
  now_dead = ap (λ o. is_some (unless_given o)) (get_set_same arrays n x below_given) ∙ ap is_some dead

  other_number : (m : ℕ) → is_live_array (set arrays n x) m ≡ true → m ≡ n → ⊥
  other_number m l e = off (sym now_dead ∙ ap (is_live_array (set arrays n x)) (sym e) ∙ l)

  live_before : (m : ℕ) → is_live_array (set arrays n x) m ≡ true → is_live_array arrays m ≡ true
  live_before m l = sym (ap (λ o. is_some (unless_given o)) (get_set_other arrays m n x (other_number m l))) ∙ l

  after : (q m : ℕ) → (m ≡ n → ⊥) → Lies a.regions q m → Lies (set a.regions place r) q m
  after q m ne hq = lies_to a.regions place r q m (λ e. ne (sym hq.2 ∙ ap (λ k. (region_at a.regions k).number) e ∙ lies.2)) hq

  gives_in : b.made ≡ a.made → a.newest ≤ b.newest → HoldsArrays (record b { regions = set a.regions place r }) (set arrays n x)
  gives_in made newest = record {
    counted = made ∙ h.counted ∙ sym (length-set arrays n x);
    known = λ q m hq.
        get_set_other arrays m n x (apart q m hq)
        ∙ h.known q m (before q m hq)
        ∙ ap (λ g. Some (array_of g)) (sym (region_other a.regions place r q (away q m hq)));
    found = λ m l. let f = h.found m (live_before m l) in (f.0, after f.0 m (other_number m l) f.1);
    single = λ p q m hp hq. h.single p q m (before p m hp) (before q m hq);
    sound = λ q m hq. subst IsSound (sym (region_other a.regions place r q (away q m hq))) (h.sound q m (before q m hq));
    owners = λ q m hq. subst (λ g. g.kept ≡ false → g.owner ≤ b.newest) (sym (region_other a.regions place r q (away q m hq))) (λ k. let o = h.owners q m (before q m hq) k in omega (arith, o, newest));
  }

  pub gives_array : b.made ≡ a.made → a.newest ≤ b.newest → HoldsArrays b (set arrays n x)
  gives_array made newest = subst (λ rs. HoldsArrays (record b { regions = rs }) (set arrays n x)) (sym regions) (gives_in made newest)

  pub gives_array_leading : KeepLeading a arrays b (set arrays n x)
  gives_array_leading q leads = (
    subst (λ l. q.stamp < l) (sym (length-set arrays n x)) leads.0,
    λ l. subst (λ rs. Lies rs q.array q.stamp) (sym regions) (after q.array q.stamp (other_number q.stamp l) (leads.1 (live_before q.stamp l))),
  )

-- ---- a new array

module _ (a b : ArraysOf) (arrays : List ArrayOf) (place : ℕ) (r : RegionOf) (h : HoldsArrays a arrays) (there : place < length a.regions) (free : (region_at a.regions place).live ≡ false) (on : r.live ≡ true)
    (fresh : r.number ≡ a.made) (regions : b.regions ≡ set a.regions place r) where
  new_here : Lies (set a.regions place r) place a.made
  new_here = lies_here a.regions place r a.made there on fresh

  no_free : (q m : ℕ) → Lies a.regions q m → q ≡ place → ⊥
  no_free q m hq e = off (sym free ∙ ap (λ k. (region_at a.regions k).live) (sym e) ∙ hq.1)

  number_new : (q m : ℕ) → q ≡ place → Lies (set a.regions place r) q m → m ≡ length arrays
  number_new q m e hq = sym hq.2 ∙ ap (λ k. (region_at (set a.regions place r) k).number) e ∙ ap (λ g. g.number) (region_same a.regions place r there) ∙ fresh ∙ h.counted

  below_old : (q m : ℕ) → Lies a.regions q m → m < length arrays
  below_old q m hq = slice_get_within arrays m _ (h.known q m hq)

  one_more : (x : ArrayOf) → length (arrays ++ x ∷ []) ≡ length arrays + 1
  one_more x = length-append arrays (x ∷ [])

  live_within_new : (x : ArrayOf) (m : ℕ) → is_live_array (arrays ++ x ∷ []) m ≡ true → (m < length arrays) ⊎ (m ≡ length arrays)
  live_within_new x m l =
      elim (below_or_not m (length arrays)) [
        | inl b ↦ inl b
        | inr nb ↦
            elim (same_or_not m (length arrays)) [
              | inl e ↦ inr e
              | inr ne ↦ absurd (off (sym (ap (λ o. is_some (unless_given o)) (get_past (arrays ++ x ∷ []) m (let e = one_more x in omega (arith, e, nb, ne)))) ∙ l))
            ]
      ]
    where
      below_or_not : (m n : ℕ) → (m < n) ⊎ (n ≤ m)
      below_or_not m zero = inr (omega arith)
      below_or_not zero (suc n) = inl (omega arith)
      below_or_not (suc m) (suc n) = elim (below_or_not m n) [ inl b ↦ inl (omega (arith, b)) | inr b ↦ inr (omega (arith, b)) ]

      get_past : (xs : List ArrayOf) (k : ℕ) → length xs ≤ k → slice_get xs k ≡ None
      get_past [] k h = refl
      get_past (y ∷ ys) zero h = absurd (omega (arith, h))
      get_past (y ∷ ys) (suc k) h = get_past ys k (omega (arith, h))

  live_old_array : (x : ArrayOf) (m : ℕ) → m < length arrays → is_live_array (arrays ++ x ∷ []) m ≡ is_live_array arrays m
  live_old_array x m b = ap (λ o. is_some (unless_given o)) (get_old arrays (x ∷ []) m b)

  enters_in : b.made ≡ a.made + 1 → a.newest ≤ b.newest → r.owner ≤ b.newest → IsSound r → HoldsArrays (record b { regions = set a.regions place r }) (arrays ++ array_of r ∷ [])
  enters_in made newest owned sound =
      let x : ArrayOf = array_of r in
      let more = one_more x in
      let count = h.counted in
      record {
        counted = omega (arith, made, more, count);
        known = λ q m hq.
            elim (same_or_not q place) [
              | inl e ↦ ap (slice_get (arrays ++ x ∷ [])) (number_new q m e hq) ∙ get_new arrays x ∙ ap (λ g. Some (array_of g)) (sym (ap (region_at (set a.regions place r)) e ∙ region_same a.regions place r there))
              | inr ne ↦
                  let w = lies_from a.regions place r q m ne hq in
                  get_old arrays (x ∷ []) m (below_old q m w) ∙ h.known q m w ∙ ap (λ g. Some (array_of g)) (sym (region_other a.regions place r q ne))
            ];
        found = λ m l.
            elim (live_within_new x m l) [
              | inl b ↦ let f = h.found m (sym (live_old_array x m b) ∙ l) in (f.0, lies_to a.regions place r f.0 m (no_free f.0 m f.1) f.1)
              | inr e ↦ (place, subst (λ k. Lies (set a.regions place r) place k) (h.counted ∙ sym e) new_here)
            ];
        single = λ p q m hp hq.
            elim (same_or_not p place) [
              | inl e ↦ elim (same_or_not q place) [
                | inl e2 ↦ e ∙ sym e2
                | inr ne2 ↦ absurd (let k = number_new p m e hp in let l = below_old q m (lies_from a.regions place r q m ne2 hq) in omega (arith, k, l))
              ]
              | inr ne ↦ elim (same_or_not q place) [
                | inl e2 ↦ absurd (let k = number_new q m e2 hq in let l = below_old p m (lies_from a.regions place r p m ne hp) in omega (arith, k, l))
                | inr ne2 ↦ h.single p q m (lies_from a.regions place r p m ne hp) (lies_from a.regions place r q m ne2 hq)
              ]
            ];
        sound = λ q m hq.
            elim (same_or_not q place) [
              | inl e ↦ subst IsSound (sym (ap (region_at (set a.regions place r)) e ∙ region_same a.regions place r there)) sound
              | inr ne ↦ subst IsSound (sym (region_other a.regions place r q ne)) (h.sound q m (lies_from a.regions place r q m ne hq))
            ];
        owners = λ q m hq.
            elim (same_or_not q place) [
              | inl e ↦ subst (λ g. g.kept ≡ false → g.owner ≤ b.newest) (sym (ap (region_at (set a.regions place r)) e ∙ region_same a.regions place r there)) (λ k. owned)
              | inr ne ↦ subst (λ g. g.kept ≡ false → g.owner ≤ b.newest) (sym (region_other a.regions place r q ne)) (λ k. let o = h.owners q m (lies_from a.regions place r q m ne hq) k in omega (arith, o, newest))
            ];
      }

  pub enters_array : b.made ≡ a.made + 1 → a.newest ≤ b.newest → r.owner ≤ b.newest → IsSound r → HoldsArrays b (arrays ++ array_of r ∷ [])
  enters_array made newest owned sound =
      subst (λ rs. HoldsArrays (record b { regions = rs }) (arrays ++ array_of r ∷ [])) (sym regions) (enters_in made newest owned sound)

  pub enters_leading : (x : ArrayOf) → KeepLeading a arrays b (arrays ++ x ∷ [])
  enters_leading x q leads = (
    let e = one_more x in omega (arith, e, leads.0),
    λ l.
        let w = leads.1 (sym (live_old_array x q.stamp leads.0) ∙ l) in
        subst (λ rs. Lies rs q.array q.stamp) (sym regions) (lies_to a.regions place r q.array q.stamp (no_free q.array q.stamp w) w),
  )

  pub enters_here : (x : ArrayOf) (q : ArrayRef) → q.array ≡ place → q.stamp ≡ a.made → ArrayLeads b.regions (arrays ++ x ∷ []) q
  enters_here x q e e2 = (
    let m = one_more x in let c = h.counted in omega (arith, m, c, e2),
    λ l. subst (λ rs. Lies rs q.array q.stamp) (sym regions) (subst (λ k. Lies (set a.regions place r) k q.stamp) (sym e) (subst (λ k. Lies (set a.regions place r) place k) (sym e2) new_here)),
  )

-- ---- a free region more

module _ (rs : List RegionOf) where
  pub region_before : (q : ℕ) → q < length rs → region_at (rs ++ no_region ∷ []) q ≡ region_at rs q
  region_before q h = before_in rs q h
    where
      before_in : (xs : List RegionOf) (k : ℕ) → k < length xs → region_at (xs ++ no_region ∷ []) k ≡ region_at xs k
      before_in [] k h = absurd (omega (arith, h))
      before_in (x ∷ xs) zero h = refl
      before_in (x ∷ xs) (suc k) h = before_in xs k (omega (arith, h))

  pub region_any : (q : ℕ) → region_at (rs ++ no_region ∷ []) q ≡ region_at rs q
  region_any q = any_in rs q
    where
      any_in : (xs : List RegionOf) (k : ℕ) → region_at (xs ++ no_region ∷ []) k ≡ region_at xs k
      any_in [] zero = refl
      any_in [] (suc k) = refl
      any_in (x ∷ xs) zero = refl
      any_in (x ∷ xs) (suc k) = any_in xs k

pub region_past : (rs : List RegionOf) (q : ℕ) → length rs ≤ q → region_at rs q ≡ no_region
region_past [] q h = refl
region_past (x ∷ xs) zero h = absurd (omega (arith, h))
region_past (x ∷ xs) (suc q) h = region_past xs q (omega (arith, h))

pub lies_more : (rs : List RegionOf) (q n : ℕ) → Lies rs q n → Lies (rs ++ no_region ∷ []) q n
lies_more rs q n h =
    let e = length-append rs (no_region ∷ []) in
    (omega (arith, e, h.0), ap (λ g. g.live) (region_any rs q) ∙ h.1, ap (λ g. g.number) (region_any rs q) ∙ h.2)

pub lies_less : (rs : List RegionOf) (q n : ℕ) → Lies (rs ++ no_region ∷ []) q n → Lies rs q n
lies_less rs q n h =
    let e = length-append rs (no_region ∷ []) in
    let on : (region_at rs q).live ≡ true = sym (ap (λ g. g.live) (region_any rs q)) ∙ h.1 in
    let inside : q < length rs = elim (same_or_not q (length rs)) [
      | inl s ↦ absurd (off (sym (ap (λ g. g.live) (region_past rs q (omega (arith, s)))) ∙ on))
      | inr ne ↦ omega (arith, e, ne, h.0)
    ] in
    (inside, on, sym (ap (λ g. g.number) (region_any rs q)) ∙ h.2)

pub grows_arrays : (a b : ArraysOf) (arrays : List ArrayOf) → HoldsArrays a arrays → b.regions ≡ a.regions ++ no_region ∷ [] → b.made ≡ a.made → b.newest ≡ a.newest → HoldsArrays b arrays
grows_arrays a b arrays h regions made newest =
    let c : ArraysOf = record b { regions = a.regions ++ no_region ∷ [] } in
    let grown : HoldsArrays c arrays = record {
      counted = made ∙ h.counted;
      known = λ q n hq. h.known q n (lies_less a.regions q n hq) ∙ ap (λ g. Some (array_of g)) (sym (region_any a.regions q));
      found = λ n l. let f = h.found n l in (f.0, lies_more a.regions f.0 n f.1);
      single = λ p q n hp hq. h.single p q n (lies_less a.regions p n hp) (lies_less a.regions q n hq);
      sound = λ q n hq. subst IsSound (sym (region_any a.regions q)) (h.sound q n (lies_less a.regions q n hq));
      owners = λ q n hq. subst (λ g. g.kept ≡ false → g.owner ≤ b.newest) (sym (region_any a.regions q)) (λ k. let o = h.owners q n (lies_less a.regions q n hq) k in omega (arith, o, newest));
    } in
    subst (λ rs. HoldsArrays (record b { regions = rs }) arrays) (sym regions) grown

pub grows_arrays_leading : (a b : ArraysOf) (arrays : List ArrayOf) → b.regions ≡ a.regions ++ no_region ∷ [] → KeepLeading a arrays b arrays
grows_arrays_leading a b arrays regions q leads = (leads.0, λ l. subst (λ rs. Lies rs q.array q.stamp) (sym regions) (lies_more a.regions q.array q.stamp (leads.1 l)))

-- nothing but what was counted changes
pub same_regions : (a b : ArraysOf) (arrays : List ArrayOf) → HoldsArrays a arrays → b.regions ≡ a.regions → b.made ≡ a.made → b.newest ≡ a.newest → HoldsArrays b arrays
same_regions a b arrays h regions made newest =
    let c : ArraysOf = record b { regions = a.regions } in
    let held : HoldsArrays c arrays = record {
      counted = made ∙ h.counted;
      known = h.known;
      found = h.found;
      single = h.single;
      sound = h.sound;
      owners = λ q n hq k. let o = h.owners q n hq k in omega (arith, o, newest);
    } in
    subst (λ rs. HoldsArrays (record b { regions = rs }) arrays) (sym regions) held
