-- Lists of free regions, as regions are taken out of them, given back and added.
use Rattle.std.proofs.Common.{◌≡◌, ℕ, zero, suc, ◌+◌, ◌<◌, ◌≤◌, ◌⊎◌, inl, inr, List, [], ◌∷◌, ◌++◌, length, set, sym, subst, refl, length-set, ap, ◌∙◌, arith, get_or-set_same, get_or-set_other}
use Rattle.std.specs.Prelude.{Bool, true, false, slice_index_or, Contains, Option, Some, None, get_or, ◌==◌, if◌then◌else◌}
use Rattle.frame_arena.specs.declared.frames.Frame.{Frame}
use Rattle.frame_arena.specs.Frames.{HasShape, frame_at}
use Rattle.frame_arena.specs.Free.{AllHaveShape, FreeLists, Linked, end_of_list, with_list}
use Rattle.frame_arena.proofs.Changes.{frame_other, frame_same, off, same_or_not}
use Rattle.frame_arena.proofs.Entries.{kept_by, no_some}
use Rattle.frame_arena.proofs.Growth.{frame_before, frame_last, longer}

-- ---- places in lists

none_in : (x : ℕ) → Contains [] x → ⊥
none_in x h = omega (arith, h.1)

first_in : (x : ℕ) (xs : List ℕ) → Contains (x ∷ xs) x
first_in x xs = (0, omega arith, refl)

later_in : (y x : ℕ) (xs : List ℕ) → Contains xs x → Contains (y ∷ xs) x
later_in y x xs h = (suc h.0, omega (arith, h.1), h.2)

place_in : (y x : ℕ) (xs : List ℕ) (k : ℕ) → k < length (y ∷ xs) → slice_index_or (y ∷ xs) k x ≡ x → (x ≡ y) ⊎ Contains xs x
place_in y x xs zero less e = inl (sym e)
place_in y x xs (suc k) less e = inr (k, omega (arith, less), e)

either_in : (y x : ℕ) (xs : List ℕ) → Contains (y ∷ xs) x → (x ≡ y) ⊎ Contains xs x
either_in y x xs h = place_in y x xs h.0 h.1 h.2

number_of : Option ℕ → ℕ
number_of None = 0
number_of (Some n) = n

same_number : (a b : ℕ) → Some a ≡ Some b → a ≡ b
unfolding number_of
same_number a b e = ap number_of e

-- ---- the list of a block

equal : (a b : ℕ) → a ≡ b → (a == b) ≡ true
equal a b e = grind (arith, e)

unequal : (a b : ℕ) → (a ≡ b → ⊥) → (a == b) ≡ false
unequal a b ne = grind (arith, ne)

here : (lists : ℕ → List ℕ) (b : ℕ) (xs : List ℕ) (k : ℕ) → k ≡ b → with_list lists b xs k ≡ xs
here lists b xs k e = ap (λ t. if t then xs else lists k) (equal k b e)

elsewhere : (lists : ℕ → List ℕ) (b : ℕ) (xs : List ℕ) (k : ℕ) → (k ≡ b → ⊥) → with_list lists b xs k ≡ lists k
elsewhere lists b xs k ne = ap (λ t. if t then xs else lists k) (unequal k b ne)

-- ---- linked regions

pub linked_free : (fs : List Frame) (head : ℕ) (xs : List ℕ) (place : ℕ) → Linked fs head xs → Contains xs place → (place < length fs) × ((frame_at fs place).live ≡ false)
linked_free fs head [] place h c = absurd (none_in place c)
linked_free fs head (x ∷ xs) place h c =
    elim (either_in x place xs c) [
      | inl e ↦ subst (λ p. (p < length fs) × ((frame_at fs p).live ≡ false)) (sym e) (h.1, h.2)
      | inr later ↦ linked_free fs (frame_at fs x).next xs place h.3 later
    ]

linked_set : (fs : List Frame) (place : ℕ) (f : Frame) (head : ℕ) (xs : List ℕ) → (Contains xs place → ⊥) → Linked fs head xs → Linked (set fs place f) head xs
linked_set fs place f head [] out h = h
linked_set fs place f head (x ∷ xs) out h =
    let ne : x ≡ place → ⊥ = λ e. out (subst (Contains (x ∷ xs)) e (first_in x xs)) in
    let same = frame_other fs place f x ne in (
      h.0,
      subst (λ l. x < l) (sym (length-set fs place f)) h.1,
      ap (λ g. g.live) same ∙ h.2,
      subst (λ g. Linked (set fs place f) g.next xs) (sym same) (linked_set fs place f (frame_at fs x).next xs (λ c. out (later_in x place xs c)) h.3),
    )

linked_more : (fs : List Frame) (f : Frame) (head : ℕ) (xs : List ℕ) → Linked fs head xs → Linked (fs ++ f ∷ []) head xs
linked_more fs f head [] h = h
linked_more fs f head (x ∷ xs) h =
    let same = frame_before fs f x h.1 in
    let long = longer fs f in (
      h.0,
      let less = h.1 in omega (arith, less, long),
      ap (λ g. g.live) same ∙ h.2,
      subst (λ g. Linked (fs ++ f ∷ []) g.next xs) (sym same) (linked_more fs f (frame_at fs x).next xs h.3),
    )

-- from one head on there is one list
as_long : (fs : List Frame) (head : ℕ) (xs ys : List ℕ) → length fs ≤ end_of_list → Linked fs head xs → Linked fs head ys → length xs ≡ length ys
as_long fs head [] [] few h g = refl
as_long fs head [] (y ∷ ys) few h g = absurd (let a = g.0 in let b = g.1 in omega (arith, few, h, a, b))
as_long fs head (x ∷ xs) [] few h g = absurd (let a = h.0 in let b = h.1 in omega (arith, few, g, a, b))
as_long fs head (x ∷ xs) (y ∷ ys) few h g = ap suc (as_long fs (frame_at fs x).next xs ys few h.3 (subst (λ p. Linked fs (frame_at fs p).next ys) (sym g.0 ∙ h.0) g.3))

from_place : (fs : List Frame) (head : ℕ) (xs : List ℕ) (place : ℕ) → Linked fs head xs → Contains xs place → (ys : List ℕ) × Linked fs place ys × (length ys ≤ length xs)
from_place fs head [] place h c = absurd (none_in place c)
from_place fs head (x ∷ xs) place h c =
    elim (either_in x place xs c) [
      | inl e ↦ (x ∷ xs, (e, h.1, h.2, h.3), omega arith)
      | inr later ↦
          let g = from_place fs (frame_at fs x).next xs place h.3 later in
          (g.0, g.1, let less = g.2 in omega (arith, less))
    ]

-- no region is in its list twice
not_again : (fs : List Frame) (place : ℕ) (xs : List ℕ) → length fs ≤ end_of_list → Linked fs place (place ∷ xs) → Contains xs place → ⊥
not_again fs place xs few h c =
    let g = from_place fs (frame_at fs place).next xs place h.3 c in
    let e = as_long fs place (place ∷ xs) g.0 few h g.1 in
    let less = g.2 in
    omega (arith, e, less)

-- ---- a frame in a region is changed

module _ (fs : List Frame) (heads : List ℕ) (lists : ℕ → List ℕ) (place : ℕ) (f : Frame) (there : place < length fs) where
  long : length (set fs place f) ≡ length fs
  long = length-set fs place f

  -- it stays that of its block, and there
  pub free_changed : (taken : Option ℕ) → FreeLists fs heads lists taken → (frame_at fs place).live ≡ true → f.live ≡ true → f.block ≡ (frame_at fs place).block → FreeLists (set fs place f) heads lists taken
  free_changed taken h on on2 same =
      let block : (q : ℕ) → (frame_at (set fs place f) q).block ≡ (frame_at fs q).block = λ q. kept_by (λ g. g.block) fs place f q there same in
      let less : (q : ℕ) → q < length (set fs place f) → q < length fs = λ q l. subst (λ n. q < n) long l in
      record {
        linked = λ b bl. linked_set fs place f _ (lists b) (λ c. off (sym (linked_free fs _ (lists b) place (h.linked b bl) c).1 ∙ on)) (h.linked b bl);
        own = λ b q bl c. block q ∙ h.own b q bl c;
        blocks = λ q l ne. subst (λ k. k < length heads) (sym (block q)) (h.blocks q (less q l) ne);
        all = λ q l ne free.
            elim (same_or_not q place) [
              | inl e ↦ absurd (off (sym free ∙ ap (λ z. (frame_at (set fs place f) z).live) e ∙ ap (λ g. g.live) (frame_same fs place f there) ∙ on2))
              | inr d ↦ subst (λ k. Contains (lists k) q) (sym (block q)) (h.all q (less q l) ne (sym (ap (λ g. g.live) (frame_other fs place f q d)) ∙ free))
            ];
        apart = h.apart;
        few = subst (λ n. n ≤ end_of_list) (sym long) h.few;
      }

  -- it enters the region that was taken out
  pub free_entered : FreeLists fs heads lists (Some place) → f.live ≡ true → f.block < length heads → FreeLists (set fs place f) heads lists None
  free_entered h on below =
      let out : (b : ℕ) → b < length heads → Contains (lists b) place → ⊥ = λ b bl c. h.apart b place bl refl c in
      let less : (q : ℕ) → q < length (set fs place f) → q < length fs = λ q l. subst (λ n. q < n) long l in
      let other : (q : ℕ) → (q ≡ place → ⊥) → Some place ≡ Some q → ⊥ = λ q d e. d (sym (same_number place q e)) in
      record {
        linked = λ b bl. linked_set fs place f _ (lists b) (out b bl) (h.linked b bl);
        own = λ b q bl c. ap (λ g. g.block) (frame_other fs place f q (λ e. out b bl (subst (Contains (lists b)) e c))) ∙ h.own b q bl c;
        blocks = λ q l ne.
            elim (same_or_not q place) [
              | inl e ↦ subst (λ g. g.block < length heads) (sym (ap (frame_at (set fs place f)) e ∙ frame_same fs place f there)) below
              | inr d ↦ subst (λ g. g.block < length heads) (sym (frame_other fs place f q d)) (h.blocks q (less q l) (other q d))
            ];
        all = λ q l ne free.
            elim (same_or_not q place) [
              | inl e ↦ absurd (off (sym free ∙ ap (λ z. (frame_at (set fs place f) z).live) e ∙ ap (λ g. g.live) (frame_same fs place f there) ∙ on))
              | inr d ↦ subst (λ g. Contains (lists g.block) q) (sym (frame_other fs place f q d)) (h.all q (less q l) (other q d) (sym (ap (λ g. g.live) (frame_other fs place f q d)) ∙ free))
            ];
        apart = λ b q bl e c. no_some q e;
        few = subst (λ n. n ≤ end_of_list) (sym long) h.few;
      }

  -- it is given back, and the first of its list then
  pub free_given : (b : ℕ) → (frame_at fs place).block ≡ b → FreeLists fs heads lists None → (frame_at fs place).live ≡ true → f.live ≡ false → f.block ≡ (frame_at fs place).block → f.next ≡ get_or heads b 0 →
      FreeLists (set fs place f) (set heads b place) (with_list lists b (place ∷ lists b)) None
  free_given b is h on gone same next =
      let block : (q : ℕ) → (frame_at (set fs place f) q).block ≡ (frame_at fs q).block = λ q. kept_by (λ g. g.block) fs place f q there same in
      let less : (q : ℕ) → q < length (set fs place f) → q < length fs = λ q l. subst (λ n. q < n) long l in
      let count : length (set heads b place) ≡ length heads = length-set heads b place in
      let below : (k : ℕ) → k < length (set heads b place) → k < length heads = λ k l. subst (λ n. k < n) count l in
      let here_below : b < length heads = subst (λ k. k < length heads) is (h.blocks place there (λ e. no_some place e)) in
      let out : (k : ℕ) → k < length heads → Contains (lists k) place → ⊥ = λ k l c. off (sym (linked_free fs _ (lists k) place (h.linked k l) c).1 ∙ on) in
      let now = frame_same fs place f there in
      record {
        linked = λ k l.
            elim (same_or_not k b) [
              | inl e ↦
                  subst (λ xs. Linked (set fs place f) (get_or (set heads b place) k 0) xs) (sym (here lists b (place ∷ lists b) k e))
                  (subst (λ j. Linked (set fs place f) (get_or (set heads b place) j 0) (place ∷ lists b)) (sym e) (
                    get_or-set_same heads b place 0 here_below,
                    subst (λ n. place < n) (sym long) there,
                    ap (λ g. g.live) now ∙ gone,
                    subst (λ n. Linked (set fs place f) n (lists b)) (sym (ap (λ g. g.next) now ∙ next)) (linked_set fs place f _ (lists b) (out b here_below) (h.linked b here_below)),
                  ))
              | inr d ↦
                  subst (λ xs. Linked (set fs place f) (get_or (set heads b place) k 0) xs) (sym (elsewhere lists b (place ∷ lists b) k d))
                  (subst (λ n. Linked (set fs place f) n (lists k)) (sym (get_or-set_other heads b k place 0 d)) (linked_set fs place f _ (lists k) (out k (below k l)) (h.linked k (below k l))))
            ];
        own = λ k q l c.
            block q
            ∙ elim (same_or_not k b) [
              | inl e ↦ elim (either_in place q (lists b) (subst (λ xs. Contains xs q) (here lists b (place ∷ lists b) k e) c)) [
                | inl p ↦ ap (λ z. (frame_at fs z).block) p ∙ is ∙ sym e
                | inr later ↦ h.own b q here_below later ∙ sym e
              ]
              | inr d ↦ h.own k q (below k l) (subst (λ xs. Contains xs q) (elsewhere lists b (place ∷ lists b) k d) c)
            ];
        blocks = λ q l ne. subst (λ n. (frame_at (set fs place f) q).block < n) (sym count) (subst (λ k. k < length heads) (sym (block q)) (h.blocks q (less q l) ne));
        all = λ q l ne free.
            subst (λ k. Contains (with_list lists b (place ∷ lists b) k) q) (sym (block q))
            (elim (same_or_not q place) [
              | inl e ↦ subst (λ xs. Contains xs q) (sym (here lists b (place ∷ lists b) (frame_at fs q).block (ap (λ z. (frame_at fs z).block) e ∙ is))) (subst (Contains (place ∷ lists b)) (sym e) (first_in place (lists b)))
              | inr d ↦
                  let was = h.all q (less q l) ne (sym (ap (λ g. g.live) (frame_other fs place f q d)) ∙ free) in
                  elim (same_or_not (frame_at fs q).block b) [
                    | inl e ↦ subst (λ xs. Contains xs q) (sym (here lists b (place ∷ lists b) (frame_at fs q).block e)) (later_in place q (lists b) (subst (λ k. Contains (lists k) q) e was))
                    | inr d2 ↦ subst (λ xs. Contains xs q) (sym (elsewhere lists b (place ∷ lists b) (frame_at fs q).block d2)) was
                  ]
            ]);
        apart = λ k q l e c. no_some q e;
        few = subst (λ n. n ≤ end_of_list) (sym long) h.few;
      }

-- ---- a region is taken out of the list of a block

module _ (fs : List Frame) (heads : List ℕ) (lists : ℕ → List ℕ) (b : ℕ) (below : b < length heads) (h : FreeLists fs heads lists None) where
  first_of : (place : ℕ) (xs : List ℕ) → lists b ≡ xs → get_or heads b 0 ≡ place → place < length fs → (rest : List ℕ) × (lists b ≡ place ∷ rest)
  first_of place [] e is there =
      let last : get_or heads b 0 ≡ end_of_list = subst (Linked fs (get_or heads b 0)) e (h.linked b below) in
      let few = h.few in
      absurd (omega (arith, last, is, there, few))
  first_of place (x ∷ xs) e is there =
      let l : Linked fs (get_or heads b 0) (x ∷ xs) = subst (Linked fs (get_or heads b 0)) e (h.linked b below) in
      (xs, e ∙ ap (λ y. y ∷ xs) (sym l.0 ∙ is))

  without : (place : ℕ) (rest : List ℕ) → lists b ≡ place ∷ rest → FreeLists fs (set heads b (frame_at fs place).next) (with_list lists b rest) (Some place)
  without place rest e =
      let was : Linked fs (get_or heads b 0) (place ∷ rest) = subst (Linked fs (get_or heads b 0)) e (h.linked b below) in
      let next : ℕ = (frame_at fs place).next in
      let count : length (set heads b next) ≡ length heads = length-set heads b next in
      let less : (k : ℕ) → k < length (set heads b next) → k < length heads = λ k l. subst (λ n. k < n) count l in
      let of_b : (q : ℕ) → Contains (place ∷ rest) q → (frame_at fs q).block ≡ b = λ q c. h.own b q below (subst (λ xs. Contains xs q) (sym e) c) in
      let none : (q : ℕ) → ◌≡◌ {A = Option ℕ} None (Some q) → ⊥ = λ q x. no_some q x in
      record {
        linked = λ k l.
            elim (same_or_not k b) [
              | inl s ↦
                  subst (λ xs. Linked fs (get_or (set heads b next) k 0) xs) (sym (here lists b rest k s))
                  (subst (λ n. Linked fs n rest) (sym (ap (λ j. get_or (set heads b next) j 0) s ∙ get_or-set_same heads b next 0 below)) was.3)
              | inr d ↦
                  subst (λ xs. Linked fs (get_or (set heads b next) k 0) xs) (sym (elsewhere lists b rest k d))
                  (subst (λ n. Linked fs n (lists k)) (sym (get_or-set_other heads b k next 0 d)) (h.linked k (less k l)))
            ];
        own = λ k q l c.
            elim (same_or_not k b) [
              | inl s ↦ of_b q (later_in place q rest (subst (λ xs. Contains xs q) (here lists b rest k s) c)) ∙ sym s
              | inr d ↦ h.own k q (less k l) (subst (λ xs. Contains xs q) (elsewhere lists b rest k d) c)
            ];
        blocks = λ q l ne. subst (λ n. (frame_at fs q).block < n) (sym count) (h.blocks q l (none q));
        all = λ q l ne free.
            let in_list = h.all q l (none q) free in
            elim (same_or_not (frame_at fs q).block b) [
              | inl s ↦
                  subst (λ xs. Contains xs q) (sym (here lists b rest (frame_at fs q).block s))
                  (elim (either_in place q rest (subst (λ xs. Contains xs q) (ap lists s ∙ e) in_list)) [ inl p ↦ absurd (ne (ap (λ z. Some z) (sym p))) | inr later ↦ later ])
              | inr d ↦ subst (λ xs. Contains xs q) (sym (elsewhere lists b rest (frame_at fs q).block d)) in_list
            ];
        apart = λ k q l is c.
            let at : place ≡ q = same_number place q is in
            let c2 : Contains (with_list lists b rest k) place = subst (Contains (with_list lists b rest k)) (sym at) c in
            elim (same_or_not k b) [
              | inl s ↦ not_again fs place rest h.few (refl, was.1, was.2, was.3) (subst (λ xs. Contains xs place) (here lists b rest k s) c2)
              | inr d ↦ d (sym (h.own k place (less k l) (subst (λ xs. Contains xs place) (elsewhere lists b rest k d) c2)) ∙ of_b place (first_in place rest))
            ];
        few = h.few;
      }

  pub free_taken : (place : ℕ) → get_or heads b 0 ≡ place → place < length fs →
      (rest : List ℕ) × (lists b ≡ place ∷ rest) × FreeLists fs (set heads b (frame_at fs place).next) (with_list lists b rest) (Some place)
  free_taken place is there = let first = first_of place (lists b) refl is there in (first.0, first.1, without place first.0 first.1)

  none_in_list : (xs : List ℕ) → lists b ≡ xs → ((place : ℕ) → get_or heads b 0 ≡ place → place < length fs → (frame_at fs place).live ≡ false → (frame_at fs place).block ≡ b → ⊥) → lists b ≡ []
  none_in_list [] e refuses = e
  none_in_list (x ∷ xs) e refuses =
      let l : Linked fs (get_or heads b 0) (x ∷ xs) = subst (Linked fs (get_or heads b 0)) e (h.linked b below) in
      absurd (refuses x l.0 l.1 l.2 (h.own b x below (subst (λ ys. Contains ys x) (sym e) (first_in x xs))))

  -- a list is empty where its head is that of no free region
  pub none_free : ((place : ℕ) → get_or heads b 0 ≡ place → place < length fs → (frame_at fs place).live ≡ false → (frame_at fs place).block ≡ b → ⊥) → lists b ≡ []
  none_free refuses = none_in_list (lists b) refl refuses

  -- and then all regions of the block have frames
  pub all_live : lists b ≡ [] → (q : ℕ) → q < length fs → (frame_at fs q).block ≡ b → (frame_at fs q).live ≡ true
  all_live e q l is = decide (frame_at fs q).live refl
    where
      decide : (t : Bool) → (frame_at fs q).live ≡ t → t ≡ true
      decide true s = refl
      decide false s = absurd (none_in q (subst (λ xs. Contains xs q) (ap lists is ∙ e) (h.all q l (λ x. no_some q x) s)))

-- ---- a region more, which is taken at once

pub free_added : (fs : List Frame) (heads : List ℕ) (lists : ℕ → List ℕ) (f : Frame) → FreeLists fs heads lists None → length fs < end_of_list → FreeLists (fs ++ f ∷ []) heads lists (Some (length fs))
free_added fs heads lists f h room =
    let long = longer fs f in
    let old : (q : ℕ) → q < length (fs ++ f ∷ []) → (Some (length fs) ≡ Some q → ⊥) → q < length fs = λ q l ne.
    let d : q ≡ length fs → ⊥ = λ e. ne (ap (λ z. Some z) (sym e)) in
    omega (arith, l, long, d) in
    let none : (q : ℕ) → ◌≡◌ {A = Option ℕ} None (Some q) → ⊥ = λ q x. no_some q x in
    let within : (b q : ℕ) → b < length heads → Contains (lists b) q → q < length fs = λ b q bl c. (linked_free fs _ (lists b) q (h.linked b bl) c).0 in
    record {
      linked = λ b bl. linked_more fs f _ (lists b) (h.linked b bl);
      own = λ b q bl c. ap (λ g. g.block) (frame_before fs f q (within b q bl c)) ∙ h.own b q bl c;
      blocks = λ q l ne. subst (λ g. g.block < length heads) (sym (frame_before fs f q (old q l ne))) (h.blocks q (old q l ne) (none q));
      all = λ q l ne free.
          let same = frame_before fs f q (old q l ne) in
          subst (λ g. Contains (lists g.block) q) (sym same) (h.all q (old q l ne) (none q) (sym (ap (λ g. g.live) same) ∙ free));
      apart = λ b q bl e c. let at = same_number (length fs) q e in let l = within b q bl c in omega (arith, at, l);
      few = omega (arith, long, room);
    }
