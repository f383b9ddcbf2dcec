-- What the levels of a class are.
use Rattle.std.proofs.Common.{◌≡◌, ◌<◌, ◌≤◌, ◌+◌, ◌-◌, ℕ, zero, suc, Bool, true, false, ◌||◌, if◌then◌else◌, List, [], ◌∷◌, ◌++◌, Option, Some, None, refl, sym, ap, ◌∙◌, arith, subst, length, append-nil, append_assoc, length-append, reverse}
use Rattle.std.specs.Prelude.{nat_eq, nat_le, slice_get}
use Rattle.std.specs.List.{IsDistinct, list_any}
use Rattle.std.specs.Cmp.{nat_eq_equiv}
use Rattle.std.proofs.lemmas.List.{reverse-append}
use Rattle.std.proofs.lemmas.Option.{slice_get_within}
use Rattle.std.proofs.lemmas.Map.Keys.{IsDistinct-push}
use Rattle.std.proofs.lemmas.Map.Steps.{length-le_from_distinct_below}
use Rattle.sim_base.specs.declared.numbering.DeclNo.{DeclNo}
use Rattle.sim_scope.specs.Levels.{base, holds, class_block, owner_in, owner_of_level, some_level_of}
use Rattle.sim_scope.specs.Runs.{each}
use Rattle.sim_scope.specs.Tables.{BlockOf, Tables}
use Rattle.prefix_bind.specs.Classes.{IsClass, Outermost, by, chain_beyond, chain_of, classes_of, ends_chain, further, if_any, itself, levels_in, levels_of}
use Rattle.prefix_bind.specs.Prefixes.{is_in_own_chain}
use Rattle.prefix_bind.proofs.Numbers.{each-append}
use Rattle.prefix_bind.proofs.Searches.{level_here, level_last, level_next, level_none}

-- One step of a chain.
module _ (s : Tables) where
  pub chain_stops : (m : ℕ) (xs : List ℕ) (b : ℕ) → ends_chain s xs b ≡ true → chain_of s (suc m) xs b ≡ xs
  unfolding chain_of
  chain_stops m xs b is = ap (λ t. if t then xs else chain_beyond (λ c. chain_of s m (xs ++ b ∷ []) c) (xs ++ b ∷ []) (base s b)) is

  pub chain_ends : (m : ℕ) (xs : List ℕ) (b : ℕ) → ends_chain s xs b ≡ false → base s b ≡ None → chain_of s (suc m) xs b ≡ xs ++ b ∷ []
  unfolding chain_of
  chain_ends m xs b is out =
      ap (λ t. if t then xs else chain_beyond (λ c. chain_of s m (xs ++ b ∷ []) c) (xs ++ b ∷ []) (base s b)) is
      ∙ ap (chain_beyond (λ c. chain_of s m (xs ++ b ∷ []) c) (xs ++ b ∷ [])) out

  pub chain_goes : (m : ℕ) (xs : List ℕ) (b c : ℕ) → ends_chain s xs b ≡ false → base s b ≡ Some c → chain_of s (suc m) xs b ≡ chain_of s m (xs ++ b ∷ []) c
  unfolding chain_of
  chain_goes m xs b c is out =
      ap (λ t. if t then xs else chain_beyond (λ c. chain_of s m (xs ++ b ∷ []) c) (xs ++ b ∷ []) (base s b)) is
      ∙ ap (chain_beyond (λ c. chain_of s m (xs ++ b ∷ []) c) (xs ++ b ∷ [])) out

  pub chain_zero : (xs : List ℕ) (b : ℕ) → chain_of s 0 xs b ≡ xs
  unfolding chain_of
  chain_zero xs b = refl

  pub chain_less : (n i : ℕ) (xs : List ℕ) (b : ℕ) → i < n → chain_of s (n - i) xs b ≡ chain_of s (suc (n - (i + 1))) xs b
  chain_less n i xs b le = let e : n - i ≡ suc (n - (i + 1)) = omega arith in ap (λ m. chain_of s m xs b) e

  pub chain_over : (n i : ℕ) (xs : List ℕ) (b : ℕ) → n ≤ i → chain_of s (n - i) xs b ≡ xs
  chain_over n i xs b le = let e : n - i ≡ 0 = omega arith in ap (λ m. chain_of s m xs b) e ∙ chain_zero xs b

  -- An induction along a chain: what each step keeps.
  along : (P : ℕ → List ℕ → ℕ → List ℕ → Type 0)
      → ((xs : List ℕ) (b : ℕ) → P 0 xs b xs)
      → ((m : ℕ) (xs : List ℕ) (b : ℕ) → ends_chain s xs b ≡ true → P (suc m) xs b xs)
      → ((m : ℕ) (xs : List ℕ) (b : ℕ) → ends_chain s xs b ≡ false → base s b ≡ None → P (suc m) xs b (xs ++ b ∷ []))
      → ((m : ℕ) (xs : List ℕ) (b c : ℕ) → ends_chain s xs b ≡ false → base s b ≡ Some c → P m (xs ++ b ∷ []) c (chain_of s m (xs ++ b ∷ []) c) → P (suc m) xs b (chain_of s m (xs ++ b ∷ []) c))
      → (m : ℕ) (xs : List ℕ) (b : ℕ) → P m xs b (chain_of s m xs b)
  along P none stop last next zero xs b = subst (λ z. P 0 xs b z) (sym (chain_zero xs b)) (none xs b)
  along P none stop last next (suc m) xs b = go (ends_chain s xs b) refl (base s b) refl (λ c. along P none stop last next m (xs ++ b ∷ []) c)
    where
      go : (t : Bool) → ends_chain s xs b ≡ t → (o : Option ℕ) → base s b ≡ o → ((c : ℕ) → P m (xs ++ b ∷ []) c (chain_of s m (xs ++ b ∷ []) c)) → P (suc m) xs b (chain_of s (suc m) xs b)
      go true is o out ih = subst (λ z. P (suc m) xs b z) (sym (chain_stops m xs b is)) (stop m xs b is)
      go false is None out ih = subst (λ z. P (suc m) xs b z) (sym (chain_ends m xs b is out)) (last m xs b is out)
      go false is (Some c) out ih = subst (λ z. P (suc m) xs b z) (sym (chain_goes m xs b c is out)) (next m xs b c is out (ih c))

  -- A chain begins with what it is given.
  Begins : List ℕ → List ℕ → Type 0
  Begins xs zs = (ys : List ℕ) × (zs ≡ xs ++ ys)

  begins : (m : ℕ) (xs : List ℕ) (b : ℕ) → Begins xs (chain_of s m xs b)
  unfolding Begins
  begins m xs b = along (λ m xs b zs. Begins xs zs) (λ xs b. ([], sym (append-nil xs))) (λ m xs b is. ([], sym (append-nil xs))) (λ m xs b is out. (b ∷ [], refl))
      (λ m xs b c is out ih. (b ∷ ih.0, ih.1 ∙ append_assoc xs (b ∷ []) ih.0)) m xs b

  longer : (xs zs : List ℕ) → Begins xs zs → length xs ≤ length zs
  unfolding Begins
  longer xs zs h = let e = ap length h.1 ∙ length-append xs h.0 in omega arith

  grows : (xs : List ℕ) (b : ℕ) → length (xs ++ b ∷ []) ≡ length xs + 1
  grows xs b = length-append xs (b ∷ [])

  -- A block stands in a chain once, and each is a block of the tables.
  Fine : List ℕ → Type 0
  Fine xs = IsDistinct nat_eq xs × ((q : ℕ) → list_any (nat_eq q) xs ≡ true → q < length s.blocks)

  any_push : (q b : ℕ) (xs : List ℕ) → list_any (nat_eq q) (xs ++ b ∷ []) ≡ (list_any (nat_eq q) xs || nat_eq q b)
  any_push q b [] = or_false (nat_eq q b)
    where
      or_false : (t : Bool) → (t || false) ≡ t
      or_false true = refl
      or_false false = refl
  any_push q b (x ∷ xs) = ap (λ t. nat_eq q x || t) (any_push q b xs) ∙ or_assoc (nat_eq q x) (list_any (nat_eq q) xs) (nat_eq q b)
    where
      or_assoc : (t u v : Bool) → (t || (u || v)) ≡ ((t || u) || v)
      or_assoc true u v = refl
      or_assoc false u v = refl

  first_false : (t u : Bool) → (t || u) ≡ false → t ≡ false
  first_false true u h = h
  first_false false u h = refl

  second_false : (t u : Bool) → (t || u) ≡ false → u ≡ false
  second_false true u h = absurd (cc)
  second_false false u h = h

  both_false : (t u : Bool) → t ≡ false → u ≡ false → (t || u) ≡ false
  both_false true u e f = e
  both_false false u e f = f

  any_front : (q : ℕ) (xs ys : List ℕ) → list_any (nat_eq q) (xs ++ ys) ≡ false → list_any (nat_eq q) xs ≡ false
  any_front q [] ys h = refl
  any_front q (x ∷ xs) ys h = both_false (nat_eq q x) _ (first_false (nat_eq q x) _ h) (any_front q xs ys (second_false (nat_eq q x) _ h))

  either : (t u : Bool) {P : Type 0} → (t || u) ≡ true → (t ≡ true → P) → (u ≡ true → P) → P
  either true u h f g = f refl
  either false u h f g = g h

  in_tables : (b : ℕ) → nat_le (length s.blocks) b ≡ false → b < length s.blocks
  in_tables b h = grind (arith)

  inside_tables : (b : ℕ) → b < length s.blocks → nat_le (length s.blocks) b ≡ false
  inside_tables b le = grind (arith)

  equal : (a b : ℕ) → nat_eq a b ≡ true → a ≡ b
  equal a b h = grind (arith)

  turned : (a b : ℕ) → nat_eq b a ≡ false → nat_eq a b ≡ false
  turned a b h = grind (arith)

  fine_push : (xs : List ℕ) (b : ℕ) → ends_chain s xs b ≡ false → Fine xs → Fine (xs ++ b ∷ [])
  unfolding Fine
  fine_push xs b is fine = (
    IsDistinct-push nat_eq_equiv xs b fine.0 (first_false (list_any (nat_eq b) xs) _ is),
    λ q h. either (list_any (nat_eq q) xs) (nat_eq q b) (sym (any_push q b xs) ∙ h) (fine.1 q)
        (λ e. subst (λ z. z < length s.blocks) (sym (equal q b e)) (in_tables b (second_false (list_any (nat_eq b) xs) _ is))),
  )

  fine : (m : ℕ) (xs : List ℕ) (b : ℕ) → Fine xs → Fine (chain_of s m xs b)
  fine m xs b = along (λ m xs b zs. Fine xs → Fine zs) (λ xs b h. h) (λ m xs b is h. h) (λ m xs b is out h. fine_push xs b is h)
      (λ m xs b c is out ih h. ih (fine_push xs b is h)) m xs b

  fine_none : Fine []
  unfolding Fine IsDistinct
  fine_none = (tt, λ q h. absurd (cc))

  within : (zs : List ℕ) → Fine zs → length zs ≤ length s.blocks
  unfolding Fine
  within zs h = length-le_from_distinct_below zs (length s.blocks) h.0 h.1

  -- A step more changes nothing where the steps were enough.
  enough : (m : ℕ) (xs : List ℕ) (b : ℕ) → length (chain_of s (suc m) xs b) ≤ length xs + m → chain_of s (suc m) xs b ≡ chain_of s m xs b
  unfolding Begins
  enough zero xs b le = go (ends_chain s xs b) refl (base s b) refl
    where
      too_long : (zs : List ℕ) → chain_of s 1 xs b ≡ zs → Begins (xs ++ b ∷ []) zs → ⊥
      too_long zs is h = let l = longer (xs ++ b ∷ []) zs h in let g = grows xs b in let e = ap length is in omega arith

      go : (t : Bool) → ends_chain s xs b ≡ t → (o : Option ℕ) → base s b ≡ o → chain_of s 1 xs b ≡ chain_of s 0 xs b
      go true is o out = chain_stops 0 xs b is ∙ sym (chain_zero xs b)
      go false is None out = absurd (too_long (xs ++ b ∷ []) (chain_ends 0 xs b is out) ([], sym (append-nil (xs ++ b ∷ []))))
      go false is (Some c) out = absurd (too_long (chain_of s 0 (xs ++ b ∷ []) c) (chain_goes 0 xs b c is out) (begins 0 (xs ++ b ∷ []) c))
  enough (suc m) xs b le = go (ends_chain s xs b) refl (base s b) refl (λ c. enough m (xs ++ b ∷ []) c)
    where
      go : (t : Bool) → ends_chain s xs b ≡ t → (o : Option ℕ) → base s b ≡ o
          → ((c : ℕ) → length (chain_of s (suc m) (xs ++ b ∷ []) c) ≤ length (xs ++ b ∷ []) + m → chain_of s (suc m) (xs ++ b ∷ []) c ≡ chain_of s m (xs ++ b ∷ []) c)
          → chain_of s (suc (suc m)) xs b ≡ chain_of s (suc m) xs b
      go true is o out ih = chain_stops (suc m) xs b is ∙ sym (chain_stops m xs b is)
      go false is None out ih = chain_ends (suc m) xs b is out ∙ sym (chain_ends m xs b is out)
      go false is (Some c) out ih =
          let e = ap length (chain_goes (suc m) xs b c is out) in let g = grows xs b in
          chain_goes (suc m) xs b c is out ∙ ih c (omega arith) ∙ sym (chain_goes m xs b c is out)

  -- A block in front, which does not stand in the chain.
  in_front : (d m : ℕ) (xs : List ℕ) (b : ℕ) → list_any (nat_eq d) (chain_of s m xs b) ≡ false → chain_of s m (d ∷ xs) b ≡ d ∷ chain_of s m xs b
  unfolding Begins
  in_front d zero xs b out = chain_zero (d ∷ xs) b ∙ ap (λ z. d ∷ z) (sym (chain_zero xs b))
  in_front d (suc m) xs b out = go (ends_chain s xs b) refl (base s b) refl (λ c. in_front d m (xs ++ b ∷ []) c)
    where
      either_true : (t u v : Bool) → (u || v) ≡ true → ((t || u) || v) ≡ true
      either_true true u v h = refl
      either_true false u v h = h

      others_false : (t u v : Bool) → t ≡ false → (u || v) ≡ false → ((t || u) || v) ≡ false
      others_false true u v e h = absurd (cc)
      others_false false u v e h = h

      apart : (zs : List ℕ) → Begins (xs ++ b ∷ []) zs → list_any (nat_eq d) zs ≡ false → nat_eq b d ≡ false
      apart zs h none = turned b d (second_false (list_any (nat_eq d) xs) _ (sym (any_push d b xs) ∙ any_front d (xs ++ b ∷ []) h.0 (ap (list_any (nat_eq d)) (sym h.1) ∙ none)))

      go : (t : Bool) → ends_chain s xs b ≡ t → (o : Option ℕ) → base s b ≡ o
          → ((c : ℕ) → list_any (nat_eq d) (chain_of s m (xs ++ b ∷ []) c) ≡ false → chain_of s m (d ∷ (xs ++ b ∷ [])) c ≡ d ∷ chain_of s m (xs ++ b ∷ []) c)
          → chain_of s (suc m) (d ∷ xs) b ≡ d ∷ chain_of s (suc m) xs b
      go true is o at ih = chain_stops m (d ∷ xs) b (either_true (nat_eq b d) _ _ is) ∙ ap (λ z. d ∷ z) (sym (chain_stops m xs b is))
      go false is None at ih =
          chain_ends m (d ∷ xs) b (others_false (nat_eq b d) _ _ (apart _ ([], sym (append-nil (xs ++ b ∷ []))) (ap (list_any (nat_eq d)) (sym (chain_ends m xs b is at)) ∙ out)) is) at
          ∙ ap (λ z. d ∷ z) (sym (chain_ends m xs b is at))
      go false is (Some c) at ih =
          let none = ap (list_any (nat_eq d)) (sym (chain_goes m xs b c is at)) ∙ out in
          chain_goes m (d ∷ xs) b c (others_false (nat_eq b d) _ _ (apart _ (begins m (xs ++ b ∷ []) c) none) is) at
          ∙ ih c none ∙ ap (λ z. d ∷ z) (sym (chain_goes m xs b c is at))

  -- A block that is no level does not stand in the chain.
  not_in : (d m : ℕ) (xs : List ℕ) (b : ℕ) → list_any (nat_eq d) xs ≡ false → some_level_of s m (λ l. nat_eq l d) b ≡ false → list_any (nat_eq d) (chain_of s m xs b) ≡ false
  not_in d m xs b = along (λ m xs b zs. list_any (nat_eq d) xs ≡ false → some_level_of s m (λ l. nat_eq l d) b ≡ false → list_any (nat_eq d) zs ≡ false)
      (λ xs b out none. out)
      (λ m xs b is out none. out)
      (λ m xs b is at out none. pushed xs b out (here m b none))
      (λ m xs b c is at ih out none. ih (pushed xs b out (here m b none)) (sym (level_next s (λ l. nat_eq l d) m b c (here m b none) at) ∙ none)) m xs b
    where
      here : (m b : ℕ) → some_level_of s (suc m) (λ l. nat_eq l d) b ≡ false → nat_eq b d ≡ false
      here m b none = go (nat_eq b d) refl
        where
          go : (t : Bool) → nat_eq b d ≡ t → nat_eq b d ≡ false
          go true e = absurd (let h = sym (level_here s (λ l. nat_eq l d) m b e) ∙ none in cc)
          go false e = e

      pushed : (xs : List ℕ) (b : ℕ) → list_any (nat_eq d) xs ≡ false → nat_eq b d ≡ false → list_any (nat_eq d) (xs ++ b ∷ []) ≡ false
      pushed xs b out other = any_push d b xs ∙ both_false (list_any (nat_eq d) xs) (nat_eq d b) out (turned d b other)

  -- The chain of a block that has a base and is no level of it.
  chain_behind : (b p : ℕ) → b < length s.blocks → base s b ≡ Some p → is_in_own_chain s b ≡ false
      → chain_of s (length s.blocks) [] b ≡ b ∷ chain_of s (length s.blocks) [] p
  unfolding is_in_own_chain
  chain_behind b p le out own = go (length s.blocks) refl
    where
      inside : ends_chain s [] b ≡ false
      inside = inside_tables b le

      free : some_level_of s (length s.blocks) (λ l. nat_eq l b) p ≡ false
      free = ap (holds (λ c. some_level_of s (length s.blocks) (λ l. nat_eq l b) c)) (sym out) ∙ own

      not_there : (m : ℕ) → some_level_of s m (λ l. nat_eq l b) p ≡ false → list_any (nat_eq b) (chain_of s m [] p) ≡ false
      not_there m none = not_in b m [] p refl none

      fits : (zs : List ℕ) → list_any (nat_eq b) zs ≡ false → Fine zs → length zs + 1 ≤ length s.blocks
      fits zs none f = let l = within (zs ++ b ∷ []) (fine_push zs b (both_false (list_any (nat_eq b) zs) _ none (inside_tables b le)) f) in let g = grows zs b in omega arith

      go : (n : ℕ) → length s.blocks ≡ n → chain_of s (length s.blocks) [] b ≡ b ∷ chain_of s (length s.blocks) [] p
      go zero is = absurd (omega arith)
      go (suc m) is =
          let whole : length (chain_of s (length s.blocks) [] p) + 1 ≤ length s.blocks = fits _ (not_there (length s.blocks) free) (fine (length s.blocks) [] p fine_none) in
          let short : length (chain_of s (suc m) [] p) ≤ length {A = ℕ} [] + m = let l : length (chain_of s (suc m) [] p) ≤ m = subst (λ n. length (chain_of s n [] p) ≤ m) is (omega arith) in omega arith in
          let same : chain_of s (length s.blocks) [] p ≡ chain_of s m [] p = ap (λ n. chain_of s n [] p) is ∙ enough m [] p short in
          ap (λ n. chain_of s n [] b) is ∙ chain_goes m [] b p inside out
          ∙ in_front b m [] p (ap (list_any (nat_eq b)) (sym same) ∙ not_there (length s.blocks) free)
          ∙ ap (λ z. b ∷ z) (sym same)

  -- Classes.
  of_block : (d : DeclNo) (b : ℕ) → owner_of_level s (Some b) ≡ Some d → b < length s.blocks
  of_block d b owner = go (slice_get s.blocks b) refl
    where
      go : (o : Option BlockOf) → slice_get s.blocks b ≡ o → b < length s.blocks
      go None e = absurd (let h = ap owner_in (sym e) ∙ owner in cc)
      go (Some row) e = slice_get_within s.blocks b row e

  classes_push : (xs : List ℕ) (b : ℕ) (d : DeclNo) → owner_of_level s (Some b) ≡ Some d → classes_of s (xs ++ b ∷ []) ≡ classes_of s xs ++ d ∷ []
  unfolding classes_of
  classes_push xs b d owner =
      each-append (λ block. if_any (owner_of_level s (Some block))) xs (b ∷ [])
      ∙ ap (λ z. each (λ block. if_any (owner_of_level s (Some block))) xs ++ (if_any z ++ [])) owner

  turned_over : (b : ℕ) (zs : List ℕ) → reverse (b ∷ zs) ≡ reverse zs ++ b ∷ []
  turned_over b zs = reverse-append (b ∷ []) zs

  levels_by : (d : DeclNo) (b : ℕ) (zs : List ℕ) → IsClass s d b → chain_of s (length s.blocks) [] b ≡ b ∷ zs → levels_of s d ≡ classes_of s (reverse zs) ++ d ∷ []
  unfolding levels_of
  levels_by d b zs cls is =
      ap (levels_in s) cls.0 ∙ ap (λ z. classes_of s (reverse z)) is ∙ ap (classes_of s) (turned_over b zs) ∙ classes_push (reverse zs) b d cls.1

  first_of_chain : (b : ℕ) → b < length s.blocks → (zs : List ℕ) × (chain_of s (length s.blocks) [] b ≡ b ∷ zs)
  unfolding Begins
  first_of_chain b le = go (length s.blocks) refl
    where
      at_first : (m : ℕ) → ends_chain s [] b ≡ false → (zs : List ℕ) × (chain_of s (suc m) [] b ≡ b ∷ zs)
      at_first m is = cases (base s b) refl
        where
          cases : (o : Option ℕ) → base s b ≡ o → (zs : List ℕ) × (chain_of s (suc m) [] b ≡ b ∷ zs)
          cases None out = ([], chain_ends m [] b is out)
          cases (Some c) out = let h = begins m (b ∷ []) c in (h.0, chain_goes m [] b c is out ∙ h.1)

      go : (n : ℕ) → length s.blocks ≡ n → (zs : List ℕ) × (chain_of s (length s.blocks) [] b ≡ b ∷ zs)
      go zero is = absurd (omega arith)
      go (suc m) is = let h = at_first m (inside_tables b le) in (h.0, ap (λ n. chain_of s n [] b) is ∙ h.1)

  -- the levels of a class end with itself
  pub ends_with_itself : (d : DeclNo) (b : ℕ) → IsClass s d b → (outer : List DeclNo) × (levels_of s d ≡ outer ++ d ∷ [])
  ends_with_itself d b cls = let h = first_of_chain b (of_block d b cls.1) in (classes_of s (reverse h.0), levels_by d b h.0 cls h.1)

  none_before : (d : DeclNo) → classes_of s [] ++ d ∷ [] ≡ d ∷ []
  unfolding classes_of
  none_before d = refl

  -- a class without a prefix is its only level
  pub alone : (d : DeclNo) (b : ℕ) → IsClass s d b → base s b ≡ None → levels_of s d ≡ d ∷ []
  alone d b cls out = go (length s.blocks) refl
    where
      go : (n : ℕ) → length s.blocks ≡ n → levels_of s d ≡ d ∷ []
      go zero is = absurd (let le = of_block d b cls.1 in omega arith)
      go (suc m) is = levels_by d b [] cls (ap (λ n. chain_of s n [] b) is ∙ chain_ends m [] b (inside_tables b (of_block d b cls.1)) out) ∙ none_before d

  -- the levels of a class that is in no cycle are those of its prefix and itself
  pub one_more : (d q : DeclNo) (b p : ℕ) → IsClass s d b → IsClass s q p → base s b ≡ Some p → is_in_own_chain s b ≡ false → levels_of s d ≡ levels_of s q ++ d ∷ []
  unfolding levels_of
  one_more d q b p cls prefix out own =
      levels_by d b _ cls (chain_behind b p (of_block d b cls.1) out own) ∙ ap (λ z. levels_in s z ++ d ∷ []) (sym prefix.0)

-- A block with so many levels.
pub data Levels (s : Tables) : ℕ → (block : ℕ) → Type 0 where
  last : {b : ℕ} → base s b ≡ None → Levels s 1 b
  more : {n b p : ℕ} → base s b ≡ Some p → Levels s n p → Levels s (suc n) b

module _ (s : Tables) where
  one_count : (n m b : ℕ) → Levels s n b → Levels s m b → n ≡ m
  one_count n m b (last out) (last other) = refl
  one_count n m b (last out) (more other ls) = absurd (cc)
  one_count n m b (more out ls) (last other) = absurd (cc)
  one_count n m b (more {n = k} {p = p} out ls) (more {n = l} {p = q} other ks) =
      let same : p ≡ q = cc in ap suc (one_count k l p ls (subst (λ z. Levels s l z) (sym same) ks))

  -- a block with more levels is none of a block with fewer
  not_among : (b m : ℕ) (k n c : ℕ) → Levels s n b → Levels s k c → k < n → some_level_of s m (λ l. nat_eq l b) c ≡ false
  not_among b zero k n c many few le = level_none s (λ l. nat_eq l b) c
  not_among b (suc m) k n c many few le = go k c le apart few (λ j p. not_among b m j n p many)
    where
      apart : nat_eq c b ≡ false
      apart = test (nat_eq c b) refl
        where
          test : (t : Bool) → nat_eq c b ≡ t → nat_eq c b ≡ false
          test true e = absurd (let e = one_count n k b many (subst (λ z. Levels s k z) (equal s c b e) few) in omega arith)
          test false e = e

      go : (i e : ℕ) → i < n → nat_eq e b ≡ false → Levels s i e → ((j p : ℕ) → Levels s j p → j < n → some_level_of s m (λ l. nat_eq l b) p ≡ false)
          → some_level_of s (suc m) (λ l. nat_eq l b) e ≡ false
      go i e fewer other (last out) ih = level_last s (λ l. nat_eq l b) m e other out
      go i e fewer other (more {n = j} {p = p} out ls) ih = level_next s (λ l. nat_eq l b) m e p other out ∙ ih j p ls (omega arith)

  pub in_no_cycle : (n b : ℕ) → Levels s n b → is_in_own_chain s b ≡ false
  unfolding is_in_own_chain
  in_no_cycle n b (last out) = ap (holds (λ c. some_level_of s (length s.blocks) (λ l. nat_eq l b) c)) out
  in_no_cycle n b (more {n = k} {p = p} out ls) =
      ap (holds (λ c. some_level_of s (length s.blocks) (λ l. nat_eq l b) c)) out ∙ not_among b (length s.blocks) k (suc k) p (more out ls) ls (omega arith)

  counted : (d e : DeclNo) (b : ℕ) → class_block s d ≡ Some b → Outermost s d e → (n : ℕ) × Levels s n b
  counted d e b at (itself {block = c} cls out) = let same : c ≡ b = let h = cls.0 in cc in (1, subst (λ z. Levels s 1 z) same (last out))
  counted d e b at (further {q = q} (by {block = c} {around = p} cls out prefix) rest) =
      let same : c ≡ b = let h = cls.0 in cc in
      let h = counted q e p prefix.0 rest in (suc h.0, subst (λ z. Levels s (suc h.0) z) same (more out h.1))

  -- the levels of a class begin with its outermost prefix
  pub begins_with_outermost : (d e : DeclNo) → Outermost s d e → (inner : List DeclNo) × (levels_of s d ≡ e ∷ inner)
  begins_with_outermost d e (itself {block = b} cls out) = ([], alone s d b cls out)
  begins_with_outermost d e (further {q = q} (by {block = b} {around = p} cls out prefix) rest) =
      let k = counted d e b cls.0 (further (by cls out prefix) rest) in
      let h = begins_with_outermost q e rest in
      (h.0 ++ d ∷ [], one_more s d q b p cls prefix out (in_no_cycle k.0 b k.1) ∙ ap (λ z. z ++ d ∷ []) h.1)
