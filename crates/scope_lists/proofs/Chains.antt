-- A walk from block to block finds what stands first in the list.
use Rattle.std.proofs.Common.{◌≡◌, ◌<◌, ◌≤◌, ◌+◌, ◌⊎◌, inl, inr, ℕ, zero, suc, Bool, true, false, List, [], ◌∷◌, Option, Some, None, refl, sym, ap, ◌∙◌, arith, if◌then◌else◌, ◌||◌}
use Rattle.std.proofs.lemmas.Bool.Decides.{nat_tests}
use Rattle.std.specs.Prelude.{nat_eq}
use Rattle.std.specs.List.{list_any}
use Rattle.std.specs.Option.{option_or}
use Rattle.sim_scope.specs.Along.{at_next, first_along, from_next, some_along}
use Rattle.sim_scope.specs.Access.{joined}
use Rattle.scope_lists.specs.Denoted.{through}
use Rattle.scope_lists.specs.Lists.{first, of_block, up_to}

-- blocks that were met
abbrev pub has : List ℕ → ℕ → Bool
has seen b = list_any (nat_eq b) seen

-- the blocks of a list in front of the first that was met
unfoldable pub outside : List ℕ → List ℕ → List ℕ
outside seen [] = []
outside seen (b ∷ bs) = if has seen b then [] else b ∷ outside seen bs

pub outside_met : (seen : List ℕ) (b : ℕ) (bs : List ℕ) → has seen b ≡ true → outside seen (b ∷ bs) ≡ []
unfolding outside
outside_met seen b bs met = ap (λ t. if t then [] else b ∷ outside seen bs) met

pub outside_new : (seen : List ℕ) (b : ℕ) (bs : List ℕ) → has seen b ≡ false → outside seen (b ∷ bs) ≡ b ∷ outside seen bs
unfolding outside
outside_new seen b bs new = ap (λ t. if t then [] else b ∷ outside seen bs) new

pub outside_up_to : (seen : List ℕ) (block : ℕ) (bs : List ℕ) → outside seen (up_to block bs) ≡ outside (block ∷ seen) bs
unfolding outside up_to
outside_up_to seen block [] = refl
outside_up_to seen block (b ∷ bs) = go (nat_eq b block) (has seen b) refl (outside_up_to seen block bs)
  where
    go : (same met : Bool) → has seen b ≡ met → outside seen (up_to block bs) ≡ outside (block ∷ seen) bs
        → outside seen (if same then [] else b ∷ up_to block bs) ≡ (if same || met then [] else b ∷ outside (block ∷ seen) bs)
    go true met at deep = refl
    go false true at deep = outside_met seen b (up_to block bs) at
    go false false at deep = outside_new seen b (up_to block bs) at ∙ ap (λ x. b ∷ x) deep

pub outside_nothing : (bs : List ℕ) → outside [] bs ≡ bs
unfolding outside
outside_nothing [] = refl
outside_nothing (b ∷ bs) = ap (λ x. b ∷ x) (outside_nothing bs)

-- how many of the first blocks were not met
abbrev pub counted : Bool → ℕ
counted true = 0
counted false = 1

unfoldable pub free : List ℕ → ℕ → ℕ
free seen zero = 0
free seen (suc n) = counted (has seen n) + free seen n

same : (a b : ℕ) → nat_eq a b ≡ true → a ≡ b
same a b h = grind (arith, nat_tests)

other : (a b : ℕ) → (a < b) → nat_eq a b ≡ false
other a b h = grind (arith, nat_tests)

itself : (b : ℕ) → nat_eq b b ≡ true
itself b = grind (arith, nat_tests)

pub free_all : (n : ℕ) → free [] n ≡ n
unfolding free
free_all zero = refl
free_all (suc n) = let deep = free_all n in omega arith

free_other : (seen : List ℕ) (b n : ℕ) → n ≤ b → free (b ∷ seen) n ≡ free seen n
unfolding free
free_other seen b zero le = refl
free_other seen b (suc n) le =
    let apart : nat_eq n b ≡ false = other n b (omega arith) in
    let deep = free_other seen b n (omega arith) in
    ap (λ t. counted (t || has seen n) + free (b ∷ seen) n) apart ∙ ap (λ m. counted (has seen n) + m) deep

pub free_less : (seen : List ℕ) (b n : ℕ) → b < n → has seen b ≡ false → free (b ∷ seen) n + 1 ≡ free seen n
unfolding free
free_less seen b zero le new = absurd (omega arith)
free_less seen b (suc n) le new = go (λ less. free_less seen b n less new) (nat_eq n b) refl
  where
    go : (b < n → free (b ∷ seen) n + 1 ≡ free seen n) → (t : Bool) → nat_eq n b ≡ t → counted (nat_eq n b || has seen n) + free (b ∷ seen) n + 1 ≡ counted (has seen n) + free seen n
    go deep true e =
        let is : n ≡ b = same n b e in
        let left : counted (nat_eq n b || has seen n) ≡ 0 = ap (λ t. counted (t || has seen n)) e in
        let right : counted (has seen n) ≡ 1 = ap (λ k. counted (has seen k)) is ∙ ap counted new in
        let fewer = free_other seen b n (omega arith) in omega arith
    go deep false e =
        let left : counted (nat_eq n b || has seen n) ≡ counted (has seen n) = ap (λ t. counted (t || has seen n)) e in
        let apart : n ≡ b → ⊥ = (λ is. let h : nat_eq n b ≡ true = ap (λ k. nat_eq k b) is ∙ itself b in cc) in
        let less : b < n = omega arith in
        let fewer = deep less in omega arith

pub none_free : (seen : List ℕ) (b n : ℕ) → b < n → has seen b ≡ false → free seen n ≤ 0 → ⊥
none_free seen b n le new few = let e = free_less seen b n le new in omega arith

pub nat_order : (b n : ℕ) → (b < n) ⊎ (n ≤ b)
nat_order zero zero = inr (omega arith)
nat_order zero (suc n) = inl (omega arith)
nat_order (suc b) zero = inr (omega arith)
nat_order (suc b) (suc n) = elim (nat_order b n) [ inl less ↦ inl (omega arith) | inr far ↦ inr (omega arith) ]

-- A link, and the list that goes along it.
abbrev pub IsListOf : (next : ℕ → Option ℕ) → (list : ℕ → List ℕ) → Type 0
IsListOf next list = (b : ℕ) → list b ≡ b ∷ up_to b (of_block list (next b))

abbrev pub Bounded : ℕ → (next : ℕ → Option ℕ) → Type 0
Bounded n next = (b p : ℕ) → next b ≡ Some p → b < n

module _ (next : ℕ → Option ℕ) where
  -- what was met leads to what was met, or to a block
  abbrev Leads : List ℕ → ℕ → Type 0
  Leads seen b = (x p : ℕ) → has seen x ≡ true → next x ≡ Some p → has (b ∷ seen) p ≡ true

  leads_on : (seen : List ℕ) (b c : ℕ) → Leads seen b → next b ≡ Some c → Leads (b ∷ seen) c
  leads_on seen b c lead out x p met to = go (nat_eq x b) refl met
    where
      go : (t : Bool) → nat_eq x b ≡ t → (nat_eq x b || has seen x) ≡ true → has (c ∷ b ∷ seen) p ≡ true
      go true e h = let is : x ≡ b = same x b e in let at : Some p ≡ Some c = sym to ∙ ap next is ∙ out in let here : p ≡ c = cc in ap (λ t. t || has (b ∷ seen) p) (ap (λ k. nat_eq k c) here ∙ itself c)
      go false e h = behind (nat_eq p c) (lead x p (ap (λ t. t || has seen x) (sym e) ∙ h) to)
        where
          behind : (t : Bool) → has (b ∷ seen) p ≡ true → (t || has (b ∷ seen) p) ≡ true
          behind true e = refl
          behind false e = e

  met_closed : (seen : List ℕ) (b : ℕ) → Leads seen b → has seen b ≡ true → (x p : ℕ) → has seen x ≡ true → next x ≡ Some p → has seen p ≡ true
  met_closed seen b lead at x p met to = go (nat_eq p b) refl (lead x p met to)
    where
      go : (t : Bool) → nat_eq p b ≡ t → (nat_eq p b || has seen p) ≡ true → has seen p ≡ true
      go true e h = let is : p ≡ b = same p b e in ap (has seen) is ∙ at
      go false e h = ap (λ t. t || has seen p) (sym e) ∙ h

  module _ {A : Type 0} (look : ℕ → Option A) where
    abbrev Quiet : List ℕ → Type 0
    Quiet seen = (x : ℕ) → has seen x ≡ true → look x ≡ None

    quiet_on : (seen : List ℕ) (b : ℕ) → Quiet seen → look b ≡ None → Quiet (b ∷ seen)
    quiet_on seen b quiet at x met = go (nat_eq x b) refl met
      where
        go : (t : Bool) → nat_eq x b ≡ t → (nat_eq x b || has seen x) ≡ true → look x ≡ None
        go true e h = ap look (same x b e) ∙ at
        go false e h = quiet x (ap (λ t. t || has seen x) (sym e) ∙ h)

    -- where a walk has come to what was met it finds nothing
    stays : (seen : List ℕ) → Quiet seen → ((x p : ℕ) → has seen x ≡ true → next x ≡ Some p → has seen p ≡ true) → (k b : ℕ) → has seen b ≡ true → first_along next k look b ≡ None
    unfolding first_along
    stays seen quiet closed zero b met = refl
    stays seen quiet closed (suc k) b met =
        ap (λ x. option_or x (from_next (λ b. first_along next k look b) (next b))) (quiet b met) ∙ go (λ c at. stays seen quiet closed k c at) (next b) refl
      where
        go : ((c : ℕ) → has seen c ≡ true → first_along next k look c ≡ None) → (o : Option ℕ) → next b ≡ o → from_next (λ b. first_along next k look b) o ≡ None
        go deep None to = refl
        go deep (Some c) to = deep c (closed b c met to)

    -- A reading of what is found tells nothing of blocks that are not in the tables.
    module _ {B : Type 0} (read : Option A → B) (n : ℕ) (bounded : Bounded n next) (list : ℕ → List ℕ) (is : IsListOf next list) (within : (b : ℕ) → n ≤ b → read (look b) ≡ read None) where
      met_first : (seen : List ℕ) (b : ℕ) → has seen b ≡ true → first look (outside seen (list b)) ≡ None
      unfolding first
      met_first seen b met = ap (λ l. first look (outside seen l)) (is b) ∙ ap (first look) (outside_met seen b _ met)

      new_first : (seen : List ℕ) (b : ℕ) → has seen b ≡ false → first look (outside seen (list b)) ≡ option_or (look b) (first look (outside (b ∷ seen) (of_block list (next b))))
      unfolding first
      new_first seen b new =
          ap (λ l. first look (outside seen l)) (is b) ∙ ap (first look) (outside_new seen b _ new)
          ∙ ap (λ l. option_or (look b) (first look l)) (outside_up_to seen b (of_block list (next b)))

      nowhere : (seen : List ℕ) → first look (outside seen []) ≡ None
      unfolding first outside
      nowhere seen = refl

      or_none : (o : Option A) → option_or o None ≡ o
      or_none None = refl
      or_none (Some x) = refl

      last_first : (seen : List ℕ) (b : ℕ) → has seen b ≡ false → next b ≡ None → first look (outside seen (list b)) ≡ look b
      last_first seen b new to =
          new_first seen b new ∙ ap (λ o. option_or (look b) (first look (outside (b ∷ seen) (of_block list o)))) to
          ∙ ap (option_or (look b)) (nowhere (b ∷ seen)) ∙ or_none (look b)

      out_of_tables : (b : ℕ) → n ≤ b → next b ≡ None
      out_of_tables b far = go (next b) refl
        where
          go : (o : Option ℕ) → next b ≡ o → next b ≡ None
          go None e = e
          go (Some p) e = absurd (let le = bounded b p e in omega arith)

      agree : (k b : ℕ) (seen : List ℕ) → Quiet seen → Leads seen b → free seen n ≤ k → read (first_along next k look b) ≡ read (first look (outside seen (list b)))
      unfolding first_along
      agree zero b seen quiet lead le = go (has seen b) refl
        where
          go : (t : Bool) → has seen b ≡ t → read None ≡ read (first look (outside seen (list b)))
          go true met = sym (ap read (met_first seen b met))
          go false new =
              let far : n ≤ b = elim (nat_order b n) [ inl less ↦ absurd (none_free seen b n less new le) | inr h ↦ h ] in
              sym (ap read (last_first seen b new (out_of_tables b far)) ∙ within b far)
      agree (suc k) b seen quiet lead le = go (λ c at to fewer. agree k c (b ∷ seen) (quiet_on seen b quiet at) (leads_on seen b c lead to) fewer) (has seen b) refl
        where
          go : ((c : ℕ) → look b ≡ None → next b ≡ Some c → free (b ∷ seen) n ≤ k → read (first_along next k look c) ≡ read (first look (outside (b ∷ seen) (list c)))) → (t : Bool) → has seen b ≡ t
              → read (option_or (look b) (from_next (λ b. first_along next k look b) (next b))) ≡ read (first look (outside seen (list b)))
          go deep true met = ap read (stays seen quiet (met_closed seen b lead met) (suc k) b met ∙ sym (met_first seen b met))
          go deep false new = here (look b) refl ∙ ap read (sym (new_first seen b new))
            where
              on : look b ≡ None → (o : Option ℕ) → next b ≡ o → read (from_next (λ b. first_along next k look b) o) ≡ read (first look (outside (b ∷ seen) (of_block list o)))
              on at None to = ap read (sym (nowhere (b ∷ seen)))
              on at (Some c) to =
                  let fewer = free_less seen b n (bounded b c to) new in
                  let few : free (b ∷ seen) n ≤ k = omega arith in deep c at to few

              here : (x : Option A) → look b ≡ x → read (option_or x (from_next (λ b. first_along next k look b) (next b))) ≡ read (option_or x (first look (outside (b ∷ seen) (of_block list (next b)))))
              here (Some x) at = refl
              here None at = on at (next b) refl

      pub reads_first : (b : ℕ) → read (first_along next n look b) ≡ read (first look (list b))
      reads_first b = agree n b [] (λ x met. absurd (cc)) (λ x p met to. absurd (cc)) (let e = free_all n in omega arith) ∙ ap (λ l. read (first look l)) (outside_nothing (list b))

    pub finds_first : (n : ℕ) → Bounded n next → (list : ℕ → List ℕ) → IsListOf next list → ((b : ℕ) → n ≤ b → look b ≡ None) → (b : ℕ) → first_along next n look b ≡ first look (list b)
    finds_first n bounded list is within b = reads_first (λ o. o) n bounded list is within b

-- The same of a walk that asks whether a block is so.
abbrev is_some : {A : Type 0} → Option A → Bool
is_some None = false
is_some (Some x) = true

abbrev asked : (ℕ → Bool) → ℕ → Option ℕ
asked test b = if test b then Some b else None

some_first : (next : ℕ → Option ℕ) (test : ℕ → Bool) (k b : ℕ) → some_along next k test b ≡ is_some (first_along next k (asked test) b)
unfolding some_along first_along
some_first next test zero b = refl
some_first next test (suc k) b = go (test b) (next b) (λ c. some_first next test k c)
  where
    go : (t : Bool) (o : Option ℕ) → ((c : ℕ) → some_along next k test c ≡ is_some (first_along next k (asked test) c))
        → (t || at_next (λ b. some_along next k test b) o) ≡ is_some (option_or (if t then Some b else None) (from_next (λ b. first_along next k (asked test) b) o))
    go true o deep = refl
    go false None deep = refl
    go false (Some c) deep = deep c

any_first : (test : ℕ → Bool) (bs : List ℕ) → list_any test bs ≡ is_some (first (asked test) bs)
unfolding first
any_first test [] = refl
any_first test (b ∷ bs) = go (test b) (any_first test bs)
  where
    go : (t : Bool) → list_any test bs ≡ is_some (first (asked test) bs) → (t || list_any test bs) ≡ is_some (option_or (if t then Some b else None) (first (asked test) bs))
    go true deep = refl
    go false deep = deep

pub finds_some : (next : ℕ → Option ℕ) (test : ℕ → Bool) (n : ℕ) → Bounded n next → (list : ℕ → List ℕ) → IsListOf next list → ((b : ℕ) → n ≤ b → test b ≡ false) → (b : ℕ)
    → some_along next n test b ≡ list_any test (list b)
finds_some next test n bounded list is within b =
    some_first next test n b
    ∙ ap is_some (finds_first next (asked test) n bounded list is (λ b far. ap (λ t. if t then Some b else None) (within b far)) b)
    ∙ sym (any_first test (list b))

-- A walk that ends with the first block that is so.
abbrev ending : {A : Type 0} → Bool → Option A → Option (Option A)
ending ends (Some x) = Some (Some x)
ending ends None = if ends then Some None else None

module _ {A : Type 0} (next : ℕ → Option ℕ) (ends : ℕ → Bool) (look : ℕ → Option A) where
  abbrev stopped : ℕ → Option ℕ
  stopped b = if ends b then None else next b

  abbrev comes_to : ℕ → Option (Option A)
  comes_to b = ending (ends b) (look b)

  ended_walk : (k b : ℕ) → first_along stopped k look b ≡ joined (first_along next k comes_to b)
  unfolding first_along
  ended_walk zero b = refl
  ended_walk (suc k) b = go (λ c. ended_walk k c) (look b) (ends b) (next b)
    where
      go : ((c : ℕ) → first_along stopped k look c ≡ joined (first_along next k comes_to c)) → (x : Option A) (t : Bool) (o : Option ℕ)
          → option_or x (from_next (λ b. first_along stopped k look b) (if t then None else o)) ≡ joined (option_or (ending t x) (from_next (λ b. first_along next k comes_to b) o))
      go deep (Some x) t o = refl
      go deep None true o = refl
      go deep None false None = refl
      go deep None false (Some c) = deep c

  ended_list : (bs : List ℕ) → first look (through ends bs) ≡ joined (first comes_to bs)
  unfolding first through
  ended_list [] = refl
  ended_list (b ∷ bs) = go (ended_list bs) (look b) (ends b)
    where
      go : first look (through ends bs) ≡ joined (first comes_to bs) → (x : Option A) (t : Bool) → option_or x (first look (if t then [] else through ends bs)) ≡ joined (option_or (ending t x) (first comes_to bs))
      go deep (Some x) t = refl
      go deep None true = refl
      go deep None false = deep

  pub finds_ended : (n : ℕ) → Bounded n next → (list : ℕ → List ℕ) → IsListOf next list → ((b : ℕ) → n ≤ b → look b ≡ None) → ((b : ℕ) → n ≤ b → ends b ≡ false) → (b : ℕ)
      → first_along stopped n look b ≡ first look (through ends (list b))
  finds_ended n bounded list is within quiet b =
      ended_walk n b ∙ ap joined (finds_first next comes_to n bounded list is (λ b far. ap (λ t. ending t (look b)) (quiet b far) ∙ ap (ending false) (within b far)) b)
      ∙ sym (ended_list (list b))

-- Lists of what is the same.
pub first_same : {A : Type 0} (f g : ℕ → Option A) → ((b : ℕ) → f b ≡ g b) → (bs : List ℕ) → first f bs ≡ first g bs
unfolding first
first_same f g is [] = refl
first_same f g is (b ∷ bs) = ap (λ x. option_or x (first f bs)) (is b) ∙ ap (option_or (g b)) (first_same f g is bs)

pub any_same : (f g : ℕ → Bool) → ((b : ℕ) → f b ≡ g b) → (bs : List ℕ) → list_any f bs ≡ list_any g bs
any_same f g is [] = refl
any_same f g is (b ∷ bs) = ap (λ x. x || list_any f bs) (is b) ∙ ap (λ x. g b || x) (any_same f g is bs)
