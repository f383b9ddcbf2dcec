-- Where no class is a level of its own prefix, the levels of each come to an end, and there are no more of them than texts.
use Rattle.std.proofs.Common.{◌≡◌, ◌<◌, ◌≤◌, ◌+◌, ℕ, zero, suc, Bool, true, false, List, [], ◌∷◌, length, Option, Some, None, refl, sym, ap, ◌∙◌, subst, arith}
use Rattle.std.proofs.lemmas.Map.Steps.{length-le_from_distinct_below}
use Rattle.std.specs.List.{AllByRecursion, IsDistinct, list_any}
use Rattle.std.specs.Prelude.{◌||◌, nat_eq, slice_get}
use Rattle.sim_base.specs.declared.numbering.DeclNo.{DeclNo}
use Rattle.sim_scope.specs.Access.{around as around_in, encloser}
use Rattle.sim_scope.specs.Levels.{base, base_in, has_level, holds, some_level_of}
use Rattle.sim_scope.specs.Source.{Source, block_of}
use Rattle.sim_scope.specs.Tables.{BlockOf}
use Rattle.sim_meaning.specs.Attributes.{is_connection}
use Rattle.sim_meaning.specs.Entries.{numbers_of}
use Rattle.sim_meaning.specs.Texts.{text}
use Rattle.sim_sound.specs.Held.{Among}
use Rattle.sim_sound.specs.Typed.{Ends, PrefixTyped, Prefixes, outermost, prefixed}
use Rattle.sim_sound.proofs.Lists.{equal_numbers, numbers_equal, there_is}
use Rattle.sim_sound.proofs.Prefixes.{class_solid}

or_first : (p q : Bool) → p ≡ true → (p || q) ≡ true
or_first true q e = refl
or_first false q e = absurd (cc)

or_then : (p q : Bool) → q ≡ true → (p || q) ≡ true
or_then true q e = refl
or_then false q e = e

or_if : (p q r : Bool) → (q ≡ true → r ≡ true) → (p ≡ true → r ≡ true) → (p || q) ≡ true → r ≡ true
or_if true q r f g e = g refl
or_if false q r f g e = f e

module _ (s : Source) where
  abbrev Reaches : (fuel from to : ℕ) → Type 0
  Reaches n b k = some_level_of s.tables n (λ c. nat_eq c k) b ≡ true

  abbrev beyond : (fuel to : ℕ) → Option ℕ → Bool
  beyond n k x = holds (λ c. some_level_of s.tables n (λ c. nat_eq c k) c) x

  at_once : (n k : ℕ) → Reaches (suc n) k k
  unfolding some_level_of
  at_once n k = or_first (nat_eq k k) (beyond n k (base s.tables k)) (equal_numbers k k refl)

  -- further by one level
  one_further : (n b k next : ℕ) → base s.tables k ≡ Some next → Reaches n b k → Reaches (suc n) b next
  unfolding some_level_of
  one_further zero b k next e r = absurd (cc)
  one_further (suc n) b k next e r = or_if (nat_eq b k) (beyond n k (base s.tables b)) (nat_eq b next || beyond (suc n) next (base s.tables b)) (λ f. or_then (nat_eq b next) _ (by_base (base s.tables b) f (λ c g. one_further n c k next e g))) (λ f. or_then (nat_eq b next) _ (here (numbers_equal b k f))) r
    where
      by_base : (x : Option ℕ) → beyond n k x ≡ true → ((c : ℕ) → Reaches n c k → Reaches (suc n) c next) → beyond (suc n) next x ≡ true
      by_base None f go = absurd (cc)
      by_base (Some c) f go = go c f

      here : b ≡ k → beyond (suc n) next (base s.tables b) ≡ true
      here same = ap (beyond (suc n) next) (ap (base s.tables) same ∙ e) ∙ at_once n next

  more_fuel : (n m b k : ℕ) → n ≤ m → Reaches n b k → Reaches m b k
  unfolding some_level_of
  more_fuel zero m b k le r = absurd (cc)
  more_fuel (suc n) zero b k le r = absurd (omega (arith, le))
  more_fuel (suc n) (suc m) b k le r = or_if (nat_eq b k) (beyond n k (base s.tables b)) (nat_eq b k || beyond m k (base s.tables b)) (λ f. or_then (nat_eq b k) _ (by_base (base s.tables b) f (λ c g. more_fuel n m c k (omega (arith, le)) g))) (λ f. or_first (nat_eq b k) _ f) r
    where
      by_base : (x : Option ℕ) → beyond n k x ≡ true → ((c : ℕ) → Reaches n c k → Reaches m c k) → beyond m k x ≡ true
      by_base None f go = absurd (cc)
      by_base (Some c) f go = go c f

  -- what has a next level is a block, and so is what stands in another
  block_there : (k : ℕ) (x : Option BlockOf) (b : ℕ) → slice_get s.tables.blocks k ≡ x → base_in x ≡ Some b → k < length s.tables.blocks
  block_there k None b at e = absurd (cc)
  block_there k (Some row) b at e = there_is s.tables.blocks k row at

  with_base : (k b : ℕ) → base s.tables k ≡ Some b → k < length s.tables.blocks
  unfolding base
  with_base k b e = block_there k (slice_get s.tables.blocks k) b refl e

  around_there : (k : ℕ) (x : Option BlockOf) (u : ℕ) → slice_get s.tables.blocks k ≡ x → around_in x ≡ Some u → k < length s.tables.blocks
  around_there k None u at e = absurd (cc)
  around_there k (Some row) u at e = there_is s.tables.blocks k row at

  with_encloser : (k u : ℕ) → encloser s.tables k ≡ Some u → k < length s.tables.blocks
  unfolding encloser
  with_encloser k u e = around_there k (slice_get s.tables.blocks k) u refl e

  module _ (each : (k b : ℕ) → is_connection (text s k) ≡ false → base s.tables k ≡ Some b → PrefixTyped s k b) (acyclic : (k b : ℕ) → is_connection (text s k) ≡ false → base s.tables k ≡ Some b → has_level s.tables b k ≡ false) where
    -- the levels that were passed on the way to one
    record Passed (n z k : ℕ) : Type 0 where
      pub solid : is_connection (text s z) ≡ false
      pub next : ℕ
      pub is : base s.tables z ≡ Some next
      pub reaches : Reaches n next k

    abbrev AllPassed : (fuel to : ℕ) → List ℕ → Type 0
    AllPassed n k [] = Unit {0}
    AllPassed n k (z ∷ zs) = Passed n z k × AllPassed n k zs

    all_further : (n k next : ℕ) → base s.tables k ≡ Some next → (zs : List ℕ) → AllPassed n k zs → AllPassed (suc n) next zs
    all_further n k next e [] a = tt
    all_further n k next e (z ∷ zs) a = let p = a.0 in (record { solid = p.solid; next = p.next; is = p.is; reaches = one_further n p.next k next e p.reaches }, all_further n k next e zs a.1)

    not_passed : (n z k : ℕ) → n ≤ length s.tables.blocks → Passed n z k → nat_eq k z ≡ false
    unfolding has_level
    not_passed n z k le p = by_test (nat_eq k z) refl
      where
        by_test : (t : Bool) → nat_eq k z ≡ t → nat_eq k z ≡ false
        by_test false e = e
        by_test true e =
            let same : k ≡ z = numbers_equal k z e in
            let yes : Reaches (length s.tables.blocks) p.next z = subst (Reaches (length s.tables.blocks) p.next) same (more_fuel n (length s.tables.blocks) p.next k le p.reaches) in
            let no : some_level_of s.tables (length s.tables.blocks) (λ c. nat_eq c z) p.next ≡ false = acyclic z p.next p.solid p.is in
            absurd (cc)

    none_passed : (n k : ℕ) → n ≤ length s.tables.blocks → (zs : List ℕ) → AllPassed n k zs → AllByRecursion (λ z. nat_eq k z ≡ false) zs
    none_passed n k le [] a = tt
    none_passed n k le (z ∷ zs) a = (not_passed n z k le a.0, none_passed n k le zs a.1)

    all_below : (k : ℕ) (zs : List ℕ) → k < length s.tables.blocks → ((q : ℕ) → list_any (nat_eq q) zs ≡ true → q < length s.tables.blocks) → (q : ℕ) → list_any (nat_eq q) (k ∷ zs) ≡ true → q < length s.tables.blocks
    all_below k zs lt f q e = by_test (nat_eq q k) refl e
      where
        by_test : (t : Bool) → nat_eq q k ≡ t → (t || list_any (nat_eq q) zs) ≡ true → q < length s.tables.blocks
        by_test true same g = subst (λ z. z < length s.tables.blocks) (sym (numbers_equal q k same)) lt
        by_test false other g = f q g

    -- so many levels are left, behind those that were passed
    ending : (n k : ℕ) (zs : List ℕ) → length zs + n ≡ length s.tables.blocks → AllPassed (length zs) k zs → IsDistinct nat_eq zs → ((q : ℕ) → list_any (nat_eq q) zs ≡ true → q < length s.tables.blocks) → is_connection (text s k) ≡ false → k < length s.tables.blocks → Ends s.tables n k
    unfolding IsDistinct
    ending zero k zs count a apart below solid lt =
        let le : length (k ∷ zs) ≤ length s.tables.blocks = length-le_from_distinct_below (k ∷ zs) (length s.tables.blocks) (none_passed (length zs) k (omega (arith, count)) zs a, apart) (all_below k zs lt below) in
        absurd (omega (arith, le, count))
    ending (suc n) k zs count a apart below solid lt = by_base (base s.tables k) refl (λ b e p. ending n b (k ∷ zs) (omega (arith, count)) (record { solid = solid; next = b; is = e; reaches = at_once (length zs) b }, all_further (length zs) k b e zs a) (none_passed (length zs) k (omega (arith, count)) zs a, apart) (all_below k zs lt below) (class_solid (text s b) p.prefix) (with_encloser b p.outer_prefix p.around_prefix))
      where
        by_base : (x : Option ℕ) → base s.tables k ≡ x → ((b : ℕ) → base s.tables k ≡ Some b → PrefixTyped s k b → Ends s.tables n b) → Ends s.tables (suc n) k
        by_base None e go = outermost e
        by_base (Some b) e go = prefixed e (go b e (each k b solid e))

    some_end : (n k : ℕ) → 0 < n → base s.tables k ≡ None → Ends s.tables n k
    some_end zero k lt none = absurd (omega (arith, lt))
    some_end (suc n) k lt none = outermost none

    no_level : (q : ℕ) → list_any (nat_eq q) [] ≡ true → q < length s.tables.blocks
    no_level q e = absurd (cc)

    all_end : 0 < length s.tables.blocks → (k : ℕ) → is_connection (text s k) ≡ false → Ends s.tables (length s.tables.blocks) k
    unfolding IsDistinct
    all_end some k solid = by_base (base s.tables k) refl
      where
        by_base : (x : Option ℕ) → base s.tables k ≡ x → Ends s.tables (length s.tables.blocks) k
        by_base None e = some_end (length s.tables.blocks) k some e
        by_base (Some b) e = ending (length s.tables.blocks) k [] (omega arith) tt tt no_level solid (with_base k b e)

    -- what is declared in one block is declared in no other, and no level of a prefix is the class itself
    pub prefixes_from : 0 < length s.tables.blocks → ((k : ℕ) (d : DeclNo) → Among d (numbers_of s k) → block_of s d ≡ k) → Prefixes s
    prefixes_from some owned = record {
      prefixed_by = each;
      ends = all_end some;
      apart = λ k b u d solid e level a f. apart_by k b u d (acyclic k b solid e) level (sym (owned u d a) ∙ owned k d f);
    }
      where
        apart_by : (k b u : ℕ) (d : DeclNo) → has_level s.tables b k ≡ false → has_level s.tables b u ≡ true → u ≡ k → ⊥
        apart_by k b u d never level same = let yes : has_level s.tables b k ≡ true = subst (λ z. has_level s.tables b z ≡ true) same level in cc
