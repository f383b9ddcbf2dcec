-- The innermost level that two blocks share.
use Rattle.std.proofs.Common.{◌≡◌, ℕ, zero, suc, Bool, true, false, ◌||◌, Option, Some, None, refl, sym, ap, ◌∙◌, length, if◌then◌else◌, arith, subst}
use Rattle.std.proofs.lemmas.Bool.Decides.{nat_tests}
use Rattle.std.specs.Prelude.{nat_eq}
use Rattle.sim_base.specs.declared.numbering.DeclNo.{DeclNo}
use Rattle.sim_scope.specs.Levels.{base, class_block, has_level, holds, level_beyond, owner_of_level, shared_class, shared_level_of, shared_of, some_level_of}
use Rattle.sim_scope.specs.Tables.{Tables}
use Rattle.sim_types.specs.Chains.{HasClasses, HaveInCommon}

itself : (n : ℕ) → nat_eq n n ≡ true
itself n = grind (arith, nat_tests)

same_number : (m n : ℕ) → nat_eq m n ≡ true → m ≡ n
same_number m n is = grind (arith, nat_tests)

-- with more fuel no level is lost
more_fuel : (s : Tables) (n : ℕ) (test : ℕ → Bool) (block : ℕ) → some_level_of s n test block ≡ true → some_level_of s (suc n) test block ≡ true
unfolding some_level_of
more_fuel s zero test block is = absurd (cc)
more_fuel s (suc n) test block is = go (test block) (base s block) (more_fuel s n test) is
  where
    go : (here : Bool) (out : Option ℕ) → ((b : ℕ) → some_level_of s n test b ≡ true → some_level_of s (suc n) test b ≡ true)
        → (here || holds (λ b. some_level_of s n test b) out) ≡ true → (here || holds (λ b. some_level_of s (suc n) test b) out) ≡ true
    go true out deep h = refl
    go false None deep h = absurd (cc)
    go false (Some b) deep h = deep b h

-- what the search for a shared level comes to
record Comes (s : Tables) (n other block level : ℕ) : Type 0 where
  is_other : has_level s other level ≡ true
  is_one : some_level_of s n (λ b. nat_eq b level) block ≡ true
  innermost : (x : ℕ) → some_level_of s n (λ b. nat_eq b x) block ≡ true → has_level s other x ≡ true → some_level_of s n (λ b. nat_eq b x) level ≡ true

comes_here : (s : Tables) (n other block level : ℕ) → has_level s other block ≡ true → block ≡ level → Comes s (suc n) other block level
unfolding some_level_of
comes_here s n other block level at is =
    record {
      is_other = subst (λ b. has_level s other b ≡ true) is at;
      is_one = ap (λ z. z || holds (λ b. some_level_of s n (λ c. nat_eq c level) b) (base s block)) (subst (λ b. nat_eq block b ≡ true) is (itself block));
      innermost = λ x one two. subst (λ b. some_level_of s (suc n) (λ c. nat_eq c x) b ≡ true) is one;
    }

comes_further : (s : Tables) (n other block out level : ℕ) → has_level s other block ≡ false → base s block ≡ Some out → Comes s n other out level → Comes s (suc n) other block level
unfolding some_level_of
comes_further s n other block out level at around c =
    record {
      is_other = c.is_other;
      is_one = one level (nat_eq block level) c.is_one;
      innermost = λ x h two. more_fuel s n (λ c. nat_eq c x) level (c.innermost x (outer x (nat_eq block x) refl two h) two);
    }
  where
    one : (x : ℕ) (here : Bool) → some_level_of s n (λ c. nat_eq c x) out ≡ true → (here || holds (λ b. some_level_of s n (λ c. nat_eq c x) b) (base s block)) ≡ true
    one x true h = refl
    one x false h = ap (holds (λ b. some_level_of s n (λ c. nat_eq c x) b)) around ∙ h

    outer : (x : ℕ) (here : Bool) → nat_eq block x ≡ here → has_level s other x ≡ true → (here || holds (λ b. some_level_of s n (λ c. nat_eq c x) b) (base s block)) ≡ true
        → some_level_of s n (λ c. nat_eq c x) out ≡ true
    outer x true e two h = absurd (let no : has_level s other block ≡ true = ap (has_level s other) (same_number block x e) ∙ two in cc)
    outer x false e two h = sym (ap (holds (λ b. some_level_of s n (λ c. nat_eq c x) b)) around) ∙ h

some_same : (m n : ℕ) → (let a : Option ℕ = Some m in a) ≡ Some n → m ≡ n
some_same m n is = ap (λ x. elim x [ None ↦ m | Some y ↦ y ]) is

comes : (s : Tables) (n other block level : ℕ) → shared_level_of s n other block ≡ Some level → Comes s n other block level
unfolding shared_level_of
comes s zero other block level is = absurd (cc)
comes s (suc n) other block level is = go (has_level s other block) refl (base s block) refl (comes s n other) is
  where
    go : (here : Bool) → has_level s other block ≡ here → (out : Option ℕ) → base s block ≡ out → ((b l : ℕ) → shared_level_of s n other b ≡ Some l → Comes s n other b l)
        → (if here then Some block else level_beyond (λ b. shared_level_of s n other b) out) ≡ Some level → Comes s (suc n) other block level
    go true at out around deep h = comes_here s n other block level at (some_same block level h)
    go false at None around deep h = absurd (cc)
    go false at (Some b) around deep h = comes_further s n other block b level at around (deep b level h)

-- where it comes to nothing, no level is shared
comes_to_none : (s : Tables) (n other block x : ℕ) → shared_level_of s n other block ≡ None → some_level_of s n (λ b. nat_eq b x) block ≡ true → has_level s other x ≡ true → ⊥
unfolding shared_level_of some_level_of
comes_to_none s zero other block x is one two = absurd (cc)
comes_to_none s (suc n) other block x is one two = go (has_level s other block) refl (base s block) (nat_eq block x) refl (λ b. comes_to_none s n other b x) is one
  where
    go : (here : Bool) → has_level s other block ≡ here → (out : Option ℕ) (same : Bool) → nat_eq block x ≡ same
        → ((b : ℕ) → shared_level_of s n other b ≡ None → some_level_of s n (λ b. nat_eq b x) b ≡ true → has_level s other x ≡ true → ⊥)
        → (if here then Some block else level_beyond (λ b. shared_level_of s n other b) out) ≡ None → (same || holds (λ b. some_level_of s n (λ c. nat_eq c x) b) out) ≡ true → ⊥
    go true at out same e deep h k = absurd (cc)
    go false at out true e deep h k = absurd (let no : has_level s other block ≡ true = ap (has_level s other) (same_number block x e) ∙ two in cc)
    go false at None false e deep h k = absurd (cc)
    go false at (Some b) false e deep h k = deep b h k two

in_common : (s : Tables) (c d class : DeclNo) (a b : ℕ) (found : Option ℕ) → class_block s c ≡ Some a → class_block s d ≡ Some b → shared_level_of s (length s.blocks) b a ≡ found
    → owner_of_level s found ≡ Some class → HaveInCommon s c d class
unfolding has_level
in_common s c d class a b None one two at is = absurd (cc)
in_common s c d class a b (Some level) one two at is =
    let is_so = comes s (length s.blocks) b a level at in
    record { first = a; first_is = one; other = b; other_is = two; level = level; owned = is; of_first = is_so.is_one; of_other = is_so.is_other; innermost = is_so.innermost }

pub innermost_in_common : (s : Tables) (c d class : DeclNo) → shared_class s c d ≡ Some class → HaveInCommon s c d class
unfolding shared_class
innermost_in_common s c d class is = go (class_block s c) refl (class_block s d) refl is
  where
    go : (a : Option ℕ) → class_block s c ≡ a → (b : Option ℕ) → class_block s d ≡ b → shared_of s a b ≡ Some class → HaveInCommon s c d class
    go None one b two h = absurd (cc)
    go (Some a) one None two h = absurd (cc)
    go (Some a) one (Some b) two h = in_common s c d class a b (shared_level_of s (length s.blocks) b a) one two refl h

pub none_in_common : (s : Tables) (c d : DeclNo) (a b x : ℕ) → shared_class s c d ≡ None → class_block s c ≡ Some a → class_block s d ≡ Some b → HasClasses s a → has_level s a x ≡ true → has_level s b x ≡ true → ⊥
unfolding shared_class has_level
none_in_common s c d a b x is one two owned p q =
    go (shared_level_of s (length s.blocks) b a) refl (sym (ap (λ z. shared_of s z (class_block s d)) one ∙ ap (shared_of s (Some a)) two) ∙ is)
  where
    go : (found : Option ℕ) → shared_level_of s (length s.blocks) b a ≡ found → owner_of_level s found ≡ None → ⊥
    go None at h = comes_to_none s (length s.blocks) b a x at p q
    go (Some level) at h = owned level (comes s (length s.blocks) b a level at).is_one h
