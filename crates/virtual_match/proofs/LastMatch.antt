-- The match of a virtual is that of the innermost level that declares the identifier.
use Rattle.std.proofs.Common.{◌≡◌, ◌<◌, ◌≤◌, ℕ, zero, suc, Bool, true, false, List, [], ◌∷◌, Option, Some, None, refl, sym, ap, ◌∙◌, arith, subst, length}
use Rattle.std.proofs.lemmas.Bool.Decides.{nat_tests}
use Rattle.std.proofs.lemmas.Map.Steps.{length-le_from_distinct_below}
use Rattle.std.proofs.lemmas.Option.{slice_get_within}
use Rattle.std.specs.Prelude.{nat_eq, slice_get, ◌||◌}
use Rattle.std.specs.List.{AllByRecursion, IsDistinct, list_any}
use Rattle.std.specs.Option.{option_or}
use Rattle.sim_base.specs.declared.numbering.DeclNo.{DeclNo}
use Rattle.sim_scope.specs.declared.types.Entry.{Entry}
use Rattle.sim_scope.specs.declared.types.Entry.TheVariants as entry
use Rattle.sim_scope.specs.Along.{first_along, from_next}
use Rattle.sim_scope.specs.Levels.{base, base_in, class_block}
use Rattle.sim_scope.specs.Scopes.{declared_in, entry_is, entry_of, is_virtual, lookup}
use Rattle.sim_scope.specs.Tables.{BlockOf, Tables}
use Rattle.virtual_match.specs.Matching.{IsMatch, declared, known, match_at, match_in, match_of, match_of_declared, name_of, outside}

-- What the innermost level declares that declares a name, after so many levels.
data Declares (s : Tables) (name : List ℕ) (d : DeclNo) : ℕ → (block : ℕ) → Type 0 where
  last : {b : ℕ} → lookup s b name ≡ Some d → Declares s name d 1 b
  on : {n b p : ℕ} → lookup s b name ≡ None → base s b ≡ Some p → Declares s name d n p → Declares s name d (suc n) b

module _ (s : Tables) (name : List ℕ) where
  first : ℕ → ℕ → Option DeclNo
  first m b = first_along (base s) m (λ c. lookup s c name) b

  first_here : (m b : ℕ) (d : DeclNo) → lookup s b name ≡ Some d → first (suc m) b ≡ Some d
  unfolding first first_along
  first_here m b d is = ap (λ o. option_or o (from_next (λ c. first_along (base s) m (λ c. lookup s c name) c) (base s b))) is

  first_on : (m b p : ℕ) → lookup s b name ≡ None → base s b ≡ Some p → first (suc m) b ≡ first m p
  unfolding first first_along
  first_on m b p is out =
      ap (λ o. option_or o (from_next (λ c. first_along (base s) m (λ c. lookup s c name) c) (base s b))) is
      ∙ ap (from_next (λ c. first_along (base s) m (λ c. lookup s c name) c)) out

  first_out : (m b : ℕ) → lookup s b name ≡ None → base s b ≡ None → first (suc m) b ≡ None
  unfolding first first_along
  first_out m b is out =
      ap (λ o. option_or o (from_next (λ c. first_along (base s) m (λ c. lookup s c name) c) (base s b))) is
      ∙ ap (from_next (λ c. first_along (base s) m (λ c. lookup s c name) c)) out

  first_zero : (b : ℕ) → first 0 b ≡ None
  unfolding first first_along
  first_zero b = refl

  -- with enough steps it is found
  found_by : (d : DeclNo) (n m b : ℕ) → Declares s name d n b → n ≤ m → first m b ≡ Some d
  found_by d n zero b (last is) le = absurd (omega arith)
  found_by d n (suc m) b (last is) le = first_here m b d is
  found_by d n zero b (on {n = k} is out rest) le = absurd (omega arith)
  found_by d n (suc m) b (on {n = k} {p = p} is out rest) le = first_on m b p is out ∙ found_by d k m p rest (omega arith)

  -- The levels up to there are apart, so there are at most as many as blocks.
  same_count : (d e : DeclNo) (n m b : ℕ) → Declares s name d n b → Declares s name e m b → n ≡ m
  same_count d e n m b (last is) (last other) = refl
  same_count d e n m b (last is) (on other out rest) = absurd (cc)
  same_count d e n m b (on is out rest) (last other) = absurd (cc)
  same_count d e n m b (on {n = k} {p = p} is out rest) (on {n = l} {p = q} other far more) =
      let same : p ≡ q = cc in ap suc (same_count d e k l p rest (subst (λ z. Declares s name e l z) (sym same) more))

  levels : (d : DeclNo) (n b : ℕ) → Declares s name d n b → List ℕ
  levels d n b (last is) = b ∷ []
  levels d n b (on {n = k} {p = p} is out rest) = b ∷ levels d k p rest

  as_many : (d : DeclNo) (n b : ℕ) (x : Declares s name d n b) → length (levels d n b x) ≡ n
  unfolding levels
  as_many d n b (last is) = refl
  as_many d n b (on {n = k} {p = p} is out rest) = let e = as_many d k p rest in omega arith

  block_of_name : (b : ℕ) (d : DeclNo) → lookup s b name ≡ Some d → b < length s.blocks
  unfolding lookup
  block_of_name b d is = go (slice_get s.blocks b) refl
    where
      go : (o : Option BlockOf) → slice_get s.blocks b ≡ o → b < length s.blocks
      go None e = absurd (let h = ap (λ o. declared_in o name) (sym e) ∙ is in cc)
      go (Some row) e = slice_get_within s.blocks b row e

  block_of_base : (b p : ℕ) → base s b ≡ Some p → b < length s.blocks
  unfolding base
  block_of_base b p is = go (slice_get s.blocks b) refl
    where
      go : (o : Option BlockOf) → slice_get s.blocks b ≡ o → b < length s.blocks
      go None e = absurd (let h = ap base_in (sym e) ∙ is in cc)
      go (Some row) e = slice_get_within s.blocks b row e

  equal : (a b : ℕ) → nat_eq a b ≡ true → a ≡ b
  equal a b h = grind (arith, nat_tests)

  either : (t u : Bool) {P : Type 0} → (t || u) ≡ true → (t ≡ true → P) → (u ≡ true → P) → P
  either true u h f g = f refl
  either false u h f g = g h

  in_tables : (d : DeclNo) (n b : ℕ) (x : Declares s name d n b) (q : ℕ) → list_any (nat_eq q) (levels d n b x) ≡ true → q < length s.blocks
  unfolding levels
  in_tables d n b (last is) q h = either (nat_eq q b) false h (λ e. subst (λ z. z < length s.blocks) (sym (equal q b e)) (block_of_name b d is)) (λ e. absurd (cc))
  in_tables d n b (on {n = k} {p = p} is out rest) q h =
      either (nat_eq q b) (list_any (nat_eq q) (levels d k p rest)) h (λ e. subst (λ z. z < length s.blocks) (sym (equal q b e)) (block_of_base b p out)) (in_tables d k p rest q)

  apart_from : (d : DeclNo) (m c n b : ℕ) → Declares s name d m c → (x : Declares s name d n b) → n < m → AllByRecursion (λ y. nat_eq c y ≡ false) (levels d n b x)
  unfolding levels
  apart_from d m c n b y (last is) le = (other, tt)
    where
      other : nat_eq c b ≡ false
      other = test (nat_eq c b) refl
        where
          test : (t : Bool) → nat_eq c b ≡ t → nat_eq c b ≡ false
          test true e = absurd (let f = same_count d d m 1 b (subst (λ z. Declares s name d m z) (equal c b e) y) (last is) in omega arith)
          test false e = e
  apart_from d m c n b y (on {n = k} {p = p} is out rest) le = (other, apart_from d m c k p y rest (omega arith))
    where
      other : nat_eq c b ≡ false
      other = test (nat_eq c b) refl
        where
          test : (t : Bool) → nat_eq c b ≡ t → nat_eq c b ≡ false
          test true e = absurd (let f = same_count d d m (suc k) b (subst (λ z. Declares s name d m z) (equal c b e) y) (on is out rest) in omega arith)
          test false e = e

  all_apart : (d : DeclNo) (n b : ℕ) (x : Declares s name d n b) → IsDistinct nat_eq (levels d n b x)
  unfolding levels IsDistinct
  all_apart d n b (last is) = (tt, tt)
  all_apart d n b (on {n = k} {p = p} is out rest) = (apart_from d (suc k) b k p (on is out rest) rest (omega arith), all_apart d k p rest)

  found : (d : DeclNo) (n b : ℕ) → Declares s name d n b → first (length s.blocks) b ≡ Some d
  found d n b x =
      let e = as_many d n b x in
      let le = length-le_from_distinct_below (levels d n b x) (length s.blocks) (all_apart d n b x) (in_tables d n b x) in
      found_by d n (length s.blocks) b x (omega arith)

  -- Matches.
  not_virtual : (d : DeclNo) (e : Option Entry) → entry_is is_virtual e ≡ false → match_at e d ≡ Some d
  not_virtual d None is = refl
  not_virtual d (Some (entry.Virtual result own)) is = absurd (cc)
  not_virtual d (Some (entry.Variable ty)) is = refl
  not_virtual d (Some (entry.Constant ty)) is = refl
  not_virtual d (Some (entry.Array element dimensions)) is = refl
  not_virtual d (Some (entry.Procedure result block)) is = refl
  not_virtual d (Some (entry.Class block)) is = refl
  not_virtual d (Some (entry.Formal f)) is = refl
  not_virtual d (Some (entry.Attribute n p r)) is = refl
  not_virtual d (Some (entry.Unspecified w)) is = refl

  -- a match is that of what is declared after some levels
  DeclaredWith : (b : ℕ) → Option DeclNo → Type 0
  DeclaredWith b m = (d : DeclNo) × (n : ℕ) × (Declares s name d n b) × (match_at (entry_of s d) d ≡ m)

  declared_with : (b : ℕ) (m : Option DeclNo) → IsMatch s name b m → DeclaredWith b m
  unfolding DeclaredWith
  declared_with b m (declared {d = d} is plain) = (d, 1, last is, not_virtual d (entry_of s d) plain)
  declared_with b m (known {d = d} is e) = (d, 1, last is, ap (λ z. match_at z d) e)
  declared_with b m (outside {around = p} is out rest) = let h = declared_with p m rest in (h.0, suc h.1, on is out h.2, h.3)

  pub matched : (b : ℕ) (m : Option DeclNo) → IsMatch s name b m → match_in s name (Some b) ≡ m
  unfolding DeclaredWith first
  matched b m x = let h = declared_with b m x in ap (match_of_declared s) (found h.0 h.1 b h.2) ∙ h.3

  declared_as : (b : ℕ) (c d : DeclNo) → lookup s b name ≡ Some c → match_at (entry_of s c) c ≡ Some d → IsMatch s name b (Some d)
  declared_as b c d is m = go (entry_of s c) refl
    where
      plain : (e : Option Entry) → entry_of s c ≡ e → entry_is is_virtual e ≡ false → match_at e c ≡ Some c → IsMatch s name b (Some d)
      plain e at other same = let f : c ≡ d = let g = ap (λ z. match_at z c) (sym at) ∙ m in cc in subst (λ z. IsMatch s name b (Some z)) f (declared is (ap (entry_is is_virtual) at ∙ other))

      go : (e : Option Entry) → entry_of s c ≡ e → IsMatch s name b (Some d)
      go None at = plain None at refl refl
      go (Some (entry.Virtual result own)) at = known {result = result} is (at ∙ ap (λ z. Some (entry.Virtual result z)) (ap (λ z. match_at z c) (sym at) ∙ m))
      go (Some (entry.Variable ty)) at = plain _ at refl refl
      go (Some (entry.Constant ty)) at = plain _ at refl refl
      go (Some (entry.Array element dimensions)) at = plain _ at refl refl
      go (Some (entry.Procedure result block)) at = plain _ at refl refl
      go (Some (entry.Class block)) at = plain _ at refl refl
      go (Some (entry.Formal f)) at = plain _ at refl refl
      go (Some (entry.Attribute n p r)) at = plain _ at refl refl
      go (Some (entry.Unspecified w)) at = plain _ at refl refl

  is_match : (m b : ℕ) (c d : DeclNo) → first m b ≡ Some c → match_at (entry_of s c) c ≡ Some d → IsMatch s name b (Some d)
  is_match zero b c d is at = absurd (let h = sym (first_zero b) ∙ is in cc)
  is_match (suc m) b c d is at = go (lookup s b name) refl (base s b) refl (λ p. is_match m p c d)
    where
      go : (o : Option DeclNo) → lookup s b name ≡ o → (p : Option ℕ) → base s b ≡ p → ((p : ℕ) → first m p ≡ Some c → match_at (entry_of s c) c ≡ Some d → IsMatch s name p (Some d)) → IsMatch s name b (Some d)
      go (Some e) here p out ih = let same : e ≡ c = let h = sym (first_here m b e here) ∙ is in cc in declared_as b c d (here ∙ ap Some same) at
      go None here None out ih = absurd (let h = sym (first_out m b here out) ∙ is in cc)
      go None here (Some p) out ih = outside here out (ih p (sym (first_on m b p here out) ∙ is) at)

  pub match_found : (b : ℕ) (d : DeclNo) → match_in s name (Some b) ≡ Some d → IsMatch s name b (Some d)
  unfolding first
  match_found b d is = go (first (length s.blocks) b) refl
    where
      go : (o : Option DeclNo) → first (length s.blocks) b ≡ o → IsMatch s name b (Some d)
      go None e = absurd (let h = ap (match_of_declared s) (sym e) ∙ is in cc)
      go (Some c) e = is_match (length s.blocks) b c d e (ap (match_of_declared s) (sym e) ∙ is)

pub last_matched : (s : Tables) (class virtual : DeclNo) (block : ℕ) (m : Option DeclNo) → class_block s class ≡ Some block → IsMatch s (name_of s virtual) block m → match_of s class virtual ≡ m
unfolding match_of
last_matched s class virtual block m cls x = ap (match_in s (name_of s virtual)) cls ∙ matched s (name_of s virtual) block m x

pub last_found : (s : Tables) (class virtual d : DeclNo) (block : ℕ) → class_block s class ≡ Some block → match_of s class virtual ≡ Some d → IsMatch s (name_of s virtual) block (Some d)
unfolding match_of
last_found s class virtual d block cls is = match_found s (name_of s virtual) block d (ap (match_in s (name_of s virtual)) (sym cls) ∙ is)
