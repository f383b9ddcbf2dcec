-- Classes have records in the code, of which different ones have different numbers. The levels of a class have the numbers of its levels, and an
-- object is in a class on both sides or on neither.
use Rattle.std.proofs.Common.{◌≡◌, ◌≢◌, ◌<◌, ◌≤◌, ℕ, zero, suc, Bool, true, false, List, [], ◌∷◌, length, map, Option, Some, None, ⊎_elim, refl, sym, ap, ◌∙◌, subst, arith}
use Rattle.std.proofs.lemmas.Bool.{cases_eq, cases_lt}
use Rattle.std.proofs.lemmas.List.{map-append}
use Rattle.std.proofs.lemmas.Option.{slice_get_within}
use Rattle.std.specs.List.{list_any}
use Rattle.std.specs.Prelude.{◌==◌, ◌||◌, nat_lt, slice_get, if◌then◌else◌}
use Rattle.sim_scope.specs.Levels.{has_level}
use Rattle.sim_scope.specs.Source.{Source}
use Rattle.sim_scope.specs.Tables as scope
use Rattle.sim_code.specs.declared.code.BlockKind.{BlockKind}
use Rattle.sim_code.specs.declared.code.BlockKind.TheVariants as kind
use Rattle.sim_code.specs.Classes.{behind, class_numbered, class_of, in_class, is_among, levels, levels_in, levels_within}
use Rattle.sim_code.specs.Classes as classes
use Rattle.sim_code.specs.Code.{BlockOf, CodeOf}
use Rattle.sim_code.specs.Instances.{Instance, live}
use Rattle.sim_code.specs.Machine.{Cells, Frames}
use Rattle.sim_code.specs.Machine as machine
use Rattle.sim_meaning.specs.Attributes.{is_connection}
use Rattle.sim_meaning.specs.Levels.{has_levels, is_class, levels_of}
use Rattle.sim_meaning.specs.Texts.{BlockText, ClassText, ConnectionText, PrefixedText, ProcedureText, StandardText, Text, program_texts, text}
use Rattle.codegen_expr.specs.Sites.{LevelOf, block_in_front, block_number, block_of_text, blocks_before, class_in, class_number, counted_unless, innermost, is_connected, outer, prefix_of}
use Rattle.codegen_expr.specs.Sites as sites
use Rattle.codegen.specs.Agrees.{Ends, before, last}
use Rattle.codegen.specs.Compiled.{Compiled}
use Rattle.sim_relate.proofs.ClassTexts.{ClassHas, class_has, of_levels}
use Rattle.sim_relate.proofs.LevelLists.{has_level_is, level_has, level_place, levels_behind, levels_first, levels_some, place_level, solid_level}
use Rattle.sim_relate.proofs.Lists.{there_get}

equal_number : (a : ℕ) → (a == a) ≡ true
equal_number a = grind arith

same_number : (a b : ℕ) → (a == b) ≡ true → a ≡ b
same_number a b e = grind (arith, e)

one_less : (n : ℕ) → 0 < n → (m : ℕ) × (suc m ≡ n)
one_less zero lt = let no : ⊥ = omega (arith, lt) in absurd no
one_less (suc n) lt = (n, refl)

other_number : (a b : ℕ) → a ≢ b → (a == b) ≡ false
other_number a b e = grind (arith, e)

or_true : (x y : Bool) → y ≡ true → (x || y) ≡ true
or_true true y e = refl
or_true false y e = e

both_ways : (a b : Bool) → (a ≡ true → b ≡ true) → (b ≡ true → a ≡ true) → a ≡ b
both_ways true b f g = sym (f refl)
both_ways false true f g = g refl
both_ways false false f g = refl

-- ---- numbers in a list

-- a number that is found there stands at some place
pub record PlaceOf (f : ℕ → ℕ) (c : ℕ) (ks : List ℕ) : Type 0 where
  pub place : ℕ
  pub text : ℕ
  pub there : slice_get ks place ≡ Some text
  pub same : (f text == c) ≡ true

pub place_in : (f : ℕ → ℕ) (c : ℕ) (ks : List ℕ) → list_any (λ z. z == c) (map f ks) ≡ true → PlaceOf f c ks
place_in f c [] e = absurd (cc)
place_in f c (k ∷ ks) e = by (f k == c) refl e (λ g. place_in f c ks g)
  where
    by : (b : Bool) → (f k == c) ≡ b → (b || list_any (λ z. z == c) (map f ks)) ≡ true → (list_any (λ z. z == c) (map f ks) ≡ true → PlaceOf f c ks) → PlaceOf f c (k ∷ ks)
    by true h e rest = record { place = 0; text = k; there = refl; same = h }
    by false h e rest = let x = rest e in record { place = suc x.place; text = x.text; there = x.there; same = x.same }

found_in : (f : ℕ → ℕ) (c k n : ℕ) (ks : List ℕ) → slice_get ks n ≡ Some k → (f k == c) ≡ true → list_any (λ z. z == c) (map f ks) ≡ true
found_in f c k n [] e h = absurd (cc)
found_in f c k zero (x ∷ ks) e h = ap (λ z. z || list_any (λ z. z == c) (map f ks)) (ap (λ z. f z == c) (the x k e) ∙ h)
  where
    the : (a b : ℕ) → Some a ≡ Some b → a ≡ b
    the a b e = cc (e)
found_in f c k (suc n) (x ∷ ks) e h = or_true (f x == c) _ (found_in f c k n ks e h)

-- ---- blocks are numbered in order

counted_more : (c : Bool) (n k : ℕ) → n ≤ k → n ≤ counted_unless c k
counted_more true n k le = le
counted_more false n k le = omega (arith, le)

counted_on : (c : Bool) (n k : ℕ) → n < k → counted_unless c n < counted_unless c k
counted_on true n k lt = lt
counted_on false n k lt = omega (arith, lt)

fewer_before : (t k : ℕ) (bs : List scope.BlockOf) (b : scope.BlockOf) → slice_get bs t ≡ Some b → sites.is_connection b.kind ≡ false → t < k → blocks_before t bs < blocks_before k bs
fewer_before t k [] b e c lt = absurd (cc)
fewer_before zero zero (x ∷ bs) b e c lt = absurd (omega (arith, lt))
fewer_before (suc t) zero (x ∷ bs) b e c lt = absurd (omega (arith, lt))
fewer_before zero (suc k) (x ∷ bs) b e c lt =
    let same : x ≡ b = cc in
    let counts : blocks_before (suc k) (x ∷ bs) ≡ suc (blocks_before k bs) = ap (λ z. counted_unless (sites.is_connection z.kind) (blocks_before k bs)) same ∙ ap (λ z. counted_unless z (blocks_before k bs)) c in
    omega (arith, counts)
fewer_before (suc t) (suc k) (x ∷ bs) b e c lt = counted_on (sites.is_connection x.kind) (blocks_before t bs) (blocks_before k bs) (fewer_before t k bs b e c (omega (arith, lt)))

-- ---- classes and prefixed blocks have code

module _ (s : Source) (code : CodeOf) (compiled : Compiled s code) where
  abbrev Has : ℕ → Type 0
  Has k = ClassHas s code k

  -- the class of its block
  class_there : (b : BlockOf) (x : BlockKind) → b.kind ≡ x → of_levels x ≡ true → classes.class_in (Some b) ≡ Some b.class
  class_there b kind.Object e h = rw e refl
  class_there b kind.Prefixed e h = rw e refl
  class_there b kind.SubBlock e h = absurd (cc)
  class_there b kind.Procedure e h = absurd (cc)

  pub number_is : (k : ℕ) (x : Has k) → class_number s code k ≡ x.block.class
  unfolding class_number
  number_is k x = ap class_in x.found

  pub numbered : (k : ℕ) (x : Has k) → class_numbered code (class_number s code k) ≡ Some x.has.class
  numbered k x = ap (class_numbered code) (number_is k x) ∙ x.has.is.numbered

  class_by : (k : ℕ) (o : Option Text) → text s k ≡ o → is_class o ≡ true → has_levels o ≡ true
  class_by k None e h = absurd (cc)
  class_by k (Some (BlockText begin ds ss)) e h = absurd (cc)
  class_by k (Some (ProcedureText result h' a)) e h = absurd (cc)
  class_by k (Some (ClassText prefix h' ds ss)) e h = refl
  class_by k (Some (PrefixedText class arguments ds ss)) e h = absurd (cc)
  class_by k (Some ConnectionText) e h = absurd (cc)
  class_by k (Some (StandardText which)) e h = refl

  -- a class that is named has levels
  pub class_levels : (k : ℕ) → is_class (text s k) ≡ true → has_levels (text s k) ≡ true
  class_levels k h = class_by k (text s k) refl h

  -- ---- different classes have different numbers

  text_there : (o : Option Text) → has_levels o ≡ true → (x : Text) × (o ≡ Some x)
  text_there None h = absurd (cc)
  text_there (Some x) h = (x, refl)

  unconnected : (o : Option Text) → has_levels o ≡ true → is_connection o ≡ false
  unconnected None h = refl
  unconnected (Some (ClassText prefix h' ds ss)) h = refl
  unconnected (Some (PrefixedText class arguments ds ss)) h = refl
  unconnected (Some (BlockText begin ds ss)) h = refl
  unconnected (Some (ProcedureText result h' a)) h = refl
  unconnected (Some ConnectionText) h = absurd (cc)
  unconnected (Some (StandardText which)) h = refl

  -- its row in the tables
  pub record RowThere (k : ℕ) : Type 0 where
    pub row : scope.BlockOf
    pub there : slice_get s.tables.blocks k ≡ Some row
    pub unconnected : sites.is_connection row.kind ≡ false

  pub row_there : (k : ℕ) → has_levels (text s k) ≡ true → RowThere k
  unfolding text is_connected
  row_there k h =
      let x = text_there (text s k) h in
      let lt = slice_get_within (program_texts s.program.prefix s.program.block) k x.0 x.1 in
      let n = compiled.agrees.as_many in
      let y = there_get s.tables.blocks k (omega (arith, lt, n)) in
      record { row = y.0; there = y.1; unconnected = sym (ap sites.connects y.1) ∙ compiled.agrees.connected k ∙ unconnected (text s k) h }

  -- block 0 is that of the program
  pub later_block : (k : ℕ) → has_levels (text s k) ≡ true → is_connection (text s 0) ≡ false → k ≢ 0 → block_number s k ≢ 0
  unfolding block_number is_connected
  later_block k h program later zero_is =
      let x = row_there k h in
      let lt = slice_get_within s.tables.blocks k x.row x.there in
      let some : 0 < length s.tables.blocks = omega (arith, lt) in
      let first = there_get s.tables.blocks 0 some in
      let solid : sites.is_connection (first.0).kind ≡ false = sym (ap sites.connects first.1) ∙ compiled.agrees.connected 0 ∙ program in
      let less = fewer_before 0 k s.tables.blocks first.0 first.1 solid (⊎_elim (λ e. absurd (later e)) (λ other. above k other) (cases_eq k 0)) in
      omega (arith, less, zero_is)
    where
      above : (k : ℕ) → k ≢ 0 → 0 < k
      above zero other = absurd (other refl)
      above (suc k) other = omega arith

  pub one_number : (t k : ℕ) → has_levels (text s t) ≡ true → has_levels (text s k) ≡ true → block_number s t ≡ block_number s k → t < k → ⊥
  unfolding block_number
  one_number t k h h' e lt = let x = row_there t h in let less = fewer_before t k s.tables.blocks x.row x.there x.unconnected lt in omega (arith, less, e)

  pub same_class : (t k : ℕ) → has_levels (text s t) ≡ true → has_levels (text s k) ≡ true → class_number s code t ≡ class_number s code k → t ≡ k
  same_class t k h h' e =
      let x = class_has s code compiled t h in
      let y = class_has s code compiled k h' in
      let numbers : x.block.class ≡ y.block.class = sym (number_is t x) ∙ e ∙ number_is k y in
      let one : Some x.has.class ≡ Some y.has.class = sym x.has.is.numbered ∙ ap (class_numbered code) numbers ∙ y.has.is.numbered in
      let record_same : x.has.class ≡ y.has.class = cc (one) in
      let blocks : block_number s t ≡ block_number s k = sym x.has.is.of_block ∙ ap (λ z. z.block) record_same ∙ y.has.is.of_block in
      ⊎_elim (λ lt. absurd (one_number t k h h' blocks lt)) (λ ge. ⊎_elim (λ lt. absurd (one_number k t h' h (sym blocks) lt)) (λ le. omega (arith, ge, le)) (cases_lt k t)) (cases_lt t k)

  pub class_test : (t k : ℕ) → has_levels (text s t) ≡ true → has_levels (text s k) ≡ true → (class_number s code t == class_number s code k) ≡ (t == k)
  class_test t k h h' =
      ⊎_elim (λ e. ap (λ z. class_number s code z == class_number s code k) e ∙ equal_number (class_number s code k) ∙ sym (ap (λ z. z == k) e ∙ equal_number k))
      (λ other. other_number (class_number s code t) (class_number s code k) (λ e. other (same_class t k h h' e)) ∙ sym (other_number t k other)) (cases_eq t k)

  -- ---- the numbers of levels

  -- class numbers count from 1
  pub counts : (k : ℕ) (x : Has k) → (n : ℕ) × (x.block.class ≡ suc n)
  counts k x = by_number x.block.class x.has.is.numbered
    where
      by_number : (c : ℕ) → class_numbered code c ≡ Some x.has.class → (n : ℕ) × (c ≡ suc n)
      by_number zero e = absurd (cc)
      by_number (suc n) e = (n, refl)

  -- a text with levels is no connection
  pub levels_solid : (k : ℕ) → has_levels (text s k) ≡ true → is_connected s.tables k ≡ false
  levels_solid k h = compiled.agrees.connected k ∙ unconnected (text s k) h

  -- a level of a text with levels has levels
  pub level_levels : (own k : ℕ) → LevelOf s.tables own k → has_levels (text s own) ≡ true → has_levels (text s k) ≡ true
  level_levels own k innermost h = h
  level_levels own k (outer {u = u} e r) h = level_levels u k r (class_levels u ((compiled.agrees.prefixes own u e).class))

  in_front_none : (k : ℕ) → prefix_of s.tables k ≡ None → class_in (block_in_front s code k) ≡ 0
  unfolding block_in_front
  in_front_none k e = ap (λ z. class_in (block_of_text s code z)) e

  in_front_is : (k u : ℕ) → prefix_of s.tables k ≡ Some u → class_in (block_in_front s code k) ≡ class_number s code u
  unfolding block_in_front class_number
  in_front_is k u e = ap (λ z. class_in (block_of_text s code z)) e

  abbrev numbers : ℕ → List ℕ
  numbers k = map (class_number s code) (levels_of s k)

  -- the first level
  first_within : (n k : ℕ) (x : Has k) → prefix_of s.tables k ≡ None → has_levels (text s k) ≡ true → class_numbered code (class_number s code k) ≡ Some x.has.class → levels_within (suc n) code (class_number s code k) ≡ Some (numbers k)
  first_within n k x e h there =
      let c = class_number s code k in
      let alone : x.has.class.prefix ≡ 0 = x.has.is.prefix ∙ in_front_none k e in
      ap (classes.levels_by (levels_within n code) c) there ∙
      ap (λ p. if p == 0 then Some (c ∷ []) else if nat_lt p c then behind (levels_within n code p) c else None) alone ∙
      ap (λ z. Some (map (class_number s code) z)) (sym (levels_first s compiled.agrees k e (levels_solid k h)))

  if_first : {A : Type 0} (b : Bool) (x y : A) → b ≡ true → (if b then x else y) ≡ x
  if_first true x y e = refl
  if_first false x y e = absurd (cc)

  if_second : {A : Type 0} (b : Bool) (x y : A) → b ≡ false → (if b then x else y) ≡ y
  if_second true x y e = absurd (cc)
  if_second false x y e = refl

  lower_number : (a b : ℕ) → a < b → nat_lt a b ≡ true
  lower_number a b e = grind (arith, e)

  -- a level behind another one
  next_within : (n k u : ℕ) (x : Has k) → prefix_of s.tables k ≡ Some u → class_numbered code (class_number s code k) ≡ Some x.has.class → class_number s code u ≢ 0 → class_number s code u < class_number s code k → levels_within n code (class_number s code u) ≡ Some (numbers u) → levels_within (suc n) code (class_number s code k) ≡ Some (numbers k)
  next_within n k u x e there some lower rest =
      let c = class_number s code k in
      let d = class_number s code u in
      let front : x.has.class.prefix ≡ d = x.has.is.prefix ∙ in_front_is k u e in
      ap (classes.levels_by (levels_within n code) c) there ∙
      ap (λ p. if p == 0 then Some (c ∷ []) else if nat_lt p c then behind (levels_within n code p) c else None) front ∙
      if_second (d == 0) (Some (c ∷ [])) (if nat_lt d c then behind (levels_within n code d) c else None) (other_number d 0 some) ∙
      if_first (nat_lt d c) (behind (levels_within n code d) c) None (lower_number d c lower) ∙
      ap (λ z. behind z c) rest ∙
      ap Some (sym (map-append (class_number s code) (levels_of s u) (k ∷ []))) ∙
      ap (λ z. Some (map (class_number s code) z)) (sym (levels_behind s compiled.agrees k u e))

  numbers_within : (n f k : ℕ) → Ends s.tables f k → has_levels (text s k) ≡ true → class_number s code k ≤ n → levels_within n code (class_number s code k) ≡ Some (numbers k)
  numbers_within zero f k ends h le =
      let x = class_has s code compiled k h in
      let n = counts k x in
      let e = number_is k x ∙ n.1 in
      let no : ⊥ = omega (arith, e, le) in
      absurd no
  numbers_within (suc n) f k (last e) h le =
      let x = class_has s code compiled k h in
      first_within n k x e h (numbered k x)
  numbers_within (suc n) f k (before {n = i} {u = u} e r) h le =
      let x = class_has s code compiled k h in
      let h' = class_levels u ((compiled.agrees.prefixes k u e).class) in
      let y = class_has s code compiled u h' in
      let some = counts u y in
      let number = number_is u y ∙ some.1 in
      let front = x.has.is.prefix ∙ in_front_is k u e in
      let less = x.has.is.lower in
      let own = number_is k x in
      let lower : class_number s code u < class_number s code k = omega (arith, front, less, own) in
      next_within n k u x e (numbered k x) (λ z. (let no : ⊥ = omega (arith, z, number) in no)) lower
      (numbers_within n i u r h' (omega (arith, lower, le)))

  pub levels_numbers : (k : ℕ) → has_levels (text s k) ≡ true → levels code (class_number s code k) ≡ Some (map (class_number s code) (levels_of s k))
  unfolding levels
  levels_numbers k h = numbers_within (class_number s code k) (length s.tables.blocks) k (compiled.agrees.ends k) h (omega arith)

  -- a class is among the levels on both sides or on neither
  pub among_same : (t k : ℕ) → has_levels (text s t) ≡ true → has_levels (text s k) ≡ true → list_any (λ z. z == class_number s code k) (numbers t) ≡ has_level s.tables t k
  among_same t k h h' = both_ways (list_any (λ z. z == class_number s code k) (numbers t)) (has_level s.tables t k) there back
    where
      there : list_any (λ z. z == class_number s code k) (numbers t) ≡ true → has_level s.tables t k ≡ true
      there e =
          let x = place_in (class_number s code) (class_number s code k) (levels_of s t) e in
          let solid = levels_solid t h in
          let level = (place_level s compiled.agrees t x.text x.place solid x.there).0 in
          let test = sym (class_test x.text k (level_levels t x.text level h) h') ∙ x.same in
          let same : x.text ≡ k = same_number x.text k test in
          level_has s compiled.agrees t k (subst (λ z. LevelOf s.tables t z) same level) solid

      back : has_level s.tables t k ≡ true → list_any (λ z. z == class_number s code k) (numbers t) ≡ true
      back e =
          let solid = levels_solid t h in
          let level = has_level_is s compiled.agrees t k e solid in
          let some = levels_some s compiled.agrees k (solid_level s compiled.agrees t k level solid) in
          let n = one_less (length (levels_of s k)) some in
          found_in (class_number s code) (class_number s code k) k n.0 (levels_of s t) (level_place s compiled.agrees t k n.0 level solid n.1) (equal_number (class_number s code k))

  -- ---- objects

  module _ (fs : Frames) (j t : ℕ) (y : Instance Cells) (lives : live fs j ≡ Some y) (number : y.text ≡ block_number s t) (has : has_levels (text s t) ≡ true) where
    pub own_class : class_of code fs j ≡ Some (class_number s code t)
    own_class =
        let x = class_has s code compiled t has in
        ap (λ z. classes.class_in (classes.block_in code (machine.text_in z))) lives ∙ ap (λ n. classes.class_in (slice_get code.blocks n)) number ∙ ap classes.class_in x.found ∙ class_there x.block x.kind x.has.heads.is_kind x.levelled ∙ ap Some (sym (number_is t x))

    -- the levels that the machine finds
    pub levels_here : levels_in code (class_of code fs j) ≡ Some (map (class_number s code) (levels_of s t))
    levels_here = ap (levels_in code) own_class ∙ levels_numbers t has

  module _ (fs : Frames) (j t k : ℕ) (y : Instance Cells) (lives : live fs j ≡ Some y) (number : y.text ≡ block_number s t) (has : has_levels (text s t) ≡ true) (is : has_levels (text s k) ≡ true) where
    pub is_same : classes.is_class (class_number s code k) (class_of code fs j) ≡ Some (t == k)
    is_same = ap (λ o. classes.is_class (class_number s code k) o) (own_class fs j t y lives number has) ∙ ap Some (class_test t k has is)

    pub in_same : in_class code fs (class_number s code k) j ≡ Some (has_level s.tables t k)
    in_same = ap (is_among (class_number s code k)) (levels_here fs j t y lives number has) ∙ ap Some (among_same t k has is)
