-- Arrays are given back, one region after the other.
use Rattle.std.proofs.Common.{◌≡◌, ℕ, zero, suc, ◌+◌, ◌-◌, ◌<◌, ◌≤◌, ◌⊎◌, inl, inr, List, [], ◌∷◌, length, set, sym, subst, refl, ap, ◌∙◌, arith}
use Rattle.std.specs.Prelude.{Bool, true, false, not, ◌&&◌, ◌==◌, Option, Some, None, slice_get, if◌then◌else◌}
use Rattle.sim_code.specs.Arrays.{given_with, goes_with, unless_given, words_of_array, words_with}
use Rattle.sim_code.specs.Machine.{Frames}
use Rattle.sim_code.specs.Outcome.{ArrayOf}
use Rattle.frame_arena.specs.declared.frames.Frame.{Frame}
use Rattle.frame_arena.specs.Arrays.{ArraysOf, ElementsLead, HoldsArrays, KeepLeading, Lies, RegionOf, array_of, given_at, given_in, goes, is_live_array, is_some, region_at}
use Rattle.frame_arena.proofs.Changes.{off, same_or_not}

-- ---- an array of the list

module _ (owner : ℕ) where
  words_in : ArrayOf → ℕ
  words_in a = if goes_with owner a then words_of_array a else 0

  gone_not : (a : ArrayOf) → goes_with owner (record a { given_back = true }) ≡ false
  gone_not a = both (a.owner == owner) (not a.kept)
    where
      both : (p q : Bool) → (p && q && false) ≡ false
      both true true = refl
      both true false = refl
      both false true = refl
      both false false = refl

  -- the words of one of them, and those of the others
  words_one : (arrays : List ArrayOf) (n : ℕ) (a : ArrayOf) → slice_get arrays n ≡ Some a → goes_with owner a ≡ true →
      words_with owner arrays ≡ words_of_array a + words_with owner (set arrays n (record a { given_back = true }))
  words_one [] n a e g = absurd (none_some e)
    where
      some_type : Option ArrayOf → Type 0
      some_type None = Unit {0}
      some_type (Some x) = ⊥

      none_some : ◌≡◌ {A = Option ArrayOf} None (Some a) → ⊥
      none_some e = subst some_type e tt
  words_one (x ∷ xs) zero a e g =
      let e2 : x ≡ a = some_is x a e in
      let w : (if goes_with owner x then words_of_array x else 0) ≡ words_of_array a = ap (λ y. if goes_with owner y then words_of_array y else 0) e2 ∙ ap (λ b. if b then words_of_array a else 0) g in
      let z : (if goes_with owner (record a { given_back = true }) then words_of_array (record a { given_back = true }) else 0) ≡ 0 = ap (λ b. if b then words_of_array (record a { given_back = true }) else 0) (gone_not a) in
      omega (arith, w, z)
    where
      some_is : (x y : ArrayOf) → ◌≡◌ {A = Option ArrayOf} (Some x) (Some y) → x ≡ y
      some_is x y e = ap (array_or x) e
        where
          array_or : ArrayOf → Option ArrayOf → ArrayOf
          array_or x None = x
          array_or x (Some y) = y
  words_one (x ∷ xs) (suc n) a e g =
      let ih = words_one xs n a e g in
      omega (arith, ih)

  given_one : (arrays : List ArrayOf) (n : ℕ) (a : ArrayOf) → slice_get arrays n ≡ Some a → goes_with owner a ≡ true → given_with owner (set arrays n (record a { given_back = true })) ≡ given_with owner arrays
  given_one [] n a e g = refl
  given_one (x ∷ xs) zero a e g =
      let e2 : x ≡ a = some_is x a e in
      ap (λ b. (if b then record a { given_back = true } else record a { given_back = true }) ∷ given_with owner xs) (gone_not a)
      ∙ sym (ap (λ y. (if goes_with owner y then record y { given_back = true } else y) ∷ given_with owner xs) e2 ∙ ap (λ b. (if b then record a { given_back = true } else a) ∷ given_with owner xs) g)
    where
      some_is : (x y : ArrayOf) → ◌≡◌ {A = Option ArrayOf} (Some x) (Some y) → x ≡ y
      some_is x y e = ap (array_or x) e
        where
          array_or : ArrayOf → Option ArrayOf → ArrayOf
          array_or x None = x
          array_or x (Some y) = y
  given_one (x ∷ xs) (suc n) a e g = ap (λ l. (if goes_with owner x then record x { given_back = true } else x) ∷ l) (given_one xs n a e g)

  -- none of them goes
  abbrev Stay : List ArrayOf → Type 0
  Stay arrays = (k : ℕ) (a : ArrayOf) → slice_get arrays k ≡ Some a → goes_with owner a ≡ false

  words_none : (arrays : List ArrayOf) → Stay arrays → words_with owner arrays ≡ 0
  words_none [] h = refl
  words_none (x ∷ xs) h =
      let z : (if goes_with owner x then words_of_array x else 0) ≡ 0 = ap (λ b. if b then words_of_array x else 0) (h zero x refl) in
      let ih = words_none xs (λ k a e. h (suc k) a e) in
      omega (arith, z, ih)

  given_none : (arrays : List ArrayOf) → Stay arrays → given_with owner arrays ≡ arrays
  given_none [] h = refl
  given_none (x ∷ xs) h =
      ap (λ b. (if b then record x { given_back = true } else x) ∷ given_with owner xs) (h zero x refl)
      ∙ ap (λ l. x ∷ l) (given_none xs (λ k a e. h (suc k) a e))

  -- ---- the regions tell which go

  live_or_not : (a : ArrayOf) → (a.given_back ≡ true) ⊎ (a.given_back ≡ false)
  live_or_not a = either a.given_back
    where
      either : (b : Bool) → (b ≡ true) ⊎ (b ≡ false)
      either true = inl refl
      either false = inr refl

  given_stays : (a : ArrayOf) → a.given_back ≡ true → goes_with owner a ≡ false
  given_stays a e = ap (λ b. a.owner == owner && not a.kept && not b) e ∙ both (a.owner == owner) (not a.kept)
    where
      both : (p q : Bool) → (p && q && false) ≡ false
      both true true = refl
      both true false = refl
      both false true = refl
      both false false = refl

  region_goes : (r : RegionOf) → r.live ≡ true → goes_with owner (array_of r) ≡ goes r owner
  region_goes r on = both (r.owner == owner) (not r.kept) ∙ sym (ap (λ b. b && (r.owner == owner) && not r.kept) on)
    where
      both : (p q : Bool) → (p && q && true) ≡ (true && p && q)
      both true true = refl
      both true false = refl
      both false true = refl
      both false false = refl

  stay : (a : ArraysOf) (arrays : List ArrayOf) → HoldsArrays a arrays → ((q : ℕ) → q < length a.regions → goes (region_at a.regions q) owner ≡ false) → Stay arrays
  stay a arrays h none k x e =
      elim (live_or_not x) [
        | inl g ↦ given_stays x g
        | inr l ↦
            let on : is_live_array arrays k ≡ true = ap (λ o. is_some (unless_given o)) e ∙ ap (λ b. is_some (if b then None else Some x)) l in
            let f = h.found k on in
            let same : x ≡ array_of (region_at a.regions f.0) = some_is x (array_of (region_at a.regions f.0)) (sym e ∙ h.known f.0 k f.1) in
            ap (goes_with owner) same ∙ region_goes (region_at a.regions f.0) f.1.1 ∙ none f.0 f.1.0
      ]
    where
      some_is : (x y : ArrayOf) → ◌≡◌ {A = Option ArrayOf} (Some x) (Some y) → x ≡ y
      some_is x y e = ap (array_or x) e
        where
          array_or : ArrayOf → Option ArrayOf → ArrayOf
          array_or x None = x
          array_or x (Some y) = y

-- ---- as far as the regions were looked at

-- What stands between the beginning and a place: a list with which the regions agree, and what is still owed of it.
pub record Giving (old now : ArraysOf) (arrays : List ArrayOf) (owner left used newest place : ℕ) : Type 0 where
  pub list : List ArrayOf
  pub holds : HoldsArrays now list
  pub words : left - words_with owner list ≡ used - words_with owner arrays
  pub given : given_with owner list ≡ given_with owner arrays
  pub leading : KeepLeading old arrays now list
  pub looked : (q : ℕ) → q < place → goes (region_at now.regions q) owner ≡ false
  pub owners : (q n : ℕ) → q < place → Lies now.regions q n → (region_at now.regions q).kept ≡ false → (region_at now.regions q).owner ≤ newest

pub begins_giving : (a : ArraysOf) (arrays : List ArrayOf) (owner used newest : ℕ) → HoldsArrays a arrays → Giving a a arrays owner used used newest 0
begins_giving a arrays owner used newest h = record {
  list = arrays;
  holds = h;
  words = refl;
  given = refl;
  leading = λ r leads. leads;
  looked = λ q below. absurd (omega (arith, below));
  owners = λ q n below hq k. absurd (omega (arith, below));
}

goes_live : (r : RegionOf) (owner : ℕ) → goes r owner ≡ true → r.live ≡ true
goes_live r owner e = first r.live (r.owner == owner) (not r.kept) e
  where
    first : (p q s : Bool) → (p && q && s) ≡ true → p ≡ true
    first true q s e = refl
    first false q s e = absurd (off e)

not_live_stays : (r : RegionOf) (owner : ℕ) → r.live ≡ false → goes r owner ≡ false
not_live_stays r owner e = ap (λ b. b && (r.owner == owner) && not r.kept) e

-- one region more, whose array goes
pub gives_one : (old now new : ArraysOf) (arrays : List ArrayOf) (owner left left2 used newest place : ℕ) → Giving old now arrays owner left used newest place → place < length now.regions → goes (region_at now.regions place) owner ≡ true →
    ((list : List ArrayOf) → HoldsArrays now list → HoldsArrays new (given_at list (region_at now.regions place).number)) →
    ((list : List ArrayOf) → HoldsArrays now list → left2 ≡ left - words_of_array (array_of (region_at now.regions place))) →
    ((list : List ArrayOf) → HoldsArrays now list → KeepLeading now list new (given_at list (region_at now.regions place).number)) →
    ((q : ℕ) → (q ≡ place → ⊥) → region_at new.regions q ≡ region_at now.regions q) → (region_at new.regions place).live ≡ false → length new.regions ≡ length now.regions →
    Giving old new arrays owner left2 used newest (place + 1)
gives_one old now new arrays owner left left2 used newest place g there go holds words leads others free long =
    let r : RegionOf = region_at now.regions place in
    let n : ℕ = r.number in
    let on : r.live ≡ true = goes_live r owner go in
    let known = g.holds.known place n (there, on, refl) in
    let goes_too : goes_with owner (array_of r) ≡ true = region_goes owner r on ∙ go in
    let is : given_at g.list n ≡ set g.list n (record (array_of r) { given_back = true }) = ap (given_in g.list n) known in
    let one : words_with owner g.list ≡ words_of_array (array_of r) + words_with owner (given_at g.list n) =
    words_one owner g.list n (array_of r) known goes_too ∙ ap (λ l. words_of_array (array_of r) + words_with owner l) (sym is) in
    let w = g.words in
    let w2 = words g.list g.holds in
    record {
      list = given_at g.list n;
      holds = holds g.list g.holds;
      words = omega (arith, w, w2, one);
      given = ap (given_with owner) is ∙ given_one owner g.list n (array_of r) known goes_too ∙ g.given;
      leading = λ q l. leads g.list g.holds q (g.leading q l);
      looked = λ q below.
          elim (same_or_not q place) [
            | inl e ↦ not_live_stays (region_at new.regions q) owner (ap (λ k. (region_at new.regions k).live) e ∙ free)
            | inr ne ↦ ap (λ x. goes x owner) (others q ne) ∙ g.looked q (omega (arith, below, ne))
          ];
      owners = λ q m below hq k.
          elim (same_or_not q place) [
            | inl e ↦ absurd (off (sym free ∙ ap (λ z. (region_at new.regions z).live) (sym e) ∙ hq.1))
            | inr ne ↦
                let x = others q ne in
                let inside : q < length now.regions = omega (arith, hq.0, long) in
                let w : Lies now.regions q m = (inside, sym (ap (λ z. z.live) x) ∙ hq.1, sym (ap (λ z. z.number) x) ∙ hq.2) in
                let o = g.owners q m (omega (arith, below, ne)) w (sym (ap (λ z. z.kept) x) ∙ k) in
                subst (λ z. z.owner ≤ newest) (sym x) o
          ];
    }

-- one region more, whose array stays
pub keeps_one : (old now : ArraysOf) (arrays : List ArrayOf) (owner left used newest newest2 place own : ℕ) → Giving old now arrays owner left used newest place → goes (region_at now.regions place) owner ≡ false →
    ((n : ℕ) → Lies now.regions place n → (region_at now.regions place).kept ≡ false → own ≡ (region_at now.regions place).owner) → own ≤ newest2 → newest ≤ newest2 → Giving old now arrays owner left used newest2 (place + 1)
keeps_one old now arrays owner left used newest newest2 place own g stays owned above above2 = record {
  list = g.list;
  holds = g.holds;
  words = g.words;
  given = g.given;
  leading = g.leading;
  looked = λ q below.
      elim (same_or_not q place) [
        | inl e ↦ ap (λ k. goes (region_at now.regions k) owner) e ∙ stays
        | inr ne ↦ g.looked q (omega (arith, below, ne))
      ];
  owners = λ q m below hq k.
      elim (same_or_not q place) [
        | inl e ↦
            let o = owned m (subst (λ z. Lies now.regions z m) e hq) (ap (λ z. (region_at now.regions z).kept) (sym e) ∙ k) in
            subst (λ z. (region_at now.regions z).owner ≤ newest2) (sym e) (omega (arith, o, above))
        | inr ne ↦ let o = g.owners q m (omega (arith, below, ne)) hq k in omega (arith, o, above2)
      ];
}

-- all regions
module _ (old now : ArraysOf) (arrays : List ArrayOf) (owner left used newest place : ℕ) (g : Giving old now arrays owner left used newest place) (all : length now.regions ≤ place) where
  ends_stay : Stay owner g.list
  ends_stay = stay owner now g.list g.holds (λ q h. g.looked q (omega (arith, h, all)))

  ends_list : g.list ≡ given_with owner arrays
  ends_list = sym (given_none owner g.list ends_stay) ∙ g.given

  pub ends_holds : (new : ArraysOf) → new.regions ≡ now.regions → new.made ≡ now.made → new.newest ≡ newest → HoldsArrays new (given_with owner arrays)
  ends_holds new regions made top =
      let h = g.holds in
      let held : HoldsArrays (record new { regions = now.regions }) g.list = record {
        counted = made ∙ h.counted;
        known = h.known;
        found = h.found;
        single = h.single;
        sound = h.sound;
        owners = λ q n hq k. let o = g.owners q n (omega (arith, hq.0, all)) hq k in omega (arith, o, top);
      } in
      subst (λ l. HoldsArrays new l) ends_list (subst (λ rs. HoldsArrays (record new { regions = rs }) g.list) (sym regions) held)

  pub ends_words : left ≡ used - words_with owner arrays
  ends_words =
      let w = g.words in
      let z = words_none owner g.list ends_stay in
      omega (arith, w, z)

  pub ends_leading : (new : ArraysOf) → new.regions ≡ now.regions → KeepLeading old arrays new (given_with owner arrays)
  ends_leading new regions =
      subst (λ l. KeepLeading old arrays new l) ends_list
      (λ r leads. let w = g.leading r leads in (w.0, λ l. subst (λ rs. Lies rs r.array r.stamp) (sym regions) (w.1 l)))

-- an instance that is newer than every owner has no array that goes with it
newer_in : (a : ArraysOf) (arrays : List ArrayOf) (owner : ℕ) → HoldsArrays a arrays → a.newest < owner → (q : ℕ) → q < length a.regions → goes (region_at a.regions q) owner ≡ false
newer_in a arrays owner h above q there = decide r.live (r.owner == owner) r.kept refl refl refl
  where
    r : RegionOf
    r = region_at a.regions q

    decide : (p s t : Bool) → r.live ≡ p → (r.owner == owner) ≡ s → r.kept ≡ t → (p && s && not t) ≡ false
    decide false s t e e2 e3 = refl
    decide true false t e e2 e3 = refl
    decide true true true e e2 e3 = refl
    decide true true false e e2 e3 = absurd (let o = h.owners q r.number (there, e, refl) e3 in let s : r.owner ≡ owner = grind (arith, e2) in omega (arith, o, s, above))

pub newer_list : (a : ArraysOf) (arrays : List ArrayOf) (owner : ℕ) → HoldsArrays a arrays → a.newest < owner → given_with owner arrays ≡ arrays
newer_list a arrays owner h above = given_none owner arrays (stay owner a arrays h (newer_in a arrays owner h above))

pub newer_words : (a : ArraysOf) (arrays : List ArrayOf) (owner : ℕ) → HoldsArrays a arrays → a.newest < owner → words_with owner arrays ≡ 0
newer_words a arrays owner h above = words_none owner arrays (stay owner a arrays h (newer_in a arrays owner h above))

-- what the loop keeps
abbrev pub Between : (old now : ArraysOf) (owner used left newest place : ℕ) → Type 0
Between old now owner used left newest place =
    (length now.regions ≡ length old.regions)
    × ((frames : List Frame) (m : Frames) → ElementsLead frames m old.regions → ElementsLead frames m now.regions)
    × ((arrays : List ArrayOf) → HoldsArrays old arrays → Giving old now arrays owner left used newest place)
