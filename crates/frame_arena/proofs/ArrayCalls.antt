-- What the calls on arrays make of the list of arrays.
use Rattle.std.proofs.Common.{◌≡◌, ℕ, zero, suc, ◌+◌, ◌*◌, ◌^◌, ◌<◌, ◌≤◌, ◌⊎◌, inl, inr, ℤ, List, [], ◌∷◌, ◌++◌, length, map, replicate, set, sym, subst, refl, length-set, ap, ◌∙◌, arith}
use Rattle.std.proofs.lemmas.Option.{slice_get_within}
use Rattle.std.specs.Prelude.{Bool, true, false, Option, Some, None, Ok, Err, Result, slice_get, nat_lt, if◌then◌else◌}
use Rattle.sim_base.specs.declared.run_error.RunError.{RunError}
use Rattle.sim_base.specs.declared.run_error.RunError.TheVariants.{ArrayTooLarge}
use Rattle.sim_values.specs.Plain.{Plain, Nothing}
use Rattle.sim_values.specs.Words.{array_words, element_count}
use Rattle.sim_code.specs.Arrays.{element, element_in, element_set, element_set_in, keeping_array, live_array, owned_by, unless_given, with_array}
use Rattle.sim_code.specs.Events.{having}
use Rattle.sim_code.specs.Machine.{Frames, Machine, Value, Of}
use Rattle.sim_code.specs.Outcome.{ArrayOf, Run, World}
use Rattle.frame_arena.specs.declared.slot.Slot.{Slot}
use Rattle.frame_arena.specs.declared.slot.SlotKind.{SlotKind}
use Rattle.frame_arena.specs.declared.slot.SlotKind.TheVariants as k
use Rattle.frame_arena.specs.declared.frames.Frame.{Frame}
use Rattle.frame_arena.specs.Arrays.{ArraysAfter, ArraysOf, ElementsLead, HoldsArrays, IsSound, KeepLeading, KeepLeadingAfter, Lies, RegionOf, array_at, array_of, copied_array, entering, given_at, given_in, is_live_array, is_some, kept_in, kept_world, no_region, owned_world, region_at}
use Rattle.frame_arena.specs.Frames.{AllLead, SlotLeads}
use Rattle.frame_arena.specs.Slots.{empty_slot, plain_by, plain_of, value_by, value_of}
use Rattle.frame_arena.specs.Stacks.{slot_at}
use Rattle.frame_arena.proofs.ArrayFacts.{array_found, changes, changes_leading, gives_array, gives_array_leading, region_any, region_other, region_same}
use Rattle.frame_arena.proofs.Changes.{get_set_other, get_set_same, off, same_or_not}
use Rattle.frame_arena.proofs.Entries.{no_some}
use Rattle.frame_arena.proofs.Leading.{all_set}

-- ---- plain values

abbrev plain_or : Value → Plain
plain_or (Of p) = p
plain_or _ = Nothing

plain_same : (j : SlotKind) (s : Slot) → plain_by j s ≡ plain_or (value_by j s)
plain_same k.Empty s = refl
plain_same k.Integer s = refl
plain_same k.Truth s = refl
plain_same k.Character s = refl
plain_same k.Text s = refl
plain_same k.Nothing s = refl
plain_same k.Object s = refl
plain_same k.Main s = refl
plain_same k.Link s = refl
plain_same k.Cell s = refl
plain_same k.Element s = refl
plain_same k.Image s = refl
plain_same k.Array s = refl
plain_same k.Procedure s = refl
plain_same k.Thunk s = refl

pub plain_value : (s : Slot) (p : Plain) → value_of s ≡ Of p → plain_of s ≡ p
plain_value s p e = plain_same s.kind s ∙ ap plain_or e

pub plain_again : (s : Slot) (p : Plain) → value_of s ≡ Of p → value_of s ≡ Of (plain_of s)
plain_again s p e = e ∙ ap Of (sym (plain_value s p e))

map_set : (xs : List Slot) (i : ℕ) (s : Slot) → map plain_of (set xs i s) ≡ set (map plain_of xs) i (plain_of s)
map_set [] i s = refl
map_set (x ∷ xs) zero s = refl
map_set (x ∷ xs) (suc i) s = ap (λ l. plain_of x ∷ l) (map_set xs i s)

pub map_get : (xs : List Slot) (i : ℕ) → i < length xs → slice_get (map plain_of xs) i ≡ Some (plain_of (slot_at xs i))
map_get [] i h = absurd (omega (arith, h))
map_get (x ∷ xs) zero h = refl
map_get (x ∷ xs) (suc i) h = map_get xs i (omega (arith, h))

pub map_past : (xs : List Slot) (i : ℕ) → length xs ≤ i → slice_get (map plain_of xs) i ≡ None
map_past [] i h = refl
map_past (x ∷ xs) zero h = absurd (omega (arith, h))
map_past (x ∷ xs) (suc i) h = map_past xs i (omega (arith, h))

-- ---- the list changes where no region does

pub leading_set : (a : ArraysOf) (arrays : List ArrayOf) (n : ℕ) (y : ArrayOf) → array_at arrays n ≡ Some y → (x : ArrayOf) → KeepLeading a arrays a (set arrays n x)
leading_set a arrays n y e x q leads = (
  subst (λ l. q.stamp < l) (sym (length-set arrays n x)) leads.0,
  λ l.
      elim (same_or_not q.stamp n) [
        | inl s ↦ leads.1 (ap (is_live_array arrays) s ∙ ap is_some e)
        | inr ne ↦ leads.1 (sym (ap (λ o. is_some (unless_given o)) (get_set_other arrays q.stamp n x ne)) ∙ l)
      ],
)

pub leading_same : (a : ArraysOf) (arrays : List ArrayOf) (n : ℕ) (y : ArrayOf) → slice_get arrays n ≡ Some y → (x : ArrayOf) → is_some (unless_given (Some x)) ≡ is_some (unless_given (Some y)) → KeepLeading a arrays a (set arrays n x)
leading_same a arrays n y e x same q leads = (
  subst (λ l. q.stamp < l) (sym (length-set arrays n x)) leads.0,
  λ l.
      elim (same_or_not q.stamp n) [
        | inl s ↦
            let within = slice_get_within arrays n y e in
            leads.1 (ap (is_live_array arrays) s ∙ ap (λ o. is_some (unless_given o)) e ∙ sym same ∙ sym (ap (λ o. is_some (unless_given o)) (get_set_same arrays n x within)) ∙ sym (ap (is_live_array (set arrays n x)) s) ∙ l)
        | inr ne ↦ leads.1 (sym (ap (λ o. is_some (unless_given o)) (get_set_other arrays q.stamp n x ne)) ∙ l)
      ],
)

-- an array that was given back changes in the list alone
pub dead_changes : (a : ArraysOf) (arrays : List ArrayOf) (n : ℕ) (x : ArrayOf) → HoldsArrays a arrays → array_at arrays n ≡ None → n < length arrays → unless_given (Some x) ≡ None → HoldsArrays a (set arrays n x)
dead_changes a arrays n x h dead within gone =
    let apart : (q m : ℕ) → Lies a.regions q m → m ≡ n → ⊥ = λ q m hq e. no_some _ (sym dead ∙ ap (array_at arrays) (sym e) ∙ array_found a arrays q m h hq) in
    let other : (m : ℕ) → is_live_array (set arrays n x) m ≡ true → m ≡ n → ⊥ = λ m l e. off (sym (ap is_some gone) ∙ sym (ap (λ o. is_some (unless_given o)) (get_set_same arrays n x within)) ∙ ap (is_live_array (set arrays n x)) (sym e) ∙ l) in
    record {
      counted = h.counted ∙ sym (length-set arrays n x);
      known = λ q m hq. get_set_other arrays m n x (apart q m hq) ∙ h.known q m hq;
      found = λ m l. h.found m (sym (ap (λ o. is_some (unless_given o)) (get_set_other arrays m n x (other m l))) ∙ l);
      single = h.single;
      sound = h.sound;
      owners = h.owners;
    }

-- ---- the elements' references

module _ (frames : List Frame) (m : Frames) (rs : List RegionOf) (place : ℕ) (r : RegionOf) where
  pub elements_set : ElementsLead frames m rs → place < length rs → AllLead frames m r.elements → ElementsLead frames m (set rs place r)
  elements_set all there here q at =
      elim (same_or_not q place) [
        | inl e ↦ subst (λ g. SlotLeads frames m (slot_at g.elements at)) (sym (ap (region_at (set rs place r)) e ∙ region_same rs place r there)) (here at)
        | inr ne ↦ subst (λ g. SlotLeads frames m (slot_at g.elements at)) (sym (region_other rs place r q ne)) (all q at)
      ]

pub elements_more : (frames : List Frame) (m : Frames) (rs : List RegionOf) → ElementsLead frames m rs → ElementsLead frames m (rs ++ no_region ∷ [])
elements_more frames m rs all q at = subst (λ g. SlotLeads frames m (slot_at g.elements at)) (sym (region_any rs q)) (all q at)

-- ---- an array is kept, goes over, or gets another element

module _ (a b : ArraysOf) (o : World) (place n : ℕ) (h : HoldsArrays a o.arrays) (lies : Lies a.regions place n) where
  kept_region : RegionOf
  kept_region = record (region_at a.regions place) { kept = true }

  pub keeps_holds : b.regions ≡ set a.regions place (record (region_at a.regions place) { kept = true }) → b.made ≡ a.made → b.newest ≡ a.newest → ArraysAfter true b (kept_world o n)
  keeps_holds regions made newest =
      let old : RegionOf = region_at a.regions place in
      let s = h.sound place n lies in
      subst (λ w. ArraysAfter true b w) (sym (ap (kept_in o n) (array_found a o.arrays place n h lies)))
      (refl, changes a b o.arrays place n (record old { kept = true }) h lies lies.1 lies.2 regions made (omega (arith, newest)) (record { plain = s.plain; sized = s.sized; short = s.short }) (λ e. absurd (off (sym e))))

  pub keeps_leads : b.regions ≡ set a.regions place (record (region_at a.regions place) { kept = true }) → KeepLeadingAfter a o.arrays b (kept_world o n)
  keeps_leads regions =
      let old : RegionOf = region_at a.regions place in
      subst (λ w. KeepLeadingAfter a o.arrays b w) (sym (ap (kept_in o n) (array_found a o.arrays place n h lies)))
      (changes_leading a b o.arrays place n (record old { kept = true }) h lies lies.1 lies.2 regions (record (array_of old) { kept = true }))

  pub owns_holds : (owner : ℕ) → b.regions ≡ set a.regions place (record (region_at a.regions place) { owner = owner }) → b.made ≡ a.made → a.newest ≤ b.newest → owner ≤ b.newest →
      HoldsArrays b (owned_world o n owner).arrays
  owns_holds owner regions made newest owned =
      let old : RegionOf = region_at a.regions place in
      let s = h.sound place n lies in
      subst (λ w. HoldsArrays b (owned_by owner w o n).arrays) (sym (h.known place n lies))
      (changes a b o.arrays place n (record old { owner = owner }) h lies lies.1 lies.2 regions made newest (record { plain = s.plain; sized = s.sized; short = s.short }) (λ e. owned))

  pub owns_leads : (owner : ℕ) → b.regions ≡ set a.regions place (record (region_at a.regions place) { owner = owner }) → KeepLeading a o.arrays b (owned_world o n owner).arrays
  owns_leads owner regions =
      let old : RegionOf = region_at a.regions place in
      subst (λ w. KeepLeading a o.arrays b (owned_by owner w o n).arrays) (sym (h.known place n lies))
      (changes_leading a b o.arrays place n (record old { owner = owner }) h lies lies.1 lies.2 regions (record (array_of old) { owner = owner }))

  element_found : (i : ℕ) → element o n i ≡ slice_get (map plain_of (region_at a.regions place).elements) i
  element_found i = ap (λ w. element_in w i) (array_found a o.arrays place n h lies)

  pub element_past : (i : ℕ) (p : Plain) → length (region_at a.regions place).elements ≤ i → element_set o n i p ≡ None
  element_past i p past =
      ap (λ w. element_set_in o n i p w (element o n i)) (array_found a o.arrays place n h lies)
      ∙ ap (λ w. element_set_in o n i p (Some (array_of (region_at a.regions place))) w) (element_found i ∙ map_past (region_at a.regions place).elements i past)

  element_here : (i : ℕ) (p : Plain) → i < length (region_at a.regions place).elements →
      element_set o n i p ≡ Some (with_array o n (record (array_of (region_at a.regions place)) { elements = set (map plain_of (region_at a.regions place).elements) i p }))
  element_here i p inside =
      ap (λ w. element_set_in o n i p w (element o n i)) (array_found a o.arrays place n h lies)
      ∙ ap (λ w. element_set_in o n i p (Some (array_of (region_at a.regions place))) w) (element_found i ∙ map_get (region_at a.regions place).elements i inside)

  pub sets_holds : (i : ℕ) (p : Plain) (s : Slot) → i < length (region_at a.regions place).elements → value_of s ≡ Of p →
      b.regions ≡ set a.regions place (record (region_at a.regions place) { elements = set (region_at a.regions place).elements i s }) → b.made ≡ a.made → b.newest ≡ a.newest → ArraysAfter true b (element_set o n i p)
  sets_holds i p s inside value regions made newest =
      let old : RegionOf = region_at a.regions place in
      let new : RegionOf = record old { elements = set old.elements i s } in
      let t = h.sound place n lies in
      let long = length-set old.elements i s in
      let same : map plain_of (set old.elements i s) ≡ set (map plain_of old.elements) i p = map_set old.elements i s ∙ ap (λ v. set (map plain_of old.elements) i v) (plain_value s p value) in
      subst (λ w. ArraysAfter true b w) (sym (element_here i p inside)) (
        refl,
        subst (λ l. HoldsArrays b (set o.arrays n (record (array_of old) { elements = l }))) same
            (changes a b o.arrays place n new h lies lies.1 lies.2 regions made (omega (arith, newest))
            (record {
              plain = all_set (λ z. value_of z ≡ Of (plain_of z)) old.elements i s inside t.plain (plain_again s p value);
              sized = long ∙ t.sized;
              short = let short = t.short in omega (arith, short, long);
            })
            (λ e. let w = h.owners place n lies e in omega (arith, w, newest))),
      )

  element_leads_in : (i : ℕ) (p : Plain) (r : RegionOf) → r.live ≡ true → r.number ≡ n → b.regions ≡ set a.regions place r → (w : Option ArrayOf) (w2 : Option Plain) → KeepLeadingAfter a o.arrays b (element_set_in o n i p w w2)
  element_leads_in i p r on same regions None w2 = tt
  element_leads_in i p r on same regions (Some x) None = tt
  element_leads_in i p r on same regions (Some x) (Some old) = changes_leading a b o.arrays place n r h lies on same regions (record x { elements = set x.elements i p })

  pub sets_leads : (i : ℕ) (p : Plain) (s : Slot) → b.regions ≡ set a.regions place (record (region_at a.regions place) { elements = set (region_at a.regions place).elements i s }) → KeepLeadingAfter a o.arrays b (element_set o n i p)
  sets_leads i p s regions = element_leads_in i p (record (region_at a.regions place) { elements = set (region_at a.regions place).elements i s }) lies.1 lies.2 regions (live_array o n) (element o n i)

-- ---- the same where no array was found

pub kept_row : (o : World) (n : ℕ) (go : World → Run Machine) → keeping_array n o go ≡ having (kept_world o n) o go
unfolding keeping_array having
kept_row o n go = kept_row_in (live_array o n)
  where
    kept_row_in : (w : Option ArrayOf) → having w o (λ a. go (with_array o n (record a { kept = true }))) ≡ having (kept_in o n w) o go
    kept_row_in None = refl
    kept_row_in (Some x) = refl

module _ (a : ArraysOf) (o : World) (n : ℕ) where
  kept_none_in : (w : Option ArrayOf) → array_at o.arrays n ≡ w → KeepLeadingAfter a o.arrays a (kept_in o n w)
  kept_none_in None e = tt
  kept_none_in (Some x) e = leading_set a o.arrays n x e (record x { kept = true })

  pub kept_none : KeepLeadingAfter a o.arrays a (kept_world o n)
  kept_none = kept_none_in (array_at o.arrays n) refl

  set_none_in : (i : ℕ) (p : Plain) (w : Option ArrayOf) → array_at o.arrays n ≡ w → (w2 : Option Plain) → KeepLeadingAfter a o.arrays a (element_set_in o n i p w w2)
  set_none_in i p None e w2 = tt
  set_none_in i p (Some x) e None = tt
  set_none_in i p (Some x) e (Some old) = leading_set a o.arrays n x e (record x { elements = set x.elements i p })

  pub set_none : (i : ℕ) (p : Plain) → KeepLeadingAfter a o.arrays a (element_set o n i p)
  set_none i p = set_none_in i p (array_at o.arrays n) refl (element o n i)

  owned_none_in : (owner : ℕ) (w : Option ArrayOf) → slice_get o.arrays n ≡ w → KeepLeading a o.arrays a (owned_by owner w o n).arrays
  owned_none_in owner None e = λ q leads. leads
  owned_none_in owner (Some x) e = leading_same a o.arrays n x e (record x { owner = owner }) (same_given x owner)
    where
      same_given : (x : ArrayOf) (owner : ℕ) → is_some (unless_given (Some (record x { owner = owner }))) ≡ is_some (unless_given (Some x))
      same_given x owner = given_either x.given_back
        where
          given_either : (g : Bool) → is_some (if g then None else Some (record x { owner = owner; given_back = g })) ≡ is_some (if g then None else Some (record x { given_back = g }))
          given_either true = refl
          given_either false = refl

  pub owned_none : (owner : ℕ) → KeepLeading a o.arrays a (owned_world o n owner).arrays
  owned_none owner = owned_none_in owner (slice_get o.arrays n) refl

  dead_owner : (x : ArrayOf) (owner : ℕ) → unless_given (Some x) ≡ None → unless_given (Some (record x { owner = owner })) ≡ None
  dead_owner x owner e = given_none x.given_back (ap is_some e)
    where
      given_none : (g : Bool) → is_some (if g then None else Some x) ≡ false → ◌≡◌ {A = Option ArrayOf} (if g then None else Some (record x { owner = owner })) None
      given_none true e = refl
      given_none false e = absurd (off (sym e))

  owned_dead_in : (owner : ℕ) (w : Option ArrayOf) → slice_get o.arrays n ≡ w → HoldsArrays a o.arrays → array_at o.arrays n ≡ None → HoldsArrays a (owned_by owner w o n).arrays
  owned_dead_in owner None e h dead = h
  owned_dead_in owner (Some x) e h dead = dead_changes a o.arrays n (record x { owner = owner }) h dead (slice_get_within o.arrays n x e) (dead_owner x owner (sym (ap unless_given e) ∙ dead))

  pub owned_dead : (owner : ℕ) → HoldsArrays a o.arrays → array_at o.arrays n ≡ None → HoldsArrays a (owned_world o n owner).arrays
  owned_dead owner h dead = owned_dead_in owner (slice_get o.arrays n) refl h dead

-- ---- an array is given back

module _ (a b : ArraysOf) (arrays : List ArrayOf) (place n next : ℕ) (h : HoldsArrays a arrays) (lies : Lies a.regions place n)
    (regions : b.regions ≡ set a.regions place (record (region_at a.regions place) { live = false; next = next; bounds = []; elements = [] })) where
  given_is : given_at arrays n ≡ set arrays n (record (array_of (region_at a.regions place)) { given_back = true })
  given_is = ap (given_in arrays n) (h.known place n lies)

  pub gives_at : b.made ≡ a.made → b.newest ≡ a.newest → HoldsArrays b (given_at arrays n)
  gives_at made newest =
      subst (λ l. HoldsArrays b l) (sym given_is)
      (gives_array a b arrays place n (record (region_at a.regions place) { live = false; next = next; bounds = []; elements = [] }) h lies refl regions (record (array_of (region_at a.regions place)) { given_back = true }) refl made (omega (arith, newest)))

  pub gives_at_leads : KeepLeading a arrays b (given_at arrays n)
  gives_at_leads =
      subst (λ l. KeepLeading a arrays b l) (sym given_is)
      (gives_array_leading a b arrays place n (record (region_at a.regions place) { live = false; next = next; bounds = []; elements = [] }) h lies refl regions (record (array_of (region_at a.regions place)) { given_back = true }) refl)

-- ---- elements of a new array

pub replicated_plain : (n : ℕ) (s : Slot) (p : Plain) → value_of s ≡ Of p → (at : ℕ) → value_of (slot_at (replicate n s) at) ≡ Of (plain_of (slot_at (replicate n s) at))
replicated_plain zero s p e at = refl
replicated_plain (suc n) s p e zero = plain_again s p e
replicated_plain (suc n) s p e (suc at) = replicated_plain n s p e at

pub replicated_map : (n : ℕ) (s : Slot) (p : Plain) → plain_of s ≡ p → map plain_of (replicate n s) ≡ replicate n p
replicated_map zero s p e = refl
replicated_map (suc n) s p e = ap (λ l. plain_of s ∷ l) (replicated_map n s p e) ∙ ap (λ q. q ∷ replicate n p) e

pub replicated_leads : (frames : List Frame) (m : Frames) (n : ℕ) (s : Slot) → SlotLeads frames m s → SlotLeads frames m empty_slot → AllLead frames m (replicate n s)
replicated_leads frames m zero s here none at = none
replicated_leads frames m (suc n) s here none zero = here
replicated_leads frames m (suc n) s here none (suc at) = replicated_leads frames m n s here none at

pub replicated_long : (n : ℕ) (s : Slot) → length (replicate n s) ≡ n
replicated_long zero s = refl
replicated_long (suc n) s = ap suc (replicated_long n s)

abbrev ok_or : {A : Type 0} → A → Result A RunError → A
ok_or a (Ok b) = b
ok_or a (Err e) = a

abbrev is_ok_type : {A : Type 0} → Result A RunError → Type 0
is_ok_type (Ok b) = Unit {0}
is_ok_type (Err e) = ⊥

pub words_are : (bounds : List (ℤ × ℤ)) (words : ℕ) → array_words bounds ≡ Ok words → (element_count bounds ≤ 2 ^ 31) × (words ≡ 3 + element_count bounds + 2 * length bounds)
words_are bounds words e = elim (large_or_not (2 ^ 31) (element_count bounds)) [
  | inl large ↦ absurd (subst is_ok_type (sym (sym (ap (λ b. if b then Err ArrayTooLarge else Ok (3 + element_count bounds + 2 * length bounds)) large) ∙ e)) tt)
  | inr fits ↦ (fits.1, ap (ok_or words) (sym e ∙ ap (λ b. if b then Err ArrayTooLarge else Ok (3 + element_count bounds + 2 * length bounds)) fits.0))
]
  where
    large_or_not : (m n : ℕ) → (nat_lt m n ≡ true) ⊎ ((nat_lt m n ≡ false) × (n ≤ m))
    large_or_not m n = elim (below m n) [ inl b ↦ inl (grind (arith, b)) | inr b ↦ inr (grind (arith, b), b) ]
      where
        below : (m n : ℕ) → (m < n) ⊎ (n ≤ m)
        below m zero = inr (omega arith)
        below zero (suc n) = inl (omega arith)
        below (suc m) (suc n) = elim (below m n) [ inl b ↦ inl (omega (arith, b)) | inr b ↦ inr (omega (arith, b)) ]

-- ---- an array that is copied

some_is : (x y : ArrayOf) → ◌≡◌ {A = Option ArrayOf} (Some x) (Some y) → x ≡ y
some_is x y e = ap (array_or x) e
  where
    array_or : ArrayOf → Option ArrayOf → ArrayOf
    array_or x None = x
    array_or x (Some y) = y

module _ (a : ArraysOf) (arrays : List ArrayOf) (place n : ℕ) (x : ArrayOf) (owner number : ℕ) (bs : List (ℤ × ℤ)) (els : List Slot) (h : HoldsArrays a arrays) (lies : Lies a.regions place n)
    (bounds : bs ≡ (region_at a.regions place).bounds) (elements : els ≡ (region_at a.regions place).elements) where
  pub copied_is : array_at arrays n ≡ Some x → array_of (entering number owner bs els) ≡ copied_array x owner
  copied_is e =
      ap (λ b. array_of (entering number owner b els)) bounds
      ∙ ap (λ l. array_of (entering number owner (region_at a.regions place).bounds l)) elements
      ∙ ap (λ y. copied_array y owner) (some_is (array_of (region_at a.regions place)) x (sym (array_found a arrays place n h lies) ∙ e))

  pub copied_sound : IsSound (entering number owner bs els)
  copied_sound =
      let s = h.sound place n lies in
      subst (λ b. IsSound (entering number owner b els)) (sym bounds)
      (subst (λ l. IsSound (entering number owner (region_at a.regions place).bounds l)) (sym elements) (record { plain = s.plain; sized = s.sized; short = s.short }))
