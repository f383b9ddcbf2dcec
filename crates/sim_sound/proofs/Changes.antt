-- What a step makes of arrays and instances keeps what is fine.
use Rattle.std.proofs.Common.{◌≡◌, ◌≢◌, ◌<◌, ℕ, zero, suc, Bool, true, false, List, [], ◌∷◌, ◌++◌, length, map, Option, Some, None, ◌⊎◌, inl, inr, ⊎_elim, refl, sym, ap, ◌∙◌, subst, arith}
use Rattle.std.proofs.lemmas.Bool.{cases_eq}
use Rattle.std.specs.Prelude.{if◌then◌else◌, slice_get, slice_set}
use Rattle.sim_scope.specs.Source.{Source}
use Rattle.sim_values.specs.Plain.{Plain}
use Rattle.sim_code.specs.Outcome.{ArrayOf as OneArray, World}
use Rattle.sim_code.specs.Arrays.{owned_by, unless_given, with_array}
use Rattle.sim_meaning.specs.Pending.{Declared, Held, Instances, Key, Val, before, held, held_set, same_key}
use Rattle.sim_meaning.specs.Pending as meaning
use Rattle.sim_sound.specs.Held.{ArrayOf, ByName, Holds, Procedure, Refers, Simply, key_holds}
use Rattle.sim_sound.proofs.Values.{AllArrays, ArrayFine, Beneath, CellFine, CellsFine, CopyFine, ElementFine, Hidden, KeptFine, KeyAmong, Marks, Near, Open, PlainFine, Seat, Sight, ValFine, at_itself, at_seat, elements_of, first_key, key_of, later_key, near_below, near_staying, one_lower, see}
use Rattle.sim_sound.proofs.Later.{All, AllCopies, Later, as_it_was}
use Rattle.sim_sound.proofs.Lists.{append_at, append_before, equal_numbers, if_false, if_true, numbers_equal, same_some, set_len, set_other, set_same}

-- ---- arrays alone

-- what is beneath an instance does not lie in the arrays
beneath_same : (o o' : AllArrays) (m : Instances) → o'.beneath ≡ o.beneath → {j e : ℕ} → Beneath o m j e → Beneath o' m j e
beneath_same o o' m same at_itself = at_itself
beneath_same o o' m same (one_lower {j = j} ends is way) = one_lower ends (ap (λ z. slice_get z j) same ∙ is) (beneath_same o o' m same way)

pub near_same : (o o' : AllArrays) (m : Instances) (j e : ℕ) → o'.beneath ≡ o.beneath → Near o m j e → Near o' m j e
near_same o o' m j e same (near_staying a) = near_staying a
near_same o o' m j e same (near_below way) = near_below (beneath_same o o' m same way)

arrays_later : (s : Source) (o o' : AllArrays) (m : Instances) → o'.beneath ≡ o.beneath → ((j : ℕ) (h : Holds) (a : ℕ) → ArrayFine o m j h a → ArrayFine o' m j h a) → ((j : ℕ) (h : Holds) (a n : ℕ) → ElementFine o m j h a n → ElementFine o' m j h a n) → ((h : Holds) (a : ℕ) → KeptFine o h a → KeptFine o' h a) → Later s o m o' m All
arrays_later s o o' m same f g k = record {
  arrays = λ j h a ok x. f j h a x;
  elements = λ j h a n ok x. g j h a n x;
  kept = k;
  there = λ j x ok lives. record { now = x; lives = lives; grown = as_it_was x };
  stays = λ j a. tt;
  apart = λ j e a b. tt;
  near = λ j e a b. tt;
  nears = λ j e ok a. near_same o o' m j e same a;
  beneath = λ j x is. ap (λ z. slice_get z j) same ∙ is;
  objects = λ j a. a;
  nobody = λ j a. a;
}

owned_same : (o o' : AllArrays) (m : Instances) (j : ℕ) (it : OneArray) → o'.beneath ≡ o.beneath → (it.kept ≡ true) ⊎ Near o m j it.owner → (it.kept ≡ true) ⊎ Near o' m j it.owner
owned_same o o' m j it same a = ⊎_elim (λ k. inl k) (λ n. inr (near_same o o' m j it.owner same n)) a

-- what the elements of all arrays hold
abbrev pub ElementsFine : Source → AllArrays → Instances → Type 0
ElementsFine s o m = (a i : ℕ) (it : OneArray) (x : Sight) (p : Plain) → unless_given (slice_get o.real a) ≡ Some it → slice_get o.sights a ≡ Some x → slice_get it.elements i ≡ Some p → PlainFine s m (elements_of x) p

-- one array more
more_lives : (o : List OneArray) (x : OneArray) (a : ℕ) (it : OneArray) → unless_given (slice_get o a) ≡ Some it → unless_given (slice_get (o ++ x ∷ []) a) ≡ Some it
more_lives [] x a it e = absurd (cc)
more_lives (y ∷ o) x zero it e = e
more_lives (y ∷ o) x (suc a) it e = more_lives o x a it e

get_more : (xs : List Sight) (x : Sight) (n : ℕ) (y : Sight) → slice_get xs n ≡ Some y → slice_get (xs ++ x ∷ []) n ≡ Some y
get_more [] x n y e = absurd (cc)
get_more (z ∷ xs) x zero y e = e
get_more (z ∷ xs) x (suc n) y e = get_more xs x n y e

abbrev pub more : AllArrays → Sight → OneArray → AllArrays
more o z x = record o { sights = o.sights ++ z ∷ []; real = o.real ++ x ∷ [] }

array_more : (o : AllArrays) (m : Instances) (z : Sight) (x : OneArray) (j : ℕ) (h : Holds) (a : ℕ) → ArrayFine o m j h a → ArrayFine (more o z x) m j h a
array_more o m z x j h a f = record { it = f.it; lives = more_lives o.real x a f.it f.lives; known = get_more o.sights z a (Open h) f.known; owned = owned_same o (more o z x) m j f.it refl f.owned; count = f.count }

pub later_array : (s : Source) (o : AllArrays) (m : Instances) (z : Sight) (x : OneArray) → Later s o m (more o z x) m All
unfolding array_more
later_array s o m z x =
    arrays_later s o (more o z x) m refl (λ j h a f. array_more o m z x j h a f) (λ j h a n f. record { array = array_more o m z x j h a f.array; there = f.there })
    (λ h a f. record { it = f.it; lives = more_lives o.real x a f.it f.lives; known = get_more o.sights z a (Open h) f.known; keeps = f.keeps; count = f.count })

pub copies_array : (o : AllArrays) (z : Sight) (x : OneArray) → AllCopies o (more o z x)
copies_array o z x q j d e h a lt f = record { it = f.it; lives = more_lives o.real x a f.it f.lives; hidden = get_more o.sights z a (Hidden h q e) f.hidden; owned = f.owned; count = f.count }

-- the array of a number, if it was not given back
array_if : (z it : OneArray) (b : Bool) → z.given_back ≡ b → (if b then None else Some z) ≡ Some it → (z ≡ it) × (z.given_back ≡ false)
array_if z it true e h = absurd (cc)
array_if z it false e h = (cc, e)

pub array_there : (o : Option OneArray) (it : OneArray) → unless_given o ≡ Some it → (o ≡ Some it) × (it.given_back ≡ false)
array_there None it h = absurd (cc)
array_there (Some z) it h = let x = array_if z it z.given_back refl h in (ap Some x.0, subst (λ y. y.given_back ≡ false) x.0 x.1)

pub array_lives : (o : Option OneArray) (it : OneArray) → o ≡ Some it → it.given_back ≡ false → unless_given o ≡ Some it
array_lives o it e f = ap unless_given e ∙ if_false it.given_back None (Some it) f

-- an array is the last one or was there
old_or_last : (xs : List OneArray) (y : OneArray) (a : ℕ) (it : OneArray) → slice_get (xs ++ y ∷ []) a ≡ Some it → (slice_get xs a ≡ Some it) ⊎ ((a ≡ length xs) × (y ≡ it))
old_or_last [] y zero it e = inr (refl, (cc))
old_or_last [] y (suc a) it e = absurd (cc)
old_or_last (z ∷ xs) y zero it e = inl e
old_or_last (z ∷ xs) y (suc a) it e = ⊎_elim (λ old. inl old) (λ new. inr (ap suc new.0, new.1)) (old_or_last xs y a it e)

sight_before : (xs : List Sight) (z : Sight) (a : ℕ) → a < length xs → slice_get (xs ++ z ∷ []) a ≡ slice_get xs a
sight_before xs z a lt = append_before xs z a lt

pub elements_array : (s : Source) (o : AllArrays) (m : Instances) (z : Sight) (x : OneArray) → length o.sights ≡ length o.real → ((i : ℕ) (p : Plain) → slice_get x.elements i ≡ Some p → PlainFine s m (elements_of z) p) → ElementsFine s o m → ElementsFine s (more o z x) m
elements_array s o m z x long new old a i it y p lives is at =
    let w = array_there (slice_get (o.real ++ x ∷ []) a) it lives in
    ⊎_elim
    (λ was. old a i it y p (array_lives (slice_get o.real a) it was w.1) (sym (sight_before o.sights z a (let n = Rattle.sim_sound.proofs.Lists.there_is o.real a it was in omega (arith, n, long))) ∙ is) at)
    (λ now.
    let same : z ≡ y = same_some (slice_get (o.sights ++ z ∷ []) a) z y (ap (slice_get (o.sights ++ z ∷ [])) (now.0 ∙ sym long) ∙ append_at o.sights z) is in
    subst (λ q. PlainFine s m (elements_of q) p) same (new i p (ap (λ q. slice_get q.elements i) now.1 ∙ at)))
    (old_or_last o.real x a it w.0)

sights_differ : (g : List Sight) (a b : ℕ) (q : Seat) (d : ℕ) (h k : Holds) → a ≡ b → slice_get g a ≡ Some (Hidden h q d) → slice_get g b ≡ Some (Open k) → ⊥
sights_differ g a b q d h k same e f = let x : Hidden h q d ≡ Open k = same_some (slice_get g b) (Hidden h q d) (Open k) (subst (λ z. slice_get g z ≡ Some (Hidden h q d)) same e) f in cc

-- an array with something else about it
module _ (o : AllArrays) (a0 : ℕ) (old new : OneArray) (is : unless_given (slice_get o.real a0) ≡ Some old) (back : new.given_back ≡ old.given_back) (owner : (old.kept ≡ true) ⊎ (new.owner ≡ old.owner)) (kept : old.kept ≡ true → new.kept ≡ true) (bounds : new.bounds ≡ old.bounds) (len : length new.elements ≡ length old.elements) where
  abbrev pub replaced : AllArrays
  replaced = record o { real = slice_set o.real a0 new }

  pub new_lives : (a : ℕ) → a ≡ a0 → unless_given (slice_get replaced.real a) ≡ Some new
  new_lives a same =
      let w = array_there (slice_get o.real a0) old is in
      array_lives (slice_get replaced.real a) new (ap (slice_get replaced.real) same ∙ set_same o.real a0 old new w.0) (back ∙ w.1)

  pub others_live : (a : ℕ) → a ≢ a0 → unless_given (slice_get replaced.real a) ≡ unless_given (slice_get o.real a)
  others_live a differ = ap unless_given (set_other o.real a0 a new differ)

  is_old : (a : ℕ) (it : OneArray) → a ≡ a0 → unless_given (slice_get o.real a) ≡ Some it → it ≡ old
  is_old a it same lives = same_some (unless_given (slice_get o.real a)) it old lives (ap (λ x. unless_given (slice_get o.real x)) same ∙ is)

  count_new : (it : OneArray) → it ≡ old → length it.elements ≡ Rattle.sim_values.specs.Words.element_count it.bounds → length new.elements ≡ Rattle.sim_values.specs.Words.element_count new.bounds
  count_new it e c = len ∙ ap (λ z. length z.elements) (sym e) ∙ c ∙ ap (λ z. Rattle.sim_values.specs.Words.element_count z.bounds) e ∙ ap Rattle.sim_values.specs.Words.element_count (sym bounds)

  array_replaced : (m : Instances) (j : ℕ) (h : Holds) (a n : ℕ) → (f : ArrayFine o m j h a) → (y : ArrayFine replaced m j h a) × (n < length (f.it).elements → n < length (y.it).elements)
  array_replaced m j h a n f = ⊎_elim here other (cases_eq a a0)
    where
      here : a ≡ a0 → (y : ArrayFine replaced m j h a) × (n < length (f.it).elements → n < length (y.it).elements)
      here same =
          let e = is_old a f.it same f.lives in (
            record {
              it = new;
              lives = new_lives a same;
              known = f.known;
              owned = ⊎_elim (λ k. inl (kept (subst (λ x. x.kept ≡ true) e k))) (λ k. ⊎_elim (λ was. inl (kept was)) (λ same. inr (near_same o replaced m j new.owner refl (subst (λ x. Near o m j x) (ap (λ x. x.owner) e ∙ sym same) k))) owner) f.owned;
              count = count_new f.it e f.count;
            },
            λ lt. subst (λ x. n < x) (ap (λ x. length x.elements) e ∙ sym len) lt,
          )

      other : a ≢ a0 → (y : ArrayFine replaced m j h a) × (n < length (f.it).elements → n < length (y.it).elements)
      other differ = (record { it = f.it; lives = others_live a differ ∙ f.lives; known = f.known; owned = owned_same o replaced m j f.it refl f.owned; count = f.count }, λ lt. lt)

  kept_replaced : (h : Holds) (a : ℕ) → KeptFine o h a → KeptFine replaced h a
  kept_replaced h a f = ⊎_elim here other (cases_eq a a0)
    where
      here : a ≡ a0 → KeptFine replaced h a
      here same = let e = is_old a f.it same f.lives in record { it = new; lives = new_lives a same; known = f.known; keeps = kept (subst (λ x. x.kept ≡ true) e f.keeps); count = count_new f.it e f.count }

      other : a ≢ a0 → KeptFine replaced h a
      other differ = record { it = f.it; lives = others_live a differ ∙ f.lives; known = f.known; keeps = f.keeps; count = f.count }

  pub later_replaced : (s : Source) (m : Instances) → Later s o m replaced m All
  later_replaced s m =
      arrays_later s o replaced m refl (λ j h a f. (array_replaced m j h a 0 f).0) (λ j h a n f. let y = array_replaced m j h a n f.array in record { array = y.0; there = y.1 f.there }) (λ h a f. kept_replaced h a f)

  pub elements_replaced : (s : Source) (m : Instances) (x : Sight) → slice_get o.sights a0 ≡ Some x → ((i : ℕ) (p : Plain) → slice_get new.elements i ≡ Some p → PlainFine s m (elements_of x) p) → ElementsFine s o m → ElementsFine s replaced m
  elements_replaced s m x sight fine all a i it y p lives is at = ⊎_elim here other (cases_eq a a0)
    where
      here : a ≡ a0 → PlainFine s m (elements_of y) p
      here same =
          let e : it ≡ new = same_some (unless_given (slice_get replaced.real a)) it new lives (new_lives a same) in
          let f : x ≡ y = same_some (slice_get o.sights a0) x y sight (ap (slice_get o.sights) (sym same) ∙ is) in
          subst (λ q. PlainFine s m (elements_of q) p) f (fine i p (ap (λ q. slice_get q.elements i) (sym e) ∙ at))

      other : a ≢ a0 → PlainFine s m (elements_of y) p
      other differ = all a i it y p (sym (others_live a differ) ∙ lives) is at

  -- it is open, so no copy is changed
  pub copies_replaced : (h : Holds) → slice_get o.sights a0 ≡ Some (Open h) → AllCopies o replaced
  copies_replaced h sight q j d e k a lt f =
      let differ : a ≢ a0 = λ same. sights_differ o.sights a a0 q e k h same f.hidden sight in
      record { it = f.it; lives = others_live a differ ∙ f.lives; hidden = f.hidden; owned = f.owned; count = f.count }

-- another value of an element, which it may hold
module _ (o : AllArrays) (m : Instances) (j0 : ℕ) (h0 : Holds) (a0 i : ℕ) (v : Plain) (at : ElementFine o m j0 h0 a0 i) where
  abbrev old : OneArray
  old = (at.array).it

  abbrev pub new : OneArray
  new = record old { elements = slice_set old.elements i v }

  abbrev pub changed : AllArrays
  changed = record o { real = slice_set o.real a0 new }

  pub old_value : (p : Plain) × (slice_get old.elements i ≡ Some p)
  old_value = Rattle.sim_sound.proofs.Lists.there_get old.elements i at.there

  pub later_element : (s : Source) → Later s o m changed m All
  later_element s = later_replaced o a0 old new (at.array).lives refl (inr refl) (λ e. e) refl (set_len old.elements i v) s m

  pub copies_element : AllCopies o changed
  copies_element q j d = copies_replaced o a0 old new (at.array).lives refl (inr refl) (λ e. e) refl (set_len old.elements i v) h0 (at.array).known q j d

  pub elements_changed : (s : Source) → PlainFine s m h0 v → ElementsFine s o m → ElementsFine s changed m
  elements_changed s fine all = elements_replaced o a0 old new (at.array).lives refl (inr refl) (λ e. e) refl (set_len old.elements i v) s m (Open h0) (at.array).known by_place all
    where
      by_place : (n : ℕ) (p : Plain) → slice_get new.elements n ≡ Some p → PlainFine s m h0 p
      by_place n p e =
          ⊎_elim
          (λ same.
          let here : slice_get new.elements n ≡ Some v = ap (slice_get new.elements) same ∙ set_same old.elements i old_value.0 v old_value.1 in
          subst (PlainFine s m h0) (same_some (slice_get new.elements n) v p here e) fine)
          (λ other. all a0 n old (Open h0) p (at.array).lives (at.array).known (sym (set_other old.elements i n v other) ∙ e))
          (cases_eq n i)

-- ---- a copy goes over to an instance

module _ (o : World) (g : Marks) (m : Instances) (i d : ℕ) (h0 : Holds) (a0 : ℕ) (copy : CopyFine (see g o) i d h0 a0) (n : ℕ) where
  abbrev moved : OneArray
  moved = record copy.it { owner = n }

  abbrev pub handed_marks : Marks
  handed_marks = record g { sights = slice_set g.sights a0 (Open h0) }

  abbrev pub handed_world : World
  handed_world = with_array o a0 moved

  abbrev Now : AllArrays
  Now = see handed_marks handed_world

  pub handed_is : owned_by n (slice_get o.arrays a0) o a0 ≡ handed_world
  handed_is = ap (λ x. owned_by n x o a0) (array_there (slice_get o.arrays a0) copy.it copy.lives).0

  pub handed_long : length g.sights ≡ length o.arrays → length handed_marks.sights ≡ length handed_world.arrays
  handed_long e = set_len g.sights a0 (Open h0) ∙ e ∙ sym (set_len o.arrays a0 moved)

  handed_array : (j : ℕ) (h : Holds) (a : ℕ) → ArrayFine (see g o) m j h a → ArrayFine Now m j h a
  handed_array j h a f =
      let differ : a ≢ a0 = λ same. sights_differ g.sights a0 a g.seat d h0 h (sym same) copy.hidden f.known in
      record { it = f.it; lives = ap unless_given (set_other o.arrays a0 a moved differ) ∙ f.lives; known = set_other g.sights a0 a (Open h0) differ ∙ f.known; owned = owned_same (see g o) Now m j f.it refl f.owned; count = f.count }

  handed_kept : (h : Holds) (a : ℕ) → KeptFine (see g o) h a → KeptFine Now h a
  handed_kept h a f =
      let differ : a ≢ a0 = λ same. sights_differ g.sights a0 a g.seat d h0 h (sym same) copy.hidden f.known in
      record { it = f.it; lives = ap unless_given (set_other o.arrays a0 a moved differ) ∙ f.lives; known = set_other g.sights a0 a (Open h0) differ ∙ f.known; keeps = f.keeps; count = f.count }

  pub handed_later : (s : Source) → Later s (see g o) m Now m All
  unfolding handed_array
  handed_later s = arrays_later s (see g o) Now m refl (λ j h a f. handed_array j h a f) (λ j h a n f. record { array = handed_array j h a f.array; there = f.there }) (λ h a f. handed_kept h a f)

  pub handed_copy : (q : Seat) (j e : ℕ) (k : Holds) (a : ℕ) → (q ≡ g.seat → e ≢ d) → CopyFine (at_seat (see g o) q) j e k a → CopyFine (at_seat Now q) j e k a
  handed_copy q j e k a apart f =
      let differ : a ≢ a0 = λ same. hidden_apart (same_some (slice_get g.sights a0) (Hidden k q e) (Hidden h0 g.seat d) (subst (λ z. slice_get g.sights z ≡ Some (Hidden k q e)) same f.hidden) copy.hidden) apart in
      record { it = f.it; lives = ap unless_given (set_other o.arrays a0 a moved differ) ∙ f.lives; hidden = set_other g.sights a0 a (Open h0) differ ∙ f.hidden; owned = f.owned; count = f.count }
    where
      hidden_apart : Hidden k q e ≡ Hidden h0 g.seat d → (q ≡ g.seat → e ≢ d) → ⊥
      hidden_apart same apart = let x : q ≡ g.seat = cc in let y : e ≡ d = cc in apart x y

  pub handed_over_array : (m' : Instances) → ArrayFine Now m' n h0 a0
  handed_over_array m' =
      let w = array_there (slice_get o.arrays a0) copy.it copy.lives in
      record { it = moved; lives = array_lives (slice_get (slice_set o.arrays a0 moved) a0) moved (set_same o.arrays a0 copy.it moved w.0) w.1; known = set_same g.sights a0 (Hidden h0 g.seat d) (Open h0) copy.hidden; owned = inr (near_below at_itself); count = copy.count }

  pub handed_elements : (s : Source) → ElementsFine s (see g o) m → ElementsFine s Now m
  handed_elements s all a k it y p lives is at = ⊎_elim here other (cases_eq a a0)
    where
      here : a ≡ a0 → PlainFine s m (elements_of y) p
      here same =
          let w = array_there (slice_get o.arrays a0) copy.it copy.lives in
          let e : it ≡ moved = same_some (unless_given (slice_get (slice_set o.arrays a0 moved) a)) it moved lives (array_lives (slice_get (slice_set o.arrays a0 moved) a) moved (ap (slice_get (slice_set o.arrays a0 moved)) same ∙ set_same o.arrays a0 copy.it moved w.0) w.1) in
          let f : Open h0 ≡ y = same_some (slice_get handed_marks.sights a) (Open h0) y (ap (slice_get handed_marks.sights) same ∙ set_same g.sights a0 (Hidden h0 g.seat d) (Open h0) copy.hidden) is in
          subst (λ q. PlainFine s m (elements_of q) p) f (all a0 k copy.it (Hidden h0 g.seat d) p copy.lives copy.hidden (ap (λ q. slice_get q.elements k) (sym e) ∙ at))

      other : a ≢ a0 → PlainFine s m (elements_of y) p
      other differ = all a k it y p (sym (ap unless_given (set_other o.arrays a0 a moved differ)) ∙ lives) (sym (set_other g.sights a0 a (Open h0) differ) ∙ is) at

-- ---- an array that is kept goes over to an instance

module _ (o : World) (g : Marks) (m : Instances) (h0 : Holds) (a0 : ℕ) (kept : KeptFine (see g o) h0 a0) (n : ℕ) where
  abbrev given : OneArray
  given = record kept.it { owner = n }

  abbrev pub given_world : World
  given_world = with_array o a0 given

  abbrev Then : AllArrays
  Then = see g given_world

  pub given_is : owned_by n (slice_get o.arrays a0) o a0 ≡ given_world
  given_is = ap (λ x. owned_by n x o a0) (array_there (slice_get o.arrays a0) kept.it kept.lives).0

  pub given_long : length g.sights ≡ length o.arrays → length g.sights ≡ length given_world.arrays
  given_long e = e ∙ sym (set_len o.arrays a0 given)

  pub given_later : (s : Source) → Later s (see g o) m Then m All
  given_later s = later_replaced (see g o) a0 kept.it given kept.lives refl (inl kept.keeps) (λ e. e) refl refl s m

  pub given_copy : (q : Seat) (j e : ℕ) (k : Holds) (a : ℕ) → CopyFine (at_seat (see g o) q) j e k a → CopyFine (at_seat Then q) j e k a
  given_copy q j e k a f = copies_replaced (see g o) a0 kept.it given kept.lives refl (inl kept.keeps) (λ e. e) refl refl h0 kept.known q j (suc e) e k a (omega arith) f

  pub given_elements : (s : Source) → ElementsFine s (see g o) m → ElementsFine s Then m
  given_elements s all = elements_replaced (see g o) a0 kept.it given kept.lives refl (inl kept.keeps) (λ e. e) refl refl s m (Open h0) kept.known (λ q p at. all a0 q kept.it (Open h0) p kept.lives kept.known at) all

-- ---- cells

pub same_equal : (a b : Key) → same_key a b ≡ true → a ≡ b
same_equal (Declared d) (Declared e) h = ap Declared (numbers_equal d e h)
same_equal meaning.Result meaning.Result h = refl
same_equal (meaning.Connection d) (meaning.Connection e) h = ap meaning.Connection (numbers_equal d e h)
same_equal (Declared d) meaning.Result h = absurd (cc)
same_equal (Declared d) (meaning.Connection e) h = absurd (cc)
same_equal meaning.Result (Declared d) h = absurd (cc)
same_equal meaning.Result (meaning.Connection e) h = absurd (cc)
same_equal (meaning.Connection d) (Declared e) h = absurd (cc)
same_equal (meaning.Connection d) meaning.Result h = absurd (cc)
same_equal meaning.Origin meaning.Origin h = refl
same_equal (Declared d) meaning.Origin h = absurd (cc)
same_equal meaning.Result meaning.Origin h = absurd (cc)
same_equal (meaning.Connection d) meaning.Origin h = absurd (cc)
same_equal meaning.Origin (Declared e) h = absurd (cc)
same_equal meaning.Origin meaning.Result h = absurd (cc)
same_equal meaning.Origin (meaning.Connection e) h = absurd (cc)

pub equal_same : (a : Key) → same_key a a ≡ true
equal_same (Declared d) = equal_numbers d d refl
equal_same meaning.Result = refl
equal_same (meaning.Connection e) = equal_numbers e e refl
equal_same meaning.Origin = refl

pub cell_of : (s : Source) (o : AllArrays) (m : Instances) (j : ℕ) (h : Holds) (v : Val) → ValFine s o m j h v → CellFine s o m j (Some h) (Some v)
cell_of s o m j (Simply k) v a = a
cell_of s o m j (Refers c) v a = a
cell_of s o m j (ArrayOf k) v a = a
cell_of s o m j (Procedure r) v a = a
cell_of s o m j (ByName k) v a = a

pub cell_is : (s : Source) (o : AllArrays) (m : Instances) (j : ℕ) (h : Holds) (v : Val) → CellFine s o m j (Some h) (Some v) → ValFine s o m j h v
cell_is s o m j (Simply k) v a = a
cell_is s o m j (Refers c) v a = a
cell_is s o m j (ArrayOf k) v a = a
cell_is s o m j (Procedure r) v a = a
cell_is s o m j (ByName k) v a = a

-- a cell that is set
module _ (key : Key) (v : Val) where
  -- how the cells are set at the first one
  pub data SetAt (h : Held) (hs hs' : List Held) : Type 0 where
    set_here : same_key h.key key ≡ true → hs' ≡ record { key = h.key; value = Some v } ∷ hs → SetAt h hs hs'
    set_later : (rest : List Held) → same_key h.key key ≡ false → held_set key v hs ≡ Some rest → hs' ≡ h ∷ rest → SetAt h hs hs'

  set_behind : (h : Held) (hs hs' : List Held) (r : Option (List Held)) → same_key h.key key ≡ false → held_set key v hs ≡ r → before h r ≡ Some hs' → SetAt h hs hs'
  set_behind h hs hs' None b e f = absurd (cc)
  set_behind h hs hs' (Some rest) b e f = set_later rest b e (cc)

  set_choice : (h : Held) (hs hs' : List Held) (b : Bool) → same_key h.key key ≡ b → (if b then Some (record { key = h.key; value = Some v } ∷ hs) else before h (held_set key v hs)) ≡ Some hs' → SetAt h hs hs'
  set_choice h hs hs' true b e = set_here b (cc)
  set_choice h hs hs' false b e = set_behind h hs hs' (held_set key v hs) b refl e

  pub set_at : (h : Held) (hs hs' : List Held) → held_set key v (h ∷ hs) ≡ Some hs' → SetAt h hs hs'
  set_at h hs hs' e = set_choice h hs hs' (same_key h.key key) refl e

  pub keys_set : (hs hs' : List Held) → held_set key v hs ≡ Some hs' → map key_of hs' ≡ map key_of hs
  keys_set [] hs' e = absurd (cc)
  keys_set (h ∷ hs) hs' e = by_set (λ rest f. keys_set hs rest f) (set_at h hs hs' e)
    where
      by_set : ((rest : List Held) → held_set key v hs ≡ Some rest → map key_of rest ≡ map key_of hs) → SetAt h hs hs' → map key_of hs' ≡ key_of h ∷ map key_of hs
      by_set ih (set_here b is) = ap (map key_of) is
      by_set ih (set_later rest b f is) = ap (map key_of) is ∙ ap (λ x. key_of h ∷ x) (ih rest f)

  pub cells_set : (s : Source) (o : AllArrays) (m : Instances) (j t : ℕ) (x : Holds) → key_holds s t key ≡ Some x → ValFine s o m j x v → (hs hs' : List Held) → held_set key v hs ≡ Some hs' → CellsFine s o m j t hs → CellsFine s o m j t hs'
  cells_set s o m j t x is fine [] hs' e a = absurd (cc)
  cells_set s o m j t x is fine (h ∷ hs) hs' e a = by_set (λ rest f. cells_set s o m j t x is fine hs rest f a.1) (set_at h hs hs' e)
    where
      by_set : ((rest : List Held) → held_set key v hs ≡ Some rest → CellsFine s o m j t rest) → SetAt h hs hs' → CellsFine s o m j t hs'
      by_set ih (set_here b is') =
          let there : key_holds s t h.key ≡ Some x = ap (key_holds s t) (same_equal h.key key b) ∙ is in
          subst (CellsFine s o m j t) (sym is') (subst (λ y. CellFine s o m j y (Some v)) (sym there) (cell_of s o m j x v fine), a.1)
      by_set ih (set_later rest b f is') = subst (CellsFine s o m j t) (sym is') (a.0, ih rest f)

  held_if_here : (k : Key) (h : Held) (hs : List Held) (b : Bool) → (if b then Some v else held k hs) ≡ None → (if b then h.value else held k hs) ≡ None
  held_if_here k h hs true e = absurd (cc)
  held_if_here k h hs false e = e

  held_if_later : (k : Key) (h : Held) (hs rest : List Held) (b : Bool) → (held k rest ≡ None → held k hs ≡ None) → (if b then h.value else held k rest) ≡ None → (if b then h.value else held k hs) ≡ None
  held_if_later k h hs rest true f e = e
  held_if_later k h hs rest false f e = f e

  -- a cell that held something still does
  pub held_stays : (k : Key) (hs hs' : List Held) → held_set key v hs ≡ Some hs' → held k hs' ≡ None → held k hs ≡ None
  held_stays k [] hs' e a = absurd (cc)
  held_stays k (h ∷ hs) hs' e a = by_set (λ rest f g. held_stays k hs rest f g) (set_at h hs hs' e)
    where
      by_set : ((rest : List Held) → held_set key v hs ≡ Some rest → held k rest ≡ None → held k hs ≡ None) → SetAt h hs hs' → held k (h ∷ hs) ≡ None
      by_set ih (set_here b is) = held_if_here k h hs (same_key h.key k) (ap (held k) (sym is) ∙ a)
      by_set ih (set_later rest b f is) = held_if_later k h hs rest (same_key h.key k) (ih rest f) (ap (held k) (sym is) ∙ a)

  pub held_now : (hs hs' : List Held) → held_set key v hs ≡ Some hs' → held key hs' ≡ Some v
  held_now [] hs' e = absurd (cc)
  held_now (h ∷ hs) hs' e = by_set (λ rest f. held_now hs rest f) (set_at h hs hs' e)
    where
      by_set : ((rest : List Held) → held_set key v hs ≡ Some rest → held key rest ≡ Some v) → SetAt h hs hs' → held key hs' ≡ Some v
      by_set ih (set_here b is) = ap (held key) is ∙ if_true (same_key h.key key) (Some v) (held key hs) b
      by_set ih (set_later rest b f is) = ap (held key) is ∙ if_false (same_key h.key key) h.value (held key rest) b ∙ ih rest f

  set_before : (h : Held) (r : Option (List Held)) (rest : List Held) → r ≡ Some rest → before h r ≡ Some (h ∷ rest)
  set_before h r rest e = ap (before h) e

  set_if : (h : Held) (hs : List Held) (b : Bool) (rest : List Held) → held_set key v hs ≡ Some rest → (hs' : List Held) × ((if b then Some (record { key = h.key; value = Some v } ∷ hs) else before h (held_set key v hs)) ≡ Some hs')
  set_if h hs true rest e = (record { key = h.key; value = Some v } ∷ hs, refl)
  set_if h hs false rest e = (h ∷ rest, set_before h (held_set key v hs) rest e)

  -- a cell that is there can be set
  pub set_there : (hs : List Held) → KeyAmong key (map key_of hs) → (hs' : List Held) × (held_set key v hs ≡ Some hs')
  set_there hs a = set_in (map key_of hs) hs refl a
    where
      set_in : (ks : List Key) (hs : List Held) → map key_of hs ≡ ks → KeyAmong key ks → (hs' : List Held) × (held_set key v hs ≡ Some hs')
      set_in ks [] e (first_key) = absurd (cc)
      set_in ks [] e (later_key a) = absurd (cc)
      set_in ks (h ∷ hs) e (first_key {ks = more}) =
          let is : h.key ≡ key = cc in
          (record { key = h.key; value = Some v } ∷ hs, if_true (same_key h.key key) (Some (record { key = h.key; value = Some v } ∷ hs)) (before h (held_set key v hs)) (subst (λ x. same_key x key ≡ true) (sym is) (equal_same key)))
      set_in ks (h ∷ hs) e (later_key {k = k} {ks = more} a) =
          let r = set_in more hs (cc) a in set_if h hs (same_key h.key key) r.0 r.1

-- the cell of a key holds what it should, or nothing yet
pub held_fine : (s : Source) (o : AllArrays) (m : Instances) (j t : ℕ) (key : Key) (h : Holds) (hs : List Held) (v : Val) → key_holds s t key ≡ Some h → CellsFine s o m j t hs → held key hs ≡ Some v → ValFine s o m j h v
held_fine s o m j t key h [] v is a e = absurd (cc)
held_fine s o m j t key h (x ∷ hs) v is a e = choice (λ f. held_fine s o m j t key h hs v is a.1 f) (same_key x.key key) refl e
  where
    choice : (held key hs ≡ Some v → ValFine s o m j h v) → (b : Bool) → same_key x.key key ≡ b → (if b then x.value else held key hs) ≡ Some v → ValFine s o m j h v
    choice ih true b f = cell_is s o m j h v (subst (CellFine s o m j (Some h)) f (subst (λ y. CellFine s o m j y x.value) (ap (key_holds s t) (same_equal x.key key b) ∙ is) a.0))
    choice ih false b f = ih f

-- a cell that may not be empty holds something
pub held_plain : (s : Source) (o : AllArrays) (m : Instances) (j t : ℕ) (key : Key) (x : Holds) → (CellFine s o m j (Some x) None → ⊥) → (hs : List Held) → key_holds s t key ≡ Some x → CellsFine s o m j t hs → KeyAmong key (map key_of hs) → held key hs ≡ None → ⊥
held_plain s o m j t key k full [] is a there e = elim there [ ]
held_plain s o m j t key k full (x ∷ hs) is a there e = choice (λ more f. held_plain s o m j t key k full hs is a.1 more f) (same_key x.key key) refl e
  where
    nothing : (v : Option Val) → v ≡ None → CellFine s o m j (Some k) v → ⊥
    nothing None f c = full c
    nothing (Some v) f c = cc

    among : x.key ≡ key ⊎ KeyAmong key (map key_of hs)
    among = in_keys (key_of x ∷ map key_of hs) refl there
      where
        in_keys : (ks : List Key) → key_of x ∷ map key_of hs ≡ ks → KeyAmong key ks → x.key ≡ key ⊎ KeyAmong key (map key_of hs)
        in_keys _ f first_key = inl (cc)
        in_keys _ f (later_key {k = y} {ks = more} b) = inr (subst (KeyAmong key) (sym (cc)) b)

    choice : (KeyAmong key (map key_of hs) → held key hs ≡ None → ⊥) → (b : Bool) → same_key x.key key ≡ b → (if b then x.value else held key hs) ≡ None → ⊥
    choice ih true b f = nothing x.value f (subst (λ y. CellFine s o m j y x.value) (ap (key_holds s t) (same_equal x.key key b) ∙ is) a.0)
    choice ih false b f =
        ⊎_elim
        (λ same'. let yes : same_key x.key key ≡ true = subst (λ y. same_key y key ≡ true) (sym same') (equal_same key) in cc)
        (λ more. ih more f)
        among
