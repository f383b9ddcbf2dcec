-- System heads, and the resumed objects that stand above them.
use Rattle.std.proofs.Common.{◌≡◌, ◌≢◌, ◌<◌, ◌≤◌, ◌+◌, ℕ, zero, suc, Bool, true, false, List, [], ◌∷◌, ◌++◌, length, Option, Some, None, ◌⊎◌, ⊎_elim, refl, sym, ap, ◌∙◌, subst, arith}
use Rattle.std.proofs.lemmas.Bool.{cases_eq}
use Rattle.std.specs.Prelude.{◌&&◌, if◌then◌else◌, slice_get, slice_index_or}
use Rattle.sim_chains.specs.Chains.{is_first, is_instance, once_if, times_above}
use Rattle.sim_chains.specs.Components.{Components, DetachedObject, NoObject, ResumedObject, Standing, TerminatedObject, standing_of}
use Rattle.sim_chains.specs.Heads.{head_within}
use Rattle.sim_chains.specs.WellFormed.{IsWellFormed, is_object, over_kept, times_above_in}
use Rattle.sim_scope.specs.Source.{Source}
use Rattle.sim_code.specs.Instances.{Instance, encloser_in, encloser_of, given_in, is_object_at, or_first, system_head}
use Rattle.sim_meaning.specs.Pending.{Activation, Held, Instances, owner}
use Rattle.sim_sound.proofs.Lists.{other_numbers, same_some, set_other, set_same}
use Rattle.sim_sound.proofs.Running.{Headed, Placed, StoreFine, parts}
use Rattle.sim_sound.proofs.Values.{AllArrays}

-- ---- how instances stand

pub at_is : {A : Type 0} (xs : List A) (j : ℕ) (x d : A) → slice_get xs j ≡ Some x → slice_index_or xs j d ≡ x
at_is [] j x d e = absurd (cc)
at_is (y ∷ xs) zero x d e = same_some (Some y) y x refl e
at_is (y ∷ xs) (suc j) x d e = at_is xs j x d e

abbrev get_or : {A : Type 0} → Option A → A → A
get_or None d = d
get_or (Some x) d = x

at_get : {A : Type 0} (xs : List A) (j : ℕ) (d : A) → slice_index_or xs j d ≡ get_or (slice_get xs j) d
at_get [] j d = refl
at_get (y ∷ xs) zero d = refl
at_get (y ∷ xs) (suc j) d = at_get xs j d

pub at_same : {A : Type 0} (xs ys : List A) (j : ℕ) (d : A) → slice_get xs j ≡ slice_get ys j → slice_index_or xs j d ≡ slice_index_or ys j d
at_same xs ys j d e = at_get xs j d ∙ ap (λ z. get_or z d) e ∙ sym (at_get ys j d)

-- an instance that stands otherwise than one that was never entered
pub stands_as : (xs : List (Standing Activation)) (y : ℕ) (x : Standing Activation) → slice_index_or xs y (NoObject None) ≡ x → (NoObject None ≡ x → ⊥) → slice_get xs y ≡ Some x
stands_as [] y x e other = absurd (other e)
stands_as (z ∷ xs) zero x e other = ap Some e
stands_as (z ∷ xs) (suc y) x e other = stands_as xs y x e other

-- one more
pub more_old : (xs : List (Standing Activation)) (z x : Standing Activation) (j : ℕ) → (z ≡ x → ⊥) → slice_index_or (xs ++ z ∷ []) j (NoObject None) ≡ x → slice_index_or xs j (NoObject None) ≡ x
more_old [] z x zero other e = absurd (other e)
more_old [] z x (suc j) other e = e
more_old (y ∷ xs) z x zero other e = e
more_old (y ∷ xs) z x (suc j) other e = more_old xs z x j other e

pub more_new : (xs : List (Standing Activation)) (z x : Standing Activation) (j : ℕ) → (NoObject None ≡ x → ⊥) → slice_index_or xs j (NoObject None) ≡ x → slice_index_or (xs ++ z ∷ []) j (NoObject None) ≡ x
more_new [] z x j other e = absurd (other e)
more_new (y ∷ xs) z x zero other e = e
more_new (y ∷ xs) z x (suc j) other e = more_new xs z x j other e

pub more_first : (xs : List (Standing Activation)) (z : Standing Activation) → (0 < length xs) ⊎ (z ≡ NoObject None) → is_object (slice_index_or xs 0 (NoObject None)) ≡ false → is_object (slice_index_or (xs ++ z ∷ []) 0 (NoObject None)) ≡ false
more_first [] z first e = ⊎_elim (λ some. absurd (omega (arith, some))) (λ is. ap (λ q. is_object q) is) first
more_first (y ∷ xs) z first e = e

pub more_at : (xs : List (Standing Activation)) (z : Standing Activation) (j : ℕ) → j < length xs → slice_index_or (xs ++ z ∷ []) j (NoObject None) ≡ slice_index_or xs j (NoObject None)
more_at [] z j less = absurd (omega (arith, less))
more_at (y ∷ xs) z zero less = refl
more_at (y ∷ xs) z (suc j) less = more_at xs z j (omega (arith, less))

-- ---- heads

-- what is looked at outward is the same
within_same : (f g : ℕ → Option ℕ) (b d : ℕ → Bool) (Q : ℕ → Type 0) → ((p : ℕ) → Q p → (g p ≡ f p) × (d p ≡ b p)) → ((p q : ℕ) → Q p → f p ≡ Some q → Q q) → (n : ℕ) (x : Option ℕ) → ((p : ℕ) → x ≡ Some p → Q p) → head_within g d n x ≡ head_within f b n x
within_same f g b d Q same out zero None here = refl
within_same f g b d Q same out (suc n) None here = refl
within_same f g b d Q same out zero (Some p) here = refl
within_same f g b d Q same out (suc n) (Some p) here =
    let q = here p refl in
    let e = same p q in
    ap (λ z. if z then head_within g d n (g p) else Some p) e.1
    ∙ ap (λ z. if b p then head_within g d n z else Some p) e.0
    ∙ ap (λ z. if b p then z else Some p) (within_same f g b d Q same out n (f p) (λ r is. out p r q is))

pub heads_same : (m n : Instances) (Q : ℕ → Type 0) → ((p : ℕ) → Q p → (encloser_of n p ≡ encloser_of m p) × (is_object_at n p ≡ is_object_at m p)) → ((p q : ℕ) → Q p → encloser_of m p ≡ Some q → Q q) → (x : ℕ) → Q x → system_head n x ≡ system_head m x
unfolding system_head
heads_same m n Q same out x q =
    ap (λ z. or_first (head_within (encloser_of n) (is_object_at n) x z)) (same x q).0
    ∙ ap or_first (within_same (encloser_of m) (encloser_of n) (is_object_at m) (is_object_at n) Q same out x (encloser_of m x) (λ p is. out x p q is))

pub heads_kept : (m n : Instances) → ((j : ℕ) → encloser_of n j ≡ encloser_of m j) → ((j : ℕ) → is_object_at n j ≡ is_object_at m j) → (x : ℕ) → system_head n x ≡ system_head m x
heads_kept m n enclosers kinds x = heads_same m n (λ p. Unit {0}) (λ p q. (enclosers p, kinds p)) (λ p q a e. tt) x tt

-- a head is no object
outer_within : (m : Instances) → is_object_at m 0 ≡ false → (n : ℕ) (x : Option ℕ) → is_object_at m (or_first (head_within (encloser_of m) (is_object_at m) n x)) ≡ false
outer_within m outer zero None = outer
outer_within m outer (suc n) None = outer
outer_within m outer zero (Some p) = outer
outer_within m outer (suc n) (Some p) = by_flag (is_object_at m p) refl (outer_within m outer n (encloser_of m p))
  where
    by_flag : (b : Bool) → is_object_at m p ≡ b → is_object_at m (or_first (head_within (encloser_of m) (is_object_at m) n (encloser_of m p))) ≡ false → is_object_at m (or_first (if b then head_within (encloser_of m) (is_object_at m) n (encloser_of m p) else Some p)) ≡ false
    by_flag true e further = further
    by_flag false e further = e

pub head_outer : (m : Instances) → is_object_at m 0 ≡ false → (x : ℕ) → is_object_at m (system_head m x) ≡ false
unfolding system_head
head_outer m outer x = outer_within m outer x (encloser_of m x)

-- ---- resumed objects above them

pub le_same : (n : ℕ) → n ≤ n
le_same n = omega arith

above_moved : (a b c d : ℕ) → 0 < a + b → a ≤ c → d ≡ b → 0 < c + d
above_moved a b c d some more same = omega (arith, some, more, same)

-- where all stand as they did, and those that stood above a head still do
pub headed_on : (m n : Instances) (chain chain' : List Activation) → n.standings ≡ m.standings → ((x : ℕ) → standing_of (parts m chain) x ≡ ResumedObject → system_head n x ≡ system_head m x) → ((x y : ℕ) → standing_of (parts m chain) x ≡ ResumedObject → times_above owner x y chain ≤ times_above owner x y chain') → Headed m chain → Headed n chain'
headed_on m n chain chain' same heads still h = record {
  outer = ap (λ z. is_object (slice_index_or z 0 (NoObject None))) same ∙ h.outer;
  resumed = λ x e.
      (let was : standing_of (parts m chain) x ≡ ResumedObject = ap (λ z. slice_index_or z x (NoObject None)) (sym same) ∙ e in
      let p = h.resumed x was in
      let head = heads x was in
      let y = system_head m x in
      record {
        above = subst (λ z. 0 < times_above_in owner x z (parts n chain')) (sym head) (above_moved (times_above owner x y chain) (over_kept (times_above owner x y) m.standings) (times_above owner x y chain') (over_kept (times_above owner x y) n.standings) p.above (still x y was) (ap (over_kept (times_above owner x y)) same));
        main = p.main;
        keeps = ap (λ z. slice_index_or n.standings z (NoObject None)) head ∙ ap (λ z. slice_index_or z y (NoObject None)) same ∙ p.keeps;
      });
  main = λ x main e.
      (let r = h.main x main (ap (λ z. slice_index_or z x (NoObject None)) (sym same) ∙ e) in
      record { object = r.object; resumed = ap (λ z. slice_index_or z r.object (NoObject None)) same ∙ r.resumed; its_head = heads r.object r.resumed ∙ r.its_head });
}

-- it does not hang on the work of what operates and its values in hand
pub headed_as : (m : Instances) (a b : Activation) (rest : List Activation) → owner b ≡ owner a → Headed m (a ∷ rest) → Headed m (b ∷ rest)
headed_as m a b rest same h =
    headed_on m m (a ∷ rest) (b ∷ rest) refl (λ x e. refl)
    (λ x y e. subst (λ u. once_if (is_instance x (owner a) && is_first owner y rest) + times_above owner x y rest ≤ once_if (is_instance x u && is_first owner y rest) + times_above owner x y rest) (sym same) (le_same (times_above owner x y (a ∷ rest)))) h

-- what is no resumed object goes from the top
pub headed_left : (m n : Instances) (i : ℕ) (a : Activation) (rest : List Activation) → owner a ≡ Some i → n.standings ≡ m.standings → ((j : ℕ) → encloser_of n j ≡ encloser_of m j) → (main : Option (List Activation)) → slice_get m.standings i ≡ Some (NoObject main) → Headed m (a ∷ rest) → Headed n rest
headed_left m n i a rest own same enclosers main is h =
    headed_on m n (a ∷ rest) rest same (λ x e. heads_kept m n enclosers (λ j. ap (λ z. is_object (slice_index_or z j (NoObject None))) same) x)
    (λ x y e. let none = apart x y (other x e) in omega (arith, none)) h
  where
    other : (x : ℕ) → slice_index_or m.standings x (NoObject None) ≡ ResumedObject → i ≢ x
    other x e here = let it = at_is m.standings i (NoObject main) (NoObject None) is in let as_it = ap (λ z. slice_index_or m.standings z (NoObject None)) here in cc

    apart : (x y : ℕ) → i ≢ x → once_if (is_instance x (owner a) && is_first owner y rest) ≡ 0
    apart x y differ = ap (λ u. once_if (is_instance x u && is_first owner y rest)) own ∙ ap (λ b. once_if (b && is_first owner y rest)) (other_numbers i x differ)

-- and so does an evaluation, or comes there
pub headed_without : (m : Instances) (a : Activation) (rest : List Activation) → owner a ≡ None → Headed m (a ∷ rest) → Headed m rest
headed_without m a rest own h =
    headed_on m m (a ∷ rest) rest refl (λ x e. refl)
    (λ x y e. let none : once_if (is_instance x (owner a) && is_first owner y rest) ≡ 0 = ap (λ u. once_if (is_instance x u && is_first owner y rest)) own in omega (arith, none)) h

pub headed_with : (m : Instances) (a : Activation) (rest : List Activation) → Headed m rest → Headed m (a ∷ rest)
headed_with m a rest h = headed_on m m rest (a ∷ rest) refl (λ x e. refl) (λ x y e. omega arith) h

-- what is given back keeps its encloser
pub given_encloser : (m : Instances) (i : ℕ) (y : Option (Instance (List Held))) → slice_get m.instances i ≡ y → (j : ℕ) → encloser_of (given_in m i y) j ≡ encloser_of m j
given_encloser m i None e j = refl
given_encloser m i (Some y) e j =
    ⊎_elim
    (λ same. ap (λ z. encloser_of (given_in m i (Some y)) z) same ∙ ap (λ z. encloser_in z) (set_same m.instances i y (record y { given_back = true }) e) ∙ sym (ap (λ z. encloser_in z) e) ∙ ap (λ z. encloser_of m z) (sym same))
    (λ differ. ap (λ z. encloser_in z) (set_other m.instances i j (record y { given_back = true }) differ))
    (cases_eq j i)

-- ---- as among components

pub well_formed : (s : Source) (o : AllArrays) (m : Instances) (chain : List Activation) → StoreFine s o m → Placed m chain → Headed m chain → IsWellFormed owner (system_head m) (parts m chain)
well_formed s o m chain store placed h = record {
  once = placed.once;
  made = λ x less. placed.made x (subst (λ z. z ≤ x) placed.as_many less);
  terminated = λ x e. placed.ended x (stands_as m.standings x TerminatedObject e (λ q. cc));
  detached = λ x kept e. (store.kept x (DetachedObject kept) (stands_as m.standings x (DetachedObject kept) e (λ q. cc))).last;
  heads = λ x e. head_outer m h.outer x;
  resumed = h.resumed;
  main = h.main;
}

-- with these components then, of which each is an object if it was one
pub headed_then : (m : Instances) (d : Components Activation) → IsWellFormed owner (system_head m) d → is_object_at m 0 ≡ false → ((j : ℕ) → is_object_at (record m { standings = d.standings }) j ≡ is_object_at m j) → Headed (record m { standings = d.standings }) d.operating
headed_then m d w outer kinds =
    let heads = heads_kept m (record m { standings = d.standings }) (λ j. refl) kinds in
    record {
      outer = kinds 0 ∙ outer;
      resumed = λ x e.
          (let p = w.resumed x e in
          record {
            above = subst (λ z. 0 < times_above_in owner x z (parts (record m { standings = d.standings }) d.operating)) (sym (heads x)) p.above;
            main = p.main;
            keeps = ap (λ z. slice_index_or d.standings z (NoObject None)) (heads x) ∙ p.keeps;
          });
      main = λ x main e. (let r = w.main x main e in record { object = r.object; resumed = r.resumed; its_head = heads r.object ∙ r.its_head });
    }
