-- Cells that are set, instances that are entered and given back: what is fine stays so, and the store is fine again.
use Rattle.std.proofs.Common.{◌≡◌, ◌≢◌, ◌<◌, ◌≤◌, ◌+◌, ℕ, zero, suc, Bool, true, false, List, [], ◌∷◌, ◌++◌, length, map, Option, Some, None, ◌⊎◌, inl, inr, ⊎_elim, refl, sym, ap, ◌∙◌, subst, arith}
use Rattle.std.proofs.lemmas.Bool.{cases_eq}
use Rattle.std.specs.Prelude.{◌==◌, ◌&&◌, not, if◌then◌else◌, slice_get, slice_index_or, slice_set}
use Rattle.sim_chains.specs.Chains.{is_instance, once_if, times_above, times_on}
use Rattle.sim_chains.specs.Components.{AttachedObject, DetachedObject, NoObject, ResumedObject, Standing, TerminatedObject, standing_of}
use Rattle.sim_chains.specs.WellFormed.{chain_in, is_object, over_kept, times_above_in}
use Rattle.sim_scope.specs.Source.{Source}
use Rattle.simset.specs.Instances.{Memberships}
use Rattle.sim_code.specs.Outcome.{ArrayOf as OneArray, Simulation, World}
use Rattle.sim_code.specs.Arrays.{given_with, giving_back, goes_with, unless_given}
use Rattle.sim_code.specs.Instances.{Instance, encloser_in, encloser_of, ends_in, entered, given, given_in, is_given_at_end, live, system_head, with_instance}
use Rattle.sim_code.specs.Instances as instances
use Rattle.sim_meaning.specs.Pending.{Activation, Held, Instances, Key, Val, held, held_set, owner, Origin}
use Rattle.sim_meaning.specs.Meaning.{instances_left, text_of, words_of_text, world_left}
use Rattle.sim_meaning.specs.Texts.{text}
use Rattle.sim_sound.specs.Held.{Holds, key_holds}
use Rattle.sim_sound.proofs.Chains.{apart_kept, elsewhere_none, free, here_once, own_top, seat_idle, top_apart}
use Rattle.sim_sound.proofs.Heads.{given_encloser, headed_as, headed_left, headed_on, heads_kept, heads_same, le_same, more_at, more_first, more_new, more_old, stands_as}
use Rattle.sim_sound.proofs.Running.{AllKeptSeats, ChainFine, Headed, NoObjectStands, ObjectStands, Operates, Placed, StandsFine, StandsOn, StoreFine, first_of, footing, idle, is_resumed, own_seat, parts, places, seat_on}
use Rattle.sim_sound.proofs.Values.{AllArrays, ArrayFine, Beneath, CellsFine, Enclosed, InstanceFine, KeyAmong, Knows, Marks, Near, Outward, Seat, Sight, Stays, ValFine, Waits, alone, at_itself, at_seat, elements_of, key_of, near_below, near_staying, no_further, one_lower, one_out, outward, see, staying, within}
use Rattle.sim_sound.proofs.Changes.{array_there, cells_set, held_stays, keys_set}
use Rattle.sim_sound.proofs.Members.{MembersFine, OneMore, StillAll, members_later}
use Rattle.sim_sound.proofs.Simulated.{SimulationsFine}
use Rattle.sim_sound.proofs.Simulating.{simulations_later}
use Rattle.sim_sound.proofs.Later.{All, AllCopies, AnySeat, Copies, Grown, Later, Steady, StillThere, as_it_was, cells_later, enclosed_later, flags_grown, instance_later, kept_all, kept_later, lasts_later, live_less, object_later, plain_later, standing_apart, standing_later, steady_same}
use Rattle.sim_sound.proofs.Lists.{append_at, append_before, if_false, no_some, old_or_new, one_longer, other_numbers, same_some, set_len, set_other, set_same, there_is}

-- ---- an instance that is there

instance_if : (z it : Instance (List Held)) (b : Bool) → z.given_back ≡ b → (if b then None else Some z) ≡ Some it → (z ≡ it) × (z.given_back ≡ false)
instance_if z it true e h = absurd (cc)
instance_if z it false e h = (cc, e)

pub instance_there : (o : Option (Instance (List Held))) (it : Instance (List Held)) → instances.unless_given o ≡ Some it → (o ≡ Some it) × (it.given_back ≡ false)
instance_there None it h = absurd (cc)
instance_there (Some z) it h = let x = instance_if z it z.given_back refl h in (ap Some x.0, subst (λ y. y.given_back ≡ false) x.0 x.1)

pub instance_lives : (o : Option (Instance (List Held))) (it : Instance (List Held)) → o ≡ Some it → it.given_back ≡ false → instances.unless_given o ≡ Some it
instance_lives o it e f = ap instances.unless_given e ∙ if_false it.given_back None (Some it) f

-- what is given back at its end is there
pub ending_there : (m : Instances) (j : ℕ) → is_given_at_end m j ≡ true → (x : Instance (List Held)) × (live m j ≡ Some x)
ending_there m j e = by_live (live m j) refl e
  where
    by_live : (x : Option (Instance (List Held))) → live m j ≡ x → is_given_at_end m j ≡ true → (x : Instance (List Held)) × (live m j ≡ Some x)
    by_live None is e = let no : is_given_at_end m j ≡ false = ap ends_in is in absurd (cc)
    by_live (Some x) is e = (x, is)

-- it does not stay
pub stays_not : (m : Instances) (i j : ℕ) → is_given_at_end m i ≡ true → Stays m j → j ≢ i
stays_not m i j ends p same =
    let no : is_given_at_end m j ≡ false = ap ends_in p.lives ∙ p.stays in
    let yes : is_given_at_end m j ≡ true = ap (is_given_at_end m) same ∙ ends in
    cc

-- ---- what an instance knows

-- what is there for as long as what is there for as long as another
beneath_then : (o : AllArrays) (m : Instances) (i e w : ℕ) → Beneath o m i e → Beneath o m e w → Beneath o m i w
beneath_then o m _ e w at_itself b = b
beneath_then o m i e w (one_lower {k = k} ends on a) b = one_lower ends on (beneath_then o m k e w a b)

staying_beneath : (o : AllArrays) (m : Instances) (e w : ℕ) → Stays m e → Beneath o m e w → Stays m w
staying_beneath o m e _ a at_itself = a
staying_beneath o m e w a (one_lower ends on b) = absurd (stays_not m e e ends a refl)

pub near_stays : (o : AllArrays) (m : Instances) (e w : ℕ) → Stays m e → Near o m e w → Stays m w
near_stays o m e w a (near_staying x) = x
near_stays o m e w a (near_below b) = staying_beneath o m e w a b

pub near_then : (o : AllArrays) (m : Instances) (i e w : ℕ) → Near o m i e → Near o m e w → Near o m i w
near_then o m i e w a (near_staying x) = near_staying x
near_then o m i e w (near_staying x) (near_below b) = near_staying (staying_beneath o m e w x b)
near_then o m i e w (near_below a) (near_below b) = near_below (beneath_then o m i e w a b)

outward_then : (m : Instances) (i e w : ℕ) → Outward m i e → Outward m e w → Outward m i w
outward_then m _ e w no_further b = b
outward_then m i e w (one_out {f = f} lives is a) b = one_out lives is (outward_then m f e w a b)

-- the encloser is there for as long as the instance
pub encloser_near : (s : Source) (o : AllArrays) (m : Instances) (j t f : ℕ) (out : Option ℕ) → Enclosed s o m j t out → out ≡ Some f → Near o m j f
encloser_near s o m j t f out (alone is around) e = absurd (no_some out f is e)
encloser_near s o m j t f out (within {e = k} is around less near whole) e = subst (Near o m j) (same_some out k f is e) near

outward_near : (s : Source) (o : AllArrays) (m : Instances) → StoreFine s o m → (j e : ℕ) → Outward m j e → Near o m j e
outward_near s o m store j _ no_further = near_below at_itself
outward_near s o m store j e (one_out {f = f} {x = x} lives is a) = near_then o m j f e (encloser_near s o m j x.text f x.encloser (store.instances j x lives).out is) (outward_near s o m store f e a)

-- and so is what it knows
pub knows_near : (s : Source) (o : AllArrays) (m : Instances) → StoreFine s o m → (j e : ℕ) → Knows m j e → Near o m j e
knows_near s o m store j e (staying a) = near_staying a
knows_near s o m store j e (outward a) = outward_near s o m store j e a

-- what is known to what is known
pub knows_then : (s : Source) (o : AllArrays) (m : Instances) → StoreFine s o m → (i e w : ℕ) → Knows m i e → Knows m e w → Knows m i w
knows_then s o m store i e w a (staying x) = staying x
knows_then s o m store i e w (staying x) (outward b) = staying (near_stays o m e w x (outward_near s o m store e w b))
knows_then s o m store i e w (outward a) (outward b) = outward (outward_then m i e w a b)

-- itself
pub knows_itself : (m : Instances) (j : ℕ) (x : Instance (List Held)) → live m j ≡ Some x → Knows m j j
knows_itself m j x lives = outward no_further

-- its encloser
pub knows_encloser : (m : Instances) (j f : ℕ) (x : Instance (List Held)) → live m j ≡ Some x → x.encloser ≡ Some f → Knows m j f
knows_encloser m j f x lives is = outward (one_out lives is no_further)

-- what stays knows of no more than what stays
pub knows_staying : (s : Source) (o : AllArrays) (m : Instances) → StoreFine s o m → (j e : ℕ) → Stays m j → Knows m j e → Stays m e
knows_staying s o m store j e a k = near_stays o m j e a (knows_near s o m store j e k)

-- ---- a step that leaves all instances where they stand

pub record SameOnes (m n : Instances) : Type 0 where
  pub count : length n.instances ≡ length m.instances
  pub ended : (j : ℕ) → is_given_at_end n j ≡ true → is_given_at_end m j ≡ true
  pub enclosers : (j : ℕ) → encloser_of n j ≡ encloser_of m j
  pub standings : n.standings ≡ m.standings

pub same_ones : (m : Instances) → SameOnes m m
same_ones m = record { count = refl; ended = λ j e. e; enclosers = λ j. refl; standings = refl }

pub placed_on : (m n : Instances) (chain : List Activation) → SameOnes m n → Placed m chain → Placed n chain
placed_on m n chain same a =
    let counted : (j : ℕ) → places n chain j ≡ places m chain j = λ j. ap (λ z. times_on owner j chain + over_kept (times_on owner j) z) same.standings in
    record {
      once = λ j. (let is = counted j in let less = a.once j in omega (arith, is, less));
      made = λ j less. counted j ∙ a.made j (subst (λ z. z ≤ j) same.count less);
      ended = λ j e. counted j ∙ a.ended j (ap (λ z. slice_get z j) (sym same.standings) ∙ e);
      all = λ j e. (let is = counted j in let there = a.all j (same.ended j e) in omega (arith, is, there));
      as_many = ap length same.standings ∙ a.as_many ∙ sym same.count;
    }

pub headed_same : (m n : Instances) (chain : List Activation) → SameOnes m n → Headed m chain → Headed n chain
headed_same m n chain same h =
    headed_on m n chain chain same.standings (λ x e. heads_kept m n same.enclosers (λ j. ap (λ z. is_object (slice_index_or z j (NoObject None))) same.standings) x) (λ x y e. le_same (times_above owner x y chain)) h

-- where it stands does not hang on its work and its values in hand
pub placed_as : (m : Instances) (a b : Activation) (rest : List Activation) → owner b ≡ owner a → Placed m (a ∷ rest) → Placed m (b ∷ rest)
placed_as m a b rest same p =
    let counted : (j : ℕ) → places m (b ∷ rest) j ≡ places m (a ∷ rest) j = λ j. ap (λ u. once_if (is_instance j u) + times_on owner j rest + over_kept (times_on owner j) m.standings) same in
    record {
      once = λ j. (let is = counted j in let less = p.once j in omega (arith, is, less));
      made = λ j less. counted j ∙ p.made j less;
      ended = λ j e. counted j ∙ p.ended j e;
      all = λ j e. (let is = counted j in let there = p.all j e in omega (arith, is, there));
      as_many = p.as_many;
    }

-- an evaluation comes to stand on a chain, or ends
evaluation_counted : (m : Instances) (a : Activation) (rest : List Activation) → owner a ≡ None → (j : ℕ) → places m (a ∷ rest) j ≡ places m rest j
evaluation_counted m a rest own j = let none : once_if (is_instance j (owner a)) ≡ 0 = ap (λ u. once_if (is_instance j u)) own in omega (arith, none)

pub placed_with : (m : Instances) (a : Activation) (rest : List Activation) → owner a ≡ None → Placed m rest → Placed m (a ∷ rest)
placed_with m a rest own p = record {
  once = λ j. (let is = evaluation_counted m a rest own j in let less = p.once j in omega (arith, is, less));
  made = λ j less. evaluation_counted m a rest own j ∙ p.made j less;
  ended = λ j e. evaluation_counted m a rest own j ∙ p.ended j e;
  all = λ j e. (let is = evaluation_counted m a rest own j in let there = p.all j e in omega (arith, is, there));
  as_many = p.as_many;
}

pub placed_without : (m : Instances) (a : Activation) (rest : List Activation) → owner a ≡ None → Placed m (a ∷ rest) → Placed m rest
placed_without m a rest own p = record {
  once = λ j. (let is = evaluation_counted m a rest own j in let less = p.once j in omega (arith, is, less));
  made = λ j less. sym (evaluation_counted m a rest own j) ∙ p.made j less;
  ended = λ j e. sym (evaluation_counted m a rest own j) ∙ p.ended j e;
  all = λ j e. (let is = evaluation_counted m a rest own j in let there = p.all j e in omega (arith, is, there));
  as_many = p.as_many;
}

-- what is on top operates
pub operates_first : (b : List (Option ℕ)) (q : Seat) (m : Instances) (a : Activation) (rest : List Activation) → a.instance < length m.instances → ((j : ℕ) → owner a ≡ Some j → StandsOn b m j (first_of rest)) → seat_on (owner a) (footing None rest) ≡ Some q → Placed m (a ∷ rest) → Headed m (a ∷ rest) → Operates b q m a.instance rest
operates_first b q m a rest before on seated p h =
    let same = seat_idle a (footing None rest) q seated in
    record { before = before; stands_on = λ j is. on j (sym same ∙ is); seated = ap (λ u. seat_on u (footing None rest)) same ∙ seated; placed = placed_as m a (idle q a.instance) rest same p; headed = headed_as m a (idle q a.instance) rest same h }

pub operates_on : (b : List (Option ℕ)) (q : Seat) (m n : Instances) (i : ℕ) (rest : List Activation) → SameOnes m n → Operates b q m i rest → Operates b q n i rest
operates_on b q m n i rest same top = record { before = subst (λ z. i < z) (sym same.count) top.before; stands_on = λ j is ends. top.stands_on j is (same.ended j ends); seated = top.seated; placed = placed_on m n _ same top.placed; headed = headed_same m n _ same top.headed }

-- ---- instances alone

-- all are still there, with the same arrays, and what was noted
module _ (s : Source) (o o' : AllArrays) (m n : Instances) (real : o'.real ≡ o.real) (sights : o'.sights ≡ o.sights) (noted : (j : ℕ) (x : Option ℕ) → slice_get o.beneath j ≡ Some x → slice_get o'.beneath j ≡ Some x) (there : (j : ℕ) (x : Instance (List Held)) → live m j ≡ Some x → StillThere n j x) where
  pub still_stays : (j : ℕ) → Stays m j → Stays n j
  still_stays j a = let y = there j a.now a.lives in record { now = y.now; lives = y.lives; stays = flags_grown a.now y.now y.grown a.stays }

  still_lives : (a : ℕ) (it : OneArray) → unless_given (slice_get o.real a) ≡ Some it → unless_given (slice_get o'.real a) ≡ Some it
  still_lives a it e = ap (λ z. unless_given (slice_get z a)) real ∙ e

  still_known : (a : ℕ) (x : Sight) → slice_get o.sights a ≡ Some x → slice_get o'.sights a ≡ Some x
  still_known a x e = ap (λ z. slice_get z a) sights ∙ e

  pub still_copies : AllCopies o o'
  still_copies q j d e h a less f = record { it = f.it; lives = still_lives a f.it f.lives; hidden = still_known a _ f.hidden; owned = f.owned; count = f.count }

  module _ (nears : (j e : ℕ) → Near o m j e → Near o' n j e) where
    still_array : (j : ℕ) (h : Holds) (a : ℕ) → ArrayFine o m j h a → ArrayFine o' n j h a
    still_array j h a f = record { it = f.it; lives = still_lives a f.it f.lives; known = still_known a _ f.known; owned = ⊎_elim (λ k. inl k) (λ k. inr (nears j (f.it).owner k)) f.owned; count = f.count }

    pub later_nears : ((j : ℕ) → ObjectStands m j → ObjectStands n j) → ((j : ℕ) → NoObjectStands m j → NoObjectStands n j) → Later s o m o' n All
    unfolding still_array
    later_nears objects nobody = record {
      arrays = λ j h a ok f. still_array j h a f;
      elements = λ j h a i ok f. record { array = still_array j h a f.array; there = f.there };
      kept = λ h a f. record { it = f.it; lives = still_lives a f.it f.lives; known = still_known a _ f.known; keeps = f.keeps; count = f.count };
      there = λ j x ok lives. there j x lives;
      stays = λ j a. tt;
      apart = λ j e a b. tt;
      near = λ j e a b. tt;
      nears = λ j e ok a. nears j e a;
      beneath = noted;
      objects = objects;
      nobody = nobody;
    }

  -- where all are given back at their end as before
  module _ (ends : (j : ℕ) → is_given_at_end m j ≡ true → is_given_at_end n j ≡ true) where
    still_beneath : (j e : ℕ) → Beneath o m j e → Beneath o' n j e
    still_beneath j _ at_itself = at_itself
    still_beneath j e (one_lower {k = k} passing on a) = one_lower (ends j passing) (noted j (Some k) on) (still_beneath k e a)

    still_near : (j e : ℕ) → Near o m j e → Near o' n j e
    still_near j e (near_staying a) = near_staying (still_stays e a)
    still_near j e (near_below a) = near_below (still_beneath j e a)

    pub later_instances : ((j : ℕ) → ObjectStands m j → ObjectStands n j) → ((j : ℕ) → NoObjectStands m j → NoObjectStands n j) → Later s o m o' n All
    later_instances objects nobody = later_nears still_near objects nobody

-- what is looked at from another seat
pub later_there : (s : Source) (o : AllArrays) (q : Seat) (m : Instances) → Later s o m (at_seat o q) m All
later_there s o q m = later_instances s o (at_seat o q) m m refl refl (λ j x e. e) (λ j x lives. record { now = x; lives = lives; grown = as_it_was x }) (λ j a. a) (λ j a. a) (λ j a. a)

-- ---- cells that are changed

module _ (s : Source) (o : AllArrays) (m : Instances) (e : ℕ) (y : Instance (List Held)) (lives : live m e ≡ Some y) (cells : List Held) (keys : (key : Key) → KeyAmong key (map key_of y.cells) → KeyAmong key (map key_of cells)) (holds : (key : Key) → held key cells ≡ None → held key y.cells ≡ None) where
  abbrev pub other : Instance (List Held)
  other = record y { cells = cells }

  abbrev pub set_in : Instances
  set_in = with_instance m e other

  pub set_lives : live set_in e ≡ Some other
  set_lives =
      let w = instance_there (slice_get m.instances e) y lives in
      instance_lives (slice_get set_in.instances e) other (set_same m.instances e y other w.0) w.1

  elsewhere : (j : ℕ) → j ≢ e → live set_in j ≡ live m j
  elsewhere j differ = ap instances.unless_given (set_other m.instances e j other differ)

  still : (j : ℕ) (x : Instance (List Held)) → live m j ≡ Some x → StillThere set_in j x
  still j x now = ⊎_elim here there (cases_eq j e)
    where
      here : j ≡ e → StillThere set_in j x
      here same =
          let is : y ≡ x = same_some (live m j) y x (ap (live m) same ∙ lives) now in
          record {
            now = other;
            lives = ap (live set_in) same ∙ set_lives;
            grown = subst (λ z. Grown z other) is (record { text = refl; level = refl; encloser = refl; passing = refl; kept = λ k. k; keys = keys; holds = holds });
          }

      there : j ≢ e → StillThere set_in j x
      there differ = record { now = x; lives = elsewhere j differ ∙ now; grown = as_it_was x }

  still_ending : (j : ℕ) → is_given_at_end m j ≡ true → is_given_at_end set_in j ≡ true
  still_ending j a = ⊎_elim (λ same. here same) (λ differ. ap ends_in (elsewhere j differ) ∙ a) (cases_eq j e)
    where
      here : j ≡ e → is_given_at_end set_in j ≡ true
      here same = ap ends_in (ap (live set_in) same ∙ set_lives) ∙ sym (ap ends_in (ap (live m) same ∙ lives)) ∙ a

  pub later_cells : Later s o m o set_in All
  later_cells = later_instances s o o m set_in refl refl (λ j x e. e) still still_ending (λ j a. a) (λ j a. a)

  fine_set : InstanceFine s o m e y → CellsFine s o m e y.text cells → InstanceFine s o set_in e other
  fine_set f fine = record {
    level = f.level;
    solid = f.solid;
    keys = λ u at key a. keys key (f.keys u at key a);
    holds = f.holds;
    cells = cells_later s o m o set_in All later_cells e y.text tt cells fine;
    ends = f.ends;
    origins = λ class u at is. keys Origin (f.origins class u at is);
    out = enclosed_later s o m o set_in All later_cells e y.text y.encloser tt f.out;
  }

  pub store_cells : CellsFine s o m e y.text cells → StoreFine s o m → StoreFine s o set_in
  store_cells fine store = record {
    instances = each;
    elements = λ a i it x p l k at. plain_later s o m o set_in All later_cells (elements_of x) p (store.elements a i it x p l k at);
    kept = kept_all s o m o set_in later_cells refl refl (λ q j d e h a less f. f) store.kept;
    noted = store.noted ∙ sym (set_len m.instances e other);
    members = members_later s o.members m set_in all_still store.members;
    simulations = simulations_later s o.simulations m set_in all_still store.simulations;
  }
    where
      texts : (j : ℕ) (x : Instance (List Held)) → live set_in j ≡ Some x → (z : Instance (List Held)) × (live m j ≡ Some z) × (z.text ≡ x.text) × (z.encloser ≡ x.encloser)
      texts j x now =
          ⊎_elim
          (λ same. let is = same_some (live set_in j) other x (ap (live set_in) same ∙ set_lives) now in (y, ap (live m) same ∙ lives, ap (λ z. z.text) is, ap (λ z. z.encloser) is))
          (λ differ. (x, sym (elsewhere j differ) ∙ now, refl, refl))
          (cases_eq j e)

      all_still : StillAll s m set_in
      all_still = record {
        objects = λ j c a. object_later s o m o set_in All later_cells j c a;
        lasts = λ j u a. lasts_later s o m o set_in All later_cells j u a;
        more = (let n = set_len m.instances e other in omega (arith, n));
        texts = texts;
      }

      each : (j : ℕ) (x : Instance (List Held)) → live set_in j ≡ Some x → InstanceFine s o set_in j x
      each j x now = ⊎_elim here there (cases_eq j e)
        where
          here : j ≡ e → InstanceFine s o set_in j x
          here same =
              let is_x : other ≡ x = same_some (live set_in j) other x (ap (live set_in) same ∙ set_lives) now in
              subst (λ z. InstanceFine s o set_in z x) (sym same) (subst (λ z. InstanceFine s o set_in e z) is_x (fine_set (store.instances e y lives) fine))

          there : j ≢ e → InstanceFine s o set_in j x
          there differ = instance_later s o m o set_in All later_cells j x tt (store.instances j x (sym (elsewhere j differ) ∙ now))

  pub same_cells : SameOnes m set_in
  same_cells = record {
    count = set_len m.instances e other;
    ended = λ j a. ⊎_elim (λ same. here j same a) (λ differ. sym (ap ends_in (elsewhere j differ)) ∙ a) (cases_eq j e);
    enclosers = λ j.
        ⊎_elim
        (λ same. let was = (instance_there (slice_get m.instances e) y lives).0 in ap (λ z. encloser_of set_in z) same ∙ ap (λ z. encloser_in z) (set_same m.instances e y other was) ∙ sym (ap (λ z. encloser_in z) was) ∙ ap (λ z. encloser_of m z) (sym same))
        (λ differ. ap (λ z. encloser_in z) (set_other m.instances e j other differ))
        (cases_eq j e);
    standings = refl;
  }
    where
      here : (j : ℕ) → j ≡ e → is_given_at_end set_in j ≡ true → is_given_at_end m j ≡ true
      here j same a = ap ends_in (ap (live m) same ∙ lives) ∙ sym (ap ends_in (ap (live set_in) same ∙ set_lives)) ∙ a

-- one of them is set
module _ (s : Source) (o : AllArrays) (m : Instances) (e : ℕ) (y : Instance (List Held)) (lives : live m e ≡ Some y) (key : Key) (v : Val) (cells : List Held) (set : held_set key v y.cells ≡ Some cells) where
  set_keys : (k : Key) → KeyAmong k (map key_of y.cells) → KeyAmong k (map key_of cells)
  set_keys k a = subst (KeyAmong k) (sym (keys_set key v y.cells cells set)) a

  set_holds : (k : Key) → held k cells ≡ None → held k y.cells ≡ None
  set_holds k a = held_stays key v k y.cells cells set a

  pub later_cell : Later s o m o (with_instance m e (record y { cells = cells })) All
  later_cell = later_cells s o m e y lives cells set_keys set_holds

  pub store_cell : (h : Holds) → key_holds s y.text key ≡ Some h → ValFine s o m e h v → StoreFine s o m → StoreFine s o (with_instance m e (record y { cells = cells }))
  store_cell h is fine store = store_cells s o m e y lives cells set_keys set_holds (cells_set key v s o m e y.text h is fine y.cells cells set (store.instances e y lives).cells) store

  pub same_cell : SameOnes m (with_instance m e (record y { cells = cells }))
  same_cell = same_cells s o m e y lives cells set_keys set_holds

-- ---- one instance more

-- how an instance begins: as an attached object, or as none
abbrev pub Begins : Standing Activation → Type 0
Begins (NoObject None) = Unit {0}
Begins AttachedObject = Unit {0}
Begins _ = ⊥

pub begins_fine : (s : Source) (o : AllArrays) (m : Instances) (j : ℕ) (z : Standing Activation) → Begins z → StandsFine s o m j z
begins_fine s o m j (NoObject None) a = tt
begins_fine s o m j (NoObject (Some chain)) a = absurd a
begins_fine s o m j AttachedObject a = tt
begins_fine s o m j (DetachedObject chain) a = absurd a
begins_fine s o m j ResumedObject a = absurd a
begins_fine s o m j TerminatedObject a = absurd a

begins_empty : (z : Standing Activation) → Begins z → chain_in z ≡ []
begins_empty (NoObject None) a = refl
begins_empty (NoObject (Some chain)) a = absurd a
begins_empty AttachedObject a = refl
begins_empty (DetachedObject chain) a = absurd a
begins_empty ResumedObject a = absurd a
begins_empty TerminatedObject a = absurd a

begins_living : (z : Standing Activation) → Begins z → z ≡ TerminatedObject → ⊥
begins_living z a e = subst Begins e a

begins_unresumed : (z : Standing Activation) → Begins z → z ≡ ResumedObject → ⊥
begins_unresumed z a e = subst Begins e a

begins_without : (z : Standing Activation) → Begins z → (main : List Activation) → z ≡ NoObject (Some main) → ⊥
begins_without z a main e = subst Begins e a

resumed_more : (xs : List (Standing Activation)) (z : Standing Activation) → Begins z → (j : ℕ) → is_resumed (slice_get (xs ++ z ∷ []) j) ≡ is_resumed (slice_get xs j)
resumed_more [] (NoObject None) a zero = refl
resumed_more [] AttachedObject a zero = refl
resumed_more [] (NoObject (Some chain)) a zero = absurd a
resumed_more [] (DetachedObject chain) a zero = absurd a
resumed_more [] ResumedObject a zero = absurd a
resumed_more [] TerminatedObject a zero = absurd a
resumed_more [] z a (suc j) = refl
resumed_more (x ∷ xs) z a zero = refl
resumed_more (x ∷ xs) z a (suc j) = resumed_more xs z a j

kept_more : (f : List Activation → ℕ) (xs : List (Standing Activation)) (z : Standing Activation) → f (chain_in z) ≡ 0 → over_kept f (xs ++ z ∷ []) ≡ over_kept f xs
kept_more f [] z none = omega (arith, none)
kept_more f (x ∷ xs) z none = let more = kept_more f xs z none in omega (arith, more)

once_at_most : (b : Bool) → once_if b ≤ 1
once_at_most true = omega arith
once_at_most false = omega arith

-- on top of which instance it was entered, and the linkages and the simulation blocks then; and it operates
abbrev pub on_top : AllArrays → (instance : ℕ) → Option ℕ → Memberships → List Simulation → AllArrays
on_top o n u b q = record o { beneath = o.beneath ++ u ∷ []; members = b; simulations = q; seat = own_seat n }

abbrev pub marked : Marks → (instance : ℕ) → Option ℕ → Marks
marked g n u = record g { beneath = g.beneath ++ u ∷ []; seat = own_seat n }

module _ (s : Source) (o : AllArrays) (m : Instances) (y : Instance (List Held)) (z : Standing Activation) (u : Option ℕ) (b : Memberships) (q : List Simulation) where
  abbrev after : Instances
  after = entered m y z

  was_or_is : (j : ℕ) (x : Instance (List Held)) → live after j ≡ Some x → (live m j ≡ Some x) ⊎ ((j ≡ length m.instances) × (y ≡ x))
  was_or_is j x e =
      let w = instance_there (slice_get after.instances j) x e in
      ⊎_elim (λ old. inl (instance_lives (slice_get m.instances j) x old w.1)) (λ new. inr new) (old_or_new m.instances y j x w.0)

  still_noted : (j : ℕ) (x : Option ℕ) → slice_get o.beneath j ≡ Some x → slice_get (on_top o (length m.instances) u b q).beneath j ≡ Some x
  still_noted j x e = append_before o.beneath u j (there_is o.beneath j x e) ∙ e

  still_there : (j : ℕ) (x : Instance (List Held)) → live m j ≡ Some x → StillThere after j x
  still_there j x lives = record { now = x; lives = ap instances.unless_given (append_before m.instances y j (live_less m j x lives)) ∙ lives; grown = as_it_was x }

  still_ending_then : (j : ℕ) → is_given_at_end m j ≡ true → is_given_at_end after j ≡ true
  still_ending_then j e = let x = ending_there m j e in ap ends_in (ap instances.unless_given (append_before m.instances y j (live_less m j x.0 x.1))) ∙ e

  pub later_entered : Later s o m (on_top o (length m.instances) u b q) after All
  later_entered =
      later_instances s o (on_top o (length m.instances) u b q) m after refl refl still_noted still_there still_ending_then
      (λ j a. (a.0, append_before m.standings z j (there_is m.standings j a.0 a.1) ∙ a.1, a.2))
      (λ j a. (a.0, append_before m.standings z j (there_is m.standings j (NoObject a.0) a.1) ∙ a.1))

  pub copies_entered : AllCopies o (on_top o (length m.instances) u b q)
  copies_entered = still_copies s o (on_top o (length m.instances) u b q) m after refl refl still_noted still_there

  pub steady_entered : Begins z → (j : ℕ) → Steady o m (on_top o (length m.instances) u b q) after j
  steady_entered begins j = (refl, resumed_more m.standings z begins j)

  pub store_entered : StoreFine s o m → InstanceFine s (on_top o (length m.instances) u b q) after (length m.instances) y → Begins z → MembersFine s b after → SimulationsFine s q after → StoreFine s (on_top o (length m.instances) u b q) after
  store_entered store f begins members simulations = record {
    instances = λ j x e.
        ⊎_elim
        (λ old. instance_later s o m (on_top o (length m.instances) u b q) after All later_entered j x tt (store.instances j x old))
        (λ new. subst (λ z. InstanceFine s (on_top o (length m.instances) u b q) after z x) (sym new.0) (subst (λ z. InstanceFine s (on_top o (length m.instances) u b q) after (length m.instances) z) new.1 f))
        (was_or_is j x e);
    elements = λ a i it x p l k at. plain_later s o m (on_top o (length m.instances) u b q) after All later_entered (elements_of x) p (store.elements a i it x p l k at);
    kept = λ j x e.
        ⊎_elim
        (λ old. standing_later s o m (on_top o (length m.instances) u b q) after All later_entered AnySeat (λ w i d k ok. copies_entered w i d) (λ i k. steady_entered begins i) j x refl (standing_apart j x) (standing_apart j x) (store.kept j x old))
        (λ new. subst (StandsFine s (on_top o (length m.instances) u b q) after j) new.1 (begins_fine s (on_top o (length m.instances) u b q) after j z begins))
        (old_or_new m.standings z j x e);
    noted = one_longer o.beneath u ∙ ap suc store.noted ∙ sym (one_longer m.instances y);
    members = members;
    simulations = simulations;
  }

  -- one instance more, and the objects are there as before
  pub one_more : OneMore s m after y.text y.encloser
  one_more = record {
    objects = λ j c a. object_later s o m (on_top o (length m.instances) u b q) after All later_entered j c a;
    lasts = λ j c a. lasts_later s o m (on_top o (length m.instances) u b q) after All later_entered j c a;
    count = one_longer m.instances y;
    fresh = λ j x e same. (let less = live_less m j x e in omega (arith, less, same));
    texts = λ j x e. ⊎_elim (λ old. inl old) (λ new. inr (new.0, ap (λ w. w.text) new.1, ap (λ w. w.encloser) new.1)) (was_or_is j x e);
  }

  pub new_standing : (j : ℕ) → j ≡ length m.instances → length m.standings ≡ length m.instances → slice_get after.standings j ≡ Some z
  new_standing j same many = ap (slice_get after.standings) (same ∙ sym many) ∙ append_at m.standings z

  -- the new one knows what the one below it has near
  pub near_new : (i e : ℕ) → StoreFine s o m → u ≡ Some i → is_given_at_end after (length m.instances) ≡ true → Near o m i e → Near (on_top o (length m.instances) u b q) after (length m.instances) e
  near_new i e store is ends near = near_then (on_top o (length m.instances) u b q) after (length m.instances) i e (near_below (one_lower ends (noted_new ∙ ap Some is) at_itself)) (later_entered.nears i e tt near)
    where
      noted_new : slice_get (on_top o (length m.instances) u b q).beneath (length m.instances) ≡ Some u
      noted_new = ap (slice_get (on_top o (length m.instances) u b q).beneath) (sym store.noted) ∙ append_at o.beneath u

  -- the heads of the resumed objects are the same
  there_still : StoreFine s o m → length m.standings ≡ length m.instances → (x : ℕ) → standing_of (parts m []) x ≡ ResumedObject → system_head after x ≡ system_head m x
  there_still store many x e =
      let stays = store.kept x ResumedObject (stands_as m.standings x ResumedObject e (λ q. cc)) in
      heads_same m after (λ p. (w : Instance (List Held)) × (live m p ≡ Some w)) (λ p w. let lt = live_less m p w.0 w.1 in (ap (λ q. encloser_in q) (append_before m.instances y p lt), ap (λ q. is_object q) (more_at m.standings z p (subst (λ q. p < q) (sym many) lt))))
      (λ p q w is. by_out p w.0 q (ap (λ r. encloser_in r) (sym (instance_there (slice_get m.instances p) w.0 w.1).0) ∙ is) (store.instances p w.0 w.1).out) x (stays.now, stays.lives)
    where
      by_out : (p : ℕ) (w : Instance (List Held)) (q : ℕ) → w.encloser ≡ Some q → Enclosed s o m p w.text w.encloser → (v : Instance (List Held)) × (live m q ≡ Some v)
      by_out p w q is (alone none around) = absurd (no_some w.encloser q none is)
      by_out p w q is (within {e = f} out around less near whole) = subst (λ r. (v : Instance (List Held)) × (live m r ≡ Some v)) (same_some w.encloser f q out is) (whole.now, whole.lives)

  headed_entered : (a : Activation) (chain : List Activation) → StoreFine s o m → length m.standings ≡ length m.instances → (0 < length m.standings) ⊎ (z ≡ NoObject None) → Begins z → Headed m chain → Headed after (a ∷ chain)
  headed_entered a chain store many first begins h = record {
    outer = more_first m.standings z first h.outer;
    resumed = λ x e.
        (let was = more_old m.standings z ResumedObject x (begins_unresumed z begins) e in
        let p = h.resumed x was in
        let head = there_still store many x was in
        let w = system_head m x in
        let above : 0 < times_above owner x w chain + over_kept (times_above owner x w) m.standings = p.above in
        let more = kept_more (times_above owner x w) m.standings z (ap (times_above owner x w) (begins_empty z begins)) in
        record {
          above = subst (λ q. 0 < times_above_in owner x q (parts after (a ∷ chain))) (sym head) (omega (arith, above, more));
          main = p.main;
          keeps = ap (λ q. slice_index_or after.standings q (NoObject None)) head ∙ more_new m.standings z (NoObject (Some p.main)) w (λ q. cc) p.keeps;
        });
    main = λ x main e.
        (let r = h.main x main (more_old m.standings z (NoObject (Some main)) x (begins_without z begins main) e) in
        record { object = r.object; resumed = more_new m.standings z ResumedObject r.object (λ q. cc) r.resumed; its_head = there_still store many r.object r.resumed ∙ r.its_head });
  }

  pub operates_entered : (chain : List Activation) → u ≡ first_of chain → StoreFine s o m → Placed m chain → Headed m chain → (0 < length m.standings) ⊎ (z ≡ NoObject None) → Begins z → Operates (on_top o (length m.instances) u b q).beneath (own_seat (length m.instances)) after (length m.instances) chain
  operates_entered chain is store a headed first begins =
      let noted = store.noted in
      let n = one_longer m.instances y in
      let counted : (j : ℕ) → places after (record { instance = length m.instances; work = []; values = [] } ∷ chain) j ≡ once_if (length m.instances == j) + places m chain j =
      λ j. (let more = kept_more (times_on owner j) m.standings z (ap (times_on owner j) (begins_empty z begins)) in omega (arith, more)) in
      record {
        before = omega (arith, n);
        stands_on = λ j at ends. subst (λ w. slice_get (on_top o (length m.instances) u b q).beneath w ≡ Some (first_of chain)) (same_some (Some (length m.instances)) (length m.instances) j refl at) (ap (slice_get (on_top o (length m.instances) u b q).beneath) (sym noted) ∙ append_at o.beneath u ∙ ap Some is);
        seated = refl;
        placed = record {
          once = λ j.
              (let c = counted j in
              ⊎_elim
              (λ same. let none = a.made j (omega (arith, same)) in let one = once_at_most (length m.instances == j) in omega (arith, c, none, one))
              (λ differ. let none = elsewhere_none (length m.instances) j differ in let once = a.once j in omega (arith, c, none, once))
              (cases_eq (length m.instances) j));
          made = λ j less. (let c = counted j in let none = elsewhere_none (length m.instances) j (λ same. omega (arith, same, less, n)) in let unmade = a.made j (omega (arith, less, n)) in omega (arith, c, none, unmade));
          ended = λ j e.
              ⊎_elim
              (λ old. let c = counted j in let lt = there_is m.standings j TerminatedObject old in let many = a.as_many in let none = elsewhere_none (length m.instances) j (λ same. omega (arith, same, lt, many)) in let gone = a.ended j old in omega (arith, c, none, gone))
              (λ new. absurd (begins_living z begins new.1))
              (old_or_new m.standings z j TerminatedObject e);
          all = λ j e.
              (let c = counted j in
              let x = ending_there after j e in
              ⊎_elim
              (λ old. let there = a.all j (ap ends_in old ∙ sym (ap ends_in x.1) ∙ e) in omega (arith, c, there))
              (λ new. let one = here_once (length m.instances) j (sym new.0) in omega (arith, c, one))
              (was_or_is j x.0 x.1));
          as_many = one_longer m.standings z ∙ ap suc a.as_many ∙ sym (one_longer m.instances y);
        };
        headed = headed_entered (record { instance = length m.instances; work = []; values = [] }) chain store a.as_many first begins headed;
      }

-- ---- an instance that ends

goes_not : (i : ℕ) (x : OneArray) → x.owner ≢ i → goes_with i x ≡ false
goes_not i x differ = ap (λ b. b && not x.kept && not x.given_back) (other_numbers x.owner i differ)

and_false : (b c : Bool) → (b && false && c) ≡ false
and_false true c = refl
and_false false c = refl

goes_kept : (i : ℕ) (x : OneArray) → x.kept ≡ true → goes_with i x ≡ false
goes_kept i x e = ap (λ b. (x.owner == i) && not b && not x.given_back) e ∙ and_false (x.owner == i) (not x.given_back)

given_lives : (o : List OneArray) (i a : ℕ) (it : OneArray) → unless_given (slice_get o a) ≡ Some it → goes_with i it ≡ false → unless_given (slice_get (given_with i o) a) ≡ Some it
given_lives [] i a it e apart = absurd (cc)
given_lives (x ∷ o) i zero it e apart =
    let is : x ≡ it = same_some (Some x) x it refl (array_there (Some x) it e).0 in
    ap (λ b. unless_given (Some (if b then record x { given_back = true } else x))) (ap (goes_with i) is ∙ apart) ∙ e
given_lives (x ∷ o) i (suc a) it e apart = given_lives o i a it e apart

-- what lives after that lived before
given_lived : (o : List OneArray) (i a : ℕ) (it : OneArray) → unless_given (slice_get (given_with i o) a) ≡ Some it → unless_given (slice_get o a) ≡ Some it
given_lived [] i a it e = e
given_lived (x ∷ o) i zero it e = by_flag (goes_with i x) e
  where
    by_flag : (b : Bool) → unless_given (Some (if b then record x { given_back = true } else x)) ≡ Some it → unless_given (Some x) ≡ Some it
    by_flag true e = absurd (cc)
    by_flag false e = e
given_lived (x ∷ o) i (suc a) it e = given_lived o i a it e

abbrev given_view : ℕ → AllArrays → AllArrays
given_view i o = record o { real = given_with i o.real }

with_len : (i : ℕ) (o : List OneArray) → length (given_with i o) ≡ length o
with_len i [] = refl
with_len i (x ∷ o) = ap suc (with_len i o)

given_other : (m : Instances) (i j : ℕ) (x : Option (Instance (List Held))) → j ≢ i → slice_get (given_in m i x).instances j ≡ slice_get m.instances j
given_other m i j None differ = refl
given_other m i j (Some x) differ = set_other m.instances i j (record x { given_back = true }) differ

given_len : (m : Instances) (i : ℕ) (x : Option (Instance (List Held))) → length (given_in m i x).instances ≡ length m.instances
given_len m i None = refl
given_len m i (Some x) = set_len m.instances i (record x { given_back = true })

kept_given : (m : Instances) (i : ℕ) (y : Option (Instance (List Held))) → (given_in m i y).standings ≡ m.standings
kept_given m i None = refl
kept_given m i (Some y) = refl

given_gone : (m : Instances) (i : ℕ) (y : Option (Instance (List Held))) → slice_get m.instances i ≡ y → live (given_in m i y) i ≡ None
given_gone m i None e = ap instances.unless_given e
given_gone m i (Some y) e = ap instances.unless_given (set_same m.instances i y (record y { given_back = true }) e)

-- An instance is given back, on which none was entered that is not at its end.
module _ (s : Source) (o : AllArrays) (m : Instances) (i : ℕ) (store : StoreFine s o m) (ends : is_given_at_end m i ≡ true) (alone_there : (j : ℕ) → is_given_at_end m j ≡ true → slice_get o.beneath j ≡ Some (Some i) → j ≢ i → ⊥) where
  abbrev Apart : ℕ → Type 0
  Apart j = j ≢ i

  beneath_apart : (j e : ℕ) → Apart j → Beneath o m j e → Apart e
  beneath_apart j _ ok at_itself = ok
  beneath_apart j e ok (one_lower {k = k} passing on a) = beneath_apart k e (λ same. alone_there j passing (on ∙ ap (λ z. Some (Some z)) same) ok) a

  near_apart : (j e : ℕ) → Apart j → Near o m j e → Apart e
  near_apart j e ok (near_staying a) = stays_not m i e ends a
  near_apart j e ok (near_below a) = beneath_apart j e ok a

  given_live : (j : ℕ) → j ≢ i → live (given m i) j ≡ live m j
  given_live j differ = ap instances.unless_given (given_other m i j (slice_get m.instances i) differ)

  given_stays : (j : ℕ) → Stays m j → Stays (given m i) j
  given_stays j a = record { now = a.now; lives = given_live j (stays_not m i j ends a) ∙ a.lives; stays = a.stays }

  given_beneath : (j e : ℕ) → Apart j → Beneath o m j e → Beneath (given_view i o) (given m i) j e
  given_beneath j _ ok at_itself = at_itself
  given_beneath j e ok (one_lower {k = k} passing on a) = one_lower (ap ends_in (given_live j ok) ∙ passing) on (given_beneath k e (beneath_apart j k ok (one_lower passing on at_itself)) a)

  given_near : (j e : ℕ) → Apart j → Near o m j e → Near (given_view i o) (given m i) j e
  given_near j e ok (near_staying a) = near_staying (given_stays e a)
  given_near j e ok (near_below a) = near_below (given_beneath j e ok a)

  stays_real : (j : ℕ) (it : OneArray) → Apart j → (it.kept ≡ true) ⊎ Near o m j it.owner → goes_with i it ≡ false
  stays_real j it ok w = ⊎_elim (λ k. goes_kept i it k) (λ k. goes_not i it (near_apart j it.owner ok k)) w

  array_given : (j : ℕ) (h : Holds) (a : ℕ) → Apart j → ArrayFine o m j h a → ArrayFine (given_view i o) (given m i) j h a
  array_given j h a ok f = record {
    it = f.it;
    lives = given_lives o.real i a f.it f.lives (stays_real j f.it ok f.owned);
    known = f.known;
    owned = ⊎_elim (λ k. inl k) (λ k. inr (given_near j (f.it).owner ok k)) f.owned;
    count = f.count;
  }

  pub later_given : Later s o m (given_view i o) (given m i) Apart
  unfolding array_given
  later_given = record {
    arrays = λ j h a ok f. array_given j h a ok f;
    elements = λ j h a n ok f. record { array = array_given j h a ok f.array; there = f.there };
    kept = λ h a f. record { it = f.it; lives = given_lives o.real i a f.it f.lives (goes_kept i f.it f.keeps); known = f.known; keeps = f.keeps; count = f.count };
    there = λ j x ok lives. record { now = x; lives = given_live j ok ∙ lives; grown = as_it_was x };
    stays = λ j a. stays_not m i j ends a;
    apart = λ j e ok k. near_apart j e ok (knows_near s o m store j e k);
    near = near_apart;
    nears = given_near;
    beneath = λ j x e. e;
    objects = λ j a. (a.0, ap (λ z. slice_get z j) (kept_given m i (slice_get m.instances i)) ∙ a.1, a.2);
    nobody = λ j a. (a.0, ap (λ z. slice_get z j) (kept_given m i (slice_get m.instances i)) ∙ a.1);
  }

  -- a copy in hand of another instance is not given back
  pub copies_given : (q : Seat) (j d : ℕ) → j ≢ i → Copies (at_seat o q) (at_seat (given_view i o) q) j d
  copies_given q j d differ e h a less f = record { it = f.it; lives = given_lives o.real i a f.it f.lives (goes_not i f.it (λ same. differ (sym f.owned ∙ same))); hidden = f.hidden; owned = f.owned; count = f.count }

  live_given : (j : ℕ) (x : Instance (List Held)) → live (given m i) j ≡ Some x → (j ≢ i) × (live m j ≡ Some x)
  live_given j x e =
      let differ : j ≢ i = λ same. no_some (live (given m i) i) x (given_gone m i (slice_get m.instances i) refl) (ap (live (given m i)) (sym same) ∙ e) in
      (differ, sym (given_live j differ) ∙ e)

  -- no chain that is kept has it on
  pub store_given : AllKeptSeats (λ q. q.owner ≢ i) m → StoreFine s (given_view i o) (given m i)
  store_given others = record {
    instances = λ j x e. (let was = live_given j x e in instance_later s o m (given_view i o) (given m i) Apart later_given j x was.0 (store.instances j x was.1));
    elements = λ a k it x p l is at. plain_later s o m (given_view i o) (given m i) Apart later_given (elements_of x) p (store.elements a k it x p (given_lived o.real i a it l) is at);
    kept = kept_later s o m (given_view i o) (given m i) Apart later_given AnySeat (λ q j d k ok. copies_given q j d ok) (λ j k. steady_same o m (given_view i o) (given m i) (kept_given m i (slice_get m.instances i)) refl j) (kept_given m i (slice_get m.instances i)) refl others (λ j x e. standing_apart j x) store.kept;
    noted = store.noted ∙ sym (given_len m i (slice_get m.instances i));
    members = members_later s o.members m (given m i) all_still store.members;
    simulations = simulations_later s o.simulations m (given m i) all_still store.simulations;
  }
    where
      all_still : StillAll s m (given m i)
      all_still = record {
        objects = λ j c a. object_later s o m (given_view i o) (given m i) Apart later_given j c a;
        lasts = λ j u a. lasts_later s o m (given_view i o) (given m i) Apart later_given j u a;
        more = (let n = given_len m i (slice_get m.instances i) in omega (arith, n));
        texts = λ j x e. (let was = live_given j x e in (x, was.1, refl, refl));
      }

  pub placed_given : (b : List (Option ℕ)) (q : Seat) (rest : List Activation) → Operates b q m i rest → q.evaluations ≡ 0 → Placed (given m i) rest
  placed_given b q rest top own =
      let a = top.placed in
      let same = kept_given m i (slice_get m.instances i) in
      let many = given_len m i (slice_get m.instances i) in
      let counted : (j : ℕ) → places (given m i) rest j ≡ places m rest j = λ j. ap (λ z. times_on owner j rest + over_kept (times_on owner j) z) same in
      record {
        once = λ j. (let c = counted j in let once = a.once j in omega (arith, c, once));
        made = λ j less. (let c = counted j in let none = a.made j (omega (arith, many, less)) in omega (arith, c, none));
        ended = λ j e. (let c = counted j in let none = a.ended j (ap (λ z. slice_get z j) (sym same) ∙ e) in omega (arith, c, none));
        all = λ j e.
            (let x = ending_there (given m i) j e in
            let was = live_given j x.0 x.1 in
            let c = counted j in
            let none = top_apart b q m i rest top own j (λ is. was.0 (sym is)) in
            let there = a.all j (ap ends_in was.1 ∙ sym (ap ends_in x.1) ∙ e) in
            omega (arith, c, none, there));
        as_many = ap length same ∙ a.as_many ∙ sym many;
      }

-- ---- the store that an instance leaves, whether it is given back or not

pub record Left (s : Source) (g : Marks) (o : World) (m : Instances) (i : ℕ) (rest : List Activation) (o' : World) (m' : Instances) : Type 0 where
  pub later : Later s (see g o) m (see g o') m' (λ j. is_given_at_end m i ≡ true → j ≢ i)
  pub copies : (q : Seat) (j d : ℕ) → (is_given_at_end m i ≡ true → j ≢ i) → Copies (at_seat (see g o) q) (at_seat (see g o') q) j d
  pub steady : (j : ℕ) → Steady (see g o) m (see g o') m' j
  pub store : StoreFine s (see g o') m'
  pub placed : Placed m' rest
  pub headed : Headed m' rest
  pub long : length o'.arrays ≡ length o.arrays
  pub count : length m'.instances ≡ length m.instances

-- where the premise is known to hold
later_sure : (s : Source) (o : AllArrays) (m : Instances) (o' : AllArrays) (m' : Instances) (P : Type 0) (A : ℕ → Type 0) → P → Later s o m o' m' A → Later s o m o' m' (λ j. P → A j)
later_sure s o m o' m' P A p e = record {
  arrays = λ j h a ok f. e.arrays j h a (ok p) f;
  elements = λ j h a n ok f. e.elements j h a n (ok p) f;
  kept = e.kept;
  there = λ j x ok lives. e.there j x (ok p) lives;
  stays = λ j a q. e.stays j a;
  apart = λ j k ok a q. e.apart j k (ok p) a;
  near = λ j k ok a q. e.near j k (ok p) a;
  nears = λ j k ok a. e.nears j k (ok p) a;
  beneath = e.beneath;
  objects = e.objects;
  nobody = e.nobody;
}

-- and where nothing is given back
later_never : (s : Source) (o : AllArrays) (m : Instances) (P : Type 0) (A : ℕ → Type 0) → (P → ⊥) → Later s o m o m (λ j. P → A j)
later_never s o m P A never = record {
  arrays = λ j h a ok f. f;
  elements = λ j h a n ok f. f;
  kept = λ h a f. f;
  there = λ j x ok lives. record { now = x; lives = lives; grown = as_it_was x };
  stays = λ j a q. absurd (never q);
  apart = λ j k ok a q. absurd (never q);
  near = λ j k ok a q. absurd (never q);
  nears = λ j k ok a. a;
  beneath = λ j x a. a;
  objects = λ j a. a;
  nobody = λ j a. a;
}

-- what stays where it is leaves the rest on the chain
placed_left : (b : List (Option ℕ)) (q : Seat) (m : Instances) (i : ℕ) (rest : List Activation) → is_given_at_end m i ≡ false → Operates b q m i rest → q.evaluations ≡ 0 → Placed m rest
placed_left b q m i rest stays top own =
    let a = top.placed in
    record {
      once = λ j. (let once = a.once j in omega (arith, once));
      made = λ j less. (let none = a.made j less in omega (arith, none));
      ended = λ j e. (let none = a.ended j e in omega (arith, none));
      all = λ j e. (let none = top_apart b q m i rest top own j (λ same. let no : is_given_at_end m j ≡ false = ap (is_given_at_end m) (sym same) ∙ stays in cc) in let there = a.all j e in omega (arith, none, there));
      as_many = a.as_many;
    }

pub left_by : (s : Source) (g : Marks) (o : World) (m : Instances) (i : ℕ) (rest : List Activation) → StoreFine s (see g o) m → Operates g.beneath g.seat m i rest → (g.seat).evaluations ≡ 0 → NoObjectStands m i → (v : Waits) → ChainFine s (see g o) m rest v → Left s g o m i rest (world_left s i o m) (instances_left i m)
unfolding giving_back
left_by s g o m i rest store top own nobody v c = by_flag (is_given_at_end m i) refl
  where
    alone_there : (j : ℕ) → is_given_at_end m j ≡ true → slice_get g.beneath j ≡ Some (Some i) → j ≢ i → ⊥
    alone_there j e on differ = free s (see g o) m i j e on g.seat rest store top own v c differ

    back : World
    back = giving_back o i (words_of_text s (text_of m i) (text s (text_of m i)))

    by_flag : (b : Bool) → is_given_at_end m i ≡ b → Left s g o m i rest (if b then back else o) (if b then given m i else m)
    by_flag true e = record {
      later = later_sure s (see g o) m (see g back) (given m i) (is_given_at_end m i ≡ true) (λ j. j ≢ i) e (later_given s (see g o) m i store e alone_there);
      copies = λ q j d differ. copies_given s (see g o) m i store e alone_there q j d (differ e);
      steady = λ j. steady_same (see g o) m (see g back) (given m i) (kept_given m i (slice_get m.instances i)) refl j;
      store = store_given s (see g o) m i store e alone_there (apart_kept g.beneath g.seat m i rest top own);
      placed = placed_given s (see g o) m i store e alone_there g.beneath g.seat rest top own;
      headed = headed_left m (given m i) i (idle g.seat i) rest (own_top g.beneath g.seat m i rest top own) (kept_given m i (slice_get m.instances i)) (given_encloser m i (slice_get m.instances i) refl) nobody.0 nobody.1 top.headed;
      long = with_len i o.arrays;
      count = given_len m i (slice_get m.instances i);
    }
    by_flag false e = record {
      later = later_never s (see g o) m (is_given_at_end m i ≡ true) (λ j. j ≢ i) (λ yes. cc);
      copies = λ q j d differ k h a lt f. f;
      steady = λ j. (refl, refl);
      store = store;
      placed = placed_left g.beneath g.seat m i rest e top own;
      headed = headed_left m m i (idle g.seat i) rest (own_top g.beneath g.seat m i rest top own) refl (λ j. refl) nobody.0 nobody.1 top.headed;
      long = refl;
      count = refl;
    }

-- one instance stands otherwise
pub kept_set : (f : List Activation → ℕ) (xs : List (Standing Activation)) (i : ℕ) (x z : Standing Activation) → slice_get xs i ≡ Some x → over_kept f (slice_set xs i z) + f (chain_in x) ≡ over_kept f xs + f (chain_in z)
kept_set f [] i x z e = absurd (cc)
kept_set f (y ∷ xs) zero x z e = let same : f (chain_in y) ≡ f (chain_in x) = ap (λ q. f (chain_in q)) (same_some (Some y) y x refl e) in omega (arith, same)
kept_set f (y ∷ xs) (suc i) x z e = let more = kept_set f xs i x z e in omega (arith, more)
