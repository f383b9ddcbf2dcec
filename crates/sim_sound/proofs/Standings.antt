-- An instance stands otherwise than before: an object lets go, is called or resumed, or ends; a system head keeps its main chain, or lets it go on.
use Rattle.std.proofs.Common.{◌≡◌, ◌≢◌, ◌<◌, ◌≤◌, ◌+◌, ℕ, true, false, List, [], ◌∷◌, ◌++◌, length, Option, Some, None, ⊎_elim, refl, sym, ap, ◌∙◌, subst, arith}
use Rattle.std.proofs.lemmas.Bool.{cases_eq}
use Rattle.std.specs.Prelude.{◌==◌, if◌then◌else◌, slice_get, slice_set}
use Rattle.sim_base.specs.declared.numbering.DeclNo.{DeclNo}
use Rattle.sim_chains.specs.Chains.{outermost, times_on}
use Rattle.sim_chains.specs.Components.{AttachedObject, DetachedObject, NoObject, ResumedObject, Standing, TerminatedObject}
use Rattle.sim_chains.specs.WellFormed.{chain_in, is_object, over_kept}
use Rattle.sim_chains.proofs.Counts.{outermost-append, times-append}
use Rattle.sim_scope.specs.Source.{Source}
use Rattle.sim_code.specs.Arrays.{unless_given}
use Rattle.sim_code.specs.Instances.{is_given_at_end, is_object_at}
use Rattle.sim_meaning.specs.Pending.{Activation, Do, EndBlock, EndEvaluation, EndLevel, EndObject, EndPrefixed, EndProcedure, EndProgram, Instances, Item, owner, ForParameter, ForPlace, ForValue, Use}
use Rattle.sim_meaning.specs.Sane.{Other, OwnerOf, OwnersOf}
use Rattle.sim_sound.proofs.Chains.{OwnOther, counted_none, ends_with, kept_counted, last_counted, none_own, none_own_kept, none_there, own_once, seats_are}
use Rattle.sim_sound.proofs.Heads.{at_is, at_same}
use Rattle.sim_sound.proofs.Members.{MembersFine, StillAll, members_later, no_less}
use Rattle.sim_sound.proofs.Simulated.{SimulationsFine}
use Rattle.sim_sound.proofs.Simulating.{simulations_later}
use Rattle.sim_sound.proofs.Later.{All, AllCopies, AnySeat, Copies, Later, Steady, act_later, all_apart, all_seats, as_it_was, awaited_same, chain_later, fine_later, instance_later, kept_seats_map, lasts_later, later_seat, object_later, op_later, owner_is, plain_later, present_later, hands_later, own_later, seated_later, standing_apart, standing_later, stays_later}
use Rattle.sim_sound.proofs.Lists.{if_false, if_true, equal_numbers, other_numbers, same_some, set_len, set_other, set_same}
use Rattle.sim_sound.proofs.Moves.{kept_set, later_instances, stays_not, still_copies}
use Rattle.sim_sound.proofs.Running.{ActFine, AllSeats, ChainFine, ChainOn, ChainOver, Expected, Footing, IsObject, IsRelease, KeptChain, KeptSeats, NoObjectStands, ObjectStands, Placed, Shown, StandsFine, StoreFine, WorkFine, awaited, footing, is_resumed, or_below, own_seat, places, resumes, seat_on, Serves}
use Rattle.sim_sound.proofs.Values.{AllArrays, Generated, Kinds, Present, Seat, Stays, Suspended, Takes, Waits, at_seat, elements_of, Passes}

-- ---- objects, and what is none

pub object_is : (x : Standing Activation) → IsObject x → is_object x ≡ true
object_is (NoObject main) a = absurd a
object_is AttachedObject a = refl
object_is (DetachedObject chain) a = refl
object_is ResumedObject a = refl
object_is TerminatedObject a = refl

pub is_an_object : (x : Standing Activation) → is_object x ≡ true → IsObject x
is_an_object (NoObject main) e = absurd (cc)
is_an_object AttachedObject e = tt
is_an_object (DetachedObject chain) e = tt
is_an_object ResumedObject e = tt
is_an_object TerminatedObject e = tt

is_none : (x : Standing Activation) → is_object x ≡ false → (main : Option (List Activation)) × (x ≡ NoObject main)
is_none (NoObject main) e = (main, refl)
is_none AttachedObject e = absurd (cc)
is_none (DetachedObject chain) e = absurd (cc)
is_none ResumedObject e = absurd (cc)
is_none TerminatedObject e = absurd (cc)

pub not_both : (m : Instances) (j : ℕ) → ObjectStands m j → NoObjectStands m j → ⊥
not_both m j a b = subst IsObject (same_some (slice_get m.standings j) a.0 (NoObject b.0) a.1 b.1) a.2

-- ---- lists

pub nil_end : (chain : List Activation) → (chain ++ []) ≡ chain
nil_end [] = refl
nil_end (a ∷ chain) = ap (λ z. a ∷ z) (nil_end chain)

pub after_one : (above : List Activation) (here : Activation) (below : List Activation) → ((above ++ here ∷ []) ++ below) ≡ above ++ here ∷ below
after_one [] here below = refl
after_one (a ∷ above) here below = ap (λ z. a ∷ z) (after_one above here below)

pub not_empty : (above : List Activation) (here : Activation) (below : List Activation) → (above ++ here ∷ below) ≡ [] → ⊥
not_empty [] here below e = cc
not_empty (a ∷ above) here below e = cc

-- a chain whose outermost activation is that of an instance
pub record Ends (chain : List Activation) (j : ℕ) : Type 0 where
  pub above : List Activation
  pub here : Activation
  pub is : chain ≡ above ++ here ∷ []
  pub its : owner here ≡ Some j

pub ends_in_one : (chain : List Activation) (j : ℕ) → outermost owner chain ≡ Some j → Ends chain j
ends_in_one [] j e = absurd (cc)
ends_in_one (a ∷ []) j e = record { above = []; here = a; is = refl; its = e }
ends_in_one (a ∷ b ∷ chain) j e = let r = ends_in_one (b ∷ chain) j e in record { above = a ∷ r.above; here = r.here; is = ap (λ z. a ∷ z) r.is; its = r.its }

-- ---- what is pending, where it ends otherwise

serves_split : (s : Source) (Below : Waits → Type 0) (P : Waits → Type 0) (Q : Waits → Waits → Type 0) → ((w : Waits) → Below w → (v : Waits) × P v × Q v w) → (wanted : Use) (x : Kinds) → Serves s Below wanted x → (v : Waits) × P v × Serves s (Q v) wanted x
serves_split s Below P Q f (ForParameter number line) x a = let r = f _ a.below in (r.0, r.1, record { formal = a.formal; by_value = a.by_value; means = a.means; is = a.is; gives = a.gives; below = r.2 })
serves_split s Below P Q f (ForValue class line) x a = let r = f _ a.4 in (r.0, r.1, (a.0, a.1, a.2, a.3, r.2))
serves_split s Below P Q f (ForPlace value_too line) x a = let r = f _ a.4 in (r.0, r.1, (a.0, a.1, a.2, a.3, r.2))

work_split : (s : Source) (o : AllArrays) (m : Instances) (Below : Waits → Type 0) (Outermost : Type 0) (P : Waits → Type 0) (Q : Waits → Waits → Type 0) → ((w : Waits) → Below w → (v : Waits) × P v × Q v w) → (Outermost → ⊥) → (j t : ℕ) (w : List Item) (todo : List DeclNo) (before : List Kinds) → WorkFine s o m Below Outermost j t w todo before → (v : Waits) × P v × WorkFine s o m (Q v) ⊥ j t w todo before
work_split s o m Below Outermost P Q f h j t [] todo before a = absurd a
work_split s o m Below Outermost P Q f h j t (Do op ∷ w) todo before a = let r = work_split s o m Below Outermost P Q f h j t w a.0 a.1 a.3 in (r.0, r.1, (a.0, a.1, a.2, r.2))
work_split s o m Below Outermost P Q f h j t (EndBlock ∷ w) todo before a = let r = f _ a.1 in (r.0, r.1, (a.0, r.2, a.2))
work_split s o m Below Outermost P Q f h j t (EndProcedure leaves ∷ w) todo before a = let r = f _ a.8 in (r.0, r.1, (a.0, a.1, a.2, a.3, a.4, a.5, a.6, a.7, r.2, a.9))
work_split s o m Below Outermost P Q f h j t (EndLevel k ∷ w) todo before a = work_split s o m Below Outermost P Q f h j t w todo before a
work_split s o m Below Outermost P Q f h j t (EndObject ∷ w) todo before a = let r = f a.4 a.6 in (r.0, r.1, (a.0, a.1, a.2, a.3, a.4, a.5, r.2, a.7))
work_split s o m Below Outermost P Q f h j t (EndPrefixed ∷ w) todo before a = let r = f _ a.1 in (r.0, r.1, (a.0, r.2, a.2))
work_split s o m Below Outermost P Q f h j t (EndProgram ∷ w) todo before a = absurd (h a.1)
work_split s o m Below Outermost P Q f h j t (EndEvaluation wanted ∷ w) todo before a = let r = serves_split s Below P Q f wanted a.2 a.4 in (r.0, r.1, (a.0, a.1, a.2, a.3, r.2))

-- what a chain stands on, above others
pub footing_onto : (floor floor' : Option ℕ) (end end' : List Activation) → footing floor end ≡ footing floor' end' → (above : List Activation) → footing floor (above ++ end) ≡ footing floor' (above ++ end')
footing_onto floor floor' end end' e [] = e
footing_onto floor floor' end end' e (a ∷ above) = ap (λ f. record { under = or_below (owner a) f.under; seat = seat_on (owner a) f; next = Some a.instance }) (footing_onto floor floor' end end' e above)

-- an instance's own activation is as good as a floor
pub footing_own : (here : Activation) (below : List Activation) (y : ℕ) → owner here ≡ Some y → footing None (here ∷ below) ≡ footing (Some y) []
footing_own here below y own = ap (λ u. record { under = or_below u (footing None below).under; seat = seat_on u (footing None below); next = Some here.instance }) own ∙ ap (λ z. record { under = Some y; seat = Some (own_seat y); next = Some z }) (owner_is here y own)

-- The operating chain is cut above an instance's own activation: the part above ends with what that waits for.
pub cut_fine : (s : Source) (o : AllArrays) (m : Instances) (here : Activation) (below above : List Activation) (y : ℕ) → owner here ≡ Some y → (v : Waits) → ChainFine s o m (above ++ here ∷ below) v → (w : Waits) × ChainFine s o m (here ∷ below) w × ChainOn s o m (Some y) (λ u. u ≡ w) (λ rest. ⊥) above v
cut_fine s o m here below [] y own v f = (v, f, refl)
cut_fine s o m here below (a ∷ above) y own v f =
    let r = work_split s (at_seat o f.seat) m (λ w. ChainFine s o m (above ++ here ∷ below) w) ((above ++ here ∷ below) ≡ []) (λ w. ChainFine s o m (here ∷ below) w) (λ w u. ChainOn s o m (Some y) (λ q. q ≡ w) (λ rest. ⊥) above u)
    (λ u b. cut_fine s o m here below above y own u b) (not_empty above here below) a.instance f.of_text a.work f.todo f.expected f.goes in
    let foot : footing None (above ++ here ∷ below) ≡ footing (Some y) above = footing_onto None (Some y) (here ∷ below) [] (footing_own here below y own) above ∙ ap (footing (Some y)) (nil_end above) in (
      r.0,
      r.1,
      record {
        of_text = f.of_text;
        todo = f.todo;
        here = f.here;
        own = f.own;
        stands_on = λ j is ends. f.stands_on j is ends ∙ ap (λ z. Some z.under) foot;
        seat = f.seat;
        seated = ap (seat_on (owner a)) (sym foot) ∙ f.seated;
        works = f.works;
        vals = f.vals;
        shown = f.shown;
        kinds = f.kinds;
        hands = f.hands;
        expected = f.expected;
        expects = f.expects;
        goes = r.2;
      },
    )

-- a seat that is an instance's own
pub own_seated : (u : Option ℕ) (y : ℕ) (f : Footing) (q : Seat) → u ≡ Some y → seat_on u f ≡ Some q → own_seat y ≡ q
own_seated u y f q own e = same_some (seat_on u f) (own_seat y) q (ap (λ z. seat_on z f) own) e

-- what is below an object waits for its release
object_release : (s : Source) (o : AllArrays) (m : Instances) (Below : Waits → Type 0) (Outermost : Type 0) (j t : ℕ) → ObjectStands m j → (o.seat).evaluations ≡ 0 → (w : List Item) (todo : List DeclNo) (before : List Kinds) → WorkFine s o m Below Outermost j t w todo before → (v : Waits) × IsRelease (resumes m j) j t v × Below v
object_release s o m Below Outermost j t stands own [] todo before a = absurd a
object_release s o m Below Outermost j t stands own (Do op ∷ w) todo before a = object_release s o m Below Outermost j t stands own w a.0 a.1 a.3
object_release s o m Below Outermost j t stands own (EndBlock ∷ w) todo before a = absurd (not_both m j stands a.0)
object_release s o m Below Outermost j t stands own (EndProcedure leaves ∷ w) todo before a = absurd (not_both m j stands a.7)
object_release s o m Below Outermost j t stands own (EndLevel k ∷ w) todo before a = object_release s o m Below Outermost j t stands own w todo before a
object_release s o m Below Outermost j t stands own (EndObject ∷ w) todo before a = (a.4, a.5, a.6)
object_release s o m Below Outermost j t stands own (EndPrefixed ∷ w) todo before a = absurd (not_both m j stands a.0)
object_release s o m Below Outermost j t stands own (EndProgram ∷ w) todo before a = absurd (not_both m j stands a.0)
object_release s o m Below Outermost j t stands own (EndEvaluation wanted ∷ w) todo before a = absurd (let some = a.1 in omega (arith, own, some))

-- The operating chain is cut at an object, which is on it. What is below waits for its release.
pub record WaitsBelow (s : Source) (o : AllArrays) (m : Instances) (j : ℕ) (below : List Activation) : Type 0 where
  pub of_text : ℕ
  pub todo : List DeclNo
  pub here : Present s m j of_text todo
  pub own : (here.now).text ≡ of_text
  pub waits : Waits
  pub release : IsRelease (resumes m j) j of_text waits
  pub fine : ChainFine s o m below waits

pub waits_below : (s : Source) (o : AllArrays) (m : Instances) (here : Activation) (below : List Activation) (y : ℕ) → owner here ≡ Some y → ObjectStands m here.instance → (above : List Activation) (v : Waits) → ChainFine s o m (above ++ here ∷ below) v → WaitsBelow s o m here.instance below
waits_below s o m here below y own stands [] v f =
    let x = object_release s (at_seat o f.seat) m (λ v. ChainFine s o m below v) (below ≡ []) here.instance f.of_text stands (ap (λ z. z.evaluations) (sym (own_seated (owner here) y (footing None below) f.seat own f.seated))) here.work f.todo f.expected f.goes in
    record { of_text = f.of_text; todo = f.todo; here = f.here; own = f.own; waits = x.0; release = x.1; fine = x.2 }
waits_below s o m here below y own stands (a ∷ above) v f =
    ⊎_elim
    (λ x. waits_below s o m here below y own stands above x.0 x.1)
    (λ e. absurd (not_empty above here below e))
    (ends_with s (at_seat o f.seat) m (λ v. ChainFine s o m (above ++ here ∷ below) v) ((above ++ here ∷ below) ≡ []) a.instance f.of_text a.work f.todo f.expected f.goes)

-- ---- chains that stand on others then

module _ (s : Source) (o : AllArrays) (m : Instances) (o' : AllArrays) (m' : Instances) (e : Later s o m o' m' All) where
  -- the last one of a chain is an object, below which other things wait for its release
  module _ (a : Activation) (q : Seat) (own : q.evaluations ≡ 0) (stands : ObjectStands m a.instance) (t : ℕ) (v : Waits) (release : IsRelease (resumes m' a.instance) a.instance t v) (Below Below' : Waits → Type 0) (Outermost Outermost' : Type 0) (onto : Below' v) where
    last_work : (w : List Item) (todo : List DeclNo) (before : List Kinds) → WorkFine s (at_seat o q) m Below Outermost a.instance t w todo before → WorkFine s (at_seat o' q) m' Below' Outermost' a.instance t w todo before
    last_work [] todo before x = x
    last_work (Do op ∷ w) todo before x = (x.0, x.1, op_later s (at_seat o q) m (at_seat o' q) m' All (later_seat s o m o' m' All e q) a.instance t tt op todo x.0 before x.1 x.2, last_work w x.0 x.1 x.3)
    last_work (EndBlock ∷ w) todo before x = absurd (not_both m a.instance stands x.0)
    last_work (EndProcedure leaves ∷ w) todo before x = absurd (not_both m a.instance stands x.7)
    last_work (EndLevel k ∷ w) todo before x = last_work w todo before x
    last_work (EndObject ∷ w) todo before x = (x.0, x.1, x.2, e.objects a.instance x.3, v, release, onto, x.7)
    last_work (EndPrefixed ∷ w) todo before x = absurd (not_both m a.instance stands x.0)
    last_work (EndProgram ∷ w) todo before x = absurd (not_both m a.instance stands x.0)
    last_work (EndEvaluation wanted ∷ w) todo before x = absurd (let some = x.1 in omega (arith, own, some))

  pub last_later : (a : Activation) (y : ℕ) → owner a ≡ Some y → ObjectStands m a.instance → Stays m a.instance → AllCopies o o' → (v v' : Waits) → v ≡ v' → (on on' : Footing) (w : Waits) → ((t : ℕ) → IsRelease (resumes m' a.instance) a.instance t w) → (Below Below' : Waits → Type 0) (Outermost Outermost' : Type 0) → Below' w → ActFine s o m a on v Below Outermost → ActFine s o' m' a on' v' Below' Outermost'
  last_later a y own stands stays copies v v' same on on' w release Below Below' Outermost Outermost' onto f =
      let q = f.seat in
      let is = own_seated (owner a) y on q own f.seated in
      record {
        of_text = f.of_text;
        todo = f.todo;
        here = present_later s o m o' m' All e a.instance f.of_text f.todo tt f.here;
        own = own_later s o m o' m' All e a.instance f.of_text f.todo tt f.here ∙ f.own;
        stands_on = λ j at ends. absurd (stays_not m' a.instance a.instance (ap (is_given_at_end m') (owner_is a j at) ∙ ends) (stays_later s o m o' m' All e a.instance stays) refl);
        seat = q;
        seated = ap (λ u. seat_on u on') own ∙ ap Some is;
        works = seated_later s o m o' m' All e q a.instance tt f.works;
        vals = f.vals;
        shown = subst (λ z. Shown s z a.values f.vals) same f.shown;
        kinds = f.kinds;
        hands = hands_later s (at_seat o q) m (at_seat o' q) m' All (later_seat s o m o' m' All e q) a.instance tt f.kinds f.vals (copies q a.instance (length f.vals)) f.hands;
        expected = f.expected;
        expects = subst (λ z. Expected s z f.kinds f.expected) same f.expects;
        goes = last_work a q (ap (λ z. z.evaluations) (sym is)) stands f.of_text w (release f.of_text) Below Below' Outermost Outermost' onto a.work f.todo f.expected f.goes;
      }

  -- an activation on other ones then
  pub still_acts : AllCopies o o' → (a : Activation) (on on' : Footing) → on ≡ on' → OwnerOf (Steady o m o' m') (owner a) → (v : Waits) (Outermost Outermost' : Type 0) → (Outermost → Outermost') → (Below Below' : Waits → Type 0) → ((w : Waits) → Below w → Below' w) → ActFine s o m a on (awaited o.waiting (owner a) v) Below Outermost → ActFine s o' m' a on' (awaited o'.waiting (owner a) v) Below' Outermost'
  still_acts copies a on on' foot steady v Outermost Outermost' out Below Below' f c =
      let z = steady_owner (owner a) steady in
      act_later s o m o' m' All e a on on' foot (seats_are (λ q. All q.owner) (seat_on (owner a) on) (λ q is. tt)) (λ j is. (z j is).1) (seats_are (λ q. All a.instance → (d : ℕ) → Copies (at_seat o q) (at_seat o' q) a.instance d) (seat_on (owner a) on) (λ q is ok d. copies q a.instance d)) (awaited o.waiting (owner a) v) (awaited o'.waiting (owner a) v) (sym (awaited_same o.waiting o'.waiting (owner a) v (λ j is. (z j is).0))) Outermost Outermost' out Below Below' f c
    where
      steady_owner : (u : Option ℕ) → OwnerOf (Steady o m o' m') u → (j : ℕ) → u ≡ Some j → Steady o m o' m' j
      steady_owner None k j is = absurd (cc)
      steady_owner (Some i) k j is = subst (Steady o m o' m') (same_some (Some i) i j refl is) k

  module _ (copies : AllCopies o o') (floor floor' : Option ℕ) (Ground Ground' : Waits → Type 0) (Outermost Outermost' : List Activation → Type 0) (end end' : List Activation) (on : footing floor end ≡ footing floor' end') (out : (l : List Activation) → Outermost (l ++ end) → Outermost' (l ++ end')) (onto : (v : Waits) → ChainOn s o m floor Ground Outermost end v → ChainOn s o' m' floor' Ground' Outermost' end' v) where
    pub chain_onto : (above : List Activation) → OwnersOf (Steady o m o' m') above → (v : Waits) → ChainOn s o m floor Ground Outermost (above ++ end) v → ChainOn s o' m' floor' Ground' Outermost' (above ++ end') v
    chain_onto [] steady v c = onto v c
    chain_onto (a ∷ above) steady v c =
        still_acts copies a (footing floor (above ++ end)) (footing floor' (above ++ end')) (footing_onto floor floor' end end' on above) steady.0 v (Outermost (above ++ end)) (Outermost' (above ++ end')) (out above)
        (λ w. ChainOn s o m floor Ground Outermost (above ++ end) w) (λ w. ChainOn s o' m' floor' Ground' Outermost' (above ++ end') w) (λ w b. chain_onto above steady.1 w b) c

-- of all instances on a chain
pub owners_map : (P Q : ℕ → Type 0) → ((j : ℕ) → P j → Q j) → (chain : List Activation) → OwnersOf P chain → OwnersOf Q chain
owners_map P Q f [] a = tt
owners_map P Q f (x ∷ rest) a = (by_owner (owner x) a.0, owners_map P Q f rest a.1)
  where
    by_owner : (u : Option ℕ) → OwnerOf P u → OwnerOf Q u
    by_owner None a = a
    by_owner (Some j) a = f j a

pub owners_all : (P : ℕ → Type 0) → ((j : ℕ) → P j) → (chain : List Activation) → OwnersOf P chain
owners_all P f [] = tt
owners_all P f (x ∷ rest) = (by_owner (owner x), owners_all P f rest)
  where
    by_owner : (u : Option ℕ) → OwnerOf P u
    by_owner None = tt
    by_owner (Some j) = f j

-- what has a seat of its own is steady
abbrev OwnSteady : AllArrays → Instances → AllArrays → Instances → Seat → Type 0
OwnSteady o m o' m' q = q.evaluations ≡ 0 → Steady o m o' m' q.owner

-- ---- one instance stands otherwise, and other things may be noted of what heads wait for

module _ (s : Source) (o o' : AllArrays) (m : Instances) (y : ℕ) (x z : Standing Activation) (is : slice_get m.standings y ≡ Some x) (alike : is_object z ≡ is_object x) (real : o'.real ≡ o.real) (sights : o'.sights ≡ o.sights) (under : o'.beneath ≡ o.beneath) where
  abbrev pub changed : Instances
  changed = record m { standings = slice_set m.standings y z }

  pub now_stands : (j : ℕ) → j ≡ y → slice_get changed.standings j ≡ Some z
  now_stands j same = ap (slice_get changed.standings) same ∙ set_same m.standings y x z is

  pub others_stand : (j : ℕ) → j ≢ y → slice_get changed.standings j ≡ slice_get m.standings j
  others_stand j differ = set_other m.standings y j z differ

  still_object : (j : ℕ) → ObjectStands m j → ObjectStands changed j
  still_object j a =
      ⊎_elim
      (λ same. (z, now_stands j same, is_an_object z (alike ∙ object_is x (subst IsObject (same_some (slice_get m.standings j) a.0 x a.1 (ap (slice_get m.standings) same ∙ is)) a.2))))
      (λ differ. (a.0, others_stand j differ ∙ a.1, a.2))
      (cases_eq j y)

  still_none : (j : ℕ) → NoObjectStands m j → NoObjectStands changed j
  still_none j a =
      ⊎_elim
      (λ same. let n = is_none z (alike ∙ ap (λ q. is_object q) (same_some (slice_get m.standings j) x (NoObject a.0) (ap (slice_get m.standings) same ∙ is) a.1)) in (n.0, now_stands j same ∙ ap (λ q. Some q) n.1))
      (λ differ. (a.0, others_stand j differ ∙ a.1))
      (cases_eq j y)

  pub later_changed : Later s o m o' changed All
  later_changed = later_instances s o o' m changed real sights (λ j u e. ap (λ q. slice_get q j) under ∙ e) (λ j u lives. record { now = u; lives = lives; grown = as_it_was u }) (λ j a. a) still_object still_none

  pub copies_changed : AllCopies o o'
  copies_changed = still_copies s o o' m changed real sights (λ j u e. ap (λ q. slice_get q j) under ∙ e) (λ j u lives. record { now = u; lives = lives; grown = as_it_was u })

  pub steady_other : (j : ℕ) → o'.waiting j ≡ o.waiting j → j ≢ y → Steady o m o' changed j
  steady_other j same differ = (same, ap (λ q. is_resumed q) (others_stand j differ))

  pub resumes_now : resumes changed y ≡ is_resumed (Some z)
  resumes_now = ap (λ q. is_resumed q) (now_stands y refl)

  pub kinds_same : (j : ℕ) → is_object_at changed j ≡ is_object_at m j
  kinds_same j =
      ⊎_elim
      (λ same. ap (λ q. is_object q) (at_is changed.standings j z (NoObject None) (now_stands j same)) ∙ alike ∙ sym (ap (λ q. is_object q) (at_is m.standings j x (NoObject None) (ap (slice_get m.standings) same ∙ is))))
      (λ differ. ap (λ q. is_object q) (at_same changed.standings m.standings j (NoObject None) (others_stand j differ)))
      (cases_eq j y)

  pub store_changed : StoreFine s o m → o'.members ≡ o.members → o'.simulations ≡ o.simulations → StandsFine s o' changed y z → ((j : ℕ) (u : Standing Activation) → j ≢ y → slice_get m.standings j ≡ Some u → (o'.waiting j ≡ o.waiting j) × KeptSeats (OwnSteady o m o' changed) j u) → StoreFine s o' changed
  store_changed store linkages blocks stands others = record {
    instances = λ j u e. instance_later s o m o' changed All later_changed j u tt (store.instances j u e);
    elements = λ a k it u p l at e. plain_later s o m o' changed All later_changed (elements_of u) p (store.elements a k it u p (sym (ap (λ q. unless_given (slice_get q a)) real) ∙ l) (sym (ap (λ q. slice_get q a) sights) ∙ at) e);
    kept = λ j u e.
        ⊎_elim
        (λ same. subst (StandsFine s o' changed j) (same_some (slice_get changed.standings j) z u (now_stands j same) e) (subst (λ q. StandsFine s o' changed q z) (sym same) stands))
        (λ differ. let was = sym (others_stand j differ) ∙ e in let k = others j u differ was in standing_later s o m o' changed All later_changed (OwnSteady o m o' changed) (λ w i d q ok. copies_changed w i d) (λ i q. q refl) j u k.0 (standing_apart j u) k.1 (store.kept j u was))
        (cases_eq j y);
    noted = ap (λ q. length q) under ∙ store.noted;
    members = subst (λ q. MembersFine s q changed) (sym linkages) (members_later s o.members m changed all_still store.members);
    simulations = subst (λ q. SimulationsFine s q changed) (sym blocks) (simulations_later s o.simulations m changed all_still store.simulations);
  }
    where
      all_still : StillAll s m changed
      all_still = record {
        objects = λ j c a. object_later s o m o' changed All later_changed j c a;
        lasts = λ j c a. lasts_later s o m o' changed All later_changed j c a;
        more = no_less (length m.instances);
        texts = λ j u lives. (u, lives, refl, refl);
      }

  -- no instance comes to stand on more places; one that is given back at its end stays where it stands
  pub placed_changed : (chain chain' : List Activation) → ((j : ℕ) → times_on owner j chain' + times_on owner j (chain_in z) ≤ times_on owner j chain + times_on owner j (chain_in x)) → ((j : ℕ) → is_given_at_end m j ≡ true → times_on owner j chain + times_on owner j (chain_in x) ≤ times_on owner j chain' + times_on owner j (chain_in z)) → (z ≡ TerminatedObject → times_on owner y chain' + over_kept (times_on owner y) changed.standings ≡ 0) → Placed m chain → Placed changed chain'
  placed_changed chain chain' fewer still gone a =
      let set : (j : ℕ) → over_kept (times_on owner j) changed.standings + times_on owner j (chain_in x) ≡ over_kept (times_on owner j) m.standings + times_on owner j (chain_in z) = λ j. kept_set (times_on owner j) m.standings y x z is in
      let counted : (j : ℕ) → places changed chain' j ≤ places m chain j = λ j. (let q = set j in let less = fewer j in omega (arith, q, less)) in
      record {
        once = λ j. (let c = counted j in let once = a.once j in omega (arith, c, once));
        made = λ j less. (let c = counted j in let none = a.made j less in omega (arith, c, none));
        ended = λ j e.
            ⊎_elim
            (λ same. ap (λ q. times_on owner q chain' + over_kept (times_on owner q) changed.standings) same ∙ gone (same_some (slice_get changed.standings j) z TerminatedObject (now_stands j same) e))
            (λ differ. let c = counted j in let none = a.ended j (sym (others_stand j differ) ∙ e) in omega (arith, c, none))
            (cases_eq j y);
        all = λ j e. (let q = set j in let more = still j e in let there = a.all j e in omega (arith, q, more, there));
        as_many = set_len m.standings y z ∙ a.as_many;
      }

  -- where an instance stands on one chain and on that which another one keeps
  pub elsewhere_kept : (w j : ℕ) (u : Standing Activation) → j ≢ y → slice_get m.standings j ≡ Some u → times_on owner w (chain_in u) + times_on owner w (chain_in x) ≤ over_kept (times_on owner w) m.standings
  elsewhere_kept w j u differ there =
      let without = slice_set m.standings y AttachedObject in
      let set = kept_set (times_on owner w) m.standings y x AttachedObject is in
      let less = kept_counted (times_on owner w) without j u (set_other m.standings y j AttachedObject differ ∙ there) in
      omega (arith, set, less)

-- ---- the steps of a transfer

pub record AllFine (s : Source) (o : AllArrays) (m : Instances) (chain : List Activation) (v : Waits) : Type 0 where
  pub store : StoreFine s o m
  pub placed : Placed m chain
  pub fine : ChainFine s o m chain v

none_above : (y : ℕ) (above : List Activation) (here : Activation) (below : List Activation) → owner here ≡ Some y → times_on owner y (above ++ here ∷ below) ≤ 1 → (times_on owner y above ≡ 0) × (times_on owner y below ≡ 0)
none_above y above here below is once =
    let parts = times-append owner y above (here ∷ below) in
    let one = own_once y (owner here) is in
    (omega (arith, parts, one, once), omega (arith, parts, one, once))

-- an object on the operating chain lets go, and keeps its chain
module _ (s : Source) (o : AllArrays) (m : Instances) (y : ℕ) (x : Standing Activation) (is : slice_get m.standings y ≡ Some x) (object : IsObject x) (empty : chain_in x ≡ []) (stays : Stays m y) (above : List Activation) (here : Activation) (below : List Activation) (here_is : owner here ≡ Some y) (u : List Activation) (u_is : u ≡ above ++ here ∷ []) (f : AllFine s o m (above ++ here ∷ below) (Takes None)) where
  abbrev Left : Instances
  Left = changed s o o m y x (DetachedObject u) is (sym (object_is x object)) refl refl refl

  left_later : Later s o m o Left All
  left_later = later_changed s o o m y x (DetachedObject u) is (sym (object_is x object)) refl refl refl

  left_steady : (j : ℕ) → Other y j → Steady o m o Left j
  left_steady j differ = steady_other s o o m y x (DetachedObject u) is (sym (object_is x object)) refl refl refl j refl differ

  left_once : times_on owner y (above ++ here ∷ below) + over_kept (times_on owner y) m.standings ≤ 1
  left_once = (f.placed).once y

  left_none : (times_on owner y above ≡ 0) × (times_on owner y below ≡ 0)
  left_none = let once = left_once in none_above y above here below here_is (omega (arith, once))

  left_not_kept : over_kept (times_on owner y) m.standings ≡ 0
  left_not_kept =
      let once = left_once in
      let parts = times-append owner y above (here ∷ below) in
      let one = own_once y (owner here) here_is in
      omega (arith, once, parts, one)

  here_stands : ObjectStands m here.instance
  here_stands = (x, ap (slice_get m.standings) (owner_is here y here_is) ∙ is, object)

  now_unresumed : resumes Left here.instance ≡ false
  now_unresumed = ap (resumes Left) (owner_is here y here_is) ∙ resumes_now s o o m y x (DetachedObject u) is (sym (object_is x object)) refl refl refl

  left_chain : KeptChain s o Left y u
  left_chain = record {
    stays = stays_later s o m o Left All left_later y stays;
    last = ap (outermost owner) u_is ∙ outermost-append owner above here ∙ here_is;
    fine = subst (ChainOver s o Left None (λ v. v ≡ Takes None)) (sym u_is)
        (chain_onto s o m o Left left_later (copies_changed s o o m y x (DetachedObject u) is (sym (object_is x object)) refl refl refl) None None (λ v. ⊥) (λ v. v ≡ Takes None) (λ rest. rest ≡ []) (λ rest. ⊥) (here ∷ below) (here ∷ []) (footing_own here below y here_is ∙ sym (footing_own here [] y here_is)) (λ l e. not_empty l here below e)
        (λ v c. last_later s o m o Left left_later here y here_is here_stands (subst (Stays m) (sym (owner_is here y here_is)) stays) (copies_changed s o o m y x (DetachedObject u) is (sym (object_is x object)) refl refl refl) (awaited o.waiting (owner here) v) (awaited o.waiting (owner here) v) refl (footing None below) (footing None []) (Takes None) (λ t. subst (λ b. IsRelease b here.instance t (Takes None)) (sym now_unresumed) tt) (λ w. ChainFine s o m below w) (λ w. w ≡ Takes None) (below ≡ []) ⊥ refl c)
        above (owners_map (Other y) (Steady o m o Left) left_steady above (none_there y above left_none.0)) (Takes None) f.fine);
  }

  left_store : StoreFine s o Left
  left_store =
      store_changed s o o m y x (DetachedObject u) is (sym (object_is x object)) refl refl refl f.store refl refl left_chain
      (λ j w differ there. (refl, kept_seats_map (OwnOther y) (OwnSteady o m o Left) (λ q other own. left_steady q.owner (other own)) j w (none_own_kept y j w (let none = left_not_kept in let less = kept_counted (times_on owner y) m.standings j w there in omega (arith, none, less)))))

  left_counts : (j : ℕ) → times_on owner j below + times_on owner j u ≡ times_on owner j (above ++ here ∷ below) + times_on owner j (chain_in x)
  left_counts j =
      let parts = times-append owner j above (here ∷ below) in
      let upper = ap (times_on owner j) u_is ∙ times-append owner j above (here ∷ []) in
      let none = ap (times_on owner j) empty in
      omega (arith, parts, upper, none)

  left_placed : Placed Left below
  left_placed =
      placed_changed s o o m y x (DetachedObject u) is (sym (object_is x object)) refl refl refl (above ++ here ∷ below) below (λ j. let same = left_counts j in omega (arith, same)) (λ j e. let same = left_counts j in omega (arith, same)) (λ e. absurd (cc)) f.placed

  -- what is below waits for its release
  pub released_below : WaitsBelow s o m here.instance below
  released_below = waits_below s o m here below y here_is here_stands above (Takes None) f.fine

  pub lets_go : AllFine s o Left below (released_below).waits
  lets_go = record {
    store = left_store;
    placed = left_placed;
    fine = fine_later s o m o Left All left_later (OwnOther y) (λ q j d k ok. copies_changed s o o m y x (DetachedObject u) is (sym (object_is x object)) refl refl refl q j d) (λ j k. left_steady j (k refl)) below (all_apart None below) (none_own y None below left_none.1) (released_below).waits (released_below).fine;
  }

-- a detached object is called or resumed: its chain stands on the operating chain
module _ (s : Source) (o : AllArrays) (m : Instances) (y : ℕ) (u : List Activation) (z : Standing Activation) (is : slice_get m.standings y ≡ Some (DetachedObject u)) (object : IsObject z) (empty : chain_in z ≡ []) (living : z ≡ TerminatedObject → ⊥) (alone : (q : AllArrays) (n : Instances) → Stays n y → StandsFine s q n y z) (b : Activation) (rest : List Activation) (v : Waits) (release : (t : ℕ) → IsRelease (is_resumed (Some z)) y t v) (f : AllFine s o m (b ∷ rest) v) where
  abbrev Joined : Instances
  Joined = changed s o o m y (DetachedObject u) z is (object_is z object) refl refl refl

  joined_later : Later s o m o Joined All
  joined_later = later_changed s o o m y (DetachedObject u) z is (object_is z object) refl refl refl

  joined_steady : (j : ℕ) → Other y j → Steady o m o Joined j
  joined_steady j differ = steady_other s o o m y (DetachedObject u) z is (object_is z object) refl refl refl j refl differ

  joined_kept : KeptChain s o m y u
  joined_kept = (f.store).kept y (DetachedObject u) is

  joined_last : Ends u y
  joined_last = ends_in_one u y joined_kept.last

  joined_once : times_on owner y (b ∷ rest) + over_kept (times_on owner y) m.standings ≤ 1
  joined_once = (f.placed).once y

  joined_counted : 0 < times_on owner y u
  joined_counted = last_counted y u joined_kept.last

  joined_less : times_on owner y u ≤ over_kept (times_on owner y) m.standings
  joined_less = kept_counted (times_on owner y) m.standings y (DetachedObject u) is

  joined_below : AllSeats (OwnOther y) None (b ∷ rest)
  joined_below = none_own y None (b ∷ rest) (let once = joined_once in let less = joined_less in let some = joined_counted in omega (arith, once, less, some))

  joined_above : OwnersOf (Other y) joined_last.above
  joined_above =
      let e = joined_last in
      let once = joined_once in
      let less = joined_less in
      let same = ap (times_on owner y) e.is in
      none_there y e.above (none_above y e.above e.here [] e.its (omega (arith, once, less, same))).0

  joined_whole : (u ++ b ∷ rest) ≡ joined_last.above ++ joined_last.here ∷ b ∷ rest
  joined_whole = let e = joined_last in ap (λ q. q ++ b ∷ rest) e.is ∙ after_one e.above e.here (b ∷ rest)

  joined_fine : ChainFine s o Joined (u ++ b ∷ rest) (Takes None)
  joined_fine =
      let e = joined_last in
      let copies = copies_changed s o o m y (DetachedObject u) z is (object_is z object) refl refl refl in
      let its = owner_is e.here y e.its in
      let stays = subst (Stays m) (sym its) joined_kept.stays in
      let stands : ObjectStands m (e.here).instance = (DetachedObject u, ap (slice_get m.standings) its ∙ is, tt) in
      let resumed : resumes Joined (e.here).instance ≡ is_resumed (Some z) = ap (resumes Joined) its ∙ resumes_now s o o m y (DetachedObject u) z is (object_is z object) refl refl refl in
      let below : ChainFine s o Joined (b ∷ rest) v = fine_later s o m o Joined All joined_later (OwnOther y) (λ q j d k ok. copies q j d) (λ j k. joined_steady j (k refl)) (b ∷ rest) (all_apart None (b ∷ rest)) joined_below v f.fine in
      subst (λ q. ChainFine s o Joined q (Takes None)) (sym joined_whole)
      (chain_onto s o m o Joined joined_later copies None None (λ w. w ≡ Takes None) (λ w. ⊥) (λ l. ⊥) (λ l. l ≡ []) (e.here ∷ []) (e.here ∷ b ∷ rest) (footing_own e.here [] y e.its ∙ sym (footing_own e.here (b ∷ rest) y e.its)) (λ l a. absurd a)
      (λ w c. last_later s o m o Joined joined_later e.here y e.its stands stays copies (awaited o.waiting (owner e.here) w) (awaited o.waiting (owner e.here) w) refl (footing None []) (footing None (b ∷ rest)) v (λ t. subst (λ q. IsRelease q (e.here).instance t v) (sym resumed) (subst (λ q. IsRelease (is_resumed (Some z)) q t v) (sym its) (release t))) (λ q. q ≡ Takes None) (λ q. ChainFine s o Joined (b ∷ rest) q) ⊥ ((b ∷ rest) ≡ []) below c)
      e.above (owners_map (Other y) (Steady o m o Joined) joined_steady e.above joined_above) (Takes None) (subst (ChainOver s o m None (λ w. w ≡ Takes None)) e.is joined_kept.fine))

  joined_counts : (j : ℕ) → times_on owner j (u ++ b ∷ rest) + times_on owner j (chain_in z) ≡ times_on owner j (b ∷ rest) + times_on owner j u
  joined_counts j =
      let parts = times-append owner j u (b ∷ rest) in
      let none = ap (times_on owner j) empty in
      omega (arith, parts, none)

  pub joins : AllFine s o Joined (u ++ b ∷ rest) (Takes None)
  joins = record {
    store =
        store_changed s o o m y (DetachedObject u) z is (object_is z object) refl refl refl f.store refl refl (alone o Joined (stays_later s o m o Joined All joined_later y joined_kept.stays))
        (λ j w differ there. (refl, kept_seats_map (OwnOther y) (OwnSteady o m o Joined) (λ q other own. joined_steady q.owner (other own)) j w (none_own_kept y j w (let once = joined_once in let some = joined_counted in let less = elsewhere_kept s o o m y (DetachedObject u) z is (object_is z object) refl refl refl y j w differ there in omega (arith, once, some, less)))));
    placed = placed_changed s o o m y (DetachedObject u) z is (object_is z object) refl refl refl (b ∷ rest) (u ++ b ∷ rest) (λ j. let same = joined_counts j in omega (arith, same)) (λ j e. let same = joined_counts j in omega (arith, same)) (λ e. absurd (living e)) f.placed;
    fine = joined_fine;
  }

-- what a main chain may end with
ground_is : (f g : ℕ → Waits) (j : ℕ) (w v : Waits) → g j ≡ awaited f (Some j) w → v ≡ w → awaited g (Some j) v ≡ g j
ground_is f g j (Takes k) v e is = ap (λ q. awaited g (Some j) q) is ∙ sym e
ground_is f g j (Passes number formal) v e is = ap (λ q. awaited g (Some j) q) is ∙ sym e
ground_is f g j (Generated i u) v e is = ap (λ q. awaited g (Some j) q) is ∙ sym e
ground_is f g j Suspended v e is = ap (λ q. awaited g (Some j) q) is

-- a system head keeps what stands above it as its main chain
module _ (s : Source) (o : AllArrays) (m : Instances) (y : ℕ) (is : slice_get m.standings y ≡ Some (NoObject None)) (above : List Activation) (here : Activation) (below : List Activation) (here_is : owner here ≡ Some y) (f : AllFine s o m (above ++ here ∷ below) (Takes None)) where
  part : (w : Waits) × ChainFine s o m (here ∷ below) w × ChainOn s o m (Some y) (λ u. u ≡ w) (λ rest. ⊥) above (Takes None)
  part = cut_fine s o m here below above y here_is (Takes None) f.fine

  pub then_waits : ℕ → Waits
  then_waits j = if j == y then awaited o.waiting (Some y) part.0 else o.waiting j

  abbrev pub then_noted : AllArrays
  then_noted = record o { waiting = then_waits }

  abbrev Kept : Instances
  Kept = changed s o then_noted m y (NoObject None) (NoObject (Some above)) is refl refl refl refl

  waits_other : (j : ℕ) → j ≢ y → then_waits j ≡ o.waiting j
  unfolding then_waits
  waits_other j differ = if_false (j == y) (awaited o.waiting (Some y) part.0) (o.waiting j) (other_numbers j y differ)

  waits_here : then_waits y ≡ awaited o.waiting (Some y) part.0
  unfolding then_waits
  waits_here = if_true (y == y) (awaited o.waiting (Some y) part.0) (o.waiting y) (equal_numbers y y refl)

  kept_later_then : Later s o m then_noted Kept All
  kept_later_then = later_changed s o then_noted m y (NoObject None) (NoObject (Some above)) is refl refl refl refl

  kept_copies : AllCopies o then_noted
  kept_copies = copies_changed s o then_noted m y (NoObject None) (NoObject (Some above)) is refl refl refl refl

  kept_steady : (j : ℕ) → Other y j → Steady o m then_noted Kept j
  kept_steady j differ = steady_other s o then_noted m y (NoObject None) (NoObject (Some above)) is refl refl refl refl j (waits_other j differ) differ

  kept_none : (times_on owner y above ≡ 0) × (times_on owner y below ≡ 0)
  kept_none = let once = (f.placed).once y in none_above y above here below here_is (omega (arith, once))

  kept_elsewhere : over_kept (times_on owner y) m.standings ≡ 0
  kept_elsewhere =
      let once = (f.placed).once y in
      let parts = times-append owner y above (here ∷ below) in
      let one = own_once y (owner here) here_is in
      omega (arith, once, parts, one)

  main_chain : ChainOver s then_noted Kept (Some y) (λ v. awaited then_waits (Some y) v ≡ then_waits y) above
  main_chain =
      chain_later s o m then_noted Kept All kept_later_then (OwnOther y) (λ q j d k ok. kept_copies q j d) (λ j k. kept_steady j (k refl)) (Some y) (λ u. u ≡ part.0) (λ v. awaited then_waits (Some y) v ≡ then_waits y) (λ v e. ground_is o.waiting then_waits y part.0 v waits_here e) (λ rest. ⊥) above (all_apart (Some y) above) (none_own y (Some y) above kept_none.0) (Takes None) part.2

  still_unresumed : (j : ℕ) → owner here ≡ Some j → resumes Kept j ≡ resumes m j
  still_unresumed j at =
      let same : j ≡ y = same_some (owner here) j y at here_is in
      ap (resumes Kept) same ∙ resumes_now s o then_noted m y (NoObject None) (NoObject (Some above)) is refl refl refl refl ∙ sym (ap (resumes m) same ∙ ap (λ q. is_resumed q) is)

  head_waits : ChainFine s then_noted Kept (here ∷ below) Suspended
  head_waits =
      act_later s o m then_noted Kept All kept_later_then here (footing None below) (footing None below) refl (seats_are (λ q. All q.owner) (seat_on (owner here) (footing None below)) (λ q at. tt)) still_unresumed (seats_are (λ q. All here.instance → (d : ℕ) → Copies (at_seat o q) (at_seat then_noted q) here.instance d) (seat_on (owner here) (footing None below)) (λ q at ok d. kept_copies q here.instance d))
      (awaited o.waiting (owner here) part.0) (awaited then_waits (owner here) Suspended) (subst (λ q. awaited o.waiting q part.0 ≡ awaited then_waits q Suspended) (sym here_is) (sym waits_here)) (below ≡ []) (below ≡ []) (λ q. q)
      (λ v. ChainFine s o m below v) (λ v. ChainFine s then_noted Kept below v) (λ v b. fine_later s o m then_noted Kept All kept_later_then (OwnOther y) (λ q j d k ok. kept_copies q j d) (λ j k. kept_steady j (k refl)) below (all_apart None below) (none_own y None below kept_none.1) v b) part.1

  kept_counts : (j : ℕ) → times_on owner j (here ∷ below) + times_on owner j above ≡ times_on owner j (above ++ here ∷ below) + 0
  kept_counts j = let parts = times-append owner j above (here ∷ below) in omega (arith, parts)

  pub keeps_main : AllFine s then_noted Kept (here ∷ below) Suspended
  keeps_main = record {
    store =
        store_changed s o then_noted m y (NoObject None) (NoObject (Some above)) is refl refl refl refl f.store refl refl main_chain
        (λ j w differ there. (waits_other j differ, kept_seats_map (OwnOther y) (OwnSteady o m then_noted Kept) (λ q other own. kept_steady q.owner (other own)) j w (none_own_kept y j w (let none = kept_elsewhere in let less = kept_counted (times_on owner y) m.standings j w there in omega (arith, none, less)))));
    placed = placed_changed s o then_noted m y (NoObject None) (NoObject (Some above)) is refl refl refl refl (above ++ here ∷ below) (here ∷ below) (λ j. let same = kept_counts j in omega (arith, same)) (λ j e. let same = kept_counts j in omega (arith, same)) (λ e. absurd (cc)) f.placed;
    fine = head_waits;
  }

-- the main chain that a system head keeps goes on
module _ (s : Source) (o : AllArrays) (m : Instances) (y : ℕ) (main : List Activation) (is : slice_get m.standings y ≡ Some (NoObject (Some main))) (here : Activation) (below : List Activation) (here_is : owner here ≡ Some y) (f : AllFine s o m (here ∷ below) Suspended) where
  abbrev Back : Instances
  Back = changed s o o m y (NoObject (Some main)) (NoObject None) is refl refl refl refl

  back_later : Later s o m o Back All
  back_later = later_changed s o o m y (NoObject (Some main)) (NoObject None) is refl refl refl refl

  back_copies : AllCopies o o
  back_copies = copies_changed s o o m y (NoObject (Some main)) (NoObject None) is refl refl refl refl

  back_steady : (j : ℕ) → Steady o m o Back j
  back_steady j =
      ⊎_elim
      (λ same. (refl, ap (resumes Back) same ∙ resumes_now s o o m y (NoObject (Some main)) (NoObject None) is refl refl refl refl ∙ sym (ap (resumes m) same ∙ ap (λ q. is_resumed q) is)))
      (λ differ. steady_other s o o m y (NoObject (Some main)) (NoObject None) is refl refl refl refl j refl differ)
      (cases_eq j y)

  back_fine : ChainFine s o Back (main ++ here ∷ below) (Takes None)
  back_fine =
      chain_onto s o m o Back back_later back_copies (Some y) None (λ v. awaited o.waiting (Some y) v ≡ o.waiting y) (λ v. ⊥) (λ l. ⊥) (λ l. l ≡ []) [] (here ∷ below) (sym (footing_own here below y here_is)) (λ l a. absurd a)
      (λ v e. head_on v e) main (owners_all (Steady o m o Back) back_steady main) (Takes None) (subst (ChainOver s o m (Some y) (λ v. awaited o.waiting (Some y) v ≡ o.waiting y)) (sym (nil_end main)) ((f.store).kept y (NoObject (Some main)) is))
    where
      head_on : (v : Waits) → awaited o.waiting (Some y) v ≡ o.waiting y → ChainFine s o Back (here ∷ below) v
      head_on v e =
          act_later s o m o Back All back_later here (footing None below) (footing None below) refl (seats_are (λ q. All q.owner) (seat_on (owner here) (footing None below)) (λ q at. tt)) (λ j at. (back_steady j).1) (seats_are (λ q. All here.instance → (d : ℕ) → Copies (at_seat o q) (at_seat o q) here.instance d) (seat_on (owner here) (footing None below)) (λ q at ok d. back_copies q here.instance d))
          (awaited o.waiting (owner here) Suspended) (awaited o.waiting (owner here) v) (subst (λ q. awaited o.waiting q Suspended ≡ awaited o.waiting q v) (sym here_is) (sym e)) (below ≡ []) (below ≡ []) (λ q. q) (λ w. ChainFine s o m below w) (λ w. ChainFine s o Back below w)
          (λ w b. fine_later s o m o Back All back_later (OwnSteady o m o Back) (λ q j d k ok. back_copies q j d) (λ j k. k refl) below (all_apart None below) (all_seats (OwnSteady o m o Back) (λ q own. back_steady q.owner) None below) w b) f.fine

  back_counts : (j : ℕ) → times_on owner j (main ++ here ∷ below) + 0 ≡ times_on owner j (here ∷ below) + times_on owner j main
  back_counts j = let parts = times-append owner j main (here ∷ below) in omega (arith, parts)

  pub main_on : AllFine s o Back (main ++ here ∷ below) (Takes None)
  main_on = record {
    store = store_changed s o o m y (NoObject (Some main)) (NoObject None) is refl refl refl refl f.store refl refl tt (λ j w differ there. (refl, kept_seats_map AnySeat (OwnSteady o m o Back) (λ q a own. back_steady q.owner) j w (standing_apart j w)));
    placed = placed_changed s o o m y (NoObject (Some main)) (NoObject None) is refl refl refl refl (here ∷ below) (main ++ here ∷ below) (λ j. let same = back_counts j in omega (arith, same)) (λ j e. let same = back_counts j in omega (arith, same)) (λ e. absurd (cc)) f.placed;
    fine = back_fine;
  }

-- an object that operates ends
module _ (s : Source) (o : AllArrays) (m : Instances) (y : ℕ) (x : Standing Activation) (is : slice_get m.standings y ≡ Some x) (object : IsObject x) (empty : chain_in x ≡ []) (rest : List Activation) (v : Waits) (store : StoreFine s o m) (top : Activation) (own : owner top ≡ Some y) (placed : Placed m (top ∷ rest)) (stays : is_given_at_end m y ≡ false) (fine : ChainFine s o m rest v) where
  abbrev pub Over : Instances
  Over = changed s o o m y x TerminatedObject is (sym (object_is x object)) refl refl refl

  pub over_later : Later s o m o Over All
  over_later = later_changed s o o m y x TerminatedObject is (sym (object_is x object)) refl refl refl

  over_copies : AllCopies o o
  over_copies = copies_changed s o o m y x TerminatedObject is (sym (object_is x object)) refl refl refl

  over_steady : (j : ℕ) → Other y j → Steady o m o Over j
  over_steady j differ = steady_other s o o m y x TerminatedObject is (sym (object_is x object)) refl refl refl j refl differ

  over_once : times_on owner y rest + over_kept (times_on owner y) m.standings ≡ 0
  over_once =
      let once = placed.once y in
      let one = own_once y (owner top) own in
      omega (arith, once, one)

  over_gone : times_on owner y rest + over_kept (times_on owner y) Over.standings ≡ 0
  over_gone =
      let none = over_once in
      let set = kept_set (times_on owner y) m.standings y x TerminatedObject is in
      let nothing = ap (times_on owner y) empty in
      omega (arith, none, set, nothing)

  pub object_over : AllFine s o Over rest v
  object_over = record {
    store =
        store_changed s o o m y x TerminatedObject is (sym (object_is x object)) refl refl refl store refl refl tt
        (λ j w differ there. (refl, kept_seats_map (OwnOther y) (OwnSteady o m o Over) (λ q other is. over_steady q.owner (other is)) j w (none_own_kept y j w (let none = over_once in let less = kept_counted (times_on owner y) m.standings j w there in omega (arith, none, less)))));
    placed =
        placed_changed s o o m y x TerminatedObject is (sym (object_is x object)) refl refl refl (top ∷ rest) rest (λ j. omega arith)
        (λ j e. let none = counted_none j (owner top) (λ at. ends_not j (same_some (owner top) y j own at) e) in let nothing = ap (times_on owner j) empty in omega (arith, none, nothing)) (λ e. over_gone) placed;
    fine = fine_later s o m o Over All over_later (OwnOther y) (λ q j d k ok. over_copies q j d) (λ j k. over_steady j (k refl)) rest (all_apart None rest) (none_own y None rest (let none = over_once in omega (arith, none))) v fine;
  }
    where
      ends_not : (j : ℕ) → y ≡ j → is_given_at_end m j ≡ true → ⊥
      ends_not j same e = let no : is_given_at_end m j ≡ false = ap (is_given_at_end m) (sym same) ∙ stays in cc
