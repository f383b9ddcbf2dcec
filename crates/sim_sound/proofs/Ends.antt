-- An instance ends, and the one below goes on.
use Rattle.std.proofs.Common.{◌≡◌, ◌≢◌, ℕ, zero, suc, Bool, true, false, List, [], ◌∷◌, ◌++◌, length, Option, Some, None, inl, inr, ⊎_elim, refl, sym, ap, ◌∙◌, subst}
use Rattle.std.specs.Prelude.{◌&&◌, if◌then◌else◌, not, slice_get, slice_set}
use Rattle.std.specs.Option.{option_map}
use Rattle.sim_base.specs.declared.limits.Limits.{Limits}
use Rattle.sim_base.specs.declared.numbering.DeclNo.{DeclNo}
use Rattle.sim_chains.specs.Chains.{cut_at, is_instance, under}
use Rattle.sim_chains.specs.Components.{AttachedObject, NoObject, ResumedObject, Standing, TerminatedObject, dropped, finish, finish_by, returned, standing_of, with_standing}
use Rattle.sim_chains.specs.WellFormed.{IsWellFormed}
use Rattle.sim_chains.proofs.Keeps.{end_law}
use Rattle.sim_scope.specs.Levels.{has_level}
use Rattle.sim_scope.specs.Source.{Source}
use Rattle.sim_tree.specs.declared.stmt.TypeName.{TypeName}
use Rattle.sim_tree.specs.Syntax.{Heading, Statement}
use Rattle.sim_code.specs.Instances.{ended_as, ends_in, going_below, is_given_at_end, main_goes_on, object_ended, system_head, Instance, live}
use Rattle.sim_code.specs.Outcome.{World}
use Rattle.sim_meaning.specs.Levels.{has_levels, is_class}
use Rattle.sim_meaning.specs.Meaning.{do_item, has_result, instances_left, leaving, with_any, world_left}
use Rattle.sim_meaning.specs.Pending.{Activation, EndObject, EndProcedure, Instances, Item, Of, Result, Val, cell, owner, Held}
use Rattle.sim_meaning.specs.Texts.{ProcedureText, is_class_free, text}
use Rattle.sim_values.specs.Plain.{Object}
use Rattle.sim_sound.specs.Held.{ArrayOf, ByName, Fits, FitsIn, Holds, Refers, Simply, given_by, held_by, result_holds, result_type, Procedure}
use Rattle.sim_sound.specs.Typed.{ResultWritten, Typed}
use Rattle.sim_sound.proofs.Cells.{fine_at, given_no_array, own_cell}
use Rattle.sim_sound.proofs.Chains.{AboveHead, above_head, apart_on, own_top, stands_on_top}
use Rattle.sim_sound.proofs.Evals.{IsFine}
use Rattle.sim_sound.proofs.Fitting.{fits_plain, plain_fits, plain_val, val_fits}
use Rattle.sim_scope.specs.declared.types.SimType.{SimType}
use Rattle.sim_sound.proofs.Handing.{held_plain}
use Rattle.sim_sound.proofs.Heads.{at_is, headed_as, headed_then, well_formed}
use Rattle.sim_sound.proofs.Later.{All, AnySeat, Later, all_apart, fine_later, object_later, plain_later, seats_map}
use Rattle.sim_sound.proofs.Lifts.{Goes, had, ran, ticked}
use Rattle.sim_sound.proofs.Lists.{equal_numbers, other_numbers, same_some, set_other}
use Rattle.sim_sound.proofs.Moves.{left_by, placed_as}
use Rattle.sim_sound.proofs.Prefixes.{same_is}
use Rattle.sim_sound.proofs.Reach.{has_itself, key_of_result}
use Rattle.sim_sound.proofs.Running.{Begun, ChainFine, Headed, IsRelease, NoObjectStands, ObjectStands, Operates, StoreFine, idle, is_resumed, parts, resumes, runs}
use Rattle.sim_sound.proofs.Sound.{GivesResult, given, Makes}
use Rattle.sim_sound.proofs.Values.{AllArrays, Generated, HandsFine, IsPlain, Kinds, Made, Marks, ObjectOf, Suspended, Takes, ValFine, Value, Waits, at_seat, see, held_kinds, Passes, Seat, NewObject, DeepFine}
use Rattle.sim_sound.proofs.Standings.{AllFine, kinds_same, later_changed, main_on, object_over}

-- what waits below a resumed object
pub suspended : (i t : ℕ) (v : Waits) → IsRelease true i t v → v ≡ Suspended
suspended i t Suspended r = refl
suspended i t (Takes k) r = absurd r
suspended i t (Passes number formal) r = absurd r
suspended i t (Generated j u) r = absurd r

-- two standings are set in either order
set_swap : {A : Type 0} (xs : List A) (i j : ℕ) (x y : A) → i ≢ j → slice_set (slice_set xs i x) j y ≡ slice_set (slice_set xs j y) i x
set_swap [] i j x y apart = refl
set_swap (z ∷ xs) zero zero x y apart = absurd (apart refl)
set_swap (z ∷ xs) zero (suc j) x y apart = refl
set_swap (z ∷ xs) (suc i) zero x y apart = refl
set_swap (z ∷ xs) (suc i) (suc j) x y apart = ap (λ q. z ∷ q) (set_swap xs i j x y (λ e. apart (ap suc e)))

-- control goes to what is below
pub goes_below : (s : Source) (o : World) (g : Marks) → length g.sights ≡ length o.arrays → (chain : List Activation) (n : Instances) → AllFine s (see g o) n chain (Takes None) → Headed n chain → Goes (IsFine s) (going_below o chain n)
goes_below s o g long [] n f h = absurd f.fine
goes_below s o g long (a ∷ rest) n f h = (g, long, runs f.store f.placed h f.fine)

-- a new object, as what it is in hand as
new_hand : (s : Source) → Typed s → (o : AllArrays) (m : Instances) → StoreFine s o m → (q : Seat) (i j u : ℕ) (vs : List Val) (y : Instance (List Held)) → live m j ≡ Some y → y.text ≡ u → ObjectOf s m j u → (x : Kinds) → Makes s u x → DeepFine s (at_seat o q) m i vs x (Of (Object j))
new_hand s ok o m store q i j u vs y lives exact p (Value h) made = plain_val s (at_seat o q) m i h (Object j) (plain_fits s ok o m store (Refers u) h (Object j) made p)
new_hand s ok o m store q i j u vs y lives exact p (NewObject c) made =
    let same : p.now ≡ y = same_some (live m j) p.now y p.lives lives in
    let is : (p.now).text ≡ u = ap (λ z. z.text) same ∙ exact in
    record {
      object = record { now = p.now; lives = p.lives; object = p.object; levels = ap (λ z. has_level s.tables z c) is ∙ made.0; stays = p.stays; words = p.words; has_text = p.has_text; made = p.made };
      proper = ap (λ z. is_class (text s z)) is ∙ made.1;
    }
new_hand s ok o m store q i j u vs y lives exact p _ made = absurd made

-- the reference to an object that was generated, or the object that was called, comes to be in hand as any other
pub released : (s : Source) → Typed s → (o : AllArrays) (m : Instances) → StoreFine s o m → (chain : List Activation) (v : Waits) (i t : ℕ) → IsRelease false i t v → ObjectOf s m i t → (y : Instance (List Held)) → live m i ≡ Some y → y.text ≡ t → ChainFine s o m chain v → ChainFine s o m chain (Takes None)
released s ok o m store [] v i t release object y lives own c = absurd c
released s ok o m store (a ∷ rest) (Takes None) i t release object y lives own c = c
released s ok o m store (a ∷ rest) (Takes (Some k)) i t release object y lives own c = absurd release
released s ok o m store (a ∷ rest) (Passes number formal) i t release object y lives own c = absurd release
released s ok o m store (a ∷ rest) Suspended i t release object y lives own c = absurd release
released s ok o m store (a ∷ rest) (Generated j u) i t release object y lives own c =
    let x = c.expects in
    let here : live m j ≡ Some y = ap (live m) release.0 ∙ lives in
    let exact : y.text ≡ u = own ∙ sym release.1 in
    let fine : ObjectOf s m j u = subst (λ z. ObjectOf s m j z) (sym release.1) (subst (λ z. ObjectOf s m z t) (sym release.0) object) in
    record {
      of_text = c.of_text;
      todo = c.todo;
      here = c.here;
      own = c.own;
      stands_on = c.stands_on;
      seat = c.seat;
      seated = c.seated;
      works = c.works;
      vals = a.values;
      shown = refl;
      kinds = x.0 ∷ c.kinds;
      hands = subst (HandsFine s (at_seat o c.seat) m a.instance (x.0 ∷ c.kinds)) (sym c.shown) (new_hand s ok o m store c.seat a.instance j u c.vals y here exact fine x.0 x.1, c.hands);
      expected = c.expected;
      expects = x.2;
      goes = c.goes;
    }

module _ (s : Source) (ok : Typed s) (l : Limits) (o : World) (g : Marks) (long : length g.sights ≡ length o.arrays) (m : Instances) (i t : ℕ) (todo : List DeclNo) (b : Begun s (see g o) m i t todo) (own : ((b.here).now).text ≡ t) where
  -- the value that is left, if there is one
  abbrev Leaves : Option Kinds → Option Val → Type 0
  Leaves None None = Unit {0}
  Leaves (Some (Value h)) (Some v) = IsPlain h × ValFine s (see g o) m i h v
  Leaves _ _ = ⊥

  plain_later_val : (o' : AllArrays) (m' : Instances) (Apart : ℕ → Type 0) → Later s (see g o) m o' m' Apart → (v' : AllArrays) (j : ℕ) (h : Holds) (v : Val) → IsPlain h → ValFine s (see g o) m i h v → ValFine s v' m' j h v
  plain_later_val o' m' Apart e v' j (Simply k) (Of p) is a = plain_val s v' m' j (Simply k) p (plain_later s (see g o) m o' m' Apart e (Simply k) p a)
  plain_later_val o' m' Apart e v' j (Refers c) (Of p) is a = plain_val s v' m' j (Refers c) p (plain_later s (see g o) m o' m' Apart e (Refers c) p a)
  plain_later_val o' m' Apart e v' j (Simply k) _ is a = absurd a
  plain_later_val o' m' Apart e v' j (Refers c) _ is a = absurd a
  plain_later_val o' m' Apart e v' j (ArrayOf h) v is a = absurd is
  plain_later_val o' m' Apart e v' j (Procedure h) v is a = absurd is
  plain_later_val o' m' Apart e v' j (ByName h) v is a = absurd is

  pub leaves : (rest : List Activation) → Operates g.beneath g.seat m i rest → (g.seat).evaluations ≡ 0 → NoObjectStands m i → (waits : Option Kinds) (v : Option Val) → Leaves waits v → ChainFine s (see g o) m rest (Takes waits) → Goes (IsFine s) (leaving s rest v i o m)
  unfolding leaving
  leaves [] top alone nobody waits v f c = absurd c
  leaves (a ∷ rest) top alone nobody waits v f c =
      let y = left_by s g o m i (a ∷ rest) b.store top alone nobody (Takes waits) c in
      let o' = see g (world_left s i o m) in
      let m' = instances_left i m in
      let Apart : ℕ → Type 0 = λ j. is_given_at_end m i ≡ true → j ≢ i in
      let apart = seats_map (λ q. q.owner ≢ i) (λ q. Apart q.owner) (λ q other given. other) None (a ∷ rest) (apart_on g.beneath g.seat m i (a ∷ rest) top alone) in
      let n = fine_later s (see g o) m o' m' Apart y.later AnySeat (λ q j d k ok. y.copies q j d ok) (λ j k. y.steady j) (a ∷ rest) apart (all_apart None (a ∷ rest)) (Takes waits) c in
      let next : Activation = record { instance = a.instance; work = a.work; values = with_any v a.values } in (
        g,
        long ∙ sym y.long,
        runs y.store (placed_as m' a next rest refl y.placed) (headed_as m' a next rest refl y.headed) (record {
          of_text = n.of_text;
          todo = n.todo;
          here = n.here;
          own = n.own;
          stands_on = n.stands_on;
          seat = n.seat;
          seated = n.seated;
          works = n.works;
          vals = with_any v n.vals;
          shown = ap (with_any v) n.shown;
          kinds = given waits n.kinds;
          hands = more o' m' Apart y.later (at_seat o' n.seat) waits v f n.kinds n.vals n.hands;
          expected = n.expected;
          expects = n.expects;
          goes = n.goes;
        }),
      )
    where
      more : (o' : AllArrays) (m' : Instances) (Apart : ℕ → Type 0) → Later s (see g o) m o' m' Apart → (v' : AllArrays) (waits : Option Kinds) (v : Option Val) → Leaves waits v → (ks : List Kinds) (vs : List Val) → HandsFine s v' m' a.instance ks vs → HandsFine s v' m' a.instance (given waits ks) (with_any v vs)
      more o' m' Apart e v' None None f ks vs h = h
      more o' m' Apart e v' None (Some v) f ks vs h = absurd f
      more o' m' Apart e v' (Some (Value k)) (Some v) f ks vs h = (plain_later_val o' m' Apart e v' a.instance k v f.0 f.1, h)
      more o' m' Apart e v' (Some (Value k)) None f ks vs h = absurd f
      more o' m' Apart e v' (Some _) v f ks vs h = absurd f

  given_plain : (r : Option SimType) (h : Holds) → given_by s r ≡ Some h → IsPlain h
  given_plain None h e = absurd (cc)
  given_plain (Some type) h e = subst IsPlain (same_some (Some (held_by s type)) (held_by s type) h refl e) (held_plain s type)

  -- what a procedure gives is no array
  result_plain : (h : Holds) → result_holds s t ≡ Some h → IsPlain h
  result_plain (Simply k) e = tt
  result_plain (Refers c) e = tt
  result_plain (ArrayOf k) e = absurd (given_no_array s (result_type s t) k e)
  result_plain (Procedure r) e = given_plain (result_type s t) (Procedure r) e
  result_plain (ByName k) e = given_plain (result_type s t) (ByName k) e

  some_result : (result : Option TypeName) (r : Option Holds) → ResultWritten result r → (type : TypeName) → result ≡ Some type → (h : Holds) × (r ≡ Some h)
  some_result None r w type e = absurd (cc)
  some_result (Some z) None w type e = absurd w
  some_result (Some z) (Some h) w type e = (h, refl)

  no_result : (result : Option TypeName) (r : Option Holds) → ResultWritten result r → result ≡ None → r ≡ None
  no_result None None w e = refl
  no_result None (Some h) w e = absurd w
  no_result (Some z) r w e = absurd (cc)

  pub procedure_ends : (leaves' : Bool) (w : List Item) (vals : List Val) (rest : List Activation) → Operates g.beneath g.seat m i rest → (g.seat).evaluations ≡ 0 → (result : Option TypeName) (heading : Heading) (body : Statement) → text s t ≡ Some (ProcedureText result heading body) → has_result result ≡ leaves' → (waits : Option Kinds) → GivesResult s t waits → NoObjectStands m i → ChainFine s (see g o) m rest (Takes waits) → Goes (IsFine s) (do_item s l o m i w vals rest (EndProcedure leaves'))
  procedure_ends false w vals rest top alone None heading body is e waits gives nobody c = leaves rest top alone nobody waits None (by_fits (result_holds s t) (no_result None (result_holds s t) (ok.texts t (ProcedureText None heading body) is).result refl) gives.0 gives.1 waits gives.2) c
    where
      by_fits : (r : Option Holds) → r ≡ None → (h : Option Holds) → FitsIn s r h → (waits : Option Kinds) → held_kinds h ≡ waits → Leaves waits None
      by_fits None none None f None e = tt
      by_fits None none None f (Some k) e = absurd (cc)
      by_fits None none (Some h) f waits e = absurd f
      by_fits (Some r) none h f waits e = absurd (cc)
  procedure_ends true w vals rest top alone None heading body is e waits gives nobody c = absurd (cc)
  procedure_ends false w vals rest top alone (Some type) heading body is e waits gives nobody c = absurd (cc)
  procedure_ends true w vals rest top alone (Some type) heading body is e waits gives nobody c =
      let p = b.here in
      let r = some_result (Some type) (result_holds s t) (ok.texts t (ProcedureText (Some type) heading body) is).result type refl in
      let f = fine_at s (see g o) m i t todo b.store p in
      let there = f.keys t (same_is s (p.now).text t own) Result (key_of_result s t type heading body is) in
      let x = own_cell s (see g o) m i p.now Result r.0 p.lives f (λ k same none. absurd (plain_not r.0 k (result_plain r.0 r.1) same)) (ap (λ z. result_holds s z) own ∙ r.1) there in
      had (IsFine s) (cell m i Result) x.0 o (λ v. leaving s rest (Some v) i o m) x.1
      (leaves rest top alone nobody waits (Some x.0) (by_fits x.0 (result_holds s t) r.0 r.1 (result_plain r.0 r.1) x.2 gives.0 gives.1 waits gives.2) c)
    where
      plain_not : (h k : Holds) → IsPlain h → h ≡ ArrayOf k → ⊥
      plain_not h k a e = subst IsPlain e a

      by_fits : (v : Val) (r : Option Holds) (h : Holds) → r ≡ Some h → IsPlain h → ValFine s (see g o) m i h v → (h' : Option Holds) → FitsIn s r h' → (waits : Option Kinds) → held_kinds h' ≡ waits → Leaves waits (Some v)
      by_fits v None h is plain a h' f waits e = absurd (cc)
      by_fits v (Some r) h is plain a None f waits e = absurd f
      by_fits v (Some r) h is plain a (Some h') f waits e =
          let same : r ≡ h = Rattle.sim_sound.proofs.Lists.same_some (Some r) r h refl is in
          let fits : Fits s h h' = subst (λ z. Fits s z h') same f in
          subst (λ z. Leaves z (Some v)) e (fits_plain s h h' fits plain, val_fits s ok (see g o) m b.store i h h' v fits a)

  -- ---- an object

  -- it is not given back
  pub stays_at_end : is_class_free s t ≡ false → is_given_at_end m i ≡ false
  stays_at_end free =
      let p = b.here in
      let f = fine_at s (see g o) m i t todo b.store p in
      ap ends_in p.lives ∙ ap (λ z. z && not (p.now).kept) (f.ends ∙ ap (is_class_free s) own ∙ free)

  -- the object that it is, when its arrays are made
  pub object_here : todo ≡ [] → is_class_free s t ≡ false → has_levels (text s t) ≡ true → ObjectOf s m i t
  object_here made free has =
      let p = b.here in
      let f = fine_at s (see g o) m i t todo b.store p in
      record {
        now = p.now;
        lives = p.lives;
        object = ap (λ z. has_levels (text s z)) own ∙ has;
        levels = ap (λ z. has_level s.tables z t) own ∙ has_itself s ok t;
        stays = ap (λ z. z && not (p.now).kept) (f.ends ∙ ap (is_class_free s) own ∙ free);
        words = p.words;
        has_text = p.has_text;
        made = subst (λ z. Made s (p.now).text z (p.now).cells) made p.made;
      }

  -- it is terminated, and its reference, where it is in hand below, is one to an object with its arrays
  module _ (rest : List Activation) (top : Operates g.beneath g.seat m i rest) (alone : (g.seat).evaluations ≡ 0) (made : todo ≡ []) (free : is_class_free s t ≡ false) (has : has_levels (text s t) ≡ true) (v : Waits) (c : ChainFine s (see g o) m rest v) where
    abbrev Top : Activation
    Top = idle g.seat i

    its : owner Top ≡ Some i
    its = own_top g.beneath g.seat m i rest top alone

    well : IsWellFormed owner (system_head m) (parts m (Top ∷ rest))
    well = well_formed s (see g o) m (Top ∷ rest) b.store top.placed top.headed

    module _ (is : slice_get m.standings i ≡ Some AttachedObject) (release : IsRelease false i t v) where
      abbrev Then : Instances
      Then = record m { standings = slice_set m.standings i TerminatedObject }

      over : AllFine s (see g o) Then rest v
      over = object_over s (see g o) m i AttachedObject is tt refl rest v b.store Top its top.placed (stays_at_end free) c

      finished : finish owner (system_head m) (parts m (Top ∷ rest)) i ≡ parts Then rest
      finished =
          ap (λ q. finish_by owner q (parts m (Top ∷ rest)) (system_head m i) i) (at_is m.standings i AttachedObject (NoObject None) is)
          ∙ ap (λ q. with_standing i TerminatedObject (returned owner q (parts m (Top ∷ rest)))) (ap (λ q. if q then Some (record { above = []; here = Top; below = rest }) else option_map (under Top) (cut_at owner i rest)) (ap (is_instance i) its ∙ equal_numbers i i refl))

      headed : Headed Then rest
      headed =
          headed_then m (parts Then rest) (subst (IsWellFormed owner (system_head m)) finished (end_law owner (system_head m) (parts m (Top ∷ rest)) i Top rest well refl its (inl (at_is m.standings i AttachedObject (NoObject None) is)))) (top.headed).outer
          (kinds_same s (see g o) (see g o) m i AttachedObject TerminatedObject is refl refl refl refl)

      ended_later : Later s (see g o) m (see g o) Then All
      ended_later = later_changed s (see g o) (see g o) m i AttachedObject TerminatedObject is refl refl refl refl

      attached_ends : (t' w' : ℕ) → Goes (IsFine s) (ended_as owner (ran o t' w') m i rest (Some AttachedObject))
      attached_ends t' w' =
          goes_below s (ran o t' w') g long rest Then
          (record { store = over.store; placed = over.placed; fine = released s ok (see g o) Then over.store rest v i t release (object_later s (see g o) m (see g o) Then All ended_later i t (object_here made free has)) (b.here).now (b.here).lives own over.fine }) headed

    module _ (is : slice_get m.standings i ≡ Some ResumedObject) (release : IsRelease true i t v) where
      on_head : AboveHead m i rest
      on_head = above_head g.beneath g.seat m i rest top alone is

      abbrev Head : ℕ
      Head = system_head m i

      abbrev Gone : Instances
      Gone = record m { standings = slice_set m.standings i TerminatedObject }

      abbrev Free : Instances
      Free = record m { standings = slice_set m.standings Head (NoObject None) }

      abbrev Last : List (Standing Activation)
      Last = slice_set Free.standings i TerminatedObject

      abbrev Chain : List Activation
      Chain = on_head.main ++ on_head.head ∷ on_head.below

      apart : i ≢ Head
      apart same = let as_it = ap (slice_get m.standings) same in let keeps = on_head.keeps in cc

      resumed_over : AllFine s (see g o) Gone (on_head.head ∷ on_head.below) Suspended
      resumed_over =
          subst (AllFine s (see g o) Gone (on_head.head ∷ on_head.below)) (suspended i t v release)
          (subst (λ q. AllFine s (see g o) Gone q v) on_head.is (object_over s (see g o) m i ResumedObject is tt refl rest v b.store Top its top.placed (stays_at_end free) c))

      back : AllFine s (see g o) (record m { standings = slice_set Gone.standings Head (NoObject None) }) Chain (Takes None)
      back = main_on s (see g o) Gone Head on_head.main (set_other m.standings i Head TerminatedObject (λ same. apart (sym same)) ∙ on_head.keeps) on_head.head on_head.below on_head.its_head resumed_over

      cut : cut_at owner Head rest ≡ Some (record { above = []; here = on_head.head; below = on_head.below })
      cut = ap (cut_at owner Head) on_head.is ∙ ap (λ q. if q then Some (record { above = []; here = on_head.head; below = on_head.below }) else option_map (under on_head.head) (cut_at owner Head on_head.below)) (ap (is_instance Head) on_head.its_head ∙ equal_numbers Head Head refl)

      went : (p : World) → ended_as owner p m i rest (Some ResumedObject) ≡ going_below p Chain (record m { standings = Last })
      went p =
          ap (λ k. main_goes_on owner p m i Head k (slice_get m.standings Head)) cut
          ∙ ap (λ q. main_goes_on owner p m i Head (Some (record { above = []; here = on_head.head; below = on_head.below })) q) on_head.keeps

      resumed_finished : finish owner (system_head m) (parts m (Top ∷ rest)) i ≡ record { operating = Chain; standings = Last }
      resumed_finished =
          ap (λ q. finish_by owner q (parts m (Top ∷ rest)) Head i) (at_is m.standings i ResumedObject (NoObject None) is)
          ∙ ap (λ q. with_standing i TerminatedObject (dropped owner q (standing_of (parts m (Top ∷ rest)) Head) Head (parts m (Top ∷ rest))))
          (ap (λ q. if q then Some (record { above = []; here = Top; below = rest }) else option_map (under Top) (cut_at owner Head rest)) (ap (is_instance Head) its ∙ other_numbers i Head apart) ∙ ap (option_map (under Top)) cut)
          ∙ ap (λ q. with_standing i TerminatedObject (dropped owner (Some (record { above = Top ∷ []; here = on_head.head; below = on_head.below })) q Head (parts m (Top ∷ rest)))) (at_is m.standings Head (NoObject (Some on_head.main)) (NoObject None) on_head.keeps)

      resumed_headed : Headed (record m { standings = Last }) Chain
      resumed_headed =
          headed_then m (record { operating = Chain; standings = Last }) (subst (IsWellFormed owner (system_head m)) resumed_finished (end_law owner (system_head m) (parts m (Top ∷ rest)) i Top rest well refl its (inr (at_is m.standings i ResumedObject (NoObject None) is)))) (top.headed).outer
          (λ j. kinds_same s (see g o) (see g o) Free i ResumedObject TerminatedObject (set_other m.standings Head i (NoObject None) apart ∙ is) refl refl refl refl j ∙ kinds_same s (see g o) (see g o) m Head (NoObject (Some on_head.main)) (NoObject None) on_head.keeps refl refl refl refl j)

      resumed_ends : (t' w' : ℕ) → Goes (IsFine s) (ended_as owner (ran o t' w') m i rest (Some ResumedObject))
      resumed_ends t' w' =
          subst (Goes (IsFine s)) (sym (went (ran o t' w')))
          (goes_below s (ran o t' w') g long Chain (record m { standings = Last }) (subst (λ q. AllFine s (see g o) (record m { standings = q }) Chain (Takes None)) (set_swap m.standings i Head TerminatedObject (NoObject None) apart) back) resumed_headed)

  pub object_ends : (w : List Item) (vals : List Val) (rest : List Activation) → Operates g.beneath g.seat m i rest → (g.seat).evaluations ≡ 0 → todo ≡ [] → is_class_free s t ≡ false → has_levels (text s t) ≡ true → ObjectStands m i → (v : Waits) → IsRelease (resumes m i) i t v → ChainFine s (see g o) m rest v → Goes (IsFine s) (do_item s l o m i w vals rest EndObject)
  unfolding object_ended
  object_ends w vals rest top alone made free has stands v release c =
      ticked (IsFine s) l o (λ p. object_ended owner p m i rest) (λ t' w'.
      ⊎_elim
      (λ is. subst (λ z. Goes (IsFine s) (ended_as owner (ran o t' w') m i rest z)) (sym is) (attached_ends rest top alone made free has v c is (subst (λ q. IsRelease q i t v) (ap (λ q. is_resumed q) is) release) t' w'))
      (λ is. subst (λ z. Goes (IsFine s) (ended_as owner (ran o t' w') m i rest z)) (sym is) (resumed_ends rest top alone made free has v c is (subst (λ q. IsRelease q i t v) (ap (λ q. is_resumed q) is) release) t' w'))
      (stands_on_top s (see g o) g.beneath g.seat m i rest b.store top alone stands))
