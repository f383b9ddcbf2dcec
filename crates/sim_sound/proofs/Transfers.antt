-- Control is transferred from component to component.
use Rattle.std.proofs.Common.{◌≡◌, ◌≢◌, ℕ, false, true, List, [], ◌∷◌, ◌++◌, ⊎_elim, length, Option, Some, None, Result, Ok, Err, refl, sym, ap, ◌∙◌, subst, arith}
use Rattle.std.proofs.lemmas.Bool.{cases_lt}
use Rattle.std.specs.Prelude.{slice_get, slice_set}
use Rattle.sim_base.specs.declared.limits.Limits.{Limits}
use Rattle.sim_base.specs.declared.numbering.DeclNo.{DeclNo}
use Rattle.sim_base.specs.declared.run_error.RunError.{RunError}
use Rattle.sim_chains.specs.Chains.{Cut, cut_at, outermost, times_on, upper}
use Rattle.sim_chains.specs.Components.{AttachedObject, Components, DetachedObject, NoObject, ResumedObject, Standing, TerminatedObject, call, call_by, detach, detach_by, give_up_at, kept, kept_by, leave_at, main_at, main_by, resume, resume_at, resume_by, resume_main, standing_of, with_operating, with_standing}
use Rattle.sim_chains.specs.WellFormed.{HasResumed, IsWellFormed, is_object}
use Rattle.sim_chains.proofs.Counts.{times-append}
use Rattle.sim_chains.proofs.Cuts.{IsCut, cut_is}
use Rattle.sim_chains.proofs.Keeps.{call_law, detach_law, directly, kept_object, main_law, resume_law}
use Rattle.sim_scope.specs.Levels.{has_level}
use Rattle.sim_scope.specs.Source.{Source}
use Rattle.sim_values.specs.declared.kind.Kind.TheVariants as kind
use Rattle.sim_values.specs.Plain.{Character, Integer, MainOf, Nothing, Object, Plain, Text, Truth, kind_of}
use Rattle.sim_code.specs.Events.{computing, having, pop_plain}
use Rattle.sim_code.specs.Instances.{going_below, is_object_at, live, system_head}
use Rattle.sim_code.specs.Outcome.{Run, RunFault, World}
use Rattle.sim_code.specs.Transfers.{Calling, Detaching, Resuming, Transfer, refused_of_main, transferred, transferring}
use Rattle.sim_meaning.specs.Meaning.{do_op}
use Rattle.sim_meaning.specs.Pending.{Activation, Address, ArrayValue, Configuration, Instances, Item, Link, Of, ProcedureValue, TransferOp, Actual, Val, owner, plain}
use Rattle.sim_sound.specs.Typed.{Typed}
use Rattle.sim_sound.proofs.Chains.{own_once}
use Rattle.sim_sound.proofs.Ends.{goes_below, released, suspended}
use Rattle.sim_sound.proofs.Evals.{IsFine, Work, work_owner}
use Rattle.sim_sound.proofs.Heads.{at_is, head_outer, headed_as, headed_then, stands_as, well_formed}
use Rattle.sim_sound.proofs.Later.{All, Later, object_later, owner_is}
use Rattle.sim_sound.proofs.Lifts.{Goes, any_popped, computed, had, known_popped, stops}
use Rattle.sim_sound.proofs.Lists.{same_some, set_other, there_get}
use Rattle.sim_sound.proofs.Moves.{placed_as}
use Rattle.sim_sound.proofs.Reach.{has_itself}
use Rattle.sim_sound.proofs.Running.{Begun, ChainFine, Headed, IsRelease, Operates, Placed, StoreFine, footing, idle, is_resumed, parts, resumes, seat_on}
use Rattle.sim_sound.proofs.Sound.{component_kind}
use Rattle.sim_sound.proofs.Values.{Component, DeepFine, HandsFine, Kinds, Marks, ObjectOf, Present, Stays, Suspended, Takes, see}
use Rattle.sim_sound.proofs.Standings.{AllFine, Ends, after_one, ends_in_one, joins, keeps_main, kinds_same, later_changed, lets_go, main_on, released_below, then_waits}

-- ---- the transfers

no_ok : {P : Type 0} {a : P} {e : RunError} → ◌≡◌ {A = Result P RunError} (Err e) (Ok a) → ⊥
no_ok e = cc

ok_is : {P : Type 0} {a b : P} → ◌≡◌ {A = Result P RunError} (Ok a) (Ok b) → a ≡ b
ok_is e = cc

module _ (s : Source) (ok : Typed s) (o : World) (g : Marks) (long : length g.sights ≡ length o.arrays) (m : Instances) (chain : List Activation) (store : StoreFine s (see g o) m) (placed : Placed m chain) (headed : Headed m chain) (fine : ChainFine s (see g o) m chain (Takes None)) where
  abbrev c : Components Activation
  c = parts m chain

  abbrev head : ℕ → ℕ
  head = system_head m

  abbrev After : Components Activation → Run Configuration
  After d = going_below o d.operating (record m { standings = d.standings })

  well : IsWellFormed owner head c
  well = well_formed s (see g o) m chain store placed headed

  here_fine : AllFine s (see g o) m chain (Takes None)
  here_fine = record { store = store; placed = placed; fine = fine }

  goes_after : (d e : Components Activation) → d ≡ e → Goes (IsFine s) (After d) → Goes (IsFine s) (After e)
  goes_after d e same f = subst (λ z. Goes (IsFine s) (After z)) same f

  -- what is fine and well formed goes on
  goes_then : (g' : Marks) → length g'.sights ≡ length o.arrays → (d e : Components Activation) → d ≡ e → IsWellFormed owner head e → ((j : ℕ) → is_object_at (record m { standings = d.standings }) j ≡ is_object_at m j) → AllFine s (see g' o) (record m { standings = d.standings }) d.operating (Takes None) → Goes (IsFine s) (After e)
  goes_then g' long' d e same w kinds f =
      goes_after d e same (goes_below s o g' long' d.operating (record m { standings = d.standings }) f (headed_then m d (subst (IsWellFormed owner head) (sym same) w) headed.outer kinds))

  stays_on : (d : Components Activation) → c ≡ d → Goes (IsFine s) (After d)
  stays_on d same = goes_after c d same (goes_below s o g long chain m here_fine headed)

  first_is : (q : List Activation) → ChainFine s (see g o) m q (Takes None) → (b : Activation) × (rest : List Activation) × (q ≡ b ∷ rest)
  first_is [] f = absurd f
  first_is (b ∷ rest) f = (b, rest, refl)

  -- ---- an object is called

  called_on : (y : ℕ) (u : List Activation) (d : Components Activation) → slice_get m.standings y ≡ Some (DetachedObject u) → with_standing y AttachedObject (with_operating (u ++ chain) c) ≡ d → call c (Some y) ≡ Ok d → Goes (IsFine s) (After d)
  called_on y u d is same e =
      let b = first_is chain fine in
      let v = see g o in
      goes_then g long (with_standing y AttachedObject (with_operating (u ++ chain) c)) d same (call_law owner head c d (Some y) well e) (kinds_same s v v m y (DetachedObject u) AttachedObject is refl refl refl refl)
      (subst (λ q. AllFine s v (record m { standings = slice_set m.standings y AttachedObject }) (u ++ q) (Takes None)) (sym b.2)
      (joins s v m y u AttachedObject is tt refl (λ z. cc) (λ q n a. tt) b.0 b.1 (Takes None) (λ t. tt) (subst (λ q. AllFine s v m q (Takes None)) b.2 here_fine)))

  call_on : (y : Option ℕ) (d : Components Activation) → call c y ≡ Ok d → Goes (IsFine s) (After d)
  call_on None d e = absurd (no_ok e)
  call_on (Some y) d e = by_standing (standing_of c y) refl (e)
    where
      by_standing : (x : Standing Activation) → standing_of c y ≡ x → call_by x c y ≡ Ok d → Goes (IsFine s) (After d)
      by_standing (NoObject main) is q = absurd (no_ok q)
      by_standing AttachedObject is q = absurd (no_ok q)
      by_standing TerminatedObject is q = absurd (no_ok q)
      by_standing ResumedObject is q = absurd (no_ok q)
      by_standing (DetachedObject u) is q = called_on y u d (stands_as m.standings y (DetachedObject u) is (λ z. cc)) (ok_is q) e

  pub called : (line : ℕ) (y : Option ℕ) → Goes (IsFine s) (having (transferred owner Calling head c y) o (λ r. computing line r o After))
  called line y = had (IsFine s) (Some (call c y)) (call c y) o (λ r. computing line r o After) refl (computed (IsFine s) line (call c y) o After (λ d e. call_on y d e))

  -- ---- the chain is cut at a system head

  module _ (y : ℕ) (k : Cut Activation) (cut : IsCut owner y chain k) where
    here_is : owner k.here ≡ Some y
    here_is = cut.here

    whole : AllFine s (see g o) m (k.above ++ k.here ∷ k.below) (Takes None)
    whole = subst (λ z. AllFine s (see g o) m z (Takes None)) (sym cut.chain) here_fine

    -- what stands on the chain has a number
    there : (x : Standing Activation) → standing_of c y ≡ x → slice_get m.standings y ≡ Some x
    there x is =
        ⊎_elim
        (λ less. let q = there_get m.standings y less in q.1 ∙ ap (λ z. Some z) (sym (at_is m.standings y q.0 (NoObject None) q.1) ∙ is))
        (λ more. absurd (let many = placed.as_many in let none = placed.made y (omega (arith, more, many)) in let parts = times-append owner y k.above (k.here ∷ k.below) in let all = ap (times_on owner y) cut.chain in let one = own_once y (owner k.here) here_is in omega (arith, none, parts, all, one)))
        (cases_lt y (length m.standings))

    -- the resumed object above it lets go
    module _ (main : List Activation) (keeps : standing_of c y ≡ NoObject (Some main)) where
      r : HasResumed owner head c y
      r = headed.main y main keeps

      last : outermost owner k.above ≡ Some r.object
      last = directly owner head c y k r.object well cut r.resumed r.its_head

      end : Ends k.above r.object
      end = ends_in_one k.above r.object last

      abbrev Without : Instances
      Without = record m { standings = slice_set m.standings r.object (DetachedObject k.above) }

      resumed_is : slice_get m.standings r.object ≡ Some ResumedObject
      resumed_is = stands_as m.standings r.object ResumedObject r.resumed (λ z. cc)

      keeps_is : slice_get m.standings y ≡ Some (NoObject (Some main))
      keeps_is = stands_as m.standings y (NoObject (Some main)) keeps (λ z. cc)

      head_apart : y ≢ r.object
      head_apart same = let as_it = ap (slice_get m.standings) same in let a = keeps_is in let b = resumed_is in cc

      joined_there : AllFine s (see g o) m (end.above ++ end.here ∷ k.here ∷ k.below) (Takes None)
      joined_there = subst (λ z. AllFine s (see g o) m z (Takes None)) (ap (λ z. z ++ k.here ∷ k.below) end.is ∙ after_one end.above end.here (k.here ∷ k.below)) whole

      object_stays : Stays m r.object
      object_stays = store.kept r.object ResumedObject resumed_is

      let_go : AllFine s (see g o) Without (k.here ∷ k.below) Suspended
      let_go =
          let b = released_below s (see g o) m r.object ResumedObject resumed_is tt refl object_stays end.above end.here (k.here ∷ k.below) end.its k.above end.is joined_there in
          let resumed : resumes m (end.here).instance ≡ true = ap (resumes m) (owner_is end.here r.object end.its) ∙ ap (λ q. is_resumed q) resumed_is in
          subst (AllFine s (see g o) Without (k.here ∷ k.below)) (suspended (end.here).instance b.of_text b.waits (subst (λ q. IsRelease q (end.here).instance b.of_text b.waits) resumed b.release))
          (lets_go s (see g o) m r.object ResumedObject resumed_is tt refl object_stays end.above end.here (k.here ∷ k.below) end.its k.above end.is joined_there)

      kinds_without : (j : ℕ) → is_object_at Without j ≡ is_object_at m j
      kinds_without j = kinds_same s (see g o) (see g o) m r.object ResumedObject (DetachedObject k.above) resumed_is refl refl refl refl j

      -- and the main component goes on
      main_goes : (d : Components Activation) → with_standing y (NoObject None) (with_operating (main ++ k.here ∷ k.below) (kept owner y k.above c)) ≡ d → IsWellFormed owner head d → Goes (IsFine s) (After d)
      main_goes d same w =
          let is = set_other m.standings r.object y (DetachedObject k.above) head_apart ∙ keeps_is in
          goes_then g long (with_standing y (NoObject None) (with_operating (main ++ k.here ∷ k.below) (with_standing r.object (DetachedObject k.above) c))) d
          (ap (λ z. with_standing y (NoObject None) (with_operating (main ++ k.here ∷ k.below) z)) (sym (kept_object owner head c y r.object main k.above keeps last)) ∙ same) w
          (λ j. kinds_same s (see g o) (see g o) Without y (NoObject (Some main)) (NoObject None) is refl refl refl refl j ∙ kinds_without j)
          (main_on s (see g o) Without y main is k.here k.below here_is let_go)

    -- a detached object of the system is resumed
    module _ (x : ℕ) (u : List Activation) (is : slice_get m.standings x ≡ Some (DetachedObject u)) where
      abbrev To : Components Activation → Components Activation
      To z = with_standing x ResumedObject (with_operating (u ++ k.here ∷ k.below) z)

      resume_goes : (d : Components Activation) → To (kept owner y k.above c) ≡ d → IsWellFormed owner head d → (z : Standing Activation) → standing_of c y ≡ z → is_object z ≡ false → Goes (IsFine s) (After d)
      resume_goes d same w (NoObject None) at none =
          let v = see g o in
          let at_y = there (NoObject None) at in
          let apart : x ≢ y = λ q. (let as_it = ap (slice_get m.standings) q in cc) in
          let g' : Marks = record g { waiting = then_waits s v m y at_y k.above k.here k.below here_is whole } in
          let n : Instances = record m { standings = slice_set m.standings y (NoObject (Some k.above)) } in
          let is_x = set_other m.standings y x (NoObject (Some k.above)) apart ∙ is in
          goes_then g' long (To (with_standing y (NoObject (Some k.above)) c)) d (ap (λ z. To (kept_by owner z y k.above c)) (sym at) ∙ same) w
          (λ j. kinds_same s v v n x (DetachedObject u) ResumedObject is_x refl refl refl refl j ∙ kinds_same s v v m y (NoObject None) (NoObject (Some k.above)) at_y refl refl refl refl j)
          (joins s (see g' o) n x u ResumedObject is_x tt refl (λ q. cc) (λ q n a. a) k.here k.below Suspended (λ t. tt) (keeps_main s v m y at_y k.above k.here k.below here_is whole))
      resume_goes d same w (NoObject (Some main)) at none =
          let v = see g o in
          let apart : x ≢ (r main at).object = λ q. (let as_it = ap (slice_get m.standings) q in let b = resumed_is main at in cc) in
          let is_x = set_other m.standings (r main at).object x (DetachedObject k.above) apart ∙ is in
          let n : Instances = record m { standings = slice_set m.standings (r main at).object (DetachedObject k.above) } in
          goes_then g long (To (with_standing (r main at).object (DetachedObject k.above) c)) d (ap To (sym (kept_object owner head c y (r main at).object main k.above at (last main at))) ∙ same) w
          (λ j. kinds_same s v v n x (DetachedObject u) ResumedObject is_x refl refl refl refl j ∙ kinds_without main at j)
          (joins s v n x u ResumedObject is_x tt refl (λ q. cc) (λ q n a. a) k.here k.below Suspended (λ t. tt) (let_go main at))
      resume_goes d same w AttachedObject at none = absurd (cc)
      resume_goes d same w (DetachedObject z) at none = absurd (cc)
      resume_goes d same w ResumedObject at none = absurd (cc)
      resume_goes d same w TerminatedObject at none = absurd (cc)

  -- ---- an object is resumed

  pub resume_on : (y : Option ℕ) (d : Components Activation) → resume owner head c y ≡ Ok d → Goes (IsFine s) (After d)
  resume_on None d e = absurd (no_ok e)
  resume_on (Some y) d e = by_standing (standing_of c y) refl e
    where
      by_cut : (u : List Activation) → slice_get m.standings y ≡ Some (DetachedObject u) → (k : Option (Cut Activation)) → cut_at owner (head y) chain ≡ k → resume_at owner k u c (head y) y ≡ Ok d → Goes (IsFine s) (After d)
      by_cut u is None cut q = absurd (no_ok q)
      by_cut u is (Some k) cut q = resume_goes (head y) k (cut_is owner (head y) chain k cut) y u is d (ok_is q) (resume_law owner head c d (Some y) well e) (standing_of c (head y)) refl (head_outer m headed.outer y)

      by_standing : (x : Standing Activation) → standing_of c y ≡ x → resume_by owner x c (head y) y ≡ Ok d → Goes (IsFine s) (After d)
      by_standing (NoObject main) is q = absurd (no_ok q)
      by_standing AttachedObject is q = absurd (no_ok q)
      by_standing TerminatedObject is q = absurd (no_ok q)
      by_standing ResumedObject is q = stays_on d (ok_is q)
      by_standing (DetachedObject u) is q = by_cut u (stands_as m.standings y (DetachedObject u) is (λ z. cc)) (cut_at owner (head y) chain) refl q

  pub resumes_on : (line : ℕ) (y : Option ℕ) → Goes (IsFine s) (having (transferred owner Resuming head c y) o (λ r. computing line r o After))
  resumes_on line y = had (IsFine s) (Some (resume owner head c y)) (resume owner head c y) o (λ r. computing line r o After) refl (computed (IsFine s) line (resume owner head c y) o After (λ d e. resume_on y d e))

  -- ---- an object detaches itself

  -- where it is resumed, the main component of its system goes on
  pub main_on_again : (y : ℕ) (d : Components Activation) → resume_main owner c y ≡ Ok d → Goes (IsFine s) (After d)
  main_on_again y d e = by_standing (standing_of c y) refl e
    where
      by_cut : (main : List Activation) → standing_of c y ≡ NoObject (Some main) → (k : Option (Cut Activation)) → cut_at owner y chain ≡ k → main_at owner k main c y ≡ Ok d → Goes (IsFine s) (After d)
      by_cut main is None cut q = absurd (no_ok q)
      by_cut main is (Some k) cut q = main_goes y k (cut_is owner y chain k cut) main is d (ok_is q) (main_law owner head c d y well e)

      by_standing : (x : Standing Activation) → standing_of c y ≡ x → main_by owner x c y ≡ Ok d → Goes (IsFine s) (After d)
      by_standing (NoObject None) is q = stays_on d (ok_is q)
      by_standing (NoObject (Some main)) is q = by_cut main is (cut_at owner y chain) refl q
      by_standing AttachedObject is q = stays_on d (ok_is q)
      by_standing (DetachedObject u) is q = stays_on d (ok_is q)
      by_standing ResumedObject is q = stays_on d (ok_is q)
      by_standing TerminatedObject is q = stays_on d (ok_is q)

  module _ (y class : ℕ) (object : ObjectOf s m y class) where
    stays : Stays m y
    stays = record { now = object.now; lives = object.lives; stays = object.stays }

    -- it is one of the class of its own text
    own_class : (t : ℕ) (todo : List DeclNo) (i : ℕ) → i ≡ y → (p : Present s m i t todo) → (p.now).text ≡ t → ObjectOf s m y t
    own_class t todo i at p own =
        let same = same_some (live m y) p.now object.now (ap (live m) (sym at) ∙ p.lives) object.lives in
        let is : (object.now).text ≡ t = ap (λ z. z.text) (sym same) ∙ own in
        record {
          now = object.now;
          lives = object.lives;
          object = object.object;
          levels = ap (λ z. has_level s.tables z t) is ∙ has_itself s ok t;
          stays = object.stays;
          words = object.words;
          has_text = object.has_text;
          made = object.made;
        }

    own_text_is : (t : ℕ) (todo : List DeclNo) (i : ℕ) → i ≡ y → (p : Present s m i t todo) → (p.now).text ≡ t → (object.now).text ≡ t
    own_text_is t todo i at p own = ap (λ z. z.text) (sym (same_some (live m y) p.now object.now (ap (live m) (sym at) ∙ p.lives) object.lives)) ∙ own

    left_on : slice_get m.standings y ≡ Some AttachedObject → (k : Cut Activation) → IsCut owner y chain k → (d : Components Activation) → with_standing y (DetachedObject (upper k)) (with_operating k.below c) ≡ d → IsWellFormed owner head d → Goes (IsFine s) (After d)
    left_on is k cut d same w =
        let v = see g o in
        let own = here_is y k cut in
        let at = owner_is k.here y own in
        let f = whole y k cut in
        let n : Instances = record m { standings = slice_set m.standings y (DetachedObject (upper k)) } in
        let b = released_below s v m y AttachedObject is tt refl stays k.above k.here k.below own (upper k) refl f in
        let a : AllFine s v n k.below b.waits = lets_go s v m y AttachedObject is tt refl stays k.above k.here k.below own (upper k) refl f in
        let unresumed : resumes m (k.here).instance ≡ false = ap (resumes m) at ∙ ap (λ q. is_resumed q) is in
        let release : IsRelease false y b.of_text b.waits = subst (λ q. IsRelease false q b.of_text b.waits) at (subst (λ q. IsRelease q (k.here).instance b.of_text b.waits) unresumed b.release) in
        let e : Later s v m v n All = later_changed s v v m y AttachedObject (DetachedObject (upper k)) is refl refl refl refl in
        goes_then g long (with_standing y (DetachedObject (upper k)) (with_operating k.below c)) d same w (kinds_same s v v m y AttachedObject (DetachedObject (upper k)) is refl refl refl refl)
        (record { store = a.store; placed = a.placed; fine = released s ok v n a.store k.below b.waits y b.of_text release (object_later s v m v n All e y b.of_text (own_class b.of_text b.todo (k.here).instance at b.here b.own)) object.now object.lives (own_text_is b.of_text b.todo (k.here).instance at b.here b.own) a.fine })

    detach_on : (d : Components Activation) → detach owner head c y ≡ Ok d → Goes (IsFine s) (After d)
    detach_on d e = by_standing (standing_of c y) refl e
      where
        by_cut : slice_get m.standings y ≡ Some AttachedObject → (k : Option (Cut Activation)) → cut_at owner y chain ≡ k → leave_at owner k c y ≡ Ok d → Goes (IsFine s) (After d)
        by_cut is None cut q = absurd (no_ok q)
        by_cut is (Some k) cut q = left_on is k (cut_is owner y chain k cut) d (ok_is q) (detach_law owner head c d y well e)

        by_place : (k : Option (Cut Activation)) → give_up_at owner k c (head y) ≡ Ok d → Goes (IsFine s) (After d)
        by_place None q = absurd (no_ok q)
        by_place (Some k) q = main_on_again (head y) d q

        by_standing : (x : Standing Activation) → standing_of c y ≡ x → detach_by owner x c (head y) y ≡ Ok d → Goes (IsFine s) (After d)
        by_standing (NoObject main) is q = stays_on d (ok_is q)
        by_standing AttachedObject is q = by_cut (stands_as m.standings y AttachedObject is (λ z. cc)) (cut_at owner y chain) refl q
        by_standing ResumedObject is q = by_place (cut_at owner y chain) q
        by_standing (DetachedObject u) is q = absurd (no_ok q)
        by_standing TerminatedObject is q = absurd (no_ok q)

    pub detaches : (line : ℕ) → Goes (IsFine s) (having (transferred owner Detaching head c (Some y)) o (λ r. computing line r o After))
    detaches line = had (IsFine s) (Some (detach owner head c y)) (detach owner head c y) o (λ r. computing line r o After) refl (computed (IsFine s) line (detach owner head c y) o After (λ d e. detach_on d e))

module _ (s : Source) (ok : Typed s) (l : Limits) (o : World) (g : Marks) (long : length g.sights ≡ length o.arrays) (m : Instances) (i t : ℕ) (rest : List Activation) (top : Operates g.beneath g.seat m i rest) (w : List Item) (vals : List Val) (todo todo' : List DeclNo) (before behind : List Kinds) (b : Begun s (see g o) m i t todo) (h : HandsFine s (see g o) m i before vals) (work : Work s o g long m i t rest top w todo' behind) where
  abbrev pub Chain : List Val → List Activation
  Chain vs = record { instance = i; work = w; values = vs } ∷ rest

  pub waits_fine : todo' ≡ todo → (vs : List Val) → HandsFine s (see g o) m i behind vs → ChainFine s (see g o) m (Chain vs) (Takes None)
  waits_fine same vs more =
      let goes = subst (λ z. Work s o g long m i t rest top w z behind) same work in
      let own = work_owner s o g long m i t rest top w vs todo behind goes in
      record { of_text = t; todo = todo; here = b.here; own = b.own; stands_on = λ j is. top.stands_on j (sym own ∙ is); seat = g.seat; seated = ap (λ u. seat_on u (footing None rest)) own ∙ top.seated; works = b.works; vals = vs; shown = refl; kinds = behind; hands = more; expected = behind; expects = refl; goes = goes }

  pub own_then : todo' ≡ todo → (vs : List Val) → owner (record { instance = i; work = w; values = vs }) ≡ owner (idle g.seat i)
  own_then same vs = work_owner s o g long m i t rest top w vs todo behind (subst (λ z. Work s o g long m i t rest top w z behind) same work)

  calls : todo' ≡ todo → (line : ℕ) (vs : List Val) → HandsFine s (see g o) m i behind vs → (p : Plain) → kind_of p ≡ kind.Reference → Goes (IsFine s) (transferring owner Calling line o (Chain vs) m p)
  unfolding transferring
  calls same line vs more (Object j) e = had (IsFine s) (Some (Some j)) (Some j) o _ refl (called s ok o g long m (Chain vs) b.store (placed_as m (idle g.seat i) (record { instance = i; work = w; values = vs }) rest (own_then same vs) top.placed) (headed_as m (idle g.seat i) (record { instance = i; work = w; values = vs }) rest (own_then same vs) top.headed) (waits_fine same vs more) line (Some j))
  calls same line vs more Nothing e = had (IsFine s) (Some None) None o _ refl (called s ok o g long m (Chain vs) b.store (placed_as m (idle g.seat i) (record { instance = i; work = w; values = vs }) rest (own_then same vs) top.placed) (headed_as m (idle g.seat i) (record { instance = i; work = w; values = vs }) rest (own_then same vs) top.headed) (waits_fine same vs more) line None)
  calls same line vs more (MainOf z) e = stops (IsFine s) (RunFault (refused_of_main Calling) line) o (λ q. cc)
  calls same line vs more (Integer z) e = absurd (cc)
  calls same line vs more (Character z) e = absurd (cc)
  calls same line vs more (Truth z) e = absurd (cc)
  calls same line vs more (Text z) e = absurd (cc)

  resumptions : todo' ≡ todo → (line : ℕ) (vs : List Val) → HandsFine s (see g o) m i behind vs → (p : Plain) → kind_of p ≡ kind.Reference → Goes (IsFine s) (transferring owner Resuming line o (Chain vs) m p)
  unfolding transferring
  resumptions same line vs more (Object j) e = had (IsFine s) (Some (Some j)) (Some j) o _ refl (resumes_on s ok o g long m (Chain vs) b.store (placed_as m (idle g.seat i) (record { instance = i; work = w; values = vs }) rest (own_then same vs) top.placed) (headed_as m (idle g.seat i) (record { instance = i; work = w; values = vs }) rest (own_then same vs) top.headed) (waits_fine same vs more) line (Some j))
  resumptions same line vs more Nothing e = had (IsFine s) (Some None) None o _ refl (resumes_on s ok o g long m (Chain vs) b.store (placed_as m (idle g.seat i) (record { instance = i; work = w; values = vs }) rest (own_then same vs) top.placed) (headed_as m (idle g.seat i) (record { instance = i; work = w; values = vs }) rest (own_then same vs) top.headed) (waits_fine same vs more) line None)
  resumptions same line vs more (MainOf z) e = stops (IsFine s) (RunFault (refused_of_main Resuming) line) o (λ q. cc)
  resumptions same line vs more (Integer z) e = absurd (cc)
  resumptions same line vs more (Character z) e = absurd (cc)
  resumptions same line vs more (Truth z) e = absurd (cc)
  resumptions same line vs more (Text z) e = absurd (cc)

  leaves : todo' ≡ todo → (line : ℕ) (vs : List Val) → HandsFine s (see g o) m i behind vs → (j c : ℕ) → ObjectOf s m j c → Goes (IsFine s) (transferring owner Detaching line o (Chain vs) m (Object j))
  unfolding transferring
  leaves same line vs more j c object = had (IsFine s) (Some (Some j)) (Some j) o _ refl (detaches s ok o g long m (Chain vs) b.store (placed_as m (idle g.seat i) (record { instance = i; work = w; values = vs }) rest (own_then same vs) top.placed) (headed_as m (idle g.seat i) (record { instance = i; work = w; values = vs }) rest (own_then same vs) top.headed) (waits_fine same vs more) j c object line)

  main_leaves_not : (line : ℕ) (vs : List Val) (z : ℕ) → Goes (IsFine s) (transferring owner Detaching line o (Chain vs) m (MainOf z))
  unfolding transferring
  main_leaves_not line vs z = stops (IsFine s) (RunFault (refused_of_main Detaching) line) o (λ q. cc)

  -- the value in hand is an object or a main program
  object_in_hand : todo' ≡ todo → (line : ℕ) (vs : List Val) → HandsFine s (see g o) m i behind vs → (v : Val) → DeepFine s (see g o) m i vs Component v → Goes (IsFine s) (having (plain v) o (λ p. transferring owner Detaching line o (Chain vs) m p))
  object_in_hand same line vs more (Of (Object j)) a = had (IsFine s) (Some (Object j)) (Object j) o (λ p. transferring owner Detaching line o (Chain vs) m p) refl (leaves same line vs more j a.0 a.1)
  object_in_hand same line vs more (Of (MainOf z)) a = had (IsFine s) (Some (MainOf z)) (MainOf z) o (λ p. transferring owner Detaching line o (Chain vs) m p) refl (main_leaves_not line vs z)
  object_in_hand same line vs more (Of Nothing) a = absurd a
  object_in_hand same line vs more (Of (Integer z)) a = absurd a
  object_in_hand same line vs more (Of (Character z)) a = absurd a
  object_in_hand same line vs more (Of (Truth z)) a = absurd a
  object_in_hand same line vs more (Of (Text z)) a = absurd a
  object_in_hand same line vs more (Link z) a = absurd a
  object_in_hand same line vs more (Address z) a = absurd a
  object_in_hand same line vs more (ArrayValue z) a = absurd a
  object_in_hand same line vs more (ProcedureValue z y) a = absurd a
  object_in_hand same line vs more (Actual home pr z) a = absurd a

  pub transfer_op : (x : Transfer) (line : ℕ) → (before ≡ component_kind x ∷ behind) × (todo' ≡ todo) → Goes (IsFine s) (do_op s l o m i w vals rest (TransferOp x line))
  unfolding pop_plain
  transfer_op Calling line a =
      known_popped (IsFine s) s (see g o) m i kind.Reference behind vals o (λ p vs. transferring owner Calling line o (Chain vs) m p) (subst (λ z. HandsFine s (see g o) m i z vals) a.0 h) (λ p vs fine more. calls a.1 line vs more p fine.0)
  transfer_op Resuming line a =
      known_popped (IsFine s) s (see g o) m i kind.Reference behind vals o (λ p vs. transferring owner Resuming line o (Chain vs) m p) (subst (λ z. HandsFine s (see g o) m i z vals) a.0 h) (λ p vs fine more. resumptions a.1 line vs more p fine.0)
  transfer_op Detaching line a =
      any_popped (IsFine s) s (see g o) m i Component behind vals o (λ v vs. having (plain v) o (λ p. transferring owner Detaching line o (Chain vs) m p)) (subst (λ z. HandsFine s (see g o) m i z vals) a.0 h) (λ v vs same fine more. object_in_hand a.1 line vs more v fine)
