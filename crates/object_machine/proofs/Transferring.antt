-- Transfers of control: what the rows do.
use Rattle.std.proofs.Common.{◌≡◌, ℕ, List, [], ◌∷◌, ◌++◌, map, set, sym, refl, ap, ◌∙◌, eq-eqb}
use Rattle.std.specs.Prelude.{Bool, true, false, ◌||◌, if◌then◌else◌, Option, Some, None, slice_get}
use Rattle.std.specs.Option.{option_map}
use Rattle.sim_base.specs.declared.run_error.RunError.TheVariants.{ComponentIsAttached, ComponentIsResumed, ComponentIsTerminated, NoneIsNoComponent, ObjectNotOperating, ResumedIsAttached, SystemNotOperating}
use Rattle.sim_values.specs.Plain.{Plain, Integer, Truth, Character, Text, Object, MainOf, Nothing}
use Rattle.sim_chains.specs.Chains.{Cut, cut_at, is_instance, outermost, stands_on, under, upper}
use Rattle.sim_chains.specs.Components.{AttachedObject, Components, DetachedObject, NoObject, ResumedObject, Standing, TerminatedObject, call_by, detach_by, give_up_at, kept, kept_as, kept_by, leave_at, main_at, main_by, resume_at, resume_by}
use Rattle.sim_code.specs.Events.{computing, having, no_rule, pop_plain, popping, stopping}
use Rattle.sim_code.specs.Instances.{going_below, system_head}
use Rattle.sim_code.specs.Machine.{Activation, Frames, Machine, Value, owner, plain}
use Rattle.sim_code.specs.Outcome.{Run, RunFault, World}
use Rattle.sim_code.specs.Transfers.{Calling, Detaching, Resuming, Transfer, refused_of_main, transferring}
use Rattle.frame_arena.specs.declared.frames.Component.{Component}
use Rattle.frame_arena.specs.declared.frames.Component.TheVariants as component
use Rattle.frame_arena.specs.Frames.{StandsAs}
use Rattle.frame_arena.proofs.Enclosers.{index_there}
use Rattle.object_machine.specs.declared.machine.Activation as working
use Rattle.object_machine.specs.Classing.{IsNoReference}
use Rattle.object_machine.specs.Standing.{activation_of}
use Rattle.object_machine.specs.Transferring.{controlling, frame_of}

-- ---- what a transfer does, by how the instance stands

module _ (line : ℕ) (o : World) (chain : List Activation) (m : Frames) (j : ℕ) where
  abbrev pub Board : Components Activation
  Board = record { operating = chain; standings = m.standings }

  abbrev Go : Components Activation → Run Machine
  Go c = going_below o c.operating (record m { standings = c.standings })

  detach_as : (s : Standing Activation) → slice_get m.standings j ≡ Some s → transferring owner Detaching line o chain m (Object j) ≡ computing line (detach_by owner s Board (system_head m j) j) o Go
  unfolding transferring having
  detach_as s e = ap (λ s. computing line (detach_by owner s Board (system_head m j) j) o Go) (index_there m.standings j s (NoObject None) e)

  pub stays : (main : Option (List Activation)) → slice_get m.standings j ≡ Some (NoObject main) → transferring owner Detaching line o chain m (Object j) ≡ going_below o chain m
  unfolding computing
  stays main e = detach_as (NoObject main) e

  pub detach_detached : (chain0 : List Activation) → slice_get m.standings j ≡ Some (DetachedObject chain0) → transferring owner Detaching line o chain m (Object j) ≡ stopping (RunFault ObjectNotOperating line) o
  unfolding computing
  detach_detached chain0 e = detach_as (DetachedObject chain0) e

  pub detach_terminated : slice_get m.standings j ≡ Some TerminatedObject → transferring owner Detaching line o chain m (Object j) ≡ stopping (RunFault ObjectNotOperating line) o
  unfolding computing
  detach_terminated e = detach_as TerminatedObject e

  pub leaves : (k : Cut Activation) → slice_get m.standings j ≡ Some AttachedObject → cut_at owner j chain ≡ Some k →
      transferring owner Detaching line o chain m (Object j) ≡ going_below o k.below (record m { standings = set m.standings j (DetachedObject (upper k)) })
  unfolding computing
  leaves k e h = detach_as AttachedObject e ∙ ap (λ q. computing line (leave_at owner q Board j) o Go) h

  pub leaves_none : slice_get m.standings j ≡ Some AttachedObject → cut_at owner j chain ≡ None → transferring owner Detaching line o chain m (Object j) ≡ stopping (RunFault ObjectNotOperating line) o
  unfolding computing
  leaves_none e h = detach_as AttachedObject e ∙ ap (λ q. computing line (leave_at owner q Board j) o Go) h

  pub gives_none : slice_get m.standings j ≡ Some ResumedObject → cut_at owner j chain ≡ None → transferring owner Detaching line o chain m (Object j) ≡ stopping (RunFault ObjectNotOperating line) o
  unfolding computing
  gives_none e h = detach_as ResumedObject e ∙ ap (λ q. computing line (give_up_at owner q Board (system_head m j)) o Go) h

  -- A resumed object that operates gives control to the main component of its system.
  pub gives : (k : Cut Activation) → slice_get m.standings j ≡ Some ResumedObject → cut_at owner j chain ≡ Some k → (s : ℕ) → s ≡ system_head m j → transferring owner Detaching line o chain m (Object j) ≡ controlling line o chain m s None
  gives k e h s is =
      detach_as ResumedObject e ∙ ap (λ q. computing line (give_up_at owner q Board (system_head m j)) o Go) h
      ∙ sym (ap (λ s. computing line (give_up_at owner (Some k) Board s) o Go) is)

  call_as : (s : Standing Activation) → slice_get m.standings j ≡ Some s → transferring owner Calling line o chain m (Object j) ≡ computing line (call_by s Board j) o Go
  unfolding transferring having
  call_as s e = ap (λ s. computing line (call_by s Board j) o Go) (index_there m.standings j s (NoObject None) e)

  pub call_no_object : (main : Option (List Activation)) → slice_get m.standings j ≡ Some (NoObject main) → transferring owner Calling line o chain m (Object j) ≡ stopping (RunFault ComponentIsAttached line) o
  unfolding computing
  call_no_object main e = call_as (NoObject main) e

  pub call_attached : slice_get m.standings j ≡ Some AttachedObject → transferring owner Calling line o chain m (Object j) ≡ stopping (RunFault ComponentIsAttached line) o
  unfolding computing
  call_attached e = call_as AttachedObject e

  pub call_resumed : slice_get m.standings j ≡ Some ResumedObject → transferring owner Calling line o chain m (Object j) ≡ stopping (RunFault ComponentIsResumed line) o
  unfolding computing
  call_resumed e = call_as ResumedObject e

  pub call_terminated : slice_get m.standings j ≡ Some TerminatedObject → transferring owner Calling line o chain m (Object j) ≡ stopping (RunFault ComponentIsTerminated line) o
  unfolding computing
  call_terminated e = call_as TerminatedObject e

  pub joins : (chain0 : List Activation) → slice_get m.standings j ≡ Some (DetachedObject chain0) →
      transferring owner Calling line o chain m (Object j) ≡ going_below o (chain0 ++ chain) (record m { standings = set m.standings j AttachedObject })
  unfolding computing
  joins chain0 e = call_as (DetachedObject chain0) e

  resume_as : (s : Standing Activation) → slice_get m.standings j ≡ Some s → transferring owner Resuming line o chain m (Object j) ≡ computing line (resume_by owner s Board (system_head m j) j) o Go
  unfolding transferring having
  resume_as s e = ap (λ s. computing line (resume_by owner s Board (system_head m j) j) o Go) (index_there m.standings j s (NoObject None) e)

  pub resume_no_object : (main : Option (List Activation)) → slice_get m.standings j ≡ Some (NoObject main) → transferring owner Resuming line o chain m (Object j) ≡ stopping (RunFault ResumedIsAttached line) o
  unfolding computing
  resume_no_object main e = resume_as (NoObject main) e

  pub resume_attached : slice_get m.standings j ≡ Some AttachedObject → transferring owner Resuming line o chain m (Object j) ≡ stopping (RunFault ResumedIsAttached line) o
  unfolding computing
  resume_attached e = resume_as AttachedObject e

  pub resume_terminated : slice_get m.standings j ≡ Some TerminatedObject → transferring owner Resuming line o chain m (Object j) ≡ stopping (RunFault ComponentIsTerminated line) o
  unfolding computing
  resume_terminated e = resume_as TerminatedObject e

  pub resumed_stays : slice_get m.standings j ≡ Some ResumedObject → transferring owner Resuming line o chain m (Object j) ≡ going_below o chain m
  unfolding computing
  resumed_stays e = resume_as ResumedObject e

  module _ (chain0 : List Activation) (e : slice_get m.standings j ≡ Some (DetachedObject chain0)) (s : ℕ) (is : s ≡ system_head m j) where
    at_head : transferring owner Resuming line o chain m (Object j) ≡ computing line (resume_at owner (cut_at owner s chain) chain0 Board s j) o Go
    at_head = resume_as (DetachedObject chain0) e ∙ sym (ap (λ s. computing line (resume_at owner (cut_at owner s chain) chain0 Board s j) o Go) is)

    pub resumes_none : cut_at owner s chain ≡ None → transferring owner Resuming line o chain m (Object j) ≡ stopping (RunFault SystemNotOperating line) o
    unfolding computing
    resumes_none away = at_head ∙ ap (λ q. computing line (resume_at owner q chain0 Board s j) o Go) away

    pub resumes : (d : Cut Activation) → cut_at owner s chain ≡ Some d →
        transferring owner Resuming line o chain m (Object j) ≡ going_below o (chain0 ++ d.here ∷ d.below) (record m { standings = set (kept owner s d.above Board).standings j ResumedObject })
    unfolding computing
    resumes d at = at_head ∙ ap (λ q. computing line (resume_at owner q chain0 Board s j) o Go) at

-- ---- the main component of a system goes on, of which the head S stands so

module _ (line : ℕ) (o : World) (chain : List Activation) (m : Frames) (s : ℕ) where
  main_as : (q : Standing Activation) → slice_get m.standings s ≡ Some q → controlling line o chain m s None ≡ computing line (main_by owner q (Board line o chain m s) s) o (Go line o chain m s)
  main_as q there = ap (λ q. computing line (main_by owner q (Board line o chain m s) s) o (Go line o chain m s)) (index_there m.standings s q (NoObject None) there)

  pub main_stays : (c : Component) → (c ≡ component.Waiting → ⊥) → StandsAs c (slice_get m.standings s) → controlling line o chain m s None ≡ going_below o chain m
  unfolding computing
  main_stays component.NoObject ne there = main_as (NoObject None) there
  main_stays component.Waiting ne there = absurd (ne refl)
  main_stays component.Attached ne there = main_as AttachedObject there
  main_stays component.Detached ne there = main_as (DetachedObject there.0) there.1
  main_stays component.Resumed ne there = main_as ResumedObject there
  main_stays component.Terminated ne there = main_as TerminatedObject there

  pub main_none : (main : List Activation) → slice_get m.standings s ≡ Some (NoObject (Some main)) → cut_at owner s chain ≡ None → controlling line o chain m s None ≡ stopping (RunFault SystemNotOperating line) o
  unfolding computing
  main_none main there away = main_as (NoObject (Some main)) there ∙ ap (λ q. computing line (main_at owner q main (Board line o chain m s) s) o (Go line o chain m s)) away

  pub main_goes : (main : List Activation) (d : Cut Activation) → slice_get m.standings s ≡ Some (NoObject (Some main)) → cut_at owner s chain ≡ Some d →
      controlling line o chain m s None ≡ going_below o (main ++ d.here ∷ d.below) (record m { standings = set (kept_as owner (outermost owner d.above) d.above (Board line o chain m s)).standings s (NoObject None) })
  unfolding computing
  main_goes main d there at =
      main_as (NoObject (Some main)) there ∙ ap (λ q. computing line (main_at owner q main (Board line o chain m s) s) o (Go line o chain m s)) at
      ∙ ap (λ q. going_below o (main ++ d.here ∷ d.below) (record m { standings = set (kept_by owner q s d.above (Board line o chain m s)).standings s (NoObject None) })) (index_there m.standings s (NoObject (Some main)) (NoObject None) there)

-- ---- what is no object

module _ (line : ℕ) (o : World) (chain : List Activation) (m : Frames) where
  pub detach_none : transferring owner Detaching line o chain m Nothing ≡ no_rule o
  unfolding transferring having
  detach_none = refl

  pub call_none : transferring owner Calling line o chain m Nothing ≡ stopping (RunFault NoneIsNoComponent line) o
  unfolding transferring having computing
  call_none = refl

  pub resume_none : transferring owner Resuming line o chain m Nothing ≡ stopping (RunFault NoneIsNoComponent line) o
  unfolding transferring having computing
  resume_none = refl

  -- a main program is refused
  pub main_refused : (t : Transfer) (b : ℕ) → transferring owner t line o chain m (MainOf b) ≡ stopping (RunFault (refused_of_main t) line) o
  unfolding transferring
  main_refused t b = refl

  pub no_component : (t : Transfer) (v : Option Plain) → IsNoReference v → having v o (λ v. transferring owner t line o chain m v) ≡ no_rule o
  unfolding transferring having
  no_component t None h = refl
  no_component t (Some (Integer z)) h = refl
  no_component t (Some (Truth b)) h = refl
  no_component t (Some (Character c)) h = refl
  no_component t (Some (Text w)) h = refl
  no_component t (Some (Object i)) h = absurd h
  no_component t (Some (MainOf i)) h = absurd h
  no_component t (Some Nothing) h = absurd h

pub plain_popped : (stack : List Value) (o : World) (go : Plain → List Value → Run Machine) → pop_plain plain stack o go ≡ popping stack o (λ v rest. having (plain v) o (λ p. go p rest))
unfolding pop_plain
plain_popped stack o go = refl

-- ---- where a chain is cut

pub neither : (a b : Bool) → (a || b) ≡ false → (a ≡ false) × (b ≡ false)
neither false false e = (refl, refl)
neither false true e = absurd (cc)
neither true b e = absurd (cc)

abbrev Cut_if : (t : working.Activation) (ts : List working.Activation) (above : Option (Cut Activation)) (here : Bool) → Option (Cut Activation)
Cut_if t ts above here = if here then Some (record { above = []; here = activation_of t; below = map activation_of ts }) else option_map (under (activation_of t)) above

pub no_cut : (j : ℕ) (ts : List working.Activation) → stands_on frame_of j ts ≡ false → cut_at owner j (map activation_of ts) ≡ None
no_cut j [] e = refl
no_cut j (t ∷ ts) e =
    let n = neither (is_instance j (frame_of t)) (stands_on frame_of j ts) e in
    ap (λ b. Cut_if t ts (cut_at owner j (map activation_of ts)) b) n.0 ∙ ap (λ q. option_map (under (activation_of t)) q) (no_cut j ts n.1)

pub cut_here : (j : ℕ) (above : List working.Activation) (here : working.Activation) (rest : List working.Activation) → frame_of here ≡ Some j → stands_on frame_of j above ≡ false →
    cut_at owner j (map activation_of (above ++ here ∷ rest)) ≡ Some (record { above = map activation_of above; here = activation_of here; below = map activation_of rest })
cut_here j [] here rest own e = ap (λ b. Cut_if here rest (cut_at owner j (map activation_of rest)) b) (ap (is_instance j) own ∙ eq-eqb j j refl)
cut_here j (t ∷ ts) here rest own e =
    let n = neither (is_instance j (frame_of t)) (stands_on frame_of j ts) e in
    ap (λ b. Cut_if t (ts ++ here ∷ rest) (cut_at owner j (map activation_of (ts ++ here ∷ rest))) b) n.0 ∙ ap (λ q. option_map (under (activation_of t)) q) (cut_here j ts here rest own n.1)

-- an instance that stands on a chain cuts it somewhere
stands_cut : (j : ℕ) (t : working.Activation) (ts : List working.Activation) (b : Bool) (rest : (stands_on frame_of j ts ≡ true) → (k : Cut Activation) × (cut_at owner j (map activation_of ts) ≡ Some k)) → (is_instance j (frame_of t)) ≡ b → (b || stands_on frame_of j ts) ≡ true →
    (k : Cut Activation) × (cut_at owner j (map activation_of (t ∷ ts)) ≡ Some k)
stands_cut j t ts true rest e h = (record { above = []; here = activation_of t; below = map activation_of ts }, ap (λ b. Cut_if t ts (cut_at owner j (map activation_of ts)) b) e)
stands_cut j t ts false rest e h =
    let k = rest h in
    (under (activation_of t) k.0, ap (λ b. Cut_if t ts (cut_at owner j (map activation_of ts)) b) e ∙ ap (λ q. option_map (under (activation_of t)) q) k.1)

pub some_cut : (j : ℕ) (ts : List working.Activation) → stands_on frame_of j ts ≡ true → (k : Cut Activation) × (cut_at owner j (map activation_of ts) ≡ Some k)
some_cut j [] h = absurd (cc)
some_cut j (t ∷ ts) h = stands_cut j t ts (is_instance j (frame_of t)) (λ e. some_cut j ts e) refl h
