-- The procedures of a simulation block, and activations: each has a rule, and who goes on is decided.
use Rattle.std.proofs.Common.{◌≡◌, ℕ, zero, suc, ℤ, Bool, true, false, List, [], ◌∷◌, length, Option, Some, None, Result, Ok, refl, sym, ap, ◌∙◌, subst, arith}
use Rattle.std.specs.List.{position}
use Rattle.std.specs.Option.{option_map}
use Rattle.std.specs.Prelude.{◌+◌, ◌==◌, ◌&&◌, if◌then◌else◌, not, slice_get}
use Rattle.simset.specs.Instances.{Memberships, linkage_of}
use Rattle.simset.specs.Sets.{into, is_head_at, is_link_at}
use Rattle.sim_base.specs.declared.limits.Limits.{Limits}
use Rattle.sim_base.specs.declared.numbering.DeclNo.{DeclNo}
use Rattle.sim_base.specs.declared.run_error.RunError.{RunError}
use Rattle.notices.specs.declared.activation.Placement.{Placement}
use Rattle.notices.specs.declared.activation.Placement.TheVariants as place
use Rattle.notices.specs.declared.activation.ProcessRef.{ProcessRef}
use Rattle.notices.specs.declared.notice.Notice.{Notice}
use Rattle.notices.specs.Scheduling.{activated, cancelled, current, held, main, passivated}
use Rattle.sim_scope.specs.declared.types.SimType.{SimType}
use Rattle.sim_scope.specs.Levels.{is_simulation_block}
use Rattle.sim_scope.specs.Source.{Source, block_of}
use Rattle.sim_values.specs.declared.kind.Kind.TheVariants as kind
use Rattle.sim_values.specs.declared.standard.Standard.{Standard}
use Rattle.sim_values.specs.declared.standard.Standard.TheVariants as name
use Rattle.sim_values.specs.Plain.{Character, Integer, MainOf, Nothing, Object, Plain, Text, Truth, kind_of}
use Rattle.sim_values.specs.Standard.{row_of}
use Rattle.sim_code.specs.Events.{having, integer_in, pop_plain}
use Rattle.sim_code.specs.Outcome.{Run, Simulation, World}
use Rattle.sim_code.specs.Instances.{live}
use Rattle.sim_code.specs.Scheduling.{AtTime, Beside, Directly, Timing, WithDelay, at_time, beside, performing_activation, performing_simulation, placement, pop_block, pop_operand_if, waiting_in}
use Rattle.sim_code.specs.Sets.{linkage_given, linkage_named, set_effect, some_linkage}
use Rattle.sim_code.specs.Simulations.{current_process, located, named_as, named_if, named_in, number_in, object_numbered, process_by, process_first, process_numbered, seen, simulation_tells, with_end}
use Rattle.sim_meaning.specs.Attributes.{attribute_formals, is_connection}
use Rattle.sim_meaning.specs.Levels.{has_levels, in_process, in_process_class, stands_in}
use Rattle.sim_meaning.specs.Meaning.{do_op}
use Rattle.sim_meaning.specs.Objects.{decided}
use Rattle.sim_meaning.specs.Pending.{Activation, ActivateOp, Address, ArrayValue, Configuration, Instances, Item, Link, Of, Op, ProcedureValue, SimulationOp, Actual, Val, instance_in, plain}
use Rattle.sim_meaning.specs.Steps.{go}
use Rattle.sim_meaning.specs.Texts.{is_class_free, text}
use Rattle.sim_sound.specs.Held.{FitsIn, Holds, Refers, Simply, given_by}
use Rattle.sim_sound.specs.Typed.{SetClasses, Typed}
use Rattle.sim_sound.proofs.Attributes.{leveled}
use Rattle.sim_sound.proofs.Cells.{own_level}
use Rattle.sim_sound.proofs.Evals.{IsFine, Work, goes_on}
use Rattle.sim_sound.proofs.Fitting.{plain_val, process_is, reference_known, reference_up}
use Rattle.sim_sound.proofs.Later.{All, AllCopies, Later, as_it_was, own_later, present_later, seated_later}
use Rattle.sim_sound.proofs.Lifts.{Goes, any_popped, had, known_popped}
use Rattle.sim_sound.proofs.Lists.{if_true, numbers_equal, same_some}
use Rattle.sim_sound.proofs.Members.{Linked, MembersFine, by_main, by_object, head_found, head_only, head_place, into_fine, into_none, link_found, linkage_linked, process_link}
use Rattle.sim_sound.proofs.Moves.{later_instances, same_ones, still_copies}
use Rattle.sim_sound.proofs.NoticeLists.{OwnIs, activated_all, cancelled_all, held_all, passivated_all}
use Rattle.sim_sound.proofs.Ops.{later_hands, later_work, store_with}
use Rattle.sim_sound.proofs.Prefixes.{LevelOf, level_has, level_of_levels, levels_solid}
use Rattle.sim_sound.proofs.ProcessWork.{HomeIs, current_is, decides_on, fits_value, gives_process, home_is}
use Rattle.sim_sound.proofs.Reach.{has_itself}
use Rattle.sim_sound.proofs.References.{reference_popped}
use Rattle.sim_sound.proofs.Running.{Begun, Operates, StoreFine}
use Rattle.sim_sound.proofs.SetWork.{gives_head, gives_integer, gives_nothing}
use Rattle.sim_sound.proofs.Simulated.{EachNotice, NumberFine, SimulationsFine}
use Rattle.sim_sound.proofs.SimulatedLists.{found_in}
use Rattle.sim_sound.proofs.Sound.{OpFine, SimulationIs, formal_kinds, given, onto}
use Rattle.sim_sound.proofs.Values.{DeepFine, HandsFine, Kinds, Lasts, LinkTo, Marks, ObjectOf, PlainFine, ReferenceFine, Simulates, Value, Whole, see, held_kinds}

-- ---- what is in hand

-- over the block its actual parameter, if there is one
abbrev over : Option Holds → List Kinds → List Kinds
over None ks = ks
over (Some q) ks = Value q ∷ ks

parameter_over : (s : Source) (x : Option SimType) (ks : List Kinds) → onto (formal_kinds s (attribute_formals x)) ks ≡ over (given_by s x) ks
parameter_over s None ks = refl
parameter_over s (Some t) ks = refl

-- nothing is given
nothing_given : (s : Source) (x h : Option Holds) (left : List Kinds) → FitsIn s x h → x ≡ None → given (held_kinds h) left ≡ left
nothing_given s x h left fits e = by_holds h (subst (λ z. FitsIn s z h) e fits)
  where
    by_holds : (h : Option Holds) → FitsIn s None h → given (held_kinds h) left ≡ left
    by_holds None f = refl
    by_holds (Some q) f = absurd f

-- an instance that stands for the level of a simulation block is one
pub block_whole : (s : Source) (ok : Typed s) (o : World) (g : Marks) (m : Instances) → StoreFine s (see g o) m → (e k : ℕ) → is_simulation_block s.tables k ≡ true → Whole s m e k → Simulates s m e k
block_whole s ok o g m store e k is p =
    let f = store.instances e p.now p.lives in
    let has = (ok.simulations k is).has in
    let at : LevelOf s (p.now).text k = own_level s p.now k (levels_solid (text s k) has) p.stands in
    let inner : has_levels (text s (p.now).text) ≡ true = level_of_levels s ok f.solid at has in
    let free : is_class_free s (p.now).text ≡ false = ((leveled s ok (p.now).text inner).typed).stays in
    record { lasts = record { now = p.now; lives = p.lives; solid = f.solid; level = at; stays = ap (λ z. z && not (p.now).kept) (f.ends ∙ free) }; simulates = is }

integer_value : (p : Plain) → kind_of p ≡ kind.Integer → (z : ℤ) × (integer_in p ≡ Some z)
integer_value (Integer z) e = (z, refl)
integer_value (Truth z) e = absurd (cc)
integer_value (Character z) e = absurd (cc)
integer_value (Text z) e = absurd (cc)
integer_value (Object z) e = absurd (cc)
integer_value (MainOf z) e = absurd (cc)
integer_value Nothing e = absurd (cc)

-- ---- references, as a block sees them

module _ (s : Source) (ok : Typed s) (m : Instances) (sims : List Simulation) (block k : ℕ) (x : HomeIs s sims m block k) where
  abbrev X : Simulation
  X = (x.entry).1

  abbrev Number : ℕ → Type 0
  Number n = NumberFine s m X k n

  object_as : (j c u : ℕ) → ObjectOf s m j c → Lasts s m j u → ObjectOf s m j u
  object_as j c u p y =
      let same : y.now ≡ p.now = same_some (live m j) y.now p.now y.lives p.lives in
      record {
        now = p.now;
        lives = p.lives;
        object = p.object;
        levels = level_has s ok (p.now).text u (levels_solid (text s (p.now).text) p.object) (subst (λ z. LevelOf s z.text u) same y.level);
        stays = p.stays;
        words = p.words;
        has_text = p.has_text;
        made = p.made;
      }

  object_number : (j c : ℕ) → ObjectOf s m j c → (n : ℕ) → number_in X (Object j) ≡ Some n → Number n
  object_number j c p n e = by_place (position (λ z. z == j) X.processes) refl e
    where
      by_place : (y : Option ℕ) → position (λ z. z == j) X.processes ≡ y → option_map (λ z. suc z) y ≡ Some n → Number n
      by_place None is f = absurd (cc)
      by_place (Some q) is f =
          let r = found_in (λ z. z == j) X.processes q is in
          let there : slice_get X.processes q ≡ Some j = r.1 ∙ ap Some (numbers_equal r.0 j r.2) in
          let same : suc q ≡ n = same_some (Some (suc q)) (suc q) n refl f in
          subst Number same (j, there, object_as j c (k + 4) p ((x.processes).processes q j there))

  main_number : (j n : ℕ) → number_in X (MainOf j) ≡ Some n → Number n
  main_number j n e = by_test (j == X.block) e
    where
      by_test : (t : Bool) → (if t then Some main else None) ≡ Some n → Number n
      by_test true f = subst Number (same_some (Some main) main n refl f) tt
      by_test false f = absurd (cc)

  own_by : (y : Option ℕ) → ((n : ℕ) → y ≡ Some n → Number n) → OwnIs Number (Some (process_by y X))
  own_by None f = tt
  own_by (Some n) f = f n refl

  own_as : (t : Bool) (y : Option ℕ) → ((n : ℕ) → y ≡ Some n → Number n) → OwnIs Number (Some (named_as t y X))
  own_as true y f = own_by y f
  own_as false y f = tt

  named_so : (p : Plain) → named_if (in_process s m block p) X p ≡ Some (Some (named_as (stands_in s m (k + 4) p) (number_in X p) X))
  named_so p = ap (λ z. named_if (in_process_class s m z p) X p) (process_is s m ok block k x.own)

  pub seen_fine : (p : Plain) → PlainFine s m (Simply kind.Reference) p → (r : Option ProcessRef) × (seen (in_process s m block) X p ≡ Some r) × OwnIs Number r
  seen_fine Nothing a = (None, refl, tt)
  seen_fine (Object j) a = let y = a.1 in (Some (named_as (stands_in s m (k + 4) (Object j)) (number_in X (Object j)) X), named_so (Object j), own_as (stands_in s m (k + 4) (Object j)) (number_in X (Object j)) (λ n e. object_number j y.0 y.1 n e))
  seen_fine (MainOf j) a = (Some (named_as (stands_in s m (k + 4) (MainOf j)) (number_in X (MainOf j)) X), named_so (MainOf j), own_as (stands_in s m (k + 4) (MainOf j)) (number_in X (MainOf j)) (λ n e. main_number j n e))
  seen_fine (Integer z) a = let e = a.0 in absurd (cc)
  seen_fine (Character z) a = let e = a.0 in absurd (cc)
  seen_fine (Truth z) a = let e = a.0 in absurd (cc)
  seen_fine (Text z) a = let e = a.0 in absurd (cc)

  -- what an activation has for an operand
  abbrev pub OperandFits : Timing → Option Plain → Type 0
  OperandFits Directly v = Unit {0}
  OperandFits (AtTime prior) None = ⊥
  OperandFits (AtTime prior) (Some p) = PlainFine s m (Simply kind.Integer) p
  OperandFits (WithDelay prior) None = ⊥
  OperandFits (WithDelay prior) (Some p) = PlainFine s m (Simply kind.Integer) p
  OperandFits (Beside before) None = ⊥
  OperandFits (Beside before) (Some p) = PlainFine s m (Simply kind.Reference) p

  pub placed_fine : (timing : Timing) (v : Option Plain) → OperandFits timing v → (r : Placement) × (placement timing (seen (in_process s m block) X) v ≡ Some r)
  placed_fine Directly v a = (place.Direct, refl)
  placed_fine (AtTime prior) None a = absurd a
  placed_fine (AtTime prior) (Some p) a = let r = integer_value p a.0 in (place.At r.0 prior, ap (at_time (λ t. place.At t prior)) r.1)
  placed_fine (WithDelay prior) None a = absurd a
  placed_fine (WithDelay prior) (Some p) a = let r = integer_value p a.0 in (place.Delay r.0 prior, ap (at_time (λ t. place.Delay t prior)) r.1)
  placed_fine (Beside before) None a = absurd a
  placed_fine (Beside true) (Some p) a = let r = seen_fine p a in (place.Before r.0, ap (beside true) r.1)
  placed_fine (Beside false) (Some p) a = let r = seen_fine p a in (place.After r.0, ap (beside false) r.1)

module _ (s : Source) (ok : Typed s) (l : Limits) (o : World) (g : Marks) (long : length g.sights ≡ length o.arrays) (m : Instances) (i t : ℕ) (rest : List Activation) (top : Operates g.beneath g.seat m i rest) (w : List Item) (vals : List Val) (todo todo' : List DeclNo) (before behind : List Kinds) (b : Begun s (see g o) m i t todo) (h : HandsFine s (see g o) m i before vals) (work : Work s o g long m i t rest top w todo' behind) where
  abbrev Hd : List Kinds → List Val → Type 0
  Hd ks vs = HandsFine s (see g o) m i ks vs

  abbrev Wk : List DeclNo → List Kinds → Type 0
  Wk ds ks = Work s o g long m i t rest top w ds ks

  abbrev Stepped : Op → Type 0
  Stepped op = Goes (IsFine s) (do_op s l o m i w vals rest op)

  abbrev Home : (block k : ℕ) → Type 0
  Home block k = HomeIs s o.simulations m block k

  works : (ks : List Kinds) → behind ≡ ks → todo' ≡ todo → Wk todo ks
  works ks e f = subst (Wk todo) e (subst (λ z. Wk z behind) f work)

  -- the block below
  block_popped : (k : ℕ) (left : List Kinds) (stack : List Val) (f : ℕ → ℕ × Simulation → List Val → Run Configuration) → is_simulation_block s.tables k ≡ true → Hd (LinkTo k ∷ left) stack → ((block : ℕ) (x : Home block k) (vs : List Val) → Hd left vs → Goes (IsFine s) (f block x.entry vs)) → Goes (IsFine s) (pop_block plain instance_in stack o f)
  unfolding pop_block
  block_popped k left stack f is hands go' =
      any_popped (IsFine s) s (see g o) m i (LinkTo k) left stack o (λ v vs. having (instance_in v) o (λ e. having (located o.simulations e) o (λ x. f e x vs))) hands (λ v vs same here more. by_value v vs here more)
    where
      by_value : (v : Val) (vs : List Val) → DeepFine s (see g o) m i vs (LinkTo k) v → Hd left vs → Goes (IsFine s) (having (instance_in v) o (λ e. having (located o.simulations e) o (λ x. f e x vs)))
      by_value (Link e) vs a more =
          let x = home_is s o.simulations m b.store.simulations e k (block_whole s ok o g m b.store e k is a.1) in
          had (IsFine s) (Some e) e o (λ e. having (located o.simulations e) o (λ x. f e x vs)) refl
          (had (IsFine s) (located o.simulations e) x.entry o (λ x. f e x vs) x.found (go' e x vs more))
      by_value (Of z) vs a more = absurd a
      by_value (Address z) vs a more = absurd a
      by_value (ArrayValue z) vs a more = absurd a
      by_value (ProcedureValue z y) vs a more = absurd a
      by_value (Actual home pr z) vs a more = absurd a

  -- what is left decides
  abbrev Leaves : (block k : ℕ) → Home block k → Result (List Notice) RunError → Type 0
  Leaves block k x r = (ns : List Notice) → r ≡ Ok ns → EachNotice (NumberFine s m (x.entry).1 k) ns

  decide : todo' ≡ todo → (line block k : ℕ) (x : Home block k) (r : Result (List Notice) RunError) (vs : List Val) → Hd behind vs → Leaves block k x r → Goes (IsFine s) (decided m i w rest line o x.entry r vs)
  decide same line block k x r vs more leaves = decides_on s ok l o g long m i t rest top w vals todo todo' before behind b h work same line k x.entry (x.entry).1 x.at refl refl x.home r vs more leaves

  passivates : (block k : ℕ) (x : Home block k) → Leaves block k x (Ok (passivated ((x.entry).1).notices))
  passivates block k x ns e = subst (EachNotice (NumberFine s m (x.entry).1 k)) (let same : passivated ((x.entry).1).notices ≡ ns = cc in same) (passivated_all (NumberFine s m (x.entry).1 k) ((x.entry).1).notices (x.processes).notices)

  -- ---- activations

  abbrev activating : (again : Bool) (timing : Timing) (line : ℕ) → Option Plain → List Val → Run Configuration
  activating again timing line operand vs =
      pop_plain plain vs o (λ v vs.
      pop_block plain instance_in vs o (λ e x vs.
      having (seen (in_process s m e) x.1 v) o (λ p.
      having (placement timing (seen (in_process s m e) x.1) operand) o (λ where_to.
      decided m i w rest line o x (activated (record { process = p; again = again; placement = where_to }) (x.1).notices) vs))))

  abbrev Fits : Timing → Option Plain → Type 0
  Fits timing v = (block k : ℕ) (x : Home block k) → OperandFits s ok m o.simulations block k x timing v

  activation_goes : (k : ℕ) → is_simulation_block s.tables k ≡ true → todo' ≡ todo → (again : Bool) (timing : Timing) (line : ℕ) (operand : Option Plain) → Fits timing operand → (vs : List Val) → Hd (Value (Simply kind.Reference) ∷ LinkTo k ∷ behind) vs → Goes (IsFine s) (activating again timing line operand vs)
  activation_goes k is same again timing line operand fits vs hands =
      known_popped (IsFine s) s (see g o) m i kind.Reference (LinkTo k ∷ behind) vs o (λ v vs. pop_block plain instance_in vs o (λ e x vs. having (seen (in_process s m e) x.1 v) o (λ p. having (placement timing (seen (in_process s m e) x.1) operand) o (λ where_to. decided m i w rest line o x (activated (record { process = p; again = again; placement = where_to }) (x.1).notices) vs)))) hands (λ v vs a more.
      block_popped k behind vs (λ e x vs. having (seen (in_process s m e) x.1 v) o (λ p. having (placement timing (seen (in_process s m e) x.1) operand) o (λ where_to. decided m i w rest line o x (activated (record { process = p; again = again; placement = where_to }) (x.1).notices) vs))) is more (λ e x vs most.
      let y = seen_fine s ok m o.simulations e k x v a in
      let z = placed_fine s ok m o.simulations e k x timing operand (fits e k x) in
      had (IsFine s) (seen (in_process s m e) (x.entry).1 v) y.0 o (λ p. having (placement timing (seen (in_process s m e) (x.entry).1) operand) o (λ where_to. decided m i w rest line o x.entry (activated (record { process = p; again = again; placement = where_to }) ((x.entry).1).notices) vs)) y.1
      (had (IsFine s) (placement timing (seen (in_process s m e) (x.entry).1) operand) z.0 o (λ where_to. decided m i w rest line o x.entry (activated (record { process = y.0; again = again; placement = where_to }) ((x.entry).1).notices) vs) z.1
      (decide same line e k x (activated (record { process = y.0; again = again; placement = z.0 }) ((x.entry).1).notices) vs most (λ ns f. activated_all (NumberFine s m (x.entry).1 k) (record { process = y.0; again = again; placement = z.0 }) ((x.entry).1).notices y.2 (x.processes).notices ns f)))))

  pub activate_op : (again : Bool) (timing : Timing) (line : ℕ) → OpFine s (see g o) m i t (ActivateOp again timing line) todo todo' before behind → Stepped (ActivateOp again timing line)
  unfolding performing_activation pop_operand_if
  activate_op again Directly line a = activation_goes a.0 a.1 a.3 again Directly line None (λ e k x. tt) vals (subst (λ z. Hd z vals) a.2 h)
  activate_op again (AtTime prior) line a =
      known_popped (IsFine s) s (see g o) m i kind.Integer (Value (Simply kind.Reference) ∷ LinkTo a.0 ∷ behind) vals o (λ v vs. activating again (AtTime prior) line (Some v) vs) (subst (λ z. Hd z vals) a.2 h) (λ v vs f more. activation_goes a.0 a.1 a.3 again (AtTime prior) line (Some v) (λ e k x. f) vs more)
  activate_op again (WithDelay prior) line a =
      known_popped (IsFine s) s (see g o) m i kind.Integer (Value (Simply kind.Reference) ∷ LinkTo a.0 ∷ behind) vals o (λ v vs. activating again (WithDelay prior) line (Some v) vs) (subst (λ z. Hd z vals) a.2 h) (λ v vs f more. activation_goes a.0 a.1 a.3 again (WithDelay prior) line (Some v) (λ e k x. f) vs more)
  activate_op again (Beside before') line a =
      known_popped (IsFine s) s (see g o) m i kind.Reference (Value (Simply kind.Reference) ∷ LinkTo a.0 ∷ behind) vals o (λ v vs. activating again (Beside before') line (Some v) vs) (subst (λ z. Hd z vals) a.2 h) (λ v vs f more. activation_goes a.0 a.1 a.3 again (Beside before') line (Some v) (λ e k x. f) vs more)

  -- ---- the procedures

  -- as one is declared in the level k
  module _ (n : Standard) (y : SimulationIs s n) (q : Option Holds) (left : List Kinds) (fits : FitsIn s (given_by s y.result) q) (is : is_simulation_block s.tables (block_of s y.declaration) ≡ true) (over_block : before ≡ onto (formal_kinds s (attribute_formals y.parameter)) (LinkTo (block_of s y.declaration) ∷ left)) (leaves : behind ≡ given (held_kinds q) left) (same : todo' ≡ todo) where
    abbrev K : ℕ
    K = block_of s y.declaration

    -- without a parameter, and with one
    alone : given_by s y.parameter ≡ None → Hd (LinkTo K ∷ left) vals
    alone none = subst (λ z. Hd z vals) (over_block ∙ parameter_over s y.parameter (LinkTo K ∷ left) ∙ ap (λ z. over z (LinkTo K ∷ left)) none) h

    with_one : (r : Holds) → given_by s y.parameter ≡ Some r → Hd (Value r ∷ LinkTo K ∷ left) vals
    with_one r some = subst (λ z. Hd z vals) (over_block ∙ parameter_over s y.parameter (LinkTo K ∷ left) ∙ ap (λ z. over z (LinkTo K ∷ left)) some) h

    -- one that gives nothing
    left_behind : given_by s y.result ≡ None → (vs : List Val) → Hd left vs → Hd behind vs
    left_behind none vs a = subst (λ z. Hd z vs) (sym (leaves ∙ nothing_given s (given_by s y.result) q left fits none)) a

    -- and one that gives a value
    given_on : (r : Holds) (p : Plain) (vs : List Val) → given_by s y.result ≡ Some r → PlainFine s m r p → Hd left vs → Goes (IsFine s) (go o m i w (Of p ∷ vs) rest)
    given_on r p vs e a more =
        let f = fits_value s ok o g m b.store r (given_by s y.result) q p e fits a in
        goes_on s o g long m i t rest top w (Of p ∷ vs) todo (Value f.0 ∷ left) b (plain_val s (see g o) m i f.0 p f.2, more) (works (Value f.0 ∷ left) (leaves ∙ ap (λ z. given (held_kinds z) left) f.1) same)

    -- it tells something of its block
    tells_of : (line : ℕ) (r : Holds) → given_by s y.parameter ≡ None → given_by s y.result ≡ Some r → ((block : ℕ) (x : Home block K) → (p : Plain) × (simulation_tells n (x.entry).1 ≡ Some p) × PlainFine s m r p) → Goes (IsFine s) (pop_block plain instance_in vals o (λ e x vs. having (simulation_tells n x.1) o (λ v. go o m i w (Of v ∷ vs) rest)))
    tells_of line r none some told =
        block_popped K left vals (λ e x vs. having (simulation_tells n x.1) o (λ v. go o m i w (Of v ∷ vs) rest)) is (alone none) (λ e x vs more.
        let p = told e x in
        had (IsFine s) (simulation_tells n (x.entry).1) p.0 o (λ v. go o m i w (Of v ∷ vs) rest) p.1 (given_on r p.0 vs some p.2 more))

  process_held : (k : ℕ) (p : Plain) → ReferenceFine s m (k + 4) p → ReferenceFine s m (k + 1 + 3) p
  process_held k p a = subst (λ z. ReferenceFine s m z p) (let e : k + 4 ≡ k + 1 + 3 = omega arith in e) a

  -- ---- a process waits in a set

  -- the sets alone are others
  module _ (n : Memberships) (members : MembersFine s n m) where
    abbrev O : World
    O = record o { members = n }

    set_later : Later s (see g o) m (see g O) m All
    set_later = later_instances s (see g o) (see g O) m m refl refl (λ j x e. e) (λ j x lives. record { now = x; lives = lives; grown = as_it_was x }) (λ j a. a) (λ j a. a) (λ j a. a)

    set_copies : AllCopies (see g o) (see g O)
    set_copies = still_copies s (see g o) (see g O) m m refl refl (λ j x e. e) (λ j x lives. record { now = x; lives = lives; grown = as_it_was x })

    set_store : StoreFine s (see g O) m
    set_store = store_with s (see g o) (see g O) m set_later refl refl set_copies b.store.elements members b.store.simulations b.store

    set_hands : (ks : List Kinds) (vs : List Val) → Hd ks vs → HandsFine s (see g O) m i ks vs
    set_hands ks vs a = later_hands s ok l o g long m i t rest top g O long refl refl refl m set_later set_copies (same_ones m) set_store ks vs a

    set_decides : todo' ≡ todo → (line block k : ℕ) (x : Home block k) (vs : List Val) → Hd behind vs → Goes (IsFine s) (decided m i w rest line O x.entry (Ok (passivated ((x.entry).1).notices)) vs)
    set_decides same line block k x vs more =
        decides_on s ok l O g long m i t rest top w vals todo todo' before behind
        (record { store = set_store; here = present_later s (see g o) m (see g O) m All set_later i t todo tt b.here; own = own_later s (see g o) m (see g O) m All set_later i t todo tt b.here ∙ b.own; works = seated_later s (see g o) m (see g O) m All set_later g.seat i tt b.works }) (set_hands before vals h)
        (later_work s ok l o g long m i t rest top g O long refl refl refl m set_later set_copies (same_ones m) set_store w todo' behind work) same line k x.entry (x.entry).1 x.at refl refl x.home (Ok (passivated ((x.entry).1).notices)) vs (set_hands behind vs more) (passivates block k x)

  abbrev B : Memberships
  B = o.members

  abbrev S : List Simulation
  S = o.simulations

  -- the head that is given
  abbrev HeadFine : (class : ℕ) → Option ℕ → Type 0
  HeadFine c None = Unit {0}
  HeadFine c (Some n) = (j : ℕ) × (linkage_of B.instances j ≡ Some n) × ObjectOf s m j (c + 2)

  fine : MembersFine s B m
  fine = b.store.members

  blocks : SimulationsFine s S m
  blocks = b.store.simulations

  head_given : (c : ℕ) → SetClasses s c → (p : Plain) → ReferenceFine s m (c + 2) p → (x : Option ℕ) × (linkage_given B p ≡ Some x) × HeadFine c x
  head_given c classes Nothing a = (None, refl, tt)
  head_given c classes (Object j) a = let r = head_found s ok B m fine S blocks j c classes a in (Some r.0, ap some_linkage r.1, (j, r.1, a))
  head_given c classes (MainOf j) a = let x = head_only s ok B m fine S blocks j c classes (by_main a) in let r = head_found s ok B m fine S blocks j c classes x in (Some r.0, ap some_linkage r.1, (j, r.1, x))
  head_given c classes (Integer z) a = absurd a
  head_given c classes (Character z) a = absurd a
  head_given c classes (Truth z) a = absurd a
  head_given c classes (Text z) a = absurd a

  -- a process is a link
  link_in : (c : ℕ) (p : Plain) → ReferenceFine s m (c + 1) p → (p ≡ Nothing → ⊥) → (j : ℕ) × (linkage_named B p ≡ linkage_of B.instances j) × Linked s m j (c + 1)
  link_in c (Object j) a some = (j, refl, by_object a)
  link_in c (MainOf j) a some = (j, refl, by_main a)
  link_in c Nothing a some = absurd (some refl)
  link_in c (Integer z) a some = absurd a
  link_in c (Character z) a some = absurd a
  link_in c (Truth z) a some = absurd a
  link_in c (Text z) a some = absurd a

  abbrev gone : ℕ → Option ℕ → Memberships
  gone z p = record B { sets = into B.sets z p }

  into_is : (c : ℕ) → SetClasses s c → (z : ℕ) (p : Option ℕ) → is_link_at B.sets z ≡ true → HeadFine c p → set_effect name.Into (named_in S) B z p ≡ Some (record { members = gone z p; value = None })
  into_is c classes z None link a = if_true (is_link_at B.sets z) (Some _) None link
  into_is c classes z (Some p) link a =
      let r = head_found s ok B m fine S blocks a.0 c classes a.2 in
      let same : r.0 ≡ p = same_some (linkage_of B.instances a.0) r.0 p r.1 a.1 in
      if_true (is_link_at B.sets z) (if is_head_at B.sets p then Some (record { members = gone z (Some p); value = None }) else None) None link ∙ if_true (is_head_at B.sets p) (Some _) None (subst (λ u. is_head_at B.sets u ≡ true) same r.2)

  gone_fine : (c : ℕ) → SetClasses s c → (j z : ℕ) → linkage_of B.instances j ≡ Some z → Linked s m j (c + 1) → (p : Option ℕ) → HeadFine c p → MembersFine s (gone z p) m
  gone_fine c classes j z at link None a = into_none s ok B m fine S blocks z
  gone_fine c classes j z at link (Some p) a = into_fine s ok B m fine S blocks c classes j z at link a.0 p a.1 (linkage_linked s ok B m fine S blocks a.0 c 2 classes head_place (by_object a.2))

  not_none : (c : ℕ) (x : Simulation) (p : Plain) → current_process x ≡ Some p → p ≡ Nothing → ⊥
  not_none c x p e is = by_first x.notices (e ∙ ap Some is)
    where
      by_number : (z : ℕ) → process_numbered x z ≡ Some Nothing → ⊥
      by_number zero f = cc
      by_number (suc z) f = by_place (slice_get x.processes z) f
        where
          by_place : (y : Option ℕ) → object_numbered y ≡ Some Nothing → ⊥
          by_place None f = cc
          by_place (Some j) f = cc

      by_first : (ns : List Notice) → process_first x (current ns) ≡ Some Nothing → ⊥
      by_first [] f = cc
      by_first (n ∷ ns) f = by_number n.process.0 f

  -- the current process goes into the set, and passivates
  waits_goes : todo' ≡ todo → (line block k : ℕ) (x : Home block k) (p : Option ℕ) → HeadFine (k + 1) p → (vs : List Val) → Hd behind vs → Goes (IsFine s) (waiting_in plain instance_in p o (x.entry).1 (λ o. decided m i w rest line o x.entry (Ok (passivated ((x.entry).1).notices)) vs))
  waits_goes same line block k x p head vs more =
      let on : World → Run Configuration = λ o. decided m i w rest line o x.entry (Ok (passivated ((x.entry).1).notices)) vs in
      let c = (ok.simulations k (x.own).simulates).sets in
      let r = current_is s ok m (x.entry).1 k x.home x.processes in
      let one = reference_up s ok (see g o) m b.store (k + 4) (k + 1 + 1) r.0 (level_has s ok (k + 4) (k + 1 + 1) (ap is_connection (ok.simulations k (x.own).simulates).process_is) (process_link s ok k (x.own).simulates)) r.2 in
      let y = link_in (k + 1) r.0 one (not_none k (x.entry).1 r.0 r.1) in
      let z = link_found s ok B m fine S blocks y.0 (k + 1) c y.2 in
      had (IsFine s) (current_process (x.entry).1) r.0 o (λ q. having (linkage_named o.members q) o (λ u. having (set_effect name.Into (named_in o.simulations) o.members u p) o (λ effect. on (record o { members = effect.members })))) r.1
      (had (IsFine s) (linkage_named o.members r.0) z.0 o (λ u. having (set_effect name.Into (named_in o.simulations) o.members u p) o (λ effect. on (record o { members = effect.members }))) (y.1 ∙ z.1)
      (had (IsFine s) (set_effect name.Into (named_in o.simulations) o.members z.0 p) (record { members = gone z.0 p; value = None }) o (λ effect. on (record o { members = effect.members })) (into_is (k + 1) c z.0 p z.2 head)
      (set_decides (gone z.0 p) (gone_fine (k + 1) c y.0 z.0 z.1 y.2 p head) same line block k x vs more)))

  -- ---- each procedure

  procedure_goes : (n : Standard) (line : ℕ) (y : SimulationIs s n) (q : Option Holds) (left : List Kinds) → FitsIn s (given_by s y.result) q → is_simulation_block s.tables (block_of s y.declaration) ≡ true → before ≡ onto (formal_kinds s (attribute_formals y.parameter)) (LinkTo (block_of s y.declaration) ∷ left) → behind ≡ given (held_kinds q) left → todo' ≡ todo → Stepped (SimulationOp n line)
  unfolding performing_simulation row_of
  procedure_goes name.Hold line y q left fits is at out same =
      let k = block_of s y.declaration in
      let none = gives_nothing s (k + 1) y.result (y.there).result_is in
      known_popped (IsFine s) s (see g o) m i kind.Integer (LinkTo k ∷ left) vals o (λ v vs. having (integer_in v) o (λ z. pop_block plain instance_in vs o (λ e x vs. decided m i w rest line o x (held z (x.1).notices) vs))) (with_one name.Hold y q left fits is at out same (Simply kind.Integer) (gives_integer s (k + 1) y.parameter (y.there).parameter_is)) (λ v vs a more.
      let z = integer_value v a.0 in
      had (IsFine s) (integer_in v) z.0 o (λ z. pop_block plain instance_in vs o (λ e x vs. decided m i w rest line o x (held z (x.1).notices) vs)) z.1
      (block_popped k left vs (λ e x vs. decided m i w rest line o x (held z.0 (x.1).notices) vs) is more (λ e x vs most.
      decide same line e k x (held z.0 ((x.entry).1).notices) vs (left_behind name.Hold y q left fits is at out same none vs most) (λ ns f. held_all (NumberFine s m (x.entry).1 k) z.0 ((x.entry).1).notices (x.processes).notices ns f))))
  procedure_goes name.Passivate line y q left fits is at out same =
      let k = block_of s y.declaration in
      let none = gives_nothing s (k + 1) y.result (y.there).result_is in
      block_popped k left vals (λ e x vs. decided m i w rest line o (x.0, with_end None x.1) (Ok (passivated (x.1).notices)) vs) is (alone name.Passivate y q left fits is at out same (gives_nothing s (k + 1) y.parameter (y.there).parameter_is)) (λ e x vs more.
      decide same line e k x (Ok (passivated ((x.entry).1).notices)) vs (left_behind name.Passivate y q left fits is at out same none vs more) (passivates e k x))
  procedure_goes name.Wait line y q left fits is at out same =
      let k = block_of s y.declaration in
      let none = gives_nothing s (k + 1) y.result (y.there).result_is in
      let c = (ok.simulations k is).sets in
      reference_popped (IsFine s) s (see g o) m i (k + 1 + 2) (LinkTo k ∷ left) vals o (λ v vs. having (linkage_given o.members v) o (λ p. pop_block plain instance_in vs o (λ e x vs. waiting_in plain instance_in p o x.1 (λ o. decided m i w rest line o x (Ok (passivated (x.1).notices)) vs)))) (with_one name.Wait y q left fits is at out same (Refers (k + 1 + 2)) (gives_head s (k + 1) y.parameter (y.there).parameter_is)) (λ v vs a more.
      let z = head_given (k + 1) c v a in
      had (IsFine s) (linkage_given o.members v) z.0 o (λ p. pop_block plain instance_in vs o (λ e x vs. waiting_in plain instance_in p o x.1 (λ o. decided m i w rest line o x (Ok (passivated (x.1).notices)) vs))) z.1
      (block_popped k left vs (λ e x vs. waiting_in plain instance_in z.0 o x.1 (λ o. decided m i w rest line o x (Ok (passivated (x.1).notices)) vs)) is more (λ e x vs most.
      waits_goes same line e k x z.0 z.2 vs (left_behind name.Wait y q left fits is at out same none vs most))))
  procedure_goes name.Cancel line y q left fits is at out same =
      let k = block_of s y.declaration in
      let none = gives_nothing s (k + 1) y.result (y.there).result_is in
      reference_popped (IsFine s) s (see g o) m i (k + 1 + 3) (LinkTo k ∷ left) vals o (λ v vs. pop_block plain instance_in vs o (λ e x vs. having (seen (in_process s m e) x.1 v) o (λ p. decided m i w rest line o x (cancelled p (x.1).notices) vs))) (with_one name.Cancel y q left fits is at out same (Refers (k + 1 + 3)) (gives_process s (k + 1) y.parameter (y.there).parameter_is)) (λ v vs a more.
      block_popped k left vs (λ e x vs. having (seen (in_process s m e) x.1 v) o (λ p. decided m i w rest line o x (cancelled p (x.1).notices) vs)) is more (λ e x vs most.
      let z = seen_fine s ok m o.simulations e k x v (reference_known s ok (see g o) m b.store (k + 1 + 3) v a) in
      had (IsFine s) (seen (in_process s m e) (x.entry).1 v) z.0 o (λ p. decided m i w rest line o x.entry (cancelled p ((x.entry).1).notices) vs) z.1
      (decide same line e k x (cancelled z.0 ((x.entry).1).notices) vs (left_behind name.Cancel y q left fits is at out same none vs most) (λ ns f. cancelled_all (NumberFine s m (x.entry).1 k) z.0 ((x.entry).1).notices (x.processes).notices ns f))))
  procedure_goes name.Time line y q left fits is at out same =
      let k = block_of s y.declaration in
      tells_of name.Time y q left fits is at out same line (Simply kind.Integer) (gives_nothing s (k + 1) y.parameter (y.there).parameter_is) (gives_integer s (k + 1) y.result (y.there).result_is) (λ e x. (Integer _, refl, (refl, tt)))
  procedure_goes name.Current line y q left fits is at out same =
      let k = block_of s y.declaration in
      tells_of name.Current y q left fits is at out same line (Refers (k + 1 + 3)) (gives_nothing s (k + 1) y.parameter (y.there).parameter_is) (gives_process s (k + 1) y.result (y.there).result_is) (λ e x. let r = current_is s ok m (x.entry).1 k x.home x.processes in (r.0, r.1, process_held k r.0 r.2))
  procedure_goes name.Main line y q left fits is at out same =
      let k = block_of s y.declaration in
      tells_of name.Main y q left fits is at out same line (Refers (k + 1 + 3)) (gives_nothing s (k + 1) y.parameter (y.there).parameter_is) (gives_process s (k + 1) y.result (y.there).result_is) (λ e x. (MainOf ((x.entry).1).block, refl, process_held k (MainOf ((x.entry).1).block) (record { level = k; block = x.home; levels = has_itself s ok (k + 4) })))
  procedure_goes _ line y q left fits is at out same = absurd (let named = y.named in cc)

  pub simulation_op : (n : Standard) (line : ℕ) → OpFine s (see g o) m i t (SimulationOp n line) todo todo' before behind → Stepped (SimulationOp n line)
  simulation_op n line a = procedure_goes n line a.0 a.1 a.2 a.3 a.4 a.5 a.6 a.7
