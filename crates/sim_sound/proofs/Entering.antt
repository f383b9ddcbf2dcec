-- A block, a procedure or an object is entered.
use Rattle.std.proofs.Common.{Bool, List, None, Option, Some, [], ap, arith, false, inr, length, map, refl, subst, suc, sym, true, ℕ, ◌++◌, ◌<◌, ◌∙◌, ◌∷◌, ◌≡◌, ◌⊎◌}
use Rattle.std.specs.Prelude.{not, slice_get, ◌&&◌}
use Rattle.std.specs.List.{list_any}
use Rattle.sim_base.specs.declared.limits.Limits.{Limits}
use Rattle.sim_base.specs.declared.numbering.DeclNo.{DeclNo}
use Rattle.sim_chains.specs.Components.{NoObject, Standing}
use Rattle.sim_scope.specs.declared.types.Formal.{Formal}
use Rattle.sim_scope.specs.Access.{encloser}
use Rattle.sim_scope.specs.Source.{Source}
use Rattle.sim_tree.specs.declared.stmt.TypeName.{TypeName}
use Rattle.sim_tree.specs.Syntax.{Declarations, Heading, Statement, Statements}
use Rattle.simset.specs.Instances.{Memberships}
use Rattle.sim_code.specs.Arrays.{handed_over}
use Rattle.sim_code.specs.Events.{entering, having, pop_many, popping, when}
use Rattle.sim_code.specs.Instances.{Instance, ends_in, entered, is_given_at_end, is_live, live}
use Rattle.sim_code.specs.Instances as instances
use Rattle.sim_code.specs.Outcome.{Run, Simulation, World}
use Rattle.sim_meaning.specs.Attributes.{is_connection}
use Rattle.sim_meaning.specs.Entries.{arrays_by_value, filled_behind, first_cells, formals_of, in_instance, instances_kept, is_held, new_instance, numbers_of, passes, words_of_cells}
use Rattle.sim_meaning.specs.Levels.{has_levels, is_class}
use Rattle.sim_meaning.specs.Meaning.{block_work, called, has_result, procedure_entered, sub_block_entered}
use Rattle.sim_meaning.specs.Pending.{Actual, Activation, Address, ArrayValue, Configuration, Declared, Do, EndBlock, EndProcedure, Exec, Execs, Held, Instances, Item, Key, Link, Of, ProcedureValue, Val, instance_in}
use Rattle.sim_meaning.specs.Texts.{BlockText, ClassText, ConnectionText, PrefixedText, ProcedureText, StandardText, Text, is_class_free, text}
use Rattle.sim_sound.specs.Held.{ArrayOf, Holds, InBound}
use Rattle.sim_sound.specs.Typed.{BlockTyped, ProcedureTyped, Typed, TextTyped, arrays_of_block}
use Rattle.sim_sound.proofs.ArrayWork.{arrays_are, block_arrays}
use Rattle.sim_sound.proofs.Attributes.{leveled}
use Rattle.sim_sound.proofs.Cells.{key_level, keys_alone, made_alone, own_site}
use Rattle.sim_sound.proofs.Chains.{Elsewhere, others_kept, others_on, seat_under}
use Rattle.sim_sound.proofs.Changes.{ElementsFine, near_same}
use Rattle.sim_sound.proofs.Evals.{IsFine, Work, goes_on, work_owner}
use Rattle.sim_sound.proofs.FirstCells.{ActualsAre, FilledBehind, ValsFine, actuals_later, all_taken, block_cells, block_key, formals_some, held_there, procedure_cells, taken}
use Rattle.sim_sound.proofs.Handing.{Handed, Outlives, formals_hand, hand_all, handed_members, handed_same, handed_simulations, marks_of}
use Rattle.sim_sound.proofs.InstancesKept.{Kept, entry_keeps}
use Rattle.sim_sound.proofs.Later.{All, AnySeat, Copies, Later, Steady, all_apart, fine_later, hands_later, instance_later, kept_later, live_less, own_later, present_later, seated_later, standing_apart, stays_later, steady_same, work_later}
use Rattle.sim_sound.proofs.Lifts.{Goes, any_popped, enters, had, ran, whens}
use Rattle.sim_sound.proofs.Lists.{append_at, same_some}
use Rattle.sim_sound.proofs.Members.{MembersFine, OneMore, members_more, plain_no_linkage, plain_no_simulation}
use Rattle.sim_sound.proofs.Moves.{Begins, copies_entered, knows_near, later_entered, marked, near_new, near_stays, near_then, on_top, one_more, operates_entered, operates_on, placed_as, steady_entered, store_entered}
use Rattle.sim_sound.proofs.ProcessClasses.{plain_no_process}
use Rattle.sim_sound.proofs.Prefixes.{LevelOf, prefix_level, same_level}
use Rattle.sim_sound.proofs.Running.{Begun, ChainFine, Fine, Headed, Operates, Placed, SeatedFor, StoreFine, WorkFine, first_of, footing, idle, seat_on}
use Rattle.sim_sound.proofs.Simulated.{SimulationsFine}
use Rattle.sim_sound.proofs.Simulating.{simulations_more}
use Rattle.sim_sound.proofs.Sound.{CallOpFine, GivesResult, formal_kinds, given, holds_of}
use Rattle.sim_sound.proofs.Values.{AllArrays, CellsFine, Enclosed, HandFine, HandsFine, InstanceFine, KeyAmong, Kinds, Knows, LinkTo, Made, Marks, Near, Present, Seat, Sight, Stays, Takes, Waits, Whole, at_itself, at_seat, key_of, keys_in, near_below, near_staying, own_text, see, within, HasOrigin}
use Rattle.sim_sound.proofs.Heads.{headed_as}

-- ---- a new instance

-- how it stands
pub stands_new : (m : Instances) (y : Instance (List Held)) (z : Standing Activation) → length m.standings ≡ length m.instances → slice_get (entered m y z).standings (length m.instances) ≡ Some z
stands_new m y z many = ap (slice_get (m.standings ++ z ∷ [])) (sym many) ∙ append_at m.standings z

-- what has no levels is no class
no_class : (x : Option Text) → has_levels x ≡ false → is_class x ≡ true → ⊥
no_class None f c = absurd (cc)
no_class (Some (ClassText prefix h ds ss)) f c = absurd (cc)
no_class (Some (StandardText which)) f c = absurd (cc)
no_class (Some (PrefixedText class es ds ss)) f c = absurd (cc)
no_class (Some (BlockText begin ds ss)) f c = absurd (cc)
no_class (Some (ProcedureText result h a)) f c = absurd (cc)
no_class (Some ConnectionText) f c = absurd (cc)

-- An instance of a text with these cells is entered, on top of the instance u, if of any. `now` are the instances then, with these linkages and simulations.
module _ (s : Source) (ok : Typed s) (v : AllArrays) (m : Instances) (k : ℕ) (e : Option ℕ) (cells : List Held) (z : Standing Activation) (x : Text) (is : text s k ≡ Some x) (solid : is_connection (text s k) ≡ false) (u : Option ℕ) (linkages : Memberships) (blocks : List Simulation) where
  abbrev pub made_new : Instance (List Held)
  made_new = new_instance s k e cells

  abbrev pub now : Instances
  now = entered m made_new z

  abbrev pub seen_now : AllArrays
  seen_now = on_top v (length m.instances) u linkages blocks

  passing_is : passes (text s k) (is_class_free s k) ≡ is_class_free s k
  passing_is = ap (λ z. passes z (is_class_free s k)) is ∙ by_text x is (ok.texts k x is)
    where
      by_text : (y : Text) → text s k ≡ Some y → TextTyped s k y → passes (Some y) (is_class_free s k) ≡ is_class_free s k
      by_text (BlockText begin ds ss) e a = refl
      by_text (ProcedureText result h b) e a = refl
      by_text (ClassText prefix h ds ss) e a = sym a.stays
      by_text (PrefixedText class arguments ds ss) e a = sym a.stays
      by_text ConnectionText e a = absurd (let z : ◌≡◌ {A = Bool} true false = sym (ap is_connection e) ∙ solid in cc)
      by_text (StandardText which) e a = sym a.stays

  pub later_new : Later s v m seen_now now All
  later_new = later_entered s v m made_new z u linkages blocks

  pub new_lives : live now (length m.instances) ≡ Some made_new
  new_lives = ap instances.unless_given (append_at m.instances made_new)

  -- what is not class-free is not given back at its end
  pub new_stays : is_class_free s k ≡ false → (made_new.passing && not made_new.kept) ≡ false
  new_stays free = ap (λ q. q && true) (passing_is ∙ free)

  present_new : (todo : List DeclNo) → Made s k todo cells → Present s now (length m.instances) k todo
  present_new todo made = record { now = made_new; lives = new_lives; stands = own_text same_level; words = x; has_text = is; made = made }

  instance_new : ((u : ℕ) → LevelOf s k u → (key : Key) → KeyAmong key (keys_in s u (text s u)) → KeyAmong key (map key_of cells)) → HasOrigin s k cells → CellsFine s seen_now now (length m.instances) k cells → Enclosed s seen_now now (length m.instances) k e → InstanceFine s seen_now now (length m.instances) made_new
  instance_new keys origins fine out = record { level = refl; solid = solid; keys = keys; holds = λ u at key a. key_level s ok solid at key a; cells = fine; ends = passing_is; origins = origins; out = out }

  pub begun_new : StoreFine s v m → Begins z → ((u : ℕ) → LevelOf s k u → (key : Key) → KeyAmong key (keys_in s u (text s u)) → KeyAmong key (map key_of cells)) → HasOrigin s k cells → CellsFine s seen_now now (length m.instances) k cells → Enclosed s seen_now now (length m.instances) k e → (todo : List DeclNo) → Made s k todo cells → MembersFine s linkages now → SimulationsFine s blocks now → Begun s seen_now now (length m.instances) k todo
  unfolding present_new
  begun_new store begins keys origins fine out todo made members simulations = record { store = store_entered s v m made_new z u linkages blocks store (instance_new keys origins fine out) begins members simulations; here = present_new todo made; own = refl; works = record { near = near_below at_itself; through = near_below at_itself; lower = near_below at_itself } }

  -- one instance more, of this text
  pub more_new : OneMore s m now k e
  more_new = one_more s v m made_new z u linkages blocks

  -- what is class-free is given back at its end
  pub new_passes : is_class_free s k ≡ true → is_given_at_end now (length m.instances) ≡ true
  new_passes free = ap ends_in new_lives ∙ ap (λ q. q && true) (passing_is ∙ free)

  pub new_noted : StoreFine s v m → slice_get seen_now.beneath (length m.instances) ≡ Some u
  new_noted store = ap (slice_get seen_now.beneath) (sym store.noted) ∙ append_at v.beneath u

  -- What is not class-free needs only what stays, and else what is near to that on which it is entered.
  pub near_inside : StoreFine s v m → (j : ℕ) → (is_class_free s k ≡ false → Stays m j) → (i : ℕ) → u ≡ Some i → Near v m i j → Near seen_now now (length m.instances) j
  near_inside store j stays i on near = by_flag (is_class_free s k) refl
    where
      by_flag : (b : Bool) → is_class_free s k ≡ b → Near seen_now now (length m.instances) j
      by_flag true free = near_new s v m made_new z u linkages blocks i j store on (new_passes free) near
      by_flag false free = near_staying (stays_later s v m seen_now now All later_new j (stays free))

  -- the text around is not class-free either, so an instance of it stays
  pub encloser_stays : (j u : ℕ) → StoreFine s v m → encloser s.tables k ≡ Some u → (p : Whole s m j u) → is_class_free s k ≡ false → Stays m j
  encloser_stays j u store around p free = record { now = p.now; lives = p.lives; stays = ap (λ q. q && not (p.now).kept) ((store.instances j p.now p.lives).ends ∙ stands_free (p.now) u (store.instances j p.now p.lives).solid p.stands (ok.not_class_free k u around free)) }
    where
      -- what has levels is not class-free
      level_free : {n t : ℕ} → is_connection (text s n) ≡ false → LevelOf s n t → is_class_free s t ≡ false → is_class_free s n ≡ false
      level_free no_connection same_level f = f
      level_free {n = n} no_connection (prefix_level {b = b} q a) f = ((leveled s ok n ((ok.prefixes).prefixed_by n b no_connection q).has).typed).stays

      stands_free : (y : Instance (List Held)) (t : ℕ) → is_connection (text s y.text) ≡ false → Rattle.sim_sound.proofs.Values.StandsFor s y t → is_class_free s t ≡ false → is_class_free s y.text ≡ false
      stands_free y t no_connection (own_text at) f = level_free no_connection at f
      stands_free y t no_connection (Rattle.sim_sound.proofs.Values.connected {u = w} c around' key a) f = stands_free y w no_connection a (ok.not_class_free t w around' f)

  pub inside_new : (out around i : ℕ) → e ≡ Some out → encloser s.tables k ≡ Some around → out < length m.instances → u ≡ Some i → Near v m i out → StoreFine s v m → Whole s m out around → Enclosed s seen_now now (length m.instances) k e
  inside_new out around i is_out is_in lt on near store whole =
      within is_out is_in lt (near_inside store out (encloser_stays out around store is_in whole) i on near) (present_later s v m seen_now now All later_new out around [] tt whole)

  -- below it the chain stands as before
  pub below_new : Begins z → (chain : List Activation) (w : Waits) → ChainFine s v m chain w → ChainFine s seen_now now chain w
  below_new begins chain w c = fine_later s v m seen_now now All later_new AnySeat (λ q j d k ok. copies_entered s v m made_new z u linkages blocks q j d) (λ j k. steady_entered s v m made_new z u linkages blocks begins j) chain (all_apart None chain) (all_apart None chain) w c

-- it operates
pub enters_fine : (s : Source) (ok : Typed s) (o : World) (marks : Marks) (long : length marks.sights ≡ length o.arrays) (m : Instances) (k : ℕ) (e : Option ℕ) (cells : List Held) (z : Standing Activation) (todo : List DeclNo)
    → Begins z → (work : List Item) (rest : List Activation) (p : World) (u : Option ℕ) → u ≡ first_of rest → StoreFine s (see marks p) m → Placed m rest → Headed m rest → (0 < length m.standings) ⊎ (z ≡ NoObject None) → Begun s (see (marked marks (length m.instances) u) o) (entered m (new_instance s k e cells) z) (length m.instances) k todo
    → WorkFine s (see (marked marks (length m.instances) u) o) (entered m (new_instance s k e cells) z) (λ w. ChainFine s (see (marked marks (length m.instances) u) o) (entered m (new_instance s k e cells) z) rest w) (rest ≡ []) (length m.instances) k work todo []
    → IsFine s o (record { chain = record { instance = length m.instances; work = work; values = [] } ∷ rest; memory = entered m (new_instance s k e cells) z })
enters_fine s ok o marks long m k e cells z todo begins work rest p u is store placed headed first b w =
    goes_on s o (marked marks (length m.instances) u) long (entered m (new_instance s k e cells) z) (length m.instances) k rest (operates_entered s (see marks p) m (new_instance s k e cells) z u o.members o.simulations rest is store placed headed first begins) work [] todo [] b tt w

-- the arrays, the linkages and the simulation blocks alone tell whether a configuration is fine
pub same_arrays : {s : Source} (o p : World) (c : Configuration) → o.arrays ≡ p.arrays → o.members ≡ p.members → o.simulations ≡ p.simulations → IsFine s o c → IsFine s p c
same_arrays {s = s} o p c e q r f =
    subst (λ z. (g : Marks) × (length g.sights ≡ length p.arrays) × Fine s (record { sights = g.sights; beneath = g.beneath; waiting = g.waiting; seat = g.seat; real = p.arrays; members = p.members; simulations = z }) c) r
    (subst (λ z. (g : Marks) × (length g.sights ≡ length p.arrays) × Fine s (record { sights = g.sights; beneath = g.beneath; waiting = g.waiting; seat = g.seat; real = p.arrays; members = z; simulations = o.simulations }) c) q
    (subst (λ z. (g : Marks) × (length g.sights ≡ length z) × Fine s (record { sights = g.sights; beneath = g.beneath; waiting = g.waiting; seat = g.seat; real = z; members = o.members; simulations = o.simulations }) c) e f))

-- ---- blocks

block_solid : (s : Source) (k begin : ℕ) (ds : Declarations) (ss : Statements) → text s k ≡ Some (BlockText begin ds ss) → is_connection (text s k) ≡ false
block_solid s k begin ds ss is = ap is_connection is

module _ (s : Source) (ok : Typed s) (v : AllArrays) (m : Instances) (k : ℕ) (e : Option ℕ) (begin : ℕ) (ds : Declarations) (ss : Statements) (is : text s k ≡ Some (BlockText begin ds ss)) (u : Option ℕ) where
  abbrev typed : BlockTyped s k ds ss
  typed = ok.texts k (BlockText begin ds ss) is

  abbrev cells : List Held
  cells = first_cells s k (BlockText begin ds ss)

  abbrev pub after : Instances
  after = entered m (new_instance s k e cells) (NoObject None)

  abbrev pub seen_after : AllArrays
  seen_after = on_top v (length m.instances) u v.members v.simulations

  cells_fine : CellsFine s seen_after after (length m.instances) k cells
  cells_fine = block_cells s seen_after after (length m.instances) k begin ds ss is typed.no_formals

  block_holds : (d : DeclNo) (kd : Holds) → Rattle.sim_sound.specs.Held.key_holds s k (Declared d.0) ≡ Some (ArrayOf kd) → Rattle.sim_sound.specs.Held.entry_holds s false (Rattle.sim_scope.specs.Scopes.entry_of s.tables d) ≡ Some (ArrayOf kd)
  block_holds d kd h = sym (ap (λ z. Rattle.sim_sound.specs.Held.entry_holds s z (Rattle.sim_scope.specs.Scopes.entry_of s.tables d)) (ap has_levels is)) ∙ h

  has_none : has_levels (text s k) ≡ false
  has_none = ap has_levels is

  block_made : Made s k (arrays_of_block s ds) cells
  block_made = made_alone s ok k (arrays_of_block s ds) cells (block_solid s k begin ds ss is) has_none (λ d kd holds there none. typed.made d kd (block_key s k begin ds ss d (subst (λ z. KeyAmong (Declared d.0) (keys_in s k z)) is there)) (block_holds d kd holds))

  pub block_begun : StoreFine s v m → Enclosed s seen_after after (length m.instances) k e → Begun s seen_after after (length m.instances) k (arrays_of_block s ds)
  block_begun store out =
      begun_new s ok v m k e cells (NoObject None) (BlockText begin ds ss) is (block_solid s k begin ds ss is) u v.members v.simulations store tt (keys_alone s ok k (map key_of cells) (block_solid s k begin ds ss is) has_none (λ key a. subst (λ z. KeyAmong key (keys_in s k z)) is a)) (λ class. absurd (let z : ◌≡◌ {A = Bool} true false = sym class ∙ ap is_class is in cc)) cells_fine out (arrays_of_block s ds) block_made (members_more s v.members m after k e (more_new s ok v m k e cells (NoObject None) (BlockText begin ds ss) is (block_solid s k begin ds ss is) u v.members v.simulations) (plain_no_linkage s ok k (block_solid s k begin ds ss is) has_none) (plain_no_simulation s ok k (block_solid s k begin ds ss is) has_none) store.members)
      (simulations_more s v.simulations m after k e (more_new s ok v m k e cells (NoObject None) (BlockText begin ds ss) is (block_solid s k begin ds ss is) u v.members v.simulations) store.simulations (plain_no_simulation s ok k (block_solid s k begin ds ss is) has_none) (plain_no_process s ok k (block_solid s k begin ds ss is) has_none))

  pub block_works : StoreFine s v m → Enclosed s seen_after after (length m.instances) k e → (Below : Waits → Type 0) (Outermost : Type 0) (end : Item) → WorkFine s seen_after after Below Outermost (length m.instances) k (end ∷ []) [] [] → WorkFine s seen_after after Below Outermost (length m.instances) k (block_work s after (length m.instances) ds ss end) (arrays_of_block s ds) []
  block_works store out Below Outermost end x =
      let b = block_begun store out in
      block_arrays s ok seen_after after (length m.instances) k k same_level (arrays_of_block s ds) b (BlockText begin ds ss) is (block_solid s k begin ds ss is) (λ d a. arrays_are s (InBound k) ds typed.arrays d a) Below Outermost ds (Do (Execs ss) ∷ end ∷ []) typed.arrays typed.distinct typed.own
      ([], [], (refl, refl, refl, (k, own_site s seen_after after (length m.instances) k (arrays_of_block s ds) b, typed.statements)), x)

-- ---- a sub-block

module _ (s : Source) (ok : Typed s) (l : Limits) (o : World) (marks : Marks) (long : length marks.sights ≡ length o.arrays) (m : Instances) (i t : ℕ) (rest : List Activation) (top : Operates marks.beneath marks.seat m i rest) (w : List Item) (vals : List Val) where
  abbrev pub Chain : List Val → List Activation
  Chain vs = record { instance = i; work = w; values = vs } ∷ rest

  -- what is on the chain waits for a value or for none
  pub waits_on : (vs : List Val) (todo : List DeclNo) (ks : List Kinds) (g : Option Kinds) → Begun s (see marks o) m i t todo → HandsFine s (see marks o) m i ks vs → Work s o marks long m i t rest top w todo (given g ks) → ChainFine s (see marks o) m (Chain vs) (Takes g)
  waits_on vs todo ks g b h work =
      let own = work_owner s o marks long m i t rest top w vs todo (given g ks) work in
      record { of_text = t; todo = todo; here = b.here; own = b.own; stands_on = λ j is. top.stands_on j (sym own ∙ is); seat = marks.seat; seated = ap (λ u. seat_on u (footing None rest)) own ∙ top.seated; works = b.works; vals = vs; shown = refl; kinds = ks; hands = h; expected = given g ks; expects = refl; goes = work }

  -- and stands there
  module _ (todo : List DeclNo) (ks : List Kinds) (work : Work s o marks long m i t rest top w todo ks) where
    pub chain_placed : (vs : List Val) → Placed m (Chain vs)
    chain_placed vs = placed_as m (idle marks.seat i) (record { instance = i; work = w; values = vs }) rest (work_owner s o marks long m i t rest top w vs todo ks work) top.placed

    pub chain_headed : (vs : List Val) → Headed m (Chain vs)
    chain_headed vs = headed_as m (idle marks.seat i) (record { instance = i; work = w; values = vs }) rest (work_owner s o marks long m i t rest top w vs todo ks work) top.headed

    -- the owner of its seat is the first instance
    pub chain_first : (vs : List Val) → Some (marks.seat).owner ≡ first_of (Chain vs)
    chain_first vs = sym (seat_under None (Chain vs) marks.seat (ap (λ u. seat_on u (footing None rest)) (work_owner s o marks long m i t rest top w vs todo ks work) ∙ top.seated))

  pub block_entered : (k line u begin : ℕ) (ds : Declarations) (ss : Statements) (ks : List Kinds) → text s k ≡ Some (BlockText begin ds ss) → encloser s.tables k ≡ Some u → Whole s m i u → Begun s (see marks o) m i t [] → HandsFine s (see marks o) m i ks vals → Work s o marks long m i t rest top w [] ks → Goes (IsFine s) (sub_block_entered s l o m i w vals rest k line (Some (BlockText begin ds ss)))
  block_entered k line u begin ds ss ks is stands site b h work =
      let v = see marks o in
      let x = BlockText begin ds ss in
      let hs = first_cells s k x in
      let z = NoObject None in
      let first = (marks.seat).owner in
      let solid = block_solid s k begin ds ss is in
      let out = inside_new s ok v m k (Some i) hs z x is solid (Some first) v.members v.simulations i u first refl stands top.before refl (b.works).near b.store site in
      let m' = entered m (new_instance s k (Some i) hs) z in
      enters (IsFine s) l line (words_of_cells hs) o (λ p. in_instance s p m k (Some i) hs (λ now. block_work s now (length m.instances) ds ss EndBlock) (Chain vals)) (λ t' w'.
      enters_fine s ok o marks long m k (Some i) hs z (arrays_of_block s ds) tt (block_work s m' (length m.instances) ds ss EndBlock) (Chain vals) o (Some first) (chain_first [] ks work vals) b.store (chain_placed [] ks work vals) (chain_headed [] ks work vals) (inr refl) (block_begun s ok v m k (Some i) begin ds ss is (Some first) b.store out)
      (block_works s ok v m k (Some i) begin ds ss is (Some first) b.store out (λ q. ChainFine s (on_top v (length m.instances) (Some first) v.members v.simulations) m' (Chain vals) q) (Chain vals ≡ []) EndBlock
      ((None, stands_new m (new_instance s k (Some i) hs) z (top.placed).as_many), below_new s ok v m k (Some i) hs z x is solid (Some first) v.members v.simulations tt (Chain vals) (Takes None) (waits_on vals [] ks None b h work), (refl, refl))))

  -- ---- a procedure

  pub link_is : (u : ℕ) (v : Val) (f : ℕ → Run Configuration) → HandFine s (see marks o) m i (LinkTo u) v → ((j : ℕ) → Knows m i j → Whole s m j u → Goes (IsFine s) (f j)) → Goes (IsFine s) (having (instance_in v) o f)
  link_is u (Link j) f a go = had (IsFine s) (Some j) j o f refl (go j a.0 a.1)
  link_is u (Of z) f a go = absurd a
  link_is u (Address z) f a go = absurd a
  link_is u (ArrayValue z) f a go = absurd a
  link_is u (ProcedureValue z y) f a go = absurd a
  link_is u (Actual z pr y) f a go = absurd a

  pub lives_is : (j : ℕ) (x : Instance (List Held)) → live m j ≡ Some x → is_live m j ≡ true
  lives_is j x e = ap instances.is_live_in e

  -- the store in which copies of the instance have gone over, and a new instance is entered then
  module _ (p : World) (g' : List Sight) (e : Later s (see marks o) m (see (marks_of marks g') p) m All) (copies : (q : Seat) (j d : ℕ) → Elsewhere marks.seat q → Copies (at_seat (see marks o) q) (at_seat (see (marks_of marks g') p) q) j d) (fine : StoreFine s (see marks o) m) (elements : ElementsFine s (see marks o) m → ElementsFine s (see (marks_of marks g') p) m) (linkages : p.members ≡ o.members) (blocks : p.simulations ≡ o.simulations) where
    pub store_handed : StoreFine s (see (marks_of marks g') p) m
    store_handed = record {
      instances = λ j x lives. instance_later s (see marks o) m (see (marks_of marks g') p) m All e j x tt (fine.instances j x lives);
      elements = elements fine.elements;
      kept = kept_later s (see marks o) m (see (marks_of marks g') p) m All e (Elsewhere marks.seat) (λ q j d k ok. copies q j d k) (λ j k. (refl, refl)) refl refl (λ j x is. standing_apart j x) (others_kept marks.beneath marks.seat m i rest top) fine.kept;
      noted = fine.noted;
      members = subst (λ q. MembersFine s q m) (sym linkages) fine.members;
      simulations = subst (λ q. SimulationsFine s q m) (sym blocks) fine.simulations;
    }

    pub below_handed : (v : Waits) → ChainFine s (see marks o) m rest v → ChainFine s (see (marks_of marks g') p) m rest v
    below_handed v c = fine_later s (see marks o) m (see (marks_of marks g') p) m All e (Elsewhere marks.seat) (λ q j d k ok. copies q j d k) (λ j k. (refl, refl)) rest (all_apart None rest) (others_on marks.beneath marks.seat m i rest top) v c

  module _ (k line : ℕ) (result : Option TypeName) (h : Heading) (a : Statement) (vs vs' : List Val) (d j u : ℕ) (todo : List DeclNo) (left : List Kinds) (g : Option Kinds) (is : text s k ≡ Some (ProcedureText result h a)) (stands : encloser s.tables k ≡ Some u) (near : Near (see marks o) m i j) (whole : Whole s m j u) (acts : ActualsAre s (see marks o) m i d (formal_kinds s (formals_of s k)) vs) (less : length vs' < d) (gives : GivesResult s k g) (b : Begun s (see marks o) m i t todo) (hands : HandsFine s (see marks o) m i left vs') (work : Work s o marks long m i t rest top w todo (given g left)) (lasts : is_class_free s k ≡ false → list_any is_held (formals_of s k) ≡ true → Stays m i) where
    abbrev X : Text
    X = ProcedureText result h a

    abbrev N : ℕ
    N = length m.instances

    abbrev First : ℕ
    First = (marks.seat).owner

    abbrev Nobody : Standing Activation
    Nobody = NoObject None

    abbrev first : List Held
    first = first_cells s k X

    abbrev fs : List Formal
    fs = formals_of s k

    abbrev P : World
    P = handed_over N (arrays_by_value fs vs) o

    typed_procedure : ProcedureTyped s k result a
    typed_procedure = ok.texts k X is

    solid : is_connection (text s k) ≡ false
    solid = ap is_connection is

    -- with these cells
    abbrev After : List Held → Instances
    After c = entered m (new_instance s k (Some j) c) Nobody

    abbrev noted : Marks
    noted = marked marks N (Some First)

    later_with : (c : List Held) (z : List Sight) (q : World) → Later s (see (marks_of marks z) q) m (see (marks_of noted z) q) (After c) All
    later_with c z q = later_new s ok (see (marks_of marks z) q) m k (Some j) c Nobody X is solid (Some First) q.members q.simulations

    -- where it takes arrays by reference, the instance that enters it is there for as long
    outlives : (c : List Held) → list_any is_held fs ≡ true → Outlives s m (After c) i N top.before marks noted (later_with c)
    outlives c held q p = near_same (see noted o) (see (marks_of noted q) p) (After c) N i refl (near_inside s ok (see marks o) m k (Some j) c Nobody X is solid (Some First) o.members o.simulations b.store i (λ free. lasts free held) First refl (b.works).near)

    handed : (c : List Held) → Handed s m (After c) i N top.before marks noted (later_with c) o marks.sights d P (λ z. (kk : ℕ) → ValsFine s z (After c) N kk (holds_of s fs) vs)
    handed c = hand_all s m (After c) i N top.before marks noted (later_with c) fs (formal_kinds s fs) (formals_hand s (Outlives s m (After c) i N top.before marks noted (later_with c)) (numbers_of s k) fs typed_procedure.formals (outlives c)) vs o marks.sights long d acts

    filled : (c : List Held) → FilledBehind s (see (marks_of noted (handed c).sights) P) (After c) N k result vs first
    filled c = procedure_cells s (see (marks_of noted (handed c).sights) P) (After c) N k result h a fs vs typed_procedure.result typed_procedure.formals ((handed c).values k)

    abbrev Cells : List Held
    Cells = (filled first).cells

    abbrev G : Marks
    G = marks_of marks (handed Cells).sights

    abbrev V : AllArrays
    V = see G P

    abbrev V' : AllArrays
    V' = on_top V N (Some First) V.members V.simulations

    abbrev M : Instances
    M = After Cells

    same_cells : (filled Cells).cells ≡ Cells
    same_cells = same_some (filled_behind result vs first) (filled Cells).cells Cells (filled Cells).filled_is (filled first).filled_is

    fine : CellsFine s V' M N k Cells
    fine = subst (CellsFine s V' M N k) same_cells (filled Cells).fine

    keys : (key : Key) → KeyAmong key (keys_in s k (text s k)) → KeyAmong key (map key_of Cells)
    keys key z = subst (KeyAmong key) (sym (filled first).same_keys) (subst (λ q. KeyAmong key (keys_in s k q)) is z)

    plain : has_levels (text s k) ≡ false
    plain = ap has_levels is

    made : Made s k [] Cells
    made = made_alone s ok k [] Cells solid plain (λ c kd holds there none. absurd (held_there s (see (marks_of noted (handed first).sights) P) (After first) N k (Declared c.0) Cells (filled first).held_all (keys (Declared c.0) there) none))

    e : Later s (see marks o) m V m All
    e = (handed Cells).later marks m

    copies : (q : Seat) (n y : ℕ) → Elsewhere marks.seat q → Copies (at_seat (see marks o) q) (at_seat V q) n y
    copies q n y other z kd c' small copy = (handed Cells).copies q n z kd c' (λ same. absurd (other same)) copy

    linkages : P.members ≡ o.members
    linkages = handed_members N (arrays_by_value fs vs) o

    blocks : P.simulations ≡ o.simulations
    blocks = handed_simulations N (arrays_by_value fs vs) o

    store : StoreFine s V m
    store = store_handed P (handed Cells).sights e copies b.store (handed Cells).elements linkages blocks

    begun : Begun s V' M N k []
    begun =
        begun_new s ok V m k (Some j) Cells Nobody X is solid (Some First) V.members V.simulations store tt (keys_alone s ok k (map key_of Cells) solid plain keys) (λ class. absurd (no_class (text s k) plain class)) fine
        (inside_new s ok V m k (Some j) Cells Nobody X is solid (Some First) V.members V.simulations j u First refl stands (live_less m j whole.now whole.lives) refl (near_then V m First i j (near_same (see marks o) V m First i refl (b.works).near) (near_same (see marks o) V m i j refl near)) store whole) [] made
        (members_more s V.members m M k (Some j) (more_new s ok V m k (Some j) Cells Nobody X is solid (Some First) V.members V.simulations) (plain_no_linkage s ok k solid plain) (plain_no_simulation s ok k solid plain) store.members)
        (simulations_more s V.simulations m M k (Some j) (more_new s ok V m k (Some j) Cells Nobody X is solid (Some First) V.members V.simulations) store.simulations (plain_no_simulation s ok k solid plain) (plain_no_process s ok k solid plain))

    chain : ChainFine s V m (Chain vs') (Takes g)
    chain =
        let own = work_owner s o marks long m i t rest top w vs' todo (given g left) work in
        record {
          of_text = t;
          todo = todo;
          here = b.here;
          own = b.own;
          stands_on = λ x at. top.stands_on x (sym own ∙ at);
          seat = marks.seat;
          seated = ap (λ x. seat_on x (footing None rest)) own ∙ top.seated;
          works = seated_later s (see marks o) m V m All e marks.seat i tt b.works;
          vals = vs';
          shown = refl;
          kinds = left;
          hands = hands_later s (see marks o) m V m All e i tt left vs' (λ z kd c deep copy. (handed Cells).copies marks.seat i z kd c (λ q. omega (arith, deep, less)) copy) hands;
          expected = given g left;
          expects = refl;
          goes = work_later s (see marks o) m V m All e i t tt refl (λ q. refl) (rest ≡ []) (rest ≡ []) (λ q. q) (λ q. ChainFine s (see marks o) m rest q) (λ q. ChainFine s V m rest q) (below_handed P (handed Cells).sights e copies b.store (handed Cells).elements linkages blocks) w todo (given g left) work;
        }

    -- after the instances that it needs were kept
    pub enters_procedure : Goes (IsFine s) (having (filled_behind result vs first) o (λ c. entering l line (words_of_cells first) o (λ q. in_instance s (handed_over N (arrays_by_value fs vs) q) m k (Some j) c (λ now. Do (Exec a) ∷ EndProcedure (has_result result) ∷ []) (Chain vs'))))
    enters_procedure =
        let ns = arrays_by_value fs vs in
        had (IsFine s) (filled_behind result vs first) Cells o (λ c. entering l line (words_of_cells first) o (λ q. in_instance s (handed_over N ns q) m k (Some j) c (λ now. Do (Exec a) ∷ EndProcedure (has_result result) ∷ []) (Chain vs'))) (filled first).filled_is
        (enters (IsFine s) l line (words_of_cells first) o (λ q. in_instance s (handed_over N ns q) m k (Some j) Cells (λ now. Do (Exec a) ∷ EndProcedure (has_result result) ∷ []) (Chain vs')) (λ t' w'.
        same_arrays P (handed_over N ns (ran o t' w')) _ (handed_same N ns o (ran o t' w') refl) (linkages ∙ sym (handed_members N ns (ran o t' w'))) (blocks ∙ sym (handed_simulations N ns (ran o t' w')))
        (enters_fine s ok P G (handed Cells).long m k (Some j) Cells Nobody [] tt (Do (Exec a) ∷ EndProcedure (has_result result) ∷ []) (Chain vs') P (Some First) (chain_first todo (given g left) work vs') store (chain_placed todo (given g left) work vs') (chain_headed todo (given g left) work vs') (inr refl) begun
        ([], [], (refl, refl, refl, (k, own_site s V' M N k [] begun, typed_procedure.body)), (result, h, a, is, refl, g, gives, (None, stands_new m (new_instance s k (Some j) Cells) Nobody (top.placed).as_many), below_new s ok V m k (Some j) Cells Nobody X is solid (Some First) V.members V.simulations tt (Chain vs') (Takes g) chain, (refl, refl))))))

module _ (s : Source) (ok : Typed s) (l : Limits) (o : World) (marks : Marks) (long : length marks.sights ≡ length o.arrays) (m : Instances) (i t : ℕ) (rest : List Activation) (top : Operates marks.beneath marks.seat m i rest) (w : List Item) (vals : List Val) where
  -- the instances that the procedure needs are kept first
  pub procedure_goes : (k line : ℕ) (result : Option TypeName) (h : Heading) (a : Statement) (vs vs' : List Val) (d j u : ℕ) (todo : List DeclNo) (left : List Kinds) (g : Option Kinds) → text s k ≡ Some (ProcedureText result h a) → encloser s.tables k ≡ Some u → Near (see marks o) m i j → Whole s m j u → ActualsAre s (see marks o) m i d (formal_kinds s (formals_of s k)) vs → length vs' < d → GivesResult s k g → Begun s (see marks o) m i t todo → HandsFine s (see marks o) m i left vs' → Work s o marks long m i t rest top w todo (given g left)
      → Goes (IsFine s) (procedure_entered s l o m i w vs' rest k line vs j (Some (ProcedureText result h a)))
  procedure_goes k line result h a vs vs' d j u todo left g is stands near whole acts less gives b hands work =
      subst (λ z. Goes (IsFine s) (having (filled_behind result vs first) o (λ c. entering l line (words_of_cells first) o (λ q. in_instance s (handed_over z (arrays_by_value (formals_of s k) vs) q) n k (Some j) c (λ now. Do (Exec a) ∷ EndProcedure (has_result result) ∷ []) (Below vs'))))) (y.same).count
      (enters_procedure s ok l o marks long n i t rest (operates_on marks.beneath marks.seat m n i rest y.same top) w vals k line result h a vs vs' d j u todo left g is stands ((y.later).nears i j tt near) (present_later s v m v n All y.later j u [] tt whole)
      (actuals_later s v m v n y.later i (λ z e x c deep f. f) (formal_kinds s (formals_of s k)) vs d acts) less gives
      (record { store = y.store; here = present_later s v m v n All y.later i t todo tt b.here; own = own_later s v m v n All y.later i t todo tt b.here ∙ b.own; works = works })
      (hands_later s v m v n All y.later i tt left vs' (λ e x c deep f. f) hands)
      (work_later s v m v n All y.later i t tt refl (λ q. (steady i).1) (rest ≡ []) (rest ≡ []) (λ q. q) (λ q. ChainFine s v m rest q) (λ q. ChainFine s v n rest q) (λ q c. fine_later s v m v n All y.later AnySeat (λ q j d k ok e h a deep copy. copy) (λ e f. steady e) rest (all_apart None rest) (all_apart None rest) q c) w todo (given g left) work)
      (λ free held. near_stays v n (marks.seat).owner i (y.lasts free held) works.near))
    where
      v : AllArrays
      v = see marks o

      first : List Held
      first = first_cells s k (ProcedureText result h a)

      Below : List Val → List Activation
      Below vs = record { instance = i; work = w; values = vs } ∷ rest

      n : Instances
      n = instances_kept s k (Below vs') m

      y : Kept s v m n (marks.seat).owner (is_class_free s k) (list_any is_held (formals_of s k))
      y = entry_keeps s v m (Below vs') (Takes g) (waits_on s ok l o marks long m i t rest top w vals vs' todo left g b hands work) b.store (marks.seat).owner (sym (chain_first s ok l o marks long m i t rest top w vals todo (given g left) work vs')) k

      works : SeatedFor v n marks.seat i
      works = seated_later s v m v n All y.later marks.seat i tt b.works

      steady : (e : ℕ) → Steady v m v n e
      steady = steady_same v m v n (y.same).standings refl

  pub called_goes : (k n line : ℕ) (todo : List DeclNo) (before behind : List Kinds) → CallOpFine s k n before behind → Begun s (see marks o) m i t todo → HandsFine s (see marks o) m i before vals → Work s o marks long m i t rest top w todo behind → Goes (IsFine s) (called s l o m i w vals rest k n line)
  called_goes k n line todo before behind c b h work =
      let q = c.procedure in
      let typed : ProcedureTyped s k q.result q.body = ok.texts k (ProcedureText q.result q.heading q.body) q.is in
      let r = taken s (see marks o) m i (formal_kinds s (formals_of s k)) (LinkTo c.around ∷ c.left) vals (formals_some s (numbers_of s k) (formals_of s k) typed.formals) (subst (λ z. HandsFine s (see marks o) m i z vals) (c.«in») h) in
      let many : n ≡ length r.values = c.count ∙ sym (formals_many (formals_of s k)) ∙ sym r.count in
      subst (λ z. Goes (IsFine s) (pop_many z [] vals o next)) (sym many)
      (subst (λ z. Goes (IsFine s) (pop_many (length r.values) [] z o next)) (sym r.are)
      (subst (Goes (IsFine s)) (sym (all_taken r.values r.rest o next))
      (any_popped (IsFine s) s (see marks o) m i (LinkTo c.around) c.left r.rest o (λ v vs. having (instance_in v) o (λ j. when (is_live m j) o (procedure_entered s l o m i w vs rest k line r.values j (text s k)))) r.more (λ v vs same here more.
      link_is s ok l o marks long m i t rest top w vals c.around v (λ j. when (is_live m j) o (procedure_entered s l o m i w vs rest k line r.values j (text s k))) here (λ j near whole.
      whens (IsFine s) (is_live m j) o (procedure_entered s l o m i w vs rest k line r.values j (text s k)) (lives_is s ok l o marks long m i t rest top w vals j whole.now whole.lives)
      (subst (λ z. Goes (IsFine s) (procedure_entered s l o m i w vs rest k line r.values j z)) (sym q.is)
      (procedure_goes k line q.result q.heading q.body r.values vs (length r.rest) j c.around todo c.left c.gives q.is q.stands_in (knows_near s (see marks o) m b.store i j near) whole r.fine (below_top r.rest v vs same) c.result b more (subst (λ z. Work s o marks long m i t rest top w todo z) c.out work))))))))
    where
      next : List Val → List Val → Run Configuration
      next values vals = popping vals o (λ v vals. having (instance_in v) o (λ j. when (is_live m j) o (procedure_entered s l o m i w vals rest k line values j (text s k))))

      below_top : (rest : List Val) (v : Val) (vs : List Val) → rest ≡ v ∷ vs → length vs < length rest
      below_top rest v vs e = let f : length rest ≡ suc (length vs) = ap length e in omega (arith, f)

      formals_many : (fs : List Formal) → length (formal_kinds s fs) ≡ length fs
      formals_many [] = refl
      formals_many (f ∷ fs) = ap suc (formals_many fs)
