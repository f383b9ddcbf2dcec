-- Instances on top of the operating chain are kept: all is there as before, and those stay.
use Rattle.std.proofs.Common.{◌≡◌, ◌≢◌, ℕ, Bool, true, false, List, [], ◌∷◌, length, Option, Some, None, ⊎_elim, refl, sym, ap, ◌∙◌, subst, arith}
use Rattle.std.proofs.lemmas.Bool.{cases_eq}
use Rattle.std.specs.Prelude.{◌&&◌, not, if◌then◌else◌, slice_get}
use Rattle.std.specs.List.{list_any}
use Rattle.sim_scope.specs.Source.{Source}
use Rattle.sim_code.specs.Instances.{Instance, encloser_in, ends_in, is_given_at_end, kept_at, kept_further, kept_on, live, with_instance}
use Rattle.sim_code.specs.Instances as instances
use Rattle.sim_meaning.specs.Entries.{formals_of, instances_kept, is_held}
use Rattle.sim_meaning.specs.Pending.{Activation, Held, Instances, owner}
use Rattle.sim_meaning.specs.Texts.{is_class_free}
use Rattle.sim_sound.proofs.Chains.{ends_with}
use Rattle.sim_sound.proofs.Later.{All, Later, StillThere, owner_is, instance_later, kept_all, kept_stays, lasts_later, later_none, object_later, plain_later}
use Rattle.sim_sound.proofs.Lists.{if_false, same_some, set_len, set_other, set_same}
use Rattle.sim_sound.proofs.Members.{StillAll, members_later}
use Rattle.sim_sound.proofs.Moves.{SameOnes, instance_there, later_nears, near_stays, same_ones}
use Rattle.sim_sound.proofs.Running.{ChainFine, StandsOn, StoreFine, first_of, or_below}
use Rattle.sim_sound.proofs.Simulating.{simulations_later}
use Rattle.sim_sound.proofs.Values.{AllArrays, Beneath, InstanceFine, Near, Stays, Waits, at_itself, at_seat, elements_of, near_below, near_staying, one_lower}

-- ---- what is as before, but for what is kept

-- of an instance, if there is one
pub data OnlyKept : (before now : Option (Instance (List Held))) → Type 0 where
  nobody_there : OnlyKept None None
  still_there : {x : Instance (List Held)} → (kept : Bool) → (x.kept ≡ true → kept ≡ true) → OnlyKept (Some x) (Some (record x { kept = kept }))

only_then : (x y z : Option (Instance (List Held))) → OnlyKept x y → OnlyKept y z → OnlyKept x z
only_then _ _ _ nobody_there nobody_there = nobody_there
only_then _ _ _ (still_there k f) (still_there k' g) = still_there k' (λ e. g (f e))

only_same : (x : Option (Instance (List Held))) → OnlyKept x x
only_same None = nobody_there
only_same (Some x) = still_there x.kept (λ e. e)

pub record AsBefore (m n : Instances) : Type 0 where
  pub each : (j : ℕ) → OnlyKept (slice_get m.instances j) (slice_get n.instances j)
  pub count : length n.instances ≡ length m.instances
  pub standings : n.standings ≡ m.standings

as_before : (m : Instances) → AsBefore m m
as_before m = record { each = λ j. only_same (slice_get m.instances j); count = refl; standings = refl }

before_then : (m n p : Instances) → AsBefore m n → AsBefore n p → AsBefore m p
before_then m n p a b = record { each = λ j. only_then (slice_get m.instances j) (slice_get n.instances j) (slice_get p.instances j) (a.each j) (b.each j); count = b.count ∙ a.count; standings = b.standings ∙ a.standings }

-- one is kept
abbrev with_kept : Instances → ℕ → Instance (List Held) → Instances
with_kept m j x = with_instance m j (record x { kept = true })

one_kept : (m : Instances) (j : ℕ) (x : Instance (List Held)) → slice_get m.instances j ≡ Some x → AsBefore m (with_kept m j x)
one_kept m j x is = record {
  each = λ i. ⊎_elim (λ same. here i same) (λ differ. subst (OnlyKept (slice_get m.instances i)) (sym (set_other m.instances j i (record x { kept = true }) differ)) (only_same (slice_get m.instances i))) (cases_eq i j);
  count = set_len m.instances j (record x { kept = true });
  standings = refl;
}
  where
    here : (i : ℕ) → i ≡ j → OnlyKept (slice_get m.instances i) (slice_get (with_kept m j x).instances i)
    here i same =
        subst (λ z. OnlyKept z (slice_get (with_kept m j x).instances i)) (sym is ∙ ap (slice_get m.instances) (sym same))
        (subst (OnlyKept (Some x)) (sym (set_same m.instances j x (record x { kept = true }) is) ∙ ap (slice_get (with_kept m j x).instances) (sym same)) (still_there true (λ e. refl)))

-- and those on top of a chain
pub all_kept : (chain : List Activation) (m : Instances) → AsBefore m (kept_on owner chain m)
unfolding kept_on
all_kept [] m = as_before m
all_kept (a ∷ chain) m = by_owner (owner a) (λ n. all_kept chain n)
  where
    by_there : (j : ℕ) (x : Option (Instance (List Held))) → slice_get m.instances j ≡ x → ((n : Instances) → AsBefore n (kept_on owner chain n)) → AsBefore m (kept_further (kept_on owner chain) m j x)
    by_there j None e go = as_before m
    by_there j (Some x) e go = by_flag x.passing
      where
        by_flag : (b : Bool) → AsBefore m (if b then kept_on owner chain (with_kept m j x) else m)
        by_flag true = before_then m (with_kept m j x) (kept_on owner chain (with_kept m j x)) (one_kept m j x e) (go (with_kept m j x))
        by_flag false = as_before m

    by_owner : (u : Option ℕ) → ((n : Instances) → AsBefore n (kept_on owner chain n)) → AsBefore m (kept_at (kept_on owner chain) m u)
    by_owner None go = go m
    by_owner (Some j) go = by_there j (slice_get m.instances j) refl go

-- ---- what lives, and what is given back at its end

live_kept : (x : Instance (List Held)) (kept : Bool) (b : Bool) → x.given_back ≡ b → (y : Instance (List Held)) → instances.unless_given (Some x) ≡ Some y → instances.unless_given (Some (record x { kept = kept })) ≡ Some (record y { kept = kept })
live_kept x kept true e y is = absurd (let none : instances.unless_given (Some x) ≡ None = ap (λ z. if z then None else Some x) e in cc)
live_kept x kept false e y is =
    let same : x ≡ y = same_some (instances.unless_given (Some x)) x y (if_false x.given_back None (Some x) e) is in
    if_false x.given_back None (Some (record x { kept = kept })) e ∙ ap {A = Instance (List Held)} (λ z. Some (record z { kept = kept })) same

-- an instance lives as before, and may be kept
pub record Was (x : Option (Instance (List Held))) (now : Instance (List Held)) : Type 0 where
  pub it : Instance (List Held)
  pub lives : instances.unless_given x ≡ Some it
  pub kept : Bool
  pub is : record it { kept = kept } ≡ now

module _ (m n : Instances) (a : AsBefore m n) where
  lives_still : (x y : Option (Instance (List Held))) → OnlyKept x y → (it : Instance (List Held)) → instances.unless_given x ≡ Some it → (kept : Bool) × (instances.unless_given y ≡ Some (record it { kept = kept })) × (it.kept ≡ true → kept ≡ true)
  lives_still _ _ nobody_there it e = absurd (cc)
  lives_still _ _ (still_there {x = x} kept f) it e =
      let there = (instance_there (Some x) it e).0 in
      (kept, live_kept x kept x.given_back refl it e, subst (λ z. z.kept ≡ true → kept ≡ true) (same_some (Some x) x it refl there) f)

  lived : (x y : Option (Instance (List Held))) → OnlyKept x y → (it : Instance (List Held)) → instances.unless_given y ≡ Some it → Was x it
  lived _ _ nobody_there it e = absurd (cc)
  lived _ _ (still_there {x = x} kept f) it e =
      let there = instance_there (Some (record x { kept = kept })) it e in
      let same : record x { kept = kept } ≡ it = same_some (Some (record x { kept = kept })) (record x { kept = kept }) it refl there.0 in
      record { it = x; lives = if_false x.given_back None (Some x) (ap (λ z. z.given_back) same ∙ there.1); kept = kept; is = same }

  still : (j : ℕ) (x : Instance (List Held)) → live m j ≡ Some x → StillThere n j x
  still j x lives =
      let y = lives_still (slice_get m.instances j) (slice_get n.instances j) (a.each j) x lives in
      record { now = record x { kept = y.0 }; lives = y.1; grown = record { text = refl; level = refl; encloser = refl; passing = refl; kept = y.2; keys = λ key b. b; holds = λ key b. b } }

  was : (j : ℕ) (x : Instance (List Held)) → live n j ≡ Some x → Was (slice_get m.instances j) x
  was j x lives = lived (slice_get m.instances j) (slice_get n.instances j) (a.each j) x lives

  stays_still : (j : ℕ) → Stays m j → Stays n j
  stays_still j p =
      let y = lives_still (slice_get m.instances j) (slice_get n.instances j) (a.each j) p.now p.lives in
      record { now = record (p.now) { kept = y.0 }; lives = y.1; stays = kept_stays (p.now).passing (p.now).kept y.0 y.2 p.stays }

  ended_before : (x y : Option (Instance (List Held))) → OnlyKept x y → ends_in (instances.unless_given y) ≡ true → ends_in (instances.unless_given x) ≡ true
  ended_before _ _ nobody_there e = e
  ended_before _ _ (still_there {x = x} kept f) e = by_given x.given_back refl
    where
      by_flags : (passing k k' : Bool) → (k ≡ true → k' ≡ true) → (passing && not k') ≡ true → (passing && not k) ≡ true
      by_flags false k k' f e = e
      by_flags true false k' f e = refl
      by_flags true true k' f e = absurd (let there = f refl in cc)

      by_given : (b : Bool) → x.given_back ≡ b → ends_in (instances.unless_given (Some x)) ≡ true
      by_given true g = absurd (let none : ends_in (instances.unless_given (Some (record x { kept = kept }))) ≡ false = ap (λ z. ends_in (if z then None else Some (record x { kept = kept }))) g in cc)
      by_given false g =
          let now : (x.passing && not kept) ≡ true = sym (ap (λ z. ends_in (if z then None else Some (record x { kept = kept }))) g) ∙ e in
          ap (λ z. ends_in (if z then None else Some x)) g ∙ by_flags x.passing x.kept kept f now

  encloser_before : (x y : Option (Instance (List Held))) → OnlyKept x y → encloser_in y ≡ encloser_in x
  encloser_before _ _ nobody_there = refl
  encloser_before _ _ (still_there kept f) = refl

  pub same_instances : SameOnes m n
  same_instances = record {
    count = a.count;
    ended = λ j e. ended_before (slice_get m.instances j) (slice_get n.instances j) (a.each j) e;
    enclosers = λ j. encloser_before (slice_get m.instances j) (slice_get n.instances j) (a.each j);
    standings = a.standings;
  }

-- ---- what is below what is kept stays

-- an instance lives, and stands on the next one if it is given back at its end
record OneStandsOn (o : AllArrays) (m : Instances) (j : ℕ) (under : Option ℕ) : Type 0 where
  on : StandsOn o.beneath m j under
  it : Instance (List Held)
  lives : live m j ≡ Some it

abbrev OwnerStandsOn : AllArrays → Instances → Option ℕ → (under : Option ℕ) → Type 0
OwnerStandsOn o m None under = Unit {0}
OwnerStandsOn o m (Some j) under = OneStandsOn o m j under

-- so does each on a chain; evaluations are passed over
abbrev AllStandOn : AllArrays → Instances → List Activation → Type 0
AllStandOn o m [] = Unit {0}
AllStandOn o m (a ∷ rest) = OwnerStandsOn o m (owner a) (first_of rest) × AllStandOn o m rest

chain_stands : (s : Source) (o : AllArrays) (m : Instances) (chain : List Activation) (w : Waits) → ChainFine s o m chain w → AllStandOn o m chain
chain_stands s o m [] w c = tt
chain_stands s o m (a ∷ rest) w c =
    (owned (owner a) refl, ⊎_elim (λ b. chain_stands s o m rest b.0 b.1) (λ e. subst (AllStandOn o m) (sym e) tt) (ends_with s (at_seat o c.seat) m (λ v. ChainFine s o m rest v) (rest ≡ []) a.instance c.of_text a.work c.todo c.expected c.goes))
  where
    owned : (u : Option ℕ) → owner a ≡ u → OwnerStandsOn o m u (first_of rest)
    owned None e = tt
    owned (Some j) e = record { on = c.stands_on j e; it = (c.here).now; lives = ap (live m) (sym (owner_is a j e)) ∙ (c.here).lives }

module _ (o : AllArrays) (m : Instances) where
  -- of the instances n some are kept already
  abbrev Lasting : List Activation → Instances → Type 0
  Lasting chain n = AsBefore m n → AllStandOn o m chain → (j e : ℕ) → first_of chain ≡ Some j → Beneath o m j e → Stays (kept_on owner chain n) e

  first_lasts : (chain : List Activation) (n : Instances) → Lasting chain n
  unfolding kept_on
  first_lasts [] n same stand j e is way = absurd (cc)
  first_lasts (a ∷ rest) n same stand j e is way = by_owner (owner a) stand.0 is (λ p. first_lasts rest p)
    where
      by_owner : (u : Option ℕ) → OwnerStandsOn o m u (first_of rest) → or_below u (first_of rest) ≡ Some j → ((p : Instances) → Lasting rest p) → Stays (kept_at (kept_on owner rest) n u) e
      by_owner None one is go = go n same stand.1 j e is way
      by_owner (Some i) one is go = by_there (slice_get n.instances i) refl
        where
          here : i ≡ j
          here = cc

          it : Instance (List Held)
          it = one.it

          lives_now : (kept : Bool) × (live n i ≡ Some (record it { kept = kept })) × (it.kept ≡ true → kept ≡ true)
          lives_now = lives_still m n same (slice_get m.instances i) (slice_get n.instances i) (same.each i) it one.lives

          -- an instance that is no class-free sub-block or procedure stays
          by_itself : it.passing ≡ false → Stays n e
          by_itself flag = stays_still m n same e (near_stays o m j e (subst (Stays m) here (record { now = it; lives = one.lives; stays = ap (λ z. z && not it.kept) flag })) (near_below way))

          by_there : (x : Option (Instance (List Held))) → slice_get n.instances i ≡ x → Stays (kept_further (kept_on owner rest) n i x) e
          by_there None f = absurd (let there = (instance_there (slice_get n.instances i) (record it { kept = lives_now.0 }) lives_now.1).0 in cc)
          by_there (Some x) f = by_flag x.passing refl
            where
              there : (slice_get n.instances i ≡ Some (record it { kept = lives_now.0 })) × (it.given_back ≡ false)
              there = instance_there (slice_get n.instances i) (record it { kept = lives_now.0 }) lives_now.1

              is_x : record it { kept = lives_now.0 } ≡ x
              is_x = same_some (slice_get n.instances i) (record it { kept = lives_now.0 }) x there.0 f

              next : Instances
              next = with_kept n i x

              kept_here : Stays next i
              kept_here = record {
                now = record x { kept = true };
                lives = ap instances.unless_given (set_same n.instances i x (record x { kept = true }) f) ∙ if_false x.given_back None (Some (record x { kept = true })) (ap (λ z. z.given_back) (sym is_x) ∙ there.1);
                stays = never x.passing;
              }
                where
                  never : (b : Bool) → (b && false) ≡ false
                  never true = refl
                  never false = refl

              further : (k : ℕ) → Beneath o m k e → first_of rest ≡ Some k → Stays (kept_on owner rest next) e
              further k way on = go next (before_then m n next same (one_kept n i x f)) stand.1 k e on way

              by_way : (k : ℕ) → i ≡ k → Beneath o m k e → Stays (kept_on owner rest next) e
              by_way k same at_itself = stays_still next (kept_on owner rest next) (all_kept rest next) k (subst (Stays next) same kept_here)
              by_way k same (one_lower {k = l} ends on p) =
                  further l p (same_some (slice_get o.beneath k) (first_of rest) (Some l) (subst (λ z. slice_get o.beneath z ≡ Some (first_of rest)) same (one.on (ap (is_given_at_end m) same ∙ ends))) on)

              by_flag : (b : Bool) → x.passing ≡ b → Stays (if b then kept_on owner rest next else n) e
              by_flag true flag = by_way j here way
              by_flag false flag = by_itself (ap (λ z. z.passing) is_x ∙ flag)

  -- so what is below one that is kept only now stays
  abbrev LastingNow : List Activation → Instances → Type 0
  LastingNow chain n = AsBefore m n → AllStandOn o m chain → (j e : ℕ) → is_given_at_end n j ≡ true → is_given_at_end (kept_on owner chain n) j ≡ false → Beneath o m j e → Stays (kept_on owner chain n) e

  kept_lasts : (chain : List Activation) (n : Instances) → LastingNow chain n
  unfolding kept_on
  kept_lasts [] n same stand j e ends stops way = absurd (cc)
  kept_lasts (a ∷ rest) n same stand j e ends stops way = by_owner (owner a) refl (λ p. kept_lasts rest p) stops
    where
      by_owner : (u : Option ℕ) → owner a ≡ u → ((p : Instances) → LastingNow rest p) → is_given_at_end (kept_at (kept_on owner rest) n u) j ≡ false → Stays (kept_at (kept_on owner rest) n u) e
      by_owner None own go stops = go n same stand.1 j e ends stops way
      by_owner (Some i) own go stops =
          ⊎_elim (λ here. subst (λ u. Stays (kept_at (kept_on owner rest) n u) e) own (first_lasts (a ∷ rest) n same stand j e (ap (λ u. or_below u (first_of rest)) own ∙ ap Some here) way))
          (λ differ. by_there differ (slice_get n.instances i) refl stops) (cases_eq i j)
        where
          by_there : i ≢ j → (x : Option (Instance (List Held))) → slice_get n.instances i ≡ x → is_given_at_end (kept_further (kept_on owner rest) n i x) j ≡ false → Stays (kept_further (kept_on owner rest) n i x) e
          by_there differ None f stops = absurd (cc)
          by_there differ (Some x) f stops = by_flag x.passing stops
            where
              next : Instances
              next = with_kept n i x

              ends_still : is_given_at_end next j ≡ true
              ends_still = ap (λ z. ends_in (instances.unless_given z)) (set_other n.instances i j (record x { kept = true }) (λ q. differ (sym q))) ∙ ends

              by_flag : (b : Bool) → is_given_at_end (if b then kept_on owner rest next else n) j ≡ false → Stays (if b then kept_on owner rest next else n) e
              by_flag true stops = go next (before_then m n next same (one_kept n i x f)) stand.1 j e ends_still stops way
              by_flag false stops = absurd (cc)

-- ---- the instances on top of the operating chain are kept

module _ (s : Source) (o : AllArrays) (m : Instances) (chain : List Activation) (w : Waits) (fine : ChainFine s o m chain w) where
  abbrev pub kept_now : Instances
  kept_now = kept_on owner chain m

  stand : AllStandOn o m chain
  stand = chain_stands s o m chain w fine

  kept_same : AsBefore m kept_now
  kept_same = all_kept chain m

  beneath_kept : (j e : ℕ) → Beneath o m j e → Near o kept_now j e
  beneath_kept j _ at_itself = near_below at_itself
  beneath_kept j e (one_lower {k = k} ends on way) = by_flag (is_given_at_end kept_now j) refl (beneath_kept k e way)
    where
      lower : is_given_at_end kept_now j ≡ true → Near o kept_now k e → Near o kept_now j e
      lower f (near_staying p) = near_staying p
      lower f (near_below p) = near_below (one_lower f on p)

      by_flag : (b : Bool) → is_given_at_end kept_now j ≡ b → Near o kept_now k e → Near o kept_now j e
      by_flag true f near = lower f near
      by_flag false f near = near_staying (kept_lasts o m chain m (as_before m) stand j e ends f (one_lower ends on way))

  near_kept : (j e : ℕ) → Near o m j e → Near o kept_now j e
  near_kept j e (near_staying p) = near_staying (stays_still m kept_now kept_same e p)
  near_kept j e (near_below way) = beneath_kept j e way

  pub later_kept : Later s o m o kept_now All
  later_kept =
      later_nears s o o m kept_now refl refl (λ j x e. e) (still m kept_now kept_same) near_kept (λ j a. (a.0, ap (λ z. slice_get z j) kept_same.standings ∙ a.1, a.2)) (λ j a. (a.0, ap (λ z. slice_get z j) kept_same.standings ∙ a.1))

  pub store_kept : StoreFine s o m → StoreFine s o kept_now
  store_kept store = record {
    instances = λ j x e. (let y = was m kept_now kept_same j x e in subst (InstanceFine s o kept_now j) y.is (only_flag j y.it y.kept (instance_later s o m o kept_now All later_kept j y.it tt (store.instances j y.it y.lives))));
    elements = λ a i it x p l k at. plain_later s o m o kept_now All later_kept (elements_of x) p (store.elements a i it x p l k at);
    kept = kept_all s o m o kept_now later_kept kept_same.standings refl (λ q j d e h a less f. f) store.kept;
    noted = store.noted ∙ sym kept_same.count;
    members = members_later s o.members m kept_now all_still store.members;
    simulations = simulations_later s o.simulations m kept_now all_still store.simulations;
  }
    where
      only_flag : (j : ℕ) (x : Instance (List Held)) (kept : Bool) → InstanceFine s o kept_now j x → InstanceFine s o kept_now j (record x { kept = kept })
      only_flag j x kept f = record { level = f.level; solid = f.solid; keys = f.keys; holds = f.holds; cells = f.cells; ends = f.ends; origins = f.origins; out = f.out }

      all_still : StillAll s m kept_now
      all_still = record {
        objects = λ j c a. object_later s o m o kept_now All later_kept j c a;
        lasts = λ j u a. lasts_later s o m o kept_now All later_kept j u a;
        more = (let n = kept_same.count in omega (arith, n));
        texts = λ j x e. (let y = was m kept_now kept_same j x e in (y.it, y.lives, ap (λ z. z.text) y.is, ap (λ z. z.encloser) y.is));
      }

  -- the one on top stays then
  pub top_kept : (j : ℕ) → first_of chain ≡ Some j → Stays kept_now j
  top_kept j is = first_lasts o m chain m (as_before m) stand j j is at_itself

-- ---- where a procedure is entered

-- all is there as before, and the instance on top stays if the procedure needs it
pub record Kept (s : Source) (o : AllArrays) (m n : Instances) (i : ℕ) (free held : Bool) : Type 0 where
  pub later : Later s o m o n All
  pub store : StoreFine s o n
  pub same : SameOnes m n
  pub lasts : free ≡ false → held ≡ true → Stays n i

pub entry_keeps : (s : Source) (o : AllArrays) (m : Instances) (chain : List Activation) (w : Waits) → ChainFine s o m chain w → StoreFine s o m → (i : ℕ) → first_of chain ≡ Some i → (k : ℕ) → Kept s o m (instances_kept s k chain m) i (is_class_free s k) (list_any is_held (formals_of s k))
entry_keeps s o m chain w fine store i top k = by_flags (is_class_free s k) (list_any is_held (formals_of s k))
  where
    nothing : (free held : Bool) → (free ≡ false → held ≡ true → ⊥) → Kept s o m m i free held
    nothing free held stops = record { later = later_none s o m; store = store; same = same_ones m; lasts = λ e f. absurd (stops e f) }

    by_flags : (free held : Bool) → Kept s o m (if not free && held then kept_on owner chain m else m) i free held
    by_flags true held = nothing true held (λ e f. cc)
    by_flags false false = nothing false false (λ e f. cc)
    by_flags false true = record { later = later_kept s o m chain w fine; store = store_kept s o m chain w fine store; same = same_instances m (kept_on owner chain m) (all_kept chain m); lasts = λ e f. top_kept s o m chain w fine i top }
