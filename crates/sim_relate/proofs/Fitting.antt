-- A reference that is passed on is held against a class: it is put into a temp at an address with the class, and taken from there.
use Rattle.std.proofs.Common.{◌≡◌, ℕ, Bool, true, false, List, ◌∷◌, length, Some, refl, sym, ap, ◌∙◌, subst, arith}
use Rattle.std.specs.Prelude.{pos, if◌then◌else◌}
use Rattle.sim_base.specs.declared.limits.Limits.{Limits}
use Rattle.sim_base.specs.declared.run_error.RunError.TheVariants.{OutsideQualification}
use Rattle.sim_scope.specs.Source.{Source, level_of}
use Rattle.sim_values.specs.Plain.{Character, Integer, Nothing, Object, Plain, Text, Truth, MainOf}
use Rattle.sim_code.specs.declared.instr.Instr.TheVariants as i
use Rattle.sim_code.specs.Classes as classes
use Rattle.sim_code.specs.Code.{CodeOf}
use Rattle.sim_code.specs.Outcome.{Going, Run, RunFault, World}
use Rattle.sim_code.specs.Events.{choosing, having, pop_plain, popping, qualifying, stopping}
use Rattle.sim_code.specs.Machine.{Frames, Machine, Value}
use Rattle.sim_code.specs.Machine as machine
use Rattle.sim_code.specs.Instances.{CellPlace, at_level}
use Rattle.sim_code.specs.Rows.{mstep}
use Rattle.sim_code.proofs.Lifts.{alike_unruled}
use Rattle.sim_meaning.specs.Levels.{stands_in}
use Rattle.sim_meaning.specs.Meaning.{do_op}
use Rattle.sim_meaning.specs.Objects.{fitted}
use Rattle.sim_meaning.specs.Pending.{Activation, Configuration, FitsOp, Instances, Item, Val, plain}
use Rattle.sim_meaning.specs.Pending as meaning
use Rattle.sim_meaning.specs.Sane.{AllName, Names}
use Rattle.sim_meaning.specs.Steps.{go}
use Rattle.codegen_expr.specs.Sites.{class_number}
use Rattle.codegen.specs.Compiled.{Compiled}
use Rattle.sim_relate.proofs.Admitting.{class_counts}
use Rattle.sim_relate.proofs.Hands.{stack_length}
use Rattle.sim_relate.proofs.Here.{Here, goes, kinds_as}
use Rattle.sim_relate.proofs.Known.{actual_at, HandAt, Kind, Runs, StackAt, ValAt, anys, array_at, element_at, image_at, link_at, more_at, plain_at, site_at, Settled, IsReference, procedure_at}
use Rattle.sim_relate.proofs.Living.{own_level}
use Rattle.sim_relate.proofs.Moved.{moved, work_moved}
use Rattle.sim_relate.proofs.Ranked.{Follows, InEach, Meets, at_once, both_stopping, caught, in_steps, lags, simply}
use Rattle.sim_relate.proofs.ObjectsHere.{class_named, named_may_stand}
use Rattle.sim_relate.proofs.Relation.{ChainAt, OpAt, StateAt, StoreAt, WorkAt}
use Rattle.sim_relate.proofs.Silent.{addr_row, matched, place_at, put_row, put_stops, silent, steps_to, swap_row}
use Rattle.sim_relate.proofs.Stores.{levels_same, scratch_written, set_there}
use Rattle.sim_relate.proofs.Straight.{load_row, step_at}
use Rattle.sim_relate.proofs.Trees.{Classed, FitsIs}
use Rattle.codegen_expr.specs.CodeExpr.{HeldAt}
use Rattle.sim_relate.proofs.Carried.{all_every, kept_every}

module _ (s : Source) (code : CodeOf) (coding : Compiled s code) where
  -- where the class of an address is one, the value is held against it
  admitting_is : (fs : Frames) (c line : ℕ) → Classed s c → (v : Value) (o : World) (z : Run Machine) → classes.admitting code fs line (class_number s code c) v o z ≡ classes.qualifying line (classes.may_stand code fs (class_number s code c) (machine.plain v)) o z
  admitting_is fs c line h v o z =
      let e = class_counts s code coding c h in
      subst (λ d. classes.admitting code fs line d v o z ≡ classes.qualifying line (classes.may_stand code fs d (machine.plain v)) o z) (sym e.1) refl

  module _ (m : Instances) (fs : Frames) (store : StoreAt s code m fs) (o : World) (c line : ℕ) (h : Classed s c) where
    -- what is named is in the class on both sides, or on neither
    tested : (p : Plain) → Names s m (meaning.Of p) → IsReference p → (b : Bool) → stands_in s m c p ≡ b → (z : Run Machine) → classes.admitting code fs line (class_number s code c) (machine.Of p) o z ≡ (if b then z else stopping (RunFault OutsideQualification line) o)
    unfolding having choosing
    tested p n i b e z =
        admitting_is fs c line h (machine.Of p) o z ∙
        ap (λ x. classes.qualifying line x o z) (named_may_stand s code coding m fs store c h p n i ∙ ap Some e)

    qualified : (p : Plain) → IsReference p → (b : Bool) → stands_in s m c p ≡ b → (r : Run Configuration) → qualifying line (stands_in s m c) p o r ≡ (if b then r else stopping (RunFault OutsideQualification line) o)
    unfolding qualifying
    qualified (Object j) i b e r = ap (λ x. if x then r else stopping (RunFault OutsideQualification line) o) e
    qualified (MainOf j) i b e r = ap (λ x. if x then r else stopping (RunFault OutsideQualification line) o) e
    qualified Nothing i b e r = absurd i
    qualified (Integer z) i b e r = absurd i
    qualified (Truth z) i b e r = absurd i
    qualified (Character z) i b e r = absurd i
    qualified (Text z) i b e r = absurd i

  none_admitted : (fs : Frames) (o : World) (c line : ℕ) → Classed s c → (z : Run Machine) → classes.admitting code fs line (class_number s code c) (machine.Of Nothing) o z ≡ z
  unfolding having choosing
  none_admitted fs o c line h z = admitting_is fs c line h (machine.Of Nothing) o z

module _ (s : Source) (code : CodeOf) (coding : Compiled s code) (l : Limits) (o : World) (m : Instances) (inst : ℕ) (w : List Item) (vals : List Val) (rest : List Activation) (fs : Frames) (t : ℕ) (b : Runs) (pc : ℕ) (stack : List Value) (below : List machine.Activation) (ks : List Kind) (here : Here s code m fs inst rest t b ks vals stack) (u q : ℕ) (ks' : List Kind) (low : Settled s code t b u) (k : WorkAt s code m fs (λ v. ChainAt s code m fs rest v below) inst t b u w q ks') where
  abbrev R : Configuration → Machine → Type 0
  R = StateAt s code

  abbrev g : World → Machine → Run Machine
  g = mstep code l

  abbrev at : ℕ → List Value → Frames → Machine
  at p stack' fs' = place_at code l inst b below p stack' fs'

  module _ (c line : ℕ) (left : List Kind) (out : ks' ≡ anys 1 left) (a : FitsIs s code (site_at t b u) (length left) c line pc q) (p : Plain) (vals' : List Val) (stack' : List Value) (hs : StackAt (HandAt s code m) left vals' stack') where
    abbrev x : Value
    x = machine.Of p

    abbrev lev : ℕ
    lev = level_of s t

    abbrev address : Value
    address = machine.Address (CellPlace inst b.temps (class_number s code c))

    abbrev h : HeldAt s code (site_at t b u) (length left) line (class_number s code c) pc q
    h = a.held

    abbrev onward : Run Configuration
    onward = go o m inst w (meaning.Of p ∷ vals') rest

    deep : length left ≡ length stack'
    deep = stack_length left vals' stack' hs

    own_frame : (f : Frames) → StoreAt s code m f → at_level f lev inst ≡ Some inst
    own_frame f store = levels_same s code store lev inst ∙ own_level s m inst t here.stands here.lives

    -- to where it is put
    comes : {r : Run Configuration} → Meets g (InEach R) r o (at h.y (x ∷ address ∷ stack') fs) → Meets g (InEach R) r o (at pc (x ∷ stack') fs)
    comes more =
        let n = class_counts s code coding c a.is_class in
        let is = h.address.is in
        let fits = h.address.fits in
        let e = deep in
        let roomy = here.roomy in
        let first = (low.at).temps in
        let r = scratch_written s code m fs inst t b b.temps x here.store here.stands here.lives here.found (omega (arith, first)) (omega (arith, first)) h.within in
        let there = set_there fs r.frames inst b.temps x r.is in
        silent code l inst b below R _ is.is (addr_row code l inst b below is.line fs o pc (x ∷ stack') lev b.temps (class_number s code c) n.0 n.1 (class_named s code coding m fs here.store c a.is_class) (own_frame fs here.store) there (omega (arith, e, fits, roomy)))
        (silent code l inst b below R i.Swap h.under.is (swap_row code l inst b below h.under.line fs o h.x address x stack') more)

    passes : ((z : Run Machine) → classes.admitting code fs line (class_number s code c) x o z ≡ z) → Meets g (InEach R) onward o (at pc (x ∷ stack') fs)
    passes admitted =
        let first = (low.at).temps in
        let r = scratch_written s code m fs inst t b b.temps x here.store here.stands here.lives here.found (omega (arith, first)) (omega (arith, first)) h.within in
        let load = h.again.is in
        let fits = h.again.fits in
        let e = deep in
        let roomy = here.roomy in
        comes
        (matched code l inst b below R (Going o (at h.z stack' r.frames)) (steps_to code l inst b below (x ∷ address ∷ stack') stack' fs r.frames o o i.Put h.put (put_row code l inst b below line fs r.frames o h.y x stack' inst b.temps (class_number s code c) admitted r.is))
        (lags (steps_to code l inst b below stack' (x ∷ stack') r.frames r.frames o o (i.Load (pos lev) (pos b.temps)) load.is (load_row code l load.line inst b below r.frames o h.z stack' lev b.temps x (own_frame r.frames r.changed.store) r.reads (omega (arith, e, fits, roomy)))) refl
        (caught (simply (λ p same. absurd (cc (same)))
        (goes s code u q (moved s code r.changed (kept_every m) here (kinds_as s code (sym out) (more_at (plain_at {p = p}) hs)))
        (work_moved s code r.changed here (all_every rest) below u (λ frame n le within lt. (r.changed).keeps.temps inst t n b.block tt here.stands here.found (record { behind = le; within = within })) w q ks' k) refl)))))

    refused : ((z : Run Machine) → classes.admitting code fs line (class_number s code c) x o z ≡ stopping (RunFault OutsideQualification line) o) → Meets g (InEach R) (stopping (RunFault OutsideQualification line) o) o (at pc (x ∷ stack') fs)
    refused stops =
        comes
        (matched code l inst b below R _ (step_at code l line inst b below i.Put h.y h.z o (x ∷ address ∷ stack') fs _ h.put (put_stops code l inst b below line fs o h.y x stack' inst b.temps (class_number s code c) (RunFault OutsideQualification line) stops))
        (caught (both_stopping (RunFault OutsideQualification line) o)))

  abbrev fitting : (c line : ℕ) → Plain → List Val → Run Configuration
  fitting c line p vals' = qualifying line (stands_in s m c) p o (go o m inst w (meaning.Of p ∷ vals') rest)

  in_class : (c line : ℕ) (left : List Kind) → ks' ≡ anys 1 left → (a : FitsIs s code (site_at t b u) (length left) c line pc q) (p : Plain) → Names s m (meaning.Of p) → IsReference p → (vals' : List Val) (stack' : List Value) → StackAt (HandAt s code m) left vals' stack' → (y : Bool) → stands_in s m c p ≡ y → Follows g R (fitting c line p vals') o (at pc (machine.Of p ∷ stack') fs)
  in_class c line left out a p n i vals' stack' hs true e =
      in_steps (subst (λ z. Meets g (InEach R) z o (at pc (machine.Of p ∷ stack') fs)) (sym (qualified s code coding m fs here.store o c line a.is_class p i true e (go o m inst w (meaning.Of p ∷ vals') rest)))
      (passes c line left out a p vals' stack' hs (tested s code coding m fs here.store o c line a.is_class p n i true e)))
  in_class c line left out a p n i vals' stack' hs false e =
      in_steps (subst (λ z. Meets g (InEach R) z o (at pc (machine.Of p ∷ stack') fs)) (sym (qualified s code coding m fs here.store o c line a.is_class p i false e (go o m inst w (meaning.Of p ∷ vals') rest)))
      (refused c line left out a p vals' stack' hs (tested s code coding m fs here.store o c line a.is_class p n i false e)))

  held : (c line : ℕ) (left : List Kind) → ks' ≡ anys 1 left → (a : FitsIs s code (site_at t b u) (length left) c line pc q) (p : Plain) → Names s m (meaning.Of p) → (vals' : List Val) (stack' : List Value) → StackAt (HandAt s code m) left vals' stack' → Follows g R (fitting c line p vals') o (at pc (machine.Of p ∷ stack') fs)
  unfolding qualifying
  held c line left out a (Object j) n vals' stack' hs = in_class c line left out a (Object j) n tt vals' stack' hs (stands_in s m c (Object j)) refl
  held c line left out a (MainOf j) n vals' stack' hs = in_class c line left out a (MainOf j) n tt vals' stack' hs (stands_in s m c (MainOf j)) refl
  held c line left out a Nothing n vals' stack' hs = in_steps (passes c line left out a Nothing vals' stack' hs (none_admitted s code coding fs o c line a.is_class))
  held c line left out a (Integer z) n vals' stack' hs = at_once (alike_unruled Configuration Machine R o _)
  held c line left out a (Truth z) n vals' stack' hs = at_once (alike_unruled Configuration Machine R o _)
  held c line left out a (Character z) n vals' stack' hs = at_once (alike_unruled Configuration Machine R o _)
  held c line left out a (Text z) n vals' stack' hs = at_once (alike_unruled Configuration Machine R o _)

  by_value : (c line : ℕ) (left : List Kind) → ks' ≡ anys 1 left → (a : FitsIs s code (site_at t b u) (length left) c line pc q) (v : Val) (x : Value) → ValAt s code m v x → Names s m v → (vals' : List Val) (stack' : List Value) → StackAt (HandAt s code m) left vals' stack' → Follows g R (having (plain v) o (λ p. fitting c line p vals')) o (at pc (x ∷ stack') fs)
  unfolding having
  by_value c line left out a _ _ (plain_at {p}) n vals' stack' hs = held c line left out a p n vals' stack' hs
  by_value c line left out a _ _ link_at n vals' stack' hs = at_once (alike_unruled Configuration Machine R o _)
  by_value c line left out a _ _ array_at n vals' stack' hs = at_once (alike_unruled Configuration Machine R o _)
  by_value c line left out a _ _ element_at n vals' stack' hs = at_once (alike_unruled Configuration Machine R o _)
  by_value c line left out a _ _ image_at n vals' stack' hs = at_once (alike_unruled Configuration Machine R o _)
  by_value c line left out a _ _ (actual_at y) n vals' stack' hs = at_once (alike_unruled Configuration Machine R o _)
  by_value c line left out a _ _ (procedure_at y) n vals' stack' hs = at_once (alike_unruled Configuration Machine R o _)

  in_hand : (c line : ℕ) (left : List Kind) → ks' ≡ anys 1 left → (a : FitsIs s code (site_at t b u) (length left) c line pc q) (vs : List Val) (xs : List Value) → AllName s m vs → StackAt (HandAt s code m) (anys 1 left) vs xs → Follows g R (fitted s o m inst w vs rest c line) o (at pc xs fs)
  unfolding pop_plain popping
  in_hand c line left out a _ _ n (more_at {v = v} {vals = vals'} {x = x} {stack = stack'} h hs) = by_value c line left out a v x h n.0 vals' stack' hs

  pub fits : (c line : ℕ) → OpAt s code m fs inst (site_at t b u) (FitsOp c line) pc q ks ks' → Follows g R (do_op s l o m inst w vals rest (FitsOp c line)) o (at pc stack fs)
  fits c line a = in_hand c line a.left a.out a.fits vals stack here.names (kinds_as s code a.«in» here.values)
