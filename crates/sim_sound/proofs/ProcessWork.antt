-- What processes tell, and how they begin and end.
use Rattle.std.proofs.Common.{◌≡◌, ℕ, zero, suc, true, List, ◌∷◌, length, Option, Some, None, Result, Ok, Err, refl, sym, ap, ◌∙◌, subst, Bool, false}
use Rattle.std.specs.List.{position}
use Rattle.std.specs.Option.{option_map}
use Rattle.std.specs.Prelude.{◌+◌, ◌==◌, slice_get}
use Rattle.sim_base.specs.declared.limits.Limits.{Limits}
use Rattle.sim_base.specs.declared.numbering.DeclNo.{DeclNo}
use Rattle.sim_base.specs.declared.run_error.RunError.{RunError}
use Rattle.notices.specs.declared.notice.ProcessNo.{ProcessNo}
use Rattle.notices.specs.Scheduling.{evtime, main, nextev, passivated}
use Rattle.sim_scope.specs.declared.types.SimType.{SimType}
use Rattle.sim_scope.specs.Source.{Source}
use Rattle.sim_values.specs.declared.kind.Kind.TheVariants as kind
use Rattle.sim_values.specs.declared.standard.Standard.{Standard}
use Rattle.sim_values.specs.declared.standard.Standard.TheVariants as name
use Rattle.sim_values.specs.declared.standard.StandardType.TheVariants as of
use Rattle.sim_values.specs.Plain.{Character, Integer, MainOf, Nothing, Object, Plain, Text, Truth}
use Rattle.sim_values.specs.Standard.{row_of}
use Rattle.sim_code.specs.Events.{computing, having, pop_plain}
use Rattle.sim_code.specs.Instances.{encloser_in, encloser_of, live, Instance}
use Rattle.sim_code.specs.Outcome.{Run, Simulation, World}
use Rattle.sim_code.specs.Scheduling.{block_around, performing_process}
use Rattle.sim_code.specs.Simulations.{current_process, ended_at, integer_or_error, located, number_in, object_numbered, process_after, process_first, process_numbered, process_tells, with_ended}
use Rattle.sim_meaning.specs.Levels.{end_line, has_levels, end_line_if, end_line_of, is_class, is_process_itself, last_line, line_of_origin, origin_line}
use Rattle.sim_meaning.specs.Meaning.{do_op}
use Rattle.sim_meaning.specs.Objects.{decided}
use Rattle.sim_meaning.specs.Pending.{Activation, Address, ArrayValue, BlockOp, Configuration, EndProcessOp, Instances, Item, Link, Of, Op, ProcedureValue, ProcessOp, SelfOp, Actual, Val, plain, Origin, Held, cell}
use Rattle.sim_meaning.specs.Steps.{go}
use Rattle.sim_meaning.specs.Texts.{text}
use Rattle.sim_sound.specs.Held.{FitsIn, Holds, Refers, Simply, given_by}
use Rattle.sim_sound.specs.Typed.{SetType, Typed}
use Rattle.sim_sound.proofs.Attributes.{process_place}
use Rattle.sim_sound.proofs.Deciding.{decides}
use Rattle.sim_sound.proofs.Ends.{object_here}
use Rattle.sim_sound.proofs.Evals.{IsFine, Work, goes_on}
use Rattle.sim_sound.proofs.Fitting.{plain_fits, plain_val, text_there}
use Rattle.sim_sound.proofs.Heads.{headed_as}
use Rattle.sim_sound.proofs.Lifts.{Goes, any_popped, computed, had}
use Rattle.sim_sound.proofs.Lists.{equal_numbers, if_true, same_some}
use Rattle.sim_sound.proofs.Moves.{instance_there, placed_as}
use Rattle.sim_sound.proofs.NoticeLists.{first_is, next_is, passivated_all}
use Rattle.sim_sound.proofs.Prefixes.{LevelOf, level_is, level_of_levels, same_level}
use Rattle.sim_sound.proofs.ProcessClasses.{only_process, itself_process}
use Rattle.sim_sound.proofs.Reach.{has_itself}
use Rattle.sim_sound.proofs.Running.{Begun, Operates, StoreFine, idle}
use Rattle.sim_sound.proofs.SetWork.{gives_integer, gives_truth}
use Rattle.sim_sound.proofs.Simulated.{EachNotice, NumberFine, Processes, SimulationsFine}
use Rattle.sim_sound.proofs.SimulatedLists.{located_at, some_place}
use Rattle.sim_sound.proofs.Sound.{OpFine, ProcessIs, ProcessText, given}
use Rattle.sim_sound.proofs.Values.{Component, DeepFine, HandsFine, Kinds, LinkTo, MainIn, Marks, ObjectIn, ObjectOf, PlainFine, ReferenceFine, Simulates, Value, see, held_kinds, InstanceFine, ValFine}
use Rattle.sim_sound.proofs.Transfers.{own_then, Chain, waits_fine}
use Rattle.sim_sound.proofs.Cells.{own_cell}

-- ---- the simulation of a block

pub record HomeIs (s : Source) (sims : List Simulation) (m : Instances) (b k : ℕ) : Type 0 where
  pub entry : ℕ × Simulation
  pub found : located sims b ≡ Some entry
  pub at : slice_get sims entry.0 ≡ Some entry.1
  pub its : (entry.1).block ≡ b
  pub own : Simulates s m b k
  pub home : Simulates s m (entry.1).block k
  pub processes : Processes s m entry.1 k

pub home_is : (s : Source) (sims : List Simulation) (m : Instances) → SimulationsFine s sims m → (b k : ℕ) → Simulates s m b k → HomeIs s sims m b k
home_is s sims m q b k x =
    let y = x.lasts in
    let r = q.there b k y.now y.lives x.simulates y.level in
    let at = located_at sims b r.0 r.1 in
    let w = q.each (r.0).0 (r.0).1 at.0 in
    let same : y.now ≡ w.now = same_some (live m b) y.now w.now y.lives (ap (live m) (sym at.1) ∙ w.lives) in
    record {
      entry = r.0;
      found = r.1;
      at = at.0;
      its = at.1;
      own = x;
      home = subst (λ z. Simulates s m z k) (sym at.1) x;
      processes = w.simulates k x.simulates (subst (λ z. LevelOf s z.text k) same y.level);
    }

module _ (s : Source) (ok : Typed s) (m : Instances) (x : Simulation) (k : ℕ) (home : Simulates s m x.block k) where
  -- the process of a number
  numbered : (n : ℕ) → NumberFine s m x k n → (p : Plain) × (process_numbered x n ≡ Some p) × ReferenceFine s m (k + 4) p
  numbered zero a = (MainOf x.block, refl, record { level = k; block = home; levels = has_itself s ok (k + 4) })
  numbered (suc n) a = (Object a.0, ap object_numbered a.1, a.2)

  -- the current one
  pub current_is : Processes s m x k → (p : Plain) × (current_process x ≡ Some p) × ReferenceFine s m (k + 4) p
  current_is w =
      let f = first_is (NumberFine s m x k) x.notices w.some w.notices in
      let r = numbered (f.0).0 f.2 in
      (r.0, ap (process_first x) f.1 ∙ r.1, r.2)

  -- the one behind
  next_process_is : Processes s m x k → (n : ℕ) → (p : Plain) × (process_tells name.Nextev x n ≡ Some (Ok p)) × ReferenceFine s m (k + 4) p
  next_process_is w n = by_next (nextev n x.notices) refl
    where
      by_next : (y : Option ProcessNo) → nextev n x.notices ≡ y → (p : Plain) × (process_after x y ≡ Some (Ok p)) × ReferenceFine s m (k + 4) p
      by_next None e = (Nothing, refl, tt)
      by_next (Some y) e = let r = numbered y.0 (next_is (NumberFine s m x k) n x.notices y w.notices e) in (r.0, ap (option_map Ok) r.1, r.2)

-- ---- what is declared

pub gives_process : (s : Source) (l : ℕ) (x : Option SimType) → SetType s l (Some of.Process) x → given_by s x ≡ Some (Refers (l + 3))
gives_process s l None a = absurd a
gives_process s l (Some t) a = ap Some a

-- a value that fits what is declared
pub fits_value : (s : Source) (ok : Typed s) (o : World) (g : Marks) (m : Instances) → StoreFine s (see g o) m → (q : Holds) (x h : Option Holds) (p : Plain) → x ≡ Some q → FitsIn s x h → PlainFine s m q p → (r : Holds) × (h ≡ Some r) × PlainFine s m r p
fits_value s ok o g m store q x h p e fits a = by_holds h (subst (λ z. FitsIn s z h) e fits)
  where
    by_holds : (h : Option Holds) → FitsIn s (Some q) h → (r : Holds) × (h ≡ Some r) × PlainFine s m r p
    by_holds None f = absurd f
    by_holds (Some r) f = (r, refl, plain_fits s ok (see g o) m store q r p f a)

-- a process that becomes terminated stays one
ended_same : (x : Simulation) (y : Option ℕ) → ((ended_at x y).block ≡ x.block) × ((ended_at x y).processes ≡ x.processes)
ended_same x None = (refl, refl)
ended_same x (Some n) = (refl, refl)

module _ (s : Source) (ok : Typed s) (l : Limits) (o : World) (g : Marks) (long : length g.sights ≡ length o.arrays) (m : Instances) (i t : ℕ) (rest : List Activation) (top : Operates g.beneath g.seat m i rest) (w : List Item) (vals : List Val) (todo todo' : List DeclNo) (before behind : List Kinds) (b : Begun s (see g o) m i t todo) (h : HandsFine s (see g o) m i before vals) (work : Work s o g long m i t rest top w todo' behind) where
  abbrev Hd : List Kinds → List Val → Type 0
  Hd ks vs = HandsFine s (see g o) m i ks vs

  abbrev Wk : List DeclNo → List Kinds → Type 0
  Wk ds ks = Work s o g long m i t rest top w ds ks

  abbrev Stepped : Op → Type 0
  Stepped op = Goes (IsFine s) (do_op s l o m i w vals rest op)

  works : (ks : List Kinds) → behind ≡ ks → todo' ≡ todo → Wk todo ks
  works ks e f = subst (Wk todo) e (subst (λ z. Wk z behind) f work)

  -- what a procedure of scheduling leaves decides who goes on
  pub decides_on : todo' ≡ todo → (line k : ℕ) (x : ℕ × Simulation) (old : Simulation) → slice_get o.simulations x.0 ≡ Some old → (x.1).block ≡ old.block → (x.1).processes ≡ old.processes → Simulates s m old.block k → (r : _) (vs : List Val) → Hd behind vs → ((ns : _) → r ≡ Ok ns → EachNotice (NumberFine s m old k) ns) → Goes (IsFine s) (decided m i w rest line o x r vs)
  decides_on same line k x old at block processes home r vs more leaves =
      decides s ok o g long m (Chain s ok l o g long m i t rest top w vals todo todo' before behind b h work vs) b.store (placed_as m (idle g.seat i) (record { instance = i; work = w; values = vs }) rest (own_then s ok l o g long m i t rest top w vals todo todo' before behind b h work same vs) top.placed) (headed_as m (idle g.seat i) (record { instance = i; work = w; values = vs }) rest (own_then s ok l o g long m i t rest top w vals todo todo' before behind b h work same vs) top.headed)
      (waits_fine s ok l o g long m i t rest top w vals todo todo' before behind b h work same vs more) x old at block processes k home line r leaves

  -- ---- what a process tells

  -- it gives a value, or is refused
  abbrev Tells : Standard → Simulation → ℕ → Holds → Type 0
  Tells n x number q = (r : Result Plain RunError) × (process_tells n x number ≡ Some r) × ((v : Plain) → r ≡ Ok v → PlainFine s m q v)

  told_is : (q : Holds) (p v : Plain) → ◌≡◌ {A = Result Plain RunError} (Ok p) (Ok v) → PlainFine s m q p → PlainFine s m q v
  told_is q p v e a = subst (PlainFine s m q) (let same : p ≡ v = cc in same) a

  integer_told : (r : Result _ RunError) (v : Plain) → integer_or_error r ≡ Ok v → PlainFine s m (Simply kind.Integer) v
  integer_told (Ok z) v e = told_is (Simply kind.Integer) (Integer z) v e (refl, tt)
  integer_told (Err x) v e = absurd (cc)

  tells : (n : Standard) (y : ProcessIs s n) (x : Simulation) (k number : ℕ) → k + 4 ≡ (y.there).linkage + 3 → Simulates s m x.block k → Processes s m x k → (q : Holds) × (given_by s y.result ≡ Some q) × Tells n x number q
  unfolding row_of
  tells name.Idle y x k number same home p = (Simply kind.Boolean, gives_truth s (y.there).linkage y.result (y.there).result_is, (Ok (Truth _), refl, (λ v e. told_is (Simply kind.Boolean) (Truth _) v e (refl, tt))))
  tells name.Terminated y x k number same home p = (Simply kind.Boolean, gives_truth s (y.there).linkage y.result (y.there).result_is, (Ok (Truth _), refl, (λ v e. told_is (Simply kind.Boolean) (Truth _) v e (refl, tt))))
  tells name.Evtime y x k number same home p = (Simply kind.Integer, gives_integer s (y.there).linkage y.result (y.there).result_is, (integer_or_error (evtime number x.notices), refl, (λ v e. integer_told (evtime number x.notices) v e)))
  tells name.Nextev y x k number same home p =
      let r = next_process_is s ok m x k home p number in
      (Refers ((y.there).linkage + 3), gives_process s (y.there).linkage y.result (y.there).result_is, (Ok r.0, r.1, (λ v e. told_is (Refers ((y.there).linkage + 3)) r.0 v e (subst (λ z. ReferenceFine s m z r.0) same r.2))))
  tells _ y x k number same home p = absurd (let named = y.named in cc)

  abbrev telling : Standard → (line : ℕ) → Plain → List Val → Run Configuration
  telling n line p vs = having (block_around (encloser_of m) p) o (λ b. having (located o.simulations b) o (λ x. having (number_in x.1 p) o (λ z. having (process_tells n x.1 z) o (λ r. computing line r o (λ v. go o m i w (Of v ∷ vs) rest)))))

  told : (n : Standard) (line : ℕ) (y : ProcessIs s n) (q : Option Holds) (left : List Kinds) → FitsIn s (given_by s y.result) q → Wk todo (given (held_kinds q) left) → (p : Plain) (vs : List Val) → Hd left vs → (block k : ℕ) → k + 4 ≡ (y.there).linkage + 3 → Simulates s m block k → block_around (encloser_of m) p ≡ Some block → ((x : HomeIs s o.simulations m block k) → (z : ℕ) × (number_in (x.entry).1 p ≡ Some z)) → Goes (IsFine s) (telling n line p vs)
  told n line y q left fits z p vs more block k same home around number =
      let x = home_is s o.simulations m b.store.simulations block k home in
      let r = number x in
      let u = tells n y (x.entry).1 k r.0 same x.home x.processes in
      let a = u.2 in
      had (IsFine s) (block_around (encloser_of m) p) block o (λ b. having (located o.simulations b) o (λ x. having (number_in x.1 p) o (λ z. having (process_tells n x.1 z) o (λ r. computing line r o (λ v. go o m i w (Of v ∷ vs) rest))))) around
      (had (IsFine s) (located o.simulations block) x.entry o (λ x. having (number_in x.1 p) o (λ z. having (process_tells n x.1 z) o (λ r. computing line r o (λ v. go o m i w (Of v ∷ vs) rest)))) x.found
      (had (IsFine s) (number_in (x.entry).1 p) r.0 o (λ z. having (process_tells n (x.entry).1 z) o (λ r. computing line r o (λ v. go o m i w (Of v ∷ vs) rest))) r.1
      (had (IsFine s) (process_tells n (x.entry).1 r.0) a.0 o (λ r. computing line r o (λ v. go o m i w (Of v ∷ vs) rest)) a.1
      (computed (IsFine s) line a.0 o (λ v. go o m i w (Of v ∷ vs) rest) (λ v e.
      let f = fits_value s ok o g m b.store u.0 (given_by s y.result) q v u.1 fits (a.2 v e) in
      goes_on s o g long m i t rest top w (Of v ∷ vs) todo (Value f.0 ∷ left) b (plain_val s (see g o) m i f.0 v f.2, more) (subst (λ c. Wk todo (given (held_kinds c) left)) f.1 z))))))

  -- a process, by its object
  object_told : (n : Standard) (line : ℕ) (y : ProcessIs s n) (q : Option Holds) (left : List Kinds) → FitsIn s (given_by s y.result) q → Wk todo (given (held_kinds q) left) → (j : ℕ) (vs : List Val) → Hd left vs → ObjectOf s m j ((y.there).linkage + 3) → Goes (IsFine s) (telling n line (Object j) vs)
  object_told n line y q left fits z j vs more object =
      let class = (y.there).linkage + 3 in
      let c = b.store.simulations.joined j class object.now object.lives ((y.there).of_process (process_place n (y.there).place y.named (y.there).placed)) (level_is s (object.now).text class object.levels) in
      told n line y q left fits z (Object j) vs more c.block c.level (sym c.is) c.home (ap encloser_in (instance_there (slice_get m.instances j) object.now object.lives).0 ∙ c.encloser) (λ x.
      let same : c.simulation ≡ x.entry = same_some (located o.simulations c.block) c.simulation x.entry c.found x.found in
      let r = some_place (λ e. e == j) ((x.entry).1).processes c.number j (subst (λ e. slice_get (e.1).processes c.number ≡ Some j) same c.among) (equal_numbers j j refl) in
      (suc r.0, ap (option_map (λ e. suc e)) r.1))

  -- and the main program of a block
  main_told : (n : Standard) (line : ℕ) (y : ProcessIs s n) (q : Option Holds) (left : List Kinds) → FitsIn s (given_by s y.result) q → Wk todo (given (held_kinds q) left) → (j : ℕ) (vs : List Val) → Hd left vs → MainIn s m j ((y.there).linkage + 3) → Goes (IsFine s) (telling n line (MainOf j) vs)
  main_told n line y q left fits z j vs more a =
      let class = (y.there).linkage + 3 in
      let same = only_process s ok a.level class (a.block).simulates (level_is s (a.level + 4) class a.levels) ((y.there).of_process (process_place n (y.there).place y.named (y.there).placed)) in
      told n line y q left fits z (MainOf j) vs more j a.level (sym same) a.block refl (λ x. (main, if_true (j == ((x.entry).1).block) (Some main) None (equal_numbers j ((x.entry).1).block (sym x.its))))

  pub process_op : (n : Standard) (line : ℕ) → OpFine s (see g o) m i t (ProcessOp n line) todo todo' before behind → Stepped (ProcessOp n line)
  unfolding performing_process pop_plain
  process_op n line a =
      let y = a.0 in
      any_popped (IsFine s) s (see g o) m i (ObjectIn ((y.there).linkage + 3)) a.2 vals o (λ v vs. having (plain v) o (λ p. telling n line p vs)) (subst (λ z. Hd z vals) a.4 h) (λ v vs is fine more. by_value v vs fine more)
    where
      next : Wk todo (given (held_kinds a.1) a.2)
      next = works (given (held_kinds a.1) a.2) a.5 a.6

      by_value : (v : Val) (vs : List Val) → DeepFine s (see g o) m i vs (ObjectIn (((a.0).there).linkage + 3)) v → Hd a.2 vs → Goes (IsFine s) (having (plain v) o (λ p. telling n line p vs))
      by_value (Of (Object j)) vs f more = had (IsFine s) (Some (Object j)) (Object j) o (λ p. telling n line p vs) refl (object_told n line a.0 a.1 a.2 a.3 next j vs more f)
      by_value (Of (MainOf j)) vs f more = had (IsFine s) (Some (MainOf j)) (MainOf j) o (λ p. telling n line p vs) refl (main_told n line a.0 a.1 a.2 a.3 next j vs more f)
      by_value (Of Nothing) vs f more = absurd f
      by_value (Of (Integer z)) vs f more = absurd f
      by_value (Of (Character z)) vs f more = absurd f
      by_value (Of (Truth z)) vs f more = absurd f
      by_value (Of (Text z)) vs f more = absurd f
      by_value (Link z) vs f more = absurd f
      by_value (Address z) vs f more = absurd f
      by_value (ArrayValue z) vs f more = absurd f
      by_value (ProcedureValue z y) vs f more = absurd f
      by_value (Actual home pr z) vs f more = absurd f

  -- ---- a process that begins, and one that ends

  process_has : ProcessText s t → has_levels (text s t) ≡ true
  process_has p =
      let y = (b.here).now in
      let solid = (b.store.instances i y (b.here).lives).solid in
      sym (ap (λ z. has_levels (text s z)) b.own) ∙ level_of_levels s ok solid (subst (λ z. LevelOf s z (p.block + 4)) (sym b.own) p.level) (ap has_levels (ok.simulations p.block p.simulates).process_is)

  pub self_op : OpFine s (see g o) m i t SelfOp todo todo' before behind → Stepped SelfOp
  self_op a =
      let p = a.2 in
      goes_on s o g long m i t rest top w (Of (Object i) ∷ vals) todo (Component ∷ before) b ((t, object_here s ok l o g long m i t todo b b.own a.0 p.free (process_has p)), h) (works (Component ∷ before) a.3 (a.1 ∙ sym a.0))

  pub end_process_op : OpFine s (see g o) m i t EndProcessOp todo todo' before behind → Stepped EndProcessOp
  end_process_op a =
      let p = a.3 in
      let y = (b.here).now in
      let c = b.store.simulations.joined i (p.block + 4) y (b.here).lives (ok.simulations p.block p.simulates).process_is (subst (λ z. LevelOf s z (p.block + 4)) (sym b.own) p.level) in
      let x = home_is s o.simulations m b.store.simulations c.block c.level c.home in
      let old = (x.entry).1 in
      let same = ended_same old (position (λ e. e == i) old.processes) in
      had (IsFine s) (encloser_of m i) c.block o (λ b. having (located o.simulations b) o (λ x. having (end_line s m i) o (λ line. decided m i w rest line o (x.0, with_ended i x.1) (Ok (passivated (x.1).notices)) vals))) (ap encloser_in (instance_there (slice_get m.instances i) y (b.here).lives).0 ∙ c.encloser)
      (had (IsFine s) (located o.simulations c.block) x.entry o (λ x. having (end_line s m i) o (λ line. decided m i w rest line o (x.0, with_ended i x.1) (Ok (passivated (x.1).notices)) vals)) x.found
      (had (IsFine s) (end_line s m i) ends.0 o (λ line. decided m i w rest line o ((x.entry).0, with_ended i old) (Ok (passivated old.notices)) vals) ends.1
      (decides_on (a.1 ∙ sym a.0) ends.0 c.level ((x.entry).0, with_ended i old) old x.at same.0 same.1 x.home (Ok (passivated old.notices)) vals (subst (λ z. Hd z vals) (sym a.2) h) (λ ns e. left ns old c.level e (x.processes).notices))))
    where
      integer_line : (k : ℕ) (v : Val) → ValFine s (see g o) m i (Simply kind.Integer) v → (n : ℕ) × (line_of_origin s k (Some v) ≡ Some n)
      integer_line k (Of (Integer z)) e = (origin_line s k z, refl)
      integer_line k (Of (Truth z)) e = let f = e.0 in absurd (cc)
      integer_line k (Of (Character z)) e = let f = e.0 in absurd (cc)
      integer_line k (Of (Text z)) e = let f = e.0 in absurd (cc)
      integer_line k (Of (Object z)) e = let f = e.0 in absurd (cc)
      integer_line k (Of (MainOf z)) e = let f = e.0 in absurd (cc)
      integer_line k (Of Nothing) e = let f = e.0 in absurd (cc)
      integer_line k (Link z) e = absurd e
      integer_line k (Address z) e = absurd e
      integer_line k (ArrayValue z) e = absurd e
      integer_line k (ProcedureValue z y) e = absurd e
      integer_line k (Actual z pr y) e = absurd e

      -- one of `process` itself keeps where it was generated
      ends : (n : ℕ) × (end_line s m i ≡ Some n)
      ends = by_class (is_process_itself s k) refl
        where
          y : Instance (List Held)
          y = (b.here).now

          k : ℕ
          k = y.text

          f : InstanceFine s (see g o) m i y
          f = b.store.instances i y (b.here).lives

          at : end_line s m i ≡ end_line_of s (Some k) (cell m i Origin)
          at = ap (λ z. end_line_of s z (cell m i Origin)) (text_there s m i y (b.here).lives)

          by_class : (c : Bool) → is_process_itself s k ≡ c → (n : ℕ) × (end_line s m i ≡ Some n)
          by_class false is = (last_line s k, at ∙ ap (λ z. end_line_if z s k (cell m i Origin)) is)
          by_class true is =
              let text_is = itself_process s ok k f.solid is in
              let c = own_cell s (see g o) m i y Origin (Simply kind.Integer) (b.here).lives f (λ q e. absurd (cc)) refl (f.origins (ap is_class text_is) k same_level text_is) in
              let n = integer_line k c.0 c.2 in
              (n.0, at ∙ ap (λ z. end_line_if z s k (cell m i Origin)) is ∙ ap (line_of_origin s k) c.1 ∙ n.1)

      left : (ns : _) (old : Simulation) (k : ℕ) → ◌≡◌ {A = Result _ RunError} (Ok (passivated old.notices)) (Ok ns) → EachNotice (NumberFine s m old k) old.notices → EachNotice (NumberFine s m old k) ns
      left ns old k e f = subst (EachNotice (NumberFine s m old k)) (let same : passivated old.notices ≡ ns = cc in same) (passivated_all (NumberFine s m old k) old.notices f)

  -- the block of an activation
  pub block_op : (e : ℕ) → OpFine s (see g o) m i t (BlockOp e) todo todo' before behind → Stepped (BlockOp e)
  block_op e a = let c = a.1 in goes_on s o g long m i t rest top w (Link e ∷ vals) todo (LinkTo a.0 ∷ before) b ((c.near, c.whole), h) (works (LinkTo a.0 ∷ before) a.2 a.3)
