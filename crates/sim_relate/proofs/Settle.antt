-- Where the machine has steps of its own that show nothing, it makes them.
use Rattle.std.proofs.Common.{◌≡◌, ◌<◌, ◌≤◌, ◌+◌, ℕ, zero, suc, Bool, true, false, List, [], ◌∷◌, length, Some, refl, sym, ap, ◌∙◌, subst, arith}
use Rattle.std.specs.declared.cmp.Ordering.TheVariants as order
use Rattle.std.specs.Prelude.{cond, int_lt, nat_lt, pos, slice_get, if◌then◌else◌}
use Rattle.std.specs.Ordering.{int_cmp}
use Rattle.sim_base.specs.declared.limits.Limits.{Limits}
use Rattle.sim_scope.specs.Source.{Source, level_of}
use Rattle.sim_tree.specs.Syntax.{Statement}
use Rattle.sim_values.specs.declared.operators.Comparison.TheVariants as comparison
use Rattle.sim_values.specs.Operators.{compare, holds, two_of}
use Rattle.sim_values.specs.Plain.{Integer, Truth}
use Rattle.sim_code.specs.declared.instr.Instr.{Instr}
use Rattle.sim_code.specs.declared.instr.Instr.TheVariants as i
use Rattle.sim_code.specs.Code.{CodeOf}
use Rattle.sim_code.specs.Outcome.{Going, Run, World}
use Rattle.sim_code.specs.Events.{answering, applying_two, choosing, computing, having, no_rule, pop_plain, pop_truth, popping, when}
use Rattle.sim_code.specs.Instances.{at_level}
use Rattle.sim_code.specs.Machine.{Frames, Machine, Value, at, index, is_there, is_tick, jumping, level, on, pushing}
use Rattle.sim_code.specs.Machine as machine
use Rattle.sim_code.specs.Rows.{mstep, pushed, row}
use Rattle.sim_meaning.specs.Pending.{EndEvaluation, Activation, Configuration, Do, EndBlock, EndLevel, EndObject, EndPrefixed, EndProcedure, EndProgram, Exec, Instances, Item, Op}
use Rattle.sim_meaning.specs.Pending as meaning
use Rattle.sim_meaning.specs.Sane.{NamesOn, Sane, SaneOn}
use Rattle.codegen_expr.specs.Sites.{Ahead, At, Is}
use Rattle.codegen.specs.CodeFor.{ReturnsAt}
use Rattle.sim_relate.proofs.Waiting.{given_by, suspended_by, NoValue, Wait, GetsIs, gets_free}
use Rattle.sim_relate.proofs.Known.{low_same, owner_of, Low, is_frame, Kind, Runs, Spot, placed, site_at, spot, Calm}
use Rattle.sim_relate.proofs.Relation.{Bottom, ChainAt, ComesTo, NowAt, OpAt, ReturningIs, StandingsAt, StateAt, StateNow, StoreAt, TurningIs, WorkAt, over, returning, straight, there, turning, BeginsAt, InStage, declares, inner_here, inner_last, stays, with_inner, ends_process}
use Rattle.sim_relate.proofs.Hands.{stack_length}
use Rattle.sim_relate.proofs.Here.{Here, There, act, there_of, here_at}
use Rattle.sim_relate.proofs.Frames.{same_frame}
use Rattle.sim_relate.proofs.Living.{own_level}
use Rattle.sim_relate.proofs.Moved.{moved, work_more, work_moved}
use Rattle.sim_relate.proofs.Operators.{chosen, is_instr}
use Rattle.sim_relate.proofs.Stores.{low_behind, levels_same, placed_here, temp_written}
use Rattle.sim_relate.proofs.Carried.{top_flag}
use Rattle.sim_relate.proofs.Tops.{here_top, top_is_free}

-- so many steps of the machine that show nothing and leave the world as it is
pub data Slows (code : CodeOf) (l : Limits) : ℕ → Machine → Machine → Type 0 where
  no_step : {x : Machine} → Slows code l 0 x x
  one_step : {n : ℕ} {x y z : Machine} → ((o : World) → mstep code l o x ≡ Going o y) → Slows code l n y z → Slows code l (suc n) x z

-- some such steps
abbrev pub SlowTo : CodeOf → Limits → Machine → Machine → Type 0
SlowTo code l x y = (n : ℕ) × Slows code l n x y

abbrev pub machine_at : Frames → (inst pc : ℕ) → List Value → (run : Runs) → List machine.Activation → Machine
machine_at fs inst pc stack run below = record { chain = act inst pc stack run ∷ below; memory = fs }

abbrev numbers_equal : ℕ → ℕ → Bool
numbers_equal a b = holds comparison.Equal (int_cmp (pos a) (pos b))

module _ (code : CodeOf) (l : Limits) where
  pub slow_more : {x y z : Machine} → ((o : World) → mstep code l o x ≡ Going o y) → SlowTo code l y z → SlowTo code l x z
  slow_more f r = (suc r.0, one_step f r.1)

  slow_append : (n : ℕ) (x y z : Machine) → Slows code l n x y → SlowTo code l y z → SlowTo code l x z
  slow_append zero x _ z no_step r = r
  slow_append (suc n) x y z (one_step {y = v} f more) r = slow_more f (slow_append n v y z more r)

  pub slow_then : {x y z : Machine} → SlowTo code l x y → SlowTo code l y z → SlowTo code l x z
  slow_then {x} {y} {z} a r = slow_append a.0 x y z a.1 r

  module _ (o : World) (fs : Frames) (inst p : ℕ) (stack : List Value) (run : Runs) (below : List machine.Activation) where
    abbrev a_top : machine.Activation
    a_top = act inst p stack run

    by_row : (x : Instr) (line q : ℕ) → At code x line p q → mstep code l o (machine_at fs inst p stack run below) ≡ row code l o fs a_top below line x
    unfolding having
    by_row x line q a = ap (λ z. having z o (λ y. row code l o fs a_top below y.line.0 y.instr)) a.at

    jumping_ahead : (q : ℕ) (go : ℕ → Run Machine) → Ahead code p q → jumping code p (pos q) o go ≡ go q
    unfolding jumping index having when
    jumping_ahead q go a =
        let e : nat_lt p q ≡ true = grind (arith, a.forward) in
        chosen (λ z. z ≡ go q) (if nat_lt p q then is_there (slice_get code.instrs q) else is_tick (slice_get code.instrs q)) (go q) (no_rule o) (chosen (λ z. z ≡ true) (nat_lt p q) (is_there (slice_get code.instrs q)) (is_tick (slice_get code.instrs q)) e (is_instr code.instrs q a.there)) refl

    jumping_back : (t x : ℕ) (go : ℕ → Run Machine) → t ≤ p → Is code i.Tick t x → jumping code p (pos t) o go ≡ go t
    unfolding jumping index having when
    jumping_back t x go le a =
        let e : nat_lt p t ≡ false = grind (arith, le) in
        let tick : is_tick (slice_get code.instrs t) ≡ true = ap is_tick a.is.at in
        chosen (λ z. z ≡ go t) (if nat_lt p t then is_there (slice_get code.instrs t) else is_tick (slice_get code.instrs t)) (go t) (no_rule o) (ap (λ z. if z then is_there (slice_get code.instrs t) else is_tick (slice_get code.instrs t)) e ∙ tick) refl

    pub over_step : (q x : ℕ) → Is code (i.Jump (pos q)) p x → Ahead code p q → mstep code l o (machine_at fs inst p stack run below) ≡ Going o (machine_at fs inst q stack run below)
    over_step q x a ahead = by_row (i.Jump (pos q)) a.line x a.is ∙ jumping_ahead q (λ q. at o fs a_top q stack below) ahead

    pub back_step : (t x u : ℕ) → Is code (i.Jump (pos t)) p x → t ≤ p → Is code i.Tick t u → mstep code l o (machine_at fs inst p stack run below) ≡ Going o (machine_at fs inst t stack run below)
    back_step t x u a le tick = by_row (i.Jump (pos t)) a.line x a.is ∙ jumping_back t u (λ q. at o fs a_top q stack below) le tick

    pushing_is : (v : Value) (go : List Value → Run Machine) → length stack < run.room → pushing run.room stack v o go ≡ go (v ∷ stack)
    unfolding pushing when
    pushing_is v go lt = let e : nat_lt (length stack) run.room ≡ true = grind (arith, lt) in chosen (λ z. z ≡ go (v ∷ stack)) (nat_lt (length stack) run.room) (go (v ∷ stack)) (no_rule o) e refl

    -- behind the instruction
    behind : (q : ℕ) (fs' : Frames) (stack' : List Value) → q ≡ suc p → Going o (machine_at fs' inst (suc p) stack' run below) ≡ Going o (machine_at fs' inst q stack' run below)
    behind q fs' stack' e = ap (λ z. Going o (machine_at fs' inst z stack' run below)) (sym e)

    pub int_step : (z q : ℕ) → Is code (i.Int (pos z)) p q → length stack < run.room → mstep code l o (machine_at fs inst p stack run below) ≡ Going o (machine_at fs inst q (machine.Of (Integer (pos z)) ∷ stack) run below)
    int_step z q a lt = by_row (i.Int (pos z)) a.line q a.is ∙ pushing_is (machine.Of (Integer (pos z))) (λ stack. on o fs a_top stack below) lt ∙ behind q fs (machine.Of (Integer (pos z)) ∷ stack) a.is.on

    cell_is : (z j c : ℕ) (go : ℕ → ℕ → Run Machine) → at_level fs z inst ≡ Some j → machine.cell_at fs a_top (pos z) (pos c) o go ≡ go j c
    unfolding machine.cell_at level index having
    cell_is z j c go e = ap (λ y. having y o (λ j. go j c)) e

    pub load_step : (z j c q : ℕ) (v : Value) → Is code (i.Load (pos z) (pos c)) p q → at_level fs z inst ≡ Some j → machine.cell fs j c ≡ Some v → length stack < run.room → mstep code l o (machine_at fs inst p stack run below) ≡ Going o (machine_at fs inst q (v ∷ stack) run below)
    unfolding having
    load_step z j c q v a e h lt =
        by_row (i.Load (pos z) (pos c)) a.line q a.is ∙ cell_is z j c (λ j c. having (machine.cell fs j c) o (λ v. pushed o fs a_top below v)) e ∙ ap (λ y. having y o (λ v. pushed o fs a_top below v)) h
        ∙ pushing_is v (λ stack. on o fs a_top stack below) lt ∙ behind q fs (v ∷ stack) a.is.on

  pub store_step : (o : World) (fs : Frames) (inst p : ℕ) (stack : List Value) (run : Runs) (below : List machine.Activation) (z j c q : ℕ) (v : Value) (fs' : Frames) → Is code (i.Store (pos z) (pos c)) p q → at_level fs z inst ≡ Some j → machine.cell_set fs j c v ≡ Some fs'
      → mstep code l o (machine_at fs inst p (v ∷ stack) run below) ≡ Going o (machine_at fs' inst q stack run below)
  unfolding having popping
  store_step o fs inst p stack run below z j c q v fs' a e h =
      by_row o fs inst p (v ∷ stack) run below (i.Store (pos z) (pos c)) a.line q a.is
      ∙ cell_is o fs inst p (v ∷ stack) run below z j c (λ j c. having (machine.cell_set fs j c v) o (λ m. on o m (act inst p (v ∷ stack) run) stack below)) e
      ∙ ap (λ y. having y o (λ m. on o m (act inst p (v ∷ stack) run) stack below)) h ∙ behind o fs inst p (v ∷ stack) run below q fs' stack a.is.on

  equal_step : (o : World) (fs : Frames) (inst p : ℕ) (stack : List Value) (run : Runs) (below : List machine.Activation) (x y q : ℕ) → Is code (i.Rel (pos 2)) p q
      → mstep code l o (machine_at fs inst p (machine.Of (Integer (pos y)) ∷ machine.Of (Integer (pos x)) ∷ stack) run below) ≡ Going o (machine_at fs inst q (machine.Of (Truth (numbers_equal x y)) ∷ stack) run below)
  unfolding having applying_two pop_plain popping answering computing two_of compare
  equal_step o fs inst p stack run below x y q a =
      let whole = machine.Of (Integer (pos y)) ∷ machine.Of (Integer (pos x)) ∷ stack in
      by_row o fs inst p whole run below (i.Rel (pos 2)) a.line q a.is ∙ behind o fs inst p whole run below q fs (machine.Of (Truth (numbers_equal x y)) ∷ stack) a.is.on

  true_step : (o : World) (fs : Frames) (inst p : ℕ) (stack : List Value) (run : Runs) (below : List machine.Activation) (v : Bool) (q x : ℕ) → Is code (i.JumpF (pos x)) p q → v ≡ true
      → mstep code l o (machine_at fs inst p (machine.Of (Truth v) ∷ stack) run below) ≡ Going o (machine_at fs inst q stack run below)
  unfolding having pop_truth pop_plain popping choosing
  true_step o fs inst p stack run below v q x a e =
      let whole = machine.Of (Truth v) ∷ stack in
      let back = act inst p whole run in
      by_row o fs inst p whole run below (i.JumpF (pos x)) a.line q a.is
      ∙ ap (λ z. if z then on o fs back stack below else jumping code p (pos x) o (λ q. at o fs back q stack below)) e ∙ behind o fs inst p whole run below q fs stack a.is.on

  false_step : (o : World) (fs : Frames) (inst p : ℕ) (stack : List Value) (run : Runs) (below : List machine.Activation) (v : Bool) (q x : ℕ) → Is code (i.JumpF (pos x)) p q → Ahead code p x → v ≡ false
      → mstep code l o (machine_at fs inst p (machine.Of (Truth v) ∷ stack) run below) ≡ Going o (machine_at fs inst x stack run below)
  unfolding having pop_truth pop_plain popping choosing
  false_step o fs inst p stack run below v q x a ahead e =
      let whole = machine.Of (Truth v) ∷ stack in
      let back = act inst p whole run in
      by_row o fs inst p whole run below (i.JumpF (pos x)) a.line q a.is
      ∙ ap (λ z. if z then on o fs back stack below else jumping code p (pos x) o (λ q. at o fs back q stack below)) e ∙ jumping_ahead o fs inst p whole run below x (λ q. at o fs back q stack below) ahead

numbers_same : (a b : ℕ) → a ≡ b → numbers_equal a b ≡ true
numbers_same a b e =
    let less : int_lt (pos a) (pos b) ≡ false = grind (arith, e) in
    let greater : int_lt (pos b) (pos a) ≡ false = grind (arith, e) in
    ap (λ z. holds comparison.Equal (cond z order.Less (cond (int_lt (pos b) (pos a)) order.Greater order.Equal))) less ∙ ap (λ z. holds comparison.Equal (cond z order.Greater order.Equal)) greater

numbers_differ : (a b : ℕ) → a < b → numbers_equal b a ≡ false
numbers_differ a b lt =
    let less : int_lt (pos b) (pos a) ≡ false = grind (arith, lt) in
    let greater : int_lt (pos a) (pos b) ≡ true = grind (arith, lt) in
    ap (λ z. holds comparison.Equal (cond z order.Less (cond (int_lt (pos a) (pos b)) order.Greater order.Equal))) less ∙ ap (λ z. holds comparison.Equal (cond z order.Greater order.Equal)) greater

module _ (s : Source) (code : CodeOf) (l : Limits) (fs : Frames) (inst t : ℕ) (b : Runs) (stack : List Value) (below : List machine.Activation) (n : ℕ) (deep : length stack ≡ n) (roomy : b.limit ≤ b.room) (own : at_level fs (level_of s t) inst ≡ Some inst) (reads : (c : ℕ) → machine.cell fs inst c ≡ placed fs inst c) where
  abbrev In : ℕ → Machine
  In p = machine_at fs inst p stack b below

  -- the number in a temp leads back
  module _ (was temp number : ℕ) (held : machine.cell fs inst temp ≡ Some (machine.Of (Integer (pos number)))) where
    returns_path : (returns : List ℕ) (k d p first q : ℕ) → number ≡ k + d → slice_get returns d ≡ Some q → ReturnsAt s code (site_at t b was) n temp k returns p first → SlowTo code l (In p) (In q)
    returns_path [] k d p first q e is a = absurd a
    returns_path (r ∷ []) k zero p first q e is a =
        let same : r ≡ q = cc (is) in
        subst (λ z. SlowTo code l (In p) (In z)) same (slow_more code l (λ o. over_step code l o fs inst p stack b below r first a.0 a.1) (0, no_step))
    returns_path (r ∷ []) k (suc d) p first q e is a = absurd (cc (is))
    returns_path (r ∷ r2 ∷ rs) k zero p first q e is a =
        let x = a.1 in
        let same : r ≡ q = cc (is) in
        let eq : number ≡ k = omega (arith, e) in
        let one : length stack < b.room = omega (arith, deep, roomy, x.kept.fits) in
        let two : suc (length stack) < b.room = omega (arith, deep, roomy, x.number_pushed.fits) in
        subst (λ z. SlowTo code l (In p) (In z)) same
        (slow_more code l (λ o. load_step code l o fs inst p stack b below (level_of s t) inst temp x.a (machine.Of (Integer (pos number))) x.kept.is own held one)
        (slow_more code l (λ o. int_step code l o fs inst x.a (machine.Of (Integer (pos number)) ∷ stack) b below k x.b x.number_pushed.is two)
        (slow_more code l (λ o. equal_step code l o fs inst x.b stack b below number k x.c x.equal)
        (slow_more code l (λ o. true_step code l o fs inst x.c stack b below (numbers_equal number k) x.d a.0 x.other (numbers_same number k eq))
        (slow_more code l (λ o. over_step code l o fs inst x.d stack b below r a.0 x.jump x.there) (0, no_step))))))
    returns_path (r ∷ r2 ∷ rs) k (suc d) p first q e is a =
        let x = a.1 in
        let more : k < number = omega (arith, e) in
        let next : number ≡ suc k + d = omega (arith, e) in
        let one : length stack < b.room = omega (arith, deep, roomy, x.kept.fits) in
        let two : suc (length stack) < b.room = omega (arith, deep, roomy, x.number_pushed.fits) in
        slow_more code l (λ o. load_step code l o fs inst p stack b below (level_of s t) inst temp x.a (machine.Of (Integer (pos number))) x.kept.is own held one)
        (slow_more code l (λ o. int_step code l o fs inst x.a (machine.Of (Integer (pos number)) ∷ stack) b below k x.b x.number_pushed.is two)
        (slow_more code l (λ o. equal_step code l o fs inst x.b stack b below number k x.c x.equal)
        (slow_more code l (λ o. false_step code l o fs inst x.c stack b below (numbers_equal number k) x.d a.0 x.other x.leads (numbers_differ k number more))
        (returns_path (r2 ∷ rs) (suc k) d a.0 first q next is a.2))))

  come_path : (used q p : ℕ) → ComesTo s code fs inst t b used n q p → SlowTo code l (In p) (In q)
  come_path used q _ (there {p} e) = subst (λ z. SlowTo code l (In p) (In z)) (sym e) (0, no_step)
  come_path used q _ (over {p} {p'} {x} jump ahead more) = slow_more code l (λ o. over_step code l o fs inst p stack b below p' x jump ahead) (come_path used q p' more)
  come_path used q _ (returning {p} {p'} r more) =
      let e : r.number ≡ 0 + r.number = omega arith in
      slow_then code l (returns_path r.was r.temp r.number (reads r.temp ∙ r.holds) r.returns 0 r.number p r.first p' e r.leads r.back) (come_path used q p' more)

-- what is pending behind a turn is come back to
-- from a place a jump leads to pending work
pub comes_over : (s : Source) (code : CodeOf) (m : Instances) (fs : Frames) (Below : Wait → Type 0) (inst t : ℕ) (b : Runs) (used : ℕ) (w : List Item) (p p' x : ℕ) (ks : List Kind) → Is code (i.Jump (pos p')) p x → Ahead code p p' → WorkAt s code m fs Below inst t b used w p' ks → WorkAt s code m fs Below inst t b used w p ks
comes_over s code m fs Below inst t b used [] p p' x ks j h a = a
comes_over s code m fs Below inst t b used (Do op ∷ w) p p' x ks j h a = (a.0, a.1, a.2, a.3, a.4, a.5, a.6, over j h a.7, a.8, a.9, a.10, a.11)
comes_over s code m fs Below inst t b used (EndBlock ∷ w) p p' x ks j h a = (a.0, over j h a.1, a.2)
comes_over s code m fs Below inst t b used (EndProcedure v ∷ w) p p' x ks j h a = (a.0, over j h a.1, a.2)
comes_over s code m fs Below inst t b used (EndProgram ∷ w) p p' x ks j h a = (a.0, over j h a.1, a.2)
comes_over s code m fs Below inst t b used (EndObject ∷ w) p p' x ks j h a = (a.0, over j h a.1, a.2)
comes_over s code m fs Below inst t b used (EndPrefixed ∷ w) p p' x ks j h a = (a.0, over j h a.1, a.2)
comes_over s code m fs Below inst t b used (EndEvaluation wanted ∷ w) p p' x ks j h a = (a.0, over j h a.1, a.2)
comes_over s code m fs Below inst t b used (EndLevel k ∷ w) p p' x ks j h a = (a.0, a.1, a.2, over j h a.3, a.4, a.5)

pub comes_back : (s : Source) (code : CodeOf) (m : Instances) (fs : Frames) (Below : Wait → Type 0) (inst t : ℕ) (b : Runs) (used : ℕ) (w : List Item) (p p' : ℕ) (ks : List Kind) → ReturningIs s code fs inst t b used (length ks) p p' → WorkAt s code m fs Below inst t b used w p' ks → WorkAt s code m fs Below inst t b used w p ks
comes_back s code m fs Below inst t b used [] p p' ks r a = a
comes_back s code m fs Below inst t b used (Do op ∷ w) p p' ks r a = (a.0, a.1, a.2, a.3, a.4, a.5, a.6, returning r a.7, a.8, a.9, a.10, a.11)
comes_back s code m fs Below inst t b used (EndBlock ∷ w) p p' ks r a = (a.0, returning r a.1, a.2)
comes_back s code m fs Below inst t b used (EndProcedure v ∷ w) p p' ks r a = (a.0, returning r a.1, a.2)
comes_back s code m fs Below inst t b used (EndProgram ∷ w) p p' ks r a = (a.0, returning r a.1, a.2)
comes_back s code m fs Below inst t b used (EndObject ∷ w) p p' ks r a = (a.0, returning r a.1, a.2)
comes_back s code m fs Below inst t b used (EndPrefixed ∷ w) p p' ks r a = (a.0, returning r a.1, a.2)
comes_back s code m fs Below inst t b used (EndEvaluation wanted ∷ w) p p' ks r a = (a.0, returning r a.1, a.2)
comes_back s code m fs Below inst t b used (EndLevel k ∷ w) p p' ks r a = (a.0, a.1, a.2, returning r a.3, a.4, a.5)

module _ (s : Source) (code : CodeOf) (l : Limits) where
  -- the state that the machine comes to
  abbrev pub Settles : Configuration → Machine → Type 0
  Settles c x = (y : Machine) × SlowTo code l x y × StateNow s code c y

  module _ (m : Instances) (inst : ℕ) (vals : List meaning.Val) (rest : List Activation) (fs : Frames) (t : ℕ) (b : Runs) (stack : List Value) (below : List machine.Activation) (ks : List Kind) (here : Here s code m fs inst rest t b ks vals stack) where
    abbrev Below : Wait → Type 0
    Below v = ChainAt s code m fs rest v below

    abbrev Stood : List Item → Configuration
    Stood w = record { chain = record { instance = inst; work = w; values = vals } ∷ rest; memory = m }

    own : at_level fs (level_of s t) inst ≡ Some inst
    own = levels_same s code here.store (level_of s t) inst ∙ own_level s m inst t here.stands here.lives

    deep : length stack ≡ length ks
    deep = sym (stack_length ks vals stack here.values)

    -- control has come to the first part
    now_at : (fs' : Frames) → There s code m fs' inst t b ks vals stack → (used : ℕ) (w : List Item) (p : ℕ) → NowAt s code m fs' (λ v. ChainAt s code m fs' rest v below) inst t b used w p ks → StateNow s code (Stood w) (machine_at fs' inst p stack b below)
    now_at fs' there' used w p a = record {
      chain = record {
        home = refl;
        text = t;
        block = b;
        base = refl;
        found = there'.found;
        stands = there'.stands;
        own = there'.own;
        roomy = there'.roomy;
        room = refl;
        stage = refl;
        kinds = ks;
        values = there'.values;
        gets = NoValue;
        gets_is = subst (λ z. GetsIs z NoValue NoValue) (sym there'.free) refl;
        fits = λ no. absurd (cc);
        asked = tt;
        used = used;
        goes = a;
      };
      store = there'.store;
      parked = there'.parked;
    }

    -- a turn goes to the statement
    turns : (used u : ℕ) (w : List Item) (x : Statement) (p q : ℕ) (behind : List Kind) → u ≤ used → Low s code t b u → Calm s b → TurningIs s code (site_at t b u) (length ks) x p q → behind ≡ ks → WorkAt s code m fs Below inst t b u w q behind → Settles (Stood (Do (Exec x) ∷ w)) (machine_at fs inst p stack b below)
    turns used u w x p q behind le low calm a e k =
        let number = machine.Of (Integer (pos a.number)) in
        let r = temp_written s code m fs inst t b a.temp number here.store here.stands here.lives here.found a.is_temp.behind a.is_temp.within in
        let roomy = here.roomy in
        let one : length stack < b.room = omega (arith, deep, roomy, a.turn.pushed.fits) in
        let more : u ≤ suc a.temp = omega (arith, a.unused) in
        let again : suc a.temp ≤ suc a.temp = omega arith in
        let in_use : a.temp < suc a.temp = omega arith in
        let frame = is_frame s code t b u a.temp low a.unused a.is_temp.within in
        let low' = low_behind s code t b u a.temp frame low a.is_temp.behind in
        let there' = moved s code r.changed (here.kept_alone frame) here here.values in
        let k1 = subst (λ z. WorkAt s code m fs Below inst t b u w q z) e k in
        let k2 = work_moved s code r.changed here (here.alone frame) below u (λ base n le within lt. r.others n (λ same. let no : ⊥ = omega (arith, same, lt, a.unused) in no)) w q ks k1 in
        let k3 = work_more s code m r.frames (λ v. ChainAt s code m r.frames rest v below) inst t b u (suc a.temp) more w q ks k2 in
        let k4 = comes_back s code m r.frames (λ v. ChainAt s code m r.frames rest v below) inst t b (suc a.temp) w a.done q ks (record {
          temp = a.temp;
          number = a.number;
          first = a.first;
          returns = a.returns;
          was = u;
          frame = frame;
          «in_use» = in_use;
          is_temp = record { behind = a.is_temp.behind; within = a.is_temp.within };
          holds = r.holds;
          leads = a.turn.returns_here;
          back = a.back;
        }) k3 in (
          machine_at r.frames inst a.start stack b below,
          slow_more code l (λ o. int_step code l o fs inst p stack b below a.number a.turn.x a.turn.pushed.is one)
              (slow_more code l (λ o. store_step code l o fs inst a.turn.x stack b below (level_of s t) inst a.temp a.turn.y number r.frames a.turn.kept own r.is)
              (slow_more code l (λ o. back_step code l o r.frames inst a.turn.y stack b below a.start q a.ticked a.turn.jump a.turn.behind a.tick) (0, no_step))),
          now_at r.frames there' (suc a.temp) (Do (Exec x) ∷ w) a.start (suc a.temp, a.done, ks, t, spot t b (suc a.temp), same_frame s t, again, low', stays (a.body, refl) calm refl, k4),
        )

    stands_now : (used : ℕ) (w : List Item) (op : Op) (p u q : ℕ) (behind : List Kind) (c : Spot) → u ≤ used → Low s code t b u → InStage s code (BeginsAt s code m fs inst (site_at t b u)) (site_at t b u) op b c p q ks behind → WorkAt s code m fs Below inst c.text c.runs c.used w q behind → Settles (Stood (Do op ∷ w)) (machine_at fs inst p stack b below)
    stands_now used w op p u q behind c le low a k = (_, (0, no_step), now_at fs (there_of s code here) used (Do op ∷ w) p (u, q, behind, t, c, same_frame s t, le, low, a, k))

    -- an operator in its own place, or a turn
    begins : (used : ℕ) (w : List Item) (op : Op) (p u q : ℕ) (behind : List Kind) → u ≤ used → Low s code t b u → Calm s b → OpAt s code m fs inst (site_at t b u) op p q ks behind → WorkAt s code m fs Below inst t b u w q behind → Settles (Stood (Do op ∷ w)) (machine_at fs inst p stack b below)
    begins used w (Exec x) p u q behind le low calm (straight a, e) k = stands_now used w (Exec x) p u q behind (spot t b u) le low (stays (a, e) calm refl) k
    begins used w (Exec x) p u q behind le low calm (turning a, e) k = turns used u w x p q behind le low calm a e k
    begins used w op p u q behind le low calm a k = stands_now used w op p u q behind (spot t b u) le low (stays a calm refl) k

    pub begins_in : (used : ℕ) (w : List Item) (op : Op) (p u q : ℕ) (behind : List Kind) (c : Spot) → u ≤ used → Low s code t b u → InStage s code (OpAt s code m fs inst (site_at t b u)) (site_at t b u) op b c p q ks behind → WorkAt s code m fs Below inst c.text c.runs c.used w q behind → Settles (Stood (Do op ∷ w)) (machine_at fs inst p stack b below)
    begins_in used w op p u q behind c le low (stays a calm g) k = begins used w op p u q behind le low calm a (subst (λ z. WorkAt s code m fs Below inst z.text z.runs z.used w q behind) g k)
    begins_in used w op p u q behind c le low (declares x e a) k = stands_now used w op p u q behind c le low (declares x e a) k
    begins_in used w op p u q behind c le low (inner_last x e a) k = stands_now used w op p u q behind c le low (inner_last x e a) k
    begins_in used w op p u q behind c le low (inner_here x e a) k = stands_now used w op p u q behind c le low (inner_here x e a) k
    begins_in used w op p u q behind c le low (with_inner x e a) k = stands_now used w op p u q behind c le low (with_inner x e a) k
    begins_in used w op p u q behind c le low (ends_process e a) k = stands_now used w op p u q behind c le low (ends_process e a) k

    pub come : (used : ℕ) (q p : ℕ) → ComesTo s code fs inst t b used (length ks) q p → SlowTo code l (machine_at fs inst p stack b below) (machine_at fs inst q stack b below)
    come used q p a = come_path s code l fs inst t b stack below (length ks) deep here.roomy own (λ c. placed_here s code m fs here.store inst c here.lives) used q p a

    pub first_come : (c : Configuration) (x y : Machine) → SlowTo code l x y → Settles c y → Settles c x
    first_come c x y a r = (r.0, slow_then code l a r.1, r.2)

    pub end_settles : (used : ℕ) (w : List Item) (x : Item) (at p : ℕ) → ComesTo s code fs inst t b used (length ks) at p → NowAt s code m fs Below inst t b used (x ∷ w) at ks → Settles (Stood (x ∷ w)) (machine_at fs inst p stack b below)
    end_settles used w x at p c a = first_come _ _ _ (come used at p c) (_, (0, no_step), now_at fs (there_of s code here) used (x ∷ w) at a)

  top_settles : (m : Instances) (inst : ℕ) (vals : List meaning.Val) (rest : List Activation) (fs : Frames) (t : ℕ) (b : Runs) (stack : List Value) (below : List machine.Activation) (ks : List Kind) (here : Here s code m fs inst rest t b ks vals stack) (used : ℕ) (w : List Item) (p : ℕ) → WorkAt s code m fs (λ v. ChainAt s code m fs rest v below) inst t b used w p ks
      → Settles (record { chain = record { instance = inst; work = w; values = vals } ∷ rest; memory = m }) (machine_at fs inst p stack b below)
  top_settles m inst vals rest fs t b stack below ks here used [] p a = absurd a
  top_settles m inst vals rest fs t b stack below ks here used (Do op ∷ w) p a =
      let less = low_same s code a.4 t b a.1 a.6 a.9 in
      first_come m inst vals rest fs t b stack below ks here _ _ _ (come m inst vals rest fs t b stack below ks here used a.0 p a.7)
      (begins_in m inst vals rest fs a.4 b stack below ks (here_at s code a.6 here) used w op a.0 a.1 a.2 a.3 a.5 a.8 less a.10 a.11)
  top_settles m inst vals rest fs t b stack below ks here used (EndBlock ∷ w) p a = end_settles m inst vals rest fs t b stack below ks here used w EndBlock a.0 p a.1 a.2
  top_settles m inst vals rest fs t b stack below ks here used (EndProcedure v ∷ w) p a = end_settles m inst vals rest fs t b stack below ks here used w (EndProcedure v) a.0 p a.1 a.2
  top_settles m inst vals rest fs t b stack below ks here used (EndProgram ∷ w) p a = end_settles m inst vals rest fs t b stack below ks here used w EndProgram a.0 p a.1 a.2
  top_settles m inst vals rest fs t b stack below ks here used (EndObject ∷ w) p a = end_settles m inst vals rest fs t b stack below ks here used w EndObject a.0 p a.1 a.2
  top_settles m inst vals rest fs t b stack below ks here used (EndPrefixed ∷ w) p a = end_settles m inst vals rest fs t b stack below ks here used w EndPrefixed a.0 p a.1 a.2
  top_settles m inst vals rest fs t b stack below ks here used (EndEvaluation wanted ∷ w) p a = end_settles m inst vals rest fs t b stack below ks here used w (EndEvaluation wanted) a.0 p a.1 a.2
  top_settles m inst vals rest fs t b stack below ks here used (EndLevel k ∷ w) p a = end_settles m inst vals rest fs t b stack below ks here used w (EndLevel k) a.0 p a.3 (a.1, a.2, a.4, a.5)

  -- an activation that is as the relation says
  pub as_act : (y : machine.Activation) (inst : ℕ) (run : Runs) → y.thunk ≡ run.thunk → y.home ≡ inst → y.room ≡ run.room → y.stage ≡ run.stage → y ≡ act inst y.pc y.stack run
  as_act y inst run a h r g =
      ap (λ z. let v : machine.Activation = record { thunk = z; home = y.home; pc = y.pc; stack = y.stack; room = y.room; stage = y.stage } in v) a
      ∙ ap (λ z. let v : machine.Activation = record { thunk = run.thunk; home = z; pc = y.pc; stack = y.stack; room = y.room; stage = y.stage } in v) h
      ∙ ap (λ z. let v : machine.Activation = record { thunk = run.thunk; home = inst; pc = y.pc; stack = y.stack; room = z; stage = y.stage } in v) r
      ∙ ap (λ z. let v : machine.Activation = record { thunk = run.thunk; home = inst; pc = y.pc; stack = y.stack; room = run.room; stage = z } in v) g

  settles : (o : World) (m : Instances) (chain : List Activation) (fs : Frames) (below : List machine.Activation) → StoreAt s code m fs → StandingsAt s code m fs → SaneOn m chain → NamesOn s o m chain → ChainAt s code m fs chain NoValue below → Settles (record { chain = chain; memory = m }) (record { chain = below; memory = fs })
  settles o m [] fs below a parked sane names c = (_, (0, no_step), record { chain = c; store = a; parked = parked })
  settles o m (x ∷ rest) fs [] a parked sane names c = absurd c
  settles o m (x ∷ rest) fs (y ∷ below) a parked sane names c =
      let Work = WorkAt s code m fs (λ v. ChainAt s code m fs rest v below) x.instance in
      let flag = top_flag s code (Bottom s code NoValue) m fs x rest NoValue y below c in
      subst (λ z. Settles (record { chain = x ∷ rest; memory = m }) (record { chain = z ∷ below; memory = fs })) (sym (as_act y x.instance c.block c.base c.home c.room c.stage))
      (top_settles m x.instance x.values rest fs c.text c.block y.stack below c.kinds (here_top s code m fs x rest y (λ t b used p ks. Work t b used x.work p ks) c flag a parked sane names.0) c.used x.work y.pc
      (subst (λ g. Work c.text c.block c.used x.work y.pc (given_by g c.kinds)) (gets_free (suspended_by m (owner_of c.block.thunk x.instance)) NoValue c.gets (top_is_free s code m fs x rest y (λ t b used p ks. Work t b used x.work p ks) c flag sane) c.gets_is) c.goes))

  -- where the machine has steps of its own, it makes them
  pub settle : (o : World) (c : Configuration) (x : Machine) → Sane c → NamesOn s o c.memory c.chain → StateAt s code c x → Settles c x
  settle o c x sane names a = settles o c.memory c.chain x.memory x.chain a.store a.parked sane names a.chain
