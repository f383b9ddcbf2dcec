-- Connections: the object in hand goes to its hidden cell, and the statement of an arm or of `do` is begun.
use Rattle.std.proofs.Common.{◌≡◌, ℕ, Bool, true, false, List, ◌∷◌, length, Option, Some, None, refl, sym, ap, ◌∙◌, subst, arith}
use Rattle.std.specs.Prelude.{pos, if◌then◌else◌}
use Rattle.sim_base.specs.declared.limits.Limits.{Limits}
use Rattle.sim_scope.specs.Source.{Source, block_around, denoted, level_of}
use Rattle.sim_scope.specs.declared.scopes.Denotation.{Denotation}
use Rattle.sim_scope.specs.declared.scopes.Denotation.TheVariants as denotation
use Rattle.sim_scope.specs.Levels.{class_block}
use Rattle.sim_tree.specs.Syntax.{Arms, NoArm, Statement, Statements, When}
use Rattle.sim_values.specs.Plain.{Character, Integer, Nothing, Object, Plain, Text, Truth, MainOf}
use Rattle.sim_code.specs.declared.instr.Instr.TheVariants as i
use Rattle.sim_code.specs.Classes as classes
use Rattle.sim_code.specs.Code.{CodeOf}
use Rattle.sim_code.specs.Outcome.{Going, Run, World}
use Rattle.sim_code.specs.Events.{having, pop_plain, popping}
use Rattle.sim_code.specs.Machine.{Frames, Machine, Value}
use Rattle.sim_code.specs.Machine as machine
use Rattle.sim_code.specs.Instances.{at_level}
use Rattle.sim_code.specs.Rows.{mstep}
use Rattle.sim_code.proofs.Lifts.{alike_unruled}
use Rattle.sim_code.proofs.Simulation.{Alike}
use Rattle.sim_meaning.specs.Attributes.{is_connection}
use Rattle.sim_meaning.specs.Connections.{arm_tried, arms_tried, connected, inspected, inspected_when, object_connected}
use Rattle.sim_meaning.specs.Levels.{class_at, class_denoted, class_text, is_class, stands_in}
use Rattle.sim_meaning.specs.Meaning.{do_op}
use Rattle.sim_meaning.specs.Pending.{Activation, Configuration, ConnectOp, Connection, Do, Exec, Execs, Instances, Item, PastOp, Val, WhenOp, plain}
use Rattle.sim_meaning.specs.Pending as meaning
use Rattle.sim_meaning.specs.Sane.{AllName, Names}
use Rattle.sim_meaning.specs.Steps.{go}
use Rattle.sim_meaning.specs.Texts.{text}
use Rattle.codegen_expr.specs.Sites.{Ahead, Is, class_number, frame_text, is_connected, slot_of}
use Rattle.codegen.specs.CodeStm.{ArmAt, ArmOfAt, ArmsAt, ConnectionAt, ConnectsAt, StmAt, StmsAt}
use Rattle.codegen.specs.Compiled.{Compiled}
use Rattle.sim_relate.proofs.Carried.{all_every, kept_every}
use Rattle.sim_relate.proofs.Frames.{frame_idem, frame_level, frame_out, stands_same}
use Rattle.sim_relate.proofs.Hands.{stack_length}
use Rattle.sim_relate.proofs.Here.{Here, goes, kinds_as, with_values}
use Rattle.sim_relate.proofs.Known.{low_same, actual_at, HandAt, Kind, Runs, SameFrame, StackAt, Stands, ValAt, anys, array_at, element_at, image_at, link_at, more_at, plain_at, site_at, spot, Settled, IsReference, procedure_at}
use Rattle.sim_relate.proofs.Living.{own_level}
use Rattle.sim_relate.proofs.Moved.{moved, work_moved}
use Rattle.sim_relate.proofs.Pending.{pends, pends_in}
use Rattle.sim_relate.proofs.Ranked.{Follows, InEach, Meets, at_once, caught, in_steps, simply}
use Rattle.sim_relate.proofs.ObjectsHere.{class_named, named_in_same}
use Rattle.sim_relate.proofs.Relation.{ChainAt, ConnectIs, OpAt, StateAt, WorkAt, stays, straight}
use Rattle.sim_relate.proofs.Silent.{dropped_row, in_row, jumps, jumps_row, matched, none_row, not_row, other_row, place_at, same_row, silent, stays_row, steps_to}
use Rattle.sim_relate.proofs.Stores.{cell_made_alike, levels_same}
use Rattle.sim_relate.proofs.Straight.{dup_row, step_at, store_row}
use Rattle.sim_relate.proofs.Trees.{Classed}

-- a class that is named
module _ (s : Source) where
  text_classed : (o : Option ℕ) (k : ℕ) → class_text s o ≡ Some k → Classed s k
  text_classed None k e = absurd (cc)
  text_classed (Some t) k e = by_test (is_class (text s t)) refl e
    where
      by_test : (c : Bool) → is_class (text s t) ≡ c → (if c then Some t else None) ≡ Some k → is_class (text s k) ≡ true
      by_test true h e = subst (λ z. is_class (text s z) ≡ true) (cc (e)) h
      by_test false h e = absurd (cc)

  denoted_classed : (u : Option Denotation) (k : ℕ) → class_denoted s u ≡ Some k → Classed s k
  denoted_classed (Some (denotation.Declared d)) k e = text_classed (class_block s.tables d) k e
  denoted_classed (Some (denotation.Standard name)) k e = absurd (cc)
  denoted_classed None k e = absurd (cc)

  class_classed : (token class : ℕ) → class_at s token ≡ Some class → Classed s class
  unfolding class_at
  class_classed token class e = denoted_classed (denoted s token) class e

module _ (s : Source) (code : CodeOf) (coding : Compiled s code) (l : Limits) (o : World) (m : Instances) (inst : ℕ) (w : List Item) (vals : List Val) (rest : List Activation) (fs : Frames) (t : ℕ) (b : Runs) (pc : ℕ) (stack : List Value) (below : List machine.Activation) (ks : List Kind) (here : Here s code m fs inst rest t b ks vals stack) (u q : ℕ) (ks' : List Kind) (low : Settled s code t b u) (k : WorkAt s code m fs (λ v. ChainAt s code m fs rest v below) inst t b u w q ks') where
  abbrev R : Configuration → Machine → Type 0
  R = StateAt s code

  abbrev g : World → Machine → Run Machine
  g = mstep code l

  abbrev at : ℕ → List Value → Frames → Machine
  at p stack' fs' = place_at code l inst b below p stack' fs'

  -- one step of the program goes on, and the machine comes to the same
  on_both : {r : Run Configuration} {x : Machine} {vals' : List Val} {stack' : List Value} (w' : List Item) (p : ℕ) → r ≡ go o m inst w' vals' rest → mstep code l o x ≡ Going o (at p stack' fs) → Alike R (go o m inst w' vals' rest) (Going o (at p stack' fs)) → Meets g (InEach R) r o x
  on_both {r} {x} {stack' = stack'} w' p e step alike = subst (λ z. Meets g (InEach R) z o x) (sym e) (matched code l inst b below R (Going o (at p stack' fs)) step (caught (simply (λ p same. absurd (cc (same))) alike)))

  -- ---- the hidden cell

  module _ (opening class : ℕ) (a : Statement) (left : List Kind) (out : ks' ≡ left) (x : Plain) (vals' : List Val) (stack' : List Value) (hs : StackAt (HandAt s code m) left vals' stack') (f e y : ℕ) (c : ConnectionAt s code (site_at t b u) opening class (λ site. StmAt s code site (length left) a) f e) (over : Is code (i.Jump (pos q)) e y) (past : Ahead code e q) where
    same : SameFrame s class t
    same =
        let joined : is_connected s.tables class ≡ true = coding.agrees.connected class ∙ ap is_connection c.is in
        record { frame = frame_out s coding.agrees class t joined c.around; level = coding.agrees.same_level class t c.around joined }

    back : SameFrame s t class
    back = record { frame = sym same.frame; level = sym same.level }

    of_frame : Stands s m inst (frame_text s class)
    of_frame = stands_same s m inst (frame_text s class) t (record { frame = frame_idem s coding.agrees class ∙ same.frame; level = frame_level s coding.agrees class ∙ same.level }) here.stands

    kept : Meets g (InEach R) (connected o m inst w vals' rest opening x a) o (at f (machine.Of x ∷ stack') fs)
    unfolding having
    kept =
        let r = cell_made_alike s code m fs inst (frame_text s class) (Connection opening) (meaning.Of x) (machine.Of x) here.store of_frame here.lives (frame_idem s coding.agrees class) c.has refl plain_at in
        let level : at_level fs (level_of s class) inst ≡ Some inst = ap (λ z. at_level fs z inst) same.level ∙ levels_same s code here.store (level_of s t) inst ∙ own_level s m inst t here.stands here.lives in
        let store = c.kept in
        let is : connected o m inst w vals' rest opening x a ≡ go o r.now inst (Do (Exec a) ∷ Do PastOp ∷ w) vals' rest = ap (λ z. having z o (λ m. go o m inst (Do (Exec a) ∷ Do PastOp ∷ w) vals' rest)) r.is in
        let low' = low_same s code class t b u same low.at in
        let later = work_moved s code r.changed here (all_every rest) below u (λ frame n le within lt. r.changed.keeps.temps inst t n b.block tt here.stands here.found (record { behind = le; within = within })) w q left (subst (λ z. WorkAt s code m fs (λ v. ChainAt s code m fs rest v below) inst t b u w q z) out k) in
        let work : WorkAt s code r.now r.frames (λ v. ChainAt s code r.now r.frames rest v below) inst t b u (Do (Exec a) ∷ Do PastOp ∷ w) c.x left =
        pends_in s code r.now r.frames (λ v. ChainAt s code r.now r.frames rest v below) inst t b u low.at (Do PastOp ∷ w) (Exec a) class (spot class b u) c.x e left left same (stays (straight c.body, refl) low.calm refl)
        (pends_in s code r.now r.frames (λ v. ChainAt s code r.now r.frames rest v below) inst class b u low' w PastOp t (spot t b u) e q left left back (stays (y, over, past, refl) low.calm refl) later) in
        subst (λ z. Meets g (InEach R) z o (at f (machine.Of x ∷ stack') fs)) (sym is)
        (matched code l inst b below R (Going o (at c.x stack' r.frames))
        (steps_to code l inst b below (machine.Of x ∷ stack') stack' fs r.frames o o (i.Store (pos (level_of s class)) (pos (slot_of s code (frame_text s class) (Connection opening)))) store.is
        (store_row code l store.line inst b below fs r.frames o f (machine.Of x) stack' (level_of s class) (slot_of s code (frame_text s class) (Connection opening)) level r.is_frames))
        (caught (simply (λ p same. absurd (cc (same))) (goes s code u c.x (moved s code r.changed (kept_every m) here hs) work refl))))

  -- the connection that begins at a token
  kept_by : (opening : ℕ) (found : Option ℕ) (a : Statement) (left : List Kind) → ks' ≡ left → (x : Plain) (vals' : List Val) (stack' : List Value) → StackAt (HandAt s code m) left vals' stack' → (f e y : ℕ) → ConnectsAt s code (site_at t b u) opening found (λ site. StmAt s code site (length left) a) f e → Is code (i.Jump (pos q)) e y → Ahead code e q
      → Meets g (InEach R) (connected o m inst w vals' rest opening x a) o (at f (machine.Of x ∷ stack') fs)
  kept_by opening None a left out x vals' stack' hs f e y c over past = absurd c
  kept_by opening (Some class) a left out x vals' stack' hs f e y c over past = kept opening class a left out x vals' stack' hs f e y c over past

  -- `otherwise`, where the object is dropped
  otherwise_taken : {r : Run Configuration} (other : Statements) (left : List Kind) → ks' ≡ left → (vals' : List Val) (stack' : List Value) (x : Value) → StackAt (HandAt s code m) left vals' stack' → (y z : ℕ) → Is code i.Pop y z → StmsAt s code (site_at t b u) (length left) other z q → r ≡ go o m inst (Do (Execs other) ∷ w) vals' rest → Meets g (InEach R) r o (at y (x ∷ stack') fs)
  otherwise_taken other left out vals' stack' x hs y z popped a e =
      on_both (Do (Execs other) ∷ w) z e (steps_to code l inst b below (x ∷ stack') stack' fs fs o o i.Pop popped.is (dropped_row code l inst b below popped.line fs o y x stack'))
      (goes s code u z (with_values s code here hs) (pends s code m fs (λ v. ChainAt s code m fs rest v below) inst t b u low w (Execs other) z q left ks' (a, out) k) refl)

  -- ---- `inspect .. do`

  module _ (opening : ℕ) (a : Statement) (other : Statements) (c : ConnectIs s code (site_at t b u) opening a other pc q ks ks') (vals' : List Val) (stack' : List Value) (hs : StackAt (HandAt s code m) c.left vals' stack') where
    deep : length c.left ≡ length stack'
    deep = stack_length c.left vals' stack' hs

    -- the object against none
    compared : {r : Run Configuration} (x : Value) → Meets g (InEach R) r o (at c.c (machine.Of Nothing ∷ x ∷ x ∷ stack') fs) → Meets g (InEach R) r o (at pc (x ∷ stack') fs)
    compared x more =
        let again = c.again.is in
        let none = c.none.is in
        let e = deep in
        let one = c.again.fits in
        let two = c.none.fits in
        let roomy = here.roomy in
        silent code l inst b below R i.Dup again.is (dup_row code l again.line inst b below fs o pc x stack' (omega (arith, e, one, roomy)))
        (silent code l inst b below R i.None none.is (none_row code l inst b below none.line fs o c.b (x ∷ x ∷ stack') (omega (arith, e, two, roomy))) more)

    -- a reference is other than none
    goes_in : (p : Plain) → IsReference p → Meets g (InEach R) (connected o m inst w vals' rest opening p a) o (at pc (machine.Of p ∷ stack') fs)
    goes_in p r =
        let tested = c.same in
        let turned = c.other_than in
        let jump = c.jump in
        compared (machine.Of p)
        (silent code l inst b below R i.Same tested.is (other_row code l inst b below tested.line fs o c.c p r (machine.Of p ∷ stack'))
        (silent code l inst b below R i.Not turned.is (not_row code l inst b below turned.line fs o c.d false (machine.Of p ∷ stack'))
        (silent code l inst b below R (i.JumpF (pos c.y)) jump.is (stays_row code l inst b below jump.line fs o c.e c.y (machine.Of p ∷ stack'))
        (kept_by opening (block_around s opening) a c.left c.out p vals' stack' hs c.f c.g c.y c.connected c.over c.past))))

    chosen : (p : Plain) → Follows g R (object_connected o m inst w vals' rest opening a other p) o (at pc (machine.Of p ∷ stack') fs)
    chosen (Object j) = in_steps (goes_in (Object j) tt)
    chosen (MainOf j) = in_steps (goes_in (MainOf j) tt)
    chosen Nothing =
        let tested = c.same in
        let turned = c.other_than in
        let jump = c.jump in
        in_steps (compared (machine.Of Nothing)
        (silent code l inst b below R i.Same tested.is (same_row code l inst b below tested.line fs o c.c (machine.Of Nothing ∷ stack'))
        (silent code l inst b below R i.Not turned.is (not_row code l inst b below turned.line fs o c.d true (machine.Of Nothing ∷ stack'))
        (jumps code l inst b below R c.y jump.is c.leads
        (otherwise_taken other c.left c.out vals' stack' (machine.Of Nothing) hs c.y c.z c.dropped c.otherwise refl)))))
    chosen (Integer z) = at_once (alike_unruled Configuration Machine R o _)
    chosen (Truth z) = at_once (alike_unruled Configuration Machine R o _)
    chosen (Character z) = at_once (alike_unruled Configuration Machine R o _)
    chosen (Text z) = at_once (alike_unruled Configuration Machine R o _)

    by_value : (v : Val) (x : Value) → ValAt s code m v x → Follows g R (having (plain v) o (λ p. object_connected o m inst w vals' rest opening a other p)) o (at pc (x ∷ stack') fs)
    unfolding having
    by_value _ _ (plain_at {p}) = chosen p
    by_value _ _ link_at = at_once (alike_unruled Configuration Machine R o _)
    by_value _ _ array_at = at_once (alike_unruled Configuration Machine R o _)
    by_value _ _ element_at = at_once (alike_unruled Configuration Machine R o _)
    by_value _ _ image_at = at_once (alike_unruled Configuration Machine R o _)
    by_value _ _ (actual_at h) = at_once (alike_unruled Configuration Machine R o _)
    by_value _ _ (procedure_at h) = at_once (alike_unruled Configuration Machine R o _)

  connect_hand : (opening : ℕ) (a : Statement) (other : Statements) (c : ConnectIs s code (site_at t b u) opening a other pc q ks ks') (vs : List Val) (xs : List Value) → StackAt (HandAt s code m) (anys 1 c.left) vs xs → Follows g R (inspected o m inst w vs rest opening a other) o (at pc xs fs)
  unfolding pop_plain popping
  connect_hand opening a other c _ _ (more_at {v = v} {vals = vals'} {x = x} {stack = stack'} h hs) = by_value opening a other c vals' stack' hs v x h

  pub connect_op : (opening : ℕ) (a : Statement) (other : Statements) → OpAt s code m fs inst (site_at t b u) (ConnectOp opening a other) pc q ks ks' → Follows g R (do_op s l o m inst w vals rest (ConnectOp opening a other)) o (at pc stack fs)
  connect_op opening a other c = connect_hand opening a other c vals stack (kinds_as s code c.«in» here.values)

  -- ---- `inspect .. when`

  module _ (other : Statements) (left : List Kind) (out : ks' ≡ left) (vals' : List Val) (stack' : List Value) (hs : StackAt (HandAt s code m) left vals' stack') where
    abbrev Otherwise : ℕ → ℕ → Type 0
    Otherwise = StmsAt s code (site_at t b u) (length left) other

    deep' : length left ≡ length stack'
    deep' = stack_length left vals' stack' hs

    -- whether what is in hand is in the class of an arm
    asked : {r : Run Configuration} {Connected More : ℕ → ℕ → Type 0} {p0 q0 : ℕ} (class : ℕ) (p : Plain) (y : Bool) → Classed s class → classes.is_in code fs (class_number s code class) p ≡ Some y → (c : ArmAt s code (site_at t b u) (length left) class Connected More p0 q0) → Meets g (InEach R) r o (at c.b (machine.Of (Truth y) ∷ machine.Of p ∷ stack') fs) → Meets g (InEach R) r o (at p0 (machine.Of p ∷ stack') fs)
    asked {p0 = p0} class p y h is c more =
        let again = c.again.is in
        let test = c.test in
        let e = deep' in
        let one = c.again.fits in
        let roomy = here.roomy in
        silent code l inst b below R i.Dup again.is (dup_row code l again.line inst b below fs o p0 (machine.Of p) stack' (omega (arith, e, one, roomy)))
        (silent code l inst b below R (i.In (pos (class_number s code class))) test.is (in_row code l inst b below test.line fs o c.a (class_number s code class) p y (machine.Of p ∷ stack') (class_named s code coding m fs here.store class h) is) more)

    -- none is in no class
    none_tried : (arms : Arms) (p : ℕ) → ArmsAt s code (site_at t b u) (length left) arms Otherwise p q → Meets g (InEach R) (go o m inst (Do (Execs other) ∷ w) vals' rest) o (at p (machine.Of Nothing ∷ stack') fs)
    none_tried NoArm p c = otherwise_taken other left out vals' stack' (machine.Of Nothing) hs p c.0 c.1 c.2 refl
    none_tried (When token class opening a end more) p c = by_class (λ y d. none_tried more y d) (class_at s class.token.0) refl c
      where
        by_class : ((y : ℕ) → ArmsAt s code (site_at t b u) (length left) more Otherwise y q → Meets g (InEach R) (go o m inst (Do (Execs other) ∷ w) vals' rest) o (at y (machine.Of Nothing ∷ stack') fs)) → (found : Option ℕ) → class_at s class.token.0 ≡ found → ArmOfAt s code (site_at t b u) (length left) found (ConnectsAt s code (site_at t b u) opening (block_around s opening) (λ site. StmAt s code site (length left) a)) (ArmsAt s code (site_at t b u) (length left) more Otherwise) p q
            → Meets g (InEach R) (go o m inst (Do (Execs other) ∷ w) vals' rest) o (at p (machine.Of Nothing ∷ stack') fs)
        by_class others None e c = absurd c
        by_class others (Some n) e c =
            let jump = c.jump in
            asked n Nothing false (class_classed s class.token.0 n e) refl c
            (jumps code l inst b below R c.y jump.is c.leads (others c.y c.more))

    -- what is named is in the class of the first arm, or the others are tried
    arm_taken : (opening class : ℕ) (p : Plain) (a : Statement) (more : Arms) → Names s m (meaning.Of p) → IsReference p → Classed s class → ArmAt s code (site_at t b u) (length left) class (ConnectsAt s code (site_at t b u) opening (block_around s opening) (λ site. StmAt s code site (length left) a)) (ArmsAt s code (site_at t b u) (length left) more Otherwise) pc q → (y : Bool) → stands_in s m class p ≡ y
        → Meets g (InEach R) (arm_tried o m inst w vals' rest y opening p a more other) o (at pc (machine.Of p ∷ stack') fs)
    arm_taken opening class p a more n r h c true e =
        let jump = c.jump in
        asked class p true h (named_in_same s code coding m fs here.store class h p n r ∙ ap Some e) c
        (silent code l inst b below R (i.JumpF (pos c.y)) jump.is (stays_row code l inst b below jump.line fs o c.b c.y (machine.Of p ∷ stack'))
        (kept_by opening (block_around s opening) a left out p vals' stack' hs c.c c.d c.y c.connected c.over c.past))
    arm_taken opening class p a more n r h c false e =
        let jump = c.jump in
        asked class p false h (named_in_same s code coding m fs here.store class h p n r ∙ ap Some e) c
        (on_both (Do (WhenOp more other) ∷ w) c.y refl (step_at code l jump.line inst b below (i.JumpF (pos c.y)) c.b c.c o (machine.Of (Truth false) ∷ machine.Of p ∷ stack') fs _ jump.is (jumps_row code l inst b below jump.line fs o c.b c.y (machine.Of p ∷ stack') c.leads))
        (goes s code u c.y (with_values s code here (more_at (plain_at {p = p}) hs))
        (pends s code m fs (λ v. ChainAt s code m fs rest v below) inst t b u low w (WhenOp more other) c.y q (anys 1 left) ks' (record { left = left; tried = c.more; «in» = refl; out = out }) k) refl))

    by_arm : (class_token opening : ℕ) (a : Statement) (more : Arms) (p : Plain) → Names s m (meaning.Of p) → IsReference p → (found : Option ℕ) → class_at s class_token ≡ found → ArmOfAt s code (site_at t b u) (length left) found (ConnectsAt s code (site_at t b u) opening (block_around s opening) (λ site. StmAt s code site (length left) a)) (ArmsAt s code (site_at t b u) (length left) more Otherwise) pc q
        → Follows g R (having found o (λ k. arm_tried o m inst w vals' rest (stands_in s m k p) opening p a more other)) o (at pc (machine.Of p ∷ stack') fs)
    unfolding having
    by_arm class_token opening a more p n r None e c = absurd c
    by_arm class_token opening a more p n r (Some k) e c = in_steps (arm_taken opening k p a more n r (class_classed s class_token k e) c (stands_in s m k p) refl)

    tried : (arms : Arms) → ArmsAt s code (site_at t b u) (length left) arms Otherwise pc q → (p : Plain) → Names s m (meaning.Of p) → Follows g R (arms_tried s o m inst w vals' rest arms other p) o (at pc (machine.Of p ∷ stack') fs)
    unfolding having
    tried NoArm c (Object j) n = in_steps (otherwise_taken other left out vals' stack' (machine.Of (Object j)) hs pc c.0 c.1 c.2 refl)
    tried NoArm c (MainOf j) n = in_steps (otherwise_taken other left out vals' stack' (machine.Of (MainOf j)) hs pc c.0 c.1 c.2 refl)
    tried NoArm c Nothing n = in_steps (none_tried NoArm pc c)
    tried NoArm c (Integer z) n = at_once (alike_unruled Configuration Machine R o _)
    tried NoArm c (Truth z) n = at_once (alike_unruled Configuration Machine R o _)
    tried NoArm c (Character z) n = at_once (alike_unruled Configuration Machine R o _)
    tried NoArm c (Text z) n = at_once (alike_unruled Configuration Machine R o _)
    tried (When token class opening a end more) c (Object j) n = by_arm class.token.0 opening a more (Object j) n tt (class_at s class.token.0) refl c
    tried (When token class opening a end more) c (MainOf j) n = by_arm class.token.0 opening a more (MainOf j) n tt (class_at s class.token.0) refl c
    tried (When token class opening a end more) c Nothing n = in_steps (none_tried (When token class opening a end more) pc c)
    tried (When token class opening a end more) c (Integer z) n = at_once (alike_unruled Configuration Machine R o _)
    tried (When token class opening a end more) c (Truth z) n = at_once (alike_unruled Configuration Machine R o _)
    tried (When token class opening a end more) c (Character z) n = at_once (alike_unruled Configuration Machine R o _)
    tried (When token class opening a end more) c (Text z) n = at_once (alike_unruled Configuration Machine R o _)

    tried_value : (arms : Arms) → ArmsAt s code (site_at t b u) (length left) arms Otherwise pc q → (v : Val) (x : Value) → ValAt s code m v x → Names s m v → Follows g R (having (plain v) o (λ p. arms_tried s o m inst w vals' rest arms other p)) o (at pc (x ∷ stack') fs)
    unfolding having
    tried_value arms c _ _ (plain_at {p}) n = tried arms c p n
    tried_value arms c _ _ link_at n = at_once (alike_unruled Configuration Machine R o _)
    tried_value arms c _ _ array_at n = at_once (alike_unruled Configuration Machine R o _)
    tried_value arms c _ _ element_at n = at_once (alike_unruled Configuration Machine R o _)
    tried_value arms c _ _ image_at n = at_once (alike_unruled Configuration Machine R o _)
    tried_value arms c _ _ (actual_at h) n = at_once (alike_unruled Configuration Machine R o _)
    tried_value arms c _ _ (procedure_at h) n = at_once (alike_unruled Configuration Machine R o _)

  when_hand : (arms : Arms) (other : Statements) (left : List Kind) → ks' ≡ left → ArmsAt s code (site_at t b u) (length left) arms (StmsAt s code (site_at t b u) (length left) other) pc q → (vs : List Val) (xs : List Value) → AllName s m vs → StackAt (HandAt s code m) (anys 1 left) vs xs → Follows g R (inspected_when s o m inst w vs rest arms other) o (at pc xs fs)
  unfolding pop_plain popping
  when_hand arms other left out c _ _ n (more_at {v = v} {vals = vals'} {x = x} {stack = stack'} h hs) = tried_value other left out vals' stack' hs arms c v x h n.0

  pub when_op : (arms : Arms) (other : Statements) → OpAt s code m fs inst (site_at t b u) (WhenOp arms other) pc q ks ks' → Follows g R (do_op s l o m inst w vals rest (WhenOp arms other)) o (at pc stack fs)
  when_op arms other c = when_hand arms other c.left c.out c.tried vals stack here.names (kinds_as s code c.«in» here.values)
