-- Statements.
use Rattle.std.proofs.Common.{◌≡◌, ℕ, zero, suc, Bool, true, false, List, ◌∷◌, length, Option, Some, None, refl, sym, ap, ◌∙◌, subst}
use Rattle.std.specs.Prelude.{pos}
use Rattle.sim_base.specs.declared.limits.Limits.{Limits}
use Rattle.sim_scope.specs.Levels.{level_beyond}
use Rattle.sim_scope.specs.Source.{Source, block_around, level_of, line_at}
use Rattle.sim_tree.specs.declared.expr.Identifier.{Identifier}
use Rattle.sim_tree.specs.declared.stmt.Activation.{Activation as Word}
use Rattle.sim_tree.specs.Syntax.{Also, Arms, Begin, Block, Expression, Expressions, NoDeclaration, NoStatement, RightSide, Schedule, Statement, Statements, With}
use Rattle.sim_tree.specs.Syntax as syntax
use Rattle.sim_code.specs.declared.instr.Instr.TheVariants as i
use Rattle.sim_code.specs.Code.{CodeOf}
use Rattle.sim_code.specs.Outcome.{Going, Run, World}
use Rattle.sim_code.specs.Events.{choosing, pop_truth, ticking}
use Rattle.sim_code.specs.Machine.{Frames, Machine, Value}
use Rattle.sim_code.specs.Machine as machine
use Rattle.sim_code.specs.Instances.{at_level}
use Rattle.sim_code.specs.Rows.{on_top}
use Rattle.sim_code.specs.Scheduling.{AtTime, Beside, Directly, Timing, WithDelay}
use Rattle.sim_code.proofs.Lifts.{alike_choosing, alike_ticking}
use Rattle.sim_code.proofs.Simulation.{Alike}
use Rattle.sim_meaning.specs.Closing.{class_parameters, close, close_parameters}
use Rattle.sim_meaning.specs.Meaning.{do_op}
use Rattle.sim_meaning.specs.Pending.{Activation, ActivateOp, BackOp, BlockOp, BranchOp, ChooseOp, Configuration, ConnectOp, Do, DropOp, EnterOp, Eval, Exec, Execs, Instances, Item, Op, PastOp, PrefixedOp, TestOp, Val, WhenOp, plain}
use Rattle.sim_meaning.specs.Statements.{activated, assigned, assigning, begin_of, compound, dropping, entered_at, is_again, is_said, leaves, lefts, operand_work, prefix_begun, simulation_around, simulation_home, timing}
use Rattle.sim_meaning.specs.Steps.{count, each, go}
use Rattle.codegen_expr.specs.Sites.{Ahead, At, Inside, Is, block_number}
use Rattle.codegen_expr.specs.CodeExpr.{ExprAt}
use Rattle.codegen.specs.Agrees.{Agrees}
use Rattle.codegen.specs.CodeLeft.{AssignAt, GoesAt, each_stored}
use Rattle.codegen.specs.CodeStm.{ActivatesAt, BlockAt, CalledAt, DropsAt, EnterAt, OperandAt as ScheduleAt, PrefixedAt, StmAt, StmsAt, activation_number}
use Rattle.sim_relate.proofs.Known.{Any, Finds, HandAt, Kind, LinkOf, Reaches, anys, given, site_at, gives, leaves_as, Runs, Settled}
use Rattle.sim_relate.proofs.Trees.{TermAt}
use Rattle.sim_relate.proofs.Operations.{operands_of}
use Rattle.sim_relate.proofs.Relation.{BeginsAt, ChainAt, OpAt, StateAt, WorkAt, straight}
use Rattle.sim_relate.proofs.Called.{called_dot_at, called_named_at}
use Rattle.sim_relate.proofs.Closing.{close_at, close_parameters_at}
use Rattle.sim_relate.proofs.Hands.{hand_truth}
use Rattle.sim_relate.proofs.Here.{Here, act, at_row, goes, kinds_as, there_of, with_values}
use Rattle.sim_relate.proofs.Lefts.{goes_at, lefts_at}
use Rattle.sim_relate.proofs.Living.{reach_found}
use Rattle.sim_relate.proofs.Operators.{jumps_ahead, jumps_back, same_plain}
use Rattle.sim_relate.proofs.Pending.{each_pends, evals, pends}
use Rattle.sim_scope.specs.Assignments.{last_value, left_sides}
use Rattle.sim_relate.proofs.Shapes.{Leaves, dot_call_leaves, named_call_leaves, new_leaves}

module _ (s : Source) (code : CodeOf) (l : Limits) (agrees : Agrees s) (o : World) (m : Instances) (inst : ℕ) (w : List Item) (vals : List Val) (rest : List Activation) (fs : Frames) (t : ℕ) (b : Runs) (pc : ℕ) (stack : List Value) (below : List machine.Activation) (ks : List Kind) (here : Here s code m fs inst rest t b ks vals stack) (u q : ℕ) (ks' : List Kind) (low : Settled s code t b u) (k : WorkAt s code m fs (λ v. ChainAt s code m fs rest v below) inst t b u w q ks') where
  abbrev pub R : Configuration → Machine → Type 0
  R = StateAt s code

  abbrev pub top : machine.Activation
  top = act inst pc stack b

  abbrev pub Follows : Op → Type 0
  Follows op = OpAt s code m fs inst (site_at t b u) op pc q ks ks' → Alike R (do_op s l o m inst w vals rest op) (on_top code l o fs top below)

  abbrev pub FollowsStatement : Statement → Type 0
  FollowsStatement x = BeginsAt s code m fs inst (site_at t b u) (Exec x) pc q ks ks' → Alike R (do_op s l o m inst w vals rest (Exec x)) (on_top code l o fs top below)

  abbrev pub Rests : List Item → ℕ → List Kind → Type 0
  Rests x p before = WorkAt s code m fs (λ v. ChainAt s code m fs rest v below) inst t b u x p before

  pub pending : (x : List Item) (op : Op) (p p' : ℕ) (before behind : List Kind) → OpAt s code m fs inst (site_at t b u) op p p' before behind → Rests x p' behind → Rests (Do op ∷ x) p before
  pending x op p p' before behind a r = pends s code m fs (λ v. ChainAt s code m fs rest v below) inst t b u low x op p p' before behind a r

  pub reaching : (v : ℕ) → Inside s.tables t v → Finds s m inst v
  reaching v ins = reach_found s m inst t v agrees here.stands here.lives ins

  -- an expression that is closed now
  pub closing : (x : List Item) (e : Expression) (p p' : ℕ) (before : List Kind) → ExprAt s code (site_at t b u) (length before) e p p' → Rests x p' (Any ∷ before) → Rests (Do (Eval (close s m inst e)) ∷ x) p before
  closing x e p p' before a r = evals s code m fs (λ v. ChainAt s code m fs rest v below) inst t b u low x (close s m inst e) p p' before (close_at s code m inst (site_at t b u) agrees reaching e (length before) p p' a) r

  pub rests_as : {before : List Kind} → ks' ≡ before → Rests w q before
  rests_as e = subst (λ z. Rests w q z) e k

  -- where the machine stands at p, with the same values in hand
  pub stays : {p : World} (x : List Item) (place : ℕ) {next : ℕ} → Rests x place ks → place ≡ next → Alike R (go p m inst x vals rest) (Going p (record { chain = act inst next stack b ∷ below; memory = fs }))
  stays x place r e = goes s code u place (there_of s code here) r e

  -- a tick, and then
  pub ticks : (r : World → Run Configuration) (p : ℕ) → Is code i.Tick pc p → ((x : World) → Alike R (r x) (Going x (record { chain = act inst p stack b ∷ below; memory = fs }))) → Alike R (ticking l o r) (on_top code l o fs top below)
  ticks r p a f = at_row s code l o fs top below _ i.Tick a.line p a.is
      (alike_ticking Configuration Machine R l o _ _ (λ x. subst (λ z. Alike R (r x) (Going x (record { chain = act inst z stack b ∷ below; memory = fs }))) a.is.on (f x)))

  -- a test: the jump is taken where it is false
  pub tests : (left : List Kind) (z x : ℕ) (on_true on_false : List Item) → ks ≡ anys 1 left → Is code (i.JumpF (pos x)) pc z → Ahead code pc x → Rests on_true z left → Rests on_false x left → (r : Bool → List Val → Run Configuration) → ((c : Bool) (vals' : List Val) → r c vals' ≡ choosing c (go o m inst on_true vals' rest) (go o m inst on_false vals' rest))
      → Alike R (pop_truth plain vals o r) (on_top code l o fs top below)
  tests left z x on_true on_false e jump ahead ryes rno r same =
      at_row s code l o fs top below _ (i.JumpF (pos x)) jump.line z jump.is
      (hand_truth Configuration Machine R Val Value (HandAt s code m) plain machine.plain same_plain left vals stack o r _ (kinds_as s code e here.values)
      (λ c vals' stack' h. subst (λ y. Alike R y (choosing c (machine.on o fs top stack' below) (machine.jumping code pc (pos x) o (λ q. machine.at o fs top q stack' below)))) (sym (same c vals'))
      (alike_choosing Configuration Machine R c _ _ _ _
      (goes s code u z (with_values s code here h) ryes jump.is.on)
      (jumps_ahead s code l o m inst w vals rest fs t b pc stack below ks here o x _ _ ahead (goes s code u x (with_values s code here h) rno refl)))))

  -- ---- calls

  drops : (g : Bool) (x : ℕ) → DropsAt code g x q → ks' ≡ ks → Rests (dropping g w) x (given g ks)
  drops true x a e = pending w DropOp x q (Any ∷ ks) ks' (record { line = a.line; works = record { is = a.is; left = ks; «in» = refl; out = e } }) k
  drops false x a e = subst (λ z. Rests w z ks) a (rests_as e)

  calls : (p : World) (e : Expression) (y x : ℕ) → TermAt s code m inst (site_at t b u) (length ks) (close s m inst e) y x → leaves s e ≡ gives s (close s m inst e) → Leaves s m inst (close s m inst e) → DropsAt code (leaves s e) x q → ks' ≡ ks → Alike R (go p m inst (Do (Eval (close s m inst e)) ∷ dropping (leaves s e) w) vals rest) (Going p (record { chain = act inst y stack b ∷ below; memory = fs }))
  calls p e y x c same so d out =
      stays (Do (Eval (close s m inst e)) ∷ dropping (leaves s e) w) y
      (pending (dropping (leaves s e) w) (Eval (close s m inst e)) y x ks (given (leaves s e) ks) (c, leaves_as s (close s m inst e) ks (given (leaves s e) ks) (ap (λ g. given g ks) same ∙ sym (so ks))) (drops (leaves s e) x d out)) refl

  called : (p : World) (e : Expression) (y x : ℕ) → CalledAt s code (site_at t b u) (length ks) e y x → DropsAt code (leaves s e) x q → ks' ≡ ks → Alike R (go p m inst (Do (Eval (close s m inst e)) ∷ dropping (leaves s e) w) vals rest) (Going p (record { chain = act inst y stack b ∷ below; memory = fs }))
  called p (syntax.Named name es) y x a d e =
      let c = called_named_at s code m inst (site_at t b u) agrees reaching name es (length ks) y x a in
      calls p (syntax.Named name es) y x c.0 (sym c.1) (named_call_leaves s m inst name es) d e
  called p (syntax.If token c z y') y x a d e = absurd a
  called p (syntax.Binary op token z y') y x a d e = absurd a
  called p (syntax.Not token z) y x a d e = absurd a
  called p (syntax.Signed n token z) y x a d e = absurd a
  called p (syntax.Member member token z class) y x a d e = absurd a
  called p (syntax.Dot token z name es) y x a d e =
      let c = called_dot_at s code m inst (site_at t b u) agrees reaching token z name es (length ks) y x a in
      calls p (syntax.Dot token z name es) y x c.0 (sym c.1) (dot_call_leaves s m inst token z name es) d e
  called p (syntax.Qua token z class) y x a d e = absurd a
  called p (syntax.Constant z token) y x a d e = absurd a
  called p (syntax.This token class) y x a d e = absurd a
  called p (syntax.New token class es) y x a d e =
      let c = close_at s code m inst (site_at t b u) agrees reaching (syntax.New token class es) (length ks) y x a in
      calls p (syntax.New token class es) y x c.0 (sym c.1) (new_leaves s m inst token class es) d e
  called p (syntax.Parentheses token z) y x a d e = absurd a

  pub call_statement : (e : Expression) → FollowsStatement (syntax.Call e)
  call_statement e a = let x = a.0 in ticks _ x.0 x.2 (λ p. called p e x.0 x.1 x.3 x.4 a.1)

  -- ---- assignments

  assigned_at : (p : World) (left : Expression) (rs : List RightSide) (y : ℕ) → AssignAt s code (site_at t b u) (length ks) (each_stored s (left_sides left rs)) (last_value left rs) y q → ks' ≡ ks
      → Alike R (assigned s p m inst w vals rest (lefts s m inst (left_sides left rs)) (last_value left rs)) (Going p (record { chain = act inst y stack b ∷ below; memory = fs }))
  assigned_at p left rs y a e =
      let es = left_sides left rs in
      let x = last_value left rs in
      let r = lefts_at s code m inst t b u agrees reaching fs (λ v. ChainAt s code m fs rest v below) low es (GoesAt s code (site_at t b u) x (each_stored s es)) ks y q a in
      subst (λ z. Alike R (assigned s p m inst w vals rest z x) (Going p (record { chain = act inst y stack b ∷ below; memory = fs }))) (sym r.is)
      (stays _ y (r.works (Do (Eval (close s m inst x)) ∷ Do (assigning r.found.targets) ∷ w)
      (goes_at s code m inst t b u agrees reaching fs (λ v. ChainAt s code m fs rest v below) low x (each_stored s es) r.found.targets r.kinds w r.y q ks r.fit r.ends (rests_as e))) refl)

  pub assign_statement : (left : Expression) (rs : List RightSide) → FollowsStatement (syntax.Assign left rs)
  assign_statement left rs a = let x = a.0 in ticks _ x.0 x.1 (λ p. assigned_at p left rs x.0 x.2 a.1)

  -- ---- blocks

  entered : (p : World) (o' : Option ℕ) (line y : ℕ) → EnterAt s code (site_at t b u) line o' y q → ks' ≡ ks → Alike R (entered_at p m inst w vals rest o' line) (Going p (record { chain = act inst y stack b ∷ below; memory = fs }))
  entered p None line y a e = absurd a
  entered p (Some zero) line y a e = absurd a
  entered p (Some (suc n)) line y a e = stays (Do (EnterOp (suc n) line) ∷ w) y (pending w (EnterOp (suc n) line) y q ks ks' (a.1, a.0, e) k) refl

  block_at : (p : World) (x : Block) (y : ℕ) → BlockAt s code (site_at t b u) (length ks) x y q → ks' ≡ ks → Alike R (compound s p m inst w vals rest x) (Going p (record { chain = act inst y stack b ∷ below; memory = fs }))
  block_at p (Begin token NoDeclaration ss end) y a e = stays (Do (Execs ss) ∷ w) y (pending w (Execs ss) y q ks ks' (a, e) k) refl
  block_at p (Begin token (With d ds) ss end) y a e = entered p (block_around s token) (line_at s token) y a e

  pub compound_statement : (x : Block) → FollowsStatement (syntax.Compound x)
  compound_statement x a = let y = a.0 in ticks _ y.0 y.1 (λ p. block_at p x y.0 y.2 a.1)

  -- a block prefix: its actual parameters, then the entry
  prefixed : (p : World) (class : Identifier) (es : Expressions) (o' : Option ℕ) (y : ℕ) → PrefixedAt s code (site_at t b u) (length ks) (line_at s class.token.0) es o' y q → ks' ≡ ks → Alike R (prefix_begun s p m inst w vals rest class es o') (Going p (record { chain = act inst y stack b ∷ below; memory = fs }))
  prefixed p class es None y a e = absurd a
  prefixed p class es (Some zero) y a e = absurd a
  prefixed p class es (Some (suc n)) y a e =
      let line = line_at s class.token.0 in
      let behind = agrees.prefixed (suc n) a.is in
      let fs' = class_parameters s (Some (suc n)) in
      let terms = close_parameters s m inst line es fs' in
      let r = close_parameters_at s code m inst (site_at t b u) agrees reaching line es fs' (length ks) y a.x a.actuals in
      stays (each terms (Do (PrefixedOp (suc n) (count terms) line) ∷ w)) y
      (each_pends s code m fs (λ v. ChainAt s code m fs rest v below) inst t b u low (Do (PrefixedOp (suc n) (count terms) line) ∷ w) terms y a.x ks r.0
      (pending w (PrefixedOp (suc n) (count terms) line) a.x q (anys (count terms) ks) ks' (record {
        is = subst (λ c. At code (i.Pref (pos (block_number s (suc n))) (pos c)) line a.x q) r.1 a.enter;
        stands_in = a.around;
        has = behind.0;
        no_class = behind.1;
        prefixed = a.is;
        «in» = ap (anys (count terms)) (sym e);
      }) k)) refl

  pub prefixed_statement : (class : Identifier) (es : Expressions) (x : Block) → FollowsStatement (syntax.Prefixed class es x)
  prefixed_statement class es x a = let y = a.0 in ticks _ y.0 y.1 (λ p. prefixed p class es (block_around s (begin_of x)) y.0 y.2 a.1)

  -- ---- choices

  pub choose_statement : (token : ℕ) (c : Expression) (x : Statement) (y : Statements) → FollowsStatement (syntax.Choose token c x y)
  choose_statement token c x NoStatement a =
      let z = a.0 in
      let h = z.2 in
      ticks _ z.0 z.1 (λ p. stays (Do (Eval (close s m inst c)) ∷ Do (ChooseOp x NoStatement) ∷ w) z.0
      (closing (Do (ChooseOp x NoStatement) ∷ w) c z.0 h.y ks h.test
      (pending w (ChooseOp x NoStatement) h.y q (Any ∷ ks) ks' (record { chosen = (h.z, h.jump, h.leads, subst (λ n. StmAt s code (site_at t b u) n x h.z q) (ap length (sym a.1)) h.first); «in» = ap (λ z. Any ∷ z) (sym a.1) }) k)) refl)
  choose_statement token c x (Also y more) a =
      let z = a.0 in
      let h = z.2 in
      let n = ap length (sym a.1) in
      ticks _ z.0 z.1 (λ p. stays (Do (Eval (close s m inst c)) ∷ Do (ChooseOp x (Also y more)) ∷ w) z.0
      (closing (Do (ChooseOp x (Also y more)) ∷ w) c z.0 h.y ks h.test
      (pending w (ChooseOp x (Also y more)) h.y q (Any ∷ ks) ks' (record {
        chosen = record { z = h.z; w = h.w; x = h.x; jump = h.jump; leads = h.leads; first = subst (λ n. StmAt s code (site_at t b u) n x h.z h.w) n h.first; over = h.over; past = h.past; second = subst (λ n. StmsAt s code (site_at t b u) n (Also y more) h.x q) n h.second };
        «in» = ap (λ z. Any ∷ z) (sym a.1);
      }) k)) refl)

  pub chosen_statement : (x : Statement) (y : Statements) → Follows (ChooseOp x y)
  chosen_statement x NoStatement a =
      let h = a.chosen in
      tests ks' h.0 q (Do (Exec x) ∷ w) (Do (Execs NoStatement) ∷ w) a.«in» h.1 h.2 (pending w (Exec x) h.0 q ks' ks' (straight h.3, refl) k) (pending w (Execs NoStatement) q q ks' ks' (refl, refl) k) _ (λ c vals'. refl)
  chosen_statement x (Also y more) a =
      let h = a.chosen in
      tests ks' h.z h.x (Do (Exec x) ∷ Do PastOp ∷ w) (Do (Execs (Also y more)) ∷ w) a.«in» h.jump h.leads
      (pending (Do PastOp ∷ w) (Exec x) h.z h.w ks' ks' (straight h.first, refl) (pending w PastOp h.w q ks' ks' (h.x, h.over, h.past, refl) k)) (pending w (Execs (Also y more)) h.x q ks' ks' (h.second, refl) k) _ (λ c vals'. refl)

  -- ---- connections

  pub inspect_statement : (token : ℕ) (e : Expression) (opening : ℕ) (x : Statement) (end : ℕ) (other : Statements) → FollowsStatement (syntax.Inspect token e opening x end other)
  inspect_statement token e opening x end other a =
      let z = a.0 in
      let h = z.2 in
      ticks _ z.0 z.1 (λ p. stays (Do (Eval (close s m inst e)) ∷ Do (ConnectOp opening x other) ∷ w) z.0
      (closing (Do (ConnectOp opening x other) ∷ w) e z.0 h.a ks h.object
      (pending w (ConnectOp opening x other) h.a q (Any ∷ ks) ks' (record {
        left = ks;
        b = h.b;
        c = h.c;
        d = h.d;
        e = h.e;
        f = h.f;
        g = h.g;
        y = h.y;
        z = h.z;
        again = h.again;
        none = h.none;
        same = h.same;
        other_than = h.other;
        jump = h.jump;
        leads = h.leads;
        connected = h.connected;
        over = h.over;
        past = h.past;
        dropped = h.dropped;
        otherwise = h.otherwise;
        «in» = refl;
        out = a.1;
      }) k)) refl)

  pub inspect_when_statement : (token : ℕ) (e : Expression) (arms : Arms) (other : Statements) → FollowsStatement (syntax.InspectWhen token e arms other)
  inspect_when_statement token e arms other a =
      let z = a.0 in
      ticks _ z.0 z.2 (λ p. stays (Do (Eval (close s m inst e)) ∷ Do (WhenOp arms other) ∷ w) z.0
      (closing (Do (WhenOp arms other) ∷ w) e z.0 z.1 ks z.3
      (pending w (WhenOp arms other) z.1 q (Any ∷ ks) ks' (record { left = ks; tried = z.4; «in» = refl; out = a.1 }) k)) refl)

  -- ---- activations

  module _ (again : Bool) (line : ℕ) (out : ks' ≡ ks) (text block : ℕ) (reaches : Reaches s m inst text block) where
    does_rest : (timing : Timing) (z : ℕ) → At code (i.Act (pos (activation_number again timing))) line z q → Rests (Do (ActivateOp again timing line) ∷ w) z (anys (operands_of timing) (LinkOf block ∷ ks))
    does_rest timing z does = pending w (ActivateOp again timing line) z q (anys (operands_of timing) (LinkOf block ∷ ks)) ks (record { is = does; text = text; block = block; reaches = reaches; «in» = refl }) (rests_as out)

    -- the operand, if there is one, is on top of the process
    operand_rests : (x : Schedule) (y z : ℕ) → ScheduleAt s code (site_at t b u) (suc (suc (length ks))) x y z → At code (i.Act (pos (activation_number again (timing x)))) line z q → Rests (operand_work s m inst x (Do (ActivateOp again (timing x) line) ∷ w)) y (Any ∷ LinkOf block ∷ ks)
    operand_rests syntax.Now y z a does = subst (λ z. Rests (Do (ActivateOp again Directly line) ∷ w) z (Any ∷ LinkOf block ∷ ks)) a (does_rest Directly z does)
    operand_rests (syntax.At token e prior) y z a does = closing (Do (ActivateOp again (AtTime (is_said prior)) line) ∷ w) e y z (Any ∷ LinkOf block ∷ ks) a (does_rest (AtTime (is_said prior)) z does)
    operand_rests (syntax.Delay token e prior) y z a does = closing (Do (ActivateOp again (WithDelay (is_said prior)) line) ∷ w) e y z (Any ∷ LinkOf block ∷ ks) a (does_rest (WithDelay (is_said prior)) z does)
    operand_rests (syntax.Before token e) y z a does = closing (Do (ActivateOp again (Beside true) line) ∷ w) e y z (Any ∷ LinkOf block ∷ ks) a (does_rest (Beside true) z does)
    operand_rests (syntax.After token e) y z a does = closing (Do (ActivateOp again (Beside false) line) ∷ w) e y z (Any ∷ LinkOf block ∷ ks) a (does_rest (Beside false) z does)

  activates : (p : World) (token : ℕ) (word : Word) (e : Expression) (schedule : Schedule) (y : ℕ) → ks' ≡ ks → (around : Option ℕ) → ActivatesAt s code (site_at t b u) (length ks) (line_at s token) around (is_again word) e schedule y q
      → Alike R (activated s p m inst w vals rest (level_beyond (λ k. at_level m (level_of s k) inst) around) token word e schedule) (Going p (record { chain = act inst y stack b ∷ below; memory = fs }))
  activates p token word e schedule y out None a = absurd a
  activates p token word e schedule y out (Some n) a =
      let r = reaching n a.inside in
      let block = r.0 in
      let line = line_at s token in
      let work = operand_work s m inst schedule (Do (ActivateOp (is_again word) (timing schedule) line) ∷ w) in
      subst (λ z. Alike R (activated s p m inst w vals rest z token word e schedule) (Going p (record { chain = act inst y stack b ∷ below; memory = fs }))) (sym r.2)
      (stays (Do (BlockOp block) ∷ Do (Eval (close s m inst e)) ∷ work) y
      (pending (Do (Eval (close s m inst e)) ∷ work) (BlockOp block) y a.x ks (LinkOf block ∷ ks) (record { text = n; link = a.link; reaches = r.1; out = refl })
      (closing work e a.x a.y (LinkOf block ∷ ks) a.process
      (operand_rests (is_again word) line out n block r.1 schedule a.y a.z a.operand a.does))) refl)

  pub activate_statement : (token : ℕ) (word : Word) (e : Expression) (schedule : Schedule) → FollowsStatement (syntax.Activate token word e schedule)
  unfolding simulation_home
  activate_statement token word e schedule a =
      let z = a.0 in
      ticks _ z.0 z.1 (λ p. activates p token word e schedule z.0 a.1 (simulation_around s token) z.2)

  -- ---- loops

  pub repeat_statement : (token : ℕ) (c : Expression) (x : Statement) → FollowsStatement (syntax.Repeat token c x)
  repeat_statement token c x a = let z = a.0 in ticks _ z.0 z.3 (λ p. stays (Do (TestOp c x) ∷ w) z.0 (pending w (TestOp c x) z.0 q ks ks' (z.1, z.2, z.4, a.1) k) refl)

  pub test : (c : Expression) (x : Statement) → Follows (TestOp c x)
  test c x a =
      let h = a.2 in
      let n = ap length (sym a.3) in
      ticks _ h.x h.tick (λ p. stays (Do (Eval (close s m inst c)) ∷ Do (BranchOp x (BackOp (TestOp c x))) ∷ w) h.x
      (closing (Do (BranchOp x (BackOp (TestOp c x))) ∷ w) c h.x a.0 ks h.test
      (pending w (BranchOp x (BackOp (TestOp c x))) a.0 q (Any ∷ ks) ks' (record {
        z = h.z;
        w = a.1;
        jump = h.jump;
        leads = h.leads;
        turn = straight (subst (λ n. StmAt s code (site_at t b u) n x h.z a.1) n h.body);
        next = record { t = pc; x = q; u = h.x; jump = h.back; back = h.behind; tick = h.tick; next = subst (λ z. OpAt s code m fs inst (site_at t b u) (TestOp c x) pc q z z) (sym a.3) (a.0, a.1, a.2, refl) };
        «in» = ap (λ z. Any ∷ z) (sym a.3);
      }) k)) refl)

  pub branch : (x : Statement) (next : Op) → Follows (BranchOp x next)
  branch x next a = tests ks' a.z q (Do (Exec x) ∷ Do next ∷ w) w a.«in» a.jump a.leads
      (pending (Do next ∷ w) (Exec x) a.z a.w ks' ks' (a.turn, refl) (pending w next a.w q ks' ks' a.next k)) k _ (λ c vals'. refl)

  pub back : (op : Op) → Follows (BackOp op)
  back op a = at_row s code l o fs top below _ (i.Jump (pos a.t)) a.jump.line a.x a.jump.is
      (jumps_back s code l o m inst w vals rest fs t b pc stack below ks here o a.t a.u _ _ a.back a.tick (stays (Do op ∷ w) a.t (pending w op a.t q ks ks' a.next k) refl))
