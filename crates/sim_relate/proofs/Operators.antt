-- The operators of expressions and the instructions that stand for them.
use Rattle.std.proofs.Common.{◌≡◌, ◌<◌, ◌≤◌, ℕ, zero, suc, Bool, true, false, List, [], ◌∷◌, length, Some, None, refl, sym, ap, ◌∙◌, subst, arith}
use Rattle.std.specs.Prelude.{nat_lt, pos, slice_get, if◌then◌else◌}
use Rattle.sim_base.specs.declared.limits.Limits.{Limits}
use Rattle.sim_scope.specs.Source.{Source, level_of}
use Rattle.sim_values.specs.declared.operators.Calculation.TheVariants as calculation
use Rattle.sim_values.specs.declared.operators.Comparison.TheVariants as comparison
use Rattle.sim_values.specs.declared.operators.Connective.TheVariants as connective
use Rattle.sim_values.specs.declared.operators.Dyadic.{Dyadic}
use Rattle.sim_values.specs.declared.operators.Dyadic.TheVariants as dyadic
use Rattle.sim_values.specs.declared.operators.Monadic.{Monadic}
use Rattle.sim_values.specs.declared.operators.Monadic.TheVariants as monadic
use Rattle.sim_values.specs.Plain.{Character, Integer, Nothing, Object, Plain, Text, Truth, MainOf}
use Rattle.sim_code.specs.declared.instr.Instr.TheVariants as i
use Rattle.sim_code.specs.declared.instr.Lined.{Lined}
use Rattle.sim_code.specs.Code.{CodeOf}
use Rattle.sim_code.specs.Outcome.{Going, Run, World}
use Rattle.sim_code.specs.Events.{having, no_rule, when}
use Rattle.sim_code.specs.Instances.{at_level}
use Rattle.sim_code.specs.Machine.{Frames, Machine, Value, index, is_there, is_tick, jumping, level, number, pushing}
use Rattle.sim_code.specs.Machine as machine
use Rattle.sim_code.specs.Rows.{code_of, on_top, one_row, row, truth_of, two_row, text_value}
use Rattle.sim_code.specs.Rows as rows
use Rattle.sim_code.proofs.Lifts.{alike_choosing, alike_copying, alike_equal, alike_found, alike_having}
use Rattle.sim_code.proofs.Simulation.{Alike}
use Rattle.sim_meaning.specs.Meaning.{do_op}
use Rattle.sim_meaning.specs.Pending.{Activation, AgainOp, Cell, Configuration, CopyOp, Do, DropOp, ElementOp, Eval, Given, IfOp, Instances, Item, Key, OneOp, Op, PastOp, Term, TwoOp, Val, array_in, cell, plain, ImageOf, PlaceOf}
use Rattle.sim_meaning.specs.Pending as meaning
use Rattle.sim_meaning.specs.Steps.{go}
use Rattle.codegen_expr.specs.Sites.{Ahead, HasCell, Is, frame_text, slot_of}
use Rattle.codegen_expr.specs.CodeExpr.{one_instr, two_instr}
use Rattle.sim_relate.proofs.Known.{actual_at, Any, HandAt, Kind, StackAt, ValAt, anys, array_at, element_at, link_at, more_at, plain_at, site_at, IsImage, image_at, of_input, of_output, Reaches, Runs, Settled, procedure_at}
use Rattle.sim_relate.proofs.Trees.{OperandAt, TextIs, empty, listed}
use Rattle.sim_relate.proofs.Relation.{ChainAt, OpAt, StateAt, WorkAt}
use Rattle.sim_relate.proofs.Hands.{hand_finding, hand_one, hand_popping, hand_truth, hand_two, stack_length}
use Rattle.sim_relate.proofs.Here.{Here, act, at_row, goes, kinds_as, with_values}
use Rattle.sim_relate.proofs.Living.{found_lives, lives_now, reached}
use Rattle.sim_relate.proofs.Pending.{anys_more, evals, pends}
use Rattle.sim_relate.proofs.Stores.{cell_read, cell_there, levels_same}
use Rattle.sim_values.specs.declared.value.TextVal.{TextVal}
use Rattle.sim_values.specs.Texts.{notext}
use Rattle.sim_values.specs.Store.{image_at as image_of}
use Rattle.sim_meaning.specs.Constants.{constants_of}

-- the row of an operator's instruction is the operator's
row_two : (code : CodeOf) (l : Limits) (o : World) (fs : Frames) (a : machine.Activation) (below : List machine.Activation) (line : ℕ) (op : Dyadic) → row code l o fs a below line (two_instr op) ≡ two_row o fs a below line op
unfolding having
row_two code l o fs a below line (dyadic.Calculate calculation.Add) = refl
row_two code l o fs a below line (dyadic.Calculate calculation.Subtract) = refl
row_two code l o fs a below line (dyadic.Calculate calculation.Multiply) = refl
row_two code l o fs a below line (dyadic.Calculate calculation.Divide) = refl
row_two code l o fs a below line (dyadic.Calculate calculation.Power) = refl
row_two code l o fs a below line (dyadic.Compare comparison.Less) = refl
row_two code l o fs a below line (dyadic.Compare comparison.LessOrEqual) = refl
row_two code l o fs a below line (dyadic.Compare comparison.Equal) = refl
row_two code l o fs a below line (dyadic.Compare comparison.GreaterOrEqual) = refl
row_two code l o fs a below line (dyadic.Compare comparison.Greater) = refl
row_two code l o fs a below line (dyadic.Compare comparison.NotEqual) = refl
row_two code l o fs a below line (dyadic.CompareTexts comparison.Less) = refl
row_two code l o fs a below line (dyadic.CompareTexts comparison.LessOrEqual) = refl
row_two code l o fs a below line (dyadic.CompareTexts comparison.Equal) = refl
row_two code l o fs a below line (dyadic.CompareTexts comparison.GreaterOrEqual) = refl
row_two code l o fs a below line (dyadic.CompareTexts comparison.Greater) = refl
row_two code l o fs a below line (dyadic.CompareTexts comparison.NotEqual) = refl
row_two code l o fs a below line (dyadic.Connect connective.And) = refl
row_two code l o fs a below line (dyadic.Connect connective.Or) = refl
row_two code l o fs a below line (dyadic.Connect connective.Implies) = refl
row_two code l o fs a below line (dyadic.Connect connective.Equivalent) = refl
row_two code l o fs a below line dyadic.SameObject = refl
row_two code l o fs a below line dyadic.SameText = refl

row_one : (code : CodeOf) (l : Limits) (o : World) (fs : Frames) (a : machine.Activation) (below : List machine.Activation) (line : ℕ) (op : Monadic) → row code l o fs a below line (one_instr op) ≡ one_row o fs a below line op
row_one code l o fs a below line monadic.Negate = refl
row_one code l o fs a below line monadic.Not = refl

-- related values tell the same
pub same_plain : {s : Source} {code : CodeOf} {m : Instances} (v : Val) (x : Value) → ValAt s code m v x → plain v ≡ machine.plain x
same_plain _ _ plain_at = refl
same_plain _ _ link_at = refl
same_plain _ _ array_at = refl
same_plain _ _ element_at = refl
same_plain _ _ image_at = refl
same_plain _ _ (actual_at h) = refl
same_plain _ _ (procedure_at h) = refl

pub same_array : {s : Source} {code : CodeOf} {m : Instances} (v : Val) (x : Value) → ValAt s code m v x → array_in v ≡ machine.array_in x
same_array _ _ plain_at = refl
same_array _ _ link_at = refl
same_array _ _ array_at = refl
same_array _ _ element_at = refl
same_array _ _ image_at = refl
same_array _ _ (actual_at h) = refl
same_array _ _ (procedure_at h) = refl

pub chosen : {A : Type 0} (P : A → Type 0) (b : Bool) (x y : A) → b ≡ true → P x → P (if b then x else y)
chosen P true x y e h = h
chosen P false x y e h = absurd (cc)

pub is_instr : (xs : List Lined) (j : ℕ) → j < length xs → is_there (slice_get xs j) ≡ true
is_instr [] j lt = absurd (let e : ⊥ = omega (arith, lt) in e)
is_instr (x ∷ xs) zero lt = refl
is_instr (x ∷ xs) (suc j) lt = is_instr xs j (omega (arith, lt))

module _ (s : Source) (code : CodeOf) (l : Limits) (o : World) (m : Instances) (inst : ℕ) (w : List Item) (vals : List Val) (rest : List Activation) (fs : Frames) (t : ℕ) (b : Runs) (pc : ℕ) (stack : List Value) (below : List machine.Activation) (ks : List Kind) (here : Here s code m fs inst rest t b ks vals stack) where
  abbrev pub R : Configuration → Machine → Type 0
  R = StateAt s code

  abbrev pub top : machine.Activation
  top = act inst pc stack b

  -- a value is pushed where there is room
  pub room_is : length ks < b.limit → nat_lt (length stack) b.room ≡ true
  room_is lt =
      let e = stack_length ks vals stack here.values in
      let roomy = here.roomy in
      grind (arith, lt, e, roomy)

  pub pushes : (p : World) (x : Value) (r : Run Configuration) (go : List Value → Run Machine) → length ks < b.limit → Alike R r (go (x ∷ stack)) → Alike R r (pushing b.room stack x p go)
  unfolding pushing when
  pushes p x r go lt h = chosen (λ z. Alike R r z) (nat_lt (length stack) b.room) (go (x ∷ stack)) (no_rule p) (room_is lt) h

  -- a test that holds is passed
  pub passing_test : (p : World) (c : Bool) (r : Run Configuration) (z : Run Machine) → c ≡ true → Alike R r z → Alike R r (when c p z)
  unfolding when
  passing_test p c r z e h = chosen (λ y. Alike R r y) c z (no_rule p) e h

  -- a cell of an instance that is reached is one of its frame
  pub cell_reached : (j u : ℕ) (key : Key) → Reaches s m inst u j → frame_text s u ≡ u → HasCell s u key → machine.has_cell fs j (slot_of s code u key) ≡ true
  cell_reached j u key r own has =
      let now = lives_now m j (found_lives m (level_of s u) inst j here.lives (reached s m inst u j here.lives r)) in
      cell_there s code m fs j u key here.store r.stands now.0 now.1 own has

  -- jumps
  pub jumps_ahead : (p : World) (q : ℕ) (r : Run Configuration) (go : ℕ → Run Machine) → Ahead code pc q → Alike R r (go q) → Alike R r (jumping code pc (pos q) p go)
  unfolding jumping index having when
  jumps_ahead p q r go a h =
      let e : nat_lt pc q ≡ true = grind (arith, a.forward) in
      chosen (λ z. Alike R r z) (if nat_lt pc q then is_there (slice_get code.instrs q) else is_tick (slice_get code.instrs q)) (go q) (no_rule p) (chosen (λ z. z ≡ true) (nat_lt pc q) (is_there (slice_get code.instrs q)) (is_tick (slice_get code.instrs q)) e (is_instr code.instrs q a.there)) h

  pub jumps_back : (p : World) (t x : ℕ) (r : Run Configuration) (go : ℕ → Run Machine) → t ≤ pc → Is code i.Tick t x → Alike R r (go t) → Alike R r (jumping code pc (pos t) p go)
  unfolding jumping index having when
  jumps_back p t x r go le a h =
      let e : nat_lt pc t ≡ false = grind (arith, le) in
      let tick : is_tick (slice_get code.instrs t) ≡ true = ap is_tick a.is.at in
      chosen (λ z. Alike R r z) (if nat_lt pc t then is_there (slice_get code.instrs t) else is_tick (slice_get code.instrs t)) (go t) (no_rule p) (ap (λ z. if z then is_there (slice_get code.instrs t) else is_tick (slice_get code.instrs t)) e ∙ tick) h

  -- the frame of a level, and a cell there
  pub at_frame : (p : World) (z j : ℕ) (r : Run Configuration) (go : ℕ → Run Machine) → at_level m z inst ≡ Some j → Alike R r (go j) → Alike R r (level fs top (pos z) p go)
  unfolding level index
  at_frame p z j r go e h =
      alike_found Configuration Machine R ℕ (number (pos z)) z p r _ refl
      (alike_found Configuration Machine R ℕ (at_level fs z inst) j p r go (levels_same s code here.store z inst ∙ e) h)

  pub at_cell : (p : World) (z j c : ℕ) (r : Run Configuration) (go : ℕ → ℕ → Run Machine) → at_level m z inst ≡ Some j → Alike R r (go j c) → Alike R r (machine.cell_at fs top (pos z) (pos c) p go)
  unfolding machine.cell_at index
  at_cell p z j c r go e h = at_frame p z j r _ e (alike_found Configuration Machine R ℕ (number (pos c)) c p r _ refl h)

  pub alike_indexed : (n : ℕ) (r : Run Configuration) (go : ℕ → Run Machine) → Alike R r (go n) → Alike R r (index (pos n) o go)
  unfolding index
  alike_indexed n r go h = alike_found Configuration Machine R ℕ (number (pos n)) n o r go refl h

  module _ (u q : ℕ) (ks' : List Kind) (low : Settled s code t b u) (k : WorkAt s code m fs (λ v. ChainAt s code m fs rest v below) inst t b u w q ks') where
    abbrev pub Follows : Op → Type 0
    Follows op = OpAt s code m fs inst (site_at t b u) op pc q ks ks' → Alike R (do_op s l o m inst w vals rest op) (on_top code l o fs top below)

    -- the work that is pending, and an operator in front of it
    abbrev pub Rests : List Item → ℕ → List Kind → Type 0
    Rests x p before = WorkAt s code m fs (λ v. ChainAt s code m fs rest v below) inst t b u x p before

    pub pending : (x : List Item) (op : Op) (p p' : ℕ) (before behind : List Kind) → OpAt s code m fs inst (site_at t b u) op p p' before behind → Rests x p' behind → Rests (Do op ∷ x) p before
    pending x op p p' before behind a r = pends s code m fs (λ v. ChainAt s code m fs rest v below) inst t b u low x op p p' before behind a r

    pub first_evals : (x : List Item) (y : Term) (p p' : ℕ) (before : List Kind) → OperandAt s code m inst (site_at t b u) (length before) y p p' → Rests x p' (Any ∷ before) → Rests (Do (Eval y) ∷ x) p before
    first_evals x y p p' before a r = evals s code m fs (λ v. ChainAt s code m fs rest v below) inst t b u low x y p p' before a r

    -- the rest of the work, where kinds and place are known by other words
    pub rests_as : {before : List Kind} → ks' ≡ before → Rests w q before
    rests_as e = subst (λ z. Rests w q z) e k

    -- both go on behind the operator
    pub onward : {p : World} {ks2 : List Kind} {vals2 : List Val} {stack2 : List Value} {next : ℕ} → StackAt (HandAt s code m) ks2 vals2 stack2 → ks' ≡ ks2 → q ≡ next → Alike R (go p m inst w vals2 rest) (Going p (record { chain = act inst next stack2 b ∷ below; memory = fs }))
    onward h e place = goes s code u q (with_values s code here h) (rests_as e) place

    -- ---- values

    given_text : (texts : code.texts ≡ constants_of s) (x : TextVal) → TextIs s code (site_at t b u) (length ks) x pc q → ks' ≡ Any ∷ ks → Alike R (do_op s l o m inst w vals rest (Eval (Given (Text x)))) (on_top code l o fs top below)
    given_text texts x (listed c y) out =
        let there : slice_get code.texts x.text_frame ≡ Some c.bytes = ap (λ z. slice_get z x.text_frame) texts ∙ c.listed in
        let same : ValAt s code m (meaning.Of (Text x)) (machine.Of (text_value x.text_frame c.bytes)) = subst (λ z. ValAt s code m (meaning.Of (Text x)) (machine.Of z)) c.whole plain_at in
        at_row s code l o fs top below _ (i.TextK (pos x.text_frame)) y.is.line q y.is.is
        (alike_indexed x.text_frame _ _
        (alike_found Configuration Machine R (List ℕ) (slice_get code.texts x.text_frame) c.bytes o _ _ there
        (pushes o _ _ _ y.fits (onward (more_at same here.values) out y.is.is.on))))
    given_text texts x (empty e y) out =
        let same : ValAt s code m (meaning.Of (Text x)) (machine.Of (Text notext)) = subst (λ z. ValAt s code m (meaning.Of (Text x)) (machine.Of (Text z))) e plain_at in
        at_row s code l o fs top below _ i.NoText y.is.line q y.is.is (pushes o _ _ _ y.fits (onward (more_at same here.values) out y.is.is.on))

    pub constant : (texts : code.texts ≡ constants_of s) (v : Plain) → Follows (Eval (Given v))
    constant texts (Integer z) a = at_row s code l o fs top below _ (i.Int z) a.0.is.line q a.0.is.is (pushes o _ _ _ a.0.fits (onward (more_at plain_at here.values) a.1 a.0.is.is.on))
    constant texts (Truth true) a = at_row s code l o fs top below _ (i.Bool (pos 1)) a.0.is.line q a.0.is.is
        (alike_found Configuration Machine R Bool (truth_of (pos 1)) true o _ _ refl (pushes o _ _ _ a.0.fits (onward (more_at plain_at here.values) a.1 a.0.is.is.on)))
    constant texts (Truth false) a = at_row s code l o fs top below _ (i.Bool (pos 0)) a.0.is.line q a.0.is.is
        (alike_found Configuration Machine R Bool (truth_of (pos 0)) false o _ _ refl (pushes o _ _ _ a.0.fits (onward (more_at plain_at here.values) a.1 a.0.is.is.on)))
    constant texts (Character c) a =
        let x = (a.0).1 in
        let small : nat_lt c 256 ≡ true = grind (arith, (a.0).0) in
        at_row s code l o fs top below _ (i.Char (pos c)) x.is.line q x.is.is
        (alike_found Configuration Machine R ℕ (code_of (pos c)) c o _ _ (chosen (λ z. z ≡ Some c) (nat_lt c 256) (Some c) None small refl) (pushes o _ _ _ x.fits (onward (more_at plain_at here.values) a.1 x.is.is.on)))
    constant texts (Text x) a = given_text texts x a.0 a.1
    constant texts (Object j) a =
        let c = a.0 in
        at_row s code l o fs top below _ (i.This (pos (level_of s c.text))) c.push.is.line q c.push.is.is
        (at_frame o (level_of s c.text) j _ _ (reached s m inst c.text j here.lives c.reaches)
        (pushes o _ _ _ c.push.fits (onward (more_at plain_at here.values) a.1 c.push.is.is.on)))
    constant texts (MainOf j) a = absurd (a.0)
    constant texts Nothing a = at_row s code l o fs top below _ i.None a.0.is.line q a.0.is.is (pushes o _ _ _ a.0.fits (onward (more_at plain_at here.values) a.1 a.0.is.is.on))

    -- where a variable and an image lie
    pub place : (j : ℕ) (key : Key) → Follows (Eval (PlaceOf j key))
    place j key a =
        let c = a.0 in
        at_row s code l o fs top below _ (i.Addr (pos (level_of s c.text)) (pos (slot_of s code c.text key)) (pos 0)) c.address.is.line q c.address.is.is
        (alike_found Configuration Machine R (Unit {0}) (rows.no_class (pos 0)) tt o _ _ refl
        (at_cell o (level_of s c.text) j (slot_of s code c.text key) _ _ (reached s m inst c.text j here.lives c.reaches)
        (passing_test o (machine.has_cell fs j (slot_of s code c.text key)) _ _ (cell_reached j c.text key c.reaches c.own c.has)
        (pushes o _ _ _ c.address.fits
        (onward (more_at (record { instance = j; text = c.text; key = key; is_val = refl; is_value = refl; stands = c.reaches.stands; own = c.own; has = c.has; varies = c.varies; declared = c.declared }) here.values) a.1 c.address.is.is.on)))))

    image_there : (image : ℕ) → IsImage image → (x : TextVal) × (image_of o.store image ≡ Some x)
    image_there _ of_input = (o.store.sysin, refl)
    image_there _ of_output = (o.store.sysout, refl)

    pub image : (n : ℕ) → Follows (Eval (ImageOf n))
    image n a =
        let c = a.0 in
        let x = image_there n c.0 in
        at_row s code l o fs top below _ (i.AddrImg (pos n)) c.1.is.line q c.1.is.is
        (alike_indexed n _ _
        (alike_found Configuration Machine R TextVal (image_of o.store n) x.0 o _ _ x.1
        (pushes o _ _ _ c.1.fits (onward (more_at image_at here.values) a.1 c.1.is.is.on))))

    pub variable : (j : ℕ) (key : Key) → Follows (Eval (Cell j key))
    variable j key a =
        let c = a.0 in
        at_row s code l o fs top below _ (i.Load (pos (level_of s c.text)) (pos (slot_of s code c.text key))) c.load.is.line q c.load.is.is
        (at_cell o (level_of s c.text) j (slot_of s code c.text key) _ _ (reached s m inst c.text j here.lives c.reaches)
        (alike_having Configuration Machine R Val Value (ValAt s code m) (cell m j key) (machine.cell fs j (slot_of s code c.text key)) o _ _ (cell_read s code m fs j c.text key here.store c.reaches.stands c.own c.has c.varies)
        (λ v x ev ex h. pushes o x _ _ c.load.fits (onward (more_at h here.values) a.1 c.load.is.is.on))))

    -- ---- operators on plain values

    pub one : (op : Monadic) (line : ℕ) → Follows (OneOp op line)
    one op line a = at_row s code l o fs top below _ (one_instr op) line q a.is
        (subst (λ z. Alike R (do_op s l o m inst w vals rest (OneOp op line)) z) (sym (row_one code l o fs top below line op))
        (hand_one Configuration Machine R Val Value (HandAt s code m) plain machine.plain same_plain op line a.left vals stack o _ _ (kinds_as s code a.«in» here.values)
        (λ z vals' stack' h. onward (more_at plain_at h) a.out a.is.on)))

    pub two : (op : Dyadic) (line : ℕ) → Follows (TwoOp op line)
    two op line a = at_row s code l o fs top below _ (two_instr op) line q a.is
        (subst (λ z. Alike R (do_op s l o m inst w vals rest (TwoOp op line)) z) (sym (row_two code l o fs top below line op))
        (hand_two Configuration Machine R Val Value (HandAt s code m) plain machine.plain same_plain op line a.left vals stack o _ _ (kinds_as s code a.«in» here.values)
        (λ z vals' stack' h. onward (more_at plain_at h) a.out a.is.on)))

    pub choice : (x y : Term) → Follows (IfOp x y)
    choice x y a =
        let c = a.choice in
        at_row s code l o fs top below _ (i.JumpF (pos c.x)) c.jump.line c.z c.jump.is
        (hand_truth Configuration Machine R Val Value (HandAt s code m) plain machine.plain same_plain a.left vals stack o _ _ (kinds_as s code a.«in» here.values)
        (λ v vals' stack' h. alike_choosing Configuration Machine R v _ _ _ _
        (goes s code u c.z (with_values s code here h) (first_evals (Do PastOp ∷ w) x c.z c.w a.left c.first (pending w PastOp c.w q (anys 1 a.left) ks' (c.x, c.over, c.past, a.out) k)) c.jump.is.on)
        (jumps_ahead o c.x _ _ c.leads (goes s code u c.x (with_values s code here h) (first_evals w y c.x q a.left c.second (rests_as a.out)) refl))))

    pub past : Follows PastOp
    past a = at_row s code l o fs top below _ (i.Jump (pos q)) a.1.line a.0 a.1.is (jumps_ahead o q _ _ a.2 (onward here.values a.3 refl))

    -- ---- arrays

    pub element_op : (n line : ℕ) → Follows (ElementOp n line)
    element_op n line a = at_row s code l o fs top below _ (i.Elem (pos n) (pos 0)) line q a.is
        (alike_found Configuration Machine R (Unit {0}) (rows.no_class (pos 0)) tt o _ _ refl
        (alike_indexed n _ _
        (hand_finding Configuration Machine R Val Value (HandAt s code m) plain machine.plain same_plain array_in machine.array_in same_array n line a.left vals stack o _ _ (kinds_as s code (a.«in» ∙ sym (anys_more n a.left)) here.values)
        (λ array k vals' stack' h. onward (more_at element_at h) a.out a.is.on))))

    pub copy : (line : ℕ) → Follows (CopyOp line)
    copy line a = at_row s code l o fs top below _ i.CopyArr line q a.is
        (hand_popping Configuration Machine R Val Value (HandAt s code m) plain machine.plain same_plain Any a.left vals stack o _ _ (kinds_as s code a.«in» here.values)
        (λ v x vals' stack' ev ex h hs. alike_equal Configuration Machine R ℕ (array_in v) (machine.array_in x) o _ _ (same_array v x h)
        (λ array. alike_copying Configuration Machine R l line inst array o _ _
        (λ n p. onward (more_at array_at hs) a.out a.is.on))))

    -- ---- values in hand

    pub drop : Follows DropOp
    drop a = at_row s code l o fs top below _ i.Pop a.line q a.works.is
        (hand_popping Configuration Machine R Val Value (HandAt s code m) plain machine.plain same_plain Any a.works.left vals stack o _ _ (kinds_as s code a.works.«in» here.values)
        (λ v x vals' stack' ev ex h hs. onward hs a.works.out a.works.is.on))

    pub again : Follows AgainOp
    again a = at_row s code l o fs top below _ i.Dup a.is.is.line q a.is.is.is
        (hand_popping Configuration Machine R Val Value (HandAt s code m) plain machine.plain same_plain Any a.left vals stack o _ _ (kinds_as s code a.«in» here.values)
        (λ v x vals' stack' ev ex h hs. pushes o x _ _ a.is.fits (onward (more_at h (kinds_as s code a.«in» here.values)) a.out a.is.is.is.on)))
