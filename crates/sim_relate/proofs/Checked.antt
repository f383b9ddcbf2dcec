-- Calls of procedures as values: they are held against their actual parameters, which are passed one by one, and entered.
use Rattle.std.proofs.Common.{◌≡◌, zero, ◌<◌, ℕ, suc, Bool, true, false, List, [], ◌∷◌, length, Option, Some, None, refl, sym, ap, ◌∙◌, subst, arith}
use Rattle.std.proofs.lemmas.List.{length-map}
use Rattle.std.specs.Prelude.{◌==◌, ◌&&◌, ℤ, pos, slice_get}
use Rattle.sim_base.specs.declared.limits.Limits.{Limits}
use Rattle.sim_base.specs.declared.run_error.RunError.TheVariants.{WrongNumberOfParameters, WrongParameter}
use Rattle.sim_scope.specs.declared.types.Formal.{Formal}
use Rattle.sim_scope.specs.declared.types.FormalKind.{FormalKind}
use Rattle.sim_scope.specs.declared.types.FormalKind.TheVariants as shape
use Rattle.sim_scope.specs.declared.types.Mode.{Mode}
use Rattle.sim_scope.specs.declared.types.Mode.TheVariants as mode
use Rattle.sim_scope.specs.declared.types.SimType.{SimType}
use Rattle.sim_scope.specs.Source.{Source}
use Rattle.sim_tree.specs.Syntax.{Expression, Expressions}
use Rattle.sim_code.specs.declared.code.BlockKind.TheVariants as block_kind
use Rattle.sim_code.specs.declared.code.CodeActual.{CodeActual}
use Rattle.sim_code.specs.declared.code.CodeFormal.{CodeFormal}
use Rattle.sim_code.specs.declared.code.ThunkRecord.{ThunkRecord}
use Rattle.sim_code.specs.declared.instr.Instr.TheVariants as i
use Rattle.sim_code.specs.Code.{BlockOf, CodeOf}
use Rattle.sim_code.specs.Events.{choosing, having, when}
use Rattle.sim_code.specs.Formals.{each, suiting}
use Rattle.sim_code.specs.Formals as table
use Rattle.sim_code.specs.Instances.{is_live, is_live_in}
use Rattle.sim_code.specs.Machine.{Frames, Machine, ThunkValue, Value, same_kind, waiting}
use Rattle.sim_code.specs.Machine as machine
use Rattle.sim_code.specs.Outcome.{Ended, Going, NoRule, Run, RunFault, World}
use Rattle.sim_code.specs.Rows.{mstep, on_top, parameter_row}
use Rattle.sim_code.specs.Rows as rows
use Rattle.sim_code.specs.Virtuals.{counting}
use Rattle.sim_code.proofs.Lifts.{EachAt, alike_choosing, alike_equal, alike_found, alike_leads, alike_passes, alike_stopping}
use Rattle.sim_code.proofs.Simulation.{Alike}
use Rattle.sim_meaning.specs.Checks.{Passed, PassedArray, PassedProcedure, PassedValue, agrees, all_fit, all_passed, fits, fits_as, passed}
use Rattle.sim_meaning.specs.Closing.{is_procedure_kind}
use Rattle.sim_meaning.specs.Entries.{formals_of}
use Rattle.sim_meaning.specs.Meaning.{are_alike, do_op, evaluating, formal_in_hand, has_result, is_by_name, is_called_so, leaves_value, procedure_entered}
use Rattle.sim_meaning.specs.Pending.{Activation, Actual, CallValueOp, CheckOp, Configuration, ForParameter, Instances, Item, Op, ParameterOp, ProcedureOp, ProcedureValue, Val, instance_in, plain, procedure_in}
use Rattle.sim_meaning.specs.Steps.{count_of, go}
use Rattle.sim_meaning.specs.Texts.{ProcedureText, Text, text}
use Rattle.codegen_expr.specs.CodeExpr.{ThunkIfAt, code_actuals, is_procedure, is_value}
use Rattle.codegen_expr.specs.Sites.{block_number}
use Rattle.codegen.specs.Compiled.{Compiled, code_formal, code_mode, code_shape}
use Rattle.sim_relate.proofs.Actuals.{counted_many}
use Rattle.sim_relate.proofs.CheckedFits.{actuals_many, all_fit_same, each_same}
use Rattle.sim_relate.proofs.Entering.{code_there}
use Rattle.sim_relate.proofs.Entries.{LinkFound, link_found, procedure_code}
use Rattle.sim_relate.proofs.Entries as entries
use Rattle.sim_relate.proofs.Evaluations as evaluations
use Rattle.sim_relate.proofs.Hands.{hand_popping}
use Rattle.sim_relate.proofs.HeldFormals.{block_held, block_is, formal_found, hand_held, procedure_there}
use Rattle.sim_relate.proofs.Here.{Here, act, at_row, kinds_as}
use Rattle.sim_relate.proofs.Known.{ActualCode, Any, anys, HandAt, Kind, Runs, Settled, StackAt, ThunkIs, ValAt, actual_at, given, more_at, procedure_at, site_at}
use Rattle.sim_relate.proofs.Living.{lives_now}
use Rattle.sim_relate.proofs.Operations.{CallValueOpIs, ParameterOpIs, ProcedureOpIs}
use Rattle.sim_relate.proofs.Operators.{alike_indexed, onward, pushes, room_is, same_plain}
use Rattle.sim_relate.proofs.Passed.{thunk_there}
use Rattle.sim_relate.proofs.Ranked.{InEach, Meets, caught, simply}
use Rattle.sim_relate.proofs.Relation.{ChainAt, OpAt, StateAt, WorkAt}
use Rattle.sim_relate.proofs.Slots.{less_true}
use Rattle.sim_relate.proofs.Silent.{matched, over, place_at}
use Rattle.sim_relate.proofs.Straight.{step_at}
use Rattle.sim_relate.proofs.Stores.{is_live_same}
use Rattle.sim_relate.proofs.Trees.{PassesIs}
use Rattle.sim_relate.proofs.Waiting.{OfName}

-- what fits a formal parameter that is a value has a thunk as a value
value_is : (s : Source) (type : Option SimType) (p : Passed) → fits_as s shape.Simple type p ≡ true → is_value p ≡ true
value_is s type (PassedArray element) e = refl
value_is s type (PassedValue given variable) e = refl
value_is s None (PassedProcedure None n) e = none n e
  where
    none : (n : ℕ) → fits_as s shape.Simple None (PassedProcedure None n) ≡ true → is_value (PassedProcedure None n) ≡ true
    none zero e = absurd (cc (e))
    none (suc n) e = absurd (cc (e))
value_is s (Some a) (PassedProcedure None n) e = none n e
  where
    none : (n : ℕ) → fits_as s shape.Simple (Some a) (PassedProcedure None n) ≡ true → is_value (PassedProcedure None n) ≡ true
    none zero e = absurd (cc (e))
    none (suc n) e = absurd (cc (e))
value_is s type (PassedProcedure (Some b) zero) e = refl
value_is s type (PassedProcedure (Some b) (suc n)) e = absurd (cc (e))

-- so has an array, and a procedure has one as that
array_is : (s : Source) (type : Option SimType) (p : Passed) → fits_as s shape.Array type p ≡ true → is_value p ≡ true
array_is s type (PassedArray element) e = refl
array_is s type (PassedValue given variable) e = absurd (cc (e))
array_is s type (PassedProcedure result n) e = absurd (cc (e))

procedure_is : (s : Source) (type : Option SimType) (p : Passed) → fits_as s shape.Procedure type p ≡ true → is_procedure p ≡ true
procedure_is s type (PassedArray element) e = absurd (cc (e))
procedure_is s type (PassedValue given variable) e = absurd (cc (e))
procedure_is s type (PassedProcedure result n) e = refl

mode_same : (by : Mode) → table.is_by_name (code_mode by) ≡ is_by_name by
mode_same mode.ByName = refl
mode_same mode.ByValue = refl
mode_same mode.ByReference = refl

same_leaves : (a b : Bool) → are_alike a b ≡ true → a ≡ b
same_leaves true true e = refl
same_leaves true false e = absurd (cc (e))
same_leaves false true e = absurd (cc (e))
same_leaves false false e = refl

both_hold : (a b : Bool) → (a && b) ≡ true → (a ≡ true) × (b ≡ true)
both_hold true b e = (refl, e)
both_hold false b e = absurd (cc (e))

any_behind : (n : ℕ) (left : List Kind) → anys (suc n) left ≡ anys n (Any ∷ left)
any_behind zero left = refl
any_behind (suc n) left = ap (λ z. Any ∷ z) (any_behind n left)

same_number : (a b : ℕ) → (a == b) ≡ true → a ≡ b
same_number a b e = grind (arith, e)

module _ (s : Source) (code : CodeOf) (coding : Compiled s code) (l : Limits) (o : World) (m : Instances) (inst : ℕ) (w : List Item) (vals : List Val) (rest : List Activation) (fs : Frames) (t : ℕ) (b : Runs) (pc : ℕ) (stack : List Value) (below : List machine.Activation) (ks : List Kind) (here : Here s code m fs inst rest t b ks vals stack) (u q : ℕ) (ks' : List Kind) (low : Settled s code t b u) (k : WorkAt s code m fs (λ v. ChainAt s code m fs rest v below) inst t b u w q ks') where
  abbrev R : Configuration → Machine → Type 0
  R = StateAt s code

  abbrev top : machine.Activation
  top = act inst pc stack b

  abbrev Follows : Op → Type 0
  Follows op = OpAt s code m fs inst (site_at t b u) op pc q ks ks' → Alike R (do_op s l o m inst w vals rest op) (on_top code l o fs top below)

  on_with : {p : World} {ks2 : List Kind} {vals2 : List Val} {stack2 : List Value} {next : ℕ} → StackAt (HandAt s code m) ks2 vals2 stack2 → ks' ≡ ks2 → q ≡ next → Alike R (go p m inst w vals2 rest) (Going p (record { chain = act inst next stack2 b ∷ below; memory = fs }))
  on_with h e place = onward s code l o m inst w vals rest fs t b pc stack below ks here u q ks' low k h e place

  indexed : (n : ℕ) (r : Run Configuration) (f : ℕ → Run Machine) → Alike R r (f n) → Alike R r (machine.index (pos n) o f)
  indexed n r f h = alike_indexed s code l o m inst w vals rest fs t b pc stack below ks here n r f h

  holds : (c : Bool) → c ≡ true → (r : Run Configuration) (z : Run Machine) → Alike R r z → Alike R r (when c o z)
  unfolding when
  holds true e r z h = h
  holds false e r z h = absurd (cc (e))

  -- ---- procedures as values

  held_there : (c : ℕ) (a : ProcedureOpIs s code c pc q ks ks') (v : Val) (x : Value) (vals2 : List Val) (stack2 : List Value) → LinkFound s code coding l o m inst w vals rest fs t b pc stack below ks here u q ks' low k a.text v x → StackAt (HandAt s code m) a.left vals2 stack2
      → Alike R (having (instance_in v) o (λ j. go o m inst w (ProcedureValue c j ∷ vals2) rest)) (having (machine.frame_in x) o (λ j. machine.on o fs top (machine.ProcedureValue (block_number s c) j ∷ stack2) below))
  held_there c a v x vals2 stack2 link h =
      let p = a.procedure in
      entries.found_left s code coding l o m inst w vals rest fs t b pc stack below ks here u q ks' low k ℕ (instance_in v) link.instance _ _ link.is_val
      (alike_found Configuration Machine R ℕ (machine.frame_in x) link.instance o _ _ link.is_value
      (on_with (more_at (procedure_at (record { around = a.text; result = p.result; heading = p.heading; body = p.body; is = p.is; stands_in = p.stands_in; stands = link.stands })) h) a.out (a.is).is.on))

  pub procedure : (c : ℕ) → Follows (ProcedureOp c)
  procedure c a =
      let p = a.procedure in
      at_row s code l o fs top below _ (i.ProcVal (pos (block_number s c))) (a.is).line q (a.is).is
      (indexed (block_number s c) _ _
      (alike_found Configuration Machine R BlockOf (table.procedure_of code (block_number s c)) (block_is s code coding c p.result p.heading p.body p.is).block o _ _ (procedure_there s code coding c p.result p.heading p.body p.is)
      (hand_popping Configuration Machine R Val Value (HandAt s code m) plain machine.plain same_plain a.link a.left vals stack o _ _ (kinds_as s code a.«in» here.values)
      (λ v x vals2 stack2 ev ex h hs. held_there c a v x vals2 stack2 (link_found s code coding l o m inst w vals rest fs t b pc stack below ks here u q ks' low k a.link a.text a.links v x h) hs))))

  -- ---- the check

  counts : (line n n' many many' : ℕ) → n' ≡ n → many' ≡ many → (r : Run Configuration) (z : Run Machine) → Alike R r z → Alike R (counting line n many o r) (counting line n' many' o z)
  unfolding counting choosing
  counts line n n' many many' e f r z h =
      subst (λ y. Alike R (counting line n many o r) (counting line y many' o z)) (sym e)
      (subst (λ y. Alike R (counting line n many o r) (counting line n y o z)) (sym f)
      (alike_choosing Configuration Machine R (n == many) r _ z _ h (alike_stopping Configuration Machine R (RunFault WrongNumberOfParameters line) o)))

  suits : (line : ℕ) (c c' : Bool) → c' ≡ c → (r : Run Configuration) (z : Run Machine) → Alike R r z → Alike R (suiting line c o r) (suiting line c' o z)
  unfolding suiting
  suits line c c' e r z h =
      subst (λ y. Alike R (suiting line c o r) (suiting line y o z)) (sym e) (alike_choosing Configuration Machine R c r _ z _ h (alike_stopping Configuration Machine R (RunFault WrongParameter line) o))

  checked_on : (es : Expressions) (line : ℕ) (v : Val) (x : Value) → HandAt s code m Any v x → (r : Run Configuration) (z : Run Machine) → Alike R r z
      → Alike R (having (procedure_in v) o (λ q. counting line (length (formals_of s q.0)) (count_of es) o (suiting line (all_fit s (formals_of s q.0) (all_passed s es)) o (having (each (agrees s m q.1 inst) (formals_of s q.0) (all_passed s es)) o (λ agree. suiting line agree o r)))))
      (having (machine.procedure_in x) o (λ q. having (slice_get code.blocks q.0) o (λ b. when (same_kind b.kind block_kind.Procedure) o (counting line (length b.formals) (length (code_actuals s code es)) o (suiting line (table.all_fit code b.formals (code_actuals s code es)) o (having (each (table.holders_agree code fs q.1 inst) b.formals (code_actuals s code es)) o (λ agree. suiting line agree o z)))))))
  checked_on es line v x h r z like =
      alike_leads Configuration Machine R (ℕ × ℕ) (ℕ × ℕ) (procedure_in v) (machine.procedure_in x) o _ _ (λ q is.
      let a = hand_held s code m Any v x h q.0 q.1 is in
      let c = block_held s code coding a.held in
      let many : length c.block.formals ≡ length (formals_of s q.0) = ap length c.formals ∙ length-map (formals_of s q.0) (code_formal s code) in
      let all : table.all_fit code c.block.formals (code_actuals s code es) ≡ all_fit s (formals_of s q.0) (all_passed s es) = ap (λ z. table.all_fit code z (code_actuals s code es)) c.formals ∙ all_fit_same s code coding (formals_of s q.0) es in
      let agree : each (table.holders_agree code fs q.1 inst) c.block.formals (code_actuals s code es) ≡ each (agrees s m q.1 inst) (formals_of s q.0) (all_passed s es) =
      ap (λ z. each (table.holders_agree code fs q.1 inst) z (code_actuals s code es)) c.formals ∙ each_same s code coding m fs here.store q.1 inst (formals_of s q.0) es in (
        (block_number s q.0, q.1),
        a.is,
        alike_found Configuration Machine R BlockOf (slice_get code.blocks (block_number s q.0)) c.block o _ _ c.found
            (holds (same_kind c.block.kind block_kind.Procedure) c.is_procedure _ _
            (counts line (length (formals_of s q.0)) (length c.block.formals) (count_of es) (length (code_actuals s code es)) many (actuals_many s code coding es) _ _
            (suits line (all_fit s (formals_of s q.0) (all_passed s es)) (table.all_fit code c.block.formals (code_actuals s code es)) all _ _
            (alike_equal Configuration Machine R Bool (each (agrees s m q.1 inst) (formals_of s q.0) (all_passed s es)) (each (table.holders_agree code fs q.1 inst) c.block.formals (code_actuals s code es)) o _ _ (sym agree) (λ agree. suits line agree agree refl r z like))))),
      ))

  pub check : (es : Expressions) (line : ℕ) → Follows (CheckOp es line)
  check es line a =
      let c = a.is in
      at_row s code l o fs top below _ (i.Check (pos c.number)) line q c.check
      (indexed c.number _ _
      (alike_found Configuration Machine R (List CodeActual) (slice_get code.actual_lists c.number) (code_actuals s code es) o _ _ c.listed
      (hand_popping Configuration Machine R Val Value (HandAt s code m) plain machine.plain same_plain Any a.left vals stack o _ _ (kinds_as s code a.«in» here.values)
      (λ v x vals' stack' ev ex h hs. checked_on es line v x h _ _ (on_with (kinds_as s code a.«in» here.values) a.out (c.check).on)))))

  -- ---- the call

  entered_on : (n : ℕ) (leaves : Bool) (line : ℕ) (a : CallValueOpIs s code (site_at t b u) n leaves line pc q ks ks') (values : List Val) (values' : List Value) → EachAt (ValAt s code m) values values' → length values ≡ n → (v : Val) (x : Value) (vals2 : List Val) (stack2 : List Value) → HandAt s code m Any v x → StackAt (HandAt s code m) a.left vals2 stack2
      → Alike R (having (procedure_in v) o (λ q. when (is_live m q.1) o (when (is_called_so s q.0 n leaves) o (procedure_entered s l o m inst w vals2 rest q.0 line values q.1 (text s q.0)))))
      (having (machine.procedure_in x) o (λ q. when (is_live fs q.1) o (machine.block_at code block_kind.Procedure (pos q.0) o (λ n b x. rows.entering_frame l o fs top below line n b q.1 values' stack2))))
  entered_on n leaves line a values values' each counted v x vals2 stack2 h hs =
      alike_leads Configuration Machine R (ℕ × ℕ) (ℕ × ℕ) (procedure_in v) (machine.procedure_in x) o _ _ (λ z is.
      let y = hand_held s code m Any v x h z.0 z.1 is in
      let p = y.held in (
        (block_number s z.0, z.1),
        y.is,
        entries.when_equal s code coding l o (is_live m z.1) (is_live fs z.1) _ _ (sym (is_live_same s code m fs here.store z.1))
            (alike_passes Configuration Machine R (is_called_so s z.0 n leaves) o _ _ (λ so.
            let parts = both_hold (length (formals_of s z.0) == n) (are_alike leaves (leaves_value (text s z.0))) so in
            let many = same_number (length (formals_of s z.0)) n parts.0 in
            let same : leaves ≡ has_result p.result = same_leaves leaves (leaves_value (text s z.0)) parts.1 ∙ ap leaves_value p.is in
            let c = code_there s code coding z.0 (ProcedureText p.result p.heading p.body) p.is refl in
            let has = procedure_code s code z.0 p.result p.heading p.body c.block c.has in
            let under = entries.waits_value s code coding l o m inst w vals rest fs t b pc stack below ks here u q ks' low k (has_result p.result) a.left vals2 stack2 hs (λ _. a.fits) (a.out ∙ ap (λ g. given g a.left) same) (a.is).on in
            entries.by_equal s code coding l o m inst w vals rest fs t b pc stack below ks here u q ks' low k (Option Text) (text s z.0) (Some (ProcedureText p.result p.heading p.body)) (λ y. procedure_entered s l o m inst w vals2 rest z.0 line values z.1 y) _ p.is
            (entries.procedure_enters s code coding l o m inst w vals rest fs t b pc stack below ks here u q ks' low k z.0 line p.result p.heading p.body p.is c.block c.found has z.1 p.around p.stands_in p.stands values values' each (counted ∙ sym many) vals2 stack2 under))),
      ))

  pub call_value : (n : ℕ) (leaves : Bool) (line : ℕ) → Follows (CallValueOp n leaves line)
  call_value n leaves line a =
      at_row s code l o fs top below _ (i.CallV (pos n)) line q a.is
      (indexed n _ _
      (counted_many Configuration Machine R (HandAt s code m) n n (Any ∷ a.left) [] [] vals stack o _ _ (kinds_as s code (a.«in» ∙ any_behind n a.left) here.values) tt (omega arith) (λ values values' vals1 stack1 each counted h1.
      hand_popping Configuration Machine R Val Value (HandAt s code m) plain machine.plain same_plain Any a.left vals1 stack1 o _ _ h1
      (λ v x vals2 stack2 ev ex h hs. entered_on n leaves line a values values' each counted v x vals2 stack2 h hs))))

  -- ---- the passing of a parameter

  -- the thunk that a formal parameter of a kind takes
  record Taken (kind : FormalKind) (e : Expression) (value procedure : ℤ) : Type 0 where
    number : ℕ
    is : table.thunk_for (code_shape kind) value procedure ≡ pos number
    thunk : ThunkIs s code m inst (is_procedure_kind kind) e number
    later : (n : ℕ) → b.thunk ≡ Some n → n < number

  -- what the code has for it, with the thunks that there are
  module _ (n : ℕ) (e : Expression) (line : ℕ) (a : ParameterOpIs s code (site_at t b u) n e line pc q ks ks') where
    abbrev passes : PassesIs s code (site_at t b u) (length ks) a.was n line e pc q
    passes = a.passes

    there : (c as_procedure : Bool) (number p q : ℕ) → c ≡ true → ThunkIfAt c code (site_at t b u) number (λ inner x y. ActualCode s code (record inner { used = a.was }) as_procedure e x y) p q → ThunkIs s code m inst as_procedure e number × ((n : ℕ) → b.thunk ≡ Some n → n < number)
    there true as_procedure number p q e' x = (thunk_there s code m inst t b u a.was as_procedure e number p q here.stands here.found low.at x, x.later)
    there false as_procedure number p q e' x = absurd (cc (e'))

    taken : (kind : FormalKind) (type : Option SimType) → fits_as s kind type (passed s e) ≡ true → Taken kind e (pos passes.value_thunk) (pos passes.procedure_thunk)
    taken shape.Simple type fit =
        let x = there (is_value (passed s e)) false passes.value_thunk pc passes.x (value_is s type (passed s e) fit) passes.value in
        record { number = passes.value_thunk; is = refl; thunk = x.0; later = x.1 }
    taken shape.Array type fit =
        let x = there (is_value (passed s e)) false passes.value_thunk pc passes.x (array_is s type (passed s e) fit) passes.value in
        record { number = passes.value_thunk; is = refl; thunk = x.0; later = x.1 }
    taken shape.Procedure type fit =
        let x = there (is_procedure (passed s e)) true passes.procedure_thunk passes.x passes.y (procedure_is s type (passed s e) fit) passes.procedure in
        record { number = passes.procedure_thunk; is = refl; thunk = x.0; later = x.1 }

    -- a thunk that is gone past, if there is one
    skips : (c : Bool) (as_procedure : Bool) (number p q : ℕ) → ThunkIfAt c code (site_at t b u) number (λ inner x y. ActualCode s code (record inner { used = a.was }) as_procedure e x y) p q → Meets (mstep code l) (InEach R) (do_op s l o m inst w vals rest (ParameterOp n e line)) o (place_at code l inst b below q stack fs)
        → Meets (mstep code l) (InEach R) (do_op s l o m inst w vals rest (ParameterOp n e line)) o (place_at code l inst b below p stack fs)
    skips true as_procedure number p q x more = over code l inst b below R (x.over).is x.past more
    skips false as_procedure number p q x more = subst (λ z. Meets (mstep code l) (InEach R) (do_op s l o m inst w vals rest (ParameterOp n e line)) o (place_at code l inst b below z stack fs)) x more

    -- where the parameter is passed
    abbrev before : machine.Activation
    before = act inst passes.y stack b

    live : is_live m inst ≡ true
    live = let now = lives_now m inst here.lives in ap is_live_in now.1

    under : ChainAt s code m fs (record { instance = inst; work = w; values = vals } ∷ rest) (OfName (ForParameter n line)) (waiting before stack ∷ below)
    under =
        entries.waits s code coding l o m inst w vals rest fs t b passes.y stack below ks here u q ks' low k (OfName (ForParameter n line)) ks vals stack here.values (λ yes. passes.fits)
        (record { place = passes.y; first = pos passes.value_thunk; second = pos passes.procedure_thunk; is = (passes.passes).at; on = refl; classed = tt }) a.out (passes.passes).on

    -- by name its thunk is pushed
    pushed_so : (kind : FormalKind) → Taken kind e (pos passes.value_thunk) (pos passes.procedure_thunk) → Alike R (go o m inst w (Actual inst (is_procedure_kind kind) e ∷ vals) rest) (rows.thunk_pushed code o fs before below (table.thunk_for (code_shape kind) (pos passes.value_thunk) (pos passes.procedure_thunk)))
    pushed_so kind x =
        subst (λ z. Alike R (go o m inst w (Actual inst (is_procedure_kind kind) e ∷ vals) rest) (rows.thunk_pushed code o fs before below z)) (sym x.is)
        (alike_indexed s code l o m inst w vals rest fs t b passes.y stack below ks here x.number _ _
        (alike_found Configuration Machine R ThunkRecord (slice_get code.thunks x.number) (record { entry = x.thunk.entry; room = x.thunk.room }) o _ _ x.thunk.there
        (pushes s code l o m inst w vals rest fs t b passes.y stack below ks here o (ThunkValue x.number inst) _ _ passes.fits
        (onward s code l o m inst w vals rest fs t b passes.y stack below ks here u q ks' low k {p = o} (more_at (actual_at x.thunk) here.values) a.out (passes.passes).on))))

    -- else it is run
    runs_in : (o : Option ℕ) (number : ℕ) → ((n : ℕ) → o ≡ Some n → n < number) → table.runs_inside o number ≡ true
    runs_in None number f = refl
    runs_in (Some n) number f = less_true n number (f n refl)

    run_so : (kind : FormalKind) → Taken kind e (pos passes.value_thunk) (pos passes.procedure_thunk)
        → Alike R (evaluating o m inst (is_procedure_kind kind) e (ForParameter n line) (record { instance = inst; work = w; values = vals } ∷ rest)) (table.running_thunk code o fs before below (table.thunk_for (code_shape kind) (pos passes.value_thunk) (pos passes.procedure_thunk)))
    run_so kind x =
        subst (λ z. Alike R (evaluating o m inst (is_procedure_kind kind) e (ForParameter n line) (record { instance = inst; work = w; values = vals } ∷ rest)) (table.running_thunk code o fs before below z)) (sym x.is)
        (alike_indexed s code l o m inst w vals rest fs t b passes.y stack below ks here x.number _ _
        (holds (table.runs_inside b.thunk x.number) (runs_in b.thunk x.number x.later) _ _
        (holds (machine.is_roomy before) (room_is s code l o m inst w vals rest fs t b passes.y stack below ks here passes.fits) _ _
        (evaluations.evaluates_in s code coding l o m inst w vals rest fs t b passes.y stack below ks here u q ks' low k (ForParameter n line) under inst (is_procedure_kind kind) e x.number x.thunk o live))))

    passes_so : (f : Formal) → fits s f (passed s e) ≡ true
        → Alike R (choosing (is_by_name f.mode) (go o m inst w (Actual inst (is_procedure_kind f.kind) e ∷ vals) rest) (evaluating o m inst (is_procedure_kind f.kind) e (ForParameter n line) (record { instance = inst; work = w; values = vals } ∷ rest)))
        (choosing (table.is_by_name (code_mode f.mode)) (rows.thunk_pushed code o fs before below (table.thunk_for (code_shape f.kind) (pos passes.value_thunk) (pos passes.procedure_thunk))) (table.running_thunk code o fs before below (table.thunk_for (code_shape f.kind) (pos passes.value_thunk) (pos passes.procedure_thunk))))
    unfolding fits
    passes_so f fit =
        let x = taken f.kind f.ty fit in
        subst (λ z. Alike R (choosing (is_by_name f.mode) (go o m inst w (Actual inst (is_procedure_kind f.kind) e ∷ vals) rest) (evaluating o m inst (is_procedure_kind f.kind) e (ForParameter n line) (record { instance = inst; work = w; values = vals } ∷ rest)))
        (choosing z (rows.thunk_pushed code o fs before below (table.thunk_for (code_shape f.kind) (pos passes.value_thunk) (pos passes.procedure_thunk))) (table.running_thunk code o fs before below (table.thunk_for (code_shape f.kind) (pos passes.value_thunk) (pos passes.procedure_thunk))))) (sym (mode_same f.mode))
        (alike_choosing Configuration Machine R (is_by_name f.mode) _ _ _ _ (pushed_so f.kind x) (run_so f.kind x))

    begun : Alike R (do_op s l o m inst w vals rest (ParameterOp n e line)) (parameter_row code o fs before below (pos n) (pos passes.value_thunk) (pos passes.procedure_thunk))
    begun =
        alike_indexed s code l o m inst w vals rest fs t b passes.y stack below ks here n _ _
        (alike_leads Configuration Machine R Formal CodeFormal (formal_in_hand s n vals) (table.formal_in_hand code n stack) o _ _ (λ f is.
        (code_formal s code f, formal_found s code coding ks vals stack here.values n f is, alike_passes Configuration Machine R (fits s f (passed s e)) o _ _ (λ fit. passes_so f fit))))

    pub parameter : ((p : World) → do_op s l o m inst w vals rest (ParameterOp n e line) ≡ Ended p NoRule → ⊥) → Meets (mstep code l) (InEach R) (do_op s l o m inst w vals rest (ParameterOp n e line)) o (place_at code l inst b below pc stack fs)
    parameter ruled =
        skips (is_value (passed s e)) false passes.value_thunk pc passes.x passes.value
        (skips (is_procedure (passed s e)) true passes.procedure_thunk passes.x passes.y passes.procedure
        (matched code l inst b below R (parameter_row code o fs before below (pos n) (pos passes.value_thunk) (pos passes.procedure_thunk))
        (step_at code l line inst b below (i.Param (pos n) (pos passes.value_thunk) (pos passes.procedure_thunk)) passes.y q o stack fs _ passes.passes refl)
        (caught (simply ruled begun))))
