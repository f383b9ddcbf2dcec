-- A use of a parameter by name begins the evaluation of its actual, and the end of that gives what the use asked for.
use Rattle.std.proofs.Common.{◌≡◌, ◌+◌, ◌≤◌, ℕ, suc, Bool, true, false, List, [], ◌∷◌, length, Option, Some, None, refl, sym, ap, ◌∙◌, subst, arith}
use Rattle.std.specs.Prelude.{ℤ, if◌then◌else◌, nat_lt, pos, slice_get}
use Rattle.sim_base.specs.declared.limits.Limits.{Limits}
use Rattle.sim_base.specs.declared.run_error.RunError.TheVariants.{ActualIsNoVariable}
use Rattle.sim_scope.specs.declared.types.Formal.{Formal}
use Rattle.sim_scope.specs.Source.{Source, level_of}
use Rattle.sim_tree.specs.Syntax.{Expression}
use Rattle.sim_code.specs.declared.code.ThunkRecord.{ThunkRecord}
use Rattle.sim_code.specs.declared.instr.Instr.TheVariants as i
use Rattle.sim_code.specs.declared.instr.Lined.{Lined}
use Rattle.sim_code.specs.declared.stage.Stage.TheVariants as stage
use Rattle.sim_code.specs.declared.code.CodeFormal.{CodeFormal}
use Rattle.sim_code.specs.Classes as classes
use Rattle.sim_code.specs.Formals.{Copied, copying_value}
use Rattle.sim_code.specs.Formals as table
use Rattle.sim_code.specs.Code.{CodeOf}
use Rattle.sim_code.specs.Events.{having, no_rule, ticking, when}
use Rattle.sim_code.specs.Instances.{ElementPlace, ImagePlace, is_live}
use Rattle.sim_code.specs.Machine.{Frames, Machine, Value, cell_at, is_roomy, pushing, thunk_in, waiting}
use Rattle.sim_code.specs.Machine as machine
use Rattle.sim_code.specs.Outcome.{Going, Run, RunFault, World}
use Rattle.sim_code.specs.Rows.{no_class, on_top, row, thunk_ended, thunk_given, truth_of}
use Rattle.sim_code.specs.Thunks.{in_thunk, instruction_before, locating, using_name}
use Rattle.sim_code.specs.Thunks as thunks
use Rattle.sim_code.proofs.Lifts.{Both, alike_found, alike_having, alike_leads, alike_passes, alike_stopping, alike_ticking, alike_unruled}
use Rattle.sim_code.proofs.Simulation.{Alike, going}
use Rattle.sim_meaning.specs.Attributes.{parameter_qualification}
use Rattle.sim_meaning.specs.Checks.{copied_for}
use Rattle.sim_meaning.specs.Levels.{text_in}
use Rattle.sim_meaning.specs.Meaning.{admitted, do_item, do_op, evaluated, is_place, name_used, value_given, evaluating, formal_in_hand, passing}
use Rattle.sim_meaning.specs.Pending.{Activation, CloseOp, Configuration, Do, EndEvaluation, Eval, ForPlace, ForValue, Instances, Item, Key, NamedOp, Use, Val, actual_in, cell, plain, ForParameter}
use Rattle.sim_meaning.specs.Sane.{AllLead, Leads, Names}
use Rattle.sim_meaning.specs.Closing.{close_passed}
use Rattle.sim_meaning.specs.Steps.{go}
use Rattle.codegen_expr.specs.CodeExpr.{class_or_none, line_of_use, truth_number, use_instr}
use Rattle.codegen_expr.specs.Sites.{class_number, expression_temps, frame_text, lined, own_end, slot_of}
use Rattle.codegen.specs.Compiled.{Compiled, code_formal}
use Rattle.sim_relate.proofs.Admitting.{admitting_alike, number_found}
use Rattle.sim_relate.proofs.ClassNames.{parameter_classed}
use Rattle.sim_relate.proofs.Assigns.{element_place, image_place, value_both}
use Rattle.sim_relate.proofs.Ends.{chain_given, chosen, room_given}
use Rattle.sim_relate.proofs.Entries.{waits}
use Rattle.sim_relate.proofs.Givens.{close_passed_at, given_kind}
use Rattle.sim_relate.proofs.Hands.{hand_popping}
use Rattle.sim_relate.proofs.HeldFormals.{copied_same, copies, formal_found, held_class}
use Rattle.sim_relate.proofs.Here.{Here, act, at_row, kinds_as, state_at}
use Rattle.sim_relate.proofs.Known.{HandAt, Kind, NamedAt, PlaceIs, RefersAt, Runs, Settled, ThunkIs, ValAt, actual_at, array_at, element_at, hand_given, image_at, link_at, named_place, named_reference, named_value, none_at, owner_of, plain_at, refers_cell, refers_element, site_at, procedure_at}
use Rattle.sim_relate.proofs.Lists.{there_get}
use Rattle.sim_relate.proofs.Living.{reach_found, reached}
use Rattle.sim_relate.proofs.Operators.{at_cell, passing_test, room_is, same_plain}
use Rattle.sim_relate.proofs.Pending.{ends_at, pends}
use Rattle.sim_relate.proofs.Reach.{is_there}
use Rattle.sim_relate.proofs.Relation.{ChainAt, EndAt, OpAt, StandingsAt, StateAt, StoreAt, WorkAt}
use Rattle.sim_relate.proofs.Resited.{term_sited}
use Rattle.sim_relate.proofs.Stores.{cell_read, is_live_same}
use Rattle.sim_relate.proofs.Thunks.{AskedAt, AskedIs, kind_given}
use Rattle.sim_relate.proofs.Trees.{Classed, IsUse, UseClassed, UseIs}
use Rattle.sim_relate.proofs.Waiting.{OfName, gets_given, kind_used, suspended_by}

-- ---- uses

module _ (s : Source) (code : CodeOf) (compiled : Compiled s code) (l : Limits) (o : World) (m : Instances) (inst : ℕ) (w : List Item) (vals : List Val) (rest : List Activation) (fs : Frames) (t : ℕ) (b : Runs) (pc : ℕ) (stack : List Value) (below : List machine.Activation) (ks : List Kind) (here : Here s code m fs inst rest t b ks vals stack) (u q : ℕ) (ks' : List Kind) (low : Settled s code t b u) (work : WorkAt s code m fs (λ v. ChainAt s code m fs rest v below) inst t b u w q ks') where
  abbrev Related : Configuration → Machine → Type 0
  Related = StateAt s code

  abbrev top : machine.Activation
  top = act inst pc stack b

  abbrev waiting_chain : List Activation
  waiting_chain = record { instance = inst; work = w; values = vals } ∷ rest

  abbrev waiting_acts : List machine.Activation
  waiting_acts = waiting top stack ∷ below

  -- ---- evaluations

  -- the thunk of an actual parameter begins with nothing in hand, for what waits for it
  module _ (wanted : Use) (under : ChainAt s code m fs waiting_chain (OfName wanted) waiting_acts) (home : ℕ) (as_procedure : Bool) (e : Expression) (number : ℕ) (h : ThunkIs s code m home as_procedure e number) where
    abbrev begun : Runs
    begun = record { own = (is_there s m h.stands).now.text; thunk = Some number; room = h.room; limit = h.room; temps = own_end s code (frame_text s h.text); block = h.block; stage = stage.NoStage }

    abbrev in_use : ℕ
    in_use = own_end s code (frame_text s h.text) + expression_temps + suc (length h.block.types)

    settled : Settled s code h.text begun in_use
    settled = record { at = record { low = omega arith; temps = refl; full = λ n e. omega arith }; calm = refl }

    begins : WorkAt s code m fs (λ v. ChainAt s code m fs waiting_chain v waiting_acts) home h.text begun in_use (Do (CloseOp as_procedure e) ∷ EndEvaluation wanted ∷ []) h.entry []
    begins =
        pends s code m fs (λ v. ChainAt s code m fs waiting_chain v waiting_acts) home h.text begun in_use settled (EndEvaluation wanted ∷ []) (CloseOp as_procedure e) h.entry h.done [] (kind_given s as_procedure e ∷ [])
        (record { was = h.used; gives = h.gives; none = refl; out = refl })
        (ends_at s code m fs (λ v. ChainAt s code m fs waiting_chain v waiting_acts) home h.text begun in_use (EndEvaluation wanted) [] h.done (kind_given s as_procedure e ∷ [])
        (record { number = number; is_thunk = refl; alone = refl; last = h.last; at = h.end; kind = kind_given s as_procedure e; given = given_kind s as_procedure e; one = refl; below = under }))

    stands_so : StateAt s code (record { chain = record { instance = home; work = Do (CloseOp as_procedure e) ∷ EndEvaluation wanted ∷ []; values = [] } ∷ waiting_chain; memory = m }) (record { chain = act home h.entry [] begun ∷ waiting_acts; memory = fs })
    stands_so =
        let room : h.room ≤ h.room = omega arith in
        state_at s code in_use h.entry (record { store = here.store; parked = here.parked; stands = h.stands; own = ap text_in (is_there s m h.stands).is; roomy = room; found = h.found; values = none_at; free = refl }) begins refl

    pub evaluates_in : (p : World) → is_live m home ≡ true → Alike Related (evaluating p m home as_procedure e wanted waiting_chain) (in_thunk code p fs number home waiting_acts)
    unfolding in_thunk when
    evaluates_in p live =
        let first = there_get code.instrs h.entry h.within in
        subst (λ z. Alike Related (evaluating p m home as_procedure e wanted waiting_chain) (if z then having (slice_get code.thunks number) p (λ x. having (slice_get code.instrs x.entry) p (λ _. Going p (record { chain = record { thunk = Some number; home = home; pc = x.entry; stack = []; room = x.room; stage = stage.NoStage } ∷ waiting_acts; memory = fs }))) else no_rule p))
        (sym live ∙ is_live_same s code m fs here.store home)
        (alike_found Configuration Machine Related ThunkRecord (slice_get code.thunks number) (record { entry = h.entry; room = h.room }) p _ _ h.there
        (alike_found Configuration Machine Related Lined (slice_get code.instrs h.entry) first.0 p _ _ first.1 (going stands_so)))

  -- ---- uses

  module _ (j : ℕ) (key : Key) (wanted : Use) (is_use : IsUse wanted) (a : OpAt s code m fs inst (site_at t b u) (NamedOp j key wanted) pc q ks ks') where
    abbrev x : UseIs s code m inst (site_at t b u) (length ks) j key wanted pc q
    x = a.is

    under_use : ChainAt s code m fs waiting_chain (OfName wanted) waiting_acts
    under_use =
        waits s code compiled l o m inst w vals rest fs t b pc stack below ks here u q ks' low work (OfName wanted) ks vals stack here.values (λ yes. x.fits)
        (record { place = pc; first = pos (level_of s x.text); second = pos (slot_of s code x.text key); is = x.use_is.at; on = refl; classed = x.classed }) a.out x.use_is.on

    begun_with : (v : Val) (z : Value) → ValAt s code m v z
        → Alike Related (having (actual_in v) o (λ a. when (is_live m a.home) o (ticking l o (λ p. evaluating p m a.home a.as_procedure a.expression wanted waiting_chain)))) (having (thunk_in z) o (λ t. when (is_roomy top) o (ticking l o (λ p. in_thunk code p fs t.0 t.1 waiting_acts))))
    unfolding having
    begun_with _ _ plain_at = alike_unruled Configuration Machine Related o _
    begun_with _ _ link_at = alike_unruled Configuration Machine Related o _
    begun_with _ _ array_at = alike_unruled Configuration Machine Related o _
    begun_with _ _ element_at = alike_unruled Configuration Machine Related o _
    begun_with _ _ image_at = alike_unruled Configuration Machine Related o _
    begun_with _ _ (procedure_at h) = alike_unruled Configuration Machine Related o _
    begun_with _ _ (actual_at {home} {number} {as_procedure} {e} h) =
        alike_passes Configuration Machine Related (is_live m home) o _ _ (λ live. passing_test s code l o m inst w vals rest fs t b pc stack below ks here o (is_roomy top) _ _ (room_is s code l o m inst w vals rest fs t b pc stack below ks here x.fits) (alike_ticking Configuration Machine Related l o _ _ (λ p. evaluates_in wanted under_use home as_procedure e number h p live)))

    uses : Alike Related (name_used l o m inst w vals rest j key wanted) (cell_at fs top (pos (level_of s x.text)) (pos (slot_of s code x.text key)) o (λ j c. using_name code l o fs top below j c))
    uses =
        at_cell s code l o m inst w vals rest fs t b pc stack below ks here o (level_of s x.text) j (slot_of s code x.text key) _ _ (reached s m inst x.text j here.lives x.reaches)
        (alike_having Configuration Machine Related Val Value (ValAt s code m) (cell m j key) (machine.cell fs j (slot_of s code x.text key)) o _ _ (cell_read s code m fs j x.text key here.store (x.reaches).stands x.own x.has x.varies)
        (λ v z ev ez h. begun_with v z h))

  -- the class that a value is held against is there
  row_of_use : (wanted : Use) → IsUse wanted → UseClassed s wanted → (line : ℕ) (z c : ℤ) (r : Run Configuration) → Alike Related r (cell_at fs top z c o (λ j c. using_name code l o fs top below j c)) → Alike Related r (row code l o fs top below line (use_instr s code wanted z c))
  row_of_use (ForValue None line') used k line z c r h = alike_found Configuration Machine Related (Unit {0}) (no_class (pos 0)) tt o r _ refl h
  row_of_use (ForValue (Some class) line') used k line z c r h = number_found s code compiled o m fs here.store class k r _ h
  row_of_use (ForPlace true line') used k line z c r h = alike_found Configuration Machine Related Bool (truth_of (pos 1)) true o r _ refl h
  row_of_use (ForPlace false line') used k line z c r h = alike_found Configuration Machine Related Bool (truth_of (pos 0)) false o r _ refl h
  row_of_use (ForParameter number line') used k line z c r h = absurd used

  pub use_name : (j : ℕ) (key : Key) (wanted : Use) → OpAt s code m fs inst (site_at t b u) (NamedOp j key wanted) pc q ks ks' → Alike Related (do_op s l o m inst w vals rest (NamedOp j key wanted)) (on_top code l o fs top below)
  use_name j key wanted a =
      let x = a.is in
      at_row s code l o fs top below _ (use_instr s code wanted (pos (level_of s x.text)) (pos (slot_of s code x.text key))) (line_of_use wanted) q x.use_is
      (row_of_use wanted x.is_use x.classed (line_of_use wanted) (pos (level_of s x.text)) (pos (slot_of s code x.text key)) _ (uses j key wanted x.is_use a))

  -- The actual is closed in the instance for which it is evaluated.
  pub closes : (as_procedure : Bool) (e : Expression) → OpAt s code m fs inst (site_at t b u) (CloseOp as_procedure e) pc q ks ks' → WorkAt s code m fs (λ v. ChainAt s code m fs rest v below) inst t b u (Do (Eval (close_passed as_procedure s m inst e)) ∷ w) pc ks
  closes as_procedure e a =
      let c = close_passed_at s code m inst (record (site_at t b u) { used = a.was }) compiled.agrees (λ v within. reach_found s m inst t v compiled.agrees here.stands here.lives within) e pc q as_procedure a.gives in
      subst (λ z. WorkAt s code m fs (λ v. ChainAt s code m fs rest v below) inst t b u (Do (Eval (close_passed as_procedure s m inst e)) ∷ w) pc z) (sym a.none)
      (pends s code m fs (λ v. ChainAt s code m fs rest v below) inst t b u low w (Eval (close_passed as_procedure s m inst e)) pc q [] (kind_given s as_procedure e ∷ [])
      (term_sited s code m inst (record (site_at t b u) { used = a.was }) u 0 (close_passed as_procedure s m inst e) pc q c.0, c.1)
      (subst (λ z. WorkAt s code m fs (λ v. ChainAt s code m fs rest v below) inst t b u w q z) a.out work))

-- ---- what was given

module _ (s : Source) (code : CodeOf) (m : Instances) (fs : Frames) (store : StoreAt s code m fs) (o : World) where
  refers_given : (k : ℕ) (v : Val) (x : Value) → RefersAt s code m k v x → Both (ValAt s code m) (value_given o m v) (thunks.value_given o fs x)
  refers_given k _ _ (refers_cell {j} {t} {key} st own has varies declared) = cell_read s code m fs j t key store st own has varies
  refers_given k _ _ (refers_element {a} {n}) = value_both s code o m fs (ElementPlace a n None) (ElementPlace a n 0) element_place

  value_of : (v : Val) (x : Value) → ValAt s code m v x → Both (ValAt s code m) (value_given o m v) (thunks.value_given o fs x)
  value_of _ _ plain_at = plain_at
  value_of _ _ link_at = link_at
  value_of _ _ array_at = array_at
  value_of _ _ (element_at {a} {n}) = value_both s code o m fs (ElementPlace a n None) (ElementPlace a n 0) element_place
  value_of _ _ (image_at {n}) = value_both s code o m fs (ImagePlace n) (ImagePlace n) image_place
  value_of _ _ (actual_at h) = actual_at h
  value_of _ _ (procedure_at h) = procedure_at h

  place_value : (v : Val) (x : Value) → PlaceIs s code m v x → Both (ValAt s code m) (value_given o m v) (thunks.value_given o fs x)
  place_value v x h =
      subst (λ z. Both (ValAt s code m) (value_given o m z) (thunks.value_given o fs x)) (sym h.is_val)
      (subst (λ z. Both (ValAt s code m) (cell m h.instance h.key) (thunks.value_given o fs z)) (sym h.is_value) (cell_read s code m fs h.instance h.text h.key store h.stands h.own h.has h.varies))

  -- the value
  pub both_given : (v : Val) (x : Value) → NamedAt s code m v x → Both (ValAt s code m) (value_given o m v) (thunks.value_given o fs x)
  both_given v x (named_value h) = value_of v x h
  both_given v x (named_place h) = place_value v x h
  both_given v x (named_reference k c h) = refers_given k v x h

  value_place : (v : Val) (x : Value) → ValAt s code m v x → thunks.is_place x ≡ is_place v
  value_place _ _ plain_at = refl
  value_place _ _ link_at = refl
  value_place _ _ array_at = refl
  value_place _ _ element_at = refl
  value_place _ _ image_at = refl
  value_place _ _ (actual_at h) = refl
  value_place _ _ (procedure_at h) = refl

  refers_place : (k : ℕ) (v : Val) (x : Value) → RefersAt s code m k v x → thunks.is_place x ≡ is_place v
  refers_place k _ _ (refers_cell st own has varies declared) = refl
  refers_place k _ _ refers_element = refl

  -- whether it is where something lies
  pub same_place : (v : Val) (x : Value) → NamedAt s code m v x → thunks.is_place x ≡ is_place v
  same_place v x (named_value h) = value_place v x h
  same_place v x (named_place h) = ap thunks.is_place h.is_value ∙ sym (ap is_place h.is_val)
  same_place v x (named_reference k c h) = refers_place k v x h

module _ (S M : Type 0) (R : S → M → Type 0) where
  alike_locating : (line : ℕ) (place value_too : Bool) (o : World) (r : Run S) (q : Run M) → Alike R r q → Alike R (locating line place value_too o r) (locating line place value_too o q)
  unfolding locating
  alike_locating line true value_too o r q a = a
  alike_locating line false true o r q a = a
  alike_locating line false false o r q a = alike_stopping S M R (RunFault ActualIsNoVariable line) o

-- ---- the class of a parameter

module _ (s : Source) (code : CodeOf) (compiled : Compiled s code) (o : World) (m : Instances) (fs : Frames) (store : StoreAt s code m fs) (c line : ℕ) (h : Classed s c) where
  admits : (v : Val) (x : Value) → ValAt s code m v x → Names s m v → (r : Run Configuration) (z : Run Machine) → Alike (StateAt s code) r z → Alike (StateAt s code) (admitted s m (Some c) line v o r) (classes.admitting code fs line (class_number s code c) x o z)
  unfolding having
  admits _ _ (plain_at {p}) n r z f = admitting_alike s code compiled o m fs store c h line p n r z f
  admits _ _ link_at n r z f = alike_unruled Configuration Machine (StateAt s code) o _
  admits _ _ array_at n r z f = alike_unruled Configuration Machine (StateAt s code) o _
  admits _ _ element_at n r z f = alike_unruled Configuration Machine (StateAt s code) o _
  admits _ _ image_at n r z f = alike_unruled Configuration Machine (StateAt s code) o _
  admits _ _ (actual_at y) n r z f = alike_unruled Configuration Machine (StateAt s code) o _
  admits _ _ (procedure_at y) n r z f = alike_unruled Configuration Machine (StateAt s code) o _

-- ---- the end of an evaluation

module _ (s : Source) (code : CodeOf) (compiled : Compiled s code) (l : Limits) (o : World) (m : Instances) (fs : Frames) (store : StoreAt s code m fs) (parked : StandingsAt s code m fs) where
  abbrev Joined : Configuration → Machine → Type 0
  Joined = StateAt s code

  -- what waits gets what it asked for
  module _ (y : Activation) (rest : List Activation) (wanted : Use) (x : machine.Activation) (below : List machine.Activation) (c : ChainAt s code m fs (y ∷ rest) (OfName wanted) (x ∷ below)) where
    gets : (p : World) (v : Val) (z : Value) → HandAt s code m (kind_used wanted) v z → Alike Joined (go p m y.instance y.work (v ∷ y.values) rest) (pushing x.room x.stack z p (λ stack. machine.at p fs x x.pc stack below))
    unfolding pushing when
    gets p v z h =
        chosen (λ q. Alike Joined (go p m y.instance y.work (v ∷ y.values) rest) q) (nat_lt (length x.stack) x.room) _ (no_rule p) (room_given s code m fs y rest (OfName wanted) x below c refl)
        (going (record { chain = chain_given s code m fs y rest (OfName wanted) x below v z c refl h; store = store; parked = parked }))

    -- room is found before what goes there is copied
    roomy : (p : World) (z : Value) (r : Run Configuration) (f : List Value → Run Machine) → Alike Joined r (f (z ∷ x.stack)) → Alike Joined r (pushing x.room x.stack z p f)
    unfolding pushing when
    roomy p z r f a = chosen (λ q. Alike Joined r q) (nat_lt (length x.stack) x.room) _ (no_rule p) (room_given s code m fs y rest (OfName wanted) x below c refl) a

    gets_now : (p : World) (v : Val) (z : Value) → HandAt s code m (kind_used wanted) v z → Alike Joined (go p m y.instance y.work (v ∷ y.values) rest) (machine.at p fs x x.pc (z ∷ x.stack) below)
    gets_now p v z h = going (record { chain = chain_given s code m fs y rest (OfName wanted) x below v z c refl h; store = store; parked = parked })

    asked : AskedIs s code wanted x.pc
    asked =
        let got = gets_given (suspended_by m (owner_of c.block.thunk y.instance)) (OfName wanted) c.gets refl c.gets_is in
        subst (λ g. AskedAt s code g x.pc) got.0 c.asked

  -- a value, held against a class
  value_ends : (class : Option ℕ) (line : ℕ) (y : Activation) (rest : List Activation) (x : machine.Activation) (below : List machine.Activation) (c : ChainAt s code m fs (y ∷ rest) (OfName (ForValue class line)) (x ∷ below)) (level cell : ℤ) → UseClassed s (ForValue class line) → (v : Val) (z : Value) → NamedAt s code m v z → Leads s o m v
      → Alike Joined (evaluated s l o m (y ∷ rest) (ForValue class line) v) (thunk_given code l o fs x below z line (i.NameVal level cell (pos (class_or_none s code class))))
  value_ends None line y rest x below c level cell k v z n leads =
      alike_found Configuration Machine Joined (Unit {0}) (no_class (pos 0)) tt o _ _ refl
      (alike_having Configuration Machine Joined Val Value (ValAt s code m) (value_given o m v) (thunks.value_given o fs z) o _ _ (both_given s code m fs store o v z n) (λ v' z' ev ez h. gets y rest (ForValue None line) x below c o v' z' h))
  value_ends (Some k) line y rest x below c level cell is_class v z n leads =
      number_found s code compiled o m fs store k is_class _ _
      (alike_having Configuration Machine Joined Val Value (ValAt s code m) (value_given o m v) (thunks.value_given o fs z) o _ _ (both_given s code m fs store o v z n)
      (λ v' z' ev ez h. admits s code compiled o m fs store k line is_class v' z' h (leads v' ev) _ _ (gets y rest (ForValue (Some k) line) x below c o v' z' h)))

  -- where it lies, or else the value
  place_ends : (value_too : Bool) (line : ℕ) (y : Activation) (rest : List Activation) (x : machine.Activation) (below : List machine.Activation) (c : ChainAt s code m fs (y ∷ rest) (OfName (ForPlace value_too line)) (x ∷ below)) (level cell : ℤ) (v : Val) (z : Value) → NamedAt s code m v z
      → Alike Joined (evaluated s l o m (y ∷ rest) (ForPlace value_too line) v) (thunk_given code l o fs x below z line (i.NameAddr level cell (pos (truth_number value_too))))
  place_ends value_too line y rest x below c level cell v z n =
      alike_found Configuration Machine Joined Bool (truth_of (pos (truth_number value_too))) value_too o _ _ (truth_is value_too)
      (subst (λ p. Alike Joined (evaluated s l o m (y ∷ rest) (ForPlace value_too line) v) (locating line p value_too o (pushing x.room x.stack z o (λ stack. machine.at o fs x x.pc stack below)))) (sym (same_place s code m fs store o v z n))
      (alike_locating Configuration Machine Joined line (is_place v) value_too o _ _ (gets y rest (ForPlace value_too line) x below c o v z n)))
    where
      truth_is : (b : Bool) → truth_of (pos (truth_number b)) ≡ Some b
      truth_is true = refl
      truth_is false = refl

  abbrev passes_to : (line : ℕ) → Activation → List Activation → Formal → Val → Run Configuration
  passes_to line y rest f v = passing s l m y.instance f line v o (λ v p. go p m y.instance y.work (v ∷ y.values) rest)

  abbrev does_with : (line : ℕ) → machine.Activation → List machine.Activation → Value → (class : ℕ) → Copied → (owner : ℕ) → Run Machine
  does_with line x below z class copied owner =
      classes.admitting code fs line class z o (pushing x.room x.stack z o (λ _. copying_value machine.Of machine.plain machine.ArrayValue machine.array_in l line owner copied z o (λ z p. machine.at p fs x x.pc (z ∷ x.stack) below)))

  -- what is passed for a formal parameter, held against its class or copied
  parameter_ends : (number line : ℕ) (y : Activation) (rest : List Activation) (x : machine.Activation) (below : List machine.Activation) (c : ChainAt s code m fs (y ∷ rest) (OfName (ForParameter number line)) (x ∷ below)) (first second : ℤ) (v : Val) (z : Value) → NamedAt s code m v z → Leads s o m v
      → Alike Joined (evaluated s l o m (y ∷ rest) (ForParameter number line) v) (thunk_given code l o fs x below z line (i.Param (pos number) first second))
  unfolding machine.index table.passing
  parameter_ends number line y rest x below c first second v z n leads =
      alike_found Configuration Machine Joined ℕ (machine.number (pos number)) number o _ _ refl
      (alike_leads Configuration Machine Joined Formal CodeFormal (formal_in_hand s number y.values) (table.formal_in_hand code number x.stack) o _ _ (λ f is. (
        code_formal s code f,
        formal_found s code compiled c.kinds y.values x.stack c.values number f is,
        alike_having Configuration Machine Joined Val Value (ValAt s code m) (value_given o m v) (thunks.value_given o fs z) o _ _ (both_given s code m fs store o v z n)
            (λ v' z' ev ez h.
            subst (λ k. Alike Joined (passes_to line y rest f v') (does_with line x below z' k (table.copied_for (code_formal s code f)) x.home)) (sym (held_class s code f))
            (subst (λ k. Alike Joined (passes_to line y rest f v') (does_with line x below z' (class_or_none s code (parameter_qualification s f.kind f.ty)) k x.home)) (sym (copied_same s code f))
            (subst (λ k. Alike Joined (passes_to line y rest f v') (does_with line x below z' (class_or_none s code (parameter_qualification s f.kind f.ty)) (copied_for f) k)) (sym c.home)
            (admits_if (parameter_qualification s f.kind f.ty) line (parameter_classed s f.kind f.ty) v' z' h (leads v' ev) _ _
            (roomy y rest (ForParameter number line) x below c o z' _ _
            (copies s code m Joined l line y.instance (copied_for f) v' z' h o _ _ (λ v z p h. gets_now y rest (ForParameter number line) x below c p v z h))))))),
      )))
    where
      admits_if : (k : Option ℕ) (line : ℕ) → ((n : ℕ) → k ≡ Some n → Classed s n) → (v : Val) (z : Value) → ValAt s code m v z → Names s m v → (r : Run Configuration) (q : Run Machine) → Alike Joined r q → Alike Joined (admitted s m k line v o r) (classes.admitting code fs line (class_or_none s code k) z o q)
      admits_if None line is v z h name r q f = f
      admits_if (Some k) line is v z h name r q f = admits s code compiled o m fs store k line (is k refl) v z h name r q f

  use_ends : (wanted : Use) (y : Activation) (rest : List Activation) (x : machine.Activation) (below : List machine.Activation) (c : ChainAt s code m fs (y ∷ rest) (OfName wanted) (x ∷ below)) (level cell : ℤ) → UseClassed s wanted → (v : Val) (z : Value) → NamedAt s code m v z → Leads s o m v
      → Alike Joined (evaluated s l o m (y ∷ rest) wanted v) (thunk_given code l o fs x below z (line_of_use wanted) (use_instr s code wanted level cell))
  use_ends (ForValue class line) y rest x below c level cell k v z n leads = value_ends class line y rest x below c level cell k v z n leads
  use_ends (ForPlace value_too line) y rest x below c level cell k v z n leads = place_ends value_too line y rest x below c level cell v z n
  use_ends (ForParameter number line) y rest x below c level cell k v z n leads = parameter_ends number line y rest x below c level cell v z n leads

  ended : (wanted : Use) (rest : List Activation) (below : List machine.Activation) → ChainAt s code m fs rest (OfName wanted) below → (v : Val) (z : Value) → NamedAt s code m v z → Leads s o m v → Alike Joined (evaluated s l o m rest wanted v) (thunk_ended code l o fs z below)
  ended wanted [] [] c v z n leads = absurd (cc (c.still))
  ended wanted [] (x ∷ below) c v z n leads = absurd (cc (c.is))
  ended wanted (y ∷ rest) [] c v z n leads = absurd c
  ended wanted (y ∷ rest) (x ∷ below) c v z n leads =
      let a = asked y rest wanted x below c in
      alike_found Configuration Machine Joined Lined (instruction_before code x.pc) (lined (use_instr s code wanted a.first a.second) (line_of_use wanted)) o _ _ (ap (instruction_before code) a.on ∙ a.is)
      (use_ends wanted y rest x below c a.first a.second a.classed v z n leads)

pub end_evaluation : (s : Source) (code : CodeOf) (compiled : Compiled s code) (l : Limits) (o : World) (m : Instances) (inst : ℕ) (w : List Item) (vals : List Val) (rest : List Activation) (fs : Frames) (t : ℕ) (b : Runs) (pc : ℕ) (stack : List Value) (below : List machine.Activation) (ks : List Kind) (here : Here s code m fs inst rest t b ks vals stack) (wanted : Use) → AllLead s o m vals
    → EndAt s code (λ v. ChainAt s code m fs rest v below) (frame_text s t) b (EndEvaluation wanted) w pc ks → Alike (StateAt s code) (do_item s l o m inst w vals rest (EndEvaluation wanted)) (on_top code l o fs (act inst pc stack b) below)
end_evaluation s code compiled l o m inst w vals rest fs t b pc stack below ks here wanted all a =
    at_row s code l o fs (act inst pc stack b) below _ i.EndThunk a.at.line a.last a.at.is
    (alike_found Configuration Machine (StateAt s code) ℕ b.thunk a.number o _ _ a.is_thunk
    (hand_popping Configuration Machine (StateAt s code) Val Value (HandAt s code m) plain machine.plain same_plain a.kind [] vals stack o _ _ (kinds_as s code a.one here.values)
    (λ v z vals' stack' ev ez h hs. ended s code compiled l o m fs here.store here.parked wanted rest below a.below v z (hand_given s code m a.kind v z a.given h) (subst (AllLead s o m) ev all).0)))
