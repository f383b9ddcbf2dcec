-- Standard names.
use Rattle.std.proofs.Common.{◌≡◌, ◌<◌, ◌+◌, ℕ, zero, suc, Bool, true, false, List, ◌∷◌, length, Option, Some, None, refl, sym, ap, ◌∙◌, arith, subst, []}
use Rattle.std.specs.Prelude.{pos, Result, Ok, Err}
use Rattle.sim_base.specs.declared.limits.Limits.{Limits}
use Rattle.sim_scope.specs.Source.{Source}
use Rattle.sim_values.specs.declared.standard.Standard.{Standard}
use Rattle.sim_values.specs.declared.standard.StandardType.{StandardType}
use Rattle.sim_values.specs.Plain.{Plain, Text}
use Rattle.sim_values.specs.Standard.{Function, applied, elsewhere, operands_of, row_of, standard_effect}
use Rattle.sim_code.specs.declared.instr.Instr.TheVariants as i
use Rattle.sim_code.specs.Code.{CodeOf}
use Rattle.sim_code.specs.Outcome.{Run, World}
use Rattle.sim_code.specs.Events.{choosing, no_rule, when, computing, having, image_set, image_value, only_text, performing, pop_operands, putting_back, taking}
use Rattle.sim_code.specs.Machine.{Frames, Machine, Value}
use Rattle.sim_code.specs.Machine as machine
use Rattle.sim_code.specs.Rows.{has_room, on_top, room_for, standard_of}
use Rattle.sim_code.specs.Rows as rows
use Rattle.sim_code.specs.Sets.{is_set_name}
use Rattle.sim_code.specs.Simulations.{is_process_name, is_simulation_name}
use Rattle.sim_code.proofs.Lifts.{alike_unruled, alike_found, Both, alike_having, alike_no_rule, alike_same, alike_stopping, alike_taking}
use Rattle.sim_code.proofs.Simulation.{Alike, unruled}
use Rattle.sim_meaning.specs.Meaning.{do_op}
use Rattle.sim_meaning.specs.Pending.{Activation, Configuration, Instances, Item, StandardOp, Val, Key, cell, cell_set}
use Rattle.sim_meaning.specs.Pending as meaning
use Rattle.sim_meaning.specs.Statements.{has_value}
use Rattle.sim_meaning.specs.Steps.{go, with_value, of_plain, operand, plain_in, put_back, putting}
use Rattle.sim_meaning.specs.Texts.{text}
use Rattle.codegen_expr.specs.Sites.{HasCell, slot_of, frame_text}
use Rattle.sim_relate.proofs.Known.{Named, NamedAt, PlaceIs, RefersAt, actual_at, named_place, named_reference, named_value, refers_cell, refers_element, FixedOf, OwnerOf, Refers, is_declared, is_fixed, Every, HandAt, Kind, StackAt, given, more_at, plain_at, site_at, AllRead, Any, IsRead, LinkTo, Located, Stands, ValAt, array_at, element_at, image_at, link_at, Runs, Settled, LinkOf, procedure_at}
use Rattle.sim_relate.proofs.Relation.{ChainAt, Changed, OpAt, StateAt, WorkAt}
use Rattle.sim_relate.proofs.Hands.{stack_length, FirstAt, hand_operands}
use Rattle.sim_relate.proofs.Here.{Here, act, at_row, kinds_as}
use Rattle.sim_relate.proofs.Operators.{chosen, onward, same_plain}
use Rattle.sim_relate.proofs.SetNames.{set_elsewhere}
use Rattle.sim_relate.proofs.SimulationNames.{process_elsewhere, simulation_elsewhere}
use Rattle.sim_relate.proofs.Standards.{is_some, standard_valued}
use Rattle.sim_base.specs.declared.run_error.RunError.{RunError}
use Rattle.sim_values.specs.Store.{Effect}
use Rattle.sim_values.specs.declared.value.TextVal.{TextVal}
use Rattle.sim_code.specs.Arrays.{element, element_set}
use Rattle.sim_code.specs.Instances.{CellPlace}
use Rattle.sim_relate.proofs.Assigns.{wrote_on}
use Rattle.sim_relate.proofs.Stores.{cell_read, cell_write}

read_length : (n : ℕ) (ks left : List Kind) → AllRead n ks left → length ks ≡ n + length left
read_length zero ks left a = let e = ap length a in omega (arith, e)
read_length (suc n) [] left a = absurd a
read_length (suc n) (k ∷ ks) left a = let e = read_length n ks left a.1 in omega (arith, e)

-- there is room for what it leaves
has_room_is : (r : Option StandardType) (room values operands left : ℕ) → (has_value r ≡ true → left < room) → values ≡ operands + left → has_room room values operands r ≡ true
has_room_is None room values operands left f e = refl
has_room_is (Some x) room values operands left f e = let lt : left < room = f refl in grind (arith, lt, e)

module _ (s : Source) (code : CodeOf) (l : Limits) (o : World) (m : Instances) (inst : ℕ) (w : List Item) (vals : List Val) (rest : List Activation) (fs : Frames) (t : ℕ) (b : Runs) (pc : ℕ) (stack : List Value) (below : List machine.Activation) (ks : List Kind) (here : Here s code m fs inst rest t b ks vals stack) (u q : ℕ) (ks' : List Kind) (low : Settled s code t b u) (k : WorkAt s code m fs (λ v. ChainAt s code m fs rest v below) inst t b u w q ks') where
  abbrev R : Configuration → Machine → Type 0
  R = StateAt s code

  abbrev a_top : machine.Activation
  a_top = act inst pc stack b

  -- ---- operands, and where the first one goes back to

  plain_same : (p : Option Plain) → only_text (plain_in (of_plain p)) ≡ only_text (machine.plain_in (machine.of_plain p))
  plain_same None = refl
  plain_same (Some p) = refl

  both_plain : (v : Option Val) (x : Option Value) → Both (ValAt s code m) v x → plain_in v ≡ machine.plain_in x
  both_plain None None h = refl
  both_plain None (Some x) h = absurd h
  both_plain (Some v) None h = absurd h
  both_plain (Some v) (Some x) h = same_plain v x h

  operand_same : (v : Val) (x : Value) → ValAt s code m v x → operand o m v ≡ machine.operand o fs x
  operand_same _ _ plain_at = refl
  operand_same _ _ link_at = refl
  operand_same _ _ array_at = refl
  operand_same _ _ (element_at {a} {n}) = plain_same (element o a n)
  operand_same _ _ (image_at {n}) = plain_same (image_value o n)
  operand_same _ _ (actual_at h) = refl
  operand_same _ _ (procedure_at h) = refl

  refers_same : (k : ℕ) (v : Val) (x : Value) → RefersAt s code m k v x → operand o m v ≡ machine.operand o fs x
  refers_same k _ _ (refers_cell {j} {t = z} {key} st own has varies declared) = ap only_text (both_plain (cell m j key) (machine.cell fs j (slot_of s code z key)) (cell_read s code m fs j z key here.store st own has varies))
  refers_same k _ _ (refers_element {a} {n}) = plain_same (element o a n)

  place_same : (v : Val) (x : Value) → PlaceIs s code m v x → operand o m v ≡ machine.operand o fs x
  place_same v x h =
      ap (operand o m) h.is_val ∙
      ap only_text (both_plain (cell m h.instance h.key) (machine.cell fs h.instance (slot_of s code h.text h.key)) (cell_read s code m fs h.instance h.text h.key here.store h.stands h.own h.has h.varies)) ∙
      ap (machine.operand o fs) (sym h.is_value)

  named_same : (v : Val) (x : Value) → NamedAt s code m v x → operand o m v ≡ machine.operand o fs x
  named_same v x (named_value h) = operand_same v x h
  named_same v x (named_place h) = place_same v x h
  named_same v x (named_reference k class h) = refers_same k v x h

  reads_same : (k : Kind) → IsRead k → (v : Val) (x : Value) → HandAt s code m k v x → operand o m v ≡ machine.operand o fs x
  reads_same Any r v x h = operand_same v x h
  reads_same Located r v x h = place_same v x h
  reads_same Named r v x h = named_same v x h
  reads_same (LinkTo text) r v x h = absurd r
  reads_same (OwnerOf text) r v x h = absurd r
  reads_same (LinkOf j) r v x h = absurd r
  reads_same (Refers class) r v x h = absurd r
  reads_same (FixedOf d) r v x h = absurd r

  -- it goes back to an element, an image or a cell, or is dropped
  module _ (t2 : TextVal) (p : World) (r : World → Instances → Run Configuration) (y : World → Frames → Run Machine) (as_is : (p : World) → Alike R (r p m) (y p fs)) (after : (p : World) (m' : Instances) (fs' : Frames) → Changed s code Every m fs m' fs' → Alike R (r p m') (y p fs')) where
    value_back : (v : Val) (x : Value) → ValAt s code m v x → Alike R (put_back v t2 p m r) (rows.put_back x t2 p fs y)
    unfolding put_back rows.put_back putting rows.putting having
    value_back _ _ plain_at = as_is p
    value_back _ _ link_at = as_is p
    value_back _ _ array_at = as_is p
    value_back _ _ (element_at {a} {n}) = alike_same Configuration Machine R World (element_set p a n (Text t2)) p _ _ (λ p. as_is p)
    value_back _ _ (image_at {n}) = alike_same Configuration Machine R World (image_set p n (Text t2)) p _ _ (λ p. as_is p)
    value_back _ _ (actual_at h) = as_is p
    value_back _ _ (procedure_at h) = as_is p

    cell_back : (j u : ℕ) (key : Key) → Stands s m j u → frame_text s u ≡ u → HasCell s u key → is_fixed s key ≡ false → is_declared key ≡ true → Alike R (put_back (meaning.Address (CellPlace j key None)) t2 p m r) (rows.put_back (machine.Address (CellPlace j (slot_of s code u key) 0)) t2 p fs y)
    unfolding put_back rows.put_back putting rows.putting
    cell_back j u key stands own has varies declared =
        alike_having Configuration Machine R Instances Frames (Changed s code Every m fs) (cell_set m j key (meaning.Of (Text t2))) (machine.cell_set fs j (slot_of s code u key) (machine.Of (Text t2))) p _ _
        (cell_write s code m fs j u key (meaning.Of (Text t2)) (machine.Of (Text t2)) here.store stands own has varies declared plain_at) (λ m' fs' em efs w. after p m' fs' w)

    place_back : (v : Val) (x : Value) → PlaceIs s code m v x → Alike R (put_back v t2 p m r) (rows.put_back x t2 p fs y)
    place_back v x h =
        subst (λ z. Alike R (put_back z t2 p m r) (rows.put_back x t2 p fs y)) (sym h.is_val)
        (subst (λ z. Alike R (put_back (meaning.Address (CellPlace h.instance h.key None)) t2 p m r) (rows.put_back z t2 p fs y)) (sym h.is_value) (cell_back h.instance h.text h.key h.stands h.own h.has h.varies h.declared))

    -- a reference is no text
    reference_back : (k : ℕ) (v : Val) (x : Value) → RefersAt s code m k v x → Alike R (put_back v t2 p m r) (rows.put_back x t2 p fs y)
    unfolding put_back putting
    reference_back k _ _ (refers_cell st own has varies declared) = alike_unruled Configuration Machine R p _
    reference_back k _ _ refers_element = alike_unruled Configuration Machine R p _

    named_back : (v : Val) (x : Value) → NamedAt s code m v x → Alike R (put_back v t2 p m r) (rows.put_back x t2 p fs y)
    named_back v x (named_value h) = value_back v x h
    named_back v x (named_place h) = place_back v x h
    named_back v x (named_reference k class h) = reference_back k v x h

    back : (k : Kind) → IsRead k → (v : Val) (x : Value) → HandAt s code m k v x → Alike R (put_back v t2 p m r) (rows.put_back x t2 p fs y)
    back Any i v x h = value_back v x h
    back Located i v x h = place_back v x h
    back Named i v x h = named_back v x h
    back (LinkTo text) i v x h = absurd i
    back (OwnerOf text) i v x h = absurd i
    back (LinkOf j) i v x h = absurd i
    back (Refers class) i v x h = absurd i
    back (FixedOf d) i v x h = absurd i

  moves_back : (f : Option Val) (f' : Option Value) → Both (FirstAt Configuration Machine R Val Value (HandAt s code m) (operand o m) (machine.operand o fs) reads_same) f f' → (moved : Option TextVal) (p : World) (r : World → Instances → Run Configuration) (y : World → Frames → Run Machine) → ((p : World) → Alike R (r p m) (y p fs)) → ((p : World) (m' : Instances) (fs' : Frames) → Changed s code Every m fs m' fs' → Alike R (r p m') (y p fs'))
      → Alike R (putting_back put_back f moved p m r) (putting_back rows.put_back f' moved p fs y)
  unfolding putting_back
  moves_back None None h moved p r y as_is after = as_is p
  moves_back None (Some x) h moved p r y as_is after = absurd h
  moves_back (Some v) None h moved p r y as_is after = absurd h
  moves_back (Some v) (Some x) h None p r y as_is after = as_is p
  moves_back (Some v) (Some x) h (Some t2) p r y as_is after = back t2 p r y as_is after h.0 h.1 v x h.2

  -- ---- the value that it leaves, if it leaves one

  pub left_with : (value : Option Plain) (result : Option StandardType) (left : List Kind) (vals' : List Val) (stack' : List Value) → is_some value ≡ has_value result → ks' ≡ given (has_value result) left → StackAt (HandAt s code m) left vals' stack' → StackAt (HandAt s code m) ks' (with_value value vals') (rows.with_value value stack')
  left_with None result left vals' stack' e out h = kinds_as s code (sym (out ∙ ap (λ g. given g left) (sym e))) h
  left_with (Some v) result left vals' stack' e out h = kinds_as s code (sym (out ∙ ap (λ g. given g left) (sym e))) (more_at plain_at h)

  roomy : (name : Standard) (many : ℕ) (left : List Kind) → many ≡ length (operands_of (row_of name).function) → AllRead many ks left → (has_value (row_of name).result ≡ true → length left < b.limit) → room_for name a_top ≡ true
  roomy name many left counts e fits =
      let deep : length stack ≡ length (operands_of (row_of name).function) + length left = sym (stack_length ks vals stack here.values) ∙ read_length many ks left e ∙ ap (λ n. n + length left) counts in
      let fits_on : has_value (row_of name).result ≡ true → length left < b.room = λ e.
      let lt = fits e in
      let more = here.roomy in
      omega (arith, lt, more)
      in
      has_room_is (row_of name).result b.room (length stack) (length (operands_of (row_of name).function)) (length left) fits_on deep

  whenever : (test : Bool) (r : Run Configuration) (x : Run Machine) → test ≡ true → Alike R r x → Alike R r (when test o x)
  unfolding when
  whenever test r x e h = chosen (λ z. Alike R r z) test x (no_rule o) e h

  -- what it does with its operands
  module _ (name : Standard) (line : ℕ) (left : List Kind) (out : ks' ≡ given (has_value (row_of name).result) left) (place : q ≡ suc pc) where
    answered : (ps : List Plain) (effect : Effect) (f : Option Val) (f' : Option Value) (vals' : List Val) (stack' : List Value) → Both (FirstAt Configuration Machine R Val Value (HandAt s code m) (operand o m) (machine.operand o fs) reads_same) f f' → StackAt (HandAt s code m) left vals' stack' → standard_effect name ps o.store ≡ Some effect → (p : World) (x : Result (Option Plain) RunError) → effect.answer ≡ x
        → Alike R (computing line x p (λ value. putting_back put_back f effect.moved p m (λ p m. go p m inst w (with_value value vals') rest)))
        (computing line x p (λ value. putting_back rows.put_back f' effect.moved p fs (λ p m. machine.on p m a_top (rows.with_value value stack') below)))
    unfolding computing
    answered ps effect f f' vals' stack' b2 h e p (Ok value) is =
        let hs = left_with value (row_of name).result left vals' stack' (standard_valued name ps o.store effect value e is) out h in
        moves_back f f' b2 effect.moved p _ _
        (λ p. onward s code l o m inst w vals rest fs t b pc stack below ks here u q ks' low k hs refl place)
        (λ p m' fs' r. wrote_on s code l o m inst w vals rest fs t b pc stack below ks here u q ks' low k m' fs' r ks' hs refl place)
    answered ps effect f f' vals' stack' b2 h e p (Err error) is = alike_stopping Configuration Machine R _ p

    effected : (ps : List Plain) (x : Option Effect) (f : Option Val) (f' : Option Value) (vals' : List Val) (stack' : List Value) → Both (FirstAt Configuration Machine R Val Value (HandAt s code m) (operand o m) (machine.operand o fs) reads_same) f f' → StackAt (HandAt s code m) left vals' stack' → standard_effect name ps o.store ≡ x
        → Alike R (having x o (λ effect. taking l line effect.wanted o (λ p. computing line effect.answer (record p { store = effect.store }) (λ value. putting_back put_back f effect.moved (record p { store = effect.store }) m (λ p m. go p m inst w (with_value value vals') rest)))))
        (having x o (λ effect. taking l line effect.wanted o (λ p. computing line effect.answer (record p { store = effect.store }) (λ value. putting_back rows.put_back f' effect.moved (record p { store = effect.store }) fs (λ p m. machine.on p m a_top (rows.with_value value stack') below)))))
    unfolding having
    effected ps None f f' vals' stack' b2 h e = alike_no_rule Configuration Machine R o
    effected ps (Some effect) f f' vals' stack' b2 h e = alike_taking Configuration Machine R l line effect.wanted o _ _ (λ p. answered ps effect f f' vals' stack' b2 h e (record p { store = effect.store }) effect.answer refl)

    performed : AllRead (length (operands_of (row_of name).function)) ks left → Alike R (performing operand put_back l line name vals o m (λ p m value vals. go p m inst w (with_value value vals) rest)) (performing machine.operand rows.put_back l line name stack o fs (λ p m value stack. machine.on p m a_top (rows.with_value value stack) below))
    unfolding performing
    performed r =
        hand_operands Configuration Machine R Val Value (HandAt s code m) (operand o m) (machine.operand o fs) reads_same (length (operands_of (row_of name).function)) ks left None None vals stack o _ _ tt r here.values
        (λ ps f f' vals' stack' b2 h. effected ps (standard_effect name ps o.store) f f' vals' stack' b2 h refl)

  -- a name that is done on linkages, processes or simulation blocks has no rule as another standard name
  by_name : (name : Standard) (line : ℕ) (c : Bool) → (c ≡ true → (row_of name).function ≡ elsewhere) → (x y : Run Machine) → Alike R (do_op s l o m inst w vals rest (StandardOp name line)) y → Alike R (do_op s l o m inst w vals rest (StandardOp name line)) (choosing c x y)
  unfolding choosing performing pop_operands standard_effect having no_rule
  by_name name line false e x y h = h
  by_name name line true e x y h = refused (row_of name).function (e refl)
    where
      refused : (f : Function) → f ≡ elsewhere → Alike R (pop_operands (operand o m) (length (operands_of f)) None vals o (λ vs first rest'. having (applied f vs o.store) o (λ effect. taking l line effect.wanted o (λ p. computing line effect.answer (record p { store = effect.store }) (λ value. putting_back put_back first effect.moved (record p { store = effect.store }) m (λ p m. go p m inst w (with_value value rest') rest)))))) x
      refused f same = subst (λ f. Alike R (pop_operands (operand o m) (length (operands_of f)) None vals o (λ vs first rest'. having (applied f vs o.store) o (λ effect. taking l line effect.wanted o (λ p. computing line effect.answer (record p { store = effect.store }) (λ value. putting_back put_back first effect.moved (record p { store = effect.store }) m (λ p m. go p m inst w (with_value value rest') rest)))))) x) (sym same) unruled

  pub standard : (name : Standard) (line : ℕ) → OpAt s code m fs inst (site_at t b u) (StandardOp name line) pc q ks ks' → Alike R (do_op s l o m inst w vals rest (StandardOp name line)) (on_top code l o fs a_top below)
  standard name line a =
      let x = a.is in
      at_row s code l o fs a_top below _ (i.Std (pos x.number)) line q x.is
      (alike_found Configuration Machine R Standard (standard_of (pos x.number)) name o _ _ x.numbered
      (by_name name line (is_set_name name) (set_elsewhere name) _ _
      (by_name name line (is_process_name name) (process_elsewhere name) _ _
      (by_name name line (is_simulation_name name) (simulation_elsewhere name) _ _
      (whenever (room_for name a_top) _ _ (roomy name a.many a.left x.as_many a.«in» x.fits)
      (performed name line a.left a.out x.is.on (subst (λ n. AllRead n ks a.left) x.as_many a.«in»)))))))
