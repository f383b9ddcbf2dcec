-- Values are taken from where they lie, and put there.
use Rattle.std.proofs.Common.{◌≡◌, ◌≤◌, ℕ, suc, true, false, List, ◌∷◌, Option, Some, None, refl, sym, ◌∙◌, subst, arith}
use Rattle.std.specs.Prelude.{pos}
use Rattle.sim_base.specs.declared.limits.Limits.{Limits}
use Rattle.sim_scope.specs.Source.{Source, level_of}
use Rattle.sim_values.specs.Plain.{Plain}
use Rattle.sim_code.specs.declared.instr.Instr.TheVariants as i
use Rattle.sim_code.specs.Code.{CodeOf}
use Rattle.sim_code.specs.Outcome.{Going, Run, World}
use Rattle.sim_code.specs.Events.{having, image_set, image_value}
use Rattle.sim_code.specs.Arrays.{element, element_set}
use Rattle.sim_code.specs.Instances.{CellPlace, ElementPlace, Place, ImagePlace}
use Rattle.sim_code.specs.Machine.{Frames, Machine, Value}
use Rattle.sim_code.specs.Machine as machine
use Rattle.sim_code.specs.Rows.{on_top}
use Rattle.sim_code.specs.Rows as rows
use Rattle.sim_code.proofs.Lifts.{alike_unruled, Both, alike_equal, alike_found, alike_having, alike_same}
use Rattle.sim_code.proofs.Simulation.{Alike}
use Rattle.sim_meaning.specs.Meaning.{do_op}
use Rattle.sim_meaning.specs.Pending as meaning
use Rattle.sim_meaning.specs.Pending.{Activation, Configuration, cell, Do, FetchOp, GiveOp, Instances, Item, Key, Op, ShareOp, StoreOp, Target, ToAddress, ToCell, Val, cell_set, place_in, plain, ToText, ToTextOf, variable_in}
use Rattle.sim_meaning.specs.Steps.{go, of_plain, putting, text_assigned}
use Rattle.sim_meaning.specs.Steps as steps
use Rattle.codegen_expr.specs.Sites.{HasCell, Is, slot_of, At, frame_text}
use Rattle.sim_relate.proofs.Known.{Named, NamedAt, actual_at, is_frame, named_place, named_reference, named_value, FixedOf, IsRead, LinkTo, Located, OwnerOf, PlaceIs, Refers, RefersAt, Stands, is_declared, is_fixed, refers_cell, refers_element, Any, Every, HandAt, Kind, StackAt, ValAt, anys, array_at, element_at, link_at, more_at, plain_at, site_at, image_at, Runs, spot, Settled, LinkOf, procedure_at}
use Rattle.sim_relate.proofs.Operations.{StoreIs, TargetAt}
use Rattle.sim_relate.proofs.Relation.{stays, ChainAt, Changed, OpAt, StateAt, WorkAt, there}
use Rattle.sim_relate.proofs.Carried.{all_every, kept_every}
use Rattle.sim_relate.proofs.Frames.{same_frame}
use Rattle.sim_relate.proofs.Hands.{hand_popping, hand_assigning}
use Rattle.sim_relate.proofs.Here.{Here, act, at_row, goes, kinds_as, with_values}
use Rattle.sim_relate.proofs.Living.{own_level, reached}
use Rattle.sim_relate.proofs.Moved.{moved, work_more, work_moved}
use Rattle.sim_relate.proofs.Operators.{at_cell, onward, pending, pushes, same_plain}
use Rattle.sim_relate.proofs.Stores.{low_behind, cell_read, cell_write, placed_here, temp_written}

-- addresses of the same element or image
pub data PlaceAt : Place Key (Option ℕ) → Place ℕ ℕ → Type 0 where
  element_place : {a n : ℕ} → PlaceAt (ElementPlace a n None) (ElementPlace a n 0)
  image_place : {n : ℕ} → PlaceAt (ImagePlace n) (ImagePlace n)

place_both : {s : Source} {code : CodeOf} {m : Instances} (v : Val) (x : Value) → ValAt s code m v x → Both PlaceAt (place_in v) (machine.place_in x)
place_both _ _ plain_at = tt
place_both _ _ link_at = tt
place_both _ _ array_at = tt
place_both _ _ element_at = element_place
place_both _ _ image_at = image_place
place_both _ _ (actual_at h) = tt
place_both _ _ (procedure_at h) = tt

variable_both : {s : Source} {code : CodeOf} {m : Instances} (v : Val) (x : Value) → ValAt s code m v x → Both PlaceAt (variable_in v) (machine.variable_in x)
variable_both _ _ plain_at = tt
variable_both _ _ link_at = tt
variable_both _ _ array_at = tt
variable_both _ _ element_at = element_place
variable_both _ _ image_at = tt
variable_both _ _ (actual_at h) = tt
variable_both _ _ (procedure_at h) = tt

plain_both : (s : Source) (code : CodeOf) (m : Instances) (p : Option Plain) → Both (ValAt s code m) (of_plain p) (machine.of_plain p)
plain_both s code m None = tt
plain_both s code m (Some p) = plain_at

pub value_both : (s : Source) (code : CodeOf) (o : World) (m : Instances) (fs : Frames) (p : Place Key (Option ℕ)) (p' : Place ℕ ℕ) → PlaceAt p p' → Both (ValAt s code m) (steps.value_at o m p) (machine.value_at o fs p')
value_both s code o m fs _ _ (element_place {a} {n}) = plain_both s code m (element o a n)
value_both s code o m fs _ _ (image_place {n}) = plain_both s code m (image_value o n)

module _ (s : Source) (code : CodeOf) (l : Limits) (o : World) (m : Instances) (inst : ℕ) (w : List Item) (vals : List Val) (rest : List Activation) (fs : Frames) (t : ℕ) (b : Runs) (pc : ℕ) (stack : List Value) (below : List machine.Activation) (ks : List Kind) (here : Here s code m fs inst rest t b ks vals stack) (u q : ℕ) (ks' : List Kind) (low : Settled s code t b u) (k : WorkAt s code m fs (λ v. ChainAt s code m fs rest v below) inst t b u w q ks') where
  abbrev R : Configuration → Machine → Type 0
  R = StateAt s code

  abbrev a_top : machine.Activation
  a_top = act inst pc stack b

  abbrev Follows : Op → Type 0
  Follows op = OpAt s code m fs inst (site_at t b u) op pc q ks ks' → Alike R (do_op s l o m inst w vals rest op) (on_top code l o fs a_top below)

  on_with : {p : World} {ks2 : List Kind} {vals2 : List Val} {stack2 : List Value} {next : ℕ} → StackAt (HandAt s code m) ks2 vals2 stack2 → ks' ≡ ks2 → q ≡ next → Alike R (go p m inst w vals2 rest) (Going p (record { chain = act inst next stack2 b ∷ below; memory = fs }))
  on_with h e place = onward s code l o m inst w vals rest fs t b pc stack below ks here u q ks' low k h e place

  -- what lies at an address
  fetched : (v : Val) (x : Value) (vals' : List Val) (stack' : List Value) (left : List Kind) → ValAt s code m v x → StackAt (HandAt s code m) left vals' stack' → ks' ≡ anys 1 left → q ≡ suc pc
      → Alike R (having (place_in v) o (λ p. having (steps.value_at o m p) o (λ v. go o m inst w (v ∷ vals') rest))) (having (machine.place_in x) o (λ p. having (machine.value_at o fs p) o (λ v. machine.on o fs a_top (v ∷ stack') below)))
  fetched v x vals' stack' left h hs e place =
      alike_having Configuration Machine R (Place Key (Option ℕ)) (Place ℕ ℕ) PlaceAt (place_in v) (machine.place_in x) o _ _ (place_both v x h) (λ p p' ep ep' there.
      alike_having Configuration Machine R Val Value (ValAt s code m) (steps.value_at o m p) (machine.value_at o fs p') o _ _ (value_both s code o m fs p p' there) (λ v x ev ex h. on_with (more_at h hs) e place))

  -- what lies in a cell
  in_cell : (j z : ℕ) (key : Key) (class : Option ℕ) (slot class' : ℕ) (vals' : List Val) (stack' : List Value) (left : List Kind) → Both (ValAt s code m) (cell m j key) (machine.cell fs j slot) → StackAt (HandAt s code m) left vals' stack' → ks' ≡ anys 1 left → q ≡ suc pc
      → Alike R (having (place_in (meaning.Address (CellPlace j key class))) o (λ p. having (steps.value_at o m p) o (λ v. go o m inst w (v ∷ vals') rest))) (having (machine.place_in (machine.Address (CellPlace j slot class'))) o (λ p. having (machine.value_at o fs p) o (λ v. machine.on o fs a_top (v ∷ stack') below)))
  unfolding having
  in_cell j z key class slot class' vals' stack' left b hs e place =
      alike_having Configuration Machine R Val Value (ValAt s code m) (cell m j key) (machine.cell fs j slot) o _ _ b (λ v x ev ex h. on_with (more_at h hs) e place)

  abbrev meaning_fetches : Val → List Val → Run Configuration
  meaning_fetches v vals' = having (place_in v) o (λ p. having (steps.value_at o m p) o (λ v. go o m inst w (v ∷ vals') rest))

  abbrev machine_fetches : Value → List Value → Run Machine
  machine_fetches x stack' = having (machine.place_in x) o (λ p. having (machine.value_at o fs p) o (λ v. machine.on o fs a_top (v ∷ stack') below))

  fetch_refers : (class : ℕ) (v : Val) (x : Value) (vals' : List Val) (stack' : List Value) (left : List Kind) → RefersAt s code m class v x → StackAt (HandAt s code m) left vals' stack' → ks' ≡ anys 1 left → q ≡ suc pc → Alike R (meaning_fetches v vals') (machine_fetches x stack')
  unfolding having
  fetch_refers class _ _ vals' stack' left (refers_cell {j} {t} {key} st own has varies declared) hs e place =
      alike_having Configuration Machine R Val Value (ValAt s code m) (cell m j key) (machine.cell fs j (slot_of s code t key)) o _ _ (cell_read s code m fs j t key here.store st own has varies) (λ v x ev ex h. on_with (more_at h hs) e place)
  fetch_refers class _ _ vals' stack' left (refers_element {a} {n}) hs e place =
      alike_having Configuration Machine R Val Value (ValAt s code m) (of_plain (element o a n)) (machine.of_plain (element o a n)) o _ _ (plain_both s code m (element o a n)) (λ v x ev ex h. on_with (more_at h hs) e place)

  fetch_located : (v : Val) (x : Value) (vals' : List Val) (stack' : List Value) (left : List Kind) → PlaceIs s code m v x → StackAt (HandAt s code m) left vals' stack' → ks' ≡ anys 1 left → q ≡ suc pc → Alike R (meaning_fetches v vals') (machine_fetches x stack')
  fetch_located v x vals' stack' left h hs e place =
      subst (λ z. Alike R (meaning_fetches z vals') (machine_fetches x stack')) (sym h.is_val)
      (subst (λ z. Alike R (meaning_fetches (meaning.Address (CellPlace h.instance h.key None)) vals') (machine_fetches z stack')) (sym h.is_value)
      (in_cell h.instance h.text h.key None (slot_of s code h.text h.key) 0 vals' stack' left (cell_read s code m fs h.instance h.text h.key here.store h.stands h.own h.has h.varies) hs e place))

  fetch_named : (v : Val) (x : Value) (vals' : List Val) (stack' : List Value) (left : List Kind) → NamedAt s code m v x → StackAt (HandAt s code m) left vals' stack' → ks' ≡ anys 1 left → q ≡ suc pc → Alike R (meaning_fetches v vals') (machine_fetches x stack')
  fetch_named v x vals' stack' left (named_value h) hs e place = fetched v x vals' stack' left h hs e place
  fetch_named v x vals' stack' left (named_place h) hs e place = fetch_located v x vals' stack' left h hs e place
  fetch_named v x vals' stack' left (named_reference k class h) hs e place = fetch_refers k v x vals' stack' left h hs e place

  fetch_with : (kind : Kind) (left : List Kind) → Is code i.Fetch pc q → ks ≡ kind ∷ left → ((v : Val) (x : Value) (vals' : List Val) (stack' : List Value) → HandAt s code m kind v x → StackAt (HandAt s code m) left vals' stack' → Alike R (meaning_fetches v vals') (machine_fetches x stack')) → Alike R (do_op s l o m inst w vals rest FetchOp) (on_top code l o fs a_top below)
  fetch_with kind left is e f = at_row s code l o fs a_top below _ i.Fetch is.line q is.is
      (hand_popping Configuration Machine R Val Value (HandAt s code m) plain machine.plain same_plain kind left vals stack o _ _ (kinds_as s code e here.values)
      (λ v x vals' stack' ev ex h hs. f v x vals' stack' h hs))

  pub fetch_any : (left : List Kind) → Is code i.Fetch pc q → ks ≡ Any ∷ left → ks' ≡ anys 1 left → Alike R (do_op s l o m inst w vals rest FetchOp) (on_top code l o fs a_top below)
  fetch_any left is e out = fetch_with Any left is e (λ v x vals' stack' h hs. fetched v x vals' stack' left h hs out is.is.on)

  pub fetch_place : (left : List Kind) → Is code i.Fetch pc q → ks ≡ Located ∷ left → ks' ≡ anys 1 left → Alike R (do_op s l o m inst w vals rest FetchOp) (on_top code l o fs a_top below)
  fetch_place left is e out = fetch_with Located left is e (λ v x vals' stack' h hs. fetch_located v x vals' stack' left h hs out is.is.on)

  pub fetch_by_name : (left : List Kind) → Is code i.Fetch pc q → ks ≡ Named ∷ left → ks' ≡ anys 1 left → Alike R (do_op s l o m inst w vals rest FetchOp) (on_top code l o fs a_top below)
  fetch_by_name left is e out = fetch_with Named left is e (λ v x vals' stack' h hs. fetch_named v x vals' stack' left h hs out is.is.on)

  pub fetch_reference : (class : ℕ) (left : List Kind) → Is code i.Fetch pc q → ks ≡ Refers class ∷ left → ks' ≡ anys 1 left → Alike R (do_op s l o m inst w vals rest FetchOp) (on_top code l o fs a_top below)
  fetch_reference class left is e out = fetch_with (Refers class) left is e (λ v x vals' stack' h hs. fetch_refers class v x vals' stack' left h hs out is.is.on)

  -- ---- one left side

  -- both go on behind a write of a cell
  pub wrote_on : {p : World} {vals' : List Val} {stack' : List Value} {next : ℕ} (m' : Instances) (fs' : Frames) → Changed s code Every m fs m' fs' → (ks2 : List Kind) → StackAt (HandAt s code m) ks2 vals' stack' → ks' ≡ ks2 → q ≡ next → Alike R (go p m' inst w vals' rest) (Going p (record { chain = act inst next stack' b ∷ below; memory = fs' }))
  wrote_on m' fs' r ks2 hs e place =
      goes s code u q (moved s code r (kept_every m) here (kinds_as s code (sym e) hs))
      (work_moved s code r here (all_every rest) below u (λ frame n le within lt. r.keeps.temps inst t n b.block tt here.stands here.found (record { behind = le; within = within })) w q ks' k) place

  pub to_cell : (j : ℕ) (key : Key) → Follows (StoreOp (ToCell j key))
  to_cell j key a =
      let c = a.0 in
      at_row s code l o fs a_top below _ (i.Store (pos (level_of s c.text)) (pos (slot_of s code c.text key))) c.is.line q c.is.is
      (hand_popping Configuration Machine R Val Value (HandAt s code m) plain machine.plain same_plain Any ks' vals stack o _ _ (kinds_as s code a.1 here.values)
      (λ v x vals' stack' ev ex h hs.
      at_cell s code l o m inst w vals rest fs t b pc stack below ks here o (level_of s c.text) j (slot_of s code c.text key) _ _ (reached s m inst c.text j here.lives c.reaches)
      (alike_having Configuration Machine R Instances Frames (Changed s code Every m fs) (cell_set m j key v) (machine.cell_set fs j (slot_of s code c.text key) x) o _ _ (cell_write s code m fs j c.text key v x here.store c.reaches.stands c.own c.has c.varies c.declared h)
      (λ m' fs' em efs r. wrote_on m' fs' r ks' hs refl c.is.is.on))))

  put_element : (v : Val) (x : Value) (vals2 : List Val) (stack2 : List Value) → ValAt s code m v x → StackAt (HandAt s code m) ks' vals2 stack2 → q ≡ suc pc → (a n : ℕ)
      → Alike R (putting (ElementPlace a n None) v o m (λ o m. go o m inst w vals2 rest)) (rows.putting (ElementPlace a n 0) x o fs (λ o m. machine.on o m a_top stack2 below))
  unfolding putting rows.putting having
  put_element v x vals2 stack2 h h2 place a n =
      alike_equal Configuration Machine R Plain (plain v) (machine.plain x) o _ _ (same_plain v x h) (λ p. alike_same Configuration Machine R World (element_set o a n p) o _ _ (λ o'. on_with h2 refl place))

  put_image : (v : Val) (x : Value) (vals2 : List Val) (stack2 : List Value) → ValAt s code m v x → StackAt (HandAt s code m) ks' vals2 stack2 → q ≡ suc pc → (n : ℕ)
      → Alike R (putting (ImagePlace n) v o m (λ o m. go o m inst w vals2 rest)) (rows.putting (ImagePlace n) x o fs (λ o m. machine.on o m a_top stack2 below))
  unfolding putting rows.putting
  put_image v x vals2 stack2 h h2 place n =
      alike_equal Configuration Machine R Plain (plain v) (machine.plain x) o _ _ (same_plain v x h) (λ p. alike_same Configuration Machine R World (image_set o n p) o _ _ (λ o'. on_with h2 refl place))

  put_cell : (v : Val) (x : Value) (vals2 : List Val) (stack2 : List Value) → ValAt s code m v x → StackAt (HandAt s code m) ks' vals2 stack2 → q ≡ suc pc → (j z : ℕ) (key : Key) → Stands s m j z → frame_text s z ≡ z → HasCell s z key → is_fixed s key ≡ false → is_declared key ≡ true
      → Alike R (putting (CellPlace j key None) v o m (λ o m. go o m inst w vals2 rest)) (rows.putting (CellPlace j (slot_of s code z key) 0) x o fs (λ o m. machine.on o m a_top stack2 below))
  unfolding putting rows.putting
  put_cell v x vals2 stack2 h h2 place j z key st own has varies declared =
      alike_having Configuration Machine R Instances Frames (Changed s code Every m fs) (cell_set m j key v) (machine.cell_set fs j (slot_of s code z key) x) o _ _ (cell_write s code m fs j z key v x here.store st own has varies declared h)
      (λ m' fs' em efs r. wrote_on m' fs' r ks' h2 refl place)

  abbrev meaning_puts : Val → Val → List Val → Run Configuration
  meaning_puts v p vals2 = having (variable_in p) o (λ p. putting p v o m (λ o m. go o m inst w vals2 rest))

  abbrev machine_puts : (line : ℕ) → Value → Value → List Value → Run Machine
  machine_puts line x p stack2 = having (machine.variable_in p) o (λ p. rows.storing code line p x o fs (λ o m. machine.on o m a_top stack2 below))

  puts_value : (line : ℕ) (v : Val) (x : Value) (p : Val) (p' : Value) (vals2 : List Val) (stack2 : List Value) → ValAt s code m v x → ValAt s code m p p' → StackAt (HandAt s code m) ks' vals2 stack2 → q ≡ suc pc → Alike R (meaning_puts v p vals2) (machine_puts line x p' stack2)
  unfolding having
  puts_value line v x p p' vals2 stack2 h hp h2 place =
      alike_having Configuration Machine R (Place Key (Option ℕ)) (Place ℕ ℕ) PlaceAt (variable_in p) (machine.variable_in p') o _ _ (variable_both p p' hp) (λ z z' ez ez' there. puts_one line v x vals2 stack2 h h2 place z z' there)
    where
      puts_one : (line : ℕ) (v : Val) (x : Value) (vals2 : List Val) (stack2 : List Value) → ValAt s code m v x → StackAt (HandAt s code m) ks' vals2 stack2 → q ≡ suc pc → (z : Place Key (Option ℕ)) (z' : Place ℕ ℕ) → PlaceAt z z'
          → Alike R (putting z v o m (λ o m. go o m inst w vals2 rest)) (rows.storing code line z' x o fs (λ o m. machine.on o m a_top stack2 below))
      puts_one line v x vals2 stack2 h h2 place _ _ (element_place {a} {n}) = put_element v x vals2 stack2 h h2 place a n
      puts_one line v x vals2 stack2 h h2 place _ _ (image_place {n}) = put_image v x vals2 stack2 h h2 place n

  puts_located : (line : ℕ) (v : Val) (x : Value) (p : Val) (p' : Value) (vals2 : List Val) (stack2 : List Value) → ValAt s code m v x → PlaceIs s code m p p' → StackAt (HandAt s code m) ks' vals2 stack2 → q ≡ suc pc → Alike R (meaning_puts v p vals2) (machine_puts line x p' stack2)
  unfolding having
  puts_located line v x p p' vals2 stack2 h hp h2 place =
      subst (λ z. Alike R (meaning_puts v z vals2) (machine_puts line x p' stack2)) (sym hp.is_val)
      (subst (λ z. Alike R (meaning_puts v (meaning.Address (CellPlace hp.instance hp.key None)) vals2) (machine_puts line x z stack2)) (sym hp.is_value)
      (put_cell v x vals2 stack2 h h2 place hp.instance hp.text hp.key hp.stands hp.own hp.has hp.varies hp.declared))

  -- a reference goes by another operator
  puts_reference : (line k : ℕ) (v : Val) (x : Value) (p : Val) (p' : Value) (vals2 : List Val) (stack2 : List Value) → RefersAt s code m k p p' → Alike R (meaning_puts v p vals2) (machine_puts line x p' stack2)
  unfolding having putting
  puts_reference line k v x _ _ vals2 stack2 (refers_cell st own has varies declared) = alike_unruled Configuration Machine R o _
  puts_reference line k v x _ _ vals2 stack2 refers_element = alike_unruled Configuration Machine R o _

  puts_named : (line : ℕ) (v : Val) (x : Value) (p : Val) (p' : Value) (vals2 : List Val) (stack2 : List Value) → ValAt s code m v x → NamedAt s code m p p' → StackAt (HandAt s code m) ks' vals2 stack2 → q ≡ suc pc → Alike R (meaning_puts v p vals2) (machine_puts line x p' stack2)
  puts_named line v x p p' vals2 stack2 h (named_value hp) h2 place = puts_value line v x p p' vals2 stack2 h hp h2 place
  puts_named line v x p p' vals2 stack2 h (named_place hp) h2 place = puts_located line v x p p' vals2 stack2 h hp h2 place
  puts_named line v x p p' vals2 stack2 h (named_reference k class hp) h2 place = puts_reference line k v x p p' vals2 stack2 hp

  puts_at : (line : ℕ) (kind : Kind) → IsRead kind → (v : Val) (x : Value) (p : Val) (p' : Value) (vals2 : List Val) (stack2 : List Value) → ValAt s code m v x → HandAt s code m kind p p' → StackAt (HandAt s code m) ks' vals2 stack2 → q ≡ suc pc → Alike R (meaning_puts v p vals2) (machine_puts line x p' stack2)
  puts_at line Any i v x p p' vals2 stack2 h hp h2 place = puts_value line v x p p' vals2 stack2 h hp h2 place
  puts_at line Located i v x p p' vals2 stack2 h hp h2 place = puts_located line v x p p' vals2 stack2 h hp h2 place
  puts_at line Named i v x p p' vals2 stack2 h hp h2 place = puts_named line v x p p' vals2 stack2 h hp h2 place
  puts_at line (LinkTo z) i v x p p' vals2 stack2 h hp h2 place = absurd i
  puts_at line (OwnerOf z) i v x p p' vals2 stack2 h hp h2 place = absurd i
  puts_at line (LinkOf z) i v x p p' vals2 stack2 h hp h2 place = absurd i
  puts_at line (Refers z) i v x p p' vals2 stack2 h hp h2 place = absurd i
  puts_at line (FixedOf z) i v x p p' vals2 stack2 h hp h2 place = absurd i

  pub to_address : Follows (StoreOp ToAddress)
  to_address a =
      let e = a.1 in
      at_row s code l o fs a_top below _ i.Put a.0.line q a.0.is
      (hand_popping Configuration Machine R Val Value (HandAt s code m) plain machine.plain same_plain Any (e.place ∷ ks') vals stack o _ _ (kinds_as s code e.«in» here.values)
      (λ v x vals1 stack1 ev ex h h1.
      hand_popping Configuration Machine R Val Value (HandAt s code m) plain machine.plain same_plain e.place ks' vals1 stack1 o _ _ h1
      (λ p p' vals2 stack2 ep ep' hp h2. puts_at a.0.line e.place e.reads v x p p' vals2 stack2 h hp h2 a.0.is.on)))

  -- a text is assigned to a text
  pub to_text : (line : ℕ) → At code i.AssignT line pc q → ks ≡ anys 2 ks' → Alike R (text_assigned o m inst w vals rest line) (on_top code l o fs a_top below)
  to_text line is e = at_row s code l o fs a_top below _ i.AssignT line q is
      (hand_assigning Configuration Machine R Val Value (HandAt s code m) plain machine.plain same_plain line ks' vals stack o _ _ (kinds_as s code e here.values)
      (λ p vals' stack' h. on_with h refl is.on))

  -- ---- several left sides

  pub share : (ts : List Target) → Follows (ShareOp ts)
  share ts a =
      at_row s code l o fs a_top below _ (i.Store (pos (level_of s t)) (pos a.temp)) a.kept.line a.x a.kept.is
      (hand_popping Configuration Machine R Val Value (HandAt s code m) plain machine.plain same_plain Any a.left vals stack o _ _ (kinds_as s code a.«in» here.values)
      (λ v x vals' stack' ev ex h hs.
      let r = temp_written s code m fs inst t b a.temp x here.store here.stands here.lives here.found a.is_temp.behind a.is_temp.within in
      let more : u ≤ suc a.temp = omega (arith, a.unused) in
      let again : suc a.temp ≤ suc a.temp = omega arith in
      let frame = is_frame s code t b u a.temp low.at a.unused a.is_temp.within in
      at_cell s code l o m inst w vals rest fs t b pc stack below ks here o (level_of s t) inst a.temp _ _ (own_level s m inst t here.stands here.lives)
      (alike_found Configuration Machine R Frames (machine.cell_set fs inst a.temp x) r.frames o _ _ r.is
      (goes s code (suc a.temp) a.x (moved s code r.changed (here.kept_alone frame) here hs) (
        a.x,
        suc a.temp,
        q,
        ks',
        t,
        spot t b (suc a.temp),
        same_frame s t,
        there refl,
        again,
        low_behind s code t b u a.temp frame low.at a.is_temp.behind,
        stays (record { temp = a.temp; x = x; like = h; last = refl; is_temp = record { behind = a.is_temp.behind; within = a.is_temp.within }; holds = r.holds; gives = a.gives }) low.calm refl,
        work_more s code m r.frames (λ v. ChainAt s code m r.frames rest v below) inst t b u (suc a.temp) more w q ks'
            (work_moved s code r.changed here (here.alone frame) below u (λ base n le within lt. r.others n (λ same. let no : ⊥ = omega (arith, same, lt, a.unused) in no)) w q ks' k),
      ) a.kept.is.on))))

  -- what a value is given to is no variable that is found anew
  target_store : (x : Target) (p p' : ℕ) (before behind : List Kind) → TargetAt s code m inst (site_at t b u) x p p' before behind → StoreIs s code m inst (site_at t b u) x p p' before behind
  target_store (ToCell j key) p p' before behind a = a
  target_store ToAddress p p' before behind a = a
  target_store (ToText line) p p' before behind a = a
  target_store (ToTextOf j key line) p p' before behind a = a
  target_store (meaning.ToReference line) p p' before behind a = a
  target_store (meaning.ToNamed c line) p p' before behind a = a
  target_store (meaning.ToPlace x) p p' before behind a = absurd a
  target_store (meaning.ToTextAt x line) p p' before behind a = absurd a
  target_store (meaning.ToReferenceAt x line) p p' before behind a = absurd a

  -- what was taken lies in its temp
  pub give : (v : Val) (x : Target) (ts : List Target) → Follows (GiveOp v (x ∷ ts))
  give v x ts a =
      let g = a.gives in
      let load = g.3 in
      at_row s code l o fs a_top below _ (i.Load (pos (level_of s t)) (pos a.temp)) load.is.line g.0 load.is.is
      (at_cell s code l o m inst w vals rest fs t b pc stack below ks here o (level_of s t) inst a.temp _ _ (own_level s m inst t here.stands here.lives)
      (alike_found Configuration Machine R Value (machine.cell fs inst a.temp) a.x o _ _ (placed_here s code m fs here.store inst a.temp here.lives ∙ a.holds)
      (pushes s code l o m inst w vals rest fs t b pc stack below ks here o a.x _ _ load.fits
      (goes s code u g.0 (with_values s code here (more_at a.like here.values))
      (pending s code l o m inst w vals rest fs t b pc stack below ks here u q ks' low k (Do (GiveOp v ts) ∷ w) (StoreOp x) g.0 g.1 (Any ∷ ks) g.2 (target_store x g.0 g.1 (Any ∷ ks) g.2 g.4)
      (pending s code l o m inst w vals rest fs t b pc stack below ks here u q ks' low k w (GiveOp v ts) g.1 q g.2 ks' (record { temp = a.temp; x = a.x; like = a.like; last = a.last; is_temp = a.is_temp; holds = a.holds; gives = g.5 }) k)) load.is.is.on))))
