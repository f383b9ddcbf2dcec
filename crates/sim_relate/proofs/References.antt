-- Objects and references: attributes, classes that are tested, and references that are held against their classes.
use Rattle.std.proofs.Common.{◌≡◌, ℕ, suc, Bool, true, false, List, ◌∷◌, Option, Some, None, refl, sym, ap, ◌∙◌, subst}
use Rattle.std.specs.Prelude.{⊤, pos}
use Rattle.sim_base.specs.declared.limits.Limits.{Limits}
use Rattle.sim_scope.specs.Source.{Source, level_of}
use Rattle.sim_tree.specs.declared.expr.Membership.{Membership}
use Rattle.sim_tree.specs.declared.expr.Membership.TheVariants as membership
use Rattle.sim_values.specs.Plain.{Character, Integer, Nothing, Object, Plain, Text, Truth, MainOf}
use Rattle.sim_code.specs.declared.instr.Instr.TheVariants as i
use Rattle.sim_code.specs.Classes as classes
use Rattle.sim_code.specs.Code.{CodeOf}
use Rattle.sim_code.specs.Arrays.{element_set, keeping_array, live_array}
use Rattle.sim_code.specs.Events.{choosing, having, pop_object, pop_plain, popping, qualifying, referring, not_nothing, pop_reference}
use Rattle.sim_code.specs.Machine.{Frames, Machine, Value}
use Rattle.sim_code.specs.Machine as machine
use Rattle.sim_code.specs.Instances.{CellPlace, ElementPlace, ImagePlace, Place}
use Rattle.sim_code.specs.Outcome.{ArrayOf, Going, Run, World}
use Rattle.sim_code.specs.Rows.{on_top}
use Rattle.sim_code.specs.Rows as rows
use Rattle.sim_code.proofs.Lifts.{alike_having, alike_choosing, alike_found, alike_passes, alike_same, alike_stopping, alike_unruled}
use Rattle.sim_code.proofs.Simulation.{Alike}
use Rattle.sim_meaning.specs.Levels.{belongs, has_procedure, is_in, is_in_any, main_belongs, stands_in}
use Rattle.sim_meaning.specs.Meaning.{do_op}
use Rattle.sim_meaning.specs.Objects.{is_member, putting_reference}
use Rattle.sim_meaning.specs.Pending.{Activation, AttributeOp, Configuration, Declared, Eval, QualifiedPlaceOf, Instances, Item, KeepOp, Key, MemberOp, NotNoneOp, ObjectOp, Op, QuaOp, QualifiedElementOp, ReferOp, SwapOp, Val, array_in, cell_set, place_in, plain}
use Rattle.sim_meaning.specs.Pending as meaning
use Rattle.sim_meaning.specs.Sane.{AllName, Names}
use Rattle.sim_meaning.specs.Steps.{go}
use Rattle.codegen_expr.specs.Sites.{HasCell, class_number, frame_text, slot_of}
use Rattle.codegen.specs.Compiled.{Compiled}
use Rattle.sim_relate.proofs.Assigns.{wrote_on}
use Rattle.sim_relate.proofs.Admitting.{admitting_alike, number_found}
use Rattle.sim_relate.proofs.Hands.{hand_finding, hand_popping}
use Rattle.sim_relate.proofs.Here.{Here, act, at_row, kinds_as}
use Rattle.sim_relate.proofs.Known.{NamedAt, actual_at, named_place, named_reference, named_value, Any, Every, RefersAt, FixedOf, Located, Refers, is_fixed, kind_unless, HandAt, Kind, Runs, StackAt, ValAt, anys, array_at, element_at, image_at, link_at, more_at, plain_at, refers_cell, refers_element, site_at, Settled, IsReference, procedure_at}
use Rattle.sim_relate.proofs.Living.{reached}
use Rattle.sim_relate.proofs.Operations.{IsReferred, by_name, of_class}
use Rattle.sim_relate.proofs.ObjectsHere.{ObjectHere, class_named, in_class_same, is_of_same, main_in_same, main_is_same, named_in_same, object_here, of_text}
use Rattle.sim_relate.proofs.Operators.{alike_indexed, at_cell, cell_reached, onward, passing_test, pushes, same_array, same_plain}
use Rattle.sim_relate.proofs.Pending.{anys_more}
use Rattle.sim_relate.proofs.Relation.{ChainAt, Changed, OpAt, StateAt, WorkAt}
use Rattle.sim_relate.proofs.Stores.{cell_there, cell_write}
use Rattle.sim_relate.proofs.Trees.{AttributeIs, Classed, ConstantIs, FoundIs, ReferenceIs}

module _ (s : Source) (code : CodeOf) (coding : Compiled s code) (l : Limits) (o : World) (m : Instances) (inst : ℕ) (w : List Item) (vals : List Val) (rest : List Activation) (fs : Frames) (t : ℕ) (b : Runs) (pc : ℕ) (stack : List Value) (below : List machine.Activation) (ks : List Kind) (here : Here s code m fs inst rest t b ks vals stack) (u q : ℕ) (ks' : List Kind) (low : Settled s code t b u) (k : WorkAt s code m fs (λ v. ChainAt s code m fs rest v below) inst t b u w q ks') where
  abbrev R : Configuration → Machine → Type 0
  R = StateAt s code

  abbrev top : machine.Activation
  top = act inst pc stack b

  abbrev Follows : Op → Type 0
  Follows op = OpAt s code m fs inst (site_at t b u) op pc q ks ks' → Alike R (do_op s l o m inst w vals rest op) (on_top code l o fs top below)

  on_with : {p : World} {ks2 : List Kind} {vals2 : List Val} {stack2 : List Value} {next : ℕ} → StackAt (HandAt s code m) ks2 vals2 stack2 → ks' ≡ ks2 → q ≡ next → Alike R (go p m inst w vals2 rest) (Going p (record { chain = act inst next stack2 b ∷ below; memory = fs }))
  on_with h e place = onward s code l o m inst w vals rest fs t b pc stack below ks here u q ks' low k h e place

  -- a reference that was taken names an object
  named : (v : Val) (vals' : List Val) → vals ≡ v ∷ vals' → Names s m v
  named v vals' e = (subst (AllName s m) e here.names).0

  pub object_named : (j : ℕ) → Names s m (meaning.Of (Object j)) → ObjectHere s code coding m fs here.store j
  object_named j n = object_here s code coding m fs here.store j n

  -- the reference on top: none is E6
  referred_on : (line : ℕ) (v : Val) (x : Value) (r : ℕ → Run Configuration) (z : ℕ → Run Machine) → ValAt s code m v x → Names s m v → ((j : ℕ) → Names s m (meaning.Of (Object j)) → Alike R (r j) (z j)) → Alike R (having (plain v) o (λ p. referring line p o r)) (having (machine.plain x) o (λ p. referring line p o z))
  unfolding having referring
  referred_on line _ _ r z (plain_at {p = Object j}) n f = f j n
  referred_on line _ _ r z (plain_at {p = Nothing}) n f = alike_stopping Configuration Machine R _ o
  referred_on line _ _ r z (plain_at {p = MainOf x}) n f = alike_unruled Configuration Machine R o _
  referred_on line _ _ r z (plain_at {p = Integer x}) n f = alike_unruled Configuration Machine R o _
  referred_on line _ _ r z (plain_at {p = Truth x}) n f = alike_unruled Configuration Machine R o _
  referred_on line _ _ r z (plain_at {p = Character x}) n f = alike_unruled Configuration Machine R o _
  referred_on line _ _ r z (plain_at {p = Text x}) n f = alike_unruled Configuration Machine R o _
  referred_on line _ _ r z link_at n f = alike_unruled Configuration Machine R o _
  referred_on line _ _ r z array_at n f = alike_unruled Configuration Machine R o _
  referred_on line _ _ r z element_at n f = alike_unruled Configuration Machine R o _
  referred_on line _ _ r z image_at n f = alike_unruled Configuration Machine R o _
  referred_on line _ _ r z (actual_at h) n f = alike_unruled Configuration Machine R o _
  referred_on line _ _ r z (procedure_at h) n f = alike_unruled Configuration Machine R o _

  pub pops_object : (line : ℕ) (left : List Kind) (r : ℕ → List Val → Run Configuration) (z : ℕ → List Value → Run Machine) → ks ≡ anys 1 left → ((j : ℕ) (vals' : List Val) (stack' : List Value) → Names s m (meaning.Of (Object j)) → StackAt (HandAt s code m) left vals' stack' → Alike R (r j vals') (z j stack')) → Alike R (pop_object plain line vals o r) (pop_object machine.plain line stack o z)
  unfolding pop_object pop_plain
  pops_object line left r z e f =
      hand_popping Configuration Machine R Val Value (HandAt s code m) plain machine.plain same_plain Any left vals stack o _ _ (kinds_as s code e here.values)
      (λ v x vals' stack' ev ex h hs. referred_on line v x (λ j. r j vals') (λ j. z j stack') h (named v vals' ev) (λ j n. f j vals' stack' n hs))

  -- a reference that is none, or names an object or a main program
  told_on : (line : ℕ) (v : Val) (x : Value) (r : Plain → Run Configuration) (z : Plain → Run Machine) → ValAt s code m v x → Names s m v → ((p : Plain) → Names s m (meaning.Of p) → IsReference p → Alike R (r p) (z p)) → Alike R (having (plain v) o (λ p. not_nothing line p o (r p))) (having (machine.plain x) o (λ p. not_nothing line p o (z p)))
  unfolding having not_nothing
  told_on line _ _ r z (plain_at {p = Object j}) n f = f (Object j) n tt
  told_on line _ _ r z (plain_at {p = MainOf j}) n f = f (MainOf j) n tt
  told_on line _ _ r z (plain_at {p = Nothing}) n f = alike_stopping Configuration Machine R _ o
  told_on line _ _ r z (plain_at {p = Integer x}) n f = alike_unruled Configuration Machine R o _
  told_on line _ _ r z (plain_at {p = Truth x}) n f = alike_unruled Configuration Machine R o _
  told_on line _ _ r z (plain_at {p = Character x}) n f = alike_unruled Configuration Machine R o _
  told_on line _ _ r z (plain_at {p = Text x}) n f = alike_unruled Configuration Machine R o _
  told_on line _ _ r z link_at n f = alike_unruled Configuration Machine R o _
  told_on line _ _ r z array_at n f = alike_unruled Configuration Machine R o _
  told_on line _ _ r z element_at n f = alike_unruled Configuration Machine R o _
  told_on line _ _ r z image_at n f = alike_unruled Configuration Machine R o _
  told_on line _ _ r z (actual_at h) n f = alike_unruled Configuration Machine R o _
  told_on line _ _ r z (procedure_at h) n f = alike_unruled Configuration Machine R o _

  pops_reference : (line : ℕ) (left : List Kind) (r : Plain → List Val → Run Configuration) (z : Plain → List Value → Run Machine) → ks ≡ anys 1 left → ((p : Plain) (vals' : List Val) (stack' : List Value) → Names s m (meaning.Of p) → IsReference p → StackAt (HandAt s code m) left vals' stack' → Alike R (r p vals') (z p stack')) → Alike R (pop_reference plain line vals o r) (pop_reference machine.plain line stack o z)
  unfolding pop_reference pop_plain
  pops_reference line left r z e f =
      hand_popping Configuration Machine R Val Value (HandAt s code m) plain machine.plain same_plain Any left vals stack o _ _ (kinds_as s code e here.values)
      (λ v x vals' stack' ev ex h hs. told_on line v x (λ p. r p vals') (λ p. z p stack') h (named v vals' ev) (λ p n i. f p vals' stack' n i hs))

  -- the object on top, where the machine lets a main program go on too
  object_told : (line : ℕ) (v : Val) (x : Value) (r : ℕ → Run Configuration) (z : Plain → Run Machine) → ValAt s code m v x → Names s m v → ((j : ℕ) → Names s m (meaning.Of (Object j)) → Alike R (r j) (z (Object j))) → Alike R (having (plain v) o (λ p. referring line p o r)) (having (machine.plain x) o (λ p. not_nothing line p o (z p)))
  unfolding having referring not_nothing
  object_told line _ _ r z (plain_at {p = Object j}) n f = f j n
  object_told line _ _ r z (plain_at {p = Nothing}) n f = alike_stopping Configuration Machine R _ o
  object_told line _ _ r z (plain_at {p = MainOf x}) n f = alike_unruled Configuration Machine R o _
  object_told line _ _ r z (plain_at {p = Integer x}) n f = alike_unruled Configuration Machine R o _
  object_told line _ _ r z (plain_at {p = Truth x}) n f = alike_unruled Configuration Machine R o _
  object_told line _ _ r z (plain_at {p = Character x}) n f = alike_unruled Configuration Machine R o _
  object_told line _ _ r z (plain_at {p = Text x}) n f = alike_unruled Configuration Machine R o _
  object_told line _ _ r z link_at n f = alike_unruled Configuration Machine R o _
  object_told line _ _ r z array_at n f = alike_unruled Configuration Machine R o _
  object_told line _ _ r z element_at n f = alike_unruled Configuration Machine R o _
  object_told line _ _ r z image_at n f = alike_unruled Configuration Machine R o _
  object_told line _ _ r z (actual_at h) n f = alike_unruled Configuration Machine R o _
  object_told line _ _ r z (procedure_at h) n f = alike_unruled Configuration Machine R o _

  tests_object : (line : ℕ) (left : List Kind) (r : ℕ → List Val → Run Configuration) (z : Plain → List Value → Run Machine) → ks ≡ anys 1 left → ((j : ℕ) (vals' : List Val) (stack' : List Value) → Names s m (meaning.Of (Object j)) → StackAt (HandAt s code m) left vals' stack' → Alike R (r j vals') (z (Object j) stack')) → Alike R (pop_object plain line vals o r) (pop_reference machine.plain line stack o z)
  unfolding pop_object pop_reference pop_plain
  tests_object line left r z e f =
      hand_popping Configuration Machine R Val Value (HandAt s code m) plain machine.plain same_plain Any left vals stack o _ _ (kinds_as s code e here.values)
      (λ v x vals' stack' ev ex h hs. object_told line v x (λ j. r j vals') (λ p. z p stack') h (named v vals' ev) (λ j n. f j vals' stack' n hs))

  -- the class of an address
  qualified_found : (c : ℕ) → Classed s c → (r : Run Configuration) (z : ℕ → Run Machine) → Alike R r (z (class_number s code c)) → Alike R r (rows.qualified code (pos (class_number s code c)) o z)
  qualified_found c h r z f = number_found s code coding o m fs here.store c h r z f

  -- ---- objects that are detached

  pub not_none : (line : ℕ) → Follows (NotNoneOp line)
  not_none line a = at_row s code l o fs top below _ i.NotNone line q a.is
      (pops_reference line a.left _ _ a.«in» (λ p vals' stack' n i hs. on_with (more_at plain_at hs) a.out a.is.on))

  -- ---- procedures of objects

  pub object : (c line : ℕ) → Follows (ObjectOp c line)
  unfolding has_procedure
  object c line a = at_row s code l o fs top below _ i.NotNone line q a.is
      (tests_object line a.left _ _ a.«in»
      (λ j vals' stack' n hs. alike_passes Configuration Machine R (has_procedure s m c j) o _ _
      (λ e. on_with (more_at (record { instance = j; is_val = refl; is_value = refl; stands = of_text s code coding m fs here.store j a.text (object_named j n) (sym (ap (λ z. is_in_any s m z j) a.around) ∙ e) }) hs) a.out a.is.on)))

  -- ---- classes

  -- it passes the test of a qualification, or E7
  held_on : (c line : ℕ) → Classed s c → (p : Plain) → Names s m (meaning.Of p) → IsReference p → (r : Run Configuration) (z : Run Machine) → Alike R r z → Alike R (qualifying line (stands_in s m c) p o r) (classes.qualifying line (classes.is_in code fs (class_number s code c) p) o z)
  unfolding qualifying choosing
  held_on c line h (Object j) n i r z f = alike_found Configuration Machine R Bool (classes.is_in code fs (class_number s code c) (Object j)) (stands_in s m c (Object j)) o _ _ (named_in_same s code coding m fs here.store c h (Object j) n i) (alike_choosing Configuration Machine R (stands_in s m c (Object j)) r _ z _ f (alike_stopping Configuration Machine R _ o))
  held_on c line h (MainOf j) n i r z f = alike_found Configuration Machine R Bool (classes.is_in code fs (class_number s code c) (MainOf j)) (stands_in s m c (MainOf j)) o _ _ (named_in_same s code coding m fs here.store c h (MainOf j) n i) (alike_choosing Configuration Machine R (stands_in s m c (MainOf j)) r _ z _ f (alike_stopping Configuration Machine R _ o))
  held_on c line h Nothing n i r z f = absurd i
  held_on c line h (Integer x) n i r z f = absurd i
  held_on c line h (Truth x) n i r z f = absurd i
  held_on c line h (Character x) n i r z f = absurd i
  held_on c line h (Text x) n i r z f = absurd i

  pub qua : (c line : ℕ) → Follows (QuaOp c line)
  qua c line h =
      let a = h.1 in
      at_row s code l o fs top below _ (i.Qua (pos (class_number s code c))) line q a.is
      (alike_found Configuration Machine R ℕ (classes.class_named code (pos (class_number s code c))) (class_number s code c) o _ _ (class_named s code coding m fs here.store c h.0)
      (pops_reference line a.left _ _ a.«in»
      (λ p vals' stack' n i hs. held_on c line h.0 p n i _ _ (on_with (more_at plain_at hs) a.out a.is.on))))

  -- `is` and `in`
  abbrev machine_member : Membership → (class : ℕ) → Plain → Option Bool
  machine_member membership.Is c p = classes.is_of code fs c p
  machine_member membership.In c p = classes.is_in code fs c p

  member_same : (member : Membership) (c j : ℕ) → Classed s c → Names s m (meaning.Of (Object j)) → machine_member member (class_number s code c) (Object j) ≡ Some (belongs s m member c j)
  unfolding belongs
  member_same membership.Is c j h n = is_of_same s code coding m fs here.store j c (object_named j n) h
  member_same membership.In c j h n = in_class_same s code coding m fs here.store j c (object_named j n) h

  main_same : (member : Membership) (c b : ℕ) → Classed s c → Names s m (meaning.Of (MainOf b)) → machine_member member (class_number s code c) (MainOf b) ≡ Some (main_belongs s m member c b)
  main_same membership.Is c b h n = main_is_same s code coding m fs here.store b c n h
  main_same membership.In c b h n = main_in_same s code coding m fs here.store b c n h

  none_same : (member : Membership) (c : ℕ) → machine_member member c Nothing ≡ Some false
  none_same membership.Is c = refl
  none_same membership.In c = refl

  tested_on : (member : Membership) (c : ℕ) → Classed s c → (v : Val) (x : Value) (r : Bool → Run Configuration) (z : Bool → Run Machine) → ValAt s code m v x → Names s m v → ((e : Bool) → Alike R (r e) (z e)) → Alike R (having (plain v) o (λ p. having (is_member s m member c p) o r)) (having (machine.plain x) o (λ p. having (machine_member member (class_number s code c) p) o z))
  unfolding having
  tested_on member c h _ _ r z (plain_at {p = Object j}) n f = alike_found Configuration Machine R Bool (machine_member member (class_number s code c) (Object j)) (belongs s m member c j) o _ _ (member_same member c j h n) (f (belongs s m member c j))
  tested_on member c h _ _ r z (plain_at {p = MainOf j}) n f = alike_found Configuration Machine R Bool (machine_member member (class_number s code c) (MainOf j)) (main_belongs s m member c j) o _ _ (main_same member c j h n) (f (main_belongs s m member c j))
  tested_on member c h _ _ r z (plain_at {p = Nothing}) n f = alike_found Configuration Machine R Bool (machine_member member (class_number s code c) Nothing) false o _ _ (none_same member (class_number s code c)) (f false)
  tested_on member c h _ _ r z (plain_at {p = Integer x}) n f = alike_unruled Configuration Machine R o _
  tested_on member c h _ _ r z (plain_at {p = Truth x}) n f = alike_unruled Configuration Machine R o _
  tested_on member c h _ _ r z (plain_at {p = Character x}) n f = alike_unruled Configuration Machine R o _
  tested_on member c h _ _ r z (plain_at {p = Text x}) n f = alike_unruled Configuration Machine R o _
  tested_on member c h _ _ r z link_at n f = alike_unruled Configuration Machine R o _
  tested_on member c h _ _ r z array_at n f = alike_unruled Configuration Machine R o _
  tested_on member c h _ _ r z element_at n f = alike_unruled Configuration Machine R o _
  tested_on member c h _ _ r z image_at n f = alike_unruled Configuration Machine R o _
  tested_on member c h _ _ r z (actual_at y) n f = alike_unruled Configuration Machine R o _
  tested_on member c h _ _ r z (procedure_at y) n f = alike_unruled Configuration Machine R o _

  pub member : (x : Membership) (c : ℕ) → Follows (MemberOp x c)
  unfolding pop_plain
  member membership.Is c h =
      let y = h.1 in
      let a = y.works in
      at_row s code l o fs top below _ (i.Is (pos (class_number s code c))) y.line q a.is
      (alike_found Configuration Machine R ℕ (classes.class_named code (pos (class_number s code c))) (class_number s code c) o _ _ (class_named s code coding m fs here.store c h.0)
      (hand_popping Configuration Machine R Val Value (HandAt s code m) plain machine.plain same_plain Any a.left vals stack o _ _ (kinds_as s code a.«in» here.values)
      (λ v x vals' stack' ev ex w hs. tested_on membership.Is c h.0 v x _ _ w (named v vals' ev) (λ e. on_with (more_at plain_at hs) a.out a.is.on))))
  member membership.In c h =
      let y = h.1 in
      let a = y.works in
      at_row s code l o fs top below _ (i.In (pos (class_number s code c))) y.line q a.is
      (alike_found Configuration Machine R ℕ (classes.class_named code (pos (class_number s code c))) (class_number s code c) o _ _ (class_named s code coding m fs here.store c h.0)
      (hand_popping Configuration Machine R Val Value (HandAt s code m) plain machine.plain same_plain Any a.left vals stack o _ _ (kinds_as s code a.«in» here.values)
      (λ v x vals' stack' ev ex w hs. tested_on membership.In c h.0 v x _ _ w (named v vals' ev) (λ e. on_with (more_at plain_at hs) a.out a.is.on))))

  -- ---- values in hand

  kept_on : (v : Val) (x : Value) (vals' : List Val) (stack' : List Value) (left : List Kind) → ValAt s code m v x → StackAt (HandAt s code m) left vals' stack' → ks' ≡ anys 1 left → q ≡ suc pc
      → Alike R (having (array_in v) o (λ array. keeping_array array o (λ p. go p m inst w (meaning.ArrayValue array ∷ vals') rest))) (having (machine.array_in x) o (λ array. keeping_array array o (λ p. machine.on p fs top (x ∷ stack') below)))
  unfolding having keeping_array
  kept_on _ _ vals' stack' left (array_at {a}) hs e place = alike_same Configuration Machine R ArrayOf (live_array o a) o _ _ (λ y. on_with (more_at array_at hs) e place)
  kept_on _ _ vals' stack' left plain_at hs e place = alike_unruled Configuration Machine R o _
  kept_on _ _ vals' stack' left link_at hs e place = alike_unruled Configuration Machine R o _
  kept_on _ _ vals' stack' left element_at hs e place = alike_unruled Configuration Machine R o _
  kept_on _ _ vals' stack' left image_at hs e place = alike_unruled Configuration Machine R o _
  kept_on _ _ vals' stack' left (actual_at h) hs e place = alike_unruled Configuration Machine R o _
  kept_on _ _ vals' stack' left (procedure_at h) hs e place = alike_unruled Configuration Machine R o _

  pub keep : Follows KeepOp
  keep y =
      let a = y.works in
      at_row s code l o fs top below _ i.Keep y.line q a.is
      (hand_popping Configuration Machine R Val Value (HandAt s code m) plain machine.plain same_plain Any a.left vals stack o _ _ (kinds_as s code a.«in» here.values)
      (λ v x vals' stack' ev ex h hs. kept_on v x vals' stack' a.left h hs a.out a.is.on))

  pub swap : Follows SwapOp
  swap a = at_row s code l o fs top below _ i.Swap a.is.line q a.is.is
      (hand_popping Configuration Machine R Val Value (HandAt s code m) plain machine.plain same_plain a.first (Any ∷ a.left) vals stack o _ _ (kinds_as s code a.«in» here.values)
      (λ v x vals1 stack1 ev ex h h1.
      hand_popping Configuration Machine R Val Value (HandAt s code m) plain machine.plain same_plain Any a.left vals1 stack1 o _ _ h1
      (λ v' x' vals2 stack2 ev' ex' h' h2. on_with (more_at h' (more_at h h2)) a.out a.is.is.on)))

  -- ---- addresses with the class of a reference

  pub qualified_element : (n line c : ℕ) → Follows (QualifiedElementOp n line c)
  qualified_element n line c a = at_row s code l o fs top below _ (i.Elem (pos n) (pos (class_number s code c))) line q a.is
      (qualified_found c a.is_class _ _
      (alike_indexed s code l o m inst w vals rest fs t b pc stack below ks here n _ _
      (hand_finding Configuration Machine R Val Value (HandAt s code m) plain machine.plain same_plain array_in machine.array_in same_array n line a.left vals stack o _ _ (kinds_as s code (a.«in» ∙ sym (anys_more n a.left)) here.values)
      (λ array n' vals' stack' h. on_with (more_at refers_element h) a.out a.is.on))))

  pub qualified_place : (j : ℕ) (key : Key) (c : ℕ) → OpAt s code m fs inst (site_at t b u) (Eval (QualifiedPlaceOf j key c)) pc q ks ks' → Alike R (do_op s l o m inst w vals rest (Eval (QualifiedPlaceOf j key c))) (on_top code l o fs top below)
  qualified_place j key c h =
      let z = h.0 in
      let a = z.1 in
      at_row s code l o fs top below _ (i.Addr (pos (level_of s a.text)) (pos (slot_of s code a.text key)) (pos (class_number s code c))) a.address.is.line q a.address.is.is
      (qualified_found c z.0 _ _
      (at_cell s code l o m inst w vals rest fs t b pc stack below ks here o (level_of s a.text) j (slot_of s code a.text key) _ _ (reached s m inst a.text j here.lives a.reaches)
      (passing_test s code l o m inst w vals rest fs t b pc stack below ks here o (machine.has_cell fs j (slot_of s code a.text key)) _ _ (cell_reached s code l o m inst w vals rest fs t b pc stack below ks here j a.text key a.reaches a.own a.has)
      (pushes s code l o m inst w vals rest fs t b pc stack below ks here o _ _ _ a.address.fits
      (on_with (more_at (refers_cell (a.reaches).stands a.own a.has a.varies a.declared) here.values) h.1 a.address.is.is.on)))))

  -- ---- where attributes lie

  -- the cell of an attribute is one of its object
  attribute_there : (c : ℕ) (key : Key) (j : ℕ) → Names s m (meaning.Of (Object j)) → is_in s m c j ≡ true → frame_text s c ≡ c → HasCell s c key → machine.has_cell fs j (slot_of s code c key) ≡ true
  attribute_there c key j n h own has = let x = object_named j n in cell_there s code m fs j c key here.store (of_text s code coding m fs here.store j c x h) x.instance x.alive own has

  found_located : (c : ℕ) (key : Key) (line : ℕ) → AttributeIs s code c key 0 line pc q → (left : List Kind) → ks ≡ anys 1 left → ks' ≡ Located ∷ left → Alike R (do_op s l o m inst w vals rest (AttributeOp c key None line)) (on_top code l o fs top below)
  found_located c key line a left e out = at_row s code l o fs top below _ (i.AddrR (pos (slot_of s code c key)) (pos 0)) line q (a.is)
      (alike_found Configuration Machine R (Unit {0}) (rows.no_class (pos 0)) tt o _ _ refl
      (pops_object line left _ _ e
      (λ j vals' stack' n hs. alike_passes Configuration Machine R (is_in s m c j) o _ _
      (λ h. alike_indexed s code l o m inst w vals rest fs t b pc stack below ks here (slot_of s code c key) _ _
      (passing_test s code l o m inst w vals rest fs t b pc stack below ks here o (machine.has_cell fs j (slot_of s code c key)) _ _ (attribute_there c key j n h a.own a.has)
      (on_with (more_at (record { instance = j; text = c; key = key; is_val = refl; is_value = refl; stands = of_text s code coding m fs here.store j c (object_named j n) h; own = a.own; has = a.has; varies = a.varies; declared = a.declared }) hs) out (a.is).on))))))

  found_reference : (c : ℕ) (key : Key) (class line : ℕ) → ReferenceIs s code c key class line pc q → (left : List Kind) → ks ≡ anys 1 left → ks' ≡ Refers class ∷ left → Alike R (do_op s l o m inst w vals rest (AttributeOp c key (Some class) line)) (on_top code l o fs top below)
  found_reference c key class line y left e out =
      let a = y.place in
      at_row s code l o fs top below _ (i.AddrR (pos (slot_of s code c key)) (pos (class_number s code class))) line q (a.is)
      (qualified_found class y.is_class _ _
      (pops_object line left _ _ e
      (λ j vals' stack' n hs. alike_passes Configuration Machine R (is_in s m c j) o _ _
      (λ h. alike_indexed s code l o m inst w vals rest fs t b pc stack below ks here (slot_of s code c key) _ _
      (passing_test s code l o m inst w vals rest fs t b pc stack below ks here o (machine.has_cell fs j (slot_of s code c key)) _ _ (attribute_there c key j n h a.own a.has)
      (on_with (more_at (refers_cell (of_text s code coding m fs here.store j c (object_named j n) h) a.own a.has a.varies a.declared) hs) out (a.is).on))))))

  -- of a constant the object itself is left
  found_constant : (c d line : ℕ) → is_fixed s (Declared d) ≡ true → ConstantIs s code c (Declared d) line pc q → (left : List Kind) → ks ≡ anys 1 left → ks' ≡ FixedOf d ∷ left → Alike R (do_op s l o m inst w vals rest (AttributeOp c (Declared d) None line)) (on_top code l o fs top below)
  found_constant c d line fixed a left e out = at_row s code l o fs top below _ i.NotNone line q (a.is)
      (tests_object line left _ _ e
      (λ j vals' stack' n hs. alike_passes Configuration Machine R (is_in s m c j) o _ _
      (λ h. on_with (more_at (record { instance = j; text = c; is_val = refl; is_value = refl; stands = of_text s code coding m fs here.store j c (object_named j n) h; own = a.own; has = a.has; fixed = fixed }) hs) out (a.is).on)))

  found_by : (c d line : ℕ) (fixed : Bool) → is_fixed s (Declared d) ≡ fixed → FoundIs s code (kind_unless fixed d) c (Declared d) line pc q → (left : List Kind) → ks ≡ anys 1 left → ks' ≡ kind_unless fixed d ∷ left → Alike R (do_op s l o m inst w vals rest (AttributeOp c (Declared d) None line)) (on_top code l o fs top below)
  found_by c d line true h a left e out = found_constant c d line h a left e out
  found_by c d line false h a left e out = found_located c (Declared d) line a left e out

  pub attribute : (c : ℕ) (key : Key) (class : Option ℕ) (line : ℕ) → Follows (AttributeOp c key class line)
  attribute c key (Some class) line a = found_reference c key class line a.found a.left a.«in» a.out
  attribute c (Declared d) None line a = found_by c d line (is_fixed s (Declared d)) refl a.found a.left a.«in» a.out
  attribute c meaning.Result None line a = found_located c meaning.Result line a.found a.left a.«in» a.out
  attribute c meaning.Origin None line a = found_located c meaning.Origin line a.found a.left a.«in» a.out
  attribute c (meaning.Connection token) None line a = found_located c (meaning.Connection token) line a.found a.left a.«in» a.out

  -- ---- references go where they belong

  -- a reference is put where an address leads
  abbrev meaning_refers : (line : ℕ) → Val → Plain → List Val → Run Configuration
  meaning_refers line v p vals2 = having (place_in v) o (λ place. putting_reference s line place p o m (λ o m. go o m inst w vals2 rest))

  abbrev machine_refers : (line : ℕ) → Value → Plain → List Value → Run Machine
  machine_refers line x p stack2 = having (machine.variable_in x) o (λ place. rows.storing code line place (machine.Of p) o fs (λ o m. machine.on o m top stack2 below))

  refers_to : (line c : ℕ) → Classed s c → (p : Plain) → Names s m (meaning.Of p) → (v : Val) (x : Value) (vals2 : List Val) (stack2 : List Value) → RefersAt s code m c v x → StackAt (HandAt s code m) ks' vals2 stack2 → q ≡ suc pc → Alike R (meaning_refers line v p vals2) (machine_refers line x p stack2)
  unfolding having putting_reference rows.putting
  refers_to line c h p n _ _ vals2 stack2 (refers_cell {j} {t = z} {key} st own has varies declared) hs place =
      admitting_alike s code coding o m fs here.store c h line p n _ _
      (alike_having Configuration Machine R Instances Frames (Changed s code Every m fs) (cell_set m j key (meaning.Of p)) (machine.cell_set fs j (slot_of s code z key) (machine.Of p)) o _ _ (cell_write s code m fs j z key (meaning.Of p) (machine.Of p) here.store st own has varies declared plain_at)
      (λ m' fs' em efs r. wrote_on s code l o m inst w vals rest fs t b pc stack below ks here u q ks' low k m' fs' r ks' hs refl place))
  refers_to line c h p n _ _ vals2 stack2 (refers_element {a} {n = e}) hs place =
      admitting_alike s code coding o m fs here.store c h line p n _ _ (alike_same Configuration Machine R World (element_set o a e p) o _ _ (λ p. on_with hs refl place))

  -- what has no class has no rule here
  abbrev WithoutClass : Place Key (Option ℕ) → Type 0
  WithoutClass (CellPlace j key class) = class ≡ None
  WithoutClass (ElementPlace a n class) = class ≡ None
  WithoutClass (ImagePlace n) = ⊤

  unclassed : (line : ℕ) (p : Plain) (place : Place Key (Option ℕ)) (z : Run Machine) (vals2 : List Val) → WithoutClass place → Alike R (meaning_refers line (meaning.Address place) p vals2) z
  unfolding having putting_reference
  unclassed line p (CellPlace j key None) z vals2 e = alike_unruled Configuration Machine R o _
  unclassed line p (CellPlace j key (Some k)) z vals2 e = absurd (cc (e))
  unclassed line p (ElementPlace a n None) z vals2 e = alike_unruled Configuration Machine R o _
  unclassed line p (ElementPlace a n (Some k)) z vals2 e = absurd (cc (e))
  unclassed line p (ImagePlace n) z vals2 e = alike_unruled Configuration Machine R o _

  value_refers : (line : ℕ) (p : Plain) (v : Val) (x : Value) (vals2 : List Val) (z : Run Machine) → ValAt s code m v x → Alike R (meaning_refers line v p vals2) z
  unfolding having
  value_refers line p _ _ vals2 z plain_at = alike_unruled Configuration Machine R o _
  value_refers line p _ _ vals2 z link_at = alike_unruled Configuration Machine R o _
  value_refers line p _ _ vals2 z array_at = alike_unruled Configuration Machine R o _
  value_refers line p _ _ vals2 z (element_at {a} {n}) = unclassed line p (ElementPlace a n None) z vals2 refl
  value_refers line p _ _ vals2 z (image_at {n}) = unclassed line p (ImagePlace n) z vals2 tt
  value_refers line p _ _ vals2 z (actual_at h) = alike_unruled Configuration Machine R o _
  value_refers line p _ _ vals2 z (procedure_at h) = alike_unruled Configuration Machine R o _

  named_refers : (line : ℕ) → (p : Plain) → Names s m (meaning.Of p) → (v : Val) (x : Value) (vals2 : List Val) (stack2 : List Value) → NamedAt s code m v x → StackAt (HandAt s code m) ks' vals2 stack2 → q ≡ suc pc → Alike R (meaning_refers line v p vals2) (machine_refers line x p stack2)
  named_refers line p n v x vals2 stack2 (named_reference c h w) hs place = refers_to line c h p n v x vals2 stack2 w hs place
  named_refers line p n v x vals2 stack2 (named_place w) hs place = subst (λ z. Alike R (meaning_refers line z p vals2) (machine_refers line x p stack2)) (sym w.is_val) (unclassed line p (CellPlace w.instance w.key None) (machine_refers line x p stack2) vals2 refl)
  named_refers line p n v x vals2 stack2 (named_value w) hs place = value_refers line p v x vals2 (machine_refers line x p stack2) w

  place_refers : (line : ℕ) → (place : Kind) → IsReferred s code place → (p : Plain) → Names s m (meaning.Of p) → (v : Val) (x : Value) (vals2 : List Val) (stack2 : List Value) → HandAt s code m place v x → StackAt (HandAt s code m) ks' vals2 stack2 → q ≡ suc pc → Alike R (meaning_refers line v p vals2) (machine_refers line x p stack2)
  place_refers line _ (of_class {k = c} h) p n v x vals2 stack2 w hs place = refers_to line c h p n v x vals2 stack2 w hs place
  place_refers line _ by_name p n v x vals2 stack2 w hs place = named_refers line p n v x vals2 stack2 w hs place

  refers_on : (line : ℕ) (kind : Kind) → IsReferred s code kind → (v : Val) (x : Value) (vals1 : List Val) (stack1 : List Value) → ValAt s code m v x → Names s m v → StackAt (HandAt s code m) (kind ∷ ks') vals1 stack1 → q ≡ suc pc
      → Alike R (having (plain v) o (λ p. popping vals1 o (λ v vals2. meaning_refers line v p vals2))) (popping stack1 o (λ p stack2. having (machine.variable_in p) o (λ place. rows.storing code line place x o fs (λ o m. machine.on o m top stack2 below))))
  unfolding having
  refers_on line kind h _ _ vals1 stack1 (plain_at {p}) n h1 place =
      hand_popping Configuration Machine R Val Value (HandAt s code m) plain machine.plain same_plain kind ks' vals1 stack1 o _ _ h1
      (λ v x vals2 stack2 ev ex hv h2. place_refers line kind h p n v x vals2 stack2 hv h2 place)
  refers_on line kind h _ _ vals1 stack1 link_at n h1 place = alike_unruled Configuration Machine R o _
  refers_on line kind h _ _ vals1 stack1 array_at n h1 place = alike_unruled Configuration Machine R o _
  refers_on line kind h _ _ vals1 stack1 element_at n h1 place = alike_unruled Configuration Machine R o _
  refers_on line kind h _ _ vals1 stack1 image_at n h1 place = alike_unruled Configuration Machine R o _
  refers_on line kind h _ _ vals1 stack1 (actual_at y) n h1 place = alike_unruled Configuration Machine R o _
  refers_on line kind h _ _ vals1 stack1 (procedure_at y) n h1 place = alike_unruled Configuration Machine R o _

  pub refer : (line : ℕ) → Follows (ReferOp line)
  unfolding pop_plain
  refer line a = at_row s code l o fs top below _ i.Put line q (a.is)
      (hand_popping Configuration Machine R Val Value (HandAt s code m) plain machine.plain same_plain Any (a.place ∷ a.left) vals stack o _ _ (kinds_as s code a.«in» here.values)
      (λ v x vals1 stack1 ev ex h h1. refers_on line a.place a.refers v x vals1 stack1 h (named v vals1 ev) (kinds_as s code (ap (λ z. a.place ∷ z) (sym a.out)) h1) (a.is).on))
