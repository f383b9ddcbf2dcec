-- The procedures of SIMSET always have an effect, and give what is declared.
use Rattle.std.proofs.Common.{◌≡◌, ℕ, Bool, true, false, List, ◌∷◌, length, Option, Some, None, refl, sym, ap, ◌∙◌, subst}
use Rattle.std.specs.Prelude.{◌+◌, if◌then◌else◌}
use Rattle.simset.specs.Instances.{Memberships, linkage_of}
use Rattle.simset.specs.Sets.{clear, follow, into, is_head_at, is_link_at, out, precede, pred_of, prev_of, suc_of}
use Rattle.sim_base.specs.declared.limits.Limits.{Limits}
use Rattle.sim_base.specs.declared.numbering.DeclNo.{DeclNo}
use Rattle.sim_scope.specs.declared.types.SimType.{SimType}
use Rattle.sim_scope.specs.Source.{Source}
use Rattle.sim_values.specs.declared.kind.Kind.TheVariants as kind
use Rattle.sim_values.specs.declared.standard.Standard.{Standard}
use Rattle.sim_values.specs.declared.standard.Standard.TheVariants as name
use Rattle.sim_values.specs.declared.standard.StandardType.TheVariants as of
use Rattle.sim_values.specs.Plain.{Character, Integer, MainOf, Nothing, Object, Plain, Text, Truth}
use Rattle.sim_values.specs.Standard.{row_of}
use Rattle.sim_code.specs.Events.{having, pop_plain}
use Rattle.sim_code.specs.Outcome.{Run, Simulation, World}
use Rattle.sim_code.specs.Sets.{SetEffect, linkage_given, linkage_named, object_at, performing_set, pop_given, set_effect, some_linkage, takes_linkage}
use Rattle.sim_code.specs.Simulations.{named_in}
use Rattle.sim_meaning.specs.Attributes.{attribute_formals}
use Rattle.sim_meaning.specs.Meaning.{do_op}
use Rattle.sim_meaning.specs.Pending.{Activation, Address, ArrayValue, Configuration, Instances, Item, Link, Of, ProcedureValue, SetOp, Actual, Val, plain}
use Rattle.sim_meaning.specs.Steps.{go, with_value}
use Rattle.sim_sound.specs.Held.{FitsIn, Holds, Refers, Simply, given_by}
use Rattle.sim_sound.specs.Typed.{SetClasses, SetType, Typed}
use Rattle.sim_sound.proofs.Evals.{IsFine, Work}
use Rattle.sim_sound.proofs.Fitting.{plain_fits, plain_val}
use Rattle.sim_sound.proofs.Later.{All, AllCopies, Later, as_it_was, own_later, present_later}
use Rattle.sim_sound.proofs.Lifts.{Goes, any_popped, had}
use Rattle.sim_sound.proofs.Lists.{if_true}
use Rattle.sim_sound.proofs.Members.{Linked, MembersFine, any_found, by_main, by_object, clear_fine, follow_fine, follow_none, head_found, head_only, head_place, into_fine, into_none, link_found, linkage_linked, linkage_place, out_fine, precede_fine, precede_none, pred_fine, prev_fine, suc_fine}
use Rattle.sim_sound.proofs.Moves.{later_instances, same_ones, still_copies}
use Rattle.sim_sound.proofs.Ops.{later_hands, later_with, store_with}
use Rattle.sim_sound.proofs.Running.{Begun, Operates}
use Rattle.sim_sound.proofs.Simulated.{SimulationsFine}
use Rattle.sim_sound.proofs.Sound.{OpFine, SetIs, formal_kinds, given, onto, set_class, set_operands}
use Rattle.sim_sound.proofs.Values.{DeepFine, HandsFine, Kinds, Marks, ObjectIn, PlainFine, Value, see, held_kinds}

-- ---- what is declared of them

gives_link : (s : Source) (l : ℕ) (x : Option SimType) → SetType s l (Some of.Link) x → given_by s x ≡ Some (Refers (l + 1))
gives_link s l None a = absurd a
gives_link s l (Some t) a = ap Some a

gives_linkage : (s : Source) (l : ℕ) (x : Option SimType) → SetType s l (Some of.Linkage) x → given_by s x ≡ Some (Refers l)
gives_linkage s l None a = absurd a
gives_linkage s l (Some t) a = ap Some a

pub gives_head : (s : Source) (l : ℕ) (x : Option SimType) → SetType s l (Some of.Head) x → given_by s x ≡ Some (Refers (l + 2))
gives_head s l None a = absurd a
gives_head s l (Some t) a = ap Some a

pub gives_truth : (s : Source) (l : ℕ) (x : Option SimType) → SetType s l (Some of.Boolean) x → given_by s x ≡ Some (Simply kind.Boolean)
gives_truth s l None a = absurd a
gives_truth s l (Some t) a = ap Some a

pub gives_integer : (s : Source) (l : ℕ) (x : Option SimType) → SetType s l (Some of.Integer) x → given_by s x ≡ Some (Simply kind.Integer)
gives_integer s l None a = absurd a
gives_integer s l (Some t) a = ap Some a

pub gives_nothing : (s : Source) (l : ℕ) (x : Option SimType) → SetType s l None x → given_by s x ≡ None
gives_nothing s l None a = refl
gives_nothing s l (Some t) a = absurd a

-- what is in hand: the object, and over it the parameter
abbrev above : Option Holds → (class : ℕ) → List Kinds → List Kinds
above None c left = ObjectIn c ∷ left
above (Some q) c left = Value q ∷ ObjectIn c ∷ left

operands_above : (s : Source) (c : ℕ) (x : Option SimType) (left : List Kinds) → onto (Some (ObjectIn c) ∷ formal_kinds s (attribute_formals x)) left ≡ above (given_by s x) c left
operands_above s c None left = refl
operands_above s c (Some t) left = refl

-- what a value is that comes, or none
abbrev ValueFine : Source → Instances → Option Plain → Option Holds → Type 0
ValueFine s m None None = Unit {0}
ValueFine s m None (Some h) = ⊥
ValueFine s m (Some p) None = ⊥
ValueFine s m (Some p) (Some h) = PlainFine s m h p

module _ (s : Source) (ok : Typed s) (l : Limits) (o : World) (g : Marks) (long : length g.sights ≡ length o.arrays) (m : Instances) (i t : ℕ) (rest : List Activation) (top : Operates g.beneath g.seat m i rest) (w : List Item) (vals : List Val) (todo todo' : List DeclNo) (before behind : List Kinds) (b : Begun s (see g o) m i t todo) (h : HandsFine s (see g o) m i before vals) (work : Work s o g long m i t rest top w todo' behind) where
  abbrev Hd : List Kinds → List Val → Type 0
  Hd ks vs = HandsFine s (see g o) m i ks vs

  abbrev Wk : List Kinds → Type 0
  Wk ks = Work s o g long m i t rest top w todo ks

  abbrev B : Memberships
  B = o.members

  abbrev S : List Simulation
  S = o.simulations

  -- it goes on with these sets, and a value
  abbrev Then : Memberships → World
  Then n = record o { members = n }

  abbrev next : World → Option Plain → List Val → Run Configuration
  next p value vs = go p m i w (with_value value vs) rest

  later_then_on : (n : Memberships) → Later s (see g o) m (see g (Then n)) m All
  later_then_on n = later_instances s (see g o) (see g (Then n)) m m refl refl (λ j x e. e) (λ j x lives. record { now = x; lives = lives; grown = as_it_was x }) (λ j a. a) (λ j a. a) (λ j a. a)

  copies_on : (n : Memberships) → AllCopies (see g o) (see g (Then n))
  copies_on n = still_copies s (see g o) (see g (Then n)) m m refl refl (λ j x e. e) (λ j x lives. record { now = x; lives = lives; grown = as_it_was x })

  value_in_hand : (n : Memberships) (value : Option Plain) (q : Option Holds) (vs : List Val) (left : List Kinds) → ValueFine s m value q → HandsFine s (see g (Then n)) m i left vs → HandsFine s (see g (Then n)) m i (given (held_kinds q) left) (with_value value vs)
  value_in_hand n None None vs left a more = more
  value_in_hand n None (Some q) vs left a more = absurd a
  value_in_hand n (Some p) None vs left a more = absurd a
  value_in_hand n (Some p) (Some q) vs left a more = (plain_val s (see g (Then n)) m i q p a, more)

  goes_then : (n : Memberships) (value : Option Plain) (q : Option Holds) (vs : List Val) (left : List Kinds) → MembersFine s n m → ValueFine s m value q → Hd left vs → Wk (given (held_kinds q) left) → Goes (IsFine s) (next (Then n) value vs)
  goes_then n value q vs left fine a more y =
      let e = later_then_on n in
      let copies = copies_on n in
      let store = store_with s (see g o) (see g (Then n)) m e refl refl copies b.store.elements fine b.store.simulations b.store in
      later_with s ok l o g long m i t rest top g (Then n) long refl refl refl m e copies (same_ones m) store w (with_value value vs) todo (given (held_kinds q) left) (present_later s (see g o) m (see g (Then n)) m All e i t todo tt b.here) (own_later s (see g o) m (see g (Then n)) m All e i t todo tt b.here ∙ b.own) b.works
      (value_in_hand n value q vs left a (later_hands s ok l o g long m i t rest top g (Then n) long refl refl refl m e copies (same_ones m) store left vs more)) y

  -- ---- what is popped

  -- what a procedure does, of the object with a linkage
  pub record Effect (n : Standard) (x : ℕ) (given : Option ℕ) (q : Option Holds) : Type 0 where
    pub effect : SetEffect
    pub is : set_effect n (named_in o.simulations) o.members x given ≡ Some effect
    pub fine : MembersFine s effect.members m
    pub value : ValueFine s m effect.value q

  abbrev done_with : Standard → Option ℕ → List Val → Run Configuration
  done_with n given stack = pop_plain plain stack o (λ p stack. having (linkage_named o.members p) o (λ x. having (set_effect n (named_in o.simulations) o.members x given) o (λ effect. next (record o { members = effect.members }) effect.value stack)))

  -- the linkage of the object or the main program in hand
  object_done : (n : Standard) (c : ℕ) (given' : Option ℕ) (q : Option Holds) (stack : List Val) (left : List Kinds) → Hd (ObjectIn c ∷ left) stack → Wk (given (held_kinds q) left) → ((j : ℕ) → Linked s m j c → (x : ℕ) × (linkage_of B.instances j ≡ Some x) × Effect n x given' q) → Goes (IsFine s) (done_with n given' stack)
  unfolding pop_plain
  object_done n c given' q stack left hands y go' =
      any_popped (IsFine s) s (see g o) m i (ObjectIn c) left stack o (λ v stack. having (plain v) o (λ p. having (linkage_named o.members p) o (λ x. having (set_effect n (named_in o.simulations) o.members x given') o (λ effect. next (record o { members = effect.members }) effect.value stack)))) hands (λ v vs is fine more. by_value v vs fine more)
    where
      of_linked : (vs : List Val) → Hd left vs → (p : Plain) (j : ℕ) → linkage_named o.members p ≡ linkage_of B.instances j → Linked s m j c → Goes (IsFine s) (having (Some p) o (λ p. having (linkage_named o.members p) o (λ x. having (set_effect n (named_in o.simulations) o.members x given') o (λ effect. next (record o { members = effect.members }) effect.value vs))))
      of_linked vs more p j same link =
          let r = go' j link in
          let d = r.2 in
          had (IsFine s) (Some p) p o (λ p. having (linkage_named o.members p) o (λ x. having (set_effect n (named_in o.simulations) o.members x given') o (λ effect. next (record o { members = effect.members }) effect.value vs))) refl
          (had (IsFine s) (linkage_named o.members p) r.0 o (λ x. having (set_effect n (named_in o.simulations) o.members x given') o (λ effect. next (record o { members = effect.members }) effect.value vs)) (same ∙ r.1)
          (had (IsFine s) (set_effect n (named_in o.simulations) o.members r.0 given') d.effect o (λ effect. next (record o { members = effect.members }) effect.value vs) d.is (goes_then (d.effect).members (d.effect).value q vs left d.fine d.value more y)))

      by_value : (v : Val) (vs : List Val) → DeepFine s (see g o) m i vs (ObjectIn c) v → Hd left vs → Goes (IsFine s) (having (plain v) o (λ p. having (linkage_named o.members p) o (λ x. having (set_effect n (named_in o.simulations) o.members x given') o (λ effect. next (record o { members = effect.members }) effect.value vs))))
      by_value (Of (Object j)) vs a more = of_linked vs more (Object j) j refl (by_object a)
      by_value (Of (MainOf j)) vs a more = of_linked vs more (MainOf j) j refl (by_main a)
      by_value (Of Nothing) vs a more = absurd a
      by_value (Of (Integer z)) vs a more = absurd a
      by_value (Of (Character z)) vs a more = absurd a
      by_value (Of (Truth z)) vs a more = absurd a
      by_value (Of (Text z)) vs a more = absurd a
      by_value (Link z) vs a more = absurd a
      by_value (Address z) vs a more = absurd a
      by_value (ArrayValue z) vs a more = absurd a
      by_value (ProcedureValue z y) vs a more = absurd a
      by_value (Actual home pr z) vs a more = absurd a

  -- the linkage that is given, with what it is that of
  abbrev GivenFine : (class : ℕ) → Option ℕ → Type 0
  GivenFine k None = Unit {0}
  GivenFine k (Some n) = (j : ℕ) × (linkage_of B.instances j ≡ Some n) × Linked s m j k

  parameter_done : (n : Standard) (k : ℕ) (vs : List Val) (left : List Kinds) → ((j : ℕ) → Linked s m j k → (x : ℕ) × (linkage_of B.instances j ≡ Some x)) → Hd (Value (Refers k) ∷ left) vs → ((given : Option ℕ) (stack : List Val) → GivenFine k given → Hd left stack → Goes (IsFine s) (done_with n given stack)) → Goes (IsFine s) (pop_plain plain vs o (λ p stack. having (linkage_given o.members p) o (λ x. done_with n x stack)))
  unfolding pop_plain
  parameter_done n k vs left found hands go' =
      any_popped (IsFine s) s (see g o) m i (Value (Refers k)) left vs o (λ v stack. having (plain v) o (λ p. having (linkage_given o.members p) o (λ x. done_with n x stack))) hands (λ v stack is fine more. by_value v stack fine more)
    where
      of_linked : (stack : List Val) → Hd left stack → (p : Plain) (j : ℕ) → linkage_given o.members p ≡ some_linkage (linkage_of B.instances j) → Linked s m j k → Goes (IsFine s) (having (Some p) o (λ p. having (linkage_given o.members p) o (λ x. done_with n x stack)))
      of_linked stack more p j same link =
          let r = found j link in
          had (IsFine s) (Some p) p o (λ p. having (linkage_given o.members p) o (λ x. done_with n x stack)) refl
          (had (IsFine s) (linkage_given o.members p) (Some r.0) o (λ x. done_with n x stack) (same ∙ ap some_linkage r.1) (go' (Some r.0) stack (j, r.1, link) more))

      by_value : (v : Val) (stack : List Val) → DeepFine s (see g o) m i stack (Value (Refers k)) v → Hd left stack → Goes (IsFine s) (having (plain v) o (λ p. having (linkage_given o.members p) o (λ x. done_with n x stack)))
      by_value (Of (Object j)) stack a more = of_linked stack more (Object j) j refl (by_object a)
      by_value (Of (MainOf j)) stack a more = of_linked stack more (MainOf j) j refl (by_main a)
      by_value (Of Nothing) stack a more =
          had (IsFine s) (Some Nothing) Nothing o (λ p. having (linkage_given o.members p) o (λ x. done_with n x stack)) refl
          (had (IsFine s) (Some None) None o (λ x. done_with n x stack) refl (go' None stack tt more))
      by_value (Of (Integer z)) stack a more = absurd a
      by_value (Of (Character z)) stack a more = absurd a
      by_value (Of (Truth z)) stack a more = absurd a
      by_value (Of (Text z)) stack a more = absurd a
      by_value (Link z) stack a more = absurd a
      by_value (Address z) stack a more = absurd a
      by_value (ArrayValue z) stack a more = absurd a
      by_value (ProcedureValue z y) stack a more = absurd a
      by_value (Actual home pr z) stack a more = absurd a

  -- ---- each procedure

  -- what the value is, where it fits what is declared
  some_value : (q : Holds) (x h : Option Holds) (p : Plain) → x ≡ Some q → FitsIn s x h → PlainFine s m q p → ValueFine s m (Some p) h
  some_value q x h p e fits a = by_holds h (subst (λ z. FitsIn s z h) e fits)
    where
      by_holds : (h : Option Holds) → FitsIn s (Some q) h → ValueFine s m (Some p) h
      by_holds None f = absurd f
      by_holds (Some r) f = plain_fits s ok (see g o) m b.store q r p f a

  no_value : (x h : Option Holds) → x ≡ None → FitsIn s x h → ValueFine s m None h
  no_value x h e fits = by_holds h (subst (λ z. FitsIn s z h) e fits)
    where
      by_holds : (h : Option Holds) → FitsIn s None h → ValueFine s m None h
      by_holds None f = tt
      by_holds (Some r) f = absurd f

  fine : MembersFine s B m
  fine = b.store.members

  blocks : SimulationsFine s S m
  blocks = b.store.simulations

  -- of the first class, of a link, and of a head
  abbrev Done : Standard → (given : Option ℕ) → (class : ℕ) → Option Holds → Type 0
  Done n given' c q = (j : ℕ) → Linked s m j c → (x : ℕ) × (linkage_of B.instances j ≡ Some x) × Effect n x given' q

  of_linkage : (n : Standard) (given' : Option ℕ) (k : ℕ) (c : SetClasses s k) (q : Option Holds) → ((j x : ℕ) → linkage_of B.instances j ≡ Some x → Linked s m j k → Effect n x given' q) → Done n given' (k + 0) q
  of_linkage n given' k c q go' j link =
      let first = linkage_linked s ok B m fine S blocks j k 0 c linkage_place link in
      let r = any_found s ok B m fine S blocks j k c first in
      (r.0, r.1, go' j r.0 r.1 first)

  of_link : (n : Standard) (given' : Option ℕ) (k : ℕ) (c : SetClasses s k) (q : Option Holds) → ((j x : ℕ) → linkage_of B.instances j ≡ Some x → Linked s m j (k + 1) → is_link_at B.sets x ≡ true → Effect n x given' q) → Done n given' (k + 1) q
  of_link n given' k c q go' j link = let r = link_found s ok B m fine S blocks j k c link in (r.0, r.1, go' j r.0 r.1 link r.2)

  of_head : (n : Standard) (given' : Option ℕ) (k : ℕ) (c : SetClasses s k) (q : Option Holds) → ((j x : ℕ) → linkage_of B.instances j ≡ Some x → Linked s m j k → is_head_at B.sets x ≡ true → Effect n x given' q) → Done n given' (k + 2) q
  of_head n given' k c q go' j link = let r = head_found s ok B m fine S blocks j k c (head_only s ok B m fine S blocks j k c link) in (r.0, r.1, go' j r.0 r.1 (linkage_linked s ok B m fine S blocks j k 2 c head_place link) r.2)

  if_so : {A : Type 0} (t : Bool) (x : A) (y : Option A) → t ≡ true → (if t then Some x else y) ≡ Some x
  if_so t x y e = if_true t (Some x) y e

  -- without a parameter, and with one
  alone_done : (n : Standard) (p : ℕ) (x : SetIs s n) (q : Option Holds) (left : List Kinds) → takes_linkage n ≡ false → (x.there).place ≡ p → given_by s x.parameter ≡ None → before ≡ onto (set_operands s n x) left → Wk (given (held_kinds q) left) → Done n None ((x.there).linkage + p) q → Goes (IsFine s) (performing_set plain n vals o next)
  unfolding performing_set pop_given
  alone_done n p x q left takes place none is y done =
      let k = (x.there).linkage in
      let above_is : before ≡ ObjectIn (k + p) ∷ left = is ∙ operands_above s (set_class s n x) x.parameter left ∙ ap (λ z. above z (set_class s n x) left) none ∙ ap (λ z. ObjectIn (k + z) ∷ left) place in
      subst (λ z. Goes (IsFine s) (pop_given plain z vals o (λ given stack. done_with n given stack))) (sym takes) (object_done n (k + p) None q vals left (subst (λ z. Hd z vals) above_is h) y done)

  with_done : (n : Standard) (p k : ℕ) (x : SetIs s n) (q : Option Holds) (left : List Kinds) → takes_linkage n ≡ true → (x.there).place ≡ p → given_by s x.parameter ≡ Some (Refers k) → before ≡ onto (set_operands s n x) left → Wk (given (held_kinds q) left) → ((j : ℕ) → Linked s m j k → (x : ℕ) × (linkage_of B.instances j ≡ Some x)) → ((given : Option ℕ) → GivenFine k given → Done n given ((x.there).linkage + p) q) → Goes (IsFine s) (performing_set plain n vals o next)
  unfolding performing_set pop_given
  with_done n p k x q left takes place some is y found done =
      let f = (x.there).linkage in
      let above_is : before ≡ Value (Refers k) ∷ ObjectIn (f + p) ∷ left = is ∙ operands_above s (set_class s n x) x.parameter left ∙ ap (λ z. above z (set_class s n x) left) some ∙ ap (λ z. Value (Refers k) ∷ ObjectIn (f + z) ∷ left) place in
      subst (λ z. Goes (IsFine s) (pop_given plain z vals o (λ given stack. done_with n given stack))) (sym takes) (parameter_done n k vals (ObjectIn (f + p) ∷ left) found (subst (λ z. Hd z vals) above_is h) (λ given' stack fine' more. object_done n (f + p) given' q stack left more y (done given' fine')))

  abbrev Stepped : Standard → Type 0
  Stepped n = Goes (IsFine s) (do_op s l o m i w vals rest (SetOp n))

  same_place : (p n : ℕ) → Some p ≡ Some n → n ≡ p
  same_place p n e = cc

  module _ (n : Standard) (x : SetIs s n) (q : Option Holds) (left : List Kinds) (fits : FitsIn s (given_by s x.result) q) (is : before ≡ onto (set_operands s n x) left) (y : Wk (given (held_kinds q) left)) where
    abbrev K : ℕ
    K = (x.there).linkage

    abbrev C : SetClasses s K
    C = (x.there).classes

    -- a linkage that is asked for
    asks : (p : Plain) (r : Holds) → given_by s x.result ≡ Some r → PlainFine s m r p → (z : ℕ) → set_effect n (named_in S) B z None ≡ Some (record { members = B; value = Some p }) → Effect n z None q
    asks p r e a z d = record { effect = record { members = B; value = Some p }; is = d; fine = fine; value = some_value r (given_by s x.result) q p e fits a }

    changes : (b' : _) (given' : Option ℕ) (z : ℕ) → given_by s x.result ≡ None → set_effect n (named_in S) B z given' ≡ Some (record { members = record B { sets = b' }; value = None }) → MembersFine s (record B { sets = b' }) m → Effect n z given' q
    changes b' given' z e d f = record { effect = record { members = record B { sets = b' }; value = None }; is = d; fine = f; value = no_value (given_by s x.result) q e fits }

  set_goes : (n : Standard) (x : SetIs s n) (q : Option Holds) (left : List Kinds) → FitsIn s (given_by s x.result) q → before ≡ onto (set_operands s n x) left → Wk (given (held_kinds q) left) → Goes (IsFine s) (performing_set plain n vals o next)
  unfolding row_of
  set_goes name.Suc x q left fits is y =
      let k = (x.there).linkage in
      let c = (x.there).classes in
      alone_done name.Suc 0 x q left refl (same_place 0 (x.there).place (x.there).placed) (gives_nothing s k x.parameter (x.there).parameter_is) is y
      (of_linkage name.Suc None k c q (λ j z at object. asks name.Suc x q left fits is y (object_at (named_in S) B (suc_of B.sets z)) (Refers (k + 1)) (gives_link s k x.result (x.there).result_is) (suc_fine s ok B m fine S blocks k c j z at object) z refl))
  set_goes name.Pred x q left fits is y =
      let k = (x.there).linkage in
      let c = (x.there).classes in
      alone_done name.Pred 0 x q left refl (same_place 0 (x.there).place (x.there).placed) (gives_nothing s k x.parameter (x.there).parameter_is) is y
      (of_linkage name.Pred None k c q (λ j z at object. asks name.Pred x q left fits is y (object_at (named_in S) B (pred_of B.sets z)) (Refers (k + 1)) (gives_link s k x.result (x.there).result_is) (pred_fine s ok B m fine S blocks k c j z at object) z refl))
  set_goes name.Prev x q left fits is y =
      let k = (x.there).linkage in
      let c = (x.there).classes in
      alone_done name.Prev 0 x q left refl (same_place 0 (x.there).place (x.there).placed) (gives_nothing s k x.parameter (x.there).parameter_is) is y
      (of_linkage name.Prev None k c q (λ j z at object. asks name.Prev x q left fits is y (object_at (named_in S) B (prev_of B.sets z)) (Refers k) (gives_linkage s k x.result (x.there).result_is) (prev_fine s ok B m fine S blocks k c j z at object) z refl))
  set_goes name.Out x q left fits is y =
      let k = (x.there).linkage in
      let c = (x.there).classes in
      alone_done name.Out 1 x q left refl (same_place 1 (x.there).place (x.there).placed) (gives_nothing s k x.parameter (x.there).parameter_is) is y
      (of_link name.Out None k c q (λ j z at object link. changes name.Out x q left fits is y (out B.sets z) None z (gives_nothing s k x.result (x.there).result_is) (if_so (is_link_at B.sets z) _ None link) (out_fine s ok B m fine S blocks z)))
  set_goes name.Follow x q left fits is y =
      let k = (x.there).linkage in
      let c = (x.there).classes in
      with_done name.Follow 1 k x q left refl (same_place 1 (x.there).place (x.there).placed) (gives_linkage s k x.parameter (x.there).parameter_is) is y (λ j object. any_found s ok B m fine S blocks j k c object) (λ given' a.
      of_link name.Follow given' k c q (λ j z at object link. changes name.Follow x q left fits is y (follow B.sets z given') given' z (gives_nothing s k x.result (x.there).result_is) (if_so (is_link_at B.sets z) _ None link) (followed given' a j z at object)))
    where
      followed : (given' : Option ℕ) → GivenFine (x.there).linkage given' → (j z : ℕ) → linkage_of B.instances j ≡ Some z → Linked s m j ((x.there).linkage + 1) → MembersFine s (record B { sets = follow B.sets z given' }) m
      followed None a j z at object = follow_none s ok B m fine S blocks z
      followed (Some p) a j z at object = follow_fine s ok B m fine S blocks (x.there).linkage (x.there).classes j z at object a.0 p a.1 a.2
  set_goes name.Precede x q left fits is y =
      let k = (x.there).linkage in
      let c = (x.there).classes in
      with_done name.Precede 1 k x q left refl (same_place 1 (x.there).place (x.there).placed) (gives_linkage s k x.parameter (x.there).parameter_is) is y (λ j object. any_found s ok B m fine S blocks j k c object) (λ given' a.
      of_link name.Precede given' k c q (λ j z at object link. changes name.Precede x q left fits is y (precede B.sets z given') given' z (gives_nothing s k x.result (x.there).result_is) (if_so (is_link_at B.sets z) _ None link) (preceded given' a j z at object)))
    where
      preceded : (given' : Option ℕ) → GivenFine (x.there).linkage given' → (j z : ℕ) → linkage_of B.instances j ≡ Some z → Linked s m j ((x.there).linkage + 1) → MembersFine s (record B { sets = precede B.sets z given' }) m
      preceded None a j z at object = precede_none s ok B m fine S blocks z
      preceded (Some p) a j z at object = precede_fine s ok B m fine S blocks (x.there).linkage (x.there).classes j z at object a.0 p a.1 a.2
  set_goes name.Into x q left fits is y =
      let k = (x.there).linkage in
      let c = (x.there).classes in
      with_done name.Into 1 (k + 2) x q left refl (same_place 1 (x.there).place (x.there).placed) (gives_head s k x.parameter (x.there).parameter_is) is y (λ j link. let r = head_found s ok B m fine S blocks j k c (head_only s ok B m fine S blocks j k c link) in (r.0, r.1)) (λ given' a.
      of_link name.Into given' k c q (λ j z at object link. changes name.Into x q left fits is y (into B.sets z given') given' z (gives_nothing s k x.result (x.there).result_is) (effect_is given' a z link) (gone given' a j z at object)))
    where
      same_number : (p n : Option ℕ) (u v : ℕ) → p ≡ Some u → p ≡ Some v → u ≡ v
      same_number p n u v e f = cc

      effect_is : (given' : Option ℕ) → GivenFine ((x.there).linkage + 2) given' → (z : ℕ) → is_link_at B.sets z ≡ true → set_effect name.Into (named_in S) B z given' ≡ Some (record { members = record B { sets = into B.sets z given' }; value = None })
      effect_is None a z link = if_so (is_link_at B.sets z) _ None link
      effect_is (Some p) a z link =
          let r = head_found s ok B m fine S blocks a.0 (x.there).linkage (x.there).classes (head_only s ok B m fine S blocks a.0 (x.there).linkage (x.there).classes a.2) in
          let same : r.0 ≡ p = same_number (linkage_of B.instances a.0) None r.0 p r.1 a.1 in
          if_true (is_link_at B.sets z) (if is_head_at B.sets p then Some (record { members = record B { sets = into B.sets z (Some p) }; value = None }) else None) None link ∙ if_so (is_head_at B.sets p) _ None (subst (λ u. is_head_at B.sets u ≡ true) same r.2)

      gone : (given' : Option ℕ) → GivenFine ((x.there).linkage + 2) given' → (j z : ℕ) → linkage_of B.instances j ≡ Some z → Linked s m j ((x.there).linkage + 1) → MembersFine s (record B { sets = into B.sets z given' }) m
      gone None a j z at object = into_none s ok B m fine S blocks z
      gone (Some p) a j z at object = into_fine s ok B m fine S blocks (x.there).linkage (x.there).classes j z at object a.0 p a.1 (linkage_linked s ok B m fine S blocks a.0 (x.there).linkage 2 (x.there).classes head_place a.2)
  set_goes name.First x q left fits is y =
      let k = (x.there).linkage in
      let c = (x.there).classes in
      alone_done name.First 2 x q left refl (same_place 2 (x.there).place (x.there).placed) (gives_nothing s k x.parameter (x.there).parameter_is) is y
      (of_head name.First None k c q (λ j z at object head. asks name.First x q left fits is y (object_at (named_in S) B (suc_of B.sets z)) (Refers (k + 1)) (gives_link s k x.result (x.there).result_is) (suc_fine s ok B m fine S blocks k c j z at object) z (if_so (is_head_at B.sets z) _ None head)))
  set_goes name.Last x q left fits is y =
      let k = (x.there).linkage in
      let c = (x.there).classes in
      alone_done name.Last 2 x q left refl (same_place 2 (x.there).place (x.there).placed) (gives_nothing s k x.parameter (x.there).parameter_is) is y
      (of_head name.Last None k c q (λ j z at object head. asks name.Last x q left fits is y (object_at (named_in S) B (pred_of B.sets z)) (Refers (k + 1)) (gives_link s k x.result (x.there).result_is) (pred_fine s ok B m fine S blocks k c j z at object) z (if_so (is_head_at B.sets z) _ None head)))
  set_goes name.Empty x q left fits is y =
      let k = (x.there).linkage in
      let c = (x.there).classes in
      alone_done name.Empty 2 x q left refl (same_place 2 (x.there).place (x.there).placed) (gives_nothing s k x.parameter (x.there).parameter_is) is y
      (of_head name.Empty None k c q (λ j z at object head. asks name.Empty x q left fits is y (Truth _) (Simply kind.Boolean) (gives_truth s k x.result (x.there).result_is) (refl, tt) z (if_so (is_head_at B.sets z) _ None head)))
  set_goes name.Cardinal x q left fits is y =
      let k = (x.there).linkage in
      let c = (x.there).classes in
      alone_done name.Cardinal 2 x q left refl (same_place 2 (x.there).place (x.there).placed) (gives_nothing s k x.parameter (x.there).parameter_is) is y
      (of_head name.Cardinal None k c q (λ j z at object head. asks name.Cardinal x q left fits is y (Integer _) (Simply kind.Integer) (gives_integer s k x.result (x.there).result_is) (refl, tt) z (if_so (is_head_at B.sets z) _ None head)))
  set_goes name.Clear x q left fits is y =
      let k = (x.there).linkage in
      let c = (x.there).classes in
      alone_done name.Clear 2 x q left refl (same_place 2 (x.there).place (x.there).placed) (gives_nothing s k x.parameter (x.there).parameter_is) is y
      (of_head name.Clear None k c q (λ j z at object head. changes name.Clear x q left fits is y (clear B.sets z) None z (gives_nothing s k x.result (x.there).result_is) (if_so (is_head_at B.sets z) _ None head) (clear_fine s ok B m fine S blocks z)))
  set_goes _ x q left fits is y = absurd (let named = x.named in cc)

  pub set_op : (n : Standard) → OpFine s (see g o) m i t (SetOp n) todo todo' before behind → Stepped n
  set_op n a = set_goes n a.0 a.1 a.2 a.3 a.4 (subst (λ z. Work s o g long m i t rest top w z (given (held_kinds a.1) a.2)) a.6 (subst (λ z. Work s o g long m i t rest top w todo' z) a.5 work))
