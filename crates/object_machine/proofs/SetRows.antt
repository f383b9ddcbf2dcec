-- The rows of the procedures of links and heads.
use Rattle.std.proofs.Common.{◌≡◌, ℕ, ◌+◌, ◌<◌, ◌≤◌, List, [], ◌∷◌, IfSome, length, sym, subst, refl, ap, ◌∙◌, arith}
use Rattle.std.specs.Prelude.{Bool, true, false, if◌then◌else◌, Option, Some, None}
use Rattle.std.specs.Option.{ForSome}
use Rattle.sim_base.specs.declared.limits.Limits.{Limits}
use Rattle.simset.specs.declared.rings.LinkageNo.{LinkageNo}
use Rattle.simset.specs.Instances.{Memberships, linkage_of, number_of}
use Rattle.simset.specs.Sets.{IsHeadAt, Linkage, is_head_at, is_link_at}
use Rattle.sim_values.specs.declared.standard.Standard.{Standard}
use Rattle.sim_values.specs.declared.value.FrameRef.{FrameRef}
use Rattle.sim_values.specs.Plain.{Character, Integer, MainOf, Nothing, Object, Plain, Text, Truth}
use Rattle.sim_code.specs.Events.{having, no_rule, pop_plain, popping}
use Rattle.sim_code.specs.Machine.{Frames, Machine, Value, plain, pushing}
use Rattle.sim_code.specs.Outcome.{Run, World}
use Rattle.sim_code.specs.Rows.{with_value}
use Rattle.sim_code.specs.Simulations.{named_in}
use Rattle.sim_code.specs.Sets.{SetEffect, gives, linkage_given, linkage_named, of_head, of_link, performing_set, pop_given, set_effect, some_linkage, takes_linkage, to_head}
use Rattle.frame_arena.specs.declared.slot.Slot.{Slot}
use Rattle.frame_arena.specs.Slots.{value_of}
use Rattle.frame_arena.specs.Stacks.{values_of, with_values}
use Rattle.standard_calls.specs.declared.came.Missing.{Missing}
use Rattle.standard_calls.specs.declared.came.Missing.TheVariants as missing
use Rattle.object_machine.specs.declared.machine.Flow.{Flow}
use Rattle.object_machine.specs.declared.machine.Members.{Members}
use Rattle.object_machine.specs.declared.machine.Storage.{Storage}
use Rattle.object_machine.specs.declared.machine.Registers.{Registers}
use Rattle.object_machine.specs.declared.machine.Activation as working
use Rattle.object_machine.specs.declared.sets.Came.{Came}
use Rattle.object_machine.specs.declared.sets.Came.TheVariants as came
use Rattle.object_machine.specs.declared.sets.Named.TheVariants as named
use Rattle.object_machine.specs.Classing.{IsNoReference}
use Rattle.object_machine.specs.Enrolling.{AllReach, Rises, stamps}
use Rattle.object_machine.specs.SetRows.{CameAs, HasEffect, IsSlot, Names, flow_by, owner_in, parameter_in, taking_owner, value_by, with_slot}
use Rattle.object_machine.specs.Standing.{Leaves, Outside, Stands}
use Rattle.object_machine.proofs.Going.{no_rule_in}
use Rattle.object_machine.proofs.Pushed.{pushes}
use Rattle.object_machine.proofs.ReadOperands.{values_count}

-- ---- what a value names

pub object_no_linkage : (o : Memberships) (objects : List FrameRef) (j : ℕ) → o.instances ≡ stamps objects → None ≡ linkage_of (stamps objects) j → Names named.Other o (Some (Object j))
object_no_linkage o objects j same h =
    let e : linkage_of o.instances j ≡ None = ap (λ ns. linkage_of ns j) same ∙ sym h in
    (e, ap some_linkage e)

pub object_linkage : (o : Memberships) (objects : List FrameRef) (j place : ℕ) (x : LinkageNo) → o.instances ≡ stamps objects → Some place ≡ linkage_of (stamps objects) j → place ≡ x.0 → Names (named.Linkage x) o (Some (Object j))
object_linkage o objects j place x same h is =
    let e : linkage_of o.instances j ≡ Some x.0 = ap (λ ns. linkage_of ns j) same ∙ sym h ∙ ap Some is in
    (e, ap some_linkage e)

-- the same of a main program
pub main_no_linkage : (o : Memberships) (objects : List FrameRef) (j : ℕ) → o.instances ≡ stamps objects → None ≡ linkage_of (stamps objects) j → Names named.Other o (Some (MainOf j))
main_no_linkage o objects j same h =
    let e : linkage_of o.instances j ≡ None = ap (λ ns. linkage_of ns j) same ∙ sym h in
    (e, ap some_linkage e)

pub main_linkage : (o : Memberships) (objects : List FrameRef) (j place : ℕ) (x : LinkageNo) → o.instances ≡ stamps objects → Some place ≡ linkage_of (stamps objects) j → place ≡ x.0 → Names (named.Linkage x) o (Some (MainOf j))
main_linkage o objects j place x same h is =
    let e : linkage_of o.instances j ≡ Some x.0 = ap (λ ns. linkage_of ns j) same ∙ sym h ∙ ap Some is in
    (e, ap some_linkage e)

pub none_named : (o : Memberships) (p : Option Plain) → p ≡ Some Nothing → Names named.IsNone o p
none_named o p e = subst (λ p. Names named.IsNone o p) (sym e) (refl, refl)

pub other_named : (o : Memberships) (p : Option Plain) → IsNoReference p → Names named.Other o p
other_named o None h = (refl, refl)
other_named o (Some (Integer i)) h = (refl, refl)
other_named o (Some (Truth b)) h = (refl, refl)
other_named o (Some (Character c)) h = (refl, refl)
other_named o (Some (Text t)) h = (refl, refl)
other_named o (Some (Object j)) h = absurd h
other_named o (Some (MainOf j)) h = absurd h
other_named o (Some Nothing) h = absurd h

-- ---- operands

module _ (o : World) (go : Option ℕ → List Value → Run Machine) where
  abbrev pub GivenBy : Value → List Value → Run Machine
  GivenBy v rest = having (parameter_in o.members (plain v)) o (λ x. go x rest)

  pub none_given : (takes : Bool) (values : List Value) → takes ≡ false → pop_given plain takes values o go ≡ go None values
  unfolding pop_given
  none_given takes values e = ap (λ b. pop_given plain b values o go) e

  given_by : (p : Option Plain) (rest : List Value) → having p o (λ p. having (linkage_given o.members p) o (λ x. go x rest)) ≡ having (parameter_in o.members p) o (λ x. go x rest)
  unfolding having
  given_by None rest = refl
  given_by (Some p) rest = refl

  popped_by : (values : List Value) → pop_given plain true values o go ≡ popping values o GivenBy
  unfolding pop_given pop_plain popping
  popped_by [] = refl
  popped_by (v ∷ rest) = given_by (plain v) rest

  pub given_popped : (takes : Bool) (values : List Value) → takes ≡ true → pop_given plain takes values o go ≡ popping values o GivenBy
  given_popped takes values e = ap (λ b. pop_given plain b values o go) e ∙ popped_by values

  pub given_there : (v : Value) (rest : List Value) (x : Option ℕ) → parameter_in o.members (plain v) ≡ Some x → GivenBy v rest ≡ go x rest
  unfolding having
  given_there v rest x e = ap (λ q. having q o (λ x. go x rest)) e

  pub given_nowhere : (v : Value) (rest : List Value) → parameter_in o.members (plain v) ≡ None → GivenBy v rest ≡ no_rule o
  unfolding having
  given_nowhere v rest e = ap (λ q. having q o (λ x. go x rest)) e

module _ (o : World) (go : ℕ → List Value → Run Machine) where
  abbrev pub OwnedBy : Value → List Value → Run Machine
  OwnedBy v rest = having (owner_in o.members (plain v)) o (λ x. go x rest)

  owned_by : (p : Option Plain) (rest : List Value) → having p o (λ p. having (linkage_named o.members p) o (λ x. go x rest)) ≡ having (owner_in o.members p) o (λ x. go x rest)
  unfolding having
  owned_by None rest = refl
  owned_by (Some p) rest = refl

  pub owner_popped : (values : List Value) → taking_owner o values go ≡ popping values o OwnedBy
  unfolding pop_plain popping
  owner_popped [] = refl
  owner_popped (v ∷ rest) = owned_by (plain v) rest

  pub owner_there : (v : Value) (rest : List Value) (x : ℕ) → owner_in o.members (plain v) ≡ Some x → OwnedBy v rest ≡ go x rest
  unfolding having
  owner_there v rest x e = ap (λ q. having q o (λ x. go x rest)) e

  pub owner_nowhere : (v : Value) (rest : List Value) → owner_in o.members (plain v) ≡ None → OwnedBy v rest ≡ no_rule o
  unfolding having
  owner_nowhere v rest e = ap (λ q. having q o (λ x. go x rest)) e

-- ---- links and heads

module _ (o : Memberships) (sets : List Linkage) (x : ℕ) (effect : Option SetEffect) (same : o.sets ≡ sets) where
  pub link_on : is_link_at sets x ≡ true → of_link o x effect ≡ effect
  link_on h = ap (λ b. if b then effect else None) (ap (λ s. is_link_at s x) same ∙ h)

  pub link_off : is_link_at sets x ≡ false → of_link o x effect ≡ None
  link_off h = ap (λ b. if b then effect else None) (ap (λ s. is_link_at s x) same ∙ h)

  pub head_on : is_head_at sets x ≡ true → of_head o x effect ≡ effect
  head_on h = ap (λ b. if b then effect else None) (ap (λ s. is_head_at s x) same ∙ h)

  pub head_off : is_head_at sets x ≡ false → of_head o x effect ≡ None
  head_off h = ap (λ b. if b then effect else None) (ap (λ s. is_head_at s x) same ∙ h)

pub to_heads : (o : Memberships) (sets : List Linkage) (given : Option LinkageNo) (effect : Option SetEffect) → o.sets ≡ sets → ForSome given (λ h. IsHeadAt sets h.0) → to_head o (number_of given) effect ≡ effect
to_heads o sets None effect same h = refl
to_heads o sets (Some g) effect same h = head_on o sets g.0 effect same (h g refl)

pub to_no_head : (o : Memberships) (sets : List Linkage) (given : Option ℕ) (h : ℕ) (effect : Option SetEffect) → o.sets ≡ sets → given ≡ Some h → is_head_at sets h ≡ false → to_head o given effect ≡ None
to_no_head o sets given h effect same is off = ap (λ g. to_head o g effect) is ∙ head_off o sets h effect same off

-- ---- a whole row

-- the world with other sets
abbrev pub with_sets : World → List Linkage → World
with_sets o sets = record o { members = record o.members { sets = sets } }

-- the sets change, and the linkages stay
pub stands_sets : (l : Limits) (p : Storage) (r : Registers) (stack : List Slot) (below : List working.Activation) (before : Option (List ℕ)) (now : Outside) (o : World) (m : Frames) (k : Members) →
    Stands l p r stack below before now o m → k.objects ≡ p.members.objects → Stands l (record p { members = k }) r stack below before now (with_sets o k.rings.sets) m
stands_sets l p r stack below before now o m k s same = record {
  stores = record {
    world = record { ticks = s.stores.world.ticks; words = s.stores.world.words; texts = s.stores.world.texts; image = s.stores.world.image; written = s.stores.world.written };
    budget = s.stores.budget;
    frames = s.stores.frames;
    entered = s.stores.entered;
    arrays = s.stores.arrays;
    cells = s.stores.cells;
    elements = s.stores.elements;
    parks = s.stores.parks;
    members = record {
      is = record { instances = s.stores.members.is.instances ∙ ap (λ v. stamps v.items) (sym same); sets = refl };
      rises = subst (λ v. Rises (stamps v.items)) (sym same) s.stores.members.rises;
      lead = subst (λ v. AllReach p.frames.items m v.items) (sym same) s.stores.members.lead;
    };
    simulations = s.stores.simulations;
  };
  top = s.top;
  others = s.others;
}

module _ (naming : ℕ → Plain) (o : World) (go : World → Option Plain → Run Machine) where
  abbrev pub Effected : Option SetEffect → Run Machine
  Effected e = having e o (λ effect. go (record o { members = effect.members }) effect.value)

  given_value : (e : Option SetEffect) (v : Plain) (sets : List Linkage) → e ≡ gives o.members v → sets ≡ o.members.sets → Effected e ≡ go (with_sets o sets) (Some v)
  unfolding having
  given_value e v sets is same =
      ap (λ q. Effected q) is ∙ ap (λ z. go (with_sets o z) (Some v)) (sym same)

  -- what a procedure came to, when it came to something
  pub effected : (c : Came) (e : Option SetEffect) (sets : List Linkage) → HasEffect c → CameAs c naming e o.members sets → Effected e ≡ go (with_sets o sets) (value_by c naming o.members)
  unfolding having
  effected (came.Linkage q) e sets h is = given_value e _ sets is.0 is.1
  effected (came.Truth b) e sets h is = given_value e _ sets is.0 is.1
  effected (came.Integer n) e sets h is = given_value e _ sets is.0 is.1
  effected came.Changed e sets h is = ap (λ q. Effected q) is
  effected came.NoRule e sets h is = absurd h
  effected came.Memory e sets h is = absurd h

  pub not_effected : (c : Came) (e : Option SetEffect) (sets : List Linkage) → c ≡ came.NoRule → CameAs c naming e o.members sets → Effected e ≡ no_rule o
  unfolding having
  not_effected c e sets is h = ap (λ q. Effected q) (subst (λ c. CameAs c naming e o.members sets) is h)

pub value_slot : (value : Option Slot) (v : Option Plain) (values : List Value) → IsSlot value v → with_value v values ≡ with_slot value values
value_slot None v values e = ap (λ v. with_value v values) e
value_slot (Some s) v values e = ap (λ v. with_value v values) e.1 ∙ ap (λ z. z ∷ values) (sym e.2)

-- the row of a procedure, as its operands are taken
abbrev pub Taken : Standard → World → (World → Option Plain → List Value → Run Machine) → Option ℕ → List Value → Run Machine
Taken n o go given values = taking_owner o values (λ x rest. Effected (named_in o.simulations) o (λ w v. go w v rest) (set_effect n (named_in o.simulations) o.members x given))

pub performing_is : (n : Standard) (values : List Value) (o : World) (go : World → Option Plain → List Value → Run Machine) → performing_set plain n values o go ≡ pop_given plain (takes_linkage n) values o (Taken n o go)
unfolding performing_set
performing_is n values o go = refl

-- a value is put behind the others
pub put_row : (result : Option ℕ) (depth : ℕ) (old new : List Slot) (s : Slot) → depth ≤ length old → length new ≡ length old → IfSome result (λ n. n ≡ depth + 1) → IfSome result (λ n. n ≤ length new) →
    ((o : World) (go : List Value → Run Machine) → pushing (length old) (values_of depth old) (value_of s) o go ≡ with_values result new o go) →
    IfSome result (λ n. (o : World) (go : List Value → Run Machine) → go (value_of s ∷ values_of depth old) ≡ go (values_of n new))
put_row None depth old new s fits long deeper within row = tt
put_row (Some n) depth old new s fits long deeper within row = λ o go.
    let below : depth < length old = omega (arith, deeper, within, long) in
    sym (pushes (length old) (values_of depth old) (value_of s) o go (subst (λ k. k < length old) (sym (values_count depth old fits)) below)) ∙ row o go

-- where a procedure can't be done
pub missing_leaves : (l : Limits) (line : ℕ) (p p2 : Storage) (below : List working.Activation) (before : Option (List ℕ)) (now : Outside) (r r2 : Registers) (stack stack2 : List Slot) (o : World) (m : Frames) (q : Missing) (f : Flow) (run : Run Machine) →
    Stands l p r stack below before now o m → f ≡ flow_by q → (q ≡ missing.NoRule → run ≡ no_rule o) → Leaves f l line p2 r2 stack2 below before now run
unfolding Leaves
missing_leaves l line p p2 below before now r r2 stack stack2 o m missing.NoRule f run s e h = subst (λ f. Leaves f l line p2 r2 stack2 below before now run) (sym e) (no_rule_in l line p p2 below before now r2 r stack2 stack o m s (h refl))
missing_leaves l line p p2 below before now r r2 stack stack2 o m missing.Memory f run s e h = subst (λ f. Leaves f l line p2 r2 stack2 below before now run) (sym e) tt
