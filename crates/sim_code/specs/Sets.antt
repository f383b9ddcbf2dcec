-- The procedures of SIMSET, for the meaning and the machine: an object of `linkage` is a linkage from its generation on, and each procedure
-- is done on the linkages of the objects that it is given.
use Rattle.std.specs.Prelude.{ℕ, Bool, true, false, ◌||◌, ◌==◌, if◌then◌else◌, pos, List, [], Option, Some, None}
use Rattle.simset.specs.Instances.{Memberships, instance_of, linkage_of, with_linkage}
use Rattle.simset.specs.Sets.{Head, Link, Linkage, cardinal_of, clear, follow, into, is_head_at, is_link_at, out, precede, pred_of, prev_of, suc_of}
use Rattle.sim_values.specs.declared.standard.Standard.{Standard}
use Rattle.sim_values.specs.declared.standard.Standard.TheVariants as name
use Rattle.sim_values.specs.Plain.{Integer, MainOf, Nothing, Object, Plain, Truth}
use Rattle.sim_code.specs.Outcome.{Run, World}
use Rattle.sim_code.specs.Events.{having, pop_plain}
use Rattle.sim_code.specs.Simulations.{is_process_name, named_in}

-- ---- which objects are linkages

-- An object of a subclass of `head` is made with an empty set; any other one of `linkage` is made in no set.
abbrev pub linkage_by : (head linkage : Bool) → Option Linkage
linkage_by true linkage = Some (Head [])
linkage_by false true = Some Link
linkage_by false false = None

-- an object that is made becomes a linkage, if it is one
abbrev pub enrolled : (object : ℕ) → Option Linkage → World → World
enrolled j None o = o
enrolled j (Some linkage) o = record o { members = with_linkage j linkage o.members }

-- ---- which names these are

abbrev pub is_set_name : Standard → Bool
is_set_name name.Suc = true
is_set_name name.Pred = true
is_set_name name.Prev = true
is_set_name name.Out = true
is_set_name name.Follow = true
is_set_name name.Precede = true
is_set_name name.Into = true
is_set_name name.First = true
is_set_name name.Last = true
is_set_name name.Empty = true
is_set_name name.Cardinal = true
is_set_name name.Clear = true
is_set_name _ = false

-- those with a parameter
abbrev pub takes_linkage : Standard → Bool
takes_linkage name.Follow = true
takes_linkage name.Precede = true
takes_linkage name.Into = true
takes_linkage _ = false

abbrev pub parameter_count : Standard → ℕ
parameter_count name = if takes_linkage name then 1 else 0

-- those that an object has: of SIMSET, and those of processes
abbrev pub is_attribute_name : Standard → Bool
is_attribute_name name = is_set_name name || is_process_name name

-- ---- what they do

-- the linkage of an object or a main program, and what a linkage is that of; `naming` tells it by the instance
abbrev pub linkage_named : Memberships → Plain → Option ℕ
linkage_named m (Object j) = linkage_of m.instances j
linkage_named m (MainOf b) = linkage_of m.instances b
linkage_named m _ = None

abbrev pub named_or_none : (naming : ℕ → Plain) → Option ℕ → Plain
named_or_none naming None = Nothing
named_or_none naming (Some j) = naming j

abbrev pub object_at : (naming : ℕ → Plain) → Memberships → Option ℕ → Plain
object_at naming m None = Nothing
object_at naming m (Some x) = named_or_none naming (instance_of m.instances x)

-- the sets then, and the value of the procedure, if it has one
pub record SetEffect : Type 0 where
  pub members : Memberships
  pub value : Option Plain

abbrev pub gives : Memberships → Plain → Option SetEffect
gives m p = Some (record { members = m; value = Some p })

abbrev pub becomes : Memberships → List Linkage → Option SetEffect
becomes m sets = Some (record { members = record m { sets = sets }; value = None })

-- of a link alone, or of a head alone
abbrev pub of_link : Memberships → (linkage : ℕ) → Option SetEffect → Option SetEffect
of_link m x effect = if is_link_at m.sets x then effect else None

abbrev pub of_head : Memberships → (linkage : ℕ) → Option SetEffect → Option SetEffect
of_head m x effect = if is_head_at m.sets x then effect else None

-- a parameter that is a head or none
abbrev pub to_head : Memberships → (linkage : Option ℕ) → Option SetEffect → Option SetEffect
to_head m None effect = effect
to_head m (Some h) effect = of_head m h effect

-- What a procedure does of the linkage x; p is the linkage that it is given, or none. There is no effect where it is no procedure of such a
-- linkage.
abbrev pub set_effect : Standard → (naming : ℕ → Plain) → Memberships → (x : ℕ) → (p : Option ℕ) → Option SetEffect
set_effect name.Suc naming m x p = gives m (object_at naming m (suc_of m.sets x))
set_effect name.Pred naming m x p = gives m (object_at naming m (pred_of m.sets x))
set_effect name.Prev naming m x p = gives m (object_at naming m (prev_of m.sets x))
set_effect name.Out naming m x p = of_link m x (becomes m (out m.sets x))
set_effect name.Follow naming m x p = of_link m x (becomes m (follow m.sets x p))
set_effect name.Precede naming m x p = of_link m x (becomes m (precede m.sets x p))
set_effect name.Into naming m x p = of_link m x (to_head m p (becomes m (into m.sets x p)))
-- the first and the last link of a head are what `suc` and `pred` of it are
set_effect name.First naming m x p = of_head m x (gives m (object_at naming m (suc_of m.sets x)))
set_effect name.Last naming m x p = of_head m x (gives m (object_at naming m (pred_of m.sets x)))
set_effect name.Empty naming m x p = of_head m x (gives m (Truth (cardinal_of m.sets x == 0)))
set_effect name.Cardinal naming m x p = of_head m x (gives m (Integer (pos (cardinal_of m.sets x))))
set_effect name.Clear naming m x p = of_head m x (becomes m (clear m.sets x))
set_effect _ naming m x p = None

-- ---- as an event

abbrev pub some_linkage : Option ℕ → Option (Option ℕ)
some_linkage None = None
some_linkage (Some x) = Some (Some x)

-- the linkage that a parameter names: none, or that of an object
abbrev pub linkage_given : Memberships → Plain → Option (Option ℕ)
linkage_given m Nothing = Some None
linkage_given m (Object j) = some_linkage (linkage_of m.instances j)
linkage_given m (MainOf b) = some_linkage (linkage_of m.instances b)
linkage_given m _ = None

-- the parameter of a procedure, if it has one, comes behind the object
unfoldable pub pop_given : {V S : Type 0} → (plain : V → Option Plain) → (takes : Bool) → List V → World → (Option ℕ → List V → Run S) → Run S
pop_given plain false stack o go = go None stack
pop_given plain true stack o go = pop_plain plain stack o (λ p stack. having (linkage_given o.members p) o (λ x. go x stack))

-- A procedure of a linkage is done, and the run goes on with its value, if it has one.
unfoldable pub performing_set : {V S : Type 0} → (plain : V → Option Plain) → Standard → List V → World → (World → Option Plain → List V → Run S) → Run S
performing_set plain name stack o go =
    pop_given plain (takes_linkage name) stack o (λ given stack.
    pop_plain plain stack o (λ p stack.
    having (linkage_named o.members p) o (λ x.
    having (set_effect name (named_in o.simulations) o.members x given) o (λ effect.
    go (record o { members = effect.members }) effect.value stack))))
