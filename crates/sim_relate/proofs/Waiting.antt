-- What waits for a value on a chain, and which heads of systems wait for their main components.
use Rattle.std.proofs.Common.{◌≡◌, ◌≢◌, ◌<◌, ℕ, zero, suc, Bool, true, false, List, [], ◌∷◌, ◌++◌, length, Option, Some, None, refl, sym, ap, ◌∙◌, get_or-set_same, get_or-set_other}
use Rattle.std.specs.Prelude.{slice_index_or, slice_set}
use Rattle.sim_chains.specs.Components.{NoObject, Standing}
use Rattle.sim_code.specs.Instances.{Instance, entered}
use Rattle.sim_meaning.specs.Pending.{Activation, Do, EndEvaluation, EndLevel, EndProcedure, ForParameter, ForPlace, ForValue, Held, Instances, Item, Use}
use Rattle.sim_relate.proofs.Known.{Any, Kind, Named}

-- What is given at the end of what is above on a chain: nothing, a value, or what the evaluation of an actual parameter is for.
pub data Wait : Type 0 where
  NoValue : Wait
  AValue : Wait
  OfName : (wanted : Use) → Wait

abbrev pub value_if : Bool → Wait
value_if true = AValue
value_if false = NoValue

-- whether there is a value then
abbrev pub gets_any : Wait → Bool
gets_any NoValue = false
gets_any _ = true

abbrev pub kind_used : Use → Kind
kind_used (ForValue class line) = Any
kind_used (ForPlace value_too line) = Named
kind_used (ForParameter number line) = Any

-- the values in hand then
abbrev pub given_by : Wait → List Kind → List Kind
given_by NoValue ks = ks
given_by AValue ks = Any ∷ ks
given_by (OfName wanted) ks = kind_used wanted ∷ ks

abbrev pub kind_by : Wait → Kind
kind_by (OfName wanted) = kind_used wanted
kind_by _ = Any

pub given_one : (w : Wait) (ks : List Kind) → gets_any w ≡ true → given_by w ks ≡ kind_by w ∷ ks
given_one NoValue ks e = absurd (cc (e))
given_one AValue ks e = refl
given_one (OfName wanted) ks e = refl

-- what the end of pending work gives
abbrev pub gives_value : List Item → Wait
gives_value [] = NoValue
gives_value (Do op ∷ w) = gives_value w
gives_value (EndLevel k ∷ w) = gives_value w
gives_value (EndProcedure leaves ∷ w) = value_if leaves
gives_value (EndEvaluation wanted ∷ w) = OfName wanted
gives_value (_ ∷ w) = NoValue

-- and the end of a chain, where v tells it of a chain on which nothing is
abbrev pub demand : (v : Wait) → List Activation → Wait
demand v [] = v
demand v (a ∷ rest) = demand (gives_value a.work) rest

-- A head that keeps its main chain waits for the end of that.
abbrev pub suspends : Standing Activation → Option Wait
suspends (NoObject (Some main)) = Some (demand NoValue main)
suspends _ = None

abbrev pub suspended_in : List (Standing Activation) → (instance : ℕ) → Option Wait
suspended_in xs j = suspends (slice_index_or xs j (NoObject None))

abbrev pub suspended : Instances → (instance : ℕ) → Option Wait
suspended m j = suspended_in m.standings j

-- an evaluation is no head
abbrev pub suspended_by : Instances → (owner : Option ℕ) → Option Wait
suspended_by m None = None
suspended_by m (Some j) = suspended m j

-- What an activation gets before it goes on, where what is directly above it gives this. Above a head that waits for its main component a resumed
-- object operates, which gives none.
abbrev pub GetsIs : (suspended : Option Wait) → (waits gets : Wait) → Type 0
GetsIs None waits gets = gets ≡ waits
GetsIs (Some d) waits gets = (waits ≡ NoValue) × (gets ≡ d)

-- what is given a value waits for no main component
pub gets_given : (o : Option Wait) (waits gets : Wait) → gets_any waits ≡ true → GetsIs o waits gets → (gets ≡ waits) × (o ≡ None)
gets_given None waits gets v e = (e, refl)
gets_given (Some d) waits gets v e = let no = e.0 in absurd (cc (ap gets_any no, v))

-- what waits for none gets what it is given
pub gets_free : (o : Option Wait) (waits gets : Wait) → o ≡ None → GetsIs o waits gets → gets ≡ waits
gets_free None waits gets e a = a
gets_free (Some d) waits gets e a = absurd (cc (e))

-- a head that waits for its main component gets what that gives
pub gets_main : (o : Option Wait) (waits gets d : Wait) → o ≡ Some d → GetsIs o waits gets → (waits ≡ NoValue) × (gets ≡ d)
gets_main None waits gets d e a = absurd (cc (e))
gets_main (Some d') waits gets d e a = let same : d' ≡ d = cc (e) in (a.0, a.1 ∙ same)

pub free_gets : (o : Option Wait) (waits gets : Wait) → o ≡ None → gets ≡ waits → GetsIs o waits gets
free_gets None waits gets e a = a
free_gets (Some d) waits gets e a = absurd (cc (e))

pub main_gets : (o : Option Wait) (gets d : Wait) → o ≡ Some d → gets ≡ d → GetsIs o NoValue gets
main_gets None gets d e a = absurd (cc (e))
main_gets (Some d') gets d e a = let same : d' ≡ d = cc (e) in (refl, a ∙ sym same)

-- ---- standings that are set

pub set_none : (xs : List (Standing Activation)) (i : ℕ) → suspended_in (slice_set xs i (NoObject None)) i ≡ None
set_none [] i = refl
set_none (x ∷ xs) zero = refl
set_none (x ∷ xs) (suc i) = set_none xs i

-- one that waits for no main component, as before, or for the same
pub set_alike : (xs : List (Standing Activation)) (i : ℕ) (x : Standing Activation) → suspends x ≡ suspended_in xs i → (j : ℕ) → suspended_in (slice_set xs i x) j ≡ suspended_in xs j
set_alike [] i x e j = refl
set_alike (y ∷ xs) zero x e zero = e
set_alike (y ∷ xs) zero x e (suc j) = refl
set_alike (y ∷ xs) (suc i) x e zero = refl
set_alike (y ∷ xs) (suc i) x e (suc j) = set_alike xs i x e j

pub set_apart : (xs : List (Standing Activation)) (i : ℕ) (x : Standing Activation) (j : ℕ) → j ≢ i → suspended_in (slice_set xs i x) j ≡ suspended_in xs j
set_apart xs i x j apart = ap suspends (get_or-set_other xs i j x (NoObject None) apart)

pub set_here : (xs : List (Standing Activation)) (i : ℕ) (x : Standing Activation) → i < length xs → suspended_in (slice_set xs i x) i ≡ suspends x
set_here xs i x lt = ap suspends (get_or-set_same xs i x (NoObject None) lt)

-- one more
pub append_alike : (xs : List (Standing Activation)) (x : Standing Activation) → suspends x ≡ None → (j : ℕ) → suspended_in (xs ++ x ∷ []) j ≡ suspended_in xs j
append_alike [] x e zero = e
append_alike [] x e (suc j) = refl
append_alike (y ∷ xs) x e zero = refl
append_alike (y ∷ xs) x e (suc j) = append_alike xs x e j

pub suspended_entered : (m : Instances) (x : Instance (List Held)) (p : Standing Activation) → suspends p ≡ None → (j : ℕ) → suspended (entered m x p) j ≡ suspended m j
suspended_entered m x p e j = append_alike m.standings p e j
