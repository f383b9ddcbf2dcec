-- What an operator does that is pending in the innermost instance.
use Rattle.std.specs.Prelude.{ℕ, suc, ◌==◌, List, [], ◌∷◌, Option, Some, None}
use Rattle.sim_base.specs.declared.limits.Limits.{Limits}
use Rattle.sim_tree.specs.Syntax.{Expressions, NoMore, Then}
use Rattle.sim_values.specs.declared.value.TextVal.{TextVal}
use Rattle.sim_values.specs.Plain.{Plain, Text}
use Rattle.sim_code.specs.Outcome.{Going, Run, World}
use Rattle.sim_code.specs.Events.{assigning, having, image_set, image_value, no_rule, only_text, popping, when}
use Rattle.sim_code.specs.Arrays.{copying_array, element, element_set, finding_element}
use Rattle.sim_code.specs.Instances.{CellPlace, ElementPlace, ImagePlace, Place}
use Rattle.sim_meaning.specs.Pending.{Actual, ActualOf, Address, Activation, ArrayValue, AttributeOf, AttributeOp, Cell, CallOf, CallOp, CallValueOp, CheckOp, CheckedOf, Configuration, CopyOf, CopyOp, Do, Either, ElementOf, ElementOp, Eval, FetchOp, FitsOf, FitsOp, Further, GiveOp, Given, IfOp, ImageOf, Instances, Item, JoinOp, Joined, KeepOp, KeptOf, Key, Link, MatchOf, MemberOf, MemberOp, NamedOf, NamedOp, NewOf, NewOp, NoTerm, NotNoneOf, NotNoneOp, ObjectOp, Of, One, OneOp, OriginOf, OriginOp, ParameterOp, PlaceOf, ProcedureOf, ProcedureOp, ProcessOf, ProcessOp, QualifiedElementOf, QualifiedElementOp, QualifiedPlaceOf, QuaOf, QuaOp, ReferOp, RemoteCallOf, RemoteProcedureOf, SetOf, SetOp, SimulationOf, SimulationOp, StandardOf, StandardOp, StoreOp, SwapOp, Target, Term, Terms, ToAddress, ToCell, ToNamed, ToPlace, ToReference, ToReferenceAt, ToText, ToTextAt, ToTextOf, TransferOf, TransferOp, Two, TwoOp, NoMeaning, Val, ValueAt, VirtualOp, array_in, cell, cell_set, place_in, plain, variable_in}

-- the innermost instance goes on with this work and these values in hand
abbrev pub go : World → Instances → ℕ → List Item → List Val → List Activation → Run Configuration
go o m i w vals rest = Going o (record { chain = record { instance = i; work = w; values = vals } ∷ rest; memory = m })

abbrev pub with_value : Option Plain → List Val → List Val
with_value None vals = vals
with_value (Some p) vals = Of p ∷ vals

-- ---- expressions

abbrev pub count : Terms → ℕ
count NoTerm = 0
count (Further t ts) = suc (count ts)

-- operands and actual parameters are evaluated from left to right
abbrev pub each : Terms → List Item → List Item
each NoTerm w = w
each (Further t ts) w = Do (Eval t) ∷ each ts w

-- how many actual parameters there are
abbrev pub count_of : Expressions → ℕ
count_of NoMore = 0
count_of (Then e es) = suc (count_of es)

-- the actual parameters of a call that is checked are passed from left to right, for the formal ones from a number on
abbrev pub parameters : (number line : ℕ) → Expressions → List Item → List Item
parameters n line NoMore w = w
parameters n line (Then e es) w = Do (ParameterOp n e line) ∷ parameters (suc n) line es w

abbrev pub eval : World → Instances → ℕ → List Item → List Val → List Activation → Term → Run Configuration
eval o m i w vals rest (Given p) = go o m i w (Of p ∷ vals) rest
eval o m i w vals rest (Cell j key) = having (cell m j key) o (λ v. go o m i w (v ∷ vals) rest)
eval o m i w vals rest (One op line a) = go o m i (Do (Eval a) ∷ Do (OneOp op line) ∷ w) vals rest
eval o m i w vals rest (Two op line a b) = go o m i (Do (Eval a) ∷ Do (Eval b) ∷ Do (TwoOp op line) ∷ w) vals rest
eval o m i w vals rest (Either c a b) = go o m i (Do (Eval c) ∷ Do (IfOp a b) ∷ w) vals rest
eval o m i w vals rest (ElementOf line a ts) = go o m i (Do (Eval a) ∷ each ts (Do (ElementOp (count ts) line) ∷ w)) vals rest
eval o m i w vals rest (PlaceOf j key) = go o m i w (Address (CellPlace j key None) ∷ vals) rest
eval o m i w vals rest (ImageOf n) = go o m i w (Address (ImagePlace n) ∷ vals) rest
eval o m i w vals rest (Joined line a b) = go o m i (Do (Eval a) ∷ Do (Eval b) ∷ Do (JoinOp line) ∷ w) vals rest
eval o m i w vals rest (ValueAt a) = go o m i (Do (Eval a) ∷ Do FetchOp ∷ w) vals rest
eval o m i w vals rest (CopyOf line a) = go o m i (Do (Eval a) ∷ Do (CopyOp line) ∷ w) vals rest
eval o m i w vals rest (CallOf j k ts line) = go o m i (each ts (Do (CallOp k (count ts) line) ∷ w)) (Link j ∷ vals) rest
eval o m i w vals rest (StandardOf name ts line) = go o m i (each ts (Do (StandardOp name line) ∷ w)) vals rest
-- what objects have
eval o m i w vals rest (NewOf j k ts line) = go o m i (each ts (Do (NewOp k (count ts) line) ∷ w)) (Link j ∷ vals) rest
eval o m i w vals rest (AttributeOf k key class line a) = go o m i (Do (Eval a) ∷ Do (AttributeOp k key class line) ∷ w) vals rest
eval o m i w vals rest (RemoteCallOf a k ts line) = go o m i (Do (Eval a) ∷ Do (ObjectOp k line) ∷ each ts (Do (CallOp k (count ts) line) ∷ w)) vals rest
eval o m i w vals rest (QualifiedPlaceOf j key k) = go o m i w (Address (CellPlace j key (Some k)) ∷ vals) rest
eval o m i w vals rest (QualifiedElementOf line k a ts) = go o m i (Do (Eval a) ∷ each ts (Do (QualifiedElementOp (count ts) line k) ∷ w)) vals rest
eval o m i w vals rest (MemberOf member k a) = go o m i (Do (Eval a) ∷ Do (MemberOp member k) ∷ w) vals rest
eval o m i w vals rest (QuaOf k line a) = go o m i (Do (Eval a) ∷ Do (QuaOp k line) ∷ w) vals rest
eval o m i w vals rest (FitsOf k line a) = go o m i (Do (Eval a) ∷ Do (FitsOp k line) ∷ w) vals rest
eval o m i w vals rest (KeptOf a) = go o m i (Do (Eval a) ∷ Do KeepOp ∷ w) vals rest
eval o m i w vals rest (NotNoneOf line a) = go o m i (Do (Eval a) ∷ Do (NotNoneOp line) ∷ w) vals rest
eval o m i w vals rest (TransferOf t line a) = go o m i (Do (Eval a) ∷ Do (TransferOp t line) ∷ w) vals rest
eval o m i w vals rest (SetOf name ts) = go o m i (each ts (Do (SetOp name) ∷ w)) vals rest
eval o m i w vals rest (ProcessOf name line a) = go o m i (Do (Eval a) ∷ Do (ProcessOp name line) ∷ w) vals rest
eval o m i w vals rest (SimulationOf b name ts line) = go o m i (each ts (Do (SimulationOp name line) ∷ w)) (Link b ∷ vals) rest
eval o m i w vals rest (OriginOf k token line a) = go o m i (Do (Eval a) ∷ Do (OriginOp k token line) ∷ w) vals rest
-- procedures as values, and their calls, which stand in the operating instance
eval o m i w vals rest (ProcedureOf j k) = go o m i (Do (ProcedureOp k) ∷ w) (Link j ∷ vals) rest
eval o m i w vals rest (RemoteProcedureOf a k line) = go o m i (Do (Eval a) ∷ Do (ObjectOp k line) ∷ Do (ProcedureOp k) ∷ w) vals rest
eval o m i w vals rest (MatchOf a v line) = go o m i (Do (Eval a) ∷ Do (VirtualOp v line) ∷ w) vals rest
eval o m i w vals rest (CheckedOf a leaves home es line) =
    when (home == i) o (go o m i (Do (Eval a) ∷ Do (CheckOp es line) ∷ parameters 0 line es (Do (CallValueOp (count_of es) leaves line) ∷ w)) vals rest)
-- parameters by name
eval o m i w vals rest (ActualOf j p e) = go o m i w (Actual j p e ∷ vals) rest
eval o m i w vals rest (NamedOf j key wanted) = go o m i (Do (NamedOp j key wanted) ∷ w) vals rest
eval o m i w vals rest NoMeaning = no_rule o

-- the value that lies somewhere
abbrev pub of_plain : Option Plain → Option Val
of_plain None = None
of_plain (Some p) = Some (Of p)

abbrev pub value_at : World → Instances → Place Key (Option ℕ) → Option Val
value_at o m (CellPlace j key class) = cell m j key
value_at o m (ElementPlace a index class) = of_plain (element o a index)
value_at o m (ImagePlace n) = of_plain (image_value o n)

abbrev pub plain_in : Option Val → Option Plain
plain_in None = None
plain_in (Some v) = plain v

-- an operand of a standard name: a plain value, or the text at an address
abbrev pub operand : World → Instances → Val → Option Plain
operand o m (Of p) = Some p
operand o m (Address p) = only_text (plain_in (value_at o m p))
operand o m _ = None

abbrev pub fetched : World → Instances → ℕ → List Item → List Val → List Activation → Run Configuration
fetched o m i w vals rest = popping vals o (λ v vals. having (place_in v) o (λ p. having (value_at o m p) o (λ v. go o m i w (v ∷ vals) rest)))

abbrev pub element_found : World → Instances → ℕ → List Item → List Val → List Activation → (subscripts line : ℕ) → Run Configuration
element_found o m i w vals rest n line = finding_element plain array_in n line vals o (λ array index vals. go o m i w (Address (ElementPlace array index None) ∷ vals) rest)

abbrev pub copied : Limits → World → Instances → ℕ → List Item → List Val → List Activation → (line : ℕ) → Run Configuration
copied l o m i w vals rest line = popping vals o (λ v vals. having (array_in v) o (λ array. copying_array l line i array o (λ copy p. go p m i w (ArrayValue copy ∷ vals) rest)))

-- ---- assignments

-- A value is put where an address leads. An address that has a class has no rule here: references go by `putting_reference`.
unfoldable pub putting : Place Key (Option ℕ) → Val → World → Instances → (World → Instances → Run Configuration) → Run Configuration
putting (CellPlace j key None) v o m go = having (cell_set m j key v) o (λ m. go o m)
putting (ElementPlace a n None) v o m go = having (plain v) o (λ p. having (element_set o a n p) o (λ o. go o m))
putting (ImagePlace n) v o m go = having (plain v) o (λ p. having (image_set o n p) o (λ o. go o m))
putting _ v o m go = no_rule o

-- the text of an operand goes back to where its address leads, if it is one
unfoldable pub put_back : Val → TextVal → World → Instances → (World → Instances → Run Configuration) → Run Configuration
put_back (Address p) t o m go = putting p (Of (Text t)) o m go
put_back _ t o m go = go o m

-- a text is assigned to a text that was found before
abbrev pub text_assigned : World → Instances → ℕ → List Item → List Val → List Activation → (line : ℕ) → Run Configuration
text_assigned o m i w vals rest line = assigning plain line vals o (λ p vals. go p m i w vals rest)

abbrev pub stored : World → Instances → ℕ → List Item → List Val → List Activation → Target → Run Configuration
stored o m i w vals rest (ToCell j key) = popping vals o (λ v vals. having (cell_set m j key v) o (λ m. go o m i w vals rest))
stored o m i w vals rest ToAddress = popping vals o (λ v vals. popping vals o (λ p vals. having (variable_in p) o (λ p. putting p v o m (λ o m. go o m i w vals rest))))
stored o m i w vals rest (ToText line) = text_assigned o m i w vals rest line
stored o m i w vals rest (ToTextOf j key line) = text_assigned o m i w vals rest line
stored o m i w vals rest (ToReference line) = go o m i (Do (ReferOp line) ∷ w) vals rest
stored o m i w vals rest (ToNamed k line) = go o m i (Do (FitsOp k line) ∷ Do (ReferOp line) ∷ w) vals rest
-- a variable that is found anew, when its value is there
stored o m i w vals rest (ToPlace a) = go o m i (Do (Eval a) ∷ Do SwapOp ∷ Do (StoreOp ToAddress) ∷ w) vals rest
stored o m i w vals rest (ToTextAt a line) = text_assigned o m i w vals rest line
stored o m i w vals rest (ToReferenceAt a line) = go o m i (Do (Eval a) ∷ Do SwapOp ∷ Do (ReferOp line) ∷ w) vals rest

-- a value that was taken is given to one left side after another
abbrev pub given_to : World → Instances → ℕ → List Item → List Val → List Activation → Val → List Target → Run Configuration
given_to o m i w vals rest v [] = go o m i w vals rest
given_to o m i w vals rest v (t ∷ ts) = go o m i (Do (StoreOp t) ∷ Do (GiveOp v ts) ∷ w) (v ∷ vals) rest
