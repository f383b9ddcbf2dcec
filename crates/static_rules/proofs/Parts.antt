-- What classes, left sides and statements tell.
use Rattle.static_rules.proofs.Whats.{called_value}
use Rattle.static_rules.specs.Types.{called_as}
use Rattle.std.proofs.Common.{◌≡◌, inl, inr, ℕ, Bool, true, false, not, if◌then◌else◌, List, [], ◌∷◌, ◌++◌, Option, Some, None, refl, sym, ap, ◌∙◌, subst}
use Rattle.std.specs.Prelude.{◌||◌}
use Rattle.sim_base.specs.declared.numbering.DeclNo.{DeclNo}
use Rattle.sim_base.specs.declared.rule.Rule.{Rule}
use Rattle.sim_base.specs.declared.rule.Rule.TheVariants as r
use Rattle.sim_tree.specs.declared.stmt.Assignment.{Assignment}
use Rattle.sim_scope.specs.Actuals.{result_in}
use Rattle.sim_scope.specs.Assignments.{assigned_to, call_assigned, fine, is_text_copied, no_target, own_result, procedure_assigned, result_assigned, side_unless, takes, target, targets, told, wrong}
use Rattle.sim_scope.specs.Breaks as b
use Rattle.sim_scope.specs.Calls.{misfitting_or}
use Rattle.sim_scope.specs.Found.{Broken, Typed, fault}
use Rattle.sim_scope.specs.Judged.{Judged, bars, gives, next, telling}
use Rattle.sim_scope.specs.Least.{Among, here}
use Rattle.sim_scope.specs.Levels.{has_classes}
use Rattle.sim_scope.specs.Outcomes.{breaks, called, has, is_stream, parenthesized, value_of}
use Rattle.sim_scope.specs.References.{class_fits, class_type, generated, generates, is_nowhere, is_only_prefix, only_prefix, other_chain, this_barred, this_fits, this_value}
use Rattle.sim_scope.specs.Scopes.{entry_of}
use Rattle.sim_scope.specs.Standard.{signature}
use Rattle.sim_scope.specs.Statements.{call_alone, class_connected, entry_controlled, formal_controlled, moded_controlled, simple, told_unless, variable_controlled}
use Rattle.sim_scope.specs.Tables.{Tables}
use Rattle.sim_scope.specs.declared.found.Fault.{Fault}
use Rattle.sim_scope.specs.declared.outcome.Actuals.{Actuals}
use Rattle.sim_scope.specs.declared.outcome.Barred.TheVariants as bar
use Rattle.sim_scope.specs.declared.outcome.Extent.{Extent}
use Rattle.sim_scope.specs.declared.outcome.Outcome.{Outcome}
use Rattle.sim_scope.specs.declared.outcome.Outcome.TheVariants as is
use Rattle.sim_scope.specs.declared.outcome.Side.{Side}
use Rattle.sim_scope.specs.declared.scopes.Denotation.{Denotation}
use Rattle.sim_scope.specs.declared.scopes.Denotation.TheVariants as denotation
use Rattle.sim_scope.specs.declared.types.Entry.{Entry}
use Rattle.sim_scope.specs.declared.types.Entry.TheVariants as entry
use Rattle.sim_scope.specs.declared.types.FormalKind.{FormalKind}
use Rattle.sim_scope.specs.declared.types.FormalKind.TheVariants as kind
use Rattle.sim_scope.specs.declared.types.Mode.{Mode}
use Rattle.sim_scope.specs.declared.types.Mode.TheVariants as mode
use Rattle.sim_scope.specs.declared.types.SimType.{SimType}
use Rattle.static_rules.specs.LeftSides.{Left, NotSimple, Of, Refused, Simple, Unknown, Variable, WithoutKind, WithoutValue, called_left, copies_result, copies_text, entry_variable, formal_variable, is_called_left, left_of, left_value, moded_variable, own_left, procedure_left, variable_of}
use Rattle.static_rules.specs.Words.{is_array_or_class, is_call}
use Rattle.static_rules.proofs.Lists.{among_one, from_test, to_test}
use Rattle.static_rules.proofs.Telling.{bars_faults, from_next, misfits, next_faults, silent_next, to_first, to_second, told_by}

-- ---- tests with a rule

pub from_bars : (c : Bool) (token : ℕ) (rule : Rule) (y : Fault) → Among (told_by (bars c token rule)) y → (c ≡ true) × (fault token rule ≡ y)
from_bars c token rule y h = from_test c token rule y (subst (λ z. Among z y) (bars_faults c token rule) h)

pub to_bars : (c : Bool) (token : ℕ) (rule : Rule) → c ≡ true → Among (told_by (bars c token rule)) (fault token rule)
to_bars c token rule e = subst (λ z. Among z (fault token rule)) (sym (bars_faults c token rule)) (to_test c token rule e)

-- ---- classes

pub data ClassFault (s : Tables) (token : ℕ) (class : Option Denotation) (ty : Option SimType) : Fault → Type 0 where
  on_other_chain : other_chain s class ty ≡ true → ClassFault s token class ty (fault token r.DifferentChains)
  is_for_prefixing : {d : Denotation} → class ≡ Some d → is_only_prefix s d ≡ true → ClassFault s token class ty (fault token r.OnlyForPrefixing)

some_prefix : (s : Tables) (token : ℕ) (ty : Option SimType) (class : Option Denotation) → only_prefix s class ≡ true → ClassFault s token class ty (fault token r.OnlyForPrefixing)
some_prefix s token ty None e = absurd (cc)
some_prefix s token ty (Some d) e = is_for_prefixing refl e

pub class_from : (s : Tables) (token : ℕ) (class : Option Denotation) (ty : Option SimType) (y : Fault) → Among (told_by (class_fits s token class ty)) y → ClassFault s token class ty y
unfolding class_fits gives
class_from s token class ty y h = elim (from_next (bars (other_chain s class ty) token r.DifferentChains) _ y h) [
  | inl l ↦ (let t = from_bars (other_chain s class ty) token r.DifferentChains y l in subst (ClassFault s token class ty) t.1 (on_other_chain t.0))
  | inr k ↦ elim (from_next (bars (only_prefix s class) token r.OnlyForPrefixing) _ y k) [
    | inl l ↦ (let t = from_bars (only_prefix s class) token r.OnlyForPrefixing y l in subst (ClassFault s token class ty) t.1 (some_prefix s token ty class t.0))
    | inr n ↦ elim n [ ]
  ]
]

pub class_to : (s : Tables) (token : ℕ) (class : Option Denotation) (ty : Option SimType) (y : Fault) → ClassFault s token class ty y → Among (told_by (class_fits s token class ty)) y
unfolding class_fits
class_to s token class ty _ (on_other_chain e) = to_first (bars (other_chain s class ty) token r.DifferentChains) _ (fault token r.DifferentChains) (to_bars (other_chain s class ty) token r.DifferentChains e)
class_to s token class ty _ (is_for_prefixing {d = d} same e) =
    to_second (bars (other_chain s class ty) token r.DifferentChains) _ (fault token r.OnlyForPrefixing)
    (to_first (bars (only_prefix s class) token r.OnlyForPrefixing) _ (fault token r.OnlyForPrefixing) (to_bars (only_prefix s class) token r.OnlyForPrefixing (ap (only_prefix s) same ∙ e)))

-- `this`
pub data ThisFault (s : Tables) (e : Extent) (token : ℕ) (class : Denotation) (block : Option ℕ) : Fault → Type 0 where
  is_outside : block ≡ None → ThisFault s e token class block (fault token r.ThisOutsideItsClass)
  this_for_prefixing : is_only_prefix s class ≡ true → ThisFault s e token class block (fault token r.OnlyForPrefixing)
  this_of_bound : this_barred s e token block ≡ true → ThisFault s e token class block (fault token r.BoundDependsOnItsBlock)

nowhere_is : (block : Option ℕ) → is_nowhere block ≡ true → block ≡ None
nowhere_is None e = refl
nowhere_is (Some b) e = absurd (cc)

pub this_from : (s : Tables) (e : Extent) (token : ℕ) (class : Denotation) (block : Option ℕ) (y : Fault) → Among (told_by (this_fits s e token class block)) y → ThisFault s e token class block y
unfolding this_fits gives
this_from s e token class block y h = elim (from_next (bars (is_nowhere block) token r.ThisOutsideItsClass) _ y h) [
  | inl l ↦ (let t = from_bars (is_nowhere block) token r.ThisOutsideItsClass y l in subst (ThisFault s e token class block) t.1 (is_outside (nowhere_is block t.0)))
  | inr k ↦ elim (from_next (bars (is_only_prefix s class) token r.OnlyForPrefixing) _ y k) [
    | inl l ↦ (let t = from_bars (is_only_prefix s class) token r.OnlyForPrefixing y l in subst (ThisFault s e token class block) t.1 (this_for_prefixing t.0))
    | inr n ↦ elim (from_next (bars (this_barred s e token block) token r.BoundDependsOnItsBlock) _ y n) [
      | inl l ↦ (let t = from_bars (this_barred s e token block) token r.BoundDependsOnItsBlock y l in subst (ThisFault s e token class block) t.1 (this_of_bound t.0))
      | inr m ↦ elim m [ ]
    ]
  ]
]

pub this_to : (s : Tables) (e : Extent) (token : ℕ) (class : Denotation) (block : Option ℕ) (y : Fault) → ThisFault s e token class block y → Among (told_by (this_fits s e token class block)) y
unfolding this_fits
this_to s e token class block _ (is_outside none) = to_first (bars (is_nowhere block) token r.ThisOutsideItsClass) _ (fault token r.ThisOutsideItsClass) (to_bars (is_nowhere block) token r.ThisOutsideItsClass (ap is_nowhere none))
this_to s e token class block _ (this_for_prefixing only) =
    to_second (bars (is_nowhere block) token r.ThisOutsideItsClass) _ (fault token r.OnlyForPrefixing)
    (to_first (bars (is_only_prefix s class) token r.OnlyForPrefixing) _ (fault token r.OnlyForPrefixing) (to_bars (is_only_prefix s class) token r.OnlyForPrefixing only))
this_to s e token class block _ (this_of_bound barred) =
    to_second (bars (is_nowhere block) token r.ThisOutsideItsClass) _ (fault token r.BoundDependsOnItsBlock)
    (to_second (bars (is_only_prefix s class) token r.OnlyForPrefixing) _ (fault token r.BoundDependsOnItsBlock)
    (to_first (bars (this_barred s e token block) token r.BoundDependsOnItsBlock) _ (fault token r.BoundDependsOnItsBlock) (to_bars (this_barred s e token block) token r.BoundDependsOnItsBlock barred)))

pub this_silent : (naming : ℕ) (class : Denotation) (barred : Bool) → told_by (this_value naming class barred) ≡ []
unfolding has telling gives
this_silent naming class true = refl
this_silent naming class false = refl

-- `new`
abbrev pub generated_list : (barred typed : Bool) → Option Fault → List Fault
generated_list true typed misfit = []
generated_list false true misfit = misfits misfit
generated_list false false misfit = []

pub generated_faults : (naming : ℕ) (class : Denotation) (a : Actuals) (barred : Bool) → told_by (generated naming class a barred) ≡ generated_list barred a.typed a.misfit
unfolding breaks telling gives
generated_faults naming class a true = refl
generated_faults naming class a false = go a.typed a.misfit
  where
    go : (t : Bool) (m : Option Fault) → told_by (if t then misfitting_or m (generates naming (class_type class)) else gives is.Refused) ≡ generated_list false t m
    go true None = refl
    go true (Some f) = refl
    go false m = refl

-- a connected class
pub connected_from : (s : Tables) (token : ℕ) (y : Fault) (o : Option ℕ) → Among (told_by (class_connected s token o)) y → (block : ℕ) × (o ≡ Some block) × (has_classes s block ≡ true) × (fault token r.ClassWithClasses ≡ y)
unfolding fine wrong gives telling
connected_from s token y None h = elim h [ ]
connected_from s token y (Some block) h = go (has_classes s block) refl h
  where
    go : (c : Bool) → has_classes s block ≡ c → Among (told_by (if c then wrong token r.ClassWithClasses else fine)) y → (at : ℕ) × (Some block ≡ Some at) × (has_classes s at ≡ true) × (fault token r.ClassWithClasses ≡ y)
    go true e k = (block, refl, e, among_one k)
    go false e k = elim k [ ]

pub connected_to : (s : Tables) (token block : ℕ) (o : Option ℕ) → o ≡ Some block → has_classes s block ≡ true → Among (told_by (class_connected s token o)) (fault token r.ClassWithClasses)
unfolding wrong telling
connected_to s token block o at e =
    subst (λ z. Among (told_by (class_connected s token z)) (fault token r.ClassWithClasses)) (sym at)
    (subst (λ c. Among (told_by (if c then wrong token r.ClassWithClasses else fine)) (fault token r.ClassWithClasses)) (sym e) here)

-- ---- parentheses and statements

pub parentheses_from : (first : ℕ) (o : Outcome) (y : Fault) → Among (told_by (parenthesized first o)) y → (is_array_or_class o ≡ true) × (fault first r.WrongKind ≡ y)
unfolding parenthesized value_of gives breaks telling
parentheses_from first is.Refused y h = elim h [ ]
parentheses_from first is.NoValue y h = elim h [ ]
parentheses_from first is.NoValueInParentheses y h = elim h [ ]
parentheses_from first (is.Value ty) y h = elim h [ ]
parentheses_from first (is.Called ty) y h = elim h [ ]
parentheses_from first (is.Variable ty) y h = elim h [ ]
parentheses_from first (is.Constant ty) y h = elim h [ ]
parentheses_from first (is.Array ty) y h = (refl, among_one h)
parentheses_from first (is.Procedure d token own) y h = elim h [ ]
parentheses_from first (is.Standard name token) y h = elim h [ ]
parentheses_from first is.Class y h = (refl, among_one h)
parentheses_from first (is.Barred (bar.Array ty)) y h = (refl, among_one h)
parentheses_from first (is.Barred bar.Class) y h = (refl, among_one h)
parentheses_from first (is.Barred (bar.Procedure d token)) y h = elim h [ ]
parentheses_from first (is.Barred (bar.Standard name token)) y h = elim h [ ]

pub parentheses_to : (first : ℕ) (o : Outcome) → is_array_or_class o ≡ true → Among (told_by (parenthesized first o)) (fault first r.WrongKind)
unfolding parenthesized value_of breaks telling
parentheses_to first (is.Array ty) e = here
parentheses_to first is.Class e = here
parentheses_to first (is.Barred (bar.Array ty)) e = here
parentheses_to first (is.Barred bar.Class) e = here
parentheses_to first (is.Barred (bar.Procedure d token)) e = absurd (cc)
parentheses_to first (is.Barred (bar.Standard name token)) e = absurd (cc)
parentheses_to first _ e = absurd (cc)

pub alone_faults : (first : ℕ) (o : Outcome) → told_by (call_alone first o) ≡ b.where_true (not (is_call o)) first r.WrongKind
unfolding fine wrong gives telling
alone_faults first is.Refused = refl
alone_faults first is.NoValue = refl
alone_faults first is.NoValueInParentheses = refl
alone_faults first (is.Value ty) = refl
alone_faults first (is.Called ty) = refl
alone_faults first (is.Variable ty) = refl
alone_faults first (is.Constant ty) = refl
alone_faults first (is.Array ty) = refl
alone_faults first (is.Procedure d token own) = refl
alone_faults first (is.Standard name token) = refl
alone_faults first is.Class = refl
alone_faults first (is.Barred (bar.Array ty)) = refl
alone_faults first (is.Barred bar.Class) = refl
alone_faults first (is.Barred (bar.Procedure d token)) = refl
alone_faults first (is.Barred (bar.Standard name token)) = refl

pub told_faults : (m : Option Fault) → told_by (told m) ≡ misfits m
unfolding fine wrong gives telling
told_faults None = refl
told_faults (Some f) = refl

-- the rule of a value of another type
abbrev pub rule_list : (first : ℕ) → Option Rule → List Fault
rule_list first None = []
rule_list first (Some rule) = fault first rule ∷ []

pub unless_faults : (first : ℕ) (o : Option Rule) → told_by (told_unless first o) ≡ rule_list first o
unfolding fine wrong gives telling
unless_faults first None = refl
unless_faults first (Some rule) = refl

-- ---- left sides

abbrev pub left_list : Assignment → (first : ℕ) → Left → List Fault
left_list sign first (Of variable ty) = b.where_true (not (takes sign ty)) first r.WrongType ++ b.where_true (not variable) first r.LeftSideIsNoVariable
left_list sign first WithoutValue = fault first r.WrongType ∷ []
left_list sign first WithoutKind = fault first r.WrongKind ∷ []
left_list sign first Refused = []

unless_silent : (first : ℕ) (ty : SimType) (barred : Bool) → told_by (side_unless first ty barred) ≡ []
unfolding gives
unless_silent first ty true = refl
unless_silent first ty false = refl

targets_faults : (sign : Assignment) (first : ℕ) (variable : Bool) (ty : SimType) → told_by (targets sign first variable ty) ≡ left_list sign first (Of variable ty)
unfolding targets
targets_faults sign first variable ty =
    let x = bars (not (takes sign ty)) first r.WrongType in
    let y = bars (not variable) first r.LeftSideIsNoVariable in
    let rest : Judged Bool → Bool → Judged Side = λ z a. next z (λ c. side_unless first ty (a || c)) in
    let second : told_by (rest y x.value) ≡ b.where_true (not variable) first r.LeftSideIsNoVariable =
    silent_next y (λ c. side_unless first ty (x.value || c)) (unless_silent first ty (x.value || y.value)) ∙ bars_faults (not variable) first r.LeftSideIsNoVariable in
    next_faults x (rest y) ∙ ap (λ z. z ++ told_by (rest y x.value)) (bars_faults (not (takes sign ty)) first r.WrongType) ∙ ap (λ z. b.where_true (not (takes sign ty)) first r.WrongType ++ z) second

assigned_faults : (sign : Assignment) (first : ℕ) (o : Outcome) → told_by (assigned_to sign first o) ≡ left_list sign first (left_value sign o)
unfolding assigned_to no_target gives telling
assigned_faults sign first is.Refused = refl
assigned_faults sign first is.NoValue = refl
assigned_faults sign first is.NoValueInParentheses = refl
assigned_faults sign first (is.Value ty) = targets_faults sign first (is_text_copied sign ty) ty
assigned_faults sign first (is.Called ty) = targets_faults sign first (is_text_copied sign ty) ty
assigned_faults sign first (is.Variable ty) = targets_faults sign first true ty
assigned_faults sign first (is.Constant ty) = targets_faults sign first false ty
assigned_faults sign first (is.Array ty) = refl
assigned_faults sign first (is.Procedure d token own) = refl
assigned_faults sign first (is.Standard name token) = refl
assigned_faults sign first is.Class = refl
assigned_faults sign first (is.Barred (bar.Array ty)) = refl
assigned_faults sign first (is.Barred bar.Class) = refl
assigned_faults sign first (is.Barred (bar.Procedure d token)) = refl
assigned_faults sign first (is.Barred (bar.Standard name token)) = refl

abbrev pub target_list : Tables → Assignment → (first : ℕ) → Outcome → (calls : Bool) → Left → List Fault
target_list s sign first o calls l = (if calls then told_by (called s o) else []) ++ left_list sign first l

module _ (s : Tables) (sign : Assignment) (first : ℕ) where
  called_faults : (o : Outcome) → told_by (call_assigned s sign first o) ≡ target_list s sign first o true (left_value sign (called_as s o))
  unfolding call_assigned
  called_faults o =
      next_faults (called s o) (assigned_to sign first) ∙ ap (λ z. told_by (called s o) ++ z) (assigned_faults sign first (called s o).value ∙ ap (λ z. left_list sign first (left_value sign z)) (called_value s o))

  result_faults : (o : Outcome) (result : Option SimType) → told_by (result_assigned s sign first o result) ≡ target_list s sign first o (copies_text sign result) (called_left s sign o result)
  unfolding telling no_target
  result_faults o None = refl
  result_faults o (Some ty) = go (is_text_copied sign ty)
    where
      go : (c : Bool) → told_by (if c then call_assigned s sign first o else targets sign first false ty) ≡ target_list s sign first o c (if c then left_value sign (called_as s o) else Of false ty)
      go true = called_faults o
      go false = targets_faults sign first false ty

  own_faults : (result : Option SimType) → told_by (own_result sign first result) ≡ left_list sign first (own_left result)
  unfolding telling no_target
  own_faults None = refl
  own_faults (Some ty) = targets_faults sign first true ty

  procedure_left_faults : (o : Outcome) (d : DeclNo) (own : Option DeclNo) → told_by (procedure_assigned s sign first o d own) ≡ target_list s sign first o (copies_result s sign d own) (procedure_left s sign o d own)
  procedure_left_faults o d None = result_faults o (result_in (entry_of s d))
  procedure_left_faults o d (Some p) = own_faults (result_in (entry_of s p))

  pub target_faults : (o : Outcome) → told_by (target s sign first o) ≡ target_list s sign first o (is_called_left s sign o) (left_of s sign o)
  unfolding target
  target_faults is.Refused = assigned_faults sign first is.Refused
  target_faults is.NoValue = assigned_faults sign first is.NoValue
  target_faults is.NoValueInParentheses = assigned_faults sign first is.NoValueInParentheses
  target_faults (is.Value ty) = assigned_faults sign first (is.Value ty)
  target_faults (is.Called ty) = assigned_faults sign first (is.Called ty)
  target_faults (is.Variable ty) = assigned_faults sign first (is.Variable ty)
  target_faults (is.Constant ty) = assigned_faults sign first (is.Constant ty)
  target_faults (is.Array ty) = assigned_faults sign first (is.Array ty)
  target_faults (is.Procedure d token own) = procedure_left_faults (is.Procedure d token own) d own
  target_faults (is.Standard name token) = go (is_stream name)
    where
      go : (c : Bool) → told_by (if c then call_assigned s sign first (is.Standard name token) else result_assigned s sign first (is.Standard name token) (signature name).result)
          ≡ target_list s sign first (is.Standard name token) (c || copies_text sign (signature name).result) (if c then left_value sign (called_as s (is.Standard name token)) else called_left s sign (is.Standard name token) (signature name).result)
      go true = called_faults (is.Standard name token)
      go false = result_faults (is.Standard name token) (signature name).result
  target_faults is.Class = assigned_faults sign first is.Class
  target_faults (is.Barred x) = assigned_faults sign first (is.Barred x)

-- ---- controlled variables

abbrev pub variable_list : Assignment → (token : ℕ) → Variable → List Fault
variable_list sign token (Simple ty) = b.where_true (not (takes sign ty)) token r.WrongType
variable_list sign token NotSimple = fault token r.ControlledVariableNotSimple ∷ []
variable_list sign token Unknown = []

module _ (sign : Assignment) (token : ℕ) where
  takes_faults : (ty : SimType) → told_by (variable_controlled sign token ty) ≡ variable_list sign token (Simple ty)
  unfolding telling
  takes_faults ty = go (takes sign ty)
    where
      go : (c : Bool) → told_by (if c then telling (Typed token ty) (Some ty) else telling (Broken token r.WrongType) None) ≡ b.where_true (not c) token r.WrongType
      go true = refl
      go false = refl

  moded_faults : (m : Mode) (ty : SimType) → told_by (moded_controlled sign token m ty) ≡ variable_list sign token (moded_variable m ty)
  unfolding telling
  moded_faults mode.ByName ty = refl
  moded_faults mode.ByValue ty = takes_faults ty
  moded_faults mode.ByReference ty = takes_faults ty

  formal_faults : (m : Mode) (k : FormalKind) (ty : Option SimType) → told_by (formal_controlled sign token m k ty) ≡ variable_list sign token (formal_variable m k ty)
  unfolding gives telling
  formal_faults m kind.Simple None = refl
  formal_faults m kind.Simple (Some ty) = moded_faults m ty
  formal_faults m kind.Array ty = refl
  formal_faults m kind.Procedure ty = refl

  entry_faults : (e : Option Entry) → told_by (entry_controlled sign token e) ≡ variable_list sign token (entry_variable e)
  unfolding gives telling
  entry_faults None = refl
  entry_faults (Some (entry.Variable ty)) = takes_faults ty
  entry_faults (Some (entry.Constant ty)) = refl
  entry_faults (Some (entry.Array element dimensions)) = refl
  entry_faults (Some (entry.Procedure result block)) = refl
  entry_faults (Some (entry.Class block)) = refl
  entry_faults (Some (entry.Virtual result own)) = refl
  entry_faults (Some (entry.Formal f)) = formal_faults f.mode f.kind f.ty
  entry_faults (Some (entry.Unspecified written)) = refl
  entry_faults (Some (entry.Attribute name parameter result)) = refl

  pub simple_faults : (s : Tables) (o : Option Denotation) → told_by (simple s sign token o) ≡ variable_list sign token (variable_of s o)
  unfolding simple gives telling
  simple_faults s None = refl
  simple_faults s (Some (denotation.Standard name)) = refl
  simple_faults s (Some (denotation.Declared d)) = entry_faults (entry_of s d)
