-- What values, calls and actual parameters tell.
use Rattle.std.proofs.Common.{◌≡◌, ◌⊎◌, inl, inr, ℕ, Bool, true, false, not, if◌then◌else◌, List, [], ◌∷◌, ◌++◌, length, Option, Some, None, refl, sym, ap, ◌∙◌, subst, append-nil}
use Rattle.std.specs.Prelude.{◌||◌, ◌&&◌, nat_eq}
use Rattle.sim_base.specs.declared.numbering.DeclNo.{DeclNo}
use Rattle.sim_base.specs.declared.rule.Rule.{Rule}
use Rattle.sim_base.specs.declared.rule.Rule.TheVariants as r
use Rattle.sim_tree.specs.declared.expr.Identifier.{Identifier}
use Rattle.sim_scope.specs.Actuals.{actual, array_actual, as_value, has_value_alone, left_out, misfitting, passed_procedure, procedure_actual, standard_actual, unspecified_procedure, value_fits}
use Rattle.sim_scope.specs.Breaks as b
use Rattle.sim_scope.specs.Calls.{alone, applied, applied_untyped, attribute_count, declared_alone, declared_applied, element_of, formal_alone, or_barred, parameter_count, resulting, standard_applied, typed_if, used_as, used_there}
use Rattle.sim_scope.specs.Found.{Typed, fault}
use Rattle.sim_scope.specs.Judged.{Judged, bars, gives, next, telling}
use Rattle.sim_scope.specs.Least.{Among, faults, here}
use Rattle.sim_scope.specs.Outcomes.{breaks, call_of, called, is_stream, procedure_called, side, signature_called, standard_called, type_in, value_of, valued, varies, without_type}
use Rattle.sim_scope.specs.Scopes.{entry_of, formals_of}
use Rattle.sim_scope.specs.Standard.{is_standard_class, signature}
use Rattle.sim_scope.specs.Tables.{Tables}
use Rattle.sim_scope.specs.declared.found.Fault.{Fault}
use Rattle.sim_scope.specs.declared.outcome.Actual.{Actual}
use Rattle.sim_scope.specs.declared.outcome.Actuals.{Actuals}
use Rattle.sim_scope.specs.declared.outcome.Barred.TheVariants as bar
use Rattle.sim_scope.specs.declared.outcome.Outcome.{Outcome}
use Rattle.sim_scope.specs.declared.outcome.Outcome.TheVariants as is
use Rattle.sim_scope.specs.declared.outcome.Parameter.{Parameter}
use Rattle.sim_scope.specs.declared.outcome.Parameter.TheVariants as parameter
use Rattle.sim_scope.specs.declared.scopes.Denotation.{Denotation}
use Rattle.sim_scope.specs.declared.scopes.Denotation.TheVariants as denotation
use Rattle.sim_scope.specs.declared.standard.Signature.{Signature}
use Rattle.sim_scope.specs.declared.standard.StandardName.{StandardName}
use Rattle.sim_scope.specs.declared.types.Entry.{Entry}
use Rattle.sim_scope.specs.declared.types.Entry.TheVariants as entry
use Rattle.sim_scope.specs.declared.types.Formal.{Formal}
use Rattle.sim_scope.specs.declared.types.FormalKind.{FormalKind}
use Rattle.sim_scope.specs.declared.types.FormalKind.TheVariants as kind
use Rattle.sim_scope.specs.declared.types.SimType.{SimType}
use Rattle.static_rules.specs.LastRound.{IsAlone, NeedsActuals, attribute_needs, barred_procedure, barred_standard, procedure_alone, procedure_needs, standard_alone, standard_needs}
use Rattle.static_rules.specs.Words.{agrees, count_of, declared_count, has_element, has_parameters, is_array_kind, is_array_or_class, is_attribute, is_known, is_left_out, is_no_value, is_procedure_kind, is_simple_kind, is_stream_of, is_taken, is_typed, lacks_value, passes_attribute, passes_standard, takes_parameters, takes_value}
use Rattle.static_rules.proofs.Expressions.{faults-append}
use Rattle.static_rules.proofs.Lists.{among_either, among_left, among_one, among_right}

-- what is told, as a list of faults
abbrev pub told_by : {A : Type 0} → Judged A → List Fault
told_by j = faults j.events

pub next_faults : {A B : Type 0} (x : Judged A) (f : A → Judged B) → told_by (next x f) ≡ told_by x ++ told_by (f x.value)
unfolding next
next_faults x f = faults-append x.events (f x.value).events

pub from_next : {A B : Type 0} (x : Judged A) (f : A → Judged B) (y : Fault) → Among (told_by (next x f)) y → Among (told_by x) y ⊎ Among (told_by (f x.value)) y
from_next x f y h = among_either (told_by x) (told_by (f x.value)) y (subst (λ z. Among z y) (next_faults x f) h)

pub to_first : {A B : Type 0} (x : Judged A) (f : A → Judged B) (y : Fault) → Among (told_by x) y → Among (told_by (next x f)) y
to_first x f y h = subst (λ z. Among z y) (sym (next_faults x f)) (among_left (told_by (f x.value)) h)

pub to_second : {A B : Type 0} (x : Judged A) (f : A → Judged B) (y : Fault) → Among (told_by (f x.value)) y → Among (told_by (next x f)) y
to_second x f y h = subst (λ z. Among z y) (sym (next_faults x f)) (among_right (told_by x) h)

pub silent_next : {A B : Type 0} (x : Judged A) (f : A → Judged B) → told_by (f x.value) ≡ [] → told_by (next x f) ≡ told_by x
silent_next x f e = next_faults x f ∙ ap (λ z. told_by x ++ z) e ∙ append-nil (told_by x)

pub bars_faults : (c : Bool) (token : ℕ) (rule : Rule) → told_by (bars c token rule) ≡ b.where_true c token rule
unfolding bars telling gives
bars_faults true token rule = refl
bars_faults false token rule = refl

-- ---- calls without actuals

pub data CallFault (s : Tables) (o : Outcome) : Fault → Type 0 where
  needs_actuals : {d : Denotation} {token : ℕ} → IsAlone o d token → NeedsActuals s d → CallFault s o (fault token r.WrongNumber)
  is_a_stream : {name : StandardName} {token : ℕ} → IsAlone o (denotation.Standard name) token → is_stream name ≡ true → CallFault s o (fault token r.StandardNameLeftOut)

module _ (s : Tables) where
  procedure_from : (d : DeclNo) (token : ℕ) (y : Fault) (o : Option Entry) → entry_of s d ≡ o → Among (told_by (procedure_called token (length (formals_of s d)) o)) y → NeedsActuals s (denotation.Declared d) × (fault token r.WrongNumber ≡ y)
  unfolding gives breaks telling
  procedure_from d token y None at h = elim h [ ]
  procedure_from d token y (Some (entry.Variable ty)) at h = elim h [ ]
  procedure_from d token y (Some (entry.Constant ty)) at h = elim h [ ]
  procedure_from d token y (Some (entry.Array element dimensions)) at h = elim h [ ]
  procedure_from d token y (Some (entry.Procedure result block)) at h = go (nat_eq (length (formals_of s d)) 0) refl h
    where
      go : (c : Bool) → nat_eq (length (formals_of s d)) 0 ≡ c → Among (told_by (if c then gives (call_of result) else breaks token r.WrongNumber)) y → NeedsActuals s (denotation.Declared d) × (fault token r.WrongNumber ≡ y)
      go true e k = elim k [ ]
      go false e k = (procedure_needs at e, among_one k)
  procedure_from d token y (Some (entry.Class block)) at h = elim h [ ]
  procedure_from d token y (Some (entry.Virtual result own)) at h = elim h [ ]
  procedure_from d token y (Some (entry.Formal f)) at h = elim h [ ]
  procedure_from d token y (Some (entry.Unspecified written)) at h = elim h [ ]
  procedure_from d token y (Some (entry.Attribute name None result)) at h = elim h [ ]
  procedure_from d token y (Some (entry.Attribute name (Some ty) result)) at h = (attribute_needs at, among_one h)

  signature_from : (name : StandardName) (token : ℕ) (y : Fault) → is_stream name ≡ false → (o : Option SimType) → (signature name).first ≡ o
      → Among (told_by (elim o [ None ↦ gives (call_of (signature name).result) | Some a ↦ breaks token r.WrongNumber ])) y → NeedsActuals s (denotation.Standard name) × (fault token r.WrongNumber ≡ y)
  unfolding gives breaks telling
  signature_from name token y plain None at h = elim h [ ]
  signature_from name token y plain (Some ty) at h = (standard_needs plain at, among_one h)

  standard_from : (o : Outcome) (name : StandardName) (token : ℕ) (y : Fault) → IsAlone o (denotation.Standard name) token → Among (told_by (standard_called token name)) y → CallFault s o y
  unfolding breaks telling
  standard_from o name token y is h = go (is_stream name) refl h
    where
      go : (c : Bool) → is_stream name ≡ c → Among (told_by (if c then breaks token r.StandardNameLeftOut else signature_called token (signature name))) y → CallFault s o y
      go true e k = subst (CallFault s o) (among_one k) (is_a_stream is e)
      go false e k = let d = signature_from name token y e (signature name).first refl k in subst (CallFault s o) d.1 (needs_actuals is d.0)

  needs_from : (o : Outcome) (d : DeclNo) (token : ℕ) (y : Fault) → IsAlone o (denotation.Declared d) token → Among (told_by (procedure_called token (length (formals_of s d)) (entry_of s d))) y → CallFault s o y
  needs_from o d token y is h = let k = procedure_from d token y (entry_of s d) refl h in subst (CallFault s o) k.1 (needs_actuals is k.0)

  pub called_from : (o : Outcome) (y : Fault) → Among (told_by (called s o)) y → CallFault s o y
  unfolding called gives
  called_from is.Refused y h = elim h [ ]
  called_from is.NoValue y h = elim h [ ]
  called_from is.NoValueInParentheses y h = elim h [ ]
  called_from (is.Value ty) y h = elim h [ ]
  called_from (is.Called ty) y h = elim h [ ]
  called_from (is.Variable ty) y h = elim h [ ]
  called_from (is.Constant ty) y h = elim h [ ]
  called_from (is.Array ty) y h = elim h [ ]
  called_from (is.Procedure d token own) y h = needs_from (is.Procedure d token own) d token.0 y procedure_alone h
  called_from (is.Standard name token) y h = standard_from (is.Standard name token) name token.0 y standard_alone h
  called_from is.Class y h = elim h [ ]
  called_from (is.Barred (bar.Array ty)) y h = elim h [ ]
  called_from (is.Barred bar.Class) y h = elim h [ ]
  called_from (is.Barred (bar.Procedure d token)) y h =
      needs_from (is.Barred (bar.Procedure d token)) d token.0 y barred_procedure (subst (λ z. Among z y) (silent_next (procedure_called token.0 (length (formals_of s d)) (entry_of s d)) without_type refl) h)
  called_from (is.Barred (bar.Standard name token)) y h =
      standard_from (is.Barred (bar.Standard name token)) name token.0 y barred_standard (subst (λ z. Among z y) (silent_next (standard_called token.0 name) without_type refl) h)

  needed_to : (d : DeclNo) (token : ℕ) → NeedsActuals s (denotation.Declared d) → Among (told_by (procedure_called token (length (formals_of s d)) (entry_of s d))) (fault token r.WrongNumber)
  unfolding gives breaks telling
  needed_to d token (procedure_needs {result = result} {block = block} at e) =
      subst (λ o. Among (told_by (procedure_called token (length (formals_of s d)) o)) (fault token r.WrongNumber)) (sym at)
      (subst (λ c. Among (told_by (if c then gives (call_of result) else breaks token r.WrongNumber)) (fault token r.WrongNumber)) (sym e) here)
  needed_to d token (attribute_needs at) = subst (λ o. Among (told_by (procedure_called token (length (formals_of s d)) o)) (fault token r.WrongNumber)) (sym at) here

  standard_to : (name : StandardName) (token : ℕ) → NeedsActuals s (denotation.Standard name) → Among (told_by (standard_called token name)) (fault token r.WrongNumber)
  unfolding gives breaks telling
  standard_to name token (standard_needs plain at) =
      subst (λ c. Among (told_by (if c then breaks token r.StandardNameLeftOut else signature_called token (signature name))) (fault token r.WrongNumber)) (sym plain)
      (subst (λ o. Among (told_by (elim o [ None ↦ gives (call_of (signature name).result) | Some a ↦ breaks token r.WrongNumber ])) (fault token r.WrongNumber)) (sym at) here)

  stream_to : (name : StandardName) (token : ℕ) → is_stream name ≡ true → Among (told_by (standard_called token name)) (fault token r.StandardNameLeftOut)
  unfolding breaks telling
  stream_to name token e = subst (λ c. Among (told_by (if c then breaks token r.StandardNameLeftOut else signature_called token (signature name))) (fault token r.StandardNameLeftOut)) (sym e) here

  needs_to : (o : Outcome) (d : Denotation) (token : ℕ) → IsAlone o d token → NeedsActuals s d → Among (told_by (called s o)) (fault token r.WrongNumber)
  unfolding called
  needs_to _ _ _ (procedure_alone {d = d} {token = token}) n = needed_to d token.0 n
  needs_to _ _ _ (standard_alone {name = name} {token = token}) n = standard_to name token.0 n
  needs_to _ _ _ (barred_procedure {d = d} {token = token}) n = to_first (procedure_called token.0 (length (formals_of s d)) (entry_of s d)) without_type (fault token.0 r.WrongNumber) (needed_to d token.0 n)
  needs_to _ _ _ (barred_standard {name = name} {token = token}) n = to_first (standard_called token.0 name) without_type (fault token.0 r.WrongNumber) (standard_to name token.0 n)

  streams_to : (o : Outcome) (d : Denotation) (name : StandardName) (token : ℕ) → IsAlone o d token → d ≡ denotation.Standard name → is_stream name ≡ true → Among (told_by (called s o)) (fault token r.StandardNameLeftOut)
  unfolding called
  streams_to _ _ name _ (procedure_alone {d = d} {token = token}) same e = absurd (cc)
  streams_to _ _ name _ (standard_alone {name = n} {token = token}) same e = let is : n ≡ name = cc in stream_to n token.0 (ap is_stream is ∙ e)
  streams_to _ _ name _ (barred_procedure {d = d} {token = token}) same e = absurd (cc)
  streams_to _ _ name _ (barred_standard {name = n} {token = token}) same e =
      let is : n ≡ name = cc in to_first (standard_called token.0 n) without_type (fault token.0 r.StandardNameLeftOut) (stream_to n token.0 (ap is_stream is ∙ e))

  pub called_to : (o : Outcome) (y : Fault) → CallFault s o y → Among (told_by (called s o)) y
  called_to o _ (needs_actuals {d = d} {token = token} is n) = needs_to o d token is n
  called_to o _ (is_a_stream {name = name} {token = token} is e) = streams_to o (denotation.Standard name) name token is refl e

-- ---- values

pub value_from : (first : ℕ) (o : Outcome) (y : Fault) → Among (told_by (value_of first o)) y → ((is_array_or_class o ≡ true) × (fault first r.WrongKind ≡ y)) ⊎ ((is_no_value o ≡ true) × (fault first r.WrongType ≡ y))
unfolding value_of gives breaks telling
value_from first is.Refused y h = elim h [ ]
value_from first is.NoValue y h = inr (refl, among_one h)
value_from first is.NoValueInParentheses y h = inr (refl, among_one h)
value_from first (is.Value ty) y h = elim h [ ]
value_from first (is.Called ty) y h = elim h [ ]
value_from first (is.Variable ty) y h = elim h [ ]
value_from first (is.Constant ty) y h = elim h [ ]
value_from first (is.Array ty) y h = inl (refl, among_one h)
value_from first (is.Procedure d token own) y h = elim h [ ]
value_from first (is.Standard name token) y h = elim h [ ]
value_from first is.Class y h = inl (refl, among_one h)
value_from first (is.Barred (bar.Array ty)) y h = inl (refl, among_one h)
value_from first (is.Barred bar.Class) y h = inl (refl, among_one h)
value_from first (is.Barred (bar.Procedure d token)) y h = elim h [ ]
value_from first (is.Barred (bar.Standard name token)) y h = elim h [ ]

pub kind_to : (first : ℕ) (o : Outcome) → is_array_or_class o ≡ true → Among (told_by (value_of first o)) (fault first r.WrongKind)
unfolding value_of breaks telling
kind_to first (is.Array ty) e = here
kind_to first is.Class e = here
kind_to first (is.Barred (bar.Array ty)) e = here
kind_to first (is.Barred bar.Class) e = here
kind_to first (is.Barred (bar.Procedure d token)) e = absurd (cc)
kind_to first (is.Barred (bar.Standard name token)) e = absurd (cc)
kind_to first _ e = absurd (cc)

pub no_value_to : (first : ℕ) (o : Outcome) → is_no_value o ≡ true → Among (told_by (value_of first o)) (fault first r.WrongType)
unfolding value_of breaks telling
no_value_to first is.NoValue e = here
no_value_to first is.NoValueInParentheses e = here
no_value_to first _ e = absurd (cc)

pub side_faults : (s : Tables) (first : ℕ) (o : Outcome) → told_by (side s first o) ≡ told_by (valued s first o)
unfolding side gives
side_faults s first o = silent_next (valued s first o) _ refl

-- ---- actual parameters

module _ (s : Tables) (first : ℕ) where
  taken_faults : (q : Parameter) (o : Outcome) → told_by (as_value s first q o) ≡ told_by (valued s first o)
  unfolding as_value gives
  taken_faults q o = silent_next (valued s first o) (λ v. gives (value_fits s first q (type_in v))) refl

  abbrev Tells : Parameter → Outcome → Judged Actual → Type 0
  Tells q o j = told_by j ≡ (if is_taken q o then told_by (valued s first o) else b.where_true (is_left_out s q o) first r.StandardNameLeftOut)

  array_faults : (o : Outcome) (element : SimType) (q : Parameter) → told_by (array_actual s first q o element) ≡ (if is_taken q (is.Array element) then told_by (valued s first o) else [])
  unfolding gives
  array_faults o element parameter.Subscript = taken_faults parameter.Subscript o
  array_faults o element (parameter.Formal f) = refl
  array_faults o element parameter.Unspecified = refl
  array_faults o element parameter.Unknown = refl

  passed_faults : (f : Formal) (e : Option Entry) → told_by (passed_procedure s first f e) ≡ b.where_true (is_attribute e) first r.StandardNameLeftOut
  unfolding gives telling
  passed_faults f None = refl
  passed_faults f (Some (entry.Variable ty)) = refl
  passed_faults f (Some (entry.Constant ty)) = refl
  passed_faults f (Some (entry.Array element dimensions)) = refl
  passed_faults f (Some (entry.Procedure result block)) = refl
  passed_faults f (Some (entry.Class block)) = refl
  passed_faults f (Some (entry.Virtual result own)) = refl
  passed_faults f (Some (entry.Formal g)) = refl
  passed_faults f (Some (entry.Unspecified written)) = refl
  passed_faults f (Some (entry.Attribute name ty result)) = refl

  unspecified_faults : (e : Option Entry) → told_by (unspecified_procedure first e) ≡ b.where_true (lacks_value e) first r.StandardNameLeftOut
  unfolding gives telling
  unspecified_faults None = refl
  unspecified_faults (Some (entry.Variable ty)) = refl
  unspecified_faults (Some (entry.Constant ty)) = refl
  unspecified_faults (Some (entry.Array element dimensions)) = refl
  unspecified_faults (Some (entry.Procedure result block)) = refl
  unspecified_faults (Some (entry.Class block)) = refl
  unspecified_faults (Some (entry.Virtual result own)) = refl
  unspecified_faults (Some (entry.Formal g)) = refl
  unspecified_faults (Some (entry.Unspecified written)) = refl
  unspecified_faults (Some (entry.Attribute name None (Some ty))) = refl
  unspecified_faults (Some (entry.Attribute name None None)) = refl
  unspecified_faults (Some (entry.Attribute name (Some a) None)) = refl
  unspecified_faults (Some (entry.Attribute name (Some a) (Some ty))) = refl

  procedure_faults : (o : Outcome) (d : DeclNo) (q : Parameter) → told_by (procedure_actual s first q o d) ≡ (if takes_value q then told_by (valued s first o) else b.where_true (passes_attribute q (entry_of s d)) first r.StandardNameLeftOut)
  unfolding gives
  procedure_faults o d parameter.Subscript = taken_faults parameter.Subscript o
  procedure_faults o d parameter.Unspecified = unspecified_faults (entry_of s d)
  procedure_faults o d parameter.Unknown = refl
  procedure_faults o d (parameter.Formal f) = go f.kind
    where
      go : (k : FormalKind) → told_by (elim k as (λ _. Judged Actual) [ kind.Simple ↦ as_value s first (parameter.Formal f) o | kind.Array ↦ gives (misfitting first r.WrongType) | kind.Procedure ↦ passed_procedure s first f (entry_of s d) ])
          ≡ (if is_simple_kind k then told_by (valued s first o) else b.where_true (is_procedure_kind k && is_attribute (entry_of s d)) first r.StandardNameLeftOut)
      go kind.Simple = taken_faults (parameter.Formal f) o
      go kind.Array = refl
      go kind.Procedure = passed_faults f (entry_of s d)

  standard_faults : (o : Outcome) (x : Signature) (q : Parameter) → told_by (standard_actual s first q o x) ≡ (if takes_value q then told_by (valued s first o) else b.where_true (passes_standard q x) first r.StandardNameLeftOut)
  unfolding gives telling
  standard_faults o x parameter.Subscript = taken_faults parameter.Subscript o
  standard_faults o x parameter.Unspecified = go (has_value_alone x)
    where
      go : (c : Bool) → told_by (if c then gives (record { typed = true; misfit = None }) else left_out first) ≡ b.where_true (not c) first r.StandardNameLeftOut
      go true = refl
      go false = refl
  standard_faults o x parameter.Unknown = refl
  standard_faults o x (parameter.Formal f) = go f.kind
    where
      go : (k : FormalKind) → told_by (elim k as (λ _. Judged Actual) [ kind.Simple ↦ as_value s first (parameter.Formal f) o | kind.Array ↦ gives (misfitting first r.WrongType) | kind.Procedure ↦ left_out first ])
          ≡ (if is_simple_kind k then told_by (valued s first o) else b.where_true (is_procedure_kind k) first r.StandardNameLeftOut)
      go kind.Simple = taken_faults (parameter.Formal f) o
      go kind.Array = refl
      go kind.Procedure = refl

  array_told : (q : Parameter) (o : Outcome) (element : SimType) (j : Judged Actual) → told_by j ≡ (if is_taken q (is.Array element) then told_by (valued s first o) else []) → is_taken q o ≡ is_taken q (is.Array element) → is_left_out s q o ≡ false → Tells q o j
  array_told q o element j e same none =
      e ∙ ap (λ c. if c then told_by (valued s first o) else []) (sym same) ∙ ap (λ c. if is_taken q o then told_by (valued s first o) else b.where_true c first r.StandardNameLeftOut) (sym none)

  pub actual_faults : (q : Parameter) (o : Outcome) → Tells q o (actual s first q o)
  unfolding actual gives
  actual_faults q is.Refused = taken_faults q is.Refused
  actual_faults q is.NoValue = taken_faults q is.NoValue
  actual_faults q is.NoValueInParentheses = taken_faults q is.NoValueInParentheses
  actual_faults q (is.Value ty) = taken_faults q (is.Value ty)
  actual_faults q (is.Called ty) = taken_faults q (is.Called ty)
  actual_faults q (is.Variable ty) = taken_faults q (is.Variable ty)
  actual_faults q (is.Constant ty) = taken_faults q (is.Constant ty)
  actual_faults q (is.Array ty) = array_faults (is.Array ty) ty q
  actual_faults q (is.Procedure d token own) = procedure_faults (is.Procedure d token own) d q
  actual_faults q (is.Standard name token) = go (is_stream name)
    where
      o : Outcome
      o = is.Standard name token

      go : (c : Bool) → told_by (if c then as_value s first q (is.Standard name token) else standard_actual s first q (is.Standard name token) (signature name))
          ≡ (if c || takes_value q then told_by (valued s first (is.Standard name token)) else b.where_true (not c && passes_standard q (signature name)) first r.StandardNameLeftOut)
      go true = taken_faults q (is.Standard name token)
      go false = standard_faults (is.Standard name token) (signature name) q
  actual_faults q is.Class = taken_faults q is.Class
  actual_faults q (is.Barred (bar.Array ty)) = silent_next (array_actual s first q (is.Barred (bar.Array ty)) ty) _ refl ∙ array_faults (is.Barred (bar.Array ty)) ty q
  actual_faults q (is.Barred bar.Class) = silent_next (as_value s first q (is.Barred bar.Class)) _ refl ∙ taken_faults q (is.Barred bar.Class)
  actual_faults q (is.Barred (bar.Procedure d token)) = silent_next (procedure_actual s first q (is.Barred (bar.Procedure d token)) d) _ refl ∙ procedure_faults (is.Barred (bar.Procedure d token)) d q
  actual_faults q (is.Barred (bar.Standard name token)) =
      silent_next (standard_actual s first q (is.Barred (bar.Standard name token)) (signature name)) _ refl ∙ standard_faults (is.Barred (bar.Standard name token)) (signature name) q

-- ---- uses with actual parameters or subscripts

-- the least misfit, where there is one
abbrev pub misfits : Option Fault → List Fault
misfits None = []
misfits (Some f) = f ∷ []

typed_silent : (naming : ℕ) (o : Outcome) (ty : Option SimType) → told_by (typed_if naming ty o) ≡ []
unfolding telling gives
typed_silent naming o None = refl
typed_silent naming o (Some ty) = refl

resulting_faults : (naming : ℕ) (misfit : Option Fault) (result : Option SimType) → told_by (resulting naming misfit result) ≡ misfits misfit
unfolding resulting breaks telling
resulting_faults naming None result = typed_silent naming (call_of result) result
resulting_faults naming (Some f) result = refl

element_faults : (naming : ℕ) (misfit : Option Fault) (element : SimType) → told_by (element_of naming misfit element) ≡ misfits misfit
unfolding element_of varies breaks telling
element_faults naming None element = refl
element_faults naming (Some f) element = refl

-- what a number tells
abbrev counted : (right : Bool) (token : ℕ) → Bool → Option Fault → List Fault
counted true token known misfit = if known then misfits misfit else []
counted false token known misfit = fault token r.WrongNumber ∷ []

abbrev pub applied_list : (takes right known : Bool) (token : ℕ) → Option Fault → List Fault
applied_list true right known token misfit = counted right token known misfit
applied_list false right known token misfit = fault token r.WrongKind ∷ []

module _ (s : Tables) (naming token : ℕ) (a : Actuals) where
  declared_faults : (d : DeclNo) (o : Option Entry) → told_by (declared_applied naming token o (length (formals_of s d)) a) ≡ applied_list (takes_parameters o) (agrees (declared_count s d o) a.count) (has_element o) token a.misfit
  unfolding breaks telling gives
  declared_faults d None = refl
  declared_faults d (Some (entry.Variable ty)) = refl
  declared_faults d (Some (entry.Constant ty)) = refl
  declared_faults d (Some (entry.Array element dimensions)) = go (nat_eq dimensions a.count)
    where
      go : (c : Bool) → told_by (if c then element_of naming a.misfit element else breaks token r.WrongNumber) ≡ counted c token true a.misfit
      go true = element_faults naming a.misfit element
      go false = refl
  declared_faults d (Some (entry.Procedure result block)) = go (nat_eq (length (formals_of s d)) a.count)
    where
      go : (c : Bool) → told_by (if c then resulting naming a.misfit result else breaks token r.WrongNumber) ≡ counted c token true a.misfit
      go true = resulting_faults naming a.misfit result
      go false = refl
  declared_faults d (Some (entry.Class block)) = refl
  declared_faults d (Some (entry.Virtual result own)) = resulting_faults naming a.misfit result
  declared_faults d (Some (entry.Unspecified written)) = refl
  declared_faults d (Some (entry.Attribute name parameter result)) = go (nat_eq (attribute_count parameter) a.count)
    where
      go : (c : Bool) → told_by (if c then resulting naming a.misfit result else breaks token r.WrongNumber) ≡ counted c token true a.misfit
      go true = resulting_faults naming a.misfit result
      go false = refl
  declared_faults d (Some (entry.Formal f)) = go f.kind f.ty
    where
      go : (k : FormalKind) (ty : Option SimType) → told_by (elim k as (λ _. Judged Outcome) [ kind.Simple ↦ breaks token r.WrongKind | kind.Array ↦ elim ty [ None ↦ gives is.Refused | Some element ↦ element_of naming a.misfit element ] | kind.Procedure ↦ resulting naming a.misfit ty ])
          ≡ applied_list (not (is_simple_kind k)) true (not (is_array_kind k) || is_typed ty) token a.misfit
      go kind.Simple ty = refl
      go kind.Array None = refl
      go kind.Array (Some element) = element_faults naming a.misfit element
      go kind.Procedure ty = resulting_faults naming a.misfit ty

  standard_applied_faults : (name : StandardName) → is_stream name ≡ false → told_by (standard_applied naming token name (signature name) a) ≡ applied_list (not (is_standard_class name)) (nat_eq (parameter_count (signature name)) a.count) true token a.misfit
  unfolding breaks telling
  standard_applied_faults name plain = ap (λ c. told_by (if c then breaks token r.StandardNameLeftOut else if is_standard_class name then breaks token r.WrongKind else if nat_eq (parameter_count (signature name)) a.count then resulting naming a.misfit (signature name).result else breaks token r.WrongNumber)) plain
      ∙ go (is_standard_class name) (nat_eq (parameter_count (signature name)) a.count)
    where
      go : (c n : Bool) → told_by (if c then breaks token r.WrongKind else if n then resulting naming a.misfit (signature name).result else breaks token r.WrongNumber) ≡ applied_list (not c) n true token a.misfit
      go true n = refl
      go false true = resulting_faults naming a.misfit (signature name).result
      go false false = refl

  pub applied_faults : (d : Denotation) → is_stream_of d ≡ false → told_by (applied s naming token d a) ≡ applied_list (has_parameters s d) (agrees (count_of s d) a.count) (is_known s d) token a.misfit
  unfolding applied
  applied_faults (denotation.Declared d) plain = declared_faults d (entry_of s d)
  applied_faults (denotation.Standard name) plain = standard_applied_faults name plain

  pub applied_stream : (d : Denotation) → is_stream_of d ≡ true → told_by (applied s naming token d a) ≡ fault token r.StandardNameLeftOut ∷ []
  unfolding applied breaks telling
  applied_stream (denotation.Declared d) e = absurd (cc)
  applied_stream (denotation.Standard name) e =
      ap (λ c. told_by (if c then breaks token r.StandardNameLeftOut else if is_standard_class name then breaks token r.WrongKind else if nat_eq (parameter_count (signature name)) a.count then resulting naming a.misfit (signature name).result else breaks token r.WrongNumber)) e

  pub untyped_faults : (d : Denotation) → told_by (applied_untyped token d) ≡ b.where_true (is_stream_of d) token r.StandardNameLeftOut
  unfolding applied_untyped breaks telling gives
  untyped_faults (denotation.Declared d) = refl
  untyped_faults (denotation.Standard name) = go (is_stream name)
    where
      go : (c : Bool) → told_by (if c then breaks token r.StandardNameLeftOut else gives is.Refused) ≡ b.where_true c token r.StandardNameLeftOut
      go true = refl
      go false = refl

module _ (s : Tables) (naming : ℕ) (x : Identifier) where
  formal_silent : (k : FormalKind) (f : Formal) (o : Outcome) (ty : Option SimType) → f.kind ≡ k → told_by (formal_alone naming f ty o) ≡ []
  unfolding gives telling varies
  formal_silent k f o None e = go f.kind
    where
      go : (k : FormalKind) → told_by (elim k as (λ _. Judged Outcome) [ kind.Procedure ↦ gives o | _ ↦ gives is.Refused ]) ≡ []
      go kind.Simple = refl
      go kind.Array = refl
      go kind.Procedure = refl
  formal_silent k f o (Some ty) e = go f.kind
    where
      go : (k : FormalKind) → told_by (elim k as (λ _. Judged Outcome) [ kind.Simple ↦ varies naming ty | kind.Array ↦ gives (is.Array ty) | kind.Procedure ↦ telling (Typed naming ty) o ]) ≡ []
      go kind.Simple = refl
      go kind.Array = refl
      go kind.Procedure = refl

  declared_silent : (d : DeclNo) (o : Option Entry) → told_by (declared_alone s naming x d o) ≡ []
  unfolding gives telling varies
  declared_silent d None = refl
  declared_silent d (Some (entry.Variable ty)) = refl
  declared_silent d (Some (entry.Constant ty)) = refl
  declared_silent d (Some (entry.Array element dimensions)) = refl
  declared_silent d (Some (entry.Procedure result block)) = typed_silent naming _ result
  declared_silent d (Some (entry.Class block)) = refl
  declared_silent d (Some (entry.Virtual result own)) = typed_silent naming _ result
  declared_silent d (Some (entry.Formal f)) = formal_silent f.kind f _ f.ty refl
  declared_silent d (Some (entry.Unspecified written)) = refl
  declared_silent d (Some (entry.Attribute name parameter result)) = typed_silent naming _ result

  alone_silent : (d : Denotation) → told_by (alone s naming x d) ≡ []
  unfolding alone gives
  alone_silent (denotation.Declared d) = declared_silent d (entry_of s d)
  alone_silent (denotation.Standard name) = go (is_standard_class name)
    where
      go : (c : Bool) → told_by (if c then gives is.Class else typed_if naming (signature name).result (is.Standard name x.token)) ≡ []
      go true = refl
      go false = typed_silent naming _ (signature name).result

  -- what is used, in one list
  abbrev pub used_list : Denotation → Actuals → (none typed : Bool) → List Fault
  used_list d a true typed = []
  used_list d a false true = told_by (applied s naming x.token.0 d a)
  used_list d a false false = told_by (applied_untyped x.token.0 d)

  used_as_faults : (d : Denotation) (a : Actuals) → told_by (used_as s naming x d a) ≡ used_list d a (nat_eq a.count 0) a.typed
  used_as_faults d a = go (nat_eq a.count 0) a.typed
    where
      go : (n t : Bool) → told_by (if n then alone s naming x d else if t then applied s naming x.token.0 d a else applied_untyped x.token.0 d) ≡ used_list d a n t
      go true t = alone_silent d
      go false true = refl
      go false false = refl

  barred_faults : (barred : Bool) (j : Judged Outcome) → told_by (or_barred barred j) ≡ told_by j
  unfolding gives
  barred_faults false j = refl
  barred_faults true j = silent_next j _ refl

  pub used_faults : (d : Denotation) (barred : Bool) (a : Actuals) → told_by (used_there s naming x (Some d) barred a) ≡ used_list d a (nat_eq a.count 0) a.typed
  used_faults d barred a = barred_faults barred (used_as s naming x d a) ∙ used_as_faults d a
