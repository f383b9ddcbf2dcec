-- How often a round tells what is at a token: at most once for each time that the token stands in the text.
use Rattle.std.proofs.Common.{◌≡◌, ◌≤◌, ◌+◌, ◌||◌, ℕ, Bool, true, false, List, [], ◌∷◌, ◌++◌, Option, Some, None, refl, sym, subst, append-nil, arith, if◌then◌else◌}
use Rattle.std.specs.Prelude.{length, nat_eq}
use Rattle.sim_base.specs.declared.rule.Rule.{Rule}
use Rattle.sim_base.specs.declared.rule.Rule.TheVariants as r
use Rattle.sim_scope.specs.declared.found.Fault.{Fault}
use Rattle.sim_scope.specs.declared.outcome.Actual.{Actual}
use Rattle.sim_scope.specs.declared.outcome.Actuals.{Actuals}
use Rattle.sim_scope.specs.declared.outcome.Barred.{Barred}
use Rattle.sim_scope.specs.declared.outcome.Barred.TheVariants as bar
use Rattle.sim_scope.specs.declared.outcome.Extent.{Extent}
use Rattle.sim_scope.specs.declared.outcome.Fit.{Fit}
use Rattle.sim_scope.specs.declared.outcome.Fit.TheVariants as fit
use Rattle.sim_scope.specs.declared.outcome.Occurrence.{Occurrence}
use Rattle.sim_scope.specs.declared.outcome.Outcome.{Outcome}
use Rattle.sim_scope.specs.declared.outcome.Outcome.TheVariants as is
use Rattle.sim_scope.specs.declared.outcome.Parameter.{Parameter}
use Rattle.sim_scope.specs.declared.outcome.Parameter.TheVariants as parameter
use Rattle.sim_scope.specs.declared.outcome.Side.{Side}
use Rattle.sim_scope.specs.declared.scopes.Denotation.{Denotation}
use Rattle.sim_scope.specs.declared.scopes.Denotation.TheVariants as denotation
use Rattle.sim_scope.specs.declared.standard.Signature.{Signature}
use Rattle.sim_scope.specs.declared.standard.StandardName.{StandardName}
use Rattle.sim_scope.specs.declared.standard.StandardName.TheVariants as found
use Rattle.sim_scope.specs.declared.types.Entry.{Entry}
use Rattle.sim_scope.specs.declared.types.Entry.TheVariants as entry
use Rattle.sim_scope.specs.declared.types.Formal.{Formal}
use Rattle.sim_scope.specs.declared.types.FormalKind.{FormalKind}
use Rattle.sim_scope.specs.declared.types.FormalKind.TheVariants as shape
use Rattle.sim_scope.specs.declared.types.SimType.{SimType}
use Rattle.sim_scope.specs.declared.types.SimType.TheVariants as t
use Rattle.sim_scope.specs.Actuals.{actual, array_actual, as_value, attribute_alone, barred_actual, barred_alone, fitting, has_value_alone, left_out, misfitting, more, parameter_at, passed_procedure, procedure_actual, standard_actual, unspecified_procedure, untyped, value_fits, with_actual}
use Rattle.sim_scope.specs.Calls.{alone, applied, applied_untyped, attribute, attribute_by_value, attribute_count, attribute_found, attribute_in, attribute_missing, attribute_of_type, attribute_of_value, bound, declared_alone, declared_applied, element_of, formal_alone, formal_applied, found_as, is_barred, is_undotted, located, match_seen, misfitting_or, missing, occurs, own_undotted, parameter_count, procedure_alone, remote, remote_as, remote_at, remote_in, resulting, standard_applied, typed_if, used, used_as, used_in, used_or_barred, used_there}
use Rattle.sim_scope.specs.Found.{Event, Broken, FoundIn, Typed, Uses}
use Rattle.sim_scope.specs.Judged.{Judged, bars, gives, next, telling}
use Rattle.sim_scope.specs.Levels.{class_block, has_classes}
use Rattle.sim_scope.specs.Operators.{common_type, is_same, operands_fit}
use Rattle.sim_scope.specs.Outcomes.{arms_fit, barred_called, breaks, call_of, called, fitted, has, in_common, in_parentheses, is_stream, one, parenthesized, procedure_called, side, side_of, signature_called, standard_called, three, two, type_in, type_wanted, types_fit, value_of, valued, varies, without_type}
use Rattle.sim_scope.specs.References.{as_class, class_barred, class_compared, class_denoted, class_fits, class_named, class_type, class_value, declared_class, generated, generates, is_no_reference, is_nowhere as this_nowhere, is_only_prefix, member, new_object, new_of_class, no_class, only_prefix, other_chain, qualified, this_barred, this_block, this_fits, this_object, this_of_class, this_value, truth_of, wrong_number}
use Rattle.sim_scope.specs.Scopes.{binding, entry_of, formals_of, found_in, is_passed_over}
use Rattle.sim_scope.specs.Standard.{is_standard_class, signature, sysin_attribute, sysout_attribute, text_attribute, undeclared}
use Rattle.sim_scope.specs.Tables.{Tables}
use Rattle.sim_tree.specs.declared.expr.Identifier.{Identifier}
use Rattle.sim_tree.specs.declared.operator.Operator.{Operator}
use Rattle.sim_allowed.proofs.Nowhere.{is_nowhere, nowhere}

abbrev pub here : ℕ → ℕ → ℕ
here t i = if nat_eq t i then 1 else 0

-- what is told of a token: what it denotes, in which block that is found, or its type
pub data About : Type 0 where
  Use : About
  Place : About
  Kind : About

abbrev pub uses_at : About → ℕ → ℕ → ℕ
uses_at Use t i = here t i
uses_at _ t i = 0

abbrev pub finds_at : About → ℕ → ℕ → ℕ
finds_at Place t i = here t i
finds_at _ t i = 0

abbrev pub types_at : About → ℕ → ℕ → ℕ
types_at Kind t i = here t i
types_at _ t i = 0

-- A use of what is found in no block tells that too.
abbrev pub use_tells : About → (nowhere : Bool) → (t token : ℕ) → ℕ
use_tells Use nowhere t token = here t token
use_tells Place nowhere t token = if nowhere then here t token else 0
use_tells Kind nowhere t token = 0

abbrev pub tells : About → ℕ → Event → ℕ
tells k t (Broken token rule) = 0
tells k t (Uses token d) = use_tells k (is_nowhere d) t token
tells k t (FoundIn token block) = finds_at k t token
tells k t (Typed token ty) = types_at k t token

-- how often a list of events tells of a token
unfoldable pub told : About → ℕ → List Event → ℕ
told k t [] = 0
told k t (e ∷ es) = tells k t e + told k t es

pub told_both : (k : About) (t : ℕ) (xs ys : List Event) → told k t (xs ++ ys) ≡ told k t xs + told k t ys
unfolding told
told_both k t [] ys = omega arith
told_both k t (x ∷ xs) ys = let d = told_both k t xs ys in omega (arith, d)

-- nothing is told; the type at a token at most; the use at a token and where it is found; where it is found and its type
unfoldable pub Silent : List Event → Type 0
Silent es = (k : About) (t : ℕ) → told k t es ≡ 0

unfoldable pub Typing : ℕ → List Event → Type 0
Typing i es = (k : About) (t : ℕ) → told k t es ≤ types_at k t i

unfoldable pub Binding : ℕ → List Event → Type 0
Binding i es = (k : About) (t : ℕ) → told k t es ≤ uses_at k t i + finds_at k t i

unfoldable pub Meaning : ℕ → List Event → Type 0
Meaning i es = (k : About) (t : ℕ) → told k t es ≤ finds_at k t i + types_at k t i

pub silent_none : Silent []
unfolding Silent told
silent_none k t = refl

pub silent_break : (token : ℕ) (rule : Rule) → Silent (Broken token rule ∷ [])
unfolding Silent told
silent_break token rule k t = refl

pub bars_silent : (b : Bool) (token : ℕ) (rule : Rule) → Silent (bars b token rule).events
unfolding bars telling gives
bars_silent true token rule = silent_break token rule
bars_silent false token rule = silent_none

pub silent_both : (xs ys : List Event) → Silent xs → Silent ys → Silent (xs ++ ys)
unfolding Silent
silent_both xs ys h j k t = let a = told_both k t xs ys in let b = h k t in let c = j k t in omega (arith, a, b, c)

pub silent_next : {A B : Type 0} (x : Judged A) (f : A → Judged B) → Silent x.events → Silent (f x.value).events → Silent (next x f).events
unfolding next
silent_next x f h j = silent_both x.events (f x.value).events h j

pub typing_silent : (i : ℕ) (es : List Event) → Silent es → Typing i es
unfolding Silent Typing
typing_silent i es h k t = let a = h k t in omega (arith, a)

pub typing_one : (i : ℕ) (ty : SimType) → Typing i (Typed i ty ∷ [])
unfolding Typing told
typing_one i ty k t = omega arith

pub binding_silent : (i : ℕ) (es : List Event) → Silent es → Binding i es
unfolding Silent Binding
binding_silent i es h k t = let a = h k t in omega (arith, a)

use_binds : (k : About) (b : Bool) (t i : ℕ) → use_tells k b t i ≤ uses_at k t i + finds_at k t i
use_binds Use b t i = omega arith
use_binds Place true t i = omega arith
use_binds Place false t i = omega arith
use_binds Kind b t i = omega arith

-- of what may be found in a block
use_alone : (k : About) (t i : ℕ) → use_tells k false t i ≤ uses_at k t i
use_alone Use t i = omega arith
use_alone Place t i = omega arith
use_alone Kind t i = omega arith

pub binding_one : (i : ℕ) (d : Denotation) → Binding i (Uses i d ∷ [])
unfolding Binding told
binding_one i d k t = let a = use_binds k (is_nowhere d) t i in omega (arith, a)

-- ---- values

call_silent : (token n : ℕ) (o : Option Entry) → Silent (procedure_called token n o).events
unfolding gives breaks telling
call_silent token n None = silent_none
call_silent token n (Some (entry.Procedure result block)) = go (nat_eq n 0)
  where
    go : (b : Bool) → Silent (if b then gives (call_of result) else breaks token r.WrongNumber).events
    go true = silent_none
    go false = silent_break token r.WrongNumber
call_silent token n (Some (entry.Virtual result own)) = silent_none
call_silent token n (Some (entry.Formal f)) = silent_none
call_silent token n (Some (entry.Variable ty)) = silent_none
call_silent token n (Some (entry.Constant ty)) = silent_none
call_silent token n (Some (entry.Array e d)) = silent_none
call_silent token n (Some (entry.Class b)) = silent_none
call_silent token n (Some (entry.Unspecified w)) = silent_none
call_silent token n (Some (entry.Attribute name None result)) = silent_none
call_silent token n (Some (entry.Attribute name (Some ty) result)) = silent_break token r.WrongNumber

standard_silent : (token : ℕ) (name : StandardName) → Silent (standard_called token name).events
unfolding gives breaks telling
standard_silent token name = go (is_stream name)
  where
    second : (first : Option SimType) → Silent (elim first as (λ z. Judged Outcome) [ None ↦ gives (call_of (signature name).result) | Some a ↦ breaks token r.WrongNumber ]).events
    second None = silent_none
    second (Some a) = silent_break token r.WrongNumber

    go : (b : Bool) → Silent (if b then breaks token r.StandardNameLeftOut else signature_called token (signature name)).events
    go true = silent_break token r.StandardNameLeftOut
    go false = second (signature name).first

barred_call_silent : (s : Tables) (b : Barred) → Silent (barred_called s b).events
unfolding gives
barred_call_silent s (bar.Procedure d token) = silent_next (procedure_called token.0 (length (formals_of s d)) (entry_of s d)) without_type (call_silent token.0 (length (formals_of s d)) (entry_of s d)) silent_none
barred_call_silent s (bar.Standard name token) = silent_next (standard_called token.0 name) without_type (standard_silent token.0 name) silent_none
barred_call_silent s (bar.Array ty) = silent_none
barred_call_silent s bar.Class = silent_none

pub called_silent : (s : Tables) (o : Outcome) → Silent (called s o).events
unfolding called gives
called_silent s (is.Procedure d token own) = call_silent token.0 (length (formals_of s d)) (entry_of s d)
called_silent s (is.Standard name token) = standard_silent token.0 name
called_silent s is.Refused = silent_none
called_silent s is.NoValue = silent_none
called_silent s is.NoValueInParentheses = silent_none
called_silent s (is.Value ty) = silent_none
called_silent s (is.Called ty) = silent_none
called_silent s (is.Variable ty) = silent_none
called_silent s (is.Constant ty) = silent_none
called_silent s (is.Array ty) = silent_none
called_silent s is.Class = silent_none
called_silent s (is.Barred b) = barred_call_silent s b

value_silent : (first : ℕ) (o : Outcome) → Silent (value_of first o).events
unfolding value_of gives breaks telling
value_silent first is.Refused = silent_none
value_silent first is.NoValue = silent_break first r.WrongType
value_silent first is.NoValueInParentheses = silent_break first r.WrongType
value_silent first (is.Value ty) = silent_none
value_silent first (is.Called ty) = silent_none
value_silent first (is.Variable ty) = silent_none
value_silent first (is.Constant ty) = silent_none
value_silent first (is.Array ty) = silent_break first r.WrongKind
value_silent first is.Class = silent_break first r.WrongKind
value_silent first (is.Barred (bar.Array ty)) = silent_break first r.WrongKind
value_silent first (is.Barred bar.Class) = silent_break first r.WrongKind
value_silent first (is.Barred (bar.Procedure d token)) = silent_none
value_silent first (is.Barred (bar.Standard name token)) = silent_none
value_silent first (is.Procedure d token own) = silent_none
value_silent first (is.Standard name token) = silent_none

pub valued_silent : (s : Tables) (first : ℕ) (o : Outcome) → Silent (valued s first o).events
unfolding valued
valued_silent s first o = silent_next (called s o) (value_of first) (called_silent s o) (value_silent first (called s o).value)

pub side_silent : (s : Tables) (first : ℕ) (o : Outcome) → Silent (side s first o).events
unfolding side gives
side_silent s first o = silent_next (valued s first o) (λ v. gives (side_of first (type_in v))) (valued_silent s first o) silent_none

parentheses_silent : (first : ℕ) (o : Outcome) → Silent (parenthesized first o).events
unfolding parenthesized gives
parentheses_silent first is.NoValue = silent_none
parentheses_silent first is.NoValueInParentheses = silent_none
parentheses_silent first is.Refused = value_silent first is.Refused
parentheses_silent first (is.Value ty) = value_silent first (is.Value ty)
parentheses_silent first (is.Called ty) = value_silent first (is.Called ty)
parentheses_silent first (is.Variable ty) = value_silent first (is.Variable ty)
parentheses_silent first (is.Constant ty) = value_silent first (is.Constant ty)
parentheses_silent first (is.Array ty) = value_silent first (is.Array ty)
parentheses_silent first is.Class = value_silent first is.Class
parentheses_silent first (is.Barred b) = value_silent first (is.Barred b)
parentheses_silent first (is.Procedure d token own) = value_silent first (is.Procedure d token own)
parentheses_silent first (is.Standard name token) = value_silent first (is.Standard name token)

pub in_parentheses_silent : (s : Tables) (first : ℕ) (o : Outcome) → Silent (in_parentheses s first o).events
unfolding in_parentheses
in_parentheses_silent s first o = silent_next (called s o) (parenthesized first) (called_silent s o) (parentheses_silent first (called s o).value)

-- ---- operators

pub has_types : (i : ℕ) (ty : SimType) → Typing i (has i ty).events
unfolding has telling
has_types i ty = typing_one i ty

pub two_types : (o : Operator) (i : ℕ) (x y : Side) → Typing i (two o i x y).events
unfolding two has breaks telling gives
two_types o i x y = go x.ty y.ty
  where
    fits : (f : Fit) → Typing i (fitted i x y f).events
    fits (fit.Fits ty) = typing_one i ty
    fits fit.FirstWrong = typing_silent i (Broken x.first.0 r.WrongType ∷ []) (silent_break x.first.0 r.WrongType)
    fits fit.SecondWrong = typing_silent i (Broken y.first.0 r.WrongType ∷ []) (silent_break y.first.0 r.WrongType)

    go : (a b : Option SimType) → Typing i (types_fit o i x y a b).events
    go None b = typing_silent i [] silent_none
    go (Some a) None = typing_silent i [] silent_none
    go (Some a) (Some b) = fits (operands_fit o a b)

pub one_types : (wanted : SimType) (i : ℕ) (x : Side) → Typing i (one wanted i x).events
unfolding one has breaks telling gives
one_types wanted i x = go x.ty
  where
    same : (b : Bool) → Typing i (if b then has i wanted else breaks x.first.0 r.WrongType).events
    same true = typing_one i wanted
    same false = typing_silent i (Broken x.first.0 r.WrongType ∷ []) (silent_break x.first.0 r.WrongType)

    go : (a : Option SimType) → Typing i (type_wanted wanted i x a).events
    go None = typing_silent i [] silent_none
    go (Some a) = same (is_same a wanted)

pub three_types : (s : Tables) (i : ℕ) (x y z : Side) → Typing i (three s i x y z).events
unfolding three has breaks telling gives
three_types s i x y z = go x.ty y.ty z.ty
  where
    common : (o : Option SimType) → Typing i (in_common i z o).events
    common None = typing_silent i (Broken z.first.0 r.WrongType ∷ []) (silent_break z.first.0 r.WrongType)
    common (Some ty) = typing_one i ty

    test : (b : Bool) (o : Option SimType) → Typing i (if b then in_common i z o else breaks x.first.0 r.WrongType).events
    test true o = common o
    test false o = typing_silent i (Broken x.first.0 r.WrongType ∷ []) (silent_break x.first.0 r.WrongType)

    go : (a b c : Option SimType) → Typing i (arms_fit s i x y z a b c).events
    go None b c = typing_silent i [] silent_none
    go (Some a) None c = typing_silent i [] silent_none
    go (Some a) (Some b) None = typing_silent i [] silent_none
    go (Some a) (Some b) (Some c) = test (is_same a t.Boolean) (common_type s b c)

-- ---- identifiers

-- where an identifier is found
found_once : (token : ℕ) (block : Option ℕ) (k : About) (t : ℕ) → told k t (located token block).events ≤ finds_at k t token
unfolding located gives telling told
found_once token None k t = omega arith
found_once token (Some block) k t = omega arith

found_and_used : (i block : ℕ) (d : Denotation) → is_nowhere d ≡ false → Binding i (FoundIn i block ∷ (Uses i d ∷ []))
unfolding Binding told
found_and_used i block d found k t = let a = subst (λ z. use_tells k z t i ≤ uses_at k t i) (sym found) (use_alone k t i) in omega (arith, a)

used_or_barred_binds : (token : ℕ) (d : Denotation) (b : Bool) → Binding token (used_or_barred token d b).events
unfolding telling
used_or_barred_binds token d true = binding_silent token (Broken token r.BoundDependsOnItsBlock ∷ []) (silent_break token r.BoundDependsOnItsBlock)
used_or_barred_binds token d false = binding_one token d

found_only : (i block : ℕ) (rule : Rule) → Binding i (FoundIn i block ∷ (Broken i rule ∷ []))
unfolding Binding told
found_only i block rule k t = omega arith

pub used_in_binds : (token : ℕ) (block : Option ℕ) (d : Denotation) (b : Bool) → (is_nowhere d ≡ true → block ≡ None) → Binding token (used_in token block d b).events
unfolding used_in next located gives telling
used_in_binds token None d b nowhere = used_or_barred_binds token d b
used_in_binds token (Some block) d true nowhere = found_only token block r.BoundDependsOnItsBlock
used_in_binds token (Some block) d false nowhere = go (is_nowhere d) refl
  where
    go : (g : Bool) → is_nowhere d ≡ g → Binding token (FoundIn token block ∷ (Uses token d ∷ []))
    go true is = let none : Some block ≡ None = nowhere is in absurd (cc)
    go false is = found_and_used token block d is

pub bound_binds : (s : Tables) (x : Extent) (name : Identifier) → Binding name.token.0 (bound s x name).events
unfolding bound telling
bound_binds s x name = go (binding s name.token.0 name.name) refl
  where
    go : (o : Option Denotation) → binding s name.token.0 name.name ≡ o → Binding name.token.0 (found_as s x name.token.0 name.name o).events
    go None e = binding_silent name.token.0 (Broken name.token.0 (missing (is_passed_over s name.token.0 name.name) name.name) ∷ []) (silent_break name.token.0 (missing (is_passed_over s name.token.0 name.name) name.name))
    go (Some d) e = used_in_binds name.token.0 (found_in s name.token.0 name.name) d (is_barred s x name.token.0 d) (λ is. nowhere s name.token.0 name.name d e is)

attribute_uses_found : (x : Identifier) (o : Option StandardName) → Binding x.token.0 (attribute_found x o).events
unfolding telling
attribute_uses_found x None = binding_silent x.token.0 (Broken x.token.0 (undeclared x.name) ∷ []) (silent_break x.token.0 (undeclared x.name))
attribute_uses_found x (Some name) = binding_one x.token.0 (denotation.Standard name)

silent_then_binding : (i : ℕ) (xs ys : List Event) → Silent xs → Binding i ys → Binding i (xs ++ ys)
unfolding Silent Binding
silent_then_binding i xs ys h j k t = let a = told_both k t xs ys in let b = h k t in let c = j k t in omega (arith, a, b, c)

pub binding_then_silent : (i : ℕ) (xs ys : List Event) → Binding i xs → Silent ys → Binding i (xs ++ ys)
unfolding Silent Binding
binding_then_silent i xs ys h j k t = let a = told_both k t xs ys in let b = h k t in let c = j k t in omega (arith, a, b, c)

remote_uses : (s : Tables) (e : Extent) (x : Identifier) (class : _) → Binding x.token.0 (remote s e x class).events
unfolding remote telling gives next
remote_uses s e x class = go (class_block s class)
  where
    found_in : (block : ℕ) (o : Option Denotation) → Binding x.token.0 (remote_as s e x block o).events
    found_in block None = binding_silent x.token.0 (Broken x.token.0 (attribute_missing s block x) ∷ []) (silent_break x.token.0 (attribute_missing s block x))
    found_in block (Some d) = used_or_barred_binds x.token.0 d (is_barred s e x.token.0 d)

    there : (block : ℕ) (b : Bool) → Binding x.token.0 (remote_at s e x block b).events
    there block b =
        binding_then_silent x.token.0 (remote_as s e x block (attribute_in s x.token.0 block x.name)).events [] (found_in block (attribute_in s x.token.0 block x.name)) silent_none

    go : (o : Option ℕ) → Binding x.token.0 (remote_in s e x o).events
    go None = binding_silent x.token.0 [] silent_none
    go (Some block) =
        let class = bars (has_classes s block) x.token.0 r.ClassWithClasses in
        silent_then_binding x.token.0 class.events (remote_at s e x block class.value).events (bars_silent (has_classes s block) x.token.0 r.ClassWithClasses) (there block class.value)

attribute_uses_type : (s : Tables) (e : Extent) (x : Identifier) (first : ℕ) (ty : Option SimType) → Binding x.token.0 (attribute_of_type s e x first ty).events
unfolding telling gives
attribute_uses_type s e x first (Some t.Text) = attribute_uses_found x (text_attribute x.name)
attribute_uses_type s e x first None = binding_silent x.token.0 [] silent_none
attribute_uses_type s e x first (Some (t.Ref class)) = remote_uses s e x class
attribute_uses_type s e x first (Some t.NoneType) = attribute_uses_found x None
attribute_uses_type s e x first (Some t.Integer) = binding_silent x.token.0 (Broken first r.WrongType ∷ []) (silent_break first r.WrongType)
attribute_uses_type s e x first (Some t.Boolean) = binding_silent x.token.0 (Broken first r.WrongType ∷ []) (silent_break first r.WrongType)
attribute_uses_type s e x first (Some t.Character) = binding_silent x.token.0 (Broken first r.WrongType ∷ []) (silent_break first r.WrongType)

attribute_uses_value : (s : Tables) (e : Extent) (x : Identifier) (first : ℕ) (o : Outcome) → Binding x.token.0 (attribute_by_value s e x first o).events
unfolding attribute_by_value next attribute_of_value
attribute_uses_value s e x first o =
    silent_then_binding x.token.0 (side s first o).events (attribute_of_value s e x (side s first o).value).events (side_silent s first o) (attribute_uses_type s e x (side s first o).value.first.0 (side s first o).value.ty)

pub attribute_uses : (s : Tables) (e : Extent) (x : Identifier) (first : ℕ) (o : Outcome) → Binding x.token.0 (attribute s e x first o).events
unfolding attribute
attribute_uses s e x first (is.Standard found.Sysin token) = attribute_uses_found x (sysin_attribute x.name)
attribute_uses s e x first (is.Standard found.Sysout token) = attribute_uses_found x (sysout_attribute x.name)
attribute_uses s e x first o = attribute_uses_value s e x first o

-- ---- alone, and with actuals

if_typed : (i : ℕ) (result : Option SimType) (o : Outcome) → Typing i (typed_if i result o).events
unfolding telling gives
if_typed i None o = typing_silent i [] silent_none
if_typed i (Some ty) o = typing_one i ty

module _ (s : Tables) (naming : ℕ) (x : Identifier) where
  no_types : Typing naming []
  no_types = typing_silent naming [] silent_none

  broken_types : (token : ℕ) (rule : Rule) → Typing naming (Broken token rule ∷ [])
  broken_types token rule = typing_silent naming (Broken token rule ∷ []) (silent_break token rule)

  formal_types : (f : Formal) (w : Option SimType) (o : Outcome) → Typing naming (formal_alone naming f w o).events
  unfolding gives telling varies
  formal_types f None o = go f.kind
    where
      go : (k : FormalKind) → Typing naming (elim k as (λ z. Judged Outcome) [ shape.Procedure ↦ gives o | _ ↦ gives is.Refused ]).events
      go shape.Procedure = no_types
      go shape.Simple = no_types
      go shape.Array = no_types
  formal_types f (Some ty) o = go f.kind
    where
      go : (k : FormalKind) → Typing naming (elim k as (λ z. Judged Outcome) [ shape.Simple ↦ varies naming ty | shape.Array ↦ gives (is.Array ty) | shape.Procedure ↦ telling (Typed naming ty) o ]).events
      go shape.Simple = typing_one naming ty
      go shape.Array = no_types
      go shape.Procedure = typing_one naming ty

  declared_types : (d : _) (e : Option Entry) → Typing naming (declared_alone s naming x d e).events
  unfolding gives telling varies
  declared_types d None = no_types
  declared_types d (Some (entry.Variable ty)) = typing_one naming ty
  declared_types d (Some (entry.Constant ty)) = typing_one naming ty
  declared_types d (Some (entry.Array e n)) = no_types
  declared_types d (Some (entry.Procedure result block)) = if_typed naming result (procedure_alone d x (own_undotted s x (is_undotted naming x) (Some d)))
  declared_types d (Some (entry.Class block)) = no_types
  declared_types d (Some (entry.Virtual result own)) = if_typed naming result (procedure_alone d x (own_undotted s x (is_undotted naming x) (match_seen s x)))
  declared_types d (Some (entry.Formal f)) = formal_types f f.ty (procedure_alone d x None)
  declared_types d (Some (entry.Unspecified w)) = no_types
  declared_types d (Some (entry.Attribute name parameter result)) = if_typed naming result (procedure_alone d x None)

  alone_types : (d : Denotation) → Typing naming (alone s naming x d).events
  unfolding alone gives
  alone_types (denotation.Declared d) = declared_types d (entry_of s d)
  alone_types (denotation.Standard name) = go (is_standard_class name)
    where
      go : (b : Bool) → Typing naming (if b then gives is.Class else typed_if naming (signature name).result (is.Standard name x.token)).events
      go true = no_types
      go false = if_typed naming (signature name).result (is.Standard name x.token)

  misfit_types : (m : Option Fault) (j : Judged Outcome) → Typing naming j.events → Typing naming (misfitting_or m j).events
  unfolding breaks telling
  misfit_types None j h = h
  misfit_types (Some f) j h = broken_types f.token.0 f.rule

  result_types : (m : Option Fault) (result : Option SimType) → Typing naming (resulting naming m result).events
  unfolding resulting
  result_types m result = misfit_types m (typed_if naming result (call_of result)) (if_typed naming result (call_of result))

  element_types : (m : Option Fault) (ty : SimType) → Typing naming (element_of naming m ty).events
  unfolding element_of varies telling
  element_types m ty = misfit_types m (varies naming ty) (typing_one naming ty)

  pub if_types : (b : Bool) (j : Judged Outcome) (token : ℕ) (rule : Rule) → Typing naming j.events → Typing naming (if b then j else breaks token rule).events
  unfolding breaks telling
  if_types true j token rule h = h
  if_types false j token rule h = broken_types token rule

  applied_formal_types : (token : ℕ) (f : Formal) (w : Option SimType) (m : Option Fault) → Typing naming (formal_applied naming token f w m).events
  unfolding breaks telling gives
  applied_formal_types token f w m = go f.kind
    where
      element : (w : Option SimType) → Typing naming (elim w as (λ z. Judged Outcome) [ None ↦ gives is.Refused | Some element ↦ element_of naming m element ]).events
      element None = no_types
      element (Some ty) = element_types m ty

      go : (k : FormalKind) → Typing naming (elim k as (λ z. Judged Outcome) [ shape.Simple ↦ breaks token r.WrongKind | shape.Array ↦ elim w as (λ z. Judged Outcome) [ None ↦ gives is.Refused | Some element ↦ element_of naming m element ] | shape.Procedure ↦ resulting naming m w ]).events
      go shape.Simple = broken_types token r.WrongKind
      go shape.Array = element w
      go shape.Procedure = result_types m w

  declared_applied_types : (token : ℕ) (e : Option Entry) (n : ℕ) (a : Actuals) → Typing naming (declared_applied naming token e n a).events
  unfolding breaks telling
  declared_applied_types token None n a = broken_types token r.WrongKind
  declared_applied_types token (Some (entry.Procedure result block)) n a = if_types (nat_eq n a.count) (resulting naming a.misfit result) token r.WrongNumber (result_types a.misfit result)
  declared_applied_types token (Some (entry.Array e d)) n a = if_types (nat_eq d a.count) (element_of naming a.misfit e) token r.WrongNumber (element_types a.misfit e)
  declared_applied_types token (Some (entry.Virtual result own)) n a = result_types a.misfit result
  declared_applied_types token (Some (entry.Formal f)) n a = applied_formal_types token f f.ty a.misfit
  declared_applied_types token (Some (entry.Variable ty)) n a = broken_types token r.WrongKind
  declared_applied_types token (Some (entry.Constant ty)) n a = broken_types token r.WrongKind
  declared_applied_types token (Some (entry.Class block)) n a = broken_types token r.WrongKind
  declared_applied_types token (Some (entry.Unspecified w)) n a = broken_types token r.WrongKind
  declared_applied_types token (Some (entry.Attribute name parameter result)) n a = if_types (nat_eq (attribute_count parameter) a.count) (resulting naming a.misfit result) token r.WrongNumber (result_types a.misfit result)

  standard_applied_types : (token : ℕ) (name : StandardName) (g : Signature) (a : Actuals) → Typing naming (standard_applied naming token name g a).events
  unfolding breaks telling
  standard_applied_types token name g a = go (is_stream name) (is_standard_class name)
    where
      go : (b c : Bool) → Typing naming (if b then breaks token r.StandardNameLeftOut else if c then breaks token r.WrongKind else if nat_eq (parameter_count g) a.count then resulting naming a.misfit g.result else breaks token r.WrongNumber).events
      go true c = broken_types token r.StandardNameLeftOut
      go false true = broken_types token r.WrongKind
      go false false = if_types (nat_eq (parameter_count g) a.count) (resulting naming a.misfit g.result) token r.WrongNumber (result_types a.misfit g.result)

  applied_types : (token : ℕ) (d : Denotation) (a : Actuals) → Typing naming (applied s naming token d a).events
  unfolding applied
  applied_types token (denotation.Declared d) a = declared_applied_types token (entry_of s d) (length (formals_of s d)) a
  applied_types token (denotation.Standard name) a = standard_applied_types token name (signature name) a

  untyped_types : (token : ℕ) (d : Denotation) → Typing naming (applied_untyped token d).events
  unfolding applied_untyped gives breaks telling
  untyped_types token (denotation.Declared d) = no_types
  untyped_types token (denotation.Standard name) = go (is_stream name)
    where
      go : (b : Bool) → Typing naming (if b then breaks token r.StandardNameLeftOut else gives is.Refused).events
      go true = broken_types token r.StandardNameLeftOut
      go false = no_types

  used_as_types : (d : Denotation) (a : Actuals) → Typing naming (used_as s naming x d a).events
  used_as_types d a = go (nat_eq a.count 0) a.typed
    where
      go : (b c : Bool) → Typing naming (if b then alone s naming x d else if c then applied s naming x.token.0 d a else applied_untyped x.token.0 d).events
      go true c = alone_types d
      go false true = applied_types x.token.0 d a
      go false false = untyped_types x.token.0 d

  typing_more : (es : List Event) → Typing naming es → Typing naming (es ++ [])
  unfolding Typing
  typing_more es h k t = subst (λ z. told k t z ≤ types_at k t naming) (sym (append-nil es)) (h k t)

  pub used_types : (o : Occurrence) (a : Actuals) → Typing naming (used s naming x o a).events
  unfolding used gives next
  used_types o a = go o.denotes o.barred
    where
      go : (d : Option Denotation) (b : Bool) → Typing naming (used_there s naming x d b a).events
      go None b = no_types
      go (Some d) false = used_as_types d a
      go (Some d) true = typing_more (used_as s naming x d a).events (used_as_types d a)

-- ---- classes

silent_then_typing : (i : ℕ) (xs ys : List Event) → Silent xs → Typing i ys → Typing i (xs ++ ys)
unfolding Silent Typing
silent_then_typing i xs ys h j k t = let a = told_both k t xs ys in let b = h k t in let c = j k t in omega (arith, a, b, c)

no_class_silent : (token : ℕ) → Silent (no_class token).events
unfolding telling
no_class_silent token = silent_break token r.WrongKind

as_class_silent : (s : Tables) (token : ℕ) (o : Occurrence) → Silent (as_class s token o).events
unfolding as_class gives
as_class_silent s token o = go o.denotes
  where
    declared : (d : _) (o' : Option ℕ) → Silent (declared_class token d o.barred o').events
    declared d None = no_class_silent token
    declared d (Some block) = silent_none

    standard : (name : StandardName) (b : Bool) → Silent (if b then gives (occurs (Some (denotation.Standard name)) o.barred) else no_class token).events
    standard name true = silent_none
    standard name false = no_class_silent token

    go : (d : Option Denotation) → Silent (class_denoted s token d o.barred).events
    go None = silent_none
    go (Some (denotation.Declared d)) = declared d (class_block s d)
    go (Some (denotation.Standard name)) = standard name (is_standard_class name)

pub class_binds : (s : Tables) (x : Extent) (class : Identifier) → Binding class.token.0 (class_named s x class).events
unfolding class_named next
class_binds s x class =
    binding_then_silent class.token.0 (bound s x class).events (as_class s class.token.0 (bound s x class).value).events (bound_binds s x class) (as_class_silent s class.token.0 (bound s x class).value)

pub class_fits_silent : (s : Tables) (token : ℕ) (class : Option Denotation) (ty : Option SimType) → Silent (class_fits s token class ty).events
unfolding class_fits gives
class_fits_silent s token class ty =
    let one = bars (other_chain s class ty) token r.DifferentChains in
    let two = bars (only_prefix s class) token r.OnlyForPrefixing in
    silent_next one (λ a. next two (λ b. gives (a || b))) (bars_silent (other_chain s class ty) token r.DifferentChains)
    (silent_next two (λ b. gives (one.value || b)) (bars_silent (only_prefix s class) token r.OnlyForPrefixing) silent_none)

-- `is`, `in` and `qua`
compared_types : (s : Tables) (naming : ℕ) (x : Side) (token : ℕ) (o : Occurrence) (type : Denotation → SimType) → Typing naming (class_compared s naming x token o type).events
unfolding gives next has telling
compared_types s naming x token o type =
    silent_then_typing naming (class_barred s x token o).events (class_value naming (class_barred s x token o).value x.ty o.denotes type).events
    (silent_next (bars (is_no_reference x.ty) x.first.0 r.WrongType) (λ a. next (class_fits s token o.denotes x.ty) (λ b. gives (a || b || o.barred))) (bars_silent (is_no_reference x.ty) x.first.0 r.WrongType)
    (silent_next (class_fits s token o.denotes x.ty) (λ b. gives ((bars (is_no_reference x.ty) x.first.0 r.WrongType).value || b || o.barred)) (class_fits_silent s token o.denotes x.ty) silent_none))
    (value (class_barred s x token o).value x.ty o.denotes)
  where
    value : (b : Bool) (ty : Option SimType) (d : Option Denotation) → Typing naming (class_value naming b ty d type).events
    value false (Some ty) (Some d) = typing_one naming (type d)
    value false None d = typing_silent naming [] silent_none
    value false (Some ty) None = typing_silent naming [] silent_none
    value true ty d = typing_silent naming [] silent_none

pub member_types : (s : Tables) (naming : ℕ) (x : Side) (class : Identifier) (o : Occurrence) → Typing naming (member s naming x class o).events
unfolding member
member_types s naming x class o = compared_types s naming x class.token.0 o truth_of

pub qualified_types : (s : Tables) (naming : ℕ) (x : Side) (class : Identifier) (o : Occurrence) → Typing naming (qualified s naming x class o).events
unfolding qualified
qualified_types s naming x class o = compared_types s naming x class.token.0 o class_type

-- `this`
found_and_typed : (i : ℕ) (block : Option ℕ) (ys : List Event) → Typing i ys → Meaning i ((located i block).events ++ ys)
unfolding Typing Meaning
found_and_typed i block ys j k t =
    let a = told_both k t (located i block).events ys in let b = found_once i block k t in let c = j k t in omega (arith, a, b, c)

pub this_means : (s : Tables) (x : Extent) (naming : ℕ) (class : Identifier) (o : Occurrence) → Meaning naming (this_object s x naming class o).events
unfolding this_object this_fits gives next has telling Meaning Silent
this_means s x naming class o = go o.denotes
  where
    token : ℕ
    token = class.token.0

    fits : (d : Denotation) (block : Option ℕ) → Silent (this_fits s x token d block).events
    fits d block =
        let one = bars (this_nowhere block) token r.ThisOutsideItsClass in
        let two = bars (is_only_prefix s d) token r.OnlyForPrefixing in
        let three = bars (this_barred s x token block) token r.BoundDependsOnItsBlock in
        silent_next one (λ a. next two (λ b. next three (λ c. gives (a || b || c)))) (bars_silent (this_nowhere block) token r.ThisOutsideItsClass)
        (silent_next two (λ b. next three (λ c. gives (one.value || b || c))) (bars_silent (is_only_prefix s d) token r.OnlyForPrefixing)
        (silent_next three (λ c. gives (one.value || two.value || c)) (bars_silent (this_barred s x token block) token r.BoundDependsOnItsBlock) silent_none))

    value : (d : Denotation) (b : Bool) → Typing naming (this_value naming d b).events
    value d true = typing_silent naming [] silent_none
    value d false = typing_one naming (class_type d)

    go : (d : Option Denotation) → Meaning naming (this_of_class s x naming token d o.barred).events
    go None k t = let a = silent_none k t in omega (arith, a)
    go (Some d) k t =
        let block = this_block s token d in
        found_and_typed naming block ((this_fits s x token d block).events ++ (this_value naming d ((this_fits s x token d block).value || o.barred)).events)
        (silent_then_typing naming (this_fits s x token d block).events (this_value naming d ((this_fits s x token d block).value || o.barred)).events (fits d block) (value d ((this_fits s x token d block).value || o.barred))) k t

-- `new`
pub new_types : (s : Tables) (naming : ℕ) (class : Identifier) (o : Occurrence) (a : Actuals) → Typing naming (new_object s naming class o a).events
unfolding new_object gives next telling breaks
new_types s naming class o a = go o.denotes
  where
    token : ℕ
    token = class.token.0

    misfit : (m : Option Fault) (ty : SimType) → Typing naming (misfitting_or m (generates naming ty)).events
    misfit None ty = typing_one naming ty
    misfit (Some f) ty = typing_silent naming (Broken f.token.0 f.rule ∷ []) (silent_break f.token.0 f.rule)

    made : (d : Denotation) (b c : Bool) → Typing naming (if b then gives is.Refused else (if c then misfitting_or a.misfit (generates naming (class_type d)) else gives is.Refused)).events
    made d true c = typing_silent naming [] silent_none
    made d false true = misfit a.misfit (class_type d)
    made d false false = typing_silent naming [] silent_none

    generated_types : (d : Denotation) (b : Bool) → Typing naming (generated naming d a b).events
    generated_types d true = made d true true
    generated_types d false = made d false a.typed

    go : (d : Option Denotation) → Typing naming (new_of_class s naming token d o.barred a).events
    go None = typing_silent naming [] silent_none
    go (Some d) =
        let one = bars (wrong_number s d a) token r.WrongNumber in
        let two = bars (is_only_prefix s d) token r.OnlyForPrefixing in
        silent_then_typing naming one.events (two.events ++ (generated naming d a (one.value || two.value || o.barred)).events) (bars_silent (wrong_number s d a) token r.WrongNumber)
        (silent_then_typing naming two.events (generated naming d a (one.value || two.value || o.barred)).events (bars_silent (is_only_prefix s d) token r.OnlyForPrefixing) (generated_types d (one.value || two.value || o.barred)))

-- ---- actuals

module _ (s : Tables) (first : ℕ) where
  as_value_silent : (p : Parameter) (o : Outcome) → Silent (as_value s first p o).events
  unfolding as_value gives
  as_value_silent p o = silent_next (valued s first o) (λ v. gives (value_fits s first p (type_in v))) (valued_silent s first o) silent_none

  array_silent : (p : Parameter) (o : Outcome) (ty : SimType) → Silent (array_actual s first p o ty).events
  unfolding gives
  array_silent parameter.Subscript o ty = as_value_silent parameter.Subscript o
  array_silent (parameter.Formal f) o ty = silent_none
  array_silent parameter.Unknown o ty = silent_none
  array_silent parameter.Unspecified o ty = silent_none

  left_out_silent : Silent (left_out first).events
  unfolding telling
  left_out_silent = silent_break first r.StandardNameLeftOut

  passed_silent : (f : Formal) (e : Option Entry) → Silent (passed_procedure s first f e).events
  unfolding gives
  passed_silent f (Some (entry.Attribute name parameter result)) = left_out_silent
  passed_silent f None = silent_none
  passed_silent f (Some (entry.Variable ty)) = silent_none
  passed_silent f (Some (entry.Constant ty)) = silent_none
  passed_silent f (Some (entry.Array e n)) = silent_none
  passed_silent f (Some (entry.Procedure result block)) = silent_none
  passed_silent f (Some (entry.Class block)) = silent_none
  passed_silent f (Some (entry.Virtual result own)) = silent_none
  passed_silent f (Some (entry.Formal g)) = silent_none
  passed_silent f (Some (entry.Unspecified w)) = silent_none

  alone_silent : (parameter result : Option SimType) → Silent (attribute_alone first parameter result).events
  unfolding gives
  alone_silent None (Some ty) = silent_none
  alone_silent None None = left_out_silent
  alone_silent (Some p) result = left_out_silent

  unspecified_silent : (e : Option Entry) → Silent (unspecified_procedure first e).events
  unfolding gives
  unspecified_silent (Some (entry.Attribute name parameter result)) = alone_silent parameter result
  unspecified_silent None = silent_none
  unspecified_silent (Some (entry.Variable ty)) = silent_none
  unspecified_silent (Some (entry.Constant ty)) = silent_none
  unspecified_silent (Some (entry.Array e n)) = silent_none
  unspecified_silent (Some (entry.Procedure result block)) = silent_none
  unspecified_silent (Some (entry.Class block)) = silent_none
  unspecified_silent (Some (entry.Virtual result own)) = silent_none
  unspecified_silent (Some (entry.Formal g)) = silent_none
  unspecified_silent (Some (entry.Unspecified w)) = silent_none

  procedure_silent : (p : Parameter) (o : Outcome) (d : _) → Silent (procedure_actual s first p o d).events
  unfolding gives
  procedure_silent parameter.Subscript o d = as_value_silent parameter.Subscript o
  procedure_silent (parameter.Formal f) o d = go f.kind
    where
      go : (k : FormalKind)
          → Silent (elim k as (λ z. Judged Actual) [ shape.Simple ↦ as_value s first (parameter.Formal f) o | shape.Array ↦ gives (misfitting first r.WrongType) | shape.Procedure ↦ passed_procedure s first f (entry_of s d) ]).events
      go shape.Simple = as_value_silent (parameter.Formal f) o
      go shape.Array = silent_none
      go shape.Procedure = passed_silent f (entry_of s d)
  procedure_silent parameter.Unknown o d = silent_none
  procedure_silent parameter.Unspecified o d = unspecified_silent (entry_of s d)

  standard_name_silent : (p : Parameter) (o : Outcome) (g : Signature) → Silent (standard_actual s first p o g).events
  unfolding gives
  standard_name_silent parameter.Subscript o g = as_value_silent parameter.Subscript o
  standard_name_silent (parameter.Formal f) o g = go f.kind
    where
      go : (k : FormalKind)
          → Silent (elim k as (λ z. Judged Actual) [ shape.Simple ↦ as_value s first (parameter.Formal f) o | shape.Array ↦ gives (misfitting first r.WrongType) | shape.Procedure ↦ left_out first ]).events
      go shape.Simple = as_value_silent (parameter.Formal f) o
      go shape.Array = silent_none
      go shape.Procedure = left_out_silent
  standard_name_silent parameter.Unknown o g = silent_none
  standard_name_silent parameter.Unspecified o g = go (has_value_alone g)
    where
      go : (b : Bool) → Silent (if b then gives fitting else left_out first).events
      go true = silent_none
      go false = left_out_silent

  barred_alone_silent : (p : Parameter) (b : Barred) → Silent (barred_alone s first p b).events
  barred_alone_silent p (bar.Array element) = array_silent p (is.Barred (bar.Array element)) element
  barred_alone_silent p bar.Class = as_value_silent p (is.Barred bar.Class)
  barred_alone_silent p (bar.Procedure d token) = procedure_silent p (is.Barred (bar.Procedure d token)) d
  barred_alone_silent p (bar.Standard name token) = standard_name_silent p (is.Barred (bar.Standard name token)) (signature name)

  barred_silent : (p : Parameter) (b : Barred) → Silent (barred_actual s first p b).events
  unfolding gives
  barred_silent p b = silent_next (barred_alone s first p b) (λ x. gives untyped) (barred_alone_silent p b) silent_none

  actual_silent : (p : Parameter) (o : Outcome) → Silent (actual s first p o).events
  unfolding actual
  actual_silent p (is.Array ty) = array_silent p (is.Array ty) ty
  actual_silent p (is.Procedure d token own) = procedure_silent p (is.Procedure d token own) d
  actual_silent p (is.Standard name token) = go (is_stream name)
    where
      go : (b : Bool) → Silent (if b then as_value s first p (is.Standard name token) else standard_actual s first p (is.Standard name token) (signature name)).events
      go true = as_value_silent p (is.Standard name token)
      go false = standard_name_silent p (is.Standard name token) (signature name)
  actual_silent p is.Refused = as_value_silent p is.Refused
  actual_silent p is.NoValue = as_value_silent p is.NoValue
  actual_silent p is.NoValueInParentheses = as_value_silent p is.NoValueInParentheses
  actual_silent p (is.Value ty) = as_value_silent p (is.Value ty)
  actual_silent p (is.Called ty) = as_value_silent p (is.Called ty)
  actual_silent p (is.Variable ty) = as_value_silent p (is.Variable ty)
  actual_silent p (is.Constant ty) = as_value_silent p (is.Constant ty)
  actual_silent p is.Class = as_value_silent p is.Class
  actual_silent p (is.Barred b) = barred_silent p b

  pub more_silent : (d : Option Denotation) (a : Actuals) (o : Outcome) → Silent (more s d a first o).events
  unfolding more gives
  more_silent d a o = silent_next (actual s first (parameter_at s d a.count) o) (λ x. gives (with_actual a x)) (actual_silent (parameter_at s d a.count) o) silent_none
