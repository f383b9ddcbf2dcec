-- One judgement after another.
use Rattle.std.proofs.Common.{◌≡◌, ℕ, ◌+◌, ◌||◌, Bool, true, List, [], ◌∷◌, ◌++◌, Option, Some, None, refl, sym, ap, ◌∙◌, subst, append_assoc, append-nil}
use Rattle.sim_base.specs.declared.numbering.TokenNo.{TokenNo}
use Rattle.sim_base.specs.declared.rule.Rule.TheVariants as r
use Rattle.sim_tree.specs.declared.expr.Identifier.{Identifier}
use Rattle.sim_scope.specs.declared.outcome.Actual.{Actual}
use Rattle.sim_scope.specs.declared.outcome.Actuals.{Actuals}
use Rattle.sim_scope.specs.declared.outcome.Extent.{Extent}
use Rattle.sim_scope.specs.declared.outcome.Barred.{Barred}
use Rattle.sim_scope.specs.declared.outcome.Occurrence.{Occurrence}
use Rattle.sim_scope.specs.declared.outcome.Outcome.{Outcome}
use Rattle.sim_scope.specs.declared.outcome.Outcome.TheVariants as is
use Rattle.sim_scope.specs.declared.outcome.Parameter.{Parameter}
use Rattle.sim_scope.specs.declared.outcome.Side.{Side}
use Rattle.sim_scope.specs.declared.scopes.Denotation.{Denotation}
use Rattle.sim_scope.specs.declared.types.SimType.{SimType}
use Rattle.sim_scope.specs.Actuals.{actual, as_value, barred_actual, barred_alone, more, parameter_at, untyped, value_fits, with_actual}
use Rattle.sim_scope.specs.Calls.{attribute_by_value, attribute_in, attribute_of_value, barred_if, barred_outcome, bound, located, nothing_there, or_barred, remote_as, remote_at, remote_in, used_in, used_or_barred}
use Rattle.sim_scope.specs.Found.{Event, Findings, after, found}
use Rattle.sim_scope.specs.Judged.{Judged, Judges, bars, gives, next}
use Rattle.sim_scope.specs.Levels.{has_classes}
use Rattle.sim_scope.specs.Outcomes.{called, in_parentheses, parenthesized, side, side_of, type_in, value_of, valued, without_type}
use Rattle.sim_scope.specs.References.{as_class, class_barred, class_fits, class_named, class_type, class_value, generated, is_no_reference, is_nowhere, is_only_prefix, member, new_of, only_prefix, other_chain, qualified, this_barred, this_fits, this_found, this_value, truth_of, wrong_number}
use Rattle.sim_scope.specs.Runs.{run}
use Rattle.sim_scope.specs.Tables.{Tables}

pub after-append : (f : Findings) (xs ys : List Event) → after f (xs ++ ys) ≡ after (after f xs) ys
unfolding run
after-append f [] ys = refl
after-append f (x ∷ xs) ys = after-append (found f x) xs ys

pub next-gives : {A : Type 0} (j : Judged A) → next j (λ x. gives x) ≡ j
unfolding next gives
next-gives j = ap (λ es. let r : Judged _ = record { value = j.value; events = es } in r) (append-nil j.events)

pub gives-next : {A B : Type 0} (x : A) (f : A → Judged B) → next (gives x) f ≡ f x
unfolding next gives
gives-next x f = refl

pub next-next : {A B C : Type 0} (j : Judged A) (k : A → Judged B) (m : B → Judged C) → next (next j k) m ≡ next j (λ x. next (k x) m)
unfolding next
next-next {C = C} j k m = ap (λ es. let r : Judged C = record { value = (m (k j.value).value).value; events = es } in r) (append_assoc j.events (k j.value).events (m (k j.value).value).events)

-- only what follows upon the value counts
pub next_same : {A B : Type 0} (j : Judged A) (k m : A → Judged B) → k j.value ≡ m j.value → next j k ≡ next j m
unfolding next
next_same {B = B} j k m e = ap (λ (y : Judged B). let r : Judged B = record { value = y.value; events = j.events ++ y.events } in r) e

pub judges_gives : {A : Type 0} (f : Findings) (x : A) → Judges f f x (gives x)
unfolding gives run
judges_gives f x = record { is = refl; finds = refl }

-- the same judgement
pub judges_as : {A : Type 0} {f g : Findings} {x : A} {j i : Judged A} → Judges f g x j → j ≡ i → Judges f g x i
judges_as {f = f} {g = g} {x = x} h e = subst (λ j. Judges f g x j) e h

pub judges_next : {A B : Type 0} {f g h : Findings} {x : A} {y : B} (j : Judged A) (k : A → Judged B) → Judges f g x j → Judges g h y (k x) → Judges f h y (next j k)
unfolding next
judges_next {A} {B} {f} {g} {h} {x} {y} j k one two =
    let there : Judges g h y (k j.value) = subst (λ z. Judges g h y (k z)) one.is two in
    record {
      is = there.is;
      finds = there.finds ∙ ap (λ z. after z ((k j.value).events)) one.finds ∙ sym (after-append f j.events ((k j.value).events));
    }

-- a piece, and then a plain function of it
pub judges_then : {A B : Type 0} {f g : Findings} {x : A} {y : B} (j : Judged A) (k : A → B) → Judges f g x j → y ≡ k x → Judges f g y (next j (λ z. gives (k z)))
judges_then {A} {B} {f} {g} {x} {y} j k one e =
    judges_next j (λ z. gives (k z)) one (subst (λ z. Judges g g z (gives (k x))) (sym e) (judges_gives g (k x)))

pub used_in_steps : (t : TokenNo) (o : Option ℕ) (d : Denotation) (barred : Bool) (f g h : Findings) (x : Occurrence) → Judges f g tt (located t.0 o) → Judges g h x (used_or_barred t.0 d barred) → Judges f h x (used_in t.0 o d barred)
unfolding used_in
used_in_steps t o d barred f g h x one two = judges_next (located t.0 o) (λ n. used_or_barred t.0 d barred) one two

pub valued_in_steps : (s : Tables) (t : TokenNo) (f g h : Findings) (o u v : Outcome) → Judges f g u (called s o) → Judges g h v (value_of t.0 u) → Judges f h v (valued s t.0 o)
unfolding valued
valued_in_steps s t f g h o u v one two = judges_next (called s o) (value_of t.0) one two

pub in_parentheses_in_steps : (s : Tables) (t : TokenNo) (f g h : Findings) (o u v : Outcome) → Judges f g u (called s o) → Judges g h v (parenthesized t.0 u) → Judges f h v (in_parentheses s t.0 o)
unfolding in_parentheses
in_parentheses_in_steps s t f g h o u v one two = judges_next (called s o) (parenthesized t.0) one two

pub side_in_steps : (s : Tables) (t : TokenNo) (f g : Findings) (o v : Outcome) (y : Side) (ty : Option SimType) → Judges f g v (valued s t.0 o) → ty ≡ type_in v → y ≡ side_of t.0 ty → Judges f g y (side s t.0 o)
unfolding side
side_in_steps s t f g o v y ty one e is = judges_then (valued s t.0 o) (λ v. side_of t.0 (type_in v)) one (is ∙ ap (side_of t.0) e)

pub as_value_in_steps : (s : Tables) (t : TokenNo) (p : Parameter) (f g : Findings) (o v : Outcome) (y : Actual) (ty : Option SimType) → Judges f g v (valued s t.0 o) → ty ≡ type_in v → y ≡ value_fits s t.0 p ty → Judges f g y (as_value s t.0 p o)
unfolding as_value
as_value_in_steps s t p f g o v y ty one e is = judges_then (valued s t.0 o) (λ v. value_fits s t.0 p (type_in v)) one (is ∙ ap (value_fits s t.0 p) e)

pub attribute_in_steps : (s : Tables) (m : Extent) (n : Identifier) (t : TokenNo) (f g h : Findings) (o : Outcome) (x : Side) (d : Occurrence) → Judges f g x (side s t.0 o) → Judges g h d (attribute_of_value s m n x) → Judges f h d (attribute_by_value s m n t.0 o)
unfolding attribute_by_value
attribute_in_steps s m n t f g h o x d one two = judges_next (side s t.0 o) (attribute_of_value s m n) one two

pub class_named_in_steps : (s : Tables) (m : Extent) (n : Identifier) (f g h : Findings) (d c : Occurrence) → Judges f g d (bound s m n) → Judges g h c (as_class s n.token.0 d) → Judges f h c (class_named s m n)
unfolding class_named
class_named_in_steps s m n f g h d c one two = judges_next (bound s m n) (as_class s n.token.0) one two

pub more_in_steps : (s : Tables) (d : Option Denotation) (a b : Actuals) (t : TokenNo) (f g : Findings) (o : Outcome) (p : Parameter) (x : Actual) → p ≡ parameter_at s d a.count → Judges f g x (actual s t.0 p o) → b ≡ with_actual a x → Judges f g b (more s d a t.0 o)
unfolding more
more_in_steps s d a b t f g o p x at one is =
    judges_then (actual s t.0 (parameter_at s d a.count) o) (with_actual a) (judges_as one (ap (λ q. actual s t.0 q o) at)) is

pub more-count : (s : Tables) (d : Option Denotation) (a : Actuals) (first : ℕ) (o : Outcome) → (more s d a first o).value.count ≡ a.count + 1
unfolding more next gives with_actual
more-count s d a first o = refl

-- several rules at one place, each by itself
pub class_fits_in_steps : (s : Tables) (t : TokenNo) (class : Option Denotation) (ty : Option SimType) (f g h : Findings) (p q a b y : Bool) → p ≡ other_chain s class ty → Judges f g a (bars p t.0 r.DifferentChains)
    → q ≡ only_prefix s class → Judges g h b (bars q t.0 r.OnlyForPrefixing) → y ≡ (a || b) → Judges f h y (class_fits s t.0 class ty)
unfolding class_fits
class_fits_in_steps s t class ty f g h p q a b y other one only two is =
    judges_next (bars (other_chain s class ty) t.0 r.DifferentChains) (λ a. next (bars (only_prefix s class) t.0 r.OnlyForPrefixing) (λ b. gives (a || b)))
    (judges_as one (ap (λ z. bars z t.0 r.DifferentChains) other))
    (judges_then (bars (only_prefix s class) t.0 r.OnlyForPrefixing) (λ b. a || b) (judges_as two (ap (λ z. bars z t.0 r.OnlyForPrefixing) only)) is)

pub class_barred_in_steps : (s : Tables) (x : Side) (t : TokenNo) (o : Occurrence) (f g h : Findings) (p a b y z : Bool) → p ≡ is_no_reference x.ty → Judges f g a (bars p x.first.0 r.WrongType)
    → Judges g h b (class_fits s t.0 o.denotes x.ty) → y ≡ (a || b) → z ≡ (y || o.barred) → Judges f h z (class_barred s x t.0 o)
class_barred_in_steps s x t o f g h p a b y z none one two inner is =
    judges_next (bars (is_no_reference x.ty) x.first.0 r.WrongType) (λ a. next (class_fits s t.0 o.denotes x.ty) (λ b. gives (a || b || o.barred)))
    (judges_as one (ap (λ z. bars z x.first.0 r.WrongType) none))
    (judges_then (class_fits s t.0 o.denotes x.ty) (λ b. a || b || o.barred) two (is ∙ ap (λ w. w || o.barred) inner))

pub member_in_steps : (s : Tables) (naming : TokenNo) (x : Side) (n : Identifier) (o : Occurrence) (f g h : Findings) (b : Bool) (y : Outcome) → Judges f g b (class_barred s x n.token.0 o)
    → Judges g h y (class_value naming.0 b x.ty o.denotes truth_of) → Judges f h y (member s naming.0 x n o)
unfolding member
member_in_steps s naming x n o f g h b y one two = judges_next (class_barred s x n.token.0 o) (λ b. class_value naming.0 b x.ty o.denotes truth_of) one two

pub qualified_in_steps : (s : Tables) (naming : TokenNo) (x : Side) (n : Identifier) (o : Occurrence) (f g h : Findings) (b : Bool) (y : Outcome) → Judges f g b (class_barred s x n.token.0 o)
    → Judges g h y (class_value naming.0 b x.ty o.denotes class_type) → Judges f h y (qualified s naming.0 x n o)
unfolding qualified
qualified_in_steps s naming x n o f g h b y one two = judges_next (class_barred s x n.token.0 o) (λ b. class_value naming.0 b x.ty o.denotes class_type) one two

pub this_fits_in_steps : (s : Tables) (m : Extent) (t : TokenNo) (class : Denotation) (block : Option ℕ) (f g h k : Findings) (p q u a b c y z : Bool) → p ≡ is_nowhere block → Judges f g a (bars p t.0 r.ThisOutsideItsClass)
    → q ≡ is_only_prefix s class → Judges g h b (bars q t.0 r.OnlyForPrefixing) → u ≡ this_barred s m t.0 block → Judges h k c (bars u t.0 r.BoundDependsOnItsBlock) → y ≡ (a || b) → z ≡ (y || c) → Judges f k z (this_fits s m t.0 class block)
unfolding this_fits
this_fits_in_steps s m t class block f g h k p q u a b c y z nowhere one only two own three inner is =
    judges_next (bars (is_nowhere block) t.0 r.ThisOutsideItsClass) (λ a. next (bars (is_only_prefix s class) t.0 r.OnlyForPrefixing) (λ b. next (bars (this_barred s m t.0 block) t.0 r.BoundDependsOnItsBlock) (λ c. gives (a || b || c))))
    (judges_as one (ap (λ z. bars z t.0 r.ThisOutsideItsClass) nowhere))
    (judges_next (bars (is_only_prefix s class) t.0 r.OnlyForPrefixing) (λ b. next (bars (this_barred s m t.0 block) t.0 r.BoundDependsOnItsBlock) (λ c. gives (a || b || c)))
    (judges_as two (ap (λ z. bars z t.0 r.OnlyForPrefixing) only))
    (judges_then (bars (this_barred s m t.0 block) t.0 r.BoundDependsOnItsBlock) (λ c. a || b || c) (judges_as three (ap (λ z. bars z t.0 r.BoundDependsOnItsBlock) own)) (is ∙ ap (λ w. w || c) inner)))

pub this_found_in_steps : (s : Tables) (m : Extent) (naming t : TokenNo) (class : Denotation) (barred : Bool) (block : Option ℕ) (f g h k : Findings) (b y : Bool) (o : Outcome) → Judges f g tt (located naming.0 block)
    → Judges g h b (this_fits s m t.0 class block) → y ≡ (b || barred) → Judges h k o (this_value naming.0 class y) → Judges f k o (this_found s m naming.0 t.0 class barred block)
this_found_in_steps s m naming t class barred block f g h k b y o one two is three =
    judges_next (located naming.0 block) (λ n. next (this_fits s m t.0 class block) (λ b. this_value naming.0 class (b || barred))) one
    (judges_next (this_fits s m t.0 class block) (λ b. this_value naming.0 class (b || barred)) two (judges_as three (ap (this_value naming.0 class) is)))

pub new_in_steps : (s : Tables) (naming t : TokenNo) (class : Denotation) (barred : Bool) (a : Actuals) (f g h k : Findings) (p q u v y z : Bool) (o : Outcome) → p ≡ wrong_number s class a → Judges f g u (bars p t.0 r.WrongNumber)
    → q ≡ is_only_prefix s class → Judges g h v (bars q t.0 r.OnlyForPrefixing) → y ≡ (u || v) → z ≡ (y || barred) → Judges h k o (generated naming.0 class a z) → Judges f k o (new_of s naming.0 t.0 class barred a)
new_in_steps s naming t class barred a f g h k p q u v y z o number one only two inner is three =
    judges_next (bars (wrong_number s class a) t.0 r.WrongNumber) (λ p. next (bars (is_only_prefix s class) t.0 r.OnlyForPrefixing) (λ q. generated naming.0 class a (p || q || barred)))
    (judges_as one (ap (λ z. bars z t.0 r.WrongNumber) number))
    (judges_next (bars (is_only_prefix s class) t.0 r.OnlyForPrefixing) (λ q. generated naming.0 class a (u || q || barred)) (judges_as two (ap (λ z. bars z t.0 r.OnlyForPrefixing) only))
    (judges_as three (ap (generated naming.0 class a) (is ∙ ap (λ w. w || barred) inner))))

pub remote_at_in_steps : (s : Tables) (m : Extent) (x : Identifier) (block : ℕ) (barred : Bool) (n : List ℕ) (d : Option Denotation) (f g : Findings) (o p : Occurrence) → d ≡ attribute_in s x.token.0 block n → n ≡ x.name
    → Judges f g o (remote_as s m x block d) → p ≡ barred_if barred o → Judges f g p (remote_at s m x block barred)
remote_at_in_steps s m x block barred n d f g o p at same one is =
    judges_then (remote_as s m x block (attribute_in s x.token.0 block x.name)) (barred_if barred) (judges_as one (ap (remote_as s m x block) (at ∙ ap (attribute_in s x.token.0 block) same))) is

pub barred_actual_in_steps : (s : Tables) (t : TokenNo) (p : Parameter) (b : Barred) (f g : Findings) (x y : Actual) → Judges f g x (barred_alone s t.0 p b) → y ≡ untyped → Judges f g y (barred_actual s t.0 p b)
barred_actual_in_steps s t p b f g x y one is = judges_then (barred_alone s t.0 p b) (λ x. untyped) one is

pub without_type_in_steps : (j : Judged Outcome) (f g : Findings) (o : Outcome) → Judges f g o j → Judges f g is.Refused (next j without_type)
without_type_in_steps j f g o one = judges_then j (λ o. is.Refused) one refl

-- what a rule bars has no type
pub or_barred_in_steps : (j : Judged Outcome) (f g : Findings) (o y : Outcome) → Judges f g o j → y ≡ barred_outcome o → Judges f g y (or_barred true j)
or_barred_in_steps j f g o y one is = judges_then j barred_outcome one is

-- an attribute of an object, whose class may have classes
pub remote_nothing : (s : Tables) (m : Extent) (x : Identifier) (o : Option ℕ) (f : Findings) (y : Occurrence) → o ≡ None → y ≡ nothing_there → Judges f f y (remote_in s m x o)
remote_nothing s m x o f y none is = judges_as (judges_gives f y) (ap (λ z. gives z) is ∙ ap (remote_in s m x) (sym none))

pub remote_there : (s : Tables) (m : Extent) (x : Identifier) (o : Option ℕ) (block : ℕ) (f g h : Findings) (p b : Bool) (y : Occurrence) → o ≡ Some block → p ≡ has_classes s block → Judges f g b (bars p x.token.0 r.ClassWithClasses)
    → Judges g h y (remote_at s m x block b) → Judges f h y (remote_in s m x o)
remote_there s m x o block f g h p b y there classes one two =
    judges_as
    (judges_next (bars (has_classes s block) x.token.0 r.ClassWithClasses) (remote_at s m x block) (judges_as one (ap (λ z. bars z x.token.0 r.ClassWithClasses) classes)) two)
    (ap (remote_in s m x) (sym there))
