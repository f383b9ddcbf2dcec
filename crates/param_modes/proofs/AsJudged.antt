-- A call is judged as its actuals fit the heading.
use Rattle.std.proofs.Common.{◌≡◌, ℕ, Bool, true, false, ◌||◌, ◌&&◌, not, List, [], ◌∷◌, length, Option, Some, None, refl, sym, ap, ◌∙◌, if◌then◌else◌}
use Rattle.std.specs.Prelude.{nat_eq, slice_get}
use Rattle.sim_base.specs.declared.numbering.DeclNo.{DeclNo}
use Rattle.sim_base.specs.declared.rule.Rule.TheVariants as r
use Rattle.sim_tree.specs.declared.expr.Identifier.{Identifier}
use Rattle.sim_tree.specs.Syntax.{Expressions, NoMore, Then, first_of}
use Rattle.sim_scope.specs.declared.found.Fault.{Fault}
use Rattle.sim_scope.specs.declared.outcome.Actuals.{Actuals}
use Rattle.sim_scope.specs.declared.outcome.Extent.TheVariants.{Statement}
use Rattle.sim_scope.specs.declared.outcome.Outcome.{Outcome}
use Rattle.sim_scope.specs.declared.outcome.Outcome.TheVariants as outcome
use Rattle.sim_scope.specs.declared.scopes.Declaration.{Declaration}
use Rattle.sim_scope.specs.declared.scopes.Denotation.{Denotation}
use Rattle.sim_scope.specs.declared.scopes.Denotation.TheVariants.{Declared}
use Rattle.sim_scope.specs.declared.types.Entry.{Entry}
use Rattle.sim_scope.specs.declared.types.Entry.TheVariants as entry
use Rattle.sim_scope.specs.declared.types.Formal.{Formal}
use Rattle.sim_scope.specs.declared.types.SimType.{SimType}
use Rattle.sim_scope.specs.Actuals.{actual, formal_or_none, more, parameter_at, parameter_of, with_actual}
use Rattle.sim_scope.specs.Calls.{applied, declared_applied, misfitting_or, occurs, resulting, typed_if}
use Rattle.sim_scope.specs.Expressions.{actuals, judge}
use Rattle.sim_scope.specs.Found.{Broken}
use Rattle.sim_scope.specs.Judged.{Judged, bars, gives, next, telling}
use Rattle.sim_scope.specs.Least.{faults}
use Rattle.sim_scope.specs.Outcomes.{breaks, call_of}
use Rattle.sim_scope.specs.Levels.{class_block, class_block_in}
use Rattle.sim_scope.specs.References.{class_type, formal_count, formal_count_of, generated, generates, is_only_prefix, new_object}
use Rattle.sim_scope.specs.Scopes.{entry_in, entry_of, formals_of}
use Rattle.sim_scope.specs.Tables.{Tables}
use Rattle.sim_types.proofs.Steps.{next_same}
use Rattle.param_modes.specs.Fits.{held, held_one, misfit_events, settled}
use Rattle.param_modes.specs.Headings.{HasClassHeading, HasHeading}

-- what an actual of a procedure is held against is the formal parameter at its place
parameter : (s : Tables) (d : DeclNo) (result : Option SimType) (fs : List Formal) (place : ℕ) → HasHeading s d result fs → parameter_at s (Some (Declared d)) place ≡ formal_or_none (slice_get fs place)
unfolding parameter_at
parameter s d result fs place h = ap (parameter_of s d place) h.procedure ∙ ap formal_or_none (h.each place)

class_parameter : (s : Tables) (d : DeclNo) (fs : List Formal) (place : ℕ) → HasClassHeading s d fs → parameter_at s (Some (Declared d)) place ≡ formal_or_none (slice_get fs place)
unfolding parameter_at
class_parameter s d fs place h = ap (parameter_of s d place) h.class ∙ ap formal_or_none (h.each place)

-- against each formal parameter at its place
HeldAs : Tables → DeclNo → List Formal → Type 0
HeldAs s d fs = (place : ℕ) → parameter_at s (Some (Declared d)) place ≡ formal_or_none (slice_get fs place)

one_more : (s : Tables) (d : DeclNo) (fs : List Formal) (a : Actuals) (first : ℕ) (o : Outcome) → HeldAs s d fs → more s (Some (Declared d)) a first o ≡ held_one s fs a first o
unfolding more held_one HeldAs
one_more s d fs a first o h = ap (λ p. next (actual s first p o) (λ x. gives (with_actual a x))) (h a.count)

all_held : (s : Tables) (d : DeclNo) (fs : List Formal) (a : Actuals) (xs : Expressions) → HeldAs s d fs → actuals s Statement (Some (Declared d)) a xs ≡ held s fs a xs
unfolding judge held
all_held s d fs a NoMore h = refl
all_held s d fs a (Then x xs) h =
    let o = (judge s Statement x).value in
    let old = next (judge s Statement x) (more s (Some (Declared d)) a (first_of x)) in
    let now = next (judge s Statement x) (held_one s fs a (first_of x)) in
    next_same old (λ b. actuals s Statement (Some (Declared d)) b xs) (λ b. held s fs b xs) (all_held s d fs old.value xs h)
    ∙ ap (λ j. next j (λ b. held s fs b xs)) (next_same (judge s Statement x) (more s (Some (Declared d)) a (first_of x)) (held_one s fs a (first_of x)) (one_more s d fs a (first_of x) o h))

pub as_held : (s : Tables) (d : DeclNo) (result : Option SimType) (fs : List Formal) (a : Actuals) (xs : Expressions) → HasHeading s d result fs → actuals s Statement (Some (Declared d)) a xs ≡ held s fs a xs
unfolding HeldAs
as_held s d result fs a xs h = all_held s d fs a xs (λ place. parameter s d result fs place h)

pub class_as_held : (s : Tables) (d : DeclNo) (fs : List Formal) (a : Actuals) (xs : Expressions) → HasClassHeading s d fs → actuals s Statement (Some (Declared d)) a xs ≡ held s fs a xs
unfolding HeldAs
class_as_held s d fs a xs h = all_held s d fs a xs (λ place. class_parameter s d fs place h)

typed_breaks_nothing : (naming : ℕ) (ty : Option SimType) (o : Outcome) → faults (typed_if naming ty o).events ≡ []
unfolding gives telling
typed_breaks_nothing naming None o = refl
typed_breaks_nothing naming (Some ty) o = refl

misfits : (naming : ℕ) (misfit : Option Fault) (result : Option SimType) → faults (resulting naming misfit result).events ≡ faults (misfit_events misfit)
unfolding resulting breaks telling
misfits naming None result = typed_breaks_nothing naming result (call_of result)
misfits naming (Some fault) result = refl

numbered : (naming token : ℕ) (a : Actuals) (result : Option SimType) (b : Bool)
    → faults (if b then resulting naming a.misfit result else breaks token r.WrongNumber).events ≡ faults (if b then misfit_events a.misfit else Broken token r.WrongNumber ∷ [])
unfolding breaks telling
numbered naming token a result true = misfits naming a.misfit result
numbered naming token a result false = refl

settles : (token n : ℕ) (a : Actuals) → a.typed ≡ true → settled n token a ≡ (if nat_eq n a.count then misfit_events a.misfit else Broken token r.WrongNumber ∷ [])
unfolding settled
settles token n a typed = ap (λ b. if b then (if nat_eq n a.count then misfit_events a.misfit else Broken token r.WrongNumber ∷ []) else []) typed

pub as_settled : (s : Tables) (d : DeclNo) (result : Option SimType) (fs : List Formal) (a : Actuals) (naming token : ℕ) → HasHeading s d result fs → a.typed ≡ true
    → faults (applied s naming token (Declared d) a).events ≡ faults (settled (length fs) token a)
unfolding applied
as_settled s d result fs a naming token h typed =
    ap (λ (e : Option Entry). faults (declared_applied naming token e (length (formals_of s d)) a).events) h.procedure
    ∙ numbered naming token a result (nat_eq (length (formals_of s d)) a.count)
    ∙ ap (λ n. faults (if nat_eq n a.count then misfit_events a.misfit else Broken token r.WrongNumber ∷ [])) h.as_many
    ∙ ap faults (sym (settles token (length fs) a typed))

-- Generations.
misfits_generated : (naming : ℕ) (misfit : Option Fault) (ty : SimType) → faults (misfitting_or misfit (generates naming ty)).events ≡ faults (misfit_events misfit)
unfolding breaks telling
misfits_generated naming None ty = refl
misfits_generated naming (Some fault) ty = refl

-- what is judged of the class and the number
abbrev judged_new : (naming token : ℕ) (class : Denotation) (a : Actuals) (wrong only : Bool) → Judged Outcome
judged_new naming token class a wrong only = next (bars wrong token r.WrongNumber) (λ p. next (bars only token r.OnlyForPrefixing) (λ q. generated naming class a (p || q || false)))

generated_as : (naming token : ℕ) (class : Denotation) (a : Actuals) (b only : Bool) → only ≡ false → a.typed ≡ true
    → faults (judged_new naming token class a (a.typed && not b) only).events ≡ faults (if b then misfit_events a.misfit else Broken token r.WrongNumber ∷ [])
unfolding bars next gives telling
generated_as naming token class a true true is typed = absurd (cc)
generated_as naming token class a false true is typed = absurd (cc)
generated_as naming token class a true false is typed =
    ap (λ w. faults (judged_new naming token class a (w && false) false).events) typed
    ∙ ap (λ w. faults (if w then misfitting_or a.misfit (generates naming (class_type class)) else gives outcome.Refused).events) typed
    ∙ misfits_generated naming a.misfit (class_type class)
generated_as naming token class a false false is typed = ap (λ w. faults (judged_new naming token class a (w && true) false).events) typed

block_of_heading : (s : Tables) (d : DeclNo) (fs : List Formal) (h : HasClassHeading s d fs) → class_block s d ≡ Some h.block
unfolding class_block entry_of
block_of_heading s d fs h = entry_block (slice_get s.declarations d.0) h.block h.class
  where
    entry_block : (row : Option Declaration) (block : ℕ) → entry_in row ≡ Some (entry.Class block) → class_block_in (elim row [ None ↦ None | Some x ↦ Some x.entry ]) ≡ Some block
    entry_block None block is = absurd (cc)
    entry_block (Some row) block is = ap class_block_in is

counted : (s : Tables) (d : DeclNo) (fs : List Formal) → HasClassHeading s d fs → formal_count s (Declared d) ≡ length fs
counted s d fs h = ap (formal_count_of s) (block_of_heading s d fs h) ∙ h.as_many

pub as_generated : (s : Tables) (d : DeclNo) (fs : List Formal) (a : Actuals) (naming : ℕ) (name : Identifier) → HasClassHeading s d fs → is_only_prefix s (Declared d) ≡ false → a.typed ≡ true
    → faults (new_object s naming name (occurs (Some (Declared d)) false) a).events ≡ faults (settled (length fs) name.token.0 a)
unfolding new_object
as_generated s d fs a naming name h only typed =
    let token = name.token.0 in
    generated_as naming token (Declared d) a (nat_eq (formal_count s (Declared d)) a.count) (is_only_prefix s (Declared d)) only typed
    ∙ ap (λ n. faults (if nat_eq n a.count then misfit_events a.misfit else Broken token r.WrongNumber ∷ [])) (counted s d fs h)
    ∙ ap faults (sym (settles token (length fs) a typed))
