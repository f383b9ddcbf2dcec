-- Actuals, one after the other, against a heading.
use Rattle.std.proofs.Common.{◌≡◌, ◌+◌, ℕ, List, [], ◌∷◌, length, map, Option, refl, sym, ap, ◌∙◌}
use Rattle.std.specs.Prelude.{slice_get}
use Rattle.sim_base.specs.declared.numbering.TokenNo.{TokenNo}
use Rattle.sim_tree.specs.declared.expr.Expr.{Expr}
use Rattle.sim_tree.specs.Syntax.{expressions, first_of}
use Rattle.sim_tree.specs.SyntaxOf.{FirstIs, syntax_of}
use Rattle.sim_scope.specs.declared.outcome.Actual.{Actual}
use Rattle.sim_scope.specs.declared.outcome.Actuals.{Actuals}
use Rattle.sim_scope.specs.declared.outcome.Extent.TheVariants.{Statement}
use Rattle.sim_scope.specs.declared.outcome.Outcome.{Outcome}
use Rattle.sim_scope.specs.declared.outcome.Parameter.{Parameter}
use Rattle.sim_scope.specs.declared.types.Formal.{Formal}
use Rattle.sim_scope.specs.Actuals.{actual, formal_or_none, no_actuals, with_actual}
use Rattle.sim_scope.specs.Expressions.{judge}
use Rattle.sim_scope.specs.ExpressionWalk.{Finds}
use Rattle.sim_scope.specs.Found.{Findings, after, unknown}
use Rattle.sim_scope.specs.Judged.{Judges, gives, next}
use Rattle.sim_scope.specs.Tables.{Tables}
use Rattle.sim_types.proofs.Steps.{after-append, judges_as, judges_gives, judges_next, judges_then}
use Rattle.param_modes.specs.Fits.{HoldsFrom, Owes, Settles, held, held_one, least_unfit, settled, unfit}

pub held_in_steps : (s : Tables) (fs : List Formal) (a b : Actuals) (t : TokenNo) (f g : Findings) (o : Outcome) (c : Option Formal) (p : Parameter) (x : Actual) → c ≡ slice_get fs a.count → p ≡ formal_or_none c → Judges f g x (actual s t.0 p o)
    → b ≡ with_actual a x → Judges f g b (held_one s fs a t.0 o)
unfolding held_one
held_in_steps s fs a b t f g o c p x at is one last =
    judges_then (actual s t.0 (formal_or_none (slice_get fs a.count)) o) (with_actual a)
    (judges_as one (ap (λ q. actual s t.0 q o) (is ∙ ap formal_or_none at))) last

pub held-count : (s : Tables) (fs : List Formal) (a : Actuals) (first : ℕ) (o : Outcome) → (held_one s fs a first o).value.count ≡ a.count + 1
unfolding held_one next gives with_actual
held-count s fs a first o = refl

pub owes_all : (s : Tables) (fs : List Formal) (f : Findings) (es : List Expr) → Owes s fs f es f no_actuals es
unfolding Owes
owes_all s fs f es h c x = x

pub owes_more : (s : Tables) (fs : List Formal) (f g h k : Findings) (b c : Actuals) (es rest us : List Expr) (u : Expr) (t : TokenNo) (o : Outcome) → Owes s fs f es g b rest → rest ≡ u ∷ us → Finds s Statement g h o u → FirstIs t u
    → Judges h k c (held_one s fs b t.0 o) → Owes s fs f es k c us
unfolding Owes HoldsFrom Finds FirstIs held
owes_more s fs f g h k b c es rest us u t o owed is one first same l z later =
    owed l z (judges_as
    (judges_next (next (judge s Statement (syntax_of u)) (held_one s fs b (first_of (syntax_of u)))) (λ y. held s fs y (expressions (map syntax_of us)))
    (judges_next (judge s Statement (syntax_of u)) (held_one s fs b (first_of (syntax_of u))) one (judges_as same (ap (λ i. held_one s fs b i o) first))) later)
    (ap (λ r. held s fs b (expressions (map syntax_of r))) (sym is)))

pub owes_none : (s : Tables) (fs : List Formal) (f g : Findings) (b : Actuals) (es rest : List Expr) → Owes s fs f es g b rest → rest ≡ [] → HoldsFrom s fs f g no_actuals b es
unfolding Owes HoldsFrom held
owes_none s fs f g b es rest owed is = owed g b (judges_as (judges_gives g b) (ap (λ r. held s fs b (expressions (map syntax_of r))) (sym is)))

pub fits_in_steps : (s : Tables) (fs : List Formal) (called : ℕ) (es : List Expr) (f g h : Findings) (a : Actuals) → f ≡ unknown 0 → HoldsFrom s fs f g no_actuals a es → Settles g h (settled (length fs) called a)
    → h.least ≡ least_unfit s fs called (expressions (map syntax_of es))
unfolding HoldsFrom Settles unfit
fits_in_steps s fs called es f g h a from all last =
    let j = held s fs no_actuals (expressions (map syntax_of es)) in
    ap (λ z. z.least)
    (last ∙ ap (λ z. after g (settled (length fs) called z)) all.is ∙ ap (λ z. after z (settled (length fs) called j.value)) (all.finds ∙ ap (λ z. after z j.events) from)
    ∙ sym (after-append (unknown 0) j.events (settled (length fs) called j.value)))
