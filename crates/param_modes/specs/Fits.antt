-- Actual parameters against a heading.
use Rattle.std.specs.Prelude.{◌≡◌, ⊤, ℕ, nat_eq, if◌then◌else◌, List, [], ◌∷◌, ◌++◌, length, map, Option, Some, None, Result, Ok, Err, slice_get}
use Rattle.sim_base.specs.declared.rule.Rule.TheVariants as r
use Rattle.sim_tree.specs.declared.expr.Expr.{Expr}
use Rattle.sim_tree.specs.Syntax.{Expressions, NoMore, Then, expressions, first_of}
use Rattle.sim_tree.specs.SyntaxOf.{syntax_of}
use Rattle.sim_scope.specs.declared.found.Fault.{Fault}
use Rattle.sim_scope.specs.declared.outcome.Actuals.{Actuals}
use Rattle.sim_scope.specs.declared.outcome.Extent.TheVariants.{Statement}
use Rattle.sim_scope.specs.declared.outcome.Outcome.{Outcome}
use Rattle.sim_scope.specs.declared.refusal.StaticRefusal.{StaticRefusal}
use Rattle.sim_scope.specs.declared.refusal.StaticRefusal.TheVariants as refusal
use Rattle.sim_scope.specs.declared.types.Formal.{Formal}
use Rattle.sim_scope.specs.Actuals.{actual, formal_or_none, no_actuals, with_actual}
use Rattle.sim_scope.specs.Expressions.{judge}
use Rattle.sim_scope.specs.Found.{Event, Broken, Findings, after, fault, unknown}
use Rattle.sim_scope.specs.Judged.{Judged, Judges, gives, next}
use Rattle.sim_scope.specs.Tables.{Tables}

-- One more actual, against the formal parameter at its place (S12, S13, S16, S23; an actual past the last formal is held against nothing).
unfoldable pub held_one : Tables → List Formal → Actuals → (first : ℕ) → Outcome → Judged Actuals
held_one s fs a first o = next (actual s first (formal_or_none (slice_get fs a.count)) o) (λ x. gives (with_actual a x))

-- all of them, from the next one on
unfoldable pub held : Tables → List Formal → Actuals → Expressions → Judged Actuals
held s fs a NoMore = gives a
held s fs a (Then x xs) = next (next (judge s Statement x) (held_one s fs a (first_of x))) (λ b. held s fs b xs)

-- S15 at the identifier called, where there are not as many as formals; else the least misfit. Where a rule is broken in an actual, the call is
-- not judged.
abbrev pub misfit_events : Option Fault → List Event
misfit_events None = []
misfit_events (Some fault) = Broken fault.token.0 fault.rule ∷ []

unfoldable pub settled : (formals called : ℕ) → Actuals → List Event
settled formals called a =
    if a.typed then (if nat_eq formals a.count then misfit_events a.misfit else Broken called r.WrongNumber ∷ []) else []

-- what the actuals of a call break
unfoldable pub unfit : Tables → List Formal → (called : ℕ) → Expressions → List Event
unfit s fs called xs = (held s fs no_actuals xs).events ++ settled (length fs) called (held s fs no_actuals xs).value

-- the least of it
abbrev pub least_unfit : Tables → List Formal → (called : ℕ) → Expressions → Option Fault
least_unfit s fs called xs = (after (unknown 0) (unfit s fs called xs)).least

-- The actuals fit exactly where they break nothing; else the least rule that they break is named.
abbrev pub FitsAs : Option Fault → Result (Unit {0}) StaticRefusal → Type 0
FitsAs least (Ok u) = least ≡ None
FitsAs least (Err (refusal.Broken rule token)) = least ≡ Some (record { token = token; rule = rule })
FitsAs least (Err refusal.Memory) = ⊤

abbrev pub Fits : Tables → List Formal → (called : ℕ) → List Expr → Result (Unit {0}) StaticRefusal → Type 0
Fits s fs called es r = FitsAs (least_unfit s fs called (expressions (map syntax_of es))) r

-- What the functions find.
unfoldable pub Settles : Findings → Findings → List Event → Type 0
Settles f g events = g ≡ after f events

unfoldable pub HoldsFrom : Tables → List Formal → Findings → Findings → Actuals → Actuals → List Expr → Type 0
HoldsFrom s fs f g a b es = Judges f g b (held s fs a (expressions (map syntax_of es)))

abbrev pub Holds : Tables → List Formal → Findings → Findings → Actuals → List Expr → Type 0
Holds s fs f g a es = HoldsFrom s fs f g no_actuals a es

-- in a loop: what is found of the rest is found of the whole
unfoldable pub Owes : Tables → List Formal → Findings → List Expr → Findings → Actuals → List Expr → Type 0
Owes s fs f es g b rest = (h : Findings) (c : Actuals) → HoldsFrom s fs g h b c rest → HoldsFrom s fs f h no_actuals c es
