-- What the functions of the walk over an expression find.
use Rattle.std.specs.Prelude.{ℕ, List, [], ◌∷◌, map, Option}
use Rattle.sim_base.specs.declared.numbering.TokenNo.{TokenNo}
use Rattle.sim_tree.specs.declared.expr.Expr.{Expr}
use Rattle.sim_tree.specs.declared.expr.Identifier.{Identifier}
use Rattle.sim_tree.specs.declared.expr.Selector.{Selector}
use Rattle.sim_tree.specs.Syntax.{expressions}
use Rattle.sim_tree.specs.SyntaxOf.{Selection, Take, Cast, Tail, negated, selector_syntax, syntax_of}
use Rattle.sim_scope.specs.declared.outcome.Actuals.{Actuals}
use Rattle.sim_scope.specs.declared.outcome.Extent.{Extent}
use Rattle.sim_scope.specs.declared.outcome.Outcome.{Outcome}
use Rattle.sim_scope.specs.declared.outcome.Side.{Side}
use Rattle.sim_scope.specs.declared.scopes.Denotation.{Denotation}
use Rattle.sim_scope.specs.Actuals.{no_actuals}
use Rattle.sim_scope.specs.Calls.{attribute, bound, used}
use Rattle.sim_scope.specs.Expressions.{actuals, judge, judge_side}
use Rattle.sim_scope.specs.Found.{Findings}
use Rattle.sim_scope.specs.Judged.{Judged, Judges, gives, next}
use Rattle.sim_scope.specs.Outcomes.{side, two}
use Rattle.sim_scope.specs.References.{class_named, qualified}
use Rattle.sim_scope.specs.Tables.{Tables}

-- what an expression is, and what is found in it
unfoldable pub Finds : Tables → Extent → Findings → Findings → Outcome → Expr → Type 0
Finds s e f g o x = Judges f g o (judge s e (syntax_of x))

unfoldable pub FindsSide : Tables → Extent → Findings → Findings → Side → Expr → Type 0
FindsSide s e f g y x = Judges f g y (judge_side s e (syntax_of x))

-- what further operands make of a first one
abbrev pub chained : Tables → Extent → (first : ℕ) → Outcome → List Tail → Judged Outcome
chained s e first left [] = gives left
chained s e first left (t ∷ ts) =
    next (side s first left) (λ x. next (judge_side s e t.operand) (λ y. next (two t.operator t.token x y) (λ o. chained s e first o ts)))

unfoldable pub FindsTail : Tables → Extent → Findings → Findings → Outcome → TokenNo → Outcome → List Tail → Type 0
FindsTail s e f g o first left ts = Judges f g o (chained s e first.0 left ts)

unfoldable pub FindsNot : Tables → Extent → Findings → Findings → Outcome → List TokenNo → Expr → Type 0
FindsNot s e f g o is x = Judges f g o (judge s e (negated is (syntax_of x)))

-- what is taken of an object
abbrev pub taken : Tables → Extent → (first : ℕ) → Outcome → Selection → Judged Outcome
taken s e first o (Take i x args) = next (attribute s e x first o) (λ d. next (actuals s e d.denotes no_actuals args) (used s i x d))
taken s e first o (Cast i class) = next (side s first o) (λ x. next (class_named s e class) (qualified s i x class))

abbrev pub selections : Tables → Extent → (first : ℕ) → Outcome → List Selection → Judged Outcome
selections s e first o [] = gives o
selections s e first o (x ∷ xs) = next (taken s e first o x) (λ p. selections s e first p xs)

unfoldable pub FindsTaken : Tables → Extent → Findings → Findings → Outcome → TokenNo → Outcome → Selector → Type 0
FindsTaken s e f g o first left x = Judges f g o (taken s e first.0 left (selector_syntax x))

unfoldable pub FindsNamed : Tables → Extent → Findings → Findings → Outcome → Identifier → List Expr → Type 0
FindsNamed s e f g o x es =
    Judges f g o (next (bound s e x) (λ d. next (actuals s e d.denotes no_actuals (expressions (map syntax_of es))) (used s x.token.0 x d)))

unfoldable pub FindsActuals : Tables → Extent → Findings → Findings → Option Denotation → Actuals → Actuals → List Expr → Type 0
FindsActuals s e f g d a b es = Judges f g b (actuals s e d a (expressions (map syntax_of es)))

-- in a loop: what is found of the rest is found of the whole
unfoldable pub Owes : Tables → Extent → Findings → Outcome → TokenNo → List Tail → Findings → Outcome → List Tail → Type 0
Owes s e f left first ts g now rest = (h : Findings) (o : Outcome) → FindsTail s e g h o first now rest → FindsTail s e f h o first left ts

unfoldable pub OwesActuals : Tables → Extent → Option Denotation → Findings → Actuals → List Expr → Findings → Actuals → List Expr → Type 0
OwesActuals s e d f a es g b rest = (h : Findings) (c : Actuals) → FindsActuals s e g h d b c rest → FindsActuals s e f h d a c es

-- what is taken of an object, from one on
unfoldable pub FindsSelected : Tables → Extent → Findings → Findings → Outcome → TokenNo → Outcome → List Selection → Type 0
FindsSelected s e f g o first left ss = Judges f g o (selections s e first.0 left ss)

unfoldable pub OwesSelected : Tables → Extent → Findings → Outcome → TokenNo → List Selection → Findings → Outcome → List Selection → Type 0
OwesSelected s e f left first ss g now rest =
    (h : Findings) (o : Outcome) → FindsSelected s e g h o first now rest → FindsSelected s e f h o first left ss
