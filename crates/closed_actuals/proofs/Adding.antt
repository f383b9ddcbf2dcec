-- Work that comes in front: operators, and ends of levels.
use Rattle.std.proofs.Common.{◌≡◌, ℕ, suc, Bool, true, false, List, [], ◌∷◌, ◌++◌, length, Option, Some, None, refl, subst}
use Rattle.sim_base.specs.declared.numbering.DeclNo.{DeclNo}
use Rattle.sim_scope.specs.Assignments.{LeftSide}
use Rattle.sim_scope.specs.Source.{Source, line_at}
use Rattle.sim_tree.specs.declared.expr.Identifier.{Identifier}
use Rattle.sim_tree.specs.Syntax.{Also, Arrayed, Arrays, BoundPair, Declarations, DeclareClass, DeclareProcedure, Expressions, NoDeclaration, NoMore, NoStatement, Schedule, Statements, Then, Variables, With}
use Rattle.sim_tree.specs.Syntax as syntax
use Rattle.sim_values.specs.declared.kind.Kind.{Kind}
use Rattle.sim_meaning.specs.Closing.{Left, LeftAddress, LeftCell, LeftNamed, LeftReference, LeftText, NoLeftSide, close_left}
use Rattle.sim_meaning.specs.Entries.{arrays_declared, arrays_of, bounds_of, first_array, further_arrays, segments_of}
use Rattle.sim_meaning.specs.Objects.{declared, level_work, levels_work, no_line, process_begun, process_done, with_inner}
use Rattle.sim_meaning.specs.Pending.{Do, Eval, Further, Instances, Item, Level, NoTerm, Op, Target, Terms, ToAddress, ToCell, ToNamed, ToPlace, ToReference, ToReferenceAt, ToText, ToTextAt, ToTextOf, is_evaluation}
use Rattle.sim_meaning.specs.Statements.{Lefts, before, dropping, finding, first_branch, lefts, operand_work, reading}
use Rattle.sim_meaning.specs.Steps.{each, parameters}
use Rattle.sim_meaning.specs.Texts.{declared_at, kind_named}
use Rattle.closed_actuals.specs.Evaluations.{Adds, adds_level, adds_nothing, adds_operator}
use Rattle.closed_actuals.proofs.Does.{IsOwn, is_last, own_end, own_level, own_operator}

pub one_operator : {w : List Item} {a : Op} → Adds w (Do a ∷ w)
one_operator = adds_operator adds_nothing

pub two_operators : {w : List Item} {a b : Op} → Adds w (Do a ∷ Do b ∷ w)
two_operators = adds_operator one_operator

pub three_operators : {w : List Item} {a b c : Op} → Adds w (Do a ∷ Do b ∷ Do c ∷ w)
three_operators = adds_operator two_operators

pub four_operators : {w : List Item} {a b c d : Op} → Adds w (Do a ∷ Do b ∷ Do c ∷ Do d ∷ w)
four_operators = adds_operator three_operators

pub each_adds : {w v : List Item} (ts : Terms) → Adds w v → Adds w (each ts v)
each_adds NoTerm a = a
each_adds (Further t ts) a = adds_operator (each_adds ts a)

pub parameters_adds : {w v : List Item} (n line : ℕ) (es : Expressions) → Adds w v → Adds w (parameters n line es v)
parameters_adds n line NoMore a = a
parameters_adds n line (Then e es) a = adds_operator (parameters_adds (suc n) line es a)

pub dropping_adds : (drops : Bool) (w : List Item) → Adds w (dropping drops w)
dropping_adds true w = one_operator
dropping_adds false w = adds_nothing

pub branch_adds : (b : Statements) (w : List Item) → Adds w (first_branch b w)
branch_adds NoStatement w = adds_nothing
branch_adds (Also a more) w = one_operator

pub reading_adds : {w v : List Item} (t : Target) → Adds w v → Adds w (reading t v)
reading_adds (ToCell j key) a = adds_operator a
reading_adds ToAddress a = a
reading_adds (ToText line) a = a
reading_adds (ToTextOf j key line) a = adds_operator a
reading_adds (ToReference line) a = a
reading_adds (ToNamed k line) a = a
reading_adds (ToPlace b) a = adds_operator a
reading_adds (ToTextAt b line) a = adds_operator a
reading_adds (ToReferenceAt b line) a = adds_operator a

pub finding_adds : {w v : List Item} (t : Target) → Adds w v → Adds w (finding t v)
finding_adds (ToCell j key) a = a
finding_adds ToAddress a = a
finding_adds (ToText line) a = a
finding_adds (ToTextOf j key line) a = adds_operator a
finding_adds (ToReference line) a = a
finding_adds (ToNamed k line) a = a
finding_adds (ToPlace b) a = a
finding_adds (ToTextAt b line) a = adds_operator a
finding_adds (ToReferenceAt b line) a = a

pub operand_adds : (s : Source) (m : Instances) (i : ℕ) {w v : List Item} (x : Schedule) → Adds w v → Adds w (operand_work s m i x v)
operand_adds s m i syntax.Now a = a
operand_adds s m i (syntax.At token e prior) a = adds_operator a
operand_adds s m i (syntax.Delay token e prior) a = adds_operator a
operand_adds s m i (syntax.Before token e) a = adds_operator a
operand_adds s m i (syntax.After token e) a = adds_operator a

-- ---- left sides

pub lefts_adds : (s : Source) (m : Instances) (i : ℕ) (ls : List LeftSide) (x : Lefts) → lefts s m i ls ≡ Some x → {w v : List Item} → Adds w v → Adds w (x.work ++ v)
lefts_adds s m i [] x is {w = w} {v = v} a = let same : record { work = []; targets = [] } ≡ x = cc in subst (λ (z : Lefts). Adds w (z.work ++ v)) same a
lefts_adds s m i (l ∷ ls) x is {w = w} {v = v} a = by_left (close_left s m i l.sign (line_at s l.token) l.target) (lefts s m i ls) is (λ y more. lefts_adds s m i ls y more a)
  where
    found : (b : Lefts) → b ≡ x → Adds w (b.work ++ v) → Adds w (x.work ++ v)
    found b same a = subst (λ (z : Lefts). Adds w (z.work ++ v)) same a

    by_left : (z : Left) (y : Option Lefts) → before z y ≡ Some x → ((b : Lefts) → y ≡ Some b → Adds w (b.work ++ v)) → Adds w (x.work ++ v)
    by_left (LeftCell j key) (Some y) is rest = found _ (let same : record { work = y.work; targets = ToCell j key ∷ y.targets } ≡ x = cc in same) (rest y refl)
    by_left (LeftAddress t) (Some y) is rest = found _ (let same : record { work = Do (Eval t) ∷ y.work; targets = ToAddress ∷ y.targets } ≡ x = cc in same) (adds_operator (rest y refl))
    by_left (LeftText line t) (Some y) is rest = found _ (let same : record { work = Do (Eval t) ∷ y.work; targets = ToText line ∷ y.targets } ≡ x = cc in same) (adds_operator (rest y refl))
    by_left (LeftReference line t) (Some y) is rest = found _ (let same : record { work = Do (Eval t) ∷ y.work; targets = ToReference line ∷ y.targets } ≡ x = cc in same) (adds_operator (rest y refl))
    by_left (LeftNamed k line t) (Some y) is rest = found _ (let same : record { work = Do (Eval t) ∷ y.work; targets = ToNamed k line ∷ y.targets } ≡ x = cc in same) (adds_operator (rest y refl))
    by_left NoLeftSide y is rest = absurd (cc)
    by_left (LeftCell j key) None is rest = absurd (cc)
    by_left (LeftAddress t) None is rest = absurd (cc)
    by_left (LeftText line t) None is rest = absurd (cc)
    by_left (LeftReference line t) None is rest = absurd (cc)
    by_left (LeftNamed k line t) None is rest = absurd (cc)

-- ---- arrays

further_some : (s : Source) (i : ℕ) (first : DeclNo) (x : Identifier) (xs : List Identifier) (w v : List Item) (d : DeclNo) → declared_at s x.token.0 ≡ Some d → Adds w (further_arrays s i first xs v) → Adds w (further_arrays s i first (x ∷ xs) v)
further_some s i first x xs w v d e a = rw e (adds_operator (adds_operator (adds_operator a)))

further_none : (s : Source) (i : ℕ) (first : DeclNo) (x : Identifier) (xs : List Identifier) (w v : List Item) → declared_at s x.token.0 ≡ None → Adds w (further_arrays s i first xs v) → Adds w (further_arrays s i first (x ∷ xs) v)
further_none s i first x xs w v e a = rw e (adds_operator (adds_operator a))

further_adds : (s : Source) (i : ℕ) (first : DeclNo) (xs : List Identifier) {w v : List Item} → Adds w v → Adds w (further_arrays s i first xs v)
further_adds s i first [] a = a
further_adds s i first (x ∷ xs) {w = w} {v = v} a = by_declared (declared_at s x.token.0) refl (further_adds s i first xs a)
  where
    by_declared : (d : Option DeclNo) → declared_at s x.token.0 ≡ d → Adds w (further_arrays s i first xs v) → Adds w (further_arrays s i first (x ∷ xs) v)
    by_declared None e a = further_none s i first x xs w v e a
    by_declared (Some d) e a = further_some s i first x xs w v d e a

first_adds : (s : Source) (i : ℕ) (d : Option DeclNo) (xs : List Identifier) {w v : List Item} → Adds w v → Adds w (first_array s i d xs v)
first_adds s i None xs a = a
first_adds s i (Some d) xs a = adds_operator (further_adds s i d xs a)

arrays_adds : (s : Source) (i : ℕ) (kind : Kind) (n : ℕ) (xs : List Identifier) {w v : List Item} → Adds w v → Adds w (arrays_of s i kind n xs v)
arrays_adds s i kind n [] a = a
arrays_adds s i kind n (x ∷ xs) a = adds_operator (first_adds s i (declared_at s x.token.0) xs a)

bounds_adds : (s : Source) (m : Instances) (i : ℕ) (bs : List BoundPair) {w v : List Item} → Adds w v → Adds w (bounds_of s m i bs v)
bounds_adds s m i [] a = a
bounds_adds s m i (b ∷ bs) a = adds_operator (adds_operator (bounds_adds s m i bs a))

segments_adds : (s : Source) (m : Instances) (i : ℕ) (kind : Kind) (xs : List Arrayed) {w v : List Item} → Adds w v → Adds w (segments_of s m i kind xs v)
segments_adds s m i kind [] a = a
segments_adds s m i kind (x ∷ more) a = bounds_adds s m i x.bounds (arrays_adds s i kind (length x.bounds) x.names (segments_adds s m i kind more a))

pub declarations_adds : (s : Source) (m : Instances) (i : ℕ) (ds : Declarations) {w v : List Item} → Adds w v → Adds w (arrays_declared s m i ds v)
declarations_adds s m i NoDeclaration a = a
declarations_adds s m i (With (Variables type vs) ds) a = declarations_adds s m i ds a
declarations_adds s m i (With (Arrays type token segments) ds) a = segments_adds s m i (kind_named type) segments (declarations_adds s m i ds a)
declarations_adds s m i (With (DeclareProcedure result token h a end) ds) b = declarations_adds s m i ds b
declarations_adds s m i (With (DeclareClass prefix token h interface a end) ds) b = declarations_adds s m i ds b

-- ---- levels

inner_adds : (last : Bool) (xs : List Level) {w v : List Item} → Adds w v → Adds w (with_inner last xs v)
inner_adds true xs a = adds_operator a
inner_adds false xs a = a

done_adds : (process : Bool) {w v : List Item} → Adds w v → Adds w (process_done process v)
done_adds true a = adds_operator a
done_adds false a = a

begun_adds : (process : Bool) (line : ℕ) {w v : List Item} → Adds w v → Adds w (process_begun process line v)
begun_adds true line a = adds_operator (adds_operator a)
begun_adds false line a = a

pub level_adds : (x : Level) (xs : List Level) {w v : List Item} → Adds w v → Adds w (level_work x xs v)
level_adds x xs a = begun_adds x.process no_line (adds_operator (inner_adds x.inner_last xs (done_adds x.process a)))

declared_adds : (xs : List Level) {w v : List Item} → Adds w v → Adds w (declared xs v)
declared_adds [] a = a
declared_adds (x ∷ xs) a = adds_operator (adds_operator (declared_adds xs a))

-- ---- work of an instance

pub own_adds : {w v : List Item} → Adds w v → IsOwn w → IsOwn v
own_adds adds_nothing own = own
own_adds (adds_operator a) own = own_operator (own_adds a own)
own_adds (adds_level a) own = own_level (own_adds a own)

pub levels_own : (xs : List Level) (end : Item) → is_evaluation end ≡ false → is_last end ≡ true → IsOwn (levels_work xs end)
levels_own [] end is last = own_end is last
levels_own (x ∷ xs) end is last = own_adds (declared_adds (x ∷ xs) (level_adds x xs adds_nothing)) (own_end is last)

pub declarations_own : (s : Source) (m : Instances) (i : ℕ) (ds : Declarations) {w : List Item} → IsOwn w → IsOwn (arrays_declared s m i ds w)
declarations_own s m i ds own = own_adds (declarations_adds s m i ds adds_nothing) own
