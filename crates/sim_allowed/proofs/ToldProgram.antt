-- What the last round of a program tells of a token is told once.
use Rattle.std.proofs.Common.{◌≡◌, ◌≤◌, ◌+◌, ◌||◌, not, ℕ, Bool, true, false, List, [], ◌∷◌, ◌++◌, Option, Some, None, arith, if◌then◌else◌}
use Rattle.sim_base.specs.declared.numbering.DeclNo.{DeclNo}
use Rattle.sim_base.specs.declared.rule.Rule.TheVariants as r
use Rattle.sim_scope.specs.declared.outcome.Actuals.{Actuals}
use Rattle.sim_scope.specs.declared.outcome.Barred.TheVariants as bar
use Rattle.sim_scope.specs.declared.outcome.Extent.{Extent}
use Rattle.sim_scope.specs.declared.outcome.Extent.TheVariants as extent
use Rattle.sim_scope.specs.declared.outcome.LeftSides.{LeftSides}
use Rattle.sim_scope.specs.declared.outcome.Outcome.{Outcome}
use Rattle.sim_scope.specs.declared.outcome.Outcome.TheVariants as is
use Rattle.sim_scope.specs.declared.outcome.Side.{Side}
use Rattle.sim_scope.specs.declared.scopes.Denotation.{Denotation}
use Rattle.sim_scope.specs.declared.types.SimType.{SimType}
use Rattle.sim_scope.specs.Actuals.{result_in}
use Rattle.sim_scope.specs.Assignments.{LeftSide, assigned, assigned_to, call_assigned, compared, fine, first_sign, is_text_copied, last_value, left_side, left_sides, lefts, no_lefts, no_target, own_result, procedure_assigned, result_assigned, same_sign, side_unless, sign_agrees, standard_assigned, takes, target, targets, told as misfit_told, with_left, wrong}
use Rattle.sim_scope.specs.Expressions.{actuals, judge, judge_side}
use Rattle.sim_scope.specs.Found.{Event}
use Rattle.sim_scope.specs.Judged.{bars, gives, next, telling}
use Rattle.sim_scope.specs.Operators.{is_same}
use Rattle.sim_scope.specs.Outcomes.{called, is_stream}
use Rattle.sim_scope.specs.Scopes.{entry_of}
use Rattle.sim_scope.specs.Standard.{signature}
use Rattle.sim_scope.specs.Statements.{assignment_events, call_alone, call_events, needs, required, stands, type_needed}
use Rattle.sim_scope.specs.Tables.{Tables}
use Rattle.sim_tree.specs.declared.expr.Identifier.{Identifier}
use Rattle.sim_tree.specs.declared.stmt.Assignment.{Assignment}
use Rattle.sim_tree.specs.Named.{all_named, named}
use Rattle.sim_tree.specs.Order.{Behind, Spot, Token, in_each, in_expression, in_name, in_side, tokens}
use Rattle.sim_tree.specs.Syntax.{Expression, Expressions, RightSide, first_of}
use Rattle.sim_allowed.proofs.Counts.{About, Silent, bars_silent, called_silent, here, silent_both, silent_break, silent_next, silent_none, told, told_both}
use Rattle.sim_allowed.proofs.Told.{Covers, expression_tells, expressions_tell, occurs, side_tells}

-- how often a token is among spots
abbrev pub among : ℕ → List Spot → ℕ
among t [] = 0
among t (Token i ∷ l) = here t i + among t l
among t (Behind i ∷ l) = among t l

unfoldable pub Fills : List Event → List Spot → List Spot → Type 0
Fills es l m = (k : About) (t : ℕ) → told k t es + among t l ≤ among t m

pub fills_both : (xs ys : List Event) (l m n : List Spot) → Fills xs m n → Fills ys l m → Fills (xs ++ ys) l n
unfolding Fills
fills_both xs ys l m n h j k t = let a = told_both k t xs ys in let b = h k t in let c = j k t in omega (arith, a, b, c)

pub fills_silent : (xs : List Event) (l : List Spot) → Silent xs → Fills xs l l
unfolding Fills Silent
fills_silent xs l h k t = let a = h k t in omega (arith, a)

pub fills_more : (xs : List Event) (i : ℕ) (l m : List Spot) → Fills xs l m → Fills xs l (Token i ∷ m)
unfolding Fills
fills_more xs i l m h k t = let a = h k t in omega (arith, a)

-- an end is no token
pub fills_end : (xs : List Event) (i : ℕ) (l m : List Spot) → Fills xs (Behind i ∷ l) m → Fills xs l m
unfolding Fills
fills_end xs i l m h k t = h k t

pub fills_names : (names : List Identifier) (xs : List Event) (l m : List Spot) → Fills xs l m → Fills xs l (in_each in_name names m)
fills_names [] xs l m h = h
fills_names (x ∷ names) xs l m h = fills_more xs x.token.0 l (in_each in_name names m) (fills_names names xs l m h)

among_tokens : (t : ℕ) (is : List ℕ) (l : List Spot) → among t (tokens is l) ≡ occurs t is + among t l
among_tokens t [] l = omega arith
among_tokens t (i ∷ is) l = let h = among_tokens t is l in omega (arith, h)

-- ---- expressions

in_list : (es : List Event) (is : List ℕ) (l : List Spot) → Covers es [] is → Fills es l (tokens is l)
unfolding Covers Fills
in_list es is l h k t = let a = h k t in let b = among_tokens t is l in omega (arith, a, b)

pub side_fills : (s : Tables) (x : Extent) (e : Expression) → (l : List Spot) → Fills (judge_side s x e).events l (in_expression e l)
side_fills s x e l = in_list (judge_side s x e).events (named e []) l (side_tells s x e (expression_tells s x e) [])

judged_fills : (s : Tables) (x : Extent) (e : Expression) → (l : List Spot) → Fills (judge s x e).events l (in_expression e l)
judged_fills s x e l = in_list (judge s x e).events (named e []) l (expression_tells s x e [])

-- actual parameters
pub actuals_fill : (s : Tables) (x : Extent) (d : Option Denotation) (a : Actuals) (es : Expressions) → (l : List Spot) → Fills (actuals s x d a es).events l (tokens (all_named es []) l)
actuals_fill s x d a es l = in_list (actuals s x d a es).events (all_named es []) l (expressions_tell s x es d a [])

-- an expression, and what tells nothing
pub fills_then : (xs ys : List Event) (l m : List Spot) → Fills xs l m → Silent ys → Fills (xs ++ ys) l m
fills_then xs ys l m h silent = fills_both xs ys l l m h (fills_silent ys l silent)

pub needs_silent : (wanted : SimType) (x : Side) → Silent (needs wanted x).events
unfolding needs fine wrong telling gives
needs_silent wanted x = go x.ty
  where
    same : (b : Bool) → Silent (if b then fine else wrong x.first.0 r.WrongType).events
    same true = silent_none
    same false = silent_break x.first.0 r.WrongType

    go : (a : Option SimType) → Silent (type_needed wanted x a).events
    go None = silent_none
    go (Some a) = same (is_same a wanted)

pub required_fills : (s : Tables) (x : Extent) (wanted : SimType) (e : Expression) → (l : List Spot) → Fills (required s x wanted e) l (in_expression e l)
unfolding required next
required_fills s x wanted e l = fills_then (judge_side s x e).events (needs wanted (judge_side s x e).value).events l (in_expression e l) (side_fills s x e l) (needs_silent wanted (judge_side s x e).value)

-- ---- calls

alone_silent : (first : ℕ) (o : Outcome) → Silent (call_alone first o).events
unfolding fine wrong telling gives
alone_silent first is.Refused = silent_none
alone_silent first is.NoValue = silent_none
alone_silent first (is.Called ty) = silent_none
alone_silent first (is.Barred (bar.Procedure d token)) = silent_none
alone_silent first (is.Barred (bar.Standard name token)) = silent_none
alone_silent first _ = silent_break first r.WrongKind

pub call_fills : (s : Tables) (e : Expression) → (l : List Spot) → Fills (call_events s e) l (in_expression e l)
unfolding call_events stands next
call_fills s e l =
    let o = (judge s extent.Statement e).value in
    fills_then (judge s extent.Statement e).events ((called s o).events ++ (call_alone (first_of e) (called s o).value).events) l (in_expression e l) (judged_fills s extent.Statement e l)
    (silent_both (called s o).events (call_alone (first_of e) (called s o).value).events (called_silent s o) (alone_silent (first_of e) (called s o).value))

-- ---- assignments

module _ (s : Tables) (sign : Assignment) (first : ℕ) where
  no_target_silent : (rule : _) → Silent (no_target first rule).events
  unfolding no_target telling
  no_target_silent rule = silent_break first rule

  unless_silent : (ty : SimType) (b : Bool) → Silent (side_unless first ty b).events
  unfolding gives
  unless_silent ty true = silent_none
  unless_silent ty false = silent_none

  targets_silent : (variable : Bool) (ty : SimType) → Silent (targets sign first variable ty).events
  unfolding targets
  targets_silent variable ty =
      let one = bars (not (takes sign ty)) first r.WrongType in
      let two = bars (not variable) first r.LeftSideIsNoVariable in
      silent_next one (λ a. next (bars (not variable) first r.LeftSideIsNoVariable) (λ b. side_unless first ty (a || b))) (bars_silent (not (takes sign ty)) first r.WrongType)
      (silent_next two (λ b. side_unless first ty (one.value || b)) (bars_silent (not variable) first r.LeftSideIsNoVariable) (unless_silent ty (one.value || two.value)))

  assigned_silent : (o : Outcome) → Silent (assigned_to sign first o).events
  unfolding assigned_to gives
  assigned_silent (is.Variable ty) = targets_silent true ty
  assigned_silent (is.Value ty) = targets_silent (is_text_copied sign ty) ty
  assigned_silent (is.Called ty) = targets_silent (is_text_copied sign ty) ty
  assigned_silent (is.Constant ty) = targets_silent false ty
  assigned_silent (is.Array ty) = no_target_silent r.WrongKind
  assigned_silent is.Class = no_target_silent r.WrongKind
  assigned_silent (is.Barred (bar.Array ty)) = no_target_silent r.WrongKind
  assigned_silent (is.Barred bar.Class) = no_target_silent r.WrongKind
  assigned_silent (is.Barred (bar.Procedure d token)) = silent_none
  assigned_silent (is.Barred (bar.Standard name token)) = silent_none
  assigned_silent is.NoValue = no_target_silent r.WrongType
  assigned_silent is.NoValueInParentheses = no_target_silent r.WrongType
  assigned_silent is.Refused = silent_none
  assigned_silent (is.Procedure d token own) = silent_none
  assigned_silent (is.Standard name token) = silent_none

  call_assigned_silent : (o : Outcome) → Silent (call_assigned s sign first o).events
  unfolding call_assigned
  call_assigned_silent o = silent_next (called s o) (assigned_to sign first) (called_silent s o) (assigned_silent (called s o).value)

  result_silent : (o : Outcome) (w : Option SimType) → Silent (result_assigned s sign first o w).events
  result_silent o None = no_target_silent r.WrongType
  result_silent o (Some ty) = go (is_text_copied sign ty)
    where
      go : (b : Bool) → Silent (if b then call_assigned s sign first o else targets sign first false ty).events
      go true = call_assigned_silent o
      go false = targets_silent false ty

  own_silent : (w : Option SimType) → Silent (own_result sign first w).events
  own_silent None = no_target_silent r.WrongType
  own_silent (Some ty) = targets_silent true ty

  procedure_silent : (o : Outcome) (d : DeclNo) (own : Option DeclNo) → Silent (procedure_assigned s sign first o d own).events
  procedure_silent o d (Some p) = own_silent (result_in (entry_of s p))
  procedure_silent o d None = result_silent o (result_in (entry_of s d))

  standard_assigned_silent : (o : Outcome) (name : _) → Silent (standard_assigned s sign first o name).events
  standard_assigned_silent o name = go (is_stream name)
    where
      go : (b : Bool) → Silent (if b then call_assigned s sign first o else result_assigned s sign first o (signature name).result).events
      go true = call_assigned_silent o
      go false = result_silent o (signature name).result

  target_silent : (o : Outcome) → Silent (target s sign first o).events
  unfolding target
  target_silent (is.Procedure d token own) = procedure_silent (is.Procedure d token own) d own
  target_silent (is.Standard name token) = standard_assigned_silent (is.Standard name token) name
  target_silent is.Refused = assigned_silent is.Refused
  target_silent is.NoValue = assigned_silent is.NoValue
  target_silent is.NoValueInParentheses = assigned_silent is.NoValueInParentheses
  target_silent (is.Value ty) = assigned_silent (is.Value ty)
  target_silent (is.Called ty) = assigned_silent (is.Called ty)
  target_silent (is.Variable ty) = assigned_silent (is.Variable ty)
  target_silent (is.Constant ty) = assigned_silent (is.Constant ty)
  target_silent (is.Array ty) = assigned_silent (is.Array ty)
  target_silent is.Class = assigned_silent is.Class
  target_silent (is.Barred b) = assigned_silent (is.Barred b)

sign_silent : (first sign : Assignment) (token : ℕ) → Silent (sign_agrees first sign token).events
unfolding sign_agrees fine wrong telling gives
sign_silent first sign token = go (same_sign first sign)
  where
    go : (b : Bool) → Silent (if b then fine else wrong token r.LeftSideIsNoVariable).events
    go true = silent_none
    go false = silent_break token r.LeftSideIsNoVariable

compared_silent : (a : LeftSides) → Silent (compared a).events
unfolding compared fine wrong telling gives
compared_silent a = go a.typed
  where
    misfit : (m : _) → Silent (misfit_told m).events
    misfit None = silent_none
    misfit (Some f) = silent_break f.token.0 f.rule

    go : (b : Bool) → Silent (if b then misfit_told a.misfit else fine).events
    go true = misfit a.misfit
    go false = silent_none

left_fills : (s : Tables) (first : Assignment) (l : LeftSide) → (u : List Spot) → Fills (left_side s first l).events u (in_expression l.target u)
unfolding next
left_fills s first l u =
    let o = (judge s extent.Statement l.target).value in
    fills_both (sign_agrees first l.sign l.token).events ((judge s extent.Statement l.target).events ++ (target s l.sign (first_of l.target) o).events) u (in_expression l.target u) (in_expression l.target u)
    (fills_silent (sign_agrees first l.sign l.token).events (in_expression l.target u) (sign_silent first l.sign l.token))
    (fills_then (judge s extent.Statement l.target).events (target s l.sign (first_of l.target) o).events u (in_expression l.target u) (judged_fills s extent.Statement l.target u) (target_silent s l.sign (first_of l.target) o))

fills_last : (xs ys zs : List Event) (l m : List Spot) → Fills (xs ++ ys) l m → Silent zs → Fills (xs ++ (ys ++ zs)) l m
unfolding Fills Silent
fills_last xs ys zs l m h silent k t = let a = told_both k t xs (ys ++ zs) in let b = told_both k t ys zs in let c = told_both k t xs ys in let d = h k t in let e = silent k t in omega (arith, a, b, c, d, e)

-- in which order two are told does not matter
fills_apart : (xs ys zs : List Event) (l m n : List Spot) → Fills ys m n → Fills (xs ++ zs) l m → Fills (xs ++ (ys ++ zs)) l n
unfolding Fills
fills_apart xs ys zs l m n h j k t =
    let a = told_both k t xs (ys ++ zs) in let b = told_both k t ys zs in let c = told_both k t xs zs in let d = h k t in let e = j k t in omega (arith, a, b, c, d, e)

sides_fill : (s : Tables) (first : Assignment) (v : Side) (e : Expression) (parts : List RightSide) → (a : LeftSides) (l : List Spot)
    → Fills ((judge_side s extent.Statement (last_value e parts)).events ++ (lefts s first v a (left_sides e parts)).events) l (in_expression e (in_each in_side parts l))
unfolding lefts gives next
sides_fill s first v e [] a l = fills_then (judge_side s extent.Statement e).events [] l (in_expression e l) (side_fills s extent.Statement e l) silent_none
sides_fill s first v e (x ∷ xs) a l =
    let this : LeftSide = record { sign = x.sign; token = x.token; target = e } in
    let b = with_left s v a (left_side s first this).value in
    fills_apart (judge_side s extent.Statement (last_value x.value xs)).events (left_side s first this).events (lefts s first v b (left_sides x.value xs)).events l (in_expression x.value (in_each in_side xs l)) (in_expression e (in_expression x.value (in_each in_side xs l)))
    (left_fills s first this (in_expression x.value (in_each in_side xs l))) (sides_fill s first v x.value xs b l)

pub assign_fills : (s : Tables) (e : Expression) (parts : List RightSide) → (l : List Spot) → Fills (assignment_events s e parts) l (in_expression e (in_each in_side parts l))
unfolding assignment_events assigned next
assign_fills s e parts l =
    let v = (judge_side s extent.Statement (last_value e parts)).value in
    let ls = lefts s (first_sign parts) v no_lefts (left_sides e parts) in
    fills_last (judge_side s extent.Statement (last_value e parts)).events ls.events (compared ls.value).events l (in_expression e (in_each in_side parts l)) (sides_fill s (first_sign parts) v e parts no_lefts l) (compared_silent ls.value)
