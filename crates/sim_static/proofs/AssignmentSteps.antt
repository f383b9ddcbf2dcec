-- Assignments, one judgement after another.
use Rattle.std.proofs.Common.{◌≡◌, ◌<◌, ◌≤◌, ◌+◌, ◌-◌, ◌||◌, not, ℕ, Bool, suc, List, [], ◌∷◌, refl, sym, ap, ◌∙◌, map, drop, length, arith}
use Rattle.std.proofs.lemmas.List.{drop_more, drop_all}
use Rattle.std.specs.Prelude.{slice_index_or}
use Rattle.sim_base.specs.declared.numbering.TokenNo.{TokenNo}
use Rattle.sim_base.specs.declared.rule.Rule.TheVariants as r
use Rattle.sim_tree.specs.declared.expr.Expr.{Expr}
use Rattle.sim_tree.specs.declared.stmt.Assigned.{Assigned}
use Rattle.sim_tree.specs.declared.stmt.Assignment.{Assignment}
use Rattle.sim_tree.specs.Syntax.{Expression, first_of}
use Rattle.sim_tree.specs.SyntaxOf.{FirstIs, syntax_of}
use Rattle.sim_tree.specs.SyntaxOfProgram.{right_side_syntax}
use Rattle.sim_scope.specs.declared.outcome.Extent.TheVariants.{Statement}
use Rattle.sim_scope.specs.declared.outcome.LeftSides.{LeftSides}
use Rattle.sim_scope.specs.declared.outcome.Outcome.{Outcome}
use Rattle.sim_scope.specs.declared.outcome.Side.{Side}
use Rattle.sim_scope.specs.declared.types.SimType.{SimType}
use Rattle.sim_scope.specs.Assignments.{LeftSide, Nothing, assigned, assigned_to, call_assigned, compared, first_sign, last_value, left_side, left_sides, lefts, no_lefts, side_unless, sign_agrees, takes, target, targets, with_left}
use Rattle.sim_scope.specs.ExpressionWalk.{Finds, FindsSide}
use Rattle.sim_scope.specs.Expressions.{judge, judge_side}
use Rattle.sim_scope.specs.Found.{Findings, found}
use Rattle.sim_scope.specs.Judged.{Judges, bars, next}
use Rattle.sim_scope.specs.Outcomes.{called}
use Rattle.sim_scope.specs.Runs.{Runs}
use Rattle.sim_scope.specs.Statements.{assignment_events}
use Rattle.sim_scope.specs.Tables.{Tables}
use Rattle.sim_static.specs.StatementWalk.{FindsLeft, FindsLefts, IsLast, OwesLefts, left_of, of_assignment}
use Rattle.sim_types.proofs.Steps.{judges_as, judges_gives, judges_next}

pub targets_in_steps : (sign : Assignment) (t : TokenNo) (variable : Bool) (ty : SimType) (f g h k : Findings) (p q a b y : Bool) (x : Side) → p ≡ not (takes sign ty) → Judges f g a (bars p t.0 r.WrongType)
    → q ≡ not variable → Judges g h b (bars q t.0 r.LeftSideIsNoVariable) → y ≡ (a || b) → Judges h k x (side_unless t.0 ty y) → Judges f k x (targets sign t.0 variable ty)
unfolding targets
targets_in_steps sign t variable ty f g h k p q a b y x taken one none two is three =
    judges_next (bars (not (takes sign ty)) t.0 r.WrongType) (λ a. next (bars (not variable) t.0 r.LeftSideIsNoVariable) (λ b. side_unless t.0 ty (a || b)))
    (judges_as one (ap (λ z. bars z t.0 r.WrongType) taken))
    (judges_next (bars (not variable) t.0 r.LeftSideIsNoVariable) (λ b. side_unless t.0 ty (a || b)) (judges_as two (ap (λ z. bars z t.0 r.LeftSideIsNoVariable) none)) (judges_as three (ap (side_unless t.0 ty) is)))

pub call_assigned_in_steps : (s : Tables) (sign : Assignment) (t : TokenNo) (f g h : Findings) (o u : Outcome) (x : Side) → Judges f g u (called s o) → Judges g h x (assigned_to sign t.0 u) → Judges f h x (call_assigned s sign t.0 o)
unfolding call_assigned
call_assigned_in_steps s sign t f g h o u x one two = judges_next (called s o) (assigned_to sign t.0) one two

pub left_in_steps : (s : Tables) (first : Assignment) (p : Assigned) (l : Expr) (f g h k : Findings) (n : Nothing) (o : Outcome) (t : TokenNo) (x : Side) → Judges f g n (sign_agrees first p.sign p.token.0) → Finds s Statement g h o l → FirstIs t l
    → Judges h k x (target s p.sign t.0 o) → FindsLeft s f k first p l x
unfolding Finds FirstIs FindsLeft
left_in_steps s first p l f g h k n o t x one two at three =
    judges_next (sign_agrees first p.sign p.token.0) (λ n. next (judge s Statement (syntax_of l)) (target s p.sign (first_of (syntax_of l)))) one
    (judges_next (judge s Statement (syntax_of l)) (target s p.sign (first_of (syntax_of l))) two (judges_as three (ap (λ i. target s p.sign i o) at)))

pub lefts_all : (s : Tables) (first : Assignment) (v : Side) (f : Findings) (a : LeftSides) (ls : List LeftSide) → OwesLefts s first v f a ls f a ls
unfolding OwesLefts
lefts_all s first v f a ls h c x = x

from_drop : {A : Type 0} (xs : List A) (i : ℕ) (x : A) → i < length xs → x ≡ slice_index_or xs i x → drop i xs ≡ x ∷ drop (i + 1) xs
from_drop xs i x le is = drop_more xs i x le ∙ ap (λ y. y ∷ drop (i + 1) xs) (sym is)

pub lefts_next : (s : Tables) (first : Assignment) (v : Side) (f g h : Findings) (a b c : LeftSides) (ls : List LeftSide) (l m : Expr) (ps : List Assigned) (i : ℕ) (p : Assigned) (x : Side)
    → OwesLefts s first v f a ls g b (left_sides (syntax_of l) (map right_side_syntax (drop i ps))) → i < length ps → p ≡ slice_index_or ps i p → FindsLeft s g h first p l x → c ≡ with_left s v b x → m ≡ p.value
    → OwesLefts s first v f a ls h c (left_sides (syntax_of m) (map right_side_syntax (drop (i + 1) ps)))
unfolding OwesLefts FindsLeft lefts
lefts_next s first v f g h a b c ls l m ps i p x owed le at one is same k d later =
    owed k d (judges_as
    (judges_next (left_side s first (left_of p l)) (λ x. lefts s first v (with_left s v b x) (left_sides (syntax_of p.value) (map right_side_syntax (drop (i + 1) ps)))) one
    (judges_as later (ap (λ z. lefts s first v z (left_sides (syntax_of m) (map right_side_syntax (drop (i + 1) ps)))) is ∙ ap (λ z. lefts s first v (with_left s v b x) (left_sides (syntax_of z) (map right_side_syntax (drop (i + 1) ps)))) same)))
    (ap (λ z. lefts s first v b (left_sides (syntax_of l) (map right_side_syntax z))) (sym (from_drop ps i p le at))))

pub lefts_end : (s : Tables) (first : Assignment) (v : Side) (f g : Findings) (b : LeftSides) (l m : Expr) (ps : List Assigned) (i : ℕ) → first ≡ first_sign (map right_side_syntax ps)
    → OwesLefts s first v f no_lefts (left_sides (syntax_of l) (map right_side_syntax ps)) g b (left_sides (syntax_of m) (map right_side_syntax (drop i ps))) → length ps ≤ i → FindsLefts s f g l ps v b
unfolding OwesLefts FindsLefts lefts
lefts_end s first v f g b l m ps i sign owed le =
    judges_as
    (owed g b (judges_as (judges_gives g b) (ap (λ z. lefts s first v b (left_sides (syntax_of m) (map right_side_syntax z))) (sym (drop_all i ps le)))))
    (ap (λ z. lefts s z v no_lefts (left_sides (syntax_of l) (map right_side_syntax ps))) sign)

pub ruleset lefts_in_steps = (lefts_all, lefts_next, lefts_end)

last_at : (e : Expression) (ps : List Assigned) (p : Assigned) → 0 < length ps → p ≡ slice_index_or ps (length ps - 1) p → last_value e (map right_side_syntax ps) ≡ syntax_of p.value
last_at e [] p some at = absurd (omega arith)
last_at e (q ∷ []) p some at = ap (λ z. syntax_of z.value) (sym at)
last_at e (q ∷ u ∷ us) p some at =
    let back : length (q ∷ u ∷ us) - 1 ≡ suc (length (u ∷ us) - 1) = omega arith in
    last_at (syntax_of q.value) (u ∷ us) p (omega arith) (at ∙ ap (λ n. slice_index_or (q ∷ u ∷ us) n p) back)

pub last_found : (x l : Expr) (ps : List Assigned) (p : Assigned) → 0 < length ps → p ≡ slice_index_or ps (length ps - 1) p → x ≡ p.value → IsLast x l ps
unfolding IsLast
last_found x l ps p some at same = ap syntax_of same ∙ sym (last_at (syntax_of l) ps p some at)

pub last_alone : (l : Expr) (ps : List Assigned) → length ps ≡ 0 → IsLast l l ps
unfolding IsLast
last_alone l [] none = refl
last_alone l (p ∷ ps) none = absurd (omega arith)

pub ruleset lasts = (last_found, last_alone)

pub assignment_in_steps : (s : Tables) (l y : Expr) (ps : List Assigned) (f g h k : Findings) (v : Side) (a : LeftSides) (n : Nothing) → IsLast y l ps → FindsSide s Statement f g v y → FindsLefts s g h l ps v a → Judges h k n (compared a)
    → Runs found f k (of_assignment s l ps)
unfolding IsLast FindsSide FindsLefts Runs of_assignment assignment_events assigned
assignment_in_steps s l y ps f g h k v a n last one two three =
    let qs = map right_side_syntax ps in
    let K = λ (v : Side). next (lefts s (first_sign qs) v no_lefts (left_sides (syntax_of l) qs)) compared in
    let J : Judges f k n (next (judge_side s Statement (last_value (syntax_of l) qs)) K) =
    judges_next (judge_side s Statement (last_value (syntax_of l) qs)) K (judges_as one (ap (judge_side s Statement) last))
    (judges_next (lefts s (first_sign qs) v no_lefts (left_sides (syntax_of l) qs)) compared two three) in
    J.finds
