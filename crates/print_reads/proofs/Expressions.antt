-- The tokens of an expression can be written where what its derivation keeps can.
use Rattle.std.proofs.Common.{◌≡◌, ◌≤◌, ◌<◌, ℕ, Bool, true, false, zero, suc, List, [], ◌∷◌, Option, Some, None, map, refl, sym, ap, ◌∙◌, arith, subst, if◌then◌else◌}
use Rattle.std.proofs.lemmas.Bool.{false≢true}
use Rattle.std.specs.Prelude.{not, nat_eq}
use Rattle.sim_base.specs.declared.numbering.TokenNo.{TokenNo}
use Rattle.sim_base.specs.declared.token.TokenKind.{TokenKind}
use Rattle.sim_base.specs.declared.token.TokenKind.TheVariants as k
use Rattle.sim_tree.specs.declared.expr.Expr.{Expr}
use Rattle.sim_tree.specs.declared.expr.Expr.TheOpen.{Expr-F, Operand-F, Term-F, Factor-F, Selector-F}
use Rattle.sim_tree.specs.declared.expr.Expr.TheFolds.{ind-Expr, map-Expr, map-Operand, map-Term, map-Factor, map-Selector, fold-roll-Expr, fold-roll-Operand, fold-roll-Term, fold-roll-Factor, fold-roll-Selector}
use Rattle.sim_tree.specs.declared.expr.Expr.TheViews.{roll-Expr, roll-Operand, roll-Term, roll-Factor, roll-Selector}
use Rattle.sim_tree.specs.declared.expr.LeadingSign.{LeadingSign}
use Rattle.sim_tree.specs.declared.expr.Membership.TheVariants as membership
use Rattle.sim_tree.specs.declared.expr.Operand.{Operand}
use Rattle.sim_tree.specs.declared.expr.Term.{Term}
use Rattle.sim_tree.specs.declared.expr.Factor.{Factor}
use Rattle.sim_tree.specs.declared.expr.Selector.{Selector}
use Rattle.sim_tree.specs.declared.operator.Operator.{Operator}
use Rattle.sim_tree.specs.declared.operator.Operator.TheVariants as o
use Rattle.sim_tree.specs.Grammar as g
use Rattle.sim_tree.specs.Grammar.{Part}
use Rattle.sim_tree.specs.Reading.{Forest, done, node}
use Rattle.sim_tree.specs.Tree.{is_bare}
use Rattle.sim_tree.specs.Nesting.{has_token}
use Rattle.sim_tree.specs.Derivation as d
use Rattle.sim_tree.specs.Derivation.{Derivation, level_part, raise, whole, row, derivation_of, operand_derivation, term_derivation, factor_derivation, selector_derivation, argument, arguments}
use Rattle.sim_tree.specs.Syntax as s
use Rattle.sim_tree.specs.Syntax.{Expression, expressions}
use Rattle.sim_tree.specs.SyntaxOf as t
use Rattle.sim_tree.specs.SyntaxOf.{Tail, Operands, Selection, Take, Cast, chain, with_operator, selected, syntax_of, operand_syntax, term_syntax, factor_syntax, selector_syntax}
use Rattle.sim_tree.proofs.Nests.{level_plain}
use Rattle.sim_tree.proofs.ReadExpressions.{Full}
use Rattle.sim_tree.specs.declared.expr.Identifier.{Identifier}
use Rattle.sim_tree.specs.declared.expr.Multiplication.TheVariants as multiplication
use Rattle.sim_tree.specs.declared.expr.Relation.TheVariants as relation
use Rattle.sim_tree.specs.declared.expr.Sign.{Sign}
use Rattle.sim_tree.specs.declared.expr.Sign.TheVariants as sign
use Rattle.sim_tree.specs.Derivation.{sign_kind}
use Rattle.sim_base.specs.Lexeme.{character, named, text, whole_number}
use Rattle.sim_print.specs.Tokens as token
use Rattle.sim_print.specs.Tokens.{one}
use Rattle.print_reads.specs.Writable.{IsWritable}
use Rattle.print_reads.proofs.Leaves.{AreWritable, Good, app, nil, single, w}

abbrev pub ExpressionWritable : Expression → Type 0
ExpressionWritable e = AreWritable (token.expression e)

abbrev pub ExpressionsWritable : s.Expressions → Type 0
ExpressionsWritable s.NoMore = Unit {0}
ExpressionsWritable (s.Then e es) = ExpressionWritable e × ExpressionsWritable es

further_writable : (es : s.Expressions) → ExpressionsWritable es → AreWritable (token.further_actuals es)
further_writable s.NoMore h = w k.Close refl
further_writable (s.Then e es) h = app (w k.Comma refl) (app h.0 (further_writable es h.1))

pub actuals_writable : (es : s.Expressions) → ExpressionsWritable es → AreWritable (token.actuals es)
actuals_writable s.NoMore h = nil
actuals_writable (s.Then e es) h = app (w k.Open refl) (app h.0 (further_writable es h.1))

operator_writable : (op : Operator) → AreWritable (one (token.operator_kind op))
operator_writable o.OrElse = w k.OrElse refl
operator_writable o.AndThen = w k.AndThen refl
operator_writable o.Equivalent = w k.Eqv refl
operator_writable o.Implies = w k.Imp refl
operator_writable o.Or = w k.Or refl
operator_writable o.And = w k.And refl
operator_writable (o.Relate relation.Less) = w k.Less refl
operator_writable (o.Relate relation.LessEqual) = w k.LessEqual refl
operator_writable (o.Relate relation.Equal) = w k.Equal refl
operator_writable (o.Relate relation.GreaterEqual) = w k.GreaterEqual refl
operator_writable (o.Relate relation.Greater) = w k.Greater refl
operator_writable (o.Relate relation.NotEqual) = w k.NotEqual refl
operator_writable (o.Relate relation.SameReference) = w k.SameReference refl
operator_writable (o.Relate relation.OtherReference) = w k.OtherReference refl
operator_writable o.Concatenate = w k.Ampersand refl
operator_writable (o.Add sign.Plus) = w k.Plus refl
operator_writable (o.Add sign.Minus) = w k.Minus refl
operator_writable (o.Multiply multiplication.Times) = w k.Times refl
operator_writable (o.Multiply multiplication.Divide) = w k.Divide refl
operator_writable o.Power = w k.Power refl

pub sign_writable : (x : Sign) → AreWritable (one (sign_kind x))
sign_writable sign.Plus = w k.Plus refl
sign_writable sign.Minus = w k.Minus refl

pub name_writable : (x : Identifier) → IsWritable (named x.name) → AreWritable (token.name x)
name_writable x h = single (named x.name) h

pub record Claim (x : Derivation) (e : Expression) : Type 0 where
  pub known : not (is_bare x.inside) ≡ true → Full x.inside → Good x.inside → ExpressionWritable e

raised : (m : ℕ) (x : Derivation) (e : Expression) → m ≤ 14 → Claim x e → not (is_bare (raise m x)) ≡ true → Full (raise m x) → Good (raise m x) → ExpressionWritable e
unfolding raise
raised zero x e le h = go (nat_eq x.level 0)
  where
    go : (b : Bool) → not (is_bare (if b then x.inside else done)) ≡ true → Full (if b then x.inside else done) → Good (if b then x.inside else done) → ExpressionWritable e
    go true bare full good = h.known bare full good
    go false bare full good = absurd (false≢true bare)
raised (suc m) x e le h = go (nat_eq x.level (suc m)) (λ bare full good. raised m x e (omega (arith, le)) h bare full good)
  where
    low : m < 14
    low = omega (arith, le)

    go : (b : Bool) → (not (is_bare (raise m x)) ≡ true → Full (raise m x) → Good (raise m x) → ExpressionWritable e)
        → not (is_bare (if b then x.inside else node (level_part m) (raise m x) done)) ≡ true
        → Full (if b then x.inside else node (level_part m) (raise m x) done)
        → Good (if b then x.inside else node (level_part m) (raise m x) done)
        → ExpressionWritable e
    go true later bare full good = h.known bare full good
    go false later bare full good = later (sym ((level_plain m low).1 (raise m x)) ∙ full.0) full.1 good.0

pub leveled : (m : ℕ) {x : Derivation} {e : Expression} → m < 14 → Claim x e → has_token (level_part m) (raise m x) ≡ true → Full (raise m x) → Good (raise m x) → ExpressionWritable e
leveled m {x} {e} le h token full good = raised m x e (omega (arith, le)) h (sym ((level_plain m le).1 (raise m x)) ∙ token) full good

pub valued : {x : Derivation} {e : Expression} → Claim x e → not (is_bare (whole x)) ≡ true → Full (whole x) → Good (whole x) → ExpressionWritable e
valued {x} {e} h bare full good = raised 14 x e (omega arith) h bare full good

pub operand_writable : {x : Derivation} {e : Expression} → Claim x e → not (is_bare (raise 1 x)) ≡ true → Full (raise 1 x) → Good (raise 1 x) → ExpressionWritable e
operand_writable {x} {e} h bare full good = raised 1 x e (omega arith) h bare full good

-- Items behind a level's first operand.
abbrev TailsWritable : List Tail → Type 0
TailsWritable [] = Unit {0}
TailsWritable (x ∷ xs) = ExpressionWritable x.operand × TailsWritable xs

writable_chain : (e : Expression) (xs : List Tail) → ExpressionWritable e → TailsWritable xs → ExpressionWritable (chain e xs)
writable_chain e [] p ps = p
writable_chain e (x ∷ xs) p ps = writable_chain (s.Binary x.operator x.token e x.operand) xs (app p (app (operator_writable x.operator) ps.0)) ps.1

abbrev StepClaim : Forest → Tail → Type 0
StepClaim f x = Full f → Good f → ExpressionWritable x.operand

abbrev EachStep : List Forest → List Tail → Type 0
EachStep [] [] = Unit {0}
EachStep (f ∷ fs) (x ∷ xs) = StepClaim f x × EachStep fs xs
EachStep _ _ = ⊥

steps_row : (n : Part) (fs : List Forest) (xs : List Tail) → EachStep fs xs → Full (row n fs done) → Good (row n fs done) → TailsWritable xs
steps_row n [] [] each full good = tt
steps_row n [] (x ∷ xs) each full good = absurd each
steps_row n (f ∷ fs) [] each full good = absurd each
steps_row n (f ∷ fs) (x ∷ xs) each full good = (each.0 full.1 good.0, steps_row n fs xs each.1 full.2 good.1)

abbrev pub ExprClaim : Expr → Type 0
ExprClaim e = Claim (derivation_of e) (syntax_of e)

record OperandClaim (x : Operand) : Type 0 where
  pub operand : Expression
  pub claim : Claim (operand_derivation x).operand operand
  pub is : (operator : Operator) → operand_syntax x operator ≡ record { operator = operator; token = (operand_derivation x).token; operand = operand }

abbrev TermClaim : Term → Type 0
TermClaim x = StepClaim (term_derivation x) (term_syntax x)

abbrev FactorClaim : Factor → Type 0
FactorClaim x = StepClaim (factor_derivation x) (factor_syntax x)

abbrev SelectionWritable : Selection → Type 0
SelectionWritable (Take i name es) = IsWritable (named name.name) × ExpressionsWritable es
SelectionWritable (Cast i class) = IsWritable (named class.name)

abbrev SelectionsWritable : List Selection → Type 0
SelectionsWritable [] = Unit {0}
SelectionsWritable (x ∷ xs) = SelectionWritable x × SelectionsWritable xs

writable_selected : (e : Expression) (xs : List Selection) → ExpressionWritable e → SelectionsWritable xs → ExpressionWritable (selected e xs)
writable_selected e [] p ps = p
writable_selected e (Take i name es ∷ xs) p ps = writable_selected (s.Dot i e name es) xs (app p (app (w k.Dot refl) (app (name_writable name ps.0.0) (actuals_writable es ps.0.1)))) ps.1
writable_selected e (Cast i class ∷ xs) p ps = writable_selected (s.Qua i e class) xs (app p (app (w k.Qua refl) (name_writable class ps.0))) ps.1

abbrev SelectorClaim : Selector → Type 0
SelectorClaim x = Full (selector_derivation x) → Good (selector_derivation x) → SelectionWritable (selector_syntax x)

-- Levels of operators.
vacant : (e : Expression) → Claim d.nothing e
vacant e = record { known = λ bare full good. absurd (false≢true bare) }

abbrev OperandPair : Type 0
OperandPair = (x : Operand) × OperandClaim x

item_steps : (l : ℕ) (w : TokenKind) (op : Operator) → l < 14 → (x : OperandPair) → StepClaim (d.item l w (operand_derivation x.0)) (with_operator op (operand_syntax x.0))
item_steps l w op le x full good = subst (λ (z : Tail). ExpressionWritable z.operand) (sym (x.1.is op)) (leveled l le x.1.claim full.0 full.1 good.1.0)

each_operand : (l : ℕ) (w : TokenKind) (op : Operator) → l < 14 → (xs : List OperandPair)
    → EachStep (map (d.item l w) (map operand_derivation (map (λ x. x.0) xs))) (map (with_operator op) (map operand_syntax (map (λ x. x.0) xs)))
each_operand l w op le [] = tt
each_operand l w op le (x ∷ xs) = (item_steps l w op le x, each_operand l w op le xs)

in_operated : (l : ℕ) (w : TokenKind) (op : Operator) (n : Part) → l < 14 → {x : Derivation} {e : Expression} → Claim x e → (xs : List OperandPair)
    → Claim (d.operated l w n x (map operand_derivation (map (λ x. x.0) xs))) (chain e (map (with_operator op) (map operand_syntax (map (λ x. x.0) xs))))
in_operated l w op n le {e = e} h [] = vacant e
in_operated l w op n le {x} {e} h (y ∷ ys) = record {
  known = λ bare full good.
      let fs : List Forest = map (d.item l w) (map operand_derivation (map (λ x. x.0) (y ∷ ys))) in
      let xs = map (with_operator op) (map operand_syntax (map (λ x. x.0) (y ∷ ys))) in
      writable_chain e xs (leveled l le h full.0 full.1 good.0) (steps_row n fs xs (each_operand l w op le (y ∷ ys)) full.2 good.1);
}

each_term : (xs : List ((x : Term) × TermClaim x)) → EachStep (map term_derivation (map (λ x. x.0) xs)) (map term_syntax (map (λ x. x.0) xs))
each_term [] = tt
each_term (x ∷ xs) = (x.1, each_term xs)

each_factor : (xs : List ((x : Factor) × FactorClaim x)) → EachStep (map factor_derivation (map (λ x. x.0) xs)) (map factor_syntax (map (λ x. x.0) xs))
each_factor [] = tt
each_factor (x ∷ xs) = (x.1, each_factor xs)

in_summed : (sign : Option LeadingSign) (fs : List Forest) (xs : List Tail) → EachStep fs xs → {x : Derivation} {e : Expression} → Claim x e → Claim (d.summed sign x fs) (chain (t.signed sign e) xs)
in_summed None [] xs each {e = e} h = vacant (chain e xs)
in_summed None (f ∷ fs) xs each {e = e} h = record {
  known = λ bare full good. writable_chain e xs (leveled 3 (omega arith) h full.0 full.1 good.0) (steps_row g.NextTerm (f ∷ fs) xs each full.2 good.1);
}
in_summed (Some y) fs xs each {e = e} h = record {
  known = λ bare full good. writable_chain (s.Signed y.sign y.token.0 e) xs (app (sign_writable y.sign) (leveled 3 (omega arith) h full.2.0 full.2.1 good.1.0)) (steps_row g.NextTerm fs xs each full.2.2 good.1.1);
}

in_multiplied : (fs : List Forest) (xs : List Tail) → EachStep fs xs → {x : Derivation} {e : Expression} → Claim x e → Claim (d.multiplied x fs) (chain e xs)
in_multiplied [] xs each {e = e} h = vacant (chain e xs)
in_multiplied (f ∷ fs) xs each {e = e} h = record {
  known = λ bare full good. writable_chain e xs (leveled 2 (omega arith) h full.0 full.1 good.0) (steps_row g.NextFactor (f ∷ fs) xs each full.2 good.1);
}

-- what is taken of an object
abbrev SelectorPair : Type 0
SelectorPair = (x : Selector) × SelectorClaim x

selections_row : (xs : List SelectorPair) → Full (row g.Selection (map selector_derivation (map (λ x. x.0) xs)) done) → Good (row g.Selection (map selector_derivation (map (λ x. x.0) xs)) done)
    → SelectionsWritable (map selector_syntax (map (λ x. x.0) xs))
selections_row [] full good = tt
selections_row (x ∷ xs) full good = (x.1 full.1 good.0, selections_row xs full.2 good.1)

in_selected : (xs : List SelectorPair) → {x : Derivation} {e : Expression} → Claim x e
    → Claim (d.selected x (map selector_derivation (map (λ x. x.0) xs))) (selected e (map selector_syntax (map (λ x. x.0) xs)))
in_selected [] {e = e} h = vacant e
in_selected (y ∷ ys) {e = e} h = record {
  known = λ bare full good.
      writable_selected e (map selector_syntax (map (λ x. x.0) (y ∷ ys))) (leveled 0 (omega arith) h full.0 full.1 good.0) (selections_row (y ∷ ys) full.2 good.1);
}

-- `not`, any number of times
writable_negated : (is : List TokenNo) (e : Expression) → ExpressionWritable e → ExpressionWritable (t.negated is e)
writable_negated [] e h = h
writable_negated (i ∷ is) e h = app (w k.Not refl) (writable_negated is e h)

full_behind_nots : (is : List TokenNo) (f : Forest) → Full (row g.NotSign (map d.not_mark is) f) → Full f
full_behind_nots [] f full = full
full_behind_nots (i ∷ is) f full = full_behind_nots is f full.2

clean_behind_nots : (is : List TokenNo) (f : Forest) → Good (row g.NotSign (map d.not_mark is) f) → Good f
clean_behind_nots [] f good = good
clean_behind_nots (i ∷ is) f good = clean_behind_nots is f good.1

in_negated : (is : List TokenNo) {x : Derivation} {e : Expression} → Claim x e → Claim (d.negated is x) (t.negated is e)
in_negated [] {e = e} h = vacant e
in_negated (i ∷ is) {x} {e} h = record {
  known = λ bare full good.
      let rest = full_behind_nots (i ∷ is) (node g.Relation (raise 6 x) done) full in
      let free = clean_behind_nots (i ∷ is) (node g.Relation (raise 6 x) done) good in
      writable_negated (i ∷ is) e (raised 6 x e (omega arith) h rest.0 rest.1 free.0);
}

-- Actual parameters.
abbrev pub Each : List Derivation → List Expression → Type 0
Each [] [] = Unit {0}
Each (x ∷ xs) (e ∷ es) = Claim x e × Each xs es
Each _ _ = ⊥

more_arguments : (xs : List Derivation) (es : List Expression) → Each xs es → Full (row g.NextArgument (map argument xs) done) → Good (row g.NextArgument (map argument xs) done) → ExpressionsWritable (expressions es)
more_arguments [] [] each full good = tt
more_arguments [] (e ∷ es) each full good = absurd each
more_arguments (x ∷ xs) [] each full good = absurd each
more_arguments (x ∷ xs) (e ∷ es) each full good = (valued each.0 full.1.0 full.1.1 good.0.0, more_arguments xs es each.1 full.2 good.1)

-- the actual parameters
pub arguments_writable : (xs : List Derivation) (es : List Expression) → Each xs es → Full (arguments xs done) → Good (arguments xs done) → ExpressionsWritable (expressions es)
arguments_writable [] [] each full good = tt
arguments_writable [] (e ∷ es) each full good = absurd each
arguments_writable (x ∷ xs) [] each full good = absurd each
arguments_writable (x ∷ xs) (e ∷ es) each full good = (valued each.0 full.1.0 full.1.1 good.0.0, more_arguments xs es each.1 full.1.2 good.0.1)

abbrev ExprPair : Type 0
ExprPair = (e : Expr) × ExprClaim e

pub each_pair : (xs : List ExprPair) → Each (map derivation_of (map (λ x. x.0) xs)) (map syntax_of (map (λ x. x.0) xs))
each_pair [] = tt
each_pair (x ∷ xs) = (x.1, each_pair xs)

abbrev TermPair : Type 0
TermPair = (x : Term) × TermClaim x

abbrev FactorPair : Type 0
FactorPair = (x : Factor) × FactorClaim x

abbrev first_expr : ExprPair → Expr
first_expr x = x.0

abbrev first_selector : SelectorPair → Selector
first_selector x = x.0

abbrev first_factor : FactorPair → Factor
first_factor x = x.0

abbrev first_operand : OperandPair → Operand
first_operand x = x.0

abbrev first_term : TermPair → Term
first_term x = x.0

-- a node's claim, from that of its layer
abbrev LayerClaim : Expr-F Expr Selector Factor Operand Term → Type 0
LayerClaim x =
    Claim
    (d.expr_layer (map-Expr Expr Selector Factor Operand Term Derivation Forest Forest d.Item Forest derivation_of selector_derivation factor_derivation operand_derivation term_derivation x))
    (t.expr_layer (map-Expr Expr Selector Factor Operand Term Expression Selection Tail Operands Tail syntax_of selector_syntax factor_syntax operand_syntax term_syntax x))

abbrev under : Expr-F ExprPair SelectorPair FactorPair OperandPair TermPair → Expr-F Expr Selector Factor Operand Term
under y = map-Expr ExprPair SelectorPair FactorPair OperandPair TermPair Expr Selector Factor Operand Term first_expr first_selector first_factor first_operand first_term y

actuals : (v : List ExprPair) → Full (arguments (map derivation_of (map first_expr v)) done) → Good (arguments (map derivation_of (map first_expr v)) done) → ExpressionsWritable (expressions (map syntax_of (map first_expr v)))
actuals v full good = arguments_writable (map derivation_of (map first_expr v)) (map syntax_of (map first_expr v)) (each_pair v) full good

expr_step : (y : Expr-F ExprPair SelectorPair FactorPair OperandPair TermPair) → LayerClaim (under y)
expr_step (Expr-F.If i a b c) = record {
  known = λ bare full good. app (w k.If refl) (app (valued a.value.1 full.0 full.1 good.1.0) (app (w k.Then refl) (app (leveled 13 (omega arith) b.value.1 full.2.0 full.2.1 good.1.1.0) (app (w k.Else refl) (valued c.value.1 full.2.2.0 full.2.2.1 good.1.1.1.0)))));
}
expr_step (Expr-F.OrElse a v) = in_operated 12 k.OrElse o.OrElse g.NextOrElse (omega arith) a.value.1 v.items
expr_step (Expr-F.AndThen a v) = in_operated 11 k.AndThen o.AndThen g.NextAndThen (omega arith) a.value.1 v.items
expr_step (Expr-F.Eqv a v) = in_operated 10 k.Eqv o.Equivalent g.NextEquivalence (omega arith) a.value.1 v.items
expr_step (Expr-F.Imp a v) = in_operated 9 k.Imp o.Implies g.NextImplication (omega arith) a.value.1 v.items
expr_step (Expr-F.Or a v) = in_operated 8 k.Or o.Or g.NextOr (omega arith) a.value.1 v.items
expr_step (Expr-F.And a v) = in_operated 7 k.And o.And g.NextAnd (omega arith) a.value.1 v.items
expr_step (Expr-F.Not v a) = in_negated v.items a.value.1
expr_step (Expr-F.Related a i r b) = record { known = λ bare full good. app (leveled 5 (omega arith) a.value.1 full.0 full.1 good.0) (app (operator_writable (o.Relate r)) (leveled 5 (omega arith) b.value.1 full.2.1.0 full.2.1.1 good.1.0.1.0)) }
expr_step (Expr-F.Member a i membership.Is x) = record { known = λ bare full good. app (leveled 5 (omega arith) a.value.1 full.0 full.1 good.0) (app (w k.Is refl) (name_writable x good.1.0.1.0)) }
expr_step (Expr-F.Member a i membership.In x) = record { known = λ bare full good. app (leveled 5 (omega arith) a.value.1 full.0 full.1 good.0) (app (w k.In refl) (name_writable x good.1.0.1.0)) }
expr_step (Expr-F.Concatenation a v) = in_operated 4 k.Ampersand o.Concatenate g.NextConcatenated (omega arith) a.value.1 v.items
expr_step (Expr-F.Sum y a v) = in_summed y (map term_derivation (map first_term v.items)) (map term_syntax (map first_term v.items)) (each_term v.items) a.value.1
expr_step (Expr-F.Product a v) = in_multiplied (map factor_derivation (map first_factor v.items)) (map factor_syntax (map first_factor v.items)) (each_factor v.items) a.value.1
expr_step (Expr-F.Power a v) = in_operated 1 k.Power o.Power g.NextPower (omega arith) a.value.1 v.items
expr_step (Expr-F.Postfix a v) = in_selected v.items a.value.1
expr_step (Expr-F.Integer i n) = record { known = λ bare full good. single (whole_number n) good.0 }
expr_step (Expr-F.Character i n) = record { known = λ bare full good. single (character n) good.0 }
expr_step (Expr-F.Text i n) = record { known = λ bare full good. single (text n) good.0 }
expr_step (Expr-F.True i) = record { known = λ bare full good. w k.True refl }
expr_step (Expr-F.False i) = record { known = λ bare full good. w k.False refl }
expr_step (Expr-F.NoObject i) = record { known = λ bare full good. w k.None refl }
expr_step (Expr-F.Notext i) = record { known = λ bare full good. w k.Notext refl }
expr_step (Expr-F.Named x v) = record { known = λ bare full good. app (name_writable x good.0) (actuals_writable (expressions (map syntax_of (map first_expr v.items))) (actuals v.items full good.1)) }
expr_step (Expr-F.This i x) = record { known = λ bare full good. app (w k.This refl) (name_writable x good.1.0) }
expr_step (Expr-F.New i x v) = record { known = λ bare full good. app (w k.New refl) (app (name_writable x good.1.0) (actuals_writable (expressions (map syntax_of (map first_expr v.items))) (actuals v.items full good.1.1))) }
expr_step (Expr-F.Parentheses i a) = record { known = λ bare full good. app (w k.Open refl) (app (valued a.value.1 full.0 full.1 good.1.0) (w k.Close refl)) }

layer : (x : Expr-F Expr Selector Factor Operand Term) → LayerClaim x → ExprClaim (roll-Expr x)
unfolding syntax_of operand_syntax term_syntax factor_syntax selector_syntax
layer x h =
    subst (λ z. Claim z (syntax_of (roll-Expr x))) (sym (fold-roll-Expr Derivation Forest Forest d.Item Forest d.expr_layer d.selector_layer d.factor_layer d.operand_layer d.term_layer x))
    (subst (λ z. Claim (d.expr_layer (map-Expr Expr Selector Factor Operand Term Derivation Forest Forest d.Item Forest derivation_of selector_derivation factor_derivation operand_derivation term_derivation x)) z)
    (sym (fold-roll-Expr Expression Selection Tail Operands Tail t.expr_layer t.selector_layer t.factor_layer t.operand_layer t.term_layer x)) h)

abbrev SelectorSays : Forest → Selection → Type 0
SelectorSays f x = Full f → Good f → SelectionWritable x

abbrev SelectorLayer : Selector-F Expr Selector Factor Operand Term → Type 0
SelectorLayer x =
    SelectorSays
    (d.selector_layer (map-Selector Expr Selector Factor Operand Term Derivation Forest Forest d.Item Forest derivation_of selector_derivation factor_derivation operand_derivation term_derivation x))
    (t.selector_layer (map-Selector Expr Selector Factor Operand Term Expression Selection Tail Operands Tail syntax_of selector_syntax factor_syntax operand_syntax term_syntax x))

selector_step : (y : Selector-F ExprPair SelectorPair FactorPair OperandPair TermPair)
    → SelectorLayer (map-Selector ExprPair SelectorPair FactorPair OperandPair TermPair Expr Selector Factor Operand Term first_expr first_selector first_factor first_operand first_term y)
selector_step (Selector-F.Dot i x v) full good = (good.1.0, actuals v.items full good.1.1)
selector_step (Selector-F.Qua i x) full good = good.1.0

selector_layer : (x : Selector-F Expr Selector Factor Operand Term) → SelectorLayer x → SelectorClaim (roll-Selector x)
unfolding syntax_of operand_syntax term_syntax factor_syntax selector_syntax
selector_layer x h =
    subst (λ z. SelectorSays z (selector_syntax (roll-Selector x))) (sym (fold-roll-Selector Derivation Forest Forest d.Item Forest d.expr_layer d.selector_layer d.factor_layer d.operand_layer d.term_layer x))
    (subst (λ z. SelectorSays (d.selector_layer (map-Selector Expr Selector Factor Operand Term Derivation Forest Forest d.Item Forest derivation_of selector_derivation factor_derivation operand_derivation term_derivation x)) z)
    (sym (fold-roll-Selector Expression Selection Tail Operands Tail t.expr_layer t.selector_layer t.factor_layer t.operand_layer t.term_layer x)) h)

operand_layer : (x : Operand-F Expr Selector Factor Operand Term) → ExprClaim x.operand → OperandClaim (roll-Operand x)
unfolding syntax_of operand_syntax term_syntax factor_syntax selector_syntax
operand_layer x h =
    let f = sym (fold-roll-Operand Derivation Forest Forest d.Item Forest d.expr_layer d.selector_layer d.factor_layer d.operand_layer d.term_layer x) in
    let e = fold-roll-Operand Expression Selection Tail Operands Tail t.expr_layer t.selector_layer t.factor_layer t.operand_layer t.term_layer x in
    record {
      operand = syntax_of x.operand;
      claim = subst (λ (z : d.Item). Claim z.operand (syntax_of x.operand)) f h;
      is = λ op. ap (λ z. z op) e ∙ ap (λ (z : d.Item). let y : Tail = record { operator = op; token = z.token; operand = syntax_of x.operand } in y) f;
    }

step_along : {f h : Forest} {x y : Tail} → f ≡ h → x ≡ y → StepClaim h y → StepClaim f x
step_along {f} {h} {x} {y} e i c = subst (λ z. StepClaim z x) (sym e) (subst (λ z. StepClaim h z) (sym i) c)

term_layer : (x : Term-F Expr Selector Factor Operand Term) → ExprClaim x.term → TermClaim (roll-Term x)
unfolding syntax_of operand_syntax term_syntax factor_syntax selector_syntax
term_layer x h =
    step_along (fold-roll-Term Derivation Forest Forest d.Item Forest d.expr_layer d.selector_layer d.factor_layer d.operand_layer d.term_layer x)
    (fold-roll-Term Expression Selection Tail Operands Tail t.expr_layer t.selector_layer t.factor_layer t.operand_layer t.term_layer x) (λ full good. leveled 3 (omega arith) h full.0 full.1 good.1.0)

factor_layer : (x : Factor-F Expr Selector Factor Operand Term) → ExprClaim x.factor → FactorClaim (roll-Factor x)
unfolding syntax_of operand_syntax term_syntax factor_syntax selector_syntax
factor_layer x h =
    step_along (fold-roll-Factor Derivation Forest Forest d.Item Forest d.expr_layer d.selector_layer d.factor_layer d.operand_layer d.term_layer x)
    (fold-roll-Factor Expression Selection Tail Operands Tail t.expr_layer t.selector_layer t.factor_layer t.operand_layer t.term_layer x) (λ full good. leveled 2 (omega arith) h full.0 full.1 good.1.0)

pub writable_expr : (e : Expr) → ExprClaim e
writable_expr =
    ind-Expr ExprClaim SelectorClaim FactorClaim OperandClaim TermClaim (λ x y is. layer x (subst LayerClaim is (expr_step y))) (λ x y is. selector_layer x (subst SelectorLayer is (selector_step y)))
    (λ x y is. subst (λ z. FactorClaim (roll-Factor z)) is (factor_layer (map-Factor ExprPair SelectorPair FactorPair OperandPair TermPair Expr Selector Factor Operand Term first_expr first_selector first_factor first_operand first_term y) y.factor.1))
    (λ x y is. subst (λ z. OperandClaim (roll-Operand z)) is (operand_layer (map-Operand ExprPair SelectorPair FactorPair OperandPair TermPair Expr Selector Factor Operand Term first_expr first_selector first_factor first_operand first_term y) y.operand.1))
    (λ x y is. subst (λ z. TermClaim (roll-Term z)) is (term_layer (map-Term ExprPair SelectorPair FactorPair OperandPair TermPair Expr Selector Factor Operand Term first_expr first_selector first_factor first_operand first_term y) y.term.1))

each_expr : (xs : List Expr) → Each (map derivation_of xs) (map syntax_of xs)
each_expr [] = tt
each_expr (x ∷ xs) = (writable_expr x, each_expr xs)

-- actual parameters with something behind them
behind_arguments : (xs : List Derivation) (es : List Expression) (rest : Forest) → Each xs es → Full (arguments xs rest) → Good (arguments xs rest) → ExpressionsWritable (expressions es) × Full rest × Good rest
behind_arguments [] [] rest each full good = (tt, full, good)
behind_arguments [] (e ∷ es) rest each full good = absurd each
behind_arguments (x ∷ xs) [] rest each full good = absurd each
behind_arguments (x ∷ xs) (e ∷ es) rest each full good = ((valued each.0 full.1.0 full.1.1 good.0.0, more_arguments xs es each.1 full.1.2 good.0.1), full.2, good.1)

pub arguments_given : (xs : List Expr) (rest : Forest) → Full (arguments (map derivation_of xs) rest) → Good (arguments (map derivation_of xs) rest) → ExpressionsWritable (expressions (map syntax_of xs)) × Full rest × Good rest
arguments_given xs rest full good = behind_arguments (map derivation_of xs) (map syntax_of xs) rest (each_expr xs) full good
