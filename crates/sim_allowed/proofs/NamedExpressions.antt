-- The tokens that name expressions are among the tokens of the derivation, in its order.
use Rattle.std.proofs.Common.{◌≡◌, ◌≤◌, ◌<◌, ℕ, Bool, true, false, zero, suc, List, [], ◌∷◌, Option, Some, None, map, refl, sym, ap, ◌∙◌, arith, subst, if◌then◌else◌}
use Rattle.std.proofs.lemmas.Bool.{false≢true}
use Rattle.std.specs.Prelude.{not, nat_eq}
use Rattle.sim_base.specs.declared.numbering.TokenNo.{TokenNo}
use Rattle.sim_base.specs.declared.token.TokenKind.{TokenKind}
use Rattle.sim_base.specs.declared.token.TokenKind.TheVariants as k
use Rattle.sim_tree.specs.declared.expr.Expr.{Expr}
use Rattle.sim_tree.specs.declared.expr.Expr.TheOpen.{Expr-F, Operand-F, Term-F, Factor-F, Selector-F}
use Rattle.sim_tree.specs.declared.expr.Expr.TheFolds.{ind-Expr, map-Expr, map-Operand, map-Term, map-Factor, map-Selector, fold-roll-Expr, fold-roll-Operand, fold-roll-Term, fold-roll-Factor, fold-roll-Selector}
use Rattle.sim_tree.specs.declared.expr.Expr.TheViews.{roll-Expr, roll-Operand, roll-Term, roll-Factor, roll-Selector}
use Rattle.sim_tree.specs.declared.expr.LeadingSign.{LeadingSign}
use Rattle.sim_tree.specs.declared.expr.Operand.{Operand}
use Rattle.sim_tree.specs.declared.expr.Term.{Term}
use Rattle.sim_tree.specs.declared.expr.Factor.{Factor}
use Rattle.sim_tree.specs.declared.expr.Selector.{Selector}
use Rattle.sim_tree.specs.declared.operator.Operator.{Operator}
use Rattle.sim_tree.specs.declared.operator.Operator.TheVariants as o
use Rattle.sim_tree.specs.Grammar as g
use Rattle.sim_tree.specs.Grammar.{Part}
use Rattle.sim_tree.specs.Reading.{Forest, done, leaf, place, node}
use Rattle.sim_tree.specs.Named.{named, all_named}
use Rattle.sim_tree.specs.Tree.{is_bare}
use Rattle.sim_tree.specs.Nesting.{has_token}
use Rattle.sim_tree.specs.Derivation as d
use Rattle.sim_tree.specs.Derivation.{Derivation, level_part, raise, whole, row, derivation_of, operand_derivation, term_derivation, factor_derivation, selector_derivation, argument, arguments}
use Rattle.sim_tree.specs.Syntax as s
use Rattle.sim_tree.specs.Syntax.{Expression, expressions}
use Rattle.sim_tree.specs.SyntaxOf as t
use Rattle.sim_tree.specs.SyntaxOf.{Tail, Operands, Selection, Take, Cast, chain, with_operator, selected, syntax_of, operand_syntax, term_syntax, factor_syntax, selector_syntax}
use Rattle.sim_tree.proofs.Nests.{level_plain}
use Rattle.sim_tree.proofs.ReadExpressions.{Full}

-- some of the numbers, in their order
pub data Among : List ℕ → List ℕ → Type 0 where
  among-none : Among [] []
  among-skip : {i : ℕ} {r q : List ℕ} → Among r q → Among r (i ∷ q)
  among-keep : {i : ℕ} {r q : List ℕ} → Among r q → Among (i ∷ r) (i ∷ q)

-- the tokens of a derivation, in front of others
abbrev pub leaves : Forest → List ℕ → List ℕ
leaves done q = q
leaves (leaf i kind value f) q = i ∷ leaves f q
leaves (place i f) q = leaves f q
leaves (node n inside f) q = leaves inside (leaves f q)

-- Some of the tokens that one function puts in front are what the other puts there.
pub record Puts (h g : List ℕ → List ℕ) : Type 0 where
  pub puts : (r q : List ℕ) → Among r q → Among (h r) (g q)

pub along : {h i g : List ℕ → List ℕ} → ((r : List ℕ) → h r ≡ i r) → Puts i g → Puts h g
along {h} {i} {g} is p = record { puts = λ r q a. subst (λ z. Among z (g q)) (sym (is r)) (p.puts r q a) }

pub keep : {i : ℕ} {h g : List ℕ → List ℕ} → Puts h g → Puts (λ r. i ∷ h r) (λ q. i ∷ g q)
keep p = record { puts = λ r q a. among-keep (p.puts r q a) }

pub skip : {i : ℕ} {h g : List ℕ → List ℕ} → Puts h g → Puts h (λ q. i ∷ g q)
skip p = record { puts = λ r q a. among-skip (p.puts r q a) }

pub none : Puts (λ r. r) (λ q. q)
none = record { puts = λ r q a. a }

-- one after the other
pub both : {h i g k : List ℕ → List ℕ} → Puts h g → Puts i k → Puts (λ r. h (i r)) (λ q. g (k q))
both {i = i} {k = k} one two = record { puts = λ r q a. one.puts (i r) (k q) (two.puts r q a) }

-- nothing is put there
pub puts_none : (f : Forest) → Puts (λ r. r) (leaves f)
puts_none done = none
puts_none (leaf i kind value f) = skip (puts_none f)
puts_none (place i f) = puts_none f
puts_none (node n inside f) = both (puts_none inside) (puts_none f)

pub record Claim (x : Derivation) (e : Expression) : Type 0 where
  pub known : not (is_bare x.inside) ≡ true → Full x.inside → Puts (named e) (leaves x.inside)

raised : (m : ℕ) (x : Derivation) (e : Expression) → m ≤ 14 → Claim x e → not (is_bare (raise m x)) ≡ true → Full (raise m x) → Puts (named e) (leaves (raise m x))
unfolding raise
raised zero x e le h = go (nat_eq x.level 0)
  where
    go : (b : Bool) → not (is_bare (if b then x.inside else done)) ≡ true → Full (if b then x.inside else done) → Puts (named e) (leaves (if b then x.inside else done))
    go true bare full = h.known bare full
    go false bare full = absurd (false≢true bare)
raised (suc m) x e le h = go (nat_eq x.level (suc m)) (λ bare full. raised m x e (omega (arith, le)) h bare full)
  where
    low : m < 14
    low = omega (arith, le)

    go : (b : Bool) → (not (is_bare (raise m x)) ≡ true → Full (raise m x) → Puts (named e) (leaves (raise m x)))
        → not (is_bare (if b then x.inside else node (level_part m) (raise m x) done)) ≡ true
        → Full (if b then x.inside else node (level_part m) (raise m x) done)
        → Puts (named e) (leaves (if b then x.inside else node (level_part m) (raise m x) done))
    go true later bare full = h.known bare full
    go false later bare full = later (sym ((level_plain m low).1 (raise m x)) ∙ full.0) full.1

pub leveled : (m : ℕ) {x : Derivation} {e : Expression} → m < 14 → Claim x e → has_token (level_part m) (raise m x) ≡ true → Full (raise m x) → Puts (named e) (leaves (raise m x))
leveled m {x} {e} le h token full = raised m x e (omega (arith, le)) h (sym ((level_plain m le).1 (raise m x)) ∙ token) full

pub valued : {x : Derivation} {e : Expression} → Claim x e → not (is_bare (whole x)) ≡ true → Full (whole x) → Puts (named e) (leaves (whole x))
valued {x} {e} h bare full = raised 14 x e (omega arith) h bare full

pub operand_named : {x : Derivation} {e : Expression} → Claim x e → not (is_bare (raise 1 x)) ≡ true → Full (raise 1 x) → Puts (named e) (leaves (raise 1 x))
operand_named {x} {e} h bare full = raised 1 x e (omega arith) h bare full

-- Items behind a level's first operand.
abbrev tail_named : Tail → List ℕ → List ℕ
tail_named x l = x.token ∷ named x.operand l

abbrev tails_named : List Tail → List ℕ → List ℕ
tails_named [] l = l
tails_named (x ∷ xs) l = tail_named x (tails_named xs l)

named-chain : (e : Expression) (xs : List Tail) (l : List ℕ) → named (chain e xs) l ≡ named e (tails_named xs l)
named-chain e [] l = refl
named-chain e (x ∷ xs) l = named-chain (s.Binary x.operator x.token e x.operand) xs l

abbrev StepClaim : Forest → Tail → Type 0
StepClaim f x = Full f → Puts (tail_named x) (leaves f)

abbrev EachStep : List Forest → List Tail → Type 0
EachStep [] [] = Unit {0}
EachStep (f ∷ fs) (x ∷ xs) = StepClaim f x × EachStep fs xs
EachStep _ _ = ⊥

steps_row : (n : Part) (fs : List Forest) (xs : List Tail) → EachStep fs xs → Full (row n fs done) → Puts (tails_named xs) (leaves (row n fs done))
steps_row n [] [] each full = none
steps_row n [] (x ∷ xs) each full = absurd each
steps_row n (f ∷ fs) [] each full = absurd each
steps_row n (f ∷ fs) (x ∷ xs) each full = both (each.0 full.1) (steps_row n fs xs each.1 full.2)

abbrev pub ExprClaim : Expr → Type 0
ExprClaim e = Claim (derivation_of e) (syntax_of e)

record OperandClaim (x : Operand) : Type 0 where
  pub operand : Expression
  pub claim : Claim (operand_derivation x).operand operand
  pub is : (operator : Operator) → operand_syntax x operator ≡ record { operator = operator; token = (operand_derivation x).token; operand = operand }

abbrev TermClaim : Term → Type 0
TermClaim x = StepClaim (term_derivation x) (term_syntax x)

abbrev FactorClaim : Factor → Type 0
FactorClaim x = StepClaim (factor_derivation x) (factor_syntax x)

abbrev selection_named : Selection → List ℕ → List ℕ
selection_named (Take i name es) l = i ∷ name.token.0 ∷ all_named es l
selection_named (Cast i class) l = i ∷ class.token.0 ∷ l

abbrev selections_named : List Selection → List ℕ → List ℕ
selections_named [] l = l
selections_named (x ∷ xs) l = selection_named x (selections_named xs l)

named-selected : (e : Expression) (xs : List Selection) (l : List ℕ) → named (selected e xs) l ≡ named e (selections_named xs l)
named-selected e [] l = refl
named-selected e (Take i name es ∷ xs) l = named-selected (s.Dot i e name es) xs l
named-selected e (Cast i class ∷ xs) l = named-selected (s.Qua i e class) xs l

abbrev SelectorClaim : Selector → Type 0
SelectorClaim x = Full (selector_derivation x) → Puts (selection_named (selector_syntax x)) (leaves (selector_derivation x))

-- Levels of operators.
vacant : (e : Expression) → Claim d.nothing e
vacant e = record { known = λ bare full. absurd (false≢true bare) }

abbrev OperandPair : Type 0
OperandPair = (x : Operand) × OperandClaim x

item_steps : (l : ℕ) (w : TokenKind) (op : Operator) → l < 14 → (x : OperandPair) → StepClaim (d.item l w (operand_derivation x.0)) (with_operator op (operand_syntax x.0))
item_steps l w op le x full =
    along (λ r. ap (λ z. tail_named z r) (x.1.is op)) (keep (leveled l le x.1.claim full.0 full.1))

each_operand : (l : ℕ) (w : TokenKind) (op : Operator) → l < 14 → (xs : List OperandPair)
    → EachStep (map (d.item l w) (map operand_derivation (map (λ x. x.0) xs))) (map (with_operator op) (map operand_syntax (map (λ x. x.0) xs)))
each_operand l w op le [] = tt
each_operand l w op le (x ∷ xs) = (item_steps l w op le x, each_operand l w op le xs)

in_operated : (l : ℕ) (w : TokenKind) (op : Operator) (n : Part) → l < 14 → {x : Derivation} {e : Expression} → Claim x e → (xs : List OperandPair)
    → Claim (d.operated l w n x (map operand_derivation (map (λ x. x.0) xs))) (chain e (map (with_operator op) (map operand_syntax (map (λ x. x.0) xs))))
in_operated l w op n le {e = e} h [] = vacant e
in_operated l w op n le {x} {e} h (y ∷ ys) = record {
  known = λ bare full.
      let fs : List Forest = map (d.item l w) (map operand_derivation (map (λ x. x.0) (y ∷ ys))) in
      let xs = map (with_operator op) (map operand_syntax (map (λ x. x.0) (y ∷ ys))) in
      along (named-chain e xs) (both (leveled l le h full.0 full.1) (steps_row n fs xs (each_operand l w op le (y ∷ ys)) full.2));
}

each_term : (xs : List ((x : Term) × TermClaim x)) → EachStep (map term_derivation (map (λ x. x.0) xs)) (map term_syntax (map (λ x. x.0) xs))
each_term [] = tt
each_term (x ∷ xs) = (x.1, each_term xs)

each_factor : (xs : List ((x : Factor) × FactorClaim x)) → EachStep (map factor_derivation (map (λ x. x.0) xs)) (map factor_syntax (map (λ x. x.0) xs))
each_factor [] = tt
each_factor (x ∷ xs) = (x.1, each_factor xs)

in_summed : (sign : Option LeadingSign) (fs : List Forest) (xs : List Tail) → EachStep fs xs → {x : Derivation} {e : Expression} → Claim x e → Claim (d.summed sign x fs) (chain (t.signed sign e) xs)
in_summed None [] xs each {e = e} h = vacant (chain e xs)
in_summed None (f ∷ fs) xs each {e = e} h = record {
  known = λ bare full.
      along (named-chain e xs) (both (leveled 3 (omega arith) h full.0 full.1) (steps_row g.NextTerm (f ∷ fs) xs each full.2));
}
in_summed (Some y) fs xs each {e = e} h = record {
  known = λ bare full.
      along (named-chain (s.Signed y.sign y.token.0 e) xs) (keep (both (leveled 3 (omega arith) h full.2.0 full.2.1) (steps_row g.NextTerm fs xs each full.2.2)));
}

in_multiplied : (fs : List Forest) (xs : List Tail) → EachStep fs xs → {x : Derivation} {e : Expression} → Claim x e → Claim (d.multiplied x fs) (chain e xs)
in_multiplied [] xs each {e = e} h = vacant (chain e xs)
in_multiplied (f ∷ fs) xs each {e = e} h = record {
  known = λ bare full.
      along (named-chain e xs) (both (leveled 2 (omega arith) h full.0 full.1) (steps_row g.NextFactor (f ∷ fs) xs each full.2));
}

-- what is taken of an object
abbrev SelectorPair : Type 0
SelectorPair = (x : Selector) × SelectorClaim x

selections_row : (xs : List SelectorPair) → Full (row g.Selection (map selector_derivation (map (λ x. x.0) xs)) done)
    → Puts (selections_named (map selector_syntax (map (λ x. x.0) xs))) (leaves (row g.Selection (map selector_derivation (map (λ x. x.0) xs)) done))
selections_row [] full = none
selections_row (x ∷ xs) full = both (x.1 full.1) (selections_row xs full.2)

in_selected : (xs : List SelectorPair) → {x : Derivation} {e : Expression} → Claim x e
    → Claim (d.selected x (map selector_derivation (map (λ x. x.0) xs))) (selected e (map selector_syntax (map (λ x. x.0) xs)))
in_selected [] {e = e} h = vacant e
in_selected (y ∷ ys) {e = e} h = record {
  known = λ bare full.
      along (named-selected e (map selector_syntax (map (λ x. x.0) (y ∷ ys)))) (both (leveled 0 (omega arith) h full.0 full.1) (selections_row (y ∷ ys) full.2));
}

-- `not`, any number of times
nots_row : (is : List TokenNo) (f : Forest) (e : Expression) → Puts (named e) (leaves f) → Puts (named (t.negated is e)) (leaves (row g.NotSign (map d.not_mark is) (node g.Relation f done)))
nots_row [] f e h = h
nots_row (i ∷ is) f e h = keep (nots_row is f e h)

full_behind_nots : (is : List TokenNo) (f : Forest) → Full (row g.NotSign (map d.not_mark is) f) → Full f
full_behind_nots [] f full = full
full_behind_nots (i ∷ is) f full = full_behind_nots is f full.2

in_negated : (is : List TokenNo) {x : Derivation} {e : Expression} → Claim x e → Claim (d.negated is x) (t.negated is e)
in_negated [] {e = e} h = vacant e
in_negated (i ∷ is) {x} {e} h = record {
  known = λ bare full.
      let rest = full_behind_nots (i ∷ is) (node g.Relation (raise 6 x) done) full in
      nots_row (i ∷ is) (raise 6 x) e (raised 6 x e (omega arith) h rest.0 rest.1);
}

-- Actual parameters.
abbrev pub Each : List Derivation → List Expression → Type 0
Each [] [] = Unit {0}
Each (x ∷ xs) (e ∷ es) = Claim x e × Each xs es
Each _ _ = ⊥

more_arguments : (xs : List Derivation) (es : List Expression) → Each xs es → Full (row g.NextArgument (map argument xs) done) → Puts (all_named (expressions es)) (leaves (row g.NextArgument (map argument xs) done))
more_arguments [] [] each full = none
more_arguments [] (e ∷ es) each full = absurd each
more_arguments (x ∷ xs) [] each full = absurd each
more_arguments (x ∷ xs) (e ∷ es) each full = both (valued each.0 full.1.0 full.1.1) (more_arguments xs es each.1 full.2)

-- the actual parameters, and what is put there behind them
pub arguments_named : (xs : List Derivation) (es : List Expression) (f : Forest) (h : List ℕ → List ℕ) → Each xs es → Full (arguments xs f) → (Full f → Puts h (leaves f)) → Puts (λ r. all_named (expressions es) (h r)) (leaves (arguments xs f))
arguments_named [] [] f h each full rest = rest full
arguments_named [] (e ∷ es) f h each full rest = absurd each
arguments_named (x ∷ xs) [] f h each full rest = absurd each
arguments_named (x ∷ xs) (e ∷ es) f h each full rest =
    both (both (valued each.0 full.1.0 full.1.1) (more_arguments xs es each.1 full.1.2)) (rest full.2)

abbrev ExprPair : Type 0
ExprPair = (e : Expr) × ExprClaim e

pub each_pair : (xs : List ExprPair) → Each (map derivation_of (map (λ x. x.0) xs)) (map syntax_of (map (λ x. x.0) xs))
each_pair [] = tt
each_pair (x ∷ xs) = (x.1, each_pair xs)

abbrev TermPair : Type 0
TermPair = (x : Term) × TermClaim x

abbrev FactorPair : Type 0
FactorPair = (x : Factor) × FactorClaim x

abbrev first_expr : ExprPair → Expr
first_expr x = x.0

abbrev first_selector : SelectorPair → Selector
first_selector x = x.0

abbrev first_factor : FactorPair → Factor
first_factor x = x.0

abbrev first_operand : OperandPair → Operand
first_operand x = x.0

abbrev first_term : TermPair → Term
first_term x = x.0

-- a node's claim, from that of its layer
abbrev LayerClaim : Expr-F Expr Selector Factor Operand Term → Type 0
LayerClaim x =
    Claim
    (d.expr_layer (map-Expr Expr Selector Factor Operand Term Derivation Forest Forest d.Item Forest derivation_of selector_derivation factor_derivation operand_derivation term_derivation x))
    (t.expr_layer (map-Expr Expr Selector Factor Operand Term Expression Selection Tail Operands Tail syntax_of selector_syntax factor_syntax operand_syntax term_syntax x))

abbrev under : Expr-F ExprPair SelectorPair FactorPair OperandPair TermPair → Expr-F Expr Selector Factor Operand Term
under y = map-Expr ExprPair SelectorPair FactorPair OperandPair TermPair Expr Selector Factor Operand Term first_expr first_selector first_factor first_operand first_term y

actuals : (v : List ExprPair) → Full (arguments (map derivation_of (map first_expr v)) done) → Puts (all_named (expressions (map syntax_of (map first_expr v)))) (leaves (arguments (map derivation_of (map first_expr v)) done))
actuals v full = arguments_named (map derivation_of (map first_expr v)) (map syntax_of (map first_expr v)) done (λ r. r) (each_pair v) full (λ full. none)

expr_step : (y : Expr-F ExprPair SelectorPair FactorPair OperandPair TermPair) → LayerClaim (under y)
expr_step (Expr-F.If i a b c) = record {
  known = λ bare full. keep (both (valued a.value.1 full.0 full.1) (both (leveled 13 (omega arith) b.value.1 full.2.0 full.2.1) (valued c.value.1 full.2.2.0 full.2.2.1)));
}
expr_step (Expr-F.OrElse a v) = in_operated 12 k.OrElse o.OrElse g.NextOrElse (omega arith) a.value.1 v.items
expr_step (Expr-F.AndThen a v) = in_operated 11 k.AndThen o.AndThen g.NextAndThen (omega arith) a.value.1 v.items
expr_step (Expr-F.Eqv a v) = in_operated 10 k.Eqv o.Equivalent g.NextEquivalence (omega arith) a.value.1 v.items
expr_step (Expr-F.Imp a v) = in_operated 9 k.Imp o.Implies g.NextImplication (omega arith) a.value.1 v.items
expr_step (Expr-F.Or a v) = in_operated 8 k.Or o.Or g.NextOr (omega arith) a.value.1 v.items
expr_step (Expr-F.And a v) = in_operated 7 k.And o.And g.NextAnd (omega arith) a.value.1 v.items
expr_step (Expr-F.Not v a) = in_negated v.items a.value.1
expr_step (Expr-F.Related a i r b) = record { known = λ bare full. both (leveled 5 (omega arith) a.value.1 full.0 full.1) (keep (leveled 5 (omega arith) b.value.1 full.2.1.0 full.2.1.1)) }
expr_step (Expr-F.Member a i m x) = record { known = λ bare full. both (leveled 5 (omega arith) a.value.1 full.0 full.1) (keep (keep none)) }
expr_step (Expr-F.Concatenation a v) = in_operated 4 k.Ampersand o.Concatenate g.NextConcatenated (omega arith) a.value.1 v.items
expr_step (Expr-F.Sum y a v) = in_summed y (map term_derivation (map first_term v.items)) (map term_syntax (map first_term v.items)) (each_term v.items) a.value.1
expr_step (Expr-F.Product a v) = in_multiplied (map factor_derivation (map first_factor v.items)) (map factor_syntax (map first_factor v.items)) (each_factor v.items) a.value.1
expr_step (Expr-F.Power a v) = in_operated 1 k.Power o.Power g.NextPower (omega arith) a.value.1 v.items
expr_step (Expr-F.Postfix a v) = in_selected v.items a.value.1
expr_step (Expr-F.Integer i n) = record { known = λ bare full. keep none }
expr_step (Expr-F.Character i n) = record { known = λ bare full. keep none }
expr_step (Expr-F.Text i n) = record { known = λ bare full. keep none }
expr_step (Expr-F.True i) = record { known = λ bare full. keep none }
expr_step (Expr-F.False i) = record { known = λ bare full. keep none }
expr_step (Expr-F.NoObject i) = record { known = λ bare full. keep none }
expr_step (Expr-F.Notext i) = record { known = λ bare full. keep none }
expr_step (Expr-F.Named x v) = record { known = λ bare full. keep (actuals v.items full) }
expr_step (Expr-F.This i x) = record { known = λ bare full. keep (keep none) }
expr_step (Expr-F.New i x v) = record { known = λ bare full. keep (keep (actuals v.items full)) }
expr_step (Expr-F.Parentheses i a) = record { known = λ bare full. keep (valued a.value.1 full.0 full.1) }

layer : (x : Expr-F Expr Selector Factor Operand Term) → LayerClaim x → ExprClaim (roll-Expr x)
unfolding syntax_of operand_syntax term_syntax factor_syntax selector_syntax
layer x h =
    subst (λ z. Claim z (syntax_of (roll-Expr x))) (sym (fold-roll-Expr Derivation Forest Forest d.Item Forest d.expr_layer d.selector_layer d.factor_layer d.operand_layer d.term_layer x))
    (subst (λ z. Claim (d.expr_layer (map-Expr Expr Selector Factor Operand Term Derivation Forest Forest d.Item Forest derivation_of selector_derivation factor_derivation operand_derivation term_derivation x)) z)
    (sym (fold-roll-Expr Expression Selection Tail Operands Tail t.expr_layer t.selector_layer t.factor_layer t.operand_layer t.term_layer x)) h)

abbrev SelectorLayer : Selector-F Expr Selector Factor Operand Term → Type 0
SelectorLayer x =
    let f = d.selector_layer (map-Selector Expr Selector Factor Operand Term Derivation Forest Forest d.Item Forest derivation_of selector_derivation factor_derivation operand_derivation term_derivation x) in
    Full f → Puts (selection_named (t.selector_layer (map-Selector Expr Selector Factor Operand Term Expression Selection Tail Operands Tail syntax_of selector_syntax factor_syntax operand_syntax term_syntax x))) (leaves f)

selector_step : (y : Selector-F ExprPair SelectorPair FactorPair OperandPair TermPair)
    → SelectorLayer (map-Selector ExprPair SelectorPair FactorPair OperandPair TermPair Expr Selector Factor Operand Term first_expr first_selector first_factor first_operand first_term y)
selector_step (Selector-F.Dot i x v) full = keep (keep (actuals v.items full))
selector_step (Selector-F.Qua i x) full = keep (keep none)

selector_layer : (x : Selector-F Expr Selector Factor Operand Term) → SelectorLayer x → SelectorClaim (roll-Selector x)
unfolding syntax_of operand_syntax term_syntax factor_syntax selector_syntax
selector_layer x h =
    let f = sym (fold-roll-Selector Derivation Forest Forest d.Item Forest d.expr_layer d.selector_layer d.factor_layer d.operand_layer d.term_layer x) in
    let e = sym (fold-roll-Selector Expression Selection Tail Operands Tail t.expr_layer t.selector_layer t.factor_layer t.operand_layer t.term_layer x) in
    subst (λ z. Full z → Puts (selection_named (selector_syntax (roll-Selector x))) (leaves z)) f
    (subst
    (λ z.
    let f = d.selector_layer (map-Selector Expr Selector Factor Operand Term Derivation Forest Forest d.Item Forest derivation_of selector_derivation factor_derivation operand_derivation term_derivation x) in
    Full f → Puts (selection_named z) (leaves f))
    e h)

operand_layer : (x : Operand-F Expr Selector Factor Operand Term) → ExprClaim x.operand → OperandClaim (roll-Operand x)
unfolding syntax_of operand_syntax term_syntax factor_syntax selector_syntax
operand_layer x h =
    let f = sym (fold-roll-Operand Derivation Forest Forest d.Item Forest d.expr_layer d.selector_layer d.factor_layer d.operand_layer d.term_layer x) in
    let e = fold-roll-Operand Expression Selection Tail Operands Tail t.expr_layer t.selector_layer t.factor_layer t.operand_layer t.term_layer x in
    record {
      operand = syntax_of x.operand;
      claim = subst (λ (z : d.Item). Claim z.operand (syntax_of x.operand)) f h;
      is = λ op. ap (λ z. z op) e ∙ ap (λ (z : d.Item). let y : Tail = record { operator = op; token = z.token; operand = syntax_of x.operand } in y) f;
    }

step_along : {f h : Forest} {x y : Tail} → f ≡ h → x ≡ y → StepClaim h y → StepClaim f x
step_along {f} {h} {x} {y} e i c = subst (λ z. StepClaim z x) (sym e) (subst (λ z. StepClaim h z) (sym i) c)

term_layer : (x : Term-F Expr Selector Factor Operand Term) → ExprClaim x.term → TermClaim (roll-Term x)
unfolding syntax_of operand_syntax term_syntax factor_syntax selector_syntax
term_layer x h =
    step_along (fold-roll-Term Derivation Forest Forest d.Item Forest d.expr_layer d.selector_layer d.factor_layer d.operand_layer d.term_layer x)
    (fold-roll-Term Expression Selection Tail Operands Tail t.expr_layer t.selector_layer t.factor_layer t.operand_layer t.term_layer x) (λ full. keep (leveled 3 (omega arith) h full.0 full.1))

factor_layer : (x : Factor-F Expr Selector Factor Operand Term) → ExprClaim x.factor → FactorClaim (roll-Factor x)
unfolding syntax_of operand_syntax term_syntax factor_syntax selector_syntax
factor_layer x h =
    step_along (fold-roll-Factor Derivation Forest Forest d.Item Forest d.expr_layer d.selector_layer d.factor_layer d.operand_layer d.term_layer x)
    (fold-roll-Factor Expression Selection Tail Operands Tail t.expr_layer t.selector_layer t.factor_layer t.operand_layer t.term_layer x) (λ full. keep (leveled 2 (omega arith) h full.0 full.1))

pub name_expr : (e : Expr) → ExprClaim e
name_expr =
    ind-Expr ExprClaim SelectorClaim FactorClaim OperandClaim TermClaim (λ x y is. layer x (subst LayerClaim is (expr_step y))) (λ x y is. selector_layer x (subst SelectorLayer is (selector_step y)))
    (λ x y is. subst (λ z. FactorClaim (roll-Factor z)) is (factor_layer (map-Factor ExprPair SelectorPair FactorPair OperandPair TermPair Expr Selector Factor Operand Term first_expr first_selector first_factor first_operand first_term y) y.factor.1))
    (λ x y is. subst (λ z. OperandClaim (roll-Operand z)) is (operand_layer (map-Operand ExprPair SelectorPair FactorPair OperandPair TermPair Expr Selector Factor Operand Term first_expr first_selector first_factor first_operand first_term y) y.operand.1))
    (λ x y is. subst (λ z. TermClaim (roll-Term z)) is (term_layer (map-Term ExprPair SelectorPair FactorPair OperandPair TermPair Expr Selector Factor Operand Term first_expr first_selector first_factor first_operand first_term y) y.term.1))

pub each_expr : (xs : List Expr) → Each (map derivation_of xs) (map syntax_of xs)
each_expr [] = tt
each_expr (x ∷ xs) = (name_expr x, each_expr xs)
