-- Expressions of two derivations of one shape.
use Rattle.std.proofs.Common.{◌≡◌, ℕ, List, [], ◌∷◌, ◌++◌, refl, sym, ap, ◌∙◌, append-nil, append_assoc}
use Rattle.sim_base.specs.Lexeme.{bare, bytes_of}
use Rattle.sim_base.specs.declared.token.Lexeme.{Lexeme}
use Rattle.sim_base.specs.declared.token.TokenKind.TheVariants as k
use Rattle.sim_tree.specs.declared.expr.Membership.TheVariants as membership
use Rattle.sim_tree.specs.declared.expr.Multiplication.TheVariants as multiplication
use Rattle.sim_tree.specs.declared.expr.Relation.TheVariants as relation
use Rattle.sim_tree.specs.declared.expr.Sign.TheVariants as sign
use Rattle.sim_tree.specs.declared.operator.Operator.{Operator}
use Rattle.sim_tree.specs.declared.operator.Operator.TheVariants as o
use Rattle.sim_tree.specs.Grammar as g
use Rattle.sim_tree.specs.Grammar.{Kept, Many, Mark, Maybe, Of, Once, Part, Symbol, rows}
use Rattle.sim_tree.specs.Syntax as s
use Rattle.sim_tree.specs.Syntax.{Expression, Expressions}
use Rattle.sim_print.specs.Tokens as token
use Rattle.sim_print.specs.Tokens.{name, one, operator_kind}
use Rattle.sim_print.specs.Unnumbered as u
use Rattle.sim_tree.proofs.ReadBack as r
use Rattle.sim_tree.proofs.ReadBack.{Item, item_of}
use Rattle.print_reads.proofs.Carried.{Carried, Each, InRows, IsStep, IsValue, Lists, actuals, ap2, ap3, behind, lead, each_more, each_none, first, front, here_at, here_else, kept, last, later, many, mark, next_value, none, only, part, perhaps, sort, unless, no_more, step, then, value}

-- What a part gives, in both derivations.
abbrev pub Gives : Part → Type 0
Gives n = (right : List Symbol) (l m : List Item) (ls : List Lexeme) → InRows (rows n) right → Lists right l m ls → Carried (sort n) (item_of n l) (item_of n m) ls

-- an expression is written so, and differs in numbers alone
abbrev pub Both : Expression → Expression → List Lexeme → Type 0
Both a b ls = (token.expression a ≡ ls) × (u.expression a ≡ u.expression b)

-- ---- levels of operators

pub stepped : {l m : List Item} {ls : List Lexeme} → Each IsStep l m ls → (a b : Expression) → u.expression a ≡ u.expression b
    → Both (r.steps a l) (r.steps b m) (token.expression a ++ ls)
stepped each_none a b h = (sym (append-nil (token.expression a)), h)
stepped (each_more {front = x} {ls = ls} (step {f = f} {h = f'} e i) q) a b h =
    let more = stepped q (f a) (f' b) (i a b h) in
    (more.0 ∙ ap (λ z. z ++ ls) (e a) ∙ append_assoc (token.expression a) x ls, more.1)

level : {a b : Item} {l m : List Item} {front ls : List Lexeme} → Carried IsValue a b front → Each IsStep l m ls
    → Carried IsValue (r.Value (r.value (a ∷ l))) (r.Value (r.value (b ∷ m))) (front ++ ls)
level {ls = ls} (value {a = a} {b = b} e h) q =
    let more = stepped q a b h in value (more.0 ∙ ap (λ z. z ++ ls) e) more.1

operated : (x : Operator) {i j : ℕ} {a b : Expression} {l : List Lexeme} → token.expression a ≡ l → u.expression a ≡ u.expression b
    → Carried IsStep (r.Step (λ e. s.Binary x i e a)) (r.Step (λ e. s.Binary x j e b)) (bare (operator_kind x) ∷ (l ++ []))
operated x e h = step (λ z. ap (λ w. token.expression z ++ w) (lead (bare (operator_kind x)) (last e))) (λ a b same. ap2 (λ v w. s.Binary x 0 v w) same h)

pub or_else : Gives g.NextOrElse
or_else _ _ _ _ here_at (kept i j only (part (value e h) none)) = operated o.OrElse e h

pub simple : Gives g.SimpleExpression
simple _ _ _ _ here_else (part v q) = level v (many q)

pub and_then : Gives g.NextAndThen
and_then _ _ _ _ here_at (kept i j only (part (value e h) none)) = operated o.AndThen e h

pub and_thens : Gives g.AndThen
and_thens _ _ _ _ here_else (part v q) = level v (many q)

pub equivalent : Gives g.NextEquivalence
equivalent _ _ _ _ here_at (kept i j only (part (value e h) none)) = operated o.Equivalent e h

pub equivalence : Gives g.Equivalence
equivalence _ _ _ _ here_else (part v q) = level v (many q)

pub implies : Gives g.NextImplication
implies _ _ _ _ here_at (kept i j only (part (value e h) none)) = operated o.Implies e h

pub implication : Gives g.Implication
implication _ _ _ _ here_else (part v q) = level v (many q)

pub or : Gives g.NextOr
or _ _ _ _ here_at (kept i j only (part (value e h) none)) = operated o.Or e h

pub disjunction : Gives g.Disjunction
disjunction _ _ _ _ here_else (part v q) = level v (many q)

pub and : Gives g.NextAnd
and _ _ _ _ here_at (kept i j only (part (value e h) none)) = operated o.And e h

pub conjunction : Gives g.Conjunction
conjunction _ _ _ _ here_else (part v q) = level v (many q)

pub concatenate : Gives g.NextConcatenated
concatenate _ _ _ _ here_at (kept i j only (part (value e h) none)) = operated o.Concatenate e h

pub concatenation : Gives g.Concatenation
concatenation _ _ _ _ here_else (part v q) = level v (many q)

pub next_term : Gives g.NextTerm
next_term _ _ _ _ here_at (kept i j first (part (value e h) none)) = operated (o.Add sign.Plus) e h
next_term _ _ _ _ here_at (kept i j (later only) (part (value e h) none)) = operated (o.Add sign.Minus) e h

pub next_factor : Gives g.NextFactor
next_factor _ _ _ _ here_at (kept i j first (part (value e h) none)) = operated (o.Multiply multiplication.Times) e h
next_factor _ _ _ _ here_at (kept i j (later only) (part (value e h) none)) = operated (o.Multiply multiplication.Divide) e h

pub term : Gives g.Term
term _ _ _ _ here_else (part v q) = level v (many q)

pub power : Gives g.NextPower
power _ _ _ _ here_at (kept i j only (part (value e h) none)) = operated o.Power e h

pub factor : Gives g.Factor
factor _ _ _ _ here_else (part v q) = level v (many q)

pub postfix : Gives g.Postfix
postfix _ _ _ _ here_else (part v q) = level v (many q)

pub relation_of : Gives g.Relation
relation_of _ _ _ _ here_else (part v q) = level v (perhaps q)

pub relation_tail : Gives g.RelationTail
relation_tail _ _ _ _ here_at (kept i j first (part (value e h) none)) = operated (o.Relate relation.Less) e h
relation_tail _ _ _ _ here_at (kept i j (later first) (part (value e h) none)) = operated (o.Relate relation.LessEqual) e h
relation_tail _ _ _ _ here_at (kept i j (later (later first)) (part (value e h) none)) = operated (o.Relate relation.Equal) e h
relation_tail _ _ _ _ here_at (kept i j (later (later (later first))) (part (value e h) none)) = operated (o.Relate relation.GreaterEqual) e h
relation_tail _ _ _ _ here_at (kept i j (later (later (later (later first)))) (part (value e h) none)) = operated (o.Relate relation.Greater) e h
relation_tail _ _ _ _ here_at (kept i j (later (later (later (later (later first))))) (part (value e h) none)) = operated (o.Relate relation.NotEqual) e h
relation_tail _ _ _ _ here_at (kept i j (later (later (later (later (later (later first)))))) (part (value e h) none)) = operated (o.Relate relation.SameReference) e h
relation_tail _ _ _ _ here_at (kept i j (later (later (later (later (later (later (later only))))))) (part (value e h) none)) = operated (o.Relate relation.OtherReference) e h
relation_tail _ _ _ _ (behind here_at) (kept i j first (kept i' j' {held = held} only none)) =
    step (λ e. refl) (λ a b same. ap (λ z. s.Member membership.Is 0 z (u.identifier (r.named_by i' (bytes_of held)))) same)
relation_tail _ _ _ _ (behind here_at) (kept i j (later only) (kept i' j' {held = held} only none)) =
    step (λ e. refl) (λ a b same. ap (λ z. s.Member membership.In 0 z (u.identifier (r.named_by i' (bytes_of held)))) same)

-- ---- signs in front

fronted : {l m : List Item} {ls : List Lexeme} → Lists (Of Many g.NotSign ∷ Of Once g.Relation ∷ []) l m ls → (f h : Expression → Expression) (xs : List Lexeme)
    → ((e : Expression) → token.expression (f e) ≡ xs ++ token.expression e) → ((a b : Expression) → u.expression a ≡ u.expression b → u.expression (f a) ≡ u.expression (h b))
    → Both (r.begin f l) (r.begin h m) (xs ++ ls)
fronted (part {front = x} {ls = ls} (front {f = f'} {h = h'} e i) q) f h xs e' i' =
    let more = fronted q (λ z. f (f' z)) (λ z. h (h' z)) (xs ++ x) (λ z. e' (f' z) ∙ ap (λ w. xs ++ w) (e z) ∙ sym (append_assoc xs x (token.expression z))) (λ a b same. i' (f' a) (h' b) (i a b same)) in
    (more.0 ∙ append_assoc xs x ls, more.1)
fronted (no_more (part (value {a = a} {b = b} e i) none)) f h xs e' i' = (e' a ∙ ap (λ z. xs ++ z) (last e), i' a b i)

pub not_sign : Gives g.NotSign
not_sign _ _ _ _ here_at (kept i j only none) = front (λ e. refl) (λ a b same. ap (λ z. s.Not 0 z) same)

pub negation : Gives g.Negation
negation _ _ _ _ here_else q = let all = fronted q (λ e. e) (λ e. e) [] (λ e. refl) (λ a b same. same) in value all.0 all.1

pub leading_sign : Gives g.LeadingSign
leading_sign _ _ _ _ here_at (kept i j first none) = front (λ e. refl) (λ a b same. ap (λ z. s.Signed sign.Plus 0 z) same)
leading_sign _ _ _ _ here_at (kept i j (later only) none) = front (λ e. refl) (λ a b same. ap (λ z. s.Signed sign.Minus 0 z) same)

pub sum : Gives g.Sum
sum _ _ _ _ here_else (part {front = x} (front {f = f} {h = f'} e i) (part {front = y} {ls = ls} (value {a = a} {b = b} e' i') q)) =
    let more = stepped (many q) (f a) (f' b) (i a b i') in
    value (more.0 ∙ ap (λ z. z ++ ls) (e a ∙ ap (λ z. x ++ z) e') ∙ append_assoc x y ls) more.1
sum _ _ _ _ here_else (unless (part v q)) = level v (many q)

-- ---- actual parameters

pub further : {l m : List Item} {ls : List Lexeme} → Lists (Of Many g.NextArgument ∷ Mark k.Close ∷ []) l m ls
    → (token.further_actuals (r.values l) ≡ ls) × (u.expressions (r.values l) ≡ u.expressions (r.values m))
further (part (next_value e h) q) = let more = further q in (then e more.0, ap2 s.Then h more.1)
further (no_more (mark none)) = (refl, refl)

pub arguments : Gives g.Arguments
arguments _ _ _ _ here_at (mark (part (value e h) q)) = let more = further q in actuals (lead (bare k.Open) (then e more.0)) (ap2 s.Then h more.1)

pub next_argument : Gives g.NextArgument
next_argument _ _ _ _ here_at (mark (part (value e h) none)) = next_value (lead (bare k.Comma) (last e)) h

abbrev pub BothActuals : List Item → List Item → List Lexeme → Type 0
BothActuals l m ls = (token.actuals (r.actuals l) ≡ ls) × (u.expressions (r.actuals l) ≡ u.expressions (r.actuals m))

pub given : {l m : List Item} {ls : List Lexeme} → Lists (Of Maybe g.Arguments ∷ []) l m ls → BothActuals l m ls
given (part (actuals e h) none) = (last e, h)
given (unless none) = (refl, refl)

pub selection : Gives g.Selection
selection _ _ _ _ here_at (kept i j only (kept i' j' {held = held} only q)) =
    let args = given q in
    step (λ e. ap (λ z. token.expression e ++ (one k.Dot ++ (name (r.named_by i' (bytes_of held)) ++ z))) args.0)
    (λ a b same. ap2 (λ x y. s.Dot 0 x (u.identifier (r.named_by 0 (bytes_of held))) y) same args.1)
selection _ _ _ _ (behind here_at) (kept i j only (kept i' j' {held = held} only none)) =
    step (λ e. refl) (λ a b same. ap (λ z. s.Qua 0 z (u.identifier (r.named_by 0 (bytes_of held)))) same)

-- ---- what stands alone

pub primary : Gives g.Primary
primary _ _ _ _ here_at (kept i j first none) = value refl refl
primary _ _ _ _ here_at (kept i j (later first) none) = value refl refl
primary _ _ _ _ here_at (kept i j (later (later first)) none) = value refl refl
primary _ _ _ _ here_at (kept i j (later (later (later first))) none) = value refl refl
primary _ _ _ _ here_at (kept i j (later (later (later (later first)))) none) = value refl refl
primary _ _ _ _ here_at (kept i j (later (later (later (later (later first))))) none) = value refl refl
primary _ _ _ _ here_at (kept i j (later (later (later (later (later (later only)))))) none) = value refl refl
primary _ _ _ _ (behind here_at) (kept i j {held = held} only q) =
    let args = given q in
    value (ap (λ z. name (r.named_by i (bytes_of held)) ++ z) args.0) (ap (λ z. s.Named (u.identifier (r.named_by 0 (bytes_of held))) z) args.1)
primary _ _ _ _ (behind (behind here_at)) (kept i j only (kept i' j' only none)) = value refl refl
primary _ _ _ _ (behind (behind (behind here_at))) (kept i j only (kept i' j' {held = held} only q)) =
    let args = given q in
    value (ap (λ z. one k.New ++ (name (r.named_by i' (bytes_of held)) ++ z)) args.0) (ap (λ z. s.New 0 (u.identifier (r.named_by 0 (bytes_of held))) z) args.1)
primary _ _ _ _ (behind (behind (behind (behind here_at)))) (kept i j only (part (value e h) (mark none))) =
    value (lead (bare k.Open) (then e refl)) (ap (λ z. s.Parentheses 0 z) h)

pub expression : Gives g.Expression
expression _ _ _ _ here_at (kept i j only (part (value e h) (mark (part (value e' h') (mark (part (value e'' h'') none)))))) =
    value (lead (bare k.If) (then e (lead (bare k.Then) (then e' (lead (bare k.Else) (last e'')))))) (ap3 (λ x y z. s.If 0 x y z) h h' h'')
expression _ _ _ _ (behind here_at) (part (value e h) none) = value (last e) h
