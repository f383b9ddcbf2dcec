-- Statements, blocks and declarations of two derivations of one shape.
use Rattle.std.proofs.Common.{◌≡◌, ℕ, List, [], ◌∷◌, ◌++◌, refl, sym, ap, ◌∙◌, append-nil, append_assoc, map}
use Rattle.sim_base.specs.Lexeme.{bare, bytes_of}
use Rattle.sim_base.specs.declared.token.Lexeme.{Lexeme}
use Rattle.sim_base.specs.declared.token.TokenKind.{TokenKind}
use Rattle.sim_base.specs.declared.token.TokenKind.TheVariants as k
use Rattle.sim_tree.specs.declared.expr.Identifier.{Identifier}
use Rattle.sim_tree.specs.declared.stmt.Activation.TheVariants as activation
use Rattle.sim_tree.specs.declared.stmt.Assignment.TheVariants as assignment
use Rattle.sim_tree.specs.Grammar as g
use Rattle.sim_tree.specs.Grammar.{Any, Here, Kept, Many, Mark, Maybe, Of, Once, Part, Symbol, rows}
use Rattle.sim_tree.specs.ProgramDerivation.{assignment_kind}
use Rattle.sim_tree.specs.Syntax as s
use Rattle.sim_tree.specs.Syntax.{Declaration, Element, Expression, Expressions, Heading, Interface, Program, Prefix, Protected, RightSide, Statement, Statements, Virtual}
use Rattle.sim_tree.specs.SyntaxOfProgram.{Arm, arms}
use Rattle.sim_print.specs.Spelling.{each}
use Rattle.sim_print.specs.Tokens as token
use Rattle.sim_print.specs.Tokens.{behind_comma, name, one}
use Rattle.sim_print.specs.Unnumbered as u
use Rattle.sim_tree.proofs.ReadBack as r
use Rattle.sim_tree.proofs.ReadBack.{Contents, Item, item_of}
use Rattle.print_reads.proofs.Carried.{Carried, Lists, actuals, after_operand, also, ap2, ap3, arm, begun, behind, body, lead, doing, element, first, for_part, here, here_at, here_else, kept, last, later, led, mark, next_element, no_more, none, only, part, side, sort, statement, step, tail, then, timed, unless, value, whens}
use Rattle.print_reads.proofs.CarriedExpressions.{Gives}

-- ---- parts of statements

pub assigned : Gives g.Assigned
assigned _ _ _ _ here_at (kept i j first (part (value e h) none)) =
    side (lead (bare k.Assign) (last e)) (ap (λ z. let x : RightSide = record { sign = assignment.Value; token = 0; value = z } in x) h)
assigned _ _ _ _ here_at (kept i j (later only) (part (value e h) none)) =
    side (lead (bare k.AssignReference) (last e)) (ap (λ z. let x : RightSide = record { sign = assignment.Reference; token = 0; value = z } in x) h)

pub for_element_tail : Gives g.ForElementTail
for_element_tail _ _ _ _ here_at (kept i j only (part (value e h) (mark (part (value e' h') none)))) =
    tail (λ x. ap (λ z. token.expression x ++ z) (lead (bare k.Step) (then e (lead (bare k.Until) (last e'))))) (λ a b same. ap3 (λ x y z. s.Step x 0 y z) same h h')
for_element_tail _ _ _ _ (behind here_at) (kept i j only (part (value e h) none)) =
    tail (λ x. ap (λ z. token.expression x ++ z) (lead (bare k.While) (last e))) (λ a b same. ap2 (λ x y. s.While x 0 y) same h)

pub reference_element_tail : Gives g.ReferenceElementTail
reference_element_tail _ _ _ _ here_at (kept i j only (part (value e h) none)) =
    tail (λ x. ap (λ z. token.expression x ++ z) (lead (bare k.While) (last e))) (λ a b same. ap2 (λ x y. s.While x 0 y) same h)

pub for_element : Gives g.ForElement
for_element _ _ _ _ here_else (part {ls = ls} (value {a = a} {b = b} e h) (part {front = x} (tail f i) none)) =
    element (f a ∙ then e (last refl)) (i a b h)
for_element _ _ _ _ here_else (part (value e h) (unless none)) = element (last e) (ap s.Once h)

pub reference_element : Gives g.ReferenceElement
reference_element _ _ _ _ here_else (part (value {a = a} {b = b} e h) (part (tail f i) none)) = element (f a ∙ then e (last refl)) (i a b h)
reference_element _ _ _ _ here_else (part (value e h) (unless none)) = element (last e) (ap s.Once h)

pub next_for_element : Gives g.NextForElement
next_for_element _ _ _ _ here_at (mark (part (element e h) none)) = next_element (lead (bare k.Comma) (last e)) h

pub next_reference_element : Gives g.NextReferenceElement
next_reference_element _ _ _ _ here_at (mark (part (element e h) none)) = next_element (lead (bare k.Comma) (last e)) h

abbrev BothElements : List Item → List Item → List Lexeme → Type 0
BothElements l m ls = (each (behind_comma token.element) (r.elements l) ≡ ls) × (map u.element (r.elements l) ≡ map u.element (r.elements m))

more_for_elements : {l m : List Item} {ls : List Lexeme} → Lists (Of Many g.NextForElement ∷ []) l m ls → BothElements l m ls
more_for_elements (part (next_element e h) q) = let more = more_for_elements q in (then e more.0, ap2 (λ x xs. x ∷ xs) h more.1)
more_for_elements (no_more none) = (refl, refl)

more_reference_elements : {l m : List Item} {ls : List Lexeme} → Lists (Of Many g.NextReferenceElement ∷ []) l m ls → BothElements l m ls
more_reference_elements (part (next_element e h) q) = let more = more_reference_elements q in (then e more.0, ap2 (λ x xs. x ∷ xs) h more.1)
more_reference_elements (no_more none) = (refl, refl)

pub for_list : Gives g.ForList
for_list _ _ _ _ here_at (kept i j only (part (element e h) q)) =
    let more = more_for_elements q in for_part (lead (bare k.Assign) (then e more.0)) (ap2 (λ x xs. x ∷ xs) h more.1)
for_list _ _ _ _ (behind here_at) (kept i j only (part (element e h) q)) =
    let more = more_reference_elements q in for_part (lead (bare k.AssignReference) (then e more.0)) (ap2 (λ x xs. x ∷ xs) h more.1)

pub prior_mark : Gives g.PriorMark
prior_mark _ _ _ _ here_at (kept i j only none) = also refl

prior : {l m : List Item} {ls : List Lexeme} → Lists (Of Maybe g.PriorMark ∷ []) l m ls
    → (token.mark_tokens k.Prior (r.prior_in l) ≡ ls) × (u.mark (r.prior_in l) ≡ u.mark (r.prior_in m))
prior (part (also e) none) = (last e, refl)
prior (unless none) = (refl, refl)

pub timing : Gives g.Timing
timing _ _ _ _ here_at (kept i j first (part (value e h) q)) = let more = prior q in timed (lead (bare k.At) (then e more.0)) (ap2 (λ x y. s.At 0 x y) h more.1)
timing _ _ _ _ here_at (kept i j (later only) (part (value e h) q)) = let more = prior q in timed (lead (bare k.Delay) (then e more.0)) (ap2 (λ x y. s.Delay 0 x y) h more.1)
timing _ _ _ _ (behind here_at) (kept i j first (part (value e h) none)) = timed (lead (bare k.Before) (last e)) (ap (λ x. s.Before 0 x) h)
timing _ _ _ _ (behind here_at) (kept i j (later only) (part (value e h) none)) = timed (lead (bare k.After) (last e)) (ap (λ x. s.After 0 x) h)

-- ---- statements

pub next_statement : Gives g.NextStatement
next_statement _ _ _ _ here_at (mark (part (statement e h) none)) = led (lead (bare k.Semicolon) (last e)) h

pub else_branch : Gives g.ElseBranch
else_branch _ _ _ _ here_at (mark (part (statement e h) none)) = led (lead (bare k.Else) (last e)) h

pub otherwise_branch : Gives g.OtherwiseBranch
otherwise_branch _ _ _ _ here_at (mark (part (statement e h) none)) = led (lead (bare k.Otherwise) (last e)) h

abbrev BothBranches : TokenKind → List Item → List Item → List Lexeme → Type 0
BothBranches x l m ls = (token.branch x (r.branch_in l) ≡ ls) × (u.statements (r.branch_in l) ≡ u.statements (r.branch_in m))

branch_written : (x : TokenKind) (a : Statement) {ls : List Lexeme} → one x ++ token.statement a ≡ ls → token.branch x (s.Also a s.NoStatement) ≡ ls ++ []
branch_written x a e = ap (λ z. bare x ∷ z) (append-nil (token.statement a)) ∙ last e

else_given : {l m : List Item} {ls : List Lexeme} → Lists (Of Maybe g.ElseBranch ∷ []) l m ls → BothBranches k.Else l m ls
else_given (part (led {a = a} e h) none) = (branch_written k.Else a e, ap (λ x. s.Also x s.NoStatement) h)
else_given (unless none) = (refl, refl)

otherwise_given : {l m : List Item} {ls : List Lexeme} → Lists (Of Maybe g.OtherwiseBranch ∷ []) l m ls → BothBranches k.Otherwise l m ls
otherwise_given (part (led {a = a} e h) none) = (branch_written k.Otherwise a e, ap (λ x. s.Also x s.NoStatement) h)
otherwise_given (unless none) = (refl, refl)

-- right sides behind a left side
pub record Sides (l m : List Item) (ls : List Lexeme) : Type 0 where
  pub tokens : each token.right_side (r.sides l) ≡ ls
  pub same : map u.right_side (r.sides l) ≡ map u.right_side (r.sides m)

sides : {l m : List Item} {ls : List Lexeme} → Lists (Of Many g.Assigned ∷ []) l m ls → Sides l m ls
sides (part (side e h) q) = let more = sides q in record { tokens = then e more.tokens; same = ap2 (λ x xs. x ∷ xs) h more.same }
sides (no_more none) = record { tokens = refl; same = refl }

-- a call, or an assignment
assigned_written : (e : Expression) (xs : List RightSide) → token.statement (r.assigned e xs) ≡ token.expression e ++ each token.right_side xs
assigned_written e [] = sym (append-nil (token.expression e))
assigned_written e (x ∷ xs) = refl

abbrev statement_like : Expression → List RightSide → Statement
statement_like e [] = s.Call e
statement_like e (x ∷ xs) = s.Assign e (x ∷ xs)

assigned_unnumbered : (e : Expression) (xs : List RightSide) → u.statement (r.assigned e xs) ≡ statement_like (u.expression e) (map u.right_side xs)
assigned_unnumbered e [] = refl
assigned_unnumbered e (x ∷ xs) = refl

assigned_same : (a b : Expression) (xs ys : List RightSide) → u.expression a ≡ u.expression b → map u.right_side xs ≡ map u.right_side ys → u.statement (r.assigned a xs) ≡ u.statement (r.assigned b ys)
assigned_same a b xs ys h i = assigned_unnumbered a xs ∙ ap2 statement_like h i ∙ sym (assigned_unnumbered b ys)

-- what is taken of an operand, and then right sides
pub record Selected (a b : Expression) (l m : List Item) (ls : List Lexeme) : Type 0 where
  pub tokens : token.expression (r.steps a l) ++ each token.right_side (r.sides l) ≡ token.expression a ++ ls
  pub same : u.expression (r.steps a l) ≡ u.expression (r.steps b m)
  pub sides : map u.right_side (r.sides l) ≡ map u.right_side (r.sides m)

no_steps : {l m : List Item} {ls : List Lexeme} → Lists (Of Many g.Assigned ∷ []) l m ls → (a b : Expression) → (r.steps a l ≡ a) × (r.steps b m ≡ b)
no_steps (part (side e h) q) a b = no_steps q a b
no_steps (no_more none) a b = (refl, refl)

selected : {l m : List Item} {ls : List Lexeme} → Lists (Of Many g.Selection ∷ Of Many g.Assigned ∷ []) l m ls → (a b : Expression) → u.expression a ≡ u.expression b → Selected a b l m ls
selected (part {l = l} {front = x} {ls = ls} (step {f = f} {h = f'} e i) q) a b h =
    let more = selected q (f a) (f' b) (i a b h) in
    record { tokens = more.tokens ∙ ap (λ z. z ++ ls) (e a) ∙ append_assoc (token.expression a) x ls; same = more.same; sides = more.sides }
selected (no_more {l = l} {m = m} q) a b h =
    let alone = no_steps q a b in
    let all = sides q in
    record { tokens = then (ap token.expression alone.0) all.tokens; same = ap u.expression alone.0 ∙ h ∙ sym (ap u.expression alone.1); sides = all.same }

named_written : (x : Identifier) (es : Expressions) (ls : List Lexeme) → token.expression (s.Named x es) ++ ls ≡ name x ++ (token.actuals es ++ ls)
named_written x es ls = refl

-- an operand that an identifier begins, and what stands behind it
after_named : {l m : List Item} {ls : List Lexeme} → Lists (Of Many g.Selection ∷ Of Many g.Assigned ∷ []) l m ls
    → Carried (sort g.AfterFirstOperand) (item_of g.AfterFirstOperand l) (item_of g.AfterFirstOperand m) ls
after_named (part {a = a} {b = b} {l = l} {m = m} {front = x} {ls = ls} (step e i) q) =
    let all = part {t = Many} {n = g.Selection} {x = Of Many g.Assigned ∷ []} (step e i) q in
    after_operand
    (λ x es. let it = selected all (s.Named x es) (s.Named x es) refl in assigned_written (r.steps (s.Named x es) (a ∷ l)) (r.sides (a ∷ l)) ∙ it.tokens)
    (λ x y es ds same args.
    let it = selected all (s.Named x es) (s.Named y ds) (ap2 s.Named same args) in
    assigned_same (r.steps (s.Named x es) (a ∷ l)) (r.steps (s.Named y ds) (b ∷ m)) (r.sides (a ∷ l)) (r.sides (b ∷ m)) it.same it.sides)
after_named (no_more (part {a = a} {b = b} {l = l} {m = m} (side {a = v} {b = w} e i) q)) =
    let all = no_more {n = g.Selection} (part {t = Many} {n = g.Assigned} {x = []} (side {a = v} {b = w} e i) q) in
    after_operand
    (λ x es. let it = selected all (s.Named x es) (s.Named x es) refl in assigned_written (r.steps (s.Named x es) (a ∷ l)) (r.sides (a ∷ l)) ∙ it.tokens)
    (λ x y es ds same args.
    let it = selected all (s.Named x es) (s.Named y ds) (ap2 s.Named same args) in
    assigned_same (r.steps (s.Named x es) (a ∷ l)) (r.steps (s.Named y ds) (b ∷ m)) (r.sides (a ∷ l)) (r.sides (b ∷ m)) it.same it.sides)
after_named (no_more (no_more none)) =
    after_operand (λ x es. ap (λ z. name x ++ z) (sym (append-nil (token.actuals es)))) (λ x y es ds same args. ap s.Call (ap2 s.Named same args))

pub after_first_operand : Gives g.AfterFirstOperand
after_first_operand _ _ _ _ here_at (part (body e h) none) =
    after_operand (λ x es. ap (λ z. name x ++ (token.actuals es ++ z)) (last e)) (λ x y es ds same args. ap3 s.Prefixed same args h)
after_first_operand _ _ _ _ (behind here_else) q = after_named q

-- behind an identifier: actual parameters, and what stands behind them
pub record Operand (l m : List Item) (ls : List Lexeme) : Type 0 where
  pub tokens : (x : Identifier) → token.statement (r.of_name l x) ≡ name x ++ ls
  pub same : (x y : Identifier) → u.identifier x ≡ u.identifier y → u.statement (r.of_name l x) ≡ u.statement (r.of_name m y)

operand : {l m : List Item} {ls : List Lexeme} → Lists (Of Maybe g.Arguments ∷ Of Once g.AfterFirstOperand ∷ []) l m ls → Operand l m ls
operand (part (actuals {a = a} {b = b} e h) (part (after_operand f i) none)) = record {
  tokens = λ x. f x a ∙ ap (λ z. name x ++ z) (then e (last refl));
  same = λ x y same. i x y a b same h;
}
operand (unless (part (after_operand f i) none)) = record {
  tokens = λ x. f x s.NoMore ∙ ap (λ z. name x ++ z) (last refl);
  same = λ x y same. i x y s.NoMore s.NoMore same refl;
}

pub statement_of_identifier : Gives g.StatementOfIdentifier
statement_of_identifier _ _ _ _ here_else q = let all = operand q in begun all.tokens all.same

pub when_arm : Gives g.WhenArm
when_arm _ _ _ _ here_at (kept i j only (kept i' j' {held = held} only (kept i'' j'' only (part (statement e h) (here m n none))))) =
    arm (ap (λ z. one k.When ++ (name (r.named_by i' (bytes_of held)) ++ (one k.Do ++ z))) (last e)) refl h

more_arms : {l m : List Item} {ls : List Lexeme} → Lists (Of Many g.WhenArm ∷ []) l m ls
    → (token.arms (arms (r.each_arm l)) ≡ ls) × (u.arms (arms (r.each_arm l)) ≡ u.arms (arms (r.each_arm m)))
more_arms (part {ls = ls} (arm {a = a} e h i) q) = let more = more_arms q in (arm_written a more.0 ∙ ap (λ z. z ++ ls) e, ap3 (λ x y z. s.When 0 x 0 y 0 z) h i more.1)
  where
    arm_written : (a : Arm) {xs ys : List Lexeme} → xs ≡ ys
        → one k.When ++ (name a.class ++ (one k.Do ++ (token.statement a.body ++ xs))) ≡ (one k.When ++ (name a.class ++ (one k.Do ++ token.statement a.body))) ++ ys
    arm_written a same = ap (λ z. one k.When ++ (name a.class ++ (one k.Do ++ (token.statement a.body ++ z)))) same
more_arms (no_more none) = (refl, refl)

pub arms_part : Gives g.Arms
arms_part _ _ _ _ here_at (kept i j only (part (statement e h) (here m n none))) = doing (lead (bare k.Do) (last e)) h
arms_part _ _ _ _ (behind here_at) (part (arm {a = v} {b = w} e h i) q) =
    let more = more_arms (part {t = Many} {n = g.WhenArm} {x = []} (arm {a = v} {b = w} e h i) q) in whens more.0 more.1

inspected : (e d : Expression) (i j : ℕ) {l m : List Item} {front ls : List Lexeme} → token.expression e ≡ front → u.expression e ≡ u.expression d
    → Lists (Of Once g.Arms ∷ Of Maybe g.OtherwiseBranch ∷ []) l m ls
    → Carried (sort g.Statement) (r.Stmt (r.inspecting i e l)) (r.Stmt (r.inspecting j d m)) (bare k.Inspect ∷ (front ++ ls))
inspected x y i j e h (part (doing e' h') q) =
    let more = otherwise_given q in
    statement (lead (bare k.Inspect) (then e (then e' more.0))) (ap3 (λ x y z. s.Inspect 0 x 0 y 0 z) h h' more.1)
inspected x y i j e h (part (whens e' h') q) =
    let more = otherwise_given q in
    statement (lead (bare k.Inspect) (then e (then e' more.0))) (ap3 (λ x y z. s.InspectWhen 0 x y z) h h' more.1)

times : {l m : List Item} {ls : List Lexeme} → Lists (Of Maybe g.Timing ∷ []) l m ls
    → (token.schedule (r.timed_in l) ≡ ls) × (u.schedule (r.timed_in l) ≡ u.schedule (r.timed_in m))
times (part (timed e h) none) = (last e, h)
times (unless none) = (refl, refl)

pub statement_part : Gives g.Statement
statement_part _ _ _ _ here_at (part (body e h) none) = statement (last e) (ap s.Compound h)
statement_part _ _ _ _ (behind here_at) (kept i j {held = held} only q) =
    let all = operand q in statement (all.tokens (r.named_by i (bytes_of held))) (all.same (r.named_by i (bytes_of held)) (r.named_by j (bytes_of held)) refl)
statement_part _ _ _ _ (behind (behind here_at)) (kept i j only none) = statement refl refl
statement_part _ _ _ _ (behind (behind (behind here_at))) (part {l = l} {m = m} (value {a = a} {b = b} e h) q) =
    let all = sides q in
    statement (assigned_written a (r.sides l) ∙ then e all.tokens) (assigned_same a b (r.sides l) (r.sides m) h all.same)
statement_part _ _ _ _ (behind (behind (behind (behind here_at)))) (kept i j only (part (value e h) (mark (part (statement e' h') q)))) =
    let more = else_given q in
    statement (lead (bare k.If) (then e (lead (bare k.Then) (then e' more.0)))) (ap3 (λ x y z. s.Choose 0 x y z) h h' more.1)
statement_part _ _ _ _ (behind (behind (behind (behind (behind here_at))))) (kept i j only (part (value e h) (mark (part (statement e' h') none)))) =
    statement (lead (bare k.While) (then e (lead (bare k.Do) (last e')))) (ap2 (λ x y. s.Repeat 0 x y) h h')
statement_part _ _ _ _ (behind (behind (behind (behind (behind (behind here_at)))))) (kept i j only (kept i' j' {held = held} only (part {front = x} (for_part {x = way} {a = xs} e h) (mark (part {front = y} (statement {a = a} e' h') none))))) =
    let variable = r.named_by i' (bytes_of held) in
    statement
    (ap (λ z. one k.For ++ (name variable ++ z)) (sym (append_assoc (one (assignment_kind way)) (token.listed token.element xs) (one k.Do ++ token.statement a)) ∙ then e (lead (bare k.Do) (last e'))))
    (ap2 (λ xs z. s.For 0 (u.identifier variable) way 0 xs z) h h')
statement_part _ _ _ _ (behind (behind (behind (behind (behind (behind (behind here_at))))))) (kept i j only (part (value {a = a} {b = b} e h) q)) = inspected a b i j e h q
statement_part _ _ _ _ (behind (behind (behind (behind (behind (behind (behind (behind here_at)))))))) (kept i j first (part (value e h) q)) =
    let more = times q in statement (lead (bare k.Activate) (then e more.0)) (ap2 (λ x y. s.Activate 0 activation.Activate x y) h more.1)
statement_part _ _ _ _ (behind (behind (behind (behind (behind (behind (behind (behind here_at)))))))) (kept i j (later only) (part (value e h) q)) =
    let more = times q in statement (lead (bare k.Reactivate) (then e more.0)) (ap2 (λ x y. s.Activate 0 activation.Reactivate x y) h more.1)
statement_part _ _ _ _ (behind (behind (behind (behind (behind (behind (behind (behind (behind here_else))))))))) (here i j none) = statement refl refl
