mod Levels
mod Selectors
use Rattle.std.proofs.Common.{◌≡◌, ◌≤◌, ◌+◌, ◌-◌, true, false, refl, sym, ap, ◌∙◌, subst, arith}
use Rattle.sim_tree.specs.Tree.{ReadsPart}
use Rattle.std.proofs.Common.{◌⊎◌, inl, inr}
use Rattle.sim_base.specs.declared.token.TokenKind.TheVariants as k
use Rattle.sim_tree.specs.Grammar as g
use Rattle.sim_tree.specs.Grammar.{is, just, one_of}
use Rattle.sim_tree.specs.Reading.{kind_at}
use Rattle.sim_tree.specs.Derivation.{derivation_of, raise, level_part, arguments}
use Rattle.sim_tree.proofs.DerivationLemmas.{derivation-If, derivation-Named, derivation-New, derivation-Parentheses}
use Rattle.sim_expr_parser.specs.Parsing.{GivesLevel}
use Rattle.sim_expr_parser.proofs.Tables.{no_expression, deep-expression, simple-begins, under-limit, open-if, open-simple, name_symbols, new_symbols, open_symbols, primary_name, primary_new, primary_open, by_test, just_is}
use Rattle.sim_expr_parser.specs.Parsing.{GivesBoxed}
use Rattle.sim_expr_parser.proofs.Climbing.{is-that, constant-level}
use Rattle.sim_expr_parser.proofs.Tokens.{took_one, not_is, made_is}
use Rattle.sim_expr_parser.proofs.Steps.{kept-stops, opened, to, stops, level-made, level-up, once, marked, kept, once-stops, mark-stops, exit, passed}
use Rattle.sim_expr_parser.proofs.parser.+parser.Goals as goal
use Rattle.sim_expr_parser.proofs.parser.+parser.Goals.{expression-else-ne-via-then-ne+else-not-begins_simple, expression-else-ne-via-else-ne}
use Rattle.sim_expr_parser.proofs.parser.+parser.Answers.Levels as levels
use Rattle.sim_expr_parser.proofs.parser.+parser.Answers.Selectors as selectors

pub expression-returns-then-not-begins_simple : goal.expression-returns-then-not-begins_simple
expression-returns-then-not-begins_simple u c =
    no_expression c.args.source.now c.args.depth c.args.at (ap (λ z. is z k.If) (sym c.kind_at-kind.ensures) ∙ not_is _ _ true c.if-ne.ensures)
    (ap (one_of g.begins_simple) (sym c.kind_at-kind.ensures) ∙ sym c.if-not-begins_simple.ensures)

pub expression-returns-then-depth-eq-LIMIT : goal.expression-returns-then-depth-eq-LIMIT
expression-returns-then-depth-eq-LIMIT u c =
    let ws = c.args.source.now in
    let i = c.args.at in
    let a = kind_at ws i in
    let begins : (is a k.If ≡ true) ⊎ (one_of g.begins_simple a ≡ true) = elim c.else-ne.branch [
      | expression-else-ne-via-then-ne+else-not-begins_simple w ↦ inr (ap (one_of g.begins_simple) (sym c.kind_at-kind.ensures) ∙ sym w.if-not-begins_simple.ensures)
      | expression-else-ne-via-else-ne w ↦ inl (ap (λ z. is z k.If) (sym c.kind_at-kind.ensures) ∙ not_is _ _ false w.if-ne.ensures)
    ] in
    deep-expression ws c.args.depth i begins (omega arith)

pub expression-returns-then-eq : goal.expression-returns-then-eq
expression-returns-then-eq u c =
    c.conditional.ensures (ap (λ z. is z k.If) (sym c.kind_at-kind.ensures) ∙ made_is _ _ true c.if-eq.ensures)

pub expression-returns : goal.expression-returns
expression-returns u c =
    let ws = c.args.source.now in
    let d = c.args.depth in
    let i = c.args.at in
    let a = kind_at ws i in
    let begins : (is a k.If ≡ true) ⊎ (one_of g.begins_simple a ≡ true) = elim c.else-ne.branch [
      | expression-else-ne-via-then-ne+else-not-begins_simple w ↦ inr (ap (one_of g.begins_simple) (sym c.kind_at-kind.ensures) ∙ sym w.if-not-begins_simple.ensures)
      | expression-else-ne-via-else-ne w ↦ inl (ap (λ z. is z k.If) (sym c.kind_at-kind.ensures) ∙ not_is _ _ false w.if-ne.ensures)
    ] in
    let other = ap (λ z. is z k.If) (sym c.kind_at-kind.ensures) ∙ made_is _ _ false c.if-eq.ensures in
    let w0 = open-simple ws d i c.requires.within other (simple-begins ws i begins other) (under-limit d c.requires.shallow c.if-depth-eq-LIMIT.false) in
    passed (GivesLevel ws (d + 1) 13 i) (GivesLevel ws d 14 i)
    (λ x h. level-up 13 x.0 h.0 (to w0 (once h.1)) refl)
    (λ e h. stops w0 e (once-stops ws (d + 1) i g.SimpleExpression e h))
    c.up_to_level.result c.up_to_level.ensures

pub conditional-returns-in_err-next : goal.conditional-returns-in_err-next
conditional-returns-in_err-next u c =
    let ws = c.args.source.now in
    let d = c.args.depth in
    let i = c.args.at in
    λ is_if.
    let w0 = open-if ws d i c.requires.within is_if c.requires.shallow in
    let e = c.in_err-next.field-0.0 in
    let r = c.from_residual in
    exit (λ r. GivesLevel ws d 14 i r) r.result e r.ensures.1
    (stops w0 e (kept-stops ws (d + 1) i (just k.If) e (just_is _ _ _ c.in_err-next.ensures.0) c.in_err-next.ensures.1))

pub conditional-returns-in_err-condition : goal.conditional-returns-in_err-condition
conditional-returns-in_err-condition u c =
    let ws = c.args.source.now in
    let d = c.args.depth in
    let i = c.args.at in
    let n = c.token_no-token.result in
    λ is_if.
    let w0 = open-if ws d i c.requires.within is_if c.requires.shallow in
    let w1 = to w0 (kept n.0 c.token_no-token.ensures (took_one ws i c.in_ok-next.next k.If refl c.in_ok-next.ensures)) in
    let e = c.in_err-condition.field-0.0 in
    let r = c.from_residual-in_err-condition in
    exit (λ r. GivesLevel ws d 14 i r) r.result e r.ensures.1
    (stops w1 e (once-stops ws (d + 1) c.in_ok-next.next g.Expression e c.in_err-condition.ensures))

pub conditional-returns-in_err-next-2 : goal.conditional-returns-in_err-next-2
conditional-returns-in_err-next-2 u c =
    let ws = c.args.source.now in
    let d = c.args.depth in
    let i = c.args.at in
    let n = c.token_no-token.result in
    λ is_if.
    let w0 = open-if ws d i c.requires.within is_if c.requires.shallow in
    let w1 = to w0 (kept n.0 c.token_no-token.ensures (took_one ws i c.in_ok-next.next k.If refl c.in_ok-next.ensures)) in
    let w2 = to w1 (once c.in_ok-condition.ensures.1) in
    let e = c.in_err-next-2.field-0.0 in
    let r = c.from_residual-in_err-next-2 in
    exit (λ r. GivesLevel ws d 14 i r) r.result e r.ensures.1
    (stops w2 e (mark-stops ws (d + 1) c.in_ok-condition.next k.Then e c.in_err-next-2.ensures))

pub conditional-returns-in_err-first : goal.conditional-returns-in_err-first
conditional-returns-in_err-first u c =
    let ws = c.args.source.now in
    let d = c.args.depth in
    let i = c.args.at in
    let n = c.token_no-token.result in
    λ is_if.
    let w0 = open-if ws d i c.requires.within is_if c.requires.shallow in
    let w1 = to w0 (kept n.0 c.token_no-token.ensures (took_one ws i c.in_ok-next.next k.If refl c.in_ok-next.ensures)) in
    let w2 = to w1 (once c.in_ok-condition.ensures.1) in
    let w3 = to w2 (marked c.in_ok-next-2.ensures) in
    let e = c.in_err-first.field-0.0 in
    let r = c.from_residual-in_err-first in
    exit (λ r. GivesLevel ws d 14 i r) r.result e r.ensures.1
    (stops w3 e (once-stops ws (d + 1) c.in_ok-next-2.next g.SimpleExpression e c.in_err-first.ensures))

pub conditional-returns-in_err-next-3 : goal.conditional-returns-in_err-next-3
conditional-returns-in_err-next-3 u c =
    let ws = c.args.source.now in
    let d = c.args.depth in
    let i = c.args.at in
    let n = c.token_no-token.result in
    λ is_if.
    let w0 = open-if ws d i c.requires.within is_if c.requires.shallow in
    let w1 = to w0 (kept n.0 c.token_no-token.ensures (took_one ws i c.in_ok-next.next k.If refl c.in_ok-next.ensures)) in
    let w2 = to w1 (once c.in_ok-condition.ensures.1) in
    let w3 = to w2 (marked c.in_ok-next-2.ensures) in
    let w4 = to w3 (once c.in_ok-first.ensures.1) in
    let e = c.in_err-next-3.field-0.0 in
    let r = c.from_residual-in_err-next-3 in
    exit (λ r. GivesLevel ws d 14 i r) r.result e r.ensures.1
    (stops w4 e (mark-stops ws (d + 1) c.in_ok-first.next k.Else e c.in_err-next-3.ensures))

pub conditional-returns-in_err-second : goal.conditional-returns-in_err-second
conditional-returns-in_err-second u c =
    let ws = c.args.source.now in
    let d = c.args.depth in
    let i = c.args.at in
    let n = c.token_no-token.result in
    λ is_if.
    let w0 = open-if ws d i c.requires.within is_if c.requires.shallow in
    let w1 = to w0 (kept n.0 c.token_no-token.ensures (took_one ws i c.in_ok-next.next k.If refl c.in_ok-next.ensures)) in
    let w2 = to w1 (once c.in_ok-condition.ensures.1) in
    let w3 = to w2 (marked c.in_ok-next-2.ensures) in
    let w4 = to w3 (once c.in_ok-first.ensures.1) in
    let w5 = to w4 (marked c.in_ok-next-3.ensures) in
    let e = c.in_err-second.field-0.0 in
    let r = c.from_residual-in_err-second in
    exit (λ r. GivesLevel ws d 14 i r) r.result e r.ensures.1
    (stops w5 e (once-stops ws (d + 1) c.in_ok-next-3.next g.Expression e c.in_err-second.ensures))

pub conditional-returns : goal.conditional-returns
conditional-returns u c =
    let ws = c.args.source.now in
    let d = c.args.depth in
    let i = c.args.at in
    let n = c.token_no-token.result in
    λ is_if.
    let w0 = open-if ws d i c.requires.within is_if c.requires.shallow in
    let w1 = to w0 (kept n.0 c.token_no-token.ensures (took_one ws i c.in_ok-next.next k.If refl c.in_ok-next.ensures)) in
    let w2 = to w1 (once c.in_ok-condition.ensures.1) in
    let w3 = to w2 (marked c.in_ok-next-2.ensures) in
    let w4 = to w3 (once c.in_ok-first.ensures.1) in
    let w5 = to w4 (marked c.in_ok-next-3.ensures) in
    let w6 = to w5 (once c.in_ok-second.ensures.1) in
    level-made 14 _ _ (derivation-If n c.in_ok-condition.condition c.in_ok-first.first c.in_ok-second.second) refl w6 refl

pub boxed-returns-in_err-inner : goal.boxed-returns-in_err-inner
boxed-returns-in_err-inner u c =
    let ws = c.args.source.now in
    let d = c.args.depth in
    let i = c.args.at in
    let e = c.in_err-inner.field-0.0 in
    let r = c.from_residual in
    exit (λ r. GivesBoxed ws d (14) i r) r.result e r.ensures.1 c.in_err-inner.ensures

pub boxed-returns : goal.boxed-returns
boxed-returns u c =
    let ws = c.args.source.now in
    let d = c.args.depth in
    let i = c.args.at in
    let p = c.in_ok-inner.ensures in
    let same = sym c.in_ok-new.ensures.ok in
    subst (λ x. ((derivation_of x).level ≤ (14)) × ReadsPart ws d (level_part (14)) i (raise (14) (derivation_of x)) c.in_ok-inner.end) same p

pub boxed_up_to_level-returns-in_err-inner : goal.boxed_up_to_level-returns-in_err-inner
boxed_up_to_level-returns-in_err-inner u c =
    let ws = c.args.source.now in
    let d = c.args.depth in
    let i = c.args.at in
    let e = c.in_err-inner.field-0.0 in
    let r = c.from_residual in
    exit (λ r. GivesBoxed ws d (c.args.top) i r) r.result e r.ensures.1 c.in_err-inner.ensures

pub boxed_up_to_level-returns : goal.boxed_up_to_level-returns
boxed_up_to_level-returns u c =
    let ws = c.args.source.now in
    let d = c.args.depth in
    let i = c.args.at in
    let p = c.in_ok-inner.ensures in
    let same = sym c.in_ok-new.ensures.ok in
    subst (λ x. ((derivation_of x).level ≤ (c.args.top)) × ReadsPart ws d (level_part (c.args.top)) i (raise (c.args.top) (derivation_of x)) c.in_ok-inner.end) same p

pub up_to_level-returns-in_err-negated : goal.up_to_level-returns-in_err-negated
up_to_level-returns-in_err-negated = levels.up_to_level-returns-in_err-negated

pub up_to_level-returns-then-begins_with_not : goal.up_to_level-returns-then-begins_with_not
up_to_level-returns-then-begins_with_not = levels.up_to_level-returns-then-begins_with_not

pub up_to_level-returns-in_err-sum : goal.up_to_level-returns-in_err-sum
up_to_level-returns-in_err-sum = levels.up_to_level-returns-in_err-sum

pub up_to_level-returns-then-begins_with_sign : goal.up_to_level-returns-then-begins_with_sign
up_to_level-returns-then-begins_with_sign = levels.up_to_level-returns-then-begins_with_sign

pub up_to_level-returns-in_err-operand : goal.up_to_level-returns-in_err-operand
up_to_level-returns-in_err-operand = levels.up_to_level-returns-in_err-operand

pub up_to_level-returns : goal.up_to_level-returns
up_to_level-returns = levels.up_to_level-returns

pub raised-loop-operators-init : goal.raised-loop-operators-init
raised-loop-operators-init = levels.raised-loop-operators-init

pub raised-extended-requires : goal.raised-extended-requires
raised-extended-requires = levels.raised-extended-requires

pub raised-returns-in_err-whole : goal.raised-returns-in_err-whole
raised-returns-in_err-whole = levels.raised-returns-in_err-whole

pub raised-loop-operators-preserved : goal.raised-loop-operators-preserved
raised-loop-operators-preserved = levels.raised-loop-operators-preserved

pub raised-loop-operators-smaller : goal.raised-loop-operators-smaller
raised-loop-operators-smaller = levels.raised-loop-operators-smaller

pub raised-returns : goal.raised-returns
raised-returns = levels.raised-returns

pub extended-returns-in-Relations : goal.extended-returns-in-Relations
extended-returns-in-Relations = levels.extended-returns-in-Relations

pub extended-returns-in_err-terms-in-Signs : goal.extended-returns-in_err-terms-in-Signs
extended-returns-in_err-terms-in-Signs = levels.extended-returns-in_err-terms-in-Signs

pub extended-returns-in_err-factors-in-Multiplications : goal.extended-returns-in_err-factors-in-Multiplications
extended-returns-in_err-factors-in-Multiplications = levels.extended-returns-in_err-factors-in-Multiplications

pub extended-returns-in_err-operands-in-Single : goal.extended-returns-in_err-operands-in-Single
extended-returns-in_err-operands-in-Single = levels.extended-returns-in_err-operands-in-Single

pub extended-returns-in_ok-terms-in-Signs : goal.extended-returns-in_ok-terms-in-Signs
extended-returns-in_ok-terms-in-Signs = levels.extended-returns-in_ok-terms-in-Signs

pub extended-returns-in_ok-factors-in-Multiplications : goal.extended-returns-in_ok-factors-in-Multiplications
extended-returns-in_ok-factors-in-Multiplications = levels.extended-returns-in_ok-factors-in-Multiplications

pub extended-returns-in_ok-operands-in-Single : goal.extended-returns-in_ok-operands-in-Single
extended-returns-in_ok-operands-in-Single = levels.extended-returns-in_ok-operands-in-Single

pub operands-loop-next-init : goal.operands-loop-next-init
operands-loop-next-init = levels.operands-loop-next-init

pub operands-returns : goal.operands-returns
operands-returns = levels.operands-returns

pub operands-eat-requires-clause-no_end : goal.operands-eat-requires-clause-no_end
operands-eat-requires-clause-no_end = levels.operands-eat-requires-clause-no_end

pub operands-returns-in_err-operand : goal.operands-returns-in_err-operand
operands-returns-in_err-operand = levels.operands-returns-in_err-operand

pub operands-loop-next-preserved : goal.operands-loop-next-preserved
operands-loop-next-preserved = levels.operands-loop-next-preserved

pub negation-returns-in_err-marks : goal.negation-returns-in_err-marks
negation-returns-in_err-marks = levels.negation-returns-in_err-marks

pub negation-returns-in_err-operand : goal.negation-returns-in_err-operand
negation-returns-in_err-operand = levels.negation-returns-in_err-operand

pub negation-returns : goal.negation-returns
negation-returns = levels.negation-returns

pub negation-boxed_up_to_level-requires : goal.negation-boxed_up_to_level-requires
negation-boxed_up_to_level-requires = levels.negation-boxed_up_to_level-requires

pub relation-returns-in_err-class : goal.relation-returns-in_err-class
relation-returns-in_err-class = levels.relation-returns-in_err-class

pub relation-returns-in-Some : goal.relation-returns-in-Some
relation-returns-in-Some = levels.relation-returns-in-Some

pub relation-returns-in_default-relation_at : goal.relation-returns-in_default-relation_at
relation-returns-in_default-relation_at = levels.relation-returns-in_default-relation_at

pub relation-returns-in_err-right : goal.relation-returns-in_err-right
relation-returns-in_err-right = levels.relation-returns-in_err-right

pub relation-returns : goal.relation-returns
relation-returns = levels.relation-returns

pub relation-boxed_up_to_level-requires : goal.relation-boxed_up_to_level-requires
relation-boxed_up_to_level-requires = levels.relation-boxed_up_to_level-requires

pub signed_sum-returns-in_err-first : goal.signed_sum-returns-in_err-first
signed_sum-returns-in_err-first = levels.signed_sum-returns-in_err-first

pub signed_sum-returns-in_err-rest : goal.signed_sum-returns-in_err-rest
signed_sum-returns-in_err-rest = levels.signed_sum-returns-in_err-rest

pub signed_sum-returns : goal.signed_sum-returns
signed_sum-returns = levels.signed_sum-returns

pub terms-loop-sign-init : goal.terms-loop-sign-init
terms-loop-sign-init = levels.terms-loop-sign-init

pub terms-returns-in_err-term : goal.terms-returns-in_err-term
terms-returns-in_err-term = levels.terms-returns-in_err-term

pub terms-loop-sign-preserved : goal.terms-loop-sign-preserved
terms-loop-sign-preserved = levels.terms-loop-sign-preserved

pub terms-returns : goal.terms-returns
terms-returns = levels.terms-returns

pub factors-loop-operator-init : goal.factors-loop-operator-init
factors-loop-operator-init = levels.factors-loop-operator-init

pub factors-returns-in_err-factor : goal.factors-returns-in_err-factor
factors-returns-in_err-factor = levels.factors-returns-in_err-factor

pub factors-loop-operator-preserved : goal.factors-loop-operator-preserved
factors-loop-operator-preserved = levels.factors-loop-operator-preserved

pub factors-returns : goal.factors-returns
factors-returns = levels.factors-returns

pub postfix-returns-in_err-first : goal.postfix-returns-in_err-first
postfix-returns-in_err-first = selectors.postfix-returns-in_err-first

pub postfix-returns-in_err-rest : goal.postfix-returns-in_err-rest
postfix-returns-in_err-rest = selectors.postfix-returns-in_err-rest

pub postfix-returns-then-is_empty : goal.postfix-returns-then-is_empty
postfix-returns-then-is_empty = selectors.postfix-returns-then-is_empty

pub postfix-returns : goal.postfix-returns
postfix-returns = selectors.postfix-returns

pub selectors-loop-rest-init : goal.selectors-loop-rest-init
selectors-loop-rest-init = selectors.selectors-loop-rest-init

pub selectors-returns-in_err-taken : goal.selectors-returns-in_err-taken
selectors-returns-in_err-taken = selectors.selectors-returns-in_err-taken

pub selectors-loop-rest-preserved : goal.selectors-loop-rest-preserved
selectors-loop-rest-preserved = selectors.selectors-loop-rest-preserved

pub selectors-returns : goal.selectors-returns
selectors-returns = selectors.selectors-returns

pub selector-returns-in_err-name : goal.selector-returns-in_err-name
selector-returns-in_err-name = selectors.selector-returns-in_err-name

pub selector-returns-in_err-arguments : goal.selector-returns-in_err-arguments
selector-returns-in_err-arguments = selectors.selector-returns-in_err-arguments

pub selector-returns-in-Some : goal.selector-returns-in-Some
selector-returns-in-Some = selectors.selector-returns-in-Some

pub selector-returns-in_default-eat : goal.selector-returns-in_default-eat
selector-returns-in_default-eat = selectors.selector-returns-in_default-eat

pub selector-returns-in_err-class : goal.selector-returns-in_err-class
selector-returns-in_err-class = selectors.selector-returns-in_err-class

pub selector-returns : goal.selector-returns
selector-returns = selectors.selector-returns

pub arguments-returns-in_default : goal.arguments-returns-in_default
arguments-returns-in_default = selectors.arguments-returns-in_default

pub arguments-returns-in_err-list : goal.arguments-returns-in_err-list
arguments-returns-in_err-list = selectors.arguments-returns-in_err-list

pub arguments-returns-in_err-end : goal.arguments-returns-in_err-end
arguments-returns-in_err-end = selectors.arguments-returns-in_err-end

pub arguments-returns : goal.arguments-returns
arguments-returns = selectors.arguments-returns

pub argument_list-returns-in_err-first : goal.argument_list-returns-in_err-first
argument_list-returns-in_err-first = selectors.argument_list-returns-in_err-first

pub argument_list-loop-next-init : goal.argument_list-loop-next-init
argument_list-loop-next-init = selectors.argument_list-loop-next-init

pub argument_list-returns-in_err-argument : goal.argument_list-returns-in_err-argument
argument_list-returns-in_err-argument = selectors.argument_list-returns-in_err-argument

pub argument_list-loop-next-preserved : goal.argument_list-loop-next-preserved
argument_list-loop-next-preserved = selectors.argument_list-loop-next-preserved

pub argument_list-returns : goal.argument_list-returns
argument_list-returns = selectors.argument_list-returns

pub selector-arguments-requires : goal.selector-arguments-requires
selector-arguments-requires = selectors.selector-arguments-requires

pub selectors-loop-rest-smaller : goal.selectors-loop-rest-smaller
selectors-loop-rest-smaller = selectors.selectors-loop-rest-smaller

pub named-returns-in_err-name : goal.named-returns-in_err-name
named-returns-in_err-name u c =
    let ws = c.args.source.now in
    let d = c.args.depth in
    let i = c.args.at in
    λ h.
    let m0 = opened ws d i g.Primary name_symbols refl (by_test g.Primary (kind_at ws i) k.Identifier name_symbols h primary_name) c.requires.within in
    let e = c.in_err-name.field-0.0 in
    let r = c.from_residual in
    exit (λ r. GivesLevel ws d 0 i r) r.result e r.ensures.1
    (stops m0 e (c.in_err-name.ensures d))

pub named-returns-in_err-arguments : goal.named-returns-in_err-arguments
named-returns-in_err-arguments u c =
    let ws = c.args.source.now in
    let d = c.args.depth in
    let i = c.args.at in
    λ h.
    let m0 = opened ws d i g.Primary name_symbols refl (by_test g.Primary (kind_at ws i) k.Identifier name_symbols h primary_name) c.requires.within in
    let m1 = to m0 (c.in_ok-name.ensures d) in
    let e = c.in_err-arguments.field-0.0 in
    let r = c.from_residual-in_err-arguments in
    exit (λ r. GivesLevel ws d 0 i r) r.result e r.ensures.1
    (stops m1 e c.in_err-arguments.ensures)

pub named-returns : goal.named-returns
named-returns u c =
    let ws = c.args.source.now in
    let d = c.args.depth in
    let i = c.args.at in
    λ h.
    let m0 = opened ws d i g.Primary name_symbols refl (by_test g.Primary (kind_at ws i) k.Identifier name_symbols h primary_name) c.requires.within in
    let m1 = to m0 (c.in_ok-name.ensures d) in
    level-made 0 _ _ (derivation-Named c.in_ok-name.name c.in_ok-arguments.arguments) refl (to m1 c.in_ok-arguments.ensures) refl

pub parentheses-returns-in_err-next : goal.parentheses-returns-in_err-next
parentheses-returns-in_err-next u c =
    let ws = c.args.source.now in
    let d = c.args.depth in
    let i = c.args.at in
    λ h.
    let m0 = opened ws d i g.Primary open_symbols refl (by_test g.Primary (kind_at ws i) k.Open open_symbols h primary_open) c.requires.within in
    let e = c.in_err-next.field-0.0 in
    let r = c.from_residual in
    exit (λ r. GivesLevel ws d 0 i r) r.result e r.ensures.1
    (stops m0 e (kept-stops ws d i (just k.Open) e (just_is _ _ _ c.in_err-next.ensures.0) c.in_err-next.ensures.1))

pub parentheses-returns-in_err-inner : goal.parentheses-returns-in_err-inner
parentheses-returns-in_err-inner u c =
    let ws = c.args.source.now in
    let d = c.args.depth in
    let i = c.args.at in
    λ h.
    let n = c.token_no-token.result in
    let m0 = opened ws d i g.Primary open_symbols refl (by_test g.Primary (kind_at ws i) k.Open open_symbols h primary_open) c.requires.within in
    let m1 = to m0 (kept n.0 c.token_no-token.ensures (took_one ws i c.in_ok-next.next k.Open refl c.in_ok-next.ensures)) in
    let e = c.in_err-inner.field-0.0 in
    let r = c.from_residual-in_err-inner in
    exit (λ r. GivesLevel ws d 0 i r) r.result e r.ensures.1
    (stops m1 e (once-stops ws d c.in_ok-next.next g.Expression e c.in_err-inner.ensures))

pub parentheses-returns-in_err-end : goal.parentheses-returns-in_err-end
parentheses-returns-in_err-end u c =
    let ws = c.args.source.now in
    let d = c.args.depth in
    let i = c.args.at in
    λ h.
    let n = c.token_no-token.result in
    let m0 = opened ws d i g.Primary open_symbols refl (by_test g.Primary (kind_at ws i) k.Open open_symbols h primary_open) c.requires.within in
    let m1 = to m0 (kept n.0 c.token_no-token.ensures (took_one ws i c.in_ok-next.next k.Open refl c.in_ok-next.ensures)) in
    let m2 = to m1 (once c.in_ok-inner.ensures.1) in
    let e = c.in_err-end.field-0.0 in
    let r = c.from_residual-in_err-end in
    exit (λ r. GivesLevel ws d 0 i r) r.result e r.ensures.1
    (stops m2 e (mark-stops ws d c.in_ok-inner.next k.Close e c.in_err-end.ensures))

pub parentheses-returns : goal.parentheses-returns
parentheses-returns u c =
    let ws = c.args.source.now in
    let d = c.args.depth in
    let i = c.args.at in
    λ h.
    let n = c.token_no-token.result in
    let m0 = opened ws d i g.Primary open_symbols refl (by_test g.Primary (kind_at ws i) k.Open open_symbols h primary_open) c.requires.within in
    let m1 = to m0 (kept n.0 c.token_no-token.ensures (took_one ws i c.in_ok-next.next k.Open refl c.in_ok-next.ensures)) in
    let m2 = to m1 (once c.in_ok-inner.ensures.1) in
    level-made 0 _ _ (derivation-Parentheses n c.in_ok-inner.inner) refl (to m2 (marked c.in_ok-end.ensures)) refl

pub generator-returns-in_err-next : goal.generator-returns-in_err-next
generator-returns-in_err-next u c =
    let ws = c.args.source.now in
    let d = c.args.depth in
    let i = c.args.at in
    λ h.
    let m0 = opened ws d i g.Primary new_symbols refl (by_test g.Primary (kind_at ws i) k.New new_symbols h primary_new) c.requires.within in
    let e = c.in_err-next.field-0.0 in
    let r = c.from_residual in
    exit (λ r. GivesLevel ws d 0 i r) r.result e r.ensures.1
    (stops m0 e (kept-stops ws d i (just k.New) e (just_is _ _ _ c.in_err-next.ensures.0) c.in_err-next.ensures.1))

pub generator-returns-in_err-class : goal.generator-returns-in_err-class
generator-returns-in_err-class u c =
    let ws = c.args.source.now in
    let d = c.args.depth in
    let i = c.args.at in
    λ h.
    let n = c.token_no-token.result in
    let m0 = opened ws d i g.Primary new_symbols refl (by_test g.Primary (kind_at ws i) k.New new_symbols h primary_new) c.requires.within in
    let m1 = to m0 (kept n.0 c.token_no-token.ensures (took_one ws i c.in_ok-next.next k.New refl c.in_ok-next.ensures)) in
    let e = c.in_err-class.field-0.0 in
    let r = c.from_residual-in_err-class in
    exit (λ r. GivesLevel ws d 0 i r) r.result e r.ensures.1
    (stops m1 e (c.in_err-class.ensures d))

pub generator-returns-in_err-arguments : goal.generator-returns-in_err-arguments
generator-returns-in_err-arguments u c =
    let ws = c.args.source.now in
    let d = c.args.depth in
    let i = c.args.at in
    λ h.
    let n = c.token_no-token.result in
    let m0 = opened ws d i g.Primary new_symbols refl (by_test g.Primary (kind_at ws i) k.New new_symbols h primary_new) c.requires.within in
    let m1 = to m0 (kept n.0 c.token_no-token.ensures (took_one ws i c.in_ok-next.next k.New refl c.in_ok-next.ensures)) in
    let m2 = to m1 (c.in_ok-class.ensures d) in
    let e = c.in_err-arguments.field-0.0 in
    let r = c.from_residual-in_err-arguments in
    exit (λ r. GivesLevel ws d 0 i r) r.result e r.ensures.1
    (stops m2 e c.in_err-arguments.ensures)

pub generator-returns : goal.generator-returns
generator-returns u c =
    let ws = c.args.source.now in
    let d = c.args.depth in
    let i = c.args.at in
    λ h.
    let n = c.token_no-token.result in
    let m0 = opened ws d i g.Primary new_symbols refl (by_test g.Primary (kind_at ws i) k.New new_symbols h primary_new) c.requires.within in
    let m1 = to m0 (kept n.0 c.token_no-token.ensures (took_one ws i c.in_ok-next.next k.New refl c.in_ok-next.ensures)) in
    let m2 = to m1 (c.in_ok-class.ensures d) in
    level-made 0 _ _ (derivation-New n c.in_ok-class.class c.in_ok-arguments.arguments) refl (to m2 c.in_ok-arguments.ensures) refl

pub primary-returns-in-Identifier : goal.primary-returns-in-Identifier
primary-returns-in-Identifier u c =
    c.named.ensures (is-that k.Identifier _ c.in-Identifier.ensures)

pub primary-returns-in-Open : goal.primary-returns-in-Open
primary-returns-in-Open u c =
    c.parentheses.ensures (is-that k.Open _ c.in-Open.ensures)

pub primary-returns-in-New : goal.primary-returns-in-New
primary-returns-in-New u c =
    c.generator.ensures (is-that k.New _ c.in-New.ensures)

pub primary-returns-in-This : goal.primary-returns-in-This
primary-returns-in-This u c =
    c.local_object.ensures c.args.depth (is-that k.This _ c.in-This.ensures)

pub primary-returns-in_default : goal.primary-returns-in_default
primary-returns-in_default u c =
    let ws = c.args.source.now in
    let d = c.args.depth in
    let i = c.args.at in
    constant-level ws d i c.requires.within c.kind_at.result c.kind_at.ensures c.in_default.not-Identifier c.in_default.not-This c.in_default.not-New c.in_default.not-Open c.constant_at.result c.constant_at.ensures

pub named-arguments-requires : goal.named-arguments-requires
named-arguments-requires u c =
    let q = c.in_ok-name.ensures 0 in
    (omega (arith, c.decreases), (q.within, c.requires.shallow))

pub generator-arguments-requires : goal.generator-arguments-requires
generator-arguments-requires u c =
    let q = c.in_ok-class.ensures 0 in
    (omega (arith, c.decreases), (q.within, c.requires.shallow))
