use Rattle.std.proofs.Common.{refl, ap, ◌∙◌, arith}
use Rattle.sim_base.specs.declared.token.TokenKind.TheVariants as k
use Rattle.sim_tree.specs.Grammar as g
use Rattle.sim_tree.specs.Derivation.{factor_derivation, selector_derivation, derivation_of, term_derivation}
use Rattle.sim_tree.proofs.DerivationLemmas as lemma
use Rattle.sim_tree.proofs.Nests as nests
use Rattle.sim_tree.proofs.Sizes as sizes
use denote.Param.Weighed.{most}
use Rattle.sim_tree.specs.declared.expr.Expr.{size-Expr}
use Rattle.sim_tree.specs.declared.expr.Expr.TheViews.{size-Operand, size-Term, size-Factor, size-Selector}
use Rattle.sim_tree.proofs.nesting.+expression.Goals as goal

pub arguments-loop-item-init : goal.arguments-loop-item-init
arguments-loop-item-init t c = nests.begins c.args.list.now

pub arguments-loop-item-preserved : goal.arguments-loop-item-preserved
arguments-loop-item-preserved t c =
    let x = c.item-item.result in
    nests.goes_on c.args.list.now c.loop-item.item-index x c.expression.result c.loop-item.deepest c.max-deepest.result c.loop-item-test.true c.item-item.is c.expression.ensures (omega arith) c.loop-item.invariant

pub arguments-returns : goal.arguments-returns
arguments-returns t c = nests.ends c.args.list.now c.loop-item.item-index c.loop-item.deepest c.loop-item-test.false c.loop-item.invariant

pub factors-loop-item-init : goal.factors-loop-item-init
factors-loop-item-init t c = nests.begins c.args.list.now

pub factors-loop-item-preserved : goal.factors-loop-item-preserved
factors-loop-item-preserved t c =
    let x = c.item-item.result in
    nests.goes_on c.args.list.now c.loop-item.item-index x c.inside.result c.loop-item.deepest c.max-deepest.result c.loop-item-test.true c.item-item.is (nests.along (lemma.derivation-factor x.token x.operator x.factor) (nests.nests_leaf (nests.nests_level 2 (omega arith) c.inside.ensures))) (omega arith) c.loop-item.invariant

pub factors-returns : goal.factors-returns
factors-returns t c = nests.ends c.args.list.now c.loop-item.item-index c.loop-item.deepest c.loop-item-test.false c.loop-item.invariant

pub operands-loop-item-init : goal.operands-loop-item-init
operands-loop-item-init t c = nests.begins c.args.list.now

pub operands-loop-item-preserved : goal.operands-loop-item-preserved
operands-loop-item-preserved t c =
    let x = c.item-item.result in
    nests.goes_on c.args.list.now c.loop-item.item-index x c.inside.result c.loop-item.deepest c.max-deepest.result c.loop-item-test.true c.item-item.is (nests.along_inside (ap (λ i. i.operand) (lemma.derivation-operand x.token x.operand)) c.inside.ensures) (omega arith) c.loop-item.invariant

pub operands-returns : goal.operands-returns
operands-returns t c = nests.ends c.args.list.now c.loop-item.item-index c.loop-item.deepest c.loop-item-test.false c.loop-item.invariant

pub selectors-loop-item-init : goal.selectors-loop-item-init
selectors-loop-item-init t c = nests.begins c.args.list.now

pub selectors-loop-item-preserved : goal.selectors-loop-item-preserved
selectors-loop-item-preserved t c =
    let x = c.item-item.result in
    nests.goes_on c.args.list.now c.loop-item.item-index x c.selector.result c.loop-item.deepest c.max-deepest.result c.loop-item-test.true c.item-item.is c.selector.ensures (omega arith) c.loop-item.invariant

pub selectors-returns : goal.selectors-returns
selectors-returns t c = nests.ends c.args.list.now c.loop-item.item-index c.loop-item.deepest c.loop-item-test.false c.loop-item.invariant

pub terms-loop-item-init : goal.terms-loop-item-init
terms-loop-item-init t c = nests.begins c.args.list.now

pub terms-loop-item-preserved : goal.terms-loop-item-preserved
terms-loop-item-preserved t c =
    let x = c.item-item.result in
    nests.goes_on c.args.list.now c.loop-item.item-index x c.inside.result c.loop-item.deepest c.max-deepest.result c.loop-item-test.true c.item-item.is (nests.along (lemma.derivation-term x.token x.sign x.term) (nests.nests_leaf (nests.nests_level 3 (omega arith) c.inside.ensures))) (omega arith) c.loop-item.invariant

pub terms-returns : goal.terms-returns
terms-returns t c = nests.ends c.args.list.now c.loop-item.item-index c.loop-item.deepest c.loop-item-test.false c.loop-item.invariant

pub expression-returns : goal.expression-returns
expression-returns t c = nests.same (omega arith) (nests.nests_argument c.inside.ensures)

pub selector-returns-in-Dot : goal.selector-returns-in-Dot
selector-returns-in-Dot t c =
    let w = c.in-Dot in
    nests.along (ap selector_derivation w.is ∙ lemma.derivation-Dot w.token w.name w.list) (nests.nests_leaf (nests.nests_leaf (nests.nests_actuals c.deref.result.now w.list.items c.deref.ensures.value c.arguments.ensures)))

pub selector-returns-in-Qua : goal.selector-returns-in-Qua
selector-returns-in-Qua t c =
    let w = c.in-Qua in nests.along (ap selector_derivation w.is ∙ lemma.derivation-Qua w.token w.class) (nests.nests_leaf (nests.nests_leaf nests.nests_done))

pub inside-returns-in-OrElse : goal.inside-returns-in-OrElse
inside-returns-in-OrElse t c =
    let w = c.in-OrElse in
    nests.answer_operated c.args.expr.now 12 k.OrElse g.NextOrElse w.first.value c.deref-in-OrElse.result.now w.rest.items c.deref-in-OrElse-2.result.now c.inside-in-OrElse.result c.operands.result c.max-in-OrElse.result (omega arith) refl (ap derivation_of w.is ∙ lemma.derivation-OrElse w.first w.rest) c.deref-in-OrElse.ensures c.inside-in-OrElse.ensures c.deref-in-OrElse-2.ensures.value c.operands.ensures (omega arith)

pub inside-returns-in-AndThen : goal.inside-returns-in-AndThen
inside-returns-in-AndThen t c =
    let w = c.in-AndThen in
    nests.answer_operated c.args.expr.now 11 k.AndThen g.NextAndThen w.first.value c.deref-in-AndThen.result.now w.rest.items c.deref-in-AndThen-2.result.now c.inside-in-AndThen.result c.operands-in-AndThen.result c.max-in-AndThen.result (omega arith) refl (ap derivation_of w.is ∙ lemma.derivation-AndThen w.first w.rest) c.deref-in-AndThen.ensures c.inside-in-AndThen.ensures c.deref-in-AndThen-2.ensures.value c.operands-in-AndThen.ensures (omega arith)

pub inside-returns-in-Eqv : goal.inside-returns-in-Eqv
inside-returns-in-Eqv t c =
    let w = c.in-Eqv in
    nests.answer_operated c.args.expr.now 10 k.Eqv g.NextEquivalence w.first.value c.deref-in-Eqv.result.now w.rest.items c.deref-in-Eqv-2.result.now c.inside-in-Eqv.result c.operands-in-Eqv.result c.max-in-Eqv.result (omega arith) refl (ap derivation_of w.is ∙ lemma.derivation-Eqv w.first w.rest) c.deref-in-Eqv.ensures c.inside-in-Eqv.ensures c.deref-in-Eqv-2.ensures.value c.operands-in-Eqv.ensures (omega arith)

pub inside-returns-in-Imp : goal.inside-returns-in-Imp
inside-returns-in-Imp t c =
    let w = c.in-Imp in
    nests.answer_operated c.args.expr.now 9 k.Imp g.NextImplication w.first.value c.deref-in-Imp.result.now w.rest.items c.deref-in-Imp-2.result.now c.inside-in-Imp.result c.operands-in-Imp.result c.max-in-Imp.result (omega arith) refl (ap derivation_of w.is ∙ lemma.derivation-Imp w.first w.rest) c.deref-in-Imp.ensures c.inside-in-Imp.ensures c.deref-in-Imp-2.ensures.value c.operands-in-Imp.ensures (omega arith)

pub inside-returns-in-Or : goal.inside-returns-in-Or
inside-returns-in-Or t c =
    let w = c.in-Or in
    nests.answer_operated c.args.expr.now 8 k.Or g.NextOr w.first.value c.deref-in-Or.result.now w.rest.items c.deref-in-Or-2.result.now c.inside-in-Or.result c.operands-in-Or.result c.max-in-Or.result (omega arith) refl (ap derivation_of w.is ∙ lemma.derivation-Or w.first w.rest) c.deref-in-Or.ensures c.inside-in-Or.ensures c.deref-in-Or-2.ensures.value c.operands-in-Or.ensures (omega arith)

pub inside-returns-in-And : goal.inside-returns-in-And
inside-returns-in-And t c =
    let w = c.in-And in
    nests.answer_operated c.args.expr.now 7 k.And g.NextAnd w.first.value c.deref-in-And.result.now w.rest.items c.deref-in-And-2.result.now c.inside-in-And.result c.operands-in-And.result c.max-in-And.result (omega arith) refl (ap derivation_of w.is ∙ lemma.derivation-And w.first w.rest) c.deref-in-And.ensures c.inside-in-And.ensures c.deref-in-And-2.ensures.value c.operands-in-And.ensures (omega arith)

pub inside-returns-in-Concatenation : goal.inside-returns-in-Concatenation
inside-returns-in-Concatenation t c =
    let w = c.in-Concatenation in
    nests.answer_operated c.args.expr.now 4 k.Ampersand g.NextConcatenated w.first.value c.deref-in-Concatenation.result.now w.rest.items c.deref-in-Concatenation-2.result.now c.inside-in-Concatenation.result c.operands-in-Concatenation.result c.max-in-Concatenation.result (omega arith) refl (ap derivation_of w.is ∙ lemma.derivation-Concatenation w.first w.rest) c.deref-in-Concatenation.ensures c.inside-in-Concatenation.ensures c.deref-in-Concatenation-2.ensures.value c.operands-in-Concatenation.ensures (omega arith)

pub inside-returns-in-Power : goal.inside-returns-in-Power
inside-returns-in-Power t c =
    let w = c.in-Power in
    nests.answer_operated c.args.expr.now 1 k.Power g.NextPower w.first.value c.deref-in-Power.result.now w.rest.items c.deref-in-Power-2.result.now c.inside-in-Power.result c.operands-in-Power.result c.max-in-Power.result (omega arith) refl (ap derivation_of w.is ∙ lemma.derivation-Power w.first w.rest) c.deref-in-Power.ensures c.inside-in-Power.ensures c.deref-in-Power-2.ensures.value c.operands-in-Power.ensures (omega arith)

pub inside-returns-in-If : goal.inside-returns-in-If
inside-returns-in-If t c =
    let w = c.in-If in
    let first = nests.nests_level 13 (omega arith) (nests.at_inside c.deref-in-If.ensures c.inside.ensures) in
    let second = nests.at_argument c.deref-in-If-2.ensures c.expression-in-If.ensures in
    nests.along_inside (ap derivation_of w.is ∙ lemma.derivation-If w.token w.condition w.first w.second)
    (nests.within (nests.nests_leaf (nests.same (omega arith) (nests.followed (nests.at_argument c.deref.ensures c.expression.ensures) (nests.followed first second)))))

pub inside-returns-in-Not : goal.inside-returns-in-Not
inside-returns-in-Not t c =
    let w = c.in-Not in
    nests.along_inside (ap derivation_of w.is ∙ lemma.derivation-Not w.tokens w.operand) (nests.in_negated w.tokens.items (nests.at_inside c.deref-in-Not.ensures c.inside-in-Not.ensures))

pub inside-returns-in-Related : goal.inside-returns-in-Related
inside-returns-in-Related t c =
    let w = c.in-Related in
    let left = nests.nests_level 5 (omega arith) (nests.at_inside c.deref-in-Related.ensures c.inside-in-Related.ensures) in
    let right = nests.nests_level 5 (omega arith) (nests.at_inside c.deref-in-Related-2.ensures c.inside-in-Related-2.ensures) in
    nests.along_inside (ap derivation_of w.is ∙ lemma.derivation-Related w.left w.token w.relation w.right)
    (nests.within (nests.same (omega arith) (nests.followed left (nests.nests_alone refl (nests.nests_leaf right)))))

pub inside-returns-in-Member : goal.inside-returns-in-Member
inside-returns-in-Member t c =
    let w = c.in-Member in
    let object = nests.nests_level 5 (omega arith) (nests.at_inside c.deref-in-Member.ensures c.inside-in-Member.ensures) in
    nests.along_inside (ap derivation_of w.is ∙ lemma.derivation-Member w.object w.token w.membership w.class)
    (nests.within (nests.same (omega arith) (nests.followed object (nests.nests_alone refl (nests.nests_leaf (nests.nests_leaf nests.nests_done))))))

pub inside-returns-in-Sum : goal.inside-returns-in-Sum
inside-returns-in-Sum t c =
    let w = c.in-Sum in
    nests.along_inside (ap derivation_of w.is ∙ lemma.derivation-Sum w.sign w.first w.rest)
    (nests.same_inside (omega arith) (nests.in_summed w.sign (nests.at_inside c.deref-in-Sum.ensures c.inside-in-Sum.ensures) (nests.mapped term_derivation (λ x n z. z) (nests.at_list c.deref-in-Sum-2.ensures.value c.terms.ensures))))

pub inside-returns-in-Product : goal.inside-returns-in-Product
inside-returns-in-Product t c =
    let w = c.in-Product in
    nests.along_inside (ap derivation_of w.is ∙ lemma.derivation-Product w.first w.rest)
    (nests.same_inside (omega arith) (nests.in_multiplied (nests.at_inside c.deref-in-Product.ensures c.inside-in-Product.ensures) (nests.mapped factor_derivation (λ x n z. z) (nests.at_list c.deref-in-Product-2.ensures.value c.factors.ensures))))

pub inside-returns-in-Postfix : goal.inside-returns-in-Postfix
inside-returns-in-Postfix t c =
    let w = c.in-Postfix in
    nests.along_inside (ap derivation_of w.is ∙ lemma.derivation-Postfix w.primary w.rest)
    (nests.same_inside (omega arith) (nests.in_selected (nests.at_inside c.deref-in-Postfix.ensures c.inside-in-Postfix.ensures) (nests.mapped selector_derivation (λ x n z. z) (nests.at_list c.deref-in-Postfix-2.ensures.value c.selectors.ensures))))

pub inside-returns-in-Named : goal.inside-returns-in-Named
inside-returns-in-Named t c =
    let w = c.in-Named in
    nests.along_inside (ap derivation_of w.is ∙ lemma.derivation-Named w.name w.list)
    (nests.within (nests.nests_leaf (nests.nests_actuals c.deref-in-Named.result.now w.list.items c.deref-in-Named.ensures.value c.arguments.ensures)))

pub inside-returns-in-New : goal.inside-returns-in-New
inside-returns-in-New t c =
    let w = c.in-New in
    nests.along_inside (ap derivation_of w.is ∙ lemma.derivation-New w.token w.class w.list)
    (nests.within (nests.nests_leaf (nests.nests_leaf (nests.nests_actuals c.deref-in-New.result.now w.list.items c.deref-in-New.ensures.value c.arguments-in-New.ensures))))

pub inside-returns-in-Parentheses : goal.inside-returns-in-Parentheses
inside-returns-in-Parentheses t c =
    let w = c.in-Parentheses in
    nests.along_inside (ap derivation_of w.is ∙ lemma.derivation-Parentheses w.token w.inner)
    (nests.within (nests.nests_leaf (nests.at_argument c.deref-in-Parentheses.ensures c.expression-in-Parentheses.ensures)))

pub inside-returns-in-Integer : goal.inside-returns-in-Integer
inside-returns-in-Integer t c =
    let w = c.in-Integer in nests.along_inside (ap derivation_of w.is ∙ lemma.derivation-Integer w.token w.value) (nests.within (nests.nests_leaf nests.nests_done))

pub inside-returns-in-Character : goal.inside-returns-in-Character
inside-returns-in-Character t c =
    let w = c.in-Character in nests.along_inside (ap derivation_of w.is ∙ lemma.derivation-Character w.token w.value) (nests.within (nests.nests_leaf nests.nests_done))

pub inside-returns-in-Text : goal.inside-returns-in-Text
inside-returns-in-Text t c =
    let w = c.in-Text in nests.along_inside (ap derivation_of w.is ∙ lemma.derivation-Text w.token w.value) (nests.within (nests.nests_leaf nests.nests_done))

pub inside-returns-in-True : goal.inside-returns-in-True
inside-returns-in-True t c =
    let w = c.in-True in nests.along_inside (ap derivation_of w.is ∙ lemma.derivation-True w.token) (nests.within (nests.nests_leaf nests.nests_done))

pub inside-returns-in-False : goal.inside-returns-in-False
inside-returns-in-False t c =
    let w = c.in-False in nests.along_inside (ap derivation_of w.is ∙ lemma.derivation-False w.token) (nests.within (nests.nests_leaf nests.nests_done))

pub inside-returns-in-NoObject : goal.inside-returns-in-NoObject
inside-returns-in-NoObject t c =
    let w = c.in-NoObject in nests.along_inside (ap derivation_of w.is ∙ lemma.derivation-NoObject w.token) (nests.within (nests.nests_leaf nests.nests_done))

pub inside-returns-in-Notext : goal.inside-returns-in-Notext
inside-returns-in-Notext t c =
    let w = c.in-Notext in nests.along_inside (ap derivation_of w.is ∙ lemma.derivation-Notext w.token) (nests.within (nests.nests_leaf nests.nests_done))

pub inside-returns-in-This : goal.inside-returns-in-This
inside-returns-in-This t c =
    let w = c.in-This in nests.along_inside (ap derivation_of w.is ∙ lemma.derivation-This w.token w.class) (nests.within (nests.nests_leaf (nests.nests_leaf nests.nests_done)))

pub inside-operands-requires : goal.inside-operands-requires
inside-operands-requires t c = let w = c.in-OrElse in (omega (arith, sizes.orelse_holds w.first w.rest, ap size-Expr w.is, ap (most size-Operand) c.deref-in-OrElse-2.ensures.value), tt)

pub inside-operands-requires-in-AndThen : goal.inside-operands-requires-in-AndThen
inside-operands-requires-in-AndThen t c = let w = c.in-AndThen in (omega (arith, sizes.andthen_holds w.first w.rest, ap size-Expr w.is, ap (most size-Operand) c.deref-in-AndThen-2.ensures.value), tt)

pub inside-operands-requires-in-Eqv : goal.inside-operands-requires-in-Eqv
inside-operands-requires-in-Eqv t c = let w = c.in-Eqv in (omega (arith, sizes.eqv_holds w.first w.rest, ap size-Expr w.is, ap (most size-Operand) c.deref-in-Eqv-2.ensures.value), tt)

pub inside-operands-requires-in-Imp : goal.inside-operands-requires-in-Imp
inside-operands-requires-in-Imp t c = let w = c.in-Imp in (omega (arith, sizes.imp_holds w.first w.rest, ap size-Expr w.is, ap (most size-Operand) c.deref-in-Imp-2.ensures.value), tt)

pub inside-operands-requires-in-Or : goal.inside-operands-requires-in-Or
inside-operands-requires-in-Or t c = let w = c.in-Or in (omega (arith, sizes.or_holds w.first w.rest, ap size-Expr w.is, ap (most size-Operand) c.deref-in-Or-2.ensures.value), tt)

pub inside-operands-requires-in-And : goal.inside-operands-requires-in-And
inside-operands-requires-in-And t c = let w = c.in-And in (omega (arith, sizes.and_holds w.first w.rest, ap size-Expr w.is, ap (most size-Operand) c.deref-in-And-2.ensures.value), tt)

pub inside-operands-requires-in-Concatenation : goal.inside-operands-requires-in-Concatenation
inside-operands-requires-in-Concatenation t c = let w = c.in-Concatenation in (omega (arith, sizes.concatenation_holds w.first w.rest, ap size-Expr w.is, ap (most size-Operand) c.deref-in-Concatenation-2.ensures.value), tt)

pub inside-operands-requires-in-Power : goal.inside-operands-requires-in-Power
inside-operands-requires-in-Power t c = let w = c.in-Power in (omega (arith, sizes.power_holds w.first w.rest, ap size-Expr w.is, ap (most size-Operand) c.deref-in-Power-2.ensures.value), tt)

pub inside-terms-requires : goal.inside-terms-requires
inside-terms-requires t c = let w = c.in-Sum in (omega (arith, sizes.sum_holds w.sign w.first w.rest, ap size-Expr w.is, ap (most size-Term) c.deref-in-Sum-2.ensures.value), tt)

pub inside-factors-requires : goal.inside-factors-requires
inside-factors-requires t c = let w = c.in-Product in (omega (arith, sizes.product_holds w.first w.rest, ap size-Expr w.is, ap (most size-Factor) c.deref-in-Product-2.ensures.value), tt)

pub inside-selectors-requires : goal.inside-selectors-requires
inside-selectors-requires t c = let w = c.in-Postfix in (omega (arith, sizes.postfix_holds w.primary w.rest, ap size-Expr w.is, ap (most size-Selector) c.deref-in-Postfix-2.ensures.value), tt)
