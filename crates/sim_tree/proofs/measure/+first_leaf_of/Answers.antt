use Rattle.std.proofs.Common.{◌≡◌, Some, map, refl, sym, ap, ◌∙◌, arith, subst}
use Rattle.std.specs.Prelude.{slice_get}
use Rattle.std.specs.Option.{option_copied}
use Rattle.sim_base.specs.declared.token.TokenKind.TheVariants as k
use Rattle.sim_tree.specs.Grammar as g
use Rattle.sim_tree.specs.Tree.{first_leaf}
use Rattle.sim_tree.specs.Derivation.{summed, whole, derivation_of, operand_derivation, term_derivation, factor_derivation, selector_derivation}
use Rattle.sim_tree.proofs.Leaf.{under, in_operated, no_mark, first_mark, in_summed, in_multiplied, in_selected, passed_on, own}
use Rattle.sim_tree.proofs.DerivationLemmas as lemma
use Rattle.sim_tree.proofs.measure.+first_leaf_of.Goals as goal

pub returns-in-OrElse-clause-leaf : goal.returns-in-OrElse-clause-leaf
returns-in-OrElse-clause-leaf t c = λ i h.
    let w = c.in-OrElse in
    passed_on c.args.expr.now w.first.value c.deref.result.now _ c.first_leaf_of.result.0 i (ap derivation_of w.is ∙ lemma.derivation-OrElse w.first w.rest) c.deref.ensures (λ j e. c.first_leaf_of.ensures.leaf j e) (in_operated 12 k.OrElse g.NextOrElse (derivation_of w.first.value) (map operand_derivation w.rest.items) i (omega arith)) h

pub returns-in-AndThen-clause-leaf : goal.returns-in-AndThen-clause-leaf
returns-in-AndThen-clause-leaf t c = λ i h.
    let w = c.in-AndThen in
    passed_on c.args.expr.now w.first.value c.deref-in-AndThen.result.now _ c.first_leaf_of-in-AndThen.result.0 i (ap derivation_of w.is ∙ lemma.derivation-AndThen w.first w.rest) c.deref-in-AndThen.ensures (λ j e. c.first_leaf_of-in-AndThen.ensures.leaf j e) (in_operated 11 k.AndThen g.NextAndThen (derivation_of w.first.value) (map operand_derivation w.rest.items) i (omega arith)) h

pub returns-in-Eqv-clause-leaf : goal.returns-in-Eqv-clause-leaf
returns-in-Eqv-clause-leaf t c = λ i h.
    let w = c.in-Eqv in
    passed_on c.args.expr.now w.first.value c.deref-in-Eqv.result.now _ c.first_leaf_of-in-Eqv.result.0 i (ap derivation_of w.is ∙ lemma.derivation-Eqv w.first w.rest) c.deref-in-Eqv.ensures (λ j e. c.first_leaf_of-in-Eqv.ensures.leaf j e) (in_operated 10 k.Eqv g.NextEquivalence (derivation_of w.first.value) (map operand_derivation w.rest.items) i (omega arith)) h

pub returns-in-Imp-clause-leaf : goal.returns-in-Imp-clause-leaf
returns-in-Imp-clause-leaf t c = λ i h.
    let w = c.in-Imp in
    passed_on c.args.expr.now w.first.value c.deref-in-Imp.result.now _ c.first_leaf_of-in-Imp.result.0 i (ap derivation_of w.is ∙ lemma.derivation-Imp w.first w.rest) c.deref-in-Imp.ensures (λ j e. c.first_leaf_of-in-Imp.ensures.leaf j e) (in_operated 9 k.Imp g.NextImplication (derivation_of w.first.value) (map operand_derivation w.rest.items) i (omega arith)) h

pub returns-in-Or-clause-leaf : goal.returns-in-Or-clause-leaf
returns-in-Or-clause-leaf t c = λ i h.
    let w = c.in-Or in
    passed_on c.args.expr.now w.first.value c.deref-in-Or.result.now _ c.first_leaf_of-in-Or.result.0 i (ap derivation_of w.is ∙ lemma.derivation-Or w.first w.rest) c.deref-in-Or.ensures (λ j e. c.first_leaf_of-in-Or.ensures.leaf j e) (in_operated 8 k.Or g.NextOr (derivation_of w.first.value) (map operand_derivation w.rest.items) i (omega arith)) h

pub returns-in-And-clause-leaf : goal.returns-in-And-clause-leaf
returns-in-And-clause-leaf t c = λ i h.
    let w = c.in-And in
    passed_on c.args.expr.now w.first.value c.deref-in-And.result.now _ c.first_leaf_of-in-And.result.0 i (ap derivation_of w.is ∙ lemma.derivation-And w.first w.rest) c.deref-in-And.ensures (λ j e. c.first_leaf_of-in-And.ensures.leaf j e) (in_operated 7 k.And g.NextAnd (derivation_of w.first.value) (map operand_derivation w.rest.items) i (omega arith)) h

pub returns-in-None-clause-leaf : goal.returns-in-None-clause-leaf
returns-in-None-clause-leaf t c = λ i h.
    let w = c.in-Not in
    let none = ap (λ l. slice_get l 0) (sym c.deref-in-Not.ensures.value) ∙ sym c.first.ensures.value ∙ ap option_copied c.in-None.is in
    absurd (no_mark w.tokens.items (derivation_of w.operand.value) i none (subst (λ s. first_leaf (whole s) ≡ Some i) (ap derivation_of w.is ∙ lemma.derivation-Not w.tokens w.operand) h))

pub returns-in-Related-clause-leaf : goal.returns-in-Related-clause-leaf
returns-in-Related-clause-leaf t c = λ i h.
    let w = c.in-Related in
    passed_on c.args.expr.now w.left.value c.deref-in-Related.result.now _ c.first_leaf_of-in-Related.result.0 i (ap derivation_of w.is ∙ lemma.derivation-Related w.left w.token w.relation w.right) c.deref-in-Related.ensures (λ j e. c.first_leaf_of-in-Related.ensures.leaf j e) (under 5 _ (derivation_of w.left.value) i (omega arith) (λ z. z)) h

pub returns-in-Member-clause-leaf : goal.returns-in-Member-clause-leaf
returns-in-Member-clause-leaf t c = λ i h.
    let w = c.in-Member in
    passed_on c.args.expr.now w.object.value c.deref-in-Member.result.now _ c.first_leaf_of-in-Member.result.0 i (ap derivation_of w.is ∙ lemma.derivation-Member w.object w.token w.membership w.class) c.deref-in-Member.ensures (λ j e. c.first_leaf_of-in-Member.ensures.leaf j e) (under 5 _ (derivation_of w.object.value) i (omega arith) (λ z. z)) h

pub returns-in-Concatenation-clause-leaf : goal.returns-in-Concatenation-clause-leaf
returns-in-Concatenation-clause-leaf t c = λ i h.
    let w = c.in-Concatenation in
    passed_on c.args.expr.now w.first.value c.deref-in-Concatenation.result.now _ c.first_leaf_of-in-Concatenation.result.0 i (ap derivation_of w.is ∙ lemma.derivation-Concatenation w.first w.rest) c.deref-in-Concatenation.ensures (λ j e. c.first_leaf_of-in-Concatenation.ensures.leaf j e) (in_operated 4 k.Ampersand g.NextConcatenated (derivation_of w.first.value) (map operand_derivation w.rest.items) i (omega arith)) h

pub returns-in-None-sign-clause-leaf : goal.returns-in-None-sign-clause-leaf
returns-in-None-sign-clause-leaf t c = λ i h.
    let w = c.in-Sum in
    let same = ap derivation_of w.is ∙ lemma.derivation-Sum w.sign w.first w.rest ∙ ap (λ z. summed z (derivation_of w.first.value) (map term_derivation w.rest.items)) c.in-None-sign.is in
    passed_on c.args.expr.now w.first.value c.deref-in-None-sign.result.now _ c.first_leaf_of-in-None-sign.result.0 i same c.deref-in-None-sign.ensures
    (λ j e. c.first_leaf_of-in-None-sign.ensures.leaf j e) (in_summed (derivation_of w.first.value) (map term_derivation w.rest.items) i) h

pub returns-in-Product-clause-leaf : goal.returns-in-Product-clause-leaf
returns-in-Product-clause-leaf t c = λ i h.
    let w = c.in-Product in
    passed_on c.args.expr.now w.first.value c.deref-in-Product.result.now _ c.first_leaf_of-in-Product.result.0 i (ap derivation_of w.is ∙ lemma.derivation-Product w.first w.rest) c.deref-in-Product.ensures (λ j e. c.first_leaf_of-in-Product.ensures.leaf j e) (in_multiplied (derivation_of w.first.value) (map factor_derivation w.rest.items) i) h

pub returns-in-Power-clause-leaf : goal.returns-in-Power-clause-leaf
returns-in-Power-clause-leaf t c = λ i h.
    let w = c.in-Power in
    passed_on c.args.expr.now w.first.value c.deref-in-Power.result.now _ c.first_leaf_of-in-Power.result.0 i (ap derivation_of w.is ∙ lemma.derivation-Power w.first w.rest) c.deref-in-Power.ensures (λ j e. c.first_leaf_of-in-Power.ensures.leaf j e) (in_operated 1 k.Power g.NextPower (derivation_of w.first.value) (map operand_derivation w.rest.items) i (omega arith)) h

pub returns-in-Postfix-clause-leaf : goal.returns-in-Postfix-clause-leaf
returns-in-Postfix-clause-leaf t c = λ i h.
    let w = c.in-Postfix in
    passed_on c.args.expr.now w.primary.value c.deref-in-Postfix.result.now _ c.first_leaf_of-in-Postfix.result.0 i (ap derivation_of w.is ∙ lemma.derivation-Postfix w.primary w.rest) c.deref-in-Postfix.ensures (λ j e. c.first_leaf_of-in-Postfix.ensures.leaf j e) (in_selected (derivation_of w.primary.value) (map selector_derivation w.rest.items) i) h

pub returns-in-If-clause-leaf : goal.returns-in-If-clause-leaf
returns-in-If-clause-leaf t c = λ i h. let w = c.in-If in own c.args.expr.now _ w.token.0 i (ap derivation_of w.is ∙ lemma.derivation-If w.token w.condition w.first w.second) (omega arith) refl h

pub returns-in-Integer-clause-leaf : goal.returns-in-Integer-clause-leaf
returns-in-Integer-clause-leaf t c = λ i h. let w = c.in-Integer in own c.args.expr.now _ w.token.0 i (ap derivation_of w.is ∙ lemma.derivation-Integer w.token w.value) (omega arith) refl h

pub returns-in-Character-clause-leaf : goal.returns-in-Character-clause-leaf
returns-in-Character-clause-leaf t c = λ i h. let w = c.in-Character in own c.args.expr.now _ w.token.0 i (ap derivation_of w.is ∙ lemma.derivation-Character w.token w.value) (omega arith) refl h

pub returns-in-Text-clause-leaf : goal.returns-in-Text-clause-leaf
returns-in-Text-clause-leaf t c = λ i h. let w = c.in-Text in own c.args.expr.now _ w.token.0 i (ap derivation_of w.is ∙ lemma.derivation-Text w.token w.value) (omega arith) refl h

pub returns-in-True-clause-leaf : goal.returns-in-True-clause-leaf
returns-in-True-clause-leaf t c = λ i h. let w = c.in-True in own c.args.expr.now _ w.token.0 i (ap derivation_of w.is ∙ lemma.derivation-True w.token) (omega arith) refl h

pub returns-in-False-clause-leaf : goal.returns-in-False-clause-leaf
returns-in-False-clause-leaf t c = λ i h. let w = c.in-False in own c.args.expr.now _ w.token.0 i (ap derivation_of w.is ∙ lemma.derivation-False w.token) (omega arith) refl h

pub returns-in-NoObject-clause-leaf : goal.returns-in-NoObject-clause-leaf
returns-in-NoObject-clause-leaf t c = λ i h. let w = c.in-NoObject in own c.args.expr.now _ w.token.0 i (ap derivation_of w.is ∙ lemma.derivation-NoObject w.token) (omega arith) refl h

pub returns-in-Notext-clause-leaf : goal.returns-in-Notext-clause-leaf
returns-in-Notext-clause-leaf t c = λ i h. let w = c.in-Notext in own c.args.expr.now _ w.token.0 i (ap derivation_of w.is ∙ lemma.derivation-Notext w.token) (omega arith) refl h

pub returns-in-Named-clause-leaf : goal.returns-in-Named-clause-leaf
returns-in-Named-clause-leaf t c = λ i h. let w = c.in-Named in own c.args.expr.now _ w.name.token.0 i (ap derivation_of w.is ∙ lemma.derivation-Named w.name w.arguments) (omega arith) refl h

pub returns-in-This-clause-leaf : goal.returns-in-This-clause-leaf
returns-in-This-clause-leaf t c = λ i h. let w = c.in-This in own c.args.expr.now _ w.token.0 i (ap derivation_of w.is ∙ lemma.derivation-This w.token w.class) (omega arith) refl h

pub returns-in-New-clause-leaf : goal.returns-in-New-clause-leaf
returns-in-New-clause-leaf t c = λ i h. let w = c.in-New in own c.args.expr.now _ w.token.0 i (ap derivation_of w.is ∙ lemma.derivation-New w.token w.class w.arguments) (omega arith) refl h

pub returns-in-Parentheses-clause-leaf : goal.returns-in-Parentheses-clause-leaf
returns-in-Parentheses-clause-leaf t c = λ i h. let w = c.in-Parentheses in own c.args.expr.now _ w.token.0 i (ap derivation_of w.is ∙ lemma.derivation-Parentheses w.token w.inner) (omega arith) refl h

pub returns-in-Some-clause-leaf : goal.returns-in-Some-clause-leaf
returns-in-Some-clause-leaf t c = λ i h.
    let w = c.in-Not in
    let some = ap (λ l. slice_get l 0) (sym c.deref-in-Not.ensures.value) ∙ sym c.first.ensures.value ∙ ap option_copied c.in-Some.is in
    first_mark w.tokens.items (derivation_of w.operand.value) c.in-Some.token.now i some (subst (λ s. first_leaf (whole s) ≡ Some i) (ap derivation_of w.is ∙ lemma.derivation-Not w.tokens w.operand) h)

pub returns-in-Some-sign-clause-leaf : goal.returns-in-Some-sign-clause-leaf
returns-in-Some-sign-clause-leaf t c = λ i h.
    let w = c.in-Sum in
    let same = ap derivation_of w.is ∙ lemma.derivation-Sum w.sign w.first w.rest ∙ ap (λ z. summed z (derivation_of w.first.value) (map term_derivation w.rest.items)) c.in-Some-sign.is in
    own c.args.expr.now _ c.in-Some-sign.sign.token.0 i same (omega arith) refl h
