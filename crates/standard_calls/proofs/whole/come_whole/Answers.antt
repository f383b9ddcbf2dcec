use Rattle.std.proofs.Common.{rules, ◌≡◌, sym, subst, refl, ap, ◌∙◌, to_z, of_z, w64}
use Rattle.standard_calls.specs.declared.calls.Call.TheVariants as call
use Rattle.standard_calls.specs.declared.calls.OfInteger.TheVariants as integer
use Rattle.standard_calls.specs.declared.calls.OfTextAndInteger.TheVariants as integer_to
use Rattle.standard_calls.specs.declared.manner.Manner.TheVariants as manner
use Rattle.standard_calls.specs.Calls.{CameAs, name_of, operands}
use Rattle.standard_calls.specs.Performed.{Parts, parts}
use Rattle.standard_calls.specs.Quiet.{manner_of}
use Rattle.standard_calls.proofs.Manners.{whole_integer, whole_text_and_integer}
use Rattle.standard_calls.proofs.whole.come_whole.Goals as goal

pub returns-in-Integer-clause-came : goal.returns-in-Integer-clause-came
returns-in-Integer-clause-came c input source image sink =
    let old : Parts = parts c.args.texts.now input source image sink c.args.words.now in
    let ei : to_z w64 (of_z w64 c.in-Integer.i) ≡ c.in-Integer.i = search rules in
    let function : c.in-Integer._function ≡ integer.Blanks = whole_integer c.in-Integer._function (subst (λ k. manner_of (name_of k) ≡ manner.Whole) c.in-Integer.is c.requires.whole) in
    let is : c.args.call ≡ call.Integer integer.Blanks (to_z w64 (of_z w64 c.in-Integer.i)) = c.in-Integer.is ∙ ap (λ f. call.Integer f c.in-Integer.i) function ∙ ap (λ z. call.Integer integer.Blanks z) (sym ei) in
    subst (λ k. CameAs c.blanks.result c.args.budget (name_of k) (operands k) old (parts c.blanks.new.texts input source image sink c.blanks.new.words)) (sym is) (c.blanks.ensures.came input source image sink)

pub returns-in-TextAndInteger-clause-came : goal.returns-in-TextAndInteger-clause-came
returns-in-TextAndInteger-clause-came c input source image sink =
    let old : Parts = parts c.args.texts.now input source image sink c.args.words.now in
    let t = c.in-TextAndInteger.text in
    let ei : to_z w64 (of_z w64 c.in-TextAndInteger.i) ≡ c.in-TextAndInteger.i = search rules in
    let function : c.in-TextAndInteger._function ≡ integer_to.Putint = whole_text_and_integer c.in-TextAndInteger._function (subst (λ k. manner_of (name_of k) ≡ manner.Whole) c.in-TextAndInteger.is c.requires.whole) in
    let is : c.args.call ≡ call.TextAndInteger integer_to.Putint t (to_z w64 (of_z w64 c.in-TextAndInteger.i)) =
    c.in-TextAndInteger.is ∙ ap (λ f. call.TextAndInteger f t c.in-TextAndInteger.i) function ∙ ap (λ z. call.TextAndInteger integer_to.Putint t z) (sym ei) in
    subst (λ k. CameAs c.putint.result c.args.budget (name_of k) (operands k) old (record old { frames = c.putint.new.texts })) (sym is) (c.putint.ensures.came c.args.budget old refl)

pub returns-in-TextAndIntegers-clause-came : goal.returns-in-TextAndIntegers-clause-came
returns-in-TextAndIntegers-clause-came c input source image sink =
    let old : Parts = parts c.args.texts.now input source image sink c.args.words.now in
    let ei : to_z w64 (of_z w64 c.in-TextAndIntegers.i) ≡ c.in-TextAndIntegers.i = search rules in
    let en : to_z w64 (of_z w64 c.in-TextAndIntegers.n) ≡ c.in-TextAndIntegers.n = search rules in
    let is : c.args.call ≡ call.TextAndIntegers c.in-TextAndIntegers.text (to_z w64 (of_z w64 c.in-TextAndIntegers.i)) (to_z w64 (of_z w64 c.in-TextAndIntegers.n)) =
    c.in-TextAndIntegers.is ∙ ap (λ z. call.TextAndIntegers c.in-TextAndIntegers.text z c.in-TextAndIntegers.n) (sym ei) ∙ ap (λ z. call.TextAndIntegers c.in-TextAndIntegers.text (to_z w64 (of_z w64 c.in-TextAndIntegers.i)) z) (sym en) in
    subst (λ k. CameAs c.sub.result c.args.budget (name_of k) (operands k) old (old)) (sym is) (c.sub.ensures.came c.args.budget old)
