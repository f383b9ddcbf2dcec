use Rattle.std.proofs.Common.{rules, ◌≡◌, sym, subst, refl, ap, ◌∙◌, to_z, of_z, w64}
use Rattle.standard_calls.specs.declared.calls.OfTextAndInteger.TheVariants as integer_to
use Rattle.standard_calls.specs.declared.calls.Call.TheVariants as call
use Rattle.standard_calls.specs.declared.manner.Manner.TheVariants as manner
use Rattle.standard_calls.specs.Calls.{CameAs, name_of, operands}
use Rattle.standard_calls.specs.Performed.{Parts, parts}
use Rattle.standard_calls.specs.Quiet.{manner_of}
use Rattle.standard_calls.proofs.Manners.{scan_text_and_integer}
use Rattle.standard_calls.proofs.scan.come_scan.Goals as goal

pub returns-in-TextAndInteger-clause-came : goal.returns-in-TextAndInteger-clause-came
returns-in-TextAndInteger-clause-came c budget words input source image sink =
    let old : Parts = parts c.args.texts.now input source image sink words in
    let t = c.in-TextAndInteger.text in
    let ei : to_z w64 (of_z w64 c.in-TextAndInteger.i) ≡ c.in-TextAndInteger.i = search rules in
    let function : c.in-TextAndInteger._function ≡ integer_to.Setpos = scan_text_and_integer c.in-TextAndInteger._function (subst (λ k. manner_of (name_of k) ≡ manner.Scan) c.in-TextAndInteger.is c.requires.scan) in
    let is : c.args.call ≡ call.TextAndInteger integer_to.Setpos t (to_z w64 (of_z w64 c.in-TextAndInteger.i)) =
    c.in-TextAndInteger.is ∙ ap (λ f. call.TextAndInteger f t c.in-TextAndInteger.i) function ∙ ap (λ z. call.TextAndInteger integer_to.Setpos t z) (sym ei) in
    subst (λ k. CameAs c.setpos.result budget (name_of k) (operands k) old old) (sym is) (c.setpos.ensures.came budget old refl)

pub returns-in-TextAndCharacter-clause-came : goal.returns-in-TextAndCharacter-clause-came
returns-in-TextAndCharacter-clause-came c budget words input source image sink =
    let old : Parts = parts c.args.texts.now input source image sink words in
    subst (λ k. CameAs c.putchar.result budget (name_of k) (operands k) old (record old { frames = c.putchar.new.texts })) (sym c.in-TextAndCharacter.is) (c.putchar.ensures.came budget old refl)
