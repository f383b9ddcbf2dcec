use Rattle.std.proofs.Common.{rules, ◌≡◌, sym, subst, ap, ◌∙◌, to_z, of_z, w64}
use Rattle.standard_calls.specs.declared.calls.Call.TheVariants as call
use Rattle.standard_calls.specs.Calls.{CameAs, name_of, operands}
use Rattle.standard_calls.proofs.plain.come_plain.Goals as goal

pub returns-in-Integer-clause-came : goal.returns-in-Integer-clause-came
returns-in-Integer-clause-came c budget p =
    let ei : to_z w64 (of_z w64 c.in-Integer.i) ≡ c.in-Integer.i = search rules in
    let is : c.args.call ≡ call.Integer c.in-Integer.function (to_z w64 (of_z w64 c.in-Integer.i)) = c.in-Integer.is ∙ ap (λ z. call.Integer c.in-Integer.function z) (sym ei) in
    subst (λ k. CameAs c.of_integer.result budget (name_of k) (operands k) p p) (sym is) (c.of_integer.ensures.came budget p)

pub returns-in-Integers-clause-came : goal.returns-in-Integers-clause-came
returns-in-Integers-clause-came c budget p =
    let ei : to_z w64 (of_z w64 c.in-Integers.i) ≡ c.in-Integers.i = search rules in
    let ej : to_z w64 (of_z w64 c.in-Integers.j) ≡ c.in-Integers.j = search rules in
    let is : c.args.call ≡ call.Integers c.in-Integers.function (to_z w64 (of_z w64 c.in-Integers.i)) (to_z w64 (of_z w64 c.in-Integers.j)) =
    c.in-Integers.is ∙ ap (λ z. call.Integers c.in-Integers.function z c.in-Integers.j) (sym ei) ∙ ap (λ z. call.Integers c.in-Integers.function (to_z w64 (of_z w64 c.in-Integers.i)) z) (sym ej) in
    subst (λ k. CameAs c.of_integers.result budget (name_of k) (operands k) p p) (sym is) (c.of_integers.ensures.came budget p)
