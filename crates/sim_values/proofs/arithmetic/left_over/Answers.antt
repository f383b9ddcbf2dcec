use Rattle.std.proofs.Common.{◌∙◌, rules, w64}
use Rattle.std.proofs.lemmas.Int.{to_z-of_z}
use Rattle.sim_values.proofs.Remainders.{int_rem-left_over}
use Rattle.sim_values.proofs.arithmetic.left_over.Goals as goal

pub returns : goal.returns
returns c =
    let a-is = to_z-of_z w64 c.args.a c.ranges.a in
    let b-is = to_z-of_z w64 c.args.b c.ranges.b in
    to_z-of_z w64 c.wrapping_rem.result (search rules)
    ∙ simp (a-is, b-is) at c.wrapping_rem.ensures
    ∙ int_rem-left_over c.args.a c.args.b
