use Rattle.std.proofs.Common.{rules, ◌≡◌, subst}
use Rattle.sim_code.specs.declared.ending.Ending.TheVariants as answer
use Rattle.object_machine.specs.Running.{HasEnded}
use Rattle.object_machine.proofs.Closings.{bad_code, broken_rule}
use Rattle.object_machine.proofs.ending.without_rule.Goals as goal

pub returns-in-Ok-clause-ran : goal.returns-in-Ok-clause-ran
returns-in-Ok-clause-ran c code l from line p r stack below before now faults faults_now s =
    let q : c.args.at ≡ c.in-Ok.at = search rules in
    subst (λ n. HasEnded code l from (answer.BadCode n) before now.sink) q (bad_code code l from line c.args.at p r stack below before now s)

pub returns-in-Err-clause-ran : goal.returns-in-Err-clause-ran
returns-in-Err-clause-ran c code l from line p r stack below before now faults faults_now s = broken_rule code l from line c.args.at p r stack below before now s
