use Rattle.std.proofs.Common.{sym, subst, ap, ◌∙◌}
use Rattle.std.specs.Prelude.{Some, None}
use Rattle.standard_calls.specs.declared.came.Came.TheVariants as came
use Rattle.sim_code.specs.Rows.{with_value}
use Rattle.standard_calls.specs.Calls.{CameAs, plain_value}
use Rattle.standard_calls.proofs.Settling.{settled_cut, settled_done, settled_fault, settled_full}
use Rattle.standard_calls.proofs.came.settle.Goals as goal

pub returns-in-Some-clause-row : goal.returns-in-Some-clause-row
returns-in-Some-clause-row c = λ budget n depth slots vs old new same takes did.
    settled_done budget n vs depth slots c.args.at old new takes c.in-Done.value (Some c.in-Some.text) c.put-depth.result c.put-depth.new.stack (c.put-depth.ensures.values ∙ ap (with_value (plain_value c.in-Done.value)) (sym same))
    (subst (λ z. CameAs z budget n vs old new) (c.in-Done.is ∙ ap (came.Done c.in-Done.value) c.in-Some.is) did)

pub returns-in-None-clause-row : goal.returns-in-None-clause-row
returns-in-None-clause-row c = λ budget n depth slots vs old new same takes did.
    settled_done budget n vs depth slots c.args.at old new takes c.in-Done.value None c.put-depth.result c.put-depth.new.stack (c.put-depth.ensures.values ∙ ap (with_value (plain_value c.in-Done.value)) (sym same))
    (subst (λ z. CameAs z budget n vs old new) (c.in-Done.is ∙ ap (came.Done c.in-Done.value) c.in-None.is) did)

pub returns-in-Fault-clause-row : goal.returns-in-Fault-clause-row
returns-in-Fault-clause-row c = λ budget n depth slots vs old new same takes did.
    settled_fault budget n vs depth slots c.args.at old new takes c.in-Fault.error c.args.stack.now (subst (λ z. CameAs z budget n vs old new) c.in-Fault.is did)

pub returns-in-Full-clause-row : goal.returns-in-Full-clause-row
returns-in-Full-clause-row c = λ budget n depth slots vs old new same takes did.
    settled_full budget n vs depth slots c.args.at old new takes c.in-Full.wanted c.args.stack.now (subst (λ z. CameAs z budget n vs old new) c.in-Full.is did)

pub returns-in-WriteFault-clause-row : goal.returns-in-WriteFault-clause-row
returns-in-WriteFault-clause-row c = λ budget n depth slots vs old new same takes did.
    settled_cut budget n vs depth slots c.args.at old new takes (subst (λ z. CameAs z budget n vs old new) c.in-WriteFault.is did)
