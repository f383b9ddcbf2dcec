use Rattle.std.proofs.Common.{◌<◌, length, subst}
use Rattle.std.specs.Prelude.{IfSome}
use Rattle.standard_calls.specs.Calls.{IsScalarValue}
use Rattle.standard_calls.proofs.Slots.{lead_arrays_set, lead_set}
use Rattle.standard_calls.proofs.came.put.Goals as goal

pub returns-in-Some-clause-leads : goal.returns-in-Some-clause-leads
returns-in-Some-clause-leads c =
    let room = subst (λ v. IfSome v (λ s. c.args.at < length c.args.stack.now)) c.in-Some.is c.requires.room in
    let scalar = subst IsScalarValue c.in-Some.is c.requires.scalar in
    λ frames m all. lead_set frames m c.args.stack.now c.args.at c.in-Some.slot room scalar.0 all

pub returns-in-Some-clause-leads_arrays : goal.returns-in-Some-clause-leads_arrays
returns-in-Some-clause-leads_arrays c =
    let room = subst (λ v. IfSome v (λ s. c.args.at < length c.args.stack.now)) c.in-Some.is c.requires.room in
    let scalar = subst IsScalarValue c.in-Some.is c.requires.scalar in
    λ regions arrays all. lead_arrays_set regions arrays c.args.stack.now c.args.at c.in-Some.slot room scalar.1 all
