use Rattle.std.proofs.Common.{ap, sym, subst, ◌∙◌, ◌∷◌}
use Rattle.sim_code.specs.Events.{answering}
use Rattle.sim_code.specs.Machine.{Of}
use Rattle.frame_arena.specs.Operators.{IsScalar, answer_in}
use Rattle.frame_arena.specs.Slots.{value_of}
use Rattle.frame_arena.specs.Stacks.{values_of}
use Rattle.frame_arena.proofs.Leading.{all_lead_set, all_lead_arrays_set, no_frame_leads, no_array_leads}
use Rattle.frame_arena.proofs.Operands.{answer_value, answer_none, answer_error}
use Rattle.frame_arena.proofs.Tops.{written}
use Rattle.frame_arena.proofs.operators.put.Goals as goal

pub returns-in-Value-clause-leads : goal.returns-in-Value-clause-leads
returns-in-Value-clause-leads c frames m all =
    let scalar = subst IsScalar c.in-Value.is c.requires.scalar in
    all_lead_set frames m c.args.stack.now c.args.at c.in-Value.slot c.requires.there all (no_frame_leads frames m c.in-Value.slot scalar.0)

pub returns-in-Value-clause-leads_arrays : goal.returns-in-Value-clause-leads_arrays
returns-in-Value-clause-leads_arrays c regions arrays all =
    let scalar = subst IsScalar c.in-Value.is c.requires.scalar in
    all_lead_arrays_set regions arrays c.args.stack.now c.args.at c.in-Value.slot c.requires.there all (no_array_leads regions arrays c.in-Value.slot scalar.1)

pub returns-in-Value-clause-row : goal.returns-in-Value-clause-row
returns-in-Value-clause-row c line o go =
    let scalar = subst IsScalar c.in-Value.is c.requires.scalar in
    ap (λ x. answering line (answer_in x) o (λ z. go (Of z ∷ values_of c.args.at c.args.stack.now))) c.in-Value.is
    ∙ answer_value line o go (value_of c.in-Value.slot) (values_of c.args.at c.args.stack.now) scalar.2
    ∙ ap go (sym (written c.args.at c.args.stack.now c.in-Value.slot c.requires.there))

pub returns-in-NoRule-clause-row : goal.returns-in-NoRule-clause-row
returns-in-NoRule-clause-row c line o go =
    ap (λ x. answering line (answer_in x) o (λ z. go (Of z ∷ values_of c.args.at c.args.stack.now))) c.in-NoRule.is
    ∙ answer_none line o go (values_of c.args.at c.args.stack.now)

pub returns-in-Fault-clause-row : goal.returns-in-Fault-clause-row
returns-in-Fault-clause-row c line o go =
    ap (λ x. answering line (answer_in x) o (λ z. go (Of z ∷ values_of c.args.at c.args.stack.now))) c.in-Fault.is
    ∙ answer_error line o go c.in-Fault.error (values_of c.args.at c.args.stack.now)
