use Rattle.std.proofs.Common.{rules, to_z, of_z, w64, ◌≡◌, ◌∙◌, ap, sym}
use Rattle.std.specs.Prelude.{Some}
use Rattle.sim_code.specs.Events.{having}
use Rattle.sim_code.specs.Machine.{level}
use Rattle.object_machine.proofs.cells.near_span.Goals as goal

pub returns-in-Some-clause-row : goal.returns-in-Some-clause-row
returns-in-Some-clause-row c cells m a o go h led ea =
    let e : to_z w64 (of_z w64 c.args.operand) ≡ c.args.operand = search rules in
    ap (λ z. level m a z o go) (sym e) ∙ c.level_span.ensures.row cells m a o go h led ea

pub returns-in_default-level_frame-clause-row : goal.returns-in_default-level_frame-clause-row
returns-in_default-level_frame-clause-row c cells m a o go h led ea =
    let e : to_z w64 (of_z w64 c.args.operand) ≡ c.args.operand = search rules in
    ap (λ z. level m a z o go) (sym e) ∙ c.in_default-level_frame.ensures.row cells m a o go h led ea

pub returns-clause-row : goal.returns-clause-row
returns-clause-row c cells m a o go h led ea =
    let e : to_z w64 (of_z w64 c.args.operand) ≡ c.args.operand = search rules in
    ap (λ z. level m a z o go) (sym e) ∙ c.in-Some-level_frame.ensures.row cells m a o go h led ea
    ∙ ap (λ n. having (Some n) o go) (sym (c.span_at.ensures.number ∙ c.in-Some-level_frame.ensures.there.2))
