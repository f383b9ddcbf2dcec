use Rattle.std.proofs.Common.{rules, to_z, of_z, w64, ◌≡◌, ◌≤◌, length, ap, sym, subst, refl, ◌∙◌}
use Rattle.std.proofs.lemmas.List.{with_items_is, places}
use Rattle.sim_code.specs.declared.instr.Instr.TheVariants as i
use Rattle.object_machine.specs.Standing.{outside}
use Rattle.object_machine.proofs.Going.{for_instr_in, obeys_stacks}
use Rattle.object_machine.proofs.ScheduledNames.{for_block_name}
use Rattle.object_machine.proofs.Taking.{std_takes, step_unread}
use Rattle.object_machine.proofs.Whole.{flow_still, input_still, still_same}
use Rattle.object_machine.proofs.stepping.step.Goals as goal

pub returns-in-None-clause-row : goal.returns-in-None-clause-row
returns-in-None-clause-row g c s e =
    let l = c.args.limits.now in
    let ename : to_z w64 (of_z w64 c.in-Std.operand) ≡ c.in-Std.operand = search rules in
    let w = c.standard.ensures.row s e in (
      w.0,
      w.1,
      (
        w.2.0,
        λ code line e1 e2 e3 e4 e5 e6.
            for_instr_in c.standard.result code l line _ _ _ _ _ _ _ _ _ _ c.args.instr (i.Std (to_z w64 (of_z w64 c.in-Std.operand))) (c.in-Std.is ∙ ap i.Std (sym ename))
            (obeys_stacks c.standard.result l line _ _ _ _ _ _ c.args.top.now.stack.items _ _ _ _ _ _ c.deref_mut.ensures.value (with_items_is c.args.top.now.stack c.standard.new.stack (search (rules, places)))
            (w.2.1 code line c.args.below.now.items)),
      ),
    )

pub returns-in-None-clause-takes : goal.returns-in-None-clause-takes
returns-in-None-clause-takes g c s e code line =
    let ename : to_z w64 (of_z w64 c.in-Std.operand) ≡ c.in-Std.operand = search rules in
    std_takes code c.args.limits.now line _ _ _ c.args.top.now.stack.items c.args.below.now.items _ c.args.instr (to_z w64 (of_z w64 c.in-Std.operand)) c.args.input.now c.standard.new.input (c.in-Std.is ∙ ap i.Std (sym ename)) c.deref_mut.ensures.value
    (c.standard.ensures.takes s e code line c.args.below.now.items)

pub returns-in-Some-clause-ends : goal.returns-in-Some-clause-ends
returns-in-Some-clause-ends g c = flow_still g.O.Sink.written g.O.Sink.faults c.args.out.now _ c.without_ports.ensures.other

pub returns-in-Some-clause-read : goal.returns-in-Some-clause-read
returns-in-Some-clause-read g c = input_still (g.I.Source.faults c.args.input.now) _ c.without_ports.ensures.read

pub returns-in-Some-clause-row : goal.returns-in-Some-clause-row
returns-in-Some-clause-row g c s e = (
  s,
  e,
  (
    still_same c.without_ports.result (g.O.Sink.written c.args.out.now),
    λ code line e1 e2 e3 e4 e5 e6.
        let l = c.args.limits.now in
        let ename : to_z w64 (of_z w64 c.in-Std.operand) ≡ c.in-Std.operand = search rules in
        let z = to_z w64 (of_z w64 c.in-Std.operand) in
        c.without_ports.ensures.row _ _ _ _ _ _ _ _ _ _ _ _ _
        (for_instr_in _ code l line _ _ _ _ _ _ _ _ _ _ c.args.instr (i.Std z) (c.in-Std.is ∙ ap i.Std (sym ename))
        (for_block_name c.schedule-flow.result code l line z c.in-Some.name c.in-Some.ensures.is c.in-Some.ensures.named _ _ _ _ _ _ _ _ _ _ (c.schedule-flow.ensures.row code l line (outside (g.O.Sink.written c.args.out.now) s) e1 e4))),
  ),
)

pub returns-in-Act-clause-ends : goal.returns-in-Act-clause-ends
returns-in-Act-clause-ends g c = flow_still g.O.Sink.written g.O.Sink.faults c.args.out.now _ c.without_ports-in-Act.ensures.other

pub returns-in-Act-clause-read : goal.returns-in-Act-clause-read
returns-in-Act-clause-read g c = input_still (g.I.Source.faults c.args.input.now) _ c.without_ports-in-Act.ensures.read

pub returns-in-Act-clause-row : goal.returns-in-Act-clause-row
returns-in-Act-clause-row g c s e = (
  s,
  e,
  (
    still_same c.without_ports-in-Act.result (g.O.Sink.written c.args.out.now),
    λ code line e1 e2 e3 e4 e5 e6.
        let l = c.args.limits.now in
        let eoperand : to_z w64 (of_z w64 c.in-Act.operand) ≡ c.in-Act.operand = search rules in
        c.without_ports-in-Act.ensures.row _ _ _ _ _ _ _ _ _ _ _ _ _
        (for_instr_in _ code l line _ _ _ _ _ _ _ _ _ _ c.args.instr (i.Act (to_z w64 (of_z w64 c.in-Act.operand))) (c.in-Act.is ∙ ap i.Act (sym eoperand))
        (c.activate-flow.ensures.row code l line (outside (g.O.Sink.written c.args.out.now) s) e1 e4)),
  ),
)

pub returns-in-AssignT-clause-valid : goal.returns-in-AssignT-clause-valid
returns-in-AssignT-clause-valid g c = record { input = c.assign-flow.ensures.images _ c.requires.images.input; output = c.assign-flow.ensures.images _ c.requires.images.output }

pub returns-in-AssignT-clause-ends : goal.returns-in-AssignT-clause-ends
returns-in-AssignT-clause-ends g c = flow_still g.O.Sink.written g.O.Sink.faults c.args.out.now _ c.without_ports-in-AssignT.ensures.other

pub returns-in-AssignT-clause-read : goal.returns-in-AssignT-clause-read
returns-in-AssignT-clause-read g c = input_still (g.I.Source.faults c.args.input.now) _ c.without_ports-in-AssignT.ensures.read

pub returns-in-AssignT-clause-row : goal.returns-in-AssignT-clause-row
returns-in-AssignT-clause-row g c s e = (
  s,
  e,
  (
    still_same c.without_ports-in-AssignT.result (g.O.Sink.written c.args.out.now),
    λ code line e1 e2 e3 e4 e5 e6.
        let l = c.args.limits.now in
        c.without_ports-in-AssignT.ensures.row _ _ _ _ _ _ _ _ _ _ _ _ _
        (for_instr_in _ code l line _ _ _ _ _ _ _ _ _ _ c.args.instr i.AssignT c.in-AssignT.is
        (obeys_stacks c.assign-flow.result l line _ _ _ _ _ _ c.args.top.now.stack.items _ _ _ _ _ _ c.deref.ensures.value (sym c.deref.ensures.value)
        (c.assign-flow.ensures.row l line c.args.storage.now _ c.args.below.now.items (outside (g.O.Sink.written c.args.out.now) s) refl refl))),
  ),
)

pub returns-in-TextK-clause-ends : goal.returns-in-TextK-clause-ends
returns-in-TextK-clause-ends g c = flow_still g.O.Sink.written g.O.Sink.faults c.args.out.now _ c.without_ports-in-TextK.ensures.other

pub returns-in-TextK-clause-read : goal.returns-in-TextK-clause-read
returns-in-TextK-clause-read g c = input_still (g.I.Source.faults c.args.input.now) _ c.without_ports-in-TextK.ensures.read

pub returns-in-TextK-clause-row : goal.returns-in-TextK-clause-row
returns-in-TextK-clause-row g c s e = (
  s,
  e,
  (
    still_same c.without_ports-in-TextK.result (g.O.Sink.written c.args.out.now),
    λ code line e1 e2 e3 e4 e5 e6.
        let l = c.args.limits.now in
        let enumber : to_z w64 (of_z w64 c.in-TextK.number) ≡ c.in-TextK.number = search rules in
        c.without_ports-in-TextK.ensures.row _ _ _ _ _ _ _ _ _ _ _ _ _
        (for_instr_in _ code l line _ _ _ _ _ _ _ _ _ _ c.args.instr (i.TextK (to_z w64 (of_z w64 c.in-TextK.number))) (c.in-TextK.is ∙ ap i.TextK (sym enumber))
        (obeys_stacks c.constant-flow.result l line _ _ _ _ _ _ c.args.top.now.stack.items _ _ _ _ _ _ c.deref_mut-in-TextK.ensures.value (with_items_is c.args.top.now.stack c.constant-flow.new.stack (search (rules, places)))
        (c.constant-flow.ensures.row code l line c.args.storage.now c.args.below.now.items (outside (g.O.Sink.written c.args.out.now) s) e3))),
  ),
)

pub returns-in-Thunk-clause-ends : goal.returns-in-Thunk-clause-ends
returns-in-Thunk-clause-ends g c = flow_still g.O.Sink.written g.O.Sink.faults c.args.out.now _ c.without_ports-in-Thunk.ensures.other

pub returns-in-Thunk-clause-read : goal.returns-in-Thunk-clause-read
returns-in-Thunk-clause-read g c = input_still (g.I.Source.faults c.args.input.now) _ c.without_ports-in-Thunk.ensures.read

pub returns-in-Thunk-clause-row : goal.returns-in-Thunk-clause-row
returns-in-Thunk-clause-row g c s e = (
  s,
  e,
  (
    still_same c.without_ports-in-Thunk.result (g.O.Sink.written c.args.out.now),
    λ code line e1 e2 e3 e4 e5 e6.
        let l = c.args.limits.now in
        let enumber : to_z w64 (of_z w64 c.in-Thunk.number) ≡ c.in-Thunk.number = search rules in
        c.without_ports-in-Thunk.ensures.row _ _ _ _ _ _ _ _ _ _ _ _ _
        (for_instr_in _ code l line _ _ _ _ _ _ _ _ _ _ c.args.instr (i.Thunk (to_z w64 (of_z w64 c.in-Thunk.number))) (c.in-Thunk.is ∙ ap i.Thunk (sym enumber))
        (obeys_stacks c.push_thunk-flow.result l line _ _ _ _ _ _ c.args.top.now.stack.items _ _ _ _ _ _ c.deref_mut-in-Thunk.ensures.value (with_items_is c.args.top.now.stack c.push_thunk-flow.new.stack (search (rules, places)))
        (c.push_thunk-flow.ensures.row code l line c.args.storage.now c.args.below.now.items (outside (g.O.Sink.written c.args.out.now) s) e6))),
  ),
)

pub returns-in-NameVal-clause-ends : goal.returns-in-NameVal-clause-ends
returns-in-NameVal-clause-ends g c = flow_still g.O.Sink.written g.O.Sink.faults c.args.out.now _ c.without_ports-in-NameVal.ensures.other

pub returns-in-NameVal-clause-read : goal.returns-in-NameVal-clause-read
returns-in-NameVal-clause-read g c = input_still (g.I.Source.faults c.args.input.now) _ c.without_ports-in-NameVal.ensures.read

pub returns-in-NameVal-clause-row : goal.returns-in-NameVal-clause-row
returns-in-NameVal-clause-row g c s e = (
  s,
  e,
  (
    still_same c.without_ports-in-NameVal.result (g.O.Sink.written c.args.out.now),
    λ code line e1 e2 e3 e4 e5 e6.
        let elevel : to_z w64 (of_z w64 c.in-NameVal.level) ≡ c.in-NameVal.level = search rules in
        let ecell : to_z w64 (of_z w64 c.in-NameVal.cell) ≡ c.in-NameVal.cell = search rules in
        let elast : to_z w64 (of_z w64 c.in-NameVal.class) ≡ c.in-NameVal.class = search rules in
        c.without_ports-in-NameVal.ensures.row _ _ _ _ _ _ _ _ _ _ _ _ _
        (for_instr_in _ code c.args.limits.now line _ _ _ _ _ _ _ _ _ _ c.args.instr (i.NameVal (to_z w64 (of_z w64 c.in-NameVal.level)) (to_z w64 (of_z w64 c.in-NameVal.cell)) (to_z w64 (of_z w64 c.in-NameVal.class)))
        (c.in-NameVal.is ∙ ap (λ z. i.NameVal z c.in-NameVal.cell c.in-NameVal.class) (sym elevel) ∙ ap (λ z. i.NameVal (to_z w64 (of_z w64 c.in-NameVal.level)) z c.in-NameVal.class) (sym ecell) ∙ ap (λ z. i.NameVal (to_z w64 (of_z w64 c.in-NameVal.level)) (to_z w64 (of_z w64 c.in-NameVal.cell)) z) (sym elast))
        (c.use_value-flow.ensures.row code line (outside (g.O.Sink.written c.args.out.now) s) e4 e6 e2)),
  ),
)

pub returns-in-NameAddr-clause-ends : goal.returns-in-NameAddr-clause-ends
returns-in-NameAddr-clause-ends g c = flow_still g.O.Sink.written g.O.Sink.faults c.args.out.now _ c.without_ports-in-NameAddr.ensures.other

pub returns-in-NameAddr-clause-read : goal.returns-in-NameAddr-clause-read
returns-in-NameAddr-clause-read g c = input_still (g.I.Source.faults c.args.input.now) _ c.without_ports-in-NameAddr.ensures.read

pub returns-in-NameAddr-clause-row : goal.returns-in-NameAddr-clause-row
returns-in-NameAddr-clause-row g c s e = (
  s,
  e,
  (
    still_same c.without_ports-in-NameAddr.result (g.O.Sink.written c.args.out.now),
    λ code line e1 e2 e3 e4 e5 e6.
        let elevel : to_z w64 (of_z w64 c.in-NameAddr.level) ≡ c.in-NameAddr.level = search rules in
        let ecell : to_z w64 (of_z w64 c.in-NameAddr.cell) ≡ c.in-NameAddr.cell = search rules in
        let elast : to_z w64 (of_z w64 c.in-NameAddr.value) ≡ c.in-NameAddr.value = search rules in
        c.without_ports-in-NameAddr.ensures.row _ _ _ _ _ _ _ _ _ _ _ _ _
        (for_instr_in _ code c.args.limits.now line _ _ _ _ _ _ _ _ _ _ c.args.instr (i.NameAddr (to_z w64 (of_z w64 c.in-NameAddr.level)) (to_z w64 (of_z w64 c.in-NameAddr.cell)) (to_z w64 (of_z w64 c.in-NameAddr.value)))
        (c.in-NameAddr.is ∙ ap (λ z. i.NameAddr z c.in-NameAddr.cell c.in-NameAddr.value) (sym elevel) ∙ ap (λ z. i.NameAddr (to_z w64 (of_z w64 c.in-NameAddr.level)) z c.in-NameAddr.value) (sym ecell) ∙ ap (λ z. i.NameAddr (to_z w64 (of_z w64 c.in-NameAddr.level)) (to_z w64 (of_z w64 c.in-NameAddr.cell)) z) (sym elast))
        (c.use_place-flow.ensures.row code line (outside (g.O.Sink.written c.args.out.now) s) e6 e2)),
  ),
)

pub returns-in-EndThunk-clause-ends : goal.returns-in-EndThunk-clause-ends
returns-in-EndThunk-clause-ends g c = flow_still g.O.Sink.written g.O.Sink.faults c.args.out.now _ c.without_ports-in-EndThunk.ensures.other

pub returns-in-EndThunk-clause-read : goal.returns-in-EndThunk-clause-read
returns-in-EndThunk-clause-read g c = input_still (g.I.Source.faults c.args.input.now) _ c.without_ports-in-EndThunk.ensures.read

pub returns-in-EndThunk-clause-row : goal.returns-in-EndThunk-clause-row
returns-in-EndThunk-clause-row g c s e = (
  s,
  e,
  (
    still_same c.without_ports-in-EndThunk.result (g.O.Sink.written c.args.out.now),
    λ code line e1 e2 e3 e4 e5 e6.
        c.without_ports-in-EndThunk.ensures.row _ _ _ _ _ _ _ _ _ _ _ _ _
        (for_instr_in _ code c.args.limits.now line _ _ _ _ _ _ _ _ _ _ c.args.instr i.EndThunk c.in-EndThunk.is (c.end_thunk-flow.ensures.row code line (outside (g.O.Sink.written c.args.out.now) s) e1 e2 e4)),
  ),
)

pub returns-in-Leave-clause-ends : goal.returns-in-Leave-clause-ends
returns-in-Leave-clause-ends g c = flow_still g.O.Sink.written g.O.Sink.faults c.args.out.now _ c.without_ports-in-Leave.ensures.other

pub returns-in-Leave-clause-read : goal.returns-in-Leave-clause-read
returns-in-Leave-clause-read g c = input_still (g.I.Source.faults c.args.input.now) _ c.without_ports-in-Leave.ensures.read

pub returns-in-Leave-clause-row : goal.returns-in-Leave-clause-row
returns-in-Leave-clause-row g c s e = (
  s,
  e,
  (
    still_same c.without_ports-in-Leave.result (g.O.Sink.written c.args.out.now),
    λ code line e1 e2 e3 e4 e5 e6.
        c.without_ports-in-Leave.ensures.row _ _ _ _ _ _ _ _ _ _ _ _ _
        (for_instr_in _ code c.args.limits.now line _ _ _ _ _ _ _ _ _ _ c.args.instr i.Leave c.in-Leave.is (c.leave-flow.ensures.row code c.args.limits.now line (outside (g.O.Sink.written c.args.out.now) s) e1)),
  ),
)

pub returns-in-Return-clause-ends : goal.returns-in-Return-clause-ends
returns-in-Return-clause-ends g c = flow_still g.O.Sink.written g.O.Sink.faults c.args.out.now _ c.without_ports-in-Return.ensures.other

pub returns-in-Return-clause-read : goal.returns-in-Return-clause-read
returns-in-Return-clause-read g c = input_still (g.I.Source.faults c.args.input.now) _ c.without_ports-in-Return.ensures.read

pub returns-in-Return-clause-row : goal.returns-in-Return-clause-row
returns-in-Return-clause-row g c s e = (
  s,
  e,
  (
    still_same c.without_ports-in-Return.result (g.O.Sink.written c.args.out.now),
    λ code line e1 e2 e3 e4 e5 e6.
        c.without_ports-in-Return.ensures.row _ _ _ _ _ _ _ _ _ _ _ _ _
        (for_instr_in _ code c.args.limits.now line _ _ _ _ _ _ _ _ _ _ c.args.instr i.Return c.in-Return.is (c.give_result-flow.ensures.row code c.args.limits.now line (outside (g.O.Sink.written c.args.out.now) s) e1)),
  ),
)

pub returns-in-Detach-clause-ends : goal.returns-in-Detach-clause-ends
returns-in-Detach-clause-ends g c = flow_still g.O.Sink.written g.O.Sink.faults c.args.out.now _ c.without_ports-in-Detach.ensures.other

pub returns-in-Detach-clause-read : goal.returns-in-Detach-clause-read
returns-in-Detach-clause-read g c = input_still (g.I.Source.faults c.args.input.now) _ c.without_ports-in-Detach.ensures.read

pub returns-in-Detach-clause-row : goal.returns-in-Detach-clause-row
returns-in-Detach-clause-row g c s e = (
  s,
  e,
  (
    still_same c.without_ports-in-Detach.result (g.O.Sink.written c.args.out.now),
    λ code line e1 e2 e3 e4 e5 e6.
        c.without_ports-in-Detach.ensures.row _ _ _ _ _ _ _ _ _ _ _ _ _
        (for_instr_in _ code c.args.limits.now line _ _ _ _ _ _ _ _ _ _ c.args.instr i.Detach c.in-Detach.is (c.detach-flow.ensures.row c.args.limits.now line (outside (g.O.Sink.written c.args.out.now) s))),
  ),
)

pub returns-in-Attach-clause-ends : goal.returns-in-Attach-clause-ends
returns-in-Attach-clause-ends g c = flow_still g.O.Sink.written g.O.Sink.faults c.args.out.now _ c.without_ports-in-Attach.ensures.other

pub returns-in-Attach-clause-read : goal.returns-in-Attach-clause-read
returns-in-Attach-clause-read g c = input_still (g.I.Source.faults c.args.input.now) _ c.without_ports-in-Attach.ensures.read

pub returns-in-Attach-clause-row : goal.returns-in-Attach-clause-row
returns-in-Attach-clause-row g c s e = (
  s,
  e,
  (
    still_same c.without_ports-in-Attach.result (g.O.Sink.written c.args.out.now),
    λ code line e1 e2 e3 e4 e5 e6.
        c.without_ports-in-Attach.ensures.row _ _ _ _ _ _ _ _ _ _ _ _ _
        (for_instr_in _ code c.args.limits.now line _ _ _ _ _ _ _ _ _ _ c.args.instr i.Attach c.in-Attach.is (c.attach-flow.ensures.row c.args.limits.now line (outside (g.O.Sink.written c.args.out.now) s))),
  ),
)

pub returns-in-Resume-clause-ends : goal.returns-in-Resume-clause-ends
returns-in-Resume-clause-ends g c = flow_still g.O.Sink.written g.O.Sink.faults c.args.out.now _ c.without_ports-in-Resume.ensures.other

pub returns-in-Resume-clause-read : goal.returns-in-Resume-clause-read
returns-in-Resume-clause-read g c = input_still (g.I.Source.faults c.args.input.now) _ c.without_ports-in-Resume.ensures.read

pub returns-in-Resume-clause-row : goal.returns-in-Resume-clause-row
returns-in-Resume-clause-row g c s e = (
  s,
  e,
  (
    still_same c.without_ports-in-Resume.result (g.O.Sink.written c.args.out.now),
    λ code line e1 e2 e3 e4 e5 e6.
        c.without_ports-in-Resume.ensures.row _ _ _ _ _ _ _ _ _ _ _ _ _
        (for_instr_in _ code c.args.limits.now line _ _ _ _ _ _ _ _ _ _ c.args.instr i.Resume c.in-Resume.is (c.resume-flow.ensures.row c.args.limits.now line (outside (g.O.Sink.written c.args.out.now) s))),
  ),
)

pub returns-in_default : goal.returns-in_default
returns-in_default g c =
    let l = c.args.limits.now in
    let is = with_items_is c.args.top.now.stack c.obey_other-flow.new.stack (search (rules, places)) in
    record {
      fits = subst (λ s. c.obey_other-flow.new.regs.depth ≤ length s) (sym is) c.obey_other-flow.ensures.fits;
      others = c.requires.others;
      valid = c.obey_other-flow.ensures.valid;
      ends = flow_still g.O.Sink.written g.O.Sink.faults c.args.out.now _ c.without_ports-in_default.ensures.other;
      read = input_still (g.I.Source.faults c.args.input.now) _ c.without_ports-in_default.ensures.read;
      takes = λ s e code line. step_unread l _ _ _ _ _ _ c.args.input.now;
      row = λ s e. (
        s,
        e,
        (
          still_same c.without_ports-in_default.result (g.O.Sink.written c.args.out.now),
          λ code line e1 e2 e3 e4 e5 e6.
              c.without_ports-in_default.ensures.row _ _ _ _ _ _ _ _ _ _ _ _ _
              (obeys_stacks c.obey_other-flow.result l line _ _ _ _ _ _ c.args.top.now.stack.items _ _ _ _ _ _ c.deref_mut-in_default.ensures.value is
              (c.obey_other-flow.ensures.row code line c.args.below.now.items (outside (g.O.Sink.written c.args.out.now) s) e1 e4)),
        ),
      );
    }

pub returns-in-Enter-clause-ends : goal.returns-in-Enter-clause-ends
returns-in-Enter-clause-ends g c = flow_still g.O.Sink.written g.O.Sink.faults c.args.out.now _ c.without_ports-in-Enter.ensures.other

pub returns-in-Enter-clause-read : goal.returns-in-Enter-clause-read
returns-in-Enter-clause-read g c = input_still (g.I.Source.faults c.args.input.now) _ c.without_ports-in-Enter.ensures.read

pub returns-in-Enter-clause-row : goal.returns-in-Enter-clause-row
returns-in-Enter-clause-row g c s e = (
  s,
  e,
  (
    still_same c.without_ports-in-Enter.result (g.O.Sink.written c.args.out.now),
    λ code line e1 e2 e3 e4 e5 e6.
        let eblock : to_z w64 (of_z w64 c.in-Enter.block) ≡ c.in-Enter.block = search rules in
        c.without_ports-in-Enter.ensures.row _ _ _ _ _ _ _ _ _ _ _ _ _
        (for_instr_in _ code c.args.limits.now line _ _ _ _ _ _ _ _ _ _ c.args.instr (i.Enter (to_z w64 (of_z w64 c.in-Enter.block))) (c.in-Enter.is ∙ ap i.Enter (sym eblock)) (c.enter-flow.ensures.row code line (outside (g.O.Sink.written c.args.out.now) s) e1 e2)),
  ),
)

pub returns-in-Call-clause-ends : goal.returns-in-Call-clause-ends
returns-in-Call-clause-ends g c = flow_still g.O.Sink.written g.O.Sink.faults c.args.out.now _ c.without_ports-in-Call.ensures.other

pub returns-in-Call-clause-read : goal.returns-in-Call-clause-read
returns-in-Call-clause-read g c = input_still (g.I.Source.faults c.args.input.now) _ c.without_ports-in-Call.ensures.read

pub returns-in-Call-clause-row : goal.returns-in-Call-clause-row
returns-in-Call-clause-row g c s e = (
  s,
  e,
  (
    still_same c.without_ports-in-Call.result (g.O.Sink.written c.args.out.now),
    λ code line e1 e2 e3 e4 e5 e6.
        let eblock : to_z w64 (of_z w64 c.in-Call.block) ≡ c.in-Call.block = search rules in
        let evalues : to_z w64 (of_z w64 c.in-Call.values) ≡ c.in-Call.values = search rules in
        c.without_ports-in-Call.ensures.row _ _ _ _ _ _ _ _ _ _ _ _ _
        (for_instr_in _ code c.args.limits.now line _ _ _ _ _ _ _ _ _ _ c.args.instr (i.Call (to_z w64 (of_z w64 c.in-Call.block)) (to_z w64 (of_z w64 c.in-Call.values)))
        (c.in-Call.is ∙ ap (λ z. i.Call z c.in-Call.values) (sym eblock) ∙ ap (λ z. i.Call (to_z w64 (of_z w64 c.in-Call.block)) z) (sym evalues))
        (c.call-flow.ensures.row code line (outside (g.O.Sink.written c.args.out.now) s) e1 e2)),
  ),
)

pub returns-in-Check-clause-ends : goal.returns-in-Check-clause-ends
returns-in-Check-clause-ends g c = flow_still g.O.Sink.written g.O.Sink.faults c.args.out.now _ c.without_ports-in-Check.ensures.other

pub returns-in-Check-clause-read : goal.returns-in-Check-clause-read
returns-in-Check-clause-read g c = input_still (g.I.Source.faults c.args.input.now) _ c.without_ports-in-Check.ensures.read

pub returns-in-Check-clause-row : goal.returns-in-Check-clause-row
returns-in-Check-clause-row g c s e = (
  s,
  e,
  (
    still_same c.without_ports-in-Check.result (g.O.Sink.written c.args.out.now),
    λ code line e1 e2 e3 e4 e5 e6.
        let l = c.args.limits.now in
        let elist : to_z w64 (of_z w64 c.in-Check.list) ≡ c.in-Check.list = search rules in
        c.without_ports-in-Check.ensures.row _ _ _ _ _ _ _ _ _ _ _ _ _
        (for_instr_in _ code l line _ _ _ _ _ _ _ _ _ _ c.args.instr (i.Check (to_z w64 (of_z w64 c.in-Check.list))) (c.in-Check.is ∙ ap i.Check (sym elist))
        (obeys_stacks c.check_actuals-flow.result l line _ _ _ _ _ _ c.args.top.now.stack.items _ _ _ _ _ _ c.deref-in-Check-2.ensures.value (sym c.deref-in-Check-2.ensures.value)
        (c.check_actuals-flow.ensures.row code l line c.args.storage.now c.args.below.now.items (outside (g.O.Sink.written c.args.out.now) s) e1 e4 e5 (sym c.deref-in-Check.ensures.value)))),
  ),
)

pub returns-in-Param-clause-ends : goal.returns-in-Param-clause-ends
returns-in-Param-clause-ends g c = flow_still g.O.Sink.written g.O.Sink.faults c.args.out.now _ c.without_ports-in-Param.ensures.other

pub returns-in-Param-clause-read : goal.returns-in-Param-clause-read
returns-in-Param-clause-read g c = input_still (g.I.Source.faults c.args.input.now) _ c.without_ports-in-Param.ensures.read

pub returns-in-Param-clause-row : goal.returns-in-Param-clause-row
returns-in-Param-clause-row g c s e = (
  s,
  e,
  (
    still_same c.without_ports-in-Param.result (g.O.Sink.written c.args.out.now),
    λ code line e1 e2 e3 e4 e5 e6.
        let eformal : to_z w64 (of_z w64 c.in-Param.formal) ≡ c.in-Param.formal = search rules in
        let ethunk : to_z w64 (of_z w64 c.in-Param.thunk) ≡ c.in-Param.thunk = search rules in
        let eprocedure : to_z w64 (of_z w64 c.in-Param.procedure) ≡ c.in-Param.procedure = search rules in
        c.without_ports-in-Param.ensures.row _ _ _ _ _ _ _ _ _ _ _ _ _
        (for_instr_in _ code c.args.limits.now line _ _ _ _ _ _ _ _ _ _ c.args.instr (i.Param (to_z w64 (of_z w64 c.in-Param.formal)) (to_z w64 (of_z w64 c.in-Param.thunk)) (to_z w64 (of_z w64 c.in-Param.procedure)))
        (c.in-Param.is ∙ ap (λ z. i.Param z c.in-Param.thunk c.in-Param.procedure) (sym eformal) ∙ ap (λ z. i.Param (to_z w64 (of_z w64 c.in-Param.formal)) z c.in-Param.procedure) (sym ethunk)
        ∙ ap (λ z. i.Param (to_z w64 (of_z w64 c.in-Param.formal)) (to_z w64 (of_z w64 c.in-Param.thunk)) z) (sym eprocedure))
        (c.pass_parameter-flow.ensures.row code c.args.limits.now line (outside (g.O.Sink.written c.args.out.now) s) e1 e2 e6)),
  ),
)

pub returns-in-Virt-clause-ends : goal.returns-in-Virt-clause-ends
returns-in-Virt-clause-ends g c = flow_still g.O.Sink.written g.O.Sink.faults c.args.out.now _ c.without_ports-in-Virt.ensures.other

pub returns-in-Virt-clause-read : goal.returns-in-Virt-clause-read
returns-in-Virt-clause-read g c = input_still (g.I.Source.faults c.args.input.now) _ c.without_ports-in-Virt.ensures.read

pub returns-in-Virt-clause-row : goal.returns-in-Virt-clause-row
returns-in-Virt-clause-row g c s e = (
  s,
  e,
  (
    still_same c.without_ports-in-Virt.result (g.O.Sink.written c.args.out.now),
    λ code line e1 e2 e3 e4 e5 e6.
        let l = c.args.limits.now in
        let enumber : to_z w64 (of_z w64 c.in-Virt.number) ≡ c.in-Virt.number = search rules in
        c.without_ports-in-Virt.ensures.row _ _ _ _ _ _ _ _ _ _ _ _ _
        (for_instr_in _ code l line _ _ _ _ _ _ _ _ _ _ c.args.instr (i.Virt (to_z w64 (of_z w64 c.in-Virt.number))) (c.in-Virt.is ∙ ap i.Virt (sym enumber))
        (obeys_stacks c.find_match-flow.result l line _ _ _ _ _ _ c.args.top.now.stack.items _ _ _ _ _ _ c.deref_mut-in-Virt.ensures.value (with_items_is c.args.top.now.stack c.find_match-flow.new.stack (search (rules, places)))
        (c.find_match-flow.ensures.row code l line c.args.storage.now c.args.below.now.items (outside (g.O.Sink.written c.args.out.now) s) e1 e4 (sym c.deref-in-Virt.ensures.value)))),
  ),
)

pub returns-in-CallV-clause-ends : goal.returns-in-CallV-clause-ends
returns-in-CallV-clause-ends g c = flow_still g.O.Sink.written g.O.Sink.faults c.args.out.now _ c.without_ports-in-CallV.ensures.other

pub returns-in-CallV-clause-read : goal.returns-in-CallV-clause-read
returns-in-CallV-clause-read g c = input_still (g.I.Source.faults c.args.input.now) _ c.without_ports-in-CallV.ensures.read

pub returns-in-CallV-clause-row : goal.returns-in-CallV-clause-row
returns-in-CallV-clause-row g c s e = (
  s,
  e,
  (
    still_same c.without_ports-in-CallV.result (g.O.Sink.written c.args.out.now),
    λ code line e1 e2 e3 e4 e5 e6.
        let evalues : to_z w64 (of_z w64 c.in-CallV.values) ≡ c.in-CallV.values = search rules in
        c.without_ports-in-CallV.ensures.row _ _ _ _ _ _ _ _ _ _ _ _ _
        (for_instr_in _ code c.args.limits.now line _ _ _ _ _ _ _ _ _ _ c.args.instr (i.CallV (to_z w64 (of_z w64 c.in-CallV.values))) (c.in-CallV.is ∙ ap i.CallV (sym evalues))
        (c.call_value-flow.ensures.row code line (outside (g.O.Sink.written c.args.out.now) s) e1 e2)),
  ),
)

pub returns-in-NextDecl-clause-ends : goal.returns-in-NextDecl-clause-ends
returns-in-NextDecl-clause-ends g c = flow_still g.O.Sink.written g.O.Sink.faults c.args.out.now _ c.without_ports-in-NextDecl.ensures.other

pub returns-in-NextDecl-clause-read : goal.returns-in-NextDecl-clause-read
returns-in-NextDecl-clause-read g c = input_still (g.I.Source.faults c.args.input.now) _ c.without_ports-in-NextDecl.ensures.read

pub returns-in-NextDecl-clause-row : goal.returns-in-NextDecl-clause-row
returns-in-NextDecl-clause-row g c s e = (
  s,
  e,
  (
    still_same c.without_ports-in-NextDecl.result (g.O.Sink.written c.args.out.now),
    λ code line e1 e2 e3 e4 e5 e6.
        let elevel : to_z w64 (of_z w64 c.in-NextDecl.level) ≡ c.in-NextDecl.level = search rules in
        c.without_ports-in-NextDecl.ensures.row _ _ _ _ _ _ _ _ _ _ _ _ _
        (for_instr_in _ code c.args.limits.now line _ _ _ _ _ _ _ _ _ _ c.args.instr (i.NextDecl (to_z w64 (of_z w64 c.in-NextDecl.level))) (c.in-NextDecl.is ∙ ap i.NextDecl (sym elevel)) (c.next_declarations-flow.ensures.row code c.args.limits.now line c.args.storage.now c.args.top.now.stack.items c.args.below.now.items (outside (g.O.Sink.written c.args.out.now) s) e1 e2 e4 (sym c.deref-in-NextDecl.ensures.value))),
  ),
)

pub returns-in-Inner-clause-ends : goal.returns-in-Inner-clause-ends
returns-in-Inner-clause-ends g c = flow_still g.O.Sink.written g.O.Sink.faults c.args.out.now _ c.without_ports-in-Inner.ensures.other

pub returns-in-Inner-clause-read : goal.returns-in-Inner-clause-read
returns-in-Inner-clause-read g c = input_still (g.I.Source.faults c.args.input.now) _ c.without_ports-in-Inner.ensures.read

pub returns-in-Inner-clause-row : goal.returns-in-Inner-clause-row
returns-in-Inner-clause-row g c s e = (
  s,
  e,
  (
    still_same c.without_ports-in-Inner.result (g.O.Sink.written c.args.out.now),
    λ code line e1 e2 e3 e4 e5 e6.
        let elevel : to_z w64 (of_z w64 c.in-Inner.level) ≡ c.in-Inner.level = search rules in
        c.without_ports-in-Inner.ensures.row _ _ _ _ _ _ _ _ _ _ _ _ _
        (for_instr_in _ code c.args.limits.now line _ _ _ _ _ _ _ _ _ _ c.args.instr (i.Inner (to_z w64 (of_z w64 c.in-Inner.level))) (c.in-Inner.is ∙ ap i.Inner (sym elevel)) (c.inner-flow.ensures.row code c.args.limits.now line c.args.storage.now c.args.top.now.stack.items c.args.below.now.items (outside (g.O.Sink.written c.args.out.now) s) e1 e2 e4 (sym c.deref-in-Inner.ensures.value))),
  ),
)

pub returns-in-EndLevel-clause-ends : goal.returns-in-EndLevel-clause-ends
returns-in-EndLevel-clause-ends g c = flow_still g.O.Sink.written g.O.Sink.faults c.args.out.now _ c.without_ports-in-EndLevel.ensures.other

pub returns-in-EndLevel-clause-read : goal.returns-in-EndLevel-clause-read
returns-in-EndLevel-clause-read g c = input_still (g.I.Source.faults c.args.input.now) _ c.without_ports-in-EndLevel.ensures.read

pub returns-in-EndLevel-clause-row : goal.returns-in-EndLevel-clause-row
returns-in-EndLevel-clause-row g c s e = (
  s,
  e,
  (
    still_same c.without_ports-in-EndLevel.result (g.O.Sink.written c.args.out.now),
    λ code line e1 e2 e3 e4 e5 e6.
        let elevel : to_z w64 (of_z w64 c.in-EndLevel.level) ≡ c.in-EndLevel.level = search rules in
        c.without_ports-in-EndLevel.ensures.row _ _ _ _ _ _ _ _ _ _ _ _ _
        (for_instr_in _ code c.args.limits.now line _ _ _ _ _ _ _ _ _ _ c.args.instr (i.EndLevel (to_z w64 (of_z w64 c.in-EndLevel.level))) (c.in-EndLevel.is ∙ ap i.EndLevel (sym elevel)) (c.end_level-flow.ensures.row code line (outside (g.O.Sink.written c.args.out.now) s) e1 e2 e4)),
  ),
)

pub returns-in-New-clause-ends : goal.returns-in-New-clause-ends
returns-in-New-clause-ends g c = flow_still g.O.Sink.written g.O.Sink.faults c.args.out.now _ c.without_ports-in-New.ensures.other

pub returns-in-New-clause-read : goal.returns-in-New-clause-read
returns-in-New-clause-read g c = input_still (g.I.Source.faults c.args.input.now) _ c.without_ports-in-New.ensures.read

pub returns-in-New-clause-row : goal.returns-in-New-clause-row
returns-in-New-clause-row g c s e = (
  s,
  e,
  (
    still_same c.without_ports-in-New.result (g.O.Sink.written c.args.out.now),
    λ code line e1 e2 e3 e4 e5 e6.
        let eclass : to_z w64 (of_z w64 c.in-New.class) ≡ c.in-New.class = search rules in
        let evalues : to_z w64 (of_z w64 c.in-New.values) ≡ c.in-New.values = search rules in
        c.without_ports-in-New.ensures.row _ _ _ _ _ _ _ _ _ _ _ _ _
        (for_instr_in _ code c.args.limits.now line _ _ _ _ _ _ _ _ _ _ c.args.instr (i.New (to_z w64 (of_z w64 c.in-New.class)) (to_z w64 (of_z w64 c.in-New.values)))
        (c.in-New.is ∙ ap (λ z. i.New z c.in-New.values) (sym eclass) ∙ ap (λ z. i.New (to_z w64 (of_z w64 c.in-New.class)) z) (sym evalues))
        (c.generate-flow.ensures.row code line (outside (g.O.Sink.written c.args.out.now) s) e1 e2 e4)),
  ),
)

pub returns-in-Pref-clause-ends : goal.returns-in-Pref-clause-ends
returns-in-Pref-clause-ends g c = flow_still g.O.Sink.written g.O.Sink.faults c.args.out.now _ c.without_ports-in-Pref.ensures.other

pub returns-in-Pref-clause-read : goal.returns-in-Pref-clause-read
returns-in-Pref-clause-read g c = input_still (g.I.Source.faults c.args.input.now) _ c.without_ports-in-Pref.ensures.read

pub returns-in-Pref-clause-row : goal.returns-in-Pref-clause-row
returns-in-Pref-clause-row g c s e = (
  s,
  e,
  (
    still_same c.without_ports-in-Pref.result (g.O.Sink.written c.args.out.now),
    λ code line e1 e2 e3 e4 e5 e6.
        let eblock : to_z w64 (of_z w64 c.in-Pref.block) ≡ c.in-Pref.block = search rules in
        let evalues : to_z w64 (of_z w64 c.in-Pref.values) ≡ c.in-Pref.values = search rules in
        c.without_ports-in-Pref.ensures.row _ _ _ _ _ _ _ _ _ _ _ _ _
        (for_instr_in _ code c.args.limits.now line _ _ _ _ _ _ _ _ _ _ c.args.instr (i.Pref (to_z w64 (of_z w64 c.in-Pref.block)) (to_z w64 (of_z w64 c.in-Pref.values)))
        (c.in-Pref.is ∙ ap (λ z. i.Pref z c.in-Pref.values) (sym eblock) ∙ ap (λ z. i.Pref (to_z w64 (of_z w64 c.in-Pref.block)) z) (sym evalues))
        (c.enter_prefixed-flow.ensures.row code line (outside (g.O.Sink.written c.args.out.now) s) e1 e2 e4)),
  ),
)
