use Rattle.std.proofs.Common.{rules, to_z, of_z, w64, ◌≡◌, ◌∙◌, ap, sym}
use Rattle.std.specs.Prelude.{slice_get}
use Rattle.sim_code.specs.Machine.{number}
use Rattle.object_machine.proofs.Jumps.{no_index, past_end, forward, to_tick, nowhere, found_at, none_at}
use Rattle.object_machine.proofs.control.target.Goals as goal

pub returns-in_default : goal.returns-in_default
returns-in_default c = record {
  row = λ code o go e.
      let ex : to_z w64 (of_z w64 c.args.operand) ≡ c.args.operand = search rules in
      no_index code c.args.pc c.args.operand o go (c.in_default.ensures ∙ ap number ex);
}

pub returns-in_default-get : goal.returns-in_default-get
returns-in_default-get c = record {
  row = λ code o go e.
      let ex : to_z w64 (of_z w64 c.args.operand) ≡ c.args.operand = search rules in
      past_end code c.args.pc c.args.operand o go c.in-Some.to (c.in-Some.ensures ∙ ap number ex) (ap (λ l. slice_get l c.in-Some.to) e ∙ none_at c.args.instrs.now c.in-Some.to c.in_default-get.ensures.lookup.3);
}

pub returns-then-pc-to : goal.returns-then-pc-to
returns-then-pc-to c = record {
  row = λ code o go e.
      let ex : to_z w64 (of_z w64 c.args.operand) ≡ c.args.operand = search rules in
      forward code c.args.pc c.args.operand o go c.in-Some.to c.in-Some-get.there.now (c.in-Some.ensures ∙ ap number ex) (ap (λ l. slice_get l c.in-Some.to) e ∙ found_at c.args.instrs.now c.in-Some.to c.in-Some-get.there.now c.in-Some-get.ensures.lookup.3.0 c.in-Some-get.ensures.lookup.1) c.if-pc-to.true;
}

pub returns-then-is_tick : goal.returns-then-is_tick
returns-then-is_tick c = record {
  row = λ code o go e.
      let ex : to_z w64 (of_z w64 c.args.operand) ≡ c.args.operand = search rules in
      to_tick code c.args.pc c.args.operand o go c.in-Some.to c.in-Some-get.there.now (c.in-Some.ensures ∙ ap number ex) (ap (λ l. slice_get l c.in-Some.to) e ∙ found_at c.args.instrs.now c.in-Some.to c.in-Some-get.there.now c.in-Some-get.ensures.lookup.3.0 c.in-Some-get.ensures.lookup.1) (sym c.is_tick.ensures ∙ c.if-is_tick.true);
}

pub returns : goal.returns
returns c = record {
  row = λ code o go e.
      let ex : to_z w64 (of_z w64 c.args.operand) ≡ c.args.operand = search rules in
      nowhere code c.args.pc c.args.operand o go c.in-Some.to c.in-Some-get.there.now (c.in-Some.ensures ∙ ap number ex) (ap (λ l. slice_get l c.in-Some.to) e ∙ found_at c.args.instrs.now c.in-Some.to c.in-Some-get.there.now c.in-Some-get.ensures.lookup.3.0 c.in-Some-get.ensures.lookup.1) c.if-pc-to.false (sym c.is_tick.ensures ∙ c.if-is_tick.false);
}
