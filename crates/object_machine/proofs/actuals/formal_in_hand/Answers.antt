use Rattle.std.proofs.Common.{◌≡◌, ◌-◌, ap, sym, arith, ◌∙◌}
use Rattle.std.specs.Prelude.{Some, None, slice_get}
use Rattle.sim_code.specs.declared.code.BlockKind.TheVariants as block
use Rattle.sim_code.specs.Code.{BlockOf}
use Rattle.sim_code.specs.Machine.{same_kind}
use Rattle.frame_arena.specs.Slots.{value_of}
use Rattle.frame_arena.specs.Stacks.{slot_at, values_of}
use Rattle.object_machine.proofs.Formals.{formal_there, no_block_there, no_procedure_there, no_value_there, other_kind_there, value_below, value_past}
use Rattle.object_machine.proofs.Jumps.{found_at, none_at}
use Rattle.object_machine.proofs.actuals.formal_in_hand.Goals as goal

pub returns-then-number-depth : goal.returns-then-number-depth
returns-then-number-depth c = record {
  row = λ code eb. no_value_there code c.args.number (values_of c.args.depth c.args.stack.now) (value_past c.args.depth c.args.number c.args.stack.now c.if-number-depth.true c.requires.fits);
}

pub returns-in_default : goal.returns-in_default
returns-in_default c = record {
  row = λ code eb.
      let n = c.args.number in
      let d = c.args.depth in
      let stack = c.args.stack.now in
      let vs = values_of d stack in
      let v = value_of (slot_at stack (d - 1 - n)) in
      let there = value_below d n stack (let h = c.if-number-depth.false in omega (arith, h)) c.requires.fits in
      no_procedure_there code n vs v there c.in_default.ensures.is;
}

pub returns-in_default-get : goal.returns-in_default-get
returns-in_default-get c = record {
  row = λ code eb.
      let n = c.args.number in
      let d = c.args.depth in
      let stack = c.args.stack.now in
      let vs = values_of d stack in
      let v = value_of (slot_at stack (d - 1 - n)) in
      let there = value_below d n stack (let h = c.if-number-depth.false in omega (arith, h)) c.requires.fits in
      let q = c.in-Some.procedure in
      let k = q.block in
      let is = c.in-Some.ensures.is in
      no_block_there code n vs v there (k, q.parent.stamp) is (ap (λ w. slice_get w k) eb ∙ none_at c.args.blocks.now k c.in_default-get.ensures.lookup.3);
}

pub returns-then-not-same_kind : goal.returns-then-not-same_kind
returns-then-not-same_kind c = record {
  row = λ code eb.
      let n = c.args.number in
      let d = c.args.depth in
      let stack = c.args.stack.now in
      let vs = values_of d stack in
      let v = value_of (slot_at stack (d - 1 - n)) in
      let there = value_below d n stack (let h = c.if-number-depth.false in omega (arith, h)) c.requires.fits in
      let q = c.in-Some.procedure in
      let k = q.block in
      let is = c.in-Some.ensures.is in
      let b = c.in-Some-get.block.now in
      let found : slice_get code.blocks k ≡ Some b = ap (λ w. slice_get w k) eb ∙ found_at c.args.blocks.now k b c.in-Some-get.ensures.lookup.3.0 c.in-Some-get.ensures.lookup.1 in
      other_kind_there code n vs v there (k, q.parent.stamp) is b found (ap (λ b. same_kind b.kind block.Procedure) (sym c.block.view_is) ∙ sym c.same_kind.ensures ∙ c.if-not-same_kind.true);
}

pub returns-in_default-get-2 : goal.returns-in_default-get-2
returns-in_default-get-2 c = record {
  row = λ code eb.
      let n = c.args.number in
      let d = c.args.depth in
      let stack = c.args.stack.now in
      let vs = values_of d stack in
      let v = value_of (slot_at stack (d - 1 - n)) in
      let there = value_below d n stack (let h = c.if-number-depth.false in omega (arith, h)) c.requires.fits in
      let q = c.in-Some.procedure in
      let k = q.block in
      let is = c.in-Some.ensures.is in
      let b = c.in-Some-get.block.now in
      let found : slice_get code.blocks k ≡ Some b = ap (λ w. slice_get w k) eb ∙ found_at c.args.blocks.now k b c.in-Some-get.ensures.lookup.3.0 c.in-Some-get.ensures.lookup.1 in
      let kind = ap (λ b. same_kind b.kind block.Procedure) (sym c.block.view_is) ∙ sym c.same_kind.ensures ∙ c.if-not-same_kind.false in
      let formals : b.formals ≡ c.block.inside.formals.items = ap {A = BlockOf} (λ r. r.formals) (sym c.block.view_is) in
      formal_there code n vs v there (k, q.parent.stamp) is b found kind None
      (ap (λ w. slice_get w n) (formals ∙ sym c.deref.ensures.value) ∙ none_at c.deref.result.now n c.in_default-get-2.ensures.lookup.3);
}

pub returns : goal.returns
returns c = record {
  row = λ code eb.
      let n = c.args.number in
      let d = c.args.depth in
      let stack = c.args.stack.now in
      let vs = values_of d stack in
      let v = value_of (slot_at stack (d - 1 - n)) in
      let there = value_below d n stack (let h = c.if-number-depth.false in omega (arith, h)) c.requires.fits in
      let q = c.in-Some.procedure in
      let k = q.block in
      let is = c.in-Some.ensures.is in
      let b = c.in-Some-get.block.now in
      let found : slice_get code.blocks k ≡ Some b = ap (λ w. slice_get w k) eb ∙ found_at c.args.blocks.now k b c.in-Some-get.ensures.lookup.3.0 c.in-Some-get.ensures.lookup.1 in
      let kind = ap (λ b. same_kind b.kind block.Procedure) (sym c.block.view_is) ∙ sym c.same_kind.ensures ∙ c.if-not-same_kind.false in
      let formals : b.formals ≡ c.block.inside.formals.items = ap {A = BlockOf} (λ r. r.formals) (sym c.block.view_is) in
      let f = c.in-Some-get-2.formal.now in
      formal_there code n vs v there (k, q.parent.stamp) is b found kind (Some f)
      (ap (λ w. slice_get w n) (formals ∙ sym c.deref.ensures.value) ∙ found_at c.deref.result.now n f c.in-Some-get-2.ensures.lookup.3.0 c.in-Some-get-2.ensures.lookup.1);
}
