use Rattle.std.proofs.Common.{◌∙◌, ap, sym}
use Rattle.std.specs.Prelude.{slice_get}
use Rattle.sim_code.specs.Machine.{same_kind}
use Rattle.object_machine.proofs.Departures.{no_own, own_is, own_of_other_kind}
use Rattle.object_machine.proofs.Jumps.{found_at, none_at}
use Rattle.object_machine.proofs.leaving.own_block.Goals as goal

pub returns-in_default : goal.returns-in_default
returns-in_default c = record {
  row = λ code e o go. no_own code c.args.kind c.args.number o go (ap (λ v. slice_get v c.args.number) e ∙ none_at c.args.blocks.now c.args.number c.in_default.ensures.lookup.3);
}

pub returns-then-not-same_kind : goal.returns-then-not-same_kind
returns-then-not-same_kind c = record {
  row = λ code e o go.
      let there = ap (λ v. slice_get v c.args.number) e ∙ found_at c.args.blocks.now c.args.number c.in-Some.block.now c.in-Some.ensures.lookup.3.0 c.in-Some.ensures.lookup.1 in
      own_of_other_kind code c.args.kind c.args.number o go c.in-Some.block.now there (ap (λ b. same_kind b.kind c.args.kind) (sym c.block.view_is) ∙ (sym c.same_kind.ensures ∙ c.if-not-same_kind.true));
}

pub returns : goal.returns
returns c = record {
  row = λ code e.
      let there = ap (λ v. slice_get v c.args.number) e ∙ found_at c.args.blocks.now c.args.number c.in-Some.block.now c.in-Some.ensures.lookup.3.0 c.in-Some.ensures.lookup.1 in (
        c.in-Some.block.now,
        ap (λ b. b.cells) (sym c.block.view_is),
        ap (λ b. b.result_type) (sym c.block.view_is),
        λ o go. own_is code c.args.kind c.args.number o go c.in-Some.block.now there (ap (λ b. same_kind b.kind c.args.kind) (sym c.block.view_is) ∙ (sym c.same_kind.ensures ∙ c.if-not-same_kind.false)),
      );
}
