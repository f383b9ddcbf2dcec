use Rattle.std.proofs.Common.{refl}
use Rattle.object_machine.proofs.Moving.{leaving_ends, object_left}
use Rattle.object_machine.proofs.transfers.leave_object.Goals as goal

pub returns-in_default : goal.returns-in_default
returns-in_default c = record {
  fits = c.leave_chain-flow.ensures.fits;
  others = c.leave_chain-flow.ensures.others;
  texts = refl;
  image = refl;
  row = λ l line before now o m s attached.
      let p = c.args.storage.now in
      leaving_ends l line p c.args.top.now c.args.below.now.items before now o m s c.args.object attached c.leave_chain-flow.result c.in_default.not-On p c.leave_chain-flow.new.kept.items c.leave_chain-flow.new.top c.leave_chain-flow.new.below.items c.leave_chain-flow.ensures.leaves;
}

pub returns-clause-row : goal.returns-clause-row
returns-clause-row c l line before now o m s attached =
    object_left l line c.args.storage.now c.args.top.now c.args.below.now.items before now o m s c.args.object attached c.keep_chain.new.storage c.leave_chain-flow.new.kept.items c.leave_chain-flow.new.top c.leave_chain-flow.new.below.items c.in-On.ensures.leaves
    (λ work. c.keep_chain.ensures.stands c.args.object l before now o m c.requires.there s.stores work)
