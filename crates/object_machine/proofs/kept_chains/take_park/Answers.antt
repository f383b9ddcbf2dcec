use Rattle.std.proofs.Common.{sym, ap, ◌∙◌}
use Rattle.object_machine.proofs.Parks.{parked_elsewhere, parked_here, parked_index}
use Rattle.object_machine.proofs.kept_chains.take_park.Goals as goal

pub returns-clause-elsewhere : goal.returns-clause-elsewhere
returns-clause-elsewhere c at other = parked_elsewhere c.args.parks.now c.args.place c.replace.new.dest at other

pub returns-clause-empty : goal.returns-clause-empty
returns-clause-empty c there = parked_here c.args.parks.now c.args.place c.replace.new.dest there ∙ ap (λ v. v.items) c.replace.ensures.after ∙ c.new-2.ensures.items

pub returns-clause-chain : goal.returns-clause-chain
returns-clause-chain c there = ap (λ v. v.items) c.replace.ensures.value ∙ sym (parked_index c.args.parks.now c.args.place c.index-parks-place.result there)
