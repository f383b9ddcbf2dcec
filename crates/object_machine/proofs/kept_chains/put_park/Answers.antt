use Rattle.object_machine.proofs.Parks.{parked_elsewhere, parked_here}
use Rattle.object_machine.proofs.kept_chains.put_park.Goals as goal

pub returns-then-place-parks-clause-elsewhere : goal.returns-then-place-parks-clause-elsewhere
returns-then-place-parks-clause-elsewhere c at other = parked_elsewhere c.args.parks.now c.args.place c.args.chain at other

pub returns-then-place-parks-clause-chain : goal.returns-then-place-parks-clause-chain
returns-then-place-parks-clause-chain c there = parked_here c.args.parks.now c.args.place c.args.chain there
