use Rattle.std.proofs.Common.{refl}
use Rattle.object_machine.specs.Standing.{Leaves, Obeys, activation_of, below_of}
use Rattle.object_machine.proofs.Going.{along}
use Rattle.object_machine.proofs.SimulationRows.{tells_current, tells_main, tells_time}
use Rattle.object_machine.proofs.scheduling.schedule.Goals as goal

pub returns-in-Time-clause-row : goal.returns-in-Time-clause-row
unfolding Obeys
returns-in-Time-clause-row c code l line now blocks classes before o m s =
    let t = c.args.top.now in
    along l line c.args.storage.now c.args.below.now.items before now _ _ _ _ _ (tells_time code line c.args.name o m (activation_of t) (below_of c.args.below.now.items) c.in-Time.is)
    (c.tell_standard.ensures.row l line c.args.below.now.items now before o m s)

pub returns-in-Current-clause-row : goal.returns-in-Current-clause-row
unfolding Obeys
returns-in-Current-clause-row c code l line now blocks classes before o m s =
    let t = c.args.top.now in
    along l line c.args.storage.now c.args.below.now.items before now _ _ _ _ _ (tells_current code line c.args.name o m (activation_of t) (below_of c.args.below.now.items) c.in-Current.is)
    (c.tell_standard-in-Current.ensures.row l line c.args.below.now.items now before o m s)

pub returns-in-Main-clause-row : goal.returns-in-Main-clause-row
unfolding Obeys
returns-in-Main-clause-row c code l line now blocks classes before o m s =
    let t = c.args.top.now in
    along l line c.args.storage.now c.args.below.now.items before now _ _ _ _ _ (tells_main code line c.args.name o m (activation_of t) (below_of c.args.below.now.items) c.in-Main.is)
    (c.tell_standard-in-Main.ensures.row l line c.args.below.now.items now before o m s)

pub returns-in_default : goal.returns-in_default
unfolding Obeys Leaves
returns-in_default c = record {
  fits = c.requires.fits;
  others = c.requires.others;
  texts = refl;
  image = refl;
  row = λ code l line now blocks classes before o m s. tt;
}
