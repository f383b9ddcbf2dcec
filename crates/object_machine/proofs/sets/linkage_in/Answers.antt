use Rattle.std.proofs.Common.{subst, sym}
use Rattle.sim_code.specs.Machine.{plain}
use Rattle.frame_arena.specs.Slots.{value_of}
use Rattle.object_machine.specs.Classing.{Refers}
use Rattle.object_machine.specs.SetRows.{Names}
use Rattle.object_machine.proofs.SetRows.{none_named, other_named}
use Rattle.object_machine.proofs.sets.linkage_in.Goals as goal

pub returns-in-Object : goal.returns-in-Object
returns-in-Object c o rises same = subst (λ p. Names c.linkage_of.result o p) (sym (subst (λ q. Refers q (plain (value_of c.args.slot))) c.in-Object.is c.reference_in.ensures.is)) (c.linkage_of.ensures.object o rises same)

pub returns-in-Main : goal.returns-in-Main
returns-in-Main c o rises same = subst (λ p. Names c.linkage_of-in-Main.result o p) (sym (subst (λ q. Refers q (plain (value_of c.args.slot))) c.in-Main.is c.reference_in.ensures.is)) (c.linkage_of-in-Main.ensures.main o rises same)

pub returns-in-IsNone : goal.returns-in-IsNone
returns-in-IsNone c o rises same = none_named o _ (subst (λ q. Refers q (plain (value_of c.args.slot))) c.in-IsNone.is c.reference_in.ensures.is)

pub returns-in-Other : goal.returns-in-Other
returns-in-Other c o rises same = other_named o _ (subst (λ q. Refers q (plain (value_of c.args.slot))) c.in-Other.is c.reference_in.ensures.is)
