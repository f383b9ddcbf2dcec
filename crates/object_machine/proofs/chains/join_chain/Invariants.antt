use Rattle.std.proofs.Common.{◌≡◌, ◌≤◌, ◌++◌, List, length}
use Rattle.object_machine.specs.declared.machine.Activation as working
use Rattle.object_machine.specs.Standing.{AllFit}
use Rattle.object_machine.specs.Transferring.{operating}
use Rattle.object_machine.proofs.chains.join_chain.Given as goal

abbrev pub invariant-loop-next : goal.invariant-loop-next
invariant-loop-next l = record {
  fits : l.top.registers.depth ≤ length l.top.stack.items;
  others : AllFit l.below.items;
  whole : l.fn.kept.items ++ operating l.fn.top l.fn.below.items ≡ l.kept.items ++ operating l.top l.below.items;
  back : (back : List working.Activation) × (l.fn.kept.items ≡ l.kept.items ++ back);
}

abbrev pub decreases-loop-next : goal.decreases-loop-next
decreases-loop-next l = length l.kept.items
