use Rattle.std.proofs.Common.{◌≡◌, drop}
use Rattle.sim_values.specs.Texts.{after_separators}
use Rattle.text_objects.proofs.item.after_separators.Given as goal

abbrev pub invariant-loop-i : goal.invariant-loop-i
invariant-loop-i l = after_separators (drop l.i l.bytes) ≡ after_separators l.bytes
