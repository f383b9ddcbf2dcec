use Rattle.sim_print.specs.Laid.{OwesBytes}
use Rattle.sim_print.specs.Spelling.{in_text}
use Rattle.sim_print.proofs.constants.push_all_in_text.Given as goal

abbrev pub invariant-loop-byte : goal.invariant-loop-byte
invariant-loop-byte l = OwesBytes in_text l.fn.text.items l.bytes l.text.items l.byte-index
