use Rattle.std.proofs.Common.{ap, sym, ◌∙◌}
use Rattle.sim_print.specs.Canonical.{canonical_text}
use Rattle.print_reads.proofs.laws.one_text.Goals as goal

pub returns : goal.returns
returns c = λ p q same. c.no_numbers.ensures p ∙ ap canonical_text same ∙ sym (c.no_numbers.ensures q)
