use Rattle.print_reads.proofs.Programs.{same_tokens}
use Rattle.print_reads.proofs.laws.text_tells_the_tokens.Goals as goal

pub returns : goal.returns
returns c = λ p q here there within same. same_tokens (λ source first second a b. c.one_reading.ensures.one source first second a b) p q here there within same
