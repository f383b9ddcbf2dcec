use Rattle.generated_program.proofs.Sizes.{fits}
use Rattle.generated_program.proofs.program.generated_program.Goals as goal

pub returns-clause-fits : goal.returns-clause-fits
returns-clause-fits c =
    rw (c.in_ok-extend_from_slice.ensures.items, c.in_ok-put_activations.ensures, c.in_ok-text.ensures.items, c.as_bytes.ensures.value, c.as_bytes-2.ensures.value)
    (fits c.args.processes c.requires)
