use Rattle.command_line.specs.declared.words.Command.TheVariants.{Print}
use Rattle.sim_driver.proofs.Meant.{printed_does, printed_means, printed_part, rejected_does, rejected_means}
use Rattle.sim_driver.proofs.printing.print_source.Goals as goal

pub returns-in-Ok-write_all-clause-known : goal.returns-in-Ok-write_all-clause-known
returns-in-Ok-write_all-clause-known g c l given = printed_means l c.args.source.now given c.in-Ok.text.items c.in-Ok.ensures

pub returns-in-Ok-write_all-clause-does : goal.returns-in-Ok-write_all-clause-does
returns-in-Ok-write_all-clause-does g c l given meaning means =
    printed_does l c.args.source.now given c.in-Ok.text.items _ _ c.in-Ok.ensures (rw c.deref.ensures.value at c.in-Ok-write_all.ensures.whole) meaning means

pub returns-in-Ok-clause-does : goal.returns-in-Ok-clause-does
returns-in-Ok-clause-does g c l given meaning means =
    printed_part l c.args.source.now given c.in-Ok.text.items _ _ c.in-Ok.ensures (c.in-Err.field-0.written, rw c.deref.ensures.value at c.in-Err.ensures.part) meaning means

pub returns-in-Err-Broken-clause-known : goal.returns-in-Err-Broken-clause-known
returns-in-Err-Broken-clause-known g c l given =
    rejected_means Print l c.args.source.now given c.in-Err-Broken.rule c.in-Err-Broken.line (rw c.in-Err-Broken.field-0-is at c.in-Err-Broken.ensures)

pub returns-in-Err-Broken-clause-does : goal.returns-in-Err-Broken-clause-does
returns-in-Err-Broken-clause-does g c l given meaning means =
    rejected_does Print l c.args.source.now given c.in-Err-Broken.rule c.in-Err-Broken.line _ (rw c.in-Err-Broken.field-0-is at c.in-Err-Broken.ensures) meaning means
