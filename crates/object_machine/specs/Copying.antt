-- Parameters that are passed to a procedure in hand.
use Rattle.sim_code.specs.Formals.{ArrayCopied, Copied, NothingCopied, TextCopied}
use Rattle.object_machine.specs.declared.actuals.Copied.{Copied as CopiedBy}
use Rattle.object_machine.specs.declared.actuals.Copied.TheVariants as by

abbrev pub copied_as : CopiedBy → Copied
copied_as by.Nothing = NothingCopied
copied_as by.Text = TextCopied
copied_as by.Array = ArrayCopied
