use Rattle.std.proofs.Common.{sym}
use Rattle.standard_calls.proofs.Readers.{nothing_full, nothing_quiet, nothing_read}
use Rattle.standard_calls.proofs.reading.nothing.Goals as goal

pub returns-then-not-has_value : goal.returns-then-not-has_value
returns-then-not-has_value c = record { read = nothing_quiet c.args.depth c.args.stack.now c.requires.fits c.args.function (sym c.if-not-has_value.ensures) }

pub returns-then-depth-stack : goal.returns-then-depth-stack
returns-then-depth-stack c = record { read = nothing_read c.args.depth c.args.stack.now c.requires.fits c.args.function c.if-depth-stack.true }

pub returns : goal.returns
returns c = record { read = nothing_full c.args.depth c.args.stack.now c.requires.fits c.args.function (sym c.if-not-has_value.ensures) c.if-depth-stack.false }
