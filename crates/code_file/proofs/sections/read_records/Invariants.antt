use Rattle.std.proofs.Common.{◌≡◌, ◌-◌}
use Rattle.code_file.specs.Reading.{records_at}
use Rattle.code_file.proofs.Loop.{with_front}
use Rattle.code_file.proofs.sections.read_records.Given as goal

abbrev pub invariant-loop : goal.invariant-loop
invariant-loop g l = with_front l.records.items (records_at g.R.Record.reading (l.count - l.counter) l.rest) ≡ records_at g.R.Record.reading l.count l.bytes
