use Rattle.std.proofs.Common.{take}
use Rattle.std.specs.List.{flat_map}
use Rattle.code_file.specs.Writing.{Appends}
use Rattle.code_file.proofs.sections.put_records.Given as goal

abbrev pub invariant-loop-record : goal.invariant-loop-record
invariant-loop-record g l = Appends l.fn.out.items l.out.items (flat_map g.R.Record.fields (take l.record-index l.records))
