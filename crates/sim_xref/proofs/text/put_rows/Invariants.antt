use Rattle.std.proofs.Common.{◌≡◌, ◌++◌, take}
use Rattle.std.specs.List.{flat_map}
use Rattle.sim_scope.specs.Source.{source_of}
use Rattle.sim_xref.specs.Text.{row_text}
use Rattle.sim_xref.proofs.text.put_rows.Given as goal

abbrev pub invariant-loop-row : goal.invariant-loop-row
invariant-loop-row l = l.text.items ≡ l.fn.text.items ++ flat_map (row_text (source_of l.bound)) (take l.row-index l.rows)
