use Rattle.std.proofs.Common.{◌≡◌, ◌-◌, length, nat_lt}
use Rattle.prefix_bind.specs.Cells.{most_cells}
use Rattle.prefix_bind.specs.Prefixes.{level_cells, level_cells_of}
use Rattle.prefix_bind.proofs.chains.is_overfull.Given as goal

abbrev pub invariant-loop-step : goal.invariant-loop-step
invariant-loop-step l = nat_lt most_cells (level_cells l.scopes l.block) ≡ nat_lt l.room (level_cells_of l.scopes (length l.scopes.blocks - l.step) l.level)
