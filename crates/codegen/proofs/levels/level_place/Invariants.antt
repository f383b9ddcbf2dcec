use Rattle.std.proofs.Common.{◌≡◌, ◌+◌, ◌-◌, length}
use Rattle.sim_scope.specs.Source.{source_of}
use Rattle.sim_meaning.specs.Levels.{levels_from, levels_of}
use Rattle.codegen.proofs.levels.level_place.Given as goal

abbrev pub invariant-loop-step : goal.invariant-loop-step
invariant-loop-step l = length (levels_of (source_of l.bound) l.text) ≡ l.place + length (levels_from l.bound.scopes (length l.bound.scopes.blocks - l.step) l.level)
