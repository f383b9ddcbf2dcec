use Rattle.std.proofs.Common.{◌≡◌, ◌-◌, length}
use Rattle.sim_scope.specs.Source.{source_of}
use Rattle.sim_meaning.specs.Levels.{is_process_text}
use Rattle.codegen.proofs.ProcessLevels.{From}
use Rattle.codegen.proofs.processes.has_process.Given as goal

abbrev pub invariant-loop-step : goal.invariant-loop-step
invariant-loop-step l = is_process_text (source_of l.bound) l.text ≡ From l.bound (length l.bound.scopes.blocks - l.step) l.level
