-- The last round of a whole program.
use Rattle.std.proofs.Common.{◌≡◌, ℕ, ap, ◌∙◌}
use Rattle.sim_tree.specs.declared.program.Program.{Program}
use Rattle.sim_tree.specs.SyntaxOfProgram.{program_syntax}
use Rattle.sim_scope.specs.Found.{Findings, found, unknown}
use Rattle.sim_scope.specs.Runs.{Runs, run}
use Rattle.sim_scope.specs.Statements.{judging}
use Rattle.sim_scope.specs.Tables.{Tables}
use Rattle.sim_scope.specs.Walk.{of_whole, program_events}
use Rattle.sim_scope.proofs.Walks.{run_program}
use Rattle.sim_static.specs.Check.{judged}
use Rattle.sim_static.specs.StatementWalk.{of_program_prefix}

pub rounds : (t : Tables) (n : ℕ) (f m g : Findings) (p : Program) → f ≡ unknown n → Runs found f m (of_program_prefix t p.prefix p.block.token.0) → Runs found m g (of_whole (judging t) p.block) → g ≡ judged n t (program_syntax p)
unfolding judged judging Runs of_program_prefix
rounds t n f m g p from first h =
    run_program found (judging t) f m g p first h ∙ ap (λ z. run found z (program_events (judging t) (program_syntax p))) from
