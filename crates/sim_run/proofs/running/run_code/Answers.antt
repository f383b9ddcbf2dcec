use Rattle.std.proofs.Common.{refl}
use Rattle.sim_run.proofs.Ran.{broken_by_memory, broken_by_output, code_ran, cut_by_input, not_lost}
use Rattle.sim_run.proofs.running.run_code.Goals as goal

pub returns-in-Normal-clause-ran : goal.returns-in-Normal-clause-ran
returns-in-Normal-clause-ran g c bytes told = code_ran (g.I.Source.faults c.args.input.now) (g.I.Source.faults c.run.new.input) c.args.code.now c.args.limits.now bytes _ _ _ _ refl (c.in-Normal.ensures.ran bytes told)

pub returns-in-RunFault-clause-ran : goal.returns-in-RunFault-clause-ran
returns-in-RunFault-clause-ran g c bytes told = code_ran (g.I.Source.faults c.args.input.now) (g.I.Source.faults c.run.new.input) c.args.code.now c.args.limits.now bytes _ _ _ _ refl (c.in-RunFault.ensures.ran bytes told)

pub returns-in-StorageExhausted-clause-ran : goal.returns-in-StorageExhausted-clause-ran
returns-in-StorageExhausted-clause-ran g c bytes told = code_ran (g.I.Source.faults c.args.input.now) (g.I.Source.faults c.run.new.input) c.args.code.now c.args.limits.now bytes _ _ _ _ refl (c.in-StorageExhausted.ensures.ran bytes told)

pub returns-in-TickLimit-clause-ran : goal.returns-in-TickLimit-clause-ran
returns-in-TickLimit-clause-ran g c bytes told = code_ran (g.I.Source.faults c.args.input.now) (g.I.Source.faults c.run.new.input) c.args.code.now c.args.limits.now bytes _ _ _ _ refl (c.in-TickLimit.ensures.ran bytes told)

pub returns-in-Memory-clause-broken : goal.returns-in-Memory-clause-broken
returns-in-Memory-clause-broken g c bytes told = broken_by_memory (g.I.Source.faults c.args.input.now) (g.I.Source.faults c.run.new.input) c.args.code.now c.args.limits.now bytes _ _ (c.in-Memory.ensures.ran bytes told)

pub returns-in-InputFault-clause-broken : goal.returns-in-InputFault-clause-broken
returns-in-InputFault-clause-broken g c bytes told = cut_by_input (g.I.Source.faults c.args.input.now) (g.I.Source.faults c.run.new.input) c.args.code.now c.args.limits.now bytes _ _ (c.in-InputFault.ensures.ran bytes told)

pub returns-in-WriteFault-clause-broken : goal.returns-in-WriteFault-clause-broken
returns-in-WriteFault-clause-broken g c bytes told = broken_by_output (g.I.Source.faults c.args.input.now) (g.I.Source.faults c.run.new.input) c.args.code.now c.args.limits.now bytes _ _ (c.in-WriteFault.ensures.ran bytes told)

pub returns-in-BadCode-clause-broken : goal.returns-in-BadCode-clause-broken
returns-in-BadCode-clause-broken g c bytes told = absurd (not_lost (g.I.Source.faults c.args.input.now) (g.I.Source.faults c.run.new.input) c.args.code.now c.args.limits.now bytes _ _ _ c.requires (c.in-BadCode.ensures.ran bytes told))
