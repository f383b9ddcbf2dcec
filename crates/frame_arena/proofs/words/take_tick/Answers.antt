use Rattle.frame_arena.proofs.Budgets.{no_tick_left, tick_left}
use Rattle.frame_arena.proofs.words.take_tick.Goals as goal

pub returns-then-ticks-limit-clause-row : goal.returns-then-ticks-limit-clause-row
returns-then-ticks-limit-clause-row c l o go limit ticks = no_tick_left l o go c.args.limit c.args.ticks limit ticks c.if-ticks-limit.true

pub returns-clause-row : goal.returns-clause-row
returns-clause-row c l o go limit ticks = tick_left l o go c.args.limit c.args.ticks limit ticks c.if-ticks-limit.false
