use Rattle.std.proofs.Common.{◌≡◌, ◌-◌, [], length}
use Rattle.prefix_bind.specs.Classes.{chain_of}
use Rattle.prefix_bind.proofs.classes.chain.Given as goal

abbrev pub invariant-loop-step : goal.invariant-loop-step
invariant-loop-step l = chain_of l.scopes (length l.scopes.blocks) [] l.block ≡ chain_of l.scopes (length l.scopes.blocks - l.step) l.chain.items l.level
